-- From the start of the first function on both machines agree, and the one follows the other.
use Rattle.std.proofs.Common.{◌≡◌, ◌+◌, ◌*◌, ◌⊎◌, inl, ℕ, List, Some, slice_get, refl, subst}
use Rattle.kk_base.specs.Agreements.{Agree}
use Rattle.kk_base.specs.Machines.{trace, state}
use Rattle.kk_base.proofs.Simulations.{simulates_agree, simulates_passing, simulates_many}
use Rattle.rv_isa.specs.AsmCode.{Lines}
use Rattle.rv_isa.specs.AsmMachine.{AsmState, AsmTurn, asm_entered, asm_machine, asm_start}
use Rattle.rv_isa.specs.Frames.{empty}
use Rattle.rv_isa.specs.Primitives.{Primitives, go, ended, stuck}
use Rattle.rv_inline.specs.InLine.{HasInLine}
use Rattle.rv_inline.specs.Relation.{Copies, IsLike, FramesStand, FramesInCall, NeverStuck, Related, IsNotStuck}
use Rattle.rv_inline.proofs.Labels.{callee_both}
use Rattle.rv_inline.proofs.LinePlaces.{first_line}
use Rattle.rv_inline.proofs.Simulation.{simulates}

module _ {H E W : Type 0} (m : Primitives H E W) (copies : Copies m) (depth : ℕ) (q q' : List Lines) (all : HasInLine q q')
    (main : Lines) (shared : H) (main_is : slice_get q 0 ≡ Some main) (never : NeverStuck m depth q (asm_start main shared)) where
  pub starts : (main' : Lines) × (slice_get q' 0 ≡ Some main') × (main'.params ≡ main.params)
      × Related m depth q q' 0 0 (asm_start main shared) (asm_start main' shared)
  starts =
      let there = callee_both q q' 0 main all main_is in
      let base : ℕ = there.1.1.0 in
      let entered : IsLike q q' base (asm_entered 0 main empty) (asm_entered 0 there.0 empty)
      = record {
        old = main;
        new = there.0;
        old_is = main_is;
        new_is = there.1.0;
        is = there.1.1.1;
        whole = refl;
        whole' = refl;
        function = refl;
        cells = λ x less. refl;
        held = refl;
        held_below = tt;
      } in (
        there.0,
        there.1.0,
        there.1.1.1.params,
        (never, (inl ((base, (entered, first_line q base main there.0 there.1.1.1)), tt), refl)),
      )

  pub agrees : (main' : Lines) × (slice_get q' 0 ≡ Some main')
      × Agree (asm_machine m depth q) (asm_machine m depth q') 0 (λ steps. steps * 1 + 0 + 1) (asm_start main shared)
      (asm_start main' shared)
  agrees =
      let begins = starts in (
        begins.0,
        begins.1,
        simulates_agree (asm_machine m depth q) (asm_machine m depth q') (Related m depth q q') IsNotStuck 1
            (simulates m copies depth q q' all) 0 0 (asm_start main shared) (asm_start begins.0 shared) begins.3,
      )

  pub never_stuck : (main' : Lines) × (slice_get q' 0 ≡ Some main') × NeverStuck m depth q' (asm_start main' shared)
  never_stuck =
      let begins = starts in (
        begins.0,
        begins.1,
        simulates_passing (asm_machine m depth q) (asm_machine m depth q') (Related m depth q q') IsNotStuck 1
            (simulates m copies depth q q' all) 0 0 (asm_start main shared) (asm_start begins.0 shared) begins.3,
      )

  -- what stands for a state that goes on is such a state too
  related_alike : (credit idle : ℕ) (s : AsmState H) (t : AsmTurn H W) → Related m depth q q' credit idle (go s) t
      → (u : AsmState H) × ((t ≡ go u) × ((u.shared ≡ s.shared)
      × (FramesStand q q' s.frames u.frames ⊎ FramesInCall q q' s.frames u.frames)))
  related_alike credit idle s (go t) (goes_on, stands) = (t, (refl, (stands.1, stands.0)))
  related_alike credit idle s (ended how last) (goes_on, stands) = absurd stands
  related_alike credit idle s stuck (goes_on, stands) = absurd stands

  pub follows : (main' : Lines) × ((slice_get q' 0 ≡ Some main')
      × ((n : ℕ) (s : AsmState H) → state (asm_machine m depth q) n (asm_start main shared) ≡ go s
      → (count : ℕ) × ((t : AsmState H) × ((state (asm_machine m depth q') count (asm_start main' shared) ≡ go t)
      × ((trace (asm_machine m depth q') count (asm_start main' shared)
      ≡ trace (asm_machine m depth q) n (asm_start main shared))
      × ((t.shared ≡ s.shared)
      × (FramesStand q q' s.frames t.frames ⊎ FramesInCall q q' s.frames t.frames)))))))
  follows =
      let begins = starts in (
        begins.0,
        (
          begins.1,
          λ n s state_is.
              let many = simulates_many (asm_machine m depth q) (asm_machine m depth q') (Related m depth q q') IsNotStuck 1
              (simulates m copies depth q q' all) n 0 0 (asm_start main shared) (asm_start begins.0 shared) begins.3 in
              let there : AsmTurn H W = state (asm_machine m depth q') many.steps (asm_start begins.0 shared) in
              let related : Related m depth q q' many.credit_after many.idle_after (go s) there
              = subst (λ (turn : AsmTurn H W). Related m depth q q' many.credit_after many.idle_after turn there) state_is
              many.related in
              let alike = related_alike many.credit_after many.idle_after s there related in
              (many.steps, (alike.0, (alike.1.0, (many.events_are, alike.1.1)))),
        ),
      )
