-- The machine of rotated code follows that of the code.
use Rattle.std.proofs.Common.{◌≡◌, ◌⊎◌, inl, inr, ℕ, List, Some, slice_get, refl, subst}
use Rattle.kk_base.specs.Machines.{trace, state}
use Rattle.kk_base.proofs.Simulations.{simulates_many}
use Rattle.rv_isa.specs.PlacedCode.{PlacedLines}
use Rattle.rv_isa.specs.PlacedMachine.{PlacedState, PlacedTurn, placed_machine, placed_start}
use Rattle.rv_isa.specs.Primitives.{Primitives, go, ended, stuck}
use Rattle.rv_loops.specs.Rotation.{HasOpposites, AreRotated}
use Rattle.rv_loops.specs.Relation.{Spot, IsAtSame, IsInTurn, FramesStand, StandsFor, NeverStuck, Related, IsNotStuck}
use Rattle.rv_loops.proofs.Simulation.{simulates}
use Rattle.rv_loops.proofs.StartStates.{starts}

module _ {H E W : Type 0} (m : Primitives H E W) (opposes : HasOpposites m) (depth : ℕ) (q q' : List PlacedLines)
    (all : AreRotated 0 q q') where
  -- what stands for a state that goes on is such a state too, shares the same, and has frames that stand
  shares_alike : (IsAt : Spot) (s : PlacedState H) (t : PlacedTurn H W) → StandsFor {H = H} {W = W} q q' IsAt (go s) t
      → (u : PlacedState H) × ((t ≡ go u) × ((u.shared ≡ s.shared) × FramesStand q q' IsAt s.frames u.frames))
  shares_alike IsAt s (go t) stands = (t, (refl, (stands.1.1, stands.0)))
  shares_alike IsAt s (ended how last) stands = absurd stands
  shares_alike IsAt s stuck stands = absurd stands

  related_alike : (credit idle : ℕ) (s : PlacedState H) (t : PlacedTurn H W) → Related m depth q q' credit idle (go s) t
      → (u : PlacedState H) × ((t ≡ go u) × ((u.shared ≡ s.shared)
      × (FramesStand q q' IsAtSame s.frames u.frames ⊎ FramesStand q q' IsInTurn s.frames u.frames)))
  related_alike credit idle s t (never, inl (some, stands)) =
      let alike = shares_alike IsAtSame s t stands in
      (alike.0, (alike.1.0, (alike.1.1.0, inl alike.1.1.1)))
  related_alike credit idle s t (never, inr (saved, stands)) =
      let alike = shares_alike IsInTurn s t stands in
      (alike.0, (alike.1.0, (alike.1.1.0, inr alike.1.1.1)))

  -- from the start of the first function, each state is followed by one that shares the same, and whose frames stand for it
  pub follows : (main : PlacedLines) (first : H) → slice_get q 0 ≡ Some main → NeverStuck m depth q (placed_start main first)
      → (main' : PlacedLines) × ((slice_get q' 0 ≡ Some main')
      × ((n : ℕ) (s : PlacedState H) → state (placed_machine m depth q) n (placed_start main first) ≡ go s
      → (count : ℕ) × ((t : PlacedState H) × ((state (placed_machine m depth q') count (placed_start main' first) ≡ go t)
      × ((trace (placed_machine m depth q') count (placed_start main' first)
      ≡ trace (placed_machine m depth q) n (placed_start main first))
      × ((t.shared ≡ s.shared)
      × (FramesStand q q' IsAtSame s.frames t.frames ⊎ FramesStand q q' IsInTurn s.frames t.frames)))))))
  follows main first main_is never =
      let begins = starts m opposes depth q q' all main first main_is never in (
        begins.0,
        (
          begins.1,
          λ n s state_is.
              let many = simulates_many (placed_machine m depth q) (placed_machine m depth q') (Related m depth q q') IsNotStuck 2
              (simulates m opposes depth q q' all) n 0 1 (placed_start main first) (placed_start begins.0 first) begins.2 in
              let there : PlacedTurn H W = state (placed_machine m depth q') many.steps (placed_start begins.0 first) in
              let related : Related m depth q q' many.credit_after many.idle_after (go s) there
              = subst (λ (turn : PlacedTurn H W). Related m depth q q' many.credit_after many.idle_after turn there) state_is
              many.related in
              let alike = related_alike many.credit_after many.idle_after s there related in
              (many.steps, (alike.0, (alike.1.0, (many.events_are, alike.1.1)))),
        ),
      )
