-- From the start of the first function on both machines agree.
use Rattle.std.proofs.Common.{◌≡◌, ◌+◌, ◌*◌, inl, ℕ, List, Some, slice_get, refl, arith}
use Rattle.kk_base.specs.Agreements.{Agree}
use Rattle.kk_base.proofs.Simulations.{simulates_agree, simulates_passing}
use Rattle.rv_isa.specs.Frames.{empty}
use Rattle.rv_isa.specs.PlacedCode.{PlacedLines}
use Rattle.rv_isa.specs.PlacedMachine.{placed_entered, placed_machine, placed_start}
use Rattle.rv_isa.specs.Primitives.{Primitives}
use Rattle.rv_loops.specs.Rotation.{HasOpposites, AreRotated}
use Rattle.rv_loops.specs.Relation.{IsLike, NeverStuck, Related, IsNotStuck}
use Rattle.rv_loops.proofs.MachineKnowledge.{empty_knows}
use Rattle.rv_loops.proofs.Places.{callee_both}
use Rattle.rv_loops.proofs.Simulation.{simulates}

module _ {H E W : Type 0} (m : Primitives H E W) (opposes : HasOpposites m) (depth : ℕ) (q q' : List PlacedLines)
    (all : AreRotated 0 q q')
    (main : PlacedLines) (shared : H) (main_is : slice_get q 0 ≡ Some main) (never : NeverStuck m depth q
    (placed_start main shared)) where
  pub starts : (main' : PlacedLines) × (slice_get q' 0 ≡ Some main')
      × Related m depth q q' 0 1 (placed_start main shared) (placed_start main' shared)
  starts =
      let there = callee_both q q' 0 main all main_is in
      let entered : IsLike q q' (placed_entered 0 main) (placed_entered 0 there.0)
      = record {
        there = (main, (main_is, refl));
        there' = (
          there.0,
          (there.1, refl),
        );
        function = refl;
        cells = empty_knows empty;
        held = refl;
        held_cells = tt;
      } in
      (there.0, there.1, (never, inl (omega arith, ((entered, (there.2, tt)), ((λ x word known. known), refl)))))

  pub agrees : (main' : PlacedLines) × (slice_get q' 0 ≡ Some main')
      × Agree (placed_machine m depth q) (placed_machine m depth q') 0 (λ steps. steps * 2 + 1 + 1) (placed_start main shared)
      (placed_start main' shared)
  agrees =
      let begins = starts in (
        begins.0,
        begins.1,
        simulates_agree (placed_machine m depth q) (placed_machine m depth q') (Related m depth q q') IsNotStuck 2
            (simulates m opposes depth q q' all) 0 1 (placed_start main shared) (placed_start begins.0 shared) begins.2,
      )

  pub never_stuck : (main' : PlacedLines) × (slice_get q' 0 ≡ Some main') × NeverStuck m depth q' (placed_start main' shared)
  never_stuck =
      let begins = starts in (
        begins.0,
        begins.1,
        simulates_passing (placed_machine m depth q) (placed_machine m depth q') (Related m depth q q') IsNotStuck 2
            (simulates m opposes depth q q' all) 0 1 (placed_start main shared) (placed_start begins.0 shared) begins.2,
      )
