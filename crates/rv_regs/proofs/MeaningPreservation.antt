-- What each valid placed form keeps of its assembler form, however many moves stand in it.
use Rattle.std.proofs.Common.{◌≡◌, ◌≢◌, ◌+◌, ◌*◌, ℕ, List, [], Some, slice_get, ◌∙◌, subst, arith}
use Rattle.kk_base.specs.Machines.{Machine, trace, state}
use Rattle.kk_base.specs.Simulations.{Simulates}
use Rattle.kk_base.specs.Agreements.{Agree}
use Rattle.kk_base.proofs.Simulations.{simulates_many, simulates_agree, simulates_passing}
use Rattle.rv_isa.specs.AsmCode.{Lines}
use Rattle.rv_isa.specs.PlacedCode.{PlacedLines}
use Rattle.rv_isa.specs.Primitives.{Primitives, stuck}
use Rattle.rv_isa.specs.Costs.{move_instructions}
use Rattle.rv_isa.specs.AsmMachine.{AsmTurn, asm_machine, asm_start}
use Rattle.rv_isa.specs.PlacedMachine.{PlacedTurn, placed_machine, placed_start}
use Rattle.rv_regs.specs.Conditions.{ArePlacings}
use Rattle.rv_regs.specs.Relation.{StandsFor, NeverStuck, AllMovesWithin, AllFewMoves, most_extra, asm_machine_with, Related, IsNotStuck}
use Rattle.rv_regs.proofs.ExtraMoves.{all_within, same_state, same_trace, simulates_as_light}
use Rattle.rv_regs.proofs.Simulation.{simulates_within, starts_within}

module _ {H E W : Type 0} (m : Primitives H E W) (depth : ℕ) (asm : List Lines) (placed : List PlacedLines)
    (all : ArePlacings asm placed) where
  abbrev upper : Machine (AsmTurn H W) E W
  upper = asm_machine m depth asm

  -- the same machine, of which each step weighs the extra moves besides
  abbrev heavy : Machine (AsmTurn H W) E W
  heavy = asm_machine_with (most_extra placed) m depth asm

  abbrev lower : Machine (PlacedTurn H W) E W
  lower = placed_machine m depth placed

  abbrev Kept : ℕ → ℕ → AsmTurn H W → PlacedTurn H W → Type 0
  Kept = Related (most_extra placed) m depth asm

  -- the code with places has as many extra moves as it has
  within : AllMovesWithin (most_extra placed) placed
  within = all_within (most_extra placed) placed (omega arith)

  pub simulates : Simulates heavy lower Kept IsNotStuck 1
  simulates = simulates_within m depth asm placed all (most_extra placed) within

  pub starts : (n : ℕ) (main : Lines) (shared : H) → slice_get asm n ≡ Some main → main.params ≡ []
      → NeverStuck m depth asm (asm_start main shared)
      → (placed_main : PlacedLines) × (slice_get placed n ≡ Some placed_main)
      × Kept 0 0 (asm_start main shared) (placed_start placed_main shared)
  starts n main shared e none never =
      starts_within m depth asm placed all (most_extra placed) n main shared within e none never

  pub agrees : (n : ℕ) (main : Lines) (shared : H) → slice_get asm n ≡ Some main → main.params ≡ []
      → NeverStuck m depth asm (asm_start main shared)
      → (placed_main : PlacedLines) × (slice_get placed n ≡ Some placed_main)
      × Agree heavy lower 0 (λ steps. steps * 1 + 0 + 1) (asm_start main shared) (placed_start placed_main shared)
  agrees n main shared e none never =
      let there = starts n main shared e none never in (
        there.0,
        there.1,
        simulates_agree heavy lower Kept IsNotStuck 1 simulates 0 0 (asm_start main shared) (placed_start there.0 shared) there.2,
      )

  -- code with few moves weighs no more than the code that it was made of
  pub agrees_exactly : (n : ℕ) (main : Lines) (shared : H) → AllFewMoves placed → slice_get asm n ≡ Some main
      → main.params ≡ [] → NeverStuck m depth asm (asm_start main shared)
      → (placed_main : PlacedLines) × (slice_get placed n ≡ Some placed_main)
      × Agree upper lower 0 (λ steps. steps * 1 + 0 + 1) (asm_start main shared) (placed_start placed_main shared)
  agrees_exactly n main shared few e none never =
      let there = starts_within m depth asm placed all 0 n main shared few e none never in
      let light = simulates_as_light upper lower (Related 0 m depth asm) IsNotStuck 1
      (simulates_within m depth asm placed all 0 few) in (
        there.0,
        there.1,
        simulates_agree upper lower (Related 0 m depth asm) IsNotStuck 1 light 0 0 (asm_start main shared)
            (placed_start there.0 shared) there.2,
      )

  -- each state of the placed form's machine can go on, or has ended
  pub never_stuck : (n : ℕ) (main : Lines) (shared : H) → slice_get asm n ≡ Some main → main.params ≡ []
      → NeverStuck m depth asm (asm_start main shared)
      → (placed_main : PlacedLines) × (slice_get placed n ≡ Some placed_main)
      × ((steps : ℕ) → state lower steps (placed_start placed_main shared) ≢ stuck)
  never_stuck n main shared e none never =
      let there = starts n main shared e none never in (
        there.0,
        there.1,
        simulates_passing heavy lower Kept IsNotStuck 1 simulates 0 0 (asm_start main shared) (placed_start there.0 shared) there.2,
      )

  -- for each state of the assembler form's machine it comes to one that stands for it, with the same events before
  pub reaches_each : (n : ℕ) (main : Lines) (shared : H) → slice_get asm n ≡ Some main → main.params ≡ []
      → NeverStuck m depth asm (asm_start main shared)
      → (placed_main : PlacedLines) × (slice_get placed n ≡ Some placed_main)
      × ((k : ℕ) → (count : ℕ)
      × ((trace lower count (placed_start placed_main shared) ≡ trace upper k (asm_start main shared))
      × StandsFor (state upper k (asm_start main shared)) (state lower count (placed_start placed_main shared))))
  reaches_each n main shared e none never =
      let there = starts n main shared e none never in
      (there.0, there.1, λ k. from (asm_start main shared) (placed_start there.0 shared) there.2 k)
    where
      from : (s : AsmTurn H W) (t : PlacedTurn H W) → Kept 0 0 s t
          → (k : ℕ) → (count : ℕ) × ((trace lower count t ≡ trace upper k s) × StandsFor (state upper k s) (state lower count t))
      from s t related k =
          let many = simulates_many heavy lower Kept IsNotStuck 1 simulates k 0 0 s t related in
          let more : ℕ = most_extra placed * move_instructions in
          let there : PlacedTurn H W = state lower many.steps t in (
            many.steps,
            (
              many.events_are ∙ same_trace more upper k s,
              subst (λ (turn : AsmTurn H W). StandsFor turn there) (same_state more upper k s) many.related.1.0,
            ),
          )
