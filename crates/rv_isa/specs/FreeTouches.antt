-- What the next instruction loads and stores, and that none of it is of a free cell.
use Rattle.std.specs.Prelude.{◌≡◌, ◌⊎◌, ℕ, ◌+◌, ◌*◌, ◌≤◌, ◌<◌, List, Some, All}
use Rattle.rv_isa.specs.declared.act.Act.{Act}
use Rattle.rv_isa.specs.declared.act.Act.TheVariants.{Load, Store, Call}
use Rattle.rv_isa.specs.Numbers.{cell_size}
use Rattle.rv_isa.specs.declared.instr.Instr.{Instr}
use Rattle.rv_isa.specs.Bytes.{Apart, number_at}
use Rattle.rv_isa.specs.Execution.{effect_at}
use Rattle.rv_isa.specs.FreeCells.{free_list}
use Rattle.rv_isa.specs.Processor.{Processor, going, Progress}
use Rattle.rv_isa.specs.Read.{read}

-- An act loads and stores no byte of these cells. A call of the environment is no such act, since it may load and store what its
-- registers tell.
abbrev pub Avoids : List ℕ → Act → Type 0
Avoids cells (Load at count signed) = All (λ cell. Apart at count cell cell_size) cells
Avoids cells (Store at count value) = All (λ cell. Apart at count cell cell_size) cells
Avoids cells Call = ⊥
Avoids cells _ = Unit {0}

-- the instruction that is executed next loads and stores no byte of a free cell, of which at most so many are listed
abbrev pub AvoidsFreeCells : ℕ → Processor → Type 0
AvoidsFreeCells cells s = (i : Instr) → read (number_at s.memory s.pc 4) ≡ Some i → Avoids (free_list cells s) (effect_at s i).act

-- while a run goes on outside of so many words from an address on, it touches no free cell
abbrev pub TouchesNoFreeCell : ℕ → ℕ → ℕ → Progress → Type 0
TouchesNoFreeCell text words cells progress =
    progress.ending ≡ going → (progress.processor.pc < text) ⊎ (text + 4 * words ≤ progress.processor.pc)
    → AvoidsFreeCells cells progress.processor
