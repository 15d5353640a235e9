-- The lines of assembler code at which the calls, the prints and the constructions with fields of a program begin, and that the
-- assembler's machine comes to them and to each state of the counted machine.
use Rattle.std.specs.Prelude.{◌≡◌, ℕ, true, List}
use Rattle.kk_base.specs.Machines.{state, trace}
use Rattle.kk_syntax.specs.Shapes.{is_among}
use Rattle.kk_source.specs.State.{Environment}
use Rattle.kk_counted.specs.CodePlaces.{is_act, IsActAt}
use Rattle.kk_counted.specs.CountedCodes.{Counted, CountedProgram}
use Rattle.kk_counted.specs.CountedCosts.{roomy_cost}
use Rattle.kk_counted.specs.CountedStates.{CountedJoin, running, counted_first_state}
use Rattle.kk_counted.specs.Keeping.{counted_after}
use Rattle.cell_heap.specs.Pool.{Pool}
use Rattle.rv_isa.specs.AsmCode.{Lines}
use Rattle.rv_isa.specs.AsmMachine.{AsmState, asm_machine, asm_start}
use Rattle.rv_isa.specs.LinePlaces.{AsmIsAt, AsmHasOwnLine}
use Rattle.rv_isa.specs.Primitives.{go}
use Rattle.cell_runtime.specs.World.{World, first_world, primitives}
use Rattle.rv_cells.specs.CountedCells.{Owner, Follows}
use Rattle.rv_cells.specs.Layout.{Layout}
use Rattle.rv_cells.specs.Meaning.{setting_on}
use Rattle.rv_cells.specs.TokenedMeaning.{roomy_outside}

-- Each call, print and construction with fields of a program has lines of its own in the code of its function: one line or more,
-- one for each side of the tests of tokens in front of it, and one for an opening that goes on behind the test of the construction.
-- Each of them is an own line: it stands behind the copies and constants that the form takes. No other such form has one of them.
pub record HaveOwnLines (code : CountedProgram) (functions : List Lines) : Type 0 where
  pub lines : ℕ → List ℕ → List ℕ
  pub some : (f : ℕ) (way : List ℕ) (act : Counted) → IsActAt code f way act → (k : ℕ) × (is_among (lines f way) k ≡ true)
  pub there : (f : ℕ) (way : List ℕ) (k : ℕ) → is_among (lines f way) k ≡ true → AsmHasOwnLine functions f k
  pub apart : (f : ℕ) (way other : List ℕ) (k : ℕ) → is_among (lines f way) k ≡ true → is_among (lines f other) k ≡ true
      → way ≡ other

-- Where the counted machine is at such a form, it is at a place of the program, and the assembler's machine comes to a line of that
-- place, when it has told the same events. There its cells are those of the counted heap.
abbrev pub ComesToItsLines : (layout : Layout) (code : CountedProgram) (room : ℕ) (constants : List (List ℕ))
    (functions : List Lines) → Lines → Pool → (depth first : ℕ) → List ℕ → HaveOwnLines code functions → Type 0
ComesToItsLines layout code room constants functions main pool depth first input own =
    (n : ℕ) (act : Counted) (environment : Environment) (joins : List CountedJoin)
    → (counted_after (roomy_cost room) (setting_on code pool depth) input n).control ≡ running act environment joins
    → is_act act ≡ true
    → (f : ℕ) × ((way : List ℕ) × (IsActAt code f way act × ((k : ℕ) × ((is_among (own.lines f way) k ≡ true)
    × ((m : ℕ) × ((world : World) × (AsmIsAt functions f k world (state
    (asm_machine (primitives (record { first = first; texts = constants }) pool) depth functions) m
    (asm_start main (first_world pool input)))
    × ((trace (asm_machine (primitives (record { first = first; texts = constants }) pool) depth functions) m
    (asm_start main (first_world pool input))
    ≡ trace (roomy_outside room (setting_on code pool depth)) n (counted_first_state (setting_on code pool depth) input))
    × ((address : ℕ → ℕ) × ((owners : ℕ → Owner) × Follows pool layout address owners
    (counted_after (roomy_cost room) (setting_on code pool depth) input n).heap world.cells))))))))))

-- For each state at which the counted machine is at a form, the assembler's machine comes to one that has told the same events and
-- whose cells are those of the counted heap.
abbrev pub FollowsEachState : (layout : Layout) (code : CountedProgram) (room : ℕ) (constants : List (List ℕ))
    (functions : List Lines) → Lines → Pool → (depth first : ℕ) → List ℕ → Type 0
FollowsEachState layout code room constants functions main pool depth first input =
    (n : ℕ) (form : Counted) (environment : Environment) (joins : List CountedJoin)
    → (counted_after (roomy_cost room) (setting_on code pool depth) input n).control ≡ running form environment joins
    → (m : ℕ) × ((s : AsmState World) × ((state
    (asm_machine (primitives (record { first = first; texts = constants }) pool) depth functions) m
    (asm_start main (first_world pool input)) ≡ go s)
    × ((trace (asm_machine (primitives (record { first = first; texts = constants }) pool) depth functions) m
    (asm_start main (first_world pool input))
    ≡ trace (roomy_outside room (setting_on code pool depth)) n (counted_first_state (setting_on code pool depth) input))
    × ((address : ℕ → ℕ) × ((owners : ℕ → Owner) × Follows pool layout address owners
    (counted_after (roomy_cost room) (setting_on code pool depth) input n).heap s.shared.cells)))))
