-- The assembler lines of a program of two functions with tokens, by hand: one adds 1 to each number of a list, in the cells that the
-- list has where they are its own; `main` makes a list of two cells and calls it.
use Rattle.std.proofs.Common.{Option, ◌≡◌, ℕ, zero, suc, ◌^◌, ◌-◌, ◌<◌, pos, Bool, true, false, List, [], ◌∷◌, ◌++◌, Some, None}
use Rattle.std.proofs.Common.{refl, subst, lit<, lit≤, arith}
use Rattle.std.specs.Prelude.{slice_index_or}
use Rattle.cell_heap.specs.Pool.{Pool}
use Rattle.cell_heap.specs.Blocks.{Block, no_block, unused}
use Rattle.rv_isa.specs.Primitives.{go, ended, stuck}
use Rattle.kk_base.specs.Machines.{Machine, state, ending_after}
use Rattle.kk_base.specs.Trace.{Event}
use Rattle.kk_syntax.specs.Shapes.{is_among}
use Rattle.kk_syntax.specs.declared.program.Form.TheVariants as OfForm
use Rattle.kk_syntax.specs.declared.operator.BinaryOperator.TheVariants.{Add}
use Rattle.kk_core.specs.declared.decisions.Answer.TheVariants.{Constructor}
use Rattle.kk_counted.specs.BareForms.{bare_program}
use Rattle.kk_counted.specs.CountedStates.{CountedSetting, CountedState, counted_first_state}
use Rattle.kk_counted.specs.Marks.{CellMarks}
use Rattle.kk_counted.specs.TokenedCodes.{Tokened, TokenedArms, TokenedFunction}
use Rattle.kk_counted.proofs.Examples.{nil_or_cons}
use Rattle.rv_isa.specs.declared.asm.Action.TheVariants.{Compute, Label, Jump, Branch, Call, Return, Routine as Calls, Unhold}
use Rattle.rv_isa.specs.declared.asm.Condition.TheVariants.{Equal, NotEqual}
use Rattle.rv_isa.specs.declared.asm.Operation.TheVariants as Op
use Rattle.rv_isa.specs.declared.asm.RegisterOperation.TheVariants as Register
use Rattle.rv_isa.specs.declared.asm.ImmediateOperation.TheVariants.{Addi}
use Rattle.rv_isa.specs.declared.immediate.Immediate.{Immediate}
use Rattle.rv_isa.specs.declared.routine.Routine.TheVariants.{Take, Drop}
use Rattle.rv_isa.specs.AsmMachine.{AsmTurn, asm_machine, asm_start}
use Rattle.rv_isa.specs.Processor.{Ending, exited}
use Rattle.cell_runtime.specs.World.{World, first_world, primitives}
use Rattle.rv_isa.specs.AsmCode.{Line, Lines}
use Rattle.rv_lower.specs.Lines.{computes, sets, copies_to, acts}
use Rattle.rv_lower.specs.Lowered.{returns}
use Rattle.rv_cells.specs.Layout.{Layout}
use Rattle.rv_cells.specs.declared.standing.Standing.TheVariants.{Nothing}
use Rattle.rv_cells.specs.CellLines.{hold_line, back_line, SomeWords, is_kept, ConstructLines, FillLines, AllLoads, goes_second, both_ways, TokenUniqueLines}
use Rattle.rv_cells.proofs.Standings.{nothing_kept}
use Rattle.rv_cells.specs.CountedLines.{Setting}
use Rattle.rv_cells.specs.Meaning.{setting_on}
use Rattle.rv_cells.specs.TokenedLines.{OpeningLines, CodeLines, HasSlots, IsFunctionOf, AreFunctionsOf}
use Rattle.rv_cells.specs.TokenedMeaning.{roomy_outside}

-- ---- the program

-- fun inc(xs) { match xs { Nil -> Nil; Cons(x, xx) -> Cons(x + 1, inc(xx)) } }: the token of the cell is held over the call, and
-- the new cell fills it
abbrev inc : TokenedFunction
inc = record {
  parameters = 1;
  body = Tokened.case 0 nil_or_cons
      (TokenedArms.arm (Tokened.give 0)
      (TokenedArms.arm
      (Tokened.if_unique 0 3 (1 ∷ 2 ∷ []) (1 ∷ 2 ∷ []) 0
      (Tokened.compute 3 (OfForm.Number (pos 1)) [] [] (Tokened.compute 4 (OfForm.Binary Add) (1 ∷ 3 ∷ []) []
      (Tokened.hold 0 (Tokened.compute 5 (OfForm.Call 0) (2 ∷ []) [] (Tokened.unhold 0
      (Tokened.fill 6 0 3 4 (5 ∷ []) [] [] (Tokened.give 6))))))))
      TokenedArms.no_arm));
}

-- `main` calls it with a list of two numbers
abbrev calls_inc : Tokened
calls_inc =
    Tokened.compute 5 (OfForm.Call 0) (4 ∷ []) [] (Tokened.drop 5 (Tokened.compute 6 OfForm.Unit [] [] (Tokened.give 6)))

abbrev makes_second : Tokened
makes_second =
    Tokened.compute 3 (OfForm.Number (pos 8)) [] [] (Tokened.compute 4 (OfForm.Construct 3) (3 ∷ 2 ∷ []) [] calls_inc)

abbrev main : TokenedFunction
main = record {
  parameters = 0;
  body = Tokened.compute 0 (OfForm.Construct 2) [] [] (Tokened.compute 1 (OfForm.Number (pos 7)) [] []
      (Tokened.compute 2 (OfForm.Construct 3) (1 ∷ 0 ∷ []) [] makes_second));
}

-- `False`, `True`, `Nil` and `Cons`
abbrev layout : Layout
layout = record {
  tag = λ c. slice_index_or (0 ∷ 1 ∷ 0 ∷ 1 ∷ []) c 0;
  fields = λ c. slice_index_or ([] ∷ [] ∷ [] ∷ (false ∷ true ∷ []) ∷ []) c [];
}

abbrev marks : CellMarks
marks = record {
  parameters = (true ∷ []) ∷ [] ∷ [];
  results = true ∷ false ∷ [];
  types = false ∷ false ∷ true ∷ true ∷ [];
  fields = [] ∷ [] ∷ [] ∷ (false ∷ true ∷ []) ∷ [];
}

abbrev immediate_0 : Immediate
immediate_0 = record { word = 0; in_range = (lit< tt, lit< tt) }

abbrev immediate_4 : Immediate
immediate_4 = record { word = 4; in_range = (lit< tt, lit< tt) }

abbrev immediate_8 : Immediate
immediate_8 = record { word = 8; in_range = (lit< tt, lit< tt) }

abbrev immediate_12 : Immediate
immediate_12 = record { word = 12; in_range = (lit< tt, lit< tt) }

abbrev minus_one : Immediate
minus_one = record { word = 2 ^ 32 - 1; in_range = (lit< tt, lit< tt) }

abbrev loads : Immediate → ℕ → ℕ → Line
loads offset cell into = computes (Op.Lw offset) (cell ∷ []) into

abbrev stores : Immediate → ℕ → ℕ → Line
stores offset cell from = acts (Compute (Op.Sw offset)) (cell ∷ from ∷ [])

-- the stores of a cell of Cons, whose header has tag 1 and says that the second field can hold cells
abbrev stores_cons : ℕ → ℕ → ℕ → ℕ → List Line
stores_cons base x head rest =
    sets 513 base ∷ stores immediate_4 x base ∷ stores immediate_8 x head ∷ stores immediate_12 x rest ∷ sets 1 base
    ∷ stores immediate_0 x base ∷ []

abbrev makes_cons : ℕ → ℕ → ℕ → ℕ → List Line
makes_cons base x head rest = record { action = Calls Take; args = []; into = Some x } ∷ stores_cons base x head rest

-- ---- the function that adds 1: its token is value 7, and its temporaries begin at 8

-- `Nil` has the word 1; the first arm is next
abbrev test_lines : List Line
test_lines = sets 1 8 ∷ acts (Branch NotEqual 1) (0 ∷ 8 ∷ []) ∷ []

abbrev tests_lines : List Line
tests_lines = acts (Label 2) [] ∷ test_lines

-- the token is the cell where it has no other reference, and else it is null
abbrev opening_lines : List Line
opening_lines =
    loads immediate_0 0 8 ∷ sets 1 9 ∷ acts (Branch Equal 5) (8 ∷ 9 ∷ [])
    ∷ loads immediate_8 0 1 ∷ loads immediate_12 0 2
    ∷ loads immediate_0 0 8 ∷ computes (Op.Immediate Addi minus_one) (8 ∷ []) 8 ∷ stores immediate_0 0 8 ∷ sets 0 7
    ∷ acts (Compute Op.Dup) (2 ∷ []) ∷ acts (Jump 6) []
    ∷ acts (Label 5) [] ∷ loads immediate_8 0 1 ∷ loads immediate_12 0 2 ∷ copies_to 0 7 ∷ acts (Label 6) [] ∷ []

-- the new cell is that of the token, or one that is taken where the token is null
abbrev filling_lines : List Line
filling_lines =
    copies_to 7 6 ∷ acts (Branch NotEqual 7) (6 ∷ []) ∷ record { action = Calls Take; args = []; into = Some 6 }
    ∷ acts (Label 7) [] ∷ stores_cons 8 6 4 5

abbrev fills_and_returns : List Line
fills_and_returns = filling_lines ++ acts Return (6 ∷ []) ∷ []

-- the token is held over the call
abbrev calls_line : Line
calls_line = record { action = Call 0; args = 8 ∷ []; into = Some 5 }

abbrev calls_lines : List Line
calls_lines = copies_to 2 8 ∷ calls_line ∷ back_line 7 ∷ fills_and_returns

abbrev adds_lines : List Line
adds_lines = sets 1 3 ∷ computes (Op.Register Register.Add) (1 ∷ 3 ∷ []) 4 ∷ hold_line 7 ∷ calls_lines

abbrev inc_lines : Lines
inc_lines = record {
  params = 0 ∷ [];
  code = tests_lines ++ (acts (Label 0) [] ∷ acts Return (0 ∷ []) ∷ acts (Label 1) [] ∷ (opening_lines ++ adds_lines));
}

abbrev setting : (ℕ → Bool) → ℕ → Setting
setting holds base = record {
  layout = layout;
  holds = holds;
  base = base;
  texts = record { literals = []; constants = [] };
  standing = Nothing;
}

abbrev inc_holds : ℕ → Bool
inc_holds x = is_among (0 ∷ 2 ∷ 5 ∷ 6 ∷ []) x

-- a construction of a Cons
makes : (base x head rest : ℕ) → ConstructLines base x 513 (head ∷ rest ∷ []) (makes_cons base x head rest)
makes base x head rest = (
  stores immediate_4 x base,
  stores immediate_8 x head ∷ stores immediate_12 x rest ∷ [],
  stores immediate_0 x base,
  (immediate_4, refl, refl),
  (
    stores immediate_8 x head,
    stores immediate_12 x rest ∷ [],
    (immediate_8, refl, refl),
    (stores immediate_12 x rest, [], (immediate_12, refl, refl), refl, refl),
    refl,
  ),
  (immediate_0, refl, refl),
  refl,
)

abbrev two_loads : List Line
two_loads = loads immediate_8 0 1 ∷ loads immediate_12 0 2 ∷ []

two_loads_are : AllLoads 0 2 (1 ∷ 2 ∷ []) two_loads
two_loads_are = (
  loads immediate_8 0 1,
  loads immediate_12 0 2 ∷ [],
  (immediate_8, refl, refl),
  (loads immediate_12 0 2, [], (immediate_12, refl, refl), refl, refl),
  refl,
)

-- an opening of a Cons
opened_by : (into : Option ℕ) → TokenUniqueLines 8 inc_holds 5 6 7 0 (1 ∷ 2 ∷ []) (1 ∷ 2 ∷ []) 7 into
    (loads immediate_0 0 8 ∷ sets 1 9 ∷ acts (Branch (goes_second into) 5) (8 ∷ 9 ∷ [])
    ∷ both_ways into 5 6 7 7 (loads immediate_8 0 1 ∷ loads immediate_12 0 2 ∷ copies_to 0 7 ∷ [])
    (loads immediate_8 0 1 ∷ loads immediate_12 0 2 ∷ loads immediate_0 0 8
    ∷ computes (Op.Immediate Addi minus_one) (8 ∷ []) 8 ∷ stores immediate_0 0 8 ∷ sets 0 7 ∷ acts (Compute Op.Dup) (2 ∷ []) ∷ []))
opened_by into = (
  loads immediate_0 0 8,
  two_loads,
  loads immediate_0 0 8,
  minus_one,
  stores immediate_0 0 8,
  (immediate_0, refl, refl),
  two_loads_are,
  (immediate_0, refl, refl),
  refl,
  (immediate_0, refl, refl),
  refl,
)

opens : TokenUniqueLines 8 inc_holds 5 6 7 0 (1 ∷ 2 ∷ []) (1 ∷ 2 ∷ []) 7 None opening_lines
opens = opened_by None

-- in front of a construction in the cell of its token an opening goes on behind that one's test
enters : OpeningLines (setting inc_holds 8) 7 5 0 (1 ∷ 2 ∷ []) (1 ∷ 2 ∷ []) 0 (Tokened.fill 6 0 3 1 (2 ∷ []) [] [] (Tokened.give 6))
    (loads immediate_0 0 8 ∷ sets 1 9 ∷ acts (Branch NotEqual 5) (8 ∷ 9 ∷ [])
    ∷ loads immediate_8 0 1 ∷ loads immediate_12 0 2 ∷ copies_to 0 7 ∷ copies_to 7 6 ∷ acts (Jump 7) []
    ∷ acts (Label 5) [] ∷ loads immediate_8 0 1 ∷ loads immediate_12 0 2
    ∷ loads immediate_0 0 8 ∷ computes (Op.Immediate Addi minus_one) (8 ∷ []) 8 ∷ stores immediate_0 0 8 ∷ sets 0 7
    ∷ acts (Compute Op.Dup) (2 ∷ []) ∷ acts (Label 6) [] ∷ [])
enters = (Some 6, (refl, refl), opened_by (Some 6))

-- all words of a Cons, and those but its second field
stores_all : (base x head rest : ℕ)
    → SomeWords true true (is_kept false []) base x 513 (head ∷ rest ∷ []) (stores_cons base x head rest)
stores_all base x head rest = (
  sets 513 base ∷ stores immediate_4 x base ∷ [],
  stores immediate_8 x head ∷ stores immediate_12 x rest ∷ [],
  sets 1 base ∷ stores immediate_0 x base ∷ [],
  (stores immediate_4 x base, (immediate_4, refl, refl), refl),
  (
    stores immediate_8 x head ∷ [],
    stores immediate_12 x rest ∷ [],
    (stores immediate_8 x head, (immediate_8, refl, refl), refl),
    (
      stores immediate_12 x rest ∷ [],
      [],
      (stores immediate_12 x rest, (immediate_12, refl, refl), refl),
      refl,
      refl,
    ),
    refl,
  ),
  (stores immediate_0 x base, (immediate_0, refl, refl), refl),
  refl,
)

none_kept : (base x head rest : ℕ) → SomeWords false false (is_kept true []) base x 513 (head ∷ rest ∷ []) []
none_kept base x head rest = ([], [], [], refl, ([], [], refl, ([], [], refl, refl, refl), refl), refl, refl)

fills : FillLines 8 6 7 [] 7 513 (4 ∷ 5 ∷ []) [] false false filling_lines
fills = ([], stores_cons 8 6 4 5, none_kept 8 6 4 5, stores_all 8 6 4 5, refl)

-- the second field, the header and the count are stored where the token is null
fills_rest : FillLines 8 6 7 [] 7 513 (4 ∷ 5 ∷ []) (1 ∷ []) true true
    (copies_to 7 6 ∷ acts (Branch NotEqual 7) (6 ∷ []) ∷ record { action = Calls Take; args = []; into = Some 6 }
    ∷ sets 513 8 ∷ stores immediate_4 6 8 ∷ stores immediate_12 6 5 ∷ sets 1 8 ∷ stores immediate_0 6 8 ∷ acts (Label 7) []
    ∷ stores immediate_8 6 4 ∷ [])
fills_rest = (
  sets 513 8 ∷ stores immediate_4 6 8 ∷ stores immediate_12 6 5 ∷ sets 1 8 ∷ stores immediate_0 6 8 ∷ [],
  stores immediate_8 6 4 ∷ [],
  (
    sets 513 8 ∷ stores immediate_4 6 8 ∷ [],
    stores immediate_12 6 5 ∷ [],
    sets 1 8 ∷ stores immediate_0 6 8 ∷ [],
    (stores immediate_4 6 8, (immediate_4, refl, refl), refl),
    (
      [],
      stores immediate_12 6 5 ∷ [],
      refl,
      (stores immediate_12 6 5 ∷ [], [], (stores immediate_12 6 5, (immediate_12, refl, refl), refl), refl, refl),
      refl,
    ),
    (stores immediate_0 6 8, (immediate_0, refl, refl), refl),
    refl,
  ),
  (
    [],
    stores immediate_8 6 4 ∷ [],
    [],
    refl,
    (
      stores immediate_8 6 4 ∷ [],
      [],
      (stores immediate_8 6 4, (immediate_8, refl, refl), refl),
      ([], [], refl, refl, refl),
      refl,
    ),
    refl,
    refl,
  ),
  refl,
)

-- the same of a construction around whose request the token of value 4 is held
fills_held : FillLines 8 6 7 (4 ∷ []) 7 513 (1 ∷ 2 ∷ []) [] false false
    (copies_to 7 6 ∷ acts (Branch NotEqual 7) (6 ∷ []) ∷ hold_line 4
    ∷ record { action = Calls Take; args = []; into = Some 6 } ∷ acts Unhold (4 ∷ []) ∷ acts (Label 7) [] ∷ stores_cons 8 6 1 2)
fills_held = ([], stores_cons 8 6 1 2, none_kept 8 6 1 2, stores_all 8 6 1 2, refl)

-- from the call on
calls : CodeLines (setting inc_holds 8) 7 returns 7
    (Tokened.compute 5 (OfForm.Call 0) (2 ∷ []) []
    (Tokened.unhold 0 (Tokened.fill 6 0 3 4 (5 ∷ []) [] [] (Tokened.give 6)))) calls_lines 8
calls = (
  copies_to 2 8 ∷ calls_line ∷ [],
  back_line 7 ∷ fills_and_returns,
  7,
  false,
  (refl, refl),
  (fills_and_returns, (filling_lines, acts Return (6 ∷ []) ∷ [], fills, (refl, refl), refl), refl),
  tt,
  refl,
)

adds : CodeLines (setting inc_holds 8) 7 returns 7
    (Tokened.compute 3 (OfForm.Number (pos 1)) [] [] (Tokened.compute 4 (OfForm.Binary Add) (1 ∷ 3 ∷ []) []
    (Tokened.hold 0 (Tokened.compute 5 (OfForm.Call 0) (2 ∷ []) []
    (Tokened.unhold 0 (Tokened.fill 6 0 3 4 (5 ∷ []) [] [] (Tokened.give 6))))))) adds_lines 8
adds = (
  sets 1 3 ∷ [],
  computes (Op.Register Register.Add) (1 ∷ 3 ∷ []) 4 ∷ hold_line 7 ∷ calls_lines,
  7,
  false,
  ((1, refl, lit< tt, refl), refl),
  (
    computes (Op.Register Register.Add) (1 ∷ 3 ∷ []) 4 ∷ [],
    hold_line 7 ∷ calls_lines,
    7,
    false,
    (refl, refl),
    (calls_lines, calls, refl),
    tt,
    refl,
  ),
  tt,
  refl,
)

inc_code : CodeLines (setting inc_holds 8) 7 returns 0 inc.body inc_lines.code 8
inc_code = (
  tests_lines,
  acts (Label 0) [] ∷ acts Return (0 ∷ []) ∷ acts (Label 1) [] ∷ (opening_lines ++ adds_lines),
  2,
  refl,
  (
    tests_lines,
    [],
    (
      test_lines,
      (
        [],
        test_lines,
        record { found = Constructor 2; next = 1 } ∷ [],
        [],
        Some 2,
        refl,
        (refl, (Some (record { found = Constructor 3; next = 2 }), refl, refl)),
        ([], Some (record { found = Constructor 2; next = 1 }), refl, refl),
        refl,
      ),
      refl,
    ),
    ([], [], refl, ([], [], refl, refl, refl), refl),
    refl,
  ),
  (
    acts Return (0 ∷ []) ∷ [],
    acts (Label 1) [] ∷ (opening_lines ++ adds_lines),
    5,
    (refl, refl),
    (opening_lines ++ adds_lines, [], 8, (opening_lines, adds_lines, (None, tt, opens), adds, refl), (refl, refl), refl),
    refl,
  ),
  refl,
)

inc_slots : HasSlots 1 inc.body
inc_slots = (tt, ((lit< tt, (tt, (tt, (lit< tt, (tt, (lit< tt, (lit< tt, (tt, tt)))))))), tt))

pub inc_lowered : IsFunctionOf layout (record { literals = []; constants = [] }) marks 0 inc inc_lines
inc_lowered = record {
  lowered = record {
    holds = inc_holds;
    variables = 7;
    slots = 1;
    params = refl;
    labels = 8;
    standing = Nothing;
    keeps = nothing_kept inc.body;
    code = inc_code;
  };
  marked = record {
    parameters_marked = (refl, tt);
    body_marked = assumption;
  };
  few = lit≤ tt;
  low = lit≤ tt;
  fewest = λ most below. (let last : 6 < most = below.numbered.1.0.1.1.1.1.1.1.1.0 in omega (arith, last));
  least = lit≤ tt;
  numbered = (tt, ((((lit< tt, (lit< tt, tt)), (refl, (refl, (refl, tt)))), omega arith), tt));
  has = inc_slots;
}

-- ---- `main`

abbrev main_holds : ℕ → Bool
main_holds x = is_among (0 ∷ 2 ∷ 4 ∷ 5 ∷ []) x

abbrev main_end : List Line
main_end = acts (Calls Drop) (5 ∷ []) ∷ sets 1 6 ∷ acts Return (6 ∷ []) ∷ []

abbrev main_call : List Line
main_call = copies_to 4 7 ∷ record { action = Call 0; args = 7 ∷ []; into = Some 5 } ∷ main_end

abbrev main_second : List Line
main_second = sets 8 3 ∷ (makes_cons 7 4 3 2 ++ main_call)

abbrev main_lines : Lines
main_lines = record { params = []; code = sets 1 0 ∷ sets 7 1 ∷ (makes_cons 7 2 1 0 ++ main_second) }

main_calls : CodeLines (setting main_holds 7) 7 returns 0 calls_inc main_call 0
main_calls = (
  copies_to 4 7 ∷ record { action = Call 0; args = 7 ∷ []; into = Some 5 } ∷ [],
  main_end,
  0,
  false,
  (refl, refl),
  (
    sets 1 6 ∷ acts Return (6 ∷ []) ∷ [],
    (sets 1 6 ∷ [], acts Return (6 ∷ []) ∷ [], 0, false, (refl, refl), (refl, refl), tt, refl),
    refl,
  ),
  tt,
  refl,
)

main_makes : CodeLines (setting main_holds 7) 7 returns 0 makes_second main_second 0
main_makes = (
  sets 8 3 ∷ [],
  makes_cons 7 4 3 2 ++ main_call,
  0,
  false,
  ((8, refl, lit< tt, refl), refl),
  (makes_cons 7 4 3 2, main_call, 0, false, (makes 7 4 3 2, refl), main_calls, tt, refl),
  tt,
  refl,
)

main_code : CodeLines (setting main_holds 7) 7 returns 0 main.body main_lines.code 0
main_code = (
  sets 1 0 ∷ [],
  sets 7 1 ∷ (makes_cons 7 2 1 0 ++ main_second),
  0,
  false,
  (refl, refl),
  (
    sets 7 1 ∷ [],
    makes_cons 7 2 1 0 ++ main_second,
    0,
    false,
    ((7, refl, lit< tt, refl), refl),
    (makes_cons 7 2 1 0, main_second, 0, false, (makes 7 2 1 0, refl), main_makes, tt, refl),
    tt,
    refl,
  ),
  tt,
  refl,
)

pub main_lowered : IsFunctionOf layout (record { literals = []; constants = [] }) marks 1 main main_lines
main_lowered = record {
  lowered = record {
    holds = main_holds;
    variables = 7;
    slots = 0;
    params = refl;
    labels = 0;
    standing = Nothing;
    keeps = nothing_kept main.body;
    code = main_code;
  };
  marked = record {
    parameters_marked = tt;
    body_marked = assumption;
  };
  few = lit≤ tt;
  low = lit≤ tt;
  fewest = λ most below. (let last : 6 < most = below.numbered.1.1.1.1.1.1.1.1.1.1.1.1.0 in omega (arith, last));
  least = lit≤ tt;
  numbered = omega arith;
  has = (tt, (tt, (tt, (tt, (tt, (tt, (tt, tt)))))));
}

-- both functions of the program are lowered
pub both_lowered : AreFunctionsOf layout (record { literals = []; constants = [] }) marks (inc ∷ main ∷ [])
    (inc_lines ∷ main_lines ∷ [])
both_lowered zero function is =
    let same : inc ≡ function = cc is in (
      inc_lines,
      refl,
      subst (λ f. IsFunctionOf layout (record { literals = []; constants = [] }) marks 0 f inc_lines) same
          inc_lowered,
    )
both_lowered (suc zero) function is =
    let same : main ≡ function = cc is in (
      main_lines,
      refl,
      subst (λ f. IsFunctionOf layout (record { literals = []; constants = [] }) marks 1 f main_lines) same
          main_lowered,
    )
both_lowered (suc (suc f)) function is = cc is

-- ---- its run

-- the assembler's machine in a pool of so many cells, with a stack of so many frames
abbrev pool : ℕ → Pool
pool cells = record { first = 32; cells = cells }

abbrev lower : ℕ → ℕ → Machine (AsmTurn World Ending) Event Ending
lower cells depth = asm_machine (primitives (record { first = 0; texts = [] }) (pool cells)) depth (inc_lines ∷ main_lines ∷ [])

abbrev last : ℕ → ℕ → AsmTurn World Ending
last cells depth = state (lower cells depth) 200 (asm_start main_lines (first_world (pool cells) []))

-- the counted machine of the bare form, with room for one token
abbrev bare_setting : ℕ → ℕ → CountedSetting
bare_setting cells depth =
    setting_on (bare_program (record { functions = inc ∷ main ∷ []; texts = []; main = 1 })) (pool cells) depth

abbrev upper : ℕ → ℕ → Machine CountedState Event Ending
upper cells depth = roomy_outside 36 (bare_setting cells depth)

abbrev how : ℕ → ℕ → Option Ending
how cells depth = ending_after (upper cells depth) 60 (counted_first_state (bare_setting cells depth) [])

-- with two cells and four frames it ends by itself
ends_both : ((lower 2 4).ending (last 2 4) ≡ Some (exited 0)) × (how 2 4 ≡ Some (exited 0))
ends_both = (refl, refl)

-- with one cell the heap is full, and with three frames the stack is
full_both : ((lower 1 4).ending (last 1 4) ≡ Some (exited 101)) × (how 1 4 ≡ Some (exited 101))
full_both = (refl, refl)

deep_both : ((lower 2 3).ending (last 2 3) ≡ Some (exited 102)) × (how 2 3 ≡ Some (exited 102))
deep_both = (refl, refl)

-- at the end both cells are free
abbrev blocks_of : AsmTurn World Ending → ℕ → Block
blocks_of (go s) at = s.shared.cells.blocks at
blocks_of (ended by world) at = world.cells.blocks at
blocks_of stuck at = no_block

both_free : (blocks_of (last 2 4) 32 ≡ unused) × (blocks_of (last 2 4) 64 ≡ unused)
both_free = (refl, refl)
