-- The machines of the assembler form and of its placed form, tried on a program: main passes 5 to a function that adds 1 to it
-- unless it is zero, and prints what comes back.
use Rattle.std.proofs.Common.{◌≡◌, ◌==◌, ℕ, ◌+◌, List, [], ◌∷◌, ◌++◌, Option, Some, None, Bool, false, refl, lit<}
use Rattle.kk_base.specs.Machines.{trace, ending_after}
use Rattle.rv_isa.specs.declared.asm.Action.{Action}
use Rattle.rv_isa.specs.declared.asm.Action.TheVariants.{Compute, Label, Branch, Call, Return, Routine}
use Rattle.rv_isa.specs.declared.asm.Operation.{Operation}
use Rattle.rv_isa.specs.declared.asm.Operation.TheVariants.{Li, Mv}
use Rattle.rv_isa.specs.declared.asm.Condition.{Condition}
use Rattle.rv_isa.specs.declared.asm.Condition.TheVariants.{Equal}
use Rattle.rv_isa.specs.declared.routine.Routine.{Routine as RoutineName}
use Rattle.rv_isa.specs.declared.placed.Place.{Place}
use Rattle.rv_isa.specs.declared.placed.Place.TheVariants.{Register as register}
use Rattle.rv_isa.specs.declared.placed.Operand.{Operand}
use Rattle.rv_isa.specs.declared.placed.Listed.{Listed}
use Rattle.rv_isa.specs.declared.placed.Way.TheVariants.{Copy}
use Rattle.rv_isa.specs.AsmCode.{Line, Lines}
use Rattle.rv_isa.specs.PlacedCode.{PlacedLine, does, moves, PlacedLines}
use Rattle.rv_isa.specs.Primitives.{Reply, answers, fails, Primitives}
use Rattle.rv_isa.specs.AsmMachine.{asm_machine, asm_start}
use Rattle.rv_isa.specs.PlacedMachine.{placed_machine, placed_start}

-- what is shared is what was printed; `mv` adds 1, for want of another operation
abbrev computed : Operation → List ℕ → List ℕ → Option (ℕ × List ℕ)
computed (Li word) [] printed = Some (word, printed)
computed Mv (word ∷ []) printed = Some (word + 1, printed)
computed _ words printed = None

abbrev holds_of : Condition → List ℕ → Option Bool
holds_of Equal (word ∷ []) = Some (word == 0)
holds_of _ words = None

abbrev served : RoutineName → List ℕ → Option ℕ → List ℕ → Reply (List ℕ) ℕ
served RoutineName.PrintInt (word ∷ line ∷ []) held printed = answers 0 (printed ++ word ∷ []) false
served _ words held printed = fails

abbrev toy : Primitives (List ℕ) ℕ ℕ
toy = record {
  compute = computed;
  holds = holds_of;
  serve = served;
  lasts = λ routine words held printed. 30;
  hold = λ word printed. None;
  unhold = λ word printed. None;
  told = λ printed. printed;
  finished = 0;
  stack_full = 102;
}

abbrev line : Action → List ℕ → Option ℕ → Line
line action args into = record { action = action; args = args; into = into }

abbrev adder : List Line
adder =
    line (Branch Equal 1) (0 ∷ []) None
    ∷ line (Compute Mv) (0 ∷ []) (Some 1)
    ∷ line Return (1 ∷ []) None
    ∷ line (Label 1) [] None
    ∷ line Return (0 ∷ []) None
    ∷ []

abbrev main : List Line
main =
    line (Compute (Li 5)) [] (Some 0)
    ∷ line (Call 1) (0 ∷ []) (Some 1)
    ∷ line (Compute (Li 1)) [] (Some 2)
    ∷ line (Routine RoutineName.PrintInt) (1 ∷ 2 ∷ []) None
    ∷ line Return [] None
    ∷ []

abbrev program : List Lines
program = record { params = []; code = main } ∷ record { params = 0 ∷ []; code = adder } ∷ []

-- at depth 2 it prints 6 and finishes; at depth 1 the call finds the stack full
prints : (trace (asm_machine toy 2 program) 8 (asm_start (record { params = []; code = main }) []) ≡ 6 ∷ []) × (ending_after (asm_machine toy 2 program) 8 (asm_start (record { params = []; code = main }) []) ≡ Some 0)
prints = (refl, refl)

stops : (trace (asm_machine toy 1 program) 8 (asm_start (record { params = []; code = main }) []) ≡ []) × (ending_after (asm_machine toy 1 program) 8 (asm_start (record { params = []; code = main }) []) ≡ Some 102)
stops = (refl, refl)

abbrev x5 : Place
x5 = register (record { number = 5; in_range = lit< tt })

abbrev x10 : Place
x10 = register (record { number = 10; in_range = lit< tt })

abbrev x11 : Place
x11 = register (record { number = 11; in_range = lit< tt })

abbrev at : ℕ → Place → Operand
at value place = record { value = value; place = place }

abbrev alive_at : ℕ → Place → Listed
alive_at value place = record { value = value; place = place; held = false; copy = None }

abbrev placed_adder : List PlacedLine
placed_adder =
    does (alive_at 0 x10 ∷ []) (Branch Equal 1) (at 0 x10 ∷ []) None
    ∷ does (alive_at 0 x10 ∷ []) (Compute Mv) (at 0 x10 ∷ []) (Some (at 1 x5))
    ∷ moves (alive_at 1 x5 ∷ []) 1 (Copy (record { number = 5; in_range = lit< tt }) (record { number = 10; in_range = lit< tt }))
    ∷ does (alive_at 1 x10 ∷ []) Return (at 1 x10 ∷ []) None
    ∷ does (alive_at 0 x10 ∷ []) (Label 1) [] None
    ∷ does (alive_at 0 x10 ∷ []) Return (at 0 x10 ∷ []) None
    ∷ []

abbrev placed_main : List PlacedLine
placed_main =
    does [] (Compute (Li 5)) [] (Some (at 0 x10))
    ∷ does (alive_at 0 x10 ∷ []) (Call 1) (at 0 x10 ∷ []) (Some (at 1 x10))
    ∷ does (alive_at 1 x10 ∷ []) (Compute (Li 1)) [] (Some (at 2 x11))
    ∷ does (alive_at 1 x10 ∷ alive_at 2 x11 ∷ []) (Routine RoutineName.PrintInt) (at 1 x10 ∷ at 2 x11 ∷ []) None
    ∷ does [] Return [] None
    ∷ []

abbrev placed_program : List PlacedLines
placed_program = record { params = []; code = placed_main } ∷ record { params = 0 ∷ []; code = placed_adder } ∷ []

placed_prints : (trace (placed_machine toy 2 placed_program) 9 (placed_start (record { params = []; code = placed_main }) []) ≡ 6 ∷ []) × (ending_after (placed_machine toy 2 placed_program) 9 (placed_start (record { params = []; code = placed_main }) []) ≡ Some 0)
placed_prints = (refl, refl)
