-- What the assignment of registers gives is plain: it holds no token, writes what is handed out, and has the label of each branch.
use Rattle.std.proofs.Common.{◌≡◌, ℕ, List, [], ◌∷◌, Option, Some, None, Bool, true, false, not, cond, refl, sym, subst, map, option_map}
use Rattle.std.specs.Prelude.{IsSome}
use Rattle.rv_isa.specs.declared.asm.Action.{Action}
use Rattle.rv_isa.specs.declared.asm.Action.TheVariants.{Branch}
use Rattle.rv_isa.specs.declared.asm.Asm.{Asm}
use Rattle.rv_isa.specs.declared.placed.Operand.{Operand}
use Rattle.rv_isa.specs.declared.placed.Place.{Place}
use Rattle.rv_isa.specs.declared.placed.Place.TheVariants.{Register as register, Slot as slot}
use Rattle.rv_isa.specs.declared.placed.Placed.{Placed}
use Rattle.rv_isa.specs.AsmCode.{Line, Lines, asm_functions}
use Rattle.rv_isa.specs.AsmMachine.{is_label}
use Rattle.rv_isa.specs.Conventions.{is_of_constant}
use Rattle.rv_isa.specs.Frames.{found}
use Rattle.rv_isa.specs.PlacedCode.{PlacedLine, does, moves, PlacedLines, placed_functions, to_of}
use Rattle.rv_isa.specs.PlacedMachine.{is_label_line}
use Rattle.rv_isa.specs.WellFormed.{AreLabelsAhead, AreLinesFormed, IsWellFormed, AreWellFormed}
use Rattle.rv_regs.specs.Conditions as OfRegisters
use Rattle.rv_regs.specs.Conditions.{value_of, without_moves, WriteIsHandedOut, AllFit, IsPlacing, ArePlacings}
use Rattle.rv_regs.specs.Valid.{IsValid}
use Rattle.rv_place.specs.ProcessorStates.{IsHandedOut, GivesHandedOut, HasLabel, ArePlain, AllPlain}

-- ---- what is written

handed_out : (place : Place) → OfRegisters.IsHandedOut place → IsHandedOut place
handed_out (register r) is = is
handed_out (slot k) is = tt

gives_handed_out : (action : Action) (into : Option Operand) → WriteIsHandedOut (Some action) into → GivesHandedOut action into
gives_handed_out action None is = tt
gives_handed_out action (Some into) is = (handed_out into.place is.0, is.1)

-- a move writes another register than those that hold a word always
not_constant : (there : Bool) → not there ≡ true → there ≡ false
not_constant true is = cc is
not_constant false is = refl

-- ---- labels

-- whether a label stands in code over values
abbrev HasLine : List Line → ℕ → Type 0
HasLine code l = IsSome (found (λ (line : Line). is_label l line.action) code)

-- each label of the code over values is a label of a function
abbrev HasAll : List PlacedLine → List Line → Type 0
HasAll whole code = (l : ℕ) → HasLine code l → IsSome (found (is_label_line l) whole)

some_later : {A : Type 0} (here : Bool) (a : A) (o : Option A) → IsSome o → IsSome (cond here (Some a) o)
some_later true a o is = refl
some_later false a o is = is

some_both : {A B : Type 0} (here : Bool) (a : A) (b : B) (o : Option A) (o' : Option B) → (IsSome o → IsSome o') → IsSome (cond here (Some a) o) → IsSome (cond here (Some b) o')
some_both true a b o o' later is = refl
some_both false a b o o' later is = later is

-- what is found behind a line is found from the line on
has_later : (whole : List PlacedLine) (line : Line) (rest : List Line) → HasAll whole (line ∷ rest) → HasAll whole rest
has_later whole line rest has l is = has l (some_later (is_label l line.action) (line ∷ rest) (found (λ (m : Line). is_label l m.action) rest) is)

-- code has its labels with its moves and places too
has_all : (code : List PlacedLine) → HasAll code (without_moves code)
has_all [] l is = is
has_all (does alive action args into ∷ code) l is =
    let first : Line = record { action = action; args = map value_of args; into = option_map value_of into } in
    some_both (is_label l action) (first ∷ without_moves code) (does alive action args into ∷ code) (found (λ (m : Line). is_label l m.action) (without_moves code)) (found (is_label_line l) code) (has_all code l) is
has_all (moves alive value way ∷ code) l is = has_all code l is

-- the label of a branch lies ahead
has_label : (whole : List PlacedLine) (action : Action) (rest : List Line) → AreLabelsAhead action rest → HasAll whole rest → HasLabel whole action
has_label whole (Branch condition l) rest ahead has = has l ahead
has_label whole action rest ahead has = tt

-- ---- lines

code_is_plain : (whole code : List PlacedLine) → AllFit whole code → AreLinesFormed (without_moves code) → HasAll whole (without_moves code) → ArePlain whole code
code_is_plain whole [] fit formed has = tt
code_is_plain whole (does alive action args into ∷ code) fit formed has =
    let behind = has_later whole (record { action = action; args = map value_of args; into = option_map value_of into }) (without_moves code) has in (
      (gives_handed_out action into fit.0.1.write_handed_out, has_label whole action (without_moves code) formed.0.labels behind),
      code_is_plain whole code fit.1 formed.1 behind,
    )
code_is_plain whole (moves alive value way ∷ code) fit formed has =
    let written = fit.0.write_handed_out in
    ((handed_out (to_of way) written.0, not_constant (is_of_constant (to_of way)) written.1), code_is_plain whole code fit.1 formed has)

function_is_plain : (function : Lines) (placed : PlacedLines) → IsPlacing function placed → IsWellFormed function → ArePlain placed.code placed.code
function_is_plain function placed placing formed = code_is_plain placed.code placed.code placing.fit (subst AreLinesFormed (sym placing.code) formed.lines) (has_all placed.code)

functions_are_plain : (functions : List Lines) (placed : List PlacedLines) → ArePlacings functions placed → AreWellFormed functions → AllPlain placed
functions_are_plain [] [] placings formed = tt
functions_are_plain [] (p ∷ ps) placings formed = absurd placings
functions_are_plain (f ∷ fs) [] placings formed = absurd placings
functions_are_plain (f ∷ fs) (p ∷ ps) placings formed = (function_is_plain f p placings.0 formed.0, functions_are_plain fs ps placings.1 formed.1)

pub placed_is_plain : (asm : Asm) (placed : Placed) → IsValid asm placed → AreWellFormed (asm_functions asm) → AllPlain (placed_functions placed)
placed_is_plain asm placed valid formed = functions_are_plain (asm_functions asm) (placed_functions placed) valid.functions formed
