-- Loop rotation. A function that calls itself last is a loop, and where it begins with a test, each turn takes a jump to the
-- test and the test. In the rotated form the test stands again where the function calls itself, with a jump behind it for the other way.
--
-- Behind some tests the code goes straight on to a return. Such a test leads to the body of the loop: it stands again as it is, and the
-- jump leads right behind the first one. Any other test stands again turned round: it leads right behind the first one, and the jump to
-- where that one leads.
use Rattle.std.specs.Prelude.{◌≡◌, ◌≢◌, ◌==◌, ◌≤◌, ◌⊎◌, ℕ, suc, List, [], ◌∷◌, ◌++◌, None}
use Rattle.std.specs.Prelude.{Some, Bool, true, false, cond, not, option_map, ◌&&◌, ◌||◌}
use Rattle.std.specs.Prelude.{length}
use Rattle.std.specs.List.{AllByRecursion}
use Rattle.rv_isa.specs.declared.asm.Action.{Action}
use Rattle.rv_isa.specs.declared.asm.Action.TheVariants.{Compute, Label, Jump, Branch, TailCall, Return}
use Rattle.rv_isa.specs.declared.asm.Condition.{Condition}
use Rattle.rv_isa.specs.declared.asm.Operation.{Operation}
use Rattle.rv_isa.specs.declared.placed.Operand.{Operand}
use Rattle.rv_isa.specs.declared.placed.Listed.{Listed}
use Rattle.rv_isa.specs.LinePlaces.{is_made}
use Rattle.rv_isa.specs.Opposites.{opposite}
use Rattle.rv_isa.specs.PlacedCode.{PlacedLine, does, moves, PlacedLines}
use Rattle.rv_isa.specs.PlacedMachine.{is_label_line}
use Rattle.rv_isa.specs.Frames.{found}
use Rattle.rv_isa.specs.Primitives.{Primitives}

-- the opposite of a condition holds exactly where the condition does not, by what a machine leaves open
abbrev pub HasOpposites : {H E W : Type 0} → Primitives H E W → Type 0
HasOpposites m =
    (condition : Condition) (words : List ℕ) → m.holds (opposite condition) words ≡ option_map not (m.holds condition words)

-- A loop: the number of its function, and the code of that. The test is a branch behind lines that go straight on, which does not
-- compare a single word with zero, and leads to the label `exit`; `again` is a label that stands nowhere in that code. `stays` tells
-- whether the test stands again as it is.
pub record Loop : Type 0 where
  pub function : ℕ
  pub before : List PlacedLine
  pub alive : List Listed
  pub condition : Condition
  pub exit : ℕ
  pub args : List Operand
  pub behind : List PlacedLine
  pub again : ℕ
  pub stays : Bool

abbrev pub is_straight_action : Action → Bool
is_straight_action (Compute operation) = not (is_made (Compute operation))
is_straight_action (Label l) = true
is_straight_action _ = false

-- copies, and constants that a register may hold always, leave alone what a machine shares
abbrev pub ComputesAlone : {H E W : Type 0} → Primitives H E W → Type 0
ComputesAlone {H = H} m =
    (operation : Operation) (words : List ℕ) (shared : H) (r : ℕ × H) → is_straight_action (Compute operation) ≡ true
    → m.compute operation words shared ≡ Some r → r.1 ≡ shared

-- a move, a label, a copy, or a constant that a register may hold always
abbrev pub is_straight : PlacedLine → Bool
is_straight (does alive action args into) = is_straight_action action
is_straight (moves alive value way) = true

abbrev pub AreStraight : List PlacedLine → Type 0
AreStraight lines = AllByRecursion (λ (line : PlacedLine). is_straight line ≡ true) lines

abbrev pub calls : ℕ → Action → Bool
calls f (TailCall g) = g == f
calls f _ = false

-- whether a line is a tail call of the function f
abbrev pub is_call_of : ℕ → PlacedLine → Bool
is_call_of f (does alive action args into) = calls f action
is_call_of f (moves alive value way) = false

-- the test
abbrev pub test : Loop → PlacedLine
test loop = does loop.alive (Branch loop.condition loop.exit) loop.args None

-- the label behind it
abbrev pub mark : Loop → PlacedLine
mark loop = does [] (Label loop.again) [] None

-- the test as it stands again, as it is or turned round, and the jump behind it
abbrev pub goes_on : Loop → PlacedLine
goes_on loop =
    does loop.alive (Branch (cond loop.stays loop.condition (opposite loop.condition)) (cond loop.stays loop.exit loop.again)) loop.args
    None

abbrev pub leaves : Loop → PlacedLine
leaves loop = does [] (Jump (cond loop.stays loop.again loop.exit)) [] None

-- each tail call of the function itself becomes the lines before the test, the test again, and the jump
abbrev pub rotated_line : Loop → PlacedLine → List PlacedLine
rotated_line loop line = cond (is_call_of loop.function line) (loop.before ++ (goes_on loop ∷ leaves loop ∷ [])) (line ∷ [])

abbrev pub rotated_lines : Loop → List PlacedLine → List PlacedLine
rotated_lines loop [] = []
rotated_lines loop (line ∷ lines) = rotated_line loop line ++ rotated_lines loop lines

-- the code of a function, and the rotated code
abbrev pub code_of : Loop → List PlacedLine
code_of loop = loop.before ++ (test loop ∷ loop.behind)

abbrev pub rotated_code : Loop → List PlacedLine
rotated_code loop = loop.before ++ (test loop ∷ mark loop ∷ rotated_lines loop loop.behind)

abbrev pub is_return : Action → Bool
is_return Return = true
is_return _ = false

-- whether an action may lead elsewhere than to the next line and to the label l; that label is where the other way begins
abbrev pub turns_off : ℕ → Action → Bool
turns_off l (Label m) = m == l
turns_off l (Jump m) = true
turns_off l (Branch condition m) = not (m == l)
turns_off l (TailCall g) = true
turns_off l _ = false

abbrev pub is_return_line : PlacedLine → Bool
is_return_line (does alive action args into) = is_return action
is_return_line (moves alive value way) = false

abbrev pub is_turn : ℕ → PlacedLine → Bool
is_turn l (does alive action args into) = turns_off l action
is_turn l (moves alive value way) = false

-- whether code goes straight on to a return, but for branches to the label l, which stands behind that return
abbrev pub returns_straight : ℕ → List PlacedLine → Bool
returns_straight l [] = false
returns_straight l (line ∷ lines) = is_return_line line || (not (is_turn l line) && returns_straight l lines)

-- the most lines before a test
abbrev pub most_before : ℕ
most_before = 3

-- the code of the function f and the rotated code
pub record IsRotated (f : ℕ) (old new : List PlacedLine) : Type 0 where
  pub loop : Loop
  pub number : loop.function ≡ f
  pub old_is : old ≡ code_of loop
  pub new_is : new ≡ rotated_code loop
  pub straight : AreStraight loop.before
  pub few : length loop.before ≤ most_before
  pub compares : length loop.args ≢ 1
  pub fresh : found (is_label_line loop.again) old ≡ None
  pub leads : loop.stays ≡ returns_straight loop.exit old

-- each function stays as it is, or is rotated; the first one has the number f
abbrev pub AreRotated : ℕ → List PlacedLines → List PlacedLines → Type 0
AreRotated f [] [] = Unit {0}
AreRotated f [] (new ∷ news) = ⊥
AreRotated f (old ∷ olds) [] = ⊥
AreRotated f (old ∷ olds) (new ∷ news) = ((new.code ≡ old.code) ⊎ IsRotated f old.code new.code) × AreRotated (suc f) olds news
