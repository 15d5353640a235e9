-- Rotated code is no longer than the code, where a tail call counts as long as what may stand in its place.
use Rattle.std.proofs.Common.{◌≡◌, ◌≤◌, ◌⊎◌, inl, inr, ℕ, suc, ◌+◌, ◌*◌, List, [], ◌∷◌, ◌++◌, Bool, true, false, cond, length}
use Rattle.std.proofs.Common.{refl, ap, arith}
use Rattle.rv_isa.specs.declared.asm.Action.{Action}
use Rattle.rv_isa.specs.declared.asm.Action.TheVariants.{Compute, Label, Jump, Branch, Call, TailCall, Return, Routine, Hold}
use Rattle.rv_isa.specs.declared.asm.Action.TheVariants.{Unhold, Room}
use Rattle.rv_isa.specs.declared.asm.Operation.{Operation}
use Rattle.rv_isa.specs.declared.asm.Operation.TheVariants.{Register, Immediate, Shift, Li, Mv, La, Lw, Sw, Dup, Free}
use Rattle.rv_isa.specs.Costs.{operation_instructions, action_length, tail_call_length, placed_line_length, placed_code_length}
use Rattle.rv_isa.specs.Costs.{placed_functions_length}
use Rattle.rv_isa.specs.PlacedCode.{PlacedLine, does, moves, PlacedLines}
use Rattle.rv_loops.specs.Rotation.{Loop, AreStraight, is_straight_action, is_straight, calls, is_call_of, test, mark, goes_on}
use Rattle.rv_loops.specs.Rotation.{leaves, rotated_line, rotated_lines, code_of, rotated_code, most_before, IsRotated, AreRotated}

-- ---- lines

operation_most : (operation : Operation) → is_straight_action (Compute operation) ≡ true → operation_instructions operation ≤ 2
operation_most (Register operation) straight = cc straight
operation_most (Immediate operation imm) straight = cc straight
operation_most (Shift operation amount) straight = cc straight
operation_most (Li word) straight = omega arith
operation_most Mv straight = omega arith
operation_most (La index) straight = omega arith
operation_most (Lw offset) straight = cc straight
operation_most (Sw offset) straight = cc straight
operation_most Dup straight = cc straight
operation_most Free straight = cc straight

action_most : (action : Action) → is_straight_action action ≡ true → action_length action ≤ 2
action_most (Compute operation) straight = operation_most operation straight
action_most (Label l) straight = omega arith
action_most (Jump l) straight = cc straight
action_most (Branch condition l) straight = cc straight
action_most (Call f) straight = cc straight
action_most (TailCall f) straight = cc straight
action_most Return straight = cc straight
action_most (Routine routine) straight = cc straight
action_most Hold straight = cc straight
action_most Unhold straight = cc straight
action_most Room straight = cc straight

line_most : (line : PlacedLine) → is_straight line ≡ true → placed_line_length line ≤ 2
line_most (does alive action args into) straight = action_most action straight
line_most (moves alive value way) straight = omega arith

lines_most : (lines : List PlacedLine) → AreStraight lines → placed_code_length lines ≤ 2 * length lines
lines_most [] straight = omega arith
lines_most (line ∷ lines) straight = omega (arith, line_most line straight.0, lines_most lines straight.1)

append_length : (a b : List PlacedLine) → placed_code_length (a ++ b) ≡ placed_code_length a + placed_code_length b
append_length [] b = omega arith
append_length (line ∷ a) b = omega (arith, append_length a b)

-- ---- a tail call

call_action : (f : ℕ) (action : Action) → calls f action ≡ true → action_length action ≡ tail_call_length
call_action f (Compute operation) is = cc is
call_action f (Label l) is = cc is
call_action f (Jump l) is = cc is
call_action f (Branch condition l) is = cc is
call_action f (Call g) is = cc is
call_action f (TailCall g) is = refl
call_action f Return is = cc is
call_action f (Routine routine) is = cc is
call_action f Hold is = cc is
call_action f Unhold is = cc is
call_action f Room is = cc is

call_length : (f : ℕ) (line : PlacedLine) → is_call_of f line ≡ true → placed_line_length line ≡ tail_call_length
call_length f (does alive action args into) is = call_action f action is
call_length f (moves alive value way) is = cc is

-- ---- code

module _ (loop : Loop) (few : length loop.before ≤ most_before) (straight : AreStraight loop.before) where
  rotated_short : (call : Bool) (line : PlacedLine) → is_call_of loop.function line ≡ call
      → placed_code_length (cond call (loop.before ++ (goes_on loop ∷ leaves loop ∷ [])) (line ∷ [])) ≤ placed_line_length line
  rotated_short true line is =
      let lines : List PlacedLine = goes_on loop ∷ leaves loop ∷ [] in
      omega (
        arith,
        append_length loop.before lines,
        lines_most loop.before straight,
        few,
        call_length loop.function line is,
      )
  rotated_short false line is = omega arith

  all_rotated_short : (lines : List PlacedLine) → placed_code_length (rotated_lines loop lines) ≤ placed_code_length lines
  all_rotated_short [] = omega arith
  all_rotated_short (line ∷ lines) =
      omega (
        arith,
        append_length (rotated_line loop line) (rotated_lines loop lines),
        rotated_short (is_call_of loop.function line) line refl,
        all_rotated_short lines,
      )

  code_short : placed_code_length (rotated_code loop) ≤ placed_code_length (code_of loop)
  code_short =
      omega (
        arith,
        append_length loop.before (test loop ∷ mark loop ∷ rotated_lines loop loop.behind),
        append_length loop.before (test loop ∷ loop.behind),
        all_rotated_short loop.behind,
      )

function_short : (f : ℕ) (old new : List PlacedLine) → ((new ≡ old) ⊎ IsRotated f old new)
    → placed_code_length new ≤ placed_code_length old
function_short f old new (inl same) = omega (arith, ap placed_code_length same)
function_short f old new (inr is) =
    omega (arith, ap placed_code_length is.new_is, ap placed_code_length is.old_is, code_short is.loop is.few is.straight)

-- rotated functions are no longer than the functions
pub functions_short : (f : ℕ) (q q' : List PlacedLines) → AreRotated f q q'
    → placed_functions_length q' ≤ placed_functions_length q
functions_short f [] [] all = omega arith
functions_short f [] (new ∷ news) all = absurd all
functions_short f (old ∷ olds) [] all = absurd all
functions_short f (old ∷ olds) (new ∷ news) all =
    omega (arith, function_short f old.code new.code all.0, functions_short (suc f) olds news all.1)
