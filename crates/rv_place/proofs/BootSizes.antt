-- How large a text and the memory behind it are: their addresses are far below 2^32.
use Rattle.std.proofs.Common.{◌≡◌, ◌<◌, ◌≤◌, ℕ, ◌+◌, ◌*◌, ◌%◌, Bool, true, false, cond, List, [], ◌∷◌, length, ap, ◌∙◌, arith}
use Rattle.std.proofs.lemmas.Nat.{mul-le}
use Rattle.kk_base.specs.Sizes.{greatest_depth}
use Rattle.elf_image.specs.Program.{page_size}
use Rattle.elf_image.specs.Program.{text_start, memory_start}
use Rattle.rv_isa.specs.declared.asm.Action.{Action}
use Rattle.rv_isa.specs.declared.asm.Action.TheVariants.{Compute, Label, Jump, Branch, Call, TailCall, Return, Routine, Hold, Unhold, Room}
use Rattle.rv_isa.specs.declared.placed.Operand.{Operand}
use Rattle.rv_isa.specs.declared.placed.Placed.{Placed}
use Rattle.rv_isa.specs.Costs.{action_length, placed_line_length, placed_code_length, placed_functions_length}
use Rattle.rv_isa.specs.Sizes.{wide_frame}
use Rattle.rv_isa.specs.PlacedCode.{PlacedLine, does, moves, PlacedLines, placed_functions, placed_constants}
use Rattle.cell_runtime.specs.Operations.{all_bytes}
use Rattle.rv_place.specs.declared.words.Words.{Words}
use Rattle.rv_place.specs.Addresses.{is_silent, is_at_pointer, words_of_action, words_of_line, words_of_lines, words_of_functions, most_entry_words, forms_of, words_of_shift}
use Rattle.rv_place.specs.declared.reach.Forms.{Forms}
use Rattle.rv_place.specs.declared.reach.Reach.{Reach}
use Rattle.rv_place.proofs.CodeLines.{jump_most, routine_most, name_most, shift_most, branch_most}
use Rattle.rv_place.proofs.MoveSimulation.{operation_weighs}
use Rattle.rv_place.proofs.PointerShifts.{to_frame_most}
use Rattle.rv_place.specs.Texts.{ArePlaceable, most_text_words, most_constant_bytes, text_words, text_bytes, most_bytes, memory_of}
use Rattle.rv_place.specs.Texts.{ArePlacedWords, jumps_of}
use Rattle.rv_place.specs.Bytes.{IsTextOf}

-- ---- how many instructions code is

return_most : (frame : Bool) (jumps : Reach) → cond frame (2 + words_of_shift jumps) 1 ≤ 4
return_most true jumps = omega (arith, shift_most jumps)
return_most false jumps = omega arith

action_most : (forms : Forms) (action : Action) (args : List Operand) → words_of_action forms action args ≤ action_length action
action_most forms (Compute operation) args = (operation_weighs operation).1
action_most forms (Label l) args = omega arith
action_most forms (Jump l) args = jump_most forms.jumps
action_most forms (Branch condition l) args = branch_most forms.jumps forms.branches
action_most forms (Call f) args = omega (arith, jump_most forms.jumps)
action_most forms (TailCall f) args = omega (arith, jump_most forms.jumps)
action_most forms Return args = return_most forms.frame forms.jumps
action_most forms (Routine routine) args = routine_most forms.jumps routine
action_most forms Hold args = omega (arith, name_most (is_at_pointer forms.jumps args))
action_most forms Unhold args = omega arith
action_most forms Room args = omega (arith, jump_most forms.jumps, to_frame_most forms.jumps)

none_or : (silent : Bool) (words most : ℕ) → words ≤ most → cond silent 0 words ≤ most
none_or true words most few = omega arith
none_or false words most few = few

line_most : (forms : Forms) (line : PlacedLine) → words_of_line forms line ≤ placed_line_length line
line_most forms (does alive action args into) =
    none_or (is_silent action args into) (words_of_action forms action args) (action_length action) (action_most forms action args)
line_most forms (moves alive value way) = omega arith

lines_most : (forms : Forms) (lines : List PlacedLine) → words_of_lines forms lines ≤ placed_code_length lines
lines_most forms [] = omega arith
lines_most forms (line ∷ lines) = omega (arith, line_most forms line, lines_most forms lines)

functions_most : (jumps : Reach) (functions : List PlacedLines) → words_of_functions jumps functions ≤ most_entry_words * length functions + placed_functions_length functions
functions_most jumps [] = omega arith
functions_most jumps (function ∷ functions) = omega (arith, jump_most jumps, shift_most jumps, to_frame_most jumps, lines_most (forms_of jumps function.code) function.code, functions_most jumps functions)

-- ---- memory

pub memory_behind : (n : ℕ) → text_start + n ≤ memory_start n
memory_behind n = omega arith

pub memory_near : (n : ℕ) → memory_start n < text_start + n + page_size
memory_near n = omega arith

pub memory_page : (n : ℕ) → memory_start n % page_size ≡ 0
memory_page n = omega arith

-- all frames
pub stack_most : (depth frame : ℕ) → depth ≤ greatest_depth → frame ≤ wide_frame → depth * frame ≤ greatest_depth * wide_frame
stack_most depth frame few small = mul-le depth frame greatest_depth wide_frame few small

-- ---- the text

-- a text has no more bytes than its runtime, its functions' entries, of seven instructions each, their lines and its constants
pub text_most : (runtime program : Placed) → text_bytes runtime program ≤ most_bytes runtime program
text_most runtime program = omega (arith, functions_most (jumps_of runtime program) (placed_functions program))

module _ {runtime program : Placed} (placeable : ArePlaceable runtime program) where
  pub words_most : text_words runtime program ≤ most_text_words
  words_most =
      omega (arith, functions_most (jumps_of runtime program) (placed_functions program), placeable.runtime_size, placeable.few_functions, placeable.short)

  pub bytes_most : text_bytes runtime program ≤ 4 * most_text_words + most_constant_bytes
  bytes_most = omega (arith, words_most, placeable.few_bytes)

  pub memory_most : memory_of runtime program < text_start + 4 * most_text_words + most_constant_bytes + page_size
  memory_most = omega (arith, bytes_most, memory_near (text_bytes runtime program))

-- the bytes of a text are as many as its instructions and constants take
pub text_size : {runtime program : Placed} {words : Words} {text : List ℕ} → ArePlacedWords runtime program words → IsTextOf words text → length text ≡ text_bytes runtime program
text_size {runtime} {program} {words} {text} placed bytes =
    let instructions : length words.instructions.items ≡ text_words runtime program = placed.size in
    let constants : length words.constants.items ≡ length (all_bytes (placed_constants program)) = ap length placed.constants in
    bytes.size ∙ ap (λ n. 4 * n + length words.constants.items) instructions ∙ ap (λ n. 4 * text_words runtime program + n) constants

-- so they are no more than its parts have
pub text_small : {runtime program : Placed} {words : Words} {text : List ℕ} → ArePlacedWords runtime program words
    → IsTextOf words text → length text ≤ most_bytes runtime program
text_small {runtime} {program} placed bytes =
    let size = text_size placed bytes in
    omega (arith, size, text_most runtime program)
