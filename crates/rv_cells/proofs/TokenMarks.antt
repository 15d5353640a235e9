-- The marks behind a block of code with tokens, and its slots.
use Rattle.std.proofs.Common.{◌≡◌, ℕ, suc, ◌≤◌, Bool, List, [], ◌∷◌, map, refl, sym, ap, ◌∙◌, arith}
use Rattle.std.specs.Prelude.{max}
use Rattle.std.proofs.Math.Nat.{le-max_left, le-max_right}
use Rattle.kk_counted.proofs.TokenedViews.{tokened_block_is}
use Rattle.kk_counted.specs.BareForms.{bare}
use Rattle.kk_counted.specs.Lowerable.{AreBelow, given_by}
use Rattle.kk_counted.specs.Marks.{CellMarks}
use Rattle.kk_counted.specs.TokenLowerable.{slots_of, slots_in, slots_in_arms}
use Rattle.kk_counted.specs.TokenedCodes.{Tokened, TokenedArms}
use Rattle.kk_counted.specs.TokenedForms.{TokenedMove, plug_tokened, tokened_code, tokened_last_code, tokened_move}
use Rattle.kk_counted.specs.declared.tokened.TokenedBlock.{TokenedBlock}
use Rattle.kk_counted.specs.declared.tokened.TokenedStep.{TokenedStep}
use Rattle.rv_cells.specs.Marking.{marks_behind}
use Rattle.rv_cells.specs.TokenedLines.{HasSlots, HaveSlots}
use Rattle.rv_cells.specs.TokenedMarking.{marks_behind_step, marks_behind_steps, slots_of_step, slots_of_steps}

-- ---- marks

pub plug_bare_given : (moves : List TokenedMove) (last : Tokened) → given_by (bare (plug_tokened moves last)) ≡ given_by (bare last)
plug_bare_given [] last = refl
plug_bare_given (TokenedMove.computes x form arguments others ∷ moves) last = plug_bare_given moves last
plug_bare_given (TokenedMove.runs x block ∷ moves) last = plug_bare_given moves last
plug_bare_given (TokenedMove.reads x c fields ∷ moves) last = plug_bare_given moves last
plug_bare_given (TokenedMove.opens x c fields used y ∷ moves) last = plug_bare_given moves last
plug_bare_given (TokenedMove.opens_unique x c fields used y ∷ moves) last = plug_bare_given moves last
plug_bare_given (TokenedMove.dups x ∷ moves) last = plug_bare_given moves last
plug_bare_given (TokenedMove.drops x ∷ moves) last = plug_bare_given moves last
plug_bare_given (TokenedMove.fills x y c first arguments kept others ∷ moves) last = plug_bare_given moves last
plug_bare_given (TokenedMove.frees y ∷ moves) last = plug_bare_given moves last
plug_bare_given (TokenedMove.nulls y ∷ moves) last = plug_bare_given moves last
plug_bare_given (TokenedMove.moves to of ∷ moves) last = plug_bare_given moves last
plug_bare_given (TokenedMove.holds y ∷ moves) last = plug_bare_given moves last
plug_bare_given (TokenedMove.unholds y ∷ moves) last = plug_bare_given moves last

pub plug_bare_marks : (table : CellMarks) (moves : List TokenedMove) (last : Tokened) (marks : List Bool)
    → marks_behind table (bare (plug_tokened moves last)) marks
    ≡ marks_behind table (bare last) (marks_behind_steps table moves marks)
plug_bare_marks table [] last marks = refl
plug_bare_marks table (TokenedMove.computes x form arguments others ∷ moves) last marks =
    plug_bare_marks table moves last (marks_behind_step table (TokenedMove.computes x form arguments others) marks)
plug_bare_marks table (TokenedMove.runs x block ∷ moves) last marks =
    plug_bare_marks table moves last (marks_behind_step table (TokenedMove.runs x block) marks)
plug_bare_marks table (TokenedMove.reads x c fields ∷ moves) last marks =
    plug_bare_marks table moves last (marks_behind_step table (TokenedMove.reads x c fields) marks)
plug_bare_marks table (TokenedMove.opens x c fields used y ∷ moves) last marks =
    plug_bare_marks table moves last (marks_behind_step table (TokenedMove.opens x c fields used y) marks)
plug_bare_marks table (TokenedMove.opens_unique x c fields used y ∷ moves) last marks =
    plug_bare_marks table moves last (marks_behind_step table (TokenedMove.opens_unique x c fields used y) marks)
plug_bare_marks table (TokenedMove.dups x ∷ moves) last marks = plug_bare_marks table moves last marks
plug_bare_marks table (TokenedMove.drops x ∷ moves) last marks = plug_bare_marks table moves last marks
plug_bare_marks table (TokenedMove.fills x y c first arguments kept others ∷ moves) last marks =
    plug_bare_marks table moves last (marks_behind_step table (TokenedMove.fills x y c first arguments kept others) marks)
plug_bare_marks table (TokenedMove.frees y ∷ moves) last marks = plug_bare_marks table moves last marks
plug_bare_marks table (TokenedMove.nulls y ∷ moves) last marks = plug_bare_marks table moves last marks
plug_bare_marks table (TokenedMove.moves to of ∷ moves) last marks = plug_bare_marks table moves last marks
plug_bare_marks table (TokenedMove.holds y ∷ moves) last marks = plug_bare_marks table moves last marks
plug_bare_marks table (TokenedMove.unholds y ∷ moves) last marks = plug_bare_marks table moves last marks

-- ---- slots

zero_max : (a : ℕ) → a ≡ max 0 a
zero_max a = omega arith

put_slots : (move : TokenedMove) (moves : List TokenedMove) (last : Tokened)
    → slots_in (plug_tokened moves last) ≡ max (slots_of_steps moves) (slots_in last)
    → slots_in (plug_tokened (move ∷ moves) last) ≡ max (max (slots_of_step move) (slots_of_steps moves)) (slots_in last)
put_slots (TokenedMove.computes x form arguments others) moves last is = omega (arith, is)
put_slots (TokenedMove.runs x block) moves last is = omega (arith, is)
put_slots (TokenedMove.reads x c fields) moves last is = omega (arith, is)
put_slots (TokenedMove.opens x c fields used y) moves last is = omega (arith, is)
put_slots (TokenedMove.opens_unique x c fields used y) moves last is = omega (arith, is)
put_slots (TokenedMove.dups x) moves last is = omega (arith, is)
put_slots (TokenedMove.drops x) moves last is = omega (arith, is)
put_slots (TokenedMove.fills x y c first arguments kept others) moves last is = omega (arith, is)
put_slots (TokenedMove.frees y) moves last is = omega (arith, is)
put_slots (TokenedMove.nulls y) moves last is = omega (arith, is)
put_slots (TokenedMove.moves to of) moves last is = omega (arith, is)
put_slots (TokenedMove.holds y) moves last is = omega (arith, is)
put_slots (TokenedMove.unholds y) moves last is = omega (arith, is)

pub plug_slots : (moves : List TokenedMove) (last : Tokened)
    → slots_in (plug_tokened moves last) ≡ max (slots_of_steps moves) (slots_in last)
plug_slots [] last = zero_max (slots_in last)
plug_slots (move ∷ moves) last = put_slots move moves last (plug_slots moves last)

-- the slots of a block are those of its steps and of its end
pub block_slots : (block : TokenedBlock) (steps : List TokenedStep) (first last count : ℕ) → steps ≡ block.steps.items
    → first ≡ slots_of_steps (map tokened_move steps) → last ≡ slots_in (tokened_last_code block.last) → count ≡ max first last
    → count ≡ slots_in (tokened_code block)
block_slots block steps first last count steps_are first_is last_is is =
    is ∙ ap (λ n. max n last) (first_is ∙ ap (λ xs. slots_of_steps (map tokened_move xs)) steps_are)
    ∙ ap (max (slots_of_steps (map tokened_move block.steps.items))) last_is
    ∙ sym (plug_slots (map tokened_move block.steps.items) (tokened_last_code block.last))
    ∙ ap slots_in (sym (tokened_block_is block))

left_below : (a b n : ℕ) → max a b ≤ n → a ≤ n
left_below a b n below = omega (arith, below, le-max_left a b)

right_below : (a b n : ℕ) → max a b ≤ n → b ≤ n
right_below a b n below = omega (arith, below, le-max_right a b)

below_slots : (n : ℕ) (slots : List ℕ) → slots_of slots ≤ n → AreBelow n slots
below_slots n [] few = tt
below_slots n (y ∷ ys) few =
    (left_below (suc y) (slots_of ys) n few, below_slots n ys (right_below (suc y) (slots_of ys) n few))

-- the slots that a code names are those that it has
mutual
  pub has_slots : (n : ℕ) (code : Tokened) → slots_in code ≤ n → HasSlots n code
  has_slots n (Tokened.give x) few = tt
  has_slots n (Tokened.tail_call f arguments) few = tt
  has_slots n (Tokened.case x decisions arms) few = have_slots n arms few
  has_slots n (Tokened.compute x form arguments others rest) few = (
    below_slots n others (left_below (slots_of others) (slots_in rest) n few),
    has_slots n rest (right_below (slots_of others) (slots_in rest) n few),
  )
  has_slots n (Tokened.inside x block rest) few = (
    has_slots n block (left_below (slots_in block) (slots_in rest) n few),
    has_slots n rest (right_below (slots_in block) (slots_in rest) n few),
  )
  has_slots n (Tokened.read x c fields rest) few = has_slots n rest few
  has_slots n (Tokened.open_cell x c fields used y rest) few =
      (left_below (suc y) (slots_in rest) n few, has_slots n rest (right_below (suc y) (slots_in rest) n few))
  has_slots n (Tokened.if_unique x c fields used y rest) few =
      (left_below (suc y) (slots_in rest) n few, has_slots n rest (right_below (suc y) (slots_in rest) n few))
  has_slots n (Tokened.dup x rest) few = has_slots n rest few
  has_slots n (Tokened.drop x rest) few = has_slots n rest few
  has_slots n (Tokened.fill x y c first arguments kept others rest) few =
      let more = right_below (suc y) (max (slots_of others) (slots_in rest)) n few in (
        left_below (suc y) (max (slots_of others) (slots_in rest)) n few,
        (
          below_slots n others (left_below (slots_of others) (slots_in rest) n more),
          has_slots n rest (right_below (slots_of others) (slots_in rest) n more),
        ),
      )
  has_slots n (Tokened.free y rest) few =
      (left_below (suc y) (slots_in rest) n few, has_slots n rest (right_below (suc y) (slots_in rest) n few))
  has_slots n (Tokened.null y rest) few =
      (left_below (suc y) (slots_in rest) n few, has_slots n rest (right_below (suc y) (slots_in rest) n few))
  has_slots n (Tokened.move to of rest) few =
      let more = right_below (suc to) (max (suc of) (slots_in rest)) n few in (
        left_below (suc to) (max (suc of) (slots_in rest)) n few,
        (left_below (suc of) (slots_in rest) n more, has_slots n rest (right_below (suc of) (slots_in rest) n more)),
      )
  has_slots n (Tokened.hold y rest) few =
      (left_below (suc y) (slots_in rest) n few, has_slots n rest (right_below (suc y) (slots_in rest) n few))
  has_slots n (Tokened.unhold y rest) few =
      (left_below (suc y) (slots_in rest) n few, has_slots n rest (right_below (suc y) (slots_in rest) n few))
  has_slots n (Tokened.if_token y there absent) few =
      let more = right_below (suc y) (max (slots_in there) (slots_in absent)) n few in (
        left_below (suc y) (max (slots_in there) (slots_in absent)) n few,
        (
          has_slots n there (left_below (slots_in there) (slots_in absent) n more),
          has_slots n absent (right_below (slots_in there) (slots_in absent) n more),
        ),
      )

  have_slots : (n : ℕ) (arms : TokenedArms) → slots_in_arms arms ≤ n → HaveSlots n arms
  have_slots n TokenedArms.no_arm few = tt
  have_slots n (TokenedArms.arm body rest) few = (
    has_slots n body (left_below (slots_in body) (slots_in_arms rest) n few),
    have_slots n rest (right_below (slots_in body) (slots_in_arms rest) n few),
  )
