-- The lines of code with places that are statements of the code over values: each is there, and no two are one.
use Rattle.std.proofs.Common.{◌≡◌, ◌+◌, ◌≤◌, ℕ, zero, suc, List, [], ◌∷◌, Option, Some, Bool, true, false, slice_get, length, drop, refl, sym, ◌∙◌, ap, arith, map, option_map}
use Rattle.std.proofs.Math.Seq.{drop-nil}
use Rattle.std.proofs.lemmas.List.{length-map}
use Rattle.rv_isa.specs.declared.asm.Action.{Action}
use Rattle.rv_isa.specs.declared.placed.Operand.{Operand}
use Rattle.rv_isa.specs.declared.placed.Listed.{Listed}
use Rattle.rv_isa.specs.AsmCode.{Line, Lines}
use Rattle.rv_isa.specs.PlacedCode.{PlacedLine, does, moves, PlacedLines}
use Rattle.rv_isa.specs.LinePlaces.{is_always_some, is_own, is_own_line, is_instruction, AsmHasLine, PlacedHasLine, AsmHasOwnLine, PlacedHasOwnLine}
use Rattle.rv_regs.specs.Conditions.{value_of, without_moves, ArePlacings}
use Rattle.rv_regs.specs.StatementLines.{line_in, line_of}
use Rattle.rv_regs.proofs.Steps.{callee_both}

-- a line does an action that is so, with so many arguments
abbrev does_so : (Action → ℕ → Bool) → PlacedLine → Bool
does_so is (does alive action args into) = is action (length args)
does_so is (moves alive value way) = false

-- a statement over values has its line, whose action is so where that of the statement is
has_line : (is : Action → ℕ → Bool) (code : List PlacedLine) (k : ℕ) (line : Line) → slice_get (without_moves code) k ≡ Some line
    → is line.action (length line.args) ≡ true
    → (placed : PlacedLine) × ((slice_get code (line_in code k) ≡ Some placed) × (does_so is placed ≡ true))
has_line is [] k line e none = cc
has_line is (moves alive value way ∷ code) k line e none = has_line is code k line e none
has_line is (does alive action args into ∷ code) zero line e none =
    let same : line ≡ record { action = action; args = map value_of args; into = option_map value_of into } = cc in (
      does alive action args into,
      (
        refl,
        ap (is action) (sym (length-map args value_of)) ∙ ap (λ (l : Line). is l.action (length l.args)) (sym same) ∙ none,
      ),
    )
has_line is (does alive action args into ∷ code) (suc k) line e none = has_line is code k line e none

some_is_instruction : (line : PlacedLine) → does_so (λ action count. is_always_some action) line ≡ true → is_instruction line ≡ true
some_is_instruction (does alive action args into) so = so
some_is_instruction (moves alive value way) so = cc so

own_is_own : (line : PlacedLine) → does_so is_own line ≡ true → is_own_line line ≡ true
own_is_own (does alive action args into) so = so
own_is_own (moves alive value way) so = cc so

-- two statements at one line are one
one_line : (code : List PlacedLine) (k j : ℕ) (line other : Line) → slice_get (without_moves code) k ≡ Some line
    → slice_get (without_moves code) j ≡ Some other
    → line_in code k ≡ line_in code j → k ≡ j
one_line [] k j line other e d same = cc
one_line (moves alive value way ∷ code) k j line other e d same = one_line code k j line other e d (omega (arith, same))
one_line (does alive action args into ∷ code) zero zero line other e d same = refl
one_line (does alive action args into ∷ code) zero (suc j) line other e d same = absurd (omega (arith, same))
one_line (does alive action args into ∷ code) (suc k) zero line other e d same = absurd (omega (arith, same))
one_line (does alive action args into ∷ code) (suc k) (suc j) line other e d same =
    ap suc (one_line code k j line other e d (omega (arith, same)))

fewer_left : (code : List PlacedLine) (j : ℕ) → length (without_moves (drop j code)) ≤ length (without_moves code)
fewer_left [] j = omega (arith, ap (λ (c : List PlacedLine). length (without_moves c)) (drop-nil {A = PlacedLine} j))
fewer_left (line ∷ code) zero = omega arith
fewer_left (moves alive value way ∷ code) (suc j) = fewer_left code j
fewer_left (does alive action args into ∷ code) (suc j) = omega (arith, fewer_left code j)

-- where a statement comes next, behind k others, it is the line of the k-th
pub line_is : (code : List PlacedLine) (j k : ℕ) (alive : List Listed) (action : Action) (args : List Operand)
    (into : Option Operand) (rest : List PlacedLine)
    → drop j code ≡ does alive action args into ∷ rest → length (without_moves (drop j code)) + k ≡ length (without_moves code)
    → j ≡ line_in code k
line_is [] j k alive action args into rest at left = absurd (nothing_here (sym (drop-nil {A = PlacedLine} j) ∙ at))
  where
    nothing_here : [] ≡ does alive action args into ∷ rest → ⊥
    nothing_here e = cc
line_is (moves alive' value way ∷ code) zero k alive action args into rest at left = cc
line_is (moves alive' value way ∷ code) (suc j) k alive action args into rest at left =
    ap suc (line_is code j k alive action args into rest at left)
line_is (does alive' action' args' into' ∷ code) zero zero alive action args into rest at left = refl
line_is (does alive' action' args' into' ∷ code) zero (suc k) alive action args into rest at left = absurd (omega (arith, left))
line_is (does alive' action' args' into' ∷ code) (suc j) zero alive action args into rest at left =
    absurd (omega (arith, left, fewer_left code j))
line_is (does alive' action' args' into' ∷ code) (suc j) (suc k) alive action args into rest at left =
    ap suc (line_is code j k alive action args into rest at (omega (arith, left)))

-- the lines of a function that is there
pub line_of_is : (functions : List PlacedLines) (f : ℕ) (function : PlacedLines) → slice_get functions f ≡ Some function → (k : ℕ)
    → line_of functions f k ≡ line_in function.code k
line_of_is [] f function e k = cc
line_of_is (first ∷ functions) zero function e k =
    let same : first ≡ function = cc in
    ap (λ (p : PlacedLines). line_in p.code k) same
line_of_is (first ∷ functions) (suc f) function e k = line_of_is functions f function e k

-- each statement that is always an instruction has a line that is one
pub lines_there : (asm : List Lines) (placed : List PlacedLines) → ArePlacings asm placed → (f k : ℕ) → AsmHasLine asm f k
    → PlacedHasLine placed f (line_of placed f k)
lines_there asm placed all f k has =
    let p = callee_both asm placed all f has.0 has.1.0 in
    let line : Line = has.1.1.0 in
    let there = has_line (λ action count. is_always_some action) p.0.code k line (ap (λ (code : List Line). slice_get code k) p.2.code ∙ has.1.1.1.0)
    has.1.1.1.1 in
    (p.0, (p.1, (there.0, (ap (slice_get p.0.code) (line_of_is placed f p.0 p.1 k) ∙ there.1.0, some_is_instruction there.0 there.1.1))))

-- and each own line has one that is an own line too
pub own_lines_there : (asm : List Lines) (placed : List PlacedLines) → ArePlacings asm placed → (f k : ℕ) → AsmHasOwnLine asm f k
    → PlacedHasOwnLine placed f (line_of placed f k)
own_lines_there asm placed all f k has =
    let p = callee_both asm placed all f has.0 has.1.0 in
    let line : Line = has.1.1.0 in
    let there = has_line is_own p.0.code k line (ap (λ (code : List Line). slice_get code k) p.2.code ∙ has.1.1.1.0) has.1.1.1.1 in
    (p.0, (p.1, (there.0, (ap (slice_get p.0.code) (line_of_is placed f p.0 p.1 k) ∙ there.1.0, own_is_own there.0 there.1.1))))

-- and no two have one
pub lines_apart : (asm : List Lines) (placed : List PlacedLines) → ArePlacings asm placed → (f k j : ℕ) → AsmHasLine asm f k
    → AsmHasLine asm f j
    → line_of placed f k ≡ line_of placed f j → k ≡ j
lines_apart asm placed all f k j has other same =
    let p = callee_both asm placed all f has.0 has.1.0 in
    let one : has.0 ≡ other.0 = cc in
    one_line p.0.code k j has.1.1.0 other.1.1.0 (ap (λ (code : List Line). slice_get code k) p.2.code ∙ has.1.1.1.0)
    (ap (λ (code : List Line). slice_get code j) (p.2.code ∙ ap (λ (l : Lines). l.code) one) ∙ other.1.1.1.0)
    (sym (line_of_is placed f p.0 p.1 k) ∙ same ∙ line_of_is placed f p.0 p.1 j)
