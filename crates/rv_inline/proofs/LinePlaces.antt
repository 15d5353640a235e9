-- Where both machines are in the code.
use Rattle.std.proofs.Common.{◌≡◌, inl, inr, ℕ, zero, suc, List, [], ◌∷◌, Some, Bool, true, false, cond}
use Rattle.std.proofs.Common.{drop, refl, sym, ap, ◌∙◌, subst}
use Rattle.std.proofs.lemmas.List.{drop-drop}
use Rattle.rv_isa.specs.AsmCode.{Line, Lines}
use Rattle.rv_isa.specs.AsmMachine.{is_label}
use Rattle.rv_isa.specs.Frames.{Frame, found}
use Rattle.rv_isa.specs.ValueBounds.{AreLinesBelow}
use Rattle.rv_inline.specs.InLine.{IsLeafCall, lines_for, AreInLine, IsInLine}
use Rattle.rv_inline.specs.InLineLines.{width, index_in}
use Rattle.rv_inline.specs.Relation.{IsLike, IsAtLine}
use Rattle.rv_inline.proofs.FrameValues.{same_some}
use Rattle.rv_inline.proofs.Labels.{marks, passed_by, behind_call, found_below}
use Rattle.rv_inline.proofs.LineIndices.{index_zero, behind_same, behind_lines, at_index, next_index}

-- at the beginning of a function
pub first_line : (q : List Lines) (base : ℕ) (old new : Lines) → IsInLine q base old new
    → IsAtLine q base old.code new.code old.code new.code
first_line q base old new is = record {
  below = is.below.1;
  is = is.code;
  line = 0;
  code_is = refl;
  new_is = sym (ap (λ (n : ℕ). drop n new.code) (index_zero q old.code new.code));
}

-- ---- the next line

drop_next : (k : ℕ) (whole : List Line) (line : Line) (rest : List Line) → drop k whole ≡ line ∷ rest → drop (suc k) whole ≡ rest
drop_next zero [] line rest is = cc is
drop_next (suc k) [] line rest is = cc is
drop_next zero (first ∷ whole) line rest is = cc is
drop_next (suc k) (first ∷ whole) line rest is = drop_next k whole line rest is

module _ (q : List Lines) (base : ℕ) (whole whole' : List Line) (line : Line) (rest rest' new : List Line) where
  -- where so many lines of the code with calls in line are passed
  passed : (at : IsAtLine q base whole whole' (line ∷ rest) new) → drop (width q line new) new ≡ rest'
      → AreInLine q base rest rest' → IsAtLine q base whole whole' rest rest'
  passed at behind is = record {
    below = at.below.1;
    is = is;
    line = suc at.line;
    code_is = sym (drop_next at.line whole line rest (sym at.code_is));
    new_is = sym behind ∙ ap (λ (lines : List Line). drop (width q line lines) lines) at.new_is
        ∙ sym (next_index q at.line whole whole' line rest (sym at.code_is));
  }

  pub next_line : IsAtLine q base whole whole' (line ∷ rest) new → new ≡ line ∷ rest' → AreInLine q base rest rest'
      → IsAtLine q base whole whole' rest rest'
  next_line at new_is is = passed at (behind_same q line new rest' new_is) is

  pub behind_call_line : (call : IsLeafCall q base line) → IsAtLine q base whole whole' (line ∷ rest) new
      → new ≡ lines_for line call rest' → AreInLine q base rest rest' → IsAtLine q base whole whole' rest rest'
  behind_call_line call at new_is is = passed at (behind_lines q base line call new rest' new_is) is

-- ---- jumps

-- a label leads to lines of the code with calls in line that stand at the index of the line
record Found (q : List Lines) (l base : ℕ) (old new code : List Line) : Type 0 where
  line : ℕ
  code_is : code ≡ drop line old
  found_is : found (marks l) new ≡ Some (drop (index_in q line old new) new)

found_behind : (q : List Lines) (l base : ℕ) (line : Line) (old new rest code : List Line) → drop (width q line new) new ≡ rest
    → found (marks l) new ≡ found (marks l) rest → Found q l base old rest code → Found q l base (line ∷ old) new code
found_behind q l base line old new rest code behind passes there =
    let wide : ℕ = width q line new in
    let index : drop (index_in q there.line old rest) rest ≡ drop (index_in q (suc there.line) (line ∷ old) new) new
    = ap (λ (lines : List Line). drop (index_in q there.line old lines) lines) (sym behind)
    ∙ drop-drop (index_in q there.line old (drop wide new)) wide new in
    record {
      line = suc there.line;
      code_is = there.code_is;
      found_is = passes ∙ there.found_is ∙ ap (λ (lines : List Line). Some lines) index;
    }

found_at : (q : List Lines) (l base : ℕ) (old new code : List Line) → AreInLine q base old new → found (marks l) old ≡ Some code
    → Found q l base old new code
found_at q l base [] new code is at = cc at
found_at q l base (line ∷ old) new code (inl (rest, (new_is, is))) at =
    by (marks l line) refl at (found_at q l base old rest code is)
  where
    by : (here : Bool) → marks l line ≡ here → cond here (Some (line ∷ old)) (found (marks l) old) ≡ Some code
        → (found (marks l) old ≡ Some code → Found q l base old rest code) → Found q l base (line ∷ old) new code
    by true here_is at later = record {
      line = 0;
      code_is = sym (same_some (line ∷ old) code at);
      found_is = ap (found (marks l)) new_is
          ∙ ap (λ (here : Bool). cond here (Some (line ∷ rest)) (found (marks l) rest)) here_is
          ∙ ap (λ (lines : List Line). Some lines) (sym new_is);
    }
    by false here_is at later =
        found_behind q l base line old new rest code (behind_same q line new rest new_is)
        (ap (found (marks l)) new_is ∙ ap (λ (here : Bool). cond here (Some (line ∷ rest)) (found (marks l) rest)) here_is)
        (later at)
found_at q l base (line ∷ old) new code (inr (call, (rest, (new_is, is)))) at =
    let no_label : marks l line ≡ false = ap (is_label l) call.calls in
    let behind : found (marks l) old ≡ Some code
    = sym (passed_by (marks l line) (Some (line ∷ old)) (found (marks l) old) no_label) ∙ at in
    found_behind q l base line old new rest code (behind_lines q base line call new rest new_is)
    (ap (found (marks l)) new_is ∙ behind_call q l base line call rest) (found_at q l base old rest code is behind)

pub found_place : (q : List Lines) (l base : ℕ) (whole whole' code : List Line) → AreInLine q base whole whole'
    → AreLinesBelow base whole → found (marks l) whole ≡ Some code
    → (code' : List Line) × ((found (marks l) whole' ≡ Some code') × IsAtLine q base whole whole' code code')
found_place q l base whole whole' code both below at =
    let there = found_at q l base whole whole' code both at in
    let left : List Line = drop (index_in q there.line whole whole') whole' in (
      left,
      (
        there.found_is,
        record {
          below = found_below l base whole code below at;
          is = at_index q base there.line whole whole' code both (sym there.code_is);
          line = there.line;
          code_is = there.code_is;
          new_is = refl;
        },
      ),
    )

-- ---- the functions of frames

module _ (q q' : List Lines) (base : ℕ) (f g : Frame Line) (like : IsLike q q' base f g) where
  pub wholes_in_line : AreInLine q base f.whole g.whole
  wholes_in_line =
      subst (λ (whole : List Line). AreInLine q base whole g.whole) (sym like.whole)
      (subst (λ (whole : List Line). AreInLine q base like.old.code whole) (sym like.whole') like.is.code)

  pub whole_below : AreLinesBelow base f.whole
  whole_below = subst (AreLinesBelow base) (sym like.whole) like.is.below.1
