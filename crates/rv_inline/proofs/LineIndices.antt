-- The index of a line of the code in that with calls in line.
use Rattle.std.proofs.Common.{◌≡◌, ◌<◌, ◌≤◌, inl, inr, ℕ, zero, suc, ◌+◌, List, [], ◌∷◌, ◌++◌, Option, Bool, true, false}
use Rattle.std.proofs.Common.{map, length, drop, refl, sym, ap, ◌∙◌, subst, arith}
use Rattle.std.proofs.Math.Seq.{drop-append_seam}
use Rattle.std.proofs.lemmas.List.{append_assoc, length-append, length-map, drop-drop}
use Rattle.rv_isa.specs.declared.asm.Action.{Action}
use Rattle.rv_isa.specs.declared.asm.Action.TheVariants.{Compute, Label, Jump, Branch, Call, TailCall, Return, Routine, Hold}
use Rattle.rv_isa.specs.declared.asm.Action.TheVariants.{Unhold, Room}
use Rattle.rv_isa.specs.AsmCode.{Line, Lines}
use Rattle.rv_inline.specs.InLine.{gives_back, named, named_line, copy, room, IsLeafCall, lines_for, AreInLine}
use Rattle.rv_inline.specs.InLineLines.{is_room, begins_with_room, lines_in, width_of, width, index_in}

pub index_zero : (q : List Lines) (old new : List Line) → index_in q 0 old new ≡ 0
index_zero q [] new = refl
index_zero q (line ∷ old) new = refl

-- ---- widths

same_width : (q : List Lines) (action : Action) → width_of q action (is_room action) ≡ 1
same_width q (Compute operation) = refl
same_width q (Label l) = refl
same_width q (Jump l) = refl
same_width q (Branch condition l) = refl
same_width q (Call g) = refl
same_width q (TailCall g) = refl
same_width q Return = refl
same_width q (Routine routine) = refl
same_width q Hold = refl
same_width q Unhold = refl
same_width q Room = refl

some_width : (q : List Lines) (action : Action) (asks : Bool) → 1 ≤ width_of q action asks
some_width q (Compute operation) asks = omega arith
some_width q (Label l) asks = omega arith
some_width q (Jump l) asks = omega arith
some_width q (Branch condition l) asks = omega arith
some_width q (Call g) true = omega arith
some_width q (Call g) false = omega arith
some_width q (TailCall g) asks = omega arith
some_width q Return asks = omega arith
some_width q (Routine routine) asks = omega arith
some_width q Hold asks = omega arith
some_width q Unhold asks = omega arith
some_width q Room asks = omega arith

-- the lines in place of a call, one more than the leaf has
abbrev whole_call : {q : List Lines} {base : ℕ} (line : Line) → IsLeafCall q base line → List Line
whole_call line call = lines_for line call []

call_split : (q : List Lines) (base : ℕ) (line : Line) (call : IsLeafCall q base line) (rest : List Line)
    → lines_for line call rest ≡ whole_call line call ++ rest
call_split q base line call rest =
    ap (λ (lines : List Line). room ∷ lines) (sym (append_assoc (map (named_line base line.args) call.body)
    (copy (named base line.args call.value) call.into ∷ []) rest))

call_width : (q : List Lines) (base : ℕ) (line : Line) (call : IsLeafCall q base line)
    → width_of q line.action true ≡ length (whole_call line call)
call_width q base line call =
    let last : Line = copy (named base line.args call.value) call.into in
    let leaf : width_of q line.action true ≡ suc (length call.leaf.code)
    = ap (λ (action : Action). width_of q action true) call.calls ∙ ap (λ (o : Option Lines). suc (lines_in o)) call.leaf_is in
    let code : length call.leaf.code ≡ length call.body + 1
    = ap (λ (lines : List Line). length lines) call.is_leaf.code ∙ length-append call.body (gives_back call.value ∷ []) in
    let lines : length (map (named_line base line.args) call.body ++ (last ∷ [])) ≡ length call.body + 1
    = length-append (map (named_line base line.args) call.body) (last ∷ [])
    ∙ ap (λ (n : ℕ). n + 1) (length-map call.body (named_line base line.args)) in
    omega (arith, leaf, code, lines)

-- ---- what is left at an index

-- behind one line
pub behind_same : (q : List Lines) (line : Line) (new rest : List Line) → new ≡ line ∷ rest → drop (width q line new) new ≡ rest
behind_same q line new rest is =
    ap (λ (lines : List Line). drop (width q line lines) lines) is
    ∙ ap (λ (n : ℕ). drop n (line ∷ rest)) (same_width q line.action)

-- behind a call in line
pub behind_lines : (q : List Lines) (base : ℕ) (line : Line) (call : IsLeafCall q base line) (new rest : List Line)
    → new ≡ lines_for line call rest → drop (width q line new) new ≡ rest
behind_lines q base line call new rest is =
    ap (λ (lines : List Line). drop (width q line lines) lines) is
    ∙ ap (λ (lines : List Line). drop (width_of q line.action true) lines) (call_split q base line call rest)
    ∙ ap (λ (n : ℕ). drop n (whole_call line call ++ rest)) (call_width q base line call)
    ∙ drop-append_seam (whole_call line call) rest

-- what is left at the index of a line is the code with calls in line that is left
pub at_index : (q : List Lines) (base k : ℕ) (old new code : List Line) → AreInLine q base old new → drop k old ≡ code
    → AreInLine q base code (drop (index_in q k old new) new)
at_index q base zero old new code is left =
    subst (λ (c : List Line). AreInLine q base c (drop (index_in q 0 old new) new)) left
    (subst (λ (n : ℕ). AreInLine q base old (drop n new)) (sym (index_zero q old new)) is)
at_index q base (suc k) [] new code is left =
    subst (λ (c : List Line). AreInLine q base c new) left is
at_index q base (suc k) (line ∷ old) new code (inl (rest, (new_is, is))) left =
    let deep : ℕ = index_in q k old (drop (width q line new) new) in
    let behind : drop (width q line new) new ≡ rest = behind_same q line new rest new_is in
    subst (AreInLine q base code) (drop-drop deep (width q line new) new)
    (at_index q base k old (drop (width q line new) new) code (subst (AreInLine q base old) (sym behind) is) left)
at_index q base (suc k) (line ∷ old) new code (inr (call, (rest, (new_is, is)))) left =
    let deep : ℕ = index_in q k old (drop (width q line new) new) in
    let behind : drop (width q line new) new ≡ rest = behind_lines q base line call new rest new_is in
    subst (AreInLine q base code) (drop-drop deep (width q line new) new)
    (at_index q base k old (drop (width q line new) new) code (subst (AreInLine q base old) (sym behind) is) left)

-- the index of the next line
pub next_index : (q : List Lines) (k : ℕ) (old new : List Line) (line : Line) (rest : List Line) → drop k old ≡ line ∷ rest
    → drop (index_in q (suc k) old new) new
    ≡ drop (width q line (drop (index_in q k old new) new)) (drop (index_in q k old new) new)
next_index q zero [] new line rest is = cc is
next_index q (suc k) [] new line rest is = cc is
next_index q zero (first ∷ old) new line rest is =
    let same : first ≡ line = cc is in
    let none : index_in q 0 old (drop (width q first new) new) ≡ 0 = index_zero q old (drop (width q first new) new) in
    let one : width q first new + index_in q 0 old (drop (width q first new) new) ≡ width q first new = omega (arith, none) in
    ap (λ (n : ℕ). drop n new) one ∙ ap (λ (l : Line). drop (width q l new) new) same
next_index q (suc k) (first ∷ old) new line rest is =
    let wide : ℕ = width q first new in
    let behind : List Line = drop wide new in
    let deep : ℕ = index_in q k old behind in
    let here : drop deep behind ≡ drop (wide + deep) new = drop-drop deep wide new in
    sym (drop-drop (index_in q (suc k) old behind) wide new) ∙ next_index q k old behind line rest is
    ∙ ap (λ (lines : List Line). drop (width q line lines) lines) here

-- a later line has a later index
pub index_less : (q : List Lines) (j k : ℕ) (old new : List Line) (line : Line) (rest : List Line) → drop k old ≡ line ∷ rest → j < k
    → index_in q j old new < index_in q k old new
index_less q j zero old new line rest is less = absurd (omega (arith, less))
index_less q j (suc k) [] new line rest is less = cc is
index_less q zero (suc k) (first ∷ old) new line rest is less =
    omega (arith, some_width q first.action (begins_with_room new))
index_less q (suc j) (suc k) (first ∷ old) new line rest is less =
    omega (arith, index_less q j k old (drop (width q first new) new) line rest is (omega (arith, less)))
