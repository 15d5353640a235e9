-- A label is found where it stands.
use Rattle.std.proofs.Common.{◌≡◌, ℕ, List, [], ◌∷◌, ◌++◌, Option, Some, None, Bool, true, false, cond, refl, ap, subst, eqb-true, eq-eqb}
use Rattle.rv_isa.specs.declared.asm.Action.{Action}
use Rattle.rv_isa.specs.declared.asm.Action.TheVariants.{Compute, Label, Jump, Branch, Call, TailCall, Return, Routine, Hold, Unhold, Room}
use Rattle.rv_isa.specs.AsmCode.{Line}
use Rattle.rv_isa.specs.AsmMachine.{is_label}
use Rattle.rv_isa.specs.Frames.{found}
use Rattle.rv_isa.specs.WellFormed.{AreLabelsAhead, AreLinesFormed}
use Rattle.rv_lower.specs.Lines.{acts}

abbrev pub found_label : ℕ → List Line → Option (List Line)
found_label l lines = found (λ line. is_label l line.action) lines

none_behind : (l : ℕ) (action : Action) (rest : List Line) → is_label l action ≡ true → AreLabelsAhead action rest → found_label l rest ≡ None
none_behind l (Label m) rest is ahead = subst (λ k. found_label k rest ≡ None) (eqb-true m l is) ahead
none_behind l (Compute operation) rest is ahead = cc is
none_behind l (Jump m) rest is ahead = cc is
none_behind l (Branch condition m) rest is ahead = cc is
none_behind l (Call f) rest is ahead = cc is
none_behind l (TailCall f) rest is ahead = cc is
none_behind l Return rest is ahead = cc is
none_behind l (Routine routine) rest is ahead = cc is
none_behind l Hold rest is ahead = cc is
none_behind l Unhold rest is ahead = cc is
none_behind l Room rest is ahead = cc is

one_on : (test : Bool) (line : Line) (rest : List Line) (later : Option (List Line)) (code : List Line) → later ≡ Some code → (test ≡ true → later ≡ None) → cond test (Some (line ∷ rest)) later ≡ Some code
one_on true line rest later code is none = cc (is, none refl)
one_on false line rest later code is none = is

-- in well-formed lines a label stands once
pub label_found : (l : ℕ) (start left : List Line) → AreLinesFormed (start ++ (acts (Label l) [] ∷ left)) → found_label l (start ++ (acts (Label l) [] ∷ left)) ≡ Some (acts (Label l) [] ∷ left)
label_found l [] left formed = ap (λ (b : Bool). cond b (Some (acts (Label l) [] ∷ left)) (found_label l left)) (eq-eqb l l refl)
label_found l (line ∷ start) left formed =
    let rest : List Line = start ++ (acts (Label l) [] ∷ left) in
    one_on (is_label l line.action) line rest (found_label l rest) (acts (Label l) [] ∷ left) (label_found l start left formed.1) (λ is. none_behind l line.action rest is formed.0.labels)
