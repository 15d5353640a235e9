-- Code in which a label does not stand: what is behind it at that label is what is in the whole at it.
use Rattle.std.proofs.Common.{◌≡◌, ℕ, false, cond, List, [], ◌∷◌, ◌++◌, Some, None, refl, ap, ◌∙◌}
use Rattle.std.proofs.lemmas.Bool.{eq-eqb, ne_eqb}
use Rattle.rv_isa.specs.declared.asm.Action.TheVariants.{Label}
use Rattle.rv_isa.specs.AsmCode.{Line}
use Rattle.rv_isa.specs.AsmMachine.{is_label}
use Rattle.rv_isa.specs.WellFormed.{is_alive, is_alive_at}
use Rattle.rv_lower.specs.Lines.{acts}
use Rattle.rv_lower.proofs.Labels.{found_label}

-- the label does not stand in code
abbrev pub HasNo : ℕ → List Line → Type 0
HasNo l [] = Unit {0}
HasNo l (line ∷ rest) = (is_label l line.action ≡ false) × HasNo l rest

pub has_no_append : (l : ℕ) (lines more : List Line) → HasNo l lines → HasNo l more → HasNo l (lines ++ more)
has_no_append l [] more none later = later
has_no_append l (line ∷ lines) more none later = (none.0, has_no_append l lines more none.1 later)

pub found_none : (l : ℕ) (lines : List Line) → HasNo l lines → found_label l lines ≡ None
found_none l [] none = refl
found_none l (line ∷ lines) none = ap (λ b. cond b (Some (line ∷ lines)) (found_label l lines)) none.0 ∙ found_none l lines none.1

pub found_past : (l : ℕ) (lines more : List Line) → HasNo l lines → found_label l (lines ++ more) ≡ found_label l more
found_past l [] more none = refl
found_past l (line ∷ lines) more none =
    ap (λ b. cond b (Some (line ∷ (lines ++ more))) (found_label l (lines ++ more))) none.0 ∙ found_past l lines more none.1

pub alive_at_past : (l v : ℕ) (lines more : List Line) → HasNo l lines → is_alive_at l v (lines ++ more) ≡ is_alive_at l v more
alive_at_past l v [] more none = refl
alive_at_past l v (line ∷ lines) more none =
    ap (λ b. cond b (is_alive v (lines ++ more)) (is_alive_at l v (lines ++ more))) none.0 ∙ alive_at_past l v lines more none.1

pub found_here : (l : ℕ) (rest : List Line) → found_label l (acts (Label l) [] ∷ rest) ≡ Some (acts (Label l) [] ∷ rest)
found_here l rest = ap (λ b. cond b (Some (acts (Label l) [] ∷ rest)) (found_label l rest)) (eq-eqb l l refl)

pub alive_at_here : (l v : ℕ) (rest : List Line) → is_alive_at l v (acts (Label l) [] ∷ rest) ≡ is_alive v rest
alive_at_here l v rest = ap (λ b. cond b (is_alive v rest) (is_alive_at l v rest)) (eq-eqb l l refl)

pub other_label : (l m : ℕ) → (m ≡ l → ⊥) → is_label l (Label m) ≡ false
other_label l m other = ne_eqb m l other
