-- One token after the other.
use Rattle.std.proofs.Common.{◌≡◌, List, [], ◌∷◌, length, sym, ap, ◌∙◌}
use Rattle.kk_base.specs.declared.span.Span.{Span}
use Rattle.kk_syntax.specs.declared.token.LocatedToken.{LocatedToken}
use Rattle.kk_layout.specs.Layouts.{first_place, taken, laid_behind, laid_out_items}
use Rattle.kk_layout.specs.Rules.{first_rule, ended}
use Rattle.kk_layout.specs.States.{State, start}

-- the first token of a text is taken
pub laid_first : (end : Span) (tokens : List LocatedToken) (first : LocatedToken) (rest : List LocatedToken) (place : Span) (s₀ s₁ : State)
    → tokens ≡ first ∷ rest → s₀ ≡ start first.span.column → place ≡ first_place end rest → s₁ ≡ taken first place.column s₀
    → (laid_behind end first rest s₁).laid ≡ laid_out_items end tokens
laid_first end tokens first rest place s₀ s₁ whole begun behind taken_is =
    let e : s₁ ≡ taken first (first_place end rest).column (start first.span.column) =
    taken_is ∙ (ap (λ p. taken first p.column s₀) behind ∙ ap (λ s. taken first (first_place end rest).column s) begun) in
    ap (λ s. (laid_behind end first rest s).laid) e ∙ sym (ap (λ l. laid_out_items end l) whole)

-- one more token is taken
pub laid_next : (end : Span) (previous token : LocatedToken) (rest after : List LocatedToken) (place : Span) (s₀ s₁ s₂ : State) (whole : List LocatedToken)
    → rest ≡ token ∷ after → s₁ ≡ first_rule previous token s₀ → place ≡ first_place end after → s₂ ≡ taken token place.column s₁
    → (laid_behind end previous rest s₀).laid ≡ whole → (laid_behind end token after s₂).laid ≡ whole
laid_next end previous token rest after place s₀ s₁ s₂ whole parts begun behind taken_is so_far =
    let e : s₂ ≡ taken token (first_place end after).column (first_rule previous token s₀) =
    taken_is ∙ (ap (λ p. taken token p.column s₁) behind ∙ ap (λ s. taken token (first_place end after).column s) begun) in
    ap (λ s. (laid_behind end token after s).laid) e ∙ (sym (ap (λ l. (laid_behind end previous l s₀).laid) parts) ∙ so_far)

-- no token is left
pub laid_last : (end : Span) (previous : LocatedToken) (rest : List LocatedToken) (s : State) (whole : List LocatedToken)
    → length rest ≡ 0 → (laid_behind end previous rest s).laid ≡ whole → (ended end s).laid ≡ whole
laid_last end previous [] s whole none so_far = so_far
laid_last end previous (t ∷ rest) s whole none so_far = cc
