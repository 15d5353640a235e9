-- The types of constructors, counted and looked through.
use Rattle.std.proofs.Common.{◌≡◌, ℕ, ◌+◌, ◌<◌, true, false, not, ◌&&◌, Some, List, [], ◌∷◌, length, drop, refl, sym, ap, ◌∙◌}
use Rattle.std.specs.Prelude.{◌==◌, count_by, cond, if◌then◌else◌}
use Rattle.std.proofs.lemmas.List.{drop_more}
use Rattle.std.proofs.lemmas.List.Sums.{sum_by-cons}
use Rattle.kk_syntax.specs.declared.ground.GroundConstructor.{GroundConstructor}
use Rattle.kk_core.specs.declared.decisions.Answer.{Answer}
use Rattle.kk_core.specs.declared.decisions.Answer.TheVariants.{Constructor}
use Rattle.kk_match.specs.Parts.{types_of, is_kind}
use Rattle.kk_match.specs.Outcomes.{is_listed, unlisted_from}

pub counted : (of : ℕ) (constructors : List GroundConstructor) → count_by (λ other. other == of) (types_of constructors) ≡ count_by (λ (c : GroundConstructor). c.of_type == of) constructors
counted of [] = refl
counted of (c ∷ constructors) =
    sum_by-cons (λ other. cond (other == of) 1 0) c.of_type (types_of constructors)
    ∙ (ap (λ n. cond (c.of_type == of) 1 0 + n) (counted of constructors) ∙ sym (sum_by-cons (λ (k : GroundConstructor). cond (k.of_type == of) 1 0) c constructors))

pub unlisted_more : (types : List ℕ) (asked : Answer) (answers : List Answer) (d : ℕ) → d < length types
    → (is_kind types asked (Constructor d) && not (is_listed answers (Constructor d))) ≡ false
    → unlisted_from types asked answers d (drop d types) ≡ unlisted_from types asked answers (d + 1) (drop (d + 1) types)
unlisted_more types asked answers d lt fails =
    ap (unlisted_from types asked answers d) (drop_more types d 0 lt)
    ∙ ap (λ b. if b then Some (Some (Constructor d)) else unlisted_from types asked answers (d + 1) (drop (d + 1) types)) fails

pub unlisted_here : (types : List ℕ) (asked : Answer) (answers : List Answer) (d : ℕ) → d < length types
    → (is_kind types asked (Constructor d) && not (is_listed answers (Constructor d))) ≡ true
    → unlisted_from types asked answers d (drop d types) ≡ Some (Some (Constructor d))
unlisted_here types asked answers d lt holds =
    ap (unlisted_from types asked answers d) (drop_more types d 0 lt)
    ∙ ap (λ b. if b then Some (Some (Constructor d)) else unlisted_from types asked answers (d + 1) (drop (d + 1) types)) holds
