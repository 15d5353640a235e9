use Rattle.std.proofs.Common.{◌≡◌, ℕ, ◌<◌, true, false, not, ◌&&◌, Some, length, ap, sym, ◌∙◌, subst, arith}
use Rattle.std.proofs.lemmas.List.{length-map}
use Rattle.kk_syntax.specs.declared.ground.GroundConstructor.{GroundConstructor}
use Rattle.kk_core.specs.declared.decisions.Answer.TheVariants.{Constructor}
use Rattle.kk_match.specs.Parts.{types_of, is_kind}
use Rattle.kk_match.specs.Outcomes.{is_listed}
use Rattle.kk_match.proofs.ConstructorTypes.{unlisted_more, unlisted_here}
use Rattle.kk_match.proofs.outcome.unlisted_constructor.Goals as goal

pub loop-place-preserved : goal.loop-place-preserved
loop-place-preserved c =
    let types = types_of c.args.constructors.now in
    let d = c.loop-place.place in
    let lt : d < length types = omega (arith, length-map c.args.constructors.now (λ (k : GroundConstructor). k.of_type), c.loop-place-test.true) in
    let F : ℕ → Type 0 = λ n. (is_kind types (Constructor c.args.of) (Constructor n) && not (is_listed c.args.answers.now (Constructor n))) ≡ false in
    sym (unlisted_more types (Constructor c.args.of) c.args.answers.now d lt (subst F c.in-Ok.ensures.1 (sym c.if-is_unlisted.ensures))) ∙ c.loop-place.invariant

pub returns-then-is_unlisted : goal.returns-then-is_unlisted
returns-then-is_unlisted c =
    let types = types_of c.args.constructors.now in
    let d = c.loop-place.place in
    let lt : d < length types = omega (arith, length-map c.args.constructors.now (λ (k : GroundConstructor). k.of_type), c.loop-place-test.true) in
    let F : ℕ → Type 0 = λ n. (is_kind types (Constructor c.args.of) (Constructor n) && not (is_listed c.args.answers.now (Constructor n))) ≡ true in
    ap (λ n. Some (Some (Constructor n))) c.in-Ok.ensures.1
    ∙ (sym (unlisted_here types (Constructor c.args.of) c.args.answers.now d lt (subst F c.in-Ok.ensures.1 (sym c.if-is_unlisted.ensures))) ∙ c.loop-place.invariant)
