use Rattle.std.proofs.Common.{ap, sym, ◌∙◌}
use Rattle.std.specs.Prelude.{nat_lt}
use Rattle.std.proofs.lemmas.Option.{slice_get-map}
use Rattle.kk_syntax.specs.declared.ground.GroundConstructor.{GroundConstructor}
use Rattle.kk_match.specs.Parts.{types_of, are_several}
use Rattle.kk_match.proofs.ConstructorTypes.{counted}
use Rattle.kk_match.proofs.question.has_several.Goals as goal

pub returns-in-Some : goal.returns-in-Some
returns-in-Some c =
    let constructors = c.args.constructors.now in
    ap (nat_lt 1) (c.constructor_count.ensures ∙ sym (counted c.in-Some.of_type constructors))
    ∙ ap (are_several (types_of constructors)) (c.in-Some.ensures ∙ sym (slice_get-map (λ (k : GroundConstructor). k.of_type) constructors c.args.of))

pub returns-in-None : goal.returns-in-None
returns-in-None c =
    let constructors = c.args.constructors.now in
    ap (are_several (types_of constructors)) (c.in-None.ensures ∙ sym (slice_get-map (λ (k : GroundConstructor). k.of_type) constructors c.args.of))
