use Rattle.std.proofs.Common.{rules, not, map, ap, ◌∙◌}
use Rattle.std.proofs.lemmas.Fn.{filter_same}
use Rattle.kk_syntax.specs.Shapes.{is_among}
use Rattle.kk_respec.specs.KnownTokens.{known_of}
use Rattle.kk_respec.proofs.KnownTokens.{filtered_known}
use Rattle.kk_respec.proofs.known.forget_variable.Goals as goal

pub returns : goal.returns
returns c =
    ap (map known_of)
    (filter_same _ (λ one. not (is_among one.fields.items c.args.variable)) _ (λ x b f' k. search rules) _ _
    c.retain.ensures.filtered)
    ∙ filtered_known (λ one. not (is_among one.fields c.args.variable)) c.args.known.now.items
