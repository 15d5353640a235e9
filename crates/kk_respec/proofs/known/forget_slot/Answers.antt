use Rattle.std.proofs.Common.{rules, ◌==◌, not, map, ap, ◌∙◌}
use Rattle.std.proofs.lemmas.Fn.{filter_same}
use Rattle.kk_respec.specs.KnownTokens.{known_of}
use Rattle.kk_respec.proofs.KnownTokens.{filtered_known}
use Rattle.kk_respec.proofs.known.forget_slot.Goals as goal

pub returns : goal.returns
returns c =
    ap (map known_of)
    (filter_same _ (λ one. not (one.slot == c.args.slot)) _ (λ x b f' k. search rules) _ _ c.retain.ensures.filtered)
    ∙ filtered_known (λ one. not (one.slot == c.args.slot)) c.args.known.now.items
