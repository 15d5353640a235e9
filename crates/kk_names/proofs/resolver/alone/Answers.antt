use Rattle.std.proofs.Common.{◌+◌, [], map, refl, sym, ap, ◌∙◌}
use Rattle.kk_syntax.proofs.Views.{apply_is}
use Rattle.kk_syntax.specs.Depths.{deepest, depth_of}
use Rattle.kk_names.proofs.Depths.{apply_deep}
use Rattle.kk_names.proofs.resolver.alone.Goals as goal

pub returns-clause-tree : goal.returns-clause-tree
returns-clause-tree c = apply_is _ c.args.form c.new.result [] refl (sym c.new.ensures.items)

pub returns-clause-depth : goal.returns-clause-depth
returns-clause-depth c = apply_deep c.args.form c.new.result ∙ ap (λ es. deepest (map depth_of es) + 1) c.new.ensures.items
