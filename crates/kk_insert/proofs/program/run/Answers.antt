use Rattle.std.proofs.Common.{map, ap, ◌∙◌}
use Rattle.kk_insert.specs.Shapes.{facts_of}
use Rattle.kk_insert.proofs.ConstructorConsistency.{consistent}
use Rattle.kk_insert.proofs.program.run.Goals as goal

pub new-shape-requires : goal.new-shape-requires
new-shape-requires c =
    consistent c.in_ok-constructors.constructors.items c.args.core.now.constructors.items
    (c.in_ok-constructors.ensures ∙ ap (map facts_of) c.deref-2.ensures.value) c.requires.consistent
