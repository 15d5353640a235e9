use Rattle.kk_names.proofs.NameResolution.{each_tree_is_resolved}
use Rattle.kk_names.proofs.program.each_tree_is_resolved.Goals as goal

pub returns : goal.returns
returns c = each_tree_is_resolved
