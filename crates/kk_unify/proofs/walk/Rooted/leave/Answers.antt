use Rattle.std.proofs.Common.{rules, ◌≡◌, ◌∙◌, ap, sym, map, refl, length, set}
use Rattle.kk_unify.specs.declared.walk.Mark.TheVariants.{Numbered}
use Rattle.kk_syntax.specs.Types.{type_at}
use Rattle.kk_syntax.specs.TypedPrograms.{node_types}
use Rattle.kk_unify.specs.GraphWalk.{made_type}
use Rattle.kk_unify.proofs.NodeLists.{read}
use Rattle.kk_unify.proofs.walk.Rooted.leave.Goals as goal

pub returns : goal.returns
returns c = record {
  marks = (let same : c.in_ok-number.number ≡ length c.args.walk.now.made.items = search rules in ap (λ n. set c.args.walk.now.marks.items c.args.frame.node (Numbered n)) same);
  frames = refl;
  made = c.made_node-made.result;
  nodes = c.in_ok-push.ensures.items;
  made_is = c.made_node-made.ensures.made c.args.self.now.variables c.args.frame.node refl (node_types c.args.walk.now.made.items) ∙ ap (made_type c.args.self.now.variables c.args.frame.node (map (type_at (node_types c.args.walk.now.made.items)) c.args.frame.numbers.items)) (sym (read c.args.self.now.nodes.now c.args.frame.node _ _ c.requires.node refl));
  earlier = c.made_node-made.ensures.earlier (length c.args.walk.now.made.items) c.requires.numbers;
}
