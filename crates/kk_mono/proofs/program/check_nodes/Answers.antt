use Rattle.std.proofs.Common.{◌≤◌, map, ap, sym, ◌∙◌, arith}
use Rattle.std.proofs.lemmas.List.{drop_all}
use Rattle.kk_base.specs.declared.limit.LimitKind.TheVariants.{FunctionNodes}
use Rattle.kk_base.specs.Limits.{greatest_of}
use Rattle.kk_syntax.specs.Programs.{function_tree}
use Rattle.kk_syntax.specs.Shapes.{greatest_of as nodes_at_most, nodes_of}
use Rattle.kk_syntax.specs.Trees.{expr_tree}
use Rattle.std.specs.Prelude.{option_map}
use Rattle.kk_mono.specs.Counts.{too_many_nodes}
use Rattle.kk_mono.specs.PassedLimits.{told}
use Rattle.kk_mono.proofs.CountAnswers.{few_more, greatest_more}
use Rattle.kk_mono.proofs.program.check_nodes.Goals as goal

pub loop-function-preserved : goal.loop-function-preserved
loop-function-preserved c =
    let functions = c.args.functions.now in
    let i = c.loop-function.function-index in
    let nodes = c.nodes-count.ensures in
    let greatest = c.greatest.ensures in
    let few : nodes_of (expr_tree c.function-item.result.body) ≤ greatest_of FunctionNodes = omega (arith, nodes, greatest, c.if-count-greatest.false) in
    let more = greatest_more functions i c.function-item.result c.loop-function-test.true c.function-item.is in
    let so_far = c.loop-function.invariant.greatest in
    let most = c.max-greatest.ensures in
    record {
      few = c.loop-function.invariant.few
          ∙ few_more functions i c.function-item.result c.loop-function-test.true c.function-item.is few;
      greatest = omega (arith, so_far, more, most, nodes, few);
    }

pub returns-clause-ok : goal.returns-clause-ok
returns-clause-ok c =
    let none = ap (λ fs. nodes_at_most (map function_tree fs))
    (drop_all c.loop-function.function-index c.args.functions.now c.loop-function-test.false) in
    let so_far = c.loop-function.invariant.greatest in
    omega (arith, none, so_far)

pub returns-clause-err : goal.returns-clause-err
returns-clause-err c =
    ap (option_map (told FunctionNodes))
    (sym (c.loop-function.invariant.few
    ∙ ap (λ fs. too_many_nodes (map function_tree fs))
    (drop_all c.loop-function.function-index c.args.functions.now c.loop-function-test.false)))
