use Rattle.std.proofs.Common.{map, ap, ◌∙◌, inl, inr, arith}
use Rattle.kk_syntax.specs.Programs.{function_tree}
use Rattle.kk_syntax.specs.Shapes.{greatest_of}
use Rattle.kk_mono.proofs.SearchAnswer.{keys_below}
use Rattle.kk_mono.proofs.ProgramLimits.{all_few, greatest_few}
use Rattle.kk_mono.proofs.CountAnswers.{nodes_told, none_large}
use Rattle.kk_mono.proofs.program.instances_as_typed.Goals as goal

pub returns-in-Err : goal.returns-in-Err
returns-in-Err c = inl (nodes_told c.args.typed.now.program c.deref.result.now c.in-Err.limit c.deref.ensures.value c.in-Err.ensures.err)

pub check_instances-requires : goal.check_instances-requires
check_instances-requires c = keys_below c.args.typed.now c.requires.complete c.in_ok-found.found c.in_ok-found.ensures

pub ground-requires-clause-functions : goal.ground-requires-clause-functions
ground-requires-clause-functions c = keys_below c.args.typed.now c.requires.complete c.in_ok-found.found c.in_ok-found.ensures

pub ground-requires-clause-constructors : goal.ground-requires-clause-constructors
ground-requires-clause-constructors c = c.in_ok-found.ensures.searching.below

pub ground-requires-clause-types : goal.ground-requires-clause-types
ground-requires-clause-types c = c.in_ok-found.ensures.searching.used_within

pub ground-requires-clause-none : goal.ground-requires-clause-none
ground-requires-clause-none c = record {
  declared = c.requires.declared;
  none = none_large c.args.typed.now.program c.deref.result.now c.deref.ensures.value c.in-Ok.ensures.err;
  few = c.in-Ok-check_instances.ensures.ok;
  parameters = all_few c.args.typed.now c.in_ok-found.found c.requires.declared c.in_ok-found.ensures;
}

pub ground-requires-clause-greatest : goal.ground-requires-clause-greatest
ground-requires-clause-greatest c =
    let most = greatest_few c.args.typed.now.program c.deref.result.now c.deref.ensures.value c.in-Ok.ensures.err in
    let is = c.in-Ok.ensures.ok in
    omega (arith, most, is)

pub ground-requires-clause-summed : goal.ground-requires-clause-summed
ground-requires-clause-summed c =
    let is = c.in-Ok-check_instances.ensures.nodes in
    let small = c.in-Ok-check_instances.ensures.ok.small in
    omega (arith, is, small)

pub returns-in_ok-ground-in-Ok-check_instances : goal.returns-in_ok-ground-in-Ok-check_instances
returns-in_ok-ground-in-Ok-check_instances c = record {
  found = c.in_ok-found.found;
  searched = c.in_ok-found.ensures;
  none = none_large c.args.typed.now.program c.deref.result.now c.deref.ensures.value c.in-Ok.ensures.err;
  few = c.in-Ok-check_instances.ensures.ok;
  built = c.in_ok-ground-in-Ok-check_instances.ensures.built;
  greatest = c.in_ok-ground-in-Ok-check_instances.ensures.greatest ∙ (c.in-Ok.ensures.ok ∙ ap (λ fs. greatest_of (map function_tree fs)) c.deref.ensures.value);
  summed = c.in_ok-ground-in-Ok-check_instances.ensures.summed ∙ c.in-Ok-check_instances.ensures.nodes;
}

pub returns-in-Err-check_instances : goal.returns-in-Err-check_instances
returns-in-Err-check_instances c = inr (record {
  found = c.in_ok-found.found;
  searched = c.in_ok-found.ensures;
  none = none_large c.args.typed.now.program c.deref.result.now c.deref.ensures.value c.in-Ok.ensures.err;
  by = c.in-Err-check_instances.ensures.err;
})
