use Rattle.std.proofs.Common.{List, map, sym, ◌∙◌, subst}
use Rattle.std.specs.List.{AllZip}
use Rattle.kk_syntax.specs.declared.ground.GroundType.{GroundType}
use Rattle.kk_syntax.specs.GroundTypes.{AreNumbered}
use Rattle.kk_syntax.specs.Programs.{constructor_tree}
use Rattle.kk_mono.specs.BuiltInstances.{IsMadeOf}
use Rattle.kk_mono.specs.KeyTrees.{keys_in}
use Rattle.kk_mono.specs.Views.{types_in}
use Rattle.kk_mono.proofs.ProgramLimits.{are_within}
use Rattle.kk_mono.proofs.TypesOnce.{are_numbered}
use Rattle.kk_mono.proofs.build.ground.Goals as goal

pub returns-clause-built : goal.returns-clause-built
returns-clause-built c =
    let table = c.ground_constructors.new.types in
    record {
      declarations = c.in_ok-copied_declarations.ensures ∙ c.deref-2.ensures.value;
      texts = c.in_ok-copied_texts.ensures ∙ c.deref-3.ensures.value;
      table = table;
      types = c.in_ok-into_nodes.ensures;
      grows = c.ground_constructors.ensures.grows;
      constructors = subst (λ cs. AllZip (IsMadeOf (map constructor_tree cs) (types_in table)) (keys_in c.args.found.constructors) c.in_ok-constructors.constructors.items) c.deref.ensures.value c.in_ok-constructors.ensures.are;
      instances = c.in_ok-instances.ensures;
    }

pub invariant_of-result : goal.invariant_of-result
invariant_of-result c =
    record {
      numbered =
          subst (λ (nodes : List GroundType). AreNumbered nodes c.in_ok-constructors.constructors.items) (sym c.in_ok-into_nodes.ensures)
          (are_numbered c.ground_constructors.new.types (map constructor_tree c.deref.result.now) (keys_in c.args.found.constructors)
          c.in_ok-constructors.constructors.items c.in_ok-constructors.ensures.are);
      within =
          are_within c.args.program.now c.args.found c.requires.none (types_in c.ground_constructors.new.types)
          c.in_ok-constructors.constructors.items c.in_ok-instances.instances.items c.args.greatest_nodes c.args.summed_nodes
          (subst (λ cs. AllZip (IsMadeOf (map constructor_tree cs) (types_in c.ground_constructors.new.types)) (keys_in c.args.found.constructors) c.in_ok-constructors.constructors.items) c.deref.ensures.value c.in_ok-constructors.ensures.are)
          c.requires.constructors c.in_ok-instances.ensures c.requires.full c.requires.greatest c.requires.summed;
    }
