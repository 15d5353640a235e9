use Rattle.std.proofs.Common.{None, [], ap, arith, map, refl, reverse}
use Rattle.kk_counted.specs.InstancePositions.{fields_in, positions_in}
use Rattle.kk_counted.specs.Marks.{marks_of}
use Rattle.kk_counted.specs.TokenedForms.{tokened_move}
use Rattle.kk_emitter.proofs.EmitterCalls.{begun_is, begun_works}
use Rattle.kk_emitter.proofs.TokenDraftChanges.{begun_keeps}
use Rattle.kk_emitter.proofs.TokenDrafted.{same_tokens}
use Rattle.kk_emitter.specs.TokenDrafts.{no_tokens}
use Rattle.kk_emitter.specs.Works.{back_to_front, token_split_of}
use Rattle.kk_emitter.proofs.emitter.Emitter.start.Goals as goal

pub invariant_of-result : goal.invariant_of-result
invariant_of-result c =
    let begins = begun_is (positions_in c.args.shape.now.instances.items) (fields_in c.args.shape.now.constructors.items) (marks_of c.args.shape.now.instances.items c.args.shape.now.constructors.items) c.args.instance c.in-Ok.count c.parameters-parameters.result.now c.in_ok-uncalled.uncalled.items c.in_ok-lent.lent.items c.new.result.items c.new-2.result.items c.new-4.result.items c.parameters-parameters.ensures (omega (arith, c.in-Ok.ensures))
    c.in_ok-uncalled.ensures c.in_ok-lent.ensures c.new.ensures.items c.new-2.ensures.items c.new-4.ensures.items in (
      begun_works (positions_in c.args.shape.now.instances.items) (fields_in c.args.shape.now.constructors.items) (marks_of c.args.shape.now.instances.items c.args.shape.now.constructors.items) c.args.instance _ begins,
      begun_keeps _ _ (positions_in c.args.shape.now.instances.items) (fields_in c.args.shape.now.constructors.items) (marks_of c.args.shape.now.instances.items c.args.shape.now.constructors.items) c.args.instance begins
          (same_tokens no_tokens (map tokened_move c.new.result.items) [] (reverse c.new-3.result.items) [] (back_to_front token_split_of c.new-4.result.items []) [] None None
          (ap (map tokened_move) c.new.ensures.items) (ap reverse c.new-3.ensures.items) (ap (λ fs. back_to_front token_split_of fs []) c.new-4.ensures.items) refl),
    )

pub returns-clause-ok : goal.returns-clause-ok
returns-clause-ok c =
    begun_is (positions_in c.args.shape.now.instances.items) (fields_in c.args.shape.now.constructors.items) (marks_of c.args.shape.now.instances.items c.args.shape.now.constructors.items) c.args.instance c.in-Ok.count c.parameters-parameters.result.now c.in_ok-uncalled.uncalled.items c.in_ok-lent.lent.items c.new.result.items c.new-2.result.items c.new-4.result.items c.parameters-parameters.ensures (omega (arith, c.in-Ok.ensures))
    c.in_ok-uncalled.ensures c.in_ok-lent.ensures c.new.ensures.items c.new-2.ensures.items c.new-4.ensures.items
