use Rattle.std.proofs.Common.{rules, ◌∙◌, ◌++◌, length, take, ap, sym}
use Rattle.std.specs.List.{zip}
use Rattle.std.proofs.lemmas.List.{length_push}
use Rattle.std.proofs.lemmas.Slice.Zip.{zip_turn, zip_end}
use Rattle.kk_unify.proofs.Unification.{paired_more, paired_all}
use Rattle.kk_unify.proofs.join.pair_up.Goals as goal

pub loop-one-preserved : goal.loop-one-preserved
loop-one-preserved c =
    let turn = zip_turn c.args.first.now c.args.second.now c.loop-one.yielded c.into_iter-one-iterator.result c.loop-one.one-iterator c.next.new.self c.next.result (search rules) (search rules) c.loop-one.yielded_by (c.in-Some.one, c.in-Some.other) c.in-Some.is c.next.ensures.steps in
    let more = paired_more c.args.first.now c.args.second.now c.loop-one.pairs.items c.args.pairs.now.items (length c.loop-one.yielded) c.in-Some.one.now c.in-Some.other.now c.loop-one.invariant turn.0 turn.1 (turn.2 _) (turn.3 _) in
    c.in_ok-push.ensures.items ∙ more ∙ ap (λ n. c.args.pairs.now.items ++ take n (zip c.args.first.now c.args.second.now)) (sym (length_push _ _))

pub returns : goal.returns
returns c =
    paired_all c.args.first.now c.args.second.now c.loop-one.pairs.items c.args.pairs.now.items (length c.loop-one.yielded) c.loop-one.invariant
    (zip_end c.args.first.now c.args.second.now c.loop-one.yielded c.into_iter-one-iterator.result c.loop-one.one-iterator c.next.new.self c.next.result (search rules) (search rules) c.loop-one.yielded_by c.in-None.is c.next.ensures.steps)
