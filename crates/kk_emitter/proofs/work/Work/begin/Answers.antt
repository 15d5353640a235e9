use Rattle.std.proofs.Common.{[], ap, arith, false, length, map, refl, reverse, sym, ◌∙◌}
use Rattle.std.proofs.lemmas.List.{reverse-reverse}
use Rattle.kk_counted.specs.CountedForms.{decisions_of}
use Rattle.kk_counted.specs.TokenedForms.{tokened_move}
use Rattle.kk_counted.specs.VariableLists.{minus_all}
use Rattle.kk_emitter.proofs.DraftChanges.{copies_back, forked_is, same_split}
use Rattle.kk_emitter.proofs.TokenDrafted.{branch_begun, same_branch}
use Rattle.kk_emitter.specs.Drafts.{Split, copies}
use Rattle.kk_emitter.specs.TokenDrafts.{TokenSplit, bare_arm, bare_moves}
use Rattle.kk_emitter.specs.Works.{arm_of, left_in}
use Rattle.kk_emitter.specs.declared.work.Fork.{Fork}
use Rattle.kk_emitter.proofs.work.Work.begin.Goals as goal

pub returns-clause-ok : goal.returns-clause-ok
returns-clause-ok c =
    let fork : Fork = record { on = c.args.on; tests = c.args.tests; before = c.replace-before.result; lent = c.len.result; kept = c.take_all.new.owed; each = c.args.each; left = c.args.own.variables; spare = c.replace-spare.result; spare_left = c.args.own.spare; arms = c.new-4.result; tails = false } in
    let kept = minus_all c.args.each.items c.args.self.now.owed.items in
    let before = bare_moves (map tokened_move c.args.self.now.steps.items) in
    let split : Split = record { on = c.args.on; decisions = decisions_of c.args.tests; rows = c.args.tests.rows; before = before; lent = length c.args.self.now.lent.items; kept = kept; each = c.args.each.items; left = copies c.args.tests.rows c.args.each.items; arms = []; tails = false } in
    λ positions counts marks. forked_is positions counts marks c.args.self.now c.push_reserved.new.self c.replace-before.new.dest c.replace-kept.new.dest fork split c.push_reserved.ensures.items
    (same_split split c.len.result (length c.args.self.now.lent.items) (bare_moves (map tokened_move c.replace-before.result.items)) before c.take_all.new.owed.items kept
    (left_in c.args.own.variables.items) (copies c.args.tests.rows c.args.each.items) (map bare_arm (map arm_of c.new-4.result.items)) []
    (omega (arith, c.len.ensures, c.args.self.now.lent.ok.0)) (ap (λ v. bare_moves (map tokened_move v.items)) c.replace-before.ensures.value)
    (c.take_all.ensures.items ∙ (ap (λ xs. minus_all xs c.replace-kept.result.items) c.deref.ensures.value ∙ ap (λ v. minus_all c.args.each.items v.items) c.replace-kept.ensures.value))
    (copies_back c.args.own.variables.items c.args.tests.rows c.args.each.items c.requires.variables)
    (ap (λ xs. map bare_arm (map arm_of xs)) c.new-4.ensures.items))
    (ap (λ v. v.items) c.replace-before.ensures.after ∙ c.new-2.ensures.items) (ap (λ v. v.items) c.replace-kept.ensures.after ∙ c.new.ensures.items)

pub returns-clause-tokens : goal.returns-clause-tokens
returns-clause-tokens c =
    let fork : Fork = record { on = c.args.on; tests = c.args.tests; before = c.replace-before.result; lent = c.len.result; kept = c.take_all.new.owed; each = c.args.each; left = c.args.own.variables; spare = c.replace-spare.result; spare_left = c.args.own.spare; arms = c.new-4.result; tails = false } in
    let slots = c.args.self.now.spare.items in
    let branch : TokenSplit = record { on = c.args.on; decisions = decisions_of c.args.tests; before = map tokened_move c.args.self.now.steps.items; each = reverse slots; left = copies c.args.tests.rows (reverse (reverse slots)); arms = []; tails = false } in
    branch_begun c.args.self.now c.push_reserved.new.self c.replace-before.new.dest c.replace-spare.new.dest fork branch c.push_reserved.ensures.items
    (same_branch branch (decisions_of c.args.tests) (decisions_of c.args.tests) (map tokened_move c.replace-before.result.items) (map tokened_move c.args.self.now.steps.items) (reverse c.replace-spare.result.items) (reverse slots)
    (left_in c.args.own.spare.items) (copies c.args.tests.rows (reverse (reverse slots))) (map arm_of c.new-4.result.items) []
    refl (ap (λ v. map tokened_move v.items) c.replace-before.ensures.value) (ap (λ v. reverse v.items) c.replace-spare.ensures.value)
    (copies_back c.args.own.spare.items c.args.tests.rows slots c.requires.spare ∙ ap (copies c.args.tests.rows) (sym (reverse-reverse slots)))
    (ap (map arm_of) c.new-4.ensures.items))
    (ap (λ v. v.items) c.replace-before.ensures.after ∙ c.new-2.ensures.items) (ap (λ v. v.items) c.replace-spare.ensures.after ∙ c.new-3.ensures.items)
