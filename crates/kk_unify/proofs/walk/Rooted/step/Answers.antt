use Rattle.std.proofs.Common.{◌<◌, ◌∙◌, ◌++◌, ◌∷◌, [], List, ap, length, arith}
use Rattle.kk_unify.specs.declared.walk.Frame.{Frame}
use Rattle.kk_unify.specs.declared.walk.Mark.TheVariants.{Entered}
use Rattle.kk_unify.proofs.WalkTurns.{left_head, left_numbers, turn_left, turn_left_less, turn_left_keeps, wanted_within, turn_again, turn_entered, turn_entered_less, turn_entered_keeps, set_knows}
use Rattle.kk_unify.proofs.walk.Rooted.step.Goals as goal

pub leave-requires-clause-head : goal.leave-requires-clause-head
leave-requires-clause-head c =
    left_head c.args.self.now c.args.walk.now c.deref.result.now c.args.frame c.advance.new.frame c.in_ok-advance.field-0 c.requires.rooted c.requires.stands c.advance.ensures.node c.deref.ensures.value c.in_ok-advance.ensures.advanced c.in-None.is

pub leave-requires-clause-numbers : goal.leave-requires-clause-numbers
leave-requires-clause-numbers c =
    left_numbers c.args.self.now c.args.walk.now c.deref.result.now c.args.frame c.advance.new.frame c.in_ok-advance.field-0 c.requires.rooted c.requires.stands c.advance.ensures.node c.deref.ensures.value c.in_ok-advance.ensures.advanced c.in-None.is

pub returns-in_ok-leave-in-None-clause-stepped : goal.returns-in_ok-leave-in-None-clause-stepped
returns-in_ok-leave-in-None-clause-stepped c =
    turn_left c.args.self.now c.args.walk.now c.deref.result.now c.args.frame c.advance.new.frame c.in_ok-advance.field-0 c.requires.rooted c.requires.stands c.advance.ensures.node c.deref.ensures.value c.in_ok-advance.ensures.advanced c.in-None.is c.leave.new.walk c.in_ok-leave-in-None.ensures

pub returns-in_ok-leave-in-None-clause-less : goal.returns-in_ok-leave-in-None-clause-less
returns-in_ok-leave-in-None-clause-less c =
    turn_left_less c.args.self.now c.args.walk.now c.deref.result.now c.args.frame c.advance.new.frame c.in_ok-advance.field-0 c.requires.rooted c.requires.stands c.advance.ensures.node c.deref.ensures.value c.in_ok-advance.ensures.advanced c.in-None.is c.leave.new.walk c.in_ok-leave-in-None.ensures

pub returns-in_ok-leave-in-None-clause-kept : goal.returns-in_ok-leave-in-None-clause-kept
returns-in_ok-leave-in-None-clause-kept c =
    turn_left_keeps c.args.self.now c.args.walk.now c.deref.result.now c.args.frame c.advance.new.frame c.in_ok-advance.field-0 c.requires.rooted c.requires.stands c.advance.ensures.node c.deref.ensures.value c.in_ok-advance.ensures.advanced c.in-None.is c.leave.new.walk c.in_ok-leave-in-None.ensures

pub index-requires : goal.index-requires
index-requires c =
    let within : c.in-Some.next < length c.args.walk.now.marks.items = wanted_within c.args.self.now c.args.walk.now c.deref.result.now c.args.frame c.advance.new.frame c.in_ok-advance.field-0 c.requires.rooted c.requires.stands c.advance.ensures.node c.deref.ensures.value c.in_ok-advance.ensures.advanced c.in-Some.next c.in-Some.is in
    omega arith

pub enter-requires : goal.enter-requires
enter-requires c =
    wanted_within c.args.self.now c.args.walk.now c.deref.result.now c.args.frame c.advance.new.frame c.in_ok-advance.field-0 c.requires.rooted c.requires.stands c.advance.ensures.node c.deref.ensures.value c.in_ok-advance.ensures.advanced c.in-Some.next c.in-Some.is

pub returns-in-Entered-clause-stepped : goal.returns-in-Entered-clause-stepped
returns-in-Entered-clause-stepped c =
    turn_again c.args.self.now c.args.walk.now c.deref.result.now c.args.frame c.advance.new.frame c.in_ok-advance.field-0 c.requires.rooted c.requires.stands c.advance.ensures.node c.deref.ensures.value c.in_ok-advance.ensures.advanced c.in-Some.next c.in-Some.is c.index.result.now c.index.ensures c.in-Entered.is

pub returns-in_ok-enter-in-Some : goal.returns-in_ok-enter-in-Some
returns-in_ok-enter-in-Some c =
    let entered = c.in_ok-enter-in-Some.ensures in
    record {
      stepped = turn_entered c.args.self.now c.args.walk.now c.deref.result.now c.args.frame c.advance.new.frame c.in_ok-advance.field-0 c.requires.rooted c.requires.stands c.advance.ensures.node c.deref.ensures.value c.in_ok-advance.ensures.advanced c.in-Some.next c.in-Some.is c.index.result.now c.index.ensures c.in_default.not-Entered c.enter.new.self entered.marks entered.frame entered.made (entered.frames ∙ ap (λ (frames : List Frame). frames ++ (entered.frame ∷ [])) c.in_ok-push-in-Some.ensures.items) entered.node_is entered.numbers;
      less = turn_entered_less c.args.self.now c.args.walk.now c.deref.result.now c.args.frame c.advance.new.frame c.in_ok-advance.field-0 c.requires.rooted c.requires.stands c.advance.ensures.node c.deref.ensures.value c.in_ok-advance.ensures.advanced c.in-Some.next c.in-Some.is c.index.result.now c.index.ensures c.in_default.not-Entered c.enter.new.self entered.marks;
      kept = turn_entered_keeps c.args.self.now c.args.walk.now c.deref.result.now c.args.frame c.advance.new.frame c.in_ok-advance.field-0 c.requires.rooted c.requires.stands c.advance.ensures.node c.deref.ensures.value c.in_ok-advance.ensures.advanced c.in-Some.next c.in-Some.is c.index.result.now c.index.ensures c.in_default.not-Entered c.enter.new.self entered.marks;
      known = set_knows c.args.walk.now.marks.items c.enter.new.self.marks.items c.in-Some.next Entered (λ is. cc) entered.marks;
    }
