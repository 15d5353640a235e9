use Rattle.kk_mono.specs.KeyTrees.{keys_in}
use Rattle.kk_mono.proofs.SearchKeys.{calling_begins, call_pushed, no_call_pushed}
use Rattle.kk_mono.proofs.keys.numbers_of_called.Goals as goal

pub loop-choice-init : goal.loop-choice-init
loop-choice-init c = calling_begins (keys_in c.args.keys.now) c.new-numbers.result.items c.new-numbers.ensures.items

pub loop-choice-preserved-in_default : goal.loop-choice-preserved-in_default
loop-choice-preserved-in_default c =
    no_call_pushed (keys_in c.args.keys.now) (keys_in c.loop-choice.keys) c.loop-choice.numbers.items c.args.taken.now c.loop-choice.choice-index c.choice-item.result
    c.loop-choice-test.true c.choice-item.is c.in_default.not-Call c.loop-choice.invariant

pub loop-choice-preserved : goal.loop-choice-preserved
loop-choice-preserved c =
    call_pushed (keys_in c.args.keys.now) (keys_in c.loop-choice.keys) (keys_in c.number.new.self) c.loop-choice.numbers.items c.push.new.self.items c.args.taken.now c.loop-choice.choice-index c.choice-item.result c.in-Call.function c.in-Call.at c.in_ok-arguments.arguments c.deref.result.now c.in_ok-number.field-0
    c.loop-choice-test.true c.choice-item.is c.in-Call.is c.deref.ensures.value c.in_ok-arguments.ensures.items c.loop-choice.invariant c.in_ok-number.ensures.sees c.in_ok-number.ensures.is c.in_ok-push.ensures.items
