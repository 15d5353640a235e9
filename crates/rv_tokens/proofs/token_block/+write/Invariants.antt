use Rattle.std.proofs.Common.{◌≡◌, ◌+◌, map, take, drop}
use Rattle.kk_counted.specs.TokenedForms.{tokened_code, tokened_move}
use Rattle.rv_lower.specs.Written.{goal_of}
use Rattle.rv_tokens.specs.TokenedWritten.{variables_known, WroteTokenedArms, WroteTokenedSteps}
use Rattle.rv_tokens.specs.Written.{facts_of}
use Rattle.rv_tokens.proofs.token_block.+write.Given as goal

abbrev pub invariant-write_steps-loop-index : goal.invariant-write_steps-loop-index
invariant-write_steps-loop-index l =
    WroteTokenedSteps (facts_of l.known) (variables_known l.known) (map tokened_move (take l.index l.steps))
    (map tokened_move (drop l.index l.steps)) l.fn.lowering l.lowering

abbrev pub invariant-write_arms-loop-arm : goal.invariant-write_arms-loop-arm
invariant-write_arms-loop-arm l = record {
  label : l.here ≡ l.label + l.arm-index;
  wrote : WroteTokenedArms (facts_of l.known) (variables_known l.known) (goal_of l.goal) l.label
      (map tokened_code (take l.arm-index l.arms)) l.fn.lowering l.lowering;
}
