use Rattle.std.proofs.Common.{◌≡◌, map, take, drop}
use Rattle.kk_counted.specs.TokenedForms.{plug_tokened, put_steps, tokened_code, tokened_last_code, tokened_move}
use Rattle.kk_respec.specs.KnownTokens.{known_of}
use Rattle.kk_respec.specs.Respecialised.{respec}
use Rattle.kk_respec.proofs.block.+mark_block.Given as goal

abbrev pub invariant-mark_arms-loop-arm : goal.invariant-mark_arms-loop-arm
invariant-mark_arms-loop-arm l =
    goal.unvisited-mark_arms-loop-arm l
    × (map tokened_code (take l.arm-index l.arm-items)
    ≡ map (respec (map known_of l.known)) (map tokened_code (take l.arm-index l.fn.arms.items)))

abbrev pub invariant-mark_block-loop-step : goal.invariant-mark_block-loop-step
invariant-mark_block-loop-step l =
    goal.unvisited-mark_block-loop-step l
    × (put_steps (take l.step-index l.step-items) (respec (map known_of l.known.items)
    (plug_tokened (map tokened_move (drop l.step-index l.step-items)) (tokened_last_code l.fn.block.last)))
    ≡ respec (map known_of l.fn.known) (tokened_code l.fn.block))
