use Rattle.std.proofs.Common.{◌≡◌, map, drop}
use Rattle.kk_counted.specs.CountedForms.{step_move}
use Rattle.kk_reuse.specs.PairedForms.{lead_to_call}
use Rattle.kk_reuse.proofs.calls.lead_to_call.Given as goal

abbrev pub invariant-loop-step : goal.invariant-loop-step
invariant-loop-step l = lead_to_call (map step_move (drop l.step-index l.steps)) ≡ lead_to_call (map step_move l.steps)
