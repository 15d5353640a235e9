-- A machine that does what another does, at more weight.
use Rattle.std.specs.Prelude.{ℕ, ◌+◌}
use Rattle.std.proofs.Common.{ap}
use Rattle.kk_base.specs.Machines.{Machine, weight_unless}

-- the same machine, of which each step weighs so much more until it has ended
abbrev pub heavier : {S E W : Type 0} → ℕ → Machine S E W → Machine S E W
heavier more machine =
    record {
      step = machine.step;
      ending = machine.ending;
      weight = λ s. weight_unless (machine.ending s) (machine.weight s + more);
      stays = machine.stays;
      weightless = λ s w ended. ap (λ how. weight_unless how (machine.weight s + more)) ended;
    }
