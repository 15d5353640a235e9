use Rattle.std.proofs.Common.{◌≡◌, ◌++◌, drop}
use Rattle.std.specs.List.{filter}
use Rattle.rv_isa.specs.Frames.{is_among}
use Rattle.rv_regs.specs.declared.slots.Loaded.{Loaded}
use Rattle.rv_regs.proofs.slots.those_alive.Given as goal

abbrev pub invariant-loop-other : goal.invariant-loop-other
invariant-loop-other l =
    l.left.items ++ filter (λ (m : Loaded). is_among m.value l.alive) (drop l.other-index l.loaded) ≡ filter (λ (m : Loaded). is_among m.value l.alive) l.loaded
