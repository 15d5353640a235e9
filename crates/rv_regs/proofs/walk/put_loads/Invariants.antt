use Rattle.std.proofs.Common.{◌≡◌, drop}
use Rattle.rv_regs.specs.Plain.{loads}
use Rattle.rv_regs.specs.Views.{lists_of}
use Rattle.rv_regs.specs.Backwards.{backwards}
use Rattle.rv_regs.proofs.walk.put_loads.Given as goal

abbrev pub invariant-loop-index : goal.invariant-loop-index
invariant-loop-index l = loads (lists_of l.point) (drop l.index l.loaded) (backwards l.items.items) ≡ loads (lists_of l.point) l.loaded (backwards l.initial.items.items)
