use Rattle.std.proofs.Common.{◌≡◌, ◌≤◌, length, drop}
use Rattle.rv_regs.specs.Plain.{stores}
use Rattle.rv_regs.specs.Views.{lists_of}
use Rattle.rv_regs.specs.Backwards.{backwards}
use Rattle.rv_regs.proofs.walk.put_stores.Given as goal

abbrev pub invariant-loop-left : goal.invariant-loop-left
invariant-loop-left l = record {
  within : l.left ≤ length l.pending;
  written : backwards l.items.items ≡ stores (lists_of l.point) (drop l.left l.pending) (backwards l.initial.items.items);
}

abbrev pub decreases-loop-left : goal.decreases-loop-left
decreases-loop-left l = l.left
