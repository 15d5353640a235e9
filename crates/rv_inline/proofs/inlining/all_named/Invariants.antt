use Rattle.std.proofs.Common.{◌≡◌, ◌+◌, ◌++◌, drop, map, length}
use Rattle.rv_isa.specs.ValueBounds.{AreValuesBelow}
use Rattle.rv_inline.specs.InLine.{named, most_fresh}
use Rattle.rv_inline.proofs.inlining.all_named.Given as goal

abbrev pub invariant-loop-value : goal.invariant-loop-value
invariant-loop-value l = record {
  made : l.new.items ++ map (named l.base l.args) (drop l.value-index l.values) ≡ map (named l.base l.args) l.values;
  small : AreValuesBelow (length l.args + most_fresh) (drop l.value-index l.values);
}
