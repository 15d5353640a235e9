use Rattle.std.proofs.Common.{◌≡◌, ◌+◌, ◌++◌, drop, map, length}
use Rattle.rv_isa.specs.AsmCode.{line_of}
use Rattle.rv_isa.specs.ValueBounds.{AreLinesBelow}
use Rattle.rv_inline.specs.InLine.{named_line, most_fresh}
use Rattle.rv_inline.proofs.inlining.add_named.Given as goal

abbrev pub invariant-loop-statement : goal.invariant-loop-statement
invariant-loop-statement l = record {
  made : map line_of l.code.items ++ map (named_line l.base l.args) (map line_of (drop l.statement-index l.body))
      ≡ map line_of l.initial.code.items ++ map (named_line l.base l.args) (map line_of l.body);
  small : AreLinesBelow (length l.args + most_fresh) (map line_of (drop l.statement-index l.body));
}
