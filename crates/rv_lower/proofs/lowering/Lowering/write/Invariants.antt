use Rattle.std.proofs.Common.{◌≡◌, ◌++◌, map, drop}
use Rattle.rv_lower.specs.Written.{short_line, lines_written, texts_written}
use Rattle.rv_lower.proofs.lowering.Lowering.write.Given as goal

-- the lines so far and those that are left make the whole
abbrev pub invariant-loop-line : goal.invariant-loop-line
invariant-loop-line l = record {
  code : lines_written l.self ++ map short_line (drop l.line-index l.lines) ≡ lines_written l.fn.self ++ map short_line l.lines;
  texts : texts_written l.self ≡ texts_written l.fn.self;
  base : l.self.base ≡ l.fn.self.base;
  label : l.self.next_label ≡ l.fn.self.next_label;
}
