use Rattle.std.proofs.Common.{◌≡◌, ◌++◌, drop}
use Rattle.rv_lower.specs.Lines.{copies, temporaries}
use Rattle.rv_lower.specs.Written.{lines_written, texts_written}
use Rattle.rv_lower.proofs.lowering.Lowering.hand_over.Given as goal

-- the copies so far and those that are left make the whole, and so do the temporaries
abbrev pub invariant-loop-argument : goal.invariant-loop-argument
invariant-loop-argument l = record {
  code : lines_written l.self ++ copies l.temporary (drop l.argument-index l.arguments) ≡ lines_written l.fn.self ++ copies l.fn.self.base l.arguments;
  texts : texts_written l.self ≡ texts_written l.fn.self;
  base : l.self.base ≡ l.fn.self.base;
  label : l.self.next_label ≡ l.fn.self.next_label;
  handed : l.handed.items ++ temporaries l.temporary (drop l.argument-index l.arguments) ≡ temporaries l.fn.self.base l.arguments;
}
