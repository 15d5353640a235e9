use Rattle.std.proofs.Common.{◌≤◌, length}
use Rattle.kk_parser.specs.Phrases.{rule, eff}
use Rattle.kk_parser.proofs.Lists.{Lists}
use Rattle.kk_parser.proofs.parser.Parser.effects.Given as goal

abbrev pub invariant-loop-self : goal.invariant-loop-self
invariant-loop-self l = record {
  left : length l.self.rest.now ≤ length l.fn.self.rest.now;
  read : Lists (rule eff) l.effects.items l.fn.self l.self;
}

abbrev pub decreases-loop-self : goal.decreases-loop-self
decreases-loop-self l = length l.self.rest.now
