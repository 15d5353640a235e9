use Rattle.std.proofs.Common.{◌≤◌, length, map}
use Rattle.kk_syntax.specs.Surface.{written_constructor}
use Rattle.kk_parser.specs.Phrases.{rule, con}
use Rattle.kk_parser.proofs.Lists.{Separated}
use Rattle.kk_parser.proofs.parser.Parser.constructors.Given as goal

abbrev pub invariant-loop-self : goal.invariant-loop-self
invariant-loop-self l = record {
  left : length l.self.rest.now ≤ length l.fn.self.rest.now;
  read : Separated (rule con) (map written_constructor l.constructors.items) l.fn.self l.self;
}

abbrev pub decreases-loop-self : goal.decreases-loop-self
decreases-loop-self l = length l.self.rest.now
