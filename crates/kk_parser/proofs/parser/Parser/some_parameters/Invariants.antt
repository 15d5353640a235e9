use Rattle.std.proofs.Common.{◌≤◌, length, map}
use Rattle.kk_syntax.specs.Surface.{written_parameter}
use Rattle.kk_parser.specs.Phrases.{rule, param}
use Rattle.kk_parser.proofs.Lists.{SomeLists}
use Rattle.kk_parser.proofs.parser.Parser.some_parameters.Given as goal

abbrev pub invariant-loop-self : goal.invariant-loop-self
invariant-loop-self l = record {
  left : length l.self.rest.now ≤ length l.fn.self.rest.now;
  read : SomeLists (rule param) (map written_parameter l.parameters.items) l.fn.self l.self;
}

abbrev pub decreases-loop-self : goal.decreases-loop-self
decreases-loop-self l = length l.self.rest.now
