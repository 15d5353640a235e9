use Rattle.std.proofs.Common.{◌≤◌, length}
use Rattle.kk_parser.specs.Kinds.{type_variable_name}
use Rattle.kk_parser.specs.Phrases.{token}
use Rattle.kk_parser.proofs.Lists.{SomeLists}
use Rattle.kk_parser.proofs.parser.Parser.type_variables.Given as goal

abbrev pub invariant-loop-self : goal.invariant-loop-self
invariant-loop-self l = record {
  left : length l.self.rest.now ≤ length l.fn.self.rest.now;
  read : SomeLists (token type_variable_name) l.names.items l.fn.self l.self;
}

abbrev pub decreases-loop-self : goal.decreases-loop-self
decreases-loop-self l = length l.self.rest.now
