use Rattle.std.proofs.Common.{◌+◌, ◌*◌, ◌≤◌, length, map}
use Rattle.kk_syntax.specs.Surface.{written_type}
use Rattle.kk_parser.specs.Phrases.{rule, type}
use Rattle.kk_parser.proofs.Lists.{SomeLists}
use Rattle.kk_parser.proofs.parser.Parser.+types.Given as goal

abbrev pub decreases-types : goal.decreases-types
decreases-types l = 4 * length l.self.now.rest.now + 3

abbrev pub decreases-type_ : goal.decreases-type_
decreases-type_ l = 4 * length l.self.now.rest.now + 2

abbrev pub decreases-type_by : goal.decreases-type_by
decreases-type_by l = 4 * length l.self.now.rest.now + 1

abbrev pub decreases-type_arguments : goal.decreases-type_arguments
decreases-type_arguments l = 4 * length l.self.now.rest.now

abbrev pub decreases-bracketed_type : goal.decreases-bracketed_type
decreases-bracketed_type l = 4 * length l.self.now.rest.now

abbrev pub invariant-types-loop-self : goal.invariant-types-loop-self
invariant-types-loop-self l = record {
  left : length l.self.rest.now ≤ length l.fn.self.rest.now;
  read : SomeLists (rule type) (map written_type l.types.items) l.fn.self l.self;
}

abbrev pub decreases-types-loop-self : goal.decreases-types-loop-self
decreases-types-loop-self l = length l.self.rest.now
