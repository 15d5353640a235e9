use Rattle.std.proofs.Common.{◌+◌, ◌*◌, ◌≤◌, length, map}
use Rattle.kk_syntax.specs.Surface.{written_pattern}
use Rattle.kk_parser.specs.Phrases.{rule, pat}
use Rattle.kk_parser.proofs.Lists.{Lists}
use Rattle.kk_parser.proofs.parser.Parser.+patterns.Given as goal

abbrev pub decreases-patterns : goal.decreases-patterns
decreases-patterns l = 8 * length l.self.now.rest.now + 6

abbrev pub decreases-pattern : goal.decreases-pattern
decreases-pattern l = 8 * length l.self.now.rest.now + 5

abbrev pub decreases-open_pattern : goal.decreases-open_pattern
decreases-open_pattern l = 8 * length l.self.now.rest.now + 4

abbrev pub decreases-constructor_pattern : goal.decreases-constructor_pattern
decreases-constructor_pattern l = 8 * length l.self.now.rest.now + 3

abbrev pub decreases-parts : goal.decreases-parts
decreases-parts l = 8 * length l.self.now.rest.now + 2

abbrev pub decreases-bracketed_pattern : goal.decreases-bracketed_pattern
decreases-bracketed_pattern l = 8 * length l.self.now.rest.now + 2

abbrev pub invariant-patterns-loop-self : goal.invariant-patterns-loop-self
invariant-patterns-loop-self l = record {
  left : length l.self.rest.now ≤ length l.fn.self.rest.now;
  read : Lists (rule pat) (map written_pattern l.patterns.items) l.fn.self l.self;
}

abbrev pub decreases-patterns-loop-self : goal.decreases-patterns-loop-self
decreases-patterns-loop-self l = length l.self.rest.now
