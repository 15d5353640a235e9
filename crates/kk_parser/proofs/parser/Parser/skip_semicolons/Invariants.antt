use Rattle.std.proofs.Common.{◌≡◌, ◌≤◌, length}
use Rattle.kk_parser.specs.Grammar.{semicolons}
use Rattle.kk_parser.specs.Phrases.{PhraseValue}
use Rattle.kk_parser.proofs.Steps.{Continues}
use Rattle.kk_parser.proofs.parser.Parser.skip_semicolons.Given as goal

abbrev pub invariant-loop-self : goal.invariant-loop-self
invariant-loop-self l = record {
  depth : l.self.depth ≡ l.initial.self.depth;
  left : length l.self.rest.now ≤ length l.initial.self.rest.now;
  read : (says : PhraseValue semicolons → PhraseValue semicolons) × Continues semicolons semicolons says l.initial.self l.self;
}

abbrev pub decreases-loop-self : goal.decreases-loop-self
decreases-loop-self l = length l.self.rest.now
