use Rattle.std.proofs.Common.{◌≤◌, length, map, ◌++◌}
use Rattle.kk_syntax.specs.Surface.{written_declaration}
use Rattle.std.specs.Prelude.{All}
use Rattle.kk_parser.specs.Depths.{BodyIsNoDeeper}
use Rattle.kk_parser.specs.Forms.{and_more, those_given}
use Rattle.kk_parser.specs.Phrases.{rule, program, decl}
use Rattle.kk_parser.proofs.Steps.{Continues}
use Rattle.kk_parser.proofs.parser.Parser.program.Given as goal

abbrev pub invariant-loop-self : goal.invariant-loop-self
invariant-loop-self l = record {
  left : length l.self.rest.now ≤ length l.fn.self.rest.now;
  read : Continues (rule program) (and_more (rule decl)) (λ more. map written_declaration l.declarations.items ++ those_given more) l.fn.self l.self;
  depth : All BodyIsNoDeeper l.declarations.items;
}

abbrev pub decreases-loop-self : goal.decreases-loop-self
decreases-loop-self l = length l.self.rest.now
