use Rattle.std.proofs.Common.{ap, sym, ◌∙◌}
use Rattle.kk_parser.specs.Kinds.{wildcard, said_at, classes_of}
use Rattle.kk_parser.proofs.Steps.{next_says-first, next_there, is_at-said, is_at-none, is_at-not, unsaid_wildcard}
use Rattle.kk_parser.proofs.parser.Parser.is_at_wildcard.Goals as goal

pub returns-in-Wildcard-clause-value : goal.returns-in-Wildcard-clause-value
returns-in-Wildcard-clause-value c =
    let rest = c.args.self.now.rest.now in
    let next = c.in-Some.next in
    sym (is_at-said wildcard rest tt (next_says-first wildcard rest c.first.result next c.first.ensures.value c.in-Some.is ∙ ap (λ t. said_at wildcard t next.now.span.at) c.in-Wildcard.is))

pub returns-in-Wildcard-clause-there : goal.returns-in-Wildcard-clause-there
returns-in-Wildcard-clause-there c = λ _. next_there c.args.self.now.rest.now c.first.result c.in-Some.next c.first.ensures.value c.in-Some.is

pub returns-in_default-clause-value : goal.returns-in_default-clause-value
returns-in_default-clause-value c =
    let next = c.in-Some.next in
    sym (is_at-not wildcard c.args.self.now.rest.now c.first.result next c.first.ensures.value c.in-Some.is (unsaid_wildcard next.now.token next.now.span.at c.in_default.not-Wildcard))

pub returns-in-None-clause-value : goal.returns-in-None-clause-value
returns-in-None-clause-value c =
    sym (is_at-none (classes_of wildcard) c.args.self.now.rest.now c.first.result c.first.ensures.value c.in-None.is)
