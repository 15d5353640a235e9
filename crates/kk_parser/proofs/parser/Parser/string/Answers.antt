use Rattle.std.proofs.Common.{ap, sym, ◌∙◌, subst}
use Rattle.kk_parser.specs.Kinds.{string, classes_of, said_at}
use Rattle.kk_parser.specs.Methods.{Read}
use Rattle.kk_parser.specs.Phrases.{token}
use Rattle.kk_parser.specs.Reading.{fails_token}
use Rattle.kk_parser.proofs.Steps.{next_says-first, is_at-none, is_at-not, unsaid_string, token_read}
use Rattle.kk_parser.proofs.parser.Parser.string.Goals as goal

pub returns-in_ok-text-in-String-clause-reads : goal.returns-in_ok-text-in-String-clause-reads
returns-in_ok-text-in-String-clause-reads c =
    let next = c.in-Some.next.now in
    let e = next_says-first string c.args.self.now.rest.now c.first.result c.in-Some.next c.first.ensures.value c.in-Some.is ∙ ap (λ t. said_at string t next.span.at) c.in-String.is in
    subst (λ v. Read (token string) v c.args.self.now c.advance.new.self) (sym c.in_ok-text-in-String.ensures) (token_read string c.args.self.now c.advance.new.self _ e c.advance.ensures.rest c.advance.ensures.depth)

pub returns-in_default-clause-reads : goal.returns-in_default-clause-reads
returns-in_default-clause-reads c =
    let next = c.in-Some.next in
    fails_token (is_at-not string c.args.self.now.rest.now c.first.result next c.first.ensures.value c.in-Some.is (unsaid_string next.now.token next.now.span.at c.in_default.not-String))

pub returns-in-None-clause-reads : goal.returns-in-None-clause-reads
returns-in-None-clause-reads c = fails_token (is_at-none (classes_of string) c.args.self.now.rest.now c.first.result c.first.ensures.value c.in-None.is)
