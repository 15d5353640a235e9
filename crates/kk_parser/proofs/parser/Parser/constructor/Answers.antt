use Rattle.std.proofs.Common.{ap, ◌∙◌}
use Rattle.kk_parser.specs.Kinds.{constructor, classes_of, said_at}
use Rattle.kk_parser.specs.Reading.{fails_token}
use Rattle.kk_parser.proofs.Steps.{next_says-first, is_at-none, is_at-not, unsaid_constructor, name_taken}
use Rattle.kk_parser.proofs.parser.Parser.constructor.Goals as goal

pub returns-in-Constructor-clause-reads : goal.returns-in-Constructor-clause-reads
returns-in-Constructor-clause-reads c =
    let next = c.in-Some.next.now in
    name_taken constructor (λ i. i) (record { name = c.in-Constructor.name; at = next.span.at }) c.take_name.result c.args.self.now c.take_name.new.self
    (next_says-first constructor c.args.self.now.rest.now c.first.result c.in-Some.next c.first.ensures.value c.in-Some.is ∙ ap (λ t. said_at constructor t next.span.at) c.in-Constructor.is)
    c.take_name.ensures.copied c.take_name.ensures.rest c.take_name.ensures.depth c.take_name.ensures.fault

pub returns-in_default-clause-reads : goal.returns-in_default-clause-reads
returns-in_default-clause-reads c =
    let next = c.in-Some.next in
    fails_token (is_at-not constructor c.args.self.now.rest.now c.first.result next c.first.ensures.value c.in-Some.is (unsaid_constructor next.now.token next.now.span.at c.in_default.not-Constructor))

pub returns-in-None-clause-reads : goal.returns-in-None-clause-reads
returns-in-None-clause-reads c = fails_token (is_at-none (classes_of constructor) c.args.self.now.rest.now c.first.result c.first.ensures.value c.in-None.is)
