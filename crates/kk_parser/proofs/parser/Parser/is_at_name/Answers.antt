use Rattle.std.proofs.Common.{ap, sym, ◌∙◌}
use Rattle.kk_parser.specs.Classes.{name_class}
use Rattle.kk_parser.specs.Kinds.{name_in, is_name_in, said_at, classes_of}
use Rattle.kk_parser.specs.Views.{classes_in}
use Rattle.kk_parser.proofs.Steps.{next_says-first, next_there, is_at-name, is_at-none, is_at-not, unsaid_other}
use Rattle.kk_parser.proofs.parser.Parser.is_at_name.Goals as goal

pub returns-in-Name-clause-value : goal.returns-in-Name-clause-value
returns-in-Name-clause-value c =
    let next = c.in-Some.next.now in
    let classes = classes_in c.args.names in
    is_at-name classes c.args.self.now.rest.now c.in-Name.name next.span.at c.has.result
    (c.has.ensures ∙ ap (is_name_in classes) (c.name_class.ensures ∙ ap name_class c.as_str.ensures))
    (next_says-first (name_in classes) c.args.self.now.rest.now c.first.result c.in-Some.next c.first.ensures.value c.in-Some.is ∙ ap (λ t. said_at (name_in classes) t next.span.at) c.in-Name.is)

pub returns-in-Name-clause-there : goal.returns-in-Name-clause-there
returns-in-Name-clause-there c = λ _. next_there c.args.self.now.rest.now c.first.result c.in-Some.next c.first.ensures.value c.in-Some.is

pub returns-in_default-clause-value : goal.returns-in_default-clause-value
returns-in_default-clause-value c =
    let next = c.in-Some.next in
    let classes = classes_in c.args.names in
    sym (is_at-not (name_in classes) c.args.self.now.rest.now c.first.result next c.first.ensures.value c.in-Some.is (unsaid_other classes next.now.token next.now.span.at c.in_default.not-Name))

pub returns-in-None-clause-value : goal.returns-in-None-clause-value
returns-in-None-clause-value c =
    sym (is_at-none (classes_of (name_in (classes_in c.args.names))) c.args.self.now.rest.now c.first.result c.first.ensures.value c.in-None.is)
