use Rattle.std.proofs.Common.{◌≡◌, false, true, ap, sym, ◌∙◌}
use Rattle.kk_parser.specs.Classes.{name_class}
use Rattle.kk_parser.specs.Kinds.{name_in, classes_of, is_name_in, said_at}
use Rattle.kk_parser.specs.Reading.{fails_token}
use Rattle.kk_parser.specs.Views.{classes_in}
use Rattle.kk_parser.proofs.Steps.{next_says-first, is_at-none, is_at-unsaid, said_name, unsaid_name, unsaid_other, name_taken}
use Rattle.kk_parser.proofs.parser.Parser.identifier.Goals as goal

pub returns-then-not-has-clause-reads : goal.returns-then-not-has-clause-reads
returns-then-not-has-clause-reads c =
    let next = c.in-Some.next.now in
    let classes = classes_in c.args.names in
    let h : is_name_in classes (name_class c.in-Name.name) ≡ false = sym (c.has.ensures ∙ ap (is_name_in classes) (c.name_class.ensures ∙ ap name_class c.as_str.ensures)) ∙ c.if-not-has.true in
    fails_token (is_at-unsaid (name_in classes) c.args.self.now.rest.now
    (next_says-first (name_in classes) c.args.self.now.rest.now c.first.result c.in-Some.next c.first.ensures.value c.in-Some.is ∙ ap (λ t. said_at (name_in classes) t next.span.at) c.in-Name.is ∙ unsaid_name classes c.in-Name.name next.span.at h))

pub returns-else-not-has-clause-reads : goal.returns-else-not-has-clause-reads
returns-else-not-has-clause-reads c =
    let next = c.in-Some.next.now in
    let classes = classes_in c.args.names in
    let h : is_name_in classes (name_class c.in-Name.name) ≡ true = sym (c.has.ensures ∙ ap (is_name_in classes) (c.name_class.ensures ∙ ap name_class c.as_str.ensures)) ∙ c.if-not-has.false in
    name_taken (name_in classes) (λ i. i) (record { name = c.in-Name.name; at = next.span.at }) c.take_name.result c.args.self.now c.take_name.new.self
    (next_says-first (name_in classes) c.args.self.now.rest.now c.first.result c.in-Some.next c.first.ensures.value c.in-Some.is ∙ ap (λ t. said_at (name_in classes) t next.span.at) c.in-Name.is ∙ said_name classes c.in-Name.name next.span.at h)
    c.take_name.ensures.copied c.take_name.ensures.rest c.take_name.ensures.depth c.take_name.ensures.fault

pub returns-in_default-clause-reads : goal.returns-in_default-clause-reads
returns-in_default-clause-reads c =
    let next = c.in-Some.next.now in
    let classes = classes_in c.args.names in
    fails_token (is_at-unsaid (name_in classes) c.args.self.now.rest.now
    (next_says-first (name_in classes) c.args.self.now.rest.now c.first.result c.in-Some.next c.first.ensures.value c.in-Some.is ∙ unsaid_other classes next.token next.span.at c.in_default.not-Name))

pub returns-in-None-clause-reads : goal.returns-in-None-clause-reads
returns-in-None-clause-reads c = fails_token (is_at-none (classes_of (name_in (classes_in c.args.names))) c.args.self.now.rest.now c.first.result c.first.ensures.value c.in-None.is)
