use Rattle.std.proofs.Common.{map, ap, sym, ◌∙◌}
use Rattle.kk_syntax.specs.Surface.{written_parameter}
use Rattle.kk_parser.specs.Grammar.{listed_of, some_listed_of}
use Rattle.kk_parser.specs.Phrases.{rule, param}
use Rattle.kk_parser.proofs.Lists.{lists_none, listed_some, continues_some}
use Rattle.kk_parser.proofs.Steps.{reads_as_within}
use Rattle.kk_parser.proofs.parser.Parser.parameter_list.Goals as goal

pub returns-then-not-is_at_name-clause-reads : goal.returns-then-not-is_at_name-clause-reads
returns-then-not-is_at_name-clause-reads c =
    let h = sym c.is_at_name.ensures.value ∙ c.if-not-is_at_name.true in
    let none = lists_none (rule param) c.args.self.now h in
    (none.0, none.1 ∙ sym (ap (map written_parameter) c.new.ensures.items), none.2)

pub returns-clause-reads : goal.returns-clause-reads
returns-clause-reads c =
    let h = sym c.is_at_name.ensures.value ∙ c.if-not-is_at_name.false in
    reads_as_within (continues_some (rule param) c.args.self.now h) listed_of some_listed_of (λ ps. map written_parameter ps.items) c.some_parameters.result c.some_parameters.new.self (λ v. listed_some v) c.some_parameters.ensures.reads
