use Rattle.std.proofs.Common.{subst}
use Rattle.kk_syntax.specs.Surface.{written_type}
use Rattle.kk_parser.specs.declared.parser.Parser.{Parser}
use Rattle.kk_parser.specs.Forms.{type_by}
use Rattle.kk_parser.specs.Kinds.{names_of, type_name_but_effect}
use Rattle.kk_parser.specs.Methods.{Read}
use Rattle.kk_parser.specs.Phrases.{rule, result_type}
use Rattle.kk_parser.specs.Reading.{fails_rule, fails_level, finds_rule, finds_level}
use Rattle.kk_parser.proofs.Steps.{gives_up_in}
use Rattle.kk_parser.proofs.parser.Parser.result_type.Goals as goal

pub returns-in_err-of_type-clause-reads : goal.returns-in_err-of_type-clause-reads
returns-in_err-of_type-clause-reads c =
    gives_up_in (rule result_type) (type_by (names_of type_name_but_effect)) written_type c.from_residual.result c.in_err-of_type.field-0.0 c.args.self.now c.args.self.now c.type_by.new.self (λ f r. fails_rule (fails_level r)) c.from_residual.ensures.1 c.in_err-of_type.ensures.reads

pub returns-clause-reads : goal.returns-clause-reads
returns-clause-reads c =
    let t = c.in_ok-of_type.ensures.reads in
    let new : Parser = record { alloc = c.type_by.new.self.alloc; rest = c.type_by.new.self.rest; depth = c.args.self.now.depth } in
    subst (λ t. Read (rule result_type) t c.args.self.now new) t.1 (finds_rule (finds_level t.2))
