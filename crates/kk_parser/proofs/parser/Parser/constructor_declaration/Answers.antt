use Rattle.std.proofs.Common.{List, ap, subst}
use Rattle.kk_syntax.specs.declared.tree.Identifier.{Identifier}
use Rattle.kk_syntax.specs.Surface.{WrittenConstructor, WrittenParameter, written_constructor}
use Rattle.kk_parser.specs.declared.parser.Parser.{Parser}
use Rattle.kk_parser.specs.Grammar.{fields}
use Rattle.kk_parser.specs.Kinds.{constructor}
use Rattle.kk_parser.specs.Methods.{Read}
use Rattle.kk_parser.specs.Phrases.{token, rule, con}
use Rattle.kk_parser.specs.Reading.{fails_rule, fails_level, fails_front, fails_behind, finds_rule, finds_level, finds_both}
use Rattle.kk_parser.proofs.Steps.{gives_up_in}
use Rattle.kk_parser.proofs.parser.Parser.constructor_declaration.Goals as goal

abbrev constructor_with : Identifier → List WrittenParameter → WrittenConstructor
constructor_with name fields = record { name = name; fields = fields }

pub returns-in_err-name-clause-reads : goal.returns-in_err-name-clause-reads
returns-in_err-name-clause-reads c =
    gives_up_in (rule con) (token constructor) written_constructor c.from_residual.result c.in_err-name.field-0.0 c.args.self.now
    c.args.self.now c.constructor.new.self (λ f r. fails_rule (fails_level (fails_front r))) c.from_residual.ensures.1
    c.in_err-name.ensures.reads

pub returns-in_err-fields-clause-reads : goal.returns-in_err-fields-clause-reads
returns-in_err-fields-clause-reads c =
    gives_up_in (rule con) fields written_constructor c.from_residual-in_err-fields.result c.in_err-fields.field-0.0
    c.args.self.now c.constructor.new.self c.fields.new.self
    (λ f r. fails_rule (fails_level (fails_behind c.in_ok-name.ensures.reads r))) c.from_residual-in_err-fields.ensures.1
    c.in_err-fields.ensures.reads

pub returns-clause-reads : goal.returns-clause-reads
returns-clause-reads c =
    let called = c.in_ok-name.name in
    let given = c.in_ok-fields.ensures.reads in
    let new : Parser = record { alloc = c.fields.new.self.alloc; rest = c.fields.new.self.rest; depth = c.args.self.now.depth } in
    subst (λ w. Read (rule con) w c.args.self.now new) (ap (λ ps. constructor_with called ps) given.1)
    (finds_rule (finds_level (finds_both c.in_ok-name.ensures.reads given.2)))
