use Rattle.std.proofs.Common.{ap, ◌∙◌}
use Rattle.kk_syntax.specs.declared.token.Keyword.TheVariants as Keyword
use Rattle.kk_syntax.specs.declared.token.Symbol.TheVariants.{OpenBrace, CloseBrace}
use Rattle.kk_syntax.specs.Surface.{type_declaration}
use Rattle.kk_parser.specs.Depths.{BodyIsNoDeeper}
use Rattle.kk_parser.specs.Forms.{separated, separated_of, typed, typed_of}
use Rattle.kk_parser.specs.Grammar.{type_parameters}
use Rattle.kk_parser.specs.Kinds.{keyword, symbol, type_name}
use Rattle.kk_parser.specs.Phrases.{token, opener, optional, rule, con}
use Rattle.kk_parser.specs.Reading.{fails_front, fails_behind, finds_both}
use Rattle.kk_parser.specs.Views.{boxed_declaration}
use Rattle.kk_parser.proofs.Declarations.{declaration_boxed}
use Rattle.kk_parser.proofs.MemoryDepths.{in_box_under}
use Rattle.kk_parser.proofs.Steps.{gives_up_as_in, reads_made_as}
use Rattle.kk_parser.proofs.parser.Parser.type_declaration.Goals as goal

pub returns-in_err-expect_keyword-clause-reads : goal.returns-in_err-expect_keyword-clause-reads
returns-in_err-expect_keyword-clause-reads c =
    gives_up_as_in typed (token (keyword Keyword.Type)) typed_of boxed_declaration c.from_residual.result
    c.in_err-expect_keyword.field-0.0 c.args.self.now c.args.self.now c.expect_keyword.new.self
    (λ f r. (fails_front r)) c.from_residual.ensures.1 c.in_err-expect_keyword.ensures.reads

pub returns-in_err-name-clause-reads : goal.returns-in_err-name-clause-reads
returns-in_err-name-clause-reads c =
    gives_up_as_in typed (token type_name) typed_of boxed_declaration c.from_residual-in_err-name.result c.in_err-name.field-0.0
    c.args.self.now c.expect_keyword.new.self c.identifier.new.self
    (λ f r. (fails_behind c.in_ok-expect_keyword.ensures.reads (fails_front r))) c.from_residual-in_err-name.ensures.1
    c.in_err-name.ensures.reads

pub returns-in_err-parameters-clause-reads : goal.returns-in_err-parameters-clause-reads
returns-in_err-parameters-clause-reads c =
    gives_up_as_in typed (optional type_parameters) typed_of boxed_declaration c.from_residual-in_err-parameters.result
    c.in_err-parameters.field-0.0 c.args.self.now c.identifier.new.self c.type_parameters.new.self
    (λ f r. (fails_behind c.in_ok-expect_keyword.ensures.reads (fails_behind c.in_ok-name.ensures.reads (fails_front r))))
    c.from_residual-in_err-parameters.ensures.1 c.in_err-parameters.ensures.reads

pub returns-in_err-open-clause-reads : goal.returns-in_err-open-clause-reads
returns-in_err-open-clause-reads c =
    gives_up_as_in typed (opener (symbol OpenBrace)) typed_of boxed_declaration c.from_residual-in_err-open.result
    c.in_err-open.field-0.0 c.args.self.now c.type_parameters.new.self c.open.new.self
    (λ f r. (fails_behind c.in_ok-expect_keyword.ensures.reads
    (fails_behind c.in_ok-name.ensures.reads (fails_behind c.in_ok-parameters.ensures.reads.2 (fails_front r)))))
    c.from_residual-in_err-open.ensures.1 c.in_err-open.ensures.reads

pub returns-in_err-constructors-clause-reads : goal.returns-in_err-constructors-clause-reads
returns-in_err-constructors-clause-reads c =
    gives_up_as_in typed (separated (rule con)) typed_of boxed_declaration c.from_residual-in_err-constructors.result
    c.in_err-constructors.field-0.0 c.args.self.now c.open.new.self c.constructors.new.self
    (λ f r. (fails_behind c.in_ok-expect_keyword.ensures.reads
    (fails_behind c.in_ok-name.ensures.reads (fails_behind c.in_ok-parameters.ensures.reads.2
    (fails_behind c.in_ok-open.ensures.reads (fails_front r)))))) c.from_residual-in_err-constructors.ensures.1
    c.in_err-constructors.ensures.reads

pub returns-in_err-expect-clause-reads : goal.returns-in_err-expect-clause-reads
returns-in_err-expect-clause-reads c =
    gives_up_as_in typed (token (symbol CloseBrace)) typed_of boxed_declaration c.from_residual-in_err-expect.result
    c.in_err-expect.field-0.0 c.args.self.now c.constructors.new.self c.expect.new.self
    (λ f r. (fails_behind c.in_ok-expect_keyword.ensures.reads
    (fails_behind c.in_ok-name.ensures.reads (fails_behind c.in_ok-parameters.ensures.reads.2
    (fails_behind c.in_ok-open.ensures.reads (fails_behind c.in_ok-constructors.ensures.reads.2 r))))))
    c.from_residual-in_err-expect.ensures.1 c.in_err-expect.ensures.reads

pub returns-clause-reads : goal.returns-clause-reads
returns-clause-reads c =
    let called = c.in_ok-name.name in
    let given = c.in_ok-parameters.ensures.reads in
    let list = c.in_ok-constructors.ensures.reads in
    reads_made_as typed typed_of boxed_declaration (tt, (called, (given.0, (tt, (list.0, tt))))) _ c.boxed.result c.args.self.now
    c.expect.new.self (declaration_boxed c.boxed.result _ c.boxed.ensures)
    (ap (λ names. type_declaration called names (separated_of list.0)) given.1 ∙ ap
    (λ cs. type_declaration called c.in_ok-parameters.parameters.items cs) list.1)
    (finds_both c.in_ok-expect_keyword.ensures.reads (finds_both c.in_ok-name.ensures.reads
    (finds_both given.2 (finds_both c.in_ok-open.ensures.reads (finds_both list.2 c.in_ok-expect.ensures.reads)))))

pub returns-clause-depth : goal.returns-clause-depth
returns-clause-depth c = in_box_under BodyIsNoDeeper c.boxed.result _ c.boxed.ensures tt
