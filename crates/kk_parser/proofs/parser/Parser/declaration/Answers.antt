use Rattle.std.proofs.Common.{sym, ◌∙◌, subst}
use Rattle.kk_parser.specs.declared.parser.Parser.{Parser}
use Rattle.kk_parser.specs.Forms.{typed}
use Rattle.kk_parser.specs.Grammar.{declared_function}
use Rattle.kk_parser.specs.Methods.{Read}
use Rattle.kk_parser.specs.Phrases.{rule, decl}
use Rattle.kk_parser.specs.Reading.{fails_rule, fails_level, fails_first, fails_second, finds_rule, finds_level, finds_first, finds_second}
use Rattle.kk_parser.specs.Views.{boxed_declaration}
use Rattle.kk_parser.proofs.Declarations.{function-means}
use Rattle.kk_parser.proofs.Steps.{gives_up_in}
use Rattle.kk_parser.proofs.parser.Parser.declaration.Goals as goal

pub returns-in_err-declaration-clause-reads : goal.returns-in_err-declaration-clause-reads
returns-in_err-declaration-clause-reads c =
    let h = sym c.is_at_keyword.ensures.value ∙ c.if-is_at_keyword.true in
    gives_up_in (rule decl) typed boxed_declaration c.from_residual.result c.in_err-declaration.field-0.0 c.args.self.now c.args.self.now c.type_declaration.new.self
    (λ f r. fails_rule (fails_level (fails_first h r))) c.from_residual.ensures.1 c.in_err-declaration.ensures.reads

pub returns-then-is_at_keyword-clause-reads : goal.returns-then-is_at_keyword-clause-reads
returns-then-is_at_keyword-clause-reads c =
    let h = sym c.is_at_keyword.ensures.value ∙ c.if-is_at_keyword.true in
    let d = c.in_ok-declaration.ensures.reads in
    let new : Parser = record { alloc = c.type_declaration.new.self.alloc; rest = c.type_declaration.new.self.rest; depth = c.args.self.now.depth } in
    subst (λ w. Read (rule decl) w c.args.self.now new) d.1 (finds_rule (finds_level (finds_first h d.2)))

pub returns-in_err-declaration-2-clause-reads : goal.returns-in_err-declaration-2-clause-reads
returns-in_err-declaration-2-clause-reads c =
    let h = sym c.is_at_keyword.ensures.value ∙ c.if-is_at_keyword.false in
    gives_up_in (rule decl) declared_function boxed_declaration c.from_residual-in_err-declaration-2.result c.in_err-declaration-2.field-0.0 c.args.self.now c.args.self.now c.function.new.self
    (λ f r. fails_rule (fails_level (fails_second h r))) c.from_residual-in_err-declaration-2.ensures.1 c.in_err-declaration-2.ensures.reads

pub returns-clause-reads : goal.returns-clause-reads
returns-clause-reads c =
    let h = sym c.is_at_keyword.ensures.value ∙ c.if-is_at_keyword.false in
    let d = c.in_ok-declaration-2.ensures.reads in
    let new : Parser = record { alloc = c.function.new.self.alloc; rest = c.function.new.self.rest; depth = c.args.self.now.depth } in
    subst (λ w. Read (rule decl) w c.args.self.now new) (function-means d.0 ∙ d.1) (finds_rule (finds_level (finds_second h d.2)))
