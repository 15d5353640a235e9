use Rattle.std.proofs.Common.{sym, ◌∙◌, ap, subst}
use Rattle.kk_syntax.specs.declared.token.Keyword.TheVariants.{Fun}
use Rattle.kk_syntax.specs.Surface.{written_expr}
use Rattle.kk_parser.specs.Depths.{IsNoDeeper, BodyIsNoDeeper}
use Rattle.kk_parser.specs.Forms.{head}
use Rattle.kk_parser.specs.Grammar.{declared_function, function_of}
use Rattle.kk_parser.specs.Kinds.{keyword}
use Rattle.kk_parser.specs.Phrases.{rule, expr, token}
use Rattle.kk_parser.specs.Reading.{fails_front, fails_behind, finds_both}
use Rattle.kk_parser.specs.Views.{declaration_of, head_view, boxed_expr, boxed_declaration}
use Rattle.kk_parser.proofs.Declarations.{of_head, declaration_boxed}
use Rattle.kk_parser.proofs.MemoryDepths.{in_box_under}
use Rattle.kk_parser.proofs.Steps.{gives_up_as_in, reads_made_as}
use Rattle.kk_parser.proofs.parser.Parser.function.Goals as goal

pub returns-in_err-expect_keyword-clause-reads : goal.returns-in_err-expect_keyword-clause-reads
returns-in_err-expect_keyword-clause-reads c =
    gives_up_as_in declared_function (token (keyword Fun)) (λ v. function_of v.1.0 v.1.1) boxed_declaration c.from_residual.result
    c.in_err-expect_keyword.field-0.0 c.args.self.now c.args.self.now c.expect_keyword.new.self
    (λ f r. fails_front r) c.from_residual.ensures.1 c.in_err-expect_keyword.ensures.reads

pub returns-in_err-head-clause-reads : goal.returns-in_err-head-clause-reads
returns-in_err-head-clause-reads c =
    gives_up_as_in declared_function head (λ v. function_of v.1.0 v.1.1) boxed_declaration c.from_residual-in_err-head.result
    c.in_err-head.field-0.0 c.args.self.now c.expect_keyword.new.self c.head.new.self
    (λ f r. fails_behind c.in_ok-expect_keyword.ensures.reads (fails_front r)) c.from_residual-in_err-head.ensures.1
    c.in_err-head.ensures.reads

pub returns-in_err-body-clause-reads : goal.returns-in_err-body-clause-reads
returns-in_err-body-clause-reads c =
    gives_up_as_in declared_function (rule expr) (λ v. function_of v.1.0 v.1.1) boxed_declaration
    c.from_residual-in_err-body.result c.in_err-body.field-0.0 c.args.self.now c.head.new.self c.expr.new.self
    (λ f r. fails_behind c.in_ok-expect_keyword.ensures.reads (fails_behind c.in_ok-head.ensures.reads.2 r))
    c.from_residual-in_err-body.ensures.1 c.in_err-body.ensures.reads

pub returns-clause-reads : goal.returns-clause-reads
returns-clause-reads c =
    let head = c.in_ok-head.ensures.reads in
    let body = boxed_expr c.in_ok-body.body in
    reads_made_as declared_function (λ v. function_of v.1.0 v.1.1) boxed_declaration (tt, (head.0, body)) _ c.boxed.result
    c.args.self.now c.expr.new.self (declaration_boxed c.boxed.result _ c.boxed.ensures)
    (of_head head.0 body ∙ ap (λ h. declaration_of h body) head.1 ∙ ap
    (λ e. declaration_of (head_view c.in_ok-head.head) (written_expr e)) (sym c.into_inner.ensures) ∙ sym
    c.function_of-declaration.ensures.made)
    (finds_both c.in_ok-expect_keyword.ensures.reads (finds_both head.2 c.in_ok-body.ensures.reads))

pub returns-clause-depth : goal.returns-clause-depth
returns-clause-depth c =
    in_box_under BodyIsNoDeeper c.boxed.result _ c.boxed.ensures (c.function_of-declaration.ensures.depth (subst IsNoDeeper (sym c.into_inner.ensures) c.in_ok-body.ensures.depth))
