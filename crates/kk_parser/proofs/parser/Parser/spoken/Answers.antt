use Rattle.std.proofs.Common.{ap}
use Rattle.kk_syntax.specs.declared.token.Symbol.TheVariants.{Dot}
use Rattle.kk_syntax.specs.Surface.{print_text}
use Rattle.kk_parser.specs.Forms.{spoken, spoken_of}
use Rattle.kk_parser.specs.Grammar.{print_word, no_arguments}
use Rattle.kk_parser.specs.Kinds.{symbol, string}
use Rattle.kk_parser.specs.Phrases.{token, opener, optional}
use Rattle.kk_parser.specs.Reading.{fails_front, fails_behind, finds_both}
use Rattle.kk_parser.specs.Views.{boxed_expr}
use Rattle.kk_parser.proofs.Steps.{gives_up_as_in, reads_made_as}
use Rattle.kk_parser.proofs.parser.Parser.spoken.Goals as goal

pub returns-in_err-text-clause-reads : goal.returns-in_err-text-clause-reads
returns-in_err-text-clause-reads c =
    gives_up_as_in spoken (token string) spoken_of boxed_expr c.from_residual.result c.in_err-text.field-0.0 c.args.self.now c.args.self.now c.string.new.self (λ f h. fails_front h) c.from_residual.ensures.1 c.in_err-text.ensures.reads

pub returns-in_err-open-clause-reads : goal.returns-in_err-open-clause-reads
returns-in_err-open-clause-reads c =
    gives_up_as_in spoken (opener (symbol Dot)) spoken_of boxed_expr c.from_residual-in_err-open.result c.in_err-open.field-0.0 c.args.self.now c.string.new.self c.open.new.self
    (λ f h. fails_behind c.in_ok-text.ensures.reads (fails_front h)) c.from_residual-in_err-open.ensures.1 c.in_err-open.ensures.reads

pub returns-in_err-form-clause-reads : goal.returns-in_err-form-clause-reads
returns-in_err-form-clause-reads c =
    gives_up_as_in spoken print_word spoken_of boxed_expr c.from_residual-in_err-form.result c.in_err-form.field-0.0 c.args.self.now c.open.new.self c.print_word.new.self
    (λ f h. fails_behind c.in_ok-text.ensures.reads (fails_behind c.in_ok-open.ensures.reads (fails_front h))) c.from_residual-in_err-form.ensures.1 c.in_err-form.ensures.reads

pub returns-in_err-no_arguments-clause-reads : goal.returns-in_err-no_arguments-clause-reads
returns-in_err-no_arguments-clause-reads c =
    gives_up_as_in spoken (optional no_arguments) spoken_of boxed_expr c.from_residual-in_err-no_arguments.result c.in_err-no_arguments.field-0.0 c.args.self.now c.print_word.new.self c.no_arguments.new.self
    (λ f h. fails_behind c.in_ok-text.ensures.reads (fails_behind c.in_ok-open.ensures.reads (fails_behind c.in_ok-form.ensures.reads.2 h))) c.from_residual-in_err-no_arguments.ensures.1 c.in_err-no_arguments.ensures.reads

pub returns-clause-reads : goal.returns-clause-reads
returns-clause-reads c =
    let word = c.in_ok-form.ensures.reads in
    let end = c.in_ok-no_arguments.ensures.reads in
    reads_made_as spoken spoken_of boxed_expr (c.in_ok-text.text, (tt, (word.0, end.0))) _ c.print_text.result c.args.self.now c.no_arguments.new.self c.print_text.ensures.made (ap (λ w. print_text w.0 c.in_ok-text.text) word.1)
    (finds_both c.in_ok-text.ensures.reads (finds_both c.in_ok-open.ensures.reads (finds_both word.2 end.2)))
