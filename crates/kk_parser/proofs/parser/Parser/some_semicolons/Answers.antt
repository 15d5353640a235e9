use Rattle.std.proofs.Common.{refl}
use Rattle.kk_syntax.specs.declared.token.Symbol.TheVariants.{Semicolon}
use Rattle.kk_parser.specs.Grammar.{some_semicolons}
use Rattle.kk_parser.specs.Kinds.{symbol}
use Rattle.kk_parser.specs.Phrases.{token}
use Rattle.kk_parser.specs.Reading.{fails_front, finds_both}
use Rattle.kk_parser.proofs.Steps.{gives_up_for_in}
use Rattle.kk_parser.proofs.parser.Parser.some_semicolons.Goals as goal

pub returns-in_err-expect-clause-reads : goal.returns-in_err-expect-clause-reads
returns-in_err-expect-clause-reads c =
    gives_up_for_in some_semicolons (token (symbol Semicolon)) (λ _. tt) c.from_residual.result c.in_err-expect.field-0.0 c.args.self.now c.args.self.now c.expect.new.self (λ f h. fails_front h) c.from_residual.ensures.1 c.in_err-expect.ensures.reads

pub returns-clause-reads : goal.returns-clause-reads
returns-clause-reads c =
    let s = c.skip_semicolons.ensures.reads in
    ((tt, s.0), refl, finds_both c.in_ok-expect.ensures.reads s.1)
