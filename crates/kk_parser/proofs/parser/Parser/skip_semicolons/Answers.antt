use Rattle.std.proofs.Common.{refl, sym, ◌∙◌, ◌∷◌, [], arith}
use Rattle.kk_syntax.specs.declared.token.Symbol.TheVariants.{Semicolon}
use Rattle.kk_parser.specs.Kinds.{symbol}
use Rattle.kk_parser.specs.Grammar.{semicolons}
use Rattle.kk_parser.specs.Phrases.{token}
use Rattle.kk_parser.proofs.Steps.{symbol_read, continues_start, continues_many, ends_many}
use Rattle.kk_parser.proofs.parser.Parser.skip_semicolons.Goals as goal

pub loop-self-init : goal.loop-self-init
loop-self-init c = record { depth = refl; left = omega arith; read = (λ v. v, continues_start semicolons c.args.self.now) }

pub loop-self-preserved : goal.loop-self-preserved
loop-self-preserved c =
    let r = c.loop-self.invariant.read in
    let h = sym c.is_at.ensures.value ∙ c.loop-self-test.true in
    record {
      depth = c.advance.ensures.depth ∙ c.loop-self.invariant.depth;
      left = omega arith;
      read = (λ vs. r.0 (tt ∷ vs), continues_many semicolons (token (symbol Semicolon)) r.0 tt c.args.self.now c.loop-self.self c.advance.new.self r.1 h (symbol_read Semicolon c.loop-self.self c.advance.new.self h c.advance.ensures.rest c.advance.ensures.depth));
    }

pub returns-clause-reads : goal.returns-clause-reads
returns-clause-reads c =
    let r = c.loop-self.invariant.read in
    (r.0 [], ends_many r.1 (sym c.is_at.ensures.value ∙ c.loop-self-test.false))
