use Rattle.std.proofs.Common.{◌∷◌, [], ◌++◌, map, sym, ◌∙◌, ap, subst, arith}
use Rattle.std.proofs.lemmas.List.{map-append}
use Rattle.kk_syntax.specs.declared.token.Symbol.TheVariants.{Semicolon}
use Rattle.kk_syntax.specs.Surface.{written_constructor}
use Rattle.kk_parser.specs.Forms.{separated, separated_of}
use Rattle.kk_parser.specs.Phrases.{rule, con}
use Rattle.kk_parser.specs.Reading.{fails_front, fails_behind, fails_one, fails_presence}
use Rattle.kk_parser.proofs.Lists.{Separated, separated_one, separated_more, separated_passed, separated_end}
use Rattle.kk_parser.proofs.Steps.{gives_up_as_in, symbol_read}
use Rattle.kk_parser.proofs.parser.Parser.constructors.Goals as goal

pub returns-in_err-first-clause-reads : goal.returns-in_err-first-clause-reads
returns-in_err-first-clause-reads c =
    gives_up_as_in (separated (rule con)) (rule con) separated_of (λ cs. map written_constructor cs.items) c.from_residual.result
    c.in_err-first.field-0.0 c.args.self.now c.skip_semicolons.new.self c.constructor_declaration.new.self
    (λ f r. fails_behind c.skip_semicolons.ensures.reads.1 (fails_front r)) c.from_residual.ensures.1 c.in_err-first.ensures.reads

pub loop-self-init : goal.loop-self-init
loop-self-init c =
    let is = c.in_ok-put.ensures ∙ ap (λ xs. xs ++ c.in_ok-first.first ∷ []) c.new-constructors.ensures.items in
    let semis = c.skip_semicolons.ensures.reads in
    record {
      left = omega (arith, c.in_ok-first.ensures.left);
      read = subst (λ xs. Separated (rule con) xs c.args.self.now c.constructor_declaration.new.self)
          (sym (ap (map written_constructor) is))
          (separated_one (rule con) semis.0 (written_constructor c.in_ok-first.first) c.args.self.now c.skip_semicolons.new.self
          c.constructor_declaration.new.self semis.1 c.in_ok-first.ensures.reads);
    }

pub returns-in_err-next-clause-reads : goal.returns-in_err-next-clause-reads
returns-in_err-next-clause-reads c =
    let h = sym c.is_at.ensures.value ∙ c.loop-self-test.true in
    let g = sym c.is_at_constructor.ensures ∙ c.if-is_at_constructor.true in
    let semi = symbol_read Semicolon c.loop-self.self c.advance.new.self h c.advance.ensures.rest c.advance.ensures.depth in
    gives_up_as_in (separated (rule con)) (rule con) separated_of (λ cs. map written_constructor cs.items)
    c.from_residual-in_err-next.result c.in_err-next.field-0.0 c.args.self.now c.advance.new.self
    c.constructor_declaration-then-is_at_constructor.new.self
    (λ f r. c.loop-self.invariant.read.read.failed f (fails_one h (fails_behind semi (fails_presence g r))))
    c.from_residual-in_err-next.ensures.1 c.in_err-next.ensures.reads

pub loop-self-preserved-in-Continue-branch-4 : goal.loop-self-preserved-in-Continue-branch-4
loop-self-preserved-in-Continue-branch-4 c =
    let h = sym c.is_at.ensures.value ∙ c.loop-self-test.true in
    let g = sym c.is_at_constructor.ensures ∙ c.if-is_at_constructor.true in
    let semi = symbol_read Semicolon c.loop-self.self c.advance.new.self h c.advance.ensures.rest c.advance.ensures.depth in
    let next = c.in_ok-next.next in
    record {
      left = omega (arith, c.in_ok-next.ensures.left);
      read = subst (λ xs. Separated (rule con) xs c.args.self.now c.constructor_declaration-then-is_at_constructor.new.self)
          (sym (ap (map written_constructor) c.in_ok-put-2.ensures ∙ map-append written_constructor c.loop-self.constructors.items
          (next ∷ [])))
          (separated_more (rule con) (map written_constructor c.loop-self.constructors.items) (written_constructor next)
          c.args.self.now c.loop-self.self c.advance.new.self c.constructor_declaration-then-is_at_constructor.new.self
          c.loop-self.invariant.read h semi g c.in_ok-next.ensures.reads);
    }

pub loop-self-preserved : goal.loop-self-preserved
loop-self-preserved c =
    let h = sym c.is_at.ensures.value ∙ c.loop-self-test.true in
    let g = sym c.is_at_constructor.ensures ∙ c.if-is_at_constructor.false in
    let semi = symbol_read Semicolon c.loop-self.self c.advance.new.self h c.advance.ensures.rest c.advance.ensures.depth in
    record {
      left = omega arith;
      read = separated_passed (rule con) (map written_constructor c.loop-self.constructors.items) c.args.self.now c.loop-self.self
          c.advance.new.self c.loop-self.invariant.read h semi g;
    }

pub returns-clause-reads : goal.returns-clause-reads
returns-clause-reads c =
    separated_end (rule con) (map written_constructor c.loop-self.constructors.items) c.args.self.now c.loop-self.self
    c.loop-self.invariant.read (sym c.is_at.ensures.value ∙ c.loop-self-test.false)
