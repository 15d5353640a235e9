use Rattle.std.proofs.Common.{◌∷◌, [], ◌++◌, map, sym, ◌∙◌, ap, subst, arith}
use Rattle.std.proofs.lemmas.List.{map-append}
use Rattle.kk_syntax.specs.Surface.{written_parameter}
use Rattle.kk_parser.specs.Grammar.{some_listed, some_listed_of}
use Rattle.kk_parser.specs.Phrases.{rule, param}
use Rattle.kk_parser.specs.Reading.{fails_front}
use Rattle.kk_parser.proofs.Lists.{SomeLists, some_lists_one, some_lists_next, some_lists_failed, some_lists_end}
use Rattle.kk_parser.proofs.Steps.{gives_up_as_in}
use Rattle.kk_parser.proofs.parser.Parser.some_parameters.Goals as goal

pub returns-in_err-first-clause-reads : goal.returns-in_err-first-clause-reads
returns-in_err-first-clause-reads c =
    gives_up_as_in (some_listed (rule param)) (rule param) some_listed_of (λ ps. map written_parameter ps.items)
    c.from_residual.result c.in_err-first.field-0.0 c.args.self.now c.args.self.now c.parameter.new.self (λ f r. fails_front r)
    c.from_residual.ensures.1 c.in_err-first.ensures.reads

pub loop-self-init : goal.loop-self-init
loop-self-init c =
    let is = c.in_ok-put.ensures ∙ ap (λ xs. xs ++ c.in_ok-first.first ∷ []) c.new-parameters.ensures.items in
    record {
      left = omega (arith, c.in_ok-first.ensures.left);
      read = subst (λ xs. SomeLists (rule param) xs c.args.self.now c.parameter.new.self) (sym (ap (map written_parameter) is))
          (some_lists_one (rule param) (written_parameter c.in_ok-first.first) c.args.self.now c.parameter.new.self
          c.in_ok-first.ensures.reads);
    }

pub returns-in_err-next-clause-reads : goal.returns-in_err-next-clause-reads
returns-in_err-next-clause-reads c =
    some_lists_failed (rule param) some_listed_of (λ ps. map written_parameter ps.items) c.from_residual-in_err-next.result c.in_err-next.field-0.0
    c.args.self.now c.advance.new.self c.parameter-in-loop-self.new.self c.from_residual-in_err-next.ensures.1 c.in_err-next.ensures.reads
    (some_lists_next (rule param) c.advance.new.self c.loop-self.invariant.read
    (sym c.is_at.ensures.value ∙ c.loop-self-test.true) c.advance.ensures.rest c.advance.ensures.depth)

pub loop-self-preserved : goal.loop-self-preserved
loop-self-preserved c =
    record {
      left = omega (arith, c.in_ok-next.ensures.left);
      read = subst (λ xs. SomeLists (rule param) xs c.args.self.now c.parameter-in-loop-self.new.self)
          (sym (ap (map written_parameter) c.in_ok-put-2.ensures ∙ map-append written_parameter c.loop-self.parameters.items
          (c.in_ok-next.next ∷ [])))
          ((some_lists_next (rule param) c.advance.new.self c.loop-self.invariant.read
          (sym c.is_at.ensures.value ∙ c.loop-self-test.true) c.advance.ensures.rest c.advance.ensures.depth).more
          (written_parameter c.in_ok-next.next) c.parameter-in-loop-self.new.self c.in_ok-next.ensures.reads);
    }

pub returns-clause-reads : goal.returns-clause-reads
returns-clause-reads c =
    some_lists_end (rule param) (map written_parameter c.loop-self.parameters.items) c.args.self.now c.loop-self.self
    c.loop-self.invariant.read (sym c.is_at.ensures.value ∙ c.loop-self-test.false)
