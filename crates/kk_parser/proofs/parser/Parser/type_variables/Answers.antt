use Rattle.std.proofs.Common.{◌∷◌, [], ◌++◌, sym, ◌∙◌, ap, subst, arith}
use Rattle.kk_parser.specs.Kinds.{type_variable_name}
use Rattle.kk_parser.specs.Grammar.{some_listed, some_listed_of}
use Rattle.kk_parser.specs.Phrases.{token}
use Rattle.kk_parser.specs.Reading.{fails_front}
use Rattle.kk_parser.proofs.Lists.{SomeLists, some_lists_one, some_lists_next, some_lists_failed, some_lists_end}
use Rattle.kk_parser.proofs.Steps.{gives_up_as_in}
use Rattle.kk_parser.proofs.parser.Parser.type_variables.Goals as goal

pub returns-in_err-first-clause-reads : goal.returns-in_err-first-clause-reads
returns-in_err-first-clause-reads c =
    gives_up_as_in (some_listed (token type_variable_name)) (token type_variable_name) some_listed_of (λ names. names.items)
    c.from_residual.result c.in_err-first.field-0.0 c.args.self.now c.args.self.now c.identifier.new.self (λ f r. fails_front r)
    c.from_residual.ensures.1 c.in_err-first.ensures.reads

pub loop-self-init : goal.loop-self-init
loop-self-init c =
    let is = c.in_ok-put.ensures ∙ ap (λ xs. xs ++ c.in_ok-first.first ∷ []) c.new-names.ensures.items in
    record {
      left = omega (arith, c.in_ok-first.ensures.left);
      read = subst (λ xs. SomeLists (token type_variable_name) xs c.args.self.now c.identifier.new.self) (sym is)
          (some_lists_one (token type_variable_name) c.in_ok-first.first c.args.self.now c.identifier.new.self
          c.in_ok-first.ensures.reads);
    }

pub returns-in_err-next-clause-reads : goal.returns-in_err-next-clause-reads
returns-in_err-next-clause-reads c =
    some_lists_failed (token type_variable_name) some_listed_of (λ names. names.items) c.from_residual-in_err-next.result c.in_err-next.field-0.0
    c.args.self.now c.advance.new.self c.identifier-in-loop-self.new.self c.from_residual-in_err-next.ensures.1 c.in_err-next.ensures.reads
    (some_lists_next (token type_variable_name) c.advance.new.self c.loop-self.invariant.read
    (sym c.is_at.ensures.value ∙ c.loop-self-test.true) c.advance.ensures.rest c.advance.ensures.depth)

pub loop-self-preserved : goal.loop-self-preserved
loop-self-preserved c =
    record {
      left = omega (arith, c.in_ok-next.ensures.left);
      read = subst (λ xs. SomeLists (token type_variable_name) xs c.args.self.now c.identifier-in-loop-self.new.self)
          (sym c.in_ok-put-2.ensures)
          ((some_lists_next (token type_variable_name) c.advance.new.self c.loop-self.invariant.read
          (sym c.is_at.ensures.value ∙ c.loop-self-test.true) c.advance.ensures.rest c.advance.ensures.depth).more
          c.in_ok-next.next c.identifier-in-loop-self.new.self c.in_ok-next.ensures.reads);
    }

pub returns-clause-reads : goal.returns-clause-reads
returns-clause-reads c =
    some_lists_end (token type_variable_name) c.loop-self.names.items c.args.self.now c.loop-self.self c.loop-self.invariant.read
    (sym c.is_at.ensures.value ∙ c.loop-self-test.false)
