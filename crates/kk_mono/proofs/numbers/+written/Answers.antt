use Rattle.std.proofs.Common.{◌≡◌, ◌<◌, length, map, sym, ap, ◌∙◌, subst}
use Rattle.std.specs.Prelude.{IfOk}
use Rattle.kk_syntax.specs.Types.{TypeTree, type_tree, put, type_at}
use Rattle.kk_mono.specs.Views.{types_in}
use Rattle.kk_mono.proofs.TypeNumbers.{place_within, place_type, unit_of, some_of, grows_on, types_stay, unit_written, variable_written, named_written, written_more}
use Rattle.kk_mono.proofs.numbers.+written.Goals as goal

pub number_of_written-returns-in-Unit-clause-within : goal.number_of_written-returns-in-Unit-clause-within
number_of_written-returns-in-Unit-clause-within t c = some_of c.args.types.now

pub number_of_written-returns-in-Unit-clause-is : goal.number_of_written-returns-in-Unit-clause-is
number_of_written-returns-in-Unit-clause-is t c = unit_of c.args.types.now ∙ ap (put (type_at (map (type_at (types_in c.args.types.now)) c.args.at.now))) (sym (unit_written c.args.of.now c.in-Unit.is))

pub number_of_written-returns-in-Variable-clause-within : goal.number_of_written-returns-in-Variable-clause-within
number_of_written-returns-in-Variable-clause-within t c = subst (λ n. n < length (types_in c.args.types.now)) (sym c.number_at.ensures) (place_within (types_in c.args.types.now) c.args.at.now c.in-Variable.variable (some_of c.args.types.now) c.requires)

pub number_of_written-returns-in-Variable-clause-is : goal.number_of_written-returns-in-Variable-clause-is
number_of_written-returns-in-Variable-clause-is t c =
    ap (type_at (types_in c.args.types.now)) c.number_at.ensures
    ∙ (place_type (types_in c.args.types.now) c.args.at.now c.in-Variable.variable (unit_of c.args.types.now)
    ∙ ap (put (type_at (map (type_at (types_in c.args.types.now)) c.args.at.now))) (sym (variable_written c.in-Variable.variable c.args.of.now c.in-Variable.is)))

pub number_of_written-returns-in_ok-arguments-in-Named-clause-is : goal.number_of_written-returns-in_ok-arguments-in-Named-clause-is
number_of_written-returns-in_ok-arguments-in-Named-clause-is t c =
    subst (λ (u : TypeTree). IfOk c.number-in-Named.result (λ n. type_at (types_in c.number-in-Named.new.self) n ≡ u))
    (named_written (types_in c.numbers_of_written.new.types) (type_at (map (type_at (types_in c.args.types.now)) c.args.at.now)) c.in-Named.by c.args.of.now c.in-Named.arguments c.deref.result.now c.in_ok-arguments-in-Named.arguments c.in-Named.is c.deref.ensures.value c.in_ok-arguments-in-Named.ensures.are)
    c.number-in-Named.ensures.is

pub numbers_of_written-loop-of-preserved : goal.numbers_of_written-loop-of-preserved
numbers_of_written-loop-of-preserved t c =
    let before = types_in c.args.types.now in
    let now = types_in c.loop-of.types in
    let same : map (type_at now) c.args.at.now ≡ map (type_at before) c.args.at.now = types_stay before now c.args.at.now c.requires c.loop-of.invariant.grows in
    record {
      grows = grows_on before now (types_in c.number_of_written.new.types) c.loop-of.invariant.grows c.number_of_written.ensures.grows;
      are = written_more now (types_in c.number_of_written.new.types) (type_at (map (type_at before) c.args.at.now)) c.loop-of.numbers.items c.push.new.self.items c.in_ok-number_of_written.field-0 c.loop-of.of-index c.args.written.now c.of-item.result
          c.loop-of-test.true c.of-item.is c.loop-of.invariant.are c.number_of_written.ensures.grows c.in_ok-number_of_written.ensures.within
          (c.in_ok-number_of_written.ensures.is ∙ ap (λ ts. put (type_at ts) (type_tree c.of-item.result)) same) c.in_ok-push.ensures.items;
    }
