use Rattle.std.proofs.Common.{◌≡◌, ℕ, ◌<◌, List, length, map, All, sym, ap, ◌∙◌, subst}
use Rattle.std.specs.Prelude.{IfOk}
use Rattle.kk_syntax.specs.Types.{TypeTree, type_at}
use Rattle.kk_mono.specs.Places.{node_at}
use Rattle.kk_mono.specs.Views.{types_in}
use Rattle.kk_mono.proofs.TypeNumbers.{place_within, place_type, places_within, unit_of, some_of, named_node}
use Rattle.kk_mono.proofs.numbers.number_of_node.Goals as goal

pub number-requires-in-Named : goal.number-requires-in-Named
number-requires-in-Named c =
    subst (λ (ns : List ℕ). All (λ n. n < length (types_in c.args.types.now)) ns) (sym c.in_ok-arguments-in-Named.ensures) (places_within (types_in c.args.types.now) c.args.earlier.now c.deref.result.now (some_of c.args.types.now) c.requires.earlier_within)

pub returns-in-Unit-clause-within : goal.returns-in-Unit-clause-within
returns-in-Unit-clause-within c = some_of c.args.types.now

pub returns-in-Unit-clause-is : goal.returns-in-Unit-clause-is
returns-in-Unit-clause-is c = unit_of c.args.types.now ∙ ap (node_at (map (type_at (types_in c.args.types.now)) c.args.at.now) (map (type_at (types_in c.args.types.now)) c.args.earlier.now)) (sym c.in-Unit.is)

pub returns-in-Variable-clause-within : goal.returns-in-Variable-clause-within
returns-in-Variable-clause-within c = subst (λ n. n < length (types_in c.args.types.now)) (sym c.number_at.ensures) (place_within (types_in c.args.types.now) c.args.at.now c.in-Variable.of (some_of c.args.types.now) c.requires.at_within)

pub returns-in-Variable-clause-is : goal.returns-in-Variable-clause-is
returns-in-Variable-clause-is c =
    ap (type_at (types_in c.args.types.now)) c.number_at.ensures
    ∙ (place_type (types_in c.args.types.now) c.args.at.now c.in-Variable.of (unit_of c.args.types.now)
    ∙ ap (node_at (map (type_at (types_in c.args.types.now)) c.args.at.now) (map (type_at (types_in c.args.types.now)) c.args.earlier.now)) (sym c.in-Variable.is))

pub returns-in_ok-arguments-in-Named-clause-is : goal.returns-in_ok-arguments-in-Named-clause-is
returns-in_ok-arguments-in-Named-clause-is c =
    subst (λ (t : TypeTree). IfOk c.number-in-Named.result (λ n. type_at (types_in c.number-in-Named.new.self) n ≡ t))
    (named_node (types_in c.args.types.now) (map (type_at (types_in c.args.types.now)) c.args.at.now) c.args.earlier.now c.deref.result.now c.in-Named.by c.args.node.now c.in-Named.arguments c.in_ok-arguments-in-Named.arguments (unit_of c.args.types.now) c.in-Named.is c.deref.ensures.value c.in_ok-arguments-in-Named.ensures)
    c.number-in-Named.ensures.is
