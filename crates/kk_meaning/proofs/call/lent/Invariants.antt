use Rattle.std.proofs.Common.{◌≡◌, ◌++◌, map, drop}
use Rattle.kk_syntax.specs.PositionsOf.{is_lent, positions_of}
use Rattle.kk_source.specs.Step.{lent_places}
use Rattle.kk_meaning.specs.View.{value_view}
use Rattle.kk_meaning.proofs.call.lent.Given as goal

abbrev pub invariant-loop-parameter : goal.invariant-loop-parameter
invariant-loop-parameter l = map value_view l.lent.items ++ lent_places (is_lent (positions_of l.positions) l.function) l.parameter (map value_view (drop l.parameter l.arguments)) ≡ lent_places (is_lent (positions_of l.positions) l.function) 0 (map value_view l.arguments)
