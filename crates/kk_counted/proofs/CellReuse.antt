-- A construction in a token's cell takes no other cell.
use Rattle.std.proofs.Common.{◌≡◌, ℕ, List, ◌∷◌, map, length, arith, refl, ap}
use Rattle.kk_source.specs.State.{Value, Environment}
use Rattle.kk_source.specs.Live.{value_of}
use Rattle.kk_source.specs.Actions.{goes, builds}
use Rattle.kk_counted.specs.Heaps.{Heap, busy, fields_held}
use Rattle.kk_counted.specs.TokenedCodes.{Tokened}
use Rattle.kk_counted.specs.Tokens.{spent, token, plain, token_of, Mark, one_if_token, Tokens, blanked, released, has_room, request}
use Rattle.kk_counted.specs.TokenStates.{TokenSetting, TokenJoin, TokenControl, TokenConfiguration}
use Rattle.kk_counted.specs.TokenMachine.{bound_to, token_at_stuck, to_made, make_step, filled, token_code_step}
use Rattle.kk_counted.specs.TokenKeeping.{ArePooled, AreKeptAt}
use Rattle.kk_counted.specs.TokenRuns.{TakesNoCell}
use Rattle.kk_counted.proofs.SlotMarks.{released_room, pooled_released, by_cell}

pub unmarked_new : (cells : ℕ) (heap : Heap) (tokens : Tokens) → ArePooled cells heap tokens
    → one_if_token (tokens.marks (length heap)) ≡ 0
unmarked_new cells heap tokens pooled = by_mark (tokens.marks (length heap)) refl
  where
    by_mark : (mark : Mark) → tokens.marks (length heap) ≡ mark → one_if_token (tokens.marks (length heap)) ≡ 0
    by_mark plain is = ap one_if_token is
    by_mark (token_of f y) is = absurd (omega (arith, pooled.there f y (length heap) is))

pub takes_no_cell : (setting : TokenSetting) (x y c first p : ℕ) (arguments kept others : List ℕ) (rest : Tokened)
    (environment : Environment) (joins : List TokenJoin) (from : TokenConfiguration)
    → AreKeptAt setting.cells from (TokenControl.running (Tokened.fill x y c first arguments kept others rest) environment joins)
    → from.tokens.slots (length from.frames) y ≡ token p
    → (to : TokenConfiguration) × ((token_code_step setting (Tokened.fill x y c first arguments kept others rest) environment joins
    from ≡ builds (busy from.heap) to)
    × TakesNoCell (length from.frames) y from to)
takes_no_cell setting x y c first p arguments kept others rest environment joins from are is = (
  made p,
  (
    by_cell setting.cells (goes (token_at_stuck from))
        (make_step (request setting.cells others (length from.frames) from.heap (blanked (length from.frames) y spent from.tokens))
        c values to from)
        (λ q. make_step (has_room (released (length from.frames) y q spent from.tokens)) c
        (filled setting.leaves kept (fields_held from.heap q) values) to from)
        (length from.frames) y p from.heap from.tokens pooled is,
    record {
      cells = omega (
        arith,
        released_room setting.cells (length from.frames) y p spent from.heap from.tokens is pooled,
        unmarked_new setting.cells from.heap (released (length from.frames) y p spent from.tokens)
            (pooled_released setting.cells (length from.frames) y p spent from.heap from.tokens is refl pooled),
      );
      slots = λ g z. refl;
      chain = refl;
    },
  ),
)
  where
    pooled : ArePooled setting.cells from.heap from.tokens
    pooled = are.1.are.pooled

    values : List Value
    values = map (value_of environment) (first ∷ arguments)

    to : Value → TokenConfiguration
    to v = bound_to x v rest environment joins from

    made : ℕ → TokenConfiguration
    made q =
        to_made (has_room (released (length from.frames) y q spent from.tokens)) c
        (filled setting.leaves kept (fields_held from.heap q) values) to from
