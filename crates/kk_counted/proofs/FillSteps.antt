-- What the filling of a slot's cell does: where the slot is null it asks for a cell, and else it fills its own.
use Rattle.std.proofs.Common.{◌≡◌, ℕ, List, length, ap, ◌∙◌}
use Rattle.kk_source.specs.State.{Value}
use Rattle.kk_source.specs.Actions.{Action, goes}
use Rattle.kk_counted.specs.Heaps.{fields_held}
use Rattle.kk_counted.specs.Tokens.{spent, null, token, blanked, released, by_token, Room, has_room, request}
use Rattle.kk_counted.specs.TokenStates.{TokenSetting, TokenConfiguration}
use Rattle.kk_counted.specs.TokenMachine.{token_at_stuck, make_step, filled, fill_step}
use Rattle.kk_counted.specs.TokenKeeping.{ArePooled}
use Rattle.kk_counted.proofs.SlotMarks.{by_null, by_cell}

-- in the function that is the `d`th to be called
module _ (setting : TokenSetting) (y c : ℕ) (fields : List Value) (kept others : List ℕ) (to : Value → TokenConfiguration)
    (from : TokenConfiguration) (d : ℕ) (many : length from.frames ≡ d) where
  abbrev make : Room → List Value → Action TokenConfiguration
  make result values = make_step result c values to from

  abbrev asking : ℕ → Action TokenConfiguration
  asking e = make (request setting.cells others e from.heap (blanked e y spent from.tokens)) fields

  abbrev filling : ℕ → ℕ → Action TokenConfiguration
  filling e p =
      make (has_room (released e y p spent from.tokens)) (filled setting.leaves kept (fields_held from.heap p) fields)

  abbrev step : ℕ → Action TokenConfiguration
  step e = by_token (goes (token_at_stuck from)) (asking e) (filling e) e y from.tokens

  pub fill_null : from.tokens.slots d y ≡ null → fill_step setting y c fields kept others to from
      ≡ make_step (request setting.cells others d from.heap (blanked d y spent from.tokens)) c fields to from
  fill_null is = ap step many ∙ by_null setting.cells (goes (token_at_stuck from)) (asking d) (filling d) d y from.tokens is

  pub fill_cell : (p : ℕ) → ArePooled setting.cells from.heap from.tokens → from.tokens.slots d y ≡ token p
      → fill_step setting y c fields kept others to from
      ≡ make_step (has_room (released d y p spent from.tokens)) c
      (filled setting.leaves kept (fields_held from.heap p) fields) to from
  fill_cell p pooled is =
      ap step many
      ∙ by_cell setting.cells (goes (token_at_stuck from)) (asking d) (filling d) d y p from.heap from.tokens pooled is
