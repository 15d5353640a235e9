-- Reuse specialisation of one step of a block, and what is known behind a step.
use Rattle.std.specs.Prelude.{List, [], ◌∷◌}
use Rattle.kk_counted.specs.KeptFields.{KnownFields, fields_in, forget_slot, forget_variable, forget_variables, known_opened}
use Rattle.kk_counted.specs.TokenedForms.{TokenedMove}
use Rattle.kk_respec.specs.Respecialised.{kept_from, respec}

-- a step, by what is known in front of it
abbrev pub respec_move : List KnownFields → TokenedMove → TokenedMove
respec_move known (TokenedMove.computes x form arguments others) = TokenedMove.computes x form arguments others
respec_move known (TokenedMove.runs x block) = TokenedMove.runs x (respec known block)
respec_move known (TokenedMove.reads x c fields) = TokenedMove.reads x c fields
respec_move known (TokenedMove.opens x c fields used y) = TokenedMove.opens x c fields used y
respec_move known (TokenedMove.opens_unique x c fields used y) = TokenedMove.opens_unique x c fields used y
respec_move known (TokenedMove.dups x) = TokenedMove.dups x
respec_move known (TokenedMove.drops x) = TokenedMove.drops x
respec_move known (TokenedMove.fills x y c first arguments kept others) =
    TokenedMove.fills x y c first arguments (kept_from 0 (fields_in known y) (first ∷ arguments)) others
respec_move known (TokenedMove.frees y) = TokenedMove.frees y
respec_move known (TokenedMove.nulls y) = TokenedMove.nulls y
respec_move known (TokenedMove.moves to of) = TokenedMove.moves to of
respec_move known (TokenedMove.holds y) = TokenedMove.holds y
respec_move known (TokenedMove.unholds y) = TokenedMove.unholds y

-- what is known behind a step
abbrev pub known_behind : List KnownFields → TokenedMove → List KnownFields
known_behind known (TokenedMove.computes x form arguments others) = forget_variable x known
known_behind known (TokenedMove.runs x block) = []
known_behind known (TokenedMove.reads x c fields) = forget_variables fields known
known_behind known (TokenedMove.opens x c fields used y) = known_opened fields y known
known_behind known (TokenedMove.opens_unique x c fields used y) = known_opened fields y known
known_behind known (TokenedMove.dups x) = known
known_behind known (TokenedMove.drops x) = known
known_behind known (TokenedMove.fills x y c first arguments kept others) = forget_variable x (forget_slot y known)
known_behind known (TokenedMove.frees y) = forget_slot y known
known_behind known (TokenedMove.nulls y) = forget_slot y known
known_behind known (TokenedMove.moves to of) = forget_slot to (forget_slot of known)
known_behind known (TokenedMove.holds y) = known
known_behind known (TokenedMove.unholds y) = known
