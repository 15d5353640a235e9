-- What is known of the tokens of a compiled program, so that it can be lowered with them.
use Rattle.std.specs.Prelude.{◌≡◌, ℕ, ◌+◌, ◌-◌, ◌*◌}
use Rattle.kk_syntax.specs.declared.ground.Ground.{Ground}
use Rattle.kk_syntax.specs.GroundPrograms.{ground_program}
use Rattle.kk_syntax.specs.Shapes.{greatest_nodes}
use Rattle.kk_counted.specs.BareForms.{bare_program}
use Rattle.kk_counted.specs.FunctionSizes.{AllHaveSlotsBelow}
use Rattle.kk_counted.specs.Programs.{program_of}
use Rattle.kk_counted.specs.TokenCosts.{quiet_cost, other_cost, HasRoom}
use Rattle.kk_counted.specs.TokenLengths.{AreTokensShort}
use Rattle.kk_counted.specs.TokenLowerable.{AreTokensLowerable}
use Rattle.kk_counted.specs.TokenSpending.{AreTokensSpent}
use Rattle.kk_counted.specs.TokenedCodes.{TokenedProgram}
use Rattle.kk_counted.specs.TokenedForms.{tokened_program}
use Rattle.kk_counted.specs.declared.counted.Counted.{Counted}
use Rattle.kk_counted.specs.declared.tokened.Tokened.{Tokened}
use Rattle.kk_reuse.specs.Paired.{AllPaired}

-- a program with tokens, with the string literals of its instances
abbrev pub tokened_of : Tokened → Ground → TokenedProgram
tokened_of made given = tokened_program made.functions.items given.texts.items

-- The room for tokens at each form but a dup and a drop: for each cell that a function can open on a path, that of a form more and
-- of a token that a construction names besides. These cells are fewer than the nodes of the greatest body of the instances.
abbrev pub token_room : Ground → ℕ
token_room given = (quiet_cost + other_cost) * (greatest_nodes (ground_program given) - 1)

-- Without its tokens it is its counted form. A function has fewer slots than the greatest body of the instances has nodes; its tokens
-- are held at calls alone, and constructions leave only fields that are known to be their arguments. It spends each token once on each path, is paired, is short with its tokens, and
-- there is room for them.
pub record TokensCanBeLowered (counted : Counted) (made : Tokened) (given : Ground) : Type 0 where
  pub form : bare_program (tokened_of made given) ≡ program_of counted.functions.items given.texts.items
  pub lowerable : AreTokensLowerable (tokened_of made given).functions
  pub slots : AllHaveSlotsBelow (greatest_nodes (ground_program given) - 1) (tokened_of made given).functions
  pub spends : AreTokensSpent (tokened_of made given)
  pub paired : AllPaired (tokened_of made given)
  pub short : AreTokensShort (tokened_of made given).functions
  pub room : HasRoom (token_room given) (tokened_of made given)
