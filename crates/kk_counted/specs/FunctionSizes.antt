-- How many variables and slots the functions of a program have at most.
use Rattle.std.specs.Prelude.{◌≡◌, ℕ, ◌≤◌, List, Some, slice_get}
use Rattle.kk_counted.specs.CountedCodes.{CountedFunction}
use Rattle.kk_counted.specs.Lowerable.{AreNumbered}
use Rattle.kk_counted.specs.Spending.{numbers_from}
use Rattle.kk_counted.specs.TokenLowerable.{slots_in}
use Rattle.kk_counted.specs.TokenedCodes.{TokenedFunction}

-- the variables of a function are numbered in order, the parameters first, all of them below a number
pub record HasVariablesBelow (most : ℕ) (function : CountedFunction) : Type 0 where
  pub parameters : function.parameters ≤ most
  pub numbered : AreNumbered most (numbers_from 0 function.parameters) function.body

abbrev pub AllHaveVariablesBelow : ℕ → List CountedFunction → Type 0
AllHaveVariablesBelow most functions =
    (f : ℕ) (function : CountedFunction) → slice_get functions f ≡ Some function → HasVariablesBelow most function

-- each function has so many slots at most
abbrev pub AllHaveSlotsBelow : ℕ → List TokenedFunction → Type 0
AllHaveSlotsBelow most functions =
    (f : ℕ) (function : TokenedFunction) → slice_get functions f ≡ Some function → slots_in function.body ≤ most
