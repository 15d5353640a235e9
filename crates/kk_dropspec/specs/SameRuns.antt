-- Runs of specialised code come to the states of the code that it is made of.
use Rattle.std.specs.Prelude.{◌≡◌, ℕ, List}
use Rattle.kk_base.specs.Machines.{trace, weight_of, ending_after}
use Rattle.kk_counted.specs.CountedCosts.{roomy_cost}
use Rattle.kk_counted.specs.CountedStates.{CountedSetting, CountedState, counted_first_state}
use Rattle.kk_counted.specs.CountedMachine.{counted_machine}
use Rattle.kk_counted.specs.Keeping.{counted_after}
use Rattle.kk_dropspec.specs.Specialised.{special_setting, special_configuration}

-- After so many steps of both, whatever they weigh: equal states but for the code, equal notes and equal ends; and the steps of
-- both cost as much, with any room, since an opening costs the same by either way.
pub record AreSameAfter (n : ℕ) (weight other : CountedState → ℕ) (setting : CountedSetting) (input : List ℕ) : Type 0 where
  pub states : counted_after other (special_setting setting) input n ≡ special_configuration (counted_after weight setting input n)
  pub notes : trace (counted_machine other (special_setting setting)) n (counted_first_state (special_setting setting) input)
      ≡ trace (counted_machine weight setting) n (counted_first_state setting input)
  pub ends : ending_after (counted_machine other (special_setting setting)) n (counted_first_state (special_setting setting) input)
      ≡ ending_after (counted_machine weight setting) n (counted_first_state setting input)
  pub costs : (room : ℕ) → weight_of (counted_machine (roomy_cost room) (special_setting setting)) n
      (counted_first_state (special_setting setting) input)
      ≡ weight_of (counted_machine (roomy_cost room) setting) n (counted_first_state setting input)
