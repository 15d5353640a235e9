-- Runs of small programs, counted by hand.
use Rattle.std.proofs.Common.{◌≡◌, ℕ, pos, List, [], ◌∷◌, Some, None, refl}
use Rattle.std.specs.Int.{int_wrap}
use Rattle.std.specs.Fmt.{digits}
use Rattle.std.specs.Prelude.{codes}
use Rattle.kk_base.specs.Trace.{output}
use Rattle.kk_base.specs.Machines.{trace, state, ending_after}
use Rattle.kk_syntax.specs.declared.operator.BinaryOperator.TheVariants.{Add, Subtract, Multiply, Equal}
use Rattle.kk_syntax.specs.declared.operator.PrintForm.TheVariants.{PrintLine}
use Rattle.kk_syntax.specs.declared.program.Form.TheVariants.{Number, Binary, Print, Call}
use Rattle.kk_syntax.specs.PositionsOf.{all_owned}
use Rattle.kk_source.specs.State.{ended, stack_full}
use Rattle.kk_source.specs.Notes.{seen, built, called}
use Rattle.kk_core.specs.Codes.{Code, give, case, compute, unpack, no_arm, FunctionCode}
use Rattle.kk_core.specs.CoreStates.{CoreSetting, CoreState, core_first_state}
use Rattle.kk_core.specs.CoreMachine.{core_machine}
use Rattle.kk_core.specs.Truths.{truth_case}
use Rattle.kk_core.proofs.ListExamples.{one_or_more, first_two, with_list}

abbrev setting : List FunctionCode → ℕ → ℕ → CoreSetting
setting functions main depth = record {
  code = record { functions = functions; texts = []; main = main };
  positions = all_owned;
  cells = 8;
  depth = depth;
}

-- println(1 + 2 * 3): three numbers, two operators, the print, the end
abbrev arithmetic : CoreSetting
arithmetic =
    setting
    (record {
      parameters = 0;
      variables = 6;
      body = compute 0 (Number (pos 1)) [] (compute 1 (Number (pos 2)) [] (compute 2 (Number (pos 3)) []
          (compute 3 (Binary Multiply) (1 ∷ 2 ∷ []) (compute 4 (Binary Add) (0 ∷ 3 ∷ [])
          (compute 5 (Print PrintLine) (4 ∷ []) (give 5))))));
    } ∷ [])
    0 1

arithmetic_tells : trace (core_machine (λ s. 1) arithmetic) 7 (core_first_state arithmetic []) ≡ seen (output (codes "7\n")) ∷ []
unfolding int_wrap digits
arithmetic_tells = refl

arithmetic_goes_on : ending_after (core_machine (λ s. 1) arithmetic) 6 (core_first_state arithmetic []) ≡ None
unfolding int_wrap digits
arithmetic_goes_on = refl

arithmetic_ends : ending_after (core_machine (λ s. 1) arithmetic) 7 (core_first_state arithmetic []) ≡ Some ended
unfolding int_wrap digits
arithmetic_ends = refl

-- fun sum(n) { if n == 0 then 0 else n + sum(n - 1) }, and println(sum(2)): three calls that are no tail calls, which find
-- one, two and three call frames
abbrev sum : FunctionCode
sum = record {
  parameters = 1;
  variables = 8;
  body = compute 1 (Number (pos 0)) [] (compute 2 (Binary Equal) (0 ∷ 1 ∷ [])
      (truth_case 2 (compute 3 (Number (pos 0)) [] (give 3))
      (compute 4 (Number (pos 1)) [] (compute 5 (Binary Subtract) (0 ∷ 4 ∷ [])
      (compute 6 (Call 0) (5 ∷ []) (compute 7 (Binary Add) (0 ∷ 6 ∷ []) (give 7)))))));
}

abbrev deep : ℕ → CoreSetting
deep depth =
    setting
    (sum ∷ record {
      parameters = 0;
      variables = 3;
      body = compute 0 (Number (pos 2)) [] (compute 1 (Call 0) (0 ∷ []) (compute 2 (Print PrintLine) (1 ∷ []) (give 2)));
    } ∷ [])
    1 depth

deep_tells : trace (core_machine (λ s. 1) (deep 4)) 40 (core_first_state (deep 4) []) ≡ called 1 ∷ called 2 ∷ called 3 ∷ seen (output (codes "3\n")) ∷ []
unfolding int_wrap digits
deep_tells = refl

deep_ends : ending_after (core_machine (λ s. 1) (deep 4)) 40 (core_first_state (deep 4) []) ≡ Some ended
unfolding int_wrap digits
deep_ends = refl

-- with three call frames the third call finds the stack full
deep_is_too_deep : ending_after (core_machine (λ s. 1) (deep 3)) 14 (core_first_state (deep 3) []) ≡ Some stack_full
unfolding int_wrap digits
deep_is_too_deep = refl

-- `first_two`, and a `main` that has a list of the numbers 8 and 7
abbrev on_list : Code → CoreSetting
on_list rest = setting (first_two ∷ record { parameters = 0; variables = 7; body = with_list rest } ∷ []) 1 4

abbrev shows_first_two : ℕ → CoreSetting
shows_first_two xs = on_list (compute 5 (Call 0) (xs ∷ []) (compute 6 (Print PrintLine) (5 ∷ []) (give 6)))

two_are_added : trace (core_machine (λ s. 1) (shows_first_two 4)) 40 (core_first_state (shows_first_two 4) []) ≡ built 0 ∷ built 1 ∷ called 1 ∷ seen (output (codes "15\n")) ∷ []
unfolding int_wrap digits
two_are_added = refl

one_is_given : trace (core_machine (λ s. 1) (shows_first_two 2)) 40 (core_first_state (shows_first_two 2) []) ≡ built 0 ∷ built 1 ∷ called 1 ∷ seen (output (codes "7\n")) ∷ []
unfolding int_wrap digits
one_is_given = refl

none_is_zero : trace (core_machine (λ s. 1) (shows_first_two 0)) 40 (core_first_state (shows_first_two 0) []) ≡ built 0 ∷ built 1 ∷ called 1 ∷ seen (output (codes "0\n")) ∷ []
unfolding int_wrap digits
none_is_zero = refl

-- where it would open a list as `Nil`, a number as a cell, or go on by a row without an arm, the machine stays
abbrev after : ℕ → CoreSetting → CoreState
after steps setting = state (core_machine (λ s. 1) setting) steps (core_first_state setting [])

abbrev opens : ℕ → ℕ → CoreSetting
opens x c = on_list (unpack x c [] (give x))

opened_as_made : ending_after (core_machine (λ s. 1) (opens 4 3)) 7 (core_first_state (opens 4 3) []) ≡ Some ended
opened_as_made = refl

opened_as_another : after 6 (opens 4 2) ≡ after 5 (opens 4 2)
opened_as_another = refl

opened_without_a_cell : after 6 (opens 3 3) ≡ after 5 (opens 3 3)
opened_without_a_cell = refl

chosen_without_an_arm : after 6 (on_list (case 4 one_or_more no_arm)) ≡ after 5 (on_list (case 4 one_or_more no_arm))
chosen_without_an_arm = refl
