-- Two programs, inserted and run on both machines: one lends a list, and one has a nested pattern.
use Rattle.std.proofs.Common.{◌≡◌, ℕ, zero, suc, pos, List, [], ◌∷◌, Option, Some, None, arith, refl, ap, subst}
use Rattle.std.specs.Prelude.{slice_get}
use Rattle.std.specs.Int.{int_wrap}
use Rattle.std.specs.Fmt.{digits}
use Rattle.kk_base.specs.Machines.{trace, state}
use Rattle.kk_syntax.specs.declared.operator.BinaryOperator.TheVariants.{Add}
use Rattle.kk_syntax.specs.declared.operator.PrintForm.TheVariants.{PrintLine}
use Rattle.kk_syntax.specs.declared.positions.Ownership.TheVariants.{Lent}
use Rattle.kk_syntax.specs.declared.program.Form.TheVariants.{Number, Binary, Print, Construct, Call}
use Rattle.kk_syntax.specs.Patterns.{anything}
use Rattle.kk_syntax.specs.PositionsOf.{PositionTable, all_owned}
use Rattle.kk_source.specs.State.{ended}
use Rattle.kk_source.specs.Notes.{Note}
use Rattle.kk_core.specs.Codes.{Code, give, case, compute, unpack, no_arm, arm, FunctionCode}
use Rattle.kk_core.specs.CoreStates.{CoreSetting, core_first_state}
use Rattle.kk_core.specs.CoreMachine.{core_machine}
use Rattle.kk_counted.specs.CountedCodes as Counted
use Rattle.kk_counted.specs.Heaps.{busy}
use Rattle.kk_counted.specs.CountedStates.{CountedState, stopped, counted_first_state}
use Rattle.kk_counted.specs.CountedMachine.{counted_machine}
use Rattle.kk_core.proofs.ListExamples.{nil, cons, one_or_more, first_two, with_list, with_one_ordered}
use Rattle.kk_counted.proofs.Examples.{nil_or_cons}
use Rattle.kk_insert.specs.Meaning.{inserted_setting}
use Rattle.kk_insert.specs.Promise.{IsFunctionInsertable, IsInsertable}
use Rattle.kk_insert.specs.Insertion.{inserted_function}

-- the program of a function and a `main`, on both machines
abbrev core : PositionTable → FunctionCode → FunctionCode → CoreSetting
core positions first main = record {
  code = record { functions = first ∷ main ∷ []; texts = []; main = 1 };
  positions = positions;
  cells = 8;
  depth = 4;
}

abbrev core_tells : CoreSetting → List Note
core_tells setting = trace (core_machine (λ s. 1) setting) 60 (core_first_state setting [])

abbrev counted_tells : CoreSetting → List Note
counted_tells setting = trace (counted_machine (λ s. 1) (inserted_setting setting)) 90
    (counted_first_state (inserted_setting setting) [])

abbrev counted_end : CoreSetting → CountedState
counted_end setting = state (counted_machine (λ s. 1) (inserted_setting setting)) 90
    (counted_first_state (inserted_setting setting) [])

-- `main` with a list of the numbers 8 and 7
abbrev on_list : Code → FunctionCode
on_list rest = record { parameters = 0; variables = 9; body = with_list rest }

-- println(f(xs) + f(xs)), where f is the first function and xs the list
abbrev prints_both : Code
prints_both =
    compute 5 (Call 0) (4 ∷ []) (compute 6 (Call 0) (4 ∷ [])
    (compute 7 (Binary Add) (5 ∷ 6 ∷ []) (compute 8 (Print PrintLine) (7 ∷ []) (give 8))))

-- fun len(^xs) { match xs { Nil -> 0; Cons(_, xx) -> 1 + len(xx) } }
abbrev len : FunctionCode
len = record {
  parameters = 1;
  variables = 7;
  body = case 0 nil_or_cons
      (arm nil (compute 1 (Number (pos 0)) [] (give 1))
      (arm (cons anything anything)
      (unpack 0 3 (2 ∷ 3 ∷ []) (compute 4 (Call 0) (3 ∷ [])
      (compute 5 (Number (pos 1)) [] (compute 6 (Binary Add) (5 ∷ 4 ∷ []) (give 6)))))
      no_arm));
}

abbrev lent_first : PositionTable
lent_first = (Lent ∷ []) ∷ []

-- it reads its cells: neither a dup nor a drop is inserted
len_inserted : inserted_function lent_first 0 len ≡ record {
  parameters = 1;
  body = Counted.case 0 nil_or_cons
      (Counted.arm (Counted.compute 1 (Number (pos 0)) [] (Counted.give 1))
      (Counted.arm
      (Counted.read 0 3 (2 ∷ 3 ∷ []) (Counted.compute 4 (Call 0) (3 ∷ [])
      (Counted.compute 5 (Number (pos 1)) [] (Counted.compute 6 (Binary Add) (5 ∷ 4 ∷ []) (Counted.give 6)))))
      Counted.no_arm));
}
len_inserted = refl

-- println(len(xs) + len(xs)): the list is lent twice, and dropped as soon as the second call has returned
abbrev two_lendings_main : FunctionCode
two_lendings_main = on_list prints_both

abbrev two_lendings : CoreSetting
two_lendings = core lent_first len two_lendings_main

lendings_tell : counted_tells two_lendings ≡ core_tells two_lendings
unfolding int_wrap digits
lendings_tell = refl

lendings_end : (counted_end two_lendings).machine.control ≡ stopped ended
unfolding int_wrap digits
lendings_end = refl

lendings_leave_none : busy (counted_end two_lendings).machine.heap ≡ 0
unfolding int_wrap digits
lendings_leave_none = refl

-- each cell that is opened is given up, and the fields that are used get a reference more; an arm that opens none drops the list
first_two_inserted : inserted_function all_owned 0 first_two ≡ record {
  parameters = 1;
  body = Counted.case 0 one_or_more
      (Counted.arm (Counted.open_cell 0 3 (1 ∷ 2 ∷ []) (1 ∷ []) (Counted.give 1))
      (Counted.arm
      (Counted.open_cell 0 3 (3 ∷ 4 ∷ []) (3 ∷ 4 ∷ [])
      (Counted.open_cell 4 3 (5 ∷ 6 ∷ []) (5 ∷ []) (Counted.compute 7 (Binary Add) (3 ∷ 5 ∷ []) (Counted.give 7))))
      (Counted.arm (Counted.drop 0 (Counted.compute 8 (Number (pos 0)) [] (Counted.give 8)))
      Counted.no_arm)));
}
first_two_inserted = refl

-- println(first_two(xs) + first_two(xs)): the first call takes a dup of the list
abbrev two_calls : CoreSetting
two_calls = core all_owned first_two (on_list prints_both)

calls_tell : counted_tells two_calls ≡ core_tells two_calls
unfolding int_wrap digits
calls_tell = refl

calls_end : (counted_end two_calls).machine.control ≡ stopped ended
unfolding int_wrap digits
calls_end = refl

calls_leave_none : busy (counted_end two_calls).machine.heap ≡ 0
unfolding int_wrap digits
calls_leave_none = refl

-- ---- the program that lends a list may be inserted

abbrev lendings : List FunctionCode
lendings = two_lendings.code.functions

the_function : FunctionCode → Option FunctionCode → FunctionCode
the_function other None = other
the_function other (Some function) = function

only_function : (found : FunctionCode) (function : FunctionCode) → Some found ≡ Some function → found ≡ function
unfolding the_function
only_function found function same = ap (λ (o : Option FunctionCode). the_function found o) same

-- a function that is there has the parameters that it has
len_insertable : IsFunctionInsertable lent_first lendings 0 len
len_insertable =
    record {
      ordered = (
        refl,
        (
          2,
          (tt, omega arith, (refl, omega arith)),
          (
            7,
            (
              4,
              refl,
              (omega arith, (omega arith, omega arith)),
              ((refl, tt), omega arith, (tt, omega arith, ((refl, (refl, tt)), omega arith, (refl, omega arith)))),
            ),
            omega arith,
          ),
        ),
      );
      small = omega arith;
      tails = ((tt, tt), (((len, (refl, refl)), (tt, (tt, tt))), tt));
    }

main_insertable : IsFunctionInsertable lent_first lendings 1 two_lendings_main
main_insertable =
    record {
      ordered = with_one_ordered 7 (compute 3 (Number (pos 8)) [] (compute 4 (Construct 3) (3 ∷ 2 ∷ []) prints_both)) 9 (
        tt,
        omega arith,
        (
          (refl, (refl, tt)),
          omega arith,
          (
            (refl, tt),
            omega arith,
            ((refl, tt), omega arith, ((refl, (refl, tt)), omega arith, ((refl, tt), omega arith, (refl, omega arith)))),
          ),
        ),
      );
      small = omega arith;
      tails = (
        tt,
        (
          tt,
          (
            tt,
            (
              tt,
              (tt, ((len, (refl, refl)), ((len, (refl, refl)), (tt, (tt, tt))))),
            ),
          ),
        ),
      );
    }

lendings_insertable : IsInsertable lent_first two_lendings.code
lendings_insertable = record { each = each; main = (two_lendings_main, (refl, refl)) }
  where
    each : (f : ℕ) (function : FunctionCode) → slice_get (len ∷ two_lendings_main ∷ []) f ≡ Some function
        → IsFunctionInsertable lent_first lendings f function
    each zero function there = subst (IsFunctionInsertable lent_first lendings 0) (only_function len function there) len_insertable
    each (suc zero) function there = subst (IsFunctionInsertable lent_first lendings 1)
        (only_function two_lendings_main function there) main_insertable
    each (suc (suc zero)) function there = absurd (cc)
    each (suc (suc (suc f))) function there = absurd (cc)
