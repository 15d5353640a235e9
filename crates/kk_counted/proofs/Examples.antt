-- Runs of small programs, counted by hand, and each way to be stuck.
use Rattle.std.proofs.Common.{◌≡◌, ℕ, pos, List, [], ◌∷◌, Some, None, refl}
use Rattle.std.specs.Int.{int_wrap}
use Rattle.kk_base.specs.Machines.{trace, state, ending_after}
use Rattle.kk_syntax.specs.declared.operator.BinaryOperator.TheVariants.{Add}
use Rattle.kk_syntax.specs.declared.program.Form.TheVariants.{Number, Unit as Nothing, Binary, Construct, Call}
use Rattle.kk_source.specs.State.{integer, constant, place, heap_full, stack_full}
use Rattle.kk_source.specs.Notes.{Note, built, called}
use Rattle.kk_core.specs.declared.decisions.Answer.TheVariants.{Constructor}
use Rattle.kk_core.specs.Decisions.{NodeTree, chooses, tests}
use Rattle.kk_counted.specs.CountedCodes.{Counted, give, case, compute, read, open_cell, if_unique, dup, drop, no_arm, arm, CountedFunction}
use Rattle.kk_counted.specs.Heaps.{Heap, busy, drop_value}
use Rattle.kk_counted.specs.CountedStates.{CountedSetting, CountedState, stuck, counted_first_state}
use Rattle.kk_counted.specs.CountedMachine.{counted_machine}

abbrev pub function : ℕ → Counted → CountedFunction
function parameters body = record { parameters = parameters; body = body }

-- type list<a> { Nil; Cons(head: a, tail: list<a>) }: constructors 2 and 3; row 0 is that of Nil, row 1 that of Cons
abbrev pub nil_or_cons : List NodeTree
nil_or_cons =
    tests [] (record { found = Constructor 2; next = 1 } ∷ record { found = Constructor 3; next = 2 } ∷ []) None
    ∷ chooses 0 ∷ chooses 1 ∷ []

-- fun inc(xs) { match xs { Nil -> Nil; Cons(x, xx) -> Cons(x + 1, inc(xx)) } }, by one of the two openings
abbrev pub inc : (Counted → Counted) → CountedFunction
inc opened =
    function 1
    (case 0 nil_or_cons
    (arm (give 0)
    (arm
    (opened
    (compute 3 (Number (pos 1)) [] (compute 4 (Binary Add) (1 ∷ 3 ∷ []) (compute 5 (Call 0) (2 ∷ [])
    (compute 6 (Construct 3) (4 ∷ 5 ∷ []) (give 6))))))
    no_arm)))

abbrev pub by_dups : Counted → Counted
by_dups rest = open_cell 0 3 (1 ∷ 2 ∷ []) (1 ∷ 2 ∷ []) rest

abbrev pub by_count : Counted → Counted
by_count rest = if_unique 0 3 (1 ∷ 2 ∷ []) (1 ∷ 2 ∷ []) rest

-- a list of two cells, which variable 4 names
abbrev pub two_cells : Counted → CountedFunction
two_cells rest =
    function 0
    (compute 0 (Construct 2) [] (compute 1 (Number (pos 7)) [] (compute 2 (Construct 3) (1 ∷ 0 ∷ [])
    (compute 3 (Number (pos 8)) [] (compute 4 (Construct 3) (3 ∷ 2 ∷ []) rest)))))

-- inc of the only reference to the list: its cells are freed before the new ones are made
abbrev pub unique : Counted
unique = compute 5 (Call 0) (4 ∷ []) (drop 5 (compute 6 Nothing [] (give 6)))

-- inc of one of two references
abbrev pub shared : Counted
shared = dup 4 (compute 5 (Call 0) (4 ∷ []) (drop 4 (drop 5 (compute 6 Nothing [] (give 6)))))

abbrev pub program : List CountedFunction → ℕ → ℕ → CountedSetting
program functions cells depth = record { program = record { functions = functions; texts = []; main = 1 }; cells = cells; depth = depth }

abbrev after : ℕ → CountedSetting → CountedState
after steps setting = state (counted_machine (λ s. 1) setting) steps (counted_first_state setting [])

abbrev tells : ℕ → CountedSetting → List Note
tells steps setting = trace (counted_machine (λ s. 1) setting) steps (counted_first_state setting [])

abbrev pub unique_run : (Counted → Counted) → ℕ → ℕ → CountedSetting
unique_run opened cells depth = program (inc opened ∷ two_cells unique ∷ []) cells depth

abbrev pub shared_run : (Counted → Counted) → ℕ → ℕ → CountedSetting
shared_run opened cells depth = program (inc opened ∷ two_cells shared ∷ []) cells depth

unique_tells : tells 40 (unique_run by_dups 2 4) ≡ built 0 ∷ built 1 ∷ called 1 ∷ called 2 ∷ called 3 ∷ built 0 ∷ built 1 ∷ []
unfolding int_wrap
unique_tells = refl

unique_tells_alike : tells 40 (unique_run by_count 2 4) ≡ built 0 ∷ built 1 ∷ called 1 ∷ called 2 ∷ called 3 ∷ built 0 ∷ built 1 ∷ []
unfolding int_wrap
unique_tells_alike = refl

unique_ends : (after 40 (unique_run by_dups 2 4)).machine.control ≡ (after 40 (unique_run by_count 2 4)).machine.control
unfolding int_wrap
unique_ends = refl

-- no cell is left
unique_leaves_none : busy (after 40 (unique_run by_dups 2 4)).machine.heap ≡ 0
unfolding int_wrap
unique_leaves_none = refl

shared_tells : tells 40 (shared_run by_dups 4 4) ≡ built 0 ∷ built 1 ∷ called 1 ∷ called 2 ∷ called 3 ∷ built 2 ∷ built 3 ∷ []
unfolding int_wrap
shared_tells = refl

shared_tells_alike : tells 40 (shared_run by_count 4 4) ≡ built 0 ∷ built 1 ∷ called 1 ∷ called 2 ∷ called 3 ∷ built 2 ∷ built 3 ∷ []
unfolding int_wrap
shared_tells_alike = refl

shared_ends : (after 40 (shared_run by_dups 4 4)).machine.heap ≡ (after 40 (shared_run by_count 4 4)).machine.heap
unfolding int_wrap
shared_ends = refl

shared_leaves_none : busy (after 40 (shared_run by_count 4 4)).machine.heap ≡ 0
unfolding int_wrap
shared_leaves_none = refl

-- the fourth cell is one too many for three, and the third call for three frames
shared_is_too_large : ending_after (counted_machine (λ s. 1) (shared_run by_dups 3 4)) 40 (counted_first_state (shared_run by_dups 3 4) []) ≡ Some heap_full
unfolding int_wrap
shared_is_too_large = refl

unique_is_too_deep : ending_after (counted_machine (λ s. 1) (unique_run by_dups 2 3)) 40 (counted_first_state (unique_run by_dups 2 3) []) ≡ Some stack_full
unfolding int_wrap
unique_is_too_deep = refl

-- a drop frees a cell, and then those that it alone named
abbrev two : ℕ → ℕ → Heap
two newer older =
    record { count = newer; cell = record { made_by = 3; fields = integer (pos 8) ∷ place 0 ∷ [] } }
    ∷ record { count = older; cell = record { made_by = 3; fields = integer (pos 7) ∷ constant 2 ∷ [] } } ∷ []

drop_of_a_chain : drop_value (place 1) (two 1 1) ≡ Some (two 0 0)
drop_of_a_chain = refl

drop_of_a_shared_tail : drop_value (place 1) (two 1 2) ≡ Some (two 0 1)
drop_of_a_shared_tail = refl

drop_of_a_shared_head : drop_value (place 1) (two 2 1) ≡ Some (two 1 1)
drop_of_a_shared_head = refl

-- the machine is stuck: at a dup, a drop, a reading, an opening or a test of a cell that is freed; at a reading or an opening
-- under another constructor
abbrev main_alone : Counted → CountedSetting
main_alone rest = program (function 0 (give 0) ∷ two_cells rest ∷ []) 4 4

dup_of_a_freed_cell : (after 9 (main_alone (drop 4 (dup 4 (give 4))))).machine.control ≡ stuck
dup_of_a_freed_cell = refl

drop_of_a_freed_cell : (after 9 (main_alone (drop 4 (drop 4 (give 0))))).machine.control ≡ stuck
drop_of_a_freed_cell = refl

case_of_a_freed_cell : (after 9 (main_alone (drop 4 (case 4 nil_or_cons (arm (give 0) (arm (give 0) no_arm)))))).machine.control ≡ stuck
case_of_a_freed_cell = refl

read_of_a_freed_cell : (after 9 (main_alone (drop 4 (read 4 3 (5 ∷ 6 ∷ []) (give 5))))).machine.control ≡ stuck
read_of_a_freed_cell = refl

open_of_a_freed_cell : (after 9 (main_alone (drop 4 (open_cell 4 3 (5 ∷ 6 ∷ []) [] (give 5))))).machine.control ≡ stuck
open_of_a_freed_cell = refl

unique_of_a_freed_cell : (after 9 (main_alone (drop 4 (if_unique 4 3 (5 ∷ 6 ∷ []) [] (give 5))))).machine.control ≡ stuck
unique_of_a_freed_cell = refl

read_under_another_constructor : (after 9 (main_alone (read 4 2 (5 ∷ 6 ∷ []) (give 5)))).machine.control ≡ stuck
read_under_another_constructor = refl

open_under_another_constructor : (after 9 (main_alone (open_cell 4 2 (5 ∷ 6 ∷ []) [] (give 5)))).machine.control ≡ stuck
open_under_another_constructor = refl
