-- Small programs with cells and their core forms, run side by side: the store machine and the core machine tell the same notes, and
-- end alike. Among the notes are the live places at each construction with fields, and the call frames at each call that is no tail
-- call. A list is turned round, patterns stand in patterns, a parameter is lent, a row is never chosen, and a function is there at
-- two types. Each function is the core form of its body by the definition of core forms, if its decisions decide the match.
use Rattle.std.proofs.Common.{◌≡◌, ℕ, ◌+◌, pos, true, List, [], ◌∷◌, None, Some, refl}
use Rattle.std.specs.Int.{int_wrap}
use Rattle.std.specs.Fmt.{digits}
use Rattle.std.specs.Prelude.{codes}
use Rattle.kk_base.specs.Machines.{trace, ending_after}
use Rattle.kk_base.specs.Trace.{output}
use Rattle.kk_syntax.specs.declared.operator.BinaryOperator.TheVariants.{Add, Subtract, Equal}
use Rattle.kk_syntax.specs.declared.operator.PrintForm.TheVariants.{PrintLine}
use Rattle.kk_syntax.specs.declared.positions.Ownership.TheVariants.{Lent}
use Rattle.kk_syntax.specs.declared.program.Form.TheVariants.{Number, Binary, Print, Construct, Call}
use Rattle.kk_syntax.specs.Patterns.{Pattern, anything, variable as names}
use Rattle.kk_syntax.specs.PositionsOf.{PositionTable, all_owned}
use Rattle.kk_syntax.specs.Programs.{ConstructorTree}
use Rattle.kk_syntax.specs.Trees.{Tree, variable, branch as if_tree, match, no_row, row, row_parts}
use Rattle.kk_source.specs.Notes.{Note, seen, built, called as calls}
use Rattle.kk_source.specs.State.{Setting, End, ended, heap_full}
use Rattle.kk_source.specs.SourceAfter.{store_machine, first_state}
use Rattle.kk_source.proofs.Builder.{number, binary, called, made, printed, of_made, bound_to, then, program}
use Rattle.kk_core.specs.declared.decisions.Answer.TheVariants.{Constructor}
use Rattle.kk_core.specs.Codes.{Code, give, tail_call, case, compute, use_of, unpack, no_arm, arm, FunctionCode}
use Rattle.kk_core.specs.Truths.{truth_case}
use Rattle.kk_core.specs.CoreMachine.{core_machine}
use Rattle.kk_core.specs.CoreStates.{CoreSetting, core_first_state}
use Rattle.kk_core.specs.Decisions.{NodeTree, chooses, tests}
use Rattle.kk_norm.specs.MatchDecisions.{AreDecisions}
use Rattle.kk_norm.specs.Meaning.{core_setting_of}
use Rattle.kk_norm.specs.Normalized.{final, size, IsCode}

-- a program with positions lent, and its core form on as many cells and with the same depth
abbrev source : List Tree → ℕ → PositionTable → ℕ → Setting
source bodies main positions cells = record (program bodies main cells 8) { positions = positions }

abbrev core : List FunctionCode → ℕ → PositionTable → ℕ → CoreSetting
core functions main positions cells = core_setting_of (record { functions = functions; texts = []; main = main }) positions cells 8

-- within so many steps both machines tell these notes, and come to this end
record RunAlike (setting : Setting) (side : CoreSetting) (steps : ℕ) (notes : List Note) (end : End) : Type 0 where
  pub tells : trace (store_machine setting) steps (first_state setting []) ≡ notes
  pub ends : ending_after (store_machine setting) steps (first_state setting []) ≡ Some end
  pub core_tells : trace (core_machine (λ s. 1) side) steps (core_first_state side []) ≡ notes
  pub core_ends : ending_after (core_machine (λ s. 1) side) steps (core_first_state side []) ≡ Some end

abbrev code : ℕ → ℕ → Code → FunctionCode
code parameters variables body = record { parameters = parameters; variables = variables; body = body }

-- a function is the core form of a body, whatever the constructors are
abbrev IsForm : FunctionCode → Tree → Type 0
IsForm function body =
    (constructors : List ConstructorTree) → (function.variables ≡ function.parameters + size body)
    × IsCode constructors (final true) [] function.parameters body function.body

-- the same, if these are decisions of these patterns
abbrev IsFormBy : List Pattern → List NodeTree → FunctionCode → Tree → Type 0
IsFormBy patterns decisions function body =
    (constructors : List ConstructorTree) → AreDecisions constructors patterns decisions
    → (function.variables ≡ function.parameters + size body)
    × IsCode constructors (final true) [] function.parameters body function.body

-- ---- type list<a> { Nil; Cons(head: a, tail: list<a>) }: constructors 2 and 3

abbrev nil : Tree
nil = made 2 []

abbrev cons : Tree → Tree → Tree
cons head tail = made 3 (head ∷ tail ∷ [])

abbrev nil_pattern : Pattern
nil_pattern = of_made 2 []

abbrev cons_pattern : Pattern → Pattern → Pattern
cons_pattern head tail = of_made 3 (head ∷ tail ∷ [])

-- one test of the whole value, by the rows Nil and Cons, and by Cons and Nil
abbrev nil_or_cons : List NodeTree
nil_or_cons =
    tests [] (record { found = Constructor 2; next = 1 } ∷ record { found = Constructor 3; next = 2 } ∷ []) None
    ∷ chooses 0 ∷ chooses 1 ∷ []

abbrev cons_or_nil : List NodeTree
cons_or_nil =
    tests [] (record { found = Constructor 3; next = 1 } ∷ record { found = Constructor 2; next = 2 } ∷ []) None
    ∷ chooses 0 ∷ chooses 1 ∷ []

-- fun build(n) { if n == 0 then Nil else Cons(n, build(n - 1)) }
abbrev build : Tree
build =
    if_tree (binary Equal (variable 0) (number (pos 0))) nil
    (cons (variable 0) (called 0 (binary Subtract (variable 0) (number (pos 1)) ∷ [])))

abbrev build_code : FunctionCode
build_code =
    code 1 9
    (use_of 0 (compute 1 (Number (pos 0)) [] (compute 2 (Binary Equal) (0 ∷ 1 ∷ []) (truth_case 2
    (compute 3 (Construct 2) [] (give 3))
    (use_of 0 (use_of 0 (compute 4 (Number (pos 1)) [] (compute 5 (Binary Subtract) (0 ∷ 4 ∷ [])
    (compute 6 (Call 0) (5 ∷ []) (compute 7 (Construct 3) (0 ∷ 6 ∷ []) (give 7)))))))))))

-- and that is its core form
build_is : IsForm build_code build
build_is = λ constructors.
    (refl, (_, _, refl, (_, (_, refl, (_, refl, (_, (_, refl, refl), refl))), refl), (_, (_, refl, refl), refl)))

-- ---- a list is turned round

-- fun rev(xs, acc) { match xs { Cons(x, xx) -> rev(xx, Cons(x, acc)); Nil -> acc } }
abbrev rev : Tree
rev =
    match (variable 0)
    (row (row_parts (cons_pattern (names 2) (names 3)) (called 1 (variable 3 ∷ cons (variable 2) (variable 1) ∷ [])))
    (row (row_parts nil_pattern (variable 1))
    no_row))

abbrev rev_code : FunctionCode
rev_code =
    code 2 7
    (use_of 0 (case 0 cons_or_nil
    (arm (cons_pattern (names 2) (names 3)) (unpack 0 3 (2 ∷ 3 ∷ []) (use_of 3 (use_of 2 (use_of 1
    (compute 4 (Construct 3) (2 ∷ 1 ∷ []) (tail_call 1 (3 ∷ 4 ∷ [])))))))
    (arm nil_pattern (give 1)
    no_arm))))

-- and that is its core form
rev_is : IsFormBy (cons_pattern (names 2) (names 3) ∷ nil_pattern ∷ []) cons_or_nil rev_code rev
rev_is = λ constructors are.
    (refl, (_, _, are, (_, _, refl, (_, (_, refl, (_, (_, refl, refl), refl)), refl), (_, _, refl, refl, refl)), refl))

-- fun main() { match rev(build(3), Nil) { Cons(x, _) -> println(x); Nil -> println(0) } }
abbrev reversing : Tree
reversing =
    match (called 1 (called 0 (number (pos 3) ∷ []) ∷ nil ∷ []))
    (row (row_parts (cons_pattern (names 0) anything) (printed (variable 0)))
    (row (row_parts nil_pattern (printed (number (pos 0))))
    no_row))

abbrev reversing_code : FunctionCode
reversing_code =
    code 0 10
    (compute 0 (Number (pos 3)) [] (compute 1 (Call 0) (0 ∷ []) (compute 2 (Construct 2) []
    (compute 3 (Call 1) (1 ∷ 2 ∷ []) (case 3 cons_or_nil
    (arm (cons_pattern (names 0) anything) (unpack 3 3 (4 ∷ 5 ∷ []) (use_of 4
    (compute 6 (Print PrintLine) (4 ∷ []) (give 6))))
    (arm nil_pattern (compute 7 (Number (pos 0)) [] (compute 8 (Print PrintLine) (7 ∷ []) (give 8)))
    no_arm)))))))

-- and that is its core form
reversing_is : IsFormBy (cons_pattern (names 0) anything ∷ nil_pattern ∷ []) cons_or_nil reversing_code reversing
reversing_is = λ constructors are.
    (refl, (_, _, are, (_, _, refl, (_, refl, refl), (_, _, refl, (_, refl, refl), refl)), (_, (_, refl, refl), (_, refl, refl))))

abbrev reversed : ℕ → Setting
reversed cells = source (build ∷ rev ∷ reversing ∷ []) 2 all_owned cells

abbrev reversed_core : ℕ → CoreSetting
reversed_core cells = core (build_code ∷ rev_code ∷ reversing_code ∷ []) 2 all_owned cells

-- The four calls of build find one to four call frames, and that of rev one: its own calls are tail calls. The cells of the first
-- list are not live any more when those of the second are made.
reversed_in_three : RunAlike (reversed 3) (reversed_core 3) 200
    (calls 1 ∷ calls 2 ∷ calls 3 ∷ calls 4 ∷ built 0 ∷ built 1 ∷ built 2 ∷ calls 1 ∷ built 2 ∷ built 2 ∷ built 2
    ∷ seen (output (codes "1\n")) ∷ [])
    ended
unfolding int_wrap digits
reversed_in_three = record { tells = refl; ends = refl; core_tells = refl; core_ends = refl }

-- with two cells both find the heap full at the third cell
reversed_in_two : RunAlike (reversed 2) (reversed_core 2) 200
    (calls 1 ∷ calls 2 ∷ calls 3 ∷ calls 4 ∷ built 0 ∷ built 1 ∷ built 2 ∷ []) heap_full
unfolding int_wrap digits
reversed_in_two = record { tells = refl; ends = refl; core_tells = refl; core_ends = refl }

-- ---- patterns in patterns

-- the rows Cons(_, Nil), Cons(_, Cons(_, _)) and Nil: the list is tested, and then the tail of a cell
abbrev one_or_more : List NodeTree
one_or_more =
    tests [] (record { found = Constructor 3; next = 1 } ∷ record { found = Constructor 2; next = 4 } ∷ []) None
    ∷ tests (1 ∷ []) (record { found = Constructor 2; next = 2 } ∷ record { found = Constructor 3; next = 3 } ∷ []) None
    ∷ chooses 0 ∷ chooses 1 ∷ chooses 2 ∷ []

-- fun first_two(xs) { match xs { Cons(x, Nil) -> x; Cons(x, Cons(y, _)) -> x + y; Nil -> 0 } }
abbrev first_two : Tree
first_two =
    match (variable 0)
    (row (row_parts (cons_pattern (names 1) nil_pattern) (variable 1))
    (row (row_parts (cons_pattern (names 1) (cons_pattern (names 2) anything)) (binary Add (variable 1) (variable 2)))
    (row (row_parts nil_pattern (number (pos 0)))
    no_row)))

abbrev first_two_code : FunctionCode
first_two_code =
    code 1 10
    (use_of 0 (case 0 one_or_more
    (arm (cons_pattern (names 1) nil_pattern) (unpack 0 3 (1 ∷ 2 ∷ []) (give 1))
    (arm (cons_pattern (names 1) (cons_pattern (names 2) anything)) (unpack 0 3 (3 ∷ 4 ∷ [])
    (unpack 4 3 (5 ∷ 6 ∷ []) (use_of 3 (use_of 5 (compute 7 (Binary Add) (3 ∷ 5 ∷ []) (give 7))))))
    (arm nil_pattern (compute 8 (Number (pos 0)) [] (give 8))
    no_arm)))))

-- and that is its core form
first_two_is : IsFormBy
    (cons_pattern (names 1) nil_pattern ∷ cons_pattern (names 1) (cons_pattern (names 2) anything) ∷ nil_pattern ∷ [])
    one_or_more first_two_code first_two
first_two_is = λ constructors are.
    (refl, (_, _, are, (_, _, refl, refl, (_, _, refl, (_, (_, refl, refl), refl), (_, _, refl, refl, refl))), refl))

-- fun main() { println(first_two(Cons(8, Cons(7, Nil)))) }
abbrev adding : Tree
adding = printed (called 0 (cons (number (pos 8)) (cons (number (pos 7)) nil) ∷ []))

abbrev adding_code : FunctionCode
adding_code =
    code 0 7
    (compute 0 (Number (pos 8)) [] (compute 1 (Number (pos 7)) [] (compute 2 (Construct 2) []
    (compute 3 (Construct 3) (1 ∷ 2 ∷ []) (compute 4 (Construct 3) (0 ∷ 3 ∷ []) (compute 5 (Call 0) (4 ∷ [])
    (compute 6 (Print PrintLine) (5 ∷ []) (give 6))))))))

-- and that is its core form
adding_is : IsForm adding_code adding
adding_is = λ constructors. (refl, (_, refl, (_, refl, (_, (_, refl, (_, (_, refl, refl), refl)), refl))))

-- the inner cell is opened behind the outer one
two_are_added : RunAlike (source (first_two ∷ adding ∷ []) 1 all_owned 2)
    (core (first_two_code ∷ adding_code ∷ []) 1 all_owned 2) 60
    (built 0 ∷ built 1 ∷ calls 1 ∷ seen (output (codes "15\n")) ∷ []) ended
unfolding int_wrap digits
two_are_added = record { tells = refl; ends = refl; core_tells = refl; core_ends = refl }

-- ---- a parameter that is lent

-- fun len(xs) { match xs { Nil -> 0; Cons(_, xx) -> 1 + len(xx) } }, as function `self` with constructors `none` and `some`
abbrev len : ℕ → ℕ → ℕ → Tree
len self none some =
    match (variable 0)
    (row (row_parts (of_made none []) (number (pos 0)))
    (row (row_parts (of_made some (anything ∷ names 1 ∷ [])) (binary Add (number (pos 1)) (called self (variable 1 ∷ []))))
    no_row))

abbrev len_code : FunctionCode
len_code =
    code 1 8
    (use_of 0 (case 0 nil_or_cons
    (arm nil_pattern (compute 1 (Number (pos 0)) [] (give 1))
    (arm (cons_pattern anything (names 1)) (unpack 0 3 (2 ∷ 3 ∷ []) (compute 4 (Number (pos 1)) [] (use_of 3
    (compute 5 (Call 1) (3 ∷ []) (compute 6 (Binary Add) (4 ∷ 5 ∷ []) (give 6))))))
    no_arm))))

-- and that is its core form
len_is : IsFormBy (nil_pattern ∷ cons_pattern anything (names 1) ∷ []) nil_or_cons len_code (len 1 2 3)
len_is = λ constructors are.
    (refl, (_, _, are, (_, _, refl, refl, (_, _, refl, (_, (_, refl, (_, refl, refl)), refl), refl)), refl))

-- fun f(xs) { match xs { Nil -> 0; Cons(x, _) -> len(build(x)) } }
abbrev lent : Tree
lent =
    match (variable 0)
    (row (row_parts nil_pattern (number (pos 0)))
    (row (row_parts (cons_pattern (names 1) anything) (called 1 (called 0 (variable 1 ∷ []) ∷ [])))
    no_row))

abbrev lent_code : FunctionCode
lent_code =
    code 1 7
    (use_of 0 (case 0 nil_or_cons
    (arm nil_pattern (compute 1 (Number (pos 0)) [] (give 1))
    (arm (cons_pattern (names 1) anything) (unpack 0 3 (2 ∷ 3 ∷ []) (use_of 2 (compute 4 (Call 0) (2 ∷ [])
    (tail_call 1 (4 ∷ [])))))
    no_arm))))

-- and that is its core form
lent_is : IsFormBy (nil_pattern ∷ cons_pattern (names 1) anything ∷ []) nil_or_cons lent_code lent
lent_is = λ constructors are. (refl, (_, _, are, (_, _, refl, refl, (_, _, refl, (_, refl, (_, refl, refl)), refl)), refl))

-- fun main() { println(f(Cons(3, Nil))) }
abbrev lending : Tree
lending = printed (called 2 (cons (number (pos 3)) nil ∷ []))

abbrev lending_code : FunctionCode
lending_code =
    code 0 5
    (compute 0 (Number (pos 3)) [] (compute 1 (Construct 2) [] (compute 2 (Construct 3) (0 ∷ 1 ∷ [])
    (compute 3 (Call 2) (2 ∷ []) (compute 4 (Print PrintLine) (3 ∷ []) (give 4))))))

-- and that is its core form
lending_is : IsForm lending_code lending
lending_is = λ constructors. (refl, (_, refl, (_, refl, (_, (_, refl, refl), refl))))

abbrev lent_cell : PositionTable → ℕ → Setting
lent_cell positions cells = source (build ∷ len 1 2 3 ∷ lent ∷ lending ∷ []) 3 positions cells

abbrev lent_cell_core : PositionTable → ℕ → CoreSetting
lent_cell_core positions cells = core (build_code ∷ len_code ∷ lent_code ∷ lending_code ∷ []) 3 positions cells

-- where the parameter of f is lent, its cell stays live until the call returns, though no variable names it any more
lent_in_four : RunAlike (lent_cell ([] ∷ [] ∷ (Lent ∷ []) ∷ []) 4) (lent_cell_core ([] ∷ [] ∷ (Lent ∷ []) ∷ []) 4) 200
    (built 0 ∷ calls 1 ∷ calls 2 ∷ calls 3 ∷ calls 4 ∷ calls 5 ∷ built 1 ∷ built 2 ∷ built 3 ∷ calls 2 ∷ calls 3 ∷ calls 4
    ∷ seen (output (codes "3\n")) ∷ [])
    ended
unfolding int_wrap digits
lent_in_four = record { tells = refl; ends = refl; core_tells = refl; core_ends = refl }

-- so three cells are too few
lent_in_three : RunAlike (lent_cell ([] ∷ [] ∷ (Lent ∷ []) ∷ []) 3) (lent_cell_core ([] ∷ [] ∷ (Lent ∷ []) ∷ []) 3) 200
    (built 0 ∷ calls 1 ∷ calls 2 ∷ calls 3 ∷ calls 4 ∷ calls 5 ∷ built 1 ∷ built 2 ∷ built 3 ∷ []) heap_full
unfolding int_wrap digits
lent_in_three = record { tells = refl; ends = refl; core_tells = refl; core_ends = refl }

-- where it is owned, it is not live any more
owned_in_three : RunAlike (lent_cell all_owned 3) (lent_cell_core all_owned 3) 200
    (built 0 ∷ calls 1 ∷ calls 2 ∷ calls 3 ∷ calls 4 ∷ calls 5 ∷ built 0 ∷ built 1 ∷ built 2 ∷ calls 2 ∷ calls 3 ∷ calls 4
    ∷ seen (output (codes "3\n")) ∷ [])
    ended
unfolding int_wrap digits
owned_in_three = record { tells = refl; ends = refl; core_tells = refl; core_ends = refl }

-- ---- a row that is never chosen

-- its first row takes every value
abbrev first_always : List NodeTree
first_always = chooses 0 ∷ []

-- fun main() { val zs = build(1); match build(2) { _ -> println(1); Nil -> println(len(zs)) } }
abbrev unchosen : Tree
unchosen =
    bound_to 0 (called 0 (number (pos 1) ∷ []))
    (match (called 0 (number (pos 2) ∷ []))
    (row (row_parts anything (printed (number (pos 1))))
    (row (row_parts nil_pattern (printed (called 1 (variable 0 ∷ []))))
    no_row)))

abbrev unchosen_code : FunctionCode
unchosen_code =
    code 0 9
    (compute 0 (Number (pos 1)) [] (compute 1 (Call 0) (0 ∷ []) (compute 2 (Number (pos 2)) []
    (compute 3 (Call 0) (2 ∷ []) (case 3 first_always
    (arm anything (compute 4 (Number (pos 1)) [] (compute 5 (Print PrintLine) (4 ∷ []) (give 5)))
    (arm nil_pattern (use_of 1 (compute 6 (Call 1) (1 ∷ []) (compute 7 (Print PrintLine) (6 ∷ []) (give 7))))
    no_arm)))))))

-- and that is its core form
unchosen_is : IsFormBy (anything ∷ nil_pattern ∷ []) first_always unchosen_code unchosen
unchosen_is = λ constructors are. (
  refl,
  (
    _,
    (_, _, are, (_, _, refl, (_, refl, refl), (_, _, refl, (_, refl, (_, refl, refl)), refl)), (_, refl, refl)),
    (_, refl, refl),
  ),
)

abbrev never_chosen : ℕ → Setting
never_chosen cells = source (build ∷ len 1 2 3 ∷ unchosen ∷ []) 2 all_owned cells

abbrev never_chosen_core : ℕ → CoreSetting
never_chosen_core cells = core (build_code ∷ len_code ∷ unchosen_code ∷ []) 2 all_owned cells

-- what the second row names is live while the scrutinee is computed, so three cells are wanted
unchosen_in_three : RunAlike (never_chosen 3) (never_chosen_core 3) 200
    (calls 1 ∷ calls 2 ∷ built 0 ∷ calls 1 ∷ calls 2 ∷ calls 3 ∷ built 1 ∷ built 2 ∷ seen (output (codes "1\n")) ∷ []) ended
unfolding int_wrap digits
unchosen_in_three = record { tells = refl; ends = refl; core_tells = refl; core_ends = refl }

-- and two are too few
unchosen_in_two : RunAlike (never_chosen 2) (never_chosen_core 2) 200
    (calls 1 ∷ calls 2 ∷ built 0 ∷ calls 1 ∷ calls 2 ∷ calls 3 ∷ built 1 ∷ built 2 ∷ []) heap_full
unfolding int_wrap digits
unchosen_in_two = record { tells = refl; ends = refl; core_tells = refl; core_ends = refl }

-- ---- a function at two types

-- of list<bool> `Nil` and `Cons` are constructors 4 and 5: len is there twice, for lists of numbers and for lists of truths
abbrev other_nil_or_cons : List NodeTree
other_nil_or_cons =
    tests [] (record { found = Constructor 4; next = 1 } ∷ record { found = Constructor 5; next = 2 } ∷ []) None
    ∷ chooses 0 ∷ chooses 1 ∷ []

abbrev len_of_numbers_code : FunctionCode
len_of_numbers_code =
    code 1 8
    (use_of 0 (case 0 nil_or_cons
    (arm nil_pattern (compute 1 (Number (pos 0)) [] (give 1))
    (arm (cons_pattern anything (names 1)) (unpack 0 3 (2 ∷ 3 ∷ []) (compute 4 (Number (pos 1)) [] (use_of 3
    (compute 5 (Call 0) (3 ∷ []) (compute 6 (Binary Add) (4 ∷ 5 ∷ []) (give 6))))))
    no_arm))))

-- and that is its core form
len_of_numbers_is : IsFormBy (nil_pattern ∷ cons_pattern anything (names 1) ∷ []) nil_or_cons len_of_numbers_code (len 0 2 3)
len_of_numbers_is = λ constructors are.
    (refl, (_, _, are, (_, _, refl, refl, (_, _, refl, (_, (_, refl, (_, refl, refl)), refl), refl)), refl))

abbrev len_of_truths_code : FunctionCode
len_of_truths_code =
    code 1 8
    (use_of 0 (case 0 other_nil_or_cons
    (arm (of_made 4 []) (compute 1 (Number (pos 0)) [] (give 1))
    (arm (of_made 5 (anything ∷ (names 1) ∷ [])) (unpack 0 5 (2 ∷ 3 ∷ []) (compute 4 (Number (pos 1)) [] (use_of 3
    (compute 5 (Call 1) (3 ∷ []) (compute 6 (Binary Add) (4 ∷ 5 ∷ []) (give 6))))))
    no_arm))))

-- and that is its core form
len_of_truths_is : IsFormBy
    (of_made 4 [] ∷ of_made 5 (anything ∷ names 1 ∷ []) ∷ [])
    other_nil_or_cons len_of_truths_code (len 1 4 5)
len_of_truths_is = λ constructors are.
    (refl, (_, _, are, (_, _, refl, refl, (_, _, refl, (_, (_, refl, (_, refl, refl)), refl), refl)), refl))

-- fun main() { println(len(Cons(7, Nil))); println(len(Cons(True, Cons(False, Nil)))) }
abbrev both : Tree
both =
    then (printed (called 0 (cons (number (pos 7)) nil ∷ [])))
    (printed (called 1 (made 5 (made 1 [] ∷ made 5 (made 0 [] ∷ made 4 [] ∷ []) ∷ []) ∷ [])))

abbrev both_code : FunctionCode
both_code =
    code 0 12
    (compute 0 (Number (pos 7)) [] (compute 1 (Construct 2) [] (compute 2 (Construct 3) (0 ∷ 1 ∷ [])
    (compute 3 (Call 0) (2 ∷ []) (compute 4 (Print PrintLine) (3 ∷ []) (compute 5 (Construct 1) []
    (compute 6 (Construct 0) [] (compute 7 (Construct 4) [] (compute 8 (Construct 5) (6 ∷ 7 ∷ [])
    (compute 9 (Construct 5) (5 ∷ 8 ∷ []) (compute 10 (Call 1) (9 ∷ []) (compute 11 (Print PrintLine) (10 ∷ [])
    (give 11)))))))))))))

-- and that is its core form
both_is : IsForm both_code both
both_is = λ constructors. (
  refl,
  (
    _,
    (_, refl, (_, refl, (_, (_, refl, (_, (_, refl, refl), refl)), refl))),
    (_, refl, (_, refl, (_, (_, refl, refl), refl))),
  ),
)

-- each call is of the function for its type
two_types : RunAlike (source (len 0 2 3 ∷ len 1 4 5 ∷ both ∷ []) 2 all_owned 2)
    (core (len_of_numbers_code ∷ len_of_truths_code ∷ both_code ∷ []) 2 all_owned 2) 120
    (built 0 ∷ calls 1 ∷ calls 2 ∷ seen (output (codes "1\n")) ∷ built 0 ∷ built 1 ∷ calls 1 ∷ calls 2 ∷ calls 3
    ∷ seen (output (codes "2\n")) ∷ [])
    ended
unfolding int_wrap digits
two_types = record { tells = refl; ends = refl; core_tells = refl; core_ends = refl }
