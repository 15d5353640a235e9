-- Codes on lists of numbers that the examples share: patterns and decisions, a function with a nested pattern, and codes that make
-- a list.
use Rattle.std.proofs.Common.{ℕ, pos, List, [], ◌∷◌, None, refl, arith}
use Rattle.kk_syntax.specs.declared.operator.BinaryOperator.TheVariants.{Add}
use Rattle.kk_syntax.specs.declared.program.Form.TheVariants.{Number, Binary, Construct}
use Rattle.kk_syntax.specs.Patterns.{Pattern, anything, constructor, no_part, part}
use Rattle.kk_core.specs.declared.decisions.Answer.TheVariants.{Constructor}
use Rattle.kk_core.specs.Codes.{Code, give, case, compute, unpack, no_arm, arm, FunctionCode}
use Rattle.kk_core.specs.Decisions.{NodeTree, chooses, tests}
use Rattle.kk_core.specs.Sizes.{Ordered}

-- type list<a> { Nil; Cons(head: a, tail: list<a>) }: constructors 2 and 3
abbrev pub nil : Pattern
nil = constructor 2 no_part

abbrev pub cons : Pattern → Pattern → Pattern
cons head tail = constructor 3 (part head (part tail no_part))

-- the rows Cons(_, Nil), Cons(_, Cons(_, _)) and Nil: the list is tested, and then the tail of a cell
abbrev pub one_or_more : List NodeTree
one_or_more =
    tests [] (record { found = Constructor 3; next = 1 } ∷ record { found = Constructor 2; next = 4 } ∷ []) None
    ∷ tests (1 ∷ []) (record { found = Constructor 2; next = 2 } ∷ record { found = Constructor 3; next = 3 } ∷ []) None
    ∷ chooses 0 ∷ chooses 1 ∷ chooses 2 ∷ []

-- fun first_two(xs) { match xs { Cons(x, Nil) -> x; Cons(x, Cons(y, _)) -> x + y; Nil -> 0 } }
abbrev pub first_two : FunctionCode
first_two = record {
  parameters = 1;
  variables = 9;
  body = case 0 one_or_more
      (arm (cons anything nil) (unpack 0 3 (1 ∷ 2 ∷ []) (give 1))
      (arm (cons anything (cons anything anything))
      (unpack 0 3 (3 ∷ 4 ∷ []) (unpack 4 3 (5 ∷ 6 ∷ []) (compute 7 (Binary Add) (3 ∷ 5 ∷ []) (give 7))))
      (arm nil (compute 8 (Number (pos 0)) [] (give 8))
      no_arm)));
}

-- with a list of one number, which variable 2 names
abbrev pub with_one : ℕ → Code → Code
with_one n rest = compute 0 (Construct 2) [] (compute 1 (Number (pos n)) [] (compute 2 (Construct 3) (1 ∷ 0 ∷ []) rest))

-- with a list of the numbers 8 and 7, which variable 4 names, and its tail, which variable 2 names
abbrev pub with_list : Code → Code
with_list rest = with_one 7 (compute 3 (Number (pos 8)) [] (compute 4 (Construct 3) (3 ∷ 2 ∷ []) rest))

-- the list of one number is ordered code where what comes then is
pub with_one_ordered : (n : ℕ) (rest : Code) (high : ℕ) → Ordered (2 ∷ 1 ∷ 0 ∷ []) 3 rest high → Ordered [] 0 (with_one n rest) high
with_one_ordered n rest high after = (tt, omega arith, (tt, omega arith, ((refl, (refl, tt)), omega arith, after)))
