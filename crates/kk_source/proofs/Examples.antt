-- Runs of small programs, some counted by hand.
use Rattle.std.proofs.Common.{◌≡◌, ℕ, pos, [], ◌∷◌, Some, None, refl}
use Rattle.std.specs.Int.{int_wrap}
use Rattle.std.specs.Fmt.{digits}
use Rattle.std.specs.Prelude.{codes}
use Rattle.kk_base.specs.Trace.{output, input, input_end}
use Rattle.kk_syntax.specs.declared.operator.BinaryOperator.TheVariants.{Add, Subtract, Multiply, Equal, GreaterEqual}
use Rattle.kk_syntax.specs.declared.positions.Ownership.TheVariants.{Lent}
use Rattle.kk_syntax.specs.Patterns.{anything, variable as names}
use Rattle.kk_syntax.specs.Trees.{Tree, variable, branch, match, no_row, row, row_parts}
use Rattle.kk_source.specs.State.{Setting, ended, heap_full, stack_full}
use Rattle.kk_source.specs.SourceAfter.{source_after}
use Rattle.kk_source.proofs.Builder.{number, unit, read_byte, binary, called, made, printed, of_made, bound_to, then, program}

-- fun main() { println(1 + 2 * 3) }
-- 1 the print waits, 2 the sum waits, 3 a value, 4 is kept, 5 the product waits, 6 a value, 7 is kept, 8 a value,
-- 9 the product, 10 the sum, 11 the print, 12 the end
abbrev arithmetic : Setting
arithmetic =
    program (printed (binary Add (number (pos 1)) (binary Multiply (number (pos 2)) (number (pos 3)))) ∷ []) 0 65536 4096

arithmetic_before_its_end : source_after arithmetic [] 11 ≡ record { trace = output (codes "7\n") ∷ []; ending = None }
unfolding int_wrap digits
arithmetic_before_its_end = refl

arithmetic_at_its_end : source_after arithmetic [] 12 ≡ record { trace = output (codes "7\n") ∷ []; ending = Some ended }
unfolding int_wrap digits
arithmetic_at_its_end = refl

-- type list<a> { Nil; Cons(head: a, tail: list<a>) }: constructors 2 and 3
abbrev nil : Tree
nil = made 2 []

abbrev cons : Tree → Tree → Tree
cons head tail = made 3 (head ∷ tail ∷ [])

-- fun build(n) { if n == 0 then Nil else Cons(n, build(n - 1)) }
abbrev build : Tree
build =
    branch (binary Equal (variable 0) (number (pos 0))) nil
    (cons (variable 0) (called 0 (binary Subtract (variable 0) (number (pos 1)) ∷ [])))

-- fun len(xs) { match xs { Nil -> 0; Cons(_, xx) -> 1 + len(xx) } }
abbrev len : Tree
len =
    match (variable 0)
    (row (row_parts (of_made 2 []) (number (pos 0)))
    (row (row_parts (of_made 3 (anything ∷ names 1 ∷ [])) (binary Add (number (pos 1)) (called 1 (variable 1 ∷ []))))
    no_row))

-- fun main() { println(len(build(3))) }
-- build(n) takes 17 steps to its call, then those of build(n - 1) with its return, 1 to construct and 1 to return;
-- build(0) takes 9: so build(3) takes 66. len takes 11 a cell and 5 at the end: 38. With the 5 steps up to the first
-- call, 1 for the second, the print and the end they are 112.
abbrev deep : ℕ → Setting
deep depth = program (build ∷ len ∷ printed (called 1 (called 0 (number (pos 3) ∷ []) ∷ [])) ∷ []) 2 65536 depth

deep_before_its_end : source_after (deep 5) [] 111 ≡ record { trace = output (codes "3\n") ∷ []; ending = None }
unfolding int_wrap digits
deep_before_its_end = refl

deep_at_its_end : source_after (deep 5) [] 112 ≡ record { trace = output (codes "3\n") ∷ []; ending = Some ended }
unfolding int_wrap digits
deep_at_its_end = refl

-- build(3) is entered by step 5, build(2) by 22, build(1) by 39; the call of build(0) finds four call frames
too_deep_before : source_after (deep 4) [] 55 ≡ record { trace = []; ending = None }
unfolding int_wrap
too_deep_before = refl

too_deep : source_after (deep 4) [] 56 ≡ record { trace = []; ending = Some stack_full }
unfolding int_wrap
too_deep = refl

-- fun rev(xs, acc) { match xs { Cons(x, xx) -> rev(xx, Cons(x, acc)); Nil -> acc } }
abbrev rev : Tree
rev =
    match (variable 0)
    (row (row_parts (of_made 3 (names 2 ∷ names 3 ∷ [])) (called 2 (variable 3 ∷ cons (variable 2) (variable 1) ∷ [])))
    (row (row_parts (of_made 2 []) (variable 1))
    no_row))

-- fun main() { match rev(build(3), Nil) { Cons(x, _) -> println(x); Nil -> println(0) } }: three cells are enough, since
-- the cells of the first list are not reached any more when those of the second are made
abbrev reversed : ℕ → Setting
reversed cells =
    program
    (build ∷ len ∷ rev
    ∷ match (called 2 (called 0 (number (pos 3) ∷ []) ∷ nil ∷ []))
    (row (row_parts (of_made 3 (names 0 ∷ anything ∷ [])) (printed (variable 0)))
    (row (row_parts (of_made 2 []) (printed (number (pos 0))))
    no_row)) ∷ [])
    3 cells 4096

reversed_in_three : source_after (reversed 3) [] 200 ≡ record { trace = output (codes "1\n") ∷ []; ending = Some ended }
unfolding int_wrap digits
reversed_in_three = refl

reversed_in_two : source_after (reversed 2) [] 200 ≡ record { trace = []; ending = Some heap_full }
unfolding int_wrap
reversed_in_two = refl

-- fun f(xs) { match xs { Nil -> 0; Cons(x, _) -> len(build(x)) } } and fun main() { println(f(Cons(3, Nil))) }: where the
-- parameter of f is lent, its cell stays live until the call returns, though no variable names it any more
abbrev lent_cell : ℕ → Setting
lent_cell cells = record
    (program
    (build ∷ len
    ∷ match (variable 0)
    (row (row_parts (of_made 2 []) (number (pos 0)))
    (row (row_parts (of_made 3 (names 1 ∷ anything ∷ [])) (called 1 (called 0 (variable 1 ∷ []) ∷ [])))
    no_row))
    ∷ printed (called 2 (cons (number (pos 3)) nil ∷ [])) ∷ [])
    3 cells 4096)
    { positions = [] ∷ [] ∷ (Lent ∷ []) ∷ [] }

lent_in_four : source_after (lent_cell 4) [] 200 ≡ record { trace = output (codes "3\n") ∷ []; ending = Some ended }
unfolding int_wrap digits
lent_in_four = refl

lent_in_three : source_after (lent_cell 3) [] 200 ≡ record { trace = []; ending = Some heap_full }
unfolding int_wrap
lent_in_three = refl

owned_in_three : source_after (record (lent_cell 3) { positions = [] }) [] 200 ≡ record { trace = output (codes "3\n") ∷ []; ending = Some ended }
unfolding int_wrap digits
owned_in_three = refl

-- fun echo() { val b = read-byte(); println(b); if b >= 0 then echo() } and fun main() { echo() }: a call in tail position
-- pushes nothing, so one call frame is enough
abbrev echo : Setting
echo =
    program
    (bound_to 0 read_byte
    (then (printed (variable 0))
    (branch (binary GreaterEqual (variable 0) (number (pos 0))) (called 0 []) unit))
    ∷ called 0 [] ∷ [])
    1 0 1

echo_of_two : source_after echo (10 ∷ 255 ∷ []) 100 ≡ record { trace = input 10 ∷ output (codes "10\n") ∷ input 255 ∷ output (codes "255\n") ∷ input_end ∷ output (codes "-1\n") ∷ []; ending = Some ended }
unfolding digits
echo_of_two = refl

-- val zs = build(1); match build(2) { _ -> println(1); Nil -> println(len(zs)) }: a row that is never chosen keeps what it
-- names alive while the scrutinee is computed
abbrev unchosen : ℕ → Setting
unchosen cells =
    program
    (build ∷ len
    ∷ bound_to 0 (called 0 (number (pos 1) ∷ []))
    (match (called 0 (number (pos 2) ∷ []))
    (row (row_parts anything (printed (number (pos 1))))
    (row (row_parts (of_made 2 []) (printed (called 1 (variable 0 ∷ []))))
    no_row))) ∷ [])
    2 cells 4096

unchosen_in_three : source_after (unchosen 3) [] 200 ≡ record { trace = output (codes "1\n") ∷ []; ending = Some ended }
unfolding int_wrap digits
unchosen_in_three = refl

unchosen_in_two : source_after (unchosen 2) [] 200 ≡ record { trace = []; ending = Some heap_full }
unfolding int_wrap
unchosen_in_two = refl
