-- The tails of a list, computed cell by cell: the token of an opened cell is held over the call, and filled behind it.
use Rattle.std.proofs.Common.{◌≡◌, ℕ, pos, List, [], ◌∷◌, Some, refl}
use Rattle.kk_syntax.specs.declared.program.Form.TheVariants.{Unit as Nothing, Construct, Call}
use Rattle.kk_source.specs.State.{Value, integer, constant, place, heap_full, ended}
use Rattle.kk_source.specs.Notes.{built, called}
use Rattle.kk_counted.specs.Heaps.{Held, Heap}
use Rattle.kk_counted.specs.TokenedCodes.{Tokened, TokenedArms, TokenedFunction}
use Rattle.kk_counted.specs.TokenStates.{TokenSetting}
use Rattle.kk_counted.specs.Tokens.{Slot, spent, null, token, plain, token_of, Link}
use Rattle.kk_counted.specs.TokenSpending.{SpendsTokens}
use Rattle.kk_counted.proofs.Examples.{nil_or_cons}
use Rattle.kk_counted.proofs.TokenExamples.{function, program, after, tells, ends, two_cells}

-- fun tails(xs) { match xs { Nil -> Nil; Cons(_, more) -> Cons(more, tails(more)) } }: Nil and Cons of the lists of lists are
-- constructors 6 and 7
abbrev tails : TokenedFunction
tails =
    function 1
    (Tokened.case 0 nil_or_cons
    (TokenedArms.arm (Tokened.compute 1 (Construct 6) [] [] (Tokened.give 1))
    (TokenedArms.arm
    (Tokened.if_unique 0 3 (1 ∷ 2 ∷ []) (2 ∷ []) 0 (Tokened.dup 2
    (Tokened.hold 0 (Tokened.compute 3 (Call 0) (2 ∷ []) [] (Tokened.unhold 0
    (Tokened.fill 4 0 7 2 (3 ∷ []) [] [] (Tokened.give 4)))))))
    TokenedArms.no_arm)))

tails_spends : SpendsTokens [] [] [] tails.body
tails_spends = (
  refl,
  (
    (refl, (refl, (λ y. refl))),
    (
      (
        refl,
        (
          refl,
          (
            refl,
            (refl, (refl, ((λ y is. is), ([], (refl, (refl, (refl, (refl, (tt, ((λ y. refl), (refl, (λ y. refl)))))))))))),
          ),
        ),
      ),
      tt,
    ),
  ),
)

-- the tails of Cons(8, Cons(7, Nil)), of so many cells
abbrev tails_run : ℕ → TokenSetting
tails_run cells =
    program
    (tails ∷ two_cells (Tokened.compute 5 (Call 0) (4 ∷ []) [] (Tokened.drop 5
    (Tokened.compute 6 Nothing [] [] (Tokened.give 6)))) ∷ [])
    cells

abbrev heap_after : ℕ → Heap
heap_after steps = (after steps (tails_run 3)).machine.heap

abbrev chain_after : ℕ → List Link
chain_after steps = (after steps (tails_run 3)).machine.tokens.chain

-- the slots of the first call of `tails` and of the second
abbrev slots_after : ℕ → List Slot
slots_after steps =
    (after steps (tails_run 3)).machine.tokens.slots 1 0 ∷ (after steps (tails_run 3)).machine.tokens.slots 2 0 ∷ []

abbrev cell : ℕ → ℕ → Value → Value → Held
cell count c head tail = record { count = count; cell = record { made_by = c; fields = head ∷ tail ∷ [] } }

-- the two cells of the list, which have these counts
abbrev list_of : ℕ → ℕ → Heap
list_of outer inner = cell outer 3 (integer (pos 8)) (place 0) ∷ cell inner 3 (integer (pos 7)) (constant 2) ∷ []

-- the first call is at its opening, and the cell that it opens becomes a token of its slot
before_all : heap_after 7 ≡ list_of 1 1
before_all = refl

outer_opened : heap_after 8 ≡ list_of 0 1
outer_opened = refl

outer_token : slots_after 8 ≡ token 1 ∷ spent ∷ []
outer_token = refl

outer_mark : (after 8 (tails_run 3)).machine.tokens.marks 1 ≡ token_of 1 0
outer_mark = refl

-- it duplicates the rest of the list, and holds the token over its call
rest_twice : heap_after 9 ≡ list_of 0 2
rest_twice = refl

outer_held : chain_after 10 ≡ record { frame = 1; slot = 0 } ∷ []
outer_held = refl

-- the second call opens a cell that another reference names: its token is null, and a null one is not put on the chain
inner_opened : heap_after 13 ≡ list_of 0 1
inner_opened = refl

inner_token : slots_after 13 ≡ token 1 ∷ null ∷ []
inner_token = refl

inner_not_held : chain_after 15 ≡ record { frame = 1; slot = 0 } ∷ []
inner_not_held = refl

-- behind the third call, which is at Nil, the second one fills a new cell, since its token is null and one is free
inner_filled : heap_after 21 ≡ cell 1 7 (constant 2) (constant 6) ∷ list_of 0 1
inner_filled = refl

inner_spent : slots_after 21 ≡ token 1 ∷ spent ∷ []
inner_spent = refl

-- behind the second call the first one takes its token back, and fills its cell
outer_unheld : chain_after 23 ≡ []
outer_unheld = refl

outer_filled : heap_after 24 ≡ cell 1 7 (place 0) (place 2) ∷ cell 1 7 (constant 2) (constant 6) ∷ list_of 0 1
outer_filled = refl

outer_spent : slots_after 24 ≡ spent ∷ spent ∷ []
outer_spent = refl

outer_plain : (after 24 (tails_run 3)).machine.tokens.marks 1 ≡ plain
outer_plain = refl

-- `main` gives the result up, and with it all cells
none_left : heap_after 26 ≡ cell 0 7 (place 0) (place 2) ∷ cell 0 7 (constant 2) (constant 6) ∷ list_of 0 0
none_left = refl

tails_tell : tells 30 (tails_run 3) ≡ built 0 ∷ built 1 ∷ called 1 ∷ called 2 ∷ called 3 ∷ built 1 ∷ built 2 ∷ []
tails_tell = refl

tails_end : ends 28 (tails_run 3) ≡ Some ended
tails_end = refl

-- in two cells the second call takes the held token for its cell, and there is none for that of the first call
taken_in_two : (after 21 (tails_run 2)).machine.tokens.slots 1 0 ≡ null
taken_in_two = refl

full_in_two : ends 24 (tails_run 2) ≡ Some heap_full
full_in_two = refl
