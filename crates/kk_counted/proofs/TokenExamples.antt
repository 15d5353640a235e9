-- Runs of small programs with tokens, computed.
use Rattle.std.proofs.Common.{◌≡◌, ℕ, pos, true, List, [], ◌∷◌, length, Option, Some, refl}
use Rattle.std.specs.Int.{int_wrap}
use Rattle.kk_base.specs.Machines.{trace, state, ending_after}
use Rattle.kk_syntax.specs.declared.operator.BinaryOperator.TheVariants.{Add}
use Rattle.kk_syntax.specs.declared.program.Form.TheVariants.{Number, Unit as Nothing, Binary, Construct, Call}
use Rattle.kk_source.specs.State.{End, heap_full, ended}
use Rattle.kk_source.specs.Notes.{Note, built, called}
use Rattle.kk_counted.specs.Heaps.{busy}
use Rattle.kk_counted.specs.TokenedCodes.{Tokened, TokenedArms, TokenedFunction}
use Rattle.kk_counted.specs.TokenStates.{TokenSetting, TokenState, token_first_state}
use Rattle.kk_counted.specs.BareForms.{bare}
use Rattle.kk_counted.specs.TokenCosts.{room_needed, openings}
use Rattle.kk_counted.specs.TokenMachine.{token_machine}
use Rattle.kk_counted.specs.Tokens.{null, marked}
use Rattle.kk_counted.specs.TokenSpending.{SpendsTokens}
use Rattle.kk_counted.proofs.Examples.{nil_or_cons}

abbrev pub function : ℕ → Tokened → TokenedFunction
function parameters body = record { parameters = parameters; body = body }

-- the second function is `main`
abbrev pub program : List TokenedFunction → ℕ → TokenSetting
program functions cells =
    record { program = record { functions = functions; texts = []; main = 1 }; cells = cells; depth = 5; leaves = true }

abbrev pub after : ℕ → TokenSetting → TokenState
after steps setting = state (token_machine (λ s. 1) setting) steps (token_first_state setting [])

abbrev pub tells : ℕ → TokenSetting → List Note
tells steps setting = trace (token_machine (λ s. 1) setting) steps (token_first_state setting [])

abbrev pub ends : ℕ → TokenSetting → Option End
ends steps setting = ending_after (token_machine (λ s. 1) setting) steps (token_first_state setting [])

-- fun inc(xs) { match xs { Nil -> Nil; Cons(x, xx) -> Cons(x + 1, inc(xx)) } }: the token of the cell is held over the call, and
-- the new cell fills it
abbrev inc : TokenedFunction
inc =
    function 1
    (Tokened.case 0 nil_or_cons
    (TokenedArms.arm (Tokened.give 0)
    (TokenedArms.arm
    (Tokened.if_unique 0 3 (1 ∷ 2 ∷ []) (1 ∷ 2 ∷ []) 0
    (Tokened.compute 3 (Number (pos 1)) [] [] (Tokened.compute 4 (Binary Add) (1 ∷ 3 ∷ []) []
    (Tokened.hold 0 (Tokened.compute 5 (Call 0) (2 ∷ []) [] (Tokened.unhold 0
    (Tokened.fill 6 0 3 4 (5 ∷ []) [] [] (Tokened.give 6))))))))
    TokenedArms.no_arm)))

inc_spends : SpendsTokens [] [] [] inc.body
inc_spends = (
  refl,
  (
    (refl, (λ y. refl)),
    (
      (
        refl,
        (
          refl,
          (
            refl,
            (refl, (refl, (refl, ((λ y is. is), ([], (refl, (refl, (refl, (refl, (tt, ((λ y. refl), (refl, (λ y. refl))))))))))))),
          ),
        ),
      ),
      tt,
    ),
  ),
)

-- a list of two cells, which variable 4 names
abbrev pub two_cells : Tokened → TokenedFunction
two_cells rest =
    function 0
    (Tokened.compute 0 (Construct 2) [] [] (Tokened.compute 1 (Number (pos 7)) [] []
    (Tokened.compute 2 (Construct 3) (1 ∷ 0 ∷ []) []
    (Tokened.compute 3 (Number (pos 8)) [] [] (Tokened.compute 4 (Construct 3) (3 ∷ 2 ∷ []) [] rest)))))

abbrev unique : Tokened
unique = Tokened.compute 5 (Call 0) (4 ∷ []) [] (Tokened.drop 5 (Tokened.compute 6 Nothing [] [] (Tokened.give 6)))

abbrev shared : Tokened
shared =
    Tokened.dup 4 (Tokened.compute 5 (Call 0) (4 ∷ []) []
    (Tokened.drop 4 (Tokened.drop 5 (Tokened.compute 6 Nothing [] [] (Tokened.give 6)))))

abbrev unique_run : ℕ → TokenSetting
unique_run cells = program (inc ∷ two_cells unique ∷ []) cells

abbrev shared_run : ℕ → TokenSetting
shared_run cells = program (inc ∷ two_cells shared ∷ []) cells

-- inc of the only reference to the list needs no more cells than the list has, and leaves none
unique_tells : tells 40 (unique_run 2) ≡ built 0 ∷ built 1 ∷ called 1 ∷ called 2 ∷ called 3 ∷ built 0 ∷ built 1 ∷ []
unfolding int_wrap
unique_tells = refl

unique_ends : ends 40 (unique_run 2) ≡ Some ended
unfolding int_wrap
unique_ends = refl

unique_leaves_none : busy (after 40 (unique_run 2)).machine.heap ≡ 0
unfolding int_wrap
unique_leaves_none = refl

no_token_is_left : marked (after 40 (unique_run 2)).machine.tokens.marks (length (after 40 (unique_run 2)).machine.heap) ≡ 0
unfolding int_wrap
no_token_is_left = refl

unique_in_one : ends 40 (unique_run 1) ≡ Some heap_full
unfolding int_wrap
unique_in_one = refl

unique_in_none : ends 40 (unique_run 0) ≡ Some heap_full
unfolding int_wrap
unique_in_none = refl

-- inc of one of two references needs two cells more; with each cell fewer the heap is full one construction earlier
shared_tells : tells 50 (shared_run 4) ≡ built 0 ∷ built 1 ∷ called 1 ∷ called 2 ∷ called 3 ∷ built 2 ∷ built 3 ∷ []
unfolding int_wrap
shared_tells = refl

shared_ends : ends 50 (shared_run 4) ≡ Some ended
unfolding int_wrap
shared_ends = refl

shared_leaves_none : busy (after 50 (shared_run 4)).machine.heap ≡ 0
unfolding int_wrap
shared_leaves_none = refl

shared_in_three : tells 50 (shared_run 3) ≡ built 0 ∷ built 1 ∷ called 1 ∷ called 2 ∷ called 3 ∷ built 2 ∷ built 3 ∷ []
unfolding int_wrap
shared_in_three = refl

shared_ends_in_three : ends 50 (shared_run 3) ≡ Some heap_full
unfolding int_wrap
shared_ends_in_three = refl

shared_in_two : tells 50 (shared_run 2) ≡ built 0 ∷ built 1 ∷ called 1 ∷ called 2 ∷ called 3 ∷ built 2 ∷ []
unfolding int_wrap
shared_in_two = refl

shared_in_one : tells 50 (shared_run 1) ≡ built 0 ∷ built 1 ∷ []
unfolding int_wrap
shared_in_one = refl

shared_in_none : tells 50 (shared_run 0) ≡ built 0 ∷ []
unfolding int_wrap
shared_in_none = refl

-- ---- a held token is taken by the function that is called

-- type box { Box(v: int32) } is constructor 4. It makes a box and opens it again.
abbrev reopen : Tokened
reopen = Tokened.open_cell 1 4 (2 ∷ []) (2 ∷ []) 0 (Tokened.free 0 (Tokened.give 2))

-- or it gives the box, whose field `main` takes
abbrev boxes : Tokened → TokenedFunction
boxes rest = function 1 (Tokened.compute 1 (Construct 4) (0 ∷ []) [] rest)

-- a box is opened, its token held over the call, and filled behind it
abbrev pub holds : Tokened → TokenedFunction
holds rest =
    function 0
    (Tokened.compute 0 (Number (pos 5)) [] [] (Tokened.compute 1 (Construct 4) (0 ∷ []) []
    (Tokened.if_unique 1 4 (2 ∷ []) (2 ∷ []) 0
    (Tokened.hold 0 (Tokened.compute 3 (Call 0) (2 ∷ []) [] (Tokened.unhold 0
    (Tokened.fill 4 0 4 2 [] [] [] rest)))))))

abbrev reopen_run : ℕ → TokenSetting
reopen_run cells =
    program (boxes reopen ∷ holds (Tokened.drop 4 (Tokened.compute 5 Nothing [] [] (Tokened.give 5))) ∷ []) cells

abbrev keeping_run : ℕ → TokenSetting
keeping_run cells =
    program (boxes (Tokened.give 1) ∷ holds (Tokened.drop 4
    (Tokened.drop 3 (Tokened.compute 5 Nothing [] [] (Tokened.give 5)))) ∷ []) cells

reopen_in_one : tells 30 (reopen_run 1) ≡ built 0 ∷ called 1 ∷ built 0 ∷ built 0 ∷ []
reopen_in_one = refl

reopen_ends : ends 30 (reopen_run 1) ≡ Some ended
reopen_ends = refl

-- before the call the token is on the chain; when it is taken it is not, and its slot is null
held_before : (after 4 (reopen_run 1)).machine.tokens.chain ≡ record { frame = 0; slot = 0 } ∷ []
held_before = refl

taken_then : (after 6 (reopen_run 1)).machine.tokens.chain ≡ []
taken_then = refl

null_then : (after 6 (reopen_run 1)).machine.tokens.slots 0 0 ≡ null
null_then = refl

keeping_in_two : ends 30 (keeping_run 2) ≡ Some ended
keeping_in_two = refl

keeping_in_one : tells 30 (keeping_run 1) ≡ built 0 ∷ called 1 ∷ built 0 ∷ built 1 ∷ []
keeping_in_one = refl

keeping_is_full : ends 30 (keeping_run 1) ≡ Some heap_full
keeping_is_full = refl

-- ---- the newest token is null, and an older one of the same function is taken

-- fun h(p, q) { match p { Box(x) -> match q { Box(y) -> Box(x + y) } } }
abbrev adds : TokenedFunction
adds =
    function 2
    (Tokened.if_unique 0 4 (2 ∷ []) (2 ∷ []) 0 (Tokened.if_unique 1 4 (3 ∷ []) (3 ∷ []) 1
    (Tokened.compute 4 (Binary Add) (2 ∷ 3 ∷ []) []
    (Tokened.fill 5 1 4 4 [] [] (0 ∷ []) (Tokened.free 0 (Tokened.give 5))))))

-- the most that tokens cost ahead in its body: the construction names one more token
adds_room : room_needed adds.body ≡ 24
adds_room = refl

-- it takes two openings on its path
adds_openings : openings (bare adds.body) ≡ 2
adds_openings = refl

-- h of a box that is owned once and of one that is owned twice
abbrev adds_run : ℕ → TokenSetting
adds_run cells =
    program
    (adds ∷ function 0
    (Tokened.compute 0 (Number (pos 2)) [] [] (Tokened.compute 1 (Construct 4) (0 ∷ []) []
    (Tokened.compute 2 (Construct 4) (0 ∷ []) [] (Tokened.dup 1
    (Tokened.compute 3 (Call 0) (2 ∷ 1 ∷ []) [] (Tokened.drop 3 (Tokened.drop 1
    (Tokened.compute 4 Nothing [] [] (Tokened.give 4))))))))) ∷ [])
    cells

adds_in_two : tells 40 (adds_run 2) ≡ built 0 ∷ built 1 ∷ called 1 ∷ built 1 ∷ []
unfolding int_wrap
adds_in_two = refl

adds_ends : ends 40 (adds_run 2) ≡ Some ended
unfolding int_wrap
adds_ends = refl

adds_leaves_none : busy (after 40 (adds_run 2)).machine.heap ≡ 0
unfolding int_wrap
adds_leaves_none = refl

adds_in_one : ends 40 (adds_run 1) ≡ Some heap_full
unfolding int_wrap
adds_in_one = refl

-- ---- a field that is kept

-- type two { P(a: int32, b: int32) } is constructor 5: P(1, 2) is opened, and its cell becomes P(9, 2) by a write of the first
-- field
abbrev keeps : ℕ → List ℕ → TokenSetting
keeps second kept =
    program
    (function 0 (Tokened.give 0) ∷ function 0
    (Tokened.compute 0 (Number (pos 1)) [] [] (Tokened.compute 1 (Number (pos 2)) [] []
    (Tokened.compute 2 (Construct 5) (0 ∷ 1 ∷ []) []
    (Tokened.if_unique 2 5 (3 ∷ 4 ∷ []) (3 ∷ 4 ∷ []) 0 (Tokened.compute 5 (Number (pos 9)) [] []
    (Tokened.fill 6 0 5 5 (second ∷ []) kept [] (Tokened.give 6))))))) ∷ [])
    1

keeps_the_same : (after 6 (keeps 4 (1 ∷ []))).machine.heap ≡ (after 6 (keeps 4 [])).machine.heap
keeps_the_same = refl

-- what is kept is what the token has, whatever the argument is
keeps_what_is_there : (after 6 (keeps 5 (1 ∷ []))).machine.heap ≡ (after 6 (keeps 4 [])).machine.heap
keeps_what_is_there = refl
