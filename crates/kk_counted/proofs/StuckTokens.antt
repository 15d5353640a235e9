-- Each way in which the machine with tokens is stuck, computed: at a token that is not there to be spent or held, at a chain that
-- is wrong, at a cell that is not there, and at a function or an arm that is missing.
use Rattle.std.proofs.Common.{◌≡◌, ℕ, pos, [], ◌∷◌, None, refl}
use Rattle.kk_syntax.specs.declared.program.Form.TheVariants.{Number, Construct, Call}
use Rattle.kk_counted.specs.TokenedCodes.{Tokened, TokenedArms, TokenedFunction}
use Rattle.kk_counted.specs.TokenStates.{TokenControl}
use Rattle.kk_counted.specs.Tokens.{no_tokens, gained, freed, plain}
use Rattle.kk_counted.proofs.Examples.{nil_or_cons}
use Rattle.kk_counted.proofs.TokenExamples.{function, program, after, two_cells, holds}

-- `main` is stuck after so many steps, in two cells; the other function gives its parameter
abbrev IsStuck : ℕ → TokenedFunction → Type 0
IsStuck steps main = (after steps (program (function 1 (Tokened.give 0) ∷ main ∷ []) 2)).machine.control ≡ TokenControl.stuck

-- ---- tokens

-- two boxes, constructor 4, are opened, whose tokens stand in slots 0 and 1
abbrev opened : Tokened → TokenedFunction
opened rest =
    function 0
    (Tokened.compute 0 (Number (pos 5)) [] [] (Tokened.compute 1 (Construct 4) (0 ∷ []) []
    (Tokened.compute 2 (Construct 4) (0 ∷ []) []
    (Tokened.if_unique 1 4 (3 ∷ []) [] 0 (Tokened.if_unique 2 4 (4 ∷ []) [] 1 rest)))))

-- a token is spent that is spent already
freed_twice : IsStuck 7 (opened (Tokened.free 0 (Tokened.free 0 (Tokened.give 0))))
freed_twice = refl

filled_twice : IsStuck 7 (opened (Tokened.free 0 (Tokened.fill 5 0 4 0 [] [] [] (Tokened.give 0))))
filled_twice = refl

moved_twice : IsStuck 7 (opened (Tokened.free 0 (Tokened.move 2 0 (Tokened.give 0))))
moved_twice = refl

-- one is held, or taken back, that is spent
held_when_spent : IsStuck 7 (opened (Tokened.free 0 (Tokened.hold 0 (Tokened.give 0))))
held_when_spent = refl

unheld_when_spent : IsStuck 7 (opened (Tokened.free 0 (Tokened.unhold 0 (Tokened.give 0))))
unheld_when_spent = refl

-- one is held that is held already
held_twice : IsStuck 7 (opened (Tokened.hold 0 (Tokened.hold 0 (Tokened.give 0))))
held_twice = refl

-- one is taken back that is not held, or over which another one is held
unheld_when_not_held : IsStuck 6 (opened (Tokened.unhold 0 (Tokened.give 0)))
unheld_when_not_held = refl

unheld_under_another : IsStuck 8 (opened (Tokened.hold 0 (Tokened.hold 1 (Tokened.unhold 0 (Tokened.give 0)))))
unheld_under_another = refl

-- a cell is asked for while no cell is free and the newest held token is spent: both boxes are made again, and then a third one
spent_on_the_chain : IsStuck 11 (opened (Tokened.hold 0 (Tokened.free 0
    (Tokened.fill 5 1 4 0 [] [] [] (Tokened.compute 6 (Construct 4) (0 ∷ []) []
    (Tokened.compute 7 (Construct 4) (0 ∷ []) [] (Tokened.give 0)))))))
spent_on_the_chain = refl

-- a slot that another function's frame has is not seen: the slot of that number is spent in the frame that runs
spent_in_another : (after 7 (program (function 1 (Tokened.free 0 (Tokened.give 0)) ∷ holds (Tokened.give 4) ∷ []) 2)).machine.control
    ≡ TokenControl.stuck
spent_in_another = refl

-- no slot spends a cell that is not marked as its own, though no run comes there
free_unmarked : freed 0 0 (record (gained 0 0 3 no_tokens) { marks = λ p. plain }) ≡ None
free_unmarked = refl

-- ---- cells: variable 4 is a cell of constructor 3, whose second field is another one

dup_of_a_freed_cell : IsStuck 8 (two_cells (Tokened.drop 4 (Tokened.dup 4 (Tokened.give 0))))
dup_of_a_freed_cell = refl

drop_of_a_freed_cell : IsStuck 8 (two_cells (Tokened.drop 4 (Tokened.drop 4 (Tokened.give 0))))
drop_of_a_freed_cell = refl

read_of_a_freed_cell : IsStuck 8 (two_cells (Tokened.drop 4 (Tokened.read 4 3 (5 ∷ 6 ∷ []) (Tokened.give 0))))
read_of_a_freed_cell = refl

open_of_a_freed_cell : IsStuck 8 (two_cells (Tokened.drop 4 (Tokened.open_cell 4 3 (5 ∷ 6 ∷ []) [] 0 (Tokened.give 0))))
open_of_a_freed_cell = refl

unique_of_a_freed_cell : IsStuck 8 (two_cells (Tokened.drop 4 (Tokened.if_unique 4 3 (5 ∷ 6 ∷ []) [] 0 (Tokened.give 0))))
unique_of_a_freed_cell = refl

read_under_another_constructor : IsStuck 7 (two_cells (Tokened.read 4 2 (5 ∷ 6 ∷ []) (Tokened.give 0)))
read_under_another_constructor = refl

open_with_too_few_fields : IsStuck 7 (two_cells (Tokened.open_cell 4 3 (5 ∷ []) [] 0 (Tokened.give 0)))
open_with_too_few_fields = refl

unique_of_a_number : IsStuck 7 (two_cells (Tokened.if_unique 3 3 (5 ∷ 6 ∷ []) [] 0 (Tokened.give 0)))
unique_of_a_number = refl

-- a field that is used is a freed cell, and so is one that is given up with its cell
open_to_a_freed_cell : IsStuck 8 (two_cells (Tokened.drop 2
    (Tokened.open_cell 4 3 (5 ∷ 6 ∷ []) (6 ∷ []) 0 (Tokened.give 0))))
open_to_a_freed_cell = refl

unique_over_a_freed_cell : IsStuck 8 (two_cells (Tokened.drop 2 (Tokened.if_unique 4 3 (5 ∷ 6 ∷ []) [] 0 (Tokened.give 0))))
unique_over_a_freed_cell = refl

-- ---- functions and arms: there are two functions, and row 1 is that of variable 4

no_such_call : IsStuck 7 (two_cells (Tokened.compute 5 (Call 2) (4 ∷ []) [] (Tokened.give 0)))
no_such_call = refl

no_such_tail_call : IsStuck 7 (two_cells (Tokened.tail_call 2 (4 ∷ [])))
no_such_tail_call = refl

no_such_arm : IsStuck 7 (two_cells (Tokened.case 4 nil_or_cons (TokenedArms.arm (Tokened.give 0) TokenedArms.no_arm)))
no_such_arm = refl

no_row : IsStuck 8 (two_cells (Tokened.drop 4 (Tokened.case 4 nil_or_cons
    (TokenedArms.arm (Tokened.give 0) (TokenedArms.arm (Tokened.give 0) TokenedArms.no_arm)))))
no_row = refl
