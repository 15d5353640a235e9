-- The order in which constructions take cells, computed: that of their own token, a free one, that of another token of the
-- function, that of the newest held token.
use Rattle.std.proofs.Common.{◌≡◌, ℕ, pos, List, [], ◌∷◌, Some, refl}
use Rattle.kk_syntax.specs.declared.program.Form.TheVariants.{Number, Construct, Call}
use Rattle.kk_source.specs.State.{heap_full}
use Rattle.kk_counted.specs.Heaps.{busy}
use Rattle.kk_counted.specs.TokenedCodes.{Tokened, TokenedFunction}
use Rattle.kk_counted.specs.TokenStates.{TokenSetting}
use Rattle.kk_counted.specs.Tokens.{Slot, spent, null, token}
use Rattle.kk_counted.proofs.TokenExamples.{function, program, after, ends}

-- It opens two boxes, and makes five: the first by the token of the first box. The others name the token of the second one.
abbrev makes_five : TokenedFunction
makes_five =
    function 2
    (Tokened.if_unique 0 4 (2 ∷ []) (2 ∷ []) 0 (Tokened.if_unique 1 4 (3 ∷ []) (3 ∷ []) 1
    (Tokened.fill 4 0 4 2 [] [] (1 ∷ [])
    (Tokened.compute 5 (Construct 4) (2 ∷ []) (1 ∷ []) (Tokened.compute 6 (Construct 4) (2 ∷ []) (1 ∷ [])
    (Tokened.compute 7 (Construct 4) (2 ∷ []) (1 ∷ []) (Tokened.compute 8 (Construct 4) (2 ∷ []) (1 ∷ [])
    (Tokened.free 1 (Tokened.give 8)))))))))

-- of four cells three are boxes: `main` opens the first one, holds its token, and calls it on the other two
abbrev five : TokenSetting
five =
    program
    (makes_five ∷ function 0
    (Tokened.compute 0 (Number (pos 5)) [] [] (Tokened.compute 1 (Construct 4) (0 ∷ []) []
    (Tokened.compute 2 (Construct 4) (0 ∷ []) [] (Tokened.compute 3 (Construct 4) (0 ∷ []) []
    (Tokened.if_unique 1 4 (4 ∷ []) (4 ∷ []) 0 (Tokened.hold 0 (Tokened.compute 5 (Call 0) (2 ∷ 3 ∷ []) []
    (Tokened.unhold 0 (Tokened.free 0 (Tokened.give 5)))))))))) ∷ [])
    4

abbrev busy_after : ℕ → ℕ
busy_after steps = busy (after steps five).machine.heap

-- the two slots of the function, and the one of `main`
abbrev slots_after : ℕ → List Slot
slots_after steps = slot 1 0 ∷ slot 1 1 ∷ slot 0 0 ∷ []
  where
    slot : ℕ → ℕ → Slot
    slot = (after steps five).machine.tokens.slots

-- there are three tokens, and one cell is free
three_tokens : slots_after 9 ≡ token 1 ∷ token 2 ∷ token 0 ∷ []
three_tokens = refl

none_busy : busy_after 9 ≡ 0
none_busy = refl

own_first : slots_after 10 ≡ spent ∷ token 2 ∷ token 0 ∷ []
own_first = refl

then_a_free_cell : slots_after 11 ≡ spent ∷ token 2 ∷ token 0 ∷ []
then_a_free_cell = refl

two_busy : busy_after 11 ≡ 2
two_busy = refl

then_of_the_function : slots_after 12 ≡ spent ∷ null ∷ token 0 ∷ []
then_of_the_function = refl

then_a_held_one : slots_after 13 ≡ spent ∷ null ∷ null ∷ []
then_a_held_one = refl

none_held : (after 13 five).machine.tokens.chain ≡ []
none_held = refl

four_busy : busy_after 13 ≡ 4
four_busy = refl

then_none : ends 15 five ≡ Some heap_full
then_none = refl
