-- Where the arms of a branch leave their tokens once it is joined, computed.
use Rattle.std.proofs.Common.{◌≡◌, ℕ, List, [], ◌∷◌, refl}
use Rattle.kk_counted.specs.TokenedCodes.{Tokened}
use Rattle.kk_counted.specs.TokenedForms.{TokenedMove}
use Rattle.kk_emitter.specs.TokenDrafts.{EndedArm, joined_slots, renames}

-- an arm that leaves tokens in these slots, the newest first
abbrev leaving : List ℕ → EndedArm
leaving slots = record { moves = []; end = Tokened.give 0; spare = slots }

-- Of three arms one leaves no token, one has a token in the first slot and one in the second: behind the branch it is in the second.
one_slot : joined_slots (leaving [] ∷ leaving (0 ∷ []) ∷ leaving (1 ∷ []) ∷ []) ≡ 1 ∷ []
one_slot = refl

-- so the first arm leaves a null token there, the second moves its own, and the third leaves it
nothing_there : renames [] (1 ∷ []) ≡ TokenedMove.nulls 1 ∷ []
nothing_there = refl

elsewhere : renames (0 ∷ []) (1 ∷ []) ≡ TokenedMove.moves 1 0 ∷ []
elsewhere = refl

in_place : renames (1 ∷ []) (1 ∷ []) ≡ []
in_place = refl

-- one arm leaves two tokens, and another one more than that one's slots
two_slots : joined_slots (leaving (1 ∷ 0 ∷ []) ∷ leaving (2 ∷ []) ∷ []) ≡ 1 ∷ 2 ∷ []
two_slots = refl

both_moved : renames (1 ∷ 0 ∷ []) (2 ∷ 1 ∷ []) ≡ TokenedMove.moves 2 1 ∷ TokenedMove.moves 1 0 ∷ []
both_moved = refl
