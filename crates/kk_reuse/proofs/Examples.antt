-- Paired code by computation.
use Rattle.std.proofs.Common.{◌≡◌, ◌+◌, ◌*◌, false, List, [], ◌∷◌, refl}
use Rattle.kk_syntax.specs.declared.program.Form.TheVariants.{Unit as Nothing, Construct, Call}
use Rattle.kk_core.specs.Decisions.{NodeTree}
use Rattle.kk_counted.specs.CountedCodes.{Counted, give, tail_call, case, compute, inside, if_unique, drop, no_arm, arm}
use Rattle.kk_counted.specs.TokenCosts.{room_needed, openings}
use Rattle.kk_counted.specs.TokenedCodes.{Tokened, TokenedArms}
use Rattle.kk_reuse.specs.Pairing.{paired}

-- A list is reversed in place: variable 0 is the list, and 1 what is reversed so far. The new cell is that of the list.
reversed : paired false 0 0
    (if_unique 0 7 (2 ∷ 3 ∷ []) (2 ∷ 3 ∷ []) (compute 4 (Construct 7) (2 ∷ 1 ∷ []) (tail_call 0 (3 ∷ 4 ∷ []))))
    ≡ Tokened.if_unique 0 7 (2 ∷ 3 ∷ []) (2 ∷ 3 ∷ []) 0
    (Tokened.fill 4 0 7 2 (1 ∷ []) [] [] (Tokened.tail_call 0 (3 ∷ 4 ∷ [])))
reversed = refl

-- A token waits for the call in front of the construction: it is held there.
held : paired false 0 0
    (if_unique 0 7 (1 ∷ 2 ∷ []) (1 ∷ 2 ∷ []) (compute 3 (Call 0) (2 ∷ []) (compute 4 (Construct 7) (1 ∷ 3 ∷ []) (give 4))))
    ≡ Tokened.if_unique 0 7 (1 ∷ 2 ∷ []) (1 ∷ 2 ∷ []) 0
    (Tokened.hold 0 (Tokened.compute 3 (Call 0) (2 ∷ []) [] (Tokened.unhold 0
    (Tokened.fill 4 0 7 1 (3 ∷ []) [] [] (Tokened.give 4)))))
held = refl

-- Where another call comes directly behind it the token stays held, and is taken back behind the last of them.
held_on : paired false 0 0
    (if_unique 0 7 (1 ∷ 2 ∷ []) (1 ∷ 2 ∷ []) (compute 3 (Call 0) (1 ∷ []) (compute 4 (Call 1) (2 ∷ [])
    (compute 5 (Construct 7) (3 ∷ 4 ∷ []) (give 5)))))
    ≡ Tokened.if_unique 0 7 (1 ∷ 2 ∷ []) (1 ∷ 2 ∷ []) 0
    (Tokened.hold 0 (Tokened.compute 3 (Call 0) (1 ∷ []) [] (Tokened.compute 4 (Call 1) (2 ∷ []) [] (Tokened.unhold 0
    (Tokened.fill 5 0 7 3 (4 ∷ []) [] [] (Tokened.give 5))))))
held_on = refl

-- Of two tokens a construction takes the newer one, and the other is freed before the tail call.
newest : paired false 0 0
    (if_unique 0 7 (2 ∷ []) (2 ∷ []) (if_unique 2 7 (3 ∷ []) (3 ∷ [])
    (compute 4 (Construct 7) (3 ∷ []) (tail_call 0 (4 ∷ 1 ∷ [])))))
    ≡ Tokened.if_unique 0 7 (2 ∷ []) (2 ∷ []) 0 (Tokened.if_unique 2 7 (3 ∷ []) (3 ∷ []) 1
    (Tokened.fill 4 1 7 3 [] [] (0 ∷ []) (Tokened.free 0 (Tokened.tail_call 0 (4 ∷ 1 ∷ [])))))
newest = refl

-- One arm of a block leaves a token, and the other none: it gets a null one, and the construction behind takes what is there.
uneven : (decisions : List NodeTree)
    → paired false 0 0
    (inside 5 (case 1 decisions (arm (if_unique 0 7 (2 ∷ []) [] (compute 3 Nothing [] (give 3)))
    (arm (drop 0 (compute 4 Nothing [] (give 4))) no_arm)))
    (compute 6 (Construct 7) (5 ∷ []) (give 6)))
    ≡ Tokened.inside 5 (Tokened.case 1 decisions
    (TokenedArms.arm (Tokened.if_unique 0 7 (2 ∷ []) [] 0 (Tokened.compute 3 Nothing [] [] (Tokened.give 3)))
    (TokenedArms.arm (Tokened.drop 0 (Tokened.compute 4 Nothing [] [] (Tokened.null 0 (Tokened.give 4)))) TokenedArms.no_arm)))
    (Tokened.fill 6 0 7 5 [] [] [] (Tokened.give 6))
uneven decisions = refl

-- where no construction can follow a token is freed at once
unused : paired false 0 0 (if_unique 0 7 (1 ∷ []) (1 ∷ []) (give 1))
    ≡ Tokened.if_unique 0 7 (1 ∷ []) (1 ∷ []) 0 (Tokened.free 0 (Tokened.give 1))
unused = refl

-- Two tokens wait for a call: what they cost ahead is greatest behind it, where they are taken back and the newer one is used.
abbrev waiting : Counted
waiting =
    if_unique 0 7 (2 ∷ []) (2 ∷ []) (if_unique 1 7 (3 ∷ []) (3 ∷ []) (compute 4 (Call 0) (2 ∷ 3 ∷ [])
    (compute 5 (Construct 7) (4 ∷ []) (give 5))))

waiting_room : room_needed (paired false 0 0 waiting) ≡ 12 * 2 + 24
waiting_room = refl

waiting_openings : openings waiting ≡ 2
waiting_openings = refl
