-- Respecialised code by computation.
use Rattle.std.proofs.Common.{◌≡◌, [], ◌∷◌, refl}
use Rattle.kk_syntax.specs.declared.program.Form.TheVariants.{Unit as Nothing, Call}
use Rattle.kk_counted.specs.TokenedCodes.{Tokened}
use Rattle.kk_respec.specs.Respecialised.{respec}

-- match p { P(x, y) -> { val x' = 9; P(x', y) } }: variable 0 is p, 1 is x, 2 is y and 3 is x'. The field y stays.
second_stays : respec [] (Tokened.if_unique 0 7 (1 ∷ 2 ∷ []) (2 ∷ []) 0
    (Tokened.compute 3 Nothing [] [] (Tokened.fill 4 0 7 3 (2 ∷ []) [] [] (Tokened.give 4))))
    ≡ Tokened.if_unique 0 7 (1 ∷ 2 ∷ []) (2 ∷ []) 0
    (Tokened.compute 3 Nothing [] [] (Tokened.fill 4 0 7 3 (2 ∷ []) (1 ∷ []) [] (Tokened.give 4)))
second_stays = refl

-- the fields that have changed places are both written
swapped : respec [] (Tokened.if_unique 0 7 (1 ∷ 2 ∷ []) (1 ∷ 2 ∷ []) 0 (Tokened.fill 3 0 7 2 (1 ∷ []) [] [] (Tokened.give 3)))
    ≡ Tokened.if_unique 0 7 (1 ∷ 2 ∷ []) (1 ∷ 2 ∷ []) 0 (Tokened.fill 3 0 7 2 (1 ∷ []) [] [] (Tokened.give 3))
swapped = refl

-- where a field's variable has another value its field is written
bound_anew : respec [] (Tokened.if_unique 0 7 (1 ∷ 2 ∷ []) (1 ∷ 2 ∷ []) 0
    (Tokened.compute 1 Nothing [] [] (Tokened.fill 3 0 7 1 (2 ∷ []) (0 ∷ 1 ∷ []) [] (Tokened.give 3))))
    ≡ Tokened.if_unique 0 7 (1 ∷ 2 ∷ []) (1 ∷ 2 ∷ []) 0
    (Tokened.compute 1 Nothing [] [] (Tokened.fill 3 0 7 1 (2 ∷ []) [] [] (Tokened.give 3)))
bound_anew = refl

-- What is known stays so over a call around which the token is held, and is forgotten behind a block inside.
held : respec [] (Tokened.if_unique 0 7 (1 ∷ 2 ∷ []) (1 ∷ 2 ∷ []) 0 (Tokened.hold 0
    (Tokened.compute 3 (Call 0) (2 ∷ []) [] (Tokened.unhold 0 (Tokened.fill 4 0 7 1 (3 ∷ []) [] [] (Tokened.give 4))))))
    ≡ Tokened.if_unique 0 7 (1 ∷ 2 ∷ []) (1 ∷ 2 ∷ []) 0 (Tokened.hold 0
    (Tokened.compute 3 (Call 0) (2 ∷ []) [] (Tokened.unhold 0 (Tokened.fill 4 0 7 1 (3 ∷ []) (0 ∷ []) [] (Tokened.give 4)))))
held = refl

behind_block : respec [] (Tokened.if_unique 0 7 (1 ∷ 2 ∷ []) (1 ∷ 2 ∷ []) 0
    (Tokened.inside 3 (Tokened.give 1) (Tokened.fill 4 0 7 1 (2 ∷ []) [] [] (Tokened.give 4))))
    ≡ Tokened.if_unique 0 7 (1 ∷ 2 ∷ []) (1 ∷ 2 ∷ []) 0
    (Tokened.inside 3 (Tokened.give 1) (Tokened.fill 4 0 7 1 (2 ∷ []) [] [] (Tokened.give 4)))
behind_block = refl
