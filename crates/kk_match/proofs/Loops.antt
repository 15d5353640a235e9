-- What a loop has made of the items that it has read, and what comes of those that are left.
use Rattle.std.proofs.Common.{◌≡◌, ℕ, ◌+◌, ◌<◌, List, [], ◌∷◌, ◌++◌, map, drop, get_or, length, sym, ap, ◌∙◌, append_assoc}
use Rattle.std.proofs.lemmas.List.{at_drop_more, map-append}

-- the next of the items that are left
pub left_at : {X Y : Type 0} (of : List X → Y) (xs : List X) (i : ℕ) (x : X) → x ≡ get_or xs i x → i < length xs
    → of (drop i xs) ≡ of (x ∷ drop (i + 1) xs)
left_at of xs i x is less = at_drop_more of xs i x less ∙ ap (λ y. of (y ∷ drop (i + 1) xs)) (sym is)

-- one more is made of it
pub one_made : {A C : Type 0} (view : A → C) (made more : List A) (one : A) (next : C) (left later whole : List C)
    → more ≡ made ++ one ∷ [] → view one ≡ next → left ≡ next ∷ later → map view made ++ left ≡ whole → map view more ++ later ≡ whole
one_made {A = A} {C = C} view made more one next left later whole is same rest before =
    ap (λ (l : List A). map view l ++ later) is
    ∙ (ap (λ (l : List C). l ++ later) (map-append view made (one ∷ []))
    ∙ (append_assoc (map view made) (view one ∷ []) later
    ∙ (ap (λ (c : C). map view made ++ c ∷ later) same
    ∙ (ap (λ (l : List C). map view made ++ l) (sym rest) ∙ before))))
