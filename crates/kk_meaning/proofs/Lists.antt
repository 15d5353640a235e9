-- The front of a list, and what a loop makes of one.
use Rattle.std.proofs.Common.{◌≡◌, ℕ, ◌+◌, ◌<◌, List, [], ◌∷◌, ◌++◌, refl, sym, ap, ◌∙◌, append_assoc, get_or, map, take, drop, length, zero, suc, arith}
use Rattle.std.proofs.lemmas.List.{at_drop_more, map-append}

-- the front of a list, by its length
pub front_again : {X : Type 0} (xs ys zs : List X) (n : ℕ) → n ≡ length xs → zs ≡ xs ++ ys → take n zs ≡ xs
front_again xs ys zs n len is = ap (take n) is ∙ front xs ys n len
  where
    front : {X : Type 0} (xs ys : List X) (n : ℕ) → n ≡ length xs → take n (xs ++ ys) ≡ xs
    front [] ys zero len = by_list ys
      where
        by_list : {X : Type 0} (ys : List X) → take zero ys ≡ []
        by_list [] = refl
        by_list (y ∷ ys) = refl
    front [] ys (suc n) len = absurd (omega arith)
    front (x ∷ xs) ys zero len = absurd (omega arith)
    front {X = X} (x ∷ xs) ys (suc n) len = ap (λ (l : List X). x ∷ l) (front xs ys n (omega arith))

-- a loop has made one more, seen as what comes of the next one that it reads
pub one_made : {A B C : Type 0} (view : A → C) (look : B → C) (made more : List A) (xs : List B) (i : ℕ) (one : A) (d : B) (whole : List C)
    → i < length xs → more ≡ made ++ one ∷ [] → view one ≡ look (get_or xs i d)
    → map view made ++ map look (drop i xs) ≡ whole → map view more ++ map look (drop (i + 1) xs) ≡ whole
one_made {A = A} {C = C} view look made more xs i one d whole less is same before =
    let later : List C = map look (drop (i + 1) xs) in
    ap (λ (l : List A). map view l ++ later) is
    ∙ (ap (λ (l : List C). l ++ later) (map-append view made (one ∷ []))
    ∙ (append_assoc (map view made) (view one ∷ []) later
    ∙ (ap (λ (y : C). map view made ++ y ∷ later) same
    ∙ (ap (λ (l : List C). map view made ++ l) (sym (at_drop_more (map look) xs i d less)) ∙ before))))
