-- What holds of each of the rows that are kept, from what holds of each row, and back.
use Rattle.std.proofs.Common.{◌≡◌, ◌≤◌, Bool, true, false, List, [], ◌∷◌, ◌++◌, length, Option, None, Some, refl, arith}
use Rattle.std.proofs.lemmas.Bool.{both_ways}
use Rattle.kk_syntax.specs.Covered.{Each}
use Rattle.kk_slots.specs.Narrowing.{if_so, kept, each_kept}

abbrev pub IfKept : {X : Type 0} → Option X → (X → Type 0) → Type 0
IfKept None P = Unit {0}
IfKept (Some x) P = P x

pub kept_with : {X : Type 0} (o : Option X) (xs : List X) (P : X → Type 0) → IfKept o P → Each P xs → Each P (kept o xs)
kept_with None xs P a b = b
kept_with (Some x) xs P a b = (a, b)

pub kept_first : {X : Type 0} (o : Option X) (xs : List X) (P : X → Type 0) → Each P (kept o xs) → IfKept o P
kept_first None xs P a = tt
kept_first (Some x) xs P a = a.0

pub kept_rest : {X : Type 0} (o : Option X) (xs : List X) (P : X → Type 0) → Each P (kept o xs) → Each P xs
kept_rest None xs P a = a
kept_rest (Some x) xs P a = a.1

pub each_from : {X : Type 0} (f : X → Option X) (P R : X → Type 0) → ((x : X) → R x → IfKept (f x) P) → (xs : List X) → Each R xs → Each P (each_kept f xs)
each_from f P R h [] a = tt
each_from f P R h (x ∷ xs) a = kept_with (f x) (each_kept f xs) P (h x a.0) (each_from f P R h xs a.1)

pub each_to : {X : Type 0} (f : X → Option X) (P Q R : X → Type 0) → ((x : X) → R x → IfKept (f x) P → Q x) → (xs : List X) → Each R xs → Each P (each_kept f xs) → Each Q xs
each_to f P Q R h [] a b = tt
each_to f P Q R h (x ∷ xs) a b = (h x a.0 (kept_first (f x) (each_kept f xs) P b), each_to f P Q R h xs a.1 (kept_rest (f x) (each_kept f xs) P b))

pub each_both : {X : Type 0} (P Q : X → Type 0) (xs : List X) → Each P xs → Each Q xs → Each (λ x. P x × Q x) xs
each_both P Q [] a b = tt
each_both P Q (x ∷ xs) a b = ((a.0, b.0), each_both P Q xs a.1 b.1)

pub if_so_from : {X : Type 0} (b : Bool) (x : X) (P : X → Type 0) → (b ≡ true → P x) → IfKept (if_so b x) P
if_so_from true x P h = h refl
if_so_from false x P h = tt

pub if_so_to : {X : Type 0} (b : Bool) (x : X) (P : X → Type 0) → b ≡ true → IfKept (if_so b x) P → P x
if_so_to true x P e a = a
if_so_to false x P e a = absurd (both_ways false refl e)

pub each-append : {X : Type 0} (P : X → Type 0) (xs ys : List X) → Each P xs → Each P ys → Each P (xs ++ ys)
each-append P [] ys a b = b
each-append P (x ∷ xs) ys a b = (a.0, each-append P xs ys a.1 b)

pub each_front : {X : Type 0} (P : X → Type 0) (xs ys : List X) → Each P (xs ++ ys) → Each P xs
each_front P [] ys a = tt
each_front P (x ∷ xs) ys a = (a.0, each_front P xs ys a.1)

pub each_back : {X : Type 0} (P : X → Type 0) (xs ys : List X) → Each P (xs ++ ys) → Each P ys
each_back P [] ys a = a
each_back P (x ∷ xs) ys a = each_back P xs ys a.1

pub kept_few : {X : Type 0} (f : X → Option X) (xs : List X) → length (each_kept f xs) ≤ length xs
kept_few f [] = omega arith
kept_few {X} f (x ∷ xs) = by (f x) (kept_few f xs)
  where
    by : (o : Option X) → length (each_kept f xs) ≤ length xs → length (kept o (each_kept f xs)) ≤ length (x ∷ xs)
    by None le = omega (arith, le)
    by (Some y) le = omega (arith, le)
