-- Listings of values, and words at places.
use Rattle.std.proofs.Common.{◌≡◌, ◌≢◌, ◌==◌, ◌⊎◌, ℕ, List, [], ◌∷◌, Option, Some, None, Bool, true, false, cond, All, refl, sym, ◌∙◌, ap, subst, inl, inr, eq-eqb}
use Rattle.std.proofs.lemmas.Bool.{eqb-true, ne_eqb, cond-true, cond-false, cases_eq}
use Rattle.std.proofs.lemmas.List.Elements.{All-head, All-tail}
use Rattle.rv_isa.proofs.RangeEquality.{same_register}
use Rattle.rv_isa.specs.declared.register.Register.{Register}
use Rattle.rv_isa.specs.declared.placed.Place.{Place}
use Rattle.rv_isa.specs.declared.placed.Place.TheVariants.{Register as register, Slot as slot}
use Rattle.rv_isa.specs.declared.placed.Listed.{Listed}
use Rattle.rv_isa.specs.Frames.{put}
use Rattle.rv_isa.specs.PlacedMachine.{read_at, registers_with, slots_with}
use Rattle.rv_regs.specs.Listings.{listed_as}
use Rattle.rv_regs.specs.Conditions.{OnCopy, AtBoth, IsCopyAt, StandsAt, AreApart, Apart}

listed_step : (P : Listed → Type 0) (x : Listed) (rest : Option Listed) (v : ℕ) (l : Listed) (b : Bool) → P x → (x.value == v) ≡ b
    → (rest ≡ Some l → P l × (l.value ≡ v)) → cond b (Some x) rest ≡ Some l → P l × (l.value ≡ v)
listed_step P x rest v l true p t later e = let same : x ≡ l = cc in (subst P same p, subst (λ (y : Listed). y.value ≡ v) same (eqb-true x.value v t))
listed_step P x rest v l false p t later e = later e

-- what holds of each listing holds of the listing of a value, which is of that value
pub listed_has : (P : Listed → Type 0) (alive : List Listed) (v : ℕ) (l : Listed) → All P alive → listed_as v alive ≡ Some l → P l × (l.value ≡ v)
listed_has P [] v l all e = cc
listed_has P (x ∷ xs) v l all e =
    listed_step P x (listed_as v xs) v l (x.value == v) (All-head P x xs all) refl (listed_has P xs v l (All-tail P x xs all)) e

both_step : (x l m : Listed) (xs : List Listed) (v w : ℕ) (a b : Bool) → (x.value == v) ≡ a → (x.value == w) ≡ b → All (AreApart x) xs
    → (listed_as v xs ≡ Some l → listed_as w xs ≡ Some m → v ≡ w)
    → cond a (Some x) (listed_as v xs) ≡ Some l → cond b (Some x) (listed_as w xs) ≡ Some m → l.place ≡ m.place → v ≡ w
both_step x l m xs v w true true t u apart later e d same = sym (eqb-true x.value v t) ∙ eqb-true x.value w u
both_step x l m xs v w true false t u apart later e d same =
    let first : x ≡ l = cc in
    absurd ((listed_has (AreApart x) xs w m apart d).0.1 (ap (λ (y : Listed). y.place) first ∙ same))
both_step x l m xs v w false true t u apart later e d same =
    let first : x ≡ m = cc in
    absurd ((listed_has (AreApart x) xs v l apart e).0.1 (ap (λ (y : Listed). y.place) first ∙ sym same))
both_step x l m xs v w false false t u apart later e d same = later e d

-- two values at one place are one
pub one_place : (alive : List Listed) (v w : ℕ) (l m : Listed) → Apart alive → listed_as v alive ≡ Some l → listed_as w alive ≡ Some m → l.place ≡ m.place → v ≡ w
one_place [] v w l m apart e d same = cc
one_place (x ∷ xs) v w l m apart e d same =
    both_step x l m xs v w (x.value == v) (x.value == w) refl refl apart.0 (λ e' d'. one_place xs v w l m apart.1 e' d' same) e d same

pub put_same : (x : ℕ) (w : Option ℕ) (f : ℕ → Option ℕ) → put x w f x ≡ w
put_same x w f = cond-true (x == x) w (f x) (eq-eqb x x refl)

pub put_other : (x : ℕ) (w : Option ℕ) (f : ℕ → Option ℕ) (y : ℕ) → (y ≡ x → ⊥) → put x w f y ≡ f y
put_other x w f y ne = cond-false (y == x) w (f y) (ne_eqb y x ne)

-- the word that was written at a place is there
pub read_put : (place : Place) (w : Option ℕ) (registers slots : ℕ → Option ℕ) → read_at (registers_with place w registers) (slots_with place w slots) place ≡ w
read_put (register r) w registers slots = put_same r.number w registers
read_put (slot k) w registers slots = put_same k w slots

-- and other places are as before
pub read_other : (place other : Place) (w : Option ℕ) (registers slots : ℕ → Option ℕ) → place ≢ other
    → read_at (registers_with place w registers) (slots_with place w slots) other ≡ read_at registers slots other
read_other (register r) (register s) w registers slots ne = put_other r.number w registers s.number (λ e. ne (ap (λ (x : Register). register x) (same_register r s (sym e))))
read_other (register r) (slot k) w registers slots ne = refl
read_other (slot j) (register s) w registers slots ne = refl
read_other (slot j) (slot k) w registers slots ne = put_other j w slots k (λ e. ne (ap (λ (x : ℕ). slot x) (sym e)))

-- ---- copies

-- what holds of each register holds of a copy's
pub on_copy : (P : Place → Type 0) (copy : Option Register) → ((r : Register) → P (register r)) → OnCopy P copy
on_copy P None all = tt
on_copy P (Some r) all = all r

-- what follows in each register follows in a copy's
pub on_copy_then : (P Q : Place → Type 0) (copy : Option Register) → ((r : Register) → P (register r) → Q (register r)) → OnCopy P copy → OnCopy Q copy
on_copy_then P Q None next p = tt
on_copy_then P Q (Some r) next p = next r p

pub on_copy_both : (P Q R : Place → Type 0) (copy : Option Register) → ((r : Register) → P (register r) → Q (register r) → R (register r)) → OnCopy P copy → OnCopy Q copy → OnCopy R copy
on_copy_both P Q R None next p q = tt
on_copy_both P Q R (Some r) next p q = next r p q

-- a place is a register or is none
pub is_or_not : (r : Register) (place : Place) → (place ≡ register r) ⊎ (register r ≢ place)
is_or_not r (slot k) = inr (λ e. cc e)
is_or_not r (register s) = go (cases_eq s.number r.number)
  where
    go : (s.number ≡ r.number) ⊎ (s.number ≡ r.number → ⊥) → (register s ≡ register r) ⊎ (register r ≢ register s)
    go (inl same) = inl (ap (λ (x : Register). register x) (same_register s r same))
    go (inr other) = inr (λ e. let back : r ≡ s = cc in other (ap (λ (x : Register). x.number) (sym back)))

-- a value without a copy stands at its place alone
pub at_one : (P : Place → Type 0) (l : Listed) → l.copy ≡ None → P l.place → AtBoth P l
at_one P l none here = (here, subst (OnCopy P) (sym none) tt)

copy_has : (P : Place → Type 0) (copy : Option Register) (place : Place) → OnCopy P copy → IsCopyAt copy place → P place
copy_has P None place all at = absurd at
copy_has P (Some r) place all at = subst P at all

-- what holds where a value stands holds of the place where it is read
pub stands_has : (P : Place → Type 0) (l : Listed) (place : Place) → AtBoth P l → StandsAt place l → P place
stands_has P l place both (inl at) = subst P at both.0
stands_has P l place both (inr at) = copy_has P l.copy place both.1 at

copy_no_slot : (copy : Option Register) (place : Place) (k : ℕ) → IsCopyAt copy place → place ≡ slot k → ⊥
copy_no_slot None place k at is = at
copy_no_slot (Some r) place k at is = let none : register r ≡ slot k = at ∙ is in cc none

-- what is read in a slot is listed there
pub stands_slot : (l : Listed) (place : Place) (k : ℕ) → StandsAt place l → place ≡ slot k → l.place ≡ slot k
stands_slot l place k (inl at) is = at ∙ is
stands_slot l place k (inr at) is = absurd (copy_no_slot l.copy place k at is)
