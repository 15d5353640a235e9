-- Where values stand of which some are in registers.
use Rattle.std.proofs.Common.{◌≡◌, ◌≢◌, ◌==◌, ◌⊎◌, ◌<◌, ◌≤◌, ◌+◌, ℕ, suc, List, [], ◌∷◌, Option, Some, None, Bool, true, false, not, cond, refl, sym, ◌∙◌, ap, inl, inr, arith, eq-eqb, length}
use Rattle.std.specs.List.{AllByRecursion, filter}
use Rattle.std.proofs.Math.Nat.{mod-eq_of_lt}
use Rattle.std.proofs.lemmas.Bool.{eqb-true, ne_eqb, cond-true, cond-false, cases_eq, or_cases, or_from, or_right, or_left, false≢true, cases_Bool, cond_both}
use Rattle.rv_isa.specs.declared.register.Register.{Register}
use Rattle.rv_isa.specs.declared.placed.Place.{Place}
use Rattle.rv_isa.specs.declared.placed.Place.TheVariants.{Register as register, Slot as slot}
use Rattle.rv_isa.specs.Conventions.{is_handed_out, one_register, header_register, is_constant_register, is_register, argument}
use Rattle.rv_isa.specs.Frames.{is_among}
use Rattle.rv_isa.specs.PlacedMachine.{number_of}
use Rattle.rv_regs.specs.declared.slots.Loaded.{Loaded}
use Rattle.rv_regs.specs.Conditions.{OnCopy, IsCopyAt, IsHandedOut, may_set}
use Rattle.rv_regs.specs.Plain.{numbered, place_in, copy_in, load_from, alive_params}

-- ---- facts of each element

pub all_weaker : {A : Type 0} (P Q : A → Type 0) (xs : List A) → ((x : A) → P x → Q x) → AllByRecursion P xs → AllByRecursion Q xs
all_weaker P Q [] h all = tt
all_weaker P Q (x ∷ xs) h all = (h x all.0, all_weaker P Q xs h all.1)

pub all_both : {A : Type 0} (P Q R : A → Type 0) (xs : List A) → ((x : A) → P x → Q x → R x) → AllByRecursion P xs → AllByRecursion Q xs → AllByRecursion R xs
all_both P Q R [] h all more = tt
all_both P Q R (x ∷ xs) h all more = (h x all.0 more.0, all_both P Q R xs h all.1 more.1)

pub all_kept : {A : Type 0} (P : A → Type 0) (test : A → Bool) (xs : List A) → AllByRecursion P xs → AllByRecursion P (filter test xs)
all_kept P test [] all = tt
all_kept {A} P test (x ∷ xs) all =
    cond_both (test x) (x ∷ filter test xs) (filter test xs) (λ (ys : List A). AllByRecursion P ys) (λ t. (all.0, all_kept P test xs all.1)) (λ t. all_kept P test xs all.1)

pub all_pass : {A : Type 0} (test : A → Bool) (xs : List A) → AllByRecursion (λ x. test x ≡ true) (filter test xs)
all_pass test [] = tt
all_pass {A} test (x ∷ xs) =
    cond_both (test x) (x ∷ filter test xs) (filter test xs) (λ (ys : List A). AllByRecursion (λ x. test x ≡ true) ys) (λ t. (t, all_pass test xs)) (λ t. all_pass test xs)

-- ---- values and registers that differ

abbrev pub Differ : Loaded → Loaded → Type 0
Differ l m = (l.value ≢ m.value) × (l.register.number ≢ m.register.number)

-- a register that values may have, and moves write
abbrev pub IsLoadable : Register → Type 0
IsLoadable r = IsHandedOut (register r) × (may_set None (register r) ≡ true)

-- each value once, each in another such register
abbrev pub AreLoads : List Loaded → Type 0
AreLoads [] = Unit {0}
AreLoads (l ∷ loaded) = AllByRecursion (Differ l) loaded × (IsLoadable l.register × AreLoads loaded)

abbrev pub AreAmong : List ℕ → List Loaded → Type 0
AreAmong values loaded = AllByRecursion (λ (l : Loaded). is_among l.value values ≡ true) loaded

register_number : (a b : Register) → register a ≡ register b → a.number ≡ b.number
register_number a b e = let s : Some a.number ≡ Some b.number = ap number_of e in cc

pub slot_number : (a b : ℕ) → slot a ≡ slot b → a ≡ b
slot_number a b e = cc

pub no_slot : (r : Register) (k : ℕ) → slot k ≡ register r → ⊥
no_slot r k e = cc

pub place_same : (l : Loaded) (loaded : List Loaded) (v : ℕ) → l.value ≡ v → place_in (l ∷ loaded) v ≡ register l.register
place_same l loaded v e = cond-true (l.value == v) (register l.register) (place_in loaded v) (eq-eqb l.value v e)

pub place_other : (l : Loaded) (loaded : List Loaded) (v : ℕ) → (l.value ≡ v → ⊥) → place_in (l ∷ loaded) v ≡ place_in loaded v
place_other l loaded v ne = cond-false (l.value == v) (register l.register) (place_in loaded v) (ne_eqb l.value v ne)

-- no value stands in another register
pub place_ne : (r : Register) (loaded : List Loaded) (v : ℕ) → AllByRecursion (λ (m : Loaded). r.number ≢ m.register.number) loaded → place_in loaded v ≢ register r
place_ne r [] v all = no_slot r v
place_ne r (m ∷ loaded) v all = go (place_ne r loaded v all.1) (cases_eq m.value v)
  where
    go : (place_in loaded v ≡ register r → ⊥) → (m.value ≡ v) ⊎ (m.value ≡ v → ⊥) → place_in (m ∷ loaded) v ≡ register r → ⊥
    go later (inl same) e = all.0 (sym (register_number m.register r (sym (place_same m loaded v same) ∙ e)))
    go later (inr ne) e = later (sym (place_other m loaded v ne) ∙ e)

-- a value that is not in a register is in its slot
pub place_slot : (v : ℕ) (loaded : List Loaded) → AllByRecursion (λ (m : Loaded). v ≢ m.value) loaded → place_in loaded v ≡ slot v
place_slot v [] all = refl
place_slot v (m ∷ loaded) all = place_other m loaded v (λ e. all.0 (sym e)) ∙ place_slot v loaded all.1

pub differ_registers : (l : Loaded) (loaded : List Loaded) → AllByRecursion (Differ l) loaded → AllByRecursion (λ (m : Loaded). l.register.number ≢ m.register.number) loaded
differ_registers l loaded all = all_weaker (Differ l) (λ (m : Loaded). l.register.number ≢ m.register.number) loaded (λ m d. d.1) all

pub differ_values : (l : Loaded) (loaded : List Loaded) → AllByRecursion (Differ l) loaded → AllByRecursion (λ (m : Loaded). l.value ≢ m.value) loaded
differ_values l loaded all = all_weaker (Differ l) (λ (m : Loaded). l.value ≢ m.value) loaded (λ m d. d.0) all

-- two values at one place are one
pub places_apart : (loaded : List Loaded) → AreLoads loaded → (u v : ℕ) → place_in loaded u ≡ place_in loaded v → u ≡ v
places_apart [] are u v e = slot_number u v e
places_apart (l ∷ loaded) are u v e = go (places_apart loaded are.1.1 u v) (cases_eq l.value u) (cases_eq l.value v)
  where
    free : (w : ℕ) → place_in loaded w ≢ register l.register
    free w = place_ne l.register loaded w (differ_registers l loaded are.0)

    go : (place_in loaded u ≡ place_in loaded v → u ≡ v) → (l.value ≡ u) ⊎ (l.value ≡ u → ⊥) → (l.value ≡ v) ⊎ (l.value ≡ v → ⊥) → u ≡ v
    go later (inl a) (inl b) = sym a ∙ b
    go later (inl a) (inr b) = absurd (free v (sym (place_other l loaded v b) ∙ sym e ∙ place_same l loaded u a))
    go later (inr a) (inl b) = absurd (free u (sym (place_other l loaded u a) ∙ e ∙ place_same l loaded v b))
    go later (inr a) (inr b) = later (sym (place_other l loaded u a) ∙ e ∙ place_other l loaded v b)

-- values stand where values may
pub places_handed : (loaded : List Loaded) (v : ℕ) → AreLoads loaded → IsHandedOut (place_in loaded v)
places_handed [] v are = tt
places_handed (l ∷ loaded) v are =
    cond_both (l.value == v) (register l.register) (place_in loaded v) IsHandedOut (λ t. are.1.0.0) (λ t. places_handed loaded v are.1.1)

-- ---- some of the loads

pub loads_kept : (test : Loaded → Bool) (loaded : List Loaded) → AreLoads loaded → AreLoads (filter test loaded)
loads_kept test [] are = tt
loads_kept test (l ∷ loaded) are =
    cond_both (test l) (l ∷ filter test loaded) (filter test loaded) AreLoads
    (λ t. (all_kept (Differ l) test loaded are.0, (are.1.0, loads_kept test loaded are.1.1))) (λ t. loads_kept test loaded are.1.1)

kept_step : (l : Loaded) (kept loaded : List Loaded) (u : ℕ) (b : Bool) → (l.value ≡ u → b ≡ true) → place_in kept u ≡ place_in loaded u → place_in (cond b (l ∷ kept) kept) u ≡ place_in (l ∷ loaded) u
kept_step l kept loaded u true same later = ap (λ (p : Place). cond (l.value == u) (register l.register) p) later
kept_step l kept loaded u false same later = later ∙ sym (place_other l loaded u (λ e. false≢true (same e)))

-- a value that passes stands where it stood
pub place_kept : (test : ℕ → Bool) (loaded : List Loaded) (u : ℕ) → test u ≡ true → place_in (filter (λ (l : Loaded). test l.value) loaded) u ≡ place_in loaded u
place_kept test [] u t = refl
place_kept test (l ∷ loaded) u t =
    kept_step l (filter (λ (m : Loaded). test m.value) loaded) loaded u (test l.value) (λ e. ap test e ∙ t) (place_kept test loaded u t)

-- the parameters that are alive
pub params_among : (params alive : List ℕ) → AreAmong alive (alive_params params alive)
params_among params alive = all_pass (λ (l : Loaded). is_among l.value alive) (load_from (argument 0) params)

-- ---- copies

pub copy_same : (l : Loaded) (loaded : List Loaded) (v : ℕ) → l.value ≡ v → copy_in (l ∷ loaded) v ≡ Some l.register
copy_same l loaded v e = cond-true (l.value == v) (Some l.register) (copy_in loaded v) (eq-eqb l.value v e)

pub copy_other : (l : Loaded) (loaded : List Loaded) (v : ℕ) → (l.value ≡ v → ⊥) → copy_in (l ∷ loaded) v ≡ copy_in loaded v
copy_other l loaded v ne = cond-false (l.value == v) (Some l.register) (copy_in loaded v) (ne_eqb l.value v ne)

-- a value that is not in a register has no copy
pub copy_none : (v : ℕ) (loaded : List Loaded) → AllByRecursion (λ (m : Loaded). v ≢ m.value) loaded → copy_in loaded v ≡ None
copy_none v [] all = refl
copy_none v (m ∷ loaded) all = copy_other m loaded v (λ e. all.0 (sym e)) ∙ copy_none v loaded all.1

-- copies are where values may be
pub copies_handed : (loaded : List Loaded) (v : ℕ) → AreLoads loaded → OnCopy IsHandedOut (copy_in loaded v)
copies_handed [] v are = tt
copies_handed (l ∷ loaded) v are =
    cond_both (l.value == v) (Some l.register) (copy_in loaded v) (OnCopy IsHandedOut) (λ t. are.1.0.0) (λ t. copies_handed loaded v are.1.1)

-- no copy is in another register
pub copy_ne : (r : Register) (loaded : List Loaded) (v : ℕ) → AllByRecursion (λ (m : Loaded). r.number ≢ m.register.number) loaded → OnCopy (λ place. register r ≢ place) (copy_in loaded v)
copy_ne r [] v all = tt
copy_ne r (m ∷ loaded) v all =
    cond_both (m.value == v) (Some m.register) (copy_in loaded v) (OnCopy (λ place. register r ≢ place)) (λ t e. all.0 (register_number r m.register e)) (λ t. copy_ne r loaded v all.1)

stands_step : (r : Register) (copy : Option Register) (place : Place) (v : ℕ) (b : Bool) → (slot v ≡ place) ⊎ IsCopyAt copy place
    → (slot v ≡ cond b (register r) place) ⊎ IsCopyAt (cond b (Some r) copy) (cond b (register r) place)
stands_step r copy place v true stands = inr refl
stands_step r copy place v false stands = stands

-- a value is read in its slot, or in the register of its copy
pub stands_in : (loaded : List Loaded) (v : ℕ) → (slot v ≡ place_in loaded v) ⊎ IsCopyAt (copy_in loaded v) (place_in loaded v)
stands_in [] v = inl refl
stands_in (l ∷ loaded) v = stands_step l.register (copy_in loaded v) (place_in loaded v) v (l.value == v) (stands_in loaded v)

-- ---- the loads of values into registers in a row

pub load_values : (P : ℕ → Type 0) (n : ℕ) (vs : List ℕ) → ((v : ℕ) → is_among v vs ≡ true → P v) → AllByRecursion (λ (l : Loaded). P l.value) (load_from n vs)
load_values P n [] h = tt
load_values P n (v ∷ vs) h =
    let later = load_values P (suc n) vs (λ u t. h u (or_right (v == u) (is_among u vs) t)) in
    cond_both (is_among v vs) (load_from (suc n) vs) (record { value = v; register = numbered n } ∷ load_from (suc n) vs) (λ (ls : List Loaded). AllByRecursion (λ (l : Loaded). P l.value) ls)
    (λ t. later) (λ t. (h v (or_left (v == v) (is_among v vs) (eq-eqb v v refl)), later))

pub load_numbers : (P : ℕ → Type 0) (n : ℕ) (vs : List ℕ) → ((k : ℕ) → n ≤ k → k < n + length vs → P ((numbered k).number)) → AllByRecursion (λ (l : Loaded). P l.register.number) (load_from n vs)
load_numbers P n [] h = tt
load_numbers P n (v ∷ vs) h =
    let later = load_numbers P (suc n) vs (λ k low high. h k (omega arith) (omega arith)) in
    cond_both (is_among v vs) (load_from (suc n) vs) (record { value = v; register = numbered n } ∷ load_from (suc n) vs) (λ (ls : List Loaded). AllByRecursion (λ (l : Loaded). P l.register.number) ls)
    (λ t. later) (λ t. (h n (omega arith) (omega arith), later))

pub number_is : (n : ℕ) → n < 32 → (numbered n).number ≡ n
number_is n small = mod-eq_of_lt small

numbers_differ : (n k : ℕ) → k < 32 → suc n ≤ k → (numbered n).number ≢ (numbered k).number
numbers_differ n k small less e = omega (arith, number_is n (omega arith), number_is k small, e)

-- no register from x4 to x19 holds a word always
is_variable : (x : ℕ) → 4 ≤ x → x < header_register → is_constant_register x ≡ false
is_variable x low high =
    or_from (0 == x) _ (ne_eqb 0 x (λ e. omega (arith, e)))
    (or_from (one_register == x) _ (ne_eqb one_register x (λ e. omega (arith, e)))
    (or_from (header_register == x) false (ne_eqb header_register x (λ e. omega (arith, e))) refl))

pub loads_are : (n : ℕ) (vs : List ℕ) → 4 ≤ n → n + length vs ≤ header_register → ((k : ℕ) → n ≤ k → k < n + length vs → is_handed_out k ≡ true) → AreLoads (load_from n vs)
loads_are n [] high few handed = tt
loads_are n (v ∷ vs) high few handed =
    let later = loads_are (suc n) vs (omega arith) (omega arith) (λ k low high. handed k (omega arith) (omega arith)) in
    let l : Loaded = record { value = v; register = numbered n } in
    cond_both (is_among v vs) (load_from (suc n) vs) (l ∷ load_from (suc n) vs) AreLoads (λ t. later)
    (λ t. (
      all_both (λ (m : Loaded). v ≢ m.value) (λ (m : Loaded). (numbered n).number ≢ m.register.number) (Differ l) (load_from (suc n) vs) (λ m a b. (a, b))
          (load_values (λ u. v ≢ u) (suc n) vs (λ u there same. false≢true (sym t ∙ ap (λ w. is_among w vs) same ∙ there)))
          (load_numbers (λ k. (numbered n).number ≢ k) (suc n) vs (λ k low high. numbers_differ n k (omega arith) low)),
      ((ap is_handed_out (number_is n (omega arith)) ∙ handed n (omega arith) (omega arith), ap not (is_variable (numbered n).number (omega (arith, number_is n (omega arith))) (omega (arith, number_is n (omega arith))))), later),
    ))

pub once_loaded : (n v : ℕ) (vs : List ℕ) → is_among v vs ≡ false → load_from n (v ∷ vs) ≡ record { value = v; register = numbered n } ∷ load_from (suc n) vs
once_loaded n v vs once = cond-false (is_among v vs) (load_from (suc n) vs) (record { value = v; register = numbered n } ∷ load_from (suc n) vs) once

-- a value that is not loaded is in its slot
pub place_unloaded : (n : ℕ) (vs : List ℕ) (v : ℕ) → is_among v vs ≡ false → place_in (load_from n vs) v ≡ slot v
place_unloaded n vs v none =
    place_slot v (load_from n vs) (load_values (λ u. v ≢ u) n vs (λ u there same. false≢true (sym none ∙ ap (λ w. is_among w vs) same ∙ there)))

-- one that is loaded is in a register
pub place_loaded : (n : ℕ) (vs : List ℕ) (v : ℕ) → is_among v vs ≡ true → is_register (place_in (load_from n vs) v) ≡ true
place_loaded n [] v there = absurd (false≢true there)
place_loaded n (x ∷ xs) v there = go (place_loaded (suc n) xs v) (cases_Bool (is_among x xs)) (or_cases (x == v) (is_among v xs) there)
  where
    l : Loaded
    l = record { value = x; register = numbered n }

    loaded : (b : Bool) → is_among x xs ≡ b → place_in (load_from n (x ∷ xs)) v ≡ place_in (cond b (load_from (suc n) xs) (l ∷ load_from (suc n) xs)) v
    loaded b e = ap (λ (c : Bool). place_in (cond c (load_from (suc n) xs) (l ∷ load_from (suc n) xs)) v) e

    go : (is_among v xs ≡ true → is_register (place_in (load_from (suc n) xs) v) ≡ true) → (is_among x xs ≡ true) ⊎ (is_among x xs ≡ false) → ((x == v) ≡ true) ⊎ (is_among v xs ≡ true)
        → is_register (place_in (load_from n (x ∷ xs)) v) ≡ true
    go later (inl again) (inl same) = ap is_register (loaded true again) ∙ later (ap (λ w. is_among w xs) (sym (eqb-true x v same)) ∙ again)
    go later (inl again) (inr there') = ap is_register (loaded true again) ∙ later there'
    go later (inr once) (inl same) = ap is_register (loaded false once ∙ place_same l (load_from (suc n) xs) v (eqb-true x v same))
    go later (inr once) (inr there') =
        ap is_register (loaded false once ∙ place_other l (load_from (suc n) xs) v (λ e. false≢true (sym once ∙ ap (λ w. is_among w xs) e ∙ there'))) ∙ later there'
