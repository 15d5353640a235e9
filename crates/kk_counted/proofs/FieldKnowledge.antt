-- What is known of tokens: the fields of a token's cell are the values of variables.
use Rattle.std.proofs.Common.{◌≡◌, ◌⊎◌, inl, inr, ℕ, suc, ◌==◌, ◌&&◌, Bool, true, false, not, List, [], ◌∷◌, map, length, arith, refl, sym, ap, ◌∙◌, subst}
use Rattle.std.specs.Prelude.{if◌then◌else◌, filter}
use Rattle.kk_syntax.specs.Shapes.{is_among}
use Rattle.kk_source.specs.State.{Value, Environment}
use Rattle.kk_source.specs.Live.{value_of}
use Rattle.kk_core.specs.CoreMachine.{bind_fields}
use Rattle.kk_counted.specs.Heaps.{Heap, fields_held}
use Rattle.kk_counted.specs.Tokens.{Slot, token}
use Rattle.kk_counted.specs.TokenMachine.{left_in, filled}
use Rattle.kk_counted.specs.KeptFields.{KnownFields, fields_in, forget_slot, forget_variable, forget_variables, are_apart, known_opened, KeepsKnown}
use Rattle.kk_counted.proofs.CountChanges.{same}
use Rattle.kk_counted.proofs.Variables.{value_new, values_fresh, field_past}

-- ---- one state

-- what is said of a slot is true: where it has a token, the fields of its cell are the values of the variables
abbrev pub IsTrue : (ℕ → Slot) → Heap → Environment → KnownFields → Type 0
IsTrue slots heap environment one =
    (p : ℕ) → slots one.slot ≡ token p → fields_held heap p ≡ map (value_of environment) one.fields

abbrev pub AreTrue : (ℕ → Slot) → Heap → Environment → List KnownFields → Type 0
AreTrue slots heap environment [] = Unit {0}
AreTrue slots heap environment (one ∷ known) = IsTrue slots heap environment one × AreTrue slots heap environment known

-- what passes a test stays true, where each one that does stays so
pub still_true : (slots others : ℕ → Slot) (heap after : Heap) (environment bound : Environment) (test : KnownFields → Bool)
    (known : List KnownFields)
    → ((one : KnownFields) → test one ≡ true → IsTrue slots heap environment one → IsTrue others after bound one)
    → AreTrue slots heap environment known → AreTrue others after bound (filter test known)
still_true slots others heap after environment bound test [] each are = tt
still_true slots others heap after environment bound test (one ∷ known) each are =
    by_test (test one) refl (still_true slots others heap after environment bound test known each are.1)
  where
    by_test : (t : Bool) → test one ≡ t → AreTrue others after bound (filter test known)
        → AreTrue others after bound (if t then one ∷ filter test known else filter test known)
    by_test true is rest = (each one is are.0, rest)
    by_test false is rest = rest

-- all stays true, where each one does
pub all_true : (slots others : ℕ → Slot) (heap after : Heap) (environment bound : Environment) (known : List KnownFields)
    → ((one : KnownFields) → IsTrue slots heap environment one → IsTrue others after bound one)
    → AreTrue slots heap environment known → AreTrue others after bound known
all_true slots others heap after environment bound [] each are = tt
all_true slots others heap after environment bound (one ∷ known) each are =
    (each one are.0, all_true slots others heap after environment bound known each are.1)

-- another heap and other slots of a frame: what has a token had it before, and its cell has the same fields
abbrev pub Carries : (ℕ → Slot) → Heap → (ℕ → Slot) → Heap → Type 0
Carries slots heap others after =
    (z p : ℕ) → others z ≡ token p → (slots z ≡ token p) × (fields_held after p ≡ fields_held heap p)

pub carried : (slots others : ℕ → Slot) (heap after : Heap) (environment : Environment) (known : List KnownFields)
    → Carries slots heap others after → AreTrue slots heap environment known → AreTrue others after environment known
carried slots others heap after environment known carries are =
    all_true slots others heap after environment environment known
    (λ one true_is p is. (carries one.slot p is).1 ∙ true_is p (carries one.slot p is).0) are

-- ---- variables

not_true : (t : Bool) → not t ≡ true → t ≡ false
not_true true is = absurd (cc)
not_true false is = refl

pub bound_true : (slots : ℕ → Slot) (heap : Heap) (environment : Environment) (x : ℕ) (v : Value) (known : List KnownFields)
    → AreTrue slots heap environment known
    → AreTrue slots heap (record { variable = x; value = v } ∷ environment) (forget_variable x known)
bound_true slots heap environment x v known are =
    still_true slots slots heap heap environment (record { variable = x; value = v } ∷ environment)
    (λ one. not (is_among one.fields x)) known
    (λ one passes true_is p is. true_is p is ∙ sym (values_fresh x v environment one.fields
    (not_true (is_among one.fields x) passes))) are

-- what is forgotten besides is no loss
fewer_true : (slots : ℕ → Slot) (heap : Heap) (environment : Environment) (xs : List ℕ) (known : List KnownFields)
    → AreTrue slots heap environment known → AreTrue slots heap environment (forget_variables xs known)
fewer_true slots heap environment [] known are = are
fewer_true slots heap environment (x ∷ xs) known are =
    fewer_true slots heap environment xs (forget_variable x known)
    (still_true slots slots heap heap environment environment (λ one. not (is_among one.fields x)) known
    (λ one passes true_is. true_is) are)

pub fields_true : (slots : ℕ → Slot) (heap : Heap) (environment : Environment) (xs : List ℕ) (vs : List Value)
    (known : List KnownFields)
    → AreTrue slots heap environment known → AreTrue slots heap (bind_fields xs vs environment) (forget_variables xs known)
fields_true slots heap environment [] vs known are = are
fields_true slots heap environment (x ∷ xs) [] known are = fewer_true slots heap environment (x ∷ xs) known are
fields_true slots heap environment (x ∷ xs) (v ∷ vs) known are =
    fields_true slots heap (record { variable = x; value = v } ∷ environment) xs vs (forget_variable x known)
    (bound_true slots heap environment x v known are)

and_first : (a b : Bool) → (if a then b else false) ≡ true → a ≡ true
and_first true b is = refl
and_first false b is = absurd (cc)

-- fields that are apart have the values to which they are bound
pub values_bound : (xs : List ℕ) (vs : List Value) (environment : Environment) → are_apart xs ≡ true → length vs ≡ length xs
    → map (value_of (bind_fields xs vs environment)) xs ≡ vs
values_bound [] [] environment apart many = refl
values_bound [] (v ∷ vs) environment apart many = absurd (omega (arith, many))
values_bound (x ∷ xs) [] environment apart many = absurd (omega (arith, many))
values_bound (x ∷ xs) (v ∷ vs) environment apart many =
    by_test (is_among xs x) refl apart
    (λ rest. values_bound xs vs (record { variable = x; value = v } ∷ environment) rest (omega (arith, many)))
  where
    by_test : (t : Bool) → is_among xs x ≡ t → (not t && are_apart xs) ≡ true
        → (are_apart xs ≡ true → map (value_of (bind_fields xs vs (record { variable = x; value = v } ∷ environment))) xs ≡ vs)
        → value_of (bind_fields xs vs (record { variable = x; value = v } ∷ environment)) x
        ∷ map (value_of (bind_fields xs vs (record { variable = x; value = v } ∷ environment))) xs ≡ v ∷ vs
    by_test true is apart later = absurd (cc)
    by_test false is apart later =
        ap (λ w. w ∷ map (value_of (bind_fields xs vs (record { variable = x; value = v } ∷ environment))) xs)
        (field_past xs vs (record { variable = x; value = v } ∷ environment) x is ∙ value_new x v environment)
        ∙ ap (λ ws. v ∷ ws) (later apart)

-- ---- slots

apart_slots : (y z : ℕ) → not (z == y) ≡ true → (z == y) ≡ false
apart_slots y z is = not_true (z == y) is

-- a slot changes
pub forgotten : (slots others : ℕ → Slot) (heap after : Heap) (environment : Environment) (y : ℕ) (known : List KnownFields)
    → ((z p : ℕ) → (z == y) ≡ false → others z ≡ token p → (slots z ≡ token p) × (fields_held after p ≡ fields_held heap p))
    → AreTrue slots heap environment known → AreTrue others after environment (forget_slot y known)
forgotten slots others heap after environment y known carries are =
    still_true slots others heap after environment environment (λ one. not (one.slot == y)) known
    (λ one passes true_is p is.
    (carries one.slot p (apart_slots y one.slot passes) is).1
    ∙ true_is p (carries one.slot p (apart_slots y one.slot passes) is).0) are

-- ---- openings

-- the slot gets a cell whose fields are those to which the variables are bound, or no token
pub opened_true : (slots others : ℕ → Slot) (heap after : Heap) (environment : Environment) (fields : List ℕ) (vs : List Value)
    (y : ℕ) (known : List KnownFields)
    → ((z p : ℕ) → (z == y) ≡ false → others z ≡ token p → (slots z ≡ token p) × (fields_held after p ≡ fields_held heap p))
    → ((p : ℕ) → others y ≡ token p → fields_held after p ≡ vs)
    → length vs ≡ length fields
    → AreTrue slots heap environment known
    → AreTrue others after (bind_fields fields vs environment) (known_opened fields y known)
opened_true slots others heap after environment fields vs y known carries new many are = by_test (are_apart fields) refl
  where
    rest : AreTrue others after (bind_fields fields vs environment) (forget_slot y (forget_variables fields known))
    rest =
        forgotten slots others heap after (bind_fields fields vs environment) y (forget_variables fields known) carries
        (fields_true slots heap environment fields vs known are)

    by_test : (t : Bool) → are_apart fields ≡ t
        → AreTrue others after (bind_fields fields vs environment)
        (if t then record { slot = y; fields = fields } ∷ forget_slot y (forget_variables fields known)
        else forget_slot y (forget_variables fields known))
    by_test true apart = (λ p is. new p is ∙ sym (values_bound fields vs environment apart many), rest)
    by_test false apart = rest

-- ---- constructions

-- a position that is not kept takes the new field, and one that is kept takes a field that is the same
left_unknown : (environment : Environment) (next : ℕ) (kept : List ℕ) (olds : List Value) (arguments : List ℕ)
    → KeepsKnown next kept [] arguments
    → left_in next kept olds (map (value_of environment) arguments) ≡ map (value_of environment) arguments
left_unknown environment next kept [] [] keeps = refl
left_unknown environment next kept (old ∷ olds) [] keeps = refl
left_unknown environment next kept [] (argument ∷ arguments) keeps = refl
left_unknown environment next kept (old ∷ olds) (argument ∷ arguments) keeps =
    ap (λ t. (if t then old else value_of environment argument)
    ∷ left_in (suc next) kept olds (map (value_of environment) arguments)) keeps.0
    ∙ ap (λ vs. value_of environment argument ∷ vs) (left_unknown environment (suc next) kept olds arguments keeps.1)

left_known : (environment : Environment) (next : ℕ) (kept fields arguments : List ℕ) → KeepsKnown next kept fields arguments
    → left_in next kept (map (value_of environment) fields) (map (value_of environment) arguments)
    ≡ map (value_of environment) arguments
left_known environment next kept [] [] keeps = refl
left_known environment next kept (field ∷ fields) [] keeps = refl
left_known environment next kept [] (argument ∷ arguments) keeps = refl
left_known environment next kept (field ∷ fields) (argument ∷ arguments) keeps =
    ap (λ v. v ∷ left_in (suc next) kept (map (value_of environment) fields) (map (value_of environment) arguments))
    (by_test (is_among kept next) keeps.0)
    ∙ ap (λ vs. value_of environment argument ∷ vs) (left_known environment (suc next) kept fields arguments keeps.1)
  where
    by_test : (t : Bool) → (t ≡ true → field ≡ argument)
        → (if t then value_of environment field else value_of environment argument) ≡ value_of environment argument
    by_test true equal = ap (value_of environment) (equal refl)
    by_test false equal = refl

-- what is known of a slot is nothing, or it is true
pub known_true : (slots : ℕ → Slot) (heap : Heap) (environment : Environment) (y p : ℕ) (known : List KnownFields)
    → AreTrue slots heap environment known → slots y ≡ token p
    → (fields_in known y ≡ []) ⊎ (fields_held heap p ≡ map (value_of environment) (fields_in known y))
known_true slots heap environment y p [] are has = inl refl
known_true slots heap environment y p (one ∷ known) are has =
    by_test (one.slot == y) refl (known_true slots heap environment y p known are.1 has)
  where
    by_test : (t : Bool) → (one.slot == y) ≡ t
        → (fields_in known y ≡ []) ⊎ (fields_held heap p ≡ map (value_of environment) (fields_in known y))
        → ((if t then one.fields else fields_in known y) ≡ [])
        ⊎ (fields_held heap p ≡ map (value_of environment) (if t then one.fields else fields_in known y))
    by_test true is rest = inr (are.0 p (ap slots (same one.slot y is) ∙ has))
    by_test false is rest = rest

-- a construction that leaves only what is known writes what it would write
pub known_fills : (leaves : Bool) (slots : ℕ → Slot) (heap : Heap) (environment : Environment) (y p : ℕ)
    (known : List KnownFields) (kept arguments : List ℕ)
    → AreTrue slots heap environment known → slots y ≡ token p → KeepsKnown 0 kept (fields_in known y) arguments
    → filled leaves kept (fields_held heap p) (map (value_of environment) arguments) ≡ map (value_of environment) arguments
known_fills false slots heap environment y p known kept arguments are has keeps = refl
known_fills true slots heap environment y p known kept arguments are has keeps =
    by (known_true slots heap environment y p known are has)
  where
    by : (fields_in known y ≡ []) ⊎ (fields_held heap p ≡ map (value_of environment) (fields_in known y))
        → left_in 0 kept (fields_held heap p) (map (value_of environment) arguments) ≡ map (value_of environment) arguments
    by (inl none) =
        left_unknown environment 0 kept (fields_held heap p) arguments
        (subst (λ fields. KeepsKnown 0 kept fields arguments) none keeps)
    by (inr is) =
        ap (λ olds. left_in 0 kept olds (map (value_of environment) arguments)) is
        ∙ left_known environment 0 kept (fields_in known y) arguments keeps
