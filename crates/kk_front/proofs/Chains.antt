-- Of judgements that come to one thing each, a chain does too.
use Rattle.std.proofs.Common.{◌≡◌, Bool, false, refl, sym, ap, subst, ◌∙◌}
use Rattle.std.specs.Prelude.{Result, Ok, Err}
use Rattle.kk_base.specs.Exactly.{IsOnly, ExactlyOne}
use Rattle.kk_base.specs.declared.refusal.Refusal.{Refusal}
use Rattle.kk_front.specs.Chain.{Then, stops, goes_on, ToldAs, Checking}
use Rattle.kk_front.specs.Outcome.{without_example, up_to_example, IsOutcome, HasOneOutcome}

abbrev Same : (A E : Type 0) → Result A E → Result A E → Type 0
Same A E x y = x ≡ y

pub ok_same : {A E : Type 0} {a b : A} → Same A E (Ok a) (Ok b) → a ≡ b
ok_same e = cc e

pub err_same : {A E : Type 0} {a b : E} → Same A E (Err a) (Err b) → a ≡ b
err_same e = cc e

pub apart : {A E : Type 0} {a : A} {e : E} → Same A E (Ok a) (Err e) → ⊥
apart h = cc h

-- what comes to one thing does so up to the example
pub of_only : {A : Type 0} {J : Result A Refusal → Type 0} {outcome : Result A Refusal} → IsOnly J outcome → IsOutcome J outcome
of_only h = record { holds = h.holds; only = λ other x. ap up_to_example (h.only other x) }

module _ {A B C : Type 0} (J : A → Result B Refusal → Type 0) (K : B → Result C Refusal → Type 0) (a : A) where
  -- the first one fails
  pub only_stops : (refusal : Refusal) → IsOutcome (J a) (Err refusal) → IsOutcome (Then J K a) (Err refusal)
  only_stops refusal h = record { holds = stops refusal h.holds; only = λ other k. one k }
    where
      one : {other : Result C Refusal} → Then J K a other → up_to_example other ≡ Err (without_example refusal)
      one (stops e x) = ap Err (err_same (h.only (Err e) x))
      one (goes_on b outcome x y) = absurd (apart (h.only (Ok b) x))

  -- the first one passes something on
  pub only_goes_on : (b : B) (outcome : Result C Refusal) → IsOutcome (J a) (Ok b) → IsOutcome (K b) outcome → IsOutcome (Then J K a) outcome
  only_goes_on b outcome h k = record { holds = goes_on b outcome h.holds k.holds; only = λ other x. one x }
    where
      one : {other : Result C Refusal} → Then J K a other → up_to_example other ≡ up_to_example outcome
      one (stops e x) = absurd (apart (sym (h.only (Err e) x)))
      one (goes_on c other x y) = k.only other (subst (λ z. K z other) (ok_same (h.only (Ok c) x)) y)

  -- what comes out was passed on by both
  pub came_through : (c : C) → Then J K a (Ok c) → (b : B) × J a (Ok b) × K b (Ok c)
  came_through c h = by h refl
    where
      by : {other : Result C Refusal} → Then J K a other → other ≡ Ok c → (b : B) × J a (Ok b) × K b (Ok c)
      by (stops e x) same = absurd (apart (sym same))
      by (goes_on b outcome x y) same = (b, x, subst (K b) same y)

  pub one_then : HasOneOutcome (J a) → ((b : B) → J a (Ok b) → HasOneOutcome (K b)) → HasOneOutcome (Then J K a)
  one_then (Ok b, h) each = let k = each b h.holds in (k.0, only_goes_on b k.0 h k.1)
  one_then (Err e, h) each = (Err e, only_stops e h)

module _ {A B E : Type 0} (refusal_of : E → Refusal) (J : A → Result B E → Type 0) (a : A) where
  pub only_told_ok : (b : B) → IsOnly (J a) (Ok b) → IsOnly (ToldAs refusal_of J a) (Ok b)
  only_told_ok b h = record { holds = h.holds; only = one }
    where
      one : (other : Result B Refusal) → ToldAs refusal_of J a other → other ≡ Ok b
      one (Ok c) x = ap Ok (ok_same (h.only (Ok c) x))
      one (Err r) x = absurd (apart (sym (h.only (Err x.0) x.2)))

  pub only_told_err : (error : E) → IsOnly (J a) (Err error) → IsOnly (ToldAs refusal_of J a) (Err (refusal_of error))
  only_told_err error h = record { holds = (error, refl, h.holds); only = one }
    where
      one : (other : Result B Refusal) → ToldAs refusal_of J a other → other ≡ Err (refusal_of error)
      one (Ok c) x = absurd (apart (h.only (Ok c) x))
      one (Err r) x = ap Err (x.1 ∙ ap refusal_of (err_same (h.only (Err x.0) x.2)))

  pub exactly_told : ExactlyOne (J a) → ExactlyOne (ToldAs refusal_of J a)
  exactly_told (Ok b, h) = (Ok b, only_told_ok b h)
  exactly_told (Err e, h) = (Err (refusal_of e), only_told_err e h)

module _ {A E : Type 0} (J : A → Result (Unit {0}) E → Type 0) (a : A) where
  pub only_checking_ok : IsOnly (J a) (Ok tt) → IsOnly (Checking J a) (Ok a)
  only_checking_ok h = record { holds = (refl, h.holds); only = one }
    where
      one : (other : Result A E) → Checking J a other → other ≡ Ok a
      one (Ok b) x = ap Ok x.0
      one (Err e) x = absurd (apart (sym (h.only (Err e) x)))

  pub only_checking_err : (error : E) → IsOnly (J a) (Err error) → IsOnly (Checking J a) (Err error)
  only_checking_err error h = record { holds = h.holds; only = one }
    where
      one : (other : Result A E) → Checking J a other → other ≡ Err error
      one (Ok b) x = absurd (apart (h.only (Ok tt) x.1))
      one (Err e) x = ap Err (err_same (h.only (Err e) x))

  pub exactly_checking : ExactlyOne (J a) → ExactlyOne (Checking J a)
  exactly_checking (Ok _, h) = (Ok a, only_checking_ok h)
  exactly_checking (Err e, h) = (Err e, only_checking_err e h)

-- the same, up to the example
module _ {A : Type 0} (J : A → Result (Unit {0}) Refusal → Type 0) (a : A) where
  pub outcome_checking_ok : IsOutcome (J a) (Ok tt) → IsOutcome (Checking J a) (Ok a)
  outcome_checking_ok h = record { holds = (refl, h.holds); only = one }
    where
      one : (other : Result A Refusal) → Checking J a other → up_to_example other ≡ Ok a
      one (Ok b) x = ap Ok x.0
      one (Err e) x = absurd (apart (sym (h.only (Err e) x)))

  pub outcome_checking_err : (refusal : Refusal) → IsOutcome (J a) (Err refusal) → IsOutcome (Checking J a) (Err refusal)
  outcome_checking_err refusal h = record { holds = h.holds; only = one }
    where
      one : (other : Result A Refusal) → Checking J a other → up_to_example other ≡ Err (without_example refusal)
      one (Ok b) x = absurd (apart (h.only (Ok tt) x.1))
      one (Err e) x = ap Err (err_same (h.only (Err e) x))

  pub one_checking : HasOneOutcome (J a) → HasOneOutcome (Checking J a)
  one_checking (Ok _, h) = (Ok a, outcome_checking_ok h)
  one_checking (Err e, h) = (Err e, outcome_checking_err e h)

-- what came through a check is what was checked
module _ {A C : Type 0} (K : A → Result C Refusal → Type 0) (a : A) (c : C) where
  pub through_check : (J : A → Result (Unit {0}) Refusal → Type 0) → Then (Checking J) K a (Ok c) → J a (Ok tt) × K a (Ok c)
  through_check J h = let passed = came_through (Checking J) K a c h in (passed.1.1, subst (λ (b : A). K b (Ok c)) passed.1.0 passed.2)

  pub through_told_check : {E : Type 0} (refusal_of : E → Refusal) (J : A → Result (Unit {0}) E → Type 0) → Then (ToldAs refusal_of (Checking J)) K a (Ok c) → J a (Ok tt) × K a (Ok c)
  through_told_check refusal_of J h = let passed = came_through (ToldAs refusal_of (Checking J)) K a c h in (passed.1.1, subst (λ (b : A). K b (Ok c)) passed.1.0 passed.2)

-- ---- judgements that come to one thing, and are no want of memory

module _ (wants : Refusal → Bool) where
  -- `a` comes to one thing
  pub record IsSound {A B : Type 0} (J : A → Result B Refusal → Type 0) (a : A) : Type 0 where
    pub one : HasOneOutcome (J a)
    pub caused : (refusal : Refusal) → J a (Err refusal) → wants refusal ≡ false

  -- the second one needs to come to one thing where the first one passes something on
  pub sound_then : {A B C : Type 0} (J : A → Result B Refusal → Type 0) (K : B → Result C Refusal → Type 0) (a : A) → IsSound J a → ((b : B) → J a (Ok b) → IsSound K b) → IsSound (Then J K) a
  sound_then {A} {B} {C} J K a first second =
      record { one = one_then J K a first.one (λ b h. (second b h).one); caused = λ refusal h. by h refl }
    where
      by : {outcome : Result C Refusal} {refusal : Refusal} → Then J K a outcome → outcome ≡ Err refusal → wants refusal ≡ false
      by {refusal = refusal} (stops e h) same = ap wants (err_same (sym same)) ∙ first.caused e h
      by {refusal = refusal} (goes_on b outcome x y) same = (second b x).caused refusal (subst (K b) same y)

  pub sound_told : {A B E : Type 0} (refusal_of : E → Refusal) (J : A → Result B E → Type 0) (a : A) → ExactlyOne (J a) → ((error : E) → J a (Err error) → wants (refusal_of error) ≡ false) → IsSound (ToldAs refusal_of J) a
  sound_told refusal_of J a exactly caused =
      let told = exactly_told refusal_of J a exactly in
      record { one = (told.0, of_only told.1); caused = λ refusal h. ap wants h.1 ∙ caused h.0 h.2 }

  pub sound_checking : {A : Type 0} (J : A → Result (Unit {0}) Refusal → Type 0) (a : A) → HasOneOutcome (J a) → ((refusal : Refusal) → J a (Err refusal) → wants refusal ≡ false) → IsSound (Checking J) a
  sound_checking J a exactly caused = record { one = one_checking J a exactly; caused = caused }

-- ---- how far the judgements of a whole have come

-- what `b` comes to by the judgement that is left, the whole comes to
pub record LeadsTo {B C : Type 0} (whole : Result C Refusal → Type 0) (K : B → Result C Refusal → Type 0) (b : B) : Type 0 where
  pub comes : (outcome : Result C Refusal) → IsOutcome (K b) outcome → IsOutcome whole outcome

module _ {C : Type 0} {whole : Result C Refusal → Type 0} {A B : Type 0} {J : A → Result B Refusal → Type 0} {K : B → Result C Refusal → Type 0} {a : A} (come : LeadsTo whole (Then J K) a) where
  -- the next judgement fails, with one refusal up to the example or with one alone
  pub fails_with : (refusal : Refusal) → IsOutcome (J a) (Err refusal) → IsOutcome whole (Err refusal)
  fails_with refusal h = come.comes (Err refusal) (only_stops J K a refusal h)

  pub fails_at : (refusal : Refusal) → IsOnly (J a) (Err refusal) → IsOutcome whole (Err refusal)
  fails_at refusal h = fails_with refusal (of_only h)

  -- it passes something on
  pub passes_with : (b : B) → IsOutcome (J a) (Ok b) → LeadsTo whole K b
  passes_with b h = record { comes = λ outcome k. come.comes outcome (only_goes_on J K a b outcome h k) }

  pub passes_to : (b : B) → IsOnly (J a) (Ok b) → LeadsTo whole K b
  passes_to b h = passes_with b (of_only h)
