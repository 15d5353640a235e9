-- Judgements one behind the other, each a relation between what is judged and what it comes to.
use Rattle.std.specs.Prelude.{◌≡◌, Result, Ok, Err}
use Rattle.kk_base.specs.declared.refusal.Refusal.{Refusal}

-- the first failure refuses; what the first judgement passes on, the other one judges
pub data Then {A B C E : Type 0} (J : A → Result B E → Type 0) (K : B → Result C E → Type 0) (a : A) : Result C E → Type 0 where
  stops : (error : E) → J a (Err error) → Then J K a (Err error)
  goes_on : (b : B) (outcome : Result C E) → J a (Ok b) → K b outcome → Then J K a outcome

-- a judgement whose errors are told as refusals
abbrev pub ToldAs : {A B E : Type 0} → (E → Refusal) → (A → Result B E → Type 0) → A → Result B Refusal → Type 0
ToldAs refusal_of J a (Ok b) = J a (Ok b)
ToldAs {E = E} refusal_of J a (Err refusal) = (error : E) × (refusal ≡ refusal_of error) × J a (Err error)

-- a judgement that only checks, and passes on what it judged
abbrev pub Checking : {A E : Type 0} → (A → Result (Unit {0}) E → Type 0) → A → Result A E → Type 0
Checking J a (Ok b) = (b ≡ a) × J a (Ok tt)
Checking J a (Err error) = J a (Err error)
