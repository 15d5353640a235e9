-- What a judgement comes to, where a match that is not covered may be told with several examples.
use Rattle.std.specs.Prelude.{◌≡◌, [], Result, Ok, Err}
use Rattle.kk_base.specs.declared.refusal.Refusal.{Refusal}
use Rattle.kk_base.specs.declared.refusal.Refusal.TheVariants as OfText

-- a refusal, up to the example of a match that is not covered
abbrev pub without_example : Refusal → Refusal
without_example (OfText.Lex error) = OfText.Lex error
without_example (OfText.Parse error) = OfText.Parse error
without_example (OfText.Name error) = OfText.Name error
without_example (OfText.NotTyped function) = OfText.NotTyped function
without_example (OfText.NotCovered function example) = OfText.NotCovered function []
without_example (OfText.Over limit) = OfText.Over limit
without_example OfText.NoMemory = OfText.NoMemory

abbrev pub up_to_example : {A : Type 0} → Result A Refusal → Result A Refusal
up_to_example (Ok a) = Ok a
up_to_example (Err refusal) = Err (without_example refusal)

-- a judgement comes to this, and to nothing else, up to the example
pub record IsOutcome {A : Type 0} (J : Result A Refusal → Type 0) (outcome : Result A Refusal) : Type 0 where
  pub holds : J outcome
  pub only : (other : Result A Refusal) → J other → up_to_example other ≡ up_to_example outcome

-- a judgement comes to exactly one thing, up to the example
abbrev pub HasOneOutcome : {A : Type 0} → (Result A Refusal → Type 0) → Type 0
HasOneOutcome {A} J = (outcome : Result A Refusal) × IsOutcome J outcome
