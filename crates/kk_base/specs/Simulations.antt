-- What it is that one machine does, step for step, what another does.
use Rattle.std.specs.Prelude.{◌≡◌, ℕ, ◌+◌, ◌*◌, ◌≤◌, ◌<◌, List}
use Rattle.kk_base.specs.Machines.{Machine, trace, state, weight_of}

-- From t the machine takes `steps` steps with these events, through states that are all `Passing`, and comes to a state
-- that stands for s. The steps weigh at most `most`, and what they weigh less is saved as credit. They do `above` steps of
-- the machine above: each pays for `pace` of those, and `idle` of those may go by unpaid.
pub record Reaches {S T E W : Type 0} (lower : Machine T E W) (Related : ℕ → ℕ → S → T → Type 0) (Passing : T → Type 0) (pace most above idle : ℕ) (events : List E) (s : S) (t : T) : Type 0 where
  pub steps : ℕ
  pub credit_after : ℕ
  pub idle_after : ℕ
  pub paid : weight_of lower steps t + credit_after ≤ most
  pub moves : above + idle_after ≤ steps * pace + idle
  pub events_are : trace lower steps t ≡ events
  pub passes : (k : ℕ) → k < steps → Passing (state lower k t)
  pub related : Related credit_after idle_after s (state lower steps t)

-- The lower machine does each step of the upper by steps of its own that weigh no more, on the whole. `Related credit
-- idle s t` says that t stands for s, with so much weight saved by earlier steps, and so many upper steps that may go by
-- without a lower one. Related states have ended alike. Each lower step is taken from a state that is `Passing`.
pub record Simulates {S T E W : Type 0} (upper : Machine S E W) (lower : Machine T E W) (Related : ℕ → ℕ → S → T → Type 0) (Passing : T → Type 0) (pace : ℕ) : Type 0 where
  pub by : (credit idle : ℕ) (s : S) (t : T) → Related credit idle s t → Reaches lower Related Passing pace (upper.weight s + credit) 1 idle (upper.step s).0 (upper.step s).1 t
  pub alike : (credit idle : ℕ) (s : S) (t : T) → Related credit idle s t → lower.ending t ≡ upper.ending s

-- a state of the lowest of three machines stands for one of the highest, by way of one of the middle machine
pub record Through {S T U : Type 0} (High : ℕ → ℕ → S → T → Type 0) (Low : ℕ → ℕ → T → U → Type 0) (pace credit idle : ℕ) (s : S) (u : U) : Type 0 where
  pub middle : T
  pub credit_high : ℕ
  pub idle_high : ℕ
  pub credit_low : ℕ
  pub idle_low : ℕ
  pub credit_is : credit ≡ credit_high + credit_low
  pub idle_is : idle ≡ idle_high + pace * idle_low
  pub high : High credit_high idle_high s middle
  pub low : Low credit_low idle_low middle u
