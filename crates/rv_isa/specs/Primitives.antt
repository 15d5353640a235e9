-- What the machines of the assembler form and of its placed form leave open, and share.
use Rattle.std.specs.Prelude.{◌==◌, ℕ, List, Option, Some, None, Bool, cond}
use Rattle.rv_isa.specs.declared.asm.Operation.{Operation}
use Rattle.rv_isa.specs.declared.asm.Condition.{Condition}
use Rattle.rv_isa.specs.declared.routine.Routine.{Routine}

-- what a routine answers: a word, and whether it took the newest held token; or an end of the run. It fails where its call
-- is none that the runtime allows.
pub data Reply (H W : Type 0) : Type 0 where
  answers : (word : ℕ) → (shared : H) → (took_held : Bool) → Reply H W
  ends : (how : W) → (shared : H) → Reply H W
  fails : Reply H W

-- H is what code shares: the cells, the input that is left and the trace. W is how a run ends, and E an event.
-- compute: the word of an operation, of its arguments, and what it makes of H; of one that writes no value the word is unsaid
-- holds: whether a condition holds of the arguments of a branch
-- serve: what a routine answers, by its arguments and the newest held token
-- lasts: the most instructions that a routine executes then
-- hold, unhold: what it makes of H that the token of a word, not the null one, is put on the chain of held tokens, and is taken off
-- told: the events so far
pub record Primitives (H E W : Type 0) : Type 0 where
  pub compute : Operation → List ℕ → H → Option (ℕ × H)
  pub holds : Condition → List ℕ → Option Bool
  pub serve : Routine → List ℕ → Option ℕ → H → Reply H W
  pub lasts : Routine → List ℕ → Option ℕ → H → ℕ
  pub hold : ℕ → H → Option H
  pub unhold : ℕ → H → Option H
  pub told : H → List E
  pub finished : W
  pub stack_full : W

-- what a machine is at: a state, from which it goes on; an end; or nothing that it can do
pub data Turn (S H W : Type 0) : Type 0 where
  go : (state : S) → Turn S H W
  ended : (how : W) → (shared : H) → Turn S H W
  stuck : Turn S H W

-- goes on with a value, if it is there
abbrev pub or_stuck : {A S H W : Type 0} → Option A → (A → Turn S H W) → Turn S H W
or_stuck None next = stuck
or_stuck (Some a) next = next a

-- what is done with a token; the null token changes nothing
abbrev pub by_token : {H : Type 0} → (ℕ → H → Option H) → ℕ → H → Option H
by_token act word shared = cond (word == 0) (Some shared) (act word shared)

-- how a run has ended
abbrev pub end_of : {S H W : Type 0} → Turn S H W → Option W
end_of (go state) = None
end_of (ended how shared) = Some how
end_of stuck = None
