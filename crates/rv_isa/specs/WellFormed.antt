-- When assembler code over values is well formed: what anyone may rely on who gives the values their places.
use Rattle.std.specs.Prelude.{◌≡◌, ◌==◌, ◌||◌, ◌&&◌, ◌+◌, ◌-◌, ◌/◌, ◌≤◌, ◌<◌, ◌++◌, ℕ, List, [], ◌∷◌, Option, Some, None, Bool, true, false, not, cond, length, All, IsSome}
use Rattle.kk_base.specs.Limits.{greatest_of}
use Rattle.kk_base.specs.declared.limit.LimitKind.TheVariants.{Parameters}
use Rattle.rv_isa.specs.declared.asm.Action.{Action}
use Rattle.rv_isa.specs.declared.asm.Action.TheVariants.{Compute, Label, Jump, Branch, Call, TailCall, Return, Routine, Hold, Unhold, Room}
use Rattle.rv_isa.specs.declared.asm.Operation.TheVariants.{Sw, Dup, Free}
use Rattle.rv_isa.specs.declared.routine.Routine.TheVariants.{Drop}
use Rattle.rv_isa.specs.AsmCode.{Line, Lines}
use Rattle.rv_isa.specs.Routines.{taken_by, given_by}
use Rattle.rv_isa.specs.Sizes.{wide_frame}
use Rattle.rv_isa.specs.Frames.{found, is_among}
use Rattle.rv_isa.specs.AsmMachine.{is_label}

-- ---- what is alive

abbrev pub is_written : Option ℕ → ℕ → Bool
is_written None v = false
is_written (Some into) v = into == v

-- whether a value is alive behind an action: by whether it is so before the code that follows, and at each label in it
abbrev pub is_alive_after : Action → Bool → (ℕ → Bool) → Bool
is_alive_after (Jump l) next at_label = at_label l
is_alive_after (Branch condition l) next at_label = next || at_label l
is_alive_after (TailCall f) next at_label = false
is_alive_after Return next at_label = false
is_alive_after _ next at_label = next

-- Whether a value is alive before code: a run from there may read it before it is written; and whether it is alive at a label
-- in code. All labels lie ahead.
abbrev mutual
  pub is_alive : ℕ → List Line → Bool
  is_alive v [] = false
  is_alive v (line ∷ rest) =
      is_among v line.args || (not (is_written line.into v) && is_alive_after line.action (is_alive v rest) (λ l. is_alive_at l v rest))

  pub is_alive_at : ℕ → ℕ → List Line → Bool
  is_alive_at l v [] = false
  is_alive_at l v (line ∷ rest) = cond (is_label l line.action) (is_alive v rest) (is_alive_at l v rest)

-- whether it is alive behind an action, before the code that follows
abbrev pub is_alive_behind : ℕ → Action → List Line → Bool
is_alive_behind v action rest = is_alive_after action (is_alive v rest) (λ l. is_alive_at l v rest)

-- ---- the conditions

-- There are so many values at most in a function: a frame has a word for the way back, and one for each value. Each is a number
-- below this.
abbrev pub most_values : ℕ
most_values = wide_frame / 4 - 1

-- a label stands once, and the label of a jump or a branch lies ahead
abbrev pub AreLabelsAhead : Action → List Line → Type 0
AreLabelsAhead (Label l) rest = found (λ line. is_label l line.action) rest ≡ None
AreLabelsAhead (Jump l) rest = IsSome (found (λ line. is_label l line.action) rest)
AreLabelsAhead (Branch condition l) rest = IsSome (found (λ line. is_label l line.action) rest)
AreLabelsAhead _ rest = Unit {0}

-- the most arguments of an action
abbrev pub most_args : Action → ℕ
most_args (Compute operation) = 2
most_args (Label l) = 0
most_args (Jump l) = 0
most_args (Branch condition l) = 2
most_args (Call f) = greatest_of Parameters
most_args (TailCall f) = greatest_of Parameters
most_args Return = 1
most_args (Routine routine) = length (taken_by routine)
most_args Hold = 2
most_args Unhold = 1
most_args Room = 0

-- whether the action gives a value
abbrev pub has_value : Option ℕ → Bool
has_value None = false
has_value (Some x) = true

abbrev pub may_give : Action → Bool
may_give (Compute (Sw offset)) = false
may_give (Compute Dup) = false
may_give (Compute Free) = false
may_give (Compute operation) = true
may_give (Call f) = true
may_give (Routine routine) = has_value (given_by routine)
may_give Unhold = true
may_give _ = false

-- Whether the arguments of an action are handed over: their places are lost. A value may be read on behind a drop of one of its
-- references.
abbrev pub hands_over : Action → Bool
hands_over (Compute operation) = false
hands_over (Branch condition l) = false
hands_over (Routine Drop) = false
hands_over Hold = false
hands_over Unhold = false
hands_over _ = true

-- values are different from one another
abbrev pub AreDistinct : List ℕ → Type 0
AreDistinct [] = Unit {0}
AreDistinct (v ∷ vs) = (is_among v vs ≡ false) × AreDistinct vs

-- an argument that is handed over is not alive behind the action, unless it is what the action writes
abbrev pub IsSpent : Line → List Line → ℕ → Type 0
IsSpent line rest v = (not (is_written line.into v) && is_alive_behind v line.action rest) ≡ false

-- a line, and the code that follows
pub record IsLineFormed (line : Line) (rest : List Line) : Type 0 where
  pub labels : AreLabelsAhead line.action rest
  pub few : length line.args ≤ most_args line.action
  pub gives : has_value line.into ≡ true → may_give line.action ≡ true
  pub distinct : hands_over line.action ≡ true → AreDistinct line.args
  pub spent : hands_over line.action ≡ true → All (IsSpent line rest) line.args
  pub args_small : All (λ v. v < most_values) line.args
  pub into_small : (v : ℕ) → line.into ≡ Some v → v < most_values

abbrev pub AreLinesFormed : List Line → Type 0
AreLinesFormed [] = Unit {0}
AreLinesFormed (line ∷ rest) = IsLineFormed line rest × AreLinesFormed rest

-- ---- tokens

-- whether an action goes on at the next line alone, and no jump comes to it
abbrev pub goes_straight_on : Action → Bool
goes_straight_on (Label l) = false
goes_straight_on (Jump l) = false
goes_straight_on (Branch condition l) = false
goes_straight_on (TailCall f) = false
goes_straight_on Return = false
goes_straight_on _ = true

-- the token that a Hold holds
abbrev pub first_of : List ℕ → List ℕ
first_of [] = []
first_of (v ∷ more) = v ∷ []

-- The values that are held before an action and behind it, the newest first: a Hold puts its token in front, an Unhold takes it
-- from there. Where one is held, code goes straight on.
abbrev pub ChangesHeld : Action → List ℕ → List ℕ → List ℕ → Type 0
ChangesHeld Hold args before behind = behind ≡ first_of args ++ before
ChangesHeld Unhold args before behind = before ≡ args ++ behind
ChangesHeld action args before behind = (before ≡ behind) × (goes_straight_on action ≡ false → before ≡ [])

-- what is held before a line and behind it is neither read nor written there
abbrev pub LeavesHeld : Line → List ℕ → List ℕ → Type 0
LeavesHeld line before behind =
    (v : ℕ) → is_among v before ≡ true → is_among v behind ≡ true → (is_among v line.args ≡ false) × (is_written line.into v ≡ false)

-- Code before which these values are held, the newest first: each is held up to its Unhold.
abbrev pub AreTokensHeld : List ℕ → List Line → Type 0
AreTokensHeld held [] = held ≡ []
AreTokensHeld held (line ∷ rest) =
    (behind : List ℕ) × (ChangesHeld line.action line.args held behind × (LeavesHeld line held behind × AreTokensHeld behind rest))

-- ---- functions

-- a function: what is alive at its start are parameters, and nothing is held there
pub record IsWellFormed (function : Lines) : Type 0 where
  pub lines : AreLinesFormed function.code
  pub tokens : AreTokensHeld [] function.code
  pub params : AreDistinct function.params
  pub few_params : length function.params ≤ greatest_of Parameters
  pub params_small : All (λ v. v < most_values) function.params
  pub start : (v : ℕ) → is_alive v function.code ≡ true → is_among v function.params ≡ true

abbrev pub AreWellFormed : List Lines → Type 0
AreWellFormed [] = Unit {0}
AreWellFormed (function ∷ functions) = IsWellFormed function × AreWellFormed functions

-- the lines of all functions
abbrev pub all_lines : List Lines → ℕ
all_lines [] = 0
all_lines (function ∷ functions) = length function.code + all_lines functions
