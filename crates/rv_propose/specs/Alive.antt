-- Which values are alive at each point of assembler code, as lists without repetition, and which are held tokens.
use Rattle.std.specs.Prelude.{ℕ, List, [], ◌∷◌, ◌++◌, Option, not, cond, length, drop}
use Rattle.std.specs.List.{filter}
use Rattle.rv_isa.specs.declared.asm.Action.{Action}
use Rattle.rv_isa.specs.declared.asm.Action.TheVariants.{Jump, Branch, TailCall, Return, Hold, Unhold}
use Rattle.rv_isa.specs.AsmCode.{Line}
use Rattle.rv_isa.specs.AsmMachine.{is_label}
use Rattle.rv_isa.specs.Frames.{is_among}
use Rattle.rv_isa.specs.WellFormed.{is_written, first_of}

-- a list with one value more, unless the value is in it
abbrev pub with_value : ℕ → List ℕ → List ℕ
with_value v values = cond (is_among v values) values (values ++ v ∷ [])

abbrev pub with_values : List ℕ → List ℕ → List ℕ
with_values [] values = values
with_values (v ∷ vs) values = with_values vs (with_value v values)

-- a list without the value that is written
abbrev pub without : Option ℕ → List ℕ → List ℕ
without into values = filter (λ v. not (is_written into v)) values

-- what is alive before a line, by what is alive behind it
abbrev pub values_before : List ℕ → Option ℕ → List ℕ → List ℕ
values_before args into behind = with_values args (without into behind)

-- what is alive behind an action: at the next line, and at the label where the action may go on
abbrev pub values_behind : Action → List ℕ → (ℕ → List ℕ) → List ℕ
values_behind (Jump l) next at_label = at_label l
values_behind (Branch condition l) next at_label = with_values next (at_label l)
values_behind (TailCall f) next at_label = []
values_behind Return next at_label = []
values_behind _ next at_label = next

-- what is alive before code, and at a label in it
abbrev mutual
  pub alive_values : List Line → List ℕ
  alive_values [] = []
  alive_values (line ∷ rest) = values_before line.args line.into (values_behind line.action (alive_values rest) (λ l. alive_values_at l rest))

  pub alive_values_at : ℕ → List Line → List ℕ
  alive_values_at l [] = []
  alive_values_at l (line ∷ rest) = cond (is_label l line.action) (alive_values rest) (alive_values_at l rest)

-- what is held before an action, the newest value first, by what is held behind it
abbrev pub held_before : Action → List ℕ → List ℕ → List ℕ
held_before Hold args behind = drop (length (first_of args)) behind
held_before Unhold args behind = args ++ behind
held_before _ args behind = behind

-- what is held before code: what it takes back that it does not hold itself
abbrev pub held_values : List Line → List ℕ
held_values [] = []
held_values (line ∷ rest) = held_before line.action line.args (held_values rest)

-- what is alive at a point, and what is held there
pub record PointLists : Type 0 where
  pub alive : List ℕ
  pub held : List ℕ

abbrev pub lists_before : List Line → PointLists
lists_before code = record { alive = alive_values code; held = held_values code }
