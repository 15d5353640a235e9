-- That what an emitter has written spends what is owned: so a function that it finishes is spent.
use Rattle.std.specs.Prelude.{◌≡◌, ℕ, ◌+◌, ◌<◌, ◌≤◌, Bool, true, false, not, List, [], ◌∷◌, ◌++◌, length, Option, Some, None}
use Rattle.std.specs.Prelude.{if◌then◌else◌, slice_index_or}
use Rattle.kk_syntax.specs.Shapes.{is_among}
use Rattle.kk_syntax.specs.PositionsOf.{PositionTable, is_lent}
use Rattle.kk_core.specs.Decisions.{AreOrderly}
use Rattle.kk_counted.specs.Arms.{HasArms, AllHaveArms, HaveArmsInside}
use Rattle.kk_counted.specs.CountedCodes.{Counted, CountedFunction}
use Rattle.kk_counted.specs.CountedForms.{Move, plug}
use Rattle.kk_counted.specs.Marks.{CanBeMarked}
use Rattle.kk_counted.specs.Spending.{Spends}
use Rattle.kk_counted.specs.Programs.{HaveParameters, IsJudged}
use Rattle.kk_counted.specs.VariableLists.{AreLow, AreIn}
use Rattle.kk_emitter.specs.Drafts.{Split, Draft, outside, all_owed, parameters_where}

-- the function that a draft becomes by this body has marked variables
abbrev pub BecomesMarked : Draft → Counted → Type 0
BecomesMarked d body =
    d.failed ≡ false → CanBeMarked d.marks d.instance (record { parameters = d.parameters; body = body })

abbrev pub AreLater : ℕ → List ℕ → Type 0
AreLater next xs = (x : ℕ) → is_among xs x ≡ true → next ≤ x

module _ (positions : PositionTable) (lent : List ℕ) where
  -- code spends what is owned, whatever the functions are that it calls
  abbrev pub Spent : Option (List ℕ) → List ℕ → Counted → Type 0
  Spent left owned code =
      (functions : List CountedFunction) → HaveParameters positions functions → Spends positions functions lent [] left owned code

  abbrev pub AllSpent : Option (List ℕ) → List ℕ → List Counted → Type 0
  AllSpent left owned [] = Unit {0}
  AllSpent left owned (code ∷ codes) = Spent left owned code × AllSpent left owned codes

  -- steps lead from what is owned before them to what is owned after them: they, with code behind them that spends the one,
  -- spend the other
  abbrev pub Leads : List ℕ → List ℕ → List Move → Type 0
  Leads before after moves = (left : Option (List ℕ)) (rest : Counted) → Spent left after rest → Spent left before (plug moves rest)

-- what the newest block owned as it began, by the owned parameters and those of them that are not called yet
abbrev pub first : List ℕ → List ℕ → List Split → List ℕ
first parameters uncalled [] = parameters
first parameters uncalled (split ∷ splits) = split.each ++ outside uncalled (split ∷ splits)

abbrev pub AllAre : List ℕ → List (List ℕ) → Type 0
AllAre each [] = Unit {0}
AllAre each (xs ∷ left) = (xs ≡ each) × AllAre each left

-- A branch that is not joined: the steps before it lead to what its arms and the code behind them own. Each arm that is ended
-- spends what it was to spend, and leaves what is owned outside; or nothing is owned outside, and it leaves nothing.
pub record IsFine (positions : PositionTable) (lent : List ℕ) (next : ℕ) (began around : List ℕ) (split : Split) : Type 0 where
  pub before : Leads positions lent began (split.each ++ around) split.before
  pub on : is_among (lent ++ (split.each ++ around)) split.on ≡ true
  pub arms : split.tails ≡ false → AllSpent positions lent (Some around) (split.each ++ around) split.arms
  pub tails : split.tails ≡ true → (around ≡ []) × AllSpent positions lent None (split.each ++ around) split.arms
  pub left : AllAre split.each split.left
  pub low : AreLow next (split.each ++ around)

abbrev pub AreFine : PositionTable → List ℕ → ℕ → List ℕ → List ℕ → List Split → Type 0
AreFine positions lent next parameters uncalled [] = Unit {0}
AreFine positions lent next parameters uncalled (split ∷ splits) =
    IsFine positions lent next (first parameters uncalled splits) (outside uncalled (split ∷ splits)) split
    × AreFine positions lent next parameters uncalled splits

abbrev pub parameter_count : Draft → ℕ
parameter_count d = length (slice_index_or d.positions d.instance [])

abbrev pub owned_parameters : Draft → List ℕ
owned_parameters d = parameters_where (λ i. not (is_lent d.positions d.instance i)) (parameter_count d)

-- what the newest block of a draft owned as it began
abbrev pub first_of : Draft → List ℕ
first_of d = first (owned_parameters d) d.uncalled d.splits

-- An arm is written, or none: a branch has an arm that is ended, or that one, or one that is not entered, for each row of its
-- decisions. Each case inside has an arm for each row.
pub record HasRows (written : ℕ) (split : Split) : Type 0 where
  pub decisions : AreOrderly split.decisions split.rows
  pub rows : length split.arms + (written + length split.left) ≡ split.rows
  pub arms : AllHaveArms split.arms
  pub before : HaveArmsInside split.before

-- the newest branch, an arm of which may be written, and the older ones, each of which is in an arm
abbrev pub HaveRows : Bool → List Split → Type 0
HaveRows inside [] = Unit {0}
HaveRows inside (split ∷ splits) = HasRows (if inside then 1 else 0) split × HaveRows true splits

-- in all that is written each case has an arm for each row
pub record IsWhole (inside : Bool) (splits : List Split) (steps : List Move) (ending : Option Counted) : Type 0 where
  pub branches : HaveRows inside splits
  pub written : HaveArmsInside steps
  pub end : (code : Counted) → ending ≡ Some code → HasArms code

abbrev pub IsWholeDraft : Draft → Type 0
IsWholeDraft d = IsWhole d.inside d.splits d.steps d.ending

-- A draft is sound by the variables that the function is lent in all: its branches are; the steps of the block that is written
-- lead to what is owned now; a block whose end is known spends all that it owned as it began; and the next variable is above
-- all of them.
pub record IsSoundBy (lent : List ℕ) (d : Draft) : Type 0 where
  pub splits : AreFine d.positions lent d.next (owned_parameters d) d.uncalled d.splits
  pub steps : d.inside ≡ true → d.ending ≡ None → Leads d.positions lent (first_of d) (all_owed d) d.steps
  pub closed : (code : Counted) → d.ending ≡ Some code
      → Spent d.positions lent None (first_of d) (plug d.steps code) × (outside d.uncalled d.splits ≡ [])
  pub low : AreLow d.next (all_owed d)
  pub lends : AreIn d.lent lent
  pub parameters : d.parameters ≡ parameter_count d
  pub quiet : d.inside ≡ false → (d.steps ≡ []) × ((d.owed ≡ []) × (d.ending ≡ None))

-- A draft that is sound: by the variables that were lent until now, in this block or another one, and whichever are lent later.
-- Of the parameters those at lent positions are lent. Each case has an arm for each row.
pub record IsSoundDraft (d : Draft) : Type 0 where
  pub lent : List ℕ
  pub sound : (later : List ℕ) → AreLater d.next later → IsSoundBy (later ++ lent) d
  pub low : AreLow d.next lent
  pub own : (i : ℕ) → i < parameter_count d → is_among lent i ≡ is_lent d.positions d.instance i
  pub parameters : parameter_count d ≤ d.next
  pub whole : IsWholeDraft d

-- a draft is sound, if no call found no memory
abbrev pub Works : Draft → Type 0
Works d = d.failed ≡ false → IsSoundDraft d

-- the body of a draft is that of its instance's function
pub record IsBody (d : Draft) (body : Counted) : Type 0 where
  pub parameters : d.parameters ≡ parameter_count d
  pub judged : IsJudged d.positions d.instance (record { parameters = d.parameters; body = body })
  pub arms : HasArms body
