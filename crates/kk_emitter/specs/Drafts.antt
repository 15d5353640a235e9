-- What an emitter has written of a function and what it owes, and what its calls change of that.
use Rattle.std.specs.Prelude.{◌≡◌, ℕ, zero, suc, ◌+◌, ◌<◌, ◌/◌, ◌%◌, ◌==◌, ◌||◌, Bool, true, false, not, List, [], ◌∷◌, ◌++◌, map}
use Rattle.std.specs.Prelude.{length, take, Option, Some, None, if◌then◌else◌, slice_index_or}
use Rattle.kk_syntax.specs.declared.program.Form.{Form}
use Rattle.kk_syntax.specs.declared.program.Form.TheVariants.{Unary, Binary, Print, Construct, Call}
use Rattle.kk_syntax.specs.Shapes.{is_among}
use Rattle.kk_syntax.specs.PositionsOf.{PositionTable, is_lent}
use Rattle.kk_core.specs.Decisions.{NodeTree}
use Rattle.kk_counted.specs.CountedCodes.{Counted, give, tail_call, case}
use Rattle.kk_counted.specs.CountedForms.{Move, computes, runs, reads, opens, opens_unique, dups, drops, plug, arms_of}
use Rattle.kk_counted.specs.Marks.{CellMarks}
use Rattle.kk_counted.specs.Spending.{AllAmong, at_positions, numbers_from}
use Rattle.kk_counted.specs.VariableLists.{minus, minus_all, HasAll}

-- ---- lists of variables

-- those of some variables that a mask names: its lowest bit tells whether the first one is among them
abbrev pub chosen_of : ℕ → List ℕ → List ℕ
chosen_of mask [] = []
chosen_of mask (x ∷ xs) = if mask % 2 == 1 then x ∷ chosen_of (mask / 2) xs else chosen_of (mask / 2) xs

-- so many copies
abbrev pub copies : ℕ → List ℕ → List (List ℕ)
copies zero xs = []
copies (suc n) xs = xs ∷ copies n xs

-- ---- drafts

-- A branch that is not joined: on which variable, by which decisions, of how many rows; the steps of the block before it; how
-- many variables it is lent; what it owes besides; what each arm is to spend, and that list for each arm that is not entered;
-- the arms that are ended; and whether one of them ends by a tail call.
pub record Split : Type 0 where
  pub on : ℕ
  pub decisions : List NodeTree
  pub rows : ℕ
  pub before : List Move
  pub lent : ℕ
  pub kept : List ℕ
  pub each : List ℕ
  pub left : List (List ℕ)
  pub arms : List Counted
  pub tails : Bool

-- The function of which instance is written, by which positions are lent, how many fields constructors have, and what the types
-- tell of cells; the number of its parameters; the next variable; whether a call found no memory; whether a block is written, the function's body or an arm
-- that is entered; its steps; the variables that it owns; the owned parameters that are not called yet; the variables that it
-- is lent, which are parameters and fields of cells that lent variables name; the branches that are not joined, the newest
-- first; and how the block ends, once a branch with tail calls is joined.
pub record Draft : Type 0 where
  pub positions : PositionTable
  pub field_counts : List ℕ
  pub marks : CellMarks
  pub instance : ℕ
  pub parameters : ℕ
  pub next : ℕ
  pub failed : Bool
  pub inside : Bool
  pub steps : List Move
  pub owed : List ℕ
  pub uncalled : List ℕ
  pub lent : List ℕ
  pub splits : List Split
  pub ending : Option Counted

-- what is owned outside of the newest block, by the parameters that are not called yet
abbrev pub outside : List ℕ → List Split → List ℕ
outside uncalled [] = uncalled
outside uncalled (split ∷ splits) = split.kept ++ outside uncalled splits

-- all that is owned
abbrev pub all_owed : Draft → List ℕ
all_owed d = d.owed ++ outside d.uncalled d.splits

-- the parameters of the function at the positions that are owned, or lent
abbrev pub parameters_where : (ℕ → Bool) → ℕ → List ℕ
parameters_where takes count = at_positions takes 0 (numbers_from 0 count)

-- a draft of an instance of which nothing is written
abbrev pub begun : PositionTable → List ℕ → CellMarks → ℕ → Draft
begun positions field_counts marks instance =
    let count = length (slice_index_or positions instance []) in
    record {
      positions = positions;
      field_counts = field_counts;
      marks = marks;
      instance = instance;
      parameters = count;
      next = count;
      failed = false;
      inside = true;
      steps = [];
      owed = [];
      uncalled = parameters_where (λ i. not (is_lent positions instance i)) count;
      lent = parameters_where (is_lent positions instance) count;
      splits = [];
      ending = None;
    }

-- ---- what calls ask; a draft that has failed asks nothing

-- a block is written
abbrev pub Writes : Draft → Type 0
Writes d = d.failed ≡ false → (d.inside ≡ true) × (d.ending ≡ None)

-- variables, if there are any, are of an emitter of that instance
abbrev pub AreOf : ℕ → List ℕ → ℕ → Type 0
AreOf instance [] emitter = Unit {0}
AreOf instance (x ∷ xs) emitter = emitter ≡ instance

-- the variable, by an emitter of that instance, is owned on this path
abbrev pub Owns : Draft → ℕ → ℕ → Type 0
Owns d emitter x = d.failed ≡ false → (emitter ≡ d.instance) × (is_among d.owed x ≡ true)

-- so are all of these variables
abbrev pub OwnsAll : Draft → ℕ → List ℕ → Type 0
OwnsAll d emitter xs = d.failed ≡ false → AreOf d.instance xs emitter × HasAll xs d.owed

abbrev pub HoldsAll : Draft → List ℕ → Type 0
HoldsAll d xs = d.failed ≡ false → HasAll xs d.owed

-- an owned parameter that is not called yet
abbrev pub Awaits : Draft → ℕ → Type 0
Awaits d x = d.failed ≡ false → (d.splits ≡ []) × (is_among d.uncalled x ≡ true)

-- the variable is lent, or owned on this path or outside of the newest block
abbrev pub IsAtHand : Draft → ℕ → Type 0
IsAtHand d x = d.failed ≡ false → is_among (d.lent ++ all_owed d) x ≡ true

-- the variable is owned on this path, or outside of the newest block
abbrev pub Reaches : Draft → ℕ → ℕ → Type 0
Reaches d emitter x = d.failed ≡ false → (emitter ≡ d.instance) × (is_among (all_owed d) x ≡ true)

abbrev pub IsLentTo : Draft → ℕ → Type 0
IsLentTo d x = d.failed ≡ false → is_among d.lent x ≡ true

-- a constructor is there; it has so many fields
abbrev pub HasConstructor : Draft → ℕ → Type 0
HasConstructor d constructor = constructor < length d.field_counts

abbrev pub HasFields : Draft → ℕ → ℕ → Type 0
HasFields d constructor count = (constructor < length d.field_counts) × (slice_index_or d.field_counts constructor 0 ≡ count)

-- a constructor is there, and has a field of that number
abbrev pub HasField : Draft → ℕ → ℕ → Type 0
HasField d constructor at = (constructor < length d.field_counts) × (at < slice_index_or d.field_counts constructor 0)

-- a form that is no call and builds no cell, on as many arguments as it takes
abbrev pub IsPlain : Draft → Form → List ℕ → Type 0
IsPlain d (Unary operator) arguments = length arguments ≡ 1
IsPlain d (Binary operator) arguments = length arguments ≡ 2
IsPlain d (Print form) arguments = length arguments ≡ 1
IsPlain d (Construct c) arguments = HasFields d c 0 × (arguments ≡ [])
IsPlain d (Call f) arguments = ⊥
IsPlain d _ arguments = arguments ≡ []

-- an instance is there, and has as many parameters
abbrev pub Takes : Draft → ℕ → List ℕ → Type 0
Takes d f arguments = (f < length d.positions) × (length (slice_index_or d.positions f []) ≡ length arguments)

-- the arguments of a call at owned positions, and at lent ones
abbrev pub used_in : Draft → ℕ → List ℕ → List ℕ
used_in d f arguments = at_positions (λ i. not (is_lent d.positions f i)) 0 arguments

abbrev pub lent_in : Draft → ℕ → List ℕ → List ℕ
lent_in d f arguments = at_positions (is_lent d.positions f) 0 arguments

-- the arguments at lent positions are lent to the function, or stay owned
abbrev pub LendsAll : Draft → ℕ → List ℕ → Type 0
LendsAll d f arguments =
    d.failed ≡ false
    → AllAmong (lent_in d f arguments) (d.lent ++ (minus_all (used_in d f arguments) d.owed ++ outside d.uncalled d.splits))

-- the arms of the newest branch: which one it is, and what is left for those that are not entered
abbrev pub AreNewest : List Split → ℕ → List (List ℕ) → Type 0
AreNewest [] depth left = ⊥
AreNewest (split ∷ splits) depth left = (depth ≡ length (split ∷ splits)) × (split.left ≡ left)

-- a branch is not joined
abbrev pub IsInArm : List Split → Type 0
IsInArm [] = ⊥
IsInArm (split ∷ splits) = Unit {0}

-- a tail call uses up all that is owned, and its arguments at lent positions are lent
abbrev pub EndsByCall : Draft → ℕ → List ℕ → Type 0
EndsByCall d f arguments =
    d.failed ≡ false
    → HasAll (used_in d f arguments) d.owed × ((minus_all (used_in d f arguments) d.owed ≡ [])
    × ((outside d.uncalled d.splits ≡ []) × AllAmong (lent_in d f arguments) d.lent))

-- the variable is all that the block owns
abbrev pub IsOnly : Draft → ℕ → ℕ → Type 0
IsOnly d emitter x = d.failed ≡ false → (emitter ≡ d.instance) × (d.owed ≡ x ∷ [])

-- no arm of the newest branch is written
abbrev pub IsBetween : Draft → Type 0
IsBetween d = d.failed ≡ false → d.inside ≡ false

-- ---- what calls change

-- a step is written; other variables are owned then, and another one is next
abbrev pub wrote : Draft → Move → List ℕ → ℕ → Draft
wrote d move owed next = record d { steps = d.steps ++ move ∷ []; owed = owed; next = next }

-- a variable gets a reference more
abbrev pub duplicated : Draft → ℕ → Draft
duplicated d x = wrote d (dups x) (d.owed ++ x ∷ []) d.next

-- a reference of a variable is given up
abbrev pub dropped : Draft → ℕ → Draft
dropped d x = wrote d (drops x) (minus x d.owed) d.next

-- an owned parameter is called
abbrev pub given : Draft → ℕ → Draft
given d x = record d { owed = d.owed ++ x ∷ []; uncalled = minus x d.uncalled }

abbrev pub fallen : Draft → Draft
fallen d = record d { failed = true }

-- a form is computed, which uses up some variables; the next one takes its value
abbrev pub computed : Draft → Form → List ℕ → List ℕ → Draft
computed d form arguments used = wrote d (computes d.next form arguments) (minus_all used d.owed ++ d.next ∷ []) (d.next + 1)

-- an opening, by the count of the cell or not
abbrev pub opens_by : Bool → ℕ → ℕ → List ℕ → List ℕ → Move
opens_by true x constructor fields used = opens_unique x constructor fields used
opens_by false x constructor fields used = opens x constructor fields used

-- a cell is opened: its fields are the next variables, and of them the used ones are owned
abbrev pub opened : Draft → Bool → ℕ → ℕ → ℕ → ℕ → Draft
opened d by_count x constructor count used =
    let fields = numbers_from d.next count in
    wrote d (opens_by by_count x constructor fields (chosen_of used fields)) (minus x d.owed ++ chosen_of used fields)
    (d.next + count)

-- the same by the constructor's number, and the fields that it gives
abbrev pub fields_given : Draft → ℕ → ℕ → List ℕ
fields_given d constructor used = chosen_of used (numbers_from d.next (slice_index_or d.field_counts constructor 0))

abbrev pub unpacked : Draft → Bool → ℕ → ℕ → ℕ → Draft
unpacked d by_count x constructor used =
    opened d by_count x constructor (slice_index_or d.field_counts constructor 0) used

-- The fields of a cell that stays are the next variables, and of them the used ones get a reference more. Where the cell's
-- variable is lent, its fields are lent too.
abbrev pub read_of : Draft → ℕ → ℕ → ℕ → ℕ → Draft
read_of d x constructor count used =
    let fields = numbers_from d.next count in
    record d {
      steps = d.steps ++ (reads x constructor fields ∷ map dups (chosen_of used fields));
      owed = d.owed ++ chosen_of used fields;
      lent = d.lent ++ (if is_among d.lent x then fields else []);
      next = d.next + count;
    }

-- the same by the constructor's number
abbrev pub looked : Draft → ℕ → ℕ → ℕ → Draft
looked d x constructor used = read_of d x constructor (slice_index_or d.field_counts constructor 0) used

-- a branch begins, whose arms are to spend `each`
abbrev pub forked : Draft → ℕ → List NodeTree → List ℕ → ℕ → Draft
forked d on decisions each rows =
    let split : Split =
    record {
      on = on;
      decisions = decisions;
      rows = rows;
      before = d.steps;
      lent = length d.lent;
      kept = minus_all each d.owed;
      each = each;
      left = copies rows each;
      arms = [];
      tails = false;
    } in
    record d { inside = false; steps = []; owed = []; splits = split ∷ d.splits }

-- an arm is entered; it is lent what was lent before the branch
abbrev pub entered_by : Draft → Split → List Split → List (List ℕ) → Draft
entered_by d split splits [] = d
entered_by d split splits (each ∷ left) =
    record d {
      inside = true;
      owed = each;
      lent = take split.lent d.lent;
      splits = record split { left = left } ∷ splits;
    }

abbrev pub entered_in : Draft → List Split → Draft
entered_in d [] = d
entered_in d (split ∷ splits) = entered_by d split splits split.left

abbrev pub entered : Draft → Draft
entered d = entered_in d d.splits

-- how a block ends that gives a variable's value, and whether by a tail call
abbrev pub end_code : Option Counted → ℕ → Counted
end_code None x = give x
end_code (Some code) x = code

abbrev pub is_tail : Option Counted → Bool
is_tail None = false
is_tail (Some code) = true

-- a branch with one more arm that is ended, by a tail call or not
abbrev pub more_arms : Split → Counted → Bool → Split
more_arms split code tails = record split { arms = split.arms ++ code ∷ []; tails = split.tails || tails }

-- an arm is ended by a code
abbrev pub ended_in : Draft → Counted → Bool → List Split → Draft
ended_in d code tails [] = record d { ending = None }
ended_in d code tails (split ∷ splits) =
    record d {
      inside = false;
      steps = [];
      owed = [];
      splits = more_arms split (plug d.steps code) tails ∷ splits;
      ending = None;
    }

abbrev pub ended_by_value : Draft → ℕ → Draft
ended_by_value d x = ended_in d (end_code d.ending x) (is_tail d.ending) d.splits

abbrev pub ended_by_call : Draft → ℕ → List ℕ → Draft
ended_by_call d f arguments = ended_in d (tail_call f arguments) true d.splits

-- A block goes on behind a branch, and a variable takes its value; it is lent what was lent before the branch. Where an arm
-- ends by a tail call the branch ends the block.
abbrev pub resumed_as : Draft → Split → ℕ → Bool → Draft
resumed_as d split x false =
    record d {
      inside = true;
      steps = split.before ++ runs x (case split.on split.decisions (arms_of split.arms)) ∷ [];
      owed = split.kept ++ x ∷ [];
      lent = take split.lent d.lent;
    }
resumed_as d split x true =
    record d {
      inside = true;
      steps = split.before;
      owed = split.kept ++ x ∷ [];
      lent = take split.lent d.lent;
      ending = Some (case split.on split.decisions (arms_of split.arms));
    }

abbrev pub resumed : Draft → Split → ℕ → Draft
resumed d split x = resumed_as d split x split.tails

-- the newest branch is joined: the next variable takes its value
abbrev pub joined_in : Draft → List Split → Draft
joined_in d [] = d
joined_in d (split ∷ splits) = resumed (record d { next = d.next + 1; splits = splits }) split d.next

abbrev pub joined : Draft → Draft
joined d = joined_in d d.splits

-- the body of a function that gives a variable's value, as its steps were written
abbrev pub finished : Draft → ℕ → Counted
finished d x = plug d.steps (end_code d.ending x)
