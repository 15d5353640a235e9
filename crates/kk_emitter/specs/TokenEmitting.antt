-- That what an emitter has written in code with tokens spends them, and is without them what it has written in counted code.
use Rattle.std.specs.Prelude.{◌≡◌, ℕ, ◌||◌, Bool, true, false, List, [], ◌∷◌, Some, None, option_map, is_some, reverse, length, slice_index_or}
use Rattle.kk_syntax.specs.PositionsOf.{PositionTable}
use Rattle.kk_syntax.specs.Shapes.{is_among}
use Rattle.kk_emitter.specs.declared.debts.ArmEnd.{ArmEnd}
use Rattle.kk_emitter.specs.declared.debts.ArmEnd.TheVariants.{Value, Tail}
use Rattle.kk_counted.specs.declared.tokened.TokenedFun.{TokenedFun}
use Rattle.kk_counted.specs.Arms.{HasArms}
use Rattle.kk_counted.specs.BareForms.{bare, bare_function}
use Rattle.kk_counted.specs.CountedCodes.{Counted}
use Rattle.kk_counted.specs.CountedForms.{plug}
use Rattle.kk_counted.specs.TokenedCodes.{Tokened}
use Rattle.kk_counted.specs.TokenedForms.{TokenedMove, plug_tokened, tokened_code, tokened_function}
use Rattle.kk_counted.specs.Spending.{numbers_from}
use Rattle.kk_counted.specs.TokenSpending.{SpendsTokens}
use Rattle.kk_counted.specs.KeptFields.{KnownFields, fields_in, forget_slot, forget_variable, forget_variables, known_opened, KeepsKnown, LeavesKnown}
use Rattle.kk_emitter.specs.Emitting.{Works}
use Rattle.kk_emitter.specs.Drafts.{Split, Draft, AreOf, copies, IsOnly, Takes, EndsByCall}
use Rattle.kk_counted.specs.VariableLists.{HasAll, minus_all, AreLow}
use Rattle.kk_counted.specs.Programs.{IsJudged}
use Rattle.kk_emitter.specs.TokenDrafts.{EndedArm, TokenSplit, TokenDraft, bare_moves}

-- steps lead from the tokens that are unspent before them to those that are unspent after them: they, with code behind them
-- that spends the one, spend the other
abbrev pub LeadsTokens : List ℕ → List ℕ → List TokenedMove → Type 0
LeadsTokens before after moves =
    (left : List ℕ) (rest : Tokened) → SpendsTokens left after [] rest → SpendsTokens left before [] (plug_tokened moves rest)

-- each slot is above those of older tokens
abbrev pub AreFalling : List ℕ → Type 0
AreFalling [] = Unit {0}
AreFalling (y ∷ ys) = AreLow y ys × AreFalling ys

-- what is known behind a step of the tokens' fields, and behind several
abbrev pub known_by : TokenedMove → List KnownFields → List KnownFields
known_by (TokenedMove.computes x form arguments others) known = forget_variable x known
known_by (TokenedMove.runs x block) known = []
known_by (TokenedMove.reads x c fields) known = forget_variables fields known
known_by (TokenedMove.opens x c fields used y) known = known_opened fields y known
known_by (TokenedMove.opens_unique x c fields used y) known = known_opened fields y known
known_by (TokenedMove.dups x) known = known
known_by (TokenedMove.drops x) known = known
known_by (TokenedMove.fills x y c one arguments kept others) known = forget_variable x (forget_slot y known)
known_by (TokenedMove.frees y) known = forget_slot y known
known_by (TokenedMove.nulls y) known = forget_slot y known
known_by (TokenedMove.moves to of) known = forget_slot to (forget_slot of known)
known_by (TokenedMove.holds y) known = known
known_by (TokenedMove.unholds y) known = known

abbrev pub known_behind : List TokenedMove → List KnownFields → List KnownFields
known_behind [] known = known
known_behind (move ∷ moves) known = known_behind moves (known_by move known)

-- a step leaves only fields that are known to be its arguments, and so do several
abbrev pub Leaves : List KnownFields → TokenedMove → Type 0
Leaves known (TokenedMove.runs x block) = LeavesKnown known block
Leaves known (TokenedMove.fills x y c one arguments kept others) = KeepsKnown 0 kept (fields_in known y) (one ∷ arguments)
Leaves known _ = Unit {0}

abbrev pub AllLeave : List KnownFields → List TokenedMove → Type 0
AllLeave known [] = Unit {0}
AllLeave known (move ∷ moves) = Leaves known move × AllLeave (known_by move known) moves

-- what the newest block had of tokens as it began, and what was known there of their fields
abbrev pub first_spare : List TokenSplit → List ℕ
first_spare [] = []
first_spare (split ∷ splits) = split.each

abbrev pub first_known : List TokenSplit → List KnownFields
first_known [] = []
first_known (split ∷ splits) = known_behind split.before (first_known splits)

-- what is known where the next step is written
abbrev pub known_now : TokenDraft → List KnownFields
known_now t = known_behind t.moves (first_known t.splits)

-- the fields of the token in a slot at the kept positions are known to be those variables
abbrev pub HasKnown : Draft → TokenDraft → ℕ → List ℕ → List ℕ → Type 0
HasKnown d t slot kept variables = d.failed ≡ false → KeepsKnown 0 kept (fields_in (known_now t) slot) variables

-- arms leave no token
abbrev pub LeaveNone : List EndedArm → Type 0
LeaveNone [] = Unit {0}
LeaveNone (arm ∷ arms) = (arm.spare ≡ []) × LeaveNone arms

-- An arm that is ended is the arm of counted code, with tokens. It leaves only known fields. In a branch without tail calls it
-- gives a value, and its steps lead from the tokens that it is to spend to those that it leaves. In one with tail calls it
-- leaves none, and spends all.
pub record IsTokenArm (each : List ℕ) (known : List KnownFields) (tails : Bool) (arm : EndedArm) (code : Counted) : Type 0 where
  pub plain : plug (bare_moves arm.moves) (bare arm.end) ≡ code
  pub leaves : AllLeave known arm.moves × LeavesKnown (known_behind arm.moves known) arm.end
  pub goes : tails ≡ false
      → (x : ℕ) × ((arm.end ≡ Tokened.give x) × (LeadsTokens each arm.spare arm.moves × AreFalling arm.spare))
  pub stops : tails ≡ true → (arm.spare ≡ []) × SpendsTokens [] each [] (plug_tokened arm.moves arm.end)

abbrev pub AreTokenArms : List ℕ → List KnownFields → Bool → List EndedArm → List Counted → Type 0
AreTokenArms each known tails [] [] = Unit {0}
AreTokenArms each known tails [] (code ∷ codes) = ⊥
AreTokenArms each known tails (arm ∷ arms) [] = ⊥
AreTokenArms each known tails (arm ∷ arms) (code ∷ codes) =
    IsTokenArm each known tails arm code × AreTokenArms each known tails arms codes

-- A branch that is not joined is that of counted code, with tokens: its steps lead from the tokens that its block began with to
-- those that its arms are to spend.
pub record IsTokenSplit (began : List ℕ) (known : List KnownFields) (split : Split) (branch : TokenSplit) : Type 0 where
  pub on : branch.on ≡ split.on
  pub decisions : branch.decisions ≡ split.decisions
  pub tails : branch.tails ≡ split.tails
  pub plain : bare_moves branch.before ≡ split.before
  pub leads : LeadsTokens began branch.each branch.before
  pub leaves : AllLeave known branch.before
  pub falling : AreFalling branch.each
  pub left : branch.left ≡ copies (length split.left) (reverse branch.each)
  pub arms : AreTokenArms branch.each (known_behind branch.before known) branch.tails branch.arms split.arms

abbrev pub AreTokenSplits : List Split → List TokenSplit → Type 0
AreTokenSplits [] [] = Unit {0}
AreTokenSplits [] (branch ∷ branches) = ⊥
AreTokenSplits (split ∷ splits) [] = ⊥
AreTokenSplits (split ∷ splits) (branch ∷ branches) =
    IsTokenSplit (first_spare branches) (first_known branches) split branch × AreTokenSplits splits branches

-- The steps lead from the tokens that the block began with to those that are unspent, and leave only known fields; a block whose
-- end is known spends all of them; and without tokens all is as in the draft.
pub record IsTokened (d : Draft) (t : TokenDraft) : Type 0 where
  pub plain : bare_moves t.moves ≡ d.steps
  pub leads : d.inside ≡ true → d.ending ≡ None → LeadsTokens (first_spare t.splits) t.spare t.moves
  pub leaves : AllLeave (first_known t.splits) t.moves
  pub falling : AreFalling t.spare
  pub splits : AreTokenSplits d.splits t.splits
  pub ending : option_map bare t.ending ≡ d.ending
  pub closed : (code : Tokened) → t.ending ≡ Some code
      → (t.spare ≡ []) × (SpendsTokens [] (first_spare t.splits) [] (plug_tokened t.moves code) × LeavesKnown (known_now t) code)
  pub quiet : d.inside ≡ false → (t.moves ≡ []) × (t.ending ≡ None)

-- so it is, if no call found no memory
abbrev pub KeepsTokens : Draft → TokenDraft → Type 0
KeepsTokens d t = d.failed ≡ false → IsTokened d t

-- what an emitter has written is sound, without tokens and with them
abbrev pub IsSoundEmission : Draft → TokenDraft → Type 0
IsSoundEmission d t = Works d × KeepsTokens d t

-- the token in the slot, by an emitter of that instance, is unspent
abbrev pub HasSpare : Draft → TokenDraft → ℕ → ℕ → Type 0
HasSpare d t emitter slot = d.failed ≡ false → (emitter ≡ d.instance) × (is_among t.spare slot ≡ true)

-- no token is unspent
abbrev pub HasNoSpare : Draft → TokenDraft → Type 0
HasNoSpare d t = d.failed ≡ false → t.spare ≡ []

-- the slots, of an emitter of that instance, are those of all unspent tokens
abbrev pub HasAllSpare : Draft → TokenDraft → ℕ → List ℕ → Type 0
HasAllSpare d t emitter slots =
    d.failed ≡ false → AreOf d.instance slots emitter × (HasAll slots t.spare × (minus_all slots t.spare ≡ []))

-- the tokens of the newest branch that are left for arms that are not entered
abbrev pub AreNewestTokens : List TokenSplit → List (List ℕ) → Type 0
AreNewestTokens [] left = ⊥
AreNewestTokens (split ∷ splits) left = split.left ≡ left

-- where an arm of the newest branch ends by a tail call, no arm leaves a token, and this one has none
abbrev pub AreNone : Bool → List EndedArm → List ℕ → Type 0
AreNone false arms spare = Unit {0}
AreNone true arms spare = (spare ≡ []) × LeaveNone arms

abbrev pub CanEnd : TokenDraft → Bool → List TokenSplit → Type 0
CanEnd t tails [] = Unit {0}
CanEnd t tails (split ∷ splits) = AreNone (split.tails || tails) split.arms t.spare

-- An arm may end so: by a variable that is all that it owns and all of its tokens, or by a tail call without tokens.
abbrev pub EndsTokenArm : Draft → TokenDraft → ArmEnd → Type 0
EndsTokenArm d t (Value owed debts) =
    IsOnly d owed.emitter owed.variable × (HasAllSpare d t debts.emitter debts.spare.items
    × (d.failed ≡ false → (debts.variables.items ≡ []) × CanEnd t (is_some t.ending) t.splits))
EndsTokenArm d t (Tail f arguments) =
    (d.failed ≡ false → d.ending ≡ None) × (Takes d f arguments.items × (EndsByCall d f arguments.items
    × (HasNoSpare d t × (d.failed ≡ false → CanEnd t true t.splits))))

-- The function of an instance in code with tokens. Without them it is judged as a function of counted code is, and with them
-- it spends each token that it makes, and leaves only known fields.
pub record IsTokenedFunctionOf (positions : PositionTable) (f : ℕ) (fun : TokenedFun) : Type 0 where
  pub parameters : fun.parameters ≡ length (slice_index_or positions f [])
  pub judged : IsJudged positions f (bare_function (tokened_function fun))
  pub arms : HasArms (bare (tokened_code fun.body))
  pub tokens : SpendsTokens [] [] [] (tokened_code fun.body)
  pub leaves : LeavesKnown [] (tokened_code fun.body)

-- the variables that the fields of a cell of a constructor are to take
abbrev pub fields_at : Draft → ℕ → List ℕ
fields_at d constructor = numbers_from d.next (slice_index_or d.field_counts constructor 0)
