-- What code with tokens owes to be lowered to assembler code, beside what its bare form owes (Lowerable): its slots are few, tokens
-- are held around rows of calls alone, and a construction leaves only fields that its cell has already.
use Rattle.std.specs.Prelude.{◌≡◌, ℕ, suc, ◌≤◌, false, List, [], ◌∷◌, max, Some, slice_get}
use Rattle.kk_syntax.specs.Shapes.{is_among}
use Rattle.kk_syntax.specs.declared.program.Form.TheVariants.{Call}
use Rattle.kk_core.specs.Sizes.{most_nodes}
use Rattle.kk_counted.specs.KeptFields.{LeavesKnown}
use Rattle.kk_counted.specs.TokenedCodes.{Tokened, TokenedArms, TokenedFunction}

-- ---- slots

-- one more than the greatest of some slots
abbrev pub slots_of : List ℕ → ℕ
slots_of [] = 0
slots_of (y ∷ ys) = max (suc y) (slots_of ys)

-- how many slots a code has: one more than the greatest that it names
abbrev mutual
  pub slots_in : Tokened → ℕ
  slots_in (Tokened.give x) = 0
  slots_in (Tokened.tail_call f arguments) = 0
  slots_in (Tokened.case x decisions arms) = slots_in_arms arms
  slots_in (Tokened.compute x form arguments others rest) = max (slots_of others) (slots_in rest)
  slots_in (Tokened.inside x block rest) = max (slots_in block) (slots_in rest)
  slots_in (Tokened.read x c fields rest) = slots_in rest
  slots_in (Tokened.open_cell x c fields used y rest) = max (suc y) (slots_in rest)
  slots_in (Tokened.if_unique x c fields used y rest) = max (suc y) (slots_in rest)
  slots_in (Tokened.dup x rest) = slots_in rest
  slots_in (Tokened.drop x rest) = slots_in rest
  slots_in (Tokened.fill x y c first arguments kept others rest) = max (suc y) (max (slots_of others) (slots_in rest))
  slots_in (Tokened.free y rest) = max (suc y) (slots_in rest)
  slots_in (Tokened.null y rest) = max (suc y) (slots_in rest)
  slots_in (Tokened.move to of rest) = max (suc to) (max (suc of) (slots_in rest))
  slots_in (Tokened.hold y rest) = max (suc y) (slots_in rest)
  slots_in (Tokened.unhold y rest) = max (suc y) (slots_in rest)
  slots_in (Tokened.if_token y there absent) = max (suc y) (max (slots_in there) (slots_in absent))

  pub slots_in_arms : TokenedArms → ℕ
  slots_in_arms TokenedArms.no_arm = 0
  slots_in_arms (TokenedArms.arm body rest) = max (slots_in body) (slots_in_arms rest)

-- the most slots of a function: it opens no more cells on a path than it has nodes
abbrev pub most_slots : ℕ
most_slots = most_nodes

-- ---- held tokens

-- Code before which the tokens of these slots are held, the newest first: each is held up to its Unhold, and between the two there are
-- calls and drops alone.
abbrev mutual
  pub HoldsAtCalls : List ℕ → Tokened → Type 0
  HoldsAtCalls held (Tokened.give x) = held ≡ []
  HoldsAtCalls held (Tokened.tail_call f arguments) = held ≡ []
  HoldsAtCalls held (Tokened.case x decisions arms) = (held ≡ []) × HoldAtCalls arms
  HoldsAtCalls held (Tokened.compute x (Call f) arguments others rest) = HoldsAtCalls held rest
  HoldsAtCalls held (Tokened.compute x form arguments others rest) = (held ≡ []) × HoldsAtCalls [] rest
  HoldsAtCalls held (Tokened.inside x block rest) = (held ≡ []) × (HoldsAtCalls [] block × HoldsAtCalls [] rest)
  HoldsAtCalls held (Tokened.read x c fields rest) = (held ≡ []) × HoldsAtCalls [] rest
  HoldsAtCalls held (Tokened.open_cell x c fields used y rest) = (held ≡ []) × HoldsAtCalls [] rest
  HoldsAtCalls held (Tokened.if_unique x c fields used y rest) = (held ≡ []) × HoldsAtCalls [] rest
  HoldsAtCalls held (Tokened.dup x rest) = (held ≡ []) × HoldsAtCalls [] rest
  HoldsAtCalls held (Tokened.drop x rest) = HoldsAtCalls held rest
  HoldsAtCalls held (Tokened.fill x y c first arguments kept others rest) = (held ≡ []) × HoldsAtCalls [] rest
  HoldsAtCalls held (Tokened.free y rest) = (held ≡ []) × HoldsAtCalls [] rest
  HoldsAtCalls held (Tokened.null y rest) = (held ≡ []) × HoldsAtCalls [] rest
  HoldsAtCalls held (Tokened.move to of rest) = (held ≡ []) × HoldsAtCalls [] rest
  HoldsAtCalls held (Tokened.hold y rest) = (is_among held y ≡ false) × HoldsAtCalls (y ∷ held) rest
  HoldsAtCalls held (Tokened.unhold y rest) = (older : List ℕ) × ((held ≡ y ∷ older) × HoldsAtCalls older rest)
  HoldsAtCalls held (Tokened.if_token y there absent) = (held ≡ []) × (HoldsAtCalls [] there × HoldsAtCalls [] absent)

  pub HoldAtCalls : TokenedArms → Type 0
  HoldAtCalls TokenedArms.no_arm = Unit {0}
  HoldAtCalls (TokenedArms.arm body rest) = HoldsAtCalls [] body × HoldAtCalls rest

-- ---- functions

pub record IsTokenLowerable (function : TokenedFunction) : Type 0 where
  pub slots : slots_in function.body ≤ most_slots
  pub straight : HoldsAtCalls [] function.body
  pub leaves : LeavesKnown [] function.body

abbrev pub AreTokensLowerable : List TokenedFunction → Type 0
AreTokensLowerable functions =
    (f : ℕ) (function : TokenedFunction) → slice_get functions f ≡ Some function → IsTokenLowerable function
