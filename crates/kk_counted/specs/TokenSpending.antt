-- What code with tokens owes: each token is spent once on each path, and is held wherever a function is called.
use Rattle.std.specs.Prelude.{◌≡◌, ℕ, true, false, List, [], ◌∷◌, Some, slice_get}
use Rattle.kk_syntax.specs.declared.program.Form.{Form}
use Rattle.kk_syntax.specs.declared.program.Form.TheVariants.{Construct, Call}
use Rattle.kk_syntax.specs.Shapes.{is_among, without}
use Rattle.kk_counted.specs.Spending.{AreApart}
use Rattle.kk_counted.specs.TokenedCodes.{Tokened, TokenedArms, TokenedFunction, TokenedProgram}
use Rattle.kk_counted.specs.BareForms.{bare}

-- two lists have the same members
abbrev pub AreSame : List ℕ → List ℕ → Type 0
AreSame xs ys = (y : ℕ) → is_among xs y ≡ is_among ys y

-- At a call each unspent token is held. At a drop between two calls they may stay held. Everywhere else none is; and a construction
-- with fields names all unspent tokens, each once.
abbrev pub AtForm : Form → List ℕ → List ℕ → List ℕ → List ℕ → Type 0
AtForm (Call f) arguments others unspent held = (y : ℕ) → is_among unspent y ≡ true → is_among held y ≡ true
AtForm (Construct c) [] others unspent held = held ≡ []
AtForm (Construct c) (x ∷ xs) others unspent held = (held ≡ []) × (AreApart others × AreSame others unspent)
AtForm _ arguments others unspent held = held ≡ []

-- A code spends its tokens: by the slots that the block leaves unspent to the code behind it, those that are unspent now, and
-- those that are held, the newest first.
abbrev mutual
  pub SpendsTokens : List ℕ → List ℕ → List ℕ → Tokened → Type 0
  SpendsTokens left unspent held (Tokened.give x) = (held ≡ []) × AreSame unspent left
  SpendsTokens left unspent held (Tokened.tail_call f arguments) = (held ≡ []) × AreSame unspent []
  SpendsTokens left unspent held (Tokened.case x decisions arms) = (held ≡ []) × SpendAllTokens left unspent arms
  SpendsTokens left unspent held (Tokened.compute x form arguments others rest) =
      AtForm form arguments others unspent held × SpendsTokens left unspent held rest
  SpendsTokens left unspent held (Tokened.inside x block rest) =
      (outer : List ℕ) × ((held ≡ []) × (SpendsTokens outer unspent [] block × SpendsTokens left outer [] rest))
  SpendsTokens left unspent held (Tokened.read x c fields rest) = (held ≡ []) × SpendsTokens left unspent [] rest
  SpendsTokens left unspent held (Tokened.open_cell x c fields used y rest) =
      (held ≡ []) × ((is_among unspent y ≡ false) × SpendsTokens left (y ∷ unspent) [] rest)
  SpendsTokens left unspent held (Tokened.if_unique x c fields used y rest) =
      (held ≡ []) × ((is_among unspent y ≡ false) × SpendsTokens left (y ∷ unspent) [] rest)
  SpendsTokens left unspent held (Tokened.dup x rest) = (held ≡ []) × SpendsTokens left unspent [] rest
  SpendsTokens left unspent held (Tokened.drop x rest) = SpendsTokens left unspent held rest
  SpendsTokens left unspent held (Tokened.fill x y c first arguments kept others rest) =
      (held ≡ []) × ((is_among unspent y ≡ true) × (AreApart others × (AreSame others (without (y ∷ []) unspent)
      × SpendsTokens left (without (y ∷ []) unspent) [] rest)))
  SpendsTokens left unspent held (Tokened.free y rest) =
      (held ≡ []) × ((is_among unspent y ≡ true) × SpendsTokens left (without (y ∷ []) unspent) [] rest)
  SpendsTokens left unspent held (Tokened.null y rest) =
      (held ≡ []) × ((is_among unspent y ≡ false) × SpendsTokens left (y ∷ unspent) [] rest)
  SpendsTokens left unspent held (Tokened.move to of rest) =
      (held ≡ []) × ((is_among unspent of ≡ true) × ((is_among (without (of ∷ []) unspent) to ≡ false)
      × SpendsTokens left (to ∷ without (of ∷ []) unspent) [] rest))
  SpendsTokens left unspent held (Tokened.hold y rest) =
      (is_among unspent y ≡ true) × ((is_among held y ≡ false) × SpendsTokens left unspent (y ∷ held) rest)
  SpendsTokens left unspent held (Tokened.unhold y rest) =
      (older : List ℕ) × ((held ≡ y ∷ older) × ((is_among unspent y ≡ true) × SpendsTokens left unspent older rest))
  SpendsTokens left unspent held (Tokened.if_token y there absent) =
      (is_among unspent y ≡ true) × ((bare absent ≡ bare there)
      × (SpendsTokens left unspent held there × SpendsTokens left unspent held absent))

  pub SpendAllTokens : List ℕ → List ℕ → TokenedArms → Type 0
  SpendAllTokens left unspent TokenedArms.no_arm = Unit {0}
  SpendAllTokens left unspent (TokenedArms.arm body rest) = SpendsTokens left unspent [] body × SpendAllTokens left unspent rest

-- each function begins without tokens, and leaves none
abbrev pub AreTokensSpent : TokenedProgram → Type 0
AreTokensSpent program =
    (f : ℕ) (function : TokenedFunction) → slice_get program.functions f ≡ Some function → SpendsTokens [] [] [] function.body
