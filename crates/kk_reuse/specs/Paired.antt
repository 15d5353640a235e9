-- When code with tokens is paired: on each path a construction with fields takes the newest token that is not yet spent, if there is
-- one, and each other token is freed where no construction can follow any more. Tokens are told by their slots: one that is null when
-- the code runs is a token here, and a construction that takes it asks for a cell. That each is spent once is `AreTokensSpent`.
use Rattle.std.specs.Prelude.{◌≡◌, ◌⊎◌, ℕ, Bool, true, false, List, [], ◌∷◌, ◌++◌, Some, slice_get}
use Rattle.kk_counted.specs.BareForms.{bare}
use Rattle.kk_counted.specs.TokenedCodes.{Tokened, TokenedArms, TokenedFunction, TokenedProgram}
use Rattle.kk_reuse.specs.Following.{makes_cell, may_make}

-- tokens are left in front of a code only where it, or what comes behind its block, may make a cell
abbrev pub IsTimely : Bool → List ℕ → Tokened → Type 0
IsTimely behind tokens code = (tokens ≡ []) ⊎ (may_make behind (bare code) ≡ true)

-- some tokens are others without one of them
pub data Without (y : ℕ) : List ℕ → List ℕ → Type 0 where
  here : (older : List ℕ) → Without y (y ∷ older) older
  deeper : (x : ℕ) (tokens others : List ℕ) → Without y tokens others → Without y (x ∷ tokens) (x ∷ others)

-- one token is in another slot, at its place among the others
pub data Renamed (to of : ℕ) : List ℕ → List ℕ → Type 0 where
  here : (older : List ℕ) → Renamed to of (of ∷ older) (to ∷ older)
  deeper : (x : ℕ) (tokens others : List ℕ) → Renamed to of tokens others → Renamed to of (x ∷ tokens) (x ∷ others)

-- Code is paired, by the slots of its tokens, the newest first, and of those that its block leaves. A null token may come in as
-- the oldest.
abbrev mutual
  pub IsPaired : Bool → List ℕ → List ℕ → Tokened → Type 0
  IsPaired behind left tokens (Tokened.give x) = tokens ≡ left
  IsPaired behind left tokens (Tokened.tail_call f arguments) = tokens ≡ []
  IsPaired behind left tokens (Tokened.case x decisions arms) =
      IsTimely behind tokens (Tokened.case x decisions arms) × ArePaired behind left tokens arms
  IsPaired behind left tokens (Tokened.compute x form arguments others rest) =
      IsTimely behind tokens (Tokened.compute x form arguments others rest) × (makes_cell form arguments ≡ true → tokens ≡ [])
      × IsPaired behind left tokens rest
  IsPaired behind left tokens (Tokened.inside x block rest) =
      (outer : List ℕ) × IsTimely behind tokens (Tokened.inside x block rest)
      × IsPaired (may_make behind (bare rest)) outer tokens block × IsPaired behind left outer rest
  IsPaired behind left tokens (Tokened.read x c fields rest) =
      IsTimely behind tokens (Tokened.read x c fields rest) × IsPaired behind left tokens rest
  IsPaired behind left tokens (Tokened.open_cell x c fields used y rest) =
      IsTimely behind tokens (Tokened.open_cell x c fields used y rest) × IsPaired behind left (y ∷ tokens) rest
  IsPaired behind left tokens (Tokened.if_unique x c fields used y rest) =
      IsTimely behind tokens (Tokened.if_unique x c fields used y rest) × IsPaired behind left (y ∷ tokens) rest
  IsPaired behind left tokens (Tokened.dup x rest) =
      IsTimely behind tokens (Tokened.dup x rest) × IsPaired behind left tokens rest
  IsPaired behind left tokens (Tokened.drop x rest) =
      IsTimely behind tokens (Tokened.drop x rest) × IsPaired behind left tokens rest
  IsPaired behind left tokens (Tokened.fill x y c first arguments kept others rest) =
      (older : List ℕ) × (tokens ≡ y ∷ older) × (others ≡ older) × IsPaired behind left older rest
  IsPaired behind left tokens (Tokened.free y rest) =
      (others : List ℕ) × (may_make behind (bare rest) ≡ false) × Without y tokens others × IsPaired behind left others rest
  IsPaired behind left tokens (Tokened.null y rest) = IsPaired behind left (tokens ++ y ∷ []) rest
  IsPaired behind left tokens (Tokened.move to of rest) =
      (others : List ℕ) × Renamed to of tokens others × IsPaired behind left others rest
  IsPaired behind left tokens (Tokened.hold y rest) =
      IsTimely behind tokens (Tokened.hold y rest) × IsPaired behind left tokens rest
  IsPaired behind left tokens (Tokened.unhold y rest) = IsPaired behind left tokens rest
  IsPaired behind left tokens (Tokened.if_token y there absent) =
      IsPaired behind left tokens there × IsPaired behind left tokens absent

  pub ArePaired : Bool → List ℕ → List ℕ → TokenedArms → Type 0
  ArePaired behind left tokens TokenedArms.no_arm = Unit {0}
  ArePaired behind left tokens (TokenedArms.arm body rest) =
      IsPaired behind left tokens body × ArePaired behind left tokens rest

-- each function begins without tokens, and leaves none
abbrev pub AllPaired : TokenedProgram → Type 0
AllPaired program =
    (f : ℕ) (function : TokenedFunction) → slice_get program.functions f ≡ Some function → IsPaired false [] [] function.body
