-- In each state of a run of code that leaves only known fields, these are there in the token's cell, and they are the new ones.
use Rattle.std.proofs.Common.{◌≡◌, ◌⊎◌, inl, inr, ℕ, suc, Bool, true, false, List, [], ◌∷◌, map, length, Some, refl, sym, ap, ◌∙◌, subst}
use Rattle.std.specs.Prelude.{slice_get, if◌then◌else◌}
use Rattle.kk_syntax.specs.Shapes.{is_among}
use Rattle.kk_source.specs.State.{Value, Environment}
use Rattle.kk_source.specs.Live.{value_of}
use Rattle.kk_counted.specs.Heaps.{Heap, fields_held}
use Rattle.kk_counted.specs.KeptFields.{KnownFields, fields_in, KeepsKnown, LeavesKnown}
use Rattle.kk_counted.specs.TokenedCodes.{Tokened, TokenedFunction}
use Rattle.kk_counted.specs.Tokens.{Slot, token}
use Rattle.kk_counted.specs.TokenStates.{TokenSetting, TokenControl, TokenConfiguration, TokenState}
use Rattle.kk_counted.specs.TokenMachine.{left_in, filled}
use Rattle.kk_counted.specs.TokenSpending.{AreTokensSpent}
use Rattle.kk_counted.specs.TokenKeeping.{FillsAt, token_after}
use Rattle.kk_counted.proofs.FieldKnowledge.{AreTrue, known_true}
use Rattle.kk_counted.proofs.KnownSteps.{IsKnownAt}
use Rattle.kk_counted.proofs.KnownRuns.{good_after}

-- at the kept positions, counted from a first one on, old fields are there, which are the new ones
abbrev pub AreKeptFields : ℕ → List ℕ → List Value → List Value → Type 0
AreKeptFields next kept olds [] = Unit {0}
AreKeptFields next kept [] (new ∷ news) = (is_among kept next ≡ false) × AreKeptFields (suc next) kept [] news
AreKeptFields next kept (old ∷ olds) (new ∷ news) =
    (is_among kept next ≡ true → old ≡ new) × AreKeptFields (suc next) kept olds news

-- so leaving them writes all
pub kept_left : (next : ℕ) (kept : List ℕ) (olds news : List Value) → AreKeptFields next kept olds news
    → left_in next kept olds news ≡ news
kept_left next kept [] [] are = refl
kept_left next kept (old ∷ olds) [] are = refl
kept_left next kept [] (new ∷ news) are = refl
kept_left next kept (old ∷ olds) (new ∷ news) are = by (is_among kept next) are.0 (kept_left (suc next) kept olds news are.1)
  where
    by : (t : Bool) → (t ≡ true → old ≡ new) → left_in (suc next) kept olds news ≡ news
        → (if t then old else new) ∷ left_in (suc next) kept olds news ≡ new ∷ news
    by true same later = ap (λ v. v ∷ left_in (suc next) kept olds news) (same refl) ∙ ap (λ vs. new ∷ vs) later
    by false same later = ap (λ vs. new ∷ vs) later

-- the fields of a filled cell that are kept
abbrev pub KeepsAt : TokenConfiguration → TokenControl → Type 0
KeepsAt c (TokenControl.running (Tokened.fill x y k first arguments kept others rest) environment joins) =
    (p : ℕ) → c.tokens.slots (length c.frames) y ≡ token p
    → AreKeptFields 0 kept (fields_held c.heap p) (map (value_of environment) (first ∷ arguments))
KeepsAt c _ = Unit {0}

-- so a construction that leaves them writes all
pub keeps_fills : (leaves : Bool) (c : TokenConfiguration) (control : TokenControl) → KeepsAt c control → FillsAt leaves c control
keeps_fills leaves c (TokenControl.running code environment joins) keeps = at code keeps
  where
    by : (left : Bool) (kept : List ℕ) (olds news : List Value) → AreKeptFields 0 kept olds news → filled left kept olds news ≡ news
    by true kept olds news are = kept_left 0 kept olds news are
    by false kept olds news are = refl

    at : (code : Tokened) → KeepsAt c (TokenControl.running code environment joins)
        → FillsAt leaves c (TokenControl.running code environment joins)
    at (Tokened.fill x y k first arguments kept others rest) given =
        λ p is. by leaves kept (fields_held c.heap p) (map (value_of environment) (first ∷ arguments)) (given p is)
    at _ given = tt
keeps_fills leaves c (TokenControl.stopped by) keeps = tt
keeps_fills leaves c TokenControl.stuck keeps = tt

none_kept : (environment : Environment) (next : ℕ) (kept : List ℕ) (olds : List Value) (arguments : List ℕ)
    → KeepsKnown next kept [] arguments → AreKeptFields next kept olds (map (value_of environment) arguments)
none_kept environment next kept olds [] keeps = tt
none_kept environment next kept [] (argument ∷ arguments) keeps =
    (keeps.0, none_kept environment (suc next) kept [] arguments keeps.1)
none_kept environment next kept (old ∷ olds) (argument ∷ arguments) keeps = (
  λ is. let both : true ≡ false = sym is ∙ keeps.0 in cc,
  none_kept environment (suc next) kept olds arguments keeps.1,
)

known_kept : (environment : Environment) (next : ℕ) (kept fields arguments : List ℕ) → KeepsKnown next kept fields arguments
    → AreKeptFields next kept (map (value_of environment) fields) (map (value_of environment) arguments)
known_kept environment next kept fields [] keeps = tt
known_kept environment next kept [] (argument ∷ arguments) keeps =
    (keeps.0, known_kept environment (suc next) kept [] arguments keeps.1)
known_kept environment next kept (field ∷ fields) (argument ∷ arguments) keeps =
    (λ is. ap (value_of environment) (keeps.0 is), known_kept environment (suc next) kept fields arguments keeps.1)

slot_kept : (slots : ℕ → Slot) (heap : Heap) (environment : Environment) (y p : ℕ) (known : List KnownFields)
    (kept arguments : List ℕ) → AreTrue slots heap environment known → slots y ≡ token p
    → KeepsKnown 0 kept (fields_in known y) arguments
    → AreKeptFields 0 kept (fields_held heap p) (map (value_of environment) arguments)
slot_kept slots heap environment y p known kept arguments are has keeps = by (known_true slots heap environment y p known are has)
  where
    by : (fields_in known y ≡ []) ⊎ (fields_held heap p ≡ map (value_of environment) (fields_in known y))
        → AreKeptFields 0 kept (fields_held heap p) (map (value_of environment) arguments)
    by (inl none) =
        none_kept environment 0 kept (fields_held heap p) arguments
        (subst (λ fields. KeepsKnown 0 kept fields arguments) none keeps)
    by (inr is) =
        subst (λ olds. AreKeptFields 0 kept olds (map (value_of environment) arguments)) (sym is)
        (known_kept environment 0 kept (fields_in known y) arguments keeps)

state_keeps : (c : TokenConfiguration) (control : TokenControl) → IsKnownAt c control → KeepsAt c control
state_keeps c (TokenControl.running code environment joins) known = at code known
  where
    at : (code : Tokened) → IsKnownAt c (TokenControl.running code environment joins)
        → KeepsAt c (TokenControl.running code environment joins)
    at (Tokened.fill x y k first arguments kept others rest) given =
        λ p is. slot_kept (c.tokens.slots (length c.frames)) c.heap environment y p given.known kept (first ∷ arguments) given.are
        is given.leaves.0
    at _ given = tt
state_keeps c (TokenControl.stopped by) known = tt
state_keeps c TokenControl.stuck known = tt

-- each state keeps such fields alone
pub keeps_always : (weight : TokenState → ℕ) (setting : TokenSetting) → AreTokensSpent setting.program
    → ((f : ℕ) (function : TokenedFunction) → slice_get setting.program.functions f ≡ Some function
    → LeavesKnown [] function.body)
    → (input : List ℕ) (n : ℕ)
    → KeepsAt (token_after weight setting input n) (token_after weight setting input n).control
keeps_always weight setting spends leaves input n =
    state_keeps (token_after weight setting input n) (token_after weight setting input n).control
    (good_after weight setting spends leaves input n).known

-- a construction that writes all of its fields
pub keeps_none : (next : ℕ) (fields arguments : List ℕ) → KeepsKnown next [] fields arguments
keeps_none next fields [] = tt
keeps_none next [] (argument ∷ arguments) = (refl, keeps_none (suc next) [] arguments)
keeps_none next (field ∷ fields) (argument ∷ arguments) = (λ is. absurd (cc), keeps_none (suc next) fields arguments)
