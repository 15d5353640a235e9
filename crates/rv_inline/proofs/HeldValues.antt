-- Tokens that are held in the code are held in that with calls in line.
use Rattle.std.proofs.Common.{◌≡◌, ◌==◌, ◌<◌, ◌≤◌, ◌⊎◌, inl, inr, ℕ, List, [], ◌∷◌, ◌++◌, Option, Some, None, Bool, true, false}
use Rattle.std.proofs.Common.{map, length, refl, sym, ap, ◌∙◌, subst, arith, option_map}
use Rattle.std.proofs.lemmas.Bool.{eqb-true, ne_eqb, false≢true, cases_lt}
use Rattle.rv_isa.specs.declared.asm.Action.{Action}
use Rattle.rv_isa.specs.declared.asm.Action.TheVariants.{Compute, Label, Jump, Branch, Call, TailCall, Return, Routine, Hold}
use Rattle.rv_isa.specs.declared.asm.Action.TheVariants.{Unhold, Room}
use Rattle.rv_isa.specs.AsmCode.{Line, Lines}
use Rattle.rv_isa.specs.Frames.{is_among}
use Rattle.rv_isa.specs.ValueBounds.{AreValuesBelow, AreLinesBelow}
use Rattle.rv_isa.specs.WellFormed.{is_written, first_of, ChangesHeld, LeavesHeld, AreTokensHeld}
use Rattle.rv_inline.specs.InLine.{computes, AreComputing, named, named_line, copy, lines_for, AreInLine}
use Rattle.rv_inline.proofs.FrameValues.{named_high}
use Rattle.rv_inline.proofs.Aliveness.{or_cases, among_named, argument_named}

-- ---- what is held is named by the code

below_joined : (base : ℕ) (xs ys : List ℕ) → AreValuesBelow base xs → AreValuesBelow base ys → AreValuesBelow base (xs ++ ys)
below_joined base [] ys first second = second
below_joined base (x ∷ xs) ys first second = (first.0, below_joined base xs ys first.1 second)

below_behind : (base : ℕ) (xs ys : List ℕ) → AreValuesBelow base (xs ++ ys) → AreValuesBelow base ys
below_behind base [] ys below = below
below_behind base (x ∷ xs) ys below = below_behind base xs ys below.1

first_below : (base : ℕ) (args : List ℕ) → AreValuesBelow base args → AreValuesBelow base (first_of args)
first_below base [] below = tt
first_below base (v ∷ args) below = (below.0, tt)

behind_below : (base : ℕ) (action : Action) (args before behind : List ℕ) → AreValuesBelow base args → AreValuesBelow base before
    → ChangesHeld action args before behind → AreValuesBelow base behind
behind_below base (Compute operation) args before behind below held changes = subst (AreValuesBelow base) changes.0 held
behind_below base (Label l) args before behind below held changes = subst (AreValuesBelow base) changes.0 held
behind_below base (Jump l) args before behind below held changes = subst (AreValuesBelow base) changes.0 held
behind_below base (Branch condition l) args before behind below held changes = subst (AreValuesBelow base) changes.0 held
behind_below base (Call g) args before behind below held changes = subst (AreValuesBelow base) changes.0 held
behind_below base (TailCall g) args before behind below held changes = subst (AreValuesBelow base) changes.0 held
behind_below base Return args before behind below held changes = subst (AreValuesBelow base) changes.0 held
behind_below base (Routine routine) args before behind below held changes = subst (AreValuesBelow base) changes.0 held
behind_below base Hold args before behind below held changes =
    subst (AreValuesBelow base) (sym changes) (below_joined base (first_of args) before (first_below base args below) held)
behind_below base Unhold args before behind below held changes =
    below_behind base args behind (subst (AreValuesBelow base) changes held)
behind_below base Room args before behind below held changes = subst (AreValuesBelow base) changes.0 held

among_below : (base v : ℕ) (values : List ℕ) → AreValuesBelow base values → is_among v values ≡ true → v < base
among_below base v [] below among = absurd (false≢true among)
among_below base v (x ∷ values) below among = by (or_cases (x == v) (is_among v values) among) (among_below base v values below.1)
  where
    by : ((x == v) ≡ true) ⊎ (is_among v values ≡ true) → (is_among v values ≡ true → v < base) → v < base
    by (inl here) later = subst (λ n. n < base) (eqb-true x v here) below.0
    by (inr behind) later = later behind

-- ---- a leaf in line

-- the values of a leaf are not among what is held over its call
module _ (base : ℕ) (args held : List ℕ) (below : AreValuesBelow base held)
    (apart : (v : ℕ) → is_among v held ≡ true → is_among v args ≡ false) where
  not_named : (v u : ℕ) → is_among v held ≡ true → named base args u ≡ v → ⊥
  not_named v u among names = by (cases_lt u (length args))
    where
      by : (u < length args) ⊎ (length args ≤ u) → ⊥
      by (inl low) =
          false≢true (sym (apart v among)
          ∙ subst (λ (w : ℕ). is_among w args ≡ true) names (argument_named base args u low))
      by (inr high) =
          absurd (omega (arith, names, among_below base v held below among, named_high base args u high))

  not_read : (v : ℕ) (values : List ℕ) → is_among v held ≡ true → is_among v (map (named base args) values) ≡ false
  not_read v values among = by (is_among v (map (named base args) values)) refl
    where
      by : (read : Bool) → is_among v (map (named base args) values) ≡ read → is_among v (map (named base args) values) ≡ false
      by true is = let there = among_named (named base args) values v is in absurd (not_named v there.0 among there.1.1)
      by false is = is

  not_written : (v : ℕ) (into : Option ℕ) → is_among v held ≡ true → is_written (option_map (named base args) into) v ≡ false
  not_written v None among = refl
  not_written v (Some w) among = ne_eqb (named base args w) v (λ names. not_named v w among names)

  computing_changes : (action : Action) (values : List ℕ) → computes action ≡ true → ChangesHeld action values held held
  computing_changes (Compute operation) values is = (refl, λ goes. absurd (false≢true (sym goes)))
  computing_changes (Label l) values is = cc is
  computing_changes (Jump l) values is = cc is
  computing_changes (Branch condition l) values is = cc is
  computing_changes (Call g) values is = cc is
  computing_changes (TailCall g) values is = cc is
  computing_changes Return values is = cc is
  computing_changes (Routine routine) values is = cc is
  computing_changes Hold values is = cc is
  computing_changes Unhold values is = cc is
  computing_changes Room values is = cc is

  leaf_holds : (count value into : ℕ) (body rest : List Line) → AreComputing count body
      → ((v : ℕ) → is_among v held ≡ true → is_written (Some into) v ≡ false) → AreTokensHeld held rest
      → AreTokensHeld held (map (named_line base args) body ++ (copy (named base args value) into ∷ rest))
  leaf_holds count value into [] rest computing free later = (
    held,
    (
      (refl, λ goes. absurd (false≢true (sym goes))),
      (
        λ v among same. (not_read v (value ∷ []) among, free v among),
        later,
      ),
    ),
  )
  leaf_holds count value into (line ∷ body) rest computing free later = (
    held,
    (
      computing_changes line.action (map (named base args) line.args) computing.0.0,
      (
        λ v among same. (not_read v line.args among, not_written v line.into among),
        leaf_holds count value into body rest computing.1 free later,
      ),
    ),
  )

-- ---- code

call_changes : (action : Action) (g : ℕ) (args before behind : List ℕ) → action ≡ Call g → ChangesHeld action args before behind
    → before ≡ behind
call_changes action g args before behind is changes =
    (subst (λ (a : Action). ChangesHeld a args before behind) is changes).0

pub tokens_held : (q : List Lines) (base : ℕ) (held : List ℕ) (old new : List Line) → AreInLine q base old new
    → AreValuesBelow base held → AreLinesBelow base old → AreTokensHeld held old → AreTokensHeld held new
tokens_held q base held [] new is small below tokens = subst (AreTokensHeld held) (sym is) tokens
tokens_held q base held (line ∷ old) new (inl (rest, (new_is, is))) small below tokens =
    let behind : List ℕ = tokens.0 in
    let next : AreValuesBelow base behind = behind_below base line.action line.args held behind below.0.0 small tokens.1.0 in
    let all : AreTokensHeld held (line ∷ rest)
    = (behind, (tokens.1.0, (tokens.1.1.0, tokens_held q base behind old rest is next below.1 tokens.1.1.1))) in
    subst (AreTokensHeld held) (sym new_is) all
tokens_held q base held (line ∷ old) new (inr (call, (rest, (new_is, is)))) small below tokens =
    let same : held ≡ tokens.0 = call_changes line.action call.function line.args held tokens.0 call.calls tokens.1.0 in
    let leaves : LeavesHeld line held held = subst (LeavesHeld line held) (sym same) tokens.1.1.0 in
    let later : AreTokensHeld held old = subst (λ (h : List ℕ). AreTokensHeld h old) (sym same) tokens.1.1.1 in
    let behind : AreTokensHeld held rest = tokens_held q base held old rest is small below.1 later in
    let all : AreTokensHeld held (lines_for line call rest)
    = (
      held,
      (
        (refl, λ goes. absurd (false≢true (sym goes))),
        (
          λ v among again. (refl, refl),
          leaf_holds base line.args held small (λ v among. (leaves v among among).0) (length call.leaf.params) call.value call.into
              call.body rest call.is_leaf.computing
              (λ v among. ap (λ (o : Option ℕ). is_written o v) (sym call.gives) ∙ (leaves v among among).1) behind,
        ),
      ),
    ) in
    subst (AreTokensHeld held) (sym new_is) all
