-- Code with calls in line is well formed where the code is.
use Rattle.std.proofs.Common.{◌≡◌, ◌<◌, ◌≤◌, inl, inr, ℕ, zero, suc, List, [], ◌∷◌, ◌++◌, Option, Some, None, Bool, true, false}
use Rattle.std.proofs.Common.{◌&&◌, cond, map, length, slice_get, All, refl, sym, ap, ◌∙◌, subst, arith}
use Rattle.std.specs.Prelude.{not, IsSome}
use Rattle.std.proofs.lemmas.Bool.{false≢true}
use Rattle.std.proofs.lemmas.List.{length-map}
use Rattle.std.proofs.lemmas.List.Elements.{All-nil, All-cons, All-head, All-tail}
use Rattle.kk_base.specs.Limits.{greatest_of}
use Rattle.kk_base.specs.declared.limit.LimitKind.TheVariants.{Parameters}
use Rattle.rv_isa.specs.declared.asm.Action.{Action}
use Rattle.rv_isa.specs.declared.asm.Action.TheVariants.{Compute, Label, Jump, Branch, Call, TailCall, Return, Routine, Hold}
use Rattle.rv_isa.specs.declared.asm.Action.TheVariants.{Unhold, Room}
use Rattle.rv_isa.specs.declared.asm.Operation.{Operation}
use Rattle.rv_isa.specs.declared.asm.Operation.TheVariants.{Register, Immediate, Shift, Li, Mv, La, Lw, Sw, Dup, Free}
use Rattle.rv_isa.specs.AsmCode.{Line, Lines}
use Rattle.rv_isa.specs.AsmMachine.{is_label}
use Rattle.rv_isa.specs.Frames.{found, is_among}
use Rattle.rv_isa.specs.ValueBounds.{AreValuesBelow, IsWrittenBelow, IsLineBelow, AreLinesBelow, HasValuesBelow}
use Rattle.rv_isa.specs.WellFormed.{is_written, is_alive, is_alive_at, is_alive_behind, most_values, AreLabelsAhead, most_args}
use Rattle.rv_isa.specs.WellFormed.{may_give, hands_over, AreDistinct, IsSpent, IsLineFormed, AreLinesFormed}
use Rattle.rv_isa.specs.WellFormed.{IsWellFormed, AreWellFormed}
use Rattle.rv_isa.proofs.ValueBounds.{values_below}
use Rattle.rv_inline.specs.InLine.{is_pure, computes, AreComputing, gives_back, named, named_line, copy, room}
use Rattle.rv_inline.specs.InLine.{lines_for, AreInLine, IsInLine, HaveInLine, HasInLine}
use Rattle.rv_inline.proofs.Labels.{marks, passed_by, behind_call}
use Rattle.rv_inline.proofs.LeafSteps.{computing_action}
use Rattle.rv_inline.proofs.LinePlaces.{found_place}
use Rattle.rv_inline.proofs.ValueCounts.{lines_below}
use Rattle.rv_inline.proofs.Aliveness.{and_more, no_more, after_more, IsNoMoreAlive, no_more_alive}
use Rattle.rv_inline.proofs.HeldValues.{tokens_held}

-- ---- labels

-- a label that stands nowhere in code stands nowhere in that with calls in line
none_in_line : (q : List Lines) (l base : ℕ) (old new : List Line) → AreInLine q base old new → found (marks l) old ≡ None
    → found (marks l) new ≡ None
none_in_line q l base [] new is none = ap (found (marks l)) is
none_in_line q l base (line ∷ old) new (inl (rest, (new_is, is))) none =
    ap (found (marks l)) new_is ∙ by (marks l line) none (none_in_line q l base old rest is)
  where
    by : (here : Bool) → cond here (Some (line ∷ old)) (found (marks l) old) ≡ None
        → (found (marks l) old ≡ None → found (marks l) rest ≡ None)
        → cond here (Some (line ∷ rest)) (found (marks l) rest) ≡ None
    by true at later = cc at
    by false at later = later at
none_in_line q l base (line ∷ old) new (inr (call, (rest, (new_is, is)))) none =
    let no_label : marks l line ≡ false = ap (is_label l) call.calls in
    let behind : found (marks l) old ≡ None
    = sym (passed_by (marks l line) (Some (line ∷ old)) (found (marks l) old) no_label) ∙ none in
    ap (found (marks l)) new_is ∙ behind_call q l base line call rest ∙ none_in_line q l base old rest is behind

some_of : {A : Type 0} (o : Option A) → IsSome o → (a : A) × (o ≡ Some a)
some_of None is = cc is
some_of (Some a) is = (a, refl)

is_some : {A : Type 0} (o : Option A) (a : A) → o ≡ Some a → IsSome o
is_some o a is = subst IsSome (sym is) refl

some_in_line : (q : List Lines) (l base : ℕ) (old new : List Line) → AreInLine q base old new → AreLinesBelow base old
    → IsSome (found (marks l) old) → IsSome (found (marks l) new)
some_in_line q l base old new is below some =
    let at = some_of (found (marks l) old) some in
    let there = found_place q l base old new at.0 is below at.1 in
    is_some (found (marks l) new) there.0 there.1.0

labels_ahead : (q : List Lines) (base : ℕ) (action : Action) (old new : List Line) → AreInLine q base old new
    → AreLinesBelow base old → AreLabelsAhead action old → AreLabelsAhead action new
labels_ahead q base (Compute operation) old new is below ahead = tt
labels_ahead q base (Label l) old new is below ahead = none_in_line q l base old new is ahead
labels_ahead q base (Jump l) old new is below ahead = some_in_line q l base old new is below ahead
labels_ahead q base (Branch condition l) old new is below ahead = some_in_line q l base old new is below ahead
labels_ahead q base (Call g) old new is below ahead = tt
labels_ahead q base (TailCall g) old new is below ahead = tt
labels_ahead q base Return old new is below ahead = tt
labels_ahead q base (Routine routine) old new is below ahead = tt
labels_ahead q base Hold old new is below ahead = tt
labels_ahead q base Unhold old new is below ahead = tt
labels_ahead q base Room old new is below ahead = tt

-- ---- lines

spent_still : (line : Line) (old new : List Line) → IsNoMoreAlive new old → (args : List ℕ) → All (IsSpent line old) args
    → All (IsSpent line new) args
spent_still line old new less [] spent = All-nil (IsSpent line new)
spent_still line old new less (v ∷ args) spent =
    All-cons (IsSpent line new) v args
    (no_more (not (is_written line.into v) && is_alive_behind v line.action old)
    (not (is_written line.into v) && is_alive_behind v line.action new)
    (and_more (not (is_written line.into v)) (is_alive_behind v line.action new) (is_alive_behind v line.action old)
    (after_more line.action (is_alive v new) (is_alive v old) (λ l. is_alive_at l v new) (λ l. is_alive_at l v old) (less.here v)
    (λ l. less.at l v))) (All-head (IsSpent line old) v args spent))
    (spent_still line old new less args (All-tail (IsSpent line old) v args spent))

-- a line that stays
stays_formed : (q : List Lines) (base : ℕ) (line : Line) (old new : List Line) → AreInLine q base old new → AreLinesBelow base old
    → IsNoMoreAlive new old → IsLineFormed line old → IsLineFormed line new
stays_formed q base line old new is below less formed = record {
  labels = labels_ahead q base line.action old new is below formed.labels;
  few = formed.few;
  gives = formed.gives;
  distinct = formed.distinct;
  spent = λ hands. spent_still line old new less line.args (formed.spent hands);
  args_small = formed.args_small;
  into_small = formed.into_small;
}

all_of_each : (most : ℕ) (values : List ℕ) → AreValuesBelow most values → All (λ v. v < most) values
all_of_each most [] below = All-nil (λ v. v < most)
all_of_each most (v ∷ values) below = All-cons (λ v. v < most) v values below.0 (all_of_each most values below.1)

into_of : (most : ℕ) (into : Option ℕ) → IsWrittenBelow most into → (v : ℕ) → into ≡ Some v → v < most
into_of most None below v is = cc is
into_of most (Some w) below v is = let same : w ≡ v = cc is in subst (λ n. n < most) same below

gives_value : (operation : Operation) → is_pure operation ≡ true → may_give (Compute operation) ≡ true
gives_value (Register operation) pure = refl
gives_value (Immediate operation immediate) pure = refl
gives_value (Shift operation amount) pure = refl
gives_value (Li word) pure = refl
gives_value Mv pure = refl
gives_value (La constant) pure = refl
gives_value (Lw offset) pure = refl
gives_value (Sw offset) pure = cc pure
gives_value Dup pure = cc pure
gives_value Free pure = cc pure

-- a line that computes
computing_formed : (line : Line) (rest : List Line) → computes line.action ≡ true → length line.args ≤ 2 → IsLineBelow most_values line
    → IsLineFormed line rest
computing_formed line rest is few below =
    let operation = computing_action line.action is in
    let pure : is_pure operation.0 ≡ true = ap computes (sym operation.1) ∙ is in
    record {
      labels = subst (λ (action : Action). AreLabelsAhead action rest) (sym operation.1) tt;
      few = subst (λ (action : Action). length line.args ≤ most_args action) (sym operation.1) few;
      gives = λ some. ap may_give operation.1 ∙ gives_value operation.0 pure;
      distinct = λ hands. absurd (false≢true (ap hands_over (sym operation.1) ∙ hands));
      spent = λ hands. absurd (false≢true (ap hands_over (sym operation.1) ∙ hands));
      args_small = all_of_each most_values line.args below.0;
      into_small = into_of most_values line.into below.1;
    }

room_formed : (rest : List Line) → IsLineFormed room rest
room_formed rest = record {
  labels = tt;
  few = omega arith;
  gives = λ some. absurd (false≢true some);
  distinct = λ hands. tt;
  spent = λ hands. All-nil (IsSpent room rest);
  args_small = All-nil (λ v. v < most_values);
  into_small = λ v is. cc is;
}

few_computing : (line : Line) (rest : List Line) → computes line.action ≡ true → IsLineFormed line rest → length line.args ≤ 2
few_computing line rest is formed =
    let operation = computing_action line.action is in
    subst (λ (action : Action). length line.args ≤ most_args action) operation.1 formed.few

-- the lines of a leaf
leaf_formed : (base count : ℕ) (args : List ℕ) (value into : ℕ) (body rest : List Line) → AreComputing count body
    → AreLinesFormed (body ++ (gives_back value ∷ []))
    → AreLinesBelow most_values (map (named_line base args) body ++ (copy (named base args value) into ∷ rest)) → AreLinesFormed rest
    → AreLinesFormed (map (named_line base args) body ++ (copy (named base args value) into ∷ rest))
leaf_formed base count args value into [] rest computing formed below behind =
    (computing_formed (copy (named base args value) into) rest refl (omega arith) below.0, behind)
leaf_formed base count args value into (line ∷ body) rest computing formed below behind =
    let few : length line.args ≤ 2 = few_computing line (body ++ (gives_back value ∷ [])) computing.0.0 formed.0 in
    let same : length (map (named base args) line.args) ≡ length line.args = length-map line.args (named base args) in (
      computing_formed (named_line base args line) (map (named_line base args) body ++ (copy (named base args value) into ∷ rest))
          computing.0.0 (omega (arith, few, same)) below.0,
      leaf_formed base count args value into body rest computing.1 formed.1 below.1 behind,
    )

-- what stands behind the lines of a leaf
behind_body : (base : ℕ) (args : List ℕ) (body rest : List Line) (last : Line)
    → AreLinesBelow most_values (map (named_line base args) body ++ (last ∷ rest)) → AreLinesBelow most_values rest
behind_body base args [] rest last below = below.1
behind_body base args (line ∷ body) rest last below = behind_body base args body rest last below.1

-- ---- functions

formed_at : (q : List Lines) (f : ℕ) (function : Lines) → AreWellFormed q → slice_get q f ≡ Some function → IsWellFormed function
formed_at [] f function formed is = cc is
formed_at (first ∷ q) zero function formed is = let same : first ≡ function = cc is in subst IsWellFormed same formed.0
formed_at (first ∷ q) (suc f) function formed is = formed_at q f function formed.1 is

module _ (q : List Lines) (formed : AreWellFormed q) (base : ℕ) where
  starts : (f : ℕ) (leaf : Lines) → slice_get q f ≡ Some leaf → (v : ℕ) → is_alive v leaf.code ≡ true → is_among v leaf.params ≡ true
  starts f leaf is v alive = (formed_at q f leaf formed is).start v alive

  lines_formed : (old new : List Line) → AreInLine q base old new → AreLinesBelow base old → AreLinesBelow most_values new
      → AreLinesFormed old → AreLinesFormed new
  lines_formed [] new is below small lines = subst AreLinesFormed (sym is) tt
  lines_formed (line ∷ old) new (inl (rest, (new_is, is))) below small lines =
      let small_rest : AreLinesBelow most_values (line ∷ rest) = subst (AreLinesBelow most_values) new_is small in
      let both : AreLinesFormed (line ∷ rest)
      = (
        stays_formed q base line old rest is below.1 (no_more_alive q base starts old rest is) lines.0,
        lines_formed old rest is below.1 small_rest.1 lines.1,
      ) in
      subst AreLinesFormed (sym new_is) both
  lines_formed (line ∷ old) new (inr (call, (rest, (new_is, is)))) below small lines =
      let small_all : AreLinesBelow most_values (lines_for line call rest) = subst (AreLinesBelow most_values) new_is small in
      let leaf : AreLinesFormed (call.body ++ (gives_back call.value ∷ []))
      = subst AreLinesFormed call.is_leaf.code (formed_at q call.function call.leaf formed call.leaf_is).lines in
      let behind : AreLinesFormed rest = lines_formed old rest is below.1 (behind_body base line.args call.body rest (copy (named base line.args call.value) call.into) small_all.1) lines.1 in
      let all : AreLinesFormed (lines_for line call rest)
      = (
        room_formed _,
        leaf_formed base (length call.leaf.params) line.args call.value call.into call.body rest call.is_leaf.computing leaf
            small_all.1 behind,
      ) in
      subst AreLinesFormed (sym new_is) all

  pub function_formed : (old new : Lines) → IsInLine q base old new → IsWellFormed old → IsWellFormed new
  function_formed old new is well =
      let low : HasValuesBelow most_values old = values_below old well in
      let small : AreLinesBelow most_values new.code
      = lines_below q base most_values most_values old.code new.code (omega arith) (λ line call. call.fits) is.code low.1 in
      record {
        lines = lines_formed old.code new.code is.code is.below.1 small well.lines;
        tokens = tokens_held q base [] old.code new.code is.code tt is.below.1 well.tokens;
        params = subst AreDistinct (sym is.params) well.params;
        few_params = subst (λ (params : List ℕ). length params ≤ greatest_of Parameters) (sym is.params) well.few_params;
        params_small = subst (All (λ v. v < most_values)) (sym is.params) well.params_small;
        start = λ v alive. subst (λ (params : List ℕ). is_among v params ≡ true) (sym is.params)
            (well.start v ((no_more_alive q base starts old.code new.code is.code).here v alive));
      }

functions_formed : (q : List Lines) → AreWellFormed q → (olds news : List Lines) → HaveInLine q olds news → AreWellFormed olds
    → AreWellFormed news
functions_formed q formed [] [] all well = tt
functions_formed q formed [] (new ∷ news) all well = absurd all
functions_formed q formed (old ∷ olds) [] all well = absurd all
functions_formed q formed (old ∷ olds) (new ∷ news) all well =
    (function_formed q formed all.0.0 old new all.0.1 well.0, functions_formed q formed olds news all.1 well.1)

-- so is a program
pub program_formed : (q q' : List Lines) → HasInLine q q' → AreWellFormed q → AreWellFormed q'
program_formed q q' all formed = functions_formed q formed q q' all formed
