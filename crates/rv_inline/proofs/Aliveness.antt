-- What is alive in code with calls in line is alive in the code.
use Rattle.std.proofs.Common.{◌≡◌, ◌==◌, ◌<◌, ◌⊎◌, inl, inr, ℕ, zero, suc, ◌+◌, List, [], ◌∷◌, ◌++◌, Option, Some, None, Bool, true, false}
use Rattle.std.proofs.Common.{◌||◌, ◌&&◌, cond, map, length, slice_get, refl, sym, ap, ◌∙◌, subst, arith, option_map}
use Rattle.std.specs.Prelude.{not}
use Rattle.std.proofs.lemmas.Bool.{eqb-true, eq-eqb, false≢true}
use Rattle.rv_isa.specs.declared.asm.Action.{Action}
use Rattle.rv_isa.specs.declared.asm.Action.TheVariants.{Compute, Label, Jump, Branch, Call, TailCall, Return, Routine, Hold}
use Rattle.rv_isa.specs.declared.asm.Action.TheVariants.{Unhold, Room}
use Rattle.rv_isa.specs.AsmCode.{Line, Lines}
use Rattle.rv_isa.specs.AsmMachine.{is_label}
use Rattle.rv_isa.specs.Frames.{is_among}
use Rattle.rv_isa.specs.WellFormed.{is_written, is_alive_after, is_alive, is_alive_at}
use Rattle.rv_inline.specs.InLine.{computes, AreComputing, AreFrom, gives_back, named, named_line, copy, IsLeafCall, lines_for, AreInLine}
use Rattle.rv_inline.proofs.Labels.{computes_no_label}

-- ---- truth values

pub or_cases : (a b : Bool) → (a || b) ≡ true → (a ≡ true) ⊎ (b ≡ true)
or_cases true b is = inl refl
or_cases false b is = inr is

pub or_first : (a b : Bool) → a ≡ true → (a || b) ≡ true
or_first a b is = ap (λ (c : Bool). c || b) is

pub or_later : (a b : Bool) → b ≡ true → (a || b) ≡ true
or_later true b is = refl
or_later false b is = is

pub and_both : (a b : Bool) → a ≡ true → b ≡ true → (a && b) ≡ true
and_both a b first second = ap (λ (c : Bool). c && b) first ∙ second

or_more : (a b b' : Bool) → (b ≡ true → b' ≡ true) → (a || b) ≡ true → (a || b') ≡ true
or_more true b b' more is = refl
or_more false b b' more is = more is

pub and_more : (a b b' : Bool) → (b ≡ true → b' ≡ true) → (a && b) ≡ true → (a && b') ≡ true
and_more true b b' more is = more is
and_more false b b' more is = cc is

-- what is no more than something false is false
pub no_more : (b b' : Bool) → (b' ≡ true → b ≡ true) → b ≡ false → b' ≡ false
no_more b false less is = refl
no_more b true less is = absurd (false≢true (sym is ∙ less refl))

-- ---- the same line

-- Code has no more alive than other code, nor at any label.
pub record IsNoMoreAlive (new old : List Line) : Type 0 where
  pub here : (v : ℕ) → is_alive v new ≡ true → is_alive v old ≡ true
  pub at : (l v : ℕ) → is_alive_at l v new ≡ true → is_alive_at l v old ≡ true

or_both : (a a' b b' : Bool) → (a ≡ true → a' ≡ true) → (b ≡ true → b' ≡ true) → (a || b) ≡ true → (a' || b') ≡ true
or_both a a' b b' first second is = by (or_cases a b is)
  where
    by : (a ≡ true) ⊎ (b ≡ true) → (a' || b') ≡ true
    by (inl p) = or_first a' b' (first p)
    by (inr p) = or_later a' b' (second p)

pub after_more : (action : Action) (next next' : Bool) (at at' : ℕ → Bool) → (next ≡ true → next' ≡ true)
    → ((l : ℕ) → at l ≡ true → at' l ≡ true) → is_alive_after action next at ≡ true → is_alive_after action next' at' ≡ true
after_more (Compute operation) next next' at at' more labels is = more is
after_more (Label l) next next' at at' more labels is = more is
after_more (Jump l) next next' at at' more labels is = labels l is
after_more (Branch condition l) next next' at at' more labels is = or_both next next' (at l) (at' l) more (labels l) is
after_more (Call g) next next' at at' more labels is = more is
after_more (TailCall g) next next' at at' more labels is = cc is
after_more Return next next' at at' more labels is = cc is
after_more (Routine routine) next next' at at' more labels is = more is
after_more Hold next next' at at' more labels is = more is
after_more Unhold next next' at at' more labels is = more is
after_more Room next next' at at' more labels is = more is

line_alive : (line : Line) (new old : List Line) → IsNoMoreAlive new old → IsNoMoreAlive (line ∷ new) (line ∷ old)
line_alive line new old less = record {
  here = λ v is. or_more (is_among v line.args) (not (is_written line.into v) && after v new) (not (is_written line.into v) && after v old)
      (and_more (not (is_written line.into v)) (after v new) (after v old)
      (after_more line.action (is_alive v new) (is_alive v old) (λ l. is_alive_at l v new) (λ l. is_alive_at l v old) (less.here v)
      (λ l. less.at l v))) is;
  at = λ l v is. at_label l v (is_label l line.action) is;
}
  where
    after : ℕ → List Line → Bool
    after v code = is_alive_after line.action (is_alive v code) (λ l. is_alive_at l v code)

    at_label : (l v : ℕ) (here : Bool) → cond here (is_alive v new) (is_alive_at l v new) ≡ true
        → cond here (is_alive v old) (is_alive_at l v old) ≡ true
    at_label l v true is = less.here v is
    at_label l v false is = less.at l v is

-- ---- a leaf in line

computes_goes : (action : Action) (next : Bool) (at : ℕ → Bool) → computes action ≡ true → is_alive_after action next at ≡ next
computes_goes (Compute operation) next at is = refl
computes_goes (Label l) next at is = cc is
computes_goes (Jump l) next at is = cc is
computes_goes (Branch condition l) next at is = cc is
computes_goes (Call g) next at is = cc is
computes_goes (TailCall g) next at is = cc is
computes_goes Return next at is = cc is
computes_goes (Routine routine) next at is = cc is
computes_goes Hold next at is = cc is
computes_goes Unhold next at is = cc is
computes_goes Room next at is = cc is

alive_parts : (line : Line) (rest : List Line) (v : ℕ) → computes line.action ≡ true
    → is_alive v (line ∷ rest) ≡ (is_among v line.args || (not (is_written line.into v) && is_alive v rest))
alive_parts line rest v is =
    ap (λ (next : Bool). is_among v line.args || (not (is_written line.into v) && next))
    (computes_goes line.action (is_alive v rest) (λ l. is_alive_at l v rest) is)

-- what is among values that are named is named
pub among_named : (h : ℕ → ℕ) (xs : List ℕ) (v : ℕ) → is_among v (map h xs) ≡ true → (u : ℕ) × ((is_among u xs ≡ true) × (h u ≡ v))
among_named h [] v among = absurd (false≢true among)
among_named h (x ∷ xs) v among = by (or_cases (h x == v) (is_among v (map h xs)) among) (among_named h xs v)
  where
    by : ((h x == v) ≡ true) ⊎ (is_among v (map h xs) ≡ true)
        → (is_among v (map h xs) ≡ true → (u : ℕ) × ((is_among u xs ≡ true) × (h u ≡ v)))
        → (u : ℕ) × ((is_among u (x ∷ xs) ≡ true) × (h u ≡ v))
    by (inl here) later = (x, (or_first (x == x) (is_among x xs) (eq-eqb x x refl), eqb-true (h x) v here))
    by (inr behind) later =
        let rest = later behind in
        (rest.0, (or_later (x == rest.0) (is_among rest.0 xs) rest.1.0, rest.1.1))

not_true : (b : Bool) → not b ≡ true → b ≡ false
not_true true is = cc is
not_true false is = refl

both_true : (a b : Bool) → (a && b) ≡ true → (a ≡ true) × (b ≡ true)
both_true true b is = (refl, is)
both_true false b is = cc is

-- a value that is not written under its name is not written
not_written : (h : ℕ → ℕ) (into : Option ℕ) (u v : ℕ) → h u ≡ v → is_written (option_map h into) v ≡ false → is_written into u ≡ false
not_written h None u v names is = refl
not_written h (Some w) u v names is = by (w == u) refl
  where
    by : (same : Bool) → (w == u) ≡ same → (w == u) ≡ false
    by true same =
        let there : (h w == v) ≡ true = eq-eqb (h w) v (ap h (eqb-true w u same) ∙ names) in
        absurd (false≢true (sym is ∙ there))
    by false same = same

module _ (base count : ℕ) (args : List ℕ) (value into : ℕ) (rest : List Line) where
  -- it stands for a value that is alive in the leaf, or is alive behind it, and not what the leaf gives back
  abbrev IsKnown : List Line → ℕ → Type 0
  IsKnown body v =
      ((u : ℕ) × ((named base args u ≡ v) × (is_alive u (body ++ (gives_back value ∷ [])) ≡ true)))
      ⊎ ((is_written (Some into) v ≡ false) × (is_alive v rest ≡ true))

  alive_in_leaf : (body : List Line) (v : ℕ) → AreComputing count body
      → is_alive v (map (named_line base args) body ++ (copy (named base args value) into ∷ rest)) ≡ true → IsKnown body v
  alive_in_leaf [] v computing is =
      by (or_cases (is_among v (named base args value ∷ [])) (not (is_written (Some into) v) && is_alive v rest) is)
    where
      by : (is_among v (named base args value ∷ []) ≡ true) ⊎ ((not (is_written (Some into) v) && is_alive v rest) ≡ true)
          → IsKnown [] v
      by (inl read) =
          let there = among_named (named base args) (value ∷ []) v read in
          inl (there.0, (there.1.1, or_first (is_among there.0 (value ∷ [])) (not false && false) there.1.0))
      by (inr later) =
          let both = both_true (not (is_written (Some into) v)) (is_alive v rest) later in
          inr (not_true (is_written (Some into) v) both.0, both.1)
  alive_in_leaf (line ∷ body) v computing is =
      let more : List Line = map (named_line base args) body ++ (copy (named base args value) into ∷ rest) in
      by (or_cases (is_among v (map (named base args) line.args))
      (not (is_written (option_map (named base args) line.into) v) && is_alive v more)
      (sym (alive_parts (named_line base args line) more v computing.0.0) ∙ is)) (alive_in_leaf body v computing.1)
    where
      own : List Line
      own = body ++ (gives_back value ∷ [])

      lines : List Line
      lines = map (named_line base args) body ++ (copy (named base args value) into ∷ rest)

      alive_here : (u : ℕ) → (is_among u line.args || (not (is_written line.into u) && is_alive u own)) ≡ true
          → is_alive u (line ∷ own) ≡ true
      alive_here u alive = alive_parts line own u computing.0.0 ∙ alive

      behind : is_written (option_map (named base args) line.into) v ≡ false → IsKnown body v → IsKnown (line ∷ body) v
      behind other (inl (u, (names, alive))) =
          let free : not (is_written line.into u) ≡ true
          = ap not (not_written (named base args) line.into u v names other) in
          inl (
            u,
            (
              names,
              alive_here u (or_later (is_among u line.args) (not (is_written line.into u) && is_alive u own)
                  (and_both (not (is_written line.into u)) (is_alive u own) free alive)),
            ),
          )
      behind other (inr known) = inr known

      by : (is_among v (map (named base args) line.args) ≡ true)
          ⊎ ((not (is_written (option_map (named base args) line.into) v) && is_alive v lines) ≡ true)
          → (is_alive v lines ≡ true → IsKnown body v) → IsKnown (line ∷ body) v
      by (inl read) later =
          let there = among_named (named base args) line.args v read in
          inl (
            there.0,
            (
              there.1.1,
              alive_here there.0 (or_first (is_among there.0 line.args)
                  (not (is_written line.into there.0) && is_alive there.0 own) there.1.0),
            ),
          )
      by (inr goes_on) later =
          let both = both_true (not (is_written (option_map (named base args) line.into) v)) (is_alive v lines) goes_on in
          behind (not_true (is_written (option_map (named base args) line.into) v) both.0) (later both.1)

  -- no label stands in it
  at_in_leaf : (body : List Line) (l v : ℕ) → AreComputing count body
      → is_alive_at l v (map (named_line base args) body ++ (copy (named base args value) into ∷ rest)) ≡ is_alive_at l v rest
  at_in_leaf [] l v computing = refl
  at_in_leaf (line ∷ body) l v computing =
      let lines : List Line = map (named_line base args) body ++ (copy (named base args value) into ∷ rest) in
      ap (λ (here : Bool). cond here (is_alive v lines) (is_alive_at l v lines)) (computes_no_label l line.action computing.0.0)
      ∙ at_in_leaf body l v computing.1

-- ---- a call in line

-- a value among the first numbers is one of them
pub among_from : (n v : ℕ) (values : List ℕ) → AreFrom n values → is_among v values ≡ true → (k : ℕ) × ((v ≡ n + k) × (k < length values))
among_from n v [] numbers among = absurd (false≢true among)
among_from n v (x ∷ values) numbers among =
    by (or_cases (x == v) (is_among v values) among) (among_from (suc n) v values numbers.1)
  where
    by : ((x == v) ≡ true) ⊎ (is_among v values ≡ true)
        → (is_among v values ≡ true → (k : ℕ) × ((v ≡ suc n + k) × (k < length values)))
        → (k : ℕ) × ((v ≡ n + k) × (k < length (x ∷ values)))
    by (inl here) later =
        let same : x ≡ v = eqb-true x v here in
        let first : x ≡ n = numbers.0 in
        (0, (omega (arith, same, first), omega arith))
    by (inr behind) later =
        let rest = later behind in
        let v_is : v ≡ suc n + rest.0 = rest.1.0 in
        (suc rest.0, (omega (arith, v_is), omega (arith, rest.1.1)))

-- and stands for an argument
pub argument_named : (base : ℕ) (args : List ℕ) (k : ℕ) → k < length args → is_among (named base args k) args ≡ true
argument_named base [] k less = absurd (omega (arith, less))
argument_named base (arg ∷ args) zero less = or_first (arg == arg) (is_among arg args) (eq-eqb arg arg refl)
argument_named base (arg ∷ args) (suc k) less =
    or_later (arg == named base args k) (is_among (named base args k) args) (argument_named base args k (omega (arith, less)))

module _ (q : List Lines) (base : ℕ) (starts : (f : ℕ) (leaf : Lines) → slice_get q f ≡ Some leaf
    → (v : ℕ) → is_alive v leaf.code ≡ true → is_among v leaf.params ≡ true) where
  call_alive : (line : Line) (call : IsLeafCall q base line) (rest old : List Line) → IsNoMoreAlive rest old
      → IsNoMoreAlive (lines_for line call rest) (line ∷ old)
  call_alive line call rest old less = record {
    here = λ v is. by v (alive_in_leaf base (length call.leaf.params) line.args call.value call.into rest call.body v
        call.is_leaf.computing is);
    at = λ l v is. ap (λ (here : Bool). cond here (is_alive v old) (is_alive_at l v old)) (ap (is_label l) call.calls)
        ∙ less.at l v (sym (at_in_leaf base (length call.leaf.params) line.args call.value call.into rest call.body l v
        call.is_leaf.computing) ∙ is);
  }
    where
      after : ℕ → Bool
      after v = is_alive_after line.action (is_alive v old) (λ l. is_alive_at l v old)

      goes_on : (v : ℕ) → after v ≡ is_alive v old
      goes_on v = ap (λ (action : Action). is_alive_after action (is_alive v old) (λ l. is_alive_at l v old)) call.calls

      by : (v : ℕ) → IsKnown base (length call.leaf.params) line.args call.value call.into rest call.body v
          → is_alive v (line ∷ old) ≡ true
      by v (inl (u, (names, alive))) =
          let started : is_among u call.leaf.params ≡ true
          = starts call.function call.leaf call.leaf_is u (ap (is_alive u) call.is_leaf.code ∙ alive) in
          let number = among_from 0 u call.leaf.params call.is_leaf.params started in
          let u_is : u ≡ number.0 = omega (arith, number.1.0) in
          let small : u < length line.args = omega (arith, u_is, number.1.1, call.passes) in
          or_first (is_among v line.args) (not (is_written line.into v) && after v)
          (subst (λ (w : ℕ). is_among w line.args ≡ true) names (argument_named base line.args u small))
      by v (inr (other, alive)) =
          let free : not (is_written line.into v) ≡ true
          = ap not (ap (λ (o : Option ℕ). is_written o v) call.gives ∙ other) in
          or_later (is_among v line.args) (not (is_written line.into v) && after v)
          (and_both (not (is_written line.into v)) (after v) free (goes_on v ∙ less.here v alive))

  -- code with calls in line has no more alive than the code
  pub no_more_alive : (old new : List Line) → AreInLine q base old new → IsNoMoreAlive new old
  no_more_alive [] new is = record {
    here = λ v alive. ap (is_alive v) (sym is) ∙ alive;
    at = λ l v alive. ap (is_alive_at l v) (sym is) ∙ alive;
  }
  no_more_alive (line ∷ old) new (inl (rest, (new_is, is))) =
      subst (λ (code : List Line). IsNoMoreAlive code (line ∷ old)) (sym new_is) (line_alive line rest old (no_more_alive old rest is))
  no_more_alive (line ∷ old) new (inr (call, (rest, (new_is, is)))) =
      subst (λ (code : List Line). IsNoMoreAlive code (line ∷ old)) (sym new_is)
      (call_alive line call rest old (no_more_alive old rest is))
