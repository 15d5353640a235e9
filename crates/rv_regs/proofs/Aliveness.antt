-- The lists of alive values are exact, have each value once, and have values of the code only.
use Rattle.std.proofs.Common.{◌≡◌, ◌||◌, ◌&&◌, ◌⊎◌, ◌<◌, ℕ, List, [], ◌∷◌, Option, Bool, true, false, not, cond, refl, sym, ◌∙◌, ap, inl, inr}
use Rattle.std.proofs.lemmas.Bool.{or_cases, and_parts, false≢true, cond_both}
use Rattle.rv_isa.specs.declared.asm.Action.{Action}
use Rattle.rv_isa.specs.declared.asm.Action.TheVariants.{Compute, Label, Jump, Branch, Call, TailCall, Return, Routine, Hold, Unhold, Room}
use Rattle.rv_isa.specs.AsmCode.{Line}
use Rattle.rv_isa.specs.AsmMachine.{is_label}
use Rattle.rv_isa.specs.Frames.{is_among}
use Rattle.rv_isa.specs.ValueBounds.{AreLinesBelow}
use Rattle.rv_isa.specs.WellFormed.{is_written, is_alive_after, is_alive, is_alive_at, is_alive_behind, AreDistinct}
use Rattle.rv_propose.specs.Alive.{without, values_before, values_behind, alive_values, alive_values_at}
use Rattle.rv_regs.proofs.Lists.{each_among, among_with_values, among_without, distinct_with, distinct_without}

behind_exact : (v : ℕ) (action : Action) (next : List ℕ) (at_label : ℕ → List ℕ) (is_next : Bool) (is_at : ℕ → Bool)
    → is_among v next ≡ is_next → ((l : ℕ) → is_among v (at_label l) ≡ is_at l) → is_among v (values_behind action next at_label) ≡ is_alive_after action is_next is_at
behind_exact v (Jump l) next at_label is_next is_at e es = es l
behind_exact v (Branch condition l) next at_label is_next is_at e es =
    among_with_values next (at_label l) v ∙ ap (λ b. b || is_among v (at_label l)) e ∙ ap (λ b. is_next || b) (es l)
behind_exact v (TailCall f) next at_label is_next is_at e es = refl
behind_exact v Return next at_label is_next is_at e es = refl
behind_exact v (Compute operation) next at_label is_next is_at e es = e
behind_exact v (Label l) next at_label is_next is_at e es = e
behind_exact v (Call f) next at_label is_next is_at e es = e
behind_exact v (Routine routine) next at_label is_next is_at e es = e
behind_exact v Hold next at_label is_next is_at e es = e
behind_exact v Unhold next at_label is_next is_at e es = e
behind_exact v Room next at_label is_next is_at e es = e

pub among_before : (args : List ℕ) (into : Option ℕ) (behind : List ℕ) (v : ℕ) → is_among v (values_before args into behind) ≡ (is_among v args || (not (is_written into v) && is_among v behind))
among_before args into behind v = among_with_values args (without into behind) v ∙ ap (λ b. is_among v args || b) (among_without into behind v)

both_conds : (v : ℕ) (b : Bool) (xs ys : List ℕ) (x y : Bool) → is_among v xs ≡ x → is_among v ys ≡ y → is_among v (cond b xs ys) ≡ cond b x y
both_conds v true xs ys x y e d = e
both_conds v false xs ys x y e d = d

exact_both : (v : ℕ) (code : List Line) → (is_among v (alive_values code) ≡ is_alive v code) × ((l : ℕ) → is_among v (alive_values_at l code) ≡ is_alive_at l v code)
exact_both v [] = (refl, λ l. refl)
exact_both v (line ∷ rest) =
    let later = exact_both v rest in (
      among_before line.args line.into (values_behind line.action (alive_values rest) (λ l. alive_values_at l rest)) v
          ∙ ap (λ b. is_among v line.args || (not (is_written line.into v) && b))
          (behind_exact v line.action (alive_values rest) (λ l. alive_values_at l rest) (is_alive v rest) (λ l. is_alive_at l v rest) later.0 later.1),
      λ l. both_conds v (is_label l line.action) (alive_values rest) (alive_values_at l rest) (is_alive v rest) (is_alive_at l v rest) later.0 (later.1 l),
    )

-- a value is listed as alive exactly where it is alive
pub alive_exact : (v : ℕ) (code : List Line) → is_among v (alive_values code) ≡ is_alive v code
alive_exact v code = (exact_both v code).0

-- and so behind an action
pub alive_behind_exact : (v : ℕ) (action : Action) (rest : List Line) → is_among v (values_behind action (alive_values rest) (λ l. alive_values_at l rest)) ≡ is_alive_behind v action rest
alive_behind_exact v action rest =
    let both = exact_both v rest in
    behind_exact v action (alive_values rest) (λ l. alive_values_at l rest) (is_alive v rest) (λ l. is_alive_at l v rest) both.0 both.1

-- ---- each once

behind_distinct : (action : Action) (next : List ℕ) (at_label : ℕ → List ℕ) → AreDistinct next → ((l : ℕ) → AreDistinct (at_label l)) → AreDistinct (values_behind action next at_label)
behind_distinct (Jump l) next at_label d ds = ds l
behind_distinct (Branch condition l) next at_label d ds = distinct_with next (at_label l) (ds l)
behind_distinct (TailCall f) next at_label d ds = tt
behind_distinct Return next at_label d ds = tt
behind_distinct (Compute operation) next at_label d ds = d
behind_distinct (Label l) next at_label d ds = d
behind_distinct (Call f) next at_label d ds = d
behind_distinct (Routine routine) next at_label d ds = d
behind_distinct Hold next at_label d ds = d
behind_distinct Unhold next at_label d ds = d
behind_distinct Room next at_label d ds = d

distinct_both : (code : List Line) → AreDistinct (alive_values code) × ((l : ℕ) → AreDistinct (alive_values_at l code))
distinct_both [] = (tt, λ l. tt)
distinct_both (line ∷ rest) =
    let later = distinct_both rest in
    let behind : List ℕ = values_behind line.action (alive_values rest) (λ l. alive_values_at l rest) in (
      distinct_with line.args (without line.into behind) (distinct_without line.into behind (behind_distinct line.action (alive_values rest) (λ l. alive_values_at l rest) later.0 later.1)),
      λ l. cond_both (is_label l line.action) (alive_values rest) (alive_values_at l rest) AreDistinct (λ t. later.0) (λ t. later.1 l),
    )

pub alive_distinct : (code : List Line) → AreDistinct (alive_values code)
alive_distinct code = (distinct_both code).0

pub alive_at_distinct : (l : ℕ) (code : List Line) → AreDistinct (alive_values_at l code)
alive_at_distinct l code = (distinct_both code).1 l

-- ---- small values

after_cases : (action : Action) (P : Type 0) (next : Bool) (at_label : ℕ → Bool) → (next ≡ true → P) → ((l : ℕ) → at_label l ≡ true → P) → is_alive_after action next at_label ≡ true → P
after_cases (Jump l) P next at_label h hs t = hs l t
after_cases (Branch condition l) P next at_label h hs t = go (or_cases next (at_label l) t)
  where
    go : (next ≡ true) ⊎ (at_label l ≡ true) → P
    go (inl e) = h e
    go (inr e) = hs l e
after_cases (TailCall f) P next at_label h hs t = absurd (false≢true t)
after_cases Return P next at_label h hs t = absurd (false≢true t)
after_cases (Compute operation) P next at_label h hs t = h t
after_cases (Label l) P next at_label h hs t = h t
after_cases (Call f) P next at_label h hs t = h t
after_cases (Routine routine) P next at_label h hs t = h t
after_cases Hold P next at_label h hs t = h t
after_cases Unhold P next at_label h hs t = h t
after_cases Room P next at_label h hs t = h t

cond_cases : (P : Type 0) (b x y : Bool) → (x ≡ true → P) → (y ≡ true → P) → cond b x y ≡ true → P
cond_cases P true x y h k t = h t
cond_cases P false x y h k t = k t

small_both : (most v : ℕ) (code : List Line) → AreLinesBelow most code → (is_alive v code ≡ true → v < most) × ((l : ℕ) → is_alive_at l v code ≡ true → v < most)
small_both most v [] below = (λ t. absurd (false≢true t), λ l t. absurd (false≢true t))
small_both most v (line ∷ rest) below =
    let later = small_both most v rest below.1 in (
      λ t. go later (or_cases (is_among v line.args) (not (is_written line.into v) && is_alive_behind v line.action rest) t),
      λ l t. cond_cases (v < most) (is_label l line.action) (is_alive v rest) (is_alive_at l v rest) later.0 (later.1 l) t,
    )
  where
    go : (is_alive v rest ≡ true → v < most) × ((l : ℕ) → is_alive_at l v rest ≡ true → v < most)
        → (is_among v line.args ≡ true) ⊎ ((not (is_written line.into v) && is_alive_behind v line.action rest) ≡ true) → v < most
    go later (inl t) = each_among (λ (u : ℕ). u < most) line.args v below.0.0 t
    go later (inr t) =
        after_cases line.action (v < most) (is_alive v rest) (λ l. is_alive_at l v rest) later.0 later.1
        (and_parts (not (is_written line.into v)) (is_alive_behind v line.action rest) t).1

-- what is alive in code is among its values
pub alive_small : (most v : ℕ) (code : List Line) → AreLinesBelow most code → is_among v (alive_values code) ≡ true → v < most
alive_small most v code below t = (small_both most v code below).0 (sym (alive_exact v code) ∙ t)
