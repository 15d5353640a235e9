-- Machines that agree, and others that do the same as they do.
use Rattle.std.proofs.Common.{◌≡◌, ℕ, ◌+◌, List, [], ◌∷◌, ◌++◌, Option, Some, zero, suc, arith, refl, sym, ap, ◌∙◌, subst}
use Rattle.std.specs.Prelude.{slice_get}
use Rattle.kk_base.specs.Agreements.{Does, Agree}
use Rattle.kk_base.specs.Machines.{Machine, trace, weight_of, weight_unless, weighing, ending_after}
use Rattle.kk_base.specs.Trace.{IsPrefix}

-- machines that end after the same steps, where each step weighs so much, weigh as much
pub even_weights : {S R E W : Type 0} (weight : ℕ) (ending : S → Option W) (step : S → List E × S) (other_ending : R → Option W)
    (other_step : R → List E × R) (n : ℕ) (s : S) (r : R)
    → ((k : ℕ) → ending_after (weighing (λ s. weight) ending step) k s
    ≡ ending_after (weighing (λ r. weight) other_ending other_step) k r)
    → weight_of (weighing (λ s. weight) ending step) n s ≡ weight_of (weighing (λ r. weight) other_ending other_step) n r
even_weights weight ending step other_ending other_step zero s r endings = refl
even_weights {S} {R} {E} {W} weight ending step other_ending other_step (suc n) s r endings =
    let upper : Machine S E W = weighing (λ s. weight) ending step in
    let other : Machine R E W = weighing (λ r. weight) other_ending other_step in
    ap (λ (how : Option W). weight_unless how weight + weight_of upper n (upper.step s).1) (endings 0)
    ∙ ap (λ (rest : ℕ). weight_unless (other_ending r) weight + rest)
    (even_weights weight ending step other_ending other_step n (upper.step s).1 (other.step r).1 (λ k. endings (suc k)))

-- machines that do the same as two that agree, and whose steps weigh as much, agree
module _ {S R T U E W : Type 0} (upper : Machine S E W) (other : Machine R E W) (lower : Machine T E W) (below : Machine U E W)
    (up : ℕ → ℕ) (s : S) (r : R) (t : T) (u : U)
    (traces : (n : ℕ) → trace upper n s ≡ trace other n r) (endings : (n : ℕ) → ending_after upper n s ≡ ending_after other n r)
    (lower_traces : (n : ℕ) → trace lower n t ≡ trace below n u)
    (lower_endings : (n : ℕ) → ending_after lower n t ≡ ending_after below n u)
    (weights : (n : ℕ) → weight_of upper n s ≡ weight_of other n r)
    (lower_weights : (n : ℕ) → weight_of below n u ≡ weight_of lower n t) where
  pub agree_alike : (credit : ℕ) → Agree upper lower credit up s t → Agree other below credit up r u
  agree_alike credit agree =
      record {
        downwards = λ n.
            let done : Does lower (weight_of upper n s + credit) (trace upper n s) (ending_after upper n s) t = agree.downwards n in
            record {
              steps = done.steps;
              weighs = omega (arith, lower_weights done.steps, done.weighs, weights n);
              events_are = sym (lower_traces done.steps) ∙ done.events_are ∙ traces n;
              ending_is = sym (lower_endings done.steps) ∙ done.ending_is ∙ endings n;
            };
        upwards = record {
          prefix = λ m.
              subst (λ (events : List E). IsPrefix events (trace other (up m) r)) (lower_traces m)
              (subst (λ (events : List E). IsPrefix (trace lower m t) events) (traces (up m)) (agree.upwards.prefix m));
          ending = λ m w e. sym (endings (up m)) ∙ agree.upwards.ending m w (lower_endings m ∙ e);
          whole = λ m w e. sym (traces (up m)) ∙ agree.upwards.whole m w (lower_endings m ∙ e) ∙ lower_traces m;
        };
      }

front_get : {X : Type 0} (xs ys : List X) (k : ℕ) (x : X) → slice_get xs k ≡ Some x → slice_get (xs ++ ys) k ≡ Some x
front_get [] ys k x is = absurd (cc)
front_get (z ∷ xs) ys zero x is = is
front_get (z ∷ xs) ys (suc k) x is = front_get xs ys k x is

-- what one tells at a place, the other tells there too
module _ {S T E W : Type 0} (upper : Machine S E W) (lower : Machine T E W) (credit : ℕ) (up : ℕ → ℕ) (s : S) (t : T)
    (agree : Agree upper lower credit up s t) where
  pub told_above : (n k : ℕ) (e : E) → slice_get (trace lower n t) k ≡ Some e → (m : ℕ) × (slice_get (trace upper m s) k ≡ Some e)
  told_above n k e is =
      let prefix : IsPrefix (trace lower n t) (trace upper (up n) s) = agree.upwards.prefix n in
      (up n, ap (λ (es : List E). slice_get es k) (sym prefix.1) ∙ front_get (trace lower n t) prefix.0 k e is)

  pub told_below : (n k : ℕ) (e : E) → slice_get (trace upper n s) k ≡ Some e → (m : ℕ) × (slice_get (trace lower m t) k ≡ Some e)
  told_below n k e is =
      let done : Does lower (weight_of upper n s + credit) (trace upper n s) (ending_after upper n s) t = agree.downwards n in
      (done.steps, ap (λ (es : List E). slice_get es k) done.events_are ∙ is)
