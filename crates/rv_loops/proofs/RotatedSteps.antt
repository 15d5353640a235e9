-- Steps of the machine of rotated code, as a simulation asks for them.
use Rattle.std.proofs.Common.{◌≡◌, ◌≢◌, ◌⊎◌, ◌≤◌, ◌<◌, ◌-◌, inl, inr, ℕ, zero, suc, ◌+◌, List, [], ◌++◌}
use Rattle.std.proofs.Common.{length, drop, refl, sym, ap, ◌∙◌, subst, arith}
use Rattle.std.proofs.Math.Seq.{drop-length}
use Rattle.std.proofs.lemmas.List.{append-nil}
use Rattle.kk_base.specs.Machines.{trace, state, weight_of}
use Rattle.kk_base.specs.Simulations.{Reaches}
use Rattle.rv_isa.specs.PlacedCode.{PlacedLines}
use Rattle.rv_isa.specs.PlacedMachine.{PlacedState, PlacedTurn}
use Rattle.rv_isa.specs.PlacedMachine.{placed_next, placed_told}
use Rattle.rv_isa.specs.PlacedMachine.{placed_weight, placed_machine}
use Rattle.rv_isa.specs.Primitives.{Primitives, go, ended, stuck}
use Rattle.rv_loops.specs.Relation.{Spot, IsAtSame, IsInTurn, StandsFor, NeverStuck}
use Rattle.rv_loops.specs.Relation.{Related, IsNotStuck}

module _ {H E W : Type 0} (m : Primitives H E W) (depth : ℕ) (q q' : List PlacedLines) where
  abbrev pub Kept : ℕ → ℕ → PlacedTurn H W → PlacedTurn H W → Type 0
  Kept credit idle s t = ((1 ≤ idle) × StandsFor q q' IsAtSame s t) ⊎ ((2 ≤ credit) × StandsFor q q' IsInTurn s t)

  -- what the simulation asks for
  abbrev pub Step : ℕ → ℕ → PlacedState H → PlacedState H → Type 0
  Step credit idle s t =
      Reaches (placed_machine m depth q') (Related m depth q q') IsNotStuck 2 (placed_weight m (go s) + credit) 1 idle
      (drop (length (m.told s.shared)) (placed_told m (placed_next m depth q (go s)))) (placed_next m depth q (go s)) (go t)

  pub not_stuck : (t : PlacedState H) → IsNotStuck {H = H} {W = W} (go t)
  not_stuck t e = cc

  pub told_same : (IsAt : Spot) (s t : PlacedTurn H W) → s ≢ stuck → StandsFor q q' IsAt s t → placed_told m t ≡ placed_told m s
  told_same IsAt (go s) (go t) good stands = ap m.told stands.1.1
  told_same IsAt (go s) (ended how shared) good stands = absurd stands
  told_same IsAt (go s) stuck good stands = absurd stands
  told_same IsAt (ended how shared) (go t) good stands = absurd stands
  told_same IsAt (ended how shared) (ended how' shared') good stands = ap m.told stands.1
  told_same IsAt (ended how shared) stuck good stands = absurd stands
  told_same IsAt stuck t good stands = absurd (good refl)

  -- one step in both
  pub one_step : (IsAt : Spot) (credit idle idle_after : ℕ) (s t : PlacedState H) → t.shared ≡ s.shared → 1 + idle_after ≤ 2 + idle
      → placed_weight {W = W} m (go t) ≡ placed_weight {W = W} m (go s) → NeverStuck m depth q (go s)
      → StandsFor q q' IsAt (placed_next m depth q (go s)) (placed_next m depth q' (go t))
      → (StandsFor q q' IsAt (placed_next m depth q (go s)) (placed_next m depth q' (go t))
      → Kept credit idle_after (placed_next m depth q (go s)) (placed_next m depth q' (go t)))
      → Step credit idle s t
  one_step IsAt credit idle idle_after s t same paces weighs never stands kept =
      record {
        steps = 1;
        credit_after = credit;
        idle_after = idle_after;
        paid = omega (arith, weighs);
        moves = omega (arith, paces);
        events_are = append-nil (drop (length (m.told t.shared)) (placed_told m (placed_next m depth q' (go t))))
            ∙ ap (λ (h : H). drop (length (m.told h)) (placed_told m (placed_next m depth q' (go t)))) same
            ∙ ap (drop (length (m.told s.shared))) (told_same IsAt (placed_next m depth q (go s)) (placed_next m depth q'
            (go t)) (never 1) stands);
        passes = passes_here;
        related = ((λ n. never (suc n)), kept stands);
      }
    where
      passes_here : (k : ℕ) → k < 1 → IsNotStuck (state (placed_machine m depth q') k (go t))
      passes_here zero less = not_stuck t
      passes_here (suc k) less = absurd (omega (arith, less))

  -- no step, where the other machine tells nothing
  pub no_step : (credit idle : ℕ) (s s' t : PlacedState H) → placed_next m depth q (go s) ≡ go s' → s'.shared ≡ s.shared → 1 ≤ idle
      → 2 ≤ placed_weight {W = W} m (go s) → NeverStuck m depth q (go s) → StandsFor {W = W} q q' IsInTurn (go s') (go t)
      → Step credit idle s t
  no_step credit idle s s' t next same some weighs never stands =
      record {
        steps = 0;
        credit_after = 2 + credit;
        idle_after = 0;
        paid = omega (arith, weighs);
        moves = omega (arith, some);
        events_are = sym (ap (λ (u : PlacedTurn H W). drop (length (m.told s.shared)) (placed_told m u)) next
            ∙ ap (λ (h : H). drop (length (m.told s.shared)) (m.told h)) same ∙ drop-length (m.told s.shared));
        passes = λ k less. absurd (omega (arith, less));
        related = (
          (λ n. never (suc n)),
          inr (
            omega arith,
            subst (λ (u : PlacedTurn H W). StandsFor q q' IsInTurn u (go t))
                (sym next) stands,
          ),
        );
      }

  -- two steps, where neither machine tells anything
  pub two_steps : (credit idle less : ℕ) (s s' t t' t'' : PlacedState H) → placed_next m depth q (go s) ≡ go s'
      → placed_next m depth q' (go t) ≡ go t'
      → placed_next m depth q' (go t') ≡ go t'' → s'.shared ≡ s.shared → t'.shared ≡ t.shared → t''.shared ≡ t.shared
      → less ≤ credit
      → placed_weight {W = W} m (go t) + placed_weight {W = W} m (go t') ≤ placed_weight {W = W} m (go s) + less
      → NeverStuck m depth q (go s) → StandsFor {W = W} q q' IsAtSame (go s') (go t'') → Step credit idle s t
  two_steps credit idle less s s' t t' t'' next first second s_same t_same last_same saved weighs never stands =
      record {
        steps = 2;
        credit_after = credit - less;
        idle_after = 1;
        paid = omega (arith, weighs, saved, ap (λ (u : PlacedTurn H W). (placed_machine m depth q').weight u) first);
        moves = omega arith;
        events_are = events;
        passes = passes_here;
        related = ((λ n. never (suc n)), inl (omega arith, kept));
      }
    where
      silent : (u v : PlacedState H) → placed_next m depth q' (go u) ≡ go v → v.shared ≡ u.shared
          → drop (length (m.told u.shared)) (placed_told m (placed_next m depth q' (go u))) ≡ []
      silent u v is same =
          ap (λ (w : PlacedTurn H W). drop (length (m.told u.shared)) (placed_told m w)) is
          ∙ ap (λ (h : H). drop (length (m.told u.shared)) (m.told h)) same ∙ drop-length (m.told u.shared)

      nothing : trace (placed_machine m depth q') 2 (go t) ≡ []
      nothing =
          let one = silent t t' first t_same in
          let two = silent t' t'' second (last_same ∙ sym t_same) in
          ap (λ (events : List E). events ++ trace (placed_machine m depth q') 1 (placed_next m depth q' (go t))) one
          ∙ ap (λ (u : PlacedTurn H W). trace (placed_machine m depth q') 1 u) first
          ∙ ap (λ (events : List E). events ++ []) two

      events : trace (placed_machine m depth q') 2 (go t) ≡ drop (length (m.told s.shared)) (placed_told m
          (placed_next m depth q (go s)))
      events =
          nothing ∙ sym (ap (λ (u : PlacedTurn H W). drop (length (m.told s.shared)) (placed_told m u)) next
          ∙ ap (λ (h : H). drop (length (m.told s.shared)) (m.told h)) s_same ∙ drop-length (m.told s.shared))

      last : state (placed_machine m depth q') 2 (go t) ≡ go t''
      last = ap (λ (u : PlacedTurn H W). state (placed_machine m depth q') 1 u) first ∙ second

      kept : StandsFor q q' IsAtSame (placed_next m depth q (go s)) (state (placed_machine m depth q') 2 (go t))
      kept = subst (λ (u : PlacedTurn H W). StandsFor q q' IsAtSame u (state (placed_machine m depth q') 2 (go t))) (sym next)
          (subst (λ (u : PlacedTurn H W). StandsFor {W = W} q q' IsAtSame (go s') u) (sym last) stands)

      passes_here : (k : ℕ) → k < 2 → IsNotStuck (state (placed_machine m depth q') k (go t))
      passes_here zero below = not_stuck t
      passes_here (suc zero) below = subst IsNotStuck (sym first) (not_stuck t')
      passes_here (suc (suc k)) below = absurd (omega (arith, below))

  -- a step without weight before, which tells nothing
  pub later_step : (credit idle : ℕ) (s t t' : PlacedState H) → placed_next m depth q' (go t) ≡ go t' → t'.shared ≡ t.shared
      → placed_weight {W = W} m (go t) ≡ 0 → Step credit idle s t' → Step credit idle s t
  later_step credit idle s t t' next same light later =
      record {
        steps = suc later.steps;
        credit_after = later.credit_after;
        idle_after = later.idle_after;
        paid = omega (
          arith,
          light,
          later.paid,
          ap (λ (u : PlacedTurn H W). weight_of
              (placed_machine m depth q') later.steps u) next,
        );
        moves = omega (arith, later.moves);
        events_are = ap (λ (events : List E). events ++ trace (placed_machine m depth q') later.steps (placed_next m depth q'
            (go t))) silent
            ∙ ap (trace (placed_machine m depth q') later.steps) next ∙ later.events_are;
        passes = passes_here;
        related = subst (λ (u : PlacedTurn H W). Related m depth q q' later.credit_after later.idle_after (placed_next m depth q
            (go s))
            (state (placed_machine m depth q') later.steps u)) (sym next) later.related;
      }
    where
      silent : drop (length (m.told t.shared)) (placed_told m (placed_next m depth q' (go t))) ≡ []
      silent =
          ap (λ (w : PlacedTurn H W). drop (length (m.told t.shared)) (placed_told m w)) next
          ∙ ap (λ (h : H). drop (length (m.told t.shared)) (m.told h)) same ∙ drop-length (m.told t.shared)

      passes_here : (k : ℕ) → k < suc later.steps → IsNotStuck (state (placed_machine m depth q') k (go t))
      passes_here zero below = not_stuck t
      passes_here (suc k) below =
          subst (λ (u : PlacedTurn H W). IsNotStuck (state (placed_machine m depth q') k u)) (sym next) (later.passes k (omega
          (arith, below)))
