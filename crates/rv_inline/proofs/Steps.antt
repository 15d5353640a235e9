-- Steps of both machines, as a simulation asks for them.
use Rattle.std.proofs.Common.{◌≡◌, ◌≢◌, ◌≤◌, ◌<◌, ℕ, zero, suc, ◌+◌, List, length, drop, refl, ap, ◌∙◌, arith}
use Rattle.std.proofs.lemmas.List.{append-nil}
use Rattle.kk_base.specs.Machines.{state}
use Rattle.kk_base.specs.Simulations.{Reaches}
use Rattle.rv_isa.specs.AsmCode.{Lines}
use Rattle.rv_isa.specs.AsmMachine.{AsmState, AsmTurn, asm_next, asm_told, asm_weight, asm_machine}
use Rattle.rv_isa.specs.Primitives.{Primitives, go, ended, stuck}
use Rattle.rv_inline.specs.Relation.{StandsFor, NeverStuck, Related, IsNotStuck}

module _ {H E W : Type 0} (m : Primitives H E W) (depth : ℕ) (q q' : List Lines) where
  -- what the simulation asks for
  abbrev pub Step : ℕ → ℕ → AsmState H → AsmState H → Type 0
  Step credit idle s t =
      Reaches (asm_machine m depth q') (Related m depth q q') IsNotStuck 1 (asm_weight m (go s) + credit) 1 idle
      (drop (length (m.told s.shared)) (asm_told m (asm_next m depth q (go s)))) (asm_next m depth q (go s)) (go t)

  pub not_stuck : (t : AsmState H) → IsNotStuck {H = H} {W = W} (go t)
  not_stuck t e = cc

  pub told_same : (s t : AsmTurn H W) → s ≢ stuck → StandsFor q q' s t → asm_told m t ≡ asm_told m s
  told_same (go s) (go t) good stands = ap m.told stands.1
  told_same (go s) (ended how shared) good stands = absurd stands
  told_same (go s) stuck good stands = absurd stands
  told_same (ended how shared) (go t) good stands = absurd stands
  told_same (ended how shared) (ended how' shared') good stands = ap m.told stands.1
  told_same (ended how shared) stuck good stands = absurd stands
  told_same stuck t good stands = absurd (good refl)

  -- one step in both
  pub one_step : (credit idle : ℕ) (s t : AsmState H) → t.shared ≡ s.shared
      → asm_weight {W = W} m (go t) ≤ asm_weight {W = W} m (go s) → NeverStuck m depth q (go s)
      → StandsFor q q' (asm_next m depth q (go s)) (asm_next m depth q' (go t)) → Step credit idle s t
  one_step credit idle s t same weighs never stands =
      record {
        steps = 1;
        credit_after = credit;
        idle_after = idle;
        paid = omega (arith, weighs);
        moves = omega arith;
        events_are = append-nil (drop (length (m.told t.shared)) (asm_told m (asm_next m depth q' (go t))))
            ∙ ap (λ (h : H). drop (length (m.told h)) (asm_told m (asm_next m depth q' (go t)))) same
            ∙ ap (drop (length (m.told s.shared)))
            (told_same (asm_next m depth q (go s)) (asm_next m depth q' (go t)) (never 1) stands);
        passes = passes_here;
        related = ((λ n. never (suc n)), stands);
      }
    where
      passes_here : (k : ℕ) → k < 1 → IsNotStuck (state (asm_machine m depth q') k (go t))
      passes_here zero less = not_stuck t
      passes_here (suc k) less = absurd (omega (arith, less))
