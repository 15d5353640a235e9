-- How many extra moves code has, and machines that weigh as many more.
use Rattle.std.proofs.Common.{◌≡◌, ◌+◌, ◌*◌, ◌≤◌, ℕ, zero, suc, List, [], ◌∷◌, ◌++◌, Option, Some, None, refl, ap, arith, add-mul}
use Rattle.kk_base.specs.Machines.{Machine, state, trace, weight_of, weight_unless}
use Rattle.kk_base.specs.Simulations.{Reaches, Simulates}
use Rattle.rv_isa.specs.PlacedCode.{PlacedLine, does, moves, PlacedLines}
use Rattle.rv_regs.specs.Heavier.{heavier}
use Rattle.rv_regs.specs.Relation.{MovesWithin, AllMovesWithin, FewMoves, AllFewMoves, extra_in, function_extra, most_extra}

-- ---- the extra moves

moves_within : (extra : ℕ) (code : List PlacedLine) → extra_in code ≤ extra → MovesWithin extra code
moves_within extra [] most = tt
moves_within extra (does alive action args into ∷ code) most = (omega (arith, most), moves_within extra code (omega (arith, most)))
moves_within extra (moves alive value way ∷ code) most = moves_within extra code most

pub all_within : (extra : ℕ) (functions : List PlacedLines) → most_extra functions ≤ extra → AllMovesWithin extra functions
all_within extra [] most = tt
all_within extra (function ∷ functions) most =
    let here : function_extra function ≤ extra = omega (arith, most) in (
      (omega (arith, here), moves_within extra function.code (omega (arith, here))),
      all_within extra functions (omega (arith, most)),
    )

none_in : (code : List PlacedLine) → FewMoves code → extra_in code ≡ 0
none_in [] few = refl
none_in (does alive action args into ∷ code) few = omega (arith, few.0, none_in code few.1)
none_in (moves alive value way ∷ code) few = none_in code few

-- code with few moves has no extra one
pub none_extra : (functions : List PlacedLines) → AllFewMoves functions → most_extra functions ≡ 0
none_extra [] few = refl
none_extra (function ∷ functions) few = omega (arith, few.0.0, none_in function.code few.0.1, none_extra functions few.1)

-- ---- machines of more weight

module _ {S E W : Type 0} (more : ℕ) (machine : Machine S E W) where
  pub same_state : (n : ℕ) (s : S) → state (heavier more machine) n s ≡ state machine n s
  same_state zero s = refl
  same_state (suc n) s = same_state n (machine.step s).1

  pub same_trace : (n : ℕ) (s : S) → trace (heavier more machine) n s ≡ trace machine n s
  same_trace zero s = refl
  same_trace (suc n) s = ap (λ events. (machine.step s).0 ++ events) (same_trace n (machine.step s).1)

  weighs_step : (how : Option W) (weight : ℕ) → weight_unless how (weight + more) ≤ weight + more
  weighs_step None weight = omega arith
  weighs_step (Some w) weight = omega arith

  -- its steps weigh no more than those of the machine, and as much more as there are steps
  pub weighs_within : (n : ℕ) (s : S) → weight_of (heavier more machine) n s ≤ weight_of machine n s + n * more
  weighs_within zero s = omega arith
  weighs_within (suc n) s =
      omega (arith, weighs_step (machine.ending s) (machine.weight s), weighs_within n (machine.step s).1, add-mul 1 n more)

-- what simulates a machine at no more weight simulates it
pub simulates_as_light : {S T E W : Type 0} (upper : Machine S E W) (lower : Machine T E W)
    (Related : ℕ → ℕ → S → T → Type 0) (Passing : T → Type 0) (pace : ℕ)
    → Simulates (heavier 0 upper) lower Related Passing pace → Simulates upper lower Related Passing pace
simulates_as_light upper lower Related Passing pace simulation =
    record {
      by = λ credit idle s t related.
          let one : Reaches lower Related Passing pace ((heavier 0 upper).weight s + credit) 1 idle (upper.step s).0
          (upper.step s).1 t = simulation.by credit idle s t related in
          record {
            steps = one.steps;
            credit_after = one.credit_after;
            idle_after = one.idle_after;
            paid = omega (arith, one.paid, weighs_step 0 upper (upper.ending s) (upper.weight s));
            moves = one.moves;
            events_are = one.events_are;
            passes = one.passes;
            related = one.related;
          };
      alike = simulation.alike;
    }
