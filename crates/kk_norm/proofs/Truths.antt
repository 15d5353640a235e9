-- The test of a truth asks what types tell.
use Rattle.std.proofs.Common.{◌≡◌, ℕ, Bool, true, false, List, Some, sym, subst, ◌∙◌}
use Rattle.std.specs.Prelude.{slice_get, if◌then◌else◌}
use Rattle.std.proofs.lemmas.Option.{none-some, same_Some}
use Rattle.kk_syntax.specs.OfType.{field_types}
use Rattle.kk_syntax.specs.Programs.{ConstructorTree}
use Rattle.kk_syntax.specs.Types.{TypeTree}
use Rattle.kk_source.specs.State.{Value, Store}
use Rattle.kk_source.specs.ValueTypes.{Content, amount, nothing, built, HasContent, IsContentOf, IsOf}
use Rattle.kk_core.specs.declared.decisions.Answer.{Answer}
use Rattle.kk_core.specs.declared.decisions.Answer.TheVariants.{Constructor}
use Rattle.kk_core.specs.Decisions.{is_answer, answer_of}
use Rattle.kk_core.specs.Kinds.{AreAlike, TestsFrom, MakeOneType, field_count, AsksTyped}
use Rattle.kk_core.specs.Truths.{truth_patterns, truth_decisions}
use Rattle.kk_match.proofs.ConstructorValues.{made_answers}
use Rattle.kk_match.proofs.PositionValues.{shows_its}

-- what a value of the type of `False` shows is a constructor of that type
shown_alike : (constructors : List ConstructorTree) (store : Store) (t : TypeTree) (us : List TypeTree) (w : Value) (found : Answer)
    → field_types constructors t 0 ≡ Some us → IsOf constructors store t w → answer_of (slice_get store) w ≡ Some found
    → AreAlike (MakeOneType constructors) (field_count constructors) (Constructor 0) found
shown_alike constructors store t us w found makes of answers = by of.what of.has of.typed
  where
    by : (what : Content) → HasContent store w what → IsContentOf constructors t what
        → AreAlike (MakeOneType constructors) (field_count constructors) (Constructor 0) found
    by (amount n) has typed = absurd (none-some us (subst (λ (u : TypeTree). field_types constructors u 0 ≡ Some us) typed makes))
    by nothing has typed = absurd (none-some us (subst (λ (u : TypeTree). field_types constructors u 0 ≡ Some us) typed makes))
    by (built d parts) has typed =
        subst (AreAlike (MakeOneType constructors) (field_count constructors) (Constructor 0))
        (same_Some (Constructor d) found (sym (made_answers store w d has.0 has.1) ∙ answers)) (t, us, typed.0, makes, typed.1)

pub truths_ask : (constructors : List ConstructorTree) → AsksTyped constructors truth_patterns truth_decisions
truths_ask constructors t store v patterns of =
    λ w is found answers. let here : IsOf constructors store t w = subst (IsOf constructors store t) (same_Some v w is) of in (
      shows_its constructors store t w found here answers,
      (
        (shown_alike constructors store t patterns.1.0.0 w found patterns.1.0.1 here answers, tt),
        λ k next. behind k (is_answer (Constructor 0) found) next,
      ),
    )
  where
    Behind : ℕ → Type 0
    Behind = TestsFrom (MakeOneType constructors) (field_count constructors) (slice_get store) v truth_decisions 2

    behind : (k : ℕ) (is : Bool) → (if is then Some 2 else Some 1) ≡ Some k → Behind k
    behind k true next = subst Behind (same_Some 2 k next) tt
    behind k false next = subst Behind (same_Some 1 k next) tt
