-- Of which kind values are: what fits is of the kinds that are taken, and tests that are alike stay so where more is alike.
use Rattle.std.proofs.Common.{◌≡◌, ℕ, zero, suc, List, [], ◌∷◌, Option, Some, None, refl, sym, ap, subst, ◌∙◌}
use Rattle.std.specs.Prelude.{nat_eq, slice_get}
use Rattle.kk_syntax.specs.declared.operator.UnaryOperator.TheVariants.{Negate, Not}
use Rattle.kk_syntax.specs.declared.program.Form.{Form}
use Rattle.kk_syntax.specs.declared.program.Form.TheVariants.{Number as Literal, Unit as Nothing, ReadByte, PrintText, Unary, Binary, Print, Construct, Call}
use Rattle.kk_syntax.specs.Programs.{ConstructorTree}
use Rattle.kk_source.specs.NeverStuck.{ArgumentsFit}
use Rattle.kk_source.specs.State.{Value, integer, unit, constant, place, Cell}
use Rattle.kk_core.specs.Decisions.{NodeTree, chooses, tests}
use Rattle.kk_core.specs.declared.decisions.Answer.{Answer}
use Rattle.kk_core.specs.declared.decisions.Answer.TheVariants.{Number, Constructor}
use Rattle.kk_core.specs.declared.decisions.Edge.{Edge}
use Rattle.kk_core.specs.Kinds.{TakesKinds, is_plain, AreAlike, AllAlike, ShowsIts, TestsNode, TestsFrom, TestsAlike}

-- arguments that fit are numbers and truths
pub takes_kinds : (constructors : List ConstructorTree) (texts : List (List ℕ)) (CallFits : ℕ → List Value → Type 0) (form : Form)
    (vs : List Value) → ArgumentsFit constructors texts CallFits form vs → TakesKinds form vs
takes_kinds constructors texts CallFits (Literal n) vs fits = tt
takes_kinds constructors texts CallFits Nothing vs fits = tt
takes_kinds constructors texts CallFits ReadByte vs fits = tt
takes_kinds constructors texts CallFits (PrintText form text) vs fits = tt
takes_kinds constructors texts CallFits (Unary Negate) vs fits = subst (TakesKinds (Unary Negate)) (sym fits.1) (fits.0, refl)
takes_kinds constructors texts CallFits (Unary Not) vs fits = subst (TakesKinds (Unary Not)) (sym fits.1) (fits.0, refl)
takes_kinds constructors texts CallFits (Binary operator) vs fits =
    subst (TakesKinds (Binary operator)) (sym fits.2) ((fits.0, refl), (fits.1, refl))
takes_kinds constructors texts CallFits (Print form) vs fits = subst (TakesKinds (Print form)) (sym fits.1) (fits.0, refl)
takes_kinds constructors texts CallFits (Construct c) vs fits = tt
takes_kinds constructors texts CallFits (Call f) vs fits = tt

-- ---- where more is alike

module _ (alike other : ℕ → ℕ → Type 0) (fields many : ℕ → ℕ) (wider : (c d : ℕ) → alike c d → other c d)
    (same : (c : ℕ) → fields c ≡ many c) where
  plain_same : (found : Answer) → is_plain fields found ≡ is_plain many found
  plain_same (Number n) = refl
  plain_same (Constructor c) = ap (λ n. nat_eq n 0) (same c)

  shows_it : (w : Value) (found : Answer) → ShowsIts alike fields w found → ShowsIts other many w found
  shows_it (place at) found shown = sym (plain_same found) ∙ shown
  shows_it (integer n) found shown = sym (plain_same found) ∙ shown
  shows_it unit found shown = sym (plain_same found) ∙ shown
  shows_it (constant c) found shown = sym (plain_same found) ∙ shown

  are_alike : (one found : Answer) → AreAlike alike fields one found → AreAlike other many one found
  are_alike (Number n) (Number m) both = tt
  are_alike (Number n) (Constructor d) both = absurd both
  are_alike (Constructor c) (Number m) both = absurd both
  are_alike (Constructor c) (Constructor d) both = wider c d both

  all_alike : (found : Answer) (edges : List Edge) → AllAlike alike fields found edges → AllAlike other many found edges
  all_alike found [] all = tt
  all_alike found (edge ∷ edges) all = (are_alike edge.found found all.0, all_alike found edges all.1)

  module _ (cells : ℕ → Option Cell) (v : Value) where
    node_alike : (behind later : ℕ → Type 0) → ((k : ℕ) → behind k → later k) → (node : Option NodeTree)
        → TestsNode alike fields cells v behind node → TestsNode other many cells v later node
    node_alike behind later further None asked = tt
    node_alike behind later further (Some (chooses row)) asked = tt
    node_alike behind later further (Some (tests at edges otherwise)) asked =
        λ w there found is. let now = asked w there found is in (
          shows_it w found now.0,
          (all_alike found edges now.1.0, λ k next. further k (now.1.1 k next)),
        )

    from_alike : (nodes : List NodeTree) (steps k : ℕ) → TestsFrom alike fields cells v nodes steps k
        → TestsFrom other many cells v nodes steps k
    from_alike nodes zero k asked = tt
    from_alike nodes (suc steps) k asked =
        node_alike (TestsFrom alike fields cells v nodes steps) (TestsFrom other many cells v nodes steps)
        (from_alike nodes steps) (slice_get nodes k) asked

    pub tests_alike : (nodes : List NodeTree) → TestsAlike alike fields cells v nodes → TestsAlike other many cells v nodes
    tests_alike nodes asked = from_alike nodes _ 0 asked
