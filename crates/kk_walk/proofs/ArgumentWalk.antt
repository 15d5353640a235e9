-- A walk over arguments.
use Rattle.std.proofs.Common.{◌≡◌, ◌<◌, ◌+◌, ℕ, true, false, List, [], ◌∷◌, length, map, get_or, drop, refl, ap, sym, ◌∙◌, subst, arith}
use Rattle.std.specs.Prelude.{Ok}
use Rattle.std.proofs.lemmas.List.{length-map}
use Rattle.kk_base.proofs.Lists.{rest_at}
use Rattle.std.proofs.lemmas.List.Elements.{All-drop}
use Rattle.kk_syntax.specs.declared.program.Expr.{Expr}
use Rattle.kk_syntax.specs.Programs.{ProgramTree}
use Rattle.kk_syntax.specs.Trees.{Tree, tree, trees_of, expr_tree}
use Rattle.kk_syntax.proofs.ProgramTrees.{next_expr}
use Rattle.kk_syntax.specs.Types.{TypeTree}
use Rattle.kk_syntax.specs.Typing.{Choice, Scope, AreTypedBy}
use Rattle.kk_unify.specs.Graphs.{NodeTree}
use Rattle.kk_walk.specs.declared.walk.Bound.{Bound}
use Rattle.kk_walk.specs.declared.walk.Walk.{Walk}
use Rattle.kk_walk.specs.Claims.{both, expression_at, expressions_at}
use Rattle.kk_walk.specs.Steps.{nodes_of, size_of, Goes, Walked}
use Rattle.kk_walk.specs.Walks.{AreBelow, AreBoundBelow, scope_at, Claim, Refused}
use Rattle.kk_walk.proofs.WalkComposition.{refused_after, goes_on, goes_first, goes_reworded}
use Rattle.kk_walk.proofs.Locals.{expressions_of}
use Rattle.kk_walk.proofs.ClaimComposition.{first_refused}

-- as many arguments as are taken
as_many : (program : ProgramTree) (scope : Scope) (es : List Tree) (ts : List TypeTree) (choices : List Choice) → AreTypedBy program scope (trees_of es) ts choices → length es ≡ length ts
as_many program scope [] [] choices typed = refl
as_many program scope [] (t ∷ ts) choices typed = absurd typed
as_many program scope (e ∷ es) [] choices typed = absurd typed
as_many program scope (e ∷ es) (t ∷ ts) choices typed = let rest = as_many program scope es ts typed.1 typed.4 in omega arith

module _ (program : ProgramTree) (arguments : List Expr) (wants : List ℕ) where
  abbrev pub left_of : List Bound → ℕ → Claim
  left_of bounds i = expressions_at program bounds (trees_of (map expr_tree (drop i arguments))) (drop i wants)

  pub too_many : (graph : List NodeTree) (bounds : List Bound) → (length arguments ≡ length wants → ⊥) → Refused graph (expressions_at program bounds (trees_of (map expr_tree arguments)) wants)
  too_many graph bounds other = record {
    none = λ r choices obeys whole.
        let same = as_many program (scope_at r bounds) (map expr_tree arguments) (map r wants) choices whole in
        other (sym (length-map arguments expr_tree) ∙ (same ∙ length-map wants r));
  }

  -- nothing was walked over yet
  pub none_yet : (a : Walk) → Goes a a (left_of a.scope.items 0) (left_of a.scope.items 0)
  none_yet a = goes_reworded a (left_of a.scope.items 0) (left_of a.scope.items 0) (λ r choices obeys whole. whole) (λ r choices obeys left. left)

  module _ (a b : Walk) (bounds : List Bound) (i : ℕ) (argument : Expr) (want : ℕ) (lt : i < length arguments) (as_long : length arguments ≡ length wants) (here : argument ≡ get_or arguments i argument) (there : want ≡ get_or wants i want) where
    abbrev first_typed : Claim
    first_typed = expression_at program bounds (expr_tree argument) want

    -- one argument, and the others
    parted : left_of bounds i ≡ both first_typed (left_of bounds (i + 1))
    parted =
        ap (λ es. expressions_at program bounds es (drop i wants)) (next_expr arguments i argument here lt)
        ∙ ap (expressions_at program bounds (tree (expr_tree argument) (trees_of (map expr_tree (drop (i + 1) arguments)))))
        (rest_at wants i want (omega (arith, lt, as_long)) there)

    -- one argument more
    pub argument_walked : AreBoundBelow (size_of b) bounds → AreBelow (size_of b) wants → (c : Walk) → Goes a b (left_of bounds 0) (left_of bounds i) → Walked b c first_typed (Ok true) → Goes a c (left_of bounds 0) (left_of bounds (i + 1))
    argument_walked bound inside c goes walked =
        goes_on a b c (left_of bounds 0) (left_of bounds i) (left_of bounds (i + 1)) goes
        (subst (λ whole. Goes b c whole (left_of bounds (i + 1))) (sym parted)
        (goes_first b c first_typed (left_of bounds (i + 1)) (expressions_of (size_of b) program bounds bound (trees_of (map expr_tree (drop (i + 1) arguments))) (drop (i + 1) wants) (All-drop (λ w. w < size_of b) (i + 1) wants inside)) walked))

    pub argument_refused : (c : Walk) → Goes a b (left_of bounds 0) (left_of bounds i) → Walked b c first_typed (Ok false) → Refused (nodes_of a) (left_of bounds 0)
    argument_refused c goes walked =
        refused_after a b (left_of bounds 0) (left_of bounds i) goes
        (subst (Refused (nodes_of b)) (sym parted) (first_refused (nodes_of b) first_typed (left_of bounds (i + 1)) walked))
