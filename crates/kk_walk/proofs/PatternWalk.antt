-- A walk over patterns whose variables are bound.
use Rattle.std.proofs.Common.{◌≡◌, ◌<◌, ◌≤◌, ◌+◌, ℕ, Bool, true, false, Option, Some, None, List, [], ◌∷◌, length, map, get_or, drop, drop_of_length-le, refl, sym, ◌∙◌, subst, arith}
use Rattle.std.specs.Prelude.{Result, Ok}
use Rattle.std.proofs.lemmas.List.{drop_more, length-map}
use Rattle.std.proofs.lemmas.List.Elements.{All-drop}
use Rattle.kk_base.specs.declared.error.NoMemory.{NoMemory}
use Rattle.kk_syntax.specs.declared.program.Pat.{Pat}
use Rattle.kk_syntax.specs.Patterns.{Pattern, constructor, Patterns, patterns_of, pattern_tree}
use Rattle.kk_syntax.proofs.ProgramTrees.{next_part}
use Rattle.kk_syntax.specs.Programs.{ProgramTree}
use Rattle.kk_syntax.specs.Types.{TypeTree}
use Rattle.kk_syntax.specs.Typing.{Choice, Scheme, Scope, constructing, constructor_scheme, IsPatternTyped, ArePatternsTyped}
use Rattle.kk_unify.specs.Graphs.{NodeTree, Assignment}
use Rattle.kk_walk.specs.declared.instance.Instance.{Instance}
use Rattle.kk_walk.specs.declared.walk.Bound.{Bound}
use Rattle.kk_walk.specs.declared.walk.Walk.{Walk}
use Rattle.kk_walk.specs.Claims.{typed_as, both, pattern_at, patterns_at}
use Rattle.kk_walk.specs.Steps.{nodes_of, size_of, Goes, Walked, AnswersInstance, Instantiates}
use Rattle.kk_walk.specs.Walks.{AreBelow, AreBoundBelow, scope_at, Claim, Done, Refused, IsOf}
use Rattle.kk_walk.proofs.WalkComposition.{refused_after, goes_on, goes_first, walked_behind}
use Rattle.kk_walk.proofs.Locals.{scoped_of, node_of, nodes_of_claim}
use Rattle.kk_walk.proofs.ClaimComposition.{below_more, bound_more, first_refused}
use Rattle.kk_walk.proofs.SchemeWalk.{unused, was_given, not_given}

module _ (size : ℕ) (program : ProgramTree) (bounds : List Bound) (inside : AreBoundBelow size bounds) where
  pub pattern_of : (p : Pattern) (want : ℕ) → want < size → IsOf size (pattern_at program bounds p want)
  pattern_of p want lt = node_of size want (λ r t choices. IsPatternTyped program (scope_at r bounds) p t choices) lt (λ t. scoped_of size bounds (λ scope choices. IsPatternTyped program scope p t choices) inside)

  pub parts_of : (ps : Patterns) (wants : List ℕ) → AreBelow size wants → IsOf size (patterns_at program bounds ps wants)
  parts_of ps wants lt = nodes_of_claim size wants (λ r ts choices. ArePatternsTyped program (scope_at r bounds) ps ts choices) lt (λ ts. scoped_of size bounds (λ scope choices. ArePatternsTyped program scope ps ts choices) inside)

module _ (program : ProgramTree) (a : Walk) (want : ℕ) (bound : AreBoundBelow (size_of a) a.scope.items) (lt : want < size_of a) (c : ℕ) (parts : Patterns) where
  abbrev parts_typed : Assignment → List TypeTree → List Choice → Type 0
  parts_typed r ts choices = ArePatternsTyped program (scope_at r a.scope.items) parts ts choices

  abbrev chosen : List TypeTree → List Choice
  chosen ts = constructing c ts ∷ []

  abbrev whole : Claim
  whole = pattern_at program a.scope.items (constructor c parts) want

  typed_parts_of : (ts : List TypeTree) → IsOf (size_of a) (λ r. parts_typed r ts)
  typed_parts_of ts = scoped_of (size_of a) a.scope.items (λ scope choices. ArePatternsTyped program scope parts ts choices) bound

  pub no_constructor : constructor_scheme program c ≡ None → Refused (nodes_of a) whole
  no_constructor none = unused (constructor_scheme program c) chosen want parts_typed (nodes_of a) none

  module _ (b : Walk) (instance : Instance) (made : Instantiates (constructor_scheme program c) chosen a b instance) where
    pub constructor_not_given : (d : Walk) → Walked b d (typed_as want (λ r. r instance.result)) (Ok false) → Refused (nodes_of a) whole
    constructor_not_given d walked = not_given (constructor_scheme program c) chosen want parts_typed a b instance made lt typed_parts_of d walked

    pub constructor_walked : (d e : Walk) (result : Result Bool NoMemory) → Walked b d (typed_as want (λ r. r instance.result)) (Ok true) → Walked d e (patterns_at program d.scope.items parts instance.parameters.items) result → Walked a e whole result
    constructor_walked d e result given walked =
        let inside = bound_more (size_of a) (size_of b) a.scope.items made.nodes.opens.longer bound in
        let first = was_given (constructor_scheme program c) chosen want parts_typed a b instance made lt typed_parts_of d (parts_of (size_of b) program a.scope.items inside parts instance.parameters.items made.nodes.takes_inside) given in
        walked_behind a d e whole (patterns_at program a.scope.items parts instance.parameters.items) result first
        (subst (λ bs. Walked d e (patterns_at program bs parts instance.parameters.items) result) first.same_scope walked)

-- as many patterns are typed as there are types
as_many : (program : ProgramTree) (scope : Scope) (ps : List Pattern) (ts : List TypeTree) (choices : List Choice) → ArePatternsTyped program scope (patterns_of ps) ts choices → length ps ≡ length ts
as_many program scope [] [] choices h = refl
as_many program scope [] (t ∷ ts) choices h = absurd h
as_many program scope (p ∷ ps) [] choices h = absurd h
as_many program scope (p ∷ ps) (t ∷ ts) choices h = let rest = as_many program scope ps ts h.1 h.4 in omega arith

module _ (program : ProgramTree) (bounds : List Bound) where
  -- what is to be shown of patterns in memory
  abbrev pub parts_at : List Pat → List ℕ → Claim
  parts_at ps wants = patterns_at program bounds (patterns_of (map pattern_tree ps)) wants

  pub other_length : (graph : List NodeTree) (ps : List Pat) (wants : List ℕ) → (length ps ≡ length wants → ⊥) → Refused graph (parts_at ps wants)
  other_length graph ps wants other = record {
    none = λ r choices obeys whole_.
        let same = as_many program (scope_at r bounds) (map pattern_tree ps) (map r wants) choices whole_ in
        other (omega (arith, same, length-map ps pattern_tree, length-map wants r));
  }

  module _ (a b : Walk) (Whole : Claim) (ps : List Pat) (wants : List ℕ) (i : ℕ) (p : Pat) (lt : i < length ps) (same : length ps ≡ length wants) (is : p ≡ get_or ps i p) (goes : Goes a b Whole (parts_at (drop i ps) (drop i wants))) where
    abbrev first : Claim
    first = pattern_at program bounds (pattern_tree p) (get_or wants i 0)

    abbrev rest : Claim
    rest = parts_at (drop (i + 1) ps) (drop (i + 1) wants)

    here : Goes a b Whole (both first rest)
    here =
        subst (λ ws. Goes a b Whole (parts_at (p ∷ drop (i + 1) ps) ws)) (drop_more wants i 0 (omega (arith, lt, same)))
        (subst (λ left. Goes a b Whole (patterns_at program bounds left (drop i wants))) (next_part ps i p is lt) goes)

    pub part_refused : (c : Walk) → Walked b c first (Ok false) → Refused (nodes_of a) Whole
    part_refused c walked = refused_after a b Whole (both first rest) here (first_refused (nodes_of b) first rest walked)

    pub part_goes : (c : Walk) → AreBoundBelow (size_of b) bounds → AreBelow (size_of b) wants → Walked b c first (Ok true) → Goes a c Whole rest
    part_goes c inside below walked = goes_on a b c Whole (both first rest) rest here (goes_first b c first rest (parts_of (size_of b) program bounds inside (patterns_of (map pattern_tree (drop (i + 1) ps))) (drop (i + 1) wants) (All-drop (λ w. w < size_of b) (i + 1) wants below)) walked)

-- nothing is left
pub parts_done : (program : ProgramTree) (bounds : List Bound) (a b : Walk) (Whole : Claim) (ps : List Pat) (wants : List ℕ) (i : ℕ) → length ps ≤ i → length wants ≤ i → Goes a b Whole (parts_at program bounds (drop i ps) (drop i wants)) → Goes a b Whole Done
parts_done program bounds a b Whole ps wants i none less goes =
    subst (λ ws. Goes a b Whole (parts_at program bounds [] ws)) (drop_of_length-le wants less) (subst (λ qs. Goes a b Whole (parts_at program bounds qs (drop i wants))) (drop_of_length-le ps none) goes)

-- what parts of a constructor ask for
pub parts_asked : (a b d : Walk) (scheme : Option Scheme) (chosen_ : List TypeTree → List Choice) (instance : Instance) (want : ℕ) (wants : List ℕ) → AreBoundBelow (size_of a) a.scope.items → Instantiates scheme chosen_ a b instance → Walked b d (typed_as want (λ r. r instance.result)) (Ok true) → wants ≡ instance.parameters.items → AreBoundBelow (size_of d) d.scope.items × AreBelow (size_of d) wants
parts_asked a b d scheme chosen_ instance want wants bound made given are = (
  subst (AreBoundBelow (size_of d)) (sym (given.same_scope ∙ made.same_scope)) (bound_more (size_of a) (size_of d) a.scope.items (omega (arith, made.nodes.opens.longer, given.leads.longer)) bound),
  subst (AreBelow (size_of d)) (sym are) (below_more (size_of b) (size_of d) instance.parameters.items given.leads.longer made.nodes.takes_inside),
)

-- a constructor and its parts, as they are in memory
module _ (program : ProgramTree) (a : Walk) (want : ℕ) (bound : AreBoundBelow (size_of a) a.scope.items) (lt : want < size_of a) (c : ℕ) (p : Pattern) (parts : List Pat) (is : p ≡ constructor c (patterns_of (map pattern_tree parts))) (b : Walk) (found : Option Instance) (instance : Instance) (some : found ≡ Some instance) (answers : AnswersInstance (constructor_scheme program c) (λ ts. constructing c ts ∷ []) a b (Ok found)) (d : Walk) (given : Bool) (gives : Walked b d (typed_as want (λ r. r instance.result)) (Ok given)) where
  made : Instantiates (constructor_scheme program c) (λ ts. constructing c ts ∷ []) a b instance
  made = subst (λ o. AnswersInstance (constructor_scheme program c) (λ ts. constructing c ts ∷ []) a b (Ok o)) some answers

  pub not_of_type : given ≡ false → Refused (nodes_of a) (pattern_at program a.scope.items p want)
  not_of_type fails =
      subst (λ q. Refused (nodes_of a) (pattern_at program a.scope.items q want)) (sym is)
      (constructor_not_given program a want bound lt c (patterns_of (map pattern_tree parts)) b instance made d (subst (λ ok. Walked b d (typed_as want (λ r. r instance.result)) (Ok ok)) fails gives))

  pub of_type : given ≡ true → (e : Walk) (ps : List Pat) (wants : List ℕ) (ok : Bool) → ps ≡ parts → wants ≡ instance.parameters.items → Walked d e (patterns_at program d.scope.items (patterns_of (map pattern_tree ps)) wants) (Ok ok) → Walked a e (pattern_at program a.scope.items p want) (Ok ok)
  of_type holds e ps wants ok same are walked =
      subst (λ q. Walked a e (pattern_at program a.scope.items q want) (Ok ok)) (sym is)
      (constructor_walked program a want bound lt c (patterns_of (map pattern_tree parts)) b instance made d e (Ok ok) (subst (λ o. Walked b d (typed_as want (λ r. r instance.result)) (Ok o)) holds gives)
      (subst (λ ws. Walked d e (patterns_at program d.scope.items (patterns_of (map pattern_tree parts)) ws) (Ok ok)) are
      (subst (λ qs. Walked d e (patterns_at program d.scope.items (patterns_of (map pattern_tree qs)) wants) (Ok ok)) same walked)))
