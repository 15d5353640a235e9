-- A walk over an expression, form by form.
use Rattle.std.proofs.Common.{◌≡◌, ◌<◌, ℕ, Bool, true, false, None, List, [], ◌∷◌, subst, arith}
use Rattle.std.specs.Prelude.{Result, Ok}
use Rattle.kk_base.specs.declared.error.NoMemory.{NoMemory}
use Rattle.kk_syntax.specs.declared.program.Form.{Form}
use Rattle.kk_syntax.specs.Programs.{ProgramTree}
use Rattle.kk_syntax.specs.Trees.{Tree, apply, match, Trees, Rows}
use Rattle.kk_syntax.specs.Types.{TypeTree}
use Rattle.kk_syntax.specs.Typing.{Choice, bool, form_scheme, chosen_at, InTurn, Holds, IsTypedBy, AreTypedBy, AreRowsTypedBy}
use Rattle.kk_unify.specs.Graphs.{Assignment}
use Rattle.kk_walk.specs.declared.instance.Instance.{Instance}
use Rattle.kk_walk.specs.declared.walk.Bound.{Bound}
use Rattle.kk_walk.specs.declared.walk.Walk.{Walk}
use Rattle.kk_walk.specs.Claims.{typed_as, both, expression_at, expressions_at, rows_at}
use Rattle.kk_walk.specs.Steps.{nodes_of, size_of, Goes, Walked, Made, Opened, Instantiates}
use Rattle.kk_walk.specs.Walks.{holding_at, AreBoundBelow, scope_at, Claim, Refused, IsOf}
use Rattle.kk_walk.proofs.WalkComposition.{still_inside, still_bound, refused_after, goes_on, goes_first, goes_made, walked_behind}
use Rattle.kk_walk.proofs.Locals.{scoped_of, node_of, both_of, expression_of, expressions_of, rows_of_claim}
use Rattle.kk_walk.proofs.ClaimComposition.{bound_more, first_refused, holds_leads}
use Rattle.kk_walk.proofs.SchemeWalk.{unused, was_given, not_given}

-- a node is taken for a type that is chosen
pub goes_opened : (a b : Walk) (node : ℕ) (V : Assignment → TypeTree → List Choice → Type 0) → Opened a b node → ((t : TypeTree) → IsOf (size_of a) (λ r. V r t)) → Goes a b (λ r. Holds (V r)) (λ r. V r (r node))
goes_opened a b node V opened of = record {
  taken = holding_at node ∷ [];
  takes = opened.takes;
  same_scope = opened.same_scope;
  same_variables = opened.same_variables;
  leads = holds_leads (nodes_of a) (nodes_of b) node V opened.opens of;
}

-- a claim at a scope that is the same
pub in_scope : (program : ProgramTree) (a b : Walk) (bounds : List Bound) (e : Tree) (want : ℕ) (result : Result Bool NoMemory) → a.scope.items ≡ bounds → Walked a b (expression_at program a.scope.items e want) result → Walked a b (expression_at program bounds e want) result
in_scope program a b bounds e want result same walked = subst (λ bs. Walked a b (expression_at program bs e want) result) same walked

module _ (program : ProgramTree) (a : Walk) (want : ℕ) (bound : AreBoundBelow (size_of a) a.scope.items) (lt : want < size_of a) where
  -- a form with its arguments
  module _ (form : Form) (es : Trees) where
    abbrev arguments_typed : Assignment → List TypeTree → List Choice → Type 0
    arguments_typed r ts choices = AreTypedBy program (scope_at r a.scope.items) es ts choices

    arguments_of : (ts : List TypeTree) → IsOf (size_of a) (λ r. arguments_typed r ts)
    arguments_of ts = scoped_of (size_of a) a.scope.items (λ scope choices. AreTypedBy program scope es ts choices) bound

    pub no_form : form_scheme program form ≡ None → Refused (nodes_of a) (expression_at program a.scope.items (apply form es) want)
    no_form none = unused (form_scheme program form) (chosen_at form) want arguments_typed (nodes_of a) none

    module _ (b : Walk) (instance : Instance) (made : Instantiates (form_scheme program form) (chosen_at form) a b instance) where
      pub form_not_given : (c : Walk) → Walked b c (typed_as want (λ r. r instance.result)) (Ok false) → Refused (nodes_of a) (expression_at program a.scope.items (apply form es) want)
      form_not_given c walked = not_given (form_scheme program form) (chosen_at form) want arguments_typed a b instance made lt arguments_of c walked

      pub form_walked : (c d : Walk) (result : Result Bool NoMemory) → Walked b c (typed_as want (λ r. r instance.result)) (Ok true) → Walked c d (expressions_at program c.scope.items es instance.parameters.items) result → Walked a d (expression_at program a.scope.items (apply form es) want) result
      form_walked c d result given walked =
          let inside : AreBoundBelow (size_of b) a.scope.items = bound_more (size_of a) (size_of b) a.scope.items made.nodes.opens.longer bound in
          let first = was_given (form_scheme program form) (chosen_at form) want arguments_typed a b instance made lt arguments_of c (expressions_of (size_of b) program a.scope.items inside es instance.parameters.items made.nodes.takes_inside) given in
          walked_behind a c d (expression_at program a.scope.items (apply form es) want) (expressions_at program a.scope.items es instance.parameters.items) result first
          (subst (λ bs. Walked c d (expressions_at program bs es instance.parameters.items) result) (first.same_scope) walked)

  -- an `if`
  module _ (condition positive negative : Tree) (truth : ℕ) (b : Walk) (made : Made a b truth (λ r. bool)) where
    abbrev branches : Claim
    branches = both (expression_at program a.scope.items positive want) (expression_at program a.scope.items negative want)

    abbrev conditional : Assignment → TypeTree → List Choice → Type 0
    conditional r t choices = InTurn (IsTypedBy program (scope_at r a.scope.items) condition t) (branches r) choices

    -- the whole: the condition's type is known
    abbrev whole : Claim
    whole r choices = conditional r bool choices

    branches_of : (size : ℕ) → AreBoundBelow size a.scope.items → want < size → IsOf size branches
    branches_of size inside less =
        both_of size (expression_at program a.scope.items positive want) (expression_at program a.scope.items negative want) (expression_of size program a.scope.items inside positive want less)
        (expression_of size program a.scope.items inside negative want less)

    begun : Goes a b whole (both (expression_at program a.scope.items condition truth) branches)
    begun =
        goes_made a b truth (λ r. bool) conditional made
        (both_of (size_of a) (λ r. IsTypedBy program (scope_at r a.scope.items) condition bool) branches (scoped_of (size_of a) a.scope.items (λ scope choices. IsTypedBy program scope condition bool choices) bound) (branches_of (size_of a) bound lt))

    pub condition_refused : (c : Walk) → Walked b c (expression_at program b.scope.items condition truth) (Ok false) → Refused (nodes_of a) whole
    condition_refused c walked =
        refused_after a b whole (both (expression_at program a.scope.items condition truth) branches) begun
        (first_refused (nodes_of b) (expression_at program a.scope.items condition truth) branches (in_scope program b c a.scope.items condition truth (Ok false) made.same_scope walked))

    module _ (c : Walk) (first : Walked b c (expression_at program b.scope.items condition truth) (Ok true)) where
      -- the condition is done
      conditioned : Goes a c whole branches
      conditioned =
          goes_on a b c whole (both (expression_at program a.scope.items condition truth) branches) branches begun
          (goes_first b c (expression_at program a.scope.items condition truth) branches
          (branches_of (size_of b) (subst (AreBoundBelow (size_of b)) made.same_scope (still_bound a b whole (both (expression_at program a.scope.items condition truth) branches) begun bound)) (still_inside a b whole (both (expression_at program a.scope.items condition truth) branches) begun want lt))
          (in_scope program b c a.scope.items condition truth (Ok true) made.same_scope first))

      pub positive_refused : (d : Walk) → Walked c d (expression_at program c.scope.items positive want) (Ok false) → Refused (nodes_of a) whole
      positive_refused d walked =
          refused_after a c whole branches conditioned
          (first_refused (nodes_of c) (expression_at program a.scope.items positive want) (expression_at program a.scope.items negative want) (in_scope program c d a.scope.items positive want (Ok false) conditioned.same_scope walked))

      pub branch_walked : (d e : Walk) (result : Result Bool NoMemory) → Walked c d (expression_at program c.scope.items positive want) (Ok true) → Walked d e (expression_at program d.scope.items negative want) result → Walked a e whole result
      branch_walked d e result second third =
          let after = in_scope program c d a.scope.items positive want (Ok true) conditioned.same_scope second in
          let inside = subst (AreBoundBelow (size_of c)) conditioned.same_scope (still_bound a c whole branches conditioned bound) in
          let two =
          goes_on a c d whole branches (expression_at program a.scope.items negative want) conditioned
          (goes_first c d (expression_at program a.scope.items positive want) (expression_at program a.scope.items negative want) (expression_of (size_of c) program a.scope.items inside negative want (still_inside a c whole branches conditioned want lt)) after) in
          walked_behind a d e whole (expression_at program a.scope.items negative want) result two (in_scope program d e a.scope.items negative want result two.same_scope third)

  -- a match
  module _ (scrutinee : Tree) (rows : Rows) (node : ℕ) (b : Walk) (opened : Opened a b node) where
    abbrev cases : Claim
    cases = rows_at program a.scope.items rows node want

    abbrev matched : Claim
    matched = expression_at program a.scope.items (match scrutinee rows) want

    scrutinized : Goes a b matched (both (expression_at program a.scope.items scrutinee node) cases)
    scrutinized =
        goes_opened a b node (λ r t choices. InTurn (IsTypedBy program (scope_at r a.scope.items) scrutinee t) (AreRowsTypedBy program (scope_at r a.scope.items) rows t (r want)) choices) opened
        (λ t. both_of (size_of a) (λ r. IsTypedBy program (scope_at r a.scope.items) scrutinee t) (λ r. AreRowsTypedBy program (scope_at r a.scope.items) rows t (r want))
        (scoped_of (size_of a) a.scope.items (λ scope choices. IsTypedBy program scope scrutinee t choices) bound)
        (node_of (size_of a) want (λ r u choices. AreRowsTypedBy program (scope_at r a.scope.items) rows t u choices) lt (λ u. scoped_of (size_of a) a.scope.items (λ scope choices. AreRowsTypedBy program scope rows t u choices) bound)))

    pub scrutinee_refused : (c : Walk) → Walked b c (expression_at program b.scope.items scrutinee node) (Ok false) → Refused (nodes_of a) matched
    scrutinee_refused c walked =
        refused_after a b matched (both (expression_at program a.scope.items scrutinee node) cases) scrutinized
        (first_refused (nodes_of b) (expression_at program a.scope.items scrutinee node) cases (in_scope program b c a.scope.items scrutinee node (Ok false) opened.same_scope walked))

    pub match_walked : (c d : Walk) (result : Result Bool NoMemory) → Walked b c (expression_at program b.scope.items scrutinee node) (Ok true) → Walked c d (rows_at program c.scope.items rows node want) result → Walked a d matched result
    match_walked c d result first second =
        let whole = both (expression_at program a.scope.items scrutinee node) cases in
        let inside = subst (AreBoundBelow (size_of b)) opened.same_scope (still_bound a b matched whole scrutinized bound) in
        let one =
        goes_on a b c matched whole cases scrutinized
        (goes_first b c (expression_at program a.scope.items scrutinee node) cases (rows_of_claim (size_of b) program a.scope.items inside rows node want (opened.opens.inside 0 node (omega arith)) (still_inside a b matched whole scrutinized want lt))
        (in_scope program b c a.scope.items scrutinee node (Ok true) opened.same_scope first)) in
        walked_behind a c d matched cases result one (subst (λ bs. Walked c d (rows_at program bs rows node want) result) one.same_scope second)
