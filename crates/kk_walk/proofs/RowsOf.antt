-- A walk over the rows of a match.
use Rattle.std.proofs.Common.{◌≡◌, ◌<◌, ◌≤◌, ◌+◌, ℕ, Bool, true, false, List, [], ◌∷◌, ◌++◌, length, map, get_or, take, drop, drop_of_length-le, refl, ap, sym, ◌∙◌, subst, arith}
use Rattle.std.specs.Prelude.{Ok}
use Rattle.std.proofs.lemmas.List.Elements.{All-nil, All-cons}
use Rattle.kk_syntax.specs.declared.program.Row.{Row}
use Rattle.kk_syntax.specs.Patterns.{Pattern, pattern_tree}
use Rattle.kk_syntax.specs.Programs.{ProgramTree}
use Rattle.kk_syntax.specs.Shapes.{bound}
use Rattle.kk_syntax.specs.Trees.{Tree, rows_of, expr_tree, row_tree}
use Rattle.kk_syntax.specs.Types.{TypeTree}
use Rattle.kk_syntax.specs.Typing.{Choice, Scope, holding, with_bound, Binds, InTurn, IsPatternTyped, IsTypedBy}
use Rattle.kk_syntax.proofs.ProgramTrees.{next_row}
use Rattle.kk_unify.specs.Graphs.{NodeTree, Assignment}
use Rattle.kk_unify.specs.GraphOf.{variables_of}
use Rattle.kk_walk.specs.declared.walk.Bound.{Bound}
use Rattle.kk_walk.specs.declared.walk.Walk.{Walk}
use Rattle.kk_walk.specs.Claims.{both, expression_at, rows_at, pattern_at}
use Rattle.kk_walk.specs.Steps.{nodes_of, size_of, Goes, Walked, BindsEach}
use Rattle.kk_walk.specs.Walks.{Taking, holding_at, takings_of, choices_at, AreBelow, IsTakenBelow, AreTakenBelow, AreBoundBelow, scope_at, Claim, Leads, Done, Refused, IsOf, Opens}
use Rattle.kk_walk.proofs.WalkComposition.{still_inside, still_bound, takes_then, refused_after, goes_on, goes_first}
use Rattle.kk_walk.proofs.Locals.{node_of, both_of, expression_of, rows_of_claim}
use Rattle.kk_walk.proofs.ClaimComposition.{head_of, tail_of, scope_agrees, Chooses, opens_leads, then_leads, refused_behind, first_refused}

-- what is taken for variables
taken_below : (size : ℕ) (numbers : List ℕ) → AreBelow size numbers → AreTakenBelow size (map holding_at numbers)
taken_below size [] below = All-nil (IsTakenBelow size)
taken_below size (i ∷ is) below =
    All-cons (IsTakenBelow size) (holding_at i) (map holding_at is) (head_of (λ j. j < size) i is below) (taken_below size is (tail_of (λ j. j < size) i is below))

choices_held : (r : Assignment) (numbers : List ℕ) → choices_at r (map holding_at numbers) ≡ map holding (map r numbers)
choices_held r [] = refl
choices_held r (i ∷ is) = ap (λ l. holding (r i) ∷ l) (choices_held r is)

-- a claim that is of no node
constant_of : (size : ℕ) (F : List Choice → Type 0) → IsOf size (λ r. F)
constant_of size F = record { follows = λ r q choices agree whole. whole }

-- the same walk, with what is to be shown and what is left in other words
retold : (a b : List NodeTree) (xs : List Taking) (Whole Left Whole_ Left_ : Claim) → ((r : Assignment) (choices : List Choice) → Whole_ r choices → Whole r choices) → ((r : Assignment) (choices : List Choice) → Whole r choices → Whole_ r choices) → ((r : Assignment) (choices : List Choice) → Left r choices → Left_ r choices) → ((r : Assignment) (choices : List Choice) → Left_ r choices → Left r choices) → Leads a b xs Whole Left → Leads a b xs Whole_ Left_
retold a b xs Whole Left Whole_ Left_ into out on back leads = record {
  longer = leads.longer;
  below = leads.below;
  sound = λ r choices obeys left.
      let one = leads.sound r choices obeys (back r choices left) in
      (one.0, out r (choices_at r xs ++ choices) one.1);
  complete = λ r choices obeys whole.
      let one = leads.complete r choices obeys (into r choices whole) in
      (one.0, one.1, one.2, (one.3.0, one.3.1, on one.0 one.3.0 one.3.2));
}

module _ (g h : List NodeTree) (variables at : List ℕ) (outer inner : List Bound) (opens : Opens g h at (length variables)) (scope : (r : Assignment) → scope_at r inner ≡ with_bound variables (map r at) (scope_at r outer)) (inside : AreBoundBelow (length g) outer) (Inside : Assignment → Scope → List Choice → Type 0) (of : (scope : Scope) → IsOf (length g) (λ r. Inside r scope)) where
  abbrev bound_in : Claim
  bound_in r = Binds variables (scope_at r outer) (Inside r)

  abbrev chosen_in : Assignment → List TypeTree → List Choice → Type 0
  chosen_in r ts = Inside r (with_bound variables ts (scope_at r outer))

  chosen_of : (ts : List TypeTree) → IsOf (length g) (λ r. chosen_in r ts)
  chosen_of ts = record {
    follows = λ r q choices agree whole.
        subst (λ env. Inside q (with_bound variables ts env) choices) (scope_agrees (length g) r q agree outer inside) ((of (with_bound variables ts (scope_at r outer))).follows r q choices agree whole);
  }

  -- the variables are bound, and what is left is inside
  binds_leads : Leads g h (map holding_at at) bound_in (λ r. Inside r (scope_at r inner))
  binds_leads =
      retold g h (map holding_at at) (λ r. Chooses (length variables) (map holding) (chosen_in r)) (λ r. chosen_in r (map r at)) bound_in (λ r. Inside r (scope_at r inner))
      (λ r choices met. record { at = met.at; each = met.each; rest = met.rest; choices_are = met.choices_are; inside = met.inside })
      (λ r choices met. record { at = met.at; each = met.each; rest = met.rest; choices_are = met.choices_are; inside = met.inside })
      (λ r choices met. subst (λ env. Inside r env choices) (sym (scope r)) met)
      (λ r choices met. subst (λ env. Inside r env choices) (scope r) met)
      (opens_leads g h at (length variables) (map holding_at at) (map holding) chosen_in opens (taken_below (length h) at opens.inside) (λ r. choices_held r at) chosen_of)

module _ (program : ProgramTree) (pattern : Pattern) (body : Tree) (scrutinee want : ℕ) where
  abbrev pub in_row : Assignment → Scope → List Choice → Type 0
  in_row r scope = InTurn (IsPatternTyped program scope pattern (r scrutinee)) (IsTypedBy program scope body (r want))

  abbrev pub one_row : List Bound → Claim
  one_row bounds r = Binds (bound pattern) (scope_at r bounds) (in_row r)

  abbrev pub row_pattern : List Bound → Claim
  row_pattern bounds = pattern_at program bounds pattern scrutinee

  abbrev pub row_body : List Bound → Claim
  row_body bounds = expression_at program bounds body want

  in_row_of : (size : ℕ) → scrutinee < size → want < size → (scope : Scope) → IsOf size (λ r. in_row r scope)
  in_row_of size first_lt lt scope =
      both_of size (λ r. IsPatternTyped program scope pattern (r scrutinee)) (λ r. IsTypedBy program scope body (r want))
      (node_of size scrutinee (λ r t. IsPatternTyped program scope pattern t) first_lt (λ t. constant_of size (IsPatternTyped program scope pattern t)))
      (node_of size want (λ r t. IsTypedBy program scope body t) lt (λ t. constant_of size (IsTypedBy program scope body t)))

  pub row_begun : (g h : List NodeTree) (at : List ℕ) (outer inner : List Bound) → Opens g h at (length (bound pattern)) → ((r : Assignment) → scope_at r inner ≡ with_bound (bound pattern) (map r at) (scope_at r outer)) → AreBoundBelow (length g) outer → scrutinee < length g → want < length g → Leads g h (map holding_at at) (one_row outer) (both (row_pattern inner) (row_body inner))
  row_begun g h at outer inner opens scope inside first_lt lt = binds_leads g h (bound pattern) at outer inner opens scope inside in_row (in_row_of (length g) first_lt lt)

module _ (program : ProgramTree) (a b : Walk) (pattern : Pattern) (body : Tree) (scrutinee want : ℕ) (inside : AreBoundBelow (size_of a) a.scope.items) (first_lt : scrutinee < size_of a) (lt : want < size_of a) (binds : BindsEach a b (bound pattern)) where
  abbrev this_row : Claim
  this_row = one_row program pattern body scrutinee want a.scope.items

  abbrev this_pattern : Claim
  this_pattern = row_pattern program pattern body scrutinee want b.scope.items

  abbrev this_body : Claim
  this_body = row_body program pattern body scrutinee want b.scope.items

  begun : Leads (nodes_of a) (nodes_of b) (map holding_at binds.at) this_row (both this_pattern this_body)
  begun = row_begun program pattern body scrutinee want (nodes_of a) (nodes_of b) binds.at a.scope.items b.scope.items binds.opens binds.scope inside first_lt lt

  pub pattern_refused : (c : Walk) → Walked b c this_pattern (Ok false) → Refused (nodes_of a) this_row
  pattern_refused c walked = refused_behind (nodes_of a) (nodes_of b) (map holding_at binds.at) this_row (both this_pattern this_body) begun (first_refused (nodes_of b) this_pattern this_body walked)

  module _ (c : Walk) (first : Walked b c this_pattern (Ok true)) where
    patterned : Goes b c (both this_pattern this_body) this_body
    patterned = goes_first b c this_pattern this_body (expression_of (size_of b) program b.scope.items (binds.bound_inside inside) body want (omega (arith, lt, binds.opens.longer))) first

    pub body_refused : (d : Walk) → Walked c d (expression_at program c.scope.items body want) (Ok false) → Refused (nodes_of a) this_row
    body_refused d walked =
        refused_behind (nodes_of a) (nodes_of b) (map holding_at binds.at) this_row (both this_pattern this_body) begun
        (refused_after b c (both this_pattern this_body) this_body patterned (subst (λ bs. Refused (nodes_of c) (expression_at program bs body want)) first.same_scope walked))

    -- the row is done, and its variables are gone
    pub row_done : (d e : Walk) → Walked c d (expression_at program c.scope.items body want) (Ok true) → nodes_of e ≡ nodes_of d → variables_of e.graph ≡ variables_of d.graph → e.taken.items ≡ d.taken.items → e.scope.items ≡ take (length a.scope.items) d.scope.items → Goes a e this_row Done
    row_done d e walked same_graph same_variables same_taken cut =
        let rest : Goes c d this_body Done = subst (λ bs. Goes c d (expression_at program bs body want) Done) first.same_scope walked in
        let all = goes_on b c d (both this_pattern this_body) this_body Done patterned rest in
        record {
          taken = map holding_at binds.at ++ all.taken;
          takes = ap takings_of same_taken ∙ takes_then a b d (map holding_at binds.at) all.taken binds.takes all.takes;
          same_scope = cut ∙ (ap (take (length a.scope.items)) all.same_scope ∙ binds.outer);
          same_variables = same_variables ∙ (all.same_variables ∙ binds.same_variables);
          leads = subst (λ g. Leads (nodes_of a) g (map holding_at binds.at ++ all.taken) this_row Done) (sym same_graph) (then_leads (nodes_of a) (nodes_of b) (nodes_of d) (map holding_at binds.at) all.taken this_row (both this_pattern this_body) Done begun all.leads);
        }

module _ (program : ProgramTree) (bounds : List Bound) (scrutinee want : ℕ) where
  -- what is to be shown of rows in memory
  abbrev pub cases_at : List Row → Claim
  cases_at rows = rows_at program bounds (rows_of (map row_tree rows)) scrutinee want

  -- what is to be shown of one
  abbrev pub case_at : Row → Claim
  case_at r q = Binds (bound (pattern_tree r.pattern)) (scope_at q bounds) (λ inner. InTurn (IsPatternTyped program inner (pattern_tree r.pattern) (q scrutinee)) (IsTypedBy program inner (expr_tree r.body) (q want)))

  module _ (a b : Walk) (Whole : Claim) (rows : List Row) (i : ℕ) (r : Row) (lt : i < length rows) (is : r ≡ get_or rows i r) (goes : Goes a b Whole (cases_at (drop i rows))) where
    next_case : Goes a b Whole (both (case_at r) (cases_at (drop (i + 1) rows)))
    next_case =
        subst (λ left. Goes a b Whole (rows_at program bounds left scrutinee want)) (next_row rows i r is lt) goes

    pub case_refused : Refused (nodes_of b) (case_at r) → Refused (nodes_of a) Whole
    case_refused refused = refused_after a b Whole (both (case_at r) (cases_at (drop (i + 1) rows))) next_case (first_refused (nodes_of b) (case_at r) (cases_at (drop (i + 1) rows)) refused)

    pub case_goes : (c : Walk) → AreBoundBelow (size_of b) bounds → scrutinee < size_of b → want < size_of b → Goes b c (case_at r) Done → Goes a c Whole (cases_at (drop (i + 1) rows))
    case_goes c inside first_lt less one =
        goes_on a b c Whole (both (case_at r) (cases_at (drop (i + 1) rows))) (cases_at (drop (i + 1) rows)) next_case
        (goes_first b c (case_at r) (cases_at (drop (i + 1) rows)) (rows_of_claim (size_of b) program bounds inside (rows_of (map row_tree (drop (i + 1) rows))) scrutinee want first_lt less) one)

-- no row is left
pub cases_done : (program : ProgramTree) (bounds : List Bound) (scrutinee want : ℕ) (a b : Walk) (Whole : Claim) (rows : List Row) (i : ℕ) → length rows ≤ i → Goes a b Whole (cases_at program bounds scrutinee want (drop i rows)) → Goes a b Whole Done
cases_done program bounds scrutinee want a b Whole rows i none goes = subst (λ rs. Goes a b Whole (cases_at program bounds scrutinee want rs)) (drop_of_length-le rows none) goes

-- a turn of the loop over the rows of a match
module _ (program : ProgramTree) (old mid : Walk) (Whole : Claim) (rows : List Row) (i : ℕ) (one : Row) (lt : i < length rows) (is : one ≡ get_or rows i one) (scrutinee want : ℕ) (inside : AreBoundBelow (size_of old) old.scope.items) (first_lt : scrutinee < size_of old) (less : want < size_of old) (goes : Goes old mid Whole (cases_at program old.scope.items scrutinee want (drop i rows))) (after : Walk) (binds : BindsEach mid after (bound (pattern_tree one.pattern))) (patterned_ : Walk) (matches : Bool) (walked : Walked after patterned_ (pattern_at program after.scope.items (pattern_tree one.pattern) scrutinee) (Ok matches)) where
  abbrev case_here : Claim
  case_here = case_at program mid.scope.items scrutinee want one

  inside_here : AreBoundBelow (size_of mid) mid.scope.items
  inside_here = still_bound old mid Whole (cases_at program old.scope.items scrutinee want (drop i rows)) goes inside

  scrutinee_here : scrutinee < size_of mid
  scrutinee_here = still_inside old mid Whole (cases_at program old.scope.items scrutinee want (drop i rows)) goes scrutinee first_lt

  want_here : want < size_of mid
  want_here = still_inside old mid Whole (cases_at program old.scope.items scrutinee want (drop i rows)) goes want less

  refused_here : Refused (nodes_of mid) case_here → Refused (nodes_of old) Whole
  refused_here refused = case_refused program old.scope.items scrutinee want old mid Whole rows i one lt is goes (subst (λ bs. Refused (nodes_of mid) (case_at program bs scrutinee want one)) goes.same_scope refused)

  pub pattern_fails : matches ≡ false → Refused (nodes_of old) Whole
  pattern_fails fails =
      refused_here
      (pattern_refused program mid after (pattern_tree one.pattern) (expr_tree one.body) scrutinee want inside_here scrutinee_here want_here binds patterned_
      (subst (λ ok. Walked after patterned_ (pattern_at program after.scope.items (pattern_tree one.pattern) scrutinee) (Ok ok)) fails walked))

  module _ (holds : matches ≡ true) (ended : Walk) (typed : Bool) (second : Walked patterned_ ended (expression_at program patterned_.scope.items (expr_tree one.body) want) (Ok typed)) where
    matched_here : Walked after patterned_ (pattern_at program after.scope.items (pattern_tree one.pattern) scrutinee) (Ok true)
    matched_here = subst (λ ok. Walked after patterned_ (pattern_at program after.scope.items (pattern_tree one.pattern) scrutinee) (Ok ok)) holds walked

    pub body_fails : typed ≡ false → Refused (nodes_of old) Whole
    body_fails fails =
        refused_here
        (body_refused program mid after (pattern_tree one.pattern) (expr_tree one.body) scrutinee want inside_here scrutinee_here want_here binds patterned_ matched_here ended
        (subst (λ ok. Walked patterned_ ended (expression_at program patterned_.scope.items (expr_tree one.body) want) (Ok ok)) fails second))

    pub row_goes : typed ≡ true → (end : Walk) → nodes_of end ≡ nodes_of ended → variables_of end.graph ≡ variables_of ended.graph → end.taken.items ≡ ended.taken.items → end.scope.items ≡ take (length old.scope.items) ended.scope.items → Goes old end Whole (cases_at program old.scope.items scrutinee want (drop (i + 1) rows))
    row_goes done end same_graph same_variables same_taken cut =
        case_goes program old.scope.items scrutinee want old mid Whole rows i one lt is goes end (subst (AreBoundBelow (size_of mid)) goes.same_scope inside_here) scrutinee_here want_here
        (subst (λ bs. Goes mid end (case_at program bs scrutinee want one) Done) goes.same_scope
        (row_done program mid after (pattern_tree one.pattern) (expr_tree one.body) scrutinee want inside_here scrutinee_here want_here binds patterned_ matched_here ended end
        (subst (λ ok. Walked patterned_ ended (expression_at program patterned_.scope.items (expr_tree one.body) want) (Ok ok)) done second) same_graph same_variables same_taken
        (cut ∙ ap (λ n. take n ended.scope.items) (sym (ap length goes.same_scope)))))
