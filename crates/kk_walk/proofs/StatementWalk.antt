-- A walk over the statements of a block.
use Rattle.std.proofs.Common.{◌≡◌, ◌<◌, ◌≤◌, ◌+◌, ℕ, Bool, true, false, List, [], ◌∷◌, ◌++◌, length, map, get_or, drop, take, refl, ap, sym, ◌∙◌, subst, arith}
use Rattle.std.specs.Prelude.{Ok}
use Rattle.std.proofs.lemmas.List.{append-nil, length-take, take-append-le, take_all}
use Rattle.std.proofs.lemmas.List.Elements.{All-append, All-nil, All-cons}
use Rattle.kk_syntax.specs.declared.program.Binder.{Binder}
use Rattle.kk_syntax.specs.declared.program.Binder.TheVariants as OfBinder
use Rattle.kk_syntax.specs.declared.program.Statement.{Statement}
use Rattle.kk_syntax.specs.Programs.{ProgramTree}
use Rattle.kk_syntax.specs.Trees.{Tree, sequence, StatementTree, block_of, expr_tree, statement_tree}
use Rattle.kk_syntax.specs.Types.{TypeTree}
use Rattle.kk_syntax.specs.Typing.{with_binder, InTurn, IsTypedBy}
use Rattle.kk_syntax.proofs.ProgramTrees.{next_statement}
use Rattle.kk_unify.specs.Graphs.{Assignment}
use Rattle.kk_unify.specs.GraphOf.{variables_of}
use Rattle.kk_walk.specs.declared.walk.Bound.{Bound}
use Rattle.kk_walk.specs.declared.walk.Walk.{Walk}
use Rattle.kk_walk.specs.Claims.{both, expression_at, bounds_by}
use Rattle.kk_walk.specs.Steps.{nodes_of, size_of, GoesInto, Walked, Opened}
use Rattle.kk_walk.specs.Walks.{holding_at, takings_of, AreBoundBelow, scope_at, Claim, Leads, Done, Refused, IsOf}
use Rattle.kk_walk.proofs.Forms.{in_scope}
use Rattle.kk_walk.proofs.WalkComposition.{takes_then}
use Rattle.kk_walk.proofs.Locals.{scoped_of, node_of, both_of}
use Rattle.kk_walk.proofs.ClaimComposition.{bound_more, first_leads, first_refused, holds_leads, left_reworded, refused_behind, reworded, then_leads}
use Rattle.kk_walk.proofs.Scopes.{scope_more}

pub binder_scope : (binder : Binder) (r : Assignment) (bounds : List Bound) (node : ℕ) → with_binder binder (r node) (scope_at r bounds) ≡ scope_at r (bounds ++ bounds_by binder node)
binder_scope OfBinder.Nothing r bounds node = ap (scope_at r) (sym (append-nil bounds))
binder_scope OfBinder.Wildcard r bounds node = ap (scope_at r) (sym (append-nil bounds))
binder_scope (OfBinder.Variable x) r bounds node = sym (scope_more r bounds (record { variable = x; node = node }))

pub binder_inside : (binder : Binder) (size node : ℕ) → node < size → AreBoundBelow size (bounds_by binder node)
binder_inside OfBinder.Nothing size node lt = All-nil (λ b. b.node < size)
binder_inside OfBinder.Wildcard size node lt = All-nil (λ b. b.node < size)
binder_inside (OfBinder.Variable x) size node lt = All-cons (λ b. b.node < size) (record { variable = x; node = node }) [] lt (All-nil (λ b. b.node < size))

pub outer_grown : {X : Type 0} (xs ys zs : List X) → take (length xs) ys ≡ xs → take (length xs) (ys ++ zs) ≡ xs
outer_grown xs ys zs outer =
    let long = sym (length-take (length xs) ys) ∙ ap length outer in
    let le : length xs ≤ length ys = omega (arith, long) in
    take-append-le (length xs) ys zs le ∙ outer

module _ (program : ProgramTree) (a : Walk) (all : List StatementTree) where
  -- nothing was walked over yet
  pub none_stated : AreBoundBelow (size_of a) a.scope.items → GoesInto program a a all all
  none_stated bound = record {
    taken = [];
    takes = sym (append-nil (takings_of a.taken.items));
    outer = take_all (length a.scope.items) a.scope.items (omega arith);
    bound_inside = bound;
    same_variables = refl;
    longer = omega arith;
    leads = λ last want lt.
        let claim = expression_at program a.scope.items (block_of all last) want in
        reworded (nodes_of a) claim claim (λ r choices obeys whole. whole) (λ r choices obeys left. left);
  }

  -- what is left begins with a statement
  pub into_first : (b : Walk) (statements : List Statement) (i : ℕ) (s : Statement) → i < length statements → s ≡ get_or statements i s → GoesInto program a b all (map statement_tree (drop i statements)) → GoesInto program a b all (record { binder = s.binder; value = expr_tree s.value } ∷ map statement_tree (drop (i + 1) statements))
  into_first b statements i s lt here goes =
      subst (GoesInto program a b all) (next_statement statements i s here lt) goes

  module _ (b c d : Walk) (binder : Binder) (value : Tree) (rest : List StatementTree) (node : ℕ) (goes : GoesInto program a b all (record { binder = binder; value = value } ∷ rest)) (opened : Opened b c node) where
    module _ (last : Tree) (want : ℕ) (lt : want < size_of a) where
      -- what is behind the statement, with its value at the node
      abbrev behind : Claim
      behind r choices = IsTypedBy program (with_binder binder (r node) (scope_at r b.scope.items)) (block_of rest last) (r want) choices

      abbrev valued : Claim
      valued = expression_at program b.scope.items value node

      abbrev stated : Claim
      stated = expression_at program b.scope.items (sequence binder value (block_of rest last)) want

      want_inside : want < size_of b
      want_inside = omega (arith, goes.longer)

      bound_of : (size : ℕ) (t : TypeTree) → AreBoundBelow size b.scope.items → want < size → IsOf size (λ r choices. IsTypedBy program (with_binder binder t (scope_at r b.scope.items)) (block_of rest last) (r want) choices)
      bound_of size t inside less =
          node_of size want (λ r u choices. IsTypedBy program (with_binder binder t (scope_at r b.scope.items)) (block_of rest last) u choices) less
          (λ u. scoped_of size b.scope.items (λ scope choices. IsTypedBy program (with_binder binder t scope) (block_of rest last) u choices) inside)

      holds_stated : Leads (nodes_of b) (nodes_of c) (holding_at node ∷ []) stated (both valued behind)
      holds_stated =
          holds_leads (nodes_of b) (nodes_of c) node (λ r t choices. InTurn (IsTypedBy program (scope_at r b.scope.items) value t) (IsTypedBy program (with_binder binder t (scope_at r b.scope.items)) (block_of rest last) (r want)) choices) opened.opens
          (λ t. both_of (size_of b) (λ r. IsTypedBy program (scope_at r b.scope.items) value t) (λ r. IsTypedBy program (with_binder binder t (scope_at r b.scope.items)) (block_of rest last) (r want))
          (scoped_of (size_of b) b.scope.items (λ scope choices. IsTypedBy program scope value t choices) goes.bound_inside)
          (bound_of (size_of b) t goes.bound_inside want_inside))

      behind_of : IsOf (size_of c) behind
      behind_of =
          let inside = bound_more (size_of b) (size_of c) b.scope.items opened.opens.longer goes.bound_inside in
          node_of (size_of c) node (λ r t choices. IsTypedBy program (with_binder binder t (scope_at r b.scope.items)) (block_of rest last) (r want) choices) (opened.opens.inside 0 node (omega arith))
          (λ t. bound_of (size_of c) t inside (omega (arith, opened.opens.longer, want_inside)))

      pub statement_refused : Walked c d (expression_at program c.scope.items value node) (Ok false) → Refused (nodes_of a) (expression_at program a.scope.items (block_of all last) want)
      statement_refused walked =
          refused_behind (nodes_of a) (nodes_of b) goes.taken (expression_at program a.scope.items (block_of all last) want) stated (goes.leads last want lt)
          (refused_behind (nodes_of b) (nodes_of c) (holding_at node ∷ []) stated (both valued behind) holds_stated (first_refused (nodes_of c) valued behind (in_scope program c d b.scope.items value node (Ok false) opened.same_scope walked)))

    module _ (walked : Walked c d (expression_at program c.scope.items value node) (Ok true)) (e : Walk) (same_graph : nodes_of e ≡ nodes_of d) (same_variables : variables_of e.graph ≡ variables_of d.graph) (same_taken : e.taken.items ≡ d.taken.items) (grown : e.scope.items ≡ d.scope.items ++ bounds_by binder node) where
      -- one statement more
      pub statement_walked : GoesInto program a e all rest
      statement_walked = record {
        taken = goes.taken ++ ((holding_at node ∷ []) ++ walked.taken);
        takes = ap takings_of same_taken ∙ takes_then a b d goes.taken ((holding_at node ∷ []) ++ walked.taken) goes.takes (takes_then b c d (holding_at node ∷ []) walked.taken opened.takes walked.takes);
        outer = ap (take (length a.scope.items)) scope_is ∙ outer_grown a.scope.items b.scope.items (bounds_by binder node) goes.outer;
        bound_inside = subst (AreBoundBelow (size_of e)) (sym scope_is) (All-append (λ bound. bound.node < size_of e) b.scope.items (bounds_by binder node) (bound_more (size_of b) (size_of e) b.scope.items along goes.bound_inside) (binder_inside binder (size_of e) node last_inside));
        same_variables = same_variables ∙ (walked.same_variables ∙ (opened.same_variables ∙ goes.same_variables));
        longer = omega (arith, goes.longer, along);
        leads = λ last want lt. subst (λ graph. Leads (nodes_of a) graph (goes.taken ++ ((holding_at node ∷ []) ++ walked.taken)) (expression_at program a.scope.items (block_of all last) want) (expression_at program e.scope.items (block_of rest last) want)) (sym same_graph) (more last want lt);
      }
        where
          scope_is : e.scope.items ≡ b.scope.items ++ bounds_by binder node
          scope_is = grown ∙ ap (λ bs. bs ++ bounds_by binder node) (walked.same_scope ∙ opened.same_scope)

          as_long : size_of e ≡ size_of d
          as_long = ap length same_graph

          along : size_of b ≤ size_of e
          along = omega (arith, opened.opens.longer, walked.leads.longer, as_long)

          last_inside : node < size_of e
          last_inside = omega (arith, opened.opens.inside 0 node (omega arith), walked.leads.longer, as_long)

          more : (last : Tree) (want : ℕ) (lt : want < size_of a) → Leads (nodes_of a) (nodes_of d) (goes.taken ++ ((holding_at node ∷ []) ++ walked.taken)) (expression_at program a.scope.items (block_of all last) want) (expression_at program e.scope.items (block_of rest last) want)
          more last want lt =
              let whole = expression_at program a.scope.items (block_of all last) want in
              let after = behind last want lt in
              let claim = stated last want lt in
              let value_at = valued last want lt in
              let first = goes.leads last want lt in
              let second = holds_stated last want lt in
              let third = first_leads (nodes_of c) (nodes_of d) walked.taken value_at after (behind_of last want lt) (subst (λ bs. Leads (nodes_of c) (nodes_of d) walked.taken (expression_at program bs value node) Done) opened.same_scope walked.leads) in
              let all_of =
              then_leads (nodes_of a) (nodes_of b) (nodes_of d) goes.taken ((holding_at node ∷ []) ++ walked.taken) whole claim after first
              (then_leads (nodes_of b) (nodes_of c) (nodes_of d) (holding_at node ∷ []) walked.taken claim (both value_at after) after second third) in
              left_reworded (nodes_of a) (nodes_of d) (goes.taken ++ ((holding_at node ∷ []) ++ walked.taken)) whole after (expression_at program e.scope.items (block_of rest last) want)
              (λ r choices left. subst (λ scope. IsTypedBy program scope (block_of rest last) (r want) choices) (entered r) left) (λ r choices left. subst (λ scope. IsTypedBy program scope (block_of rest last) (r want) choices) (sym (entered r)) left) all_of
            where
              entered : (r : Assignment) → with_binder binder (r node) (scope_at r b.scope.items) ≡ scope_at r e.scope.items
              entered r = binder_scope binder r b.scope.items node ∙ ap (scope_at r) (sym scope_is)

-- the value of a block, behind its statements
pub block_walked : (program : ProgramTree) (a b c d : Walk) (all : List StatementTree) (last : Tree) (want : ℕ) (ok : Bool) → want < size_of a → GoesInto program a b all [] → Walked b c (expression_at program b.scope.items last want) (Ok ok) → nodes_of d ≡ nodes_of c → variables_of d.graph ≡ variables_of c.graph → d.taken.items ≡ c.taken.items → d.scope.items ≡ take (length a.scope.items) c.scope.items → Walked a d (expression_at program a.scope.items (block_of all last) want) (Ok ok)
block_walked program a b c d all last want true lt goes walked same_graph same_variables same_taken cut =
    let whole = expression_at program a.scope.items (block_of all last) want in
    let value = expression_at program b.scope.items last want in
    record {
      taken = goes.taken ++ walked.taken;
      takes = ap takings_of same_taken ∙ takes_then a b c goes.taken walked.taken goes.takes walked.takes;
      same_scope = cut ∙ (ap (take (length a.scope.items)) walked.same_scope ∙ goes.outer);
      same_variables = same_variables ∙ (walked.same_variables ∙ goes.same_variables);
      leads = subst (λ graph. Leads (nodes_of a) graph (goes.taken ++ walked.taken) whole Done) (sym same_graph) (then_leads (nodes_of a) (nodes_of b) (nodes_of c) goes.taken walked.taken whole value Done (goes.leads last want lt) walked.leads);
    }
block_walked program a b c d all last want false lt goes walked same_graph same_variables same_taken cut =
    refused_behind (nodes_of a) (nodes_of b) goes.taken (expression_at program a.scope.items (block_of all last) want) (expression_at program b.scope.items last want) (goes.leads last want lt) walked
