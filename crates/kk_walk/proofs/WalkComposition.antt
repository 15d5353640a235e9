-- How the parts of a walk over a body are put together.
use Rattle.std.proofs.Common.{◌≡◌, ◌<◌, ℕ, Bool, true, false, List, [], ◌++◌, refl, ap, sym, ◌∙◌, subst, append_assoc, arith}
use Rattle.std.specs.Prelude.{Result, Ok, Err, IfOk, MatchBool}
use Rattle.std.proofs.lemmas.List.{append-nil}
use Rattle.kk_base.specs.declared.error.NoMemory.{NoMemory}
use Rattle.kk_syntax.specs.Types.{TypeTree}
use Rattle.kk_syntax.specs.Typing.{Choice}
use Rattle.kk_unify.specs.declared.graph.Graph.{Graph}
use Rattle.kk_unify.specs.Graphs.{Assignment, Obeys, Joins, Clashes}
use Rattle.kk_unify.specs.GraphOf.{graph_of, variables_of}
use Rattle.kk_walk.specs.declared.walk.Walk.{Walk}
use Rattle.kk_walk.specs.Claims.{typed_as, both}
use Rattle.kk_walk.specs.Steps.{nodes_of, size_of, Takes, Goes, Walked, Made}
use Rattle.kk_walk.specs.Walks.{Taking, takings_of, AreBoundBelow, Claim, Done, Refused, IsOf}
use Rattle.kk_walk.proofs.ClaimComposition.{bound_more, then_leads, refused_behind, reworded, first_leads, joins_refines, clash_refused, builds_leads}

module _ (a b : Walk) (Whole Left : Claim) (goes : Goes a b Whole Left) where
  -- what was there is there behind
  pub still_inside : (node : ℕ) → node < size_of a → node < size_of b
  still_inside node lt = omega (arith, goes.leads.longer)

  pub still_bound : AreBoundBelow (size_of a) a.scope.items → AreBoundBelow (size_of b) b.scope.items
  still_bound h = subst (AreBoundBelow (size_of b)) (sym goes.same_scope) (bound_more (size_of a) (size_of b) a.scope.items goes.leads.longer h)

  -- what is left is refused
  pub refused_after : Refused (nodes_of b) Left → Refused (nodes_of a) Whole
  refused_after refused = refused_behind (nodes_of a) (nodes_of b) goes.taken Whole Left goes.leads refused

pub takes_then : (a b c : Walk) (xs ys : List Taking) → Takes a b xs → Takes b c ys → Takes a c (xs ++ ys)
takes_then a b c xs ys first next = next ∙ (ap (λ l. l ++ ys) first ∙ append_assoc (takings_of a.taken.items) xs ys)

module _ (a b c : Walk) (Whole Left Rest : Claim) where
  -- a walk goes on
  pub goes_on : Goes a b Whole Left → Goes b c Left Rest → Goes a c Whole Rest
  goes_on first next = record {
    taken = first.taken ++ next.taken;
    takes = takes_then a b c first.taken next.taken first.takes next.takes;
    same_scope = next.same_scope ∙ first.same_scope;
    same_variables = next.same_variables ∙ first.same_variables;
    leads = then_leads (nodes_of a) (nodes_of b) (nodes_of c) first.taken next.taken Whole Left Rest first.leads next.leads;
  }

-- the first of two parts is done
pub goes_first : (a b : Walk) (First Rest : Claim) → IsOf (size_of a) Rest → Goes a b First Done → Goes a b (both First Rest) Rest
goes_first a b First Rest of goes = record {
  taken = goes.taken;
  takes = goes.takes;
  same_scope = goes.same_scope;
  same_variables = goes.same_variables;
  leads = first_leads (nodes_of a) (nodes_of b) goes.taken First Rest of goes.leads;
}

-- the same in other words
pub goes_reworded : (a : Walk) (Whole Left : Claim) → ((r : Assignment) (choices : List Choice) → Obeys (nodes_of a) r → Whole r choices → Left r choices) → ((r : Assignment) (choices : List Choice) → Obeys (nodes_of a) r → Left r choices → Whole r choices) → Goes a a Whole Left
goes_reworded a Whole Left into back = record {
  taken = [];
  takes = sym (append-nil (takings_of a.taken.items));
  same_scope = refl;
  same_variables = refl;
  leads = reworded (nodes_of a) Whole Left into back;
}

-- a node is made for a type
pub goes_made : (a b : Walk) (node : ℕ) (type : Assignment → TypeTree) (V : Assignment → TypeTree → List Choice → Type 0) → Made a b node type → IsOf (size_of a) (λ r. V r (type r)) → Goes a b (λ r. V r (type r)) (λ r. V r (r node))
goes_made a b node type V made of = record {
  taken = [];
  takes = ap takings_of made.same_taken ∙ sym (append-nil (takings_of a.taken.items));
  same_scope = made.same_scope;
  same_variables = made.same_variables;
  leads = builds_leads (nodes_of a) (nodes_of b) node type V made.builds of;
}

-- two nodes are of one type, or cannot be
pub joined_walked : (walk : Walk) (g : Graph) (i j : ℕ) (result : Result Bool NoMemory) → variables_of g ≡ variables_of walk.graph → IfOk result (λ joined. MatchBool joined (Joins (nodes_of walk) (graph_of g) i j) (Clashes (nodes_of walk) i j)) → Walked walk (record walk { graph = g }) (typed_as i (λ r. r j)) result
joined_walked walk g i j (Ok true) same h = record {
  taken = [];
  takes = sym (append-nil (takings_of walk.taken.items));
  same_scope = refl;
  same_variables = same;
  leads = joins_refines (nodes_of walk) (graph_of g) i j h;
}
joined_walked walk g i j (Ok false) same h = clash_refused (nodes_of walk) (graph_of g) i j h
joined_walked walk g i j (Err error) same h = tt

-- a walk behind another one
pub walked_behind : (a b c : Walk) (Whole Left : Claim) (result : Result Bool NoMemory) → Goes a b Whole Left → Walked b c Left result → Walked a c Whole result
walked_behind a b c Whole Left (Ok true) goes walked = goes_on a b c Whole Left Done goes walked
walked_behind a b c Whole Left (Ok false) goes walked = refused_after a b Whole Left goes walked
walked_behind a b c Whole Left (Err error) goes walked = tt
