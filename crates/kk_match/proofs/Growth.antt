-- How a graph grows: by the states that a state leads to, and then by more of them.
use Rattle.std.proofs.Common.{◌≡◌, ℕ, zero, suc, ◌+◌, ◌≤◌, Bool, true, Option, None, Some, List, [], ◌∷◌, ◌++◌, map, take, Result, Ok, Err, sym, ap, ◌∙◌, subst, arith, append_assoc, append-nil}
use Rattle.std.specs.Prelude.{is_some, if◌then◌else◌, IfOk}
use Rattle.std.proofs.lemmas.List.{map-append}
use Rattle.std.proofs.lemmas.Option.{none-some}
use Rattle.kk_core.specs.declared.decisions.Answer.{Answer}
use Rattle.kk_core.specs.declared.decisions.Answer.TheVariants.{Number, Constructor}
use Rattle.kk_core.specs.declared.decisions.Edge.{Edge}
use Rattle.kk_core.specs.Decisions.{NodeTree, chooses, tests}
use Rattle.kk_match.specs.Parts.{Part}
use Rattle.kk_match.specs.Graphs.{StateTree, after, test_of, IsReached, at_start, by_answer, by_another, testing}
use Rattle.kk_match.specs.Outcomes.{IsOutcome, with_lines}
use Rattle.kk_match.specs.Built.{Names, Branches, IsRight, one_more, AreRight}
use Rattle.kk_match.specs.Decided.{is_test}
use Rattle.kk_match.specs.GraphGrowth.{GraphTree, AreReached, AreApart, IsBuilt, Grows, IsOver, IsNumbered, EdgesLead, HasEdges, HasOther, IsPut}
use Rattle.kk_match.proofs.EdgeAnswers.{branches}
use Rattle.kk_match.proofs.Places.{get_left}

-- ---- states that are reached

-- a state is reached through another one
pub reached_through : (types : List ℕ) (start middle state : StateTree) → IsReached types start middle → IsReached types middle state → IsReached types start state
reached_through types start middle _ first at_start = first
reached_through types start middle _ first (by_answer found reached is kind) = by_answer found (reached_through types start middle _ first reached) is kind
reached_through types start middle _ first (by_another n reached is) = by_another n (reached_through types start middle _ first reached) is

-- the state that an outcome of a state's test leaves
pub reached_after : (types : List ℕ) (state : StateTree) (at : List ℕ) (asked : Answer) (outcome : Option Answer) → test_of state ≡ Some (record { at = at; asked = asked }) → IsOutcome types asked outcome
    → IsReached types state (after at outcome state)
reached_after types state at asked (Some found) is right = by_answer found at_start is right
reached_after types state at (Number n) None is right = by_another n at_start is
reached_after types state at (Constructor c) None is right = absurd right

pub all_through : (types : List ℕ) (start middle : StateTree) (states : List StateTree) → IsReached types start middle → AreReached types middle states → AreReached types start states
all_through types start middle [] first reached = tt
all_through types start middle (state ∷ states) first reached = (reached_through types start middle state first reached.0, all_through types start middle states first reached.1)

pub reached_both : (types : List ℕ) (start : StateTree) (ones others : List StateTree) → AreReached types start ones → AreReached types start others → AreReached types start (ones ++ others)
reached_both types start [] others first second = second
reached_both types start (one ∷ ones) others first second = (first.0, reached_both types start ones others first.1 second)

pub reached_at : (types : List ℕ) (start : StateTree) (states : List StateTree) (k : ℕ) (state : StateTree) → AreReached types start states → Names states k state → IsReached types start state
reached_at types start [] k state reached is = absurd (none-some state is)
reached_at types start (one ∷ states) zero state reached is = let same : one ≡ state = cc in subst (IsReached types start) same reached.0
reached_at types start (one ∷ states) (suc k) state reached is = reached_at types start states k state reached.1 is

-- ---- growing twice

pub grows_same : (types : List ℕ) (most : ℕ) (before : GraphTree) (from : StateTree) → IsBuilt types most before → Grows types most before from before
grows_same types most before from built = record { built = built; more = []; grown = sym (append-nil before.states); reached = tt }

pub grows_twice : (types : List ℕ) (most : ℕ) (before middle later : GraphTree) (from : StateTree) → Grows types most before from middle → Grows types most middle from later
    → Grows types most before from later
grows_twice types most before middle later from first second = record {
  built = second.built;
  more = first.more ++ second.more;
  grown = second.grown ∙ (ap (λ ss. ss ++ second.more) first.grown ∙ append_assoc before.states first.more second.more);
  reached = reached_both types from first.more second.more first.reached second.reached;
}

pub over_behind : (types : List ℕ) (most : ℕ) (before middle : GraphTree) (from : StateTree) → Grows types most before from middle → IsOver types most middle from → IsOver types most before from
over_behind types most before middle from first over =
    let same : middle.states ++ over.more ≡ before.states ++ (first.more ++ over.more) = ap (λ ss. ss ++ over.more) first.grown ∙ append_assoc before.states first.more over.more in record {
      more = first.more ++ over.more;
      apart = subst AreApart same over.apart;
      reached = reached_both types from first.more over.more first.reached over.reached;
      tests = subst (λ ss. testing ss ≡ suc most) same over.tests;
    }

-- what is reached from a state that is reached
pub grows_from : (types : List ℕ) (most : ℕ) (before later : GraphTree) (start middle : StateTree) → IsReached types start middle → Grows types most before middle later → Grows types most before start later
grows_from types most before later start middle reached grows = record {
  built = grows.built;
  more = grows.more;
  grown = grows.grown;
  reached = all_through types start middle grows.more reached grows.reached;
}

pub over_from : (types : List ℕ) (most : ℕ) (before : GraphTree) (start middle : StateTree) → IsReached types start middle → IsOver types most before middle → IsOver types most before start
over_from types most before start middle reached over = record {
  more = over.more;
  apart = over.apart;
  reached = all_through types start middle over.more reached over.reached;
  tests = over.tests;
}

pub numbered_from : (types : List ℕ) (most : ℕ) (before later : GraphTree) (start middle : StateTree) (number : Option ℕ) → IsReached types start middle
    → IsNumbered types most before middle middle later number → IsNumbered types most before start middle later number
numbered_from types most before later start middle None reached over = over_from types most before start middle reached over
numbered_from types most before later start middle (Some number) reached numbered = (grows_from types most before later start middle reached numbered.0, numbered.1)

pub numbered_behind : (types : List ℕ) (most : ℕ) (before middle later : GraphTree) (from state : StateTree) (number : Option ℕ) → Grows types most before from middle
    → IsNumbered types most middle from state later number → IsNumbered types most before from state later number
numbered_behind types most before middle later from state None first over = over_behind types most before middle from first over
numbered_behind types most before middle later from state (Some number) first numbered = (grows_twice types most before middle later from first numbered.0, numbered.1)

-- ---- what has a number keeps it

pub names_kept : (types : List ℕ) (most : ℕ) (before later : GraphTree) (from : StateTree) (j : ℕ) (state : StateTree) → Grows types most before from later → Names before.states j state → Names later.states j state
names_kept types most before later from j state grows named = subst (λ ss. Names ss j state) (sym grows.grown) (get_left before.states grows.more j state named)

pub edges_kept : (types : List ℕ) (most : ℕ) (before later : GraphTree) (from : StateTree) (at : List ℕ) (state : StateTree) (edges : List Edge) → Grows types most before from later
    → EdgesLead before.states at state edges → EdgesLead later.states at state edges
edges_kept types most before later from at state [] grows lead = tt
edges_kept types most before later from at state (edge ∷ edges) grows lead =
    (names_kept types most before later from edge.next (after at (Some edge.found) state) grows lead.0, edges_kept types most before later from at state edges grows lead.1)

pub edges_push : (states : List StateTree) (at : List ℕ) (state : StateTree) (edges : List Edge) (edge : Edge) → EdgesLead states at state edges → Names states edge.next (after at (Some edge.found) state)
    → EdgesLead states at state (edges ++ edge ∷ [])
edges_push states at state [] edge lead last = (last, tt)
edges_push states at state (one ∷ edges) edge lead last = (lead.0, edges_push states at state edges edge lead.1 last)

-- ---- one more state

pub testing_both : (ones others : List StateTree) → testing (ones ++ others) ≡ testing ones + testing others
testing_both [] others = omega arith
testing_both (one ∷ ones) others = let rest = testing_both ones others in omega (arith, rest)

abbrev pub one_if : Bool → ℕ
one_if b = if b then 1 else 0

pub testing_push : (states : List StateTree) (state : StateTree) (b : Bool) → is_some (test_of state) ≡ b → testing (states ++ state ∷ []) ≡ testing states + one_if b
testing_push states state b is = testing_both states (state ∷ []) ∙ (let add : one_if (is_some (test_of state)) ≡ one_if b = ap one_if is in omega (arith, add))

-- a state tests where its node does
pub tests_as : (types : List ℕ) (states : List StateTree) (state : StateTree) (node : NodeTree) → IsRight types states state node → is_some (test_of state) ≡ is_test node
tests_as types states state (chooses row) chosen = ap is_some chosen.0
tests_as types states state (tests way edges otherwise) branches = ap is_some branches.is_test

-- one more than may test
pub over_now : (types : List ℕ) (most : ℕ) (graph : GraphTree) (state : StateTree) (node : NodeTree) (later : List StateTree) (number : ℕ) → IsBuilt types most graph → IsRight types graph.states state node
    → is_test node ≡ true → graph.tests ≡ most → IsPut graph.states state later number true → IsOver types most graph state
over_now types most graph state node later number built right is_test all put = record {
  more = state ∷ [];
  apart = subst AreApart put.0 put.2;
  reached = (at_start, tt);
  tests = (let more = testing_push graph.states state true (tests_as types graph.states state node right ∙ is_test) in let counted = built.counted in omega (arith, more, counted, all));
}

-- one more state with its node
pub grows_now : (types : List ℕ) (most : ℕ) (graph later : GraphTree) (state : StateTree) (node : NodeTree) (states : List StateTree) (number : ℕ) → IsBuilt types most graph
    → IsRight types graph.states state node → IsPut graph.states state states number true → later.states ≡ states → later.nodes ≡ graph.nodes ++ node ∷ []
    → later.tests ≡ graph.tests + one_if (is_test node) → later.tests ≤ most → Grows types most graph state later × Names later.states number state
grows_now types most graph later state node states number built right put states_are nodes_are tests_are within =
    let grown : later.states ≡ graph.states ++ state ∷ [] = states_are ∙ put.0 in (
      record {
        built = record {
          right = subst (λ ss. AreRight types ss later.nodes) (sym grown) (subst (AreRight types (graph.states ++ state ∷ [])) (sym nodes_are) (one_more state node built.right right));
          apart = subst AreApart (sym states_are) put.2;
          counted = (let more = testing_push graph.states state (is_test node) (tests_as types graph.states state node right) in let counted = built.counted in let all : testing later.states ≡ testing (graph.states ++ state ∷ []) = ap testing grown in omega (arith, more, counted, all, tests_are));
          within = within;
        };
        more = state ∷ [];
        grown = grown;
        reached = (at_start, tt);
      },
      subst (λ ss. Names ss number state) (sym states_are) put.1,
    )

-- ---- what calls give

pub numbered_then : {E : Type 0} (result : Result (Option ℕ) E) (types : List ℕ) (most : ℕ) (before middle later : GraphTree) (from state : StateTree) → Grows types most before from middle
    → IfOk result (IsNumbered types most middle from state later) → IfOk result (IsNumbered types most before from state later)
numbered_then (Ok number) types most before middle later from state first numbered = numbered_behind types most before middle later from state number first numbered
numbered_then (Err e) types most before middle later from state first numbered = numbered

pub numbered_after : {E : Type 0} (result : Result (Option ℕ) E) (types : List ℕ) (most : ℕ) (before later : GraphTree) (start middle state : StateTree) → state ≡ middle → IsReached types start middle
    → IfOk result (IsNumbered types most before state state later) → IfOk result (IsNumbered types most before start middle later)
numbered_after (Ok number) types most before later start middle state same reached numbered =
    numbered_from types most before later start middle number reached (subst (λ s. IsNumbered types most before s s later number) same numbered)
numbered_after (Err e) types most before later start middle state same reached numbered = numbered

-- an edge more
pub edges_more : (types : List ℕ) (most : ℕ) (before middle later : GraphTree) (state : StateTree) (test : Part) (answers : List Answer) (i : ℕ) (edges more : List Edge) (edge : Edge)
    → HasEdges types most before state test (take i answers) middle (Some edges) → IsNumbered types most middle state (after test.at (Some edge.found) state) later (Some edge.next)
    → take (i + 1) answers ≡ take i answers ++ edge.found ∷ [] → more ≡ edges ++ edge ∷ [] → HasEdges types most before state test (take (i + 1) answers) later (Some more)
edges_more types most before middle later state test answers i edges more edge has numbered next pushed = (
  grows_twice types most before middle later state has.0 numbered.0,
  subst (EdgesLead later.states test.at state) (sym pushed) (edges_push later.states test.at state edges edge (edges_kept types most middle later state test.at state edges numbered.0 has.1) numbered.1),
  ap (map (λ (e : Edge). e.found)) pushed ∙ (map-append (λ (e : Edge). e.found) edges (edge ∷ []) ∙ (ap (λ given. given ++ edge.found ∷ []) has.2 ∙ sym next)),
)

-- a state that tests has its node
pub branch_made : (types : List ℕ) (most : ℕ) (before middle later : GraphTree) (state : StateTree) (test : Part) (answers : List Answer) (edges : List Edge) (otherwise : Option ℕ)
    → test_of state ≡ Some test → answers ≡ with_lines types test [] state → HasEdges types most before state test answers middle (Some edges)
    → HasOther types most middle state test answers later (Some otherwise) → Grows types most before state later × Branches types later.states state test.at edges otherwise
branch_made types most before middle later state test answers edges otherwise is_test answers_are has other = (
  grows_twice types most before middle later state has.0 other.0,
  branches types later.states state test answers edges otherwise is_test answers_are has.2 (edges_kept types most middle later state test.at state edges other.0 has.1) other.1,
)
