use Rattle.std.proofs.Common.{◌≡◌, ◌<◌, List, [], ◌∷◌, ◌++◌, map, vec_len, ap, sym, ◌∙◌, subst, arith}
use Rattle.std.proofs.lemmas.Bool.{eqb-true}
use Rattle.std.proofs.lemmas.List.{nil_from_length}
use Rattle.kk_syntax.specs.Programs.{program_tree}
use Rattle.kk_syntax.proofs.DeclaredTrees.{trees_declared}
use Rattle.kk_slots.specs.declared.problem.Problem.{Problem}
use Rattle.kk_slots.specs.Problems.{OpenProblem, problem_view, row_view, IsFew, Settled}
use Rattle.kk_slots.specs.Turned.{turned}
use Rattle.kk_syntax.specs.Covered.{Each}
use Rattle.kk_rows.proofs.RowBounds.{settled_few, turned_few}
use Rattle.kk_rows.proofs.SearchTermination.{left, fewer, left-turned}
use Rattle.kk_rows.proofs.KeptRows.{each_front, each_back}
use Rattle.kk_rows.proofs.CoverSearches.{Decided, turns, begins, goes_on, tells_open}
use Rattle.kk_rows.proofs.Stacks.{popped_view}
use Rattle.kk_rows.proofs.turning.is_covered.Goals as goal

pub search-init : goal.search-init
search-init c =
    let program = program_tree c.args.program.now in
    let p = problem_view c.args.problem.now in
    let is =
    ap (map problem_view) c.in_ok-push.ensures.items
    ∙ (ap (λ (xs : List Problem). map problem_view (xs ++ (c.in_ok-turn.field-0 ∷ []))) c.new-problems.ensures.items
    ∙ ap (λ (q : OpenProblem). q ∷ []) c.in_ok-turn.ensures.view) in
    record {
      decided = subst (Decided program p) (sym is) (turns program p p [] (begins program p));
      few = subst (Each IsFew) (sym is) (turned_few p c.requires, tt);
    }

pub search-preserved : goal.search-preserved
search-preserved c =
    let program = program_tree c.args.program.now in
    let p = problem_view c.args.problem.now in
    let q = problem_view c.in-Some.current in
    let before = map problem_view c.pop.new.self.items in
    let after = map problem_view c.settle.new.problems.items in
    let settled = subst (λ x. Settled program x before after) c.in_ok-next.ensures.view c.in_ok-settle.ensures in
    let popped = popped_view c.search.problems.items c.pop.new.self.items c.in-Some.current c.in-Some.ensures.items in
    let few : Each IsFew (before ++ (q ∷ [])) = subst (Each IsFew) popped c.search.invariant.few in
    record {
      decided = goes_on program (trees_declared c.args.program.now.constructors.items) p (turned q) before after settled (turns program p q before (subst (Decided program p) popped c.search.invariant.decided));
      few = settled_few program (turned q) (turned_few q (each_back IsFew before (q ∷ []) few).0) before after settled (each_front IsFew before (q ∷ []) few);
    }

pub settle-requires-clause-few : goal.settle-requires-clause-few
settle-requires-clause-few c =
    let q = problem_view c.in-Some.current in
    let before = map problem_view c.pop.new.self.items in
    let popped = popped_view c.search.problems.items c.pop.new.self.items c.in-Some.current c.in-Some.ensures.items in
    let few : Each IsFew (before ++ (q ∷ [])) = subst (Each IsFew) popped c.search.invariant.few in
    subst IsFew (sym c.in_ok-next.ensures.view) (turned_few q (each_back IsFew before (q ∷ []) few).0)

pub search-smaller : goal.search-smaller
search-smaller c =
    let program = program_tree c.args.program.now in
    let q = problem_view c.in-Some.current in
    let before = map problem_view c.pop.new.self.items in
    let after = map problem_view c.settle.new.problems.items in
    let settled = subst (λ x. Settled program x before after) c.in_ok-next.ensures.view c.in_ok-settle.ensures in
    subst (λ n. left program after < n)
    (left-turned program q before ∙ ap (left program) (sym (popped_view c.search.problems.items c.pop.new.self.items c.in-Some.current c.in-Some.ensures.items)))
    (fewer program (turned q) before settled.more after settled.settles settled.grown)

pub returns-then-is_empty : goal.returns-then-is_empty
returns-then-is_empty c =
    let program = program_tree c.args.program.now in
    let p = problem_view c.args.problem.now in
    let zero : vec_len c.in-Some.current.rows ≡ 0 = eqb-true (vec_len c.in-Some.current.rows) 0 (sym c.is_empty.ensures ∙ c.if-is_empty.true) in
    let none = nil_from_length c.in-Some.current.rows.items (omega (arith, zero, c.in-Some.current.rows.ok.0)) in
    tells_open program p (problem_view c.in-Some.current) (map problem_view c.pop.new.self.items) (ap (map (λ row. row_view row.items)) none)
    (subst (Decided program p) (popped_view c.search.problems.items c.pop.new.self.items c.in-Some.current c.in-Some.ensures.items) c.search.invariant.decided)
