use Rattle.std.proofs.Common.{◌≡◌, ◌<◌, true, false, List, [], ◌∷◌, map, vec_len, Option, option_map, ap, sym, ◌∙◌, subst, arith}
use Rattle.std.proofs.lemmas.Bool.{eqb-true}
use Rattle.std.proofs.lemmas.List.{nil_from_length}
use Rattle.kk_syntax.specs.Programs.{program_tree}
use Rattle.kk_syntax.proofs.DeclaredTrees.{trees_declared}
use Rattle.kk_slots.specs.declared.problem.Problem.{Problem}
use Rattle.kk_rows.specs.Covered.{row_outlines}
use Rattle.kk_syntax.specs.Outlines.{pattern_outline}
use Rattle.kk_slots.specs.Problems.{problem_view, row_view, Settled}
use Rattle.kk_slots.specs.Turned.{Tells, Picks}
use Rattle.kk_rows.proofs.RowBounds.{settled_few, whole_few, picked_few}
use Rattle.kk_rows.proofs.SearchTermination.{left, fewer, picked_less}
use Rattle.kk_rows.proofs.CoverSearches.{Going, sets_out, nothing_left, picks_next, picks_none, arrives}
use Rattle.kk_rows.proofs.finding.uncovered.Goals as goal

pub search-init : goal.search-init
search-init c =
    let program = program_tree c.args.program.now in
    let rows = row_outlines c.args.rows.now in
    let tells = subst (Tells program (problem_view c.in_ok-problem.problem)) c.if-covered.false c.in_ok-covered.ensures in
    record {
      going = subst (Going program rows) (sym c.in_ok-problem.ensures) (sets_out program rows (subst (λ p. Tells program p false) c.in_ok-problem.ensures tells));
      few = whole_few c.args.rows.now (problem_view c.in_ok-problem.problem) c.requires c.in_ok-problem.ensures;
    }

pub returns-then-covered : goal.returns-then-covered
returns-then-covered c =
    let program = program_tree c.args.program.now in
    let rows = row_outlines c.args.rows.now in
    let tells = subst (Tells program (problem_view c.in_ok-problem.problem)) c.if-covered.true c.in_ok-covered.ensures in
    nothing_left program rows (subst (λ p. Tells program p true) c.in_ok-problem.ensures tells)

pub search-preserved : goal.search-preserved
search-preserved c =
    let program = program_tree c.args.program.now in
    let p = problem_view c.search.problem in
    let children = map problem_view c.settle.new.problems.items in
    let settled = subst (λ (xs : List Problem). Settled program p (map problem_view xs) children) c.new-children.ensures.items c.in_ok-settle.ensures in
    let picked = subst (λ (o : Option Problem). Picks program children (option_map problem_view o)) c.in-Some.is c.in_ok-next.ensures in
    record {
      going = picks_next program (trees_declared c.args.program.now.constructors.items) (row_outlines c.args.rows.now) p (problem_view c.in-Some.next) children settled picked c.search.invariant.going;
      few = picked_few program (problem_view c.in-Some.next) children picked (settled_few program p c.search.invariant.few [] children settled tt);
    }

pub search-smaller : goal.search-smaller
search-smaller c =
    let program = program_tree c.args.program.now in
    let p = problem_view c.search.problem in
    let q = problem_view c.in-Some.next in
    let children = map problem_view c.settle.new.problems.items in
    let settled = subst (λ (xs : List Problem). Settled program p (map problem_view xs) children) c.new-children.ensures.items c.in_ok-settle.ensures in
    let picked = subst (λ (o : Option Problem). Picks program children (option_map problem_view o)) c.in-Some.is c.in_ok-next.ensures in
    let less = fewer program p [] settled.more children settled.settles settled.grown in
    let one = picked_less program q picked.before picked.behind in
    let both : left program (q ∷ []) < left program (p ∷ []) = omega (arith, less, one, ap (left program) picked.place) in
    both

pub returns-in-None : goal.returns-in-None
returns-in-None c = λ t typed e example.
    let program = program_tree c.args.program.now in
    let p = problem_view c.search.problem in
    let children = map problem_view c.settle.new.problems.items in
    let settled = subst (λ (xs : List Problem). Settled program p (map problem_view xs) children) c.new-children.ensures.items c.in_ok-settle.ensures in
    let tells = subst (λ (o : Option Problem). Picks program children (option_map problem_view o)) c.in-None.is c.in_ok-next.ensures in
    picks_none program (trees_declared c.args.program.now.constructors.items) (row_outlines c.args.rows.now) p children settled tells c.search.invariant.going t typed

pub returns : goal.returns
returns c =
    let program = program_tree c.args.program.now in
    let zero : vec_len c.search.problem.rows ≡ 0 = eqb-true (vec_len c.search.problem.rows) 0 (sym c.is_empty.ensures ∙ c.search-test.false) in
    let none = nil_from_length c.search.problem.rows.items (omega (arith, zero, c.search.problem.rows.ok.0)) in
    record {
      missed =
          arrives program (row_outlines c.args.rows.now) (problem_view c.search.problem) (pattern_outline c.in_ok-example.example)
          (ap (map (λ row. row_view row.items)) none) (rw c.deref.ensures.value at c.in_ok-example.ensures.pattern) c.search.invariant.going;
      small = c.in_ok-example.ensures.small;
    }

pub last_open-requires : goal.last_open-requires
last_open-requires c =
    let program = program_tree c.args.program.now in
    let p = problem_view c.search.problem in
    let children = map problem_view c.settle.new.problems.items in
    let settled = subst (λ (xs : List Problem). Settled program p (map problem_view xs) children) c.new-children.ensures.items c.in_ok-settle.ensures in
    settled_few program p c.search.invariant.few [] children settled tt
