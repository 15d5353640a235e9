use Rattle.std.proofs.Common.{true, List, [], ◌∷◌, ◌++◌, map, ap, ◌∙◌, subst, append_assoc}
use Rattle.kk_syntax.specs.Programs.{program_tree}
use Rattle.kk_slots.specs.Problems.{OpenProblem, problem_view, IsFew}
use Rattle.kk_slots.specs.Turned.{Tells}
use Rattle.kk_syntax.specs.Covered.{Each}
use Rattle.kk_rows.proofs.KeptRows.{each_front, each_back}
use Rattle.kk_rows.proofs.Stacks.{popped_view}
use Rattle.kk_rows.proofs.turning.last_open.Goals as goal

pub loop-problem-preserved : goal.loop-problem-preserved
loop-problem-preserved c =
    let program = program_tree c.args.program.now in
    let p = problem_view c.in-Some.problem in
    let closed : List OpenProblem = c.loop-problem.invariant.closed in
    let tells : Tells program p true = subst (Tells program p) c.if-not-covered.false c.in_ok-covered.ensures in
    record {
      closed = p ∷ closed;
      place =
          c.loop-problem.invariant.place
          ∙ (ap (λ (xs : List OpenProblem). xs ++ closed) (popped_view c.loop-problem.left.items c.pop.new.self.items c.in-Some.problem c.in-Some.ensures.items)
          ∙ append_assoc (map problem_view c.pop.new.self.items) (p ∷ []) closed);
      tells = (tells, c.loop-problem.invariant.tells);
      few = each_front IsFew (map problem_view c.pop.new.self.items) (p ∷ []) (subst (Each IsFew) (popped_view c.loop-problem.left.items c.pop.new.self.items c.in-Some.problem c.in-Some.ensures.items) c.loop-problem.invariant.few);
    }

pub is_covered-requires : goal.is_covered-requires
is_covered-requires c =
    (each_back IsFew (map problem_view c.pop.new.self.items) (problem_view c.in-Some.problem ∷ [])
    (subst (Each IsFew) (popped_view c.loop-problem.left.items c.pop.new.self.items c.in-Some.problem c.in-Some.ensures.items) c.loop-problem.invariant.few)).0
