use Rattle.std.proofs.Common.{◌≡◌, ◌-◌, suc, map, arith, rules, FitsSigned, w32}
use Rattle.std.proofs.lemmas.Int.{to_z-of_z}
use Rattle.kk_syntax.specs.Programs.{program_tree}
use Rattle.kk_slots.specs.Problems.{problem_view}
use Rattle.kk_rows.proofs.SubProblems.{on_ok, free_settled, number_settled, made_settled}
use Rattle.kk_rows.proofs.settling.settle.Goals as goal

pub returns-in-Nothing : goal.returns-in-Nothing
returns-in-Nothing c =
    let width : c.args.problem.now.width ≡ suc (c.args.problem.now.width - 1) = omega arith in
    on_ok c.pass.result _ _
    (free_settled (program_tree c.args.program.now) (problem_view c.args.problem.now) (map problem_view c.args.problems.now.items) (map problem_view c.pass.new.problems.items)
    (c.args.problem.now.width - 1) width (rw c.deref-2.ensures.value at c.in-Nothing.ensures))
    c.pass.ensures

pub returns-in-Number : goal.returns-in-Number
returns-in-Number c =
    let width : c.args.problem.now.width ≡ suc (c.args.problem.now.width - 1) = omega arith in
    let number = c.least_number-number.result in
    let fits : FitsSigned w32 number = search rules in
    let least = rw c.deref-in-Number.ensures.value at c.least_number-number.ensures in
    on_ok c.pass-in-Number.result _ _
    (number_settled (program_tree c.args.program.now) (problem_view c.args.problem.now) (map problem_view c.args.problems.now.items) (map problem_view c.pass-in-Number.new.problems.items)
    (c.args.problem.now.width - 1) number least.lacks width (rw c.deref-2.ensures.value at c.in-Number.ensures))
    (simp to_z-of_z at c.pass-in-Number.ensures)

pub returns-in_ok-end-in-Constructor : goal.returns-in_ok-end-in-Constructor
returns-in_ok-end-in-Constructor c =
    let width : c.args.problem.now.width ≡ suc (c.args.problem.now.width - 1) = omega arith in
    let enough = rw (c.owner-of_type.ensures, c.deref-in-Constructor.ensures.value) at c.in_ok-end-in-Constructor.ensures.enough in
    on_ok c.split.result _ _
    (made_settled (program_tree c.args.program.now) (problem_view c.args.problem.now) (map problem_view c.args.problems.now.items) (map problem_view c.split.new.problems.items)
    (c.args.problem.now.width - 1) c.in-Constructor.constructor c.in_ok-end-in-Constructor.end c.in_ok-end-in-Constructor.ensures.within enough width (rw c.deref-2.ensures.value at c.in-Constructor.ensures))
    (rw c.owner-of_type.ensures at c.split.ensures)
