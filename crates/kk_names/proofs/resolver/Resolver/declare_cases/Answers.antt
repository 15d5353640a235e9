use Rattle.std.proofs.Common.{◌+◌, map, drop, sym, ap, ◌∙◌, arith}
use Rattle.kk_syntax.specs.Surface.{written_constructor}
use Rattle.kk_names.specs.Methods.{state_of, behind_cases}
use Rattle.kk_names.proofs.DeclaredNames.{cases_more}
use Rattle.kk_base.proofs.Lists.{rest_at}
use Rattle.kk_names.proofs.resolver.Resolver.declare_cases.Goals as goal

pub loop-case-preserved : goal.loop-case-preserved
loop-case-preserved c =
    let now = c.loop-case.self in
    let number = c.loop-case.number in
    let one = c.case-item.result in
    let left = map written_constructor (drop (c.loop-case.case-index + 1) c.args.cases.now) in
    let next = ap (map written_constructor) (rest_at c.args.cases.now c.loop-case.case-index one c.loop-case-test.true c.case-item.is) in (
      omega (arith, c.in_ok-number.ensures, c.loop-case.invariant.0),
      ap (λ n. behind_cases n left (state_of c.declare_case.new.self)) c.in_ok-number.ensures
          ∙ (ap (behind_cases (number + 1) left) c.in_ok-declare_case.ensures
          ∙ (cases_more (state_of now) number (written_constructor one) left
          ∙ (ap (λ cs. behind_cases number cs (state_of now)) (sym next) ∙ c.loop-case.invariant.1))),
    )
