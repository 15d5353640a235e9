use Rattle.std.proofs.Common.{◌≤◌, List, All, length, sym, subst}
use Rattle.kk_base.specs.Limits.{greatest_of}
use Rattle.kk_base.specs.declared.limit.LimitKind.TheVariants.{Parameters}
use Rattle.rv_isa.specs.declared.asm.Statement.{Statement}
use Rattle.rv_regs.proofs.WalkSteps.{all_few_args}
use Rattle.rv_regs.proofs.assigning.plain_function.Goals as goal

pub placed_lines-requires-clause-few_args : goal.placed_lines-requires-clause-few_args
placed_lines-requires-clause-few_args c =
    subst (λ (code : List Statement). All (λ (s : Statement). length s.args.items ≤ greatest_of Parameters) code) (sym c.deref-3.ensures.value) (all_few_args c.args.function.now.code.items c.requires.lines)
