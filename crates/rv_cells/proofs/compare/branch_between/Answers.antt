use Rattle.kk_counted.specs.TokenedForms.{tokened_last_code, tokened_move}
use Rattle.rv_cells.proofs.UnnamedVariables.{between_of}
use Rattle.rv_cells.proofs.compare.branch_between.Goals as goal

pub returns : goal.returns
returns c =
    between_of (tokened_move c.args.step.now) c.in_ok-variable.variable c.in_ok-variable.branch (tokened_last_code c.args.last.now)
    c.in_ok-variable.ensures (c.is_tested.ensures c.if-not-is_tested.false)
