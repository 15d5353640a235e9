use Rattle.std.proofs.Common.{sym, ◌∙◌}
use Rattle.kk_counted.specs.TokenedForms.{tokened_code}
use Rattle.rv_cells.proofs.Standings.{keeps_code}
use Rattle.rv_cells.proofs.standing.kept_or_less.Goals as goal

pub returns-then-keeps_block : goal.returns-then-keeps_block
returns-then-keeps_block c =
    keeps_code c.args.standing (tokened_code c.args.block.now) (sym c.keeps_block.ensures ∙ c.if-keeps_block.true)
