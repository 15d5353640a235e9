use Rattle.std.proofs.Common.{ap}
use Rattle.rv_isa.specs.PlacedCode.{placed_line_of}
use Rattle.rv_place.proofs.Emissions.{on_so}
use Rattle.rv_place.proofs.LineInstructions.{on_move}
use Rattle.rv_place.proofs.lines.emit_item.Goals as goal

pub returns-in-Moves : goal.returns-in-Moves
returns-in-Moves c =
    on_so c.emit_move.result
    (on_move c.args.chart.now c.args.labels.now c.args.at (ap placed_line_of c.in-Moves.is))
    c.emit_move.ensures
