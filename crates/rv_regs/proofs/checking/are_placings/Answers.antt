-- Lists of different lengths are no placings.
use Rattle.std.proofs.Common.{sym, ◌∙◌}
use Rattle.std.proofs.lemmas.Bool.{false≢true}
use Rattle.std.proofs.lemmas.List.{length-map}
use Rattle.rv_isa.specs.AsmCode.{lines_of}
use Rattle.rv_isa.specs.PlacedCode.{placed_lines_of}
use Rattle.rv_regs.proofs.Codes.{as_many}
use Rattle.rv_regs.proofs.checking.are_placings.Goals as goal

pub returns-then-functions-placed : goal.returns-then-functions-placed
returns-then-functions-placed c =
    let functions = c.args.functions.now in
    let placed = c.args.placed.now in (
      λ e. absurd (false≢true e),
      λ all. absurd (c.if-functions-placed.true (sym (length-map functions lines_of) ∙ as_many _ _ all ∙ length-map placed placed_lines_of)),
    )
