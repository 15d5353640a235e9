use Rattle.std.proofs.Common.{◌≡◌, sym, subst}
use Rattle.std.proofs.lemmas.Result.{IfOk-weaker}
use Rattle.rv_isa.specs.AsmCode.{lines_of}
use Rattle.rv_isa.specs.PlacedCode.{placed_lines_of}
use Rattle.rv_regs.specs.Plain.{placed_function}
use Rattle.rv_regs.specs.Shape.{IsRight}
use Rattle.rv_regs.proofs.ProgramPlacings.{plain_right}
use Rattle.rv_regs.proofs.assigning.place_function.Goals as goal

pub returns-in-None : goal.returns-in-None
returns-in-None c =
    IfOk-weaker c.plain_function.result (λ placed. placed_lines_of placed ≡ placed_function (lines_of c.args.function.now)) (λ placed. IsRight (lines_of c.args.function.now) (placed_lines_of placed))
    (λ placed is. subst (IsRight (lines_of c.args.function.now)) (sym is) (plain_right (lines_of c.args.function.now) c.requires)) c.plain_function.ensures
