-- The lines of the functions, and the simulation that comes to them.
use Rattle.rv_isa.specs.AsmCode.{asm_functions}
use Rattle.rv_isa.specs.PlacedCode.{placed_functions}
use Rattle.rv_regs.proofs.StatementLines.{lines_there, own_lines_there, lines_apart}
use Rattle.rv_regs.proofs.StatementArrivals.{comes_to_lines, follows_each_state}
use Rattle.rv_regs.proofs.reached.placed_forms_come_to_each_line.Goals as goal

pub returns-clause-has : goal.returns-clause-has
returns-clause-has g c = λ asm placed valid. lines_there (asm_functions asm) (placed_functions placed) valid.functions

pub returns-clause-own : goal.returns-clause-own
returns-clause-own g c = λ asm placed valid. own_lines_there (asm_functions asm) (placed_functions placed) valid.functions

pub returns-clause-apart : goal.returns-clause-apart
returns-clause-apart g c = λ asm placed valid. lines_apart (asm_functions asm) (placed_functions placed) valid.functions

pub returns-clause-comes : goal.returns-clause-comes
returns-clause-comes g c =
    λ asm placed depth main shared valid e none never. comes_to_lines g.M.Execution.primitives depth (asm_functions asm)
    (placed_functions placed) main shared valid.functions e none never

pub returns-clause-follows : goal.returns-clause-follows
returns-clause-follows g c =
    λ asm placed depth main shared valid e none never. follows_each_state g.M.Execution.primitives depth (asm_functions asm)
    (placed_functions placed) main shared valid.functions e none never
