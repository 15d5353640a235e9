-- The law is the simulation of the functions.
use Rattle.rv_isa.specs.Costs.{move_instructions}
use Rattle.rv_isa.specs.AsmCode.{asm_functions}
use Rattle.rv_isa.specs.PlacedCode.{placed_functions}
use Rattle.rv_isa.specs.AsmMachine.{asm_machine}
use Rattle.std.proofs.Common.{◌*◌}
use Rattle.rv_regs.proofs.ExtraMoves.{none_extra, weighs_within}
use Rattle.rv_regs.proofs.MeaningPreservation.{simulates, starts, agrees, agrees_exactly, never_stuck}
use Rattle.rv_regs.proofs.keeps.valid_forms_keep_meaning.Goals as goal

pub returns-clause-simulates : goal.returns-clause-simulates
returns-clause-simulates g c =
    λ asm placed depth valid.
    simulates g.M.Execution.primitives depth (asm_functions asm) (placed_functions placed) valid.functions

pub returns-clause-starts : goal.returns-clause-starts
returns-clause-starts g c =
    λ asm placed depth n main shared valid e none never.
    starts g.M.Execution.primitives depth (asm_functions asm) (placed_functions placed) valid.functions n main shared e none never

pub returns-clause-agrees : goal.returns-clause-agrees
returns-clause-agrees g c =
    λ asm placed depth n main shared valid e none never.
    agrees g.M.Execution.primitives depth (asm_functions asm) (placed_functions placed) valid.functions n main shared e none never

pub returns-clause-agrees_exactly : goal.returns-clause-agrees_exactly
returns-clause-agrees_exactly g c =
    λ asm placed depth n main shared valid few e none never.
    agrees_exactly g.M.Execution.primitives depth (asm_functions asm) (placed_functions placed) valid.functions n main shared few e
    none never

pub returns-clause-never_stuck : goal.returns-clause-never_stuck
returns-clause-never_stuck g c =
    λ asm placed depth n main shared valid e none never.
    never_stuck g.M.Execution.primitives depth (asm_functions asm) (placed_functions placed) valid.functions n main shared e none
    never

pub returns-clause-weighs : goal.returns-clause-weighs
returns-clause-weighs g c =
    λ functions depth extra n s.
    weighs_within (extra * move_instructions) (asm_machine g.M.Execution.primitives depth functions) n s

pub returns-clause-few : goal.returns-clause-few
returns-clause-few g c = λ placed few. none_extra (placed_functions placed) few
