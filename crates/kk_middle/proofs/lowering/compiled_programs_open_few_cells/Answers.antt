use Rattle.std.proofs.Common.{◌-◌, sym, subst}
use Rattle.kk_syntax.specs.GroundPrograms.{ground_program}
use Rattle.kk_syntax.specs.PositionsOf.{PositionTable}
use Rattle.kk_core.specs.Codes.{ProgramCode, core_code}
use Rattle.kk_counted.specs.CountedCodes.{CountedProgram}
use Rattle.kk_counted.specs.TokenCosts.{OpenAtMost}
use Rattle.kk_insert.specs.Insertion.{inserted}
use Rattle.kk_dropspec.specs.Specialised.{special_program}
use Rattle.kk_middle.specs.Compiled.{instance_positions}
use Rattle.kk_middle.proofs.Programs.{compiled_program}
use Rattle.kk_middle.proofs.lowering.compiled_programs_open_few_cells.Goals as goal

pub returns : goal.returns
returns c typed given made compiled nodes few =
    let code : ProgramCode = core_code compiled.core in
    let own : PositionTable = instance_positions given compiled.table in
    subst (λ (program : CountedProgram). OpenAtMost (nodes - 1) program) (sym (compiled_program typed given made compiled))
    (c.fused_code_opens_no_more.ensures (nodes - 1) (special_program (inserted own code))
    (c.specialised_code_opens_no_more.ensures (nodes - 1) (inserted own code)
    (c.inserted_code_opens_no_more.ensures own (nodes - 1) code
    (c.core_forms_open_few_cells.ensures (ground_program given) code compiled.form nodes few))))
