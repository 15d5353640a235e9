use Rattle.std.proofs.Common.{List, map, sym, subst}
use Rattle.kk_syntax.specs.GroundPrograms.{ground_program}
use Rattle.kk_syntax.specs.GroundTyping.{table_of}
use Rattle.kk_syntax.specs.PositionsOf.{PositionTable}
use Rattle.kk_syntax.specs.Programs.{ProgramTree}
use Rattle.kk_core.specs.Codes.{ProgramCode, core_code}
use Rattle.kk_counted.specs.CountedCodes.{CountedFunction}
use Rattle.kk_counted.specs.Lengths.{AreShort}
use Rattle.kk_insert.specs.Insertion.{inserted}
use Rattle.kk_dropspec.specs.Specialised.{special_function}
use Rattle.kk_middle.specs.Compiled.{instance_positions}
use Rattle.kk_middle.proofs.FieldBounds.{ground_has_few}
use Rattle.kk_norm.proofs.Within.{instances_are_within}
use Rattle.kk_middle.proofs.lowering.compiled_programs_are_short.Goals as goal

pub returns : goal.returns
returns c typed given made checked are compiled =
    let ground : ProgramTree = ground_program given in
    let code : ProgramCode = core_code compiled.core in
    let own : PositionTable = instance_positions given compiled.table in
    let core_typed = c.compiled_core_forms_are_insertable.ensures.typed typed given made checked are compiled in
    let small = c.core_forms_are_small.ensures ground code compiled.form (instances_are_within given) in
    let short = c.inserted_code_is_short.ensures own (table_of ground) code core_typed small (ground_has_few given) in
    subst (λ (functions : List CountedFunction). AreShort functions) (sym compiled.functions)
    (c.fused_code_can_be_lowered.ensures.short (map special_function (inserted own code).functions)
    (c.specialised_code_can_be_lowered.ensures.short (inserted own code).functions short))
