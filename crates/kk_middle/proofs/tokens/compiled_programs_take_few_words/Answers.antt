use Rattle.std.proofs.Common.{List, map, false, sym, ap, subst, arith}
use Rattle.kk_syntax.specs.GroundPrograms.{ground_program}
use Rattle.kk_syntax.specs.GroundTyping.{table_of}
use Rattle.kk_syntax.specs.PositionsOf.{PositionTable}
use Rattle.kk_syntax.specs.Programs.{ProgramTree}
use Rattle.kk_core.specs.Codes.{ProgramCode, core_code}
use Rattle.kk_counted.specs.CountedCodes.{Counted, CountedFunction}
use Rattle.kk_counted.specs.Programs.{function_of}
use Rattle.kk_counted.specs.TokenedCodes.{TokenedFunction, TokenedProgram}
use Rattle.kk_insert.specs.Insertion.{inserted}
use Rattle.kk_reuse.specs.Pairing.{paired_function}
use Rattle.kk_respec.specs.Respecialised.{respecialised_function}
use Rattle.kk_middle.specs.Compiled.{instance_positions}
use Rattle.kk_middle.specs.FunctionWords.{HaveFewWords}
use Rattle.kk_middle.proofs.FunctionWords.{functions_few}
use Rattle.kk_norm.proofs.Within.{instances_are_within}
use Rattle.kk_middle.proofs.tokens.compiled_programs_take_few_words.Goals as goal

pub returns : goal.returns
returns c typed given counted made checked are compiled of =
    let ground : ProgramTree = ground_program given in
    let code : ProgramCode = core_code compiled.core in
    let own : PositionTable = instance_positions given compiled.table in
    let core_typed = c.compiled_core_forms_are_insertable.ensures.typed typed given counted checked are compiled in
    let small = c.core_forms_are_small.ensures ground code compiled.form (instances_are_within given) in
    let few = functions_few
    (λ (code : Counted). let same = c.specialised_code_takes_as_many_words.ensures 0 code in omega (arith, same))
    (c.specialised_code_ends_as_well.ensures false)
    (c.fused_code_takes_no_more_words.ensures 0)
    (c.fused_code_ends_as_well.ensures false)
    c.paired_code_takes_few_words.ensures
    c.respecialised_code_takes_as_many_words.ensures
    ground.functions code.functions (inserted own code).functions
    (c.core_forms_stand_for_their_nodes.ensures ground code compiled.form)
    (c.inserted_code_takes_few_words.ensures own (table_of ground) code core_typed small)
    (c.inserted_code_ends_well.ensures own (table_of ground) code core_typed) in
    let on_functions : HaveFewWords ground.functions
    (map respecialised_function (map paired_function (map function_of counted.functions.items))) =
    subst (λ (functions : List CountedFunction). HaveFewWords ground.functions
    (map respecialised_function (map paired_function functions))) (sym compiled.functions) few in
    subst (λ (functions : List TokenedFunction). HaveFewWords ground.functions functions)
    (sym (ap (λ (program : TokenedProgram). program.functions) (of.program given.texts.items))) on_functions
