use Rattle.std.proofs.Common.{◌≡◌, ◌≤◌, ◌+◌, List, length, map, sym, subst, ◌∙◌, arith}
use Rattle.kk_syntax.specs.GroundPrograms.{ground_program}
use Rattle.kk_syntax.specs.GroundTyping.{table_of}
use Rattle.kk_syntax.specs.PositionsOf.{PositionTable}
use Rattle.kk_syntax.specs.Programs.{ProgramTree}
use Rattle.kk_syntax.specs.Shapes.{greatest_nodes}
use Rattle.kk_core.specs.Codes.{ProgramCode, core_code}
use Rattle.kk_core.specs.CoreTyping.{IsCoreTyped}
use Rattle.kk_core.specs.Sizes.{most_parameters}
use Rattle.kk_counted.specs.CountBounds.{AllSpendAtMost}
use Rattle.kk_counted.specs.CountedCodes.{CountedFunction, CountedProgram}
use Rattle.kk_counted.specs.FunctionSizes.{AllHaveVariablesBelow}
use Rattle.kk_counted.specs.Lowerable.{AreLowerable}
use Rattle.kk_counted.specs.Marks.{CellMarks, field_marks}
use Rattle.kk_insert.specs.Insertion.{inserted}
use Rattle.kk_insert.specs.Limits.{most_fields, most_spent}
use Rattle.kk_insert.specs.MarkTables.{marks_of_types}
use Rattle.kk_dropspec.specs.Specialised.{special_function, special_program}
use Rattle.kk_fuse.specs.Fused.{fused_function}
use Rattle.kk_middle.specs.Compiled.{instance_positions}
use Rattle.kk_middle.specs.Lowerings.{marks_in}
use Rattle.kk_middle.proofs.InsertionConditions.{all_have_rows}
use Rattle.kk_middle.proofs.FieldBounds.{ground_has_few, few_marked, functions_few}
use Rattle.kk_middle.proofs.Programs.{compiled_program}
use Rattle.kk_middle.proofs.SpecialMarks.{shape_tells}
use Rattle.kk_middle.proofs.Tags.{small_tags, first_tag, second_tag}
use Rattle.kk_norm.proofs.Within.{instances_are_within}
use Rattle.kk_middle.proofs.lowering.compiled_programs_can_be_lowered.Goals as goal

pub returns : goal.returns
returns c typed given made checked are compiled keeps =
    let ground : ProgramTree = ground_program given in
    let code : ProgramCode = core_code compiled.core in
    let own : PositionTable = instance_positions given compiled.table in
    let core_typed : IsCoreTyped (table_of ground) code
    = c.compiled_core_forms_are_insertable.ensures.typed typed given made checked are compiled in
    let insertable = c.compiled_core_forms_are_insertable.ensures.insertable typed given made checked are compiled keeps in
    let small = c.core_forms_are_small.ensures ground code compiled.form (instances_are_within given) in
    let whole = all_have_rows code (c.core_forms_are_whole.ensures ground code compiled.form) in
    let spent = c.inserted_code_is_spent.ensures own code insertable in
    let few = ground_has_few given in
    let marks : CellMarks = marks_in made in
    let tells : marks ≡ marks_of_types (table_of ground)
    = shape_tells compiled.core made.shape.instances.items made.shape.constructors.items compiled.cells compiled.results
    compiled.constructors ∙ c.typed_code_is_marked.ensures.tables ground compiled.core compiled.tells in
    let special : List CountedFunction = map special_function (inserted own code).functions in
    let lowerable = c.fused_code_can_be_lowered.ensures.lowerable (marks_of_types (table_of ground)) special
    (c.specialised_code_can_be_lowered.ensures.lowerable (marks_of_types (table_of ground)) (inserted own code).functions
    (c.inserted_code_can_be_lowered.ensures.lowerable own (table_of ground) code core_typed small whole
    (c.typed_code_is_marked.ensures.ground given) few)) in
    let little = c.fused_code_can_be_lowered.ensures.little (special_program (inserted own code)) most_spent
    (c.specialised_code_can_be_lowered.ensures.little (inserted own code) most_spent
    (c.inserted_code_can_be_lowered.ensures.little own (table_of ground) code core_typed small few spent)) in
    let nodes = greatest_nodes ground in
    let variables = c.fused_code_can_be_lowered.ensures.variables (nodes + most_parameters) special
    (c.specialised_code_can_be_lowered.ensures.variables (nodes + most_parameters) (inserted own code).functions
    (c.inserted_code_can_be_lowered.ensures.variables own (table_of ground) code core_typed (nodes + most_parameters)
    (c.core_forms_have_few_variables.ensures ground code compiled.form (instances_are_within given) nodes (omega arith)))) in
    record {
      variables = subst (λ (functions : List CountedFunction). AllHaveVariablesBelow (nodes + most_parameters) functions)
          (sym compiled.functions) variables;
      lowerable = subst (λ (functions : List CountedFunction). AreLowerable marks functions) (sym compiled.functions)
          (subst (λ (other : CellMarks). AreLowerable other (map fused_function special)) (sym tells) lowerable);
      little = subst (λ (program : CountedProgram). AllSpendAtMost program most_spent) (sym (compiled_program typed given made compiled)) little;
      few = functions_few own code _ compiled.functions small.few;
      few_fields = λ k. subst (λ (other : CellMarks). length (field_marks other k) ≤ most_fields) (sym tells) (few_marked (table_of ground) few k);
      tags = small_tags typed given are compiled.core compiled.tells made.shape.constructors.items compiled.constructors;
      falsity = first_tag typed given are compiled.core compiled.tells made.shape.constructors.items compiled.constructors core_typed.truths;
      truth_is = second_tag typed given are compiled.core compiled.tells made.shape.constructors.items compiled.constructors core_typed.truths;
    }
