use Rattle.std.proofs.Common.{◌≡◌, ℕ, Bool, sym, subst, ◌∙◌}
use Rattle.kk_syntax.specs.GroundPrograms.{ground_program}
use Rattle.kk_syntax.specs.GroundTyping.{table_of}
use Rattle.kk_syntax.specs.PositionsOf.{PositionTable}
use Rattle.kk_syntax.specs.Programs.{ProgramTree, program_tree}
use Rattle.kk_syntax.specs.TypedPrograms.{typings_of}
use Rattle.kk_mono.specs.Grounds.{instances_of}
use Rattle.kk_core.specs.Codes.{ProgramCode, core_code}
use Rattle.kk_core.specs.CoreTyping.{IsCoreTyped}
use Rattle.kk_counted.specs.CountedCodes.{CountedProgram}
use Rattle.kk_counted.specs.Marks.{CellMarks, marks_of, AreMarked}
use Rattle.kk_insert.specs.Insertion.{inserted}
use Rattle.kk_insert.specs.MarkTables.{marks_of_types}
use Rattle.kk_insert.proofs.MarkedPrograms.{typed_is_marked, tables_tell, grounds_are}
use Rattle.kk_dropspec.specs.Specialised.{special_program}
use Rattle.kk_fuse.specs.Fused.{fused_program}
use Rattle.kk_middle.specs.Compiled.{instance_positions}
use Rattle.kk_middle.proofs.Programs.{compiled_program}
use Rattle.kk_middle.proofs.SpecialMarks.{special_is_marked, fused_is_marked, shape_tells}
use Rattle.kk_middle.proofs.meaning.compiled_programs_are_marked.Goals as goal

pub returns : goal.returns
returns c typed given made checked are compiled =
    let ground : ProgramTree = ground_program given in
    let code : ProgramCode = core_code compiled.core in
    let own : PositionTable = instance_positions given compiled.table in
    let is_typed = (c.instances_mean_the_program.ensures (program_tree typed.program) ground (typings_of typed) (instances_of given)
    checked are.instances).typed in
    let core_typed : IsCoreTyped (table_of ground) code
    = c.core_forms_of_typed_programs_are_typed.ensures ground code is_typed compiled.form in
    let marks : CellMarks = marks_of made.shape.instances.items made.shape.constructors.items in
    let tells : marks ≡ marks_of_types (table_of ground)
    = shape_tells compiled.core made.shape.instances.items made.shape.constructors.items compiled.cells compiled.results
    compiled.constructors ∙ tables_tell ground compiled.core compiled.tells in
    let marked : (holds : ℕ → ℕ → Bool) × AreMarked (marks_of_types (table_of ground)) holds (inserted own code)
    = typed_is_marked own (table_of ground) (grounds_are given) core_typed.truths code core_typed in (
      marked.0,
      subst (λ (program : CountedProgram). AreMarked marks marked.0 program) (sym (compiled_program typed given made compiled))
          (subst (λ (other : CellMarks). AreMarked other marked.0 (fused_program (special_program (inserted own code)))) (sym tells)
          (fused_is_marked (marks_of_types (table_of ground)) marked.0 (special_program (inserted own code))
          (special_is_marked (marks_of_types (table_of ground)) marked.0 (inserted own code) marked.1))),
    )
