use Rattle.std.proofs.Common.{◌≡◌, ℕ, List, sym, ap, subst}
use Rattle.kk_syntax.specs.GroundPrograms.{ground_program}
use Rattle.kk_syntax.specs.GroundTyping.{Table, table_of}
use Rattle.kk_syntax.specs.PositionsOf.{PositionTable}
use Rattle.kk_syntax.specs.Programs.{ConstructorTree}
use Rattle.kk_core.specs.Codes.{ProgramCode, core_code}
use Rattle.kk_core.specs.CoreStates.{CoreSetting}
use Rattle.kk_core.specs.CoreTyping.{IsCoreTyped}
use Rattle.kk_core.specs.declared.shape.ConstructorShape.{ConstructorShape}
use Rattle.kk_core.specs.Kinds.{MakeOneType, field_count}
use Rattle.kk_norm.specs.Meaning as Norm
use Rattle.kk_norm.proofs.Within.{instances_are_within}
use Rattle.kk_counted.specs.CountedCodes.{CountedProgram}
use Rattle.kk_counted.specs.CountedStates.{CountedSetting, CountedState}
use Rattle.kk_counted.specs.Keeping.{FitsAlways, HasShapeAlways, counted_after}
use Rattle.kk_counted.specs.Lengths.{most_length}
use Rattle.kk_counted.specs.Spending.{IsSpent}
use Rattle.kk_insert.specs.Insertion.{inserted}
use Rattle.kk_insert.specs.Meaning as Insert
use Rattle.kk_insert.specs.Promise.{IsInsertable}
use Rattle.kk_dropspec.specs.Specialised.{special_setting}
use Rattle.kk_fuse.specs.Fused.{fused_setting}
use Rattle.kk_fuse.specs.FusedRuns.{HasFewSteps, IsFusedRun}
use Rattle.kk_middle.specs.Compiled.{instance_positions}
use Rattle.kk_middle.specs.Meaning.{counted_setting}
use Rattle.kk_middle.specs.ShapeKinds.{many_fields, AreToldApart, HasKindsByShape}
use Rattle.kk_middle.proofs.ConstructorTags.{told_apart, as_many}
use Rattle.kk_middle.proofs.FieldBounds.{ground_has_few}
use Rattle.kk_middle.proofs.Programs.{compiled_program}
use Rattle.kk_middle.proofs.ShapeKinds.{control_kinds}
use Rattle.kk_middle.proofs.Special.{fits_too}
use Rattle.kk_middle.proofs.meaning.compiled_programs_have_their_kinds.Goals as goal

pub returns : goal.returns
returns c typed given made checked are compiled keeps cells depth input =
    let table : Table = table_of (ground_program given) in
    let constructors : List ConstructorTree = table.constructors in
    let shapes : List ConstructorShape = made.shape.constructors.items in
    let own : PositionTable = instance_positions given compiled.table in
    let code : ProgramCode = core_code compiled.core in
    let core_typed : IsCoreTyped table code
    = c.compiled_core_forms_are_insertable.ensures.typed typed given made checked are compiled in
    let insertable : IsInsertable own code
    = c.compiled_core_forms_are_insertable.ensures.insertable typed given made checked are compiled keeps in
    let core : CoreSetting = Norm.core_setting_of code own cells depth in
    let counted : CountedSetting = Insert.inserted_setting core in
    let never = c.typed_code_is_never_stuck.ensures table core (λ s. 0) input core_typed in
    let kinds = c.typed_code_has_its_kinds.ensures table core (λ s. 0) input core_typed
    (c.core_forms_ask_what_types_tell.ensures (ground_program given) code compiled.form) in
    let spent : IsSpent own (inserted own code) = c.inserted_code_is_spent.ensures own code insertable in
    let fits : (weights : CountedState → ℕ) → FitsAlways weights counted input
    = λ weights. c.inserted_code_has_its_kinds.ensures.fits core constructors (λ s. 0) weights input insertable never in
    let special : CountedSetting = special_setting counted in
    let special_spent : IsSpent own special.program = c.specialised_code_is_spent.ensures own (inserted own code) spent in
    let special_fits : (weights : CountedState → ℕ) → FitsAlways weights special input
    = fits_too c.specialised_code_is_spent.ensures c.specialised_code_runs_the_same.ensures
    c.judged_code_keeps_its_heap_sound.ensures own counted input spent fits in
    let shape : (weights : CountedState → ℕ) → HasShapeAlways weights special input
    = λ weights. c.specialised_code_has_its_kinds.ensures.shape own counted weights weights input spent (fits weights)
    (c.inserted_code_has_its_kinds.ensures.shape core constructors (λ s. 0) weights input insertable never) in
    let small = c.core_forms_are_small.ensures (ground_program given) code compiled.form (instances_are_within given) in
    let short = c.inserted_code_is_short.ensures own table code core_typed small (ground_has_few given) in
    let few : HasFewSteps most_length special.program
    = c.short_code_has_few_steps.ensures special.program
    (c.specialised_code_can_be_lowered.ensures.short (inserted own code).functions short) in
    let run : IsFusedRun special most_length input
    = c.fused_code_runs_the_same.ensures.run own special most_length input special_spent special_fits shape few in
    let same : counted_setting made given cells depth ≡ fused_setting special
    = ap (λ (all : CountedProgram). record { program = all; cells = cells; depth = depth })
    (compiled_program typed given made compiled) in
    subst (λ (setting : CountedSetting). HasKindsByShape shapes setting input) (sym same)
    (record {
      kinds = λ weights n.
          control_kinds (MakeOneType constructors) (AreToldApart shapes) (field_count constructors) (many_fields shapes)
          (told_apart typed given are compiled.core compiled.tells shapes compiled.constructors)
          (as_many typed given are compiled.core compiled.tells shapes compiled.constructors)
          (counted_after weights (fused_setting special) input n).heap
          (counted_after weights (fused_setting special) input n).control
          (c.fused_code_has_its_kinds.ensures constructors own special most_length weights weights input special_spent special_fits
          shape few
          (c.specialised_code_has_its_kinds.ensures.kinds constructors own counted weights weights input spent (fits weights)
          (c.inserted_code_has_its_kinds.ensures.kinds core constructors (λ s. 0) weights input insertable never kinds)) n);
      shape = run.shape;
    })
