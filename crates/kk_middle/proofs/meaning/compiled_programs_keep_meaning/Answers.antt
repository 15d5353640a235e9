use Rattle.std.proofs.Common.{◌≡◌, ℕ, ◌+◌, ◌*◌, ◌≤◌, Bool, List, sym, ap, subst, arith}
use Rattle.kk_base.specs.Agreements.{Agree}
use Rattle.kk_base.proofs.Agreements.{agree_through}
use Rattle.kk_syntax.specs.GroundPrograms.{ground_program}
use Rattle.kk_syntax.specs.GroundTyping.{table_of, IsGroundTyped}
use Rattle.kk_syntax.specs.PositionsOf.{PositionTable}
use Rattle.kk_syntax.specs.Programs.{ProgramTree, program_tree}
use Rattle.kk_syntax.specs.Shapes.{greatest_nodes}
use Rattle.kk_syntax.specs.Typing.{Choice}
use Rattle.kk_syntax.specs.TypedPrograms.{typings_of}
use Rattle.kk_source.specs.Settings.{setting_of}
use Rattle.kk_source.specs.State.{Setting}
use Rattle.kk_source.specs.SourceAfter.{first_state}
use Rattle.kk_mono.specs.Grounds.{instances_of}
use Rattle.kk_mono.specs.Instances.{InstanceTree, IsInstanceProgram}
use Rattle.kk_core.specs.Codes.{ProgramCode, core_code}
use Rattle.kk_core.specs.CoreMachine.{core_machine}
use Rattle.kk_core.specs.Costs.{most_step_cost, most_room, roomy_core_cost}
use Rattle.kk_core.specs.CoreStates.{CoreSetting, core_first_state}
use Rattle.kk_core.specs.CoreTyping.{IsCoreTyped}
use Rattle.kk_norm.specs.Meaning as Norm
use Rattle.kk_norm.proofs.Within.{instances_are_within}
use Rattle.kk_counted.specs.CountedCodes.{CountedProgram}
use Rattle.kk_counted.specs.CountedCosts.{roomy_cost}
use Rattle.kk_counted.specs.CountedMachine.{counted_machine}
use Rattle.kk_counted.specs.CountedStates.{CountedSetting, CountedState, counted_first_state}
use Rattle.kk_counted.specs.Keeping.{FitsAlways, HasShapeAlways, counted_after}
use Rattle.kk_counted.specs.Lengths.{most_length}
use Rattle.kk_counted.specs.MarkKeeping.{numbers_in}
use Rattle.kk_counted.specs.Marks.{AreMarked}
use Rattle.kk_counted.specs.Spending.{IsSpent}
use Rattle.kk_counted.proofs.MarkPreservation.{always_fit, unmarked_fits}
use Rattle.kk_insert.specs.Insertion.{inserted}
use Rattle.kk_insert.specs.MarkTables.{marks_of_types}
use Rattle.kk_insert.specs.Meaning as Insert
use Rattle.kk_insert.specs.Promise.{IsInsertable}
use Rattle.kk_insert.proofs.MarkedPrograms.{typed_is_marked, grounds_are}
use Rattle.kk_dropspec.specs.Specialised.{special_setting}
use Rattle.kk_fuse.specs.Fused.{fused_setting}
use Rattle.kk_fuse.specs.FusedRuns.{HasFewSteps}
use Rattle.kk_middle.specs.Compiled.{instance_positions}
use Rattle.kk_middle.specs.Meaning.{counted_setting, inserted_steps, store_steps, KeepsMeaning}
use Rattle.kk_instances.proofs.Meaning.{typed as ground_typed, same_trace, same_end}
use Rattle.kk_middle.proofs.Programs.{compiled_program}
use Rattle.kk_middle.proofs.Special.{special_keeps}
use Rattle.kk_middle.proofs.FusedPrograms.{fused_keeps}
use Rattle.kk_middle.proofs.FieldBounds.{ground_has_few}
use Rattle.kk_middle.proofs.MarkedCode.{control_fits}
use Rattle.kk_middle.proofs.meaning.compiled_programs_keep_meaning.Goals as goal

pub returns : goal.returns
returns c typed given made checked are compiled keeps cells depth input =
    let program : ProgramTree = program_tree typed.program in
    let ground : ProgramTree = ground_program given in
    let typings : List (List Choice) = typings_of typed in
    let instances : List InstanceTree = instances_of given in
    let is : IsInstanceProgram program typings instances ground = are.instances in
    let table : PositionTable = compiled.table in
    let own : PositionTable = instance_positions given table in
    let code : ProgramCode = core_code compiled.core in
    let is_typed : IsGroundTyped ground = ground_typed program ground typings instances is checked in
    let core_typed : IsCoreTyped (table_of ground) code
    = c.compiled_core_forms_are_insertable.ensures.typed typed given made checked are compiled in
    let insertable : IsInsertable own code
    = c.compiled_core_forms_are_insertable.ensures.insertable typed given made checked are compiled keeps in
    let core : CoreSetting = Norm.core_setting_of code own cells depth in
    let counted : CountedSetting = Insert.inserted_setting core in
    let never = c.typed_code_is_never_stuck.ensures (table_of ground) core (λ s. 0) input core_typed in
    let means : Insert.KeepsMeaning core input
    = c.inserted_code_keeps_meaning.ensures core (table_of ground).constructors (λ s. 0) input insertable never in
    let spent : IsSpent own (inserted own code) = c.inserted_code_is_spent.ensures own code insertable in
    let marked : (holds : ℕ → ℕ → Bool) × AreMarked (marks_of_types (table_of ground)) holds (inserted own code)
    = typed_is_marked own (table_of ground) (grounds_are given) core_typed.truths code core_typed in
    let fits : (weights : CountedState → ℕ) → FitsAlways weights counted input
    = λ weights n.
    control_fits (λ marks holds result some environment joins runs x none. unmarked_fits holds environment x runs.values_fit none)
    (marks_of_types (table_of ground)) marked.0 (counted_after weights counted input n).control
    (numbers_in weights counted input n) (counted_after weights counted input n).frames
    (always_fit (marks_of_types (table_of ground)) marked.0 counted marked.1 weights input n).1 in
    let store : Setting = setting_of ground own cells depth in
    let agree
    : (nodes room : ℕ) → greatest_nodes ground ≤ nodes → room ≤ most_room nodes
    → Agree (Norm.heavy_store_machine (most_step_cost nodes) store) (counted_machine (roomy_cost room) counted) 0
    (inserted_steps ground) (first_state store input) (counted_first_state counted input)
    = λ nodes room large within.
    agree_through (Norm.heavy_store_machine (most_step_cost nodes) store) (core_machine (roomy_core_cost room) core)
    (counted_machine (roomy_cost room) counted) 0 0
    (λ m. m * (greatest_nodes ground + 1) + greatest_nodes ground + 1) (λ m. m * Insert.pace + Insert.pace + 1)
    (first_state store input) (core_first_state core input)
    (counted_first_state counted input)
    ((c.core_forms_of_typed_programs_cost_little.ensures ground code is_typed compiled.form).agrees own cells depth input nodes
    room (roomy_core_cost room) large within (λ n. omega arith))
    (means.agrees room) in
    let special : CountedSetting = special_setting counted in
    let same : counted_setting made given cells depth ≡ fused_setting special
    = ap (λ (all : CountedProgram). record { program = all; cells = cells; depth = depth })
    (compiled_program typed given made compiled) in
    let kept : KeepsMeaning (setting_of program table cells depth) own special (greatest_nodes ground) (inserted_steps ground) input
    = special_keeps c.specialised_code_is_spent.ensures c.specialised_code_runs_the_same.ensures
    c.judged_code_keeps_its_heap_sound.ensures own counted input spent fits
    (setting_of program table cells depth) store (greatest_nodes ground) (inserted_steps ground)
    (same_trace program ground typings instances is checked table cells depth input)
    (same_end program ground typings instances is checked table cells depth input)
    agree means.never_stuck means.clean in
    let shape : (weights : CountedState → ℕ) → HasShapeAlways weights special input
    = λ weights. c.specialised_code_has_its_kinds.ensures.shape own counted weights weights input spent (fits weights)
    (c.inserted_code_has_its_kinds.ensures.shape core (table_of ground).constructors (λ s. 0) weights input insertable never) in
    let small = c.core_forms_are_small.ensures ground code compiled.form (instances_are_within given) in
    let short = c.inserted_code_is_short.ensures own (table_of ground) code core_typed small (ground_has_few given) in
    let few : HasFewSteps most_length special.program
    = c.short_code_has_few_steps.ensures special.program
    (c.specialised_code_can_be_lowered.ensures.short (inserted own code).functions short) in
    subst (λ (setting : CountedSetting). KeepsMeaning (setting_of program table cells depth) own setting (greatest_nodes ground)
    (store_steps ground) input)
    (sym same)
    (fused_keeps c.fused_code_is_spent.ensures c.fused_code_runs_the_same.ensures.run c.fused_code_runs_the_same.ensures.clean
    c.judged_code_keeps_its_heap_sound.ensures (setting_of program table cells depth) own special (greatest_nodes ground)
    most_length (inserted_steps ground) input kept shape few)
