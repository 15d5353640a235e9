use Rattle.std.proofs.Common.{map, sym, ap, subst, ◌∙◌}
use Rattle.kk_syntax.specs.GroundPrograms.{ground_program}
use Rattle.kk_syntax.specs.GroundTyping.{table_of}
use Rattle.kk_syntax.specs.OwnedPositions.{Told, owned_in, ClosedUnderTailCalls}
use Rattle.kk_syntax.specs.PositionsOf.{PositionTable, positions_of}
use Rattle.kk_syntax.specs.Programs.{ProgramTree, program_tree}
use Rattle.kk_syntax.specs.TypedPrograms.{typings_of}
use Rattle.kk_mono.specs.Grounds.{instances_of}
use Rattle.kk_instances.specs.Meaning.{positions_in}
use Rattle.kk_core.specs.Codes.{ProgramCode, core_code}
use Rattle.kk_counted.specs.InstancePositions as Shaping
use Rattle.kk_counted.specs.declared.shape.Shape.{Shape}
use Rattle.kk_counted.specs.declared.shape.InstanceShape.{InstanceShape}
use Rattle.kk_insert.specs.Insertion.{inserted}
use Rattle.kk_insert.specs.Promise.{TailsLendOn}
use Rattle.kk_insert.specs.Shapes.{cells_in, facts_of}
use Rattle.kk_dropspec.specs.Specialised.{special_function}
use Rattle.kk_fuse.specs.Fused.{fused_function}
use Rattle.kk_respec.specs.Respecialised.{respecialised_program}
use Rattle.kk_middle.proofs.InsertionConditions.{tells_parameters, tells_as_many, all_have_rows}
use Rattle.kk_middle.proofs.program.compile.Goals as goal

pub normal-requires : goal.normal-requires
normal-requires c = record {
  typed = (c.instances_mean_the_program.ensures (program_tree c.args.accepted.now.typed.program)
      (ground_program c.args.accepted.now.instances)
      (typings_of c.args.accepted.now.typed) (instances_of c.args.accepted.now.instances) c.requires.checked
      c.requires.given.instances).typed;
}

pub run-requires-clause-insertable : goal.run-requires-clause-insertable
run-requires-clause-insertable c =
    let program : ProgramTree = program_tree c.args.accepted.now.typed.program in
    let made : ProgramTree = ground_program c.args.accepted.now.instances in
    let code : ProgramCode = core_code c.in_ok-core.core in
    let table : PositionTable = positions_of c.in_ok-table.table in
    let own : PositionTable = positions_in (instances_of c.args.accepted.now.instances) table in
    let closed : ClosedUnderTailCalls made (owned_in own)
    = c.owned_positions_of_instances_are_closed.ensures.closed program made (typings_of c.args.accepted.now.typed)
    (instances_of c.args.accepted.now.instances) table c.requires.given.instances c.in_ok-table.ensures.told
    c.in_ok-table.ensures.closed.tail_calls in
    let told : Told made own
    = c.owned_positions_of_instances_are_closed.ensures.told program made (typings_of c.args.accepted.now.typed)
    (instances_of c.args.accepted.now.instances) table c.requires.given.instances c.in_ok-table.ensures.told in
    let keeps = c.owned_positions_of_instances_are_closed.ensures.keeps program made (typings_of c.args.accepted.now.typed)
    (instances_of c.args.accepted.now.instances) table c.requires.given.instances c.in_ok-table.ensures.told
    (c.requires.lent table c.in_ok-table.ensures) in
    let lends : TailsLendOn own code
    = c.tail_calls_of_core_forms_lend_on.ensures made code own c.in_ok-core.ensures.form told closed keeps in
    c.typed_code_is_insertable.ensures (positions_of c.in_ok-positions.positions) (table_of made) code
    c.in_ok-core.ensures.means.typed c.in_ok-core.ensures.means.small
    (subst (λ (positions : PositionTable). TailsLendOn positions code) (sym c.in_ok-positions.ensures) lends)

pub run-requires-clause-rows : goal.run-requires-clause-rows
run-requires-clause-rows c = all_have_rows (core_code c.in_ok-core.core) c.in_ok-core.ensures.means.whole

pub run-requires-clause-told : goal.run-requires-clause-told
run-requires-clause-told c =
    let made : ProgramTree = ground_program c.args.accepted.now.instances in
    let told = c.owned_positions_of_instances_are_closed.ensures.told (program_tree c.args.accepted.now.typed.program) made
    (typings_of c.args.accepted.now.typed) (instances_of c.args.accepted.now.instances) (positions_of c.in_ok-table.table)
    c.requires.given.instances c.in_ok-table.ensures.told in
    tells_parameters made (core_code c.in_ok-core.core) (positions_of c.in_ok-positions.positions) c.in_ok-core.ensures.form
    (subst (Told made) (sym c.in_ok-positions.ensures) told)

pub run-requires-clause-cells : goal.run-requires-clause-cells
run-requires-clause-cells c =
    let made : ProgramTree = ground_program c.args.accepted.now.instances in
    let told = c.owned_positions_of_instances_are_closed.ensures.told (program_tree c.args.accepted.now.typed.program) made
    (typings_of c.args.accepted.now.typed) (instances_of c.args.accepted.now.instances) (positions_of c.in_ok-table.table)
    c.requires.given.instances c.in_ok-table.ensures.told in
    tells_as_many made c.in_ok-core.core (positions_of c.in_ok-positions.positions) c.in_ok-core.ensures.cells
    (subst (Told made) (sym c.in_ok-positions.ensures) told)

pub run-requires-clause-consistent : goal.run-requires-clause-consistent
run-requires-clause-consistent c =
    c.core_constructors_are_consistent.ensures c.args.accepted.now.typed c.args.accepted.now.instances c.in_ok-core.core
    c.requires.given c.in_ok-core.ensures.cells c.in_ok-core.ensures.types

pub returns : goal.returns
returns c =
    let code : ProgramCode = core_code c.in_ok-core.core in
    let shape = c.in_ok-fused.ensures.shape ∙ c.in_ok-special.ensures.shape in (
      c.in_ok-fused.fused,
      record {
        table = positions_of c.in_ok-table.table;
        least = c.in_ok-table.ensures;
        core = c.in_ok-core.core;
        form = c.in_ok-core.ensures.form;
        functions = c.in_ok-fused.ensures.functions ∙ ap (map fused_function) (c.in_ok-special.ensures.functions
            ∙ ap (map special_function) c.in_ok-counted.ensures.functions
            ∙ ap (λ (positions : PositionTable). map special_function (inserted positions code).functions)
            c.in_ok-positions.ensures);
        positions = ap (λ (s : Shape). Shaping.positions_in s.instances.items) shape ∙ c.in_ok-counted.ensures.positions
            ∙ c.in_ok-positions.ensures;
        tells = c.in_ok-core.ensures.cells;
        cells = ap (λ (s : Shape). map cells_in s.instances.items) shape ∙ c.in_ok-counted.ensures.cells;
        results = ap (λ (s : Shape). map (λ (i : InstanceShape). i.result_has_cells) s.instances.items) shape
            ∙ c.in_ok-counted.ensures.results;
        constructors = ap (λ (s : Shape). map facts_of s.constructors.items) shape ∙ c.in_ok-counted.ensures.constructors;
        body_nodes = c.in_ok-fused.ensures.body_nodes ∙ c.in_ok-special.ensures.body_nodes ∙ c.in_ok-counted.ensures.body_nodes
            ∙ c.in_ok-core.ensures.greatest_nodes ∙ c.requires.given.greatest;
        nodes = c.in_ok-fused.ensures.nodes ∙ c.in_ok-special.ensures.nodes ∙ c.in_ok-counted.ensures.nodes
            ∙ c.in_ok-core.ensures.summed_nodes;
        numbers = c.in_ok-fused.ensures.numbers;
      },
      record {
        shape = c.in_ok-made.ensures.shape ∙ c.in_ok-paired.ensures.shape;
        program = λ texts. c.in_ok-made.ensures.program texts ∙ ap respecialised_program (c.in_ok-paired.ensures.program texts);
        body_nodes = c.in_ok-made.ensures.body_nodes ∙ c.in_ok-paired.ensures.body_nodes;
        nodes = c.in_ok-made.ensures.nodes ∙ c.in_ok-paired.ensures.nodes;
      },
    )
