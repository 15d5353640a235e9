use Rattle.std.proofs.Common.{refl, subst, ◌∙◌, arith}
use Rattle.std.proofs.lemmas.List.{length-map}
use Rattle.kk_syntax.specs.GroundPrograms.{ground_program}
use Rattle.kk_syntax.specs.Programs.{ProgramTree}
use Rattle.kk_core.specs.Codes.{function_code}
use Rattle.kk_norm.specs.CellTables.{AreShapesOf, TellCells}
use Rattle.kk_norm.specs.Normalized.{IsCoreForm}
use Rattle.kk_norm.proofs.CellTables.{tells_cells}
use Rattle.kk_norm.proofs.ProgramTyping.{core_form_typed}
use Rattle.kk_norm.proofs.FormInduction.{are_whole, are_lean}
use Rattle.kk_norm.proofs.Forms.{as_many, is_small}
use Rattle.kk_norm.proofs.TypedPreservation.{typed_keeps_meaning, typed_costs_little}
use Rattle.kk_norm.proofs.MatchRows.{functions_have_rows}
use Rattle.kk_norm.proofs.Programs.{main_in_range}
use Rattle.kk_norm.proofs.Within.{instances_are_within}
use Rattle.kk_norm.proofs.program.normal.Goals as goal

pub all_functions-requires-clause-rows : goal.all_functions-requires-clause-rows
all_functions-requires-clause-rows c = functions_have_rows (ground_program c.args.given.now) c.requires.typed

pub all_functions-requires-clause-small : goal.all_functions-requires-clause-small
all_functions-requires-clause-small c = (instances_are_within c.args.given.now).functions

pub returns-clause-form : goal.returns-clause-form
returns-clause-form c =
    record { functions = c.in_ok-functions.ensures.form; texts = c.in_ok-texts.ensures ∙ c.deref-3.ensures.value; main = refl }

pub returns-clause-means : goal.returns-clause-means
returns-clause-means c =
    let program : ProgramTree = ground_program c.args.given.now in
    let form : IsCoreForm program _
    = record { functions = c.in_ok-functions.ensures.form; texts = c.in_ok-texts.ensures ∙ c.deref-3.ensures.value; main = refl } in
    record {
      keeps_meaning = typed_keeps_meaning program _ c.requires.typed form;
      typed = core_form_typed program _ c.requires.typed form;
      small = is_small program _ form (instances_are_within c.args.given.now);
      whole = are_whole program _ form;
      lean = are_lean program _ form;
      costs = typed_costs_little program _ c.requires.typed form;
    }

pub invariant_of-result : goal.invariant_of-result
invariant_of-result c =
    let program : ProgramTree = ground_program c.args.given.now in
    record {
      main_in = omega (
        arith,
        as_many program.constructors program.functions _ c.in_ok-functions.ensures.form,
        length-map c.in_ok-functions.functions.items function_code,
        main_in_range c.args.given.now c.requires.typed,
        c.in_ok-functions.functions.ok.0,
      );
    }

pub returns-clause-cells : goal.returns-clause-cells
returns-clause-cells c = tells_cells c.args.given.now c.in_ok-table.table.items c.in_ok-table.ensures _
    (subst (λ table. AreShapesOf table c.args.given.now.constructors.items c.in_ok-constructors.constructors.items)
    c.deref-2.ensures.value c.in_ok-constructors.ensures)
    (subst (λ table. TellCells table c.args.given.now.instances.items c.in_ok-functions.functions.items) c.deref.ensures.value
    c.in_ok-functions.ensures.cells)

pub returns-clause-types : goal.returns-clause-types
returns-clause-types c = c.in_ok-constructors.ensures.of_types
