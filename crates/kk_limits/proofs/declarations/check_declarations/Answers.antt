use Rattle.std.proofs.Common.{refl, ◌∙◌}
use Rattle.std.specs.Prelude.{Ok, Err}
use Rattle.kk_syntax.specs.Programs.{program_tree}
use Rattle.kk_syntax.proofs.Quantities.{only_declared, whole_first}
use Rattle.kk_limits.proofs.declarations.check_declarations.Goals as goal

pub returns-in-Some : goal.returns-in-Some
returns-in-Some c =
    let program = c.args.program.now in
    only_declared (program_tree program) (Err (record { kind = c.in-Some.field-0.kind; count = c.in-Some.field-0.count })) (
      c.in-Some.field-0,
      whole_first program c.deref.result.now c.first_of_constructors.result c.first_of_functions.result c.sooner.result c.deref.ensures.value
          c.first_of_constructors.ensures c.first_of_functions.ensures c.sooner.ensures
          ∙ c.in-Some.is,
      refl,
    )

pub returns-in-None : goal.returns-in-None
returns-in-None c =
    let program = c.args.program.now in
    only_declared (program_tree program) (Ok tt)
    (whole_first program c.deref.result.now c.first_of_constructors.result c.first_of_functions.result c.sooner.result c.deref.ensures.value
    c.first_of_constructors.ensures c.first_of_functions.ensures c.sooner.ensures
    ∙ c.in-None.is)
