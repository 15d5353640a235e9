use Rattle.std.proofs.Common.{sym, subst, List, ℕ, arith}
use Rattle.kk_syntax.specs.GroundPrograms.{ground_program}
use Rattle.kk_syntax.specs.Programs.{program_tree}
use Rattle.kk_syntax.specs.Shapes.{greatest_nodes}
use Rattle.kk_source.specs.Settings.{setting_of}
use Rattle.kk_counted.specs.TokenedForms.{tokened_program}
use Rattle.kk_middle.specs.Compiled.{instance_positions}
use Rattle.kk_middle.specs.Meaning.{store_steps}
use Rattle.kk_back.specs.Images.{IsRunnable}
use Rattle.kk_build.proofs.LentNames.{keeps_lent}
use Rattle.kk_build.proofs.ImageConditions.{runnable}
use Rattle.tool_tests.proofs.layers.file_of.Goals as goal

pub compile-requires-clause-checked : goal.compile-requires-clause-checked
compile-requires-clause-checked c =
    let program = program_tree c.in-Ok.accepted.typed.program in
    c.accepted_programs_are_typed.ensures.checked _ program _ c.in-Ok.ensures.program c.in-Ok.ensures.principal

pub compile-requires-clause-lent : goal.compile-requires-clause-lent
compile-requires-clause-lent c positions least =
    let program = program_tree c.in-Ok.accepted.typed.program in
    let resolved = c.accepted_programs_are_typed.ensures.resolved _ program c.in-Ok.ensures.program in
    keeps_lent resolved.0.declarations program resolved.1 positions

pub image-requires-clause-runnable : goal.image-requires-clause-runnable
image-requires-clause-runnable c =
    let typed = c.in-Ok.accepted.typed in
    let given = c.in-Ok.accepted.instances in
    let program = program_tree typed.program in
    let made = c.in_ok-tokened.tokened in
    let counted = c.in_ok-tokened.ensures.0 in
    let compiled = c.in_ok-tokened.ensures.1 in
    let of = c.in_ok-tokened.ensures.2 in
    let is_given = c.in-Ok.ensures.instances in
    let checked = c.accepted_programs_are_typed.ensures.checked _ program _ c.in-Ok.ensures.program c.in-Ok.ensures.principal in
    let resolved = c.accepted_programs_are_typed.ensures.resolved _ program c.in-Ok.ensures.program in
    let lent = keeps_lent resolved.0.declarations program resolved.1 compiled.table in
    subst (λ (texts : List (List ℕ)). IsRunnable made.shape (tokened_program made.functions.items texts) 65536 4096)
    (sym c.deref.ensures.value)
    (runnable c.judged_programs_are_fit.ensures counted made given 65536 4096 (setting_of program compiled.table 65536 4096)
    (instance_positions given compiled.table) (greatest_nodes (ground_program given)) (store_steps (ground_program given))
    record { few_cells = omega arith; some_depth = omega arith; small_depth = omega arith } of.shape
    (c.compiled_tokens_can_be_lowered.ensures typed given counted made checked is_given compiled of)
    (c.compiled_programs_can_be_lowered.ensures typed given counted checked is_given compiled lent)
    (c.compiled_programs_are_marked.ensures typed given counted checked is_given compiled) compiled.numbers
    (c.compiled_programs_keep_meaning.ensures typed given counted checked is_given compiled lent 65536 4096)
    (c.compiled_programs_have_their_kinds.ensures typed given counted checked is_given compiled lent 65536 4096))
