use Rattle.std.proofs.Common.{[], List, ap}
use Rattle.kk_counted.specs.TokenedCodes.{TokenedFunction, TokenedProgram}
use Rattle.tool_tests.proofs.HandRuns.{layout_is, runnable}
use Rattle.tool_tests.proofs.hand_code.hand_file.Goals as goal

pub image-requires-clause-runnable : goal.image-requires-clause-runnable
image-requires-clause-runnable c =
    let tokened = c.in_ok-tokened.tokened in
    let made = c.in_ok-tokened.ensures in
    let program : List TokenedFunction → TokenedProgram = λ functions. record { functions = functions; texts = []; main = 0 } in
    runnable c.judged_programs_are_fit.ensures tokened.shape _ _ c.requires (layout_is tokened.shape made.tags made.fields) made.marks
    (ap program made.code)
