-- Paired programs without their tokens are the programs that they are made of.
use Rattle.std.proofs.Common.{◌≡◌, List, [], ◌∷◌, map, false, refl, ap, ◌∙◌}
use Rattle.kk_counted.specs.BareForms.{bare_function, bare_program}
use Rattle.kk_counted.specs.CountedCodes.{CountedFunction, CountedProgram}
use Rattle.kk_counted.specs.CountedStates.{CountedSetting}
use Rattle.kk_counted.specs.TokenStates.{bare_setting}
use Rattle.kk_reuse.specs.Pairing.{paired_function, paired_program, paired_setting}
use Rattle.kk_reuse.proofs.BareForm.{bare_paired}

functions_bare : (functions : List CountedFunction) → map bare_function (map paired_function functions) ≡ functions
functions_bare [] = refl
functions_bare (function ∷ functions) =
    ap (λ body. record { parameters = function.parameters; body = body } ∷ map bare_function (map paired_function functions))
    (bare_paired false 0 0 function.body)
    ∙ ap (λ (rest : List CountedFunction). function ∷ rest) (functions_bare functions)

pub program_bare : (program : CountedProgram) → bare_program (paired_program program) ≡ program
program_bare program =
    ap (λ (functions : List CountedFunction). record { functions = functions; texts = program.texts; main = program.main })
    (functions_bare program.functions)

pub setting_bare : (setting : CountedSetting) → bare_setting (paired_setting setting) ≡ setting
setting_bare setting =
    ap (λ (program : CountedProgram). record { program = program; cells = setting.cells; depth = setting.depth })
    (program_bare setting.program)
