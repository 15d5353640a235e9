use Rattle.std.proofs.Common.{◌≡◌, string_bytes}
use Rattle.kk_gen.specs.Generated.{number_at, function_lines}
use Rattle.kk_gen.proofs.generator.functions.Given as goal

abbrev pub invariant-loop-before : goal.invariant-loop-before
invariant-loop-before l =
    (l.number ≡ number_at l.seed l.before) × (string_bytes l.lines ≡ function_lines l.seed l.before)
