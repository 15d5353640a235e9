use Rattle.std.proofs.Common.{◌≡◌, string_bytes}
use Rattle.kk_gen.specs.Generated.{steps_of}
use Rattle.kk_gen.proofs.generator.steps.Given as goal

abbrev pub invariant-loop-before : goal.invariant-loop-before
invariant-loop-before l = string_bytes l.steps ≡ steps_of l.before-counter
