use Rattle.kk_dropspec.specs.Specialised.{special}
use Rattle.kk_dropspec.proofs.FunctionLoop.{AreMadeSoFar}
use Rattle.kk_dropspec.proofs.special.run.Given as goal

abbrev pub invariant-loop-function : goal.invariant-loop-function
invariant-loop-function l = AreMadeSoFar special l.function-items l.function-index l.initial.made l.made
