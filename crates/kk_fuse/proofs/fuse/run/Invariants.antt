use Rattle.kk_fuse.specs.Fused.{fuse}
use Rattle.kk_dropspec.proofs.FunctionLoop.{AreMadeSoFar}
use Rattle.kk_fuse.proofs.fuse.run.Given as goal

abbrev pub invariant-loop-function : goal.invariant-loop-function
invariant-loop-function l = AreMadeSoFar fuse l.function-items l.function-index l.initial.made l.made
