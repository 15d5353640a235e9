-- That an image does what its program means without limits.
use Rattle.std.specs.Prelude.{◌≡◌, ℕ, List, Some}
use Rattle.kk_base.specs.Trace.{IsPrefix}
use Rattle.kk_source.specs.Ends.{exit_of}
use Rattle.kk_source.specs.SourceAfter.{unlimited_after}
use Rattle.kk_source.specs.State.{Setting, ended}
use Rattle.rv_isa.specs.Processor.{exited}
use Rattle.kk_build.specs.ImageAfter.{file_after}

-- Whatever the cells and the depth: at every moment the trace of the image in a file is the beginning of one of the program without
-- limits; and where the image exits with the number of a program that ends by itself, that is all of it.
pub record FollowsWithoutLimits (file : List ℕ) (setting : Setting) (input : List ℕ) : Type 0 where
  pub prefix : (m : ℕ) → (n : ℕ) × IsPrefix (file_after file input m).processor.trace (unlimited_after setting input n).trace
  pub whole : (m : ℕ) → (file_after file input m).ending ≡ exited (exit_of ended)
      → (n : ℕ) × ((unlimited_after setting input n).ending ≡ Some ended)
      × ((unlimited_after setting input n).trace ≡ (file_after file input m).processor.trace)
