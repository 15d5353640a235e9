-- What a pass makes of a program of counted code, where it changes each code by a function.
use Rattle.std.specs.Prelude.{◌≡◌, map}
use Rattle.kk_counted.specs.declared.counted.Counted.{Counted as Program}
use Rattle.kk_counted.specs.CountedCodes.{Counted}
use Rattle.kk_counted.specs.Int32.{AllHaveInt32}
use Rattle.kk_counted.specs.Programs.{function_of}
use Rattle.kk_dropspec.specs.Changed.{changed_function}

-- It is the same program with each code changed, and its numbers are numbers of 32 bits.
pub record IsChangedProgram (change : Counted → Counted) (program made : Program) : Type 0 where
  pub shape : made.shape ≡ program.shape
  pub functions : map function_of made.functions.items ≡ map (changed_function change) (map function_of program.functions.items)
  pub body_nodes : made.body_nodes ≡ program.body_nodes
  pub nodes : made.nodes ≡ program.nodes
  pub numbers : AllHaveInt32 (map function_of made.functions.items)
