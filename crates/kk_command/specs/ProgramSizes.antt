-- The sizes of programs that are generated: how many functions `f1`, `f2` and so on they have.
use Rattle.std.specs.Prelude.{ℕ, ◌≤◌}

abbrev pub least_size : ℕ
least_size = 1

abbrev pub greatest_size : ℕ
greatest_size = 100

-- a program of such a size may be asked for
pub record IsProgramSize (size : ℕ) : Type 0 where
  pub some : least_size ≤ size
  pub few : size ≤ greatest_size
