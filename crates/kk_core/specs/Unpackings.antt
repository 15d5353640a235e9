-- How many cells core code opens on a path.
use Rattle.std.specs.Prelude.{◌≡◌, ℕ, suc, ◌+◌, ◌≤◌, Some, max, slice_get}
use Rattle.kk_core.specs.Codes.{Code, give, tail_call, case, compute, use_of, unpack, inside, Arms, no_arm, arm, FunctionCode, ProgramCode}

-- the most openings on a path of a code
abbrev mutual
  pub unpackings : Code → ℕ
  unpackings (give x) = 0
  unpackings (tail_call f arguments) = 0
  unpackings (case x decisions arms) = unpackings_of arms
  unpackings (compute x form arguments rest) = unpackings rest
  unpackings (use_of x rest) = unpackings rest
  unpackings (unpack x c fields rest) = suc (unpackings rest)
  unpackings (inside x block rest) = unpackings block + unpackings rest

  pub unpackings_of : Arms → ℕ
  unpackings_of no_arm = 0
  unpackings_of (arm pattern body rest) = max (unpackings body) (unpackings_of rest)

-- no function of a program has more of them
abbrev pub UnpackAtMost : ℕ → ProgramCode → Type 0
UnpackAtMost most code =
    (f : ℕ) (function : FunctionCode) → slice_get code.functions f ≡ Some function → unpackings function.body ≤ most
