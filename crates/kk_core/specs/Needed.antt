-- The variables that a code needs: those that it reads and has not bound itself.
use Rattle.std.specs.Prelude.{ℕ, List, [], ◌∷◌, ◌++◌}
use Rattle.kk_syntax.specs.Shapes.{without}
use Rattle.kk_core.specs.Codes.{Code, give, tail_call, case, compute, use_of, unpack, inside, Arms, no_arm, arm}

-- the variables that a code needs, where what comes after its end needs some; as often as they are read
abbrev mutual
  pub needed : List ℕ → Code → List ℕ
  needed later (give x) = x ∷ later
  needed later (tail_call f arguments) = arguments ++ later
  needed later (case x decisions arms) = x ∷ needed_by_arms later arms
  needed later (compute x form arguments rest) = arguments ++ without (x ∷ []) (needed later rest)
  needed later (use_of x rest) = x ∷ needed later rest
  needed later (unpack x c fields rest) = x ∷ without fields (needed later rest)
  needed later (inside x block rest) = needed (without (x ∷ []) (needed later rest)) block

  pub needed_by_arms : List ℕ → Arms → List ℕ
  needed_by_arms later no_arm = later
  needed_by_arms later (arm pattern body rest) = needed later body ++ needed_by_arms later rest
