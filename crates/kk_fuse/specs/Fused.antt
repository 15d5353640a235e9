-- Fusion: a dup and the next drop of its variable cancel, if between them stand only dups and drops of other variables, readings,
-- and forms on values that make no cell and call no function, and none names the variable.
use Rattle.std.specs.Prelude.{◌==◌, ℕ, Bool, true, false, ◌||◌, List, ◌∷◌, Option, Some, None, option_map, if◌then◌else◌}
use Rattle.kk_syntax.specs.declared.program.Form.{Form}
use Rattle.kk_syntax.specs.declared.program.Form.TheVariants.{Construct, Call}
use Rattle.kk_syntax.specs.Shapes.{is_among}
use Rattle.kk_counted.specs.CountedCodes.{Counted, give, tail_call, case, compute, inside, read, open_cell, if_unique, dup, drop, CountedArms, no_arm, arm, CountedFunction, CountedProgram}
use Rattle.kk_counted.specs.CountedStates.{CountedSetting}
use Rattle.kk_dropspec.specs.Changed.{changed_function, changed_program, changed_setting}

-- a form on variables that makes no cell and calls no function
abbrev pub is_plain : Form → List ℕ → Bool
is_plain (Call f) arguments = false
is_plain (Construct c) (x ∷ xs) = false
is_plain _ _ = true

-- The code without its next drop of a variable, if before that drop stand only dups and drops of other variables, readings, and
-- forms on values that make no cell and call no function, and none names the variable.
abbrev pub without_drop : ℕ → Counted → Option Counted
without_drop x (drop y rest) = if y == x then Some rest else option_map (drop y) (without_drop x rest)
without_drop x (dup y rest) = if y == x then None else option_map (dup y) (without_drop x rest)
without_drop x (read y c fields rest) =
    if y == x || is_among fields x then None else option_map (read y c fields) (without_drop x rest)
without_drop x (compute y form arguments rest) =
    if y == x || is_among arguments x then None
    else if is_plain form arguments then option_map (compute y form arguments) (without_drop x rest) else None
without_drop x _ = None

-- a dup in front of a code, or the code without its next drop of the variable
abbrev pub fused_dup : ℕ → Counted → Counted
fused_dup x code = or_else (without_drop x code)
  where
    or_else : Option Counted → Counted
    or_else None = dup x code
    or_else (Some less) = less

-- the code in which each dup cancels with the next drop of its variable, where it can; the last dups first
abbrev mutual
  pub fuse : Counted → Counted
  fuse (give x) = give x
  fuse (tail_call f arguments) = tail_call f arguments
  fuse (case x decisions arms) = case x decisions (fuse_arms arms)
  fuse (compute x form arguments rest) = compute x form arguments (fuse rest)
  fuse (inside x block rest) = inside x (fuse block) (fuse rest)
  fuse (read x c fields rest) = read x c fields (fuse rest)
  fuse (open_cell x c fields used rest) = open_cell x c fields used (fuse rest)
  fuse (if_unique x c fields used rest) = if_unique x c fields used (fuse rest)
  fuse (dup x rest) = fused_dup x (fuse rest)
  fuse (drop x rest) = drop x (fuse rest)

  pub fuse_arms : CountedArms → CountedArms
  fuse_arms no_arm = no_arm
  fuse_arms (arm body rest) = arm (fuse body) (fuse_arms rest)

abbrev pub fused_function : CountedFunction → CountedFunction
fused_function = changed_function fuse

abbrev pub fused_program : CountedProgram → CountedProgram
fused_program = changed_program fuse

abbrev pub fused_setting : CountedSetting → CountedSetting
fused_setting = changed_setting fuse
