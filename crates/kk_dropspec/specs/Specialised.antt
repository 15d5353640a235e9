-- Drop specialisation: each opening of a cell goes by the cell's count.
use Rattle.kk_counted.specs.CountedCodes.{Counted, give, tail_call, case, compute, inside, read, open_cell, if_unique, dup, drop, CountedArms, no_arm, arm, CountedFunction, CountedProgram}
use Rattle.kk_counted.specs.CountedStates.{CountedSetting, CountedJoin, CountedFrame, CountedControl, CountedConfiguration}
use Rattle.kk_dropspec.specs.Changed.{changed_function, changed_program, changed_setting, changed_join, changed_frame, changed_control, changed_configuration}

abbrev mutual
  pub special : Counted → Counted
  special (give x) = give x
  special (tail_call f arguments) = tail_call f arguments
  special (case x decisions arms) = case x decisions (special_arms arms)
  special (compute x form arguments rest) = compute x form arguments (special rest)
  special (inside x block rest) = inside x (special block) (special rest)
  special (read x c fields rest) = read x c fields (special rest)
  special (open_cell x c fields used rest) = if_unique x c fields used (special rest)
  special (if_unique x c fields used rest) = if_unique x c fields used (special rest)
  special (dup x rest) = dup x (special rest)
  special (drop x rest) = drop x (special rest)

  pub special_arms : CountedArms → CountedArms
  special_arms no_arm = no_arm
  special_arms (arm body rest) = arm (special body) (special_arms rest)

abbrev pub special_function : CountedFunction → CountedFunction
special_function = changed_function special

abbrev pub special_program : CountedProgram → CountedProgram
special_program = changed_program special

abbrev pub special_setting : CountedSetting → CountedSetting
special_setting = changed_setting special

-- ---- a state with specialised code

abbrev pub special_join : CountedJoin → CountedJoin
special_join = changed_join special

abbrev pub special_frame : CountedFrame → CountedFrame
special_frame = changed_frame special

abbrev pub special_control : CountedControl → CountedControl
special_control = changed_control special

abbrev pub special_configuration : CountedConfiguration → CountedConfiguration
special_configuration = changed_configuration special
