-- Functions, programs and states in which each code is changed, by a function on code.
use Rattle.std.specs.Prelude.{map}
use Rattle.kk_counted.specs.CountedCodes.{Counted, CountedFunction, CountedProgram}
use Rattle.kk_counted.specs.CountedStates.{CountedSetting, CountedJoin, CountedFrame, CountedControl, running, stopped, stuck, CountedConfiguration}

module _ (change : Counted → Counted) where
  abbrev pub changed_function : CountedFunction → CountedFunction
  changed_function function = record { parameters = function.parameters; body = change function.body }

  abbrev pub changed_program : CountedProgram → CountedProgram
  changed_program program =
      record { functions = map changed_function program.functions; texts = program.texts; main = program.main }

  abbrev pub changed_setting : CountedSetting → CountedSetting
  changed_setting setting =
      record { program = changed_program setting.program; cells = setting.cells; depth = setting.depth }

  abbrev pub changed_join : CountedJoin → CountedJoin
  changed_join join = record { variable = join.variable; rest = change join.rest }

  abbrev pub changed_frame : CountedFrame → CountedFrame
  changed_frame frame =
      record {
        variable = frame.variable;
        rest = change frame.rest;
        joins = map changed_join frame.joins;
        environment = frame.environment;
      }

  abbrev pub changed_control : CountedControl → CountedControl
  changed_control (running code environment joins) = running (change code) environment (map changed_join joins)
  changed_control (stopped by) = stopped by
  changed_control stuck = stuck

  abbrev pub changed_configuration : CountedConfiguration → CountedConfiguration
  changed_configuration c =
      record { control = changed_control c.control; frames = map changed_frame c.frames; heap = c.heap }
