-- What it is that a run of the core machine is never stuck: in each of its states, the variables that the step reads are bound,
-- and it finds what it asks for. The machine itself has an answer for everything: it stays where no arm is chosen, no cell of
-- that constructor is named or no function is there, and takes a default for what is missing.
use Rattle.std.specs.Prelude.{◌≡◌, ℕ, List, [], ◌∷◌, map, length, Some, slice_get}
use Rattle.kk_base.specs.Machines.{state}
use Rattle.kk_syntax.specs.Programs.{ConstructorTree}
use Rattle.kk_source.specs.State.{Value, unit, place, Environment}
use Rattle.kk_source.specs.Live.{value_of}
use Rattle.kk_source.specs.NeverStuck.{IsBound, ArgumentsFit}
use Rattle.kk_core.specs.Codes.{Code, give, tail_call, case, compute, use_of, unpack, inside, FunctionCode, ProgramCode}
use Rattle.kk_core.specs.CoreMachine.{arm_at, core_machine}
use Rattle.kk_core.specs.CoreStates.{CoreSetting, Join, CallFrame, CoreControl, running, stopped, CoreConfiguration, CoreState, core_first_state}
use Rattle.kk_core.specs.Decisions.{chosen}

-- variables are bound
abbrev pub AreBound : Environment → List ℕ → Type 0
AreBound environment [] = Unit {0}
AreBound environment (x ∷ xs) = IsBound environment x × AreBound environment xs

-- the variables that the step at a code reads; that a variable is still of use reads nothing
abbrev pub read_by : Code → List ℕ
read_by (give x) = x ∷ []
read_by (tail_call f arguments) = arguments
read_by (case x decisions arms) = x ∷ []
read_by (compute x form arguments rest) = arguments
read_by (use_of x rest) = []
read_by (unpack x by fields rest) = x ∷ []
read_by (inside x block rest) = []

module _ (constructors : List ConstructorTree) (program : ProgramCode) where
  -- a call is of a function that is there, and has as many arguments as that has parameters
  abbrev pub CallFits : ℕ → List Value → Type 0
  CallFits f vs = (function : FunctionCode) × (slice_get program.functions f ≡ Some function) × (length vs ≡ function.parameters)

  -- the value of the last function, that of `main`, is `()`
  abbrev pub ResultFits : Value → List Join → List CallFrame → Type 0
  ResultFits v [] [] = v ≡ unit
  ResultFits v _ _ = Unit {0}

  -- What a code asks. Decisions choose a row that has an arm; an opening finds a cell of its
  -- constructor, with as many fields; and a form has the arguments that it asks for in the store machine, too.
  abbrev pub CodeFits : Code → Environment → List Join → CoreConfiguration → Type 0
  CodeFits (give x) environment joins c = ResultFits (value_of environment x) joins c.frames
  CodeFits (tail_call f arguments) environment joins c = CallFits f (map (value_of environment) arguments)
  CodeFits (case x decisions arms) environment joins c =
      (row : ℕ) × (body : Code) × (chosen (slice_get c.store) (value_of environment x) decisions ≡ Some row)
      × (arm_at arms row ≡ Some body)
  CodeFits (compute x form arguments rest) environment joins c =
      ArgumentsFit constructors program.texts CallFits form (map (value_of environment) arguments)
  CodeFits (unpack x by fields rest) environment joins c =
      (at : ℕ) × (vs : List Value) × (value_of environment x ≡ place at)
      × (slice_get c.store at ≡ Some (record { made_by = by; fields = vs })) × (length vs ≡ length fields)
  CodeFits _ environment joins c = Unit {0}

  -- the variables that it reads are bound, and it finds what it asks for
  abbrev pub ControlFits : CoreControl → CoreConfiguration → Type 0
  ControlFits (running code environment joins) c = AreBound environment (read_by code) × CodeFits code environment joins c
  ControlFits (stopped by) c = Unit {0}

  -- the step from a state finds what it asks for
  abbrev pub StateFits : CoreConfiguration → Type 0
  StateFits c = ControlFits c.control c

-- a run of a program on an input is never stuck
abbrev pub NeverStuck : List ConstructorTree → (CoreState → ℕ) → CoreSetting → List ℕ → Type 0
NeverStuck constructors weight setting input =
    (n : ℕ) → StateFits constructors setting.code (state (core_machine weight setting) n (core_first_state setting input)).machine
