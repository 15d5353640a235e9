-- What it is that a run is never stuck: in each of its states, the step finds what it asks for. The machine itself has an
-- answer for everything: it stays where no row matches or no function is there, and takes a default for what is missing.
use Rattle.std.specs.Prelude.{◌≡◌, ◌⊎◌, ◌<◌, ℕ, ℤ, Bool, List, [], ◌∷◌, ◌++◌, length, Some, slice_get}
use Rattle.kk_base.specs.Machines.{state}
use Rattle.kk_syntax.specs.declared.operator.UnaryOperator.TheVariants.{Negate, Not}
use Rattle.kk_syntax.specs.declared.program.Form.{Form}
use Rattle.kk_syntax.specs.declared.program.Form.TheVariants.{Number, Unit as Nothing, ReadByte, PrintText, Unary, Binary, Print, Construct, Call}
use Rattle.kk_syntax.specs.Programs.{ConstructorTree, FunctionTree, ProgramTree}
use Rattle.kk_syntax.specs.Trees.{Tree, variable, apply, no_tree}
use Rattle.kk_source.specs.State.{Setting, Value, integer, unit, Store, Environment, Frame, arguments, branches, rows, call, Control, expression, value, stopped, Configuration}
use Rattle.kk_source.specs.Matching.{Chosen, first_match}
use Rattle.kk_source.specs.FormEffects.{truth}
use Rattle.kk_source.specs.SourceAfter.{store_machine, first_state}

-- a variable is bound
abbrev pub IsBound : Environment → ℕ → Type 0
IsBound [] x = ⊥
IsBound (binding ∷ environment) x = (binding.variable ≡ x) ⊎ IsBound environment x

-- What a form asks of the values of its arguments, by the constructors and the string literals that are there, and by what
-- a call asks. A number, `()`, a read and a print of a literal take none; `!` takes `False` or `True`; the other operators,
-- and a print of a value, take integers; a construction takes as many values as its constructor has fields. What is named is
-- there.
abbrev pub ArgumentsFit : List ConstructorTree → List (List ℕ) → (ℕ → List Value → Type 0) → Form → List Value → Type 0
ArgumentsFit constructors texts CallFits (Number number) vs = vs ≡ []
ArgumentsFit constructors texts CallFits Nothing vs = vs ≡ []
ArgumentsFit constructors texts CallFits ReadByte vs = vs ≡ []
ArgumentsFit constructors texts CallFits (PrintText form text) vs = (vs ≡ []) × (text < length texts)
ArgumentsFit constructors texts CallFits (Unary Negate) vs = (n : ℤ) × (vs ≡ integer n ∷ [])
ArgumentsFit constructors texts CallFits (Unary Not) vs = (t : Bool) × (vs ≡ truth t ∷ [])
ArgumentsFit constructors texts CallFits (Binary operator) vs = (n m : ℤ) × (vs ≡ integer n ∷ integer m ∷ [])
ArgumentsFit constructors texts CallFits (Print form) vs = (n : ℤ) × (vs ≡ integer n ∷ [])
ArgumentsFit constructors texts CallFits (Construct c) vs =
    (made_by : ConstructorTree) × (slice_get constructors c ≡ Some made_by) × (length vs ≡ length made_by.fields)
ArgumentsFit constructors texts CallFits (Call f) vs = CallFits f vs

module _ (program : ProgramTree) where
  -- a call is of a function that is there, and has as many arguments as that has parameters
  abbrev pub CallFits : ℕ → List Value → Type 0
  CallFits f vs =
      (function : FunctionTree) × (slice_get program.functions f ≡ Some function) × (length vs ≡ length function.parameters)

  -- the values of a form's arguments are those that it asks for
  abbrev pub FormFits : Form → List Value → Type 0
  FormFits form vs = ArgumentsFit program.constructors program.texts CallFits form vs

  -- What the frames ask of a value. The last argument completes those of its form; an `if` tests `False` or `True`; a row of
  -- a match is chosen; and the call of `main` gives `()`.
  abbrev pub ValueFits : Store → Value → List Frame → Type 0
  ValueFits store v (arguments form values no_tree environment ∷ older) = FormFits form (values ++ v ∷ [])
  ValueFits store v (branches positive negative environment ∷ older) = (t : Bool) × (v ≡ truth t)
  ValueFits store v (rows of environment ∷ older) = (chosen : Chosen) × (first_match store of v environment ≡ Some chosen)
  ValueFits store v (call lent ∷ []) = v ≡ unit
  ValueFits store v _ = Unit {0}

  -- what an expression asks: a variable is bound, and a form without arguments takes none
  abbrev pub ExpressionFits : Tree → Environment → Type 0
  ExpressionFits (variable x) environment = IsBound environment x
  ExpressionFits (apply form no_tree) environment = FormFits form []
  ExpressionFits _ environment = Unit {0}

  -- what the machine asks, by what it is at; at its end it asks nothing
  abbrev pub ControlFits : Control → Configuration → Type 0
  ControlFits (expression e environment) c = ExpressionFits e environment
  ControlFits (value v) c = ValueFits c.store v c.frames
  ControlFits (stopped by) c = Unit {0}

  -- the step from a state finds what it asks for
  abbrev pub StateFits : Configuration → Type 0
  StateFits c = ControlFits c.control c

-- a run of a program on an input is never stuck
abbrev pub NeverStuck : Setting → List ℕ → Type 0
NeverStuck setting input = (n : ℕ) → StateFits setting.program (state (store_machine setting) n (first_state setting input)).machine
