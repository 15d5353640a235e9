-- The shape of a code: how long it is, how long it can be, and that its variables are in order.
use Rattle.std.specs.Prelude.{◌≡◌, ℕ, zero, suc, ◌+◌, ◌*◌, ◌≤◌, List, [], ◌∷◌, ◌++◌, true}
use Rattle.kk_base.specs.declared.limit.LimitKind.TheVariants.{Parameters, FunctionNodes, Instances, ProgramNodes}
use Rattle.kk_base.specs.Limits.{greatest_of}
use Rattle.kk_syntax.specs.Shapes.{is_among}
use Rattle.kk_core.specs.Codes.{Code, give, tail_call, case, compute, use_of, unpack, inside, Arms, no_arm, arm, FunctionCode}

-- the limits of a program: the parameters of a function, the nodes of its body, the functions, and all nodes together
abbrev pub most_parameters : ℕ
most_parameters = greatest_of Parameters

abbrev pub most_nodes : ℕ
most_nodes = greatest_of FunctionNodes

abbrev pub most_instances : ℕ
most_instances = greatest_of Instances

abbrev pub most_program_nodes : ℕ
most_program_nodes = greatest_of ProgramNodes

-- what they make of its core form: a node binds at most one variable, and makes at most two forms, with one more for each
-- function
abbrev pub most_variables : ℕ
most_variables = most_nodes + most_parameters

abbrev pub most_forms : ℕ
most_forms = 2 * most_nodes + 1

abbrev pub most_program_forms : ℕ
most_program_forms = 2 * most_program_nodes + most_instances

-- the number of forms in a code
abbrev mutual
  pub forms : Code → ℕ
  forms (give x) = 1
  forms (tail_call f arguments) = 1
  forms (case x decisions arms) = forms_of_arms arms + 1
  forms (compute x form arguments rest) = forms rest + 1
  forms (use_of x rest) = forms rest + 1
  forms (unpack x c fields rest) = forms rest + 1
  forms (inside x block rest) = forms block + forms rest + 1

  pub forms_of_arms : Arms → ℕ
  forms_of_arms no_arm = 0
  forms_of_arms (arm pattern body rest) = forms body + forms_of_arms rest

-- each variable of a list is among those that are bound
abbrev pub AreBound : List ℕ → List ℕ → Type 0
AreBound bound [] = Unit {0}
AreBound bound (x ∷ xs) = (is_among bound x ≡ true) × AreBound bound xs

-- the variables of a list, each at least `low` and all above those before them, are below `high`
abbrev pub Rise : ℕ → List ℕ → ℕ → Type 0
Rise low [] high = low ≤ high
Rise low (x ∷ xs) high = (low ≤ x) × Rise (x + 1) xs high

-- Each variable is bound before it is read, once on each path, and above all that was bound before it: with `bound` bound
-- so far, all of them below `low`, the code binds variables from `low` on, all of them below `high`.
abbrev mutual
  pub Ordered : List ℕ → ℕ → Code → ℕ → Type 0
  Ordered bound low (give x) high = (is_among bound x ≡ true) × (low ≤ high)
  Ordered bound low (tail_call f arguments) high = AreBound bound arguments × (low ≤ high)
  Ordered bound low (case x decisions arms) high = (is_among bound x ≡ true) × OrderedArms bound low arms high
  Ordered bound low (compute x form arguments rest) high = AreBound bound arguments × (low ≤ x) × Ordered (x ∷ bound) (x + 1) rest high
  Ordered bound low (use_of x rest) high = (is_among bound x ≡ true) × Ordered bound low rest high
  Ordered bound low (unpack x c fields rest) high = (middle : ℕ) × (is_among bound x ≡ true) × Rise low fields middle × Ordered (fields ++ bound) middle rest high
  Ordered bound low (inside x block rest) high = Ordered bound low block x × Ordered (x ∷ bound) (x + 1) rest high

  pub OrderedArms : List ℕ → ℕ → Arms → ℕ → Type 0
  OrderedArms bound low no_arm high = low ≤ high
  OrderedArms bound low (arm pattern body rest) high = (middle : ℕ) × Ordered bound low body middle × OrderedArms bound middle rest high

-- the numbers below a bound, the greatest one first
abbrev pub below : ℕ → List ℕ
below zero = []
below (suc n) = n ∷ below n

-- a function's body is in order after its parameters
abbrev pub IsOrdered : FunctionCode → Type 0
IsOrdered function = Ordered (below function.parameters) function.parameters function.body function.variables
