-- What a walk over a body does to a graph of types: it adds nodes, and takes some of them where a typing chooses types.
use Rattle.std.specs.Prelude.{◌≡◌, ◌<◌, ◌≤◌, ℕ, Option, Some, List, [], ◌++◌, length, map, reverse, All}
use Rattle.kk_syntax.specs.declared.typed.Taken.{Taken}
use Rattle.kk_syntax.specs.declared.typed.Taken.TheVariants as OfTaken
use Rattle.kk_syntax.specs.Types.{TypeTree, put, type_at}
use Rattle.kk_syntax.specs.Typing.{Choice, constructing, calling, holding, TypedVariable, Scope, Scheme}
use Rattle.kk_unify.specs.Graphs.{NodeTree, Assignment, Obeys}
use Rattle.kk_walk.specs.declared.walk.Bound.{Bound}

-- what is taken at a place of a body, by the numbers of nodes: for the type variables of a constructor or of a function
-- that is used there; or for the type of a statement's value, of a scrutinee, or of a variable of a pattern
pub data Taking : Type 0 where
  constructing_at : (by : ℕ) → (at : List ℕ) → Taking
  calling_at : (function : ℕ) → (at : List ℕ) → Taking
  holding_at : (of : ℕ) → Taking

-- the same as the code keeps it
abbrev pub taking_of : Taken → Taking
taking_of (OfTaken.Construct by at) = constructing_at by at.items
taking_of (OfTaken.Call function at) = calling_at function at.items
taking_of (OfTaken.Value of) = holding_at of

abbrev pub takings_of : List Taken → List Taking
takings_of taken = map taking_of taken

-- what is chosen, by the types of the nodes
abbrev pub choice_at : Assignment → Taking → Choice
choice_at r (constructing_at by at) = constructing by (map r at)
choice_at r (calling_at function at) = calling function (map r at)
choice_at r (holding_at of) = holding (r of)

abbrev pub choices_at : Assignment → List Taking → List Choice
choices_at r taken = map (choice_at r) taken

-- each of these numbers is below a bound
abbrev pub AreBelow : ℕ → List ℕ → Type 0
AreBelow size numbers = All (λ i. i < size) numbers

-- what is taken are nodes below a bound
abbrev pub IsTakenBelow : ℕ → Taking → Type 0
IsTakenBelow size (constructing_at by at) = AreBelow size at
IsTakenBelow size (calling_at function at) = AreBelow size at
IsTakenBelow size (holding_at of) = of < size

abbrev pub AreTakenBelow : ℕ → List Taking → Type 0
AreTakenBelow size taken = All (IsTakenBelow size) taken

-- the variables that are bound, by the types of their nodes: the code keeps the newest one last
abbrev pub variable_at : Assignment → Bound → TypedVariable
variable_at r bound = record { variable = bound.variable; type = r bound.node }

abbrev pub scope_at : Assignment → List Bound → Scope
scope_at r bounds = reverse (map (variable_at r) bounds)

-- variables of nodes below a bound
abbrev pub AreBoundBelow : ℕ → List Bound → Type 0
AreBoundBelow size bounds = All (λ bound. bound.node < size) bounds

-- two assignments give the same types to the nodes below a bound
abbrev pub Agree : ℕ → Assignment → Assignment → Type 0
Agree size r q = (i : ℕ) → i < size → r i ≡ q i

-- what choices are to be, by the types of the nodes
abbrev pub Claim : Type 1
Claim = Assignment → List Choice → Type 0

-- A walk on its way: from a graph to another one with some nodes taken, and from all that was to be shown, at first, to what
-- is left. Where the new graph and what is left are met, the old graph and the whole are, with the choices at the nodes
-- that are taken in front; and each choice that meets the old graph and the whole is made in this way.
pub record Leads (old new : List NodeTree) (taken : List Taking) (Whole Left : Claim) : Type 0 where
  pub longer : length old ≤ length new
  pub below : AreTakenBelow (length new) taken
  pub sound : (r : Assignment) (choices : List Choice) → Obeys new r → Left r choices → Obeys old r × Whole r (choices_at r taken ++ choices)
  pub complete : (r : Assignment) (choices : List Choice) → Obeys old r → Whole r choices → (q : Assignment) × Obeys new q × Agree (length old) r q × ((rest : List Choice) × (choices ≡ choices_at q taken ++ rest) × Left q rest)

-- nothing is left
abbrev pub Done : Claim
Done r choices = choices ≡ []

-- a walk at its end: the new graph means what the old one does, and that the choices at the nodes that are taken meet the
-- claim
abbrev pub Refines : List NodeTree → List NodeTree → List Taking → Claim → Type 0
Refines old new taken Whole = Leads old new taken Whole Done

-- nothing that meets the graph meets the claim
pub record Refused (graph : List NodeTree) (Whole : Claim) : Type 0 where
  pub none : (r : Assignment) (choices : List Choice) → Obeys graph r → Whole r choices → ⊥

-- a claim that is of the nodes below a bound alone
pub record IsOf (size : ℕ) (Whole : Claim) : Type 0 where
  pub follows : (r q : Assignment) (choices : List Choice) → Agree size r q → Whole r choices → Whole q choices

-- New nodes for a type in the program: one of them has it, by the types of the nodes below, and nothing else is asked.
pub record Builds (old new : List NodeTree) (number : ℕ) (type : Assignment → TypeTree) : Type 0 where
  pub longer : length old ≤ length new
  pub inside : number < length new
  pub sound : (r : Assignment) → Obeys new r → Obeys old r × (r number ≡ type r)
  pub complete : (r : Assignment) → Obeys old r → (q : Assignment) × Obeys new q × Agree (length old) r q

-- The same for types in the program.
pub record BuildsEach (old new : List NodeTree) (numbers : List ℕ) (types : Assignment → List TypeTree) : Type 0 where
  pub longer : length old ≤ length new
  pub inside : AreBelow (length new) numbers
  pub sound : (r : Assignment) → Obeys new r → Obeys old r × (map r numbers ≡ types r)
  pub complete : (r : Assignment) → Obeys old r → (q : Assignment) × Obeys new q × Agree (length old) r q

-- New nodes, so many, of any types.
pub record Opens (old new : List NodeTree) (numbers : List ℕ) (count : ℕ) : Type 0 where
  pub longer : length old ≤ length new
  pub inside : AreBelow (length new) numbers
  pub each : length numbers ≡ count
  pub sound : (r : Assignment) → Obeys new r → Obeys old r
  pub complete : (r : Assignment) (ts : List TypeTree) → length ts ≡ count → Obeys old r → (q : Assignment) × Obeys new q × Agree (length old) r q × (map q numbers ≡ ts)

-- A scheme at new nodes for its variables: nodes for what it takes and gives there.
pub record IsInstance (scheme : Option Scheme) (chosen : List TypeTree → List Choice) (old new : List NodeTree) (taken : List Taking) (takes : List ℕ) (gives : ℕ) : Type 0 where
  pub of : Scheme
  pub is : scheme ≡ Some of
  pub at : List ℕ
  pub opens : Opens old new at of.variables
  pub takes_inside : AreBelow (length new) takes
  pub gives_inside : gives < length new
  pub parameters : (r : Assignment) → Obeys new r → map r takes ≡ map (put (type_at (map r at))) of.parameters
  pub result : (r : Assignment) → Obeys new r → r gives ≡ put (type_at (map r at)) of.result
  pub taken_inside : AreTakenBelow (length new) taken
  pub taken_are : (r : Assignment) → choices_at r taken ≡ chosen (map r at)
