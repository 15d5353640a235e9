-- The owned positions of a program. A position is a function and one of its parameters, both by their numbers. The owned
-- positions are the least set that is closed under five rules; all others are lent.
-- o1: a parameter is owned that is the value of a body, branch, row, block or `val`;
-- o2: or an argument of a constructor;
-- o3: or an argument at an owned position;
-- o4: or the scrutinee of a match with a row whose pattern has a constructor with fields and whose body holds, at any
--     depth, a construction with fields.
-- o5: a position is owned that is given anything but a lent variable by a tail call.
use Rattle.std.specs.Prelude.{◌≡◌, ◌<◌, ℕ, zero, suc, ◌+◌, Bool, true, false, not, ◌==◌, ◌&&◌, ◌||◌, if◌then◌else◌, List, [], ◌∷◌, ◌++◌, map, length, slice_index_or, All, IsTrue}
use Rattle.std.specs.List.{flat_map}
use Rattle.kk_syntax.specs.declared.positions.Ownership.TheVariants.{Lent}
use Rattle.kk_syntax.specs.declared.positions.Position.{Position}
use Rattle.kk_syntax.specs.declared.program.Binder.{Binder}
use Rattle.kk_syntax.specs.declared.program.Binder.TheVariants as OfBinder
use Rattle.kk_syntax.specs.declared.program.Form.{Form}
use Rattle.kk_syntax.specs.declared.program.Form.TheVariants.{Construct, Call}
use Rattle.kk_syntax.specs.Patterns.{Pattern, anything, variable as pattern_variable, exactly, constructor, no_part, part}
use Rattle.kk_syntax.specs.PositionsOf.{PositionTable, lends}
use Rattle.kk_syntax.specs.Programs.{FunctionTree, ProgramTree, no_function}
use Rattle.kk_syntax.specs.Shapes.{bound, is_among, Opening, Tail, tails}
use Rattle.kk_syntax.specs.Trees.{Tree, variable, apply, branch, match, sequence, Trees, no_tree, tree, Rows, no_row, row, row_parts, pattern_of_row, body_of_row}

-- whether a position is in a set
abbrev pub PositionSet : Type 0
PositionSet = ℕ → ℕ → Bool

-- a function of a program by its number, and the number of its parameters
abbrev pub function_at : ProgramTree → ℕ → FunctionTree
function_at program number = slice_index_or program.functions number no_function

abbrev pub arity_of : ProgramTree → ℕ → ℕ
arity_of program number = length (function_at program number).parameters

-- ---- o1 to o4: the owned places of a body

-- Whether an argument of a form, by its number, stands at an owned place. o2: each argument of a constructor does.
-- o3: an argument of a call does where its position is owned.
abbrev pub takes : PositionSet → Form → ℕ → Bool
takes set (Construct of) index = true
takes set (Call function) index = set function index
takes set form index = false

-- o1: the value of a `val` stands at an owned place, and a statement that is an expression does not
abbrev pub is_val : Binder → Bool
is_val OfBinder.Nothing = false
is_val OfBinder.Wildcard = true
is_val (OfBinder.Variable of) = true

-- whether a pattern has a constructor with fields: one further in stands in such a one
abbrev pub opens : Pattern → Bool
opens anything = false
opens (pattern_variable of) = false
opens (exactly value) = false
opens (constructor by no_part) = false
opens (constructor by (part first rest)) = true

-- whether a form with its arguments is a construction with fields
abbrev pub makes : Form → Trees → Bool
makes (Construct of) (tree first rest) = true
makes form arguments = false

-- whether an expression holds a construction with fields, at any depth
abbrev mutual
  pub builds : Tree → Bool
  builds (variable of) = false
  builds (apply form arguments) = makes form arguments || builds_any arguments
  builds (branch condition positive negative) = builds condition || (builds positive || builds negative)
  builds (match scrutinee rows) = builds scrutinee || builds_rows rows
  builds (sequence binder first rest) = builds first || builds rest

  pub builds_any : Trees → Bool
  builds_any no_tree = false
  builds_any (tree first rest) = builds first || builds_any rest

  pub builds_rows : Rows → Bool
  builds_rows no_row = false
  builds_rows (row (row_parts pattern body) rest) = builds body || builds_rows rest

-- o4: the scrutinee of a match stands at an owned place if a row's pattern has a constructor with fields and the row's
-- body holds a construction with fields
abbrev pub reuses : Rows → Bool
reuses no_row = false
reuses (row first rest) = (opens (pattern_of_row first) && builds (body_of_row first)) || reuses rest

-- What the variables of an expression give, put together in the order in which rows come before the scrutinee that they tell the
-- place of, by the place at which each variable stands: whether it is owned, or on what that hangs. The expression stands at a
-- place itself. o1: a branch, the body of a row and the value of a block stand at an owned one.
pub record PlaceWalk (Place A : Type 0) : Type 0 where
  pub at : Place → ℕ → A
  pub none : A
  pub both : A → A → A
  pub owned : Bool → Place
  pub argument : Form → ℕ → Place

abbrev mutual
  pub place_walked : {Place A : Type 0} → PlaceWalk Place A → Place → Tree → A
  place_walked walk place (variable of) = walk.at place of
  place_walked walk place (apply form arguments) = place_walked_all walk form 0 arguments
  place_walked walk place (branch condition positive negative) =
      walk.both (place_walked walk (walk.owned false) condition)
      (walk.both (place_walked walk (walk.owned true) positive) (place_walked walk (walk.owned true) negative))
  place_walked walk place (match scrutinee rows) =
      walk.both (place_walked_rows walk rows) (place_walked walk (walk.owned (reuses rows)) scrutinee)
  place_walked walk place (sequence binder first rest) =
      walk.both (place_walked walk (walk.owned (is_val binder)) first) (place_walked walk (walk.owned true) rest)

  -- arguments of a form, from one of them on, which has this number
  pub place_walked_all : {Place A : Type 0} → PlaceWalk Place A → Form → ℕ → Trees → A
  place_walked_all walk form index no_tree = walk.none
  place_walked_all walk form index (tree first rest) =
      walk.both (place_walked walk (walk.argument form index) first) (place_walked_all walk form (index + 1) rest)

  pub place_walked_rows : {Place A : Type 0} → PlaceWalk Place A → Rows → A
  place_walked_rows walk no_row = walk.none
  place_walked_rows walk (row (row_parts pattern body) rest) =
      walk.both (place_walked walk (walk.owned true) body) (place_walked_rows walk rest)

-- whether a variable stands at an owned place of an expression; the flag tells whether the expression itself stands at one
abbrev pub to_uses : PositionSet → PlaceWalk Bool (ℕ → Bool)
to_uses set = record {
  at = λ owned of. λ x. owned && x == of;
  none = λ x. false;
  both = λ one other. λ x. one x || other x;
  owned = λ owned. owned;
  argument = takes set;
}

abbrev pub uses : PositionSet → Bool → ℕ → Tree → Bool
uses set owned x e = place_walked (to_uses set) owned e x

-- each parameter of a function that stands at an owned place of its body, which is such a place itself, is in a set
abbrev pub OwnsUsed : PositionSet → ℕ → FunctionTree → Type 0
OwnsUsed set number function =
    (parameter : ℕ) → parameter < length function.parameters → IsTrue (uses set true parameter function.body) → IsTrue (set number parameter)

-- ---- o5: what tail calls are given

-- the parameters of a function that are not owned, by whether each is owned and by how many there are
abbrev pub lent_below : (ℕ → Bool) → ℕ → List ℕ
lent_below owned zero = []
lent_below owned (suc count) = lent_below owned count ++ (if owned count then [] else count ∷ [])

-- whether an expression is a lent variable
abbrev pub is_lent_variable : List ℕ → Tree → Bool
is_lent_variable lent (variable of) = is_among lent of
is_lent_variable lent other = false

-- the variables that are lent in a row: those of its pattern too, if the match is on a lent variable
abbrev pub lent_in_row : List ℕ → Bool → Pattern → List ℕ
lent_in_row lent false pattern = lent
lent_in_row lent true pattern = lent ++ bound pattern

-- the same in rows of which each stands in the one before
abbrev pub lent_inside : List ℕ → List Opening → List ℕ
lent_inside lent [] = lent
lent_inside lent (opening ∷ inner) = lent_inside (lent_in_row lent (is_lent_variable lent opening.scrutinee) opening.pattern) inner

-- the positions of a function at which arguments that are no lent variables stand, from one argument on, which has this
-- number
abbrev pub handed_to : List ℕ → ℕ → ℕ → Trees → List Position
handed_to lent function index no_tree = []
handed_to lent function index (tree first rest) = (if is_lent_variable lent first then [] else record { function = function; parameter = index } ∷ []) ++ handed_to lent function (index + 1) rest

-- the same for a part of a body: for a call, and for nothing else
abbrev pub handed_by : List ℕ → Tree → List Position
handed_by lent (apply (Call function) arguments) = handed_to lent function 0 arguments
handed_by lent other = []

abbrev pub handed_at : List ℕ → Tail → List Position
handed_at lent tail = handed_by (lent_inside lent tail.inside) tail.part

-- the positions of a body's tail calls at which anything but a lent variable stands
abbrev pub handed : List ℕ → Tree → List Position
handed lent body = flat_map (handed_at lent) (tails body)

-- each position of a program that a tail call of a function gives anything but a lent variable is in a set
abbrev pub OwnsHanded : ProgramTree → PositionSet → ℕ → FunctionTree → Type 0
OwnsHanded program set number function =
    All (λ p. p.parameter < arity_of program p.function → IsTrue (set p.function p.parameter)) (handed (lent_below (set number) (length function.parameters)) function.body)

-- ---- the least set

-- a set is closed under the rule on tail calls
abbrev pub ClosedUnderTailCalls : ProgramTree → PositionSet → Type 0
ClosedUnderTailCalls program set = (number : ℕ) → number < length program.functions → OwnsHanded program set number (function_at program number)

-- a set is closed under the five rules
pub record Closed (program : ProgramTree) (set : PositionSet) : Type 0 where
  pub places : (number : ℕ) → number < length program.functions → OwnsUsed set number (function_at program number)
  pub tail_calls : ClosedUnderTailCalls program set

-- each position of a set is in another
abbrev pub Within : PositionSet → PositionSet → Type 0
Within set other = (function parameter : ℕ) → IsTrue (set function parameter) → IsTrue (other function parameter)

-- whether a table tells of a position that it is owned
abbrev pub owned_in : PositionTable → PositionSet
owned_in table function parameter = not (lends (slice_index_or (slice_index_or table function []) parameter Lent))

-- a table tells of each position of a program, and of no other
abbrev pub Told : ProgramTree → PositionTable → Type 0
Told program table = map length table ≡ map (λ function. length function.parameters) program.functions

-- A table tells which positions of a program are owned: its owned positions are a closed set, and each closed set holds
-- them.
pub record IsLeast (program : ProgramTree) (table : PositionTable) : Type 0 where
  pub told : Told program table
  pub closed : Closed program (owned_in table)
  pub least : (set : PositionSet) → Closed program set → Within (owned_in table) set
