-- What the body of a function asks of ownership, as rules. They say what the definition says (kk_syntax's OwnedPositions), and
-- do not depend on a set.
use Rattle.std.specs.Prelude.{ℕ, zero, suc, ◌+◌, Bool, ◌==◌, List, [], ◌∷◌, ◌++◌, map, filter, length, if◌then◌else◌}
use Rattle.kk_syntax.specs.declared.program.Form.{Form}
use Rattle.kk_syntax.specs.declared.program.Form.TheVariants.{Construct, Call}
use Rattle.kk_syntax.specs.Programs.{FunctionTree}
use Rattle.kk_syntax.specs.Shapes.{bound, TailWalk, tail_walked, tail_walked_rows}
use Rattle.kk_syntax.specs.Trees.{Tree, variable, apply, Trees, no_tree, tree, Rows}
use Rattle.kk_syntax.specs.declared.positions.Position.{Position}
use Rattle.kk_borrow.specs.declared.owned_place.Place.{Place}
use Rattle.kk_borrow.specs.declared.owned_place.Place.TheVariants.{Never, Always, With}
use Rattle.kk_borrow.specs.declared.scope.Binding.{Binding}
use Rattle.kk_syntax.specs.OwnedPositions.{PlaceWalk, place_walked, place_walked_all, place_walked_rows}
use Rattle.kk_borrow.specs.Rules.{RuleTree}

abbrev pub position : ℕ → ℕ → Position
position function parameter = record { function = function; parameter = parameter }

-- when the argument of a form at an index stands at an owned place
abbrev pub place_in : Form → ℕ → Place
place_in (Construct of) index = Always
place_in (Call function) index = With (position function index)
place_in form index = Never

abbrev pub place_if : Bool → Place
place_if owned = if owned then Always else Never

-- the rule by which a variable of a function is owned at a place
abbrev pub at_place : ℕ → Place → ℕ → List RuleTree
at_place f Never x = []
at_place f Always x = record { premises = []; conclusion = position f x } ∷ []
at_place f (With p) x = record { premises = p ∷ []; conclusion = position f x } ∷ []

-- o1 to o4: the rules for the variables of an expression, which stands at a place itself
abbrev pub to_rules : ℕ → PlaceWalk Place (List RuleTree)
to_rules f = record {
  at = at_place f;
  none = [];
  both = λ one other. one ++ other;
  owned = place_if;
  argument = place_in;
}

abbrev pub placed : ℕ → Place → Tree → List RuleTree
placed f = place_walked (to_rules f)

-- those of the arguments of a form, from one of them on, which has this number
abbrev pub placed_all : ℕ → Form → ℕ → Trees → List RuleTree
placed_all f = place_walked_all (to_rules f)

abbrev pub placed_rows : ℕ → Rows → List RuleTree
placed_rows f = place_walked_rows (to_rules f)

-- the parameters on which a variable hangs: it is lent as long as one of them is
abbrev pub origins_of : List Binding → ℕ → List ℕ
origins_of scope x = map (λ b. b.parameter) (filter (λ b. b.variable == x) scope)

-- the parameters on which the value of an expression hangs
abbrev pub origins_in : List Binding → Tree → List ℕ
origins_in scope (variable of) = origins_of scope of
origins_in scope other = []

-- a variable hangs on each of some parameters
abbrev pub hung : ℕ → List ℕ → List Binding
hung x origins = map (λ p. record { variable = x; parameter = p }) origins

abbrev pub all_hung : List ℕ → List ℕ → List Binding
all_hung [] origins = []
all_hung (x ∷ xs) origins = hung x origins ++ all_hung xs origins

-- each parameter of a function hangs on itself
abbrev pub parameters : ℕ → List Binding
parameters zero = []
parameters (suc count) = parameters count ++ (record { variable = count; parameter = count } ∷ [])

-- o5: the rules for the arguments of a tail call, from one of them on, which has this number
abbrev pub passed : ℕ → List Binding → ℕ → ℕ → Trees → List RuleTree
passed f scope function index no_tree = []
passed f scope function index (tree first rest) = record { premises = map (position f) (origins_in scope first); conclusion = position function index } ∷ passed f scope function (index + 1) rest

abbrev pub passed_by : ℕ → List Binding → Form → Trees → List RuleTree
passed_by f scope (Call function) arguments = passed f scope function 0 arguments
passed_by f scope form arguments = []

abbrev pub passed_at : ℕ → List Binding → Tree → List RuleTree
passed_at f scope (apply form arguments) = passed_by f scope form arguments
passed_at f scope other = []

-- o5: the rules for the tail calls of an expression in a scope
abbrev pub to_tail_rules : ℕ → TailWalk (List Binding) (List ℕ) RuleTree
to_tail_rules f = record {
  at = passed_at f;
  at_binder = λ scope binder. [];
  at_row = λ scope origins pattern. [];
  told = origins_in;
  enter = λ scope origins pattern. scope ++ all_hung (bound pattern) origins;
}

abbrev pub tail_rules : ℕ → List Binding → Tree → List RuleTree
tail_rules f = tail_walked (to_tail_rules f)

-- the rows of a match whose scrutinee hangs on these parameters
abbrev pub tail_rules_in : ℕ → List Binding → List ℕ → Rows → List RuleTree
tail_rules_in f = tail_walked_rows (to_tail_rules f)

-- the rules of a function by its number, and of functions from a number on
abbrev pub rules_in : ℕ → FunctionTree → List RuleTree
rules_in f function = placed f Always function.body ++ tail_rules f (parameters (length function.parameters)) function.body

abbrev pub rules_from : ℕ → List FunctionTree → List RuleTree
rules_from f [] = []
rules_from f (g ∷ gs) = rules_in f g ++ rules_from (f + 1) gs
