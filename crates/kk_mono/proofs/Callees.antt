-- A typing of a body names the functions that the body calls and the constructors that it uses, each in the order of the text:
-- they are the program's, and a function has as many types as it has type variables.
use Rattle.std.proofs.Common.{◌≡◌, ℕ, ℤ, ◌<◌, List, [], ◌∷◌, ◌++◌, length, map, Option, Some, None, option_map, refl, sym, ap, ◌∙◌, subst, append_assoc}
use Rattle.std.specs.Prelude.{slice_get, flat_map}
use Rattle.std.proofs.lemmas.Option.{slice_get_within}
use Rattle.kk_syntax.specs.Covered.{Each}
use Rattle.kk_syntax.specs.Shapes.{Gathers, gathered}
use Rattle.kk_syntax.proofs.Elements.{each_both}
use Rattle.kk_syntax.proofs.PatternTypes.{is_declared}
use Rattle.kk_syntax.proofs.Walks.{typing_agrees}
use Rattle.kk_syntax.specs.declared.program.Form.{Form}
use Rattle.kk_syntax.specs.declared.program.Form.TheVariants.{Call, Construct}
use Rattle.kk_syntax.specs.Patterns.{Pattern, anything, variable as pattern_variable, exactly, constructor, Patterns, no_part, part}
use Rattle.kk_syntax.specs.Programs.{FunctionTree, ProgramTree}
use Rattle.kk_syntax.specs.Trees.{Tree, Rows}
use Rattle.kk_syntax.specs.Types.{TypeTree, put, type_at}
use Rattle.kk_syntax.specs.Typing.{Scope, Scheme, Choice, constructing, calling, holding, form_scheme, function_scheme, constructor_scheme, chosen_at, IsPatternTyped, ArePatternsTyped, IsTypedBy, IsTyping}
use Rattle.kk_mono.specs.Instances.{InstanceTree, GroundConstructorTree, called_at, constructed_at, called_by, gathers_calls, calls, built_by, gathers_constructors, constructors_in, tested_all}

-- a function of the program, at as many types as it has type variables
pub record IsCall (program : ProgramTree) (f : ℕ) (at : List TypeTree) : Type 0 where
  pub function : FunctionTree
  pub is : slice_get program.functions f ≡ Some function
  pub long : length at ≡ function.variables

-- these functions are called by these choices
abbrev pub CallsAre : ProgramTree → List Choice → List ℕ → Type 0
CallsAre program [] fs = fs ≡ []
CallsAre program (constructing by at ∷ choices) fs = CallsAre program choices fs
CallsAre program (calling f at ∷ choices) fs = (rest : List ℕ) × (fs ≡ f ∷ rest) × IsCall program f at × CallsAre program choices rest
CallsAre program (holding of ∷ choices) fs = CallsAre program choices fs

-- what is chosen is one of the program's
abbrev pub IsChosen : ProgramTree → Choice → Type 0
IsChosen program (constructing by at) = by < length program.constructors
IsChosen program (calling f at) = IsCall program f at
IsChosen program (holding of) = Unit {0}

module _ (program : ProgramTree) where
  along : (xs ys : List Choice) → xs ≡ ys → Each (IsChosen program) ys → Each (IsChosen program) xs
  along xs ys same each = subst (Each (IsChosen program)) (sym same) each

  some_function : (found : Option FunctionTree) (of : Scheme) → option_map function_scheme found ≡ Some of → (function : FunctionTree) × (found ≡ Some function) × (function.variables ≡ of.variables)
  some_function None of is = cc
  some_function (Some function) of is = (function, refl, (let same : function_scheme function ≡ of = cc in ap (λ (s : Scheme). s.variables) same))

  made_below : (c : ℕ) (of : Scheme) → constructor_scheme program c ≡ Some of → c < length program.constructors
  made_below c of is =
      let known = is_declared program (slice_get program.constructors c) of is in
      slice_get_within program.constructors c known.made known.there

  -- what a form chooses
  chosen : (form : Form) (of : Scheme) (at : List TypeTree) → form_scheme program form ≡ Some of → length at ≡ of.variables
      → Each (IsChosen program) (chosen_at form at)
  chosen (Call f) of at is long =
      let some = some_function (slice_get program.functions f) of is in
      (record { function = some.0; is = some.1; long = long ∙ sym some.2 }, tt)
  chosen (Construct c) of at is long = (made_below c of is, tt)
  chosen _ of at is long = tt

  mutual
    pattern_chosen : (scope : Scope) (p : Pattern) (t : TypeTree) (choices : List Choice) → IsPatternTyped program scope p t choices → Each (IsChosen program) choices
    pattern_chosen scope anything t choices none = along choices [] none tt
    pattern_chosen scope (pattern_variable x) t choices typed = along choices [] typed.1 tt
    pattern_chosen scope (exactly value) t choices typed = along choices [] typed.1 tt
    pattern_chosen scope (constructor c parts) t choices uses =
        along choices (constructing c uses.at ∷ uses.rest) uses.choices_are
        (made_below c uses.of uses.is, patterns_chosen scope parts (map (put (type_at uses.at)) uses.of.parameters) uses.rest uses.arguments)

    patterns_chosen : (scope : Scope) (ps : Patterns) (ts : List TypeTree) (choices : List Choice) → ArePatternsTyped program scope ps ts choices → Each (IsChosen program) choices
    patterns_chosen scope no_part [] choices none = along choices [] none tt
    patterns_chosen scope no_part (t ∷ ts) choices typed = absurd typed
    patterns_chosen scope (part first rest) [] choices typed = absurd typed
    patterns_chosen scope (part first rest) (t ∷ ts) choices (one, other, is, first_typed, rest_typed) =
        along choices (one ++ other) is (each_both (IsChosen program) one other (pattern_chosen scope first t one first_typed) (patterns_chosen scope rest ts other rest_typed))

  -- each choice of a typing is one of the program's
  pub typing_chosen : (function : FunctionTree) (choices : List Choice) → IsTyping program function choices → Each (IsChosen program) choices
  typing_chosen function choices typing =
      typing_agrees program gathers_calls (λ choices names. Each (IsChosen program) choices) tt
      (λ xs ys us vs first rest. each_both (IsChosen program) xs ys first rest) (λ t xs us each. (tt, each)) chosen pattern_chosen
      (λ scope rows u t choices typed. (tt, tt)) _ function.body _ choices typing

-- ---- the names that choices have

abbrev function_chosen : Choice → List ℕ
function_chosen (constructing by at) = []
function_chosen (calling f at) = f ∷ []
function_chosen (holding of) = []

abbrev constructor_chosen : Choice → List ℕ
constructor_chosen (constructing by at) = by ∷ []
constructor_chosen (calling f at) = []
constructor_chosen (holding of) = []

-- Names are gathered from choices as from what is typed by them.
module _ (pick : Choice → List ℕ) (none_held : (t : TypeTree) → pick (holding t) ≡ []) (from : Gathers ℕ) (no_rows : (rows : Rows) → from.at_rows rows ≡ [])
    (forms : (form : Form) (at : List TypeTree) → flat_map pick (chosen_at form at) ≡ from.at_form form) (patterns : Patterns → List ℕ)
    (no_parts : patterns no_part ≡ []) (both_parts : (p : Pattern) (ps : Patterns) → patterns (part p ps) ≡ from.at_pattern p ++ patterns ps)
    (wildcards : from.at_pattern anything ≡ []) (variables : (x : ℕ) → from.at_pattern (pattern_variable x) ≡ []) (numbers : (n : ℤ) → from.at_pattern (exactly n) ≡ [])
    (tests : (c : ℕ) (at : List TypeTree) (ps : Patterns) → from.at_pattern (constructor c ps) ≡ pick (constructing c at) ++ patterns ps) (program : ProgramTree) where
  picked_both : (xs ys : List Choice) (ns ms : List ℕ) → flat_map pick xs ≡ ns → flat_map pick ys ≡ ms → flat_map pick (xs ++ ys) ≡ ns ++ ms
  picked_both xs ys ns ms one other = parts xs ∙ ((λ i. one i ++ other i))
    where
      parts : (xs : List Choice) → flat_map pick (xs ++ ys) ≡ flat_map pick xs ++ flat_map pick ys
      parts [] = refl
      parts (x ∷ xs) = ap (λ ns. pick x ++ ns) (parts xs) ∙ sym (append_assoc (pick x) (flat_map pick xs) (flat_map pick ys))

  none_picked : (choices : List Choice) → choices ≡ [] → flat_map pick choices ≡ []
  none_picked choices none = ap (flat_map pick) none

  one_held : (t : TypeTree) (choices : List Choice) → flat_map pick (holding t ∷ choices) ≡ flat_map pick choices
  one_held t choices = ap (λ ns. ns ++ flat_map pick choices) (none_held t)

  mutual
    pattern_picked : (scope : Scope) (p : Pattern) (t : TypeTree) (choices : List Choice) → IsPatternTyped program scope p t choices → flat_map pick choices ≡ from.at_pattern p
    pattern_picked scope anything t choices none = none_picked choices none ∙ sym wildcards
    pattern_picked scope (pattern_variable x) t choices typed = none_picked choices typed.1 ∙ sym (variables x)
    pattern_picked scope (exactly value) t choices typed = none_picked choices typed.1 ∙ sym (numbers value)
    pattern_picked scope (constructor c ps) t choices uses =
        ap (flat_map pick) uses.choices_are
        ∙ (ap (λ ns. pick (constructing c uses.at) ++ ns) (patterns_picked scope ps (map (put (type_at uses.at)) uses.of.parameters) uses.rest uses.arguments)
        ∙ sym (tests c uses.at ps))

    patterns_picked : (scope : Scope) (ps : Patterns) (ts : List TypeTree) (choices : List Choice) → ArePatternsTyped program scope ps ts choices → flat_map pick choices ≡ patterns ps
    patterns_picked scope no_part [] choices none = none_picked choices none ∙ sym no_parts
    patterns_picked scope no_part (t ∷ ts) choices typed = absurd typed
    patterns_picked scope (part first rest) [] choices typed = absurd typed
    patterns_picked scope (part first rest) (t ∷ ts) choices (one, other, is, first_typed, rest_typed) =
        ap (flat_map pick) is
        ∙ (picked_both one other (from.at_pattern first) (patterns rest) (pattern_picked scope first t one first_typed) (patterns_picked scope rest ts other rest_typed)
        ∙ sym (both_parts first rest))

  tree_picked : (scope : Scope) (e : Tree) (t : TypeTree) (choices : List Choice) → IsTypedBy program scope e t choices → flat_map pick choices ≡ gathered from e
  tree_picked scope e t choices typed =
      typing_agrees program from (λ choices names. flat_map pick choices ≡ names) refl picked_both (λ t xs us picked. one_held t xs ∙ picked)
      (λ form of at is each. forms form at) pattern_picked (λ scope rows u t choices typed. one_held u [] ∙ sym (no_rows rows)) scope e t choices typed

-- what a form chooses
form_function : (form : Form) (at : List TypeTree) → flat_map function_chosen (chosen_at form at) ≡ called_by form
form_function (Call f) at = refl
form_function (Construct c) at = refl
form_function _ at = refl

form_constructor : (form : Form) (at : List TypeTree) → flat_map constructor_chosen (chosen_at form at) ≡ built_by form
form_constructor (Call f) at = refl
form_constructor (Construct c) at = refl
form_constructor _ at = refl

module _ (program : ProgramTree) where
  functions_picked : (function : FunctionTree) (choices : List Choice) → IsTyping program function choices → flat_map function_chosen choices ≡ calls function.body
  functions_picked function choices typing =
      tree_picked function_chosen (λ t. refl) gathers_calls (λ rows. refl) form_function (λ ps. []) refl (λ p ps. refl) refl (λ x. refl) (λ n. refl) (λ c at ps. refl)
      program _ function.body _ choices typing

  constructors_picked : (function : FunctionTree) (choices : List Choice) → IsTyping program function choices → flat_map constructor_chosen choices ≡ constructors_in function.body
  constructors_picked function choices typing =
      tree_picked constructor_chosen (λ t. refl) gathers_constructors (λ rows. refl) form_constructor tested_all refl (λ p ps. refl) refl (λ x. refl) (λ n. refl) (λ c at ps. refl)
      program _ function.body _ choices typing

  calls_are : (choices : List Choice) (fs : List ℕ) → Each (IsChosen program) choices → flat_map function_chosen choices ≡ fs → CallsAre program choices fs
  calls_are [] fs each picked = sym picked
  calls_are (constructing by at ∷ choices) fs each picked = calls_are choices fs each.1 picked
  calls_are (calling f at ∷ choices) fs each picked = (flat_map function_chosen choices, sym picked, each.0, calls_are choices (flat_map function_chosen choices) each.1 refl)
  calls_are (holding of ∷ choices) fs each picked = calls_are choices fs each.1 picked

  pub typing_calls : (function : FunctionTree) (choices : List Choice) → IsTyping program function choices → CallsAre program choices (calls function.body)
  typing_calls function choices typing =
      calls_are choices (calls function.body) (typing_chosen program function choices typing) (functions_picked function choices typing)

  -- the functions of the instances that are called
  pub called_functions : (ts : List TypeTree) (choices : List Choice) (fs : List ℕ) → CallsAre program choices fs → map (λ (x : InstanceTree). x.function) (called_at ts choices) ≡ fs
  called_functions ts [] fs none = sym none
  called_functions ts (constructing by at ∷ choices) fs are = called_functions ts choices fs are
  called_functions ts (calling f at ∷ choices) fs (rest, is, call, are) = ap (λ gs. f ∷ gs) (called_functions ts choices rest are) ∙ sym is
  called_functions ts (holding of ∷ choices) fs are = called_functions ts choices fs are

  -- the constructors of the ground constructors that are used
  constructed_names : (ts : List TypeTree) (choices : List Choice) → map (λ (x : GroundConstructorTree). x.constructor) (constructed_at ts choices) ≡ flat_map constructor_chosen choices
  constructed_names ts [] = refl
  constructed_names ts (constructing by at ∷ choices) = ap (λ cs. by ∷ cs) (constructed_names ts choices)
  constructed_names ts (calling f at ∷ choices) = constructed_names ts choices
  constructed_names ts (holding of ∷ choices) = constructed_names ts choices

  pub used_constructors : (ts : List TypeTree) (function : FunctionTree) (choices : List Choice) → IsTyping program function choices
      → map (λ (x : GroundConstructorTree). x.constructor) (constructed_at ts choices) ≡ constructors_in function.body
  used_constructors ts function choices typing = constructed_names ts choices ∙ constructors_picked function choices typing
