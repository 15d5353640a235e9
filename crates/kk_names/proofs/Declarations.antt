-- How far the loops over parameters and over declared functions have come.
use Rattle.std.proofs.Common.{◌≡◌, ℕ, ◌+◌, List, [], ◌∷◌, ◌++◌, length, map, Option, refl, sym, ap, subst, ◌∙◌, arith, append_assoc}
use Rattle.std.specs.Prelude.{is_some}
use Rattle.kk_syntax.specs.declared.tree.Identifier.{Identifier}
use Rattle.kk_syntax.specs.Programs.{FunctionTree}
use Rattle.kk_syntax.specs.Surface.{Written, WrittenType, WrittenParameter, WrittenDeclaration, type_declaration, function_declaration}
use Rattle.kk_syntax.specs.Trees.{Tree}
use Rattle.kk_syntax.specs.Types.{TypeTree}
use Rattle.kk_names.specs.declared.fault.Fault.{Fault}
use Rattle.kk_names.specs.declared.fault.FaultKind.TheVariants.{Twice}
use Rattle.kk_names.specs.declared.resolver.Resolver.{Resolver}
use Rattle.kk_names.specs.Expressions.{meant}
use Rattle.kk_names.specs.Faults.{twice_faults, type_faults, parameter_faults, result_faults, faults_in, faults_in_function, faults_in_functions}
use Rattle.kk_names.specs.Methods.{known_of, before_of, first_with, newest_first, faults_if, Notes, Binds, MeansType, Resolves, ResolvesParameters, ResolvesFunction}
use Rattle.kk_names.specs.Names.{before_body, with_texts, with_all_texts, functions_of}
use Rattle.kk_names.specs.Scopes.{Scope, binding, with_variable, past, number_in, names_in, with_parameters, parameter_names}
use Rattle.kk_names.specs.Tables.{Known}
use Rattle.kk_names.specs.TypeNames.{type_meant, signature_variables}
use Rattle.kk_names.proofs.ResolverStates.{first_more, before_is}
use Rattle.kk_names.proofs.Tables.{newest_more, is_seen}

-- ---- parameters

-- of all parameters some are left
pub record ParametersSoFar (variables : List (List ℕ)) (old now : Resolver) (left all : List WrittenParameter) (types : List TypeTree) : Type 0 where
  pub known : known_of now ≡ known_of old
  pub scope : with_parameters now.next left (newest_first now.scope.items) ≡ with_parameters old.next all (newest_first old.scope.items)
  pub next : now.next + length left ≡ old.next + length all
  pub texts : now.texts.items ≡ old.texts.items
  pub first : first_with now.first (parameter_faults (known_of old) variables (names_in (newest_first now.scope.items)) left) ≡ first_with old.first (parameter_faults (known_of old) variables (names_in (newest_first old.scope.items)) all)
  pub types_are : types ++ map (λ parameter. type_meant (known_of old) variables parameter.of_type) left ≡ map (λ parameter. type_meant (known_of old) variables parameter.of_type) all

pub parameters_more : (variables : List (List ℕ)) (old now checked typed numbered new : Resolver) (parameter : WrittenParameter) (left all : List WrittenParameter) (types : List TypeTree) (number : ℕ) (t : TypeTree)
    → ParametersSoFar variables old now (parameter ∷ left) all types
    → Notes (faults_if (is_some (number_in (newest_first now.scope.items) parameter.name.name)) Twice parameter.name) now checked
    → MeansType variables parameter.of_type checked typed t
    → number ≡ typed.next → before_of numbered ≡ with_variable (before_of typed) → known_of numbered ≡ known_of typed → numbered.scope.items ≡ typed.scope.items → numbered.first ≡ typed.first
    → Binds (binding parameter.name number) numbered new
    → ParametersSoFar variables old new left all (types ++ t ∷ [])
parameters_more variables old now checked typed numbered new parameter left all types number t so_far twice meaning number_is next known scope first binds =
    let table = known_of old in
    let checked_known : known_of checked ≡ table = ap (λ state. state.known) twice.state ∙ so_far.known in
    let notes : Notes (type_faults table variables parameter.of_type) checked typed = subst (λ (k : Known). Notes (type_faults k variables parameter.of_type) checked typed) checked_known meaning.notes in
    let means : t ≡ type_meant table variables parameter.of_type = meaning.tree_is ∙ ap (λ k. type_meant k variables parameter.of_type) checked_known in
    let names = names_in (newest_first now.scope.items) in
    let same : before_of typed ≡ before_of now = ap (λ state. state.before) notes.state ∙ ap (λ state. state.before) twice.state in
    let same_next : typed.next ≡ now.next = ap (λ b. b.variables) same in
    let before_so : before_of new ≡ with_variable (before_of now) = binds.before ∙ (next ∙ ap with_variable same) in
    let items : new.scope.items ≡ now.scope.items ++ binding parameter.name number ∷ [] = binds.scope ∙ ap (λ xs. xs ++ binding parameter.name number ∷ []) (scope ∙ (notes.scope ∙ twice.scope)) in
    let number_so : number ≡ now.next = number_is ∙ same_next in
    let seen : newest_first new.scope.items ≡ binding parameter.name now.next ∷ newest_first now.scope.items =
    ap newest_first items ∙ (newest_more [] now.scope.items (binding parameter.name number) ∙ ap (λ n. binding parameter.name n ∷ newest_first now.scope.items) number_so) in
    let next_so : new.next ≡ now.next + 1 = ap (λ b. b.variables) before_so in
    let checked_first : checked.first ≡ first_with now.first (twice_faults names parameter.name) =
    ap (λ state. state.first) twice.state ∙ ap (λ b. first_with now.first (faults_if b Twice parameter.name)) (is_seen (newest_first now.scope.items) parameter.name.name) in
    let first_so : new.first ≡ first_with now.first (twice_faults names parameter.name ++ type_faults table variables parameter.of_type) =
    binds.first ∙ (first ∙ (ap (λ state. state.first) notes.state ∙ (ap (λ f. first_with f (type_faults table variables parameter.of_type)) checked_first
    ∙ sym (first_more now.first (twice_faults names parameter.name) (type_faults table variables parameter.of_type))))) in
    record {
      known = binds.known ∙ (known ∙ (ap (λ state. state.known) notes.state ∙ checked_known));
      scope = ap (λ n. with_parameters n left (newest_first new.scope.items)) next_so ∙ (ap (with_parameters (now.next + 1) left) seen ∙ so_far.scope);
      next = omega (arith, next_so, so_far.next);
      texts = ap (λ b. b.texts) before_so ∙ so_far.texts;
      first =
          ap (λ f. first_with f (parameter_faults table variables (names_in (newest_first new.scope.items)) left)) first_so
          ∙ (ap (λ s. first_with (first_with now.first (twice_faults names parameter.name ++ type_faults table variables parameter.of_type)) (parameter_faults table variables (names_in s) left)) seen
          ∙ (sym (first_more now.first (twice_faults names parameter.name ++ type_faults table variables parameter.of_type) (parameter_faults table variables (parameter.name.name ∷ names) left))
          ∙ so_far.first));
      types_are =
          append_assoc types (t ∷ []) (map (λ p. type_meant table variables p.of_type) left)
          ∙ (ap (λ x. types ++ x ∷ map (λ p. type_meant table variables p.of_type) left) means ∙ so_far.types_are);
    }

-- the names of parameters
pub names_with_parameters : (next : ℕ) (parameters : List WrittenParameter) (scope : Scope) → names_in (with_parameters next parameters scope) ≡ parameter_names parameters (names_in scope)
names_with_parameters next [] scope = refl
names_with_parameters next (parameter ∷ more) scope = names_with_parameters (next + 1) more (binding parameter.name next ∷ scope)

-- ---- declared functions

-- of all declarations some are left
pub record ResolvedSoFar (old now : Resolver) (left all : List WrittenDeclaration) (functions : List FunctionTree) : Type 0 where
  pub known : known_of now ≡ known_of old
  pub texts : with_all_texts now.texts.items left ≡ with_all_texts old.texts.items all
  pub first : first_with now.first (faults_in_functions (known_of old) left) ≡ first_with old.first (faults_in_functions (known_of old) all)
  pub functions_are : functions ++ functions_of (known_of old) now.texts.items left ≡ functions_of (known_of old) old.texts.items all

functions_split : (known : Known) (texts : List (List ℕ)) (d : WrittenDeclaration) (ds : List WrittenDeclaration)
    → functions_of known texts (d ∷ ds) ≡ functions_of known texts (d ∷ []) ++ functions_of known (with_texts texts d) ds
functions_split known texts (type_declaration name parameters cases) ds = refl
functions_split known texts (function_declaration name parameters effects result body) ds = refl

pub one_more_resolved : (old now new : Resolver) (declaration : WrittenDeclaration) (left all : List WrittenDeclaration) (functions : List FunctionTree) (function : FunctionTree)
    → ResolvedSoFar old now (declaration ∷ left) all functions → ResolvesFunction declaration now new → function ∷ [] ≡ functions_of (known_of now) now.texts.items (declaration ∷ [])
    → ResolvedSoFar old new left all (functions ++ function ∷ [])
one_more_resolved old now new declaration left all functions function so_far resolves is =
    let table = known_of old in
    let here = faults_in_function table declaration in
    record {
      known = resolves.known ∙ so_far.known;
      texts = ap (λ ts. with_all_texts ts left) resolves.texts ∙ so_far.texts;
      first =
          ap (λ f. first_with f (faults_in_functions table left)) (resolves.first ∙ ap (λ k. first_with now.first (faults_in_function k declaration)) so_far.known)
          ∙ (sym (first_more now.first here (faults_in_functions table left)) ∙ so_far.first);
      functions_are =
          append_assoc functions (function ∷ []) (functions_of table new.texts.items left)
          ∙ (ap (λ fs. functions ++ (fs ++ functions_of table new.texts.items left)) (is ∙ ap (λ k. functions_of k now.texts.items (declaration ∷ [])) so_far.known)
          ∙ (ap (λ ts. functions ++ (functions_of table now.texts.items (declaration ∷ []) ++ functions_of table ts left)) resolves.texts
          ∙ (ap (λ fs. functions ++ fs) (sym (functions_split table now.texts.items declaration left)) ∙ so_far.functions_are)));
    }

-- a declared type is no function
pub type_passed : (old now : Resolver) (name : Identifier) (parameters : _) (cases : _) (left all : List WrittenDeclaration) (functions : List FunctionTree)
    → ResolvedSoFar old now (type_declaration name parameters cases ∷ left) all functions → ResolvedSoFar old now left all functions
type_passed old now name parameters cases left all functions so_far =
    record { known = so_far.known; texts = so_far.texts; first = so_far.first; functions_are = so_far.functions_are }

-- a function, from its parts
pub function_resolved : (name : Identifier) (parameters : List WrittenParameter) (effects : _) (result : Option WrittenType) (body : Written) (old start first second new : Resolver) (types : List TypeTree) (t : Tree)
    → known_of start ≡ known_of old → start.scope.items ≡ [] → start.next ≡ 0 → start.texts.items ≡ old.texts.items → start.first ≡ old.first
    → ResolvesParameters (signature_variables parameters result) parameters start first types → Notes (result_faults (known_of first) (signature_variables parameters result) result) first second → Resolves body second new t
    → ResolvesFunction (function_declaration name parameters effects result body) old new
function_resolved name parameters effects result body old start first second new types t known scope next texts fault x meets z =
    let table = known_of old in
    let start_known : known_of start ≡ table = known in
    let first_known : known_of first ≡ table = x.known ∙ known in
    let variables = signature_variables parameters result in
    let names = parameter_names parameters [] in
    let y : Notes (result_faults table variables result) first second = subst (λ (k : Known). Notes (result_faults k variables result) first second) first_known meets in
    let seen : newest_first first.scope.items ≡ with_parameters 0 parameters [] = x.scope ∙ (ap (λ n. with_parameters n parameters (newest_first start.scope.items)) next ∙ ap (λ xs. with_parameters 0 parameters (newest_first xs)) scope) in
    let counted : first.next ≡ length parameters = omega (arith, x.next, next) in
    let second_before : before_of second ≡ before_body old.texts.items parameters = ap (λ state. state.before) y.state ∙ before_is _ _ _ _ counted (x.texts ∙ texts) in
    let second_table : known_of second ≡ table = ap (λ state. state.known) y.state ∙ (x.known ∙ known) in
    let second_names : names_in (newest_first second.scope.items) ≡ names = ap (λ xs. names_in (newest_first xs)) y.scope ∙ (ap names_in seen ∙ names_with_parameters 0 parameters []) in
    let first_so : first.first ≡ first_with old.first (parameter_faults table variables [] parameters) = x.first ∙ (ap (λ k. first_with start.first (parameter_faults k variables (names_in (newest_first start.scope.items)) parameters)) start_known ∙ (ap (λ f. first_with f (parameter_faults table variables (names_in (newest_first start.scope.items)) parameters)) fault ∙ ap (λ xs. first_with old.first (parameter_faults table variables (names_in (newest_first xs)) parameters)) scope)) in
    let second_so : second.first ≡ first_with (first_with old.first (parameter_faults table variables [] parameters)) (result_faults table variables result) = ap (λ state. state.first) y.state ∙ ap (λ f. first_with f (result_faults table variables result)) first_so in
    record {
      known = ap (λ state. state.known) z.state ∙ second_table;
      texts = ap (λ state. state.before.texts) z.state ∙ ap (λ b. (past body b).texts) second_before;
      first =
          ap (λ state. state.first) z.state
          ∙ (ap (λ f. first_with f (faults_in (known_of second) (names_in (newest_first second.scope.items)) body)) second_so
          ∙ (ap (λ fs. first_with (first_with (first_with old.first (parameter_faults table variables [] parameters)) (result_faults table variables result)) (faults_in fs (names_in (newest_first second.scope.items)) body)) second_table
          ∙ (ap (λ ns. first_with (first_with (first_with old.first (parameter_faults table variables [] parameters)) (result_faults table variables result)) (faults_in table ns body)) second_names
          ∙ (sym (first_more (first_with old.first (parameter_faults table variables [] parameters)) (result_faults table variables result) (faults_in table names body))
          ∙ sym (first_more old.first (parameter_faults table variables [] parameters) (result_faults table variables result ++ faults_in table names body))))));
    }

-- the body of a function, from the same parts
pub body_is : (variables : List (List ℕ)) (parameters : List WrittenParameter) (faults : List Fault) (body : Written) (old start first second new : Resolver) (types : List TypeTree) (t : Tree)
    → known_of start ≡ known_of old → start.scope.items ≡ [] → start.next ≡ 0 → start.texts.items ≡ old.texts.items
    → ResolvesParameters variables parameters start first types → Notes faults first second → Resolves body second new t
    → t ≡ meant (known_of old) (with_parameters 0 parameters []) (before_body old.texts.items parameters) body
body_is variables parameters faults body old start first second new types t known scope next texts x y z =
    let table = known_of old in
    let seen : newest_first second.scope.items ≡ with_parameters 0 parameters [] =
    ap newest_first y.scope
    ∙ (x.scope ∙ (ap (λ n. with_parameters n parameters (newest_first start.scope.items)) next ∙ ap (λ xs. with_parameters 0 parameters (newest_first xs)) scope)) in
    let counted : first.next ≡ length parameters = omega (arith, x.next, next) in
    let second_before : before_of second ≡ before_body old.texts.items parameters = ap (λ state. state.before) y.state ∙ before_is _ _ _ _ counted (x.texts ∙ texts) in
    let second_table : known_of second ≡ table = ap (λ state. state.known) y.state ∙ (x.known ∙ known) in
    z.tree_is
    ∙ (ap (λ fs. meant fs (newest_first second.scope.items) (before_of second) body) second_table
    ∙ (ap (λ s. meant table s (before_of second) body) seen ∙ ap (λ b. meant table (with_parameters 0 parameters []) b body) second_before))

-- a function by its parts
pub function_is : (name : List ℕ) (at n : ℕ) (ps : List TypeTree) (r : TypeTree) (b : Tree) (function : FunctionTree)
    → name ≡ function.name → at ≡ function.at → n ≡ function.variables → ps ≡ function.parameters → r ≡ function.result → b ≡ function.body
    → (let this : FunctionTree = record { name = name; at = at; variables = n; parameters = ps; result = r; body = b } in this) ≡ function
function_is name at n ps r b function name_is at_is n_is ps_are r_is b_is =
    ap (λ x. let this : FunctionTree = record { name = x; at = at; variables = n; parameters = ps; result = r; body = b } in this) name_is
    ∙ (ap (λ x. let this : FunctionTree = record { name = function.name; at = x; variables = n; parameters = ps; result = r; body = b } in this) at_is
    ∙ (ap (λ x. let this : FunctionTree = record { name = function.name; at = function.at; variables = x; parameters = ps; result = r; body = b } in this) n_is
    ∙ (ap (λ x. let this : FunctionTree = record { name = function.name; at = function.at; variables = function.variables; parameters = x; result = r; body = b } in this) ps_are
    ∙ (ap (λ x. let this : FunctionTree = record { name = function.name; at = function.at; variables = function.variables; parameters = function.parameters; result = x; body = b } in this) r_is
    ∙ ap (λ x. let this : FunctionTree = record { name = function.name; at = function.at; variables = function.variables; parameters = function.parameters; result = function.result; body = x } in this) b_is))))
