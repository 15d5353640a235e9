-- Declared types and their constructors, and how far the loops over them have come.
use Rattle.std.proofs.Common.{◌≡◌, ℕ, ◌+◌, List, [], ◌∷◌, ◌++◌, length, nat_lt, not, cond, bytes_eq, Bool, true, false, Some, None, refl, sym, ap, ◌∙◌, arith, append_assoc, append-nil, subst}
use Rattle.std.specs.Prelude.{is_some, ◌||◌}
use Rattle.std.specs.List.{list_any, prefix_len}
use Rattle.std.proofs.lemmas.Bool.{lt-ltb, ltb-true, le-ltb, ltb-false}
use Rattle.std.proofs.lemmas.List.{length-append}
use Rattle.kk_syntax.specs.declared.program.TypeDecl.{TypeDecl}
use Rattle.kk_syntax.specs.declared.tree.Identifier.{Identifier}
use Rattle.kk_syntax.specs.Programs.{ConstructorTree}
use Rattle.kk_syntax.specs.Surface.{WrittenConstructor, WrittenDeclaration, type_declaration, function_declaration}
use Rattle.kk_syntax.specs.Types.{TypeTree}
use Rattle.kk_names.specs.declared.fault.FaultKind.TheVariants.{Twice}
use Rattle.kk_names.specs.declared.resolver.Resolver.{Resolver}
use Rattle.kk_names.specs.Faults.{twice_faults, second_names, parameter_faults, field_faults, faults_in_type, faults_in_types}
use Rattle.kk_names.specs.Methods.{known_of, State, state_of, first_with, faults_if, newest_first, noting, Notes, NotesInside, ResolvesParameters}
use Rattle.kk_names.specs.Names.{bool_type, bool_constructors, types_of, constructor_of, cases_of, constructors_of}
use Rattle.kk_names.specs.Scopes.{is_among, names_in}
use Rattle.kk_names.specs.Tables.{Known, names_of}
use Rattle.kk_names.specs.TypeNames.{place_of}
use Rattle.kk_names.proofs.ResolverStates.{first_more, grown_twice}

-- ---- type variables of a declared type

lt_next : (a b : ℕ) → nat_lt (1 + a) (1 + b) ≡ nat_lt a b
lt_next a b = by (nat_lt a b) refl
  where
    by : (t : Bool) → nat_lt a b ≡ t → nat_lt (1 + a) (1 + b) ≡ t
    by true e = lt-ltb (1 + a) (1 + b) (let less = ltb-true a b e in omega (arith, less))
    by false e = le-ltb (1 + a) (1 + b) (let less = ltb-false a b e in omega (arith, less))

prefix_within : (p : List ℕ → Bool) (xs : List (List ℕ)) → nat_lt (prefix_len (λ x. not (p x)) xs) (length xs) ≡ list_any p xs
prefix_within p [] = refl
prefix_within p (x ∷ xs) =
    ap (λ n. nat_lt (prefix_len (λ y. not (p y)) (x ∷ xs)) n) {x = length (x ∷ xs)} {y = 1 + length xs} (omega arith) ∙ by (p x) (prefix_within p xs)
  where
    by : (b : Bool) → nat_lt (prefix_len (λ y. not (p y)) xs) (length xs) ≡ list_any p xs
        → nat_lt (cond (not b) (1 + prefix_len (λ y. not (p y)) xs) 0) (1 + length xs) ≡ (b || list_any p xs)
    by true same = lt-ltb 0 (1 + length xs) (omega arith)
    by false same = lt_next (prefix_len (λ y. not (p y)) xs) (length xs) ∙ same

some_if : (b : Bool) (n : ℕ) → is_some (cond b (Some n) None) ≡ b
some_if true n = refl
some_if false n = refl

-- a name has a place where it is among the names
has_place : (names : List (List ℕ)) (name : List ℕ) → is_some (place_of names name) ≡ is_among names name
has_place names name =
    let test = λ (other : List ℕ). bytes_eq other name in
    some_if (nat_lt (prefix_len (λ x. not (test x)) names) (length names)) (prefix_len (λ x. not (test x)) names) ∙ prefix_within test names

-- of all type variables some are left
pub record NamedSoFar (old now : Resolver) (names : List (List ℕ)) (left all : List Identifier) : Type 0 where
  pub state : noting (second_names names left) (state_of now) ≡ noting (second_names [] all) (state_of old)
  pub scope : now.scope.items ≡ old.scope.items
  pub names_are : names ++ names_of left ≡ names_of all

pub named_more : (old now new : Resolver) (names : List (List ℕ)) (name : Identifier) (left all : List Identifier) (is_second : Bool)
    → NamedSoFar old now names (name ∷ left) all → is_second ≡ is_some (place_of names name.name)
    → Notes (faults_if is_second Twice name) now new → NamedSoFar old new (names ++ name.name ∷ []) left all
named_more old now new names name left all is_second so_far second notes =
    let s : State = state_of now in
    let more = names ++ name.name ∷ [] in
    record {
      state =
          ap (noting (second_names more left)) notes.state
          ∙ (ap (λ b. noting (second_names more left) (noting (faults_if b Twice name) s)) (second ∙ has_place names name.name)
          ∙ (grown_twice s s.before s.before (twice_faults names name) (second_names more left) ∙ so_far.state));
      scope = notes.scope ∙ so_far.scope;
      names_are = append_assoc names (name.name ∷ []) (names_of left) ∙ so_far.names_are;
    }

pub named_done : (old now : Resolver) (names : List (List ℕ)) (all : List Identifier) → NamedSoFar old now names [] all
    → Notes (second_names [] all) old now × (names ≡ names_of all)
named_done old now names all so_far =
    (record { state = so_far.state; scope = so_far.scope }, sym (append-nil names) ∙ so_far.names_are)

-- ---- constructors of a type

-- a constructor by its parts
pub constructor_is : (name : List ℕ) (at number place : ℕ) (fields : List TypeTree) (constructor : ConstructorTree)
    → name ≡ constructor.name → at ≡ constructor.at → number ≡ constructor.of_type → None ≡ constructor.arguments
    → place ≡ constructor.tag → fields ≡ constructor.fields
    → (let this : ConstructorTree = record { name = name; at = at; of_type = number; arguments = None; tag = place; fields = fields } in this)
    ≡ constructor
constructor_is name at number place fields constructor name_is at_is number_is arguments_are place_is fields_are =
    ap (λ x. let this : ConstructorTree = record { name = x; at = at; of_type = number; arguments = None; tag = place; fields = fields } in this) name_is
    ∙ (ap (λ x. let this : ConstructorTree = record { name = constructor.name; at = x; of_type = number; arguments = None; tag = place; fields = fields } in this) at_is
    ∙ (ap (λ x. let this : ConstructorTree = record { name = constructor.name; at = constructor.at; of_type = x; arguments = None; tag = place; fields = fields } in this) number_is
    ∙ (ap (λ x. let this : ConstructorTree = record { name = constructor.name; at = constructor.at; of_type = constructor.of_type; arguments = x; tag = place; fields = fields } in this) arguments_are
    ∙ (ap (λ x. let this : ConstructorTree = record { name = constructor.name; at = constructor.at; of_type = constructor.of_type; arguments = constructor.arguments; tag = x; fields = fields } in this) place_is
    ∙ ap (λ x. let this : ConstructorTree = record { name = constructor.name; at = constructor.at; of_type = constructor.of_type; arguments = constructor.arguments; tag = constructor.tag; fields = x } in this) fields_are))))

-- fields are resolved where no variable is seen
pub fields_noted : (variables : List (List ℕ)) (fields : _) (old start new : Resolver) (types : List TypeTree)
    → known_of start ≡ known_of old → start.scope.items ≡ [] → start.texts.items ≡ old.texts.items → start.first ≡ old.first
    → ResolvesParameters variables fields start new types → NotesInside (parameter_faults (known_of old) variables [] fields) old new
fields_noted variables fields old start new types known scope texts first resolves =
    record {
      known = resolves.known ∙ known;
      first =
          resolves.first
          ∙ (ap (λ f. first_with f (parameter_faults (known_of start) variables (names_in (newest_first start.scope.items)) fields)) first
          ∙ (ap (λ k. first_with old.first (parameter_faults k variables (names_in (newest_first start.scope.items)) fields)) known
          ∙ ap (λ xs. first_with old.first (parameter_faults (known_of old) variables (names_in (newest_first xs)) fields)) scope));
      texts = resolves.texts ∙ texts;
    }

-- of all constructors of a type some are left, of which the next has that place
pub record CasesSoFar (variables : List (List ℕ)) (number : ℕ) (old now : Resolver) (place : ℕ) (left all : List WrittenConstructor)
    (before made : List ConstructorTree) : Type 0 where
  pub known : known_of now ≡ known_of old
  pub first : first_with now.first (field_faults (known_of old) variables left) ≡ first_with old.first (field_faults (known_of old) variables all)
  pub texts : now.texts.items ≡ old.texts.items
  pub made_are : made ++ cases_of (known_of old) variables number place left ≡ before ++ cases_of (known_of old) variables number 0 all

pub cases_more : (variables : List (List ℕ)) (number : ℕ) (old now new : Resolver) (place : ℕ) (case : WrittenConstructor)
    (left all : List WrittenConstructor) (before made : List ConstructorTree) (constructor : ConstructorTree)
    → CasesSoFar variables number old now place (case ∷ left) all before made
    → NotesInside (parameter_faults (known_of now) variables [] case.fields) now new
    → constructor ≡ constructor_of (known_of now) variables number place case
    → CasesSoFar variables number old new (place + 1) left all before (made ++ constructor ∷ [])
cases_more variables number old now new place case left all before made constructor so_far notes is =
    let table = known_of old in
    let here = parameter_faults table variables [] case.fields in
    record {
      known = notes.known ∙ so_far.known;
      first =
          ap (λ f. first_with f (field_faults table variables left))
          (notes.first ∙ ap (λ k. first_with now.first (parameter_faults k variables [] case.fields)) so_far.known)
          ∙ (sym (first_more now.first here (field_faults table variables left)) ∙ so_far.first);
      texts = notes.texts ∙ so_far.texts;
      made_are =
          append_assoc made (constructor ∷ []) (cases_of table variables number (place + 1) left)
          ∙ (ap (λ c. made ++ c ∷ cases_of table variables number (place + 1) left)
          (is ∙ ap (λ k. constructor_of k variables number place case) so_far.known)
          ∙ so_far.made_are);
    }

pub cases_done : (variables : List (List ℕ)) (number : ℕ) (old now : Resolver) (place : ℕ) (left all : List WrittenConstructor)
    (before made : List ConstructorTree) → left ≡ [] → CasesSoFar variables number old now place left all before made
    → NotesInside (field_faults (known_of old) variables all) old now × (made ≡ before ++ cases_of (known_of old) variables number 0 all)
cases_done variables number old now place left all before made none known =
    let so_far : CasesSoFar variables number old now place [] all before made =
    subst (λ cs. CasesSoFar variables number old now place cs all before made) none known in
    (record { known = so_far.known; first = so_far.first; texts = so_far.texts }, sym (append-nil made) ∙ so_far.made_are)

-- ---- one declared type

-- a declared type by its parts
pub declaration_is : (name : List ℕ) (at variables first count : ℕ) (declaration : TypeDecl)
    → name ≡ declaration.name → at ≡ declaration.at → variables ≡ declaration.variables → first ≡ declaration.first_constructor
    → count ≡ declaration.constructor_count
    → (let this : TypeDecl = record { name = name; at = at; variables = variables; first_constructor = first; constructor_count = count } in this)
    ≡ declaration
declaration_is name at variables first count declaration name_is at_is variables_are first_is count_is =
    ap (λ x. let this : TypeDecl = record { name = x; at = at; variables = variables; first_constructor = first; constructor_count = count } in this) name_is
    ∙ (ap (λ x. let this : TypeDecl = record { name = declaration.name; at = x; variables = variables; first_constructor = first; constructor_count = count } in this) at_is
    ∙ (ap (λ x. let this : TypeDecl = record { name = declaration.name; at = declaration.at; variables = x; first_constructor = first; constructor_count = count } in this) variables_are
    ∙ (ap (λ x. let this : TypeDecl = record { name = declaration.name; at = declaration.at; variables = declaration.variables; first_constructor = x; constructor_count = count } in this) first_is
    ∙ ap (λ x. let this : TypeDecl = record { name = declaration.name; at = declaration.at; variables = declaration.variables; first_constructor = declaration.first_constructor; constructor_count = x } in this) count_is)))

-- its type variables, and then its constructors
pub type_noted : (name : Identifier) (parameters : List Identifier) (cases : List WrittenConstructor) (old named new : Resolver)
    → Notes (second_names [] parameters) old named → NotesInside (field_faults (known_of named) (names_of parameters) cases) named new
    → NotesInside (faults_in_type (known_of old) (type_declaration name parameters cases)) old new
type_noted name parameters cases old named new notes inside =
    let same : known_of named ≡ known_of old = ap (λ state. state.known) notes.state in
    let seconds = second_names [] parameters in
    record {
      known = inside.known ∙ same;
      first =
          inside.first
          ∙ (ap (λ k. first_with named.first (field_faults k (names_of parameters) cases)) same
          ∙ (ap (λ f. first_with f (field_faults (known_of old) (names_of parameters) cases)) (ap (λ state. state.first) notes.state)
          ∙ sym (first_more old.first seconds (field_faults (known_of old) (names_of parameters) cases))));
      texts = inside.texts ∙ ap (λ state. state.before.texts) notes.state;
    }

-- its constructors
pub constructors_made : (name : Identifier) (parameters : List Identifier) (cases : List WrittenConstructor) (known here : Known)
    (variables : List (List ℕ)) (number n : ℕ) (before made : List ConstructorTree)
    → here ≡ known → variables ≡ names_of parameters → number ≡ n → made ≡ before ++ cases_of here variables number 0 cases
    → made ≡ before ++ constructors_of known n (type_declaration name parameters cases ∷ [])
constructors_made name parameters cases known here variables number n before made same named numbered is =
    is
    ∙ (ap (λ k. before ++ cases_of k variables number 0 cases) same
    ∙ (ap (λ vs. before ++ cases_of known vs number 0 cases) named
    ∙ (ap (λ m. before ++ cases_of known (names_of parameters) m 0 cases) numbered
    ∙ ap (λ cs. before ++ cs) (sym (append-nil (cases_of known (names_of parameters) n 0 cases))))))

-- ---- all declared types

-- of all declarations some are left
pub record TypesSoFar (old now : Resolver) (left all : List WrittenDeclaration) (types : List TypeDecl)
    (constructors : List ConstructorTree) : Type 0 where
  pub known : known_of now ≡ known_of old
  pub first : first_with now.first (faults_in_types (known_of old) left) ≡ first_with old.first (faults_in_types (known_of old) all)
  pub texts : now.texts.items ≡ old.texts.items
  pub types_are : types ++ types_of (length constructors) left ≡ bool_type ∷ types_of 2 all
  pub constructors_are : constructors ++ constructors_of (known_of old) (length types) left ≡ bool_constructors ++ constructors_of (known_of old) 1 all

cases_count : (known : _) (variables : List (List ℕ)) (number place : ℕ) (cases : List WrittenConstructor)
    → length (cases_of known variables number place cases) ≡ length cases
cases_count known variables number place [] = refl
cases_count known variables number place (case ∷ cases) = omega (arith, cases_count known variables number (place + 1) cases)

pub types_more : (old now new : Resolver) (name : Identifier) (parameters : List Identifier) (cases : List WrittenConstructor)
    (left all : List WrittenDeclaration) (types types' : List TypeDecl) (constructors constructors' : List ConstructorTree)
    → TypesSoFar old now (type_declaration name parameters cases ∷ left) all types constructors
    → types' ≡ types ++ types_of (length constructors) (type_declaration name parameters cases ∷ [])
    → constructors' ≡ constructors ++ constructors_of (known_of now) (length types) (type_declaration name parameters cases ∷ [])
    → NotesInside (faults_in_type (known_of now) (type_declaration name parameters cases)) now new
    → TypesSoFar old new left all types' constructors'
types_more old now new name parameters cases left all types types' constructors constructors' so_far types_are constructors_are notes =
    let table = known_of old in
    let d : WrittenDeclaration = type_declaration name parameters cases in
    let made = cases_of table (names_of parameters) (length types) 0 cases in
    let own = types_of (length constructors) (d ∷ []) in
    let more : constructors' ≡ constructors ++ made =
    constructors_are ∙ (ap (λ k. constructors ++ constructors_of k (length types) (d ∷ [])) so_far.known ∙ ap (λ cs. constructors ++ cs) (append-nil made)) in
    let count : length constructors' ≡ length constructors + length cases =
    ap length more ∙ (length-append constructors made ∙ ap (λ n. length constructors + n) (cases_count table (names_of parameters) (length types) 0 cases)) in
    let longer : length types' ≡ length types + 1 = ap length types_are ∙ length-append types own in
    record {
      known = notes.known ∙ so_far.known;
      first =
          ap (λ f. first_with f (faults_in_types table left))
          (notes.first ∙ ap (λ k. first_with now.first (faults_in_type k d)) so_far.known)
          ∙ (sym (first_more now.first (faults_in_type table d) (faults_in_types table left)) ∙ so_far.first);
      texts = notes.texts ∙ so_far.texts;
      types_are =
          ap (λ n. types' ++ types_of n left) count
          ∙ (ap (λ ts. ts ++ types_of (length constructors + length cases) left) types_are
          ∙ (append_assoc types own (types_of (length constructors + length cases) left) ∙ so_far.types_are));
      constructors_are =
          ap (λ n. constructors' ++ constructors_of table n left) longer
          ∙ (ap (λ cs. cs ++ constructors_of table (length types + 1) left) more
          ∙ (append_assoc constructors made (constructors_of table (length types + 1) left) ∙ so_far.constructors_are));
    }

-- a declared function is no type
pub function_passed : (old now : Resolver) (name : Identifier) (parameters : _) (effects : _) (result : _) (body : _)
    (left all : List WrittenDeclaration) (types : List TypeDecl) (constructors : List ConstructorTree)
    → TypesSoFar old now (function_declaration name parameters effects result body ∷ left) all types constructors
    → TypesSoFar old now left all types constructors
function_passed old now name parameters effects result body left all types constructors so_far =
    record {
      known = so_far.known;
      first = so_far.first;
      texts = so_far.texts;
      types_are = so_far.types_are;
      constructors_are = so_far.constructors_are;
    }

pub types_done : (old now : Resolver) (all : List WrittenDeclaration) (types : List TypeDecl) (constructors : List ConstructorTree)
    → TypesSoFar old now [] all types constructors
    → (types ≡ bool_type ∷ types_of 2 all) × (constructors ≡ bool_constructors ++ constructors_of (known_of old) 1 all)
    × NotesInside (faults_in_types (known_of old) all) old now
types_done old now all types constructors so_far = (
  sym (append-nil types) ∙ so_far.types_are,
  sym (append-nil constructors) ∙ so_far.constructors_are,
  record { known = so_far.known; first = so_far.first; texts = so_far.texts },
)
