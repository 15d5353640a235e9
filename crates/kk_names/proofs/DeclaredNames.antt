-- Names that are declared, one kind after the other, and how far the loops over them have come.
use Rattle.std.proofs.Common.{◌≡◌, ℕ, ◌+◌, List, [], ◌∷◌, ◌++◌, length, map, Bool, Option, None, refl, sym, ap, ◌∙◌, append_assoc, append-nil}
use Rattle.std.proofs.lemmas.List.{map-append}
use Rattle.kk_syntax.specs.declared.program.Form.{Form}
use Rattle.kk_syntax.specs.declared.tree.Identifier.{Identifier}
use Rattle.kk_syntax.specs.Surface.{WrittenConstructor, WrittenDeclaration, type_declaration, function_declaration}
use Rattle.kk_names.specs.declared.fault.Fault.{Fault}
use Rattle.kk_names.specs.declared.fault.FaultKind.TheVariants.{Twice}
use Rattle.kk_names.specs.declared.resolver.Resolver.{Resolver}
use Rattle.kk_names.specs.declared.table.Declared.{Declared}
use Rattle.kk_names.specs.declared.table.DeclaredType.{DeclaredType}
use Rattle.kk_names.specs.Faults.{twice_faults, second_names, faults_in_types, faults_in_functions, faults_of}
use Rattle.kk_names.specs.Methods.{known_of, State, before_of, state_of, first_with, faults_if, newest_first, Notes, NotesInside, knowing, with_types, with_constructors, with_functions, behind_types, behind_cases, behind_constructors, behind_functions, behind_declarations}
use Rattle.kk_names.specs.Scopes.{is_among}
use Rattle.kk_names.specs.Tables.{Known, known_in, built_in_types, built_in_constructors, built_in_functions, means, means_type, types_from, cases_from, constructors_from, functions_from, names_of, type_names, constructor_names, function_names}
use Rattle.kk_names.proofs.ResolverStates.{first_more, known_is, state_is}

-- ---- one name

-- a name was noted where an earlier one is the same, and then it was declared
pub name_declared : (old noted new : Resolver) (name : Identifier) (names : List (List ℕ)) (is_second : Bool) (known : Known)
    → is_second ≡ is_among names name.name → Notes (faults_if is_second Twice name) old noted
    → known_of new ≡ known → new.scope.items ≡ noted.scope.items → before_of new ≡ before_of noted → new.first ≡ noted.first
    → state_of new ≡ knowing (state_of old) known (second_names names (name ∷ []))
name_declared old noted new name names is_second known second notes known_is scope before first =
    state_is _ _ _ _ _ _ _ _ known_is
    (ap newest_first (scope ∙ notes.scope))
    (before ∙ ap (λ state. state.before) notes.state)
    (first ∙ (ap (λ state. state.first) notes.state
    ∙ (ap (λ b. first_with old.first (faults_if b Twice name)) second
    ∙ ap (first_with old.first) (sym (append-nil (twice_faults names name))))))

-- a table is one name longer
pub types_longer : (old noted : Known) (all : List DeclaredType) (name name' : List ℕ) (number : Option ℕ) (count count' : ℕ)
    → noted ≡ old → all ≡ noted.types ++ means_type name number count ∷ [] → name ≡ name' → count ≡ count'
    → (let k : Known = record { types = all; constructors = noted.constructors; functions = noted.functions } in k)
    ≡ with_types old (means_type name' number count' ∷ [])
types_longer old noted all name name' number count count' same is name_is count_is =
    ap (λ ts. let k : Known = record { types = ts; constructors = noted.constructors; functions = noted.functions } in k) is
    ∙ (ap (λ k. with_types k (means_type name number count ∷ [])) same
    ∙ (ap (λ n. with_types old (means_type n number count ∷ [])) name_is ∙ ap (λ n. with_types old (means_type name' number n ∷ [])) count_is))

pub constructors_longer : (old noted : Known) (all : List Declared) (name name' : List ℕ) (form : Form) (count count' : ℕ)
    → noted ≡ old → all ≡ noted.constructors ++ means name form count ∷ [] → name ≡ name' → count ≡ count'
    → (let k : Known = record { types = noted.types; constructors = all; functions = noted.functions } in k)
    ≡ with_constructors old (means name' form count' ∷ [])
constructors_longer old noted all name name' form count count' same is name_is count_is =
    ap (λ cs. let k : Known = record { types = noted.types; constructors = cs; functions = noted.functions } in k) is
    ∙ (ap (λ k. with_constructors k (means name form count ∷ [])) same
    ∙ (ap (λ n. with_constructors old (means n form count ∷ [])) name_is ∙ ap (λ n. with_constructors old (means name' form n ∷ [])) count_is))

pub functions_longer : (old noted : Known) (all : List Declared) (name name' : List ℕ) (form : Form) (count count' : ℕ)
    → noted ≡ old → all ≡ noted.functions ++ means name form count ∷ [] → name ≡ name' → count ≡ count'
    → (let k : Known = record { types = noted.types; constructors = noted.constructors; functions = all } in k)
    ≡ with_functions old (means name' form count' ∷ [])
functions_longer old noted all name name' form count count' same is name_is count_is =
    ap (λ fs. let k : Known = record { types = noted.types; constructors = noted.constructors; functions = fs } in k) is
    ∙ (ap (λ k. with_functions k (means name form count ∷ [])) same
    ∙ (ap (λ n. with_functions old (means n form count ∷ [])) name_is ∙ ap (λ n. with_functions old (means name' form n ∷ [])) count_is))

-- ---- names, and then others

second_more : (names : List (List ℕ)) (xs ys : List Identifier)
    → second_names names (xs ++ ys) ≡ second_names names xs ++ second_names (names ++ names_of xs) ys
second_more names [] ys = ap (λ ns. second_names ns ys) (sym (append-nil names))
second_more names (x ∷ xs) ys =
    let more = names ++ x.name ∷ [] in
    ap (λ fs. twice_faults names x ++ fs)
    (second_more more xs ys ∙ ap (λ ns. second_names more xs ++ second_names ns ys) (append_assoc names (x.name ∷ []) (names_of xs)))
    ∙ sym (append_assoc (twice_faults names x) (second_names more xs) (second_names (names ++ names_of (x ∷ xs)) ys))

-- a table of names is put into what is known; it is made longer by a first part, and then by a second
declared_twice : {A : Type 0} (name : A → List ℕ) (put : List A → Known) (state : State) (table first second : List A)
    (xs ys : List Identifier) → map name first ≡ names_of xs
    → knowing (knowing state (put (table ++ first)) (second_names (map name table) xs))
    (put ((table ++ first) ++ second)) (second_names (map name (table ++ first)) ys)
    ≡ knowing state (put (table ++ (first ++ second))) (second_names (map name table) (xs ++ ys))
declared_twice name put state table first second xs ys same =
    let names = map name table in
    let here = second_names names xs in
    let known = put (table ++ (first ++ second)) in
    ap (λ all. knowing (knowing state (put (table ++ first)) here) (put all) (second_names (map name (table ++ first)) ys))
    (append_assoc table first second)
    ∙ (ap (λ f. let s : State = record { known = known; scope = state.scope; before = state.before; first = f } in s)
    (sym (first_more state.first here (second_names (map name (table ++ first)) ys)))
    ∙ ap (knowing state known)
    (ap (λ ns. here ++ second_names ns ys) (map-append name table first ∙ ap (λ ns. names ++ ns) same) ∙ sym (second_more names xs ys)))

pub types_more : (state : State) (number : ℕ) (name : Identifier) (parameters : List Identifier) (cases : List WrittenConstructor)
    (left : List WrittenDeclaration)
    → behind_types (number + 1) left (behind_types number (type_declaration name parameters cases ∷ []) state)
    ≡ behind_types number (type_declaration name parameters cases ∷ left) state
types_more state number name parameters cases left =
    declared_twice (λ d. d.name)
    (λ all. let k : Known = record { types = all; constructors = state.known.constructors; functions = state.known.functions } in k)
    state state.known.types (types_from number (type_declaration name parameters cases ∷ [])) (types_from (number + 1) left)
    (name ∷ []) (type_names left) refl

pub cases_more : (state : State) (number : ℕ) (case : WrittenConstructor) (left : List WrittenConstructor)
    → behind_cases (number + 1) left (behind_cases number (case ∷ []) state) ≡ behind_cases number (case ∷ left) state
cases_more state number case left =
    declared_twice (λ d. d.name)
    (λ all. let k : Known = record { types = state.known.types; constructors = all; functions = state.known.functions } in k)
    state state.known.constructors (cases_from number (case ∷ [])) (cases_from (number + 1) left)
    (case.name ∷ []) (map (λ c. c.name) left) refl

cases_named : (number : ℕ) (cases : List WrittenConstructor) → map (λ d. d.name) (cases_from number cases) ≡ names_of (map (λ c. c.name) cases)
cases_named number [] = refl
cases_named number (case ∷ cases) = ap (λ names. case.name.name ∷ names) (cases_named (number + 1) cases)

pub constructors_more : (state : State) (number : ℕ) (name : Identifier) (parameters : List Identifier)
    (cases : List WrittenConstructor) (left : List WrittenDeclaration)
    → behind_constructors (number + length cases) left (behind_cases number cases state)
    ≡ behind_constructors number (type_declaration name parameters cases ∷ left) state
constructors_more state number name parameters cases left =
    declared_twice (λ d. d.name)
    (λ all. let k : Known = record { types = state.known.types; constructors = all; functions = state.known.functions } in k)
    state state.known.constructors (cases_from number cases) (constructors_from (number + length cases) left)
    (map (λ c. c.name) cases) (constructor_names left) (cases_named number cases)

pub functions_more : (state : State) (number : ℕ) (name : Identifier) (parameters : _) (effects : _) (result : _) (body : _)
    (left : List WrittenDeclaration)
    → behind_functions (number + 1) left (behind_functions number (function_declaration name parameters effects result body ∷ []) state)
    ≡ behind_functions number (function_declaration name parameters effects result body ∷ left) state
functions_more state number name parameters effects result body left =
    declared_twice (λ d. d.name)
    (λ all. let k : Known = record { types = state.known.types; constructors = state.known.constructors; functions = all } in k)
    state state.known.functions (functions_from number (function_declaration name parameters effects result body ∷ []))
    (functions_from (number + 1) left) (name ∷ []) (function_names left) refl

-- ---- all names

-- what a resolver knows that began with what is built in, and which fault is its first
module _ (start declared : Resolver) (ds : List WrittenDeclaration) (types : start.types.items ≡ built_in_types)
    (constructors : start.constructors.items ≡ built_in_constructors) (functions : start.functions.items ≡ built_in_functions)
    (texts : start.texts.items ≡ []) (none : start.first ≡ None) (is : state_of declared ≡ behind_declarations ds (state_of start)) where
  begun : State
  begun = record {
    known = record { types = built_in_types; constructors = built_in_constructors; functions = built_in_functions };
    scope = newest_first start.scope.items;
    before = before_of start;
    first = None;
  }

  begun_so : state_of declared ≡ behind_declarations ds begun
  unfolding begun
  begun_so =
      is
      ∙ ap (behind_declarations ds) (state_is _ _ _ _ _ _ _ _
      (known_is _ _ _ _ _ _ types constructors functions) refl refl none)

  pub all_known : known_of declared ≡ known_in ds
  unfolding begun
  all_known = ap (λ state. state.known) begun_so

  pub no_texts : declared.texts.items ≡ []
  no_texts = ap (λ state. state.before.texts) is ∙ texts

  pub all_noted : (typed : Resolver) (last : Option Fault) → NotesInside (faults_in_types (known_of declared) ds) declared typed
      → last ≡ first_with typed.first (faults_in_functions (known_of typed) ds) → last ≡ first_with None (faults_of ds)
  unfolding begun
  all_noted typed last inside last_is =
      let known = known_in ds in
      let seconds_of_types = second_names (map (λ d. d.name) built_in_types) (type_names ds) in
      let seconds_of_constructors = second_names (map (λ d. d.name) built_in_constructors) (constructor_names ds) in
      let seconds_of_functions = second_names (map (λ d. d.name) built_in_functions) (function_names ds) in
      let in_types = faults_in_types known ds in
      let in_functions = faults_in_functions known ds in
      let first_so : declared.first ≡ first_with (first_with (first_with None seconds_of_types) seconds_of_constructors) seconds_of_functions =
      ap (λ state. state.first) begun_so in
      let typed_first : typed.first ≡ first_with declared.first in_types =
      inside.first ∙ ap (λ k. first_with declared.first (faults_in_types k ds)) all_known in
      last_is
      ∙ (ap (λ k. first_with typed.first (faults_in_functions k ds)) (inside.known ∙ all_known)
      ∙ (ap (λ f. first_with f in_functions) typed_first
      ∙ (sym (first_more declared.first in_types in_functions)
      ∙ (ap (λ f. first_with f (in_types ++ in_functions)) first_so
      ∙ (sym (first_more (first_with (first_with None seconds_of_types) seconds_of_constructors) seconds_of_functions (in_types ++ in_functions))
      ∙ (sym (first_more (first_with None seconds_of_types) seconds_of_constructors (seconds_of_functions ++ (in_types ++ in_functions)))
      ∙ sym (first_more None seconds_of_types (seconds_of_constructors ++ (seconds_of_functions ++ (in_types ++ in_functions))))))))))
