-- Types, and their arguments.
use Rattle.std.proofs.Common.{◌≡◌, ℕ, List, [], ◌∷◌, ◌++◌, length, map, Option, refl, sym, ap, ◌∙◌, arith}
use Rattle.std.proofs.lemmas.List.{length-map}
use Rattle.kk_syntax.specs.declared.program.Ty.{Ty}
use Rattle.kk_syntax.specs.declared.tree.Identifier.{Identifier}
use Rattle.kk_syntax.specs.Surface as written
use Rattle.kk_syntax.specs.Surface.{WrittenType, WrittenTypes}
use Rattle.kk_syntax.specs.Types.{TypeTree, TypeTrees, no_type, type, types_of, type_tree}
use Rattle.kk_names.specs.declared.resolver.Resolver.{Resolver}
use Rattle.kk_names.specs.declared.table.TypeMeaning.{TypeMeaning}
use Rattle.kk_names.specs.Faults.{named_faults, type_faults, types_faults, types_count}
use Rattle.kk_names.specs.Methods.{known_of, State, state_of, noting, Notes, MeansType, MeansTypes}
use Rattle.kk_names.specs.Tables.{Known, type_in}
use Rattle.kk_names.specs.TypeNames.{applied_type, type_meant, types_meant}
use Rattle.kk_names.proofs.ResolverStates.{grown_twice}

-- types, and those behind them
abbrev before : List TypeTree → TypeTrees → TypeTrees
before [] rest = rest
before (t ∷ ts) rest = type t (before ts rest)

before_one_more : (ts : List TypeTree) (t : TypeTree) (rest : TypeTrees) → before (ts ++ t ∷ []) rest ≡ before ts (type t rest)
before_one_more [] t rest = refl
before_one_more (first ∷ ts) t rest = ap (type first) (before_one_more ts t rest)

before_none : (ts : List TypeTree) → before ts no_type ≡ types_of ts
before_none [] = refl
before_none (t ∷ ts) = ap (type t) (before_none ts)

abbrev noting_types : List (List ℕ) → WrittenTypes → State → State
noting_types variables ws state = noting (types_faults state.known variables ws) state

-- of all types some are left
pub record TypesSoFar (variables : List (List ℕ)) (old now : Resolver) (left all : WrittenTypes)
    (trees : List TypeTree) : Type 0 where
  pub state : noting_types variables left (state_of now) ≡ noting_types variables all (state_of old)
  pub scope : now.scope.items ≡ old.scope.items
  pub trees_are : before trees (types_meant (known_of now) variables left) ≡ types_meant (known_of old) variables all

pub types_more : (variables : List (List ℕ)) (old now new : Resolver) (w : WrittenType) (left all : WrittenTypes)
    (trees : List TypeTree) (t : TypeTree)
    → TypesSoFar variables old now (written.type w left) all trees → MeansType variables w now new t
    → TypesSoFar variables old new left all (trees ++ t ∷ [])
types_more variables old now new w left all trees t so_far one =
    let s : State = state_of now in
    record {
      state =
          ap (noting_types variables left) one.notes.state
          ∙ (grown_twice s s.before s.before (type_faults s.known variables w) (types_faults s.known variables left) ∙ so_far.state);
      scope = one.notes.scope ∙ so_far.scope;
      trees_are =
          before_one_more trees t (types_meant (known_of new) variables left)
          ∙ (ap (λ x. before trees (type x (types_meant (known_of new) variables left))) one.tree_is
          ∙ (ap (λ state. before trees (type (type_meant s.known variables w) (types_meant state.known variables left))) one.notes.state
          ∙ so_far.trees_are));
    }

pub types_done : (variables : List (List ℕ)) (old now : Resolver) (all : WrittenTypes) (trees : List TypeTree)
    → TypesSoFar variables old now written.no_type all trees → MeansTypes variables all old now (types_of trees)
types_done variables old now all trees so_far =
    record {
      notes = record { state = so_far.state; scope = so_far.scope };
      trees_are = sym (before_none trees) ∙ so_far.trees_are;
    }

-- as many types as are written
count_is : (known : Known) (variables : List (List ℕ)) (ws : WrittenTypes) (ts : List TypeTree) → types_of ts ≡ types_meant known variables ws
    → length ts ≡ types_count ws
count_is known variables written.no_type [] is = refl
count_is known variables written.no_type (t ∷ ts) is = absurd (cc is)
count_is known variables (written.type w ws) [] is = absurd (cc is)
count_is known variables (written.type w ws) (t ∷ ts) is =
    let rest : types_of ts ≡ types_meant known variables ws = cc is in
    let same : length ts ≡ types_count ws = count_is known variables ws ts rest in
    omega arith

pub named_resolved : (variables : List (List ℕ)) (name : Identifier) (ws : WrittenTypes) (meaning : Option TypeMeaning)
    (old between new : Resolver) (arguments : List Ty) (count : ℕ) (t : TypeTree)
    → MeansTypes variables ws old between (types_of (map type_tree arguments)) → meaning ≡ type_in between.types.items name.name
    → Notes (named_faults meaning name count) between new → count ≡ length arguments
    → t ≡ applied_type meaning (types_of (map type_tree arguments))
    → MeansType variables (written.named name ws) old new t
named_resolved variables name ws meaning old between new arguments count t all means notes counted made =
    let s : State = state_of old in
    let faults = types_faults s.known variables ws in
    let here : meaning ≡ type_in old.types.items name.name = means ∙ ap (λ state. type_in state.known.types name.name) all.notes.state in
    let counted_so : count ≡ types_count ws =
    counted ∙ (sym (length-map arguments type_tree) ∙ count_is s.known variables ws (map type_tree arguments) all.trees_are) in
    record {
      notes = record {
        state =
            notes.state
            ∙ (ap (noting (named_faults meaning name count)) all.notes.state
            ∙ (grown_twice s s.before s.before faults (named_faults meaning name count)
            ∙ (ap (λ m. noting (faults ++ named_faults m name count) s) here
            ∙ ap (λ n. noting (faults ++ named_faults (type_in old.types.items name.name) name n) s) counted_so)));
        scope = notes.scope ∙ all.notes.scope;
      };
      tree_is = made ∙ (ap (λ m. applied_type m (types_of (map type_tree arguments))) here
          ∙ ap (applied_type (type_in old.types.items name.name)) all.trees_are);
    }
