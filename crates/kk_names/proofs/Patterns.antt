-- Patterns, and the variables that they bind.
use Rattle.std.proofs.Common.{◌≡◌, ℕ, List, [], ◌∷◌, ◌++◌, length, map, Option, refl, sym, ap, ◌∙◌, arith}
use Rattle.std.specs.Prelude.{is_some}
use Rattle.std.proofs.lemmas.List.{length-map}
use Rattle.kk_syntax.specs.declared.program.Pat.{Pat}
use Rattle.kk_syntax.specs.declared.tree.Identifier.{Identifier}
use Rattle.kk_syntax.specs.Patterns as program
use Rattle.kk_syntax.specs.Patterns.{Pattern, Patterns, no_part, part, patterns_of, pattern_tree}
use Rattle.kk_syntax.specs.Surface as written
use Rattle.kk_syntax.specs.Surface.{WrittenPattern, WrittenPatterns}
use Rattle.kk_names.specs.declared.fault.FaultKind.TheVariants.{Twice}
use Rattle.kk_names.specs.declared.resolver.Resolver.{Resolver}
use Rattle.kk_names.specs.declared.table.Callee.{Callee}
use Rattle.kk_names.specs.Expressions.{constructed, pattern_meant, parts_meant}
use Rattle.kk_names.specs.Faults.{use_faults, pattern_faults, parts_faults, parts_count}
use Rattle.kk_names.specs.Methods.{known_of, State, before_of, state_of, grown, noting}
use Rattle.kk_names.specs.Methods.{first_with, newest_first, faults_if, Notes, ResolvesPattern, ResolvesPatterns}
use Rattle.kk_names.specs.Scopes.{Scope, binding, names_in, number_in, with_variable, with_pattern}
use Rattle.kk_names.specs.Scopes.{with_parts, pattern_names, parts_names, Before, past_pattern, past_parts}
use Rattle.kk_names.specs.Tables.{Known, meaning_in}
use Rattle.kk_names.proofs.ResolverStates.{grown_twice, state_is}
use Rattle.kk_names.proofs.Tables.{is_seen}

-- the names of the variables of a pattern
mutual
  pub names_with_pattern : (p : WrittenPattern) (b : Before) (scope : Scope)
      → names_in (with_pattern p b scope) ≡ pattern_names p (names_in scope)
  names_with_pattern written.anything b scope = refl
  names_with_pattern (written.pattern_variable name) b scope = refl
  names_with_pattern (written.exactly value) b scope = refl
  names_with_pattern (written.constructor name parts) b scope = names_with_parts parts b scope

  names_with_parts : (ps : WrittenPatterns) (b : Before) (scope : Scope)
      → names_in (with_parts ps b scope) ≡ parts_names ps (names_in scope)
  names_with_parts written.no_part b scope = refl
  names_with_parts (written.part first rest) b scope =
      names_with_parts rest (past_pattern first b) (with_pattern first b scope)
      ∙ ap (parts_names rest) (names_with_pattern first b scope)

-- ---- how far the loop over patterns has come

-- patterns, and those behind them
abbrev before : List Pattern → Patterns → Patterns
before [] rest = rest
before (t ∷ ts) rest = part t (before ts rest)

before_one_more : (ts : List Pattern) (t : Pattern) (rest : Patterns) → before (ts ++ t ∷ []) rest ≡ before ts (part t rest)
before_one_more [] t rest = refl
before_one_more (first ∷ ts) t rest = ap (part first) (before_one_more ts t rest)

before_none : (ts : List Pattern) → before ts no_part ≡ patterns_of ts
before_none [] = refl
before_none (t ∷ ts) = ap (part t) (before_none ts)

abbrev behind_parts : WrittenPatterns → List (List ℕ) → State → State
behind_parts ps names state = grown state (past_parts ps state.before) (parts_faults state.known names ps)

-- of all patterns some are left
pub record PatternsSoFar (old now : Resolver) (left all : WrittenPatterns) (fresh bound : Scope)
    (trees : List Pattern) : Type 0 where
  pub state : behind_parts left (names_in bound) (state_of now) ≡ behind_parts all (names_in fresh) (state_of old)
  pub scope : now.scope.items ≡ old.scope.items
  pub bound_is : with_parts left (before_of now) bound ≡ with_parts all (before_of old) fresh
  pub trees_are : before trees (parts_meant (known_of now) (before_of now) left) ≡ parts_meant (known_of old) (before_of old) all

pub patterns_more : (old now new : Resolver) (p : WrittenPattern) (left all : WrittenPatterns) (fresh bound more : Scope)
    (trees : List Pattern) (t : Pattern)
    → PatternsSoFar old now (written.part p left) all fresh bound trees → ResolvesPattern p now new bound more t
    → PatternsSoFar old new left all fresh more (trees ++ t ∷ [])
patterns_more old now new p left all fresh bound more trees t so_far one =
    let s : State = state_of now in
    let names = pattern_names p (names_in bound) in
    record {
      state =
          ap (λ ns. behind_parts left ns (state_of new)) (ap names_in one.bound_is ∙ names_with_pattern p (before_of now) bound)
          ∙ (ap (behind_parts left names) one.state
          ∙ (grown_twice s (past_pattern p s.before) (past_parts left (past_pattern p s.before))
          (pattern_faults s.known (names_in bound) p) (parts_faults s.known names left)
          ∙ so_far.state));
      scope = one.scope ∙ so_far.scope;
      bound_is =
          ap (λ state. with_parts left state.before more) one.state
          ∙ (ap (with_parts left (past_pattern p s.before)) one.bound_is ∙ so_far.bound_is);
      trees_are =
          before_one_more trees t (parts_meant (known_of new) (before_of new) left)
          ∙ (ap (λ x. before trees (part x (parts_meant (known_of new) (before_of new) left))) one.tree_is
          ∙ (ap (λ state. before trees (part (pattern_meant s.known s.before p) (parts_meant state.known state.before left))) one.state
          ∙ so_far.trees_are));
    }

pub patterns_done : (old now : Resolver) (all : WrittenPatterns) (fresh bound : Scope) (trees : List Pattern)
    → PatternsSoFar old now written.no_part all fresh bound trees → ResolvesPatterns all old now fresh bound (patterns_of trees)
patterns_done old now all fresh bound trees so_far =
    record {
      state = so_far.state;
      scope = so_far.scope;
      bound_is = so_far.bound_is;
      trees_are = sym (before_none trees) ∙ so_far.trees_are;
    }

-- ---- one pattern

-- as many patterns as are written
count_is : (known : Known) (b : Before) (ps : WrittenPatterns) (ts : List Pattern) → patterns_of ts ≡ parts_meant known b ps → length ts ≡ parts_count ps
count_is known b written.no_part [] is = refl
count_is known b written.no_part (t ∷ ts) is = absurd (cc is)
count_is known b (written.part p ps) [] is = absurd (cc is)
count_is known b (written.part p ps) (t ∷ ts) is =
    let rest : patterns_of ts ≡ parts_meant known (past_pattern p b) ps = cc is in
    let same : length ts ≡ parts_count ps = count_is known (past_pattern p b) ps ts rest in
    omega arith

pub constructor_resolved : (name : Identifier) (ps : WrittenPatterns) (callee : Option Callee) (old between new : Resolver)
    (fresh bound : Scope) (parts : List Pat) (count : ℕ) (t : Pattern)
    → ResolvesPatterns ps old between fresh bound (patterns_of (map pattern_tree parts))
    → callee ≡ meaning_in between.constructors.items name.name
    → Notes (use_faults callee name count) between new → count ≡ length parts
    → t ≡ constructed callee (patterns_of (map pattern_tree parts))
    → ResolvesPattern (written.constructor name ps) old new fresh bound t
constructor_resolved name ps callee old between new fresh bound parts count t all means notes counted made =
    let s : State = state_of old in
    let b : Before = past_parts ps s.before in
    let faults = parts_faults s.known (names_in fresh) ps in
    let here : callee ≡ meaning_in old.constructors.items name.name = means ∙ ap (λ state. meaning_in state.known.constructors name.name) all.state in
    let counted_so : count ≡ parts_count ps =
    counted ∙ (sym (length-map parts pattern_tree) ∙ count_is s.known s.before ps (map pattern_tree parts) all.trees_are) in
    record {
      state =
          notes.state
          ∙ (ap (noting (use_faults callee name count)) all.state
          ∙ (grown_twice s b b faults (use_faults callee name count)
          ∙ (ap (λ c. grown s b (faults ++ use_faults c name count)) here
          ∙ ap (λ n. grown s b (faults ++ use_faults (meaning_in old.constructors.items name.name) name n)) counted_so)));
      scope = notes.scope ∙ all.scope;
      bound_is = all.bound_is;
      tree_is = made ∙ (ap (λ c. constructed c (patterns_of (map pattern_tree parts))) here
          ∙ ap (constructed (meaning_in old.constructors.items name.name)) all.trees_are);
    }

pub variable_resolved : (name : Identifier) (number : ℕ) (old noted new : Resolver) (fresh bound : Scope) (t : Pattern)
    → Notes (faults_if (is_some (number_in fresh name.name)) Twice name) old noted
    → number ≡ noted.next → before_of new ≡ with_variable (before_of noted) → known_of new ≡ known_of noted
    → new.scope.items ≡ noted.scope.items → new.first ≡ noted.first
    → bound ≡ binding name number ∷ fresh → t ≡ program.variable number
    → ResolvesPattern (written.pattern_variable name) old new fresh bound t
variable_resolved name number old noted new fresh bound t notes number_is next known scope first bound_is made =
    let same : noted.next ≡ old.next = ap (λ state. state.before.variables) notes.state in
    let number_so : number ≡ old.next = number_is ∙ same in
    record {
      state = state_is _ _ _ _ _ _ _ _
          (known ∙ ap (λ state. state.known) notes.state)
          (ap newest_first (scope ∙ notes.scope))
          (next ∙ ap (λ state. with_variable state.before) notes.state)
          (first ∙ (ap (λ state. state.first) notes.state ∙ ap (λ b. first_with old.first (faults_if b Twice name))
          (is_seen fresh name.name)));
      scope = scope ∙ notes.scope;
      bound_is = bound_is ∙ ap (λ n. binding name n ∷ fresh) number_so;
      tree_is = made ∙ ap program.variable number_so;
    }
