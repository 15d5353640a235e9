-- Arguments, and calls on them.
use Rattle.std.proofs.Common.{◌≡◌, ℕ, List, [], ◌∷◌, ◌++◌, length, map, Bool, true, false, Option, Some, None, refl, sym, ap, ◌∙◌, arith}
use Rattle.std.specs.Prelude.{if◌then◌else◌, is_some}
use Rattle.std.proofs.lemmas.List.{length-map}
use Rattle.kk_syntax.specs.declared.operator.PrintForm.{PrintForm}
use Rattle.kk_syntax.specs.declared.program.Expr.{Expr}
use Rattle.kk_syntax.specs.declared.program.Form.TheVariants.{Unit as Nothing, PrintText}
use Rattle.kk_syntax.specs.declared.tree.Identifier.{Identifier}
use Rattle.kk_syntax.specs.Surface as written
use Rattle.kk_syntax.specs.Surface.{Written, Writtens, no_written}
use Rattle.kk_syntax.specs.Trees.{Tree, Trees, no_tree, tree, variable, trees_of, expr_tree}
use Rattle.kk_names.specs.declared.fault.FaultKind.TheVariants.{Unknown}
use Rattle.kk_names.specs.declared.resolver.Resolver.{Resolver}
use Rattle.kk_names.specs.declared.table.Callee.{Callee}
use Rattle.kk_names.specs.Expressions.{alone, applied, variable_or_unit, meant_all}
use Rattle.kk_names.specs.Faults.{fault_at, faults_in, faults_in_all, use_faults, count_of}
use Rattle.kk_names.specs.Methods.{known_of, State, before_of, state_of, grown, noting, behind_all, meant_at, meant_all_at, newest_first, Notes, Resolves, ResolvesAll}
use Rattle.kk_names.specs.Scopes.{Scope, number_in, names_in, Before, past, past_all}
use Rattle.kk_names.specs.Tables.{Known, meaning_in}
use Rattle.kk_names.proofs.ResolverStates.{grown_twice, before_is, state_is}
use Rattle.kk_names.proofs.Tables.{is_seen}

-- ---- how far the loop over arguments has come

-- trees, and those behind them
abbrev pub before : List Tree → Trees → Trees
before [] rest = rest
before (t ∷ ts) rest = tree t (before ts rest)

before_one_more : (ts : List Tree) (t : Tree) (rest : Trees) → before (ts ++ t ∷ []) rest ≡ before ts (tree t rest)
before_one_more [] t rest = refl
before_one_more (first ∷ ts) t rest = ap (tree first) (before_one_more ts t rest)

before_none : (ts : List Tree) → before ts no_tree ≡ trees_of ts
before_none [] = refl
before_none (t ∷ ts) = ap (tree t) (before_none ts)

-- of all expressions some are left
pub record AllSoFar (old now : Resolver) (left all : Writtens) (trees : List Tree) : Type 0 where
  pub state : behind_all left (state_of now) ≡ behind_all all (state_of old)
  pub scope : now.scope.items ≡ old.scope.items
  pub trees_are : before trees (meant_all_at (state_of now) left) ≡ meant_all_at (state_of old) all

pub all_more : (old now new : Resolver) (e : Written) (left all : Writtens) (trees : List Tree) (t : Tree) → AllSoFar old now (written.written e left) all trees → Resolves e now new t → AllSoFar old new left all (trees ++ t ∷ [])
all_more old now new e left all trees t so_far one =
    let s : State = state_of now in
    record {
      state =
          ap (behind_all left) one.state
          ∙ (grown_twice s (past e s.before) (past_all left (past e s.before)) (faults_in s.known (names_in s.scope) e) (faults_in_all s.known (names_in s.scope) left)
          ∙ so_far.state);
      scope = one.scope ∙ so_far.scope;
      trees_are =
          before_one_more trees t (meant_all_at (state_of new) left)
          ∙ (ap (λ x. before trees (tree x (meant_all_at (state_of new) left))) one.tree_is
          ∙ (ap (λ state. before trees (tree (meant_at s e) (meant_all_at state left))) one.state ∙ so_far.trees_are));
    }

pub all_done : (old now : Resolver) (all : Writtens) (trees : List Tree) → AllSoFar old now no_written all trees → ResolvesAll all old now (trees_of trees)
all_done old now all trees so_far =
    record {
      state = so_far.state;
      scope = so_far.scope;
      trees_are = sym (before_none trees) ∙ so_far.trees_are;
    }

-- ---- calls

-- one expression, and then others
pub first_resolved : (e : Written) (es : Writtens) (old between new : Resolver) (t : Tree) (ts : List Tree) → Resolves e old between t → ResolvesAll es between new (trees_of ts)
    → ResolvesAll (written.written e es) old new (trees_of (t ∷ ts))
first_resolved e es old between new t ts one others =
    let s : State = state_of old in
    record {
      state =
          others.state
          ∙ (ap (behind_all es) one.state
          ∙ grown_twice s (past e s.before) (past_all es (past e s.before)) (faults_in s.known (names_in s.scope) e) (faults_in_all s.known (names_in s.scope) es));
      scope = others.scope ∙ one.scope;
      trees_are =
          ap (λ x. tree x (trees_of ts)) one.tree_is
          ∙ ap (tree (meant_at s e)) (others.trees_are ∙ ap (λ state. meant_all_at state es) one.state);
    }

-- as many trees as expressions
count_is : (known : Known) (scope : Scope) (b : Before) (es : Writtens) (ts : List Tree) → trees_of ts ≡ meant_all known scope b es → length ts ≡ count_of es
count_is known scope b no_written [] is = refl
count_is known scope b no_written (t ∷ ts) is = absurd (cc is)
count_is known scope b (written.written e es) [] is = absurd (cc is)
count_is known scope b (written.written e es) (t ∷ ts) is =
    let rest : trees_of ts ≡ meant_all known scope (past e b) es = cc is in
    let same : length ts ≡ count_of es = count_is known scope (past e b) es ts rest in
    omega arith

module _ (name : Identifier) (es : Writtens) (callee meaning : Option Callee) (old between new : Resolver) (arguments : List Expr) (count : ℕ) (t : Tree)
    (all : ResolvesAll es old between (trees_of (map expr_tree arguments)))
    (means : callee ≡ meaning)
    (notes : Notes (use_faults callee name count) between new)
    (counted : count ≡ length arguments)
    (made : t ≡ applied callee (trees_of (map expr_tree arguments))) where
  counted_so : count ≡ count_of es
  counted_so =
      counted ∙ (sym (length-map arguments expr_tree)
      ∙ count_is (known_of old) (state_of old).scope (before_of old) es (map expr_tree arguments) all.trees_are)

  state_so : state_of new ≡ grown (state_of old) (past_all es (before_of old)) (faults_in_all (known_of old) (names_in (state_of old).scope) es ++ use_faults meaning name (count_of es))
  state_so =
      notes.state
      ∙ (ap (noting (use_faults callee name count)) all.state
      ∙ (grown_twice (state_of old) (past_all es (before_of old)) (past_all es (before_of old)) (faults_in_all (known_of old) (names_in (state_of old).scope) es) (use_faults callee name count)
      ∙ (ap (λ c. grown (state_of old) (past_all es (before_of old)) (faults_in_all (known_of old) (names_in (state_of old).scope) es ++ use_faults c name count)) means
      ∙ ap (λ n. grown (state_of old) (past_all es (before_of old)) (faults_in_all (known_of old) (names_in (state_of old).scope) es ++ use_faults meaning name n)) counted_so)))

  tree_so : t ≡ applied meaning (meant_all_at (state_of old) es)
  tree_so = made ∙ (ap (λ c. applied c (trees_of (map expr_tree arguments))) means ∙ ap (applied meaning) all.trees_are)

  scope_so : new.scope.items ≡ old.scope.items
  scope_so = notes.scope ∙ all.scope

pub call_resolved : (name : Identifier) (es : Writtens) (callee : Option Callee) (old between new : Resolver) (arguments : List Expr) (count : ℕ) (t : Tree)
    → ResolvesAll es old between (trees_of (map expr_tree arguments)) → callee ≡ meaning_in between.functions.items name.name
    → Notes (use_faults callee name count) between new → count ≡ length arguments → t ≡ applied callee (trees_of (map expr_tree arguments))
    → Resolves (written.call name es) old new t
call_resolved name es callee old between new arguments count t all means notes counted made =
    let here : callee ≡ meaning_in old.functions.items name.name = means ∙ ap (λ state. meaning_in state.known.functions name.name) all.state in
    record {
      state = state_so name es callee (meaning_in old.functions.items name.name) old between new arguments count t all here notes counted made;
      scope = scope_so name es callee (meaning_in old.functions.items name.name) old between new arguments count t all here notes counted made;
      tree_is = tree_so name es callee (meaning_in old.functions.items name.name) old between new arguments count t all here notes counted made;
    }

pub construct_resolved : (name : Identifier) (es : Writtens) (callee : Option Callee) (old between new : Resolver) (arguments : List Expr) (count : ℕ) (t : Tree)
    → ResolvesAll es old between (trees_of (map expr_tree arguments)) → callee ≡ meaning_in between.constructors.items name.name
    → Notes (use_faults callee name count) between new → count ≡ length arguments → t ≡ applied callee (trees_of (map expr_tree arguments))
    → Resolves (written.construct name es) old new t
construct_resolved name es callee old between new arguments count t all means notes counted made =
    let here : callee ≡ meaning_in old.constructors.items name.name = means ∙ ap (λ state. meaning_in state.known.constructors name.name) all.state in
    record {
      state = state_so name es callee (meaning_in old.constructors.items name.name) old between new arguments count t all here notes counted made;
      scope = scope_so name es callee (meaning_in old.constructors.items name.name) old between new arguments count t all here notes counted made;
      tree_is = tree_so name es callee (meaning_in old.constructors.items name.name) old between new arguments count t all here notes counted made;
    }

-- a dot call is a call with its first argument in front
pub dot_call_resolved : (first : Written) (name : Identifier) (others : Writtens) (old new : Resolver) (t : Tree) → Resolves (written.call name (written.written first others)) old new t → Resolves (written.dot_call first name others) old new t
dot_call_resolved first name others old new t call = record { state = call.state; scope = call.scope; tree_is = call.tree_is }

-- ---- variables

names_so : (name : Identifier) (resolver : Resolver) (b : Bool) → is_some (number_in (newest_first resolver.scope.items) name.name) ≡ b
    → faults_in (known_of resolver) (names_in (newest_first resolver.scope.items)) (written.variable name) ≡ (if b then [] else fault_at Unknown name ∷ [])
names_so name resolver b is = ap (λ x. if x then [] else fault_at Unknown name ∷ []) (sym (is_seen (newest_first resolver.scope.items) name.name) ∙ is)

pub variable_found : (name : Identifier) (number : ℕ) (resolver : Resolver) (t : Tree) → Some number ≡ number_in (newest_first resolver.scope.items) name.name → t ≡ variable number
    → Resolves (written.variable name) resolver resolver t
variable_found name number resolver t found made =
    let s : State = state_of resolver in
    record {
      state = sym (ap (grown s s.before) (names_so name resolver true (ap is_some (sym found))));
      scope = refl;
      tree_is = made ∙ ap variable_or_unit found;
    }

pub variable_unknown : (name : Identifier) (old new : Resolver) (t : Tree) → None ≡ number_in (newest_first old.scope.items) name.name → t ≡ alone Nothing → Notes (fault_at Unknown name ∷ []) old new
    → Resolves (written.variable name) old new t
variable_unknown name old new t lacking made notes =
    let s : State = state_of old in
    record {
      state = notes.state ∙ sym (ap (grown s s.before) (names_so name old false (ap is_some (sym lacking))));
      scope = notes.scope;
      tree_is = made ∙ ap variable_or_unit lacking;
    }

-- a print of a string
pub text_resolved : (form : PrintForm) (text : List ℕ) (number : ℕ) (old new : Resolver) (t : Tree) → number ≡ length old.texts.items → known_of new ≡ known_of old → new.scope.items ≡ old.scope.items
    → new.next ≡ old.next → new.texts.items ≡ old.texts.items ++ text ∷ [] → new.first ≡ old.first → t ≡ alone (PrintText form number)
    → Resolves (written.print_text form text) old new t
text_resolved form text number old new t number_is known scope next texts first made =
    record {
      state = state_is _ _ _ _ _ _ _ _ known (ap newest_first scope) (before_is _ _ _ _ next texts) first;
      scope = scope;
      tree_is = made ∙ ap (λ n. alone (PrintText form n)) number_is;
    }
