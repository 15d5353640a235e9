-- What is behind one expression and then behind another is behind both.
use Rattle.std.proofs.Common.{◌≡◌, ℕ, List, [], ◌∷◌, ◌++◌, Option, refl, sym, ap, subst, ◌∙◌}
use Rattle.kk_syntax.specs.declared.operator.BinaryOperator.{BinaryOperator}
use Rattle.kk_syntax.specs.declared.program.Form.TheVariants.{Unit as Nothing, Binary, Construct}
use Rattle.kk_syntax.specs.Surface as written
use Rattle.kk_syntax.specs.Surface.{Written}
use Rattle.kk_syntax.specs.Trees.{Tree, no_tree, tree, apply, branch}
use Rattle.kk_names.specs.declared.fault.Fault.{Fault}
use Rattle.kk_names.specs.declared.resolver.Resolver.{Resolver}
use Rattle.kk_names.specs.declared.table.Declared.{Declared}
use Rattle.kk_names.specs.declared.table.DeclaredType.{DeclaredType}
use Rattle.kk_names.specs.Expressions.{meant, alone}
use Rattle.kk_names.specs.Faults.{faults_in}
use Rattle.kk_names.specs.Methods.{known_of, State, before_of, state_of, grown, earlier_of, first_with, behind, meant_at, newest_first, Resolves}
use Rattle.kk_names.specs.Scopes.{Scope, names_in, Before, past}
use Rattle.kk_names.specs.Tables.{Known}

pub first_more : (first : Option Fault) (xs ys : List Fault) → first_with first (xs ++ ys) ≡ first_with (first_with first xs) ys
first_more first [] ys = refl
first_more first (x ∷ xs) ys = first_more (earlier_of first x) xs ys

pub grown_twice : (state : State) (a b : Before) (xs ys : List Fault) → grown (grown state a xs) b ys ≡ grown state b (xs ++ ys)
grown_twice state a b xs ys =
    ap (λ f. let s : State = record { known = state.known; scope = state.scope; before = b; first = f } in s) (sym (first_more state.first xs ys))

-- what stands before, and how far the resolver has come, from their parts
pub before_is : (n m : ℕ) (s t : List (List ℕ)) → n ≡ m → s ≡ t → (let here : Before = record { variables = n; texts = s } in here) ≡ record { variables = m; texts = t }
before_is n m s t variables texts =
    ap (λ z. let here : Before = record { variables = z; texts = s } in here) variables ∙ ap (λ z. let here : Before = record { variables = m; texts = z } in here) texts

pub known_is : (types types' : List DeclaredType) (constructors constructors' functions functions' : List Declared)
    → types ≡ types' → constructors ≡ constructors' → functions ≡ functions'
    → (let here : Known = record { types = types; constructors = constructors; functions = functions } in here)
    ≡ record { types = types'; constructors = constructors'; functions = functions' }
known_is types types' constructors constructors' functions functions' t c f =
    ap (λ z. let here : Known = record { types = z; constructors = constructors; functions = functions } in here) t
    ∙ (ap (λ z. let here : Known = record { types = types'; constructors = z; functions = functions } in here) c
    ∙ ap (λ z. let here : Known = record { types = types'; constructors = constructors'; functions = z } in here) f)

pub state_is : (f g : Known) (s r : Scope) (a b : Before) (x y : Option Fault) → f ≡ g → s ≡ r → a ≡ b → x ≡ y
    → (let here : State = record { known = f; scope = s; before = a; first = x } in here) ≡ record { known = g; scope = r; before = b; first = y }
state_is f g s r a b x y known scope before first =
    ap (λ z. let here : State = record { known = z; scope = s; before = a; first = x } in here) known
    ∙ (ap (λ z. let here : State = record { known = g; scope = z; before = a; first = x } in here) scope
    ∙ (ap (λ z. let here : State = record { known = g; scope = r; before = z; first = x } in here) before
    ∙ ap (λ z. let here : State = record { known = g; scope = r; before = b; first = z } in here) first))

-- one expression, and then another
pub record ResolvesTwo (left right : Written) (old new : Resolver) (first second : Tree) : Type 0 where
  pub state : state_of new ≡ grown (state_of old) (past right (past left (before_of old)))
      (faults_in (known_of old) (names_in (newest_first old.scope.items)) left ++ faults_in (known_of old) (names_in (newest_first old.scope.items)) right)
  pub scope : new.scope.items ≡ old.scope.items
  pub first_is : first ≡ meant_at (state_of old) left
  pub second_is : second ≡ meant (known_of old) (newest_first old.scope.items) (past left (before_of old)) right

pub two_resolved : (left right : Written) (old between new : Resolver) (first second : Tree) → Resolves left old between first → Resolves right between new second → ResolvesTwo left right old new first second
two_resolved left right old between new first second x y =
    let s : State = state_of old in
    record {
      state =
          y.state ∙ (ap (behind right) x.state
          ∙ grown_twice s (past left s.before) (past right (past left s.before)) (faults_in s.known (names_in s.scope) left) (faults_in s.known (names_in s.scope) right));
      scope = y.scope ∙ x.scope;
      first_is = x.tree_is;
      second_is = y.tree_is ∙ ap (λ state. meant_at state right) x.state;
    }

pub binary_resolved : (operator : BinaryOperator) (left right : Written) (old between new : Resolver) (first second : Tree) → Resolves left old between first → Resolves right between new second
    → Resolves (written.binary operator left right) old new (apply (Binary operator) (tree first (tree second no_tree)))
binary_resolved operator left right old between new first second x y =
    let two = two_resolved left right old between new first second x y in
    record {
      state = two.state;
      scope = two.scope;
      tree_is = ap (λ t. apply (Binary operator) (tree t (tree second no_tree))) two.first_is ∙ ap (λ t. apply (Binary operator) (tree (meant_at (state_of old) left) (tree t no_tree))) two.second_is;
    }

pub both_resolved : (left right : Written) (old between new : Resolver) (first second : Tree) → Resolves left old between first → Resolves right between new second
    → Resolves (written.both left right) old new (branch first second (alone (Construct 0)))
both_resolved left right old between new first second x y =
    let two = two_resolved left right old between new first second x y in
    record {
      state = two.state;
      scope = two.scope;
      tree_is = ap (λ t. branch t second (alone (Construct 0))) two.first_is ∙ ap (λ t. branch (meant_at (state_of old) left) t (alone (Construct 0))) two.second_is;
    }

pub either_resolved : (left right : Written) (old between new : Resolver) (first second : Tree) → Resolves left old between first → Resolves right between new second
    → Resolves (written.either left right) old new (branch first (alone (Construct 1)) second)
either_resolved left right old between new first second x y =
    let two = two_resolved left right old between new first second x y in
    record {
      state = two.state;
      scope = two.scope;
      tree_is = ap (λ t. branch t (alone (Construct 1)) second) two.first_is ∙ ap (λ t. branch (meant_at (state_of old) left) (alone (Construct 1)) t) two.second_is;
    }

pub alone_resolved : (left right : Written) (old between new : Resolver) (first second : Tree) → Resolves left old between first → Resolves right between new second
    → Resolves (written.branch_alone left right) old new (branch first second (alone Nothing))
alone_resolved left right old between new first second x y =
    let two = two_resolved left right old between new first second x y in
    record {
      state = two.state;
      scope = two.scope;
      tree_is = ap (λ t. branch t second (alone Nothing)) two.first_is ∙ ap (λ t. branch (meant_at (state_of old) left) t (alone Nothing)) two.second_is;
    }

pub branch_resolved : (condition positive negative : Written) (old on then new : Resolver) (first second third : Tree) → Resolves condition old on first → Resolves positive on then second → Resolves negative then new third
    → Resolves (written.branch condition positive negative) old new (branch first second third)
branch_resolved condition positive negative old on then new first second third x y z =
    let s : State = state_of old in
    let two = two_resolved positive negative on then new second third y z in
    let names = names_in s.scope in
    record {
      state =
          two.state
          ∙ (ap (λ state. grown state (past negative (past positive state.before)) (faults_in state.known (names_in state.scope) positive ++ faults_in state.known (names_in state.scope) negative)) x.state
          ∙ grown_twice s (past condition s.before) (past negative (past positive (past condition s.before))) (faults_in s.known names condition) (faults_in s.known names positive ++ faults_in s.known names negative));
      scope = two.scope ∙ x.scope;
      tree_is =
          ap (λ t. branch t second third) x.tree_is
          ∙ (ap (λ t. branch (meant_at s condition) t third) (two.first_is ∙ ap (λ state. meant_at state positive) x.state)
          ∙ ap (λ t. branch (meant_at s condition) (meant s.known s.scope (past condition s.before) positive) t)
          (two.second_is ∙ ap (λ state. meant state.known state.scope (past positive state.before) negative) x.state));
    }

-- an expression goes by what it is written as, and by the tree that it means
pub as_written : (e w : Written) (old new : Resolver) (t u : Tree) → e ≡ w → t ≡ u → Resolves w old new u → Resolves e old new t
as_written e w old new t u is tree_is resolves =
    subst (λ (x : Written). Resolves x old new t) (sym is) (subst (λ (x : Tree). Resolves w old new x) (sym tree_is) resolves)
