-- Statements, and the blocks that they are in.
use Rattle.std.proofs.Common.{◌≡◌, ℕ, ◌≤◌, zero, suc, List, [], ◌∷◌, ◌++◌, length, take, refl, sym, ap, subst, ◌∙◌, arith}
use Rattle.std.proofs.Math.Seq.{take-append_seam}
use Rattle.std.proofs.lemmas.List.{length-append}
use Rattle.kk_syntax.specs.declared.program.Binder.TheVariants as OfBinder
use Rattle.kk_syntax.specs.declared.tree.Identifier.{Identifier}
use Rattle.kk_syntax.specs.declared.tree.SurfaceBinder.{SurfaceBinder}
use Rattle.kk_syntax.specs.declared.tree.SurfaceBinder.TheVariants as OfSurface
use Rattle.kk_syntax.specs.Surface.{Written, WrittenStatement, block_of}
use Rattle.kk_syntax.specs.Trees as program
use Rattle.kk_syntax.specs.Trees.{Tree, StatementTree, sequence}
use Rattle.kk_names.specs.declared.resolver.Resolver.{Resolver}
use Rattle.kk_names.specs.declared.scope.Bound.{Bound}
use Rattle.kk_names.specs.Expressions.{meant}
use Rattle.kk_names.specs.Faults.{faults_in}
use Rattle.kk_names.specs.Methods.{known_of, State, before_of, state_of, behind, meant_at, newest_first, first_with, KeepsScope, Binds, Resolves, ResolvesStatement, ResolvesStatements}
use Rattle.kk_names.specs.Scopes.{Scope, binding, names_in, with_binder, binder_names, binder_of, with_variable, past_binder, past}
use Rattle.kk_names.proofs.ResolverStates.{first_more, state_is}
use Rattle.kk_names.proofs.Tables.{newest_more}

pub names_with : (binder : SurfaceBinder) (next : ℕ) (scope : Scope) → names_in (with_binder binder next scope) ≡ binder_names binder (names_in scope)
names_with OfSurface.Nothing next scope = refl
names_with OfSurface.Wildcard next scope = refl
names_with (OfSurface.Variable name) next scope = refl

take_of_take : {A : Type 0} (a b : ℕ) (xs : List A) → a ≤ b → take a (take b xs) ≡ take a xs
take_of_take zero b xs le = refl
take_of_take (suc a) zero xs le = absurd (omega arith)
take_of_take (suc a) (suc b) [] le = refl
take_of_take (suc a) (suc b) (x ∷ xs) le = ap (λ l. x ∷ l) (take_of_take a b xs (omega arith))

kept_longer : (first second third : List Bound) → length first ≤ length second → take (length first) second ≡ first → take (length second) third ≡ second → take (length first) third ≡ first
kept_longer first second third le one two = sym (take_of_take (length first) (length second) third le) ∙ (ap (take (length first)) two ∙ one)

block_one_more : (ts : List StatementTree) (t : StatementTree) (rest : Tree) → program.block_of (ts ++ t ∷ []) rest ≡ program.block_of ts (sequence t.binder t.value rest)
block_one_more [] t rest = refl
block_one_more (first ∷ ts) t rest = ap (sequence first.binder first.value) (block_one_more ts t rest)

-- of all statements of a block some are left
pub record StatementsSoFar (old now : Resolver) (left all : List WrittenStatement) (trees : List StatementTree) : Type 0 where
  pub known : known_of now ≡ known_of old
  pub before : (last : Written) → past (block_of left last) (before_of now) ≡ past (block_of all last) (before_of old)
  pub first : (last : Written) → (behind (block_of left last) (state_of now)).first ≡ (behind (block_of all last) (state_of old)).first
  pub tree_is : (last : Written) → program.block_of trees (meant_at (state_of now) (block_of left last)) ≡ meant_at (state_of old) (block_of all last)
  pub longer : length old.scope.items ≤ length now.scope.items
  pub kept : KeepsScope old now

pub statements_more : (old now new : Resolver) (s : WrittenStatement) (left all : List WrittenStatement) (trees : List StatementTree) (t : StatementTree)
    → StatementsSoFar old now (s ∷ left) all trees → ResolvesStatement s now new t → StatementsSoFar old new left all (trees ++ t ∷ [])
statements_more old now new s left all trees t so_far one =
    let state : State = state_of now in
    record {
      known = ap (λ state. state.known) one.state ∙ so_far.known;
      before = λ last. ap (λ state. past (block_of left last) state.before) one.state ∙ so_far.before last;
      first = λ last.
          ap (λ state. (behind (block_of left last) state).first) one.state
          ∙ (ap (λ names. first_with (first_with now.first (faults_in (known_of now) (names_in state.scope) s.value)) (faults_in (known_of now) names (block_of left last))) (names_with s.binder now.next state.scope)
          ∙ (sym (first_more now.first (faults_in (known_of now) (names_in state.scope) s.value) (faults_in (known_of now) (binder_names s.binder (names_in state.scope)) (block_of left last)))
          ∙ so_far.first last));
      tree_is = λ last.
          block_one_more trees t (meant_at (state_of new) (block_of left last))
          ∙ (ap (λ b. program.block_of trees (sequence b t.value (meant_at (state_of new) (block_of left last)))) one.binder
          ∙ (ap (λ v. program.block_of trees (sequence (binder_of s.binder now.next) v (meant_at (state_of new) (block_of left last)))) one.value
          ∙ (ap (λ state. program.block_of trees (sequence (binder_of s.binder now.next) (meant (known_of now) (newest_first now.scope.items) (past_binder s.binder (before_of now)) s.value) (meant_at state (block_of left last)))) one.state
          ∙ so_far.tree_is last)));
      longer = omega (arith, so_far.longer, one.longer);
      kept = kept_longer old.scope.items now.scope.items new.scope.items so_far.longer so_far.kept one.kept;
    }

-- a statement `val x =`: its number is taken, its value is resolved, and then it is seen
module _ (name : Identifier) (number : ℕ) (value : Written) (old numbered valued new : Resolver) (t : StatementTree)
    (number_is : number ≡ old.next) (next : before_of numbered ≡ with_variable (before_of old)) (known : known_of numbered ≡ known_of old) (scope : numbered.scope.items ≡ old.scope.items) (first : numbered.first ≡ old.first)
    (resolves : Resolves value numbered valued t.value) (binds : Binds (binding name number) valued new) (made : t.binder ≡ OfBinder.Variable number) where
  state_numbered : State
  state_numbered = record { known = known_of old; scope = newest_first old.scope.items; before = with_variable (before_of old); first = old.first }

  numbered_so : state_of numbered ≡ state_numbered
  unfolding state_numbered
  numbered_so = state_is _ _ _ _ _ _ _ _ known (ap newest_first scope) next first

  valued_so : state_of valued ≡ behind value state_numbered
  valued_so = resolves.state ∙ ap (behind value) numbered_so

  items : new.scope.items ≡ old.scope.items ++ binding name number ∷ []
  items = binds.scope ∙ ap (λ all. all ++ binding name number ∷ []) (resolves.scope ∙ scope)

  this : WrittenStatement
  this = record { binder = OfSurface.Variable name; value = value }

  numbered_statement : ResolvesStatement this old new t
  unfolding state_numbered this
  numbered_statement =
      record {
        state = state_is _ _ _ _ _ _ _ _
            (binds.known ∙ ap (λ state. state.known) valued_so)
            (ap newest_first items ∙ (newest_more [] old.scope.items (binding name number) ∙ ap (λ n. binding name n ∷ newest_first old.scope.items) number_is))
            (binds.before ∙ ap (λ state. state.before) valued_so)
            (binds.first ∙ ap (λ state. state.first) valued_so);
        longer = omega (arith, ap length items, length-append old.scope.items (binding name number ∷ []));
        kept = ap (take (length old.scope.items)) items ∙ take-append_seam old.scope.items (binding name number ∷ []);
        binder = made ∙ ap OfBinder.Variable number_is;
        value = resolves.tree_is ∙ ap (λ state. meant_at state value) numbered_so;
      }

pub variable_statement : (s : WrittenStatement) (name : Identifier) (number : ℕ) (value : Written) (old numbered valued new : Resolver) (t : StatementTree)
    → s ≡ record { binder = OfSurface.Variable name; value = value } → number ≡ old.next → before_of numbered ≡ with_variable (before_of old) → known_of numbered ≡ known_of old → numbered.scope.items ≡ old.scope.items → numbered.first ≡ old.first
    → Resolves value numbered valued t.value → Binds (binding name number) valued new → t.binder ≡ OfBinder.Variable number
    → ResolvesStatement s old new t
unfolding this
variable_statement s name number value old numbered valued new t is number_is next known scope first resolves binds made =
    subst (λ (x : WrittenStatement). ResolvesStatement x old new t) (sym is) (numbered_statement name number value old numbered valued new t number_is next known scope first resolves binds made)

-- a block: its statements, its value, and then the variables that were seen before
pub block_resolved : (statements : List WrittenStatement) (last : Written) (old stated valued new : Resolver) (trees : List StatementTree) (t : Tree)
    → ResolvesStatements statements last old stated trees → KeepsScope old stated → Resolves last stated valued t
    → known_of new ≡ known_of valued → new.scope.items ≡ take (length old.scope.items) valued.scope.items → before_of new ≡ before_of valued → new.first ≡ valued.first
    → Resolves (block_of statements last) old new (program.block_of trees t)
block_resolved statements last old stated valued new trees t made kept value known scope next first =
    let back : new.scope.items ≡ old.scope.items = scope ∙ (ap (take (length old.scope.items)) value.scope ∙ kept) in
    record {
      state = state_is _ _ _ _ _ _ _ _
          (known ∙ (ap (λ state. state.known) value.state ∙ made.known))
          (ap newest_first back)
          (next ∙ (ap (λ state. state.before) value.state ∙ made.before))
          (first ∙ (ap (λ state. state.first) value.state ∙ made.first));
      scope = back;
      tree_is = ap (program.block_of trees) value.tree_is ∙ made.tree_is;
    }
