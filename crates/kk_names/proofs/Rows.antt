-- Rows of matches.
use Rattle.std.proofs.Common.{◌≡◌, List, [], ◌∷◌, ◌++◌, length, take, refl, sym, ap, ◌∙◌, append_assoc}
use Rattle.std.proofs.Math.Seq.{take-append_seam}
use Rattle.std.proofs.lemmas.List.{map-append}
use Rattle.kk_syntax.specs.Patterns.{Pattern}
use Rattle.kk_syntax.specs.Surface as written
use Rattle.kk_syntax.specs.Surface.{WrittenPattern, Written, WrittenRow, WrittenRows}
use Rattle.kk_syntax.specs.Trees as program
use Rattle.kk_syntax.specs.Trees.{Tree, Rows, RowTree}
use Rattle.kk_names.specs.declared.resolver.Resolver.{Resolver}
use Rattle.kk_names.specs.declared.scope.Bound.{Bound}
use Rattle.kk_names.specs.Expressions.{pattern_meant, meant, meant_rows}
use Rattle.kk_names.specs.Faults.{pattern_faults, faults_in, faults_in_rows}
use Rattle.kk_names.specs.Methods.{known_of, State, before_of, state_of, grown, first_with, newest_before}
use Rattle.kk_names.specs.Methods.{newest_first, behind, meant_at, Resolves, ResolvesPattern, ResolvesRow, ResolvesRows}
use Rattle.kk_names.specs.Scopes.{Scope, names_in, in_row, with_pattern, pattern_names, past_pattern, past, past_rows}
use Rattle.kk_names.proofs.ResolverStates.{first_more, grown_twice, state_is}
use Rattle.kk_names.proofs.Patterns.{names_with_pattern}

-- ---- how far the loop over rows has come

-- rows, and those behind them
abbrev before : List RowTree → Rows → Rows
before [] rest = rest
before (t ∷ ts) rest = program.row t (before ts rest)

before_one_more : (ts : List RowTree) (t : RowTree) (rest : Rows)
    → before (ts ++ t ∷ []) rest ≡ before ts (program.row t rest)
before_one_more [] t rest = refl
before_one_more (first ∷ ts) t rest = ap (program.row first) (before_one_more ts t rest)

before_none : (ts : List RowTree) → before ts program.no_row ≡ program.rows_of ts
before_none [] = refl
before_none (t ∷ ts) = ap (program.row t) (before_none ts)

abbrev behind_rows : WrittenRows → State → State
behind_rows rows state = grown state (past_rows rows state.before) (faults_in_rows state.known (names_in state.scope) rows)

abbrev meant_rows_at : State → WrittenRows → Rows
meant_rows_at state rows = meant_rows state.known state.scope state.before rows

-- of all rows some are left
pub record RowsSoFar (old now : Resolver) (left all : WrittenRows) (trees : List RowTree) : Type 0 where
  pub state : behind_rows left (state_of now) ≡ behind_rows all (state_of old)
  pub scope : now.scope.items ≡ old.scope.items
  pub trees_are : before trees (meant_rows_at (state_of now) left) ≡ meant_rows_at (state_of old) all

pub rows_more : (old now new : Resolver) (r : WrittenRow) (left all : WrittenRows) (trees : List RowTree) (t : RowTree)
    → RowsSoFar old now (written.row r.pattern r.body left) all trees → ResolvesRow r now new t
    → RowsSoFar old new left all (trees ++ t ∷ [])
rows_more old now new r left all trees t so_far one =
    let s : State = state_of now in
    let between = past_pattern r.pattern s.before in
    let names = names_in s.scope in
    let here = pattern_faults s.known [] r.pattern ++ faults_in s.known (pattern_names r.pattern [] ++ names) r.body in
    let rest = meant_rows_at (state_of new) left in
    let body = meant s.known (in_row r.pattern s.before s.scope) between r.body in
    let made : RowTree = program.row_parts (pattern_meant s.known s.before r.pattern) body in
    record {
      state =
          ap (behind_rows left) one.state
          ∙ (grown_twice s (past r.body between) (past_rows left (past r.body between)) here (faults_in_rows s.known names left)
          ∙ so_far.state);
      scope = one.scope ∙ so_far.scope;
      trees_are =
          before_one_more trees t rest
          ∙ (ap (λ u. before trees (program.row u rest)) one.tree_is
          ∙ (ap (λ state. before trees (program.row made (meant_rows_at state left))) one.state ∙ so_far.trees_are));
    }

pub rows_done : (old now : Resolver) (all : WrittenRows) (trees : List RowTree)
    → RowsSoFar old now written.no_row all trees → ResolvesRows all old now (program.rows_of trees)
rows_done old now all trees so_far =
    record {
      state = so_far.state;
      scope = so_far.scope;
      trees_are = sym (before_none trees) ∙ so_far.trees_are;
    }

-- ---- one row

newest_on : (older : Scope) (bound : List Bound) → newest_before older bound ≡ newest_first bound ++ older
newest_on older [] = refl
newest_on older (first ∷ bound) =
    newest_on (first ∷ older) bound
    ∙ (sym (append_assoc (newest_first bound) (first ∷ []) older) ∙ ap (λ all. all ++ older) (sym (newest_on (first ∷ []) bound)))

newest_both : (older : Scope) (first second : List Bound) → newest_before older (first ++ second) ≡ newest_before
    (newest_before older first) second
newest_both older [] second = refl
newest_both older (bound ∷ first) second = newest_both (bound ∷ older) first second

-- a row: its pattern, its body where the variables of the pattern are seen, and then the variables that were seen before
pub row_resolved : (pattern : WrittenPattern) (body : Written) (old matched seen valued new : Resolver) (bound : List Bound)
    (p : Pattern) (t : Tree)
    → ResolvesPattern pattern old matched [] (newest_first bound) p
    → known_of seen ≡ known_of matched → seen.scope.items ≡ matched.scope.items ++ bound
    → before_of seen ≡ before_of matched → seen.first ≡ matched.first
    → Resolves body seen valued t
    → known_of new ≡ known_of valued → new.scope.items ≡ take (length old.scope.items) valued.scope.items
    → before_of new ≡ before_of valued → new.first ≡ valued.first
    → ResolvesRow (record { pattern = pattern; body = body }) old new (program.row_parts p t)
row_resolved pattern body old matched seen valued new bound p t one known scope next first value new_known new_scope new_next new_first =
    let s : State = state_of old in
    let between = past_pattern pattern s.before in
    let names = pattern_names pattern [] ++ names_in s.scope in
    let items : seen.scope.items ≡ old.scope.items ++ bound = scope ∙ ap (λ all. all ++ bound) one.scope in
    let scope_so : newest_first seen.scope.items ≡ in_row pattern s.before s.scope =
    ap newest_first items ∙ (newest_both [] old.scope.items bound ∙ (newest_on s.scope bound
    ∙ ap (λ fresh. fresh ++ s.scope) one.bound_is)) in
    let names_so : names_in (in_row pattern s.before s.scope) ≡ names =
    map-append (λ b. b.name) (with_pattern pattern s.before []) s.scope
    ∙ ap (λ ns. ns ++ names_in s.scope) (names_with_pattern pattern s.before []) in
    let seen_so : state_of seen ≡ record { known = s.known; scope = in_row pattern s.before s.scope; before = between; first = matched.first } =
    state_is _ _ _ _ _ _ _ _ (known ∙ ap (λ state. state.known) one.state) scope_so (next
    ∙ ap (λ state. state.before) one.state) first in
    let valued_so = value.state ∙ ap (behind body) seen_so in
    let back : new.scope.items ≡ old.scope.items =
    new_scope ∙ (ap (take (length old.scope.items)) (value.scope ∙ items) ∙ take-append_seam old.scope.items bound) in
    record {
      state = state_is _ _ _ _ _ _ _ _
          (new_known ∙ ap (λ state. state.known) valued_so)
          (ap newest_first back)
          (new_next ∙ ap (λ state. state.before) valued_so)
          (new_first ∙ (ap (λ state. state.first) valued_so
          ∙ (ap (λ ns. first_with matched.first (faults_in s.known ns body)) names_so
          ∙ (ap (λ f. first_with f (faults_in s.known names body)) (ap (λ state. state.first) one.state)
          ∙ sym (first_more s.first (pattern_faults s.known [] pattern) (faults_in s.known names body))))));
      scope = back;
      tree_is =
          ap (λ q. program.row_parts q t) one.tree_is
          ∙ ap (program.row_parts (pattern_meant s.known s.before pattern))
          (value.tree_is ∙ ap (λ state. meant_at state body) seen_so);
    }

-- ---- a match

pub match_resolved : (scrutinee : Written) (rows : WrittenRows) (old between new : Resolver) (t : Tree) (ts : Rows)
    → Resolves scrutinee old between t → ResolvesRows rows between new ts
    → Resolves (written.match scrutinee rows) old new (program.match t ts)
match_resolved scrutinee rows old between new t ts one others =
    let s : State = state_of old in
    let names = names_in s.scope in
    record {
      state =
          others.state
          ∙ (ap (behind_rows rows) one.state
          ∙ grown_twice s (past scrutinee s.before) (past_rows rows (past scrutinee s.before))
          (faults_in s.known names scrutinee) (faults_in_rows s.known names rows));
      scope = others.scope ∙ one.scope;
      tree_is =
          ap (λ x. program.match x ts) one.tree_is
          ∙ ap (program.match (meant_at s scrutinee)) (others.trees_are ∙ ap (λ state. meant_rows_at state rows) one.state);
    }
