-- The matches of an expression, by its parts.
use Rattle.std.proofs.Common.{◌≡◌, ◌<◌, ◌≤◌, ℕ, ◌+◌, ◌^◌, List, [], ◌∷◌, ◌++◌, length, map, take, drop, Some, option_map, get_or, refl, sym, ap, ◌∙◌, subst, append_assoc, arith}
use Rattle.std.proofs.lemmas.List.{length-map, get_or-map, map-append, take-map, take_more, drop_more, take-append-drop}
use Rattle.std.proofs.lemmas.Option.{slice_get-map, slice_get-get_or}
use Rattle.std.specs.Borrow.{Bor}
use Rattle.kk_syntax.specs.declared.program.Expr.TheVariants.{Match}
use Rattle.kk_syntax.specs.declared.program.Pat.{Pat}
use Rattle.kk_syntax.specs.declared.program.Row.{Row}
use Rattle.kk_syntax.specs.declared.program.Fun.{Fun}
use Rattle.kk_syntax.specs.declared.program.Program.{Program}
use Rattle.std.specs.Prelude.{All}
use Rattle.kk_syntax.specs.Programs.{FunctionTree, ProgramTree, function_tree, program_tree}
use Rattle.kk_syntax.specs.Shapes.{nodes_of, gathered_rows}
use Rattle.kk_syntax.specs.Trees.{RowTree, pattern_of_row, rows_of, expr_tree, row_tree}
use Rattle.kk_syntax.proofs.Views.{match_tree, row_tree_is}
use Rattle.kk_syntax.specs.Covered.{Each, asked_by}
use Rattle.kk_syntax.specs.Matches.{IsMatchCovered}
use Rattle.kk_rows.specs.Covered.{IsMatchMissed, row_outlines}
use Rattle.kk_syntax.specs.Outlines.{Outline, outline_of, pattern_outline}
use Rattle.kk_syntax.specs.Matches.{of_matches, matches, IsFunctionCovered}
use Rattle.kk_cover.specs.Matches.{match_rows, IsFirstMissed, IsFirstMiss}
use Rattle.kk_rows.proofs.RowBounds.{Within}
use Rattle.kk_rows.proofs.KeptRows.{each-append, each_back}

rows_outlines : (rows : List Row) → row_outlines rows ≡ asked_by (rows_of (map row_tree rows))
rows_outlines [] = refl
rows_outlines (r ∷ rows) =
    ap (λ (x : RowTree). outline_of (pattern_of_row x) ∷ row_outlines rows) (sym (row_tree_is r))
    ∙ ap (λ (os : List Outline). outline_of (pattern_of_row (row_tree r)) ∷ os) (rows_outlines rows)

pub matches_match : (e : _) (rows : _) → matches (expr_tree (Match e rows)) ≡ row_outlines rows.items ∷ (matches (expr_tree e.value) ++ gathered_rows of_matches (rows_of (map row_tree rows.items)))
matches_match e rows =
    ap matches (match_tree e rows)
    ∙ ap (λ (os : List Outline). os ∷ (matches (expr_tree e.value) ++ gathered_rows of_matches (rows_of (map row_tree rows.items)))) (sym (rows_outlines rows.items))

pub found_match : (old pushed middle new ss rs : List (List Outline)) (rows : List Outline) → pushed ≡ old ++ (rows ∷ []) → middle ≡ pushed ++ ss → new ≡ middle ++ rs → new ≡ old ++ (rows ∷ (ss ++ rs))
found_match old pushed middle new ss rs rows a b c =
    c ∙ (ap (λ (xs : List (List Outline)). xs ++ rs) (b ∙ ap (λ (xs : List (List Outline)). xs ++ ss) a) ∙ simp append_assoc)

pub found_block : (old middle new ss ls : List (List Outline)) → middle ≡ old ++ ss → new ≡ middle ++ ls → new ≡ old ++ (ss ++ ls)
found_block old middle new ss ls a b = b ∙ (ap (λ (xs : List (List Outline)). xs ++ ls) a ∙ append_assoc old ss ls)

-- the first of the matches that is not covered stands at a place
pub first_at : (program : ProgramTree) (all : List (Bor (List Row))) (i : ℕ) (rows : Bor (List Row)) (found : Pat) → i < length all → rows ≡ get_or all i rows → Each (IsMatchCovered program) (match_rows (take i all)) → IsMatchMissed program (row_outlines rows.now) (pattern_outline found) → IsFirstMissed program (match_rows all) (pattern_outline found)
first_at program all i rows found lt is covered missed = record {
  before = match_rows (take i all);
  rows = row_outlines rows.now;
  behind = match_rows (drop (i + 1) all);
  place =
      ap match_rows (sym (take-append-drop i all) ∙ ap (λ (xs : List (Bor (List Row))). take i all ++ xs) (drop_more all i rows lt ∙ ap (λ (r : Bor (List Row)). r ∷ drop (i + 1) all) (sym is)))
      ∙ map-append (λ (r : Bor (List Row)). row_outlines r.now) (take i all) (rows ∷ drop (i + 1) all);
  covered = covered;
  missed = missed;
}

pub covered_more : (program : ProgramTree) (all : List (Bor (List Row))) (i : ℕ) (rows : Bor (List Row)) → i < length all → rows ≡ get_or all i rows → Each (IsMatchCovered program) (match_rows (take i all)) → IsMatchCovered program (row_outlines rows.now) → Each (IsMatchCovered program) (match_rows (take (i + 1) all))
covered_more program all i rows lt is covered this =
    subst (λ (xs : List (Bor (List Row))). Each (IsMatchCovered program) (match_rows xs)) (sym (take_more all i rows lt ∙ ap (λ (r : Bor (List Row)). take i all ++ (r ∷ [])) (sym is)))
    (subst (Each (IsMatchCovered program)) (sym (map-append (λ (r : Bor (List Row)). row_outlines r.now) (take i all) (rows ∷ [])))
    (each-append (IsMatchCovered program) (match_rows (take i all)) (row_outlines rows.now ∷ []) covered (this, tt)))

-- the rows of one of the matches are no more than those of each
pub rows_within : (n : ℕ) (all : List (Bor (List Row))) (i : ℕ) (rows : Bor (List Row)) → i < length all → rows ≡ get_or all i rows → Each (Within n) (match_rows all) → length rows.now ≤ n
rows_within n all i rows lt is each =
    let place : match_rows all ≡ match_rows (take i all) ++ (row_outlines rows.now ∷ match_rows (drop (i + 1) all)) =
    ap match_rows (sym (take-append-drop i all) ∙ ap (λ (xs : List (Bor (List Row))). take i all ++ xs) (drop_more all i rows lt ∙ ap (λ (r : Bor (List Row)). r ∷ drop (i + 1) all) (sym is)))
    ∙ map-append (λ (r : Bor (List Row)). row_outlines r.now) (take i all) (rows ∷ drop (i + 1) all) in
    let here = (each_back (Within n) (match_rows (take i all)) (row_outlines rows.now ∷ match_rows (drop (i + 1) all)) (subst (Each (Within n)) place each)).0 in
    let long = length-map rows.now (λ (r : Row). pattern_outline r.pattern) in
    omega (arith, here, long)

pub pushed_rows : (all : List (Bor (List Row))) (rows : Bor (List Row)) → match_rows (all ++ (rows ∷ [])) ≡ match_rows all ++ (row_outlines rows.now ∷ [])
pushed_rows all rows = map-append (λ (r : Bor (List Row)). row_outlines r.now) all (rows ∷ [])

-- one function more is covered, or the function at a place is the first that is not
at_more : {X Y : Type 0} (f : X → Y) (xs : List X) (i : ℕ) (x : X) → i < length xs → x ≡ get_or xs i x → take (i + 1) (map f xs) ≡ take i (map f xs) ++ (f x ∷ [])
at_more f xs i x lt is =
    take-map f (i + 1) xs
    ∙ (ap (map f) (take_more xs i x lt)
    ∙ (map-append f (take i xs) (get_or xs i x ∷ [])
    ∙ (ap (λ ys. ys ++ (f (get_or xs i x) ∷ [])) (sym (take-map f i xs)) ∙ ap (λ y. take i (map f xs) ++ (f y ∷ [])) (sym is))))

pub functions_more : (program : Program) (i : ℕ) (function : Fun) → i < length program.functions.items → function ≡ get_or program.functions.items i function → Each (IsFunctionCovered (program_tree program)) (take i (program_tree program).functions) → IsFunctionCovered (program_tree program) (function_tree function) → Each (IsFunctionCovered (program_tree program)) (take (i + 1) (program_tree program).functions)
functions_more program i function lt is covered this =
    subst (Each (IsFunctionCovered (program_tree program))) (sym (at_more function_tree program.functions.items i function lt is))
    (each-append (IsFunctionCovered (program_tree program)) (take i (program_tree program).functions) (function_tree function ∷ []) covered (this, tt))

pub function_at : (program : Program) (i : ℕ) (function : Fun) (found : Pat) → i < length program.functions.items → function ≡ get_or program.functions.items i function → Each (IsFunctionCovered (program_tree program)) (take i (program_tree program).functions) → IsFirstMissed (program_tree program) (matches (expr_tree function.body)) (pattern_outline found) → IsFirstMiss (program_tree program) (record { function = i; example = pattern_outline found })
function_at program i function found lt is covered missed = record {
  function = function_tree function;
  there =
      slice_get-map function_tree program.functions.items i
      ∙ ap (option_map function_tree) (slice_get-get_or program.functions.items i function lt ∙ ap Some (sym is));
  earlier = covered;
  missed = missed;
}

pub function_few : (functions : List Fun) (i : ℕ) (function : Fun) → i < length functions → function ≡ get_or functions i function → All (λ f. nodes_of f.body < 2 ^ 31) (map function_tree functions) → nodes_of (expr_tree function.body) < 2 ^ 31
function_few functions i function lt is few =
    let long = length-map functions function_tree in
    let here = few i (function_tree function) (omega (arith, lt, long)) in
    subst (λ (f : FunctionTree). nodes_of f.body < 2 ^ 31) (get_or-map function_tree functions i function (function_tree function) lt ∙ ap function_tree (sym is)) here
