-- Rows never get more: of a problem with few rows, what it comes down to has few rows too. And each match of an expression has
-- fewer rows than the expression has nodes.
use Rattle.std.proofs.Common.{◌≡◌, ◌<◌, ◌≤◌, inl, inr, ℕ, suc, ◌^◌, ◌==◌, zero, Bool, true, false, cond, List, [], ◌∷◌, length, map, sym, ap, ◌∙◌, subst, arith}
use Rattle.std.proofs.lemmas.List.{length-map}
use Rattle.kk_syntax.specs.Covered.{Each, asked_by}
use Rattle.kk_syntax.specs.declared.program.Row.{Row}
use Rattle.kk_syntax.specs.Outlines.{Outline, no_outline, outline, pattern_outline}
use Rattle.kk_syntax.specs.Patterns.{Pattern, anything, variable as pattern_variable, exactly, constructor}
use Rattle.kk_syntax.specs.Programs.{ProgramTree}
use Rattle.kk_syntax.proofs.Walks.{nodes_bound}
use Rattle.kk_syntax.specs.Shapes.{nodes_of, nodes_of_rows, nodes_of_pattern}
use Rattle.kk_syntax.specs.Trees.{Tree, Rows, no_row, row, row_parts}
use Rattle.kk_slots.specs.declared.problem.Asked.{Asked}
use Rattle.kk_slots.specs.declared.problem.Asked.TheVariants as OfAsked
use Rattle.kk_rows.specs.Covered.{row_outlines}
use Rattle.kk_syntax.specs.Matches.{of_matches, matches}
use Rattle.kk_slots.specs.Narrowing.{narrow, open_row, opened}
use Rattle.kk_slots.specs.Problems.{OpenProblem, IsFew, first_asked, owner, arity, made_child, children, StepsTo, Settles, Settled}
use Rattle.kk_slots.specs.Turned.{turned, rotated, first_leading, Picked}
use Rattle.kk_rows.proofs.KeptRows.{each-append, each_back, kept_few}

module _ (program : ProgramTree) (p : OpenProblem) (few : IsFew p) where
  children_few : (of w end : ℕ) → Each IsFew (children program of p w end)
  children_few of w zero = tt
  children_few of w (suc d) = by (owner program d == of) (children_few of w d)
    where
      by : (b : Bool) → Each IsFew (children program of p w d) → Each IsFew (cond b (made_child program p w d ∷ children program of p w d) (children program of p w d))
      by true rest = (let h = kept_few (narrow d (arity program d)) p.rows in omega (arith, h, few), rest)
      by false rest = rest

  opened_few : length (opened p.rows) < 2 ^ 31
  opened_few = omega (arith, kept_few open_row p.rows, few)

  steps_few : (w : ℕ) (a : Asked) (more : List OpenProblem) → StepsTo program p w a more → Each IsFew more
  steps_few w OfAsked.Nothing more step = subst (Each IsFew) (sym step) (opened_few, tt)
  steps_few w OfAsked.Number more step = subst (Each IsFew) (sym step.2) (opened_few, tt)
  steps_few w (OfAsked.Constructor c) more step = subst (Each IsFew) (sym step.3) (children_few (owner program c) w step.0)

  settles_few : (more : List OpenProblem) → Settles program p more → Each IsFew more
  settles_few more settles = elim settles [
    | inl closed ↦ subst (Each IsFew) (sym closed.1) tt
    | inr steps ↦ steps_few steps.0 (first_asked p.rows) more steps.2
  ]

  pub settled_few : (before after : List OpenProblem) → Settled program p before after → Each IsFew before → Each IsFew after
  settled_few before after settled few_before = subst (Each IsFew) (sym settled.grown) (each-append IsFew before settled.more few_before (settles_few settled.more settled.settles))

pub turned_few : (p : OpenProblem) → IsFew p → IsFew (turned p)
turned_few p few = omega (arith, length-map p.rows (rotated (first_leading p.rows)), few)

pub whole_few : (rows : List Row) (p : OpenProblem) → length rows < 2 ^ 31 → p ≡ record { path = []; rows = map (λ e. outline e no_outline) (row_outlines rows); width = 1 } → IsFew p
whole_few rows p few is =
    let long : length p.rows ≡ length rows = ap (λ (q : OpenProblem). length q.rows) is ∙ (length-map (row_outlines rows) (λ e. outline e no_outline) ∙ length-map rows (λ (r : Row). pattern_outline r.pattern)) in
    omega (arith, long, few)

pub picked_few : (program : ProgramTree) (q : OpenProblem) (ps : List OpenProblem) → Picked program ps q → Each IsFew ps → IsFew q
picked_few program q ps picked few = (each_back IsFew picked.before (q ∷ picked.behind) (subst (Each IsFew) picked.place few)).0

-- ---- rows and nodes

abbrev pub Within : ℕ → List Outline → Type 0
Within n rows = length rows ≤ n

some_nodes : (p : Pattern) → 1 ≤ nodes_of_pattern p
some_nodes anything = omega arith
some_nodes (pattern_variable x) = omega arith
some_nodes (exactly value) = omega arith
some_nodes (constructor c parts) = omega arith

rows_nodes : (rows : Rows) → length (asked_by rows) ≤ nodes_of_rows rows
rows_nodes no_row = omega arith
rows_nodes (row (row_parts pattern body) rest) = omega (arith, some_nodes pattern, rows_nodes rest)

pub match_nodes : (e : Tree) → Each (Within (nodes_of e)) (matches e)
match_nodes e = nodes_bound of_matches Within (λ m n le rows few. omega (arith, le, few)) (λ form. tt) (λ p. tt) (λ rows. (rows_nodes rows, tt)) e
