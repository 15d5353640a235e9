-- What code takes fits its lines, where values are of the kinds that types tell and numbers are of 32 bits.
use Rattle.std.proofs.Common.{◌≡◌, ℕ, zero, suc, ◌≤◌, ℤ, List, [], ◌∷◌, length, map, Option, Some, None, option_map, refl, sym, ◌∙◌, ap, subst, arith}
use Rattle.std.specs.Prelude.{slice_get}
use Rattle.kk_syntax.specs.declared.operator.UnaryOperator.TheVariants.{Negate, Not}
use Rattle.kk_syntax.specs.declared.program.Form.{Form}
use Rattle.kk_syntax.specs.declared.program.Form.TheVariants.{Number, Unit as Nothing, ReadByte, PrintText, Unary, Binary, Print, Construct, Call}
use Rattle.kk_source.specs.Arithmetic.{wrapped}
use Rattle.kk_source.specs.Live.{value_of}
use Rattle.kk_source.specs.Matching.{and_then}
use Rattle.kk_source.specs.State.{Value, integer, unit, constant, place, Cell}
use Rattle.kk_core.specs.Decisions.{NodeTree, chooses, tests, value_at, answer_of}
use Rattle.kk_core.specs.Kinds.{IsNumber, TakesKinds, TestsNode, TestsFrom}
use Rattle.kk_core.specs.Kinds as Kinds
use Rattle.kk_core.specs.declared.decisions.Answer.{Answer}
use Rattle.kk_core.specs.declared.decisions.Answer.TheVariants.{Number as OfNumber, Constructor}
use Rattle.kk_core.specs.declared.decisions.Edge.{Edge}
use Rattle.kk_counted.specs.CountedCodes.{give, tail_call, case, compute, inside, read, open_cell, if_unique, dup, drop}
use Rattle.kk_counted.specs.CountedStates.{CountedControl, running, stopped, stuck}
use Rattle.kk_counted.specs.Heaps.{Held, Heap, forwards, held_at, count_in, count_at, if_counted, cell_at, fields_if_held}
use Rattle.kk_counted.specs.Int32.{AreInt32, IsAnswerInt32, AreEdgesInt32, IsNodeInt32, AreNodesInt32, IsHeapInt32, IsControlInt32}
use Rattle.kk_counted.specs.Int32 as Numbers
use Rattle.kk_counted.specs.Kinds.{HasKinds}
use Rattle.kk_counted.proofs.Looks.{cell_same}
use Rattle.kk_counted.proofs.Numbers.{value_int32, values_int32, held_int32}
use Rattle.rv_isa.specs.Arithmetic.{word_of}
use Rattle.rv_cells.specs.CountedLines.{is_plain}
use Rattle.rv_cells.specs.Fitting.{IsInt32, FitsForm, AreTagged, count_of_fields, AreAlike, AllAlike, ShowsIts, FitsNode, FitsFrom, FitsControl}
use Rattle.rv_cells.specs.Layout.{Layout}
use Rattle.rv_cells.proofs.FormWords.{word_fits, word_wraps}

-- ---- numbers

number_fits : (n : ℤ) → wrapped n ≡ n → IsInt32 (integer n)
number_fits n is = (word_of n, ap integer (sym (word_wraps n ∙ is)), word_fits n)

value_fits : (v : Value) → IsNumber v → Numbers.IsInt32 v → IsInt32 v
value_fits v is small =
    subst (λ w. IsInt32 w) (sym is.1) (number_fits is.0 (subst (λ w. Numbers.IsInt32 w) is.1 small))

form_fits : (form : Form) (values : List Value) → TakesKinds form values → AreInt32 values → FitsForm form values
form_fits (Number n) values takes small = tt
form_fits Nothing values takes small = tt
form_fits ReadByte values takes small = tt
form_fits (PrintText form text) values takes small = tt
form_fits (Unary Negate) [] takes small = absurd takes
form_fits (Unary Negate) (v ∷ []) takes small = value_fits v takes small.0
form_fits (Unary Negate) (v ∷ w ∷ vs) takes small = absurd takes
form_fits (Unary Not) [] takes small = absurd takes
form_fits (Unary Not) (v ∷ []) takes small = takes
form_fits (Unary Not) (v ∷ w ∷ vs) takes small = absurd takes
form_fits (Binary operator) [] takes small = absurd takes
form_fits (Binary operator) (v ∷ []) takes small = absurd takes
form_fits (Binary operator) (v ∷ w ∷ []) takes small = (value_fits v takes.0 small.0, value_fits w takes.1 small.1.0)
form_fits (Binary operator) (v ∷ w ∷ u ∷ vs) takes small = absurd takes
form_fits (Print form) [] takes small = absurd takes
form_fits (Print form) (v ∷ []) takes small = value_fits v takes small.0
form_fits (Print form) (v ∷ w ∷ vs) takes small = absurd takes
form_fits (Construct c) values takes small = tt
form_fits (Call f) values takes small = tt

-- ---- what a value shows, by counted cells and by all cells

module _ (heap : Heap) where
  counted_there : (at : ℕ) (cell : Cell) → cell_at heap at ≡ Some cell → 1 ≤ count_at heap at
  counted_there at cell is = by_held (held_at heap at) is
    where
      by_count : (count : ℕ) (one : Cell) → if_counted count one ≡ Some cell → 1 ≤ count
      by_count zero one is = absurd (cc)
      by_count (suc k) one is = omega arith

      by_held : (found : Option Held) → and_then found (λ held. if_counted held.count held.cell) ≡ Some cell → 1 ≤ count_in found
      by_held None is = absurd (cc)
      by_held (Some held) is = by_count held.count held.cell is

  cell_there : (at : ℕ) (cell : Cell) → cell_at heap at ≡ Some cell → slice_get (forwards heap) at ≡ Some cell
  cell_there at cell is = sym (cell_same heap at (counted_there at cell is)) ∙ is

  cell_int32 : (at : ℕ) (cell : Cell) → IsHeapInt32 heap → cell_at heap at ≡ Some cell → AreInt32 cell.fields
  cell_int32 at cell small is = by_held (held_at heap at) is (held_int32 heap at small)
    where
      by_count : (count : ℕ) (one : Cell) → if_counted count one ≡ Some cell → AreInt32 one.fields → AreInt32 cell.fields
      by_count zero one is all = absurd (cc)
      by_count (suc k) one is all = subst (λ (c : Cell). AreInt32 c.fields) (inner is) all
        where
          inner : Some one ≡ Some cell → one ≡ cell
          inner same = cc

      by_held : (found : Option Held) → and_then found (λ held. if_counted held.count held.cell) ≡ Some cell
          → AreInt32 (fields_if_held found) → AreInt32 cell.fields
      by_held None is all = absurd (cc)
      by_held (Some held) is all = by_count held.count held.cell is all

field_int32 : (vs : List Value) (i : ℕ) (v : Value) → slice_get vs i ≡ Some v → AreInt32 vs → Numbers.IsInt32 v
field_int32 [] i v is all = absurd (cc)
field_int32 (u ∷ vs) zero v is all = subst (λ w. Numbers.IsInt32 w) (inner is) all.0
  where
    inner : Some u ≡ Some v → u ≡ v
    inner same = cc
field_int32 (u ∷ vs) (suc i) v is all = field_int32 vs i v is all.1

module _ (heap : Heap) (small : IsHeapInt32 heap) where
  -- the value at a way from any value is the same in all cells, and a number of 32 bits
  abbrev Later : List ℕ → Value → Type 0
  Later way w = (v : Value) → value_at (cell_at heap) way v ≡ Some w → Numbers.IsInt32 v
      → (value_at (slice_get (forwards heap)) way v ≡ Some w) × Numbers.IsInt32 w

  value_seen : (way : List ℕ) (v w : Value) → value_at (cell_at heap) way v ≡ Some w → Numbers.IsInt32 v
      → (value_at (slice_get (forwards heap)) way v ≡ Some w) × Numbers.IsInt32 w
  value_seen [] v w is number = (is, subst (λ u. Numbers.IsInt32 u) (inner is) number)
    where
      inner : Some v ≡ Some w → v ≡ w
      inner same = cc
  value_seen (field ∷ way) (integer n) w is number = absurd (cc)
  value_seen (field ∷ way) unit w is number = absurd (cc)
  value_seen (field ∷ way) (constant c) w is number = absurd (cc)
  value_seen (field ∷ way) (place at) w is number =
      by_cell (cell_at heap at) refl is (λ u seen small_u. value_seen way u w seen small_u)
    where
      by_field : (cell : Cell) → cell_at heap at ≡ Some cell → (found : Option Value) → slice_get cell.fields field ≡ found
          → and_then found (value_at (cell_at heap) way) ≡ Some w → Later way w
          → (value_at (slice_get (forwards heap)) (field ∷ way) (place at) ≡ Some w) × Numbers.IsInt32 w
      by_field cell there None here is behind = absurd (cc)
      by_field cell there (Some u) here is behind =
          let later = behind u is (field_int32 cell.fields field u here (cell_int32 heap at cell small there)) in (
            ap (λ (o : Option Cell). and_then (and_then (option_map (λ (one : Cell). one.fields) o) (λ fields. slice_get fields field))
                (value_at (slice_get (forwards heap)) way)) (cell_there heap at cell there)
                ∙ ap (λ (o : Option Value). and_then o (value_at (slice_get (forwards heap)) way)) here
                ∙ later.0,
            later.1,
          )

      by_cell : (found : Option Cell) → cell_at heap at ≡ found
          → and_then (and_then (option_map (λ (one : Cell). one.fields) found) (λ fields. slice_get fields field))
          (value_at (cell_at heap) way) ≡ Some w → Later way w
          → (value_at (slice_get (forwards heap)) (field ∷ way) (place at) ≡ Some w) × Numbers.IsInt32 w
      by_cell None there is behind = absurd (cc)
      by_cell (Some cell) there is behind = by_field cell there (slice_get cell.fields field) refl is behind

  answer_seen : (w : Value) (found : Answer) → answer_of (cell_at heap) w ≡ Some found → Numbers.IsInt32 w
      → (answer_of (slice_get (forwards heap)) w ≡ Some found) × IsAnswerInt32 found
  answer_seen (integer n) found is number = (is, subst (λ a. IsAnswerInt32 a) (inner is) number)
    where
      inner : Some (OfNumber n) ≡ Some found → OfNumber n ≡ found
      inner same = cc
  answer_seen unit found is number = absurd (cc)
  answer_seen (constant c) found is number = (is, subst (λ a. IsAnswerInt32 a) (inner is) tt)
    where
      inner : Some (Constructor c) ≡ Some found → Constructor c ≡ found
      inner same = cc
  answer_seen (place at) found is number = by_cell (cell_at heap at) refl is
    where
      by_cell : (o : Option Cell) → cell_at heap at ≡ o → option_map (λ (one : Cell). Constructor one.made_by) o ≡ Some found
          → (answer_of (slice_get (forwards heap)) (place at) ≡ Some found) × IsAnswerInt32 found
      by_cell None there is = absurd (cc)
      by_cell (Some cell) there is = (
        ap (option_map (λ (one : Cell). Constructor one.made_by)) (cell_there heap at cell there) ∙ is,
        subst (λ a. IsAnswerInt32 a) (inner is) tt,
      )
        where
          inner : Some (Constructor cell.made_by) ≡ Some found → Constructor cell.made_by ≡ found
          inner same = cc

-- ---- tests

node_int32 : (nodes : List NodeTree) (k : ℕ) (node : NodeTree) → slice_get nodes k ≡ Some node → AreNodesInt32 nodes
    → IsNodeInt32 node
node_int32 [] k node is all = absurd (cc)
node_int32 (one ∷ nodes) zero node is all = subst (λ n. IsNodeInt32 n) (inner is) all.0
  where
    inner : Some one ≡ Some node → one ≡ node
    inner same = cc
node_int32 (one ∷ nodes) (suc k) node is all = node_int32 nodes k node is all.1

module _ (layout : Layout) where
  plain_same : (found : Answer) → Kinds.is_plain (count_of_fields layout) found ≡ is_plain layout found
  plain_same (OfNumber n) = refl
  plain_same (Constructor c) = refl

  shows_fits : (w : Value) (found : Answer) → Kinds.ShowsIts (AreTagged layout) (count_of_fields layout) w found
      → ShowsIts layout w found
  shows_fits (integer n) found is = sym (plain_same found) ∙ is
  shows_fits unit found is = sym (plain_same found) ∙ is
  shows_fits (constant c) found is = sym (plain_same found) ∙ is
  shows_fits (place at) found is = sym (plain_same found) ∙ is

  alike_fits : (e found : Answer) → Kinds.AreAlike (AreTagged layout) (count_of_fields layout) e found → IsAnswerInt32 e
      → IsAnswerInt32 found → AreAlike layout e found
  alike_fits (OfNumber n) (OfNumber m) like one other = (number_fits n one, number_fits m other)
  alike_fits (OfNumber n) (Constructor d) like one other = absurd like
  alike_fits (Constructor c) (OfNumber m) like one other = absurd like
  alike_fits (Constructor c) (Constructor d) like one other = like

  all_fit : (found : Answer) (edges : List Edge) → Kinds.AllAlike (AreTagged layout) (count_of_fields layout) found edges
      → AreEdgesInt32 edges → IsAnswerInt32 found → AllAlike layout found edges
  all_fit found [] all small number = tt
  all_fit found (edge ∷ edges) all small number =
      (alike_fits edge.found found all.0 small.0 number, all_fit found edges all.1 small.1 number)

  module _ (heap : Heap) (small : IsHeapInt32 heap) (v : Value) (number : Numbers.IsInt32 v) (nodes : List NodeTree)
      (all : AreNodesInt32 nodes) where
    from_fits : (steps k : ℕ)
        → TestsFrom (AreTagged layout) (count_of_fields layout) (slice_get (forwards heap)) v nodes steps k
        → FitsFrom layout (cell_at heap) v nodes steps k
    from_fits zero k kinds = tt
    from_fits (suc steps) k kinds = by_node (slice_get nodes k) refl (from_fits steps) kinds
      where
        by_node : (node : Option NodeTree) → slice_get nodes k ≡ node
            → ((j : ℕ) → TestsFrom (AreTagged layout) (count_of_fields layout) (slice_get (forwards heap)) v nodes steps j
            → FitsFrom layout (cell_at heap) v nodes steps j)
            → TestsNode (AreTagged layout) (count_of_fields layout) (slice_get (forwards heap)) v
            (TestsFrom (AreTagged layout) (count_of_fields layout) (slice_get (forwards heap)) v nodes steps) node
            → FitsNode layout (cell_at heap) v (FitsFrom layout (cell_at heap) v nodes steps) node
        by_node None here later kinds = tt
        by_node (Some (chooses row)) here later kinds = tt
        by_node (Some (tests at edges otherwise)) here later kinds = λ w seen found answer.
            let value = value_seen heap small at v w seen number in
            let told = answer_seen heap small w found answer value.1 in
            let kind = kinds w value.0 found told.0 in (
              shows_fits w found kind.0,
              (
                all_fit found edges kind.1.0 (node_int32 nodes k (tests at edges otherwise) here all) told.1,
                λ j next. later j (kind.1.1 j next),
              ),
            )

-- ---- states

pub control_fits : (layout : Layout) (heap : Heap) (control : CountedControl)
    → HasKinds (AreTagged layout) (count_of_fields layout) heap control → IsControlInt32 control → IsHeapInt32 heap
    → FitsControl layout heap control
control_fits layout heap (running (give x) environment joins) kinds numbers small = tt
control_fits layout heap (running (tail_call f arguments) environment joins) kinds numbers small = tt
control_fits layout heap (running (case x decisions arms) environment joins) kinds numbers small =
    from_fits layout heap small (value_of environment x) (value_int32 environment x numbers.bound) decisions numbers.ahead.0
    (length decisions) 0 kinds
control_fits layout heap (running (compute x form arguments rest) environment joins) kinds numbers small =
    form_fits form (map (value_of environment) arguments) kinds (values_int32 environment arguments numbers.bound)
control_fits layout heap (running (inside x block rest) environment joins) kinds numbers small = tt
control_fits layout heap (running (read x c fields rest) environment joins) kinds numbers small = tt
control_fits layout heap (running (open_cell x c fields used rest) environment joins) kinds numbers small = tt
control_fits layout heap (running (if_unique x c fields used rest) environment joins) kinds numbers small = tt
control_fits layout heap (running (dup x rest) environment joins) kinds numbers small = tt
control_fits layout heap (running (drop x rest) environment joins) kinds numbers small = tt
control_fits layout heap (stopped by) kinds numbers small = tt
control_fits layout heap stuck kinds numbers small = tt
