-- Rows that are tried one after the other: each node moves on as its state asks.
use Rattle.std.proofs.Common.{◌≡◌, ℕ, ◌+◌, ◌-◌, ◌<◌, ◌≤◌, Bool, true, false, ◌&&◌, ◌||◌, Some, List, [], ◌∷◌, ◌++◌, length, inl, inr, refl, ap, ◌∙◌, subst, arith, length-append}
use Rattle.std.specs.Prelude.{slice_get, if◌then◌else◌, ◌==◌}
use Rattle.std.proofs.lemmas.Bool.{cases_Bool, eqb-true}
use Rattle.std.proofs.lemmas.Option.{none-some}
use Rattle.kk_source.specs.State.{Value, Store}
use Rattle.kk_core.specs.declared.decisions.Answer.{Answer}
use Rattle.kk_core.specs.Decisions.{NodeTree, chooses, tests, found_at, is_answer}
use Rattle.kk_match.specs.Parts.{Part}
use Rattle.kk_match.specs.Graphs.{LineTree, StateTree, agrees, weight}
use Rattle.kk_match.specs.Built.{Names, InRow, no_state, one_more}
use Rattle.kk_match.specs.InTurn.{with_part, with_parts, with_row, with_rows}
use Rattle.kk_match.proofs.StateAfterAnswer.{AreBelow}
use Rattle.kk_match.proofs.EdgeAnswers.{either, swapped, unlike}
use Rattle.kk_match.proofs.RowFit.{fits, first_fit, AreReady}
use Rattle.kk_match.proofs.Places.{get_left, get_last, get_push}
use Rattle.kk_match.proofs.NodeRuns.{Moves, Turns, IsSound, kind_between, kind_itself, as_long}

-- ---- behind the last one

pub parts_push : (other : ℕ) (qs : List Part) (q : Part) (nodes : List NodeTree) → with_parts other (qs ++ q ∷ []) nodes ≡ with_parts other qs (with_part other q nodes)
parts_push other [] q nodes = refl
parts_push other (p ∷ ps) q nodes = ap (with_part other p) (parts_push other ps q nodes)

pub rows_push : (lines : StateTree) (line : LineTree) (nodes : List NodeTree) → with_rows (lines ++ line ∷ []) nodes ≡ with_rows lines (with_row line nodes)
rows_push [] line nodes = refl
rows_push (one ∷ lines) line nodes = ap (with_row one) (rows_push lines line nodes)

-- ---- the states of the nodes

-- a row with these parts left, and the rows behind it
abbrev row_with : ℕ → List Part → StateTree → StateTree
row_with row left lines = record { row = row; left = left } ∷ lines

abbrev states_of_parts : ℕ → StateTree → List Part → List StateTree → List StateTree
states_of_parts row lines [] states = states
states_of_parts row lines (q ∷ qs) states = states_of_parts row lines qs states ++ row_with row (q ∷ qs) lines ∷ []

abbrev pub states_of_rows : StateTree → List StateTree
states_of_rows [] = []
states_of_rows (line ∷ lines) = states_of_parts line.row lines line.left (states_of_rows lines ++ row_with line.row [] lines ∷ [])

-- where the first row of a state does not fit, another state does as well
abbrev Falls : List ℕ → StateTree → StateTree → Type 0
Falls types lines other =
    (store : Store) (v : Value) → AreReady types store v lines → AreReady types store v other × ((row : ℕ) → first_fit store v lines ≡ Some row → first_fit store v other ≡ Some row)

-- the nodes of the parts of a row
record PartsDone (types : List ℕ) (row : ℕ) (lines : StateTree) (other : ℕ) (behind : StateTree) (qs : List Part) (states : List StateTree) (nodes : List NodeTree) : Type 0 where
  pub sound : InRow (IsSound types) states nodes
  pub some : 0 < length nodes
  pub falls : Names states other behind
  pub ends : Names states (length nodes - 1) (row_with row qs lines)

-- the test of a part moves on
part_sound : (types : List ℕ) (row : ℕ) (lines : StateTree) (other : ℕ) (behind : StateTree) (q : Part) (qs : List Part) (states : List StateTree) (nodes : List NodeTree) → Falls types lines behind
    → weight behind ≤ weight lines → PartsDone types row lines other behind qs states nodes
    → Turns types states (row_with row (q ∷ qs) lines) q.at (record { found = q.asked; next = length nodes - 1 } ∷ []) (Some other)
part_sound types row lines other behind q qs states nodes falls light done = record {
  asked = q.asked;
  is_test = refl;
  of_kind = λ found kind. (kind_between types q.asked found q.asked kind (kind_itself types q.asked found kind), tt);
  few = omega arith;
  leads = λ j among. elim (either (other == j) ((length nodes - 1) == j || false) among) [
    | inl here ↦ (
      behind,
      subst (λ n. Names states n behind) (eqb-true other j here) done.falls,
      omega (arith, light),
      omega (arith, light),
    )
    | inr last ↦ (
      row_with row qs lines,
      subst (λ n. Names states n (row_with row qs lines)) (eqb-true (length nodes - 1) j (only ((length nodes - 1) == j) last)) done.ends,
      omega arith,
      omega arith,
    )
  ];
  moves = λ found kind. elim (cases_Bool (is_answer q.asked found)) [
    | inl same ↦ (length nodes - 1, ap (λ (b : Bool). if b then Some (length nodes - 1) else Some other) same, row_with row qs lines, done.ends, on found (swapped found q.asked same))
    | inr differ ↦ (other, ap (λ (b : Bool). if b then Some (length nodes - 1) else Some other) differ, behind, done.falls, out found (unlike found q.asked differ))
  ];
}
  where
    only : (b : Bool) → (b || false) ≡ true → b ≡ true
    only true e = refl
    only false e = e

    on : (found : Answer) → is_answer found q.asked ≡ true → Moves types q.at found (row_with row (q ∷ qs) lines) (row_with row qs lines)
    on found same = λ store v is ready.
        let agreed : agrees (found_at (slice_get store) q.at v) q.asked ≡ true = ap (λ o. agrees o q.asked) is ∙ same in (
          (ready.0.1 agreed, ready.1),
          λ r fit. subst (λ (b : Bool). (if b && fits store v qs then Some row else first_fit store v lines) ≡ Some r) agreed fit,
        )

    out : (found : Answer) → is_answer found q.asked ≡ false → Moves types q.at found (row_with row (q ∷ qs) lines) behind
    out found differ = λ store v is ready.
        let differs : agrees (found_at (slice_get store) q.at v) q.asked ≡ false = ap (λ o. agrees o q.asked) is ∙ differ in
        let fall = falls store v ready.1 in (
          fall.0,
          λ r fit. fall.1 r (subst (λ (b : Bool). (if b && fits store v qs then Some row else first_fit store v lines) ≡ Some r) differs fit),
        )

parts_done : (types : List ℕ) (row : ℕ) (lines : StateTree) (other : ℕ) (behind : StateTree) (qs : List Part) (states : List StateTree) (nodes : List NodeTree) → Falls types lines behind
    → weight behind ≤ weight lines → PartsDone types row lines other behind [] states nodes → PartsDone types row lines other behind qs (states_of_parts row lines qs states) (with_parts other qs nodes)
parts_done types row lines other behind [] states nodes falls light done = done
parts_done types row lines other behind (q ∷ qs) states nodes falls light done =
    one (states_of_parts row lines qs states) (with_parts other qs nodes) (parts_done types row lines other behind qs states nodes falls light done)
  where
    one : (states : List StateTree) (nodes : List NodeTree) → PartsDone types row lines other behind qs states nodes
        → PartsDone types row lines other behind (q ∷ qs) (states ++ row_with row (q ∷ qs) lines ∷ []) (with_part other q nodes)
    one states nodes rest =
        let test = tests q.at (record { found = q.asked; next = length nodes - 1 } ∷ []) (Some other) in
        let long = as_long (IsSound types) states nodes rest.sound in
        let more = length-append nodes (test ∷ []) in
        let place : length states ≡ length (nodes ++ test ∷ []) - 1 = omega (arith, long, more) in record {
          sound = one_more (row_with row (q ∷ qs) lines) test rest.sound (part_sound types row lines other behind q qs states nodes falls light rest);
          some = omega (arith, more);
          falls = get_left states (row_with row (q ∷ qs) lines ∷ []) other behind rest.falls;
          ends = subst (λ n. Names (states ++ row_with row (q ∷ qs) lines ∷ []) n (row_with row (q ∷ qs) lines)) place (get_last states (row_with row (q ∷ qs) lines));
        }

-- ---- the rows

-- the nodes of rows, whose last one is that of all of them
pub record RowsDone (types : List ℕ) (lines : StateTree) (states : List StateTree) (nodes : List NodeTree) : Type 0 where
  pub sound : InRow (IsSound types) states nodes
  pub some : 0 < length nodes
  pub ends : Names states (length nodes - 1) lines

row_done : (types : List ℕ) (line : LineTree) (lines behind : StateTree) (states : List StateTree) (nodes : List NodeTree) → Falls types lines behind
    → weight behind ≤ weight lines → InRow (IsSound types) states nodes
    → Names (states ++ row_with line.row [] lines ∷ []) (length nodes - 1) behind
    → RowsDone types (line ∷ lines) (states_of_parts line.row lines line.left (states ++ row_with line.row [] lines ∷ [])) (with_row line nodes)
row_done types line lines behind states nodes falls light sound named =
    let long = as_long (IsSound types) states nodes sound in
    let more = length-append nodes (chooses line.row ∷ []) in
    let place : length states ≡ length (nodes ++ chooses line.row ∷ []) - 1 = omega (arith, long, more) in
    let begins : PartsDone types line.row lines (length nodes - 1) behind [] (states ++ row_with line.row [] lines ∷ []) (nodes ++ chooses line.row ∷ []) = record {
      sound = one_more (row_with line.row [] lines) (chooses line.row) sound (refl, refl);
      some = omega (arith, more);
      falls = named;
      ends = subst (λ n. Names (states ++ row_with line.row [] lines ∷ []) n (row_with line.row [] lines)) place (get_last states (row_with line.row [] lines));
    } in
    let done = parts_done types line.row lines (length nodes - 1) behind line.left (states ++ row_with line.row [] lines ∷ []) (nodes ++ chooses line.row ∷ []) falls light begins in
    record { sound = done.sound; some = done.some; ends = done.ends }

pub rows_done : (types : List ℕ) (line : LineTree) (lines : StateTree) → RowsDone types (line ∷ lines) (states_of_rows (line ∷ lines)) (with_rows (line ∷ lines) [])
rows_done types line [] =
    row_done types line [] (row_with line.row [] []) [] [] (λ store v ready. ((tt, tt), λ row fit. absurd (none-some row fit))) (omega arith) no_state refl
rows_done types line (next ∷ lines) =
    let rest = rows_done types next lines in
    row_done types line (next ∷ lines) (next ∷ lines) (states_of_rows (next ∷ lines)) (with_rows (next ∷ lines) []) (λ store v ready. (ready, λ row fit. fit)) (omega arith) rest.sound
    (get_left (states_of_rows (next ∷ lines)) (row_with line.row [] (next ∷ lines) ∷ []) (length (with_rows (next ∷ lines) []) - 1) (next ∷ lines) rest.ends)

-- ---- the rows of the states

abbrev pub AllBelow : ℕ → List StateTree → Type 0
AllBelow rows states = (k : ℕ) (state : StateTree) → Names states k state → AreBelow rows state

each_push : (P : StateTree → Type 0) (states : List StateTree) (last : StateTree) → ((k : ℕ) (state : StateTree) → Names states k state → P state) → P last
    → (k : ℕ) (state : StateTree) → Names (states ++ last ∷ []) k state → P state
each_push P states last each here k state named = elim (get_push states last state k named) [
  | inl before ↦ each k state before
  | inr at ↦ subst P at.1 here
]

parts_below : (rows row : ℕ) (lines : StateTree) (qs : List Part) (states : List StateTree) → row < rows → AreBelow rows lines → AllBelow rows states → AllBelow rows (states_of_parts row lines qs states)
parts_below rows row lines [] states here behind below = below
parts_below rows row lines (q ∷ qs) states here behind below =
    each_push (AreBelow rows) (states_of_parts row lines qs states) (row_with row (q ∷ qs) lines) (parts_below rows row lines qs states here behind below) (here, behind)

pub rows_below : (rows : ℕ) (lines : StateTree) → AreBelow rows lines → AllBelow rows (states_of_rows lines)
rows_below rows [] below = λ k state named. absurd (none-some state named)
rows_below rows (line ∷ lines) below =
    parts_below rows line.row lines line.left (states_of_rows lines ++ row_with line.row [] lines ∷ []) below.0 below.1
    (each_push (AreBelow rows) (states_of_rows lines) (row_with line.row [] lines) (rows_below rows lines below.1) (below.0, below.1))

-- ---- the parts that are left in the states

abbrev pub AllLight : ℕ → List StateTree → Type 0
AllLight most states = (k : ℕ) (state : StateTree) → Names states k state → weight state ≤ most

abbrev IsLight : ℕ → StateTree → Type 0
IsLight most state = weight state ≤ most

parts_light : (most row : ℕ) (lines : StateTree) (qs : List Part) (states : List StateTree) → length qs + weight lines ≤ most → AllLight most states
    → AllLight most (states_of_parts row lines qs states)
parts_light most row lines [] states few light = light
parts_light most row lines (q ∷ qs) states few light =
    each_push (IsLight most) (states_of_parts row lines qs states) (row_with row (q ∷ qs) lines)
    (parts_light most row lines qs states (omega (arith, few)) light) few

pub rows_light : (most : ℕ) (lines : StateTree) → weight lines ≤ most → AllLight most (states_of_rows lines)
rows_light most [] few = λ k state named. absurd (none-some state named)
rows_light most (line ∷ lines) few =
    parts_light most line.row lines line.left (states_of_rows lines ++ row_with line.row [] lines ∷ []) few
    (each_push (IsLight most) (states_of_rows lines) (row_with line.row [] lines) (rows_light most lines (omega (arith, few))) (omega (arith, few)))

-- ---- the positions of the parts in the states

-- positions are shorter than so much
abbrev pub PartsShort : ℕ → List Part → Type 0
PartsShort most [] = Unit {0}
PartsShort most (q ∷ qs) = (length q.at < most) × PartsShort most qs

abbrev pub AreShort : ℕ → StateTree → Type 0
AreShort most [] = Unit {0}
AreShort most (line ∷ lines) = PartsShort most line.left × AreShort most lines

abbrev pub AllShort : ℕ → List StateTree → Type 0
AllShort most states = (k : ℕ) (state : StateTree) → Names states k state → AreShort most state

parts_all_short : (most row : ℕ) (lines : StateTree) (qs : List Part) (states : List StateTree) → PartsShort most qs
    → AreShort most lines → AllShort most states → AllShort most (states_of_parts row lines qs states)
parts_all_short most row lines [] states here behind short = short
parts_all_short most row lines (q ∷ qs) states here behind short =
    each_push (AreShort most) (states_of_parts row lines qs states) (row_with row (q ∷ qs) lines)
    (parts_all_short most row lines qs states here.1 behind short) (here, behind)

pub rows_short : (most : ℕ) (lines : StateTree) → AreShort most lines → AllShort most (states_of_rows lines)
rows_short most [] short = λ k state named. absurd (none-some state named)
rows_short most (line ∷ lines) short =
    parts_all_short most line.row lines line.left (states_of_rows lines ++ row_with line.row [] lines ∷ []) short.0 short.1
    (each_push (AreShort most) (states_of_rows lines) (row_with line.row [] lines) (rows_short most lines short.1) (tt, short.1))
