-- Rows of loads, dups and drops; readings and openings.
use Rattle.rv_cells.proofs.LineCosts.{most_moves, row_cost}
use Rattle.std.proofs.Common.{◌≡◌, ◌≤◌, ℕ, zero, suc, ◌+◌, true, false, inl, inr, List, [], ◌∷◌, ◌++◌, length, map, Option, Some, None, refl, sym, ◌∙◌, ap, subst, arith}
use Rattle.std.proofs.lemmas.Bool.{cases_eq}
use Rattle.std.proofs.lemmas.List.{length-map}
use Rattle.kk_syntax.specs.Shapes.{is_among}
use Rattle.kk_source.specs.State.{Value, integer, unit, constant, place}
use Rattle.kk_source.specs.Live.{value_of}
use Rattle.kk_source.specs.Matching.{and_then}
use Rattle.kk_source.specs.Sound.{AllWithin}
use Rattle.kk_core.specs.CoreMachine.{bind_fields}
use Rattle.kk_counted.specs.Heaps.{Held, Heap, count_in, count_at, set_count, more, fields_held, dup_value, dup_all, drop_value, drop_all}
use Rattle.kk_counted.specs.CountedMachine.{Named, cell_named}
use Rattle.kk_counted.specs.Keeping.{values_of}
use Rattle.kk_counted.specs.Spending.{AllAmong}
use Rattle.kk_counted.proofs.CountChanges.{count_set}
use Rattle.kk_counted.specs.Lowerable.{bound_list, AreBelow}
use Rattle.rv_isa.specs.Numbers.{cell_words}
use Rattle.rv_isa.specs.AsmCode.{Line}
use Rattle.rv_isa.specs.Frames.{Frame}
use Rattle.cell_heap.specs.Blocks.{own}
use Rattle.cell_runtime.specs.World.{World}
use Rattle.rv_cells.specs.Layout.{Layout, word_in, words_in, FitFields, first_field}
use Rattle.rv_cells.specs.CountedCells.{AreFrom}
use Rattle.rv_cells.specs.CellLines.{AllLoads, dup_lines, drop_lines, dups_lines, drops_lines}
use Rattle.rv_cells.proofs.NameContents.{some-is, held_within, held_other, held_count, held_fields}
use Rattle.rv_cells.proofs.Words.{all_within_more, load_own, cell_named as cell_of_name}
use Rattle.rv_lower.proofs.FormEffects.{put_other}
use Rattle.rv_cells.proofs.Values.{put_list, among_none, has_list, named_made, list_grown, list_spared}
use Rattle.rv_cells.proofs.Drops.{fits_length}
use Rattle.rv_cells.proofs.Runs.{Target, turn_of, Runs, runs_none, runs_then}
use Rattle.rv_cells.proofs.CellActions.{put_in, load_runs}
use Rattle.rv_cells.proofs.Spots.{Spot, Known, Here, Did, did_here, did_none, did_then, with_heap, AreSmall, Changed, dup_did, drop_did}

pub then_some : {A B : Type 0} (o : Option A) (f : A → Option B) (b : B) → and_then o f ≡ Some b → (a : A) × (o ≡ Some a)
    × (f a ≡ Some b)
then_some None f b is = cc
then_some (Some a) f b is = (a, refl, is)

-- ---- loads

module _ (target : Target) (rest : List Line) (fs : List (Frame Line)) (world : World) (cell at : ℕ) (words : ℕ → Option ℕ)
    (is : world.cells.blocks at ≡ own words) where
  pub loads_run : (xs ws : List ℕ) (i : ℕ) (lines : List Line) (f : Frame Line) → AllLoads cell i xs lines → f.cells cell ≡ Some at
      → AreFrom words i ws → length xs ≡ length ws → i + length xs ≤ cell_words → is_among xs cell ≡ false
      → Runs target (row_cost xs (most_moves + 2)) (length xs) (turn_of (lines ++ rest) f fs world)
      (turn_of rest (record f { cells = put_list xs ws f.cells }) fs world)
  loads_run [] ws i lines f loads there known many few apart =
      subst (λ ls. Runs target 0 0 (turn_of (ls ++ rest) f fs world) (turn_of rest f fs world)) (sym loads)
      (runs_none target (turn_of rest f fs world))
  loads_run (x ∷ xs) [] i lines f loads there known many few apart = absurd (omega (arith, many))
  loads_run (x ∷ xs) (w ∷ ws) i lines f loads there known many few apart =
      let beside = among_none x xs cell apart in
      let next = put_in x w f in
      let first = load_runs target (loads.1 ++ rest) f fs world cell i x at w loads.0 loads.2 there
      (load_own world.cells at i w words is (omega (arith, few)) known.0) in
      let later = loads_run xs ws (suc i) loads.1 next loads.3 (put_other x cell w f.cells beside.0 ∙ there) known.1
      (omega (arith, many)) (omega (arith, few)) beside.1 in
      let one_more : 1 + length xs ≡ suc (length xs) = omega arith in
      subst (λ ls. Runs target (row_cost (x ∷ xs) (most_moves + 2)) (suc (length xs)) (turn_of (ls ++ rest) f fs world)
      (turn_of rest (record f { cells = put_list (x ∷ xs) (w ∷ ws) f.cells }) fs world)) (sym loads.4)
      (subst (λ n. Runs target (row_cost (x ∷ xs) (most_moves + 2)) n (turn_of ((loads.0 ∷ loads.1) ++ rest) f fs world)
      (turn_of rest (record f { cells = put_list (x ∷ xs) (w ∷ ws) f.cells }) fs world)) one_more
      (runs_then target (most_moves + 2) (row_cost xs (most_moves + 2)) 1 (length xs)
      (turn_of (loads.0 ∷ (loads.1 ++ rest)) f fs world) (turn_of (loads.1 ++ rest) next fs world)
      (turn_of rest (record next { cells = put_list xs ws next.cells }) fs world) first later))

-- ---- readings

abbrev pub with_fields : Layout → Spot → List ℕ → List Value → Spot
with_fields layout s fields vs =
    record s {
      bound = bound_list fields s.bound;
      environment = bind_fields fields vs s.environment;
      frame = record s.frame { cells = put_list fields (words_in layout s.address vs) s.frame.cells };
    }

-- the fields of a cell of that constructor are to be bound
pub record IsReading (known : Known) (s : Spot) (x c : ℕ) (fields : List ℕ) (named : Named) : Type 0 where
  pub bound : is_among s.bound x ≡ true
  pub is : cell_named c (length fields) s.heap (value_of s.environment x) ≡ Some named
  pub below : AreBelow known.base fields
  pub apart : is_among fields x ≡ false
  pub kinds : map known.holds fields ≡ known.layout.fields c
  pub older : (name : ℕ) → AllWithin name (fields_held s.heap name)

within_all : (n m : ℕ) (vs : List Value) → n ≤ m → AllWithin n vs → AllWithin m vs
within_all n m vs le within = all_within_more n m vs le within

-- the words of the fields stand in the cell
pub record FieldsThere (known : Known) (s : Spot) (x : ℕ) (fields : List ℕ) (named : Named) : Type 0 where
  pub there : s.frame.cells x ≡ Some (s.address named.at)
  pub block : ℕ → Option ℕ
  pub is : s.world.cells.blocks (s.address named.at) ≡ own block
  pub words : AreFrom block first_field (words_in known.layout s.address named.fields)
  pub many : length fields ≡ length (words_in known.layout s.address named.fields)
  pub few : first_field + length fields ≤ cell_words
  pub here : Here known (with_fields known.layout s fields named.fields)

pub fields_there : (known : Known) (s : Spot) (x c : ℕ) (fields : List ℕ) (named : Named) → Here known s
    → IsReading known s x c fields named → FieldsThere known s x fields named
fields_there known s x c fields named here reads =
    let made = named_made c (length fields) s.heap (value_of s.environment x) named reads.is in
    let count = held_count s.heap named.at made.held made.there in
    let stands = cell_of_name here.follows named.at (let some = made.counted in omega arith) in
    let same : stands.held ≡ made.held = some-is (sym stands.there ∙ made.there) in
    let vs : stands.held.cell.fields ≡ named.fields = ap (λ (h : Held). h.cell.fields) same ∙ made.fields in
    let by : stands.held.cell.made_by ≡ c = ap (λ (h : Held). h.cell.made_by) same ∙ made.made in
    let fits : FitFields (known.layout.fields c) named.fields =
    subst (λ d. FitFields (known.layout.fields d) named.fields) by
    (subst (FitFields (known.layout.fields stands.held.cell.made_by)) vs stands.shows.fits) in
    let many = fits_length (known.layout.fields c) named.fields fits in
    let few = known.narrow.few c in
    let same_many : length named.fields ≡ length fields = ap length (sym made.fields) ∙ made.many in
    let length_is : length (words_in known.layout s.address named.fields) ≡ length named.fields = length-map named.fields
    (word_in known.layout s.address) in
    let low = held_within s.heap named.at made.held made.there in
    record {
      there = here.values.words x reads.bound ∙ ap (λ v. Some (word_in known.layout s.address v)) made.is;
      block = stands.words;
      is = stands.is;
      words = subst (λ us. AreFrom stands.words first_field (words_in known.layout s.address us)) vs stands.shows.fields;
      many = omega arith;
      few = omega arith;
      here = record {
        follows = here.follows;
        values = has_list fields named.fields here.values reads.below
            (subst (λ bits. FitFields bits named.fields) (sym reads.kinds) fits)
            (within_all named.at (length s.heap) named.fields (omega (arith, low))
            (subst (AllWithin named.at) (held_fields s.heap named.at made.held made.there ∙ made.fields)
            (reads.older named.at)));
      };
    }

-- fields that are loaded in their order
pub read_did : (known : Known) (rest : List Line) (fs : List (Frame Line)) (s : Spot) (x c : ℕ) (fields : List ℕ)
    (lines : List Line) (named : Named) → Here known s → IsReading known s x c fields named → AllLoads x first_field fields lines
    → Did known (row_cost fields (most_moves + 2)) lines rest fs s (with_fields known.layout s fields named.fields)
read_did known rest fs s x c fields lines named here reads loads =
    let words = words_in known.layout s.address named.fields in
    let are = fields_there known s x c fields named here reads in
    did_here known (row_cost fields (most_moves + 2)) lines rest fs s (with_fields known.layout s fields named.fields)
    (row_cost fields (most_moves + 2)) (length fields) (omega arith)
    (loads_run known.target rest fs s.world x (s.address named.at) are.block are.is fields words first_field lines s.frame loads
    are.there are.words are.many are.few reads.apart)
    are.here refl refl (λ at is. refl) (λ at is. refl) (λ z none. list_grown fields s.bound z none)
    (λ z low none. list_spared fields words s.bound z s.frame.cells none)

-- ---- dups and drops

more_count : (at n : ℕ) (heap next : Heap) (name : ℕ) → count_at heap at ≡ n → more at n heap ≡ Some next → count_at next name ≤ suc
    (count_at heap name)
more_count at zero heap next name counts is = cc
more_count at (suc n) heap next name counts is =
    let same : set_count at (suc (suc n)) heap ≡ next = some-is is in
    subst (λ h. count_at h name ≤ suc (count_at heap name)) same
    (elim (cases_eq at name) [
      | inl e ↦
          (let now = count_set at (suc (suc n)) n heap counts in
          let there = ap (count_at (set_count at (suc (suc n)) heap)) e in
          let was = ap (count_at heap) e in omega arith)
      | inr differ ↦ (let other = ap count_in (held_other at (suc (suc n)) name heap differ) in omega arith)
    ])

dup_count : (v : Value) (heap next : Heap) (name : ℕ) → dup_value v heap ≡ Some next → count_at next name ≤ suc (count_at heap name)
dup_count (integer n) heap next name is = let same = ap (λ h. count_at h name) (some-is is) in omega arith
dup_count unit heap next name is = let same = ap (λ h. count_at h name) (some-is is) in omega arith
dup_count (constant c) heap next name is = let same = ap (λ h. count_at h name) (some-is is) in omega arith
dup_count (place at) heap next name is = more_count at (count_at heap at) heap next name refl is

module _ (known : Known) (rest : List Line) (fs : List (Frame Line)) where
  pub dups_did : (xs : List ℕ) (s : Spot) (next : Heap) → Here known s → AllAmong xs s.bound
      → dup_all (values_of s.environment xs) s.heap ≡ Some next → AreSmall (length xs) s.heap
      → Changed known (row_cost xs (most_moves + 5)) (dups_lines known.holds xs) rest fs s next
  dups_did [] s next here bound is small = (
    s.owners,
    s.world.cells,
    subst (λ h. Did known 0 [] rest fs s (with_heap s h s.owners s.world.cells)) (some-is is)
        (did_none known rest fs s here),
  )
  dups_did (x ∷ xs) s next here bound is small =
      let first = then_some (dup_value (value_of s.environment x) s.heap) (dup_all (values_of s.environment xs)) next is in
      let one = dup_did known (dups_lines known.holds xs ++ rest) fs s here x bound.0 first.0 first.1
      (λ name. let all = small name in omega arith) in
      let mid = with_heap s first.0 one.0 one.1 in
      let others = dups_did xs mid next one.2.here bound.1 first.2
      (λ name. let all = small name in let more = dup_count (value_of s.environment x) s.heap first.0 name first.1 in omega
      arith) in (
        others.0,
        others.1,
        did_then known (most_moves + 5) (row_cost xs (most_moves + 5)) (dup_lines known.holds x)
            (dups_lines known.holds xs) rest fs s mid (with_heap s next others.0 others.1) one.2 others.2,
      )

  pub drops_did : (xs : List ℕ) (s : Spot) (next : Heap) → Here known s → AllAmong xs s.bound
      → drop_all (values_of s.environment xs) s.heap ≡ Some next
      → Changed known (row_cost xs (most_moves + 15)) (drops_lines known.holds xs) rest fs s next
  drops_did [] s next here bound is = (
    s.owners,
    s.world.cells,
    subst (λ h. Did known 0 [] rest fs s (with_heap s h s.owners s.world.cells)) (some-is is)
        (did_none known rest fs s here),
  )
  drops_did (x ∷ xs) s next here bound is =
      let first = then_some (drop_value (value_of s.environment x) s.heap) (drop_all (values_of s.environment xs)) next is in
      let one = drop_did known (drops_lines known.holds xs ++ rest) fs s here x bound.0 first.0 first.1 in
      let mid = with_heap s first.0 one.0 one.1 in
      let others = drops_did xs mid next one.2.here bound.1 first.2 in (
        others.0,
        others.1,
        did_then known (most_moves + 15) (row_cost xs (most_moves + 15)) (drop_lines known.holds x)
            (drops_lines known.holds xs) rest fs s mid (with_heap s next others.0 others.1) one.2 others.2,
      )
