-- The rows of the routine that gives up a reference, from state to state.
use Rattle.std.proofs.Common.{◌≡◌, ◌≢◌, ℕ, suc, ◌+◌, ◌*◌, ◌/◌, ◌%◌, ◌^◌, ◌<◌, ◌≤◌, inl, inr, List, [], ◌∷◌, length, refl, sym, ap, ◌∙◌, arith}
use Rattle.std.proofs.lemmas.Bool.{cases_eq}
use Rattle.rv_isa.specs.Bytes.{with_number}
use Rattle.rv_isa.specs.Processor.{Processor, value, put}
use Rattle.rv_isa.specs.Environment.{stepped}
use Rattle.rv_isa.specs.Standing.{Code, Has, Stands, LeadsIn}
use Rattle.rv_isa.proofs.Standing.{LeadsIn-stands, LeadsIn-then}
use Rattle.rv_isa.specs.Numbers.{cell_size}
use Rattle.cell_heap.specs.Cells.{Body, Heap, free, waiting, counted, changed, chosen}
use Rattle.cell_heap.specs.Pool.{Pool, end_of, IsCell}
use Rattle.cell_heap.specs.Memory.{word}
use Rattle.cell_heap.proofs.Frames.{cell-inside}
use Rattle.cell_heap.proofs.CellsAfterDrop.{IsLeft-counted, IsLeft-opened, IsLeft-was_counted, IsLeft-was_waiting}
use Rattle.cell_heap.proofs.WaitChains.{AreCells-counted, AreCells-lower, AreCells-wait, AreCells-waiting, AreCells-opened, AreFields-body, AreFields-first, IsWaitChain-below, SameWords-first}
use Rattle.cell_heap.proofs.FieldMasks.{chosen-none, chosen-set, chosen-clear, half-below, mask-none}
use Rattle.cell_runtime.proofs.DropRows.{drop_code, row_odd, row_lower, row_wait, row_scanned, row_reference, row_skip, row_done, row_some, row_open}
use Rattle.cell_runtime.proofs.DropStates.{IsQuiet, IsQuiet-then, count-stored, kept-5, kept-8, kept-10, kept-11, kept-12, kept-13, IsWithin, IsScanning, first-use, field-use, Comes, Comes-from}

-- ---- what the next fields come to

-- no field is left, or one is about to be given up
pub record IsScanned (code : Code) (pool : Pool) (first heap : Heap) (waits frees : List ℕ) (goal most : ℕ) (s : Processor) : Type 0 where
  pub last : Processor
  pub count : ℕ
  pub leads : LeadsIn code count s last
  pub few : count ≤ most
  pub quiet : IsQuiet first s last
  pub way : value last.registers 1 ≡ value s.registers 1
  pub pc_is : last.pc ≡ goal
  pub within : IsWithin code pool first heap waits frees last

pub record IsChosen (code : Code) (pool : Pool) (first heap : Heap) (waits frees : List ℕ) (x : ℕ) (rest xs : List ℕ) (goal : ℕ) (s : Processor) : Type 0 where
  pub mask : ℕ
  pub left : List ℕ
  pub scanned : IsScanned code pool first heap waits frees goal (7 * length xs) s
  pub fewer : scanned.count + 1 + 7 * length left ≤ 7 * length xs
  pub reference_is : value scanned.last.registers 10 ≡ x
  pub scanning : IsScanning pool mask left scanned.last
  pub rest_is : rest ≡ chosen mask left

-- a field is passed over, which is no reference
record IsPassed (code : Code) (pool : Pool) (first heap : Heap) (waits frees : List ℕ) (mask : ℕ) (ys : List ℕ) (s t : Processor) : Type 0 where
  leads : LeadsIn code 7 s t
  quiet : IsQuiet first s t
  within : IsWithin code pool first heap waits frees t
  scanning : IsScanning pool (mask / 2) ys t

mask-clear : (mask : ℕ) → (mask % 2 ≡ 1 → ⊥) → mask % 2 ≡ 0
mask-clear mask other = grind arith

IsScanned-from : {code : Code} {pool : Pool} {first heap : Heap} {waits frees : List ℕ} {goal most k n : ℕ} {s t : Processor} → LeadsIn code k s t → IsQuiet first s t → value t.registers 1 ≡ value s.registers 1 → k + most ≤ n
    → IsScanned code pool first heap waits frees goal most t → IsScanned code pool first heap waits frees goal n s
IsScanned-from {most = most} {k} {n} leads quiet way fits scanned =
    let few = scanned.few in
    record {
      last = scanned.last;
      count = k + scanned.count;
      leads = LeadsIn-then leads scanned.leads;
      few = omega arith;
      quiet = IsQuiet-then quiet scanned.quiet;
      way = scanned.way ∙ way;
      pc_is = scanned.pc_is;
      within = scanned.within;
    }

IsChosen-from : {code : Code} {pool : Pool} {first heap : Heap} {waits frees : List ℕ} {x goal : ℕ} {rest xs : List ℕ} {s t : Processor} → LeadsIn code 7 s t → IsQuiet first s t → value t.registers 1 ≡ value s.registers 1 → (y : ℕ)
    → IsChosen code pool first heap waits frees x rest xs goal t → IsChosen code pool first heap waits frees x rest (y ∷ xs) goal s
unfolding IsScanned-from
IsChosen-from leads quiet way y later =
    let fewer = later.fewer in
    record {
      mask = later.mask;
      left = later.left;
      scanned = IsScanned-from leads quiet way (omega arith) later.scanned;
      fewer = omega arith;
      reference_is = later.reference_is;
      scanning = later.scanning;
      rest_is = later.rest_is;
    }

more-fields : (n : ℕ) → 7 + (7 * n + 1) ≤ 7 * suc n + 1
more-fields n = omega arith

nil-cons : (x : ℕ) (xs : List ℕ) → [] ≢ x ∷ xs
nil-cons x xs e = cc

cons-parts : (x y : ℕ) (xs ys : List ℕ) → x ∷ xs ≡ y ∷ ys → (x ≡ y) × (xs ≡ ys)
cons-parts x y xs ys e = (cc, cc)

two_less : (most : ℕ) → 6 + most ≤ 8 + most
two_less most = omega arith

same_most : (most : ℕ) → 8 + most ≤ 8 + most
same_most most = omega arith

same_opened : (most : ℕ) → 1 + (8 + most) ≤ 9 + most
same_opened most = omega arith

not_first : (pool : Pool) (x : ℕ) → 0 < pool.first → IsCell pool x → x ≢ 0
not_first pool x some cell e = let behind = cell.behind in omega arith

fields_below : (pool : Pool) (x : ℕ) → x + cell_size ≤ end_of pool → end_of pool < 2 ^ 32 → x + 8 < 2 ^ 32
fields_below pool x inside below = omega arith

header_behind : (pool : Pool) (x : ℕ) → IsCell pool x → pool.first ≤ x + 4
header_behind pool x cell = let behind = cell.behind in omega arith

header_inside : (pool : Pool) (x : ℕ) → x + cell_size ≤ end_of pool → x + 4 + 4 ≤ end_of pool
header_inside pool x inside = omega arith

mask_of : (tag mask : ℕ) → tag < 256 → (tag + 256 * mask) / 256 ≡ mask
mask_of tag mask below = omega arith

-- the machine behind a field, which is y, with its bit in x5
abbrev behind_field : ℕ → ℕ → ℕ → ℕ → ℕ → Processor → Processor
behind_field mask y bit pc executed s = record s {
  registers = put 12 (mask / 2) (put 11 (value s.registers 11 + 4) (put 10 y (put 5 bit s.registers)));
  pc = pc;
  executed = executed;
}

module _ (first : Heap) (mask y bit pc executed : ℕ) (s : Processor) where
  quiet_field : IsQuiet first s (behind_field mask y bit pc executed s)
  quiet_field = record {
    registers = λ x kept.
        kept-12 (put 11 (value s.registers 11 + 4) (put 10 y (put 5 bit s.registers))) x kept (mask / 2)
        ∙ kept-11 (put 10 y (put 5 bit s.registers)) x kept (value s.registers 11 + 4)
        ∙ kept-10 (put 5 bit s.registers) x kept y
        ∙ kept-5 s.registers x kept bit;
    parts = refl;
    trace = refl;
    left = refl;
    others = λ x none. refl;
  }

  within_field : {code : Code} {pool : Pool} {heap : Heap} {waits frees : List ℕ} → Stands code (behind_field mask y bit pc executed s) → IsWithin code pool first heap waits frees s → IsWithin code pool first heap waits frees (behind_field mask y bit pc executed s)
  within_field stands within = record {
    stands = stands;
    cells = within.cells;
    heap_left = within.heap_left;
    way_back = record { aligned = within.way_back.aligned; in_range = within.way_back.in_range };
  }

  scanning_field : (pool : Pool) (ys : List ℕ) → IsScanning pool mask (y ∷ ys) s → IsScanning pool (mask / 2) ys (behind_field mask y bit pc executed s)
  scanning_field pool ys scanning = record {
    mask_is = refl;
    below = half-below mask (length ys) scanning.below;
    fields = scanning.fields.5;
  }

module _ (code : Code) (at : ℕ) (has : Has code at drop_code) (fits : at + 112 ≤ 2 ^ 32) (at_whole : at % 4 ≡ 0) (pool : Pool) (first : Heap) where
  -- ---- fields

  module _ (heap : Heap) (waits frees : List ℕ) where
    scan-now : (mask n : ℕ) (xs : List ℕ) (s : Processor) → mask ≡ 0 → s.pc ≡ at + 32 → IsWithin code pool first heap waits frees s → IsScanning pool mask xs s → 1 ≤ n → IsScanned code pool first heap waits frees (at + 72) n s
    scan-now mask n xs s none here within scanning some =
        let leads = row_scanned code at has fits at_whole s within.stands here (scanning.mask_is ∙ none) in
        record {
          last = stepped (at + 72) s;
          count = 1;
          leads = leads;
          few = some;
          quiet = record { registers = λ x kept. refl; parts = refl; trace = refl; left = refl; others = λ x none. refl };
          way = refl;
          pc_is = refl;
          within = record {
            stands = LeadsIn-stands leads within.stands;
            cells = within.cells;
            heap_left = within.heap_left;
            way_back = record { aligned = within.way_back.aligned; in_range = within.way_back.in_range };
          };
        }

    abbrev behind_clear : ℕ → ℕ → Processor → Processor
    behind_clear mask y s = behind_field mask y 0 (at + 32) (s.executed + 1 + 1 + 1 + 1 + 1 + 1 + 1) s

    passes : (y : ℕ) (ys : List ℕ) (mask : ℕ) (s : Processor) → s.pc ≡ at + 32 → IsWithin code pool first heap waits frees s → IsScanning pool mask (y ∷ ys) s → mask ≢ 0 → mask % 2 ≡ 0
        → IsPassed code pool first heap waits frees mask ys s (behind_clear mask y s)
    passes y ys mask s here within scanning some clear =
        let use_it = field-use within (value s.registers 11) y ys scanning.fields in
        let leads = row_skip code at has fits at_whole s mask (value s.registers 11) y within.stands here scanning.mask_is some clear refl use_it scanning.fields.0 in
        let executed = s.executed + 1 + 1 + 1 + 1 + 1 + 1 + 1 in
        record {
          leads = leads;
          quiet = quiet_field first mask y 0 (at + 32) executed s;
          within = within_field first mask y 0 (at + 32) executed s (LeadsIn-stands leads within.stands) within;
          scanning = scanning_field first mask y 0 (at + 32) executed s pool ys scanning;
        }

    -- no reference is among the fields that are left
    pub scan-none : (xs : List ℕ) (mask : ℕ) (s : Processor) → s.pc ≡ at + 32 → IsWithin code pool first heap waits frees s → IsScanning pool mask xs s → [] ≡ chosen mask xs
        → IsScanned code pool first heap waits frees (at + 72) (7 * length xs + 1) s
    scan-none [] mask s here within scanning none =
        scan-now mask 1 [] s (mask-none mask scanning.below) here within scanning (omega arith)
    scan-none (y ∷ ys) mask s here within scanning none =
        elim (cases_eq mask 0) [
          | inl empty ↦ scan-now mask (7 * length (y ∷ ys) + 1) (y ∷ ys) s empty here within scanning (omega arith)
          | inr some ↦
              elim (cases_eq (mask % 2) 1) [
                | inl set ↦ absurd (nil-cons y (chosen (mask / 2) ys) (none ∙ chosen-set mask y ys set))
                | inr other ↦
                    (let clear = mask-clear mask other in
                    let passed = passes y ys mask s here within scanning some clear in
                    let rest = scan-none ys (mask / 2) (behind_clear mask y s) refl passed.within passed.scanning (none ∙ chosen-clear mask y ys clear) in
                    IsScanned-from passed.leads passed.quiet refl (more-fields (length ys)) rest)
              ]
        ]

    -- the next reference among them
    pub scan-some : (x : ℕ) (rest xs : List ℕ) (mask : ℕ) (s : Processor) → s.pc ≡ at + 32 → IsWithin code pool first heap waits frees s → IsScanning pool mask xs s → x ∷ rest ≡ chosen mask xs
        → IsChosen code pool first heap waits frees x rest xs (at + 8) s
    scan-some x rest [] mask s here within scanning some = absurd (nil-cons x rest (sym some))
    scan-some x rest (y ∷ ys) mask s here within scanning given =
        elim (cases_eq mask 0) [
          | inl empty ↦ absurd (nil-cons x rest (sym (given ∙ ap (λ m. chosen m (y ∷ ys)) empty ∙ chosen-none (y ∷ ys))))
          | inr some ↦
              elim (cases_eq (mask % 2) 1) [
                | inl set ↦
                    (let use_it = field-use within (value s.registers 11) y ys scanning.fields in
                    let leads = row_reference code at has fits at_whole s mask (value s.registers 11) y within.stands here scanning.mask_is some set refl use_it scanning.fields.0 in
                    let parts = cons-parts x y rest (chosen (mask / 2) ys) (given ∙ chosen-set mask y ys set) in
                    record {
                      mask = mask / 2;
                      left = ys;
                      scanned = record {
                        last = behind_field mask y 1 (at + 8) (s.executed + 1 + 1 + 1 + 1 + 1 + 1) s;
                        count = 6;
                        leads = leads;
                        few = omega arith;
                        quiet = quiet_field first mask y 1 (at + 8) (s.executed + 1 + 1 + 1 + 1 + 1 + 1) s;
                        way = refl;
                        pc_is = refl;
                        within = within_field first mask y 1 (at + 8) (s.executed + 1 + 1 + 1 + 1 + 1 + 1) s (LeadsIn-stands leads within.stands) within;
                      };
                      fewer = omega arith;
                      reference_is = sym parts.0;
                      scanning = scanning_field first mask y 1 (at + 8) (s.executed + 1 + 1 + 1 + 1 + 1 + 1) s pool ys scanning;
                      rest_is = parts.1;
                    })
                | inr other ↦
                    (let clear = mask-clear mask other in
                    let passed = passes y ys mask s here within scanning some clear in
                    let later = scan-some x rest ys (mask / 2) (behind_clear mask y s) refl passed.within passed.scanning (given ∙ chosen-clear mask y ys clear) in
                    IsChosen-from passed.leads passed.quiet refl y later)
              ]
        ]

  -- ---- a reference is given up

  module _ (heap end : Heap) (waits frees left_free : List ℕ) (x mask most : ℕ) (left : List ℕ) (s : Processor) (here : s.pc ≡ at + 8) (within : IsWithin code pool first heap waits frees s)
      (x_is : value s.registers 10 ≡ x) (scanning : IsScanning pool mask left s) where
    pub give-odd : x % 2 ≡ 1
        → ((t : Processor) → t.pc ≡ at + 32 → IsWithin code pool first heap waits frees t → IsScanning pool mask left t → Comes code pool first end left_free most t)
        → Comes code pool first end left_free (8 + most) s
    give-odd odd goes_on =
        let leads = row_odd code at has fits at_whole s x within.stands here x_is odd in
        let t = record s { registers = put 5 1 s.registers; pc = at + 32; executed = s.executed + 1 + 1 } in
        let quiet : IsQuiet first s t = record { registers = λ r kept. kept-5 s.registers r kept 1; parts = refl; trace = refl; left = refl; others = λ r none. refl } in
        let there : IsWithin code pool first heap waits frees t = record {
          stands = LeadsIn-stands leads within.stands;
          cells = within.cells;
          heap_left = within.heap_left;
          way_back = record { aligned = within.way_back.aligned; in_range = within.way_back.in_range };
        } in
        let scans : IsScanning pool mask left t = record { mask_is = scanning.mask_is; below = scanning.below; fields = scanning.fields } in
        Comes-from leads quiet refl (omega arith) (goes_on t refl there scans)

    pub give-lower : (n : ℕ) (body : Body) → x % 2 ≡ 0 → heap x ≡ counted (suc (suc n)) body
        → ((t : Processor) → t.pc ≡ at + 32 → IsWithin code pool first (changed x (counted (suc n) body) heap) waits frees t → IsScanning pool mask left t → Comes code pool first end left_free most t)
        → Comes code pool first end left_free (8 + most) s
    give-lower n body even is goes_on =
        let shows = AreCells-counted within.cells x (suc (suc n)) body is in
        let cell = shows.0 in
        let was = IsLeft-was_counted within.heap_left x (suc (suc n)) body is in
        let leads = row_lower code at has fits at_whole s x n within.stands here x_is even (first-use within x cell) shows.1 shows.2 in
        let t = record s {
          registers = put 5 (suc n) (put 5 (suc (suc n)) (put 5 0 s.registers));
          memory = with_number x 4 (suc n) s.memory;
          pc = at + 32;
          executed = s.executed + 1 + 1 + 1 + 1 + 1 + 1;
        } in
        let quiet : IsQuiet first s t = record {
          registers = λ r kept. kept-5 (put 5 (suc (suc n)) (put 5 0 s.registers)) r kept (suc n) ∙ kept-5 (put 5 0 s.registers) r kept (suc (suc n)) ∙ kept-5 s.registers r kept 0;
          parts = refl;
          trace = refl;
          left = refl;
          others = count-stored first x was.0 (suc n) body s.memory was.1;
        } in
        let there : IsWithin code pool first (changed x (counted (suc n) body) heap) waits frees t = record {
          stands = LeadsIn-stands leads within.stands;
          cells = AreCells-lower within.cells x n body is;
          heap_left = IsLeft-counted x (suc (suc n)) body (counted (suc n) body) is (inr (inr (suc n, refl))) within.heap_left;
          way_back = record { aligned = within.way_back.aligned; in_range = within.way_back.in_range };
        } in
        let scans : IsScanning pool mask left t = record {
          mask_is = scanning.mask_is;
          below = scanning.below;
          fields = AreFields-first pool s.memory x (suc n) cell.aligned (value s.registers 11) left scanning.fields;
        } in
        Comes-from leads quiet refl (two_less most) (goes_on t refl there scans)

    pub give-wait : (body : Body) → x % 2 ≡ 0 → heap x ≡ counted 1 body
        → ((t : Processor) → t.pc ≡ at + 32 → IsWithin code pool first (changed x (waiting body) heap) (x ∷ waits) frees t → IsScanning pool mask left t → Comes code pool first end left_free most t)
        → Comes code pool first end left_free (8 + most) s
    give-wait body even is goes_on =
        let shows = AreCells-counted within.cells x 1 body is in
        let cell = shows.0 in
        let was = IsLeft-was_counted within.heap_left x 1 body is in
        let w = value s.registers 13 in
        let leads = row_wait code at has fits at_whole s x w within.stands here x_is even (first-use within x cell) shows.1 refl in
        let t = record s {
          registers = put 13 x (put 5 0 (put 5 1 (put 5 0 s.registers)));
          memory = with_number x 4 w s.memory;
          pc = at + 32;
          executed = s.executed + 1 + 1 + 1 + 1 + 1 + 1 + 1 + 1;
        } in
        let quiet : IsQuiet first s t = record {
          registers = λ r kept. kept-13 (put 5 0 (put 5 1 (put 5 0 s.registers))) r kept x ∙ kept-5 (put 5 1 (put 5 0 s.registers)) r kept 0 ∙ kept-5 (put 5 0 s.registers) r kept 1 ∙ kept-5 s.registers r kept 0;
          parts = refl;
          trace = refl;
          left = refl;
          others = count-stored first x was.0 w body s.memory was.1;
        } in
        let there : IsWithin code pool first (changed x (waiting body) heap) (x ∷ waits) frees t = record {
          stands = LeadsIn-stands leads within.stands;
          cells = AreCells-wait within.cells x body is;
          heap_left = IsLeft-counted x 1 body (waiting body) is (inr (inl refl)) within.heap_left;
          way_back = record { aligned = within.way_back.aligned; in_range = within.way_back.in_range };
        } in
        let scans : IsScanning pool mask left t = record {
          mask_is = scanning.mask_is;
          below = scanning.below;
          fields = AreFields-first pool s.memory x w cell.aligned (value s.registers 11) left scanning.fields;
        } in
        Comes-from leads quiet refl (same_most most) (goes_on t refl there scans)

  -- ---- waiting cells

  -- none waits
  pub pop-none : (heap : Heap) (frees : List ℕ) (s : Processor) → s.pc ≡ at + 72 → IsWithin code pool first heap [] frees s → Comes code pool first heap frees 2 s
  pop-none heap frees s here within =
      let leads = row_done code at has fits at_whole s within.stands here within.cells.wait_chain within.way_back.aligned within.way_back.in_range in
      record {
        last = record s { pc = value s.registers 1; executed = s.executed + 1 + 1 };
        count = 2;
        leads = leads;
        within = omega arith;
        back = refl;
        quiet = record { registers = λ r kept. refl; parts = refl; trace = refl; left = refl; others = λ r none. refl };
        cells = within.cells;
      }

  -- the first one is freed, and its fields are the next ones
  pub open-first : (heap end : Heap) (waits frees left_free : List ℕ) (x most : ℕ) (body : Body) (s : Processor) → s.pc ≡ at + 80 → ((y : ℕ) (other : Body) → first y ≢ waiting other) → IsWithin code pool first heap (x ∷ waits) frees s → heap x ≡ waiting body
      → ((t : Processor) → t.pc ≡ at + 32 → IsWithin code pool first (changed x free heap) waits (x ∷ frees) t → IsScanning pool body.mask body.fields t → Comes code pool first end left_free most t)
      → Comes code pool first end left_free (8 + most) s
  open-first heap end waits frees left_free x most body s here settled within is goes_on =
      let shows = AreCells-waiting within.cells body is in
      let cell = shows.0 in
      let has_body = shows.1 in
      let usable = within.cells.usable in
      let was = IsLeft-was_waiting settled within.heap_left x body is in
      let f = value s.registers 8 in
      let n = word s.memory x in
      let h = body.tag + 256 * body.mask in
      let header : word (with_number x 4 f s.memory) (x + 4) ≡ h = (SameWords-first s.memory x f).same (x + 4) (omega arith) (omega arith) ∙ has_body.header in
      let n_below = IsWaitChain-below usable within.cells.shown n waits within.cells.wait_chain.3 in
      let inside = cell-inside pool x usable.aligned cell in
      let leads = row_open code at has fits at_whole s x f n h body.mask within.stands here within.cells.wait_chain.0 refl (first-use within x cell) cell.aligned (fields_below pool x inside usable.below)
      (usable.loads (x + 4) (header_behind pool x cell) (header_inside pool x inside)) refl n_below header (mask_of body.tag body.mask has_body.tag) in
      let t = record s {
        registers = put 13 n (put 11 (x + 8) (put 12 body.mask (put 12 h (put 8 x (put 5 n s.registers)))));
        memory = with_number x 4 f s.memory;
        pc = at + 32;
        executed = s.executed + 1 + 1 + 1 + 1 + 1 + 1 + 1 + 1;
      } in
      let quiet : IsQuiet first s t = record {
        registers = λ r kept.
            kept-13 (put 11 (x + 8) (put 12 body.mask (put 12 h (put 8 x (put 5 n s.registers))))) r kept n
            ∙ kept-11 (put 12 body.mask (put 12 h (put 8 x (put 5 n s.registers)))) r kept (x + 8)
            ∙ kept-12 (put 12 h (put 8 x (put 5 n s.registers))) r kept body.mask
            ∙ kept-12 (put 8 x (put 5 n s.registers)) r kept h
            ∙ kept-8 (put 5 n s.registers) r kept x
            ∙ kept-5 s.registers r kept n;
        parts = refl;
        trace = refl;
        left = refl;
        others = count-stored first x was.0 f body s.memory was.1;
      } in
      let there : IsWithin code pool first (changed x free heap) waits (x ∷ frees) t = record {
        stands = LeadsIn-stands leads within.stands;
        cells = AreCells-opened within.cells body is;
        heap_left = IsLeft-opened x body settled is within.heap_left;
        way_back = record { aligned = within.way_back.aligned; in_range = within.way_back.in_range };
      } in
      let scans : IsScanning pool body.mask body.fields t = record {
        mask_is = refl;
        below = has_body.mask;
        fields = AreFields-first pool s.memory x f cell.aligned (x + 8) body.fields (AreFields-body pool s.memory x body usable.aligned cell has_body);
      } in
      Comes-from leads quiet refl (same_most most) (goes_on t refl there scans)

  -- where one waits
  pub pop-open : (heap end : Heap) (waits frees left_free : List ℕ) (x most : ℕ) (body : Body) (s : Processor) → s.pc ≡ at + 72 → ((y : ℕ) (other : Body) → first y ≢ waiting other) → IsWithin code pool first heap (x ∷ waits) frees s → heap x ≡ waiting body
      → ((t : Processor) → t.pc ≡ at + 32 → IsWithin code pool first (changed x free heap) waits (x ∷ frees) t → IsScanning pool body.mask body.fields t → Comes code pool first end left_free most t)
      → Comes code pool first end left_free (9 + most) s
  pop-open heap end waits frees left_free x most body s here settled within is goes_on =
      let cell = (AreCells-waiting within.cells body is).0 in
      let leads = row_some code at has fits at_whole s x within.stands here within.cells.wait_chain.0 (not_first pool x within.cells.usable.some cell) in
      let there : IsWithin code pool first heap (x ∷ waits) frees (stepped (at + 80) s) = record {
        stands = LeadsIn-stands leads within.stands;
        cells = within.cells;
        heap_left = within.heap_left;
        way_back = record { aligned = within.way_back.aligned; in_range = within.way_back.in_range };
      } in
      Comes-from leads (record { registers = λ r kept. refl; parts = refl; trace = refl; left = refl; others = λ r none. refl }) refl (same_opened most)
      (open-first heap end waits frees left_free x most body (stepped (at + 80) s) refl settled there is goes_on)
