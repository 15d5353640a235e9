-- The routine that gives up a reference, executed: it takes the turns of a drop without a stack.
use Rattle.std.proofs.Common.{◌≡◌, ◌≢◌, ℕ, ◌+◌, ◌*◌, ◌%◌, ◌^◌, ◌≤◌, ◌<◌, inl, inr, List, [], ◌∷◌, length, refl, sym, ap, ◌∙◌, subst, arith}
use Rattle.rv_isa.specs.Processor.{Processor, value, put}
use Rattle.rv_isa.specs.Standing.{Code, Has, Stands, LeadsIn}
use Rattle.rv_isa.proofs.Standing.{Has-get, LeadsIn-stands}
use Rattle.cell_heap.specs.Cells.{Body, Heap, waiting, counted, changed, chosen}
use Rattle.cell_heap.specs.Pool.{Pool}
use Rattle.cell_heap.specs.View.{View}
use Rattle.cell_heap.specs.Turns.{Turns, ended, passed, lower, waits_now, opened}
use Rattle.cell_heap.proofs.WaitChains.{AreCells, AreCells-wait, AreCells-waiting}
use Rattle.cell_heap.proofs.CellsAfterDrop.{IsLeft-same, IsLeft-counted}
use Rattle.cell_heap.proofs.Frames.{cell-inside, shows-at}
use Rattle.rv_isa.specs.declared.routine.Routine.TheVariants.{Drop}
use Rattle.rv_isa.specs.declared.placed.Symbol.TheVariants.{Routine}
use Rattle.cell_runtime.specs.Registers.{KeptBy}
use Rattle.cell_runtime.specs.Calls.{IsAt}
use Rattle.cell_runtime.specs.Lines.{Makes}
use Rattle.cell_runtime.specs.Drops.{Dropped, IsDrop, BeforeDrop, AfterDrop}
use Rattle.cell_runtime.proofs.Spelling.{plain, plain_makes}
use Rattle.cell_runtime.proofs.DropRows.{drop_code, row_start}
use Rattle.cell_runtime.proofs.DropStates.{IsQuiet, count-stored, kept-13, IsWithin, IsScanning, Comes, Comes-from, Comes-weaker}
use Rattle.cell_runtime.proofs.RoutineCalls.{returns_by}
use Rattle.cell_runtime.proofs.DropMoves.{scan-none, scan-some, give-odd, give-lower, give-wait, pop-none, open-first, pop-open}
use Rattle.cell_runtime.proofs.DropOutcome.{memory-left, drop-turns}

-- the routine keeps the registers of the held chain and of the border
kept_9 : KeptBy (Routine Drop) 9
kept_9 = (λ e. absurd (omega arith), (λ e. absurd (omega arith), (λ e. absurd (omega arith), (λ e. absurd (omega arith), (λ e. absurd (omega arith), (λ e. absurd (omega arith), tt))))))

kept_18 : KeptBy (Routine Drop) 18
kept_18 = (λ e. absurd (omega arith), (λ e. absurd (omega arith), (λ e. absurd (omega arith), (λ e. absurd (omega arith), (λ e. absurd (omega arith), (λ e. absurd (omega arith), tt))))))

kept_19 : KeptBy (Routine Drop) 19
kept_19 = (λ e. absurd (omega arith), (λ e. absurd (omega arith), (λ e. absurd (omega arith), (λ e. absurd (omega arith), (λ e. absurd (omega arith), (λ e. absurd (omega arith), tt))))))

-- what the rows cost
abbrev cost : ℕ → ℕ → ℕ → ℕ
cost fields gave freed = 7 * fields + 8 * gave + 52 * freed + 3

module _ (code : Code) (at : ℕ) (has : Has code at drop_code) (fits : at + 112 ≤ 2 ^ 32) (at_whole : at % 4 ≡ 0) (pool : Pool) (first : Heap) (settled : (y : ℕ) (other : Body) → first y ≢ waiting other) where
  pub from-next : {refs waits frees left_free : List ℕ} {heap end : Heap} {gave freed : ℕ} → Turns refs waits frees heap gave freed left_free end
      → (mask : ℕ) (xs : List ℕ) (s : Processor) → refs ≡ chosen mask xs → s.pc ≡ at + 32 → IsWithin code pool first heap waits frees s → IsScanning pool mask xs s
      → Comes code pool first end left_free (cost (length xs) gave freed) s
  from-next (ended {frees = frees} {heap = heap}) mask xs s refs_are here within scanning =
      let scanned = scan-none code at has fits at_whole pool first heap [] frees xs mask s here within scanning refs_are in
      let few = scanned.few in
      Comes-from scanned.leads scanned.quiet scanned.way (omega arith) (pop-none code at has fits at_whole pool first heap frees scanned.last scanned.pc_is scanned.within)
  from-next (passed {x = x} {xs = rest} {waits = waits} {frees = frees} {left = left} {heap = heap} {end = end} {gave = gave} {freed = freed} odd turns) mask xs s refs_are here within scanning =
      let next = scan-some code at has fits at_whole pool first heap waits frees x rest xs mask s here within scanning refs_are in
      let fewer = next.fewer in
      Comes-from next.scanned.leads next.scanned.quiet next.scanned.way (omega arith)
      (give-odd code at has fits at_whole pool first heap end waits frees left x next.mask (cost (length next.left) gave freed) next.left next.scanned.last next.scanned.pc_is next.scanned.within next.reference_is next.scanning odd
      (λ t there inside scans. from-next turns next.mask next.left t next.rest_is there inside scans))
  from-next (lower {x = x} {xs = rest} {waits = waits} {frees = frees} {left = left} {heap = heap} {end = end} {gave = gave} {freed = freed} {count = count} {body = body} even is turns) mask xs s refs_are here within scanning =
      let next = scan-some code at has fits at_whole pool first heap waits frees x rest xs mask s here within scanning refs_are in
      let fewer = next.fewer in
      Comes-from next.scanned.leads next.scanned.quiet next.scanned.way (omega arith)
      (give-lower code at has fits at_whole pool first heap end waits frees left x next.mask (cost (length next.left) gave freed) next.left next.scanned.last next.scanned.pc_is next.scanned.within next.reference_is next.scanning count body even is
      (λ t there inside scans. from-next turns next.mask next.left t next.rest_is there inside scans))
  from-next (waits_now {x = x} {xs = rest} {waits = waits} {frees = frees} {left = left} {heap = heap} {end = end} {gave = gave} {freed = freed} {body = body} even is turns) mask xs s refs_are here within scanning =
      let next = scan-some code at has fits at_whole pool first heap waits frees x rest xs mask s here within scanning refs_are in
      let fewer = next.fewer in
      Comes-from next.scanned.leads next.scanned.quiet next.scanned.way (omega arith)
      (give-wait code at has fits at_whole pool first heap end waits frees left x next.mask (cost (length next.left) gave freed) next.left next.scanned.last next.scanned.pc_is next.scanned.within next.reference_is next.scanning body even is
      (λ t there inside scans. from-next turns next.mask next.left t next.rest_is there inside scans))
  from-next (opened {x = x} {waits = waits} {frees = frees} {left = left} {heap = heap} {end = end} {gave = gave} {freed = freed} {body = body} is turns) mask xs s refs_are here within scanning =
      let scanned = scan-none code at has fits at_whole pool first heap (x ∷ waits) frees xs mask s here within scanning refs_are in
      let few = scanned.few in
      let has_body = (AreCells-waiting within.cells body is).1 in
      let fields_few = has_body.few in
      Comes-from scanned.leads scanned.quiet scanned.way (omega arith)
      (pop-open code at has fits at_whole pool first heap end waits frees left x (cost (length body.fields) gave freed) body scanned.last scanned.pc_is settled scanned.within is
      (λ t there inside scans. from-next turns body.mask body.fields t refl there inside scans))

  -- the first waiting cell
  from-open : {x : ℕ} {waits frees left_free : List ℕ} {heap end : Heap} {gave freed : ℕ} → Turns [] (x ∷ waits) frees heap gave freed left_free end
      → (s : Processor) → s.pc ≡ at + 80 → IsWithin code pool first heap (x ∷ waits) frees s → Comes code pool first end left_free (8 * gave + 52 * freed + 1) s
  from-open (opened {x = x} {waits = waits} {frees = frees} {left = left} {heap = heap} {end = end} {gave = gave} {freed = freed} {body = body} is turns) s here within =
      let has_body = (AreCells-waiting within.cells body is).1 in
      let fields_few = has_body.few in
      Comes-weaker (omega arith)
      (open-first code at has fits at_whole pool first heap end waits frees left x (cost (length body.fields) gave freed) body s here settled within is
      (λ t there inside scans. from-next turns body.mask body.fields t refl there inside scans))

-- ---- the whole routine

module _ (code : Code) (at : ℕ) (has : Has code at drop_code) where
  code-whole : (s : Processor) → Stands code s → at % 4 ≡ 0
  code-whole s stands = stands.aligned at _ has.0

  code-fits : (s : Processor) → Stands code s → at + 112 ≤ 2 ^ 32
  code-fits s stands =
      let last = stands.below (at + 108) _ (Has-get code at drop_code 27 _ has refl) in
      let whole = code-whole s stands in
      omega arith

  module _ (pool : Pool) (cell : ℕ) (body : Body) (view : View) (dropped : Dropped) (s : Processor) (here : IsAt code at s) (before : BeforeDrop pool cell body view dropped s) where
    below : cell < 2 ^ 32
    below =
        let usable = before.memory.usable in
        let inside = cell-inside pool cell usable.aligned (shows-at before.memory.shown cell (counted 1 body) before.last).0 in
        let top = usable.below in
        omega arith

    started : Processor
    started = record s { registers = put 13 cell s.registers; pc = at + 80; executed = s.executed + 1 + 1 }

    starts : LeadsIn code 2 s started
    unfolding started
    starts = row_start code at has (code-fits s here.stands) (code-whole s here.stands) s cell here.stands here.pc_is before.cell_is below

    starts-quiet : IsQuiet view.heap s started
    unfolding started
    starts-quiet = record {
      registers = λ x kept. kept-13 s.registers x kept cell;
      parts = refl;
      trace = refl;
      left = refl;
      others = λ x none. refl;
    }

    -- the cell waits alone
    waits-alone : AreCells pool s.parts s.memory (changed cell (waiting body) view.heap) (value s.registers 8) view.frees cell (cell ∷ [])
    waits-alone =
        let counting : AreCells pool s.parts before.counting view.heap (value s.registers 8) view.frees 0 []
        = record { usable = before.memory.usable; shown = before.memory.shown; chain = before.memory.chain; wait_chain = refl } in
        subst (λ memory. AreCells pool s.parts memory (changed cell (waiting body) view.heap) (value s.registers 8) view.frees cell (cell ∷ []))
        (sym before.lowered) (AreCells-wait counting cell body before.last)

    starts-within : IsWithin code pool view.heap (changed cell (waiting body) view.heap) (cell ∷ []) view.frees started
    unfolding started
    starts-within = record {
      stands = LeadsIn-stands starts here.stands;
      cells = waits-alone;
      heap_left = IsLeft-counted cell 1 body (waiting body) before.last (inr (inl refl)) (IsLeft-same view.heap);
      way_back = record { aligned = before.way_back.aligned; in_range = before.way_back.in_range };
    }

    comes : Comes code pool view.heap dropped.heap dropped.frees (8 * dropped.gave + 52 * dropped.freed + 3) s
    unfolding started
    comes =
        Comes-from starts starts-quiet refl (omega arith)
        (from-open code at has (code-fits s here.stands) (code-whole s here.stands) pool view.heap before.memory.settled before.turns started refl starts-within)

    after : (t : Processor) × AfterDrop code pool view dropped s t
    after =
        let came = comes in
        let quiet = came.quiet in (
          came.last,
          record {
            count = came.count;
            memory =
                memory-left before.memory (drop-turns before) quiet.parts (quiet.registers 9 kept_9) (quiet.registers 18 kept_18) (quiet.registers 19 kept_19)
                (λ x none. quiet.others x none ∙ (ap (λ (m : ℕ → ℕ). m x) before.lowered ∙ count-stored view.heap cell 1 0 body before.counting before.last x none))
                came.cells.shown came.cells.chain;
            returns = returns_by came.leads came.back quiet.registers quiet.parts;
            bounded = came.within;
            trace = quiet.trace;
            left = quiet.left;
            others = quiet.others;
          },
        )

does : (code : Code) (at : ℕ) → Has code at drop_code → IsDrop code at
does code at has pool cell body view dropped s here before =
    after code at has pool cell body view dropped s here before

pub drop_makes : Makes (plain drop_code) 28 0 (λ memory. IsDrop)
drop_makes = plain_makes drop_code (λ memory. does)
