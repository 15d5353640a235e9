-- The request for a cell, executed.
use Rattle.std.proofs.Common.{◌≡◌, ◌≢◌, ℕ, ◌+◌, ◌*◌, ◌%◌, ◌^◌, ◌<◌, ◌≤◌, ◌⊎◌, inl, inr, List, [], ◌∷◌, Some, None, refl, sym, subst, lit<, arith}
use Rattle.std.proofs.lemmas.Bool.{cases_lt}
use Rattle.std.proofs.lemmas.Bool.Decides.{nat_tests}
use Rattle.kk_base.specs.Exits.{heap_full_exit}
use Rattle.rv_isa.specs.declared.instr.Instr.{Instr}
use Rattle.rv_isa.specs.declared.instr.Instr.TheVariants.{Beq, Addi, Lw, Sw, Jalr}
use Rattle.rv_isa.specs.Arithmetic.{sum_word}
use Rattle.rv_isa.specs.Bytes.{with_number}
use Rattle.rv_isa.specs.Processor.{Processor, value, put}
use Rattle.rv_isa.specs.Environment.{stepped}
use Rattle.rv_isa.specs.Standing.{Code, Has, Stands, LeadsIn}
use Rattle.rv_isa.proofs.Memory.{word-same}
use Rattle.rv_isa.proofs.Standing.{LeadsIn-stands, next-is}
use Rattle.rv_isa.proofs.Instructions.{leads-addi, leads-lw, leads-sw, leads-beq_taken, leads-beq_not_taken}
use Rattle.cell_heap.specs.Cells.{token, changed, free}
use Rattle.cell_heap.specs.Pool.{Pool, end_of}
use Rattle.cell_heap.specs.View.{Link, View}
use Rattle.cell_heap.specs.Memory.{word, IsChain, IsHeldChain, Memory}
use Rattle.cell_heap.proofs.Frames.{shown-cell, cell-inside, byte-stored_apart}
use Rattle.rv_isa.specs.declared.routine.Routine.TheVariants.{Take}
use Rattle.rv_isa.specs.declared.placed.Symbol.TheVariants.{Routine}
use Rattle.cell_runtime.specs.Registers.{KeptBy}
use Rattle.cell_runtime.specs.Calls.{HasWayBack, Exits}
use Rattle.cell_runtime.specs.Lines.{Makes}
use Rattle.cell_runtime.specs.Takes.{from_chain, at_border, from_held, IsFull, AfterTake, IsTakeOfPools}
use Rattle.rv_isa.proofs.Registers.{x0, x1, x5, x8, x9, x18, x19}
use Rattle.rv_isa.specs.Numbers.{cell_size}
use Rattle.cell_runtime.proofs.Operands.{imm_0, imm_4, imm_cell_size, imm_heap_full, forward_16, forward_24}
use Rattle.cell_runtime.proofs.Spelling.{plain, plain_makes}
use Rattle.cell_runtime.proofs.RoutineCalls.{leads-back, then_one, exits-after, returns_by}
use Rattle.cell_runtime.proofs.StopRuns.{stop_code, stop_exits}
use Rattle.cell_runtime.proofs.CellRequests.{first_is, first_free, memory_chained, memory_fresh, newest_is, newest_held, newest_cell, newest_inside, memory_taken_back}

abbrev pub held_code : List Instr
held_code =
    Beq x9 x0 forward_24 ∷ Addi x5 x9 imm_0 ∷ Lw x9 x5 imm_4 ∷ Sw x9 x0 imm_0 ∷ Lw x9 x5 imm_0 ∷ Jalr x0 x1 imm_0 ∷ stop_code imm_heap_full

abbrev pub border_code : List Instr
border_code = Beq x18 x19 forward_16 ∷ Addi x5 x18 imm_0 ∷ Addi x18 x18 imm_cell_size ∷ Jalr x0 x1 imm_0 ∷ held_code

abbrev pub take_code : List Instr
take_code = Beq x8 x0 forward_16 ∷ Addi x5 x8 imm_0 ∷ Lw x8 x8 imm_0 ∷ Jalr x0 x1 imm_0 ∷ border_code

-- where a slot has lost its token
abbrev emptied : Processor → ℕ → Processor
emptied s slot = record s { memory = with_number slot 4 0 s.memory }

module _ (code : Code) (pool : Pool) (view : View) (s : Processor) (stands : Stands code s) (has : Has code s.pc take_code) (way : HasWayBack s) (memory : Memory pool view s) where
  abbrev Served : Type 0
  Served = ((t : Processor) × AfterTake code pool view s t) ⊎ (IsFull pool view × Exits code heap_full_exit 6 s)

  -- ---- from the chain

  chained : (cell : ℕ) (frees : List ℕ) → view.frees ≡ cell ∷ frees → (t : Processor) × AfterTake code pool view s t
  chained cell frees first =
      let is = first_is pool view s s memory refl refl refl refl cell frees first in
      let is_free = first_free pool view s s memory refl refl refl refl cell frees first in
      let is_cell = shown-cell memory.shown cell free is_free (λ e. cc) in
      let behind = is_cell.behind in
      let inside = cell-inside pool cell memory.usable.aligned is_cell in
      let some = memory.usable.some in
      let below = memory.usable.below in
      let not_null : value s.registers 8 ≢ 0 = λ none. absurd (omega arith) in
      let to : sum_word (value s.registers 8) 0 ≡ cell = rw is (omega arith) in
      let a = leads-beq_not_taken stands has.0 not_null (next-is stands s.pc _ has.1.0) in
      let b = then_one stands a (λ on. leads-addi on {v = cell} has.1.0 to (next-is stands (s.pc + 4) _ has.1.1.0)) in
      let c = then_one stands b (λ on. leads-lw on {at = cell} {v = word s.memory cell} has.1.1.0 to (omega arith) (memory.usable.loads cell behind (omega arith)) refl (next-is stands (s.pc + 4 + 4) _ has.1.1.1.0)) in
      let t = record s {
        registers = put 8 (word s.memory cell) (put 5 cell s.registers);
        pc = s.pc + 4 + 4 + 4;
        executed = s.executed + 1 + 1 + 1;
      } in
      let u = stepped (value s.registers 1) t in (
        u,
        record {
          cell = cell;
          then_view = record view { heap = changed cell (token []) view.heap; frees = frees };
          slot = None;
          count = 4;
          taken = from_chain first;
          returns = returns_by (leads-back t stands c has.1.1.1.0 refl way.aligned way.in_range) refl (kept (word s.memory cell) cell) refl;
          gives = refl;
          cells = memory_chained pool view s u memory refl refl refl refl cell frees first refl refl;
          memory = refl;
          left = refl;
          trace = refl;
        },
      )
    where
      kept : (next cell x : ℕ) → KeptBy (Routine Take) x → value (put 8 next (put 5 cell s.registers)) x ≡ value s.registers x
      kept next cell x out = let a : x ≢ 8 = out.0 in let b : x ≢ 5 = out.1.1.1.0 in grind (arith, nat_tests)

  module _ (none : view.frees ≡ []) where
    no_chain : value s.registers 8 ≡ 0
    no_chain = subst (IsChain s.memory view.heap (value s.registers 8)) none memory.chain

    -- at the test of the border
    to_border : LeadsIn code 1 s (stepped (s.pc + 4 + 4 + 4 + 4) s)
    to_border =
        let below = stands.below (s.pc + 4 + 4 + 4 + 4) _ has.1.1.1.1.0 in
        leads-beq_taken stands has.0 no_chain (omega arith) (stands.aligned (s.pc + 4 + 4 + 4 + 4) _ has.1.1.1.1.0)

    has_border : Has code (s.pc + 4 + 4 + 4 + 4) border_code
    has_border = has.1.1.1.1

    -- ---- at the border

    fresh : view.border < end_of pool → (t : Processor) × AfterTake code pool view s t
    fresh before =
        let border_is = memory.border in
        let end_is = memory.end in
        let below = memory.usable.below in
        let aligned = memory.has_border.aligned in
        let differ : value s.registers 18 ≢ value s.registers 19 = λ e. absurd (omega arith) in
        let copied : sum_word (value s.registers 18) 0 ≡ view.border = rw border_is (omega arith) in
        let risen : sum_word (value s.registers 18) cell_size ≡ view.border + cell_size = rw border_is (rises view.border pool.first pool.cells memory.usable.aligned aligned before below) in
        let a = then_one stands to_border (λ on. leads-beq_not_taken on has_border.0 differ (next-is stands (s.pc + 4 + 4 + 4 + 4) _ has_border.1.0)) in
        let b = then_one stands a (λ on. leads-addi on {v = view.border} has_border.1.0 copied (next-is stands (s.pc + 4 + 4 + 4 + 4 + 4) _ has_border.1.1.0)) in
        let c = then_one stands b (λ on. leads-addi on {v = view.border + cell_size} has_border.1.1.0 risen (next-is stands (s.pc + 4 + 4 + 4 + 4 + 4 + 4) _ has_border.1.1.1.0)) in
        let t = record s {
          registers = put 18 (view.border + cell_size) (put 5 view.border s.registers);
          pc = s.pc + 4 + 4 + 4 + 4 + 4 + 4 + 4;
          executed = s.executed + 1 + 1 + 1 + 1;
        } in
        let u = stepped (value s.registers 1) t in (
          u,
          record {
            cell = view.border;
            then_view = record view { heap = changed view.border (token []) view.heap; border = view.border + cell_size };
            slot = None;
            count = 5;
            taken = at_border none before;
            returns = returns_by (leads-back t stands c has_border.1.1.1.0 refl way.aligned way.in_range) refl (kept (view.border + cell_size) view.border) refl;
            gives = refl;
            cells = memory_fresh pool view s u memory refl refl refl refl none before refl refl;
            memory = refl;
            left = refl;
            trace = refl;
          },
        )
      where
        kept : (next cell x : ℕ) → KeptBy (Routine Take) x → value (put 18 next (put 5 cell s.registers)) x ≡ value s.registers x
        kept next cell x out = let a : x ≢ 18 = out.1.1.0 in let b : x ≢ 5 = out.1.1.1.0 in grind (arith, nat_tests)

        rises : (border first cells : ℕ) → first % 32 ≡ 0 → border % 32 ≡ 0 → border < first + 32 * cells → first + 32 * cells < 2 ^ 32 → (border + 32) % 2 ^ 32 ≡ border + 32
        rises border first cells a b before below = omega arith

    module _ (used : end_of pool ≤ view.border) where
      -- at the test of the held tokens
      to_held : LeadsIn code 2 s (record s { pc = s.pc + 4 + 4 + 4 + 4 + 4 + 4 + 4 + 4; executed = s.executed + 1 + 1 })
      to_held =
          let border_is = memory.border in
          let end_is = memory.end in
          let within = memory.has_border.within in
          let same : value s.registers 18 ≡ value s.registers 19 = omega arith in
          let below = stands.below (s.pc + 4 + 4 + 4 + 4 + 4 + 4 + 4 + 4) _ has_border.1.1.1.1.0 in
          then_one stands to_border (λ on. leads-beq_taken on has_border.0 same (omega arith) (stands.aligned (s.pc + 4 + 4 + 4 + 4 + 4 + 4 + 4 + 4) _ has_border.1.1.1.1.0))

      has_held : Has code (s.pc + 4 + 4 + 4 + 4 + 4 + 4 + 4 + 4) held_code
      has_held = has_border.1.1.1.1

      -- ---- from the held chain

      back : (link : Link) (links : List Link) → view.held ≡ link ∷ links → (t : Processor) × AfterTake code pool view s t
      back link links newest =
          let held = newest_held pool view s (emptied s link.slot) memory link links newest refl refl in
          let is = newest_is pool view s (emptied s link.slot) memory link links newest refl refl in
          let is_cell = newest_cell pool view s (emptied s link.slot) memory link links newest refl refl in
          let slot_below = held.is_slot.below in
          let behind = is_cell.behind in
          let inside = cell-inside pool link.cell memory.usable.aligned is_cell in
          let some = memory.usable.some in
          let below = memory.usable.below in
          let not_null : value s.registers 9 ≢ 0 = λ none. absurd (omega arith) in
          let to : sum_word (value s.registers 9) 0 ≡ link.cell = rw is (omega arith) in
          let back_to : sum_word link.cell 0 ≡ link.cell = omega arith in
          let to_second : sum_word link.cell 4 ≡ link.cell + 4 = omega arith in
          let kept_link : word (with_number link.slot 4 0 s.memory) link.cell ≡ word s.memory link.cell = (newest_inside pool view s (emptied s link.slot) memory link links newest refl refl).same link.cell behind (omega arith) in
          let to_slot : sum_word link.slot 0 ≡ link.slot = omega arith in
          let a = then_one stands to_held (λ on. leads-beq_not_taken on has_held.0 not_null (next-is stands (s.pc + 4 + 4 + 4 + 4 + 4 + 4 + 4 + 4) _ has_held.1.0)) in
          let b = then_one stands a (λ on. leads-addi on {v = link.cell} has_held.1.0 to (next-is stands (s.pc + 4 + 4 + 4 + 4 + 4 + 4 + 4 + 4 + 4) _ has_held.1.1.0)) in
          let c = then_one stands b (λ on. leads-lw on {at = link.cell + 4} {v = link.slot} has_held.1.1.0 to_second (omega arith) (memory.usable.loads (link.cell + 4) (omega arith) (omega arith)) held.names_slot (next-is stands (s.pc + 4 + 4 + 4 + 4 + 4 + 4 + 4 + 4 + 4 + 4) _ has_held.1.1.1.0)) in
          let d = then_one stands c (λ on. leads-sw on {at = link.slot} {v = 0} has_held.1.1.1.0 to_slot refl held.is_slot.aligned held.is_slot.stores (next-is stands (s.pc + 4 + 4 + 4 + 4 + 4 + 4 + 4 + 4 + 4 + 4 + 4) _ has_held.1.1.1.1.0)) in
          let e = then_one stands d (λ on. leads-lw on {at = link.cell} {v = word s.memory link.cell} has_held.1.1.1.1.0 back_to (omega arith) (memory.usable.loads link.cell behind (omega arith)) kept_link (next-is stands (s.pc + 4 + 4 + 4 + 4 + 4 + 4 + 4 + 4 + 4 + 4 + 4 + 4) _ has_held.1.1.1.1.1.0)) in
          let t = record s {
            registers = put 9 (word s.memory link.cell) (put 9 link.slot (put 5 link.cell s.registers));
            pc = s.pc + 4 + 4 + 4 + 4 + 4 + 4 + 4 + 4 + 4 + 4 + 4 + 4 + 4;
            memory = with_number link.slot 4 0 s.memory;
            executed = s.executed + 1 + 1 + 1 + 1 + 1 + 1 + 1;
          } in
          let u = stepped (value s.registers 1) t in (
            u,
            record {
              cell = link.cell;
              then_view = record view { held = links };
              slot = Some link.slot;
              count = 8;
              taken = from_held none used newest;
              returns = returns_by (leads-back t stands e has_held.1.1.1.1.1.0 refl way.aligned way.in_range) refl (kept (word s.memory link.cell) link.slot link.cell) refl;
              gives = refl;
              cells = memory_taken_back pool view s u memory link links newest refl refl refl refl refl refl;
              memory = (word-same link.slot 0 s.memory (lit< tt), λ x away. apart link.slot x away);
              left = refl;
              trace = refl;
            },
          )
        where
          kept : (next slot cell x : ℕ) → KeptBy (Routine Take) x → value (put 9 next (put 9 slot (put 5 cell s.registers))) x ≡ value s.registers x
          kept next slot cell x out =
              let a : x ≢ 9 = out.1.0 in
              let b : x ≢ 5 = out.1.1.1.0 in
              grind (arith, nat_tests)

          apart : (slot x : ℕ) → (x < slot) ⊎ (slot + 4 ≤ x) → with_number slot 4 0 s.memory x ≡ s.memory x
          apart slot x (inl low) = byte-stored_apart s.memory slot 0 x (inl low)
          apart slot x (inr high) = byte-stored_apart s.memory slot 0 x (inr high)

      -- ---- from none

      full : view.held ≡ [] → IsFull pool view × Exits code heap_full_exit 6 s
      full no_token =
          let no_held : value s.registers 9 ≡ 0 = subst (IsHeldChain pool s.parts s.memory view.heap (value s.registers 9)) no_token memory.held in
          let has_stop = has_held.1.1.1.1.1.1 in
          let below = stands.below (s.pc + 4 + 4 + 4 + 4 + 4 + 4 + 4 + 4 + 4 + 4 + 4 + 4 + 4 + 4) _ has_stop.0 in
          let leads = then_one stands to_held (λ on. leads-beq_taken on {next = s.pc + 4 + 4 + 4 + 4 + 4 + 4 + 4 + 4 + 4 + 4 + 4 + 4 + 4 + 4} has_held.0 no_held (omega arith) (stands.aligned (s.pc + 4 + 4 + 4 + 4 + 4 + 4 + 4 + 4 + 4 + 4 + 4 + 4 + 4 + 4) _ has_stop.0)) in
          let t = record s { pc = s.pc + 4 + 4 + 4 + 4 + 4 + 4 + 4 + 4 + 4 + 4 + 4 + 4 + 4 + 4; executed = s.executed + 1 + 1 + 1 } in (
            record { chain = none; border = used; held = no_token },
            exits-after {t = t} leads refl refl refl refl (omega arith) (stop_exits code imm_heap_full heap_full_exit refl (omega arith) t (LeadsIn-stands leads stands) has_stop),
          )

      by_held : (links : List Link) → view.held ≡ links → Served
      by_held [] no_token = inr (full no_token)
      by_held (link ∷ links) newest = inl (back link links newest)

    by_border : (view.border < end_of pool) ⊎ (end_of pool ≤ view.border) → Served
    by_border (inl before) = inl (fresh before)
    by_border (inr used) = by_held used view.held refl

  by_chain : (frees : List ℕ) → view.frees ≡ frees → Served
  by_chain [] none = by_border none (cases_lt view.border (end_of pool))
  by_chain (cell ∷ frees) first = inl (chained cell frees first)

does : (code : Code) (at : ℕ) → Has code at take_code → IsTakeOfPools code at
does code at has pool view s here way memory =
    by_chain code pool view s here.stands (subst (λ a. Has code a take_code) (sym here.pc_is) has) way memory view.frees refl

pub take_makes : Makes (plain take_code) 17 0 (λ memory. IsTakeOfPools)
take_makes = plain_makes take_code (λ memory. does)
