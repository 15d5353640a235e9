-- What code outside of the runtime does to cells: stores of words of a cell that is neither free nor held, what it makes of the cell without a
-- store, the release of a cell, and stores outside of all cells.
use Rattle.std.proofs.Common.{◌≡◌, ◌≢◌, ◌≤◌, ◌<◌, ℕ, suc, ◌+◌, ◌*◌, ◌^◌, inl, inr, List, [], ◌∷◌, ◌++◌, map, length, refl, sym, ap, ◌∙◌, subst, arith, length-append}
use mathlib.Core.Path.{fun_ext}
use Rattle.kk_base.specs.Memory.{Part}
use Rattle.kk_base.specs.Limits.{greatest_of}
use Rattle.kk_base.specs.declared.limit.LimitKind.TheVariants.{Fields}
use Rattle.rv_isa.specs.Bytes.{with_number}
use Rattle.rv_isa.specs.Processor.{Processor, value}
use Rattle.rv_isa.proofs.Memory.{word-same, word-apart}
use Rattle.cell_heap.specs.Cells.{Body, Cell, no_cell, free, token, waiting, counted, Heap, changed, occurs}
use Rattle.cell_heap.specs.Pool.{Pool, IsUsable}
use Rattle.cell_heap.specs.View.{View}
use Rattle.cell_heap.specs.Memory.{word, HasWords, Shows, IsChain, IsHeldChain, Memory}
use Rattle.cell_heap.specs.ProgramMemory.{SameRoots}
use Rattle.cell_heap.proofs.Frames.{changed-by, changed-same, SameBut, SameBut-store, SameInside, SameSlots, HasWords-same, HasBody-same, IsShown-changed, IsShown-outside, IsChain-changed, IsChain-outside, IsHeldChain-changed, IsHeldChain-outside, shown-cell, shows-at}
use Rattle.cell_heap.proofs.WaitChains.{IsChain-apart, IsChain-below, SameWords-first}
use Rattle.cell_heap.proofs.Borders.{HasFrees-changed, HasFrees-freed}

-- a cell that belongs to the code: neither free nor held
pub record IsOwn (view : View) (at : ℕ) : Type 0 where
  pub some : view.heap at ≢ no_cell
  pub not_free : view.heap at ≢ free
  pub not_held : occurs at (map (λ link. link.cell) view.held) ≡ 0

-- what code may make of it
pub record IsOwnState (cell : Cell) : Type 0 where
  pub not_free : cell ≢ free
  pub settled : (body : Body) → cell ≢ waiting body

pub counted-own : (count : ℕ) (body : Body) → IsOwnState (counted count body)
counted-own count body = record { not_free = λ e. cc; settled = λ b e. cc }

pub token-own : (fields : List ℕ) → IsOwnState (token fields)
token-own fields = record { not_free = λ e. cc; settled = λ b e. cc }

IsUsable-same : {pool : Pool} {old new : List Part} → new ≡ old → IsUsable pool old → IsUsable pool new
IsUsable-same {pool} e usable = subst (IsUsable pool) (sym e) usable

one_more : (fields : List ℕ) (x : ℕ) → length fields < greatest_of Fields → length (fields ++ x ∷ []) ≤ greatest_of Fields
one_more fields x few = let sum = length-append fields (x ∷ []) in omega arith

HasWords-push : (memory : ℕ → ℕ) (at : ℕ) (xs : List ℕ) (x : ℕ) → HasWords memory at xs → word memory (at + 4 * length xs) ≡ x → HasWords memory at (xs ++ x ∷ [])
HasWords-push memory at [] x has is =
    let here : at + 4 * 0 ≡ at = omega arith in (ap (word memory) (sym here) ∙ is, tt)
HasWords-push memory at (y ∷ xs) x has is =
    let there : at + 4 * suc (length xs) ≡ at + 4 + 4 * length xs = omega arith in
    (has.0, HasWords-push memory (at + 4) xs x has.1 (ap (word memory) (sym there) ∙ is))

-- a heap that is given the cell that it has
pub changed-nothing : (at : ℕ) (cell : Cell) (heap : Heap) → heap at ≡ cell → changed at cell heap ≡ heap
changed-nothing at cell heap is =
    fun_ext (λ x. changed-by (λ c. c ≡ heap x) x at cell heap (λ e. sym (ap heap e ∙ is)) (λ differ. refl))

module _ {pool : Pool} {view : View} {s t : Processor} (memory : Memory pool view s) (same : SameRoots s t) where
  -- ---- a cell of the code's own becomes another one

  -- words of it alone have changed, if any, and memory shows the new state
  pub own_change : (at : ℕ) (cell : Cell) → IsOwn view at → IsOwnState cell → SameBut s.memory t.memory at → Shows pool t.memory at cell → Memory pool (record view { heap = changed at cell view.heap }) t
  own_change at cell own state but shows =
      let is_cell = shown-cell memory.shown at (view.heap at) refl own.some in
      let none = IsChain-apart s.memory view.heap at own.not_free (value s.registers 8) view.frees memory.chain in
      let has = memory.has_border in
      let frees = HasFrees-changed at cell own.not_free state.not_free (record { fresh = has.fresh; chained = has.chained }) in
      record {
        usable = IsUsable-same same.parts memory.usable;
        shown = IsShown-changed at cell memory.shown is_cell but shows;
        settled = λ x body. changed-by (λ c. c ≢ waiting body) x at cell view.heap (λ e. state.settled body) (λ differ. memory.settled x body);
        chain = subst (λ w. IsChain t.memory (changed at cell view.heap) w view.frees) (sym same.chain)
            (IsChain-changed at cell memory.shown is_cell but (value s.registers 8) view.frees none memory.chain);
        held = subst (λ p. IsHeldChain pool p t.memory (changed at cell view.heap) (value t.registers 9) view.held) (sym same.parts)
            (subst (λ w. IsHeldChain pool s.parts t.memory (changed at cell view.heap) w view.held) (sym same.held)
            (IsHeldChain-changed s.parts at cell memory.usable.aligned memory.shown is_cell but (value s.registers 9) view.held own.not_held memory.held));
        border = same.border ∙ memory.border;
        end = same.end ∙ memory.end;
        has_border = record { aligned = has.aligned; behind = has.behind; within = has.within; fresh = frees.fresh; chained = frees.chained };
      }

  -- ---- stores outside of all cells

  pub outside_store : SameInside pool s.memory t.memory → SameSlots s.memory t.memory view.held → Memory pool view t
  outside_store inside slots =
      let aligned = memory.usable.aligned in
      record {
        usable = IsUsable-same same.parts memory.usable;
        shown = IsShown-outside aligned inside memory.shown;
        settled = memory.settled;
        chain = subst (λ w. IsChain t.memory view.heap w view.frees) (sym same.chain)
            (IsChain-outside aligned inside memory.shown (value s.registers 8) view.frees memory.chain);
        held = subst (λ p. IsHeldChain pool p t.memory view.heap (value t.registers 9) view.held) (sym same.parts)
            (subst (λ w. IsHeldChain pool s.parts t.memory view.heap w view.held) (sym same.held)
            (IsHeldChain-outside s.parts aligned inside memory.shown (value s.registers 9) view.held slots memory.held));
        border = same.border ∙ memory.border;
        end = same.end ∙ memory.end;
        has_border = memory.has_border;
      }

  -- no store
  pub same_memory : t.memory ≡ s.memory → Memory pool view t
  same_memory e =
      outside_store (record { same = λ x low high. ap (λ m. word m x) e }) (record { same = λ slot some. ap (λ m. word m slot) e })

  -- ---- counts

  -- a count is raised or lowered, and the body stays
  pub own_count : (at count next : ℕ) (body : Body) → view.heap at ≡ counted count body → occurs at (map (λ link. link.cell) view.held) ≡ 0 → next < 2 ^ 32
      → t.memory ≡ with_number at 4 next s.memory → Memory pool (record view { heap = changed at (counted next body) view.heap }) t
  own_count at count next body is not_held fits stored =
      let shows = shows-at memory.shown at (counted count body) is in
      own_change at (counted next body)
      (record { some = λ e. cc; not_free = λ e. cc; not_held = not_held })
      (counted-own next body)
      (subst (λ m. SameBut s.memory m at) (sym stored) (SameBut-store s.memory at at next (omega arith) (omega arith)))
      (subst (λ m. Shows pool m at (counted next body)) (sym stored)
      (shows.0, word-same at next s.memory fits, fits, HasBody-same s.memory _ at body (SameWords-first s.memory at next) shows.3))

  -- ---- fields

  -- the next field of a cell in hand is written
  pub own_field : (at x : ℕ) (fields : List ℕ) → view.heap at ≡ token fields → occurs at (map (λ link. link.cell) view.held) ≡ 0 → length fields < 6 → x < 2 ^ 32
      → t.memory ≡ with_number (at + 8 + 4 * length fields) 4 x s.memory → Memory pool (record view { heap = changed at (token (fields ++ x ∷ [])) view.heap }) t
  own_field at x fields is not_held few fits stored =
      let shows = shows-at memory.shown at (token fields) is in
      let to = at + 8 + 4 * length fields in
      let front : HasWords (with_number to 4 x s.memory) (at + 8) fields = HasWords-same s.memory _ (at + 8) to fields record { same = λ y low high. word-apart to x s.memory y (inl high) } (omega arith) shows.2 in
      own_change at (token (fields ++ x ∷ []))
      (record { some = λ e. cc; not_free = λ e. cc; not_held = not_held })
      (token-own (fields ++ x ∷ []))
      (subst (λ m. SameBut s.memory m at) (sym stored) (SameBut-store s.memory at to x (omega arith) (omega arith)))
      (subst (λ m. Shows pool m at (token (fields ++ x ∷ []))) (sym stored)
      (shows.0, one_more fields x few, HasWords-push (with_number to 4 x s.memory) (at + 8) fields x front (word-same to x s.memory fits)))

  -- the first two words of a cell in hand, which are not told of it
  pub own_header : (at to x : ℕ) (fields : List ℕ) → view.heap at ≡ token fields → occurs at (map (λ link. link.cell) view.held) ≡ 0 → at ≤ to → to + 4 ≤ at + 8
      → t.memory ≡ with_number to 4 x s.memory → Memory pool view t
  own_header at to x fields is not_held low high stored =
      let shows = shows-at memory.shown at (token fields) is in
      let few = shows.1 in
      let kept : HasWords (with_number to 4 x s.memory) (at + 8) fields = HasWords-same s.memory _ (at + 8) (at + 8 + 4 * length fields) fields record { same = λ y from upto. word-apart to x s.memory y (inr (omega arith)) } (omega arith) shows.2 in
      let changed_view = own_change at (token fields)
      (record { some = λ e. cc; not_free = λ e. cc; not_held = not_held })
      (token-own fields)
      (subst (λ m. SameBut s.memory m at) (sym stored) (SameBut-store s.memory at to x low (omega arith)))
      (subst (λ m. Shows pool m at (token fields)) (sym stored) (shows.0, shows.1, kept)) in
      subst (λ h. Memory pool (record view { heap = h }) t) (changed-nothing at (token fields) view.heap is) changed_view

  -- ---- without a store

  -- a cell in hand whose words are all written is a counted cell
  pub own_made : (at count : ℕ) (body : Body) → view.heap at ≡ token body.fields → occurs at (map (λ link. link.cell) view.held) ≡ 0
      → word s.memory at ≡ count → count < 2 ^ 32 → word s.memory (at + 4) ≡ body.tag + 256 * body.mask → body.tag < 256 → body.mask < 2 ^ length body.fields
      → t.memory ≡ s.memory → Memory pool (record view { heap = changed at (counted count body) view.heap }) t
  own_made at count body is not_held count_is fits header tag mask kept =
      let shows = shows-at memory.shown at (token body.fields) is in
      own_change at (counted count body)
      (record { some = λ e. cc; not_free = λ e. cc; not_held = not_held })
      (counted-own count body)
      (record { same = λ x apart. ap (λ m. word m x) kept })
      (subst (λ m. Shows pool m at (counted count body)) (sym kept)
      (shows.0, count_is, fits, record { header = header; tag = tag; mask = mask; few = shows.1; fields = shows.2 }))

  -- a cell that is opened is a token with the fields that it had
  pub own_opened : (at count : ℕ) (body : Body) → view.heap at ≡ counted count body → occurs at (map (λ link. link.cell) view.held) ≡ 0
      → t.memory ≡ s.memory → Memory pool (record view { heap = changed at (token body.fields) view.heap }) t
  own_opened at count body is not_held kept =
      let shows = shows-at memory.shown at (counted count body) is in
      own_change at (token body.fields)
      (record { some = λ e. cc; not_free = λ e. cc; not_held = not_held })
      (token-own body.fields)
      (record { same = λ x apart. ap (λ m. word m x) kept })
      (subst (λ m. Shows pool m at (token body.fields)) (sym kept) (shows.0, shows.3.few, shows.3.fields))

-- ---- release

-- a cell of the code's own is freed: its first word is the chain's head, and x8 is its address
pub own_free : {pool : Pool} {view : View} {s t : Processor} → Memory pool view s → (at : ℕ) → IsOwn view at → t.parts ≡ s.parts → t.memory ≡ with_number at 4 (value s.registers 8) s.memory
    → value t.registers 8 ≡ at → value t.registers 9 ≡ value s.registers 9 → value t.registers 18 ≡ value s.registers 18 → value t.registers 19 ≡ value s.registers 19
    → Memory pool (record view { heap = changed at free view.heap; frees = at ∷ view.frees }) t
own_free {pool} {view} {s} {t} memory at own parts stored chain held border end =
    let is_cell = shown-cell memory.shown at (view.heap at) refl own.some in
    let none = IsChain-apart s.memory view.heap at own.not_free (value s.registers 8) view.frees memory.chain in
    let below = IsChain-below memory.usable memory.shown (value s.registers 8) view.frees memory.chain in
    let but : SameBut s.memory t.memory at = subst (λ m. SameBut s.memory m at) (sym stored) (SameBut-store s.memory at at (value s.registers 8) (omega arith) (omega arith)) in
    let rest = IsChain-changed at free memory.shown is_cell but (value s.registers 8) view.frees none memory.chain in
    let next : word t.memory at ≡ value s.registers 8 = ap (λ m. word m at) stored ∙ word-same at (value s.registers 8) s.memory below in
    let has = memory.has_border in
    let frees = HasFrees-freed at own.not_free is_cell (record { fresh = has.fresh; chained = has.chained }) in
    record {
      usable = IsUsable-same parts memory.usable;
      shown = IsShown-changed at free memory.shown is_cell but is_cell;
      settled = λ x body. changed-by (λ c. c ≢ waiting body) x at free view.heap (λ e w. cc) (λ differ. memory.settled x body);
      chain = (chain, changed-same at free view.heap, none, subst (λ w. IsChain t.memory (changed at free view.heap) w view.frees) (sym next) rest);
      held = subst (λ p. IsHeldChain pool p t.memory (changed at free view.heap) (value t.registers 9) view.held) (sym parts)
          (subst (λ w. IsHeldChain pool s.parts t.memory (changed at free view.heap) w view.held) (sym held)
          (IsHeldChain-changed s.parts at free memory.usable.aligned memory.shown is_cell but (value s.registers 9) view.held own.not_held memory.held));
      border = border ∙ memory.border;
      end = end ∙ memory.end;
      has_border = record { aligned = has.aligned; behind = has.behind; within = has.within; fresh = frees.fresh; chained = frees.chained };
    }
