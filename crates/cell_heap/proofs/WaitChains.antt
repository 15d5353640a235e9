-- The cells in memory during a drop: the chain of the waiting cells goes through their first words, as the chain of the free ones does.
use Rattle.std.proofs.Common.{◌≡◌, ◌≢◌, ◌≤◌, ◌<◌, ℕ, suc, ◌+◌, ◌*◌, ◌%◌, ◌^◌, inl, inr, List, [], ◌∷◌, length, refl, sym, ap, ◌∙◌, subst, arith}
use Rattle.std.proofs.lemmas.Bool.{cases_eq, cases_lt}
use Rattle.kk_base.specs.Memory.{Part}
use Rattle.kk_base.specs.Limits.{greatest_of}
use Rattle.kk_base.specs.declared.limit.LimitKind.TheVariants.{Fields}
use Rattle.rv_isa.specs.Bytes.{with_number, Apart}
use Rattle.rv_isa.proofs.Memory.{word-same, word-apart}
use Rattle.rv_isa.specs.Numbers.{cell_size}
use Rattle.cell_heap.specs.Cells.{Body, Cell, free, waiting, counted, Heap, changed, occurs}
use Rattle.cell_heap.specs.Pool.{Pool, end_of, IsCell, IsUsable}
use Rattle.cell_heap.specs.Memory.{word, HasWords, HasBody, Shows, IsShown, IsChain}
use Rattle.cell_heap.proofs.Sums.{occurs-none, occurs-by}
use Rattle.cell_heap.proofs.CountChanges.{waiting-some}
use Rattle.cell_heap.proofs.Frames.{changed-same, changed-other, SameWords, SameBut, SameBut-store, SameWords-but, HasBody-same, IsShown-changed, IsChain-changed, shown-cell, shows-at, free-some}

-- the waiting cells, each once, by word 0
abbrev pub IsWaitChain : (ℕ → ℕ) → Heap → ℕ → List ℕ → Type 0
IsWaitChain memory heap at [] = at ≡ 0
IsWaitChain memory heap at (cell ∷ cells) =
    (at ≡ cell) × ((body : Body) × (heap cell ≡ waiting body)) × (occurs cell cells ≡ 0) × IsWaitChain memory heap (word memory cell) cells

pub IsWaitChain-changed : {pool : Pool} {old new : ℕ → ℕ} {heap : Heap} (at : ℕ) (cell : Cell) → IsShown pool old heap → IsCell pool at → SameBut old new at
    → (from : ℕ) (cells : List ℕ) → occurs at cells ≡ 0 → IsWaitChain old heap from cells → IsWaitChain new (changed at cell heap) from cells
IsWaitChain-changed at cell shown is_cell but from [] none chain = chain
IsWaitChain-changed {pool} {old} {new} {heap} at cell shown is_cell but from (first ∷ cells) none chain =
    let apart = occurs-none at first cells none in
    let differ : first ≢ at = λ e. apart.0 (sym e) in
    let first_cell = shown-cell shown first (waiting chain.1.0) chain.1.1 (waiting-some chain.1.0) in
    let words = SameWords-but but is_cell first differ first_cell in
    let next : word new first ≡ word old first = words.same first (omega arith) (omega arith) in
    let rest = IsWaitChain-changed at cell shown is_cell but (word old first) cells apart.1 chain.3 in
    (chain.0, (chain.1.0, changed-other at cell heap first differ ∙ chain.1.1), chain.2, subst (λ w. IsWaitChain new (changed at cell heap) w cells) (sym next) rest)

-- a cell of another kind is on no such chain
pub IsChain-apart : (memory : ℕ → ℕ) (heap : Heap) (at : ℕ) → heap at ≢ free → (from : ℕ) (cells : List ℕ) → IsChain memory heap from cells → occurs at cells ≡ 0
IsChain-apart memory heap at other from [] chain = refl
IsChain-apart memory heap at other from (first ∷ cells) chain =
    let rest = IsChain-apart memory heap at other (word memory first) cells chain.3 in
    elim (cases_eq (occurs at (first ∷ cells)) 0) [
      | inl none ↦ none
      | inr some ↦ absurd (elim (occurs-by at first cells some) [ inl e ↦ other (ap heap e ∙ chain.1) | inr later ↦ later rest ])
    ]

pub IsWaitChain-apart : (memory : ℕ → ℕ) (heap : Heap) (at : ℕ) → ((body : Body) → heap at ≢ waiting body) → (from : ℕ) (cells : List ℕ) → IsWaitChain memory heap from cells → occurs at cells ≡ 0
IsWaitChain-apart memory heap at other from [] chain = refl
IsWaitChain-apart memory heap at other from (first ∷ cells) chain =
    let rest = IsWaitChain-apart memory heap at other (word memory first) cells chain.3 in
    elim (cases_eq (occurs at (first ∷ cells)) 0) [
      | inl none ↦ none
      | inr some ↦ absurd (elim (occurs-by at first cells some) [ inl e ↦ other chain.1.0 (ap heap e ∙ chain.1.1) | inr later ↦ later rest ])
    ]

-- the heads of the chains are words
cell-below : (pool : Pool) (parts : List Part) (at : ℕ) → IsUsable pool parts → IsCell pool at → at < 2 ^ 32
cell-below pool parts at usable cell = let below = usable.below in let before = cell.before in omega arith

pub IsChain-below : {pool : Pool} {parts : List Part} {memory : ℕ → ℕ} {heap : Heap} → IsUsable pool parts → IsShown pool memory heap → (from : ℕ) (cells : List ℕ) → IsChain memory heap from cells → from < 2 ^ 32
IsChain-below usable shown from [] chain = omega arith
IsChain-below {pool} {parts} usable shown from (first ∷ cells) chain =
    let below = cell-below pool parts first usable (shown-cell shown first free chain.1 free-some) in omega arith

pub IsWaitChain-below : {pool : Pool} {parts : List Part} {memory : ℕ → ℕ} {heap : Heap} → IsUsable pool parts → IsShown pool memory heap → (from : ℕ) (cells : List ℕ) → IsWaitChain memory heap from cells → from < 2 ^ 32
IsWaitChain-below usable shown from [] chain = omega arith
IsWaitChain-below {pool} {parts} usable shown from (first ∷ cells) chain =
    let below = cell-below pool parts first usable (shown-cell shown first (waiting chain.1.0) chain.1.1 (waiting-some chain.1.0)) in omega arith

-- ---- the cells, and the three stores of a drop

-- memory has these cells, with the free ones on the chain from one address, and the waiting ones on the chain from another
pub record AreCells (pool : Pool) (parts : List Part) (memory : ℕ → ℕ) (heap : Heap) (free_at : ℕ) (frees : List ℕ) (wait_at : ℕ) (waits : List ℕ) : Type 0 where
  pub usable : IsUsable pool parts
  pub shown : IsShown pool memory heap
  pub chain : IsChain memory heap free_at frees
  pub wait_chain : IsWaitChain memory heap wait_at waits

counted-free : (heap : Heap) (at count : ℕ) (body : Body) → heap at ≡ counted count body → heap at ≢ free
counted-free heap at count body is e = cc

counted-waits : (heap : Heap) (at count : ℕ) (body : Body) → heap at ≡ counted count body → (other : Body) → heap at ≢ waiting other
counted-waits heap at count body is other e = cc

waiting-free : (heap : Heap) (at : ℕ) (body : Body) → heap at ≡ waiting body → heap at ≢ free
waiting-free heap at body is e = cc

-- the words behind the first one stay
pub SameWords-first : (memory : ℕ → ℕ) (at n : ℕ) → SameWords memory (with_number at 4 n memory) (at + 4) (at + cell_size)
SameWords-first memory at n = record { same = λ x low high. word-apart at n memory x (inr low) }

module _ {pool : Pool} {parts : List Part} {memory : ℕ → ℕ} {heap : Heap} {free_at wait_at : ℕ} {frees waits : List ℕ} (cells : AreCells pool parts memory heap free_at frees wait_at waits) where
  pub AreCells-counted : (at count : ℕ) (body : Body) → heap at ≡ counted count body → Shows pool memory at (counted count body)
  AreCells-counted at count body is = shows-at cells.shown at (counted count body) is

  -- a count is lowered
  pub AreCells-lower : (at count : ℕ) (body : Body) → heap at ≡ counted (suc (suc count)) body
      → AreCells pool parts (with_number at 4 (suc count) memory) (changed at (counted (suc count) body) heap) free_at frees wait_at waits
  AreCells-lower at count body is =
      let shows = AreCells-counted at _ body is in
      let fits = shows.2 in
      let but = SameBut-store memory at at (suc count) (omega arith) (omega arith) in
      record {
        usable = cells.usable;
        shown = IsShown-changed at _ cells.shown shows.0 but
            (shows.0, word-same at (suc count) memory (omega arith), omega arith, HasBody-same memory _ at body (SameWords-first memory at (suc count)) shows.3);
        chain = IsChain-changed at _ cells.shown shows.0 but free_at frees (IsChain-apart memory heap at (counted-free heap at _ body is) free_at frees cells.chain) cells.chain;
        wait_chain = IsWaitChain-changed at _ cells.shown shows.0 but wait_at waits (IsWaitChain-apart memory heap at (counted-waits heap at _ body is) wait_at waits cells.wait_chain) cells.wait_chain;
      }

  -- a cell begins to wait
  pub AreCells-wait : (at : ℕ) (body : Body) → heap at ≡ counted 1 body
      → AreCells pool parts (with_number at 4 wait_at memory) (changed at (waiting body) heap) free_at frees at (at ∷ waits)
  AreCells-wait at body is =
      let shows = AreCells-counted at _ body is in
      let below = IsWaitChain-below cells.usable cells.shown wait_at waits cells.wait_chain in
      let but = SameBut-store memory at at wait_at (omega arith) (omega arith) in
      let apart = IsWaitChain-apart memory heap at (counted-waits heap at _ body is) wait_at waits cells.wait_chain in
      let rest = IsWaitChain-changed at (waiting body) cells.shown shows.0 but wait_at waits apart cells.wait_chain in
      record {
        usable = cells.usable;
        shown = IsShown-changed at _ cells.shown shows.0 but (shows.0, HasBody-same memory _ at body (SameWords-first memory at wait_at) shows.3);
        chain = IsChain-changed at _ cells.shown shows.0 but free_at frees (IsChain-apart memory heap at (counted-free heap at _ body is) free_at frees cells.chain) cells.chain;
        wait_chain = (
          refl,
          (body, changed-same at (waiting body) heap),
          apart,
          subst (λ w. IsWaitChain (with_number at 4 wait_at memory) (changed at (waiting body) heap) w waits) (sym (word-same at wait_at memory below)) rest,
        );
      }

module _ {pool : Pool} {parts : List Part} {memory : ℕ → ℕ} {heap : Heap} {free_at wait_at at : ℕ} {frees waits : List ℕ} (cells : AreCells pool parts memory heap free_at frees wait_at (at ∷ waits)) where
  pub waiting-first : wait_at ≡ at
  waiting-first = cells.wait_chain.0

  pub AreCells-waiting : (body : Body) → heap at ≡ waiting body → Shows pool memory at (waiting body)
  AreCells-waiting body is = shows-at cells.shown at (waiting body) is

  -- the first waiting cell is freed
  pub AreCells-opened : (body : Body) → heap at ≡ waiting body
      → AreCells pool parts (with_number at 4 free_at memory) (changed at free heap) at (at ∷ frees) (word memory at) waits
  AreCells-opened body is =
      let shows = AreCells-waiting body is in
      let below = IsChain-below cells.usable cells.shown free_at frees cells.chain in
      let but = SameBut-store memory at at free_at (omega arith) (omega arith) in
      let apart = IsChain-apart memory heap at (waiting-free heap at body is) free_at frees cells.chain in
      let rest = IsChain-changed at free cells.shown shows.0 but free_at frees apart cells.chain in
      record {
        usable = cells.usable;
        shown = IsShown-changed at _ cells.shown shows.0 but shows.0;
        chain = (
          refl,
          changed-same at free heap,
          apart,
          subst (λ w. IsChain (with_number at 4 free_at memory) (changed at free heap) w frees) (sym (word-same at free_at memory below)) rest,
        );
        wait_chain = IsWaitChain-changed at free cells.shown shows.0 but (word memory at) waits cells.wait_chain.2 cells.wait_chain.3;
      }

-- ---- the words of fields

-- these words are words of fields of cells, one behind the other
abbrev pub AreFields : Pool → (ℕ → ℕ) → ℕ → List ℕ → Type 0
AreFields pool memory at [] = Unit {0}
AreFields pool memory at (x ∷ xs) =
    (word memory at ≡ x) × (at % 4 ≡ 0) × (8 ≤ at % cell_size) × (pool.first ≤ at) × (at + 4 ≤ end_of pool) × AreFields pool memory (at + 4) xs

fields-from : (pool : Pool) (memory : ℕ → ℕ) (cell : ℕ) → pool.first % cell_size ≡ 0 → IsCell pool cell → (k : ℕ) (xs : List ℕ) → k + length xs ≤ greatest_of Fields → HasWords memory (cell + 8 + 4 * k) xs → AreFields pool memory (cell + 8 + 4 * k) xs
fields-from pool memory cell first_aligned is_cell k [] few words = tt
fields-from pool memory cell first_aligned is_cell k (x ∷ xs) few words =
    let low = is_cell.behind in
    let high = is_cell.before in
    let aligned = is_cell.aligned in
    let next : cell + 8 + 4 * k + 4 ≡ cell + 8 + 4 * suc k = omega arith in
    let rest = fields-from pool memory cell first_aligned is_cell (suc k) xs (omega arith) (subst (λ a. HasWords memory a xs) next words.1) in
    (words.0, omega arith, omega arith, omega arith, omega arith, subst (λ a. AreFields pool memory a xs) (sym next) rest)

pub AreFields-body : (pool : Pool) (memory : ℕ → ℕ) (cell : ℕ) (body : Body) → pool.first % cell_size ≡ 0 → IsCell pool cell → HasBody memory cell body → AreFields pool memory (cell + 8) body.fields
AreFields-body pool memory cell body first_aligned is_cell has =
    let few = has.few in
    let here : cell + 8 ≡ cell + 8 + 4 * 0 = omega arith in
    subst (λ a. AreFields pool memory a body.fields) (sym here)
    (fields-from pool memory cell first_aligned is_cell 0 body.fields (omega arith) (subst (λ a. HasWords memory a body.fields) here has.fields))

-- a store of the first word of a cell changes no field
field-apart : (cell at : ℕ) → cell % cell_size ≡ 0 → at % 4 ≡ 0 → 8 ≤ at % cell_size → Apart cell 4 at 4
field-apart cell at cell_aligned aligned behind =
    elim (cases_lt cell at) [ inl below ↦ inr (omega arith) | inr above ↦ inl (omega arith) ]

pub AreFields-first : (pool : Pool) (memory : ℕ → ℕ) (cell n : ℕ) → cell % cell_size ≡ 0 → (at : ℕ) (xs : List ℕ) → AreFields pool memory at xs → AreFields pool (with_number cell 4 n memory) at xs
AreFields-first pool memory cell n aligned at [] fields = tt
AreFields-first pool memory cell n aligned at (x ∷ xs) fields = (
  word-apart cell n memory at (field-apart cell at aligned fields.1 fields.2) ∙ fields.0,
  fields.1,
  fields.2,
  fields.3,
  fields.4,
  AreFields-first pool memory cell n aligned (at + 4) xs fields.5,
)
