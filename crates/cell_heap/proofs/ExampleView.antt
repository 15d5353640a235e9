-- A machine of four cells that has a view: a counted cell, a free one on the chain, a held token, and one that was never used.
use Rattle.std.proofs.Common.{◌≡◌, ◌≢◌, ◌≤◌, ◌<◌, ◌↔◌, ℕ, ◌+◌, ◌*◌, ◌%◌, [], ◌∷◌, nat_eq, if◌then◌else◌, refl, sym, ap, subst, lit<, lit≤, arith}
use Rattle.std.proofs.lemmas.Bool.Decides.{nat_tests}
use Rattle.rv_isa.specs.Bytes.{number_at, with_number, bytes_at, with_bytes}
use Rattle.rv_isa.specs.Processor.{Processor}
use Rattle.rv_isa.specs.Numbers.{cell_size}
use Rattle.cell_heap.specs.Cells.{Body, Cell, no_cell, free, token, waiting, counted, Heap, changed, owned, occurs}
use Rattle.cell_heap.specs.Pool.{IsCell, IsUsable, places}
use Rattle.cell_heap.specs.View.{View, HasBorder}
use Rattle.cell_heap.specs.Memory.{Shows, IsShown, IsChain, IsHeldChain, Memory}
use Rattle.cell_heap.specs.Counts.{HasCounts, count_of, references_to}
use Rattle.cell_heap.specs.DropMeaning.{GivesUp, all_given, constant, last}
use Rattle.cell_heap.specs.Sound.{IsSound}
use Rattle.cell_heap.proofs.Examples.{pool, pair, memory_part, slot_stands}
use Rattle.cell_heap.proofs.Sums.{occurs-other}
use Rattle.cell_heap.proofs.Frames.{changed-by}

-- the pair at 64; 96 is the chain's only cell; the token at 128 is held by the slot at 200, and was a pair of 5 and `Nil`
abbrev memory : ℕ → ℕ
memory =
    with_number 200 4 128 (with_number 140 4 1 (with_number 136 4 5 (with_number 132 4 200
    (with_number 76 4 1 (with_number 72 4 7 (with_number 68 4 (1 + 256 * 2) (with_number 64 4 1 (λ x. 0))))))))

abbrev heap : Heap
heap = changed 64 (counted 1 pair) (changed 96 free (changed 128 (token (5 ∷ 1 ∷ [])) (changed 160 free (λ x. no_cell))))

abbrev view : View
view = record { heap = heap; frees = 96 ∷ []; border = 160; held = record { cell = 128; slot = 200 } ∷ [] }

abbrev machine : Processor
machine = record {
  registers = λ x. if nat_eq x 8 then 96 else if nat_eq x 9 then 128 else if nat_eq x 18 then 160 else if nat_eq x 19 then 192 else 0;
  pc = 0;
  memory = memory;
  parts = memory_part ∷ [];
  left = [];
  executed = 0;
  trace = [];
}

-- what holds of the four cells, and of all other addresses, holds
by-cells : (P : ℕ → Cell → Type 0) → P 64 (counted 1 pair) → P 96 free → P 128 (token (5 ∷ 1 ∷ [])) → P 160 free
    → ((x : ℕ) → x ≢ 64 → x ≢ 96 → x ≢ 128 → x ≢ 160 → P x no_cell) → (x : ℕ) → P x (heap x)
by-cells P a b c d other x =
    changed-by (P x) x 64 (counted 1 pair) (changed 96 free (changed 128 (token (5 ∷ 1 ∷ [])) (changed 160 free (λ x. no_cell)))) (λ e. subst (λ y. P y (counted 1 pair)) (sym e) a)
    (λ n64. changed-by (P x) x 96 free (changed 128 (token (5 ∷ 1 ∷ [])) (changed 160 free (λ x. no_cell))) (λ e. subst (λ y. P y free) (sym e) b)
    (λ n96. changed-by (P x) x 128 (token (5 ∷ 1 ∷ [])) (changed 160 free (λ x. no_cell)) (λ e. subst (λ y. P y (token (5 ∷ 1 ∷ []))) (sym e) c)
    (λ n128. changed-by (P x) x 160 free (λ x. no_cell) (λ e. subst (λ y. P y free) (sym e) d)
    (λ n160. other x n64 n96 n128 n160))))

all-cells : (x : ℕ) → x ≢ 64 → x ≢ 96 → x ≢ 128 → x ≢ 160 → IsCell pool x → ⊥
all-cells x n64 n96 n128 n160 cell =
    let low = cell.behind in
    let high = cell.before in
    let whole = cell.aligned in
    grind arith

usable : IsUsable pool (memory_part ∷ [])
usable = record {
  aligned = refl;
  some = lit< tt;
  below = lit< tt;
  loads = λ at low high. grind (arith, nat_tests);
  stores = λ at low high. grind (arith, nat_tests);
}

cell_at : (at : ℕ) → 64 ≤ at → at < 192 → at % cell_size ≡ 0 → IsCell pool at
cell_at at low high whole = record { behind = low; before = high; aligned = whole }

shown : IsShown pool memory heap
unfolding number_at with_number bytes_at with_bytes
shown = record {
  cell = by-cells (Shows pool memory) (
    cell_at 64 (lit≤ tt) (lit< tt) refl,
    refl,
    lit< tt,
    record { header = refl; tag = lit< tt; mask = lit< tt; few = lit≤ tt; fields = (refl, (refl, tt)) },
  )
      (cell_at 96 (lit≤ tt) (lit< tt) refl)
      (cell_at 128 (lit≤ tt) (lit< tt) refl, lit≤ tt, (refl, (refl, tt)))
      (cell_at 160 (lit≤ tt) (lit< tt) refl)
      all-cells;
}

chain : IsChain memory heap 96 (96 ∷ [])
unfolding number_at with_number bytes_at with_bytes
chain = (refl, refl, refl, refl)

held : IsHeldChain pool (memory_part ∷ []) memory heap 128 (record { cell = 128; slot = 200 } ∷ [])
unfolding number_at with_number bytes_at with_bytes
held = (refl, record { is_token = tt; is_slot = slot_stands; names_slot = refl; is_in_slot = refl }, refl, refl, refl)

has_border : HasBorder pool view
has_border = record {
  aligned = refl;
  behind = lit≤ tt;
  within = lit≤ tt;
  fresh = λ at cell. by-cells (λ x c. IsCell pool x → 160 ≤ x → c ≡ free)
      (λ is high. absurd (omega arith)) (λ is high. refl) (λ is high. absurd (omega arith)) (λ is high. refl)
      (λ x n64 n96 n128 n160 is high. absurd (all-cells x n64 n96 n128 n160 is)) at cell;
  chained = by-cells (λ x c. c ≡ free → (occurs x (96 ∷ []) ≢ 0) ↔ (x < 160))
      (λ is. cc) (λ is. (λ some. lit< tt, λ below none. cc)) (λ is. cc) (λ is. (λ some. absurd (some refl), λ below none. omega arith))
      (λ x n64 n96 n128 n160 is. cc);
}

settled : (at : ℕ) (body : Body) → heap at ≢ waiting body
settled at body =
    by-cells (λ x c. c ≢ waiting body) (λ e. cc) (λ e. cc) (λ e. cc) (λ e. cc) (λ x n64 n96 n128 n160 e. cc) at

-- the machine has the view
has_view : Memory pool view machine
has_view = record {
  usable = usable;
  shown = shown;
  settled = settled;
  chain = chain;
  held = held;
  border = refl;
  end = refl;
  has_border = has_border;
}

-- ---- the pair is given up

-- `Nil` is the only reference that a cell owns
owns_nil : (to : ℕ) → to % 2 ≡ 0 → occurs to (1 ∷ []) ≡ 0
owns_nil to even = occurs-other to 1 [] (λ e. let odd = ap (λ n. n % 2) e in omega arith)

no_references : (to : ℕ) → to % 2 ≡ 0 → references_to to heap (places pool) ≡ 0
no_references to even = let none = owns_nil to even in omega arith

not_here : (x : ℕ) → x ≢ 64 → occurs x (64 ∷ []) ≡ 0
not_here x differ = occurs-other x 64 [] differ

counts : HasCounts (places pool) (λ x. 0) (64 ∷ []) heap
counts = record {
  right = by-cells (λ x c. x % 2 ≡ 0 → count_of c ≡ 0 + occurs x (64 ∷ []) + references_to x heap (places pool))
      (λ even. refl) (λ even. refl) (λ even. refl) (λ even. refl)
      (λ x n64 n96 n128 n160 even. let none = not_here x n64 in let owns = no_references x even in omega arith);
  some = λ at count body. by-cells (λ x c. c ≡ counted count body → 0 < count)
      (λ is. let e = ap count_of is in omega arith) (λ is. cc) (λ is. cc) (λ is. cc) (λ x n64 n96 n128 n160 is. cc) at;
}

owned-nothing : (to : ℕ) → to % 2 ≡ 0 → (x : ℕ) → occurs to (owned (heap x)) ≡ 0
owned-nothing to even =
    by-cells (λ x c. occurs to (owned c) ≡ 0) (owns_nil to even) refl refl refl (λ x n64 n96 n128 n160. refl)

sound : IsSound pool (λ x. 0) (64 ∷ []) heap
sound = record {
  aligned = refl;
  placed = by-cells (λ x c. c ≢ no_cell → IsCell pool x)
      (λ some. cell_at 64 (lit≤ tt) (lit< tt) refl) (λ some. cell_at 96 (lit≤ tt) (lit< tt) refl)
      (λ some. cell_at 128 (lit≤ tt) (lit< tt) refl) (λ some. cell_at 160 (lit≤ tt) (lit< tt) refl)
      (λ x n64 n96 n128 n160 some. absurd (some refl));
  settled = settled;
  counts = counts;
  acyclic = record { rank = λ x. 0; falls = λ at to even owns. absurd (owns (owned-nothing to even at)) };
}

-- two references are given up, of which one is `Nil`, and one cell is freed
given_up : GivesUp (64 ∷ []) heap 2 1 (changed 64 free heap)
given_up = last refl refl (constant refl all_given)
