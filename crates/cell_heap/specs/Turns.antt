-- Giving up references with a chain of waiting cells, which is the order of the runtime's routine: a cell whose count reaches 0 waits, and its
-- references are given up once no other one is left to be given up. This needs no stack.
use Rattle.std.specs.Prelude.{◌≡◌, ℕ, zero, suc, ◌%◌, List, [], ◌∷◌, Option, Some, None, if◌then◌else◌, nat_eq}
use Rattle.cell_heap.specs.Cells.{Body, Cell, free, waiting, counted, Heap, changed, references}

-- from references that are to be given up, waiting cells and free ones, in a heap, to the free cells and the heap at the end; so many references
-- are given up, and so many cells are freed, which go to the front of the free ones
pub data Turns : List ℕ → List ℕ → List ℕ → Heap → ℕ → ℕ → List ℕ → Heap → Type 0 where
  ended : {frees : List ℕ} {heap : Heap} → Turns [] [] frees heap 0 0 frees heap
  passed : {x : ℕ} {xs waits frees left : List ℕ} {heap end : Heap} {gave freed : ℕ}
      → x % 2 ≡ 1 → Turns xs waits frees heap gave freed left end → Turns (x ∷ xs) waits frees heap (suc gave) freed left end
  lower : {x : ℕ} {xs waits frees left : List ℕ} {heap end : Heap} {gave freed : ℕ} {count : ℕ} {body : Body}
      → x % 2 ≡ 0 → heap x ≡ counted (suc (suc count)) body
      → Turns xs waits frees (changed x (counted (suc count) body) heap) gave freed left end → Turns (x ∷ xs) waits frees heap (suc gave) freed left end
  waits_now : {x : ℕ} {xs waits frees left : List ℕ} {heap end : Heap} {gave freed : ℕ} {body : Body}
      → x % 2 ≡ 0 → heap x ≡ counted 1 body
      → Turns xs (x ∷ waits) frees (changed x (waiting body) heap) gave freed left end → Turns (x ∷ xs) waits frees heap (suc gave) freed left end
  opened : {x : ℕ} {waits frees left : List ℕ} {heap end : Heap} {gave freed : ℕ} {body : Body}
      → heap x ≡ waiting body
      → Turns (references body) waits (x ∷ frees) (changed x free heap) gave freed left end → Turns [] (x ∷ waits) frees heap gave (suc freed) left end

-- ---- the same as a function

-- the references that are left, the waiting cells and the free ones, the heap, and how many references were given up and cells freed
pub record Work : Type 0 where
  pub refs : List ℕ
  pub waits : List ℕ
  pub frees : List ℕ
  pub heap : Heap
  pub gave : ℕ
  pub freed : ℕ

-- nothing was done yet
abbrev pub work_of : List ℕ → List ℕ → Heap → Work
work_of refs frees heap = record { refs = refs; waits = []; frees = frees; heap = heap; gave = 0; freed = 0 }

-- a reference to a cell is given up, of which the others are left; none where it names no counted cell
abbrev pub gives_one : ℕ → List ℕ → Cell → Work → Option Work
gives_one x refs (counted (suc (suc count)) body) work =
    Some (record work { refs = refs; heap = changed x (counted (suc count) body) work.heap; gave = suc work.gave })
gives_one x refs (counted (suc zero) body) work =
    Some (record work { refs = refs; waits = x ∷ work.waits; heap = changed x (waiting body) work.heap; gave = suc work.gave })
gives_one x refs _ work = None

abbrev pub gives : ℕ → List ℕ → Work → Option Work
gives x refs work =
    if nat_eq (x % 2) 1 then Some (record work { refs = refs; gave = suc work.gave }) else gives_one x refs (work.heap x) work

-- the first waiting cell is freed, and its references are the ones that are left
abbrev pub opens : ℕ → List ℕ → Cell → Work → Option Work
opens x waits (waiting body) work =
    Some (record work { refs = references body; waits = waits; frees = x ∷ work.frees; heap = changed x free work.heap; freed = suc work.freed })
opens x waits _ work = None

abbrev pub and_then : Option Work → (Work → Option Work) → Option Work
and_then None next = None
and_then (Some work) next = next work

abbrev pub a_turn : (Work → Option Work) → List ℕ → List ℕ → Work → Option Work
a_turn next [] [] work = Some work
a_turn next [] (x ∷ waits) work = and_then (opens x waits (work.heap x) work) next
a_turn next (x ∷ refs) waits work = and_then (gives x refs work) next

-- all turns, where there are fewer than `fuel`; none where one of them cannot be taken
abbrev pub turns : ℕ → Work → Option Work
turns zero work = None
turns (suc fuel) work = a_turn (turns fuel) work.refs work.waits work
