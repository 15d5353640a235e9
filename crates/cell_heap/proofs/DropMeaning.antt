-- The plain meaning of giving up references: what it leaves, that it exists, and that credit pays it. And what the turns without a stack leave.
use Rattle.std.proofs.Common.{◌≡◌, ◌≢◌, ◌≤◌, ℕ, zero, suc, ◌+◌, ◌*◌, ◌%◌, ◌⊎◌, inl, inr, List, [], ◌∷◌, ◌++◌, length, refl, ap, arith, length-append}
use Rattle.std.proofs.lemmas.Bool.{cases_eq}
use Rattle.cell_heap.specs.Cells.{Body, Cell, free, waiting, counted, Heap, changed, references}
use Rattle.cell_heap.specs.DropMeaning.{GivesUp, all_given, constant, lowered, last}
use Rattle.cell_heap.specs.Counts.{HasCounts, credit_of, credit}
use Rattle.cell_heap.proofs.CountChanges.{IsListed, counted-some, is-some, IsListed-changed, credit-changed, HasCounts-constant, HasCounts-lowered, HasCounts-freed, HasCounts-next}
use Rattle.cell_heap.proofs.CellsAfterDrop.{IsLeft, IsLeft-counted, IsLeft-opened}
use Rattle.cell_heap.specs.Turns.{Turns, ended, passed, lower, waits_now, opened}

-- ---- what is left

pub GivesUp-left : {refs : List ℕ} {heap end : Heap} {gave freed : ℕ} (start : Heap) → GivesUp refs heap gave freed end → IsLeft start heap → IsLeft start end
GivesUp-left start all_given left = left
GivesUp-left start (constant odd rest) left = GivesUp-left start rest left
GivesUp-left start (lowered {x = x} {count = count} {body = body} even is rest) left =
    GivesUp-left start rest (IsLeft-counted x _ body _ is (inr (inr (suc count, refl))) left)
GivesUp-left start (last {x = x} {body = body} even is rest) left =
    GivesUp-left start rest (IsLeft-counted x _ body _ is (inl refl) left)

pub GivesUp-counts : {places : List ℕ} {roots : ℕ → ℕ} {refs : List ℕ} {heap end : Heap} {gave freed : ℕ} → GivesUp refs heap gave freed end → IsListed places heap → HasCounts places roots refs heap → HasCounts places roots [] end
GivesUp-counts all_given listed counts = counts
GivesUp-counts (constant odd rest) listed counts = GivesUp-counts rest listed (HasCounts-constant listed odd counts)
GivesUp-counts (lowered {x = x} {heap = heap} {body = body} even is rest) listed counts =
    GivesUp-counts rest (IsListed-changed x _ (is-some heap x _ is (counted-some _ body)) listed) (HasCounts-lowered listed is counts)
GivesUp-counts (last {x = x} {heap = heap} {body = body} even is rest) listed counts =
    GivesUp-counts rest (IsListed-changed x _ (is-some heap x _ is (counted-some _ body)) listed) (HasCounts-freed listed is counts)

pub Turns-left : {refs waits frees left_free : List ℕ} {heap end : Heap} {gave freed : ℕ} (start : Heap) → ((x : ℕ) (other : Body) → start x ≢ waiting other) → Turns refs waits frees heap gave freed left_free end → IsLeft start heap → IsLeft start end
Turns-left start settled ended left = left
Turns-left start settled (passed odd rest) left = Turns-left start settled rest left
Turns-left start settled (lower {x = x} {count = count} {body = body} even is rest) left =
    Turns-left start settled rest (IsLeft-counted x _ body _ is (inr (inr (suc count, refl))) left)
Turns-left start settled (waits_now {x = x} {body = body} even is rest) left =
    Turns-left start settled rest (IsLeft-counted x _ body _ is (inr (inl refl)) left)
Turns-left start settled (opened {x = x} {body = body} is rest) left =
    Turns-left start settled rest (IsLeft-opened x body settled is left)

-- ---- credit

module _ (places : List ℕ) (a_cell a_reference : ℕ) where
  -- a counted cell and the one that it becomes have their credits
  credit-moves : (heap : Heap) (x count : ℕ) (body : Body) (next : Cell) → IsListed places heap → heap x ≡ counted count body
      → credit a_cell a_reference places (changed x next heap) + (a_cell + a_reference * length (references body)) ≡ credit a_cell a_reference places heap + credit_of a_cell a_reference next
  credit-moves heap x count body next listed is =
      let e = credit-changed places heap x next (listed.once x (is-some heap x _ is (counted-some count body))) a_cell a_reference in
      let had = ap (λ c. credit_of a_cell a_reference c) is in
      omega arith

  -- what is given up and freed is paid by credit: nothing of it is made, and nothing is lost
  pub GivesUp-paid : {refs : List ℕ} {heap end : Heap} {gave freed : ℕ} → GivesUp refs heap gave freed end → IsListed places heap
      → credit a_cell a_reference places end + a_cell * freed + a_reference * gave ≡ credit a_cell a_reference places heap + a_reference * length refs
  GivesUp-paid all_given listed = omega arith
  GivesUp-paid (constant odd rest) listed = let e = GivesUp-paid rest listed in omega arith
  GivesUp-paid (lowered {x = x} {heap = heap} {count = count} {body = body} even is rest) listed =
      let e = GivesUp-paid rest (IsListed-changed x _ (is-some heap x _ is (counted-some _ body)) listed) in
      let moves = credit-moves heap x _ body (counted (suc count) body) listed is in
      omega arith
  GivesUp-paid (last {x = x} {xs = xs} {heap = heap} {body = body} even is rest) listed =
      let e = GivesUp-paid rest (IsListed-changed x _ (is-some heap x _ is (counted-some _ body)) listed) in
      let moves = credit-moves heap x _ body free listed is in
      let joined = ap (λ n. a_reference * n) (length-append (references body) xs) in
      omega arith

-- ---- it exists

-- each turn takes a reference, or a cell with its references, off what is left
abbrev pub left_to_do : List ℕ → List ℕ → Heap → ℕ
left_to_do places refs heap = length refs + credit 1 1 places heap

pub odd-or-even : (x : ℕ) → (x % 2 ≡ 1) ⊎ (x % 2 ≡ 0)
odd-or-even x = elim (cases_eq (x % 2) 0) [ inl e ↦ inr e | inr some ↦ inl (grind arith) ]

abbrev pub Given : List ℕ → Heap → Type 0
Given refs heap = (gave freed : ℕ) × (end : Heap) × GivesUp refs heap gave freed end

module _ (places : List ℕ) (heap : Heap) (listed : IsListed places heap) where
  less-lowered : (x count : ℕ) (body : Body) → heap x ≡ counted (suc (suc count)) body → credit 1 1 places (changed x (counted (suc count) body) heap) ≡ credit 1 1 places heap
  less-lowered x count body is = let moves = credit-moves places 1 1 heap x _ body (counted (suc count) body) listed is in omega arith

  less-freed : (x : ℕ) (xs : List ℕ) (body : Body) → heap x ≡ counted 1 body → suc (left_to_do places (references body ++ xs) (changed x free heap)) ≡ length xs + credit 1 1 places heap
  less-freed x xs body is =
      let moves = credit-moves places 1 1 heap x _ body free listed is in
      let joined = length-append (references body) xs in
      omega arith

pub GivesUp-exists : (n : ℕ) {places : List ℕ} {roots : ℕ → ℕ} (refs : List ℕ) (heap : Heap) → left_to_do places refs heap ≤ n → IsListed places heap → HasCounts places roots refs heap → Given refs heap
GivesUp-exists n [] heap within listed counts = (0, 0, heap, all_given)
GivesUp-exists zero (x ∷ refs) heap within listed counts = absurd (omega arith)
GivesUp-exists (suc n) {places} {roots} (x ∷ refs) heap within listed counts =
    elim (odd-or-even x) [
      | inl odd ↦
          (let rest = GivesUp-exists n refs heap (omega arith) listed (HasCounts-constant listed odd counts) in
          (suc rest.0, rest.1, rest.2, constant odd rest.3))
      | inr even ↦
          (let named = HasCounts-next listed even counts in
          by-count named.0 named.1 named.2 even
          (λ count body is.
          GivesUp-exists n refs (changed x (counted (suc count) body) heap) (let same = less-lowered places heap listed x count body is in omega arith)
          (IsListed-changed x _ (is-some heap x _ is (counted-some _ body)) listed) (HasCounts-lowered listed is counts))
          (λ body is.
          GivesUp-exists n (references body ++ refs) (changed x free heap) (let same = less-freed places heap listed x refs body is in omega arith)
          (IsListed-changed x _ (is-some heap x _ is (counted-some _ body)) listed) (HasCounts-freed listed is counts)))
    ]
  where
    by-count : (count : ℕ) (body : Body) → heap x ≡ counted (suc count) body → x % 2 ≡ 0
        → ((count : ℕ) (body : Body) → heap x ≡ counted (suc (suc count)) body → Given refs (changed x (counted (suc count) body) heap))
        → ((body : Body) → heap x ≡ counted 1 body → Given (references body ++ refs) (changed x free heap))
        → Given (x ∷ refs) heap
    by-count zero body is even lowers frees_it =
        let rest = frees_it body is in (suc rest.0, suc rest.1, rest.2, last even is rest.3)
    by-count (suc count) body is even lowers frees_it =
        let rest = lowers count body is in (suc rest.0, rest.1, rest.2, lowered even is rest.3)
