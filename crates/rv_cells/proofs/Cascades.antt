-- References of a counted heap are given up as those of the cells that hold it.
use Rattle.std.proofs.Common.{◌≡◌, ◌≢◌, ◌≤◌, ◌⊎◌, ℕ, zero, suc, ◌+◌, ◌*◌, ◌%◌, ◌/◌, inl, inr, List, [], ◌∷◌, ◌++◌, length, Option, Some, None, Bool, true, false, refl, sym, ap, ◌∙◌, subst, arith}
use Rattle.std.specs.Prelude.{◌==◌, if◌then◌else◌}
use mathlib.Core.Path.{fun_ext}
use Rattle.std.proofs.lemmas.Bool.{cases_eq}
use Rattle.cell_heap.specs.Cells.{Body, Cell, free, counted, Heap as SeenHeap, changed, chosen, references}
use Rattle.cell_heap.specs.DropMeaning.{GivesUp, all_given, constant as odd_given, lowered, last}
use Rattle.cell_heap.specs.Blocks.{Block, own, fields_of, seen}
use Rattle.cell_heap.proofs.Frames.{changed-by}
use Rattle.cell_heap.proofs.FieldMasks.{chosen-none, chosen-set, chosen-clear}
use Rattle.kk_source.specs.State.{Value, integer, unit, constant, place}
use Rattle.kk_counted.specs.Heaps.{Held, Heap, held_at, count_in, count_at, set_count, fields_if_held, one_if_counted, busy, fields_held, give_up}
use Rattle.kk_counted.specs.Cost.{turns_taken}
use Rattle.kk_counted.proofs.CountChanges.{count_set, count_top, count_below}
use Rattle.rv_cells.specs.Layout.{Layout, mask_of, word_in, words_in, FitsField, FitFields}
use Rattle.rv_cells.specs.CountedCells.{Owner, nobody, cell_of, in_hand, kept_aside}
use Rattle.rv_cells.proofs.NameContents.{some-is, held_set, held_other, counted_held, held_fields}

-- ---- values and the references that are given up for them

-- a value that is no cell's may be given up as an odd reference, or not at all
abbrev pub Passes : (List ℕ → Type 0) → List ℕ → Type 0
Passes rest words = rest words ⊎ ((w : ℕ) × (more : List ℕ) × (words ≡ w ∷ more) × (w % 2 ≡ 1) × rest more)

abbrev pub Gives : (ℕ → ℕ) → List Value → List ℕ → Type 0
Gives address [] words = words ≡ []
Gives address (place name ∷ vs) words = (more : List ℕ) × (words ≡ address name ∷ more) × Gives address vs more
Gives address (integer n ∷ vs) words = Passes (Gives address vs) words
Gives address (unit ∷ vs) words = Passes (Gives address vs) words
Gives address (constant c ∷ vs) words = Passes (Gives address vs) words

passes_append : (rest later : List ℕ → Type 0) (words others : List ℕ) → ((more : List ℕ) → rest more → later (more ++ others))
    → Passes rest words → Passes later (words ++ others)
passes_append rest later words others append (inl skips) = inl (append words skips)
passes_append rest later words others append (inr odd) =
    inr (odd.0, odd.1 ++ others, ap (λ ws. ws ++ others) odd.2, odd.3, append odd.1 odd.4)

gives_append : (address : ℕ → ℕ) (vs more : List Value) (words others : List ℕ) → Gives address vs words → Gives address more others
    → Gives address (vs ++ more) (words ++ others)
gives_append address [] more words others gives later = subst (λ ws. Gives address more (ws ++ others)) (sym gives) later
gives_append address (place name ∷ vs) more words others gives later =
    (gives.0 ++ others, ap (λ ws. ws ++ others) gives.1, gives_append address vs more gives.0 others gives.2 later)
gives_append address (integer n ∷ vs) more words others gives later =
    passes_append (Gives address vs) (Gives address (vs ++ more)) words others
    (λ ws rest. gives_append address vs more ws others rest later) gives
gives_append address (unit ∷ vs) more words others gives later =
    passes_append (Gives address vs) (Gives address (vs ++ more)) words others
    (λ ws rest. gives_append address vs more ws others rest later) gives
gives_append address (constant c ∷ vs) more words others gives later =
    passes_append (Gives address vs) (Gives address (vs ++ more)) words others
    (λ ws rest. gives_append address vs more ws others rest later) gives

-- the fields that a mask names are given up, whatever words stand behind them
odd_word : (layout : Layout) (address : ℕ → ℕ) (vs : List Value) (w : ℕ) (words : List ℕ) → w % 2 ≡ 1 → Gives address vs words
    → Passes (Gives address vs) (w ∷ words)
odd_word layout address vs w words odd rest = inr (w, words, refl, odd, rest)

pub fields_given : (layout : Layout) (address : ℕ → ℕ) (bits : List Bool) (vs : List Value) (more : List ℕ) → FitFields bits vs
    → Gives address vs (chosen (mask_of bits) (words_in layout address vs ++ more))
fields_given layout address [] [] more fits = chosen-none more
fields_given layout address [] (v ∷ vs) more fits = absurd fits
fields_given layout address (true ∷ bits) [] more fits = absurd fits
fields_given layout address (false ∷ bits) [] more fits = absurd fits
fields_given layout address (true ∷ bits) (v ∷ vs) more fits =
    let half : (1 + 2 * mask_of bits) / 2 ≡ mask_of bits = omega arith in
    let first = chosen-set (1 + 2 * mask_of bits) (word_in layout address v) (words_in layout address vs ++ more) (omega arith) in
    let rest = fields_given layout address bits vs more fits.1 in
    subst (Gives address (v ∷ vs))
    (sym (first ∙ ap (λ m. word_in layout address v ∷ chosen m (words_in layout address vs ++ more)) half)) (by v fits.0 rest)
  where
    by : (v : Value) → FitsField true v → Gives address vs (chosen (mask_of bits) (words_in layout address vs ++ more))
        → Gives address (v ∷ vs) (word_in layout address v ∷ chosen (mask_of bits) (words_in layout address vs ++ more))
    by (integer n) fits rest = absurd fits
    by unit fits rest = odd_word layout address vs 1 (chosen (mask_of bits) (words_in layout address vs ++ more)) refl rest
    by (constant c) fits rest = odd_word layout address vs (2 * layout.tag c + 1)
        (chosen (mask_of bits) (words_in layout address vs ++ more)) (omega arith) rest
    by (place name) fits rest = (chosen (mask_of bits) (words_in layout address vs ++ more), refl, rest)
fields_given layout address (false ∷ bits) (v ∷ vs) more fits =
    let half : (0 + 2 * mask_of bits) / 2 ≡ mask_of bits = omega arith in
    let first = chosen-clear (0 + 2 * mask_of bits) (word_in layout address v) (words_in layout address vs ++ more) (omega arith) in
    let rest = fields_given layout address bits vs more fits.1 in
    subst (Gives address (v ∷ vs)) (sym (first ∙ ap (λ m. chosen m (words_in layout address vs ++ more)) half)) (by v fits.0 rest)
  where
    by : (v : Value) → FitsField false v → Gives address vs (chosen (mask_of bits) (words_in layout address vs ++ more))
        → Gives address (v ∷ vs) (chosen (mask_of bits) (words_in layout address vs ++ more))
    by (integer n) fits rest = inl rest
    by unit fits rest = inl rest
    by (constant c) fits rest = inl rest
    by (place name) fits rest = absurd fits

-- ---- what a reader sees of a heap in blocks

abbrev body_by : Option ℕ → List ℕ → Body
body_by None fields = record { tag = 0; mask = 0; fields = fields }
body_by (Some header) fields = record { tag = header % 256; mask = header / 256; fields = fields }

abbrev pub body_in : Block → Body
body_in (own words) = body_by (words 1) (fields_of words)
body_in _ = body_by None []

abbrev pub shown_count : ℕ → Block → Cell
shown_count zero block = free
shown_count (suc k) block = counted (suc k) (body_in block)

-- the counts are those of a heap
abbrev pub shown_by : Heap → Block → Owner → Cell
shown_by heap block (cell_of name) = shown_count (count_at heap name) block
shown_by heap block _ = seen block

-- ---- one count changes

pub fields_set : (name n k q : ℕ) (heap : Heap) → count_at heap name ≡ suc k
    → fields_held (set_count name n heap) q ≡ fields_held heap q
fields_set name n k q heap is =
    elim (cases_eq name q) [
      | inl e ↦
          (let found = counted_held heap name (omega (arith, is)) in
          let here = held_fields (set_count name n heap) name (record found.0 { count = n })
          (held_set name n heap found.0 found.1) in
          let there = held_fields heap name found.0 found.1 in
          subst (λ p. fields_held (set_count name n heap) p ≡ fields_held heap p) e (here ∙ sym there))
      | inr differ ↦ ap fields_if_held (held_other name n q heap differ)
    ]

pub busy_set : (at n k : ℕ) (heap : Heap) → count_at heap at ≡ suc k → busy (set_count at n heap) + 1 ≡ busy heap + one_if_counted n
busy_set at n k [] is = absurd (omega arith)
busy_set at n k (held ∷ heap) is = by (length heap == at) refl (busy_set at n k heap)
  where
    by : (t : Bool) → (length heap == at) ≡ t
        → (count_at heap at ≡ suc k → busy (set_count at n heap) + 1 ≡ busy heap + one_if_counted n)
        → busy (if t then record held { count = n } ∷ heap else held ∷ set_count at n heap) + 1 ≡ busy
        (held ∷ heap) + one_if_counted n
    by true test later =
        let one : one_if_counted held.count ≡ 1 = ap one_if_counted (sym (count_top held heap at test) ∙ is) in omega arith
    by false test later = let rest = later (sym (count_below held heap at test) ∙ is) in omega arith

-- what became of the names: counts alone have changed, and no name is counted anew
pub record Lowered (heap next : Heap) : Type 0 where
  pub held : (name : ℕ) (one : Held) → held_at heap name ≡ Some one
      → (n : ℕ) × (held_at next name ≡ Some (record one { count = n }))
  pub fewer : (name : ℕ) → 1 ≤ count_at next name → 1 ≤ count_at heap name

pub lowered_none : (heap : Heap) → Lowered heap heap
lowered_none heap = record { held = λ name one there. (one.count, there); fewer = λ name some. some }

lowered_set : (name n k : ℕ) (heap next : Heap) → count_at heap name ≡ suc k → Lowered (set_count name n heap) next
    → Lowered heap next
lowered_set name n k heap next is later = record {
  held = λ q one there. elim (cases_eq name q) [
    | inl e ↦
        (let now = later.held q (record one { count = n })
        (subst (λ p. held_at (set_count name n heap) p ≡ Some (record one { count = n })) e
        (held_set name n heap one (ap (held_at heap) e ∙ there))) in (now.0, now.1))
    | inr differ ↦ later.held q one (held_other name n q heap differ ∙ there)
  ];
  fewer = λ q some. elim (cases_eq name q) [
    | inl e ↦ (let here = ap (count_at heap) e in omega arith)
    | inr differ ↦ (let now = later.fewer q some in let same = ap count_in (held_other name n q heap differ) in omega arith)
  ];
}

-- ---- the references of a heap are given up

-- what each address is, which does not change while references are given up
pub record AreOwners (address : ℕ → ℕ) (owners : ℕ → Owner) : Type 0 where
  pub is_at : (x name : ℕ) → owners x ≡ cell_of name → address name ≡ x
  pub even : (x name : ℕ) → owners x ≡ cell_of name → x % 2 ≡ 0

-- counted names have their addresses, and fields that are given up as the references of their blocks
pub record Stand (address : ℕ → ℕ) (owners : ℕ → Owner) (blocks : ℕ → Block) (heap : Heap) : Type 0 where
  pub named : (name : ℕ) → 1 ≤ count_at heap name → owners (address name) ≡ cell_of name
  pub fields : (name : ℕ) → 1 ≤ count_at heap name → Gives address (fields_held heap name)
      (references (body_in (blocks (address name))))

module _ (address : ℕ → ℕ) (owners : ℕ → Owner) (blocks : ℕ → Block) (are : AreOwners address owners) where
  abbrev pub shown : Heap → SeenHeap
  shown heap x = shown_by heap (blocks x) (owners x)

  shown_here : (heap : Heap) (name count : ℕ) → owners (address name) ≡ cell_of name → count_at heap name ≡ count
      → shown heap (address name) ≡ shown_count count (blocks (address name))
  shown_here heap name count owns is = ap (shown_by heap (blocks (address name))) owns
      ∙ ap (λ n. shown_count n (blocks (address name))) is

  shown_set : (heap : Heap) (name n k : ℕ) → owners (address name) ≡ cell_of name → count_at heap name ≡ suc k
      → shown (set_count name n heap) ≡ changed (address name) (shown_count n (blocks (address name))) (shown heap)
  shown_set heap name n k owns is =
      fun_ext (λ x. changed-by (λ c. shown (set_count name n heap) x ≡ c) x (address name) (shown_count n (blocks (address name)))
      (shown heap)
      (λ e. ap (shown (set_count name n heap)) e ∙ shown_here (set_count name n heap) name n owns (count_set name n k heap is))
      (λ differ. other x differ (owners x) refl))
    where
      other : (x : ℕ) → x ≢ address name → (owner : Owner) → owners x ≡ owner → shown_by (set_count name n heap)
          (blocks x) owner ≡ shown_by heap (blocks x) owner
      other x differ nobody is = refl
      other x differ (in_hand words) is = refl
      other x differ (kept_aside words) is = refl
      other x differ (cell_of one) owned =
          ap (λ h. shown_count (count_in h) (blocks x))
          (held_other name n one heap (λ e. differ (sym (are.is_at x one owned) ∙ ap address (sym e))))

  stand_set : (heap : Heap) (name n k : ℕ) → count_at heap name ≡ suc k → Stand address owners blocks heap
      → Stand address owners blocks (set_count name n heap)
  stand_set heap name n k is stand = record {
    named = λ q some. stand.named q (was q some);
    fields = λ q some. subst (λ vs. Gives address vs (references (body_in (blocks (address q)))))
        (sym (fields_set name n k q heap is)) (stand.fields q (was q some));
  }
    where
      was : (q : ℕ) → 1 ≤ count_at (set_count name n heap) q → 1 ≤ count_at heap q
      was q some = (lowered_set name n k heap (set_count name n heap) is (lowered_none (set_count name n heap))).fewer q some

  -- what is left, how much was done, and what it cost
  pub record Given (turns : ℕ) (vs : List Value) (heap next : Heap) (words : List ℕ) : Type 0 where
    pub gave : ℕ
    pub freed : ℕ
    pub gives : GivesUp words (shown heap) gave freed (shown next)
    pub few : gave ≤ turns_taken turns vs heap
    pub cells : freed + busy next ≡ busy heap
    pub lower : Lowered heap next

  nothing_given : (turns : ℕ) (heap next : Heap) (words : List ℕ) → Some heap ≡ Some next → words ≡ []
      → Given turns [] heap next words
  nothing_given turns heap next words is none =
      let same : heap ≡ next = some-is is in
      subst (λ h. Given turns [] heap h words) same
      (subst (λ ws. Given turns [] heap heap ws) (sym none)
      (record { gave = 0; freed = 0; gives = all_given; few = omega arith; cells = omega arith; lower = lowered_none heap }))

  -- one more turn, for a value that is no cell's
  passed_by : (turns most : ℕ) (vs : List Value) (heap next : Heap) (words : List ℕ) → most ≡ suc (turns_taken turns vs heap)
      → ((more : List ℕ) → Gives address vs more → Given turns vs heap next more) → Passes (Gives address vs) words
      → (gave freed : ℕ) × GivesUp words (shown heap) gave freed (shown next) × (gave ≤ most) × (freed + busy next ≡ busy heap)
      × Lowered heap next
  passed_by turns most vs heap next words is again (inl skips) =
      let rest = again words skips in
      let few = rest.few in
      (rest.gave, rest.freed, rest.gives, omega arith, rest.cells, rest.lower)
  passed_by turns most vs heap next words is again (inr odd) =
      let rest = again odd.1 odd.4 in
      let few = rest.few in (
        suc rest.gave,
        rest.freed,
        subst (λ ws. GivesUp ws (shown heap) (suc rest.gave) rest.freed (shown next)) (sym odd.2) (odd_given odd.3 rest.gives),
        omega arith,
        rest.cells,
        rest.lower,
      )

  -- a reference to a counted cell
  abbrev Later : ℕ → Heap → Type 0
  Later turns next = (ws : List Value) (other : Heap) (more : List ℕ) → Stand address owners blocks other
      → give_up turns ws other ≡ Some next → Gives address ws more → Given turns ws other next more

  freed_by : (turns name : ℕ) (vs : List Value) (heap next : Heap) (more : List ℕ) → count_at heap name ≡ 1
      → Stand address owners blocks heap
      → give_up turns (fields_held heap name ++ vs) (set_count name 0 heap) ≡ Some next → Gives address vs more → Later turns next
      → Given (suc turns) (place name ∷ vs) heap next (address name ∷ more)
  freed_by turns name vs heap next more once stand is gives later =
      let owns = stand.named name (omega (arith, once)) in
      let rest = later (fields_held heap name ++ vs) (set_count name 0 heap) (references (body_in (blocks (address name))) ++ more)
      (stand_set heap name 0 0 once stand) is
      (gives_append address (fields_held heap name) vs (references (body_in (blocks (address name)))) more
      (stand.fields name (omega (arith, once))) gives) in
      let taken : turns_taken (suc turns) (place name ∷ vs) heap ≡ suc
      (turns_taken turns (fields_held heap name ++ vs) (set_count name 0 heap)) = rw (once, turns_taken) refl in
      let few = rest.few in
      let cells = rest.cells in
      let change = busy_set name 0 0 heap once in
      record {
        gave = suc rest.gave;
        freed = suc rest.freed;
        gives = last (are.even (address name) name owns) (shown_here heap name 1 owns once)
            (subst (λ h. GivesUp (references (body_in (blocks (address name))) ++ more) h rest.gave rest.freed (shown next))
            (shown_set heap name 0 0 owns once) rest.gives);
        few = omega arith;
        cells = omega arith;
        lower = lowered_set name 0 0 heap next once rest.lower;
      }

  lowered_by : (turns name others : ℕ) (vs : List Value) (heap next : Heap) (more : List ℕ) → count_at heap name ≡ suc (suc others)
      → Stand address owners blocks heap
      → give_up turns vs (set_count name (suc others) heap) ≡ Some next → Gives address vs more → Later turns next
      → Given (suc turns) (place name ∷ vs) heap next (address name ∷ more)
  lowered_by turns name others vs heap next more counts stand is gives later =
      let owns = stand.named name (omega (arith, counts)) in
      let rest = later vs (set_count name (suc others) heap) more (stand_set heap name (suc others) (suc others) counts stand) is
      gives in
      let taken : turns_taken (suc turns) (place name ∷ vs) heap ≡ suc (turns_taken turns vs (set_count name (suc others) heap)) =
      rw (counts, turns_taken) refl in
      let few = rest.few in
      let cells = rest.cells in
      let change = busy_set name (suc others) (suc others) heap counts in
      record {
        gave = suc rest.gave;
        freed = rest.freed;
        gives = lowered (are.even (address name) name owns) (shown_here heap name (suc (suc others)) owns counts)
            (subst (λ h. GivesUp more h rest.gave rest.freed (shown next))
            (shown_set heap name (suc others) (suc others) owns counts) rest.gives);
        few = omega arith;
        cells = omega arith;
        lower = lowered_set name (suc others) (suc others) heap next counts rest.lower;
      }

  by_count : (turns name : ℕ) (vs : List Value) (heap next : Heap) (more : List ℕ) (count : ℕ) → count_at heap name ≡ count
      → Stand address owners blocks heap
      → give_up (suc turns) (place name ∷ vs) heap ≡ Some next → Gives address vs more → Later turns next
      → Given (suc turns) (place name ∷ vs) heap next (address name ∷ more)
  by_count turns name vs heap next more zero counts stand is gives later =
      let none : give_up (suc turns) (place name ∷ vs) heap ≡ None = rw (counts, give_up) refl in
      let both = sym none ∙ is in cc
  by_count turns name vs heap next more (suc zero) counts stand is gives later =
      let step : give_up (suc turns) (place name ∷ vs) heap ≡ give_up turns (fields_held heap name ++ vs) (set_count name 0 heap) =
      rw (counts, give_up) refl in
      freed_by turns name vs heap next more counts stand (sym step ∙ is) gives later
  by_count turns name vs heap next more (suc (suc others)) counts stand is gives later =
      let step : give_up (suc turns) (place name ∷ vs) heap ≡ give_up turns vs (set_count name (suc others) heap) = rw
      (counts, give_up) refl in
      lowered_by turns name others vs heap next more counts stand (sym step ∙ is) gives later

  pub cascade : (turns : ℕ) (vs : List Value) (heap next : Heap) (words : List ℕ) → Stand address owners blocks heap
      → give_up turns vs heap ≡ Some next → Gives address vs words → Given turns vs heap next words
  cascade zero [] heap next words stand is gives = nothing_given zero heap next words is gives
  cascade (suc turns) [] heap next words stand is gives = nothing_given (suc turns) heap next words is gives
  cascade zero (v ∷ vs) heap next words stand is gives = cc
  cascade (suc turns) (integer n ∷ vs) heap next words stand is gives =
      let r = passed_by turns (suc (turns_taken turns vs heap)) vs heap next words refl
      (λ more g. cascade turns vs heap next more stand is g) gives in
      record { gave = r.0; freed = r.1; gives = r.2; few = r.3; cells = r.4; lower = r.5 }
  cascade (suc turns) (unit ∷ vs) heap next words stand is gives =
      let r = passed_by turns (suc (turns_taken turns vs heap)) vs heap next words refl
      (λ more g. cascade turns vs heap next more stand is g) gives in
      record { gave = r.0; freed = r.1; gives = r.2; few = r.3; cells = r.4; lower = r.5 }
  cascade (suc turns) (constant c ∷ vs) heap next words stand is gives =
      let r = passed_by turns (suc (turns_taken turns vs heap)) vs heap next words refl
      (λ more g. cascade turns vs heap next more stand is g) gives in
      record { gave = r.0; freed = r.1; gives = r.2; few = r.3; cells = r.4; lower = r.5 }
  cascade (suc turns) (place name ∷ vs) heap next words stand is gives =
      subst (Given (suc turns) (place name ∷ vs) heap next) (sym gives.1)
      (by_count turns name vs heap next gives.0 (count_at heap name) refl stand is gives.2
      (λ ws other more. cascade turns ws other next more))
