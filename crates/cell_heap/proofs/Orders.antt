-- The order in which references are given up matters neither for the heap that is left nor for the numbers, whatever the counts of cells are.
use Rattle.std.proofs.Common.{◌≡◌, ◌≢◌, ◌<◌, ℕ, zero, suc, ◌+◌, ◌%◌, inl, inr, List, [], ◌∷◌, ◌++◌, refl, sym, ap, ◌∙◌, subst, arith}
use mathlib.Core.Path.{fun_ext}
use Rattle.std.proofs.lemmas.Bool.{cases_eq}
use Rattle.cell_heap.specs.Cells.{Body, Cell, free, counted, Heap, changed, references, occurs}
use Rattle.cell_heap.specs.DropMeaning.{GivesUp, all_given, constant, lowered, last}
use Rattle.cell_heap.proofs.Sums.{occurs-first, occurs-other, occurs-append}
use Rattle.cell_heap.proofs.Frames.{changed-by, changed-other}

-- ---- heaps with two cells changed

pub changed-swap : (x y : ℕ) (c d : Cell) (heap : Heap) → x ≢ y → changed x c (changed y d heap) ≡ changed y d (changed x c heap)
changed-swap x y c d heap differ =
    fun_ext (λ z. changed-by (λ k. k ≡ changed y d (changed x c heap) z) z x c (changed y d heap)
    (λ e. sym (changed-other y d (changed x c heap) z (λ f. differ (sym e ∙ f)) ∙ changed-by (λ k. k ≡ c) z x c heap (λ same. refl) (λ other. absurd (other e))))
    (λ other. changed-by (λ k. k ≡ changed y d (changed x c heap) z) z y d heap
    (λ e. sym (changed-by (λ k. k ≡ d) z y d (changed x c heap) (λ same. refl) (λ apart. absurd (apart e))))
    (λ apart. sym (changed-other y d (changed x c heap) z apart ∙ changed-other x c heap z other))))

pub changed-twice : (x : ℕ) (c d : Cell) (heap : Heap) → changed x c (changed x d heap) ≡ changed x c heap
changed-twice x c d heap =
    fun_ext (λ z. changed-by (λ k. k ≡ changed x c heap z) z x c (changed x d heap)
    (λ e. sym (changed-by (λ k. k ≡ c) z x c heap (λ same. refl) (λ other. absurd (other e))))
    (λ other. changed-other x d heap z other ∙ sym (changed-other x c heap z other)))

-- ---- one reference is given up

-- what becomes of a counted cell: which references are to be given up then, and how many cells were freed
data Fate : Cell → List ℕ → ℕ → Cell → Type 0 where
  fewer : {count : ℕ} {body : Body} → Fate (counted (suc (suc count)) body) [] 0 (counted (suc count) body)
  gone : {body : Body} → Fate (counted 1 body) (references body) 1 free

data Step : ℕ → Heap → List ℕ → ℕ → Heap → Type 0 where
  odd_step : {x : ℕ} {heap : Heap} → x % 2 ≡ 1 → Step x heap [] 0 heap
  even_step : {x one : ℕ} {heap : Heap} {refs : List ℕ} {now next : Cell} → x % 2 ≡ 0 → heap x ≡ now → Fate now refs one next → Step x heap refs one (changed x next heap)

-- the first reference is given up, and then those behind it
record First (x : ℕ) (xs : List ℕ) (heap : Heap) (gave freed : ℕ) (end : Heap) : Type 0 where
  refs : List ℕ
  next : Heap
  one : ℕ
  left : ℕ
  behind : ℕ
  step : Step x heap refs one next
  rest : GivesUp (refs ++ xs) next left behind end
  gave_is : gave ≡ suc left
  freed_is : freed ≡ one + behind

first_step : {x : ℕ} {xs : List ℕ} {heap end : Heap} {gave freed : ℕ} → GivesUp (x ∷ xs) heap gave freed end → First x xs heap gave freed end
first_step (constant {heap = heap} {gave = gave} {freed = freed} odd rest) =
    record { refs = []; next = heap; one = 0; left = gave; behind = freed; step = odd_step odd; rest = rest; gave_is = refl; freed_is = omega arith }
first_step (lowered {x = x} {heap = heap} {gave = gave} {freed = freed} {count = count} {body = body} even is rest) =
    record { refs = []; next = changed x (counted (suc count) body) heap; one = 0; left = gave; behind = freed; step = even_step even is fewer; rest = rest; gave_is = refl; freed_is = omega arith }
first_step (last {x = x} {heap = heap} {gave = gave} {freed = freed} {body = body} even is rest) =
    record { refs = references body; next = changed x free heap; one = 1; left = gave; behind = freed; step = even_step even is gone; rest = rest; gave_is = refl; freed_is = omega arith }

then_step : {x one : ℕ} {refs xs : List ℕ} {heap next end : Heap} {left behind freed : ℕ} → Step x heap refs one next → GivesUp (refs ++ xs) next left behind end → freed ≡ one + behind → GivesUp (x ∷ xs) heap (suc left) freed end
then_step {x} {xs = xs} {heap} {end = end} {left} {behind} {freed} (odd_step odd) rest is =
    let same : behind ≡ freed = omega arith in subst (λ n. GivesUp (x ∷ xs) heap (suc left) n end) same (constant odd rest)
then_step {x} {xs = xs} {heap} {end = end} {left} {behind} {freed} (even_step even now fewer) rest is =
    let same : behind ≡ freed = omega arith in subst (λ n. GivesUp (x ∷ xs) heap (suc left) n end) same (lowered even now rest)
then_step {x} {xs = xs} {heap} {end = end} {left} {behind} {freed} (even_step even now gone) rest is =
    let same : suc behind ≡ freed = omega arith in subst (λ n. GivesUp (x ∷ xs) heap (suc left) n end) same (last even now rest)

-- ---- two steps at different addresses

commute : {x y one two : ℕ} {xs ys : List ℕ} {heap next end : Heap} → x ≢ y → Step x heap xs one next → Step y next ys two end → (between : Heap) × Step y heap ys two between × Step x between xs one end
commute {end = end} differ (odd_step odd) second = (end, second, odd_step odd)
commute {heap = heap} differ (even_step even is fate) (odd_step odd) = (heap, odd_step odd, even_step even is fate)
commute {x} {y} {one} {xs = xs} {heap = heap} differ (even_step {next = c} even is fate) (even_step {next = d} even_y is_y fate_y) = (
  changed y d heap,
  even_step even_y (sym (changed-other x c heap y (λ e. differ (sym e))) ∙ is_y) fate_y,
  subst (λ h. Step x (changed y d heap) xs one h) (changed-swap x y c d heap differ) (even_step even (changed-other y d heap x differ ∙ is) fate),
)

-- ---- lists with the same members

abbrev pub Same : List ℕ → List ℕ → Type 0
Same xs ys = (z : ℕ) → occurs z xs ≡ occurs z ys

taken_out : (y : ℕ) (xs : List ℕ) → occurs y xs ≢ 0 → (zs : List ℕ) × Same xs (y ∷ zs)
taken_out y [] some = absurd (some refl)
taken_out y (x ∷ xs) some =
    elim (cases_eq y x) [
      | inl e ↦ (xs, λ z. ap (λ w. occurs z (w ∷ xs)) (sym e))
      | inr differ ↦
          (let rest = taken_out y xs (λ none. some (occurs-other y x xs differ ∙ none)) in
          (x ∷ rest.0, λ z. let e = rest.1 z in omega arith))
    ]

-- a reference is taken out of a list that others were put before, and those that it leaves to be given up are put before these
swapped : (x y : ℕ) (ys zs later these those : List ℕ) → Same (these ++ ys) (y ∷ later) → Same ys (y ∷ zs) → Same (those ++ later) (these ++ (those ++ zs))
swapped x y ys zs later these those all out z =
    let a = all z in
    let b = out z in
    let c = occurs-append z these ys in
    let d = occurs-append z those later in
    let e = occurs-append z these (those ++ zs) in
    let f = occurs-append z those zs in
    omega arith

put_behind : (x : ℕ) (those zs : List ℕ) → Same (x ∷ (those ++ zs)) (those ++ x ∷ zs)
put_behind x those zs z =
    let a = occurs-append z those zs in let b = occurs-append z those (x ∷ zs) in omega arith

-- ---- any order

-- what gives up fewer references may give them up in any order
Reorders : ℕ → Type 0
Reorders n =
    (m : ℕ) → m < n → (xs ys : List ℕ) (heap end : Heap) (freed : ℕ) → Same xs ys → GivesUp xs heap m freed end → GivesUp ys heap m freed end

-- any reference may be the first
record Brought (y : ℕ) (xs : List ℕ) (heap : Heap) (gave freed : ℕ) (end : Heap) : Type 0 where
  others : List ℕ
  same : Same xs (y ∷ others)
  first : First y others heap gave freed end

bring : (n : ℕ) → Reorders n → (y : ℕ) (xs : List ℕ) (heap end : Heap) (freed : ℕ) → occurs y xs ≢ 0 → GivesUp xs heap n freed end → Brought y xs heap n freed end
unfolding Reorders
bring n below y [] heap end freed some gives = absurd (some refl)
bring zero below y (x ∷ xs) heap end freed some gives =
    let none = (first_step gives).gave_is in absurd (omega arith)
bring (suc n) below y (x ∷ xs) heap end freed some gives =
    elim (cases_eq y x) [
      | inl e ↦ subst (λ w. Brought w (x ∷ xs) heap (suc n) freed end) (sym e) (record { others = xs; same = λ z. refl; first = first_step gives })
      | inr differ ↦
          (let f = first_step gives in
          let gave_is = f.gave_is in
          let freed_is = f.freed_is in
          let fewer_left : f.left ≡ n = omega arith in
          let in_rest : occurs y xs ≢ 0 = λ none. some (occurs-other y x xs differ ∙ none) in
          let there : occurs y (f.refs ++ xs) ≢ 0 = λ none. in_rest (let sum = occurs-append y f.refs xs in omega arith) in
          let later = bring n (λ m less. below m (omega arith)) y (f.refs ++ xs) f.next end f.behind there (subst (λ m. GivesUp (f.refs ++ xs) f.next m f.behind end) fewer_left f.rest) in
          let g = later.first in
          let g_gave = g.gave_is in
          let g_freed = g.freed_is in
          let ways = commute (λ e. differ (sym e)) f.step g.step in
          let out = taken_out y xs in_rest in
          let moved = below g.left (omega arith) (g.refs ++ later.others) (f.refs ++ (g.refs ++ out.0)) g.next end g.behind (swapped x y xs out.0 later.others f.refs g.refs later.same out.1) g.rest in
          let with_x = then_step ways.2 moved (refl {a = f.one + g.behind}) in
          let done = below (suc g.left) (omega arith) (x ∷ (g.refs ++ out.0)) (g.refs ++ x ∷ out.0) ways.0 end (f.one + g.behind) (put_behind x g.refs out.0) with_x in
          record {
            others = x ∷ out.0;
            same = λ z. let e = out.1 z in omega arith;
            first = record {
              refs = g.refs;
              next = ways.0;
              one = g.one;
              left = suc g.left;
              behind = f.one + g.behind;
              step = ways.1;
              rest = done;
              gave_is = omega arith;
              freed_is = omega arith;
            };
          })
    ]

reorder_at : (n : ℕ) → Reorders n → (xs ys : List ℕ) (heap end : Heap) (freed : ℕ) → Same xs ys → GivesUp xs heap n freed end → GivesUp ys heap n freed end
unfolding Reorders
reorder_at n below [] [] heap end freed same gives = gives
reorder_at n below (x ∷ xs) [] heap end freed same gives = absurd (occurs-first x xs (same x))
reorder_at n below xs (y ∷ ys) heap end freed same gives =
    let brought = bring n below y xs heap end freed (λ none. occurs-first y ys (sym (same y) ∙ none)) gives in
    let f = brought.first in
    let gave_is = f.gave_is in
    let rest = below f.left (omega arith) (f.refs ++ brought.others) (f.refs ++ ys) f.next end f.behind
    (λ z.
    let a = same z in
    let b = brought.same z in
    let c = occurs-append z f.refs brought.others in
    let d = occurs-append z f.refs ys in
    omega arith)
    f.rest in
    subst (λ m. GivesUp (y ∷ ys) heap m freed end) (sym f.gave_is) (then_step f.step rest f.freed_is)

reorders : (n : ℕ) → Reorders n
unfolding Reorders
reorders zero m less xs ys heap end freed same gives = absurd (omega arith)
reorders (suc n) m less xs ys heap end freed same gives =
    elim (cases_eq m n) [
      | inl e ↦
          subst (λ k. GivesUp ys heap k freed end) (sym e)
          (reorder_at n (reorders n) xs ys heap end freed same (subst (λ k. GivesUp xs heap k freed end) e gives))
      | inr differ ↦ reorders n m (omega arith) xs ys heap end freed same gives
    ]

-- references may be given up in any order
pub reorder : {xs ys : List ℕ} {heap end : Heap} {gave freed : ℕ} → Same xs ys → GivesUp xs heap gave freed end → GivesUp ys heap gave freed end
unfolding Reorders
reorder {xs} {ys} {heap} {end} {gave} {freed} same gives =
    reorders (suc gave) gave (omega arith) xs ys heap end freed same gives

-- ---- one end

fate_same : {now then : Cell} {refs others : List ℕ} {one two : ℕ} {next other : Cell} → now ≡ then → Fate now refs one next → Fate then others two other → (refs ≡ others) × (one ≡ two) × (next ≡ other)
fate_same e (fewer {count = m} {body = b}) (fewer {count = n} {body = c}) =
    let body : b ≡ c = cc in let count : suc (suc m) ≡ suc (suc n) = cc in let less : suc m ≡ suc n = omega arith in (refl, refl, cc)
fate_same e (fewer {count = m}) gone = let count : suc (suc m) ≡ 1 = cc in absurd (omega arith)
fate_same e gone (fewer {count = n}) = let count : 1 ≡ suc (suc n) = cc in absurd (omega arith)
fate_same e (gone {body = b}) (gone {body = c}) = let body : b ≡ c = cc in (ap references body, refl, refl)

step_same : {x one two : ℕ} {refs others : List ℕ} {heap next other : Heap} → Step x heap refs one next → Step x heap others two other → (refs ≡ others) × (one ≡ two) × (next ≡ other)
step_same (odd_step odd) (odd_step again) = (refl, refl, refl)
step_same (odd_step odd) (even_step even is fate) = absurd (omega arith)
step_same (even_step even is fate) (odd_step odd) = absurd (omega arith)
step_same {x} {heap = heap} (even_step even is fate) (even_step again there other) =
    let same = fate_same (sym is ∙ there) fate other in (same.0, same.1, ap (λ c. changed x c heap) same.2)

none_given : {heap end : Heap} {gave freed : ℕ} → GivesUp [] heap gave freed end → (gave ≡ 0) × (freed ≡ 0) × (end ≡ heap)
none_given all_given = (refl, refl, refl)

ends_same : (n : ℕ) (xs : List ℕ) {heap end other : Heap} {freed gave freed_others : ℕ} → GivesUp xs heap n freed end → GivesUp xs heap gave freed_others other → (n ≡ gave) × (freed ≡ freed_others) × (end ≡ other)
ends_same n [] one two =
    let a = none_given one in let b = none_given two in (a.0 ∙ sym b.0, a.1 ∙ sym b.1, a.2 ∙ sym b.2)
ends_same zero (x ∷ xs) one two = let none = (first_step one).gave_is in absurd (omega arith)
ends_same (suc n) (x ∷ xs) {end = end} {other = other} one two =
    let a = first_step one in
    let b = first_step two in
    let a_gave = a.gave_is in
    let b_gave = b.gave_is in
    let a_freed = a.freed_is in
    let b_freed = b.freed_is in
    let same = step_same a.step b.step in
    let ones = same.1 in
    let left_is : a.left ≡ n = omega arith in
    let here : GivesUp (a.refs ++ xs) a.next n a.behind end = subst (λ m. GivesUp (a.refs ++ xs) a.next m a.behind end) left_is a.rest in
    let there : GivesUp (a.refs ++ xs) a.next b.left b.behind other = subst (λ (h : Heap). GivesUp (a.refs ++ xs) h b.left b.behind other) (sym same.2) (subst (λ (r : List ℕ). GivesUp (r ++ xs) b.next b.left b.behind other) (sym same.0) b.rest) in
    let rest = ends_same n (a.refs ++ xs) here there in
    let gave_same = rest.0 in
    let freed_same = rest.1 in
    (omega arith, omega arith, rest.2)

-- from one heap the same references, in whatever order they are given up, leave one heap, and as many are given up and freed
pub one_end : {xs ys : List ℕ} {heap end other : Heap} {gave freed gave_others freed_others : ℕ} → Same xs ys → GivesUp xs heap gave freed end → GivesUp ys heap gave_others freed_others other
    → (end ≡ other) × (gave ≡ gave_others) × (freed ≡ freed_others)
one_end {ys = ys} {gave = gave} same first second =
    let ends = ends_same gave ys (reorder same first) second in (ends.2, ends.0, ends.1)
