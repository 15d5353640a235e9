-- The order of the runtime's routine comes to the plain meaning's end, whatever the counts of cells are; and the function of its turns takes them.
use Rattle.std.proofs.Common.{◌≡◌, ◌≢◌, ◌≤◌, ◌<◌, ℕ, zero, suc, ◌+◌, ◌*◌, ◌%◌, inl, inr, List, [], ◌∷◌, ◌++◌, Option, Some, true, false, nat_eq, length, refl, sym, ap, ◌∙◌, subst, arith}
use Rattle.std.proofs.lemmas.Bool.{cases_eq}
use Rattle.std.proofs.lemmas.Bool.Decides.{nat_tests}
use Rattle.cell_heap.specs.Cells.{Body, Cell, no_cell, free, token, waiting, counted, Heap, changed, references}
use Rattle.cell_heap.specs.DropMeaning.{GivesUp, all_given, constant, lowered, last}
use Rattle.cell_heap.specs.Turns.{Turns, ended, passed, lower, waits_now, opened, Work, work_of, gives_one, opens, and_then, turns}
use Rattle.cell_heap.proofs.Sums.{occurs-append}
use Rattle.cell_heap.proofs.Frames.{changed-same, changed-other}
use Rattle.cell_heap.proofs.Orders.{changed-swap, changed-twice, Same, reorder}

-- ---- waiting cells

-- the heap once the waiting cells are freed, and the references that they hold
data Waits : Heap → List ℕ → Heap → List ℕ → Type 0 where
  no_wait : {heap : Heap} → Waits heap [] heap []
  one_wait : {heap plain : Heap} {x : ℕ} {waits refs pending : List ℕ} {body : Body} → heap x ≡ waiting body → pending ≡ references body ++ refs → Waits (changed x free heap) waits plain refs → Waits heap (x ∷ waits) plain pending

counted_waits : (heap : Heap) (x count : ℕ) (body : Body) → heap x ≡ counted count body → (other : Body) → heap x ≢ waiting other
counted_waits heap x count body is other e = cc

-- a cell that does not wait is as it was
plain_same : {heap plain : Heap} {waits pending : List ℕ} → Waits heap waits plain pending → (x : ℕ) → ((body : Body) → heap x ≢ waiting body) → plain x ≡ heap x
plain_same no_wait x settled = refl
plain_same {heap} (one_wait {x = y} {body = body} is all rest) x settled =
    let differ : x ≢ y = λ e. settled body (ap heap e ∙ is) in
    let other = changed-other y free heap x differ in
    plain_same rest x (λ b e. settled b (sym other ∙ e)) ∙ other

was_counted : {heap plain : Heap} {waits pending : List ℕ} → Waits heap waits plain pending → (x count : ℕ) (body : Body) → plain x ≡ counted count body → heap x ≡ counted count body
was_counted no_wait x count body is = is
was_counted {heap} (one_wait {x = y} waits_there all rest) x count body is =
    let later = was_counted rest x count body is in
    elim (cases_eq x y) [
      | inl e ↦ (let freed = changed-same y free heap in let here = ap (changed y free heap) e in cc)
      | inr differ ↦ sym (changed-other y free heap x differ) ∙ later
    ]

-- such a cell becomes another one
waits_changed : {heap plain : Heap} {waits pending : List ℕ} → Waits heap waits plain pending → (x : ℕ) (cell : Cell) → ((body : Body) → heap x ≢ waiting body) → Waits (changed x cell heap) waits (changed x cell plain) pending
waits_changed no_wait x cell settled = no_wait
waits_changed {heap} {plain} (one_wait {x = y} {waits = waits} {refs = refs} {body = body} is all rest) x cell settled =
    let differ : x ≢ y = λ e. settled body (ap heap e ∙ is) in
    let other = changed-other y free heap x differ in
    one_wait (changed-other x cell heap y (λ e. differ (sym e)) ∙ is) all
    (subst (λ h. Waits h waits (changed x cell plain) refs) (changed-swap x y cell free heap differ)
    (waits_changed rest x cell (λ b e. settled b (sym other ∙ e))))

-- it waits
waits_more : {heap plain : Heap} {waits pending : List ℕ} → Waits heap waits plain pending → (x : ℕ) (body : Body) → ((other : Body) → heap x ≢ waiting other)
    → Waits (changed x (waiting body) heap) (x ∷ waits) (changed x free plain) (references body ++ pending)
waits_more {heap} {plain} {waits} {pending} there x body settled =
    one_wait (changed-same x (waiting body) heap) refl
    (subst (λ h. Waits h waits (changed x free plain) pending) (sym (changed-twice x free (waiting body) heap)) (waits_changed there x free settled))

none_waits : {heap plain : Heap} {pending : List ℕ} → Waits heap [] plain pending → (plain ≡ heap) × (pending ≡ [])
none_waits no_wait = (refl, refl)

first_waits : {heap plain : Heap} {x : ℕ} {waits pending : List ℕ} → Waits heap (x ∷ waits) plain pending
    → (body : Body) × (refs : List ℕ) × (heap x ≡ waiting body) × (pending ≡ references body ++ refs) × Waits (changed x free heap) waits plain refs
first_waits (one_wait {refs = refs} {body = body} is all rest) = (body, refs, is, all, rest)

-- references that waiting cells hold are given up behind others
put_off : (these those more : List ℕ) → Same (these ++ (those ++ more)) (those ++ (these ++ more))
put_off these those more z =
    let a = occurs-append z these (those ++ more) in
    let b = occurs-append z those more in
    let c = occurs-append z those (these ++ more) in
    let d = occurs-append z these more in
    omega arith

-- ---- from the turns to the plain meaning

as_given : {refs waits frees left : List ℕ} {heap end : Heap} {gave freed : ℕ} → Turns refs waits frees heap gave freed left end → (plain : Heap) (pending : List ℕ) → Waits heap waits plain pending
    → (most : ℕ) × (freed ≡ most + length waits) × GivesUp (refs ++ pending) plain gave most end
as_given (ended {heap = heap}) plain pending there =
    let none = none_waits there in
    (0, refl, subst (λ ps. GivesUp ps plain 0 0 heap) (sym none.1) (subst (λ (h : Heap). GivesUp [] h 0 0 heap) (sym none.0) all_given))
as_given (passed odd rest) plain pending there =
    let later = as_given rest plain pending there in (later.0, later.1, constant odd later.2)
as_given (lower {x = x} {heap = heap} {count = count} {body = body} even is rest) plain pending there =
    let settled = counted_waits heap x (suc (suc count)) body is in
    let later = as_given rest (changed x (counted (suc count) body) plain) pending (waits_changed there x (counted (suc count) body) settled) in
    (later.0, later.1, lowered even (plain_same there x settled ∙ is) later.2)
as_given (waits_now {x = x} {xs = xs} {heap = heap} {body = body} even is rest) plain pending there =
    let settled = counted_waits heap x 1 body is in
    let later = as_given rest (changed x free plain) (references body ++ pending) (waits_more there x body settled) in
    let sum = later.1 in
    (suc later.0, omega arith, last even (plain_same there x settled ∙ is) (reorder (put_off xs (references body) pending) later.2))
as_given (opened {x = x} {heap = heap} {end = end} {gave = gave} {body = body} is rest) plain pending there =
    let first = first_waits there in
    let same : first.0 ≡ body = body_of (first.0) body (sym first.2 ∙ is) in
    let later = as_given rest plain first.1 first.4 in
    let sum = later.1 in (
      later.0,
      omega arith,
      subst (λ ps. GivesUp ps plain gave later.0 end) (sym (first.3 ∙ ap (λ b. references b ++ first.1) same)) later.2,
    )
  where
    body_of : (one two : Body) → waiting one ≡ waiting two → one ≡ two
    body_of one two e = cc

pub turns_give_up : {refs frees left : List ℕ} {heap end : Heap} {gave freed : ℕ} → Turns refs [] frees heap gave freed left end → GivesUp refs heap gave freed end
turns_give_up {refs} {heap = heap} {end = end} {gave = gave} {freed = freed} taken =
    let given = as_given taken heap [] no_wait in
    let sum = given.1 in
    let same : given.0 ≡ freed = omega arith in
    reorder (λ z. let e = occurs-append z refs [] in omega arith) (subst (λ n. GivesUp (refs ++ []) heap gave n end) same given.2)

-- ---- from the plain meaning to the turns

abbrev Taken : List ℕ → List ℕ → List ℕ → Heap → ℕ → ℕ → Heap → Type 0
Taken refs waits frees heap gave freed end = (left : List ℕ) × Turns refs waits frees heap gave freed left end

taken_as : {refs waits frees : List ℕ} {heap end : Heap} {gave freed more : ℕ} → freed ≡ more → Taken refs waits frees heap gave freed end → Taken refs waits frees heap gave more end
taken_as {refs} {waits} {frees} {heap} {end} {gave} e taken =
    subst (λ n. Taken refs waits frees heap gave n end) e taken

none_taken : (frees : List ℕ) {heap end : Heap} {gave freed : ℕ} → GivesUp [] heap gave freed end → Taken [] [] frees heap gave (freed + 0) end
none_taken frees all_given = (frees, ended)

some_given : {x : ℕ} {refs : List ℕ} {heap end : Heap} {gave freed : ℕ} → GivesUp (x ∷ refs) heap gave freed end → 0 < gave
some_given (constant odd rest) = omega arith
some_given (lowered even is rest) = omega arith
some_given (last even is rest) = omega arith

in_turns : (most : ℕ) (refs waits frees : List ℕ) (heap plain end : Heap) (pending : List ℕ) (gave freed : ℕ) → 2 * gave + length waits ≤ most → Waits heap waits plain pending → GivesUp (refs ++ pending) plain gave freed end
    → Taken refs waits frees heap gave (freed + length waits) end
in_turns most [] [] frees heap plain end pending gave freed within there gives =
    let none = none_waits there in
    none_taken frees (subst (λ (h : Heap). GivesUp [] h gave freed end) none.0 (subst (λ ps. GivesUp ps plain gave freed end) none.1 gives))
in_turns zero [] (x ∷ waits) frees heap plain end pending gave freed within there gives = absurd (omega arith)
in_turns (suc most) [] (x ∷ waits) frees heap plain end pending gave freed within there gives =
    let first = first_waits there in
    let later = in_turns most (references first.0) waits (x ∷ frees) (changed x free heap) plain end first.1 gave freed (omega arith) first.4 (subst (λ ps. GivesUp ps plain gave freed end) first.3 gives) in
    taken_as (omega arith) (later.0, opened first.2 later.1)
in_turns zero (x ∷ refs) waits frees heap plain end pending gave freed within there gives =
    let some = some_given gives in absurd (omega arith)
in_turns (suc most) (x ∷ refs) waits frees heap plain end pending gave freed within there (constant {gave = less} odd rest) =
    let later = in_turns most refs waits frees heap plain end pending less freed (omega arith) there rest in
    (later.0, passed odd later.1)
in_turns (suc most) (x ∷ refs) waits frees heap plain end pending gave freed within there (lowered {gave = less} {count = count} {body = body} even is rest) =
    let here = was_counted there x (suc (suc count)) body is in
    let settled = counted_waits heap x (suc (suc count)) body here in
    let later = in_turns most refs waits frees (changed x (counted (suc count) body) heap) (changed x (counted (suc count) body) plain) end pending less freed (omega arith) (waits_changed there x (counted (suc count) body) settled) rest in
    (later.0, lower even here later.1)
in_turns (suc most) (x ∷ refs) waits frees heap plain end pending gave freed within there (last {gave = less} {freed = fewer} {body = body} even is rest) =
    let here = was_counted there x 1 body is in
    let settled = counted_waits heap x 1 body here in
    let later = in_turns most refs (x ∷ waits) frees (changed x (waiting body) heap) (changed x free plain) end (references body ++ pending) less fewer (omega arith) (waits_more there x body settled)
    (reorder (put_off (references body) refs pending) rest) in
    taken_as (omega arith) (later.0, waits_now even here later.1)

pub given_in_turns : {refs : List ℕ} (frees : List ℕ) {heap end : Heap} {gave freed : ℕ} → GivesUp refs heap gave freed end → (left : List ℕ) × Turns refs [] frees heap gave freed left end
given_in_turns {refs} frees {heap} {end} {gave} {freed} gives =
    taken_as (omega arith)
    (in_turns (2 * gave) refs [] frees heap heap end [] gave freed (omega arith) no_wait (reorder (λ z. let e = occurs-append z refs [] in omega arith) gives))

-- ---- the function takes the turns

-- nothing is left to be done
abbrev done_with : List ℕ → Heap → ℕ → ℕ → Option Work
done_with left end gave freed = Some (record { refs = []; waits = []; frees = left; heap = end; gave = gave; freed = freed })

same_work : {left : List ℕ} {end : Heap} {gave freed more_gave more_freed : ℕ} → gave ≡ more_gave → freed ≡ more_freed → done_with left end gave freed ≡ done_with left end more_gave more_freed
same_work e f = cc

turns_computed : (fuel : ℕ) {refs waits frees left : List ℕ} {heap end : Heap} {gave freed : ℕ} → Turns refs waits frees heap gave freed left end → (before before_freed : ℕ) → gave + freed < fuel
    → turns fuel (record { refs = refs; waits = waits; frees = frees; heap = heap; gave = before; freed = before_freed })
    ≡ done_with left end (before + gave) (before_freed + freed)
turns_computed zero taken before before_freed within = absurd (omega arith)
turns_computed (suc fuel) ended before before_freed within = same_work (omega arith) (omega arith)
turns_computed (suc fuel) (passed {x = x} odd rest) before before_freed within =
    let test : nat_eq (x % 2) 1 ≡ true = grind (arith, nat_tests) in
    rw test (turns_computed fuel rest (suc before) before_freed (omega arith) ∙ same_work (omega arith) (omega arith))
turns_computed (suc fuel) (lower {x = x} even is rest) before before_freed within =
    let test : nat_eq (x % 2) 1 ≡ false = grind (arith, nat_tests) in
    rw (test, is) (turns_computed fuel rest (suc before) before_freed (omega arith) ∙ same_work (omega arith) (omega arith))
turns_computed (suc fuel) (waits_now {x = x} even is rest) before before_freed within =
    let test : nat_eq (x % 2) 1 ≡ false = grind (arith, nat_tests) in
    rw (test, is) (turns_computed fuel rest (suc before) before_freed (omega arith) ∙ same_work (omega arith) (omega arith))
turns_computed (suc fuel) (opened {x = x} is rest) before before_freed within =
    rw is (turns_computed fuel rest before (suc before_freed) (omega arith) ∙ same_work (omega arith) (omega arith))

-- and what it takes are turns
record Took (refs waits frees : List ℕ) (heap : Heap) (before before_freed : ℕ) (after : Work) : Type 0 where
  gave : ℕ
  freed : ℕ
  gave_is : after.gave ≡ before + gave
  freed_is : after.freed ≡ before_freed + freed
  taken : Turns refs waits frees heap gave freed after.frees after.heap

abbrev AreTaken : ℕ → Work → Type 0
AreTaken fuel after =
    (refs waits frees : List ℕ) (heap : Heap) (before before_freed : ℕ)
    → turns fuel (record { refs = refs; waits = waits; frees = frees; heap = heap; gave = before; freed = before_freed }) ≡ Some after → Took refs waits frees heap before before_freed after

module _ (fuel : ℕ) (after : Work) (again : AreTaken fuel after) where
  opened_is : (x : ℕ) (waits frees : List ℕ) (heap : Heap) (before before_freed : ℕ) (cell : Cell) → heap x ≡ cell
      → and_then (opens x waits cell (record { refs = []; waits = x ∷ waits; frees = frees; heap = heap; gave = before; freed = before_freed })) (turns fuel) ≡ Some after
      → Took [] (x ∷ waits) frees heap before before_freed after
  opened_is x waits frees heap before before_freed (waiting body) there is =
      let took = again (references body) waits (x ∷ frees) (changed x free heap) before (suc before_freed) is in
      let freed_is = took.freed_is in
      record { gave = took.gave; freed = suc took.freed; gave_is = took.gave_is; freed_is = omega arith; taken = opened there took.taken }
  opened_is x waits frees heap before before_freed no_cell there is = cc
  opened_is x waits frees heap before before_freed free there is = cc
  opened_is x waits frees heap before before_freed (token fields) there is = cc
  opened_is x waits frees heap before before_freed (counted count body) there is = cc

  given_is : (x : ℕ) (refs waits frees : List ℕ) (heap : Heap) (before before_freed : ℕ) (cell : Cell) → heap x ≡ cell → x % 2 ≡ 0
      → and_then (gives_one x refs cell (record { refs = x ∷ refs; waits = waits; frees = frees; heap = heap; gave = before; freed = before_freed })) (turns fuel) ≡ Some after
      → Took (x ∷ refs) waits frees heap before before_freed after
  given_is x refs waits frees heap before before_freed (counted (suc (suc count)) body) there even is =
      let took = again refs waits frees (changed x (counted (suc count) body) heap) (suc before) before_freed is in
      let gave_is = took.gave_is in
      record { gave = suc took.gave; freed = took.freed; gave_is = omega arith; freed_is = took.freed_is; taken = lower even there took.taken }
  given_is x refs waits frees heap before before_freed (counted (suc zero) body) there even is =
      let took = again refs (x ∷ waits) frees (changed x (waiting body) heap) (suc before) before_freed is in
      let gave_is = took.gave_is in
      record { gave = suc took.gave; freed = took.freed; gave_is = omega arith; freed_is = took.freed_is; taken = waits_now even there took.taken }
  given_is x refs waits frees heap before before_freed (counted zero body) there even is = cc
  given_is x refs waits frees heap before before_freed no_cell there even is = cc
  given_is x refs waits frees heap before before_freed free there even is = cc
  given_is x refs waits frees heap before before_freed (token fields) there even is = cc
  given_is x refs waits frees heap before before_freed (waiting body) there even is = cc

even_of : (x : ℕ) → (x % 2 ≡ 1 → ⊥) → x % 2 ≡ 0
even_of x other = grind arith

turns_taken : (fuel : ℕ) (after : Work) → AreTaken fuel after
turns_taken zero after refs waits frees heap before before_freed is = cc
turns_taken (suc fuel) after [] [] frees heap before before_freed is =
    let w : Work = record { refs = []; waits = []; frees = frees; heap = heap; gave = before; freed = before_freed } in
    let same : w ≡ after = cc in
    subst (Took [] [] frees heap before before_freed) same (record { gave = 0; freed = 0; gave_is = omega arith; freed_is = omega arith; taken = ended })
turns_taken (suc fuel) after [] (x ∷ waits) frees heap before before_freed is =
    opened_is fuel after (turns_taken fuel after) x waits frees heap before before_freed (heap x) refl is
turns_taken (suc fuel) after (x ∷ refs) waits frees heap before before_freed is =
    elim (cases_eq (x % 2) 1) [
      | inl odd ↦
          (let test : nat_eq (x % 2) 1 ≡ true = grind (arith, nat_tests) in
          let took = turns_taken fuel after refs waits frees heap (suc before) before_freed (rw test at is) in
          let gave_is = took.gave_is in
          record { gave = suc took.gave; freed = took.freed; gave_is = omega arith; freed_is = took.freed_is; taken = passed odd took.taken })
      | inr other ↦
          (let test : nat_eq (x % 2) 1 ≡ false = grind (arith, nat_tests) in
          given_is fuel after (turns_taken fuel after) x refs waits frees heap before before_freed (heap x) refl (even_of x other) (rw test at is))
    ]

-- ---- where nothing was done yet

pub turns_computed_first : (fuel : ℕ) {refs frees left : List ℕ} {heap end : Heap} {gave freed : ℕ} → Turns refs [] frees heap gave freed left end → gave + freed < fuel → turns fuel (work_of refs frees heap) ≡ done_with left end gave freed
turns_computed_first fuel taken within =
    turns_computed fuel taken 0 0 within ∙ same_work (omega arith) (omega arith)

pub turns_taken_first : (fuel : ℕ) (after : Work) (refs frees : List ℕ) (heap : Heap) → turns fuel (work_of refs frees heap) ≡ Some after → Turns refs [] frees heap after.gave after.freed after.frees after.heap
turns_taken_first fuel after refs frees heap is =
    let took = turns_taken fuel after refs [] frees heap 0 0 is in
    let gave_is = took.gave_is in
    let freed_is = took.freed_is in
    let gave : took.gave ≡ after.gave = omega arith in
    let freed : took.freed ≡ after.freed = omega arith in
    subst (λ n. Turns refs [] frees heap n after.freed after.frees after.heap) gave (subst (λ n. Turns refs [] frees heap took.gave n after.frees after.heap) freed took.taken)
