-- Paired code has room for its tokens. A function has at most as many as openings stand on a path; and on the way to the next form
-- each is at most taken back, freed or named, and made null or moved.
use Rattle.std.proofs.Common.{◌≡◌, ◌≤◌, ℕ, zero, suc, ◌+◌, ◌-◌, ◌*◌, Bool, true, false, if◌then◌else◌, List, [], ◌∷◌, length, max, refl, subst, arith}
use Rattle.kk_syntax.specs.declared.program.Form.{Form}
use Rattle.kk_syntax.specs.declared.program.Form.TheVariants.{Construct, Call}
use Rattle.kk_counted.specs.CountedCodes.{Counted, give, tail_call, case, compute, inside, read, open_cell, if_unique, dup, drop, CountedArms, no_arm, arm, CountedProgram}
use Rattle.kk_counted.specs.TokenCosts.{tokens_ahead, room_needed, arms_need_room, HasRoom, openings, openings_of, OpenAtMost}
use Rattle.kk_counted.specs.TokenedCodes.{Tokened}
use Rattle.kk_reuse.specs.Following.{makes_cell, may_make, kept, taken, leaves, arms_leave}
use Rattle.kk_reuse.specs.Pairing.{slots_below, frees, holds, all_taken_back, nulls, moves_up, filled_up, settled, left_by, paired_form, paired, paired_arms, paired_function, paired_program}
use Rattle.kk_reuse.proofs.TakenBack.{HeldAgain, back_so}
use Rattle.kk_reuse.proofs.MappedLists.{each_made}

-- ---- forms that only tokens have, in front of a code

record StandsBefore (forms : ℕ) (front code : Tokened) : Type 0 where
  ahead : tokens_ahead front ≡ 12 * forms + tokens_ahead code
  needed : (most : ℕ) → 12 * forms + tokens_ahead code ≤ most → room_needed code ≤ most → room_needed front ≤ most

none_before : (code : Tokened) → StandsBefore 0 code code
none_before code = record { ahead = omega arith; needed = λ most enough fits. fits }

-- one more such form
one_before : (forms : ℕ) (next front code : Tokened) → tokens_ahead next ≡ 12 + tokens_ahead front
    → room_needed next ≡ max (12 + tokens_ahead front) (room_needed front) → StandsBefore forms front code
    → StandsBefore (suc forms) next code
one_before forms next front code ahead needed before =
    record {
      ahead = omega (arith, ahead, before.ahead);
      needed = λ most enough fits. omega (arith, needed, enough, before.ahead, before.needed most (omega (arith, enough)) fits);
    }

-- some and then others
both_before : (some others : ℕ) (front middle code : Tokened) → StandsBefore some front middle → StandsBefore others middle code
    → StandsBefore (some + others) front code
both_before some others front middle code first second =
    record {
      ahead = omega (arith, first.ahead, second.ahead);
      needed = λ most enough fits. first.needed most (omega (arith, enough, second.ahead))
          (second.needed most (omega (arith, enough)) fits);
    }

frees_before : (n : ℕ) (code : Tokened) → StandsBefore n (frees n code) code
frees_before zero code = none_before code
frees_before (suc n) code = one_before n (Tokened.free n (frees n code)) (frees n code) code refl refl (frees_before n code)

-- where a token stays held no more is ahead
record IsNoMore (code less : Tokened) : Type 0 where
  ahead : tokens_ahead less ≤ tokens_ahead code
  needed : room_needed less ≤ room_needed code

no_more : (y : ℕ) (code less : Tokened) → HeldAgain y code less → IsNoMore code less
no_more y _ _ (HeldAgain.here rest) = record { ahead = omega arith; needed = omega arith }
no_more y _ _ (HeldAgain.behind x code less again) =
    let later = no_more y code less again in record { ahead = later.ahead; needed = later.needed }

-- code in front of which so many tokens are taken back, in front of a code
record IsBackBefore (most forms : ℕ) (code back : Tokened) : Type 0 where
  ahead : tokens_ahead back ≤ 12 * forms + tokens_ahead code
  needed : room_needed back ≤ most

back_before : (most n : ℕ) (code : Tokened) → 12 * n + tokens_ahead code ≤ most → room_needed code ≤ most
    → IsBackBefore most n code (all_taken_back n code)
back_before most zero code enough fits = record { ahead = omega arith; needed = fits }
back_before most (suc n) code enough fits =
    let before = back_before most n code (omega (arith, enough)) fits in
    back_so (IsBackBefore most (suc n) code) n (all_taken_back n code)
    (record { ahead = omega (arith, before.ahead); needed = omega (arith, enough, before.ahead, before.needed) })
    (λ less again.
    let still = no_more n (all_taken_back n code) less again in
    record { ahead = omega (arith, before.ahead, still.ahead); needed = omega (arith, before.needed, still.needed) })

nulls_before : (n : ℕ) (code : Tokened) → StandsBefore n (nulls n code) code
nulls_before zero code = none_before code
nulls_before (suc n) code = one_before n (Tokened.null n (nulls n code)) (nulls n code) code refl refl (nulls_before n code)

moves_before : (by n : ℕ) (code : Tokened) → StandsBefore n (moves_up by n code) code
moves_before by zero code = none_before code
moves_before by (suc n) code =
    one_before n (Tokened.move (n + by) n (moves_up by n code)) (moves_up by n code) code refl refl (moves_before by n code)

holds_before : (n : ℕ) (code : Tokened) → StandsBefore n (holds n code) code
holds_before zero code = none_before code
holds_before (suc n) code =
    let whole : n + 1 ≡ suc n = omega arith in
    subst (λ k. StandsBefore k (holds n (Tokened.hold n code)) code) whole
    (both_before n 1 (holds n (Tokened.hold n code)) (Tokened.hold n code) code (holds_before n (Tokened.hold n code))
    (one_before 0 (Tokened.hold n code) code code refl refl (none_before code)))

filled_before : (more n : ℕ) (code : Tokened)
    → (forms : ℕ) × ((forms ≤ n + more) × StandsBefore forms (filled_up more n code) code)
filled_before zero n code = (0, (omega arith, none_before code))
filled_before (suc more) n code = (
  n + suc more,
  (
    omega arith,
    both_before n (suc more) (moves_up (suc more) n (nulls (suc more) code)) (nulls (suc more) code) code
        (moves_before (suc more) n (nulls (suc more) code)) (nulls_before (suc more) code),
  ),
)

-- ---- a number of tokens

pub kept_few : (b : Bool) (n : ℕ) → (if b then n else 0) ≤ n
kept_few true n = omega arith
kept_few false n = omega arith

pub taken_few : (form : Form) (arguments : List ℕ) (n : ℕ) → taken form arguments n ≤ n
taken_few form arguments n = by (makes_cell form arguments)
  where
    by : (b : Bool) → (if b then n - 1 else n) ≤ n
    by true = omega arith
    by false = omega arith

mutual
  pub leaves_few : (code : Counted) (behind : Bool) (n : ℕ) → leaves behind n code ≤ n + openings code
  leaves_few (give x) behind n = omega arith
  leaves_few (tail_call f arguments) behind n = omega arith
  leaves_few (case x decisions arms) behind n = arms_leave_few arms behind n
  leaves_few (compute x form arguments rest) behind n =
      omega (
        arith,
        leaves_few rest behind (kept behind rest (taken form arguments n)),
        kept_few (may_make behind rest) (taken form arguments n),
        taken_few form arguments n,
      )
  leaves_few (inside x block rest) behind n =
      omega (
        arith,
        leaves_few block (may_make behind rest) (kept (may_make behind rest) block n),
        kept_few (may_make (may_make behind rest) block) n,
        leaves_few rest behind (kept behind rest (left_by behind n block rest)),
        kept_few (may_make behind rest) (left_by behind n block rest),
      )
  leaves_few (read x c fields rest) behind n =
      omega (arith, leaves_few rest behind (kept behind rest n), kept_few (may_make behind rest) n)
  leaves_few (open_cell x c fields used rest) behind n =
      omega (arith, leaves_few rest behind (kept behind rest (suc n)), kept_few (may_make behind rest) (suc n))
  leaves_few (if_unique x c fields used rest) behind n =
      omega (arith, leaves_few rest behind (kept behind rest (suc n)), kept_few (may_make behind rest) (suc n))
  leaves_few (dup x rest) behind n =
      omega (arith, leaves_few rest behind (kept behind rest n), kept_few (may_make behind rest) n)
  leaves_few (drop x rest) behind n =
      omega (arith, leaves_few rest behind (kept behind rest n), kept_few (may_make behind rest) n)

  arms_leave_few : (arms : CountedArms) (behind : Bool) (n : ℕ) → arms_leave behind n arms ≤ n + openings_of arms
  arms_leave_few no_arm behind n = omega arith
  arms_leave_few (arm body rest) behind n =
      omega (
        arith,
        leaves_few body behind (kept behind body n),
        kept_few (may_make behind body) n,
        arms_leave_few rest behind n,
      )

-- a block inside leaves no more than it begins with and opens
pub left_few : (behind : Bool) (n : ℕ) (block rest : Counted) → left_by behind n block rest ≤ n + openings block
left_few behind n block rest =
    omega (
      arith,
      leaves_few block (may_make behind rest) (kept (may_make behind rest) block n),
      kept_few (may_make (may_make behind rest) block) n,
    )

pub slots_many : (n : ℕ) → length (slots_below n) ≡ n
slots_many zero = refl
slots_many (suc n) = omega (arith, slots_many n)

module _ (most : ℕ) where
  -- ---- what is ahead

  -- n tokens are ahead, or are freed first, and the block's end is ahead
  settled_ahead : (b : Bool) (n : ℕ) (code : ℕ → Tokened)
      → ((k : ℕ) → k ≤ n → tokens_ahead (code k) ≤ 12 * k + 12 * most)
      → tokens_ahead (if b then code (if b then n else 0) else frees n (code (if b then n else 0))) ≤ 12 * n + 12 * most
  settled_ahead true n code each = each n (omega arith)
  settled_ahead false n code each = omega (arith, (frees_before n (code 0)).ahead, each 0 (omega arith))

  form_ahead : (n x : ℕ) (form : Form) (arguments : List ℕ) (rest : Tokened) → n ≤ most
      → tokens_ahead (paired_form n x form arguments rest) ≤ 12 * n + 12 * most
  form_ahead (suc n) x (Construct c) (first ∷ arguments) rest few = omega (arith, few, slots_many n)
  form_ahead n x (Call f) arguments rest few =
      omega (arith, (holds_before n (Tokened.compute x (Call f) arguments [] (all_taken_back n rest))).ahead)
  form_ahead n x form arguments rest few = omega arith

  paired_ahead : (code : Counted) (behind : Bool) (l n : ℕ) → n ≤ most → l ≤ most
      → tokens_ahead (paired behind l n code) ≤ 12 * n + 12 * most
  paired_ahead (give x) behind l n few fits =
      let filled = filled_before (l - n) n (Tokened.give x) in omega (arith, few, fits, filled.1.0, filled.1.1.ahead)
  paired_ahead (tail_call f arguments) behind l n few fits =
      omega (arith, (frees_before n (Tokened.tail_call f arguments)).ahead)
  paired_ahead (case x decisions arms) behind l n few fits = omega arith
  paired_ahead (compute x form arguments rest) behind l n few fits =
      form_ahead n x form arguments (settled behind rest (taken form arguments n)
      (paired behind l (kept behind rest (taken form arguments n)) rest)) few
  paired_ahead (inside x block rest) behind l n few fits = omega arith
  paired_ahead (read x c fields rest) behind l n few fits = omega arith
  paired_ahead (open_cell x c fields used rest) behind l n few fits = omega arith
  paired_ahead (if_unique x c fields used rest) behind l n few fits = omega arith
  paired_ahead (dup x rest) behind l n few fits =
      settled_ahead (may_make behind rest) n (λ k. paired behind l k rest)
      (λ k less. paired_ahead rest behind l k (omega (arith, less, few)) fits)
  paired_ahead (drop x rest) behind l n few fits =
      settled_ahead (may_make behind rest) n (λ k. paired behind l k rest)
      (λ k less. paired_ahead rest behind l k (omega (arith, less, few)) fits)

  -- ---- what is ahead at any place

  settled_needed : (b : Bool) (n : ℕ) (code : ℕ → Tokened) → n ≤ most
      → ((k : ℕ) → k ≤ n → tokens_ahead (code k) ≤ 12 * k + 12 * most)
      → ((k : ℕ) → k ≤ n → room_needed (code k) ≤ 36 * most)
      → room_needed (if b then code (if b then n else 0) else frees n (code (if b then n else 0))) ≤ 36 * most
  settled_needed true n code few ahead needed = needed n (omega arith)
  settled_needed false n code few ahead needed =
      (frees_before n (code 0)).needed (36 * most) (omega (arith, few, ahead 0 (omega arith))) (needed 0 (omega arith))

  call_needed : (n x f : ℕ) (arguments : List ℕ) (rest : Tokened) → n ≤ most → tokens_ahead rest ≤ 24 * most
      → room_needed rest ≤ 36 * most
      → room_needed (holds n (Tokened.compute x (Call f) arguments [] (all_taken_back n rest))) ≤ 36 * most
  call_needed n x f arguments rest few ahead needed =
      let behind : room_needed (all_taken_back n rest) ≤ 36 * most
      = (back_before (36 * most) n rest (omega (arith, few, ahead)) needed).needed in
      (holds_before n (Tokened.compute x (Call f) arguments [] (all_taken_back n rest))).needed (36 * most) (omega (arith, few))
      (omega (arith, behind))

  form_needed : (n x : ℕ) (form : Form) (arguments : List ℕ) (rest : Tokened) → n ≤ most → tokens_ahead rest ≤ 24 * most
      → room_needed rest ≤ 36 * most → room_needed (paired_form n x form arguments rest) ≤ 36 * most
  form_needed (suc n) x (Construct c) (first ∷ arguments) rest few ahead needed = omega (arith, few, slots_many n, needed)
  form_needed n x (Call f) arguments rest few ahead needed = call_needed n x f arguments rest few ahead needed
  form_needed n x form arguments rest few ahead needed = omega (arith, needed)

  -- whatever the number of tokens is with which a code begins
  abbrev FitsRoom : Counted → Bool → ℕ → Type 0
  FitsRoom code behind l = (n : ℕ) → n + openings code ≤ most → room_needed (paired behind l n code) ≤ 36 * most

  -- what comes behind a form
  rest_needed : (code : Counted) (behind : Bool) (l n : ℕ) → l ≤ most → FitsRoom code behind l → n + openings code ≤ most
      → room_needed (settled behind code n (paired behind l (kept behind code n) code)) ≤ 36 * most
  rest_needed code behind l n fits needed few =
      settled_needed (may_make behind code) n (λ k. paired behind l k code) (omega (arith, few))
      (λ k less. paired_ahead code behind l k (omega (arith, less, few)) fits)
      (λ k less. needed k (omega (arith, less, few)))

  mutual
    paired_needed : (code : Counted) (behind : Bool) (l : ℕ) → l ≤ most → FitsRoom code behind l
    paired_needed (give x) behind l fits n few =
        let filled = filled_before (l - n) n (Tokened.give x) in
        filled.1.1.needed (36 * most) (omega (arith, few, fits, filled.1.0)) (omega arith)
    paired_needed (tail_call f arguments) behind l fits n few =
        (frees_before n (Tokened.tail_call f arguments)).needed (36 * most) (omega (arith, few)) (omega arith)
    paired_needed (case x decisions arms) behind l fits n few = arms_needed arms behind l n fits few
    paired_needed (compute x form arguments rest) behind l fits n few =
        let left : taken form arguments n ≤ n = taken_few form arguments n in
        form_needed n x form arguments
        (settled behind rest (taken form arguments n) (paired behind l (kept behind rest (taken form arguments n)) rest))
        (omega (arith, few))
        (omega (
          arith,
          few,
          left,
          settled_ahead (may_make behind rest) (taken form arguments n) (λ k. paired behind l k rest)
              (λ k less. paired_ahead rest behind l k (omega (arith, less, few, left)) fits),
        ))
        (rest_needed rest behind l (taken form arguments n) fits (paired_needed rest behind l fits) (omega (arith, few, left)))
    paired_needed (inside x block rest) behind l fits n few =
        let outer : ℕ = left_by behind n block rest in
        let left = left_few behind n block rest in
        let inner : outer ≤ most = omega (arith, few, left) in
        omega (
          arith,
          rest_needed block (may_make behind rest) outer n inner (paired_needed block (may_make behind rest) outer inner)
              (omega (arith, few)),
          rest_needed rest behind l outer fits (paired_needed rest behind l fits) (omega (arith, few, left)),
        )
    paired_needed (read x c fields rest) behind l fits n few =
        rest_needed rest behind l n fits (paired_needed rest behind l fits) few
    paired_needed (open_cell x c fields used rest) behind l fits n few =
        rest_needed rest behind l (suc n) fits (paired_needed rest behind l fits) (omega (arith, few))
    paired_needed (if_unique x c fields used rest) behind l fits n few =
        rest_needed rest behind l (suc n) fits (paired_needed rest behind l fits) (omega (arith, few))
    paired_needed (dup x rest) behind l fits n few =
        rest_needed rest behind l n fits (paired_needed rest behind l fits) few
    paired_needed (drop x rest) behind l fits n few =
        rest_needed rest behind l n fits (paired_needed rest behind l fits) few

    arms_needed : (arms : CountedArms) (behind : Bool) (l n : ℕ) → l ≤ most → n + openings_of arms ≤ most
        → arms_need_room (paired_arms behind l n arms) ≤ 36 * most
    arms_needed no_arm behind l n fits few = omega arith
    arms_needed (arm body rest) behind l n fits few =
        omega (
          arith,
          rest_needed body behind l n fits (paired_needed body behind l fits) (omega (arith, few)),
          arms_needed rest behind l n fits (omega (arith, few)),
        )

  pub program_has_room : (program : CountedProgram) → OpenAtMost most program → HasRoom (36 * most) (paired_program program)
  program_has_room program few =
      each_made paired_function (λ function. room_needed function.body ≤ 36 * most) program.functions
      (λ f function is. paired_needed function.body false 0 (omega arith) 0 (omega (arith, few f function is)))
