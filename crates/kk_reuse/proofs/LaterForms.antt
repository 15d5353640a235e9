-- What can follow in a block, step by step.
use Rattle.std.proofs.Common.{◌≡◌, ℕ, suc, Bool, true, false, List, [], ◌∷◌, refl, sym, ap, ◌∙◌, arith}
use Rattle.std.specs.Prelude.{max, if◌then◌else◌}
use Rattle.kk_counted.specs.CountedCodes.{Counted, give, tail_call, case, compute, inside, read, open_cell, if_unique, dup, drop, CountedArms, no_arm, arm}
use Rattle.kk_counted.specs.CountedForms.{Move, computes, runs, reads, opens, opens_unique, dups, drops, put, plug}
use Rattle.kk_reuse.specs.Following.{makes_cell, may_make, arms_may_make, kept, taken, leaves, arms_leave}
use Rattle.kk_reuse.specs.PairedForms.{move_may_make, moves_may_make, left_behind}
use Rattle.kk_reuse.proofs.TokenSpending.{none_left, kept_idle, or_parts}

-- ---- whether a cell may be made

may_make_put : (b : Bool) (move : Move) (rest : Counted) → may_make b (put move rest) ≡ move_may_make (may_make b rest) move
may_make_put b (computes x form arguments) rest = refl
may_make_put b (runs x block) rest = refl
may_make_put b (reads x c fields) rest = refl
may_make_put b (opens x c fields used) rest = refl
may_make_put b (opens_unique x c fields used) rest = refl
may_make_put b (dups x) rest = refl
may_make_put b (drops x) rest = refl

pub may_make_plug : (b : Bool) (moves : List Move) (last : Counted)
    → may_make b (plug moves last) ≡ moves_may_make (may_make b last) moves
may_make_plug b [] last = refl
may_make_plug b (move ∷ moves) last =
    may_make_put b move (plug moves last) ∙ ap (λ behind. move_may_make behind move) (may_make_plug b moves last)

-- ---- how many tokens are left

-- where no cell may be made any more tokens are not kept
same_kept : (code : Counted) (n m : ℕ) → may_make true code ≡ false → kept true code n ≡ kept true code m
same_kept code n m none = ap (λ b. if b then n else 0) none ∙ sym (ap (λ b. if b then m else 0) none)

later_same : (code : Counted) (n m : ℕ) → may_make true code ≡ false
    → leaves true (kept true code n) code ≡ leaves true (kept true code m) code
later_same code n m none = ap (λ k. leaves true k code) (same_kept code n m none)

arms_same : (arms : CountedArms) (n m : ℕ) → arms_may_make true arms ≡ false → arms_leave true n arms ≡ arms_leave true m arms
arms_same no_arm n m none = refl
arms_same (arm body rest) n m none =
    let both : (may_make true body ≡ false) × (arms_may_make true rest ≡ false) =
    or_parts (may_make true body) (arms_may_make true rest) none in
    ap (λ k. max k (arms_leave true n rest)) (later_same body n m both.0)
    ∙ ap (max (leaves true (kept true body m) body)) (arms_same rest n m both.1)

-- so none counts there
any_same : (code : Counted) (n m : ℕ) → may_make true code ≡ false → leaves true n code ≡ leaves true m code
any_same (give x) n m none = absurd (cc none)
any_same (tail_call f arguments) n m none = refl
any_same (case x decisions arms) n m none = arms_same arms n m none
any_same (compute x form arguments rest) n m none =
    later_same rest (taken form arguments n) (taken form arguments m)
    (or_parts (makes_cell form arguments) (may_make true rest) none).1
any_same (inside x block rest) n m none = by (may_make true rest) refl
  where
    left : Bool → ℕ → ℕ
    left b k = leaves b (kept b block k) block

    by : (b : Bool) → may_make true rest ≡ b → leaves true n (inside x block rest) ≡ leaves true m (inside x block rest)
    by false is = later_same rest (left (may_make true rest) n) (left (may_make true rest) m) is
    by true is =
        ap (λ k. leaves true (kept true rest k) rest)
        (ap (λ b. left b n) is
        ∙ later_same block n m (ap (λ b. may_make b block) (sym is) ∙ none)
        ∙ sym (ap (λ b. left b m) is))
any_same (read x c fields rest) n m none = later_same rest n m none
any_same (open_cell x c fields used rest) n m none = later_same rest (suc n) (suc m) none
any_same (if_unique x c fields used rest) n m none = later_same rest (suc n) (suc m) none
any_same (dup x rest) n m none = later_same rest n m none
any_same (drop x rest) n m none = later_same rest n m none

-- where a cell may be made behind a block, it leaves as many whether the others are freed in front of it or not
pub leaves_kept : (code : Counted) (n : ℕ) → leaves true (kept true code n) code ≡ leaves true n code
leaves_kept code n = by (may_make true code) refl
  where
    by : (b : Bool) → may_make true code ≡ b → leaves true (kept true code n) code ≡ leaves true n code
    by true is = ap (λ b. leaves true (if b then n else 0) code) is
    by false is = any_same code (kept true code n) n is

pub leaves_put : (move : Move) (rest : Counted) (n : ℕ) → leaves true n (put move rest) ≡ leaves true (left_behind n move) rest
leaves_put (computes x form arguments) rest n = leaves_kept rest (taken form arguments n)
leaves_put (runs x block) rest n = by (may_make true rest) refl
  where
    left : Bool → ℕ
    left b = leaves b (kept b block n) block

    by : (b : Bool) → may_make true rest ≡ b → leaves true n (inside x block rest) ≡ leaves true (leaves true n block) rest
    by true is =
        leaves_kept rest (left (may_make true rest))
        ∙ ap (λ k. leaves true k rest) (ap left is ∙ leaves_kept block n)
    by false is = leaves_kept rest (left (may_make true rest)) ∙ any_same rest (left (may_make true rest)) (leaves true n block) is
leaves_put (reads x c fields) rest n = leaves_kept rest n
leaves_put (opens x c fields used) rest n = leaves_kept rest (suc n)
leaves_put (opens_unique x c fields used) rest n = leaves_kept rest (suc n)
leaves_put (dups x) rest n = leaves_kept rest n
leaves_put (drops x) rest n = leaves_kept rest n

-- where none may be made behind a block, it leaves none
pub none_behind : (block : Counted) (n : ℕ) → leaves false (kept false block n) block ≡ 0
none_behind block n =
    let few = none_left block (kept false block n) (kept_idle (may_make false block) n) in omega (arith, few)
