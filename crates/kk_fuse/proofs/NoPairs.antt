-- In fused code no dup cancels with a drop any more.
use Rattle.std.proofs.Common.{◌≡◌, ◌==◌, ◌||◌, ℕ, Bool, true, false, List, Option, Some, None, refl, subst}
use Rattle.std.specs.Prelude.{option_map, if◌then◌else◌, slice_get}
use Rattle.kk_syntax.specs.declared.program.Form.{Form}
use Rattle.kk_syntax.specs.Shapes.{is_among}
use Rattle.kk_counted.specs.CountedCodes.{Counted, give, tail_call, case, compute, inside, read, open_cell, if_unique, dup, drop, CountedArms, no_arm, arm, CountedFunction, CountedProgram}
use Rattle.kk_dropspec.proofs.ChangedFunctions.{found_before}
use Rattle.kk_fuse.specs.Fused.{is_plain, without_drop, fuse, fuse_arms, fused_program}
use Rattle.kk_fuse.specs.NoPairs.{HasNoPair, HaveNoPair}
use Rattle.kk_fuse.proofs.DropRemoval.{by_without, by_fused}

-- what is mapped and is not there was not there
unmapped : (put : Counted → Counted) (found : Option Counted) → option_map put found ≡ None → found ≡ None
unmapped put None is = refl
unmapped put (Some less) is = absurd (cc)

-- where no drop of a variable is found in one code, none is in another
abbrev StaysBlocked : Counted → Counted → Type 0
StaysBlocked code less = (x : ℕ) → without_drop x code ≡ None → without_drop x less ≡ None

-- both codes behind one form, which stops the search or lets it pass
blocked_behind : (put other : Counted → Counted) (rest less : Option Counted) → (rest ≡ None → less ≡ None)
    → option_map put rest ≡ None → option_map other less ≡ None
blocked_behind put other rest less later is = rw (later (unmapped put rest is)) refl

blocked_test : (t : Bool) (put other : Counted → Counted) (rest less : Option Counted) → (rest ≡ None → less ≡ None)
    → (if t then None else option_map put rest) ≡ None → (if t then None else option_map other less) ≡ None
blocked_test true put other rest less later is = refl
blocked_test false put other rest less later is = blocked_behind put other rest less later is

-- the drop that is left out lets no other search pass
blocked_drop : (y : ℕ) (rest : Counted) → StaysBlocked (drop y rest) rest
blocked_drop y rest x is = by_test (y == x) is
  where
    by_test : (t : Bool) → (if t then Some rest else option_map (drop y) (without_drop x rest)) ≡ None
        → without_drop x rest ≡ None
    by_test true is = absurd (cc)
    by_test false is = unmapped (drop y) (without_drop x rest) is

blocked_past_drop : (y : ℕ) (rest less : Counted) → StaysBlocked rest less → StaysBlocked (drop y rest) (drop y less)
blocked_past_drop y rest less later x is = by_test (y == x) is
  where
    by_test : (t : Bool) → (if t then Some rest else option_map (drop y) (without_drop x rest)) ≡ None
        → (if t then Some less else option_map (drop y) (without_drop x less)) ≡ None
    by_test true is = absurd (cc)
    by_test false is = blocked_behind (drop y) (drop y) (without_drop x rest) (without_drop x less) (later x) is

blocked_past_dup : (y : ℕ) (rest less : Counted) → StaysBlocked rest less → StaysBlocked (dup y rest) (dup y less)
blocked_past_dup y rest less later x is =
    blocked_test (y == x) (dup y) (dup y) (without_drop x rest) (without_drop x less) (later x) is

blocked_past_read : (y c : ℕ) (fields : List ℕ) (rest less : Counted) → StaysBlocked rest less
    → StaysBlocked (read y c fields rest) (read y c fields less)
blocked_past_read y c fields rest less later x is =
    blocked_test (y == x || is_among fields x) (read y c fields) (read y c fields) (without_drop x rest) (without_drop x less)
    (later x) is

blocked_past_compute : (y : ℕ) (form : Form) (arguments : List ℕ) (rest less : Counted) → StaysBlocked rest less
    → StaysBlocked (compute y form arguments rest) (compute y form arguments less)
blocked_past_compute y form arguments rest less later x is =
    by_test (y == x || is_among arguments x) (is_plain form arguments) is
  where
    by_test : (t plain : Bool)
        → (if t then None
        else if plain then option_map (compute y form arguments) (without_drop x rest) else None) ≡ None
        → (if t then None
        else if plain then option_map (compute y form arguments) (without_drop x less) else None) ≡ None
    by_test true plain is = refl
    by_test false false is = refl
    by_test false true is =
        blocked_behind (compute y form arguments) (compute y form arguments) (without_drop x rest) (without_drop x less)
        (later x) is

-- without a drop no search passes that did not pass before, and no pair comes to be
abbrev StaysPairless : Counted → Counted → Type 0
StaysPairless code less = StaysBlocked code less × (HasNoPair code → HasNoPair less)

less_pairless : (x : ℕ) (code less : Counted) → without_drop x code ≡ Some less → StaysPairless code less
less_pairless x =
    by_without x StaysPairless (λ rest. (blocked_drop x rest, λ has. has))
    (λ y rest less apart later. (blocked_past_drop y rest less later.0, later.1))
    (λ y rest less apart later. (blocked_past_dup y rest less later.0, λ has. (later.0 y has.0, later.1 has.1)))
    (λ y c fields rest less apart named later. (blocked_past_read y c fields rest less later.0, later.1))
    (λ y form arguments rest less apart named plain later.
    (blocked_past_compute y form arguments rest less later.0, later.1))

-- fused code has no pair
mutual
  pairless : (code : Counted) → HasNoPair (fuse code)
  pairless (give x) = tt
  pairless (tail_call f arguments) = tt
  pairless (case x decisions arms) = arms_pairless arms
  pairless (compute x form arguments rest) = pairless rest
  pairless (inside x block rest) = (pairless block, pairless rest)
  pairless (read x c fields rest) = pairless rest
  pairless (open_cell x c fields used rest) = pairless rest
  pairless (if_unique x c fields used rest) = pairless rest
  pairless (dup x rest) =
      let later = pairless rest in
      by_fused HasNoPair x (fuse rest) (λ none. (none, later)) (λ less is. (less_pairless x (fuse rest) less is).1 later)
  pairless (drop x rest) = pairless rest

  arms_pairless : (arms : CountedArms) → HaveNoPair (fuse_arms arms)
  arms_pairless no_arm = tt
  arms_pairless (arm body rest) = (pairless body, arms_pairless rest)

-- no function of a fused program has a pair
pub program_pairless : (program : CountedProgram) (f : ℕ) (function : CountedFunction)
    → slice_get (fused_program program).functions f ≡ Some function → HasNoPair function.body
program_pairless program f function is =
    let before = found_before fuse program.functions f function is in
    subst (λ (one : CountedFunction). HasNoPair one.body) before.1.1 (pairless before.0.body)
