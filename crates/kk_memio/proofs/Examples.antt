-- The definitions on small values.
use Rattle.std.proofs.Common.{◌≡◌, ◌-◌, ◌^◌, [], ◌∷◌, true, false, refl}
use Rattle.kk_base.specs.Faults.{one_more}
use Rattle.kk_memio.specs.Plan.{Plan, unused, is_planned, after_call}
use Rattle.kk_memio.specs.Sink.{tally_after}

-- the second and the third call are to fail
plan : Plan
plan = unused (3 ∷ 2 ∷ [])

first_passes : is_planned plan ≡ false
unfolding plan
first_passes = refl

second_fails : is_planned (after_call false plan) ≡ true
unfolding plan
second_fails = refl

third_fails : is_planned (after_call true (after_call false plan)) ≡ true
unfolding plan
third_fails = refl

one_fault : (after_call true (after_call false plan)).faults ≡ 1
unfolding plan
one_fault = refl

-- counts stay at the last value of a u64
last_count : one_more (2 ^ 64 - 1) ≡ 2 ^ 64 - 1
last_count = refl

last_tally : tally_after (2 ^ 64 - 2) (7 ∷ 7 ∷ 7 ∷ []) ≡ 2 ^ 64 - 1
last_tally = refl
