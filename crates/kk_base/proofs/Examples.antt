-- The definitions on small values.
use Rattle.std.proofs.Common.{◌≡◌, ℕ, ◌%◌, ◌<◌, List, [], ◌∷◌, ◌==◌, if◌then◌else◌, true, false, Some, refl, arith, rules}
use Rattle.std.specs.Prelude.{codes}
use Rattle.kk_base.specs.Trace.{output, input, input_end, output_of, input_of, TakesBytes, TakesFrom}
use Rattle.kk_base.specs.Memory.{Part, covers, byte_loaded}
use Rattle.kk_base.specs.Machines.{trace, weight_of, ending_after, mapped}
use Rattle.kk_base.proofs.Counters.{each, every_second}

-- two pieces and two reads
put_and_read : output_of (output (codes "ab") ∷ input 7 ∷ output (codes "c") ∷ input_end ∷ []) ≡ codes "abc"
put_and_read = refl

only_bytes_read : input_of (output (codes "ab") ∷ input 7 ∷ input_end ∷ []) ≡ 7 ∷ []
only_bytes_read = refl

-- two bytes are taken of three, and the end is met where none is left
two_of_three : TakesFrom (input 7 ∷ output (codes "c") ∷ input 8 ∷ []) (7 ∷ 8 ∷ 9 ∷ []) (9 ∷ [])
two_of_three = (refl, (refl, refl))

end_where_none_is_left : TakesFrom (input 7 ∷ input_end ∷ []) (7 ∷ []) []
end_where_none_is_left = (refl, refl)

no_end_before_a_byte : TakesFrom (input_end ∷ []) (7 ∷ []) [] → ⊥
no_end_before_a_byte taken = taken

no_other_byte : TakesFrom (input 8 ∷ []) (7 ∷ []) [] → ⊥
no_other_byte taken = cc

-- four addresses from 4096 on, of which two have bytes
text : Part
text = record { start = 4096; size = 4; readable = true; writable = false; executable = true; bytes = 19 ∷ 5 ∷ [] }

first_byte : byte_loaded (text ∷ []) 4096 ≡ 19
unfolding text
first_byte = refl

zero_behind : byte_loaded (text ∷ []) 4098 ≡ 0
unfolding text
zero_behind = refl

last_word : covers text 4096 4 ≡ true
unfolding text
last_word = refl

past_the_end : covers text 4097 4 ≡ false
unfolding text
past_the_end = refl

empty_anywhere : covers text 9 0 ≡ true
unfolding text
empty_anywhere = refl

-- a count from three, with a rest before each number
counted : trace each 5 3 ≡ 3 ∷ 2 ∷ 1 ∷ []
counted = refl

counted_with_rests : trace every_second 5 (3, false) ≡ 3 ∷ 2 ∷ []
counted_with_rests = refl

ended_with_rests : ending_after every_second 6 (3, false) ≡ Some tt
ended_with_rests = refl

-- two numbers weigh 4, and so do four steps with rests; after the end nothing weighs
weighed : weight_of each 2 3 ≡ 4
weighed = refl

weighed_with_rests : weight_of every_second 4 (3, false) ≡ 4
weighed_with_rests = refl

weighed_to_the_end : weight_of each 9 3 ≡ 6
weighed_to_the_end = refl

-- the odd numbers alone are seen
abbrev odd_alone : ℕ → List ℕ
odd_alone n = if n % 2 == 1 then n ∷ [] else []

seen : trace (mapped odd_alone (λ w. w) each) 5 4 ≡ 3 ∷ 1 ∷ []
seen = refl

-- the second input is no byte
bytes_taken : TakesBytes (input 255 ∷ output (codes "c") ∷ input_end ∷ [])
bytes_taken = search rules

no_byte_taken : TakesBytes (input 256 ∷ []) → ⊥
no_byte_taken taken = let below : 256 < 256 = taken 0 0 (omega arith) in omega arith
