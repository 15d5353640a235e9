-- Events in two parts: what they take, put and leave.
use Rattle.std.proofs.Common.{◌≡◌, ℕ, ◌<◌, List, [], ◌∷◌, ◌++◌, Bool, true, false, refl, sym, ap, subst, ◌∙◌, append_assoc}
use Rattle.std.proofs.lemmas.Bool.{true≢false}
use Rattle.std.proofs.lemmas.List.Elements.{All-append}
use Rattle.kk_base.specs.Trace.{Event, output, input, input_end, output_of, input_of, TakesBytes, TakesFrom, EndsOnce}

-- what some events take, and then others
pub TakesFrom-join : (es fs : List Event) (before mid after : List ℕ) → TakesFrom es before mid → TakesFrom fs mid after → TakesFrom (es ++ fs) before after
TakesFrom-join [] fs before mid after first second = subst (λ xs. TakesFrom fs xs after) (sym first) second
TakesFrom-join (output piece ∷ es) fs before mid after first second = TakesFrom-join es fs before mid after first second
TakesFrom-join (input byte ∷ es) fs [] mid after first second = first
TakesFrom-join (input byte ∷ es) fs (x ∷ xs) mid after first second = (first.0, TakesFrom-join es fs xs mid after first.1 second)
TakesFrom-join (input_end ∷ es) fs [] mid after first second = TakesFrom-join es fs [] mid after first second
TakesFrom-join (input_end ∷ es) fs (x ∷ xs) mid after first second = first

pub TakesFrom-split : (es fs : List Event) (before after : List ℕ) → TakesFrom (es ++ fs) before after → (mid : List ℕ) × TakesFrom es before mid × TakesFrom fs mid after
TakesFrom-split [] fs before after takes = (before, refl, takes)
TakesFrom-split (output piece ∷ es) fs before after takes = TakesFrom-split es fs before after takes
TakesFrom-split (input byte ∷ es) fs [] after takes = absurd takes
TakesFrom-split (input byte ∷ es) fs (x ∷ xs) after takes =
    let rest = TakesFrom-split es fs xs after takes.1 in
    (rest.0, (takes.0, rest.1), rest.2)
TakesFrom-split (input_end ∷ es) fs [] after takes = TakesFrom-split es fs [] after takes
TakesFrom-split (input_end ∷ es) fs (x ∷ xs) after takes = absurd takes

pub output_of-append : (es fs : List Event) → output_of (es ++ fs) ≡ output_of es ++ output_of fs
output_of-append [] fs = refl
output_of-append (output piece ∷ es) fs = ap (λ rest. piece ++ rest) (output_of-append es fs) ∙ sym (append_assoc piece (output_of es) (output_of fs))
output_of-append (input byte ∷ es) fs = output_of-append es fs
output_of-append (input_end ∷ es) fs = output_of-append es fs

pub input_of-append : (es fs : List Event) → input_of (es ++ fs) ≡ input_of es ++ input_of fs
input_of-append [] fs = refl
input_of-append (output piece ∷ es) fs = input_of-append es fs
input_of-append (input byte ∷ es) fs = ap (λ rest. byte ∷ rest) (input_of-append es fs)
input_of-append (input_end ∷ es) fs = input_of-append es fs

-- what some events took, and then others, are bytes
pub TakesBytes-append : (es fs : List Event) → TakesBytes es → TakesBytes fs → TakesBytes (es ++ fs)
TakesBytes-append es fs first second = rw (input_of-append es fs) (All-append (λ byte. byte < 256) (input_of es) (input_of fs) first second)

-- ---- the end of the input

-- a source that may have met its end no later
once-from : (fs : List Event) (before mid after : Bool) → (before ≡ true → mid ≡ true) → EndsOnce fs mid after → EndsOnce fs before after
once-from [] before mid after stays once = λ e. once (stays e)
once-from (output piece ∷ fs) before mid after stays once = once-from fs before mid after stays once
once-from (input byte ∷ fs) true mid after stays once = absurd (true≢false (sym (stays refl) ∙ once.0))
once-from (input byte ∷ fs) false mid after stays once = (refl, once.1)
once-from (input_end ∷ fs) before mid after stays once = once

pub once-join : (es fs : List Event) (before mid after : Bool) → EndsOnce es before mid → EndsOnce fs mid after → EndsOnce (es ++ fs) before after
once-join [] fs before mid after first second = once-from fs before mid after first second
once-join (output piece ∷ es) fs before mid after first second = once-join es fs before mid after first second
once-join (input byte ∷ es) fs before mid after first second = (first.0, once-join es fs false mid after first.1 second)
once-join (input_end ∷ es) fs before mid after first second = once-join es fs true mid after first second

-- some input fits events that end once: what they took, with nothing behind it
no-bytes : (es : List Event) (after : Bool) → EndsOnce es true after → input_of es ≡ []
no-bytes [] after once = refl
no-bytes (output piece ∷ es) after once = no-bytes es after once
no-bytes (input byte ∷ es) after once = absurd (true≢false once.0)
no-bytes (input_end ∷ es) after once = no-bytes es after once

pub some-input : (es : List Event) (before after : Bool) → EndsOnce es before after → TakesFrom es (input_of es) []
some-input [] before after once = refl
some-input (output piece ∷ es) before after once = some-input es before after once
some-input (input byte ∷ es) before after once = (refl, some-input es false after once.1)
some-input (input_end ∷ es) before after once =
    let none = no-bytes es after once in
    subst (λ (xs : List ℕ). TakesFrom (input_end ∷ es) xs []) (sym none) (subst (λ (xs : List ℕ). TakesFrom es xs []) none (some-input es true after once))
