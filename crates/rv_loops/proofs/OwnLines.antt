-- Each line of the code that is an instruction, but no branch, has a line of its own in the rotated code.
use Rattle.std.proofs.Common.{◌≡◌, ◌≢◌, ◌<◌, ℕ, zero, suc, ◌+◌, List, [], ◌∷◌, ◌++◌, Bool, true, false, cond}
use Rattle.std.proofs.Common.{length, drop}
use Rattle.std.proofs.Common.{refl, sym, ap, ◌∙◌, arith}
use Rattle.std.proofs.Math.Seq.{drop-append_seam, drop-append-add}
use Rattle.std.proofs.lemmas.Bool.{false≢true}
use Rattle.std.proofs.lemmas.List.{append_assoc, length-append}
use Rattle.rv_isa.specs.PlacedCode.{PlacedLine}
use Rattle.rv_loops.specs.Rotation.{Loop, is_straight, AreStraight, is_call_of, test, mark, goes_on, leaves, rotated_line}
use Rattle.rv_loops.specs.Rotation.{rotated_lines}
use Rattle.rv_loops.specs.RotatedLines.{head_length, width, own_in, spread, index_in}

-- the lines before the test are the straight ones with which the code begins
pub head_length_is : (loop : Loop) (before : List PlacedLine) → AreStraight before
    → head_length (before ++ (test loop ∷ loop.behind)) ≡ length before
head_length_is loop [] straight = refl
head_length_is loop (line ∷ before) straight =
    ap (λ (b : Bool). cond b (suc (head_length (before ++ (test loop ∷ loop.behind)))) 0) straight.0
    ∙ ap suc (head_length_is loop before straight.1)

module _ (loop : Loop) where
  -- the line of its own, and those that come with it
  abbrev pub own_lines : PlacedLine → List PlacedLine
  own_lines line = cond (is_call_of loop.function line) (goes_on loop ∷ leaves loop ∷ []) (line ∷ [])

  width_by : (call : Bool) (line : PlacedLine)
      → length (cond call (loop.before ++ (goes_on loop ∷ leaves loop ∷ [])) (line ∷ [])) ≡ cond call (length loop.before + 2) 1
  width_by true line = length-append loop.before (goes_on loop ∷ leaves loop ∷ [])
  width_by false line = refl

  width_is : (line : PlacedLine) → length (rotated_line loop line) ≡ width loop.function (length loop.before) line
  width_is line = width_by (is_call_of loop.function line) line

  own_by : (call : Bool) (line : PlacedLine) (rest : List PlacedLine)
      → drop (cond call (length loop.before) 0) (cond call (loop.before ++ (goes_on loop ∷ leaves loop ∷ [])) (line ∷ []) ++ rest)
      ≡ cond call (goes_on loop ∷ leaves loop ∷ []) (line ∷ []) ++ rest
  own_by true line rest =
      ap (drop (length loop.before)) (append_assoc loop.before (goes_on loop ∷ leaves loop ∷ []) rest)
      ∙ drop-append_seam loop.before ((goes_on loop ∷ leaves loop ∷ []) ++ rest)
  own_by false line rest = refl

  -- what stands at the index of a line behind the test
  pub spread_at : (k : ℕ) (lines : List PlacedLine) (line : PlacedLine) (rest : List PlacedLine) → drop k lines ≡ line ∷ rest
      → drop (spread loop.function (length loop.before) k lines)
      (rotated_lines loop lines) ≡ own_lines line ++ rotated_lines loop rest
  spread_at zero [] line rest is = cc is
  spread_at (suc k) [] line rest is = cc is
  spread_at zero (first ∷ lines) line rest is =
      let same : first ≡ line = cc is in
      let others : lines ≡ rest = cc is in
      own_by (is_call_of loop.function first) first (rotated_lines loop lines)
      ∙ ap (λ (l : PlacedLine). own_lines l ++ rotated_lines loop lines) same
      ∙ ap (λ (ls : List PlacedLine). own_lines line ++ rotated_lines loop ls) others
  spread_at (suc k) (first ∷ lines) line rest is =
      let deep : ℕ = spread loop.function (length loop.before) k lines in
      ap (λ (n : ℕ). drop (n + deep) (rotated_line loop first ++ rotated_lines loop lines)) (sym (width_is first))
      ∙ drop-append-add (rotated_line loop first) (rotated_lines loop lines) deep ∙ spread_at k lines line rest is

  -- and at that of any line, but of the test and of those before it
  pub index_at : (before : List PlacedLine) (k : ℕ) (line : PlacedLine) (rest : List PlacedLine) → AreStraight before
      → drop k (before ++ (test loop ∷ loop.behind)) ≡ line ∷ rest → is_straight line ≡ false → line ≢ test loop
      → drop (index_in loop.function (length loop.before) k (before ++ (test loop ∷ loop.behind)))
      (before ++ (test loop ∷ mark loop ∷ rotated_lines loop loop.behind)) ≡ own_lines line ++ rotated_lines loop rest
  index_at [] zero line rest straight is turned other = absurd (other (cc is))
  index_at [] (suc k) line rest straight is turned other =
      drop-append-add (test loop ∷ mark loop ∷ []) (rotated_lines loop loop.behind) (spread loop.function
      (length loop.before) k loop.behind)
      ∙ spread_at k loop.behind line rest is
  index_at (first ∷ before) zero line rest straight is turned other =
      let same : first ≡ line = cc is in absurd (false≢true (sym turned ∙ ap is_straight (sym same) ∙ straight.0))
  index_at (first ∷ before) (suc k) line rest straight is turned other =
      let deep : ℕ = index_in loop.function (length loop.before) k (before ++ (test loop ∷ loop.behind)) in
      ap (λ (b : Bool). drop (cond b (suc deep) (2 + spread loop.function (length loop.before) k (before ++
      (test loop ∷ loop.behind))))
      (first ∷ (before ++ (test loop ∷ mark loop ∷ rotated_lines loop loop.behind)))) straight.0
      ∙ index_at before k line rest straight.1 is turned other

-- ---- apart

own_less : (f before : ℕ) (line : PlacedLine) → own_in f before line < width f before line
own_less f before line = by (is_call_of f line)
  where
    by : (call : Bool) → cond call before 0 < cond call (before + 2) 1
    by true = omega arith
    by false = omega arith

-- a later line has a later one
pub spread_apart : (f before j k : ℕ) (lines : List PlacedLine) (line : PlacedLine) (rest : List PlacedLine)
    → drop k lines ≡ line ∷ rest → j < k
    → spread f before j lines < spread f before k lines
spread_apart f before j zero lines line rest is less = absurd (omega (arith, less))
spread_apart f before j (suc k) [] line rest is less = cc is
spread_apart f before zero (suc k) (first ∷ lines) line rest is less = omega (arith, own_less f before first)
spread_apart f before (suc j) (suc k) (first ∷ lines) line rest is less =
    omega (arith, spread_apart f before j k lines line rest is (omega (arith, less)))

pub index_apart : (f before j k : ℕ) (lines : List PlacedLine) (line : PlacedLine) (rest : List PlacedLine)
    → drop k lines ≡ line ∷ rest → j < k
    → index_in f before j lines < index_in f before k lines
index_apart f before j zero lines line rest is less = absurd (omega (arith, less))
index_apart f before j (suc k) [] line rest is less = cc is
index_apart f before zero (suc k) (first ∷ lines) line rest is less = by (is_straight first)
  where
    by : (straight : Bool) → 0 < cond straight (suc (index_in f before k lines)) (2 + spread f before k lines)
    by true = omega arith
    by false = omega arith
index_apart f before (suc j) (suc k) (first ∷ lines) line rest is less =
    by (is_straight first) (index_apart f before j k lines line rest is (omega (arith, less)))
    (spread_apart f before j k lines line rest is (omega (arith, less)))
  where
    by : (straight : Bool) → index_in f before j lines < index_in f before k lines
        → spread f before j lines < spread f before k lines
        → cond straight (suc (index_in f before j lines)) (2 + spread f before j lines)
        < cond straight (suc (index_in f before k lines)) (2 + spread f before k lines)
    by true first rest = omega (arith, first)
    by false first rest = omega (arith, rest)
