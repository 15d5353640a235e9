-- Which row of a state fits a value: the first one whose parts are all answered as they ask.
use Rattle.std.proofs.Common.{◌≡◌, ℕ, Bool, true, false, ◌&&◌, nat_eq, Option, None, Some, option_map, List, [], ◌∷◌, refl, sym, ap, ◌∙◌, subst}
use Rattle.std.specs.Prelude.{if◌then◌else◌, slice_get}
use lib.Pointwise.{pointwise, bytes_decides}
use Rattle.kk_source.specs.State.{Value, Store}
use Rattle.kk_core.specs.declared.decisions.Answer.{Answer}
use Rattle.kk_core.specs.Decisions.{found_at}
use Rattle.kk_match.specs.Parts.{Part, IsKind}
use Rattle.kk_match.specs.Graphs.{StateTree, agrees, left_after, kept_line, after, first_of, test_of}

-- a value is as each part asks
abbrev pub fits : Store → Value → List Part → Bool
fits store v [] = true
fits store v (q ∷ qs) = agrees (found_at (slice_get store) q.at v) q.asked && fits store v qs

-- the first row that fits
abbrev pub first_fit : Store → Value → StateTree → Option ℕ
first_fit store v [] = None
first_fit store v (line ∷ lines) = if fits store v line.left then Some line.row else first_fit store v lines

-- what a part asks for is there
pub record IsFound (types : List ℕ) (store : Store) (v : Value) (q : Part) : Type 0 where
  pub found : Answer
  pub there : found_at (slice_get store) q.at v ≡ Some found
  pub kind : IsKind types q.asked found

-- the first part can be looked at, and each later one where those before it are answered as they ask
abbrev pub IsReady : List ℕ → Store → Value → List Part → Type 0
IsReady types store v [] = Unit {0}
IsReady types store v (q ∷ qs) = IsFound types store v q × (agrees (found_at (slice_get store) q.at v) q.asked ≡ true → IsReady types store v qs)

abbrev pub AreReady : List ℕ → Store → Value → StateTree → Type 0
AreReady types store v [] = Unit {0}
AreReady types store v (line ∷ lines) = IsReady types store v line.left × AreReady types store v lines

-- what a state tests is there
pub test_ready : (types : List ℕ) (store : Store) (v : Value) (state : StateTree) (q : Part) → AreReady types store v state → test_of state ≡ Some q → IsFound types store v q
test_ready types store v [] q ready is = cc
test_ready types store v (line ∷ lines) q ready is = by line.left ready.0 is
  where
    by : (left : List Part) → IsReady types store v left → first_of left ≡ Some q → IsFound types store v q
    by [] ready is = cc
    by (p ∷ ps) ready is = let same : p ≡ q = cc in subst (IsFound types store v) same ready.0

-- ---- what is left once a position's answer is known

abbrev fits_kept : Store → Value → Option (List Part) → Bool
fits_kept store v None = false
fits_kept store v (Some left) = fits store v left

abbrev IsReadyKept : List ℕ → Store → Value → Option (List Part) → Type 0
IsReadyKept types store v None = Unit {0}
IsReadyKept types store v (Some left) = IsReady types store v left

and_false : (b : Bool) → (b && false) ≡ false
and_false true = refl
and_false false = refl

left_fits : (store : Store) (v : Value) (at : List ℕ) (found : Answer) (qs : List Part) → found_at (slice_get store) at v ≡ Some found
    → fits_kept store v (left_after at (Some found) qs) ≡ fits store v qs
left_fits store v at found [] is = refl
left_fits store v at found (q ∷ qs) is = by (pointwise nat_eq q.at at) refl (left_fits store v at found qs is)
  where
    put : (left : Option (List Part)) → fits_kept store v left ≡ fits store v qs → fits_kept store v (option_map (λ rest. q ∷ rest) left) ≡ fits store v (q ∷ qs)
    put None rest = sym (and_false (agrees (found_at (slice_get store) q.at v) q.asked)) ∙ ap (λ f. agrees (found_at (slice_get store) q.at v) q.asked && f) rest
    put (Some left) rest = ap (λ f. agrees (found_at (slice_get store) q.at v) q.asked && f) rest

    agreed : (b : Bool) → fits_kept store v (left_after at (Some found) qs) ≡ fits store v qs
        → fits_kept store v (if b then left_after at (Some found) qs else None) ≡ (b && fits store v qs)
    agreed true rest = rest
    agreed false rest = refl

    by : (here : Bool) → pointwise nat_eq q.at at ≡ here → fits_kept store v (left_after at (Some found) qs) ≡ fits store v qs
        → fits_kept store v (if here then (if agrees (Some found) q.asked then left_after at (Some found) qs else None) else option_map (λ rest. q ∷ rest) (left_after at (Some found) qs))
        ≡ fits store v (q ∷ qs)
    by true here rest =
        let told : found_at (slice_get store) q.at v ≡ Some found = ap (λ a. found_at (slice_get store) a v) ((bytes_decides q.at at).0 here) ∙ is in
        agreed (agrees (Some found) q.asked) rest ∙ ap (λ o. agrees o q.asked && fits store v qs) (sym told)
    by false here rest = put (left_after at (Some found) qs) rest

kept_fits : (store : Store) (v : Value) (row : ℕ) (left : Option (List Part)) (rest : StateTree)
    → first_fit store v (kept_line row left rest) ≡ (if fits_kept store v left then Some row else first_fit store v rest)
kept_fits store v row None rest = refl
kept_fits store v row (Some left) rest = refl

-- the first row that fits stays
pub after_fits : (store : Store) (v : Value) (at : List ℕ) (found : Answer) (state : StateTree) → found_at (slice_get store) at v ≡ Some found
    → first_fit store v (after at (Some found) state) ≡ first_fit store v state
after_fits store v at found [] is = refl
after_fits store v at found (line ∷ lines) is =
    kept_fits store v line.row (left_after at (Some found) line.left) (after at (Some found) lines)
    ∙ (ap (λ (b : Bool). if b then Some line.row else first_fit store v (after at (Some found) lines)) (left_fits store v at found line.left is)
    ∙ ap (λ (f : Option ℕ). if fits store v line.left then Some line.row else f) (after_fits store v at found lines is))

left_ready : (types : List ℕ) (store : Store) (v : Value) (at : List ℕ) (found : Answer) (qs : List Part) → found_at (slice_get store) at v ≡ Some found
    → IsReady types store v qs → IsReadyKept types store v (left_after at (Some found) qs)
left_ready types store v at found [] is ready = tt
left_ready types store v at found (q ∷ qs) is ready = by (pointwise nat_eq q.at at) refl (λ rest. left_ready types store v at found qs is rest)
  where
    put : (left : Option (List Part)) → (IsReady types store v qs → IsReadyKept types store v left) → IsReadyKept types store v (option_map (λ rest. q ∷ rest) left)
    put None rest = tt
    put (Some left) rest = (ready.0, λ agreed. rest (ready.1 agreed))

    agreed : (b : Bool) → agrees (Some found) q.asked ≡ b → found_at (slice_get store) q.at v ≡ Some found → (IsReady types store v qs → IsReadyKept types store v (left_after at (Some found) qs))
        → IsReadyKept types store v (if b then left_after at (Some found) qs else None)
    agreed true same told rest = rest (ready.1 (ap (λ o. agrees o q.asked) told ∙ same))
    agreed false same told rest = tt

    by : (here : Bool) → pointwise nat_eq q.at at ≡ here → (IsReady types store v qs → IsReadyKept types store v (left_after at (Some found) qs))
        → IsReadyKept types store v (if here then (if agrees (Some found) q.asked then left_after at (Some found) qs else None) else option_map (λ rest. q ∷ rest) (left_after at (Some found) qs))
    by true here rest = agreed (agrees (Some found) q.asked) refl (ap (λ a. found_at (slice_get store) a v) ((bytes_decides q.at at).0 here) ∙ is) rest
    by false here rest = put (left_after at (Some found) qs) rest

kept_ready : (types : List ℕ) (store : Store) (v : Value) (row : ℕ) (left : Option (List Part)) (rest : StateTree) → IsReadyKept types store v left → AreReady types store v rest
    → AreReady types store v (kept_line row left rest)
kept_ready types store v row None rest here behind = behind
kept_ready types store v row (Some left) rest here behind = (here, behind)

-- what is left is ready
pub after_ready : (types : List ℕ) (store : Store) (v : Value) (at : List ℕ) (found : Answer) (state : StateTree) → found_at (slice_get store) at v ≡ Some found
    → AreReady types store v state → AreReady types store v (after at (Some found) state)
after_ready types store v at found [] is ready = tt
after_ready types store v at found (line ∷ lines) is ready =
    kept_ready types store v line.row (left_after at (Some found) line.left) (after at (Some found) lines)
    (left_ready types store v at found line.left is ready.0) (after_ready types store v at found lines is ready.1)
