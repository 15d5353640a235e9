-- Comments, mark by mark.
use Rattle.std.proofs.Common.{◌≡◌, ◌↔◌, ℕ, zero, suc, ◌+◌, ◌-◌, ◌<◌, ◌≤◌, List, [], ◌∷◌, length, take, drop, true, false, refl, sym, ap, subst, subst₂, ◌∙◌, arith, zero-add, add-zero}
use Rattle.std.proofs.lemmas.List.{drop-drop, length-drop, take_rest}
use Rattle.kk_lexer.specs.Comments.{Closes, closed, opens, closes, other, begins_with_mark}
use Rattle.kk_lexer.specs.Fronts.{HasNoFront, IsLongest}
use Rattle.kk_lexer.proofs.FrontLemmas.{IsLongest-byte, IsLongest-same, HasNoFront-byte}

first_same : (a b : ℕ) (v w : List ℕ) → a ∷ v ≡ b ∷ w → a ≡ b
first_same a b v w e = cc

rest_same : (a b : ℕ) (v w : List ℕ) → a ∷ v ≡ b ∷ w → v ≡ w
rest_same a b v w e = cc

rests_same : (a b c d : ℕ) (v w : List ℕ) → a ∷ b ∷ v ≡ c ∷ d ∷ w → v ≡ w
rests_same a b c d v w e = rest_same _ _ _ _ (rest_same _ _ _ _ e)

apart : (v w : List ℕ) → 42 ∷ v ≡ 47 ∷ w → ⊥
apart v w e = omega (arith, first_same 42 47 v w e)

less : (n d : ℕ) → suc n ≡ suc d → n ≡ d
less n d e = omega arith

no_mark_at : (v w : List ℕ) → begins_with_mark v ≡ false → begins_with_mark w ≡ true → v ≡ w → ⊥
no_mark_at v w no_ yes_ is = let bad : false ≡ true = sym no_ ∙ (ap begins_with_mark is ∙ yes_) in cc

-- what a mark leaves to be closed
pub open_at : {m : ℕ} {v : List ℕ} → Closes m v → (d : ℕ) (w : List ℕ) → m ≡ suc d → v ≡ 47 ∷ 42 ∷ w → Closes (suc (suc d)) w
open_at closed d w e is = absurd (omega arith)
open_at (opens n bytes h) d w e is = subst₂ Closes (ap suc e) (rests_same _ _ _ _ _ _ is) h
open_at (closes n bytes h) d w e is = absurd (apart _ _ is)
open_at (other n b bytes no_mark h) d w e is = absurd (no_mark_at _ _ no_mark refl is)

pub close_at : {m : ℕ} {v : List ℕ} → Closes m v → (d : ℕ) (w : List ℕ) → m ≡ suc d → v ≡ 42 ∷ 47 ∷ w → Closes d w
close_at closed d w e is = absurd (omega arith)
close_at (opens n bytes h) d w e is = absurd (apart _ _ (sym is))
close_at (closes n bytes h) d w e is = subst₂ Closes (less n d e) (rests_same _ _ _ _ _ _ is) h
close_at (other n b bytes no_mark h) d w e is = absurd (no_mark_at _ _ no_mark refl is)

pub other_at : {m : ℕ} {v : List ℕ} → Closes m v → (d b : ℕ) (w : List ℕ) → m ≡ suc d → v ≡ b ∷ w → begins_with_mark v ≡ false → Closes (suc d) w
other_at closed d b w e is no_mark = cc
other_at (opens n bytes h) d b w e is no_mark = cc
other_at (closes n bytes h) d b w e is no_mark = cc
other_at (other n c bytes no_mark' h) d b w e is no_mark =
    let n_is : suc n ≡ suc d = cc in
    let w_is : bytes ≡ w = cc in
    subst₂ Closes n_is w_is h

nothing_at : {m : ℕ} {v : List ℕ} → Closes m v → (d : ℕ) → m ≡ suc d → v ≡ [] → ⊥
nothing_at closed d e is = cc
nothing_at (opens n bytes h) d e is = cc
nothing_at (closes n bytes h) d e is = cc
nothing_at (other n c bytes no_mark h) d e is = cc

pub closes_nothing : {d : ℕ} → Closes (suc d) [] → ⊥
closes_nothing h = nothing_at h _ refl refl

pub one_at : {m : ℕ} {v : List ℕ} → Closes m v → (d b : ℕ) → m ≡ suc d → v ≡ b ∷ [] → ⊥
one_at closed d b e is = cc
one_at (opens n bytes h) d b e is = cc
one_at (closes n bytes h) d b e is = cc
one_at (other n c bytes no_mark h) d b e is = let nothing : bytes ≡ [] = cc in nothing_at h n refl nothing

pub closed_at : {m : ℕ} {v : List ℕ} → Closes m v → m ≡ 0 → v ≡ []
closed_at closed e = refl
closed_at (opens n bytes h) e = cc
closed_at (closes n bytes h) e = cc
closed_at (other n c bytes no_mark h) e = cc

mark_front : (b : ℕ) (text : List ℕ) (m : ℕ) → begins_with_mark (b ∷ text) ≡ false → begins_with_mark (b ∷ take m text) ≡ false
mark_front b text zero h = refl
mark_front b [] (suc m) h = refl
mark_front b (c ∷ text) (suc m) h = h

-- behind the first n bytes, so many comments are open
pub record Nests (text : List ℕ) (n depth : ℕ) : Type 0 where
  pub found : (k : ℕ) → IsLongest (Closes depth) (drop n text) k → IsLongest (Closes 1) text (n + k)
  pub none : HasNoFront (Closes depth) (drop n text) → HasNoFront (Closes 1) text

pub Nests-start : (text : List ℕ) → Nests text 0 1
Nests-start text = record { found = λ k h. rw zero-add h; none = λ h. h }

-- two bytes of a mark
two_longest : (P Q : List ℕ → Type 0) (a b : ℕ) (text : List ℕ) (k : ℕ) → ((w : List ℕ) → P (a ∷ b ∷ w) ↔ Q w) → IsLongest Q text k → IsLongest P (a ∷ b ∷ text) (suc (suc k))
two_longest P Q a b text k same found = IsLongest-byte (IsLongest-byte (IsLongest-same (λ m fits. ((same (take m text)).1, (same (take m text)).0)) found))

two_none : (P Q : List ℕ → Type 0) (a b : ℕ) (text : List ℕ) → ((w : List ℕ) → P (a ∷ b ∷ w) → Q w) → (P [] → ⊥) → (P (a ∷ []) → ⊥) → HasNoFront Q text → HasNoFront P (a ∷ b ∷ text)
two_none P Q a b text same nothing one found = HasNoFront-byte P a (b ∷ text) nothing (HasNoFront-byte (λ w. P (a ∷ w)) b text one (λ m fits h. found m fits (same _ h)))

two_on : (text : List ℕ) (n d e a b : ℕ) (rest : List ℕ) → drop n text ≡ a ∷ b ∷ rest → ((w : List ℕ) → Closes (suc d) (a ∷ b ∷ w) ↔ Closes e w) → Nests text n (suc d) → Nests text (n + 2) e
two_on text n d e a b rest is same nests = record {
  found = λ k h.
      let here : IsLongest (Closes (suc d)) (drop n text) (suc (suc k)) = rw is (two_longest _ _ a b rest k same (subst (λ x. IsLongest (Closes e) x k) behind h)) in
      subst (IsLongest (Closes 1) text) (sum_ k) (nests.found _ here);
  none = λ h. nests.none (rw is (two_none (Closes (suc d)) (Closes e) a b rest (λ w. (same w).0) closes_nothing (λ x. one_at x d a refl refl) (subst (HasNoFront (Closes e)) behind h)));
}
  where
    behind : drop (n + 2) text ≡ rest
    behind = sym (drop-drop 2 n text) ∙ ap (drop 2) is

    sum_ : (k : ℕ) → n + suc (suc k) ≡ n + 2 + k
    sum_ k = omega arith

pub Nests-open : (text : List ℕ) (n d : ℕ) (rest : List ℕ) → drop n text ≡ 47 ∷ 42 ∷ rest → Nests text n (suc d) → Nests text (n + 2) (suc (suc d))
Nests-open text n d rest is nests = two_on text n d (suc (suc d)) 47 42 rest is (λ w. (λ h. open_at h d w refl refl, opens d w)) nests

pub Nests-close : (text : List ℕ) (n d : ℕ) (rest : List ℕ) → drop n text ≡ 42 ∷ 47 ∷ rest → Nests text n (suc d) → Nests text (n + 2) d
Nests-close text n d rest is nests = two_on text n d d 42 47 rest is (λ w. (λ h. close_at h d w refl refl, closes d w)) nests

-- another byte
other_same : (d b : ℕ) (text : List ℕ) (m : ℕ) → begins_with_mark (b ∷ text) ≡ false → Closes (suc d) (take m text) ↔ Closes (suc d) (b ∷ take m text)
other_same d b text m no_mark = let front_ = mark_front b text m no_mark in (λ h. other d b _ front_ h, λ h. other_at h d b _ refl refl front_)

pub Nests-other : (text : List ℕ) (n d b : ℕ) (rest : List ℕ) → drop n text ≡ b ∷ rest → begins_with_mark (drop n text) ≡ false → Nests text n (suc d) → Nests text (n + 1) (suc d)
Nests-other text n d b rest is no_mark nests = record {
  found = λ k h.
      let here : IsLongest (Closes (suc d)) (b ∷ rest) (suc k) = IsLongest-byte (IsLongest-same (λ m fits. other_same d b rest m no_mark') (subst (λ x. IsLongest (Closes (suc d)) x k) behind h)) in
      subst (IsLongest (Closes 1) text) (sum_ k) (nests.found _ (rw is here));
  none = λ h. nests.none (rw is (HasNoFront-byte (Closes (suc d)) b rest closes_nothing (λ m fits x. h m (rw behind fits) (rw behind ((other_same d b rest m no_mark').1 x)))));
}
  where
    behind : drop (n + 1) text ≡ rest
    behind = sym (drop-drop 1 n text) ∙ ap (drop 1) is

    no_mark' : begins_with_mark (b ∷ rest) ≡ false
    no_mark' = rw is at no_mark

    sum_ : (k : ℕ) → n + suc k ≡ n + 1 + k
    sum_ k = omega arith

-- the text ends, or all is closed
pub Nests-end : (text : List ℕ) (n d : ℕ) → drop n text ≡ [] → Nests text n (suc d) → HasNoFront (Closes 1) text
Nests-end text n d is nests = nests.none (rw is (λ m fits h. none m fits h))
  where
    none : (m : ℕ) → m ≤ 0 → Closes (suc d) (take m []) → ⊥
    none zero fits h = closes_nothing h
    none (suc m) fits h = omega arith

pub Nests-closed : (text : List ℕ) (n : ℕ) → Nests text n 0 → IsLongest (Closes 1) text n
Nests-closed text n nests =
    let here : IsLongest (Closes 1) text (n + 0) = nests.found 0 (record { fits = omega arith; member = closed; longest = λ m fits h. go (drop n text) m fits h }) in
    rw add-zero at here
  where
    go : (t : List ℕ) (m : ℕ) → m ≤ length t → Closes 0 (take m t) → m ≤ 0
    go t zero fits h = omega arith
    go [] (suc m) fits h = fits
    go (b ∷ t) (suc m) fits h = let nothing = closed_at h refl in cc

-- one byte is no mark
pub lone : (text : List ℕ) → 1 ≤ length text → length text < 2 → (b : ℕ) × (rest : List ℕ) × (text ≡ b ∷ rest) × (begins_with_mark text ≡ false)
lone [] some short = absurd (omega arith)
lone (b ∷ []) some short = (b, [], refl, refl)
lone (b ∷ c ∷ text) some short = absurd (omega arith)

-- the loop; the bytes from n on are written as the code reads them
module _ (text : List ℕ) (n depth : ℕ) (in_range : n ≤ length text) (positive : 0 < depth) (nests : Nests text n depth) where
  two_more : (a b : ℕ) (rest : List ℕ) → take (length text - n) (drop n text) ≡ a ∷ b ∷ rest → n + 2 ≤ length text
  two_more a b rest is = let sizes : length text - n ≡ length (a ∷ b ∷ rest) = sym (length-drop n text) ∙ ap length (sym (take_rest text n) ∙ is) in omega arith

  one_more : (b : ℕ) (rest : List ℕ) → take (length text - n) (drop n text) ≡ b ∷ rest → n + 1 ≤ length text
  one_more b rest is = let sizes : length text - n ≡ length (b ∷ rest) = sym (length-drop n text) ∙ ap length (sym (take_rest text n) ∙ is) in omega arith

  depth_is : depth ≡ suc (depth - 1)
  depth_is = omega arith

  pub open_step : (rest : List ℕ) × (take (length text - n) (drop n text) ≡ 47 ∷ 42 ∷ rest) → (n + 2 ≤ length text) × Nests text (n + 2) (depth + 1)
  open_step (rest, is) =
      let more : suc (suc (depth - 1)) ≡ depth + 1 = omega arith in
      (two_more 47 42 rest is, subst (Nests text (n + 2)) more (Nests-open text n (depth - 1) rest (sym (take_rest text n) ∙ is) (subst (Nests text n) depth_is nests)))

  pub close_step : (rest : List ℕ) × (take (length text - n) (drop n text) ≡ 42 ∷ 47 ∷ rest) → (n + 2 ≤ length text) × Nests text (n + 2) (depth - 1)
  close_step (rest, is) = (two_more 42 47 rest is, Nests-close text n (depth - 1) rest (sym (take_rest text n) ∙ is) (subst (Nests text n) depth_is nests))

  pub other_step : (b : ℕ) × (rest : List ℕ) × (take (length text - n) (drop n text) ≡ b ∷ rest) × (begins_with_mark (take (length text - n) (drop n text)) ≡ false)
      → (n + 1 ≤ length text) × Nests text (n + 1) depth
  other_step (b, rest, is, no_mark) =
      (one_more b rest is, subst (Nests text (n + 1)) (sym depth_is) (Nests-other text n (depth - 1) b rest (sym (take_rest text n) ∙ is) (rw take_rest at no_mark) (subst (Nests text n) depth_is nests)))

  pub end_step : take (length text - n) (drop n text) ≡ [] → HasNoFront (Closes 1) text
  end_step is = Nests-end text n (depth - 1) (sym (take_rest text n) ∙ is) (subst (Nests text n) depth_is nests)
