-- The longest front of a text in a set of words, found byte by byte.
use Rattle.std.proofs.Common.{◌≡◌, ◌↔◌, ℕ, zero, suc, ◌+◌, ◌≤◌, ◌<◌, List, [], ◌∷◌, length, take, drop, get_or, Bool, true, false, refl, subst, arith, add-zero, zero-add, one-add}
use Rattle.std.specs.Prelude.{cond, ◌&&◌, ◌||◌}
use Rattle.std.specs.List.{list_all, prefix_len}
use Rattle.std.proofs.lemmas.Bool.{and_parts}
use Rattle.std.proofs.lemmas.List.{drop_more}
use Rattle.kk_lexer.specs.Fronts.{begins_with, HasNoFront, IsLongest}

-- two longest fronts have one length
pub IsLongest-unique : {P : List ℕ → Type 0} {text : List ℕ} {n m : ℕ} → IsLongest P text n → IsLongest P text m → n ≡ m
IsLongest-unique {n} {m} a b =
    let low : n ≤ m = b.longest n a.fits a.member in
    let high : m ≤ n = a.longest m b.fits b.member in
    omega arith

-- the same fronts are in two sets
pub IsLongest-same : {P Q : List ℕ → Type 0} {text : List ℕ} {n : ℕ} → ((m : ℕ) → m ≤ length text → P (take m text) ↔ Q (take m text)) → IsLongest P text n → IsLongest Q text n
IsLongest-same {n} same found = record {
  fits = found.fits;
  member = (same n found.fits).0 found.member;
  longest = λ m fits q. found.longest m fits ((same m fits).1 q);
}

-- a byte more in front
pub IsLongest-byte : {P : List ℕ → Type 0} {b : ℕ} {text : List ℕ} {n : ℕ} → IsLongest (λ w. P (b ∷ w)) text n → IsLongest P (b ∷ text) (suc n)
IsLongest-byte {P} {b} {text} {n} found = record { fits = omega (arith, found.fits); member = found.member; longest = go }
  where
    go : (m : ℕ) → m ≤ suc (length text) → P (take m (b ∷ text)) → m ≤ suc n
    go zero fits p = omega arith
    go (suc m) fits p = omega (arith, found.longest m (omega arith) p)

pub HasNoFront-byte : (P : List ℕ → Type 0) (b : ℕ) (text : List ℕ) → (P [] → ⊥) → HasNoFront (λ w. P (b ∷ w)) text → HasNoFront P (b ∷ text)
HasNoFront-byte P b text none found = go
  where
    go : (m : ℕ) → m ≤ suc (length text) → P (take m (b ∷ text)) → ⊥
    go zero fits p = none p
    go (suc m) fits p = found m (omega arith) p

-- the text ends, or goes on with a byte with which no word begins
pub IsLongest-end : {P : List ℕ → Type 0} → P [] → IsLongest P [] 0
IsLongest-end p = record { fits = omega arith; member = p; longest = λ m fits q. fits }

pub IsLongest-stop : {P : List ℕ → Type 0} {b : ℕ} {text : List ℕ} → P [] → ((m : ℕ) → P (b ∷ take m text) → ⊥) → IsLongest P (b ∷ text) 0
IsLongest-stop {P} {b} {text} p stop = record { fits = omega arith; member = p; longest = go }
  where
    go : (m : ℕ) → m ≤ suc (length text) → P (take m (b ∷ text)) → m ≤ 0
    go zero fits q = omega arith
    go (suc m) fits q = absurd (stop m q)

-- the bytes of a class from the front on
prefix_len_byte : (p : ℕ → Bool) (b : ℕ) (text : List ℕ) (v : Bool) → p b ≡ v → IsLongest (λ w. list_all p w ≡ true) text (prefix_len p text)
    → IsLongest (λ w. list_all p w ≡ true) (b ∷ text) (cond v (1 + prefix_len p text) 0)
prefix_len_byte p b text true e rest = rw one-add (IsLongest-byte (IsLongest-same (λ m fits. (λ h. rw e h, λ h. (and_parts _ _ h).1)) rest))
prefix_len_byte p b text false e rest = IsLongest-stop refl (λ m h. let yes : p b ≡ true = (and_parts (p b) (list_all p (take m text)) h).0 in cc)

pub prefix_len-longest : (p : ℕ → Bool) (text : List ℕ) → IsLongest (λ w. list_all p w ≡ true) text (prefix_len p text)
prefix_len-longest p [] = IsLongest-end refl
prefix_len-longest p (b ∷ text) = prefix_len_byte p b text (p b) refl (prefix_len-longest p text)

-- Behind the first n bytes of the text, P is what is left to look for to find P₀ from its beginning.
pub record Scans (P₀ : List ℕ → Type 0) (text : List ℕ) (n : ℕ) (P : List ℕ → Type 0) : Type 0 where
  pub found : (k : ℕ) → IsLongest P (drop n text) k → IsLongest P₀ text (n + k)

pub Scans-start : (P : List ℕ → Type 0) (text : List ℕ) → Scans P text 0 P
Scans-start P text = record { found = λ k found. rw zero-add found }

-- one byte on
pub Scans-byte : {P₀ P Q : List ℕ → Type 0} {text : List ℕ} {n : ℕ} → n < length text
    → ((k : ℕ) → IsLongest Q (drop (n + 1) text) k → IsLongest P (get_or text n 0 ∷ drop (n + 1) text) (suc k))
    → Scans P₀ text n P → Scans P₀ text (n + 1) Q
Scans-byte {P₀} {P} {Q} {text} {n} inside step scans = record {
  found = λ k found.
      let here : IsLongest P (drop n text) (suc k) = rw (drop_more text n 0 inside) (step k found) in
      let e : n + suc k ≡ n + 1 + k = omega arith in
      subst (IsLongest P₀ text) e (scans.found (suc k) here);
}

-- what begins with bytes of a class begins so in each front that is not empty
pub begins_with-take : (p : ℕ → Bool) (text : List ℕ) (n : ℕ) → 0 < n → begins_with p (take n text) ≡ begins_with p text
begins_with-take p text zero some = absurd (omega arith)
begins_with-take p [] (suc n) some = refl
begins_with-take p (b ∷ text) (suc n) some = refl

pub begins_with-front : (p : ℕ → Bool) (text : List ℕ) (n : ℕ) → begins_with p (take n text) ≡ true → begins_with p text ≡ true
begins_with-front p text zero h = cc
begins_with-front p [] (suc n) h = h
begins_with-front p (b ∷ text) (suc n) h = h

-- a test of a byte that looks at the bytes behind it too
pub link_kept : (x y u v : Bool) → (u ≡ true → v ≡ true) → (x || (y && u)) ≡ true → (x || (y && v)) ≡ true
link_kept true y u v kept h = refl
link_kept false true u v kept h = kept h
link_kept false false u v kept h = h

pub link_lost : (x y u v : Bool) → (v ≡ true → u ≡ true) → (x || (y && u)) ≡ false → (x || (y && v)) ≡ false
link_lost true y u v kept h = h
link_lost false false u v kept h = refl
link_lost false true u true kept h = let u_is = kept refl in cc
link_lost false true u false kept h = refl

-- at the end of a scan
pub Scans-found : {P₀ P : List ℕ → Type 0} {text : List ℕ} {n : ℕ} → Scans P₀ text n P → IsLongest P (drop n text) 0 → IsLongest P₀ text n
Scans-found {P₀} {P} {text} {n} scans found = let here : IsLongest P₀ text (n + 0) = scans.found 0 found in rw add-zero at here
