-- Of parts that share no address, each holds its own bytes in the memory, also after bytes were put in one of them.
use Rattle.std.proofs.Common.{◌≡◌, ◌≤◌, ◌<◌, ℕ, zero, suc, ◌+◌, ◌-◌, List, [], ◌∷◌, ◌++◌, map, length, get_or, set, take, drop, slice_index, slice_range, Bool, true, false, if◌then◌else◌, inl, inr, refl, sym, ap, subst, ◌∙◌, arith}
use Rattle.std.proofs.lemmas.Bool.Decides.{nat_tests}
use Rattle.std.proofs.lemmas.Bool.{cases_lt, false≢true}
use Rattle.std.proofs.lemmas.List.Folds.{list_any_at}
use Rattle.kk_base.specs.Memory.{Part, covers, byte_loaded}
use Rattle.rv_isa.specs.Processor.{bare, lies_in_part}
use Rattle.rv_isa.specs.Bytes.{bytes_at, with_bytes}
use Rattle.rv_isa.proofs.Bytes.{with_bytes-inside, with_bytes-below, with_bytes-above}
use Rattle.std.proofs.lemmas.List.Edits.{length-between, get_or-between}
use Rattle.rv_sim.proofs.InstructionSteps.{lies_in_part-bare}
use Rattle.rv_sim.proofs.Puts.{index-put_below, index-put_inside, index-put_above}
use Rattle.rv_sim.specs.Areas.{AreApart}

-- an address of one of the parts holds that part's byte
pub byte_loaded-at : (parts : List Part) (i : ℕ) (d : Part) (x : ℕ) → AreApart parts → i < length parts → covers (get_or parts i d) x 1 ≡ true → byte_loaded parts x ≡ slice_index (get_or parts i d).bytes (x - (get_or parts i d).start)
byte_loaded-at [] i d x apart within covered = absurd (omega arith)
byte_loaded-at (p ∷ ps) zero d x apart within covered = rw covered refl
byte_loaded-at (p ∷ ps) (suc i) d x apart within covered =
    let rest = byte_loaded-at ps i d x apart.1 (omega arith) covered in
    let found : lies_in_part ps x 1 ≡ true = list_any_at (λ part. covers part x 1) ps i d (omega arith) covered in
    let head : (b : Bool) → covers p x 1 ≡ b → (if b then slice_index p.bytes (x - p.start) else byte_loaded ps x) ≡ slice_index (get_or ps i d).bytes (x - (get_or ps i d).start) =
    λ b. elim b as (λ b. covers p x 1 ≡ b → (if b then slice_index p.bytes (x - p.start) else byte_loaded ps x) ≡ slice_index (get_or ps i d).bytes (x - (get_or ps i d).start)) [
      | true ↦ λ e. absurd (false≢true (sym (apart.0 x e) ∙ found))
      | false ↦ λ e. rest
    ] in
    head (covers p x 1) refl

nested : (b : Bool) (n a r : ℕ) → (if b then n else r) ≡ (if b then n else (if b then a else r))
nested true n a r = refl
nested false n a r = refl

apart_choice : (h t : Bool) (n a l r : ℕ) → (h ≡ true → t ≡ false) → r ≡ (if t then n else l) → (if h then a else r) ≡ (if t then n else (if h then a else l))
apart_choice true true n a l r other is = absurd (false≢true (sym (other refl)))
apart_choice true false n a l r other is = refl
apart_choice false t n a l r other is = is

none_at : (ps : List Part) (i : ℕ) (d : Part) (x : ℕ) → i < length ps → lies_in_part ps x 1 ≡ false → covers (get_or ps i d) x 1 ≡ false
none_at ps i d x within none =
    let either : (b : Bool) → covers (get_or ps i d) x 1 ≡ b → covers (get_or ps i d) x 1 ≡ false =
    λ b. elim b as (λ b. covers (get_or ps i d) x 1 ≡ b → covers (get_or ps i d) x 1 ≡ false) [
      | true ↦ λ e. absurd (false≢true (sym none ∙ list_any_at (λ part. covers part x 1) ps i d within e))
      | false ↦ λ e. e
    ] in
    either (covers (get_or ps i d) x 1) refl

-- the bytes after another part was put in place of one, at the same addresses
pub byte_loaded-set : (parts : List Part) (i : ℕ) (d new : Part) (x : ℕ) → AreApart parts → i < length parts → bare new ≡ bare (get_or parts i d)
    → byte_loaded (set parts i new) x ≡ (if covers (get_or parts i d) x 1 then slice_index new.bytes (x - (get_or parts i d).start) else byte_loaded parts x)
byte_loaded-set [] i d new x apart within same = absurd (omega arith)
byte_loaded-set (p ∷ ps) zero d new x apart within same =
    let here : covers new x 1 ≡ covers p x 1 = ap (λ r. covers r x 1) same in
    let from : new.start ≡ p.start = ap (λ r. r.start) same in
    ap (λ b. if b then slice_index new.bytes (x - new.start) else byte_loaded ps x) here
    ∙ ap (λ a. if covers p x 1 then slice_index new.bytes (x - a) else byte_loaded ps x) from
    ∙ nested (covers p x 1) (slice_index new.bytes (x - p.start)) (slice_index p.bytes (x - p.start)) (byte_loaded ps x)
byte_loaded-set (p ∷ ps) (suc i) d new x apart within same =
    apart_choice (covers p x 1) (covers (get_or ps i d) x 1) _ _ _ _
    (λ e. none_at ps i d x (omega arith) (apart.0 x e))
    (byte_loaded-set ps i d new x apart.1 (omega arith) same)

covers-low : (p : Part) (at count : ℕ) → covers p at count ≡ true → 0 < count → p.start ≤ at
covers-low p at count covered some = grind (arith, nat_tests)

covers-high : (p : Part) (at count : ℕ) → covers p at count ≡ true → 0 < count → at + count ≤ p.start + p.size
covers-high p at count covered some = grind (arith, nat_tests)

covers-one : (p : Part) (x : ℕ) → p.start ≤ x → x < p.start + p.size → covers p x 1 ≡ true
covers-one p x low high = grind (arith, nat_tests)

pub bytes_at-list : (memory : ℕ → ℕ) (at : ℕ) (bytes : List ℕ) → ((k : ℕ) → k < length bytes → memory (at + k) ≡ slice_index bytes k) → bytes_at memory at (length bytes) ≡ bytes
unfolding bytes_at
bytes_at-list memory at [] each = refl
bytes_at-list memory at (b ∷ bytes) each =
    let here : at + 0 ≡ at = omega arith in
    let first : memory at ≡ b = rw here at (each 0 (omega arith)) in
    let rest : bytes_at memory (suc at) (length bytes) ≡ bytes =
    bytes_at-list memory (suc at) bytes (λ k h. let e : suc at + k ≡ at + suc k = omega arith in rw e (each (suc k) (omega arith))) in
    cc

-- the bytes that a part has at its addresses
pub bytes_at-part : (parts : List Part) (i : ℕ) (d : Part) (at count : ℕ) → AreApart parts → i < length parts → length (get_or parts i d).bytes ≡ (get_or parts i d).size
    → 0 < count → covers (get_or parts i d) at count ≡ true
    → bytes_at (byte_loaded parts) at count ≡ slice_range (get_or parts i d).bytes (at - (get_or parts i d).start) (at - (get_or parts i d).start + count)
bytes_at-part parts i d at count apart within full some covered =
    let p = get_or parts i d in
    let low = covers-low p at count covered some in
    let high = covers-high p at count covered some in
    let size : length (slice_range p.bytes (at - p.start) (at - p.start + count)) ≡ count =
    length-between p.bytes (at - p.start) (at - p.start + count) (omega arith) ∙ omega arith in
    ap (λ n. bytes_at (byte_loaded parts) at n) (sym size)
    ∙ bytes_at-list (byte_loaded parts) at (slice_range p.bytes (at - p.start) (at - p.start + count))
    (λ k h. byte_loaded-at parts i d (at + k) apart within (covers-one p (at + k) (omega arith) (omega arith))
    ∙ ap (λ n. slice_index p.bytes n) (omega arith)
    ∙ sym (get_or-between p.bytes (at - p.start) (at - p.start + count) k 0 (omega arith)))

pub bytes_at-this : (parts : List Part) (i : ℕ) (p : Part) (at count : ℕ) → AreApart parts → i < length parts → get_or parts i p ≡ p → length p.bytes ≡ p.size
    → 0 < count → covers p at count ≡ true → bytes_at (byte_loaded parts) at count ≡ slice_range p.bytes (at - p.start) (at - p.start + count)
bytes_at-this parts i p at count apart within is full some covered =
    rw is at (bytes_at-part parts i p at count apart within (rw is full) some (rw is covered))

module _ (parts : List Part) (i : ℕ) (d new : Part) (at : ℕ) (bytes : List ℕ) (apart : AreApart parts) (within : i < length parts)
    (full : length (get_or parts i d).bytes ≡ (get_or parts i d).size) (some : 0 < length bytes) (covered : covers (get_or parts i d) at (length bytes) ≡ true)
    (same : bare new ≡ bare (get_or parts i d))
    (put : new.bytes ≡ take (at - (get_or parts i d).start) (get_or parts i d).bytes ++ (bytes ++ drop (at - (get_or parts i d).start + length bytes) (get_or parts i d).bytes)) where
  put_here : (x : ℕ) → covers (get_or parts i d) x 1 ≡ true → slice_index new.bytes (x - (get_or parts i d).start) ≡ with_bytes at bytes (byte_loaded parts) x
  put_here x e =
      let p = get_or parts i d in
      let a = at - p.start in
      let k = x - p.start in
      let from = covers-low p at (length bytes) covered some in
      let to = covers-high p at (length bytes) covered some in
      let low = covers-low p x 1 e (omega arith) in
      let high = covers-high p x 1 e (omega arith) in
      let old : byte_loaded parts x ≡ slice_index p.bytes k = byte_loaded-at parts i d x apart within e in
      let in_new : slice_index new.bytes k ≡ slice_index (take a p.bytes ++ (bytes ++ drop (a + length bytes) p.bytes)) k = ap (λ b. slice_index b k) put in
      elim (cases_lt x at) [
        | inl below ↦ in_new ∙ index-put_below p.bytes bytes a k (omega arith) (omega arith) ∙ sym old ∙ sym (with_bytes-below at bytes (byte_loaded parts) x below)
        | inr above ↦ elim (cases_lt x (at + length bytes)) [
          | inl inside ↦ in_new ∙ index-put_inside p.bytes bytes a k (omega arith) (omega arith) (omega arith) ∙ ap (λ n. slice_index bytes n) (omega arith)
              ∙ sym (with_bytes-inside at bytes (byte_loaded parts) x above inside)
          | inr past ↦ in_new ∙ index-put_above p.bytes bytes a k (omega arith) (omega arith) ∙ sym old ∙ sym (with_bytes-above at bytes (byte_loaded parts) x past)
        ]
      ]

  put_elsewhere : (x : ℕ) → covers (get_or parts i d) x 1 ≡ false → byte_loaded parts x ≡ with_bytes at bytes (byte_loaded parts) x
  put_elsewhere x e =
      let p = get_or parts i d in
      let from = covers-low p at (length bytes) covered some in
      let to = covers-high p at (length bytes) covered some in
      elim (cases_lt x at) [
        | inl below ↦ sym (with_bytes-below at bytes (byte_loaded parts) x below)
        | inr above ↦ elim (cases_lt x (at + length bytes)) [
          | inl inside ↦ absurd (false≢true (sym e ∙ covers-one p x (omega arith) (omega arith)))
          | inr past ↦ sym (with_bytes-above at bytes (byte_loaded parts) x past)
        ]
      ]

  put_at : (x : ℕ) → byte_loaded (set parts i new) x ≡ with_bytes at bytes (byte_loaded parts) x
  put_at x =
      let p = get_or parts i d in
      let either : (b : Bool) → covers p x 1 ≡ b → (if b then slice_index new.bytes (x - p.start) else byte_loaded parts x) ≡ with_bytes at bytes (byte_loaded parts) x =
      λ b. elim b as (λ b. covers p x 1 ≡ b → (if b then slice_index new.bytes (x - p.start) else byte_loaded parts x) ≡ with_bytes at bytes (byte_loaded parts) x) [
        | true ↦ put_here x
        | false ↦ put_elsewhere x
      ] in
      byte_loaded-set parts i d new x apart within same ∙ either (covers p x 1) refl

  -- what parts hold after bytes were put in one of them
  pub byte_loaded-put : byte_loaded (set parts i new) ≡ with_bytes at bytes (byte_loaded parts)
  byte_loaded-put = λ j x. put_at x j

pub byte_loaded-put_this : (parts : List Part) (i : ℕ) (p new : Part) (at : ℕ) (bytes : List ℕ) → AreApart parts → i < length parts → get_or parts i p ≡ p → length p.bytes ≡ p.size
    → 0 < length bytes → covers p at (length bytes) ≡ true → bare new ≡ bare p → new.bytes ≡ take (at - p.start) p.bytes ++ (bytes ++ drop (at - p.start + length bytes) p.bytes)
    → byte_loaded (set parts i new) ≡ with_bytes at bytes (byte_loaded parts)
byte_loaded-put_this parts i p new at bytes apart within is full some covered same put =
    byte_loaded-put parts i p new at bytes apart within (rw is full) some (rw is covered) (rw is same) (rw is put)

-- only the addresses of parts say whether they are apart
are_apart-bare : (ps : List Part) → AreApart ps → AreApart (map bare ps)
are_apart-bare [] apart = tt
are_apart-bare (p ∷ ps) apart = (λ x e. lies_in_part-bare ps x 1 ∙ apart.0 x e, are_apart-bare ps apart.1)

are_apart-from_bare : (ps : List Part) → AreApart (map bare ps) → AreApart ps
are_apart-from_bare [] apart = tt
are_apart-from_bare (p ∷ ps) apart = (λ x e. sym (lies_in_part-bare ps x 1) ∙ apart.0 x e, are_apart-from_bare ps apart.1)

pub are_apart-same : (ps qs : List Part) → map bare qs ≡ map bare ps → AreApart ps → AreApart qs
are_apart-same ps qs same apart = are_apart-from_bare qs (subst AreApart (sym same) (are_apart-bare ps apart))
