-- A pair of nodes, found and made one type.
use Rattle.std.proofs.Common.{◌⊎◌, ◌≡◌, ◌<◌, ℕ, List, [], ◌∷◌, ◌++◌, length, get_or, zero, suc, min, max, Bool, true, false, Result, Ok, Err, IfOk, MatchBool, inl, inr, refl, sym, ◌∙◌, ap, subst, arith}
use Rattle.std.proofs.lemmas.Bool.{cases_lt}
use Rattle.std.proofs.lemmas.List.{length_push, get_or_append_left, get_or_push}
use Rattle.std.proofs.lemmas.List.Elements.{All-append, All-nil}
use Rattle.kk_base.specs.declared.error.NoMemory.{NoMemory}
use Rattle.kk_unify.specs.Graphs.{NodeTree, Assignment, Obeys, Joins, Clashes}
use Rattle.kk_unify.specs.Unification.{Pair, PairsHold, AreWithin, Finds, Steps}
use Rattle.kk_unify.proofs.Unification.{after_append, before_append}

-- of two numbers one is the smaller and the other the greater
sides : (a b : ℕ) → ((min a b ≡ a) × (max a b ≡ b)) ⊎ ((min a b ≡ b) × (max a b ≡ a))
sides a b = elim (cases_lt a b) [ inl lt ↦ inl (omega (arith, lt), omega (arith, lt)) | inr le ↦ inr (omega (arith, le), omega (arith, le)) ]

-- they are of one type exactly if the nodes are
ordered : (r : Assignment) (a b : ℕ) → r a ≡ r b → r (min a b) ≡ r (max a b)
ordered r a b same = elim (sides a b) [ inl is ↦ ap r is.0 ∙ same ∙ sym (ap r is.1) | inr is ↦ ap r is.0 ∙ sym same ∙ sym (ap r is.1) ]

unordered : (r : Assignment) (a b : ℕ) → r (min a b) ≡ r (max a b) → r a ≡ r b
unordered r a b same = elim (sides a b) [ inl is ↦ sym (ap r is.0) ∙ same ∙ ap r is.1 | inr is ↦ sym (ap r is.1) ∙ sym same ∙ ap r is.0 ]

module _ (old between now : List NodeTree) (first second a b : ℕ) (one : Finds old between first a) (other : Finds between now second b) where
  obeys_now : (r : Assignment) → Obeys old r → Obeys now r
  obeys_now r obeys = other.leads.alike.onward r (one.leads.alike.onward r obeys)

  obeys_old : (r : Assignment) → Obeys now r → Obeys old r
  obeys_old r obeys = one.leads.alike.back r (other.leads.alike.back r obeys)

  found : (r : Assignment) → Obeys old r → r first ≡ r second → r a ≡ r b
  found r obeys same = sym (one.leads.same r obeys) ∙ same ∙ other.leads.same r (one.leads.alike.onward r obeys)

  sought : (r : Assignment) → Obeys old r → r a ≡ r b → r first ≡ r second
  sought r obeys same = one.leads.same r obeys ∙ same ∙ sym (other.leads.same r (one.leads.alike.onward r obeys))

  pub steps_found : (pairs : List Pair) → a ≡ b → Steps old pairs first second now pairs
  steps_found pairs same = record {
    as_long = other.leads.alike.as_long ∙ one.leads.alike.as_long;
    lighter = omega (arith, other.leads.alike.as_heavy, one.leads.alike.as_heavy);
    within = λ below.
        let P : ℕ → Type 0 = λ n. AreWithin n pairs in
        subst P (sym (other.leads.alike.as_long ∙ one.leads.alike.as_long)) below;
    onward = λ r obeys here hold. (obeys_now r obeys, hold);
    back = λ r obeys hold. (obeys_old r obeys, sought r (obeys_old r obeys) (ap r same), hold);
  }

  steps_linked : (pairs left : List Pair) (new : List NodeTree) → Steps now pairs (min a b) (max a b) new left → Steps old pairs first second new left
  steps_linked pairs left new steps = record {
    as_long = steps.as_long ∙ other.leads.alike.as_long ∙ one.leads.alike.as_long;
    lighter = omega (arith, steps.lighter, other.leads.alike.as_heavy, one.leads.alike.as_heavy);
    within = λ below.
        let P : ℕ → Type 0 = λ n. AreWithin n pairs in
        steps.within (subst P (sym (other.leads.alike.as_long ∙ one.leads.alike.as_long)) below);
    onward = λ r obeys same hold. steps.onward r (obeys_now r obeys) (ordered r a b (found r obeys same)) hold;
    back = λ r obeys hold.
        let before = steps.back r obeys hold in
        (obeys_old r before.0, sought r (obeys_old r before.0) (unordered r a b before.1), before.2);
  }

  clash_linked : Clashes now (min a b) (max a b) → Clashes old first second
  clash_linked clash = λ r obeys same. clash r (obeys_now r obeys) (ordered r a b (found r obeys same))

  pub pair_joined : (pairs left : List Pair) (new : List NodeTree) (low high : ℕ) (result : Result Bool NoMemory) → low ≡ min a b → high ≡ max a b
      → IfOk result (λ joined. MatchBool joined (Steps now pairs low high new left) (Clashes now low high))
      → IfOk result (λ joined. MatchBool joined (Steps old pairs first second new left) (Clashes old first second))
  pair_joined pairs left new low high (Ok true) low_is high_is steps =
      let P : ℕ → ℕ → Type 0 = λ m n. Steps now pairs m n new left in
      steps_linked pairs left new (subst (λ m. P m (max a b)) low_is (subst (λ n. P low n) high_is steps))
  pair_joined pairs left new low high (Ok false) low_is high_is clash =
      let P : ℕ → ℕ → Type 0 = λ m n. Clashes now m n in
      clash_linked (subst (λ m. P m (max a b)) low_is (subst (λ n. P low n) high_is clash))
  pair_joined pairs left new low high (Err none) low_is high_is steps = tt

-- a pair is taken from those that are left
module _ (old : List NodeTree) (first second : ℕ) (now : List NodeTree) (pairs : List Pair) (pair : Pair) (all : List Pair) (is : all ≡ pairs ++ (pair ∷ [])) (so_far : Steps old [] first second now all) where
  held : (r : Assignment) → PairsHold r all → PairsHold r pairs × (r pair.0 ≡ r pair.1)
  held r hold =
      let P : List Pair → Type 0 = PairsHold r in
      let both : PairsHold r (pairs ++ (pair ∷ [])) = subst P is hold in
      (before_append r pairs (pair ∷ []) both, after_append r pairs (pair ∷ []) both 0 pair (omega arith))

  holding : (r : Assignment) → PairsHold r pairs → r pair.0 ≡ r pair.1 → PairsHold r all
  holding r hold same =
      let P : List Pair → Type 0 = PairsHold r in
      let one : PairsHold r (pair ∷ []) = λ k d h.
      elim k as (λ k. k < 1 → r (get_or (pair ∷ []) k d).0 ≡ r (get_or (pair ∷ []) k d).1) [ zero ↦ λ h. same | suc k ↦ λ h. absurd (omega (arith, h)) ] h in
      subst P (sym is) (All-append (λ (p : Pair). r p.0 ≡ r p.1) pairs (pair ∷ []) hold one)

  pub pair_within : AreWithin (length now) all → AreWithin (length now) pairs × ((pair.0 < length now) × (pair.1 < length now))
  pair_within within =
      let P : List Pair → Type 0 = AreWithin (length now) in
      let both : AreWithin (length now) (pairs ++ (pair ∷ [])) = subst P is within in (
        (λ k d h.
            let Q : Pair → Type 0 = λ p. (p.0 < length now) × (p.1 < length now) in
            subst Q (get_or_append_left pairs (pair ∷ []) d k h) (both k d (omega (arith, length_push pairs pair, h)))),
        (let Q : Pair → Type 0 = λ p. (p.0 < length now) × (p.1 < length now) in
            subst Q (get_or_push pairs pair pair (length pairs) refl) (both (length pairs) pair (omega (arith, length_push pairs pair)))),
      )

  pub steps_on : (left : List Pair) (new : List NodeTree) → Steps now pairs pair.0 pair.1 new left → Steps old [] first second new left
  steps_on left new steps = record {
    as_long = steps.as_long ∙ so_far.as_long;
    lighter = omega (arith, steps.lighter, so_far.lighter, ap length is, length_push pairs pair);
    within = λ below. steps.within (pair_within (so_far.within below)).0;
    onward = λ r obeys same hold.
        let before = so_far.onward r obeys same hold in
        let parts = held r before.1 in
        steps.onward r before.0 parts.1 parts.0;
    back = λ r obeys hold.
        let before = steps.back r obeys hold in
        so_far.back r before.0 (holding r before.2 before.1);
  }

  pub clash_on : Clashes now pair.0 pair.1 → Clashes old first second
  clash_on clash = λ r obeys same.
      let before = so_far.onward r obeys same (All-nil (λ (p : Pair). r p.0 ≡ r p.1)) in
      clash r before.0 (held r before.1).1

-- without pairs that are left, the nodes are joined
pub steps_done : (old : List NodeTree) (first second : ℕ) (now : List NodeTree) (left : List Pair) → left ≡ [] → Steps old [] first second now left → Joins old now first second
steps_done old first second now left none steps =
    let P : List Pair → Type 0 = λ ps. Steps old [] first second now ps in
    let done = subst P none steps in
    record {
      as_long = done.as_long;
      onward = λ r obeys same. (done.onward r obeys same (All-nil (λ (p : Pair). r p.0 ≡ r p.1))).0;
      back = λ r obeys.
          let before = done.back r obeys (All-nil (λ (p : Pair). r p.0 ≡ r p.1)) in
          (before.0, before.1);
    }

pub on_true : (b : Bool) (P Q : Type 0) → b ≡ true → MatchBool b P Q → P
on_true true P Q is holds = holds
on_true false P Q is holds = cc
