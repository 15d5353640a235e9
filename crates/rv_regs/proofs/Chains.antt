-- The chain of held tokens, in both forms.
use Rattle.std.proofs.Common.{◌≡◌, ◌≢◌, ◌==◌, ◌||◌, ◌⊎◌, ℕ, List, [], ◌∷◌, Option, Some, None, Bool, true, false, cond, All, refl, sym, ◌∙◌, ap, subst, inl, inr, eq-eqb}
use Rattle.std.specs.List.{AllByRecursion}
use Rattle.std.proofs.lemmas.Bool.{eqb-true, eqb-false, ne_eqb, cond-true, cond-false, cases_eq, or_parts, or_right, or_left, or_from, false≢true}
use Rattle.rv_isa.specs.declared.asm.Action.{Action}
use Rattle.rv_isa.specs.declared.asm.Action.TheVariants.{Hold, Unhold}
use Rattle.rv_isa.specs.declared.placed.Place.{Place}
use Rattle.rv_isa.specs.declared.placed.Place.TheVariants.{Slot as slot}
use Rattle.rv_isa.specs.declared.placed.Operand.{Operand}
use Rattle.rv_isa.specs.declared.placed.Listed.{Listed}
use Rattle.rv_isa.specs.Frames.{put, is_among, holding, unholding, off_top}
use Rattle.rv_isa.specs.PlacedMachine.{read_at, number_of}
use Rattle.rv_regs.specs.Listings.{listed_as, marks, is_first_read, with_copy}
use Rattle.rv_regs.specs.Conditions.{AtBoth, StaysHeld, Apart}
use Rattle.rv_regs.specs.Relation.{Holds, HeldAs, IsSlotOf, WaitsFor}
use Rattle.rv_regs.proofs.ValueListings.{listed_has, read_other, put_same, put_other, one_place, on_copy_then}

-- the listing of a held token
abbrev pub token : ℕ → ℕ → Listed
token v k = record { value = v; place = slot k; held = true; copy = None }

-- a listing of next points
abbrev pub IsNext : List Listed → List (List Listed) → Type 0
IsNext next [] = ⊥
IsNext next (n ∷ ns) = (n ≡ next) ⊎ IsNext next ns

pub all_next : (P : List Listed → Type 0) (next : List Listed) (nexts : List (List Listed)) → AllByRecursion P nexts → IsNext next nexts → P next
all_next P next [] all is = absurd is
all_next P next (n ∷ ns) all (inl same) = subst P same all.0
all_next P next (n ∷ ns) all (inr later) = all_next P next ns all.1 later

-- where a line leaves a token marked, it stays listed as held
token_next : (alive next : List Listed) (nexts : List (List Listed)) (action : Option Action) (reads : List Operand) (v k : ℕ) → IsNext next nexts
    → All (StaysHeld (marks action reads) nexts) alive → marks action reads (token v k) ≡ token v k → listed_as v alive ≡ Some (token v k) → listed_as v next ≡ Some (token v k)
token_next alive next nexts action reads v k is all marked listed =
    let has = listed_has (StaysHeld (marks action reads) nexts) alive v (token v k) all listed in
    let stays = has.0 (ap (λ (l : Listed). l.held) marked) in
    all_next (λ n. listed_as v n ≡ Some (with_copy None (marks action reads (token v k)))) next nexts stays.1 is ∙ ap (λ (l : Listed). Some (with_copy None l)) marked

-- the chain stays
pub held_next : (alive next : List Listed) (nexts : List (List Listed)) (action : Option Action) (reads : List Operand) → IsNext next nexts
    → All (StaysHeld (marks action reads) nexts) alive → (vs ks : List ℕ) → ((v k : ℕ) → is_among v vs ≡ true → marks action reads (token v k) ≡ token v k)
    → HeldAs alive vs ks → HeldAs next vs ks
held_next alive next nexts action reads is all [] [] marked held = tt
held_next alive next nexts action reads is all [] (k ∷ ks) marked held = held
held_next alive next nexts action reads is all (v ∷ vs) [] marked held = held
held_next alive next nexts action reads is all (v ∷ vs) (k ∷ ks) marked held = (
  token_next alive next nexts action reads v k is all (marked v k (or_left (v == v) (is_among v vs) (eq-eqb v v refl))) held.0,
  (held.1.0, held_next alive next nexts action reads is all vs ks (λ u j among. marked u j (or_right (v == u) (is_among u vs) among)) held.1.1),
)

-- a value's slot is on the chain only if the value is
pub slot_not_among : (alive : List Listed) (v k : ℕ) (l : Listed) → Apart alive → listed_as v alive ≡ Some l → l.place ≡ slot k
    → (vs ks : List ℕ) → HeldAs alive vs ks → is_among v vs ≡ false → is_among k ks ≡ false
slot_not_among alive v k l apart listed place [] [] held none = refl
slot_not_among alive v k l apart listed place [] (j ∷ ks) held none = absurd held
slot_not_among alive v k l apart listed place (u ∷ vs) [] held none = refl
slot_not_among alive v k l apart listed place (u ∷ vs) (j ∷ ks) held none =
    let parts = or_parts (u == v) (is_among v vs) none in
    or_from (j == k) (is_among k ks)
    (ne_eqb j k (λ same. eqb-false u v parts.0 (one_place alive u v (token u j) l apart held.0 listed (ap (λ (x : ℕ). slot x) same ∙ sym place))))
    (slot_not_among alive v k l apart listed place vs ks held.1.1 parts.1)

pub mark_hold : (reads : List Operand) (v k : ℕ) → marks (Some Hold) reads (token v k) ≡ token v k
mark_hold reads v k = both (is_first_read reads v)
  where
    both : (b : Bool) → cond b (token v k) (token v k) ≡ token v k
    both true = refl
    both false = refl

mark_held : (arg : Operand) (more : List Operand) (l : Listed) → arg.value ≡ l.value → marks (Some Hold) (arg ∷ more) l ≡ record l { held = true }
mark_held arg more l same = cond-true (arg.value == l.value) (record l { held = true }) l (eq-eqb arg.value l.value same)

-- A token that is held goes on both chains, or stays off both.
module _ (alive next : List Listed) (nexts : List (List Listed)) (arg : Operand) (more : List Operand) (k : ℕ) (l : Listed) (is : IsNext next nexts) (apart : Apart alive)
    (listed : listed_as arg.value alive ≡ Some l) (place : l.place ≡ slot k) where
  put_on : (vs ks vs' : List ℕ) (w : ℕ) (a z : Bool) → is_among arg.value vs ≡ a → (w == 0) ≡ z → All (StaysHeld (marks (Some Hold) (arg ∷ more)) nexts) alive
      → HeldAs alive vs ks → is_among k ks ≡ false → a ≡ false → cond z (Some vs) (Some (arg.value ∷ vs)) ≡ Some vs'
      → (ks' : List ℕ) × (cond z (Some ks) (Some (k ∷ ks)) ≡ Some ks') × HeldAs next vs' ks'
  put_on vs ks vs' w a true among zero_word all held off none e =
      let same : vs ≡ vs' = cc in
      (ks, refl, subst (λ us. HeldAs next us ks) same (held_next alive next nexts (Some Hold) (arg ∷ more) is all vs ks (λ v j t. mark_hold (arg ∷ more) v j) held))
  put_on vs ks vs' w a false among zero_word all held off none e =
      let same : arg.value ∷ vs ≡ vs' = cc in
      let has = listed_has (StaysHeld (marks (Some Hold) (arg ∷ more)) nexts) alive arg.value l all listed in
      let marked : marks (Some Hold) (arg ∷ more) l ≡ record l { held = true } = mark_held arg more l (sym has.1) in
      let stays = has.0 (ap (λ (m : Listed). m.held) marked) in
      let is_token : with_copy None (marks (Some Hold) (arg ∷ more) l) ≡ token arg.value k = ap (with_copy None) marked ∙ cc (has.1, place) in
      let there : listed_as l.value next ≡ Some (with_copy None (marks (Some Hold) (arg ∷ more) l))
      = all_next (λ n. listed_as l.value n ≡ Some (with_copy None (marks (Some Hold) (arg ∷ more) l))) next nexts stays.1 is in
      let there' : listed_as arg.value next ≡ Some (token arg.value k) = ap (λ v. listed_as v next) (sym has.1) ∙ there ∙ ap (λ (m : Listed). Some m) is_token in
      (k ∷ ks, refl, subst (λ us. HeldAs next us (k ∷ ks)) same (there', (among ∙ none, held_next alive next nexts (Some Hold) (arg ∷ more) is all vs ks (λ v j t. mark_hold (arg ∷ more) v j) held)))

  pub held_both : (vs ks vs' : List ℕ) (w : ℕ) → All (StaysHeld (marks (Some Hold) (arg ∷ more)) nexts) alive → HeldAs alive vs ks
      → holding arg.value w vs ≡ Some vs' → (ks' : List ℕ) × (holding k w ks ≡ Some ks') × HeldAs next vs' ks'
  held_both vs ks vs' w all held e = go (is_among arg.value vs) refl e
    where
      go : (a : Bool) → is_among arg.value vs ≡ a → cond a None (cond (w == 0) (Some vs) (Some (arg.value ∷ vs))) ≡ Some vs' → (ks' : List ℕ) × (holding k w ks ≡ Some ks') × HeldAs next vs' ks'
      go true among e' = cc
      go false among e' =
          let off = slot_not_among alive arg.value k l apart listed place vs ks held among in
          let on = put_on vs ks vs' w false (w == 0) among refl all held off refl e' in
          (on.0, cond-false (is_among k ks) None (cond (w == 0) (Some ks) (Some (k ∷ ks))) off ∙ on.1, on.2)

other_unmarked : (arg : Operand) (u j : ℕ) → (arg.value ≡ u → ⊥) → marks (Some Unhold) (arg ∷ []) (token u j) ≡ token u j
other_unmarked arg u j ne =
    cond-false ((arg.value == u) || false) (record { value = u; place = slot j; held = false; copy = None }) (token u j) (or_from (arg.value == u) false (ne_eqb arg.value u ne) refl)

-- A token that is taken back is off both chains.
module _ (alive next : List Listed) (nexts : List (List Listed)) (arg : Operand) (k : ℕ) (l : Listed) (is : IsNext next nexts) (apart : Apart alive)
    (listed : listed_as arg.value alive ≡ Some l) (place : l.place ≡ slot k) (all : All (StaysHeld (marks (Some Unhold) (arg ∷ [])) nexts) alive) where
  stay_without : (vs ks : List ℕ) → is_among arg.value vs ≡ false → HeldAs alive vs ks → HeldAs next vs ks
  stay_without vs ks none held =
      held_next alive next nexts (Some Unhold) (arg ∷ []) is all vs ks
      (λ u j among. other_unmarked arg u j (λ same. false≢true (sym none ∙ ap (λ (v : ℕ). is_among v vs) same ∙ among))) held

  off_both : (vs ks vs' : List ℕ) → HeldAs alive vs ks → off_top arg.value vs ≡ Some vs' → (ks' : List ℕ) × (off_top k ks ≡ Some ks') × HeldAs next vs' ks'
  off_both [] ks vs' held e = cc
  off_both (u ∷ us) [] vs' held e = absurd held
  off_both (u ∷ us) (j ∷ js) vs' held e = go (u == arg.value) refl e
    where
      go : (b : Bool) → (u == arg.value) ≡ b → cond b (Some us) None ≡ Some vs' → (ks' : List ℕ) × (cond (j == k) (Some js) None ≡ Some ks') × HeldAs next vs' ks'
      go false t e' = cc
      go true t e' =
          let same : u ≡ arg.value = eqb-true u arg.value t in
          let rest : us ≡ vs' = cc in
          let there : listed_as arg.value alive ≡ Some (token u j) = ap (λ v. listed_as v alive) (sym same) ∙ held.0 in
          let is_l : l ≡ token u j = cc in
          let places : slot k ≡ slot j = sym place ∙ ap (λ (m : Listed). m.place) is_l in
          let slots_same : j ≡ k = cc in (
            js,
            cond-true (j == k) (Some js) None (eq-eqb j k slots_same),
            subst (λ ws. HeldAs next ws js) rest (stay_without us js (ap (λ v. is_among v us) (sym same) ∙ held.1.0) held.1.1),
          )

  pub unheld_both : (vs ks vs' : List ℕ) (w : ℕ) → HeldAs alive vs ks → unholding arg.value w vs ≡ Some vs' → (ks' : List ℕ) × (unholding k w ks ≡ Some ks') × HeldAs next vs' ks'
  unheld_both vs ks vs' w held e = go (w == 0) (is_among arg.value vs) refl e
    where
      go : (z a : Bool) → is_among arg.value vs ≡ a → cond z (cond a None (Some vs)) (off_top arg.value vs) ≡ Some vs'
          → (ks' : List ℕ) × (cond z (cond (is_among k ks) None (Some ks)) (off_top k ks) ≡ Some ks') × HeldAs next vs' ks'
      go true true among e' = cc
      go true false among e' =
          let same : vs ≡ vs' = cc in (
            ks,
            cond-false (is_among k ks) None (Some ks) (slot_not_among alive arg.value k l apart listed place vs ks held among),
            subst (λ ws. HeldAs next ws ks) same (stay_without vs ks among held),
          )
      go false a among e' = off_both vs ks vs' held e'

-- the word of a token in a frame that waits
pub token_waits : (alive : List Listed) (into into' : Option ℕ) (values slots : ℕ → Option ℕ) → WaitsFor alive into into' values slots
    → (v k : ℕ) → listed_as v alive ≡ Some (token v k) → values v ≡ slots k
token_waits alive None None values slots waits v k listed =
    let s = (waits v (token v k) listed).1 in let same : k ≡ s.0 = cc (s.1) in s.2 ∙ ap slots (sym same)
token_waits alive None (Some x) values slots waits v k listed = absurd waits
token_waits alive (Some u) None values slots waits v k listed = absurd waits
token_waits alive (Some u) (Some x) values slots waits v k listed = go (waits v (token v k) listed).1
  where
    go : ((v ≡ u) × (number_of (slot k) ≡ Some x)) ⊎ ((v ≢ u) × IsSlotOf values slots v (slot k)) → values v ≡ slots k
    go (inl awaited) = absurd (cc (awaited.1))
    go (inr s) = let same : k ≡ s.1.0 = cc (s.1.1) in s.1.2 ∙ ap slots (sym same)

zero_slot : (alive : List Listed) (values slots : ℕ → Option ℕ) (u k v : ℕ) (l : Listed) → Apart alive → listed_as u alive ≡ Some (token u k) → listed_as v alive ≡ Some l
    → IsSlotOf values slots v l.place → IsSlotOf (put u (Some 0) values) (put k (Some 0) slots) v l.place
zero_slot alive values slots u k v l apart zeroed listed s = (s.0, s.1, go (cases_eq v u))
  where
    go : (v ≡ u) ⊎ (v ≡ u → ⊥) → put u (Some 0) values v ≡ put k (Some 0) slots s.0
    go (inl same) =
        let there : listed_as v alive ≡ Some (token u k) = ap (λ w. listed_as w alive) same ∙ zeroed in
        let is_l : l ≡ token u k = cc in
        let places : slot s.0 ≡ slot k = sym s.1 ∙ ap (λ (m : Listed). m.place) is_l in
        let at_k : s.0 ≡ k = cc in
        ap (put u (Some 0) values) same ∙ put_same u (Some 0) values ∙ sym (ap (put k (Some 0) slots) at_k ∙ put_same k (Some 0) slots)
    go (inr ne) =
        put_other u (Some 0) values v ne ∙ s.2
        ∙ sym (put_other k (Some 0) slots s.0 (λ same. ne (one_place alive v u l (token u k) apart listed zeroed (s.1 ∙ ap (λ (x : ℕ). slot x) same))))

-- a slot of a frame that waits becomes 0, and so does its value
pub zero_waits : (alive : List Listed) (into into' : Option ℕ) (values slots : ℕ → Option ℕ) (u k : ℕ) → Apart alive → listed_as u alive ≡ Some (token u k)
    → WaitsFor alive into into' values slots → WaitsFor alive into into' (put u (Some 0) values) (put k (Some 0) slots)
zero_waits alive None None values slots u k apart zeroed waits = λ v l listed. ((waits v l listed).0, zero_slot alive values slots u k v l apart zeroed listed (waits v l listed).1)
zero_waits alive None (Some x) values slots u k apart zeroed waits = waits
zero_waits alive (Some r) None values slots u k apart zeroed waits = waits
zero_waits alive (Some r) (Some x) values slots u k apart zeroed waits = λ v l listed. ((waits v l listed).0, go v l listed (waits v l listed).1)
  where
    go : (v : ℕ) (l : Listed) → listed_as v alive ≡ Some l → ((v ≡ r) × (number_of l.place ≡ Some x)) ⊎ ((v ≢ r) × IsSlotOf values slots v l.place)
        → ((v ≡ r) × (number_of l.place ≡ Some x)) ⊎ ((v ≢ r) × IsSlotOf (put u (Some 0) values) (put k (Some 0) slots) v l.place)
    go v l listed (inl awaited) = inl awaited
    go v l listed (inr s) = inr (s.0, zero_slot alive values slots u k v l apart zeroed listed s.1)

-- the same where the frame runs
pub zero_holds : (alive : List Listed) (values registers slots : ℕ → Option ℕ) (u k : ℕ) → Apart alive → listed_as u alive ≡ Some (token u k)
    → Holds alive values registers slots → Holds alive (put u (Some 0) values) registers (put k (Some 0) slots)
zero_holds alive values registers slots u k apart zeroed holds v l listed = go (cases_eq v u)
  where
    HasWord : Place → Type 0
    HasWord place = put u (Some 0) values v ≡ read_at registers (put k (Some 0) slots) place

    go : (v ≡ u) ⊎ (v ≡ u → ⊥) → AtBoth HasWord l
    go (inl same) =
        let there : listed_as v alive ≡ Some (token u k) = ap (λ w. listed_as w alive) same ∙ zeroed in
        let is_l : l ≡ token u k = cc in
        subst (AtBoth HasWord) (sym is_l) (ap (put u (Some 0) values) same ∙ put_same u (Some 0) values ∙ sym (put_same k (Some 0) slots), tt)
    go (inr ne) = (
      put_other u (Some 0) values v ne ∙ (holds v l listed).0
          ∙ sym (read_other (slot k) l.place (Some 0) registers slots (λ same. ne (one_place alive v u l (token u k) apart listed zeroed (sym same)))),
      on_copy_then (λ place. values v ≡ read_at registers slots place) HasWord l.copy (λ r e. put_other u (Some 0) values v ne ∙ e) (holds v l listed).1,
    )
