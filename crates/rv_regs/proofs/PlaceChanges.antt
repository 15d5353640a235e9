-- What a line keeps, while it changes a value and registers.
use Rattle.std.proofs.Common.{◌≡◌, ◌≢◌, ◌⊎◌, ℕ, List, Option, Some, None, Bool, true, false, cond, All, refl, sym, ◌∙◌, ap, subst, inl, inr, option_map, IsSomeAnd}
use Rattle.std.proofs.lemmas.Bool.{cond-false}
use Rattle.rv_isa.specs.declared.register.Register.{Register}
use Rattle.rv_isa.specs.declared.asm.Action.{Action}
use Rattle.rv_isa.specs.declared.asm.Action.TheVariants.{Hold, Unhold}
use Rattle.rv_isa.specs.declared.placed.Place.{Place}
use Rattle.rv_isa.specs.declared.placed.Place.TheVariants.{Register as register, Slot as slot}
use Rattle.rv_isa.specs.declared.placed.Operand.{Operand}
use Rattle.rv_isa.specs.declared.placed.Listed.{Listed}
use Rattle.rv_isa.specs.Conventions.{is_lost}
use Rattle.rv_isa.specs.Frames.{put}
use Rattle.rv_isa.specs.PlacedMachine.{read_at, registers_with, slots_with, unless_lost}
use Rattle.rv_regs.specs.Listings.{listed_as, with_copy, marks, spoils_by, is_read_in, is_first_read}
use Rattle.rv_regs.specs.Conditions.{OnCopy, AtBoth, IsWritten, written_by, IsKept, IsNew, IsCopyAt, HasCopyIn, IsCopied, StaysListed, IsClearOf, IsSafe}
use Rattle.rv_regs.specs.Relation.{Holds}
use Rattle.rv_regs.proofs.ValueListings.{listed_has, read_put, read_other, put_same, put_other, on_copy, on_copy_both, is_or_not}

cond_same : {A B : Type 0} (f : A → B) (b : Bool) (x y : A) (z : B) → f x ≡ z → f y ≡ z → f (cond b x y) ≡ z
cond_same f true x y z p q = p
cond_same f false x y z p q = q

-- marks change no place and no copy
pub marks_place : (action : Option Action) (reads : List Operand) (l : Listed) → (marks action reads l).place ≡ l.place
marks_place (Some Hold) reads l = cond_same (λ (m : Listed). m.place) (is_first_read reads l.value) (record l { held = true }) l l.place refl refl
marks_place (Some Unhold) reads l = cond_same (λ (m : Listed). m.place) (is_read_in reads l.value) (record l { held = false }) l l.place refl refl
marks_place _ reads l = refl

pub marks_copy : (action : Option Action) (reads : List Operand) (l : Listed) → (marks action reads l).copy ≡ l.copy
marks_copy (Some Hold) reads l = cond_same (λ (m : Listed). m.copy) (is_first_read reads l.value) (record l { held = true }) l l.copy refl refl
marks_copy (Some Unhold) reads l = cond_same (λ (m : Listed). m.copy) (is_read_in reads l.value) (record l { held = false }) l l.copy refl refl
marks_copy _ reads l = refl

-- the place that is written is another
abbrev pub NotAt : Option Operand → Place → Type 0
NotAt None place = Unit {0}
NotAt (Some into) place = into.place ≢ place

-- A line writes a value, if it does, at a place; other values stay, and so do other places, but for registers that it spoils. A
-- move changes no value.
pub record Changes (action : Option Action) (write : Option Operand) (values registers slots values' registers' slots' : ℕ → Option ℕ) : Type 0 where
  pub written : (into : Operand) → written_by action write ≡ Some into → values' into.value ≡ read_at registers' slots' into.place
  pub others : (v : ℕ) → (IsWritten write v → ⊥) → values' v ≡ values v
  pub places : (place : Place) → NotAt write place → IsSafe (spoils_by action) place → read_at registers' slots' place ≡ read_at registers slots place
  pub moved : action ≡ None → (v : ℕ) → values' v ≡ values v

some_of_map : (f : Listed → Listed) (o : Option Listed) (l : Listed) → option_map f o ≡ Some l → (m : Listed) × (o ≡ Some m) × (f m ≡ l)
some_of_map f None l e = cc
some_of_map f (Some m) l e = (m, refl, cc)

-- it is at the same place, with the same copy if it has one; or at the copy alone
abbrev pub IsLeft : Listed → Listed → Type 0
IsLeft m l = ((m.place ≡ l.place) × ((m.copy ≡ l.copy) ⊎ (l.copy ≡ None))) ⊎ (IsCopyAt m.copy l.place × (l.copy ≡ None))

-- a listing that stays was there, and is left
pub record Stayed (alive : List Listed) (l : Listed) : Type 0 where
  pub m : Listed
  pub listed : listed_as l.value alive ≡ Some m
  pub stands : IsLeft m l

listed_copied : (o : Option Listed) (place : Place) → IsSomeAnd o (λ before. IsCopyAt before.copy place) → (m : Listed) × (o ≡ Some m) × IsCopyAt m.copy place
listed_copied None place came = absurd came
listed_copied (Some m) place came = (m, refl, came)

pub stayed : (alive : List Listed) (action : Option Action) (reads : List Operand) (l : Listed) → StaysListed alive (marks action reads) l → Stayed alive l
stayed alive action reads l (inl stays) =
    let s = some_of_map (marks action reads) (listed_as l.value alive) l stays in
    record {
      m = s.0;
      listed = s.1;
      stands = inl (sym (marks_place action reads s.0) ∙ ap (λ (m : Listed). m.place) s.2, inl (sym (marks_copy action reads s.0) ∙ ap (λ (m : Listed). m.copy) s.2));
    }
stayed alive action reads l (inr (inl stays)) =
    let s = some_of_map (λ m. with_copy None (marks action reads m)) (listed_as l.value alive) l stays in
    record {
      m = s.0;
      listed = s.1;
      stands = inl (sym (marks_place action reads s.0) ∙ ap (λ (m : Listed). m.place) s.2, inr (sym (ap (λ (m : Listed). m.copy) s.2)));
    }
stayed alive action reads l (inr (inr at)) =
    let s = listed_copied (listed_as l.value alive) l.place at.0 in
    record {
      m = s.0;
      listed = s.1;
      stands = inr (s.2, at.1.1);
    }

-- so what held in its places holds in the places that are left
copy_stays : (P : Place → Type 0) (m l : Listed) → (m.copy ≡ l.copy) ⊎ (l.copy ≡ None) → OnCopy P m.copy → OnCopy P l.copy
copy_stays P m l (inl same) all = subst (OnCopy P) same all
copy_stays P m l (inr none) all = subst (OnCopy P) (sym none) tt

copy_at : (P : Place → Type 0) (copy : Option Register) (place : Place) → IsCopyAt copy place → OnCopy P copy → P place
copy_at P None place at all = absurd at
copy_at P (Some r) place at all = subst P at all

both_left : (P : Place → Type 0) (m l : Listed) → IsLeft m l → AtBoth P m → AtBoth P l
both_left P m l (inl same) both = (subst P same.0 both.0, copy_stays P m l same.1 both.1)
both_left P m l (inr at) both = (copy_at P m.copy l.place at.0 both.1, subst (OnCopy P) (sym at.1) tt)

pub both_stay : (P : Place → Type 0) (alive : List Listed) (l : Listed) (s : Stayed alive l) → AtBoth P s.m → AtBoth P l
both_stay P alive l s both = both_left P s.m l s.stands both

pub clear_write : (write : Option Operand) (l : Listed) → IsClearOf write l → (IsWritten write l.value → ⊥) × AtBoth (NotAt write) l
clear_write None l clear = (λ w. w, (tt, on_copy (NotAt None) l.copy (λ r. tt)))
clear_write (Some into) l clear = clear

pub new_place : (write : Option Operand) (l : Listed) → IsNew write l → (into : Operand) × (write ≡ Some into) × ((into.value ≡ l.value) × ((into.place ≡ l.place) × (l.copy ≡ None)))
new_place None l new = absurd new
new_place (Some into) l new = (into, refl, (new.0, (new.1.0, new.1.1.1)))

pub new_unheld : (write : Option Operand) (l : Listed) → IsNew write l → l.held ≡ false
new_unheld None l new = absurd new
new_unheld (Some into) l new = new.1.1.0

-- a move spoils nothing
pub safe_place : (place : Place) → IsSafe (spoils_by None) place
safe_place (register r) = refl
safe_place (slot k) = tt

slot_register : (k : ℕ) (r : Register) → slot k ≡ register r → ⊥
slot_register k r e = cc

-- where a value was that is listed with a copy there
listed_from : (o : Option Listed) (copy : Option Register) → IsSomeAnd o (λ before. IsCopyAt copy before.place) → (m : Listed) × (o ≡ Some m) × IsCopyAt copy m.place
listed_from None copy came = absurd came
listed_from (Some m) copy came = (m, refl, came)

module _ (alive : List Listed) (values registers slots values' registers' slots' : ℕ → Option ℕ) where
  abbrev HasWord : ℕ → Place → Type 0
  HasWord v place = values' v ≡ read_at registers' slots' place

  -- a value that was copied into a register stands there, and where it stood
  copied_to : (into : Operand) (l : Listed) (place : Place) → Holds alive values registers slots → Changes None (Some into) values registers slots values' registers' slots'
      → into.value ≡ l.value → into.place ≡ place → HasCopyIn alive place l → AtBoth (HasWord l.value) l
  copied_to into l (slot k) holds change same at copied =
      let came = listed_from (listed_as l.value alive) l.copy copied.1.1 in (
        subst (λ (p : Place). HasWord l.value p) (at ∙ sym copied.0) (subst (λ v. HasWord v into.place) same (change.written into refl)),
        left l.copy came.0 (holds l.value came.0 came.1).0 came.2,
      )
    where
      left : (copy : Option Register) (m : Listed) → values l.value ≡ read_at registers slots m.place → IsCopyAt copy m.place → OnCopy (HasWord l.value) copy
      left None m held came = tt
      left (Some r) m held came =
          change.moved refl l.value ∙ held ∙ ap (λ p. read_at registers slots p) (sym came)
          ∙ sym (change.places (register r) (λ e. slot_register k r (sym at ∙ e)) (safe_place (register r)))
  copied_to into l (register r) holds change same at copied =
      let s = some_of_map (with_copy (Some r)) (listed_as l.value alive) l copied in
      let word : HasWord l.value (register r) = subst (λ (p : Place). HasWord l.value p) at (subst (λ v. HasWord v into.place) same (change.written into refl)) in
      let place_is : s.0.place ≡ l.place = ap (λ (m : Listed). m.place) s.2 in
      (old word s.0 (holds l.value s.0 s.1).0 place_is (is_or_not r l.place), subst (OnCopy (HasWord l.value)) (ap (λ (m : Listed). m.copy) s.2) word)
    where
      old : HasWord l.value (register r) → (m : Listed) → values l.value ≡ read_at registers slots m.place → m.place ≡ l.place
          → (l.place ≡ register r) ⊎ (register r ≢ l.place) → HasWord l.value l.place
      old word m held place_is (inl here) = subst (λ (p : Place). HasWord l.value p) (sym here) word
      old word m held place_is (inr other) =
          change.moved refl l.value ∙ held ∙ ap (λ p. read_at registers slots p) place_is
          ∙ sym (change.places l.place (λ e. other (sym at ∙ e)) (safe_place l.place))

  copied_listing : (action : Option Action) (write : Option Operand) (l : Listed) → Holds alive values registers slots → Changes action write values registers slots values' registers' slots'
      → IsCopied alive action write l → AtBoth (HasWord l.value) l
  copied_listing None None l holds change copied = absurd copied
  copied_listing None (Some into) l holds change copied = copied_to into l into.place holds change copied.0 refl copied.1
  copied_listing (Some action) write l holds change copied = absurd copied

module _ (alive : List Listed) (action : Option Action) (reads : List Operand) (write : Option Operand)
    (values registers slots values' registers' slots' : ℕ → Option ℕ) where
  kept_listing : (l : Listed) → Holds alive values registers slots → Changes action write values registers slots values' registers' slots'
      → IsKept alive action reads write l → AtBoth (λ place. values' l.value ≡ read_at registers' slots' place) l
  kept_listing l holds change (inl new) =
      let n = new_place (written_by action write) l new in
      let e : values' n.0.value ≡ read_at registers' slots' n.0.place = change.written n.0 n.1 in (
        subst (λ p. values' l.value ≡ read_at registers' slots' p) n.2.1.0 (subst (λ v. values' v ≡ read_at registers' slots' n.0.place) n.2.0 e),
        subst (OnCopy (λ place. values' l.value ≡ read_at registers' slots' place)) (sym n.2.1.1) tt,
      )
  kept_listing l holds change (inr (inl copied)) = copied_listing alive values registers slots values' registers' slots' action write l holds change copied
  kept_listing l holds change (inr (inr kept)) =
      let s = stayed alive action reads l kept.0 in
      let clear = clear_write write l kept.1.0 in
      let held = both_stay (λ place. values l.value ≡ read_at registers slots place) alive l s (holds l.value s.m s.listed) in (
        same clear.0 l.place held.0 (clear.1.0, kept.1.1.0),
        on_copy_both (λ place. values l.value ≡ read_at registers slots place) (λ place. NotAt write place × IsSafe (spoils_by action) place) (λ place. values' l.value ≡ read_at registers' slots' place) l.copy
            (λ r. same clear.0 (register r)) held.1
            (on_copy_both (NotAt write) (IsSafe (spoils_by action)) (λ place. NotAt write place × IsSafe (spoils_by action) place) l.copy (λ r not safe. (not, safe)) clear.1.1 kept.1.1.1),
      )
    where
      same : (IsWritten write l.value → ⊥) → (place : Place) → values l.value ≡ read_at registers slots place → NotAt write place × IsSafe (spoils_by action) place
          → values' l.value ≡ read_at registers' slots' place
      same unwritten place held aside = change.others l.value unwritten ∙ held ∙ sym (change.places place aside.0 aside.1)

  -- what a line keeps holds behind it
  pub holds_next : (next : List Listed) → All (IsKept alive action reads write) next → Holds alive values registers slots
      → Changes action write values registers slots values' registers' slots' → Holds next values' registers' slots'
  holds_next next keeps holds change v l e =
      let has = listed_has (IsKept alive action reads write) next v l keeps e in
      subst (λ u. AtBoth (λ place. values' u ≡ read_at registers' slots' place) l) has.1 (kept_listing l holds change has.0)

no_action : (action : Action) → Some action ≡ None → ⊥
no_action action e = cc

kept_place : (action : Option Action) (registers slots : ℕ → Option ℕ) (place : Place) → IsSafe (spoils_by action) place
    → read_at (λ x. cond (spoils_by action x) None (registers x)) slots place ≡ read_at registers slots place
kept_place action registers slots (register r) safe = cond-false (spoils_by action r.number) None (registers r.number) safe
kept_place action registers slots (slot k) safe = refl

written_nowhere : (action : Option Action) → written_by action None ≡ None
written_nowhere None = refl
written_nowhere (Some action) = refl

-- what is not lost is written where it goes
written_there : (action : Action) (into o : Operand) → unless_lost action (Some into) ≡ Some o → into ≡ o
written_there action into o is = by (is_lost action into.place) is
  where
    by : (lost : Bool) → cond lost None (Some into) ≡ Some o → into ≡ o
    by true none = cc none
    by false same = cc same

-- nothing is written, and what is spoilt is not known
pub change_nothing : (action : Option Action) (values registers slots : ℕ → Option ℕ) → Changes action None values registers slots values (λ x. cond (spoils_by action x) None (registers x)) slots
change_nothing action values registers slots =
    record {
      written = λ into e. let none = written_nowhere action in cc (none, e);
      others = λ v n. refl;
      places = λ place n safe. kept_place action registers slots place safe;
      moved = λ e v. refl;
    }

-- a value is written at a place, after what is spoilt
pub change_one : (into : Operand) (w : Option ℕ) (action : Action) (values registers slots : ℕ → Option ℕ)
    → Changes (Some action) (Some into) values registers slots (put into.value w values) (registers_with into.place w (λ x. cond (spoils_by (Some action) x) None (registers x))) (slots_with into.place w slots)
change_one into w action values registers slots =
    let left : ℕ → Option ℕ = λ x. cond (spoils_by (Some action) x) None (registers x) in
    record {
      written = λ o e. let same = written_there action into o e in subst (λ (p : Operand). put into.value w values p.value ≡ read_at (registers_with into.place w left) (slots_with into.place w slots) p.place) same (put_same into.value w values ∙ sym (read_put into.place w left slots));
      others = λ v n. put_other into.value w values v (λ e. n (sym e));
      places = λ place n safe. read_other into.place place w left slots n ∙ kept_place (Some action) registers slots place safe;
      moved = λ e v. absurd (no_action action e);
    }

-- a word is lost: it is the value of no place
pub change_lost : (into : Operand) (w : Option ℕ) (action : Action) (values registers slots : ℕ → Option ℕ)
    → is_lost action into.place ≡ true
    → Changes (Some action) (Some into) values registers slots (put into.value w values)
    (λ x. cond (spoils_by (Some action) x) None (registers x)) slots
change_lost into w action values registers slots lost =
    record {
      written = λ o e.
          let none : unless_lost action (Some into) ≡ None = ap (λ (b : Bool). cond b None (Some into)) lost in cc (none, e);
      others = λ v n. put_other into.value w values v (λ e. n (sym e));
      places = λ place n safe. kept_place (Some action) registers slots place safe;
      moved = λ e v. absurd (no_action action e);
    }

-- a move: no value changes
pub change_place : (v : ℕ) (from to : Place) (values registers slots : ℕ → Option ℕ) → values v ≡ read_at registers slots from
    → Changes None (Some (record { value = v; place = to })) values registers slots values (registers_with to (read_at registers slots from) registers) (slots_with to (read_at registers slots from) slots)
change_place v from to values registers slots at =
    let w : Option ℕ = read_at registers slots from in
    let moved : Operand = record { value = v; place = to } in
    record {
      written = λ o e. let same : moved ≡ o = cc in subst (λ (p : Operand). values p.value ≡ read_at (registers_with to w registers) (slots_with to w slots) p.place) same (at ∙ sym (read_put to w registers slots));
      others = λ u n. refl;
      places = λ place n safe. read_other to place w registers slots n;
      moved = λ e u. refl;
    }
