-- Lines over listings that are made of values, of where each stands and of where its copy is: when they fit.
use Rattle.std.proofs.Common.{◌≡◌, ◌≢◌, ◌==◌, ◌||◌, ◌⊎◌, ℕ, List, [], ◌∷◌, Option, Some, None, Bool, true, false, cond, All, IsSomeAnd, is_some, refl, sym, ◌∙◌, ap, subst, inl, inr, eq-eqb, map, option_map}
use Rattle.std.specs.List.{AllByRecursion}
use Rattle.std.proofs.lemmas.Bool.{eqb-true, cond-true, cond-false, cases_eq, or_left, false≢true}
use Rattle.std.proofs.lemmas.List.Elements.{All-nil, All-cons}
use Rattle.rv_isa.specs.declared.register.Register.{Register}
use Rattle.rv_isa.specs.declared.asm.Action.{Action}
use Rattle.rv_isa.specs.declared.placed.Place.{Place}
use Rattle.rv_isa.specs.declared.placed.Place.TheVariants.{Register as register, Slot as slot}
use Rattle.rv_isa.specs.declared.placed.Operand.{Operand}
use Rattle.rv_isa.specs.declared.placed.Listed.{Listed}
use Rattle.rv_isa.specs.declared.placed.Way.TheVariants.{Load}
use Rattle.rv_isa.specs.PlacedCode.{PlacedLine, moves}
use Rattle.rv_isa.specs.PlacedMachine.{is_label_line}
use Rattle.rv_isa.specs.Frames.{is_among, found}
use Rattle.rv_isa.specs.WellFormed.{AreDistinct}
use Rattle.rv_regs.specs.declared.slots.Loaded.{Loaded}
use Rattle.rv_propose.specs.Alive.{PointLists}
use Rattle.rv_regs.specs.Listings.{first_alive, listed_as, with_copy, spoils_by, marks}
use Rattle.rv_regs.specs.Conditions.{OnCopy, AtBoth, StandsAt, AreApart, Apart, IsAtPlace, IsNeeded, IsListed, IsClearOf, IsSafe, IsAtCopy, IsKept, IsHandedOut, WriteIsHandedOut, IsInSlot, StaysHeld, Fits, AllFit}
use Rattle.rv_regs.specs.Plain.{place_in, copy_in, listing_at, listings, stored_later, copied_in, loads, stores}
use Rattle.rv_regs.proofs.Lists.{all_made}
use Rattle.rv_regs.proofs.RegisterPlaces.{AreLoads, AreAmong, differ_values, differ_registers, no_slot, slot_number, place_same, place_other, place_slot, places_apart, places_handed, copy_same, copy_other, copies_handed, copy_ne}
use Rattle.rv_regs.proofs.HeldTokens.{listing_with, AreFree, held_in_slot, held_no_copy}
use Rattle.rv_regs.proofs.ValueListings.{on_copy}
use Rattle.rv_regs.proofs.PlaceChanges.{safe_place}

-- ---- such listings

abbrev pub Injective : (ℕ → Place) → Type 0
Injective place_of = (u v : ℕ) → place_of u ≡ place_of v → u ≡ v

module _ (place_of : ℕ → Place) (copy_of : ℕ → Option Register) where
  listed_step : (held : List ℕ) (x v : ℕ) (rest : Option Listed) (e : Bool) → (x == v) ≡ e → (e ≡ false → rest ≡ Some (listing_at place_of copy_of held v))
      → cond (x == v) (Some (listing_at place_of copy_of held x)) rest ≡ Some (listing_at place_of copy_of held v)
  listed_step held x v rest true e later =
      cond-true (x == v) (Some (listing_at place_of copy_of held x)) rest e ∙ ap (λ u. Some (listing_at place_of copy_of held u)) (eqb-true x v e)
  listed_step held x v rest false e later = cond-false (x == v) (Some (listing_at place_of copy_of held x)) rest e ∙ later refl

  listed_in : (held values : List ℕ) (v : ℕ) → is_among v values ≡ true → listed_as v (map (listing_at place_of copy_of held) values) ≡ Some (listing_at place_of copy_of held v)
  listed_in held [] v there = absurd (false≢true there)
  listed_in held (x ∷ xs) v there =
      listed_step held x v (listed_as v (map (listing_at place_of copy_of held) xs)) (x == v) refl (λ other. listed_in held xs v (or_second (x == v) (is_among v xs) other there))
    where
      or_second : (a b : Bool) → a ≡ false → (a || b) ≡ true → b ≡ true
      or_second true b e t = absurd (false≢true (sym e))
      or_second false b e t = t

  pub listed_there : (point : PointLists) (v : ℕ) → is_among v point.alive ≡ true → listed_as v (listings place_of copy_of point) ≡ Some (listing_at place_of copy_of point.held v)
  listed_there point v there = listed_in point.held point.alive v there

  pub is_listed : (point : PointLists) (v : ℕ) → is_among v point.alive ≡ true → IsListed (listings place_of copy_of point) v
  is_listed point v there = ap (λ (o : Option Listed). is_some o) (listed_there point v there)

  -- an operand stands where its value does
  pub stands_there : (point : PointLists) (v : ℕ) (place : Place) → is_among v point.alive ≡ true → StandsAt place (listing_at place_of copy_of point.held v)
      → IsAtPlace (listings place_of copy_of point) (record { value = v; place = place })
  stands_there point v place there stands = subst (λ (o : Option Listed). IsSomeAnd o (StandsAt place)) (sym (listed_there point v there)) stands

  apart_listings : (held values : List ℕ) → Injective place_of → AreDistinct values → Apart (map (listing_at place_of copy_of held) values)
  apart_listings held [] injective distinct = tt
  apart_listings held (x ∷ xs) injective distinct = (
    all_made (AreApart (listing_at place_of copy_of held x)) (listing_at place_of copy_of held) xs
        (λ v there. (differs v there, λ same. differs v there (injective x v same))),
    apart_listings held xs injective distinct.1,
  )
    where
      differs : (v : ℕ) → is_among v xs ≡ true → x ≢ v
      differs v there same = false≢true (sym distinct.0 ∙ ap (λ u. is_among u xs) same ∙ there)

  -- what is listed next and not written stays where it is, and its copy stays or is forgotten
  pub old_kept : (before : PointLists) (action : Option Action) (reads : List Operand) (write : Option Operand) (held : List ℕ) (v : ℕ) (place : Place) (copy : Option Register)
      → marks action reads (listing_at place_of copy_of before.held v) ≡ listing_at place_of copy_of held v → is_among v before.alive ≡ true
      → place_of v ≡ place → (copy_of v ≡ copy) ⊎ (None ≡ copy) → IsClearOf write (listing_with v place copy (is_among v held)) → AtBoth (IsSafe (spoils_by action)) (listing_with v place copy (is_among v held))
      → IsKept (listings place_of copy_of before) action reads write (listing_with v place copy (is_among v held))
  old_kept before action reads write held v place copy marked there same copies clear safe = inr (inr (stays copies, (clear, safe)))
    where
      At : Option Register → Listed
      At c = listing_with v place c (is_among v held)

      after : option_map (marks action reads) (listed_as v (listings place_of copy_of before)) ≡ Some (At (copy_of v))
      after =
          ap (λ (o : Option Listed). option_map (marks action reads) o) (listed_there before v there) ∙ ap (λ (l : Listed). Some l) marked
          ∙ ap (λ (p : Place). Some (listing_with v p (copy_of v) (is_among v held))) same

      forgotten : option_map (λ m. with_copy None (marks action reads m)) (listed_as v (listings place_of copy_of before)) ≡ Some (At None)
      forgotten =
          ap (λ (o : Option Listed). option_map (λ m. with_copy None (marks action reads m)) o) (listed_there before v there) ∙ ap (λ (l : Listed). Some (with_copy None l)) marked
          ∙ ap (λ (p : Place). Some (listing_with v p None (is_among v held))) same

      stays : (copy_of v ≡ copy) ⊎ (None ≡ copy)
          → (option_map (marks action reads) (listed_as v (listings place_of copy_of before)) ≡ Some (At copy))
          ⊎ ((option_map (λ m. with_copy None (marks action reads m)) (listed_as v (listings place_of copy_of before)) ≡ Some (At copy))
          ⊎ IsAtCopy (listings place_of copy_of before) (At copy))
      stays (inl stay) = inl (after ∙ ap (λ c. Some (At c)) stay)
      stays (inr forget) = inr (inl (forgotten ∙ ap (λ c. Some (At c)) forget))

  -- a line fits whose values stand apart
  pub act_fits : (before : PointLists) (reads : List Operand) (write : Option Operand) (action : Option Action) (nexts : List (List Listed))
      → AreDistinct before.alive → Injective place_of → ((v : ℕ) → IsHandedOut (place_of v)) → ((v : ℕ) → OnCopy IsHandedOut (copy_of v)) → WriteIsHandedOut action write
      → ((v : ℕ) → is_among v before.alive ≡ true → StaysHeld (marks action reads) nexts (listing_at place_of copy_of before.held v))
      → ((v : ℕ) → is_among v before.alive ≡ true → IsNeeded reads write nexts (listing_at place_of copy_of before.held v)) → All (IsAtPlace (listings place_of copy_of before)) reads
      → AllByRecursion (All (IsKept (listings place_of copy_of before) action reads write)) nexts
      → Fits (listings place_of copy_of before) reads write action nexts
  act_fits before reads write action nexts distinct injective handed copies written held needed stand kept =
      record {
        needed = all_made (IsNeeded reads write nexts) (listing_at place_of copy_of before.held) before.alive needed;
        apart = apart_listings before.held before.alive injective distinct;
        stand = stand;
        kept = kept;
        handed_out = all_made (AtBoth IsHandedOut) (listing_at place_of copy_of before.held) before.alive (λ v there. (handed v, copies v));
        write_handed_out = written;
        held = all_made (StaysHeld (marks action reads) nexts) (listing_at place_of copy_of before.held) before.alive held;
      }

-- ---- moves

pub in_slot : (place : Place) (k : ℕ) → place ≡ slot k → IsInSlot place
in_slot place k is = subst IsInSlot (sym is) tt

-- what is listed behind a move is needed before it
move_needs : (point : PointLists) (place_of : ℕ → Place) (copy_of : ℕ → Option Register) (place_next : ℕ → Place) (copy_next : ℕ → Option Register) (v : ℕ) (from to : Place) (u : ℕ)
    → is_among u point.alive ≡ true
    → IsNeeded (record { value = v; place = from } ∷ []) (Some (record { value = v; place = to })) (listings place_next copy_next point ∷ []) (listing_at place_of copy_of point.held u)
move_needs point place_of copy_of place_next copy_next v from to u among = by (cases_eq u v)
  where
    by : (u ≡ v) ⊎ (u ≡ v → ⊥) → IsNeeded (record { value = v; place = from } ∷ []) (Some (record { value = v; place = to })) (listings place_next copy_next point ∷ []) (listing_at place_of copy_of point.held u)
    by (inl e) = inl (or_left (v == u) false (eq-eqb v u (sym e)))
    by (inr ne) = inr (λ e. ne (sym e), inl (is_listed place_next copy_next point u among))

not_moved : (held : List ℕ) (v u : ℕ) → is_among v held ≡ false → is_among u held ≡ true → u ≡ v → ⊥
not_moved held v u free there e = false≢true (sym free ∙ ap (λ w. is_among w held) (sym e) ∙ there)

-- a value is stored that is not held
store_fits : (point : PointLists) (l : Loaded) (pending : List Loaded) (next : List Listed) → AreDistinct point.alive → AreLoads (l ∷ pending) → is_among l.value point.alive ≡ true → AreFree point.held (l ∷ pending)
    → next ≡ stored_later pending point
    → Fits (stored_later (l ∷ pending) point) (record { value = l.value; place = register l.register } ∷ []) (Some (record { value = l.value; place = slot l.value })) None (next ∷ [])
store_fits point l pending next distinct are there free is =
    subst (λ (n : List Listed). Fits (stored_later (l ∷ pending) point) reads write None (n ∷ [])) (sym is)
    (act_fits (place_in (l ∷ pending)) (copy_in []) point reads write None (stored_later pending point ∷ []) distinct (places_apart (l ∷ pending) are)
    (λ u. places_handed (l ∷ pending) u are) (λ u. tt) (tt, refl)
    (λ u among held. (
      in_slot (place_in (l ∷ pending) u) u (held_in_slot point.held (l ∷ pending) u free held),
      (listed_there (place_in pending) (copy_in []) point u among ∙ ap (λ (p : Place). Some (listing_with u p None (is_among u point.held))) (other u (not_moved point.held l.value u free.0 held)), tt),
    ))
    (λ u among. move_needs point (place_in (l ∷ pending)) (copy_in []) (place_in pending) (copy_in []) l.value (register l.register) (slot l.value) u among)
    (All-cons (IsAtPlace (stored_later (l ∷ pending) point)) (record { value = l.value; place = register l.register }) []
    (stands_there (place_in (l ∷ pending)) (copy_in []) point l.value (register l.register) there (inl (place_same l pending l.value refl)))
    (All-nil (IsAtPlace (stored_later (l ∷ pending) point))))
    (all_made (IsKept (stored_later (l ∷ pending) point) None reads write) (listing_at (place_in pending) (copy_in []) point.held) point.alive (λ u among. kept u among (cases_eq u l.value)), tt))
  where
    reads : List Operand
    reads = record { value = l.value; place = register l.register } ∷ []

    write : Option Operand
    write = Some (record { value = l.value; place = slot l.value })

    at_slot : place_in pending l.value ≡ slot l.value
    at_slot = place_slot l.value pending (differ_values l pending are.0)

    other : (u : ℕ) → (u ≡ l.value → ⊥) → place_in pending u ≡ place_in (l ∷ pending) u
    other u ne = sym (place_other l pending u (λ e. ne (sym e)))

    kept : (u : ℕ) → is_among u point.alive ≡ true → (u ≡ l.value) ⊎ (u ≡ l.value → ⊥)
        → IsKept (stored_later (l ∷ pending) point) None reads write (listing_at (place_in pending) (copy_in []) point.held u)
    kept u among (inl e) = inl (sym e, (sym at_slot ∙ ap (place_in pending) (sym e), (ap (λ w. is_among w point.held) e ∙ free.0, refl)))
    kept u among (inr ne) =
        old_kept (place_in (l ∷ pending)) (copy_in []) point None reads write point.held u (place_in pending u) None refl among (sym (other u ne)) (inl refl)
        ((λ e. ne (sym e)), ((λ e. ne (places_apart pending are.1.1 u l.value (sym (at_slot ∙ e)))), tt)) (safe_place (place_in pending u), tt)

-- a value is loaded that is not held: a register has its copy
load_fits : (point : PointLists) (l : Loaded) (loaded : List Loaded) (next : List Listed) → AreDistinct point.alive → AreLoads (l ∷ loaded) → is_among l.value point.alive ≡ true → AreFree point.held (l ∷ loaded)
    → next ≡ copied_in (l ∷ loaded) point
    → Fits (copied_in loaded point) (record { value = l.value; place = slot l.value } ∷ []) (Some (record { value = l.value; place = register l.register })) None (next ∷ [])
load_fits point l loaded next distinct are there free is =
    subst (λ (n : List Listed). Fits (copied_in loaded point) reads write None (n ∷ [])) (sym is)
    (act_fits (place_in []) (copy_in loaded) point reads write None (copied_in (l ∷ loaded) point ∷ []) distinct (λ u v e. slot_number u v e)
    (λ u. tt) (λ u. copies_handed loaded u are.1.1) are.1.0
    (λ u among held. (
      tt,
      (
        listed_there (place_in []) (copy_in (l ∷ loaded)) point u among
            ∙ ap (λ c. Some (listing_with u (slot u) c (is_among u point.held))) (held_no_copy point.held (l ∷ loaded) u free held),
        tt,
      ),
    ))
    (λ u among. move_needs point (place_in []) (copy_in loaded) (place_in []) (copy_in (l ∷ loaded)) l.value (slot l.value) (register l.register) u among)
    (All-cons (IsAtPlace (copied_in loaded point)) (record { value = l.value; place = slot l.value }) []
    (stands_there (place_in []) (copy_in loaded) point l.value (slot l.value) there (inl refl)) (All-nil (IsAtPlace (copied_in loaded point))))
    (all_made (IsKept (copied_in loaded point) None reads write) (listing_at (place_in []) (copy_in (l ∷ loaded)) point.held) point.alive (λ u among. kept u among (cases_eq u l.value)), tt))
  where
    reads : List Operand
    reads = record { value = l.value; place = slot l.value } ∷ []

    write : Option Operand
    write = Some (record { value = l.value; place = register l.register })

    kept : (u : ℕ) → is_among u point.alive ≡ true → (u ≡ l.value) ⊎ (u ≡ l.value → ⊥)
        → IsKept (copied_in loaded point) None reads write (listing_at (place_in []) (copy_in (l ∷ loaded)) point.held u)
    kept u among (inl e) =
        inr (inl (
          sym e,
          ap (λ (o : Option Listed). option_map (with_copy (Some l.register)) o) (listed_there (place_in []) (copy_in loaded) point u among)
              ∙ ap (λ c. Some (listing_with u (slot u) c (is_among u point.held))) (sym (copy_same l loaded u (sym e))),
        ))
    kept u among (inr ne) =
        let same : copy_in (l ∷ loaded) u ≡ copy_in loaded u = copy_other l loaded u (λ e. ne (sym e)) in
        old_kept (place_in []) (copy_in loaded) point None reads write point.held u (slot u) (copy_in (l ∷ loaded) u) refl among refl (inl (sym same))
        ((λ e. ne (sym e)), ((λ e. no_slot l.register u (sym e)), subst (OnCopy (λ place. register l.register ≢ place)) (sym same) (copy_ne l.register loaded u (differ_registers l loaded are.0))))
        (tt, on_copy (IsSafe (spoils_by None)) (copy_in (l ∷ loaded) u) (λ r. refl))

-- ---- rows of moves

pub first_stores : (point : PointLists) (pending : List Loaded) (next : List PlacedLine) → first_alive next ≡ stored_later [] point → first_alive (stores point pending next) ≡ stored_later pending point
first_stores point [] next first = first
first_stores point (l ∷ pending) next first = refl

pub first_loads : (point : PointLists) (loaded : List Loaded) (after : List PlacedLine) → first_alive after ≡ copied_in loaded point → first_alive (loads point loaded after) ≡ copied_in [] point
first_loads point [] after first = first
first_loads point (l ∷ loaded) after first = first_loads point loaded (moves (copied_in loaded point) l.value (Load l.value l.register) ∷ after) refl

pub stores_fit : (whole : List PlacedLine) (point : PointLists) (pending : List Loaded) (next : List PlacedLine) → AreDistinct point.alive → AreLoads pending → AreAmong point.alive pending
    → AreFree point.held pending → first_alive next ≡ stored_later [] point → AllFit whole next → AllFit whole (stores point pending next)
stores_fit whole point [] next distinct are among free first fits = fits
stores_fit whole point (l ∷ pending) next distinct are among free first fits = (
  store_fits point l pending (first_alive (stores point pending next)) distinct are among.0 free (first_stores point pending next first),
  stores_fit whole point pending next distinct are.1.1 among.1 free.1 first fits,
)

pub loads_fit : (whole : List PlacedLine) (point : PointLists) (loaded : List Loaded) (after : List PlacedLine) → AreDistinct point.alive → AreLoads loaded → AreAmong point.alive loaded
    → AreFree point.held loaded → first_alive after ≡ copied_in loaded point → AllFit whole after → AllFit whole (loads point loaded after)
loads_fit whole point [] after distinct are among free first fits = fits
loads_fit whole point (l ∷ loaded) after distinct are among free first fits =
    loads_fit whole point loaded (moves (copied_in loaded point) l.value (Load l.value l.register) ∷ after) distinct are.1.1 among.1 free.1 refl
    (load_fits point l loaded (first_alive after) distinct are among.0 free first, fits)

-- no label stands among moves
pub found_stores : (l : ℕ) (point : PointLists) (pending : List Loaded) (next : List PlacedLine) → found (is_label_line l) (stores point pending next) ≡ found (is_label_line l) next
found_stores l point [] next = refl
found_stores l point (m ∷ pending) next = found_stores l point pending next

pub found_loads : (l : ℕ) (point : PointLists) (loaded : List Loaded) (after : List PlacedLine) → found (is_label_line l) (loads point loaded after) ≡ found (is_label_line l) after
found_loads l point [] after = refl
found_loads l point (m ∷ loaded) after = found_loads l point loaded (moves (copied_in loaded point) m.value (Load m.value m.register) ∷ after)
