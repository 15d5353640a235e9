-- The lines of an opening by the count of a cell, before those of the code that follows it.
use Rattle.std.proofs.Common.{◌≡◌, ℕ, ◌+◌, ◌<◌, ◌≤◌, ◌==◌, ◌⊎◌, inl, inr, Bool, true, false, not, ◌&&◌, ◌||◌, List}
use Rattle.kk_counted.specs.Lowerable.{AreBelow, bound_list}
use Rattle.std.proofs.Common.{[], ◌∷◌, ◌++◌, length, Option, Some, None, IsSome, refl, sym, ap, subst, ◌∙◌, arith, append_assoc}
use Rattle.std.specs.Prelude.{filter}
use Rattle.std.proofs.lemmas.Bool.{false≢true, or_cases, or_left, or_right, eq-eqb}
use Rattle.kk_syntax.specs.Shapes.{is_among as is_bound}
use Rattle.rv_isa.specs.declared.asm.Action.TheVariants.{Label, Jump, Branch}
use Rattle.rv_isa.specs.declared.asm.Condition.{Condition}
use Rattle.rv_isa.specs.declared.asm.Condition.TheVariants.{Equal, NotEqual}
use Rattle.rv_isa.specs.declared.asm.Operation.TheVariants as Op
use Rattle.rv_isa.specs.declared.asm.ImmediateOperation.TheVariants.{Addi}
use Rattle.rv_isa.specs.declared.immediate.Immediate.{Immediate}
use Rattle.rv_isa.specs.AsmCode.{Line}
use Rattle.rv_isa.specs.Frames.{is_among as is_out}
use Rattle.rv_isa.specs.WellFormed.{is_written, is_alive, is_alive_at}
use Rattle.rv_lower.specs.Lines.{computes, sets, copies_to, acts}
use Rattle.rv_lower.specs.Lowered.{Goal}
use Rattle.rv_lower.proofs.WellFormedness.{Readable, readable_within, AreFormed, Good, HasRoom, room_more, weaker, good_computes, to_variable}
use Rattle.rv_lower.proofs.WellFormedness.{good_hands, readable_small, readable_more, none_some}
use Rattle.rv_lower.proofs.AbsentLabels.{HasNo, has_no_append, found_past, found_here, alive_at_past, alive_at_here, other_label}
use Rattle.rv_lower.proofs.Operations.{Leads, leads_then, leads_weaker, next_temporary, only_bound}
use Rattle.rv_lower.proofs.Codes.{Ahead, Fits, StandsAhead, stands_past, good_alone, good_label, goal_up}
use Rattle.rv_cells.specs.CellLines.{Loads, Stores, AllLoads, dups_lines, drops_lines, alone_lines, shared_lines, goes_second, both_ways, TokenUniqueLines}
use Rattle.rv_cells.proofs.CellForms.{one_store, loads_lead, dups_lead, drops_lead}
use Rattle.rv_cells.proofs.CellForms.{room_list, kept_list, bound_later, bound_fields, bound_filter}
use Rattle.rv_cells.specs.Layout.{first_field}

assoc_inner : (a b c z : List Line) → (a ++ (b ++ c)) ++ z ≡ a ++ (b ++ (c ++ z))
assoc_inner a b c z = append_assoc a (b ++ c) z ∙ ap (λ (t : List Line). a ++ t) (append_assoc b c z)

module _ (base : ℕ) (bound : List ℕ) (has : HasRoom base bound) (holds : ℕ → Bool) (x : ℕ) (is : is_bound bound x ≡ true)
    (fields used : List ℕ) (below : AreBelow base fields) where
  abbrev taken : List ℕ
  taken = bound_list fields bound

  abbrev kept : List ℕ
  kept = filter (is_bound used) fields

  abbrev Before : ℕ → Type 0
  Before = Readable base base bound

  abbrev Taken : ℕ → Type 0
  Taken = Readable base base taken

  abbrev Counted : ℕ → Type 0
  Counted = Readable base (base + 1) taken

  room_taken : HasRoom base taken
  room_taken = room_list base bound fields has below

  x_taken : is_bound taken x ≡ true
  x_taken = kept_list bound fields x is

  -- the count is lowered
  lowers : (count store : Line) (less : Immediate) → Loads x 0 base count → Stores x 0 base store
      → Leads Taken Taken (1 + (1 + 1)) (count ∷ computes (Op.Immediate Addi less) (base ∷ []) base ∷ store ∷ [])
  lowers count store less loads stores =
      leads_then Taken Counted Taken 1 (1 + 1) (count ∷ []) (computes (Op.Immediate Addi less) (base ∷ []) base ∷ store ∷ [])
      (subst (λ (l : Line). Leads Taken Counted 1 (l ∷ [])) (sym loads.2)
      (next_temporary base taken room_taken base (Op.Lw loads.0) (x ∷ []) (omega arith) refl (omega arith) (inl x_taken, tt)))
      (leads_then Counted Counted Taken 1 1 (computes (Op.Immediate Addi less) (base ∷ []) base ∷ []) (store ∷ []) again
      (leads_weaker Counted Counted Counted Taken 1 1 (store ∷ []) (λ v is. is)
      (λ v is. readable_more base base (base + 1) taken (omega arith) v is) (omega arith)
      (one_store base taken (base + 1) x 0 base store room_taken (omega arith) (inl x_taken) (inr
      (omega arith, omega arith)) stores)))
    where
      again : Leads Counted Counted 1 (computes (Op.Immediate Addi less) (base ∷ []) base ∷ [])
      again = record {
        no_label = λ l. (refl, tt);
        few = omega arith;
        good = λ rest good. good_computes Counted Counted (Op.Immediate Addi less) (base ∷ []) base rest refl (omega arith)
            (inr (omega arith, omega arith), tt) (readable_small base (base + 1) taken room_taken (omega arith))
            (let room = has.room in omega (arith, room)) (λ v is _. is) good;
      }

  -- The way of a shared cell: the value of the slot is written behind the store of the count.
  module _ (token : ℕ) (less_base : token < base) where
    abbrev Nulled : ℕ → Type 0
    Nulled = Readable base base (token ∷ taken)

    nulls : Leads Taken Nulled 1 (sets 0 token ∷ [])
    nulls = record {
      no_label = λ l. (refl, tt);
      few = omega arith;
      good = λ rest good. to_variable base base taken (Op.Li 0) [] token rest room_taken (omega arith) refl (omega arith) tt less_base
          good;
    }

    dups : Leads Nulled Nulled (length kept) (dups_lines holds kept)
    dups = dups_lead base (token ∷ taken) holds kept (room_more base taken token room_taken less_base)
        (bound_filter (token ∷ taken) (is_bound used) fields (bound_later base taken token fields (bound_fields bound fields))).0

    shared_leads : (loads : List Line) → AllLoads x first_field fields loads → (count store : Line) (less : Immediate)
        → Loads x 0 base count → Stores x 0 base store → Leads Before Nulled (length fields + ((1 + (1 + 1)) + (1 + length kept)))
        (loads ++ ((count ∷ computes (Op.Immediate Addi less) (base ∷ []) base ∷ store ∷ []) ++ (sets 0 token ∷ dups_lines holds kept)))
    shared_leads loads all_loads count store less loads_count stores =
        leads_then Before Taken Nulled (length fields) ((1 + (1 + 1)) + (1 + length kept)) loads _
        (loads_lead base bound x 2 fields loads has is below all_loads)
        (leads_then Taken Taken Nulled (1 + (1 + 1)) (1 + length kept) _ (sets 0 token ∷ dups_lines holds kept)
        (lowers count store less loads_count stores)
        (leads_then Taken Nulled Nulled 1 (length kept) (sets 0 token ∷ []) (dups_lines holds kept) nulls dups))

  -- By what is bound behind it: the first way leads to a label ahead, past those of the second one, and these lead behind it.
  module _ (behind outer : List ℕ) (goal : Goal) (low high : ℕ) (more : List Line)
      (fits : Fits base behind outer goal (low + 2) high more) (first : List Line) (first_none : (l : ℕ) → HasNo l first)
      (first_good : (front tail : List Line) → HasNo (low + 1) front → HasNo (low + 2) front
      → Good (Readable base base behind) (more ++ tail) → AreFormed (front ++ (acts (Label (low + 1)) [] ∷ (more ++ tail)))
      → Good Before (first ++ (front ++ (acts (Label (low + 1)) [] ∷ (more ++ tail))))) (second : List Line) (size : ℕ)
      (second_leads : Leads Before (Readable base base behind) size second) where
    abbrev Behind : ℕ → Type 0
    Behind = Readable base base behind

    abbrev other : List Line
    other = acts (Label low) [] ∷ second

    abbrev at_end : List Line
    at_end = acts (Label (low + 1)) [] ∷ []

    module _ (tail : List Line) (ahead : Ahead base outer goal low high tail) where
      abbrev rest : List Line
      rest = acts (Label (low + 1)) [] ∷ (more ++ tail)

      more_good : Good Behind (more ++ tail)
      more_good = fits.good tail (record {
        formed = ahead.formed;
        fresh = λ l le under. ahead.fresh l (omega (arith, le)) under;
        goal_ahead = goal_up base outer goal low (low + 2) tail (omega arith) ahead.goal_ahead;
      })

      more_none : (l : ℕ) → low ≤ l → l < low + 2 → HasNo l (more ++ tail)
      more_none l le under = has_no_append l more tail (fits.none l (inl under))
          (ahead.fresh l le (let up = fits.up in omega (arith, under, up)))

      rest_good : Good Behind rest
      rest_good = good_label Behind (low + 1) (more ++ tail) (more_none (low + 1) (omega arith) (omega arith)) more_good

      second_good : Good Before (second ++ rest)
      second_good = second_leads.good rest rest_good

      other_good : Good Before (other ++ rest)
      other_good = good_label Before low (second ++ rest)
          (has_no_append low second rest (second_leads.no_label low) (
            other_label low (low + 1) (λ same. absurd (omega (arith, same))),
            more_none low (omega arith)
                (omega arith),
          )) second_good

      other_none : (l : ℕ) → (low ≡ l → ⊥) → HasNo l other
      other_none l differ = (other_label l low differ, second_leads.no_label l)

      both_good : Good Before (first ++ (other ++ rest))
      both_good = first_good other tail (other_none (low + 1) (λ same. omega (arith, same)))
          (other_none (low + 2) (λ same. omega (arith, same))) more_good other_good.formed

      alive_either : (v : ℕ)
          → (is_alive v (first ++ (other ++ rest)) ≡ true) ⊎ (is_alive_at low v (first ++ (other ++ rest)) ≡ true)
          → Before v
      alive_either v (inl alive) = both_good.alive v alive
      alive_either v (inr alive) = second_good.alive v
          (sym (alive_at_past low v first (other ++ rest) (first_none low) ∙ alive_at_here low v (second ++ rest)) ∙ alive)

      test_good : (condition : Condition) (test : Line) → Loads x 0 base test
          → Good Before (test ∷ sets 1 (base + 1) ∷ acts (Branch condition low) (base ∷ (base + 1) ∷ []) ∷ (first ++
          (other ++ rest)))
      test_good condition test loads_test = tested.good _ (one_set.good _
          (weaker (readable_more base (base + 2) (base + 1 + 1) bound (omega arith))
          (good_hands base bound (x ∷ x ∷ []) (Branch condition low) None (first ++ (other ++ rest)) has
          (subst IsSome (sym (found_past low first (other ++ rest) (first_none low) ∙ found_here low (second ++ rest))) refl) tt
          (omega arith) (omega arith) (λ is. absurd (false≢true is)) (λ v is. absurd (none_some is))
          (λ v other_is is. only_bound base bound has v (alive_either v
          (or_cases (is_alive v (first ++ (other ++ rest))) (is_alive_at low v (first ++ (other ++ rest))) is)))
          both_good.formed)))
        where
          tested : Leads Before (Readable base (base + 1) bound) 1 (test ∷ [])
          tested = subst (λ (l : Line). Leads Before (Readable base (base + 1) bound) 1 (l ∷ [])) (sym loads_test.2)
              (next_temporary base bound has base (Op.Lw loads_test.0) (x ∷ []) (omega arith) refl (omega arith) (inl is, tt))

          one_set : Leads (Readable base (base + 1) bound) (Readable base (base + 1 + 1) bound) 1 (sets 1 (base + 1) ∷ [])
          one_set = next_temporary base bound has (base + 1) (Op.Li 1) [] (omega arith) refl (omega arith) tt

    counted_none : (l : ℕ) → (l < low) ⊎ (high ≤ l) → HasNo l ((first ++ (other ++ at_end)) ++ more)
    counted_none l apart = has_no_append l (first ++ (other ++ at_end)) more
        (has_no_append l first (other ++ at_end) (first_none l)
        (has_no_append l other at_end (other_label l low (λ same. differs same apart), second_leads.no_label l)
        (other_label l (low + 1) (λ same. differs_more same apart), tt)))
        (fits.none l (later apart))
      where
        differs : low ≡ l → (l < low) ⊎ (high ≤ l) → ⊥
        differs same (inl under) = absurd (omega (arith, same, under))
        differs same (inr above) = let up = fits.up in absurd (omega (arith, same, above, up))

        differs_more : low + 1 ≡ l → (l < low) ⊎ (high ≤ l) → ⊥
        differs_more same (inl under) = absurd (omega (arith, same, under))
        differs_more same (inr above) = let up = fits.up in absurd (omega (arith, same, above, up))

        later : (l < low) ⊎ (high ≤ l) → (l < low + 2) ⊎ (high ≤ l)
        later (inl under) = inl (omega (arith, under))
        later (inr above) = inr above

    counted_fits : (condition : Condition) (test : Line) → Loads x 0 base test → Fits base bound outer goal low high
        ((test ∷ sets 1 (base + 1) ∷ acts (Branch condition low) (base ∷ (base + 1) ∷ []) ∷ (first ++ (other ++ at_end))) ++ more)
    counted_fits condition test loads_test = record {
      up = let up = fits.up in omega (arith, up);
      none = λ l apart. (
        (subst (λ (line : Line). HasNo l (line ∷ [])) (sym loads_test.2) (refl, tt)).0,
        (refl, (refl, counted_none l apart)),
      );
      good = λ tail ahead. subst
          (λ (code : List Line). Good Before
          (test ∷ sets 1 (base + 1) ∷ acts (Branch condition low) (base ∷ (base + 1) ∷ []) ∷ code))
          (sym (append_assoc (first ++ (other ++ at_end)) more tail ∙ assoc_inner first other at_end (more ++ tail)))
          (test_good tail ahead condition test loads_test);
    }

-- a construction's test of its token leads to a label at which no more values are alive than it has
pub ahead_of_fill : (base : ℕ) (bound : List ℕ) (token x label : ℕ) (rest : List Line)
    → Good (Readable base base bound) (copies_to token x ∷ acts (Branch NotEqual label) (x ∷ []) ∷ rest)
    → StandsAhead (Readable base base (x ∷ bound)) label (copies_to token x ∷ acts (Branch NotEqual label) (x ∷ []) ∷ rest)
ahead_of_fill base bound token x label rest good = (good.formed.lines.1.0.labels, λ v is. by v (x == v) refl is)
  where
    by : (v : ℕ) (same : Bool) → (x == v) ≡ same → is_alive_at label v rest ≡ true → Readable base base (x ∷ bound) v
    by v true test is = inl (or_left (x == v) (is_bound bound v) test)
    by v false test is =
        let branch : is_alive v (acts (Branch NotEqual label) (x ∷ []) ∷ rest) ≡ true
        = or_right (is_out v (x ∷ [])) (is_alive v rest || is_alive_at label v rest)
        (or_right (is_alive v rest) (is_alive_at label v rest) is) in
        readable_within base base bound (x ∷ bound) (λ z there. or_right (x == z) (is_bound bound z) there) v
        (good.alive v (or_right (is_out v (token ∷ []))
        (not (is_written (Some x) v) && is_alive v (acts (Branch NotEqual label) (x ∷ []) ∷ rest))
        (ap (λ w. not w && is_alive v (acts (Branch NotEqual label) (x ∷ []) ∷ rest)) test ∙ branch)))

-- An opening, before the code that follows: its labels are the two from `low` on. The value of the slot is written on both ways.
-- Where it goes on behind the test of a construction, that one is the first of the code.
pub fits_token_unique : (base : ℕ) (bound outer : List ℕ) → HasRoom base bound → (holds : ℕ → Bool) (x : ℕ)
    → is_bound bound x ≡ true → (fields used : List ℕ) → AreBelow base fields → (token : ℕ) → token < base
    → (goal : Goal) (low high : ℕ) (into : Option ℕ) (own more : List Line)
    → TokenUniqueLines base holds low (low + 1) (low + 2) x fields used token into own
    → ((made : ℕ) → into ≡ Some made → (made < base) × ((others : List Line)
    × (more ≡ copies_to token made ∷ acts (Branch NotEqual (low + 2)) (made ∷ []) ∷ others)))
    → Fits base (token ∷ bound_list fields bound) outer goal (low + 2) high more → Fits base bound outer goal low high (own ++ more)
fits_token_unique base bound outer has holds x is fields used below token less goal low high into own more unique entered fits =
    subst (λ (lines : List Line). Fits base bound outer goal low high (lines ++ more)) (sym unique.10) (by into entered)
  where
    after : List ℕ
    after = bound_list fields bound

    Before : ℕ → Type 0
    Before = Readable base base bound

    Behind : ℕ → Type 0
    Behind = Readable base base (token ∷ after)

    unused : List ℕ
    unused = filter (λ y. not (is_bound used y)) fields

    -- the way of a cell that nothing else refers to, and that of a shared one
    alone : List Line
    alone = alone_lines holds x fields used token unique.1

    shared : List Line
    shared = shared_lines holds fields used token unique.1
        (unique.2 ∷ computes (Op.Immediate Addi unique.3) (base ∷ []) base ∷ unique.4 ∷ [])

    has_after : HasRoom base after
    has_after = room_list base bound fields has below

    loads_lead_on : Leads Before (Readable base base after) (length fields) unique.1
    loads_lead_on = loads_lead base bound x 2 fields unique.1 has is below unique.6

    drops_lead_on : Leads (Readable base base after) (Readable base base after) (length unused) (drops_lines holds unused)
    drops_lead_on = drops_lead base after holds unused has_after
        (bound_filter after (λ y. not (is_bound used y)) fields (bound_fields bound fields)).0

    -- the value of the slot is written
    written : Leads (Readable base base after) Behind 1 (copies_to x token ∷ [])
    written = record {
      no_label = λ l. (refl, tt);
      few = omega arith;
      good = λ rest good. to_variable base base after Op.Mv (x ∷ []) token rest has_after (omega arith) refl (omega arith)
          (inl (kept_list bound fields x is), tt) less good;
    }

    alone_leads : Leads Before Behind (length fields + (length unused + 1)) alone
    alone_leads = leads_then Before (Readable base base after) Behind (length fields) (length unused + 1) unique.1
        (drops_lines holds unused ++ (copies_to x token ∷ [])) loads_lead_on
        (leads_then (Readable base base after) (Readable base base after) Behind (length unused) 1 (drops_lines holds unused)
        (copies_to x token ∷ []) drops_lead_on written)

    shared_lead : Leads Before Behind
        (length fields + ((1 + (1 + 1)) + (1 + length (filter (is_bound used) fields)))) shared
    shared_lead = shared_leads base bound has holds x is fields used below token less unique.1 unique.6 unique.2 unique.4 unique.3
        unique.7 unique.9

    -- a jump to a label ahead
    jumps : (B : ℕ → Type 0) (label : ℕ) (rest : List Line) → StandsAhead B label rest → AreFormed rest
        → Good B (acts (Jump label) [] ∷ rest)
    jumps B label rest ahead formed = good_alone B (Jump label) rest ahead.0 tt ahead.1 formed

    -- the way of a shared cell leads behind the opening
    jump_good : (front tail : List Line) → HasNo (low + 1) front → HasNo (low + 2) front → Good Behind (more ++ tail)
        → AreFormed (front ++ (acts (Label (low + 1)) [] ∷ (more ++ tail)))
        → Good Before ((shared ++ (acts (Jump (low + 1)) [] ∷ [])) ++ (front ++ (acts (Label (low + 1)) [] ∷ (more ++ tail))))
    jump_good front tail none none_too good formed =
        let rest = acts (Label (low + 1)) [] ∷ (more ++ tail) in
        subst (Good Before) (sym (append_assoc shared (acts (Jump (low + 1)) [] ∷ []) (front ++ rest)))
        (shared_lead.good (acts (Jump (low + 1)) [] ∷ (front ++ rest))
        (jumps Behind (low + 1) (front ++ rest)
        (stands_past Behind (low + 1) front rest none (
          subst IsSome (sym (found_here (low + 1) (more ++ tail))) refl,
          λ v alive. good.alive v (sym (alive_at_here (low + 1) v (more ++ tail)) ∙ alive),
        )) formed))

    -- the other way leads behind the test of a construction
    entry_of : ℕ → List Line
    entry_of made = copies_to token made ∷ acts (Jump (low + 2)) [] ∷ []

    entry_good : (made : ℕ) → (made < base) × ((others : List Line)
        × (more ≡ copies_to token made ∷ acts (Branch NotEqual (low + 2)) (made ∷ []) ∷ others))
        → (front tail : List Line) → HasNo (low + 1) front → HasNo (low + 2) front → Good Behind (more ++ tail)
        → AreFormed (front ++ (acts (Label (low + 1)) [] ∷ (more ++ tail)))
        → Good Before ((alone ++ entry_of made) ++ (front ++ (acts (Label (low + 1)) [] ∷ (more ++ tail))))
    entry_good made first front tail none none_too good formed =
        let rest = acts (Label (low + 1)) [] ∷ (more ++ tail) in
        let low_made = first.0 in
        let With = Readable base base (made ∷ token ∷ after) in
        let others = first.1.0 in
        let there : StandsAhead With (low + 2) (more ++ tail)
        = subst (λ ls. StandsAhead With (low + 2) (ls ++ tail)) (sym first.1.1)
        (ahead_of_fill base (token ∷ after) token made (low + 2) (others ++ tail)
        (subst (λ ls. Good Behind (ls ++ tail)) first.1.1 good)) in
        let label_there : StandsAhead With (low + 2) rest
        = stands_past With (low + 2) (acts (Label (low + 1)) [] ∷ []) (more ++ tail)
        (other_label (low + 2) (low + 1) (λ same. omega (arith, same)), tt) there in
        subst (Good Before) (sym (append_assoc alone (entry_of made) (front ++ rest)))
        (alone_leads.good (entry_of made ++ (front ++ rest))
        (to_variable base base (token ∷ after) Op.Mv (token ∷ []) made (acts (Jump (low + 2)) [] ∷ (front ++ rest))
        (room_more base after token has_after less) (omega arith) refl (omega arith)
        (inl (or_left (token == token) (is_bound after token) (eq-eqb token token refl)), tt) low_made
        (jumps With (low + 2) (front ++ rest) (stands_past With (low + 2) front rest none_too label_there) formed)))

    by : (going : Option ℕ)
        → ((made : ℕ) → going ≡ Some made → (made < base) × ((others : List Line)
        × (more ≡ copies_to token made ∷ acts (Branch NotEqual (low + 2)) (made ∷ []) ∷ others)))
        → Fits base bound outer goal low high
        ((unique.0 ∷ sets 1 (base + 1) ∷ acts (Branch (goes_second going) low) (base ∷ (base + 1) ∷ [])
        ∷ both_ways going low (low + 1) (low + 2) token alone shared) ++ more)
    by None begins =
        counted_fits base bound has holds x is fields used below (token ∷ after) outer goal low high more fits
        (shared ++ (acts (Jump (low + 1)) [] ∷ []))
        (λ l. has_no_append l shared (acts (Jump (low + 1)) [] ∷ []) (shared_lead.no_label l) (refl, tt)) jump_good alone _
        alone_leads Equal unique.0 unique.5
    by (Some made) begins =
        counted_fits base bound has holds x is fields used below (token ∷ after) outer goal low high more fits
        (alone ++ entry_of made)
        (λ l. has_no_append l alone (entry_of made) (alone_leads.no_label l) (refl, (refl, tt))) (entry_good made (begins made refl))
        shared _ shared_lead NotEqual unique.0 unique.5
