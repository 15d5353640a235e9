-- The rows of a match, before and after the first position is known: their types, their examples, and when they are covered.
use Rattle.std.proofs.Common.{◌≡◌, inl, inr, ℕ, ℤ, Bool, true, false, ◌||◌, List, [], ◌∷◌, ◌++◌, length, Some, refl, subst, IsTrue}
use Rattle.std.proofs.lemmas.Bool.{both_ways}
use Rattle.kk_slots.specs.declared.problem.Asked.{Asked}
use Rattle.kk_slots.specs.declared.problem.Asked.TheVariants.{Nothing, Number, Constructor}
use Rattle.kk_syntax.specs.Covered.{Each}
use Rattle.kk_syntax.specs.Outlines.{Outline, any, exactly, made, Outlines, no_outline, outline, Clash, ClashIn}
use Rattle.kk_syntax.specs.OfType.{Values, IsPatternOf, ArePatternsOf}
use Rattle.kk_slots.specs.Narrowing.{IsMissedIn, join, anys, front, back, narrow, narrowed, open_row, opened}
use Rattle.kk_slots.specs.Problems.{is_blank, has_blank, has_constructor, asks_for, asked, or_else, first_asked, LacksNumber}
use Rattle.kk_rows.proofs.PatternLists.{typed_join, typed_front, typed_back, typed_anys}
use Rattle.kk_rows.proofs.KeptRows.{each_from, each_to, each_both}
use Rattle.kk_rows.proofs.RowSteps.{row_typed, row_up, row_down, row_down_any, row_lacking, open_typed, number_up, free_up, open_down}

module _ {T : Type 0} (values : Values T) (us ts : List T) (t : T) (c : ℕ) (at_c : values.fields t c ≡ Some us) (rows : List Outlines) where
  pub narrowed_typed : Each (ArePatternsOf values (t ∷ ts)) rows → Each (ArePatternsOf values (us ++ ts)) (narrowed c (length us) rows)
  narrowed_typed typed = each_from (narrow c (length us)) (ArePatternsOf values (us ++ ts)) (ArePatternsOf values (t ∷ ts)) (row_typed values us ts t c at_c) rows typed

  pub narrowed_up : (es : Outlines) → Each (ArePatternsOf values (t ∷ ts)) rows → IsMissedIn values (us ++ ts) (narrowed c (length us) rows) es → IsMissedIn values (t ∷ ts) rows (outline (made c (front (length us) es)) (back (length us) es))
  narrowed_up es typed example = record {
    typed = ((us, at_c, typed_front values us ts es example.typed), typed_back values us ts es example.typed);
    clashes = each_to (narrow c (length us)) (ClashIn es) (ClashIn (outline (made c (front (length us) es)) (back (length us) es))) (ArePatternsOf values (t ∷ ts)) (row_up values us ts t c at_c es) rows typed example.clashes;
  }

  pub narrowed_down : (ds es : Outlines) → Each (ArePatternsOf values (t ∷ ts)) rows → ArePatternsOf values us ds → ArePatternsOf values ts es → Each (ClashIn (outline (made c ds) es)) rows → IsMissedIn values (us ++ ts) (narrowed c (length us) rows) (join ds es)
  narrowed_down ds es typed of_ds of_es clashes = record {
    typed = typed_join values us ts ds es of_ds of_es;
    clashes = each_from (narrow c (length us)) (ClashIn (join ds es)) (λ row. ArePatternsOf values (t ∷ ts) row × ClashIn (outline (made c ds) es) row) (λ row a. row_down values us ts t c at_c ds es of_ds row a.0 a.1) rows (each_both (ArePatternsOf values (t ∷ ts)) (ClashIn (outline (made c ds) es)) rows typed clashes);
  }

  pub narrowed_down_any : (es : Outlines) → Each (ArePatternsOf values (t ∷ ts)) rows → ArePatternsOf values ts es → Each (ClashIn (outline any es)) rows → IsMissedIn values (us ++ ts) (narrowed c (length us) rows) (join (anys (length us)) es)
  narrowed_down_any es typed of_es clashes = record {
    typed = typed_join values us ts (anys (length us)) es (typed_anys values us) of_es;
    clashes = each_from (narrow c (length us)) (ClashIn (join (anys (length us)) es)) (λ row. ArePatternsOf values (t ∷ ts) row × ClashIn (outline any es) row) (λ row a. row_down_any values us ts t c at_c es row a.0 a.1) rows (each_both (ArePatternsOf values (t ∷ ts)) (ClashIn (outline any es)) rows typed clashes);
  }

  pub narrowed_lacking : (e : Outline) (es : Outlines) → Each (λ row. asks_for c row ≡ false) rows → ArePatternsOf values ts es → Each (ClashIn (outline e es)) rows → IsMissedIn values (us ++ ts) (narrowed c (length us) rows) (join (anys (length us)) es)
  narrowed_lacking e es lacks of_es clashes = record {
    typed = typed_join values us ts (anys (length us)) es (typed_anys values us) of_es;
    clashes = each_from (narrow c (length us)) (ClashIn (join (anys (length us)) es)) (λ row. (asks_for c row ≡ false) × ClashIn (outline e es) row) (λ row a. row_lacking values us ts t c at_c e es row a.0 a.1) rows (each_both (λ row. asks_for c row ≡ false) (ClashIn (outline e es)) rows lacks clashes);
  }

module _ {T : Type 0} (values : Values T) (t : T) (ts : List T) (rows : List Outlines) where
  pub opened_typed : Each (ArePatternsOf values (t ∷ ts)) rows → Each (ArePatternsOf values ts) (opened rows)
  opened_typed typed = each_from open_row (ArePatternsOf values ts) (ArePatternsOf values (t ∷ ts)) (open_typed values t ts) rows typed

  pub opened_down : (e : Outline) (es : Outlines) → ArePatternsOf values ts es → Each (ClashIn (outline e es)) rows → IsMissedIn values ts (opened rows) es
  opened_down e es of_es clashes = record {
    typed = of_es;
    clashes = each_from open_row (ClashIn es) (ClashIn (outline e es)) (open_down e es) rows clashes;
  }

  pub opened_free : (es : Outlines) → Each (ArePatternsOf values (t ∷ ts)) rows → Each (λ row. asked row ≡ Nothing) rows → IsMissedIn values ts (opened rows) es → IsMissedIn values (t ∷ ts) rows (outline any es)
  opened_free es typed nothing example = record {
    typed = (tt, example.typed);
    clashes = each_to open_row (ClashIn es) (ClashIn (outline any es)) (λ row. ArePatternsOf values (t ∷ ts) row × (asked row ≡ Nothing)) (λ row a b. free_up values t ts es row a.0 a.1 b) rows (each_both (ArePatternsOf values (t ∷ ts)) (λ row. asked row ≡ Nothing) rows typed nothing) example.clashes;
  }

  pub opened_number : (n : ℤ) (es : Outlines) → Each (ArePatternsOf values (t ∷ ts)) rows → Each (LacksNumber n) rows → IsPatternOf values t (exactly n) → IsMissedIn values ts (opened rows) es → IsMissedIn values (t ∷ ts) rows (outline (exactly n) es)
  opened_number n es typed lacks of_n example = record {
    typed = (of_n, example.typed);
    clashes = each_to open_row (ClashIn es) (ClashIn (outline (exactly n) es)) (λ row. ArePatternsOf values (t ∷ ts) row × LacksNumber n row) (λ row a b. number_up values t ts n es row a.0 a.1 b) rows (each_both (ArePatternsOf values (t ∷ ts)) (LacksNumber n) rows typed lacks) example.clashes;
  }

-- what the first question of the rows says of the first type
pub none_asked : (rows : List Outlines) → first_asked rows ≡ Nothing → Each (λ row. asked row ≡ Nothing) rows
none_asked [] is = tt
none_asked (row ∷ rows) is = split (asked row) (first_asked rows) refl is (none_asked rows)
  where
    split : (a b : Asked) → asked row ≡ a → or_else a b ≡ Nothing → (b ≡ Nothing → Each (λ row. asked row ≡ Nothing) rows) → (asked row ≡ Nothing) × Each (λ row. asked row ≡ Nothing) rows
    split Nothing b at e rest = (at, rest e)
    split Number b at e rest = absurd (cc)
    split (Constructor c) b at e rest = absurd (cc)

number_typed : {T : Type 0} (values : Values T) (t : T) (ts : List T) (row : Outlines) → ArePatternsOf values (t ∷ ts) row → asked row ≡ Number → IsTrue (values.has_numbers t)
number_typed values t ts no_outline a is = absurd a
number_typed values t ts (outline any ps) a is = absurd (cc)
number_typed values t ts (outline (exactly n) ps) a is = a.0
number_typed values t ts (outline (made d qs) ps) a is = absurd (cc)

pub number_asked : {T : Type 0} (values : Values T) (t : T) (ts : List T) (rows : List Outlines) → Each (ArePatternsOf values (t ∷ ts)) rows → first_asked rows ≡ Number → IsTrue (values.has_numbers t)
number_asked values t ts [] typed is = absurd (cc)
number_asked values t ts (row ∷ rows) typed is = split (asked row) (first_asked rows) refl is (number_asked values t ts rows typed.1)
  where
    split : (a b : Asked) → asked row ≡ a → or_else a b ≡ Number → (b ≡ Number → IsTrue (values.has_numbers t)) → IsTrue (values.has_numbers t)
    split Nothing b at e rest = rest e
    split Number b at e rest = number_typed values t ts row typed.0 at
    split (Constructor c) b at e rest = absurd (cc)

constructor_typed : {T : Type 0} (values : Values T) (t : T) (ts : List T) (c : ℕ) (row : Outlines) → ArePatternsOf values (t ∷ ts) row → asked row ≡ Constructor c → (us : List T) × (values.fields t c ≡ Some us)
constructor_typed values t ts c no_outline a is = absurd a
constructor_typed values t ts c (outline any ps) a is = absurd (cc)
constructor_typed values t ts c (outline (exactly n) ps) a is = absurd (cc)
constructor_typed values t ts c (outline (made d qs) ps) a is =
    let same : d ≡ c = cc in
    (a.0.0, subst (λ k. values.fields t k ≡ Some a.0.0) same a.0.1)

pub constructor_asked : {T : Type 0} (values : Values T) (t : T) (ts : List T) (c : ℕ) (rows : List Outlines) → Each (ArePatternsOf values (t ∷ ts)) rows → first_asked rows ≡ Constructor c → (us : List T) × (values.fields t c ≡ Some us)
constructor_asked values t ts c [] typed is = absurd (cc)
constructor_asked {T} values t ts c (row ∷ rows) typed is = split (asked row) (first_asked rows) refl is (constructor_asked values t ts c rows typed.1)
  where
    split : (a b : Asked) → asked row ≡ a → or_else a b ≡ Constructor c → (b ≡ Constructor c → (us : List T) × (values.fields t c ≡ Some us)) → (us : List T) × (values.fields t c ≡ Some us)
    split Nothing b at e rest = rest e
    split Number b at e rest = absurd (cc)
    split (Constructor d) b at e rest = constructor_typed values t ts c row typed.0 (let same : Constructor d ≡ Constructor c = e in cc)

-- rows that do not have a constructor first
pub lacks_constructor : (c : ℕ) (rows : List Outlines) → has_constructor c rows ≡ false → Each (λ row. asks_for c row ≡ false) rows
lacks_constructor c [] is = tt
lacks_constructor c (row ∷ rows) is = split (asks_for c row) (has_constructor c rows) refl is (lacks_constructor c rows)
  where
    split : (a b : Bool) → asks_for c row ≡ a → (a || b) ≡ false → (b ≡ false → Each (λ row. asks_for c row ≡ false) rows) → (asks_for c row ≡ false) × Each (λ row. asks_for c row ≡ false) rows
    split true b at e rest = absurd (both_ways true e refl)
    split false b at e rest = (at, rest e)

-- a row that asks nothing clashes with nothing
pub blank_clash : (row es : Outlines) → is_blank row ≡ true → ClashIn es row → ⊥
blank_clash no_outline no_outline is b = b
blank_clash no_outline (outline e es) is b = b
blank_clash (outline any ps) no_outline is b = b
blank_clash (outline any ps) (outline e es) is b = elim b [ inl h ↦ nothing e h | inr h ↦ blank_clash ps es is h ]
  where
    nothing : (e : Outline) → Clash e any → ⊥
    nothing any h = h
    nothing (exactly n) h = h
    nothing (made c qs) h = h
blank_clash (outline (exactly n) ps) es is b = both_ways false refl is
blank_clash (outline (made c qs) ps) es is b = both_ways false refl is

pub blanks_clash : (rows : List Outlines) (es : Outlines) → has_blank rows ≡ true → Each (ClashIn es) rows → ⊥
blanks_clash [] es is clashes = both_ways false refl is
blanks_clash (row ∷ rows) es is clashes = split (is_blank row) (has_blank rows) refl is (λ rest. blanks_clash rows es rest clashes.1)
  where
    split : (a b : Bool) → is_blank row ≡ a → (a || b) ≡ true → (b ≡ true → ⊥) → ⊥
    split true b at e rest = blank_clash row es at clashes.0
    split false b at e rest = rest e
