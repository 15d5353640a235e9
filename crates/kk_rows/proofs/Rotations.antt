-- The first positions of rows, turned to their end: types, examples and weights.
use Rattle.std.proofs.Common.{◌≡◌, ◌≤◌, inl, inr, ℕ, List, [], ◌∷◌, ◌++◌, length, map, take, drop, refl, sym, ap, subst, arith, length-append}
use Rattle.std.proofs.lemmas.List.{take-append-drop, length-take-le}
use Rattle.kk_syntax.specs.Covered.{Each}
use Rattle.kk_syntax.specs.Outlines.{any, exactly, made, Outlines, no_outline, outline, ClashIn}
use Rattle.kk_syntax.specs.OfType.{Values, ArePatternsOf}
use Rattle.kk_slots.specs.Narrowing.{IsMissedIn, IsCoveredIn, join, front, back}
use Rattle.kk_slots.specs.Problems.{OpenProblem}
use Rattle.kk_slots.specs.Turned.{rotated, leading, first_leading, turned}
use Rattle.kk_rows.proofs.PatternLists.{typed_join, typed_front, typed_back, clash_split, clash_left, clash_right}
use Rattle.kk_rows.proofs.SearchSoundness.{Leads, Closed}

each_map : {X Y : Type 0} (f : X → Y) (P : Y → Type 0) (Q : X → Type 0) → ((x : X) → Q x → P (f x)) → (xs : List X) → Each Q xs → Each P (map f xs)
each_map f P Q h [] a = tt
each_map f P Q h (x ∷ xs) a = (h x a.0, each_map f P Q h xs a.1)

each_back_from : {X Y : Type 0} (f : X → Y) (P : Y → Type 0) (Q R : X → Type 0) → ((x : X) → Q x → P (f x) → R x) → (xs : List X) → Each Q xs → Each P (map f xs) → Each R xs
each_back_from f P Q R h [] a b = tt
each_back_from f P Q R h (x ∷ xs) a b = (h x a.0 b.0, each_back_from f P Q R h xs a.1 b.1)

each_two : {X Y : Type 0} (f : X → Y) (P : Y → Type 0) (Q R : X → Type 0) → ((x : X) → Q x → R x → P (f x)) → (xs : List X) → Each Q xs → Each R xs → Each P (map f xs)
each_two f P Q R h [] a b = tt
each_two f P Q R h (x ∷ xs) a b = (h x a.0 b.0, each_two f P Q R h xs a.1 b.1)

join_parts : {T : Type 0} (values : Values T) (us ts : List T) (es : Outlines) → ArePatternsOf values (us ++ ts) es → join (front (length us) es) (back (length us) es) ≡ es
join_parts values [] ts es a = refl
join_parts values (u ∷ us) ts no_outline a = absurd a
join_parts values (u ∷ us) ts (outline e es) a = ap (outline e) (join_parts values us ts es a.1)

module _ {T : Type 0} (values : Values T) (us ts : List T) where
  rotated_typed : (ps : Outlines) → ArePatternsOf values (us ++ ts) ps → ArePatternsOf values (ts ++ us) (rotated (length us) ps)
  rotated_typed ps a = typed_join values ts us (back (length us) ps) (front (length us) ps) (typed_back values us ts ps a) (typed_front values us ts ps a)

  rotated_clash : (es row : Outlines) → ArePatternsOf values (us ++ ts) es → ArePatternsOf values (us ++ ts) row → ClashIn es row → ClashIn (rotated (length us) es) (rotated (length us) row)
  rotated_clash es row a b h =
      let parts = subst (ClashIn es) (sym (join_parts values us ts row b)) h in
      elim (clash_split values us (front (length us) row) (back (length us) row) es (typed_front values us ts row b) parts) [
        | inl g ↦ clash_right values ts (back (length us) es) (back (length us) row) (front (length us) es) (front (length us) row) (typed_back values us ts es a) (typed_back values us ts row b) g
        | inr g ↦ clash_left values ts (back (length us) es) (back (length us) row) (front (length us) es) (front (length us) row) (typed_back values us ts es a) (typed_back values us ts row b) g
      ]

  unrotated_clash : (es row : Outlines) → ArePatternsOf values (ts ++ us) es → ArePatternsOf values (us ++ ts) row → ClashIn es (rotated (length us) row) → ClashIn (rotated (length ts) es) row
  unrotated_clash es row a b h =
      subst (ClashIn (rotated (length ts) es)) (join_parts values us ts row b)
      (elim (clash_split values ts (back (length us) row) (front (length us) row) es (typed_back values us ts row b) h) [
        | inl g ↦ clash_right values us (back (length ts) es) (front (length us) row) (front (length ts) es) (back (length us) row) (typed_back values ts us es a) (typed_front values us ts row b) g
        | inr g ↦ clash_left values us (back (length ts) es) (front (length us) row) (front (length ts) es) (back (length us) row) (typed_back values ts us es a) (typed_front values us ts row b) g
      ])

  rows_typed : (rows : List Outlines) → Each (ArePatternsOf values (us ++ ts)) rows → Each (ArePatternsOf values (ts ++ us)) (map (rotated (length us)) rows)
  rows_typed rows typed = each_map (rotated (length us)) (ArePatternsOf values (ts ++ us)) (ArePatternsOf values (us ++ ts)) rotated_typed rows typed

  rows_down : (rows : List Outlines) (es : Outlines) → Each (ArePatternsOf values (us ++ ts)) rows → IsMissedIn values (us ++ ts) rows es → IsMissedIn values (ts ++ us) (map (rotated (length us)) rows) (rotated (length us) es)
  rows_down rows es typed example = record {
    typed = rotated_typed es example.typed;
    clashes = each_two (rotated (length us)) (ClashIn (rotated (length us) es)) (ArePatternsOf values (us ++ ts)) (ClashIn es) (λ row a b. rotated_clash es row example.typed a b) rows typed example.clashes;
  }

-- of the rows before, from the rows that are turned
rows_up : {T : Type 0} (values : Values T) (us ts : List T) (rows : List Outlines) (es : Outlines) → Each (ArePatternsOf values (us ++ ts)) rows → IsMissedIn values (ts ++ us) (map (rotated (length us)) rows) es → IsMissedIn values (us ++ ts) rows (rotated (length ts) es)
rows_up values us ts rows es typed example = record {
  typed = rotated_typed values ts us es example.typed;
  clashes = each_back_from (rotated (length us)) (ClashIn es) (ArePatternsOf values (us ++ ts)) (ClashIn (rotated (length ts) es)) (λ row a b. unrotated_clash values us ts es row example.typed a b) rows typed example.clashes;
}

leading_within : {T : Type 0} (values : Values T) (ts : List T) (row : Outlines) → ArePatternsOf values ts row → leading row ≤ length ts
leading_within values [] no_outline a = omega arith
leading_within values [] (outline p ps) a = absurd a
leading_within values (t ∷ ts) no_outline a = absurd a
leading_within values (t ∷ ts) (outline any ps) a = omega (arith, leading_within values ts ps a.1)
leading_within values (t ∷ ts) (outline (exactly n) ps) a = omega arith
leading_within values (t ∷ ts) (outline (made c qs) ps) a = omega arith

first_within : {T : Type 0} (values : Values T) (ts : List T) (rows : List Outlines) → Each (ArePatternsOf values ts) rows → first_leading rows ≤ length ts
first_within values ts [] a = omega arith
first_within values ts (row ∷ rows) a = leading_within values ts row a.0

-- the types of the first positions and those of the others
split_types : {T : Type 0} (P : List T → Type 0) (k : ℕ) (types : List T) → k ≤ length types → ((us ts : List T) → length us ≡ k → P (us ++ ts)) → P types
split_types P k types le h = subst P (take-append-drop k types) (h (take k types) (drop k types) (length-take-le k types le))

module _ {T : Type 0} (values : Values T) (p : OpenProblem) where
  pub closed_turned : Closed values (turned p) → Closed values p
  closed_turned closed = record { covered = λ types wide typed. at types (first_within values types p.rows typed) wide typed }
    where
      parts : (us ts : List T) → length us ≡ first_leading p.rows → length (us ++ ts) ≡ p.width → Each (ArePatternsOf values (us ++ ts)) p.rows → IsCoveredIn values (us ++ ts) p.rows
      parts us ts len wide typed es example =
          let rows = subst (λ k. Each (ArePatternsOf values (ts ++ us)) (map (rotated k) p.rows)) len (rows_typed values us ts p.rows typed) in
          let down = subst (λ k. IsMissedIn values (ts ++ us) (map (rotated k) p.rows) (rotated (length us) es)) len (rows_down values us ts p.rows es typed example) in
          closed.covered (ts ++ us) (omega (arith, length-append us ts, length-append ts us, wide)) rows (rotated (length us) es) down

      at : (types : List T) → first_leading p.rows ≤ length types → length types ≡ p.width → Each (ArePatternsOf values types) p.rows → IsCoveredIn values types p.rows
      at types le = split_types (λ xs. length xs ≡ p.width → Each (ArePatternsOf values xs) p.rows → IsCoveredIn values xs p.rows) (first_leading p.rows) types le parts

  pub leads_turned : (S : Type 0) → Leads values (λ es. S) p → Leads values (λ es. S) (turned p)
  leads_turned S leads = at leads.types (first_within values leads.types p.rows leads.typed) leads.wide leads.typed leads.lifts
    where
      parts : (us ts : List T) → length us ≡ first_leading p.rows → length (us ++ ts) ≡ p.width → Each (ArePatternsOf values (us ++ ts)) p.rows → ((es : Outlines) → IsMissedIn values (us ++ ts) p.rows es → S) → Leads values (λ es. S) (turned p)
      parts us ts len wide typed lifts = record {
        types = ts ++ us;
        wide = omega (arith, length-append us ts, length-append ts us, wide);
        typed = subst (λ k. Each (ArePatternsOf values (ts ++ us)) (map (rotated k) p.rows)) len (rows_typed values us ts p.rows typed);
        lifts = λ es example. lifts (rotated (length ts) es) (rows_up values us ts p.rows es typed (subst (λ k. IsMissedIn values (ts ++ us) (map (rotated k) p.rows) es) (sym len) example));
      }

      at : (types : List T) → first_leading p.rows ≤ length types → length types ≡ p.width → Each (ArePatternsOf values types) p.rows → ((es : Outlines) → IsMissedIn values types p.rows es → S) → Leads values (λ es. S) (turned p)
      at types le = split_types (λ xs. length xs ≡ p.width → Each (ArePatternsOf values xs) p.rows → ((es : Outlines) → IsMissedIn values xs p.rows es → S) → Leads values (λ es. S) (turned p)) (first_leading p.rows) types le parts
