-- One row, before and after its first position is known.
use Rattle.std.proofs.Common.{◌≡◌, inl, inr, ℕ, ℤ, false, ◌==◌, List, ◌∷◌, ◌++◌, length, Some, sym, subst}
use Rattle.std.proofs.lemmas.Bool.{both_ways, eqb-true, eq-eqb, cases_eq}
use Rattle.kk_slots.specs.declared.problem.Asked.TheVariants.{Nothing}
use Rattle.kk_syntax.specs.Outlines.{Outline, any, exactly, made, Outlines, no_outline, outline, ClashIn}
use Rattle.kk_syntax.specs.OfType.{Values, ArePatternsOf}
use Rattle.kk_slots.specs.Narrowing.{join, anys, front, back, narrow, open_row}
use Rattle.kk_slots.specs.Problems.{asks_for, asked, LacksNumber}
use Rattle.kk_rows.proofs.PatternLists.{typed_join, typed_anys, any_clash, anys_clash, clash_split, clash_left, clash_right}
use Rattle.kk_rows.proofs.KeptRows.{IfKept, if_so_from, if_so_to}

-- a constructor has its fields' types once
same_fields : {T : Type 0} (values : Values T) (t : T) (c d : ℕ) (us vs : List T) (qs : Outlines) → values.fields t c ≡ Some us → values.fields t d ≡ Some vs → d ≡ c → ArePatternsOf values vs qs → ArePatternsOf values us qs
same_fields values t c d us vs qs at_c at_d e typed =
    let there : values.fields t d ≡ Some us = subst (λ k. values.fields t k ≡ Some us) (sym e) at_c in
    let same : vs ≡ us = cc in
    subst (λ ws. ArePatternsOf values ws qs) same typed

module _ {T : Type 0} (values : Values T) (us ts : List T) (t : T) (c : ℕ) (at_c : values.fields t c ≡ Some us) where
  pub row_typed : (row : Outlines) → ArePatternsOf values (t ∷ ts) row → IfKept (narrow c (length us) row) (ArePatternsOf values (us ++ ts))
  row_typed no_outline a = tt
  row_typed (outline any ps) a = typed_join values us ts (anys (length us)) ps (typed_anys values us) a.1
  row_typed (outline (exactly n) ps) a = tt
  row_typed (outline (made d qs) ps) a =
      if_so_from (d == c) (join qs ps) (ArePatternsOf values (us ++ ts))
      (λ e. typed_join values us ts qs ps (same_fields values t c d us a.0.0 qs at_c a.0.1 (eqb-true d c e) a.0.2) a.1)

  pub row_up : (es row : Outlines) → ArePatternsOf values (t ∷ ts) row → IfKept (narrow c (length us) row) (ClashIn es) → ClashIn (outline (made c (front (length us) es)) (back (length us) es)) row
  row_up es no_outline a b = absurd a
  row_up es (outline any ps) a b = elim (clash_split values us (anys (length us)) ps es (typed_anys values us) b) [
    | inl h ↦ absurd (anys_clash (length us) (front (length us) es) h)
    | inr h ↦ inr h
  ]
  row_up es (outline (exactly n) ps) a b = inl tt
  row_up es (outline (made d qs) ps) a b = elim (cases_eq d c) [
    | inl e ↦ elim (clash_split values us qs ps es (same_fields values t c d us a.0.0 qs at_c a.0.1 e a.0.2) (if_so_to (d == c) (join qs ps) (ClashIn es) (eq-eqb d c e) b)) [
      | inl h ↦ inl (inr h)
      | inr h ↦ inr h
    ]
    | inr ne ↦ inl (inl (λ e. ne (sym e)))
  ]

  pub row_down : (ds es : Outlines) → ArePatternsOf values us ds → (row : Outlines) → ArePatternsOf values (t ∷ ts) row → ClashIn (outline (made c ds) es) row → IfKept (narrow c (length us) row) (ClashIn (join ds es))
  row_down ds es typed no_outline a b = tt
  row_down ds es typed (outline any ps) a b = elim b [
    | inl h ↦ absurd h
    | inr h ↦ clash_right values us ds (anys (length us)) es ps typed (typed_anys values us) h
  ]
  row_down ds es typed (outline (exactly n) ps) a b = tt
  row_down ds es typed (outline (made d qs) ps) a b = if_so_from (d == c) (join qs ps) (ClashIn (join ds es)) (λ e.
      let same : d ≡ c = eqb-true d c e in
      let here : ArePatternsOf values us qs = same_fields values t c d us a.0.0 qs at_c a.0.1 same a.0.2 in
      elim b [
        | inl g ↦ elim g [
          | inl ne ↦ absurd (ne (sym same))
          | inr h ↦ clash_left values us ds qs es ps typed here h
        ]
        | inr h ↦ clash_right values us ds qs es ps typed here h
      ])

  pub row_down_any : (es row : Outlines) → ArePatternsOf values (t ∷ ts) row → ClashIn (outline any es) row → IfKept (narrow c (length us) row) (ClashIn (join (anys (length us)) es))
  row_down_any es no_outline a b = tt
  row_down_any es (outline any ps) a b = elim b [
    | inl h ↦ absurd h
    | inr h ↦ clash_right values us (anys (length us)) (anys (length us)) es ps (typed_anys values us) (typed_anys values us) h
  ]
  row_down_any es (outline (exactly n) ps) a b = tt
  row_down_any es (outline (made d qs) ps) a b = if_so_from (d == c) (join qs ps) (ClashIn (join (anys (length us)) es)) (λ e. elim b [
    | inl h ↦ absurd h
    | inr h ↦ clash_right values us (anys (length us)) qs es ps (typed_anys values us) (same_fields values t c d us a.0.0 qs at_c a.0.1 (eqb-true d c e) a.0.2) h
  ])

  -- a row that does not ask for the constructor
  pub row_lacking : (e : Outline) (es row : Outlines) → asks_for c row ≡ false → ClashIn (outline e es) row → IfKept (narrow c (length us) row) (ClashIn (join (anys (length us)) es))
  row_lacking e es no_outline a b = tt
  row_lacking e es (outline any ps) a b = elim b [
    | inl h ↦ absurd (any_clash e h)
    | inr h ↦ clash_right values us (anys (length us)) (anys (length us)) es ps (typed_anys values us) (typed_anys values us) h
  ]
  row_lacking e es (outline (exactly n) ps) a b = tt
  row_lacking e es (outline (made d qs) ps) a b = if_so_from (d == c) (join qs ps) (ClashIn (join (anys (length us)) es)) (λ is. absurd (both_ways (d == c) a is))

module _ {T : Type 0} (values : Values T) (t : T) (ts : List T) where
  pub open_typed : (row : Outlines) → ArePatternsOf values (t ∷ ts) row → IfKept (open_row row) (ArePatternsOf values ts)
  open_typed no_outline a = tt
  open_typed (outline any ps) a = a.1
  open_typed (outline (exactly n) ps) a = tt
  open_typed (outline (made d qs) ps) a = tt

  pub number_up : (n : ℤ) (es row : Outlines) → ArePatternsOf values (t ∷ ts) row → LacksNumber n row → IfKept (open_row row) (ClashIn es) → ClashIn (outline (exactly n) es) row
  number_up n es no_outline a l b = absurd a
  number_up n es (outline any ps) a l b = inr b
  number_up n es (outline (exactly m) ps) a l b = inl (λ e. l (sym e))
  number_up n es (outline (made d qs) ps) a l b = inl tt

  pub free_up : (es row : Outlines) → ArePatternsOf values (t ∷ ts) row → asked row ≡ Nothing → IfKept (open_row row) (ClashIn es) → ClashIn (outline any es) row
  free_up es no_outline a l b = absurd a
  free_up es (outline any ps) a l b = inr b
  free_up es (outline (exactly m) ps) a l b = absurd (cc)
  free_up es (outline (made d qs) ps) a l b = absurd (cc)

pub open_down : (e : Outline) (es row : Outlines) → ClashIn (outline e es) row → IfKept (open_row row) (ClashIn es)
open_down e es no_outline b = tt
open_down e es (outline any ps) b = elim b [ inl h ↦ absurd (any_clash e h) | inr h ↦ h ]
open_down e es (outline (exactly m) ps) b = tt
open_down e es (outline (made d qs) ps) b = tt
