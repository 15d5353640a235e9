-- What stands at a position of a value of a type is of a type too, and shows a constructor with fields exactly where it is a
-- cell's place.
use Rattle.std.proofs.Common.{◌≡◌, ℕ, zero, suc, nat_eq, Bool, true, false, Option, None, Some, option_map, List, [], ◌∷◌, map, length, refl, sym, ap, ◌∙◌, subst, arith}
use Rattle.std.specs.Prelude.{slice_get, if◌then◌else◌, ◌==◌}
use Rattle.std.proofs.lemmas.Bool.{ne_eqb}
use Rattle.std.proofs.lemmas.List.{length-map}
use Rattle.std.proofs.lemmas.Option.{none-some, same_Some, slice_get-map, get_or_from_slice_get}
use Rattle.kk_syntax.specs.OfType.{same_types, with_arguments, fields_with, fields_of, field_types}
use Rattle.kk_syntax.specs.Programs.{ConstructorTree}
use Rattle.kk_syntax.specs.Types.{TypeTree, TypeTrees, int32, unit_type, type_variable, named}
use Rattle.kk_source.specs.Matching.{and_then}
use Rattle.kk_source.specs.State.{Value, integer, Store}
use Rattle.kk_source.specs.ValueTypes.{Content, amount, nothing, built, HasContent, IsMadeBy, IsContentOf, IsOf, AreOf}
use Rattle.kk_core.specs.declared.decisions.Answer.{Answer}
use Rattle.kk_core.specs.declared.decisions.Answer.TheVariants.{Number, Constructor}
use Rattle.kk_core.specs.Decisions.{fields_shown, value_at, answer_of}
use Rattle.kk_core.specs.Kinds.{ShowsIts, MakeOneType, field_count}
use Rattle.kk_match.proofs.ConstructorValues.{are_of, made_shows, made_answers}

-- ---- positions

module _ (constructors : List ConstructorTree) (store : Store) where
  fields_typed : (t : TypeTree) (v : Value) (vs : List Value) → IsOf constructors store t v → fields_shown (slice_get store) v ≡ Some vs
      → (ts : List TypeTree) × AreOf constructors store ts vs
  fields_typed t v vs of shown = by of.what of.has of.typed
    where
      by : (what : Content) → HasContent store v what → IsContentOf constructors t what → (ts : List TypeTree) × AreOf constructors store ts vs
      by (amount n) has typed = none (same_Some [] vs (sym (ap (fields_shown (slice_get store)) has) ∙ shown))
        where
          none : [] ≡ vs → (ts : List TypeTree) × AreOf constructors store ts vs
          none is = ([], subst (AreOf constructors store []) is tt)
      by nothing has typed = none (same_Some [] vs (sym (ap (fields_shown (slice_get store)) has) ∙ shown))
        where
          none : [] ≡ vs → (ts : List TypeTree) × AreOf constructors store ts vs
          none is = ([], subst (AreOf constructors store []) is tt)
      by (built d parts) has typed = (
        typed.0,
        subst (AreOf constructors store typed.0) (same_Some has.0 vs (sym (made_shows store v d has.0 has.1) ∙ shown))
            (are_of constructors store typed.0 has.0 parts has.2 typed.2),
      )

  field_typed : (ts : List TypeTree) (vs : List Value) (i : ℕ) (x : Value) → AreOf constructors store ts vs → slice_get vs i ≡ Some x
      → (t : TypeTree) × IsOf constructors store t x
  field_typed ts [] i x are is = absurd (none-some x is)
  field_typed [] (v ∷ vs) i x are is = absurd are
  field_typed (t ∷ ts) (v ∷ vs) zero x are is = (t, subst (IsOf constructors store t) (same_Some v x is) are.0)
  field_typed (t ∷ ts) (v ∷ vs) (suc i) x are is = field_typed ts vs i x are.1 is

  pub typed_at : (at : List ℕ) (t : TypeTree) (v w : Value) → IsOf constructors store t v → value_at (slice_get store) at v ≡ Some w
      → (u : TypeTree) × IsOf constructors store u w
  typed_at [] t v w of is = (t, subst (IsOf constructors store t) (same_Some v w is) of)
  typed_at (field ∷ way) t v w of is =
      by (fields_shown (slice_get store) v) refl is (λ x u one. typed_at way u x w one)
    where
      Behind : Type 0
      Behind = (x : Value) (u : TypeTree) → IsOf constructors store u x → value_at (slice_get store) way x ≡ Some w
          → (u : TypeTree) × IsOf constructors store u w

      at_field : (vs : List Value) (found : Option Value) → (ts : List TypeTree) × AreOf constructors store ts vs → slice_get vs field ≡ found
          → and_then found (value_at (slice_get store) way) ≡ Some w → Behind → (u : TypeTree) × IsOf constructors store u w
      at_field vs None are there is behind = absurd (none-some w is)
      at_field vs (Some x) are there is behind =
          let one = field_typed are.0 vs field x are.1 there in behind x one.0 one.1 is

      by : (shown : Option (List Value)) → fields_shown (slice_get store) v ≡ shown
          → and_then (and_then shown (λ fields. slice_get fields field)) (value_at (slice_get store) way) ≡ Some w → Behind
          → (u : TypeTree) × IsOf constructors store u w
      by None there is behind = absurd (none-some w is)
      by (Some vs) there is behind = at_field vs (slice_get vs field) (fields_typed t v vs of there) refl is behind

-- ---- how many fields

same_length : (constructors : List ConstructorTree) (store : Store) (ts : List TypeTree) (vs : List Value) → AreOf constructors store ts vs → length ts ≡ length vs
same_length constructors store [] [] are = refl
same_length constructors store [] (v ∷ vs) are = absurd are
same_length constructors store (t ∷ ts) [] are = absurd are
same_length constructors store (t ∷ ts) (v ∷ vs) are = ap suc (same_length constructors store ts vs are.1)

fields_long : (own : Option TypeTrees) (fields : List TypeTree) (arguments : TypeTrees) (us : List TypeTree) → fields_with own fields arguments ≡ Some us
    → length us ≡ length fields
fields_long None fields arguments us is =
    ap length (sym (same_Some (map (with_arguments arguments) fields) us is)) ∙ length-map fields (with_arguments arguments)
fields_long (Some own) fields arguments us is = by (same_types own arguments) is
  where
    by : (b : Bool) → (if b then Some fields else None) ≡ Some us → length us ≡ length fields
    by true is = ap length (sym (same_Some fields us is))
    by false is = absurd (none-some us is)

-- a constructor of a type has as many fields as there
pub counted_fields : (constructors : List ConstructorTree) (t : TypeTree) (c : ℕ) (us : List TypeTree) → field_types constructors t c ≡ Some us
    → field_count constructors c ≡ length us
counted_fields constructors int32 c us is = absurd (none-some us is)
counted_fields constructors unit_type c us is = absurd (none-some us is)
counted_fields constructors (type_variable of) c us is = absurd (none-some us is)
counted_fields constructors (named by arguments) c us is = at (slice_get constructors c) refl is
  where
    of_it : (one : ConstructorTree) (b : Bool) → (if b then fields_with one.arguments one.fields arguments else None) ≡ Some us → length us ≡ length one.fields
    of_it one true is = fields_long one.arguments one.fields arguments us is
    of_it one false is = absurd (none-some us is)

    at : (found : Option ConstructorTree) → slice_get constructors c ≡ found → fields_of found by arguments ≡ Some us → field_count constructors c ≡ length us
    at None there is = absurd (none-some us is)
    at (Some one) there is =
        get_or_from_slice_get (map (λ (k : ConstructorTree). length k.fields) constructors) c (length one.fields) 0
        (slice_get-map (λ (k : ConstructorTree). length k.fields) constructors c ∙ ap (option_map (λ (k : ConstructorTree). length k.fields)) there)
        ∙ sym (of_it one (one.of_type == by) is)

-- ---- what is shown

pub shows_its : (constructors : List ConstructorTree) (store : Store) (t : TypeTree) (w : Value) (found : Answer) → IsOf constructors store t w
    → answer_of (slice_get store) w ≡ Some found → ShowsIts (MakeOneType constructors) (field_count constructors) w found
shows_its constructors store t w found of answers = by of.what of.has of.typed
  where
    Shows : Value → Answer → Type 0
    Shows = ShowsIts (MakeOneType constructors) (field_count constructors)

    by : (what : Content) → HasContent store w what → IsContentOf constructors t what → Shows w found
    by (amount n) has typed =
        subst (λ v. Shows v found) (sym has)
        (subst (Shows (integer n)) (same_Some (Number n) found (sym (ap (answer_of (slice_get store)) has) ∙ answers)) refl)
    by nothing has typed = absurd (none-some found (sym (ap (answer_of (slice_get store)) has) ∙ answers))
    by (built d parts) has typed =
        subst (Shows w) (same_Some (Constructor d) found (sym (made_answers store w d has.0 has.1) ∙ answers))
        (made has.0 has.1
        (counted_fields constructors t d typed.0 typed.1 ∙ same_length constructors store typed.0 has.0 (are_of constructors store typed.0 has.0 parts has.2 typed.2)))
      where
        made : (vs : List Value) → IsMadeBy store w d vs → field_count constructors d ≡ length vs → Shows w (Constructor d)
        made [] is counted = subst (λ v. Shows v (Constructor d)) (sym is) (ap (λ n. nat_eq n 0) counted)
        made (v ∷ vs) is counted =
            subst (λ v. Shows v (Constructor d)) (sym is.1) (ap (λ n. nat_eq n 0) counted ∙ ne_eqb (suc (length vs)) 0 (λ e. omega (arith, e)))
