-- What a value of a type is where a constructor makes values of that type: one constructor made it, of that type.
use Rattle.std.proofs.Common.{◌≡◌, ℕ, zero, suc, ◌+◌, ◌≤◌, false, None, Some, option_map, List, [], ◌∷◌, refl, sym, ap, ◌∙◌, subst, arith}
use Rattle.std.specs.Prelude.{slice_get, count_by, cond, if◌then◌else◌, ◌==◌}
use Rattle.std.proofs.lemmas.Bool.{eq-eqb, ltb-false}
use Rattle.std.proofs.lemmas.List.Sums.{sum_by-cons}
use Rattle.std.proofs.lemmas.Option.{none-some, same_Some}
use Rattle.kk_syntax.specs.OfType.{field_types}
use Rattle.kk_syntax.specs.Programs.{ConstructorTree}
use Rattle.kk_syntax.specs.Types.{TypeTree}
use Rattle.kk_source.specs.Matching.{fields_under, fields_made_by}
use Rattle.kk_source.specs.State.{Value, Cell, Store}
use Rattle.kk_source.specs.ValueTypes.{Content, amount, nothing, built, Contents, no_content, content, IsMadeBy, HasContent, HaveContents, IsContentOf, AreContentsOf, IsOf, AreOf}
use Rattle.kk_core.specs.declared.decisions.Answer.TheVariants.{Constructor}
use Rattle.kk_core.specs.Decisions.{fields_shown, answer_of}
use Rattle.kk_match.specs.Parts.{are_several, has_several, both_same, IsKind, AreOfOne}

-- ---- the value

-- a constructor with these fields made the value, and each field is of its type
pub record WasMade (constructors : List ConstructorTree) (store : Store) (t : TypeTree) (v : Value) : Type 0 where
  pub by : ℕ
  pub values : List Value
  pub made : IsMadeBy store v by values
  pub types : List TypeTree
  pub of_type : field_types constructors t by ≡ Some types
  pub are : AreOf constructors store types values

pub are_of : (constructors : List ConstructorTree) (store : Store) (ts : List TypeTree) (vs : List Value) (cs : Contents) → HaveContents store vs cs → AreContentsOf constructors ts cs
    → AreOf constructors store ts vs
are_of constructors store [] [] no_content have typed = tt
are_of constructors store [] [] (content c cs) have typed = absurd have
are_of constructors store [] (v ∷ vs) no_content have typed = absurd have
are_of constructors store [] (v ∷ vs) (content c cs) have typed = absurd typed
are_of constructors store (t ∷ ts) [] no_content have typed = absurd typed
are_of constructors store (t ∷ ts) [] (content c cs) have typed = absurd have
are_of constructors store (t ∷ ts) (v ∷ vs) no_content have typed = absurd have
are_of constructors store (t ∷ ts) (v ∷ vs) (content c cs) have typed = (record { what = c; has = have.0; typed = typed.0 }, are_of constructors store ts vs cs have.1 typed.1)

pub was_made : (constructors : List ConstructorTree) (store : Store) (t : TypeTree) (v : Value) (c : ℕ) (us : List TypeTree) → IsOf constructors store t v
    → field_types constructors t c ≡ Some us → WasMade constructors store t v
was_made constructors store t v c us of fields = by of.what of.has of.typed
  where
    by : (what : Content) → HasContent store v what → IsContentOf constructors t what → WasMade constructors store t v
    by (amount n) has typed = absurd (none-some us (subst (λ u. field_types constructors u c ≡ Some us) typed fields))
    by nothing has typed = absurd (none-some us (subst (λ u. field_types constructors u c ≡ Some us) typed fields))
    by (built d parts) has typed = record {
      by = d;
      values = has.0;
      made = has.1;
      types = typed.0;
      of_type = typed.1;
      are = are_of constructors store typed.0 has.0 parts has.2 typed.2;
    }

-- ---- what it shows

pub made_shows : (store : Store) (v : Value) (d : ℕ) (vs : List Value) → IsMadeBy store v d vs → fields_shown (slice_get store) v ≡ Some vs
made_shows store v d [] made = ap (fields_shown (slice_get store)) made
made_shows store v d (w ∷ ws) made = ap (fields_shown (slice_get store)) made.1 ∙ ap (option_map (λ (cell : Cell). cell.fields)) made.2

pub made_answers : (store : Store) (v : Value) (d : ℕ) (vs : List Value) → IsMadeBy store v d vs → answer_of (slice_get store) v ≡ Some (Constructor d)
made_answers store v d [] made = ap (answer_of (slice_get store)) made
made_answers store v d (w ∷ ws) made = ap (answer_of (slice_get store)) made.1 ∙ ap (option_map (λ (cell : Cell). Constructor cell.made_by)) made.2

pub made_under : (store : Store) (v : Value) (c d : ℕ) (vs : List Value) → IsMadeBy store v d vs → fields_under store c v ≡ (if d == c then Some vs else None)
made_under store v c d [] made = ap (fields_under store c) made
made_under store v c d (w ∷ ws) made = ap (fields_under store c) made.1 ∙ ap (fields_made_by c) made.2

-- ---- constructors of one type

pub one_kind : (types : List ℕ) (c d : ℕ) → AreOfOne types c d → IsKind types (Constructor c) (Constructor d)
one_kind types c d one =
    ap (λ o. both_same o (slice_get types d)) one.first ∙ (ap (both_same (Some one.of)) one.second ∙ eq-eqb one.of one.of refl)

counted_more : (x of : ℕ) (types : List ℕ) → count_by (λ other. other == of) (x ∷ types) ≡ cond (x == of) 1 0 + count_by (λ other. other == of) types
counted_more x of types = sum_by-cons (λ other. cond (other == of) 1 0) x types

counts : (of : ℕ) (types : List ℕ) (d : ℕ) → slice_get types d ≡ Some of → 1 ≤ count_by (λ other. other == of) types
counts of [] d is = absurd (none-some of is)
counts of (x ∷ types) zero is =
    let more = counted_more x of types in
    let here : ◌≡◌ {A = ℕ} (cond (x == of) 1 0) 1 = ap (λ b. cond b 1 0) (eq-eqb x of (same_Some x of is)) in
    omega (arith, more, here)
counts of (x ∷ types) (suc d) is =
    let more = counted_more x of types in
    let rest = counts of types d is in
    omega (arith, more, rest)

only_one : (of : ℕ) (types : List ℕ) (c d : ℕ) → slice_get types c ≡ Some of → slice_get types d ≡ Some of → count_by (λ other. other == of) types ≤ 1 → c ≡ d
only_one of [] c d one other few = absurd (none-some of one)
only_one of (x ∷ types) zero zero one other few = refl
only_one of (x ∷ types) zero (suc d) one other few =
    let more = counted_more x of types in
    let here : ◌≡◌ {A = ℕ} (cond (x == of) 1 0) 1 = ap (λ b. cond b 1 0) (eq-eqb x of (same_Some x of one)) in
    let rest = counts of types d other in
    absurd (omega (arith, more, here, rest, few))
only_one of (x ∷ types) (suc c) zero one other few =
    let more = counted_more x of types in
    let here : ◌≡◌ {A = ℕ} (cond (x == of) 1 0) 1 = ap (λ b. cond b 1 0) (eq-eqb x of (same_Some x of other)) in
    let rest = counts of types c one in
    absurd (omega (arith, more, here, rest, few))
only_one of (x ∷ types) (suc c) (suc d) one other few =
    let more = counted_more x of types in
    ap suc (only_one of types c d one other (omega (arith, more, few)))

-- where the type of a constructor has no other, it is that one
pub alone : (types : List ℕ) (c d : ℕ) → AreOfOne types c d → has_several types c ≡ false → c ≡ d
alone types c d one few =
    only_one one.of types c d one.first one.second
    (ltb-false 1 (count_by (λ other. other == one.of) types) (ap (are_several types) (sym one.first) ∙ few))
