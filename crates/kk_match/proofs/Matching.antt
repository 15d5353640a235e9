-- A pattern matches a value of its type exactly where the value is as each part of the pattern asks; and what a part looks at
-- is there.
use Rattle.std.proofs.Common.{◌≡◌, ℕ, ℤ, suc, ◌+◌, Bool, true, false, ◌&&◌, Option, None, Some, List, [], ◌∷◌, ◌++◌, refl, sym, ap, ◌∙◌, subst, arith, add-zero, map}
use Rattle.std.specs.Prelude.{slice_get, is_some, if◌then◌else◌, ◌==◌, IsTrue}
use Rattle.std.proofs.lemmas.Bool.{both_ways, eqb-true, eq-eqb}
use Rattle.std.proofs.lemmas.Option.{none-some, same_Some}
use Rattle.kk_syntax.specs.Covered.{Each}
use Rattle.kk_syntax.specs.OfType.{IsPatternOf, ArePatternsOf, values_of, field_types, is_int32}
use Rattle.kk_syntax.specs.Outlines.{outline_of, outlines_of}
use Rattle.kk_syntax.specs.Patterns.{Pattern, anything, variable, exactly, constructor, Patterns, no_part, part}
use Rattle.kk_syntax.specs.Programs.{ConstructorTree}
use Rattle.kk_syntax.specs.Types.{TypeTree, int32, unit_type, type_variable, named}
use Rattle.kk_source.specs.Matching.{matched, matched_all, and_then, fields_under, is_integer}
use Rattle.kk_source.specs.State.{Value, Cell, Store, Environment}
use Rattle.kk_source.specs.ValueTypes.{Content, amount, nothing, built, HasContent, IsContentOf, IsOf, AreOf}
use Rattle.kk_core.specs.declared.decisions.Answer.TheVariants.{Number, Constructor}
use Rattle.kk_core.specs.RowChoice.{first_row}
use Rattle.kk_core.specs.Decisions.{fields_shown, value_at, answer_of, found_at, is_answer}
use Rattle.kk_match.specs.Parts.{AreTypeNumbers, Part, has_several, parts_of, parts_of_all, IsKind}
use Rattle.kk_match.specs.Graphs.{agrees, lines_from}
use Rattle.kk_match.proofs.RowFit.{fits, first_fit, IsReady, AreReady}
use Rattle.kk_match.proofs.ConstructorValues.{WasMade, was_made, made_shows, made_answers, made_under, one_kind, alone}

-- ---- positions

value_further : (cells : ℕ → Option Cell) (at more : List ℕ) (w : Value) → value_at cells (at ++ more) w ≡ and_then (value_at cells at w) (value_at cells more)
value_further cells [] more w = refl
value_further cells (field ∷ at) more w = by (and_then (fields_shown cells w) (λ vs. slice_get vs field)) (λ v. value_further cells at more v)
  where
    by : (v : Option Value) → ((v : Value) → value_at cells (at ++ more) v ≡ and_then (value_at cells at v) (value_at cells more))
        → and_then v (value_at cells (at ++ more)) ≡ and_then (and_then v (value_at cells at)) (value_at cells more)
    by None rest = refl
    by (Some v) rest = rest v

field_at : (cells : ℕ → Option Cell) (w v : Value) (at : List ℕ) (vs : List Value) (field : ℕ) (x : Value) → value_at cells at w ≡ Some v → fields_shown cells v ≡ Some vs
    → slice_get vs field ≡ Some x → value_at cells (at ++ field ∷ []) w ≡ Some x
field_at cells w v at vs field x is shown got =
    value_further cells at (field ∷ []) w
    ∙ (ap (λ (o : Option Value). and_then o (value_at cells (field ∷ []))) is
    ∙ (ap (λ (o : Option (List Value)). and_then (and_then o (λ fs. slice_get fs field)) (value_at cells [])) shown
    ∙ ap (λ (o : Option Value). and_then o (value_at cells [])) got))

-- ---- parts one after the other

-- the parts are ready, and the value fits them exactly where it is matched
abbrev pub Holds : List ℕ → Store → Value → List Part → (Environment → Option Environment) → Type 0
Holds types store w qs matches = IsReady types store w qs × ((environment : Environment) → is_some (matches environment) ≡ fits store w qs)

ready_both : (types : List ℕ) (store : Store) (w : Value) (ps qs : List Part) → IsReady types store w ps → IsReady types store w qs → IsReady types store w (ps ++ qs)
ready_both types store w [] qs first second = second
ready_both types store w (p ∷ ps) qs first second = (first.0, λ agreed. ready_both types store w ps qs (first.1 agreed) second)

and_assoc : (a b c : Bool) → (a && (b && c)) ≡ ((a && b) && c)
and_assoc true b c = refl
and_assoc false b c = refl

fits_both : (store : Store) (w : Value) (ps qs : List Part) → fits store w (ps ++ qs) ≡ (fits store w ps && fits store w qs)
fits_both store w [] qs = refl
fits_both store w (p ∷ ps) qs =
    let asked = agrees (found_at (slice_get store) p.at w) p.asked in
    ap (λ (b : Bool). asked && b) (fits_both store w ps qs) ∙ and_assoc asked (fits store w ps) (fits store w qs)

some_both : (first : Option Environment) (second : Environment → Option Environment) (a b : Bool) → is_some first ≡ a → ((environment : Environment) → is_some (second environment) ≡ b)
    → is_some (and_then first second) ≡ (a && b)
some_both None second a b one other = subst (λ (x : Bool). false ≡ (x && b)) one refl
some_both (Some environment) second a b one other = subst (λ (x : Bool). is_some (second environment) ≡ (x && b)) one (other environment)

holds_both : (types : List ℕ) (store : Store) (w : Value) (ps qs : List Part) (first second : Environment → Option Environment) → Holds types store w ps first → Holds types store w qs second
    → Holds types store w (ps ++ qs) (λ environment. and_then (first environment) second)
holds_both types store w ps qs first second one other = (
  ready_both types store w ps qs one.0 other.0,
  λ environment. some_both (first environment) second (fits store w ps) (fits store w qs) (one.1 environment) other.1 ∙ sym (fits_both store w ps qs),
)

-- ---- a number

number_holds : (constructors : List ConstructorTree) (types : List ℕ) (numbers : AreTypeNumbers constructors types) (store : Store) (w : Value) (n : ℤ) (at : List ℕ) (t : TypeTree) (v : Value) → value_at (slice_get store) at w ≡ Some v
    → IsOf constructors store t v → IsTrue (is_int32 t) → Holds types store w (record { at = at; asked = Number n } ∷ []) (matched store (exactly n) v)
number_holds constructors types numbers store w n at t v is of typed = by of.what of.has of.typed
  where
    q : Part
    q = record { at = at; asked = Number n }

    by : (what : Content) → HasContent store v what → IsContentOf constructors t what → Holds types store w (record { at = at; asked = Number n } ∷ []) (matched store (exactly n) v)
    by (amount m) has content =
        let found : found_at (slice_get store) at w ≡ Some (Number m) = ap (λ (o : Option Value). and_then o (answer_of (slice_get store))) (is ∙ ap Some has) in (
          (record { found = Number m; there = found; kind = refl }, λ agreed. tt),
          λ environment.
              subst (λ (u : Value). is_some (if is_integer n u then Some environment else None) ≡ (agrees (found_at (slice_get store) at w) (Number n) && true)) (sym has)
              (some_if (is_answer (Number m) (Number n)) environment ∙ ap (λ o. agrees o (Number n) && true) (sym found)),
        )
      where
        some_if : (b : Bool) (environment : Environment) → is_some (if b then Some environment else None) ≡ (b && true)
        some_if true environment = refl
        some_if false environment = refl
    by nothing has content = absurd (both_ways false refl (subst (λ u. IsTrue (is_int32 u)) content typed))
    by (built d parts) has content = absurd (not_made t d content.0 typed content.1)
      where
        not_made : (t : TypeTree) (d : ℕ) (us : List TypeTree) → IsTrue (is_int32 t) → field_types constructors t d ≡ Some us → ⊥
        not_made int32 d us typed fields = none-some us fields
        not_made unit_type d us typed fields = both_ways false refl typed
        not_made (type_variable of) d us typed fields = both_ways false refl typed
        not_made (named by arguments) d us typed fields = both_ways false refl typed

-- ---- a constructor

module _ (types : List ℕ) (store : Store) (w v : Value) (at : List ℕ) (c d : ℕ) (vs : List Value) (rest : List Part) (matches : List Value → Environment → Option Environment) where
  abbrev HoldsHere : Bool → Type 0
  HoldsHere several = Holds types store w ((if several then record { at = at; asked = Constructor c } ∷ [] else []) ++ rest) (λ environment. and_then (fields_under store c v) (λ vs. matches vs environment))

  -- where another constructor made the value, there is a part that says so
  other_made : (several : Bool) → has_several types c ≡ several → (d == c) ≡ false → found_at (slice_get store) at w ≡ Some (Constructor d) → fields_under store c v ≡ (if d == c then Some vs else None)
      → IsKind types (Constructor c) (Constructor d) → (has_several types c ≡ false → c ≡ d) → HoldsHere several
  other_made true is other found under kind lone = (
    (record { found = Constructor d; there = found; kind = kind }, λ agreed. absurd (both_ways (d == c) other (ap (λ o. agrees o (Constructor c)) (sym found) ∙ agreed))),
    λ environment.
        ap (λ (o : Option (List Value)). is_some (and_then o (λ vs. matches vs environment))) (under ∙ ap (λ (b : Bool). if b then Some vs else None) other)
        ∙ sym (ap (λ o. agrees o (Constructor c) && fits store w rest) found ∙ ap (λ (b : Bool). b && fits store w rest) other),
  )
  other_made false is other found under kind lone = absurd (both_ways (d == c) other (eq-eqb d c (sym (lone is))))

  -- where it did, its fields decide
  same_made : (several : Bool) → (d == c) ≡ true → found_at (slice_get store) at w ≡ Some (Constructor d) → fields_under store c v ≡ (if d == c then Some vs else None)
      → IsKind types (Constructor c) (Constructor d) → Holds types store w rest (matches vs) → HoldsHere several
  same_made true same found under kind fields = (
    (record { found = Constructor d; there = found; kind = kind }, λ agreed. fields.0),
    λ environment.
        ap (λ (o : Option (List Value)). is_some (and_then o (λ vs. matches vs environment))) (under ∙ ap (λ (b : Bool). if b then Some vs else None) same)
        ∙ (fields.1 environment ∙ sym (ap (λ o. agrees o (Constructor c) && fits store w rest) found ∙ ap (λ (b : Bool). b && fits store w rest) same)),
  )
  same_made false same found under kind fields = (
    fields.0,
    λ environment.
        ap (λ (o : Option (List Value)). is_some (and_then o (λ vs. matches vs environment))) (under ∙ ap (λ (b : Bool). if b then Some vs else None) same) ∙ fields.1 environment,
  )

constructor_holds : (constructors : List ConstructorTree) (types : List ℕ) (numbers : AreTypeNumbers constructors types) (store : Store) (w : Value) (c : ℕ) (parts : Patterns) (at : List ℕ) (t : TypeTree) (v : Value) (us : List TypeTree)
    → value_at (slice_get store) at w ≡ Some v → IsOf constructors store t v → field_types constructors t c ≡ Some us
    → ((vs : List Value) → ((i : ℕ) (x : Value) → slice_get vs i ≡ Some x → value_at (slice_get store) (at ++ (0 + i) ∷ []) w ≡ Some x) → AreOf constructors store us vs
    → Holds types store w (parts_of_all types at 0 parts) (matched_all store parts vs))
    → Holds types store w (parts_of types at (constructor c parts)) (matched store (constructor c parts) v)
constructor_holds constructors types numbers store w c parts at t v us is of fields each =
    by (was_made constructors store t v c us of fields)
  where
    by : WasMade constructors store t v → Holds types store w (parts_of types at (constructor c parts)) (matched store (constructor c parts) v)
    by m = test (m.by == c) refl
      where
        found : found_at (slice_get store) at w ≡ Some (Constructor m.by)
        found = ap (λ (o : Option Value). and_then o (answer_of (slice_get store))) is ∙ made_answers store v m.by m.values m.made

        under : fields_under store c v ≡ (if m.by == c then Some m.values else None)
        under = made_under store v c m.by m.values m.made

        test : (same : Bool) → (m.by == c) ≡ same → Holds types store w (parts_of types at (constructor c parts)) (matched store (constructor c parts) v)
        test true same =
            same_made types store w v at c m.by m.values (parts_of_all types at 0 parts) (λ vs. matched_all store parts vs) (has_several types c) same found under
            (one_kind types c m.by (numbers t c m.by us m.types fields m.of_type))
            (each m.values
            (λ i x got. field_at (slice_get store) w v at m.values (0 + i) x is (made_shows store v m.by m.values m.made) (let zero_plus : i ≡ 0 + i = omega arith in subst (λ n. slice_get m.values n ≡ Some x) zero_plus got))
            (subst (λ ts. AreOf constructors store ts m.values)
            (same_Some m.types us (sym m.of_type ∙ (ap (field_types constructors t) (eqb-true m.by c same) ∙ fields))) m.are))
        test false other =
            other_made types store w v at c m.by m.values (parts_of_all types at 0 parts) (λ vs. matched_all store parts vs) (has_several types c) refl other found under
            (one_kind types c m.by (numbers t c m.by us m.types fields m.of_type))
            (alone types c m.by (numbers t c m.by us m.types fields m.of_type))

-- ---- patterns

mutual
  pub holds : (constructors : List ConstructorTree) (types : List ℕ) (numbers : AreTypeNumbers constructors types) (store : Store) (w : Value) (p : Pattern) (at : List ℕ) (t : TypeTree) (v : Value) → value_at (slice_get store) at w ≡ Some v
      → IsOf constructors store t v → IsPatternOf (values_of constructors) t (outline_of p) → Holds types store w (parts_of types at p) (matched store p v)
  holds constructors types numbers store w anything at t v is of typed = (tt, λ environment. refl)
  holds constructors types numbers store w (variable x) at t v is of typed = (tt, λ environment. refl)
  holds constructors types numbers store w (exactly n) at t v is of typed = number_holds constructors types numbers store w n at t v is of typed
  holds constructors types numbers store w (constructor c parts) at t v is of typed =
      constructor_holds constructors types numbers store w c parts at t v typed.0 is of typed.1 (λ vs there are. holds_all constructors types numbers store w parts at 0 typed.0 vs there are typed.2)

  holds_all : (constructors : List ConstructorTree) (types : List ℕ) (numbers : AreTypeNumbers constructors types) (store : Store) (w : Value) (ps : Patterns) (at : List ℕ) (field : ℕ) (ts : List TypeTree) (vs : List Value)
      → ((i : ℕ) (x : Value) → slice_get vs i ≡ Some x → value_at (slice_get store) (at ++ (field + i) ∷ []) w ≡ Some x) → AreOf constructors store ts vs
      → ArePatternsOf (values_of constructors) ts (outlines_of ps) → Holds types store w (parts_of_all types at field ps) (matched_all store ps vs)
  holds_all constructors types numbers store w no_part at field [] [] there are typed = (tt, λ environment. refl)
  holds_all constructors types numbers store w no_part at field [] (v ∷ vs) there are typed = absurd are
  holds_all constructors types numbers store w no_part at field (t ∷ ts) vs there are typed = absurd typed
  holds_all constructors types numbers store w (part p ps) at field [] vs there are typed = absurd typed
  holds_all constructors types numbers store w (part p ps) at field (t ∷ ts) [] there are typed = absurd are
  holds_all constructors types numbers store w (part p ps) at field (t ∷ ts) (v ∷ vs) there are typed =
      holds_both types store w (parts_of types (at ++ field ∷ []) p) (parts_of_all types at (field + 1) ps) (matched store p v) (matched_all store ps vs)
      (holds constructors types numbers store w p (at ++ field ∷ []) t v (subst (λ n. value_at (slice_get store) (at ++ n ∷ []) w ≡ Some v) (add-zero field) (there 0 v refl)) are.0 typed.0)
      (holds_all constructors types numbers store w ps at (field + 1) ts vs
      (λ i x got. let next : field + suc i ≡ (field + 1) + i = omega arith in subst (λ n. value_at (slice_get store) (at ++ n ∷ []) w ≡ Some x) next (there (suc i) x got))
      are.1 typed.1)

-- patterns are of a type
abbrev pub AreOfType : List ConstructorTree → TypeTree → List Pattern → Type 0
AreOfType constructors t patterns = Each (IsPatternOf (values_of constructors) t) (map outline_of patterns)

-- the first row that fits is the first that matches
pub rows_hold : (constructors : List ConstructorTree) (types : List ℕ) (numbers : AreTypeNumbers constructors types) (store : Store) (t : TypeTree) (v : Value) (k : ℕ) (ps : List Pattern) → IsOf constructors store t v → AreOfType constructors t ps
    → AreReady types store v (lines_from types k ps) × (first_fit store v (lines_from types k ps) ≡ first_row store k ps v)
rows_hold constructors types numbers store t v k [] of typed = (tt, refl)
rows_hold constructors types numbers store t v k (p ∷ ps) of typed =
    let here = holds constructors types numbers store v p [] t v refl of typed.0 in
    let rest = rows_hold constructors types numbers store t v (k + 1) ps of typed.1 in (
      (here.0, rest.0),
      ap (λ (b : Bool). if b then Some k else first_fit store v (lines_from types (k + 1) ps)) (sym (here.1 []))
          ∙ ap (λ (r : Option ℕ). if is_some (matched store p v []) then Some k else r) rest.1,
    )
