-- What the declarations of a program say of its constructors.
use Rattle.std.proofs.Common.{◌≡◌, ◌<◌, ℕ, ◌==◌, Bool, true, false, cond, List, length, map, Option, None, Some, get_or, refl, sym, ap, ◌∙◌}
use Rattle.std.proofs.lemmas.Bool.{eqb-true}
use Rattle.std.proofs.lemmas.List.{length-map}
use Rattle.std.proofs.lemmas.Option.{slice_get_within, slice_get-get_or, get_or_from_slice_get}
use Rattle.std.specs.List.{slice_get}
use Rattle.kk_syntax.specs.Types.{TypeTree, int32, unit_type, type_variable, named, TypeTrees}
use Rattle.kk_syntax.specs.Programs.{ConstructorTree, ProgramTree, no_constructor, AreDeclared}
use Rattle.kk_syntax.specs.OfType.{values_of, fields_of, field_types, with_arguments, fields_with, is_int32}
use Rattle.kk_syntax.proofs.PatternTypes.{fields_made}
use Rattle.kk_slots.specs.Problems.{owner, arity}
use Rattle.kk_rows.proofs.SearchSoundness.{Knows}

record Declared (o : Option ConstructorTree) (by : ℕ) (arguments : TypeTrees) (us : List TypeTree) : Type 0 where
  constructor : ConstructorTree
  there : o ≡ Some constructor
  owned : constructor.of_type ≡ by
  same : fields_with constructor.arguments constructor.fields arguments ≡ Some us

declared : (o : Option ConstructorTree) (by : ℕ) (arguments : TypeTrees) (us : List TypeTree) → fields_of o by arguments ≡ Some us → Declared o by arguments us
declared None by arguments us is = absurd (cc)
declared (Some constructor) by arguments us is = pick (constructor.of_type == by) refl is
  where
    pick : (b : Bool) → (constructor.of_type == by) ≡ b → cond b (fields_with constructor.arguments constructor.fields arguments) None ≡ Some us → Declared (Some constructor) by arguments us
    pick true test e = record { constructor = constructor; there = refl; owned = eqb-true constructor.of_type by test; same = e }
    pick false test e = absurd (cc)

owner_is : (program : ProgramTree) (c : ℕ) (constructor : ConstructorTree) → slice_get program.constructors c ≡ Some constructor → owner program c ≡ constructor.of_type
owner_is program c constructor there = ap (λ (x : ConstructorTree). x.of_type) (get_or_from_slice_get program.constructors c constructor no_constructor there)

within : (program : ProgramTree) (t : TypeTree) (c d : ℕ) (us vs : List TypeTree) → field_types program.constructors t c ≡ Some us → field_types program.constructors t d ≡ Some vs → (d < length program.constructors) × (owner program d ≡ owner program c)
within program int32 c d us vs at_c at_d = absurd (cc)
within program unit_type c d us vs at_c at_d = absurd (cc)
within program (type_variable of) c d us vs at_c at_d = absurd (cc)
within program (named by arguments) c d us vs at_c at_d =
    let first = declared (slice_get program.constructors c) by arguments us at_c in
    let second = declared (slice_get program.constructors d) by arguments vs at_d in (
      slice_get_within program.constructors d second.constructor second.there,
      owner_is program d second.constructor second.there ∙ (second.owned ∙ (sym first.owned ∙ sym (owner_is program c first.constructor first.there))),
    )

members : (program : ProgramTree) → AreDeclared program.constructors → (t : TypeTree) (c d : ℕ) (us : List TypeTree) → field_types program.constructors t c ≡ Some us → d < length program.constructors → owner program d ≡ owner program c → (vs : List TypeTree) × (field_types program.constructors t d ≡ Some vs) × (length vs ≡ arity program d)
members program declared int32 c d us at_c lt own = absurd (cc)
members program declared unit_type c d us at_c lt own = absurd (cc)
members program declared (type_variable of) c d us at_c lt own = absurd (cc)
members program all_declared (named by arguments) c d us at_c lt own =
    let first = declared (slice_get program.constructors c) by arguments us at_c in
    let constructor = get_or program.constructors d no_constructor in
    let owned : constructor.of_type ≡ by = own ∙ (owner_is program c first.constructor first.there ∙ first.owned) in (
      map (with_arguments arguments) constructor.fields,
      (let there = slice_get-get_or program.constructors d no_constructor lt in
          fields_made (slice_get program.constructors d) constructor by arguments there (all_declared d constructor there) owned),
      length-map constructor.fields (with_arguments arguments),
    )

apart : (program : ProgramTree) (t : TypeTree) (c : ℕ) (us : List TypeTree) → field_types program.constructors t c ≡ Some us → is_int32 t ≡ false
apart program int32 c us at_c = absurd (cc)
apart program unit_type c us at_c = refl
apart program (type_variable of) c us at_c = refl
apart program (named by arguments) c us at_c = refl

pub knows : (program : ProgramTree) → AreDeclared program.constructors → Knows (values_of program.constructors) program
knows program declared = record { within = within program; members = members program declared; apart = apart program }
