-- The test of two types decides whether they are the same.
use Rattle.std.proofs.Common.{◌≡◌, Bool, true, false, ◌&&◌, refl, ap, ◌∙◌}
use Rattle.std.specs.Prelude.{◌==◌}
use Rattle.std.proofs.lemmas.Bool.{eqb-true, eq-eqb}
use Rattle.kk_syntax.specs.OfType.{same_type, same_types}
use Rattle.kk_syntax.specs.Types.{TypeTree, TypeTrees, int32, unit_type, type_variable, named, no_type, type}

both : (a b : Bool) → (a && b) ≡ true → (a ≡ true) × (b ≡ true)
both true b is = (refl, is)
both false b is = absurd (cc)

together : (a b : Bool) → a ≡ true → b ≡ true → (a && b) ≡ true
together true b first second = second
together false b first second = first

mutual
  pub same_only : (t u : TypeTree) → same_type t u ≡ true → t ≡ u
  same_only int32 int32 is = refl
  same_only int32 unit_type is = absurd (cc)
  same_only int32 (type_variable y) is = absurd (cc)
  same_only int32 (named d us) is = absurd (cc)
  same_only unit_type int32 is = absurd (cc)
  same_only unit_type unit_type is = refl
  same_only unit_type (type_variable y) is = absurd (cc)
  same_only unit_type (named d us) is = absurd (cc)
  same_only (type_variable x) int32 is = absurd (cc)
  same_only (type_variable x) unit_type is = absurd (cc)
  same_only (type_variable x) (type_variable y) is = ap (λ z. type_variable z) (eqb-true x y is)
  same_only (type_variable x) (named d us) is = absurd (cc)
  same_only (named c ts) int32 is = absurd (cc)
  same_only (named c ts) unit_type is = absurd (cc)
  same_only (named c ts) (type_variable y) is = absurd (cc)
  same_only (named c ts) (named d us) is =
      let parts = both (c == d) (same_types ts us) is in
      ap (λ x. named x ts) (eqb-true c d parts.0) ∙ ap (λ xs. named d xs) (all_same_only ts us parts.1)

  pub all_same_only : (ts us : TypeTrees) → same_types ts us ≡ true → ts ≡ us
  all_same_only no_type no_type is = refl
  all_same_only no_type (type u us) is = absurd (cc)
  all_same_only (type t ts) no_type is = absurd (cc)
  all_same_only (type t ts) (type u us) is =
      let parts = both (same_type t u) (same_types ts us) is in
      ap (λ x. type x ts) (same_only t u parts.0) ∙ ap (λ xs. type u xs) (all_same_only ts us parts.1)

mutual
  pub same_itself : (t : TypeTree) → same_type t t ≡ true
  same_itself int32 = refl
  same_itself unit_type = refl
  same_itself (type_variable x) = eq-eqb x x refl
  same_itself (named c ts) = together (c == c) (same_types ts ts) (eq-eqb c c refl) (all_same_itself ts)

  pub all_same_itself : (ts : TypeTrees) → same_types ts ts ≡ true
  all_same_itself no_type = refl
  all_same_itself (type t ts) = together (same_type t t) (same_types ts ts) (same_itself t) (all_same_itself ts)
