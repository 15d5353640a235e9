-- The type of lists that the examples of typed programs have, with its constructors behind those of `bool`.
use Rattle.std.proofs.Common.{◌≡◌, ◌⊎◌, ◌≤◌, inl, inr, ℕ, zero, suc, List, [], ◌∷◌, Some, None, refl, sym, arith}
use Rattle.kk_syntax.specs.GroundTyping.{HasTruths}
use Rattle.kk_syntax.specs.OfType.{field_types}
use Rattle.kk_syntax.specs.Outlines.{Outline, any, exactly, made, Outlines, no_outline, outline, Clash, ClashIn}
use Rattle.kk_syntax.specs.Programs.{ConstructorTree}
use Rattle.kk_syntax.specs.Types.{TypeTree, int32, named, no_type}
use Rattle.kk_syntax.specs.Typing.{bool}

-- type list { Nil; Cons(head: int32, tail: list) }: constructors 2 and 3, behind `False` and `True`
abbrev pub list : TypeTree
list = named 1 no_type

abbrev declared : ℕ → ℕ → List TypeTree → ConstructorTree
declared of_type tag fields = record { name = []; at = 0; of_type = of_type; arguments = None; tag = tag; fields = fields }

abbrev pub constructors : List ConstructorTree
constructors = declared 0 0 [] ∷ declared 0 1 [] ∷ declared 1 0 [] ∷ declared 1 1 (int32 ∷ list ∷ []) ∷ []

-- what makes a list: `Nil` without fields, and `Cons` with two
pub makers : (c : ℕ) (us : List TypeTree) → field_types constructors list c ≡ Some us
    → ((c ≡ 2) × (us ≡ [])) ⊎ ((c ≡ 3) × (us ≡ int32 ∷ list ∷ []))
makers zero us is = absurd (cc)
makers (suc zero) us is = absurd (cc)
makers (suc (suc zero)) us is = let same : [] ≡ us = cc in inl (refl, sym same)
makers (suc (suc (suc zero))) us is = let same : int32 ∷ list ∷ [] ≡ us = cc in inr (refl, sym same)
makers (suc (suc (suc (suc c)))) us is = absurd (cc)

truths_are : (c : ℕ) → c ≤ 1 → field_types constructors bool c ≡ Some []
truths_are zero le = refl
truths_are (suc zero) le = refl
truths_are (suc (suc c)) le = absurd (omega (arith, le))

truths_alone : (c : ℕ) (us : List TypeTree) → field_types constructors bool c ≡ Some us → c ≤ 1
truths_alone zero us is = omega arith
truths_alone (suc zero) us is = omega arith
truths_alone (suc (suc zero)) us is = absurd (cc)
truths_alone (suc (suc (suc zero))) us is = absurd (cc)
truths_alone (suc (suc (suc (suc c)))) us is = absurd (cc)

-- `bool` has its two constructors, and the lists' are none of them
pub has_truths : HasTruths constructors
has_truths = record { truths = truths_are; no_others = truths_alone }

-- no outline clashes with that of every value
pub clash_any : (e : Outline) → Clash e any → ⊥
clash_any any h = h
clash_any (exactly n) h = h
clash_any (made c ps) h = h

-- nor do outlines of fields where there are none
pub clash_none : (ps : Outlines) → ClashIn ps no_outline → ⊥
clash_none no_outline h = h
clash_none (outline p ps) h = h
