-- Patterns of several positions, put behind one another and taken apart: their types and their clashes.
use Rattle.std.proofs.Common.{◌⊎◌, inl, inr, ℕ, zero, suc, List, [], ◌∷◌, ◌++◌, length}
use Rattle.kk_syntax.specs.Outlines.{Outline, any, exactly, made, Outlines, no_outline, outline, Clash, ClashIn}
use Rattle.kk_syntax.specs.OfType.{Values, ArePatternsOf}
use Rattle.kk_slots.specs.Narrowing.{join, anys, front, back}

pub typed_join : {T : Type 0} (values : Values T) (us ts : List T) (qs ps : Outlines) → ArePatternsOf values us qs → ArePatternsOf values ts ps → ArePatternsOf values (us ++ ts) (join qs ps)
typed_join values [] ts no_outline ps a b = b
typed_join values [] ts (outline q qs) ps a b = absurd a
typed_join values (u ∷ us) ts no_outline ps a b = absurd a
typed_join values (u ∷ us) ts (outline q qs) ps a b = (a.0, typed_join values us ts qs ps a.1 b)

pub typed_front : {T : Type 0} (values : Values T) (us ts : List T) (es : Outlines) → ArePatternsOf values (us ++ ts) es → ArePatternsOf values us (front (length us) es)
typed_front values [] ts es a = tt
typed_front values (u ∷ us) ts no_outline a = absurd a
typed_front values (u ∷ us) ts (outline e es) a = (a.0, typed_front values us ts es a.1)

pub typed_back : {T : Type 0} (values : Values T) (us ts : List T) (es : Outlines) → ArePatternsOf values (us ++ ts) es → ArePatternsOf values ts (back (length us) es)
typed_back values [] ts es a = a
typed_back values (u ∷ us) ts no_outline a = absurd a
typed_back values (u ∷ us) ts (outline e es) a = typed_back values us ts es a.1

pub typed_anys : {T : Type 0} (values : Values T) (us : List T) → ArePatternsOf values us (anys (length us))
typed_anys values [] = tt
typed_anys values (u ∷ us) = (tt, typed_anys values us)

-- nothing clashes with wildcards
pub any_clash : (e : Outline) → Clash e any → ⊥
any_clash any b = b
any_clash (exactly n) b = b
any_clash (made c ps) b = b

pub anys_clash : (k : ℕ) (es : Outlines) → ClashIn es (anys k) → ⊥
anys_clash zero no_outline b = b
anys_clash zero (outline e es) b = b
anys_clash (suc k) no_outline b = b
anys_clash (suc k) (outline e es) b = elim b [ inl h ↦ any_clash e h | inr h ↦ anys_clash k es h ]

-- a clash with two parts, one behind the other, is one with the first or one with the second
pub clash_split : {T : Type 0} (values : Values T) (us : List T) (qs ps es : Outlines) → ArePatternsOf values us qs → ClashIn es (join qs ps) → ClashIn (front (length us) es) qs ⊎ ClashIn (back (length us) es) ps
clash_split values [] no_outline ps es a b = inr b
clash_split values [] (outline q qs) ps es a b = absurd a
clash_split values (u ∷ us) no_outline ps es a b = absurd a
clash_split values (u ∷ us) (outline q qs) ps no_outline a b = absurd b
clash_split values (u ∷ us) (outline q qs) ps (outline e es) a b = elim b [
  | inl h ↦ inl (inl h)
  | inr h ↦ elim (clash_split values us qs ps es a.1 h) [ inl g ↦ inl (inr g) | inr g ↦ inr g ]
]

pub clash_left : {T : Type 0} (values : Values T) (us : List T) (ds qs es ps : Outlines) → ArePatternsOf values us ds → ArePatternsOf values us qs → ClashIn ds qs → ClashIn (join ds es) (join qs ps)
clash_left values [] no_outline qs es ps a b h = absurd h
clash_left values [] (outline d ds) qs es ps a b h = absurd a
clash_left values (u ∷ us) no_outline qs es ps a b h = absurd a
clash_left values (u ∷ us) (outline d ds) no_outline es ps a b h = absurd b
clash_left values (u ∷ us) (outline d ds) (outline q qs) es ps a b h = elim h [
  | inl g ↦ inl g
  | inr g ↦ inr (clash_left values us ds qs es ps a.1 b.1 g)
]

pub clash_right : {T : Type 0} (values : Values T) (us : List T) (ds qs es ps : Outlines) → ArePatternsOf values us ds → ArePatternsOf values us qs → ClashIn es ps → ClashIn (join ds es) (join qs ps)
clash_right values [] no_outline no_outline es ps a b h = h
clash_right values [] no_outline (outline q qs) es ps a b h = absurd b
clash_right values [] (outline d ds) qs es ps a b h = absurd a
clash_right values (u ∷ us) no_outline qs es ps a b h = absurd a
clash_right values (u ∷ us) (outline d ds) no_outline es ps a b h = absurd b
clash_right values (u ∷ us) (outline d ds) (outline q qs) es ps a b h = inr (clash_right values us ds qs es ps a.1 b.1 h)
