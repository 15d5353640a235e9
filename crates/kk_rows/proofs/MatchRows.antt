-- A match as rows of one position.
use Rattle.std.proofs.Common.{inl, inr, List, [], ◌∷◌, map}
use Rattle.kk_syntax.specs.Covered.{Each, IsMissed}
use Rattle.kk_syntax.specs.Outlines.{Outline, Outlines, no_outline, outline, Clash, ClashIn}
use Rattle.kk_syntax.specs.OfType.{Values, IsPatternOf, ArePatternsOf}
use Rattle.kk_slots.specs.Narrowing.{IsMissedIn, top}

abbrev pub ones : List Outline → List Outlines
ones rows = map (λ p. outline p no_outline) rows

pub one_typed : {T : Type 0} (values : Values T) (t : T) (rows : List Outline) → Each (IsPatternOf values t) rows → Each (ArePatternsOf values (t ∷ [])) (ones rows)
one_typed values t [] typed = tt
one_typed values t (p ∷ rows) typed = ((typed.0, tt), one_typed values t rows typed.1)

one_clash : (e : Outline) (rows : List Outline) → Each (ClashIn (outline e no_outline)) (ones rows) → Each (Clash e) rows
one_clash e [] clashes = tt
one_clash e (p ∷ rows) clashes = (elim clashes.0 [ inl h ↦ h | inr h ↦ absurd h ], one_clash e rows clashes.1)

one_clashes : (e : Outline) (rows : List Outline) → Each (Clash e) rows → Each (ClashIn (outline e no_outline)) (ones rows)
one_clashes e [] clashes = tt
one_clashes e (p ∷ rows) clashes = (inl clashes.0, one_clashes e rows clashes.1)

pub one_missed : {T : Type 0} (values : Values T) (t : T) (rows : List Outline) (es : Outlines) → IsMissedIn values (t ∷ []) (ones rows) es → IsMissed values t rows (top es)
one_missed values t rows no_outline missed = absurd missed.typed
one_missed values t rows (outline e no_outline) missed = record { typed = missed.typed.0; clashes = one_clash e rows missed.clashes }
one_missed values t rows (outline e (outline d ds)) missed = absurd missed.typed.1

pub one_misses : {T : Type 0} (values : Values T) (t : T) (rows : List Outline) (e : Outline) → IsMissed values t rows e → IsMissedIn values (t ∷ []) (ones rows) (outline e no_outline)
one_misses values t rows e missed = record { typed = (missed.typed, tt); clashes = one_clashes e rows missed.clashes }
