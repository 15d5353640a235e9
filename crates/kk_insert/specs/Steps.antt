-- The insertion at one step of a block, by what is owned behind it.
use Rattle.std.specs.Prelude.{ℕ, ◌||◌, List, [], ◌∷◌, ◌++◌, if◌then◌else◌}
use Rattle.kk_syntax.specs.Shapes.{is_among, without}
use Rattle.kk_syntax.specs.PositionsOf.{PositionTable}
use Rattle.kk_core.specs.Codes.{Piece, computes, uses, unpacks, runs}
use Rattle.kk_counted.specs.CountedCodes as Counted
use Rattle.kk_insert.specs.Insertion.{common, dups, dropping, opening, used, lends, lent_in, owns, wants, back, own, insert}

-- the lent variables behind a step
abbrev pub lent_after : List ℕ → Piece → List ℕ
lent_after lent (computes x form arguments) = lent
lent_after lent (uses x) = lent
lent_after lent (unpacks x c fields) = if is_among lent x then fields ++ lent else lent
lent_after lent (runs x block) = lent_in lent block

module _ (positions : PositionTable) (lent : List ℕ) where
  -- what is owned before a step, where `now` is owned behind it
  abbrev pub own_before : Piece → List ℕ → List ℕ
  own_before (computes x form arguments) now =
      owns lent (used positions form arguments) (owns lent (lends positions form arguments) (without (x ∷ []) now))
  own_before (uses x) now = owns lent (x ∷ []) now
  own_before (unpacks x c fields) now = owns lent (x ∷ []) (without fields now)
  own_before (runs x block) now = own positions lent (without (x ∷ []) now) block

  -- the step with its dups and drops, and the code behind it
  abbrev pub insert_before : Piece → List ℕ → Counted.Counted → Counted.Counted
  insert_before (computes x form arguments) now rest =
      dups (wants lent (used positions form arguments) (owns lent (lends positions form arguments) (without (x ∷ []) now)))
      (Counted.compute x form arguments (back lent (lends positions form arguments) x now rest))
  insert_before (uses x) now rest = dropping (owns lent (x ∷ []) now) now rest
  insert_before (unpacks x c fields) now rest = opening (is_among lent x || is_among now x) x c fields (common now fields) rest
  insert_before (runs x block) now rest =
      Counted.inside x (insert positions lent (without (x ∷ []) now) block) (dropping (x ∷ []) now rest)
