-- Code with calls in line names few more values than the code.
use Rattle.std.proofs.Common.{◌<◌, ◌≤◌, inl, inr, ℕ, zero, suc, ◌+◌, List, [], ◌∷◌, ◌++◌, Option, Some, None, map, length}
use Rattle.std.proofs.Common.{option_map, sym, subst, arith}
use Rattle.rv_isa.specs.AsmCode.{Line, Lines}
use Rattle.rv_isa.specs.ValueBounds.{AreValuesBelow, IsWrittenBelow, IsLineBelow, AreLinesBelow, HasValuesBelow, HaveValuesBelow}
use Rattle.rv_inline.specs.InLine.{gives_back, named, named_line, copy, most_fresh, IsLeafCall, lines_for, AreInLine, IsInLine, HaveInLine}

-- ---- larger bounds

pub more_values : (most bound : ℕ) (values : List ℕ) → most ≤ bound → AreValuesBelow most values → AreValuesBelow bound values
more_values most bound [] more below = tt
more_values most bound (v ∷ values) more below = let less = below.0 in (omega (arith, more, less), more_values most bound values more below.1)

more_written : (most bound : ℕ) (into : Option ℕ) → most ≤ bound → IsWrittenBelow most into → IsWrittenBelow bound into
more_written most bound None more below = tt
more_written most bound (Some v) more below = omega (arith, more, below)

more_line : (most bound : ℕ) (line : Line) → most ≤ bound → IsLineBelow most line → IsLineBelow bound line
more_line most bound line more below =
    (more_values most bound line.args more below.0, more_written most bound line.into more below.1)

-- ---- a leaf in line

-- a value of a leaf, by its parameters and its other values
named_below : (base most bound extra : ℕ) (args : List ℕ) (v : ℕ) → AreValuesBelow most args → most ≤ bound → base + extra ≤ bound
    → v < length args + extra → named base args v < bound
named_below base most bound extra [] v below more fits less = omega (arith, fits, less)
named_below base most bound extra (arg ∷ args) zero below more fits less = let low = below.0 in omega (arith, more, low)
named_below base most bound extra (arg ∷ args) (suc v) below more fits less =
    named_below base most bound extra args v below.1 more fits (omega (arith, less))

module _ (base most bound extra : ℕ) (args : List ℕ) (below : AreValuesBelow most args) (more : most ≤ bound)
    (fits : base + extra ≤ bound) where
  values_named : (values : List ℕ) → AreValuesBelow (length args + extra) values → AreValuesBelow bound (map (named base args) values)
  values_named [] small = tt
  values_named (v ∷ values) small =
      (named_below base most bound extra args v below more fits small.0, values_named values small.1)

  written_named : (into : Option ℕ) → IsWrittenBelow (length args + extra) into
      → IsWrittenBelow bound (option_map (named base args) into)
  written_named None small = tt
  written_named (Some v) small = named_below base most bound extra args v below more fits small

  -- its lines, in front of those that give its value to the caller and follow
  lines_named : (body : List Line) (value into : ℕ) (rest : List Line)
      → AreLinesBelow (length args + extra) (body ++ (gives_back value ∷ [])) → into < bound → AreLinesBelow bound rest
      → AreLinesBelow bound (map (named_line base args) body ++ (copy (named base args value) into ∷ rest))
  lines_named [] value into rest small low behind =
      (((named_below base most bound extra args value below more fits small.0.0.0, tt), low), behind)
  lines_named (line ∷ body) value into rest small low behind =
      ((values_named line.args small.0.0, written_named line.into small.0.1), lines_named body value into rest small.1 low behind)

-- ---- code

pub lines_below : (q : List Lines) (base most bound : ℕ) (old new : List Line) → most ≤ bound
    → ((line : Line) → IsLeafCall q base line → base + most_fresh ≤ bound) → AreInLine q base old new → AreLinesBelow most old
    → AreLinesBelow bound new
lines_below q base most bound [] new more fits is below = subst (AreLinesBelow bound) (sym is) tt
lines_below q base most bound (line ∷ old) new more fits (inl (rest, (new_is, is))) below =
    let behind : AreLinesBelow bound (line ∷ rest)
    = (more_line most bound line more below.0, lines_below q base most bound old rest more fits is below.1) in
    subst (AreLinesBelow bound) (sym new_is) behind
lines_below q base most bound (line ∷ old) new more fits (inr (call, (rest, (new_is, is)))) below =
    let small : AreLinesBelow (length line.args + most_fresh) (call.body ++ (gives_back call.value ∷ []))
    = subst (λ (n : ℕ). AreLinesBelow (n + most_fresh) (call.body ++ (gives_back call.value ∷ []))) (sym call.passes)
    (subst (AreLinesBelow (length call.leaf.params + most_fresh)) call.is_leaf.code call.is_leaf.few.1) in
    let into : call.into < bound
    = more_written most bound (Some call.into) more (subst (IsWrittenBelow most) call.gives below.0.1) in
    let behind : AreLinesBelow bound (lines_for line call rest)
    = (
      (tt, tt),
      lines_named base most bound most_fresh line.args below.0.0 more (fits line call) call.body call.value call.into rest small into
          (lines_below q base most bound old rest more fits is below.1),
    ) in
    subst (AreLinesBelow bound) (sym new_is) behind

function_below : (q : List Lines) (base most : ℕ) (old new : Lines) → IsInLine q base old new → HasValuesBelow most old
    → HasValuesBelow (most + most_fresh) new
function_below q base most old new is below =
    let least : base ≤ most = is.least most below in (
      subst (AreValuesBelow (most + most_fresh)) (sym is.params)
          (more_values most (most + most_fresh) old.params (omega arith) below.0),
      lines_below q base most (most + most_fresh) old.code new.code (omega arith) (λ line call. omega (arith, least)) is.code below.1,
    )

-- each function names so many values more at most
pub functions_below : (q olds news : List Lines) (most : ℕ) → HaveInLine q olds news → HaveValuesBelow most olds
    → HaveValuesBelow (most + most_fresh) news
functions_below q [] [] most all below = tt
functions_below q [] (new ∷ news) most all below = absurd all
functions_below q (old ∷ olds) [] most all below = absurd all
functions_below q (old ∷ olds) (new ∷ news) most all below =
    (function_below q all.0.0 most old new all.0.1 below.0, functions_below q olds news most all.1 below.1)
