-- The numbers of a pattern that is put together from positions fit into 32 bits where those of the positions do.
use Rattle.std.proofs.Common.{ℕ, zero, suc, FitsSigned, w32}
use Rattle.kk_syntax.specs.Outlines.{Outlines, no_outline, outline, HaveSmallNumbers}
use Rattle.kk_slots.specs.declared.problem.Head.{Head}
use Rattle.kk_slots.specs.declared.problem.Head.TheVariants.{Free, Number, Constructor}
use Rattle.kk_slots.specs.Narrowing.{anys, front, back}
use Rattle.kk_slots.specs.Problems.{plug}

small_front : (k : ℕ) (es : Outlines) → HaveSmallNumbers es → HaveSmallNumbers (front k es)
small_front zero es a = tt
small_front (suc k) no_outline a = tt
small_front (suc k) (outline e es) a = (a.0, small_front k es a.1)

small_back : (k : ℕ) (es : Outlines) → HaveSmallNumbers es → HaveSmallNumbers (back k es)
small_back zero es a = a
small_back (suc k) no_outline a = tt
small_back (suc k) (outline e es) a = small_back k es a.1

pub small_anys : (k : ℕ) → HaveSmallNumbers (anys k)
small_anys zero = tt
small_anys (suc k) = (tt, small_anys k)

abbrev pub IsSmallHead : Head → Type 0
IsSmallHead Free = Unit {0}
IsSmallHead (Number n) = FitsSigned w32 n
IsSmallHead (Constructor c k) = Unit {0}

pub small_plug : (h : Head) (es : Outlines) → IsSmallHead h → HaveSmallNumbers es → HaveSmallNumbers (plug h es)
small_plug Free es small a = (tt, a)
small_plug (Number n) es small a = (small, a)
small_plug (Constructor c k) es small a = (small_front k es a, small_back k es a)
