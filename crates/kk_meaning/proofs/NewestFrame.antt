-- The newest frame becomes another.
use Rattle.std.proofs.Common.{◌≡◌, ℕ, ◌-◌, ◌<◌, List, ◌∷◌, length, get_or, set, take, map, reverse, sym, ap, ◌∙◌, subst}
use Rattle.kk_source.specs.Step.{call_frames}
use Rattle.kk_meaning.specs.declared.binding.Link.{Link}
use Rattle.kk_meaning.specs.declared.frame.Frame.{Frame}
use Rattle.kk_meaning.specs.Frames.{frame_view}
use Rattle.kk_syntax.specs.declared.program.Expr.{Expr}
use Rattle.kk_meaning.specs.Machines.{FramesFit, HasEnvironment, Awaits, IsAwaiting}
use Rattle.kk_meaning.proofs.FrameOrder.{newest_first, newest_changed, one_fits, rest_fits, environment_fits, one_not_counted}

pub record Changes (frames others : List Frame) (was is : Frame) : Type 0 where
  pub older : List Frame
  pub before : reverse frames ≡ was ∷ older
  pub after : reverse others ≡ is ∷ older

pub newest_changes : (frames : List Frame) (n : ℕ) (newest was is : Frame) → n ≡ length frames → 0 < n → newest ≡ get_or frames (n - 1) newest → newest ≡ was → Changes frames (set frames (n - 1) is) was is
newest_changes frames n newest was is len some at known = record {
  older = reverse (take (n - 1) frames);
  before = newest_first frames n newest len some at ∙ ap (λ f. f ∷ reverse (take (n - 1) frames)) known;
  after = newest_changed frames n is len some;
}

-- it is what was told of the newest
same_newest : {X : Type 0} (x y : X) (xs ys : List X) → x ∷ xs ≡ y ∷ ys → x ≡ y
same_newest x y xs ys e = cc

pub was_awaiting : (next : Expr) (left : List Expr) (environment : ℕ) (frames others : List Frame) (was is : Frame) → Changes frames others was is → Awaits next left environment frames → IsAwaiting next left environment was
was_awaiting next left environment frames others was is c a =
    subst (IsAwaiting next left environment) (same_newest a.frame was _ c.older (sym a.newest ∙ c.before)) a.awaiting

-- with the environment that it had the frames fit as before, and no more of them are calls
pub changed_fits : (n e : ℕ) (frames others : List Frame) (was is : Frame) → Changes frames others was is → HasEnvironment e was → HasEnvironment e is → FramesFit n (reverse frames) → FramesFit n (reverse others)
changed_fits n e frames others was is c had has f =
    let fit = subst (FramesFit n) c.before f in
    subst (FramesFit n) (sym c.after) (one_fits n e is c.older has (environment_fits n e was c.older had fit) (rest_fits n e was c.older had fit))

pub changed_counts : (links : List Link) (e : ℕ) (frames others : List Frame) (was is : Frame) → Changes frames others was is → HasEnvironment e was → HasEnvironment e is → call_frames (map (frame_view links) (reverse frames)) ≡ call_frames (map (frame_view links) (reverse others))
changed_counts links e frames others was is c had has =
    let count = λ (fs : List Frame). call_frames (map (frame_view links) fs) in
    ap count c.before ∙ (one_not_counted links e was c.older had ∙ (sym (one_not_counted links e is c.older has) ∙ ap count (sym c.after)))
