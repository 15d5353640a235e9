-- The newest frame is given up, and more is bound.
use Rattle.std.proofs.Common.{◌≡◌, ℕ, ◌-◌, ◌≤◌, List, length, take, map, reverse, sym, ap, ◌∙◌, subst}
use Rattle.kk_source.specs.Step.{call_frames}
use Rattle.kk_meaning.specs.declared.binding.Link.{Link}
use Rattle.kk_meaning.specs.declared.frame.Frame.{Frame}
use Rattle.kk_meaning.specs.Frames.{frame_view}
use Rattle.kk_meaning.specs.Machines.{FramesFit, HasEnvironment, IsNewest}
use Rattle.kk_meaning.proofs.Environments.{agree_on_front}
use Rattle.kk_meaning.proofs.FrameOrder.{frames_agree, fits_more, rest_fits, one_not_counted, calls_alike}

-- the frames that are left fit among so many bindings, have as many calls, and look as they did
pub record Popped (links more : List Link) (n : ℕ) (frames left : List Frame) : Type 0 where
  pub fit : FramesFit n (reverse left)
  pub calls : call_frames (map (frame_view links) (reverse frames)) ≡ call_frames (map (frame_view more) (reverse left))
  pub seen : map (frame_view more) (reverse left) ≡ map (frame_view links) (reverse (take (length frames - 1) frames))

-- they do where the newest one is no call, and the bindings up to then are kept
pub popped : (links more : List Link) (was kept n e : ℕ) (newest : Frame) (frames left : List Frame) → HasEnvironment e newest → IsNewest newest frames → left ≡ take (length frames - 1) frames → FramesFit was (reverse frames) → kept ≡ was → kept ≤ n → take kept more ≡ take kept links → Popped links more n frames left
popped links more was kept n e newest frames left has first is fits kept_is longer same =
    let older : List Frame = reverse (take (length frames - 1) frames) in
    let fit : FramesFit was older = rest_fits was e newest older has (subst (FramesFit was) first fits) in
    let fit_kept : FramesFit kept older = subst (λ k. FramesFit k older) (sym kept_is) fit in
    record {
      fit = subst (λ fs. FramesFit n (reverse fs)) (sym is) (fits_more kept n older longer fit_kept);
      calls =
          ap (λ fs. call_frames (map (frame_view links) fs)) first
          ∙ (one_not_counted links e newest older has
          ∙ (calls_alike links more older
          ∙ ap (λ fs. call_frames (map (frame_view more) (reverse fs))) (sym is)));
      seen =
          ap (λ fs. map (frame_view more) (reverse fs)) is
          ∙ frames_agree more links kept older (agree_on_front more links kept same) fit_kept;
    }
