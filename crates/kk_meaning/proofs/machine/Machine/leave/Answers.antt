use Rattle.std.proofs.Common.{◌≡◌, ◌-◌, ◌∷◌, ◌==◌, true, false, suc, map, reverse, take, length, vec_len, arith, refl, sym, ap, ◌∙◌, subst}
use Rattle.kk_source.specs.Step.{call_frames}
use Rattle.kk_meaning.specs.View.{value_view, cell_view}
use Rattle.kk_meaning.specs.Frames.{frame_view}
use Rattle.kk_meaning.specs.Machines.{setting_of, control_view, FramesFit}
use Rattle.kk_meaning.proofs.Environments.{agree_on_front, take_again}
use Rattle.kk_meaning.proofs.FrameOrder.{frames_agree, fits_more, calls_alike, call_fits, call_counts, call_seen, nothing_left, front_length}
use Rattle.kk_meaning.proofs.ValueTurns.{call_turn}
use Rattle.kk_meaning.proofs.machine.Machine.leave.Goals as goal

pub returns-else-is_empty : goal.returns-else-is_empty
returns-else-is_empty c =
    let self = c.args.self.now in
    let items = self.frames.items in
    let links = self.bindings.links in
    let kept = c.truncate.new.self.links in
    let frame = c.requires.newest.frame in
    let older = reverse (take (length items - 1) items) in
    let popped : c.pop.new.self.items ≡ take (length items - 1) items = c.pop.ensures.rest ∙ ap (λ k. take (k - 1) items) self.frames.ok.0 in
    let fit = call_fits (vec_len links) c.args.before frame older c.requires.newest.call (subst (FramesFit (vec_len links)) c.requires.newest.newest c.requires.fits.frames) in
    let all = links.ok.0 in
    let len : vec_len kept ≡ c.args.before = kept.ok.0 ∙ (ap length c.truncate.ensures ∙ front_length links.items c.args.before (omega (arith, fit.0))) in
    let counted : self.calls ≡ suc (call_frames (map (frame_view links.items) older)) =
    c.requires.fits.calls
    ∙ (ap (λ fs. call_frames (map (frame_view links.items) fs)) c.requires.newest.newest
    ∙ call_counts links.items c.args.before frame older c.requires.newest.call) in
    let alike = calls_alike links.items kept.items older ∙ ap (λ fs. call_frames (map (frame_view kept.items) (reverse fs))) (sym popped) in
    let seen = call_seen links.items c.args.before frame c.requires.newest.call in
    record {
      setting = refl;
      fits = record {
        control = tt;
        frames = subst (λ fs. FramesFit (vec_len kept) (reverse fs)) (sym popped) (fits_more c.args.before (vec_len kept) older (omega arith) fit.1);
        calls = omega (arith, counted, alike);
      };
      turn =
          call_turn (setting_of self) (value_view c.args.value) (control_view links.items self.control) _ (map (frame_view links.items) older) (map cell_view self.store.items) _ _ _
          seen.0
          (ap (map (frame_view links.items)) c.requires.newest.newest ∙ ap (λ f. f ∷ map (frame_view links.items) older) seen.1)
          (λ none.
          let zero : vec_len c.pop.new.self ≡ 0 = c.pop.new.self.ok.0 ∙ (ap length popped ∙ nothing_left (frame_view links.items) (take (length items - 1) items) none) in
          let wrong : false ≡ true = sym c.if-is_empty.false ∙ (c.is_empty.ensures ∙ ap (λ n. n == 0) zero) in
          cc)
          refl
          (ap (λ fs. map (frame_view kept.items) (reverse fs)) popped
          ∙ frames_agree kept.items links.items c.args.before older (agree_on_front kept.items links.items c.args.before (take_again links.items kept.items c.args.before c.truncate.ensures)) fit.1)
          refl;
    }
