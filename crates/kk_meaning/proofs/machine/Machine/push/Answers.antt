use Rattle.std.proofs.Common.{◌≡◌, ◌+◌, ◌∷◌, List, map, reverse, take, vec_len, arith, refl, sym, ap, ◌∙◌, subst}
use Rattle.kk_syntax.specs.Programs.{function_tree}
use Rattle.kk_syntax.specs.PositionsOf.{is_lent}
use Rattle.kk_source.specs.State as source
use Rattle.kk_source.specs.Step.{call_frames, lent_places}
use Rattle.kk_meaning.specs.declared.frame.Frame.TheVariants as OfFrame
use Rattle.kk_meaning.specs.View.{value_view}
use Rattle.kk_meaning.specs.Frames.{frame_view}
use Rattle.kk_meaning.specs.Machines.{setting_of, configuration_of, frames_below, FramesFit}
use Rattle.kk_meaning.proofs.Environments.{agree_on_front, parameters_bound}
use Rattle.kk_meaning.proofs.FrameOrder.{one_newer, frames_agree, calls_alike}
use Rattle.kk_meaning.proofs.ValueTurns.{full_turn, pushed_turn}
use Rattle.kk_meaning.proofs.machine.Machine.push.Goals as goal

pub returns-then-self : goal.returns-then-self
returns-then-self c =
    let self = c.args.self.now in
    let counted : self.calls ≡ call_frames (frames_below c.args.older self) = c.requires.fits.calls ∙ sym (c.requires.below.calls self.bindings.links.items) in
    record {
      setting = refl;
      fits = record { control = tt; frames = c.requires.fits.frames; calls = c.requires.fits.calls };
      ok = full_turn (setting_of self) c.args.function (function_tree c.args.fun.now) (map value_view c.args.values.now) (frames_below c.args.older self) (configuration_of self) (omega arith);
      err = tt;
    }

pub returns : goal.returns
returns c =
    let self = c.args.self.now in
    let links = self.bindings.links in
    let more = c.bind.new.self.links in
    let below = take c.args.older self.frames.items in
    let call = OfFrame.Call c.in_ok-lent.lent c.len-before.result in
    let all : reverse c.push.new.self.items ≡ call ∷ reverse below =
    ap reverse c.in_ok-push.ensures.items
    ∙ (one_newer c.truncate.new.self.items call
    ∙ ap (λ l. call ∷ reverse l) (c.truncate.ensures.items ∙ ap (take c.args.older) c.reserve.ensures.items)) in
    let fit = subst (λ n. FramesFit n (reverse below)) (sym c.len-before.ensures) (c.requires.below.fits (vec_len links) c.requires.fits.frames) in
    let counted : self.calls ≡ call_frames (frames_below c.args.older self) = c.requires.fits.calls ∙ sym (c.requires.below.calls links.items) in
    let environment = parameters_bound more.items c.in_ok-environment.environment _ _ (map value_view c.args.values.now) c.in_ok-environment.ensures.environment c.as_slice.ensures.value c.in_ok-bound.ensures in
    record {
      setting = refl;
      fits = record {
        control = c.in_ok-environment.ensures.within;
        frames = subst (FramesFit (vec_len more)) (sym all) (c.in_ok-environment.ensures.longer, fit);
        calls = (let one : self.calls + 1 ≡ call_frames (map (frame_view more.items) (call ∷ reverse below)) = omega (arith, counted, calls_alike links.items more.items (reverse below)) in one) ∙ ap (λ fs. call_frames (map (frame_view more.items) fs)) (sym all);
      };
      ok =
          pushed_turn (setting_of self) c.args.function (function_tree c.args.fun.now) (map value_view c.args.values.now) (frames_below c.args.older self) _ (configuration_of self) _ _
          (omega arith)
          (ap (source.expression (function_tree c.args.fun.now).body) environment)
          (ap (map (frame_view more.items)) all
          ∙ (ap (λ l. source.call l ∷ map (frame_view more.items) (reverse below)) c.in_ok-lent.ensures
          ∙ ap (λ (fs : List source.Frame). source.call (lent_places (is_lent (setting_of self).positions c.args.function) 0 (map value_view c.args.values.now)) ∷ fs) (frames_agree more.items links.items c.len-before.result (reverse below) (agree_on_front more.items links.items c.len-before.result c.in_ok-environment.ensures.kept) fit)))
          refl;
      err = tt;
    }
