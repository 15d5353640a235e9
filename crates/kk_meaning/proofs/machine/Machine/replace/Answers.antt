use Rattle.std.proofs.Common.{map, reverse, take, vec_len, arith, refl, sym, ap, ◌∙◌, subst}
use Rattle.kk_syntax.specs.Programs.{function_tree}
use Rattle.kk_source.specs.State as source
use Rattle.kk_source.specs.Step.{call_frames}
use Rattle.kk_meaning.specs.View.{value_view}
use Rattle.kk_meaning.specs.Frames.{frame_view}
use Rattle.kk_meaning.specs.Machines.{configuration_of, frames_below, FramesFit}
use Rattle.kk_meaning.proofs.Environments.{agree_on_front, parameters_bound}
use Rattle.kk_meaning.proofs.FrameOrder.{frames_agree, calls_alike, call_fits, call_fits_back}
use Rattle.kk_meaning.proofs.ValueTurns.{entered_turn}
use Rattle.kk_meaning.proofs.machine.Machine.replace.Goals as goal

pub returns : goal.returns
returns c =
    let self = c.args.self.now in
    let links = self.bindings.links in
    let more = c.bind.new.self.links in
    let call = c.requires.call in
    let below = take c.args.older self.frames.items in
    let fit = call_fits (vec_len links) c.args.before call.frame call.rest call.call (subst (FramesFit (vec_len links)) call.newest (c.requires.below.fits (vec_len links) c.requires.fits.frames)) in
    let fit_below = subst (FramesFit c.args.before) (sym call.newest) (call_fits_back c.args.before c.args.before call.frame call.rest call.call (omega arith) fit.1) in
    let environment = parameters_bound more.items c.in_ok-environment.environment _ _ (map value_view c.args.values.now) c.in_ok-environment.ensures.environment c.as_slice.ensures.value c.in_ok-bound.ensures in
    record {
      setting = refl;
      fits = record {
        control = c.in_ok-environment.ensures.within;
        frames =
            subst (λ fs. FramesFit (vec_len more) (reverse fs)) (sym c.truncate.ensures.items)
            (subst (FramesFit (vec_len more)) (sym call.newest) (call_fits_back (vec_len more) c.args.before call.frame call.rest call.call c.in_ok-environment.ensures.longer fit.1));
        calls =
            c.requires.fits.calls
            ∙ (sym (c.requires.below.calls links.items)
            ∙ (calls_alike links.items more.items (reverse below)
            ∙ ap (λ fs. call_frames (map (frame_view more.items) (reverse fs))) (sym c.truncate.ensures.items)));
      };
      ok =
          entered_turn (function_tree c.args.fun.now) (map value_view c.args.values.now) (configuration_of self) (frames_below c.args.older self) _ _ _
          (ap (source.expression (function_tree c.args.fun.now).body) environment)
          (ap (λ fs. map (frame_view more.items) (reverse fs)) c.truncate.ensures.items
          ∙ frames_agree more.items links.items c.args.before (reverse below) (agree_on_front more.items links.items c.args.before c.in_ok-environment.ensures.kept) fit_below)
          refl;
      err = tt;
    }
