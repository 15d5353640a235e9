use Rattle.std.proofs.Common.{map, reverse, vec_len, sym, ap, ◌∙◌, subst}
use Rattle.kk_source.specs.Step.{call_frames}
use Rattle.kk_meaning.specs.Frames.{frame_view}
use Rattle.kk_meaning.specs.Machines.{FramesFit}
use Rattle.kk_meaning.proofs.machine.Machine.give_back.Goals as goal

pub returns-clause-fits : goal.returns-clause-fits
returns-clause-fits c =
    let links = c.args.self.now.bindings.links in
    record {
      control = tt;
      frames = subst (λ fs. FramesFit (vec_len links) (reverse fs)) (sym c.truncate.ensures.items) (c.requires.below.fits (vec_len links) c.requires.fits.frames);
      calls =
          c.requires.fits.calls
          ∙ (sym (c.requires.below.calls links.items)
          ∙ ap (λ fs. call_frames (map (frame_view links.items) (reverse fs))) (sym c.truncate.ensures.items));
    }
