use Rattle.std.proofs.Common.{◌≡◌, ◌∷◌, map, reverse, vec_len, refl, sym, ap, ◌∙◌, subst}
use Rattle.kk_syntax.specs.Trees.{expr_tree}
use Rattle.kk_source.specs.State as source
use Rattle.kk_source.specs.Step.{call_frames}
use Rattle.kk_meaning.specs.declared.turn.Turn.TheVariants.{Went}
use Rattle.kk_meaning.specs.View.{cell_view, environment_of}
use Rattle.kk_meaning.specs.Frames.{frame_view}
use Rattle.kk_meaning.specs.Machines.{FramesFit}
use Rattle.kk_meaning.proofs.FrameOrder.{one_newer, one_fits, one_not_counted}
use Rattle.kk_meaning.proofs.ValueTurns.{machine}
use Rattle.kk_meaning.proofs.machine.Machine.wait.Goals as goal

pub returns : goal.returns
returns c =
    let self = c.args.self.now in
    let links = self.bindings.links in
    let older = reverse self.frames.items in
    let all : reverse c.push.new.self.items ≡ c.args.frame ∷ older =
    ap reverse c.in_ok-push.ensures.items ∙ one_newer self.frames.items c.args.frame in
    record {
      setting = refl;
      fits = record {
        control = c.requires.within;
        frames =
            subst (FramesFit (vec_len links)) (sym all)
            (one_fits (vec_len links) c.args.environment c.args.frame older c.requires.frame c.requires.within c.requires.fits.frames);
        calls =
            c.requires.fits.calls
            ∙ (sym (one_not_counted links.items c.args.environment c.args.frame older c.requires.frame)
            ∙ ap (λ fs. call_frames (map (frame_view links.items) fs)) (sym all));
      };
      ok =
          ap (λ fs. (Went, machine (source.expression (expr_tree c.args.first.now) (environment_of links.items c.args.environment)) (map (frame_view links.items) fs) (map cell_view self.store.items)))
          all;
      err = tt;
    }
