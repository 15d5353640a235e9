use Rattle.std.proofs.Common.{◌-◌, map, reverse, take, length, vec_len, refl, sym, ap, ◌∙◌}
use Rattle.kk_source.specs.State.{expression}
use Rattle.kk_source.specs.Step.{bind}
use Rattle.kk_meaning.specs.declared.frame.Frame.TheVariants as OfFrame
use Rattle.kk_meaning.specs.View.{value_view, environment_of, cell_view}
use Rattle.kk_meaning.specs.Frames.{block_tree, frame_view}
use Rattle.kk_meaning.specs.Machines.{setting_of, control_view}
use Rattle.kk_meaning.proofs.FramePops.{popped}
use Rattle.kk_meaning.proofs.ValueTurns.{statement_turn}
use Rattle.kk_meaning.proofs.machine.Machine.go_on.Goals as goal

pub returns-in_ok-more-in-Some : goal.returns-in_ok-more-in-Some
returns-in_ok-more-in-Some c =
    let self = c.args.self.now in
    let items = self.frames.items in
    let links = self.bindings.links in
    let more = c.bind.new.self.links in
    let left =
    popped links.items more.items (vec_len links) c.len-kept.result (vec_len more) c.args.environment (OfFrame.Statement c.args.variable c.args.rest c.args.environment) items c.pop-in-Some.new.self.items
    refl c.requires.newest (c.pop-in-Some.ensures.rest ∙ ap (λ k. take (k - 1) items) self.frames.ok.0) c.requires.fits.frames c.len-kept.ensures c.in_ok-more-in-Some.ensures.longer c.in_ok-more-in-Some.ensures.kept in
    record {
      setting = refl;
      fits = record { control = c.in_ok-more-in-Some.ensures.within; frames = left.fit; calls = c.requires.fits.calls ∙ left.calls };
      ok =
          statement_turn (setting_of self) (value_view c.args.value) (control_view links.items self.control) _ (map (frame_view links.items) (reverse (take (length items - 1) items))) (map cell_view self.store.items) _ _ _
          c.args.variable (block_tree c.args.rest) (environment_of links.items c.args.environment)
          (ap (map (frame_view links.items)) c.requires.newest)
          (ap (expression (block_tree c.args.rest)) c.in_ok-more-in-Some.ensures.environment
          ∙ ap (λ x. expression (block_tree c.args.rest) (bind x (value_view c.args.value) (environment_of links.items c.args.environment))) (sym c.in-Some.is))
          left.seen
          refl;
      err = tt;
    }
