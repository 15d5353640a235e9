use Rattle.std.proofs.Common.{◌≡◌, ◌-◌, None, map, reverse, take, length, vec_len, refl, sym, ap, ◌∙◌}
use Rattle.kk_syntax.specs.Trees.{expr_tree, rows_of, row_tree}
use Rattle.kk_source.specs.State.{expression}
use Rattle.kk_source.specs.Matching.{first_match}
use Rattle.kk_meaning.specs.declared.frame.Frame.TheVariants as OfFrame
use Rattle.kk_meaning.specs.Turns.{turn_of}
use Rattle.kk_meaning.specs.View.{value_view, bound_view, environment_of, pushed, cell_view, chosen_view}
use Rattle.kk_meaning.specs.Frames.{frame_view}
use Rattle.kk_meaning.specs.Machines.{setting_of, configuration_of, control_view}
use Rattle.kk_meaning.proofs.FramePops.{popped}
use Rattle.kk_meaning.proofs.ValueTurns.{choice_turn, no_choice, stays_turn}
use Rattle.kk_meaning.proofs.machine.Machine.choose.Goals as goal

pub returns-in_default : goal.returns-in_default
returns-in_default c =
    let self = c.args.self.now in
    let now = configuration_of self in
    let links = self.bindings.links.items in
    let older = map (frame_view links) (reverse (take (length self.frames.items - 1) self.frames.items)) in
    let environment = environment_of links c.args.environment in
    let rows = rows_of (map row_tree c.args.rows.now) in
    let none : first_match now.store rows (value_view c.args.value) environment ≡ None =
    ap (λ l. first_match (map cell_view l) rows (value_view c.args.value) environment) (sym c.as_slice.ensures.value)
    ∙ (c.in_ok-chosen.ensures environment ∙ ap (λ x. chosen_view x environment) c.in_default.is) in
    record {
      setting = refl;
      fits = c.requires.fits;
      ok = stays_turn now c.requires.going ∙ sym (ap (turn_of now) (no_choice (setting_of self) (value_view c.args.value) now rows environment older (ap (map (frame_view links)) c.requires.newest) none));
      err = tt;
    }

pub returns : goal.returns
returns c =
    let self = c.args.self.now in
    let items = self.frames.items in
    let links = self.bindings.links in
    let more = c.bind.new.self.links in
    let chosen = c.in-Some.chosen in
    let environment = environment_of links.items c.args.environment in
    let rows = rows_of (map row_tree c.args.rows.now) in
    let left =
    popped links.items more.items (vec_len links) c.len-kept.result (vec_len more) c.args.environment (OfFrame.Rows c.args.rows c.args.environment) items c.pop.new.self.items
    refl c.requires.newest (c.pop.ensures.rest ∙ ap (λ k. take (k - 1) items) self.frames.ok.0) c.requires.fits.frames c.len-kept.ensures c.in_ok-more.ensures.longer c.in_ok-more.ensures.kept in
    let match_is =
    ap (λ l. first_match (map cell_view l) rows (value_view c.args.value) environment) (sym c.as_slice.ensures.value)
    ∙ (c.in_ok-chosen.ensures environment ∙ ap (λ x. chosen_view x environment) c.in-Some.is) in
    record {
      setting = refl;
      fits = record { control = c.in_ok-more.ensures.within; frames = left.fit; calls = c.requires.fits.calls ∙ left.calls };
      ok =
          choice_turn (setting_of self) (value_view c.args.value) (control_view links.items self.control) _ (map (frame_view links.items) (reverse (take (length items - 1) items))) (map cell_view self.store.items) _ _ _
          rows environment (record { body = expr_tree chosen.body.now; environment = pushed (map bound_view chosen.bound.items) environment })
          (ap (map (frame_view links.items)) c.requires.newest)
          match_is
          (ap (expression (expr_tree chosen.body.now)) (c.in_ok-more.ensures.environment ∙ ap (λ bs. pushed (map bound_view bs) environment) c.as_slice-2.ensures.value))
          left.seen
          refl;
      err = tt;
    }
