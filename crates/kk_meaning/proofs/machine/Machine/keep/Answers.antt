use Rattle.std.proofs.Common.{◌≤◌, ◌∷◌, ◌++◌, [], map, vec_len, refl, sym, ap, ◌∙◌, subst, rules}
use Rattle.std.proofs.lemmas.List.{map-append}
use Rattle.kk_syntax.specs.Trees.{expr_tree, trees_of}
use Rattle.kk_source.specs.State as source
use Rattle.kk_meaning.specs.declared.frame.Frame.TheVariants as OfFrame
use Rattle.kk_meaning.specs.View.{value_view, environment_of, cell_view}
use Rattle.kk_meaning.specs.Frames.{frame_view}
use Rattle.kk_meaning.specs.Machines.{setting_of, control_view, FramesFit}
use Rattle.kk_meaning.proofs.NewestFrame.{newest_changes, was_awaiting, changed_fits, changed_counts}
use Rattle.kk_meaning.proofs.ValueTurns.{machine, argument_turn, on_err}
use Rattle.kk_meaning.proofs.machine.Machine.keep.Goals as goal

pub returns-in_err-push-in-Arguments : goal.returns-in_err-push-in-Arguments
returns-in_err-push-in-Arguments c =
    let self = c.args.self.now in
    let links = self.bindings.links.items in
    let is = OfFrame.Arguments c.in-Arguments.form c.push.new.self c.in-Arguments.rest c.in-Arguments.environment in
    let change = newest_changes self.frames.items (vec_len self.frames) _ _ is self.frames.ok.0 (c.in-Some.ensures.variant.0 refl) c.in-Some.ensures.value c.in-Arguments.is in
    let left = trees_of (map expr_tree c.in-Arguments.rest.now) in
    let environment = environment_of links c.in-Arguments.environment in
    record {
      setting = refl;
      fits = record {
        control = c.requires.fits.control;
        frames = changed_fits _ c.in-Arguments.environment _ _ _ is change refl refl c.requires.fits.frames;
        calls = c.requires.fits.calls ∙ changed_counts _ c.in-Arguments.environment _ _ _ is change refl refl;
      };
      ok = search rules;
      err =
          on_err c.from_residual.result
          (ap (λ fs. machine (control_view links self.control) fs (map cell_view self.store.items))
          (ap (map (frame_view links)) change.after
          ∙ (ap (λ vs. source.arguments c.in-Arguments.form (map value_view vs) left environment ∷ map (frame_view links) change.older) c.in_err-push-in-Arguments.ensures.items
          ∙ ap (map (frame_view links)) (sym change.before))));
    }

pub returns-in_ok-push-in-Arguments : goal.returns-in_ok-push-in-Arguments
returns-in_ok-push-in-Arguments c =
    let self = c.args.self.now in
    let links = self.bindings.links.items in
    let is = OfFrame.Arguments c.in-Arguments.form c.push.new.self c.args.left c.in-Arguments.environment in
    let change = newest_changes self.frames.items (vec_len self.frames) _ _ is self.frames.ok.0 (c.in-Some.ensures.variant.0 refl) c.in-Some.ensures.value c.in-Arguments.is in
    let awaiting = was_awaiting c.args.next.now c.args.left.now c.args.environment _ _ _ is change c.requires.newest in
    let fit = subst (FramesFit (vec_len self.bindings.links)) change.before c.requires.fits.frames in
    let v = value_view c.args.value in
    let values = map value_view c.in-Arguments.values.items in
    let left = trees_of (map expr_tree c.args.left.now) in
    let form = c.in-Arguments.form in
    let below = map (frame_view links) change.older in
    record {
      setting = refl;
      fits = record {
        control = subst (λ e. e ≤ vec_len self.bindings.links) awaiting.1 fit.0;
        frames = changed_fits _ c.in-Arguments.environment _ _ _ is change refl refl c.requires.fits.frames;
        calls = c.requires.fits.calls ∙ changed_counts _ c.in-Arguments.environment _ _ _ is change refl refl;
      };
      ok =
          argument_turn (setting_of self) v (control_view links self.control) _ below (map cell_view self.store.items) _ _ _
          form values (expr_tree c.args.next.now) left (environment_of links c.args.environment)
          (ap (map (frame_view links)) change.before
          ∙ (ap (λ r. source.arguments form values (trees_of (map expr_tree r)) (environment_of links c.in-Arguments.environment) ∷ below) awaiting.0
          ∙ ap (λ e. source.arguments form values (trees_of (map expr_tree (c.args.next.now ∷ c.args.left.now))) (environment_of links e) ∷ below) awaiting.1))
          refl
          (ap (map (frame_view links)) change.after
          ∙ (ap (λ vs. source.arguments form vs left (environment_of links c.in-Arguments.environment) ∷ below) (ap (map value_view) c.in_ok-push-in-Arguments.ensures.items ∙ map-append value_view c.in-Arguments.values.items (c.args.value ∷ []))
          ∙ ap (λ e. source.arguments form (values ++ v ∷ []) left (environment_of links e) ∷ below) awaiting.1))
          refl;
      err = tt;
    }
