use Rattle.std.proofs.Common.{rules, arith, ◌∙◌, ◌≡◌, List, [], ◌∷◌, ◌++◌, ◌-◌, length, take, map, reverse, refl, sym, subst, ap}
use Rattle.std.proofs.lemmas.List.{map-append}
use Rattle.kk_source.specs.Actions.{Action}
use Rattle.kk_source.specs.State.{Value, Frame, arguments, Configuration}
use Rattle.kk_syntax.specs.Trees.{no_tree, trees_of, expr_tree}
use Rattle.kk_meaning.specs.declared.frame.Frame.TheVariants as OfFrame
use Rattle.kk_meaning.proofs.FrameOrder.{newest_is, no_items}
use Rattle.kk_meaning.specs.Frames.{frame_view}
use Rattle.kk_meaning.specs.View.{value_view, environment_of}
use Rattle.kk_meaning.specs.Machines.{setting_of, configuration_of, frames_below}
use Rattle.kk_meaning.specs.Performs.{Performs}
use Rattle.kk_meaning.proofs.ValueTurns.{form_with_last}
use Rattle.kk_meaning.proofs.machine.Machine.resume.Goals as goal

pub returns-in_ok-values-in-None : goal.returns-in_ok-values-in-None
returns-in_ok-values-in-None c =
    let machine = c.args.self.now in
    let links = machine.bindings.links.items in
    let before : List Frame = map (frame_view links) (reverse machine.frames.items) in
    let older : List Frame = frames_below (c.len-older.result - 1) machine in
    let vs : List Value = map value_view c.in-Arguments.values.items in
    let top : reverse machine.frames.items ≡ c.in-Some.frame.now ∷ reverse (take (length machine.frames.items - 1) machine.frames.items) =
    search (rules, newest_is) in
    let count : length machine.frames.items ≡ c.len-older.result = omega (arith, c.len-older.ensures, machine.frames.ok.0) in
    let below : reverse machine.frames.items ≡ OfFrame.Arguments c.in-Arguments.form c.in-Arguments.values c.in-Arguments.left c.in-Arguments.environment ∷ reverse (take (c.len-older.result - 1) machine.frames.items) =
    top ∙ (ap (λ f. f ∷ reverse (take (length machine.frames.items - 1) machine.frames.items)) c.in-Arguments.is ∙ ap (λ n. OfFrame.Arguments c.in-Arguments.form c.in-Arguments.values c.in-Arguments.left c.in-Arguments.environment ∷ reverse (take (n - 1) machine.frames.items)) count) in
    let newest : before ≡ arguments c.in-Arguments.form vs no_tree (environment_of links c.in-Arguments.environment) ∷ older =
    ap (map (frame_view links)) below ∙ ap (λ es. arguments c.in-Arguments.form vs (trees_of (map expr_tree es)) (environment_of links c.in-Arguments.environment) ∷ older) (no_items c.in-Arguments.left.now c.in-None.ensures.cases) in
    let values : map value_view c.deref-in-None.result.now ≡ vs ++ value_view c.args.value ∷ [] =
    ap (map value_view) (c.deref-in-None.ensures.value ∙ c.in_ok-values-in-None.ensures ∙ ap (λ all. all ++ c.args.value ∷ []) c.as_slice.ensures.value) ∙ map-append value_view c.in-Arguments.values.items (c.args.value ∷ []) in
    subst (λ (action : Action Configuration). Performs action machine c.finish.new.self c.finish.result)
    (sym (form_with_last (setting_of machine) (value_view c.args.value) c.in-Arguments.form vs (map value_view c.deref-in-None.result.now) (environment_of links c.in-Arguments.environment) older older before (configuration_of machine) newest values refl))
    c.finish.ensures
