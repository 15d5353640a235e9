use Rattle.std.proofs.Common.{◌≡◌, [], map, reverse, refl, sym, subst, ap, arith}
use Rattle.std.proofs.lemmas.List.{take_all}
use Rattle.kk_source.specs.Actions.{Action}
use Rattle.kk_source.specs.State.{Configuration}
use Rattle.kk_meaning.specs.View.{environment_of}
use Rattle.kk_meaning.specs.Machines.{setting_of, configuration_of, frames_below}
use Rattle.kk_meaning.specs.Performs.{Performs}
use Rattle.kk_meaning.specs.Frames.{frame_view}
use Rattle.kk_meaning.proofs.FrameOrder.{no_items}
use Rattle.kk_meaning.proofs.ValueTurns.{form_at_once}
use Rattle.kk_meaning.proofs.machine.Machine.apply.Goals as goal

pub returns-in-None : goal.returns-in-None
returns-in-None c =
    let machine = c.args.self.now in
    let none : c.args.arguments.now ≡ [] = no_items c.args.arguments.now c.in-None.ensures.cases in
    let frames : frames_below c.len-older.result machine ≡ (configuration_of machine).frames =
    ap (λ fs. map (frame_view machine.bindings.links.items) (reverse fs)) (take_all c.len-older.result machine.frames.items (omega (arith, c.len-older.ensures, machine.frames.ok.0))) in
    subst (λ (action : Action Configuration). Performs action machine c.finish.new.self c.finish.result)
    (sym (form_at_once (setting_of machine) c.args.form c.args.arguments.now (environment_of machine.bindings.links.items c.args.environment) (configuration_of machine) [] (frames_below c.len-older.result machine) none refl frames))
    c.finish.ensures
