use Rattle.kk_meaning.specs.Machines.{setting_of, configuration_of}
use Rattle.kk_meaning.proofs.TurnSteps.{sound_kept, wanted}
use Rattle.kk_meaning.proofs.ValueTurns.{on_if_ok}
use Rattle.kk_meaning.proofs.meaning.Meaning.step.Goals as goal

pub invariant_of-self : goal.invariant_of-self
invariant_of-self c =
    let before = c.args.self.now in
    record {
      fits = c.step.ensures.fits;
      sound = sound_kept (setting_of before.machine) (configuration_of before.machine) (configuration_of c.step.new.self) c.step.result before.sound c.step.ensures.ok c.step.ensures.err;
    }

pub returns-clause-wanted : goal.returns-clause-wanted
returns-clause-wanted c =
    let before = c.args.self.now in
    on_if_ok c.step.result
    (λ turn is asks. wanted (setting_of before.machine) (setting_of c.step.new.self) (configuration_of before.machine) (configuration_of c.step.new.self) turn c.step.ensures.setting is asks)
    c.step.ensures.ok
