use Rattle.std.proofs.Common.{[], ◌∷◌, refl}
use Rattle.kk_base.specs.Trace.{input as taken, input_end}
use Rattle.kk_meaning.specs.Machines.{setting_of, configuration_of}
use Rattle.rv_sim.proofs.Events.{gives_byte, gives_end}
use Rattle.kk_eval.proofs.EvaluationSteps.{byte_leads, end_leads}
use Rattle.kk_eval.proofs.evaluation.read.Goals as goal

pub returns-in-Byte-clause-read : goal.returns-in-Byte-clause-read
returns-in-Byte-clause-read g c =
    let leads = byte_leads (setting_of c.args.meaning.now.machine) (configuration_of c.args.meaning.now.machine) (configuration_of c.give.new.self.machine) c.in-Byte.byte c.give.ensures.step c.requires.wanted c.requires.going in (
      taken c.in-Byte.byte ∷ [],
      leads.0,
      gives_byte c.in-Byte.byte (g.I.Source.state c.next.new.self) (g.I.Source.state c.args.input.now) c.in-Byte.ensures.content c.in-Byte.ensures.keeps c.in-Byte.ensures.bytes,
      refl,
      leads.1,
      c.in-Byte.ensures.faults.rises,
    )

pub returns-in-End-clause-read : goal.returns-in-End-clause-read
returns-in-End-clause-read g c =
    let leads = end_leads (setting_of c.args.meaning.now.machine) (configuration_of c.args.meaning.now.machine) (configuration_of c.give-in-End.new.self.machine) c.give-in-End.ensures.step c.requires.wanted c.requires.going in (
      input_end ∷ [],
      leads.0,
      gives_end (g.I.Source.state c.next.new.self) (g.I.Source.state c.args.input.now) c.in-End.ensures.content c.in-End.ensures.end c.in-End.ensures.keeps,
      refl,
      leads.1,
      c.in-End.ensures.faults.rises,
    )
