use Rattle.std.proofs.Common.{◌≡◌, ◌≢◌, ◌+◌, ◌-◌, refl, sym, ap, ◌∙◌, Some, arith, rules}
use Rattle.rv_isa.specs.Processor.{going}
use Rattle.rv_sim.specs.Turns.{answer_at}
use Rattle.rv_sim.specs.declared.halt.Halt.TheVariants.{InputFault, OutputFault}
use Rattle.rv_sim.specs.Devices.{halt_of}
use Rattle.rv_sim.proofs.RunComposition.{HasRun-none, HasRun-same, HasRun-then, HasRun-more, HasRun-ended, halt_of-no_fault}
use Rattle.rv_sim.proofs.machine.Machine.run.Goals as goal
use Rattle.rv_sim.proofs.machine.Machine.run.Goals.{then-loop-left-test+else-eq, else-loop-left-test}

pub loop-left-init : goal.loop-left-init
loop-left-init g c = record {
  whole = c.requires.whole;
  within = omega arith;
  ran = HasRun-same refl (omega arith) (HasRun-none c.args.self.now (g.I.Source.state c.args.input.now) (g.O.Sink.state c.args.out.now) c.requires.whole);
  input_stays = refl;
  output_stays = refl;
}

pub loop-left-preserved : goal.loop-left-preserved
loop-left-preserved g c =
    let ongoing : c.loop-left.self.ending ≡ going = search rules in
    let so_far = HasRun-same (ap halt_of ongoing) refl c.loop-left.invariant.ran in
    let one = HasRun-same (ap (λ d. answer_at d c.step.new.self.ending) c.in-None.is) refl c.step.ensures.ran in
    record {
      whole = one.faulted ∙ halt_of-no_fault c.step.new.self.ending;
      within = omega arith;
      ran = HasRun-same refl (omega arith) (HasRun-then (halt_of c.step.new.self.ending) (c.args.steps - c.loop-left.left) 1 _ _ _ _ _ _ _ _ _ so_far one);
      input_stays = search rules;
      output_stays = search rules;
    }

pub returns-in-Some-Input-clause-ran : goal.returns-in-Some-Input-clause-ran
returns-in-Some-Input-clause-ran g c =
    let ongoing : c.loop-left.self.ending ≡ going = search rules in
    let so_far = HasRun-same (ap halt_of ongoing) refl c.loop-left.invariant.ran in
    let one = HasRun-same (ap (λ d. answer_at d c.step.new.self.ending) (c.in-Some-Input.is ∙ ap Some c.in-Some-Input.field-0-is)) refl c.step.ensures.ran in
    HasRun-more InputFault (c.args.steps - c.loop-left.left + 1) c.args.steps _ _ _ _ _ _ (λ same. cc) (omega arith)
    (HasRun-then InputFault (c.args.steps - c.loop-left.left) 1 _ _ _ _ _ _ _ _ _ so_far one)

pub returns-in-Some-Output-clause-ran : goal.returns-in-Some-Output-clause-ran
returns-in-Some-Output-clause-ran g c =
    let ongoing : c.loop-left.self.ending ≡ going = search rules in
    let so_far = HasRun-same (ap halt_of ongoing) refl c.loop-left.invariant.ran in
    let one = HasRun-same (ap (λ d. answer_at d c.step.new.self.ending) (c.in-Some-Output.is ∙ ap Some c.in-Some-Output.field-0-is)) refl c.step.ensures.ran in
    HasRun-more OutputFault (c.args.steps - c.loop-left.left + 1) c.args.steps _ _ _ _ _ _ (λ same. cc) (omega arith)
    (HasRun-then OutputFault (c.args.steps - c.loop-left.left) 1 _ _ _ _ _ _ _ _ _ so_far one)

pub returns-clause-ran : goal.returns-clause-ran
returns-clause-ran g c =
    elim c.loop-left-test.branch [
      | then-loop-left-test+else-eq w ↦
          let ended : c.loop-left.self.ending ≢ going = search rules in
          HasRun-same (sym c.halt.ensures) refl (HasRun-ended c.loop-left.self.ending (c.args.steps - c.loop-left.left) c.args.steps _ _ _ _ _ _ ended (omega arith) c.loop-left.invariant.ran)
      | else-loop-left-test w ↦ HasRun-same (sym c.halt.ensures) (omega arith) c.loop-left.invariant.ran
    ]
