use Rattle.kk_meaning.specs.Machines.{setting_of, configuration_of}
use Rattle.kk_meaning.specs.View.{value_view}
use Rattle.kk_meaning.proofs.TurnSteps.{came_at_byte, reads, byte_sound}
use Rattle.kk_meaning.proofs.meaning.Meaning.give.Goals as goal

pub invariant_of-self : goal.invariant_of-self
invariant_of-self c =
    let before = configuration_of c.args.self.now.machine in
    let there =
    came_at_byte before (configuration_of c.give_back.new.self) c.give_back.result c.args.byte (value_view c.of_byte.result) _
    c.give_back.ensures.turn c.frames_without_read-older.ensures.frames c.of_byte.ensures in
    record {
      fits = c.give_back.ensures.fits;
      sound = byte_sound (setting_of c.args.self.now.machine) c.args.byte before (configuration_of c.give_back.new.self)
          c.args.self.now.sound c.requires.wanted there;
    }

pub returns-clause-step : goal.returns-clause-step
returns-clause-step c =
    let before = configuration_of c.args.self.now.machine in
    reads (setting_of c.args.self.now.machine) c.args.byte before (configuration_of c.give_back.new.self) c.requires.wanted
    (came_at_byte before (configuration_of c.give_back.new.self) c.give_back.result c.args.byte (value_view c.of_byte.result) _
    c.give_back.ensures.turn c.frames_without_read-older.ensures.frames c.of_byte.ensures)
