use Rattle.elf_image.specs.Parts.{memory_of}
use Rattle.rv_sim.proofs.StartMachine.{starts}
use Rattle.rv_sim.proofs.machine.Machine.load.Goals as goal

pub returns-clause-start : goal.returns-clause-start
returns-clause-start c = λ input.
    starts c.new.result c.in_ok-from_parts.field-0 (memory_of c.args.image.now.parts) c.args.image.now.entry input c.new.ensures c.in_ok-from_parts.ensures
