use Rattle.std.proofs.Common.{sym, ap, ◌∙◌}
use Rattle.kk_base.specs.Memory.{byte_loaded}
use Rattle.rv_isa.specs.Bytes.{number_at}
use Rattle.rv_sim.proofs.Words.{word-loaded}
use Rattle.rv_sim.proofs.machine.Machine.word.Goals as goal

pub returns-then-can : goal.returns-then-can
returns-then-can c =
    rw (← ap (λ s. s.parts) c.self.view_is)
    (word-loaded c.self.inside.memory c.args.at (number_at (byte_loaded c.self.inside.memory) c.args.at 4) c.word.result
    c.if-at-eq0.true (sym c.can.ensures ∙ c.if-can.true) c.word.ensures)
