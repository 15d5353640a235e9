use Rattle.std.proofs.Common.{ap, arith, map}
use Rattle.std.proofs.Math.Seq.{drop-length}
use Rattle.rv_isa.specs.AsmCode.{line_of}
use Rattle.rv_regs.proofs.WalkSteps.{come_to_end}
use Rattle.rv_regs.proofs.walk.placed_lines.Goals as goal

pub loop-left-init : goal.loop-left-init
loop-left-init c =
    record {
      within = omega arith;
      come = come_to_end _ _ c.new.ensures.items c.new-2.ensures.items c.new-3.ensures.items c.new-4.ensures.items (ap (map line_of) (drop-length c.args.code.now));
    }
