use Rattle.std.proofs.Common.{is_ok}
use Rattle.kk_counted.specs.InstancePositions.{positions_in}
use Rattle.kk_counted.proofs.Programs.{function_pushed}
use Rattle.kk_counted.proofs.counted.Counted.add.Goals as goal

pub invariant_of-self : goal.invariant_of-self
invariant_of-self c =
    record {
      spent = function_pushed (positions_in c.args.self.now.shape.instances.items) c.args.self.now.functions.items
          c.push.new.self.items c.args.function (is_ok c.push.result) c.args.self.now.spent c.requires c.push.ensures.items;
    }
