use Rattle.std.proofs.Common.{◌+◌, ◌*◌}
use Rattle.kk_base.proofs.Agreements.{agree_in_steps}
use Rattle.kk_base.proofs.Simulations.{simulates_agree}
use Rattle.kk_base.proofs.simulation.related_states_agree.Goals as goal

pub returns : goal.returns
returns g c =
    let l = g.L.Layers in
    record {
      agree = λ upper lower. simulates_agree upper lower l.related l.passing;
      in_steps = λ upper lower pace simulates each credit idle s t related. agree_in_steps upper lower credit (λ n. n * pace + idle + 1) s t each (simulates_agree upper lower l.related l.passing pace simulates credit idle s t related);
    }
