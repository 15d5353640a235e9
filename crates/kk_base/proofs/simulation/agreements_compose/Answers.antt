use Rattle.kk_base.proofs.Agreements.{agree_through, agree_mapped}
use Rattle.kk_base.proofs.simulation.agreements_compose.Goals as goal

pub returns : goal.returns
returns g c =
    record {
      composed = agree_through;
      seen = λ upper lower events ending credit up s t agree. agree_mapped events ending upper lower credit up s t agree;
    }
