use Rattle.kk_counted.proofs.NameAssignment.{pool_is, growth_places}
use Rattle.kk_counted.proofs.NameGrowth.{step_grows}
use Rattle.kk_counted.proofs.PoolRuns.{none_placed, runs_placed}
use Rattle.kk_counted.proofs.law.names_have_cells_of_a_pool.Goals as goal

pub returns : goal.returns
returns c = record { pool = pool_is; start = none_placed; steps = step_grows; placing = growth_places; runs = runs_placed }
