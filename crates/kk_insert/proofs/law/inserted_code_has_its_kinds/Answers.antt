use Rattle.kk_core.specs.Kinds.{MakeOneType, field_count}
use Rattle.kk_insert.proofs.Simulation.{has_shape, always_fits, keeps_kinds}
use Rattle.kk_insert.proofs.law.inserted_code_has_its_kinds.Goals as goal

pub returns : goal.returns
returns c = record {
  shape = has_shape;
  fits = always_fits;
  kinds = λ setting constructors. keeps_kinds (MakeOneType constructors) (field_count constructors) setting constructors;
}
