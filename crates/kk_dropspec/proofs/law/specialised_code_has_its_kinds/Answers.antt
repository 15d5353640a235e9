use Rattle.kk_core.specs.Kinds.{MakeOneType, field_count}
use Rattle.kk_dropspec.proofs.SpecialKinds.{shape_always, kinds_always}
use Rattle.kk_dropspec.proofs.law.specialised_code_has_its_kinds.Goals as goal

pub returns : goal.returns
returns c = record {
  shape = shape_always;
  kinds = λ constructors positions setting weight other input spent fits.
      kinds_always positions setting weight other input spent fits (MakeOneType constructors) (field_count constructors);
}
