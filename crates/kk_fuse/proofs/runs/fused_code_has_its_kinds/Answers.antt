use Rattle.kk_core.specs.Kinds.{MakeOneType, field_count}
use Rattle.kk_fuse.proofs.FusedStates.{fused_kinds}
use Rattle.kk_fuse.proofs.runs.fused_code_has_its_kinds.Goals as goal

pub returns : goal.returns
returns c = λ constructors positions setting most weight other input spent fits shape short.
    fused_kinds positions setting most input spent fits shape short (MakeOneType constructors) (field_count constructors) weight
    other
