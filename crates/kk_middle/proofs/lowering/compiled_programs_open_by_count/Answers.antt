use Rattle.std.proofs.Common.{List, map, sym, subst}
use Rattle.kk_core.specs.Codes.{core_code}
use Rattle.kk_counted.specs.CountedCodes.{CountedFunction}
use Rattle.kk_counted.specs.Lowerable.{AllOpenByCount}
use Rattle.kk_insert.specs.Insertion.{inserted}
use Rattle.kk_dropspec.specs.Specialised.{special_function}
use Rattle.kk_middle.specs.Compiled.{instance_positions}
use Rattle.kk_middle.proofs.lowering.compiled_programs_open_by_count.Goals as goal

pub returns : goal.returns
returns c typed given made compiled =
    subst (λ (functions : List CountedFunction). AllOpenByCount functions) (sym compiled.functions)
    (c.fused_code_opens_by_count.ensures
    (map special_function (inserted (instance_positions given compiled.table) (core_code compiled.core)).functions)
    (c.specialised_code_opens_by_count.ensures
    (inserted (instance_positions given compiled.table) (core_code compiled.core)).functions))
