-- A program is run with one setting, for so many cells and such a depth; and there is one.
use Rattle.std.proofs.Common.{◌≡◌, ℕ, refl, sym, ap, ◌∙◌}
use Rattle.kk_syntax.proofs.LeastTables.{least_table}
use Rattle.kk_syntax.proofs.PositionTables.{one_table}
use Rattle.kk_syntax.specs.Programs.{ProgramTree}
use Rattle.kk_source.specs.Settings.{setting_of, IsRun}
use Rattle.kk_source.specs.State.{Setting}

pub one_setting : (program : ProgramTree) (cells depth : ℕ) (one other : Setting) → IsRun program cells depth one → IsRun program cells depth other → one ≡ other
one_setting program cells depth one other a b =
    a.is ∙ (ap (λ table. setting_of program table cells depth) (one_table program a.positions b.positions a.least b.least) ∙ sym b.is)

pub some_setting : (program : ProgramTree) (cells depth : ℕ) → (setting : Setting) × IsRun program cells depth setting
some_setting program cells depth =
    let found = least_table program in
    (setting_of program found.0 cells depth, record { positions = found.0; least = found.1; is = refl })
