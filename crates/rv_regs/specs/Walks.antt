-- A walk through assembler code from its end back, which writes the plainest places.
use Rattle.std.specs.Prelude.{◌≡◌, ℕ, List, []}
use Rattle.rv_isa.specs.AsmCode.{Line}
use Rattle.rv_regs.specs.declared.walk.Walk.{Walk}
use Rattle.rv_propose.specs.Alive.{alive_values_at, lists_before}
use Rattle.rv_regs.specs.Plain.{placed_code}
use Rattle.rv_propose.specs.Tables.{last_at}
use Rattle.rv_regs.specs.Backwards.{backwards}
use Rattle.rv_regs.specs.Views.{lists_of}

-- the walk has come to code: it has written its lines, and knows what is alive and held before it, and alive at its labels
pub record HasComeTo (walk : Walk) (code : List Line) : Type 0 where
  pub items : backwards walk.items.items ≡ placed_code code
  pub lists : lists_of walk.point ≡ lists_before code
  pub labels : (l : ℕ) → last_at l [] walk.labels.items ≡ alive_values_at l code
