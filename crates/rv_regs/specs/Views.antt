-- What the parts of the code stand for.
use Rattle.std.specs.Prelude.{List, Option, Some, None, map, option_map}
use Rattle.std.specs.Borrow.{Bor}
use Rattle.rv_isa.specs.declared.asm.Action.{Action}
use Rattle.rv_isa.specs.declared.placed.Operand.{Operand}
use Rattle.rv_isa.specs.declared.placed.Listed.{Listed}
use Rattle.rv_isa.specs.AsmCode.{Line}
use Rattle.rv_propose.specs.declared.liveness.Point.{Point}
use Rattle.rv_propose.specs.Alive.{PointLists}
use Rattle.rv_regs.specs.Conditions.{value_of}

-- the listings of a point, if it is there
abbrev pub point_of : Option (Bor (List Listed)) → Option (List Listed)
point_of None = None
point_of (Some listings) = Some listings.now

-- a statement without its places
abbrev pub line_with : Action → List Operand → Option Operand → Line
line_with action args into = record { action = action; args = map value_of args; into = option_map value_of into }

-- what is alive at a point, and what is held there
abbrev pub lists_of : Point → PointLists
lists_of point = record { alive = point.alive.items; held = point.held.items }
