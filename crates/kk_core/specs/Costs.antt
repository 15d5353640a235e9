-- What the steps of the core machine cost: so much for each, and so much for each part that it looks at.
use Rattle.std.specs.Prelude.{ℕ, ◌+◌, ◌-◌, ◌*◌, length, slice_get}
use Rattle.kk_source.specs.Live.{value_of}
use Rattle.kk_source.specs.State.{Store, Environment}
use Rattle.kk_core.specs.Codes.{Code, tail_call, case, compute, unpack}
use Rattle.kk_core.specs.CoreStates.{CoreControl, running, stopped, CoreState}
use Rattle.kk_core.specs.Looks.{looks_taken}

-- the parts that the step at a code looks at: its arguments, the fields that it opens, or what the tests look at on the way to a row
abbrev pub parts_seen : Code → Environment → Store → ℕ
parts_seen (tail_call f arguments) environment store = length arguments
parts_seen (case x decisions arms) environment store = looks_taken (slice_get store) (value_of environment x) decisions
parts_seen (compute x form arguments rest) environment store = length arguments
parts_seen (unpack x c fields rest) environment store = length fields
parts_seen _ environment store = 0

abbrev pub step_cost : ℕ
step_cost = 128

abbrev pub part_cost : ℕ
part_cost = 40

-- the cost of the step from a state; an ended machine has none
abbrev pub control_cost : CoreControl → Store → ℕ
control_cost (running code environment joins) store = step_cost + part_cost * parts_seen code environment store
control_cost (stopped by) store = 0

abbrev pub core_cost : CoreState → ℕ
core_cost s = control_cost s.machine.control s.machine.store

-- ---- steps of the source

-- what the steps that do one step of the source cost at most, where the greatest body has so many nodes
abbrev pub most_step_cost : ℕ → ℕ
most_step_cost nodes = 256 * (nodes * nodes)

-- ---- room

-- The same where each step pays so much more: room for work that a later form does beside it. There is room for so much where the
-- greatest body has so many nodes.
abbrev pub most_room : ℕ → ℕ
most_room nodes = 64 * (nodes - 1)

abbrev pub roomy_control_cost : ℕ → CoreControl → Store → ℕ
roomy_control_cost room (running code environment joins) store = room + control_cost (running code environment joins) store
roomy_control_cost room (stopped by) store = 0

abbrev pub roomy_core_cost : ℕ → CoreState → ℕ
roomy_core_cost room s = roomy_control_cost room s.machine.control s.machine.store
