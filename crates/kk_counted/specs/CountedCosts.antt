-- What the steps of the counted machine cost, in the unit in which kk_core/specs/Costs counts those of the core machine.
use Rattle.std.specs.Prelude.{ℕ, ◌+◌, ◌*◌, not, List, length, filter}
use Rattle.kk_syntax.specs.Shapes.{is_among}
use Rattle.kk_source.specs.Live.{value_of}
use Rattle.kk_source.specs.State.{Environment}
use Rattle.kk_core.specs.Costs.{part_cost}
use Rattle.kk_core.specs.Looks.{looks_taken}
use Rattle.kk_counted.specs.CountedCodes.{Counted, give, tail_call, case, compute, inside, read, open_cell, if_unique, dup, drop}
use Rattle.kk_counted.specs.CountedStates.{CountedControl, running, stopped, stuck, CountedState}
use Rattle.kk_counted.specs.Heaps.{Heap, cell_at}

-- a form but for its parts, an argument that is passed or a field that is read, a reference more, and a reference that is given up
abbrev pub form_cost : ℕ
form_cost = 100

abbrev pub value_cost : ℕ
value_cost = 12

abbrev pub dup_cost : ℕ
dup_cost = 8

abbrev pub drop_cost : ℕ
drop_cost = 20

-- an opening of a cell of which each field is read, and then kept by a reference more or given up
abbrev pub opening_cost : List ℕ → List ℕ → ℕ
opening_cost fields used =
    form_cost + value_cost * length fields + dup_cost * length (filter (is_among used) fields)
    + drop_cost * length (filter (λ x. not (is_among used x)) fields)

abbrev pub code_cost : Counted → Environment → Heap → ℕ
code_cost (give x) environment heap = form_cost
code_cost (tail_call f arguments) environment heap = form_cost + value_cost * length arguments
code_cost (case x decisions arms) environment heap =
    form_cost + part_cost * looks_taken (cell_at heap) (value_of environment x) decisions
code_cost (compute x form arguments rest) environment heap = form_cost + value_cost * length arguments
code_cost (inside x block rest) environment heap = form_cost
code_cost (read x c fields rest) environment heap = form_cost + value_cost * length fields
code_cost (open_cell x c fields used rest) environment heap = opening_cost fields used
code_cost (if_unique x c fields used rest) environment heap = opening_cost fields used
code_cost (dup x rest) environment heap = dup_cost
code_cost (drop x rest) environment heap = drop_cost

-- What a form but a dup and a drop pays beside its cost, where each has room for so much: for the work on tokens that is done
-- before the next of them.
abbrev pub room_at : ℕ → Counted → ℕ
room_at room (dup x rest) = 0
room_at room (drop x rest) = 0
room_at room _ = room

-- the cost of the step from a state, with such room; an ended machine has none
abbrev pub roomy_control_cost : ℕ → CountedControl → Heap → ℕ
roomy_control_cost room (running code environment joins) heap = room_at room code + code_cost code environment heap
roomy_control_cost room (stopped by) heap = 0
roomy_control_cost room stuck heap = 0

abbrev pub roomy_cost : ℕ → CountedState → ℕ
roomy_cost room s = roomy_control_cost room s.machine.control s.machine.heap

-- the cost without room
abbrev pub counted_cost : CountedState → ℕ
counted_cost = roomy_cost 0
