-- The plainest places. Each value has a slot of its own. Before a line that reads it, it is loaded: a register has a copy. What a
-- line writes stands in a register, and is stored behind the line if it is alive there. Each argument is loaded
-- that its action takes in a register: of a Hold the second one, of an Unhold none.
use Rattle.std.specs.Prelude.{ℕ, suc, ◌%◌, ◌^◌, ◌==◌, List, [], ◌∷◌, Option, Some, None, cond, map, option_map}
use Rattle.std.specs.List.{filter}
use Rattle.std.proofs.Common.{lit<}
use Rattle.std.proofs.Math.Nat.{mod-lt}
use Rattle.rv_isa.specs.declared.register.Register.{Register}
use Rattle.rv_isa.specs.declared.asm.Action.{Action}
use Rattle.rv_isa.specs.declared.asm.Action.TheVariants.{Compute, Branch, Routine, Hold, Unhold}
use Rattle.rv_isa.specs.declared.routine.Routine.TheVariants.{Take}
use Rattle.rv_isa.specs.declared.placed.Place.{Place}
use Rattle.rv_isa.specs.declared.placed.Place.TheVariants.{Register as register, Slot as slot}
use Rattle.rv_isa.specs.declared.placed.Operand.{Operand}
use Rattle.rv_isa.specs.declared.placed.Listed.{Listed}
use Rattle.rv_isa.specs.declared.placed.Way.TheVariants.{Load, Store}
use Rattle.rv_isa.specs.AsmCode.{Line, Lines}
use Rattle.rv_isa.specs.Conventions.{argument}
use Rattle.rv_isa.specs.Frames.{is_among}
use Rattle.rv_isa.specs.PlacedCode.{PlacedLine, does, moves, PlacedLines}
use Rattle.rv_regs.specs.declared.slots.Loaded.{Loaded}
use Rattle.rv_propose.specs.Alive.{PointLists, lists_before}

-- ---- places

-- the register of a number
abbrev pub numbered : ℕ → Register
numbered n = record { number = n % 2 ^ 5; in_range = mod-lt _ (lit< tt) }

-- where a value stands while these are in registers: in its register, or else in its slot
abbrev pub place_in : List Loaded → ℕ → Place
place_in [] v = slot v
place_in (l ∷ loaded) v = cond (l.value == v) (register l.register) (place_in loaded v)

-- the register that has its copy while copies of these are in registers, if one has
abbrev pub copy_in : List Loaded → ℕ → Option Register
copy_in [] v = None
copy_in (l ∷ loaded) v = cond (l.value == v) (Some l.register) (copy_in loaded v)

-- the listings of a point, by where each value stands and where its copy
abbrev pub listing_at : (ℕ → Place) → (ℕ → Option Register) → List ℕ → ℕ → Listed
listing_at place_of copy_of held v = record { value = v; place = place_of v; held = is_among v held; copy = copy_of v }

abbrev pub listings : (ℕ → Place) → (ℕ → Option Register) → PointLists → List Listed
listings place_of copy_of point = map (listing_at place_of copy_of point.held) point.alive

-- where these are in registers and not yet in their slots
abbrev pub stored_later : List Loaded → PointLists → List Listed
stored_later pending point = listings (place_in pending) (copy_in []) point

-- where these are in their slots, and copies of them in registers
abbrev pub copied_in : List Loaded → PointLists → List Listed
copied_in loaded point = listings (place_in []) (copy_in loaded) point

abbrev pub operand_at : (ℕ → Place) → ℕ → Operand
operand_at place_of v = record { value = v; place = place_of v }

-- ---- the registers of a line

-- where the first argument is loaded; each other one is loaded into the next register
abbrev pub first_register : Action → ℕ
first_register (Compute operation) = 5
first_register (Branch condition l) = 5
first_register _ = argument 0

-- where the result comes
abbrev pub result_register : Action → ℕ
result_register (Compute operation) = 7
result_register (Routine Take) = 5
result_register _ = argument 0

-- the values in registers from the n-th on. A value that comes again later is loaded there alone.
abbrev pub load_from : ℕ → List ℕ → List Loaded
load_from n [] = []
load_from n (v ∷ vs) = cond (is_among v vs) (load_from (suc n) vs) (record { value = v; register = numbered n } ∷ load_from (suc n) vs)

-- the arguments that an action takes in registers: a token that is held or taken back is in its slot
abbrev pub register_args : Action → List ℕ → List ℕ
register_args Hold [] = []
register_args Hold (v ∷ args) = args
register_args Unhold args = []
register_args action args = args

-- what is loaded for an action
abbrev pub loaded_for : Action → List ℕ → List Loaded
loaded_for action args = load_from (first_register action) (register_args action args)

-- the operands of an action while these are in registers
abbrev pub operands_for : Action → List Loaded → List ℕ → List Operand
operands_for Hold loaded [] = []
operands_for Hold loaded (v ∷ args) = operand_at (place_in []) v ∷ map (operand_at (place_in loaded)) args
operands_for action loaded args = map (operand_at (place_in loaded)) args

-- what is stored behind a line: its result, where it is alive there
abbrev pub pending : Action → Option ℕ → List ℕ → List Loaded
pending action None behind = []
pending action (Some v) behind = cond (is_among v behind) (record { value = v; register = numbered (result_register action) } ∷ []) []

-- what is stored at the start of a function: the parameters that are alive
abbrev pub alive_params : List ℕ → List ℕ → List Loaded
alive_params params alive = filter (λ (l : Loaded). is_among l.value alive) (load_from (argument 0) params)

-- ---- rows of lines

-- the loads before a line; `after` begins with the line
abbrev pub loads : PointLists → List Loaded → List PlacedLine → List PlacedLine
loads point [] after = after
loads point (l ∷ loaded) after = loads point loaded (moves (copied_in loaded point) l.value (Load l.value l.register) ∷ after)

-- the stores behind a line; `next` is the code that follows
abbrev pub stores : PointLists → List Loaded → List PlacedLine → List PlacedLine
stores point [] next = next
stores point (l ∷ loaded) next = moves (stored_later (l ∷ loaded) point) l.value (Store l.register l.value) ∷ stores point loaded next

-- a line with its stores, by what is alive and held before it and at the next line
abbrev pub line_and_stores : Action → List ℕ → Option ℕ → PointLists → PointLists → List PlacedLine → List PlacedLine
line_and_stores action args into before behind next =
    let loaded = loaded_for action args in
    does (copied_in loaded before) action (operands_for action loaded args) (option_map (operand_at (λ v. register (numbered (result_register action)))) into)
    ∷ stores behind (pending action into behind.alive) next

-- and with its loads
abbrev pub placed_row : Action → List ℕ → Option ℕ → PointLists → PointLists → List PlacedLine → List PlacedLine
placed_row action args into before behind next = loads before (loaded_for action args) (line_and_stores action args into before behind next)

abbrev pub placed_code : List Line → List PlacedLine
placed_code [] = []
placed_code (line ∷ rest) = placed_row line.action line.args line.into (lists_before (line ∷ rest)) (lists_before rest) (placed_code rest)

-- at the start of a function the parameters that are alive go to their slots
abbrev pub placed_start_of : List ℕ → PointLists → List PlacedLine → List PlacedLine
placed_start_of params point code = stores point (alive_params params point.alive) code

abbrev pub placed_function : Lines → PlacedLines
placed_function f = record { params = f.params; code = placed_start_of f.params (lists_before f.code) (placed_code f.code) }
