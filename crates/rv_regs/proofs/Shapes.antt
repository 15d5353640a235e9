-- The shape of a function in the plainest places.
use Rattle.std.proofs.Common.{◌≡◌, ◌<◌, ◌≤◌, ◌+◌, ◌*◌, ℕ, suc, List, [], ◌∷◌, Option, Some, None, Bool, true, All, refl, ap, arith, length}
use Rattle.std.specs.List.{filter}
use Rattle.std.proofs.lemmas.Bool.{cond_both}
use Rattle.std.proofs.lemmas.List.{length-map}
use Rattle.std.proofs.lemmas.List.Elements.{All-weaker}
use Rattle.kk_base.specs.Limits.{greatest_of}
use Rattle.kk_base.specs.declared.limit.LimitKind.TheVariants.{Parameters}
use Rattle.rv_isa.specs.declared.asm.Action.{Action}
use Rattle.rv_isa.specs.declared.asm.Action.TheVariants.{Compute, Call, TailCall, Routine, Hold, Unhold}
use Rattle.rv_isa.specs.declared.routine.Routine.TheVariants.{Drop}
use Rattle.rv_isa.specs.declared.placed.Place.{Place}
use Rattle.rv_isa.specs.declared.placed.Place.TheVariants.{Register as register, Slot as slot}
use Rattle.rv_isa.specs.declared.placed.Operand.{Operand}
use Rattle.rv_isa.specs.declared.placed.Listed.{Listed}
use Rattle.rv_isa.specs.declared.placed.Way.TheVariants.{Load}
use Rattle.rv_isa.specs.AsmCode.{Line, Lines}
use Rattle.rv_isa.specs.Conventions.{argument}
use Rattle.rv_isa.specs.Frames.{is_among}
use Rattle.rv_isa.specs.PlacedCode.{PlacedLine, does, moves, from_of, to_of}
use Rattle.rv_isa.specs.ValueBounds.{AreLinesBelow}
use Rattle.rv_isa.specs.WellFormed.{AreLinesFormed, IsWellFormed, most_args}
use Rattle.rv_isa.specs.Costs.{argument_moves, result_moves, move_instructions, code_length, placed_code_length}
use Rattle.rv_regs.specs.declared.slots.Loaded.{Loaded}
use Rattle.rv_propose.specs.Alive.{alive_values, PointLists, lists_before}
use Rattle.rv_regs.specs.Plain.{numbered, place_in, copy_in, listing_at, listings, copied_in, operand_at, first_register, result_register, load_from, register_args, loaded_for, operands_for, pending, alive_params, loads, stores, line_and_stores, placed_code, placed_function}
use Rattle.rv_regs.specs.Relation.{leading, argument_loads, first_args, stores_behind, FewMoves}
use Rattle.rv_regs.specs.Shape.{IsBelow, IsResultBelow, HasSlotsBelow, AllSlotsBelow, IsModest}
use Rattle.rv_regs.proofs.Lists.{all_made, each_among}
use Rattle.rv_regs.proofs.Aliveness.{alive_small}
use Rattle.rv_regs.proofs.RegisterPlaces.{AreAmong, params_among}
use Rattle.rv_regs.proofs.OperandPlaces.{result_of, few_register_args, operands_made, most_registers, pending_among, args_alive}

-- ---- how many

few_loads : (n : ℕ) (vs : List ℕ) → length (load_from n vs) ≤ length vs
few_loads n [] = omega arith
few_loads n (v ∷ vs) =
    let later = few_loads (suc n) vs in
    cond_both (is_among v vs) (load_from (suc n) vs) (record { value = v; register = numbered n } ∷ load_from (suc n) vs) (λ (ls : List Loaded). length ls ≤ suc (length vs)) (λ t. omega (arith, later)) (λ t. omega (arith, later))

-- what is loaded for an action is within the moves that may stand before it
few_loaded_for : (action : Action) (args : List ℕ) → length (loaded_for action args) ≤ argument_loads action (length args)
few_loaded_for Hold args = omega (arith, few_loads (first_register Hold) (register_args Hold args), few_register_args Hold args)
few_loaded_for Unhold args = omega arith
few_loaded_for (Routine Drop) args = omega (arith, few_loads (first_register (Routine Drop)) args)
few_loaded_for action args = few_loads (first_register action) args

-- and within those that are counted where its line is written
short_loaded_for : (action : Action) (args : List ℕ) → length (loaded_for action args) ≤ argument_moves action (length args)
short_loaded_for (Compute operation) args = omega (arith, few_loads (first_register (Compute operation)) args)
short_loaded_for (Call f) args = omega (arith, few_loads (first_register (Call f)) args)
short_loaded_for (TailCall f) args = omega (arith, few_loads (first_register (TailCall f)) args)
short_loaded_for Hold args = few_loaded_for Hold args
short_loaded_for Unhold args = omega arith
short_loaded_for action args = few_loads (first_register action) args

many_operands : (action : Action) (loaded : List Loaded) (args : List ℕ) → length (operands_for action loaded args) ≡ length args
many_operands Hold loaded [] = refl
many_operands Hold loaded (v ∷ args) = ap suc (length-map args (operand_at (place_in loaded)))
many_operands action loaded args = length-map args (operand_at (place_in loaded))

few_kept : (test : Loaded → Bool) (ls : List Loaded) → length (filter test ls) ≤ length ls
few_kept test [] = omega arith
few_kept test (l ∷ ls) =
    let later = few_kept test ls in
    cond_both (test l) (l ∷ filter test ls) (filter test ls) (λ (ms : List Loaded). length ms ≤ suc (length ls)) (λ t. omega (arith, later)) (λ t. omega (arith, later))

pub few_args : (action : Action) (args : List ℕ) → length args ≤ most_args action → length args ≤ greatest_of Parameters
few_args (Compute operation) args few = omega (arith, few)
few_args action args few = omega (arith, few, most_registers action)

few_pending : (action : Action) (into : Option ℕ) (behind : List ℕ) → length (pending action into behind) ≤ result_moves into
few_pending action None behind = omega arith
few_pending action (Some v) behind =
    cond_both (is_among v behind) (record { value = v; register = numbered (result_register action) } ∷ []) [] (λ (ls : List Loaded). length ls ≤ 1) (λ t. omega arith) (λ t. omega arith)

-- ---- moves in a row

leading_stores : (point : PointLists) (ls : List Loaded) (next : List PlacedLine) → leading (stores point ls next) ≡ length ls + leading next
leading_stores point [] next = omega arith
leading_stores point (l ∷ ls) next = omega (arith, leading_stores point ls next)

leading_loads : (point : PointLists) (ls : List Loaded) (after : List PlacedLine) → leading (loads point ls after) ≡ length ls + leading after
leading_loads point [] after = omega arith
leading_loads point (l ∷ ls) after = omega (arith, leading_loads point ls (moves (copied_in ls point) l.value (Load l.value l.register) ∷ after))

args_stores : (point : PointLists) (ls : List Loaded) (next : List PlacedLine) → first_args (stores point ls next) ≡ first_args next
args_stores point [] next = refl
args_stores point (l ∷ ls) next = args_stores point ls next

args_loads : (point : PointLists) (ls : List Loaded) (after : List PlacedLine) → first_args (loads point ls after) ≡ first_args after
args_loads point [] after = refl
args_loads point (l ∷ ls) after = args_loads point ls (moves (copied_in ls point) l.value (Load l.value l.register) ∷ after)

few_stores : (point : PointLists) (ls : List Loaded) (next : List PlacedLine) → FewMoves next → FewMoves (stores point ls next)
few_stores point [] next few = few
few_stores point (l ∷ ls) next few = few_stores point ls next few

few_loaded : (point : PointLists) (ls : List Loaded) (after : List PlacedLine) → FewMoves after → FewMoves (loads point ls after)
few_loaded point [] after few = few
few_loaded point (l ∷ ls) after few = few_loaded point ls (moves (copied_in ls point) l.value (Load l.value l.register) ∷ after) few

abbrev line_and_more : Line → List Line → List PlacedLine
line_and_more line rest = line_and_stores line.action line.args line.into (lists_before (line ∷ rest)) (lists_before rest) (placed_code rest)

-- only the loads of its first statement stand at the front of code
leading_code : (code : List Line) → leading (placed_code code) ≤ first_args (placed_code code)
leading_code [] = omega arith
leading_code (line ∷ rest) =
    omega (
      arith,
      leading_loads (lists_before (line ∷ rest)) (loaded_for line.action line.args) (line_and_more line rest),
      args_loads (lists_before (line ∷ rest)) (loaded_for line.action line.args) (line_and_more line rest),
      few_loaded_for line.action line.args,
      ap (argument_loads line.action) (many_operands line.action (loaded_for line.action line.args) line.args),
    )

-- stores, so many, before such code
leading_both : (point : PointLists) (ls : List Loaded) (most : ℕ) (code : List Line) → length ls ≤ most
    → leading (stores point ls (placed_code code)) ≤ most + (first_args (stores point ls (placed_code code)) + 0)
leading_both point ls most code few = omega (arith, few, leading_stores point ls (placed_code code), args_stores point ls (placed_code code), leading_code code)

same_given : (action : Action) (into : Option ℕ) → result_moves (result_of action into) ≡ result_moves into
same_given action None = refl
same_given action (Some v) = refl

-- the stores behind a line are within those that may stand there
stores_enough : (action : Action) (args : List Operand) (into : Option Operand) (results : ℕ) → result_moves into ≡ results → results ≤ stores_behind action args into
stores_enough (Compute operation) args into results same = omega (arith, same)
stores_enough action args into results same = omega (arith, same)

few_code : (code : List Line) → AreLinesFormed code → FewMoves (placed_code code)
few_code [] formed = tt
few_code (line ∷ rest) formed =
    let loaded : List Loaded = loaded_for line.action line.args in
    let operands : List Operand = operands_for line.action loaded line.args in
    let behind : result_moves line.into ≤ stores_behind line.action operands (result_of line.action line.into) =
    stores_enough line.action operands (result_of line.action line.into) (result_moves line.into) (same_given line.action line.into) in
    few_loaded (lists_before (line ∷ rest)) loaded (line_and_more line rest) (
      leading_both (lists_before rest) (pending line.action line.into (alive_values rest)) (stores_behind line.action operands (result_of line.action line.into)) rest (omega (arith, few_pending line.action line.into (alive_values rest), behind)),
      few_stores (lists_before rest) (pending line.action line.into (alive_values rest)) (placed_code rest) (few_code rest formed.1),
    )

few_start : (params alive : List ℕ) → length (alive_params params alive) ≤ length params
few_start params alive = omega (arith, few_kept (λ (l : Loaded). is_among l.value alive) (load_from (argument 0) params), few_loads (argument 0) params)

-- ---- how long

length_stores : (point : PointLists) (ls : List Loaded) (next : List PlacedLine) → placed_code_length (stores point ls next) ≡ length ls * move_instructions + placed_code_length next
length_stores point [] next = omega arith
length_stores point (l ∷ ls) next = omega (arith, length_stores point ls next)

length_loads : (point : PointLists) (ls : List Loaded) (after : List PlacedLine) → placed_code_length (loads point ls after) ≡ length ls * move_instructions + placed_code_length after
length_loads point [] after = omega arith
length_loads point (l ∷ ls) after = omega (arith, length_loads point ls (moves (copied_in ls point) l.value (Load l.value l.register) ∷ after))

length_code : (code : List Line) → AreLinesFormed code → placed_code_length (placed_code code) ≤ code_length code
length_code [] formed = omega arith
length_code (line ∷ rest) formed =
    omega (
      arith,
      length_loads (lists_before (line ∷ rest)) (loaded_for line.action line.args) (line_and_more line rest),
      short_loaded_for line.action line.args,
      few_pending line.action line.into (alive_values rest),
      length_stores (lists_before rest) (pending line.action line.into (alive_values rest)) (placed_code rest),
      length_code rest formed.1,
    )

length_function : (f : Lines) → IsWellFormed f → placed_code_length (placed_function f).code ≤ length f.params * move_instructions + code_length f.code
length_function f formed =
    omega (
      arith,
      length_stores (lists_before f.code) (alive_params f.params (alive_values f.code)) (placed_code f.code),
      few_start f.params (alive_values f.code),
      length_code f.code formed.lines,
    )

-- ---- slots

below_place : (most : ℕ) (ls : List Loaded) (v : ℕ) → v < most → IsBelow most (place_in ls v)
below_place most [] v small = small
below_place most (l ∷ ls) v small = cond_both _ (register l.register) (place_in ls v) (IsBelow most) (λ t. tt) (λ t. below_place most ls v small)

below_listed : (most : ℕ) (ls copied : List Loaded) (point : PointLists) → ((v : ℕ) → is_among v point.alive ≡ true → v < most)
    → All (λ (l : Listed). IsBelow most l.place) (listings (place_in ls) (copy_in copied) point)
below_listed most ls copied point small =
    all_made (λ (l : Listed). IsBelow most l.place) (listing_at (place_in ls) (copy_in copied) point.held) point.alive (λ v there. below_place most ls v (small v there))

below_stores : (most : ℕ) (point : PointLists) (ls : List Loaded) (next : List PlacedLine) → ((v : ℕ) → is_among v point.alive ≡ true → v < most) → AreAmong point.alive ls → AllSlotsBelow most next → AllSlotsBelow most (stores point ls next)
below_stores most point [] next small among below = below
below_stores most point (l ∷ ls) next small among below = ((below_listed most (l ∷ ls) [] point small, (tt, small l.value among.0)), below_stores most point ls next small among.1 below)

below_loads : (most : ℕ) (point : PointLists) (ls : List Loaded) (after : List PlacedLine) → ((v : ℕ) → is_among v point.alive ≡ true → v < most) → AreAmong point.alive ls → AllSlotsBelow most after → AllSlotsBelow most (loads point ls after)
below_loads most point [] after small among below = below
below_loads most point (l ∷ ls) after small among below =
    below_loads most point ls (moves (copied_in ls point) l.value (Load l.value l.register) ∷ after) small among.1 ((below_listed most [] ls point small, (small l.value among.0, tt)), below)

below_result : (most : ℕ) (action : Action) (into : Option ℕ) → IsResultBelow most (result_of action into)
below_result most action None = tt
below_result most action (Some v) = tt

below_code : (most : ℕ) (code : List Line) → AreLinesBelow most code → AllSlotsBelow most (placed_code code)
below_code most [] below = tt
below_code most (line ∷ rest) below =
    let small : (v : ℕ) → is_among v (alive_values rest) ≡ true → v < most = λ v there. alive_small most v rest below.1 there in
    let small_before : (v : ℕ) → is_among v (alive_values (line ∷ rest)) ≡ true → v < most = λ v there. alive_small most v (line ∷ rest) below there in
    let loaded : List Loaded = loaded_for line.action line.args in
    below_loads most (lists_before (line ∷ rest)) loaded (line_and_more line rest) small_before (args_alive line rest) (
      (
        below_listed most [] loaded (lists_before (line ∷ rest)) small_before,
        (
          operands_made (λ (arg : Operand). IsBelow most arg.place) line.action loaded line.args
              (λ v arg. each_among (λ (u : ℕ). u < most) line.args v below.0.0 arg)
              (λ v arg. below_place most loaded v (each_among (λ (u : ℕ). u < most) line.args v below.0.0 arg)),
          below_result most line.action line.into,
        ),
      ),
      below_stores most (lists_before rest) (pending line.action line.into (alive_values rest)) (placed_code rest) small
          (pending_among line.action line.into (alive_values rest)) (below_code most rest below.1),
    )

-- what is below a number is below a greater one
place_more : (most more : ℕ) (place : Place) → most ≤ more → IsBelow most place → IsBelow more place
place_more most more (register r) le below = tt
place_more most more (slot k) le below = omega (arith, le, below)

result_more : (most more : ℕ) (into : Option Operand) → most ≤ more → IsResultBelow most into → IsResultBelow more into
result_more most more None le below = tt
result_more most more (Some into) le below = place_more most more into.place le below

listed_more : (most more : ℕ) (alive : List Listed) → most ≤ more → All (λ (l : Listed). IsBelow most l.place) alive
    → All (λ (l : Listed). IsBelow more l.place) alive
listed_more most more alive le below =
    All-weaker (λ (l : Listed). IsBelow most l.place) (λ l. IsBelow more l.place) (λ l. place_more most more l.place le) alive below

line_more : (most more : ℕ) (line : PlacedLine) → most ≤ more → HasSlotsBelow most line → HasSlotsBelow more line
line_more most more (does alive action args into) le below = (
  listed_more most more alive le below.0,
  (
    All-weaker (λ (arg : Operand). IsBelow most arg.place) (λ arg. IsBelow more arg.place)
        (λ arg. place_more most more arg.place le) args below.1.0,
    result_more most more into le below.1.1,
  ),
)
line_more most more (moves alive value way) le below = (
  listed_more most more alive le below.0,
  (place_more most more (from_of way) le below.1.0, place_more most more (to_of way) le below.1.1),
)

pub slots_more : (most more : ℕ) (code : List PlacedLine) → most ≤ more → AllSlotsBelow most code → AllSlotsBelow more code
slots_more most more [] le below = tt
slots_more most more (line ∷ code) le below = (line_more most more line le below.0, slots_more most more code le below.1)

-- ---- all of it

pub plain_modest : (f : Lines) → IsWellFormed f → IsModest f (placed_function f)
plain_modest f well =
    record {
      few_moves = (
        leading_both (lists_before f.code) (alive_params f.params (alive_values f.code)) (length f.params) f.code (few_start f.params (alive_values f.code)),
        few_stores (lists_before f.code) (alive_params f.params (alive_values f.code)) (placed_code f.code) (few_code f.code well.lines),
      );
      slots = record {
        below = λ most below.
            below_stores most (lists_before f.code) (alive_params f.params (alive_values f.code)) (placed_code f.code)
            (λ v there. alive_small most v f.code below.1 there) (params_among f.params (alive_values f.code))
            (below_code most f.code below.1);
      };
      short = length_function f well;
    }
