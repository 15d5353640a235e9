-- A set is closed if and only if it keeps each rule of the program.
use Rattle.std.proofs.Common.{◌<◌, ℕ, zero, suc, ◌+◌, List, [], ◌∷◌, length, get_or, subst, sym, arith, All, ◌↔◌}
use Rattle.std.proofs.lemmas.List.Elements.{All-nil, All-append}
use Rattle.kk_syntax.proofs.TailCalls.{handed_is}
use Rattle.kk_syntax.specs.Programs.{FunctionTree, ProgramTree, no_function}
use Rattle.kk_syntax.specs.OwnedPositions.{PositionSet, lent_below, OwnsUsed, OwnsHanded, Closed}
use Rattle.kk_borrow.specs.Rules.{Keeps}
use Rattle.kk_borrow.specs.Demands.{placed, parameters, tail_rules, rules_in, rules_from}
use Rattle.kk_borrow.specs.declared.owned_place.Place.TheVariants.{Always}
use Rattle.kk_syntax.proofs.Lists.{all_left, all_right}
use Rattle.kk_borrow.proofs.PlaceRules.{placed_same}
use Rattle.kk_borrow.proofs.TailCallRules.{Asks, parameters_tell, tail_same}

-- a set keeps the rules of a function
abbrev pub KeepsIn : ProgramTree → PositionSet → ℕ → FunctionTree → Type 0
KeepsIn program set f function = All (Keeps program set) (rules_in f function)

-- a set has what the rules ask of a function
abbrev pub Owns : ProgramTree → PositionSet → ℕ → FunctionTree → Type 0
Owns program set f function = OwnsUsed set f function × OwnsHanded program set f function

-- at the number of a function
in_same : (program : ProgramTree) (set : PositionSet) (f : ℕ) → KeepsIn program set f (get_or program.functions f no_function) ↔ Owns program set f (get_or program.functions f no_function)
in_same program set f =
    let function = get_or program.functions f no_function in
    let places = placed f Always function.body in
    let tails = tail_rules f (parameters (length function.parameters)) function.body in
    let lent = lent_below (set f) (length function.parameters) in
    let used = placed_same program set f Always function.body in
    let given = tail_same program set f (parameters (length function.parameters)) lent (parameters_tell (set f) (length function.parameters)) function.body in
    let same = handed_is lent function.body in (
      λ all. (used.0 (all_left (Keeps program set) places tails all), subst (All (Asks program set)) (sym same) (given.0 (all_right (Keeps program set) places tails all))),
      λ owns. All-append (Keeps program set) places tails (used.1 owns.0) (given.1 (subst (All (Asks program set)) same owns.1)),
    )

from_each : (program : ProgramTree) (set : PositionSet) (f : ℕ) (gs : List FunctionTree) → All (Keeps program set) (rules_from f gs) → (k : ℕ) → k < length gs → KeepsIn program set (f + k) (get_or gs k no_function)
from_each program set f [] all k lt = absurd (omega arith)
from_each program set f (g ∷ gs) all zero lt = subst (λ n. KeepsIn program set n g) (omega arith) (all_left (Keeps program set) (rules_in f g) (rules_from (f + 1) gs) all)
from_each program set f (g ∷ gs) all (suc k) lt =
    subst (λ n. KeepsIn program set n (get_or gs k no_function)) (omega arith)
    (from_each program set (f + 1) gs (all_right (Keeps program set) (rules_in f g) (rules_from (f + 1) gs) all) k (omega arith))

to_each : (program : ProgramTree) (set : PositionSet) (f : ℕ) (gs : List FunctionTree) → ((k : ℕ) → k < length gs → KeepsIn program set (f + k) (get_or gs k no_function)) → All (Keeps program set) (rules_from f gs)
to_each program set f [] each = All-nil (Keeps program set)
to_each program set f (g ∷ gs) each =
    All-append (Keeps program set) (rules_in f g) (rules_from (f + 1) gs)
    (subst (λ n. KeepsIn program set n g) (omega arith) (each 0 (omega arith)))
    (to_each program set (f + 1) gs (λ k lt. subst (λ n. KeepsIn program set n (get_or gs k no_function)) (omega arith) (each (suc k) (omega arith))))

pub closed_same : (program : ProgramTree) (set : PositionSet) → All (Keeps program set) (rules_from 0 program.functions) ↔ Closed program set
closed_same program set =
    let each : All (Keeps program set) (rules_from 0 program.functions) → (f : ℕ) → f < length program.functions → Owns program set f (get_or program.functions f no_function) =
    λ all f lt.
    (in_same program set f).0
    (subst (λ n. KeepsIn program set n (get_or program.functions f no_function)) (omega arith) (from_each program set 0 program.functions all f lt)) in (
      λ all. record { places = λ f lt. (each all f lt).0; tail_calls = λ f lt. (each all f lt).1 },
      λ closed.
          to_each program set 0 program.functions
          (λ k lt. subst (λ n. KeepsIn program set n (get_or program.functions k no_function)) (omega arith) ((in_same program set k).1 (closed.places k lt, closed.tail_calls k lt))),
    )
