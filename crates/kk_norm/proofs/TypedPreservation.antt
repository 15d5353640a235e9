-- The core form of a typed program does what the program does.
use Rattle.std.proofs.Common.{◌≡◌, ℕ, suc, ◌+◌, ◌-◌, ◌*◌, ◌<◌, ◌≤◌, List, ◌∷◌, length, map, Some, ap, subst, ◌∙◌, arith, add-mul, mul-le-mul_right}
use Rattle.std.specs.Prelude.{min, slice_get, slice_index_or}
use Rattle.std.proofs.lemmas.List.{length-map}
use Rattle.std.proofs.lemmas.Option.{slice_get_within, slice_get-get_or}
use Rattle.kk_base.specs.Agreements.{Agree}
use Rattle.kk_syntax.specs.Covered.{Each, asked_by}
use Rattle.kk_syntax.specs.GroundTyping.{table_of, HasTruths, IsGroundTyped}
use Rattle.kk_syntax.specs.OfType.{IsPatternOf, values_of}
use Rattle.kk_syntax.specs.Outlines.{Outline}
use Rattle.kk_syntax.specs.Patterns.{Pattern, anything, variable as pattern_variable, exactly, constructor, Patterns, no_part, part}
use Rattle.kk_syntax.specs.GroundTyping.{signature_of}
use Rattle.kk_syntax.specs.PositionsOf.{PositionTable}
use Rattle.kk_syntax.specs.Programs.{FunctionTree, ProgramTree, no_function}
use Rattle.kk_syntax.specs.Shapes.{greatest_nodes, nodes_of, nodes_of_pattern, nodes_of_patterns, gathered}
use Rattle.kk_syntax.specs.Trees.{Tree, Rows}
use Rattle.kk_syntax.proofs.Elements.{each_weaker}
use Rattle.kk_syntax.proofs.Walks.{nodes_bound}
use Rattle.kk_syntax.specs.Typing.{bool}
use Rattle.kk_source.specs.State.{Setting, Value, Store, Environment, Frame, branches, rows, value}
use Rattle.kk_source.specs.SourceAfter.{first_state, State}
use Rattle.kk_source.specs.Step.{step_of}
use Rattle.kk_source.proofs.Bindings.{rows_of_type}
use Rattle.kk_source.proofs.RunInvariants.{performed_keeps}
use Rattle.kk_source.proofs.Matching.{takes_one}
use Rattle.kk_source.proofs.TypeSafety.{IsStateTyped, step_safe}
use Rattle.kk_source.proofs.SafeRuns.{start_typed}
use Rattle.kk_source.proofs.Values.{at_type, bool_is}
use Rattle.kk_core.specs.Codes.{Code, give, tail_call, case, compute, use_of, unpack, inside, ProgramCode}
use Rattle.kk_core.specs.CoreMachine.{core_step, core_ending_of, core_machine}
use Rattle.kk_core.specs.CoreStates.{CoreSetting, CoreControl, running, stopped, CoreState, core_first_state}
use Rattle.kk_core.specs.Costs.{step_cost, part_cost, most_step_cost, control_cost, most_room, roomy_control_cost}
use Rattle.kk_core.specs.Kinds.{IsTruth}
use Rattle.kk_core.proofs.PartBounds.{most_seen, most_cost, run_cheap}
use Rattle.kk_norm.specs.Meaning.{KeepsMeaningByCells, CostsLittle, weighed_store_machine, core_steps, openings_at, core_setting_of, core_after, setting_of}
use Rattle.kk_norm.specs.Normalized.{IsCoreForm}
use Rattle.kk_norm.specs.OpenedCells.{openings, openings_all}
use Rattle.kk_norm.proofs.Bounds.{Bounds, gathers_openings, OpensAtMost}
use Rattle.kk_norm.proofs.FunctionVariables.{is_closed}
use Rattle.kk_norm.proofs.Delivery.{source_at}
use Rattle.kk_norm.proofs.FormInduction.{tree_some, most_by, have_few_parts}
use Rattle.kk_norm.proofs.Functions.{AreGood, core_at_number, no_core_at_number}
use Rattle.kk_norm.proofs.MeaningPreservation.{at_most_greatest, agrees}
use Rattle.kk_norm.proofs.Matches.{RowFound}
use Rattle.kk_norm.proofs.Openings.{OpensFor}
use Rattle.kk_norm.proofs.PatternNames.{asked_are}
use Rattle.kk_norm.proofs.RowChoice.{row_found}
use Rattle.kk_norm.proofs.Weights.{reweighed}

-- ---- a pattern opens fewer cells than it has nodes

mutual
  openings_small : (p : Pattern) → openings p + 1 ≤ nodes_of_pattern p
  openings_small anything = omega arith
  openings_small (pattern_variable x) = omega arith
  openings_small (exactly n) = omega arith
  openings_small (constructor c no_part) = omega arith
  openings_small (constructor c (part first rest)) = omega (arith, openings_small first, openings_all_small rest)

  openings_all_small : (ps : Patterns) → openings_all ps ≤ nodes_of_patterns ps
  openings_all_small no_part = omega arith
  openings_all_small (part first rest) = omega (arith, openings_small first, openings_all_small rest)

opens_nodes : (given : Bounds) (e : Tree) → nodes_of e ≤ given.cells + 1 → OpensAtMost given e
opens_nodes given e le =
    each_weaker (λ n. n + 1 ≤ nodes_of e) (λ n. n ≤ given.cells) (λ n small. omega (arith, le, small)) (gathered gathers_openings e)
    (nodes_bound gathers_openings (λ m n. n + 1 ≤ m) (λ m n le x small. omega (arith, le, small)) (λ form. tt)
    (λ p. (openings_small p, tt)) (λ rows. tt) e)

-- ---- typed programs

abbrev typed_bounds : ProgramTree → Bounds
typed_bounds program =
    record { constructors = program.constructors; most = greatest_nodes program; cells = greatest_nodes program - 1 }

are_good : (program : ProgramTree) (code : ProgramCode) → IsGroundTyped program → IsCoreForm program code
    → AreGood (typed_bounds program) program.functions code.functions
are_good program code typed form =
    record {
      each = λ f function is.
          let one = core_at_number program.constructors program.functions code.functions form.functions f function is in
          let small : nodes_of function.body ≤ greatest_nodes program = at_most_greatest program.functions f function is in
          record {
            code = one.0;
            found = one.1;
            is = one.2;
            closed = is_closed (table_of program) function (typed.functions f function is);
            open_few = opens_nodes (typed_bounds program) function.body (omega (arith, small));
            small = small;
          };
      none = λ f is. no_core_at_number program.constructors program.functions code.functions form.functions f is;
    }

-- where a match has its scrutinee, a row matches
typed_row : (program : ProgramTree) (of : Rows) (environment : Environment) (fs : List Frame) (v : Value) (store : Store)
    (input : List ℕ)
    → IsStateTyped (table_of program) (source_at (value v) (rows of environment ∷ fs) store input).machine
    → RowFound program.constructors of store v
typed_row program of environment fs v store input typed =
    let waits = typed.2 in
    let patterns : Each (IsPatternOf (values_of program.constructors) typed.0) (asked_by of)
    = rows_of_type (table_of program) waits.1.1.scope of typed.0 waits.0 waits.1.1.inside in
    let chosen = takes_one program.constructors store of typed.0 v environment patterns waits.1.0 typed.1 in
    let first = row_found store of v environment chosen.0 chosen.1 in
    record {
      type = typed.0;
      typed = subst (λ (outlines : List Outline). Each (IsPatternOf (values_of program.constructors) typed.0) outlines)
          (asked_are of) patterns;
      value = typed.1;
      number = first.0;
      first = first.1;
    }

-- where an `if` has its condition, it is a truth
typed_truth : (program : ProgramTree) → HasTruths program.constructors
    → (positive negative : Tree) (environment : Environment) (fs : List Frame) (v : Value) (store : Store) (input : List ℕ)
    → IsStateTyped (table_of program) (source_at (value v) (branches positive negative environment ∷ fs) store input).machine
    → IsTruth v
typed_truth program truths positive negative environment fs v store input typed =
    bool_is program.constructors store truths v (at_type program.constructors store typed.0 bool v typed.2.1.0 typed.1)

main_there : (program : ProgramTree) → IsGroundTyped program → program.main < length program.functions
main_there program typed =
    omega (
      arith,
      slice_get_within (map signature_of program.functions) program.main _ typed.main,
      length-map program.functions
          signature_of,
    )

-- The machines agree, where no step of the run weighs more than `most` says: at no state more than `cost`, and `opening` where a
-- cell is opened; and a step of the source weighs as much as those of the core that do it.
typed_agrees : (program : ProgramTree) (code : ProgramCode) → IsGroundTyped program → IsCoreForm program code
    → (positions : PositionTable) (cells depth : ℕ) (input : List ℕ) (cost opening : ℕ) (most weight : CoreState → ℕ)
    → (heavy : State → ℕ)
    → ((t : CoreState) → most t ≤ cost) → OpensFor opening most
    → ((n : ℕ) → weight (core_after (core_setting_of code positions cells depth) input n)
    ≤ most (core_after (core_setting_of code positions cells depth) input n))
    → ((s : State) → openings_at s.machine.control s.machine.frames s.machine.store ≤ greatest_nodes program - 1
    → 2 * cost + openings_at s.machine.control s.machine.frames s.machine.store * opening ≤ heavy s)
    → Agree (weighed_store_machine heavy (setting_of program positions cells depth))
    (core_machine weight (core_setting_of code positions cells depth)) 0
    (λ m. m * (greatest_nodes program + 1) + greatest_nodes program + 1)
    (first_state (setting_of program positions cells depth) input)
    (core_first_state (core_setting_of code positions cells depth) input)
typed_agrees program code typed form positions cells depth input cost opening most weight heavy dear opens_for light enough =
    let setting : Setting = setting_of program positions cells depth in
    let core : CoreSetting = core_setting_of code positions cells depth in
    reweighed (λ t. min (weight t) (most t)) weight core_ending_of (core_step core) (weighed_store_machine heavy setting) 0
    (λ m. m * (greatest_nodes program + 1) + greatest_nodes program + 1) (first_state setting input) (core_first_state core input)
    (λ n. omega (arith, light n))
    (agrees program code (typed_bounds program) (are_good program code typed form) form.texts form.main (main_there program typed)
    positions cells depth input cost (λ t. min (weight t) (most t)) (λ t. omega (arith, dear t)) opening
    (λ x c fields rest core joins frames store input. omega (arith, opens_for x c fields rest core joins frames store input))
    (λ s. IsStateTyped (table_of program) s.machine) heavy
    (λ s sane. performed_keeps (IsStateTyped (table_of program)) (step_of setting s.machine) s.input
    (step_safe setting typed s.machine sane))
    (λ of environment fs v store rest sane. typed_row program of environment fs v store rest sane)
    (typed_truth program typed.truths)
    enough (start_typed setting typed))

pub typed_keeps_meaning : (program : ProgramTree) (code : ProgramCode) → IsGroundTyped program → IsCoreForm program code
    → KeepsMeaningByCells program code
typed_keeps_meaning program code typed form =
    record {
      agrees = λ positions cells depth input cost weight light.
          typed_agrees program code typed form positions cells depth input cost cost (λ t. cost) weight (λ s. core_steps s * cost)
          (λ t. omega arith) (λ x c fields rest core joins frames store input. omega arith) light
          (λ s few. omega (
            arith,
            add-mul 2 (openings_at s.machine.control s.machine.frames s.machine.store) cost,
          ));
    }

-- ---- costs

-- Where the greatest body has one node more than `most`, a step costs at most as much as a case.
costs_of : (most : ℕ) (code : Code)
    → step_cost + part_cost * most_seen (most_by most) code ≤ step_cost + part_cost * (most * (most + 1))
costs_of most (give x) = omega arith
costs_of most (tail_call f arguments) = omega arith
costs_of most (case x decisions arms) = omega arith
costs_of most (compute x form arguments rest) = omega arith
costs_of most (use_of x rest) = omega arith
costs_of most (unpack x c fields rest) = omega arith
costs_of most (inside x block rest) = omega arith

cost_at : (most : ℕ) (control : CoreControl) → most_cost (most_by most) control ≤ step_cost + part_cost * (most * (most + 1))
cost_at most (running code environment joins) = costs_of most code
cost_at most (stopped by) = omega arith

-- the most room for each node but one
abbrev node_room : ℕ
node_room = most_room 2

-- by the cells that a step opens, the nodes of the greatest body, and the room
square : (o d e room : ℕ) → room ≤ node_room * (o + d + e)
    → 2 * (room + (step_cost + part_cost * ((o + d) * ((o + d) + 1)))) + o * (room + (step_cost + part_cost * (o + d)))
    ≤ most_step_cost (suc (o + d) + e)
square o d e room few = omega (arith, few, mul-le-mul_right o few)

step_costs : (o most nodes room : ℕ) → o ≤ most → suc most ≤ nodes → room ≤ most_room nodes
    → 2 * (room + (step_cost + part_cost * (most * (most + 1)))) + o * (room + (step_cost + part_cost * most))
    ≤ most_step_cost nodes
step_costs o most nodes room few large within =
    let first : o + (most - o) ≡ most = omega (arith, few) in
    let second : suc most + (nodes - suc most) ≡ nodes = omega (arith, large) in
    subst
    (λ (n : ℕ). 2 * (room + (step_cost + part_cost * (most * (most + 1)))) + o * (room + (step_cost + part_cost * most))
    ≤ most_step_cost n) second
    (subst
    (λ (m : ℕ). 2 * (room + (step_cost + part_cost * (m * (m + 1)))) + o * (room + (step_cost + part_cost * m))
    ≤ most_step_cost (suc m + (nodes - suc most))) first
    (square o (most - o) (nodes - suc most) room (omega (arith, few, large, within))))

-- a step with room costs no more than it does and the room
roomy_most : (room : ℕ) (control : CoreControl) (store : Store)
    → roomy_control_cost room control store ≤ room + control_cost control store
roomy_most room (running code environment joins) store = omega arith
roomy_most room (stopped by) store = omega arith

pub typed_costs_little : (program : ProgramTree) (code : ProgramCode) → IsGroundTyped program → IsCoreForm program code
    → CostsLittle program code
typed_costs_little program code typed form =
    let function : FunctionTree = slice_index_or program.functions program.main no_function in
    let found : slice_get program.functions program.main ≡ Some function
    = slice_get-get_or program.functions program.main no_function (main_there program typed) in
    let some : 1 ≤ greatest_nodes program
    = omega (arith, at_most_greatest program.functions program.main function found, tree_some function.body) in
    let most : ℕ = greatest_nodes program - 1 in
    let main = core_at_number program.constructors program.functions code.functions form.functions program.main function found in
    let there : slice_get code.functions code.main ≡ Some main.0 = ap (slice_get code.functions) form.main ∙ main.1 in
    record {
      agrees = λ positions cells depth input nodes room weight large within light.
          let core : CoreSetting = core_setting_of code positions cells depth in
          typed_agrees program code typed form positions cells depth input
          (room + (step_cost + part_cost * (most * (most + 1)))) (room + (step_cost + part_cost * most))
          (λ t. room + most_cost (most_by most) t.machine.control) weight (λ s. most_step_cost nodes)
          (λ t. omega (arith, cost_at most t.machine.control)) (λ x c fields rest core joins frames store input. omega arith)
          (λ n. omega (
            arith,
            light n,
            roomy_most room (core_after core input n).machine.control (core_after core input n).machine.store,
            run_cheap core (most_by most) (have_few_parts program code most form (omega (arith, some))) main.0 there (λ s. 1) input
                n,
          ))
          (λ s few. step_costs (openings_at s.machine.control s.machine.frames s.machine.store) most nodes room few
          (omega (arith, some, large)) within);
    }
