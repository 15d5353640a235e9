-- The core form of a program does what the program does.
use Rattle.std.proofs.Common.{◌≡◌, ℕ, ◌+◌, ◌*◌, zero, suc, ◌<◌, ◌≤◌, true, List, [], ◌∷◌, length, Some, refl, ap, ◌∙◌, arith}
use Rattle.std.specs.Prelude.{slice_get, slice_index_or}
use Rattle.std.proofs.lemmas.Option.{get_or_from_slice_get, slice_get-get_or}
use Rattle.kk_base.specs.Agreements.{Agree}
use Rattle.kk_base.proofs.Simulations.{simulates_agree}
use Rattle.kk_syntax.specs.PositionsOf.{PositionTable}
use Rattle.kk_syntax.specs.Shapes.{greatest_of}
use Rattle.kk_syntax.specs.Shapes as Shapes
use Rattle.kk_syntax.specs.Programs.{FunctionTree, ProgramTree, no_function}
use Rattle.kk_syntax.specs.Trees.{Tree, Rows}
use Rattle.kk_source.specs.State.{Setting, Value, Store, Environment, Frame, branches, rows, value}
use Rattle.kk_source.specs.SourceAfter.{first_state, step, State}
use Rattle.kk_core.specs.Codes.{FunctionCode, ProgramCode}
use Rattle.kk_core.specs.CoreStates.{CoreState, no_code, core_first_state}
use Rattle.kk_core.specs.CoreMachine.{core_machine}
use Rattle.kk_core.specs.Kinds.{IsTruth}
use Rattle.kk_norm.specs.Meaning.{weighed_store_machine, openings_at, core_setting_of, setting_of}
use Rattle.kk_norm.specs.Normalized.{final, size}
use Rattle.kk_norm.proofs.Bounds.{Bounds}
use Rattle.kk_norm.proofs.Delivery.{source_at, Related, Passing}
use Rattle.kk_norm.proofs.Functions.{IsGood, AreGood}
use Rattle.kk_norm.proofs.Matches.{RowFound}
use Rattle.kk_norm.proofs.Openings.{core_at, OpensFor}
use Rattle.kk_norm.proofs.Steps as Steps

-- a body has at most as many nodes as the greatest
pub at_most_greatest : (functions : List FunctionTree) (f : ℕ) (function : FunctionTree) → slice_get functions f ≡ Some function
    → Shapes.nodes_of function.body ≤ greatest_of functions
at_most_greatest [] f function is = absurd (cc)
at_most_greatest (first ∷ functions) zero function is =
    let same : first ≡ function = cc in
    omega (arith, ap (λ (g : FunctionTree). Shapes.nodes_of g.body) same)
at_most_greatest (first ∷ functions) (suc f) function is =
    omega (arith, at_most_greatest functions f function is)

module _ (program : ProgramTree) (code : ProgramCode) (given : Bounds) (good : AreGood given program.functions code.functions)
    (texts : code.texts ≡ program.texts) (main : code.main ≡ program.main)
    (in_range : program.main < length program.functions) where
  -- at the start the core machine stands for the store machine
  starts : (positions : PositionTable) (cells depth : ℕ) (input : List ℕ)
      → Related given 0 given.most (first_state (setting_of program positions cells depth) input)
      (core_first_state (core_setting_of code positions cells depth) input)
  starts positions cells depth input =
      let function : FunctionTree = slice_index_or program.functions program.main no_function in
      let found : slice_get program.functions program.main ≡ Some function
      = slice_get-get_or program.functions program.main no_function in_range in
      let one : IsGood given code.functions program.main function = good.each program.main function found in
      let found_code : slice_get code.functions code.main ≡ Some one.code = ap (slice_get code.functions) main ∙ one.found in
      let code_is : slice_index_or code.functions code.main no_code ≡ one.code
      = get_or_from_slice_get code.functions code.main one.code no_code found_code in
      record {
        k = final true;
        names = [];
        n = length function.parameters;
        top = length function.parameters + size function.body;
        core = [];
        joins = [];
        frames = [];
        code = one.code.body;
        is = ap (λ (called : FunctionCode). core_at called.body [] [] [] [] input) code_is;
        coded = one.is.body;
        stands = λ x among. (refl, one.closed x among);
        open_few = one.open_few;
        small = one.small;
        idles = one.small;
        fresh = omega arith;
        later = (refl, refl);
      }

  -- The machines agree, where something holds of each state of the source by which a row of each match matches and each condition
  -- is a truth, and the steps of the source weigh enough: as much as any two steps of the core, and those that open its cells.
  pub agrees : (positions : PositionTable) (cells depth : ℕ) (input : List ℕ) (cost : ℕ) (weight : CoreState → ℕ)
      → ((t : CoreState) → weight t ≤ cost) → (opening : ℕ) → OpensFor opening weight
      → (Sane : State → Type 0) (heavy : State → ℕ)
      → ((s : State) → Sane s → Sane (step (setting_of program positions cells depth) s).1)
      → ((of : Rows) (environment : Environment) (fs : List Frame) (v : Value) (store : Store) (input : List ℕ)
      → Sane (source_at (value v) (rows of environment ∷ fs) store input)
      → RowFound given.constructors of store v)
      → ((positive negative : Tree) (environment : Environment) (fs : List Frame) (v : Value) (store : Store) (input : List ℕ)
      → Sane (source_at (value v) (branches positive negative environment ∷ fs) store input) → IsTruth v)
      → ((s : State) → openings_at s.machine.control s.machine.frames s.machine.store ≤ given.cells
      → 2 * cost + openings_at s.machine.control s.machine.frames s.machine.store * opening ≤ heavy s)
      → Sane (first_state (setting_of program positions cells depth) input)
      → Agree (weighed_store_machine heavy (setting_of program positions cells depth))
      (core_machine weight (core_setting_of code positions cells depth)) 0 (λ m. m * (given.most + 1) + given.most + 1)
      (first_state (setting_of program positions cells depth) input)
      (core_first_state (core_setting_of code positions cells depth) input)
  agrees positions cells depth input cost weight light opening opens_for Sane heavy stays_sane row_there truth_there enough sane =
      let setting : Setting = setting_of program positions cells depth in
      simulates_agree (weighed_store_machine heavy setting) (core_machine weight (core_setting_of code positions cells depth))
      (Steps.SaneRelated setting code given cost weight light opening opens_for good texts Sane heavy stays_sane row_there
      truth_there enough)
      Passing (given.most + 1)
      (Steps.simulates setting code given cost weight light opening opens_for good texts Sane heavy stays_sane row_there truth_there
      enough)
      0 given.most (first_state setting input) (core_first_state (core_setting_of code positions cells depth) input)
      (starts positions cells depth input, sane)
