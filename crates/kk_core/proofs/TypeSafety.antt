-- Each step of the core machine keeps states typed, and finds what it asks for.
use Rattle.std.proofs.Common.{◌≡◌, ℕ, zero, suc, Bool, true, false, List, [], ◌∷◌, length, map, Option, Some, None, refl, sym, ap, subst, ◌∙◌, arith}
use Rattle.std.specs.Prelude.{slice_get, if◌then◌else◌, ◌==◌}
use Rattle.std.proofs.lemmas.Bool.{eqb-true}
use Rattle.kk_syntax.specs.GroundTyping.{Table}
use Rattle.kk_syntax.specs.OfType.{field_types}
use Rattle.kk_syntax.specs.Patterns.{Pattern, constructor, Patterns, part}
use Rattle.kk_syntax.specs.GroundTyping.{Signature}
use Rattle.kk_syntax.specs.Types.{TypeTree}
use Rattle.kk_source.specs.Live.{value_of}
use Rattle.kk_source.specs.NeverStuck.{IsBound}
use Rattle.kk_source.specs.Matching.{fields_made_by, fields_under}
use Rattle.kk_source.specs.State.{Value, integer, unit, constant, place, Cell, Store, Environment}
use Rattle.kk_source.specs.ValueTypes.{IsOf, AreOf}
use Rattle.kk_source.proofs.Operators.{as_many, arguments_fit}
use Rattle.kk_source.proofs.Values.{unit_is, fields_are}
use Rattle.kk_core.specs.Codes.{Code, give, tail_call, case, compute, use_of, unpack, inside, Arms, patterns_of, FunctionCode}
use Rattle.kk_core.specs.CoreMachine.{fields_opened}
use Rattle.kk_core.specs.CoreStates.{CoreSetting, Join, CallFrame, CoreControl, running, stopped, CoreConfiguration}
use Rattle.kk_core.specs.CoreTyping.{Has, HaveTypes, IsCodeTyped, AreCodesTyped, IsCoreTyped}
use Rattle.kk_core.specs.Decisions.{NodeTree, chosen}
use Rattle.kk_core.specs.NeverStuck.{AreBound, read_by, CallFits, ResultFits, CodeFits, ControlFits, StateFits}
use Rattle.kk_core.proofs.ChosenArms.{covered_row, patterns_typed, ArmTaken, arm_taken}
use Rattle.kk_core.proofs.VariableFacts.{TakeEach, typed_value, typed_values, typed_bound}
use Rattle.kk_core.proofs.TypedStates.{JoinsWait, FramesWait, Runs, ControlTyped, IsStateTyped}

-- a function of a signature is there
pub code_there : (table : Table) (functions : List FunctionCode) (each : List Signature) (f : ℕ) (signature : Signature)
    → AreCodesTyped table functions each → slice_get each f ≡ Some signature
    → (function : FunctionCode) × (slice_get functions f ≡ Some function) × IsCodeTyped table function signature
code_there table [] [] f signature typed is = absurd (cc)
code_there table [] (s ∷ each) f signature typed is = absurd typed
code_there table (function ∷ functions) [] f signature typed is = absurd typed
code_there table (function ∷ functions) (s ∷ each) zero signature typed is =
    let same : s ≡ signature = cc in (function, refl, subst (IsCodeTyped table function) same typed.0)
code_there table (function ∷ functions) (s ∷ each) (suc f) signature typed is =
    code_there table functions each f signature typed.1 is

-- ---- a cell that matches a pattern with parts

-- the cell is there, its fields are of their types, and match the parts
pub record CellIs (table : Table) (store : Store) (c : ℕ) (us : List TypeTree) (ps : Patterns) (v : Value) : Type 0 where
  pub at : ℕ
  pub fields : List Value
  pub value_is : v ≡ place at
  pub there : slice_get store at ≡ Some (record { made_by = c; fields = fields })
  pub opened : fields_opened store c v ≡ Some fields
  pub each : AreOf table.constructors store us fields
  pub taken : TakeEach store ps fields

module _ (table : Table) (store : Store) (c : ℕ) (u : TypeTree) (us : List TypeTree) (first : Pattern) (others : Patterns)
    (fields : field_types table.constructors u c ≡ Some us) where
  cell_is : (v : Value) (vs : List Value) → IsOf table.constructors store u v → fields_under store c v ≡ Some vs
      → TakeEach store (part first others) vs → CellIs table store c us (part first others) v
  cell_is (integer n) vs of under taken = absurd (cc)
  cell_is unit vs of under taken = absurd (cc)
  cell_is (constant d) vs of under taken = by_test (d == c) under
    where
      by_test : (same : Bool) → (if same then Some [] else None) ≡ Some vs
          → CellIs table store c us (part first others) (constant d)
      by_test true is = let none : [] ≡ vs = cc in absurd (subst (TakeEach store (part first others)) (sym none) taken)
      by_test false is = absurd (cc)
  cell_is (place at) vs of under taken = by_cell (slice_get store at) refl under
    where
      by_test : (cell : Cell) (same : Bool) → (cell.made_by == c) ≡ same → slice_get store at ≡ Some cell
          → (if same then Some cell.fields else None) ≡ Some vs → CellIs table store c us (part first others) (place at)
      by_test cell true same there is =
          let made : cell.made_by ≡ c = eqb-true cell.made_by c same in
          let values : cell.fields ≡ vs = cc in
          record {
            at = at;
            fields = vs;
            value_is = refl;
            there = there ∙ ap (λ (k : Cell). Some k) (ap (λ by. record { made_by = by; fields = cell.fields }) made ∙ ap
                (λ ws. record { made_by = c; fields = ws }) values);
            opened = under;
            each = fields_are table.constructors store u c us (place at) vs fields under of;
            taken = taken;
          }
      by_test cell false same there is = absurd (cc)

      by_cell : (found : Option Cell) → slice_get store at ≡ found → fields_made_by c found ≡ Some vs
          → CellIs table store c us (part first others) (place at)
      by_cell None there is = absurd (cc)
      by_cell (Some cell) there is = by_test cell (cell.made_by == c) refl there is

module _ (table : Table) (setting : CoreSetting) (typed : IsCoreTyped table setting.code) where
  -- ---- a code finds what it asks for

  call_fits : (f : ℕ) (ts : List TypeTree) (t : TypeTree) (vs : List Value)
      → slice_get table.functions f ≡ Some (record { parameters = ts; result = t }) → length vs ≡ length ts
      → CallFits table.constructors setting.code f vs
  call_fits f ts t vs is many =
      let there =
      code_there table setting.code.functions table.functions f (record { parameters = ts; result = t }) typed.functions is in
      (there.0, there.1, many ∙ there.2.parameters)

  result_fits : (v : Value) (joins : List Join) (frames : List CallFrame) (store : Store) (environment : Environment) (low high : ℕ)
      (t r : TypeTree) → IsOf table.constructors store t v → JoinsWait table store environment low high joins t r
      → FramesWait table store frames r → ResultFits table.constructors setting.code v joins frames
  result_fits v [] [] store environment low high t r of wait older =
      unit_is table.constructors store v (subst (λ u. IsOf table.constructors store u v) (wait ∙ older) of)
  result_fits v (join ∷ joins) frames store environment low high t r of wait older = tt
  result_fits v [] (frame ∷ frames) store environment low high t r of wait older = tt

  module _ (from : CoreConfiguration) (environment : Environment) (joins : List Join) (r : TypeTree)
      (older : FramesWait table from.store from.frames r) where
    pub value_typed : (code : Code) (runs : Runs table from.store code environment joins r) (x : ℕ) (t : TypeTree)
        → Has runs.facts x t → IsOf table.constructors from.store t (value_of environment x)
    value_typed code runs x t has = typed_value table.constructors from.store runs.facts environment runs.low runs.stand x t has

    pub values_typed : (code : Code) (runs : Runs table from.store code environment joins r) (xs : List ℕ) (ts : List TypeTree)
        → HaveTypes runs.facts xs ts → AreOf table.constructors from.store ts (map (value_of environment) xs)
    values_typed code runs xs ts have =
        typed_values table.constructors from.store runs.facts environment runs.low runs.stand xs ts have

    there_of : (code : Code) (runs : Runs table from.store code environment joins r) (x : ℕ) (t : TypeTree)
        → Has runs.facts x t → IsBound environment x
    there_of code runs x t has = runs.stand.there x (record { type = t; pattern = has.0 }) has.1

    all_there : (code : Code) (runs : Runs table from.store code environment joins r) (xs : List ℕ) (ts : List TypeTree)
        → HaveTypes runs.facts xs ts → AreBound environment xs
    all_there code runs xs ts have =
        typed_bound table.constructors from.store runs.facts environment runs.low runs.stand xs ts have

    -- the arm of a case
    pub taken : (x : ℕ) (decisions : List NodeTree) (arms : Arms)
        (runs : Runs table from.store (case x decisions arms) environment joins r)
        → (row : ℕ) × (chosen (slice_get from.store) (value_of environment x) decisions ≡ Some row)
        × ArmTaken table from.store runs.tail runs.facts x runs.typed.0 runs.type (value_of environment x) runs.names runs.low
        runs.high arms row
    taken x decisions arms runs =
        let u : TypeTree = runs.typed.0 in
        let v : Value = value_of environment x in
        let of = value_typed (case x decisions arms) runs x u runs.typed.1 in
        let patterns = patterns_typed table runs.tail runs.facts x u arms runs.type runs.typed.2 in
        let row = covered_row table.constructors from.store (patterns_of arms) u v patterns runs.typed.3 of in
        let arm =
        arm_taken table from.store runs.tail runs.facts x u runs.type v runs.names runs.high arms 0 row.0 runs.low row.1
        runs.typed.2 runs.ordered.1 in (
          arm.0,
          runs.typed.4 u from.store v row.0 patterns of row.1
              ∙ ap (λ n. Some n) {x = row.0} {y = arm.0} (omega (arith, arm.1)),
          arm.2,
        )

    -- the cell of an opening
    pub opened_cell : (x c : ℕ) (fields : List ℕ) (rest : Code)
        (runs : Runs table from.store (unpack x c fields rest) environment joins r)
        → CellIs table from.store c runs.typed.1 (part runs.typed.2 runs.typed.3) (value_of environment x)
    opened_cell x c fields rest runs =
        let u : TypeTree = runs.typed.0 in
        let good = runs.stand.each x (record { type = u; pattern = constructor c (part runs.typed.2 runs.typed.3) }) runs.typed.4 in
        cell_is table from.store c u runs.typed.1 runs.typed.2 runs.typed.3 runs.typed.5 (value_of environment x) good.takes.0
        good.of good.takes.1 good.takes.2

    pub code_fits : (code : Code) → Runs table from.store code environment joins r
        → CodeFits table.constructors setting.code code environment joins from
    code_fits (give x) runs =
        result_fits (value_of environment x) joins from.frames from.store environment runs.low runs.high runs.type r
        (value_typed (give x) runs x runs.type runs.typed) runs.wait older
    code_fits (tail_call f arguments) runs =
        call_fits f runs.typed.1 runs.type (map (value_of environment) arguments) runs.typed.3
        (as_many table.constructors from.store runs.typed.1 (map (value_of environment) arguments)
        (values_typed (tail_call f arguments) runs arguments runs.typed.1 runs.typed.2))
    code_fits (case x decisions arms) runs =
        let arm = taken x decisions arms runs in (arm.0, arm.2.body, arm.1, arm.2.is)
    code_fits (compute x form arguments rest) runs =
        arguments_fit table from.store typed.truths setting.code.texts (CallFits table.constructors setting.code) (sym typed.texts)
        call_fits form runs.typed.1 runs.typed.0 (map (value_of environment) arguments) runs.typed.3
        (values_typed (compute x form arguments rest) runs arguments runs.typed.1 runs.typed.2)
    code_fits (use_of x rest) runs = tt
    code_fits (unpack x c fields rest) runs =
        let cell = opened_cell x c fields rest runs in (
          cell.at,
          cell.fields,
          cell.value_is,
          cell.there,
          as_many table.constructors from.store runs.typed.1 cell.fields cell.each
              ∙ sym runs.typed.6,
        )
    code_fits (inside x block rest) runs = tt

    -- the variables that a code reads are bound
    pub code_bound : (code : Code) → Runs table from.store code environment joins r → AreBound environment (read_by code)
    code_bound (give x) runs = (there_of (give x) runs x runs.type runs.typed, tt)
    code_bound (tail_call f arguments) runs =
        all_there (tail_call f arguments) runs arguments runs.typed.1 runs.typed.2
    code_bound (case x decisions arms) runs = (there_of (case x decisions arms) runs x runs.typed.0 runs.typed.1, tt)
    code_bound (compute x form arguments rest) runs =
        all_there (compute x form arguments rest) runs arguments runs.typed.1 runs.typed.2
    code_bound (use_of x rest) runs = tt
    code_bound (unpack x c fields rest) runs = (
      runs.stand.there x (record { type = runs.typed.0; pattern = constructor c (part runs.typed.2 runs.typed.3) }) runs.typed.4,
      tt,
    )
    code_bound (inside x block rest) runs = tt

  pub control_fits : (control : CoreControl) (c : CoreConfiguration) → ControlTyped table control c.store c.frames
      → ControlFits table.constructors setting.code control c
  control_fits (running code environment joins) c at =
      (code_bound c environment joins at.0 at.2 code at.1, code_fits c environment joins at.0 at.2 code at.1)
  control_fits (stopped by) c at = tt

  pub state_fits : (c : CoreConfiguration) → IsStateTyped table c → StateFits table.constructors setting.code c
  state_fits c at = control_fits c.control c at
