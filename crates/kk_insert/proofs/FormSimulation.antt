-- The counted machine follows the core machine at forms.
use Rattle.std.proofs.Common.{◌≡◌, ℕ, suc, ◌+◌, ◌*◌, ◌≤◌, Bool, true, false, List, [], ◌∷◌, ◌++◌, length, map, Some, None, arith, refl, sym, ap, ◌∙◌, subst}
use Rattle.std.specs.Fmt.{signed_decimal}
use Rattle.std.specs.Prelude.{if◌then◌else◌, nat_le}
use Rattle.kk_base.specs.Trace.{output, input as taken, input_end}
use Rattle.kk_syntax.specs.declared.operator.UnaryOperator.TheVariants.{Negate, Not}
use Rattle.kk_syntax.specs.declared.program.Form.{Form}
use Rattle.kk_syntax.specs.declared.program.Form.TheVariants.{Number, Unit as Nothing, ReadByte, PrintText, Unary, Binary, Print, Construct, Call}
use Rattle.kk_syntax.specs.Programs.{ConstructorTree, text_at}
use Rattle.kk_syntax.specs.Shapes.{is_among, without}
use Rattle.kk_source.specs.State.{Value, integer, unit, constant, place, Cell, Store, Environment, heap_full}
use Rattle.kk_source.specs.Live.{value_of, live}
use Rattle.kk_source.specs.Sound.{AllWithin}
use Rattle.kk_source.specs.Notes.{seen, built}
use Rattle.kk_source.specs.Actions.{builds, print_step, performed}
use Rattle.kk_source.specs.FormEffects.{truth, integer_of, unary_result, binary_result, argument, piece_of, byte_value}
use Rattle.kk_core.specs.Codes.{Code, compute}
use Rattle.kk_core.specs.Costs.{step_cost, part_cost}
use Rattle.kk_core.specs.CoreStates.{CoreSetting, Join, CallFrame, CoreConfiguration}
use Rattle.kk_core.specs.CoreMachine.{bound_then, at_end, held_for, held_by_frames, form_step}
use Rattle.kk_source.specs.NeverStuck.{ArgumentsFit}
use Rattle.kk_core.specs.Kinds.{TakesKinds}
use Rattle.kk_core.specs.NeverStuck.{CallFits}
use Rattle.kk_core.proofs.ValueKinds.{takes_kinds}
use Rattle.kk_counted.proofs.ListLengths.{positions_few}
use Rattle.kk_counted.specs.CountedCodes as Counted
use Rattle.kk_counted.specs.CountedCosts.{form_cost, value_cost, drop_cost}
use Rattle.kk_counted.specs.Heaps.{Heap, count_at, forwards, busy}
use Rattle.kk_counted.specs.CountedStates.{CountedFrame, CountedConfiguration}
use Rattle.kk_counted.specs.CountedMachine.{at_end as counted_at_end, counted_code_step}
use Rattle.kk_counted.specs.References.{refs_of, refs, counted_fields, IsSound}
use Rattle.kk_counted.specs.Spending.{left_by, is_owned}
use Rattle.kk_counted.specs.Keeping.{values_of, HasNoCell, HaveNoCells, TakesNoCells, AreReached, CallsOne}
use Rattle.kk_counted.proofs.CountChanges.{refs_append, counted_within}
use Rattle.kk_counted.proofs.Heaps.{positive}
use Rattle.kk_counted.proofs.Variables.{refs_of_both}
use Rattle.kk_counted.proofs.Reachability.{all_within, forwards_length, same_store, reached_longer, built as counts_built}
use Rattle.kk_counted.proofs.Reachability.{built_older}
use Rattle.kk_counted.proofs.SoundSteps.{no_refs, unary_free, number_free, byte_free}
use Rattle.kk_insert.specs.Meaning.{inserted_setting}
use Rattle.kk_insert.specs.Insertion.{used, lends, owns, own, back, insert, inserted_functions}
use Rattle.kk_insert.specs.Promise.{IsInsertable}
use Rattle.kk_insert.proofs.Sets.{false_if, no_both}
use Rattle.kk_insert.proofs.OwnedVariables.{lends_part}
use Rattle.kk_insert.proofs.Paths.{conf, with_input, Path, path_here, path_step}
use Rattle.kk_insert.proofs.StateRelation.{inserted_at, left_of, image_joins, CodeOk, RestOk, JoinsOk, FramesStand, Stands, Follows}
use Rattle.kk_insert.proofs.EntrySimulation.{dups_first, lands}
use Rattle.kk_insert.proofs.CallSimulation.{call_at}
use Rattle.kk_insert.proofs.LiveCells.{busy_is_live}

-- ---- values without cells

truth_has_none : (t : Bool) → HasNoCell (truth t)
truth_has_none true = tt
truth_has_none false = tt

-- operators and prints take values without cells
pub takes_none : (setting : CoreSetting) (constructors : List ConstructorTree) (form : Form) (vs : List Value)
    → ArgumentsFit constructors setting.code.texts (CallFits constructors setting.code) form vs → TakesNoCells form vs
takes_none setting constructors (Number n) vs fits = subst HaveNoCells (sym fits) tt
takes_none setting constructors Nothing vs fits = subst HaveNoCells (sym fits) tt
takes_none setting constructors ReadByte vs fits = subst HaveNoCells (sym fits) tt
takes_none setting constructors (PrintText form text) vs fits = subst HaveNoCells (sym fits.0) tt
takes_none setting constructors (Unary Negate) vs fits = subst HaveNoCells (sym fits.1) (tt, tt)
takes_none setting constructors (Unary Not) vs fits = subst HaveNoCells (sym fits.1) (truth_has_none fits.0, tt)
takes_none setting constructors (Binary operator) vs fits = subst HaveNoCells (sym fits.2) (tt, (tt, tt))
takes_none setting constructors (Print form) vs fits = subst HaveNoCells (sym fits.1) (tt, tt)
takes_none setting constructors (Construct c) vs fits = tt
takes_none setting constructors (Call f) vs fits = tt

-- what a form takes is of the kinds that it asks for
abbrev Fits : CoreSetting → Form → List Value → Type 0
Fits setting form vs =
    TakesNoCells form vs × (CallsOne (inserted_functions setting.positions 0 setting.code.functions) form × TakesKinds form vs)

form_fits : (setting : CoreSetting) (constructors : List ConstructorTree) (form : Form) (vs : List Value)
    → ArgumentsFit constructors setting.code.texts (CallFits constructors setting.code) form vs
    → CallsOne (inserted_functions setting.positions 0 setting.code.functions) form → Fits setting form vs
form_fits setting constructors form vs fits calls = (
  takes_none setting constructors form vs fits,
  (calls, takes_kinds constructors setting.code.texts (CallFits constructors setting.code) form vs fits),
)

-- functions that wait, where a cell is made
frames_longer : (setting : CoreSetting) (store : Store) (cell : Cell) (frames : List CallFrame) (cs : List CountedFrame)
    (below : List Value) → FramesStand setting.positions setting.code.functions store frames cs below
    → FramesStand setting.positions setting.code.functions (store ++ cell ∷ []) frames cs below
frames_longer setting store cell [] [] below stand = stand
frames_longer setting store cell [] (c ∷ cs) below stand = absurd stand
frames_longer setting store cell (frame ∷ older) [] below stand = absurd stand
frames_longer setting store cell (frame ∷ older) (c ∷ cs) below stand = (
  stand.0,
  (
    record {
      lent = stand.1.0.lent;
      given = stand.1.0.given;
      is = stand.1.0.is;
      rest = stand.1.0.rest;
      new = stand.1.0.new;
      joins = stand.1.0.joins;
      owned = stand.1.0.owned;
      lends = stand.1.0.lends;
      reached = λ y at is named. reached_longer store cell stand.0 at (stand.1.0.reached y at is named);
    },
    frames_longer setting store cell older cs stand.0 stand.1.1,
  ),
)

module _ (room : ℕ) (setting : CoreSetting) (constructors : List ConstructorTree) (promise : IsInsertable setting.positions setting.code)
    (from : CoreConfiguration) (lent : List ℕ) (below : List Value) (frames : List CountedFrame) (heap : Heap)
    (store : from.store ≡ forwards heap)
    (waits : FramesStand setting.positions setting.code.functions from.store from.frames frames below)
    (x : ℕ) (arguments : List ℕ) (rest : Code) (environment : Environment) (joins : List Join)
    (rest_ok : RestOk setting.positions setting.code.functions lent
    (left_of setting.positions setting.code.functions lent joins) x rest)
    (joins_ok : JoinsOk setting.positions setting.code.functions lent joins)
    (reached : AreReached from.store below environment lent) where
  abbrev now : List ℕ
  now = own setting.positions lent (left_by (left_of setting.positions setting.code.functions lent joins)) rest

  abbrev held : Form → List ℕ
  held form = owns lent (lends setting.positions form arguments) (without (x ∷ []) now)

  abbrev behind : Form → Counted.Counted
  behind form =
      back lent (lends setting.positions form arguments) x now
      (insert setting.positions lent (left_by (left_of setting.positions setting.code.functions lent joins)) rest)

  abbrev before_form : Form → CountedConfiguration
  before_form form =
      conf (Counted.compute x form arguments (behind form)) environment
      (image_joins setting.positions setting.code.functions lent joins) frames heap

  abbrev SoundAt : Form → Type 0
  SoundAt form = IsSound (values_of environment (used setting.positions form arguments ++ held form) ++ below) heap

  -- the value of a form that is lent nothing, and takes no cells
  abbrev with_value : Value → CountedConfiguration
  with_value v =
      conf (back lent [] x now (insert setting.positions lent
      (left_by (left_of setting.positions setting.code.functions lent joins)) rest))
      (record { variable = x; value = v } ∷ environment)
      (image_joins setting.positions setting.code.functions lent joins) frames heap

  -- what is saved behind a form, for its value and what is owned besides
  abbrev saved_behind : ℕ
  saved_behind = drop_cost * (suc (length (without (x ∷ []) now)) + length below)

  abbrev form_costs : ℕ
  form_costs = room + form_cost + value_cost * length arguments + saved_behind

  value_lands : (v : Value) (input : List ℕ) → ((q : ℕ) → refs_of v q ≡ 0) → HaveNoCells (values_of environment arguments)
      → IsSound (values_of environment (arguments ++ without (x ∷ []) now) ++ below) heap
      → Path (inserted_at room setting) 0 saved_behind []
      (Stands setting.positions setting.code.functions
      (record { machine = bound_then x v rest environment joins from; input = input })) (with_input (with_value v) input)
  value_lands v input free none sound =
      lands room setting from lent below frames heap store waits input x v rest environment joins []
      (values_of environment (arguments ++ without (x ∷ []) now) ++ below) rest_ok joins_ok reached refl
      (λ q. omega (
        arith,
        free q,
        refs_append (values_of environment (arguments ++ without (x ∷ []) now)) below q,
        refs_of_both environment arguments (without (x ∷ []) now) q,
        no_refs (values_of environment arguments) q none,
      ))
      sound saved_behind (omega arith)

  module _ (input : List ℕ) where
    abbrev FollowsForm : ℕ → Form → Type 0
    FollowsForm most form =
        Follows setting.positions setting.code.functions (inserted_at room setting) 1 most
        (form_step setting form (map (value_of environment) arguments) x rest environment joins from) input
        (with_input (before_form form) input)

    -- a form that has a value, and one that prints
    value_comes : (form : Form) (v : Value)
        → performed (counted_code_step (inserted_setting setting) (Counted.compute x form arguments (behind form)) environment
        (image_joins setting.positions setting.code.functions lent joins) (before_form form)) input ≡
        ([], with_input (with_value v) input)
        → Fits setting form (values_of environment arguments)
        → ((q : ℕ) → refs_of v q ≡ 0) → HaveNoCells (values_of environment arguments)
        → IsSound (values_of environment (arguments ++ without (x ∷ []) now) ++ below) heap → (most : ℕ) → form_costs ≤ most
        → Path (inserted_at room setting) 1 most []
        (Stands setting.positions setting.code.functions
        (record { machine = bound_then x v rest environment joins from; input = input })) (with_input (before_form form) input)
    value_comes form v is fits free none sound most costs =
        path_step (inserted_at room setting) 0 most saved_behind [] []
        (Stands setting.positions setting.code.functions
        (record { machine = bound_then x v rest environment joins from; input = input })) (with_input (before_form form) input)
        (with_input (with_value v) input) is
        (tt, (fits.0, (tt, fits.1))) (omega (arith, costs)) (value_lands v input free none sound)

    print_comes : (form : Form) (piece : List ℕ)
        → performed (counted_code_step (inserted_setting setting) (Counted.compute x form arguments (behind form)) environment
        (image_joins setting.positions setting.code.functions lent joins) (before_form form)) input ≡ performed
        (print_step piece (with_value unit)) input
        → Fits setting form (values_of environment arguments)
        → HaveNoCells (values_of environment arguments)
        → IsSound (values_of environment (arguments ++ without (x ∷ []) now) ++ below) heap → (most : ℕ) → form_costs ≤ most
        → Follows setting.positions setting.code.functions (inserted_at room setting) 1 most
        (print_step piece (bound_then x unit rest environment joins from)) input (with_input (before_form form) input)
    print_comes form [] is fits none sound most costs =
        path_step (inserted_at room setting) 0 most saved_behind [] []
        (Stands setting.positions setting.code.functions
        (record { machine = bound_then x unit rest environment joins from; input = input }))
        (with_input (before_form form) input) (with_input (with_value unit) input) is
        (tt, (fits.0, (tt, fits.1))) (omega (arith, costs)) (value_lands unit input (λ q. refl) none sound)
    print_comes form (byte ∷ bytes) is fits none sound most costs =
        path_step (inserted_at room setting) 0 most saved_behind (seen (output (byte ∷ bytes)) ∷ []) []
        (Stands setting.positions setting.code.functions
        (record { machine = bound_then x unit rest environment joins from; input = input }))
        (with_input (before_form form) input) (with_input (with_value unit) input) is
        (tt, (fits.0, (tt, fits.1))) (omega (arith, costs)) (value_lands unit input (λ q. refl) none sound)

    -- ---- constructions

    module _ (c : ℕ) (sound : IsSound (values_of environment (arguments ++ without (x ∷ []) now) ++ below) heap) where
      abbrev values : List Value
      values = map (value_of environment) arguments

      abbrev cell : Cell
      cell = record { made_by = c; fields = values }

      abbrev longer : Heap
      longer = record { count = 1; cell = cell } ∷ heap

      abbrev from_longer : CoreConfiguration
      from_longer = record from { store = from.store ++ cell ∷ [] }

      as_long : length heap ≡ length from.store
      as_long = sym (forwards_length heap) ∙ ap length (sym store)

      counts : (q : ℕ) → count_at heap q ≡ (refs values q + refs (values_of environment (without (x ∷ []) now) ++ below) q) + refs
          (counted_fields heap) q
      counts q =
          omega (
            arith,
            sound.counts q,
            refs_append
                (values_of environment (arguments ++ without (x ∷ []) now)) below q,
            refs_of_both environment arguments
                (without (x ∷ []) now) q,
            refs_append (values_of environment (without (x ∷ []) now)) below q,
          )

      within : AllWithin (length heap) values
      within =
          all_within (length heap) values
          (λ q one. let k = positive (count_at heap q) (omega (arith, counts q, one)) in counted_within heap q k.0 k.1)

      sound_longer : IsSound (place (length from.store) ∷ (values_of environment (without (x ∷ []) now) ++ below)) longer
      sound_longer =
          record {
            counts = λ q. omega (
              arith,
              counts_built cell
                  (λ p. refs (values_of environment (without (x ∷ []) now) ++ below) p) heap counts q,
              ap
                  (λ n. refs_of (place n) q) as_long,
            );
            older = built_older cell 1 heap within sound.older;
          }

      abbrev with_cell : ℕ → CountedConfiguration
      with_cell at =
          conf (back lent [] x now (insert setting.positions lent
          (left_by (left_of setting.positions setting.code.functions lent joins)) rest))
          (record { variable = x; value = place at } ∷ environment)
          (image_joins setting.positions setting.code.functions lent joins) frames longer

      cell_lands : Path (inserted_at room setting) 0 saved_behind []
          (Stands setting.positions setting.code.functions
          (record {
            machine = record (bound_then x (place (length from.store)) rest environment joins from)
                { store = from.store ++ cell ∷ [] };
            input = input;
          })) (with_input (with_cell (length from.store)) input)
      cell_lands =
          lands room setting from_longer lent below frames longer (ap (λ (s : Store). s ++ cell ∷ []) store)
          (frames_longer setting from.store cell from.frames frames below waits) input x
          (place (length from.store)) rest environment joins []
          (place (length from.store) ∷ (values_of environment (without (x ∷ []) now) ++ below)) rest_ok joins_ok
          (λ y at is named. reached_longer from.store cell below at (reached y at is named)) refl
          (λ q. omega (arith, refs_append (values_of environment (without (x ∷ []) now)) below q)) sound_longer
          saved_behind (omega arith)

      abbrev found : ℕ
      found = live from.store (values ++ (held_for x rest joins environment ++ held_by_frames from.frames))

      found_is : busy heap ≡ found
      found_is =
          busy_is_live setting.positions setting.code.functions heap lent below from.frames frames
          (subst (λ (s : Store). FramesStand setting.positions setting.code.functions s from.frames frames below) store waits)
          environment joins x rest arguments rest_ok joins_ok
          (subst (λ (s : Store). AreReached s below environment lent) store reached) sound
          ∙ ap (λ (s : Store). live s (values ++ (held_for x rest joins environment ++ held_by_frames from.frames))) (sym store)

      made : (most : ℕ) → form_costs ≤ most → performed (counted_code_step (inserted_setting setting)
          (Counted.compute x (Construct c) arguments (behind (Construct c))) environment
          (image_joins setting.positions setting.code.functions lent joins) (before_form (Construct c))) input
          ≡ performed (builds (busy heap)
          (if nat_le setting.cells (busy heap) then counted_at_end heap_full (before_form (Construct c)) else with_cell
          (length heap))) input
          → Follows setting.positions setting.code.functions (inserted_at room setting) 1 most
          (builds found (if nat_le setting.cells found then at_end heap_full from else record
          (bound_then x (place (length from.store)) rest environment joins from) { store = from.store ++ cell ∷ [] })) input
          (with_input (before_form (Construct c)) input)
      made most costs step = by_test (nat_le setting.cells found) refl
        where
          step_is : (t : Bool) → nat_le setting.cells found ≡ t
              → performed (counted_code_step (inserted_setting setting)
              (Counted.compute x (Construct c) arguments (behind (Construct c))) environment
              (image_joins setting.positions setting.code.functions lent joins) (before_form (Construct c))) input
              ≡ (
                built found ∷ [],
                with_input
                    (if t then counted_at_end heap_full (before_form (Construct c)) else with_cell (length from.store)) input,
              )
          step_is t is =
              step
              ∙ (ap (λ (n : ℕ). performed
              (builds n (if nat_le setting.cells n then counted_at_end heap_full (before_form (Construct c)) else with_cell
              (length heap))) input) found_is
              ∙ (ap (λ (n : ℕ). performed
              (builds found (if nat_le setting.cells found then counted_at_end heap_full
              (before_form (Construct c)) else with_cell n)) input) as_long
              ∙ ap (λ (b : Bool). performed
              (builds found (if b then counted_at_end heap_full (before_form (Construct c)) else with_cell (length from.store)))
              input) is))

          by_test : (t : Bool) → nat_le setting.cells found ≡ t
              → Follows setting.positions setting.code.functions (inserted_at room setting) 1 most
              (builds found (if t then at_end heap_full from else record
              (bound_then x (place (length from.store)) rest environment joins from) { store = from.store ++ cell ∷ [] })) input
              (with_input (before_form (Construct c)) input)
          by_test true is =
              path_step (inserted_at room setting) 0 most 0 (built found ∷ []) []
              (Stands setting.positions setting.code.functions (record { machine = at_end heap_full from; input = input }))
              (with_input (before_form (Construct c)) input)
              (with_input (counted_at_end heap_full (before_form (Construct c))) input) (step_is true is) (tt, (tt, (tt, (tt, tt))))
              (omega (arith, costs))
              (path_here (inserted_at room setting) 0
              (Stands setting.positions setting.code.functions (record { machine = at_end heap_full from; input = input }))
              (with_input (counted_at_end heap_full (before_form (Construct c))) input) (refl, (refl, tt)))
          by_test false is =
              path_step (inserted_at room setting) 0 most saved_behind (built found ∷ []) []
              (Stands setting.positions setting.code.functions
              (record {
                machine = record (bound_then x (place (length from.store)) rest environment joins from)
                    { store = from.store ++ cell ∷ [] };
                input = input;
              }))
              (with_input (before_form (Construct c)) input) (with_input (with_cell (length from.store)) input) (step_is false is)
              (tt, (tt, (tt, (tt, tt)))) (omega (arith, costs)) cell_lands

module _ (room : ℕ) (setting : CoreSetting) (constructors : List ConstructorTree) (promise : IsInsertable setting.positions setting.code)
    (from : CoreConfiguration) (lent : List ℕ) (below : List Value) (frames : List CountedFrame) (heap : Heap)
    (store : from.store ≡ forwards heap)
    (waits : FramesStand setting.positions setting.code.functions from.store from.frames frames below)
    (x : ℕ) (rest : Code) (environment : Environment) (joins : List Join)
    (rest_ok : RestOk setting.positions setting.code.functions lent
    (left_of setting.positions setting.code.functions lent joins) x rest)
    (joins_ok : JoinsOk setting.positions setting.code.functions lent joins)
    (reached : AreReached from.store below environment lent) where
  -- what a form costs, with what is saved behind it
  abbrev CostsAt : ℕ → List ℕ → Form → Type 0
  CostsAt most arguments form =
      room + form_cost + value_cost * length arguments + drop_cost * (suc (length (used setting.positions form arguments)
      + length (held room setting constructors promise from lent below frames heap store waits x arguments rest environment joins rest_ok
      joins_ok reached form)) + length below) ≤ most

  reads : (input : List ℕ) (arguments : List ℕ) (most : ℕ) → CostsAt most arguments ReadByte
      → HaveNoCells (values_of environment arguments)
      → SoundAt room setting constructors promise from lent below frames heap store waits x arguments rest environment joins rest_ok
      joins_ok reached ReadByte
      → FollowsForm room setting constructors promise from lent below frames heap store waits x arguments rest environment joins rest_ok
      joins_ok reached input most ReadByte
  reads [] arguments most costs none sound =
      path_step (inserted_at room setting) 0 most
      (saved_behind room setting constructors promise from lent below frames heap store waits x arguments rest environment joins rest_ok
      joins_ok reached) (seen input_end ∷ []) []
      (Stands setting.positions setting.code.functions
      (record { machine = bound_then x (byte_value None) rest environment joins from; input = [] }))
      (with_input (before_form room setting constructors promise from lent below frames heap store waits x arguments rest environment
      joins rest_ok joins_ok reached ReadByte) [])
      (with_input (with_value room setting constructors promise from lent below frames heap store waits x arguments rest environment
      joins rest_ok joins_ok reached (byte_value None)) []) refl (tt, (none, (tt, (tt, tt)))) (omega (arith, costs))
      (value_lands room setting constructors promise from lent below frames heap store waits x arguments rest environment joins rest_ok
      joins_ok reached (byte_value None) [] (byte_free None) none sound)
  reads (byte ∷ bytes) arguments most costs none sound =
      path_step (inserted_at room setting) 0 most
      (saved_behind room setting constructors promise from lent below frames heap store waits x arguments rest environment joins rest_ok
      joins_ok reached) (seen (taken byte) ∷ []) []
      (Stands setting.positions setting.code.functions
      (record { machine = bound_then x (byte_value (Some byte)) rest environment joins from; input = bytes }))
      (with_input (before_form room setting constructors promise from lent below frames heap store waits x arguments rest environment
      joins rest_ok joins_ok reached ReadByte) (byte ∷ bytes))
      (with_input (with_value room setting constructors promise from lent below frames heap store waits x arguments rest environment
      joins rest_ok joins_ok reached (byte_value (Some byte))) bytes) refl (tt, (none, (tt, (tt, tt)))) (omega (arith, costs))
      (value_lands room setting constructors promise from lent below frames heap store waits x arguments rest environment joins rest_ok
      joins_ok reached (byte_value (Some byte)) bytes (byte_free (Some byte)) none sound)

  module _ (input : List ℕ) where
    constructs : (c : ℕ) (arguments : List ℕ) (most : ℕ) → CostsAt most arguments (Construct c)
        → SoundAt room setting constructors promise from lent below frames heap store waits x arguments rest environment joins rest_ok
        joins_ok reached (Construct c)
        → FollowsForm room setting constructors promise from lent below frames heap store waits x arguments rest environment joins
        rest_ok joins_ok reached input most (Construct c)
    constructs c [] most costs sound =
        value_comes room setting constructors promise from lent below frames heap store waits x
        [] rest environment joins rest_ok joins_ok reached input (Construct c) (constant c) refl (tt, (tt, tt)) (λ q. refl) tt sound
        most (omega (arith, costs))
    constructs c (y ∷ ys) most costs sound =
        made room setting constructors promise from lent below frames heap store waits x
        (y ∷ ys) rest environment joins rest_ok joins_ok reached input c sound most (omega (arith, costs)) refl

    -- the step of each form
    pub form_at : (form : Form) (arguments : List ℕ) (most : ℕ) → CostsAt most arguments form
        → ArgumentsFit constructors setting.code.texts (CallFits constructors setting.code) form
        (map (value_of environment) arguments) → is_among arguments x ≡ false
        → SoundAt room setting constructors promise from lent below frames heap store waits x arguments rest environment joins rest_ok
        joins_ok reached form
        → FollowsForm room setting constructors promise from lent below frames heap store waits x arguments rest environment joins
        rest_ok joins_ok reached input most form
    form_at (Number n) arguments most costs fits new sound =
        value_comes room setting constructors promise from lent below frames heap store waits x arguments rest environment joins rest_ok
        joins_ok reached input (Number n) (integer n) refl
        (form_fits setting constructors (Number n) (map (value_of environment) arguments) fits tt) (λ q. refl)
        (takes_none setting constructors (Number n) (map (value_of environment) arguments) fits) sound
        most (omega (arith, costs))
    form_at Nothing arguments most costs fits new sound =
        value_comes room setting constructors promise from lent below frames heap store waits x arguments rest environment joins rest_ok
        joins_ok reached input Nothing unit refl
        (form_fits setting constructors Nothing (map (value_of environment) arguments) fits tt) (λ q. refl)
        (takes_none setting constructors Nothing (map (value_of environment) arguments) fits) sound
        most (omega (arith, costs))
    form_at ReadByte arguments most costs fits new sound = reads input arguments most costs
        (takes_none setting constructors ReadByte (map (value_of environment) arguments) fits) sound
    form_at (PrintText form text) arguments most costs fits new sound =
        print_comes room setting constructors promise from lent below frames heap store waits x arguments rest environment joins rest_ok
        joins_ok reached input (PrintText form text) (piece_of form (text_at setting.code.texts text)) refl
        (form_fits setting constructors (PrintText form text) (map (value_of environment) arguments) fits tt)
        (takes_none setting constructors (PrintText form text) (map (value_of environment) arguments) fits) sound
        most (omega (arith, costs))
    form_at (Unary operator) arguments most costs fits new sound =
        value_comes room setting constructors promise from lent below frames heap store waits x arguments rest environment joins rest_ok
        joins_ok reached input (Unary operator) (unary_result operator (argument 0 (map (value_of environment) arguments))) refl
        (form_fits setting constructors (Unary operator) (map (value_of environment) arguments) fits tt)
        (unary_free operator (argument 0 (map (value_of environment) arguments)))
        (takes_none setting constructors (Unary operator) (map (value_of environment) arguments) fits) sound
        most (omega (arith, costs))
    form_at (Binary operator) arguments most costs fits new sound =
        value_comes room setting constructors promise from lent below frames heap store waits x arguments rest environment joins rest_ok
        joins_ok reached input (Binary operator)
        (binary_result operator (argument 0 (map (value_of environment) arguments))
        (argument 1 (map (value_of environment) arguments))) refl
        (form_fits setting constructors (Binary operator) (map (value_of environment) arguments) fits tt)
        (number_free operator (integer_of (argument 0 (map (value_of environment) arguments)))
        (integer_of (argument 1 (map (value_of environment) arguments))))
        (takes_none setting constructors (Binary operator) (map (value_of environment) arguments) fits) sound
        most (omega (arith, costs))
    form_at (Print form) arguments most costs fits new sound =
        print_comes room setting constructors promise from lent below frames heap store waits x arguments rest environment joins rest_ok
        joins_ok reached input (Print form)
        (piece_of form (signed_decimal (integer_of (argument 0 (map (value_of environment) arguments))))) refl
        (form_fits setting constructors (Print form) (map (value_of environment) arguments) fits tt)
        (takes_none setting constructors (Print form) (map (value_of environment) arguments) fits) sound
        most (omega (arith, costs))
    form_at (Construct c) arguments most costs fits new sound = constructs c arguments most costs sound
    form_at (Call f) arguments most costs fits new sound =
        call_at room setting promise from lent below frames heap store waits input x f arguments rest environment joins rest_ok joins_ok
        reached
        (false_if (is_among (lends setting.positions (Call f) arguments) x)
        (λ is. no_both ⊥ (is_among arguments x) (lends_part setting.positions (Call f) arguments x is) new))
        fits.0 fits.1 fits.2 sound most (omega (arith, costs))

-- the step of a code that computes
module _ (room : ℕ) (setting : CoreSetting) (constructors : List ConstructorTree) (promise : IsInsertable setting.positions setting.code)
    (from : CoreConfiguration) (lent : List ℕ) (below : List Value) (frames : List CountedFrame) (heap : Heap)
    (store : from.store ≡ forwards heap)
    (waits : FramesStand setting.positions setting.code.functions from.store from.frames frames below) (input : List ℕ)
    (environment : Environment) (joins : List Join) (joins_ok : JoinsOk setting.positions setting.code.functions lent joins)
    (reached : AreReached from.store below environment lent) where
  pub follows_compute : (x : ℕ) (form : Form) (arguments : List ℕ) (rest : Code)
      → CodeOk setting.positions setting.code.functions lent (left_of setting.positions setting.code.functions lent joins)
      (compute x form arguments rest)
      → IsSound (values_of environment (own setting.positions lent
      (left_by (left_of setting.positions setting.code.functions lent joins)) (compute x form arguments rest)) ++ below) heap
      → ArgumentsFit constructors setting.code.texts (CallFits constructors setting.code) form
      (map (value_of environment) arguments)
      → (most : ℕ) → room + step_cost + part_cost * length arguments + drop_cost * (length (own setting.positions lent
      (left_by (left_of setting.positions setting.code.functions lent joins)) (compute x form arguments rest)) + length below)
      ≤ most
      → Follows setting.positions setting.code.functions (inserted_at room setting) 1 most
      (form_step setting form (map (value_of environment) arguments) x rest environment joins from) input
      (with_input (conf (insert setting.positions lent (left_by (left_of setting.positions setting.code.functions lent joins))
      (compute x form arguments rest)) environment
      (image_joins setting.positions setting.code.functions lent joins) frames heap) input)
  follows_compute x form arguments rest ok sound fits most costs =
      dups_first (inserted_at room setting)
      (Stands setting.positions setting.code.functions
      (performed (form_step setting form (map (value_of environment) arguments) x rest environment joins from) input).1)
      environment (image_joins setting.positions setting.code.functions lent joins) frames below input 1
      (performed (form_step setting form (map (value_of environment) arguments) x rest environment joins from) input).0
      setting.positions lent (used setting.positions form arguments)
      (owns lent (lends setting.positions form arguments)
      (without (x ∷ []) (own setting.positions lent
      (left_by (left_of setting.positions setting.code.functions lent joins)) rest)))
      (Counted.compute x form arguments (back lent (lends setting.positions form arguments) x
      (own setting.positions lent (left_by (left_of setting.positions setting.code.functions lent joins)) rest)
      (insert setting.positions lent (left_by (left_of setting.positions setting.code.functions lent joins)) rest)))
      heap most (room + form_cost + value_cost * length arguments + (drop_cost + drop_cost * length below))
      (omega (arith, costs, used_few form))
      sound (subst (λ (s : Store). AreReached s below environment lent) store reached)
      (λ after cells sound_then. form_at room setting constructors promise from lent below frames after
      (store ∙ same_store heap after (sym cells)) waits x rest environment joins
      (record {
        bound = ok.bound;
        new = ok.fine.1.0;
        unlent = ok.fine.1.1.0;
        fine = ok.fine.1.1.1;
        lends_on = ok.lends_on.1;
        part
            = ok.part;
        apart = ok.apart;
        small = omega (arith, ok.small);
      })
      joins_ok reached input form arguments
      (drop_cost * (length (used setting.positions form arguments) + length (owns lent (lends setting.positions form arguments)
      (without (x ∷ []) (own setting.positions lent
      (left_by (left_of setting.positions setting.code.functions lent joins)) rest))))
      + (room + form_cost + value_cost * length arguments + (drop_cost + drop_cost * length below))) (omega arith) fits
      (false_if (is_among arguments x) (λ is. no_both ⊥ (is_among ok.bound x) (ok.fine.0 x is) ok.fine.1.0)) sound_then)
    where
      used_few : (form : Form) → length (used setting.positions form arguments) ≤ length arguments
      used_few (Number n) = omega arith
      used_few Nothing = omega arith
      used_few ReadByte = omega arith
      used_few (PrintText form text) = omega arith
      used_few (Unary operator) = omega arith
      used_few (Binary operator) = omega arith
      used_few (Print form) = omega arith
      used_few (Construct c) = omega arith
      used_few (Call f) = positions_few (is_owned setting.positions [] f) 0 arguments
