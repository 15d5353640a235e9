-- A program with tokens whose functions are lowered runs the same as its assembler code: its bare form has room for the work on
-- tokens, and the assembler's machine does the steps of the machine with tokens.
use Rattle.std.proofs.Common.{◌≡◌, ℕ, zero, suc, ◌+◌, ◌*◌, ◌%◌, ◌<◌, ◌≤◌, List, [], ◌∷◌, Some, All, refl, sym, ◌∙◌, ap, subst, arith}
use Rattle.std.specs.Prelude.{slice_get}
use Rattle.kk_base.specs.Agreements.{Agree}
use Rattle.kk_base.specs.Machines.{Machine, mapped, state, ending_after}
use Rattle.kk_base.proofs.Agreements.{agree_through, agree_mapped}
use Rattle.kk_base.proofs.Machines.{state-add, state_ended}
use Rattle.kk_base.proofs.Simulations.{simulates_many, simulates_agree, simulates_passing}
use Rattle.kk_source.specs.State.{End, ended as well}
use Rattle.kk_source.specs.Ends.{exit_of}
use Rattle.kk_source.specs.Notes.{Note, events_of}
use Rattle.kk_counted.specs.BareForms.{bare_program}
use Rattle.kk_counted.specs.CountedCosts.{roomy_cost}
use Rattle.kk_counted.specs.CountedStates.{CountedControl, CountedConfiguration, CountedState, counted_end_at, counted_first_state}
use Rattle.kk_counted.specs.CountedMachine.{counted_machine}
use Rattle.kk_counted.specs.Heaps.{busy}
use Rattle.kk_counted.specs.Keeping.{counted_after}
use Rattle.kk_counted.specs.Marks.{CellMarks}
use Rattle.kk_counted.specs.TokenCosts.{token_cost, HasRoom, AreStatesKept}
use Rattle.kk_counted.specs.TokenKeeping.{FillsAlways, token_after}
use Rattle.kk_counted.specs.TokenMachine.{token_machine}
use Rattle.kk_counted.specs.TokenStates.{TokenControl, TokenState, token_first_state, token_end_at, bare_control, bare_setting}
use Rattle.kk_counted.specs.TokenedCodes.{TokenedFunction, TokenedProgram}
use Rattle.kk_counted.proofs.KeptFields.{keeps_always}
use Rattle.kk_counted.proofs.KnownRuns.{known_may_be_left}
use Rattle.kk_counted.proofs.TokenRoom.{costs_within, states_kept}
use Rattle.rv_isa.specs.Processor.{Ending, exited}
use Rattle.rv_isa.specs.AsmCode.{Lines}
use Rattle.rv_isa.specs.AsmMachine.{AsmTurn, asm_start}
use Rattle.rv_isa.specs.Primitives.{ended}
use Rattle.rv_isa.specs.Numbers.{cell_size}
use Rattle.cell_heap.specs.Pool.{Pool}
use Rattle.cell_runtime.specs.World.{World, first_world}
use Rattle.rv_cells.specs.Layout.{Layout}
use Rattle.rv_cells.specs.Fitting.{IsFit}
use Rattle.rv_cells.specs.Meaning.{setting_on, AreFree}
use Rattle.rv_cells.specs.TokenedMeaning.{roomy_outside, IsTokenedLowered, TokenedRunsTheSame}
use Rattle.rv_cells.proofs.FormRoots.{lowered_once}
use Rattle.rv_cells.proofs.Programs.{all_free, lines_formed}
use Rattle.rv_cells.proofs.TokenLineCosts.{forms}
use Rattle.rv_cells.proofs.TokenRelation.{Lowering, setting, upper, lower, pace, Passing, HasEnded, MayStandFor, IsFitWith, IsFitFrom, Related}
use Rattle.rv_cells.proofs.TokenSimulation.{simulates, starts}

-- ---- machines

-- how it is seen makes no difference to the states of a machine
state_mapped : {S E F W V : Type 0} (events : E → List F) (seen : W → V) (machine : Machine S E W) (n : ℕ) (s : S)
    → state (mapped events seen machine) n s ≡ state machine n s
state_mapped events seen machine zero s = refl
state_mapped events seen machine (suc n) s = state_mapped events seen machine n (machine.step s).1

-- a machine ends in one state
ends_once : {S E W : Type 0} (machine : Machine S E W) (j k : ℕ) (s : S) (v w : W) → ending_after machine j s ≡ Some v
    → ending_after machine k s ≡ Some w → state machine j s ≡ state machine k s
ends_once machine j k s v w first second =
    let sums : j + k ≡ k + j = omega arith in
    sym (state_ended machine k (state machine j s) v first) ∙ sym (state-add machine j k s)
    ∙ ap (λ n. state machine n s) sums ∙ state-add machine k j s
    ∙ state_ended machine j (state machine k s) w second

-- ---- codes

-- the forms of all functions
abbrev pub all_forms : List TokenedFunction → ℕ
all_forms [] = 0
all_forms (function ∷ functions) = forms function.body + all_forms functions

-- no function has more
pub forms_within : (functions : List TokenedFunction) (f : ℕ) (function : TokenedFunction) → slice_get functions f ≡ Some function
    → forms function.body ≤ all_forms functions
forms_within [] f function is = cc
forms_within (one ∷ functions) zero function is =
    let same : one ≡ function = cc is in
    let few = ap (λ (g : TokenedFunction). forms g.body) same in
    omega arith
forms_within (one ∷ functions) (suc f) function is = let later = forms_within functions f function is in omega arith

-- a machine that has ended so has stopped so
stopped_at : (control : TokenControl) (by : End) → token_end_at control ≡ Some by → control ≡ TokenControl.stopped by
stopped_at (TokenControl.running code environment joins) by is = cc
stopped_at (TokenControl.stopped how) by is = cc
stopped_at TokenControl.stuck by is = cc

-- ---- programs

module _ (layout : Layout) (marks : CellMarks) (code : TokenedProgram) (constants : List (List ℕ)) (functions : List Lines)
    (lowered : IsTokenedLowered layout marks code constants functions) (room : ℕ) (fits_room : HasRoom room code) (pool : Pool)
    (depth first : ℕ) (input : List ℕ) (aligned : pool.first % cell_size ≡ 0) (some : 0 < pool.first)
    (bytes : All (λ byte. byte < 256) input)
    (fits : (n : ℕ) → IsFit layout (counted_after (roomy_cost room) (setting_on (bare_program code) pool depth) input n)) where
  -- the program and its lines
  abbrev pub lowering : Lowering
  lowering = record {
    code = code;
    marks = marks;
    layout = layout;
    functions = functions;
    constants = constants;
    first = first;
    pool = pool;
    depth = depth;
    most = all_forms code.functions;
    aligned = aligned;
    some = some;
    narrow = lowered.narrow;
    fields_are = lowered.fields_are;
    falsity = lowered.falsity;
    truth_is = lowered.truth_is;
    spends = lowered.spends;
    lowered = lowered_once layout marks (record { literals = code.texts; constants = constants }) code.functions functions
        lowered.each;
    formed = lines_formed functions lowered.formed;
    short = forms_within code.functions;
  }

  -- the bare form, with room for tokens, and the machine with tokens
  abbrev counted : Machine CountedState Note End
  counted = counted_machine (roomy_cost room) (bare_setting (setting lowering))

  abbrev pub tokened : Machine TokenState Note End
  tokened = token_machine token_cost (setting lowering)

  -- the first states of the three machines
  abbrev bare_start : CountedState
  bare_start = counted_first_state (bare_setting (setting lowering)) input

  abbrev pub start : TokenState
  start = token_first_state (setting lowering) input

  abbrev pub turn : AsmTurn World Ending
  turn = asm_start lowered.main_lines (first_world pool input)

  abbrev pub idle : ℕ
  idle = forms lowered.main.body

  -- the fields that are left are those that would be written
  pub fills : FillsAlways token_cost (setting lowering) input
  fills = known_may_be_left token_cost (setting lowering) lowered.spends lowered.leaves input

  -- each state with tokens is kept, and without them one of the bare form
  states : AreStatesKept token_cost (roomy_cost room) (setting lowering) input
  states = states_kept token_cost (roomy_cost room) (setting lowering) input lowered.spends fills (λ n. (fits n).going)

  -- the machine with tokens does what the bare form does, within its room
  has_room : Agree counted tokened room (λ m. m + 1) bare_start start
  has_room = costs_within room (setting lowering) fits_room input lowered.spends fills (λ n. (fits n).going)

  -- the image tells the same states
  pub seen_states : (n : ℕ) → state (upper lowering) n start ≡ state tokened n start
  seen_states n = state_mapped events_of (λ end. exited (exit_of end)) tokened n start

  -- each state with tokens is fit, since it is so without them, and it keeps only fields that are the new ones
  fit_from : IsFitFrom lowering start
  fit_from n =
      let bare_is = states.states n in
      subst (λ (s : TokenState). IsFitWith lowering s.machine) (sym (seen_states n))
      (record {
        bare = subst (λ c. IsFit layout c) (sym bare_is.1) (fits bare_is.0);
        keeps = keeps_always token_cost (setting lowering) lowered.spends lowered.leaves input n;
      })

  -- the assembler's machine begins where the machine with tokens does
  pub related : Related lowering 0 idle start turn
  related =
      starts lowering lowered.main lowered.main_is lowered.main_alone lowered.main_lines lowered.lines_are input bytes fit_from

  -- the assembler's machine does what the machine with tokens does
  simulated : Agree (upper lowering) (lower lowering) 0 (λ m. m * pace lowering + idle + 1) start turn
  simulated = simulates_agree (upper lowering) (lower lowering) (Related lowering) (Passing lowering) (pace lowering)
      (simulates lowering) 0 idle start turn related

  -- and so what the bare form does
  agreed : Agree (roomy_outside room (setting_on (bare_program code) pool depth)) (lower lowering) room
      (λ m. m * pace lowering + idle + 1 + 1) bare_start turn
  agreed =
      let none : room + 0 ≡ room = omega arith in
      subst (λ credit. Agree (roomy_outside room (setting_on (bare_program code) pool depth)) (lower lowering) credit
      (λ m. m * pace lowering + idle + 1 + 1) bare_start turn) none
      (agree_through (roomy_outside room (setting_on (bare_program code) pool depth)) (upper lowering) (lower lowering) room 0
      (λ m. m + 1) (λ m. m * pace lowering + idle + 1) bare_start start turn
      (agree_mapped events_of (λ end. exited (exit_of end)) counted tokened room (λ m. m + 1) bare_start start has_room)
      simulated)

  -- where the bare form stops the machine with tokens stops so, with the same heap
  record Stops (n : ℕ) (by : End) : Type 0 where
    steps : ℕ
    control_is : (token_after token_cost (setting lowering) input steps).control ≡ TokenControl.stopped by
    heap_is : (token_after token_cost (setting lowering) input steps).heap
        ≡ (counted_after (roomy_cost room) (bare_setting (setting lowering)) input n).heap

  -- so it stops
  stops_so : (n : ℕ) (by : End)
      → (counted_after (roomy_cost room) (bare_setting (setting lowering)) input n).control ≡ CountedControl.stopped by
      → Stops n by
  stops_so n by stops =
      let does = has_room.downwards n in
      let m = does.steps in
      let ends : ending_after counted n bare_start ≡ Some by = ap counted_end_at stops in
      let control_is : (token_after token_cost (setting lowering) input m).control ≡ TokenControl.stopped by
      = stopped_at (token_after token_cost (setting lowering) input m).control by (does.ending_is ∙ ends) in
      let bare_is = states.states m in
      let k = bare_is.0 in
      let ends_there : ending_after counted k bare_start ≡ Some by
      = ap (λ (c : CountedConfiguration). counted_end_at c.control) (sym bare_is.1)
      ∙ ap (λ control. counted_end_at (bare_control control)) control_is in
      record {
        steps = m;
        control_is = control_is;
        heap_is = ap (λ (c : CountedConfiguration). c.heap) bare_is.1
            ∙ ap (λ (s : CountedState). s.machine.heap) (ends_once counted k n bare_start by by ends_there ends);
      }

  -- where the program ends by itself with an empty heap, all cells are free
  last_free : (by : End) (s : TokenState) (t : AsmTurn World Ending) → s.machine.control ≡ TokenControl.stopped by
      → MayStandFor lowering s.machine.control s.machine s.input t
      → (world : World) × (t ≡ ended (exited (exit_of by)) world)
      × (by ≡ well → busy s.machine.heap ≡ 0 → AreFree pool world.cells)
  last_free by s t is stands =
      let end : HasEnded lowering by s.machine.heap t
      = subst (λ control. MayStandFor lowering control s.machine s.input t) is stands in (
        end.world,
        end.turn_is,
        λ ends none. all_free pool layout end.address end.owners s.machine.heap end.world.cells end.follows (end.none ends) none,
      )

  -- the assembler's machine and the counted machine of the bare form run the same
  pub runs_the_same : TokenedRunsTheSame code room constants functions lowered.main_lines pool depth first input
  runs_the_same =
      record {
        agrees = ((λ m. m * pace lowering + idle + 1 + 1), agreed);
        ends = λ n by stops.
            let so : Stops n by = stops_so n by stops in
            let reaches = simulates_many (upper lowering) (lower lowering) (Related lowering) (Passing lowering) (pace lowering)
            (simulates lowering) so.steps 0 idle start turn related in
            let s : TokenState = state (upper lowering) so.steps start in
            let same : s ≡ state tokened so.steps start = seen_states so.steps in
            let end = last_free by s (state (lower lowering) reaches.steps turn)
            (ap (λ (u : TokenState). u.machine.control) same ∙ so.control_is) reaches.related.stands in (
              reaches.steps,
              end.0,
              end.1,
              λ ends none. end.2 ends (ap (λ (u : TokenState). busy u.machine.heap) same ∙ (ap busy so.heap_is ∙ none)),
            );
        never_stuck = λ n. simulates_passing (upper lowering) (lower lowering) (Related lowering) (Passing lowering) (pace lowering)
            (simulates lowering) 0 idle start turn related n;
      }
