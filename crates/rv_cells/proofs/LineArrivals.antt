-- For each state at which the counted machine is at a form, the assembler's machine comes to one whose cells are those of the
-- counted heap. Where the form is a call, a print or a construction with fields, that is at a line of the form's own.
use Rattle.std.proofs.Common.{◌≡◌, ◌≢◌, ℕ, ◌+◌, ◌%◌, ◌<◌, ◌≤◌, ◌&&◌, not, true, false, List, [], ◌∷◌, ◌++◌, length, drop, Some, None, All, refl, sym, ◌∙◌, ap, subst, arith, flat_map, ◌⊎◌, inl, inr}
use Rattle.std.proofs.Math.Seq.{drop-append_seam}
use Rattle.std.proofs.lemmas.List.{append-nil, drop-drop}
use Rattle.kk_base.specs.Machines.{state, trace}
use Rattle.kk_base.proofs.Machines.{state-add, trace-add, trace-mapped}
use Rattle.kk_base.proofs.Simulations.{simulates_many}
use Rattle.kk_syntax.specs.Shapes.{is_among}
use Rattle.kk_source.specs.Ends.{exit_of}
use Rattle.kk_source.specs.Notes.{events_of}
use Rattle.kk_source.specs.State.{Environment}
use Rattle.kk_counted.specs.BareForms.{bare, bare_function, bare_program}
use Rattle.kk_counted.specs.CodePlaces.{code_at, is_act, IsActAt}
use Rattle.kk_counted.specs.CountedCodes.{Counted}
use Rattle.kk_counted.specs.CountedCosts.{roomy_cost}
use Rattle.kk_counted.specs.CountedStates.{CountedJoin, CountedControl, CountedConfiguration}
use Rattle.kk_counted.specs.CountedMachine.{counted_machine}
use Rattle.kk_counted.specs.CountedStates.{counted_first_state}
use Rattle.kk_counted.specs.Heaps.{Heap}
use Rattle.kk_counted.specs.Keeping.{counted_after}
use Rattle.kk_counted.specs.Lowerable.{AreLowerable}
use Rattle.kk_counted.specs.Marks.{CellMarks}
use Rattle.kk_counted.specs.TokenCosts.{token_cost, HasRoom}
use Rattle.kk_counted.specs.TokenRuns.{is_quiet, is_quiet_at, ComesTo}
use Rattle.kk_counted.specs.TokenStates.{TokenJoin, TokenControl, TokenConfiguration, TokenState, bare_control, bare_configuration, bare_setting}
use Rattle.kk_counted.specs.TokenedCodes.{Tokened, TokenedArms, TokenedProgram}
use Rattle.kk_counted.proofs.TokenAlignment.{comes_to_each}
use Rattle.cell_heap.specs.Pool.{Pool}
use Rattle.rv_isa.specs.Processor.{Ending, exited}
use Rattle.rv_isa.specs.declared.asm.Action.TheVariants.{Jump}
use Rattle.rv_isa.specs.AsmCode.{Line, Lines}
use Rattle.rv_isa.specs.Frames.{Frame}
use Rattle.rv_lower.specs.Lines.{copies_to, acts}
use Rattle.rv_isa.specs.AsmMachine.{AsmState, AsmTurn}
use Rattle.rv_isa.specs.LinePlaces.{AsmIsAt}
use Rattle.rv_isa.specs.Primitives.{go, stuck}
use Rattle.rv_isa.specs.Numbers.{cell_size}
use Rattle.cell_runtime.specs.World.{World}
use Rattle.rv_cells.specs.Fitting.{IsFit}
use Rattle.rv_cells.specs.CountedCells.{Owner, Follows}
use Rattle.rv_cells.specs.FormLines.{ComesToItsLines, FollowsEachState}
use Rattle.rv_cells.specs.Layout.{Layout}
use Rattle.rv_cells.specs.Meaning.{setting_on}
use Rattle.rv_cells.specs.TokenedMeaning.{roomy_outside, IsTokenedLowered}
use Rattle.rv_cells.proofs.CopyPassage.{past_copies}
use Rattle.rv_cells.proofs.FormArities.{is_own_act, lead, lead_less}
use Rattle.rv_cells.proofs.FormPlaces.{tree, Parts, no_part, code_of, own_of, Leads, way_of, StandsAt, parts_behind}
use Rattle.rv_cells.proofs.FormRoots.{root_same, program_root, own_lines, among_own}
use Rattle.rv_cells.proofs.OwnLines.{among_found}
use Rattle.rv_cells.proofs.Runs.{left_at, turn_of}
use Rattle.rv_cells.proofs.Spots.{Spot}
use Rattle.rv_cells.proofs.TokenFormedFunctions.{bare_at}
use Rattle.rv_cells.proofs.TokenMeaning.{lowering, idle, fills, seen_states, related, tokened, start, turn, runs_the_same}
use Rattle.rv_cells.proofs.TokenRelation.{Lowering, setting, upper, lower, pace, Passing, Shape, IsInFunction, IsAt, IsBehind, GivesUp, IsFilling, IsAhead, IsNear, MayStandFor, Related}
use Rattle.rv_cells.proofs.TokenSimulation.{simulates}

code_same : (a b : Counted) (e f : Environment) (j k : List CountedJoin)
    → CountedControl.running a e j ≡ CountedControl.running b f k → a ≡ b
code_same a b e f j k is = cc

-- what gives a variable up, and a case, is no call, no print and no construction
no_act : (program : Lowering) (environment : Environment) (x : ℕ) (arms : TokenedArms) (code : Tokened)
    → IsAhead program environment x arms code → is_act (bare code) ≡ true → ⊥
no_act program environment x arms (Tokened.drop y rest) ahead is = cc is
no_act program environment x arms (Tokened.case y decisions others) ahead is = cc is
no_act program environment x arms (Tokened.give y) ahead is = absurd ahead
no_act program environment x arms (Tokened.tail_call f arguments) ahead is = absurd ahead
no_act program environment x arms (Tokened.compute y form arguments others rest) ahead is = absurd ahead
no_act program environment x arms (Tokened.inside y block rest) ahead is = absurd ahead
no_act program environment x arms (Tokened.read y c fields rest) ahead is = absurd ahead
no_act program environment x arms (Tokened.open_cell y c fields used z rest) ahead is = absurd ahead
no_act program environment x arms (Tokened.if_unique y c fields used z rest) ahead is = absurd ahead
no_act program environment x arms (Tokened.dup y rest) ahead is = absurd ahead
no_act program environment x arms (Tokened.fill y z c first arguments kept others rest) ahead is = absurd ahead
no_act program environment x arms (Tokened.free y rest) ahead is = absurd ahead
no_act program environment x arms (Tokened.null y rest) ahead is = absurd ahead
no_act program environment x arms (Tokened.move to of rest) ahead is = absurd ahead
no_act program environment x arms (Tokened.hold y rest) ahead is = absurd ahead
no_act program environment x arms (Tokened.unhold y rest) ahead is = absurd ahead
no_act program environment x arms (Tokened.if_token y there absent) ahead is = absurd ahead

module _ (layout : Layout) (marks : CellMarks) (code : TokenedProgram) (constants : List (List ℕ)) (functions : List Lines)
    (lowered : IsTokenedLowered layout marks code constants functions)
    (lowerable : AreLowerable marks (bare_program code).functions) (main_first : code.main ≡ 0) (room : ℕ)
    (fits_room : HasRoom room code) (pool : Pool) (depth first : ℕ) (input : List ℕ) (aligned : pool.first % cell_size ≡ 0)
    (some : 0 < pool.first) (bytes : All (λ byte. byte < 256) input)
    (fits : (n : ℕ) → IsFit layout (counted_after (roomy_cost room) (setting_on (bare_program code) pool depth) input n)) where
  abbrev low : Lowering
  low = lowering layout marks code constants functions lowered room fits_room pool depth first input aligned some bytes fits

  -- the cells of a world are those of a heap
  abbrev HasCellsOf : Heap → World → Type 0
  HasCellsOf heap world = (address : ℕ → ℕ) × ((owners : ℕ → Owner) × Follows pool layout address owners heap world.cells)

  -- a turn goes on with the cells of a heap
  abbrev GoesOn : Heap → AsmTurn World Ending → Type 0
  GoesOn heap at_turn = (s : AsmState World) × ((at_turn ≡ go s) × HasCellsOf heap s.shared)

  -- a turn is at a line of the place of a form, with the cells of a heap
  abbrev IsAtLine : Counted → Heap → AsmTurn World Ending → Type 0
  IsAtLine act heap at_turn =
      (f : ℕ) × ((way : List ℕ) × (IsActAt (bare_program code) f way act × ((k : ℕ)
      × ((is_among ((own_lines layout marks code constants functions lowered lowerable).lines f way) k ≡ true)
      × ((world : World) × (AsmIsAt functions f k world at_turn × HasCellsOf heap world))))))

  -- a turn comes to such a line, past the copies in front of it, and tells nothing
  abbrev ComesToLine : Counted → Heap → AsmTurn World Ending → Type 0
  ComesToLine act heap at_turn =
      (n : ℕ) × (IsAtLine act heap (state (lower low) n at_turn) × (trace (lower low) n at_turn ≡ []))

  -- a turn that stands for a state has the cells of its heap
  has_cells : (tokens_code : Tokened) (environment : Environment) (inner : List TokenJoin) (c : TokenConfiguration)
      (left_input : List ℕ) (at_turn : AsmTurn World Ending)
      → (is : IsAt (lowering layout marks code constants functions lowered room fits_room pool depth first input aligned some bytes
      fits) tokens_code environment inner c left_input at_turn) → HasCellsOf c.heap is.spot.world
  has_cells tokens_code environment inner c left_input at_turn is = (
    is.spot.address,
    (
      is.spot.owners,
      subst (λ heap. Follows pool layout is.spot.address is.spot.owners heap is.spot.world.cells) is.heap_is is.at.follows,
    ),
  )

  has_cells_behind : (tokens_code : Tokened) (environment : Environment) (inner : List TokenJoin) (c : TokenConfiguration)
      (left_input : List ℕ) (at_turn : AsmTurn World Ending)
      → (is : IsNear (lowering layout marks code constants functions lowered room fits_room pool depth first input aligned some
      bytes fits) tokens_code environment inner c left_input at_turn) → HasCellsOf c.heap is.spot.world
  has_cells_behind tokens_code environment inner c left_input at_turn is = (
    is.spot.address,
    (
      is.spot.owners,
      subst (λ heap. Follows pool layout is.spot.address is.spot.owners heap is.spot.world.cells) is.heap_is is.at.follows,
    ),
  )

  -- so it goes on with them
  goes_on : (control : TokenControl) (c : TokenConfiguration) (left_input : List ℕ) (at_turn : AsmTurn World Ending)
      (form : Counted) (environment : Environment) (joins : List CountedJoin)
      → MayStandFor (lowering layout marks code constants functions lowered room fits_room pool depth first input aligned some bytes
      fits) control c left_input at_turn
      → bare_control control ≡ CountedControl.running form environment joins → GoesOn c.heap at_turn
  goes_on (TokenControl.running tokens_code own_environment inner) c left_input at_turn form environment joins (inl is) same = (
    record { frames = left_at is.left is.spot.frame ∷ is.fs; shared = is.spot.world },
    (is.turn_is, has_cells tokens_code own_environment inner c left_input at_turn is),
  )
  goes_on (TokenControl.running tokens_code own_environment inner) c left_input at_turn form environment joins (inr is) same = (
    record { frames = left_at is.left is.spot.frame ∷ is.fs; shared = is.spot.world },
    (is.turn_is, has_cells_behind tokens_code own_environment inner c left_input at_turn is),
  )
  goes_on (TokenControl.stopped by) c left_input at_turn form environment joins is same = cc same
  goes_on TokenControl.stuck c left_input at_turn form environment joins is same = absurd is

  -- where lines of a form's own are left in a function
  line_at : (act : Counted) (tokens_code : Tokened) (heap : Heap) (shape : Shape) (s : Spot) (fs : List (Frame Line))
      (before own after left : List Line) (parts : Parts) → IsInFunction low shape s.frame.function s.frame.whole
      → StandsAt shape.root before (tree tokens_code own parts) → left ≡ own ++ after → s.frame.whole ≡ before ++ left
      → HasCellsOf heap s.world
      → bare tokens_code ≡ act → is_quiet tokens_code ≡ false → is_act act ≡ true
      → ((m : ℕ) → state (lower low) m (turn_of left s.frame fs s.world) ≢ stuck)
      → ComesToLine act heap (turn_of left s.frame fs s.world)
  line_at act tokens_code heap shape s fs before own after left parts within stands left_is place cells same loud does never =
      let f = shape.function in
      let root_is = within.root_is in
      let function = root_is.0 in
      let there = root_is.1.0 in
      let lines = (low.lowered f function there).0 in
      let n = lead own in
      let k = length before + n in
      let way = way_of stands.steps in
      let root_eq : shape.root ≡ program_root layout marks code constants functions lowered lowerable f
      = root_is.1.1
      ∙ root_same layout marks (record { literals = code.texts; constants = constants }) code.functions functions lowered.each f
      function there in
      let acts_so : is_act (bare tokens_code) ≡ true = ap is_act same ∙ does in
      let is_own : is_own_act tokens_code ≡ true = ap (λ b. not b && is_act (bare tokens_code)) loud ∙ acts_so in
      let far = stands.behind in
      let whole : s.frame.whole ≡ lines.code = within.whole_is ∙ ap own_of root_is.1.1 in
      let past = past_copies (record { first = first; texts = constants }) pool depth functions n (left_at left s.frame)
      fs s.world (subst (λ ls. n ≤ lead ls) (sym left_is) (lead_less own after)) never in
      let left_there : left ≡ drop (length before) lines.code
      = sym (drop-append_seam before left) ∙ ap (drop (length before)) (sym place ∙ whole) in
      let it : IsAtLine act heap (state (lower low) n (turn_of left s.frame fs s.world)) = (
        f,
        (
          way,
          (
            record {
              function = bare_function function;
              function_is = bare_at code.functions f function there;
              code_is = ap (λ t. code_at (bare (code_of t)) way) (sym root_is.1.1) ∙ stands.code_is ∙ ap (λ b. Some b) same;
              acts = does;
            },
            (
              k,
              (
                among_own layout marks code constants functions lowered lowerable f way k
                    (among_found way [] 0 k (program_root layout marks code constants functions lowered lowerable f) stands.steps
                    (tree tokens_code own parts)
                    (subst (λ t. Leads t stands.steps (tree tokens_code own parts)) root_eq stands.leads) is_own refl
                    (omega (arith, far))),
                (
                  s.world,
                  (
                    subst (AsmIsAt functions f k s.world) (sym past.there) (
                      lines,
                      (
                        (low.lowered f function there).1,
                        (
                          (
                            past.frame,
                            (
                              fs,
                              (
                                refl,
                                record {
                                  function = past.function ∙ within.number main_first;
                                  whole = past.whole ∙ whole;
                                  left = past.code ∙ ap (drop n) left_there ∙ drop-drop n (length before) lines.code;
                                },
                              ),
                            ),
                          ),
                          refl,
                        ),
                      ),
                    ),
                    cells,
                  ),
                ),
              ),
            ),
          ),
        ),
      )
      in (n, (it, past.silent))

  -- where the code of a turn stands
  at_line : (act : Counted) (tokens_code : Tokened) (environment : Environment) (inner : List TokenJoin) (c : TokenConfiguration)
      (left_input : List ℕ) (at_turn : AsmTurn World Ending)
      → IsAt (lowering layout marks code constants functions lowered room fits_room pool depth first input aligned some bytes fits)
      tokens_code environment inner c left_input at_turn
      → bare tokens_code ≡ act → is_quiet tokens_code ≡ false → is_act act ≡ true
      → ((m : ℕ) → state (lower low) m at_turn ≢ stuck) → ComesToLine act c.heap at_turn
  at_line act tokens_code environment inner c left_input at_turn is same loud does never =
      let p = is.at.does.placed in
      let shape = is.at.shape in
      subst (ComesToLine act c.heap) (sym is.turn_is)
      (line_at act tokens_code c.heap shape is.spot is.fs p.before p.own p.after is.left
      (parts_behind (record {
        layout = layout;
        holds = shape.holds;
        base = shape.variables + shape.slots;
        texts = record { literals = code.texts; constants = constants };
        standing = shape.standing;
      }) shape.variables None is.at.does.goal p.low tokens_code p.own p.high p.lines)
      is.at.has.in_function p.stands p.left_is p.place
      (has_cells tokens_code environment inner c left_input at_turn is) same loud does
      (λ m. subst (λ turn. state (lower low) m turn ≢ stuck) is.turn_is (never m)))

  -- where a turn has gone on in the midst of the lines of a construction
  filling_line : (act : Counted) (tokens_code : Tokened) (environment : Environment) (inner : List TokenJoin) (c :
      TokenConfiguration)
      (left_input : List ℕ) (at_turn : AsmTurn World Ending)
      → (is : IsNear (lowering layout marks code constants functions lowered room fits_room pool depth first input aligned some
      bytes fits) tokens_code environment inner c left_input at_turn)
      → IsFilling (lowering layout marks code constants functions lowered room fits_room pool depth first input aligned some bytes
      fits) tokens_code inner c.frames c.tokens left_input is.spot is.fs is.left
      → bare tokens_code ≡ act → is_act act ≡ true
      → ((m : ℕ) → state (lower low) m at_turn ≢ stuck) → ComesToLine act c.heap at_turn
  filling_line act tokens_code environment inner c left_input at_turn is fills same does never =
      let at = fills.at in
      subst (ComesToLine act c.heap) (sym is.turn_is)
      (line_at act tokens_code c.heap at.shape is.spot is.fs fills.before
      (copies_to (at.shape.variables + fills.y) fills.x ∷ acts (Jump at.does.placed.low) [] ∷ []) fills.after is.left no_part
      at.has.in_function fills.stands fills.left_is fills.place
      (has_cells_behind tokens_code environment inner c left_input at_turn is)
      same (ap is_quiet (sym fills.fill.is)) does
      (λ m. subst (λ turn. state (lower low) m turn ≢ stuck) is.turn_is (never m)))

  -- so each turn that stands for a state at such a form
  at_control : (act : Counted) (environment : Environment) (joins : List CountedJoin) (control : TokenControl)
      (c : TokenConfiguration) (left_input : List ℕ) (at_turn : AsmTurn World Ending)
      → MayStandFor (lowering layout marks code constants functions lowered room fits_room pool depth first input aligned some bytes
      fits) control c left_input at_turn
      → bare_control control ≡ CountedControl.running act environment joins → is_quiet_at control ≡ false → is_act act ≡ true
      → ((m : ℕ) → state (lower low) m at_turn ≢ stuck) → ComesToLine act c.heap at_turn
  at_control act environment joins (TokenControl.running tokens_code own_environment inner) c left_input at_turn (inl stands) same
      loud does never =
      at_line act tokens_code own_environment inner c left_input at_turn stands
      (code_same (bare tokens_code) act own_environment environment _ joins same) loud does never
  at_control act environment joins (TokenControl.running tokens_code own_environment inner) c left_input at_turn (inr behind) same
      loud does never =
      by behind.at.near (code_same (bare tokens_code) act own_environment environment _ joins same)
    where
      by : IsBehind (lowering layout marks code constants functions lowered room fits_room pool depth first input aligned some bytes
          fits) tokens_code inner c.frames c.tokens left_input behind.spot behind.fs behind.left
          ⊎ (GivesUp (lowering layout marks code constants functions lowered room fits_room pool depth first input aligned some
          bytes
          fits) tokens_code inner c.frames c.tokens left_input behind.spot behind.fs behind.left
          ⊎ IsFilling (lowering layout marks code constants functions lowered room fits_room pool depth first input aligned some
          bytes
          fits) tokens_code inner c.frames c.tokens left_input behind.spot behind.fs behind.left)
          → bare tokens_code ≡ act → ComesToLine act c.heap at_turn
      by (inl ahead) is =
          absurd (no_act low behind.spot.environment ahead.x ahead.arms tokens_code ahead.ahead (ap is_act is ∙ does))
      by (inr (inl gives)) is =
          let drops : is_act (bare (Tokened.drop gives.y gives.rest)) ≡ true
          = ap (λ t. is_act (bare t)) (sym gives.code_is) ∙ (ap is_act is ∙ does) in
          absurd (cc drops)
      by (inr (inr fills)) is =
          filling_line act tokens_code own_environment inner c left_input at_turn behind fills is does never
  at_control act environment joins (TokenControl.stopped by) c left_input at_turn stands same loud does never = cc same
  at_control act environment joins TokenControl.stuck c left_input at_turn stands same loud does never = absurd stands

  -- where the assembler's machine begins
  abbrev asm_begin : AsmTurn World Ending
  asm_begin = turn layout marks code constants functions lowered room fits_room pool depth first input aligned some bytes fits

  -- Where the assembler's machine comes to for a state of the counted machine: it stands for a state with tokens that is the same
  -- without them and at a form that the bare form has too, and it has told the same events.
  record Arrives (n : ℕ) : Type 0 where
    state_is : TokenState
    same : bare_configuration state_is.machine ≡ counted_after (roomy_cost room) (bare_setting (setting low)) input n
    loud : is_quiet_at state_is.machine.control ≡ false
    steps : ℕ
    stands : MayStandFor low state_is.machine.control state_is.machine state_is.input
        (state (lower low) steps asm_begin)
    told : trace (lower low) steps asm_begin
        ≡ trace (roomy_outside room (setting_on (bare_program code) pool depth)) n
        (counted_first_state (setting_on (bare_program code) pool depth) input)

  arrives : (n : ℕ) → Arrives n
  arrives n =
      let back = fills layout marks code constants functions lowered room fits_room pool depth first input aligned some bytes
      fits in
      let comes = comes_to_each (roomy_cost room) (setting low) lowered.spends input (λ k. back k) (λ k. (fits k).going) n in
      let come : ComesTo (roomy_cost room) token_cost (setting low) input n = (comes.0, (comes.1.0, (comes.1.1.0, comes.1.1.1))) in
      let begin = start layout marks code constants functions lowered room fits_room pool depth first input aligned some bytes
      fits in
      let machine = tokened layout marks code constants functions lowered room fits_room pool depth first input aligned some bytes
      fits in
      let spare = idle layout marks code constants functions lowered room fits_room pool depth first input aligned some bytes
      fits in
      let m = come.0 in
      let reaches = simulates_many (upper low) (lower low) (Related low) (Passing low) (pace low) (simulates low) m 0 spare begin
      asm_begin
      (related layout marks code constants functions lowered room fits_room pool depth first input aligned some bytes fits) in
      let there = state (lower low) reaches.steps asm_begin in
      let counted = counted_machine (roomy_cost room) (bare_setting (setting low)) in
      record {
        state_is = state machine m begin;
        same = come.1.0;
        loud = come.1.1.1;
        steps = reaches.steps;
        stands = subst (λ (s : TokenState). MayStandFor low s.machine.control s.machine s.input there)
            (seen_states layout marks code constants functions lowered room fits_room pool depth first input aligned some bytes
            fits m)
            reaches.related.stands;
        told = reaches.events_are
            ∙ trace-mapped events_of (λ end. exited (exit_of end)) machine m begin
            ∙ ap (λ notes. flat_map events_of notes) come.1.1.0
            ∙ sym (trace-mapped events_of (λ end. exited (exit_of end)) counted n
            (counted_first_state (bare_setting (setting low)) input));
      }

  -- it goes on with the cells of the counted heap
  pub follows_each_state : FollowsEachState layout (bare_program code) room constants functions lowered.main_lines pool depth first
      input
  follows_each_state n form environment joins control_is =
      let there = arrives n in
      let s = there.state_is in
      let it : GoesOn (counted_after (roomy_cost room) (setting_on (bare_program code) pool depth) input n).heap
      (state (lower low) there.steps asm_begin)
      = subst (λ heap. GoesOn heap (state (lower low) there.steps asm_begin))
      (ap (λ (c : CountedConfiguration). c.heap) there.same)
      (goes_on s.machine.control s.machine s.input (state (lower low) there.steps asm_begin) form environment joins there.stands
      (ap (λ (c : CountedConfiguration). c.control) there.same ∙ control_is))
      in (there.steps, (it.0, (it.1.0, (there.told, it.1.1))))

  -- and at a call, a print or a construction with fields it is at a line of that form
  pub comes_to_its_lines : ComesToItsLines layout (bare_program code) room constants functions lowered.main_lines pool depth first
      input (own_lines layout marks code constants functions lowered lowerable)
  comes_to_its_lines n act environment joins control_is does =
      let there = arrives n in
      let s = there.state_is in
      let begin : AsmTurn World Ending = state (lower low) there.steps asm_begin in
      let runs = runs_the_same layout marks code constants functions lowered room fits_room pool depth first input aligned some bytes
      fits in
      let never : (m : ℕ) → state (lower low) m begin ≢ stuck
      = λ m. subst (λ turn. turn ≢ stuck) (state-add (lower low) there.steps m asm_begin) (runs.never_stuck (there.steps + m)) in
      let comes : ComesToLine act (counted_after (roomy_cost room) (setting_on (bare_program code) pool depth) input n).heap begin
      = subst (λ heap. ComesToLine act heap begin) (ap (λ (c : CountedConfiguration). c.heap) there.same)
      (at_control act environment joins s.machine.control s.machine s.input begin there.stands
      (ap (λ (c : CountedConfiguration). c.control) there.same ∙ control_is) there.loud does never) in
      let more = comes.0 in
      let it : IsAtLine act (counted_after (roomy_cost room) (setting_on (bare_program code) pool depth) input n).heap
      (state (lower low) (there.steps + more) asm_begin)
      = subst (IsAtLine act (counted_after (roomy_cost room) (setting_on (bare_program code) pool depth) input n).heap)
      (sym (state-add (lower low) there.steps more asm_begin)) comes.1.0 in
      let told : trace (lower low) (there.steps + more) asm_begin ≡ trace (lower low) there.steps asm_begin
      = trace-add (lower low) there.steps more asm_begin
      ∙ ap (λ events. trace (lower low) there.steps asm_begin ++ events) comes.1.1
      ∙ append-nil (trace (lower low) there.steps asm_begin)
      in (
        it.0,
        (
          it.1.0,
          (
            it.1.1.0,
            (
              it.1.1.1.0,
              (
                it.1.1.1.1.0,
                (there.steps + more, (it.1.1.1.1.1.0, (it.1.1.1.1.1.1.0, (told ∙ there.told, it.1.1.1.1.1.1.1)))),
              ),
            ),
          ),
        ),
      )
