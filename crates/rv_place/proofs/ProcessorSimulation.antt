-- The processor simulates the machine of the placed form: line by line, and so step by step.
use Rattle.std.proofs.Common.{◌≡◌, ◌≢◌, ◌≤◌, ℕ, suc, ◌+◌, ◌*◌, List, [], ◌∷◌, length, drop, Option, Some, None, Bool, true, false, cond, map, refl, sym, ap, ◌∙◌, subst, arith}
use Rattle.kk_base.specs.Memory.{Part}
use Rattle.kk_base.specs.Simulations.{Reaches, Simulates}
use Rattle.kk_base.proofs.Simulations.{ended_reaches}
use Rattle.rv_isa.specs.declared.asm.Action.{Action}
use Rattle.rv_isa.specs.declared.asm.Action.TheVariants.{Compute, Label, Jump, Branch, Call, TailCall, Return, Routine, Hold, Unhold, Room}
use Rattle.rv_isa.specs.declared.placed.Operand.{Operand}
use Rattle.rv_isa.specs.declared.placed.Listed.{Listed}
use Rattle.rv_isa.specs.PlacedCode.{PlacedLine, does, moves, PlacedLines, from_of, to_of}
use Rattle.rv_isa.specs.Conventions.{conforms}
use Rattle.rv_isa.specs.Costs.{instructions_of, operation_instructions}
use Rattle.rv_isa.specs.Primitives.{Turn, go, ended, stuck, or_stuck, end_of}
use Rattle.rv_isa.specs.Frames.{Frame, all_of, top}
use Rattle.rv_isa.specs.PlacedMachine.{PlacedTurn, is_held, read_at, awaited, placed_writes, placed_acts, placed_line, placed_running, placed_next, placed_told, placed_line_weight, placed_frames_weight, placed_weight, placed_machine}
use Rattle.rv_isa.specs.Processor.{Processor, Ending, Progress, goes}
use Rattle.rv_isa.specs.ProcessorMachine as OfProcessor
use Rattle.rv_isa.specs.ProcessorMachine.{processor_machine}
use Rattle.rv_isa.specs.Execution.{rv32im}
use Rattle.rv_isa.specs.Standing.{Code}
use Rattle.cell_heap.specs.Pool.{Pool}
use Rattle.cell_runtime.specs.World.{World, primitives}
use Rattle.rv_place.specs.Addresses.{is_silent, words_of_action, words_of_line}
use Rattle.rv_place.specs.Lines.{Map, ReturnsBy}
use Rattle.rv_place.specs.declared.reach.Forms.{Forms}
use Rattle.rv_place.specs.Grounds.{Ground}
use Rattle.rv_place.specs.ProcessorStates.{AllPlain, most_lines, Running, lines_left, NeverStuck, Related, Passing}
use Rattle.rv_place.proofs.ProcessorSteps.{reaches}
use Rattle.rv_place.proofs.CodeLines.{line_at, line_plain, line_takes, goes_behind}
use Rattle.rv_place.proofs.LineOutcomes.{or_stuck_some, Comes}
use Rattle.rv_place.proofs.TargetRegisters.{move_target, gives_target, gives_somewhere}
use Rattle.rv_place.proofs.MoveSimulation.{follow_label, follow_silent, follow_move}
use Rattle.rv_place.proofs.CellSimulation.{follow_compute}
use Rattle.rv_place.proofs.JumpSimulation.{follow_jump, follow_branch, follow_tail_call, follow_room, follow_call, follow_return}
use Rattle.rv_place.proofs.RoutineActions.{follow_routine}
use Rattle.rv_place.proofs.TokenSimulation.{follow_hold, follow_unhold}

cond_true : {S H W : Type 0} (test : Bool) (next turn : Turn S H W) → cond test next stuck ≡ turn → turn ≢ stuck → (test ≡ true) × (next ≡ turn)
cond_true true next turn is good = (refl, is)
cond_true false next turn is good = absurd (good (sym is))

cond_false : {S H W : Type 0} (test : Bool) (next turn : Turn S H W) → cond test stuck next ≡ turn → turn ≢ stuck → (test ≡ false) × (next ≡ turn)
cond_false true next turn is good = absurd (good (sym is))
cond_false false next turn is good = (refl, is)

module _ {map_of : Map} {pool : Pool} {functions : List PlacedLines} {depth buffer stop : ℕ} {code : Code} {parts : List Part} (ground : Ground map_of pool functions depth buffer stop code parts) (plain : AllPlain functions) where
  -- more instructions may be taken
  comes_within : {most old : ℕ} {turn : PlacedTurn World Ending} {s : Processor} (more : ℕ) → most ≤ more → Comes map_of pool functions depth stop code parts most old turn s → Comes map_of pool functions depth stop code parts more old turn s
  comes_within more less comes = record {
    steps = comes.steps;
    after = comes.after;
    runs = comes.runs;
    stands_for = comes.stands_for;
    told = comes.told;
    within = (let within = comes.within in omega arith);
    moves = comes.moves;
    passes = comes.passes;
  }

  module _ (f : Frame PlacedLine) (fs : List (Frame PlacedLine)) (known : ℕ → Option ℕ) (world : World) (s : Processor)
      (running : Running map_of pool functions depth stop code parts (record { frames = f ∷ fs; registers = known; shared = world }) s) (rest : List PlacedLine) where
    module _ (alive : List Listed) (args : List Operand) (into : Option Operand) (words : List ℕ) (words_are : all_of (map (λ (arg : Operand). read_at known f.cells arg.place) args) ≡ Some words) (turn : PlacedTurn World Ending) (good : turn ≢ stuck) where
      -- an action that is not silent has the instructions of its own
      loud_words : (action : Action) → is_silent action args into ≡ false
          → s.pc + 4 * words_of_line running.frames.0.forms (does alive action args into) ≡ s.pc + 4 * words_of_action running.frames.0.forms action args
      loud_words action loud = ap (λ silent. s.pc + 4 * cond silent 0 (words_of_action running.frames.0.forms action args)) loud

      -- what an action does
      follow_action : (action : Action) → f.code ≡ does alive action args into ∷ rest → conforms action args into ≡ true
          → is_silent action args into ≡ false → placed_acts (primitives map_of.constants pool) depth functions (record f { code = rest }) fs known world action args into words ≡ turn
          → Comes map_of pool functions depth stop code parts (instructions_of (primitives map_of.constants pool) action (Some words) (top (f ∷ fs)) world) (suc (length rest)) turn s
      follow_action (Compute operation) code_is conform loud is =
          let line = does alive (Compute operation) args into in
          let writes = line_plain running.frames.0 line rest code_is in
          comes_within (operation_instructions operation + 0) (omega arith)
          (follow_compute ground f fs known world s running rest (suc (length rest)) operation (line_takes running.frames.0 line rest code_is) (λ next next_is below. goes_behind running.frames.0 line rest code_is next (record f { code = rest }) refl refl refl
          (loud_words (Compute operation) loud ∙ next_is) below)
          running.frames.0.forms running.frames.0.start args into words turn (line_at running.frames.0 line rest code_is loud) conform (gives_target (Compute operation) args into writes.0 loud)
          (gives_somewhere (Compute operation) args into loud) words_are is good)
      follow_action (Label l) code_is conform loud is =
          let line = does alive (Label l) args into in
          let here : s.pc + 4 * words_of_line running.frames.0.forms line ≡ s.pc
          = loud_words (Label l) loud ∙ omega arith in
          subst (λ t. Comes map_of pool functions depth stop code parts 0 (suc (length rest)) t s) is
          (follow_label ground f fs known world s running rest (suc (length rest)) (goes_behind running.frames.0 line rest code_is s.pc (record f { code = rest }) refl refl refl here running.frames.0.below) (omega arith))
      follow_action (Jump l) code_is conform loud is =
          follow_jump ground f fs known world s running rest (suc (length rest)) l args into words turn (line_at running.frames.0 (does alive (Jump l) args into) rest code_is loud) is good
      follow_action (Branch condition l) code_is conform loud is =
          let line = does alive (Branch condition l) args into in
          let writes = line_plain running.frames.0 line rest code_is in
          follow_branch ground f fs known world s running rest (suc (length rest)) (λ next next_is below. goes_behind running.frames.0 line rest code_is next (record f { code = rest }) refl refl refl (loud_words (Branch condition l) loud ∙ next_is) below) condition l
          args into words turn (line_at running.frames.0 line rest code_is loud) writes.1 conform words_are is good
      follow_action (Call g) code_is conform loud is =
          let line = does alive (Call g) args into in
          follow_call ground plain f fs known world s running rest (suc (length rest)) running.frames.0.forms (line_takes running.frames.0 line rest code_is refl) g args into words running.frames.0.start turn
          (λ next next_is below. goes_behind running.frames.0 line rest code_is next (record f { code = rest; into = awaited into }) refl refl refl (loud_words (Call g) loud ∙ next_is) below) (line_at running.frames.0 line rest code_is loud) conform words_are is good
      follow_action (TailCall g) code_is conform loud is =
          follow_tail_call ground plain f fs known world s running rest (suc (length rest)) running.frames.0.forms g args into words running.frames.0.start turn
          (ap (λ (forms : Forms). forms.jumps) running.frames.0.forms_are) (ap (λ (forms : Forms). forms.frame) running.frames.0.forms_are) (line_at running.frames.0 (does alive (TailCall g) args into) rest code_is loud) conform words_are is good
      follow_action Return code_is conform loud is =
          follow_return ground f known world s (suc (length rest))
          (subst (λ frame. ReturnsBy frame map_of code s.pc) (ap (λ (forms : Forms). forms.frame) running.frames.0.forms_are) (line_at running.frames.0 (does alive Return args into) rest code_is loud)) fs rest args into words turn running conform words_are is good
      follow_action (Routine routine) code_is conform loud is =
          let line = does alive (Routine routine) args into in
          follow_routine ground f fs known world s running rest (suc (length rest)) running.frames.0.forms (line_takes running.frames.0 line rest code_is refl) routine
          (λ next next_is below. goes_behind running.frames.0 line rest code_is next (record f { code = rest }) refl refl refl (loud_words (Routine routine) loud ∙ next_is) below) into turn good
          running.frames.0.start args words (line_at running.frames.0 line rest code_is loud) conform words_are is
      follow_action Hold code_is conform loud is =
          let line = does alive Hold args into in
          follow_hold ground f fs known world s running rest (suc (length rest)) (line_takes running.frames.0 line rest code_is refl) args into words turn good words_are
          (ap (λ (forms : Forms). forms.jumps) running.frames.0.forms_are)
          (λ next next_is below. goes_behind running.frames.0 line rest code_is next (record f { code = rest }) refl refl refl (loud_words Hold loud ∙ next_is) below) conform (line_at running.frames.0 line rest code_is loud) is
      follow_action Unhold code_is conform loud is =
          let line = does alive Unhold args into in
          let writes = line_plain running.frames.0 line rest code_is in
          follow_unhold ground f fs known world s running rest (suc (length rest)) (line_takes running.frames.0 line rest code_is refl) args into words turn good words_are
          (λ next next_is below. goes_behind running.frames.0 line rest code_is next (record f { code = rest }) refl refl refl (loud_words Unhold loud ∙ next_is) below)
          conform (gives_target Unhold args into writes.0 loud) (line_at running.frames.0 line rest code_is loud) is
      follow_action Room code_is conform loud is =
          let line = does alive Room args into in
          subst (λ t. Comes map_of pool functions depth stop code parts 4 (suc (length rest)) t s) is
          (follow_room ground plain f fs known world s running rest (suc (length rest)) running.frames.0.forms (line_takes running.frames.0 line rest code_is refl)
          (ap (λ (forms : Forms). forms.jumps) running.frames.0.forms_are) (line_at running.frames.0 line rest code_is loud)
          (λ next next_is below. goes_behind running.frames.0 line rest code_is next (record f { code = rest }) refl refl refl (loud_words Room loud ∙ next_is) below))

      -- or what it does without an instruction
      follow_statement : (silent : Bool) (action : Action) → is_silent action args into ≡ silent → f.code ≡ does alive action args into ∷ rest → conforms action args into ≡ true
          → placed_acts (primitives map_of.constants pool) depth functions (record f { code = rest }) fs known world action args into words ≡ turn
          → Comes map_of pool functions depth stop code parts (instructions_of (primitives map_of.constants pool) action (Some words) (top (f ∷ fs)) world) (suc (length rest)) turn s
      follow_statement true action silent code_is conform is =
          let line = does alive action args into in
          let same : s.pc + 4 * 0 ≡ s.pc = omega arith in
          let here : s.pc + 4 * words_of_line running.frames.0.forms line ≡ s.pc
          = ap (λ quiet. s.pc + 4 * cond quiet 0 (words_of_action running.frames.0.forms action args)) silent ∙ same in
          comes_within (instructions_of (primitives map_of.constants pool) action (Some words) (top (f ∷ fs)) world) (omega arith)
          (follow_silent ground f fs known world s running rest (suc (length rest)) action args into words turn silent
          (goes_behind running.frames.0 line rest code_is s.pc (record f { code = rest }) refl refl refl here running.frames.0.below) (omega arith) words_are is good)
      follow_statement false action loud code_is conform is = follow_action action code_is conform loud is

    follow_line : (line : PlacedLine) (turn : PlacedTurn World Ending) → f.code ≡ line ∷ rest → placed_line (primitives map_of.constants pool) depth functions f fs known world (line ∷ rest) ≡ turn → turn ≢ stuck
        → Comes map_of pool functions depth stop code parts (placed_line_weight (primitives map_of.constants pool) (f ∷ fs) known world f (line ∷ rest)) (suc (length rest)) turn s
    follow_line (does alive action args into) turn code_is is good =
        let words_of : Option (List ℕ) = all_of (map (λ (arg : Operand). read_at known f.cells arg.place) args) in
        let conform = cond_true (conforms action args into) (or_stuck words_of (λ words. placed_acts (primitives map_of.constants pool) depth functions (record f { code = rest }) fs known world action args into words)) turn is good in
        let words = or_stuck_some words_of (λ words. placed_acts (primitives map_of.constants pool) depth functions (record f { code = rest }) fs known world action args into words) turn conform.1 good in
        subst (λ o. Comes map_of pool functions depth stop code parts (instructions_of (primitives map_of.constants pool) action o (top (f ∷ fs)) world) (suc (length rest)) turn s) (sym words.1)
        (follow_statement alive args into words.0 words.1 turn good (is_silent action args into) action refl code_is conform.0 words.2)
    follow_line (moves alive value way) turn code_is is good =
        let line = moves alive value way in
        let next = cond_false (is_held f.held (to_of way)) (placed_writes (to_of way) (read_at known f.cells (from_of way)) (record f { code = rest }) fs known world) turn is good in
        subst (λ t. Comes map_of pool functions depth stop code parts 1 (suc (length rest)) t s) next.1
        (follow_move ground f fs known world s running rest (suc (length rest)) (λ cells next next_is below. goes_behind running.frames.0 line rest code_is next (record f { code = rest; cells = cells }) refl refl refl next_is below)
        way (line_takes running.frames.0 line rest code_is) (line_at running.frames.0 line rest code_is) (move_target (to_of way) (line_plain running.frames.0 line rest code_is)) next.0)

  -- ---- one step

  follow_code : (f : Frame PlacedLine) (fs : List (Frame PlacedLine)) (known : ℕ → Option ℕ) (world : World) (s : Processor) (lines : List PlacedLine)
      → Running map_of pool functions depth stop code parts (record { frames = f ∷ fs; registers = known; shared = world }) s → f.code ≡ lines
      → placed_line (primitives map_of.constants pool) depth functions f fs known world lines ≢ stuck
      → Comes map_of pool functions depth stop code parts (placed_line_weight (primitives map_of.constants pool) (f ∷ fs) known world f lines) (length lines) (placed_line (primitives map_of.constants pool) depth functions f fs known world lines) s
  follow_code f fs known world s [] running code_is good = absurd (good refl)
  follow_code f fs known world s (line ∷ rest) running code_is good =
      follow_line f fs known world s running rest line (placed_line (primitives map_of.constants pool) depth functions f fs known world (line ∷ rest)) code_is refl good

  follows : (frames : List (Frame PlacedLine)) (known : ℕ → Option ℕ) (world : World) (s : Processor) → Running map_of pool functions depth stop code parts (record { frames = frames; registers = known; shared = world }) s
      → placed_running (primitives map_of.constants pool) depth functions frames known world ≢ stuck
      → Comes map_of pool functions depth stop code parts (placed_frames_weight (primitives map_of.constants pool) frames known world) (lines_left frames) (placed_running (primitives map_of.constants pool) depth functions frames known world) s
  follows [] known world s running good = absurd (good refl)
  follows (f ∷ fs) known world s running good = follow_code f fs known world s f.code running refl good

  -- ---- the simulation

  -- a run that has ended passes nothing
  ended_passes : (how : Ending) (progress : Progress) → OfProcessor.ended progress.ending ≡ Some how → Passing map_of pool progress
  ended_passes how progress is going outside = let none : None ≡ Some how = sym (ap OfProcessor.ended going) ∙ is in cc

  reaches_next : (most credit idle old : ℕ) (before : PlacedTurn World Ending) (next : PlacedTurn World Ending) (s : Processor) → Comes map_of pool functions depth stop code parts most old next s → 3 ≤ credit → old ≤ idle → NeverStuck map_of pool functions depth next
      → placed_told (primitives map_of.constants pool) before ≡ s.trace
      → Reaches (processor_machine rv32im) (Related map_of pool functions depth stop code parts) (Passing map_of pool) (suc (most_lines functions)) (most + credit) 1 idle
      (drop (length (placed_told (primitives map_of.constants pool) before)) (placed_told (primitives map_of.constants pool) next)) next (goes s)
  reaches_next most credit idle old before (go t) s comes saved left never told =
      let within = comes.within in
      let moves = comes.moves in
      reaches (Related map_of pool functions depth stop code parts) (Passing map_of pool) (suc (most_lines functions)) (most + credit) idle comes.steps credit (lines_left t.frames) s comes.after (placed_told (primitives map_of.constants pool) before) (placed_told (primitives map_of.constants pool) (go t)) (go t)
      comes.runs told comes.told (omega arith) (omega arith) comes.passes (never, comes.stands_for credit (lines_left t.frames) saved (omega arith))
  reaches_next most credit idle old before (ended how world) s comes saved left never told =
      let within = comes.within in
      let moves = comes.moves in
      reaches (Related map_of pool functions depth stop code parts) (Passing map_of pool) (suc (most_lines functions)) (most + credit) idle comes.steps 0 0 s comes.after (placed_told (primitives map_of.constants pool) before) (placed_told (primitives map_of.constants pool) (ended how world)) (ended how world)
      comes.runs told comes.told (omega arith) (omega arith) comes.passes (never, comes.stands_for 3 0 (omega arith) (omega arith))
  reaches_next most credit idle old before stuck s comes saved left never told = absurd (never 0 refl)

  steps_by : (credit idle : ℕ) (turn : PlacedTurn World Ending) (progress : Progress) → Related map_of pool functions depth stop code parts credit idle turn progress
      → Reaches (processor_machine rv32im) (Related map_of pool functions depth stop code parts) (Passing map_of pool) (suc (most_lines functions)) ((placed_machine (primitives map_of.constants pool) depth functions).weight turn + credit) 1 idle
      ((placed_machine (primitives map_of.constants pool) depth functions).step turn).0 ((placed_machine (primitives map_of.constants pool) depth functions).step turn).1 progress
  steps_by credit idle (go t) progress (never, (s, progress_is, saved, left, running)) =
      subst (λ p. Reaches (processor_machine rv32im) (Related map_of pool functions depth stop code parts) (Passing map_of pool) (suc (most_lines functions)) (placed_weight (primitives map_of.constants pool) (go t) + credit) 1 idle
      (drop (length (placed_told (primitives map_of.constants pool) (go t))) (placed_told (primitives map_of.constants pool) (placed_next (primitives map_of.constants pool) depth functions (go t)))) (placed_next (primitives map_of.constants pool) depth functions (go t)) p) (sym progress_is)
      (reaches_next (placed_weight (primitives map_of.constants pool) (go t)) credit idle (lines_left t.frames) (go t) (placed_next (primitives map_of.constants pool) depth functions (go t)) s
      (follows t.frames t.registers t.shared s running (never 1)) saved left (λ n. never (suc n)) (sym running.trace))
  steps_by credit idle (ended how world) progress related =
      ended_reaches (placed_machine (primitives map_of.constants pool) depth functions) (processor_machine rv32im) (Related map_of pool functions depth stop code parts) (Passing map_of pool) (suc (most_lines functions)) credit idle (ended how world) progress how
      (omega arith) related refl related.1.0 (ended_passes how progress related.1.0)
  steps_by credit idle stuck progress related = absurd related.1

  ends_alike : (credit idle : ℕ) (turn : PlacedTurn World Ending) (progress : Progress) → Related map_of pool functions depth stop code parts credit idle turn progress → OfProcessor.ended progress.ending ≡ end_of turn
  ends_alike credit idle (go t) progress (never, (s, progress_is, saved, left, running)) = ap (λ (p : Progress). OfProcessor.ended p.ending) progress_is
  ends_alike credit idle (ended how world) progress related = related.1.0
  ends_alike credit idle stuck progress related = absurd related.1

  pub simulates : Simulates (placed_machine (primitives map_of.constants pool) depth functions) (processor_machine rv32im) (Related map_of pool functions depth stop code parts) (Passing map_of pool) (suc (most_lines functions))
  simulates = record { by = steps_by; alike = ends_alike }
