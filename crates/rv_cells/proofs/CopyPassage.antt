-- The assembler's machine goes past the copies and constants that lines begin with: it stays in its function, and tells nothing.
use Rattle.std.proofs.Common.{◌≡◌, ◌≢◌, ℕ, zero, suc, ◌≤◌, Bool, true, false, cond, List, [], ◌∷◌, ◌++◌, drop, length}
use Rattle.std.proofs.Common.{Option, Some, None, map, option_map}
use Rattle.std.proofs.Common.{refl, sym, ◌∙◌, ap, subst, arith}
use Rattle.std.proofs.Math.Seq.{drop-length}
use Rattle.kk_base.specs.Machines.{Machine, state, trace}
use Rattle.kk_base.specs.Trace.{Event}
use Rattle.cell_heap.specs.Pool.{Pool}
use Rattle.rv_isa.specs.declared.asm.Action.TheVariants.{Compute}
use Rattle.rv_isa.specs.declared.asm.Operation.TheVariants.{Mv, Li, La}
use Rattle.rv_isa.specs.AsmCode.{Line, Lines}
use Rattle.rv_isa.specs.AsmMachine.{AsmTurn, asm_goes, asm_acts, asm_line, asm_next, asm_told, asm_machine}
use Rattle.rv_isa.specs.Frames.{Frame, put_into, all_of}
use Rattle.rv_isa.specs.declared.asm.Action.{Action}
use Rattle.rv_isa.specs.Primitives.{Turn, stuck, or_stuck}
use Rattle.rv_isa.specs.Processor.{Ending}
use Rattle.cell_runtime.specs.Operations.{Constants, computed}
use Rattle.cell_runtime.specs.World.{World, primitives}
use Rattle.rv_cells.proofs.FormArities.{makes_word, lead}

-- where nothing is stuck, a value that is gone on with is there
some_there : {A S H W : Type 0} (o : Option A) (next : A → Turn S H W) → or_stuck o next ≢ stuck
    → (a : A) × (or_stuck o next ≡ next a)
some_there None next good = absurd (good refl)
some_there (Some a) next good = (a, refl)

-- lines that begin with so many such lines begin with one, and the others with one less
lead_copy : (copy : Bool) (n rest : ℕ) → suc n ≤ cond copy (suc rest) 0 → (copy ≡ true) × (n ≤ rest)
lead_copy true n rest few = (refl, omega arith)
lead_copy false n rest few = absurd (omega arith)

module _ (constants : Constants) (pool : Pool) (depth : ℕ) (functions : List Lines) where
  abbrev machine : Machine (AsmTurn World Ending) Event Ending
  machine = asm_machine (primitives constants pool) depth functions

  abbrev next : AsmTurn World Ending → AsmTurn World Ending
  next turn = asm_next (primitives constants pool) depth functions turn

  -- a turn goes on in a frame of the same function, with these lines left
  record GoesOn (f : Frame Line) (left : List Line) (fs : List (Frame Line)) (world : World) (turn : AsmTurn World Ending)
      : Type 0 where
    frame : Frame Line
    is : turn ≡ asm_goes frame fs world
    function : frame.function ≡ f.function
    whole : frame.whole ≡ f.whole
    code : frame.code ≡ left

  -- the frame goes on with the lines left and a word that is made, if it is there
  abbrev goes_with : Frame Line → List (Frame Line) → World → Option ℕ → List Line → Option ℕ → AsmTurn World Ending
  goes_with f fs world into rest word = or_stuck {A = ℕ × World} (option_map (λ w. (w, world)) word)
      (λ r. asm_goes (record f { code = rest; cells = put_into into r.0 f.cells }) fs r.1)

  made : (f : Frame Line) (fs : List (Frame Line)) (world : World) (into : Option ℕ) (rest : List Line) (word : Option ℕ)
      → goes_with f fs world into rest word ≢ stuck → GoesOn f rest fs world (goes_with f fs world into rest word)
  made f fs world into rest None good = absurd (good refl)
  made f fs world into rest (Some word) good = record { frame = _; is = refl; function = refl; whole = refl; code = refl }

  passed_by : (f : Frame Line) (fs : List (Frame Line)) (world : World) (args : List ℕ) (into : Option ℕ) (rest : List Line) (words : List ℕ)
      (action : Action) → makes_word action ≡ true
      → asm_acts (primitives constants pool) depth functions (record f { code = rest }) fs world action args into words ≢ stuck
      → GoesOn f rest fs world (asm_acts (primitives constants pool) depth functions (record f { code = rest }) fs world action args into words)
  passed_by f fs world args into rest words (Compute Mv) makes good = made f fs world into rest (computed constants Mv words) good
  passed_by f fs world args into rest words (Compute (Li word)) makes good = made f fs world into rest (computed constants (Li word) words) good
  passed_by f fs world args into rest words (Compute (La index)) makes good = made f fs world into rest (computed constants (La index) words) good
  passed_by f fs world args into rest words action makes good = cc makes

  by_line : (f : Frame Line) (fs : List (Frame Line)) (world : World) (line : Line) (rest : List Line) → makes_word line.action ≡ true
      → asm_line (primitives constants pool) depth functions f fs world (line ∷ rest) ≢ stuck
      → GoesOn f rest fs world (asm_line (primitives constants pool) depth functions f fs world (line ∷ rest))
  by_line f fs world line rest makes good =
      let acts : List ℕ → AsmTurn World Ending = λ words. asm_acts (primitives constants pool) depth functions
      (record f { code = rest }) fs world line.action line.args line.into words in
      let there = some_there (all_of (map f.cells line.args)) acts good in
      subst (GoesOn f rest fs world) (sym there.1)
      (passed_by f fs world line.args line.into rest there.0 line.action makes (subst (λ turn. turn ≢ stuck) there.1 good))

  -- Behind copies and constants: the machine has told nothing.
  pub record Past (n : ℕ) (f : Frame Line) (fs : List (Frame Line)) (world : World) : Type 0 where
    pub frame : Frame Line
    pub there : state machine n (asm_goes f fs world) ≡ asm_goes frame fs world
    pub function : frame.function ≡ f.function
    pub whole : frame.whole ≡ f.whole
    pub code : frame.code ≡ drop n f.code
    pub silent : trace machine n (asm_goes f fs world) ≡ []

  pub past_copies : (n : ℕ) (f : Frame Line) (fs : List (Frame Line)) (world : World) → n ≤ lead f.code
      → ((k : ℕ) → state machine k (asm_goes f fs world) ≢ stuck) → Past n f fs world
  past_copies zero f fs world few never =
      record { frame = f; there = refl; function = refl; whole = refl; code = refl; silent = refl }
  past_copies (suc n) f fs world few never = by f.code refl few (λ g less goes. past_copies n g fs world less goes)
    where
      by : (left : List Line) → f.code ≡ left → suc n ≤ lead left
          → ((g : Frame Line) → n ≤ lead g.code → ((k : ℕ) → state machine k (asm_goes g fs world) ≢ stuck) → Past n g fs world)
          → Past (suc n) f fs world
      by [] is few others = absurd (omega arith)
      by (line ∷ rest) is few others =
          let both = lead_copy (makes_word line.action) n (lead rest) few in
          let same : next (asm_goes f fs world) ≡ asm_line (primitives constants pool) depth functions f fs world (line ∷ rest)
          = ap (asm_line (primitives constants pool) depth functions f fs world) is in
          let one = subst (GoesOn f rest fs world) (sym same)
          (by_line f fs world line rest both.0 (subst (λ turn. turn ≢ stuck) same (never 1))) in
          let later = others one.frame (subst (λ left. n ≤ lead left) (sym one.code) both.1)
          (λ k. subst (λ turn. state machine k turn ≢ stuck) one.is (never (suc k))) in
          let none : drop (length world.trace) (asm_told (primitives constants pool) (next (asm_goes f fs world))) ≡ []
          = ap (λ turn. drop (length world.trace) (asm_told (primitives constants pool) turn)) one.is ∙ drop-length world.trace in
          record {
            frame = later.frame;
            there = ap (state machine n) one.is ∙ later.there;
            function = later.function ∙ one.function;
            whole = later.whole ∙ one.whole;
            code = later.code ∙ ap (drop n) one.code ∙ sym (ap (drop (suc n)) is);
            silent = ap (λ events. events ++ trace machine n (next (asm_goes f fs world))) none
                ∙ (ap (trace machine n) one.is ∙ later.silent);
          }
