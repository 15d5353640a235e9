-- The copies of lines that go straight on, which a machine passes before it comes to what stands behind them.
use Rattle.std.proofs.Common.{◌≡◌, ◌≢◌, ℕ, suc, List, [], ◌∷◌, ◌++◌, Option, Some, None, Bool, true, false, cond, map}
use Rattle.std.proofs.Common.{length, drop, refl, sym, ap, ◌∙◌, subst}
use Rattle.std.proofs.Math.Seq.{drop-length}
use Rattle.kk_base.specs.Machines.{trace, state}
use Rattle.rv_isa.specs.declared.asm.Action.{Action}
use Rattle.rv_isa.specs.declared.asm.Action.TheVariants.{Compute, Label, Jump, Branch, Call, TailCall, Return, Routine, Hold}
use Rattle.rv_isa.specs.declared.asm.Action.TheVariants.{Unhold, Room}
use Rattle.rv_isa.specs.declared.placed.Operand.{Operand}
use Rattle.rv_isa.specs.Conventions.{conforms}
use Rattle.rv_isa.specs.Frames.{Frame, all_of}
use Rattle.rv_isa.specs.PlacedCode.{PlacedLine, does, moves, PlacedLines, from_of, to_of}
use Rattle.rv_isa.specs.PlacedMachine.{PlacedState, PlacedTurn, read_at, registers_with, slots_with, is_held}
use Rattle.rv_isa.specs.PlacedMachine.{placed_writes, unless_lost, placed_gives, placed_acts, placed_line, placed_next, placed_told}
use Rattle.rv_isa.specs.PlacedMachine.{placed_machine}
use Rattle.rv_isa.specs.Primitives.{Primitives, go, stuck, or_stuck}
use Rattle.rv_loops.specs.Rotation.{ComputesAlone, is_straight_action, is_straight, AreStraight}
use Rattle.rv_loops.specs.Relation.{NeverStuck}

-- A turn goes on in the same function as a frame, with this code and over the same older frames, and shares this.
pub record IsOn {H W : Type 0} (g : Frame PlacedLine) (gs : List (Frame PlacedLine)) (shared : H) (rest : List PlacedLine)
    (turn : PlacedTurn H W) : Type 0 where
  pub frame : Frame PlacedLine
  pub registers : ℕ → Option ℕ
  pub is : turn ≡ go (record { frames = frame ∷ gs; registers = registers; shared = shared })
  pub function : frame.function ≡ g.function
  pub whole : frame.whole ≡ g.whole
  pub code : frame.code ≡ rest

module _ {H E W : Type 0} (m : Primitives H E W) (alone : ComputesAlone m) (depth : ℕ) (q : List PlacedLines) where
  -- ---- one line

  module _ (g : Frame PlacedLine) (gs : List (Frame PlacedLine)) (known : ℕ → Option ℕ) (shared : H) (rest : List PlacedLine) where
    abbrev on : Frame PlacedLine
    on = record g { code = rest }

    gives_next : (into : Option Operand) (word : ℕ) → IsOn {W = W} g gs shared rest (placed_gives into word on gs known shared)
    gives_next None word = record { frame = on; registers = known; is = refl; function = refl; whole = refl; code = refl }
    gives_next (Some into) word = record {
      frame = record on { cells = slots_with into.place (Some word) g.cells };
      registers = registers_with into.place (Some word) known;
      is = refl;
      function = refl;
      whole = refl;
      code = refl;
    }

    acts_next : (action : Action) (args : List Operand) (into : Option Operand) (words : List ℕ)
        → is_straight_action action ≡ true → placed_acts m depth q on gs known shared action args into words ≢ stuck
        → IsOn g gs shared rest (placed_acts m depth q on gs known shared action args into words)
    acts_next (Compute operation) args into words straight good = by (m.compute operation words shared) refl good
      where
        by : (o : Option (ℕ × H)) → m.compute operation words shared ≡ o
            → or_stuck {W = W} o (λ r. placed_gives (unless_lost (Compute operation) into) r.0 on gs known r.1) ≢ stuck
            → IsOn {W = W} g gs shared rest
            (or_stuck o (λ r. placed_gives (unless_lost (Compute operation) into) r.0 on gs known r.1))
        by None is good = absurd (good refl)
        by (Some r) is good =
            subst (λ (h : H). IsOn {W = W} g gs shared rest (placed_gives (unless_lost (Compute operation) into) r.0 on gs known h))
            (sym (alone operation words shared r straight is)) (gives_next (unless_lost (Compute operation) into) r.0)
    acts_next (Label l) args into words straight good = gives_next None 0
    acts_next (Jump l) args into words straight good = cc straight
    acts_next (Branch condition l) args into words straight good = cc straight
    acts_next (Call callee) args into words straight good = cc straight
    acts_next (TailCall callee) args into words straight good = cc straight
    acts_next Return args into words straight good = cc straight
    acts_next (Routine routine) args into words straight good = cc straight
    acts_next Hold args into words straight good = cc straight
    acts_next Unhold args into words straight good = cc straight
    acts_next Room args into words straight good = cc straight

    -- a line that goes straight on leads to what stands behind it
    straight_next : (line : PlacedLine) → is_straight line ≡ true → placed_line m depth q g gs known shared (line ∷ rest) ≢ stuck
        → IsOn g gs shared rest (placed_line m depth q g gs known shared (line ∷ rest))
    straight_next (does alive action args into) straight good =
        by (conforms action args into) (all_of (map (λ (arg : Operand). read_at known g.cells arg.place) args)) good
      where
        by : (fit : Bool) (o : Option (List ℕ))
            → cond fit (or_stuck o (λ words. placed_acts m depth q on gs known shared action args into words)) stuck ≢ stuck
            → IsOn g gs shared rest (cond fit (or_stuck o (λ words. placed_acts m depth q on gs known shared action args into
            words)) stuck)
        by false o good = absurd (good refl)
        by true None good = absurd (good refl)
        by true (Some words) good = acts_next action args into words straight good
    straight_next (moves alive value way) straight good = by (is_held g.held (to_of way)) good
      where
        word : Option ℕ
        word = read_at known g.cells (from_of way)

        by : (held : Bool) → cond {A = PlacedTurn H W} held stuck (placed_writes (to_of way) word on gs known shared) ≢ stuck
            → IsOn {W = W} g gs shared rest (cond held stuck (placed_writes (to_of way) word on gs known shared))
        by true good = absurd (good refl)
        by false good = record {
          frame = record on { cells = slots_with (to_of way) word g.cells };
          registers = registers_with (to_of way) word known;
          is = refl;
          function = refl;
          whole = refl;
          code = refl;
        }

  -- ---- many

  -- by some steps that tell nothing a turn comes to one that is on
  pub record Passes (g : Frame PlacedLine) (gs : List (Frame PlacedLine)) (shared : H) (rest : List PlacedLine)
      (turn : PlacedTurn H W) : Type 0 where
    pub steps : ℕ
    pub silent : trace (placed_machine m depth q) steps turn ≡ []
    pub there : IsOn g gs shared rest (state (placed_machine m depth q) steps turn)

  -- lines that go straight on are passed
  pub passes_straight : (lines rest : List PlacedLine) (g : Frame PlacedLine) (gs : List (Frame PlacedLine)) (known : ℕ → Option ℕ)
      (shared : H) → AreStraight lines → g.code ≡ lines ++ rest
      → NeverStuck m depth q (go (record { frames = g ∷ gs; registers = known; shared = shared }))
      → Passes g gs shared rest (go (record { frames = g ∷ gs; registers = known; shared = shared }))
  passes_straight [] rest g gs known shared straight at never = record {
    steps = 0;
    silent = refl;
    there = record { frame = g; registers = known; is = refl; function = refl; whole = refl; code = at };
  }
  passes_straight (line ∷ lines) rest g gs known shared straight at never =
      let t : PlacedState H = record { frames = g ∷ gs; registers = known; shared = shared } in
      let here : placed_next m depth q (go t) ≡ placed_line m depth q g gs known shared (line ∷ (lines ++ rest))
      = ap (placed_line m depth q g gs known shared) at in
      let one = straight_next g gs known shared (lines ++ rest) line straight.0 (λ stops. never 1 (here ∙ stops)) in
      let u : PlacedState H = record { frames = one.frame ∷ gs; registers = one.registers; shared = shared } in
      let next : placed_next m depth q (go t) ≡ go u = here ∙ one.is in
      let quiet : drop (length (m.told shared)) (placed_told m (placed_next m depth q (go t))) ≡ []
      = ap (λ (turn : PlacedTurn H W). drop (length (m.told shared)) (placed_told m turn)) next ∙ drop-length (m.told shared) in
      let later = passes_straight lines rest one.frame gs one.registers shared straight.1 one.code
      (λ n. subst (λ (turn : PlacedTurn H W). state (placed_machine m depth q) n turn ≢ stuck) next (never (suc n))) in
      record {
        steps = suc later.steps;
        silent = ap (λ (events : List E). events ++ trace (placed_machine m depth q) later.steps (placed_next m depth q
            (go t))) quiet
            ∙ ap (trace (placed_machine m depth q) later.steps) next ∙ later.silent;
        there = record {
          frame = later.there.frame;
          registers = later.there.registers;
          is = ap (state (placed_machine m depth q) later.steps) next ∙ later.there.is;
          function = later.there.function ∙ one.function;
          whole = later.there.whole ∙ one.whole;
          code = later.there.code;
        };
      }
