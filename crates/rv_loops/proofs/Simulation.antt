-- The machine of rotated code simulates that of the code.
use Rattle.std.proofs.Common.{◌≡◌, ◌≢◌, ◌==◌, ◌≤◌, inl, inr, ℕ, suc, ◌+◌, List, [], ◌∷◌, ◌++◌, Option, Some, None, Bool}
use Rattle.std.proofs.Common.{true, false, cond, ◌&&◌, map, slice_get, refl, sym, ap, ◌∙◌, subst, arith, option_map}
use Rattle.std.specs.Prelude.{not}
use Rattle.std.proofs.lemmas.List.{append_assoc}
use Rattle.std.proofs.lemmas.Bool.{eqb-true, and_parts}
use Rattle.kk_base.specs.Simulations.{Reaches, Simulates}
use Rattle.kk_base.proofs.Simulations.{ended_reaches}
use Rattle.rv_isa.specs.declared.asm.Action.{Action}
use Rattle.rv_isa.specs.declared.asm.Action.TheVariants.{Compute, Label, Jump, Branch, Call, TailCall, Return, Routine, Hold}
use Rattle.rv_isa.specs.declared.asm.Action.TheVariants.{Unhold, Room}
use Rattle.rv_isa.specs.declared.asm.Condition.{Condition}
use Rattle.rv_isa.specs.declared.placed.Listed.{Listed}
use Rattle.rv_isa.specs.declared.placed.Operand.{Operand}
use Rattle.rv_isa.specs.AsmMachine.{unless_held}
use Rattle.rv_isa.specs.Conventions.{conforms, takes_at, take_from, gives_into}
use Rattle.rv_isa.specs.Frames.{Frame, all_of, found}
use Rattle.rv_isa.specs.Opposites.{opposite}
use Rattle.rv_isa.specs.PlacedCode.{PlacedLine, does, moves, PlacedLines}
use Rattle.rv_isa.specs.PlacedMachine.{PlacedState, PlacedTurn, is_label_line, read_at, passed, placed_entered, placed_goes}
use Rattle.rv_isa.specs.PlacedMachine.{placed_jumps}
use Rattle.rv_isa.specs.PlacedMachine.{placed_acts, placed_line, placed_next, placed_line_weight, placed_weight, placed_machine}
use Rattle.rv_isa.specs.Primitives.{Primitives, go, ended, stuck, or_stuck, end_of}
use Rattle.rv_loops.specs.Rotation.{HasOpposites, Loop, AreStraight, calls, is_call_of, test, mark, goes_on, leaves}
use Rattle.rv_loops.specs.Rotation.{rotated_lines, returns_straight, IsRotated, AreRotated}
use Rattle.rv_loops.specs.Relation.{Spot, Knows, IsLike, IsAtSame, IsInTurn, AllWait, FramesStand, StandsFor, NeverStuck}
use Rattle.rv_loops.specs.Relation.{Related, IsNotStuck}
use Rattle.rv_loops.proofs.MachineKnowledge.{like_on, same_some, empty_knows, words_known, passed_known}
use Rattle.rv_loops.proofs.Places.{found_both, found_again}
use Rattle.rv_loops.proofs.SharedLines.{straight_goes, line_goes, weighs_same}
use Rattle.rv_loops.proofs.RotatedSteps.{Kept, Step, one_step, no_step, two_steps, later_step}

-- ---- what goes on

or_some : {A H : Type 0} {W : Type 0} (o : Option A) (next : A → PlacedTurn H W) → or_stuck o next ≢ stuck
    → (a : A) × ((o ≡ Some a) × (next a ≢ stuck))
or_some None next good = absurd (good refl)
or_some (Some a) next good = (a, (refl, good))

cond_some : {H W : Type 0} (b : Bool) (t : PlacedTurn H W) → cond b t stuck ≢ stuck → (b ≡ true) × (t ≢ stuck)
cond_some true t good = (refl, good)
cond_some false t good = absurd (good refl)

held_none : {H W : Type 0} (held : List ℕ) (t : PlacedTurn H W) → unless_held held t ≢ stuck → (held ≡ []) × (t ≢ stuck)
held_none [] t good = (refl, good)
held_none (k ∷ ks) t good = absurd (good refl)

-- a branch takes its arguments where any other does
takes_alike : (c c' : Condition) (l l' n : ℕ) (args : List Operand)
    → take_from (Branch c l) n args ≡ take_from (Branch c' l') n args
takes_alike c c' l l' n [] = refl
takes_alike c c' l l' n (arg ∷ args) = ap (λ (rest : Bool). takes_at (Branch c l) n arg.place && rest) (takes_alike c c' l l'
    (suc n) args)

module _ {H E W : Type 0} (m : Primitives H E W) (opposes : HasOpposites m) (depth : ℕ) (q q' : List PlacedLines)
    (all : AreRotated 0 q q') where
  -- ---- a statement that goes on

  record Runs (f : Frame PlacedLine) (fs : List (Frame PlacedLine)) (known : ℕ → Option ℕ) (shared : H) (rest : List PlacedLine)
      (action : Action) (args : List Operand) (into : Option Operand) : Type 0 where
    fit : conforms action args into ≡ true
    words : List ℕ
    words_are : all_of (map (λ (arg : Operand). read_at known f.cells arg.place) args) ≡ Some words
    good : placed_acts m depth q (record f { code = rest }) fs known shared action args into words ≢ stuck

  runs : (f : Frame PlacedLine) (fs : List (Frame PlacedLine)) (known : ℕ → Option ℕ) (shared : H) (rest : List PlacedLine)
      (alive : List Listed) (action : Action) (args : List Operand) (into : Option Operand)
      → placed_line m depth q f fs known shared (does alive action args into ∷ rest) ≢ stuck
      → Runs f fs known shared rest action args into
  runs f fs known shared rest alive action args into good =
      let words_of : Option (List ℕ) = all_of (map (λ (arg : Operand). read_at known f.cells arg.place) args) in
      let first = cond_some (conforms action args into) (or_stuck words_of (λ words. placed_acts m depth q
      (record f { code = rest }) fs known shared action args into words)) good in
      let second = or_some words_of (λ words. placed_acts m depth q
      (record f { code = rest }) fs known shared action args into words) first.1 in
      record { fit = first.0; words = second.0; words_are = second.1.0; good = second.1.1 }

  -- it does what its action does, in any machine
  does_so : (p : List PlacedLines) (f : Frame PlacedLine) (fs : List (Frame PlacedLine)) (known : ℕ
      → Option ℕ) (shared : H) (rest : List PlacedLine)
      (alive : List Listed) (action : Action) (args : List Operand) (into : Option Operand) (words : List ℕ)
      → conforms action args into ≡ true
      → all_of (map (λ (arg : Operand). read_at known f.cells arg.place) args) ≡ Some words
      → placed_line m depth p f fs known shared (does alive action args into ∷ rest)
      ≡ placed_acts m depth p (record f { code = rest }) fs known shared action args into words
  does_so p f fs known shared rest alive action args into words fit words_are =
      ap (λ (b : Bool). cond b (or_stuck (all_of (map (λ (arg : Operand). read_at known f.cells arg.place) args))
      (λ ws. placed_acts m depth p (record f { code = rest }) fs known shared action args into ws)) stuck) fit
      ∙ ap (λ (o : Option (List ℕ)). or_stuck o (λ ws. placed_acts m depth p
      (record f { code = rest }) fs known shared action args into ws)) words_are

  module _ (f g : Frame PlacedLine) (fs gs : List (Frame PlacedLine)) (known known' : ℕ → Option ℕ) (shared shared' : H)
      (same : shared' ≡ shared) (like : IsLike q q' f g) (wait : AllWait q q' fs gs) (more : Knows known known')
      (never : NeverStuck m depth q (go (record { frames = f ∷ fs; registers = known; shared = shared }))) where
    abbrev s : PlacedState H
    s = record { frames = f ∷ fs; registers = known; shared = shared }

    abbrev t : PlacedState H
    t = record { frames = g ∷ gs; registers = known'; shared = shared' }

    good_line : (line : PlacedLine) (rest : List PlacedLine) → f.code ≡ line ∷ rest
        → placed_line m depth q f fs known shared (line ∷ rest) ≢ stuck
    good_line line rest at stops = never 1 (ap (placed_line m depth q f fs known shared) at ∙ stops)

    some_line : f.code ≢ []
    some_line at = never 1 (ap (placed_line m depth q f fs known shared) at)

    weigh : (line line' : PlacedLine) (rest rest' : List PlacedLine) → f.code ≡ line ∷ rest → g.code ≡ line' ∷ rest'
        → placed_line_weight m (g ∷ gs) known' shared' g (line' ∷ rest') ≡ placed_line_weight m (f ∷ fs) known shared f
        (line ∷ rest)
        → placed_weight {W = W} m (go t) ≡ placed_weight {W = W} m (go s)
    weigh line line' rest rest' at at' weighs =
        ap (placed_line_weight m (g ∷ gs) known' shared' g) at' ∙ weighs
        ∙ sym (ap (placed_line_weight m (f ∷ fs) known shared f) at)

    -- the same line
    lockstep : (IsAt : Spot) (credit idle idle_after : ℕ) (line : PlacedLine) (rest rest' : List PlacedLine) → f.code ≡ line ∷ rest
        → g.code ≡ line ∷ rest' → 1 + idle_after ≤ 2 + idle
        → StandsFor q q' IsAt (placed_line m depth q f fs known shared (line ∷ rest)) (placed_line m depth q' g gs known' shared
        (line ∷ rest'))
        → (StandsFor q q' IsAt (placed_next m depth q (go s)) (placed_next m depth q' (go t))
        → Kept m depth q q' credit idle_after (placed_next m depth q (go s)) (placed_next m depth q' (go t)))
        → Step m depth q q' credit idle s t
    lockstep IsAt credit idle idle_after line rest rest' at at' paces stands kept =
        let weighs : placed_line_weight m (g ∷ gs) known' shared' g (line ∷ rest') ≡ placed_line_weight m
        (f ∷ fs) known shared f (line ∷ rest)
        = ap (λ (h : H). placed_line_weight m (g ∷ gs) known' h g (line ∷ rest')) same
        ∙ weighs_same m depth q q' all f g fs gs known known' shared rest rest' line like wait more (good_line line rest at) in
        let there : placed_next m depth q' (go t) ≡ placed_line m depth q' g gs known' shared (line ∷ rest')
        = ap (placed_line m depth q' g gs known' shared') at'
        ∙ ap (λ (h : H). placed_line m depth q' g gs known' h (line ∷ rest')) same in
        let here : placed_next m depth q (go s) ≡ placed_line m depth q f fs known shared (line ∷ rest)
        = ap (placed_line m depth q f fs known shared) at in
        one_step m depth q q' IsAt credit idle idle_after s t same paces (weigh line line rest rest' at at' weighs) never
        (subst (λ (u : PlacedTurn H W). StandsFor q q' IsAt (placed_next m depth q (go s)) u) (sym there)
        (subst (λ (u : PlacedTurn H W). StandsFor q q' IsAt u (placed_line m depth q' g gs known' shared (line ∷ rest')))
        (sym here) stands)) kept

    -- a line behind which both are at the same one
    same_line : (credit idle : ℕ) (line : PlacedLine) (rest rest' : List PlacedLine) → f.code ≡ line ∷ rest → g.code ≡ line ∷ rest'
        → IsAtSame f.function f.whole g.whole rest rest' → Step m depth q q' credit idle s t
    same_line credit idle line rest rest' at at' place =
        lockstep IsAtSame credit idle 1 line rest rest' at at' (omega arith)
        (line_goes m depth q q' all f g fs gs known known' shared rest rest' line like wait more place) (λ stands. inl
        (omega arith, stands))

    -- ---- the test again

    module _ (is : IsRotated f.function f.whole g.whole) (rest : List PlacedLine) (at : f.code ≡ test is.loop ∷ is.loop.behind) where
      abbrev loop : Loop
      loop = is.loop

      tested : Runs f fs known shared loop.behind (Branch loop.condition loop.exit) loop.args None
      tested = runs f fs known shared loop.behind loop.alive (Branch loop.condition loop.exit) loop.args None (good_line
          (test loop) loop.behind at)

      abbrev on : Frame PlacedLine
      on = record f { code = loop.behind }

      upper : (taken : Bool) → m.holds loop.condition tested.words ≡ Some taken
          → placed_next m depth q (go s) ≡ cond taken (placed_jumps loop.exit on fs known shared) (placed_goes on fs known shared)
      upper taken is_taken =
          ap (placed_line m depth q f fs known shared) at
          ∙ does_so q f fs known shared loop.behind loop.alive
          (Branch loop.condition loop.exit) loop.args None tested.words tested.fit tested.words_are
          ∙ ap (λ (o : Option Bool). or_stuck o (λ b. cond b (placed_jumps loop.exit on fs known shared)
          (placed_goes on fs known shared))) is_taken

      weight_s : placed_weight {W = W} m (go s) ≡ 3
      weight_s = ap (placed_line_weight m (f ∷ fs) known shared f) at

      -- the code goes on somewhere, and a label of the rotated code leads there
      record Leads (label : ℕ) : Type 0 where
        code : List PlacedLine
        code' : List PlacedLine
        next : placed_next m depth q (go s) ≡ placed_goes (record on { code = code }) fs known shared
        there : found (is_label_line label) g.whole ≡ Some code'
        place : IsAtSame f.function f.whole g.whole code code'

      leads : (taken : Bool) → m.holds loop.condition tested.words ≡ Some taken → Leads (cond taken loop.exit loop.again)
      leads false is_taken = record {
        code = loop.behind;
        code' = mark loop ∷ rotated_lines loop loop.behind;
        next = upper false is_taken;
        there = found_again f.function f.whole g.whole is;
        place = inr (is, inr (inl refl));
      }
      leads true is_taken =
          let jumps = or_some (found (is_label_line loop.exit) f.whole) (λ code. placed_goes
          (record on { code = code }) fs known shared)
          (λ stops. never 1 (upper true is_taken ∙ stops)) in
          let both = found_both f.function loop.exit f.whole g.whole [] [] jumps.0 (inr (is, inl refl)) jumps.1.0 in
          record {
            code = jumps.0;
            code' = both.0;
            next = upper true is_taken ∙ ap (λ (o : Option (List PlacedLine)). or_stuck o (λ code. placed_goes
                (record on { code = code }) fs known shared)) jumps.1.0;
            there = both.1;
            place = both.2;
          }

      -- a branch on the same words, and a jump
      module _ (condition : Condition) (l l' : ℕ)
          (at' : g.code ≡ does loop.alive (Branch condition l) loop.args None ∷ does [] (Jump l') [] None ∷ rest) where
        abbrev on' : Frame PlacedLine
        on' = record g { code = does [] (Jump l') [] None ∷ rest }

        lower : (taken : Bool) → m.holds condition tested.words ≡ Some taken
            → placed_next m depth q' (go t) ≡ cond taken (placed_jumps l on' gs known' shared') (placed_goes on' gs known' shared')
        lower taken is_taken =
            let words_are = words_known known known' f.cells g.cells more like.cells loop.args tested.words tested.words_are in
            let fit : conforms (Branch condition l) loop.args None ≡ true
            = ap (λ (b : Bool). b && true) (takes_alike condition loop.condition l loop.exit 0 loop.args) ∙ tested.fit in
            ap (placed_line m depth q' g gs known' shared') at'
            ∙ does_so q' g gs known' shared' on'.code loop.alive (Branch condition l) loop.args None tested.words fit words_are
            ∙ ap (λ (o : Option Bool). or_stuck o (λ b. cond b (placed_jumps l on' gs known' shared')
            (placed_goes on' gs known' shared'))) is_taken

        weight_t : placed_weight {W = W} m (go t) ≡ 3
        weight_t = ap (placed_line_weight m (g ∷ gs) known' shared' g) at'

        stands : (label : ℕ) (way : Leads label) → StandsFor {W = W} q q' IsAtSame
            (placed_goes (record on { code = way.code }) fs known shared)
            (placed_goes (record on' { code = way.code' }) gs known' shared')
        stands label way = ((like_on q q' f g way.code way.code' f.into g.into like, (way.place, wait)), (more, same))

        -- the branch leads there
        branches : (credit idle : ℕ) → m.holds condition tested.words ≡ Some true → Leads l → Step m depth q q' credit idle s t
        branches credit idle taken way =
            let there : placed_next m depth q' (go t) ≡ placed_goes (record on' { code = way.code' }) gs known' shared'
            = lower true taken ∙ ap (λ (o : Option (List PlacedLine)). or_stuck o (λ code. placed_goes
            (record on' { code = code }) gs known' shared')) way.there in
            one_step m depth q q' IsAtSame credit idle 1 s t same (omega arith) (weight_t ∙ sym weight_s) never
            (subst (λ (u : PlacedTurn H W). StandsFor q q' IsAtSame (placed_next m depth q (go s)) u) (sym there)
            (subst (λ (u : PlacedTurn H W). StandsFor q q' IsAtSame u (placed_goes (record on' { code = way.code' }) gs known' shared'))
            (sym way.next) (stands l way)))
            (λ stands. inl (omega arith, stands))

        -- the jump leads there
        jumps : (credit idle : ℕ) → 2 ≤ credit → m.holds condition tested.words ≡ Some false → Leads l'
            → Step m depth q q' credit idle s t
        jumps credit idle saved not_taken way =
            let s' : PlacedState H = record { frames = record on { code = way.code } ∷ fs; registers = known; shared = shared } in
            let t' : PlacedState H = record { frames = on' ∷ gs; registers = known'; shared = shared' } in
            let t'' : PlacedState H = record { frames = record on' { code = way.code' } ∷ gs; registers = known'; shared = shared' } in
            let last : placed_next m depth q' (go t') ≡ go t''
            = ap (λ (o : Option (List PlacedLine)). or_stuck o (λ code. placed_goes
            (record on' { code = code }) gs known' shared')) way.there in
            two_steps m depth q q' credit idle 2 s s' t t' t'' way.next (lower false not_taken) last refl refl refl saved
            (omega (arith, weight_s, weight_t)) never (stands l' way)

      turns : (credit idle : ℕ) → g.code ≡ goes_on loop ∷ leaves loop ∷ rest → 2 ≤ credit → Step m depth q q' credit idle s t
      turns credit idle at' saved =
          let taken = or_some (m.holds loop.condition tested.words) (λ b. cond b (placed_jumps loop.exit on fs known shared)
          (placed_goes on fs known shared)) tested.good in
          by loop.stays taken.0 refl taken.1.0
        where
          -- by the order that the loop has
          ordered : (stays : Bool) → loop.stays ≡ stays
              → g.code ≡ does loop.alive (Branch (cond stays loop.condition (opposite loop.condition)) (cond stays loop.exit loop.again))
              loop.args None ∷ does [] (Jump (cond stays loop.again loop.exit)) [] None ∷ rest
          ordered stays stays_is =
              at' ∙ ap (λ (b : Bool). does loop.alive (Branch (cond b loop.condition (opposite loop.condition))
              (cond b loop.exit loop.again)) loop.args None ∷ does [] (Jump (cond b loop.again loop.exit)) [] None ∷ rest) stays_is

          turned : (taken : Bool) → m.holds loop.condition tested.words ≡ Some taken
              → m.holds (opposite loop.condition) tested.words ≡ Some (not taken)
          turned taken is_taken = opposes loop.condition tested.words ∙ ap (option_map not) is_taken

          by : (stays taken : Bool) → loop.stays ≡ stays → m.holds loop.condition tested.words ≡ Some taken
              → Step m depth q q' credit idle s t
          by true true stays_is is_taken =
              branches loop.condition loop.exit loop.again (ordered true stays_is) credit idle is_taken (leads true is_taken)
          by true false stays_is is_taken =
              jumps loop.condition loop.exit loop.again (ordered true stays_is) credit idle saved is_taken (leads false is_taken)
          by false true stays_is is_taken =
              jumps (opposite loop.condition) loop.again loop.exit (ordered false stays_is) credit idle saved (turned true is_taken)
              (leads true is_taken)
          by false false stays_is is_taken =
              branches (opposite loop.condition) loop.again loop.exit (ordered false stays_is) credit idle (turned false is_taken)
              (leads false is_taken)

    -- ---- a turn begins

    begins_turn : (credit idle n : ℕ) (is : IsRotated f.function f.whole g.whole) (alive : List Listed) (args : List Operand)
        (into : Option Operand)
        (rest : List PlacedLine) → f.code ≡ does alive (TailCall n) args into ∷ rest → (n == is.loop.function) ≡ true
        → g.code ≡ is.loop.before ++ (goes_on is.loop ∷ leaves is.loop ∷ rotated_lines is.loop rest) → 1 ≤ idle
        → Step m depth q q' credit idle s t
    begins_turn credit idle n is alive args into rest at own at' some =
        let called = runs f fs known shared rest alive (TailCall n) args into (good_line (does alive
        (TailCall n) args into) rest at) in
        let next : PlacedLines → PlacedTurn H W = λ c. placed_goes (placed_entered n c) fs (passed 0 called.words) shared in
        let none = held_none f.held (or_stuck (slice_get q n) next) called.good in
        let callee = or_some (slice_get q n) next none.1 in
        let c : PlacedLines = callee.0 in
        let s' : PlacedState H = record { frames = placed_entered n c ∷ fs; registers = passed 0 called.words; shared = shared } in
        let here : placed_next m depth q (go s) ≡ go s'
        = ap (placed_line m depth q f fs known shared) at
        ∙ does_so q f fs known shared rest alive (TailCall n) args into called.words called.fit called.words_are
        ∙ ap (λ (held : List ℕ). unless_held held (or_stuck (slice_get q n) next)) none.0
        ∙ ap (λ (o : Option PlacedLines). or_stuck o next) callee.1.0 in
        let number : n ≡ f.function = eqb-true n is.loop.function own ∙ is.number in
        let itself : c ≡ like.there.0 = same_some c like.there.0 (sym callee.1.0 ∙ ap (slice_get q) number ∙ like.there.1.0) in
        let code : c.code ≡ f.whole = ap (λ (l : PlacedLines). l.code) itself ∙ like.there.1.1 in
        let rotated : IsRotated n c.code g.whole = record {
          loop = is.loop;
          number = is.number ∙ sym number;
          old_is = code ∙ is.old_is;
          new_is = is.new_is;
          straight = is.straight;
          few = is.few;
          compares = is.compares;
          fresh = ap (found (is_label_line is.loop.again)) code ∙ is.fresh;
          leads = is.leads ∙ sym (ap (returns_straight is.loop.exit) code);
        } in
        let entered : IsLike q q' (placed_entered n c) g = record {
          there = (c, (callee.1.0, refl));
          there' = like.there';
          function = like.function ∙ sym number;
          cells = empty_knows g.cells;
          held = like.held ∙ none.0;
          held_cells = tt;
        } in
        let head : IsInTurn n c.code g.whole c.code g.code
        = (
          rotated,
          (
            rotated_lines is.loop rest,
            record {
              before = is.loop.before;
              straight = is.straight;
              code_is = code
                  ∙ is.old_is;
              new_is = at';
            },
          ),
        ) in
        let fit = and_parts (take_from (TailCall n) 0 args) (gives_into (TailCall n) into) called.fit in
        let knows : Knows (passed 0 called.words) known'
        = λ x word is_word. more x word (passed_known n 0 args called.words known f.cells fit.0 called.words_are x word is_word) in
        no_step m depth q q' credit idle s s' t here refl some (omega (
          arith,
          ap (placed_line_weight m
              (f ∷ fs) known shared f) at,
        )) never
        ((entered, (head, wait)), (knows, same))

    -- ---- the running frames

    -- at the head of the loop, and where the function called itself
    in_turn : (credit idle : ℕ) (is : IsRotated f.function f.whole g.whole) (rest before : List PlacedLine) → AreStraight before
        → f.code ≡ before ++ (test is.loop ∷ is.loop.behind) → g.code ≡ before ++ (goes_on is.loop ∷ leaves is.loop ∷ rest)
        → 2 ≤ credit
        → Step m depth q q' credit idle s t
    in_turn credit idle is rest [] straight at at' saved = turns is rest at credit idle at' saved
    in_turn credit idle is rest (line ∷ before) straight at at' saved =
        let old : List PlacedLine = before ++ (test is.loop ∷ is.loop.behind) in
        let new : List PlacedLine = before ++ (goes_on is.loop ∷ leaves is.loop ∷ rest) in
        lockstep IsInTurn credit idle 0 line old new at at' (omega arith)
        (straight_goes m depth q q' all IsInTurn f g fs gs known known' shared old new line straight.0 like wait more
        (is, (rest, record { before = before; straight = straight.1; code_is = refl; new_is = refl }))) (λ stands. inr
        (saved, stands))

    -- in code that is not rotated
    in_plain : (credit idle : ℕ) (lines : List PlacedLine) → g.whole ≡ f.whole → f.code ≡ lines → g.code ≡ lines
        → Step m depth q q' credit idle s t
    in_plain credit idle [] whole at at' = absurd (some_line at)
    in_plain credit idle (line ∷ rest) whole at at' = same_line credit idle line rest rest at at' (inl (whole, refl))

    calls_itself : (credit idle : ℕ) (is : IsRotated f.function f.whole g.whole) (alive : List Listed) (args : List Operand)
        (into : Option Operand)
        (rest : List PlacedLine) (action : Action) → f.code ≡ does alive action args into ∷ rest
        → calls is.loop.function action ≡ true
        → g.code ≡ is.loop.before ++ (goes_on is.loop ∷ leaves is.loop ∷ rotated_lines is.loop rest) → 1 ≤ idle
        → Step m depth q q' credit idle s t
    calls_itself credit idle is alive args into rest (TailCall n) at own at' some = begins_turn credit idle n is alive args into
        rest at own at' some
    calls_itself credit idle is alive args into rest (Compute operation) at own at' some = cc own
    calls_itself credit idle is alive args into rest (Label l) at own at' some = cc own
    calls_itself credit idle is alive args into rest (Jump l) at own at' some = cc own
    calls_itself credit idle is alive args into rest (Branch condition l) at own at' some = cc own
    calls_itself credit idle is alive args into rest (Call callee) at own at' some = cc own
    calls_itself credit idle is alive args into rest Return at own at' some = cc own
    calls_itself credit idle is alive args into rest (Routine routine) at own at' some = cc own
    calls_itself credit idle is alive args into rest Hold at own at' some = cc own
    calls_itself credit idle is alive args into rest Unhold at own at' some = cc own
    calls_itself credit idle is alive args into rest Room at own at' some = cc own

    -- behind the test
    at_line : (credit idle : ℕ) (is : IsRotated f.function f.whole g.whole) (line : PlacedLine) (rest : List PlacedLine)
        (call : Bool)
        → f.code ≡ line ∷ rest → is_call_of is.loop.function line ≡ call
        → g.code ≡ cond call (is.loop.before ++ (goes_on is.loop ∷ leaves is.loop ∷ []))
        (line ∷ []) ++ rotated_lines is.loop rest → 1 ≤ idle
        → Step m depth q q' credit idle s t
    at_line credit idle is line rest false at own at' some = same_line credit idle line rest (rotated_lines is.loop rest) at at'
        (inr (is, inl refl))
    at_line credit idle is (moves alive value way) rest true at own at' some = cc own
    at_line credit idle is (does alive action args into) rest true at own at' some =
        calls_itself credit idle is alive args into rest action at own
        (at' ∙ append_assoc is.loop.before (goes_on is.loop ∷ leaves is.loop ∷ []) (rotated_lines is.loop rest)) some

    pub in_loop : (credit idle : ℕ) (is : IsRotated f.function f.whole g.whole) (lines : List PlacedLine) → f.code ≡ lines
        → g.code ≡ rotated_lines is.loop lines → 1 ≤ idle → Step m depth q q' credit idle s t
    in_loop credit idle is [] at at' some = absurd (some_line at)
    in_loop credit idle is (line ∷ rest) at at' some =
        at_line credit idle is line rest (is_call_of is.loop.function line) at refl at' some

    -- before it
    in_head : (credit idle : ℕ) (is : IsRotated f.function f.whole g.whole) (before : List PlacedLine) → AreStraight before
        → f.code ≡ before ++ (test is.loop ∷ is.loop.behind)
        → g.code ≡ before ++ (test is.loop ∷ mark is.loop ∷ rotated_lines is.loop is.loop.behind)
        → Step m depth q q' credit idle s t
    in_head credit idle is [] straight at at' =
        same_line credit idle (test is.loop) is.loop.behind (mark is.loop ∷ rotated_lines is.loop is.loop.behind) at at' (inr
        (is, inr (inl refl)))
    in_head credit idle is (line ∷ before) straight at at' =
        same_line credit idle line (before ++ (test is.loop ∷ is.loop.behind)) (before ++
        (test is.loop ∷ mark is.loop ∷ rotated_lines is.loop is.loop.behind)) at at'
        (inr (is, inr (inr (record { before = before; straight = straight.1; code_is = refl; new_is = refl }))))

  -- ---- states

  module _ (f g : Frame PlacedLine) (fs gs : List (Frame PlacedLine)) (known known' : ℕ → Option ℕ) (shared shared' : H)
      (same : shared' ≡ shared) (like : IsLike q q' f g) (wait : AllWait q q' fs gs) (more : Knows known known')
      (never : NeverStuck m depth q (go (record { frames = f ∷ fs; registers = known; shared = shared }))) where
    -- at the label behind the test, which goes by
    at_mark : (credit idle : ℕ) (is : IsRotated f.function f.whole g.whole)
        → g.code ≡ mark is.loop ∷ rotated_lines is.loop f.code → 1 ≤ idle
        → Step m depth q q' credit idle (record { frames = f ∷ fs; registers = known; shared = shared })
        (record { frames = g ∷ gs; registers = known'; shared = shared' })
    at_mark credit idle is at' some =
        let g' : Frame PlacedLine = record g { code = rotated_lines is.loop f.code } in
        let like' : IsLike q q' f g'
        = like_on q q' f g f.code g'.code f.into g.into like in
        later_step m depth q q' credit idle (record { frames = f ∷ fs; registers = known; shared = shared })
        (record { frames = g ∷ gs; registers = known'; shared = shared' })
        (record { frames = g' ∷ gs; registers = known'; shared = shared' })
        (ap (placed_line m depth q' g gs known' shared') at') refl (ap (placed_line_weight m (g ∷ gs) known' shared' g) at')
        (in_loop f g' fs gs known known' shared shared' same like' wait more never credit idle is f.code refl refl some)

    at_same : (credit idle : ℕ) → 1 ≤ idle → IsAtSame f.function f.whole g.whole f.code g.code
        → Step m depth q q' credit idle (record { frames = f ∷ fs; registers = known; shared = shared })
        (record { frames = g ∷ gs; registers = known'; shared = shared' })
    at_same credit idle some (inl (whole, at')) =
        in_plain f g fs gs known known' shared shared' same like wait more never credit idle f.code whole refl at'
    at_same credit idle some (inr (is, inl at')) =
        in_loop f g fs gs known known' shared shared' same like wait more never credit idle is f.code refl at' some
    at_same credit idle some (inr (is, inr (inl at'))) = at_mark credit idle is at' some
    at_same credit idle some (inr (is, inr (inr head))) =
        in_head f g fs gs known known' shared shared' same like wait more never credit idle is head.before head.straight
        head.code_is head.new_is

  steps_same : (credit idle : ℕ) (fs gs : List (Frame PlacedLine)) (known known' : ℕ → Option ℕ) (shared shared' : H)
      → NeverStuck m depth q (go (record { frames = fs; registers = known; shared = shared })) → 1 ≤ idle
      → FramesStand q q' IsAtSame fs gs → Knows known known'
      → shared' ≡ shared
      → Step m depth q q' credit idle (record { frames = fs; registers = known; shared = shared })
      (record { frames = gs; registers = known'; shared = shared' })
  steps_same credit idle [] gs known known' shared shared' never some stand more same = absurd (never 1 refl)
  steps_same credit idle (f ∷ fs) [] known known' shared shared' never some stand more same = absurd stand
  steps_same credit idle (f ∷ fs) (g ∷ gs) known known' shared shared' never some stand more same =
      at_same f g fs gs known known' shared shared' same stand.0 stand.1.1 more never credit idle some stand.1.0

  steps_in_turn : (credit idle : ℕ) (fs gs : List (Frame PlacedLine)) (known known' : ℕ → Option ℕ) (shared shared' : H)
      → NeverStuck m depth q (go (record { frames = fs; registers = known; shared = shared })) → 2 ≤ credit
      → FramesStand q q' IsInTurn fs gs → Knows known known'
      → shared' ≡ shared
      → Step m depth q q' credit idle (record { frames = fs; registers = known; shared = shared })
      (record { frames = gs; registers = known'; shared = shared' })
  steps_in_turn credit idle [] gs known known' shared shared' never saved stand more same = absurd (never 1 refl)
  steps_in_turn credit idle (f ∷ fs) [] known known' shared shared' never saved stand more same = absurd stand
  steps_in_turn credit idle (f ∷ fs) (g ∷ gs) known known' shared shared' never saved stand more same =
      let head = stand.1.0.1.1 in
      in_turn f g fs gs known known' shared shared' same stand.0 stand.1.1 more never credit idle stand.1.0.0 stand.1.0.1.0
      head.before head.straight
      head.code_is head.new_is saved

  -- ---- the simulation

  kept_alike : (IsAt : Spot) (s t : PlacedTurn H W) → s ≢ stuck → StandsFor q q' IsAt s t → end_of t ≡ end_of s
  kept_alike IsAt (go s) (go t) good stands = refl
  kept_alike IsAt (go s) (ended how shared) good stands = absurd stands
  kept_alike IsAt (go s) stuck good stands = absurd stands
  kept_alike IsAt (ended how shared) (go t) good stands = absurd stands
  kept_alike IsAt (ended how shared) (ended how' shared') good stands = ap (λ (w : W). Some w) stands.0
  kept_alike IsAt (ended how shared) stuck good stands = absurd stands
  kept_alike IsAt stuck t good stands = absurd (good refl)

  alike : (credit idle : ℕ) (s t : PlacedTurn H W) → Related m depth q q' credit idle s t → end_of t ≡ end_of s
  alike credit idle s t (never, inl (some, stands)) = kept_alike IsAtSame s t (never 0) stands
  alike credit idle s t (never, inr (saved, stands)) = kept_alike IsInTurn s t (never 0) stands

  abbrev Reached : ℕ → ℕ → PlacedTurn H W → PlacedTurn H W → Type 0
  Reached credit idle s t =
      Reaches (placed_machine m depth q') (Related m depth q q') IsNotStuck 2 ((placed_machine m depth q).weight s + credit) 1 idle
      ((placed_machine m depth q).step s).0 ((placed_machine m depth q).step s).1 t

  ended_goes : (how : W) (shared : H) → IsNotStuck {H = H} {W = W} (ended how shared)
  ended_goes how shared e = cc e

  by_same : (credit idle : ℕ) (s t : PlacedTurn H W) → NeverStuck m depth q s → 1 ≤ idle → StandsFor q q' IsAtSame s t
      → Reached credit idle s t
  by_same credit idle (go s) (go t) never some stands =
      steps_same credit idle s.frames t.frames s.registers t.registers s.shared t.shared never some stands.0 stands.1.0 stands.1.1
  by_same credit idle (go s) (ended how shared) never some stands = absurd stands
  by_same credit idle (go s) stuck never some stands = absurd stands
  by_same credit idle (ended how shared) (go t) never some stands = absurd stands
  by_same credit idle (ended how shared) (ended how' shared') never some stands =
      ended_reaches (placed_machine m depth q) (placed_machine m depth q') (Related m depth q q') IsNotStuck 2 credit idle
      (ended how shared)
      (ended how' shared') how (omega arith) (never, inl (some, stands)) refl (ap (λ (w : W). Some w) stands.0)
      (ended_goes how' shared')
  by_same credit idle (ended how shared) stuck never some stands = absurd stands
  by_same credit idle stuck t never some stands = absurd (never 0 refl)

  by_turn : (credit idle : ℕ) (s t : PlacedTurn H W) → NeverStuck m depth q s → 2 ≤ credit → StandsFor q q' IsInTurn s t
      → Reached credit idle s t
  by_turn credit idle (go s) (go t) never saved stands =
      steps_in_turn credit idle s.frames t.frames s.registers t.registers s.shared t.shared never saved stands.0 stands.1.0
      stands.1.1
  by_turn credit idle (go s) (ended how shared) never saved stands = absurd stands
  by_turn credit idle (go s) stuck never saved stands = absurd stands
  by_turn credit idle (ended how shared) (go t) never saved stands = absurd stands
  by_turn credit idle (ended how shared) (ended how' shared') never saved stands =
      ended_reaches (placed_machine m depth q) (placed_machine m depth q') (Related m depth q q') IsNotStuck 2 credit idle
      (ended how shared)
      (ended how' shared') how (omega arith) (never, inr (saved, stands)) refl (ap (λ (w : W). Some w) stands.0)
      (ended_goes how' shared')
  by_turn credit idle (ended how shared) stuck never saved stands = absurd stands
  by_turn credit idle stuck t never saved stands = absurd (never 0 refl)

  by_related : (credit idle : ℕ) (s t : PlacedTurn H W) → Related m depth q q' credit idle s t → Reached credit idle s t
  by_related credit idle s t (never, inl (some, stands)) = by_same credit idle s t never some stands
  by_related credit idle s t (never, inr (saved, stands)) = by_turn credit idle s t never saved stands

  pub simulates : Simulates (placed_machine m depth q) (placed_machine m depth q') (Related m depth q q') IsNotStuck 2
  simulates = record { by = by_related; alike = alike }
