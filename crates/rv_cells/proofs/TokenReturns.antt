-- The value of a code with tokens: it goes to the variable of a block, to the function that waits, whose tokens are held, or the run
-- ends without a token.
use Rattle.std.proofs.Common.{◌≡◌, ℕ, zero, suc, ◌+◌, ◌<◌, ◌≤◌, inl, inr, Bool, true, false, List, [], ◌∷◌, ◌++◌, length, Some, All, refl, sym, ◌∙◌, ap, subst, arith}
use Rattle.kk_syntax.specs.Shapes.{is_among}
use Rattle.kk_source.specs.State.{Value, Environment}
use Rattle.kk_source.specs.Live.{value_of}
use Rattle.kk_source.specs.Sound.{Within}
use Rattle.kk_counted.specs.TokenKeeping.{IsJudged, ListsAfter, AreKeptBy}
use Rattle.kk_counted.specs.TokenMachine.{token_code_step}
use Rattle.kk_counted.specs.TokenRuns.{AllLead}
use Rattle.kk_counted.specs.TokenStates.{TokenJoin, TokenFrame}
use Rattle.kk_counted.specs.TokenedCodes.{Tokened}
use Rattle.kk_counted.specs.Tokens.{Slot, spent, token, is_unspent, Mark, plain, token_of, one_if_token, Tokens, marked}
use Rattle.kk_counted.proofs.SlotMarks.{none_marked}
use Rattle.kk_counted.proofs.TokenSteps.{follows}
use Rattle.kk_counted.specs.CountedCosts.{form_cost}
use Rattle.rv_isa.specs.declared.asm.Action.TheVariants.{Label, Jump, Return}
use Rattle.rv_isa.specs.AsmCode.{Line}
use Rattle.rv_isa.specs.Frames.{Frame, put, received}
use Rattle.rv_isa.specs.Processor.{exited}
use Rattle.rv_isa.specs.Primitives.{ended}
use Rattle.rv_lower.specs.Lines.{acts, copies_to}
use Rattle.rv_lower.specs.Lowered.{Goal, returns, joins}
use Rattle.rv_lower.proofs.FormEffects.{put_other}
use Rattle.rv_cells.specs.Layout.{word_in, FitsField}
use Rattle.rv_cells.specs.CountedCells.{Follows, NoneAside}
use Rattle.rv_cells.proofs.LineCosts.{most_moves}
use Rattle.rv_cells.proofs.Values.{among_by, has_bound}
use Rattle.rv_cells.proofs.Runs.{turn_of, Runs, runs_then}
use Rattle.rv_cells.proofs.CellActions.{put_in, copy_runs, label_runs, jump_runs}
use Rattle.rv_cells.proofs.CallLines.{return_runs, last_return_runs}
use Rattle.rv_cells.proofs.Spots.{Spot, saved}
use Rattle.rv_cells.proofs.BoundVariables.{AreWithin, has_fewer}
use Rattle.rv_cells.proofs.TokenCells.{none_by_number}
use Rattle.rv_cells.proofs.TokenContents.{nothing_stands}
use Rattle.rv_cells.proofs.TokenFrames.{slots_moved}
use Rattle.rv_cells.proofs.TokenRelation.{HaveTokenCells, AllStand, held_values, Shape, Lowering, target, setting, upper, Placed, Continues, HasFrame, Waits, AllWait, IsFitFrom, by_lines, finds, Follows_step}
use Rattle.rv_cells.proofs.TokenContinuations.{token_at, machine_at, CodeSteps}

module _ (program : Lowering) where
  -- a variable of a frame gets a value
  pub has_put : (shape : Shape) (address : ℕ → ℕ) (next : ℕ) (slots : ℕ → Slot) (held bound : List ℕ) (environment : Environment)
      (f : Frame Line) → HasFrame program shape address next slots held bound environment f → (x : ℕ) (v : Value)
      → x < shape.variables → FitsField (shape.holds x) v → Within next v
      → HasFrame program shape address next slots held (x ∷ bound) (record { variable = x; value = v } ∷ environment)
      (record f { cells = put x (Some (word_in program.layout address v)) f.cells })
  has_put shape address next slots held bound environment f has x v low fit within = record {
    values = has_bound has.values x v (omega (arith, low)) fit within;
    below = λ z is. elim (among_by x bound z is) [ inl e ↦ omega (arith, e, low) | inr among ↦ has.below z among ];
    tokens = slots_moved has.tokens (λ y p is. refl)
        (λ y few unspent. put_other x (shape.variables + y) (word_in program.layout address v) f.cells (λ e. omega (arith, e, low)));
    held_is = has.held_is;
    formed = has.formed;
    in_function = has.in_function;
  }

  -- fewer variables are bound
  pub has_less : (shape : Shape) (address : ℕ → ℕ) (next : ℕ) (slots : ℕ → Slot) (held bound fewer : List ℕ)
      (environment : Environment) (f : Frame Line) → HasFrame program shape address next slots held bound environment f
      → AreWithin fewer bound → HasFrame program shape address next slots held fewer environment f
  has_less shape address next slots held bound fewer environment f has within = record {
    values = has_fewer has.values fewer within;
    below = λ z is. has.below z (within z is);
    tokens = has.tokens;
    held_is = has.held_is;
    formed = has.formed;
    in_function = has.in_function;
  }

  module _ (x idle : ℕ) (s : Spot) (shape : Shape) (given : Bool) (left_lines : List Line) (tokens : Tokens) (input : List ℕ)
      (some : 1 ≤ idle) (bytes : All (λ byte. byte < 256) input) (input_is : s.world.left ≡ input)
      (stands : Follows program.pool program.layout s.address s.owners s.heap s.world.cells)
      (cells : HaveTokenCells program.pool program.layout s.address s.owners s.heap tokens) where
    abbrev value : Value
    value = value_of s.environment x

    abbrev word : ℕ
    word = word_in program.layout s.address (value_of s.environment x)

    abbrev Judged : List ℕ → List ℕ → List ℕ → List (List ℕ) → List TokenJoin → List TokenFrame → Type 0
    Judged left unspent held older inner frames =
        IsJudged program.pool.cells left unspent held older (Tokened.give x) inner frames s.heap tokens

    abbrev Has : List ℕ → ℕ → Type 0
    Has held n = HasFrame program shape s.address (length s.heap) (tokens.slots n) held s.bound s.environment s.frame

    abbrev Steps : List TokenJoin → List TokenFrame → List (Frame Line) → Type 0
    Steps inner frames fs =
        IsFitFrom program (token_at program (Tokened.give x) s.environment inner frames s.heap tokens input)
        → Follows_step program idle (token_at program (Tokened.give x) s.environment inner frames s.heap tokens input)
        (turn_of left_lines s.frame fs s.world)

    -- what the step leads to is judged
    kept : (left unspent held : List ℕ) (older : List (List ℕ)) (inner : List TokenJoin) (frames : List TokenFrame)
        → Judged left unspent held older inner frames
        → AllLead (AreKeptBy program.pool.cells
        (ListsAfter (Tokened.give x) inner (record { left = left; unspent = unspent; held = held; older = older })))
        (token_code_step (setting program) (Tokened.give x) s.environment inner
        (machine_at program (Tokened.give x) s.environment inner frames s.heap tokens))
    kept left unspent held older inner frames judged =
        (follows (setting program) program.spends (record { left = left; unspent = unspent; held = held; older = older })
        (Tokened.give x) s.environment inner (machine_at program (Tokened.give x) s.environment inner frames s.heap tokens) judged tt
        refl).keeps

    -- it goes to the function that waits
    returned : (left unspent held newest : List ℕ) (helds : List (List ℕ)) (waiting : TokenFrame) (frames : List TokenFrame)
        (f : Frame Line) (fs : List (Frame Line))
        → Judged left unspent held (newest ∷ helds) [] (waiting ∷ frames) → Has held (suc (length helds))
        → Placed program shape returns given s.bound s.frame.whole (Tokened.give x) left_lines
        → given ≡ shape.result
        → (w : Waits program s.address (length s.heap) (tokens.slots (length helds)) newest waiting f shape.result)
        → AllWait program s.address (length s.heap) tokens.slots helds frames fs w.shape.result
        → Steps [] (waiting ∷ frames) (f ∷ fs)
    returned left unspent held newest helds waiting frames f fs judged has placed same w waits fit =
        let m = most_moves in
        let bound = placed.marked.0 in
        let nothing : s.frame.held ≡ [] = has.held_is ∙ ap (held_values (tokens.slots (suc (length helds))) shape.variables)
        judged.spends.0 in
        let is : left_lines ≡ acts Return (x ∷ []) ∷ placed.after
        = placed.left_is ∙ ap (λ own. own ++ placed.after) placed.lines.0 in
        let values = put waiting.variable (Some word) f.cells in
        let g = record f { cells = values } in
        let t0 = turn_of (acts Return (x ∷ []) ∷ placed.after) s.frame (f ∷ fs) s.world in
        let t1 = turn_of f.code g fs s.world in
        let gets : received f.into (Some word) f.cells ≡ Some values = ap (λ o. received o (Some word) f.cells) w.into in
        let fits : FitsField (w.shape.holds waiting.variable) value
        = subst (λ b. FitsField b value) (placed.marked.1 ∙ same ∙ sym w.kind) (has.values.fits x bound) in
        let next = kept left unspent held (newest ∷ helds) [] (waiting ∷ frames) judged in
        let heads : newest ≡ next.0.held = first_is next.1.0 in
        let tails : helds ≡ next.0.older = rest_is next.1.0 in
        let to : Spot = record s {
          bound = waiting.variable ∷ w.bound;
          environment = record { variable = waiting.variable; value = value } ∷ waiting.environment;
          frame = g;
        } in
        subst (λ ls. Follows_step program idle
        (token_at program (Tokened.give x) s.environment [] (waiting ∷ frames) s.heap tokens input)
        (turn_of ls s.frame (f ∷ fs) s.world)) (sym is)
        (by_lines program 1 (m + 3) form_cost (saved s.heap) idle
        (token_at program waiting.rest (record { variable = waiting.variable; value = value } ∷ waiting.environment) waiting.joins
        frames s.heap tokens input) t0 t1
        (return_runs (target program) s.frame f fs s.world placed.after x word values (has.values.words x bound) nothing gets)
        (omega arith) (let few = w.does.placed.short in omega (arith, some)) (λ n. fit (suc n))
        (record {
          spot = to;
          fs = fs;
          left = f.code;
          environment_is = refl;
          heap_is = refl;
          turn_is = refl;
          at = record {
            shape = w.shape;
            lists = record { left = next.0.left; unspent = next.0.unspent; held = newest; older = helds };
            judged = subst (λ h. IsJudged program.pool.cells next.0.left next.0.unspent h helds waiting.rest waiting.joins frames
                s.heap tokens) (sym heads)
                (subst (λ o. IsJudged program.pool.cells next.0.left next.0.unspent next.0.held o waiting.rest waiting.joins frames
                s.heap tokens) (sym tails) next.1.1);
            does = w.does;
            follows = stands;
            cells = cells;
            stand = nothing_stands program.layout w.shape.standing s.address s.owners (tokens.slots (length helds)) w.nothing;
            has = has_put w.shape s.address (length s.heap) (tokens.slots (length helds)) newest w.bound waiting.environment f
                w.has waiting.variable value w.below fits (has.values.older x bound);
            waits = waits;
            input_is = input_is;
            bytes = bytes;
          };
        }))
      where
        first_is : {a b : List ℕ} {xs ys : List (List ℕ)} → a ∷ xs ≡ b ∷ ys → a ≡ b
        first_is e = cc

        rest_is : {a b : List ℕ} {xs ys : List (List ℕ)} → a ∷ xs ≡ b ∷ ys → xs ≡ ys
        rest_is e = cc

    -- it goes to the variable of a block
    joined : (y l : ℕ) (join : TokenJoin) (outer : List TokenJoin) (left unspent held : List ℕ) (older : List (List ℕ))
        (frames : List TokenFrame) (fs : List (Frame Line)) → Judged left unspent held older (join ∷ outer) frames
        → Has held (length older) → Placed program shape (joins y l) given s.bound s.frame.whole (Tokened.give x) left_lines
        → Continues program shape s.frame.whole (join ∷ outer) (joins y l) given s.bound
        → AllWait program s.address (length s.heap) tokens.slots older frames fs shape.result
        → AllStand program.layout shape.standing s.address s.owners (tokens.slots (length older)) → Steps (join ∷ outer) frames fs
    joined y l join outer left unspent held older frames fs judged has placed goes_to waits stand fit =
        let m = most_moves in
        let j = goes_to.0 in
        let bound = placed.marked.0 in
        let f = put_in y word s.frame in
        let there = acts (Label l) [] ∷ j.left in
        let is : left_lines ≡ copies_to x y ∷ acts (Jump l) [] ∷ placed.after
        = placed.left_is ∙ ap (λ own. own ++ placed.after) placed.lines.0 in
        let t0 = turn_of (copies_to x y ∷ acts (Jump l) [] ∷ placed.after) s.frame fs s.world in
        let t1 = turn_of (acts (Jump l) [] ∷ placed.after) f fs s.world in
        let t2 = turn_of there f fs s.world in
        let t3 = turn_of j.left f fs s.world in
        let first = copy_runs (target program) (acts (Jump l) [] ∷ placed.after) s.frame fs s.world x y word
        (has.values.words x bound) in
        let second = jump_runs (target program) placed.after f fs s.world l there
        (finds l s.frame.whole j.start j.left has.formed j.stands) in
        let third = label_runs (target program) j.left f fs s.world l in
        let runs : Runs (target program) ((m + 2) + ((m + 2) + (m + 0))) (1 + (1 + 1)) t0 t3
        = runs_then (target program) (m + 2) ((m + 2) + (m + 0)) 1 (1 + 1) t0 t1 t3 first
        (runs_then (target program) (m + 2) (m + 0) 1 1 t1 t2 t3 second third) in
        let fits : FitsField (shape.holds y) value = subst (λ b. FitsField b value) (placed.marked.1 ∙ sym j.kind)
        (has.values.fits x bound) in
        let next = kept left unspent held older (join ∷ outer) frames judged in
        let none_held = judged.spends.0 in
        let to : Spot = record s {
          bound = y ∷ j.older;
          environment = record { variable = y; value = value } ∷ s.environment;
          frame = f;
        } in
        subst (λ ls. Follows_step program idle
        (token_at program (Tokened.give x) s.environment (join ∷ outer) frames s.heap tokens input)
        (turn_of ls s.frame fs s.world))
        (sym is)
        (by_lines program (1 + (1 + 1)) ((m + 2) + ((m + 2) + (m + 0))) form_cost (saved s.heap) idle
        (token_at program join.rest (record { variable = join.variable; value = value } ∷ s.environment) outer frames s.heap tokens
        input)
        t0 t3 runs (omega arith) (let few = j.placed.short in omega arith) (λ n. fit (suc n))
        (record {
          spot = to;
          fs = fs;
          left = j.left;
          environment_is = ap (λ z. record { variable = z; value = value } ∷ s.environment) j.variable_is;
          heap_is = refl;
          turn_is = refl;
          at = record {
            shape = shape;
            lists = record { left = next.0.left; unspent = next.0.unspent; held = held; older = older };
            judged = subst (λ h. IsJudged program.pool.cells next.0.left next.0.unspent h older join.rest outer frames s.heap tokens)
                (next.1.0.1.0 ∙ sym none_held)
                (subst (λ o. IsJudged program.pool.cells next.0.left next.0.unspent next.0.held o join.rest outer frames s.heap
                tokens) next.1.0.1.1 next.1.1);
            does = record { goal = j.goal; given = j.mark; placed = j.placed; continues = goes_to.1 };
            follows = stands;
            cells = cells;
            stand = stand;
            has = has_put shape s.address (length s.heap) (tokens.slots (length older)) held j.older s.environment s.frame
                (has_less shape s.address (length s.heap) (tokens.slots (length older)) held s.bound j.older s.environment s.frame
                has j.within) y value j.below fits (has.values.older x bound);
            waits = waits;
            input_is = input_is;
            bytes = bytes;
          };
        }))

    -- the run ends: no token is left
    ends : (left unspent held : List ℕ) → Judged left unspent held [] [] [] → Has held 0
        → Placed program shape returns given s.bound s.frame.whole (Tokened.give x) left_lines → Steps [] [] []
    ends left unspent held judged has placed fit =
        let m = most_moves in
        let nothing : s.frame.held ≡ [] = has.held_is ∙ ap (held_values (tokens.slots 0) shape.variables) judged.spends.0 in
        let is : left_lines ≡ acts Return (x ∷ []) ∷ placed.after
        = placed.left_is ∙ ap (λ own. own ++ placed.after) placed.lines.0 in
        let t0 = turn_of (acts Return (x ∷ []) ∷ placed.after) s.frame [] s.world in
        subst (λ ls. Follows_step program idle (token_at program (Tokened.give x) s.environment [] [] s.heap tokens input)
        (turn_of ls s.frame [] s.world)) (sym is)
        (by_lines program 1 (m + 3) form_cost (saved s.heap) idle
        ((upper program).step (token_at program (Tokened.give x) s.environment [] [] s.heap tokens input)).1 t0
        (ended (exited 0) s.world)
        (last_return_runs (target program) s.frame s.world placed.after x word (has.values.words x placed.marked.0) nothing)
        (omega arith) (omega (arith, some)) (λ n. fit (suc n))
        (record {
          world = s.world;
          turn_is = refl;
          address = s.address;
          owners = s.owners;
          follows = stands;
          none = λ e. none_aside_of none_marked_of;
        }))
      where
        none_unspent : (y : ℕ) → is_unspent (tokens.slots 0 y) ≡ false
        none_unspent y =
            judged.slots_are y ∙ judged.spends.1 y ∙ ap (λ (ys : List ℕ). is_among ys y) judged.waits

        no_mark : (f y p : ℕ) → tokens.marks p ≡ token_of f y → ⊥
        no_mark f y p is = by f (judged.are.pooled.slots f y p is)
          where
            by : (g : ℕ) → tokens.slots g y ≡ token p → ⊥
            by zero has_one = let both : true ≡ false = ap is_unspent (sym has_one) ∙ none_unspent y in cc
            by (suc g) has_one =
                let both : token p ≡ spent = sym has_one ∙ judged.are.beyond (suc g) y (omega arith) in cc

        none_marked_of : marked tokens.marks (length s.heap) ≡ 0
        none_marked_of = none_marked (length s.heap) tokens.marks (λ p less. by p (tokens.marks p) refl)
          where
            by : (p : ℕ) (mark : Mark) → tokens.marks p ≡ mark → one_if_token (tokens.marks p) ≡ 0
            by p plain is = ap one_if_token is
            by p (token_of f y) is = absurd (no_mark f y p is)

        none_aside_of : marked tokens.marks (length s.heap) ≡ 0 → NoneAside s.owners
        none_aside_of none = none_by_number program.aligned stands (cells.number ∙ none)

    by_goal : (goal : Goal) (inner : List TokenJoin) (left unspent held : List ℕ) (older : List (List ℕ)) (frames : List TokenFrame)
        (fs : List (Frame Line)) → Judged left unspent held older inner frames → Has held (length older)
        → Placed program shape goal given s.bound s.frame.whole (Tokened.give x) left_lines
        → Continues program shape s.frame.whole inner goal given s.bound
        → AllWait program s.address (length s.heap) tokens.slots older frames fs shape.result
        → AllStand program.layout shape.standing s.address s.owners (tokens.slots (length older)) → Steps inner frames fs
    by_goal returns (join ∷ outer) left unspent held older frames fs judged has placed goes_to waits stand = absurd goes_to
    by_goal (joins y l) [] left unspent held older frames fs judged has placed goes_to waits stand = absurd goes_to
    by_goal (joins y l) (join ∷ outer) left unspent held older frames fs judged has placed goes_to waits stand =
        joined y l join outer left unspent held older frames fs judged has placed goes_to waits stand
    by_goal returns [] left unspent held [] [] [] judged has placed goes_to waits stand = ends left unspent held judged has placed
    by_goal returns [] left unspent held [] [] (f ∷ fs) judged has placed goes_to waits stand = absurd waits
    by_goal returns [] left unspent held [] (waiting ∷ frames) fs judged has placed goes_to waits stand = absurd waits
    by_goal returns [] left unspent held (newest ∷ helds) [] fs judged has placed goes_to waits stand = absurd waits
    by_goal returns [] left unspent held (newest ∷ helds) (waiting ∷ frames) [] judged has placed goes_to waits stand = absurd waits
    by_goal returns [] left unspent held (newest ∷ helds) (waiting ∷ frames) (f ∷ fs) judged has placed goes_to waits stand =
        returned left unspent held newest helds waiting frames f fs judged has placed goes_to waits.0 waits.1

  pub at_give : (x : ℕ) → CodeSteps program (Tokened.give x)
  at_give x idle inner frames tokens input s fs left idle_is at fit =
      by_goal x idle s at.shape at.does.given left tokens input (omega (arith, idle_is)) at.bytes at.input_is at.follows at.cells
      at.does.goal inner at.lists.left at.lists.unspent at.lists.held at.lists.older frames fs at.judged at.has at.does.placed
      at.does.continues at.waits at.stand fit
