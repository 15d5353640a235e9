-- Lines of one form lead to those of the code behind it, in the same function: what is to be shown of the place where it goes on.
use Rattle.std.proofs.Common.{◌≡◌, ℕ, suc, ◌+◌, ◌<◌, ◌≤◌, ◌⊎◌, inl, inr, true, false, List, [], ◌∷◌, ◌++◌, length, flat_map, Option, Some, refl, sym, ◌∙◌, ap, subst, arith, append_assoc}
use Rattle.kk_base.specs.Trace.{Event}
use Rattle.kk_syntax.specs.Shapes.{is_among}
use Rattle.kk_source.specs.State.{Environment}
use Rattle.kk_source.specs.Notes.{events_of}
use Rattle.kk_source.specs.Actions.{Action, goes, builds, performed}
use Rattle.kk_counted.specs.BareForms.{bare}
use Rattle.kk_counted.specs.Heaps.{Heap}
use Rattle.kk_counted.specs.Lowerable.{AreNumbered}
use Rattle.kk_counted.specs.Marks.{HasMark}
use Rattle.kk_counted.specs.TokenKeeping.{Lists, IsJudged, ListsAfter, AreKeptBy}
use Rattle.kk_counted.specs.TokenMachine.{token_code_step, at_code, to_tokens}
use Rattle.kk_counted.specs.TokenRuns.{is_quiet, AllLead}
use Rattle.kk_counted.specs.TokenStates.{TokenJoin, TokenFrame, TokenControl, TokenConfiguration, TokenState}
use Rattle.kk_counted.specs.TokenedCodes.{Tokened}
use Rattle.kk_counted.specs.Tokens.{Tokens}
use Rattle.kk_counted.proofs.KeptFields.{KeepsAt, keeps_fills}
use Rattle.kk_counted.proofs.TokenChain.{frames_many}
use Rattle.kk_counted.proofs.TokenSteps.{follows}
use Rattle.kk_counted.proofs.TokenOnlyForms.{unseen}
use Rattle.rv_isa.specs.AsmCode.{Line}
use Rattle.rv_isa.specs.AsmMachine.{AsmTurn}
use Rattle.rv_isa.specs.Frames.{Frame}
use Rattle.rv_isa.specs.Processor.{Ending}
use Rattle.rv_isa.specs.WellFormed.{AreLinesFormed}
use Rattle.cell_runtime.specs.World.{World}
use Rattle.rv_lower.proofs.Orders.{split_at}
use Rattle.rv_cells.specs.TokenedLines.{CodeLines, HasSlots, Keeps}
use Rattle.rv_cells.proofs.Runs.{turn_of, Runs}
use Rattle.rv_cells.proofs.Spots.{Spot, Known, Here, Did, saved}
use Rattle.rv_cells.proofs.TokenOpenings.{LeadsTo}
use Rattle.rv_cells.specs.CountedCells.{Owner, Follows}
use Rattle.rv_cells.proofs.BoundVariables.{AreWithin, has_fewer, within_itself, within_one}
use Rattle.rv_cells.proofs.FormPlaces.{tree_in, Next, stands_behind}
use Rattle.rv_cells.proofs.Values.{HasValues, among_by}
use Rattle.rv_cells.proofs.TokenLineCosts.{forms}
use Rattle.rv_cells.proofs.TokenRelation.{lines_setting}
use Rattle.rv_cells.proofs.TokenRelation.{Placed, Does, IsAt, GivesUp, IsBehind, IsFilling, IsTurnWith, turn_here, Near, IsNear, HaveSlotValues, HaveTokenCells, AllStand, held_values, Lowering, setting, upper, known_of, Continues, continues_more, AllWait, At, IsFitFrom, Follow, by_lines, Follows_step}

-- ---- lines

-- From lines a spot comes to another, with these lines left, at this cost beyond what was saved, and older frames to other ones.
pub record LandsTo (known : Known) (most : ℕ) (start end : List Line) (fs gs : List (Frame Line)) (s t : Spot) : Type 0 where
  pub cost : ℕ
  pub steps : ℕ
  pub within : cost + saved t.heap ≤ most + saved s.heap
  pub runs : Runs known.target cost steps (turn_of start s.frame fs s.world) (turn_of end t.frame gs t.world)
  pub here : Here known t
  pub left : t.world.left ≡ s.world.left
  pub whole : t.frame.whole ≡ s.frame.whole
  pub function : t.frame.function ≡ s.frame.function

-- lines lead so to those that stand behind them
abbrev pub Lands : Known → ℕ → List Line → List Line → List (Frame Line) → List (Frame Line) → Spot → Spot → Type 0
Lands known most lines rest fs gs s t = LandsTo known most (lines ++ rest) rest fs gs s t

pub lands_did : {known : Known} {most : ℕ} {lines rest : List Line} {fs : List (Frame Line)} {s t : Spot}
    → Did known most lines rest fs s t → Lands known most lines rest fs fs s t
lands_did did = record {
  cost = did.cost;
  steps = did.steps;
  within = did.within;
  runs = did.runs;
  here = did.here;
  left = did.left;
  whole = did.whole;
  function = did.function;
}

pub lands_leads : {known : Known} {most : ℕ} {start end : List Line} {fs gs : List (Frame Line)} {s t : Spot} {written : List ℕ}
    → LeadsTo known most start end fs gs s t written → LandsTo known most start end fs gs s t
lands_leads leads = record {
  cost = leads.cost;
  steps = leads.steps;
  within = leads.within;
  runs = leads.runs;
  here = leads.here;
  left = leads.left;
  whole = leads.whole;
  function = leads.function;
}

module _ (program : Lowering) where
  -- the machine with tokens at a code
  abbrev pub machine_at : Tokened → Environment → List TokenJoin → List TokenFrame → Heap → Tokens → TokenConfiguration
  machine_at code environment inner frames heap tokens =
      record { control = TokenControl.running code environment inner; frames = frames; heap = heap; tokens = tokens }

  abbrev pub token_at : Tokened → Environment → List TokenJoin → List TokenFrame → Heap → Tokens → List ℕ → TokenState
  token_at code environment inner frames heap tokens input =
      record { machine = machine_at code environment inner frames heap tokens; input = input }

  -- The lines that are left from a spot on do the step of the machine with tokens at a code.
  abbrev pub StepsOn : ℕ → Tokened → List TokenJoin → List TokenFrame → Tokens → List ℕ → Spot → List (Frame Line) → List Line
      → Type 0
  StepsOn idle code inner frames tokens input s fs left =
      Follows_step program idle (token_at code s.environment inner frames s.heap tokens input) (turn_of left s.frame fs s.world)

  -- The step of each form, as its lines do it: one type for all of them.
  abbrev pub CodeSteps : Tokened → Type 0
  CodeSteps code =
      (idle : ℕ) (inner : List TokenJoin) (frames : List TokenFrame) (tokens : Tokens) (input : List ℕ) (s : Spot)
      (fs : List (Frame Line)) (left : List Line) → idle ≡ forms code → At program code inner frames tokens input s fs left
      → IsFitFrom program (token_at code s.environment inner frames s.heap tokens input)
      → StepsOn idle code inner frames tokens input s fs left

  -- a turn at a spot where a code stands, and one where lines are near it
  pub at_here : {code : Tokened} {inner : List TokenJoin} {frames : List TokenFrame} {tokens : Tokens} {input : List ℕ} {s : Spot}
      {fs : List (Frame Line)} {left : List Line} → At program code inner frames tokens input s fs left
      → IsAt program code s.environment inner (machine_at code s.environment inner frames s.heap tokens) input
      (turn_of left s.frame fs s.world)
  at_here {code = code} {inner = inner} {frames = frames} {tokens = tokens} {input = input} {s = s} {fs = fs} {left = left} at =
      turn_here (At program code inner frames tokens input) s fs left at

  pub near_here : (code : Tokened) (inner : List TokenJoin) (frames : List TokenFrame) (tokens : Tokens) (input : List ℕ) (s : Spot)
      (fs : List (Frame Line)) (left : List Line) → Follows program.pool program.layout s.address s.owners s.heap s.world.cells
      → IsBehind program code inner frames tokens input s fs left
      ⊎ (GivesUp program code inner frames tokens input s fs left ⊎ IsFilling program code inner frames tokens input s fs left)
      → IsNear program code s.environment inner (machine_at code s.environment inner frames s.heap tokens) input
      (turn_of left s.frame fs s.world)
  near_here code inner frames tokens input s fs left holds is =
      turn_here (Near program code inner frames tokens input) s fs left (record { follows = holds; near = is })

  -- the step of a code from a turn at a spot, by the step from there
  pub steps_at : (holds : Spot → List (Frame Line) → List Line → Type 0) (code : Tokened) (environment : Environment)
      (inner : List TokenJoin) (frames : List TokenFrame) (heap : Heap) (tokens : Tokens) (input : List ℕ) (idle : ℕ)
      (t : AsmTurn World Ending) (is : IsTurnWith holds environment heap t)
      → (IsFitFrom program (token_at code is.spot.environment inner frames is.spot.heap tokens input)
      → StepsOn idle code inner frames tokens input is.spot is.fs is.left)
      → IsFitFrom program (token_at code environment inner frames heap tokens input)
      → Follows_step program idle (token_at code environment inner frames heap tokens input) t
  steps_at holds code environment inner frames heap tokens input idle t is steps fit =
      let u = turn_of is.left is.spot.frame is.fs is.spot.world in
      let Steps : Environment → Heap → Type 0
      = λ e h. IsFitFrom program (token_at code e inner frames h tokens input)
      → Follows_step program idle (token_at code e inner frames h tokens input) u in
      subst (Follows_step program idle (token_at code environment inner frames heap tokens input)) (sym is.turn_is)
      (subst (Steps environment) is.heap_is (subst (λ e. Steps e is.spot.heap) is.environment_is steps) fit)

  -- an action as the world sees it
  abbrev pub seen_action : Action TokenConfiguration → List ℕ → List Event × TokenState
  seen_action action input = (flat_map events_of (performed action input).0, (performed action input).1)

  -- one that the world does not see
  abbrev pub IsSilent : (TokenConfiguration → Action TokenConfiguration) → Type 0
  IsSilent tells =
      (to : TokenConfiguration) (input : List ℕ)
      → seen_action (tells to) input ≡ ([], record { machine = to; input = input })

  pub silent_goes : IsSilent goes
  silent_goes to input = refl

  pub silent_builds : (n : ℕ) → IsSilent (builds n)
  silent_builds n to input = refl

  -- by what the step leads to
  pub does_by : (idle : ℕ) (s next : TokenState) (events : List Event) (t : AsmTurn World Ending)
      → (upper program).step s ≡ (events, next) → IsFitFrom program s
      → (IsFitFrom program next → Follow program ((upper program).weight s) (saved s.machine.heap) idle (events, next) t)
      → Follows_step program idle s t
  does_by idle s next events t is fit comes =
      subst (λ (to : List Event × TokenState). Follow program ((upper program).weight s) (saved s.machine.heap) idle to t)
      (sym is)
      (comes (subst (λ (to : List Event × TokenState). IsFitFrom program to.1) is (λ n. fit (suc n))))

  module _ (code : Tokened) (inner : List TokenJoin) (frames : List TokenFrame) (tokens : Tokens) (input : List ℕ) (s : Spot)
      (fs : List (Frame Line)) (left : List Line) (at : At program code inner frames tokens input s fs left) where
    abbrev pub from : TokenConfiguration
    from = machine_at code s.environment inner frames s.heap tokens

    -- the lists after a form that the bare form has, and after one that it does not have
    pub kept_after : KeepsAt (machine_at code s.environment inner frames s.heap tokens)
        (TokenControl.running code s.environment inner) → is_quiet code ≡ false
        → AllLead (AreKeptBy program.pool.cells (ListsAfter code inner at.lists)) (token_code_step (setting program) code s.environment inner
        (machine_at code s.environment inner frames s.heap tokens))
    kept_after keeps quiet = (follows (setting program) program.spends at.lists code s.environment inner
        (machine_at code s.environment inner frames s.heap tokens) at.judged
        (keeps_fills true (machine_at code s.environment inner frames s.heap tokens)
        (TokenControl.running code s.environment inner) keeps) quiet).keeps

    pub kept_quiet : (to : TokenConfiguration)
        → token_code_step (setting program) code s.environment inner (machine_at code s.environment inner frames s.heap tokens) ≡ goes to
        → is_quiet code ≡ true → AreKeptBy program.pool.cells (ListsAfter code inner at.lists) to
    kept_quiet to is quiet =
        let done = unseen (setting program) at.lists s.environment inner (machine_at code s.environment inner frames s.heap tokens)
        code at.judged quiet in
        let same : done.to ≡ to = goes_same (sym done.is ∙ is) in
        subst (AreKeptBy program.pool.cells (ListsAfter code inner at.lists)) same done.keeps
      where
        goes_same : {a b : TokenConfiguration} → goes a ≡ goes b → a ≡ b
        goes_same e = cc

    -- the rest of the code stands behind its own lines
    abbrev pub GoesTo : (rest : Tokened) (own more : List Line) (low : ℕ)
        → CodeLines (lines_setting program at.shape)
        at.shape.variables at.does.goal low rest more at.does.placed.high → Type 0
    GoesTo rest own more low lines =
        Next (tree_in (lines_setting program at.shape)
        at.shape.variables at.does.goal at.does.placed.low code at.does.placed.own at.does.placed.high at.does.placed.lines)
        own
        (tree_in (lines_setting program at.shape)
        at.shape.variables at.does.goal low rest more at.does.placed.high lines)

    -- Another code of the function stands where its lines are placed, with other values of the same variables, and temporaries.
    pub at_other : (next : Tokened) (there : List Line) (environment : Environment) (values : ℕ → Option ℕ)
        → Placed program at.shape at.does.goal at.does.given s.bound s.frame.whole next there
        → IsJudged program.pool.cells at.lists.left at.lists.unspent at.lists.held at.lists.older next inner frames s.heap tokens
        → HasValues program.layout s.address at.shape.holds (at.shape.variables + at.shape.slots)
        (length s.heap) s.bound environment
        values
        → HaveSlotValues s.address (tokens.slots (length at.lists.older)) at.shape.variables at.shape.slots values
        → At program next inner frames tokens input (record s {
          environment = environment;
          frame = record s.frame { cells = values };
        })
        fs there
    at_other next there environment values placed judged has_values slots_are = record {
      shape = at.shape;
      lists = at.lists;
      judged = judged;
      does = record {
        goal = at.does.goal;
        given = at.does.given;
        placed = placed;
        continues = at.does.continues;
      };
      follows = at.follows;
      cells = at.cells;
      stand = at.stand;
      has = record {
        values = has_values;
        below = at.has.below;
        tokens = slots_are;
        held_is = at.has.held_is;
        formed = at.has.formed;
        in_function = at.has.in_function;
      };
      waits = at.waits;
      input_is = at.input_is;
      bytes = at.bytes;
    }

    -- The code behind a form, which has own lines and leaves those of the code, where these variables are bound.
    pub record CodeBehind (rest : Tokened) (own more : List Line) (low : ℕ) (later : List ℕ) : Type 0 where
      pub parts : at.does.placed.own ≡ own ++ more
      pub lines : CodeLines (lines_setting program at.shape)
          at.shape.variables at.does.goal low rest more at.does.placed.high
      pub part_is : GoesTo rest own more low lines
      pub older : AreWithin s.bound later
      pub below : (x : ℕ) → is_among later x ≡ true → x < at.shape.variables
      pub marked : HasMark program.marks at.shape.holds at.shape.result later at.does.given (bare rest)
      pub numbered : AreNumbered at.shape.variables later (bare rest)
      pub has : HasSlots at.shape.slots rest
      pub keeps : Keeps at.shape.standing rest

    -- so it is behind a form that binds one variable
    pub behind_one : {rest : Tokened} {own more : List Line} (x : ℕ) → x < at.shape.variables → at.does.placed.own ≡ own ++ more
        → (low : ℕ)
        → (lines : CodeLines (lines_setting program at.shape) at.shape.variables at.does.goal low rest more at.does.placed.high)
        → GoesTo rest own more low lines
        → HasMark program.marks at.shape.holds at.shape.result (x ∷ s.bound) at.does.given (bare rest)
        → AreNumbered at.shape.variables (x ∷ s.bound) (bare rest) → HasSlots at.shape.slots rest → Keeps at.shape.standing rest
        → CodeBehind rest own more low (x ∷ s.bound)
    behind_one x under parts low lines part_is marked numbered has keeps = record {
      parts = parts;
      lines = lines;
      part_is = part_is;
      older = within_one x s.bound;
      below = λ z is. elim (among_by x s.bound z is) [
        | inl e ↦ omega (arith, e, under)
        | inr among ↦ at.has.below z among
      ];
      marked = marked;
      numbered = numbered;
      has = has;
      keeps = keeps;
    }

    -- the function at the rest of the code, behind these own lines of the code, with more variables bound
    abbrev pub does_behind : (rest : Tokened) (own more : List Line) (low : ℕ)
        (lines : CodeLines (lines_setting program at.shape) at.shape.variables at.does.goal low rest more at.does.placed.high)
        → GoesTo rest own more low lines → (whole : List Line) → s.frame.whole ≡ whole
        → whole ≡ (at.does.placed.before ++ own) ++ (more ++ at.does.placed.after) → (later : List ℕ) → AreWithin s.bound later
        → HasMark program.marks at.shape.holds at.shape.result later at.does.given (bare rest)
        → AreNumbered at.shape.variables later (bare rest) → HasSlots at.shape.slots rest → Keeps at.shape.standing rest
        → forms rest ≤ program.most → Does program at.shape later whole rest inner (more ++ at.does.placed.after)
    does_behind rest own more low lines part_is whole whole_is place later within marked numbered has keeps short =
        let p = at.does.placed in
        record {
          goal = at.does.goal;
          given = at.does.given;
          placed = record {
            before = p.before ++ own;
            own = more;
            after = p.after;
            low = low;
            high = p.high;
            lines = lines;
            left_is = refl;
            place = place;
            stands = stands_behind p.stands part_is;
            marked = marked;
            numbered = numbered;
            has = has;
            keeps = keeps;
            short = short;
          };
          continues = subst (λ w. Continues program at.shape w inner at.does.goal at.does.given later) whole_is
              (continues_more program at.shape s.frame.whole inner at.does.goal at.does.given s.bound later within
              at.does.continues);
        }

    -- What is to be shown of a spot, with older frames, tokens and lists, for a code to go on there behind some own lines.
    pub record GoesOn (rest : Tokened) (own more : List Line) (to : Spot) (gs : List (Frame Line)) (after : Tokens) (later : List ℕ)
        (next : Lists) : Type 0 where
      pub low : ℕ
      pub behind : CodeBehind rest own more low later
      pub within : AreWithin later to.bound
      pub judged : IsJudged program.pool.cells next.left next.unspent next.held next.older rest inner frames to.heap after
      pub cells : HaveTokenCells program.pool program.layout to.address to.owners to.heap after
      pub stand : AllStand program.layout at.shape.standing to.address to.owners (after.slots (length next.older))
      pub slots_are : HaveSlotValues to.address (after.slots (length next.older)) at.shape.variables at.shape.slots to.frame.cells
      pub held_is : to.frame.held ≡ held_values (after.slots (length next.older)) at.shape.variables next.held
      pub waits : AllWait program to.address (length to.heap) after.slots next.older frames gs at.shape.result

    -- so the code is there
    abbrev pub stands_on : (rest : Tokened) (own more : List Line) (to : Spot) (gs : List (Frame Line)) (after : Tokens) (later :
        List ℕ)
        (next : Lists) → Here (known_of program at.shape) to → to.world.left ≡ s.world.left → to.frame.whole ≡ s.frame.whole
        → to.frame.function ≡ s.frame.function → GoesOn rest own more to gs after later next → forms rest ≤ program.most
        → At program rest inner frames after input (record to { bound = later }) gs (more ++ at.does.placed.after)
    stands_on rest own more to gs after later next here left_is whole_is function_is on short =
        let p = at.does.placed in
        let b = on.behind in
        let whole : s.frame.whole ≡ to.frame.whole = sym whole_is in
        record {
          shape = at.shape;
          lists = next;
          judged = on.judged;
          does = does_behind rest own more on.low b.lines b.part_is to.frame.whole whole
              (whole_is ∙ split_at s.frame.whole p.before left own more p.after p.place
              (p.left_is ∙ ap (λ ls. ls ++ p.after) b.parts))
              later b.older b.marked b.numbered b.has b.keeps short;
          follows = here.follows;
          cells = on.cells;
          stand = on.stand;
          has = record {
            values = has_fewer here.values later on.within;
            below = b.below;
            tokens = on.slots_are;
            held_is = on.held_is;
            formed = subst AreLinesFormed whole at.has.formed;
            in_function = record {
              number = λ first. function_is ∙ at.has.in_function.number first;
              whole_is = whole_is ∙ at.has.in_function.whole_is;
              root_is = at.has.in_function.root_is;
            };
          };
          waits = on.waits;
          input_is = left_is ∙ at.input_is;
          bytes = at.bytes;
        }

    -- from lines, also where these are not the ones at which the code is
    pub goes_from : (idle : ℕ) (fit : IsFitFrom program (token_at code s.environment inner frames s.heap tokens input))
        (rest : Tokened) (own more start : List Line) (to : Spot) (gs : List (Frame Line)) (after : Tokens) (later : List ℕ)
        (next : Lists) (most : ℕ) (tells : TokenConfiguration → Action TokenConfiguration)
        → LandsTo (known_of program at.shape) most start (more ++ at.does.placed.after) fs gs s to
        → GoesOn rest own more to gs after later next → IsSilent tells
        → most ≤ (upper program).weight (token_at code s.environment inner frames s.heap tokens input)
        → (upper program).step (token_at code s.environment inner frames s.heap tokens input)
        ≡ seen_action (tells (machine_at rest to.environment inner frames to.heap after)) input
        → suc (forms rest) ≤ idle → forms rest ≤ program.most
        → Follows_step program idle (token_at code s.environment inner frames s.heap tokens input)
        (turn_of start s.frame fs s.world)
    goes_from idle fit rest own more first to gs after later next most tells lands on silent cheap is less short =
        let p = at.does.placed in
        let landed : Spot = record to { bound = later } in
        let start = token_at code s.environment inner frames s.heap tokens input in
        let end = token_at rest to.environment inner frames to.heap after input in
        let t0 = turn_of first s.frame fs s.world in
        let t1 = turn_of (more ++ p.after) to.frame gs to.world in
        let cheap_run = lands.within in
        does_by idle start end [] t0 (is ∙ silent (machine_at rest to.environment inner frames to.heap after) input) fit
        (λ fits. by_lines program lands.steps lands.cost ((upper program).weight start) (saved s.heap) idle end t0 t1 lands.runs
        (omega (arith, cheap, cheap_run)) (omega (arith, less)) fits
        (at_here (stands_on rest own more to gs after later next lands.here lands.left lands.whole lands.function on short)))

    pub goes_on : (idle : ℕ) (fit : IsFitFrom program (token_at code s.environment inner frames s.heap tokens input))
        (rest : Tokened) (own more : List Line) (to : Spot) (gs : List (Frame Line)) (after : Tokens) (later : List ℕ) (next :
        Lists)
        (most : ℕ) (tells : TokenConfiguration → Action TokenConfiguration)
        → Lands (known_of program at.shape) most own (more ++ at.does.placed.after) fs gs s to
        → GoesOn rest own more to gs after later next → IsSilent tells
        → most ≤ (upper program).weight (token_at code s.environment inner frames s.heap tokens input)
        → (upper program).step (token_at code s.environment inner frames s.heap tokens input)
        ≡ seen_action (tells (machine_at rest to.environment inner frames to.heap after)) input
        → suc (forms rest) ≤ idle → forms rest ≤ program.most
        → Follows_step program idle (token_at code s.environment inner frames s.heap tokens input) (turn_of left s.frame fs s.world)
    goes_on idle fit rest own more to gs after later next most tells lands on silent cheap is less short =
        let p = at.does.placed in
        let own_is : left ≡ own ++ (more ++ p.after)
        = p.left_is ∙ ap (λ ls. ls ++ p.after) on.behind.parts ∙ append_assoc own more p.after in
        subst (λ ls. Follows_step program idle (token_at code s.environment inner frames s.heap tokens input)
        (turn_of ls s.frame fs s.world)) (sym own_is)
        (goes_from idle fit rest own more (own ++ (more ++ p.after)) to gs after later next most tells lands on silent cheap is less
        short)

    -- What is known of a code that does something with tokens alone, by one line: the code behind it has the same variables.
    pub record ActsOnTokens (rest : Tokened) (line : Line) (more : List Line) : Type 0 where
      pub forms_are : forms code ≡ suc (forms rest)
      pub behind : CodeBehind rest (line ∷ []) more at.does.placed.low s.bound

    -- That line stands in front of the lines of the code behind it, and the code says no more without its tokens than that one.
    pub acts_by : (rest : Tokened) (line : Line)
        → (lines : (more : List Line) × CodeLines (lines_setting program at.shape)
        at.shape.variables at.does.goal at.does.placed.low rest more at.does.placed.high
        × (at.does.placed.own ≡ line ∷ more))
        → forms code ≡ suc (forms rest) → bare code ≡ bare rest
        → GoesTo rest (line ∷ []) lines.0 at.does.placed.low lines.1 → HasSlots at.shape.slots rest → Keeps at.shape.standing rest
        → ActsOnTokens rest line lines.0
    acts_by rest line lines forms_are bare_is part_is has keeps = record {
      forms_are = forms_are;
      behind = record {
        parts = lines.2;
        lines = lines.1;
        part_is = part_is;
        older = within_itself s.bound;
        below = at.has.below;
        marked = subst (HasMark program.marks at.shape.holds at.shape.result s.bound at.does.given) bare_is at.does.placed.marked;
        numbered = subst (AreNumbered at.shape.variables s.bound) bare_is at.does.placed.numbered;
        has = has;
        keeps = keeps;
      };
    }

    -- the step of such a code, by what becomes of the tokens, for which the number of the newest frame is told
    pub tokens_step : (rest : Tokened) (does : ℕ → Option Tokens) (after : Tokens) → does (length at.lists.older) ≡ Some after
        → goes (to_tokens (does (length frames)) (machine_at code s.environment inner frames s.heap tokens)
        (at_code rest s.environment inner (machine_at code s.environment inner frames s.heap tokens)))
        ≡ goes (machine_at rest s.environment inner frames s.heap after)
    tokens_step rest does after is =
        let before = machine_at code s.environment inner frames s.heap tokens in
        ap (λ o. goes (to_tokens o before (at_code rest s.environment inner before)))
        (ap does (frames_many tokens.slots at.lists.older frames at.judged.waiting) ∙ is)

    -- what is to be shown of the tokens behind it, by their lists, where a spot has this heap still
    pub record HasTokens (rest : Tokened) (to : Spot) (after : Tokens) (next : Lists) : Type 0 where
      pub judged : IsJudged program.pool.cells next.left next.unspent next.held next.older rest inner frames s.heap after
      pub cells : HaveTokenCells program.pool program.layout to.address to.owners s.heap after
      pub stand : AllStand program.layout at.shape.standing to.address to.owners (after.slots (length next.older))
      pub slots_are : HaveSlotValues to.address (after.slots (length next.older)) at.shape.variables at.shape.slots to.frame.cells
      pub held_is : to.frame.held ≡ held_values (after.slots (length next.older)) at.shape.variables next.held
      pub waits : AllWait program to.address (length s.heap) after.slots next.older frames fs at.shape.result

    pub acts_on_tokens : (idle : ℕ) → idle ≡ forms code
        → (fit : IsFitFrom program (token_at code s.environment inner frames s.heap tokens input))
        → (rest : Tokened) (line : Line) (more : List Line) → ActsOnTokens rest line more
        → (frame : Frame Line) (owners : ℕ → Owner) (world : World) (after : Tokens) (next : Lists) (most : ℕ)
        → Lands (known_of program at.shape) most (line ∷ []) (more ++ at.does.placed.after) fs fs s
        (record s { frame = frame; owners = owners; world = world })
        → HasTokens rest (record s { frame = frame; owners = owners; world = world }) after next
        → most ≤ (upper program).weight (token_at code s.environment inner frames s.heap tokens input)
        → token_code_step (setting program) code s.environment inner (machine_at code s.environment inner frames s.heap tokens)
        ≡ goes (machine_at rest s.environment inner frames s.heap after)
        → Follows_step program idle (token_at code s.environment inner frames s.heap tokens input) (turn_of left s.frame fs s.world)
    acts_on_tokens idle idle_is fit rest line more acts frame owners world after next most lands has cheap step =
        let few = at.does.placed.short in
        let forms_are = acts.forms_are in
        goes_on idle fit rest (line ∷ []) more (record s { frame = frame; owners = owners; world = world }) fs after s.bound
        next most goes lands
        (record {
          low = at.does.placed.low;
          behind = acts.behind;
          within = within_itself s.bound;
          judged = has.judged;
          cells = has.cells;
          stand = has.stand;
          slots_are = has.slots_are;
          held_is = has.held_is;
          waits = has.waits;
        })
        silent_goes cheap (ap (λ action. seen_action action input) step) (omega (arith, idle_is, forms_are))
        (omega (arith, few, forms_are))
