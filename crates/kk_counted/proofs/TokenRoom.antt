-- Code with tokens costs no more than its bare form with room for them: each form that pays room saves what tokens cost ahead.
use Rattle.std.proofs.Common.{◌≡◌, ℕ, zero, suc, ◌+◌, ◌≤◌, Bool, true, false, List, [], ◌∷◌, map, length, Option, Some, None, arith, refl}
use Rattle.std.specs.Prelude.{max, if◌then◌else◌, nat_le, slice_get, slice_index_or}
use Rattle.kk_base.specs.Machines.{Machine, weight_of}
use Rattle.kk_base.specs.Agreements.{Agree}
use Rattle.kk_source.specs.Notes.{Note}
use Rattle.kk_source.specs.State.{Value, unit, place, Environment, End, stack_full}
use Rattle.kk_source.specs.Actions.{Action, print_step}
use Rattle.kk_source.specs.FormEffects.{FormEffect, gives, prints, reads, makes, enters, effect_step, form_effect, byte_value}
use Rattle.kk_source.specs.Live.{value_of}
use Rattle.kk_source.specs.Matching.{and_then}
use Rattle.kk_core.specs.CoreMachine.{bind_fields}
use Rattle.kk_core.specs.Decisions.{chosen}
use Rattle.kk_counted.specs.BareForms.{bare}
use Rattle.kk_counted.specs.CountedCosts.{code_cost, room_at, roomy_cost}
use Rattle.kk_counted.specs.CountedMachine.{Named, cell_named, counted_machine, NotStuck}
use Rattle.kk_counted.specs.CountedStates.{CountedState, counted_first_state}
use Rattle.kk_counted.specs.Heaps.{Heap, cell_at, fields_held}
use Rattle.kk_counted.specs.Keeping.{counted_after}
use Rattle.kk_counted.specs.TokenCosts.{tokened_cost, token_cost, tokens_ahead, room_needed, arms_need_room, HasRoom, AreStatesKept}
use Rattle.kk_counted.specs.TokenKeeping.{FillsAlways}
use Rattle.kk_counted.specs.TokenMachine.{at_code, bound_to, to_heap, to_tokens, tokened_arm_at, token_case_step, token_give_step, in_body, token_tail_step, token_read_step, to_opened, token_open_step, make_step, filled, fill_step, token_call_step, token_code_step, token_at_end, token_machine}
use Rattle.kk_counted.specs.TokenRuns.{is_quiet, bare_weight, AllLead, IsSameRun}
use Rattle.kk_counted.specs.TokenSpending.{AreTokensSpent}
use Rattle.kk_counted.specs.TokenStates.{TokenSetting, TokenJoin, TokenFrame, TokenControl, TokenConfiguration, TokenState, no_tokened, token_first_state, bare_setting}
use Rattle.kk_counted.specs.TokenedCodes.{Tokened, TokenedArms, TokenedFunction}
use Rattle.kk_counted.specs.Tokens.{Slot, spent, null, token, Mark, is_of, is_token, Tokens, released, by_slot, Room, has_room, no_room, no_token}
use Rattle.kk_counted.proofs.TokenRuns.{led_kept, same_run}
use Rattle.kk_counted.proofs.TokenStates.{states_are_bare}

-- what is ahead at a code is among what is ahead at its places
ahead_needed : (code : Tokened) → tokens_ahead code ≤ room_needed code
ahead_needed (Tokened.give x) = omega arith
ahead_needed (Tokened.tail_call f arguments) = omega arith
ahead_needed (Tokened.case x decisions arms) = omega arith
ahead_needed (Tokened.compute x form arguments others rest) = omega arith
ahead_needed (Tokened.inside x block rest) = omega arith
ahead_needed (Tokened.read x c fields rest) = omega arith
ahead_needed (Tokened.open_cell x c fields used y rest) = omega arith
ahead_needed (Tokened.if_unique x c fields used y rest) = omega arith
ahead_needed (Tokened.dup x rest) = ahead_needed rest
ahead_needed (Tokened.drop x rest) = ahead_needed rest
ahead_needed (Tokened.fill x y c first arguments kept others rest) = omega arith
ahead_needed (Tokened.free y rest) = omega arith
ahead_needed (Tokened.null y rest) = omega arith
ahead_needed (Tokened.move to of rest) = omega arith
ahead_needed (Tokened.hold y rest) = omega arith
ahead_needed (Tokened.unhold y rest) = omega arith
ahead_needed (Tokened.if_token y there absent) = omega arith

-- one of two
either_leads : {A : Type 0} (P : A → Type 0) (b : Bool) (first second : A) → P first → P second → P (if b then first else second)
either_leads P true first second one other = one
either_leads P false first second one other = other

-- whatever a slot has
slot_leads : {A : Type 0} (P : A → Type 0) (wrong nothing : A) (cell : ℕ → A) (f y : ℕ) (slot : Slot) (marks : ℕ → Mark)
    → P wrong → P nothing → ((p : ℕ) → P (cell p)) → P (by_slot wrong nothing cell f y slot marks)
slot_leads P wrong nothing cell f y spent marks one other each = one
slot_leads P wrong nothing cell f y null marks one other each = other
slot_leads P wrong nothing cell f y (token p) marks one other each =
    either_leads P (is_of f y (marks p)) (cell p) wrong (each p) one

module _ (room : ℕ) where
  -- ---- states in whose code there is room

  abbrev JoinsHaveRoom : List TokenJoin → Type 0
  JoinsHaveRoom [] = Unit {0}
  JoinsHaveRoom (join ∷ joins) = (room_needed join.rest ≤ room) × JoinsHaveRoom joins

  abbrev FramesHaveRoom : List TokenFrame → Type 0
  FramesHaveRoom [] = Unit {0}
  FramesHaveRoom (frame ∷ frames) = ((room_needed frame.rest ≤ room) × JoinsHaveRoom frame.joins) × FramesHaveRoom frames

  -- so much is saved, enough for what is ahead
  abbrev ControlHasRoom : ℕ → TokenControl → Type 0
  ControlHasRoom saved (TokenControl.running code environment joins) =
      (tokens_ahead code ≤ saved) × ((room_needed code ≤ room) × JoinsHaveRoom joins)
  ControlHasRoom saved _ = Unit {0}

  abbrev IsRoomy : ℕ → TokenConfiguration → Type 0
  IsRoomy saved c = ControlHasRoom saved c.control × FramesHaveRoom c.frames

  ahead_within : (code : Tokened) → room_needed code ≤ room → tokens_ahead code ≤ room
  ahead_within code fits = omega (arith, ahead_needed code, fits)

  heap_leads : (saved : ℕ) (result : Option Heap) (from to : TokenConfiguration) → FramesHaveRoom from.frames → IsRoomy saved to
      → IsRoomy saved (to_heap result from to)
  heap_leads saved None from to frames leads = (tt, frames)
  heap_leads saved (Some heap) from to frames leads = leads

  tokens_lead : (saved : ℕ) (result : Option Tokens) (from to : TokenConfiguration) → FramesHaveRoom from.frames → IsRoomy saved to
      → IsRoomy saved (to_tokens result from to)
  tokens_lead saved None from to frames leads = (tt, frames)
  tokens_lead saved (Some tokens) from to frames leads = leads

  give_leads : (v : Value) (joins : List TokenJoin) (frames : List TokenFrame) (environment : Environment)
      (from : TokenConfiguration)
      → JoinsHaveRoom joins → FramesHaveRoom frames → FramesHaveRoom from.frames
      → AllLead (IsRoomy room) (token_give_step v joins frames environment from)
  give_leads v (join ∷ joins) frames environment from fit older waiting =
      ((ahead_within join.rest fit.0, (fit.0, fit.1)), waiting)
  give_leads v [] (frame ∷ frames) environment from fit older waiting =
      ((ahead_within frame.rest older.0.0, (older.0.0, older.0.1)), older.1)
  give_leads v [] [] environment from fit older waiting = (tt, waiting)

  case_leads : (row : Option ℕ) (arms : TokenedArms) (environment : Environment) (joins : List TokenJoin)
      (from : TokenConfiguration)
      → arms_need_room arms ≤ room → JoinsHaveRoom joins → FramesHaveRoom from.frames
      → AllLead (IsRoomy room) (token_case_step (and_then row (tokened_arm_at arms)) environment joins from)
  case_leads None arms environment joins from fits fit frames = (tt, frames)
  case_leads (Some row) arms environment joins from fits fit frames = by_row arms row fits
    where
      by_row : (arms : TokenedArms) (row : ℕ) → arms_need_room arms ≤ room
          → AllLead (IsRoomy room) (token_case_step (tokened_arm_at arms row) environment joins from)
      by_row TokenedArms.no_arm row fits = (tt, frames)
      by_row (TokenedArms.arm body others) zero fits =
          let here : room_needed body ≤ room = omega (arith, fits) in ((ahead_within body here, (here, fit)), frames)
      by_row (TokenedArms.arm body others) (suc row) fits = by_row others row (omega (arith, fits))

  made_leads : (cell : Room) (c : ℕ) (fields : List Value) (to : Value → TokenConfiguration) (from : TokenConfiguration)
      → FramesHaveRoom from.frames → ((v : Value) → IsRoomy room (to v)) → AllLead (IsRoomy room) (make_step cell c fields to from)
  made_leads no_room c fields to from frames leads = (tt, frames)
  made_leads no_token c fields to from frames leads = (tt, frames)
  made_leads (has_room tokens) c fields to from frames leads = leads (place (length from.heap))

  print_leads : (piece : List ℕ) (to : TokenConfiguration) → IsRoomy room to → AllLead (IsRoomy room) (print_step piece to)
  print_leads [] to leads = leads
  print_leads (byte ∷ bytes) to leads = leads

  effect_leads : (at : Value → TokenConfiguration) (make enter : ℕ → List Value → Action TokenConfiguration)
      → ((v : Value) → IsRoomy room (at v))
      → ((c : ℕ) (fields : List Value) → AllLead (IsRoomy room) (make c fields))
      → ((f : ℕ) (arguments : List Value) → AllLead (IsRoomy room) (enter f arguments))
      → (effect : FormEffect) → AllLead (IsRoomy room) (effect_step at make enter effect)
  effect_leads at make enter leads made entered (gives v) = leads v
  effect_leads at make enter leads made entered (prints piece) = print_leads piece (at unit) (leads unit)
  effect_leads at make enter leads made entered reads = λ byte. leads (byte_value byte)
  effect_leads at make enter leads made entered (makes c fields) = made c fields
  effect_leads at make enter leads made entered (enters f arguments) = entered f arguments

  open_leads : (named : Option Named) (heap : Named → Option Heap) (fields : List ℕ) (y : ℕ) (rest : Tokened)
      (environment : Environment) (joins : List TokenJoin) (from : TokenConfiguration)
      → room_needed rest ≤ room → JoinsHaveRoom joins → FramesHaveRoom from.frames
      → AllLead (IsRoomy room) (token_open_step named heap fields y rest environment joins from)
  open_leads None heap fields y rest environment joins from fits fit frames = (tt, frames)
  open_leads (Some named) heap fields y rest environment joins from fits fit frames = by (heap named)
    where
      by : (result : Option Heap) → IsRoomy room
          (to_opened result named.at y from (at_code rest (bind_fields fields named.fields environment) joins from))
      by None = (tt, frames)
      by (Some after) = ((ahead_within rest fits, (fits, fit)), frames)

  read_leads : (named : Option Named) (fields : List ℕ) (rest : Tokened) (environment : Environment) (joins : List TokenJoin)
      (from : TokenConfiguration)
      → room_needed rest ≤ room → JoinsHaveRoom joins → FramesHaveRoom from.frames
      → AllLead (IsRoomy room) (token_read_step named fields rest environment joins from)
  read_leads None fields rest environment joins from fits fit frames = (tt, frames)
  read_leads (Some named) fields rest environment joins from fits fit frames = ((ahead_within rest fits, (fits, fit)), frames)

  -- what is saved when the step at a code is taken: where it pays room that, and else what is then ahead
  abbrev saved_after : Tokened → ℕ
  saved_after (Tokened.dup x rest) = tokens_ahead rest
  saved_after (Tokened.drop x rest) = tokens_ahead rest
  saved_after (Tokened.free y rest) = tokens_ahead rest
  saved_after (Tokened.null y rest) = tokens_ahead rest
  saved_after (Tokened.move to of rest) = tokens_ahead rest
  saved_after (Tokened.hold y rest) = tokens_ahead rest
  saved_after (Tokened.unhold y rest) = tokens_ahead rest
  saved_after (Tokened.if_token y there absent) = max (tokens_ahead there) (tokens_ahead absent)
  saved_after _ = room

  -- ---- one step

  module _ (setting : TokenSetting) (fits_all : HasRoom room setting.program) where
    tail_leads : (f : ℕ) (found : Option TokenedFunction) (values : List Value) (from : TokenConfiguration)
        → slice_get setting.program.functions f ≡ found → FramesHaveRoom from.frames
        → AllLead (IsRoomy room) (token_tail_step found values from)
    tail_leads f None values from there frames = (tt, frames)
    tail_leads f (Some function) values from there frames =
        let fits = fits_all f function there in ((ahead_within function.body fits, (fits, tt)), frames)

    call_leads : (f : ℕ) (found : Option TokenedFunction) (values : List Value) (waiting : TokenFrame) (from : TokenConfiguration)
        → slice_get setting.program.functions f ≡ found → room_needed waiting.rest ≤ room → JoinsHaveRoom waiting.joins
        → FramesHaveRoom from.frames
        → AllLead (IsRoomy room) (token_call_step setting found values waiting from)
    call_leads f None values waiting from there fits fit frames = (tt, frames)
    call_leads f (Some function) values waiting from there fits fit frames =
        let inner = fits_all f function there in
        either_leads (IsRoomy room) (nat_le setting.depth (suc (length from.frames))) (token_at_end stack_full from)
        (in_body function values (record from { frames = waiting ∷ from.frames })) (tt, frames)
        ((ahead_within function.body inner, (inner, tt)), ((fits, fit), frames))

    fill_leads : (y c : ℕ) (fields : List Value) (kept others : List ℕ) (to : Value → TokenConfiguration)
        (from : TokenConfiguration)
        → FramesHaveRoom from.frames → ((v : Value) → IsRoomy room (to v))
        → AllLead (IsRoomy room) (fill_step setting y c fields kept others to from)
    fill_leads y c fields kept others to from frames leads =
        slot_leads (AllLead (IsRoomy room)) _ _ _ (length from.frames) y (from.tokens.slots (length from.frames) y)
        from.tokens.marks (tt, frames) (made_leads _ c fields to from frames leads)
        (λ p. made_leads (has_room (released (length from.frames) y p spent from.tokens)) c
        (filled setting.leaves kept (fields_held from.heap p) fields) to from frames leads)

    leads : (code : Tokened) (environment : Environment) (joins : List TokenJoin) (from : TokenConfiguration)
        → room_needed code ≤ room → JoinsHaveRoom joins → FramesHaveRoom from.frames
        → AllLead (IsRoomy (saved_after code)) (token_code_step setting code environment joins from)
    leads (Tokened.give x) environment joins from fits fit frames =
        give_leads (value_of environment x) joins from.frames environment from fit frames frames
    leads (Tokened.tail_call f arguments) environment joins from fits fit frames =
        tail_leads f (slice_get setting.program.functions f) (map (value_of environment) arguments) from refl frames
    leads (Tokened.case x decisions arms) environment joins from fits fit frames =
        case_leads (chosen (cell_at from.heap) (value_of environment x) decisions) arms environment joins from fits fit frames
    leads (Tokened.compute x form arguments others rest) environment joins from fits fit frames =
        let behind : room_needed rest ≤ room = omega (arith, fits) in
        let at : (v : Value) → IsRoomy room (bound_to x v rest environment joins from)
        = λ v. ((ahead_within rest behind, (behind, fit)), frames) in
        effect_leads (λ v. bound_to x v rest environment joins from) _ _ at
        (λ c fields. made_leads _ c fields (λ v. bound_to x v rest environment joins from) from frames at)
        (λ f values. call_leads f (slice_get setting.program.functions f) values
        (record { variable = x; rest = rest; joins = joins; environment = environment }) from refl behind fit frames)
        (form_effect setting.program.texts form (map (value_of environment) arguments))
    leads (Tokened.inside x block rest) environment joins from fits fit frames =
        let here : room_needed block ≤ room = omega (arith, fits) in
        let behind : room_needed rest ≤ room = omega (arith, fits) in
        ((ahead_within block here, (here, (behind, fit))), frames)
    leads (Tokened.read x c fields rest) environment joins from fits fit frames =
        read_leads (cell_named c (length fields) from.heap (value_of environment x)) fields rest environment joins from fits fit
        frames
    leads (Tokened.open_cell x c fields used y rest) environment joins from fits fit frames =
        open_leads (cell_named c (length fields) from.heap (value_of environment x)) _ fields y rest environment joins from fits fit
        frames
    leads (Tokened.if_unique x c fields used y rest) environment joins from fits fit frames =
        open_leads (cell_named c (length fields) from.heap (value_of environment x)) _ fields y rest environment joins from fits fit
        frames
    leads (Tokened.dup x rest) environment joins from fits fit frames =
        heap_leads (tokens_ahead rest) _ from (at_code rest environment joins from) frames ((omega arith, (fits, fit)), frames)
    leads (Tokened.drop x rest) environment joins from fits fit frames =
        heap_leads (tokens_ahead rest) _ from (at_code rest environment joins from) frames ((omega arith, (fits, fit)), frames)
    leads (Tokened.fill x y c first arguments kept others rest) environment joins from fits fit frames =
        let behind : room_needed rest ≤ room = omega (arith, fits) in
        fill_leads y c (map (value_of environment) (first ∷ arguments)) kept others (λ v. bound_to x v rest environment joins from)
        from frames (λ v. ((ahead_within rest behind, (behind, fit)), frames))
    leads (Tokened.free y rest) environment joins from fits fit frames =
        tokens_lead (saved_after (Tokened.free y rest)) _ from (at_code rest environment joins from) frames
        ((omega arith, (omega (arith, fits), fit)), frames)
    leads (Tokened.null y rest) environment joins from fits fit frames = ((omega arith, (omega (arith, fits), fit)), frames)
    leads (Tokened.move to of rest) environment joins from fits fit frames =
        tokens_lead (saved_after (Tokened.move to of rest)) _ from (at_code rest environment joins from) frames
        ((omega arith, (omega (arith, fits), fit)), frames)
    leads (Tokened.hold y rest) environment joins from fits fit frames =
        tokens_lead (saved_after (Tokened.hold y rest)) _ from (at_code rest environment joins from) frames
        ((omega arith, (omega (arith, fits), fit)), frames)
    leads (Tokened.unhold y rest) environment joins from fits fit frames =
        tokens_lead (saved_after (Tokened.unhold y rest)) _ from (at_code rest environment joins from) frames
        ((omega arith, (omega (arith, fits), fit)), frames)
    leads (Tokened.if_token y there absent) environment joins from fits fit frames =
        by (is_token (from.tokens.slots (length from.frames) y))
      where
        by : (b : Bool)
            → IsRoomy (saved_after (Tokened.if_token y there absent))
            (at_code (if b then there else absent) environment joins from)
        by true = ((omega arith, (omega (arith, fits), fit)), frames)
        by false = ((omega arith, (omega (arith, fits), fit)), frames)

    -- ---- what a step costs, and what is saved then

    -- a form that pays room
    paying : (cost others credit : ℕ) → others ≤ credit → (cost + others) + room ≤ (room + cost) + credit
    paying cost others credit enough = omega (arith, enough)

    abbrev Costs : Tokened → Environment → Heap → ℕ → Type 0
    Costs code environment heap credit =
        tokened_cost code environment heap + saved_after code
        ≤ (if is_quiet code then 0 else room_at room (bare code) + code_cost (bare code) environment heap) + credit

    costs : (code : Tokened) (environment : Environment) (heap : Heap) (credit : ℕ) → tokens_ahead code ≤ credit
        → Costs code environment heap credit
    costs (Tokened.give x) environment heap credit enough = paying _ 0 credit enough
    costs (Tokened.tail_call f arguments) environment heap credit enough = paying _ 0 credit enough
    costs (Tokened.case x decisions arms) environment heap credit enough = paying _ 0 credit enough
    costs (Tokened.compute x form arguments others rest) environment heap credit enough = paying _ _ credit enough
    costs (Tokened.inside x block rest) environment heap credit enough = paying _ 0 credit enough
    costs (Tokened.read x c fields rest) environment heap credit enough = paying _ 0 credit enough
    costs (Tokened.open_cell x c fields used y rest) environment heap credit enough = paying _ 0 credit enough
    costs (Tokened.if_unique x c fields used y rest) environment heap credit enough = paying _ 0 credit enough
    costs (Tokened.dup x rest) environment heap credit enough = omega (arith, enough)
    costs (Tokened.drop x rest) environment heap credit enough = omega (arith, enough)
    costs (Tokened.fill x y c first arguments kept others rest) environment heap credit enough = paying _ _ credit enough
    costs (Tokened.free y rest) environment heap credit enough = omega (arith, enough)
    costs (Tokened.null y rest) environment heap credit enough = omega (arith, enough)
    costs (Tokened.move to of rest) environment heap credit enough = omega (arith, enough)
    costs (Tokened.hold y rest) environment heap credit enough = omega (arith, enough)
    costs (Tokened.unhold y rest) environment heap credit enough = omega (arith, enough)
    costs (Tokened.if_token y there absent) environment heap credit enough = omega (arith, enough)

    -- ---- whole runs

    abbrev lower : (TokenState → ℕ) → Machine TokenState Note End
    lower weight = token_machine weight setting

    abbrev roomy : TokenState → ℕ
    roomy = bare_weight (roomy_cost room)

    -- after a step there is room again, and what it cost and what is saved were paid
    record Pays (credit : ℕ) (t : TokenState) : Type 0 where
      after : ℕ
      room_is : IsRoomy after ((lower token_cost).step t).1.machine
      paid : (lower token_cost).weight t + after ≤ (lower roomy).weight t + credit

    pays : (credit : ℕ) (t : TokenState) → IsRoomy credit t.machine → Pays credit t
    pays credit t fine = by t.machine.control t.machine.frames t.machine.heap t.machine.tokens t.input fine
      where
        by : (control : TokenControl) (frames : List TokenFrame) (heap : Heap) (tokens : Tokens) (input : List ℕ)
            → IsRoomy credit (record { control = control; frames = frames; heap = heap; tokens = tokens })
            → Pays credit (record {
              machine = record { control = control; frames = frames; heap = heap; tokens = tokens };
              input = input;
            })
        by (TokenControl.running code environment joins) frames heap tokens input fine =
            let from : TokenConfiguration
            = record { control = TokenControl.running code environment joins; frames = frames; heap = heap; tokens = tokens } in
            record {
              after = saved_after code;
              room_is =
                  led_kept (IsRoomy (saved_after code)) (token_code_step setting code environment joins from) input
                  (leads code environment joins from fine.0.1.0 fine.0.1.1 fine.1);
              paid = costs code environment heap credit fine.0.0;
            }
        by (TokenControl.stopped end) frames heap tokens input fine =
            record { after = 0; room_is = (tt, fine.1); paid = omega arith }
        by TokenControl.stuck frames heap tokens input fine = record { after = 0; room_is = (tt, fine.1); paid = omega arith }

    all_paid : (n credit : ℕ) (t : TokenState) → IsRoomy credit t.machine
        → weight_of (lower token_cost) n t ≤ weight_of (lower roomy) n t + credit
    all_paid zero credit t fine = omega arith
    all_paid (suc n) credit t fine =
        let one : Pays credit t = pays credit t fine in
        omega (arith, one.paid, all_paid n one.after ((lower token_cost).step t).1 one.room_is)

    starts : (input : List ℕ) → IsRoomy room (token_first_state setting input).machine
    starts input = ((ahead_within body fits, (fits, tt)), tt)
      where
        body : Tokened
        body = (slice_index_or setting.program.functions setting.program.main no_tokened).body

        main_fits : (functions : List TokenedFunction) (n : ℕ)
            → ((f : ℕ) (function : TokenedFunction) → slice_get functions f ≡ Some function → room_needed function.body ≤ room)
            → room_needed (slice_index_or functions n no_tokened).body ≤ room
        main_fits [] n each = omega arith
        main_fits (function ∷ functions) zero each = each zero function refl
        main_fits (function ∷ functions) (suc n) each = main_fits functions n (λ f other there. each (suc f) other there)

        fits : room_needed body ≤ room
        fits = main_fits setting.program.functions setting.program.main fits_all

    pub costs_within : (input : List ℕ) → AreTokensSpent setting.program → FillsAlways token_cost setting input
        → ((n : ℕ) → NotStuck (counted_after (roomy_cost room) (bare_setting setting) input n).control)
        → Agree (counted_machine (roomy_cost room) (bare_setting setting)) (token_machine token_cost setting) room (λ m. m + 1)
        (counted_first_state (bare_setting setting) input) (token_first_state setting input)
    costs_within input spends fills never_stuck =
        let same : IsSameRun (roomy_cost room) setting input
        = same_run (roomy_cost room) setting spends input (λ n. fills n) never_stuck in
        record {
          downwards = λ n.
              let does = same.agrees.downwards n in
              record {
                steps = does.steps;
                weighs = omega (arith, does.weighs, all_paid does.steps room (token_first_state setting input) (starts input));
                events_are = does.events_are;
                ending_is = does.ending_is;
              };
          upwards = record {
            prefix = λ n. same.agrees.upwards.prefix n;
            ending = λ n w ended. same.agrees.upwards.ending n w ended;
            whole = λ n w ended. same.agrees.upwards.whole n w ended;
          };
        }

-- ---- runs of any weight

pub states_kept : (weight : TokenState → ℕ) (below : CountedState → ℕ) (setting : TokenSetting) (input : List ℕ)
    → AreTokensSpent setting.program → FillsAlways weight setting input
    → ((n : ℕ) → NotStuck (counted_after below (bare_setting setting) input n).control)
    → AreStatesKept weight below setting input
states_kept weight below setting input spends fills never_stuck =
    let same : IsSameRun below setting input = same_run below setting spends input (λ n. fills n) never_stuck in
    record {
      kept = λ n. same.kept n;
      never_stuck = λ n. same.never_stuck n;
      states = λ n. states_are_bare below setting spends input (λ k. fills k) never_stuck n;
    }
