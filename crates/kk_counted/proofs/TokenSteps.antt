-- Each step of code that spends its tokens does what its bare form does, and keeps the tokens.
use Rattle.std.proofs.Common.{◌≡◌, ℕ, zero, suc, ◌+◌, ◌≤◌, ◌==◌, Bool, true, false, List, [], ◌∷◌, map, length, Option, Some, None, arith, refl, sym, ap, ◌∙◌, subst}
use Rattle.std.specs.Prelude.{if◌then◌else◌, nat_le, slice_get, option_map}
use Rattle.std.proofs.lemmas.List.{length-map}
use Rattle.std.proofs.lemmas.Option.{slice_get-map}
use Rattle.kk_syntax.specs.declared.program.Form.{Form}
use Rattle.kk_syntax.specs.declared.program.Form.TheVariants.{Number, Unit as Nothing, ReadByte, PrintText, Unary, Binary, Print, Construct, Call}
use Rattle.kk_syntax.specs.Shapes.{is_among, without}
use Rattle.kk_syntax.specs.Programs.{text_at}
use Rattle.std.specs.Fmt.{signed_decimal}
use Rattle.kk_source.specs.State.{Value, integer, unit, constant, place, Environment, stack_full}
use Rattle.kk_source.specs.Live.{value_of}
use Rattle.kk_source.specs.Matching.{and_then}
use Rattle.kk_source.specs.Actions.{Action, goes, calls, print_step}
use Rattle.kk_source.specs.FormEffects.{integer_of, unary_result, binary_result, argument, piece_of, byte_value}
use Rattle.kk_source.specs.Step.{bind_parameters}
use Rattle.kk_core.specs.CoreMachine.{bind_fields}
use Rattle.kk_core.specs.Decisions.{chosen}
use Rattle.kk_counted.specs.Heaps.{Heap, count_at, cell_at, fields_held, busy, dup_value, drop_value}
use Rattle.kk_counted.specs.CountedStates.{CountedConfiguration}
use Rattle.kk_counted.specs.CountedMachine.{at_counted, bound_then, at_end, in_code, with_heap, arm_at, case_step, give_step, tail_step, Named, cell_named, used_values, other_values, opened_heap, unique_heap, open_step, construct_step, call_step, form_step, counted_code_step}
use Rattle.kk_counted.specs.TokenedCodes.{Tokened, TokenedArms, TokenedFunction}
use Rattle.kk_counted.specs.BareForms.{bare, bare_arms, bare_function}
use Rattle.kk_counted.specs.Tokens.{spent, token, is_unspent, Tokens, marked, blanked, released, opened_tokens, held, Room, has_room, request}
use Rattle.kk_counted.specs.TokenStates.{TokenSetting, TokenJoin, TokenFrame, TokenControl, TokenConfiguration, bare_join, bare_frame, bare_configuration, bare_setting}
use Rattle.kk_counted.specs.TokenMachine.{at_code, bound_to, token_at_end, to_heap, tokened_arm_at, token_case_step, token_give_step, in_body, token_tail_step, token_read_step, to_opened, token_open_step, make_step, filled, fill_step, token_call_step, token_form_step, token_code_step}
use Rattle.kk_counted.specs.TokenSpending.{AreSame, AtForm, SpendsTokens, SpendAllTokens, AreTokensSpent}
use Rattle.kk_counted.specs.TokenRuns.{is_quiet, IsFollowed}
use Rattle.kk_counted.specs.TokenKeeping.{AreTokens, WaitTokens, IsHeldFrame, IsJudged, Lists, ListsAfter, ListsAfterForm, AreKeptBy, FillsAt}
use Rattle.kk_counted.proofs.CountChanges.{same}
use Rattle.kk_counted.proofs.HeapChanges.{EasedTo, eased_dup, eased_drop, eased_opening, eased_unique}
use Rattle.kk_counted.proofs.SlotMarks.{released_room, pooled_eased}
use Rattle.kk_counted.proofs.FillSteps.{fill_null, fill_cell}
use Rattle.kk_counted.proofs.TokenChain.{frames_many}
use Rattle.kk_counted.proofs.CellRequests.{Asked, full, served, asked}
use Rattle.kk_counted.proofs.TokenForms.{AreNow, Has, is_null, has_cell, unspent_has, not_unspent, spent_null_now, spent_now, eased_now, opened_now, made_now, served_now}
use Rattle.kk_counted.proofs.SoundSteps.{with_variable, NamedCell, OnNamed, named_cell}

abbrev pub lists_of : List ℕ → List ℕ → List ℕ → List (List ℕ) → Lists
lists_of left unspent held older = record { left = left; unspent = unspent; held = held; older = older }

-- ---- judged states

module _ (cells : ℕ) where
  pub judged_now : (left unspent : List ℕ) (older : List (List ℕ)) (code : Tokened) (joins : List TokenJoin)
      (frames : List TokenFrame) (heap : Heap) (tokens : Tokens)
      → SpendsTokens left unspent [] code → WaitTokens left joins → AreNow cells unspent older frames heap tokens
      → IsJudged cells left unspent [] older code joins frames heap tokens
  judged_now left unspent older code joins frames heap tokens spends waits now =
      record { spends = spends; waits = waits; slots_are = now.slots_are; apart = tt; waiting = now.waiting; are = now.are }

  pub now_of : (left unspent held : List ℕ) (older : List (List ℕ)) (code : Tokened) (joins : List TokenJoin)
      (frames : List TokenFrame) (heap : Heap) (tokens : Tokens)
      → held ≡ [] → IsJudged cells left unspent held older code joins frames heap tokens
      → AreNow cells unspent older frames heap tokens
  now_of left unspent held older code joins frames heap tokens none judged =
      record {
        slots_are = judged.slots_are;
        waiting = judged.waiting;
        are = subst (λ h. AreTokens cells heap tokens (h ∷ older)) none judged.are;
      }

  now_same : (unspent others : List ℕ) (older : List (List ℕ)) (frames : List TokenFrame) (heap : Heap) (tokens : Tokens)
      → AreSame unspent others → AreNow cells unspent older frames heap tokens → AreNow cells others older frames heap tokens
  now_same unspent others older frames heap tokens members now =
      record { slots_are = λ y. now.slots_are y ∙ members y; waiting = now.waiting; are = now.are }

  -- a kept state from its parts
  kept_now : (P : Lists → Type 0) (left unspent : List ℕ) (older : List (List ℕ)) (code : Tokened) (environment : Environment)
      (joins : List TokenJoin) (from : TokenConfiguration)
      → P (lists_of left unspent [] older)
      → SpendsTokens left unspent [] code → WaitTokens left joins → AreNow cells unspent older from.frames from.heap from.tokens
      → AreKeptBy cells P (at_code code environment joins from)
  kept_now P left unspent older code environment joins from next spends waits now = (
    lists_of left unspent [] older,
    (
      next,
      judged_now left unspent older code joins from.frames from.heap from.tokens spends
          waits now,
    ),
  )

  -- a function gives back: the one that waits goes on
  returned : (P : Lists → Type 0) (older : List (List ℕ)) (frame : TokenFrame) (frames : List TokenFrame)
      (environment : Environment) (from : TokenConfiguration)
      → ((left unspent held : List ℕ) (others : List (List ℕ)) → older ≡ held ∷ others → P (lists_of left unspent held others))
      → AreNow cells [] older (frame ∷ frames) from.heap from.tokens
      → AreKeptBy cells P (at_code frame.rest environment frame.joins (record from { frames = frames }))
  returned P [] frame frames environment from next now = absurd now.waiting
  returned P (held ∷ older) frame frames environment from next now = (
    lists_of waits.left waits.unspent held older,
    (
      next waits.left waits.unspent held older refl,
      record {
        spends = waits.spends;
        waits = waits.waits;
        slots_are = waits.slots_are;
        apart = waits.apart;
        waiting = now.waiting.1;
        are =
            record {
              pooled = now.are.pooled;
              chain = now.are.chain;
              beyond = λ f y far. beyond f y far (f == suc (length older))
                  refl;
            };
      },
    ),
  )
    where
      waits : IsHeldFrame (from.tokens.slots (length older)) held frame
      waits = now.waiting.0

      further : (f : ℕ) → suc (length older) ≤ f → (f == suc (length older)) ≡ false → suc (suc (length older)) ≤ f
      further f far apart = grind arith

      beyond : (f y : ℕ) → suc (length older) ≤ f → (t : Bool) → (f == suc (length older)) ≡ t → from.tokens.slots f y ≡ spent
      beyond f y far true test =
          ap (λ g. from.tokens.slots g y) (same f (suc (length older)) test) ∙ not_unspent
          (from.tokens.slots (suc (length older)) y) (now.slots_are y)
      beyond f y far false test = now.are.beyond f y (further f far test)

  -- a function calls: it waits, and the called one has no token
  called : (left unspent held : List ℕ) (older : List (List ℕ)) (code : Tokened) (frame : TokenFrame) (from : TokenConfiguration)
      → SpendsTokens left unspent held frame.rest → WaitTokens left frame.joins
      → ((y : ℕ) → is_among unspent y ≡ true → is_among held y ≡ true)
      → IsJudged cells left unspent held older code frame.joins from.frames from.heap from.tokens
      → AreNow cells [] (held ∷ older) (frame ∷ from.frames) from.heap from.tokens
  called left unspent held older code frame from spends waits all judged =
      record {
        slots_are = λ y. ap is_unspent (judged.are.beyond (suc (length older)) y (omega arith));
        waiting = (
          record {
            left = left;
            unspent = unspent;
            spends = spends;
            waits = waits;
            slots_are = judged.slots_are;
            all_held = all;
            apart = judged.apart;
          },
          judged.waiting,
        );
        are =
            record {
              pooled = judged.are.pooled;
              chain = judged.are.chain;
              beyond = λ f y far. judged.are.beyond f y
                  (omega (arith, far));
            };
      }

module _ (setting : TokenSetting) (program_spends : AreTokensSpent setting.program) where
  -- ---- values that come

  give_followed : (x : ℕ) (v : Value) (joins : List TokenJoin) (frames : List TokenFrame) (environment : Environment)
      (from : TokenConfiguration) (left unspent held : List ℕ) (older : List (List ℕ))
      → WaitTokens left joins → AreNow setting.cells left older from.frames from.heap from.tokens
      → AreNow setting.cells left older frames from.heap from.tokens
      → IsFollowed setting.cells (ListsAfter (Tokened.give x) joins (lists_of left unspent held older))
      (token_give_step v joins frames environment from)
      (give_step v (map bare_join joins) (map bare_frame frames) environment (bare_configuration from))
  give_followed x v (join ∷ joins) frames environment from left unspent held older waits now these =
      record {
        does = refl;
        keeps = kept_now setting.cells
            (ListsAfter (Tokened.give x) (join ∷ joins) (lists_of left unspent held older)) waits.0 left older join.rest
            (with_variable join.variable v environment) joins from (refl, (refl, refl)) waits.1.0 waits.1.1 now;
      }
  give_followed x v [] (frame ∷ frames) environment from left unspent held older waits now these =
      record {
        does = refl;
        keeps = returned setting.cells (ListsAfter (Tokened.give x) [] (lists_of left unspent held older)) older
            frame frames (with_variable frame.variable v frame.environment) from (λ l u h o is. is)
            (subst (λ l. AreNow setting.cells l older (frame ∷ frames) from.heap from.tokens) waits these);
      }
  give_followed x v [] [] environment from left unspent held older waits now these =
      record { does = refl; keeps = ([] ∷ older, now.are) }

  -- a function's body is entered
  entered : (P : Lists → Type 0) (f : ℕ) (function : TokenedFunction) (values : List Value) (older : List (List ℕ))
      (from : TokenConfiguration)
      → P (lists_of [] [] [] older)
      → slice_get setting.program.functions f ≡ Some function → AreNow setting.cells [] older from.frames from.heap from.tokens
      → AreKeptBy setting.cells P (in_body function values from)
  entered P f function values older from next there now =
      kept_now setting.cells P [] [] older function.body (bind_parameters 0 values []) [] from next
      (program_spends f function there) refl now

  tail_followed : (P : Lists → Type 0) (f : ℕ) (found : Option TokenedFunction) (values : List Value) (older : List (List ℕ))
      (from : TokenConfiguration)
      → P (lists_of [] [] [] older)
      → slice_get setting.program.functions f ≡ found → AreNow setting.cells [] older from.frames from.heap from.tokens
      → IsFollowed setting.cells P (token_tail_step found values from)
      (tail_step (option_map bare_function found) values (bare_configuration from))
  tail_followed P f None values older from next there now = record { does = refl; keeps = ([] ∷ older, now.are) }
  tail_followed P f (Some function) values older from next there now =
      record { does = refl; keeps = entered P f function values older from next there now }

  -- ---- heaps that change

  module _ (left unspent : List ℕ) (older : List (List ℕ)) (rest : Tokened) (environment : Environment) (joins : List TokenJoin)
      (from : TokenConfiguration) (waits : WaitTokens left joins) where
    heap_followed : (P : Lists → Type 0) (result : Option Heap) → P (lists_of left unspent [] older) → EasedTo from.heap result
        → SpendsTokens left unspent [] rest → AreNow setting.cells unspent older from.frames from.heap from.tokens
        → IsFollowed setting.cells P (goes (to_heap result from (at_code rest environment joins from)))
        (goes (with_heap result (bare_configuration from)
        (at_counted (bare rest) environment (map bare_join joins) (bare_configuration from))))
    heap_followed P None next eased spends now = record { does = refl; keeps = ([] ∷ older, now.are) }
    heap_followed P (Some heap) next eased spends now =
        record {
          does = refl;
          keeps = kept_now setting.cells P left unspent older rest environment joins (record from { heap = heap }) next spends waits
              (eased_now setting.cells unspent older from.frames from.heap heap from.tokens eased now);
        }

    -- where a reference is given up tokens may be held, and stay so
    drop_followed : (P : Lists → Type 0) (held : List ℕ) (result : Option Heap) → P (lists_of left unspent held older)
        → EasedTo from.heap result → IsJudged setting.cells left unspent held older rest joins from.frames from.heap from.tokens
        → IsFollowed setting.cells P (goes (to_heap result from (at_code rest environment joins from)))
        (goes (with_heap result (bare_configuration from)
        (at_counted (bare rest) environment (map bare_join joins) (bare_configuration from))))
    drop_followed P held None next eased judged = record { does = refl; keeps = (held ∷ older, judged.are) }
    drop_followed P held (Some heap) next eased judged =
        record {
          does = refl;
          keeps = (
            lists_of left unspent held older,
            (
              next,
              record {
                spends = judged.spends;
                waits = judged.waits;
                slots_are = judged.slots_are;
                apart = judged.apart;
                waiting = judged.waiting;
                are = record {
                  pooled = pooled_eased setting.cells from.heap heap from.tokens eased judged.are.pooled;
                  chain = judged.are.chain;
                  beyond = judged.are.beyond;
                };
              },
            ),
          );
        }

    opened_followed : (P : Lists → Type 0) (result : Option Heap) (named : Named) (fields : List ℕ) (y : ℕ)
        → P (lists_of left (y ∷ unspent) [] older) → EasedTo from.heap result → 1 ≤ count_at from.heap named.at
        → is_among unspent y ≡ false → SpendsTokens left (y ∷ unspent) [] rest
        → AreNow setting.cells unspent older from.frames from.heap from.tokens
        → IsFollowed setting.cells P (goes (to_opened result named.at y from
        (at_code rest (bind_fields fields named.fields environment) joins from)))
        (goes (with_heap result (bare_configuration from)
        (at_counted (bare rest) (bind_fields fields named.fields environment) (map bare_join joins) (bare_configuration from))))
    opened_followed P None named fields y next eased counted fresh spends now =
        record { does = refl; keeps = ([] ∷ older, now.are) }
    opened_followed P (Some heap) named fields y next eased counted fresh spends now =
        record {
          does = refl;
          keeps =
              subst (λ d. AreKeptBy setting.cells P
              (record (at_code rest (bind_fields fields named.fields environment) joins from)
              { heap = heap; tokens = opened_tokens (count_at heap named.at) d y named.at from.tokens }))
              (sym (frames_many from.tokens.slots older from.frames now.waiting))
              (kept_now setting.cells P left (y ∷ unspent) older rest (bind_fields fields named.fields environment) joins
              (record from { heap = heap; tokens = opened_tokens (count_at heap named.at) (length older) y named.at from.tokens })
              next spends waits
              (opened_now setting.cells unspent older from.frames from.heap heap from.tokens y named.at (count_at heap named.at)
              eased fresh counted refl now));
        }

    open_followed : (P : Lists → Type 0) (count : ℕ) (v : Value) (found : Option Named) (heap : Named → Option Heap)
        (fields : List ℕ) (y : ℕ) → P (lists_of left (y ∷ unspent) [] older) → OnNamed (NamedCell from.heap v count) found
        → ((named : Named) → EasedTo from.heap (heap named))
        → is_among unspent y ≡ false → SpendsTokens left (y ∷ unspent) [] rest
        → AreNow setting.cells unspent older from.frames from.heap from.tokens
        → IsFollowed setting.cells P (token_open_step found heap fields y rest environment joins from)
        (open_step found heap fields (bare rest) environment (map bare_join joins) (bare_configuration from))
    open_followed P count v None heap fields y next cell eased fresh spends now =
        record { does = refl; keeps = ([] ∷ older, now.are) }
    open_followed P count v (Some named) heap fields y next cell eased fresh spends now =
        opened_followed P (heap named) named fields y next (eased named) cell.counted fresh spends now

    read_followed : (P : Lists → Type 0) (found : Option Named) (fields : List ℕ) → P (lists_of left unspent [] older)
        → SpendsTokens left unspent [] rest → AreNow setting.cells unspent older from.frames from.heap from.tokens
        → IsFollowed setting.cells P (token_read_step found fields rest environment joins from)
        (open_step found (λ named. Some from.heap) fields (bare rest) environment (map bare_join joins) (bare_configuration from))
    read_followed P None fields next spends now = record { does = refl; keeps = ([] ∷ older, now.are) }
    read_followed P (Some named) fields next spends now =
        record {
          does = refl;
          keeps = kept_now setting.cells P left unspent older rest (bind_fields fields named.fields environment)
              joins from next spends waits now;
        }

    -- ---- constructions

    -- where the request has been answered, the construction follows
    made_followed : (P : Lists → Type 0) (x c : ℕ) (fields : List Value) (before : Tokens) (helds : List (List ℕ))
        (result : Room) → P (lists_of left unspent [] older) → AreTokens setting.cells from.heap from.tokens helds
        → SpendsTokens left unspent [] rest → AreNow setting.cells unspent older from.frames from.heap before
        → Asked setting.cells from.heap before ([] ∷ older) result
        → IsFollowed setting.cells P (make_step result c fields (λ v. bound_to x v rest environment joins from) from)
        (construct_step (bare_setting setting) c fields
        (λ v. bound_then x v (bare rest) environment (map bare_join joins) (bare_configuration from)) (bare_configuration from))
    made_followed P x c fields before helds result next are spends now (full filled is) =
        rw is
        (record {
          does = rw full_is refl;
          keeps = (helds, are);
        })
      where
        full_is : nat_le setting.cells (busy from.heap) ≡ true
        full_is = grind arith
    made_followed P x c fields before helds result next are spends now (served after is good) =
        rw is
        (record {
          does = rw room_is refl;
          keeps = kept_now setting.cells P left unspent older rest (with_variable x (place (length from.heap)) environment) joins
              (record from {
                heap = record { count = 1; cell = record { made_by = c; fields = fields } } ∷ from.heap;
                tokens = after;
              }) next spends waits
              (made_now setting.cells unspent older from.frames
              (record { count = 1; cell = record { made_by = c; fields = fields } }) from.heap after good.room
              (served_now setting.cells unspent older from.frames from.heap before after good now));
        })
      where
        room_is : nat_le setting.cells (busy from.heap) ≡ false
        room_is = let room : suc (busy from.heap + marked after.marks (length from.heap)) ≤ setting.cells = good.room in grind arith

    bound_kept : (P : Lists → Type 0) (x : ℕ) (v : Value) (held : List ℕ) → P (lists_of left unspent held older)
        → IsJudged setting.cells left unspent held older rest joins from.frames from.heap from.tokens
        → AreKeptBy setting.cells P (bound_to x v rest environment joins from)
    bound_kept P x v held next judged = (lists_of left unspent held older, (next, judged))

    printed : (P : Lists → Type 0) (piece : List ℕ) (x : ℕ) (v : Value) (held : List ℕ) → P (lists_of left unspent held older)
        → IsJudged setting.cells left unspent held older rest joins from.frames from.heap from.tokens
        → IsFollowed setting.cells P (print_step piece (bound_to x v rest environment joins from))
        (print_step piece (bound_then x v (bare rest) environment (map bare_join joins) (bare_configuration from)))
    printed P [] x v held next judged = record { does = refl; keeps = bound_kept P x v held next judged }
    printed P (byte ∷ bytes) x v held next judged = record { does = refl; keeps = bound_kept P x v held next judged }

    call_followed : (P : Lists → Type 0) (f : ℕ) (found : Option TokenedFunction) (values : List Value) (x : ℕ) (held : List ℕ)
        → P (lists_of [] [] [] (held ∷ older)) → slice_get setting.program.functions f ≡ found
        → ((y : ℕ) → is_among unspent y ≡ true → is_among held y ≡ true)
        → IsJudged setting.cells left unspent held older rest joins from.frames from.heap from.tokens
        → IsFollowed setting.cells P (token_call_step setting found values
        (record { variable = x; rest = rest; joins = joins; environment = environment }) from)
        (call_step (bare_setting setting) (option_map bare_function found) values
        (record { variable = x; rest = bare rest; joins = map bare_join joins; environment = environment })
        (bare_configuration from))
    call_followed P f None values x held next there all judged = record { does = refl; keeps = (held ∷ older, judged.are) }
    call_followed P f (Some function) values x held next there all judged =
        rw (length-map from.frames bare_frame) (by_test (nat_le setting.depth (suc (length from.frames))))
      where
        waiting : TokenFrame
        waiting = record { variable = x; rest = rest; joins = joins; environment = environment }

        by_test : (t : Bool) → IsFollowed setting.cells P
            (calls (suc (length from.frames)) (if t then token_at_end stack_full from else in_body function values
            (record from {
              frames = record {
                variable = x;
                rest = rest;
                joins = joins;
                environment = environment;
              } ∷ from.frames;
            })))
            (calls (suc (length from.frames)) (if t then at_end stack_full (bare_configuration from) else in_code
            (bare_function function) values
            (record (bare_configuration from) {
              frames = record
                  { variable = x; rest = bare rest; joins = map bare_join joins; environment = environment } ∷ map bare_frame
                  from.frames;
            })))
        by_test true = record { does = refl; keeps = (held ∷ older, judged.are) }
        by_test false =
            record {
              does = refl;
              keeps =
                  entered P f function values (held ∷ older)
                  (record from {
                    frames = record
                        { variable = x; rest = rest; joins = joins; environment = environment } ∷ from.frames;
                  }) next there
                  (called setting.cells left unspent held older rest
                  (record { variable = x; rest = rest; joins = joins; environment = environment }) from judged.spends waits all
                  judged);
            }

    asked_now : (others : List ℕ) (tokens : Tokens) → AreSame others unspent
        → AreNow setting.cells unspent older from.frames from.heap tokens
        → Asked setting.cells from.heap tokens ([] ∷ older) (request setting.cells others (length from.frames) from.heap tokens)
    asked_now others tokens all now =
        subst (λ d. Asked setting.cells from.heap tokens ([] ∷ older) (request setting.cells others d from.heap tokens))
        (sym (frames_many tokens.slots older from.frames now.waiting))
        (asked setting.cells unspent others older from.frames from.heap tokens now.are now.waiting now.slots_are all)

    form_followed : (form : Form) (arguments others held : List ℕ) (x : ℕ) → AtForm form arguments others unspent held
        → IsJudged setting.cells left unspent held older rest joins from.frames from.heap from.tokens
        → IsFollowed setting.cells (ListsAfterForm form (lists_of left unspent held older))
        (token_form_step setting form (map (value_of environment) arguments) x others rest environment joins from)
        (form_step (bare_setting setting) form (map (value_of environment) arguments) x (bare rest) environment
        (map bare_join joins) (bare_configuration from))
    form_followed (Number n) arguments others held x none judged =
        record {
          does = refl;
          keeps = bound_kept (ListsAfterForm (Number n) (lists_of left unspent held older)) x (integer n) held
              refl judged;
        }
    form_followed Nothing arguments others held x none judged =
        record {
          does = refl;
          keeps = bound_kept (ListsAfterForm Nothing (lists_of left unspent held older)) x unit held refl
              judged;
        }
    form_followed ReadByte arguments others held x none judged =
        record {
          does = refl;
          keeps = λ byte. bound_kept (ListsAfterForm ReadByte (lists_of left unspent held older)) x
              (byte_value byte) held refl judged;
        }
    form_followed (PrintText form text) arguments others held x none judged =
        printed (ListsAfterForm (PrintText form text) (lists_of left unspent held older))
        (piece_of form (text_at setting.program.texts text)) x unit held refl judged
    form_followed (Unary operator) arguments others held x none judged =
        record {
          does = refl;
          keeps = bound_kept (ListsAfterForm (Unary operator) (lists_of left unspent held older)) x
              (unary_result operator (argument 0 (map (value_of environment) arguments))) held refl judged;
        }
    form_followed (Binary operator) arguments others held x none judged =
        record {
          does = refl;
          keeps =
              bound_kept (ListsAfterForm (Binary operator) (lists_of left unspent held older)) x
              (binary_result operator (argument 0 (map (value_of environment) arguments))
              (argument 1 (map (value_of environment) arguments))) held refl judged;
        }
    form_followed (Print form) arguments others held x none judged =
        printed (ListsAfterForm (Print form) (lists_of left unspent held older))
        (piece_of form (signed_decimal (integer_of (argument 0 (map (value_of environment) arguments))))) x unit held refl
        judged
    form_followed (Construct c) [] others held x none judged =
        record {
          does = refl;
          keeps = bound_kept (ListsAfterForm (Construct c) (lists_of left unspent held older)) x (constant c)
              held refl judged;
        }
    form_followed (Construct c) (first ∷ arguments) others held x at_form judged =
        let now = now_of setting.cells left unspent held older rest joins from.frames from.heap from.tokens at_form.0 judged in
        made_followed (ListsAfterForm (Construct c) (lists_of left unspent held older)) x c
        (map (value_of environment) (first ∷ arguments)) from.tokens ([] ∷ older)
        (request setting.cells others (length from.frames) from.heap from.tokens)
        (ap (λ h. lists_of left unspent h older) (sym at_form.0))
        now.are (subst (λ h. SpendsTokens left unspent h rest) at_form.0 judged.spends) now
        (asked_now others from.tokens at_form.1.1 now)
    form_followed (Call f) arguments others held x all judged =
        rw (slice_get-map bare_function setting.program.functions f)
        (call_followed (ListsAfterForm (Call f) (lists_of left unspent held older)) f (slice_get setting.program.functions f)
        (map (value_of environment) arguments) x held refl refl all judged)

    fill_followed : (P : Lists → Type 0) (x y c : ℕ) (fields : List Value) (kept others : List ℕ) (full_unspent : List ℕ)
        → P (lists_of left unspent [] older) → is_among full_unspent y ≡ true → AreSame others unspent
        → AreSame unspent (without (y ∷ []) full_unspent)
        → SpendsTokens left unspent [] rest → AreNow setting.cells full_unspent older from.frames from.heap from.tokens
        → ((p : ℕ) → from.tokens.slots (length from.frames) y ≡ token p
        → filled setting.leaves kept (fields_held from.heap p) fields ≡ fields)
        → IsFollowed setting.cells P (fill_step setting y c fields kept others (λ v. bound_to x v rest environment joins from) from)
        (construct_step (bare_setting setting) c fields
        (λ v. bound_then x v (bare rest) environment (map bare_join joins) (bare_configuration from)) (bare_configuration from))
    fill_followed P x y c fields kept others full_unspent next among all rest_unspent spends now fills =
        by_has (unspent_has (from.tokens.slots (length older) y) (now.slots_are y ∙ among))
      where
        many : length from.frames ≡ length older
        many = frames_many from.tokens.slots older from.frames now.waiting

        below : Action CountedConfiguration
        below =
            construct_step (bare_setting setting) c fields
            (λ v. bound_then x v (bare rest) environment (map bare_join joins) (bare_configuration from))
            (bare_configuration from)

        by_has : Has (from.tokens.slots (length older) y)
            → IsFollowed setting.cells P (fill_step setting y c fields kept others (λ v. bound_to x v rest environment joins from) from)
            below
        by_has (is_null is) =
            let after = now_same setting.cells (without (y ∷ []) full_unspent) unspent older from.frames from.heap
            (blanked (length older) y spent from.tokens) (λ z. sym (rest_unspent z))
            (spent_null_now setting.cells full_unspent older from.frames from.heap from.tokens now y is) in
            subst (λ (act : Action TokenConfiguration). IsFollowed setting.cells P act below)
            (sym (fill_null setting y c fields kept others (λ v. bound_to x v rest environment joins from) from (length older) many is))
            (made_followed P x c fields (blanked (length older) y spent from.tokens) ([] ∷ older)
            (request setting.cells others (length older) from.heap (blanked (length older) y spent from.tokens))
            next now.are spends after
            (asked setting.cells unspent others older from.frames from.heap (blanked (length older) y spent from.tokens) after.are
            after.waiting after.slots_are all))
        by_has (has_cell p is) =
            let after = now_same setting.cells (without (y ∷ []) full_unspent) unspent older from.frames from.heap
            (released (length older) y p spent from.tokens) (λ z. sym (rest_unspent z))
            (spent_now setting.cells full_unspent older from.frames from.heap from.tokens now y p is) in
            subst (λ (act : Action TokenConfiguration). IsFollowed setting.cells P act below)
            (sym (fill_cell setting y c fields kept others (λ v. bound_to x v rest environment joins from) from (length older) many p now.are.pooled is
            ∙ ap (λ values. make_step (has_room (released (length older) y p spent from.tokens)) c values (λ v. bound_to x v rest environment joins from)
            from)
            (fills p (ap (λ d. from.tokens.slots d y) many ∙ is))))
            (made_followed P x c fields (released (length older) y p spent from.tokens) ([] ∷ older)
            (has_room (released (length older) y p spent from.tokens))
            next now.are spends after
            (served (released (length older) y p spent from.tokens) refl (record {
              are = after.are;
              room =
                  omega (
                    arith,
                    released_room setting.cells (length older) y p spent from.heap from.tokens is now.are.pooled,
                    now.are.pooled.room,
                  );
              unspent = λ f z. refl;
              fewer = λ q f z marked_is. marked_is;
            })))

    case_followed : (P : Lists → Type 0) (row : Option ℕ) (arms : TokenedArms) → P (lists_of left unspent [] older)
        → SpendAllTokens left unspent arms → AreNow setting.cells unspent older from.frames from.heap from.tokens
        → IsFollowed setting.cells P (token_case_step (and_then row (tokened_arm_at arms)) environment joins from)
        (case_step (and_then row (arm_at (bare_arms arms))) environment (map bare_join joins) (bare_configuration from))
    case_followed P None arms next spends now = record { does = refl; keeps = ([] ∷ older, now.are) }
    case_followed P (Some row) arms next spends now = by_row arms row spends
      where
        by_row : (arms : TokenedArms) (row : ℕ) → SpendAllTokens left unspent arms
            → IsFollowed setting.cells P (token_case_step (tokened_arm_at arms row) environment joins from)
            (case_step (arm_at (bare_arms arms) row) environment (map bare_join joins) (bare_configuration from))
        by_row TokenedArms.no_arm row spends = record { does = refl; keeps = ([] ∷ older, now.are) }
        by_row (TokenedArms.arm body others) zero spends =
            record {
              does = refl;
              keeps = kept_now setting.cells P left unspent older body environment joins from next spends.0
                  waits now;
            }
        by_row (TokenedArms.arm body others) (suc row) spends = by_row others row spends.1

  -- ---- one step

  pub follows : (lists : Lists) (code : Tokened) (environment : Environment) (joins : List TokenJoin) (from : TokenConfiguration)
      → IsJudged setting.cells lists.left lists.unspent lists.held lists.older code joins from.frames from.heap from.tokens
      → FillsAt setting.leaves from (TokenControl.running code environment joins) → is_quiet code ≡ false
      → IsFollowed setting.cells (ListsAfter code joins lists) (token_code_step setting code environment joins from)
      (counted_code_step (bare_setting setting) (bare code) environment (map bare_join joins) (bare_configuration from))
  follows lists (Tokened.give x) environment joins from judged fills quiet =
      let now = now_same setting.cells lists.unspent lists.left lists.older from.frames from.heap from.tokens judged.spends.1
      (now_of setting.cells lists.left lists.unspent lists.held lists.older (Tokened.give x) joins from.frames from.heap from.tokens
      judged.spends.0 judged) in
      give_followed x (value_of environment x) joins from.frames environment from lists.left lists.unspent lists.held lists.older
      judged.waits now now
  follows lists (Tokened.tail_call f arguments) environment joins from judged fills quiet =
      let now = now_same setting.cells lists.unspent [] lists.older from.frames from.heap from.tokens judged.spends.1
      (now_of setting.cells lists.left lists.unspent lists.held lists.older (Tokened.tail_call f arguments) joins from.frames
      from.heap from.tokens judged.spends.0 judged) in
      rw (slice_get-map bare_function setting.program.functions f)
      (tail_followed (ListsAfter (Tokened.tail_call f arguments) joins lists) f (slice_get setting.program.functions f)
      (map (value_of environment) arguments) lists.older from refl refl now)
  follows lists (Tokened.case x decisions arms) environment joins from judged fills quiet =
      let now = now_of setting.cells lists.left lists.unspent lists.held lists.older (Tokened.case x decisions arms) joins
      from.frames from.heap from.tokens judged.spends.0 judged in
      case_followed lists.left lists.unspent lists.older (Tokened.case x decisions arms) environment joins from judged.waits
      (ListsAfter (Tokened.case x decisions arms) joins lists)
      (chosen (cell_at from.heap) (value_of environment x) decisions) arms
      (ap (λ h. lists_of lists.left lists.unspent h lists.older) (sym judged.spends.0)) judged.spends.1 now
  follows lists (Tokened.compute x form arguments others rest) environment joins from judged fills quiet =
      form_followed lists.left lists.unspent lists.older rest environment joins from judged.waits form arguments others lists.held x
      judged.spends.0
      (record {
        spends = judged.spends.1;
        waits = judged.waits;
        slots_are = judged.slots_are;
        apart = judged.apart;
        waiting = judged.waiting;
        are = judged.are;
      })
  follows lists (Tokened.inside x block rest) environment joins from judged fills quiet =
      let now = now_of setting.cells lists.left lists.unspent lists.held lists.older (Tokened.inside x block rest) joins from.frames
      from.heap from.tokens judged.spends.1.0 judged in
      record {
        does = refl;
        keeps =
            kept_now setting.cells (ListsAfter (Tokened.inside x block rest) joins lists) judged.spends.0 lists.unspent lists.older
            block environment (record { variable = x; rest = rest } ∷ joins) from
            (refl, (refl, refl)) judged.spends.1.1.0 (lists.left, (judged.spends.1.1.1, judged.waits)) now;
      }
  follows lists (Tokened.read x c fields rest) environment joins from judged fills quiet =
      let now = now_of setting.cells lists.left lists.unspent lists.held lists.older (Tokened.read x c fields rest) joins
      from.frames from.heap from.tokens judged.spends.0 judged in
      read_followed lists.left lists.unspent lists.older rest environment joins from judged.waits
      (ListsAfter (Tokened.read x c fields rest) joins lists)
      (cell_named c (length fields) from.heap (value_of environment x)) fields
      (ap (λ h. lists_of lists.left lists.unspent h lists.older) (sym judged.spends.0)) judged.spends.1 now
  follows lists (Tokened.open_cell x c fields used y rest) environment joins from judged fills quiet =
      let now = now_of setting.cells lists.left lists.unspent lists.held lists.older (Tokened.open_cell x c fields used y rest)
      joins from.frames from.heap from.tokens judged.spends.0 judged in
      open_followed lists.left lists.unspent lists.older rest environment joins from judged.waits
      (ListsAfter (Tokened.open_cell x c fields used y rest) joins lists) (length fields) (value_of environment x)
      (cell_named c (length fields) from.heap (value_of environment x))
      (λ named. opened_heap named.at (used_values used fields named.fields) from.heap) fields y
      (ap (λ h. lists_of lists.left (y ∷ lists.unspent) h lists.older) (sym judged.spends.0))
      (named_cell c (length fields) from.heap (value_of environment x))
      (λ named. eased_opening named.at (used_values used fields named.fields) from.heap)
      judged.spends.1.0 judged.spends.1.1 now
  follows lists (Tokened.if_unique x c fields used y rest) environment joins from judged fills quiet =
      let now = now_of setting.cells lists.left lists.unspent lists.held lists.older (Tokened.if_unique x c fields used y rest)
      joins from.frames from.heap from.tokens judged.spends.0 judged in
      open_followed lists.left lists.unspent lists.older rest environment joins from judged.waits
      (ListsAfter (Tokened.if_unique x c fields used y rest) joins lists) (length fields) (value_of environment x)
      (cell_named c (length fields) from.heap (value_of environment x))
      (λ named. unique_heap (count_at from.heap named.at) named.at (used_values used fields named.fields)
      (other_values used fields named.fields) from.heap) fields y
      (ap (λ h. lists_of lists.left (y ∷ lists.unspent) h lists.older) (sym judged.spends.0))
      (named_cell c (length fields) from.heap (value_of environment x))
      (λ named. eased_unique (count_at from.heap named.at) named.at (used_values used fields named.fields)
      (other_values used fields named.fields) from.heap refl)
      judged.spends.1.0 judged.spends.1.1 now
  follows lists (Tokened.dup x rest) environment joins from judged fills quiet =
      let now = now_of setting.cells lists.left lists.unspent lists.held lists.older (Tokened.dup x rest) joins from.frames
      from.heap from.tokens judged.spends.0 judged in
      heap_followed lists.left lists.unspent lists.older rest environment joins from judged.waits
      (ListsAfter (Tokened.dup x rest) joins lists) (dup_value (value_of environment x) from.heap)
      (ap (λ h. lists_of lists.left lists.unspent h lists.older) (sym judged.spends.0))
      (eased_dup (value_of environment x) from.heap) judged.spends.1 now
  follows lists (Tokened.drop x rest) environment joins from judged fills quiet =
      drop_followed lists.left lists.unspent lists.older rest environment joins from judged.waits
      (ListsAfter (Tokened.drop x rest) joins lists) lists.held (drop_value (value_of environment x) from.heap) refl
      (eased_drop (value_of environment x) from.heap)
      (record {
        spends = judged.spends;
        waits = judged.waits;
        slots_are = judged.slots_are;
        apart = judged.apart;
        waiting = judged.waiting;
        are = judged.are;
      })
  follows lists (Tokened.fill x y c first arguments left_fields others rest) environment joins from judged fills quiet =
      let now = now_of setting.cells lists.left lists.unspent lists.held lists.older
      (Tokened.fill x y c first arguments left_fields others rest) joins from.frames from.heap from.tokens judged.spends.0
      judged in
      fill_followed lists.left (without (y ∷ []) lists.unspent) lists.older rest environment joins from judged.waits
      (ListsAfter (Tokened.fill x y c first arguments left_fields others rest) joins lists) x y c
      (map (value_of environment) (first ∷ arguments)) left_fields others lists.unspent
      (ap (λ h. lists_of lists.left (without (y ∷ []) lists.unspent) h lists.older) (sym judged.spends.0))
      judged.spends.1.0 judged.spends.1.1.1.0 (λ z. refl) judged.spends.1.1.1.1 now fills
  follows lists (Tokened.free y rest) environment joins from judged fills quiet = absurd (cc)
  follows lists (Tokened.null y rest) environment joins from judged fills quiet = absurd (cc)
  follows lists (Tokened.move to of rest) environment joins from judged fills quiet = absurd (cc)
  follows lists (Tokened.hold y rest) environment joins from judged fills quiet = absurd (cc)
  follows lists (Tokened.unhold y rest) environment joins from judged fills quiet = absurd (cc)
  follows lists (Tokened.if_token y there absent) environment joins from judged fills quiet = absurd (cc)
