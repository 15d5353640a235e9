-- The counted machine follows the core machine where a value is given and where a function is entered.
use Rattle.std.proofs.Common.{◌≡◌, ◌⊎◌, inl, inr, ℕ, suc, ◌+◌, ◌*◌, ◌<◌, ◌≤◌, true, false, List, [], ◌∷◌, ◌++◌, length, arith, refl, sym, ap, ◌∙◌, subst}
use Rattle.kk_syntax.specs.Shapes.{is_among, without}
use Rattle.kk_syntax.specs.PositionsOf.{PositionTable, is_lent}
use Rattle.kk_source.specs.State.{Value, unit, place, Store, Environment, ended}
use Rattle.kk_source.specs.Live.{value_of, Among, Reached}
use Rattle.kk_source.specs.Notes.{Note}
use Rattle.kk_source.specs.Actions.{performed}
use Rattle.kk_source.specs.Step.{bind_parameters}
use Rattle.kk_core.specs.Codes.{Code, give, FunctionCode}
use Rattle.kk_core.specs.CoreStates.{CoreSetting, Join, CallFrame, CoreConfiguration}
use Rattle.kk_core.specs.CoreMachine.{bound_then, at_end, give_step, in_code}
use Rattle.kk_core.specs.Costs.{step_cost}
use Rattle.kk_core.specs.NeverStuck.{ResultFits}
use Rattle.kk_syntax.specs.Programs.{ConstructorTree}
use Rattle.kk_counted.specs.Heaps.{busy}
use Rattle.kk_counted.proofs.Reachability.{none_counted}
use Rattle.kk_core.specs.Sizes.{below as numbers_below}
use Rattle.kk_counted.specs.CountedCodes as Counted
use Rattle.kk_counted.specs.CountedCosts.{form_cost, dup_cost, drop_cost}
use Rattle.kk_counted.specs.Heaps.{Heap, forwards}
use Rattle.kk_counted.specs.CountedStates.{CountedJoin, CountedFrame, CountedState}
use Rattle.kk_counted.specs.CountedStates as Final
use Rattle.kk_counted.specs.References.{refs_of, refs, IsSound, cells_of}
use Rattle.kk_counted.specs.Spending.{at_positions, numbers_from, left_by, is_owned}
use Rattle.kk_counted.specs.Keeping.{values_of, AreReached}
use Rattle.kk_counted.proofs.CountChanges.{refs_append}
use Rattle.kk_counted.proofs.Variables.{parameters_owned, parameter_among}
use Rattle.kk_counted.proofs.Reachability.{same_store}
use Rattle.kk_counted.proofs.SoundSteps.{landed, reached_bound}
use Rattle.kk_insert.specs.Insertion.{dups, dropping, lent_of, owns, wants, own, back, insert, inserted_function}
use Rattle.kk_insert.specs.Promise.{IsFunctionInsertable}
use Rattle.kk_insert.proofs.Sets.{no_self, no_both, false_if}
use Rattle.kk_insert.proofs.Lengths.{even_append, wants_few, values_length, owned_length}
use Rattle.kk_insert.proofs.OwnedVariables.{owns_either, own_apart, wants_in, wants_even}
use Rattle.kk_insert.proofs.Programs.{lent_parameter, is_fine, owned_parameter, numbers_apart}
use Rattle.kk_insert.proofs.Paths.{Priced, conf, with_input, Path, path_here, path_step}
use Rattle.kk_insert.proofs.DupsAndDrops.{From, GoesOn, sound_even, either_counted, dups_path, dropping_path, landing_path}
use Rattle.kk_insert.proofs.DupsAndDrops.{back_path}
use Rattle.kk_insert.proofs.StateRelation.{inserted_at, left_of, image_joins, image_frame, RestOk, JoinsOk, FramesStand, rest_code, Stands, Follows}
use Rattle.kk_insert.proofs.BlockSimulation.{arrives}

-- The dups before a code that uses variables up. Each of its uses takes one at most; and then the cost of a drop is saved for each.
pub dups_first : (priced : Priced) (P : ℕ → CountedState → Type 0) (environment : Environment) (joins : List CountedJoin)
    (frames : List CountedFrame) (below : List Value) (input : List ℕ) (least : ℕ) (events : List Note)
    (positions : PositionTable) (lent xs after : List ℕ) (code : Counted.Counted) (heap : Heap) (most later : ℕ)
    → dup_cost * length xs + (drop_cost * length xs + (drop_cost * length (owns lent xs after) + later)) ≤ most
    → IsSound (values_of environment (owns lent xs after) ++ below) heap → AreReached (forwards heap) below environment lent
    → GoesOn priced P environment joins frames below input least events (drop_cost * (length xs + length after) + later) code
    (xs ++ after) heap
    → From priced P environment joins frames below input least events most (dups (wants lent xs after) code) heap
dups_first priced P environment joins frames below input least events positions lent xs after code heap most later costs sound
    reached next =
    dups_path priced P environment joins frames below input least events (wants lent xs after) (owns lent xs after) code heap most
    (drop_cost * (length xs + length after) + later)
    (omega (
      arith,
      costs,
      wants_few lent xs after,
      even_append (wants lent xs after) (owns lent xs after) xs after (wants_even positions lent xs after),
    ))
    sound
    (λ y is. either_counted environment (owns lent xs after) lent below heap y sound reached
    (wants_in positions lent xs after y is))
    (λ last cells sound_then. next last cells
    (sound_even environment (wants lent xs after ++ owns lent xs after) (xs ++ after) below last
    (wants_even positions lent xs after) sound_then))

pub not_held : (positions : PositionTable) (lent given : List ℕ) (x : ℕ) (now : List ℕ) → is_among given x ≡ false
    → is_among (owns lent given (without (x ∷ []) now)) x ≡ false
not_held positions lent given x now new =
    false_if (is_among (owns lent given (without (x ∷ []) now)) x)
    (λ is. elim (owns_either positions lent given (without (x ∷ []) now) x is) [
      | inl one ↦ no_both ⊥ (is_among given x) one new
      | inr two ↦ no_both ⊥ (is_among (without (x ∷ []) now) x) two
          (no_self x now)
    ])

module _ (room : ℕ) (setting : CoreSetting) (from : CoreConfiguration) (lent : List ℕ) (below : List Value) (frames : List CountedFrame)
    (heap : Heap)
    (store : from.store ≡ forwards heap)
    (waits : FramesStand setting.positions setting.code.functions from.store from.frames frames below) (input : List ℕ) where
  -- what is saved where a code runs
  abbrev saved_at : List ℕ → List Join → Code → ℕ
  saved_at variables joins code =
      drop_cost * length (own setting.positions variables
      (left_by (left_of setting.positions setting.code.functions variables joins)) code) + drop_cost * length below

  -- a value comes to a variable behind a form or a call
  pub lands : (x : ℕ) (v : Value) (rest : Code) (environment : Environment) (joins : List Join) (given : List ℕ) (all : List Value)
      → RestOk setting.positions setting.code.functions lent (left_of setting.positions setting.code.functions lent joins) x rest
      → JoinsOk setting.positions setting.code.functions lent joins
      → AreReached from.store below environment lent → is_among given x ≡ false
      → ((q : ℕ) → refs all q ≡ refs_of v q +
      (refs (values_of environment (owns lent given
      (without (x ∷ []) (own setting.positions lent
      (left_by (left_of setting.positions setting.code.functions lent joins)) rest)))) q + refs below q))
      → IsSound all heap
      → (most : ℕ) → drop_cost * (suc (length (owns lent given
      (without (x ∷ []) (own setting.positions lent
      (left_by (left_of setting.positions setting.code.functions lent joins)) rest)))) + length below) ≤ most
      → Path (inserted_at room setting) 0 most []
      (Stands setting.positions setting.code.functions
      (record { machine = bound_then x v rest environment joins from; input = input }))
      (with_input (conf (back lent given x
      (own setting.positions lent (left_by (left_of setting.positions setting.code.functions lent joins)) rest)
      (insert setting.positions lent (left_by (left_of setting.positions setting.code.functions lent joins)) rest))
      (record { variable = x; value = v } ∷ environment)
      (image_joins setting.positions setting.code.functions lent joins) frames heap) input)
  lands x v rest environment joins given all rest_ok joins_ok reached new even sound most costs =
      back_path (inserted_at room setting)
      (Stands setting.positions setting.code.functions
      (record { machine = bound_then x v rest environment joins from; input = input }))
      (record { variable = x; value = v } ∷ environment)
      (image_joins setting.positions setting.code.functions lent joins) frames below input 0 []
      setting.positions lent given x (own setting.positions lent
      (left_by (left_of setting.positions setting.code.functions lent joins)) rest)
      (insert setting.positions lent (left_by (left_of setting.positions setting.code.functions lent joins)) rest) heap
      most (drop_cost * length below) (omega (arith, costs))
      (own_apart setting.positions lent (left_by (left_of setting.positions setting.code.functions lent joins)) rest rest_ok.apart)
      (landed x v environment (owns lent given
      (without (x ∷ []) (own setting.positions lent
      (left_by (left_of setting.positions setting.code.functions lent joins)) rest))) below all heap
      (not_held setting.positions lent given x
      (own setting.positions lent (left_by (left_of setting.positions setting.code.functions lent joins)) rest) new) even sound)
      (λ after cells sound_then. path_here (inserted_at room setting) (saved_at lent joins rest)
      (Stands setting.positions setting.code.functions
      (record { machine = bound_then x v rest environment joins from; input = input }))
      (with_input (conf (insert setting.positions lent (left_by (left_of setting.positions setting.code.functions lent joins)) rest)
      (record { variable = x; value = v } ∷ environment)
      (image_joins setting.positions setting.code.functions lent joins) frames after) input)
      (arrives room setting from lent below frames heap store waits input rest
      (record { variable = x; value = v } ∷ environment) joins after cells
      (rest_code setting.positions setting.code.functions lent
      (left_of setting.positions setting.code.functions lent joins) x rest rest_ok) joins_ok
      (reached_bound from.store below environment lent x v rest_ok.unlent reached) sound_then (saved_at lent joins rest)
      (omega arith)))

  -- a function's body is entered
  pub enters : (f : ℕ) (function : FunctionCode) (values : List Value)
      → IsFunctionInsertable setting.positions setting.code.functions f function → length values ≡ function.parameters
      → ((at : ℕ) → Among (at_positions (is_lent setting.positions f) 0 values) at → Reached from.store below at)
      → IsSound (at_positions (is_owned setting.positions [] f) 0 values ++ below) heap
      → (most : ℕ) → drop_cost * (length (at_positions (is_owned setting.positions [] f) 0 values) + length below) ≤ most
      → Path (inserted_at room setting) 0 most []
      (Stands setting.positions setting.code.functions (record { machine = in_code function values from; input = input }))
      (with_input (conf (inserted_function setting.positions f function).body (bind_parameters 0 values []) [] frames heap) input)
  enters f function values promise many lents sound most costs =
      dropping_path (inserted_at room setting)
      (Stands setting.positions setting.code.functions (record { machine = in_code function values from; input = input }))
      (bind_parameters 0 values []) [] frames below input 0 []
      (at_positions (is_owned setting.positions [] f) 0 (numbers_from 0 function.parameters))
      (own setting.positions (lent_of setting.positions f function) [] function.body)
      (insert setting.positions (lent_of setting.positions f function) [] function.body) heap
      most (drop_cost * length below)
      (omega (
        arith,
        costs,
        ap length owned_are,
        values_length (bind_parameters 0 values [])
            (at_positions (is_owned setting.positions [] f) 0 (numbers_from 0 function.parameters)),
      ))
      (numbers_apart (is_owned setting.positions [] f) 0 function.parameters)
      (own_apart setting.positions (lent_of setting.positions f function) [] function.body tt)
      (owned_parameter setting.positions setting.code.functions f function promise)
      (subst (λ us. IsSound (us ++ below) heap) (sym owned_are) sound)
      (λ after cells sound_then. path_here (inserted_at room setting)
      (saved_at (lent_of setting.positions f function) [] function.body)
      (Stands setting.positions setting.code.functions (record { machine = in_code function values from; input = input }))
      (with_input (conf (insert setting.positions (lent_of setting.positions f function) [] function.body)
      (bind_parameters 0 values []) [] frames after) input)
      (arrives room setting from (lent_of setting.positions f function) below frames heap store waits input function.body
      (bind_parameters 0 values []) [] after cells
      (record {
        bound = numbers_below function.parameters;
        fine = is_fine setting.positions setting.code.functions f function promise;
        lends_on = promise.tails;
        part = λ y is. nothing y is;
        apart = tt;
        small = promise.small;
      }) tt
      (λ y at is named. by_case y at is (parameter_among (is_lent setting.positions f) 0 values [] y at named)) sound_then
      (saved_at (lent_of setting.positions f function) [] function.body) (omega arith)))
    where
      owned_are : values_of (bind_parameters 0 values [])
          (at_positions (is_owned setting.positions [] f) 0 (numbers_from 0 function.parameters))
          ≡ at_positions (is_owned setting.positions [] f) 0 values
      owned_are =
          ap (λ n. values_of (bind_parameters 0 values []) (at_positions (is_owned setting.positions [] f) 0 (numbers_from 0 n)))
          (sym many) ∙ parameters_owned (is_owned setting.positions [] f) 0 values []

      nothing : (y : ℕ) → is_among [] y ≡ true → is_among (numbers_below function.parameters) y ≡ true
      nothing y is = absurd (cc)

      no_place : (at : ℕ) → unit ≡ place at → ⊥
      no_place at same = absurd (cc)

      by_case : (y at : ℕ) → is_among (lent_of setting.positions f function) y ≡ true
          → (unit ≡ place at) ⊎ ((y < 0 + length values) ×
          (is_lent setting.positions f y ≡ true → Among (at_positions (is_lent setting.positions f) 0 values) at))
          → Reached from.store below at
      by_case y at is (inl none) = absurd (no_place at none)
      by_case y at is (inr here) =
          lents at (here.1 (sym (lent_parameter setting.positions setting.code.functions f function promise y
          (omega (arith, here.0, many))) ∙ is))

-- ---- a value is given

module _ (room : ℕ) (setting : CoreSetting) (constructors : List ConstructorTree) (from : CoreConfiguration) (lent : List ℕ)
    (below : List Value) (heap : Heap) (store : from.store ≡ forwards heap) (input : List ℕ) where
  -- what a function that waits owns
  abbrev waiting_owned : List ℕ → List ℕ → CallFrame → List ℕ
  waiting_owned variables given frame =
      owns variables given
      (without (frame.variable ∷ []) (own setting.positions variables
      (left_by (left_of setting.positions setting.code.functions variables frame.joins)) frame.rest))

  gives : (x : ℕ) (environment : Environment) (joins : List Join) (core_frames : List CallFrame) (frames : List CountedFrame)
      → FramesStand setting.positions setting.code.functions from.store from.frames frames below
      → FramesStand setting.positions setting.code.functions from.store core_frames frames below
      → JoinsOk setting.positions setting.code.functions lent joins → AreReached from.store below environment lent
      → (after : Heap) → cells_of after ≡ cells_of heap
      → IsSound (values_of environment ((x ∷ []) ++ left_by (left_of setting.positions setting.code.functions lent joins)) ++
      below) after
      → ResultFits constructors setting.code (value_of environment x) joins core_frames
      → (most : ℕ) → room + form_cost + drop_cost * (suc (length (left_by
      (left_of setting.positions setting.code.functions lent joins))) + length below) ≤ most
      → Follows setting.positions setting.code.functions (inserted_at room setting) 1 most
      (give_step (value_of environment x) joins core_frames environment from) input
      (with_input (conf (Counted.give x) environment (image_joins setting.positions setting.code.functions lent joins) frames after)
      input)
  gives x environment (join ∷ joins) core_frames frames waits stand joins_ok reached after cells sound fits most costs =
      path_step (inserted_at room setting) 0 most (drop_cost * suc (length (without (join.variable ∷ [])
      (own setting.positions lent (left_by (left_of setting.positions setting.code.functions lent joins)) join.rest)))
      + drop_cost * length below) [] []
      (Stands setting.positions setting.code.functions
      (record { machine = bound_then join.variable (value_of environment x) join.rest environment joins from; input = input }))
      (with_input (conf (Counted.give x) environment
      (image_joins setting.positions setting.code.functions lent (join ∷ joins)) frames after) input)
      (with_input (conf (dropping (join.variable ∷ [])
      (own setting.positions lent (left_by (left_of setting.positions setting.code.functions lent joins)) join.rest)
      (insert setting.positions lent (left_by (left_of setting.positions setting.code.functions lent joins)) join.rest))
      (record { variable = join.variable; value = value_of environment x } ∷ environment)
      (image_joins setting.positions setting.code.functions lent joins) frames after) input)
      refl (tt, (tt, (tt, (tt, tt)))) (omega (arith, costs))
      (landing_path (inserted_at room setting)
      (Stands setting.positions setting.code.functions
      (record { machine = bound_then join.variable (value_of environment x) join.rest environment joins from; input = input }))
      (record { variable = join.variable; value = value_of environment x } ∷ environment)
      (image_joins setting.positions setting.code.functions lent joins) frames below input 0 []
      join.variable (own setting.positions lent (left_by (left_of setting.positions setting.code.functions lent joins)) join.rest)
      (insert setting.positions lent (left_by (left_of setting.positions setting.code.functions lent joins)) join.rest) after
      (drop_cost * suc (length (without (join.variable ∷ [])
      (own setting.positions lent (left_by (left_of setting.positions setting.code.functions lent joins)) join.rest)))
      + drop_cost * length below) (drop_cost * length below) (omega arith)
      (own_apart setting.positions lent (left_by (left_of setting.positions setting.code.functions lent joins)) join.rest
      joins_ok.0.apart)
      (landed join.variable (value_of environment x) environment
      (without (join.variable ∷ []) (own setting.positions lent
      (left_by (left_of setting.positions setting.code.functions lent joins)) join.rest)) below
      (values_of environment (x ∷ without (join.variable ∷ [])
      (own setting.positions lent (left_by (left_of setting.positions setting.code.functions lent joins)) join.rest)) ++ below)
      after
      (no_self join.variable (own setting.positions lent
      (left_by (left_of setting.positions setting.code.functions lent joins)) join.rest))
      (λ q. omega (
        arith,
        refs_append (values_of environment
            (without (join.variable ∷ []) (own setting.positions lent
            (left_by (left_of setting.positions setting.code.functions lent joins)) join.rest))) below q,
      )) sound)
      (λ last cells_then sound_then. path_here (inserted_at room setting)
      (saved_at room setting from lent below frames heap store waits input lent joins join.rest)
      (Stands setting.positions setting.code.functions
      (record { machine = bound_then join.variable (value_of environment x) join.rest environment joins from; input = input }))
      (with_input (conf (insert setting.positions lent
      (left_by (left_of setting.positions setting.code.functions lent joins)) join.rest)
      (record { variable = join.variable; value = value_of environment x } ∷ environment)
      (image_joins setting.positions setting.code.functions lent joins) frames last) input)
      (arrives room setting from lent below frames heap store waits input join.rest
      (record { variable = join.variable; value = value_of environment x } ∷ environment) joins last (cells_then ∙ cells)
      (rest_code setting.positions setting.code.functions lent
      (left_of setting.positions setting.code.functions lent joins) join.variable join.rest joins_ok.0) joins_ok.1
      (reached_bound from.store below environment lent join.variable (value_of environment x) joins_ok.0.unlent reached)
      sound_then (saved_at room setting from lent below frames heap store waits input lent joins join.rest) (omega arith))))
  gives x environment [] [] [] waits stand joins_ok reached after cells sound fits most costs =
      path_step (inserted_at room setting) 0 most 0 [] []
      (Stands setting.positions setting.code.functions (record { machine = at_end ended from; input = input }))
      (with_input (conf (Counted.give x) environment [] [] after) input)
      (with_input (record { control = Final.stopped ended; frames = []; heap = after }) input)
      refl (tt, (tt, (tt, (tt, tt)))) (omega (arith, costs))
      (path_here (inserted_at room setting) 0
      (Stands setting.positions setting.code.functions (record { machine = at_end ended from; input = input }))
      (with_input (record { control = Final.stopped ended; frames = []; heap = after }) input) (refl, (refl, none)))
    where
      none : busy after ≡ 0
      none =
          none_counted after sound.older
          (λ q less. omega (
            arith,
            sound.counts q,
            refs_append (values_of environment (x ∷ [])) below q,
            ap
                (λ v. refs_of v q) fits,
            ap (λ vs. refs vs q) stand,
          ))
  gives x environment [] [] (c ∷ cs) waits stand joins_ok reached after cells sound fits most costs = absurd stand
  gives x environment [] (frame ∷ older) [] waits stand joins_ok reached after cells sound fits most costs = absurd stand
  gives x environment [] (frame ∷ older) (c ∷ cs) waits stand joins_ok reached after cells sound fits most costs =
      subst (λ (other : CountedFrame). Follows setting.positions setting.code.functions (inserted_at room setting) 1 most
      (give_step (value_of environment x) [] (frame ∷ older) environment from) input
      (with_input (conf (Counted.give x) environment [] (other ∷ cs) after) input)) (sym stand.1.0.is)
      (path_step (inserted_at room setting) 0 most
      (drop_cost * (suc (length (waiting_owned stand.1.0.lent stand.1.0.given frame)) + length stand.0)) [] []
      (Stands setting.positions setting.code.functions
      (record {
        machine = bound_then frame.variable (value_of environment x) frame.rest frame.environment frame.joins
            (record from { frames = older });
        input = input;
      }))
      (with_input (conf (Counted.give x) environment []
      (image_frame setting.positions setting.code.functions stand.1.0.lent stand.1.0.given frame ∷ cs) after) input)
      (with_input (conf (image_frame setting.positions setting.code.functions stand.1.0.lent stand.1.0.given frame).rest
      (record { variable = frame.variable; value = value_of environment x } ∷ frame.environment)
      (image_joins setting.positions setting.code.functions stand.1.0.lent frame.joins) cs after) input)
      refl (tt, (tt, (tt, (tt, tt))))
      (omega (
        arith,
        costs,
        ap length stand.1.0.owned,
        owned_length frame.environment (waiting_owned stand.1.0.lent stand.1.0.given frame) stand.0,
      ))
      (lands room setting (record from { frames = older }) stand.1.0.lent stand.0 cs after
      (store ∙ same_store heap after (sym cells)) stand.1.1 input
      frame.variable (value_of environment x) frame.rest frame.environment frame.joins stand.1.0.given
      (values_of environment (x ∷ []) ++ below) stand.1.0.rest stand.1.0.joins stand.1.0.reached stand.1.0.new
      (λ q. omega (
        arith,
        ap (λ us. refs us q) stand.1.0.owned,
        refs_append (values_of frame.environment (waiting_owned stand.1.0.lent stand.1.0.given frame)) stand.0 q,
      ))
      sound (drop_cost * (suc (length (waiting_owned stand.1.0.lent stand.1.0.given frame)) + length stand.0)) (omega arith)))

  pub follows_give : (x : ℕ) (environment : Environment) (joins : List Join) (frames : List CountedFrame)
      → FramesStand setting.positions setting.code.functions from.store from.frames frames below
      → JoinsOk setting.positions setting.code.functions lent joins → AreReached from.store below environment lent
      → IsSound (values_of environment (own setting.positions lent
      (left_by (left_of setting.positions setting.code.functions lent joins)) (give x)) ++ below) heap
      → ResultFits constructors setting.code (value_of environment x) joins from.frames
      → (most : ℕ) → room + step_cost + drop_cost * (length (own setting.positions lent
      (left_by (left_of setting.positions setting.code.functions lent joins)) (give x)) + length below) ≤ most
      → Follows setting.positions setting.code.functions (inserted_at room setting) 1 most
      (give_step (value_of environment x) joins from.frames environment from) input
      (with_input (conf (insert setting.positions lent (left_by (left_of setting.positions setting.code.functions lent joins))
      (give x)) environment (image_joins setting.positions setting.code.functions lent joins) frames heap) input)
  follows_give x environment joins frames waits joins_ok reached sound fits most costs =
      dups_first (inserted_at room setting)
      (Stands setting.positions setting.code.functions
      (performed (give_step (value_of environment x) joins from.frames environment from) input).1) environment
      (image_joins setting.positions setting.code.functions lent joins) frames below input 1
      (performed (give_step (value_of environment x) joins from.frames environment from) input).0
      setting.positions lent (x ∷ []) (left_by (left_of setting.positions setting.code.functions lent joins))
      (Counted.give x) heap most (room + form_cost + drop_cost * length below) (omega (arith, costs)) sound
      (subst (λ (s : Store). AreReached s below environment lent) store reached)
      (λ after cells sound_then. gives x environment joins from.frames frames waits waits joins_ok reached after cells sound_then
      fits (drop_cost * (1 + length (left_by (left_of setting.positions setting.code.functions lent joins)))
      + (room + form_cost + drop_cost * length below)) (omega arith))
