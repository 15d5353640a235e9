-- The counted machine follows the core machine at calls.
use Rattle.std.proofs.Common.{◌≡◌, ◌⊎◌, inl, inr, ℕ, suc, ◌+◌, ◌*◌, ◌≤◌, Bool, true, false, List, [], ◌∷◌, ◌++◌, length, map, Option, Some, arith, refl, sym, ap, ◌∙◌, subst}
use Rattle.std.specs.Prelude.{if◌then◌else◌, slice_get, nat_le}
use Rattle.kk_syntax.specs.declared.program.Form.TheVariants.{Call}
use Rattle.kk_syntax.specs.Shapes.{is_among, without}
use Rattle.kk_syntax.specs.PositionsOf.{is_lent}
use Rattle.kk_source.specs.State.{Value, integer, unit, constant, place, Store, Environment, stack_full}
use Rattle.kk_source.specs.Live.{value_of, Among, Reached}
use Rattle.kk_source.specs.Notes.{called}
use Rattle.kk_source.specs.Actions.{calls, performed}
use Rattle.kk_source.specs.Step.{lent_places, bind_parameters}
use Rattle.kk_source.proofs.Live.{among_front, among_back}
use Rattle.kk_core.specs.Codes.{Code, tail_call, FunctionCode}
use Rattle.kk_core.specs.Costs.{step_cost, part_cost}
use Rattle.kk_core.specs.CoreStates.{CoreSetting, Join, CallFrame, CoreConfiguration}
use Rattle.kk_core.specs.CoreMachine.{at_end, in_code, tail_step, call_step}
use Rattle.kk_core.proofs.CallFrames.{call_frame}
use Rattle.kk_counted.proofs.ListLengths.{positions_few}
use Rattle.kk_counted.specs.CountedCodes as Counted
use Rattle.kk_counted.specs.CountedCodes.{CountedFunction}
use Rattle.kk_counted.specs.CountedCosts.{form_cost, value_cost, drop_cost}
use Rattle.kk_counted.specs.Heaps.{Heap, forwards}
use Rattle.kk_counted.specs.CountedStates.{CountedFrame, CountedConfiguration}
use Rattle.kk_counted.specs.CountedMachine.{tail_step as counted_tail_step, call_step as counted_call_step, in_code as counted_in_code, at_end as counted_at_end}
use Rattle.kk_counted.specs.References.{refs_of, refs, IsSound}
use Rattle.kk_counted.specs.Spending.{at_positions, left_by, is_owned}
use Rattle.kk_counted.specs.Keeping.{values_of, AreReached, IsThere}
use Rattle.kk_counted.proofs.CountChanges.{refs_append}
use Rattle.kk_counted.proofs.Variables.{refs_of_both, among_values, among_others, values_at}
use Rattle.kk_counted.proofs.Reachability.{same_store, reached_widen}
use Rattle.kk_counted.proofs.SoundSteps.{moved}
use Rattle.kk_insert.specs.Meaning.{inserted_setting}
use Rattle.kk_insert.specs.Insertion.{used, lends, owns, own, insert, inserted_function, inserted_functions}
use Rattle.kk_insert.specs.Promise.{IsInsertable}
use Rattle.kk_insert.proofs.Sets.{in_either, part_all}
use Rattle.kk_insert.proofs.Lengths.{values_length, owned_length}
use Rattle.kk_insert.proofs.OwnedVariables.{in_owns}
use Rattle.kk_insert.proofs.Spending.{lent_arguments}
use Rattle.kk_insert.proofs.Programs.{inserted_there}
use Rattle.kk_insert.proofs.Paths.{conf, with_input, path_here, path_step}
use Rattle.kk_insert.proofs.StateRelation.{inserted_at, left_of, image_joins, image_frame, CodeOk, RestOk, JoinsOk, FramesStand, Stands, Follows}
use Rattle.kk_insert.proofs.EntrySimulation.{dups_first, enters}

-- as many functions wait
frames_length : (setting : CoreSetting) (store : Store) (frames : List CallFrame) (cs : List CountedFrame) (below : List Value)
    → FramesStand setting.positions setting.code.functions store frames cs below → length cs ≡ length frames
frames_length setting store [] [] below stand = refl
frames_length setting store [] (c ∷ cs) below stand = absurd stand
frames_length setting store (frame ∷ older) [] below stand = absurd stand
frames_length setting store (frame ∷ older) (c ∷ cs) below stand = ap suc (frames_length setting store older cs stand.0 stand.1.1)

-- the core's frames keep the places among the values that are lent
no_place : (takes : ℕ → Bool) (next q : ℕ) (v : Value) (vs : List Value) → refs_of v q ≡ 0
    → refs (lent_places takes (suc next) vs) q ≡ refs (at_positions takes (suc next) vs) q
    → refs (lent_places takes (suc next) vs) q ≡ refs (at_positions takes next (v ∷ vs)) q
no_place takes next q v vs none later = by_test (takes next)
  where
    by_test : (t : Bool) → refs (lent_places takes (suc next) vs) q ≡ refs
        (if t then v ∷ at_positions takes (suc next) vs else at_positions takes (suc next) vs) q
    by_test true = omega (arith, later, none)
    by_test false = later

places_lent : (takes : ℕ → Bool) (next q : ℕ) (vs : List Value)
    → refs (lent_places takes next vs) q ≡ refs (at_positions takes next vs) q
places_lent takes next q [] = refl
places_lent takes next q (integer n ∷ vs) = no_place takes next q (integer n) vs refl (places_lent takes (suc next) q vs)
places_lent takes next q (unit ∷ vs) = no_place takes next q unit vs refl (places_lent takes (suc next) q vs)
places_lent takes next q (constant c ∷ vs) = no_place takes next q (constant c) vs refl (places_lent takes (suc next) q vs)
places_lent takes next q (place at ∷ vs) = by_test (takes next) (places_lent takes (suc next) q vs)
  where
    by_test : (t : Bool) → refs (lent_places takes (suc next) vs) q ≡ refs (at_positions takes (suc next) vs) q
        → refs (if t then place at ∷ lent_places takes (suc next) vs else lent_places takes (suc next) vs) q ≡ refs
        (if t then place at ∷ at_positions takes (suc next) vs else at_positions takes (suc next) vs) q
    by_test true later = omega (arith, later)
    by_test false later = later

module _ (room : ℕ) (setting : CoreSetting) (promise : IsInsertable setting.positions setting.code) (from : CoreConfiguration) (lent : List ℕ)
    (below : List Value) (frames : List CountedFrame) (heap : Heap)
    (store : from.store ≡ forwards heap)
    (waits : FramesStand setting.positions setting.code.functions from.store from.frames frames below) (input : List ℕ) where
  pub follows_tail : (f : ℕ) (arguments : List ℕ) (environment : Environment) (joins : List Join) (function : FunctionCode)
      → CodeOk setting.positions setting.code.functions lent (left_of setting.positions setting.code.functions lent joins)
      (tail_call f arguments)
      → AreReached from.store below environment lent
      → IsSound (values_of environment (own setting.positions lent
      (left_by (left_of setting.positions setting.code.functions lent joins)) (tail_call f arguments)) ++ below) heap
      → slice_get setting.code.functions f ≡ Some function → length (map (value_of environment) arguments) ≡ function.parameters
      → (most : ℕ) → room + step_cost + part_cost * length arguments + drop_cost * (length (own setting.positions lent
      (left_by (left_of setting.positions setting.code.functions lent joins)) (tail_call f arguments)) + length below) ≤ most
      → Follows setting.positions setting.code.functions (inserted_at room setting) 1 most
      (tail_step (slice_get setting.code.functions f) (map (value_of environment) arguments) from) input
      (with_input (conf (insert setting.positions lent (left_by (left_of setting.positions setting.code.functions lent joins))
      (tail_call f arguments)) environment (image_joins setting.positions setting.code.functions lent joins) frames heap) input)
  follows_tail f arguments environment (join ∷ joins) function ok reached sound there many most costs =
      absurd (not_tail ok.lends_on.0)
    where
      not_tail : false ≡ true → ⊥
      not_tail is = absurd (cc)
  follows_tail f arguments environment [] function ok reached sound there many most costs =
      subst (λ (o : Option FunctionCode). Follows setting.positions setting.code.functions (inserted_at room setting) 1 most
      (tail_step o (map (value_of environment) arguments) from) input
      (with_input (conf (insert setting.positions lent [] (tail_call f arguments)) environment [] frames heap) input)) (sym there)
      (dups_first (inserted_at room setting)
      (Stands setting.positions setting.code.functions
      (record { machine = in_code function (map (value_of environment) arguments) from; input = input })) environment
      [] frames below input 1 []
      setting.positions lent (used setting.positions (Call f) arguments) [] (Counted.tail_call f arguments) heap
      most (room + form_cost + value_cost * length arguments + drop_cost * length below)
      (omega (arith, costs, positions_few (is_owned setting.positions [] f) 0 arguments)) sound
      (subst (λ (s : Store). AreReached s below environment lent) store reached)
      (λ after cells sound_then.
      path_step (inserted_at room setting) 0
      (drop_cost * (length (used setting.positions (Call f) arguments) + 0)
      + (room + form_cost + value_cost * length arguments + drop_cost * length below))
      (drop_cost * (length (used setting.positions (Call f) arguments) + length below)) [] []
      (Stands setting.positions setting.code.functions
      (record { machine = in_code function (map (value_of environment) arguments) from; input = input }))
      (with_input (conf (Counted.tail_call f arguments) environment [] frames after) input)
      (with_input (conf (inserted_function setting.positions f function).body
      (bind_parameters 0 (map (value_of environment) arguments) []) [] frames after) input)
      (ap (λ (o : Option CountedFunction). performed
      (counted_tail_step o (map (value_of environment) arguments)
      (conf (Counted.tail_call f arguments) environment [] frames after)) input)
      (inserted_there setting.positions setting.code.functions f function there)) (
        tt,
        (
          tt,
          (
            tt,
            (
              (inserted_function setting.positions f function, inserted_there setting.positions setting.code.functions f function there),
              tt,
            ),
          ),
        ),
      )
      (omega arith)
      (enters room setting from lent below frames after (store ∙ same_store heap after (sym cells)) waits input f function
      (map (value_of environment) arguments) (promise.each f function there) many
      (λ at among.
      let y = among_others environment (at_positions (is_lent setting.positions f) 0 arguments) lent at ok.lends_on.1.0
      (subst (λ vs. Among vs at) (sym (values_at environment (is_lent setting.positions f) 0 arguments)) among) in
      reached y.0 at y.1.0 y.1.1)
      (moved (values_of environment (used setting.positions (Call f) arguments ++ []) ++ below)
      (at_positions (is_owned setting.positions [] f) 0 (map (value_of environment) arguments) ++ below) after
      (λ q. omega (
        arith,
        refs_append (values_of environment (used setting.positions (Call f) arguments ++ [])) below q,
        refs_append (at_positions (is_owned setting.positions [] f) 0 (map (value_of environment) arguments)) below q,
        refs_of_both environment (used setting.positions (Call f) arguments) [] q,
        ap (λ vs. refs vs q) (values_at environment (is_owned setting.positions [] f) 0 arguments),
      ))
      sound_then)
      (drop_cost * (length (used setting.positions (Call f) arguments) + length below))
      (omega (
        arith,
        ap length (values_at environment (is_owned setting.positions [] f) 0 arguments),
        values_length environment (at_positions (is_owned setting.positions [] f) 0 arguments),
      )))))

  module _ (x f : ℕ) (arguments : List ℕ) (rest : Code) (environment : Environment) (joins : List Join)
      (rest_ok : RestOk setting.positions setting.code.functions lent
      (left_of setting.positions setting.code.functions lent joins) x rest)
      (joins_ok : JoinsOk setting.positions setting.code.functions lent joins)
      (reached : AreReached from.store below environment lent)
      (new : is_among (lends setting.positions (Call f) arguments) x ≡ false) where
    abbrev now : List ℕ
    now = own setting.positions lent (left_by (left_of setting.positions setting.code.functions lent joins)) rest

    abbrev held : List ℕ
    held = owns lent (lends setting.positions (Call f) arguments) (without (x ∷ []) now)

    abbrev values : List Value
    values = map (value_of environment) arguments

    abbrev waiting : CallFrame
    waiting = call_frame setting x rest joins environment f values

    abbrev image : CountedFrame
    image = image_frame setting.positions setting.code.functions lent (lends setting.positions (Call f) arguments) waiting

    abbrev before_call : CountedConfiguration
    before_call =
        conf (Counted.compute x (Call f) arguments image.rest) environment
        (image_joins setting.positions setting.code.functions lent joins) frames heap

    waits_longer : FramesStand setting.positions setting.code.functions from.store (waiting ∷ from.frames) (image ∷ frames)
        (values_of environment held ++ below)
    waits_longer = (
      below,
      (
        record {
          lent = lent;
          given = lends setting.positions (Call f) arguments;
          is = refl;
          rest = rest_ok;
          new = new;
          joins = joins_ok;
          owned = refl;
          lends = λ q. places_lent (is_lent setting.positions f) 0 q values
              ∙ ap (λ vs. refs vs q) (sym (values_at environment (is_lent setting.positions f) 0 arguments));
          reached = reached;
        },
        waits,
      ),
    )

    in_either_way : (y at : ℕ) → (is_among lent y ≡ true) ⊎ (is_among held y ≡ true) → value_of environment y ≡ place at
        → Reached from.store (values_of environment held ++ below) at
    in_either_way y at (inl is) named =
        reached_widen from.store below (values_of environment held ++ below) at
        (λ goal. among_back (values_of environment held) below goal) (reached y at is named)
    in_either_way y at (inr is) named = (
      [],
      among_front (values_of environment held) below at
          (among_values environment held y at is named),
    )

    lents : (at : ℕ) → Among (at_positions (is_lent setting.positions f) 0 values) at
        → Reached from.store (values_of environment held ++ below) at
    lents at among =
        let y = among_others environment (at_positions (is_lent setting.positions f) 0 arguments) (lent ++ held) at
        (part_all (at_positions (is_lent setting.positions f) 0 arguments) (lent ++ held)
        (lent_arguments lent held (lends setting.positions (Call f) arguments)
        (λ z is other. in_owns setting.positions lent (lends setting.positions (Call f) arguments)
        (without (x ∷ []) now) z is other)))
        (subst (λ vs. Among vs at) (sym (values_at environment (is_lent setting.positions f) 0 arguments)) among) in
        in_either_way y.0 at (in_either lent held y.0 y.1.0) y.1.1

    pub call_at : (function : FunctionCode) → slice_get setting.code.functions f ≡ Some function
        → length values ≡ function.parameters
        → IsSound (values_of environment (used setting.positions (Call f) arguments ++ held) ++ below) heap
        → (most : ℕ) → room + form_cost + value_cost * length arguments
        + drop_cost * (length (used setting.positions (Call f) arguments) + length held + length below) ≤ most
        → Follows setting.positions setting.code.functions (inserted_at room setting) 1 most
        (call_step setting f (slice_get setting.code.functions f) values
        (λ lent. record { variable = x; rest = rest; joins = joins; environment = environment; lent = lent }) from) input
        (with_input before_call input)
    call_at function there many sound most costs =
        subst (λ (o : Option FunctionCode). Follows setting.positions setting.code.functions (inserted_at room setting) 1 most
        (call_step setting f o values
        (λ lent. record { variable = x; rest = rest; joins = joins; environment = environment; lent = lent }) from) input
        (with_input before_call input)) (sym there)
        (by_test (nat_le setting.depth (suc (length from.frames))) refl)
      where
        is_there : IsThere (inserted_functions setting.positions 0 setting.code.functions) f
        is_there =
            (inserted_function setting.positions f function, inserted_there setting.positions setting.code.functions f function there)

        step_is : (t : Bool) → nat_le setting.depth (suc (length from.frames)) ≡ t
            → performed (counted_call_step (inserted_setting setting)
            (slice_get (inserted_functions setting.positions 0 setting.code.functions) f) values image before_call) input
            ≡ (
              called (suc (length from.frames)) ∷ [],
              with_input
                  (if t then counted_at_end stack_full before_call else counted_in_code
                  (inserted_function setting.positions f function) values (record before_call { frames = image ∷ frames })) input,
            )
        step_is t is =
            ap (λ (o : Option CountedFunction). performed
            (counted_call_step (inserted_setting setting) o values image before_call) input)
            (inserted_there setting.positions setting.code.functions f function there)
            ∙ (ap (λ (n : ℕ). performed (calls n
            (if nat_le setting.depth n then counted_at_end stack_full before_call else counted_in_code
            (inserted_function setting.positions f function) values (record before_call { frames = image ∷ frames }))) input)
            (ap suc (frames_length setting from.store from.frames frames below waits))
            ∙ ap (λ (b : Bool). performed
            (calls (suc (length from.frames))
            (if b then counted_at_end stack_full before_call else counted_in_code
            (inserted_function setting.positions f function) values (record before_call { frames = image ∷ frames }))) input)
            is)

        by_test : (t : Bool) → nat_le setting.depth (suc (length from.frames)) ≡ t
            → Follows setting.positions setting.code.functions (inserted_at room setting) 1 most
            (calls (suc (length from.frames))
            (if t then at_end stack_full from else in_code function values (record from { frames = waiting ∷ from.frames })))
            input (with_input before_call input)
        by_test true is =
            path_step (inserted_at room setting) 0 most 0 (called (suc (length from.frames)) ∷ []) []
            (Stands setting.positions setting.code.functions (record { machine = at_end stack_full from; input = input }))
            (with_input before_call input) (with_input (counted_at_end stack_full before_call) input) (step_is true is)
            (tt, (tt, (tt, (is_there, tt)))) (omega (arith, costs))
            (path_here (inserted_at room setting) 0
            (Stands setting.positions setting.code.functions (record { machine = at_end stack_full from; input = input }))
            (with_input (counted_at_end stack_full before_call) input) (refl, (refl, tt)))
        by_test false is =
            path_step (inserted_at room setting) 0 most
            (drop_cost * (length (used setting.positions (Call f) arguments) + (length held + length below)))
            (called (suc (length from.frames)) ∷ []) []
            (Stands setting.positions setting.code.functions
            (record { machine = in_code function values (record from { frames = waiting ∷ from.frames }); input = input }))
            (with_input before_call input)
            (with_input (counted_in_code (inserted_function setting.positions f function) values
            (record before_call { frames = image ∷ frames })) input) (step_is false is) (tt, (tt, (tt, (is_there, tt))))
            (omega (arith, costs))
            (enters room setting (record from { frames = waiting ∷ from.frames }) lent (values_of environment held ++ below)
            (image ∷ frames) heap store waits_longer input f function values (promise.each f function there) many lents
            (moved (values_of environment (used setting.positions (Call f) arguments ++ held) ++ below)
            (at_positions (is_owned setting.positions [] f) 0 values ++ (values_of environment held ++ below)) heap
            (λ q. omega (
              arith,
              refs_append (values_of environment (used setting.positions (Call f) arguments ++ held)) below q,
              refs_append (at_positions (is_owned setting.positions [] f) 0 values) (values_of environment held ++ below) q,
              refs_append (values_of environment held) below q,
              refs_of_both environment (used setting.positions (Call f) arguments) held q,
              ap (λ vs. refs vs q) (values_at environment (is_owned setting.positions [] f) 0 arguments),
            ))
            sound)
            (drop_cost * (length (used setting.positions (Call f) arguments) + (length held + length below)))
            (omega (
              arith,
              ap length (values_at environment (is_owned setting.positions [] f) 0 arguments),
              values_length environment (at_positions (is_owned setting.positions [] f) 0 arguments),
              owned_length environment held below,
            )))
