-- The counted machine follows the core machine at blocks, cases, uses and openings.
use Rattle.std.proofs.Common.{◌≡◌, ◌⊎◌, inl, inr, ℕ, zero, suc, ◌+◌, ◌*◌, ◌≤◌, ◌==◌, ◌||◌, ◌&&◌, Bool, true, false, not, List, [], ◌∷◌, ◌++◌, length, Option, Some, None, arith, refl, sym, ap, ◌∙◌, subst, length-append}
use Rattle.std.specs.Prelude.{if◌then◌else◌, slice_get, filter}
use Rattle.kk_syntax.specs.Shapes.{is_among, without}
use Rattle.kk_source.specs.State.{Value, place, Cell, Store, Environment}
use Rattle.kk_source.specs.Live.{value_of, fields_in, Among, Reached}
use Rattle.kk_source.specs.Matching.{fields_made_by, and_then}
use Rattle.kk_source.specs.Notes.{Note}
use Rattle.kk_source.specs.Actions.{Action, goes, performed}
use Rattle.kk_core.specs.Codes.{Code, case, use_of, unpack, inside, Arms, no_arm, arm}
use Rattle.kk_core.specs.CoreStates.{CoreSetting, Join, CoreConfiguration, CoreState}
use Rattle.kk_core.specs.CoreMachine.{at_code, bind_fields, fields_opened, unpack_step, arm_at, case_step}
use Rattle.kk_core.specs.Costs.{step_cost, part_cost}
use Rattle.kk_core.specs.Decisions.{NodeTree, chosen}
use Rattle.kk_core.specs.Looks.{looks_taken}
use Rattle.kk_core.specs.Sizes.{forms, forms_of_arms, most_forms}
use Rattle.kk_counted.proofs.ListLengths.{filter_length}
use Rattle.kk_counted.specs.CountedCodes as Counted
use Rattle.kk_counted.specs.CountedCosts.{dup_cost, drop_cost}
use Rattle.kk_counted.specs.Heaps.{Heap, forwards, count_at, cell_at, fields_held}
use Rattle.kk_counted.specs.CountedStates.{CountedFrame, CountedState}
use Rattle.kk_counted.specs.CountedMachine.{with_heap, arm_at as counted_arm_at, case_step as counted_case_step, if_made_by, Named, cell_named, used_values, other_values, opened_heap, open_step}
use Rattle.kk_counted.specs.References.{refs_of, refs, IsSound, IsCounted, cells_of}
use Rattle.kk_counted.specs.Spending.{total, AreApart, AreFresh, left_by}
use Rattle.kk_counted.specs.Keeping.{values_of, AreReached, IsCell}
use Rattle.kk_counted.proofs.CountChanges.{itself, refs_append}
use Rattle.kk_counted.proofs.Heaps.{Became, ref_here, positive, value_counted, fields_counted, with_fields, opened}
use Rattle.kk_counted.proofs.Variables.{refs_of_both, fields_fresh, field_past, field_or_old, field_is_one, used_refs, fields_part as refs_part}
use Rattle.kk_counted.proofs.Reachability.{one_among, same_store, store_fields, reached_field}
use Rattle.kk_counted.proofs.Looks.{cell_same, chosen_same}
use Rattle.kk_counted.proofs.LookAgreement.{looks_same}
use Rattle.kk_counted.proofs.SoundSteps.{became_sound}
use Rattle.kk_insert.specs.Meaning.{inserted_setting}
use Rattle.kk_insert.specs.Insertion.{common, dups, dropping, own, own_arms, insert, insert_arms, opening}
use Rattle.kk_insert.specs.Promise.{LendsOn, AllLendOn}
use Rattle.kk_insert.proofs.Sets.{no_both, false_if, Part, among_next, one_only, in_back, filter_in, without_clear, in_without, clear_back, before_front, before_back, clear_fresh, apart_filter, filter_alike, among_filter}
use Rattle.kk_insert.proofs.Lengths.{even_length}
use Rattle.kk_insert.proofs.VariableBindings.{FineFields, IsFine, AreFine}
use Rattle.kk_insert.proofs.OwnedVariables.{own_part, own_apart, owns_after, rest_part}
use Rattle.kk_insert.proofs.Spending.{looked_at, at_tail, fields_even, owns_kept, owns_new}
use Rattle.kk_insert.proofs.Paths.{PassingBy, Passing, passing_by, conf, with_input, Path, path_by, path_here, path_next, path_step}
use Rattle.kk_insert.proofs.DupsAndDrops.{sound_even, either_counted, dups_path, dropping_path}
use Rattle.kk_insert.proofs.StateRelation.{inserted_at, left_of, image_joins, CodeOk, JoinsOk, FramesStand, Stands, FollowsBy}
use Rattle.kk_insert.proofs.StateRelation.{Follows}

module _ (room : ℕ) (setting : CoreSetting) (from : CoreConfiguration) (lent : List ℕ) (below : List Value) (frames : List CountedFrame)
    (heap : Heap)
    (store : from.store ≡ forwards heap)
    (waits : FramesStand setting.positions setting.code.functions from.store from.frames frames below) (input : List ℕ) where
  -- the state with a code stands for the core machine at it
  pub arrives : (code : Code) (environment : Environment) (joins : List Join) (after : Heap) → cells_of after ≡ cells_of heap
      → CodeOk setting.positions setting.code.functions lent (left_of setting.positions setting.code.functions lent joins) code
      → JoinsOk setting.positions setting.code.functions lent joins
      → AreReached from.store below environment lent
      → IsSound (values_of environment (own setting.positions lent
      (left_by (left_of setting.positions setting.code.functions lent joins)) code) ++ below) after
      → (credit : ℕ) → drop_cost * (length (own setting.positions lent
      (left_by (left_of setting.positions setting.code.functions lent joins)) code) + length below) ≤ credit
      → Stands setting.positions setting.code.functions (record { machine = at_code code environment joins from; input = input })
      credit (with_input (conf (insert setting.positions lent
      (left_by (left_of setting.positions setting.code.functions lent joins)) code)
      environment (image_joins setting.positions setting.code.functions lent joins) frames after) input)
  arrives code environment joins after cells ok joins_ok reached sound credit saved = (
    refl,
    record {
      lent = lent;
      below = below;
      frames = frames;
      heap = after;
      is = refl;
      store = store ∙ same_store heap after (sym cells);
      waits = waits;
      code_ok = ok;
      joins_ok = joins_ok;
      reached = reached;
      sound = sound;
      saved = saved;
    },
  )

  module _ (environment : Environment) (joins : List Join) (joins_ok : JoinsOk setting.positions setting.code.functions lent joins)
      (reached : AreReached from.store below environment lent) where
    abbrev left : Option (List ℕ)
    left = left_of setting.positions setting.code.functions lent joins

    abbrev Ok : Code → Type 0
    Ok code = CodeOk setting.positions setting.code.functions lent left code

    abbrev owning : Code → List ℕ
    owning code = own setting.positions lent (left_by left) code

    abbrev inserted_code : Code → Counted.Counted
    inserted_code code = insert setting.positions lent (left_by left) code

    abbrev SoundNow : Code → Type 0
    SoundNow code = IsSound (values_of environment (owning code) ++ below) heap

    -- what is saved while a code runs that owns so many variables
    abbrev credit_of : List ℕ → ℕ
    credit_of owned = drop_cost * (length owned + length below)

    abbrev Does : (least most : ℕ) → Action CoreConfiguration → Counted.Counted → Type 0
    Does least most action code =
        Follows setting.positions setting.code.functions (inserted_at room setting) least most action input
        (with_input (conf code environment (image_joins setting.positions setting.code.functions lent joins) frames heap) input)

    abbrev DoesBy : (CountedState → Type 0) → (least most : ℕ) → Action CoreConfiguration → Counted.Counted → Type 0
    DoesBy Q least most action code =
        FollowsBy setting.positions setting.code.functions Q (inserted_at room setting) least most action input
        (with_input (conf code environment (image_joins setting.positions setting.code.functions lent joins) frames heap) input)

    abbrev StandsAs : List Note × CoreState → ℕ → CountedState → Type 0
    StandsAs done = Stands setting.positions setting.code.functions done.1

    reached_now : AreReached (forwards heap) below environment lent
    reached_now = subst (λ (s : Store). AreReached s below environment lent) store reached

    -- what a code does not use is dropped before it
    dropped_first : (all : List ℕ) (code : Code) (most : ℕ) → credit_of all ≤ most → Ok code → AreApart all
        → Part (owning code) all → IsSound (values_of environment all ++ below) heap
        → Does 0 most (goes (at_code code environment joins from)) (dropping all (owning code) (inserted_code code))
    dropped_first all code most costs ok apart part sound =
        dropping_path (inserted_at room setting) (StandsAs (performed (goes (at_code code environment joins from)) input))
        environment (image_joins setting.positions setting.code.functions lent joins) frames below input 0 []
        all (owning code) (inserted_code code) heap most (drop_cost * length below) (omega (arith, costs)) apart
        (own_apart setting.positions lent (left_by left) code ok.apart) part sound
        (λ after cells sound_then. path_here (inserted_at room setting)
        (drop_cost * length (owning code) + drop_cost * length below)
        (StandsAs (performed (goes (at_code code environment joins from)) input))
        (with_input (conf (inserted_code code) environment
        (image_joins setting.positions setting.code.functions lent joins) frames after) input)
        (arrives code environment joins after cells ok joins_ok reached sound_then
        (drop_cost * length (owning code) + drop_cost * length below) (omega arith)))

    pub follows_use : (x : ℕ) (rest : Code) (most : ℕ) → room + step_cost + credit_of (owning (use_of x rest)) ≤ most
        → Ok (use_of x rest) → SoundNow (use_of x rest)
        → Does 0 most (goes (at_code rest environment joins from)) (inserted_code (use_of x rest))
    follows_use x rest most costs ok sound =
        dropped_first (owning (use_of x rest)) rest most (omega (arith, costs))
        (record {
          bound = ok.bound;
          fine = ok.fine.1;
          lends_on = ok.lends_on;
          part = ok.part;
          apart = ok.apart;
          small = omega
              (arith, ok.small);
        })
        (own_apart setting.positions lent (left_by left) (use_of x rest) ok.apart)
        (owns_after setting.positions lent (x ∷ []) (owning rest)) sound

    pub follows_inside : (x : ℕ) (block rest : Code) (most : ℕ) → room + step_cost + credit_of (owning (inside x block rest)) ≤ most
        → Ok (inside x block rest) → SoundNow (inside x block rest)
        → Does 1 most (goes (at_code block environment (record { variable = x; rest = rest } ∷ joins) from))
        (inserted_code (inside x block rest))
    follows_inside x block rest most costs ok sound =
        path_step (inserted_at room setting) 0 most (credit_of (owning (inside x block rest))) [] []
        (StandsAs (performed (goes (at_code block environment (record { variable = x; rest = rest } ∷ joins) from)) input))
        (with_input (conf (inserted_code (inside x block rest)) environment
        (image_joins setting.positions setting.code.functions lent joins) frames heap) input)
        (with_input (conf (insert setting.positions lent (without (x ∷ []) (owning rest)) block) environment
        (image_joins setting.positions setting.code.functions lent (record { variable = x; rest = rest } ∷ joins)) frames heap)
        input)
        refl (tt, (tt, (tt, (tt, tt)))) (omega (arith, costs))
        (path_here (inserted_at room setting) (credit_of (owning (inside x block rest)))
        (StandsAs (performed (goes (at_code block environment (record { variable = x; rest = rest } ∷ joins) from)) input))
        (with_input (conf (insert setting.positions lent (without (x ∷ []) (owning rest)) block) environment
        (image_joins setting.positions setting.code.functions lent (record { variable = x; rest = rest } ∷ joins)) frames heap)
        input)
        (arrives block environment (record { variable = x; rest = rest } ∷ joins) heap refl
        (record {
          bound = ok.bound;
          fine = ok.fine.0;
          lends_on = ok.lends_on.0;
          part = rest_part setting.positions lent x (owning rest) ok.bound
              (own_part setting.positions lent (left_by left) (x ∷ ok.bound) rest ok.fine.1.1.1
              (λ y is. among_next x y ok.bound (ok.part y is)));
          apart = apart_filter (λ z. not (is_among (x ∷ []) z)) (owning rest)
              (own_apart setting.positions lent (left_by left) rest ok.apart);
          small = omega (arith, ok.small);
        }) (
          record {
            bound = ok.bound;
            new = ok.fine.1.0;
            unlent = ok.fine.1.1.0;
            fine = ok.fine.1.1.1;
            lends_on = ok.lends_on.1;
            part = ok.part;
            apart = ok.apart;
            small = omega (arith, ok.small);
          },
          joins_ok,
        ) reached sound (credit_of (owning (inside x block rest))) (omega arith)))

    -- ---- cases

    abbrev inserted_if : List ℕ → Option Code → Option Counted.Counted
    inserted_if all None = None
    inserted_if all (Some code) = Some (dropping all (owning code) (inserted_code code))

    arm_is : (arms : Arms) (all : List ℕ) (row : ℕ)
        → counted_arm_at (insert_arms setting.positions lent (left_by left) all arms) row ≡ inserted_if all (arm_at arms row)
    arm_is no_arm all row = refl
    arm_is (arm pattern first rest) all zero = refl
    arm_is (arm pattern first rest) all (suc row) = arm_is rest all row

    abbrev OnFound : (Code → Type 0) → Option Code → Type 0
    OnFound P None = Unit {0}
    OnFound P (Some code) = P code

    -- an arm of a case whose arms are all in place
    abbrev GoodArm : List ℕ → List ℕ → Code → Type 0
    GoodArm bound all code =
        IsFine lent bound code
        × (LendsOn setting.positions setting.code.functions lent (at_tail left) code
        × ((forms code ≤ most_forms) × Part (owning code) all))

    good_arm : (arms : Arms) (bound all : List ℕ) (row : ℕ) → AreFine lent bound arms
        → AllLendOn setting.positions setting.code.functions lent (at_tail left) arms → forms_of_arms arms ≤ most_forms
        → Part (own_arms setting.positions lent (left_by left) arms) all → OnFound (GoodArm bound all) (arm_at arms row)
    good_arm no_arm bound all row fine on small part = tt
    good_arm (arm pattern body rest) bound all zero fine on small part = (
      fine.0,
      (
        on.0,
        (
          omega (arith, small),
          λ y is. part y
              (before_front (owning body) (own_arms setting.positions lent (left_by left) rest) y is),
        ),
      ),
    )
    good_arm (arm pattern body rest) bound all (suc row) fine on small part =
        good_arm rest bound all row fine.1 on.1 (omega (arith, small))
        (λ y is. part y (before_back (owning body) (own_arms setting.positions lent (left_by left) rest) y is))

    -- the first state is at the case, and none behind it is
    pub follows_case : (Test : Store → Value → List NodeTree → Type 0) (x : ℕ) (decisions : List NodeTree) (arms : Arms) (row : ℕ)
        (body : Code) (most : ℕ)
        → room + step_cost + part_cost * looks_taken (slice_get from.store) (value_of environment x) decisions
        + credit_of (owning (case x decisions arms)) ≤ most → Ok (case x decisions arms) → SoundNow (case x decisions arms)
        → chosen (slice_get from.store) (value_of environment x) decisions ≡ Some row → arm_at arms row ≡ Some body
        → Test from.store (value_of environment x) decisions
        → DoesBy (PassingBy Test (inserted_setting setting)) 1 most
        (case_step (and_then (chosen (slice_get from.store) (value_of environment x) decisions) (arm_at arms)) environment
        joins from) (inserted_code (case x decisions arms))
    follows_case Test x decisions arms row body most costs ok sound row_is body_is tested =
        subst (λ (o : Option Code). DoesBy (PassingBy Test (inserted_setting setting)) 1 most (case_step o environment joins from)
        (inserted_code (case x decisions arms)))
        (sym (ap (λ (o : Option ℕ). and_then o (arm_at arms)) row_is ∙ body_is))
        (path_next (PassingBy Test (inserted_setting setting)) (inserted_at room setting) 0 most
        (credit_of (owning (case x decisions arms))) [] []
        (StandsAs (performed (goes (at_code body environment joins from)) input))
        (with_input (conf (inserted_code (case x decisions arms)) environment
        (image_joins setting.positions setting.code.functions lent joins) frames heap) input)
        (with_input (conf (dropping (owning (case x decisions arms)) (owning body) (inserted_code body)) environment
        (image_joins setting.positions setting.code.functions lent joins) frames heap) input)
        (ap (λ (o : Option Counted.Counted). performed
        (counted_case_step o environment (image_joins setting.positions setting.code.functions lent joins)
        (conf (inserted_code (case x decisions arms)) environment
        (image_joins setting.positions setting.code.functions lent joins) frames heap)) input) found) (
          tt,
          (
            tt,
            (
              tt,
              (
                (row, (dropping (owning (case x decisions arms)) (owning body) (inserted_code body), (row_there, arm_there))),
                subst (λ (s : Store). Test s (value_of environment x) decisions) store tested,
              ),
            ),
          ),
        )
        (omega (arith, costs, looks))
        (path_by (Passing (inserted_setting setting)) (PassingBy Test (inserted_setting setting)) (inserted_at room setting) 0
        (credit_of (owning (case x decisions arms))) []
        (StandsAs (performed (goes (at_code body environment joins from)) input))
        (with_input (conf (dropping (owning (case x decisions arms)) (owning body) (inserted_code body)) environment
        (image_joins setting.positions setting.code.functions lent joins) frames heap) input)
        (passing_by Test (inserted_setting setting))
        (dropped_first (owning (case x decisions arms)) body (credit_of (owning (case x decisions arms))) (omega arith)
        (record { bound = ok.bound; fine = good.0; lends_on = good.1.0; part = ok.part; apart = ok.apart; small = good.1.1.0 })
        (own_apart setting.positions lent (left_by left) (case x decisions arms) ok.apart) good.1.1.1 sound)))
      where
        good : GoodArm ok.bound (owning (case x decisions arms)) body
        good =
            subst (OnFound (GoodArm ok.bound (owning (case x decisions arms)))) body_is
            (good_arm arms ok.bound (owning (case x decisions arms)) row ok.fine.1 ok.lends_on (omega (arith, ok.small))
            (owns_after setting.positions lent (x ∷ []) (own_arms setting.positions lent (left_by left) arms)))

        row_there : chosen (slice_get (forwards heap)) (value_of environment x) decisions ≡ Some row
        row_there = ap (λ (s : Store). chosen (slice_get s) (value_of environment x) decisions) (sym store) ∙ row_is

        arm_there : counted_arm_at (insert_arms setting.positions lent (left_by left) (owning (case x decisions arms)) arms) row
            ≡ Some (dropping (owning (case x decisions arms)) (owning body) (inserted_code body))
        arm_there = arm_is arms (owning (case x decisions arms)) row ∙ ap (inserted_if (owning (case x decisions arms))) body_is

        x_counted : IsCounted heap (value_of environment x)
        x_counted =
            either_counted environment (owning (case x decisions arms)) lent below heap x sound reached_now
            (looked_at setting.positions lent x (own_arms setting.positions lent (left_by left) arms))

        -- the cells are counted that the tests look at
        looks : looks_taken (cell_at heap) (value_of environment x) decisions
            ≡ looks_taken (slice_get from.store) (value_of environment x) decisions
        looks =
            looks_same (refs (values_of environment (owning (case x decisions arms)) ++ below)) heap sound.counts
            (value_of environment x) x_counted decisions
            ∙ ap (λ (s : Store). looks_taken (slice_get s) (value_of environment x) decisions) (sym store)

        found : and_then (chosen (cell_at heap) (value_of environment x) decisions)
            (counted_arm_at (insert_arms setting.positions lent (left_by left) (owning (case x decisions arms)) arms)) ≡ Some
            (dropping (owning (case x decisions arms)) (owning body) (inserted_code body))
        found =
            ap (λ (o : Option ℕ). and_then o
            (counted_arm_at (insert_arms setting.positions lent (left_by left) (owning (case x decisions arms)) arms)))
            (chosen_same (refs (values_of environment (owning (case x decisions arms)) ++ below)) heap sound.counts
            (value_of environment x) x_counted decisions
            ∙ row_there)
            ∙ arm_there

    -- ---- openings

    module _ (x c : ℕ) (fields : List ℕ) (rest : Code) (ok : Ok (unpack x c fields rest))
        (sound : SoundNow (unpack x c fields rest)) (at : ℕ) (vs : List Value)
        (named : value_of environment x ≡ place at) (cell_is : slice_get from.store at ≡ Some (record { made_by = c; fields = vs }))
        (many : length vs ≡ length fields) (most : ℕ)
        (costs : room + step_cost + part_cost * length fields + credit_of (owning (unpack x c fields rest)) ≤ most) where
      rest_ok : Ok rest
      rest_ok =
          record {
            bound = fields ++ ok.bound;
            fine = ok.fine.1.1.1.1;
            lends_on = ok.lends_on;
            part =
                λ y is. in_back fields ok.bound y (ok.part y is);
            apart = ok.apart;
            small = omega (arith, ok.small);
          }

      now_apart : AreApart (owning rest)
      now_apart = own_apart setting.positions lent (left_by left) rest ok.apart

      not_field : is_among fields x ≡ false
      not_field = clear_back fields ok.bound ok.fine.1.1.0 x ok.fine.0

      others_fresh : AreFresh fields (without fields (owning rest))
      others_fresh = clear_fresh fields (without fields (owning rest))
          (clear_back (without fields (owning rest)) fields (without_clear fields (owning rest)))

      x_counted : IsCounted heap (value_of environment x)
      x_counted =
          either_counted environment (owning (unpack x c fields rest)) lent below heap x sound reached_now
          (looked_at setting.positions lent x (without fields (owning rest)))

      at_counted_now : 1 ≤ count_at heap at
      at_counted_now = subst (IsCounted heap) named x_counted

      in_store : slice_get (forwards heap) at ≡ Some (record { made_by = c; fields = vs })
      in_store = ap (λ (s : Store). slice_get s at) (sym store) ∙ cell_is

      is_cell : IsCell (forwards heap) c (length fields) (value_of environment x)
      is_cell = (at, (record { made_by = c; fields = vs }, (named, (in_store, (refl, many)))))

      held_fields : fields_held heap at ≡ vs
      held_fields = sym (store_fields heap at) ∙ ap fields_in in_store

      core_opens : fields_opened from.store c (value_of environment x) ≡ Some vs
      core_opens = ap (fields_opened from.store c) named
          ∙ (ap (fields_made_by c) cell_is ∙ ap (λ t. if t then Some vs else None) (itself c))

      opens : cell_named c (length fields) heap (value_of environment x) ≡ Some (record { at = at; fields = vs })
      opens =
          ap (cell_named c (length fields) heap) named
          ∙ (ap (λ (o : Option Cell). and_then o
          (λ cell. and_then (if_made_by c (length fields) cell) (λ these. Some (record { at = at; fields = these }))))
          (cell_same heap at at_counted_now ∙ in_store)
          ∙ ap (λ t. and_then (if t then Some vs else None) (λ these. Some (record { at = at; fields = these })))
          (ap (λ t. t && (length vs == length fields)) (itself c)
          ∙ (ap (λ n. n == length fields) many ∙ itself (length fields))))

      reached_fields : FineFields lent x fields → AreReached from.store below (bind_fields fields vs environment) lent
      reached_fields (inl lent_x) y goal is e =
          field_or_old (λ v. v ≡ place goal → Reached from.store below goal) fields vs environment y
          (λ old. reached y goal is old)
          (λ v one f. reached_field from.store below at goal (reached x at lent_x.0 named)
          (subst (λ ws. Among ws goal) (sym (ap fields_in cell_is))
          (one_among vs goal (omega (arith, one goal, ap (λ w. refs_of w goal) f, ref_here goal))))) e
      reached_fields (inr owned_x) y goal is e =
          reached y goal is (sym (field_past fields vs environment y (clear_back fields lent owned_x.1 y is)) ∙ e)

      field_counted : (v : Value) → ((q : ℕ) → refs_of v q ≤ refs vs q) → IsCounted heap v
      field_counted v one =
          let k = positive (count_at heap at) at_counted_now in
          value_counted v heap
          (λ q is. fields_counted (refs (values_of environment (owning (unpack x c fields rest)) ++ below)) heap at k.0 q
          sound.counts k.1 (omega (arith, one q, is, ap (λ ws. refs ws q) held_fields)))

      abbrev step_done : List Note × CoreState
      step_done = performed (goes (at_code rest (bind_fields fields vs environment) joins from)) input

      arrives_rest : (after : Heap) → cells_of after ≡ cells_of heap
          → IsSound (values_of (bind_fields fields vs environment) (owning rest) ++ below) after
          → Path (inserted_at room setting) 0 (credit_of (owning rest)) [] (StandsAs step_done)
          (with_input (conf (inserted_code rest) (bind_fields fields vs environment)
          (image_joins setting.positions setting.code.functions lent joins) frames after) input)
      arrives_rest after cells sound_then =
          path_here (inserted_at room setting) (credit_of (owning rest)) (StandsAs step_done)
          (with_input (conf (inserted_code rest) (bind_fields fields vs environment)
          (image_joins setting.positions setting.code.functions lent joins) frames after) input)
          (arrives rest (bind_fields fields vs environment) joins after cells rest_ok joins_ok
          (reached_fields ok.fine.1.1.1.0) sound_then (credit_of (owning rest)) (omega arith))

      -- what is owned then, by the fields in use and the others
      fields_length : length (common (owning rest) fields) + length (without fields (owning rest)) ≡ length (owning rest)
      fields_length =
          sym (even_length (owning rest) (common (owning rest) fields) (without fields (owning rest))
          (λ weight. sym (fields_even (owning rest) fields now_apart ok.fine.1.0 weight)))

      -- what is paid for pays for the rest too, where the opening gives up no more than the cell
      fields_paid : (given : List ℕ) → owning (unpack x c fields rest) ≡ given ++ without fields (owning rest)
          → room + step_cost + part_cost * length fields + drop_cost * length given + credit_of (owning rest)
          ≤ most + drop_cost * length (common (owning rest) fields)
      fields_paid given owned =
          omega (arith, costs, ap length owned, length-append given (without fields (owning rest)), fields_length)

      follows_read : owning (unpack x c fields rest) ≡ without fields (owning rest)
          → Does 1 most (goes (at_code rest (bind_fields fields vs environment) joins from))
          (Counted.read x c fields (dups (common (owning rest) fields) (inserted_code rest)))
      follows_read owned =
          path_step (inserted_at room setting) 0 most
          (dup_cost * length (common (owning rest) fields) + credit_of (owning rest)) [] [] (StandsAs step_done)
          (with_input (conf (Counted.read x c fields (dups (common (owning rest) fields) (inserted_code rest))) environment
          (image_joins setting.positions setting.code.functions lent joins) frames heap) input)
          (with_input (conf (dups (common (owning rest) fields) (inserted_code rest)) (bind_fields fields vs environment)
          (image_joins setting.positions setting.code.functions lent joins) frames heap) input)
          (ap (λ (o : Option Named). performed
          (open_step o (λ one. Some heap) fields (dups (common (owning rest) fields) (inserted_code rest)) environment
          (image_joins setting.positions setting.code.functions lent joins)
          (conf (Counted.read x c fields (dups (common (owning rest) fields) (inserted_code rest))) environment
          (image_joins setting.positions setting.code.functions lent joins) frames heap)) input) opens)
          (tt, (tt, (tt, (is_cell, tt))))
          (omega (arith, fields_paid [] owned, filter_length (is_among (owning rest)) fields))
          (dups_path (inserted_at room setting) (StandsAs step_done) (bind_fields fields vs environment)
          (image_joins setting.positions setting.code.functions lent joins) frames below input 0 []
          (common (owning rest) fields) (without fields (owning rest)) (inserted_code rest) heap
          (dup_cost * length (common (owning rest) fields) + credit_of (owning rest)) (credit_of (owning rest)) (omega arith)
          (subst (λ us. IsSound (us ++ below) heap)
          (ap (values_of environment) owned
          ∙ sym (fields_fresh fields vs environment (without fields (owning rest)) others_fresh)) sound)
          (λ y is. field_is_one (IsCounted heap) fields vs environment y many (filter_in (is_among (owning rest)) fields y is)
          (λ v one. field_counted v one))
          (λ after cells sound_then. arrives_rest after cells
          (sound_even (bind_fields fields vs environment) (common (owning rest) fields ++ without fields (owning rest))
          (owning rest) below after (fields_even (owning rest) fields now_apart ok.fine.1.0) sound_then)))

      abbrev kept_refs : ℕ → ℕ
      kept_refs q = refs (values_of environment (without fields (owning rest)) ++ below) q

      follows_open : owning (unpack x c fields rest) ≡ x ∷ without fields (owning rest)
          → Does 1 most (goes (at_code rest (bind_fields fields vs environment) joins from))
          (Counted.open_cell x c fields (common (owning rest) fields) (inserted_code rest))
      follows_open owned =
          path_step (inserted_at room setting) 0 most (credit_of (owning rest)) [] [] (StandsAs step_done)
          (with_input (conf (Counted.open_cell x c fields (common (owning rest) fields) (inserted_code rest)) environment
          (image_joins setting.positions setting.code.functions lent joins) frames heap) input)
          (with_input (conf (inserted_code rest) (bind_fields fields vs environment)
          (image_joins setting.positions setting.code.functions lent joins) frames became.heap) input)
          (ap (λ (o : Option Named). performed
          (open_step o (λ one. opened_heap one.at (used_values (common (owning rest) fields) fields one.fields) heap) fields
          (inserted_code rest) environment (image_joins setting.positions setting.code.functions lent joins)
          (conf (Counted.open_cell x c fields (common (owning rest) fields) (inserted_code rest)) environment
          (image_joins setting.positions setting.code.functions lent joins) frames heap)) input) opens
          ∙ ap (λ (o : Option Heap). performed
          (goes (with_heap o (conf (Counted.open_cell x c fields (common (owning rest) fields) (inserted_code rest)) environment
          (image_joins setting.positions setting.code.functions lent joins) frames heap)
          (conf (inserted_code rest) (bind_fields fields vs environment)
          (image_joins setting.positions setting.code.functions lent joins) frames heap))) input) became.is)
          (tt, (tt, (tt, (is_cell, tt))))
          (omega (
            arith,
            fields_paid (x ∷ []) owned,
            ap length in_use,
            filter_length (is_among (common (owning rest) fields)) fields,
          ))
          (arrives_rest became.heap became.cells
          (sound_even (bind_fields fields vs environment)
          (filter (is_among (common (owning rest) fields)) fields ++ without fields (owning rest))
          (owning rest) below became.heap
          (λ weight. ap (λ ys. total weight (ys ++ without fields (owning rest))) in_use
          ∙ fields_even (owning rest) fields now_apart ok.fine.1.0 weight)
          sound_then))
        where
          in_use : filter (is_among (common (owning rest) fields)) fields ≡ common (owning rest) fields
          in_use =
              filter_alike (is_among (common (owning rest) fields)) (is_among (owning rest)) fields
              (λ y is. among_filter (is_among (owning rest)) fields y ∙ ap (λ b. b && is_among (owning rest) y) is)

          became : Became heap (opened_heap at (used_values (common (owning rest) fields) fields vs) heap)
              (with_fields (used_values (common (owning rest) fields) fields vs) kept_refs)
          became =
              opened at (used_values (common (owning rest) fields) fields vs)
              (other_values (common (owning rest) fields) fields vs) kept_refs heap
              (λ q. omega (
                arith,
                sound.counts q,
                ap (λ ys. refs (values_of environment ys ++ below) q) owned,
                ap (λ v. refs_of v q) named,
              ))
              (λ q. ap (λ ws. refs ws q) held_fields ∙ refs_part (common (owning rest) fields) fields vs q many)

          sound_then : IsSound (values_of (bind_fields fields vs environment)
              (filter (is_among (common (owning rest) fields)) fields ++ without fields (owning rest)) ++ below) became.heap
          sound_then =
              became_sound (values_of environment (owning (unpack x c fields rest)) ++ below)
              (values_of (bind_fields fields vs environment)
              (filter (is_among (common (owning rest) fields)) fields ++ without fields (owning rest)) ++ below) heap
              (opened_heap at (used_values (common (owning rest) fields) fields vs) heap)
              (with_fields (used_values (common (owning rest) fields) fields vs) kept_refs) became
              (λ q. omega (
                arith,
                refs_append (values_of (bind_fields fields vs environment)
                    (filter (is_among (common (owning rest) fields)) fields ++ without fields (owning rest))) below q,
                refs_of_both (bind_fields fields vs environment) (filter (is_among (common (owning rest) fields)) fields)
                    (without fields (owning rest)) q,
                ap (λ ws. refs ws q) (used_refs (common (owning rest) fields) fields vs environment ok.fine.1.0 many),
                ap (λ ws. refs ws q) (fields_fresh fields vs environment (without fields (owning rest)) others_fresh),
                refs_append (values_of environment (without fields (owning rest))) below q,
              ))
              sound

      pub follows_unpack : Does 1 most (unpack_step
          (fields_opened from.store c (value_of environment x)) fields rest environment joins from)
          (inserted_code (unpack x c fields rest))
      follows_unpack =
          subst (λ (o : Option (List Value)). Does 1 most (unpack_step o fields rest environment joins from)
          (inserted_code (unpack x c fields rest))) (sym core_opens)
          (by_tests (is_among lent x) refl (is_among (owning rest) x) refl)
        where
          stays : (is_among lent x ≡ true) ⊎ (is_among (owning rest) x ≡ true)
              → owning (unpack x c fields rest) ≡ without fields (owning rest)
          stays either =
              owns_kept setting.positions lent (x ∷ []) (without fields (owning rest))
              (λ y is. subst (λ z. (is_among lent z ≡ true) ⊎ (is_among (without fields (owning rest)) z ≡ true)) (one_only x y is)
              (elim either as (λ _. (is_among lent x ≡ true) ⊎ (is_among (without fields (owning rest)) x ≡ true))
              [ inl one ↦ inl one | inr two ↦ inr (in_without fields (owning rest) x two not_field) ]))

          by_tests : (t : Bool) → is_among lent x ≡ t → (u : Bool) → is_among (owning rest) x ≡ u
              → Does 1 most (goes (at_code rest (bind_fields fields vs environment) joins from))
              (opening (t || u) x c fields (common (owning rest) fields) (inserted_code rest))
          by_tests true one u two = follows_read (stays (inl one))
          by_tests false one true two = follows_read (stays (inr two))
          by_tests false one false two =
              follows_open (owns_new setting.positions lent x (without fields (owning rest)) one
              (false_if (is_among (without fields (owning rest)) x)
              (λ is. no_both ⊥ (is_among (owning rest) x) (filter_in (λ z. not (is_among fields z)) (owning rest) x is) two)))
