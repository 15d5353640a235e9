-- Arms that are ended, branches that are joined and functions that are finished leave a sound draft, or a function that is
-- spent.
use Rattle.std.proofs.Common.{◌≡◌, ℕ, ◌+◌, ◌<◌, ◌||◌, Bool, true, false, List, [], ◌∷◌, ◌++◌, Option, Some, None, arith, refl, sym, ap, ◌∙◌, subst}
use Rattle.kk_syntax.specs.declared.program.Form.TheVariants.{Call}
use Rattle.kk_syntax.specs.Shapes.{is_among}
use Rattle.kk_syntax.specs.PositionsOf.{PositionTable, is_lent}
use Rattle.kk_counted.specs.CountedCodes.{Counted, CountedFunction, give, tail_call, case}
use Rattle.kk_counted.specs.CountedForms.{Move, runs, plug, arms_of}
use Rattle.kk_counted.specs.Spending.{total, AreEven, AllAmong, HasAsMany, used_by, lent_by}
use Rattle.kk_emitter.specs.Drafts.{Split, Draft, outside, all_owed, end_code, is_tail, ended_in, resumed_as, finished}
use Rattle.kk_counted.specs.Programs.{HaveParameters, IsJudged}
use Rattle.kk_counted.specs.VariableLists.{AreLow}
use Rattle.kk_emitter.specs.Emitting.{Spent, AllSpent, Leads, first, IsFine, AreFine, parameter_count, owned_parameters, first_of, IsSoundBy}
use Rattle.kk_counted.proofs.Evenness.{total_append, even_back, even_last, low_even, low_behind, low_next, low_fresh}
use Rattle.kk_emitter.proofs.OwnershipSteps.{all_spent_in_tail, all_spent_more, spent_case, leads_to, leads_then, leads_run}
use Rattle.kk_emitter.proofs.DraftSoundness.{fine_up, in_take}

-- ---- an arm is ended

-- what an arm is to be: it leaves what is owned outside, or nothing where nothing is owned outside
pub record IsArm (positions : PositionTable) (lent each around : List ℕ) (tails : Bool) (code : Counted) : Type 0 where
  pub leaves : tails ≡ false → Spent positions lent (Some around) (each ++ around) code
  pub ends : tails ≡ true → (around ≡ []) × Spent positions lent None (each ++ around) code

older_arms : (positions : PositionTable) (lent each around : List ℕ) (codes : List Counted) → around ≡ [] → AllSpent positions lent (Some around) (each ++ around) codes → AllSpent positions lent None (each ++ around) codes
older_arms positions lent each around codes none all =
    all_spent_in_tail positions lent (each ++ around) codes (subst (λ (left : List ℕ). AllSpent positions lent (Some left) (each ++ around) codes) none all)

arm_added : (positions : PositionTable) (lent : List ℕ) (n : ℕ) (began around : List ℕ) (split : Split) (code : Counted) (tails : Bool) → IsFine positions lent n began around split → IsArm positions lent split.each around (split.tails || tails) code
    → IsFine positions lent n began around (record split { arms = split.arms ++ code ∷ []; tails = split.tails || tails })
arm_added positions lent n began around split code tails fine added =
    record {
      before = fine.before;
      on = fine.on;
      arms = λ is. by_none split.tails refl is;
      tails = λ is. ((added.ends is).0, all_spent_more positions lent None (split.each ++ around) split.arms code (by_some split.tails refl is) (added.ends is).1);
      left = fine.left;
      low = fine.low;
    }
  where
    by_none : (t : Bool) → split.tails ≡ t → (split.tails || tails) ≡ false → AllSpent positions lent (Some around) (split.each ++ around) (split.arms ++ code ∷ [])
    by_none false was is = all_spent_more positions lent (Some around) (split.each ++ around) split.arms code (fine.arms was) (added.leaves is)
    by_none true was is = absurd (clash was is)
      where
        clash : split.tails ≡ true → (split.tails || tails) ≡ false → ⊥
        clash one two = cc (sym (ap (λ t. t || tails) one))

    by_some : (t : Bool) → split.tails ≡ t → (split.tails || tails) ≡ true → AllSpent positions lent None (split.each ++ around) split.arms
    by_some false was is = older_arms positions lent split.each around split.arms (added.ends is).0 (fine.arms was)
    by_some true was is = (fine.tails was).1

pub sound_ended : (lent : List ℕ) (d : Draft) (split : Split) (splits : List Split) (code : Counted) (tails : Bool) → IsSoundBy lent d → d.splits ≡ split ∷ splits
    → IsArm d.positions lent split.each (outside d.uncalled (split ∷ splits)) (split.tails || tails) (plug d.steps code)
    → IsSoundBy lent (ended_in d code tails (split ∷ splits))
sound_ended lent d split splits code tails sound is added =
    let around : List ℕ = outside d.uncalled (split ∷ splits) in
    let fine : AreFine d.positions lent d.next (owned_parameters d) d.uncalled (split ∷ splits) = subst (λ (all : List Split). AreFine d.positions lent d.next (owned_parameters d) d.uncalled all) is sound.splits in
    let low : AreLow d.next (d.owed ++ around) = subst (λ (all : List Split). AreLow d.next (d.owed ++ outside d.uncalled all)) is sound.low in
    record {
      splits = (arm_added d.positions lent d.next (first (owned_parameters d) d.uncalled splits) around split (plug d.steps code) tails fine.0 added, fine.1);
      steps = λ inside none. absurd (false_is_true inside);
      closed = λ other known. absurd (none_is_some other known);
      low = low_behind d.next d.owed around low;
      lends = sound.lends;
      parameters = sound.parameters;
      quiet = λ isnt. (refl, (refl, refl));
    }
  where
    false_is_true : false ≡ true → ⊥
    false_is_true same = cc

    none_is_some : (other : Counted) → None ≡ Some other → ⊥
    none_is_some other same = cc

-- what steps lead to in the newest arm
arm_leads : (lent : List ℕ) (d : Draft) (split : Split) (splits : List Split) → IsSoundBy lent d → d.inside ≡ true → d.ending ≡ None → d.splits ≡ split ∷ splits
    → Leads d.positions lent (split.each ++ outside d.uncalled (split ∷ splits)) (d.owed ++ outside d.uncalled (split ∷ splits)) d.steps
arm_leads lent d split splits sound inside ending is =
    subst (λ (all : List Split). Leads d.positions lent (first (owned_parameters d) d.uncalled all) (d.owed ++ outside d.uncalled all) d.steps) is (sound.steps inside ending)

-- a value is given, and all else is owned outside
arm_gives : (positions : PositionTable) (lent each around owed : List ℕ) (moves : List Move) (tails : Bool) (x : ℕ) → Leads positions lent (each ++ around) (owed ++ around) moves → owed ≡ x ∷ [] → (tails ≡ true → around ≡ [])
    → IsArm positions lent each around tails (plug moves (give x))
arm_gives positions lent each around owed moves tails x leads only none =
    record {
      leaves = λ is. leads (Some around) (give x) (λ functions have w. ap (λ xs. total w (xs ++ around)) only);
      ends = λ is. (none is, leads None (give x) (λ functions have w. ap (λ xs. total w (xs ++ around)) only ∙ ap (λ xs. w x + total w xs) (none is)));
    }

fine_of : (lent : List ℕ) (d : Draft) (split : Split) (splits : List Split) → IsSoundBy lent d → d.splits ≡ split ∷ splits → AreFine d.positions lent d.next (owned_parameters d) d.uncalled (split ∷ splits)
fine_of lent d split splits sound is = subst (λ (all : List Split). AreFine d.positions lent d.next (owned_parameters d) d.uncalled all) is sound.splits

or_false : (t : Bool) → (t || false) ≡ true → t ≡ true
or_false true is = refl
or_false false is = is

or_true : (t : Bool) → (t || true) ≡ true
or_true true = refl
or_true false = refl

value_ends : (lent : List ℕ) (d : Draft) (split : Split) (splits : List Split) (x : ℕ) → IsSoundBy lent d → d.inside ≡ true → d.ending ≡ None → d.splits ≡ split ∷ splits → d.owed ≡ x ∷ []
    → IsSoundBy lent (ended_in d (give x) false (split ∷ splits))
value_ends lent d split splits x sound inside ending is only =
    let around : List ℕ = outside d.uncalled (split ∷ splits) in
    let fine : AreFine d.positions lent d.next (owned_parameters d) d.uncalled (split ∷ splits) = fine_of lent d split splits sound is in
    sound_ended lent d split splits (give x) false sound is
    (arm_gives d.positions lent split.each around d.owed d.steps (split.tails || false) x (arm_leads lent d split splits sound inside ending is) only
    (λ known. (fine.0.tails (or_false split.tails known)).0))

closed_ends : (lent : List ℕ) (d : Draft) (split : Split) (splits : List Split) (code : Counted) → IsSoundBy lent d → d.ending ≡ Some code → d.splits ≡ split ∷ splits
    → IsSoundBy lent (ended_in d code true (split ∷ splits))
closed_ends lent d split splits code sound ending is =
    let around : List ℕ = outside d.uncalled (split ∷ splits) in
    let closed : Spent d.positions lent None (split.each ++ around) (plug d.steps code) × (around ≡ []) =
    subst (λ (all : List Split). Spent d.positions lent None (first (owned_parameters d) d.uncalled all) (plug d.steps code) × (outside d.uncalled all ≡ [])) is (sound.closed code ending) in
    sound_ended lent d split splits code true sound is
    (record { leaves = λ isnt. absurd (clash isnt); ends = λ known. (closed.1, closed.0) })
  where
    clash : (split.tails || true) ≡ false → ⊥
    clash isnt = cc (or_true split.tails)

-- an arm is ended by a value: its own, or that of a branch with tail calls, which ends it
pub sound_by_value : (lent : List ℕ) (d : Draft) (split : Split) (splits : List Split) (x : ℕ) → IsSoundBy lent d → d.inside ≡ true → d.splits ≡ split ∷ splits → d.owed ≡ x ∷ []
    → IsSoundBy lent (ended_in d (end_code d.ending x) (is_tail d.ending) (split ∷ splits))
sound_by_value lent d split splits x sound inside is only = by_ending d.ending refl
  where
    by_ending : (e : Option Counted) → d.ending ≡ e → IsSoundBy lent (ended_in d (end_code e x) (is_tail e) (split ∷ splits))
    by_ending None was = value_ends lent d split splits x sound inside was is only
    by_ending (Some code) was = closed_ends lent d split splits code sound was is

-- steps lead to what a tail call uses up
pub call_spent : (positions : PositionTable) (lent began owed : List ℕ) (moves : List Move) (f : ℕ) (arguments used : List ℕ) → Leads positions lent began owed moves → AreEven owed used
    → ((functions : List CountedFunction) → used_by positions functions (Call f) arguments ≡ used)
    → ((functions : List CountedFunction) → AllAmong (lent_by positions functions (Call f) arguments) lent)
    → ((functions : List CountedFunction) → HaveParameters positions functions → HasAsMany positions functions f arguments)
    → Spent positions lent None began (plug moves (tail_call f arguments))
call_spent positions lent began owed moves f arguments used leads even is_used among fits =
    leads None (tail_call f arguments)
    (λ functions have. (refl, (fits functions have, (among functions, λ w. even w ∙ sym (ap (total w) (is_used functions))))))

-- an arm is ended by a tail call that uses up all that is owned
pub sound_by_call : (lent : List ℕ) (d : Draft) (split : Split) (splits : List Split) (f : ℕ) (arguments used : List ℕ) → IsSoundBy lent d → d.inside ≡ true → d.ending ≡ None → d.splits ≡ split ∷ splits
    → AreEven d.owed used → outside d.uncalled (split ∷ splits) ≡ []
    → ((functions : List CountedFunction) → used_by d.positions functions (Call f) arguments ≡ used)
    → ((functions : List CountedFunction) → AllAmong (lent_by d.positions functions (Call f) arguments) lent)
    → ((functions : List CountedFunction) → HaveParameters d.positions functions → HasAsMany d.positions functions f arguments)
    → IsSoundBy lent (ended_in d (tail_call f arguments) true (split ∷ splits))
sound_by_call lent d split splits f arguments used sound inside ending is even none is_used among fits =
    let around : List ℕ = outside d.uncalled (split ∷ splits) in
    let leads : Leads d.positions lent (split.each ++ around) (d.owed ++ around) d.steps = arm_leads lent d split splits sound inside ending is in
    let all : AreEven (d.owed ++ around) used = λ w. ap (λ xs. total w (d.owed ++ xs)) none ∙ (total_append w d.owed [] ∙ omega (arith, even w)) in
    sound_ended lent d split splits (tail_call f arguments) true sound is
    (record {
      leaves = λ isnt. absurd (clash isnt);
      ends = λ known. (none, call_spent d.positions lent (split.each ++ around) (d.owed ++ around) d.steps f arguments used leads all is_used among fits);
    })
  where
    clash : (split.tails || true) ≡ false → ⊥
    clash isnt = cc (or_true split.tails)

-- ---- a branch is joined

-- the branch spends what was owned before it
branch_spent : (lent : List ℕ) (d : Draft) (split : Split) (left : Option (List ℕ)) (around : List ℕ) → is_among (lent ++ (split.each ++ around)) split.on ≡ true → AllSpent d.positions lent left (split.each ++ around) split.arms
    → Spent d.positions lent left (split.each ++ around) (case split.on split.decisions (arms_of split.arms))
branch_spent lent d split left around on all = spent_case d.positions lent left (split.each ++ around) split.on split.decisions split.arms on all

true_is_false : true ≡ false → ⊥
true_is_false same = cc

-- its value takes the place of what its arms spend
joined_low : (n : ℕ) (each kept out : List ℕ) → AreLow n (each ++ (kept ++ out)) → AreLow (n + 1) ((kept ++ n ∷ []) ++ out)
joined_low n each kept out low =
    low_even (n + 1) ((kept ++ n ∷ []) ++ out) (n ∷ (kept ++ out)) (even_last kept out n) (low_next n (kept ++ out) (low_behind n each (kept ++ out) low))

pub joins_value : (lent : List ℕ) (d : Draft) (split : Split) (splits : List Split) → IsSoundBy lent d → d.inside ≡ false → d.splits ≡ split ∷ splits → split.tails ≡ false → is_among lent d.next ≡ false
    → IsSoundBy lent (resumed_as (record d { next = d.next + 1; splits = splits }) split d.next false)
joins_value lent d split splits sound outer is none other =
    let out : List ℕ = outside d.uncalled splits in
    let around : List ℕ = split.kept ++ out in
    let fine : AreFine d.positions lent d.next (owned_parameters d) d.uncalled (split ∷ splits) = fine_of lent d split splits sound is in
    let quiet : (d.steps ≡ []) × ((d.owed ≡ []) × (d.ending ≡ None)) = sound.quiet outer in
    let low : AreLow d.next around = low_behind d.next split.each around fine.0.low in
    let block : Counted = case split.on split.decisions (arms_of split.arms) in
    let spent : Spent d.positions lent (Some around) (split.each ++ around) block = branch_spent lent d split (Some around) around fine.0.on (fine.0.arms none) in
    let even : AreEven ((split.kept ++ d.next ∷ []) ++ out) (d.next ∷ around) = even_last split.kept out d.next in
    record {
      splits = fine_up d.positions lent d.next (d.next + 1) (owned_parameters d) d.uncalled splits (omega arith) fine.1;
      steps = λ inside ending.
          leads_then d.positions lent (first (owned_parameters d) d.uncalled splits) (split.each ++ around) ((split.kept ++ d.next ∷ []) ++ out) split.before (runs d.next block ∷ []) fine.0.before
          (leads_to d.positions lent (split.each ++ around) (d.next ∷ around) ((split.kept ++ d.next ∷ []) ++ out) (runs d.next block ∷ []) (even_back ((split.kept ++ d.next ∷ []) ++ out) (d.next ∷ around) even)
          (leads_run d.positions lent d.next block (split.each ++ around) around spent (low_fresh d.next d.next around (omega arith) low) other));
      closed = λ code known. absurd (clash code quiet.1.1 known);
      low = joined_low d.next split.each split.kept out fine.0.low;
      lends = in_take split.lent d.lent lent sound.lends;
      parameters = sound.parameters;
      quiet = λ isnt. absurd (true_is_false isnt);
    }
  where
    clash : (code : Counted) → d.ending ≡ None → d.ending ≡ Some code → ⊥
    clash code one two = cc

-- nothing in two parts is nothing in each
none_of_both : (xs ys : List ℕ) → xs ++ ys ≡ [] → ys ≡ []
none_of_both [] ys is = is
none_of_both (x ∷ xs) ys is = absurd (cc)

pub joins_end : (lent : List ℕ) (d : Draft) (split : Split) (splits : List Split) → IsSoundBy lent d → d.inside ≡ false → d.splits ≡ split ∷ splits → split.tails ≡ true
    → IsSoundBy lent (resumed_as (record d { next = d.next + 1; splits = splits }) split d.next true)
joins_end lent d split splits sound outer is some =
    let out : List ℕ = outside d.uncalled splits in
    let around : List ℕ = split.kept ++ out in
    let fine : AreFine d.positions lent d.next (owned_parameters d) d.uncalled (split ∷ splits) = fine_of lent d split splits sound is in
    let block : Counted = case split.on split.decisions (arms_of split.arms) in
    let tails : (around ≡ []) × AllSpent d.positions lent None (split.each ++ around) split.arms = fine.0.tails some in
    let spent : Spent d.positions lent None (split.each ++ around) block = branch_spent lent d split None around fine.0.on tails.1 in
    record {
      splits = fine_up d.positions lent d.next (d.next + 1) (owned_parameters d) d.uncalled splits (omega arith) fine.1;
      steps = λ inside ending. absurd (clash block ending);
      closed = λ code known.
          (subst (λ (c : Counted). Spent d.positions lent None (first (owned_parameters d) d.uncalled splits) (plug split.before c)) (same_code block code known) (fine.0.before None block spent), none_of_both split.kept out tails.0);
      low = joined_low d.next split.each split.kept out fine.0.low;
      lends = in_take split.lent d.lent lent sound.lends;
      parameters = sound.parameters;
      quiet = λ isnt. absurd (true_is_false isnt);
    }
  where
    clash : (block : Counted) → Some block ≡ None → ⊥
    clash block same = cc

    same_code : (block code : Counted) → Some block ≡ Some code → block ≡ code
    same_code block code same = cc

-- ---- a function is finished

-- a body that spends the owned parameters is that of a function that is spent
pub judged : (lent : List ℕ) (d : Draft) (body : Counted) → Spent d.positions lent None (owned_parameters d) body
    → ((i : ℕ) → i < parameter_count d → is_among lent i ≡ is_lent d.positions d.instance i)
    → IsJudged d.positions d.instance (record { parameters = parameter_count d; body = body })
judged lent d body spent own = λ functions have. (lent, (own, spent functions have))

pub finished_spent : (lent : List ℕ) (d : Draft) (x : ℕ) → IsSoundBy lent d → d.inside ≡ true → d.splits ≡ [] → d.uncalled ≡ [] → d.owed ≡ x ∷ [] → Spent d.positions lent None (owned_parameters d) (finished d x)
finished_spent lent d x sound inside none called only = by_ending d.ending refl
  where
    began : (code : Counted) → Spent d.positions lent None (first_of d) code → Spent d.positions lent None (owned_parameters d) code
    began code spent = subst (λ (all : List Split). Spent d.positions lent None (first (owned_parameters d) d.uncalled all) code) none spent

    owed_is : (w : ℕ → ℕ) → total w (all_owed d) ≡ total w (x ∷ [])
    owed_is w = ap (λ all. total w (d.owed ++ outside d.uncalled all)) none ∙ (ap (λ xs. total w (d.owed ++ xs)) called ∙ ap (λ xs. total w (xs ++ [])) only)

    by_ending : (e : Option Counted) → d.ending ≡ e → Spent d.positions lent None (owned_parameters d) (plug d.steps (end_code e x))
    by_ending None was = began (plug d.steps (give x)) (sound.steps inside was None (give x) (λ functions have. owed_is))
    by_ending (Some code) was = began (plug d.steps code) (sound.closed code was).0
