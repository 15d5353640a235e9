-- What calls change of a draft leaves each case an arm for each row.
use Rattle.std.proofs.Common.{◌≡◌, ℕ, zero, suc, Bool, true, false, List, [], ◌∷◌, ◌++◌, length, map, Option, Some}
use Rattle.std.proofs.Common.{None, arith, refl, ap, subst, length-append}
use Rattle.kk_core.specs.Decisions.{NodeTree, AreOrderly}
use Rattle.kk_counted.specs.Arms.{arm_count, HasArms, HaveArms, AllHaveArms, HaveArmsInside}
use Rattle.kk_counted.specs.CountedCodes.{Counted, case}
use Rattle.kk_counted.specs.CountedForms.{Move, computes, runs, reads, opens, opens_unique, dups, drops, plug, arms_of}
use Rattle.kk_emitter.specs.Drafts.{copies, opens_by, Split, Draft, end_code, ended_in, entered_by, forked, resumed_as}
use Rattle.kk_emitter.specs.Emitting.{HaveRows, IsWhole, IsWholeDraft}

-- ---- steps

pub whole_body : (moves : List Move) (rest : Counted) → HaveArmsInside moves → HasArms rest → HasArms (plug moves rest)
whole_body [] rest moves last = last
whole_body (computes x form arguments ∷ moves) rest all last = whole_body moves rest all.1 last
whole_body (runs x block ∷ moves) rest all last = (all.0, whole_body moves rest all.1 last)
whole_body (reads x c fields ∷ moves) rest all last = whole_body moves rest all.1 last
whole_body (opens x c fields used ∷ moves) rest all last = whole_body moves rest all.1 last
whole_body (opens_unique x c fields used ∷ moves) rest all last = whole_body moves rest all.1 last
whole_body (dups x ∷ moves) rest all last = whole_body moves rest all.1 last
whole_body (drops x ∷ moves) rest all last = whole_body moves rest all.1 last

inside_more : (moves more : List Move) → HaveArmsInside moves → HaveArmsInside more → HaveArmsInside (moves ++ more)
inside_more [] more one two = two
inside_more (move ∷ moves) more one two = (one.0, inside_more moves more one.1 two)

pub dups_inside : (xs : List ℕ) → HaveArmsInside (map dups xs)
dups_inside [] = tt
dups_inside (x ∷ xs) = (tt, dups_inside xs)

pub opening_inside : (by_count : Bool) (x c : ℕ) (fields used : List ℕ) → HaveArmsInside (opens_by by_count x c fields used ∷ [])
opening_inside true x c fields used = (tt, tt)
opening_inside false x c fields used = (tt, tt)

pub whole_more : (inside : Bool) (splits : List Split) (steps more : List Move) (ending : Option Counted) → HaveArmsInside more
    → IsWhole inside splits steps ending → IsWhole inside splits (steps ++ more) ending
whole_more inside splits steps more ending new whole =
    record { branches = whole.branches; written = inside_more steps more whole.written new; end = whole.end }

-- ---- branches

all_more : (codes : List Counted) (code : Counted) → AllHaveArms codes → HasArms code → AllHaveArms (codes ++ code ∷ [])
all_more [] code all one = (one, tt)
all_more (first ∷ codes) code all one = (all.0, all_more codes code all.1 one)

count_is : (codes : List Counted) → arm_count (arms_of codes) ≡ length codes
count_is [] = refl
count_is (code ∷ codes) = ap suc (count_is codes)

arms_are : (codes : List Counted) → AllHaveArms codes → HaveArms (arms_of codes)
arms_are [] all = tt
arms_are (code ∷ codes) all = (all.0, arms_are codes all.1)

pub copies_length : (n : ℕ) (xs : List ℕ) → length (copies n xs) ≡ n
copies_length zero xs = refl
copies_length (suc n) xs = ap suc (copies_length n xs)

no_ending : (ending : Option Counted) → ending ≡ None → (code : Counted) → ending ≡ Some code → HasArms code
no_ending ending none code some = absurd (clash none some)
  where
    clash : ending ≡ None → ending ≡ Some code → ⊥
    clash one two = cc

newest_rows : (d : Draft) (split : Split) (splits : List Split) (b : Bool) → d.inside ≡ b → d.splits ≡ split ∷ splits
    → IsWholeDraft d → HaveRows b (split ∷ splits)
newest_rows d split splits b inside is whole =
    subst (λ t. HaveRows t (split ∷ splits)) inside (subst (λ (all : List Split). HaveRows d.inside all) is whole.branches)

pub whole_forked : (d : Draft) (on : ℕ) (decisions : List NodeTree) (each : List ℕ) (rows : ℕ) → d.inside ≡ true
    → d.ending ≡ None → AreOrderly decisions rows → IsWholeDraft d → IsWholeDraft (forked d on decisions each rows)
whole_forked d on decisions each rows inside ending orderly whole =
    record {
      branches = (
        record { decisions = orderly; rows = omega (arith, copies_length rows each); arms = tt; before = whole.written },
        subst (λ b. HaveRows b d.splits) inside whole.branches,
      );
      written = tt;
      end = no_ending d.ending ending;
    }

pub whole_entered : (d : Draft) (split : Split) (splits : List Split) (each : List ℕ) (left : List (List ℕ)) → d.inside ≡ false
    → d.splits ≡ split ∷ splits → split.left ≡ each ∷ left → IsWholeDraft d
    → IsWholeDraft (entered_by d split splits (each ∷ left))
whole_entered d split splits each left outer is left_is whole =
    let rows : HaveRows false (split ∷ splits) = newest_rows d split splits false outer is whole in
    record {
      branches = (
        record {
          decisions = rows.0.decisions;
          rows = omega (arith, rows.0.rows, ap length left_is);
          arms = rows.0.arms;
          before = rows.0.before;
        },
        rows.1,
      );
      written = whole.written;
      end = whole.end;
    }

pub whole_ended : (d : Draft) (split : Split) (splits : List Split) (code : Counted) (tails : Bool) → d.inside ≡ true
    → d.splits ≡ split ∷ splits → HasArms code → IsWholeDraft d → IsWholeDraft (ended_in d code tails (split ∷ splits))
whole_ended d split splits code tails inside is last whole =
    let rows : HaveRows true (split ∷ splits) = newest_rows d split splits true inside is whole in
    let body : Counted = plug d.steps code in
    record {
      branches = (
        record {
          decisions = rows.0.decisions;
          rows = omega (arith, rows.0.rows, length-append split.arms (body ∷ []));
          arms = all_more split.arms body rows.0.arms (whole_body d.steps code whole.written last);
          before = rows.0.before;
        },
        rows.1,
      );
      written = tt;
      end = no_ending None refl;
    }

-- how a block ends that gives a value
pub whole_end : (ending : Option Counted) (x : ℕ) → ((code : Counted) → ending ≡ Some code → HasArms code)
    → HasArms (end_code ending x)
whole_end None x whole = tt
whole_end (Some code) x whole = whole code refl

pub whole_joined : (d : Draft) (split : Split) (splits : List Split) (next x : ℕ) (tails : Bool) → d.inside ≡ false
    → d.splits ≡ split ∷ splits → split.left ≡ [] → d.ending ≡ None → IsWholeDraft d
    → IsWholeDraft (resumed_as (record d { next = next; splits = splits }) split x tails)
whole_joined d split splits next x tails outer is left ending whole = by_tails tails
  where
    rows : HaveRows false (split ∷ splits)
    rows = newest_rows d split splits false outer is whole

    count : split.rows ≡ arm_count (arms_of split.arms)
    count = omega (arith, rows.0.rows, ap length left, count_is split.arms)

    block : HasArms (case split.on split.decisions (arms_of split.arms))
    block = (subst (AreOrderly split.decisions) count rows.0.decisions, arms_are split.arms rows.0.arms)

    only : (code : Counted) → Some (case split.on split.decisions (arms_of split.arms)) ≡ Some code → HasArms code
    only code same = subst HasArms (inner same) block
      where
        inner : Some (case split.on split.decisions (arms_of split.arms)) ≡ Some code
            → case split.on split.decisions (arms_of split.arms) ≡ code
        inner two = cc

    by_tails : (t : Bool) → IsWholeDraft (resumed_as (record d { next = next; splits = splits }) split x t)
    by_tails false =
        record {
          branches = rows.1;
          written = inside_more split.before (runs x (case split.on split.decisions (arms_of split.arms)) ∷ []) rows.0.before
              (block, tt);
          end = no_ending d.ending ending;
        }
    by_tails true = record { branches = rows.1; written = rows.0.before; end = only }
