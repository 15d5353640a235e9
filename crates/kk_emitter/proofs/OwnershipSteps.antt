-- Steps that lead from what is owned to what is owned.
use Rattle.std.proofs.Common.{◌≡◌, ◌⊎◌, inl, inr, ℕ, Bool, true, false, List, [], ◌∷◌, ◌++◌, map, Option, Some, None, arith, refl, sym, ap, ◌∙◌, subst}
use Rattle.std.specs.Prelude.{filter}
use Rattle.kk_syntax.specs.declared.program.Form.{Form}
use Rattle.kk_syntax.specs.Shapes.{is_among}
use Rattle.kk_syntax.specs.PositionsOf.{PositionTable}
use Rattle.kk_core.specs.Decisions.{NodeTree}
use Rattle.kk_counted.specs.CountedCodes.{Counted, give, tail_call, case, compute, inside, read, open_cell, if_unique, dup, drop, CountedArms, no_arm, arm, CountedFunction}
use Rattle.kk_counted.specs.CountedForms.{Move, computes, runs, reads, dups, drops, put, plug, arms_of}
use Rattle.kk_counted.specs.Spending.{total, AreEven, AllAmong, AreFresh, AreApart, used_by, lent_by, FitsForm, Spends, SpendsAll}
use Rattle.kk_emitter.specs.Drafts.{opens_by}
use Rattle.kk_counted.specs.Programs.{HaveParameters}
use Rattle.kk_emitter.specs.Emitting.{Spent, AllSpent, Leads}
use Rattle.kk_counted.proofs.Evenness.{total_append, among_front, among_behind}
use Rattle.kk_counted.proofs.Variables.{among_first, among_cases}

-- ---- code spends what is owned in any order

pub spends_even : (positions : PositionTable) (functions : List CountedFunction) (lent readable : List ℕ) (left : Option (List ℕ)) (xs ys : List ℕ) (code : Counted) → AreEven xs ys → Spends positions functions lent readable left ys code → Spends positions functions lent readable left xs code
spends_even positions functions lent readable left xs ys (give x) even spends = λ w. even w ∙ spends w
spends_even positions functions lent readable left xs ys (tail_call f arguments) even spends = (spends.0, (spends.1.0, (spends.1.1.0, λ w. even w ∙ spends.1.1.1 w)))
spends_even positions functions lent readable left xs ys (case x decisions arms) even spends = (spends.0, (λ w. even w ∙ spends.1.0 w, spends.1.1))
spends_even positions functions lent readable left xs ys (compute x form arguments rest) even spends = (spends.0, (λ w. even w ∙ spends.1.0 w, spends.1.1))
spends_even positions functions lent readable left xs ys (inside x block rest) even spends = (spends.0, (spends.1.0, (λ w. even w ∙ spends.1.1.0 w, spends.1.1.1)))
spends_even positions functions lent readable left xs ys (read x c fields rest) even spends = (spends.0, (λ w. even w ∙ spends.1.0 w, spends.1.1))
spends_even positions functions lent readable left xs ys (open_cell x c fields used rest) even spends = (spends.0, (λ w. even w ∙ spends.1.0 w, spends.1.1))
spends_even positions functions lent readable left xs ys (if_unique x c fields used rest) even spends = (spends.0, (λ w. even w ∙ spends.1.0 w, spends.1.1))
spends_even positions functions lent readable left xs ys (dup x rest) even spends = (spends.0, (λ w. even w ∙ spends.1.0 w, spends.1.1))
spends_even positions functions lent readable left xs ys (drop x rest) even spends = (spends.0, (λ w. even w ∙ spends.1.0 w, spends.1.1))

-- ---- code that leaves nothing may stand in tail position

something : (left : List ℕ) → Some left ≡ None → ⊥
something left is = cc

mutual
  pub in_tail : (positions : PositionTable) (functions : List CountedFunction) (lent readable owned : List ℕ) (code : Counted) → Spends positions functions lent readable (Some []) owned code → Spends positions functions lent readable None owned code
  in_tail positions functions lent readable owned (give x) spends = spends
  in_tail positions functions lent readable owned (tail_call f arguments) spends = absurd (something [] spends.0)
  in_tail positions functions lent readable owned (case x decisions arms) spends =
      (spends.0, (spends.1.0, (spends.1.1.0, in_tail_all positions functions lent spends.0 arms spends.1.1.1)))
  in_tail positions functions lent readable owned (compute x form arguments rest) spends =
      (spends.0, (spends.1.0, (spends.1.1.0, (spends.1.1.1.0, (spends.1.1.1.1.0, (spends.1.1.1.1.1.0, in_tail positions functions lent [] (x ∷ spends.0) rest spends.1.1.1.1.1.1))))))
  in_tail positions functions lent readable owned (inside x block rest) spends =
      (spends.0, (spends.1.0, (spends.1.1.0, (spends.1.1.1.0, (spends.1.1.1.1.0, (spends.1.1.1.1.1.0, in_tail positions functions lent [] (x ∷ spends.1.0) rest spends.1.1.1.1.1.1))))))
  in_tail positions functions lent readable owned (read x c fields rest) spends =
      (spends.0, (spends.1.0, (spends.1.1.0, (spends.1.1.1.0, in_tail positions functions lent fields spends.0 rest spends.1.1.1.1))))
  in_tail positions functions lent readable owned (open_cell x c fields used rest) spends =
      (spends.0, (spends.1.0, (spends.1.1.0, (spends.1.1.1.0, (spends.1.1.1.1.0, in_tail positions functions lent [] (filter (is_among used) fields ++ spends.0) rest spends.1.1.1.1.1)))))
  in_tail positions functions lent readable owned (if_unique x c fields used rest) spends =
      (spends.0, (spends.1.0, (spends.1.1.0, (spends.1.1.1.0, (spends.1.1.1.1.0, in_tail positions functions lent [] (filter (is_among used) fields ++ spends.0) rest spends.1.1.1.1.1)))))
  in_tail positions functions lent readable owned (dup x rest) spends =
      (spends.0, (spends.1.0, (spends.1.1.0, in_tail positions functions lent readable (x ∷ spends.0) rest spends.1.1.1)))
  in_tail positions functions lent readable owned (drop x rest) spends =
      (spends.0, (spends.1.0, in_tail positions functions lent [] spends.0 rest spends.1.1))

  in_tail_all : (positions : PositionTable) (functions : List CountedFunction) (lent owned : List ℕ) (arms : CountedArms) → SpendsAll positions functions lent (Some []) owned arms → SpendsAll positions functions lent None owned arms
  in_tail_all positions functions lent owned no_arm spends = tt
  in_tail_all positions functions lent owned (arm body rest) spends =
      (in_tail positions functions lent [] owned body spends.0, in_tail_all positions functions lent owned rest spends.1)

-- ---- variables that have just been read may be duplicated

pub spends_readable : (positions : PositionTable) (functions : List CountedFunction) (lent readable : List ℕ) (left : Option (List ℕ)) (owned : List ℕ) (code : Counted) → Spends positions functions lent [] left owned code → Spends positions functions lent readable left owned code
spends_readable positions functions lent readable left owned (give x) spends = spends
spends_readable positions functions lent readable left owned (tail_call f arguments) spends = spends
spends_readable positions functions lent readable left owned (case x decisions arms) spends = spends
spends_readable positions functions lent readable left owned (compute x form arguments rest) spends = spends
spends_readable positions functions lent readable left owned (inside x block rest) spends = spends
spends_readable positions functions lent readable left owned (read x c fields rest) spends = spends
spends_readable positions functions lent readable left owned (open_cell x c fields used rest) spends = spends
spends_readable positions functions lent readable left owned (if_unique x c fields used rest) spends = spends
spends_readable positions functions lent readable left owned (dup x rest) spends =
    (spends.0, (spends.1.0, (wider lent spends.0 x spends.1.1.0, spends_readable positions functions lent readable left (x ∷ spends.0) rest spends.1.1.1)))
  where
    wider : (front behind : List ℕ) (y : ℕ) → is_among (front ++ behind) y ≡ true → is_among (front ++ (readable ++ behind)) y ≡ true
    wider front behind y is = by_case (among_cases front behind y is)
      where
        by_case : (is_among front y ≡ true) ⊎ (is_among behind y ≡ true) → is_among (front ++ (readable ++ behind)) y ≡ true
        by_case (inl one) = among_front front (readable ++ behind) y one
        by_case (inr one) = among_behind front (readable ++ behind) y (among_behind readable behind y one)
spends_readable positions functions lent readable left owned (drop x rest) spends = spends

dups_spend : (positions : PositionTable) (functions : List CountedFunction) (lent readable : List ℕ) (left : Option (List ℕ)) (used now to : List ℕ) (rest : Counted) → ((y : ℕ) → is_among used y ≡ true → is_among readable y ≡ true) → AreEven to (used ++ now)
    → Spends positions functions lent [] left to rest → Spends positions functions lent readable left now (plug (map dups used) rest)
dups_spend positions functions lent readable left [] now to rest among even spends =
    spends_readable positions functions lent readable left now rest (spends_even positions functions lent [] left now to rest (λ w. sym (even w)) spends)
dups_spend positions functions lent readable left (x ∷ used) now to rest among even spends = (
  now,
  (
    λ w. refl,
    (
      among_behind lent (readable ++ now) x (among_front readable now x (among x (among_first x used))),
      dups_spend positions functions lent readable left used (x ∷ now) to rest (λ y is. among y (later_among y is)) (λ w. even w ∙ turned w) spends,
    ),
  ),
)
  where
    later_among : (y : ℕ) → is_among used y ≡ true → is_among (x ∷ used) y ≡ true
    later_among y is = among_behind (x ∷ []) used y is

    turned : (w : ℕ → ℕ) → total w ((x ∷ used) ++ now) ≡ total w (used ++ (x ∷ now))
    turned w = omega (arith, total_append w used now, total_append w used (x ∷ now))

-- ---- steps

pub plug_append : (moves more : List Move) (rest : Counted) → plug (moves ++ more) rest ≡ plug moves (plug more rest)
plug_append [] more rest = refl
plug_append (move ∷ moves) more rest = ap (put move) (plug_append moves more rest)

module _ (positions : PositionTable) (lent : List ℕ) where
  pub spent_even : (left : Option (List ℕ)) (xs ys : List ℕ) (code : Counted) → AreEven xs ys → Spent positions lent left ys code → Spent positions lent left xs code
  spent_even left xs ys code even spent = λ functions have. spends_even positions functions lent [] left xs ys code even (spent functions have)

  pub spent_in_tail : (owned : List ℕ) (code : Counted) → Spent positions lent (Some []) owned code → Spent positions lent None owned code
  spent_in_tail owned code spent = λ functions have. in_tail positions functions lent [] owned code (spent functions have)

  pub all_spent_in_tail : (owned : List ℕ) (codes : List Counted) → AllSpent positions lent (Some []) owned codes → AllSpent positions lent None owned codes
  all_spent_in_tail owned [] all = tt
  all_spent_in_tail owned (code ∷ codes) all = (spent_in_tail owned code all.0, all_spent_in_tail owned codes all.1)

  pub all_spent_more : (left : Option (List ℕ)) (owned : List ℕ) (codes : List Counted) (code : Counted) → AllSpent positions lent left owned codes → Spent positions lent left owned code → AllSpent positions lent left owned (codes ++ code ∷ [])
  all_spent_more left owned [] code all one = (one, tt)
  all_spent_more left owned (first ∷ codes) code all one = (all.0, all_spent_more left owned codes code all.1 one)

  spends_arms : (functions : List CountedFunction) → HaveParameters positions functions → (left : Option (List ℕ)) (owned : List ℕ) (codes : List Counted) → AllSpent positions lent left owned codes → SpendsAll positions functions lent left owned (arms_of codes)
  spends_arms functions have left owned [] all = tt
  spends_arms functions have left owned (code ∷ codes) all = (all.0 functions have, spends_arms functions have left owned codes all.1)

  pub spent_case : (left : Option (List ℕ)) (owned : List ℕ) (x : ℕ) (decisions : List NodeTree) (codes : List Counted) → is_among (lent ++ owned) x ≡ true → AllSpent positions lent left owned codes → Spent positions lent left owned (case x decisions (arms_of codes))
  spent_case left owned x decisions codes on all = λ functions have. (owned, (λ w. refl, (on, spends_arms functions have left owned codes all)))

  pub leads_from : (xs ys to : List ℕ) (moves : List Move) → AreEven xs ys → Leads positions lent ys to moves → Leads positions lent xs to moves
  leads_from xs ys to moves even leads = λ left rest spent. spent_even left xs ys (plug moves rest) even (leads left rest spent)

  pub leads_to : (from xs ys : List ℕ) (moves : List Move) → AreEven xs ys → Leads positions lent from xs moves → Leads positions lent from ys moves
  leads_to from xs ys moves even leads = λ left rest spent. leads left rest (spent_even left xs ys rest even spent)

  pub leads_then : (from middle to : List ℕ) (moves more : List Move) → Leads positions lent from middle moves → Leads positions lent middle to more → Leads positions lent from to (moves ++ more)
  leads_then from middle to moves more one two =
      λ left rest spent. subst (λ (code : Counted). Spent positions lent left from code) (sym (plug_append moves more rest)) (one left (plug more rest) (two left rest spent))

  pub leads_dup : (x : ℕ) (owned : List ℕ) → is_among (lent ++ owned) x ≡ true → Leads positions lent owned (x ∷ owned) (dups x ∷ [])
  leads_dup x owned among = λ left rest spent functions have. (owned, (λ w. refl, (among, spent functions have)))

  pub leads_drop : (x : ℕ) (from to : List ℕ) → AreEven from (x ∷ to) → Leads positions lent from to (drops x ∷ [])
  leads_drop x from to even = λ left rest spent functions have. (to, (even, spent functions have))

  pub leads_compute : (x : ℕ) (form : Form) (arguments from kept : List ℕ) → ((functions : List CountedFunction) → AreEven from (used_by positions functions form arguments ++ kept))
      → ((functions : List CountedFunction) → AllAmong (lent_by positions functions form arguments) (lent ++ kept))
      → ((functions : List CountedFunction) → HaveParameters positions functions → FitsForm positions functions form arguments)
      → is_among kept x ≡ false → is_among lent x ≡ false → Leads positions lent from (x ∷ kept) (computes x form arguments ∷ [])
  leads_compute x form arguments from kept even among fits fresh other =
      λ left rest spent functions have. (kept, (even functions, (among functions, (fits functions have, (fresh, (other, spent functions have))))))

  pub leads_open : (by_count : Bool) (x c : ℕ) (fields used from kept : List ℕ) → AreEven from (x ∷ kept) → AreApart fields → AreFresh fields kept → AreFresh fields lent → Leads positions lent from (filter (is_among used) fields ++ kept) (opens_by by_count x c fields used ∷ [])
  leads_open true x c fields used from kept even apart fresh other =
      λ left rest spent functions have. (kept, (even, (apart, (fresh, (other, spent functions have)))))
  leads_open false x c fields used from kept even apart fresh other =
      λ left rest spent functions have. (kept, (even, (apart, (fresh, (other, spent functions have)))))

  pub leads_run : (x : ℕ) (block : Counted) (owned kept : List ℕ) → Spent positions lent (Some kept) owned block → is_among kept x ≡ false → is_among lent x ≡ false → Leads positions lent owned (x ∷ kept) (runs x block ∷ [])
  leads_run x block owned kept inner fresh other =
      λ left rest spent functions have. (owned, (kept, (λ w. refl, (fresh, (other, (inner functions have, spent functions have))))))

  pub leads_read : (x c : ℕ) (fields used owned : List ℕ) → AreFresh fields owned
      → (is_among lent x ≡ true) ⊎ ((is_among owned x ≡ true) × AreFresh fields lent)
      → ((y : ℕ) → is_among used y ≡ true → is_among fields y ≡ true) → Leads positions lent owned (used ++ owned) (reads x c fields ∷ map dups used)
  leads_read x c fields used owned fresh there among =
      λ left rest spent functions have. (owned, (λ w. refl, (fresh, (there, dups_spend positions functions lent fields left used owned (used ++ owned) rest among (λ w. refl) (spent functions have)))))
