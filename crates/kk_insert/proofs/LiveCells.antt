-- What the counted machine owns and is lent is what the core machine still needs: so the counted cells are the live places.
use Rattle.std.specs.Prelude.{if◌then◌else◌}
use Rattle.std.proofs.Common.{◌≡◌, ◌⊎◌, inl, inr, ℕ, suc, ◌==◌, Bool, true, false, not, List, [], ◌∷◌, ◌++◌, arith, refl, sym, ap, ◌∙◌, subst}
use Rattle.kk_syntax.specs.declared.program.Form.{Form}
use Rattle.kk_syntax.specs.declared.program.Form.TheVariants.{Number, Unit as Nothing, ReadByte, PrintText, Unary, Binary, Print, Construct, Call}
use Rattle.kk_syntax.specs.Shapes.{is_among, without}
use Rattle.kk_syntax.specs.PositionsOf.{PositionTable, is_lent}
use Rattle.kk_source.specs.State.{Value, place, Store, Environment}
use Rattle.kk_source.specs.Live.{value_of, fields_at, Among, Leads, Reached, is_live, counted as passing, live}
use Rattle.kk_source.specs.Sound.{AllWithin}
use Rattle.kk_source.proofs.Live.{among_front, among_back, among_split, live_reached, reached_live}
use Rattle.kk_core.specs.Codes.{Code, give, tail_call, case, compute, use_of, unpack, inside, Arms, no_arm, arm, FunctionCode}
use Rattle.kk_core.specs.CoreStates.{Join, CallFrame}
use Rattle.kk_core.specs.CoreMachine.{needed_after, held_for, held_by_frames}
use Rattle.kk_core.specs.Needed.{needed, needed_by_arms}
use Rattle.kk_counted.specs.Heaps.{Heap, forwards, busy}
use Rattle.kk_counted.specs.CountedStates.{CountedFrame}
use Rattle.kk_counted.specs.References.{refs, IsSound}
use Rattle.kk_counted.specs.Spending.{at_positions, left_by}
use Rattle.kk_counted.specs.Keeping.{values_of, AreReached}
use Rattle.kk_counted.proofs.Variables.{among_values, among_others}
use Rattle.kk_counted.proofs.Reachability.{among_one, one_among, store_fields, forwards_length, reached_widen, reached_field, reached_counted}
use Rattle.kk_counted.proofs.Places.{busy_passing, counted_is_reached}
use Rattle.kk_insert.specs.Insertion.{before, used, lends, owns, own, own_arms}
use Rattle.kk_insert.specs.Promise.{LendsOn, AllLendOn}
use Rattle.kk_insert.proofs.Spending.{at_tail}
use Rattle.kk_insert.proofs.Sets.{all_part, or_cases, or_left, Part, among_first, among_next, one_only, in_front, in_back, in_either, filter_in, without_clear, in_without, before_front, before_back, before_either, part_all}
use Rattle.kk_insert.proofs.OwnedVariables.{used_part, lends_part, owns_either, in_owns, owns_after}
use Rattle.kk_insert.proofs.StateRelation.{left_of, RestOk, JoinsOk, FramesStand}

-- ---- variables

part_without : (bs xs ys : List ℕ) → Part xs ys → Part (without bs xs) (without bs ys)
part_without bs xs ys part y is =
    in_without bs ys y (part y (filter_in (λ z. not (is_among bs z)) xs y is)) (without_clear bs xs y is)

-- an argument is used up or lent
at_either : (takes : ℕ → Bool) (next : ℕ) (xs : List ℕ) (y : ℕ) → is_among xs y ≡ true
    → (is_among (at_positions (λ i. not (takes i)) next xs) y ≡ true) ⊎ (is_among (at_positions takes next xs) y ≡ true)
at_either takes next [] y is = absurd (cc)
at_either takes next (x ∷ xs) y is = by_tests (takes next) (or_cases (x == y) (is_among xs y) is) (at_either takes (suc next) xs y)
  where
    Later : Type 0
    Later = is_among xs y ≡ true
        → (is_among (at_positions (λ i. not (takes i)) (suc next) xs) y ≡ true) ⊎
        (is_among (at_positions takes (suc next) xs) y ≡ true)

    by_tests : (t : Bool) → ((x == y) ≡ true) ⊎ (is_among xs y ≡ true) → Later
        → (is_among (if not t then x ∷ at_positions (λ i. not (takes i)) (suc next) xs else at_positions (λ i. not (takes i))
        (suc next) xs) y ≡ true)
        ⊎ (is_among (if t then x ∷ at_positions takes (suc next) xs else at_positions takes (suc next) xs) y ≡ true)
    by_tests true (inl here) later = inr (or_left (x == y) (is_among (at_positions takes (suc next) xs) y) here)
    by_tests false (inl here) later = inl (or_left (x == y) (is_among (at_positions (λ i. not (takes i)) (suc next) xs) y) here)
    by_tests true (inr there) later = elim (later there)
        [ inl one ↦ inl one | inr two ↦ inr (among_next x y (at_positions takes (suc next) xs) two) ]
    by_tests false (inr there) later = elim (later there)
        [ inl one ↦ inl (among_next x y (at_positions (λ i. not (takes i)) (suc next) xs) one) | inr two ↦ inr two ]

used_or_lent : (positions : PositionTable) (form : Form) (xs : List ℕ) (y : ℕ) → is_among xs y ≡ true
    → (is_among (used positions form xs) y ≡ true) ⊎ (is_among (lends positions form xs) y ≡ true)
used_or_lent positions (Number n) xs y is = inl is
used_or_lent positions Nothing xs y is = inl is
used_or_lent positions ReadByte xs y is = inl is
used_or_lent positions (PrintText form text) xs y is = inl is
used_or_lent positions (Unary operator) xs y is = inl is
used_or_lent positions (Binary operator) xs y is = inl is
used_or_lent positions (Print form) xs y is = inl is
used_or_lent positions (Construct c) xs y is = inl is
used_or_lent positions (Call f) xs y is = at_either (is_lent positions f) 0 xs y is

module _ (positions : PositionTable) (lent : List ℕ) where
  -- one variable that is looked at, and others
  owns_one : (x : ℕ) (after others : List ℕ) → Part after others → Part (owns lent (x ∷ []) after) (x ∷ others)
  owns_one x after others part y is =
      elim (owns_either positions lent (x ∷ []) after y is) [
        | inl one ↦ subst (λ z. is_among (x ∷ others) z ≡ true) (one_only x y one)
            (among_first x others)
        | inr two ↦ among_next x y others (part y two)
      ]

  mutual
    pub own_needed : (left later : List ℕ) (code : Code) → Part left later → Part (own positions lent left code) (needed later code)
    own_needed left later (give x) part = owns_one x left later part
    own_needed left later (tail_call f arguments) part =
        λ y is. elim (owns_either positions lent (used positions (Call f) arguments) left y is) [
          | inl one ↦ in_front arguments later y (used_part positions (Call f) arguments y one)
          | inr two ↦ in_back arguments later y (part y two)
        ]
    own_needed left later (case x decisions arms) part = owns_one x (own_arms positions lent left arms) (needed_by_arms later arms)
        (own_needed_arms left later arms part)
    own_needed left later (compute x form arguments rest) part =
        λ y is. elim (owns_either positions lent (used positions form arguments)
        (owns lent (lends positions form arguments) (without (x ∷ []) (own positions lent left rest))) y is) [
          | inl one ↦ in_front arguments (without (x ∷ []) (needed later rest)) y (used_part positions form arguments y one)
          | inr more ↦ elim (owns_either positions lent (lends positions form arguments)
              (without (x ∷ []) (own positions lent left rest)) y more) [
                | inl two ↦ in_front arguments (without (x ∷ []) (needed later rest)) y (lends_part positions form arguments y two)
                | inr three ↦ in_back arguments (without (x ∷ []) (needed later rest)) y
                    (part_without (x ∷ []) (own positions lent left rest) (needed later rest)
                    (own_needed left later rest part) y three)
              ]
        ]
    own_needed left later (use_of x rest) part = owns_one x (own positions lent left rest) (needed later rest)
        (own_needed left later rest part)
    own_needed left later (unpack x c fields rest) part =
        owns_one x (without fields (own positions lent left rest)) (without fields (needed later rest))
        (part_without fields (own positions lent left rest) (needed later rest) (own_needed left later rest part))
    own_needed left later (inside x block rest) part =
        own_needed (without (x ∷ []) (own positions lent left rest)) (without (x ∷ []) (needed later rest)) block
        (part_without (x ∷ []) (own positions lent left rest) (needed later rest) (own_needed left later rest part))

    own_needed_arms : (left later : List ℕ) (arms : Arms) → Part left later
        → Part (own_arms positions lent left arms) (needed_by_arms later arms)
    own_needed_arms left later no_arm part = part
    own_needed_arms left later (arm pattern body rest) part =
        λ y is. elim (before_either (own positions lent left body) (own_arms positions lent left rest) y is) [
          | inl one ↦ in_front (needed later body) (needed_by_arms later rest) y (own_needed left later body part y one)
          | inr two ↦ in_back (needed later body) (needed_by_arms later rest) y (own_needed_arms left later rest part y two)
        ]

  -- each of some variables is lent or among others
  abbrev pub Covered : List ℕ → List ℕ → Type 0
  Covered xs now = Part xs (lent ++ now)

  covered_wider : (xs now more : List ℕ) → Part now more → Covered xs now → Covered xs more
  covered_wider xs now more part covered y is = elim (in_either lent now y (covered y is))
      [ inl one ↦ in_front lent more y one | inr two ↦ in_back lent more y (part y two) ]

  covered_without : (bs xs now : List ℕ) → Covered xs now → Covered (without bs xs) (without bs now)
  covered_without bs xs now covered y is =
      elim (in_either lent now y (covered y (filter_in (λ z. not (is_among bs z)) xs y is))) [
        | inl one ↦ in_front lent (without bs now) y one
        | inr two ↦ in_back lent (without bs now) y (in_without bs now y two (without_clear bs xs y is))
      ]

  covered_both : (xs ys now : List ℕ) → Covered xs now → Covered ys now → Covered (xs ++ ys) now
  covered_both xs ys now one two y is = elim (in_either xs ys y is) [ inl here ↦ one y here | inr there ↦ two y there ]

  -- variables that are used up
  covered_owns : (xs after : List ℕ) → Covered xs (owns lent xs after)
  covered_owns xs after y is = by_test (is_among lent y) refl
    where
      by_test : (t : Bool) → is_among lent y ≡ t → is_among (lent ++ owns lent xs after) y ≡ true
      by_test true one = in_front lent (owns lent xs after) y one
      by_test false other = in_back lent (owns lent xs after) y (in_owns positions lent xs after y is other)

  covered_one : (x : ℕ) (others after : List ℕ) → Covered others after → Covered (x ∷ others) (owns lent (x ∷ []) after)
  covered_one x others after covered y is = by_case (or_cases (x == y) (is_among others y) is)
    where
      by_case : ((x == y) ≡ true) ⊎ (is_among others y ≡ true) → is_among (lent ++ owns lent (x ∷ []) after) y ≡ true
      by_case (inl here) = covered_owns (x ∷ []) after y (or_left (x == y) false here)
      by_case (inr there) = covered_wider others after (owns lent (x ∷ []) after)
          (owns_after positions lent (x ∷ []) after) covered y there

  module _ (source : List FunctionCode) where
    mutual
      pub need_covered : (left later : List ℕ) (tail : Bool) (code : Code) → LendsOn positions source lent tail code
          → Covered later left → Covered (needed later code) (own positions lent left code)
      need_covered left later tail (give x) on covered = covered_one x later left covered
      need_covered left later tail (tail_call f arguments) on covered =
          covered_both arguments later (owns lent (used positions (Call f) arguments) left)
          (λ y is. elim (used_or_lent positions (Call f) arguments y is) [
            | inl one ↦ covered_owns (used positions (Call f) arguments) left y one
            | inr two ↦ in_front lent (owns lent (used positions (Call f) arguments) left) y
                (all_part (lends positions (Call f) arguments) lent on.1.0 y two)
          ])
          (covered_wider later left (owns lent (used positions (Call f) arguments) left)
          (owns_after positions lent (used positions (Call f) arguments) left) covered)
      need_covered left later tail (case x decisions arms) on covered =
          covered_one x (needed_by_arms later arms) (own_arms positions lent left arms)
          (need_covered_arms left later tail arms on covered)
      need_covered left later tail (compute x form arguments rest) on covered =
          covered_both arguments (without (x ∷ []) (needed later rest))
          (owns lent (used positions form arguments)
          (owns lent (lends positions form arguments) (without (x ∷ []) (own positions lent left rest))))
          (λ y is. elim (used_or_lent positions form arguments y is) [
            | inl one ↦ covered_owns (used positions form arguments)
                (owns lent (lends positions form arguments) (without (x ∷ []) (own positions lent left rest))) y one
            | inr two ↦ covered_wider (lends positions form arguments)
                (owns lent (lends positions form arguments) (without (x ∷ []) (own positions lent left rest)))
                (owns lent (used positions form arguments)
                (owns lent (lends positions form arguments) (without (x ∷ []) (own positions lent left rest))))
                (owns_after positions lent (used positions form arguments)
                (owns lent (lends positions form arguments) (without (x ∷ []) (own positions lent left rest))))
                (covered_owns (lends positions form arguments) (without (x ∷ []) (own positions lent left rest))) y two
          ])
          (covered_wider (without (x ∷ []) (needed later rest)) (without (x ∷ []) (own positions lent left rest))
          (owns lent (used positions form arguments)
          (owns lent (lends positions form arguments) (without (x ∷ []) (own positions lent left rest))))
          (λ y is. owns_after positions lent (used positions form arguments)
          (owns lent (lends positions form arguments) (without (x ∷ []) (own positions lent left rest))) y
          (owns_after positions lent (lends positions form arguments) (without (x ∷ []) (own positions lent left rest)) y is))
          (covered_without (x ∷ []) (needed later rest) (own positions lent left rest)
          (need_covered left later tail rest on.1 covered)))
      need_covered left later tail (use_of x rest) on covered = covered_one x (needed later rest) (own positions lent left rest)
          (need_covered left later tail rest on covered)
      need_covered left later tail (unpack x c fields rest) on covered =
          covered_one x (without fields (needed later rest)) (without fields (own positions lent left rest))
          (covered_without fields (needed later rest) (own positions lent left rest) (need_covered left later tail rest on covered))
      need_covered left later tail (inside x block rest) on covered =
          need_covered (without (x ∷ []) (own positions lent left rest)) (without (x ∷ []) (needed later rest)) false block on.0
          (covered_without (x ∷ []) (needed later rest) (own positions lent left rest)
          (need_covered left later tail rest on.1 covered))

      need_covered_arms : (left later : List ℕ) (tail : Bool) (arms : Arms) → AllLendOn positions source lent tail arms
          → Covered later left → Covered (needed_by_arms later arms) (own_arms positions lent left arms)
      need_covered_arms left later tail no_arm on covered = covered
      need_covered_arms left later tail (arm pattern body rest) on covered =
          covered_both (needed later body) (needed_by_arms later rest)
          (before (own positions lent left body) (own_arms positions lent left rest))
          (covered_wider (needed later body) (own positions lent left body)
          (before (own positions lent left body) (own_arms positions lent left rest))
          (λ y is. before_front (own positions lent left body) (own_arms positions lent left rest) y is)
          (need_covered left later tail body on.0 covered))
          (covered_wider (needed_by_arms later rest) (own_arms positions lent left rest)
          (before (own positions lent left body) (own_arms positions lent left rest))
          (λ y is. before_back (own positions lent left body) (own_arms positions lent left rest) y is)
          (need_covered_arms left later tail rest on.1 covered))

    -- ---- the blocks that a code is in

    pub joins_needed : (joins : List Join) → Part (left_by (left_of positions source lent joins)) (needed_after joins)
    joins_needed [] = λ y is. is
    joins_needed (join ∷ joins) =
        part_without (join.variable ∷ []) (own positions lent (left_by (left_of positions source lent joins)) join.rest)
        (needed (needed_after joins) join.rest)
        (own_needed (left_by (left_of positions source lent joins)) (needed_after joins) join.rest (joins_needed joins))

    pub joins_covered : (joins : List Join) → JoinsOk positions source lent joins
        → Covered (needed_after joins) (left_by (left_of positions source lent joins))
    joins_covered [] ok = λ y is. none y is
      where
        none : (y : ℕ) → is_among [] y ≡ true → is_among (lent ++ []) y ≡ true
        none y is = absurd (cc)
    joins_covered (join ∷ joins) ok =
        covered_without (join.variable ∷ []) (needed (needed_after joins) join.rest)
        (own positions lent (left_by (left_of positions source lent joins)) join.rest)
        (need_covered (left_by (left_of positions source lent joins)) (needed_after joins)
        (at_tail (left_of positions source lent joins)) join.rest ok.0.lends_on (joins_covered joins ok.1))

    -- what a code that waits for a variable still needs
    abbrev pub needs : ℕ → Code → List Join → List ℕ
    needs x rest joins = without (x ∷ []) (needed (needed_after joins) rest)

    abbrev pub keeps : ℕ → Code → List Join → List ℕ
    keeps x rest joins = without (x ∷ []) (own positions lent (left_by (left_of positions source lent joins)) rest)

    pub rest_needed : (x : ℕ) (rest : Code) (joins : List Join) → Part (keeps x rest joins) (needs x rest joins)
    rest_needed x rest joins =
        part_without (x ∷ []) (own positions lent (left_by (left_of positions source lent joins)) rest)
        (needed (needed_after joins) rest)
        (own_needed (left_by (left_of positions source lent joins)) (needed_after joins) rest (joins_needed joins))

    pub rest_covered : (x : ℕ) (rest : Code) (joins : List Join)
        → RestOk positions source lent (left_of positions source lent joins) x rest → JoinsOk positions source lent joins
        → Covered (needs x rest joins) (keeps x rest joins)
    rest_covered x rest joins ok joins_ok =
        covered_without (x ∷ []) (needed (needed_after joins) rest)
        (own positions lent (left_by (left_of positions source lent joins)) rest)
        (need_covered (left_by (left_of positions source lent joins)) (needed_after joins)
        (at_tail (left_of positions source lent joins)) rest ok.lends_on (joins_covered joins joins_ok))

-- ---- places

leads_closed : (store : Store) (P : ℕ → Type 0) → ((at goal : ℕ) → P at → Among (fields_at store at) goal → P goal)
    → (vs : List Value) (way : List ℕ) (goal : ℕ) → ((at : ℕ) → Among vs at → P at) → Leads store vs way goal → P goal
leads_closed store P closed vs [] goal first l = first goal l
leads_closed store P closed vs (at ∷ way) goal first l =
    leads_closed store P closed (fields_at store at) way goal (λ next among. closed at next (first at l.0) among) l.1

-- from values that are reached from others nothing more is reached
reach_on : (store : Store) (vs ws : List Value) (goal : ℕ) → ((at : ℕ) → Among vs at → Reached store ws at) → Reached store vs goal
    → Reached store ws goal
reach_on store vs ws goal first r =
    leads_closed store (Reached store ws) (λ at next reached among. reached_field store ws at next reached among) vs r.0 goal first
    r.1

module _ (positions : PositionTable) (source : List FunctionCode) (store : Store) where
  -- what functions that wait own the core's frames hold
  frames_hold : (frames : List CallFrame) (cs : List CountedFrame) (below : List Value)
      → FramesStand positions source store frames cs below → (at : ℕ) → Among below at → Among (held_by_frames frames) at
  frames_hold [] [] below stand at among = subst (λ vs. Among vs at) stand among
  frames_hold [] (c ∷ cs) below stand at among = absurd stand
  frames_hold (frame ∷ older) [] below stand at among = absurd stand
  frames_hold (frame ∷ older) (c ∷ cs) below stand at among =
      by_part (among_split (values_of frame.environment owned) stand.0 at (subst (λ vs. Among vs at) stand.1.0.owned among))
      (frames_hold older cs stand.0 stand.1.1 at)
    where
      owned : List ℕ
      owned = owns stand.1.0.lent stand.1.0.given (keeps positions stand.1.0.lent source frame.variable frame.rest frame.joins)

      from_variable : (y : ℕ) → value_of frame.environment y ≡ place at
          → (is_among stand.1.0.given y ≡ true) ⊎
          (is_among (keeps positions stand.1.0.lent source frame.variable frame.rest frame.joins) y ≡ true)
          → Among (held_for frame.variable frame.rest frame.joins frame.environment ++ frame.lent) at
      from_variable y named (inl one) =
          among_back (held_for frame.variable frame.rest frame.joins frame.environment) frame.lent at
          (one_among frame.lent at (omega (
            arith,
            stand.1.0.lends at,
            among_one (values_of frame.environment stand.1.0.given) at
                (among_values frame.environment stand.1.0.given y at one named),
          )))
      from_variable y named (inr two) =
          among_front (held_for frame.variable frame.rest frame.joins frame.environment) frame.lent at
          (among_values frame.environment (needs positions stand.1.0.lent source frame.variable frame.rest frame.joins) y at
          (rest_needed positions stand.1.0.lent source frame.variable frame.rest frame.joins y two) named)

      by_part : Among (values_of frame.environment owned) at ⊎ Among stand.0 at
          → (Among stand.0 at → Among (held_by_frames older) at)
          → Among ((held_for frame.variable frame.rest frame.joins frame.environment ++ frame.lent) ++ held_by_frames older) at
      by_part (inl here) later =
          let y = among_others frame.environment owned owned at (part_all owned owned (λ z is. is)) here in
          among_front (held_for frame.variable frame.rest frame.joins frame.environment ++ frame.lent) (held_by_frames older) at
          (from_variable y.0 y.1.1 (owns_either positions stand.1.0.lent stand.1.0.given
          (keeps positions stand.1.0.lent source frame.variable frame.rest frame.joins) y.0 y.1.0))
      by_part (inr there) later =
          among_back (held_for frame.variable frame.rest frame.joins frame.environment ++ frame.lent) (held_by_frames older) at
          (later there)

  -- and what they hold is reached from what is owned
  frames_reach : (frames : List CallFrame) (cs : List CountedFrame) (below : List Value)
      → FramesStand positions source store frames cs below → (at : ℕ) → Among (held_by_frames frames) at → Reached store below at
  frames_reach [] [] below stand at among = absurd among
  frames_reach [] (c ∷ cs) below stand at among = absurd stand
  frames_reach (frame ∷ older) [] below stand at among = absurd stand
  frames_reach (frame ∷ older) (c ∷ cs) below stand at among =
      subst (λ vs. Reached store vs at) (sym stand.1.0.owned)
      (by_part (among_split (held_for frame.variable frame.rest frame.joins frame.environment ++ frame.lent)
      (held_by_frames older) at among) (frames_reach older cs stand.0 stand.1.1 at))
    where
      owned : List ℕ
      owned = owns stand.1.0.lent stand.1.0.given (keeps positions stand.1.0.lent source frame.variable frame.rest frame.joins)

      by_variable : (y : ℕ) → value_of frame.environment y ≡ place at
          → (is_among stand.1.0.lent y ≡ true) ⊎ (is_among owned y ≡ true)
          → Reached store (values_of frame.environment owned ++ stand.0) at
      by_variable y named (inl one) =
          reached_widen store stand.0 (values_of frame.environment owned ++ stand.0) at
          (λ goal. among_back (values_of frame.environment owned) stand.0 goal) (stand.1.0.reached y at one named)
      by_variable y named (inr two) =
          ([], among_front (values_of frame.environment owned) stand.0 at (among_values frame.environment owned y at two named))

      by_held : Among (held_for frame.variable frame.rest frame.joins frame.environment) at ⊎ Among frame.lent at
          → Reached store (values_of frame.environment owned ++ stand.0) at
      by_held (inl here) =
          let y = among_others frame.environment (needs positions stand.1.0.lent source frame.variable frame.rest frame.joins)
          (stand.1.0.lent ++ owned) at
          (part_all (needs positions stand.1.0.lent source frame.variable frame.rest frame.joins) (stand.1.0.lent ++ owned)
          (covered_wider positions stand.1.0.lent (needs positions stand.1.0.lent source frame.variable frame.rest frame.joins)
          (keeps positions stand.1.0.lent source frame.variable frame.rest frame.joins) owned
          (owns_after positions stand.1.0.lent stand.1.0.given
          (keeps positions stand.1.0.lent source frame.variable frame.rest frame.joins))
          (rest_covered positions stand.1.0.lent source frame.variable frame.rest frame.joins stand.1.0.rest stand.1.0.joins))) here
          in
          by_variable y.0 y.1.1 (in_either stand.1.0.lent owned y.0 y.1.0)
      by_held (inr there) =
          let y = among_others frame.environment stand.1.0.given (stand.1.0.lent ++ owned) at
          (part_all stand.1.0.given (stand.1.0.lent ++ owned)
          (covered_owns positions stand.1.0.lent stand.1.0.given
          (keeps positions stand.1.0.lent source frame.variable frame.rest frame.joins)))
          (one_among (values_of frame.environment stand.1.0.given) at
          (omega (arith, stand.1.0.lends at, among_one frame.lent at there))) in
          by_variable y.0 y.1.1 (in_either stand.1.0.lent owned y.0 y.1.0)

      by_part : Among (held_for frame.variable frame.rest frame.joins frame.environment ++ frame.lent) at ⊎ Among
          (held_by_frames older) at → (Among (held_by_frames older) at → Reached store stand.0 at)
          → Reached store (values_of frame.environment owned ++ stand.0) at
      by_part (inl here) later = by_held (among_split
          (held_for frame.variable frame.rest frame.joins frame.environment) frame.lent at here)
      by_part (inr there) later =
          reached_widen store stand.0 (values_of frame.environment owned ++ stand.0) at
          (λ goal. among_back (values_of frame.environment owned) stand.0 goal) (later there)

-- At a construction the counted cells are the live places.
module _ (positions : PositionTable) (source : List FunctionCode) (heap : Heap) (lent : List ℕ) (below : List Value)
    (frames : List CallFrame) (cs : List CountedFrame)
    (stand : FramesStand positions source (forwards heap) frames cs below) (environment : Environment) (joins : List Join) (x : ℕ)
    (rest : Code) (arguments : List ℕ)
    (rest_ok : RestOk positions source lent (left_of positions source lent joins) x rest)
    (joins_ok : JoinsOk positions source lent joins)
    (reached : AreReached (forwards heap) below environment lent) where
  abbrev kept : List ℕ
  kept = keeps positions lent source x rest joins

  abbrev owned_values : List Value
  owned_values = values_of environment (arguments ++ keeps positions lent source x rest joins) ++ below

  abbrev held_values : List Value
  held_values = values_of environment arguments ++ (held_for x rest joins environment ++ held_by_frames frames)

  owned_held : (at : ℕ) → Among owned_values at → Among held_values at
  owned_held at among = by_part (among_split
      (values_of environment (arguments ++ keeps positions lent source x rest joins)) below at among)
    where
      by_variable : (y : ℕ) → value_of environment y ≡ place at
          → (is_among arguments y ≡ true) ⊎ (is_among (keeps positions lent source x rest joins) y ≡ true) → Among held_values at
      by_variable y named (inl one) =
          among_front (values_of environment arguments) (held_for x rest joins environment ++ held_by_frames frames) at
          (among_values environment arguments y at one named)
      by_variable y named (inr two) =
          among_back (values_of environment arguments) (held_for x rest joins environment ++ held_by_frames frames) at
          (among_front (held_for x rest joins environment) (held_by_frames frames) at
          (among_values environment (needs positions lent source x rest joins) y at
          (rest_needed positions lent source x rest joins y two) named))

      by_part : Among (values_of environment (arguments ++ keeps positions lent source x rest joins)) at ⊎ Among below at
          → Among held_values at
      by_part (inl here) =
          let y = among_others environment (arguments ++ keeps positions lent source x rest joins)
          (arguments ++ keeps positions lent source x rest joins) at
          (part_all (arguments ++ keeps positions lent source x rest joins)
          (arguments ++ keeps positions lent source x rest joins) (λ z is. is)) here in
          by_variable y.0 y.1.1 (in_either arguments (keeps positions lent source x rest joins) y.0 y.1.0)
      by_part (inr there) =
          among_back (values_of environment arguments) (held_for x rest joins environment ++ held_by_frames frames) at
          (among_back (held_for x rest joins environment) (held_by_frames frames) at
          (frames_hold positions source (forwards heap) frames cs below stand at there))

  held_reached : (at : ℕ) → Among held_values at → Reached (forwards heap) owned_values at
  held_reached at among = by_part (among_split (values_of environment arguments)
      (held_for x rest joins environment ++ held_by_frames frames) at among)
    where
      from_below : Reached (forwards heap) below at → Reached (forwards heap) owned_values at
      from_below r =
          reached_widen (forwards heap) below owned_values at
          (λ goal. among_back (values_of environment (arguments ++ keeps positions lent source x rest joins)) below goal) r

      from_owned : (y : ℕ) → value_of environment y ≡ place at
          → is_among (arguments ++ keeps positions lent source x rest joins) y ≡ true → Reached (forwards heap) owned_values at
      from_owned y named is = (
        [],
        among_front (values_of environment (arguments ++ keeps positions lent source x rest joins)) below at
            (among_values environment (arguments ++ keeps positions lent source x rest joins) y at is named),
      )

      by_variable : (y : ℕ) → value_of environment y ≡ place at
          → (is_among lent y ≡ true) ⊎ (is_among (keeps positions lent source x rest joins) y ≡ true)
          → Reached (forwards heap) owned_values at
      by_variable y named (inl one) = from_below (reached y at one named)
      by_variable y named (inr two) = from_owned y named (in_back arguments (keeps positions lent source x rest joins) y two)

      by_held : Among (held_for x rest joins environment) at ⊎ Among (held_by_frames frames) at
          → Reached (forwards heap) owned_values at
      by_held (inl here) =
          let y = among_others environment (needs positions lent source x rest joins)
          (lent ++ keeps positions lent source x rest joins) at
          (part_all (needs positions lent source x rest joins) (lent ++ keeps positions lent source x rest joins)
          (rest_covered positions lent source x rest joins rest_ok joins_ok)) here in
          by_variable y.0 y.1.1 (in_either lent (keeps positions lent source x rest joins) y.0 y.1.0)
      by_held (inr there) = from_below (frames_reach positions source (forwards heap) frames cs below stand at there)

      by_part : Among (values_of environment arguments) at ⊎ Among (held_for x rest joins environment ++ held_by_frames frames) at
          → Reached (forwards heap) owned_values at
      by_part (inl here) =
          let y = among_others environment arguments arguments at (part_all arguments arguments (λ z is. is)) here in
          from_owned y.0 y.1.1 (in_front arguments (keeps positions lent source x rest joins) y.0 y.1.0)
      by_part (inr there) = by_held (among_split (held_for x rest joins environment) (held_by_frames frames) at there)

  pub busy_is_live : IsSound owned_values heap → busy heap ≡ live (forwards heap) held_values
  busy_is_live sound =
      busy_passing heap (is_live (forwards heap) held_values)
      (λ at less is. reached_counted (refs owned_values) heap sound.counts owned_values at (λ q. omega arith)
      (reach_on (forwards heap) held_values owned_values at (λ p among. held_reached p among)
      (reached_live (forwards heap) older held_values at is)))
      (λ at less one. live_reached (forwards heap) older held_values at
      (reached_widen (forwards heap) owned_values held_values at (λ p among. owned_held p among)
      ((counted_is_reached owned_values heap sound at).0 one)))
      ∙ ap (passing (is_live (forwards heap) held_values)) (sym (forwards_length heap))
    where
      older : (at : ℕ) → AllWithin at (fields_at (forwards heap) at)
      older at = subst (AllWithin at) (sym (store_fields heap at)) (sound.older at)
