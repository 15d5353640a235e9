-- Steps of fused code between a dup and the drop with which it cancels: the code that it is made of owns some values once more.
use Rattle.std.proofs.Common.{◌≡◌, ◌⊎◌, inl, inr, ℕ, suc, Bool, true, false, List, [], ◌∷◌, ◌++◌, length, map, Option, Some, arith, refl, sym, ap, ◌∙◌, subst}
use Rattle.kk_syntax.specs.Shapes.{is_among}
use Rattle.kk_syntax.specs.PositionsOf.{PositionTable}
use Rattle.kk_source.specs.State.{Value, Environment}
use Rattle.kk_source.specs.Live.{value_of}
use Rattle.kk_source.specs.Actions.{Action, goes, puts, takes, builds, calls, print_step}
use Rattle.kk_core.specs.CoreMachine.{bind_fields}
use Rattle.kk_counted.specs.CountedCodes.{Counted, read, dup, drop}
use Rattle.kk_counted.specs.Heaps.{Heap, forwards, dup_value, drop_value}
use Rattle.kk_counted.specs.CountedStates.{CountedSetting, CountedJoin, running, CountedConfiguration}
use Rattle.kk_counted.specs.CountedMachine.{at_counted, with_heap, Named, cell_named, open_step, counted_code_step}
use Rattle.kk_counted.specs.References.{cells_of}
use Rattle.kk_counted.specs.Spending.{total, AreEven, AreFresh, Spends}
use Rattle.kk_counted.specs.Keeping.{IsCell}
use Rattle.kk_counted.proofs.Reachability.{same_store}
use Rattle.kk_counted.proofs.Variables.{among_cases, other_variable}
use Rattle.kk_counted.proofs.Evenness.{even_among, total_append, among_front, among_behind}
use Rattle.kk_counted.proofs.Order.{spends_even}
use Rattle.kk_counted.proofs.SoundSteps.{NamedCell}
use Rattle.kk_fuse.specs.Fused.{without_drop, fuse, fused_setting}
use Rattle.kk_fuse.specs.FusedRuns.{steps_in, fused_join, fused_frame, IsAtForm, IsBetween}
use Rattle.kk_fuse.proofs.Strips.{strip, IsPast, IsTaken, IsSplit, split}
use Rattle.kk_fuse.proofs.HeapEffects.{IsSeen, Turned, seen_even, seen_counted, seen_dup, seen_drop, seen_read, named_in, named_is}
use Rattle.kk_fuse.proofs.Steps.{fused_configuration, dup_goes}

-- ---- actions

-- two steps tell the same, and lead to states that are related
abbrev pub AreAlike : (CountedConfiguration → CountedConfiguration → Type 0) → Action CountedConfiguration
    → Action CountedConfiguration → Type 0
AreAlike R (goes to) action = (other : CountedConfiguration) × ((action ≡ goes other) × R to other)
AreAlike R (puts piece to) action = (other : CountedConfiguration) × ((action ≡ puts piece other) × R to other)
AreAlike R (takes to) action =
    (other : Option ℕ → CountedConfiguration) × ((action ≡ takes other) × ((byte : Option ℕ) → R (to byte) (other byte)))
AreAlike R (builds found to) action = (other : CountedConfiguration) × ((action ≡ builds found other) × R to other)
AreAlike R (calls found to) action = (other : CountedConfiguration) × ((action ≡ calls found other) × R to other)

pub print_alike : (R : CountedConfiguration → CountedConfiguration → Type 0) (piece : List ℕ) (to other : CountedConfiguration)
    → R to other → AreAlike R (print_step piece to) (print_step piece other)
print_alike R [] to other related = (other, (refl, related))
print_alike R (byte ∷ bytes) to other related = (other, (refl, related))

-- ---- variables

-- a variable of all that is owned, if it is not pending, is owned beside what is pending
in_even : (xs owned now : List ℕ) (y : ℕ) → AreEven (xs ++ owned) now → is_among xs y ≡ false → is_among now y ≡ true
    → is_among owned y ≡ true
in_even xs owned now y even other is =
    by_case (among_cases xs owned y (even_among now (xs ++ owned) y (λ weight. sym (even weight)) is))
  where
    by_case : (is_among xs y ≡ true) ⊎ (is_among owned y ≡ true) → is_among owned y ≡ true
    by_case (inl here) = absurd (let both : true ≡ false = sym here ∙ other in cc)
    by_case (inr here) = here

-- a variable that is not among more is not among fewer
pub not_among : (xs ys : List ℕ) (y : ℕ) → (is_among xs y ≡ true → is_among ys y ≡ true) → is_among ys y ≡ false
    → is_among xs y ≡ false
not_among xs ys y each is = by_test (is_among xs y) refl
  where
    by_test : (t : Bool) → is_among xs y ≡ t → t ≡ false
    by_test false here = refl
    by_test true here = sym (each here) ∙ is

fresh_less : (fields ys zs : List ℕ) → ((y : ℕ) → is_among ys y ≡ true → is_among zs y ≡ true) → AreFresh fields zs
    → AreFresh fields ys
fresh_less [] ys zs each fresh = tt
fresh_less (x ∷ xs) ys zs each fresh = (not_among ys zs x (each x) fresh.0, fresh_less xs ys zs each fresh.1)

past_one : (xs : List ℕ) (y : ℕ) → is_among xs y ≡ false → (x : ℕ) → is_among xs x ≡ true → is_among (y ∷ []) x ≡ false
past_one xs y other x is = rw (other_variable y x xs other is) refl

-- ---- a pending state

module _ (positions : PositionTable) (setting : CountedSetting) where
  -- The code owns the pending variables once more than the fused code, which is less by their drops. Both heaps have the same
  -- cells, and are sound over what is owned.
  pub record Pending (heap other : Heap) (environment : Environment) (code less : Counted) : Type 0 where
    pub below : List Value
    pub lent : List ℕ
    pub readable : List ℕ
    pub pending : List ℕ
    pub owned : List ℕ
    pub left : Option (List ℕ)
    pub strips : strip pending (fuse code) ≡ Some less
    pub spends : Spends positions setting.program.functions lent readable left (pending ++ owned) code
    pub seen : IsSeen below environment lent readable (pending ++ owned) heap
    pub fused_seen : IsSeen below environment lent readable owned other
    pub cells : cells_of other ≡ cells_of heap

  -- a state in whose code some variables are pending
  pub record IsPending (state fused : CountedConfiguration) : Type 0 where
    pub code : Counted
    pub less : Counted
    pub environment : Environment
    pub joins : List CountedJoin
    pub at : state.control ≡ running code environment joins
    pub fused_at : fused.control ≡ running less environment (map fused_join joins)
    pub frames : fused.frames ≡ map fused_frame state.frames
    pub pending : Pending state.heap fused.heap environment code less

  -- a state of the fused code stands for one of the code: it is the same with fused code, or some variables are pending
  abbrev pub Follows : CountedConfiguration → CountedConfiguration → Type 0
  Follows state fused = (fused ≡ fused_configuration state) ⊎ IsPending state fused

  -- the code does a step alone
  pub record IsIdle (code : Counted) (environment : Environment) (joins : List CountedJoin) (from fused : CountedConfiguration)
      : Type 0 where
    pub to : CountedConfiguration
    pub rest : Counted
    pub is : counted_code_step setting code environment joins from ≡ goes to
    pub at : to.control ≡ running rest environment joins
    pub shorter : steps_in code ≡ suc (steps_in rest)
    pub follows : Follows to fused

  -- both do a step
  pub record AreBoth (code less : Counted) (environment : Environment) (joins : List CountedJoin)
      (from fused : CountedConfiguration) : Type 0 where
    pub form : IsAtForm code less
    pub between : IsBetween code
    pub alike : AreAlike Follows (counted_code_step setting code environment joins from)
        (counted_code_step (fused_setting setting) less environment (map fused_join joins) fused)

  module _ (environment : Environment) (joins : List CountedJoin) (from fused : CountedConfiguration)
      (frames : fused.frames ≡ map fused_frame from.frames) where
    -- the rest of the code, with the heaps changed
    pub rest_follows : (rest less : Counted) (heap other : Heap) (bound : Environment) → Pending heap other bound rest less
        → Follows (record from { control = running rest bound joins; heap = heap })
        (record fused { control = running less bound (map fused_join joins); heap = other })
    rest_follows rest less heap other bound pending =
        inr (record {
          code = rest;
          less = less;
          environment = bound;
          joins = joins;
          at = refl;
          fused_at = refl;
          frames = frames;
          pending = pending;
        })

    -- both change their heaps
    heaps_alike : (result other_result : Option Heap) (heap other : Heap) (rest less : Counted) (bound : Environment)
        → result ≡ Some heap → other_result ≡ Some other → Pending heap other bound rest less
        → AreAlike Follows (goes (with_heap result from (at_counted rest bound joins from)))
        (goes (with_heap other_result fused (at_counted less bound (map fused_join joins) fused)))
    heaps_alike result other_result heap other rest less bound is other_is pending =
        subst
        (λ result. AreAlike Follows (goes (with_heap result from (at_counted rest bound joins from)))
        (goes (with_heap other_result fused (at_counted less bound (map fused_join joins) fused)))) (sym is)
        (subst
        (λ result. AreAlike Follows (goes (with_heap (Some heap) from (at_counted rest bound joins from)))
        (goes (with_heap result fused (at_counted less bound (map fused_join joins) fused)))) (sym other_is) (
          record fused { control = running less bound (map fused_join joins); heap = other },
          (refl, rest_follows rest less heap other bound pending),
        ))

    -- ---- the code does a step alone

    idle_to : (code rest : Counted) (result : Option Heap) (heap : Heap) (less : Counted)
        → counted_code_step setting code environment joins from
        ≡ goes (with_heap result from (at_counted rest environment joins from))
        → result ≡ Some heap → steps_in code ≡ suc (steps_in rest)
        → fused.control ≡ running less environment (map fused_join joins)
        → Pending heap fused.heap environment rest less → IsIdle code environment joins from fused
    idle_to code rest result heap less step is shorter at pending =
        record {
          to = record from { control = running rest environment joins; heap = heap };
          rest = rest;
          is = step ∙ ap (λ result. goes (with_heap result from (at_counted rest environment joins from))) is;
          at = refl;
          shorter = shorter;
          follows =
              inr (record {
                code = rest;
                less = less;
                environment = environment;
                joins = joins;
                at = refl;
                fused_at = at;
                frames = frames;
                pending = pending;
              });
        }

    -- a dup that cancels: one more is pending
    pub dup_idle : (y : ℕ) (rest less first : Counted) → (p : Pending from.heap fused.heap environment (dup y rest) less)
        → without_drop y (fuse rest) ≡ Some first
        → fused.control ≡ running less environment (map fused_join joins)
        → IsIdle (dup y rest) environment joins from fused
    dup_idle y rest less first p goes_on at =
        idle_to (dup y rest) rest (dup_value (value_of environment y) from.heap) one.after less refl one.is refl at
        (record {
          below = p.below;
          lent = p.lent;
          readable = p.readable;
          pending = y ∷ p.pending;
          owned = p.owned;
          left = p.left;
          strips = rw goes_on (ap (strip p.pending) (sym (dup_goes y (fuse rest) first goes_on)) ∙ p.strips);
          spends =
              spends_even positions setting.program.functions p.lent p.readable p.left (y ∷ p.spends.0)
              (y ∷ (p.pending ++ p.owned)) (λ weight. omega (arith, p.spends.1.0 weight)) rest p.spends.1.1.1;
          seen =
              seen_even p.below environment p.lent one.after p.readable (y ∷ p.spends.0) (y ∷ (p.pending ++ p.owned))
              (λ weight. omega (arith, p.spends.1.0 weight)) one.seen;
          fused_seen = p.fused_seen;
          cells = p.cells ∙ sym one.cells;
        })
      where
        one : Turned p.below environment p.lent p.readable (y ∷ p.spends.0) from.heap (dup_value (value_of environment y) from.heap)
        one =
            seen_dup p.below environment p.lent from.heap p.readable p.spends.0 y p.spends.1.1.0
            (seen_even p.below environment p.lent from.heap p.readable (p.pending ++ p.owned) p.spends.0 p.spends.1.0 p.seen)

    -- the drop of a pending variable
    pub drop_idle : (y : ℕ) (rest less : Counted) → (p : Pending from.heap fused.heap environment (drop y rest) less)
        → IsTaken p.pending y (fuse rest) less
        → fused.control ≡ running less environment (map fused_join joins)
        → IsIdle (drop y rest) environment joins from fused
    drop_idle y rest less p taken at =
        idle_to (drop y rest) rest (drop_value (value_of environment y) from.heap) one.after less refl one.is refl at
        (record {
          below = p.below;
          lent = p.lent;
          readable = [];
          pending = taken.others;
          owned = p.owned;
          left = p.left;
          strips = taken.strips;
          spends =
              spends_even positions setting.program.functions p.lent [] p.left p.spends.0 (taken.others ++ p.owned) even rest
              p.spends.1.1;
          seen =
              seen_even p.below environment p.lent one.after [] p.spends.0 (taken.others ++ p.owned) (λ weight. sym (even weight))
              one.seen;
          fused_seen =
              record { reached = p.fused_seen.reached; counted = λ z here. absurd (cc); sound = p.fused_seen.sound };
          cells = p.cells ∙ sym one.cells;
        })
      where
        even : (weight : ℕ → ℕ) → total weight (taken.others ++ p.owned) ≡ total weight p.spends.0
        even weight =
            omega (
              arith,
              p.spends.1.0 weight,
              taken.even weight,
              total_append weight p.pending p.owned,
              total_append weight taken.others p.owned,
            )

        one : Turned p.below environment p.lent [] p.spends.0 from.heap (drop_value (value_of environment y) from.heap)
        one =
            seen_drop p.below environment p.lent from.heap p.readable (p.pending ++ p.owned) p.spends.0 y p.spends.1.0 p.seen

    -- ---- both do a step

    -- both give a value a reference more
    pub dup_both : (y : ℕ) (rest less : Counted) → (p : Pending from.heap fused.heap environment (dup y rest) less)
        → (past : IsPast p.pending y (dup y) (fuse rest) less) → AreBoth (dup y rest) (dup y past.less) environment joins from fused
    dup_both y rest less p past =
        record {
          form = (past.less, refl);
          between = tt;
          alike =
              heaps_alike (dup_value (value_of environment y) from.heap) (dup_value (value_of environment y) fused.heap) one.after
              two.after rest past.less environment one.is two.is
              (record {
                below = p.below;
                lent = p.lent;
                readable = p.readable;
                pending = p.pending;
                owned = y ∷ p.owned;
                left = p.left;
                strips = past.strips;
                spends =
                    spends_even positions setting.program.functions p.lent p.readable p.left (y ∷ p.spends.0)
                    (p.pending ++ (y ∷ p.owned)) even rest p.spends.1.1.1;
                seen =
                    seen_even p.below environment p.lent one.after p.readable (y ∷ p.spends.0) (p.pending ++ (y ∷ p.owned))
                    (λ weight. sym (even weight)) one.seen;
                fused_seen = two.seen;
                cells = two.cells ∙ p.cells ∙ sym one.cells;
              });
        }
      where
        even : (weight : ℕ → ℕ) → total weight (p.pending ++ (y ∷ p.owned)) ≡ total weight (y ∷ p.spends.0)
        even weight =
            omega (
              arith,
              p.spends.1.0 weight,
              total_append weight p.pending p.owned,
              total_append weight p.pending (y ∷ p.owned),
            )

        one : Turned p.below environment p.lent p.readable (y ∷ p.spends.0) from.heap (dup_value (value_of environment y) from.heap)
        one =
            seen_dup p.below environment p.lent from.heap p.readable p.spends.0 y p.spends.1.1.0
            (seen_even p.below environment p.lent from.heap p.readable (p.pending ++ p.owned) p.spends.0 p.spends.1.0 p.seen)

        in_rest : (is_among p.readable y ≡ true) ⊎ (is_among p.spends.0 y ≡ true) → is_among (p.readable ++ p.owned) y ≡ true
        in_rest (inl here) = among_front p.readable p.owned y here
        in_rest (inr here) =
            among_behind p.readable p.owned y (in_even p.pending p.owned p.spends.0 y p.spends.1.0 past.other here)

        in_all : (is_among p.lent y ≡ true) ⊎ (is_among (p.readable ++ p.spends.0) y ≡ true)
            → is_among (p.lent ++ (p.readable ++ p.owned)) y ≡ true
        in_all (inl here) = among_front p.lent (p.readable ++ p.owned) y here
        in_all (inr here) = among_behind p.lent (p.readable ++ p.owned) y (in_rest (among_cases p.readable p.spends.0 y here))

        two : Turned p.below environment p.lent p.readable (y ∷ p.owned) fused.heap (dup_value (value_of environment y) fused.heap)
        two =
            seen_dup p.below environment p.lent fused.heap p.readable p.owned y
            (in_all (among_cases p.lent (p.readable ++ p.spends.0) y p.spends.1.1.0)) p.fused_seen

    -- both give up a reference
    pub drop_both : (y : ℕ) (rest less : Counted) → (p : Pending from.heap fused.heap environment (drop y rest) less)
        → (past : IsPast p.pending y (drop y) (fuse rest) less)
        → AreBoth (drop y rest) (drop y past.less) environment joins from fused
    drop_both y rest less p past =
        record {
          form = (past.less, refl);
          between = tt;
          alike =
              heaps_alike (drop_value (value_of environment y) from.heap) (drop_value (value_of environment y) fused.heap) one.after
              two.after rest past.less environment one.is two.is
              (record {
                below = p.below;
                lent = p.lent;
                readable = [];
                pending = p.pending;
                owned = parts.beside;
                left = p.left;
                strips = past.strips;
                spends =
                    spends_even positions setting.program.functions p.lent [] p.left p.spends.0 (p.pending ++ parts.beside)
                    (λ weight. sym (parts.kept_is weight)) rest p.spends.1.1;
                seen =
                    seen_even p.below environment p.lent one.after [] p.spends.0 (p.pending ++ parts.beside) parts.kept_is one.seen;
                fused_seen = two.seen;
                cells = two.cells ∙ p.cells ∙ sym one.cells;
              });
        }
      where
        parts : IsSplit p.pending (y ∷ []) p.spends.0 p.owned
        parts = split p.pending (y ∷ []) p.spends.0 p.owned p.spends.1.0 (past_one p.pending y past.other)

        one : Turned p.below environment p.lent [] p.spends.0 from.heap (drop_value (value_of environment y) from.heap)
        one =
            seen_drop p.below environment p.lent from.heap p.readable (p.pending ++ p.owned) p.spends.0 y p.spends.1.0 p.seen

        two : Turned p.below environment p.lent [] parts.beside fused.heap (drop_value (value_of environment y) fused.heap)
        two = seen_drop p.below environment p.lent fused.heap p.readable p.owned parts.beside y parts.owned_is p.fused_seen

    -- both find the same cell
    named_alike : (found other_found : Option Named) (named : Named) (fields : List ℕ) (rest less : Counted) → found ≡ Some named
        → other_found ≡ Some named → Pending from.heap fused.heap (bind_fields fields named.fields environment) rest less
        → AreAlike Follows (open_step found (λ one. Some from.heap) fields rest environment joins from)
        (open_step other_found (λ one. Some fused.heap) fields less environment (map fused_join joins) fused)
    named_alike found other_found named fields rest less is other_is pending =
        subst
        (λ found. AreAlike Follows (open_step found (λ one. Some from.heap) fields rest environment joins from)
        (open_step other_found (λ one. Some fused.heap) fields less environment (map fused_join joins) fused)) (sym is)
        (subst
        (λ found. AreAlike Follows (open_step (Some named) (λ one. Some from.heap) fields rest environment joins from)
        (open_step found (λ one. Some fused.heap) fields less environment (map fused_join joins) fused)) (sym other_is)
        (heaps_alike (Some from.heap) (Some fused.heap) from.heap fused.heap rest less (bind_fields fields named.fields environment)
        refl refl pending))

    -- both read the fields of a cell
    pub read_both : (y c : ℕ) (fields : List ℕ) (rest less : Counted)
        → (p : Pending from.heap fused.heap environment (read y c fields rest) less)
        → (past : IsPast p.pending y (read y c fields) (fuse rest) less)
        → IsCell (forwards from.heap) c (length fields) (value_of environment y)
        → AreBoth (read y c fields rest) (read y c fields past.less) environment joins from fused
    read_both y c fields rest less p past shape =
        record {
          form = (past.less, refl);
          between = tt;
          alike =
              named_alike (cell_named c (length fields) from.heap (value_of environment y))
              (cell_named c (length fields) fused.heap (value_of environment y)) named fields rest past.less one.0 two.0
              (record {
                below = p.below;
                lent = p.lent;
                readable = fields;
                pending = p.pending;
                owned = p.owned;
                left = p.left;
                strips = past.strips;
                spends =
                    spends_even positions setting.program.functions p.lent fields p.left p.spends.0 (p.pending ++ p.owned)
                    p.spends.1.0 rest p.spends.1.1.1.1;
                seen =
                    seen_even p.below (bind_fields fields named.fields environment) p.lent from.heap fields p.spends.0
                    (p.pending ++ p.owned) (λ weight. sym (p.spends.1.0 weight))
                    (seen_read p.below environment p.lent from.heap p.readable p.spends.0 fields y named p.spends.1.1.0
                    p.spends.1.1.1.0 one.1 now_seen);
                fused_seen =
                    seen_read p.below environment p.lent fused.heap p.readable p.owned fields y named
                    (fresh_less fields p.owned p.spends.0 owned_now p.spends.1.1.0) where_from two.1 p.fused_seen;
                cells = p.cells;
              });
        }
      where
        now_seen : IsSeen p.below environment p.lent p.readable p.spends.0 from.heap
        now_seen = seen_even p.below environment p.lent from.heap p.readable (p.pending ++ p.owned) p.spends.0 p.spends.1.0 p.seen

        owned_now : (z : ℕ) → is_among p.owned z ≡ true → is_among p.spends.0 z ≡ true
        owned_now z is = even_among (p.pending ++ p.owned) p.spends.0 z p.spends.1.0 (among_behind p.pending p.owned z is)

        owned_here : (is_among p.lent y ≡ true) ⊎ ((is_among p.spends.0 y ≡ true) × AreFresh fields p.lent)
            → (is_among p.lent y ≡ true) ⊎ ((is_among p.owned y ≡ true) × AreFresh fields p.lent)
        owned_here (inl here) = inl here
        owned_here (inr here) = inr (in_even p.pending p.owned p.spends.0 y p.spends.1.0 past.other here.0, here.1)

        where_from : (is_among p.lent y ≡ true) ⊎ ((is_among p.owned y ≡ true) × AreFresh fields p.lent)
        where_from = owned_here p.spends.1.1.1.0

        among : (owned : List ℕ) → (is_among p.lent y ≡ true) ⊎ ((is_among owned y ≡ true) × AreFresh fields p.lent)
            → is_among (p.lent ++ (p.readable ++ owned)) y ≡ true
        among owned (inl here) = among_front p.lent (p.readable ++ owned) y here
        among owned (inr here) = among_behind p.lent (p.readable ++ owned) y (among_behind p.readable owned y here.0)

        named : Named
        named = named_in (forwards from.heap) c (length fields) (value_of environment y) shape

        one : (cell_named c (length fields) from.heap (value_of environment y)
            ≡ Some (named_in (forwards from.heap) c (length fields) (value_of environment y) shape))
            × NamedCell from.heap (value_of environment y) (length fields)
            (named_in (forwards from.heap) c (length fields) (value_of environment y) shape)
        one =
            named_is c (length fields) from.heap (forwards from.heap) (value_of environment y) refl
            (seen_counted p.below environment p.lent from.heap p.readable p.spends.0 y (among p.spends.0 p.spends.1.1.1.0) now_seen)
            shape

        two : (cell_named c (length fields) fused.heap (value_of environment y)
            ≡ Some (named_in (forwards from.heap) c (length fields) (value_of environment y) shape))
            × NamedCell fused.heap (value_of environment y) (length fields)
            (named_in (forwards from.heap) c (length fields) (value_of environment y) shape)
        two =
            named_is c (length fields) fused.heap (forwards from.heap) (value_of environment y)
            (same_store fused.heap from.heap p.cells)
            (seen_counted p.below environment p.lent fused.heap p.readable p.owned y (among p.owned where_from) p.fused_seen) shape
