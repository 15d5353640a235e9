-- Dups and drops before a code: the counted machine takes them one by one, and the heap is sound over what is owned then.
use Rattle.std.proofs.Common.{◌≡◌, inl, inr, ℕ, suc, ◌+◌, ◌*◌, ◌≤◌, true, not, List, [], ◌∷◌, ◌++◌, length, arith, refl, ◌∙◌}
use Rattle.kk_syntax.specs.Shapes.{is_among, without}
use Rattle.kk_syntax.specs.PositionsOf.{PositionTable}
use Rattle.kk_source.specs.State.{Value, Environment}
use Rattle.kk_source.specs.Live.{value_of}
use Rattle.kk_source.specs.Notes.{Note}
use Rattle.kk_counted.specs.CountedCodes.{Counted}
use Rattle.kk_counted.specs.CountedCosts.{dup_cost, drop_cost}
use Rattle.kk_counted.specs.Heaps.{Heap, forwards, dup_value, drop_value}
use Rattle.kk_counted.specs.CountedStates.{CountedJoin, CountedFrame, CountedState}
use Rattle.kk_counted.specs.References.{refs_of, refs, IsSound, IsCounted, cells_of}
use Rattle.kk_counted.specs.Spending.{AreEven, AreApart}
use Rattle.kk_counted.specs.Keeping.{values_of, AreReached}
use Rattle.kk_counted.proofs.CountChanges.{refs_append}
use Rattle.kk_counted.proofs.Heaps.{value_counted, dupped, dropped}
use Rattle.kk_counted.proofs.Variables.{even_refs, among_refs}
use Rattle.kk_counted.proofs.Reachability.{reached_counted}
use Rattle.kk_counted.proofs.SoundSteps.{moved, became_sound, counted_if, counted_grows}
use Rattle.kk_insert.specs.Insertion.{dups, drops, dropping, owns, back}
use Rattle.kk_insert.proofs.Sets.{Part, among_first, among_next, in_either, apart_filter, total_append}
use Rattle.kk_insert.proofs.OwnedVariables.{owns_apart, owns_after}
use Rattle.kk_insert.proofs.Lengths.{even_length}
use Rattle.kk_insert.proofs.Spending.{landing_even, dropping_even}
use Rattle.kk_insert.proofs.Paths.{Priced, conf, with_input, Path, path_step, path_less, dup_step, drop_step}

-- equal lists of variables own the same
pub sound_even : (environment : Environment) (now other : List ℕ) (below : List Value) (heap : Heap) → AreEven now other
    → IsSound (values_of environment now ++ below) heap → IsSound (values_of environment other ++ below) heap
sound_even environment now other below heap even sound =
    moved (values_of environment now ++ below) (values_of environment other ++ below) heap
    (λ q. omega (
      arith,
      refs_append (values_of environment now) below q,
      refs_append
          (values_of environment other) below q,
      even_refs environment now other q even,
    ))
    sound

-- what is owned is counted, and so is what is lent
pub owned_counted : (environment : Environment) (now : List ℕ) (below : List Value) (heap : Heap) (x : ℕ)
    → IsSound (values_of environment now ++ below) heap → is_among now x ≡ true → IsCounted heap (value_of environment x)
owned_counted environment now below heap x sound is =
    value_counted (value_of environment x) heap
    (λ q one. omega (
      arith,
      one,
      among_refs environment now x q is,
      sound.counts q,
      refs_append
          (values_of environment now) below q,
    ))

pub lent_counted : (environment : Environment) (now lent : List ℕ) (below : List Value) (heap : Heap) (x : ℕ)
    → IsSound (values_of environment now ++ below) heap → AreReached (forwards heap) below environment lent → is_among lent x ≡ true
    → IsCounted heap (value_of environment x)
lent_counted environment now lent below heap x sound reached is =
    counted_if (value_of environment x) heap
    (λ at e. reached_counted (refs (values_of environment now ++ below)) heap sound.counts below at
    (λ q. omega (arith, refs_append (values_of environment now) below q)) (reached x at is e))

pub either_counted : (environment : Environment) (now lent : List ℕ) (below : List Value) (heap : Heap) (x : ℕ)
    → IsSound (values_of environment now ++ below) heap → AreReached (forwards heap) below environment lent
    → is_among (lent ++ now) x ≡ true → IsCounted heap (value_of environment x)
either_counted environment now lent below heap x sound reached is =
    elim (in_either lent now x is) [
      | inl one ↦ lent_counted environment now lent below heap x sound reached one
      | inr two ↦ owned_counted environment now below heap x sound two
    ]

module _ (priced : Priced) (P : ℕ → CountedState → Type 0) (environment : Environment) (joins : List CountedJoin)
    (frames : List CountedFrame) (below : List Value) (input : List ℕ) (least : ℕ) (events : List Note) where
  abbrev pub From : ℕ → Counted → Heap → Type 0
  From most code heap = Path priced least most events P (with_input (conf code environment joins frames heap) input)

  -- from a heap of these cells that is sound over what is owned a code goes on
  abbrev pub GoesOn : ℕ → Counted → List ℕ → Heap → Type 0
  GoesOn most code now heap = (after : Heap) → cells_of after ≡ cells_of heap → IsSound (values_of environment now ++ below) after
      → From most code after

  -- a path that may cost more
  more : (most later : ℕ) (code : Counted) (heap : Heap) → later ≤ most → From later code heap → From most code heap
  more most later code heap costs path =
      path_less priced least least later most events P (with_input (conf code environment joins frames heap) input)
      (omega arith) costs path

  pub dups_path : (xs now : List ℕ) (code : Counted) (heap : Heap) (most later : ℕ) → dup_cost * length xs + later ≤ most
      → IsSound (values_of environment now ++ below) heap
      → ((y : ℕ) → is_among xs y ≡ true → IsCounted heap (value_of environment y))
      → GoesOn later code (xs ++ now) heap → From most (dups xs code) heap
  dups_path [] now code heap most later costs sound usable next =
      more most later code heap (omega (arith, costs)) (next heap refl sound)
  dups_path (x ∷ xs) now code heap most later costs sound usable next =
      let d = dupped (refs (values_of environment now ++ below))
      (λ q. refs_of (value_of environment x) q + refs (values_of environment now ++ below) q)
      (value_of environment x) heap sound.counts (usable x (among_first x xs)) (λ q. refl) in
      path_less priced (suc least) least most most events P
      (with_input (conf (dups (x ∷ xs) code) environment joins frames heap) input)
      (omega arith) (omega arith)
      (path_step priced least most (dup_cost * length xs + later) [] events P
      (with_input (conf (dups (x ∷ xs) code) environment joins frames heap) input)
      (with_input (conf (dups xs code) environment joins frames d.0.heap) input)
      (dup_step priced x (dups xs code) environment joins frames heap d.0.heap input d.0.is) (tt, (tt, (tt, (tt, tt))))
      (omega (arith, costs))
      (dups_path xs (x ∷ now) code d.0.heap (dup_cost * length xs + later) later (omega arith)
      (became_sound (values_of environment now ++ below) (values_of environment (x ∷ now) ++ below) heap
      (dup_value (value_of environment x) heap)
      (λ q. refs_of (value_of environment x) q + refs (values_of environment now ++ below) q) d.0 (λ q. refl) sound)
      (λ y is. counted_grows (value_of environment y) heap d.0.heap d.1 (usable y (among_next x y xs is)))
      (λ after cells sound_then. next after (cells ∙ d.0.cells)
      (sound_even environment (xs ++ (x ∷ now)) (x ∷ (xs ++ now)) below after
      (λ weight. omega (arith, total_append weight xs (x ∷ now), total_append weight xs now)) sound_then))))

  pub drops_path : (xs now : List ℕ) (code : Counted) (heap : Heap) (most later : ℕ) → drop_cost * length xs + later ≤ most
      → IsSound (values_of environment (xs ++ now) ++ below) heap
      → GoesOn later code now heap → From most (drops xs code) heap
  drops_path [] now code heap most later costs sound next =
      more most later code heap (omega (arith, costs)) (next heap refl sound)
  drops_path (x ∷ xs) now code heap most later costs sound next =
      let d = dropped (refs (values_of environment (x ∷ (xs ++ now)) ++ below)) (refs (values_of environment (xs ++ now) ++ below))
      (value_of environment x) heap sound.counts (λ q. refl) in
      path_less priced (suc least) least most most events P
      (with_input (conf (drops (x ∷ xs) code) environment joins frames heap) input)
      (omega arith) (omega arith)
      (path_step priced least most (drop_cost * length xs + later) [] events P
      (with_input (conf (drops (x ∷ xs) code) environment joins frames heap) input)
      (with_input (conf (drops xs code) environment joins frames d.heap) input)
      (drop_step priced x (drops xs code) environment joins frames heap d.heap input d.is) (tt, (tt, (tt, (tt, tt))))
      (omega (arith, costs))
      (drops_path xs now code d.heap (drop_cost * length xs + later) later (omega arith)
      (became_sound (values_of environment (x ∷ (xs ++ now)) ++ below) (values_of environment (xs ++ now) ++ below) heap
      (drop_value (value_of environment x) heap) (refs (values_of environment (xs ++ now) ++ below)) d (λ q. refl) sound)
      (λ after cells sound_then. next after (cells ∙ d.cells) sound_then)))

  -- what is dropped pays for itself: for each variable that is owned the cost of its drop is saved
  pub dropping_path : (all now : List ℕ) (code : Counted) (heap : Heap) (most later : ℕ) → drop_cost * length all + later ≤ most
      → AreApart all → AreApart now → Part now all
      → IsSound (values_of environment all ++ below) heap → GoesOn (drop_cost * length now + later) code now heap
      → From most (dropping all now code) heap
  dropping_path all now code heap most later costs apart_all apart part sound next =
      drops_path (without now all) now code heap most (drop_cost * length now + later)
      (omega (arith, costs, even_length all (without now all) now (dropping_even all now apart_all apart part)))
      (sound_even environment all (without now all ++ now) below heap (dropping_even all now apart_all apart part) sound) next

  pub landing_path : (x : ℕ) (now : List ℕ) (code : Counted) (heap : Heap) (most later : ℕ)
      → drop_cost * suc (length (without (x ∷ []) now)) + later ≤ most → AreApart now
      → IsSound (values_of environment (x ∷ without (x ∷ []) now) ++ below) heap
      → GoesOn (drop_cost * length now + later) code now heap
      → From most (dropping (x ∷ []) now code) heap
  landing_path x now code heap most later costs apart sound next =
      drops_path (without now (x ∷ [])) now code heap most (drop_cost * length now + later)
      (omega (arith, costs, even_length (x ∷ without (x ∷ []) now) (without now (x ∷ [])) now (landing_even x now apart)))
      (sound_even environment (x ∷ without (x ∷ []) now) (without now (x ∷ []) ++ now) below heap
      (landing_even x now apart) sound) next

  pub back_path : (positions : PositionTable) (lent given : List ℕ) (x : ℕ) (now : List ℕ) (code : Counted) (heap : Heap)
      (most later : ℕ) → drop_cost * suc (length (owns lent given (without (x ∷ []) now))) + later ≤ most
      → AreApart now
      → IsSound (values_of environment (x ∷ owns lent given (without (x ∷ []) now)) ++ below) heap
      → GoesOn (drop_cost * length now + later) code now heap
      → From most (back lent given x now code) heap
  back_path positions lent given x now code heap most later costs apart sound next =
      drops_path (without (without (x ∷ []) now) (owns lent given (without (x ∷ []) now))) (x ∷ without (x ∷ []) now)
      (dropping (x ∷ []) now code) heap most (drop_cost * suc (length (without (x ∷ []) now)) + later)
      (omega (
        arith,
        costs,
        even_length (owns lent given (without (x ∷ []) now))
            (without (without (x ∷ []) now) (owns lent given (without (x ∷ []) now))) (without (x ∷ []) now) given_even,
      ))
      (sound_even environment (x ∷ owns lent given (without (x ∷ []) now))
      (without (without (x ∷ []) now) (owns lent given (without (x ∷ []) now)) ++ (x ∷ without (x ∷ []) now)) below heap
      (λ weight. omega (
        arith,
        given_even weight,
        total_append weight (without (without (x ∷ []) now) (owns lent given (without (x ∷ []) now))) (without (x ∷ []) now),
        total_append weight (without (without (x ∷ []) now) (owns lent given (without (x ∷ []) now))) (x ∷ without (x ∷ []) now),
      ))
      sound)
      (λ after cells sound_then. landing_path x now code after (drop_cost * suc (length (without (x ∷ []) now)) + later) later
      (omega arith) apart sound_then
      (λ last cells_then sound_last. next last (cells_then ∙ cells) sound_last))
    where
      given_even : AreEven (owns lent given (without (x ∷ []) now))
          (without (without (x ∷ []) now) (owns lent given (without (x ∷ []) now)) ++ without (x ∷ []) now)
      given_even =
          dropping_even (owns lent given (without (x ∷ []) now)) (without (x ∷ []) now)
          (owns_apart positions lent given (without (x ∷ []) now) (apart_filter (λ z. not (is_among (x ∷ []) z)) now apart))
          (apart_filter (λ z. not (is_among (x ∷ []) z)) now apart)
          (owns_after positions lent given (without (x ∷ []) now))
