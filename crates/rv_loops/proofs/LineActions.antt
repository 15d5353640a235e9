-- One line in both machines: from states of which one stands for the other it leads to such states.
use Rattle.std.proofs.Common.{◌≡◌, ◌==◌, ℕ, suc, List, [], ◌∷◌, Option, Some, None, Bool, true, false, cond, map}
use Rattle.std.proofs.Common.{nat_le, length, slice_get, refl, sym, ap, ◌∙◌, subst, option_map}
use Rattle.rv_isa.specs.declared.asm.Action.{Action}
use Rattle.rv_isa.specs.declared.asm.Action.TheVariants.{Compute, Label, Jump, Branch, Call, TailCall, Return, Routine, Hold}
use Rattle.rv_isa.specs.declared.asm.Action.TheVariants.{Unhold, Room}
use Rattle.rv_isa.specs.declared.asm.Operation.{Operation}
use Rattle.rv_isa.specs.declared.placed.Operand.{Operand}
use Rattle.rv_isa.specs.declared.placed.Place.{Place}
use Rattle.rv_isa.specs.Frames.{Frame, empty, put, all_of, only_of, twice_of, result_of, received, found, top_in, top, taken_in}
use Rattle.rv_isa.specs.Frames.{top_taken, taken_if, is_among, holding, off_top, unholding}
use Rattle.rv_isa.specs.PlacedCode.{PlacedLine, PlacedLines}
use Rattle.rv_isa.specs.PlacedMachine.{PlacedTurn, is_label_line, read_at, slots_with, kept_by, passed, awaited}
use Rattle.rv_isa.specs.PlacedMachine.{only_slot, first_slot, placed_entered, placed_goes, placed_writes, unless_lost, placed_gives, placed_jumps}
use Rattle.rv_isa.specs.PlacedMachine.{placed_returns}
use Rattle.rv_isa.specs.PlacedMachine.{placed_answered, placed_served, placed_acts}
use Rattle.rv_isa.specs.AsmMachine.{unless_held}
use Rattle.rv_isa.specs.Primitives.{Reply, answers, ends, fails, Primitives, ended, or_stuck, by_token}
use Rattle.rv_loops.specs.Rotation.{AreRotated}
use Rattle.rv_loops.specs.Relation.{Spot, Knows, SameAt, IsLike, IsAtSame, AllWait, FramesStand, StandsFor}
use Rattle.rv_loops.proofs.MachineKnowledge.{KnowsWord, put_knows, empty_knows, registers_know, slots_know, kept_knows}
use Rattle.rv_loops.proofs.MachineKnowledge.{like_on, same_some, same_put, same_slots, slot_known}
use Rattle.rv_loops.proofs.Places.{found_both, callee_both}

-- ---- turns

pub same_go : {A H W : Type 0} (q q' : List PlacedLines) (IsAt : Spot) (o : Option A) (next next' : A → PlacedTurn H W)
    → ((a : A) → o ≡ Some a → StandsFor q q' IsAt (next a) (next' a)) → StandsFor q q' IsAt (or_stuck o next) (or_stuck o next')
same_go q q' IsAt None next next' meets = tt
same_go q q' IsAt (Some a) next next' meets = meets a refl

both_go : {A B H W : Type 0} (q q' : List PlacedLines) (IsAt : Spot) (o : Option A) (o' : Option B) (next : A
    → PlacedTurn H W) (next' : B → PlacedTurn H W)
    → ((a : A) → o ≡ Some a → (b : B) × (o' ≡ Some b) × StandsFor q q' IsAt (next a) (next' b))
    → StandsFor q q' IsAt (or_stuck o next) (or_stuck o' next')
both_go q q' IsAt None o' next next' meets = tt
both_go {B = B} q q' IsAt (Some a) o' next next' meets =
    let b = meets a refl in subst (λ (x : Option B). StandsFor q q' IsAt (next a) (or_stuck x next')) (sym b.1) b.2

cond_go : {H W : Type 0} (q q' : List PlacedLines) (IsAt : Spot) (b : Bool) (s s' t t' : PlacedTurn H W) → StandsFor q q' IsAt s t
    → StandsFor q q' IsAt s' t'
    → StandsFor q q' IsAt (cond b s s') (cond b t t')
cond_go q q' IsAt true s s' t t' first second = first
cond_go q q' IsAt false s s' t t' first second = second

held_go : {H W : Type 0} (q q' : List PlacedLines) (IsAt : Spot) (held held' : List ℕ) (s t : PlacedTurn H W) → held' ≡ held
    → (held ≡ [] → StandsFor q q' IsAt s t) → StandsFor q q' IsAt (unless_held held s) (unless_held held' t)
held_go q q' IsAt [] [] s t same stands = stands refl
held_go q q' IsAt [] (k ∷ ks) s t same stands = cc same
held_go q q' IsAt (k ∷ ks) held' s t same stands = tt

-- ---- frames

pub wait_length : (q q' : List PlacedLines) (fs gs : List (Frame PlacedLine)) → AllWait q q' fs gs → length gs ≡ length fs
wait_length q q' [] [] wait = refl
wait_length q q' [] (g ∷ gs) wait = absurd wait
wait_length q q' (f ∷ fs) [] wait = absurd wait
wait_length q q' (f ∷ fs) (g ∷ gs) wait = ap suc (wait_length q q' fs gs wait.1.1.1)

top_in_same : (held : List ℕ) (a b : ℕ → Option ℕ) (o o' : Option ℕ) → SameAt held b a → o' ≡ o → top_in held b o' ≡ top_in held a o
top_in_same [] a b o o' same below = below
top_in_same (k ∷ ks) a b o o' same below = same.0

top_one : (q q' : List PlacedLines) (f g : Frame PlacedLine) (o o' : Option ℕ) → IsLike q q' f g → o' ≡ o
    → top_in g.held g.cells o' ≡ top_in f.held f.cells o
top_one q q' f g o o' like below =
    ap (λ (held : List ℕ). top_in held g.cells o') like.held ∙ top_in_same f.held f.cells g.cells o o' like.held_cells below

top_wait : (q q' : List PlacedLines) (fs gs : List (Frame PlacedLine)) → AllWait q q' fs gs → top gs ≡ top fs
top_wait q q' [] [] wait = refl
top_wait q q' [] (g ∷ gs) wait = absurd wait
top_wait q q' (f ∷ fs) [] wait = absurd wait
top_wait q q' (f ∷ fs) (g ∷ gs) wait = top_one q q' f g (top fs) (top gs) wait.0 (top_wait q q' fs gs wait.1.1.1)

-- the newest held token is the same
pub top_same : (q q' : List PlacedLines) (f g : Frame PlacedLine) (fs gs : List (Frame PlacedLine)) → IsLike q q' f g
    → AllWait q q' fs gs → top (g ∷ gs) ≡ top (f ∷ fs)
top_same q q' f g fs gs like wait = top_one q q' f g (top fs) (top gs) like (top_wait q q' fs gs wait)

-- the same frames with one cell less held
taken_like : (q q' : List PlacedLines) (f g : Frame PlacedLine) (k : ℕ) (ks : List ℕ) → IsLike q q' f g → f.held ≡ k ∷ ks
    → IsLike q q' (record f { cells = put k (Some 0) f.cells; held = ks }) (record g { cells = put k (Some 0) g.cells; held = ks })
taken_like q q' f g k ks like is = record {
  there = like.there;
  there' = like.there';
  function = like.function;
  cells = put_knows k (Some 0) (Some 0) f.cells g.cells (λ word is. is) like.cells;
  held = refl;
  held_cells = same_put k (Some 0) g.cells f.cells ks (subst (λ (held : List ℕ). SameAt held g.cells f.cells) is like.held_cells).1;
}

some_mapped : (f : Frame PlacedLine) (o : Option (List (Frame PlacedLine))) (left : List (Frame PlacedLine))
    → option_map (λ later. f ∷ later) o ≡ Some left → (later : List (Frame PlacedLine)) × ((o ≡ Some later) × (f ∷ later ≡ left))
some_mapped f None left is = cc is
some_mapped f (Some later) left is = (later, (refl, cc is))

-- the frames from which the newest held token was taken
abbrev Taken : (List (Frame PlacedLine) → List (Frame PlacedLine) → Type 0) → Option (List (Frame PlacedLine))
    → List (Frame PlacedLine) → Type 0
Taken Stand o left = (left' : List (Frame PlacedLine)) × ((o ≡ Some left') × Stand left left')

module _ (q q' : List PlacedLines) (Stand : List (Frame PlacedLine) → List (Frame PlacedLine)
    → Type 0) (f g : Frame PlacedLine) (fs gs : List (Frame PlacedLine))
    (like : IsLike q q' f g)
    (first : (k : ℕ) (ks : List ℕ) → IsLike q q' (record f { cells = put k (Some 0) f.cells; held = ks }) (record g {
      cells = put k
          (Some 0) g.cells;
      held = ks;
    })
    → Stand (record f { cells = put k (Some 0) f.cells; held = ks } ∷ fs) (record g {
      cells = put k
          (Some 0) g.cells;
      held = ks;
    } ∷ gs))
    (later : (left left' : List (Frame PlacedLine)) → AllWait q q' left left' → Stand (f ∷ left) (g ∷ left'))
    (below : (left : List (Frame PlacedLine)) → top_taken fs ≡ Some left → Taken (AllWait q q') (top_taken gs) left) where
  taken_from : (held : List ℕ) → f.held ≡ held → (left : List (Frame PlacedLine)) → taken_in held f fs (top_taken fs) ≡ Some left
      → Taken Stand (taken_in held g gs (top_taken gs)) left
  taken_from [] held_is left is =
      let rest = some_mapped f (top_taken fs) left is in
      let under = below rest.0 rest.1.0 in (
        g ∷ under.0,
        (
          ap (option_map (λ later. g ∷ later)) under.1.0,
          subst (λ (l : List (Frame PlacedLine)). Stand l
              (g ∷ under.0)) rest.1.1 (later rest.0 under.0 under.1.1),
        ),
      )
  taken_from (k ∷ ks) held_is left is =
      let new : List (Frame PlacedLine) = record g { cells = put k (Some 0) g.cells; held = ks } ∷ gs in (
        new,
        (
          refl,
          subst (λ (l : List (Frame PlacedLine)). Stand l new) (same_some _ _ is) (first k ks
              (taken_like q q' f g k ks like held_is)),
        ),
      )

  taken_both : (left : List (Frame PlacedLine)) → top_taken (f ∷ fs) ≡ Some left → Taken Stand (top_taken (g ∷ gs)) left
  taken_both left is =
      subst (λ (held : List ℕ). Taken Stand (taken_in held g gs (top_taken gs)) left) (sym like.held)
      (taken_from f.held refl left is)

taken_wait : (q q' : List PlacedLines) (fs gs left : List (Frame PlacedLine)) → AllWait q q' fs gs → top_taken fs ≡ Some left
    → Taken (AllWait q q') (top_taken gs) left
taken_wait q q' [] gs left wait is = cc is
taken_wait q q' (f ∷ fs) [] left wait is = absurd wait
taken_wait q q' (f ∷ fs) (g ∷ gs) left wait is =
    taken_both q q' (AllWait q q') f g fs gs wait.0 (λ k ks like. (like, (wait.1.0, (wait.1.1.0, wait.1.1.1))))
    (λ l l' waits. (wait.0, (wait.1.0, (wait.1.1.0, waits)))) (λ l is_l. taken_wait q q' fs gs l wait.1.1.1 is_l) left is

module _ {H E W : Type 0} (m : Primitives H E W) (depth : ℕ) (q q' : List PlacedLines) (all : AreRotated 0 q q') where
  module _ (IsAt : Spot) (f g : Frame PlacedLine) (fs gs : List (Frame PlacedLine)) (known known' : ℕ
      → Option ℕ) (shared : H) (rest rest' : List PlacedLine)
      (like : IsLike q q' f g) (wait : AllWait q q' fs gs) (more : Knows known known')
      (at : IsAt f.function f.whole g.whole rest rest') where
    -- the frames behind the line
    abbrev f' : Frame PlacedLine
    f' = record f { code = rest }

    abbrev g' : Frame PlacedLine
    g' = record g { code = rest' }

    like' : IsLike q q' f' g'
    like' = like_on q q' f g rest rest' f.into g.into like

    pub goes : (a b : ℕ → Option ℕ) (next : H) → Knows a b → StandsFor {W = W} q q' IsAt (placed_goes f' fs a next)
        (placed_goes g' gs b next)
    goes a b next knows = ((like', (at, wait)), (knows, refl))

    -- a word is written, which the one may know better
    pub writes_better : (place : Place) (w w' : Option ℕ) (next : H) → KnowsWord w w'
        → SameAt f.held (slots_with place w' g.cells) (slots_with place w f.cells)
        → StandsFor {W = W} q q' IsAt (placed_writes place w f' fs known next) (placed_writes place w' g' gs known' next)
    writes_better place w w' next knows same =
        let written : IsLike q q' (record f' { cells = slots_with place w f.cells })
        (record g' { cells = slots_with place w' g.cells })
        = record {
          there = like.there;
          there' = like.there';
          function = like.function;
          cells = slots_know place w w' f.cells g.cells knows like.cells;
          held = like.held;
          held_cells = same;
        } in
        ((written, (at, wait)), (registers_know place w w' known known' knows more, refl))

    gives : (into : Option Operand) (word : ℕ) (next : H) → StandsFor {W = W} q q' IsAt (placed_gives into word f' fs known next)
        (placed_gives into word g' gs known' next)
    gives None word next = goes known known' next more
    gives (Some into) word next =
        writes_better into.place (Some word) (Some word) next (λ v is. is) (same_slots into.place
        (Some word) g.cells f.cells f.held like.held_cells)

    -- a computation
    pub computes : (operation : Operation) (args : List Operand) (into : Option Operand) (words : List ℕ)
        → StandsFor q q' IsAt (placed_acts m depth q f' fs known shared (Compute operation) args into words)
        (placed_acts m depth q' g' gs known' shared (Compute operation) args into words)
    computes operation args into words =
        let kept = unless_lost (Compute operation) into in
        same_go q q' IsAt (m.compute operation words shared) (λ r. placed_gives kept r.0 f' fs known r.1)
        (λ r. placed_gives kept r.0 g' gs known' r.1)
        (λ r is. gives kept r.0 r.1)

  -- what a routine answers goes to the frames that are left
  answered : (into : Option Operand) (word : ℕ) (shared : H) (known known' : ℕ → Option ℕ) (left left' : List (Frame PlacedLine))
      → Knows known known' → FramesStand q q' IsAtSame left left'
      → StandsFor {W = W} q q' IsAtSame (placed_answered into word left known shared)
      (placed_answered into word left' known' shared)
  answered into word shared known known' [] left' more stand = tt
  answered into word shared known known' (f ∷ fs) [] more stand = absurd stand
  answered into word shared known known' (f ∷ fs) (g ∷ gs) more stand =
      gives IsAtSame f g fs gs known known' shared f.code g.code stand.0 stand.1.1 more stand.1.0 into word shared

  returned : (shared : H) (fs gs : List (Frame PlacedLine)) (result : Option ℕ) → AllWait q q' fs gs
      → StandsFor q q' IsAtSame (placed_returns m fs shared result) (placed_returns m gs shared result)
  returned shared [] [] result wait = (refl, refl)
  returned shared [] (g ∷ gs) result wait = absurd wait
  returned shared (f ∷ fs) [] result wait = absurd wait
  returned shared (f ∷ fs) (g ∷ gs) result wait =
      subst (λ (into : Option ℕ). StandsFor {W = W} q q' IsAtSame (placed_returns m (f ∷ fs) shared result)
      (or_stuck (received into result empty) (λ registers. placed_goes g gs registers shared))) (sym wait.1.1.0)
      (same_go q q' IsAtSame (received f.into result empty) (λ registers. placed_goes f fs registers shared)
      (λ registers. placed_goes g gs registers shared)
      (λ registers is. ((wait.0, (wait.1.0, wait.1.1.1)), ((λ x word known. known), refl))))

  module _ (f g : Frame PlacedLine) (fs gs : List (Frame PlacedLine)) (known known' : ℕ
      → Option ℕ) (shared : H) (rest rest' : List PlacedLine)
      (like : IsLike q q' f g) (wait : AllWait q q' fs gs) (more : Knows known known')
      (at : IsAtSame f.function f.whole g.whole rest rest') where
    abbrev on : Frame PlacedLine
    on = record f { code = rest }

    abbrev on' : Frame PlacedLine
    on' = record g { code = rest' }

    jumps : (l : ℕ) → StandsFor {W = W} q q' IsAtSame (placed_jumps l on fs known shared) (placed_jumps l on' gs known' shared)
    jumps l =
        both_go q q' IsAtSame (found (is_label_line l) f.whole) (found (is_label_line l) g.whole) (λ code. placed_goes
        (record f { code = code }) fs known shared)
        (λ code. placed_goes (record g { code = code }) gs known' shared)
        (λ code is.
        let there = found_both f.function l f.whole g.whole rest rest' code at is in (
          there.0,
          there.1,
          goes IsAtSame f g fs gs known known' shared code there.0 like wait more there.2 known known' shared
              more,
        ))

    next_like : IsLike q q' on on'
    next_like = like' IsAtSame f g fs gs known known' shared rest rest' like wait more at

    stays : (a b : ℕ → Option ℕ) (next : H) → Knows a b → StandsFor {W = W} q q' IsAtSame (placed_goes on fs a next)
        (placed_goes on' gs b next)
    stays a b next knows = ((next_like, (at, wait)), (knows, refl))

    enters : (callee : ℕ) (c c' : PlacedLines) (words : List ℕ) (b : ℕ → Option ℕ) (olds news : List (Frame PlacedLine))
        → slice_get q callee ≡ Some c → slice_get q' callee ≡ Some c' → IsAtSame callee c.code c'.code c.code c'.code
        → AllWait q q' olds news
        → Knows (passed 0 words) b
        → StandsFor {W = W} q q' IsAtSame (placed_goes (placed_entered callee c) olds (passed 0 words) shared) (placed_goes
        (placed_entered callee c') news b shared)
    enters callee c c' words b olds news is is' begins waits knows =
        let entered : IsLike q q' (placed_entered callee c) (placed_entered callee c')
        = record {
          there = (c, (is, refl));
          there' = (c', (is', refl));
          function = refl;
          cells = empty_knows empty;
          held = refl;
          held_cells = tt;
        } in
        ((entered, (begins, waits)), (knows, refl))

    -- a call
    calls_both : (callee : ℕ) (args : List Operand) (into : Option Operand) (words : List ℕ)
        → StandsFor q q' IsAtSame (placed_acts m depth q on fs known shared (Call callee) args into words)
        (placed_acts m depth q' on' gs known' shared (Call callee) args into words)
    calls_both callee args into words =
        let waits : Frame PlacedLine = record on { into = awaited into } in
        let waits' : Frame PlacedLine = record on' { into = awaited into } in
        let next : PlacedLines → PlacedTurn H W = λ c. placed_goes (placed_entered callee c) (waits ∷ fs) (passed 0 words) shared in
        let next' : PlacedLines → PlacedTurn H W = λ c. placed_goes (placed_entered callee c) (waits' ∷ gs)
        (passed 0 words) shared in
        let waiting : AllWait q q' (waits ∷ fs) (waits' ∷ gs)
        = (
          like_on q q' f g on.code on'.code (awaited into) (awaited into) like,
          (at, (refl, wait)),
        ) in
        let long : length (on' ∷ gs) ≡ length (on ∷ fs) = ap suc (wait_length q q' fs gs wait) in
        both_go q q' IsAtSame (slice_get q callee) (slice_get q' callee)
        (λ c. cond (nat_le depth (length (on ∷ fs))) (ended m.stack_full shared) (next c))
        (λ c. cond (nat_le depth (length (on' ∷ gs))) (ended m.stack_full shared) (next' c))
        (λ c is.
        let there = callee_both q q' callee c all is in
        let begins : IsAtSame callee c.code there.0.code c.code there.0.code = there.2 in (
          there.0,
          there.1,
          subst (λ (n : ℕ). StandsFor q q' IsAtSame (cond (nat_le depth (length (on ∷ fs))) (ended m.stack_full shared) (next c))
              (cond (nat_le depth n) (ended m.stack_full shared) (next' there.0))) (sym long)
              (cond_go q q' IsAtSame (nat_le depth (length (on ∷ fs))) (ended m.stack_full shared) (next c)
              (ended m.stack_full shared) (next' there.0) (refl, refl)
              (enters callee c there.0 words (passed 0 words) (waits ∷ fs) (waits' ∷ gs) is there.1 begins waiting
              (λ x word is_word. is_word))),
        ))

    -- a test of room
    has_room : StandsFor q q' IsAtSame (cond (nat_le depth (length (on ∷ fs))) (ended m.stack_full shared) (placed_goes on fs known shared))
        (cond (nat_le depth (length (on' ∷ gs))) (ended m.stack_full shared) (placed_goes on' gs known' shared))
    has_room =
        let full : PlacedTurn H W = ended m.stack_full shared in
        let next : PlacedTurn H W = placed_goes on fs known shared in
        let next' : PlacedTurn H W = placed_goes on' gs known' shared in
        subst (λ (n : ℕ). StandsFor q q' IsAtSame (cond (nat_le depth (length (on ∷ fs))) full next)
        (cond (nat_le depth n) full next')) (sym (ap suc (wait_length q q' fs gs wait)))
        (cond_go q q' IsAtSame (nat_le depth (length (on ∷ fs))) full next full next' (refl, refl) (stays known known' shared more))

    -- a tail call
    ends_in : (callee : ℕ) (args : List Operand) (into : Option Operand) (words : List ℕ)
        → StandsFor q q' IsAtSame (placed_acts m depth q on fs known shared (TailCall callee) args into words)
        (placed_acts m depth q' on' gs known' shared (TailCall callee) args into words)
    ends_in callee args into words =
        let next : PlacedLines → PlacedTurn H W = λ c. placed_goes (placed_entered callee c) fs (passed 0 words) shared in
        let next' : PlacedLines → PlacedTurn H W = λ c. placed_goes (placed_entered callee c) gs (passed 0 words) shared in
        held_go q q' IsAtSame f.held g.held (or_stuck (slice_get q callee) next) (or_stuck (slice_get q' callee) next') like.held
        (λ none. both_go q q' IsAtSame (slice_get q callee) (slice_get q' callee) next next'
        (λ c is.
        let there = callee_both q q' callee c all is in (
          there.0,
          there.1,
          enters callee c there.0 words (passed 0 words) fs gs is there.1 there.2 wait
              (λ x word is_word. is_word),
        )))

    -- a return
    gives_back : (args : List Operand) (into : Option Operand) (words : List ℕ)
        → StandsFor q q' IsAtSame (placed_acts m depth q on fs known shared Return args into words)
        (placed_acts m depth q' on' gs known' shared Return args into words)
    gives_back args into words =
        let next : List (Frame PlacedLine) → PlacedTurn H W = λ frames. or_stuck (result_of words)
        (λ result. placed_returns m frames shared result) in
        held_go q q' IsAtSame f.held g.held (next fs) (next gs) like.held
        (λ none. same_go q q' IsAtSame (result_of words) (λ result. placed_returns m fs shared result)
        (λ result. placed_returns m gs shared result)
        (λ result is. returned shared fs gs result wait))

    -- a routine
    left_both : (took : Bool) (left : List (Frame PlacedLine)) → taken_if took (on ∷ fs) ≡ Some left
        → Taken (FramesStand q q' IsAtSame) (taken_if took (on' ∷ gs)) left
    left_both true left is =
        taken_both q q' (FramesStand q q' IsAtSame) on on' fs gs next_like (λ k ks after. (after, (at, wait))) (λ l l' waits.
        (next_like, (at, waits)))
        (λ l is_l. taken_wait q q' fs gs l wait is_l) left is
    left_both false left is =
        let stand : FramesStand q q' IsAtSame (on ∷ fs) (on' ∷ gs) = (next_like, (at, wait)) in
        (on' ∷ gs, (refl, subst (λ (l : List (Frame PlacedLine)). FramesStand q q' IsAtSame l (on' ∷ gs)) (same_some _ _ is) stand))

    served : (into : Option Operand) (a b : ℕ → Option ℕ) (reply : Reply H W) → Knows a b
        → StandsFor q q' IsAtSame (placed_served into (on ∷ fs) a reply) (placed_served into (on' ∷ gs) b reply)
    served into a b (answers word next took) knows =
        both_go q q' IsAtSame (taken_if took (on ∷ fs)) (taken_if took (on' ∷ gs)) (λ left. placed_answered into word left a next)
        (λ left. placed_answered into word left b next)
        (λ left is. let there = left_both took left is in (
          there.0,
          there.1.0,
          answered into word next a b left there.0 knows
              there.1.1,
        ))
    served into a b (ends how next) knows = (refl, refl)
    served into a b fails knows = tt

    -- ---- tokens

    holding_same : (k word : ℕ) (held held' : List ℕ) → g.cells k ≡ f.cells k → SameAt held g.cells f.cells
        → holding k word held ≡ Some held'
        → SameAt held' g.cells f.cells
    holding_same k word held held' same all_same is = by (is_among k held) (word == 0) is
      where
        by : (among null : Bool) → cond among None (cond null (Some held) (Some (k ∷ held))) ≡ Some held'
            → SameAt held' g.cells f.cells
        by true null is = cc is
        by false true is = subst (λ (h : List ℕ). SameAt h g.cells f.cells) (same_some held held' is) all_same
        by false false is = subst (λ (h : List ℕ). SameAt h g.cells f.cells) (same_some (k ∷ held) held' is) (same, all_same)

    off_same : (k : ℕ) (held held' : List ℕ) → SameAt held g.cells f.cells → off_top k held ≡ Some held'
        → SameAt held' g.cells f.cells
    off_same k [] held' all_same is = cc is
    off_same k (newest ∷ held) held' all_same is = by (newest == k) is
      where
        by : (here : Bool) → cond here (Some held) None ≡ Some held' → SameAt held' g.cells f.cells
        by true is = subst (λ (h : List ℕ). SameAt h g.cells f.cells) (same_some held held' is) all_same.1
        by false is = cc is

    unholding_same : (k word : ℕ) (held held' : List ℕ) → SameAt held g.cells f.cells → unholding k word held ≡ Some held'
        → SameAt held' g.cells f.cells
    unholding_same k word held held' all_same is = by (word == 0) (is_among k held) is
      where
        by : (null among : Bool) → cond null (cond among None (Some held)) (off_top k held) ≡ Some held'
            → SameAt held' g.cells f.cells
        by true true is = cc is
        by true false is = subst (λ (h : List ℕ). SameAt h g.cells f.cells) (same_some held held' is) all_same
        by false among is = off_same k held held' all_same is

    -- the frames with other held tokens
    held_like : (held : List ℕ) → SameAt held g.cells f.cells → IsLike q q' (record f { held = held }) (record g { held = held })
    held_like held same = record {
      there = like.there;
      there' = like.there';
      function = like.function;
      cells = like.cells;
      held = refl;
      held_cells = same;
    }

    token_goes : (action : Action) (act : ℕ → H → Option H) (into : Option Operand) (word : ℕ) (held : List ℕ)
        → SameAt held g.cells f.cells
        → StandsFor {W = W} q q' IsAtSame (or_stuck (by_token act word shared) (λ next. placed_gives into word
        (record on { held = held }) fs (kept_by action known) next))
        (or_stuck (by_token act word shared) (λ next. placed_gives into word (record on' { held = held }) gs
        (kept_by action known') next))
    token_goes action act into word held same =
        same_go q q' IsAtSame (by_token act word shared) (λ next. placed_gives into word (record on { held = held }) fs
        (kept_by action known) next)
        (λ next. placed_gives into word (record on' { held = held }) gs (kept_by action known') next)
        (λ next is. gives IsAtSame (record f { held = held }) (record g { held = held }) fs gs (kept_by action known)
        (kept_by action known') shared rest rest' (held_like held same) wait (kept_knows action known known' more) at into word next)

    holds_both : (args : List Operand) (into : Option Operand) (words : List ℕ)
        → all_of (map (λ (arg : Operand). read_at known f.cells arg.place) args) ≡ Some words
        → StandsFor q q' IsAtSame (placed_acts m depth q on fs known shared Hold args into words)
        (placed_acts m depth q' on' gs known' shared Hold args into words)
    holds_both args into words is =
        same_go q q' IsAtSame (first_slot args) _ _ (λ k slot_is. same_go q q' IsAtSame (twice_of words) _ _ (λ word word_is.
        let token = slot_known args k words known f.cells slot_is is in
        let same : g.cells k ≡ f.cells k = like.cells k token.0 token.1 ∙ sym token.1 in
        subst (λ (h : List ℕ). StandsFor {W = W} q q' IsAtSame
        (or_stuck (holding k word f.held) (λ held. or_stuck (by_token m.hold word shared) (λ next. placed_goes
        (record on { held = held }) fs (kept_by Hold known) next)))
        (or_stuck (holding k word h) (λ held. or_stuck (by_token m.hold word shared) (λ next. placed_goes
        (record on' { held = held }) gs (kept_by Hold known') next)))) (sym like.held)
        (same_go q q' IsAtSame (holding k word f.held) _ _ (λ held held_is. token_goes Hold m.hold None word held
        (holding_same k word f.held held same like.held_cells held_is)))))

    unholds_both : (args : List Operand) (into : Option Operand) (words : List ℕ)
        → StandsFor q q' IsAtSame (placed_acts m depth q on fs known shared Unhold args into words)
        (placed_acts m depth q' on' gs known' shared Unhold args into words)
    unholds_both args into words =
        same_go q q' IsAtSame (only_slot args) _ _ (λ k slot_is. same_go q q' IsAtSame (only_of words) _ _ (λ word word_is.
        subst (λ (h : List ℕ). StandsFor {W = W} q q' IsAtSame
        (or_stuck (unholding k word f.held) (λ held. or_stuck (by_token m.unhold word shared) (λ next. placed_gives into word
        (record on { held = held }) fs (kept_by Unhold known) next)))
        (or_stuck (unholding k word h) (λ held. or_stuck (by_token m.unhold word shared) (λ next. placed_gives into word
        (record on' { held = held }) gs (kept_by Unhold known') next)))) (sym like.held)
        (same_go q q' IsAtSame (unholding k word f.held) _ _ (λ held held_is. token_goes Unhold m.unhold into word held
        (unholding_same k word f.held held like.held_cells held_is)))))

    -- ---- an action

    pub acts : (action : Action) (args : List Operand) (into : Option Operand) (words : List ℕ)
        → all_of (map (λ (arg : Operand). read_at known f.cells arg.place) args) ≡ Some words
        → StandsFor q q' IsAtSame (placed_acts m depth q on fs known shared action args into words)
        (placed_acts m depth q' on' gs known' shared action args into words)
    acts (Compute operation) args into words is =
        computes IsAtSame f g fs gs known known' shared rest rest' like wait more at operation args into words
    acts (Label l) args into words is = stays known known' shared more
    acts (Jump l) args into words is = jumps l
    acts (Branch condition l) args into words is =
        same_go q q' IsAtSame (m.holds condition words) (λ taken. cond taken (placed_jumps l on fs known shared)
        (placed_goes on fs known shared))
        (λ taken. cond taken (placed_jumps l on' gs known' shared) (placed_goes on' gs known' shared))
        (λ taken is_taken. cond_go q q' IsAtSame taken (placed_jumps l on fs known shared) (placed_goes on fs known shared)
        (placed_jumps l on' gs known' shared) (placed_goes on' gs known' shared) (jumps l) (stays known known' shared more))
    acts (Call callee) args into words is = calls_both callee args into words
    acts (TailCall callee) args into words is = ends_in callee args into words
    acts Return args into words is = gives_back args into words
    acts (Routine routine) args into words is =
        let newest : top (on' ∷ gs) ≡ top (on ∷ fs) = top_same q q' on on' fs gs next_like wait in
        subst (λ (o : Option ℕ). StandsFor q q' IsAtSame (placed_served into (on ∷ fs) (kept_by (Routine routine) known)
        (m.serve routine words (top (on ∷ fs)) shared))
        (placed_served into (on' ∷ gs) (kept_by (Routine routine) known') (m.serve routine words o shared))) (sym newest)
        (served into (kept_by (Routine routine) known) (kept_by (Routine routine) known') (m.serve routine words (top
        (on ∷ fs)) shared)
        (kept_knows (Routine routine) known known' more))
    acts Hold args into words is = holds_both args into words is
    acts Unhold args into words is = unholds_both args into words
    acts Room args into words is = has_room
