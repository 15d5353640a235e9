-- The frames of both machines: their number, what they hold, and what becomes of them.
use Rattle.std.proofs.Common.{◌≡◌, ◌==◌, ◌<◌, ℕ, suc, List, [], ◌∷◌, Option, Some, None, Bool, true, false, cond}
use Rattle.std.proofs.Common.{length, refl, sym, ap, ◌∙◌, subst, option_map}
use Rattle.rv_isa.specs.AsmCode.{Line, Lines}
use Rattle.rv_isa.specs.Frames.{Frame, put, only_of, twice_of, received, top_in, top, taken_in, top_taken, taken_if}
use Rattle.rv_isa.specs.Frames.{is_among, holding, off_top, unholding}
use Rattle.rv_isa.specs.ValueBounds.{AreValuesBelow}
use Rattle.rv_inline.specs.Relation.{SameBelow, IsLike, AllWait, FramesStand}
use Rattle.rv_inline.proofs.FrameValues.{same_some, same_put}

-- frames stay alike, whatever code is left of them and wherever a result goes
pub like_on : {q q' : List Lines} {base : ℕ} {f g : Frame Line} (code code' : List Line) (into into' : Option ℕ)
    (cells cells' : ℕ → Option ℕ) (held held' : List ℕ) → IsLike q q' base f g → SameBelow base cells cells' → held' ≡ held
    → AreValuesBelow base held
    → IsLike q q' base (record f { code = code; cells = cells; held = held; into = into })
    (record g { code = code'; cells = cells'; held = held'; into = into' })
like_on code code' into into' cells cells' held held' like same same_held below = record {
  old = like.old;
  new = like.new;
  old_is = like.old_is;
  new_is = like.new_is;
  is = like.is;
  whole = like.whole;
  whole' = like.whole';
  function = like.function;
  cells = same;
  held = same_held;
  held_below = below;
}

pub wait_length : (q q' : List Lines) (fs gs : List (Frame Line)) → AllWait q q' fs gs → length gs ≡ length fs
wait_length q q' [] [] wait = refl
wait_length q q' [] (g ∷ gs) wait = absurd wait
wait_length q q' (f ∷ fs) [] wait = absurd wait
wait_length q q' (f ∷ fs) (g ∷ gs) wait = ap suc (wait_length q q' fs gs wait.1)

-- ---- held tokens

top_in_same : (base : ℕ) (held : List ℕ) (a b : ℕ → Option ℕ) (o o' : Option ℕ) → AreValuesBelow base held → SameBelow base a b
    → o' ≡ o → top_in held b o' ≡ top_in held a o
top_in_same base [] a b o o' below same under = under
top_in_same base (k ∷ ks) a b o o' below same under = same k below.0

pub top_one : (q q' : List Lines) (base : ℕ) (f g : Frame Line) (o o' : Option ℕ) → IsLike q q' base f g → o' ≡ o
    → top_in g.held g.cells o' ≡ top_in f.held f.cells o
top_one q q' base f g o o' like under =
    ap (λ (held : List ℕ). top_in held g.cells o') like.held
    ∙ top_in_same base f.held f.cells g.cells o o' like.held_below like.cells under

top_wait : (q q' : List Lines) (fs gs : List (Frame Line)) → AllWait q q' fs gs → top gs ≡ top fs
top_wait q q' [] [] wait = refl
top_wait q q' [] (g ∷ gs) wait = absurd wait
top_wait q q' (f ∷ fs) [] wait = absurd wait
top_wait q q' (f ∷ fs) (g ∷ gs) wait =
    top_one q q' wait.0.0 f g (top fs) (top gs) wait.0.1.0 (top_wait q q' fs gs wait.1)

-- the newest held token is the same
pub top_same : (q q' : List Lines) (base : ℕ) (f g : Frame Line) (fs gs : List (Frame Line)) → IsLike q q' base f g
    → AllWait q q' fs gs → top (g ∷ gs) ≡ top (f ∷ fs)
top_same q q' base f g fs gs like wait = top_one q q' base f g (top fs) (top gs) like (top_wait q q' fs gs wait)

-- what is held is named by the code
pub holding_below : (base cell word : ℕ) (held left : List ℕ) → cell < base → AreValuesBelow base held
    → holding cell word held ≡ Some left → AreValuesBelow base left
holding_below base cell word held left small below is = by (is_among cell held) (word == 0) is
  where
    by : (among null : Bool) → cond among None (cond null (Some held) (Some (cell ∷ held))) ≡ Some left → AreValuesBelow base left
    by true null at = cc at
    by false true at = subst (AreValuesBelow base) (same_some held left at) below
    by false false at = subst (AreValuesBelow base) (same_some (cell ∷ held) left at) (small, below)

off_below : (base cell : ℕ) (held left : List ℕ) → AreValuesBelow base held → off_top cell held ≡ Some left
    → AreValuesBelow base left
off_below base cell [] left below is = cc is
off_below base cell (newest ∷ held) left below is = by (newest == cell) is
  where
    by : (here : Bool) → cond here (Some held) None ≡ Some left → AreValuesBelow base left
    by true at = subst (AreValuesBelow base) (same_some held left at) below.1
    by false at = cc at

pub unholding_below : (base cell word : ℕ) (held left : List ℕ) → AreValuesBelow base held → unholding cell word held ≡ Some left
    → AreValuesBelow base left
unholding_below base cell word held left below is = by (word == 0) (is_among cell held) is
  where
    by : (null among : Bool) → cond null (cond among None (Some held)) (off_top cell held) ≡ Some left → AreValuesBelow base left
    by true true at = cc at
    by true false at = subst (AreValuesBelow base) (same_some held left at) below
    by false among at = off_below base cell held left below at

pub only_below : (base value : ℕ) (values : List ℕ) → AreValuesBelow base values → only_of values ≡ Some value → value < base
only_below base value [] below is = cc is
only_below base value (v ∷ []) below is = let same : v ≡ value = same_some v value is in subst (λ n. n < base) same below.0
only_below base value (v ∷ w ∷ more) below is = cc is

twice_by : (base value v : ℕ) (same : Bool) → v < base → cond same (Some v) None ≡ Some value → value < base
twice_by base value v true small is = let equal : v ≡ value = same_some v value is in subst (λ n. n < base) equal small
twice_by base value v false small is = cc is

pub twice_below : (base value : ℕ) (values : List ℕ) → AreValuesBelow base values → twice_of values ≡ Some value → value < base
twice_below base value [] below is = cc is
twice_below base value (v ∷ []) below is = cc is
twice_below base value (v ∷ w ∷ []) below is = twice_by base value v (v == w) below.0 is
twice_below base value (v ∷ w ∷ x ∷ more) below is = cc is

-- ---- the newest token is taken

some_mapped : (f : Frame Line) (o : Option (List (Frame Line))) (left : List (Frame Line)) → option_map (λ later. f ∷ later) o ≡ Some left
    → (later : List (Frame Line)) × ((o ≡ Some later) × (f ∷ later ≡ left))
some_mapped f None left is = cc is
some_mapped f (Some later) left is = (later, (refl, same_some (f ∷ later) left is))

-- the frames from which it was taken
abbrev Taken : (List (Frame Line) → List (Frame Line) → Type 0) → Option (List (Frame Line)) → List (Frame Line) → Type 0
Taken Stand o left = (left' : List (Frame Line)) × ((o ≡ Some left') × Stand left left')

module _ (q q' : List Lines) (Stand : List (Frame Line) → List (Frame Line) → Type 0) (base : ℕ) (f g : Frame Line)
    (fs gs : List (Frame Line)) (like : IsLike q q' base f g)
    (first : (k : ℕ) (ks : List ℕ) → IsLike q q' base (record f { cells = put k (Some 0) f.cells; held = ks })
    (record g { cells = put k (Some 0) g.cells; held = ks })
    → Stand (record f { cells = put k (Some 0) f.cells; held = ks } ∷ fs) (record g { cells = put k (Some 0) g.cells; held = ks } ∷ gs))
    (later : (left left' : List (Frame Line)) → AllWait q q' left left' → Stand (f ∷ left) (g ∷ left'))
    (below : (left : List (Frame Line)) → top_taken fs ≡ Some left → Taken (AllWait q q') (top_taken gs) left) where
  taken_from : (held : List ℕ) → f.held ≡ held → (left : List (Frame Line)) → taken_in held f fs (top_taken fs) ≡ Some left
      → Taken Stand (taken_in held g gs (top_taken gs)) left
  taken_from [] held_is left is =
      let rest = some_mapped f (top_taken fs) left is in
      let under = below rest.0 rest.1.0 in (
        g ∷ under.0,
        (
          ap (option_map (λ later. g ∷ later)) under.1.0,
          subst (λ (l : List (Frame Line)). Stand l (g ∷ under.0)) rest.1.1 (later rest.0 under.0 under.1.1),
        ),
      )
  taken_from (k ∷ ks) held_is left is =
      let new : List (Frame Line) = record g { cells = put k (Some 0) g.cells; held = ks } ∷ gs in
      let small : AreValuesBelow base (k ∷ ks) = subst (AreValuesBelow base) held_is like.held_below in (
        new,
        (
          refl,
          subst (λ (l : List (Frame Line)). Stand l new) (same_some _ _ is) (first k ks
              (like_on f.code g.code f.into g.into (put k (Some 0) f.cells) (put k (Some 0) g.cells) ks ks like
              (same_put base k (Some 0) f.cells g.cells like.cells) refl small.1)),
        ),
      )

  taken_both : (left : List (Frame Line)) → top_taken (f ∷ fs) ≡ Some left → Taken Stand (top_taken (g ∷ gs)) left
  taken_both left is =
      subst (λ (held : List ℕ). Taken Stand (taken_in held g gs (top_taken gs)) left) (sym like.held)
      (taken_from f.held refl left is)

taken_wait : (q q' : List Lines) (fs gs left : List (Frame Line)) → AllWait q q' fs gs → top_taken fs ≡ Some left
    → Taken (AllWait q q') (top_taken gs) left
taken_wait q q' [] gs left wait is = cc is
taken_wait q q' (f ∷ fs) [] left wait is = absurd wait
taken_wait q q' (f ∷ fs) (g ∷ gs) left wait is =
    taken_both q q' (AllWait q q') wait.0.0 f g fs gs wait.0.1.0 (λ k ks like. ((wait.0.0, (like, wait.0.1.1)), wait.1))
    (λ l l' waits. ((wait.0.0, (wait.0.1.0, wait.0.1.1)), waits)) (λ l is_l. taken_wait q q' fs gs l wait.1 is_l) left is

taken_stand : (q q' : List Lines) (fs gs left : List (Frame Line)) → FramesStand q q' fs gs → top_taken fs ≡ Some left
    → Taken (FramesStand q q') (top_taken gs) left
taken_stand q q' [] gs left stand is = cc is
taken_stand q q' (f ∷ fs) [] left stand is = absurd stand
taken_stand q q' (f ∷ fs) (g ∷ gs) left stand is =
    taken_both q q' (FramesStand q q') stand.0.0 f g fs gs stand.0.1.0 (λ k ks like. ((stand.0.0, (like, stand.0.1.1)), stand.1))
    (λ l l' waits. ((stand.0.0, (stand.0.1.0, stand.0.1.1)), waits)) (λ l is_l. taken_wait q q' fs gs l stand.1 is_l) left is

pub taken_if_stand : (q q' : List Lines) (took : Bool) (fs gs left : List (Frame Line)) → FramesStand q q' fs gs
    → taken_if took fs ≡ Some left
    → (left' : List (Frame Line)) × ((taken_if took gs ≡ Some left') × FramesStand q q' left left')
taken_if_stand q q' true fs gs left stand is = taken_stand q q' fs gs left stand is
taken_if_stand q q' false fs gs left stand is =
    (gs, (refl, subst (λ (l : List (Frame Line)). FramesStand q q' l gs) (same_some fs left is) stand))

-- ---- results

pub received_both : (base : ℕ) (into result : Option ℕ) (a b cells : ℕ → Option ℕ) → SameBelow base a b
    → received into result a ≡ Some cells
    → (cells' : ℕ → Option ℕ) × ((received into result b ≡ Some cells') × SameBelow base cells cells')
received_both base None result a b cells same is =
    (b, (refl, subst (λ (c : ℕ → Option ℕ). SameBelow base c b) (same_some a cells is) same))
received_both base (Some at) None a b cells same is = cc is
received_both base (Some at) (Some word) a b cells same is =
    let new : ℕ → Option ℕ = put at (Some word) b in (
      new,
      (
        refl,
        subst (λ (c : ℕ → Option ℕ). SameBelow base c new) (same_some (put at (Some word) a) cells is)
            (same_put base at (Some word) a b same),
      ),
    )
