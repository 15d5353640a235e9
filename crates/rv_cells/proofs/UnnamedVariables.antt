-- Code that does not name a variable is marked and numbered where that variable is not bound.
use Rattle.std.proofs.Common.{◌≡◌, ℕ, ◌==◌, ◌||◌, ◌⊎◌, inl, inr, Bool, true, false, List, [], ◌∷◌, ◌++◌, map, refl, sym, ap, subst}
use Rattle.std.proofs.Common.{◌∙◌}
use Rattle.std.proofs.lemmas.Bool.{or_cases, or_left, or_right, or_parts, or_from, eq-eqb, eqb-true}
use Rattle.kk_syntax.specs.Shapes.{is_among}
use Rattle.kk_core.specs.Sizes.{AreBound}
use Rattle.kk_counted.specs.CountedCodes.{Counted, give, tail_call, case, compute, inside, read, open_cell, if_unique, dup, drop}
use Rattle.kk_counted.specs.CountedCodes.{CountedArms, no_arm, arm}
use Rattle.kk_counted.specs.Lowerable.{AreBelow, AreNumbered, AreArmsNumbered}
use Rattle.kk_counted.specs.Marks.{CellMarks, parameter_marks, result_mark, HaveMarks, IsFormMarked, Opens, HasMark, HaveMark}
use Rattle.kk_counted.specs.TokenedCodes.{Tokened, TokenedArms}
use Rattle.kk_counted.specs.TokenedForms.{TokenedMove, plug_tokened, tokened_code, tokened_last_code, tokened_move}
use Rattle.kk_counted.specs.declared.tokened.TokenedBlock.{TokenedBlock}
use Rattle.kk_counted.specs.declared.tokened.TokenedStep.{TokenedStep}
use Rattle.kk_counted.specs.declared.tokened.TokenedStep.TheVariants as OfStep
use Rattle.kk_counted.specs.BareForms.{bare, bare_arms}
use Rattle.kk_counted.proofs.TokenedViews.{tokened_block_is, drop_step}
use Rattle.rv_cells.specs.declared.compare.Branching.{Branching}
use Rattle.rv_cells.specs.ComparisonBranch.{names, name_arms, names_behind, arms_name_behind, steps_name, IsTested, IsCompared}
use Rattle.rv_cells.specs.ComparisonBranch.{IsBranchBetween}
use Rattle.rv_cells.proofs.BoundVariables.{AreWithin, below_among}

-- ---- lists

-- what is bound by one list is so by another, but for one variable
abbrev pub IsSpared : ℕ → List ℕ → List ℕ → Type 0
IsSpared x more bound = (y : ℕ) → (y == x) ≡ false → is_among more y ≡ true → is_among bound y ≡ true

-- the first one is spared
pub first_spared : (x : ℕ) (bound : List ℕ) → IsSpared x (x ∷ bound) bound
first_spared x bound y other is = by (x == y) refl is
  where
    by : (t : Bool) → (x == y) ≡ t → (t || is_among bound y) ≡ true → is_among bound y ≡ true
    by false apart is = is
    by true same is = cc (sym other ∙ eq-eqb y x (sym (eqb-true x y same)))

-- so are more variables
spared_more : (x z : ℕ) (more bound : List ℕ) → IsSpared x more bound → IsSpared x (z ∷ more) (z ∷ bound)
spared_more x z more bound spared y other is = by (or_cases (z == y) (is_among more y) is)
  where
    by : ((z == y) ≡ true) ⊎ (is_among more y ≡ true) → ((z == y) || is_among bound y) ≡ true
    by (inl same) = or_left (z == y) (is_among bound y) same
    by (inr later) = or_right (z == y) (is_among bound y) (spared y other later)

spared_front : (x : ℕ) (fields more bound : List ℕ) → IsSpared x more bound → IsSpared x (fields ++ more) (fields ++ bound)
spared_front x [] more bound spared = spared
spared_front x (z ∷ fields) more bound spared =
    spared_more x z (fields ++ more) (fields ++ bound) (spared_front x fields more bound spared)

all_spared : (x : ℕ) (more bound xs : List ℕ) → IsSpared x more bound → is_among xs x ≡ false → AreBound more xs
    → AreBound bound xs
all_spared x more bound [] spared none are = tt
all_spared x more bound (y ∷ ys) spared none are =
    let parts = or_parts (y == x) (is_among ys x) none in
    (spared y parts.0 are.0, all_spared x more bound ys spared parts.1 are.1)

-- ---- marks

module _ (marks : CellMarks) (holds : ℕ → Bool) (result : Bool) (x : ℕ) where
  mutual
    pub marked_without : (code : Counted) (more bound : List ℕ) (given : Bool) → IsSpared x more bound → names x code ≡ false
        → HasMark marks holds result more given code → HasMark marks holds result bound given code
    marked_without (give y) more bound given spared none marked = (spared y none marked.0, marked.1)
    marked_without (tail_call f arguments) more bound given spared none marked =
        (all_spared x more bound arguments spared none marked.0, marked.1)
    marked_without (case y decisions arms) more bound given spared none marked =
        let parts = or_parts (y == x) (name_arms x arms) none in
        (spared y parts.0 marked.0, arms_without arms more bound given spared parts.1 marked.1)
    marked_without (compute y form arguments rest) more bound given spared none marked =
        let parts = or_parts (is_among arguments x) (names x rest) none in (
          all_spared x more bound arguments spared parts.0 marked.0,
          (
            marked.1.0,
            marked_without rest (y ∷ more) (y ∷ bound) given (spared_more x y more bound spared) parts.1 marked.1.1,
          ),
        )
    marked_without (inside y block rest) more bound given spared none marked =
        let parts = or_parts (names x block) (names x rest) none in (
          marked_without block more bound (holds y) spared parts.0 marked.0,
          marked_without rest (y ∷ more) (y ∷ bound) given (spared_more x y more bound spared) parts.1 marked.1,
        )
    marked_without (read y c fields rest) more bound given spared none marked =
        let parts = or_parts (y == x) (names x rest) none in (
          (spared y parts.0 marked.0.0, marked.0.1),
          marked_without rest (fields ++ more) (fields ++ bound) given (spared_front x fields more bound spared) parts.1 marked.1,
        )
    marked_without (open_cell y c fields used rest) more bound given spared none marked =
        let parts = or_parts (y == x) (names x rest) none in (
          (spared y parts.0 marked.0.0, marked.0.1),
          marked_without rest (fields ++ more) (fields ++ bound) given (spared_front x fields more bound spared) parts.1 marked.1,
        )
    marked_without (if_unique y c fields used rest) more bound given spared none marked =
        let parts = or_parts (y == x) (names x rest) none in (
          (spared y parts.0 marked.0.0, marked.0.1),
          marked_without rest (fields ++ more) (fields ++ bound) given (spared_front x fields more bound spared) parts.1 marked.1,
        )
    marked_without (dup y rest) more bound given spared none marked =
        let parts = or_parts (y == x) (names x rest) none in
        (spared y parts.0 marked.0, marked_without rest more bound given spared parts.1 marked.1)
    marked_without (drop y rest) more bound given spared none marked =
        let parts = or_parts (y == x) (names x rest) none in
        (spared y parts.0 marked.0, marked_without rest more bound given spared parts.1 marked.1)

    pub arms_without : (arms : CountedArms) (more bound : List ℕ) (given : Bool) → IsSpared x more bound
        → name_arms x arms ≡ false → HaveMark marks holds result more given arms → HaveMark marks holds result bound given arms
    arms_without no_arm more bound given spared none marked = tt
    arms_without (arm body rest) more bound given spared none marked =
        let parts = or_parts (names x body) (name_arms x rest) none in (
          marked_without body more bound given spared parts.0 marked.0,
          arms_without rest more bound given spared parts.1 marked.1,
        )

-- ---- uses

module _ (marks : CellMarks) (holds : ℕ → Bool) (result : Bool) where
  -- As HasMark, but a variable of a type without cells may be given up where it is not bound: that is no line.
  abbrev mutual
    pub HasUses : List ℕ → Bool → Counted → Type 0
    HasUses bound given (give x) = (is_among bound x ≡ true) × (holds x ≡ given)
    HasUses bound given (tail_call f arguments) =
        AreBound bound arguments × (HaveMarks holds arguments (parameter_marks marks f) × (result_mark marks f ≡ result))
    HasUses bound given (case x decisions arms) = (is_among bound x ≡ true) × HaveUses bound given arms
    HasUses bound given (compute x form arguments rest) =
        AreBound bound arguments × (IsFormMarked marks holds form arguments (holds x) × HasUses (x ∷ bound) given rest)
    HasUses bound given (inside x block rest) = HasUses bound (holds x) block × HasUses (x ∷ bound) given rest
    HasUses bound given (read x c fields rest) = Opens marks holds bound x c fields × HasUses (fields ++ bound) given rest
    HasUses bound given (open_cell x c fields used rest) = Opens marks holds bound x c fields × HasUses (fields ++ bound) given rest
    HasUses bound given (if_unique x c fields used rest) = Opens marks holds bound x c fields × HasUses (fields ++ bound) given rest
    HasUses bound given (dup x rest) = (is_among bound x ≡ true) × HasUses bound given rest
    HasUses bound given (drop x rest) = (holds x ≡ true → is_among bound x ≡ true) × HasUses bound given rest

    pub HaveUses : List ℕ → Bool → CountedArms → Type 0
    HaveUses bound given no_arm = Unit {0}
    HaveUses bound given (arm body rest) = HasUses bound given body × HaveUses bound given rest

  mutual
    pub uses_marked : (code : Counted) (bound : List ℕ) (given : Bool) → HasMark marks holds result bound given code
        → HasUses bound given code
    uses_marked (give x) bound given marked = marked
    uses_marked (tail_call f arguments) bound given marked = marked
    uses_marked (case x decisions arms) bound given marked = (marked.0, arms_use_marked arms bound given marked.1)
    uses_marked (compute x form arguments rest) bound given marked =
        (marked.0, (marked.1.0, uses_marked rest (x ∷ bound) given marked.1.1))
    uses_marked (inside x block rest) bound given marked =
        (uses_marked block bound (holds x) marked.0, uses_marked rest (x ∷ bound) given marked.1)
    uses_marked (read x c fields rest) bound given marked = (marked.0, uses_marked rest (fields ++ bound) given marked.1)
    uses_marked (open_cell x c fields used rest) bound given marked =
        (marked.0, uses_marked rest (fields ++ bound) given marked.1)
    uses_marked (if_unique x c fields used rest) bound given marked =
        (marked.0, uses_marked rest (fields ++ bound) given marked.1)
    uses_marked (dup x rest) bound given marked = (marked.0, uses_marked rest bound given marked.1)
    uses_marked (drop x rest) bound given marked = ((λ is. marked.0), uses_marked rest bound given marked.1)

    arms_use_marked : (arms : CountedArms) (bound : List ℕ) (given : Bool) → HaveMark marks holds result bound given arms
        → HaveUses bound given arms
    arms_use_marked no_arm bound given marked = tt
    arms_use_marked (arm body rest) bound given marked =
        (uses_marked body bound given marked.0, arms_use_marked rest bound given marked.1)

-- the same without a variable that has no cells: it may be given up first
module _ (marks : CellMarks) (holds : ℕ → Bool) (result : Bool) (x : ℕ) (plain : holds x ≡ false) where
  spared_held : (y : ℕ) → holds y ≡ true → (y == x) ≡ false
  spared_held y is = by (y == x) refl
    where
      by : (t : Bool) → (y == x) ≡ t → t ≡ false
      by false apart = refl
      by true same = cc (sym is ∙ ap holds (eqb-true y x same) ∙ plain)

  mutual
    apart_uses : (code : Counted) (more bound : List ℕ) (given : Bool) → IsSpared x more bound → names x code ≡ false
        → HasUses marks holds result more given code → HasUses marks holds result bound given code
    apart_uses (give y) more bound given spared none marked = (spared y none marked.0, marked.1)
    apart_uses (tail_call f arguments) more bound given spared none marked =
        (all_spared x more bound arguments spared none marked.0, marked.1)
    apart_uses (case y decisions arms) more bound given spared none marked =
        let parts = or_parts (y == x) (name_arms x arms) none in
        (spared y parts.0 marked.0, arms_apart arms more bound given spared parts.1 marked.1)
    apart_uses (compute y form arguments rest) more bound given spared none marked =
        let parts = or_parts (is_among arguments x) (names x rest) none in (
          all_spared x more bound arguments spared parts.0 marked.0,
          (
            marked.1.0,
            apart_uses rest (y ∷ more) (y ∷ bound) given (spared_more x y more bound spared) parts.1 marked.1.1,
          ),
        )
    apart_uses (inside y block rest) more bound given spared none marked =
        let parts = or_parts (names x block) (names x rest) none in (
          apart_uses block more bound (holds y) spared parts.0 marked.0,
          apart_uses rest (y ∷ more) (y ∷ bound) given (spared_more x y more bound spared) parts.1 marked.1,
        )
    apart_uses (read y c fields rest) more bound given spared none marked =
        let parts = or_parts (y == x) (names x rest) none in (
          (spared y parts.0 marked.0.0, marked.0.1),
          apart_uses rest (fields ++ more) (fields ++ bound) given (spared_front x fields more bound spared) parts.1 marked.1,
        )
    apart_uses (open_cell y c fields used rest) more bound given spared none marked =
        let parts = or_parts (y == x) (names x rest) none in (
          (spared y parts.0 marked.0.0, marked.0.1),
          apart_uses rest (fields ++ more) (fields ++ bound) given (spared_front x fields more bound spared) parts.1 marked.1,
        )
    apart_uses (if_unique y c fields used rest) more bound given spared none marked =
        let parts = or_parts (y == x) (names x rest) none in (
          (spared y parts.0 marked.0.0, marked.0.1),
          apart_uses rest (fields ++ more) (fields ++ bound) given (spared_front x fields more bound spared) parts.1 marked.1,
        )
    apart_uses (dup y rest) more bound given spared none marked =
        let parts = or_parts (y == x) (names x rest) none in
        (spared y parts.0 marked.0, apart_uses rest more bound given spared parts.1 marked.1)
    apart_uses (drop y rest) more bound given spared none marked =
        let parts = or_parts (y == x) (names x rest) none in
        ((λ is. spared y parts.0 (marked.0 is)), apart_uses rest more bound given spared parts.1 marked.1)

    arms_apart : (arms : CountedArms) (more bound : List ℕ) (given : Bool) → IsSpared x more bound → name_arms x arms ≡ false
        → HaveUses marks holds result more given arms → HaveUses marks holds result bound given arms
    arms_apart no_arm more bound given spared none marked = tt
    arms_apart (arm body rest) more bound given spared none marked =
        let parts = or_parts (names x body) (name_arms x rest) none in (
          apart_uses body more bound given spared parts.0 marked.0,
          arms_apart rest more bound given spared parts.1 marked.1,
        )

  uses_behind : (code : Tokened) (more bound : List ℕ) (given : Bool) → IsSpared x more bound → names_behind x code ≡ false
      → HasUses marks holds result more given (bare code) → HasUses marks holds result bound given (bare code)
  uses_behind (Tokened.drop y rest) more bound given spared none marked =
      ((λ is. spared y (spared_held y is) (marked.0 is)), apart_uses (bare rest) more bound given spared none marked.1)
  uses_behind (Tokened.give y) more bound given spared none marked =
      apart_uses (bare (Tokened.give y)) more bound given spared none marked
  uses_behind (Tokened.tail_call f arguments) more bound given spared none marked =
      apart_uses (bare (Tokened.tail_call f arguments)) more bound given spared none marked
  uses_behind (Tokened.case y decisions arms) more bound given spared none marked =
      apart_uses (bare (Tokened.case y decisions arms)) more bound given spared none marked
  uses_behind (Tokened.compute y form arguments others rest) more bound given spared none marked =
      apart_uses (bare (Tokened.compute y form arguments others rest)) more bound given spared none marked
  uses_behind (Tokened.inside y block rest) more bound given spared none marked =
      apart_uses (bare (Tokened.inside y block rest)) more bound given spared none marked
  uses_behind (Tokened.read y c fields rest) more bound given spared none marked =
      apart_uses (bare (Tokened.read y c fields rest)) more bound given spared none marked
  uses_behind (Tokened.open_cell y c fields used z rest) more bound given spared none marked =
      apart_uses (bare (Tokened.open_cell y c fields used z rest)) more bound given spared none marked
  uses_behind (Tokened.if_unique y c fields used z rest) more bound given spared none marked =
      apart_uses (bare (Tokened.if_unique y c fields used z rest)) more bound given spared none marked
  uses_behind (Tokened.dup y rest) more bound given spared none marked =
      apart_uses (bare (Tokened.dup y rest)) more bound given spared none marked
  uses_behind (Tokened.fill y z c first arguments kept others rest) more bound given spared none marked =
      apart_uses (bare (Tokened.fill y z c first arguments kept others rest)) more bound given spared none marked
  uses_behind (Tokened.free y rest) more bound given spared none marked =
      apart_uses (bare (Tokened.free y rest)) more bound given spared none marked
  uses_behind (Tokened.null y rest) more bound given spared none marked =
      apart_uses (bare (Tokened.null y rest)) more bound given spared none marked
  uses_behind (Tokened.move to of rest) more bound given spared none marked =
      apart_uses (bare (Tokened.move to of rest)) more bound given spared none marked
  uses_behind (Tokened.hold y rest) more bound given spared none marked =
      apart_uses (bare (Tokened.hold y rest)) more bound given spared none marked
  uses_behind (Tokened.unhold y rest) more bound given spared none marked =
      apart_uses (bare (Tokened.unhold y rest)) more bound given spared none marked
  uses_behind (Tokened.if_token y there absent) more bound given spared none marked =
      apart_uses (bare (Tokened.if_token y there absent)) more bound given spared none marked

  pub arms_use_behind : (arms : TokenedArms) (more bound : List ℕ) (given : Bool) → IsSpared x more bound
      → arms_name_behind x arms ≡ false → HaveUses marks holds result more given (bare_arms arms)
      → HaveUses marks holds result bound given (bare_arms arms)
  arms_use_behind TokenedArms.no_arm more bound given spared none marked = tt
  arms_use_behind (TokenedArms.arm body rest) more bound given spared none marked =
      let parts = or_parts (names_behind x body) (arms_name_behind x rest) none in (
        uses_behind body more bound given spared parts.0 marked.0,
        arms_use_behind rest more bound given spared parts.1 marked.1,
      )

-- ---- numbers

-- fewer variables are below a number, too
below_fewer : (n : ℕ) (more bound : List ℕ) → AreWithin bound more → AreBelow n more → AreBelow n bound
below_fewer n more [] within below = tt
below_fewer n more (y ∷ ys) within below = (
  below_among n more y below (within y (or_left (y == y) (is_among ys y) (eq-eqb y y refl))),
  below_fewer n more ys (λ z is. within z (or_right (y == z) (is_among ys z) is)) below,
)

within_more : (y : ℕ) (bound more : List ℕ) → AreWithin bound more → AreWithin (y ∷ bound) (y ∷ more)
within_more y bound more within z is = by (or_cases (y == z) (is_among bound z) is)
  where
    by : ((y == z) ≡ true) ⊎ (is_among bound z ≡ true) → ((y == z) || is_among more z) ≡ true
    by (inl same) = or_left (y == z) (is_among more z) same
    by (inr later) = or_right (y == z) (is_among more z) (within z later)

within_front : (fields bound more : List ℕ) → AreWithin bound more → AreWithin (fields ++ bound) (fields ++ more)
within_front [] bound more within = within
within_front (y ∷ fields) bound more within =
    within_more y (fields ++ bound) (fields ++ more) (within_front fields bound more within)

module _ (base : ℕ) where
  mutual
    pub numbered_fewer : (code : Counted) (more bound : List ℕ) → AreWithin bound more → AreNumbered base more code
        → AreNumbered base bound code
    numbered_fewer (give y) more bound within are = tt
    numbered_fewer (tail_call f arguments) more bound within are = tt
    numbered_fewer (case y decisions arms) more bound within are = arms_numbered_fewer arms more bound within are
    numbered_fewer (compute y form arguments rest) more bound within are = (
      are.0,
      (
        below_fewer y more bound within are.1.0,
        numbered_fewer rest (y ∷ more) (y ∷ bound) (within_more y bound more within) are.1.1,
      ),
    )
    numbered_fewer (inside y block rest) more bound within are = (
      are.0,
      (
        numbered_fewer block more bound within are.1.0,
        numbered_fewer rest (y ∷ more) (y ∷ bound) (within_more y bound more within) are.1.1,
      ),
    )
    numbered_fewer (read y c fields rest) more bound within are =
        (are.0, numbered_fewer rest (fields ++ more) (fields ++ bound) (within_front fields bound more within) are.1)
    numbered_fewer (open_cell y c fields used rest) more bound within are =
        (are.0, numbered_fewer rest (fields ++ more) (fields ++ bound) (within_front fields bound more within) are.1)
    numbered_fewer (if_unique y c fields used rest) more bound within are =
        (are.0, numbered_fewer rest (fields ++ more) (fields ++ bound) (within_front fields bound more within) are.1)
    numbered_fewer (dup y rest) more bound within are = numbered_fewer rest more bound within are
    numbered_fewer (drop y rest) more bound within are = numbered_fewer rest more bound within are

    pub arms_numbered_fewer : (arms : CountedArms) (more bound : List ℕ) → AreWithin bound more → AreArmsNumbered base more arms
        → AreArmsNumbered base bound arms
    arms_numbered_fewer no_arm more bound within are = tt
    arms_numbered_fewer (arm body rest) more bound within are =
        (numbered_fewer body more bound within are.0, arms_numbered_fewer rest more bound within are.1)

-- ---- steps

or_again : (a b c d : Bool) → b ≡ (c || d) → (a || b) ≡ ((a || c) || d)
or_again true b c d is = refl
or_again false b c d is = is

-- a block names what one of its steps names, or its end
pub plug_names : (x : ℕ) (moves : List TokenedMove) (last : Tokened)
    → names x (bare (plug_tokened moves last)) ≡ (steps_name x moves || names x (bare last))
plug_names x [] last = refl
plug_names x (TokenedMove.computes y form arguments others ∷ moves) last =
    or_again (is_among arguments x) _ (steps_name x moves) (names x (bare last)) (plug_names x moves last)
plug_names x (TokenedMove.runs y block ∷ moves) last =
    or_again (names x (bare block)) _ (steps_name x moves) (names x (bare last)) (plug_names x moves last)
plug_names x (TokenedMove.reads y c fields ∷ moves) last =
    or_again (y == x) _ (steps_name x moves) (names x (bare last)) (plug_names x moves last)
plug_names x (TokenedMove.opens y c fields used z ∷ moves) last =
    or_again (y == x) _ (steps_name x moves) (names x (bare last)) (plug_names x moves last)
plug_names x (TokenedMove.opens_unique y c fields used z ∷ moves) last =
    or_again (y == x) _ (steps_name x moves) (names x (bare last)) (plug_names x moves last)
plug_names x (TokenedMove.dups y ∷ moves) last =
    or_again (y == x) _ (steps_name x moves) (names x (bare last)) (plug_names x moves last)
plug_names x (TokenedMove.drops y ∷ moves) last =
    or_again (y == x) _ (steps_name x moves) (names x (bare last)) (plug_names x moves last)
plug_names x (TokenedMove.fills y z c first arguments kept others ∷ moves) last =
    or_again (is_among (first ∷ arguments) x) _ (steps_name x moves) (names x (bare last)) (plug_names x moves last)
plug_names x (TokenedMove.frees y ∷ moves) last = plug_names x moves last
plug_names x (TokenedMove.nulls y ∷ moves) last = plug_names x moves last
plug_names x (TokenedMove.moves to of ∷ moves) last = plug_names x moves last
plug_names x (TokenedMove.holds y ∷ moves) last = plug_names x moves last
plug_names x (TokenedMove.unholds y ∷ moves) last = plug_names x moves last

-- so is a block of the program
pub block_named : (block : TokenedBlock) (x : ℕ) (first last : Bool) → first ≡ steps_name x (map tokened_move block.steps.items)
    → last ≡ names x (bare (tokened_last_code block.last)) → (first || last) ≡ names x (bare (tokened_code block))
block_named block x first last first_is last_is =
    ap (λ b. b || last) first_is ∙ ap (λ b. steps_name x (map tokened_move block.steps.items) || b) last_is
    ∙ sym (plug_names x (map tokened_move block.steps.items) (tokened_last_code block.last))
    ∙ ap (λ code. names x (bare code)) (sym (tokened_block_is block))

-- Code that names a variable at most in its first step gives the variable up, or does not name it.
pub drops_or_not : (x : ℕ) (code : Tokened) → names_behind x code ≡ false
    → (names x (bare code) ≡ false) ⊎ ((rest : Tokened) × ((code ≡ Tokened.drop x rest) × (names x (bare rest) ≡ false)))
drops_or_not x (Tokened.drop y rest) none = by (y == x) refl
  where
    by : (t : Bool) → (y == x) ≡ t → (names x (bare (Tokened.drop y rest)) ≡ false)
        ⊎ ((later : Tokened) × ((Tokened.drop y rest ≡ Tokened.drop x later) × (names x (bare later) ≡ false)))
    by true same = inr (rest, (ap (λ z. Tokened.drop z rest) (eqb-true y x same), none))
    by false apart = inl (or_from (y == x) (names x (bare rest)) apart none)
drops_or_not x (Tokened.give y) none = inl none
drops_or_not x (Tokened.tail_call f arguments) none = inl none
drops_or_not x (Tokened.case y decisions arms) none = inl none
drops_or_not x (Tokened.compute y form arguments others rest) none = inl none
drops_or_not x (Tokened.inside y block rest) none = inl none
drops_or_not x (Tokened.read y c fields rest) none = inl none
drops_or_not x (Tokened.open_cell y c fields used z rest) none = inl none
drops_or_not x (Tokened.if_unique y c fields used z rest) none = inl none
drops_or_not x (Tokened.dup y rest) none = inl none
drops_or_not x (Tokened.fill y z c first arguments kept others rest) none = inl none
drops_or_not x (Tokened.free y rest) none = inl none
drops_or_not x (Tokened.null y rest) none = inl none
drops_or_not x (Tokened.move to of rest) none = inl none
drops_or_not x (Tokened.hold y rest) none = inl none
drops_or_not x (Tokened.unhold y rest) none = inl none
drops_or_not x (Tokened.if_token y there absent) none = inl none

pub block_behind : (block : TokenedBlock) (x y : ℕ) (steps : List TokenedStep)
    → map tokened_move block.steps.items ≡ TokenedMove.drops y ∷ map tokened_move steps
    → steps_name x (map tokened_move steps) ≡ false → names x (bare (tokened_last_code block.last)) ≡ false
    → names_behind x (tokened_code block) ≡ false
block_behind block x y steps steps_are first last =
    ap (names_behind x) (tokened_block_is block)
    ∙ ap (λ moves. names_behind x (plug_tokened moves (tokened_last_code block.last))) steps_are
    ∙ plug_names x (map tokened_move steps) (tokened_last_code block.last)
    ∙ ap (λ b. b || names x (bare (tokened_last_code block.last))) first ∙ last

pub first_behind : (block : TokenedBlock) (x : ℕ) (items : List TokenedStep) (step : TokenedStep) (y : ℕ)
    (steps : List TokenedStep) → items ≡ block.steps.items → items ≡ step ∷ steps → step ≡ OfStep.Drop y
    → steps_name x (map tokened_move steps) ≡ false → names x (bare (tokened_last_code block.last)) ≡ false
    → names_behind x (tokened_code block) ≡ false
first_behind block x items step y steps items_are parts step_is first last =
    block_behind block x y steps
    (ap (map tokened_move) (sym items_are ∙ parts)
    ∙ ap (λ (move : TokenedMove). move ∷ map tokened_move steps) (ap tokened_move step_is ∙ drop_step y)) first last

-- a comparison that is tested is a branch
pub between_of : (move : TokenedMove) (x : ℕ) (branch : Branching) (last : Tokened) → IsCompared move x branch
    → ((holds : ℕ → Bool) → IsTested holds x last) → (holds : ℕ → Bool) → IsBranchBetween holds move last branch
between_of (TokenedMove.computes y form arguments others) x branch last is tested holds =
    (is.1, subst (λ z. IsTested holds z last) (sym is.0) (tested holds))
between_of (TokenedMove.runs y block) x branch last is tested holds = absurd is
between_of (TokenedMove.reads y c fields) x branch last is tested holds = absurd is
between_of (TokenedMove.opens y c fields used z) x branch last is tested holds = absurd is
between_of (TokenedMove.opens_unique y c fields used z) x branch last is tested holds = absurd is
between_of (TokenedMove.dups y) x branch last is tested holds = absurd is
between_of (TokenedMove.drops y) x branch last is tested holds = absurd is
between_of (TokenedMove.fills y z c first arguments kept others) x branch last is tested holds = absurd is
between_of (TokenedMove.frees y) x branch last is tested holds = absurd is
between_of (TokenedMove.nulls y) x branch last is tested holds = absurd is
between_of (TokenedMove.moves to of) x branch last is tested holds = absurd is
between_of (TokenedMove.holds y) x branch last is tested holds = absurd is
between_of (TokenedMove.unholds y) x branch last is tested holds = absurd is
