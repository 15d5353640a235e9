-- The names that a pattern gives its variables, and which variables its openings need.
use Rattle.std.proofs.Common.{◌≡◌, ◌⊎◌, inl, inr, ℕ, ◌+◌, ◌<◌, ◌≤◌, ◌==◌, Bool, true, false, List, ◌∷◌, ◌++◌, map, refl, sym, ap, ◌∙◌, arith}
use Rattle.std.specs.Prelude.{if◌then◌else◌}
use Rattle.std.proofs.lemmas.Bool.{cases_lt}
use Rattle.kk_syntax.specs.Covered.{asked_by}
use Rattle.kk_syntax.specs.Outlines.{Outline, outline_of}
use Rattle.kk_syntax.specs.Patterns.{Pattern, anything, variable, exactly, constructor, Patterns, no_part, part}
use Rattle.kk_syntax.specs.Shapes.{is_among, without, bound, bound_all}
use Rattle.kk_syntax.specs.Trees.{Rows, no_row, row, pattern_of_row}
use Rattle.kk_core.specs.Codes.{Code}
use Rattle.kk_core.specs.Needed.{needed}
use Rattle.kk_norm.specs.Names.{Names, name_of}
use Rattle.kk_norm.specs.Normalized.{part_count, pattern_size, parts_size, numbers, opened, opened_all, pattern_names, parts_names, patterns_in}
use Rattle.kk_norm.proofs.Variables.{same_number, or_else, among_split, among_head, among_left, among_right, among_without, left_over, later_among}

-- what the rows of a match ask is what their patterns ask
pub asked_are : (of : Rows) → asked_by of ≡ map outline_of (patterns_in of)
asked_are no_row = refl
asked_are (row first rest) = ap (λ (more : List Outline). outline_of (pattern_of_row first) ∷ more) (asked_are rest)

-- ---- numbers that follow one another

-- a number lies between two, the first one included
abbrev pub Between : ℕ → ℕ → ℕ → Type 0
Between low y high = (low ≤ y) × (y < high)

number_between : (n : ℕ) (ps : Patterns) (y : ℕ) → is_among (numbers n ps) y ≡ true → Between n y (n + part_count ps)
number_between n no_part y is = absurd (let wrong : false ≡ true = is in cc)
number_between n (part first rest) y is =
    or_else (among_head n (numbers (n + 1) rest) y is) (λ same. (omega arith, omega arith))
    (λ later. let one = number_between (n + 1) rest y later.1 in (omega (arith, one.0), omega (arith, one.1)))

apart_above : (a b : ℕ) → (a ≡ b → ⊥) → a ≤ b → a + 1 ≤ b
apart_above a b other le = omega (arith, other, le)

between_number : (n : ℕ) (ps : Patterns) (y : ℕ) → is_among (numbers n ps) y ≡ false → Between n y (n + part_count ps) → ⊥
between_number n no_part y out is = omega (arith, is.0, is.1)
between_number n (part first rest) y out is = by_test (n == y) refl (λ later between. between_number (n + 1) rest y later between)
  where
    by_test : (same : Bool) → (n == y) ≡ same → (is_among (numbers (n + 1) rest) y ≡ false
        → Between (n + 1) y (n + 1 + part_count rest) → ⊥) → ⊥
    by_test true same_is behind = let one = rw same_is at out in absurd (cc)
    by_test false same_is behind =
        let other : n ≡ y → ⊥ = λ same. absurd (let one : true ≡ false
        = sym (same_number y) ∙ (ap (λ m. m == y) (sym same) ∙ same_is) in cc) in
        behind (rw same_is at out) (apart_above n y other is.0, omega (arith, is.1))

-- ---- the names of a pattern's variables

pub out_left : (xs ys : List ℕ) (x : ℕ) → is_among (xs ++ ys) x ≡ false → is_among xs x ≡ false
out_left xs ys x out = by_test (is_among xs x) refl
  where
    by_test : (b : Bool) → is_among xs x ≡ b → is_among xs x ≡ false
    by_test true is = let wrong : true ≡ false = sym (among_left xs ys x is) ∙ out in absurd (cc)
    by_test false is = is

pub out_right : (xs ys : List ℕ) (x : ℕ) → is_among (xs ++ ys) x ≡ false → is_among ys x ≡ false
out_right xs ys x out = by_test (is_among ys x) refl
  where
    by_test : (b : Bool) → is_among ys x ≡ b → is_among ys x ≡ false
    by_test true is = let wrong : true ≡ false = sym (among_right xs ys x is) ∙ out in absurd (cc)
    by_test false is = is

mutual
  -- a variable that a pattern does not bind keeps its name
  pub unbound_name : (a n : ℕ) (p : Pattern) (names : Names) (x : ℕ) → is_among (bound p) x ≡ false
      → name_of (pattern_names a n p names) x ≡ name_of names x
  unbound_name a n anything names x out = refl
  unbound_name a n (variable y) names x out = by_test (y == x) refl
    where
      by_test : (same : Bool) → (y == x) ≡ same → (if y == x then a else name_of names x) ≡ name_of names x
      by_test true same_is = let one = rw same_is at out in absurd (cc)
      by_test false same_is = rw same_is refl
  unbound_name a n (exactly value) names x out = refl
  unbound_name a n (constructor c parts) names x out = unbound_names n (n + part_count parts) parts names x out

  unbound_names : (a n : ℕ) (ps : Patterns) (names : Names) (x : ℕ) → is_among (bound_all ps) x ≡ false
      → name_of (parts_names a n ps names) x ≡ name_of names x
  unbound_names a n no_part names x out = refl
  unbound_names a n (part first rest) names x out =
      unbound_names (a + 1) (n + pattern_size first) rest (pattern_names a n first names) x
      (out_right (bound first) (bound_all rest) x out)
      ∙ unbound_name a n first names x (out_left (bound first) (bound_all rest) x out)

mutual
  -- one that it binds is named by the variable that is matched, or by a field
  pub bound_name : (a n : ℕ) (p : Pattern) (names : Names) (x : ℕ) → is_among (bound p) x ≡ true
      → (name_of (pattern_names a n p names) x ≡ a) ⊎ Between n (name_of (pattern_names a n p names) x) (n + pattern_size p)
  bound_name a n anything names x is = absurd (let wrong : false ≡ true = is in cc)
  bound_name a n (variable y) names x is = inl (by_test (y == x) refl)
    where
      by_test : (same : Bool) → (y == x) ≡ same → (if y == x then a else name_of names x) ≡ a
      by_test true same_is = rw same_is refl
      by_test false same_is = let one = rw same_is at is in absurd (cc)
  bound_name a n (exactly value) names x is = absurd (let wrong : false ≡ true = is in cc)
  bound_name a n (constructor c parts) names x is =
      or_else (bound_names n (n + part_count parts) parts names x is) (λ here. inr (here.0, omega (arith, here.1)))
      (λ there. inr (omega (arith, there.0), omega (arith, there.1)))

  bound_names : (a n : ℕ) (ps : Patterns) (names : Names) (x : ℕ) → is_among (bound_all ps) x ≡ true
      → Between a (name_of (parts_names a n ps names) x) (a + part_count ps) ⊎ Between n (name_of (parts_names a n ps names) x)
      (n + parts_size ps)
  bound_names a n no_part names x is = absurd (let wrong : false ≡ true = is in cc)
  bound_names a n (part first rest) names x is =
      by_rest (is_among (bound_all rest) x) refl (λ in_rest. bound_names (a + 1) (n + pattern_size first) rest
      (pattern_names a n first names) x in_rest) (λ in_first. bound_name a n first names x in_first)
    where
      whole : Names
      whole = parts_names a n (part first rest) names

      by_rest : (b : Bool) → is_among (bound_all rest) x ≡ b
          → (is_among (bound_all rest) x ≡ true → Between (a + 1) (name_of whole x) (a + 1 + part_count rest) ⊎ Between
          (n + pattern_size first) (name_of whole x) (n + pattern_size first + parts_size rest))
          → (is_among (bound first) x ≡ true → (name_of (pattern_names a n first names) x ≡ a) ⊎ Between n
          (name_of (pattern_names a n first names) x) (n + pattern_size first))
          → Between a (name_of whole x) (a + (part_count rest + 1)) ⊎ Between n (name_of whole x)
          (n + (pattern_size first + parts_size rest))
      by_rest true in_rest of_rest of_first =
          or_else (of_rest in_rest) (λ here. inl (omega (arith, here.0), omega (arith, here.1)))
          (λ there. inr (omega (arith, there.0), omega (arith, there.1)))
      by_rest false out of_rest of_first =
          let same : name_of whole x ≡ name_of (pattern_names a n first names) x
          = unbound_names (a + 1) (n + pattern_size first) rest (pattern_names a n first names) x out in
          let in_first : is_among (bound first) x ≡ true
          = or_else (among_split (bound first) (bound_all rest) x is) (λ here. here)
          (λ there. absurd (let wrong : true ≡ false = sym there ∙ out in cc)) in
          or_else (of_first in_first) (λ here. inl (omega (arith, same, here), omega (arith, same, here)))
          (λ there. inr (omega (arith, same, there.0), omega (arith, same, there.1)))

-- ---- what openings need

-- what the openings of a cell's fields need, the openings of the cell need
unpack_needs : (later : List ℕ) (a n : ℕ) (c : ℕ) (ps : Patterns) (rest : Code) (y : ℕ)
    → (is_among (needed later (opened_all n (n + part_count ps) ps rest)) y ≡ true
    → Between n y (n + part_count ps) ⊎ ((is_among (needed later rest) y ≡ true)
    × (Between (n + part_count ps) y (n + part_count ps + parts_size ps) → ⊥)))
    → is_among (needed later (opened a n (constructor c ps) rest)) y ≡ true
    → (y ≡ a) ⊎ ((is_among (needed later rest) y ≡ true) × (Between n y (n + (part_count ps + parts_size ps)) → ⊥))
unpack_needs later a n c no_part rest y inner is = inr (is, λ between. omega (arith, between.0, between.1))
unpack_needs later a n c (part first others) rest y inner is =
    let ps : Patterns = part first others in
    let fields : List ℕ = numbers n ps in
    let behind : Code = opened_all n (n + part_count ps) ps rest in
    or_else (among_head a (without fields (needed later behind)) y is) (λ same. inl (sym same))
    (λ there. let over = left_over fields (needed later behind) y there.1 in
    or_else (inner over.1) (λ field. absurd (between_number n ps y over.0 field))
    (λ need. inr (need.0, λ between. none between (between_number n ps y over.0) need.1)))
  where
    none : Between n y (n + (part_count (part first others) + parts_size (part first others)))
        → (Between n y (n + part_count (part first others)) → ⊥)
        → (Between (n + part_count (part first others)) y (n + part_count (part first others) + parts_size (part first others))
        → ⊥) → ⊥
    none between no_field no_other =
        elim (cases_lt y (n + part_count (part first others)))
        [ inl less ↦ no_field (between.0, less) | inr more ↦ no_other (more, omega (arith, between.1)) ]

mutual
  pub opened_needs : (later : List ℕ) (a n : ℕ) (p : Pattern) (rest : Code) (y : ℕ)
      → is_among (needed later (opened a n p rest)) y ≡ true
      → (y ≡ a) ⊎ ((is_among (needed later rest) y ≡ true) × (Between n y (n + pattern_size p) → ⊥))
  opened_needs later a n anything rest y is = inr (is, λ between. omega (arith, between.0, between.1))
  opened_needs later a n (variable x) rest y is = inr (is, λ between. omega (arith, between.0, between.1))
  opened_needs later a n (exactly value) rest y is = inr (is, λ between. omega (arith, between.0, between.1))
  opened_needs later a n (constructor c ps) rest y is =
      unpack_needs later a n c ps rest y (λ inner. opened_all_needs later n (n + part_count ps) ps rest y inner) is

  opened_all_needs : (later : List ℕ) (a n : ℕ) (ps : Patterns) (rest : Code) (y : ℕ)
      → is_among (needed later (opened_all a n ps rest)) y ≡ true
      → Between a y (a + part_count ps) ⊎ ((is_among (needed later rest) y ≡ true) × (Between n y (n + parts_size ps) → ⊥))
  opened_all_needs later a n no_part rest y is = inr (is, λ between. omega (arith, between.0, between.1))
  opened_all_needs later a n (part first others) rest y is =
      or_else (opened_needs later a n first (opened_all (a + 1) (n + pattern_size first) others rest) y is)
      (λ same. inl (omega arith, omega arith))
      (λ there. or_else (opened_all_needs later (a + 1) (n + pattern_size first) others rest y there.0)
      (λ field. inl (omega (arith, field.0), omega (arith, field.1)))
      (λ need. inr (need.0, λ between. neither there.1 need.1 between)))
    where
      neither : (Between n y (n + pattern_size first) → ⊥)
          → (Between (n + pattern_size first) y (n + pattern_size first + parts_size others) → ⊥)
          → Between n y (n + (pattern_size first + parts_size others)) → ⊥
      neither no_first no_other between =
          elim (cases_lt y (n + pattern_size first)) [
            | inl less ↦ no_first (between.0, less)
            | inr more ↦ no_other
                (more, omega (arith, between.1))
          ]

unpack_keeps : (later : List ℕ) (a n c : ℕ) (ps : Patterns) (rest : Code) (y : ℕ) → is_among (needed later rest) y ≡ true → y < n
    → is_among (needed later (opened_all n (n + part_count ps) ps rest)) y ≡ true
    → is_among (needed later (opened a n (constructor c ps) rest)) y ≡ true
unpack_keeps later a n c no_part rest y is low inner = is
unpack_keeps later a n c (part first others) rest y is low inner =
    let ps : Patterns = part first others in
    let fields : List ℕ = numbers n ps in
    let behind : Code = opened_all n (n + part_count ps) ps rest in
    later_among a (without fields (needed later behind)) y
    (among_without fields (needed later behind) y (no_field (is_among fields y) refl) inner)
  where
    no_field : (b : Bool) → is_among (numbers n (part first others)) y ≡ b → is_among (numbers n (part first others)) y ≡ false
    no_field true among = let one = number_between n (part first others) y among in absurd (omega (arith, one.0))
    no_field false out = out

mutual
  -- what is needed behind openings, below their numbers, is needed before
  pub opened_keeps : (later : List ℕ) (a n : ℕ) (p : Pattern) (rest : Code) (y : ℕ) → is_among (needed later rest) y ≡ true → y < n
      → is_among (needed later (opened a n p rest)) y ≡ true
  opened_keeps later a n anything rest y is low = is
  opened_keeps later a n (variable x) rest y is low = is
  opened_keeps later a n (exactly value) rest y is low = is
  opened_keeps later a n (constructor c ps) rest y is low =
      unpack_keeps later a n c ps rest y is low (opened_all_keeps later n (n + part_count ps) ps rest y is (omega arith))

  opened_all_keeps : (later : List ℕ) (a n : ℕ) (ps : Patterns) (rest : Code) (y : ℕ) → is_among (needed later rest) y ≡ true
      → y < n → is_among (needed later (opened_all a n ps rest)) y ≡ true
  opened_all_keeps later a n no_part rest y is low = is
  opened_all_keeps later a n (part first others) rest y is low =
      opened_keeps later a n first (opened_all (a + 1) (n + pattern_size first) others rest) y
      (opened_all_keeps later (a + 1) (n + pattern_size first) others rest y is (omega arith)) low
