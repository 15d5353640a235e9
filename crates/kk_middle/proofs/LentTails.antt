-- Tail calls of core code lend variables that are lent.
use Rattle.std.proofs.Common.{◌≡◌, ◌⊎◌, inl, inr, ℕ, suc, ◌+◌, ◌<◌, ◌==◌, ◌||◌, Bool, true, false, List, [], ◌∷◌, ◌++◌, All, arith, refl, sym, ap, ◌∙◌, subst}
use Rattle.std.specs.Prelude.{if◌then◌else◌, IsTrue}
use Rattle.std.specs.List.{flat_map}
use Rattle.std.proofs.lemmas.Grind.{flat_map-append}
use Rattle.std.proofs.lemmas.List.Elements.{All-head}
use Rattle.kk_syntax.specs.declared.positions.Position.{Position}
use Rattle.kk_syntax.specs.declared.program.Binder.{Binder}
use Rattle.kk_syntax.specs.declared.program.Binder.TheVariants as OfBinder
use Rattle.kk_syntax.specs.declared.program.Form.{Form}
use Rattle.kk_syntax.specs.declared.program.Form.TheVariants.{Number, Unit as Nothing, ReadByte, PrintText, Unary, Binary, Print, Construct, Call}
use Rattle.kk_syntax.specs.OwnedPositions.{arity_of, is_lent_variable, lent_in_row, lent_inside, handed_to, handed_by, handed_at, owned_in}
use Rattle.kk_syntax.specs.Patterns.{Pattern, anything, variable as pattern_variable, exactly, constructor, Patterns, no_part, part}
use Rattle.kk_syntax.specs.PositionsOf.{PositionTable, is_lent}
use Rattle.kk_syntax.specs.Programs.{ConstructorTree, ProgramTree}
use Rattle.kk_syntax.proofs.Elements.{each_parts}
use Rattle.kk_syntax.proofs.Lists.{all_left, all_right}
use Rattle.kk_syntax.proofs.TailCalls.{inside_push}
use Rattle.kk_syntax.specs.Shapes.{bound, bound_all, bound_by, is_among, variable_of, Opening, tails_inside, tails_of_rows, tail_walked, tail_walked_rows}
use Rattle.kk_syntax.specs.Trees.{Tree, variable, apply, branch, match, sequence, Trees, no_tree, tree, Rows, no_row, row, row_parts}
use Rattle.kk_core.specs.Codes.{Code, case, Arms}
use Rattle.kk_core.specs.Truths.{truth_case}
use Rattle.kk_norm.specs.Names.{Names, name_of, named}
use Rattle.kk_norm.specs.Normalized.{size, size_all, pattern_size, part_count, atom, atoms, final, finish, numbers, opened, opened_all, pattern_names, parts_names, IsCode, AreArms}
use Rattle.kk_counted.specs.Spending.{AllAmong, at_positions}
use Rattle.kk_insert.specs.Insertion.{lent_in, lent_in_arms}
use Rattle.kk_insert.specs.Promise.{LendsTails, AllLendTails}
use Rattle.kk_insert.proofs.Sets.{Part, in_front, in_back, in_either, no_both, among_first, among_next}
use Rattle.kk_middle.specs.LentNames.{AreOthers, Bound, to_bound, AreApart, KeepsLent, KeepLent}
use Rattle.kk_middle.proofs.CodePrefixes.{part_then, grows, grow_arms, Lent, Passes, passes, pass_all, opened_passes}

-- ---- names

-- the names of variables are among others
abbrev pub NamesIn : Names → List ℕ → List ℕ → Type 0
NamesIn names xs others = (x : ℕ) → is_among xs x ≡ true → is_among others (name_of names x) ≡ true

-- a variable that is named anew, and one that is not
other_test : (x y : ℕ) → is_among (y ∷ []) x ≡ false → (y == x) ≡ false
other_test x y other = by_test (y == x) other
  where
    by_test : (t : Bool) → (t || false) ≡ false → t ≡ false
    by_test true is = is
    by_test false is = refl

same_test : (x y : ℕ) → is_among (y ∷ []) x ≡ true → (y == x) ≡ true
same_test x y is = by_test (y == x) is
  where
    by_test : (t : Bool) → (t || false) ≡ true → t ≡ true
    by_test true is = refl
    by_test false is = is

newest : (x y a : ℕ) (names : Names) → is_among (y ∷ []) x ≡ true → name_of (record { variable = y; name = a } ∷ names) x ≡ a
newest x y a names is = ap (λ (t : Bool). if t then a else name_of names x) (same_test x y is)

older : (x y a : ℕ) (names : Names) → is_among (y ∷ []) x ≡ false
    → name_of (record { variable = y; name = a } ∷ names) x ≡ name_of names x
older x y a names other = ap (λ (t : Bool). if t then a else name_of names x) (other_test x y other)

-- whether a variable is among others, or not
decided : (t : Bool) → (t ≡ true) ⊎ (t ≡ false)
decided true = inl refl
decided false = inr refl

not_front : (xs ys : List ℕ) (x : ℕ) → is_among (xs ++ ys) x ≡ false → is_among xs x ≡ false
not_front xs ys x other = by (decided (is_among xs x))
  where
    by : (is_among xs x ≡ true) ⊎ (is_among xs x ≡ false) → is_among xs x ≡ false
    by (inl is) = no_both (is_among xs x ≡ false) (is_among (xs ++ ys) x) (in_front xs ys x is) other
    by (inr is) = is

not_back : (xs ys : List ℕ) (x : ℕ) → is_among (xs ++ ys) x ≡ false → is_among ys x ≡ false
not_back xs ys x other = by (decided (is_among ys x))
  where
    by : (is_among ys x ≡ true) ⊎ (is_among ys x ≡ false) → is_among ys x ≡ false
    by (inl is) = no_both (is_among ys x ≡ false) (is_among (xs ++ ys) x) (in_back xs ys x is) other
    by (inr is) = is

mutual
  -- a variable that a pattern does not bind keeps its name
  pattern_keeps : (pattern : Pattern) (a n x : ℕ) (names : Names) → is_among (bound pattern) x ≡ false
      → name_of (pattern_names a n pattern names) x ≡ name_of names x
  pattern_keeps anything a n x names other = refl
  pattern_keeps (pattern_variable y) a n x names other = older x y a names other
  pattern_keeps (exactly value) a n x names other = refl
  pattern_keeps (constructor c parts) a n x names other = parts_keep parts n (n + part_count parts) x names other

  parts_keep : (parts : Patterns) (a n x : ℕ) (names : Names) → is_among (bound_all parts) x ≡ false
      → name_of (parts_names a n parts names) x ≡ name_of names x
  parts_keep no_part a n x names other = refl
  parts_keep (part first others) a n x names other =
      parts_keep others (a + 1) (n + pattern_size first) x (pattern_names a n first names)
      (not_back (bound first) (bound_all others) x other)
      ∙ pattern_keeps first a n x names (not_front (bound first) (bound_all others) x other)

-- ---- openings of lent variables

-- what is lent behind the openings of a pattern at a lent variable, by what is lent before them: what the pattern names, too
record Opens (before xs : List ℕ) (names : Names → Names) (code later : Code) : Type 0 where
  next : List ℕ
  are : lent_in before code ≡ lent_in next later
  more : Part before next
  named : (old : Names) → NamesIn (names old) xs next

-- the fields of a cell, from one of a number on, are lent
abbrev FieldsIn : ℕ → Patterns → List ℕ → Type 0
FieldsIn a parts lent = (y : ℕ) → is_among (numbers a parts) y ≡ true → is_among lent y ≡ true

-- a cell is opened, and then the cells of its fields
cell_opens : (c : ℕ) (parts : Patterns) (a n : ℕ) (later : Code) (before : List ℕ) → is_among before a ≡ true
    → Opens (numbers n parts ++ before) (bound_all parts) (parts_names n (n + part_count parts) parts)
    (opened_all n (n + part_count parts) parts later) later
    → Opens before (bound_all parts) (pattern_names a n (constructor c parts)) (opened a n (constructor c parts) later) later
cell_opens c no_part a n later before lent inner =
    record { next = before; are = refl; more = λ y is. is; named = λ old x is. absurd (nothing is) }
  where
    nothing : false ≡ true → ⊥
    nothing is = cc
cell_opens c (part first others) a n later before lent inner =
    let parts : Patterns = part first others in
    record {
      next = inner.next;
      are = ap (λ (t : Bool). lent_in (if t then numbers n parts ++ before else before)
          (opened_all n (n + part_count parts) parts later)) lent ∙ inner.are;
      more = λ y is. inner.more y (in_back (numbers n parts) before y is);
      named = inner.named;
    }

mutual
  opens : (pattern : Pattern) (a n : ℕ) (later : Code) (before : List ℕ) → is_among before a ≡ true
      → Opens before (bound pattern) (pattern_names a n pattern) (opened a n pattern later) later
  opens anything a n later before lent =
      record { next = before; are = refl; more = λ y is. is; named = λ old x is. absurd (nothing is) }
    where
      nothing : false ≡ true → ⊥
      nothing is = cc
  opens (pattern_variable y) a n later before lent =
      record {
        next = before;
        are = refl;
        more = λ z is. is;
        named = λ old x is. subst (λ (b : ℕ). is_among before b ≡ true) (sym (newest x y a old is)) lent;
      }
  opens (exactly value) a n later before lent =
      record { next = before; are = refl; more = λ y is. is; named = λ old x is. absurd (nothing is) }
    where
      nothing : false ≡ true → ⊥
      nothing is = cc
  opens (constructor c parts) a n later before lent =
      cell_opens c parts a n later before lent
      (opens_all parts n (n + part_count parts) later (numbers n parts ++ before) (λ y is. in_front (numbers n parts) before y is))

  opens_all : (parts : Patterns) (a n : ℕ) (later : Code) (before : List ℕ) → FieldsIn a parts before
      → Opens before (bound_all parts) (parts_names a n parts) (opened_all a n parts later) later
  opens_all no_part a n later before fields =
      record { next = before; are = refl; more = λ y is. is; named = λ old x is. absurd (nothing is) }
    where
      nothing : false ≡ true → ⊥
      nothing is = cc
  opens_all (part first others) a n later before fields =
      let behind : Code = opened_all (a + 1) (n + pattern_size first) others later in
      let one = opens first a n behind before (fields a (among_first a (numbers (a + 1) others))) in
      let two = opens_all others (a + 1) (n + pattern_size first) later one.next
      (λ y is. one.more y (fields y (among_next a y (numbers (a + 1) others) is))) in
      record {
        next = two.next;
        are = one.are ∙ two.are;
        more = λ y is. two.more y (one.more y is);
        named = λ old x is.
            both old x (decided (is_among (bound_all others) x)) (in_either (bound first) (bound_all others) x is) one two;
      }
    where
      both : (old : Names) (x : ℕ) → (is_among (bound_all others) x ≡ true) ⊎ (is_among (bound_all others) x ≡ false)
          → (is_among (bound first) x ≡ true) ⊎ (is_among (bound_all others) x ≡ true)
          → (one : Opens before (bound first) (pattern_names a n first)
          (opened a n first (opened_all (a + 1) (n + pattern_size first) others later))
          (opened_all (a + 1) (n + pattern_size first) others later))
          → (two : Opens one.next (bound_all others) (parts_names (a + 1) (n + pattern_size first) others)
          (opened_all (a + 1) (n + pattern_size first) others later) later)
          → is_among two.next (name_of (parts_names (a + 1) (n + pattern_size first) others (pattern_names a n first old)) x) ≡ true
      both old x (inl last) here one two = two.named (pattern_names a n first old) x last
      both old x (inr other) (inl is) one two =
          subst (λ (b : ℕ). is_among two.next b ≡ true)
          (sym (parts_keep others (a + 1) (n + pattern_size first) x (pattern_names a n first old) other))
          (two.more (name_of (pattern_names a n first old) x) (one.named old x is))
      both old x (inr other) (inr is) one two =
          no_both (is_among two.next (name_of (parts_names (a + 1) (n + pattern_size first) others (pattern_names a n first old)) x)
          ≡ true)
          (is_among (bound_all others) x) is other

-- ---- names of lent variables behind a binder and behind a pattern

abbrev pub named_by : Binder → Names → ℕ → Tree → Names
named_by binder names n first = named (variable_of binder) (atom names n first) names

binder_keeps : (binder : Binder) (names : Names) (a x : ℕ) (lent : List ℕ) → AreOthers (bound_by binder) lent
    → is_among lent x ≡ true → name_of (named (variable_of binder) a names) x ≡ name_of names x
binder_keeps OfBinder.Nothing names a x lent others there = refl
binder_keeps OfBinder.Wildcard names a x lent others there = refl
binder_keeps (OfBinder.Variable y) names a x lent others there = older x y a names (by (decided (is_among (y ∷ []) x)))
  where
    by : (is_among (y ∷ []) x ≡ true) ⊎ (is_among (y ∷ []) x ≡ false) → is_among (y ∷ []) x ≡ false
    by (inl is) = no_both (is_among (y ∷ []) x ≡ false) (is_among lent x) there (others x is)
    by (inr is) = is

-- what is lent in a row, and how it is named there
abbrev Ahead : (code : Code) (before : List ℕ) (names : Names) (lent : List ℕ) (later : Code) → Type 0
Ahead code before names lent later =
    (next : List ℕ) × ((lent_in before code ≡ lent_in next later) × NamesIn names lent next)

row_ahead : (t : Bool) {whole : Bool} → whole ≡ t → (pattern : Pattern) (names : Names) (a n : ℕ) (code : Code)
    (before lent : List ℕ)
    → NamesIn names lent before → (whole ≡ true → is_among before a ≡ true) → (whole ≡ false → AreOthers (bound pattern) lent)
    → Ahead (opened a n pattern code) before (pattern_names a n pattern names) (lent_in_row lent t pattern) code
row_ahead true same pattern names a n code before lent named cell others =
    let one = opens pattern a n code before (cell same) in
    (one.next, (one.are, λ x there. both one x (decided (is_among (bound pattern) x)) (in_either lent (bound pattern) x there)))
  where
    both : (one : Opens before (bound pattern) (pattern_names a n pattern) (opened a n pattern code) code) (x : ℕ)
        → (is_among (bound pattern) x ≡ true) ⊎ (is_among (bound pattern) x ≡ false)
        → (is_among lent x ≡ true) ⊎ (is_among (bound pattern) x ≡ true)
        → is_among one.next (name_of (pattern_names a n pattern names) x) ≡ true
    both one x (inl is) either = one.named names x is
    both one x (inr other) (inl is) =
        subst (λ (y : ℕ). is_among one.next y ≡ true) (sym (pattern_keeps pattern a n x names other))
        (one.more (name_of names x) (named x is))
    both one x (inr other) (inr is) =
        no_both (is_among one.next (name_of (pattern_names a n pattern names) x) ≡ true) (is_among (bound pattern) x) is other
row_ahead false same pattern names a n code before lent named cell others =
    let one : Lent before (opened a n pattern code) code = (opened_passes [] pattern a n code).lent before in (
      one.next,
      (
        one.are,
        λ x there.
            subst (λ (y : ℕ). is_among one.next y ≡ true)
            (sym (pattern_keeps pattern a n x names (other x there (decided (is_among (bound pattern) x)))))
            (one.more (name_of names x) (named x there)),
      ),
    )
  where
    other : (x : ℕ) → is_among lent x ≡ true → (is_among (bound pattern) x ≡ true) ⊎ (is_among (bound pattern) x ≡ false)
        → is_among (bound pattern) x ≡ false
    other x there (inl is) = no_both (is_among (bound pattern) x ≡ false) (is_among lent x) there (others same x is)
    other x there (inr is) = is

-- ---- tail calls

-- each position that is given anything but a lent variable is owned
abbrev IsOwnedAt : ProgramTree → PositionTable → Position → Type 0
IsOwnedAt program positions p =
    p.parameter < arity_of program p.function → IsTrue (owned_in positions p.function p.parameter)

abbrev AreOwned : ProgramTree → PositionTable → List Position → Type 0
AreOwned program positions given = All (IsOwnedAt program positions) given

-- a lent variable is one
lent_variable : (lent : List ℕ) (e : Tree) → is_lent_variable lent e ≡ true
    → (x : ℕ) × ((e ≡ variable x) × (is_among lent x ≡ true))
lent_variable lent (variable x) is = (x, (refl, is))
lent_variable lent (apply form es) is = absurd (cc)
lent_variable lent (branch e positive negative) is = absurd (cc)
lent_variable lent (match e rows) is = absurd (cc)
lent_variable lent (sequence binder first rest) is = absurd (cc)

-- what is bound in a part of an expression is apart from what is lent
apart_parts : (xs ys : List Bound) → AreApart (xs ++ ys) → AreApart xs × AreApart ys
apart_parts = each_parts (λ b. AreOthers b.variables b.lent)

apart_row : (lent : List ℕ) (opened : Bool) (pattern : Pattern)
    → AreApart (if opened then [] else record { variables = bound pattern; lent = lent } ∷ []) → opened ≡ false
    → AreOthers (bound pattern) lent
apart_row lent true pattern apart never = absurd (cc)
apart_row lent false pattern apart same = apart.0

module _ (program : ProgramTree) (positions : PositionTable)
    (in_range : (f i : ℕ) → is_lent positions f i ≡ true → i < arity_of program f)
    (apart : (f i : ℕ) → is_lent positions f i ≡ true → IsTrue (owned_in positions f i) → ⊥) where
  -- an argument at a lent position is a lent variable
  argument_lent : (first : Tree) (lent : List ℕ) (names : Names) (n f i : ℕ) (before : List ℕ) (behind : List Position)
      → NamesIn names lent before
      → AreOwned program positions ((if is_lent_variable lent first then [] else record { function = f; parameter = i } ∷ [])
      ++ behind)
      → is_lent positions f i ≡ true → is_among before (atom names n first) ≡ true
  argument_lent first lent names n f i before behind named owned at = by (decided (is_lent_variable lent first))
    where
      by : (is_lent_variable lent first ≡ true) ⊎ (is_lent_variable lent first ≡ false)
          → is_among before (atom names n first) ≡ true
      by (inl is) =
          let one = lent_variable lent first is in
          subst (λ (e : Tree). is_among before (atom names n e) ≡ true) (sym one.1.0) (named one.0 one.1.1)
      by (inr other) =
          absurd
          (apart f i at
          (All-head (IsOwnedAt program positions) (record { function = f; parameter = i }) behind
          (subst (λ (t : Bool). AreOwned program positions ((if t then [] else record { function = f; parameter = i } ∷ [])
          ++ behind)) other
          owned) (in_range f i at)))

  -- the arguments of a tail call at lent positions are lent
  arguments_lent : (es : Trees) (lent : List ℕ) (names : Names) (n f i : ℕ) (before : List ℕ) → NamesIn names lent before
      → AreOwned program positions (handed_to lent f i es)
      → AllAmong (at_positions (is_lent positions f) i (atoms names n es)) before
  arguments_lent no_tree lent names n f i before named owned = tt
  arguments_lent (tree first rest) lent names n f i before named owned =
      by (is_lent positions f i) refl
      (arguments_lent rest lent names (n + size first) f (i + 1) before named
      (all_right (IsOwnedAt program positions)
      (if is_lent_variable lent first then [] else record { function = f; parameter = i } ∷ [])
      (handed_to lent f (i + 1) rest) owned))
    where
      by : (t : Bool) → is_lent positions f i ≡ t
          → AllAmong (at_positions (is_lent positions f) (i + 1) (atoms names (n + size first) rest)) before
          → AllAmong (if t then atom names n first ∷ at_positions (is_lent positions f) (suc i) (atoms names (n + size first) rest)
          else at_positions (is_lent positions f) (suc i) (atoms names (n + size first) rest)) before
      by true at more = (
        argument_lent first lent names n f i before (handed_to lent f (i + 1) rest) named owned at,
        subst (λ (j : ℕ). AllAmong (at_positions (is_lent positions f) j (atoms names (n + size first) rest)) before)
            {x = i + 1} {y = suc i} (omega arith) more,
      )
      by false at more =
          subst (λ (j : ℕ). AllAmong (at_positions (is_lent positions f) j (atoms names (n + size first) rest)) before)
          {x = i + 1} {y = suc i} (omega arith) more

  all_among_part : (xs before lent : List ℕ) → Part before lent → AllAmong xs before → AllAmong xs lent
  all_among_part [] before lent low all = tt
  all_among_part (x ∷ xs) before lent low all = (low x all.0, all_among_part xs before lent low all.1)

  -- a form at the end of a body
  form_lends : (form : Form) (es : Trees) (around : List Opening) (own : List ℕ) (names : Names) (n m : ℕ) (before lent : List ℕ)
      → NamesIn names (lent_inside own around) before → Part before lent
      → AreOwned program positions (handed_by (lent_inside own around) (apply form es))
      → LendsTails positions lent (finish (final true) m form (atoms names n es))
  form_lends (Number k) es around own names n m before lent named low owned = tt
  form_lends Nothing es around own names n m before lent named low owned = tt
  form_lends ReadByte es around own names n m before lent named low owned = tt
  form_lends (PrintText form text) es around own names n m before lent named low owned = tt
  form_lends (Unary operator) es around own names n m before lent named low owned = tt
  form_lends (Binary operator) es around own names n m before lent named low owned = tt
  form_lends (Print form) es around own names n m before lent named low owned = tt
  form_lends (Construct c) es around own names n m before lent named low owned = tt
  form_lends (Call f) es around own names n m before lent named low owned =
      all_among_part (at_positions (is_lent positions f) 0 (atoms names n es)) before lent low
      (arguments_lent es (lent_inside own around) names n f 0 before named owned)

  module _ (constructors : List ConstructorTree) (own : List ℕ) where
    -- what the tail calls of an expression are given, as it stands in some rows
    abbrev given : List Opening → Tree → List Position
    given around e = flat_map (handed_at own) (tails_inside around e)

    abbrev given_by_rows : List Opening → Tree → Rows → List Position
    given_by_rows around e rows = flat_map (handed_at own) (tails_of_rows around e rows)

    mutual
      pub tail_lends : (e : Tree) (around : List Opening) (names : Names) (n : ℕ) (code : Code) (before lent : List ℕ)
          → IsCode constructors (final true) names n e code → NamesIn names (lent_inside own around) before
          → Part (lent_in before code) lent → KeepsLent (lent_inside own around) e
          → AreOwned program positions (given around e) → LendsTails positions lent code
      tail_lends (variable x) around names n code before lent is named low keeps owned =
          subst (LendsTails positions lent) (sym is) tt
      tail_lends (apply form es) around names n code before lent is named low keeps owned =
          let m : ℕ = n + size_all es in
          let last : Code = finish (final true) m form (atoms names n es) in
          let passed : Passes positions code last = pass_all positions constructors es names n last code is in
          let ahead : Lent before code last = passed.lent before in
          passed.tails lent
          (form_lends form es around own names n m ahead.next lent (λ x there. ahead.more (name_of names x) (named x there))
          (part_then ahead.next (lent_in ahead.next last) lent (grows last ahead.next)
          (subst (λ (xs : List ℕ). Part xs lent) ahead.are low))
          (all_left (IsOwnedAt program positions) (handed_by (lent_inside own around) (apply form es)) [] owned))
      tail_lends (branch e positive negative) around names n code before lent is named low keeps owned =
          let block : Code = truth_case (atom names n e) is.0 is.1 in
          let passed : Passes positions code block = passes positions constructors e names n block code is.4 in
          let ahead : Lent before code block = passed.lent before in
          let all : Part (lent_in (lent_in ahead.next is.0) is.1) lent = subst (λ (xs : List ℕ). Part xs lent) ahead.are low in
          let keep = apart_parts (tail_walked to_bound (lent_inside own around) positive)
          (tail_walked to_bound (lent_inside own around) negative) keeps in
          let both : AreOwned program positions (given around positive ++ given around negative) =
          subst (AreOwned program positions)
          (flat_map-append (handed_at own) (tails_inside around positive) (tails_inside around negative)) owned in
          passed.tails lent (
            tail_lends positive around names (n + size e) is.0 ahead.next lent is.2
                (λ x there. ahead.more (name_of names x) (named x there))
                (part_then (lent_in ahead.next is.0) (lent_in (lent_in ahead.next is.0) is.1) lent
                (grows is.1 (lent_in ahead.next is.0)) all)
                keep.0 (all_left (IsOwnedAt program positions) (given around positive) (given around negative) both),
            (
              tail_lends negative around names (n + size e + size positive) is.1 (lent_in ahead.next is.0) lent is.3
                  (λ x there. grows is.0 ahead.next (name_of names x) (ahead.more (name_of names x) (named x there))) all keep.1
                  (all_right (IsOwnedAt program positions) (given around positive) (given around negative) both),
              tt,
            ),
          )
      tail_lends (match e rows) around names n code before lent is named low keeps owned =
          let block : Code = case (atom names n e) is.0 is.1 in
          let passed : Passes positions code block = passes positions constructors e names n block code is.4 in
          let ahead : Lent before code block = passed.lent before in
          passed.tails lent
          (arms_lend rows e around names (atom names n e) (n + size e) is.1 ahead.next lent is.3
          (λ x there. ahead.more (name_of names x) (named x there))
          (λ is_lent. let one = lent_variable (lent_inside own around) e is_lent in
          ahead.more (atom names n e)
          (subst (λ (t : Tree). is_among before (atom names n t) ≡ true) (sym one.1.0) (named one.0 one.1.1)))
          (subst (λ (xs : List ℕ). Part xs lent) ahead.are low) keeps owned)
      tail_lends (sequence binder first rest) around names n code before lent is named low keeps owned =
          let passed : Passes positions code is.0 = passes positions constructors first names n is.0 code is.2 in
          let ahead : Lent before code is.0 = passed.lent before in
          passed.tails lent
          (tail_lends rest around (named_by binder names n first) (n + size first) is.0 ahead.next lent is.1
          (λ x there. ahead.more (name_of (named_by binder names n first) x)
          (subst (λ (y : ℕ). is_among before y ≡ true) (sym (binder_keeps binder names (atom names n first) x
          (lent_inside own around) keeps.0 there))
          (named x there)))
          (subst (λ (xs : List ℕ). Part xs lent) ahead.are low) keeps.1 owned)

      arms_lend : (rows : Rows) (e : Tree) (around : List Opening) (names : Names) (a n : ℕ) (arms : Arms) (before lent : List ℕ)
          → AreArms constructors (final true) names a n rows arms → NamesIn names (lent_inside own around) before
          → (is_lent_variable (lent_inside own around) e ≡ true → is_among before a ≡ true)
          → Part (lent_in_arms before arms) lent
          → KeepLent (lent_inside own around) (is_lent_variable (lent_inside own around) e) rows
          → AreOwned program positions (given_by_rows around e rows) → AllLendTails positions lent arms
      arms_lend no_row e around names a n arms before lent is named cell low keeps owned =
          subst (AllLendTails positions lent) (sym is) tt
      arms_lend (row (row_parts pattern body) rest) e around names a n arms before lent is named cell low keeps owned =
          let o : Opening = record { scrutinee = e; pattern = pattern } in
          let code : Code = opened a n pattern is.0 in
          let inner : List ℕ = lent_inside own around in
          let opens : Bool = is_lent_variable inner e in
          let here : List Bound = if opens then [] else record { variables = bound pattern; lent = inner } ∷ [] in
          let row_inside : List Bound = tail_walked to_bound (lent_in_row inner opens pattern) body in
          let keep = apart_parts (here ++ row_inside) (tail_walked_rows to_bound inner opens rest) keeps in
          let own_keep = apart_parts here row_inside keep.0 in
          let all : Part (lent_in_arms (lent_in before code) is.1) lent =
          subst (λ (arms : Arms). Part (lent_in_arms before arms) lent) is.2 low in
          let both : AreOwned program positions (given (around ++ o ∷ []) body ++ given_by_rows around e rest) =
          subst (AreOwned program positions)
          (flat_map-append (handed_at own) (tails_inside (around ++ o ∷ []) body) (tails_of_rows around e rest)) owned in
          let ahead = row_ahead (is_lent_variable (lent_inside own around) e) refl pattern names a n is.0 before
          (lent_inside own around) named cell (apart_row inner opens pattern own_keep.0) in
          subst (AllLendTails positions lent) (sym is.2) (
            (opened_passes positions pattern a n is.0).tails lent
                (tail_lends body (around ++ o ∷ []) (pattern_names a n pattern names)
                (n + pattern_size pattern) is.0 ahead.0 lent is.3
                (subst (λ (xs : List ℕ). NamesIn (pattern_names a n pattern names) xs ahead.0)
                (sym (inside_push own around o)) ahead.1.1)
                (subst (λ (xs : List ℕ). Part xs lent) ahead.1.0
                (part_then (lent_in before code) (lent_in_arms (lent_in before code) is.1) lent
                (grow_arms is.1 (lent_in before code)) all))
                (subst (λ (xs : List ℕ). KeepsLent xs body) (sym (inside_push own around o)) own_keep.1)
                (all_left (IsOwnedAt program positions) (given (around ++ o ∷ []) body) (given_by_rows around e rest) both)),
            arms_lend rest e around names a (n + pattern_size pattern + size body) is.1 (lent_in before code) lent is.4
                (λ x there. grows code before (name_of names x) (named x there)) (λ t. grows code before a (cell t)) all keep.1
                (all_right (IsOwnedAt program positions) (given (around ++ o ∷ []) body) (given_by_rows around e rest) both),
          )
