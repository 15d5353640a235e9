-- A core form of a typed expression is typed by what is known of its variables, and its variables are in order.
use Rattle.std.proofs.Common.{◌≡◌, ℕ, ◌+◌, ◌<◌, ◌≤◌, Bool, true, false, List, [], ◌∷◌, ◌++◌, map, Some, refl, sym, ap, subst, ◌∙◌, arith}
use Rattle.std.specs.Prelude.{slice_get}
use Rattle.kk_syntax.specs.declared.program.Form.{Form}
use Rattle.kk_syntax.specs.declared.program.Form.TheVariants.{Call}
use Rattle.kk_syntax.specs.Covered.{IsCovered}
use Rattle.kk_syntax.specs.GroundTyping.{Table, HasTruths, IsFormTyped, HasType, HaveTypes, AreRowsTyped, with_pattern, with_parts, types_or_none}
use Rattle.kk_syntax.specs.OfType.{IsPatternOf, ArePatternsOf, values_of, field_types}
use Rattle.kk_syntax.specs.Outlines.{Outline, outline_of, outlines_of}
use Rattle.kk_syntax.specs.Patterns.{Pattern, anything, variable as pattern_variable, exactly, constructor, Patterns, no_part, part}
use Rattle.kk_syntax.specs.Programs.{ConstructorTree}
use Rattle.kk_syntax.specs.Shapes.{is_among, variable_of}
use Rattle.kk_syntax.specs.Types.{TypeTree}
use Rattle.kk_syntax.specs.Typing.{Scope, bool, with_binder}
use Rattle.kk_syntax.specs.Trees.{Tree, variable, apply, branch, match, sequence, Trees, no_tree, tree, Rows, no_row, row, row_parts}
use Rattle.kk_core.specs.RowChoice.{Decides}
use Rattle.kk_core.specs.Codes.{Code, give, tail_call, case, compute, use_of, unpack, inside, Arms, no_arm, arm, patterns_of}
use Rattle.kk_core.specs.CoreTyping as Typed
use Rattle.kk_core.specs.CoreTyping.{Facts, fact_in, knowing, typing, knowing_fields, Has, HasCodeType, AreArmsTyped}
use Rattle.kk_core.specs.Decisions.{NodeTree}
use Rattle.kk_core.specs.Sizes.{AreBound, Rise, Ordered, OrderedArms}
use Rattle.kk_core.specs.Truths.{true_pattern, false_pattern, truth_decisions, truth_case}
use Rattle.kk_core.proofs.Truths.{true_typed, false_typed, truths_covered, truths_decide}
use Rattle.kk_norm.specs.Names.{Names, name_of, named}
use Rattle.kk_norm.specs.Normalized.{part_count, pattern_size, parts_size, numbers, Then, final, next, size, size_all, size_rows, atom, atoms, after, after_use, within, joined, finish, finish_call, opened, opened_all, pattern_names, parts_names, patterns_in, IsCode, AreCodes, AreArms}
use Rattle.kk_norm.proofs.Facts.{known_in, has_here, fact_is_known, has_is_known, Grows, SameFacts, grows_not, grows_more, grows_one, same_grows, grows_known, AreNamed, named_later, named_one, named_bound, FieldsKnown, AsMany, fields_still_known, fields_known, known_fields, numbers_rise, fields_as_many, fact_here}
use Rattle.kk_norm.proofs.PatternNames.{asked_are}
use Rattle.kk_norm.proofs.Variables.{or_else, among_head, among_split, among_left, among_right, first_among, later_among}

-- ---- order does not depend on more names

abbrev MoreNames : List ℕ → List ℕ → Type 0
MoreNames xs ys = (y : ℕ) → is_among xs y ≡ true → is_among ys y ≡ true

more_one : (xs ys : List ℕ) (x : ℕ) → MoreNames xs ys → MoreNames (x ∷ xs) (x ∷ ys)
more_one xs ys x more =
    λ y is. or_else (among_head x xs y is) (λ same. subst (λ (z : ℕ). is_among (x ∷ ys) z ≡ true) same (first_among x ys))
    (λ other. later_among x ys y (more y other.1))

more_many : (fields xs ys : List ℕ) → MoreNames xs ys → MoreNames (fields ++ xs) (fields ++ ys)
more_many fields xs ys more =
    λ y is. or_else (among_split fields xs y is) (λ here. among_left fields ys y here)
    (λ there. among_right fields ys y (more y there))

bound_more : (xs ys zs : List ℕ) → MoreNames xs ys → AreBound xs zs → AreBound ys zs
bound_more xs ys [] more are = tt
bound_more xs ys (z ∷ zs) more are = (more z are.0, bound_more xs ys zs more are.1)

mutual
  ordered_more : (xs ys : List ℕ) (low : ℕ) (c : Code) (high : ℕ) → MoreNames xs ys → Ordered xs low c high → Ordered ys low c high
  ordered_more xs ys low (give x) high more is = (more x is.0, is.1)
  ordered_more xs ys low (tail_call f arguments) high more is = (bound_more xs ys arguments more is.0, is.1)
  ordered_more xs ys low (case x decisions arms) high more is = (more x is.0, arms_more xs ys low arms high more is.1)
  ordered_more xs ys low (compute x form arguments rest) high more is =
      (bound_more xs ys arguments more is.0, is.1, ordered_more (x ∷ xs) (x ∷ ys) (x + 1) rest high (more_one xs ys x more) is.2)
  ordered_more xs ys low (use_of x rest) high more is = (more x is.0, ordered_more xs ys low rest high more is.1)
  ordered_more xs ys low (unpack x c fields rest) high more is =
      (is.0, more x is.1, is.2, ordered_more (fields ++ xs) (fields ++ ys) is.0 rest high (more_many fields xs ys more) is.3)
  ordered_more xs ys low (inside x block rest) high more is =
      (ordered_more xs ys low block x more is.0, ordered_more (x ∷ xs) (x ∷ ys) (x + 1) rest high (more_one xs ys x more) is.1)

  arms_more : (xs ys : List ℕ) (low : ℕ) (arms : Arms) (high : ℕ) → MoreNames xs ys → OrderedArms xs low arms high
      → OrderedArms ys low arms high
  arms_more xs ys low no_arm high more is = is
  arms_more xs ys low (arm pattern body rest) high more is =
      (is.0, ordered_more xs ys low body is.0 more is.1, arms_more xs ys is.0 rest high more is.2)

-- ---- codes that are typed and in order, form by form

-- Where such facts are known a code gives a value of a type, and binds its variables in order, from `low` on and below `high`.
pub record Fits (table : Table) (tail : Bool) (facts : Facts) (low : ℕ) (code : Code) (high : ℕ) (t : TypeTree) : Type 0 where
  pub typed : HasCodeType table tail facts code t
  pub ordered : Ordered (known_in facts) low code high

-- the same of arms on a variable of a type
record FitArms (table : Table) (tail : Bool) (facts : Facts) (a : ℕ) (u : TypeTree) (low : ℕ) (arms : Arms) (high : ℕ)
    (t : TypeTree) : Type 0 where
  pub typed : AreArmsTyped table tail facts a u arms t
  pub ordered : OrderedArms (known_in facts) low arms high

fits_give : (table : Table) (tail : Bool) (facts : Facts) (low x high : ℕ) (t : TypeTree) → Has facts x t → low ≤ high
    → Fits table tail facts low (give x) high t
fits_give table tail facts low x high t has le = record { typed = has; ordered = (has_is_known facts x t has, le) }

fits_use : (table : Table) (tail : Bool) (facts : Facts) (low x high : ℕ) (rest : Code) (s t : TypeTree)
    → Has facts x s → Fits table tail facts low rest high t → Fits table tail facts low (use_of x rest) high t
fits_use table tail facts low x high rest s t has fits =
    record { typed = (s, has, fits.typed); ordered = (has_is_known facts x s has, fits.ordered) }

types_are_bound : (facts : Facts) (xs : List ℕ) (ts : List TypeTree) → Typed.HaveTypes facts xs ts → AreBound (known_in facts) xs
types_are_bound facts [] ts have = tt
types_are_bound facts (x ∷ xs) [] have = absurd have
types_are_bound facts (x ∷ xs) (t ∷ ts) have = (has_is_known facts x t have.0, types_are_bound facts xs ts have.1)

fits_compute : (table : Table) (tail : Bool) (facts : Facts) (low x high : ℕ) (form : Form) (xs : List ℕ) (rest : Code)
    (ts : List TypeTree) (s t : TypeTree)
    → Typed.HaveTypes facts xs ts → IsFormTyped table form ts s → low ≤ x
    → Fits table tail (typing x s facts) (x + 1) rest high t → Fits table tail facts low (compute x form xs rest) high t
fits_compute table tail facts low x high form xs rest ts s t have is le fits =
    record { typed = (s, ts, have, is, fits.typed); ordered = (types_are_bound facts xs ts have, le, fits.ordered) }

fits_inside : (table : Table) (tail : Bool) (facts : Facts) (low x high : ℕ) (block rest : Code) (s t : TypeTree)
    → Fits table false facts low block x s → Fits table tail (typing x s facts) (x + 1) rest high t
    → Fits table tail facts low (inside x block rest) high t
fits_inside table tail facts low x high block rest s t first second =
    record { typed = (s, first.typed, second.typed); ordered = (first.ordered, second.ordered) }

fits_case : (table : Table) (tail : Bool) (facts : Facts) (low x high : ℕ) (decisions : List NodeTree) (arms : Arms)
    (u t : TypeTree)
    → Has facts x u → FitArms table tail facts x u low arms high t
    → IsCovered (values_of table.constructors) u (map outline_of (patterns_of arms))
    → Decides table.constructors (patterns_of arms) decisions → Fits table tail facts low (case x decisions arms) high t
fits_case table tail facts low x high decisions arms u t has fits covered decides =
    record { typed = (u, has, fits.typed, covered, decides); ordered = (has_is_known facts x u has, fits.ordered) }

fits_arm : (table : Table) (tail : Bool) (facts : Facts) (a : ℕ) (u : TypeTree) (low middle high : ℕ) (pattern : Pattern)
    (body : Code) (rest : Arms) (t : TypeTree)
    → Has facts a u → IsPatternOf (values_of table.constructors) u (outline_of pattern)
    → Fits table tail (knowing a u pattern facts) low body middle t → FitArms table tail facts a u middle rest high t
    → FitArms table tail facts a u low (arm pattern body rest) high t
fits_arm table tail facts a u low middle high pattern body rest t has of first others =
    record {
      typed = (of, first.typed, others.typed);
      ordered = (
        middle,
        ordered_more (a ∷ known_in facts) (known_in facts) low body middle
            (λ y is. or_else (among_head a (known_in facts) y is)
            (λ same. subst (λ (z : ℕ). is_among (known_in facts) z ≡ true) same (has_is_known facts a u has)) (λ other. other.1))
            first.ordered,
        others.ordered,
      );
    }

fits_truth : (table : Table) → HasTruths table.constructors → (tail : Bool) (facts : Facts) (low x middle high : ℕ)
    (positive negative : Code) (t : TypeTree)
    → Has facts x bool → Fits table tail (knowing x bool true_pattern facts) low positive middle t
    → Fits table tail (knowing x bool false_pattern facts) middle negative high t
    → Fits table tail facts low (truth_case x positive negative) high t
fits_truth table truths tail facts low x middle high positive negative t has first second =
    fits_case table tail facts low x high truth_decisions (arm true_pattern positive (arm false_pattern negative no_arm)) bool t has
    (fits_arm table tail facts x bool low middle high true_pattern positive (arm false_pattern negative no_arm) t has
    (true_typed table.constructors truths) first
    (fits_arm table tail facts x bool middle high high false_pattern negative no_arm t has
    (false_typed table.constructors truths) second (record { typed = tt; ordered = omega arith })))
    (truths_covered table.constructors truths) (truths_decide table.constructors)

-- ---- what comes after an expression

-- What comes after fits, the value in variable a, in all facts that grew from these below n; all numbers that the expression
-- takes are below m, and a is too.
abbrev pub Goes : Table → Bool → Facts → ℕ → Then → ℕ → ℕ → TypeTree → ℕ → TypeTree → Type 0
Goes table tail facts n (final own) a m s high t = (own ≡ true → tail ≡ true) × (s ≡ t) × (m ≤ high)
Goes table tail facts n (next rest) a m s high t =
    (later : Facts) (low : ℕ) → Grows n facts later → Has later a s → a < m → low ≤ m → Fits table tail later low rest high t

fits_after : (table : Table) (tail : Bool) (facts later : Facts) (n low a m high : ℕ) (k : Then) (s t : TypeTree)
    → Goes table tail facts n k a m s high t → Grows n facts later → Has later a s → a < m → low ≤ m
    → Fits table tail later low (after k a) high t
fits_after table tail facts later n low a m high (final own) s t goes grows has less le =
    fits_give table tail later low a high t (subst (λ (u : TypeTree). Has later a u) goes.1 has) (omega (arith, goes.2))
fits_after table tail facts later n low a m high (next rest) s t goes grows has less le = goes later low grows has less le

fits_after_use : (table : Table) (tail : Bool) (facts : Facts) (n low a m high : ℕ) (k : Then) (s t : TypeTree)
    → Goes table tail facts n k a m s high t → Has facts a s → a < m → low ≤ m → Fits table tail facts low (after_use k a) high t
fits_after_use table tail facts n low a m high (final own) s t goes has less le =
    fits_give table tail facts low a high t (subst (λ (u : TypeTree). Has facts a u) goes.1 has) (omega (arith, goes.2))
fits_after_use table tail facts n low a m high (next rest) s t goes has less le =
    fits_use table tail facts low a high rest s t has (goes facts low (grows_not n facts) has less le)

-- what is computed into a variable from n on, and what comes after
fits_computed : (table : Table) (tail : Bool) (facts later : Facts) (n low x m high : ℕ) (k : Then) (form : Form) (xs : List ℕ)
    (ts : List TypeTree) (s t : TypeTree)
    → Goes table tail facts n k x m s high t → Grows n facts later → Typed.HaveTypes later xs ts → IsFormTyped table form ts s
    → n ≤ x → low ≤ x → x + 1 ≤ m → Fits table tail later low (compute x form xs (after k x)) high t
fits_computed table tail facts later n low x m high k form xs ts s t goes grows have is from le room =
    fits_compute table tail later low x high form xs (after k x) ts s t have is le
    (fits_after table tail facts (typing x s later) n (x + 1) x m high k s t goes
    (grows_more n n facts later (typing x s later) (omega arith) grows (grows_one n x s later from)) (has_here x s anything later)
    (omega arith) room)

fits_call : (table : Table) (tail : Bool) (facts later : Facts) (n low x m high : ℕ) (k : Then) (f : ℕ) (xs : List ℕ)
    (ts : List TypeTree) (s t : TypeTree)
    → Goes table tail facts n k x m s high t → Grows n facts later → Typed.HaveTypes later xs ts
    → slice_get table.functions f ≡ Some (record { parameters = ts; result = s })
    → n ≤ x → low ≤ x → x + 1 ≤ m → Fits table tail later low (finish_call k x f xs) high t
fits_call table tail facts later n low x m high (final true) f xs ts s t goes grows have is from le room =
    record {
      typed = (
        goes.0 refl,
        ts,
        have,
        subst (λ (u : TypeTree). slice_get table.functions f ≡ Some
            (record { parameters = ts; result = u })) goes.1 is,
      );
      ordered = (types_are_bound later xs ts have, omega (arith, goes.2));
    }
fits_call table tail facts later n low x m high k f xs ts s t goes grows have is from le room =
    fits_computed table tail facts later n low x m high k (Call f) xs ts s t goes grows have is from le room

fits_form : (table : Table) (tail : Bool) (facts later : Facts) (n low x m high : ℕ) (k : Then) (form : Form) (xs : List ℕ)
    (ts : List TypeTree) (s t : TypeTree)
    → Goes table tail facts n k x m s high t → Grows n facts later → Typed.HaveTypes later xs ts → IsFormTyped table form ts s
    → n ≤ x → low ≤ x → x + 1 ≤ m → Fits table tail later low (finish k x form xs) high t
fits_form table tail facts later n low x m high k (Call f) xs ts s t goes grows have is from le room =
    fits_call table tail facts later n low x m high k f xs ts s t goes grows have is from le room
fits_form table tail facts later n low x m high k form xs ts s t goes grows have is from le room =
    fits_computed table tail facts later n low x m high k form xs ts s t goes grows have is from le room

-- where more comes after a branch, its parts end a block inside
fits_joined : (table : Table) (tail : Bool) (facts later : Facts) (n low x m high : ℕ) (k : Then) (own : Code) (s t : TypeTree)
    → Goes table tail facts n k x m s high t → Grows n facts later → n ≤ x → x + 1 ≤ m
    → ((inner : Bool) (top : ℕ) (u : TypeTree) → Goes table inner later n (within k) x x s top u
    → Fits table inner later low own top u)
    → Fits table tail later low (joined k x own) high t
fits_joined table tail facts later n low x m high (final own_tail) own s t goes grows from room fits =
    fits tail high t (goes.0, goes.1, omega (arith, goes.2))
fits_joined table tail facts later n low x m high (next rest) own s t goes grows from room fits =
    fits_inside table tail later low x high own rest s t (fits false x s ((λ is. is), refl, omega arith))
    (goes (typing x s later) (x + 1) (grows_more n n facts later (typing x s later) (omega arith) grows
    (grows_one n x s later from)) (has_here x s anything later) (omega arith) room)

-- what a part of a branch ends is the end of each part
goes_within : (table : Table) (tail : Bool) (facts later : Facts) (n from a b m to high top : ℕ) (k : Then) (s t : TypeTree)
    → Goes table tail facts n (within k) a m s high t → to ≤ top → Goes table tail later from (within k) b to s top t
goes_within table tail facts later n from a b m to high top (final own) s t goes le = (goes.0, goes.1, le)
goes_within table tail facts later n from a b m to high top (next rest) s t goes le = (goes.0, goes.1, le)

within_high : (table : Table) (tail : Bool) (facts : Facts) (n a m high : ℕ) (k : Then) (s t : TypeTree)
    → Goes table tail facts n (within k) a m s high t → m ≤ high
within_high table tail facts n a m high (final own) s t goes = goes.2
within_high table tail facts n a m high (next rest) s t goes = goes.2

-- what comes after a part that ends an expression
goes_later : (table : Table) (tail : Bool) (facts later : Facts) (n from a m to high : ℕ) (k : Then) (s t : TypeTree)
    → Goes table tail facts n k a m s high t → Grows n facts later → n ≤ from → to ≡ m → Goes table tail later from k a to s high t
goes_later table tail facts later n from a m to high (final own) s t goes grows le same = (goes.0, goes.1, omega (arith, goes.2))
goes_later table tail facts later n from a m to high (next rest) s t goes grows le same =
    λ last low grows_last has less low_le. goes last low (grows_more n from facts later last le grows grows_last) has (omega arith)
    (omega arith)

-- ---- openings

-- what comes behind openings fits, where the same is known below n, and the pattern's variables are named
abbrev Behind : Table → Bool → ℕ → Names → Scope → Facts → Code → ℕ → ℕ → TypeTree → Type 0
Behind table tail n names scope facts rest m high t =
    (later : Facts) (low : ℕ) → SameFacts n facts later → AreNamed names scope later m → low ≤ m
    → Fits table tail later low rest high t

-- the parts' openings fit, whatever else is known
abbrev OpensAll : Table → Bool → ℕ → ℕ → Patterns → List TypeTree → Names → Scope → Code → ℕ → TypeTree → Type 0
OpensAll table tail a n ps us names scope rest high t =
    (facts : Facts) (low : ℕ) → FieldsKnown facts a us ps → a + part_count ps ≤ n → AreNamed names scope facts n → low ≤ n
    → ArePatternsOf (values_of table.constructors) us (outlines_of ps)
    → Behind table tail n (parts_names a n ps names) (with_parts table.constructors ps us scope) facts rest
    (n + parts_size ps) high t
    → Fits table tail facts low (opened_all a n ps rest) high t

of_as_many : (table : Table) (us : List TypeTree) (ps : Patterns)
    → ArePatternsOf (values_of table.constructors) us (outlines_of ps) → AsMany us ps
of_as_many table [] no_part of = tt
of_as_many table [] (part first rest) of = absurd of
of_as_many table (u ∷ us) no_part of = absurd of
of_as_many table (u ∷ us) (part first rest) of = of_as_many table us rest of.1

unpack_fits : (table : Table) (tail : Bool) (a n low c : ℕ) (ps : Patterns) (us : List TypeTree) (names : Names) (scope : Scope)
    (facts : Facts) (rest : Code) (u : TypeTree) (high : ℕ) (t : TypeTree)
    → OpensAll table tail n (n + part_count ps) ps us names scope rest high t
    → fact_in facts a ≡ Some (record { type = u; pattern = constructor c ps }) → field_types table.constructors u c ≡ Some us
    → AreNamed names scope facts n → low ≤ n
    → ArePatternsOf (values_of table.constructors) us (outlines_of ps)
    → Behind table tail n (parts_names n (n + part_count ps) ps names) (with_parts table.constructors ps us scope) facts rest
    (n + (part_count ps + parts_size ps)) high t
    → Fits table tail facts low (opened a n (constructor c ps) rest) high t
unpack_fits table tail a n low c no_part us names scope facts rest u high t inner fact types are le of behind =
    behind facts low (λ x less. refl) (named_later names scope facts facts n (n + (0 + 0)) are (λ x s less has. has) (omega arith))
    (omega arith)
unpack_fits table tail a n low c (part first others) us names scope facts rest u high t inner fact types are le of behind =
    let ps : Patterns = part first others in
    let many : AsMany us ps = of_as_many table us ps of in
    let fields : Facts = knowing_fields (numbers n ps) us ps facts in
    let known = fields_known n us ps facts many in
    let middle : ℕ = n + part_count ps in
    let fits : Fits table tail fields middle (opened_all n middle ps rest) high t
    = inner fields middle known.1 (omega arith) (named_later names scope facts fields n middle are
    (same_grows n facts fields known.0) (omega arith)) (omega arith) of
    (λ later low_later same named_so room. behind later low_later (λ x less. same x (omega arith) ∙ known.0 x less)
    (λ x s is. let one = named_so x s is in (one.0, omega (arith, one.1))) (omega (arith, room))) in
    record {
      typed = (u, us, first, others, fact, types, fields_as_many n us ps many, fits.typed);
      ordered = (
        middle,
        fact_is_known facts a (record { type = u; pattern = constructor c ps }) fact,
        rise_from low n (numbers n ps) middle le (numbers_rise n ps),
        ordered_more (known_in fields) (numbers n ps ++ known_in facts) middle (opened_all n middle ps rest) high
            (known_fields n us ps facts many) fits.ordered,
      );
    }
  where
    rise_from : (low n : ℕ) (xs : List ℕ) (high : ℕ) → low ≤ n → Rise n xs high → Rise low xs high
    rise_from low n [] high le rise = omega (arith, rise)
    rise_from low n (x ∷ xs) high le rise = (omega (arith, rise.0), rise.1)

mutual
  -- the openings of a pattern fit where the pattern is known of the variable, and what comes behind them fits
  opened_fits : (table : Table) (tail : Bool) (a n low : ℕ) (p : Pattern) (names : Names) (scope : Scope) (facts : Facts)
      (rest : Code) (u : TypeTree) (high : ℕ) (t : TypeTree)
      → fact_in facts a ≡ Some (record { type = u; pattern = p }) → a < n → AreNamed names scope facts n → low ≤ n
      → IsPatternOf (values_of table.constructors) u (outline_of p)
      → Behind table tail n (pattern_names a n p names) (with_pattern table.constructors p u scope) facts rest
      (n + pattern_size p) high t
      → Fits table tail facts low (opened a n p rest) high t
  opened_fits table tail a n low anything names scope facts rest u high t fact less are le of behind =
      behind facts low (λ x below. refl) (named_later names scope facts facts n (n + 0) are (λ x s below has. has) (omega arith))
      (omega arith)
  opened_fits table tail a n low (pattern_variable y) names scope facts rest u high t fact less are le of behind =
      behind facts low (λ x below. refl)
      (named_one y a u names scope facts (n + 0) (named_later names scope facts facts n (n + 0) are (λ x s below has. has)
      (omega arith)) (pattern_variable y, fact) (omega arith)) (omega arith)
  opened_fits table tail a n low (exactly m) names scope facts rest u high t fact less are le of behind =
      behind facts low (λ x below. refl) (named_later names scope facts facts n (n + 0) are (λ x s below has. has) (omega arith))
      (omega arith)
  opened_fits table tail a n low (constructor c ps) names scope facts rest u high t fact less are le of behind =
      unpack_fits table tail a n low c ps of.0 names scope facts rest u high t
      (opened_all_fits table tail n (n + part_count ps) ps of.0 names scope rest high t) fact of.1 are le of.2
      (subst (λ (us : List TypeTree). Behind table tail n (parts_names n (n + part_count ps) ps names)
      (with_parts table.constructors ps us scope) facts rest (n + (part_count ps + parts_size ps)) high t)
      (ap types_or_none of.1) behind)

  opened_all_fits : (table : Table) (tail : Bool) (a n : ℕ) (ps : Patterns) (us : List TypeTree) (names : Names) (scope : Scope)
      (rest : Code) (high : ℕ) (t : TypeTree) → OpensAll table tail a n ps us names scope rest high t
  opened_all_fits table tail a n no_part [] names scope rest high t = λ facts low known room are le of behind.
      behind facts low (λ x below. refl) (named_later names scope facts facts n (n + 0) are (λ x s below has. has) (omega arith))
      (omega arith)
  opened_all_fits table tail a n no_part (u ∷ us) names scope rest high t = λ facts low known room are le of behind. absurd of
  opened_all_fits table tail a n (part first others) [] names scope rest high t = λ facts low known room are le of behind. absurd of
  opened_all_fits table tail a n (part first others) (u ∷ us) names scope rest high t = λ facts low known room are le of behind.
      let from : ℕ = n + pattern_size first in
      opened_fits table tail a n low first names scope facts (opened_all (a + 1) from others rest) u high t known.0
      (omega arith) are le of.0
      (λ later low_later same named_so low_le.
      opened_all_fits table tail (a + 1) from others us (pattern_names a n first names)
      (with_pattern table.constructors first u scope) rest high t later low_later
      (fields_still_known facts later n (a + 1) us others same (omega arith) known.1) (omega arith) named_so low_le of.1
      (λ last low_last same_last named_last room_last. behind last low_last (λ x below. same_last x (omega arith) ∙ same x below)
      (λ x s is. let one = named_last x s is in (one.0, omega (arith, one.1))) (omega (arith, room_last))))

-- ---- the code of an expression

-- the patterns of a match's arms are those of its rows
pub patterns_are : (constructors : List ConstructorTree) (k : Then) (names : Names) (a n : ℕ) (of : Rows) (arms : Arms)
    → AreArms constructors k names a n of arms → patterns_of arms ≡ patterns_in of
patterns_are constructors k names a n no_row arms are = ap patterns_of are
patterns_are constructors k names a n (row (row_parts pattern body) rest) arms are =
    ap patterns_of are.2 ∙ ap (λ (more : List Pattern). pattern ∷ more)
    (patterns_are constructors k names a (n + pattern_size pattern + size body) rest are.1 are.4)

mutual
  -- with the names of a scope's variables, the code fits where what comes after it does
  pub code_fits : (table : Table) → HasTruths table.constructors → (tail : Bool) (k : Then) (names : Names) (n : ℕ) (e : Tree) (c : Code) (scope : Scope)
      (facts : Facts) (low high : ℕ) (s t : TypeTree)
      → IsCode table.constructors k names n e c → HasType table scope e s → AreNamed names scope facts n → low ≤ n
      → Goes table tail facts n k (atom names n e) (n + size e) s high t
      → Fits table tail facts low c high t
  code_fits table truths tail k names n (variable x) c scope facts low high s t coded has are le goes =
      let here = are x s has in
      subst (λ (code : Code). Fits table tail facts low code high t) (sym coded)
      (fits_after_use table tail facts n low (name_of names x) (n + 0) high k s t goes here.0 (omega (arith, here.1)) (omega arith))
  code_fits table truths tail k names n (apply form es) c scope facts low high s t coded has are le goes =
      let x : ℕ = n + size_all es in
      codes_fit table truths tail names n es (finish k x form (atoms names n es)) c scope facts low high has.0 t coded has.1 are le
      (λ later low_later grows have room. fits_form table tail facts later n low_later x (n + (size_all es + 1)) high k form
      (atoms names n es) has.0 s t goes grows have has.2 (omega arith) room (omega arith))
  code_fits table truths tail k names n (branch e positive negative) c scope facts low high s t coded has are le goes =
      let a : ℕ = atom names n e in
      let second : ℕ = n + size e in
      let third : ℕ = n + size e + size positive in
      let x : ℕ = n + size e + size positive + size negative in
      let own : Code = truth_case a coded.0 coded.1 in
      code_fits table truths tail (next (joined k x own)) names n e c scope facts low high bool t coded.4 has.0 are le
      (λ later low_later grows has_a less room.
      fits_joined table tail facts later n low_later x (n + (size e + size positive + size negative + 1)) high k own s t goes grows
      (omega arith) (omega arith)
      (λ inner top u inside_goes.
      let is_true : Facts = knowing a bool true_pattern later in
      let is_false : Facts = knowing a bool false_pattern later in
      fits_truth table truths inner later low_later a third top coded.0 coded.1 u has_a
      (code_fits table truths inner (within k) names second positive coded.0 scope is_true low_later third s u coded.2 has.1
      (named_later names scope facts is_true n second are
      (grows_more n n facts later is_true (omega arith) grows (grows_known n a bool true_pattern later has_a)) (omega arith)) room
      (goes_within table inner later is_true n second x (atom names second positive) x third top third k s u inside_goes
      (omega arith)))
      (code_fits table truths inner (within k) names third negative coded.1 scope is_false third top s u coded.3 has.2
      (named_later names scope facts is_false n third are
      (grows_more n n facts later is_false (omega arith) grows (grows_known n a bool false_pattern later has_a)) (omega arith))
      (omega arith)
      (goes_within table inner later is_false n third x (atom names third negative) x
      (third + size negative) top top k s u inside_goes (within_high table inner later n x x top k s u inside_goes)))))
  code_fits table truths tail k names n (match e of) c scope facts low high s t coded has are le goes =
      let a : ℕ = atom names n e in
      let second : ℕ = n + size e in
      let x : ℕ = n + size e + size_rows of in
      let own : Code = case a coded.0 coded.1 in
      let same : patterns_of coded.1 ≡ patterns_in of
      = patterns_are table.constructors (within k) names a second of coded.1 coded.3 in
      code_fits table truths tail (next (joined k x own)) names n e c scope facts low high has.0 t coded.4 has.1 are le
      (λ later low_later grows has_a less room.
      fits_joined table tail facts later n low_later x (n + (size e + size_rows of + 1)) high k own s t goes grows (omega arith)
      (omega arith)
      (λ inner top u inside_goes.
      fits_case table inner later low_later a top coded.0 coded.1 has.0 u has_a
      (arms_fit table truths inner k names a second of coded.1 scope later low_later x top has.0 s u n x coded.3 has.2
      (named_later names scope facts later n second are grows (omega arith)) has_a less room inside_goes
      (within_high table inner later n x x top k s u inside_goes))
      (subst (λ (outlines : List Outline). IsCovered (values_of table.constructors) has.0 outlines)
      (asked_are of ∙ ap (map outline_of) (sym same)) has.3)
      (subst (λ (patterns : List Pattern). Decides table.constructors patterns coded.0) (sym same) coded.2.decides)))
  code_fits table truths tail k names n (sequence binder first rest) c scope facts low high s t coded has are le goes =
      let a : ℕ = atom names n first in
      let from : ℕ = n + size first in
      let bound_names : Names = named (variable_of binder) a names in
      code_fits table truths tail (next coded.0) names n first c scope facts low high has.0 t coded.2 has.1 are le
      (λ later low_later grows has_a less room.
      code_fits table truths tail k bound_names from rest coded.0 (with_binder binder has.0 scope) later low_later high s t coded.1 has.2
      (named_bound binder a has.0 names scope later from
      (named_later names scope facts later n from are grows (omega arith)) has_a less)
      room
      (goes_later table tail facts later n from (atom bound_names from rest) (n + (size first + size rest))
      (from + size rest) high k s t goes grows (omega arith) (omega arith)))

  codes_fit : (table : Table) → HasTruths table.constructors → (tail : Bool) (names : Names) (n : ℕ) (es : Trees) (last c : Code) (scope : Scope) (facts : Facts)
      (low high : ℕ) (ts : List TypeTree) (t : TypeTree)
      → AreCodes table.constructors names n es last c → HaveTypes table scope es ts → AreNamed names scope facts n → low ≤ n
      → ((later : Facts) (low_later : ℕ) → Grows n facts later → Typed.HaveTypes later (atoms names n es) ts
      → low_later ≤ n + size_all es → Fits table tail later low_later last high t)
      → Fits table tail facts low c high t
  codes_fit table truths tail names n no_tree last c scope facts low high [] t coded have are le behind =
      subst (λ (code : Code). Fits table tail facts low code high t) (sym coded)
      (behind facts low (grows_not n facts) tt (omega arith))
  codes_fit table truths tail names n no_tree last c scope facts low high (s ∷ ts) t coded have are le behind = absurd have
  codes_fit table truths tail names n (tree first rest) last c scope facts low high [] t coded have are le behind = absurd have
  codes_fit table truths tail names n (tree first rest) last c scope facts low high (s ∷ ts) t coded have are le behind =
      let a : ℕ = atom names n first in
      let from : ℕ = n + size first in
      code_fits table truths tail (next coded.0) names n first c scope facts low high s t coded.2 have.0 are le
      (λ later low_later grows has_a less room.
      codes_fit table truths tail names from rest last coded.0 scope later low_later high ts t coded.1 have.1
      (named_later names scope facts later n from are grows (omega arith)) room
      (λ last_facts last_low last_grows last_have last_room.
      behind last_facts last_low (grows_more n from facts later last_facts (omega arith) grows last_grows)
      (last_grows a s less has_a, last_have)
      (omega arith)))

  -- the arms of a match whose numbers end below `to`
  arms_fit : (table : Table) → HasTruths table.constructors → (tail : Bool) (k : Then) (names : Names) (a n : ℕ) (of : Rows) (arms : Arms) (scope : Scope)
      (facts : Facts) (low to high : ℕ) (u s t : TypeTree) (m x : ℕ)
      → AreArms table.constructors (within k) names a n of arms → AreRowsTyped table scope of u s → AreNamed names scope facts n
      → Has facts a u → a < n → low ≤ n
      → Goes table tail facts m (within k) x x s high t → n + size_rows of ≤ high
      → FitArms table tail facts a u low arms high t
  arms_fit table truths tail k names a n no_row arms scope facts low to high u s t m x coded typed are has less le goes room =
      subst (λ (all : Arms). FitArms table tail facts a u low all high t) (sym coded) (record { typed = tt; ordered = omega arith })
  arms_fit table truths tail k names a n (row (row_parts pattern body) rest) arms scope facts low to high u s t m x coded typed are has less le goes
      room =
      let from : ℕ = n + pattern_size pattern in
      let end : ℕ = from + size body in
      let names_here : Names = pattern_names a n pattern names in
      let inside_facts : Facts = knowing a u pattern facts in
      subst (λ (all : Arms). FitArms table tail facts a u low all high t) (sym coded.2)
      (fits_arm table tail facts a u low end high pattern (opened a n pattern coded.0) coded.1 t has typed.0
      (opened_fits table tail a n low pattern names scope inside_facts coded.0 u end t (fact_here a u pattern facts) less
      (named_later names scope facts inside_facts n n are (grows_known n a u pattern facts has) (omega arith)) le typed.0
      (λ later low_later same named_so low_le.
      code_fits table truths tail (within k) names_here from body coded.0
      (with_pattern table.constructors pattern u scope) later low_later end s t coded.3 typed.1 named_so low_le
      (goes_within table tail facts later m from x (atom names_here from body) x end high end k s t goes (omega arith))))
      (arms_fit table truths tail k names a end rest coded.1 scope facts end to high u s t m x coded.4 typed.2
      (named_later names scope facts facts n end are (λ y r below known. known) (omega arith)) has (omega arith) (omega arith) goes
      (omega arith)))
