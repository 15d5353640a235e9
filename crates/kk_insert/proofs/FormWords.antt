-- The words of single forms of inserted code, and of its arms, by those of the code behind them.
use Rattle.std.proofs.Common.{◌≡◌, ℕ, suc, ◌+◌, ◌-◌, ◌*◌, ◌≤◌, ◌||◌, ◌&&◌, Bool, true, false, not, List, [], ◌∷◌, ◌++◌, length, arith, refl, ap}
use Rattle.std.proofs.lemmas.Nat.{mul-le}
use Rattle.std.specs.Prelude.{if◌then◌else◌}
use Rattle.kk_syntax.specs.declared.program.Form.{Form}
use Rattle.kk_syntax.specs.Patterns.{Pattern}
use Rattle.kk_syntax.specs.PositionsOf.{PositionTable}
use Rattle.kk_syntax.specs.Shapes.{is_among, without}
use Rattle.kk_core.specs.Codes.{Code, give, tail_call, case, compute, use_of, unpack, inside, Arms, no_arm, arm, patterns_of}
use Rattle.kk_core.specs.CaseLengths.{brief_node_length, brief_pair_length, most_brief}
use Rattle.kk_core.specs.CodeNodes.{are_truths, gives, other_nodes, arms_other_nodes, first_fields, case_nodes, form_words, plain_words}
use Rattle.kk_core.specs.CodeNodes.{reference_length, case_words, opening_words, opened_field_words, drops_words}
use Rattle.kk_core.specs.Sizes.{most_parameters}
use Rattle.kk_counted.proofs.ListLengths.{filter_few}
use Rattle.kk_counted.specs.CountedCodes as Counted
use Rattle.kk_counted.specs.Spending.{total, AreApart}
use Rattle.kk_counted.specs.TokenLengths.{other_length, free_length, move_length}
use Rattle.kk_insert.specs.Insertion.{common, dups, drops, dropping, opening, owns, wants, back, used, lends, own, insert}
use Rattle.kk_insert.proofs.Gains.{used_few, lends_few}
use Rattle.kk_insert.proofs.InsertedNodes.{some_nodes, fields_few, bodies_nodes}
use Rattle.kk_insert.proofs.Lengths.{wants_few, before_few}
use Rattle.kk_insert.proofs.NeededWords.{needs, needs_give, needs_compute, needs_read, needs_open, needs_dups, needs_drops}
use Rattle.kk_insert.proofs.OwnedClasses.{part_total, field_weight, result_weight, one_result, no_field, opened_fields, field_spent}
use Rattle.kk_insert.proofs.OwnedVariables.{owns_after, owns_apart}
use Rattle.kk_insert.proofs.Sets.{no_both, false_if, Part, filter_in, apart_filter}
use Rattle.kk_insert.proofs.WordRooms.{room, arms_room, room_value, room_compute, room_read, room_turn, room_token, room_arm, room_case, room_branch}

-- ---- tests

abbrev pub one_if : Bool → ℕ
one_if t = if t then 1 else 0

one_both : (a b : Bool) → one_if (a && b) ≤ one_if a
one_both true true = omega arith
one_both true false = omega arith
one_both false b = omega arith

or_false : (a b : Bool) → (a || b) ≡ false → (a ≡ false) × (b ≡ false)
or_false true b is = absurd (cc)
or_false false b is = (refl, is)

-- the patterns of an `if` are two
pub truths_two : (patterns : List Pattern) → are_truths patterns ≡ true → length patterns ≡ 2
truths_two [] is = absurd (cc)
truths_two (one ∷ []) is = absurd (cc)
truths_two (one ∷ (two ∷ [])) is = refl
truths_two (one ∷ (two ∷ (three ∷ more))) is = absurd (cc)

none_both : (a b : Bool) → b ≡ false → one_if (a && b) ≡ 0
none_both true true is = absurd (cc)
none_both true false is = refl
none_both false b is = refl

-- ---- an opening

-- the words of an opening of so many fields, by those behind it
words_before : (need behind plain fields first looks room_behind whole : ℕ)
    → need ≤ 2 * opening_words + 2 * opened_field_words * fields + behind
    → behind + 2 * brief_pair_length * (first * first + 2 * ((looks + fields) * first)) ≤ 2 * plain + room_behind
    → room_behind + 2 * brief_pair_length * (fields * fields + 2 * (looks * fields)) ≤ whole
    → need + 2 * brief_pair_length * ((fields + first) * (fields + first) + 2 * (looks * (fields + first)))
    ≤ 2 * (opening_words + opened_field_words * fields + plain) + whole
words_before need behind plain fields first looks room_behind whole one two three = omega (arith, one, two, three)

-- Where the code behind an opening needs no more than its room, so does the opening. Where the cell stays, its fields are owned
-- besides. Where it is given up it becomes a token: a field is owned no more, the arm has one to spare, or the opening has a node
-- of its own.
pub opening_needs : (positions : PositionTable) (lent fields : List ℕ) (opens : Bool) (v f t m h s x c : ℕ) (xs now : List ℕ)
    (code : Counted.Counted) (plain first p : ℕ) → 1 ≤ length xs → AreApart xs → AreApart now
    → total (field_weight fields) (owns lent (x ∷ []) (without xs now)) ≤ f → m + one_if opens ≤ t → h ≤ f + t
    → ((f' t' m' : ℕ) → total (field_weight (xs ++ fields)) now ≤ f' → m' + one_if (opens && is_among fields x) ≤ t'
    → h + length xs ≤ f' + t'
    → needs m' code + 2 * brief_pair_length * (first * first + 2 * ((h + length xs) * first)) ≤ 2 * plain + room v f' t' p s)
    → needs m (opening (is_among lent x || is_among now x) x c xs (common now xs) code)
    + 2 * brief_pair_length * ((length xs + first) * (length xs + first) + 2 * (h * (length xs + first)))
    ≤ 2 * (opening_words + opened_field_words * length xs + plain)
    + room v f t (length xs + (if is_among fields x || opens then 0 else 1) + p) s
opening_needs positions lent fields opens v f t m h s x c xs now code plain first p some apart_xs apart most tokens tests
    later = by_test (is_among lent x || is_among now x) refl
  where
    each : total (field_weight (xs ++ fields)) now ≤ f + length xs
    each =
        let kept = apart_filter (λ z. not (is_among xs z)) now apart in
        omega (
          arith,
          opened_fields fields xs now apart_xs apart,
          part_total (field_weight fields) (without xs now) (owns lent (x ∷ []) (without xs now)) kept
              (owns_apart positions lent (x ∷ []) (without xs now) kept) (owns_after positions lent (x ∷ []) (without xs now)),
          most,
        )

    Goal : Bool → Bool → Bool → Type 0
    Goal stays field spare =
        needs m (opening stays x c xs (common now xs) code)
        + 2 * brief_pair_length * ((length xs + first) * (length xs + first) + 2 * (h * (length xs + first)))
        ≤ 2 * (opening_words + opened_field_words * length xs + plain)
        + room v f t (length xs + (if field || spare then 0 else 1) + p) s

    open_needs : needs m (opening false x c xs (common now xs) code)
        ≤ 2 * opening_words + 2 * opened_field_words * length xs + needs (m + 1) code
    open_needs = omega (arith, needs_open m x c xs (common now xs) code)

    by_field : (field spare : Bool) → is_among fields x ≡ field → opens ≡ spare → is_among lent x ≡ false → is_among now x ≡ false
        → Goal false field spare
    by_field true spare is_field is_spare unlent last =
        let gone = false_if (is_among (without xs now) x)
        (λ there. no_both ⊥ (is_among now x) (filter_in (λ z. not (is_among xs z)) now x there) last) in
        let spent = field_spent fields lent x (without xs now) unlent gone is_field in
        let fewer = opened_fields fields xs now apart_xs apart in
        let behind = later (f - 1 + length xs) (t + 1) (m + 1) (omega (arith, fewer, spent, most))
        (omega (arith, one_both opens (is_among fields x), tokens)) (omega (arith, spent, most, tests)) in
        let turned = room_turn v (f - 1) t p s (length xs) h some (omega (arith, spent, most, tests)) in
        words_before (needs m (opening false x c xs (common now xs) code)) (needs (m + 1) code) plain (length xs) first h
        (room v (f - 1 + length xs) (t + 1) p s) (room v f t (length xs + 0 + p) s) open_needs behind
        (omega (
          arith,
          turned,
          ap (λ n. room v n t (length xs + p) s) (let same : f - 1 + 1 ≡ f = omega (arith, spent, most) in same),
          ap (λ n. room v f t n s) (let same : length xs + p ≡ length xs + 0 + p = omega arith in same),
        ))
    by_field false true is_field is_spare unlent last =
        let behind = later (f + length xs) t (m + 1) each
        (omega (arith, none_both opens (is_among fields x) is_field, ap one_if is_spare, tokens)) (omega (arith, tests)) in
        words_before (needs m (opening false x c xs (common now xs) code)) (needs (m + 1) code) plain (length xs) first h
        (room v (f + length xs) t p s) (room v f t (length xs + 0 + p) s) open_needs behind
        (room_read v f t p s (length xs) 0 h tests)
    by_field false false is_field is_spare unlent last =
        let behind = later (f + length xs) (t + 1) (m + 1) each
        (omega (arith, none_both opens (is_among fields x) is_field, tokens)) (omega (arith, tests)) in
        words_before (needs m (opening false x c xs (common now xs) code)) (needs (m + 1) code) plain (length xs) first h
        (room v (f + length xs) (t + 1) p s) (room v f t (length xs + 1 + p) s) open_needs behind
        (room_token v f t p s (length xs) h tests)

    by_test : (stays : Bool) → (is_among lent x || is_among now x) ≡ stays → Goal stays (is_among fields x) opens
    by_test true is =
        let own_nodes : ℕ = if is_among fields x || opens then 0 else 1 in
        words_before (needs m (opening true x c xs (common now xs) code)) (needs m code) plain (length xs) first h
        (room v (f + length xs) t p s) (room v f t (length xs + own_nodes + p) s)
        (omega (
          arith,
          needs_read m x c xs (dups (common now xs) code),
          needs_dups m (common now xs) code,
          filter_few (is_among now) xs,
        ))
        (later (f + length xs) t m each (omega (arith, one_both opens (is_among fields x), tokens)) (omega (arith, tests)))
        (room_read v f t p s (length xs) own_nodes h tests)
    by_test false is =
        by_field (is_among fields x) opens refl refl (or_false (is_among lent x) (is_among now x) is).0
        (or_false (is_among lent x) (is_among now x) is).1

-- ---- a form on values

-- the room of a form, by that of the code behind it, or without it where the code ends with the value
pub value_room : (v f t m p s x need : ℕ) (rest : Code) → m ≤ t → (if gives x rest then 1 else 1 + other_nodes rest) ≡ s + 1
    → (gives x rest ≡ true → need ≤ 2 * plain_words rest)
    → need ≤ 2 * plain_words rest + room (v + 1) f t p (other_nodes rest - 1)
    → need + 2 * other_length * m ≤ 2 * plain_words rest + room v f t p s
value_room v f t m p s x need rest few same ending behind = by_test (gives x rest) refl same
  where
    by_test : (t' : Bool) → gives x rest ≡ t' → (if t' then 1 else 1 + other_nodes rest) ≡ s + 1
        → need + 2 * other_length * m ≤ 2 * plain_words rest + room v f t p s
    by_test true is equal = let last = ending is in omega (arith, last, room_value v f t p s, few)
    by_test false is equal =
        let some = some_nodes rest in
        let next : other_nodes rest - 1 + 1 ≡ s = omega (arith, some, equal) in
        omega (arith, behind, room_compute v f t p (other_nodes rest - 1), ap (room v f t p) next, few)

module _ (positions : PositionTable) (lent : List ℕ) where
  -- what comes before the code behind a form: its dups, its drops, and its tokens
  pub compute_needs : (m : ℕ) (left : List ℕ) (x : ℕ) (form : Form) (arguments : List ℕ) (rest : Code)
      → needs m (insert positions lent left (compute x form arguments rest))
      ≤ 2 * (form_words form arguments + 2 * reference_length * length arguments + reference_length) + 2 * other_length * m
      + needs m (insert positions lent left rest)
  compute_needs m left x form arguments rest =
      let now = own positions lent left rest in
      let given = lends positions form arguments in
      let kept = without (x ∷ []) now in
      let code = insert positions lent left rest in
      let after = owns lent given kept in
      omega (
        arith,
        needs_dups m (wants lent (used positions form arguments) after)
            (Counted.compute x form arguments (back lent given x now code)),
        needs_compute m x form arguments (back lent given x now code),
        needs_drops m (without kept after) (dropping (x ∷ []) now code),
        needs_drops m (without now (x ∷ [])) code,
        wants_few lent (used positions form arguments) after,
        used_few positions form arguments,
        before_few (without lent given) kept,
        filter_few (λ y. not (is_among lent y)) given,
        lends_few positions form arguments,
        filter_few (λ y. not (is_among now y)) (x ∷ []),
      )

  -- a code that ends at once with a value
  pub value_words : (m : ℕ) (left : List ℕ) (x : ℕ) (code : Code) → gives x code ≡ true
      → needs m (insert positions lent left code) ≤ 2 * plain_words code
  value_words m left x (give y) is =
      omega (arith, needs_dups m (wants lent (y ∷ []) left) (Counted.give y), needs_give m y, wants_few lent (y ∷ []) left)
  value_words m left x (tail_call f arguments) is = absurd (cc)
  value_words m left x (case y decisions arms) is = absurd (cc)
  value_words m left x (compute y form arguments rest) is = absurd (cc)
  value_words m left x (use_of y rest) is = absurd (cc)
  value_words m left x (unpack y c fields rest) is = absurd (cc)
  value_words m left x (inside y block rest) is = absurd (cc)

-- behind the binding of a variable, which is no field, at most one result more is owned
pub bound_few : (parameters fields : List ℕ) (v f x : ℕ) (now all : List ℕ) → AreApart now → AreApart all
    → Part (without (x ∷ []) now) all → is_among fields x ≡ false → total (result_weight parameters fields) all ≤ v
    → total (field_weight fields) all ≤ f
    → (total (result_weight parameters fields) now ≤ v + 1) × (total (field_weight fields) now ≤ f)
bound_few parameters fields v f x now all apart each into fresh results held =
    let kept = apart_filter (λ z. not (is_among (x ∷ []) z)) now apart in (
      omega (
        arith,
        one_result parameters fields x now apart,
        part_total (result_weight parameters fields) (without (x ∷ []) now) all kept each into,
        results,
      ),
      omega (
        arith,
        no_field fields x now apart fresh,
        part_total (field_weight fields) (without (x ∷ []) now) all kept each into,
        held,
      ),
    )

-- ---- arms

-- the fields of their first openings, and their other nodes but for one each
abbrev pub arms_fields : Arms → ℕ
arms_fields no_arm = 0
arms_fields (arm pattern body rest) = first_fields body + arms_fields rest

abbrev pub arms_behind : Arms → ℕ
arms_behind no_arm = 0
arms_behind (arm pattern body rest) = other_nodes body - 1 + arms_behind rest

pub arms_others : (arms : Arms) → arms_other_nodes arms ≡ length (patterns_of arms) + arms_behind arms
arms_others no_arm = refl
arms_others (arm pattern body rest) = omega (arith, arms_others rest, some_nodes body)

pub arms_tests : (arms : Arms) → case_nodes arms ≡ length (patterns_of arms) + arms_fields arms
arms_tests no_arm = refl
arms_tests (arm pattern body rest) = omega (arith, arms_tests rest)

pub arms_fields_few : (fields : List ℕ) (opens : Bool) (arms : Arms) → arms_fields arms ≤ bodies_nodes fields opens arms
arms_fields_few fields opens no_arm = omega arith
arms_fields_few fields opens (arm pattern body rest) =
    omega (arith, fields_few fields opens body, arms_fields_few fields opens rest)

-- the words of an arm and those behind it
pub arm_before : (v f t m k p q s z g h need_arm need_body need_rest plain_body plain_rest drops_body drops_rest : ℕ)
    → need_arm ≤ 2 * free_length * m + (2 * reference_length * drops_body + need_body) + need_rest
    + 2 * move_length * (p + q * (s + 1) + p * (k + z))
    → need_body + 2 * brief_pair_length * (g * g) ≤ 2 * plain_body + room v f t p s
    → need_rest + 2 * brief_pair_length * (h * h)
    ≤ 2 * plain_rest + 2 * reference_length * drops_rest + 2 * free_length * (k * m) + arms_room v f t k q z + 2 * move_length * q
    → g ≤ p → h ≤ q
    → need_arm + 2 * brief_pair_length * ((g + h) * (g + h))
    ≤ 2 * (plain_body + plain_rest) + 2 * reference_length * (drops_body + drops_rest) + 2 * free_length * (suc k * m)
    + arms_room v f t (suc k) (p + q) (s + z) + 2 * move_length * (p + q)
arm_before v f t m k p q s z g h need_arm need_body need_rest plain_body plain_rest drops_body drops_rest one two three few fewer =
    omega (arith, one, two, three, room_arm v f t p s k q z g h few fewer)

-- the words of a case, but for those of its patterns
pub case_before : (v f t m j p s g need arms tests plain drops all : ℕ) → need ≡ 2 * case_words + 2 * tests + arms
    → tests ≤ most_brief (suc j + g)
    → arms + 2 * brief_pair_length * (g * g)
    ≤ 2 * plain + 2 * reference_length * drops + 2 * free_length * (suc j * m) + arms_room v f (t + 1) (suc j) p s
    + 2 * move_length * p
    → drops ≤ j * all + 1 → all ≤ most_parameters + f + v → m ≤ t → g ≤ p
    → need ≤ 2 * (case_words + reference_length + brief_node_length * (suc j + g) + drops_words * j + plain)
    + room v f t (suc j + p) (suc j + s)
case_before v f t m j p s g need arms tests plain drops all is brief each dropped owned few fields =
    let most = mul-le j all j (most_parameters + f + v) (omega arith) owned in
    omega (arith, is, brief, each, dropped, most, room_case v f t j p s m g few fields)

-- the same of an `if`
pub branch_before : (v f t m p s need arms tests plain drops all fields : ℕ) → need ≡ 2 * case_words + 2 * tests + arms
    → arms + fields
    ≤ 2 * plain + 2 * reference_length * drops + 2 * free_length * (2 * m) + arms_room v f t 2 p s + 2 * move_length * p
    → drops ≤ 1 * all + 1 → all ≤ most_parameters + f + v → m ≤ t
    → need ≤ 2 * (case_words + reference_length + tests + drops_words * 1 + plain) + room v f t p (2 + s)
branch_before v f t m p s need arms tests plain drops all fields is each dropped owned few =
    omega (arith, is, each, dropped, owned, room_branch v f t p s m few)
