-- The edges of a test lead on for each answer of its kind.
use Rattle.std.proofs.Common.{◌≡◌, ℕ, zero, suc, ◌+◌, ◌<◌, Bool, true, false, not, ◌&&◌, ◌||◌, ◌⊎◌, ◌≤◌, nat_eq, Option, None, Some, List, [], ◌∷◌, ◌++◌, length, get_or, map, refl, sym, ap, ◌∙◌, subst, inl, inr, arith, add-zero, length-append}
use Rattle.std.specs.Prelude.{slice_get, if◌then◌else◌, ◌==◌}
use Rattle.std.specs.List.{list_any}
use Rattle.std.proofs.lemmas.Bool.{cases_Bool, both_ways, eqb-true, eq-eqb}
use Rattle.std.proofs.lemmas.Bool.Decides.{Decides-int_eq}
use Rattle.std.proofs.lemmas.List.{length-map}
use Rattle.std.proofs.lemmas.List.Folds.{list_any-append}
use Rattle.std.proofs.lemmas.Option.{slice_get_within}
use lib.Pointwise.{pointwise, bytes_decides}
use Rattle.kk_syntax.specs.Shapes.{is_among}
use Rattle.kk_core.specs.declared.decisions.Answer.{Answer}
use Rattle.kk_core.specs.declared.decisions.Answer.TheVariants.{Number, Constructor}
use Rattle.kk_core.specs.declared.decisions.Edge.{Edge}
use Rattle.kk_core.specs.Decisions.{tests, targets, is_answer, next_by}
use Rattle.kk_match.specs.Parts.{Part, both_same, is_kind, IsKind}
use Rattle.kk_match.specs.Graphs.{StateTree, after, test_of, parts_at, weight_at}
use Rattle.kk_match.specs.Outcomes.{is_listed, with_asked, with_parts, with_lines, unlisted_from, unlisted, IsOutcome}
use Rattle.kk_match.specs.Built.{Names, AreOfKind, Branches}
use Rattle.kk_match.specs.GraphGrowth.{EdgesLead, OtherLeads}
use Rattle.kk_match.proofs.StateAfterAnswer.{LacksIn, Lacks, after_same}
use Rattle.kk_match.proofs.StateEquality.{answer_decides, neither}

pub either : (a b : Bool) → (a || b) ≡ true → (a ≡ true) ⊎ (b ≡ true)
either true b any = inl refl
either false b any = inr any

own : (a : Answer) → is_answer a a ≡ true
own (Number n) = (Decides-int_eq n n).1 refl
own (Constructor c) = eq-eqb c c refl

pub swapped : (one other : Answer) → is_answer other one ≡ true → is_answer one other ≡ true
swapped one other same = subst (λ x. is_answer one x ≡ true) (sym (answer_decides other one same)) (own one)

pub unlike : (one other : Answer) → is_answer other one ≡ false → is_answer one other ≡ false
unlike one other differ = elim (cases_Bool (is_answer one other)) [
  | inl same ↦ absurd (both_ways (is_answer other one) differ (swapped other one same))
  | inr differs ↦ differs
]

-- ---- the answers that are asked

abbrev pub AreKind : List ℕ → Answer → List Answer → Type 0
AreKind types asked answers = (found : Answer) → is_listed answers found ≡ true → IsKind types asked found

kind_pushed : (types : List ℕ) (asked : Answer) (answers : List Answer) (last : Answer) → AreKind types asked answers → IsKind types asked last → AreKind types asked (answers ++ last ∷ [])
kind_pushed types asked answers last kind here found listed =
    elim (either (is_listed answers found) (is_answer found last || false) (sym (list_any-append (is_answer found) answers (last ∷ [])) ∙ listed)) [
      | inl before ↦ kind found before
      | inr behind ↦ subst (IsKind types asked) (sym (answer_decides found last (only (is_answer found last) behind))) here
    ]
  where
    only : (b : Bool) → (b || false) ≡ true → b ≡ true
    only true e = refl
    only false e = e

kind_asked : (types : List ℕ) (test : Part) (answers : List Answer) (q : Part) → AreKind types test.asked answers → AreKind types test.asked (with_asked types test answers q)
kind_asked types test answers q kind = by (pointwise nat_eq q.at test.at) (is_kind types test.asked q.asked) (is_listed answers q.asked) refl
  where
    by : (here same listed : Bool) → is_kind types test.asked q.asked ≡ same
        → AreKind types test.asked (if here && (same && not listed) then answers ++ q.asked ∷ [] else answers)
    by false same listed is = kind
    by true false listed is = kind
    by true true true is = kind
    by true true false is = kind_pushed types test.asked answers q.asked kind is

kind_parts : (types : List ℕ) (test : Part) (answers : List Answer) (qs : List Part) → AreKind types test.asked answers → AreKind types test.asked (with_parts types test answers qs)
kind_parts types test answers [] kind = kind
kind_parts types test answers (q ∷ qs) kind = kind_parts types test (with_asked types test answers q) qs (kind_asked types test answers q kind)

pub kind_lines : (types : List ℕ) (test : Part) (answers : List Answer) (lines : StateTree) → AreKind types test.asked answers → AreKind types test.asked (with_lines types test answers lines)
kind_lines types test answers [] kind = kind
kind_lines types test answers (line ∷ lines) kind = kind_lines types test (with_parts types test answers line.left) lines (kind_parts types test answers line.left kind)

listed_at : (answers : List Answer) (i : ℕ) (d : Answer) → i < length answers → is_listed answers (get_or answers i d) ≡ true
listed_at [] i d lt = absurd (omega (arith, lt))
listed_at (a ∷ answers) zero d lt = ap (λ b. b || is_listed answers a) (own a)
listed_at (a ∷ answers) (suc i) d lt = or_else (is_answer (get_or answers i d) a) (is_listed answers (get_or answers i d)) (listed_at answers i d (omega (arith, lt)))
  where
    or_else : (a b : Bool) → b ≡ true → (a || b) ≡ true
    or_else true b is = refl
    or_else false b is = is

-- each answer that is asked is of the test's kind
pub kind_at : (types : List ℕ) (test : Part) (lines : StateTree) (answers : List Answer) (i : ℕ) (d : Answer) → answers ≡ with_lines types test [] lines → i < length answers
    → IsKind types test.asked (get_or answers i d)
kind_at types test lines answers i d are lt =
    kind_lines types test [] lines (λ a none. absurd (both_ways false refl none)) (get_or answers i d) (subst (λ given. is_listed given (get_or answers i d) ≡ true) are (listed_at answers i d lt))

-- what is listed stays
listed_pushed : (answers : List Answer) (last found : Answer) → is_listed answers found ≡ true → is_listed (answers ++ last ∷ []) found ≡ true
listed_pushed answers last found listed = list_any-append (is_answer found) answers (last ∷ []) ∙ ap (λ b. b || list_any (is_answer found) (last ∷ [])) listed

last_listed : (answers : List Answer) (last found : Answer) → is_answer found last ≡ true → is_listed (answers ++ last ∷ []) found ≡ true
last_listed answers last found same =
    list_any-append (is_answer found) answers (last ∷ []) ∙ (ap (λ b. is_listed answers found || (b || false)) same ∙ or_true (is_listed answers found))
  where
    or_true : (b : Bool) → (b || true) ≡ true
    or_true true = refl
    or_true false = refl

stays_asked : (types : List ℕ) (test : Part) (answers : List Answer) (q : Part) (found : Answer) → is_listed answers found ≡ true → is_listed (with_asked types test answers q) found ≡ true
stays_asked types test answers q found listed = by (pointwise nat_eq q.at test.at && (is_kind types test.asked q.asked && not (is_listed answers q.asked)))
  where
    by : (new : Bool) → is_listed (if new then answers ++ q.asked ∷ [] else answers) found ≡ true
    by true = listed_pushed answers q.asked found listed
    by false = listed

stays_parts : (types : List ℕ) (test : Part) (answers : List Answer) (qs : List Part) (found : Answer) → is_listed answers found ≡ true → is_listed (with_parts types test answers qs) found ≡ true
stays_parts types test answers [] found listed = listed
stays_parts types test answers (q ∷ qs) found listed = stays_parts types test (with_asked types test answers q) qs found (stays_asked types test answers q found listed)

stays_lines : (types : List ℕ) (test : Part) (answers : List Answer) (lines : StateTree) (found : Answer) → is_listed answers found ≡ true → is_listed (with_lines types test answers lines) found ≡ true
stays_lines types test answers [] found listed = listed
stays_lines types test answers (line ∷ lines) found listed = stays_lines types test (with_parts types test answers line.left) lines found (stays_parts types test answers line.left found listed)

-- what a part asks at the position is listed, if it is of the kind
asked_listed : (types : List ℕ) (test : Part) (answers : List Answer) (q : Part) (found : Answer) → q.at ≡ test.at → IsKind types test.asked found → is_answer found q.asked ≡ true
    → is_listed (with_asked types test answers q) found ≡ true
asked_listed types test answers q found here kind same =
    by (pointwise nat_eq q.at test.at) (is_kind types test.asked q.asked) (is_listed answers q.asked)
    ((bytes_decides q.at test.at).1 here)
    (subst (IsKind types test.asked) (answer_decides found q.asked same) kind)
    (λ listed. subst (λ a. is_listed answers a ≡ true) (sym (answer_decides found q.asked same)) listed) refl
  where
    by : (at kind listed : Bool) → at ≡ true → kind ≡ true → (is_listed answers q.asked ≡ true → is_listed answers found ≡ true) → is_listed answers q.asked ≡ listed
        → is_listed (if at && (kind && not listed) then answers ++ q.asked ∷ [] else answers) found ≡ true
    by true true true a k there is = there is
    by true true false a k there is = last_listed answers q.asked found same
    by true false listed a k there is = absurd (both_ways false refl k)
    by false kind listed a k there is = absurd (both_ways false refl a)

lacks_parts : (types : List ℕ) (test : Part) (answers : List Answer) (qs : List Part) (found : Answer) → IsKind types test.asked found
    → is_listed (with_parts types test answers qs) found ≡ false → LacksIn test.at (Some found) qs
lacks_parts types test answers [] found kind none = tt
lacks_parts types test answers (q ∷ qs) found kind none = (
  λ here. elim (cases_Bool (is_answer found q.asked)) [
    | inl same ↦ absurd (both_ways (is_listed (with_parts types test answers (q ∷ qs)) found) none (stays_parts types test (with_asked types test answers q) qs found (asked_listed types test answers q found here kind same)))
    | inr other ↦ other
  ],
  lacks_parts types test (with_asked types test answers q) qs found kind none,
)

lacks_lines : (types : List ℕ) (test : Part) (answers : List Answer) (lines : StateTree) (found : Answer) → IsKind types test.asked found
    → is_listed (with_lines types test answers lines) found ≡ false → Lacks test.at (Some found) lines
lacks_lines types test answers [] found kind none = tt
lacks_lines types test answers (line ∷ lines) found kind none = (
  lacks_parts types test answers line.left found kind
      (elim (cases_Bool (is_listed (with_parts types test answers line.left) found)) [
        | inl listed ↦ absurd (both_ways (is_listed (with_lines types test answers (line ∷ lines)) found) none (stays_lines types test (with_parts types test answers line.left) lines found listed))
        | inr differs ↦ differs
      ]),
  lacks_lines types test (with_parts types test answers line.left) lines found kind none,
)

lacks_none_in : (at : List ℕ) (qs : List Part) → LacksIn at None qs
lacks_none_in at [] = tt
lacks_none_in at (q ∷ qs) = (λ here. refl, lacks_none_in at qs)

lacks_none : (at : List ℕ) (lines : StateTree) → Lacks at None lines
lacks_none at [] = tt
lacks_none at (line ∷ lines) = (lacks_none_in at line.left, lacks_none at lines)

-- ---- what is not listed

-- what may lead on besides the listed answers
abbrev pub Rest : List ℕ → Answer → List Answer → Option (Option Answer) → Type 0
Rest types asked answers None = (found : Answer) → IsKind types asked found → is_listed answers found ≡ true
Rest types asked answers (Some None) = IsOutcome types asked None
Rest types asked answers (Some (Some found)) = IsKind types asked found × (is_listed answers found ≡ false)

-- the same of constructors from one of a number on
abbrev RestFrom : List ℕ → Answer → List Answer → ℕ → ℕ → Option (Option Answer) → Type 0
RestFrom types asked answers d count None = (k : ℕ) → k < count → IsKind types asked (Constructor (d + k)) → is_listed answers (Constructor (d + k)) ≡ true
RestFrom types asked answers d count (Some None) = ⊥
RestFrom types asked answers d count (Some (Some found)) = IsKind types asked found × (is_listed answers found ≡ false)

rest_one : (types : List ℕ) (asked : Answer) (answers : List Answer) (d count : ℕ) (rest : Option (Option Answer)) → (IsKind types asked (Constructor d) → is_listed answers (Constructor d) ≡ true)
    → RestFrom types asked answers (d + 1) count rest → RestFrom types asked answers d (suc count) rest
rest_one types asked answers d count None here behind =
    λ k lt. by k lt
  where
    by : (k : ℕ) → k < suc count → IsKind types asked (Constructor (d + k)) → is_listed answers (Constructor (d + k)) ≡ true
    by zero lt = subst (λ n. IsKind types asked (Constructor n) → is_listed answers (Constructor n) ≡ true) (sym (add-zero d)) here
    by (suc k) lt = let is : (d + 1) + k ≡ d + suc k = omega arith in subst (λ n. IsKind types asked (Constructor n) → is_listed answers (Constructor n) ≡ true) is (behind k (omega arith))
rest_one types asked answers d count (Some None) here behind = behind
rest_one types asked answers d count (Some (Some found)) here behind = behind

rest_from : (types : List ℕ) (asked : Answer) (answers : List Answer) (d : ℕ) (ofs : List ℕ) → RestFrom types asked answers d (length ofs) (unlisted_from types asked answers d ofs)
rest_from types asked answers d [] = λ k lt. absurd (omega (arith, lt))
rest_from types asked answers d (of ∷ ofs) = by (is_kind types asked (Constructor d)) (is_listed answers (Constructor d)) refl refl (rest_from types asked answers (d + 1) ofs)
  where
    by : (kind listed : Bool) → is_kind types asked (Constructor d) ≡ kind → is_listed answers (Constructor d) ≡ listed
        → RestFrom types asked answers (d + 1) (length ofs) (unlisted_from types asked answers (d + 1) ofs)
        → RestFrom types asked answers d (length (of ∷ ofs)) (if kind && not listed then Some (Some (Constructor d)) else unlisted_from types asked answers (d + 1) ofs)
    by true false is none behind = (is, none)
    by true true is there behind = rest_one types asked answers d (length ofs) (unlisted_from types asked answers (d + 1) ofs) (λ kind. there) behind
    by false listed is there behind = rest_one types asked answers d (length ofs) (unlisted_from types asked answers (d + 1) ofs) (λ kind. absurd (both_ways (is_kind types asked (Constructor d)) is kind)) behind

both_there : (one other : Option ℕ) → both_same one other ≡ true → (of : ℕ) × (other ≡ Some of)
both_there (Some of) (Some other) same = (other, refl)
both_there (Some of) None same = absurd (both_ways false refl same)
both_there None other same = absurd (both_ways false refl same)

pub rest_right : (types : List ℕ) (asked : Answer) (answers : List Answer) → Rest types asked answers (unlisted types asked answers)
rest_right types (Number n) answers = tt
rest_right types (Constructor c) answers = by (unlisted_from types (Constructor c) answers 0 types) (rest_from types (Constructor c) answers 0 types)
  where
    by : (rest : Option (Option Answer)) → RestFrom types (Constructor c) answers 0 (length types) rest → Rest types (Constructor c) answers rest
    by None all = λ found kind. each found kind
      where
        each : (found : Answer) → IsKind types (Constructor c) found → is_listed answers found ≡ true
        each (Number n) kind = absurd (both_ways false refl kind)
        each (Constructor d) kind =
            let there = both_there (slice_get types c) (slice_get types d) kind in
            let is : 0 + d ≡ d = omega arith in
            subst (λ n. IsKind types (Constructor c) (Constructor n) → is_listed answers (Constructor n) ≡ true) is (all d (slice_get_within types d there.0 there.1)) kind
    by (Some None) none = absurd none
    by (Some (Some found)) right = right

-- what leads on by none of the answers may be an outcome
pub unlisted_right : (types : List ℕ) (asked : Answer) (answers : List Answer) (outcome : Option Answer) → unlisted types asked answers ≡ Some outcome → IsOutcome types asked outcome
unlisted_right types asked answers outcome is = by outcome (subst (Rest types asked answers) is (rest_right types asked answers))
  where
    by : (outcome : Option Answer) → Rest types asked answers (Some outcome) → IsOutcome types asked outcome
    by None right = right
    by (Some a) right = right.0

-- ---- the edges

next_there : (states : List StateTree) (at : List ℕ) (state : StateTree) (edges : List Edge) (otherwise : Option ℕ) (found : Answer) → EdgesLead states at state edges
    → is_listed (map (λ (e : Edge). e.found) edges) found ≡ true → (j : ℕ) × (next_by edges otherwise found ≡ Some j) × Names states j (after at (Some found) state)
next_there states at state [] otherwise found lead listed = absurd (both_ways false refl listed)
next_there states at state (edge ∷ edges) otherwise found lead listed = elim (cases_Bool (is_answer edge.found found)) [
  | inl here ↦ (edge.next, ap (λ b. if b then Some edge.next else next_by edges otherwise found) here, subst (λ a. Names states edge.next (after at (Some a) state)) (answer_decides edge.found found here) lead.0)
  | inr other ↦
      let rest = next_there states at state edges otherwise found lead.1 (behind (either (is_answer found edge.found) (is_listed (map (λ (e : Edge). e.found) edges) found) listed) other) in
      (rest.0, ap (λ b. if b then Some edge.next else next_by edges otherwise found) other ∙ rest.1, rest.2)
]
  where
    behind : ((is_answer found edge.found ≡ true) ⊎ (is_listed (map (λ (e : Edge). e.found) edges) found ≡ true)) → is_answer edge.found found ≡ false → is_listed (map (λ (e : Edge). e.found) edges) found ≡ true
    behind (inl here) other = absurd (both_ways (is_answer edge.found found) other (swapped edge.found found here))
    behind (inr rest) other = rest

next_else : (edges : List Edge) (otherwise : Option ℕ) (found : Answer) → is_listed (map (λ (e : Edge). e.found) edges) found ≡ false → next_by edges otherwise found ≡ otherwise
next_else [] otherwise found none = refl
next_else (edge ∷ edges) otherwise found none =
    let both = neither (is_answer found edge.found) (is_listed (map (λ (e : Edge). e.found) edges) found) none in
    ap (λ b. if b then Some edge.next else next_by edges otherwise found) (unlike edge.found found both.0) ∙ next_else edges otherwise found both.1

-- edges have answers of the kind where each that is listed is of it
edges_kind : (types : List ℕ) (asked : Answer) (edges : List Edge) → AreKind types asked (map (λ (e : Edge). e.found) edges) → AreOfKind types asked edges
edges_kind types asked [] kind = tt
edges_kind types asked (edge ∷ edges) kind = (
  kind edge.found (ap (λ b. b || is_listed (map (λ (e : Edge). e.found) edges) edge.found) (own edge.found)),
  edges_kind types asked edges (λ found listed. kind found (later (is_answer found edge.found) (is_listed (map (λ (e : Edge). e.found) edges) found) listed)),
)
  where
    later : (a b : Bool) → b ≡ true → (a || b) ≡ true
    later true b is = refl
    later false b is = is

edge_leads : (types : List ℕ) (asked : Answer) (states : List StateTree) (at : List ℕ) (state : StateTree) (edges : List Edge) → EdgesLead states at state edges
    → AreOfKind types asked edges → (j : ℕ) → is_among (map (λ (e : Edge). e.next) edges) j ≡ true
    → (outcome : Option Answer) × IsOutcome types asked outcome × Names states j (after at outcome state)
edge_leads types asked states at state [] lead kind j among = absurd (both_ways false refl among)
edge_leads types asked states at state (edge ∷ edges) lead kind j among = elim (either (edge.next == j) (is_among (map (λ (e : Edge). e.next) edges) j) among) [
  | inl here ↦ (Some edge.found, kind.0, subst (λ n. Names states n (after at (Some edge.found) state)) (eqb-true edge.next j here) lead.0)
  | inr behind ↦ edge_leads types asked states at state edges lead.1 kind.1 j behind
]

-- no more answers are asked than parts are left at the position
asked_few : (types : List ℕ) (test : Part) (answers : List Answer) (q : Part) → length (with_asked types test answers q) ≤ length answers + parts_at test.at (q ∷ [])
asked_few types test answers q = by (pointwise nat_eq q.at test.at) (is_kind types test.asked q.asked) (is_listed answers q.asked)
  where
    by : (here same listed : Bool)
        → length (if here && (same && not listed) then answers ++ q.asked ∷ [] else answers) ≤ length answers + ((if here then 1 else 0) + 0)
    by false same listed = omega arith
    by true false listed = omega arith
    by true true true = omega arith
    by true true false = let both = length-append answers (q.asked ∷ []) in omega (arith, both)

parts_few : (types : List ℕ) (test : Part) (answers : List Answer) (qs : List Part) → length (with_parts types test answers qs) ≤ length answers + parts_at test.at qs
parts_few types test answers [] = omega arith
parts_few types test answers (q ∷ qs) =
    let here = asked_few types test answers q in
    let behind = parts_few types test (with_asked types test answers q) qs in
    omega (arith, here, behind)

lines_few : (types : List ℕ) (test : Part) (answers : List Answer) (lines : StateTree) → length (with_lines types test answers lines) ≤ length answers + weight_at test.at lines
lines_few types test answers [] = omega arith
lines_few types test answers (line ∷ lines) =
    let here = parts_few types test answers line.left in
    let behind = lines_few types test (with_parts types test answers line.left) lines in
    omega (arith, here, behind)

pub branches : (types : List ℕ) (states : List StateTree) (state : StateTree) (test : Part) (answers : List Answer) (edges : List Edge) (otherwise : Option ℕ)
    → test_of state ≡ Some test → answers ≡ with_lines types test [] state → map (λ (e : Edge). e.found) edges ≡ answers → EdgesLead states test.at state edges
    → OtherLeads states test.at state (unlisted types test.asked answers) otherwise → Branches types states state test.at edges otherwise
branches types states state test answers edges otherwise is_test answers_are found lead other = record {
  asked = test.asked;
  is_test = is_test;
  of_kind = kinds;
  leads = λ j among. leads_by (unlisted types test.asked answers) otherwise (rest_right types test.asked answers) other j among;
  whole = λ answer kind. elim (cases_Bool (is_listed answers answer)) [
    | inl listed ↦ next_there states test.at state edges otherwise answer lead (ap (λ fs. is_listed fs answer) found ∙ listed)
    | inr none ↦ whole_by answer kind none (unlisted types test.asked answers) otherwise (rest_right types test.asked answers) other (next_else edges otherwise answer (ap (λ fs. is_listed fs answer) found ∙ none))
  ];
  another = another_by test.asked otherwise other;
  few = (
      let as_many = length-map edges (λ (e : Edge). e.found) in
      let all : length (map (λ (e : Edge). e.found) edges) ≡ length (with_lines types test [] state) = ap length (found ∙ answers_are) in
      let few = lines_few types test [] state in
      omega (arith, as_many, all, few)
      );
}
  where
    another_by : (asked : Answer) (otherwise : Option ℕ) → OtherLeads states test.at state (unlisted types asked answers) otherwise → IsOutcome types asked None
        → (j : ℕ) × (otherwise ≡ Some j) × Names states j (after test.at None state)
    another_by (Number n) None other is = absurd other
    another_by (Number n) (Some j) other is = (j, refl, other)
    another_by (Constructor c) otherwise other is = absurd is

    kinds : AreOfKind types test.asked edges
    kinds =
        edges_kind types test.asked edges
        (subst (AreKind types test.asked) (sym (found ∙ answers_are)) (kind_lines types test [] state (λ a listed. absurd (both_ways false refl listed))))

    leads_by : (rest : Option (Option Answer)) (otherwise : Option ℕ) → Rest types test.asked answers rest → OtherLeads states test.at state rest otherwise
        → (j : ℕ) → is_among (targets (tests test.at edges otherwise)) j ≡ true → (outcome : Option Answer) × IsOutcome types test.asked outcome × Names states j (after test.at outcome state)
    leads_by None None right other j among = edge_leads types test.asked states test.at state edges lead kinds j among
    leads_by None (Some o) right other j among = absurd other
    leads_by (Some outcome) None right other j among = absurd other
    leads_by (Some outcome) (Some o) right other j among = elim (either (o == j) (is_among (map (λ (e : Edge). e.next) edges) j) among) [
      | inl here ↦ (outcome, outcome_right outcome right, subst (λ n. Names states n (after test.at outcome state)) (eqb-true o j here) other)
      | inr behind ↦ edge_leads types test.asked states test.at state edges lead kinds j behind
    ]
      where
        outcome_right : (outcome : Option Answer) → Rest types test.asked answers (Some outcome) → IsOutcome types test.asked outcome
        outcome_right None right = right
        outcome_right (Some a) right = right.0

    lacking : (answer : Answer) → IsKind types test.asked answer → is_listed answers answer ≡ false → Lacks test.at (Some answer) state
    lacking answer kind none = lacks_lines types test [] state answer kind (sym (ap (λ fs. is_listed fs answer) answers_are) ∙ none)

    whole_by : (answer : Answer) → IsKind types test.asked answer → is_listed answers answer ≡ false → (rest : Option (Option Answer)) (otherwise : Option ℕ)
        → Rest types test.asked answers rest → OtherLeads states test.at state rest otherwise → next_by edges otherwise answer ≡ otherwise
        → (j : ℕ) × (next_by edges otherwise answer ≡ Some j) × Names states j (after test.at (Some answer) state)
    whole_by answer kind none None otherwise right other next = absurd (both_ways (is_listed answers answer) none (right answer kind))
    whole_by answer kind none (Some outcome) None right other next = absurd other
    whole_by answer kind none (Some None) (Some o) right other next =
        (o, next, subst (λ s. Names states o s) (after_same test.at None (Some answer) state (lacks_none test.at state) (lacking answer kind none)) other)
    whole_by answer kind none (Some (Some a)) (Some o) right other next =
        (o, next, subst (λ s. Names states o s) (after_same test.at (Some a) (Some answer) state (lacking a right.0 right.1) (lacking answer kind none)) other)
