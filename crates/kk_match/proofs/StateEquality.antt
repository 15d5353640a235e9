-- States that are equal in memory are equal.
use Rattle.std.proofs.Common.{◌≡◌, ◌≢◌, ℕ, zero, suc, ◌<◌, Bool, true, false, not, ◌&&◌, ◌||◌, nat_eq, option_map, List, [], ◌∷◌, ◌++◌, length, map, get_or, Some, refl, sym, ap, ◌∙◌, subst, arith}
use Rattle.std.specs.Prelude.{slice_get, position, if◌then◌else◌}
use Rattle.std.specs.List.{list_any}
use Rattle.std.proofs.lemmas.Bool.{eqb-true, eq-eqb, both_ways}
use Rattle.std.proofs.lemmas.Bool.Decides.{Decides-int_eq}
use Rattle.std.proofs.lemmas.List.Quantifiers.{position-Some, all_pairs_push}
use Rattle.std.proofs.lemmas.List.{map-append}
use Rattle.std.proofs.lemmas.Option.{slice_get-get_or, slice_get-map}
use lib.Pointwise.{pointwise, bytes_decides}
use Rattle.kk_core.specs.declared.decisions.Answer.{Answer}
use Rattle.kk_core.specs.declared.decisions.Answer.TheVariants.{Number, Constructor}
use Rattle.kk_core.specs.contracts.decisions.AnswerPartialEq.TheImpl as OfAnswer
use Rattle.kk_core.specs.Decisions.{is_answer}
use Rattle.kk_match.specs.declared.question.Question.{Question}
use Rattle.kk_match.specs.declared.state.Line.{Line}
use Rattle.kk_match.specs.declared.state.State.{State}
use Rattle.kk_match.specs.contracts.question.QuestionPartialEq.TheImpl as OfQuestion
use Rattle.kk_match.specs.contracts.state.LinePartialEq.TheImpl as OfLine
use Rattle.kk_match.specs.contracts.state.StatePartialEq.TheImpl as OfState
use Rattle.kk_match.specs.Parts.{Part}
use Rattle.kk_match.specs.Graphs.{LineTree, StateTree}
use Rattle.kk_match.specs.GraphGrowth.{AreApart, IsPut}
use Rattle.kk_match.specs.Views.{part_of, line_tree, state_tree}

pub and_both : (a b : Bool) → (a && b) ≡ true → (a ≡ true) × (b ≡ true)
and_both true b both = (refl, both)
and_both false b both = absurd (both_ways false refl both)

-- ---- answers

pub answer_decides : (one other : Answer) → is_answer one other ≡ true → one ≡ other
answer_decides (Number n) (Number m) same = ap Number ((Decides-int_eq n m).0 same)
answer_decides (Constructor c) (Constructor d) same = ap Constructor (eqb-true c d same)
answer_decides (Number n) (Constructor d) same = absurd (both_ways false refl same)
answer_decides (Constructor c) (Number m) same = absurd (both_ways false refl same)

alike_answers : (one other : Answer) → OfAnswer.eq-value.it one other ≡ true → one ≡ other
alike_answers (Number n) (Number m) same = ap Number ((Decides-int_eq n m).0 same)
alike_answers (Constructor c) (Constructor d) same = ap Constructor (eqb-true c d same)
alike_answers (Number n) (Constructor d) same = absurd (both_ways false refl same)
alike_answers (Constructor c) (Number m) same = absurd (both_ways false refl same)

-- ---- states

alike_all : {A B : Type 0} (E : A → A → Bool) (view : A → B) → ((one other : A) → E one other ≡ true → view one ≡ view other)
    → (xs ys : List A) → pointwise E xs ys ≡ true → map view xs ≡ map view ys
alike_all E view each [] [] same = refl
alike_all E view each [] (y ∷ ys) same = absurd (both_ways false refl same)
alike_all E view each (x ∷ xs) [] same = absurd (both_ways false refl same)
alike_all E view each (x ∷ xs) (y ∷ ys) same =
    let both = and_both (E x y) (pointwise E xs ys) same in
    let first = each x y both.0 in
    let rest = alike_all E view each xs ys both.1 in
    λ i. first i ∷ rest i

alike_questions : (one other : Question) → OfQuestion.eq-value.it one other ≡ true → part_of one ≡ part_of other
alike_questions one other same =
    let both = and_both (pointwise nat_eq one.at.items other.at.items) (OfAnswer.eq-value.it one.asked other.asked) same in
    let places : one.at.items ≡ other.at.items = (bytes_decides one.at.items other.at.items).0 both.0 in
    let answers : one.asked ≡ other.asked = alike_answers one.asked other.asked both.1 in
    λ i. record { at = places i; asked = answers i }

alike_lines : (one other : Line) → OfLine.eq-value.it one other ≡ true → line_tree one ≡ line_tree other
alike_lines one other same =
    let both = and_both (nat_eq one.row other.row) (pointwise (λ p q. OfQuestion.eq-value.it p.now q.now) one.left.items other.left.items) same in
    let rows : one.row ≡ other.row = eqb-true one.row other.row both.0 in
    let parts = alike_all (λ p q. OfQuestion.eq-value.it p.now q.now) (λ q. part_of q.now) (λ p q. alike_questions p.now q.now) one.left.items other.left.items both.1 in
    λ i. record { row = rows i; left = parts i }

pub alike_states : (one other : State) → OfState.eq-value.it one other ≡ true → state_tree one ≡ state_tree other
alike_states one other same = alike_all OfLine.eq-value.it line_tree alike_lines one.lines.items other.lines.items same

-- a state that is there has its number
pub state_found : (states : List State) (state : State) (n : ℕ) → position (OfState.eq-value.it state) states ≡ Some n → slice_get (map state_tree states) n ≡ Some (state_tree state)
state_found states state n found =
    let at = position-Some (OfState.eq-value.it state) states n state found in
    slice_get-map state_tree states n
    ∙ (ap (option_map state_tree) (slice_get-get_or states n state at.0)
    ∙ ap Some (sym (alike_states state (get_or states n state) at.1)))

pub state_stored : (states : List State) (state stored : State) (n : ℕ) → slice_get states n ≡ Some stored → OfState.eq-value.it state stored ≡ true → slice_get (map state_tree states) n ≡ Some (state_tree state)
state_stored states state stored n is alike =
    slice_get-map state_tree states n ∙ (ap (option_map state_tree) is ∙ ap Some (sym (alike_states state stored alike)))

-- ---- states that are equal are equal in memory

alike_back : {A B : Type 0} (E : A → A → Bool) (view : A → B) → ((one other : A) → view one ≡ view other → E one other ≡ true) → (xs ys : List A) → map view xs ≡ map view ys → pointwise E xs ys ≡ true
alike_back E view each [] [] same = refl
alike_back E view each [] (y ∷ ys) same = cc
alike_back E view each (x ∷ xs) [] same = cc
alike_back E view each (x ∷ xs) (y ∷ ys) same =
    let first : view x ≡ view y = cc in
    let rest : map view xs ≡ map view ys = cc in
    ap (λ b. b && pointwise E xs ys) (each x y first) ∙ alike_back E view each xs ys rest

own_answer : (a : Answer) → OfAnswer.eq-value.it a a ≡ true
own_answer (Number n) = (Decides-int_eq n n).1 refl
own_answer (Constructor c) = eq-eqb c c refl

same_questions : (one other : Question) → part_of one ≡ part_of other → OfQuestion.eq-value.it one other ≡ true
same_questions one other same =
    let places : one.at.items ≡ other.at.items = ap (λ (q : Part). q.at) same in
    let answers : one.asked ≡ other.asked = ap (λ (q : Part). q.asked) same in
    ap (λ b. b && OfAnswer.eq-value.it one.asked other.asked) ((bytes_decides one.at.items other.at.items).1 places)
    ∙ subst (λ a. OfAnswer.eq-value.it one.asked a ≡ true) answers (own_answer one.asked)

same_lines : (one other : Line) → line_tree one ≡ line_tree other → OfLine.eq-value.it one other ≡ true
same_lines one other same =
    let rows : one.row ≡ other.row = ap (λ (l : LineTree). l.row) same in
    let parts : map (λ q. part_of q.now) one.left.items ≡ map (λ q. part_of q.now) other.left.items = ap (λ (l : LineTree). l.left) same in
    ap (λ b. b && pointwise (λ p q. OfQuestion.eq-value.it p.now q.now) one.left.items other.left.items) (eq-eqb one.row other.row rows)
    ∙ alike_back (λ p q. OfQuestion.eq-value.it p.now q.now) (λ q. part_of q.now) (λ p q. same_questions p.now q.now) one.left.items other.left.items parts

same_states : (one other : State) → state_tree one ≡ state_tree other → OfState.eq-value.it one other ≡ true
same_states one other same = alike_back OfLine.eq-value.it line_tree same_lines one.lines.items other.lines.items same

pub neither : (a b : Bool) → (a || b) ≡ false → (a ≡ false) × (b ≡ false)
neither true b none = absurd (both_ways true none refl)
neither false b none = (refl, none)

absent : (states : List State) (state : State) (k : ℕ) (d : StateTree) → list_any (OfState.eq-value.it state) states ≡ false → k < length (map state_tree states) → get_or (map state_tree states) k d ≢ state_tree state
absent [] state k d none lt = absurd (omega (arith, lt))
absent (s ∷ states) state zero d none lt = λ same.
    both_ways (OfState.eq-value.it state s) (neither (OfState.eq-value.it state s) (list_any (OfState.eq-value.it state) states) none).0 (same_states state s (sym same))
absent (s ∷ states) state (suc k) d none lt =
    absent states state k d (neither (OfState.eq-value.it state s) (list_any (OfState.eq-value.it state) states) none).1 (omega (arith, lt))

-- a state is put behind the others, if it is new
pub state_put : (states later : List State) (state : State) (n : ℕ) (is_new : Bool) → AreApart (map state_tree states) → is_new ≡ not (list_any (OfState.eq-value.it state) states)
    → later ≡ (if list_any (OfState.eq-value.it state) states then states else states ++ state ∷ [])
    → ((stored : State) × (slice_get later n ≡ Some stored) × (OfState.eq-value.it state stored ≡ true))
    → IsPut (map state_tree states) (state_tree state) (map state_tree later) n is_new
state_put states later state n is_new apart new are stored = by (list_any (OfState.eq-value.it state) states) refl new are
  where
    named : slice_get (map state_tree later) n ≡ Some (state_tree state)
    named = state_stored later state stored.0 n stored.1 stored.2

    by : (there : Bool) → list_any (OfState.eq-value.it state) states ≡ there → is_new ≡ not there → later ≡ (if there then states else states ++ state ∷ [])
        → IsPut (map state_tree states) (state_tree state) (map state_tree later) n is_new
    by true is new are = subst (IsPut (map state_tree states) (state_tree state) (map state_tree later) n) (sym new) (ap (map state_tree) are, named)
    by false is new are =
        let more : map state_tree later ≡ map state_tree states ++ state_tree state ∷ [] = ap (map state_tree) are ∙ map-append state_tree states (state ∷ []) in
        subst (IsPut (map state_tree states) (state_tree state) (map state_tree later) n) (sym new) (
          more,
          named,
          subst AreApart (sym more) (all_pairs_push (λ one other. one ≢ other) (map state_tree states) (state_tree state) apart (λ k d lt. absent states state k d is lt)),
        )
