-- What the words of values tell of the edges of a test.
use Rattle.std.proofs.Common.{◌≡◌, ℕ, ◌+◌, ◌*◌, ◌%◌, ◌≤◌, ℤ, Bool, true, false, not, cond, List, [], ◌∷◌, ◌++◌, length, filter, Option, Some, None, option_map, option_to_list, nat_eq, int_eq, refl, sym, ◌∙◌, ap, subst, arith, eqb-true, eq-eqb, ne_eqb}
use Rattle.std.proofs.lemmas.Bool.Decides.{Decides-int_eq}
use Rattle.std.specs.Prelude.{if◌then◌else◌, ◌==◌}
use Rattle.kk_source.specs.State.{Value, integer, unit, constant, place, Cell}
use Rattle.kk_core.specs.Decisions.{answer_of, is_answer, next_by}
use Rattle.kk_core.specs.declared.decisions.Answer.{Answer}
use Rattle.kk_core.specs.declared.decisions.Answer.TheVariants.{Number, Constructor}
use Rattle.kk_core.specs.declared.decisions.Edge.{Edge}
use Rattle.rv_isa.specs.Arithmetic.{signed, word_of}
use Rattle.rv_cells.specs.Layout.{Layout, word_in}
use Rattle.rv_cells.specs.CountedLines.{is_plain, answer_word, answer_tag, IsWithoutLast, AreTried}
use Rattle.rv_cells.proofs.LineCosts.{most_moves, edges_cost, edges_apart}
use Rattle.rv_cells.specs.Fitting.{IsInt32, AreAlike, AllAlike, ShowsIts}
use Rattle.rv_cells.proofs.FormWords.{word_signed}

-- two tests that hold alike
alike : (a b : Bool) → (a ≡ true → b ≡ true) → (b ≡ true → a ≡ true) → a ≡ b
alike true true to back = refl
alike true false to back = sym (to refl)
alike false true to back = back refl
alike false false to back = refl

-- ---- which edge is taken

pub next_some : (edges : List Edge) (otherwise : Option ℕ) (found : Answer) (k : ℕ) → next_by edges None found ≡ Some k
    → next_by edges otherwise found ≡ Some k
next_some [] otherwise found k is = cc
next_some (edge ∷ edges) otherwise found k is =
    by (is_answer edge.found found) (λ none. next_some edges otherwise found k none) is
  where
    by : (b : Bool) → (next_by edges None found ≡ Some k → next_by edges otherwise found ≡ Some k)
        → (if b then Some edge.next else next_by edges None found) ≡ Some k
        → (if b then Some edge.next else next_by edges otherwise found) ≡ Some k
    by true later is = is
    by false later is = later is

pub next_other : (edges : List Edge) (otherwise : Option ℕ) (found : Answer) → next_by edges None found ≡ None
    → next_by edges otherwise found ≡ otherwise
next_other [] otherwise found is = refl
next_other (edge ∷ edges) otherwise found is =
    by (is_answer edge.found found) (λ none. next_other edges otherwise found none) is
  where
    by : (b : Bool) → (next_by edges None found ≡ None → next_by edges otherwise found ≡ otherwise)
        → (if b then Some edge.next else next_by edges None found) ≡ None
        → (if b then Some edge.next else next_by edges otherwise found) ≡ otherwise
    by true later is = cc
    by false later is = later is

-- edges behind others are taken where none of those is
pub next_append : (some more : List Edge) (otherwise : Option ℕ) (found : Answer)
    → next_by (some ++ more) otherwise found ≡ next_by some (next_by more otherwise found) found
next_append [] more otherwise found = refl
next_append (edge ∷ some) more otherwise found =
    ap (λ next. if is_answer edge.found found then Some edge.next else next) (next_append some more otherwise found)

-- where some edge is taken, the last one is where no other one is
pub next_without_last : (edges some : List Edge) (other : Option ℕ) (found : Answer) (k : ℕ) → IsWithoutLast edges some other
    → next_by edges None found ≡ Some k → next_by some other found ≡ Some k
next_without_last edges some other found k without is =
    go without.0 without.2 (sym (next_append some (option_to_list without.0) None found)
    ∙ ap (λ es. next_by es None found) (sym without.1) ∙ is)
  where
    go : (last : Option Edge) → other ≡ option_map (λ (edge : Edge). edge.next) last
        → next_by some (next_by (option_to_list last) None found) found ≡ Some k → next_by some other found ≡ Some k
    go None leads taken = next_some some other found k taken
    go (Some last) leads taken = by (is_answer last.found found) taken
      where
        by : (b : Bool) → next_by some (if b then Some last.next else None) found ≡ Some k → next_by some other found ≡ Some k
        by true taken = ap (λ o. next_by some o found) leads ∙ taken
        by false taken = next_some some other found k taken

-- the edges that are tried cost no more than all
pub tried_cost : (words tags : List Edge) (otherwise : Option ℕ) (plain tagged : List Edge) (other : Option ℕ)
    → AreTried words tags otherwise plain tagged other
    → edges_cost plain + edges_cost tagged ≤ edges_cost words + edges_cost tags
tried_cost words tags (Some next) plain tagged other are =
    let first = ap edges_cost are.0 in let second = ap edges_cost are.1 in omega (arith, first, second)
tried_cost words [] None plain tagged other are =
    let none = ap edges_cost are.0 in let all = ap edges_cost are.1.1 in
    let apart = edges_apart plain (option_to_list are.1.0) in omega (arith, none, all, apart)
tried_cost words (edge ∷ edges) None plain tagged other are =
    let first = ap edges_cost are.0 in let all = ap edges_cost are.1.1 in
    let apart = edges_apart tagged (option_to_list are.1.0) in omega (arith, first, all, apart)

-- the edges that may be taken are kept
pub next_keeps : (keeps : Edge → Bool) (edges : List Edge) (otherwise : Option ℕ) (found : Answer)
    → ((edge : Edge) → is_answer edge.found found ≡ true → keeps edge ≡ true)
    → next_by edges otherwise found ≡ next_by (filter keeps edges) otherwise found
next_keeps keeps [] otherwise found kept = refl
next_keeps keeps (edge ∷ edges) otherwise found kept =
    by (next_keeps keeps edges otherwise found kept) (is_answer edge.found found) (keeps edge) refl refl
  where
    by : next_by edges otherwise found ≡ next_by (filter keeps edges) otherwise found → (a b : Bool)
        → is_answer edge.found found ≡ a → keeps edge ≡ b
        → (if is_answer edge.found found then Some edge.next else next_by edges otherwise found)
        ≡ next_by (cond (keeps edge) (edge ∷ filter keeps edges) (filter keeps edges)) otherwise found
    by later true b is k =
        let keep : keeps edge ≡ true = kept edge is in
        ap (λ t. if t then Some edge.next else next_by edges otherwise found) is
        ∙ sym (ap (λ t. next_by (cond t (edge ∷ filter keeps edges) (filter keeps edges)) otherwise found) keep
        ∙ ap (λ t. if t then Some edge.next else next_by (filter keeps edges) otherwise found) is)
    by later false true is k =
        ap (λ t. if t then Some edge.next else next_by edges otherwise found) is ∙ later
        ∙ sym (ap (λ t. next_by (cond t (edge ∷ filter keeps edges) (filter keeps edges)) otherwise found) k
        ∙ ap (λ t. if t then Some edge.next else next_by (filter keeps edges) otherwise found) is)
    by later false false is k =
        ap (λ t. if t then Some edge.next else next_by edges otherwise found) is ∙ later
        ∙ sym (ap (λ t. next_by (cond t (edge ∷ filter keeps edges) (filter keeps edges)) otherwise found) k)

-- no edge that may be taken is kept
pub next_none : (keeps : Edge → Bool) (edges : List Edge) (found : Answer)
    → ((edge : Edge) → is_answer edge.found found ≡ true → keeps edge ≡ false)
    → next_by (filter keeps edges) None found ≡ None
next_none keeps [] found none = refl
next_none keeps (edge ∷ edges) found none =
    by (next_none keeps edges found none) (keeps edge) (is_answer edge.found found) refl refl
  where
    by : next_by (filter keeps edges) None found ≡ None → (b a : Bool) → keeps edge ≡ b → is_answer edge.found found ≡ a
        → next_by (cond (keeps edge) (edge ∷ filter keeps edges) (filter keeps edges)) None found ≡ None
    by later false a k is = ap (λ t. next_by (cond t (edge ∷ filter keeps edges) (filter keeps edges)) None found) k ∙ later
    by later true true k is = let not_kept = none edge is in cc
    by later true false k is =
        ap (λ t. next_by (cond t (edge ∷ filter keeps edges) (filter keeps edges)) None found) k
        ∙ ap (λ t. if t then Some edge.next else next_by (filter keeps edges) None found) is ∙ later

-- both parts of the edges cost no more than all
pub split_cost : (keeps : Edge → Bool) (edges : List Edge)
    → edges_cost (filter keeps edges) + edges_cost (filter (λ edge. not (keeps edge)) edges) ≤ edges_cost edges
split_cost keeps [] = omega arith
split_cost keeps (edge ∷ edges) = by (keeps edge) (split_cost keeps edges)
  where
    by : (b : Bool)
        → edges_cost (filter keeps edges) + edges_cost
        (filter (λ edge. not (keeps edge)) edges) ≤ edges_cost edges
        → edges_cost (cond b (edge ∷ filter keeps edges) (filter keeps edges))
        + edges_cost (cond (not b) (edge ∷ filter (λ edge. not (keeps edge)) edges) (filter (λ edge. not (keeps edge)) edges))
        ≤ (2 * most_moves + 5) + edges_cost edges
    by true few = omega (arith, few)
    by false few = omega (arith, few)

-- ---- answers

module _ (layout : Layout) where
  pub alike_kept : (keeps : Edge → Bool) (found : Answer) (edges : List Edge) → AllAlike layout found edges
      → AllAlike layout found (filter keeps edges)
  alike_kept keeps found [] all = tt
  alike_kept keeps found (edge ∷ edges) all = by (keeps edge) (alike_kept keeps found edges all.1)
    where
      by : (b : Bool) → AllAlike layout found (filter keeps edges)
          → AllAlike layout found (cond b (edge ∷ filter keeps edges) (filter keeps edges))
      by true later = (all.0, later)
      by false later = later

  -- equal answers are plain alike
  pub same_kind : (e found : Answer) → is_answer e found ≡ true → is_plain layout e ≡ is_plain layout found
  same_kind (Number n) (Number m) is = refl
  same_kind (Number n) (Constructor d) is = cc
  same_kind (Constructor c) (Number m) is = cc
  same_kind (Constructor c) (Constructor d) is = ap (λ k. nat_eq (length (layout.fields k)) 0) (eqb-true c d is)

  number_tells : (n m : ℤ) → IsInt32 (integer m) → IsInt32 (integer n) → nat_eq (word_of n) (word_of m) ≡ int_eq m n
  number_tells n m of_m of_n =
      let a = of_n.0 in
      let b = of_m.0 in
      let n_is : n ≡ signed a = number_is n a of_n.1 in
      let m_is : m ≡ signed b = number_is m b of_m.1 in
      let wn : word_of n ≡ a = ap word_of n_is ∙ word_signed a of_n.2 in
      let wm : word_of m ≡ b = ap word_of m_is ∙ word_signed b of_m.2 in
      let decides = Decides-int_eq m n in
      alike (nat_eq (word_of n) (word_of m)) (int_eq m n)
      (λ e. let same : a ≡ b = sym wn ∙ eqb-true (word_of n) (word_of m) e ∙ wm in
      decides.1 (m_is ∙ ap signed (sym same) ∙ sym n_is))
      (λ e. eq-eqb (word_of n) (word_of m) (ap word_of (sym (decides.0 e))))
    where
      number_is : (k : ℤ) (word : ℕ) → integer k ≡ integer (signed word) → k ≡ signed word
      number_is k word is = cc

  tag_tells : (c d : ℕ) → (layout.tag c ≡ layout.tag d → c ≡ d) → (a b : ℕ) → (a ≡ b → layout.tag d ≡ layout.tag c)
      → (layout.tag d ≡ layout.tag c → a ≡ b) → nat_eq a b ≡ (c == d)
  tag_tells c d unique a b to back =
      alike (nat_eq a b) (c == d)
      (λ e. eq-eqb c d (unique (sym (to (eqb-true a b e)))))
      (λ e. eq-eqb a b (back (ap layout.tag (sym (eqb-true c d e)))))

  -- the word of a value tells which of the plain answers it is
  pub word_tells : (cells : ℕ → Option Cell) (address : ℕ → ℕ) (w : Value) (found e : Answer)
      → answer_of cells w ≡ Some found → ShowsIts layout w found → AreAlike layout e found → is_plain layout e ≡ true
      → ((name : ℕ) → w ≡ place name → address name % 2 ≡ 0)
      → nat_eq (word_in layout address w) (answer_word layout e) ≡ is_answer e found
  word_tells cells address (integer n) found e answer shows like plain even =
      by found e (sym (some_answer answer)) like
    where
      some_answer : Some (Number n) ≡ Some found → Number n ≡ found
      some_answer is = cc

      by : (found e : Answer) → found ≡ Number n → AreAlike layout e found
          → nat_eq (word_of n) (answer_word layout e) ≡ is_answer e found
      by (Number k) (Number m) is like =
          let same : k ≡ n = cc in
          subst (λ j. nat_eq (word_of n) (word_of m) ≡ int_eq m j) (sym same)
          (number_tells n m like.0 (subst (λ j. IsInt32 (integer j)) same like.1))
      by (Number k) (Constructor c) is like = absurd like
      by (Constructor d) e is like = cc
  word_tells cells address unit found e answer shows like plain even = cc
  word_tells cells address (constant d) found e answer shows like plain even =
      by found e (sym (some_answer answer)) like
    where
      some_answer : Some (Constructor d) ≡ Some found → Constructor d ≡ found
      some_answer is = cc

      by : (found e : Answer) → found ≡ Constructor d → AreAlike layout e found
          → nat_eq (2 * layout.tag d + 1) (answer_word layout e) ≡ is_answer e found
      by (Number k) e is like = cc
      by (Constructor k) (Number m) is like = absurd like
      by (Constructor k) (Constructor c) is like =
          let same : k ≡ d = cc in
          subst (λ j. nat_eq (2 * layout.tag d + 1) (2 * layout.tag c + 1) ≡ (c == j)) (sym same)
          (tag_tells c d (subst (λ j. layout.tag c ≡ layout.tag j → c ≡ j) same like) (2 * layout.tag d + 1) (2 * layout.tag c + 1)
          (λ e. omega (arith, e)) (λ e. omega (arith, e)))
  word_tells cells address (place name) found e answer shows like plain even =
      by found e like plain shows
    where
      by : (found e : Answer) → AreAlike layout e found → is_plain layout e ≡ true → is_plain layout found ≡ false
          → nat_eq (address name) (answer_word layout e) ≡ is_answer e found
      by (Number k) e like plain other = cc
      by (Constructor k) (Number m) like plain other = absurd like
      by (Constructor k) (Constructor c) like plain other =
          let low = even name refl in
          ne_eqb (address name) (2 * layout.tag c + 1) (λ e. omega (arith, e, low))
          ∙ sym (ne_eqb c k (λ e. let both = sym (ap (λ j. nat_eq (length (layout.fields j)) 0) e ∙ other) ∙ plain in cc))

  -- the tag of a cell's constructor tells which one it is
  pub tag_of_cell_tells : (k : ℕ) (e : Answer) → AreAlike layout e (Constructor k)
      → nat_eq (layout.tag k) (answer_tag layout e) ≡ is_answer e (Constructor k)
  tag_of_cell_tells k (Number m) like = absurd like
  tag_of_cell_tells k (Constructor c) like =
      tag_tells c k like (layout.tag k) (layout.tag c) (λ e. e) (λ e. e)
