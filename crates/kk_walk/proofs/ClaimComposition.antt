-- How the parts of a walk are put together.
use Rattle.std.proofs.Common.{◌≡◌, ◌<◌, ◌≤◌, ℕ, suc, List, [], ◌∷◌, ◌++◌, length, map, reverse, get_or, refl, ap, sym, ◌∙◌, subst, append_assoc, arith}
use Rattle.std.specs.List.{All}
use Rattle.std.proofs.lemmas.List.{map-append, append-nil, length-map}
use Rattle.std.proofs.lemmas.List.Elements.{All-append, All-nil, All-cons}
use Rattle.kk_syntax.specs.Types.{TypeTree}
use Rattle.kk_syntax.specs.Typing.{Choice, constructing, calling, holding, Holds}
use Rattle.kk_unify.specs.Graphs.{NodeTree, Assignment, Obeys, Joins, Clashes}
use Rattle.kk_walk.specs.declared.walk.Bound.{Bound}
use Rattle.kk_walk.specs.Claims.{typed_as, both}
use Rattle.kk_walk.specs.Walks.{Taking, constructing_at, calling_at, holding_at, choice_at, choices_at, AreBelow, IsTakenBelow, AreTakenBelow, variable_at, scope_at, AreBoundBelow, Agree, Claim, Leads, Refines, Refused, IsOf, Builds, Opens}

module _ {X : Type 0} (P : X → Type 0) (x : X) (xs : List X) where
  -- the first element, and the others
  pub head_of : All P (x ∷ xs) → P x
  head_of h = h 0 x (omega arith)

  pub tail_of : All P (x ∷ xs) → All P xs
  tail_of h k d lt = h (suc k) d (omega arith)

pub below_more : (size more : ℕ) (numbers : List ℕ) → size ≤ more → AreBelow size numbers → AreBelow more numbers
below_more size more numbers le h k d lt = let here = h k d lt in omega arith

pub bound_more : (size more : ℕ) (bounds : List Bound) → size ≤ more → AreBoundBelow size bounds → AreBoundBelow more bounds
bound_more size more bounds le h k d lt = let here = h k d lt in omega arith

is_taken_more : (size more : ℕ) (taken : Taking) → size ≤ more → IsTakenBelow size taken → IsTakenBelow more taken
is_taken_more size more (constructing_at by at) le h = below_more size more at le h
is_taken_more size more (calling_at function at) le h = below_more size more at le h
is_taken_more size more (holding_at of) le h = omega arith

pub taken_more : (size more : ℕ) (taken : List Taking) → size ≤ more → AreTakenBelow size taken → AreTakenBelow more taken
taken_more size more taken le h k d lt = is_taken_more size more (get_or taken k d) le (h k d lt)

-- what agrees on nodes agrees on what is made of them
module _ (size : ℕ) (r q : Assignment) (agree : Agree size r q) where
  pub types_agree : (numbers : List ℕ) → AreBelow size numbers → map r numbers ≡ map q numbers
  types_agree [] h = refl
  types_agree (i ∷ is) h =
      let first = agree i (head_of (λ j. j < size) i is h) in
      let rest = types_agree is (tail_of (λ j. j < size) i is h) in
      cc

  choice_agrees : (taken : Taking) → IsTakenBelow size taken → choice_at r taken ≡ choice_at q taken
  choice_agrees (constructing_at by at) h = ap (constructing by) (types_agree at h)
  choice_agrees (calling_at function at) h = ap (calling function) (types_agree at h)
  choice_agrees (holding_at of) h = ap holding (agree of h)

  pub choices_agree : (taken : List Taking) → AreTakenBelow size taken → choices_at r taken ≡ choices_at q taken
  choices_agree [] h = refl
  choices_agree (t ∷ ts) h =
      let first = choice_agrees t (head_of (IsTakenBelow size) t ts h) in
      let rest = choices_agree ts (tail_of (IsTakenBelow size) t ts h) in
      cc

  variables_agree : (bounds : List Bound) → AreBoundBelow size bounds → map (variable_at r) bounds ≡ map (variable_at q) bounds
  variables_agree [] h = refl
  variables_agree (b ∷ bs) h =
      let first : variable_at r b ≡ variable_at q b = ap (λ t. record { variable = b.variable; type = t }) (agree b.node (head_of (λ c. c.node < size) b bs h)) in
      let rest = variables_agree bs (tail_of (λ c. c.node < size) b bs h) in
      cc

  pub scope_agrees : (bounds : List Bound) → AreBoundBelow size bounds → scope_at r bounds ≡ scope_at q bounds
  scope_agrees bounds h = ap reverse (variables_agree bounds h)

pub agree_along : (small large : ℕ) (r q : Assignment) → small ≤ large → Agree large r q → Agree small r q
agree_along small large r q le agree i lt = agree i (omega arith)

pub agree_on : (small large : ℕ) (r q s : Assignment) → small ≤ large → Agree small r q → Agree large q s → Agree small r s
agree_on small large r q s le first then_ i lt = first i lt ∙ then_ i (omega arith)

-- a walk that goes on
module _ (a b c : List NodeTree) (xs ys : List Taking) (Whole Left Rest : Claim) where
  pub then_leads : Leads a b xs Whole Left → Leads b c ys Left Rest → Leads a c (xs ++ ys) Whole Rest
  then_leads first next = record {
    longer = omega (arith, first.longer, next.longer);
    below = All-append (IsTakenBelow (length c)) xs ys (taken_more (length b) (length c) xs next.longer first.below) next.below;
    sound = λ r choices obeys left.
        let second = next.sound r choices obeys left in
        let whole = first.sound r (choices_at r ys ++ choices) second.0 second.1 in
        (whole.0, subst (Whole r) (sym (ap (λ l. l ++ choices) (map-append (choice_at r) xs ys) ∙ append_assoc (choices_at r xs) (choices_at r ys) choices)) whole.1);
    complete = λ r choices obeys whole.
        let one = first.complete r choices obeys whole in
        let two = next.complete one.0 one.3.0 one.1 one.3.2 in
        let same : choices_at one.0 xs ≡ choices_at two.0 xs = choices_agree (length b) one.0 two.0 two.2 xs first.below in (
          two.0,
          two.1,
          agree_on (length a) (length b) r one.0 two.0 first.longer one.2 two.2,
          (
            two.3.0,
            one.3.1 ∙ (ap (λ l. l ++ one.3.0) same ∙ (ap (λ l. choices_at two.0 xs ++ l) two.3.1 ∙ (sym (append_assoc (choices_at two.0 xs) (choices_at two.0 ys) two.3.0) ∙ ap (λ l. l ++ two.3.0) (sym (map-append (choice_at two.0) xs ys))))),
            two.3.2,
          ),
        );
  }

module _ (a b : List NodeTree) (xs : List Taking) (Whole Left : Claim) where
  -- a walk that comes to what is refused
  pub refused_behind : Leads a b xs Whole Left → Refused b Left → Refused a Whole
  refused_behind first next = record {
    none = λ r choices obeys whole.
        let one = first.complete r choices obeys whole in
        next.none one.0 one.3.0 one.1 one.3.2;
  }

-- what is left in other words
pub left_reworded : (a b : List NodeTree) (xs : List Taking) (Whole Left Other : Claim) → ((r : Assignment) (choices : List Choice) → Left r choices → Other r choices) → ((r : Assignment) (choices : List Choice) → Other r choices → Left r choices) → Leads a b xs Whole Left → Leads a b xs Whole Other
left_reworded a b xs Whole Left Other into back leads = record {
  longer = leads.longer;
  below = leads.below;
  sound = λ r choices obeys other. leads.sound r choices obeys (back r choices other);
  complete = λ r choices obeys whole.
      let one = leads.complete r choices obeys whole in
      (one.0, one.1, one.2, (one.3.0, one.3.1, into one.0 one.3.0 one.3.2));
}

-- the same in other words
pub reworded : (graph : List NodeTree) (Whole Left : Claim) → ((r : Assignment) (choices : List Choice) → Obeys graph r → Whole r choices → Left r choices) → ((r : Assignment) (choices : List Choice) → Obeys graph r → Left r choices → Whole r choices) → Leads graph graph [] Whole Left
reworded graph Whole Left into back = record {
  longer = omega arith;
  below = All-nil (IsTakenBelow (length graph));
  sound = λ r choices obeys left. (obeys, back r choices obeys left);
  complete = λ r choices obeys whole. (r, obeys, (λ i lt. refl), (choices, refl, into r choices obeys whole));
}

module _ (a b : List NodeTree) (xs : List Taking) (First Rest : Claim) where
  -- the first of two parts is done
  pub first_leads : IsOf (length a) Rest → Refines a b xs First → Leads a b xs (both First Rest) Rest
  first_leads of first = record {
    longer = first.longer;
    below = first.below;
    sound = λ r choices obeys left.
        let one = first.sound r [] obeys refl in
        (one.0, (choices_at r xs, choices, refl, subst (First r) (append-nil (choices_at r xs)) one.1, left));
    complete = λ r choices obeys whole.
        let one = first.complete r whole.0 obeys whole.3 in
        (one.0, one.1, one.2, (whole.1, whole.2 ∙ ap (λ l. l ++ whole.1) (one.3.1 ∙ (ap (λ l. choices_at one.0 xs ++ l) one.3.2 ∙ append-nil (choices_at one.0 xs))), of.follows r one.0 whole.1 one.2 whole.4));
  }

-- the first of two parts is refused
pub first_refused : (a : List NodeTree) (First Rest : Claim) → Refused a First → Refused a (both First Rest)
first_refused a First Rest first = record { none = λ r choices obeys whole. first.none r whole.0 obeys whole.3 }

module _ (a b : List NodeTree) (number : ℕ) (type : Assignment → TypeTree) (V : Assignment → TypeTree → List Choice → Type 0) where
  -- a node stands for a type
  pub builds_leads : Builds a b number type → IsOf (length a) (λ r. V r (type r)) → Leads a b [] (λ r. V r (type r)) (λ r. V r (r number))
  builds_leads builds of = record {
    longer = builds.longer;
    below = All-nil (IsTakenBelow (length b));
    sound = λ r choices obeys left.
        let one = builds.sound r obeys in
        (one.0, subst (λ t. V r t choices) one.1 left);
    complete = λ r choices obeys whole.
        let one = builds.complete r obeys in
        let same = (builds.sound one.0 one.1).1 in
        (one.0, one.1, one.2, (choices, refl, subst (λ t. V one.0 t choices) (sym same) (of.follows r one.0 choices one.2 whole)));
  }

-- types are chosen, so many, and the rest is a typing with them
pub record Chooses (count : ℕ) (chosen : List TypeTree → List Choice) (With : List TypeTree → List Choice → Type 0) (choices : List Choice) : Type 0 where
  pub at : List TypeTree
  pub each : length at ≡ count
  pub rest : List Choice
  pub choices_are : choices ≡ chosen at ++ rest
  pub inside : With at rest

module _ (a b : List NodeTree) (numbers : List ℕ) (count : ℕ) (xs : List Taking) (chosen : List TypeTree → List Choice) (V : Assignment → List TypeTree → List Choice → Type 0) where
  -- nodes stand for the types that are chosen
  pub opens_leads : Opens a b numbers count → AreTakenBelow (length b) xs → ((r : Assignment) → choices_at r xs ≡ chosen (map r numbers)) → ((ts : List TypeTree) → IsOf (length a) (λ r. V r ts)) → Leads a b xs (λ r. Chooses count chosen (V r)) (λ r. V r (map r numbers))
  opens_leads opens below taken of = record {
    longer = opens.longer;
    below = below;
    sound = λ r choices obeys left. (
      opens.sound r obeys,
      record {
        at = map r numbers;
        each = length-map numbers r ∙ opens.each;
        rest = choices;
        choices_are = ap (λ l. l ++ choices) (taken r);
        inside = left;
      },
    );
    complete = λ r choices obeys whole.
        let one = opens.complete r whole.at whole.each obeys in (
          one.0,
          one.1,
          one.2,
          (
            whole.rest,
            whole.choices_are ∙ ap (λ l. l ++ whole.rest) (sym (taken one.0 ∙ ap chosen one.3)),
            subst (λ ts. V one.0 ts whole.rest) (sym one.3) ((of whole.at).follows r one.0 whole.rest one.2 whole.inside),
          ),
        );
  }

module _ (a b : List NodeTree) (node : ℕ) (V : Assignment → TypeTree → List Choice → Type 0) where
  -- a node stands for a type that is chosen
  pub holds_leads : Opens a b (node ∷ []) 1 → ((t : TypeTree) → IsOf (length a) (λ r. V r t)) → Leads a b (holding_at node ∷ []) (λ r. Holds (V r)) (λ r. V r (r node))
  holds_leads opens of = record {
    longer = opens.longer;
    below = All-cons (IsTakenBelow (length b)) (holding_at node) [] (head_of (λ i. i < length b) node [] opens.inside) (All-nil (IsTakenBelow (length b)));
    sound = λ r choices obeys left. (opens.sound r obeys, record { of = r node; rest = choices; choices_are = refl; inside = left });
    complete = λ r choices obeys whole.
        let one = opens.complete r (whole.of ∷ []) refl obeys in
        let same : one.0 node ≡ whole.of = cc (one.3) in (
          one.0,
          one.1,
          one.2,
          (
            whole.rest,
            whole.choices_are ∙ ap (λ t. holding t ∷ whole.rest) (sym same),
            subst (λ t. V one.0 t whole.rest) (sym same) ((of whole.of).follows r one.0 whole.rest one.2 whole.inside),
          ),
        );
  }

module _ (a b : List NodeTree) (i j : ℕ) where
  -- two nodes are of one type
  pub joins_refines : Joins a b i j → Refines a b [] (typed_as i (λ r. r j))
  joins_refines joins = record {
    longer = omega (arith, joins.as_long);
    below = All-nil (IsTakenBelow (length b));
    sound = λ r choices obeys left. let one = joins.back r obeys in (one.0, (one.1, left));
    complete = λ r choices obeys whole. (r, joins.onward r obeys whole.0, (λ k lt. refl), (choices, refl, whole.1));
  }

  pub clash_refused : Clashes a i j → Refused a (typed_as i (λ r. r j))
  clash_refused clashes = record { none = λ r choices obeys whole. clashes r obeys whole.0 }
