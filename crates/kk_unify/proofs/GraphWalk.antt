-- The walk through a graph, over lists: a node is entered, a node is numbered, a node is met again.
use Rattle.std.proofs.Common.{◌≡◌, ◌≢◌, ◌<◌, ◌≤◌, ◌+◌, ◌++◌, ℕ, List, [], ◌∷◌, length, map, get_or, set, sum_by, All, inl, inr, refl, sym, ◌∙◌, ap, subst, arith}
use Rattle.std.proofs.lemmas.Bool.{cases_eq, cases_lt}
use Rattle.std.proofs.lemmas.List.{get_or-set_other, get_or-set_same, get_or_append_left, get_or_push, length_push, length-set}
use Rattle.std.proofs.lemmas.List.Sums.{sum_by-set}
use Rattle.kk_syntax.specs.Types.{TypeTree, unit_type, put, type_at}
use Rattle.kk_unify.specs.declared.walk.Mark.{Mark}
use Rattle.kk_unify.specs.declared.walk.Mark.TheVariants.{New, Entered, Numbered}
use Rattle.kk_unify.specs.Graphs.{NodeTree, Assignment, Obeys, filled, NoneObeys}
use Rattle.kk_unify.specs.Unification.{node_at, IsHead}
use Rattle.kk_unify.specs.GraphWalk.{root_at, IsRooted, size, arguments_of, mark_at, IsDone, number_of, work_of, types_so_far, made_type, IsNumbered, Walks, KeepsNumbers}
use Rattle.kk_unify.proofs.GraphAssignments.{obeyed_at, formed_at}
use Rattle.kk_unify.proofs.NodeRoots.{root_is, root_of_root}
use Rattle.kk_unify.proofs.Sizes.{argument_smaller, arguments_formed, made_instance, made_holds, holds_kept}

-- types are kept where more are made
pub record Extends (old new : List TypeTree) : Type 0 where
  pub longer : length old ≤ length new
  pub kept : (n : ℕ) → n < length old → type_at new n ≡ type_at old n

pub extends_refl : (types : List TypeTree) → Extends types types
extends_refl types = record { longer = omega arith; kept = λ n lt. refl }

pub extends_push : (types : List TypeTree) (t : TypeTree) → Extends types (types ++ (t ∷ []))
extends_push types t = record {
  longer = omega (arith, length_push types t);
  kept = λ n lt. get_or_append_left types (t ∷ []) unit_type n lt;
}

-- a mark that is done is a number, and that is below the count
pub done_is : (count : ℕ) (mark : Mark) → IsDone count mark → (mark ≡ Numbered (number_of mark)) × (number_of mark < count)
done_is count New done = absurd done
done_is count Entered done = absurd done
done_is count (Numbered number) done = (refl, done)

pub done_from : (count number : ℕ) (mark : Mark) → mark ≡ Numbered number → number < count → IsDone count mark
done_from count number mark is lt =
    let P : Mark → Type 0 = IsDone count in
    subst P (sym is) lt

-- what is done stays so, with its type
module _ (roots : List ℕ) (marks more : List Mark) (types longer : List TypeTree) (keeps : KeepsNumbers marks more) (extends : Extends types longer) where
  pub done_kept : (i : ℕ) → IsDone (length types) (mark_at marks i) → IsDone (length longer) (mark_at more i)
  done_kept i done =
      let is = done_is (length types) (mark_at marks i) done in
      let long = extends.longer in
      done_from (length longer) (number_of (mark_at marks i)) (mark_at more i) (keeps i (number_of (mark_at marks i)) is.0) (omega (arith, is.1, long))

  pub types_kept : (i : ℕ) → IsDone (length types) (mark_at marks (root_at roots i)) → types_so_far roots marks types i ≡ types_so_far roots more longer i
  types_kept i done =
      let root = root_at roots i in
      let is = done_is (length types) (mark_at marks root) done in
      sym (ap (λ (m : Mark). type_at longer (number_of m)) (keeps root (number_of (mark_at marks root)) is.0) ∙ extends.kept (number_of (mark_at marks root)) is.1)

  pub numbered_kept : (variables : ℕ) (graph : List NodeTree) (i number : ℕ) → mark_at marks i ≡ Numbered number → IsNumbered variables graph roots marks types i number → IsNumbered variables graph roots more longer i number
  numbered_kept variables graph i number is numbered =
      let long = extends.longer in
      let within = numbered.within in
      let done : IsDone (length types) (mark_at marks (root_at roots i)) =
      done_from (length types) number (mark_at marks (root_at roots i)) (ap (λ n. mark_at marks n) numbered.root ∙ is) within in
      record {
        root = numbered.root;
        head = numbered.head;
        within = omega (arith, long, within);
        arguments = λ k d lt. done_kept (root_at roots (get_or (arguments_of (node_at graph i)) k d)) (numbered.arguments k d lt);
        holds = holds_kept i (node_at graph i) (types_so_far roots marks types) (types_so_far roots more longer) numbered.head (types_kept i done) (λ k d lt. types_kept (get_or (arguments_of (node_at graph i)) k d) (numbered.arguments k d lt)) numbered.holds;
        principal = λ r obeys. numbered.principal r obeys ∙ ap (put (filled variables r)) (sym (extends.kept number within));
      }

-- a mark is set
pub mark_set : (marks : List Mark) (i : ℕ) (mark : Mark) → i < length marks → mark_at (set marks i mark) i ≡ mark
mark_set marks i mark lt = get_or-set_same marks i mark New lt

pub mark_other : (marks : List Mark) (i j : ℕ) (mark : Mark) → j ≢ i → mark_at (set marks i mark) j ≡ mark_at marks j
mark_other marks i j mark other = get_or-set_other marks i j mark New other

-- numbers are kept where a mark that is none is set
pub keeps_set : (marks : List Mark) (i : ℕ) (mark : Mark) → ((number : ℕ) → mark_at marks i ≢ Numbered number) → KeepsNumbers marks (set marks i mark)
keeps_set marks i mark none = λ j number is.
    mark_other marks i j mark (λ same. none number (ap (λ n. mark_at marks n) (sym same) ∙ is)) ∙ is

-- a trail with one node more
abbrev at : List ℕ → ℕ → ℕ
at trail p = get_or trail p 0

at_before : (trail : List ℕ) (i p : ℕ) → p < length trail → at (trail ++ (i ∷ [])) p ≡ at trail p
at_before trail i p lt = get_or_append_left trail (i ∷ []) 0 p lt

at_last : (trail : List ℕ) (i p : ℕ) → length trail ≡ p → at (trail ++ (i ∷ [])) p ≡ i
at_last trail i p is = get_or_push trail i 0 p is

-- what holds at each place of the longer trail
each_place : (P : ℕ → Type 0) (trail : List ℕ) (i : ℕ) → ((p : ℕ) → p < length trail → P (at trail p)) → P i → (p : ℕ) → p < length (trail ++ (i ∷ [])) → P (at (trail ++ (i ∷ [])) p)
each_place P trail i before last p lt =
    elim (cases_lt p (length trail)) [
      | inl within ↦ subst P (sym (at_before trail i p within)) (before p within)
      | inr past ↦ subst P (sym (at_last trail i p (omega (arith, past, lt, length_push trail i)))) last
    ]

-- what holds at each two places of it
each_two : (P : ℕ → ℕ → Type 0) (trail : List ℕ) (i : ℕ) → ((p q : ℕ) → p < q → q < length trail → P (at trail p) (at trail q)) → ((p : ℕ) → p < length trail → P (at trail p) i) → (p q : ℕ) → p < q → q < length (trail ++ (i ∷ [])) → P (at (trail ++ (i ∷ [])) p) (at (trail ++ (i ∷ [])) q)
each_two P trail i before last p q order lt =
    elim (cases_lt q (length trail)) [
      | inl within ↦
          let earlier : p < length trail = omega (arith, order, within) in
          subst (λ x. P x (at (trail ++ (i ∷ [])) q)) (sym (at_before trail i p earlier)) (subst (λ y. P (at trail p) y) (sym (at_before trail i q within)) (before p q order within))
      | inr past ↦
          let end : length trail ≡ q = omega (arith, past, lt, length_push trail i) in
          let earlier : p < length trail = omega (arith, order, end) in
          subst (λ x. P x (at (trail ++ (i ∷ [])) q)) (sym (at_before trail i p earlier)) (subst (λ y. P (at trail p) y) (sym (at_last trail i q end)) (last p earlier))
    ]

-- the root of an argument is smaller than the node
pub next_smaller : (variables : ℕ) (graph : List NodeTree) (roots : List ℕ) (i k : ℕ) (r : Assignment) → IsRooted variables graph roots → i < length graph → k < length (arguments_of (node_at graph i)) → Obeys graph r → size (r (root_at roots (at (arguments_of (node_at graph i)) k))) < size (r i)
next_smaller variables graph roots i k r rooted lt within obeys =
    let argument = at (arguments_of (node_at graph i)) k in
    let there : argument < length graph = arguments_formed variables (length graph) i (node_at graph i) (formed_at variables graph rooted.formed i lt) k 0 within in
    let smaller : size (r argument) < size (r i) = argument_smaller r i (node_at graph i) k (obeyed_at graph r obeys i) within in
    let same : size (r argument) ≡ size (r (root_at roots argument)) = ap size ((root_is variables graph roots rooted.formed rooted.rooted argument there).same r obeys) in
    omega (arith, smaller, same)

module _ (variables : ℕ) (graph : List NodeTree) (roots : List ℕ) (rooted : IsRooted variables graph roots) where
  -- a node is entered that is smaller than those on the way
  pub walks_entered : (marks : List Mark) (trail : List ℕ) (types : List TypeTree) (i : ℕ) → Walks variables graph roots marks trail types → i < length graph → root_at roots i ≡ i → mark_at marks i ≡ New → ((r : Assignment) → Obeys graph r → (p : ℕ) → p < length trail → size (r i) < size (r (at trail p))) → Walks variables graph roots (set marks i Entered) (trail ++ (i ∷ [])) types
  walks_entered marks trail types i walks lt root new smaller =
      let within : i < length marks = omega (arith, walks.as_long, lt) in
      let never : (p : ℕ) → p < length trail → at trail p ≢ i = λ p h same.
      let marked : Entered ≡ New = sym (walks.entered p h) ∙ ap (λ n. mark_at marks n) same ∙ new in
      cc in
      let keeps : KeepsNumbers marks (set marks i Entered) = keeps_set marks i Entered (λ number is. let both : Numbered number ≡ New = sym is ∙ new in cc) in
      record {
        as_long = length-set marks i Entered ∙ walks.as_long;
        roots_only = each_place (λ x. (x < length graph) × (root_at roots x ≡ x)) trail i walks.roots_only (lt, root);
        entered = each_place (λ x. mark_at (set marks i Entered) x ≡ Entered) trail i (λ p h. mark_other marks i (at trail p) Entered (never p h) ∙ walks.entered p h) (mark_set marks i Entered within);
        apart = each_two (λ x y. x ≢ y) trail i walks.apart (λ p h. never p h);
        held = λ j is.
            elim (cases_eq j i) [
              | inl same ↦ (length trail, omega (arith, length_push trail i), at_last trail i (length trail) refl ∙ sym same)
              | inr other ↦
                  let before = walks.held j (sym (mark_other marks i j Entered other) ∙ is) in
                  (before.0, omega (arith, length_push trail i, before.1), at_before trail i before.0 before.1 ∙ before.2)
            ];
        falls = λ r obeys. each_two (λ x y. size (r y) < size (r x)) trail i (walks.falls r obeys) (smaller r obeys);
        numbered = λ j number is.
            elim (cases_eq j i) [
              | inl same ↦
                  let both : Entered ≡ Numbered number = sym (mark_set marks i Entered within) ∙ ap (λ n. mark_at (set marks i Entered) n) (sym same) ∙ is in
                  cc
              | inr other ↦
                  let before = sym (mark_other marks i j Entered other) ∙ is in
                  numbered_kept roots marks (set marks i Entered) types types keeps (extends_refl types) variables graph j number before (walks.numbered j number before)
            ];
      }

  -- the last node on the way, and its arguments
  module _ (marks : List Mark) (trail : List ℕ) (types : List TypeTree) (i : ℕ) (walks : Walks variables graph roots marks (trail ++ (i ∷ [])) types) where
    last : length trail < length (trail ++ (i ∷ []))
    last = omega (arith, length_push trail i)

    end : at (trail ++ (i ∷ [])) (length trail) ≡ i
    end = at_last trail i (length trail) refl

    pub last_within : i < length graph
    last_within = (let P : ℕ → Type 0 = λ x. x < length graph in subst P end (walks.roots_only (length trail) last).0)

    pub last_root : root_at roots i ≡ i
    last_root = (let P : ℕ → Type 0 = λ x. root_at roots x ≡ x in subst P end (walks.roots_only (length trail) last).1)

    pub last_head : IsHead (node_at graph i)
    last_head =
        let P : ℕ → Type 0 = λ x. IsHead (node_at graph x) in
        subst P last_root (root_is variables graph roots rooted.formed rooted.rooted i last_within).head

    pub last_entered : mark_at marks i ≡ Entered
    last_entered = ap (λ n. mark_at marks n) (sym end) ∙ walks.entered (length trail) last

    pub marked_within : i < length marks
    marked_within =
        let there = last_within in
        omega (arith, walks.as_long, there)

    pub left_keeps : (number : ℕ) → KeepsNumbers marks (set marks i (Numbered number))
    left_keeps number = keeps_set marks i (Numbered number) (λ n is. let both : Numbered n ≡ Entered = sym is ∙ last_entered in cc)

    -- there is less to do once it has a number
    pub left_less : (number : ℕ) → sum_by work_of (set marks i (Numbered number)) < sum_by work_of marks
    left_less number =
        let was : work_of (mark_at marks i) ≡ 1 = ap work_of last_entered in
        let within = marked_within in
        omega (arith, sum_by-set work_of marks i (Numbered number) New within, was)

    module _ (k : ℕ) (within : k < length (arguments_of (node_at graph i))) where
      argument_within : at (arguments_of (node_at graph i)) k < length graph
      argument_within = arguments_formed variables (length graph) i (node_at graph i) (formed_at variables graph rooted.formed i last_within) k 0 within

      pub child_within : root_at roots (at (arguments_of (node_at graph i)) k) < length graph
      child_within =
          let there = argument_within in
          let below = (root_is variables graph roots rooted.formed rooted.rooted (at (arguments_of (node_at graph i)) k) there).below in
          omega (arith, there, below)

      pub child_root : root_at roots (root_at roots (at (arguments_of (node_at graph i)) k)) ≡ root_at roots (at (arguments_of (node_at graph i)) k)
      child_root = root_of_root variables graph roots rooted.formed rooted.rooted (at (arguments_of (node_at graph i)) k) argument_within

  -- a node is entered
  module _ (marks : List Mark) (i : ℕ) (new : mark_at marks i ≡ New) where
    pub entered_keeps : KeepsNumbers marks (set marks i Entered)
    entered_keeps = keeps_set marks i Entered (λ number is. let both : Numbered number ≡ New = sym is ∙ new in cc)

    pub entered_less : i < length marks → sum_by work_of (set marks i Entered) < sum_by work_of marks
    entered_less within =
        let was : work_of (mark_at marks i) ≡ 2 = ap work_of new in
        omega (arith, sum_by-set work_of marks i Entered New within, was)

  -- the last node on the way is numbered, if its arguments are
  pub walks_left : (marks : List Mark) (trail : List ℕ) (types : List TypeTree) (i : ℕ) → Walks variables graph roots marks (trail ++ (i ∷ [])) types → All (λ argument. IsDone (length types) (mark_at marks (root_at roots argument))) (arguments_of (node_at graph i)) → Walks variables graph roots (set marks i (Numbered (length types))) trail (types ++ (made_type variables i (map (types_so_far roots marks types) (arguments_of (node_at graph i))) (node_at graph i) ∷ []))
  walks_left marks trail types i walks done =
      let node = node_at graph i in
      let a = types_so_far roots marks types in
      let t = made_type variables i (map a (arguments_of node)) node in
      let mark = Numbered (length types) in
      let after = set marks i mark in
      let longer : length (types ++ (t ∷ [])) ≡ length types + 1 = length_push types t in
      let last : length trail < length (trail ++ (i ∷ [])) = omega (arith, length_push trail i) in
      let end : at (trail ++ (i ∷ [])) (length trail) ≡ i = at_last trail i (length trail) refl in
      let lt : i < length graph = last_within marks trail types i walks in
      let root : root_at roots i ≡ i = last_root marks trail types i walks in
      let within : i < length marks = marked_within marks trail types i walks in
      let never : (p : ℕ) → p < length trail → at trail p ≢ i = λ p h same.
      walks.apart p (length trail) h last (at_before trail i p h ∙ same ∙ sym end) in
      let keeps : KeepsNumbers marks after = left_keeps marks trail types i walks (length types) in
      let extends = extends_push types t in
      let sub : (p : ℕ) → p < length trail → p < length (trail ++ (i ∷ [])) = λ p h. omega (arith, h, length_push trail i) in
      let head : IsHead node = last_head marks trail types i walks in
      let b = types_so_far roots after (types ++ (t ∷ [])) in
      let here : b i ≡ t =
      ap (λ n. type_at (types ++ (t ∷ [])) (number_of (mark_at after n))) root ∙ ap (λ m. type_at (types ++ (t ∷ [])) (number_of m)) (mark_set marks i mark within) ∙ get_or_push types t unit_type (length types) refl in
      record {
        as_long = length-set marks i mark ∙ walks.as_long;
        roots_only = λ p h. (let P : ℕ → Type 0 = λ x. (x < length graph) × (root_at roots x ≡ x) in subst P (at_before trail i p h) (walks.roots_only p (sub p h)));
        entered = λ p h.
            mark_other marks i (at trail p) mark (never p h) ∙ ap (λ n. mark_at marks n) (sym (at_before trail i p h)) ∙ walks.entered p (sub p h);
        apart = λ p q order h.
            (let P : ℕ → ℕ → Type 0 = λ x y. x ≢ y in
            subst (λ x. P x (at trail q)) (at_before trail i p (omega (arith, order, h))) (subst (λ y. P (at (trail ++ (i ∷ [])) p) y) (at_before trail i q h) (walks.apart p q order (sub q h))));
        held = λ j is.
            elim (cases_eq j i) [
              | inl same ↦
                  let both : mark ≡ Entered = sym (mark_set marks i mark within) ∙ ap (λ n. mark_at after n) (sym same) ∙ is in
                  cc
              | inr other ↦
                  let before = walks.held j (sym (mark_other marks i j mark other) ∙ is) in
                  elim (cases_lt before.0 (length trail)) [
                    | inl earlier ↦ (before.0, earlier, sym (at_before trail i before.0 earlier) ∙ before.2)
                    | inr past ↦ absurd (other (sym before.2 ∙ at_last trail i before.0 (omega (arith, past, before.1, length_push trail i))))
                  ]
            ];
        falls = λ r obeys p q order h.
            (let P : ℕ → ℕ → Type 0 = λ x y. size (r y) < size (r x) in
            subst (λ x. P x (at trail q)) (at_before trail i p (omega (arith, order, h))) (subst (λ y. P (at (trail ++ (i ∷ [])) p) y) (at_before trail i q h) (walks.falls r obeys p q order (sub q h))));
        numbered = λ j number is.
            elim (cases_eq j i) [
              | inl same ↦
                  let is_last : Numbered (length types) ≡ Numbered number = sym (mark_set marks i mark within) ∙ ap (λ n. mark_at after n) (sym same) ∙ is in
                  let number_is : length types ≡ number = cc in
                  let own : IsNumbered variables graph roots after (types ++ (t ∷ [])) i (length types) = record {
                    root = root;
                    head = head;
                    within = omega (arith, longer);
                    arguments = λ k d h. done_kept roots marks after types (types ++ (t ∷ [])) keeps extends (root_at roots (get_or (arguments_of node) k d)) (done k d h);
                    holds = made_holds variables i node a b head here (λ k d h. types_kept roots marks after types (types ++ (t ∷ [])) keeps extends (get_or (arguments_of node) k d) (done k d h));
                    principal = λ r obeys.
                        made_instance variables (length graph) i node r a head (formed_at variables graph rooted.formed i lt) (obeyed_at graph r obeys i) (λ k d h.
                        let argument = get_or (arguments_of node) k d in
                        let there : argument < length graph = arguments_formed variables (length graph) i node (formed_at variables graph rooted.formed i lt) k d h in
                        let known = done_is (length types) (mark_at marks (root_at roots argument)) (done k d h) in
                        (root_is variables graph roots rooted.formed rooted.rooted argument there).same r obeys ∙ (walks.numbered (root_at roots argument) (number_of (mark_at marks (root_at roots argument))) known.0).principal r obeys)
                        ∙ ap (put (filled variables r)) (sym (get_or_push types t unit_type (length types) refl));
                  } in
                  (let P : ℕ → ℕ → Type 0 = λ x n. IsNumbered variables graph roots after (types ++ (t ∷ [])) x n in
                  subst (λ x. P x number) (sym same) (subst (λ n. P i n) number_is own))
              | inr other ↦
                  let before = sym (mark_other marks i j mark other) ∙ is in
                  numbered_kept roots marks after types (types ++ (t ∷ [])) keeps extends variables graph j number before (walks.numbered j number before)
            ];
      }

  -- an argument of the last node on the way is smaller than each node on the way
  pub falls_on : (marks : List Mark) (trail : List ℕ) (types : List TypeTree) (i k : ℕ) → Walks variables graph roots marks (trail ++ (i ∷ [])) types → k < length (arguments_of (node_at graph i)) → (r : Assignment) → Obeys graph r → (p : ℕ) → p < length (trail ++ (i ∷ [])) → size (r (root_at roots (at (arguments_of (node_at graph i)) k))) < size (r (at (trail ++ (i ∷ [])) p))
  falls_on marks trail types i k walks within r obeys p h =
      let last : length trail < length (trail ++ (i ∷ [])) = omega (arith, length_push trail i) in
      let end : at (trail ++ (i ∷ [])) (length trail) ≡ i = at_last trail i (length trail) refl in
      let lt : i < length graph = last_within marks trail types i walks in
      let next : size (r (root_at roots (at (arguments_of (node_at graph i)) k))) < size (r i) = next_smaller variables graph roots i k r rooted lt within obeys in
      let whole : size (r (at (trail ++ (i ∷ [])) (length trail))) ≡ size (r i) = ap (λ n. size (r n)) end in
      elim (cases_lt p (length trail)) [
        | inl earlier ↦ omega (arith, walks.falls r obeys p (length trail) earlier last, next, whole)
        | inr past ↦
            let same : size (r (at (trail ++ (i ∷ [])) p)) ≡ size (r i) = ap (λ n. size (r n)) (at_last trail i p (omega (arith, past, h, length_push trail i))) in
            omega (arith, next, same)
      ]

  -- an argument that is on the way is smaller than itself
  pub walks_again : (marks : List Mark) (trail : List ℕ) (types : List TypeTree) (i k : ℕ) → Walks variables graph roots marks (trail ++ (i ∷ [])) types → k < length (arguments_of (node_at graph i)) → mark_at marks (root_at roots (at (arguments_of (node_at graph i)) k)) ≡ Entered → NoneObeys graph
  walks_again marks trail types i k walks within is = λ r obeys.
      let next = root_at roots (at (arguments_of (node_at graph i)) k) in
      let place = walks.held next is in
      let smaller = falls_on marks trail types i k walks within r obeys place.0 place.1 in
      let same : size (r (at (trail ++ (i ∷ [])) place.0)) ≡ size (r next) = ap (λ n. size (r n)) place.2 in
      omega (arith, smaller, same)
