-- One pass over the marks, from the newest cell to the oldest, marks exactly what is live.
use Rattle.std.proofs.Common.{◌≡◌, ◌⊎◌, inl, inr, ℕ, zero, suc, ◌+◌, ◌<◌, ◌≤◌, Bool, true, false, List, [], ◌∷◌, ◌++◌, length, map, arith, refl, sym, ap, ◌∙◌, subst, cond, get_or, set, replicate, take, add-one, get_or-set_same, get_or-set_other}
use Rattle.std.proofs.Math.Seq.{take-suc}
use Rattle.std.proofs.lemmas.List.{map-append}
use Rattle.kk_source.specs.State.{Value, place, Store}
use Rattle.kk_source.specs.Live.{fields_at, Among, Leads, Reached, is_live, counted, live}
use Rattle.kk_source.specs.Sound.{IsOlder}
use Rattle.kk_source.proofs.Live.{live_reached, reached_live, has_cell, first_place, among_within, among_split, among_front, among_back}
use Rattle.kk_meaning.specs.declared.cell.Cell.{Cell}
use Rattle.kk_meaning.specs.View.{value_view, cell_view}
use Rattle.kk_meaning.specs.Marks.{is_marked, Marked}

-- a field of a cell that can be reached
reached_field : (store : Store) (vs : List Value) (way : List ℕ) (at goal : ℕ) → Leads store vs way at → Among (fields_at store at) goal → Reached store vs goal
reached_field store vs [] at goal l a = (at ∷ [], (l, a))
reached_field store vs (next ∷ way) at goal l a =
    let rest = reached_field store (fields_at store next) way at goal l.1 a in
    (next ∷ rest.0, (l.0, rest.1))

-- all that is marked can be reached; what is held is marked; and the fields of the marked cells from k on are
pub record Passed (store : Store) (vs : List Value) (marks : List Bool) (k : ℕ) : Type 0 where
  pub reached : (at : ℕ) → is_marked marks at ≡ true → Reached store vs at
  pub held : (at : ℕ) → at < length marks → Among vs at → is_marked marks at ≡ true
  pub closed : (at goal : ℕ) → k ≤ at → is_marked marks at ≡ true → Among (fields_at store at) goal → is_marked marks goal ≡ true
  pub whole : length marks ≡ length store

unmarked : (marks : List Bool) (at : ℕ) → length marks ≤ at → is_marked marks at ≡ true → ⊥
unmarked [] zero le e = cc
unmarked [] (suc at) le e = cc
unmarked (m ∷ marks) zero le e = omega arith
unmarked (m ∷ marks) (suc at) le e = unmarked marks at (omega arith) e

at_or_above : (k at : ℕ) → k ≤ at → (at ≡ k) ⊎ (k + 1 ≤ at)
at_or_above zero zero le = inl refl
at_or_above zero (suc at) le = inr (omega arith)
at_or_above (suc k) zero le = absurd (omega arith)
at_or_above (suc k) (suc at) le =
    elim (at_or_above k at (omega arith)) [ inl same ↦ inl (ap suc same) | inr above ↦ inr (omega arith) ]

module _ (store : Store) (older : IsOlder store) (vs : List Value) where
  pub passed_start : (marks marked : List Bool) → ((at : ℕ) → is_marked marks at ≡ true → ⊥) → length marks ≡ length store → length marked ≡ length marks → Marked marks marked vs → Passed store vs marked (length store)
  passed_start marks marked none whole same m = record {
    reached = λ at e. elim (m.only at e) [ inl before ↦ absurd (none at before) | inr named ↦ ([], named) ];
    held = λ at lt a. m.named at (omega arith) a;
    closed = λ at goal le e a. absurd (unmarked marked at (omega arith) e);
    whole = omega arith;
  }

  -- a cell without a mark has nothing to mark
  pub passed_unmarked : (marks : List Bool) (k : ℕ) → (is_marked marks k ≡ true → ⊥) → Passed store vs marks (k + 1) → Passed store vs marks k
  passed_unmarked marks k not_here p = record {
    reached = p.reached;
    held = p.held;
    closed = λ at goal le e a. closed at goal (at_or_above k at le) e a;
    whole = p.whole;
  }
    where
      closed : (at goal : ℕ) → (at ≡ k) ⊎ (k + 1 ≤ at) → is_marked marks at ≡ true → Among (fields_at store at) goal → is_marked marks goal ≡ true
      closed at goal (inl same_at) e a = absurd (not_here (subst (λ i. is_marked marks i ≡ true) same_at e))
      closed at goal (inr above) e a = p.closed at goal above e a

  -- the fields of a marked cell are marked
  pub passed_marked : (marks marked : List Bool) (k : ℕ) → is_marked marks k ≡ true → length marked ≡ length marks → Marked marks marked (fields_at store k) → Passed store vs marks (k + 1) → Passed store vs marked k
  passed_marked marks marked k here same m p = record {
    reached = λ at e. elim (m.only at e) [
      | inl before ↦ p.reached at before
      | inr named ↦ let way = p.reached k here in reached_field store vs way.0 k at way.1 named
    ];
    held = λ at lt a. m.kept at (p.held at (omega arith) a);
    closed = λ at goal le e a. closed at goal (at_or_above k at le) e a;
    whole = omega (arith, p.whole);
  }
    where
      closed : (at goal : ℕ) → (at ≡ k) ⊎ (k + 1 ≤ at) → is_marked marked at ≡ true → Among (fields_at store at) goal → is_marked marked goal ≡ true
      closed at goal (inl same_at) e a =
          let a' : Among (fields_at store k) goal = subst (λ i. Among (fields_at store i) goal) same_at a in
          m.named goal (omega (arith, p.whole, has_cell store k goal a', among_within k (fields_at store k) goal (older k) a')) a'
      closed at goal (inr above) e a =
          elim (m.only at e) [
            | inl before ↦ m.kept goal (p.closed at goal above before a)
            | inr named ↦ absurd (omega (arith, among_within k (fields_at store k) at (older k) named))
          ]

  -- at the end all that can be reached is marked
  all_marked : (marks : List Bool) (ws : List Value) (way : List ℕ) (goal : ℕ) → Passed store vs marks 0 → ((at : ℕ) → at < length store → Among ws at → is_marked marks at ≡ true) → Leads store ws way goal → goal < length store → is_marked marks goal ≡ true
  all_marked marks ws [] goal p named l lt = named goal lt l
  all_marked marks ws (at ∷ way) goal p named l lt =
      let first = first_place store (fields_at store at) way goal l.1 in
      let there = has_cell store at first.0 first.1 in
      all_marked marks (fields_at store at) way goal p (λ next _ a. p.closed at next (omega arith) (named at there l.0) a) l.1 lt

  same_test : (a b : Bool) → (a ≡ true → b ≡ true) → (b ≡ true → a ≡ true) → a ≡ b
  same_test true true f g = refl
  same_test true false f g = sym (f refl)
  same_test false true f g = g refl
  same_test false false f g = refl

  pub marked_live : (marks : List Bool) → Passed store vs marks 0 → (at : ℕ) → at < length store → is_marked marks at ≡ is_live store vs at
  marked_live marks p at lt =
      same_test _ _ (λ e. live_reached store older vs at (p.reached at e))
      (λ e. let r = reached_live store older vs at e in all_marked marks vs r.0 at p (λ i i_lt a. p.held i (omega (arith, p.whole)) a) r.1 lt)

  counted_same : (p q : ℕ → Bool) (n : ℕ) → ((at : ℕ) → at < n → p at ≡ q at) → counted p n ≡ counted q n
  counted_same p q zero same = refl
  counted_same p q (suc n) same =
      ap (λ k. k + cond (p n) 1 0) (counted_same p q n (λ at lt. same at (omega arith)))
      ∙ ap (λ t. counted q n + cond t 1 0) (same n (omega arith))

  pub counted_live : (marks : List Bool) → length marks ≡ length store → ((at : ℕ) → at < length store → is_marked marks at ≡ is_live store vs at) → counted (is_marked marks) (length marks) ≡ live store vs
  counted_live marks whole same =
      ap (counted (is_marked marks)) whole ∙ counted_same _ _ (length store) same

-- one value more
pub marked_nothing : (marks : List Bool) (v : Value) → ((at : ℕ) → at < length marks → v ≡ place at → ⊥) → Marked marks marks (v ∷ [])
marked_nothing marks v none = record {
  kept = λ at e. e;
  named = λ at lt a. elim a [ inl is ↦ absurd (none at lt is) | inr more ↦ absurd more ];
  only = λ at e. inl e;
}

pub marked_place : (marks : List Bool) (v : Value) (at : ℕ) → v ≡ place at → at < length marks → Marked marks (set marks at true) (v ∷ [])
marked_place marks v at is lt = record {
  kept = λ i e. kept i (nat_cases i at) e;
  named = λ i i_lt a. elim a [ inl same ↦ named i same | inr more ↦ absurd more ];
  only = λ i e. only i (nat_cases i at) e;
}
  where
    nat_cases : (i j : ℕ) → (i ≡ j) ⊎ (i ≡ j → ⊥)
    nat_cases zero zero = inl refl
    nat_cases zero (suc j) = inr (λ e. omega arith)
    nat_cases (suc i) zero = inr (λ e. omega arith)
    nat_cases (suc i) (suc j) = elim (nat_cases i j) [ inl e ↦ inl (ap suc e) | inr other ↦ inr (λ e. other (omega arith)) ]

    here : (i : ℕ) → i ≡ at → is_marked (set marks at true) i ≡ true
    here i e = ap (is_marked (set marks at true)) e ∙ get_or-set_same marks at true false lt

    kept : (i : ℕ) → (i ≡ at) ⊎ (i ≡ at → ⊥) → is_marked marks i ≡ true → is_marked (set marks at true) i ≡ true
    kept i (inl e) marked = here i e
    kept i (inr other) marked = get_or-set_other marks at i true false other ∙ marked

    only : (i : ℕ) → (i ≡ at) ⊎ (i ≡ at → ⊥) → is_marked (set marks at true) i ≡ true → (is_marked marks i ≡ true) ⊎ Among (v ∷ []) i
    only i (inl e) marked = inr (inl (is ∙ ap place (sym e)))
    only i (inr other) marked = inl (sym (get_or-set_other marks at i true false other) ∙ marked)

    named : (i : ℕ) → v ≡ place i → is_marked (set marks at true) i ≡ true
    named i same = let whole : place i ≡ place at = sym same ∙ is in let e : i ≡ at = cc in here i e

pub marked_more : (before middle after : List Bool) (vs : List Value) (v : Value) → length middle ≡ length before → Marked before middle vs → Marked middle after (v ∷ []) → Marked before after (vs ++ v ∷ [])
marked_more before middle after vs v same m n = record {
  kept = λ at e. n.kept at (m.kept at e);
  named = λ at lt a. elim (among_split vs (v ∷ []) at a) [
    | inl front ↦ n.kept at (m.named at lt front)
    | inr last ↦ n.named at (omega arith) last
  ];
  only = λ at e. elim (n.only at e) [
    | inr last ↦ inr (among_back vs (v ∷ []) at last)
    | inl marked ↦ elim (m.only at marked) [ inl was ↦ inl was | inr front ↦ inr (among_front vs (v ∷ []) at front) ]
  ];
}

pub marked_no_more : (marks : List Bool) → Marked marks marks []
marked_no_more marks = record { kept = λ at e. e; named = λ at lt a. absurd a; only = λ at e. inl e }

pub none_marked : (n at : ℕ) → is_marked (replicate n false) at ≡ true → ⊥
none_marked zero zero e = cc
none_marked zero (suc at) e = cc
none_marked (suc n) zero e = cc
none_marked (suc n) (suc at) e = none_marked n at e

-- the fields of a cell, as they are kept
pub fields_kept : (store : List Cell) (k : ℕ) (cell : Cell) → k < length store → cell ≡ get_or store k cell → fields_at (map cell_view store) k ≡ map value_view cell.fields.items
fields_kept [] k cell lt is = absurd (omega arith)
fields_kept (c ∷ store) zero cell lt is = ap (λ x. map value_view x.fields.items) (sym is)
fields_kept (c ∷ store) (suc k) cell lt is = fields_kept store k cell (omega arith) is

pub taken_one : {X Y : Type 0} (view : X → Y) (xs : List X) (k : ℕ) (d : X) → k < length xs → map view (take (k + 1) xs) ≡ map view (take k xs) ++ view (get_or xs k d) ∷ []
taken_one view xs k d lt =
    ap (λ n. map view (take n xs)) (add-one k) ∙ (ap (map view) (take-suc xs k d lt) ∙ map-append view (take k xs) (get_or xs k d ∷ []))
