-- A function asks for a cell while its own tokens are held: they are tokens of its frame, and behind the request their cells are in
-- hand again.
use Rattle.std.proofs.Common.{◌≡◌, ◌≢◌, ◌⊎◌, inl, inr, ℕ, zero, suc, ◌+◌, ◌<◌, ◌≤◌, ◌==◌, Bool, true, false, List, [], ◌∷◌, length, Option, Some, None, refl, sym, ◌∙◌, ap, subst, arith, ne_eqb}
use Rattle.std.specs.Prelude.{◌||◌, ◌&&◌}
use mathlib.Core.Path.{fun_ext}
use Rattle.std.proofs.lemmas.Bool.{cases_eq}
use Rattle.kk_syntax.specs.Shapes.{is_among}
use Rattle.kk_counted.specs.Heaps.{Held, Heap, count_at}
use Rattle.kk_counted.specs.Lowerable.{AreBelow}
use Rattle.kk_counted.specs.Spending.{AreApart}
use Rattle.kk_counted.specs.TokenKeeping.{ArePooled}
use Rattle.kk_counted.specs.Tokens.{Slot, null, token, is_unspent, token_of, one_if_token, Link, Tokens, is_linked, marked, slots_with}
use Rattle.kk_counted.proofs.CountChanges.{itself, count_top}
use Rattle.kk_counted.proofs.SlotMarks.{Which, this, other, which, slot_there}
use Rattle.kk_counted.proofs.TokenForms.{Has, is_null, has_cell, unspent_has}
use Rattle.rv_isa.specs.Frames.{put, is_among as is_out}
use Rattle.cell_heap.specs.Pool.{Pool}
use Rattle.cell_heap.specs.Blocks.{Cells, past_links}
use Rattle.rv_lower.proofs.FormEffects.{put_same, put_other}
use Rattle.rv_cells.specs.Layout.{Layout, first_field}
use Rattle.rv_cells.specs.CountedCells.{AreFrom, Owner, nobody, cell_of, in_hand, kept_aside, Follows, with_owner, is_aside}
use Rattle.rv_cells.specs.TokenedLines.{values_of_slots}
use Rattle.rv_cells.proofs.NameContents.{some-is}
use Rattle.rv_cells.proofs.HeldFillLines.{AllSame, AllAre, AreApartFrom, aside_turned, aside_held, none_other}
use Rattle.rv_cells.proofs.HeldRows.{IsToken, NoneHas, AreTokensIn, neither, as_held, as_back, one_turned, turned_cell, all_held, all_back, held_others, back_others, AllOut}
use Rattle.rv_cells.proofs.Owners.{chosen_by, chosen_same, chosen_other}
use Rattle.rv_cells.proofs.Values.{among_none}
use Rattle.rv_cells.proofs.Words.{hand_owned, aside_owned}
use Rattle.rv_cells.proofs.TokenFills.{beyond_plain, none_more}
use Rattle.rv_cells.proofs.TokenFrames.{none_behind}
use Rattle.rv_cells.proofs.TokenFields.{past_from}
use Rattle.rv_cells.proofs.TokenRelation.{SlotIs, IsTokenCell, token_words, HaveSlotValues, HaveTokenCells}

-- ---- values of slots

-- none is held by a frame that holds none
pub none_out : (zs : List ℕ) → AllOut [] zs
none_out [] = tt
none_out (z ∷ zs) = (refl, none_out zs)

-- they are behind the variables, and below the temporaries
pub slots_apart : (variables count x : ℕ) (ys : List ℕ) → x < variables → AreBelow count ys
    → AreApartFrom (variables + count) x (values_of_slots variables ys)
slots_apart variables count x [] low below = tt
slots_apart variables count x (y ∷ ys) low below = (
  ((let few = below.0 in omega (arith, few)), λ e. omega (arith, e, low)),
  slots_apart variables count x ys low below.1,
)

-- and none of a bound variable
pub slots_unbound : (variables : ℕ) (bound ys : List ℕ) → ((x : ℕ) → is_among bound x ≡ true → x < variables)
    → AllAre (λ z. is_among bound z ≡ false) (values_of_slots variables ys)
slots_unbound variables bound [] below = tt
slots_unbound variables bound (y ∷ ys) below = (none_behind bound variables y below, slots_unbound variables bound ys below)

slot_out : (variables y : ℕ) (ys : List ℕ) → is_among ys y ≡ false → is_out (variables + y) (values_of_slots variables ys) ≡ false
slot_out variables y [] none = refl
slot_out variables y (z ∷ zs) none =
    let apart = among_none z zs y none in
    neither (variables + z == variables + y) (is_out (variables + y) (values_of_slots variables zs))
    (ne_eqb (variables + z) (variables + y) (λ e. apart.0 (omega (arith, e)))) (slot_out variables y zs apart.1)

in_front : (y : ℕ) (ys : List ℕ) → is_among (y ∷ ys) y ≡ true
in_front y ys = let itself : (y == y) ≡ true = grind arith in rw itself refl

behind : (y z : ℕ) (ys : List ℕ) → is_among ys z ≡ true → is_among (y ∷ ys) z ≡ true
behind y z ys is = by (y == z) refl
  where
    by : (b : Bool) → (y == z) ≡ b → is_among (y ∷ ys) z ≡ true
    by true test = rw test refl
    by false test = rw test is

-- a cell that is set aside has an address
pub aside_some : {pool : Pool} {layout : Layout} {address : ℕ → ℕ} {owners : ℕ → Owner} {heap : Heap} {cells : Cells}
    → Follows pool layout address owners heap cells → 0 < pool.first → (at : ℕ) (linked : Bool) (ws : List ℕ)
    → IsTokenCell linked ws (owners at) → at ≢ 0
aside_some follows some at true ws is =
    λ e. let far = (aside_owned follows at is.0 is.1).0.behind in absurd (omega (arith, far, e, some))
aside_some follows some at false ws is =
    λ e. let far = (hand_owned follows at is.0 is.1).0.behind in absurd (omega (arith, far, e, some))

-- The values of the unspent slots of a function that holds none are tokens in hand.
module _ {pool : Pool} {layout : Layout} {address : ℕ → ℕ} {owners : ℕ → Owner} {heap : Heap} {tokens : Tokens}
    {n variables count : ℕ} {values : ℕ → Option ℕ} (have : HaveTokenCells pool layout address owners heap tokens)
    (slots_are : HaveSlotValues address (tokens.slots n) variables count values)
    (marks : (y p : ℕ) → tokens.slots n y ≡ token p → tokens.marks p ≡ token_of n y)
    (free : (y : ℕ) → is_linked n y tokens.chain ≡ false)
    (some : (at : ℕ) (ws : List ℕ) → IsTokenCell false ws (owners at) → at ≢ 0) where
  value_null : (y : ℕ) → tokens.slots n y ≡ null → values (variables + y) ≡ Some 0
  value_null y is = subst (λ slot. SlotIs address slot (values (variables + y))) is (slots_are.are y)

  value_cell : (y p : ℕ) → tokens.slots n y ≡ token p → values (variables + y) ≡ Some (address p)
  value_cell y p is = subst (λ slot. SlotIs address slot (values (variables + y))) is (slots_are.are y)

  hand : (y p : ℕ) → tokens.slots n y ≡ token p → IsTokenCell false (token_words layout address heap p) (owners (address p))
  hand y p is =
      subst (λ b. IsTokenCell b (token_words layout address heap p) (owners (address p))) (free y) (have.are n y p (marks y p is))

  one_token : (y : ℕ) → Has (tokens.slots n y) → IsToken in_hand owners (values (variables + y))
  one_token y (is_null is) = inl (value_null y is)
  one_token y (has_cell p is) =
      let cell = hand y p is in
      inr (address p, cell.0, value_cell y p is, some (address p) (token_words layout address heap p) cell, cell.1)

  same_slot : {f g y z : ℕ} → token_of f y ≡ token_of g z → y ≡ z
  same_slot e = cc

  -- no two of them have the same cell
  clash : (at y z : ℕ) → at ≢ 0 → z ≢ y → Has (tokens.slots n y) → Has (tokens.slots n z) → values (variables + y) ≡ Some at
      → values (variables + z) ≡ Some at → ⊥
  clash at y z far differ (is_null is) has one two = far (some-is (sym one ∙ value_null y is))
  clash at y z far differ (has_cell p is) (is_null empty) one two = far (some-is (sym two ∙ value_null z empty))
  clash at y z far differ (has_cell p is) (has_cell q has) one two =
      let same : p ≡ q = have.apart n y p n z q (marks y p is) (marks z q has)
      (some-is (sym (value_cell y p is) ∙ one ∙ sym two ∙ value_cell z q has)) in
      differ (sym (same_slot (sym (marks y p is) ∙ ap tokens.marks same ∙ marks z q has)))

  none_same : (at y : ℕ) (ys : List ℕ) → at ≢ 0 → is_among ys y ≡ false → is_unspent (tokens.slots n y) ≡ true
      → ((z : ℕ) → is_among ys z ≡ true → is_unspent (tokens.slots n z) ≡ true) → values (variables + y) ≡ Some at
      → NoneHas values at (values_of_slots variables ys)
  none_same at y [] far none one unspent is = tt
  none_same at y (z ∷ zs) far none one unspent is =
      let apart = among_none z zs y none in (
        λ two. clash at y z far (λ e. apart.0 (sym e)) (unspent_has (tokens.slots n y) one)
            (unspent_has (tokens.slots n z) (unspent z (in_front z zs))) is two,
        none_same at y zs far apart.1 one (λ w among. unspent w (behind z w zs among)) is,
      )

  pub slots_tokens : (ys : List ℕ) → AreApart ys → ((y : ℕ) → is_among ys y ≡ true → is_unspent (tokens.slots n y) ≡ true)
      → AreTokensIn in_hand owners values (values_of_slots variables ys)
  slots_tokens [] apart unspent = tt
  slots_tokens (y ∷ ys) apart unspent =
      let one = unspent y (in_front y ys) in
      let more = λ (z : ℕ) (is : is_among ys z ≡ true). unspent z (behind y z ys is) in (
        one_token y (unspent_has (tokens.slots n y) one),
        slot_out variables y ys apart.0,
        λ at far is. none_same at y ys far apart.0 one more is,
        slots_tokens ys apart.1 more,
      )

-- ---- cells that were held are in hand again

aside_back_one : (owner : Owner) → is_aside (as_back owner) ≡ is_aside owner
aside_back_one nobody = refl
aside_back_one (cell_of name) = refl
aside_back_one (in_hand words) = refl
aside_back_one (kept_aside words) = refl

aside_back : (values : ℕ → Option ℕ) (zs : List ℕ) (owners : ℕ → Owner) (x : ℕ)
    → is_aside (all_back values zs owners x) ≡ is_aside (owners x)
aside_back values [] owners x = refl
aside_back values (z ∷ zs) owners x =
    aside_back values zs (one_turned as_back (values z) owners) x ∙ aside_turned as_back aside_back_one (values z) owners x

-- one that is in hand stays so
hand_turned : (value : Option ℕ) (x : ℕ) (owners : ℕ → Owner) (ws : List ℕ) → IsTokenCell false ws (owners x)
    → IsTokenCell false ws (one_turned as_back value owners x)
hand_turned None x owners ws is = is
hand_turned (Some zero) x owners ws is = is
hand_turned (Some (suc n)) x owners ws is =
    chosen_by (λ o. IsTokenCell false ws o) x (suc n) (as_back (owners (suc n))) owners
    (λ e. (is.0, ap as_back (ap owners (sym e) ∙ is.1), is.2)) (λ differ. is)

hand_stays : (values : ℕ → Option ℕ) (zs : List ℕ) (x : ℕ) (owners : ℕ → Owner) (ws : List ℕ) → IsTokenCell false ws (owners x)
    → IsTokenCell false ws (all_back values zs owners x)
hand_stays values [] x owners ws is = is
hand_stays values (z ∷ zs) x owners ws is =
    hand_stays values zs x (one_turned as_back (values z) owners) ws (hand_turned (values z) x owners ws is)

-- a cell that is set aside has fields of these words
abbrev HasFields : List ℕ → Owner → Type 0
HasFields ws (in_hand words) = AreFrom words first_field ws
HasFields ws (kept_aside words) = AreFrom words first_field ws
HasFields ws _ = ⊥

aside_hand : (owner : Owner) (ws : List ℕ) → HasFields ws owner → IsTokenCell false ws (as_back owner)
aside_hand nobody ws is = absurd is
aside_hand (cell_of name) ws is = absurd is
aside_hand (in_hand words) ws is = (words, refl, is)
aside_hand (kept_aside words) ws is = (past_links words, refl, past_from words 2 ws (omega arith) is)

held_one : (owner : Owner) (ws : List ℕ) → HasFields ws owner → HasFields ws (as_held owner)
held_one nobody ws is = absurd is
held_one (cell_of name) ws is = absurd is
held_one (in_hand words) ws is = is
held_one (kept_aside words) ws is = is

back_one : (owner : Owner) (ws : List ℕ) → HasFields ws owner → HasFields ws (as_back owner)
back_one nobody ws is = absurd is
back_one (cell_of name) ws is = absurd is
back_one (in_hand words) ws is = is
back_one (kept_aside words) ws is = past_from words 2 ws (omega arith) is

fields_turned : (turn : Owner → Owner) → ((owner : Owner) (list : List ℕ) → HasFields list owner → HasFields list (turn owner))
    → (value : Option ℕ) (x : ℕ) (owners : ℕ → Owner) (ws : List ℕ) → HasFields ws (owners x)
    → HasFields ws (one_turned turn value owners x)
fields_turned turn each None x owners ws is = is
fields_turned turn each (Some zero) x owners ws is = is
fields_turned turn each (Some (suc n)) x owners ws is =
    chosen_by (HasFields ws) x (suc n) (turn (owners (suc n))) owners
    (λ e. each (owners (suc n)) ws (subst (λ at. HasFields ws (owners at)) e is)) (λ differ. is)

fields_held_all : (values : ℕ → Option ℕ) (zs : List ℕ) (x : ℕ) (owners : ℕ → Owner) (ws : List ℕ) → HasFields ws (owners x)
    → HasFields ws (all_held values zs owners x)
fields_held_all values [] x owners ws is = is
fields_held_all values (z ∷ zs) x owners ws is =
    fields_turned as_held held_one (values z) x (all_held values zs owners) ws (fields_held_all values zs x owners ws is)

-- one of these values is of a cell's address
abbrev OneHas : (ℕ → Option ℕ) → ℕ → List ℕ → Type 0
OneHas values at [] = ⊥
OneHas values at (z ∷ zs) = (values z ≡ Some at) ⊎ OneHas values at zs

has_or_not : (value : Option ℕ) (at : ℕ) → (value ≡ Some at) ⊎ (value ≢ Some at)
has_or_not None at = inr (λ e. cc)
has_or_not (Some word) at =
    elim (cases_eq word at) [ inl e ↦ inl (ap Some e) | inr differ ↦ inr (λ e. differ (some-is e)) ]

one_or_none : (values : ℕ → Option ℕ) (at : ℕ) (zs : List ℕ) → OneHas values at zs ⊎ NoneHas values at zs
one_or_none values at [] = inr tt
one_or_none values at (z ∷ zs) = by (has_or_not (values z) at) (one_or_none values at zs)
  where
    by : (values z ≡ Some at) ⊎ (values z ≢ Some at) → OneHas values at zs ⊎ NoneHas values at zs
        → OneHas values at (z ∷ zs) ⊎ NoneHas values at (z ∷ zs)
    by (inl is) later = inl (inl is)
    by (inr not) (inl one) = inl (inr one)
    by (inr not) (inr none) = inr (not, none)

-- the cell of one of them comes into hand
comes_back : (values : ℕ → Option ℕ) (zs : List ℕ) (x : ℕ) (owners : ℕ → Owner) (ws : List ℕ) → x ≢ 0
    → HasFields ws (owners x) → OneHas values x zs → IsTokenCell false ws (all_back values zs owners x)
comes_back values [] x owners ws some aside one = absurd one
comes_back values (z ∷ zs) x owners ws some aside (inl is) =
    hand_stays values zs x (one_turned as_back (values z) owners) ws
    (subst (λ (o : ℕ → Owner). IsTokenCell false ws (o x)) (sym (turned_cell as_back (values z) x owners is some))
    (subst (IsTokenCell false ws) (sym (chosen_same x x (as_back (owners x)) owners refl)) (aside_hand (owners x) ws aside)))
comes_back values (z ∷ zs) x owners ws some aside (inr later) =
    comes_back values zs x (one_turned as_back (values z) owners) ws some
    (fields_turned as_back back_one (values z) x owners ws aside) later

-- ---- all cells but the one that is taken

-- each of these values is the same later, or it was that of a cell and is null later
abbrev pub AllKept : ℕ → (ℕ → Option ℕ) → (ℕ → Option ℕ) → List ℕ → Type 0
AllKept at values later zs = AllAre (λ z. (later z ≡ values z) ⊎ ((values z ≡ Some at) × (later z ≡ Some 0))) zs

pub same_kept : (at : ℕ) (values later : ℕ → Option ℕ) (zs : List ℕ) → AllSame values later zs → AllKept at values later zs
same_kept at values later [] same = tt
same_kept at values later (z ∷ zs) same = (inl same.0, same_kept at values later zs same.1)

-- where one of them is null later
pub null_kept : (y at : ℕ) (cells values later : ℕ → Option ℕ) (zs : List ℕ) → values y ≡ Some at → AllSame cells values zs
    → AllSame (put y (Some 0) cells) later zs → AllKept at values later zs
null_kept y at cells values later [] has before behind = tt
null_kept y at cells values later (z ∷ zs) has before behind = (
  elim (cases_eq z y) [
    | inl e ↦ inr (ap values e ∙ has, behind.0 ∙ ap (put y (Some 0) cells) e ∙ put_same y 0 cells)
    | inr differ ↦ inl (behind.0 ∙ put_other y z 0 cells differ ∙ sym before.0)
  ],
  null_kept y at cells values later zs has before.1 behind.1,
)

none_before : (at x : ℕ) (values later : ℕ → Option ℕ) (zs : List ℕ) → x ≢ at → AllKept at values later zs
    → NoneHas later x zs → NoneHas values x zs
none_before at x values later [] differ kept none = tt
none_before at x values later (z ∷ zs) differ kept none = (
  by kept.0,
  none_before at x values later zs differ kept.1 none.1,
)
  where
    by : (later z ≡ values z) ⊎ ((values z ≡ Some at) × (later z ≡ Some 0)) → values z ≢ Some x
    by (inl same) = λ e. none.0 (same ∙ e)
    by (inr was) = λ e. differ (some-is (sym e ∙ was.0))

none_later : (at x : ℕ) (values later : ℕ → Option ℕ) (zs : List ℕ) → x ≢ 0 → AllKept at values later zs
    → NoneHas values x zs → NoneHas later x zs
none_later at x values later [] some kept none = tt
none_later at x values later (z ∷ zs) some kept none = (
  by kept.0,
  none_later at x values later zs some kept.1 none.1,
)
  where
    by : (later z ≡ values z) ⊎ ((values z ≡ Some at) × (later z ≡ Some 0)) → later z ≢ Some x
    by (inl same) = λ e. none.0 (sym same ∙ e)
    by (inr was) = λ e. some (some-is (sym e ∙ was.1))

module _ (owners : ℕ → Owner) (values later : ℕ → Option ℕ) (zs : List ℕ) (at : ℕ) (owner : Owner) (x : ℕ) (differ : x ≢ at) where
  abbrev turned : ℕ → Owner
  turned = with_owner at owner (all_held values zs owners)

  -- it is set aside as before
  pub aside_restored : is_aside (all_back later zs (with_owner at owner (all_held values zs owners)) x) ≡ is_aside (owners x)
  aside_restored =
      aside_back later zs turned x ∙ ap is_aside (chosen_other x at owner (all_held values zs owners) differ)
      ∙ aside_held values zs owners x

  -- held or in hand as before
  pub restored : (linked : Bool) (ws : List ℕ) → x ≢ 0 → AllKept at values later zs → AreTokensIn in_hand owners values zs
      → IsTokenCell linked ws (owners x)
      → IsTokenCell linked ws (all_back later zs (with_owner at owner (all_held values zs owners)) x)
  restored true ws some kept are is =
      let none = none_other in_hand owners values zs x some
      (λ words hand. let both : kept_aside is.0 ≡ in_hand words = sym is.1 ∙ hand in cc) are in
      subst (IsTokenCell true ws)
      (sym (back_others later zs x turned (none_later at x values later zs some kept none)
      ∙ chosen_other x at owner (all_held values zs owners) differ ∙ held_others values zs x owners none)) is
  restored false ws some kept are is =
      elim (one_or_none later x zs) [
        | inl one ↦
            comes_back later zs x turned ws some
            (subst (HasFields ws) (sym (chosen_other x at owner (all_held values zs owners) differ))
            (fields_held_all values zs x owners ws (subst (HasFields ws) (sym is.1) is.2))) one
        | inr none ↦
            subst (IsTokenCell false ws)
            (sym (back_others later zs x turned none ∙ chosen_other x at owner (all_held values zs owners) differ
            ∙ held_others values zs x owners (none_before at x values later zs differ kept none))) is
      ]

-- ---- chains and marks

-- a link more on a chain is that slot's alone
pub linked_here : (f y : ℕ) (links : List Link) → is_linked f y (record { frame = f; slot = y } ∷ links) ≡ true
linked_here f y links =
    let frame : (f == f) ≡ true = grind arith in let slot : (y == y) ≡ true = grind arith in rw frame (rw slot refl)

pub linked_behind : (cells : ℕ) (heap : Heap) (tokens : Tokens) → ArePooled cells heap tokens → (link : Link) (links : List Link)
    → tokens.chain ≡ link ∷ links → (p : ℕ) → tokens.slots link.frame link.slot ≡ token p
    → (g z q : ℕ) → q ≢ p → tokens.marks q ≡ token_of g z → is_linked g z links ≡ is_linked g z tokens.chain
linked_behind cells heap tokens pooled link links is p has g z q differ mark = by (which g z link.frame link.slot)
  where
    same_cell : {a b : ℕ} → token a ≡ token b → a ≡ b
    same_cell e = cc

    by : Which g z link.frame link.slot → is_linked g z links ≡ is_linked g z tokens.chain
    by (this first second) =
        absurd (differ (same_cell (sym (pooled.slots g z q mark) ∙ ap (λ f. tokens.slots f z) first
        ∙ ap (tokens.slots link.frame) second ∙ has)))
    by (other apart) = sym (ap (is_linked g z) is ∙ ap (λ b. b || is_linked g z links) apart)

-- a name more is no token
pub marked_more : (cells : ℕ) (heap : Heap) (tokens : Tokens) → ArePooled cells heap tokens
    → marked tokens.marks (suc (length heap)) ≡ marked tokens.marks (length heap)
marked_more cells heap tokens pooled =
    ap (λ k. k + marked tokens.marks (length heap)) (ap one_if_token (beyond_plain cells heap tokens pooled))
    ∙ none_more (marked tokens.marks (length heap))

-- a token has an older name than a new cell
pub named_before : (cells : ℕ) (made : Held) (heap : Heap) (tokens : Tokens) → 1 ≤ made.count → ArePooled cells (made ∷ heap) tokens
    → (f y p : ℕ) → tokens.slots f y ≡ token p → p < length heap
named_before cells made heap tokens counted pooled f y p is =
    let mark = pooled.marks f y p is in
    let there = pooled.there f y p mark in
    let none = pooled.uncounted f y p mark in
    elim (cases_eq p (length heap)) [
      | inl e ↦
          (let count = count_top made heap (length heap) (itself (length heap)) in
          let same = ap (count_at (made ∷ heap)) e in absurd (omega (arith, count, same, none, counted)))
      | inr differ ↦ omega (arith, there, differ)
    ]

-- slots of a frame keep their values where one of an older frame changes
pub slots_below : {address : ℕ → ℕ} {variables count : ℕ} {values : ℕ → Option ℕ} (slots : ℕ → ℕ → Slot) (n : ℕ)
    → HaveSlotValues address (slots n) variables count values → (f y : ℕ) (slot : Slot) → f < n
    → HaveSlotValues address (slots_with f y slot slots n) variables count values
slots_below {address} {variables} {count} {values} slots n have f y slot less =
    subst (λ (sl : ℕ → Slot). HaveSlotValues address sl variables count values)
    (fun_ext (λ z. sym (slot_there f y n z slot slots (apart z)))) have
  where
    apart : (z : ℕ) → ((n == f) && (z == y)) ≡ false
    apart z = let far : (n == f) ≡ false = grind arith in rw far refl
