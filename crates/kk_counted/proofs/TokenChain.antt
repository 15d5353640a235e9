-- The chain of held tokens: it depends on the slots of its frames alone, and its first link may be taken.
use Rattle.std.proofs.Common.{◌≡◌, ℕ, suc, ◌≤◌, ◌<◌, ◌==◌, ◌&&◌, ◌||◌, Bool, true, false, List, [], ◌∷◌, length, arith, refl, sym, ap, ◌∙◌, subst}
use Rattle.std.specs.Prelude.{if◌then◌else◌}
use Rattle.kk_syntax.specs.Shapes.{is_among}
use Rattle.kk_counted.specs.Spending.{AreApart}
use Rattle.kk_counted.specs.Tokens.{Slot, spent, null, token, is_unspent, is_token, is_linked, Link, slots_with}
use Rattle.kk_counted.specs.TokenStates.{TokenFrame}
use Rattle.kk_counted.specs.TokenKeeping.{links_of, chain_of, AreHeldFrames}
use Rattle.kk_counted.proofs.CountChanges.{same, itself}
use Rattle.kk_counted.proofs.Variables.{turned, among_first, among_later, other_variable}
use Rattle.kk_counted.proofs.SlotMarks.{Which, this, other, which, slot_here, slot_there, slot_at}

-- slots are equal below a frame
abbrev pub EqualBelow : ℕ → (ℕ → ℕ → Slot) → (ℕ → ℕ → Slot) → Type 0
EqualBelow n slots others = (f y : ℕ) → f < n → slots f y ≡ others f y

pub equal_one : (n f y : ℕ) (slot : Slot) (slots : ℕ → ℕ → Slot) → n ≤ f → EqualBelow n slots (slots_with f y slot slots)
equal_one n f y slot slots far g z less = sym (slot_there f y g z slot slots apart)
  where
    first : (g == f) ≡ false
    first = grind arith

    apart : ((g == f) && (z == y)) ≡ false
    apart = rw first refl

links_same : (slots others : ℕ → Slot) (f : ℕ) (ys : List ℕ) (older newer : List Link)
    → ((z : ℕ) → is_among ys z ≡ true → slots z ≡ others z) → older ≡ newer → links_of others f ys newer ≡ links_of slots f ys older
links_same slots others f [] older newer equal rest = sym rest
links_same slots others f (y ∷ ys) older newer equal rest =
    rw (equal y (among_first y ys))
    (ap (λ links. if is_token (others y) then record { frame = f; slot = y } ∷ links else links)
    (links_same slots others f ys older newer (λ z is. equal z (among_later y z ys is)) rest))

pub chain_same : (slots others : ℕ → ℕ → Slot) (helds : List (List ℕ)) → EqualBelow (length helds) slots others
    → chain_of others helds ≡ chain_of slots helds
chain_same slots others [] equal = refl
chain_same slots others (held ∷ helds) equal =
    links_same (slots (length helds)) (others (length helds)) (length helds) held (chain_of slots helds) (chain_of others helds)
    (λ y is. equal (length helds) y (omega arith))
    (sym (chain_same slots others helds (λ f y less. equal f y (omega (arith, less)))))

-- ---- frames see only whether slots are unspent

abbrev pub EqualUnspent : ℕ → (ℕ → ℕ → Slot) → (ℕ → ℕ → Slot) → Type 0
EqualUnspent n slots others = (f y : ℕ) → f < n → is_unspent (others f y) ≡ is_unspent (slots f y)

pub frames_same : (slots others : ℕ → ℕ → Slot) (helds : List (List ℕ)) (frames : List TokenFrame)
    → EqualUnspent (length helds) slots others → AreHeldFrames slots helds frames → AreHeldFrames others helds frames
frames_same slots others [] [] equal are = tt
frames_same slots others [] (frame ∷ frames) equal are = absurd are
frames_same slots others (held ∷ helds) [] equal are = absurd are
frames_same slots others (held ∷ helds) (frame ∷ frames) equal are = (
  record {
    left = are.0.left;
    unspent = are.0.unspent;
    spends = are.0.spends;
    waits = are.0.waits;
    slots_are = λ y. equal (length helds) y (omega arith) ∙ are.0.slots_are y;
    all_held = are.0.all_held;
    apart = are.0.apart;
  },
  frames_same slots others helds frames (λ f y less. equal f y (omega (arith, less))) are.1,
)

pub frames_many : (slots : ℕ → ℕ → Slot) (helds : List (List ℕ)) (frames : List TokenFrame) → AreHeldFrames slots helds frames
    → length frames ≡ length helds
frames_many slots [] [] are = refl
frames_many slots [] (frame ∷ frames) are = absurd are
frames_many slots (held ∷ helds) [] are = absurd are
frames_many slots (held ∷ helds) (frame ∷ frames) are = ap suc (frames_many slots helds frames are.1)

pub equal_unspent : (n : ℕ) (slots others : ℕ → ℕ → Slot) → EqualBelow n slots others → EqualUnspent n slots others
equal_unspent n slots others equal f y less = ap is_unspent (sym (equal f y less))

-- ---- the first link

-- each frame's held slots are there once
abbrev pub AllApart : List (List ℕ) → Type 0
AllApart [] = Unit {0}
AllApart (held ∷ helds) = AreApart held × AllApart helds

pub frames_apart : (slots : ℕ → ℕ → Slot) (helds : List (List ℕ)) (frames : List TokenFrame) → AreHeldFrames slots helds frames
    → AllApart helds
frames_apart slots [] [] are = tt
frames_apart slots [] (frame ∷ frames) are = absurd are
frames_apart slots (held ∷ helds) [] are = absurd are
frames_apart slots (held ∷ helds) (frame ∷ frames) are = (are.0.apart, frames_apart slots helds frames are.1)

-- the first link is of a token, and without that token the chain is its rest
pub record IsTop (slots : ℕ → ℕ → Slot) (helds : List (List ℕ)) (link : Link) (links : List Link) : Type 0 where
  pub cell : ℕ
  pub has : slots link.frame link.slot ≡ token cell
  pub below : link.frame < length helds
  pub rest : chain_of (slots_with link.frame link.slot null slots) helds ≡ links

-- the same of the last held slots of the newest frame
record IsRowTop (slots : ℕ → ℕ → Slot) (ys : List ℕ) (helds : List (List ℕ)) (link : Link) (links : List Link) : Type 0 where
  cell : ℕ
  has : slots link.frame link.slot ≡ token cell
  below : link.frame < suc (length helds)
  rest : links_of (slots_with link.frame link.slot null slots (length helds)) (length helds) ys
      (chain_of (slots_with link.frame link.slot null slots) helds) ≡ links

pub token_is : (slot : Slot) → is_token slot ≡ true → (p : ℕ) × (slot ≡ token p)
token_is spent is = absurd (cc)
token_is null is = absurd (cc)
token_is (token p) is = (p, refl)

row_top : (slots : ℕ → ℕ → Slot) (ys : List ℕ) (helds : List (List ℕ)) (link : Link) (links : List Link) → AreApart ys
    → (chain_of slots helds ≡ link ∷ links → IsTop slots helds link links)
    → links_of (slots (length helds)) (length helds) ys (chain_of slots helds) ≡ link ∷ links → IsRowTop slots ys helds link links
row_top slots [] helds link links apart older is =
    let top = older is in record { cell = top.cell; has = top.has; below = omega (arith, top.below); rest = top.rest }
row_top slots (y ∷ ys) helds link links apart older is =
    by_test (is_token (slots (length helds) y)) refl is (row_top slots ys helds link links apart.1 older)
  where
    after : List Link
    after = links_of (slots (length helds)) (length helds) ys (chain_of slots helds)

    other_slot : (z : ℕ) → is_among ys z ≡ true → slots (length helds) z ≡ slots_with (length helds) y null slots (length helds) z
    other_slot z among =
        sym (slot_there (length helds) y (length helds) z null slots
        (rw (itself (length helds)) (turned y z (other_variable y z ys apart.0 among))))

    here : is_token (slots (length helds) y) ≡ true
        → IsRowTop slots (y ∷ ys) helds (record { frame = length helds; slot = y }) after
    here token_there =
        let cell = token_is (slots (length helds) y) token_there in
        record {
          cell = cell.0;
          has = cell.1;
          below = omega arith;
          rest = rw (slot_here (length helds) y null slots)
              (links_same (slots (length helds)) (slots_with (length helds) y null slots (length helds)) (length helds) ys
              (chain_of slots helds) (chain_of (slots_with (length helds) y null slots) helds) other_slot
              (sym (chain_same slots (slots_with (length helds) y null slots) helds
              (equal_one (length helds) (length helds) y null slots (omega arith)))));
        }

    passed : (w : Which link.frame link.slot (length helds) y) → is_token (slots (length helds) y) ≡ false
        → is_token (slots_with link.frame link.slot null slots (length helds) y) ≡ false
    passed (this first second) none = ap is_token (slot_at link.frame link.slot (length helds) y null slots first second)
    passed (other apart) none = ap is_token (slot_there link.frame link.slot (length helds) y null slots apart) ∙ none

    by_test : (t : Bool) → is_token (slots (length helds) y) ≡ t
        → (if t then record { frame = length helds; slot = y } ∷ after else after) ≡ link ∷ links
        → (after ≡ link ∷ links → IsRowTop slots ys helds link links) → IsRowTop slots (y ∷ ys) helds link links
    by_test true test equal later =
        let first : record { frame = length helds; slot = y } ≡ link = cc in
        let second : after ≡ links = cc in
        subst (λ (ls : List Link). IsRowTop slots (y ∷ ys) helds link ls) second
        (subst (λ (l : Link). IsRowTop slots (y ∷ ys) helds l after) first (here test))
    by_test false test equal later =
        let top = later equal in
        record {
          cell = top.cell;
          has = top.has;
          below = top.below;
          rest = rw (passed (which link.frame link.slot (length helds) y) test) top.rest;
        }

pub chain_top : (slots : ℕ → ℕ → Slot) (helds : List (List ℕ)) (link : Link) (links : List Link) → AllApart helds
    → chain_of slots helds ≡ link ∷ links → IsTop slots helds link links
chain_top slots [] link links apart is = absurd (cc)
chain_top slots (held ∷ helds) link links apart is =
    let top = row_top slots held helds link links apart.0 (chain_top slots helds link links apart.1) is in
    record { cell = top.cell; has = top.has; below = top.below; rest = top.rest }

-- ---- an empty chain: no older frame has a token

row_none : (slots : ℕ → Slot) (f : ℕ) (ys : List ℕ) (older : List Link) → links_of slots f ys older ≡ []
    → ((y : ℕ) → is_among ys y ≡ true → is_token (slots y) ≡ false) × (older ≡ [])
row_none slots f [] older none = (λ y is. absurd (cc), none)
row_none slots f (x ∷ ys) older none = by_test (is_token (slots x)) refl none (row_none slots f ys older)
  where
    among_both : (y : ℕ) → is_token (slots x) ≡ false → ((z : ℕ) → is_among ys z ≡ true → is_token (slots z) ≡ false) → (t : Bool)
        → (x == y) ≡ t → (t || is_among ys y) ≡ true → is_token (slots y) ≡ false
    among_both y first rest true test is = ap (λ z. is_token (slots z)) (sym (same x y test)) ∙ first
    among_both y first rest false test is = rest y is

    by_test : (t : Bool) → is_token (slots x) ≡ t → (if t then record { frame = f; slot = x } ∷ links_of slots f ys older else
        links_of slots f ys older) ≡ [] → (links_of slots f ys older ≡ []
        → ((y : ℕ) → is_among ys y ≡ true → is_token (slots y) ≡ false) × (older ≡ []))
        → ((y : ℕ) → is_among (x ∷ ys) y ≡ true → is_token (slots y) ≡ false) × (older ≡ [])
    by_test true test equal later = absurd (cc)
    by_test false test equal later =
        let rest = later equal in (λ y is. among_both y test rest.0 (x == y) refl is, rest.1)

pub none_on_chain : (slots : ℕ → ℕ → Slot) (helds : List (List ℕ)) (frames : List TokenFrame) → AreHeldFrames slots helds frames
    → chain_of slots helds ≡ [] → (f y : ℕ) → f < length helds → is_token (slots f y) ≡ false
none_on_chain slots [] frames are none f y less = absurd (omega (arith, less))
none_on_chain slots (held ∷ helds) [] are none f y less = absurd are
none_on_chain slots (held ∷ helds) (frame ∷ frames) are none f y less =
    by_frame (f == length helds) refl (none_on_chain slots helds frames are.1
    (row_none (slots (length helds)) (length helds) held (chain_of slots helds) none).1 f y)
  where
    in_row : (y : ℕ) → is_among held y ≡ true → is_token (slots (length helds) y) ≡ false
    in_row = (row_none (slots (length helds)) (length helds) held (chain_of slots helds) none).0

    by_value : (slot : Slot) → slots (length helds) y ≡ slot → is_token (slots (length helds) y) ≡ false
    by_value spent is = ap is_token is
    by_value null is = ap is_token is
    by_value (token p) is = in_row y (are.0.all_held y (sym (are.0.slots_are y) ∙ ap is_unspent is))

    less_than : (f == length helds) ≡ false → f < length helds
    less_than apart = grind arith

    by_frame : (t : Bool) → (f == length helds) ≡ t → (f < length helds → is_token (slots f y) ≡ false)
        → is_token (slots f y) ≡ false
    by_frame true test later = ap (λ g. is_token (slots g y)) (same f (length helds) test) ∙ by_value (slots (length helds) y) refl
    by_frame false test later = later (less_than test)

-- ---- a slot that is not held is not on the chain

row_unlinked : (slots : ℕ → Slot) (g : ℕ) (ys : List ℕ) (older : List Link) (f y : ℕ)
    → ((x : ℕ) → is_among ys x ≡ true → ((g == f) && (x == y)) ≡ false) → is_linked f y older ≡ false
    → is_linked f y (links_of slots g ys older) ≡ false
row_unlinked slots g [] older f y apart none = none
row_unlinked slots g (x ∷ ys) older f y apart none =
    by_test (is_token (slots x)) (row_unlinked slots g ys older f y (λ z is. apart z (later z is (x == z))) none)
  where
    later : (z : ℕ) → is_among ys z ≡ true → (t : Bool) → (t || is_among ys z) ≡ true
    later z is true = refl
    later z is false = is

    by_test : (t : Bool) → is_linked f y (links_of slots g ys older) ≡ false
        → is_linked f y (if t then record { frame = g; slot = x } ∷ links_of slots g ys older else links_of slots g ys older) ≡ false
    by_test true rest =
        ap (λ b. b || is_linked f y (links_of slots g ys older)) (apart x (ap (λ b. b || is_among ys x) (itself x))) ∙ rest
    by_test false rest = rest

older_unlinked : (slots : ℕ → ℕ → Slot) (helds : List (List ℕ)) (f y : ℕ) → length helds ≤ f
    → is_linked f y (chain_of slots helds) ≡ false
older_unlinked slots [] f y far = refl
older_unlinked slots (held ∷ helds) f y far =
    row_unlinked (slots (length helds)) (length helds) held (chain_of slots helds) f y
    (λ x is. ap (λ b. b && (x == y)) (other (length helds) far)) (older_unlinked slots helds f y (omega (arith, far)))
  where
    other : (n : ℕ) → suc n ≤ f → (n == f) ≡ false
    other n less = grind arith

pub not_linked : (slots : ℕ → ℕ → Slot) (held : List ℕ) (older : List (List ℕ)) (y : ℕ) → is_among held y ≡ false
    → is_linked (length older) y (chain_of slots (held ∷ older)) ≡ false
not_linked slots held older y fresh =
    row_unlinked (slots (length older)) (length older) held (chain_of slots older) (length older) y
    (λ x is. unlike x is (x == y) refl (length older == length older)) (older_unlinked slots older (length older) y (omega arith))
  where
    unlike : (x : ℕ) → is_among held x ≡ true → (t : Bool) → (x == y) ≡ t → (s : Bool) → (s && (x == y)) ≡ false
    unlike x is true test s =
        let clash : true ≡ false = sym is ∙ (ap (is_among held) (same x y test) ∙ fresh) in
        absurd (cc)
    unlike x is false test true = test
    unlike x is false test false = refl
