-- The cells of tokens, once owners change: a token is held or taken back, it goes, or one comes.
use Rattle.std.proofs.Common.{◌≡◌, ◌≢◌, ℕ, ◌%◌, ◌<◌, ◌==◌, Bool, true, false, List, length, refl, sym, ◌∙◌, ap, subst, arith, eqb-true}
use Rattle.rv_isa.specs.Arithmetic.{bit_of}
use Rattle.rv_isa.specs.Numbers.{cell_size}
use Rattle.cell_heap.specs.Pool.{Pool, IsCell}
use Rattle.cell_heap.specs.Blocks.{Cells}
use Rattle.kk_counted.specs.Heaps.{Heap}
use Rattle.kk_counted.specs.Tokens.{Mark, plain, token_of, one_if_token, Link, Tokens, is_linked, marked, marks_with}
use Rattle.kk_counted.proofs.SlotMarks.{mark_here, mark_there, marked_with, plain_is_none}
use Rattle.rv_cells.specs.Layout.{Layout}
use Rattle.rv_cells.specs.CountedCells.{Owner, nobody, cell_of, in_hand, kept_aside, Follows, with_owner, is_aside, set_aside}
use Rattle.rv_cells.specs.CountedCells.{NoneAside}
use Rattle.rv_cells.proofs.Owners.{chosen_same, chosen_other}
use Rattle.rv_cells.proofs.UsedCells.{same_aside, aside_with, one_aside}
use Rattle.rv_cells.proofs.Words.{hand_owned, aside_owned}
use Rattle.rv_cells.proofs.TokenRelation.{IsTokenCell, token_words, HaveTokenCells}

pub token_aside : (linked : Bool) (ws : List ℕ) (owner : Owner) → IsTokenCell linked ws owner → is_aside owner ≡ true
token_aside true ws owner is = ap is_aside is.1
token_aside false ws owner is = ap is_aside is.1

-- the cell of a name at another address, with words that are the same
cell_there : (linked : Bool) (ws words : List ℕ) (owners : ℕ → Owner) (at there : ℕ) → words ≡ ws → there ≡ at
    → IsTokenCell linked ws (owners at) → IsTokenCell linked words (owners there)
cell_there linked ws words owners at there same_words same is =
    subst (λ to. IsTokenCell linked words (owners to)) (sym same)
    (subst (λ list. IsTokenCell linked list (owners at)) (sym same_words) is)

module _ {pool : Pool} {layout : Layout} {address : ℕ → ℕ} {owners : ℕ → Owner} {heap : Heap} {tokens : Tokens}
    (have : HaveTokenCells pool layout address owners heap tokens) where
  -- the same cells are set aside
  pub cells_stay : (later : ℕ → ℕ) (others : ℕ → Owner) (next : Heap) → ((f y p : ℕ) → tokens.marks p ≡ token_of f y
      → later p ≡ address p)
      → ((f y p : ℕ) → tokens.marks p ≡ token_of f y → token_words layout later next p ≡ token_words layout address heap p)
      → ((at : ℕ) (linked : Bool) (ws : List ℕ) → IsTokenCell linked ws (owners at) → IsTokenCell linked ws (others at))
      → ((at : ℕ) → is_aside (others at) ≡ is_aside (owners at))
      → marked tokens.marks (length next) ≡ marked tokens.marks (length heap)
      → HaveTokenCells pool layout later others next tokens
  cells_stay later others next same same_words stay aside many = record {
    are = λ f y p is.
        let ws = token_words layout address heap p in
        cell_there (is_linked f y tokens.chain) ws (token_words layout later next p) others (address p) (later p)
        (same_words f y p is) (same f y p is) (stay (address p) (is_linked f y tokens.chain) ws (have.are f y p is));
    apart = λ f y p g z q one two e. have.apart f y p g z q one two (sym (same f y p one) ∙ e ∙ same g z q two);
    number = same_aside pool others owners aside ∙ have.number ∙ sym many;
  }

  -- another cell than the one at an address
  differs : (f y p g z q : ℕ) → tokens.marks p ≡ token_of f y → tokens.marks q ≡ token_of g z → q ≢ p → address q ≢ address p
  differs f y p g z q one two other e = other (have.apart g z q f y p two one e)

  -- a token is held, or taken back
  pub cell_turns : pool.first % cell_size ≡ 0 → (f y p : ℕ) (owner : Owner) (links : List Link) → IsCell pool (address p)
      → tokens.marks p ≡ token_of f y → IsTokenCell (is_linked f y links) (token_words layout address heap p) owner
      → ((g z q : ℕ) → q ≢ p → tokens.marks q ≡ token_of g z → is_linked g z links ≡ is_linked g z tokens.chain)
      → HaveTokenCells pool layout address (with_owner (address p) owner owners) heap (record tokens { chain = links })
  cell_turns aligned f y p owner links cell mark is same = record {
    are = λ g z q marked_q. by g z q marked_q (q == p) refl;
    apart = have.apart;
    number =
        let change = aside_with pool aligned (address p) owner owners cell in
        let ws = token_words layout address heap p in
        let was = ap bit_of (token_aside (is_linked f y tokens.chain) ws (owners (address p)) (have.are f y p mark)) in
        let now = ap bit_of (token_aside (is_linked f y links) ws owner is) in
        let number = have.number in
        omega arith;
  }
    where
      mark_parts : {g z h x : ℕ} → token_of g z ≡ token_of h x → (g ≡ h) × (z ≡ x)
      mark_parts e = (cc, cc)

      by : (g z q : ℕ) → tokens.marks q ≡ token_of g z → (b : Bool) → (q == p) ≡ b
          → IsTokenCell (is_linked g z links) (token_words layout address heap q) (with_owner (address p) owner owners (address q))
      by g z q marked_q true test =
          let e : q ≡ p = eqb-true q p test in
          let parts = mark_parts (sym mark ∙ ap tokens.marks (sym e) ∙ marked_q) in
          subst (IsTokenCell (is_linked g z links) (token_words layout address heap q))
          (sym (chosen_same (address q) (address p) owner owners (ap address e)))
          (subst (λ r. IsTokenCell (is_linked g z links) (token_words layout address heap r) owner) (sym e)
          (subst (λ x. IsTokenCell (is_linked g x links) (token_words layout address heap p) owner) parts.1
          (subst (λ h. IsTokenCell (is_linked h y links) (token_words layout address heap p) owner) parts.0 is)))
      by g z q marked_q false test =
          let other : q ≢ p = λ e. let itself : (q == p) ≡ true = grind arith in let both = sym itself ∙ test in cc in
          subst (IsTokenCell (is_linked g z links) (token_words layout address heap q))
          (sym (chosen_other (address q) (address p) owner owners (differs f y p g z q mark marked_q other)))
          (subst (λ b. IsTokenCell b (token_words layout address heap q) (owners (address q))) (sym (same g z q other marked_q))
          (have.are g z q marked_q))

  -- A token goes: its cell is not set aside any more. The other cells that are set aside stay so, and as many names are marked.
  pub cell_goes : pool.first % cell_size ≡ 0 → (f y p : ℕ) (later : ℕ → ℕ) (others : ℕ → Owner) (next : Heap) (after : Tokens)
      → IsCell pool (address p) → p < length heap → tokens.marks p ≡ token_of f y → after.marks ≡ marks_with p plain tokens.marks
      → ((g z q : ℕ) → q ≢ p → tokens.marks q ≡ token_of g z → later q ≡ address q)
      → ((g z q : ℕ) → tokens.marks q ≡ token_of g z → token_words layout later next q ≡ token_words layout address heap q)
      → ((g z q : ℕ) → q ≢ p → tokens.marks q ≡ token_of g z → is_linked g z after.chain ≡ is_linked g z tokens.chain)
      → ((at : ℕ) (linked : Bool) (ws : List ℕ) → at ≢ address p → IsTokenCell linked ws (owners at)
      → IsTokenCell linked ws (others at))
      → is_aside (others (address p)) ≡ false
      → ((at : ℕ) → at ≢ address p → is_aside (others at) ≡ is_aside (owners at))
      → marked after.marks (length next) ≡ marked after.marks (length heap) → HaveTokenCells pool layout later others next after
  cell_goes aligned f y p later others next after cell low mark marks_are same same_words linked stay gone aside many = record {
    are = λ g z q is.
        let o = old g z q is in
        let ws = token_words layout address heap q in
        cell_there (is_linked g z after.chain) ws (token_words layout later next q) others (address q) (later q)
        (same_words g z q o.1) (same g z q o.0 o.1)
        (subst (λ b. IsTokenCell b ws (others (address q))) (sym (linked g z q o.0 o.1))
        (stay (address q) (is_linked g z tokens.chain) ws (differs f y p g z q mark o.1 o.0) (have.are g z q o.1)));
    apart = λ g z q h x r one two e.
        let a = old g z q one in let b = old h x r two in
        have.apart g z q h x r a.1 b.1 (sym (same g z q a.0 a.1) ∙ e ∙ same h x r b.0 b.1);
    number =
        let change = one_aside pool aligned (address p) owners others cell aside in
        let was = ap bit_of (token_aside (is_linked f y tokens.chain) (token_words layout address heap p) (owners (address p))
        (have.are f y p mark)) in
        let now = ap bit_of gone in
        let one = ap one_if_token mark in
        let fewer = marked_with p (length heap) plain tokens.marks low in
        let now_many = ap (λ m. marked m (length heap)) marks_are in
        let number = have.number in
        omega arith;
  }
    where
      old : (g z q : ℕ) → after.marks q ≡ token_of g z → (q ≢ p) × (tokens.marks q ≡ token_of g z)
      old g z q is = by (q == p) refl (sym (ap (λ (m : ℕ → Mark). m q) marks_are) ∙ is)
        where
          by : (b : Bool) → (q == p) ≡ b → marks_with p plain tokens.marks q ≡ token_of g z
              → (q ≢ p) × (tokens.marks q ≡ token_of g z)
          by true test here =
              let e : q ≡ p = eqb-true q p test in
              absurd (plain_is_none g z (sym (mark_here p plain tokens.marks)
              ∙ ap (marks_with p plain tokens.marks) (sym e) ∙ here))
          by false test here = (
            λ e. let itself : (q == p) ≡ true = grind arith in let both = sym itself ∙ test in cc,
            sym (mark_there p q plain tokens.marks test) ∙ here,
          )

  -- A token comes: a cell that was not set aside is in hand.
  pub cell_comes : pool.first % cell_size ≡ 0 → (f y p : ℕ) (others : ℕ → Owner) (next : Heap) (after : Tokens)
      → IsCell pool (address p)
      → p < length heap → tokens.marks p ≡ plain → after.marks ≡ marks_with p (token_of f y) tokens.marks
      → after.chain ≡ tokens.chain → length next ≡ length heap
      → ((q : ℕ) → token_words layout address next q ≡ token_words layout address heap q)
      → IsTokenCell (is_linked f y tokens.chain) (token_words layout address heap p) (others (address p))
      → is_aside (owners (address p)) ≡ false
      → ((at : ℕ) (linked : Bool) (ws : List ℕ) → at ≢ address p → IsTokenCell linked ws (owners at)
      → IsTokenCell linked ws (others at))
      → ((at : ℕ) → at ≢ address p → is_aside (others at) ≡ is_aside (owners at))
      → HaveTokenCells pool layout address others next after
  cell_comes aligned f y p others next after cell low mark marks_are chain_is long same_words comes free stay aside = record {
    are = λ g z q is. subst (λ links. IsTokenCell (is_linked g z links) (token_words layout address next q) (others (address q)))
        (sym chain_is)
        (cell_there (is_linked g z tokens.chain) (token_words layout address heap q) (token_words layout address next q) others
        (address q) (address q) (same_words q) refl (by_are g z q is (q == p) refl));
    apart = λ g z q h x r one two e. by_apart g z q h x r one two e (q == p) refl (r == p) refl;
    number =
        let change = one_aside pool aligned (address p) owners others cell aside in
        let was = ap bit_of free in
        let now = ap bit_of (token_aside (is_linked f y tokens.chain) (token_words layout address heap p) (others (address p))
        comes) in
        let one = ap one_if_token mark in
        let more = marked_with p (length heap) (token_of f y) tokens.marks low in
        let now_many = ap (λ m. marked m (length next)) marks_are in
        let same_many = ap (marked (marks_with p (token_of f y) tokens.marks)) long in
        let number = have.number in
        omega arith;
  }
    where
      mark_parts : {g z h x : ℕ} → token_of g z ≡ token_of h x → (g ≡ h) × (z ≡ x)
      mark_parts e = (cc, cc)

      mark_of : (g z q : ℕ) → after.marks q ≡ token_of g z → marks_with p (token_of f y) tokens.marks q ≡ token_of g z
      mark_of g z q is = sym (ap (λ (m : ℕ → Mark). m q) marks_are) ∙ is

      old : (g z q : ℕ) → after.marks q ≡ token_of g z → (q == p) ≡ false → tokens.marks q ≡ token_of g z
      old g z q is test = sym (mark_there p q (token_of f y) tokens.marks test) ∙ mark_of g z q is

      far : (g z q : ℕ) → tokens.marks q ≡ token_of g z → address q ≢ address p
      far g z q is e =
          let aside_q = token_aside (is_linked g z tokens.chain) (token_words layout address heap q) (owners (address q))
          (have.are g z q is) in
          let both : true ≡ false = sym aside_q ∙ ap (λ at. is_aside (owners at)) e ∙ free in cc

      by_are : (g z q : ℕ) → after.marks q ≡ token_of g z → (b : Bool) → (q == p) ≡ b
          → IsTokenCell (is_linked g z tokens.chain) (token_words layout address heap q) (others (address q))
      by_are g z q is true test =
          let e : p ≡ q = sym (eqb-true q p test) in
          let parts = mark_parts (sym (mark_here p (token_of f y) tokens.marks)
          ∙ ap (marks_with p (token_of f y) tokens.marks) e ∙ mark_of g z q is) in
          subst (λ r. IsTokenCell (is_linked g z tokens.chain) (token_words layout address heap r) (others (address r))) e
          (subst (λ x. IsTokenCell (is_linked g x tokens.chain) (token_words layout address heap p) (others (address p))) parts.1
          (subst (λ h. IsTokenCell (is_linked h y tokens.chain) (token_words layout address heap p) (others (address p))) parts.0
          comes))
      by_are g z q is false test =
          let o = old g z q is test in
          stay (address q) (is_linked g z tokens.chain) (token_words layout address heap q) (far g z q o) (have.are g z q o)

      by_apart : (g z q h x r : ℕ) → after.marks q ≡ token_of g z → after.marks r ≡ token_of h x → address q ≡ address r
          → (b : Bool) → (q == p) ≡ b → (c : Bool) → (r == p) ≡ c → q ≡ r
      by_apart g z q h x r one two e true first true second = eqb-true q p first ∙ sym (eqb-true r p second)
      by_apart g z q h x r one two e true first false second =
          absurd (far h x r (old h x r two second) (sym e ∙ ap address (eqb-true q p first)))
      by_apart g z q h x r one two e false first true second =
          absurd (far g z q (old g z q one first) (e ∙ ap address (eqb-true r p second)))
      by_apart g z q h x r one two e false first false second =
          have.apart g z q h x r (old g z q one first) (old h x r two second) e

-- where as many as none are set aside, none is
pub none_by_number : {pool : Pool} {layout : Layout} {address : ℕ → ℕ} {owners : ℕ → Owner} {heap : Heap} {cells : Cells}
    → pool.first % cell_size ≡ 0 → Follows pool layout address owners heap cells → set_aside pool owners ≡ 0 → NoneAside owners
none_by_number {pool} {layout} {address} {owners} {heap} {cells} aligned stands none = λ at. by at (owners at) refl
  where
    taken : (at : ℕ) → IsCell pool at → is_aside (owners at) ≡ true → ⊥
    taken at cell is =
        let change = aside_with pool aligned at nobody owners cell in
        let was = ap bit_of is in
        absurd (omega arith)

    by : (at : ℕ) (owner : Owner) → owners at ≡ owner → is_aside (owners at) ≡ false
    by at nobody is = ap is_aside is
    by at (cell_of name) is = ap is_aside is
    by at (in_hand words) is = absurd (taken at (hand_owned stands at words is).0 (ap is_aside is))
    by at (kept_aside words) is = absurd (taken at (aside_owned stands at words is).0 (ap is_aside is))
