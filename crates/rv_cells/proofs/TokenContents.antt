-- What stands in the cells of tokens stays there, and is there once a cell is opened.
use Rattle.std.proofs.Common.{◌≡◌, ◌≢◌, ℕ, inl, inr, true, false, List, [], ◌∷◌, Option, None, Some, sym, ◌∙◌, ap, subst, arith}
use Rattle.std.proofs.lemmas.Bool.{cases_eq}
use Rattle.std.proofs.lemmas.Bool.Decides.{nat_tests}
use Rattle.kk_syntax.specs.Shapes.{is_among}
use Rattle.kk_counted.specs.Tokens.{Slot, token, is_unspent}
use Rattle.rv_cells.specs.declared.standing.Standing.{Standing}
use Rattle.rv_cells.specs.declared.standing.Standing.TheVariants.{Nothing, Count, Cell}
use Rattle.rv_cells.specs.Layout.{Layout, header_of}
use Rattle.rv_cells.specs.CountedCells.{Owner, in_hand}
use Rattle.rv_cells.specs.TokenedLines.{header_stands, count_stands, IsOf, HoldsNone}
use Rattle.rv_cells.proofs.TokenRelation.{StandsIn, AllStand}

-- where nothing is known nothing is to be shown
pub nothing_stands : (layout : Layout) (standing : Standing) (address : ℕ → ℕ) (owners : ℕ → Owner) (slots : ℕ → Slot)
    → standing ≡ Nothing → AllStand layout standing address owners slots
nothing_stands layout standing address owners slots is y p has =
    subst (λ (known : Standing). StandsIn layout known (owners (address p))) (sym is) tt

-- where no slot has a token but held ones, of which none is where something stands
pub none_stands : (layout : Layout) (standing : Standing) (address : ℕ → ℕ) (owners : ℕ → Owner) (slots : ℕ → Slot)
    (others unspent : List ℕ) → HoldsNone standing others → ((y : ℕ) → is_unspent (slots y) ≡ is_among unspent y)
    → ((y : ℕ) → is_among unspent y ≡ true → is_among others y ≡ true) → AllStand layout standing address owners slots
none_stands layout standing address owners slots [] unspent holds are all y p has =
    let both : false ≡ true = all y (sym (are y) ∙ ap is_unspent has) in cc both
none_stands layout standing address owners slots (other ∷ others) unspent holds are all y p has =
    nothing_stands layout standing address owners slots holds y p has

-- the same tokens, whose cells have the same owners
pub stand_moved : (layout : Layout) (standing : Standing) (address later : ℕ → ℕ) (owners others : ℕ → Owner)
    (slots next : ℕ → Slot)
    → ((y p : ℕ) → next y ≡ token p → (slots y ≡ token p) × (others (later p) ≡ owners (address p)))
    → AllStand layout standing address owners slots → AllStand layout standing later others next
stand_moved layout standing address later owners others slots next same stand y p has =
    let was = same y p has in subst (StandsIn layout standing) (sym was.1) (stand y p was.0)

-- one slot is another one
pub stand_set : (layout : Layout) (standing : Standing) (address : ℕ → ℕ) (owners others : ℕ → Owner) (slots next : ℕ → Slot)
    (y : ℕ) → ((p : ℕ) → next y ≡ token p → StandsIn layout standing (others (address p)))
    → ((z : ℕ) → z ≢ y → next z ≡ slots z)
    → ((z p : ℕ) → z ≢ y → slots z ≡ token p → others (address p) ≡ owners (address p))
    → AllStand layout standing address owners slots → AllStand layout standing address others next
stand_set layout standing address owners others slots next y one same kept stand z p has =
    elim (cases_eq z y) [
      | inl e ↦ one p (ap next (sym e) ∙ has)
      | inr differ ↦
          (let was : slots z ≡ token p = sym (same z differ) ∙ has in
          subst (StandsIn layout standing) (sym (kept z p differ was)) (stand z p was))
    ]

-- the words of a cell in hand
abbrev hand_words : Owner → ℕ → Option ℕ
hand_words (in_hand words) = words
hand_words owner = λ i. None

-- what stands in a cell whose words are these
pub standing_words : (layout : Layout) (standing : Standing) (c : ℕ) (owner : Owner) (words : ℕ → Option ℕ) → owner ≡ in_hand words
    → StandsIn layout standing owner
    → (header_stands standing c ≡ true → words 1 ≡ Some (header_of layout c)) × (count_stands standing ≡ true → words 0 ≡ Some 1)
standing_words layout Nothing c owner words is stand = ((λ e. cc e), (λ e. cc e))
standing_words layout Count c owner words is stand =
    let same : words ≡ stand.0 = ap hand_words (sym is ∙ stand.1) in (
      (λ e. cc e),
      λ e. ap (λ (w : ℕ → Option ℕ). w 0) same ∙ stand.2,
    )
standing_words layout (Cell k) c owner words is stand =
    let same : words ≡ stand.0 = ap hand_words (sym is ∙ stand.1) in (
      λ e.
          let made : k ≡ c = grind (arith, nat_tests, e) in
          ap (λ (w : ℕ → Option ℕ). w 1) same ∙ stand.3 ∙ ap (λ (d : ℕ). Some (header_of layout d)) made,
      λ e. ap (λ (w : ℕ → Option ℕ). w 0) same ∙ stand.2,
    )

-- a cell that was opened has it
pub opened_stands : (layout : Layout) (standing : Standing) (c : ℕ) (owner : Owner) (words : ℕ → Option ℕ) → IsOf standing c
    → owner ≡ in_hand words → words 0 ≡ Some 1 → words 1 ≡ Some (header_of layout c) → StandsIn layout standing owner
opened_stands layout Nothing c owner words of is one header = tt
opened_stands layout Count c owner words of is one header = (words, is, one)
opened_stands layout (Cell k) c owner words of is one header =
    (words, is, one, header ∙ ap (λ (d : ℕ). Some (header_of layout d)) (sym of))
