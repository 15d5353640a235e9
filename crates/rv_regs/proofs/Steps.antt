-- The parts of a step in both machines: words, labels, callees, parameters.
use Rattle.std.proofs.Common.{◌≡◌, ◌==◌, ◌+◌, ◌≤◌, ℕ, zero, suc, List, [], ◌∷◌, Option, Some, None, Bool, true, false, cond, All, IsSomeAnd, IsTrue, slice_get, refl, sym, ◌∙◌, ap, subst, arith, add-one, map, option_map}
use Rattle.std.specs.List.{position_from}
use Rattle.std.proofs.lemmas.Bool.{eqb-true, eqb-false}
use Rattle.std.proofs.lemmas.List.Elements.{All-head, All-tail}
use Rattle.rv_isa.specs.declared.placed.Place.{Place}
use Rattle.rv_isa.specs.declared.placed.Place.TheVariants.{Register as register, Slot as slot}
use Rattle.rv_isa.specs.declared.placed.Operand.{Operand}
use Rattle.rv_isa.specs.declared.placed.Listed.{Listed}
use Rattle.rv_isa.specs.AsmCode.{Line, Lines}
use Rattle.rv_isa.specs.PlacedCode.{PlacedLine, does, moves, PlacedLines}
use Rattle.rv_isa.specs.Primitives.{or_stuck}
use Rattle.rv_isa.specs.Conventions.{argument, is_in}
use Rattle.rv_isa.specs.Frames.{empty, put, found}
use Rattle.rv_isa.specs.AsmMachine.{AsmTurn, is_label, bound, asm_entered, unless_held}
use Rattle.rv_isa.specs.PlacedMachine.{PlacedTurn, is_label_line, read_at, passed, placed_entered}
use Rattle.rv_regs.specs.Listings.{first_alive, listed_as}
use Rattle.rv_regs.specs.Conditions.{value_of, without_moves, AtBoth, StandsAt, IsAtPlace, IsPassed, AllFit, IsPlacing, ArePlacings}
use Rattle.rv_regs.specs.Relation.{Holds, HeldAs, Stands, StandsFor}
use Rattle.rv_regs.proofs.ValueListings.{listed_has, put_same, put_other, at_one, stands_has}
use Rattle.rv_regs.proofs.Tokens.{apart_first}

-- a turn on a value that is there in one machine, and then in the other
pub both_go : {A B H W : Type 0} (o : Option A) (o' : Option B) (next : A → AsmTurn H W) (next' : B → PlacedTurn H W)
    → ((a : A) → o ≡ Some a → (b : B) × (o' ≡ Some b) × StandsFor (next a) (next' b)) → StandsFor (or_stuck o next) (or_stuck o' next')
both_go None o' next next' meets = tt
both_go {B = B} (Some a) o' next next' meets = let b = meets a refl in subst (λ (x : Option B). StandsFor (next a) (or_stuck x next')) (sym b.1) b.2

pub same_go : {A H W : Type 0} (o : Option A) (next : A → AsmTurn H W) (next' : A → PlacedTurn H W)
    → ((a : A) → o ≡ Some a → StandsFor (next a) (next' a)) → StandsFor (or_stuck o next) (or_stuck o next')
same_go None next next' meets = tt
same_go (Some a) next next' meets = meets a refl

pub cond_go : {H W : Type 0} (b : Bool) (s s' : AsmTurn H W) (t t' : PlacedTurn H W) → StandsFor s t → StandsFor s' t' → StandsFor (cond b s s') (cond b t t')
cond_go true s s' t t' yes_ no_ = yes_
cond_go false s s' t t' yes_ no_ = no_

pub held_go : {H W : Type 0} (alive : List Listed) (vs ks : List ℕ) (s : AsmTurn H W) (t : PlacedTurn H W) → HeldAs alive vs ks → StandsFor s t → StandsFor (unless_held vs s) (unless_held ks t)
held_go alive [] [] s t held stands = stands
held_go alive [] (k ∷ ks) s t held stands = absurd held
held_go alive (v ∷ vs) ks s t held stands = tt

at_place : (o : Option Listed) (place : Place) → IsSomeAnd o (StandsAt place) → (l : Listed) × (o ≡ Some l) × StandsAt place l
at_place None place at = absurd at
at_place (Some l) place at = (l, refl, at)

-- what is read is listed, and stands where it is read
pub read_listed : (alive : List Listed) (read : Operand) → IsAtPlace alive read → (l : Listed) × (listed_as read.value alive ≡ Some l) × StandsAt read.place l
read_listed alive read stands = at_place (listed_as read.value alive) read.place stands

pub word_at : (alive : List Listed) (values registers slots : ℕ → Option ℕ) (read : Operand) → Holds alive values registers slots → IsAtPlace alive read
    → values read.value ≡ read_at registers slots read.place
word_at alive values registers slots read holds stands =
    let l = read_listed alive read stands in
    stands_has (λ place. values read.value ≡ read_at registers slots place) l.0 read.place (holds read.value l.0 l.1) l.2

-- the words of the arguments are the same
pub words_at : (alive : List Listed) (values registers slots : ℕ → Option ℕ) (args : List Operand) → Holds alive values registers slots → All (IsAtPlace alive) args
    → map values (map value_of args) ≡ map (λ (arg : Operand). read_at registers slots arg.place) args
words_at alive values registers slots [] holds stand = refl
words_at alive values registers slots (arg ∷ args) holds stand =
    let one = word_at alive values registers slots arg holds (All-head (IsAtPlace alive) arg args stand) in
    let more = words_at alive values registers slots args holds (All-tail (IsAtPlace alive) arg args stand) in
    cc (one, more)

found_step : (l : ℕ) (whole rest : List PlacedLine) (line : PlacedLine) (first : Line) (b : Bool) → without_moves (line ∷ rest) ≡ first ∷ without_moves rest → AllFit whole (line ∷ rest)
    → ((k : List Line) → found (λ (x : Line). is_label l x.action) (without_moves rest) ≡ Some k → (k' : List PlacedLine) × (found (is_label_line l) rest ≡ Some k') × ((without_moves k' ≡ k) × AllFit whole k'))
    → (k : List Line) → cond b (Some (first ∷ without_moves rest)) (found (λ (x : Line). is_label l x.action) (without_moves rest)) ≡ Some k
    → (k' : List PlacedLine) × (cond b (Some (line ∷ rest)) (found (is_label_line l) rest) ≡ Some k') × ((without_moves k' ≡ k) × AllFit whole k')
found_step l whole rest line first true same fit later k e = (line ∷ rest, refl, (same ∙ cc, fit))
found_step l whole rest line first false same fit later k e = later k e

-- a label that is found in code is found in it with its moves and places
pub found_both : (l : ℕ) (whole code : List PlacedLine) → AllFit whole code → (k : List Line) → found (λ (x : Line). is_label l x.action) (without_moves code) ≡ Some k
    → (k' : List PlacedLine) × (found (is_label_line l) code ≡ Some k') × ((without_moves k' ≡ k) × AllFit whole k')
found_both l whole [] fit k e = cc
found_both l whole (does alive action args into ∷ rest) fit k e =
    found_step l whole rest (does alive action args into) (record { action = action; args = map value_of args; into = option_map value_of into }) (is_label l action) refl fit (found_both l whole rest fit.1) k e
found_both l whole (moves alive value way ∷ rest) fit k e = found_both l whole rest fit.1 k e

-- a function that is called is there with places
pub callee_both : (asm : List Lines) (placed : List PlacedLines) → ArePlacings asm placed → (g : ℕ) (callee : Lines) → slice_get asm g ≡ Some callee
    → (callee' : PlacedLines) × (slice_get placed g ≡ Some callee') × IsPlacing callee callee'
callee_both [] placed all g callee e = cc
callee_both (f ∷ fs) [] all g callee e = absurd all
callee_both (f ∷ fs) (p ∷ ps) all zero callee e = let same : f ≡ callee = cc in (p, refl, subst (λ (c : Lines). IsPlacing c p) same all.0)
callee_both (f ∷ fs) (p ∷ ps) all (suc g) callee e = callee_both fs ps all.1 g callee e

mapped_from : (p w : ℕ) (o : Option (ℕ → Option ℕ)) (cells : ℕ → Option ℕ) → option_map (put p (Some w)) o ≡ Some cells → (c : ℕ → Option ℕ) × (o ≡ Some c) × (put p (Some w) c ≡ cells)
mapped_from p w None cells e = cc
mapped_from p w (Some c) cells e = (c, refl, cc)

bound_step : (p w v n i : ℕ) (ws : List ℕ) (c cells : ℕ → Option ℕ) (o : Option ℕ) (b : Bool) → (p == v) ≡ b → put p (Some w) c ≡ cells
    → (o ≡ Some n → (i + 1 ≤ n) × (c v ≡ passed (i + 1) ws (argument n)))
    → cond b (Some i) o ≡ Some n → (i ≤ n) × (cells v ≡ passed i (w ∷ ws) (argument n))
bound_step p w v n i ws c cells o true t made later e =
    let same : p ≡ v = eqb-true p v t in
    let first : i ≡ n = cc in (
      omega arith,
      ap (λ (f : ℕ → Option ℕ). f v) (sym made) ∙ ap (put p (Some w) c) (sym same) ∙ put_same p (Some w) c
          ∙ sym (ap (λ (j : ℕ). put (argument i) (Some w) (passed (suc i) ws) (argument j)) (sym first) ∙ put_same (argument i) (Some w) (passed (suc i) ws)),
    )
bound_step p w v n i ws c cells o false t made later e =
    let rest = later e in (
      omega (arith, rest.0),
      ap (λ (f : ℕ → Option ℕ). f v) (sym made) ∙ put_other p (Some w) c v (λ same. eqb-false p v t (sym same)) ∙ rest.1
          ∙ ap (λ (j : ℕ). passed j ws (argument n)) (add-one i)
          ∙ sym (put_other (argument i) (Some w) (passed (suc i) ws) (argument n) (λ same. absurd (omega (arith, rest.0, same)))),
    )

-- a parameter is the word that was passed at its place
pub bound_at : (params words : List ℕ) (cells : ℕ → Option ℕ) (v n i : ℕ) → bound params words ≡ Some cells → position_from (λ (param : ℕ). param == v) i params ≡ Some n
    → (i ≤ n) × (cells v ≡ passed i words (argument n))
bound_at [] words cells v n i e at = cc
bound_at (p ∷ ps) [] cells v n i e at = cc
bound_at (p ∷ ps) (w ∷ ws) cells v n i e at =
    let c = mapped_from p w (bound ps ws) cells e in
    bound_step p w v n i ws c.0 cells (position_from (λ (param : ℕ). param == v) (i + 1) ps) (p == v) refl c.2 (λ d. bound_at ps ws c.0 v n (i + 1) c.1 d) at

some_and : (o : Option ℕ) (P : ℕ → Type 0) → IsSomeAnd o P → (n : ℕ) × (o ≡ Some n) × P n
some_and None P is = absurd is
some_and (Some n) P is = (n, refl, is)

passed_at : (registers slots : ℕ → Option ℕ) (x : ℕ) (place : Place) → IsTrue (is_in x place) → read_at registers slots place ≡ registers x
passed_at registers slots x (register r) is = ap registers (eqb-true r.number x is)
passed_at registers slots x (slot k) is = absurd (cc is)

start_at : (params words : List ℕ) (cells : ℕ → Option ℕ) (v : ℕ) (l : Listed) → bound params words ≡ Some cells → IsPassed params l → l.value ≡ v
    → AtBoth (λ place. cells v ≡ read_at (passed 0 words) empty place) l
unfolding IsPassed
start_at params words cells v l e passes same =
    let n = some_and (position_from (λ (param : ℕ). param == l.value) 0 params) (λ n. IsTrue (is_in (argument n) l.place) × ((l.held ≡ false) × (l.copy ≡ None))) passes in
    at_one (λ place. cells v ≡ read_at (passed 0 words) empty place) l n.2.1.1
    (ap cells (sym same) ∙ (bound_at params words cells l.value n.0 0 e n.1).1 ∙ sym (passed_at (passed 0 words) empty (argument n.0) l.place n.2.0))

-- a function begins alike
pub enters : (n : ℕ) (function : Lines) (placed : PlacedLines) (words : List ℕ) (cells : ℕ → Option ℕ) → IsPlacing function placed → bound function.params words ≡ Some cells
    → Stands (first_alive placed.code) (passed 0 words) (asm_entered n function cells) (placed_entered n placed)
enters n function placed words cells placing e =
    record {
      same = record { function = refl; code = placing.code; whole = placing.code; code_fits = placing.fit; whole_fits = placing.fit };
      apart = apart_first placed.code placed.code placing.fit;
      holds = λ v l listed. let has = listed_has (IsPassed function.params) (first_alive placed.code) v l placing.start listed in start_at function.params words cells v l e has.0 has.1;
      held = tt;
    }
