-- Which tokens are held at the points of well-formed code.
use Rattle.std.proofs.Common.{◌≡◌, ◌==◌, ◌||◌, ◌&&◌, ◌⊎◌, ℕ, List, [], ◌∷◌, ◌++◌, Option, Some, None, Bool, true, false, not, cond, length, drop, refl, sym, ◌∙◌, ap, subst, inl, inr, map}
use Rattle.std.specs.List.{AllByRecursion}
use Rattle.std.proofs.Math.Seq.{drop-append_seam}
use Rattle.std.proofs.lemmas.Bool.{or_cases, or_left, or_right, and_from, not_from_false, false≢true, false_from_ne_true}
use Rattle.std.proofs.lemmas.List.Folds.{list_any-append}
use Rattle.rv_isa.specs.declared.register.Register.{Register}
use Rattle.rv_isa.specs.declared.asm.Action.{Action}
use Rattle.rv_isa.specs.declared.asm.Action.TheVariants.{Compute, Label, Jump, Branch, Call, TailCall, Return, Routine, Hold, Unhold, Room}
use Rattle.rv_isa.specs.declared.placed.Place.{Place}
use Rattle.rv_isa.specs.declared.placed.Place.TheVariants.{Slot as slot}
use Rattle.rv_isa.specs.declared.placed.Listed.{Listed}
use Rattle.rv_isa.specs.declared.placed.Operand.{Operand}
use Rattle.rv_isa.specs.AsmCode.{Line}
use Rattle.rv_isa.specs.Frames.{is_among}
use Rattle.rv_isa.specs.WellFormed.{is_written, is_alive, is_alive_behind, goes_straight_on, may_give, has_value, first_of, ChangesHeld, LeavesHeld, AreTokensHeld}
use Rattle.rv_regs.specs.declared.slots.Loaded.{Loaded}
use Rattle.rv_propose.specs.Alive.{held_before, held_values}
use Rattle.rv_regs.specs.Listings.{is_read_in, is_first_read, marks}
use Rattle.rv_regs.specs.Plain.{place_in, copy_in, listing_at, operand_at, first_register, register_args, loaded_for, operands_for}
use Rattle.rv_regs.proofs.RegisterPlaces.{all_weaker, place_slot, copy_none, load_values}

among_append : (v : ℕ) (xs ys : List ℕ) → is_among v (xs ++ ys) ≡ (is_among v xs || is_among v ys)
among_append v xs ys = list_any-append (λ (other : ℕ). other == v) xs ys

-- ---- the lists are exact

before_exact : (action : Action) (args before behind : List ℕ) → ChangesHeld action args before behind → held_before action args behind ≡ before
before_exact Hold args before behind changes = ap (drop (length (first_of args))) changes ∙ drop-append_seam (first_of args) before
before_exact Unhold args before behind changes = sym changes
before_exact action args before behind changes = sym changes.0

pub held_exact : (held : List ℕ) (code : List Line) → AreTokensHeld held code → held_values code ≡ held
held_exact held [] tokens = sym tokens
held_exact held (line ∷ rest) tokens =
    ap (held_before line.action line.args) (held_exact tokens.0 rest tokens.1.1.1) ∙ before_exact line.action line.args held tokens.0 tokens.1.0

-- ---- what is held is alive

stays_alive : (v : ℕ) (action : Action) (args before behind : List ℕ) (into : Option ℕ) (rest : List Line) → ChangesHeld action args before behind
    → LeavesHeld (record { action = action; args = args; into = into }) before behind → is_among v before ≡ true → (is_among v behind ≡ true → is_alive v rest ≡ true)
    → is_alive v (record { action = action; args = args; into = into } ∷ rest) ≡ true
stays_alive v action args before behind into rest changes leaves there later = go action changes
  where
    read : (a : Action) → is_among v args ≡ true → (is_among v args || (not (is_written into v) && is_alive_behind v a rest)) ≡ true
    read a t = or_left (is_among v args) (not (is_written into v) && is_alive_behind v a rest) t

    kept : (a : Action) → is_among v behind ≡ true → is_alive_behind v a rest ≡ is_alive v rest → (is_among v args || (not (is_written into v) && is_alive_behind v a rest)) ≡ true
    kept a t same =
        or_right (is_among v args) (not (is_written into v) && is_alive_behind v a rest)
        (and_from (not (is_written into v)) (is_alive_behind v a rest) (not_from_false (is_written into v) (leaves v there t).1) (same ∙ later t))

    taken : (is_among v args ≡ true) ⊎ (is_among v behind ≡ true) → (is_among v args || (not (is_written into v) && is_alive v rest)) ≡ true
    taken (inl t) = read Unhold t
    taken (inr t) = kept Unhold t refl

    none : (a : Action) → before ≡ [] → (is_among v args || (not (is_written into v) && is_alive_behind v a rest)) ≡ true
    none a e = absurd (false≢true (sym (ap (is_among v) e) ∙ there))

    go : (a : Action) → ChangesHeld a args before behind → (is_among v args || (not (is_written into v) && is_alive_behind v a rest)) ≡ true
    go Hold c = kept Hold (ap (is_among v) c ∙ among_append v (first_of args) before ∙ or_right (is_among v (first_of args)) (is_among v before) there) refl
    go Unhold c = taken (or_cases (is_among v args) (is_among v behind) (sym (ap (is_among v) c ∙ among_append v args behind) ∙ there))
    go (Jump l) c = none (Jump l) (c.1 refl)
    go (Branch condition l) c = none (Branch condition l) (c.1 refl)
    go (TailCall f) c = none (TailCall f) (c.1 refl)
    go Return c = none Return (c.1 refl)
    go (Label l) c = none (Label l) (c.1 refl)
    go (Compute operation) c = kept (Compute operation) (sym (ap (is_among v) c.0) ∙ there) refl
    go (Call f) c = kept (Call f) (sym (ap (is_among v) c.0) ∙ there) refl
    go (Routine routine) c = kept (Routine routine) (sym (ap (is_among v) c.0) ∙ there) refl
    go Room c = kept Room (sym (ap (is_among v) c.0) ∙ there) refl

pub held_alive : (v : ℕ) (held : List ℕ) (code : List Line) → AreTokensHeld held code → is_among v held ≡ true → is_alive v code ≡ true
held_alive v held [] tokens there = absurd (false≢true (sym (ap (is_among v) tokens) ∙ there))
held_alive v held (line ∷ rest) tokens there =
    stays_alive v line.action line.args held tokens.0 line.into rest tokens.1.0 tokens.1.1.0 there (held_alive v tokens.0 rest tokens.1.1.1)

-- ---- each line

-- what is held before a line and behind it, said of the lists
pub record HoldsRight (line : Line) (rest : List Line) : Type 0 where
  pub changes : ChangesHeld line.action line.args (held_values (line ∷ rest)) (held_values rest)
  pub leaves : LeavesHeld line (held_values (line ∷ rest)) (held_values rest)
  pub alive : (v : ℕ) → is_among v (held_values rest) ≡ true → is_alive v rest ≡ true

abbrev pub AllHoldRight : List Line → Type 0
AllHoldRight [] = Unit {0}
AllHoldRight (line ∷ rest) = HoldsRight line rest × AllHoldRight rest

pub all_hold_right : (held : List ℕ) (code : List Line) → AreTokensHeld held code → AllHoldRight code
all_hold_right held [] tokens = tt
all_hold_right held (line ∷ rest) tokens =
    let before : held_values (line ∷ rest) ≡ held = held_exact held (line ∷ rest) tokens in
    let behind : held_values rest ≡ tokens.0 = held_exact tokens.0 rest tokens.1.1.1 in (
      record {
        changes = subst (λ (vs : List ℕ). ChangesHeld line.action line.args vs (held_values rest)) (sym before)
            (subst (λ (vs : List ℕ). ChangesHeld line.action line.args held vs) (sym behind) tokens.1.0);
        leaves = subst (λ (vs : List ℕ). LeavesHeld line vs (held_values rest)) (sym before)
            (subst (λ (vs : List ℕ). LeavesHeld line held vs) (sym behind) tokens.1.1.0);
        alive = λ v there. held_alive v tokens.0 rest tokens.1.1.1 (sym (ap (is_among v) behind) ∙ there);
      },
      all_hold_right tokens.0 rest tokens.1.1.1,
    )

-- nothing is held where code does not go straight on
pub none_before : (action : Action) (args before behind : List ℕ) → ChangesHeld action args before behind → goes_straight_on action ≡ false → before ≡ []
none_before Hold args before behind changes bent = absurd (false≢true (sym bent))
none_before Unhold args before behind changes bent = absurd (false≢true (sym bent))
none_before action args before behind changes bent = changes.1 bent

pub none_behind : (action : Action) (args before behind : List ℕ) → ChangesHeld action args before behind → goes_straight_on action ≡ false → behind ≡ []
none_behind Hold args before behind changes bent = absurd (false≢true (sym bent))
none_behind Unhold args before behind changes bent = absurd (false≢true (sym bent))
none_behind action args before behind changes bent = sym changes.0 ∙ changes.1 bent

-- ---- the mark of a listing

pub read_among : (place_of : ℕ → Place) (args : List ℕ) (v : ℕ) → is_read_in (map (operand_at place_of) args) v ≡ is_among v args
read_among place_of [] v = refl
read_among place_of (x ∷ xs) v = ap (λ b. (x == v) || b) (read_among place_of xs v)

abbrev pub listing_with : ℕ → Place → Option Register → Bool → Listed
listing_with v place copy held = record { value = v; place = place; held = held; copy = copy }

-- the values of the operands of an action are its arguments
pub read_args : (action : Action) (loaded : List Loaded) (args : List ℕ) (v : ℕ) → is_read_in (operands_for action loaded args) v ≡ is_among v args
read_args Hold loaded [] v = refl
read_args Hold loaded (x ∷ xs) v = ap (λ b. (x == v) || b) (read_among (place_in loaded) xs v)
read_args action loaded args v = read_among (place_in loaded) args v

or_nothing : (b : Bool) → b ≡ (b || false)
or_nothing true = refl
or_nothing false = refl

-- and the first one is the token that a Hold holds
first_among : (loaded : List Loaded) (args : List ℕ) (v : ℕ) → is_first_read (operands_for Hold loaded args) v ≡ is_among v (first_of args)
first_among loaded [] v = refl
first_among loaded (x ∷ xs) v = or_nothing (x == v)

marked_as : (v : ℕ) (place : Place) (copy : Option Register) (held mark is read : Bool) → (read ≡ true → mark ≡ is) → (read ≡ false → held ≡ is)
    → cond read (listing_with v place copy mark) (listing_with v place copy held) ≡ listing_with v place copy is
marked_as v place copy held mark is true on off = ap (listing_with v place copy) (on refl)
marked_as v place copy held mark is false on off = ap (listing_with v place copy) (off refl)

-- a value that is read and held before the line and behind it is none
abbrev pub ReadsNoneHeld : List ℕ → List ℕ → List ℕ → Type 0
ReadsNoneHeld args before behind = (v : ℕ) → is_among v before ≡ true → is_among v behind ≡ true → is_among v args ≡ false

-- the marks of an action are what is held behind it
pub marked : (action : Action) (args before behind : List ℕ) (place_of : ℕ → Place) (copy_of : ℕ → Option Register) (stands : List Loaded) → ChangesHeld action args before behind → ReadsNoneHeld args before behind → (v : ℕ)
    → marks (Some action) (operands_for action stands args) (listing_at place_of copy_of before v) ≡ listing_at place_of copy_of behind v
marked Hold args before behind place_of copy_of stands changes none v =
    let held : List ℕ = first_of args in
    let reads : List Operand = operands_for Hold stands args in
    let read : is_first_read reads v ≡ is_among v held = first_among stands args v in
    let is : is_among v behind ≡ (is_among v held || is_among v before) = ap (is_among v) changes ∙ among_append v held before in
    marked_as v (place_of v) (copy_of v) (is_among v before) true (is_among v behind) (is_first_read reads v)
    (λ t. sym (is ∙ or_left (is_among v held) (is_among v before) (sym read ∙ t)))
    (λ f. sym (is ∙ ap (λ b. b || is_among v before) (sym read ∙ f)))
marked Unhold args before behind place_of copy_of stands changes none v =
    let reads : List Operand = map (operand_at (place_in stands)) args in
    let read : is_read_in reads v ≡ is_among v args = read_among (place_in stands) args v in
    let is : is_among v before ≡ (is_among v args || is_among v behind) = ap (is_among v) changes ∙ among_append v args behind in
    marked_as v (place_of v) (copy_of v) (is_among v before) false (is_among v behind) (is_read_in reads v)
    (λ t. sym (false_from_ne_true (is_among v behind)
    (λ there. false≢true (sym (none v (is ∙ or_left (is_among v args) (is_among v behind) (sym read ∙ t)) there) ∙ (sym read ∙ t)))))
    (λ f. is ∙ ap (λ b. b || is_among v behind) (sym read ∙ f))
marked action args before behind place_of copy_of stands changes none v = ap (λ (vs : List ℕ). listing_at place_of copy_of vs v) changes.0

-- ---- registers

-- none of the values in registers is held
abbrev pub AreFree : List ℕ → List Loaded → Type 0
AreFree held loaded = AllByRecursion (λ (l : Loaded). is_among l.value held ≡ false) loaded

-- so what is held stands in its slot
pub held_in_slot : (held : List ℕ) (loaded : List Loaded) (v : ℕ) → AreFree held loaded → is_among v held ≡ true → place_in loaded v ≡ slot v
held_in_slot held loaded v free there =
    place_slot v loaded
    (all_weaker (λ (l : Loaded). is_among l.value held ≡ false) (λ (l : Loaded). (v ≡ l.value) → ⊥) loaded (λ l none same. false≢true (sym none ∙ ap (λ w. is_among w held) (sym same) ∙ there)) free)

-- and has no copy
pub held_no_copy : (held : List ℕ) (loaded : List Loaded) (v : ℕ) → AreFree held loaded → is_among v held ≡ true → copy_in loaded v ≡ None
held_no_copy held loaded v free there =
    copy_none v loaded
    (all_weaker (λ (l : Loaded). is_among l.value held ≡ false) (λ (l : Loaded). (v ≡ l.value) → ⊥) loaded (λ l none same. false≢true (sym none ∙ ap (λ w. is_among w held) (sym same) ∙ there)) free)

-- what an action takes in registers is among its arguments
pub register_args_among : (action : Action) (args : List ℕ) (v : ℕ) → is_among v (register_args action args) ≡ true → is_among v args ≡ true
register_args_among Hold [] v there = absurd (false≢true there)
register_args_among Hold (x ∷ xs) v there = or_right (x == v) (is_among v xs) there
register_args_among Unhold args v there = absurd (false≢true there)
register_args_among action args v there = there

-- what is held before a line that takes back none of it is held behind it
held_later : (action : Action) (args before behind : List ℕ) (v : ℕ) → ChangesHeld action args before behind → is_among v (register_args action args) ≡ true
    → is_among v before ≡ true → is_among v behind ≡ true
held_later Hold args before behind v changes read there =
    ap (is_among v) changes ∙ among_append v (first_of args) before ∙ or_right (is_among v (first_of args)) (is_among v before) there
held_later Unhold args before behind v changes read there = absurd (false≢true read)
held_later action args before behind v changes read there = sym (ap (is_among v) changes.0) ∙ there

-- what is loaded for a line is not held before it
pub free_before : (action : Action) (args before behind : List ℕ) → ChangesHeld action args before behind → ReadsNoneHeld args before behind → AreFree before (loaded_for action args)
free_before action args before behind changes none =
    load_values (λ u. is_among u before ≡ false) (first_register action) (register_args action args)
    (λ u arg. false_from_ne_true (is_among u before)
    (λ there. false≢true (sym (none u there (held_later action args before behind u changes arg there)) ∙ register_args_among action args u arg)))

-- what a line writes is not held behind it
pub result_free : (action : Action) (args before behind : List ℕ) (into : Option ℕ) (v : ℕ) → (has_value into ≡ true → may_give action ≡ true) → ChangesHeld action args before behind
    → LeavesHeld (record { action = action; args = args; into = into }) before behind → is_written into v ≡ true → is_among v behind ≡ false
result_free action args before behind into v gives changes leaves written = go action gives changes
  where
    has : (o : Option ℕ) → is_written o v ≡ true → has_value o ≡ true
    has None w = absurd (false≢true w)
    has (Some x) w = refl

    go : (a : Action) → (has_value into ≡ true → may_give a ≡ true) → ChangesHeld a args before behind → is_among v behind ≡ false
    go Hold g c = absurd (false≢true (g (has into written)))
    go Unhold g c =
        false_from_ne_true (is_among v behind)
        (λ there.
        false≢true (sym (leaves v (ap (is_among v) c ∙ among_append v args behind ∙ or_right (is_among v args) (is_among v behind) there) there).1 ∙ written))
    go a g c = false_from_ne_true (is_among v behind) (λ there. false≢true (sym (leaves v (ap (is_among v) c.0 ∙ there) there).1 ∙ written))
