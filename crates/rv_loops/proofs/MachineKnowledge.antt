-- What the machine of rotated code knows: at least what the other one knows.
use Rattle.std.proofs.Common.{◌≡◌, ◌==◌, ℕ, suc, List, [], ◌∷◌, Option, Some, None, Bool, true, false, cond, ◌||◌, map}
use Rattle.std.proofs.Common.{refl, sym, ap, ◌∙◌, subst, option_map}
use Rattle.std.proofs.lemmas.Bool.{eqb-true, and_parts}
use Rattle.rv_isa.specs.declared.asm.Action.{Action}
use Rattle.rv_isa.specs.declared.asm.Action.TheVariants.{TailCall}
use Rattle.rv_isa.specs.declared.placed.Operand.{Operand}
use Rattle.rv_isa.specs.declared.placed.Place.{Place}
use Rattle.rv_isa.specs.declared.placed.Place.TheVariants.{Register as register, Slot as slot}
use Rattle.rv_isa.specs.Conventions.{argument, is_in, spoils, take_from}
use Rattle.rv_isa.specs.Frames.{Frame, empty, put, all_of, is_among}
use Rattle.rv_isa.specs.PlacedCode.{PlacedLine, PlacedLines}
use Rattle.rv_isa.specs.PlacedMachine.{read_at, registers_with, slots_with, kept_by, passed, slot_of, first_slot}
use Rattle.rv_loops.specs.Relation.{Knows, SameAt, IsLike}

-- frames stay alike, whatever code is left of them and wherever a result goes
pub like_on : (q q' : List PlacedLines) (f g : Frame PlacedLine) (code code' : List PlacedLine) (into into' : Option ℕ)
    → IsLike q q' f g → IsLike q q' (record f { code = code; into = into }) (record g { code = code'; into = into' })
like_on q q' f g code code' into into' like = record {
  there = like.there;
  there' = like.there';
  function = like.function;
  cells = like.cells;
  held = like.held;
  held_cells = like.held_cells;
}

pub same_some : {A : Type 0} (a b : A) → Some a ≡ Some b → a ≡ b
same_some a b same = cc same

-- what is known of one word
abbrev pub KnowsWord : Option ℕ → Option ℕ → Type 0
KnowsWord less more = (word : ℕ) → less ≡ Some word → more ≡ Some word

cond_knows : (here : Bool) (w w' o o' : Option ℕ) → KnowsWord w w' → KnowsWord o o' → KnowsWord (cond here w o) (cond here w' o')
cond_knows true w w' o o' first rest = first
cond_knows false w w' o o' first rest = rest

pub put_knows : (at : ℕ) (w w' : Option ℕ) (a b : ℕ → Option ℕ) → KnowsWord w w' → Knows a b → Knows (put at w a) (put at w' b)
put_knows at w w' a b first rest x = cond_knows (x == at) w w' (a x) (b x) first (rest x)

pub empty_knows : (b : ℕ → Option ℕ) → Knows empty b
empty_knows b x word is = cc is

pub read_knows : (a b cells cells' : ℕ → Option ℕ) → Knows a b → Knows cells cells' → (place : Place)
    → KnowsWord (read_at a cells place) (read_at b cells' place)
read_knows a b cells cells' more more_cells (register r) = more r.number
read_knows a b cells cells' more more_cells (slot k) = more_cells k

pub registers_know : (place : Place) (w w' : Option ℕ) (a b : ℕ → Option ℕ) → KnowsWord w w' → Knows a b
    → Knows (registers_with place w a) (registers_with place w' b)
registers_know (register r) w w' a b first rest = put_knows r.number w w' a b first rest
registers_know (slot k) w w' a b first rest = rest

pub slots_know : (place : Place) (w w' : Option ℕ) (a b : ℕ → Option ℕ) → KnowsWord w w' → Knows a b
    → Knows (slots_with place w a) (slots_with place w' b)
slots_know (register r) w w' a b first rest = rest
slots_know (slot k) w w' a b first rest = put_knows k w w' a b first rest

pub kept_knows : (action : Action) (a b : ℕ → Option ℕ) → Knows a b → Knows (kept_by action a) (kept_by action b)
kept_knows action a b more x = cond_knows (spoils action x) None None (a x) (b x) (λ word is. is) (more x)

-- ---- the words of arguments

mapped_some : (w : ℕ) (o : Option (List ℕ)) (words : List ℕ) → option_map (λ rest. w ∷ rest) o ≡ Some words
    → (rest : List ℕ) × ((o ≡ Some rest) × (w ∷ rest ≡ words))
mapped_some w None words is = cc is
mapped_some w (Some rest) words is = (rest, (refl, cc is))

-- the first word and the others
pub all_parts : (o : Option ℕ) (os : List (Option ℕ)) (words : List ℕ) → all_of (o ∷ os) ≡ Some words
    → (w : ℕ) × ((rest : List ℕ) × ((o ≡ Some w) × ((all_of os ≡ Some rest) × (w ∷ rest ≡ words))))
all_parts None os words is = cc is
all_parts (Some w) os words is = let rest = mapped_some w (all_of os) words is in (w, (rest.0, (refl, rest.1)))

module _ (a b cells cells' : ℕ → Option ℕ) (more : Knows a b) (more_cells : Knows cells cells') where
  -- words that are known are the same
  pub words_known : (args : List Operand) (words : List ℕ) → all_of (map (λ
      (arg : Operand). read_at a cells arg.place) args) ≡ Some words
      → all_of (map (λ (arg : Operand). read_at b cells' arg.place) args) ≡ Some words
  words_known [] words is = is
  words_known (arg ∷ args) words is =
      let parts = all_parts (read_at a cells arg.place) (map (λ (arg : Operand). read_at a cells arg.place) args) words is in
      let first : read_at b cells' arg.place ≡ Some parts.0
      = read_knows a b cells cells' more more_cells arg.place parts.0 parts.1.1.0 in
      let rest : all_of (map (λ (arg : Operand). read_at b cells' arg.place) args) ≡ Some parts.1.0
      = words_known args parts.1.0 parts.1.1.1.0 in
      ap (λ (o : Option ℕ). all_of (o ∷ map (λ (arg : Operand). read_at b cells' arg.place) args)) first
      ∙ ap (option_map (λ rest. parts.0 ∷ rest)) rest ∙ ap (λ (ws : List ℕ). Some ws) parts.1.1.1.1

in_place : (x : ℕ) (place : Place) (a cells : ℕ → Option ℕ) (w : ℕ) → is_in x place ≡ true → read_at a cells place ≡ Some w
    → a x ≡ Some w
in_place x (register r) a cells w is read = ap a (sym (eqb-true r.number x is)) ∙ read
in_place x (slot k) a cells w is read = cc is

passed_one : (here : Bool) (x n w v : ℕ) (rest b : ℕ → Option ℕ) → (x == argument n) ≡ here → b (argument n) ≡ Some w → Knows rest b
    → cond here (Some w) (rest x) ≡ Some v → b x ≡ Some v
passed_one true x n w v rest b same first more is = ap b (eqb-true x (argument n) same) ∙ first ∙ is
passed_one false x n w v rest b same first more is = more x v is

-- what is passed to a tail call stands in its register before
pub passed_known : (g n : ℕ) (args : List Operand) (words : List ℕ) (a cells : ℕ → Option ℕ) → take_from (TailCall g) n args ≡ true
    → all_of (map (λ (arg : Operand). read_at a cells arg.place) args) ≡ Some words → Knows (passed n words) a
passed_known g n [] [] a cells fit is = empty_knows a
passed_known g n [] (w ∷ words) a cells fit is = cc is
passed_known g n (arg ∷ args) words a cells fit is =
    let both = and_parts (is_in (argument n) arg.place) (take_from (TailCall g) (suc n) args) fit in
    let parts = all_parts (read_at a cells arg.place) (map (λ (arg : Operand). read_at a cells arg.place) args) words is in
    let first : a (argument n) ≡ Some parts.0 = in_place (argument n) arg.place a cells parts.0 both.0 parts.1.1.0 in
    let rest : Knows (passed (suc n) parts.1.0) a = passed_known g (suc n) args parts.1.0 a cells both.1 parts.1.1.1.0 in
    subst (λ (ws : List ℕ). Knows (passed n ws) a) parts.1.1.1.1
    (λ x v is_v. passed_one (x == argument n) x n parts.0 v (passed (suc n) parts.1.0) a refl first rest is_v)

-- ---- held cells

pub same_put : (k : ℕ) (w : Option ℕ) (a b : ℕ → Option ℕ) (held : List ℕ) → SameAt held a b → SameAt held (put k w a) (put k w b)
same_put k w a b [] same = tt
same_put k w a b (h ∷ held) same = (ap (λ (o : Option ℕ). cond (h == k) w o) same.0, same_put k w a b held same.1)

pub same_slots : (place : Place) (w : Option ℕ) (a b : ℕ → Option ℕ) (held : List ℕ) → SameAt held a b
    → SameAt held (slots_with place w a) (slots_with place w b)
same_slots (register r) w a b held same = same
same_slots (slot k) w a b held same = same_put k w a b held same

or_none : (a b : Bool) → (a || b) ≡ false → (a ≡ false) × (b ≡ false)
or_none true b is = cc is
or_none false b is = (refl, is)

put_aside : (here : Bool) (w w' o o' : Option ℕ) → here ≡ false → o ≡ o' → cond here w o ≡ cond here w' o'
put_aside true w w' o o' is same = cc is
put_aside false w w' o o' is same = same

-- a cell that is not held may get any word
pub same_aside : (k : ℕ) (w w' : Option ℕ) (a b : ℕ → Option ℕ) (held : List ℕ) → is_among k held ≡ false → SameAt held a b
    → SameAt held (put k w a) (put k w' b)
same_aside k w w' a b [] none same = tt
same_aside k w w' a b (h ∷ held) none same =
    let both = or_none (h == k) (is_among k held) none in
    (put_aside (h == k) w w' (a h) (b h) both.0 same.0, same_aside k w w' a b held both.1 same.1)

-- the slot of a token has a known word
pub slot_known : (args : List Operand) (k : ℕ) (words : List ℕ) (a cells : ℕ → Option ℕ) → first_slot args ≡ Some k
    → all_of (map (λ (arg : Operand). read_at a cells arg.place) args) ≡ Some words → (w : ℕ) × (cells k ≡ Some w)
slot_known [] k words a cells is known = cc is
slot_known (arg ∷ args) k words a cells is known =
    let others : List (Option ℕ) = map (λ (arg : Operand). read_at a cells arg.place) args in
    let parts = all_parts (read_at a cells arg.place) others words known in (parts.0, by arg.place is parts.1.1.0)
  where
    by : {w : ℕ} (place : Place) → slot_of place ≡ Some k → read_at a cells place ≡ Some w → cells k ≡ Some w
    by (register r) is read = cc is
    by (slot j) is read = let same : j ≡ k = cc is in ap cells (sym same) ∙ read
