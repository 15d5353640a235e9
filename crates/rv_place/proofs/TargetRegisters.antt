-- The registers that instructions of placed code write for values: all that are handed out, but those that hold a word always.
use Rattle.std.proofs.Common.{◌≡◌, ◌≢◌, ◌==◌, ◌&&◌, ◌||◌, ℕ, List, Option, Some, None, Bool, true, false, not, cond, refl, ap, subst}
use Rattle.std.proofs.lemmas.Bool.{and_parts, and_from, or_from, ne_eqb}
use Rattle.rv_isa.specs.declared.asm.Action.{Action}
use Rattle.rv_isa.specs.declared.placed.Place.{Place}
use Rattle.rv_isa.specs.declared.placed.Place.TheVariants.{Register as register, Slot as slot}
use Rattle.rv_isa.specs.declared.placed.Operand.{Operand}
use Rattle.rv_isa.specs.Conventions.{is_handed_out, one_register, header_register, is_constant_register, is_of_constant, is_in_any, home, is_lost, is_idle}
use Rattle.rv_isa.specs.LinePlaces.{is_copy}
use Rattle.rv_isa.specs.PlacedMachine.{unless_lost}
use Rattle.rv_place.specs.Addresses.{stands_there, is_silent}
use Rattle.rv_place.specs.ProcessorStates.{IsHandedOut, GivesHandedOut}
use Rattle.rv_place.proofs.HeldTokenLinks.{is_fixed, handed_own}

abbrev pub is_target : ℕ → Bool
is_target x = is_handed_out x && not (is_constant_register x)

abbrev pub IsTarget : Place → Type 0
IsTarget (register r) = is_target r.number ≡ true
IsTarget (slot k) = Unit {0}

abbrev pub GivesTarget : Option Operand → Type 0
GivesTarget None = Unit {0}
GivesTarget (Some into) = IsTarget into.place

pub target_handed : (x : ℕ) → is_target x ≡ true → is_handed_out x ≡ true
target_handed x target = (and_parts (is_handed_out x) (not (is_constant_register x)) target).0

pub target_apart : (x n : ℕ) → is_target n ≡ false → is_target x ≡ true → x ≢ n
target_apart x n none some same = let both : is_target n ≡ true = subst (λ y. is_target y ≡ true) same some in cc

pub target_fixed : (x : ℕ) → is_target x ≡ true → is_fixed x ≡ false
target_fixed x target =
    or_from (x == one_register) _ (ne_eqb x one_register (target_apart x one_register refl target))
    (or_from (x == header_register) _ (ne_eqb x header_register (target_apart x header_register refl target)) (handed_own x (target_handed x target)))

-- ---- what a line writes

place_target : (place : Place) → IsHandedOut place → is_of_constant place ≡ false → IsTarget place
place_target (register r) handed other = and_from (is_handed_out r.number) (not (is_constant_register r.number)) handed (ap not other)
place_target (slot k) handed other = tt

pub move_target : (place : Place) → IsHandedOut place × (is_of_constant place ≡ false) → IsTarget place
move_target place plain = place_target place plain.0 plain.1

not_there : (copy there constant : Bool) → (copy || there) ≡ false → (there || not constant) ≡ true → constant ≡ false
not_there true there constant loud may = cc loud
not_there false true constant loud may = cc loud
not_there false false true loud may = cc may
not_there false false false loud may = refl

-- what is an instruction gives no word to a register that holds it always
pub gives_target : (action : Action) (args : List Operand) (into : Option Operand) → GivesHandedOut action into → is_silent action args into ≡ false → GivesTarget into
gives_target action args None handed loud = tt
gives_target action args (Some into) handed loud =
    place_target into.place handed.0
    (not_there (is_copy action && stands_there args (Some into)) (is_idle action into.place) (is_of_constant into.place) loud
    handed.1)

last_false : (copy home lost : Bool) → (copy || (home || lost)) ≡ false → lost ≡ false
last_false true home lost loud = cc loud
last_false false true lost loud = cc loud
last_false false false lost loud = loud

-- and its word is not lost
pub gives_somewhere : (action : Action) (args : List Operand) (into : Option Operand) → is_silent action args into ≡ false
    → unless_lost action into ≡ into
gives_somewhere action args None loud = refl
gives_somewhere action args (Some into) loud =
    ap (λ (lost : Bool). cond lost None (Some into))
    (last_false (is_copy action && stands_there args (Some into)) (is_in_any (home action) into.place)
    (is_lost action into.place) loud)
