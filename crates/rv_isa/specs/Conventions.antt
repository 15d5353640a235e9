-- Where values stand for what is done with them: the conventions of calls and routines, and what an instruction can reach.
use Rattle.std.specs.Prelude.{◌==◌, ℕ, suc, ◌+◌, ◌*◌, List, [], ◌∷◌, Option, Some, None, Bool, true, false, cond, not, ◌&&◌, ◌||◌, nat_le, slice_get}
use Rattle.std.specs.List.{list_any}
use Rattle.rv_isa.specs.Routines.{taken_by, given_by, is_spoilt_by}
use Rattle.rv_isa.specs.declared.asm.Action.{Action}
use Rattle.rv_isa.specs.declared.asm.Action.TheVariants.{Compute, Label, Jump, Branch, Call, TailCall, Return, Routine, Hold, Unhold, Room}
use Rattle.rv_isa.specs.declared.asm.Operation.{Operation}
use Rattle.rv_isa.specs.declared.asm.Operation.TheVariants.{Li, Lw, Sw, Dup, Free}
use Rattle.rv_isa.specs.declared.placed.Place.{Place}
use Rattle.rv_isa.specs.declared.placed.Place.TheVariants.{Register as register, Slot as slot}
use Rattle.rv_isa.specs.declared.placed.Operand.{Operand}

-- the registers that values may have: all but ra, sp, s0 and s1, which are the chains of free cells and of held tokens,
-- and s2 and s3, which bound the cells that were never used
abbrev pub is_handed_out : ℕ → Bool
is_handed_out x = x == 0 || ((nat_le 3 x && nat_le x 7) || ((nat_le 10 x && nat_le x 17) || (nat_le 20 x && nat_le x 31)))

abbrev pub is_in : ℕ → Place → Bool
is_in x (register r) = r.number == x
is_in x (slot k) = false

abbrev pub is_in_any : Option ℕ → Place → Bool
is_in_any None place = false
is_in_any (Some x) place = is_in x place

-- gp holds 1 from the start of a run to its end
abbrev pub one_register : ℕ
one_register = 3

-- s4 holds a word so too: the header of a cell of tag 1 whose second field alone refers to a cell, as `Cons(head, tail)` of a list of
-- numbers. No header is more common in the programs of examples/ and bench/.
abbrev pub header_register : ℕ
header_register = 20

abbrev pub list_header : ℕ
list_header = 1 + 256 * 2

-- a word, and the register that holds it so
pub record Constant : Type 0 where
  pub word : ℕ
  pub register : ℕ

abbrev pub constants : List Constant
constants =
    record { word = 0; register = 0 } ∷ record { word = 1; register = one_register }
    ∷ record { word = list_header; register = header_register } ∷ []

abbrev pub is_constant_register : ℕ → Bool
is_constant_register number = list_any (λ (constant : Constant). constant.register == number) constants

-- the register that holds a word so, if one does
abbrev pub register_with : ℕ → List Constant → Option ℕ
register_with word [] = None
register_with word (constant ∷ more) = cond (constant.word == word) (Some constant.register) (register_with word more)

-- the one that holds the word that an action gives, if one does
abbrev pub home : Action → Option ℕ
home (Compute (Li word)) = register_with word constants
home _ = None

abbrev pub is_of_constant : Place → Bool
is_of_constant (register r) = is_constant_register r.number
is_of_constant (slot k) = false

-- whether an action loads a word into the zero register: it is lost there
abbrev pub is_lost : Action → Place → Bool
is_lost (Compute (Lw offset)) place = is_in 0 place
is_lost _ place = false

-- whether an action that writes at a place is no instruction: it gives its word to the register that holds that, or loses it
abbrev pub is_idle : Action → Place → Bool
is_idle action place = is_in_any (home action) place || is_lost action place

-- whether an action may write at a place: at such a register where it is no instruction
abbrev pub may_write : Action → Place → Bool
may_write action place = is_idle action place || not (is_of_constant place)

abbrev pub is_register : Place → Bool
is_register (register r) = true
is_register (slot k) = false

abbrev pub is_slot : Place → Bool
is_slot (register r) = false
is_slot (slot k) = true

-- the n-th argument of a call is in the register a<n>, and its result is in a0; so are those of a return
abbrev pub argument : ℕ → ℕ
argument n = 10 + n

-- whether the action takes its n-th argument at the place
abbrev pub takes_at : Action → ℕ → Place → Bool
takes_at (Compute operation) n place = is_register place
takes_at (Label l) n place = false
takes_at (Jump l) n place = false
takes_at (Branch condition l) n place = is_register place
takes_at (Call f) n place = is_in (argument n) place
takes_at (TailCall f) n place = is_in (argument n) place
takes_at Return n place = is_in (argument n) place
takes_at (Routine routine) n place = is_in_any (slice_get (taken_by routine) n) place
takes_at Hold n place = cond (n == 0) (is_slot place) (is_register place)
takes_at Unhold n place = is_slot place
takes_at Room n place = false

abbrev pub computes_at : Operation → Place → Bool
computes_at (Sw offset) place = false
computes_at Dup place = false
computes_at Free place = false
computes_at _ place = is_register place

-- whether the action gives its value at the place; one that gives none, at no place
abbrev pub gives_at : Action → Place → Bool
gives_at (Compute operation) place = computes_at operation place
gives_at (Call f) place = is_in (argument 0) place
gives_at (Routine routine) place = is_in_any (given_by routine) place
gives_at Unhold place = is_register place
gives_at _ place = false

-- each argument from the n-th on stands where the action takes it
abbrev pub take_from : Action → ℕ → List Operand → Bool
take_from action n [] = true
take_from action n (arg ∷ args) = takes_at action n arg.place && take_from action (suc n) args

abbrev pub gives_into : Action → Option Operand → Bool
gives_into action None = true
gives_into action (Some into) = gives_at action into.place

-- the operands stand where the action takes and gives them
abbrev pub conforms : Action → List Operand → Option Operand → Bool
conforms action args into = take_from action 0 args && gives_into action into

-- whether the action may change the register, besides giving its value: a call any, and a routine its own
abbrev pub spoils : Action → ℕ → Bool
spoils (Call f) x = true
spoils (Routine routine) x = is_spoilt_by routine x
spoils _ x = false
