-- A copy is the one action that copies, a constant that which gives a word that a register holds always, and a load that which may
-- lose its word.
use Rattle.std.proofs.Common.{◌≡◌, ◌==◌, ℕ, Some, None, Bool, true, false, cond, refl, ap, subst}
use Rattle.std.proofs.lemmas.Bool.{eqb-true}
use Rattle.rv_isa.specs.declared.asm.Action.{Action}
use Rattle.rv_isa.specs.declared.asm.Action.TheVariants.{Compute, Label, Jump, Branch, Call, TailCall, Return, Routine, Hold, Unhold, Room}
use Rattle.rv_isa.specs.declared.asm.Operation.{Operation}
use Rattle.rv_isa.specs.declared.asm.Operation.TheVariants as OfOperation
use Rattle.rv_isa.specs.declared.immediate.Immediate.{Immediate}
use Rattle.rv_isa.specs.declared.placed.Place.{Place}
use Rattle.rv_isa.specs.Conventions.{constants, register_with, one_register, header_register, list_header, home, is_lost}
use Rattle.rv_isa.specs.LinePlaces.{is_copy}

mv_is : (operation : Operation) → is_copy (Compute operation) ≡ true → operation ≡ OfOperation.Mv
mv_is (OfOperation.Register operation) is = cc is
mv_is (OfOperation.Immediate operation imm) is = cc is
mv_is (OfOperation.Shift operation amount) is = cc is
mv_is (OfOperation.Li word) is = cc is
mv_is OfOperation.Mv is = refl
mv_is (OfOperation.La index) is = cc is
mv_is (OfOperation.Lw imm) is = cc is
mv_is (OfOperation.Sw imm) is = cc is
mv_is OfOperation.Dup is = cc is
mv_is OfOperation.Free is = cc is

pub copy_is : (action : Action) → is_copy action ≡ true → action ≡ Compute OfOperation.Mv
copy_is (Compute operation) is = ap Compute (mv_is operation is)
copy_is (Label l) is = cc is
copy_is (Jump l) is = cc is
copy_is (Branch condition l) is = cc is
copy_is (Call f) is = cc is
copy_is (TailCall f) is = cc is
copy_is Return is = cc is
copy_is (Routine routine) is = cc is
copy_is Hold is = cc is
copy_is Unhold is = cc is
copy_is Room is = cc is

-- what gives a word that a register holds always
abbrev pub GivesConstant : Action → ℕ → Type 0
GivesConstant action x = (word : ℕ) × (action ≡ Compute (OfOperation.Li word)) × (register_with word constants ≡ Some x)

li_is : (operation : Operation) (x : ℕ) → home (Compute operation) ≡ Some x → GivesConstant (Compute operation) x
li_is (OfOperation.Register operation) x is = cc is
li_is (OfOperation.Immediate operation imm) x is = cc is
li_is (OfOperation.Shift operation amount) x is = cc is
li_is (OfOperation.Li word) x is = (word, refl, is)
li_is OfOperation.Mv x is = cc is
li_is (OfOperation.La index) x is = cc is
li_is (OfOperation.Lw imm) x is = cc is
li_is (OfOperation.Sw imm) x is = cc is
li_is OfOperation.Dup x is = cc is
li_is OfOperation.Free x is = cc is

pub home_is : (action : Action) (x : ℕ) → home action ≡ Some x → GivesConstant action x
home_is (Compute operation) x is = li_is operation x is
home_is (Label l) x is = cc is
home_is (Jump l) x is = cc is
home_is (Branch condition l) x is = cc is
home_is (Call f) x is = cc is
home_is (TailCall f) x is = cc is
home_is Return x is = cc is
home_is (Routine routine) x is = cc is
home_is Hold x is = cc is
home_is Unhold x is = cc is
home_is Room x is = cc is

-- what loses its word is a load
pub lost_is : (action : Action) (place : Place) → is_lost action place ≡ true
    → (offset : Immediate) × (action ≡ Compute (OfOperation.Lw offset))
lost_is (Compute (OfOperation.Lw offset)) place is = (offset, refl)
lost_is action place is = cc is

-- a register that holds a word so is one of these
pub constant_is : (P : ℕ → ℕ → Type 0) → P 0 0 → P 1 one_register → P list_header header_register
    → (word x : ℕ) → register_with word constants ≡ Some x → P word x
constant_is P zero one header word x is = by_zero (0 == word) refl is
  where
    by_header : (same : Bool) → (list_header == word) ≡ same → cond same (Some header_register) None ≡ Some x → P word x
    by_header true e is =
        let there : header_register ≡ x = cc is in
        subst (λ w. P w x) (eqb-true list_header word e) (subst (λ y. P list_header y) there header)
    by_header false e is = cc is

    by_one : (same : Bool) → (1 == word) ≡ same
        → cond same (Some one_register) (cond (list_header == word) (Some header_register) None) ≡ Some x → P word x
    by_one true e is =
        let there : one_register ≡ x = cc is in
        subst (λ w. P w x) (eqb-true 1 word e) (subst (λ y. P 1 y) there one)
    by_one false e is = by_header (list_header == word) refl is

    by_zero : (same : Bool) → (0 == word) ≡ same
        → cond same (Some 0) (cond (1 == word) (Some one_register) (cond (list_header == word) (Some header_register) None)) ≡ Some x
        → P word x
    by_zero true e is =
        let there : 0 ≡ x = cc is in
        subst (λ w. P w x) (eqb-true 0 word e) (subst (λ y. P 0 y) there zero)
    by_zero false e is = by_one (1 == word) refl is
