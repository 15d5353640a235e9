-- What an own line does is always an instruction, and no test.
use Rattle.std.proofs.Common.{◌≡◌, ℕ, true, false, not, refl, ap}
use Rattle.rv_isa.specs.declared.asm.Action.{Action}
use Rattle.rv_isa.specs.declared.asm.Action.TheVariants.{Compute, Label, Jump, Branch, Call, TailCall, Return, Routine, Hold, Unhold, Room}
use Rattle.rv_isa.specs.declared.asm.Operation.{Operation}
use Rattle.rv_isa.specs.declared.asm.Operation.TheVariants as OfOperation
use Rattle.rv_isa.specs.LinePlaces.{is_always_some, is_test, has_effect, is_own}

effect_is_some : (operation : Operation) → has_effect operation ≡ true → is_always_some (Compute operation) ≡ true
effect_is_some (OfOperation.Sw imm) is = refl
effect_is_some OfOperation.Dup is = refl
effect_is_some OfOperation.Free is = refl
effect_is_some operation is = cc is

pub own_is_some : (action : Action) (count : ℕ) → is_own action count ≡ true → is_always_some action ≡ true
own_is_some (Compute operation) count is = effect_is_some operation is
own_is_some (Label l) count is = cc is
own_is_some (Jump l) count is = refl
own_is_some (Branch condition l) count is = refl
own_is_some (Call f) count is = refl
own_is_some (TailCall f) count is = refl
own_is_some Return count is = refl
own_is_some (Routine routine) count is = refl
own_is_some Hold count is = refl
own_is_some Unhold count is = refl
own_is_some Room count is = refl

pub own_no_test : (action : Action) (count : ℕ) → is_own action count ≡ true → is_test action count ≡ false
own_no_test (Branch condition l) count is = ap not is
own_no_test action count is = refl
