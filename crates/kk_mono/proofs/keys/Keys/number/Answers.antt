use Rattle.std.proofs.Common.{ℕ, Bool, true, Some, ◌≡◌, List, sym, subst}
use Rattle.std.specs.Prelude.{slice_get, IfOk, Result, Ok}
use Rattle.kk_mono.specs.declared.keys.Key.{Key}
use Rattle.kk_mono.specs.contracts.keys.KeyPartialEq.TheImpl.{eq-value}
use Rattle.kk_mono.proofs.SearchKeys.{key_sighted, key_found}
use Rattle.kk_mono.proofs.keys.Keys.number.Goals as goal

pub returns-in-Ok-clause-sees : goal.returns-in-Ok-clause-sees
returns-in-Ok-clause-sees c = key_sighted c.args.self.now.keys.keys c.insert_full.new.self.keys c.args.key c.in_ok-index.ensures.keys

-- the number that the call gave
numbered : {E : Type 0} (result : Result (ℕ × Bool) E) (after : List Key) (key : Key) (n number : ℕ) (b : Bool) → IfOk result (λ found. (other : Key) × (slice_get after found.0 ≡ Some other) × (eq-value.it key other ≡ true)) → result ≡ Ok (n, b) → number ≡ n
    → (other : Key) × (slice_get after number ≡ Some other) × (eq-value.it key other ≡ true)
numbered result after key n number b stored was is =
    let F : Result (ℕ × Bool) _ → Type 0 = λ r. IfOk r (λ found. (other : Key) × (slice_get after found.0 ≡ Some other) × (eq-value.it key other ≡ true)) in
    let G : ℕ → Type 0 = λ k. (other : Key) × (slice_get after k ≡ Some other) × (eq-value.it key other ≡ true) in
    subst G (sym is) (subst F was stored)

pub returns-in-Ok-clause-is : goal.returns-in-Ok-clause-is
returns-in-Ok-clause-is c =
    let found = numbered c.insert_full.result c.insert_full.new.self.keys c.args.key c.in_ok-index.index c.in-Ok.number c.in_ok-index.field-0-1 c.insert_full.ensures.stored c.in_ok-index.was c.in-Ok.ensures.1 in
    key_found c.insert_full.new.self.keys c.args.key found.0 c.in-Ok.number found.1 found.2
