-- Instructions that are added one after the other.
use Rattle.std.proofs.Common.{◌≡◌, ℕ, ◌+◌, ◌*◌, List, [], ◌++◌, length, Result, Ok, Err, OnOk, length-append, append-nil, append_assoc, refl, sym, ap, ◌∙◌, subst}
use Rattle.kk_base.specs.declared.error.NoMemory.{NoMemory}
use Rattle.rv_isa.specs.declared.instr.Instr.{Instr}
use Rattle.rv_isa.specs.declared.instr.Instr.TheVariants.{Auipc}
use Rattle.rv_isa.specs.declared.register.Register.{Register}
use Rattle.rv_isa.specs.declared.immediate.UpperImmediate.{UpperImmediate}
use Rattle.rv_isa.proofs.RangeEquality.{same_register}
use Rattle.rv_isa.specs.Standing.{Code, Has}
use Rattle.rv_isa.proofs.Standing.{Has-front, Has-back}
use Rattle.rv_place.specs.Emitted.{Spelled, Grew}

pub grew_nothing : (K : Code → ℕ → Type 0) (is : List Instr) → ((code : Code) (at : ℕ) → K code at) → Grew 0 K is is
grew_nothing K is always = record { added = []; whole = sym (append-nil is); spelled = record { size = refl; stands = λ code at has. always code at } }

-- what is of one kind is of another that follows from it
pub spelled_so : {n m : ℕ} {A B : Code → ℕ → Type 0} {is : List Instr} → n ≡ m → ((code : Code) (at : ℕ) → A code at → B code at) → Spelled n A is → Spelled m B is
spelled_so same follows spelled = record { size = spelled.size ∙ same; stands = λ code at has. follows code at (spelled.stands code at has) }

pub grew_so : {n m : ℕ} {A B : Code → ℕ → Type 0} {old new : List Instr} → n ≡ m → ((code : Code) (at : ℕ) → A code at → B code at) → Grew n A old new → Grew m B old new
grew_so same follows grew = record { added = grew.added; whole = grew.whole; spelled = spelled_so same follows grew.spelled }

-- instructions behind others
spelled_then : {m n : ℕ} {A B : Code → ℕ → Type 0} {is js : List Instr} → Spelled m A is → Spelled n B js
    → Spelled (m + n) (λ code at. A code at × B code (at + 4 * m)) (is ++ js)
spelled_then {m} {n} {A} {B} {is} {js} first second = record {
  size = length-append is js ∙ ap (λ k. k + length js) first.size ∙ ap (λ k. m + k) second.size;
  stands = λ code at has. (
    first.stands code at (Has-front code at is js has),
    second.stands code (at + 4 * m) (subst (λ k. Has code (at + 4 * k) js) first.size (Has-back code at is js has)),
  );
}

pub grew_then : {m n : ℕ} {A B : Code → ℕ → Type 0} {old between new : List Instr} → Grew m A old between → Grew n B between new
    → Grew (m + n) (λ code at. A code at × B code (at + 4 * m)) old new
grew_then {old = old} first second = record {
  added = first.added ++ second.added;
  whole = second.whole ∙ ap (λ is. is ++ second.added) first.whole ∙ append_assoc old first.added second.added;
  spelled = spelled_then first.spelled second.spelled;
}

-- what follows of a call that ended well
pub on_so : {A B : Type 0} (result : Result (Unit {0}) NoMemory) → (A → B) → OnOk result A → OnOk result B
on_so (Ok done) follows given = follows given
on_so (Err error) follows given = tt

pub same_auipc : {a b : Register} {upper : UpperImmediate} → a.number ≡ b.number → Auipc a upper ≡ Auipc b upper
same_auipc {a} {b} {upper} same = ap (λ r. Auipc r upper) (same_register a b same)
