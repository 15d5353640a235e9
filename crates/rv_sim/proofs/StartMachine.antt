-- A machine whose areas are an image's parts, with zeros behind their bytes, is at the image's start.
use Rattle.std.proofs.Common.{◌≡◌, ℕ, zero, suc, ◌-◌, List, [], ◌∷◌, ◌++◌, map, length, replicate, slice_index, Bool, true, false, not, ◌||◌, ◌&&◌, IsTrue, refl, sym, ap, ◌∙◌, arith}
use Rattle.std.specs.List.{list_any}
use Rattle.std.proofs.lemmas.Bool.{true≢false}
use Rattle.std.proofs.lemmas.Bool.Decides.{nat_tests}
use Rattle.kk_base.specs.Memory as memory
use Rattle.kk_base.specs.Memory.{covers, byte_loaded}
use Rattle.rv_isa.specs.Processor.{bare, lies_in_part, going, goes, start}
use Rattle.elf_image.specs.declared.part.Part.{Part}
use Rattle.elf_image.specs.Parts.{loaded, memory_of, share_address, are_apart}
use Rattle.rv_sim.specs.Areas.{filled, AreApart}
use Rattle.rv_sim.specs.Registers.{registers_of}
use Rattle.rv_sim.specs.Simulation.{progress_of}
use Rattle.rv_sim.proofs.Parts.{are_apart-same}
use Rattle.rv_isa.proofs.Cases.{and-right}
use Rattle.rv_sim.proofs.Zeros.{index-zeros}

pub bare-filled : (ps : List memory.Part) → map bare (map filled ps) ≡ map bare ps
bare-filled [] = refl
bare-filled (p ∷ ps) = ap (λ bs. bare p ∷ bs) (bare-filled ps)

pub index-padded : (bytes : List ℕ) (n k : ℕ) → slice_index (bytes ++ replicate n 0) k ≡ slice_index bytes k
index-padded [] n k = index-zeros n k
index-padded (b ∷ bytes) n zero = refl
index-padded (b ∷ bytes) n (suc k) = index-padded bytes n k

byte_loaded-filled_at : (ps : List memory.Part) (x : ℕ) → byte_loaded (map filled ps) x ≡ byte_loaded ps x
byte_loaded-filled_at [] x = refl
byte_loaded-filled_at (p ∷ ps) x =
    let rest = byte_loaded-filled_at ps x in
    let here = index-padded p.bytes (p.size - length p.bytes) (x - p.start) in
    rw (here, rest) refl

pub byte_loaded-filled : (ps : List memory.Part) → byte_loaded (map filled ps) ≡ byte_loaded ps
byte_loaded-filled ps = λ i x. byte_loaded-filled_at ps x i

or-false-left : (a b : Bool) → (a || b) ≡ false → a ≡ false
or-false-left true b e = e
or-false-left false b e = refl

or-false-right : (a b : Bool) → (a || b) ≡ false → b ≡ false
or-false-right true b e = cc
or-false-right false b e = e

and-left : (a b : Bool) → (a && b) ≡ true → a ≡ true
and-left true b e = refl
and-left false b e = e

not-true : (a : Bool) → not a ≡ true → a ≡ false
not-true true e = cc
not-true false e = refl

-- an address of two parts is one that they share
shared : (p q : Part) (x : ℕ) → covers (loaded p) x 1 ≡ true → covers (loaded q) x 1 ≡ true → share_address p q ≡ true
shared p q x here there = grind (arith, nat_tests)

none_shared : (p : Part) (ps : List Part) (x : ℕ) → covers (loaded p) x 1 ≡ true → list_any (share_address p) ps ≡ false → lies_in_part (memory_of ps) x 1 ≡ false
none_shared p [] x here none = refl
none_shared p (q ∷ ps) x here none =
    let unshared : share_address p q ≡ false = or-false-left _ _ none in
    let rest = none_shared p ps x here (or-false-right (share_address p q) _ none) in
    let either : (b : Bool) → covers (loaded q) x 1 ≡ b → covers (loaded q) x 1 ≡ false =
    λ b. elim b as (λ b. covers (loaded q) x 1 ≡ b → covers (loaded q) x 1 ≡ false) [
      | true ↦ λ e. absurd (true≢false (sym (shared p q x here e) ∙ unshared))
      | false ↦ λ e. e
    ] in
    ap (λ b. b || lies_in_part (memory_of ps) x 1) (either (covers (loaded q) x 1) refl) ∙ rest

are_apart-loaded : (ps : List Part) → are_apart ps ≡ true → AreApart (memory_of ps)
are_apart-loaded [] apart = tt
are_apart-loaded (p ∷ ps) apart = (
  λ x here. none_shared p ps x here (not-true _ (and-left _ (are_apart ps) apart)),
  are_apart-loaded ps (and-right (not (list_any (share_address p) ps)) (are_apart ps) apart),
)

pub are_apart-filled : (ps : List Part) → IsTrue (are_apart ps) → AreApart (map filled (memory_of ps))
are_apart-filled ps apart = are_apart-same (memory_of ps) (map filled (memory_of ps)) (bare-filled (memory_of ps)) (are_apart-loaded ps apart)

-- a machine that holds the parts of an image, with its registers zero, is at the image's start
pub starts : (registers : List ℕ) (held ps : List memory.Part) (entry : ℕ) (input : List ℕ) → registers_of registers ≡ (λ _. 0) → held ≡ map filled ps
    → progress_of (record { registers = registers; pc = entry; parts = held; executed = 0; ending = going; faulted = false }) input [] ≡ goes (start ps entry input)
starts registers held ps entry input zeros is = rw (zeros, is, byte_loaded-filled ps, bare-filled ps) refl
