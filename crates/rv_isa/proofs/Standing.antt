-- What the code of a list has, and that code which stands in a machine stands after every step, and is what the next step executes.
use Rattle.std.proofs.Common.{◌≡◌, ◌≢◌, ◌≤◌, ◌<◌, ℕ, zero, suc, ◌+◌, ◌-◌, ◌*◌, ◌/◌, ◌%◌, ◌^◌, inl, inr, List, [], ◌∷◌, ◌++◌, length, Some, None, Bool, true, false, ◌&&◌, if◌then◌else◌, nat_eq, nat_le, refl, sym, ap, ◌∙◌, subst, arith}
use Rattle.std.proofs.lemmas.Bool.Decides.{nat_tests}
use Rattle.std.specs.List.{slice_get}
use Rattle.rv_isa.specs.declared.act.Effect.{Effect}
use Rattle.rv_isa.specs.declared.instr.Instr.{Instr}
use Rattle.rv_isa.specs.Read.{read}
use Rattle.rv_isa.specs.Operands.{rd_of}
use Rattle.rv_isa.specs.Bytes.{Apart, number_at}
use Rattle.rv_isa.specs.Arithmetic.{sum_word}
use Rattle.rv_isa.specs.Processor.{Processor, Ending, going, exited, trapped, Progress, goes, value, can_fetch, can_store}
use Rattle.rv_isa.specs.InstructionSet.{resumes}
use Rattle.rv_isa.specs.Execution.{rv32im, acts, effect_at, decodes, step, run, Leads, Along}
use Rattle.rv_isa.specs.Standing.{Code, Has, code_of, Stands, Inside, LeadsIn}
use Rattle.rv_isa.proofs.Runs.{run-zero, run-suc, Leads-run, Leads-step, Leads-then, Leads-each}
use Rattle.rv_isa.proofs.Steps.{step-fetched, decodes-some, executes-aligned}
use Rattle.rv_isa.proofs.Cases.{step-by, step-parts}
use Rattle.rv_isa.proofs.Memory.{number_at-apart, number_at-with_bytes_apart}

module _ (code : Code) where
  pub Has-front : (at : ℕ) (front back : List Instr) → Has code at (front ++ back) → Has code at front
  Has-front at [] back has = tt
  Has-front at (i ∷ front) back has = (has.0, Has-front (at + 4) front back has.1)

  pub Has-back : (at : ℕ) (front back : List Instr) → Has code at (front ++ back) → Has code (at + 4 * length front) back
  Has-back at [] back has = let here : at + 4 * 0 ≡ at = omega arith in rw here has
  Has-back at (i ∷ front) back has =
      let here : at + 4 * suc (length front) ≡ at + 4 + 4 * length front = omega arith in
      rw here (Has-back (at + 4) front back has.1)

  pub Has-append : (at : ℕ) (front back : List Instr) → Has code at front → Has code (at + 4 * length front) back → Has code at (front ++ back)
  Has-append at [] back has rest = let here : at ≡ at + 4 * 0 = omega arith in subst (λ a. Has code a back) (sym here) rest
  Has-append at (i ∷ front) back has rest =
      let here : at + 4 * suc (length front) ≡ at + 4 + 4 * length front = omega arith in
      (has.0, Has-append (at + 4) front back has.1 (subst (λ a. Has code a back) here rest))

  -- a list in the middle of one that stands
  pub Has-middle : (at : ℕ) (front middle back : List Instr) → Has code at (front ++ middle ++ back) → Has code (at + 4 * length front) middle
  Has-middle at front middle back has =
      Has-back at front middle (Has-front at (front ++ middle) back has)

  -- the instruction at a place of the list
  pub Has-get : (at : ℕ) (is : List Instr) (k : ℕ) (i : Instr) → Has code at is → slice_get is k ≡ Some i → code (at + 4 * k) ≡ Some i
  Has-get at [] k i has is = cc
  Has-get at (j ∷ is) zero i has here = let e : at + 4 * 0 ≡ at = omega arith in rw e (has.0 ∙ here)
  Has-get at (j ∷ is) (suc k) i has there =
      let e : at + 4 * suc k ≡ at + 4 + 4 * k = omega arith in rw e (Has-get (at + 4) is k i has.1 there)

  -- and back: where each place of the list is as the code says, the list stands
  pub Has-by : (at : ℕ) (is : List Instr) → ((k : ℕ) → k < length is → code (at + 4 * k) ≡ slice_get is k) → Has code at is
  Has-by at [] each = tt
  Has-by at (i ∷ is) each =
      let here : at + 4 * 0 ≡ at = omega arith in (
        subst (λ a. code a ≡ Some i) here (each 0 (omega arith)),
        Has-by (at + 4) is (λ k below.
            let e : at + 4 * suc k ≡ at + 4 + 4 * k = omega arith in
            subst (λ a. code a ≡ slice_get is k) e (each (suc k) (omega arith))),
      )

pub code_of-get : (start : ℕ) (is : List Instr) (k : ℕ) → code_of start is (start + 4 * k) ≡ slice_get is k
code_of-get start is k =
    let from : nat_le start (start + 4 * k) ≡ true = grind (arith, nat_tests) in
    let past : (start + 4 * k) - start ≡ 4 * k = omega arith in
    let whole : 4 * k % 4 ≡ 0 = omega arith in
    let place : 4 * k / 4 ≡ k = omega arith in
    rw (from, past, whole, place) refl

pub code_of-Has : (start : ℕ) (is : List Instr) → Has (code_of start is) start is
code_of-Has start is = Has-by (code_of start is) start is (λ k below. code_of-get start is k)

-- ---- code of a list

-- an address of the code of a list is one of the list's places
place-by : (start : ℕ) (is : List Instr) (at : ℕ) (i : Instr) (from whole : Bool) → nat_le start at ≡ from → nat_eq ((at - start) % 4) 0 ≡ whole
    → (if from && whole then slice_get is ((at - start) / 4) else None) ≡ Some i → (k : ℕ) × (at ≡ start + 4 * k) × (slice_get is k ≡ Some i)
place-by start is at i true true from whole there =
    let low : start ≤ at = grind (arith, nat_tests) in
    let none_left : (at - start) % 4 ≡ 0 = grind (arith, nat_tests) in
    ((at - start) / 4, omega arith, there)
place-by start is at i true false from whole there = cc
place-by start is at i false whole from test there = cc

pub code_of-place : (start : ℕ) (is : List Instr) (at : ℕ) (i : Instr) → code_of start is at ≡ Some i → (k : ℕ) × (at ≡ start + 4 * k) × (slice_get is k ≡ Some i)
code_of-place start is at i here =
    place-by start is at i (nat_le start at) (nat_eq ((at - start) % 4) 0) refl refl here

get-below : (is : List Instr) (k : ℕ) (i : Instr) → slice_get is k ≡ Some i → k < length is
get-below [] k i there = cc
get-below (j ∷ is) zero i there = omega arith
get-below (j ∷ is) (suc k) i there = let rest = get-below is k i there in omega arith

inside_apart : (x count start size k at : ℕ) → at ≡ start + 4 * k → k < size → Apart x count start (4 * size) → Apart x count at 4
inside_apart x count start size k at is below (inl before) = inl (omega arith)
inside_apart x count start size k at is below (inr behind) = inr (omega arith)

-- where it may be fetched from, and where the words of its places are those of its instructions, the code of a list stands
pub Stands-code_of : (start : ℕ) (is : List Instr) (s : Processor) → start % 4 ≡ 0 → start + 4 * length is ≤ 2 ^ 32
    → ((k : ℕ) (i : Instr) → slice_get is k ≡ Some i → (can_fetch s.parts (start + 4 * k) 4 ≡ true) × (read (number_at s.memory (start + 4 * k) 4) ≡ Some i))
    → ((x count : ℕ) → can_store s.parts x count ≡ true → 0 < count → Apart x count start (4 * length is))
    → Stands (code_of start is) s
Stands-code_of start is s aligned below each kept = record {
  aligned = λ at i here. let place = code_of-place start is at i here in let where_is = place.1 in omega arith;
  below = λ at i here.
      let place = code_of-place start is at i here in
      let where_is = place.1 in
      let inside = get-below is place.0 i place.2 in
      omega arith;
  fetched = λ at i here. let place = code_of-place start is at i here in rw place.1 (each place.0 i place.2).0;
  holds = λ at i here. let place = code_of-place start is at i here in rw place.1 (each place.0 i place.2).1;
  kept = λ at i here x count allowed some.
      let place = code_of-place start is at i here in
      inside_apart x count start (length is) place.0 at place.1 (get-below is place.0 i place.2) (kept x count allowed some);
}

-- ---- the machines in which it stands

-- it stands in each machine of the same parts with the same words where the code is
pub Stands-same : {code : Code} {s : Processor} (t : Processor) → Stands code s → t.parts ≡ s.parts → ((at : ℕ) (i : Instr) → code at ≡ Some i → number_at t.memory at 4 ≡ number_at s.memory at 4) → Stands code t
Stands-same {code} {s} t stands parts words = record {
  aligned = stands.aligned;
  below = stands.below;
  fetched = λ at i here. rw parts (stands.fetched at i here);
  holds = λ at i here. ap read (words at i here) ∙ stands.holds at i here;
  kept = λ at i here x count allowed some. stands.kept at i here x count (ap (λ p. can_store p x count) (sym parts) ∙ allowed) some;
}

-- ---- one step

-- a store of one byte, where `count` bytes may be stored
one_byte : (x count at : ℕ) → count ≢ 0 → Apart x count at 4 → Apart x 1 at 4
one_byte x count at some (inl below) = inl below
one_byte x count at some (inr above) = inr (omega arith)

not-none : (n : ℕ) → n ≢ 0 → 0 < n
not-none n some = omega arith

module _ {code : Code} {s : Processor} (stands : Stands code s) where
  pub step-words : (at : ℕ) (i : Instr) → code at ≡ Some i → number_at (step s).processor.memory at 4 ≡ number_at s.memory at 4
  step-words at i here = step-by rv32im (λ after. number_at after.processor.memory at 4 ≡ number_at s.memory at 4) s record {
    trap = λ cause word. refl;
    nothing = λ next. refl;
    set = λ rd v next. refl;
    store = λ x width v next allowed. number_at-apart x width v s.memory at 4 (stands.kept at i here x width allowed);
    ask_end = λ next is. refl;
    ask_byte = λ byte rest next is some allowed.
        number_at-with_bytes_apart (value s.registers 11) (byte ∷ []) s.memory at 4
        (one_byte (value s.registers 11) (value s.registers 12) at some
        (stands.kept at i here (value s.registers 11) (value s.registers 12) allowed (not-none (value s.registers 12) some)));
    write = λ next allowed. refl;
    exit = λ next. refl;
  }

  pub Stands-step : Stands code (step s).processor
  Stands-step = Stands-same (step s).processor stands (step-parts rv32im s) step-words

-- ---- a run

Stands-resumes : (code : Code) (e : Ending) (s : Processor) (f : Processor → Progress) → Stands code s → Stands code (f s).processor → Stands code (resumes e s f).processor
Stands-resumes code going s f here there = there
Stands-resumes code (exited n) s f here there = here
Stands-resumes code (trapped c p w) s f here there = here

pub Stands-run : {code : Code} (n : ℕ) (s : Processor) → Stands code s → Stands code (run n s).processor
Stands-run {code} zero s stands = rw (run-zero rv32im s) stands
Stands-run {code} (suc n) s stands =
    let next = Stands-step stands in
    rw (run-suc rv32im n s) (Stands-resumes code (step s).ending (step s).processor (run n) next (Stands-run n (step s).processor next))

pub Stands-leads : {code : Code} {n : ℕ} {s t : Processor} → Leads n s t → Stands code s → Stands code t
Stands-leads {code} {n} {s} {t} leads stands =
    subst (λ after. Stands code after.processor) (Leads-run leads) (Stands-run n s stands)

-- ---- runs that stay at instructions of the code

-- one instruction of the code, the runs of two rows of them, and the code stands behind them
pub inside-one : (code : Code) (s : Processor) {i : Instr} → code s.pc ≡ Some i → Along (Inside code) 1 s
inside-one code s here zero less = rw (run-zero rv32im s, here) refl
inside-one code s here (suc k) less = absurd (omega arith)

module _ {code : Code} where
  pub LeadsIn-step : {i : Instr} {s t : Processor} → code s.pc ≡ Some i → step s ≡ goes t → LeadsIn code 1 s t
  LeadsIn-step {s = s} here is = record { leads = Leads-step is; inside = inside-one code s here }

  pub LeadsIn-inside : {n k : ℕ} {s t : Processor} → LeadsIn code n s t → Along (Inside code) k t → Along (Inside code) (n + k) s
  LeadsIn-inside leads rest = Leads-each (λ progress. Inside code progress.processor) leads.leads leads.inside rest

  pub LeadsIn-then : {n k : ℕ} {s t u : Processor} → LeadsIn code n s t → LeadsIn code k t u → LeadsIn code (n + k) s u
  LeadsIn-then first second = record { leads = Leads-then first.leads second.leads; inside = LeadsIn-inside first second.inside }

  pub LeadsIn-stands : {n : ℕ} {s t : Processor} → LeadsIn code n s t → Stands code s → Stands code t
  LeadsIn-stands leads = Stands-leads leads.leads

-- ---- the next instruction

module _ {code : Code} {s : Processor} (stands : Stands code s) where
  -- the address after one of the code's, where it too is one of the code's
  pub next-is : (at : ℕ) (i : Instr) → code (at + 4) ≡ Some i → sum_word at 4 ≡ at + 4
  next-is at i there = let below = stands.below (at + 4) i there in omega arith

  pub next-aligned : (at : ℕ) (i : Instr) → code at ≡ Some i → sum_word at 4 % 4 ≡ 0
  next-aligned at i here = let aligned = stands.aligned at i here in omega arith

  pub step-at : (i : Instr) (e : Effect) → code s.pc ≡ Some i → effect_at s i ≡ e → e.next % 4 ≡ 0 → step s ≡ acts e.act (rd_of i) e.next (number_at s.memory s.pc 4) s
  step-at i e here is aligned =
      let word = number_at s.memory s.pc 4 in
      step-fetched s word (stands.fetched s.pc i here) refl
      ∙ ap (decodes s word) (stands.holds s.pc i here)
      ∙ decodes-some s word i
      ∙ executes-aligned s word i e is aligned
