-- The loop that stores the digits of a number, the last one first.
use Rattle.std.proofs.Common.{◌≡◌, ◌≢◌, ℕ, suc, ◌+◌, ◌-◌, ◌*◌, ◌/◌, ◌%◌, ◌^◌, ◌<◌, ◌≤◌, ◌⊎◌, inl, inr, List, [], ◌∷◌, ◌++◌, length, true, refl, sym, ap, ◌∙◌, subst, arith, length-append}
use Rattle.std.proofs.lemmas.Bool.Decides.{nat_tests}
use Rattle.std.proofs.lemmas.Fmt.{decimal_by_steps}
use Rattle.std.specs.Fmt.{decimal}
use Rattle.kk_base.specs.Memory.{Part}
use Rattle.rv_isa.specs.declared.instr.Instr.{Instr}
use Rattle.rv_isa.specs.declared.instr.Instr.TheVariants.{Addi, Bne, Divu, Remu, Sb}
use Rattle.rv_isa.specs.Arithmetic.{sum_word, quotient_unsigned, remainder_unsigned}
use Rattle.rv_isa.specs.Bytes.{bytes_at, with_number}
use Rattle.rv_isa.specs.Processor.{Processor, value, put, can_store}
use Rattle.rv_isa.specs.Standing.{Code, Has, Stands, LeadsIn}
use Rattle.rv_isa.proofs.Standing.{LeadsIn-stands, next-is, LeadsIn-then}
use Rattle.rv_isa.proofs.Memory.{bytes_at-one, bytes_at-add, byte-same, byte-apart}
use Rattle.rv_isa.proofs.Instructions.{leads-addi, leads-sb, leads-divu, leads-remu, leads-bne_taken, leads-bne_not_taken}
use Rattle.rv_isa.proofs.Registers.{x0, x5, x6, x7, x11}
use Rattle.cell_runtime.proofs.Operands.{imm_0, imm_48, imm_minus_1, back_20}
use Rattle.cell_runtime.proofs.RoutineCalls.{then_one}

abbrev pub digits_code : List Instr → List Instr
digits_code later =
    Remu x11 x7 x6 ∷ Divu x7 x7 x6 ∷ Addi x11 x11 imm_48 ∷ Addi x5 x5 imm_minus_1 ∷ Sb x5 x11 imm_0 ∷ Bne x7 x0 back_20 ∷ later

-- each byte from one address up to another may be stored
pub record MayStore (parts : List Part) (low top : ℕ) : Type 0 where
  pub byte : (x : ℕ) → low ≤ x → x < top → can_store parts x 1 ≡ true

-- at the loop's first instruction, with the number n in x7; the next digit comes before p
pub record AtDigits (code : Code) (at n p low : ℕ) (s : Processor) : Type 0 where
  pub stands : Stands code s
  pub pc_is : s.pc ≡ at
  pub number : value s.registers 7 ≡ n
  pub ten : value s.registers 6 ≡ 10
  pub place : value s.registers 5 ≡ p
  pub below : p < 2 ^ 32
  pub room : MayStore s.parts low p

-- so many instructions lead to the machine, which has gone on at an address: the digits end before p, and begin at the address in x5
pub record Wrote (code : Code) (count next : ℕ) (digits : List ℕ) (p : ℕ) (s t : Processor) : Type 0 where
  pub leads : LeadsIn code count s t
  pub pc_is : t.pc ≡ next
  pub place : value t.registers 5 + length digits ≡ p
  pub bytes : bytes_at t.memory (value t.registers 5) (length digits) ≡ digits
  pub outside : (x : ℕ) → (x < value t.registers 5) ⊎ (p ≤ x) → t.memory x ≡ s.memory x
  pub registers : (x : ℕ) → x ≢ 5 → x ≢ 7 → x ≢ 11 → value t.registers x ≡ value s.registers x
  pub parts : t.parts ≡ s.parts
  pub left : t.left ≡ s.left
  pub trace : t.trace ≡ s.trace

-- a turn has stored the last digit at q
abbrev turned : ℕ → ℕ → ℕ → Processor → Processor
turned n q next s = record s {
  registers = put 5 q (put 11 (48 + n % 10) (put 7 (n / 10) (put 11 (n % 10) s.registers)));
  pc = next;
  memory = with_number q 1 (48 + n % 10) s.memory;
  executed = s.executed + 1 + 1 + 1 + 1 + 1 + 1;
}

less-ten : (n : ℕ) → n % 10 < 10
less-ten n = omega arith

module _ (code : Code) (at low : ℕ) (after : Instr) (later : List Instr) (has : Has code at (digits_code (after ∷ later))) where
  module _ (n q : ℕ) (s : Processor) (here : AtDigits code at n (suc q) low s) (above : low ≤ q) where
    stored : LeadsIn code 5 s (record (turned n q (at + 4 + 4 + 4 + 4 + 4) s) { executed = s.executed + 1 + 1 + 1 + 1 + 1 })
    stored =
        let stands = here.stands in
        let number = here.number in
        let ten = here.ten in
        let place = here.place in
        let below = here.below in
        let rest = less-ten n in
        let first_is : remainder_unsigned (value s.registers 7) (value s.registers 6) ≡ n % 10 = rw (number, ten) refl in
        let second_is : quotient_unsigned (value s.registers 7) (value s.registers 6) ≡ n / 10 = rw (number, ten) refl in
        let digit_is : sum_word (n % 10) 48 ≡ 48 + n % 10 = omega arith in
        let place_is : sum_word (value s.registers 5) (2 ^ 32 - 1) ≡ q = rw place (omega arith) in
        let to : sum_word q 0 ≡ q = omega arith in
        let a = leads-remu stands {v = n % 10} (ap code here.pc_is ∙ has.0) first_is (ap (λ p. sum_word p 4) here.pc_is ∙ next-is stands at _ has.1.0) in
        let b = then_one stands a (λ on. leads-divu on {v = n / 10} has.1.0 second_is (next-is stands (at + 4) _ has.1.1.0)) in
        let c = then_one stands b (λ on. leads-addi on {v = 48 + n % 10} has.1.1.0 digit_is (next-is stands (at + 4 + 4) _ has.1.1.1.0)) in
        let d = then_one stands c (λ on. leads-addi on {v = q} has.1.1.1.0 place_is (next-is stands (at + 4 + 4 + 4) _ has.1.1.1.1.0)) in
        then_one stands d (λ on. leads-sb on {at = q} {v = 48 + n % 10} has.1.1.1.1.0 to refl (here.room.byte q above (omega arith)) (next-is stands (at + 4 + 4 + 4 + 4) _ has.1.1.1.1.1.0))

    goes_back : n / 10 ≢ 0 → LeadsIn code 6 s (turned n q at s)
    goes_back some =
        let below = here.stands.below (at + 4 + 4 + 4 + 4 + 4) _ has.1.1.1.1.1.0 in
        then_one here.stands stored (λ on. leads-bne_taken on has.1.1.1.1.1.0 some (omega arith) (here.stands.aligned at _ has.0))

    goes_on : n / 10 ≡ 0 → LeadsIn code 6 s (turned n q (at + 4 + 4 + 4 + 4 + 4 + 4) s)
    goes_on none =
        then_one here.stands stored (λ on. leads-bne_not_taken on has.1.1.1.1.1.0 none (next-is here.stands (at + 4 + 4 + 4 + 4 + 4) _ has.1.1.1.1.1.1.0))

    kept : (next x : ℕ) → x ≢ 5 → x ≢ 7 → x ≢ 11 → value (turned n q next s).registers x ≡ value s.registers x
    kept next x a b c = grind (arith, nat_tests)

    digit_there : (next : ℕ) → (turned n q next s).memory q ≡ 48 + n % 10
    digit_there next = let rest = less-ten n in byte-same q (48 + n % 10) s.memory ∙ (let small : (48 + n % 10) % 256 ≡ 48 + n % 10 = omega arith in small)

    other_there : (next x : ℕ) → x ≢ q → (turned n q next s).memory x ≡ s.memory x
    other_there next x other = byte-apart q (48 + n % 10) s.memory x other

    again : n / 10 ≢ 0 → AtDigits code at (n / 10) q low (turned n q at s)
    again some = let below = here.below in record {
      stands = LeadsIn-stands (goes_back some) here.stands;
      pc_is = refl;
      number = refl;
      ten = kept at 6 (λ e. cc) (λ e. cc) (λ e. cc) ∙ here.ten;
      place = refl;
      below = omega arith;
      room = record { byte = λ x a b. here.room.byte x a (omega arith) };
    }

  -- what is to be shown of a number and its digits
  abbrev Writes : ℕ → List ℕ → Type 0
  Writes n digits = (s : Processor) (p : ℕ) → AtDigits code at n p low s → low + length digits ≤ p → (t : Processor) × Wrote code (6 * length digits) (at + 4 + 4 + 4 + 4 + 4 + 4) digits p s t

  one_digit : (n : ℕ) → n < 10 → Writes n ((48 + n) ∷ [])
  one_digit n small s p here room =
      let q = p - 1 in
      let next = at + 4 + 4 + 4 + 4 + 4 + 4 in
      let last : p ≡ suc (p - 1) = omega arith in
      let none : n / 10 ≡ 0 = omega arith in
      let same : 48 + n % 10 ≡ 48 + n = omega arith in
      let above : low ≤ p - 1 = omega arith in
      let at_q = subst (λ v. AtDigits code at n v low s) last here in (
        turned n q next s,
        record {
          leads = goes_on n q s at_q above none;
          pc_is = refl;
          place = omega arith;
          bytes = bytes_at-one _ q ∙ ap (λ byte. byte ∷ []) (digit_there n q s at_q above next ∙ same);
          outside = λ x away. other_there n q s at_q above next x (away_from x q p last away);
          registers = kept n q s at_q above next;
          parts = refl;
          left = refl;
          trace = refl;
        },
      )
    where
      away_from : (x q p : ℕ) → p ≡ suc q → (x < q) ⊎ (p ≤ x) → x ≢ q
      away_from x q p last (inl low) = omega arith
      away_from x q p last (inr high) = omega arith

  more_digits : (n : ℕ) (digits : List ℕ) → 10 ≤ n → Writes (n / 10) digits → Writes n (digits ++ ((48 + n % 10) ∷ []))
  more_digits n digits large rest s p here room =
      let q = p - 1 in
      let size : length (digits ++ ((48 + n % 10) ∷ [])) ≡ length digits + 1 = length-append digits ((48 + n % 10) ∷ []) in
      let last : p ≡ suc (p - 1) = omega arith in
      let some : n / 10 ≢ 0 = omega arith in
      let above : low ≤ p - 1 = omega arith in
      let at_q = subst (λ v. AtDigits code at n v low s) last here in
      let turn = turned n q at s in
      let back = goes_back n q s at_q above some in
      let found = rest turn q (again n q s at_q above some) (omega arith) in
      let t = found.0 in
      let wrote = found.1 in
      let place = wrote.place in
      let counts : 6 * length (digits ++ ((48 + n % 10) ∷ [])) ≡ 6 + 6 * length digits = omega arith in
      let digit_is : t.memory q ≡ 48 + n % 10 = wrote.outside q (inr (omega arith)) ∙ digit_there n q s at_q above at in
      let last_is : bytes_at t.memory (value t.registers 5 + length digits) 1 ≡ (48 + n % 10) ∷ [] =
      ap (λ a. bytes_at t.memory a 1) place ∙ bytes_at-one t.memory q ∙ ap (λ byte. byte ∷ []) digit_is in (
        t,
        record {
          leads = subst (λ count. LeadsIn code count s t) (sym counts) (LeadsIn-then back wrote.leads);
          pc_is = wrote.pc_is;
          place = omega arith;
          bytes = ap (bytes_at t.memory (value t.registers 5)) size ∙ bytes_at-add t.memory (value t.registers 5) (length digits) 1
              ∙ ap (λ front. front ++ bytes_at t.memory (value t.registers 5 + length digits) 1) wrote.bytes ∙ ap (λ end. digits ++ end) last_is;
          outside = λ x away. wrote.outside x (nearer x (value t.registers 5) q p last away) ∙ other_there n q s at_q above at x (elsewhere x (value t.registers 5) q p (length digits) place last away);
          registers = λ x a b c. wrote.registers x a b c ∙ kept n q s at_q above at x a b c;
          parts = wrote.parts;
          left = wrote.left;
          trace = wrote.trace;
        },
      )
    where
      nearer : (x from q p : ℕ) → p ≡ suc q → (x < from) ⊎ (p ≤ x) → (x < from) ⊎ (q ≤ x)
      nearer x from q p last (inl low) = inl low
      nearer x from q p last (inr high) = inr (omega arith)

      elsewhere : (x from q p size : ℕ) → from + size ≡ q → p ≡ suc q → (x < from) ⊎ (p ≤ x) → x ≢ q
      elsewhere x from q p size place last (inl low) = omega arith
      elsewhere x from q p size place last (inr high) = omega arith

  pub writes_digits : (n : ℕ) → n < 2 ^ 32 → Writes n (decimal n)
  writes_digits n small = decimal_by_steps Writes one_digit more_digits n (omega arith)
