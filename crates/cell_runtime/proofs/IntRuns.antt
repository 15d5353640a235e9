-- The routine that prints a number, executed: its front, the digits, the sign, and the put.
use Rattle.std.proofs.Common.{◌≡◌, ◌≢◌, ℕ, zero, suc, ◌+◌, ◌-◌, ◌*◌, ◌^◌, ◌<◌, ◌≤◌, ◌⊎◌, inl, inr, pos, negsuc, List, [], ◌∷◌, ◌++◌, length, true, false, nat_eq, nat_lt, if◌then◌else◌, int_lt, refl, sym, ap, ◌∙◌, subst, lit<, arith, append-nil}
use Rattle.std.proofs.lemmas.Int.{ints}
use Rattle.std.proofs.lemmas.Bool.Decides.{nat_tests}
use Rattle.std.proofs.lemmas.Fmt.{length-decimal-le, decimal_nonempty}
use Rattle.std.specs.Fmt.{decimal, signed_decimal}
use Rattle.kk_base.specs.Trace.{output}
use Rattle.rv_isa.specs.declared.immediate.Immediate.{Immediate}
use Rattle.rv_isa.specs.declared.immediate.UpperImmediate.{UpperImmediate}
use Rattle.rv_isa.specs.declared.instr.Instr.{Instr}
use Rattle.rv_isa.specs.declared.instr.Instr.TheVariants.{Lui, Addi, Add, Sub, Sb, Bge, Ecall, Jalr}
use Rattle.rv_isa.specs.Arithmetic.{signed, sum_word, difference_word}
use Rattle.rv_isa.specs.Bytes.{bytes_at, with_number}
use Rattle.rv_isa.specs.Processor.{Processor, value, put, can_load, can_store}
use Rattle.rv_isa.specs.Environment.{stepped}
use Rattle.rv_isa.specs.Standing.{Code, Has, Stands, LeadsIn}
use Rattle.rv_isa.proofs.Standing.{LeadsIn-stands, next-is, LeadsIn-then}
use Rattle.rv_isa.proofs.Memory.{bytes_at-more, bytes_at-one, bytes_at-add, bytes_at-with_number_apart, byte-same, byte-apart}
use Rattle.rv_isa.proofs.Instructions.{leads-lui, leads-addi, leads-add, leads-sub, leads-sb, leads-bge_taken, leads-bge_not_taken, leads-write}
use Rattle.rv_isa.specs.declared.placed.Native.TheVariants.{Address}
use Rattle.rv_isa.specs.declared.placed.Section.TheVariants.{Data}
use Rattle.cell_runtime.specs.Calls.{HasWayBack}
use Rattle.cell_runtime.specs.Lines.{Makes}
use Rattle.cell_runtime.specs.Prints.{IsPrintInt, BeforePrintInt, AfterPrintInt, int_piece, int_count, buffer_bytes}
use Rattle.rv_isa.proofs.Registers.{x0, x1, x5, x6, x7, x10, x11, x12, x17}
use Rattle.cell_runtime.proofs.Operands.{imm_0, imm_1, imm_10, imm_45, imm_64, imm_minus_1, forward_8, forward_16}
use Rattle.cell_runtime.proofs.Spelling.{plain, address_makes}
use Rattle.cell_runtime.proofs.RoutineCalls.{leads-back, then_one, returns_by}
use Rattle.cell_runtime.proofs.Ranges.{can-within}
use Rattle.cell_runtime.proofs.DigitLoop.{digits_code, MayStore, AtDigits, Wrote, writes_digits}

abbrev pub put_code : List Instr
put_code = Sub x12 x12 x5 ∷ Addi x11 x5 imm_0 ∷ Addi x10 x0 imm_1 ∷ Addi x17 x0 imm_64 ∷ Ecall ∷ Jalr x0 x1 imm_0 ∷ []

abbrev pub minus_code : List Instr
minus_code = Addi x11 x0 imm_45 ∷ Addi x5 x5 imm_minus_1 ∷ Sb x5 x11 imm_0 ∷ put_code

abbrev pub sign_code : List Instr
sign_code = Bge x10 x0 forward_16 ∷ minus_code

abbrev pub print_int_code : List Instr
print_int_code =
    Add x12 x5 x11 ∷ Addi x6 x0 imm_10 ∷ Sb x5 x6 imm_0 ∷ Addi x7 x10 imm_0 ∷ Bge x10 x0 forward_8 ∷ Sub x7 x0 x10 ∷ digits_code sign_code

-- ---- signed numbers

-- the lower half of the words stand for themselves, and the upper half for negative numbers
signed_low : (n : ℕ) → n < 2 ^ 31 → signed n ≡ pos n
signed_low n low = omega (arith, ints)

signed_high : (n : ℕ) → 2 ^ 31 ≤ n → n < 2 ^ 32 → signed n ≡ negsuc (2 ^ 32 - suc n)
signed_high n high below = let test : nat_lt n (2 ^ 31) ≡ false = grind (arith, nat_tests) in rw test refl

not_negative : (n : ℕ) → n < 2 ^ 31 → int_lt (signed n) (signed 0) ≡ false
not_negative n low =
    let test : nat_lt n 0 ≡ false = grind (arith, nat_tests) in ap (λ z. int_lt z (signed 0)) (signed_low n low) ∙ test

negative : (n : ℕ) → 2 ^ 31 ≤ n → n < 2 ^ 32 → int_lt (signed n) (signed 0) ≡ true
negative n high below = ap (λ z. int_lt z (signed 0)) (signed_high n high below)

-- ---- the put

-- behind the put of the bytes of a piece
abbrev told : ℕ → ℕ → List ℕ → Processor → Processor
told from count piece s = record s {
  registers = put 10 count (put 17 64 (put 10 1 (put 11 from (put 12 count s.registers))));
  pc = s.pc + 4 + 4 + 4 + 4 + 4;
  executed = s.executed + 1 + 1 + 1 + 1 + 1;
  trace = s.trace ++ output piece ∷ [];
}

module _ (code : Code) (at from count : ℕ) (has : Has code at put_code) where
  puts : (piece : List ℕ) (s : Processor) → Stands code s → s.pc ≡ at → value s.registers 5 ≡ from → value s.registers 12 ≡ from + count → from + count < 2 ^ 32 → count ≢ 0
      → can_load s.parts from count ≡ true → bytes_at s.memory from count ≡ piece → HasWayBack s → LeadsIn code 6 s (stepped (value s.registers 1) (told from count piece s))
  puts piece s stands pc_is from_is end_is below some allowed bytes way =
      let size_is : difference_word (value s.registers 12) (value s.registers 5) ≡ count = rw (end_is, from_is) (omega arith) in
      let copied : sum_word (value s.registers 5) 0 ≡ from = rw from_is (omega arith) in
      let a = leads-sub stands {v = count} (ap code pc_is ∙ has.0) size_is (ap (λ p. sum_word p 4) pc_is ∙ next-is stands at _ has.1.0) in
      let b = then_one stands a (λ on. leads-addi on {v = from} has.1.0 copied (next-is stands (at + 4) _ has.1.1.0)) in
      let c = then_one stands b (λ on. leads-addi on {v = 1} has.1.1.0 refl (next-is stands (at + 4 + 4) _ has.1.1.1.0)) in
      let d = then_one stands c (λ on. leads-addi on {v = 64} has.1.1.1.0 refl (next-is stands (at + 4 + 4 + 4) _ has.1.1.1.1.0)) in
      let e = then_one stands d (λ on. leads-write on has.1.1.1.1.0 refl refl refl refl some allowed bytes (next-is stands (at + 4 + 4 + 4 + 4) _ has.1.1.1.1.1.0)) in
      leads-back (record (told from count piece s) { pc = at + 4 + 4 + 4 + 4 + 4 }) stands e has.1.1.1.1.1.0 refl way.aligned way.in_range

-- ---- the sign

-- `-` stands at q, before the digits
abbrev signed_at : ℕ → ℕ → Processor → Processor
signed_at q next t = record t {
  registers = put 5 q (put 11 45 t.registers);
  pc = next;
  memory = with_number q 1 45 t.memory;
  executed = t.executed + 1 + 1 + 1 + 1;
}

module _ (code : Code) (at : ℕ) (has : Has code at sign_code) where
  -- none before the digits of a number that is not negative
  no_sign : (count p n : ℕ) (digits : List ℕ) (s t : Processor) → Stands code s → Wrote code count at digits p s t → value t.registers 10 ≡ n → n < 2 ^ 31
      → (u : Processor) × Wrote code (count + 1) (at + 4 + 4 + 4 + 4) digits p s u
  no_sign count p n digits s t stands wrote number low =
      let holds : int_lt (signed (value t.registers 10)) (signed 0) ≡ false = ap (λ v. int_lt (signed v) (signed 0)) number ∙ not_negative n low in
      let below = stands.below (at + 4 + 4 + 4 + 4) _ has.1.1.1.1.0 in
      let to : sum_word t.pc 16 ≡ at + 4 + 4 + 4 + 4 = ap (λ p. sum_word p 16) wrote.pc_is ∙ (let e : sum_word at 16 ≡ at + 4 + 4 + 4 + 4 = omega arith in e) in (
        stepped (at + 4 + 4 + 4 + 4) t,
        record {
          leads = then_one stands wrote.leads (λ on. leads-bge_taken on (ap code wrote.pc_is ∙ has.0) holds to (stands.aligned (at + 4 + 4 + 4 + 4) _ has.1.1.1.1.0));
          pc_is = refl;
          place = wrote.place;
          bytes = wrote.bytes;
          outside = wrote.outside;
          registers = wrote.registers;
          parts = wrote.parts;
          left = wrote.left;
          trace = wrote.trace;
        },
      )

  -- `-` before those of a negative number
  module _ (count p low n q : ℕ) (digits : List ℕ) (s t : Processor) (stands : Stands code s) (wrote : Wrote code count at digits p s t)
      (number : value t.registers 10 ≡ n) (high : 2 ^ 31 ≤ n) (fits : n < 2 ^ 32) (place : value t.registers 5 ≡ suc q) (below : suc q < 2 ^ 32) (may : can_store t.parts q 1 ≡ true) where
    signs : LeadsIn code (count + 4) s (signed_at q (at + 4 + 4 + 4 + 4) t)
    signs =
        let holds : int_lt (signed (value t.registers 10)) (signed 0) ≡ true = ap (λ v. int_lt (signed v) (signed 0)) number ∙ negative n high fits in
        let place_is : sum_word (value t.registers 5) (2 ^ 32 - 1) ≡ q = rw place (omega arith) in
        let to : sum_word q 0 ≡ q = omega arith in
        let here = LeadsIn-stands wrote.leads stands in
        let a = leads-bge_not_taken here (ap code wrote.pc_is ∙ has.0) holds (ap (λ p. sum_word p 4) wrote.pc_is ∙ next-is stands at _ has.1.0) in
        let b = then_one here a (λ on. leads-addi on {v = 45} has.1.0 refl (next-is stands (at + 4) _ has.1.1.0)) in
        let c = then_one here b (λ on. leads-addi on {v = q} has.1.1.0 place_is (next-is stands (at + 4 + 4) _ has.1.1.1.0)) in
        LeadsIn-then wrote.leads (then_one here c (λ on. leads-sb on {at = q} {v = 45} has.1.1.1.0 to refl may (next-is stands (at + 4 + 4 + 4) _ has.1.1.1.1.0)))

    behind_sign : bytes_at (with_number q 1 45 t.memory) (suc q) (length digits) ≡ digits
    behind_sign =
        bytes_at-with_number_apart q 1 45 t.memory (suc q) (length digits) (inr (omega arith))
        ∙ ap (λ a. bytes_at t.memory a (length digits)) (sym place) ∙ wrote.bytes

    with_sign : (u : Processor) × Wrote code (count + 4) (at + 4 + 4 + 4 + 4) (45 ∷ digits) p s u
    with_sign =
        let where_is = wrote.place in (
          signed_at q (at + 4 + 4 + 4 + 4) t,
          record {
            leads = signs;
            pc_is = refl;
            place = omega arith;
            bytes = bytes_at-more _ q (length digits) ∙ ap (λ b. b ∷ bytes_at (with_number q 1 45 t.memory) (suc q) (length digits)) (byte-same q 45 t.memory) ∙ ap (λ rest. 45 ∷ rest) behind_sign;
            outside = λ x away. byte-apart q 45 t.memory x (apart x (value t.registers 5) (length digits) place where_is away) ∙ wrote.outside x (further x (value t.registers 5) place away);
            registers = λ x a b c. kept x a c ∙ wrote.registers x a b c;
            parts = wrote.parts;
            left = wrote.left;
            trace = wrote.trace;
          },
        )
      where
        apart : (x from size : ℕ) → from ≡ suc q → from + size ≡ p → (x < q) ⊎ (p ≤ x) → x ≢ q
        apart x from size is sum (inl low) = omega arith
        apart x from size is sum (inr high) = omega arith

        further : (x from : ℕ) → from ≡ suc q → (x < q) ⊎ (p ≤ x) → (x < from) ⊎ (p ≤ x)
        further x from is (inl low) = inl (omega arith)
        further x from is (inr high) = inr high

        kept : (x : ℕ) → x ≢ 5 → x ≢ 11 → value (put 5 q (put 11 45 t.registers)) x ≡ value t.registers x
        kept x a b = grind (arith, nat_tests)

-- ---- the front

-- the registers at the test of the sign
abbrev fronted : ℕ → ℕ → (ℕ → ℕ) → ℕ → ℕ
fronted upper end registers =
    put 7 (value registers 10) (put 6 10 (put 12 (end + value registers 11) (put 5 end (put 5 upper registers))))

-- at the digits' loop, with the size of the number in x7: so many instructions have stored the line end, and x12 is where the piece stops
record Front (code : Code) (at size end buffer count : ℕ) (s h : Processor) : Type 0 where
  leads : LeadsIn code count s h
  at_digits : AtDigits code at size end buffer h
  line : h.memory end ≡ 10
  outside : (x : ℕ) → x ≢ end → h.memory x ≡ s.memory x
  stop : value h.registers 12 ≡ end + value s.registers 11
  registers : (x : ℕ) → x ≢ 5 → x ≢ 6 → x ≢ 7 → x ≢ 12 → value h.registers x ≡ value s.registers x
  parts : h.parts ≡ s.parts
  left : h.left ≡ s.left
  trace : h.trace ≡ s.trace

module _ (code : Code) (u : UpperImmediate) (l : Immediate) (buffer end : ℕ) (end_is : end ≡ buffer + 11) (sum : sum_word u.word l.word ≡ end) (s : Processor) (stands : Stands code s)
    (has : Has code s.pc (Lui x5 u ∷ Addi x5 x5 l ∷ print_int_code)) (before : BeforePrintInt buffer s) where
  stores : (x : ℕ) → buffer ≤ x → x < buffer + buffer_bytes → can_store s.parts x 1 ≡ true
  stores x low high = can-within (λ part. part.writable) s.parts buffer buffer_bytes x 1 (lit< tt) low (omega arith) before.stored

  to_test : LeadsIn code 6 s (record s { registers = fronted u.word end s.registers; pc = s.pc + 4 + 4 + 4 + 4 + 4 + 4; memory = with_number end 1 10 s.memory; executed = s.executed + 1 + 1 + 1 + 1 + 1 + 1 })
  to_test =
      let in_range = before.in_range in
      let choice = before.choice in
      let word = before.word in
      let stop : sum_word end (value s.registers 11) ≡ end + value s.registers 11 = omega arith in
      let to : sum_word end 0 ≡ end = omega arith in
      let copied : sum_word (value s.registers 10) 0 ≡ value s.registers 10 = omega arith in
      let a = leads-lui stands {v = u.word} has.0 refl (next-is stands s.pc _ has.1.0) in
      let b = then_one stands a (λ on. leads-addi on {v = end} has.1.0 sum (next-is stands (s.pc + 4) _ has.1.1.0)) in
      let c = then_one stands b (λ on. leads-add on {v = end + value s.registers 11} has.1.1.0 stop (next-is stands (s.pc + 4 + 4) _ has.1.1.1.0)) in
      let d = then_one stands c (λ on. leads-addi on {v = 10} has.1.1.1.0 refl (next-is stands (s.pc + 4 + 4 + 4) _ has.1.1.1.1.0)) in
      let e = then_one stands d (λ on. leads-sb on {at = end} {v = 10} has.1.1.1.1.0 to refl (stores end (omega arith) (omega arith)) (next-is stands (s.pc + 4 + 4 + 4 + 4) _ has.1.1.1.1.1.0)) in
      then_one stands e (λ on. leads-addi on {v = value s.registers 10} has.1.1.1.1.1.0 copied (next-is stands (s.pc + 4 + 4 + 4 + 4 + 4) _ has.1.1.1.1.1.1.0))

  room : MayStore s.parts buffer end
  room = record { byte = λ x low high. stores x low (omega arith) }

  line_there : with_number end 1 10 s.memory end ≡ 10
  line_there = byte-same end 10 s.memory

  kept : (upper size x : ℕ) → x ≢ 5 → x ≢ 6 → x ≢ 7 → x ≢ 12 → value (put 7 size (fronted upper end s.registers)) x ≡ value s.registers x
  kept upper size x a b c d = grind (arith, nat_tests)

  kept_low : (upper x : ℕ) → x ≢ 5 → x ≢ 6 → x ≢ 7 → x ≢ 12 → value (fronted upper end s.registers) x ≡ value s.registers x
  kept_low upper x a b c d = grind (arith, nat_tests)

  below_end : end < 2 ^ 32
  below_end = let in_range = before.in_range in omega arith

  -- at the digits' loop
  abbrev at_loop : (ℕ → ℕ) → ℕ → Processor
  at_loop registers executed = record s {
    registers = registers;
    pc = s.pc + 4 + 4 + 4 + 4 + 4 + 4 + 4 + 4;
    memory = with_number end 1 10 s.memory;
    executed = executed;
  }

  front_with : (registers : ℕ → ℕ) (executed size count : ℕ) → LeadsIn code count s (at_loop registers executed) → value registers 7 ≡ size → value registers 6 ≡ 10 → value registers 5 ≡ end → value registers 12 ≡ end + value s.registers 11
      → ((x : ℕ) → x ≢ 5 → x ≢ 6 → x ≢ 7 → x ≢ 12 → value registers x ≡ value s.registers x) → (h : Processor) × Front code (s.pc + 4 + 4 + 4 + 4 + 4 + 4 + 4 + 4) size end buffer count s h
  front_with registers executed size count leads number ten place stop others = (
    at_loop registers executed,
    record {
      leads = leads;
      at_digits = record { stands = LeadsIn-stands leads stands; pc_is = refl; number = number; ten = ten; place = place; below = below_end; room = room };
      line = line_there;
      outside = λ x other. byte-apart end 10 s.memory x other;
      stop = stop;
      registers = others;
      parts = refl;
      left = refl;
      trace = refl;
    },
  )

  -- of a number that is not negative
  front_low : value s.registers 10 < 2 ^ 31 → (h : Processor) × Front code (s.pc + 4 + 4 + 4 + 4 + 4 + 4 + 4 + 4) (value s.registers 10) end buffer 7 s h
  front_low low =
      let below = stands.below (s.pc + 4 + 4 + 4 + 4 + 4 + 4 + 4 + 4) _ has.1.1.1.1.1.1.1.1.0 in
      let aligned = stands.aligned (s.pc + 4 + 4 + 4 + 4 + 4 + 4 + 4 + 4) _ has.1.1.1.1.1.1.1.1.0 in
      let to : sum_word (s.pc + 4 + 4 + 4 + 4 + 4 + 4) 8 ≡ s.pc + 4 + 4 + 4 + 4 + 4 + 4 + 4 + 4 = omega arith in
      let leads = then_one stands to_test (λ on. leads-bge_taken on has.1.1.1.1.1.1.0 (not_negative (value s.registers 10) low) to aligned) in
      front_with (fronted u.word end s.registers) (s.executed + 1 + 1 + 1 + 1 + 1 + 1 + 1) (value s.registers 10) 7 leads refl refl refl refl (kept_low u.word)

  -- of a negative number, whose size is what is missing to 2^32
  front_high : 2 ^ 31 ≤ value s.registers 10 → (h : Processor) × Front code (s.pc + 4 + 4 + 4 + 4 + 4 + 4 + 4 + 4) (2 ^ 32 - value s.registers 10) end buffer 8 s h
  front_high high =
      let word = before.word in
      let size = 2 ^ 32 - value s.registers 10 in
      let size_is : difference_word 0 (value s.registers 10) ≡ 2 ^ 32 - value s.registers 10 = omega arith in
      let tested = then_one stands to_test (λ on. leads-bge_not_taken on has.1.1.1.1.1.1.0 (negative (value s.registers 10) high word) (next-is stands (s.pc + 4 + 4 + 4 + 4 + 4 + 4) _ has.1.1.1.1.1.1.1.0)) in
      let leads = then_one stands tested (λ on. leads-sub on {v = 2 ^ 32 - value s.registers 10} has.1.1.1.1.1.1.1.0 size_is (next-is stands (s.pc + 4 + 4 + 4 + 4 + 4 + 4 + 4) _ has.1.1.1.1.1.1.1.1.0)) in
      front_with (put 7 size (fronted u.word end s.registers)) (s.executed + 1 + 1 + 1 + 1 + 1 + 1 + 1 + 1) size 8 leads refl refl refl refl (kept u.word size)

-- ---- the whole

-- the bytes of a piece with the line end or without it
piece_there : (memory : ℕ → ℕ) (from end choice : ℕ) (digits : List ℕ) → choice ≤ 1 → from + length digits ≡ end → bytes_at memory from (length digits) ≡ digits → memory end ≡ 10
    → bytes_at memory from (length digits + choice) ≡ digits ++ (if nat_eq choice 0 then [] else 10 ∷ [])
piece_there memory from end zero digits few place bytes line =
    let same : length digits + 0 ≡ length digits = omega arith in
    ap (bytes_at memory from) same ∙ bytes ∙ sym (append-nil digits)
piece_there memory from end (suc zero) digits few place bytes line =
    bytes_at-add memory from (length digits) 1
    ∙ ap (λ front. front ++ bytes_at memory (from + length digits) 1) bytes
    ∙ ap (λ a. digits ++ bytes_at memory a 1) place
    ∙ ap (λ one. digits ++ one) (bytes_at-one memory end ∙ ap (λ byte. byte ∷ []) line)
piece_there memory from end (suc (suc n)) digits few place bytes line = absurd (omega arith)

-- so many digits and a sign have at most 11 bytes
module _ (code : Code) (buffer end size c0 c1 : ℕ) (end_is : end ≡ buffer + 11) (s h t : Processor) (stands : Stands code s) (before : BeforePrintInt buffer s)
    (at digits_at : ℕ) (has : Has code at put_code) (front : Front code digits_at size end buffer c0 s h)
    (digits : List ℕ) (wrote : Wrote code c1 at digits end h t) (short : length digits ≤ 11) (some : 0 < length digits)
    (spelt : digits ≡ signed_decimal (signed (value s.registers 10))) (count_is : c0 + c1 + 6 ≡ int_count (signed (value s.registers 10))) where
  choice : ℕ
  choice = value s.registers 11

  registers_kept : (x : ℕ) → x ≢ 5 → x ≢ 6 → x ≢ 7 → x ≢ 11 → x ≢ 12 → value t.registers x ≡ value s.registers x
  registers_kept x a b c d e = wrote.registers x a c d ∙ front.registers x a b c e

  kept_put : (from count x : ℕ) → x ≢ 10 → x ≢ 11 → x ≢ 12 → x ≢ 17 → value (told from count [] t).registers x ≡ value t.registers x
  kept_put from count x a b c d = grind (arith, nat_tests)

  memory_kept : (x : ℕ) → (x < buffer) ⊎ (buffer + buffer_bytes ≤ x) → t.memory x ≡ s.memory x
  memory_kept x away =
      let place = wrote.place in
      wrote.outside x (beyond x place away) ∙ front.outside x (not_end x away)
    where
      beyond : (x : ℕ) → value t.registers 5 + length digits ≡ end → (x < buffer) ⊎ (buffer + buffer_bytes ≤ x) → (x < value t.registers 5) ⊎ (end ≤ x)
      beyond x place (inl low) = inl (omega arith)
      beyond x place (inr high) = inr (omega arith)

      not_end : (x : ℕ) → (x < buffer) ⊎ (buffer + buffer_bytes ≤ x) → x ≢ end
      not_end x (inl low) = omega arith
      not_end x (inr high) = omega arith

  way_kept : value t.registers 1 ≡ value s.registers 1
  way_kept = registers_kept 1 (λ e. cc) (λ e. cc) (λ e. cc) (λ e. cc) (λ e. cc)

  way_back : HasWayBack t
  way_back = record {
    aligned = rw way_kept before.way_back.aligned;
    in_range = rw way_kept before.way_back.in_range;
  }

  stops : value t.registers 12 ≡ value t.registers 5 + (length digits + value s.registers 11)
  stops =
      let place = wrote.place in
      wrote.registers 12 (λ e. cc) (λ e. cc) (λ e. cc) ∙ front.stop ∙ (let e : end + value s.registers 11 ≡ value t.registers 5 + (length digits + value s.registers 11) = omega arith in e)

  may_load : can_load t.parts (value t.registers 5) (length digits + value s.registers 11) ≡ true
  may_load =
      let place = wrote.place in
      let few = before.choice in
      ap (λ parts. can_load parts (value t.registers 5) (length digits + value s.registers 11)) (wrote.parts ∙ front.parts)
      ∙ can-within (λ part. part.readable) s.parts buffer buffer_bytes (value t.registers 5) (length digits + value s.registers 11) (lit< tt) (omega arith) (omega arith) before.loaded

  piece_is : bytes_at t.memory (value t.registers 5) (length digits + value s.registers 11) ≡ int_piece (value s.registers 10) (value s.registers 11)
  piece_is =
      piece_there t.memory (value t.registers 5) end (value s.registers 11) digits before.choice wrote.place wrote.bytes (wrote.outside end (inr (omega arith)) ∙ front.line)
      ∙ ap (λ ds. ds ++ (if nat_eq (value s.registers 11) 0 then [] else 10 ∷ [])) spelt

  put_leads : LeadsIn code 6 t (stepped (value t.registers 1) (told (value t.registers 5) (length digits + value s.registers 11) (int_piece (value s.registers 10) (value s.registers 11)) t))
  put_leads =
      let place = wrote.place in
      let few = before.choice in
      let in_range = before.in_range in
      puts code at (value t.registers 5) (length digits + value s.registers 11) has (int_piece (value s.registers 10) (value s.registers 11)) t
      (LeadsIn-stands (LeadsIn-then front.leads wrote.leads) stands) wrote.pc_is refl stops (omega arith) (omega arith) may_load piece_is way_back

  finishes : (u : Processor) × AfterPrintInt code buffer s u
  finishes =
      let from = value t.registers 5 in
      let count = length digits + value s.registers 11 in
      let piece = int_piece (value s.registers 10) (value s.registers 11) in
      let u = stepped (value t.registers 1) (told from count piece t) in (
        u,
        record {
          returns = returns_by (subst (λ n. LeadsIn code n s u) count_is (LeadsIn-then (LeadsIn-then front.leads wrote.leads) put_leads)) way_kept (λ x out. kept_put from count x out.1.1.1.0 out.1.1.1.1.0 out.1.1.1.1.1.0 out.1.1.1.1.1.1.1.0 ∙ registers_kept x out.0 out.1.0 out.1.1.0 out.1.1.1.1.0 out.1.1.1.1.1.0) (wrote.parts ∙ front.parts);
          trace = ap (λ trace. trace ++ output piece ∷ []) (wrote.trace ∙ front.trace);
          left = wrote.left ∙ front.left;
          memory = memory_kept;
        },
      )

module _ (code : Code) (u : UpperImmediate) (l : Immediate) (buffer : ℕ) (sum : sum_word u.word l.word ≡ buffer + 11) (s : Processor) (stands : Stands code s)
    (has : Has code s.pc (Lui x5 u ∷ Addi x5 x5 l ∷ print_int_code)) (before : BeforePrintInt buffer s) where
  abbrev digits_place : ℕ
  digits_place = s.pc + 4 + 4 + 4 + 4 + 4 + 4 + 4 + 4

  abbrev sign_at : ℕ
  sign_at = s.pc + 4 + 4 + 4 + 4 + 4 + 4 + 4 + 4 + 4 + 4 + 4 + 4 + 4 + 4

  has_digits : Has code (s.pc + 4 + 4 + 4 + 4 + 4 + 4 + 4 + 4) (digits_code sign_code)
  has_digits = has.1.1.1.1.1.1.1.1

  has_sign : Has code sign_at sign_code
  has_sign = has_digits.1.1.1.1.1.1

  print_low : value s.registers 10 < 2 ^ 31 → (t : Processor) × AfterPrintInt code buffer s t
  print_low low =
      let n = value s.registers 10 in
      let short = length-decimal-le 10 n (lit< tt) (omega arith) (omega arith) in
      let some = decimal_nonempty n (omega arith) in
      let front = front_low code u l buffer (buffer + 11) refl sum s stands has before low in
      let h = front.0 in
      let here = LeadsIn-stands front.1.leads stands in
      let wrote = writes_digits code digits_place buffer (Bge x10 x0 forward_16) minus_code has_digits n (omega arith) h (buffer + 11) front.1.at_digits (omega arith) in
      let same = wrote.1.registers 10 (λ e. cc) (λ e. cc) (λ e. cc) ∙ front.1.registers 10 (λ e. cc) (λ e. cc) (λ e. cc) (λ e. cc) in
      let signed_is = no_sign code sign_at has_sign (6 * length (decimal n)) (buffer + 11) n (decimal n) h wrote.0 here wrote.1 same low in
      let counts : 7 + (6 * length (decimal n) + 1) + 6 ≡ int_count (pos n) = omega arith in
      finishes code buffer (buffer + 11) n 7 (6 * length (decimal n) + 1) refl s h signed_is.0 stands before (sign_at + 4 + 4 + 4 + 4) digits_place has_sign.1.1.1.1 front.1 (decimal n) signed_is.1 (omega arith) some
      (ap signed_decimal (sym (signed_low n low))) (counts ∙ ap int_count (sym (signed_low n low)))

  print_high : 2 ^ 31 ≤ value s.registers 10 → (t : Processor) × AfterPrintInt code buffer s t
  print_high high =
      let n = value s.registers 10 in
      let fits = before.word in
      let k = 2 ^ 32 - suc n in
      let size_is : suc (2 ^ 32 - suc n) ≡ 2 ^ 32 - n = omega arith in
      let small : suc k ≤ 2 ^ 31 = omega arith in
      let short = length-decimal-le 10 (suc k) (lit< tt) (omega arith) (omega arith) in
      let some = decimal_nonempty (suc k) (omega arith) in
      let in_range = before.in_range in
      let front = front_high code u l buffer (buffer + 11) refl sum s stands has before high in
      let h = front.0 in
      let here = LeadsIn-stands front.1.leads stands in
      let at_digits = subst (λ m. AtDigits code digits_place m (buffer + 11) buffer h) (sym size_is) front.1.at_digits in
      let wrote = writes_digits code digits_place buffer (Bge x10 x0 forward_16) minus_code has_digits (suc k) (omega arith) h (buffer + 11) at_digits (omega arith) in
      let place = wrote.1.place in
      let from = value wrote.0.registers 5 in
      let last : from ≡ suc (from - 1) = omega arith in
      let may : can_store wrote.0.parts (from - 1) 1 ≡ true = ap (λ parts. can_store parts (from - 1) 1) wrote.1.parts ∙ at_digits.room.byte (from - 1) (omega arith) (omega arith) in
      let same = wrote.1.registers 10 (λ e. cc) (λ e. cc) (λ e. cc) ∙ front.1.registers 10 (λ e. cc) (λ e. cc) (λ e. cc) (λ e. cc) in
      let signed_is = with_sign code sign_at has_sign (6 * length (decimal (suc k))) (buffer + 11) buffer n (from - 1) (decimal (suc k)) h wrote.0 here wrote.1 same high fits last (omega arith) may in
      let counts : 8 + (6 * length (decimal (suc k)) + 4) + 6 ≡ int_count (negsuc k) = omega arith in
      finishes code buffer (buffer + 11) (2 ^ 32 - n) 8 (6 * length (decimal (suc k)) + 4) refl s h signed_is.0 stands before (sign_at + 4 + 4 + 4 + 4) digits_place has_sign.1.1.1.1 front.1 (45 ∷ decimal (suc k)) signed_is.1 (omega arith) (omega arith)
      (ap signed_decimal (sym (signed_high n high fits))) (counts ∙ ap int_count (sym (signed_high n high fits)))

  by_sign : (value s.registers 10 < 2 ^ 31) ⊎ (2 ^ 31 ≤ value s.registers 10) → (t : Processor) × AfterPrintInt code buffer s t
  by_sign (inl low) = print_low low
  by_sign (inr high) = print_high high

halves : (n : ℕ) → (n < 2 ^ 31) ⊎ (2 ^ 31 ≤ n)
halves n = grind (arith, nat_tests)

does : (memory : ℕ) (code : Code) (at : ℕ) (u : UpperImmediate) (l : Immediate) → sum_word u.word l.word ≡ memory + 11 → Has code at (Lui x5 u ∷ Addi x5 x5 l ∷ print_int_code) → IsPrintInt memory code at
does memory code at u l sum has s here before =
    by_sign code u l memory sum s here.stands (subst (λ a. Has code a (Lui x5 u ∷ Addi x5 x5 l ∷ print_int_code)) (sym here.pc_is) has) before (halves (value s.registers 10))

pub print_int_makes : Makes (Address x5 Data 11 ∷ plain print_int_code) 24 11 IsPrintInt
print_int_makes = address_makes x5 11 print_int_code does
