-- The routine that gives up a reference: its instructions, and what each straight row of them does.
use Rattle.std.proofs.Common.{◌≡◌, ◌≢◌, ℕ, suc, ◌+◌, ◌-◌, ◌/◌, ◌%◌, ◌^◌, ◌<◌, ◌≤◌, List, [], ◌∷◌, true, bit_and, refl, sym, ap, ◌∙◌, lit<, lit≤, arith}
use Rattle.std.proofs.lemmas.Nat.{and_mask}
use Rattle.rv_isa.specs.declared.immediate.Immediate.{Immediate}
use Rattle.rv_isa.specs.declared.immediate.BranchOffset.{BranchOffset}
use Rattle.cell_runtime.specs.Links.{distance}
use Rattle.rv_isa.specs.declared.immediate.ShiftAmount.{ShiftAmount}
use Rattle.rv_isa.specs.declared.instr.Instr.{Instr}
use Rattle.rv_isa.specs.declared.instr.Instr.TheVariants.{Jalr, Beq, Bne, Lw, Sw, Addi, Andi, Srli}
use Rattle.rv_isa.specs.Arithmetic.{sum_word, shift_right_logical}
use Rattle.rv_isa.specs.Bytes.{with_number}
use Rattle.rv_isa.specs.Processor.{Processor, value, put, can_load, can_store}
use Rattle.rv_isa.specs.Environment.{stepped}
use Rattle.rv_isa.specs.Standing.{Code, Has, Stands, LeadsIn}
use Rattle.rv_isa.proofs.Standing.{Has-get}
use Rattle.rv_isa.proofs.Instructions.{leads-sets, leads-addi, leads-lw, leads-sw, leads-beq_taken, leads-beq_not_taken, leads-bne_taken, leads-bne_not_taken}
use Rattle.cell_heap.specs.Memory.{word}
use Rattle.rv_isa.proofs.Registers.{x0, x1, x5, x8, x10, x11, x12, x13}
use Rattle.cell_runtime.proofs.Operands.{imm_0, imm_1, imm_4, imm_minus_1, forward_8}
use Rattle.cell_runtime.proofs.RoutineCalls.{leads-back, then_one}

abbrev pub imm_8 : Immediate
imm_8 = record { word = 8; in_range = (lit< tt, lit< tt) }

abbrev pub by_1 : ShiftAmount
by_1 = record { places = 1; in_range = lit< tt }

abbrev pub by_8 : ShiftAmount
by_8 = record { places = 8; in_range = lit< tt }

abbrev pub forward_20 : BranchOffset
forward_20 = distance 0 5

abbrev pub forward_36 : BranchOffset
forward_36 = distance 0 9

abbrev pub forward_40 : BranchOffset
forward_40 = distance 0 10

abbrev pub forward_76 : BranchOffset
forward_76 = distance 0 19

abbrev pub back_24 : BranchOffset
back_24 = distance 6 0

abbrev pub back_36 : BranchOffset
back_36 = distance 9 0

abbrev pub back_44 : BranchOffset
back_44 = distance 11 0

abbrev pub back_76 : BranchOffset
back_76 = distance 19 0

abbrev pub drop_code : List Instr
drop_code =
    Addi x13 x10 imm_0
    ∷ Beq x0 x0 forward_76
    ∷ Andi x5 x10 imm_1
    ∷ Bne x5 x0 forward_20
    ∷ Lw x5 x10 imm_0
    ∷ Addi x5 x5 imm_minus_1
    ∷ Beq x5 x0 forward_36
    ∷ Sw x10 x5 imm_0
    ∷ Beq x12 x0 forward_40
    ∷ Andi x5 x12 imm_1
    ∷ Lw x10 x11 imm_0
    ∷ Addi x11 x11 imm_4
    ∷ Srli x12 x12 by_1
    ∷ Bne x5 x0 back_44
    ∷ Beq x0 x0 back_24
    ∷ Sw x10 x13 imm_0
    ∷ Addi x13 x10 imm_0
    ∷ Beq x0 x0 back_36
    ∷ Bne x13 x0 forward_8
    ∷ Jalr x0 x1 imm_0
    ∷ Lw x5 x13 imm_0
    ∷ Sw x13 x8 imm_0
    ∷ Addi x8 x13 imm_0
    ∷ Lw x12 x13 imm_4
    ∷ Srli x12 x12 by_8
    ∷ Addi x11 x13 imm_8
    ∷ Addi x13 x5 imm_0
    ∷ Beq x0 x0 back_76
    ∷ []

-- ---- addresses of the code

to_next : (at k : ℕ) → at + 112 ≤ 2 ^ 32 → k ≤ 104 → sum_word (at + k) 4 ≡ at + (k + 4)
to_next at k fits low = omega arith

to_ahead : (at k d : ℕ) → at + 112 ≤ 2 ^ 32 → k + d ≤ 108 → sum_word (at + k) d ≡ at + (k + d)
to_ahead at k d fits low = omega arith

to_back : (at k d : ℕ) → at + 112 ≤ 2 ^ 32 → k ≤ 108 → d ≤ k → sum_word (at + k) (2 ^ 32 - d) ≡ at + (k - d)
to_back at k d fits low within = omega arith

whole : (at k : ℕ) → at % 4 ≡ 0 → k % 4 ≡ 0 → (at + k) % 4 ≡ 0
whole at k at_whole k_whole = omega arith

-- ---- words

pub bit_of_word : (n b : ℕ) → n % 2 ≡ b → bit_and n 1 ≡ b
bit_of_word n b is = and_mask n 1 ∙ is

sum_none : (n m : ℕ) → n ≡ m → m < 2 ^ 32 → sum_word n 0 ≡ m
sum_none n m is below = omega arith

sum_small : (n m k : ℕ) → n ≡ m → m + k < 2 ^ 32 → sum_word n k ≡ m + k
sum_small n m k is below = omega arith

one_less : (n m : ℕ) → n ≡ suc m → suc m < 2 ^ 32 → sum_word n (2 ^ 32 - 1) ≡ m
one_less n m is below = omega arith

not_zero : (n : ℕ) → suc n ≢ 0
not_zero n e = cc

-- a word that may be loaded and stored
pub record MayUse (s : Processor) (at : ℕ) : Type 0 where
  pub aligned : at % 4 ≡ 0
  pub below : at + 4 < 2 ^ 32
  pub loads : can_load s.parts at 4 ≡ true
  pub stores : can_store s.parts at 4 ≡ true

word_below : (s : Processor) (at : ℕ) → MayUse s at → at < 2 ^ 32
word_below s at use_it = let below = use_it.below in omega arith

module _ (code : Code) (at : ℕ) (has : Has code at drop_code) (fits : at + 112 ≤ 2 ^ 32) (at_whole : at % 4 ≡ 0) where
  -- the cell in x10 is the chain of waiting cells
  pub row_start : (s : Processor) (x : ℕ) → Stands code s → s.pc ≡ at → value s.registers 10 ≡ x → x < 2 ^ 32
      → LeadsIn code 2 s (record s { registers = put 13 x s.registers; pc = at + 80; executed = s.executed + 1 + 1 })
  row_start s x stands here x_is below =
      let pc_0 : s.pc ≡ at + 0 = omega arith in
      let to_x : sum_word (value s.registers 10) 0 ≡ x = sum_none _ x x_is below in
      let a = leads-addi stands {v = x} (ap code pc_0 ∙ Has-get code at drop_code 0 _ has refl) to_x (ap (λ p. sum_word p 4) pc_0 ∙ to_next at 0 fits (lit≤ tt)) in
      then_one stands a (λ on. leads-beq_taken on (Has-get code at drop_code 1 _ has refl) refl (to_ahead at 4 76 fits (lit≤ tt)) (whole at 80 at_whole refl))

  -- an odd reference
  pub row_odd : (s : Processor) (x : ℕ) → Stands code s → s.pc ≡ at + 8 → value s.registers 10 ≡ x → x % 2 ≡ 1 → LeadsIn code 2 s (record s { registers = put 5 1 s.registers; pc = at + 32; executed = s.executed + 1 + 1 })
  row_odd s x stands here x_is odd =
      let bit : bit_and (value s.registers 10) 1 ≡ 1 = bit_of_word (value s.registers 10) 1 (ap (λ n. n % 2) x_is ∙ odd) in
      let a = leads-sets stands (Andi x5 x10 imm_1) (bit_and (value s.registers 10) 1) {v = 1} (ap code here ∙ Has-get code at drop_code 2 _ has refl) refl bit (ap (λ p. sum_word p 4) here ∙ to_next at 8 fits (lit≤ tt)) in
      then_one stands a (λ on. leads-bne_taken on (Has-get code at drop_code 3 _ has refl) (not_zero 0) (to_ahead at 12 20 fits (lit≤ tt)) (whole at 32 at_whole refl))

  -- an even reference, of which others are left: its count is lowered
  pub row_lower : (s : Processor) (x n : ℕ) → Stands code s → s.pc ≡ at + 8 → value s.registers 10 ≡ x → x % 2 ≡ 0 → MayUse s x → word s.memory x ≡ suc (suc n) → suc (suc n) < 2 ^ 32
      → LeadsIn code 6 s (record s {
        registers = put 5 (suc n) (put 5 (suc (suc n)) (put 5 0 s.registers));
        memory = with_number x 4 (suc n) s.memory;
        pc = at + 32;
        executed = s.executed + 1 + 1 + 1 + 1 + 1 + 1;
      })
  row_lower s x n stands here x_is even use_it counts below =
      let bit : bit_and (value s.registers 10) 1 ≡ 0 = bit_of_word (value s.registers 10) 0 (ap (λ n. n % 2) x_is ∙ even) in
      let to_x : sum_word (value s.registers 10) 0 ≡ x = sum_none _ x x_is (word_below s x use_it) in
      let a = leads-sets stands (Andi x5 x10 imm_1) (bit_and (value s.registers 10) 1) {v = 0} (ap code here ∙ Has-get code at drop_code 2 _ has refl) refl bit (ap (λ p. sum_word p 4) here ∙ to_next at 8 fits (lit≤ tt)) in
      let b = then_one stands a (λ on. leads-bne_not_taken on (Has-get code at drop_code 3 _ has refl) refl (to_next at 12 fits (lit≤ tt))) in
      let c = then_one stands b (λ on. leads-lw on (Has-get code at drop_code 4 _ has refl) to_x use_it.aligned use_it.loads counts (to_next at 16 fits (lit≤ tt))) in
      let d = then_one stands c (λ on. leads-addi on (Has-get code at drop_code 5 _ has refl) (one_less (suc (suc n)) (suc n) refl below) (to_next at 20 fits (lit≤ tt))) in
      let e = then_one stands d (λ on. leads-beq_not_taken on (Has-get code at drop_code 6 _ has refl) (not_zero n) (to_next at 24 fits (lit≤ tt))) in
      then_one stands e (λ on. leads-sw on (Has-get code at drop_code 7 _ has refl) to_x refl use_it.aligned use_it.stores (to_next at 28 fits (lit≤ tt)))

  -- the last reference: the cell waits
  pub row_wait : (s : Processor) (x w : ℕ) → Stands code s → s.pc ≡ at + 8 → value s.registers 10 ≡ x → x % 2 ≡ 0 → MayUse s x → word s.memory x ≡ 1 → value s.registers 13 ≡ w
      → LeadsIn code 8 s (record s {
        registers = put 13 x (put 5 0 (put 5 1 (put 5 0 s.registers)));
        memory = with_number x 4 w s.memory;
        pc = at + 32;
        executed = s.executed + 1 + 1 + 1 + 1 + 1 + 1 + 1 + 1;
      })
  row_wait s x w stands here x_is even use_it counts w_is =
      let bit : bit_and (value s.registers 10) 1 ≡ 0 = bit_of_word (value s.registers 10) 0 (ap (λ n. n % 2) x_is ∙ even) in
      let to_x : sum_word (value s.registers 10) 0 ≡ x = sum_none _ x x_is (word_below s x use_it) in
      let a = leads-sets stands (Andi x5 x10 imm_1) (bit_and (value s.registers 10) 1) {v = 0} (ap code here ∙ Has-get code at drop_code 2 _ has refl) refl bit (ap (λ p. sum_word p 4) here ∙ to_next at 8 fits (lit≤ tt)) in
      let b = then_one stands a (λ on. leads-bne_not_taken on (Has-get code at drop_code 3 _ has refl) refl (to_next at 12 fits (lit≤ tt))) in
      let c = then_one stands b (λ on. leads-lw on (Has-get code at drop_code 4 _ has refl) to_x use_it.aligned use_it.loads counts (to_next at 16 fits (lit≤ tt))) in
      let d = then_one stands c (λ on. leads-addi on (Has-get code at drop_code 5 _ has refl) (one_less 1 0 refl (lit< tt)) (to_next at 20 fits (lit≤ tt))) in
      let e = then_one stands d (λ on. leads-beq_taken on (Has-get code at drop_code 6 _ has refl) refl (to_ahead at 24 36 fits (lit≤ tt)) (whole at 60 at_whole refl)) in
      let f = then_one stands e (λ on. leads-sw on (Has-get code at drop_code 15 _ has refl) to_x w_is use_it.aligned use_it.stores (to_next at 60 fits (lit≤ tt))) in
      let g = then_one stands f (λ on. leads-addi on (Has-get code at drop_code 16 _ has refl) to_x (to_next at 64 fits (lit≤ tt))) in
      then_one stands g (λ on. leads-beq_taken on (Has-get code at drop_code 17 _ has refl) refl (to_back at 68 36 fits (lit≤ tt) (lit≤ tt)) (whole at 32 at_whole refl))

  -- no field is left
  pub row_scanned : (s : Processor) → Stands code s → s.pc ≡ at + 32 → value s.registers 12 ≡ 0 → LeadsIn code 1 s (stepped (at + 72) s)
  row_scanned s stands here none =
      leads-beq_taken stands (ap code here ∙ Has-get code at drop_code 8 _ has refl) none (ap (λ p. sum_word p 40) here ∙ to_ahead at 32 40 fits (lit≤ tt)) (whole at 72 at_whole refl)

  -- the next field, up to the branch by its bit
  row_field : (s : Processor) (m p y b : ℕ) → Stands code s → s.pc ≡ at + 32 → value s.registers 12 ≡ m → m ≢ 0 → m % 2 ≡ b → value s.registers 11 ≡ p → MayUse s p → word s.memory p ≡ y
      → LeadsIn code 5 s (record s {
        registers = put 12 (m / 2) (put 11 (p + 4) (put 10 y (put 5 b s.registers)));
        pc = at + 52;
        executed = s.executed + 1 + 1 + 1 + 1 + 1;
      })
  row_field s m p y b stands here m_is some bit_is p_is use_it y_is =
      let bit : bit_and (value s.registers 12) 1 ≡ b = bit_of_word (value s.registers 12) b (ap (λ n. n % 2) m_is ∙ bit_is) in
      let to_p : sum_word (value s.registers 11) 0 ≡ p = sum_none _ p p_is (word_below s p use_it) in
      let next_p : sum_word (value s.registers 11) 4 ≡ p + 4 = sum_small _ p 4 p_is use_it.below in
      let half : shift_right_logical (value s.registers 12) 1 ≡ m / 2 = ap (λ n. n / 2) m_is in
      let a = leads-beq_not_taken stands (ap code here ∙ Has-get code at drop_code 8 _ has refl) (λ none. some (sym m_is ∙ none)) (ap (λ p. sum_word p 4) here ∙ to_next at 32 fits (lit≤ tt)) in
      let c = then_one stands a (λ on. leads-sets on (Andi x5 x12 imm_1) (bit_and (value s.registers 12) 1) {v = b} (Has-get code at drop_code 9 _ has refl) refl bit (to_next at 36 fits (lit≤ tt))) in
      let d = then_one stands c (λ on. leads-lw on (Has-get code at drop_code 10 _ has refl) to_p use_it.aligned use_it.loads y_is (to_next at 40 fits (lit≤ tt))) in
      let e = then_one stands d (λ on. leads-addi on (Has-get code at drop_code 11 _ has refl) next_p (to_next at 44 fits (lit≤ tt))) in
      then_one stands e (λ on. leads-sets on (Srli x12 x12 by_1) (shift_right_logical (value s.registers 12) 1) {v = m / 2} (Has-get code at drop_code 12 _ has refl) refl half (to_next at 48 fits (lit≤ tt)))

  -- a field whose bit is set is given up
  pub row_reference : (s : Processor) (m p y : ℕ) → Stands code s → s.pc ≡ at + 32 → value s.registers 12 ≡ m → m ≢ 0 → m % 2 ≡ 1 → value s.registers 11 ≡ p → MayUse s p → word s.memory p ≡ y
      → LeadsIn code 6 s (record s {
        registers = put 12 (m / 2) (put 11 (p + 4) (put 10 y (put 5 1 s.registers)));
        pc = at + 8;
        executed = s.executed + 1 + 1 + 1 + 1 + 1 + 1;
      })
  row_reference s m p y stands here m_is some bit_is p_is use_it y_is =
      then_one stands (row_field s m p y 1 stands here m_is some bit_is p_is use_it y_is)
      (λ on. leads-bne_taken on (Has-get code at drop_code 13 _ has refl) (not_zero 0) (to_back at 52 44 fits (lit≤ tt) (lit≤ tt)) (whole at 8 at_whole refl))

  -- another one is passed over
  pub row_skip : (s : Processor) (m p y : ℕ) → Stands code s → s.pc ≡ at + 32 → value s.registers 12 ≡ m → m ≢ 0 → m % 2 ≡ 0 → value s.registers 11 ≡ p → MayUse s p → word s.memory p ≡ y
      → LeadsIn code 7 s (record s {
        registers = put 12 (m / 2) (put 11 (p + 4) (put 10 y (put 5 0 s.registers)));
        pc = at + 32;
        executed = s.executed + 1 + 1 + 1 + 1 + 1 + 1 + 1;
      })
  row_skip s m p y stands here m_is some bit_is p_is use_it y_is =
      let a = then_one stands (row_field s m p y 0 stands here m_is some bit_is p_is use_it y_is)
      (λ on. leads-bne_not_taken on (Has-get code at drop_code 13 _ has refl) refl (to_next at 52 fits (lit≤ tt))) in
      then_one stands a (λ on. leads-beq_taken on (Has-get code at drop_code 14 _ has refl) refl (to_back at 56 24 fits (lit≤ tt) (lit≤ tt)) (whole at 32 at_whole refl))

  -- no cell waits: the way back
  pub row_done : (s : Processor) → Stands code s → s.pc ≡ at + 72 → value s.registers 13 ≡ 0 → value s.registers 1 % 4 ≡ 0 → value s.registers 1 < 2 ^ 32
      → LeadsIn code 2 s (record s { pc = value s.registers 1; executed = s.executed + 1 + 1 })
  row_done s stands here none way_whole way_below =
      let a = leads-bne_not_taken stands (ap code here ∙ Has-get code at drop_code 18 _ has refl) none (ap (λ p. sum_word p 4) here ∙ to_next at 72 fits (lit≤ tt)) in
      leads-back _ stands a (Has-get code at drop_code 19 _ has refl) refl way_whole way_below

  -- a cell waits
  pub row_some : (s : Processor) (a : ℕ) → Stands code s → s.pc ≡ at + 72 → value s.registers 13 ≡ a → a ≢ 0 → LeadsIn code 1 s (stepped (at + 80) s)
  row_some s a stands here a_is some =
      leads-bne_taken stands (ap code here ∙ Has-get code at drop_code 18 _ has refl) (λ none. some (sym a_is ∙ none)) (ap (λ p. sum_word p 8) here ∙ to_ahead at 72 8 fits (lit≤ tt)) (whole at 80 at_whole refl)

  -- the first waiting cell goes to the free ones, and its fields are the next ones
  pub row_open : (s : Processor) (a f n h m : ℕ) → Stands code s → s.pc ≡ at + 80 → value s.registers 13 ≡ a → value s.registers 8 ≡ f → MayUse s a → a % 32 ≡ 0 → a + 8 < 2 ^ 32 → can_load s.parts (a + 4) 4 ≡ true
      → word s.memory a ≡ n → n < 2 ^ 32 → word (with_number a 4 f s.memory) (a + 4) ≡ h → h / 256 ≡ m
      → LeadsIn code 8 s (record s {
        registers = put 13 n (put 11 (a + 8) (put 12 m (put 12 h (put 8 a (put 5 n s.registers)))));
        memory = with_number a 4 f s.memory;
        pc = at + 32;
        executed = s.executed + 1 + 1 + 1 + 1 + 1 + 1 + 1 + 1;
      })
  row_open s x f n h m stands here x_is f_is use_it x_whole below loads n_is n_below h_is m_is =
      let to_x : sum_word (value s.registers 13) 0 ≡ x = sum_none _ x x_is (word_below s x use_it) in
      let to_header : sum_word (value s.registers 13) 4 ≡ x + 4 = sum_small _ x 4 x_is use_it.below in
      let to_fields : sum_word (value s.registers 13) 8 ≡ x + 8 = sum_small _ x 8 x_is below in
      let header_whole : (x + 4) % 4 ≡ 0 = whole x 4 use_it.aligned refl in
      let b = leads-lw stands (ap code here ∙ Has-get code at drop_code 20 _ has refl) to_x use_it.aligned use_it.loads n_is (ap (λ p. sum_word p 4) here ∙ to_next at 80 fits (lit≤ tt)) in
      let c = then_one stands b (λ on. leads-sw on (Has-get code at drop_code 21 _ has refl) to_x f_is use_it.aligned use_it.stores (to_next at 84 fits (lit≤ tt))) in
      let d = then_one stands c (λ on. leads-addi on (Has-get code at drop_code 22 _ has refl) to_x (to_next at 88 fits (lit≤ tt))) in
      let e = then_one stands d (λ on. leads-lw on (Has-get code at drop_code 23 _ has refl) to_header header_whole loads h_is (to_next at 92 fits (lit≤ tt))) in
      let g = then_one stands e (λ on. leads-sets on (Srli x12 x12 by_8) (shift_right_logical h 8) {v = m} (Has-get code at drop_code 24 _ has refl) refl m_is (to_next at 96 fits (lit≤ tt))) in
      let i = then_one stands g (λ on. leads-addi on (Has-get code at drop_code 25 _ has refl) to_fields (to_next at 100 fits (lit≤ tt))) in
      let j = then_one stands i (λ on. leads-addi on (Has-get code at drop_code 26 _ has refl) (sum_none n n refl n_below) (to_next at 104 fits (lit≤ tt))) in
      then_one stands j (λ on. leads-beq_taken on (Has-get code at drop_code 27 _ has refl) refl (to_back at 108 76 fits (lit≤ tt) (lit≤ tt)) (whole at 32 at_whole refl))
