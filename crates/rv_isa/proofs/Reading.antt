-- `read` is the table as a function: it gives an instruction exactly where the table relates it to the word.
use Rattle.std.proofs.Common.{◌≡◌, ℕ, ◌+◌, ◌*◌, ◌^◌, ◌<◌, refl, ap, sym, subst, ◌∙◌, Bool, true, false, if◌then◌else◌, ◌&&◌, ◌||◌, nat_eq, Option, Some, None, IfSome, IsNone, ◌↔◌, lit<, arith}
use Rattle.std.proofs.Math.Nat.{mod-lt}
use Rattle.std.proofs.lemmas.Bool.{eqb-true, and_parts}
use Rattle.rv_isa.specs.declared.register.Register.{Register}
use Rattle.rv_isa.specs.declared.immediate.Immediate.{Immediate}
use Rattle.rv_isa.specs.declared.immediate.BranchOffset.{BranchOffset}
use Rattle.rv_isa.specs.declared.immediate.JumpOffset.{JumpOffset}
use Rattle.rv_isa.specs.declared.immediate.UpperImmediate.{UpperImmediate}
use Rattle.rv_isa.specs.declared.immediate.ShiftAmount.{ShiftAmount}
use Rattle.rv_isa.specs.declared.instr.Instr.{Instr}
use Rattle.rv_isa.specs.declared.instr.Instr.TheVariants.{Lui, Auipc, Jal, Jalr, Beq, Bne, Blt, Bge, Bltu, Bgeu, Lb, Lh, Lw, Lbu, Lhu, Sb, Sh, Sw, Addi, Slti, Sltiu, Xori, Ori, Andi, Slli, Srli, Srai, Add, Sub, Sll, Slt, Sltu, Xor, Srl, Sra, Or, And, Fence, Ecall, Ebreak, Mul, Mulh, Mulhsu, Mulhu, Div, Divu, Rem, Remu}
use Rattle.rv_isa.specs.Field.{field}
use Rattle.rv_isa.specs.Format.{IsR, IsI, IsShift, IsS, IsB, IsU, IsJ, IsOrdering}
use Rattle.rv_isa.specs.Table.{IsWord}
use Rattle.rv_isa.specs.Read.{rd_at, rs1_at, rs2_at, shamt_at, i_immediate, s_immediate, b_immediate, u_immediate, j_immediate, branch_of, load_of, store_of, immediate_operation_of, shift_of, base_operation_of, multiplication_of, operation_of, read}
use Rattle.rv_isa.proofs.RangeEquality.{same_register, same_shamt, same_immediate, same_branch_offset, same_jump_offset, same_upper_immediate}
use Rattle.rv_isa.proofs.Parts.{extended_12, extended_13, extended_21, upper_20, field-extended_12, field-extended_13, field-extended_21, field-upper_20, pieces_s, pieces_b, pieces_j, from_pieces_s, from_pieces_b, from_pieces_j}

-- ---- an instruction's word reads as the instruction

-- the fields of a word of each format, in the types that hold them
i_immediate-is : (imm : Immediate) (word : ℕ) → field word 31 20 ≡ field imm.word 11 0 → i_immediate word ≡ imm
i_immediate-is imm word e = same_immediate _ _ (extended_12 imm.word _ imm.in_range e)

s_immediate-is : (imm : Immediate) (word : ℕ) → field word 31 25 ≡ field imm.word 11 5 → field word 11 7 ≡ field imm.word 4 0 → s_immediate word ≡ imm
s_immediate-is imm word e f =
    same_immediate _ _ (extended_12 imm.word _ imm.in_range (rw (e, f) (pieces_s imm.word)))

b_immediate-is : (offset : BranchOffset) (word : ℕ) → field word 31 31 ≡ field offset.word 12 12 → field word 30 25 ≡ field offset.word 10 5 → field word 11 8 ≡ field offset.word 4 1 → field word 7 7 ≡ field offset.word 11 11 → b_immediate word ≡ offset
b_immediate-is offset word e f g h =
    same_branch_offset _ _ (extended_13 offset.word _ offset.in_range (rw (e, f, g, h) (pieces_b offset.word)))

u_immediate-is : (imm : UpperImmediate) (word : ℕ) → field word 31 12 ≡ field imm.word 31 12 → u_immediate word ≡ imm
u_immediate-is imm word e = same_upper_immediate _ _ (upper_20 imm.word _ imm.in_range e)

j_immediate-is : (offset : JumpOffset) (word : ℕ) → field word 31 31 ≡ field offset.word 20 20 → field word 30 21 ≡ field offset.word 10 1 → field word 20 20 ≡ field offset.word 11 11 → field word 19 12 ≡ field offset.word 19 12 → j_immediate word ≡ offset
j_immediate-is offset word e f g h =
    same_jump_offset _ _ (extended_21 offset.word _ offset.in_range (rw (e, f, g, h) (pieces_j offset.word)))

-- what `read` does at each opcode
read-lui : (word : ℕ) → field word 6 0 ≡ 0x37 → read word ≡ Some (Lui (rd_at word) (u_immediate word))
unfolding read
read-lui word e = rw e refl

read-auipc : (word : ℕ) → field word 6 0 ≡ 0x17 → read word ≡ Some (Auipc (rd_at word) (u_immediate word))
unfolding read
read-auipc word e = rw e refl

read-jal : (word : ℕ) → field word 6 0 ≡ 0x6f → read word ≡ Some (Jal (rd_at word) (j_immediate word))
unfolding read
read-jal word e = rw e refl

read-jalr : (word : ℕ) → field word 6 0 ≡ 0x67 → field word 14 12 ≡ 0 → read word ≡ Some (Jalr (rd_at word) (rs1_at word) (i_immediate word))
unfolding read
read-jalr word e f = rw (e, f) refl

read-branch : (word : ℕ) → field word 6 0 ≡ 0x63 → read word ≡ branch_of (field word 14 12) (rs1_at word) (rs2_at word) (b_immediate word)
unfolding read
read-branch word e = rw e refl

read-load : (word : ℕ) → field word 6 0 ≡ 0x03 → read word ≡ load_of (field word 14 12) (rd_at word) (rs1_at word) (i_immediate word)
unfolding read
read-load word e = rw e refl

read-store : (word : ℕ) → field word 6 0 ≡ 0x23 → read word ≡ store_of (field word 14 12) (rs1_at word) (rs2_at word) (s_immediate word)
unfolding read
read-store word e = rw e refl

read-immediate_operation : (word : ℕ) → field word 6 0 ≡ 0x13 → (nat_eq (field word 14 12) 1 || nat_eq (field word 14 12) 5) ≡ false → read word ≡ immediate_operation_of (field word 14 12) (rd_at word) (rs1_at word) (i_immediate word)
unfolding read
read-immediate_operation word e f = rw (e, f) refl

read-shift : (word : ℕ) → field word 6 0 ≡ 0x13 → (nat_eq (field word 14 12) 1 || nat_eq (field word 14 12) 5) ≡ true → read word ≡ shift_of (field word 31 25) (field word 14 12) (rd_at word) (rs1_at word) (shamt_at word)
unfolding read
read-shift word e f = rw (e, f) refl

read-operation : (word : ℕ) → field word 6 0 ≡ 0x33 → read word ≡ operation_of (field word 31 25) (field word 14 12) (rd_at word) (rs1_at word) (rs2_at word)
unfolding read
read-operation word e = rw e refl

read-fence : (word : ℕ) → field word 6 0 ≡ 0x0f → field word 14 12 ≡ 0 → read word ≡ Some Fence
unfolding read
read-fence word e f = rw (e, f) refl

read-ecall : read 0x00000073 ≡ Some Ecall
unfolding read
read-ecall = refl

read-ebreak : read 0x00100073 ≡ Some Ebreak
unfolding read
read-ebreak = refl

-- a word of each format, with its fields in place
reads_u : (make : Register → UpperImmediate → Instr) (opcode : ℕ) (rd : Register) (imm : UpperImmediate) (word : ℕ) → IsU opcode rd imm word → make (rd_at word) (u_immediate word) ≡ make rd imm
reads_u make opcode rd imm word h =
    ap (λ v. make v (u_immediate word)) (same_register _ rd h.rd_is) ∙ ap (make rd) (u_immediate-is imm word h.imm_is)

reads_j : (rd : Register) (offset : JumpOffset) (word : ℕ) → IsJ 0x6f rd offset word → read word ≡ Some (Jal rd offset)
reads_j rd offset word h =
    read-jal word h.opcode_is
    ∙ ap (λ v. Some (Jal v (j_immediate word))) (same_register _ rd h.rd_is)
    ∙ ap (λ v. Some (Jal rd v)) (j_immediate-is offset word h.sign_is h.lower_is h.bit_11_is h.upper_is)

reads_i : (make : Register → Register → Immediate → Option Instr) (opcode funct3 : ℕ) (rd rs1 : Register) (imm : Immediate) (word : ℕ) → IsI opcode funct3 rd rs1 imm word → make (rd_at word) (rs1_at word) (i_immediate word) ≡ make rd rs1 imm
reads_i make opcode funct3 rd rs1 imm word h =
    ap (λ v. make v (rs1_at word) (i_immediate word)) (same_register _ rd h.rd_is)
    ∙ ap (λ v. make rd v (i_immediate word)) (same_register _ rs1 h.rs1_is)
    ∙ ap (make rd rs1) (i_immediate-is imm word h.imm_is)

reads_jalr : (rd rs1 : Register) (imm : Immediate) (word : ℕ) → IsI 0x67 0 rd rs1 imm word → read word ≡ Some (Jalr rd rs1 imm)
reads_jalr rd rs1 imm word h =
    read-jalr word h.opcode_is h.funct3_is ∙ reads_i (λ a b c. Some (Jalr a b c)) 0x67 0 rd rs1 imm word h

reads_load : (funct3 : ℕ) (rd rs1 : Register) (imm : Immediate) (word : ℕ) → IsI 0x03 funct3 rd rs1 imm word → read word ≡ load_of funct3 rd rs1 imm
reads_load funct3 rd rs1 imm word h =
    read-load word h.opcode_is
    ∙ ap (λ v. load_of v (rd_at word) (rs1_at word) (i_immediate word)) h.funct3_is
    ∙ reads_i (load_of funct3) 0x03 funct3 rd rs1 imm word h

reads_immediate : (funct3 : ℕ) (rd rs1 : Register) (imm : Immediate) (word : ℕ) → (nat_eq funct3 1 || nat_eq funct3 5) ≡ false → IsI 0x13 funct3 rd rs1 imm word → read word ≡ immediate_operation_of funct3 rd rs1 imm
reads_immediate funct3 rd rs1 imm word other h =
    read-immediate_operation word h.opcode_is (ap (λ v. nat_eq v 1 || nat_eq v 5) h.funct3_is ∙ other)
    ∙ ap (λ v. immediate_operation_of v (rd_at word) (rs1_at word) (i_immediate word)) h.funct3_is
    ∙ reads_i (immediate_operation_of funct3) 0x13 funct3 rd rs1 imm word h

reads_shift : (funct3 funct7 : ℕ) (rd rs1 : Register) (shamt : ShiftAmount) (word : ℕ) → (nat_eq funct3 1 || nat_eq funct3 5) ≡ true → IsShift 0x13 funct3 funct7 rd rs1 shamt word → read word ≡ shift_of funct7 funct3 rd rs1 shamt
reads_shift funct3 funct7 rd rs1 shamt word one h =
    read-shift word h.opcode_is (ap (λ v. nat_eq v 1 || nat_eq v 5) h.funct3_is ∙ one)
    ∙ ap (λ v. shift_of v (field word 14 12) (rd_at word) (rs1_at word) (shamt_at word)) h.funct7_is
    ∙ ap (λ v. shift_of funct7 v (rd_at word) (rs1_at word) (shamt_at word)) h.funct3_is
    ∙ ap (λ v. shift_of funct7 funct3 v (rs1_at word) (shamt_at word)) (same_register _ rd h.rd_is)
    ∙ ap (λ v. shift_of funct7 funct3 rd v (shamt_at word)) (same_register _ rs1 h.rs1_is)
    ∙ ap (shift_of funct7 funct3 rd rs1) (same_shamt _ shamt h.shamt_is)

reads_store : (funct3 : ℕ) (rs1 rs2 : Register) (imm : Immediate) (word : ℕ) → IsS 0x23 funct3 rs1 rs2 imm word → read word ≡ store_of funct3 rs1 rs2 imm
reads_store funct3 rs1 rs2 imm word h =
    read-store word h.opcode_is
    ∙ ap (λ v. store_of v (rs1_at word) (rs2_at word) (s_immediate word)) h.funct3_is
    ∙ ap (λ v. store_of funct3 v (rs2_at word) (s_immediate word)) (same_register _ rs1 h.rs1_is)
    ∙ ap (λ v. store_of funct3 rs1 v (s_immediate word)) (same_register _ rs2 h.rs2_is)
    ∙ ap (store_of funct3 rs1 rs2) (s_immediate-is imm word h.upper_is h.lower_is)

reads_branch : (funct3 : ℕ) (rs1 rs2 : Register) (offset : BranchOffset) (word : ℕ) → IsB 0x63 funct3 rs1 rs2 offset word → read word ≡ branch_of funct3 rs1 rs2 offset
reads_branch funct3 rs1 rs2 offset word h =
    read-branch word h.opcode_is
    ∙ ap (λ v. branch_of v (rs1_at word) (rs2_at word) (b_immediate word)) h.funct3_is
    ∙ ap (λ v. branch_of funct3 v (rs2_at word) (b_immediate word)) (same_register _ rs1 h.rs1_is)
    ∙ ap (λ v. branch_of funct3 rs1 v (b_immediate word)) (same_register _ rs2 h.rs2_is)
    ∙ ap (branch_of funct3 rs1 rs2) (b_immediate-is offset word h.sign_is h.upper_is h.lower_is h.bit_11_is)

reads_r : (funct3 funct7 : ℕ) (rd rs1 rs2 : Register) (word : ℕ) → IsR 0x33 funct3 funct7 rd rs1 rs2 word → read word ≡ operation_of funct7 funct3 rd rs1 rs2
reads_r funct3 funct7 rd rs1 rs2 word h =
    read-operation word h.opcode_is
    ∙ ap (λ v. operation_of v (field word 14 12) (rd_at word) (rs1_at word) (rs2_at word)) h.funct7_is
    ∙ ap (λ v. operation_of funct7 v (rd_at word) (rs1_at word) (rs2_at word)) h.funct3_is
    ∙ ap (λ v. operation_of funct7 funct3 v (rs1_at word) (rs2_at word)) (same_register _ rd h.rd_is)
    ∙ ap (λ v. operation_of funct7 funct3 rd v (rs2_at word)) (same_register _ rs1 h.rs1_is)
    ∙ ap (operation_of funct7 funct3 rd rs1) (same_register _ rs2 h.rs2_is)

pub read_is : (i : Instr) (word : ℕ) → IsWord i word → read word ≡ Some i
unfolding branch_of load_of store_of immediate_operation_of shift_of base_operation_of multiplication_of operation_of
read_is (Lui rd imm) word h = read-lui word h.opcode_is ∙ ap Some (reads_u Lui 0x37 rd imm word h)
read_is (Auipc rd imm) word h = read-auipc word h.opcode_is ∙ ap Some (reads_u Auipc 0x17 rd imm word h)
read_is (Jal rd offset) word h = reads_j rd offset word h
read_is (Jalr rd rs1 imm) word h = reads_jalr rd rs1 imm word h
read_is (Beq rs1 rs2 offset) word h = reads_branch 0 rs1 rs2 offset word h
read_is (Bne rs1 rs2 offset) word h = reads_branch 1 rs1 rs2 offset word h
read_is (Blt rs1 rs2 offset) word h = reads_branch 4 rs1 rs2 offset word h
read_is (Bge rs1 rs2 offset) word h = reads_branch 5 rs1 rs2 offset word h
read_is (Bltu rs1 rs2 offset) word h = reads_branch 6 rs1 rs2 offset word h
read_is (Bgeu rs1 rs2 offset) word h = reads_branch 7 rs1 rs2 offset word h
read_is (Lb rd rs1 imm) word h = reads_load 0 rd rs1 imm word h
read_is (Lh rd rs1 imm) word h = reads_load 1 rd rs1 imm word h
read_is (Lw rd rs1 imm) word h = reads_load 2 rd rs1 imm word h
read_is (Lbu rd rs1 imm) word h = reads_load 4 rd rs1 imm word h
read_is (Lhu rd rs1 imm) word h = reads_load 5 rd rs1 imm word h
read_is (Sb rs1 rs2 imm) word h = reads_store 0 rs1 rs2 imm word h
read_is (Sh rs1 rs2 imm) word h = reads_store 1 rs1 rs2 imm word h
read_is (Sw rs1 rs2 imm) word h = reads_store 2 rs1 rs2 imm word h
read_is (Addi rd rs1 imm) word h = reads_immediate 0 rd rs1 imm word refl h
read_is (Slti rd rs1 imm) word h = reads_immediate 2 rd rs1 imm word refl h
read_is (Sltiu rd rs1 imm) word h = reads_immediate 3 rd rs1 imm word refl h
read_is (Xori rd rs1 imm) word h = reads_immediate 4 rd rs1 imm word refl h
read_is (Ori rd rs1 imm) word h = reads_immediate 6 rd rs1 imm word refl h
read_is (Andi rd rs1 imm) word h = reads_immediate 7 rd rs1 imm word refl h
read_is (Slli rd rs1 shamt) word h = reads_shift 1 0x00 rd rs1 shamt word refl h
read_is (Srli rd rs1 shamt) word h = reads_shift 5 0x00 rd rs1 shamt word refl h
read_is (Srai rd rs1 shamt) word h = reads_shift 5 0x20 rd rs1 shamt word refl h
read_is (Add rd rs1 rs2) word h = reads_r 0 0x00 rd rs1 rs2 word h
read_is (Sub rd rs1 rs2) word h = reads_r 0 0x20 rd rs1 rs2 word h
read_is (Sll rd rs1 rs2) word h = reads_r 1 0x00 rd rs1 rs2 word h
read_is (Slt rd rs1 rs2) word h = reads_r 2 0x00 rd rs1 rs2 word h
read_is (Sltu rd rs1 rs2) word h = reads_r 3 0x00 rd rs1 rs2 word h
read_is (Xor rd rs1 rs2) word h = reads_r 4 0x00 rd rs1 rs2 word h
read_is (Srl rd rs1 rs2) word h = reads_r 5 0x00 rd rs1 rs2 word h
read_is (Sra rd rs1 rs2) word h = reads_r 5 0x20 rd rs1 rs2 word h
read_is (Or rd rs1 rs2) word h = reads_r 6 0x00 rd rs1 rs2 word h
read_is (And rd rs1 rs2) word h = reads_r 7 0x00 rd rs1 rs2 word h
read_is Fence word h = read-fence word h.opcode_is h.funct3_is
read_is Ecall word h = ap read h ∙ read-ecall
read_is Ebreak word h = ap read h ∙ read-ebreak
read_is (Mul rd rs1 rs2) word h = reads_r 0 0x01 rd rs1 rs2 word h
read_is (Mulh rd rs1 rs2) word h = reads_r 1 0x01 rd rs1 rs2 word h
read_is (Mulhsu rd rs1 rs2) word h = reads_r 2 0x01 rd rs1 rs2 word h
read_is (Mulhu rd rs1 rs2) word h = reads_r 3 0x01 rd rs1 rs2 word h
read_is (Div rd rs1 rs2) word h = reads_r 4 0x01 rd rs1 rs2 word h
read_is (Divu rd rs1 rs2) word h = reads_r 5 0x01 rd rs1 rs2 word h
read_is (Rem rd rs1 rs2) word h = reads_r 6 0x01 rd rs1 rs2 word h
read_is (Remu rd rs1 rs2) word h = reads_r 7 0x01 rd rs1 rs2 word h

-- ---- what is read has the word

by_bool : {A : Type 0} (P : A → Type 0) (b : Bool) (x y : A) → (b ≡ true → P x) → P y → P (if b then x else y)
by_bool P true x y f g = f refl
by_bool P false x y f g = g

-- at a test of a number
at : {A : Type 0} (P : A → Type 0) (a k : ℕ) (x y : A) → (a ≡ k → P x) → P y → P (if nat_eq a k then x else y)
at P a k x y f g = by_bool P (nat_eq a k) x y (λ e. f (eqb-true a k e)) g

-- at a test of two
at_both : {A : Type 0} (P : A → Type 0) (a k b l : ℕ) (x y : A) → (a ≡ k → b ≡ l → P x) → P y → P (if nat_eq a k && nat_eq b l then x else y)
at_both P a k b l x y f g =
    by_bool P (nat_eq a k && nat_eq b l) x y
    (λ e. let both = and_parts (nat_eq a k) (nat_eq b l) e in f (eqb-true a k both.0) (eqb-true b l both.1)) g

-- the fields of a word in the types that hold them, with the function codes that it has
u_is : (opcode word : ℕ) → field word 6 0 ≡ opcode → IsU opcode (rd_at word) (u_immediate word) word
u_is opcode word e =
    record { imm_is = sym (field-upper_20 (field word 31 12) (mod-lt _ (lit< tt))); rd_is = refl; opcode_is = e }

j_is : (word : ℕ) → field word 6 0 ≡ 0x6f → IsJ 0x6f (rd_at word) (j_immediate word) word
j_is word e =
    let a = field word 31 31 in
    let b = field word 19 12 in
    let c = field word 20 20 in
    let d = field word 30 21 in
    let below : a * 2 ^ 19 + b * 2 ^ 11 + c * 2 ^ 10 + d < 2 ^ 20 = omega arith in
    let pieces = from_pieces_j (j_immediate word).word a b c d (mod-lt _ (lit< tt)) (mod-lt _ (lit< tt)) (mod-lt _ (lit< tt)) (mod-lt _ (lit< tt)) (field-extended_21 _ below) in
    record { sign_is = pieces.0; lower_is = pieces.3; bit_11_is = pieces.2; upper_is = pieces.1; rd_is = refl; opcode_is = e }

i_is : (opcode funct3 word : ℕ) → field word 6 0 ≡ opcode → field word 14 12 ≡ funct3 → IsI opcode funct3 (rd_at word) (rs1_at word) (i_immediate word) word
i_is opcode funct3 word e f =
    record { imm_is = sym (field-extended_12 (field word 31 20) (mod-lt _ (lit< tt))); rs1_is = refl; funct3_is = f; rd_is = refl; opcode_is = e }

shift_is : (opcode funct3 funct7 word : ℕ) → field word 6 0 ≡ opcode → field word 14 12 ≡ funct3 → field word 31 25 ≡ funct7 → IsShift opcode funct3 funct7 (rd_at word) (rs1_at word) (shamt_at word) word
shift_is opcode funct3 funct7 word e f g =
    record { funct7_is = g; shamt_is = refl; rs1_is = refl; funct3_is = f; rd_is = refl; opcode_is = e }

s_is : (opcode funct3 word : ℕ) → field word 6 0 ≡ opcode → field word 14 12 ≡ funct3 → IsS opcode funct3 (rs1_at word) (rs2_at word) (s_immediate word) word
s_is opcode funct3 word e f =
    let a = field word 31 25 in
    let b = field word 11 7 in
    let below : a * 2 ^ 5 + b < 2 ^ 12 = omega arith in
    let pieces = from_pieces_s (s_immediate word).word a b (mod-lt _ (lit< tt)) (mod-lt _ (lit< tt)) (field-extended_12 _ below) in
    record { upper_is = pieces.0; rs2_is = refl; rs1_is = refl; funct3_is = f; lower_is = pieces.1; opcode_is = e }

b_is : (opcode funct3 word : ℕ) → field word 6 0 ≡ opcode → field word 14 12 ≡ funct3 → IsB opcode funct3 (rs1_at word) (rs2_at word) (b_immediate word) word
b_is opcode funct3 word e f =
    let a = field word 31 31 in
    let b = field word 7 7 in
    let c = field word 30 25 in
    let d = field word 11 8 in
    let below : a * 2 ^ 11 + b * 2 ^ 10 + c * 2 ^ 4 + d < 2 ^ 12 = omega arith in
    let pieces = from_pieces_b (b_immediate word).word a b c d (mod-lt _ (lit< tt)) (mod-lt _ (lit< tt)) (mod-lt _ (lit< tt)) (mod-lt _ (lit< tt)) (field-extended_13 _ below) in
    record { sign_is = pieces.0; upper_is = pieces.2; rs2_is = refl; rs1_is = refl; funct3_is = f; lower_is = pieces.3; bit_11_is = pieces.1; opcode_is = e }

r_is : (opcode funct3 funct7 word : ℕ) → field word 6 0 ≡ opcode → field word 14 12 ≡ funct3 → field word 31 25 ≡ funct7 → IsR opcode funct3 funct7 (rd_at word) (rs1_at word) (rs2_at word) word
r_is opcode funct3 funct7 word e f g =
    record { funct7_is = g; rs2_is = refl; rs1_is = refl; funct3_is = f; rd_is = refl; opcode_is = e }

ordering_is : (opcode funct3 word : ℕ) → field word 6 0 ≡ opcode → field word 14 12 ≡ funct3 → IsOrdering opcode funct3 word
ordering_is opcode funct3 word e f = record { funct3_is = f; opcode_is = e }

-- what is read, if anything, has the word
abbrev IsRead : ℕ → Option Instr → Type 0
IsRead word o = IfSome o (λ i. IsWord i word)

branch_read : (word : ℕ) → field word 6 0 ≡ 0x63 → IsRead word (branch_of (field word 14 12) (rs1_at word) (rs2_at word) (b_immediate word))
unfolding branch_of
branch_read word e =
    at (IsRead word) _ 0 _ _ (b_is 0x63 0 word e)
    (at (IsRead word) _ 1 _ _ (b_is 0x63 1 word e)
    (at (IsRead word) _ 4 _ _ (b_is 0x63 4 word e)
    (at (IsRead word) _ 5 _ _ (b_is 0x63 5 word e)
    (at (IsRead word) _ 6 _ _ (b_is 0x63 6 word e)
    (at (IsRead word) _ 7 _ _ (b_is 0x63 7 word e) tt)))))

load_read : (word : ℕ) → field word 6 0 ≡ 0x03 → IsRead word (load_of (field word 14 12) (rd_at word) (rs1_at word) (i_immediate word))
unfolding load_of
load_read word e =
    at (IsRead word) _ 0 _ _ (i_is 0x03 0 word e)
    (at (IsRead word) _ 1 _ _ (i_is 0x03 1 word e)
    (at (IsRead word) _ 2 _ _ (i_is 0x03 2 word e)
    (at (IsRead word) _ 4 _ _ (i_is 0x03 4 word e)
    (at (IsRead word) _ 5 _ _ (i_is 0x03 5 word e) tt))))

store_read : (word : ℕ) → field word 6 0 ≡ 0x23 → IsRead word (store_of (field word 14 12) (rs1_at word) (rs2_at word) (s_immediate word))
unfolding store_of
store_read word e =
    at (IsRead word) _ 0 _ _ (s_is 0x23 0 word e)
    (at (IsRead word) _ 1 _ _ (s_is 0x23 1 word e)
    (at (IsRead word) _ 2 _ _ (s_is 0x23 2 word e) tt))

immediate_operation_read : (word : ℕ) → field word 6 0 ≡ 0x13 → IsRead word (immediate_operation_of (field word 14 12) (rd_at word) (rs1_at word) (i_immediate word))
unfolding immediate_operation_of
immediate_operation_read word e =
    at (IsRead word) _ 0 _ _ (i_is 0x13 0 word e)
    (at (IsRead word) _ 2 _ _ (i_is 0x13 2 word e)
    (at (IsRead word) _ 3 _ _ (i_is 0x13 3 word e)
    (at (IsRead word) _ 4 _ _ (i_is 0x13 4 word e)
    (at (IsRead word) _ 6 _ _ (i_is 0x13 6 word e)
    (at (IsRead word) _ 7 _ _ (i_is 0x13 7 word e) tt)))))

shift_read : (word : ℕ) → field word 6 0 ≡ 0x13 → IsRead word (shift_of (field word 31 25) (field word 14 12) (rd_at word) (rs1_at word) (shamt_at word))
unfolding shift_of
shift_read word e =
    at_both (IsRead word) _ 0x00 _ 1 _ _ (λ g f. shift_is 0x13 1 0x00 word e f g)
    (at_both (IsRead word) _ 0x00 _ 5 _ _ (λ g f. shift_is 0x13 5 0x00 word e f g)
    (at_both (IsRead word) _ 0x20 _ 5 _ _ (λ g f. shift_is 0x13 5 0x20 word e f g) tt))

base_operation_read : (word : ℕ) → field word 6 0 ≡ 0x33 → field word 31 25 ≡ 0x00 → IsRead word (base_operation_of (field word 14 12) (rd_at word) (rs1_at word) (rs2_at word))
unfolding base_operation_of
base_operation_read word e g =
    at (IsRead word) _ 0 _ _ (λ f. r_is 0x33 0 0x00 word e f g)
    (at (IsRead word) _ 1 _ _ (λ f. r_is 0x33 1 0x00 word e f g)
    (at (IsRead word) _ 2 _ _ (λ f. r_is 0x33 2 0x00 word e f g)
    (at (IsRead word) _ 3 _ _ (λ f. r_is 0x33 3 0x00 word e f g)
    (at (IsRead word) _ 4 _ _ (λ f. r_is 0x33 4 0x00 word e f g)
    (at (IsRead word) _ 5 _ _ (λ f. r_is 0x33 5 0x00 word e f g)
    (at (IsRead word) _ 6 _ _ (λ f. r_is 0x33 6 0x00 word e f g)
    (at (IsRead word) _ 7 _ _ (λ f. r_is 0x33 7 0x00 word e f g) tt)))))))

multiplication_read : (word : ℕ) → field word 6 0 ≡ 0x33 → field word 31 25 ≡ 0x01 → IsRead word (multiplication_of (field word 14 12) (rd_at word) (rs1_at word) (rs2_at word))
unfolding multiplication_of
multiplication_read word e g =
    at (IsRead word) _ 0 _ _ (λ f. r_is 0x33 0 0x01 word e f g)
    (at (IsRead word) _ 1 _ _ (λ f. r_is 0x33 1 0x01 word e f g)
    (at (IsRead word) _ 2 _ _ (λ f. r_is 0x33 2 0x01 word e f g)
    (at (IsRead word) _ 3 _ _ (λ f. r_is 0x33 3 0x01 word e f g)
    (at (IsRead word) _ 4 _ _ (λ f. r_is 0x33 4 0x01 word e f g)
    (at (IsRead word) _ 5 _ _ (λ f. r_is 0x33 5 0x01 word e f g)
    (at (IsRead word) _ 6 _ _ (λ f. r_is 0x33 6 0x01 word e f g)
    (at (IsRead word) _ 7 _ _ (λ f. r_is 0x33 7 0x01 word e f g) tt)))))))

operation_read : (word : ℕ) → field word 6 0 ≡ 0x33 → IsRead word (operation_of (field word 31 25) (field word 14 12) (rd_at word) (rs1_at word) (rs2_at word))
unfolding operation_of
operation_read word e =
    at (IsRead word) _ 0x00 _ _ (base_operation_read word e)
    (at (IsRead word) _ 0x01 _ _ (multiplication_read word e)
    (at_both (IsRead word) _ 0x20 _ 0 _ _ (λ g f. r_is 0x33 0 0x20 word e f g)
    (at_both (IsRead word) _ 0x20 _ 5 _ _ (λ g f. r_is 0x33 5 0x20 word e f g) tt)))

abbrev system_of : ℕ → Option Instr
system_of word = if nat_eq word 0x00000073 then Some Ecall else if nat_eq word 0x00100073 then Some Ebreak else None

system_read : (word : ℕ) → IsRead word (system_of word)
system_read word =
    at (IsRead word) word 0x00000073 (Some Ecall) _ (λ e. e) (at (IsRead word) word 0x00100073 (Some Ebreak) None (λ e. e) tt)

pub read_has_word : (word : ℕ) → IfSome (read word) (λ i. IsWord i word)
unfolding read
read_has_word word =
    at (IsRead word) _ 0x37 _ _ (u_is 0x37 word)
    (at (IsRead word) _ 0x17 _ _ (u_is 0x17 word)
    (at (IsRead word) _ 0x6f _ _ (j_is word)
    (at (IsRead word) _ 0x67 _ _ (λ e. at (IsRead word) _ 0 _ _ (i_is 0x67 0 word e) tt)
    (at (IsRead word) _ 0x63 _ _ (branch_read word)
    (at (IsRead word) _ 0x03 _ _ (load_read word)
    (at (IsRead word) _ 0x23 _ _ (store_read word)
    (at (IsRead word) _ 0x13 _ _ (λ e. by_bool (IsRead word) _ _ _ (λ _. shift_read word e) (immediate_operation_read word e))
    (at (IsRead word) _ 0x33 _ _ (operation_read word)
    (at (IsRead word) _ 0x0f _ _ (λ e. at (IsRead word) _ 0 _ _ (ordering_is 0x0f 0 word e) tt)
    (at (IsRead word) (field word 6 0) 0x73 (system_of word) None (λ _. system_read word) tt))))))))))

-- the table and `read` say the same
pub read-IsWord : (i : Instr) (word : ℕ) → (read word ≡ Some i) ↔ IsWord i word
read-IsWord i word = (
  (λ e. let P : Option Instr → Type 0 = λ o. IfSome o (λ j. IsWord j word) in subst P e (read_has_word word)),
  read_is i word,
)

-- nothing is read exactly where the table has nothing
nothing_there : (word : ℕ) → IsNone (read word) → (i : Instr) → ¬ IsWord i word
nothing_there word none i h = let e = read_is i word h in cc

nothing_read : (word : ℕ) (o : Option Instr) → read word ≡ o → ((i : Instr) → ¬ IsWord i word) → IsNone o
nothing_read word None e h = refl
nothing_read word (Some i) e h =
    let P : Option Instr → Type 0 = λ o. IfSome o (λ j. IsWord j word) in absurd (h i (subst P e (read_has_word word)))

pub read-None : (word : ℕ) → IsNone (read word) ↔ ((i : Instr) → ¬ IsWord i word)
read-None word = (nothing_there word, nothing_read word (read word) refl)
