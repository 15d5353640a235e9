-- The words of arguments: in which registers they stand, and what operations and conditions make of them.
use Rattle.std.proofs.Common.{◌≡◌, ◌≢◌, ◌<◌, ◌⊎◌, inl, inr, ℕ, suc, ◌+◌, ◌*◌, ◌%◌, ◌^◌, List, [], ◌∷◌, Option, Some, None, true, false, map, option_map, refl, sym, ◌∙◌, subst, arith, lit<}
use Rattle.std.proofs.lemmas.Bool.{eqb-true, and_parts}
use Rattle.rv_isa.specs.declared.register.Register.{Register}
use Rattle.rv_isa.specs.declared.instr.Instr.{Instr}
use Rattle.rv_isa.specs.declared.asm.Action.{Action}
use Rattle.rv_isa.specs.declared.asm.Condition.{Condition}
use Rattle.rv_isa.specs.declared.asm.Operation.{Operation}
use Rattle.rv_isa.specs.declared.asm.Operation.TheVariants as OfOperation
use Rattle.rv_isa.specs.declared.placed.Place.{Place}
use Rattle.rv_isa.specs.declared.placed.Place.TheVariants.{Register as register, Slot as slot}
use Rattle.rv_isa.specs.declared.placed.Operand.{Operand}
use Rattle.rv_isa.specs.Arithmetic.{sum_word}
use Rattle.rv_isa.specs.Conventions.{argument, is_handed_out, is_in, is_register, takes_at, take_from}
use Rattle.rv_isa.specs.Frames.{all_of}
use Rattle.rv_isa.specs.PlacedMachine.{read_at, passed}
use Rattle.rv_isa.specs.Processor.{Processor, value}
use Rattle.rv_isa.specs.Standing.{Code, Stands}
use Rattle.cell_runtime.specs.Operations.{Constants, register_word, immediate_word, shift_word, holds, computed}
use Rattle.rv_place.specs.Registers.{zero_register}
use Rattle.rv_place.specs.Instructions.{form_of, words_of_form, SetsBy, words_of_operation, LoadsWord, words_of_branch, Computes}
use Rattle.rv_place.specs.declared.reach.Forms.{Forms}
use Rattle.rv_place.specs.declared.reach.WordForm.{WordForm}
use Rattle.rv_place.specs.declared.reach.WordForm.TheVariants.{Short, Upper, Both}
use Rattle.rv_place.specs.Lines.{registers_of, BranchesTo}
use Rattle.rv_place.specs.ProcessorStates.{Agrees}
use Rattle.rv_place.proofs.InstructionExecution.{Gets, Goes, addi_row, lui_row, register_row, immediate_row, shift_row, plain_fits, plain_gets}
use Rattle.rv_place.proofs.FrameMemory.{known_put}
use Rattle.rv_place.proofs.InstructionRows.{Branched, word_gets, branch_taken, branch_passed}

-- the words that registers hold
abbrev pub words_in : (ℕ → ℕ) → List Register → List ℕ
words_in registers rs = map (λ (r : Register). value registers r.number) rs

-- and they are words of 32 bits
abbrev pub AllFit : (ℕ → ℕ) → List Register → Type 0
AllFit registers [] = Unit {0}
AllFit registers (r ∷ rs) = (value registers r.number < 2 ^ 32) × AllFit registers rs

-- and values may have the registers
abbrev pub AllHanded : List Register → Type 0
AllHanded [] = Unit {0}
AllHanded (r ∷ rs) = (is_handed_out r.number ≡ true) × AllHanded rs

-- ---- arguments in registers

pub some_cons : (first : Option ℕ) (rest : List (Option ℕ)) (words : List ℕ) → all_of (first ∷ rest) ≡ Some words → (word : ℕ) × (more : List ℕ) × (first ≡ Some word) × (all_of rest ≡ Some more) × (words ≡ word ∷ more)
some_cons None rest words is = cc
some_cons (Some word) rest words is = mapped (all_of rest) refl is
  where
    mapped : (o : Option (List ℕ)) → all_of rest ≡ o → option_map (λ more. word ∷ more) o ≡ Some words → (w : ℕ) × (more : List ℕ) × (Some word ≡ Some w) × (all_of rest ≡ Some more) × (words ≡ w ∷ more)
    mapped None rest_is is = cc
    mapped (Some more) rest_is is = (word, more, refl, rest_is, cc)

-- arguments that stand in registers, which hold these words
pub record InRegisters (args : List Operand) (registers : ℕ → ℕ) (words : List ℕ) : Type 0 where
  pub rs : List Register
  pub rs_are : registers_of args ≡ Some rs
  pub words_are : words ≡ words_in registers rs
  pub fit : AllFit registers rs
  pub handed : AllHanded rs

module _ (known cells : ℕ → Option ℕ) (registers : ℕ → ℕ) (agrees : Agrees known registers) where
  abbrev read : Operand → Option ℕ
  read arg = read_at known cells arg.place

  one_more : (value_of : ℕ) (place : Place) (args : List Operand) (word : ℕ) (more : List ℕ) → is_register place ≡ true → read_at known cells place ≡ Some word → InRegisters args registers more
      → InRegisters (record { value = value_of; place = place } ∷ args) registers (word ∷ more)
  one_more value_of (slot k) args word more is_one is rest = cc
  one_more value_of (register r) args word more is_one is rest =
      let holds = agrees r.number word is in
      let rs_are = rest.rs_are in
      let words_are = rest.words_are in
      record {
        rs = r ∷ rest.rs;
        rs_are = rw rs_are refl;
        words_are = rw (words_are, holds.1) refl;
        fit = (rw holds.1 holds.2, rest.fit);
        handed = (holds.0, rest.handed);
      }

  pub in_registers : (action : Action) (n : ℕ) (args : List Operand) (words : List ℕ) → ((k : ℕ) (place : Place) → takes_at action k place ≡ true → is_register place ≡ true) → take_from action n args ≡ true
      → all_of (map read args) ≡ Some words → InRegisters args registers words
  in_registers action n [] words takes taken is = record { rs = []; rs_are = refl; words_are = cc; fit = tt; handed = tt }
  in_registers action n (arg ∷ args) words takes taken is =
      let both = and_parts (takes_at action n arg.place) (take_from action (suc n) args) taken in
      let parts = some_cons (read arg) (map read args) words is in
      let rest = in_registers action (suc n) args parts.1 takes both.1 parts.3 in
      subst (λ ws. InRegisters (arg ∷ args) registers ws) (sym parts.4) (one_more arg.value arg.place args parts.0 parts.1 (takes n arg.place both.0) parts.2 rest)

  -- ---- arguments that are passed

  in_place : (n word : ℕ) (place : Place) → is_in (argument n) place ≡ true → read_at known cells place ≡ Some word → known (argument n) ≡ Some word
  in_place n word (register r) is_one is = let same = eqb-true r.number (argument n) is_one in subst (λ x. known x ≡ Some word) same is
  in_place n word (slot k) is_one is = cc

  passed_by : (n first : ℕ) (more : List ℕ) (place : Place) (x word : ℕ) → is_in (argument n) place ≡ true → read_at known cells place ≡ Some first → (passed (suc n) more x ≡ Some word → known x ≡ Some word)
      → ((x ≡ argument n) × (Some first ≡ Some word)) ⊎ ((x ≢ argument n) × (passed (suc n) more x ≡ Some word)) → known x ≡ Some word
  passed_by n first more place x word is_one is later (inl here) =
      subst (λ y. known y ≡ Some word) (sym here.0) (in_place n first place is_one is ∙ here.1)
  passed_by n first more place x word is_one is later (inr there) = later there.1

  -- what is passed stood in the registers in which it is passed
  pub passed_known : (action : Action) (n : ℕ) (args : List Operand) (words : List ℕ) → ((k : ℕ) (place : Place) → takes_at action k place ≡ true → is_in (argument k) place ≡ true) → take_from action n args ≡ true
      → all_of (map read args) ≡ Some words → (x word : ℕ) → passed n words x ≡ Some word → known x ≡ Some word
  passed_known action n [] words takes taken is x word passed_is =
      let none : words ≡ [] = cc in let nothing : passed n [] x ≡ Some word = subst (λ ws. passed n ws x ≡ Some word) none passed_is in cc
  passed_known action n (arg ∷ args) words takes taken is x word passed_is =
      let both = and_parts (takes_at action n arg.place) (take_from action (suc n) args) taken in
      let parts = some_cons (read arg) (map read args) words is in
      passed_by n parts.0 parts.1 arg.place x word (takes n arg.place both.0) parts.2 (passed_known action (suc n) args parts.1 takes both.1 parts.3 x word)
      (known_put (argument n) (Some parts.0) (passed (suc n) parts.1) x word (subst (λ ws. passed n ws x ≡ Some word) parts.4 passed_is))

-- ---- operations

module _ (cells : ℕ) {code : Code} (below : (at : ℕ) (i : Instr) → code at ≡ Some i → at + 4 < 2 ^ 32) {s : Processor} (stands : Stands code s) (constants : Constants) (at : ℕ) (pc_is : s.pc ≡ at) (rd : Register) where
  -- an operation comes to its word, in so many instructions
  pub record Computed (operation : Operation) (word : ℕ) : Type 0 where
    pub gets : Gets cells code (words_of_operation operation) (rd.number ∷ []) rd.number word (at + 4 * words_of_operation operation) s
    pub fits : word < 2 ^ 32
    pub next_fits : at + 4 * words_of_operation operation < 2 ^ 32

  loads_fit : (word : ℕ) → LoadsWord code at rd word → word < 2 ^ 32
  loads_fit word (upper, lower, sum, has) = omega arith

  loads_next : (word : ℕ) → LoadsWord code at rd word → at + 8 < 2 ^ 32
  loads_next word (upper, lower, sum, has) = let last = below (at + 4) _ has.1.0 in omega arith

  -- a constant comes to its register, in each form
  sets : (form : WordForm) (word : ℕ) → SetsBy form code at rd word
      → Gets cells code (words_of_form form) (rd.number ∷ []) rd.number word (at + 4 * words_of_form form) s × (word < 2 ^ 32) × (at + 4 * words_of_form form < 2 ^ 32)
  sets Short word (imm, is, here) =
      let range = imm.in_range.0 in
      let sum : sum_word 0 imm.word ≡ word = omega (arith, is) in
      (subst (λ w. Gets cells code 1 (rd.number ∷ []) rd.number w (at + 4) s) sum (plain_gets cells below stands pc_is (addi_row rd zero_register imm) here), omega (arith, is), below at _ here)
  sets Upper word (upper, is, here) =
      let range = upper.in_range.0 in
      (subst (λ w. Gets cells code 1 (rd.number ∷ []) rd.number w (at + 4) s) is (plain_gets cells below stands pc_is (lui_row rd upper) here), omega (arith, is), below at _ here)
  sets Both word loads = (word_gets cells below stands at pc_is rd word loads, loads_fit word loads, loads_next word loads)

  pub computes : (operation : Operation) (rs : List Register) (word : ℕ) → AllFit s.registers rs → computed constants operation (words_in s.registers rs) ≡ Some word
      → Computes constants code at operation rs rd → Computed operation word
  computes (OfOperation.Register operation) [] word fit is here = cc
  computes (OfOperation.Register operation) (a ∷ []) word fit is here = cc
  computes (OfOperation.Register operation) (a ∷ b ∷ []) word fit is here =
      let same : register_word operation (value s.registers a.number) (value s.registers b.number) ≡ word = cc in
      subst (λ w. Computed (OfOperation.Register operation) w) same (record {
        gets = plain_gets cells below stands pc_is (register_row operation rd a b) here;
        fits = plain_fits (register_row operation rd a b) (value s.registers a.number) (value s.registers b.number) fit.0 fit.1.0;
        next_fits = below at _ here;
      })
  computes (OfOperation.Register operation) (a ∷ b ∷ c ∷ rs) word fit is here = cc
  computes (OfOperation.Immediate operation imm) [] word fit is here = cc
  computes (OfOperation.Immediate operation imm) (a ∷ []) word fit is here =
      let same : immediate_word operation (value s.registers a.number) imm.word ≡ word = cc in
      subst (λ w. Computed (OfOperation.Immediate operation imm) w) same (record {
        gets = plain_gets cells below stands pc_is (immediate_row operation rd a imm) here;
        fits = plain_fits (immediate_row operation rd a imm) (value s.registers a.number) 0 fit.0 (lit< tt);
        next_fits = below at _ here;
      })
  computes (OfOperation.Immediate operation imm) (a ∷ b ∷ rs) word fit is here = cc
  computes (OfOperation.Shift operation amount) [] word fit is here = cc
  computes (OfOperation.Shift operation amount) (a ∷ []) word fit is here =
      let same : shift_word operation (value s.registers a.number) amount.places ≡ word = cc in
      subst (λ w. Computed (OfOperation.Shift operation amount) w) same (record {
        gets = plain_gets cells below stands pc_is (shift_row operation rd a amount) here;
        fits = plain_fits (shift_row operation rd a amount) (value s.registers a.number) 0 fit.0 (lit< tt);
        next_fits = below at _ here;
      })
  computes (OfOperation.Shift operation amount) (a ∷ b ∷ rs) word fit is here = cc
  computes (OfOperation.Li constant) [] word fit is here =
      let same : constant ≡ word = cc in
      subst (λ w. Computed (OfOperation.Li constant) w) same (let set = sets (form_of constant) constant here in record { gets = set.0; fits = set.1; next_fits = set.2 })
  computes (OfOperation.Li constant) (a ∷ rs) word fit is here = cc
  computes OfOperation.Mv [] word fit is here = cc
  computes OfOperation.Mv (a ∷ []) word fit is (imm, none, here) =
      let same : value s.registers a.number ≡ word = cc in
      let plain = plain_gets cells below stands pc_is (addi_row rd a imm) here in
      let sum : sum_word (value s.registers a.number) imm.word ≡ value s.registers a.number = rw none (let fits = fit.0 in omega arith) in
      subst (λ w. Computed OfOperation.Mv w) (sum ∙ same) (record { gets = plain; fits = rw sum fit.0; next_fits = below at _ here })
  computes OfOperation.Mv (a ∷ b ∷ rs) word fit is here = cc
  computes (OfOperation.La index) [] word fit is here =
      let loads = here word is in record { gets = word_gets cells below stands at pc_is rd word loads; fits = loads_fit word loads; next_fits = loads_next word loads }
  computes (OfOperation.La index) (a ∷ rs) word fit is here = cc
  computes (OfOperation.Lw imm) rs word fit is here = cc
  computes (OfOperation.Sw imm) rs word fit is here = cc
  computes OfOperation.Dup rs word fit is here = cc
  computes OfOperation.Free rs word fit is here = cc

-- ---- conditions

module _ (cells : ℕ) {code : Code} (below : (at : ℕ) (i : Instr) → code at ≡ Some i → at + 4 < 2 ^ 32) {s : Processor} (stands : Stands code s) (at : ℕ) (pc_is : s.pc ≡ at) (forms : Forms) (condition : Condition) (target : ℕ) where
  pub branches_taken : (rs : List Register) → target % 4 ≡ 0 → holds condition (words_in s.registers rs) ≡ Some true → BranchesTo forms code at condition rs target
      → Branched cells code forms.jumps (words_of_branch forms.jumps forms.branches) target s
  branches_taken [] word is here = cc
  branches_taken (a ∷ []) word is here = branch_taken cells below stands at pc_is condition a zero_register target forms.jumps forms.branches here word cc
  branches_taken (a ∷ b ∷ []) word is here = branch_taken cells below stands at pc_is condition a b target forms.jumps forms.branches here word cc
  branches_taken (a ∷ b ∷ c ∷ rs) word is here = cc

  pub branches_passed : (rs : List Register) → holds condition (words_in s.registers rs) ≡ Some false → BranchesTo forms code at condition rs target
      → Goes cells code 1 [] s.memory (at + 4 * words_of_branch forms.jumps forms.branches) s
  branches_passed [] is here = cc
  branches_passed (a ∷ []) is here = branch_passed cells below stands at pc_is condition a zero_register target forms.jumps forms.branches here cc
  branches_passed (a ∷ b ∷ []) is here = branch_passed cells below stands at pc_is condition a b target forms.jumps forms.branches here cc
  branches_passed (a ∷ b ∷ c ∷ rs) is here = cc
