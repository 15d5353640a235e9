-- The start, executed.
use Rattle.std.proofs.Common.{◌≡◌, ◌≢◌, ℕ, ◌+◌, ◌%◌, ◌^◌, ◌<◌, List, [], ◌∷◌, true, false, Bool, ◌&&◌, if◌then◌else◌, nat_eq, nat_le, nat_lt, refl, sym, ap, ◌∙◌, subst, lit<, arith, ◌*◌, ◌-◌}
use Rattle.std.proofs.lemmas.Bool.Decides.{nat_tests}
use Rattle.rv_isa.specs.declared.immediate.Immediate.{Immediate}
use Rattle.rv_isa.specs.declared.immediate.UpperImmediate.{UpperImmediate}
use Rattle.rv_isa.specs.declared.immediate.JumpOffset.{JumpOffset}
use Rattle.rv_isa.specs.declared.register.Register.{Register}
use Rattle.rv_isa.specs.declared.instr.Instr.{Instr}
use Rattle.rv_isa.specs.declared.instr.Instr.TheVariants.{Lui, Addi, Jal}
use Rattle.rv_isa.specs.Arithmetic.{sum_word}
use Rattle.rv_isa.specs.Processor.{Processor, value, put}
use Rattle.rv_isa.specs.Standing.{Code, Has, Stands}
use Rattle.rv_isa.proofs.Standing.{next-is}
use Rattle.rv_isa.proofs.Instructions.{leads-lui, leads-addi, leads-jal}
use Rattle.cell_heap.specs.Cells.{Cell, no_cell, free, waiting}
use Rattle.cell_heap.specs.Pool.{Pool, end_of, IsCell, IsUsable}
use Rattle.cell_heap.specs.View.{HasBorder}
use Rattle.cell_heap.specs.Memory.{Shows, Memory}
use Rattle.cell_runtime.specs.declared.layout.Layout.{Layout}
use Rattle.rv_isa.specs.declared.placed.Native.{Native}
use Rattle.rv_isa.specs.declared.placed.Native.TheVariants.{Address}
use Rattle.rv_isa.specs.declared.placed.Section.TheVariants.{Data}
use Rattle.rv_isa.specs.declared.placed.Symbol.TheVariants.{Start}
use Rattle.cell_runtime.specs.Registers.{KeptBy}
use Rattle.cell_runtime.specs.Lines.{Spells, Makes}
use Rattle.cell_runtime.specs.Starts.{all_free, first_view, AfterStart, IsStartOf}
use Rattle.rv_isa.proofs.Registers.{x0, x1, x2, x3, x8, x9, x18, x19}
use Rattle.rv_isa.specs.Conventions.{list_header}
use Rattle.rv_isa.specs.Numbers.{cell_size}
use Rattle.cell_runtime.proofs.Operands.{imm_0, imm_1, imm_list_header}
use Rattle.cell_runtime.proofs.Spelling.{plain, plain_is}
use Rattle.cell_runtime.proofs.RoutineCalls.{then_one}
use Rattle.cell_runtime.specs.Sizes.{runtime_words}

-- ---- the cells

by-place : (P : Cell → Type 0) (pool : Pool) (at : ℕ) (low below whole : Bool) → nat_le pool.first at ≡ low → nat_lt at (end_of pool) ≡ below → nat_eq (at % cell_size) 0 ≡ whole
    → (IsCell pool at → P free) → ((IsCell pool at → ⊥) → P no_cell) → P (if low && below && whole then free else no_cell)
by-place P pool at true true true a b c is not = is record { behind = grind (arith, nat_tests); before = grind (arith, nat_tests); aligned = grind (arith, nat_tests) }
by-place P pool at false below whole a b c is not = not (λ cell. let behind = cell.behind in absurd (grind (arith, nat_tests)))
by-place P pool at true false whole a b c is not = not (λ cell. let before = cell.before in absurd (grind (arith, nat_tests)))
by-place P pool at true true false a b c is not = not (λ cell. let aligned = cell.aligned in absurd (grind (arith, nat_tests)))

-- an address is that of a free cell, or no cell's
free-by : (P : Cell → Type 0) (pool : Pool) (at : ℕ) → (IsCell pool at → P free) → ((IsCell pool at → ⊥) → P no_cell) → P (all_free pool at)
free-by P pool at is not = by-place P pool at (nat_le pool.first at) (nat_lt at (end_of pool)) (nat_eq (at % cell_size) 0) refl refl refl is not

all_free-is : (pool : Pool) (at : ℕ) → IsCell pool at → all_free pool at ≡ free
all_free-is pool at cell = free-by (λ c. c ≡ free) pool at (λ is. refl) (λ not. absurd (not cell))

all_free-cell : (pool : Pool) (at : ℕ) → all_free pool at ≡ free → IsCell pool at
all_free-cell pool at = free-by (λ c. c ≡ free → IsCell pool at) pool at (λ is e. is) (λ not e. cc)

first_border : (pool : Pool) → pool.first % cell_size ≡ 0 → HasBorder pool (first_view pool)
first_border pool aligned = record {
  aligned = aligned;
  behind = omega arith;
  within = omega arith;
  fresh = λ at cell high. all_free-is pool at cell;
  chained = λ at is.
      let behind = (all_free-cell pool at is).behind in
      (λ some. absurd (some refl), λ low listed. absurd (omega arith));
}

first_memory : (pool : Pool) (t : Processor) → IsUsable pool t.parts → value t.registers 8 ≡ 0 → value t.registers 9 ≡ 0 → value t.registers 18 ≡ pool.first → value t.registers 19 ≡ end_of pool → Memory pool (first_view pool) t
first_memory pool t usable chain held border end = record {
  usable = usable;
  shown = record { cell = λ at. free-by (Shows pool t.memory at) pool at (λ is. is) (λ not. not) };
  settled = λ at body. free-by (λ c. c ≢ waiting body) pool at (λ is e. cc) (λ not e. cc);
  chain = chain;
  held = held;
  border = border;
  end = end;
  has_border = first_border pool usable.aligned;
}

-- ---- the code

abbrev x20 : Register
x20 = record { number = 20; in_range = lit< tt }

abbrev pub to_main : JumpOffset
to_main = record { word = 4 * (runtime_words - 10); in_range = (lit< tt, lit< tt, refl) }

abbrev pub start_code : List Instr
start_code = Addi x8 x0 imm_0 ∷ Addi x9 x0 imm_0 ∷ Addi x3 x0 imm_1 ∷ Addi x20 x0 imm_list_header ∷ Jal x1 to_main ∷ []

abbrev pub start_items : Layout → List Native
start_items layout = Address x2 Data layout.stack_end ∷ Address x18 Data layout.cells ∷ Address x19 Data layout.cells_end ∷ plain start_code

module _ (code : Code) (s : Processor) (stands : Stands code s) (a b c : UpperImmediate) (d e f : Immediate)
    (has : Has code s.pc (Lui x2 a ∷ Addi x2 x2 d ∷ Lui x18 b ∷ Addi x18 x18 e ∷ Lui x19 c ∷ Addi x19 x19 f ∷ start_code)) where
  starts : (pool : Pool) (stack_end : ℕ) → sum_word a.word d.word ≡ stack_end → sum_word b.word e.word ≡ pool.first → sum_word c.word f.word ≡ end_of pool
      → IsUsable pool s.parts → s.pc + 4 * runtime_words < 2 ^ 32 → (t : Processor) × AfterStart code pool stack_end (s.pc + 4 * runtime_words) s.pc s t
  starts pool stack_end stack first end usable below =
      let main_aligned = whole-words s.pc (stands.aligned s.pc _ has.0) in
      let to : sum_word (s.pc + 4 + 4 + 4 + 4 + 4 + 4 + 4 + 4 + 4 + 4) (4 * (runtime_words - 10)) ≡ s.pc + 4 * runtime_words = omega arith in
      let back : sum_word (s.pc + 4 + 4 + 4 + 4 + 4 + 4 + 4 + 4 + 4 + 4) 4 ≡ s.pc + 44 = omega arith in
      let l = leads-lui stands {v = a.word} has.0 refl (next-is stands s.pc _ has.1.0) in
      let m = then_one stands l (λ on. leads-addi on {v = stack_end} has.1.0 stack (next-is stands (s.pc + 4) _ has.1.1.0)) in
      let n = then_one stands m (λ on. leads-lui on {v = b.word} has.1.1.0 refl (next-is stands (s.pc + 4 + 4) _ has.1.1.1.0)) in
      let o = then_one stands n (λ on. leads-addi on {v = pool.first} has.1.1.1.0 first (next-is stands (s.pc + 4 + 4 + 4) _ has.1.1.1.1.0)) in
      let p = then_one stands o (λ on. leads-lui on {v = c.word} has.1.1.1.1.0 refl (next-is stands (s.pc + 4 + 4 + 4 + 4) _ has.1.1.1.1.1.0)) in
      let q = then_one stands p (λ on. leads-addi on {v = end_of pool} has.1.1.1.1.1.0 end (next-is stands (s.pc + 4 + 4 + 4 + 4 + 4) _ has.1.1.1.1.1.1.0)) in
      let r = then_one stands q (λ on. leads-addi on {v = 0} has.1.1.1.1.1.1.0 refl (next-is stands (s.pc + 4 + 4 + 4 + 4 + 4 + 4) _ has.1.1.1.1.1.1.1.0)) in
      let u = then_one stands r (λ on. leads-addi on {v = 0} has.1.1.1.1.1.1.1.0 refl (next-is stands (s.pc + 4 + 4 + 4 + 4 + 4 + 4 + 4) _ has.1.1.1.1.1.1.1.1.0)) in
      let w = then_one stands u (λ on. leads-addi on {v = 1} has.1.1.1.1.1.1.1.1.0 refl (next-is stands (s.pc + 4 + 4 + 4 + 4 + 4 + 4 + 4 + 4) _ has.1.1.1.1.1.1.1.1.1.0)) in
      let h = then_one stands w (λ on. leads-addi on {v = list_header} has.1.1.1.1.1.1.1.1.1.0 refl (next-is stands (s.pc + 4 + 4 + 4 + 4 + 4 + 4 + 4 + 4 + 4) _ has.1.1.1.1.1.1.1.1.1.1.0)) in
      let v = then_one stands h (λ on. leads-jal on {next = s.pc + 4 * runtime_words} {back = s.pc + 44} has.1.1.1.1.1.1.1.1.1.1.0 to main_aligned back) in
      let t = record s {
        registers = put 1 (s.pc + 44) (put 20 list_header (put 3 1 (put 9 0 (put 8 0 (put 19 (end_of pool) (put 19 c.word (put 18 pool.first (put 18 b.word (put 2 stack_end (put 2 a.word s.registers))))))))));
        pc = s.pc + 4 * runtime_words;
        executed = s.executed + 1 + 1 + 1 + 1 + 1 + 1 + 1 + 1 + 1 + 1 + 1;
      } in (
        t,
        record {
          leads = v.leads;
          inside = v.inside;
          goes_to = refl;
          way_back = refl;
          stack = refl;
          one = refl;
          header = refl;
          cells = first_memory pool t usable refl refl refl refl;
          registers = kept (s.pc + 44) (end_of pool) c.word pool.first b.word stack_end a.word;
          parts = refl;
          memory = refl;
          left = refl;
          trace = refl;
        },
      )
    where
      whole-words : (at : ℕ) → at % 4 ≡ 0 → (at + 4 * runtime_words) % 4 ≡ 0
      whole-words at aligned = omega arith

      kept : (w e c f b k a x : ℕ) → KeptBy Start x → value (put 1 w (put 20 list_header (put 3 1 (put 9 0 (put 8 0 (put 19 e (put 19 c (put 18 f (put 18 b (put 2 k (put 2 a s.registers))))))))))) x ≡ value s.registers x
      kept w e c f b k a x out =
          let o1 : x ≢ 1 = out.0 in
          let o2 : x ≢ 2 = out.1.0 in
          let o3 : x ≢ 3 = out.1.1.0 in
          let o8 : x ≢ 8 = out.1.1.1.0 in
          let o9 : x ≢ 9 = out.1.1.1.1.0 in
          let o18 : x ≢ 18 = out.1.1.1.1.1.0 in
          let o19 : x ≢ 19 = out.1.1.1.1.1.1.0 in
          let o20 : x ≢ 20 = out.1.1.1.1.1.1.1.0 in
          grind (arith, nat_tests)

-- what the items stand for
module _ (layout : Layout) (memory : ℕ) (is : List Instr) (code : Code) (at : ℕ) (spells : Spells memory (start_items layout) is) (has : Has code at is) where
  second : Spells memory (Address x18 Data layout.cells ∷ Address x19 Data layout.cells_end ∷ plain start_code) spells.2
  second = spells.5

  third : Spells memory (Address x19 Data layout.cells_end ∷ plain start_code) second.2
  third = second.5

  is_whole : is ≡ Lui x2 spells.0 ∷ Addi x2 x2 spells.1 ∷ Lui x18 second.0 ∷ Addi x18 x18 second.1 ∷ Lui x19 third.0 ∷ Addi x19 x19 third.1 ∷ start_code
  is_whole =
      spells.4
      ∙ ap (λ more. Lui x2 spells.0 ∷ Addi x2 x2 spells.1 ∷ more) (second.4
      ∙ ap (λ more. Lui x18 second.0 ∷ Addi x18 x18 second.1 ∷ more) (third.4
      ∙ ap (λ more. Lui x19 third.0 ∷ Addi x19 x19 third.1 ∷ more) (plain_is memory start_code third.2 third.5)))

  does : IsStartOf layout memory code at
  does pool first end s here usable below =
      let pc_is = here.pc_is in
      let low : s.pc + 4 * runtime_words < 2 ^ 32 = omega arith in
      subst (λ a. (t : Processor) × AfterStart code pool (memory + layout.stack_end) (a + 4 * runtime_words) a s t) pc_is
      (starts code s here.stands spells.0 second.0 third.0 spells.1 second.1 third.1
      (subst (Has code s.pc) is_whole (subst (λ a. Has code a is) (sym pc_is) has))
      pool (memory + layout.stack_end) spells.3 (second.3 ∙ sym first) (third.3 ∙ sym end) usable low)

pub start_makes : (layout : Layout) → Makes (start_items layout) 11 (layout.cells + layout.cells_end + layout.stack_end) (IsStartOf layout)
start_makes layout = record { size = refl; labels = λ before. refl; within = (omega arith, (omega arith, (omega arith, tt))); code = does layout }
