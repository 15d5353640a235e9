-- What holds of every step over an instruction set, by a few cases: what an instruction can come to.
use Rattle.std.proofs.Common.{◌≡◌, ◌≢◌, ℕ, zero, suc, ◌+◌, ◌%◌, List, [], ◌∷◌, ◌++◌, Bool, true, false, not, ◌&&◌, Option, Some, None, nat_eq, if◌then◌else◌, refl, sym, ap, ◌∙◌, subst, add-zero, append-nil, arith}
use Rattle.std.proofs.lemmas.Bool.Decides.{nat_tests}
use Rattle.kk_base.specs.Trace.{output, input, input_end, IsPrefix}
use Rattle.rv_isa.specs.Numbers.{read_call, write_call, standard_input, standard_output, illegal_instruction, fetch_fault, misaligned_target, access_fault, misaligned_access, unknown_call}
use Rattle.rv_isa.specs.declared.act.Act.{Act}
use Rattle.rv_isa.specs.declared.act.Act.TheVariants.{Nothing, Set, Load, Store, Call, Break}
use Rattle.rv_isa.specs.Bytes.{number_at, with_number}
use Rattle.rv_isa.specs.Processor.{Processor, Ending, going, exited, trapped, Progress, goes, traps, counted, value, put, can_fetch, can_load, can_store}
use Rattle.rv_isa.specs.Environment.{stepped, is_read, is_write, is_exit, asks, reads, writes, written, calls}
use Rattle.std.specs.Int.{Width}
use Rattle.rv_isa.specs.Words.{widened_in}
use Rattle.rv_isa.specs.InstructionSet.{InstructionSet, acts_over, effect_over, executes_over, decodes_over, step_over, resumes, run_over, LeadsOver}
use Rattle.rv_isa.proofs.Runs.{run-zero, run-suc, Leads-run}

-- what holds of both branches, each where its test holds, holds of the choice
pub either : {X : Type 0} (P : X → Type 0) (b : Bool) (x y : X) → (b ≡ true → P x) → (b ≡ false → P y) → P (if b then x else y)
either P true x y holds fails = holds refl
either P false x y holds fails = fails refl

not-false : (b : Bool) → not b ≡ false → b ≡ true
not-false true e = refl
not-false false e = cc

pub and-right : (a b : Bool) → (a && b) ≡ true → b ≡ true
and-right true b e = e
and-right false b e = cc

not_zero : (n : ℕ) → nat_eq n 0 ≡ false → n ≢ 0
not_zero n e = grind (arith, nat_tests)

-- what holds of everything that an instruction can come to from this machine
pub record Cases (P : Progress → Type 0) (s : Processor) : Type 0 where
  pub trap : (cause word : ℕ) → P (traps cause word s)
  pub nothing : (next : ℕ) → P (goes (stepped next s))
  pub set : (rd v next : ℕ) → P (goes (record (stepped next s) { registers = put rd v s.registers }))
  pub store : (at width v next : ℕ) → can_store s.parts at width ≡ true → P (goes (record (stepped next s) { memory = with_number at width v s.memory }))
  pub ask_end : (next : ℕ) → s.left ≡ [] → P (goes (asks [] next s))
  pub ask_byte : (byte : ℕ) (rest : List ℕ) (next : ℕ) → s.left ≡ byte ∷ rest → value s.registers 12 ≢ 0 → can_store s.parts (value s.registers 11) (value s.registers 12) ≡ true → P (goes (asks (byte ∷ rest) next s))
  pub write : (next : ℕ) → can_load s.parts (value s.registers 11) (value s.registers 12) ≡ true → P (goes (record (stepped next s) { registers = put 10 (value s.registers 12) s.registers; trace = s.trace ++ output (written s) ∷ [] }))
  pub exit : (next : ℕ) → P (record { processor = stepped next s; ending = exited (value s.registers 10 % 256) })

module _ (P : Progress → Type 0) (s : Processor) (cases : Cases P s) where
  by_left : (left : List ℕ) (next : ℕ) → s.left ≡ left → value s.registers 12 ≢ 0 → can_store s.parts (value s.registers 11) (value s.registers 12) ≡ true → P (goes (asks left next s))
  by_left [] next is some allowed = cases.ask_end next is
  by_left (byte ∷ rest) next is some allowed = cases.ask_byte byte rest next is some allowed

  by_count_read : (next : ℕ) → can_store s.parts (value s.registers 11) (value s.registers 12) ≡ true → P (goes (reads next s))
  by_count_read next allowed =
      either (λ m. P (goes m)) (nat_eq (value s.registers 12) 0) _ _ (λ _. cases.set 10 0 next) (λ e. by_left s.left next refl (not_zero _ e) allowed)

  by_count_write : (next : ℕ) → can_load s.parts (value s.registers 11) (value s.registers 12) ≡ true → P (goes (writes next s))
  by_count_write next allowed =
      either (λ m. P (goes m)) (nat_eq (value s.registers 12) 0) _ _ (λ _. cases.set 10 (value s.registers 12) next) (λ _. cases.write next allowed)

  pub calls-by : (next word : ℕ) → P (calls next word s)
  unfolding calls
  calls-by next word =
      either P (is_read s) _ _
      (λ e. by_count_read next (and-right (nat_eq (value s.registers 17) read_call && nat_eq (value s.registers 10) standard_input) _ e))
      (λ _. either P (is_write s) _ _
      (λ e. by_count_write next (and-right (nat_eq (value s.registers 17) write_call && nat_eq (value s.registers 10) standard_output) _ e))
      (λ _. either P (is_exit s) _ _ (λ _. cases.exit next) (λ _. cases.trap unknown_call word)))

  pub acts-by : (width : Width) (act : Act) (rd next word : ℕ) → P (acts_over width act rd next word s)
  unfolding acts_over
  acts-by width Nothing rd next word = cases.nothing next
  acts-by width (Set v) rd next word = cases.set rd v next
  acts-by width (Load at count signed) rd next word =
      either P (not (nat_eq (at % count) 0)) _ _ (λ _. cases.trap misaligned_access word) (λ _.
      either P (not (can_load s.parts at count)) _ _ (λ _. cases.trap access_fault word) (λ _.
      cases.set rd (widened_in width count signed (number_at s.memory at count)) next))
  acts-by width (Store at count v) rd next word =
      either P (not (nat_eq (at % count) 0)) _ _ (λ _. cases.trap misaligned_access word) (λ _.
      either P (not (can_store s.parts at count)) _ _ (λ _. cases.trap access_fault word) (λ e.
      cases.store at count v next (not-false _ e)))
  acts-by width Call rd next word = calls-by next word
  acts-by width Break rd next word = cases.trap illegal_instruction word

module _ {I : Type 0} (set : InstructionSet I) (P : Progress → Type 0) (s : Processor) (cases : Cases P s) where
  executes-by : (word : ℕ) (i : I) → P (executes_over set s word i)
  unfolding executes_over
  executes-by word i =
      either P (nat_eq ((effect_over set s i).next % 4) 0) _ _ (λ _. acts-by P s cases set.width (effect_over set s i).act (set.rd i) (effect_over set s i).next word) (λ _. cases.trap misaligned_target word)

  decodes-by : (word : ℕ) (i : Option I) → P (decodes_over set s word i)
  unfolding decodes_over
  decodes-by word None = cases.trap illegal_instruction word
  decodes-by word (Some i) = executes-by word i

  pub step-by : P (step_over set s)
  unfolding step_over
  step-by =
      either P (can_fetch s.parts s.pc 4) _ _ (λ _. decodes-by (number_at s.memory s.pc 4) (set.read (number_at s.memory s.pc 4))) (λ _. cases.trap fetch_fault 0)

-- a run that leads to a state keeps the parts, and has executed its count of instructions
abbrev Kept : ℕ → Processor → Processor → Type 0
Kept n s t = (t.parts ≡ s.parts) × (t.executed ≡ s.executed + n)

module _ {I : Type 0} (set : InstructionSet I) where
  -- the parts stay in every step, and the count of instructions grows
  step-keeps : (s : Processor) → ((step_over set s).processor.parts ≡ s.parts) × ((step_over set s).processor.executed ≡ s.executed + counted (step_over set s).ending)
  step-keeps s = step-by set (λ after. (after.processor.parts ≡ s.parts) × (after.processor.executed ≡ s.executed + counted after.ending)) s record {
    trap = λ cause word. (refl, sym (add-zero s.executed));
    nothing = λ next. (refl, refl);
    set = λ rd v next. (refl, refl);
    store = λ at width v next allowed. (refl, refl);
    ask_end = λ next is. (refl, refl);
    ask_byte = λ byte rest next is some allowed. (refl, refl);
    write = λ next allowed. (refl, refl);
    exit = λ next. (refl, refl);
  }

  pub step-parts : (s : Processor) → (step_over set s).processor.parts ≡ s.parts
  step-parts s = (step-keeps s).0

  pub step-executed : (s : Processor) → (step_over set s).processor.executed ≡ s.executed + counted (step_over set s).ending
  step-executed s = (step-keeps s).1

  pub step-trace : (s : Processor) → IsPrefix s.trace (step_over set s).processor.trace
  step-trace s = step-by set (λ after. IsPrefix s.trace after.processor.trace) s record {
    trap = λ cause word. ([], append-nil s.trace);
    nothing = λ next. ([], append-nil s.trace);
    set = λ rd v next. ([], append-nil s.trace);
    store = λ at width v next allowed. ([], append-nil s.trace);
    ask_end = λ next is. (input_end ∷ [], refl);
    ask_byte = λ byte rest next is some allowed. (input byte ∷ [], refl);
    write = λ next allowed. (output (written s) ∷ [], refl);
    exit = λ next. ([], append-nil s.trace);
  }

  kept-step : (n : ℕ) (s t : Processor) (e : Ending) → (step_over set s).ending ≡ e → (run_over set n (step_over set s).processor ≡ goes t → Kept n (step_over set s).processor t)
      → resumes e (step_over set s).processor (run_over set n) ≡ goes t → Kept (suc n) s t
  kept-step n s t going ending rest on =
      let one : (step_over set s).processor.executed ≡ s.executed + 1 = step-executed s ∙ ap (λ e. s.executed + counted e) ending in
      let sum : s.executed + 1 + n ≡ s.executed + suc n = omega arith in
      ((rest on).0 ∙ step-parts s, (rest on).1 ∙ ap (λ e. e + n) one ∙ sum)
  kept-step n s t (exited number) ending rest on = let e : exited number ≡ going = ap (λ after. after.ending) on in cc
  kept-step n s t (trapped cause pc word) ending rest on =
      let e : trapped cause pc word ≡ going = ap (λ after. after.ending) on in cc

  kept-run : (n : ℕ) (s t : Processor) → run_over set n s ≡ goes t → Kept n s t
  kept-run zero s t is =
      let same : s ≡ t = ap (λ after. after.processor) (sym (run-zero set s) ∙ is) in
      subst (λ u. Kept 0 s u) same (refl, sym (add-zero s.executed))
  kept-run (suc n) s t is =
      kept-step n s t (step_over set s).ending refl (kept-run n (step_over set s).processor t) (sym (run-suc set n s) ∙ is)

module _ {I : Type 0} {set : InstructionSet I} where
  pub Leads-parts : {n : ℕ} {s t : Processor} → LeadsOver set n s t → t.parts ≡ s.parts
  Leads-parts {n} {s} {t} leads = (kept-run set n s t (Leads-run leads)).0

  pub Leads-executed : {n : ℕ} {s t : Processor} → LeadsOver set n s t → t.executed ≡ s.executed + n
  Leads-executed {n} {s} {t} leads = (kept-run set n s t (Leads-run leads)).1
