-- What the lines of a form do.
use Rattle.std.proofs.Common.{◌≡◌, ◌≢◌, ◌+◌, ◌-◌, ◌*◌, ◌^◌, ◌<◌, ◌≤◌, ℕ, suc, ℤ, List, [], ◌∷◌, ◌++◌, length, map, Option, Some, None, Bool, false, not, cond, All, w32, nat_lt, int_lt, int_le, int_eq, refl, sym, ◌∙◌, ap, subst, arith, lit<, append_assoc, eq-eqb, ne_eqb}
use Rattle.std.specs.Prelude.{bit_xor, slice_get}
use Rattle.rv_isa.specs.Costs.{operation_instructions, spare_moves}
use Rattle.std.specs.Fmt.{signed_decimal}
use Rattle.std.proofs.Math.Seq.{drop-append_seam}
use Rattle.std.proofs.lemmas.Int.{to_z_pos}
use Rattle.std.proofs.lemmas.List.{append-nil}
use Rattle.std.proofs.lemmas.List.Elements.{All-head}
use Rattle.kk_base.specs.Trace.{Event, output, input, input_end}
use Rattle.kk_syntax.specs.declared.operator.BinaryOperator.{BinaryOperator}
use Rattle.kk_syntax.specs.declared.operator.BinaryOperator.TheVariants.{Add, Subtract, Multiply, Divide, Remainder, Equal, NotEqual, Less, LessEqual, Greater, GreaterEqual}
use Rattle.kk_syntax.specs.declared.operator.PrintForm.{PrintForm}
use Rattle.kk_syntax.specs.Types.{TypeTree, int32, unit_type}
use Rattle.kk_syntax.specs.Typing.{bool, binary_type}
use Rattle.kk_source.specs.State.{Value, integer, unit}
use Rattle.kk_source.specs.FormEffects.{truth, number_result, byte_value, piece_of}
use Rattle.kk_source.specs.Arithmetic.{negation_of, sum_of, difference_of, product_of, quotient_of, remainder_of}
use Rattle.rv_isa.specs.declared.asm.Action.{Action}
use Rattle.rv_isa.specs.declared.asm.Operation.{Operation as AsmOperation}
use Rattle.rv_isa.specs.declared.asm.Operation.TheVariants as Op
use Rattle.rv_isa.specs.declared.asm.RegisterOperation.TheVariants as Register
use Rattle.rv_isa.specs.declared.asm.ImmediateOperation.TheVariants as Immediate
use Rattle.rv_isa.specs.declared.asm.ShiftOperation.TheVariants as Shift
use Rattle.rv_isa.specs.declared.immediate.Immediate.{Immediate as ImmediateWord}
use Rattle.rv_isa.specs.declared.immediate.ShiftAmount.{ShiftAmount}
use Rattle.rv_isa.specs.declared.routine.Routine.{Routine}
use Rattle.rv_isa.specs.declared.routine.Routine.TheVariants.{Take, Drop, PrintInt, PrintText, ReadByte}
use Rattle.rv_isa.specs.Arithmetic.{signed, bit_of, sum_word, difference_word, shift_left, product_word, quotient_signed, remainder_signed}
use Rattle.rv_isa.specs.Processor.{Ending}
use Rattle.rv_isa.specs.AsmCode.{Line}
use Rattle.rv_isa.specs.AsmMachine.{AsmTurn, asm_served}
use Rattle.rv_isa.specs.Frames.{Frame, put, all_of}
use Rattle.rv_isa.specs.Primitives.{Reply, answers}
use Rattle.cell_runtime.specs.Prints.{put_of}
use Rattle.cell_runtime.specs.Operations.{computed}
use Rattle.cell_runtime.specs.World.{World, told_more, print_bytes, read_next}
use Rattle.rv_lower.specs.Lines.{computes, sets, copies_to, acts, registers, unit_word, MakesTruth, Compares, ComparesNot, BinaryLines, choice_of, PrintLines}
use Rattle.rv_lower.proofs.Words.{truth_word, divided, sum_follows, difference_follows, product_follows, negation_follows, quotient_follows, remainder_follows, remainder_fits, sum_fits, difference_fits, product_fits, truth_follows, not_follows, opposite_follows, equal_follows, unequal_follows, at_most_follows}
use Rattle.rv_lower.proofs.PrintCosts.{int_printed, few_steps_of, text_found}
use Rattle.rv_lower.proofs.WordValues.{Function, IsWordOf, frame_at, turn_at}
use Rattle.rv_lower.proofs.Runs.{Target, line_cost, word_cost, print_cost, most_cost}
use Rattle.rv_lower.proofs.Runs as Runs

-- ---- cells

pub put_same : (x : ℕ) (word : ℕ) (cells : ℕ → Option ℕ) → put x (Some word) cells x ≡ Some word
put_same x word cells = ap (λ (b : Bool). cond b (Some word) (cells x)) (eq-eqb x x refl)

pub put_other : (x z : ℕ) (word : ℕ) (cells : ℕ → Option ℕ) → z ≢ x → put x (Some word) cells z ≡ cells z
put_other x z word cells apart = ap (λ (b : Bool). cond b (Some word) (cells z)) (ne_eqb z x apart)

pub reads_one : (cells : ℕ → Option ℕ) (a word : ℕ) → cells a ≡ Some word → all_of (map cells (a ∷ [])) ≡ Some (word ∷ [])
reads_one cells a word is = ap (λ (o : Option ℕ). all_of (o ∷ [])) is

pub reads_two : (cells : ℕ → Option ℕ) (a b first second : ℕ) → cells a ≡ Some first → cells b ≡ Some second → all_of (map cells (a ∷ b ∷ [])) ≡ Some (first ∷ second ∷ [])
reads_two cells a b first second is is_too =
    ap (λ (o : Option ℕ). all_of (o ∷ cells b ∷ [])) is ∙ ap (λ (o : Option ℕ). all_of (Some first ∷ o ∷ [])) is_too

module _ (target : Target) where
  abbrev pub Run : ℕ → ℕ → List Event → AsmTurn World Ending → AsmTurn World Ending → Type 0
  Run = Runs.Runs target

  -- lines that compute words change the words of cells, wherever they stand
  abbrev pub Changes : ℕ → List Line → (ℕ → Option ℕ) → (ℕ → Option ℕ) → Type 0
  Changes n own cells cells' =
      (whole : Function) (rest : List Line) (into : Option ℕ) (fs : List (Frame Line)) (world : World) → Run (n * word_cost) n [] (turn_at whole (own ++ rest) cells into fs world) (turn_at whole rest cells' into fs world)

  pub changes_none : (cells : ℕ → Option ℕ) → Changes 0 [] cells cells
  changes_none cells = λ whole rest into fs world. Runs.runs_none target (turn_at whole rest cells into fs world)

  pub changes_one : (n : ℕ) (operation : AsmOperation) (args : List ℕ) (x : ℕ) (own : List Line) (cells cells' : ℕ → Option ℕ) (words : List ℕ) (word : ℕ)
      → 2 * length args + operation_instructions operation ≤ line_cost → all_of (map cells args) ≡ Some words → computed target.constants operation words ≡ Some word → Changes n own (put x (Some word) cells) cells' → Changes (suc n) (computes operation args x ∷ own) cells cells'
  changes_one n operation args x own cells cells' words word two words_are computed_is later = λ whole rest into fs world.
      Runs.runs_cheap target (word_cost + n * word_cost) (suc n * word_cost) (suc n) [] (turn_at whole (computes operation args x ∷ (own ++ rest)) cells into fs world) (turn_at whole rest cells' into fs world) (omega arith)
      (Runs.runs_on target word_cost (n * word_cost) n [] [] (turn_at whole (computes operation args x ∷ (own ++ rest)) cells into fs world) (turn_at whole (own ++ rest) (put x (Some word) cells) into fs world) (turn_at whole rest cells' into fs world)
      (Runs.compute_runs target whole operation args x (own ++ rest) cells into fs world words word two words_are computed_is) (later whole rest into fs world))

  pub changes_then : (n m : ℕ) (first second : List Line) (cells middle cells' : ℕ → Option ℕ) → Changes n first cells middle → Changes m second middle cells' → Changes (n + m) (first ++ second) cells cells'
  changes_then n m first second cells middle cells' before behind = λ whole rest into fs world.
      subst (λ lines. Run ((n + m) * word_cost) (n + m) [] (turn_at whole lines cells into fs world) (turn_at whole rest cells' into fs world)) (sym (append_assoc first second rest))
      (Runs.runs_cheap target (n * word_cost + m * word_cost) ((n + m) * word_cost) (n + m) [] (turn_at whole (first ++ (second ++ rest)) cells into fs world) (turn_at whole rest cells' into fs world) (omega arith)
      (Runs.runs_then target (n * word_cost) (m * word_cost) n m [] [] (turn_at whole (first ++ (second ++ rest)) cells into fs world) (turn_at whole (second ++ rest) middle into fs world) (turn_at whole rest cells' into fs world)
      (before whole (second ++ rest) into fs world) (behind whole rest into fs world)))

  -- lines give a variable a word, and leave each other value below the temporaries as it is
  pub record Gives (n : ℕ) (own : List Line) (base x word : ℕ) (cells : ℕ → Option ℕ) : Type 0 where
    pub cells' : ℕ → Option ℕ
    pub changes : Changes n own cells cells'
    pub kept : (z : ℕ) → z < base → z ≢ x → cells' z ≡ cells z
    pub there : cells' x ≡ Some word

  pub gives_one : (operation : AsmOperation) (args : List ℕ) (base x : ℕ) (cells : ℕ → Option ℕ) (words : List ℕ) (word : ℕ) → 2 * length args + operation_instructions operation ≤ line_cost → all_of (map cells args) ≡ Some words → computed target.constants operation words ≡ Some word
      → Gives 1 (computes operation args x ∷ []) base x word cells
  gives_one operation args base x cells words word two words_are computed_is =
      record {
        cells' = put x (Some word) cells;
        changes = changes_one 0 operation args x [] cells (put x (Some word) cells) words word two words_are computed_is (changes_none (put x (Some word) cells));
        kept = λ z low other. put_other x z word cells other;
        there = put_same x word cells;
      }

  -- a line more on the variable itself
  pub gives_on : (n : ℕ) (own : List Line) (operation : AsmOperation) (base x word later : ℕ) (cells : ℕ → Option ℕ) → Gives n own base x word cells → computed target.constants operation (word ∷ []) ≡ Some later
      → Gives (n + 1) (own ++ computes operation (x ∷ []) x ∷ []) base x later cells
  gives_on n own operation base x word later cells before computed_is =
      let middle : ℕ → Option ℕ = before.cells' in
      let one : Gives 1 (computes operation (x ∷ []) x ∷ []) base x later middle
      = gives_one operation (x ∷ []) base x middle (word ∷ []) later (omega (arith, Runs.one_is_one target operation word later computed_is)) (reads_one middle x word before.there) computed_is in
      record {
        cells' = one.cells';
        changes = changes_then n 1 own (computes operation (x ∷ []) x ∷ []) cells middle one.cells' before.changes one.changes;
        kept = λ z low other. one.kept z low other ∙ before.kept z low other;
        there = one.there;
      }

  -- what a form does: it gives a value of a type, and leaves the world with these events
  pub record Performs (own : List Line) (base x : ℕ) (t : TypeTree) (v : Value) (cells : ℕ → Option ℕ) (world world' : World) (events : List Event) : Type 0 where
    pub steps : ℕ
    pub cost : ℕ
    pub cheap : cost ≤ most_cost
    pub cells' : ℕ → Option ℕ
    pub word : ℕ
    pub kept : (z : ℕ) → z < base → z ≢ x → cells' z ≡ cells z
    pub there : cells' x ≡ Some word
    pub is : IsWordOf t v word
    pub runs : (whole : Function) (rest : List Line) (into : Option ℕ) (fs : List (Frame Line)) → Run cost steps events (turn_at whole (own ++ rest) cells into fs world) (turn_at whole rest cells' into fs world')

  pub performs : (n : ℕ) (own : List Line) (base x : ℕ) (t : TypeTree) (v : Value) (cells : ℕ → Option ℕ) (world : World) (word : ℕ) → n ≤ 8 → Gives n own base x word cells → IsWordOf t v word
      → Performs own base x t v cells world world []
  performs n own base x t v cells world word few gives is =
      record {
        steps = n;
        cost = n * word_cost;
        cheap = omega (arith, few);
        cells' = gives.cells';
        word = word;
        kept = gives.kept;
        there = gives.there;
        is = is;
        runs = λ whole rest into fs. gives.changes whole rest into fs world;
      }

  -- ---- comparisons

  -- 0 or 1 becomes a truth
  truth_given : (n : ℕ) (own truth_lines : List Line) (base x : ℕ) (b : Bool) (cells : ℕ → Option ℕ) → Gives n own base x (bit_of b) cells → MakesTruth x truth_lines → Gives (n + 1 + 1) (own ++ truth_lines) base x (truth_word b) cells
  truth_given n own truth_lines base x b cells before makes =
      let one : ImmediateWord = makes.0 in
      let place : ShiftAmount = makes.1 in
      let shift : Line = computes (Op.Shift Shift.Slli place) (x ∷ []) x in
      let add : Line = computes (Op.Immediate Immediate.Addi one) (x ∷ []) x in
      let shifted : Gives (n + 1) (own ++ shift ∷ []) base x (shift_left (bit_of b) 1) cells
      = gives_on n own (Op.Shift Shift.Slli place) base x (bit_of b) (shift_left (bit_of b) 1) cells before (ap (λ k. Some (shift_left (bit_of b) k)) makes.3) in
      let added : Gives (n + 1 + 1) ((own ++ shift ∷ []) ++ add ∷ []) base x (truth_word b) cells
      = gives_on (n + 1) (own ++ shift ∷ []) (Op.Immediate Immediate.Addi one) base x (shift_left (bit_of b) 1) (truth_word b) cells shifted (ap (λ k. Some (sum_word (shift_left (bit_of b) 1) k)) makes.2 ∙ ap (λ (w : ℕ). Some w) (truth_follows b)) in
      subst (λ lines. Gives (n + 1 + 1) lines base x (truth_word b) cells) (append_assoc own (shift ∷ []) (add ∷ []) ∙ ap (λ lines. own ++ lines) (sym makes.4)) added

  compared : (n : ℕ) (first own : List Line) (base x : ℕ) (b : Bool) (cells : ℕ → Option ℕ) (world : World) → n ≤ 6 → Gives n first base x (bit_of b) cells → Compares x first own → Performs own base x bool (truth b) cells world world []
  compared n first own base x b cells world few gives compares =
      subst (λ lines. Performs lines base x bool (truth b) cells world world []) (sym compares.2)
      (performs (n + 1 + 1) (first ++ compares.0) base x bool (truth b) cells world (truth_word b) (omega arith) (truth_given n first compares.0 base x b cells gives compares.1) (b, refl, refl))

  compared_not : (first : Line) (own : List Line) (base x : ℕ) (b : Bool) (cells : ℕ → Option ℕ) (world : World) → Gives 1 (first ∷ []) base x (bit_of b) cells → ComparesNot x first own → Performs own base x bool (truth (not b)) cells world world []
  compared_not first own base x b cells world gives compares =
      let one : ImmediateWord = compares.0 in
      let turned : Gives 2 (first ∷ computes (Op.Immediate Immediate.Xori one) (x ∷ []) x ∷ []) base x (bit_of (not b)) cells
      = gives_on 1 (first ∷ []) (Op.Immediate Immediate.Xori one) base x (bit_of b) (bit_of (not b)) cells gives (ap (λ k. Some (bit_xor (bit_of b) k)) compares.1 ∙ ap (λ (w : ℕ). Some w) (opposite_follows b)) in
      compared 2 (first ∷ computes (Op.Immediate Immediate.Xori one) (x ∷ []) x ∷ []) own base x (not b) cells world (omega arith) turned compares.2

  -- ---- operators

  registers_give : (operation : AsmOperation) (base x a b first second word : ℕ) (cells : ℕ → Option ℕ) → cells a ≡ Some first → cells b ≡ Some second → computed target.constants operation (first ∷ second ∷ []) ≡ Some word
      → Gives 1 (registers x a b operation ∷ []) base x word cells
  registers_give operation base x a b first second word cells at_a at_b computed_is =
      gives_one operation (a ∷ b ∷ []) base x cells (first ∷ second ∷ []) word
      (omega (arith, Runs.two_are_one target operation first second word computed_is)) (reads_two cells a b first second at_a at_b) computed_is

  -- one line, whose word is the integer
  integer_performs : (own : List Line) (operation : AsmOperation) (base x a b first second word : ℕ) (n : ℤ) (cells : ℕ → Option ℕ) (world : World) → cells a ≡ Some first → cells b ≡ Some second
      → computed target.constants operation (first ∷ second ∷ []) ≡ Some word → signed word ≡ n → word < 2 ^ 32 → own ≡ registers x a b operation ∷ [] → Performs own base x int32 (integer n) cells world world []
  integer_performs own operation base x a b first second word n cells world at_a at_b computed_is follows fits own_is =
      subst (λ lines. Performs lines base x int32 (integer n) cells world world []) (sym own_is)
      (performs 1 (registers x a b operation ∷ []) base x int32 (integer n) cells world word (omega arith) (registers_give operation base x a b first second word cells at_a at_b computed_is) (ap integer (sym follows), fits))

  -- division, whose quotient is 0 where the divisor is
  division : (base x a b first second : ℕ) (cells : ℕ → Option ℕ) → x < base → a < x → b < x → cells a ≡ Some first → cells b ≡ Some second
      → Gives 4 (registers x a b (Op.Register Register.Div) ∷ sets 0 base ∷ registers base base b (Op.Register Register.Sltu) ∷ registers x x base (Op.Register Register.Mul) ∷ []) base x (divided first second) cells
  division base x a b first second cells above under_a under_b at_a at_b =
      let fourth : List Line = registers x x base (Op.Register Register.Mul) ∷ [] in
      let third : List Line = registers base base b (Op.Register Register.Sltu) ∷ fourth in
      let quotient : ℕ = quotient_signed first second in
      let test : ℕ = bit_of (nat_lt 0 second) in
      let c1 : ℕ → Option ℕ = put x (Some quotient) cells in
      let c2 : ℕ → Option ℕ = put base (Some 0) c1 in
      let c3 : ℕ → Option ℕ = put base (Some test) c2 in
      let c4 : ℕ → Option ℕ = put x (Some (divided first second)) c3 in
      let b2 : c2 b ≡ Some second = put_other base b 0 c1 (λ e. omega (arith, e)) ∙ put_other x b quotient cells (λ e. omega (arith, e)) ∙ at_b in
      let x3 : c3 x ≡ Some quotient = put_other base x test c2 (λ e. omega (arith, e)) ∙ put_other base x 0 c1 (λ e. omega (arith, e)) ∙ put_same x quotient cells in
      record {
        cells' = c4;
        changes =
            changes_one 3 (Op.Register Register.Div) (a ∷ b ∷ []) x (sets 0 base ∷ third) cells c4 (first ∷ second ∷ []) quotient (omega arith) (reads_two cells a b first second at_a at_b) refl
            (changes_one 2 (Op.Li 0) [] base third c1 c4 [] 0 (omega arith) refl refl
            (changes_one 1 (Op.Register Register.Sltu) (base ∷ b ∷ []) base fourth c2 c4 (0 ∷ second ∷ []) test (omega arith) (reads_two c2 base b 0 second (put_same base 0 c1) b2) refl
            (changes_one 0 (Op.Register Register.Mul) (x ∷ base ∷ []) x [] c3 c4 (quotient ∷ test ∷ []) (divided first second) (omega arith) (reads_two c3 x base quotient test x3 (put_same base test c2)) refl (changes_none c4))));
        kept = λ z low other. put_other x z (divided first second) c3 other ∙ put_other base z test c2 (λ e. omega (arith, e)) ∙ put_other base z 0 c1 (λ e. omega (arith, e)) ∙ put_other x z quotient cells other;
        there = put_same x (divided first second) c3;
      }

  -- whether words are different, by whether 0 is less than their difference
  difference_test : (base x a b first second : ℕ) (cells : ℕ → Option ℕ) → x < base → cells a ≡ Some first → cells b ≡ Some second
      → Gives 3 (registers x a b (Op.Register Register.Sub) ∷ sets 0 base ∷ registers x base x (Op.Register Register.Sltu) ∷ []) base x (bit_of (nat_lt 0 (difference_word first second))) cells
  difference_test base x a b first second cells above at_a at_b =
      let third : List Line = registers x base x (Op.Register Register.Sltu) ∷ [] in
      let d : ℕ = difference_word first second in
      let test : ℕ = bit_of (nat_lt 0 d) in
      let c1 : ℕ → Option ℕ = put x (Some d) cells in
      let c2 : ℕ → Option ℕ = put base (Some 0) c1 in
      let c3 : ℕ → Option ℕ = put x (Some test) c2 in
      let x2 : c2 x ≡ Some d = put_other base x 0 c1 (λ e. omega (arith, e)) ∙ put_same x d cells in
      record {
        cells' = c3;
        changes =
            changes_one 2 (Op.Register Register.Sub) (a ∷ b ∷ []) x (sets 0 base ∷ third) cells c3 (first ∷ second ∷ []) d (omega arith) (reads_two cells a b first second at_a at_b) refl
            (changes_one 1 (Op.Li 0) [] base third c1 c3 [] 0 (omega arith) refl refl
            (changes_one 0 (Op.Register Register.Sltu) (base ∷ x ∷ []) x [] c2 c3 (0 ∷ d ∷ []) test (omega arith) (reads_two c2 base x 0 d (put_same base 0 c1) x2) refl (changes_none c3)));
        kept = λ z low other. put_other x z test c2 other ∙ put_other base z 0 c1 (λ e. omega (arith, e)) ∙ put_other x z d cells other;
        there = put_same x test c2;
      }

  truth_is : (own : List Line) (base x : ℕ) (b c : Bool) (cells : ℕ → Option ℕ) (world : World) → b ≡ c → Performs own base x bool (truth b) cells world world [] → Performs own base x bool (truth c) cells world world []
  truth_is own base x b c cells world same done = subst (λ d. Performs own base x bool (truth d) cells world world []) same done

  pub binary_performs : (base x : ℕ) (operator : BinaryOperator) (a b first second : ℕ) (own : List Line) (cells : ℕ → Option ℕ) (world : World) → x < base → a < x → b < x → cells a ≡ Some first → cells b ≡ Some second → first < 2 ^ 32 → second < 2 ^ 32
      → BinaryLines base x operator a b own → Performs own base x (binary_type operator) (number_result operator (signed first) (signed second)) cells world world []
  binary_performs base x Add a b first second own cells world above under_a under_b at_a at_b ha hb lines =
      integer_performs own (Op.Register Register.Add) base x a b first second (sum_word first second) (sum_of (signed first) (signed second)) cells world at_a at_b refl (sum_follows first second ha hb) (sum_fits first second) lines
  binary_performs base x Subtract a b first second own cells world above under_a under_b at_a at_b ha hb lines =
      integer_performs own (Op.Register Register.Sub) base x a b first second (difference_word first second) (difference_of (signed first) (signed second)) cells world at_a at_b refl (difference_follows first second ha hb) (difference_fits first second) lines
  binary_performs base x Multiply a b first second own cells world above under_a under_b at_a at_b ha hb lines =
      integer_performs own (Op.Register Register.Mul) base x a b first second (product_word first second) (product_of (signed first) (signed second)) cells world at_a at_b refl (product_follows first second ha hb) (product_fits first second) lines
  binary_performs base x Remainder a b first second own cells world above under_a under_b at_a at_b ha hb lines =
      integer_performs own (Op.Register Register.Rem) base x a b first second (remainder_signed first second) (remainder_of (signed first) (signed second)) cells world at_a at_b refl (remainder_follows first second ha hb) (remainder_fits first second ha) lines
  binary_performs base x Divide a b first second own cells world above under_a under_b at_a at_b ha hb lines =
      let n : ℤ = quotient_of (signed first) (signed second) in
      subst (λ some. Performs some base x int32 (integer n) cells world world []) (sym lines)
      (performs 4 (registers x a b (Op.Register Register.Div) ∷ sets 0 base ∷ registers base base b (Op.Register Register.Sltu) ∷ registers x x base (Op.Register Register.Mul) ∷ []) base x int32 (integer n) cells world (divided first second) (omega arith) (division base x a b first second cells above under_a under_b at_a at_b)
      (ap integer (sym (quotient_follows first second hb)), product_fits (quotient_signed first second) (bit_of (nat_lt 0 second))))
  binary_performs base x Equal a b first second own cells world above under_a under_b at_a at_b ha hb lines =
      let one : ImmediateWord = lines.0 in
      let d : ℕ = difference_word first second in
      let given : Gives 2 (registers x a b (Op.Register Register.Sub) ∷ computes (Op.Immediate Immediate.Sltiu one) (x ∷ []) x ∷ []) base x (bit_of (nat_lt d 1)) cells
      = gives_on 1 (registers x a b (Op.Register Register.Sub) ∷ []) (Op.Immediate Immediate.Sltiu one) base x d (bit_of (nat_lt d 1)) cells
      (registers_give (Op.Register Register.Sub) base x a b first second d cells at_a at_b refl) (ap (λ k. Some (bit_of (nat_lt d k))) lines.1) in
      truth_is own base x (nat_lt d 1) (int_eq (signed first) (signed second)) cells world (equal_follows first second ha hb)
      (compared 2 (registers x a b (Op.Register Register.Sub) ∷ computes (Op.Immediate Immediate.Sltiu one) (x ∷ []) x ∷ []) own base x (nat_lt d 1) cells world (omega arith) given lines.2)
  binary_performs base x NotEqual a b first second own cells world above under_a under_b at_a at_b ha hb lines =
      let d : ℕ = difference_word first second in
      truth_is own base x (nat_lt 0 d) (not (int_eq (signed first) (signed second))) cells world (unequal_follows first second ha hb)
      (compared 3 (registers x a b (Op.Register Register.Sub) ∷ sets 0 base ∷ registers x base x (Op.Register Register.Sltu) ∷ []) own base x (nat_lt 0 d) cells world (omega arith) (difference_test base x a b first second cells above at_a at_b) lines)
  binary_performs base x Less a b first second own cells world above under_a under_b at_a at_b ha hb lines =
      compared 1 (registers x a b (Op.Register Register.Slt) ∷ []) own base x (int_lt (signed first) (signed second)) cells world (omega arith) (registers_give (Op.Register Register.Slt) base x a b first second (bit_of (int_lt (signed first) (signed second))) cells at_a at_b refl) lines
  binary_performs base x Greater a b first second own cells world above under_a under_b at_a at_b ha hb lines =
      compared 1 (registers x b a (Op.Register Register.Slt) ∷ []) own base x (int_lt (signed second) (signed first)) cells world (omega arith) (registers_give (Op.Register Register.Slt) base x b a second first (bit_of (int_lt (signed second) (signed first))) cells at_b at_a refl) lines
  binary_performs base x LessEqual a b first second own cells world above under_a under_b at_a at_b ha hb lines =
      let test : Bool = int_lt (signed second) (signed first) in
      truth_is own base x (not test) (int_le (signed first) (signed second)) cells world (at_most_follows (signed first) (signed second))
      (compared_not (registers x b a (Op.Register Register.Slt)) own base x test cells world (registers_give (Op.Register Register.Slt) base x b a second first (bit_of test) cells at_b at_a refl) lines)
  binary_performs base x GreaterEqual a b first second own cells world above under_a under_b at_a at_b ha hb lines =
      let test : Bool = int_lt (signed first) (signed second) in
      truth_is own base x (not test) (int_le (signed second) (signed first)) cells world (at_most_follows (signed second) (signed first))
      (compared_not (registers x a b (Op.Register Register.Slt)) own base x test cells world (registers_give (Op.Register Register.Slt) base x a b first second (bit_of test) cells at_a at_b refl) lines)

  pub unary_performs_negate : (base x a word : ℕ) (own : List Line) (cells : ℕ → Option ℕ) (world : World) → x < base → a < x → cells a ≡ Some word → word < 2 ^ 32
      → own ≡ sets 0 base ∷ registers x base a (Op.Register Register.Sub) ∷ [] → Performs own base x int32 (integer (negation_of (signed word))) cells world world []
  unary_performs_negate base x a word own cells world above under at_a ha lines =
      let less : ℕ = difference_word 0 word in
      let second : List Line = registers x base a (Op.Register Register.Sub) ∷ [] in
      let c1 : ℕ → Option ℕ = put base (Some 0) cells in
      let c2 : ℕ → Option ℕ = put x (Some less) c1 in
      let a1 : c1 a ≡ Some word = put_other base a 0 cells (λ e. omega (arith, e)) ∙ at_a in
      let given : Gives 2 (sets 0 base ∷ second) base x less cells = record {
        cells' = c2;
        changes =
            changes_one 1 (Op.Li 0) [] base second cells c2 [] 0 (omega arith) refl refl
            (changes_one 0 (Op.Register Register.Sub) (base ∷ a ∷ []) x [] c1 c2 (0 ∷ word ∷ []) less (omega arith) (reads_two c1 base a 0 word (put_same base 0 cells) a1) refl (changes_none c2));
        kept = λ z low other. put_other x z less c1 other ∙ put_other base z 0 cells (λ e. omega (arith, e));
        there = put_same x less c1;
      } in
      let n : ℤ = negation_of (signed word) in
      subst (λ some. Performs some base x int32 (integer n) cells world world []) (sym lines)
      (performs 2 (sets 0 base ∷ second) base x int32 (integer n) cells world less (omega arith) given (ap integer (sym (negation_follows word ha)), difference_fits 0 word))

  pub unary_performs_not : (base x a : ℕ) (b : Bool) (two : ImmediateWord) (own : List Line) (cells : ℕ → Option ℕ) (world : World) → cells a ≡ Some (truth_word b) → two.word ≡ 2
      → own ≡ computes (Op.Immediate Immediate.Xori two) (a ∷ []) x ∷ [] → Performs own base x bool (truth (not b)) cells world world []
  unary_performs_not base x a b two own cells world at_a two_is lines =
      subst (λ some. Performs some base x bool (truth (not b)) cells world world []) (sym lines)
      (performs 1 (computes (Op.Immediate Immediate.Xori two) (a ∷ []) x ∷ []) base x bool (truth (not b)) cells world (truth_word (not b)) (omega arith)
      (gives_one (Op.Immediate Immediate.Xori two) (a ∷ []) base x cells (truth_word b ∷ []) (truth_word (not b)) (omega arith) (reads_one cells a (truth_word b) at_a)
      (ap (λ k. Some (bit_xor (truth_word b) k)) two_is ∙ ap (λ (w : ℕ). Some w) (not_follows b))) (not b, refl, refl))

  -- a constant word
  pub sets_performs : (base x word : ℕ) (t : TypeTree) (v : Value) (own : List Line) (cells : ℕ → Option ℕ) (world : World) → IsWordOf t v word → own ≡ sets word x ∷ [] → Performs own base x t v cells world world []
  sets_performs base x word t v own cells world is lines =
      subst (λ some. Performs some base x t v cells world world []) (sym lines)
      (performs 1 (sets word x ∷ []) base x t v cells world word (omega arith) (gives_one (Op.Li word) [] base x cells [] word (omega arith) refl refl) is)

  -- ---- routines

  -- a routine that answers two words is no drop
  no_drop : (routine : Routine) (first second : ℕ) (world next : World) → (Runs.world_primitives target).serve routine (first ∷ second ∷ []) None world ≡ answers 0 next false → spare_moves (Action.Routine routine) ≡ 0
  no_drop Take first second world next serves = refl
  no_drop Drop first second world next serves = cc serves
  no_drop PrintInt first second world next serves = refl
  no_drop PrintText first second world next serves = refl
  no_drop ReadByte first second world next serves = refl

  -- a routine that leaves the values as they are
  routine_runs : (routine : Routine) (a b first second : ℕ) (whole : Function) (rest : List Line) (cells : ℕ → Option ℕ) (into : Option ℕ) (fs : List (Frame Line)) (world : World) (events : List Event) → cells a ≡ Some first → cells b ≡ Some second
      → ((held : Option ℕ) → (Runs.world_primitives target).serve routine (first ∷ second ∷ []) held world ≡ answers 0 (told_more events world) false)
      → ((held : Option ℕ) → (Runs.world_primitives target).lasts routine (first ∷ second ∷ []) held world ≤ Runs.routine_cost)
      → Run print_cost 1 events (turn_at whole (acts (Action.Routine routine) (a ∷ b ∷ []) ∷ rest) cells into fs world) (turn_at whole rest cells into fs (told_more events world))
  routine_runs routine a b first second whole rest cells into fs world events at_a at_b serves light =
      Runs.line_runs target print_cost whole (acts (Action.Routine routine) (a ∷ b ∷ [])) rest cells into fs world (first ∷ second ∷ []) events (turn_at whole rest cells into fs (told_more events world))
      (reads_two cells a b first second at_a at_b)
      (ap (λ (reply : Reply World Ending). asm_served None (frame_at whole rest cells into ∷ fs) reply) (serves _))
      (λ held. omega (arith, light held, no_drop routine first second world (told_more events world) (serves None))) (drop-append_seam world.trace events)

  -- two arguments are made, a routine is called, and the value is `()`
  routine_performs : (routine : Routine) (n : ℕ) (first_lines : List Line) (a b base x first second : ℕ) (events : List Event) (cells middle : ℕ → Option ℕ) (world : World) → n ≤ 2 → Changes n first_lines cells middle → ((z : ℕ) → z < base → middle z ≡ cells z)
      → middle a ≡ Some first → middle b ≡ Some second
      → ((held : Option ℕ) → (Runs.world_primitives target).serve routine (first ∷ second ∷ []) held world ≡ answers 0 (told_more events world) false)
      → ((held : Option ℕ) → (Runs.world_primitives target).lasts routine (first ∷ second ∷ []) held world ≤ Runs.routine_cost)
      → Performs (first_lines ++ (acts (Action.Routine routine) (a ∷ b ∷ []) ∷ sets unit_word x ∷ [])) base x unit_type unit cells world (told_more events world) events
  routine_performs routine n first_lines a b base x first second events cells middle world few changes kept at_a at_b serves light =
      record {
        steps = n + 2;
        cost = n * word_cost + (print_cost + word_cost);
        cheap = omega (arith, few);
        cells' = put x (Some unit_word) middle;
        word = unit_word;
        kept = λ z low other. put_other x z unit_word middle other ∙ kept z low;
        there = put_same x unit_word middle;
        is = (refl, refl);
        runs = λ whole rest into fs.
            let call : Line = acts (Action.Routine routine) (a ∷ b ∷ []) in
            let after : World = told_more events world in
            let t1 : AsmTurn World Ending = turn_at whole (call ∷ sets unit_word x ∷ rest) middle into fs world in
            let t2 : AsmTurn World Ending = turn_at whole (sets unit_word x ∷ rest) middle into fs after in
            let t3 : AsmTurn World Ending = turn_at whole rest (put x (Some unit_word) middle) into fs after in
            let behind : Run (print_cost + word_cost) 2 (events ++ []) t1 t3
            = Runs.runs_on target print_cost word_cost 1 events [] t1 t2 t3 (routine_runs routine a b first second whole (sets unit_word x ∷ rest) middle into fs world events at_a at_b serves light)
            (Runs.compute_runs target whole (Op.Li unit_word) [] x rest middle into fs after [] unit_word (omega arith) refl refl) in
            let behind' : Run (print_cost + word_cost) 2 events t1 t3 = subst (λ es. Run (print_cost + word_cost) 2 es t1 t3) (append-nil events) behind in
            subst (λ lines. Run (n * word_cost + (print_cost + word_cost)) (n + 2) events (turn_at whole lines cells into fs world) t3) (sym (append_assoc first_lines (call ∷ sets unit_word x ∷ []) rest))
            (Runs.runs_then target (n * word_cost) (print_cost + word_cost) n 2 [] events (turn_at whole (first_lines ++ (call ∷ sets unit_word x ∷ rest)) cells into fs world) t1 t3 (changes whole (call ∷ sets unit_word x ∷ rest) into fs world) behind');
      }

  pub print_int_performs : (base x a word : ℕ) (form : PrintForm) (own : List Line) (cells : ℕ → Option ℕ) (world : World) → x < base → a < x → cells a ≡ Some word → word < 2 ^ 32
      → own ≡ copies_to a base ∷ sets (choice_of form) (base + 1) ∷ acts (Action.Routine Routine.PrintInt) (base ∷ (base + 1) ∷ []) ∷ sets unit_word x ∷ []
      → Performs own base x unit_type unit cells world (told_more (output (piece_of form (signed_decimal (signed word))) ∷ []) world) (output (piece_of form (signed_decimal (signed word))) ∷ [])
  print_int_performs base x a word form own cells world above under at_a ha lines =
      let events : List Event = output (piece_of form (signed_decimal (signed word))) ∷ [] in
      let choice : ℕ = choice_of form in
      let second : List Line = sets choice (base + 1) ∷ [] in
      let c1 : ℕ → Option ℕ = put base (Some word) cells in
      let c2 : ℕ → Option ℕ = put (base + 1) (Some choice) c1 in
      subst (λ some. Performs some base x unit_type unit cells world (told_more events world) events) (sym lines)
      (routine_performs Routine.PrintInt 2 (copies_to a base ∷ second) base (base + 1) base x word choice events cells c2 world (omega arith)
      (changes_one 1 Op.Mv (a ∷ []) base second cells c2 (word ∷ []) word (omega arith) (reads_one cells a word at_a) refl (changes_one 0 (Op.Li choice) [] (base + 1) [] c1 c2 [] choice (omega arith) refl refl (changes_none c2)))
      (λ z low. put_other (base + 1) z choice c1 (λ e. omega (arith, e)) ∙ put_other base z word cells (λ e. omega (arith, e)))
      (put_other (base + 1) base choice c1 (λ e. omega (arith, e)) ∙ put_same base word cells) (put_same (base + 1) choice c1)
      (λ held. int_printed word form world ha) (λ held. few_steps_of word ha))

  -- a print of constant bytes
  text_performs : (base x : ℕ) (text : List ℕ) (index : ℕ) (cells : ℕ → Option ℕ) (world : World) → x < base → slice_get target.constants.texts index ≡ Some text
      → Performs (computes (Op.La index) [] base ∷ sets (length text) (base + 1) ∷ acts (Action.Routine Routine.PrintText) (base ∷ (base + 1) ∷ []) ∷ sets unit_word x ∷ []) base x unit_type unit cells world (told_more (put_of text) world) (put_of text)
  text_performs base x text index cells world above is =
      let there = text_found target.constants.first target.constants.texts index text is in
      let at : ℕ = there.0 in
      let count : ℕ = length text in
      let second : List Line = sets count (base + 1) ∷ [] in
      let c1 : ℕ → Option ℕ = put base (Some at) cells in
      let c2 : ℕ → Option ℕ = put (base + 1) (Some count) c1 in
      routine_performs Routine.PrintText 2 (computes (Op.La index) [] base ∷ second) base (base + 1) base x at count (put_of text) cells c2 world (omega arith)
      (changes_one 1 (Op.La index) [] base second cells c2 [] at (omega arith) refl there.1 (changes_one 0 (Op.Li count) [] (base + 1) [] c1 c2 [] count (omega arith) refl refl (changes_none c2)))
      (λ z low. put_other (base + 1) z count c1 (λ e. omega (arith, e)) ∙ put_other base z at cells (λ e. omega (arith, e)))
      (put_other (base + 1) base count c1 (λ e. omega (arith, e)) ∙ put_same base at cells) (put_same (base + 1) count c1)
      (λ held. ap (λ bytes. print_bytes bytes world) there.2) (λ held. omega arith)

  -- a print of no bytes frees the null token
  frees_null : (base : ℕ) (whole : Function) (rest : List Line) (cells : ℕ → Option ℕ) (into : Option ℕ) (fs : List (Frame Line)) (world : World) → cells base ≡ Some 0
      → Run word_cost 1 [] (turn_at whole (acts (Action.Compute Op.Free) (base ∷ []) ∷ rest) cells into fs world) (turn_at whole rest cells into fs world)
  frees_null base whole rest cells into fs world null =
      Runs.line_runs target word_cost whole (acts (Action.Compute Op.Free) (base ∷ [])) rest cells into fs world (0 ∷ []) [] (turn_at whole rest cells into fs world)
      (reads_one cells base 0 null) refl (λ held. omega arith) (Runs.silent target world)

  nothing_performs : (base x : ℕ) (cells : ℕ → Option ℕ) (world : World) → x < base
      → Performs (sets 0 base ∷ acts (Action.Compute Op.Free) (base ∷ []) ∷ sets unit_word x ∷ []) base x unit_type unit cells world world []
  nothing_performs base x cells world above =
      let with_null : ℕ → Option ℕ = put base (Some 0) cells in
      record {
        steps = 3;
        cost = word_cost + (word_cost + word_cost);
        cheap = omega arith;
        cells' = put x (Some unit_word) with_null;
        word = unit_word;
        kept = λ z low other. put_other x z unit_word with_null other ∙ put_other base z 0 cells (λ e. omega (arith, low, e));
        there = put_same x unit_word with_null;
        is = (refl, refl);
        runs = λ whole rest into fs.
            let last : List Line = sets unit_word x ∷ rest in
            let free : List Line = acts (Action.Compute Op.Free) (base ∷ []) ∷ last in
            let t1 : AsmTurn World Ending = turn_at whole (sets 0 base ∷ free) cells into fs world in
            let t2 : AsmTurn World Ending = turn_at whole free with_null into fs world in
            let t3 : AsmTurn World Ending = turn_at whole last with_null into fs world in
            let t4 : AsmTurn World Ending = turn_at whole rest (put x (Some unit_word) with_null) into fs world in
            Runs.runs_on target word_cost (word_cost + word_cost) 2 [] [] t1 t2 t4
            (Runs.compute_runs target whole (Op.Li 0) [] base free cells into fs world [] 0 (omega arith) refl refl)
            (Runs.runs_on target word_cost word_cost 1 [] [] t2 t3 t4 (frees_null base whole last with_null into fs world (put_same base 0 cells))
            (Runs.compute_runs target whole (Op.Li unit_word) [] x rest with_null into fs world [] unit_word (omega arith) refl refl));
      }

  pub print_text_performs : (base x : ℕ) (text : List ℕ) (print own : List Line) (cells : ℕ → Option ℕ) (world : World) → x < base → PrintLines base target.constants.texts text print → own ≡ print ++ sets unit_word x ∷ []
      → Performs own base x unit_type unit cells world (told_more (put_of text) world) (put_of text)
  print_text_performs base x [] print own cells world above lines own_is =
      let told_none : world ≡ told_more [] world = ap (λ (events : List Event). record world { trace = events }) (sym (append-nil world.trace)) in
      subst (λ some. Performs some base x unit_type unit cells world (told_more [] world) []) (sym (own_is ∙ ap (λ some. some ++ sets unit_word x ∷ []) lines))
      (subst (λ (after : World). Performs (sets 0 base ∷ acts (Action.Compute Op.Free) (base ∷ []) ∷ sets unit_word x ∷ []) base x unit_type unit cells world after []) told_none
      (nothing_performs base x cells world above))
  print_text_performs base x (byte ∷ more) print own cells world above lines own_is =
      subst (λ some. Performs some base x unit_type unit cells world (told_more (put_of (byte ∷ more)) world) (put_of (byte ∷ more))) (sym (own_is ∙ ap (λ some. some ++ sets unit_word x ∷ []) lines.2))
      (text_performs base x (byte ∷ more) lines.0 cells world above lines.1)

  -- ---- reading

  -- what is read, and the world behind it
  abbrev pub got : List ℕ → Option ℕ
  got [] = None
  got (byte ∷ rest) = Some byte

  abbrev pub read_events : List ℕ → List Event
  read_events [] = input_end ∷ []
  read_events (byte ∷ rest) = input byte ∷ []

  abbrev pub left_behind : List ℕ → List ℕ
  left_behind [] = []
  left_behind (byte ∷ rest) = rest

  abbrev pub world_behind : List ℕ → World → World
  world_behind left world = record world { left = left_behind left; trace = world.trace ++ read_events left }

  read_runs : (base x word : ℕ) (left : List ℕ) (own : List Line) (cells : ℕ → Option ℕ) (world : World) → (Runs.world_primitives target).serve Routine.ReadByte [] None world ≡ answers word (world_behind left world) false
      → IsWordOf int32 (byte_value (got left)) word → Performs (record { action = Action.Routine Routine.ReadByte; args = []; into = Some x } ∷ []) base x int32 (byte_value (got left)) cells world (world_behind left world) (read_events left)
  read_runs base x word left own cells world serves is =
      record {
        steps = 1;
        cost = most_cost;
        cheap = omega arith;
        cells' = put x (Some word) cells;
        word = word;
        kept = λ z low other. put_other x z word cells other;
        there = put_same x word cells;
        is = is;
        runs = λ whole rest into fs.
            Runs.line_runs target most_cost whole (record { action = Action.Routine Routine.ReadByte; args = []; into = Some x }) rest cells into fs world [] (read_events left)
            (turn_at whole rest (put x (Some word) cells) into fs (world_behind left world)) refl
            (ap (λ (reply : Reply World Ending). asm_served (Some x) (frame_at whole rest cells into ∷ fs) reply) serves)
            (λ held. omega arith) (drop-append_seam world.trace (read_events left));
      }

  pub read_performs : (base x : ℕ) (left : List ℕ) (own : List Line) (cells : ℕ → Option ℕ) (world : World) → world.left ≡ left → All (λ byte. byte < 256) left → own ≡ record { action = Action.Routine Routine.ReadByte; args = []; into = Some x } ∷ []
      → Performs own base x int32 (byte_value (got left)) cells world (world_behind left world) (read_events left)
  read_performs base x [] own cells world left_is bytes lines =
      subst (λ some. Performs some base x int32 (byte_value None) cells world (world_behind [] world) (input_end ∷ [])) (sym lines)
      (read_runs base x (2 ^ 32 - 1) [] own cells world (ap (λ l. read_next l world) left_is ∙ ap (λ l. answers (2 ^ 32 - 1) (record world { left = l; trace = world.trace ++ input_end ∷ [] }) false) left_is) (refl, lit< tt))
  read_performs base x (byte ∷ rest) own cells world left_is bytes lines =
      let small : byte < 256 = All-head (λ b. b < 256) byte rest bytes in
      subst (λ some. Performs some base x int32 (byte_value (Some byte)) cells world (world_behind (byte ∷ rest) world) (input byte ∷ [])) (sym lines)
      (read_runs base x byte (byte ∷ rest) own cells world (ap (λ l. read_next l world) left_is) (ap integer (sym (to_z_pos w32 byte (omega (arith, small)))), omega (arith, small)))
