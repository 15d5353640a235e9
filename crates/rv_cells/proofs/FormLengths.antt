-- The lines of forms are short: each is so many instructions at most.
use Rattle.std.proofs.Common.{◌≡◌, ℕ, suc, ◌+◌, ◌*◌, ◌≤◌, Bool, true, false, not, List, [], ◌∷◌, ◌++◌, length}
use Rattle.std.proofs.Common.{Option, Some, None, refl, ap, arith}
use Rattle.std.specs.Prelude.{filter, if◌then◌else◌}
use Rattle.kk_syntax.specs.declared.operator.BinaryOperator.{BinaryOperator}
use Rattle.kk_syntax.specs.declared.operator.BinaryOperator.TheVariants as OfBinary
use Rattle.kk_syntax.specs.declared.operator.UnaryOperator.{UnaryOperator}
use Rattle.kk_syntax.specs.declared.operator.UnaryOperator.TheVariants.{Negate, Not}
use Rattle.kk_syntax.specs.declared.program.Form.{Form}
use Rattle.kk_syntax.specs.declared.program.Form.TheVariants.{Number, Unit as Nothing, ReadByte, PrintText}
use Rattle.kk_syntax.specs.declared.program.Form.TheVariants.{Unary, Binary, Print, Construct, Call}
use Rattle.kk_syntax.specs.Programs.{text_at}
use Rattle.kk_syntax.specs.Shapes.{is_among}
use Rattle.kk_source.specs.FormEffects.{piece_of}
use Rattle.kk_core.specs.CodeNodes.{form_words, give_words, field_words, reference_length, call_words, argument_words, tail_call_words, other_form_words, string_words, opened_field_words}
use Rattle.kk_counted.specs.Lowerable.{HasArity}
use Rattle.kk_counted.specs.TokenLengths.{hold_length, unhold_length, other_length}
use Rattle.kk_counted.specs.TokenedWords.{prints_in_form}
use Rattle.rv_isa.specs.declared.asm.Action.TheVariants.{Label, TailCall, Call as CallOf, Routine as Calls}
use Rattle.rv_isa.specs.declared.asm.ImmediateOperation.{ImmediateOperation}
use Rattle.rv_isa.specs.declared.asm.ImmediateOperation.TheVariants.{Addi, Sltiu, Xori}
use Rattle.rv_isa.specs.declared.asm.Operation.TheVariants as Op
use Rattle.rv_isa.specs.declared.asm.RegisterOperation.TheVariants as Register
use Rattle.rv_isa.specs.declared.routine.Routine.TheVariants.{Take}
use Rattle.rv_isa.specs.AsmCode.{Line}
use Rattle.rv_isa.specs.Costs.{line_length, code_length}
use Rattle.rv_lower.specs.Lines.{computes, sets, copies_to, acts, registers, copies, temporaries}
use Rattle.rv_lower.specs.Lowered.{Goal, returns, joins, goal_lines, tail_lines}
use Rattle.rv_lower.specs.Lines.{MakesTruth, Compares, ComparesWithOne, BinaryLines, PrintLines, AppliedLines}
use Rattle.rv_cells.specs.Layout.{header_of, first_field}
use Rattle.rv_cells.specs.CellLines.{Loads, Stores, AllLoads, AllStores, dup_lines, drop_lines, dups_lines, drops_lines}
use Rattle.rv_cells.specs.CellLines.{StoresIf, SomeStores, SetIf, is_kept, ConstructLines, FillLines, TokenUniqueLines}
use Rattle.rv_cells.specs.CellLines.{hold_line, hold_lines, unhold_lines, leaving_lines, both_ways}
use Rattle.rv_cells.specs.CountedLines.{Setting, ComputeLines}

pub lines_append : (first second : List Line) → code_length (first ++ second) ≡ code_length first + code_length second
lines_append [] second = omega arith
lines_append (line ∷ first) second = omega (arith, lines_append first second)

-- where a value goes
pub goal_length : (goal : Goal) (x : ℕ) → code_length (goal_lines goal x) ≤ give_words
goal_length returns x = omega arith
goal_length (joins y label) x = omega arith

-- ---- words of cells

pub load_length : (cell i into : ℕ) (line : Line) → Loads cell i into line → line_length line ≡ 4
load_length cell i into line is = ap line_length is.2

pub store_length : (cell i from : ℕ) (line : Line) → Stores cell i from line → line_length line ≡ field_words
store_length cell i from line is = ap line_length is.2

pub loads_length : (cell i : ℕ) (xs : List ℕ) (lines : List Line) → AllLoads cell i xs lines → code_length lines ≡ 4 * length xs
loads_length cell i [] lines is = let empty = ap code_length is in omega (arith, empty)
loads_length cell i (x ∷ xs) lines is =
    let whole = ap code_length is.4 in
    let one = load_length cell i x is.0 is.2 in
    let more = loads_length cell (suc i) xs is.1 is.3 in omega (arith, whole, one, more)

stores_length : (cell i : ℕ) (xs : List ℕ) (lines : List Line) → AllStores cell i xs lines
    → code_length lines ≡ field_words * length xs
stores_length cell i [] lines is = let empty = ap code_length is in omega (arith, empty)
stores_length cell i (x ∷ xs) lines is =
    let whole = ap code_length is.4 in
    let one = store_length cell i x is.0 is.2 in
    let more = stores_length cell (suc i) xs is.1 is.3 in omega (arith, whole, one, more)

-- ---- references

-- those that are taken and those that are not are all together
filter_apart : (takes : ℕ → Bool) (xs : List ℕ) → length (filter takes xs) + length (filter (λ x. not (takes x)) xs) ≡ length xs
filter_apart takes [] = omega arith
filter_apart takes (x ∷ xs) = by (takes x) (filter_apart takes xs)
  where
    by : (t : Bool) → length (filter takes xs) + length (filter (λ y. not (takes y)) xs) ≡ length xs
        → length (if t then x ∷ filter takes xs else filter takes xs)
        + length (if not t then x ∷ filter (λ y. not (takes y)) xs else filter (λ y. not (takes y)) xs)
        ≡ suc (length xs)
    by true apart = omega (arith, apart)
    by false apart = omega (arith, apart)

module _ (holds : ℕ → Bool) where
  pub dup_length : (x : ℕ) → code_length (dup_lines holds x) ≤ reference_length
  dup_length x = by (holds x)
    where
      by : (t : Bool) → code_length (dup_lines (λ y. t) x) ≤ reference_length
      by true = omega arith
      by false = omega arith

  pub drop_length : (x : ℕ) → code_length (drop_lines holds x) ≤ reference_length
  drop_length x = by (holds x)
    where
      by : (t : Bool) → code_length (drop_lines (λ y. t) x) ≤ reference_length
      by true = omega arith
      by false = omega arith

  pub dups_length : (xs : List ℕ) → code_length (dups_lines holds xs) ≤ reference_length * length xs
  dups_length [] = omega arith
  dups_length (x ∷ xs) =
      let whole = lines_append (dup_lines holds x) (dups_lines holds xs) in
      let one = dup_length x in
      let more = dups_length xs in omega (arith, whole, one, more)

  pub drops_length : (xs : List ℕ) → code_length (drops_lines holds xs) ≤ reference_length * length xs
  drops_length [] = omega arith
  drops_length (x ∷ xs) =
      let whole = lines_append (drop_lines holds x) (drops_lines holds xs) in
      let one = drop_length x in
      let more = drops_length xs in omega (arith, whole, one, more)

  -- ---- forms that touch cells

  -- both ways of an opening by the count of a cell
  ways_length : (into : Option ℕ) (second behind filled token : ℕ) (alone shared : List Line)
      → code_length (both_ways into second behind filled token alone shared)
      ≡ code_length alone + code_length shared + code_length (leaving_lines into token behind filled)
  ways_length None second behind filled token alone shared =
      let last : List Line = acts (Label behind) [] ∷ [] in
      let leaving : List Line = leaving_lines None token behind filled in
      let apart = lines_append (shared ++ leaving) ((acts (Label second) [] ∷ alone) ++ last) in
      let first = lines_append shared leaving in
      let ending = lines_append alone last in
      omega (arith, apart, first, ending)
  ways_length (Some into) second behind filled token alone shared =
      let last : List Line = acts (Label behind) [] ∷ [] in
      let leaving : List Line = leaving_lines (Some into) token behind filled in
      let apart = lines_append (alone ++ leaving) ((acts (Label second) [] ∷ shared) ++ last) in
      let first = lines_append alone leaving in
      let ending = lines_append shared last in
      omega (arith, apart, first, ending)

  leaving_length : (into : Option ℕ) (token behind filled : ℕ) → code_length (leaving_lines into token behind filled) ≤ 6
  leaving_length None token behind filled = omega arith
  leaving_length (Some into) token behind filled = omega arith

  pub token_unique_length : (base second behind filled x : ℕ) (fields used : List ℕ) (token : ℕ) (into : Option ℕ)
      (lines : List Line) → TokenUniqueLines base holds second behind filled x fields used token into lines
      → code_length lines ≤ 38 + opened_field_words * length fields
  token_unique_length base second behind filled x fields used token into lines is =
      let kept : List ℕ = filter (is_among used) fields in
      let others : List ℕ = filter (λ y. not (is_among used y)) fields in
      let copied : List Line = copies_to x token ∷ [] in
      let dropped : List Line = drops_lines holds others in
      let dupped : List Line = dups_lines holds kept in
      let lowered : List Line = is.2 ∷ computes (Op.Immediate Addi is.3) (base ∷ []) base ∷ is.4 ∷ sets 0 token ∷ dupped in
      let alone : List Line = is.1 ++ (dropped ++ copied) in
      let shared : List Line = is.1 ++ lowered in
      let whole = ap code_length is.10 in
      let both = ways_length into second behind filled token alone shared in
      let leaves = leaving_length into token behind filled in
      let first = lines_append is.1 (dropped ++ copied) in
      let copies = lines_append dropped copied in
      let other = lines_append is.1 lowered in
      let test = load_length x 0 base is.0 is.5 in
      let loads = loads_length x 2 fields is.1 is.6 in
      let count = load_length x 0 base is.2 is.7 in
      let store = store_length x 0 base is.4 is.9 in
      let drops = drops_length others in
      let dups = dups_length kept in
      let all = filter_apart (is_among used) fields in
      omega (arith, whole, both, leaves, first, copies, other, test, loads, count, store, drops, dups, all)

pub construct_length : (base x header : ℕ) (arguments : List ℕ) (lines : List Line) → ConstructLines base x header arguments lines
    → code_length lines ≤ 19 + field_words * length arguments
construct_length base x header arguments lines is =
    let whole = ap code_length is.6 in
    let apart = lines_append is.1 (sets 1 base ∷ is.2 ∷ []) in
    let head = store_length x 1 base is.0 is.3 in
    let fields = stores_length x 2 arguments is.1 is.4 in
    let count = store_length x 0 base is.2 is.5 in omega (arith, whole, apart, head, fields, count)

-- ---- tokens

holds_length : (tokens : List ℕ) → code_length (hold_lines tokens) ≡ hold_length * length tokens
holds_length [] = omega arith
holds_length (token ∷ tokens) =
    let apart = lines_append (hold_lines tokens) (hold_line token ∷ []) in
    let more = holds_length tokens in omega (arith, apart, more)

unholds_length : (tokens : List ℕ) → code_length (unhold_lines tokens) ≤ unhold_length * length tokens
unholds_length [] = omega arith
unholds_length (token ∷ tokens) = let more = unholds_length tokens in omega (arith, more)

-- the stores of the kept fields and those of the others are as many as the fields
both_length : (cell : ℕ) (kept : List ℕ) (i position : ℕ) (xs : List ℕ) (left fields : List Line)
    → SomeStores (is_kept true kept) cell i position xs left → SomeStores (is_kept false kept) cell i position xs fields
    → code_length left + code_length fields ≡ field_words * length xs
both_length cell kept i position [] left fields one two =
    let empty = ap code_length one in let empty_too = ap code_length two in omega (arith, empty, empty_too)
both_length cell kept i position (x ∷ xs) left fields one two =
    let first = ap code_length one.4 in
    let second = ap code_length two.4 in
    let apart = lines_append one.0 one.1 in
    let apart_too = lines_append two.0 two.1 in
    let here = by (is_among kept position) one.2 two.2 in
    let more = both_length cell kept (suc i) (suc position) xs one.1 two.1 one.3 two.3 in
    omega (arith, first, second, apart, apart_too, here, more)
  where
    by : (b : Bool) → StoresIf b cell i x one.0 → StoresIf (not b) cell i x two.0
        → code_length one.0 + code_length two.0 ≡ field_words
    by true is empty =
        let whole = ap code_length is.2 in
        let store = store_length cell i x is.0 is.1 in
        let none = ap code_length empty in omega (arith, whole, store, none)
    by false empty is =
        let whole = ap code_length is.2 in
        let store = store_length cell i x is.0 is.1 in
        let none = ap code_length empty in omega (arith, whole, store, none)

-- a word is stored on one way or on the other
set_length : (b : Bool) (base x i word : ℕ) (one two : List Line) → SetIf b base x i word one → SetIf (not b) base x i word two
    → code_length one + code_length two ≤ 8
set_length true base x i word one two is empty =
    let whole = ap code_length is.2 in
    let store = store_length x i base is.0 is.1 in
    let none = ap code_length empty in omega (arith, whole, store, none)
set_length false base x i word one two empty is =
    let whole = ap code_length is.2 in
    let store = store_length x i base is.0 is.1 in
    let none = ap code_length empty in omega (arith, whole, store, none)

pub fill_length : (base x token : ℕ) (others : List ℕ) (filled header : ℕ) (arguments kept : List ℕ) (head count : Bool)
    (lines : List Line) → FillLines base x token others filled header arguments kept head count lines
    → code_length lines ≤ 27 + field_words * length arguments + other_length * length others
fill_length base x token others filled header arguments kept head count lines is =
    let taken : Line = record { action = Calls Take; args = []; into = Some x } in
    let built : List Line = acts (Label filled) [] ∷ is.1 in
    let asked : List Line = taken ∷ (unhold_lines others ++ (is.0 ++ built)) in
    let whole = ap code_length is.4 in
    let apart = lines_append (hold_lines others) asked in
    let back = lines_append (unhold_lines others) (is.0 ++ built) in
    let behind = lines_append is.0 built in
    let held = holds_length others in
    let taken_back = unholds_length others in
    let left = ap code_length is.2.6 in
    let left_first = lines_append is.2.0 (is.2.1 ++ is.2.2) in
    let left_last = lines_append is.2.1 is.2.2 in
    let stores = ap code_length is.3.6 in
    let stores_first = lines_append is.3.0 (is.3.1 ++ is.3.2) in
    let stores_last = lines_append is.3.1 is.3.2 in
    let headers = set_length head base x 1 header is.2.0 is.3.0 is.2.3 is.3.3 in
    let counts = set_length count base x 0 1 is.2.2 is.3.2 is.2.5 is.3.5 in
    let both = both_length x kept first_field 0 arguments is.2.1 is.3.1 is.2.4 is.3.4 in
    omega (
      arith,
      whole,
      apart,
      back,
      behind,
      held,
      taken_back,
      left,
      left_first,
      left_last,
      stores,
      stores_first,
      stores_last,
      headers,
      counts,
      both,
    )

-- ---- operators

truth_length : (x : ℕ) (lines : List Line) → MakesTruth x lines → code_length lines ≡ 8
truth_length x lines is = ap code_length is.4

compares_length : (x : ℕ) (first lines : List Line) → Compares x first lines → code_length lines ≡ code_length first + 8
compares_length x first lines is =
    let whole = ap code_length is.2 in
    let apart = lines_append first is.0 in
    let truth = truth_length x is.0 is.1 in omega (arith, whole, apart, truth)

-- one more line behind the first one, whose length is this
with_one_length : (further : ImmediateOperation) (x : ℕ) (first : Line) (lines : List Line) → line_length first ≡ 6
    → ComparesWithOne further x first lines → code_length lines ≡ 18
with_one_length further x first lines size is =
    let whole = compares_length x (first ∷ computes (Op.Immediate further is.0) (x ∷ []) x ∷ []) lines is.2 in
    omega (arith, whole, size)

binary_length : (base x : ℕ) (operator : BinaryOperator) (a b : ℕ) (lines : List Line) → BinaryLines base x operator a b lines
    → code_length lines ≤ other_form_words
binary_length base x OfBinary.Add a b lines is = let whole = ap code_length is in omega (arith, whole)
binary_length base x OfBinary.Subtract a b lines is = let whole = ap code_length is in omega (arith, whole)
binary_length base x OfBinary.Multiply a b lines is = let whole = ap code_length is in omega (arith, whole)
binary_length base x OfBinary.Remainder a b lines is = let whole = ap code_length is in omega (arith, whole)
binary_length base x OfBinary.Divide a b lines is = let whole = ap code_length is in omega (arith, whole)
binary_length base x OfBinary.Equal a b lines is =
    let whole = with_one_length Sltiu x (registers x a b (Op.Register Register.Sub)) lines refl is in omega (arith, whole)
binary_length base x OfBinary.NotEqual a b lines is =
    let whole = compares_length x (registers x a b (Op.Register Register.Sub) ∷ sets 0 base ∷ registers x base x
    (Op.Register Register.Sltu) ∷ []) lines is in omega (arith, whole)
binary_length base x OfBinary.Less a b lines is =
    let whole = compares_length x (registers x a b (Op.Register Register.Slt) ∷ []) lines is in omega (arith, whole)
binary_length base x OfBinary.Greater a b lines is =
    let whole = compares_length x (registers x b a (Op.Register Register.Slt) ∷ []) lines is in omega (arith, whole)
binary_length base x OfBinary.LessEqual a b lines is =
    let whole = with_one_length Xori x (registers x b a (Op.Register Register.Slt)) lines refl is in omega (arith, whole)
binary_length base x OfBinary.GreaterEqual a b lines is =
    let whole = with_one_length Xori x (registers x a b (Op.Register Register.Slt)) lines refl is in omega (arith, whole)

unary_length : (base x : ℕ) (operator : UnaryOperator) (arguments : List ℕ) (lines : List Line) → length arguments ≡ 1
    → AppliedLines base x (Unary operator) arguments lines → code_length lines ≤ 9
unary_length base x operator [] lines arity is = absurd (omega (arith, arity))
unary_length base x Negate (a ∷ []) lines arity is = let whole = ap code_length is in omega (arith, whole)
unary_length base x Not (a ∷ []) lines arity is = let whole = ap code_length is.2 in omega (arith, whole)
unary_length base x operator (a ∷ b ∷ more) lines arity is = absurd (omega (arith, arity))

-- ---- calls

copies_length : (base : ℕ) (xs : List ℕ) → code_length (copies base xs) ≡ 4 * length xs
copies_length base [] = omega arith
copies_length base (x ∷ xs) = let more = copies_length (base + 1) xs in omega (arith, more)

temporaries_length : (base : ℕ) (xs : List ℕ) → length (temporaries base xs) ≡ length xs
temporaries_length base [] = omega arith
temporaries_length base (x ∷ xs) = let more = temporaries_length (base + 1) xs in omega (arith, more)

call_length : (base x f : ℕ) (arguments : List ℕ) (lines : List Line)
    → AppliedLines base x (Call f) arguments lines → code_length lines ≤ call_words + argument_words * length arguments
call_length base x f arguments lines is =
    let call : Line = record { action = CallOf f; args = temporaries base arguments; into = Some x } in
    let whole = ap code_length is in
    let apart = lines_append (copies base arguments) (call ∷ []) in
    let copied = copies_length base arguments in
    let handed = temporaries_length base arguments in omega (arith, whole, apart, copied, handed)

pub tail_length : (base f : ℕ) (arguments : List ℕ) → code_length (tail_lines base f arguments)
    ≤ tail_call_words + argument_words * length arguments
tail_length base f arguments =
    let apart = lines_append (copies base arguments) (acts (TailCall f) (temporaries base arguments) ∷ []) in
    let copied = copies_length base arguments in
    let handed = temporaries_length base arguments in omega (arith, apart, copied, handed)

-- ---- forms on variables

print_length : (base : ℕ) (texts : List (List ℕ)) (bytes : List ℕ) (lines : List Line) → PrintLines base texts bytes lines
    → code_length lines ≤ 10
print_length base texts [] lines is = let whole = ap code_length is in omega (arith, whole)
print_length base texts (byte ∷ more) lines is = let whole = ap code_length is.2 in omega (arith, whole)

-- a form is so many instructions as it has words, but for those of its string
module _ (setting : Setting) where
  pub form_few : (x : ℕ) (form : Form) (arguments : List ℕ) (lines : List Line) → HasArity form arguments
      → ComputeLines setting x form arguments lines
      → code_length lines + string_words * prints_in_form form ≤ form_words form arguments
  form_few x (Number value) arguments lines arity is = let whole = ap code_length is.3 in omega (arith, whole)
  form_few x Nothing arguments lines arity is = let whole = ap code_length is in omega (arith, whole)
  form_few x ReadByte arguments lines arity is = let whole = ap code_length is in omega (arith, whole)
  form_few x (PrintText how text) arguments lines arity is =
      let whole = ap code_length is.2 in
      let apart = lines_append is.0 (sets 1 x ∷ []) in
      let piece : List ℕ = piece_of how (text_at setting.texts.literals text) in
      let print = print_length setting.base setting.texts.constants piece is.0 is.1 in
      omega (arith, whole, apart, print)
  form_few x (Unary operator) arguments lines arity is =
      let whole = unary_length setting.base x operator arguments lines arity is in omega (arith, whole)
  form_few x (Binary operator) [] lines arity is = absurd (omega (arith, arity))
  form_few x (Binary operator) (a ∷ []) lines arity is = absurd (omega (arith, arity))
  form_few x (Binary operator) (a ∷ b ∷ []) lines arity is =
      let whole = binary_length setting.base x operator a b lines is in omega (arith, whole)
  form_few x (Binary operator) (a ∷ b ∷ c ∷ more) lines arity is = absurd (omega (arith, arity))
  form_few x (Print how) [] lines arity is = absurd (omega (arith, arity))
  form_few x (Print how) (a ∷ []) lines arity is = let whole = ap code_length is in omega (arith, whole)
  form_few x (Print how) (a ∷ b ∷ more) lines arity is = absurd (omega (arith, arity))
  form_few x (Construct c) [] lines arity is = let whole = ap code_length is in omega (arith, whole)
  form_few x (Construct c) (a ∷ arguments) lines arity is =
      let whole = construct_length setting.base x (header_of setting.layout c) (a ∷ arguments) lines is in omega (arith, whole)
  form_few x (Call f) arguments lines arity is =
      let whole = call_length setting.base x f arguments lines is in omega (arith, whole)
