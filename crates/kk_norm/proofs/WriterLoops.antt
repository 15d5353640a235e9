-- How far the loops over arguments and over statements have come, and what blocks, variables and forms add.
use Rattle.std.proofs.Common.{Result, Ok, Err, ◌≡◌, ℕ, ◌+◌, ◌^◌, ◌<◌, ◌≤◌, Bool, zero, suc, List, [], ◌∷◌, ◌++◌, length, take, map, false, refl, sym, ap, subst, ◌∙◌, arith, append_assoc}
use Rattle.std.specs.Prelude.{IfOk}
use Rattle.std.proofs.lemmas.List.{append-nil}
use Rattle.kk_syntax.proofs.Elements.{each_parts}
use Rattle.kk_syntax.specs.Shapes.{variable_of, gathered}
use Rattle.kk_syntax.specs.declared.program.Form.{Form}
use Rattle.kk_syntax.specs.declared.program.Form.TheVariants.{Call}
use Rattle.kk_syntax.specs.Programs.{ConstructorTree}
use Rattle.kk_syntax.specs.Trees.{Tree, Trees, no_tree, tree, variable, apply, branch as if_tree, StatementTree, block_of}
use Rattle.kk_core.specs.Codes.{Code, give, compute, use_of, inside, computes, uses, runs, plug, step_piece}
use Rattle.kk_core.specs.Truths.{truth_case}
use Rattle.kk_norm.specs.declared.naming.Named.{Named}
use Rattle.kk_norm.specs.declared.writer.Writer.{Writer}
use Rattle.kk_norm.specs.MatchRows.{gathers_rows, IsSomeRow, MatchesHaveRows, AllMatchesHaveRows}
use Rattle.kk_norm.proofs.MatchRows.{of_parts, of_first}
use Rattle.kk_norm.specs.Names.{Names, name_of, named}
use Rattle.kk_norm.specs.Normalized.{Then, final, next, size, size_all, atom, atoms, finish, IsCode, AreCodes}
use Rattle.kk_norm.specs.Written.{names_of, behind, WritesPiece, WritesStep, WritesValue, WritesValues, WritesStatements, KeepsNames, WritesEnd, WritesChoice, WritesBlock, IsWritten}

-- what follows where a call succeeds, from what it promises
pub if_ok_three : {A E : Type 0} (r : Result A E) (P Q R S : A → Type 0) → IfOk r P → IfOk r Q → IfOk r R
    → ((x : A) → P x → Q x → R x → S x) → IfOk r S
if_ok_three (Ok x) P Q R S one two three all = all x one two three
if_ok_three (Err e) P Q R S one two three all = tt

-- ---- expressions

-- of all expressions some are left, and the others' values are in xs
pub record ValuesSoFar (constructors : List ConstructorTree) (old now : Writer) (left all : Trees) (xs : List ℕ) : Type 0 where
  pub number : now.next + size_all left ≡ old.next + size_all all
  pub names : now.names.items ≡ old.names.items
  pub values : xs ++ atoms (names_of old.names.items) now.next left ≡ atoms (names_of old.names.items) old.next all
  pub steps : (rest code : Code) → AreCodes constructors (names_of old.names.items) now.next left rest code
      → (whole : Code) × AreCodes constructors (names_of old.names.items) old.next all rest whole
      × (behind now code ≡ behind old whole)
  pub plain : AllMatchesHaveRows left

pub values_start : {constructors : List ConstructorTree} → (writer : Writer) (all : Trees) → AllMatchesHaveRows all
    → ValuesSoFar constructors writer writer all all []
values_start {constructors} writer all plain =
    record { number = refl; names = refl; values = refl; steps = λ rest code coded. (code, coded, refl); plain = plain }

pub values_more : {constructors : List ConstructorTree} → (old now new : Writer) (e : Tree) (left all : Trees) (xs : List ℕ) (x : ℕ)
    → ValuesSoFar constructors old now (tree e left) all xs → WritesValue constructors e now new x
    → ValuesSoFar constructors old new left all (xs ++ x ∷ [])
values_more {constructors} old now new e left all xs x so_far writes =
    let names : Names = names_of old.names.items in
    let here : names_of now.names.items ≡ names = ap names_of so_far.names in
    let at : new.next ≡ now.next + size e = writes.number in
    record {
      number = omega (arith, so_far.number);
      names = writes.names ∙ so_far.names;
      values =
          append_assoc xs (x ∷ []) (atoms names new.next left)
          ∙ (ap (λ y. xs ++ (y ∷ atoms names new.next left)) (writes.value ∙ ap (λ some. atom some now.next e) here)
          ∙ (ap (λ n. xs ++ (atom names now.next e ∷ atoms names n left)) at ∙ so_far.values));
      steps = λ rest code coded.
          let one = writes.steps code in
          let whole = so_far.steps rest one.0 (
            code,
            subst (λ (n : ℕ). AreCodes constructors names n left rest code) at coded,
            subst
                (λ (some : Names). IsCode constructors (next code) some now.next e one.0) here one.1,
          ) in
          (whole.0, whole.1, one.2 ∙ whole.2);
      plain = (of_first e left so_far.plain).1;
    }

pub values_done : {constructors : List ConstructorTree} → (old now : Writer) (all : Trees) (xs : List ℕ)
    → ValuesSoFar constructors old now no_tree all xs → WritesValues constructors all old now xs
values_done {constructors} old now all xs so_far =
    record {
      number = omega (arith, so_far.number);
      names = so_far.names;
      values = sym (append-nil xs) ∙ so_far.values;
      steps = λ rest. so_far.steps rest rest refl;
    }

-- ---- statements

take_of_take : {A : Type 0} (a b : ℕ) (xs : List A) → a ≤ b → take a (take b xs) ≡ take a xs
take_of_take zero b xs le = refl
take_of_take (suc a) zero xs le = absurd (omega arith)
take_of_take (suc a) (suc b) [] le = refl
take_of_take (suc a) (suc b) (x ∷ xs) le = ap (λ l. x ∷ l) (take_of_take a b xs (omega arith))

-- the names of a first writer are among a second one's, and those among a third one's
pub kept_longer : (first second third : List Named) → length first ≤ length second → take (length first) second ≡ first
    → take (length second) third ≡ second → take (length first) third ≡ first
kept_longer first second third le one two =
    sym (take_of_take (length first) (length second) third le) ∙ (ap (take (length first)) two ∙ one)

-- of all statements of a block some are left
pub record StatementsSoFar (constructors : List ConstructorTree) (old now : Writer) (left all : List StatementTree) : Type 0 where
  pub number : (last : Tree) → now.next + size (block_of left last) ≡ old.next + size (block_of all last)
  pub value : (last : Tree) → atom (names_of now.names.items) now.next (block_of left last) ≡ atom
      (names_of old.names.items) old.next (block_of all last)
  pub steps : (last : Tree) (k : Then) (code : Code) → IsCode constructors k (names_of now.names.items) now.next
      (block_of left last) code
      → IsWritten constructors k (names_of old.names.items) old.next (block_of all last) old now code
  pub plain : (last : Tree) → MatchesHaveRows (block_of all last) → MatchesHaveRows (block_of left last)
  pub longer : length old.names.items ≤ length now.names.items
  pub kept : KeepsNames old now

pub statements_start : {constructors : List ConstructorTree} → (writer : Writer) (all : List StatementTree)
    → KeepsNames writer writer
    → StatementsSoFar constructors writer writer all all
statements_start {constructors} writer all kept =
    record {
      number = λ last. refl;
      value = λ last. refl;
      steps = λ last k code coded. (code, coded, refl);
      plain = λ last plain. plain;
      longer = omega arith;
      kept = kept;
    }

-- a statement's value is written, and then what it binds is named
pub statements_more : {constructors : List ConstructorTree} → (old now between new : Writer) (s : StatementTree)
    (left all : List StatementTree) (x : ℕ)
    → StatementsSoFar constructors old now (s ∷ left) all → WritesValue constructors s.value now between x
    → new.next ≡ between.next → new.steps.items ≡ between.steps.items
    → names_of new.names.items ≡ named (variable_of s.binder) x (names_of between.names.items)
    → length between.names.items ≤ length new.names.items → take (length between.names.items) new.names.items ≡ between.names.items
    → StatementsSoFar constructors old new left all
statements_more {constructors} old now between new s left all x so_far writes number steps names longer kept =
    let names_now : Names = names_of now.names.items in
    let at : new.next ≡ now.next + size s.value = number ∙ writes.number in
    let bound : Names = named (variable_of s.binder) (atom names_now now.next s.value) names_now in
    let named_so : names_of new.names.items ≡ bound
    = names ∙ (ap (λ some. named (variable_of s.binder) x (names_of some)) writes.names
    ∙ ap (λ y. named (variable_of s.binder) y names_now) writes.value) in
    let lengths : length between.names.items ≡ length now.names.items = ap length writes.names in
    record {
      number = λ last. omega (arith, at, so_far.number last);
      value = λ last. ap (λ some. atom some new.next (block_of left last)) named_so
          ∙ (ap (λ n. atom bound n (block_of left last)) at ∙ so_far.value last);
      steps = λ last k code coded.
          let one = writes.steps code in
          let moved : IsCode constructors k bound (now.next + size s.value) (block_of left last) code
          = subst (λ (n : ℕ). IsCode constructors k bound n (block_of left last) code) at
          (subst (λ (some : Names). IsCode constructors k some new.next (block_of left last) code) named_so coded) in
          let whole = so_far.steps last k one.0 (code, moved, one.1) in
          (whole.0, whole.1, ap (λ items. plug (map step_piece items) code) steps ∙ (one.2 ∙ whole.2));
      plain = λ last plain. (of_parts s.value (block_of left last) (so_far.plain last plain)).1;
      longer = omega (arith, so_far.longer);
      kept = kept_longer old.names.items now.names.items new.names.items so_far.longer so_far.kept
          (ap (λ n. take n new.names.items) (sym lengths) ∙ (kept ∙ writes.names));
    }

pub statements_done : {constructors : List ConstructorTree} → (old now : Writer) (all : List StatementTree)
    → StatementsSoFar constructors old now [] all → (last : Tree) → WritesStatements constructors all last old now
statements_done {constructors} old now all so_far last =
    record { number = so_far.number last; value = so_far.value last; steps = λ k code coded. so_far.steps last k code coded }

-- ---- what is asked of the calls in the loops, and of those around them

pub value_asked : {constructors : List ConstructorTree} → (old now : Writer) (left all : Trees) (xs : List ℕ) (e : Tree)
    (rest : Trees) → ValuesSoFar constructors old now left all xs → left ≡ tree e rest → old.next + size_all all < 2 ^ 32
    → MatchesHaveRows e × (now.next + size e < 2 ^ 32)
value_asked {constructors} old now left all xs e rest so_far is room =
    let here : ValuesSoFar constructors old now (tree e rest) all xs = subst
    (λ (es : Trees). ValuesSoFar constructors old now es all xs) is so_far in
    ((of_first e rest here.plain).0, omega (arith, here.number))

abbrev pub StatementsAsked : List StatementTree → ℕ → Type 0
StatementsAsked all n = (last : Tree) × MatchesHaveRows (block_of all last) × (n + size (block_of all last) < 2 ^ 32)

pub statement_asked : {constructors : List ConstructorTree} → (old now : Writer) (left all : List StatementTree) (s : StatementTree)
    (rest : List StatementTree) → StatementsSoFar constructors old now left all → left ≡ s ∷ rest → StatementsAsked all old.next
    → MatchesHaveRows s.value × (now.next + size s.value < 2 ^ 32)
statement_asked {constructors} old now left all s rest so_far is asked =
    let here : StatementsSoFar constructors old now (s ∷ rest) all = subst
    (λ (ss : List StatementTree). StatementsSoFar constructors old now ss all) is so_far in
    ((of_parts s.value (block_of rest asked.0) (here.plain asked.0 asked.1)).0, omega (arith, here.number asked.0, asked.2))

pub statements_asked : (e last : Tree) (all : List StatementTree) (n : ℕ) → e ≡ block_of all last → MatchesHaveRows e
    → n + size e < 2 ^ 32 → StatementsAsked all n
statements_asked e last all n is plain room =
    (last, subst (λ (one : Tree). MatchesHaveRows one) is plain, subst (λ (one : Tree). n + size one < 2 ^ 32) is room)

pub choice_asked : (e condition positive negative : Tree) (n : ℕ) → e ≡ if_tree condition positive negative → MatchesHaveRows e
    → n + size e < 2 ^ 32
    → MatchesHaveRows condition × (MatchesHaveRows positive × (MatchesHaveRows negative
    × (n + size condition + size positive + size negative < 2 ^ 32)))
choice_asked e condition positive negative n is plain room =
    let whole : MatchesHaveRows (if_tree condition positive negative) = subst (λ (one : Tree). MatchesHaveRows one) is plain in
    let first = each_parts IsSomeRow (gathered gathers_rows condition)
    (gathered gathers_rows positive ++ gathered gathers_rows negative) whole in
    let branches = of_parts positive negative first.1 in
    (first.0, (branches.0, (branches.1, omega (arith, ap size is, room))))

plain_last : (all : List StatementTree) (last : Tree) → MatchesHaveRows (block_of all last) → MatchesHaveRows last
plain_last [] last plain = plain
plain_last (s ∷ all) last plain = plain_last all last (of_parts s.value (block_of all last) plain).1

pub last_asked : {constructors : List ConstructorTree} → (e last : Tree) (all : List StatementTree) (old now : Writer)
    → e ≡ block_of all last → MatchesHaveRows e → old.next + size e < 2 ^ 32 → WritesStatements constructors all last old now
    → MatchesHaveRows last × (now.next + size last < 2 ^ 32)
last_asked {constructors} e last all old now is plain room writes =
    (plain_last all last (subst (λ (one : Tree). MatchesHaveRows one) is plain), omega (arith, writes.number, ap size is))

-- ---- blocks

-- behind a block the names are those before it
pub names_back : (old now after : Writer) (bound : ℕ) (left : List Named) → bound ≡ length old.names.items → KeepsNames old now
    → after.names.items ≡ now.names.items → left ≡ take bound after.names.items → left ≡ old.names.items
names_back old now after bound left is kept same taken =
    taken ∙ (ap (take bound) same ∙ (ap (λ n. take n now.names.items) is ∙ kept))

pub block_value : {constructors : List ConstructorTree} → (e last : Tree) (all : List StatementTree) (old now after new : Writer)
    (x : ℕ)
    → e ≡ block_of all last → WritesStatements constructors all last old now → WritesValue constructors last now after x
    → new.next ≡ after.next → new.steps.items ≡ after.steps.items → new.names.items ≡ old.names.items
    → WritesValue constructors e old new x
block_value {constructors} e last all old now after new x is first second number steps names =
    subst (λ (one : Tree). WritesValue constructors one old new x) (sym is)
    (record {
      number = omega (arith, number, second.number, first.number);
      names = names;
      value = second.value ∙ first.value;
      steps = λ rest.
          let one = second.steps rest in
          let whole = first.steps (next rest) one.0 one.1 in
          (whole.0, whole.1, ap (λ items. plug (map step_piece items) rest) steps ∙ (one.2 ∙ whole.2));
    })

pub block_end : {constructors : List ConstructorTree} → (tail : Bool) (e last : Tree) (all : List StatementTree)
    (old now after new : Writer) (end : Code)
    → e ≡ block_of all last → WritesStatements constructors all last old now → WritesEnd constructors tail last now after end
    → new.next ≡ after.next → new.steps.items ≡ after.steps.items → new.names.items ≡ old.names.items
    → WritesEnd constructors tail e old new end
block_end {constructors} tail e last all old now after new end is first second number steps names =
    subst (λ (one : Tree). WritesEnd constructors tail one old new end) (sym is)
    (record {
      number = omega (arith, number, second.number, first.number);
      names = names;
      steps =
          let one = second.steps in
          let whole = first.steps (final tail) one.0 one.1 in
          (whole.0, whole.1, ap (λ items. plug (map step_piece items) end) steps ∙ (one.2 ∙ whole.2));
    })

-- ---- variables, forms and choices

pub variable_value : {constructors : List ConstructorTree} → (e : Tree) (v x : ℕ) (old new : Writer) → e ≡ variable v
    → x ≡ name_of (names_of old.names.items) v
    → WritesPiece (uses x) old new → WritesValue constructors e old new x
variable_value {constructors} e v x old new is name writes =
    subst (λ (one : Tree). WritesValue constructors one old new x) (sym is)
    (record {
      number = omega (arith, writes.number);
      names = writes.names;
      value = name;
      steps = λ rest.
          (use_of (name_of (names_of old.names.items) v) rest, refl, writes.steps rest ∙ ap (λ y. behind old (use_of y rest)) name);
    })

pub variable_end : {constructors : List ConstructorTree} → (tail : Bool) (e : Tree) (v x : ℕ) (writer : Writer) (last : Code)
    → e ≡ variable v
    → x ≡ name_of (names_of writer.names.items) v → last ≡ give x → WritesEnd constructors tail e writer writer last
variable_end {constructors} tail e v x writer last is name last_is =
    subst (λ (one : Tree). WritesEnd constructors tail one writer writer last) (sym is)
    (record {
      number = omega arith;
      names = refl;
      steps = (give (name_of (names_of writer.names.items) v), refl, ap (behind writer) (last_is ∙ ap (λ (y : ℕ). give y) name));
    })

finish_next : (rest : Code) (m : ℕ) (form : Form) (xs : List ℕ) → compute m form xs rest ≡ finish (next rest) m form xs
finish_next rest m (Call f) xs = refl
finish_next rest m form xs = refl

pub apply_value : {constructors : List ConstructorTree} → (e : Tree) (form : Form) (es : Trees) (xs : List ℕ) (old now new : Writer)
    (x : ℕ)
    → e ≡ apply form es → WritesValues constructors es old now xs → WritesStep (computes now.next form xs) now new x
    → WritesValue constructors e old new x
apply_value {constructors} e form es xs old now new x is first second =
    let names : Names = names_of old.names.items in
    subst (λ (one : Tree). WritesValue constructors one old new x) (sym is)
    (record {
      number = omega (arith, second.number, first.number);
      names = second.names ∙ first.names;
      value = second.is ∙ first.number;
      steps = λ rest.
          let own : compute now.next form xs rest ≡ finish (next rest) (old.next + size_all es) form (atoms names old.next es)
          = ap (λ (n : ℕ). compute n form xs rest) first.number
          ∙ (ap (λ (all : List ℕ). compute (old.next + size_all es) form all rest) first.values
          ∙ finish_next rest (old.next + size_all es) form (atoms names old.next es)) in
          let one = first.steps (compute now.next form xs rest) in
          (one.0, subst (λ (last : Code). AreCodes constructors names old.next es last one.0) own one.1, second.steps rest ∙ one.2);
    })

pub apply_end : {constructors : List ConstructorTree} → (tail : Bool) (e : Tree) (form : Form) (es : Trees) (xs : List ℕ)
    (old now new : Writer) (last : Code)
    → e ≡ apply form es → WritesValues constructors es old now xs → new.next ≡ now.next + 1 → new.names.items ≡ now.names.items
    → behind new last ≡ behind now (finish (final tail) now.next form xs) → WritesEnd constructors tail e old new last
apply_end {constructors} tail e form es xs old now new last is first number names_kept written =
    let names : Names = names_of old.names.items in
    let own : finish (final tail) now.next form xs ≡ finish (final tail) (old.next + size_all es) form (atoms names old.next es)
    = ap (λ (n : ℕ). finish (final tail) n form xs) first.number
    ∙ ap (λ (all : List ℕ). finish (final tail) (old.next + size_all es) form all) first.values in
    subst (λ (one : Tree). WritesEnd constructors tail one old new last) (sym is)
    (record {
      number = omega (arith, number, first.number);
      names = names_kept ∙ first.names;
      steps =
          let one = first.steps (finish (final tail) now.next form xs) in
          (one.0, subst (λ (end : Code). AreCodes constructors names old.next es end one.0) own one.1, written ∙ one.2);
    })

-- What is written, and then a case, is an expression whose value the next variable takes: `first` is what is written before, and
-- `joins` tells how its code goes on as the code of the whole.
pub case_as_value : {constructors : List ConstructorTree} → (e first : Tree) (old now new : Writer) (last : Code) (x : ℕ)
    → now.next + 1 ≡ old.next + size e → now.next ≡ atom (names_of old.names.items) old.next e → now.names.items ≡ old.names.items
    → ((rest : Code) → IsWritten constructors (next rest) (names_of old.names.items) old.next first old now rest)
    → ((rest code : Code) → IsCode constructors (next (inside now.next last rest)) (names_of old.names.items) old.next first code
    → IsCode constructors (next rest) (names_of old.names.items) old.next e code)
    → WritesStep (runs now.next last) now new x → WritesValue constructors e old new x
case_as_value e first old now new last x number value names before joins step = record {
  number = omega (arith, number, step.number);
  names = step.names ∙ names;
  value = step.is ∙ value;
  steps = λ rest. let one = before (inside now.next last rest) in (one.0, joins rest one.0 one.1, step.steps rest ∙ one.2);
}

-- the same where the case is the end of a block
pub case_as_end : {constructors : List ConstructorTree} → (tail : Bool) (e first : Tree) (old now new : Writer) (last : Code)
    → now.next + 1 ≡ old.next + size e → now.names.items ≡ old.names.items
    → ((rest : Code) → IsWritten constructors (next rest) (names_of old.names.items) old.next first old now rest)
    → ((code : Code) → IsCode constructors (next last) (names_of old.names.items) old.next first code
    → IsCode constructors (final tail) (names_of old.names.items) old.next e code)
    → new.next ≡ now.next + 1 → new.names.items ≡ now.names.items → new.steps.items ≡ now.steps.items
    → WritesEnd constructors tail e old new last
case_as_end tail e first old now new last number names before joins next_is names_kept steps = record {
  number = omega (arith, number, next_is);
  names = names_kept ∙ names;
  steps = let one = before last in (one.0, joins one.0 one.1, ap (λ items. plug (map step_piece items) last) steps ∙ one.2);
}

-- an `if` as a step, whose value the next variable takes
pub choice_value : {constructors : List ConstructorTree} → (e condition positive negative : Tree) (old now new : Writer)
    (last : Code) (x : ℕ)
    → e ≡ if_tree condition positive negative → WritesChoice constructors false condition positive negative old now last
    → WritesStep (runs now.next last) now new x
    → WritesValue constructors e old new x
choice_value {constructors} e condition positive negative old now new last x is first second =
    let names : Names = names_of old.names.items in
    let m : ℕ = old.next + size condition + size positive + size negative in
    let parts = first.last_is in
    subst (λ (one : Tree). WritesValue constructors one old new x) (sym is)
    (case_as_value (if_tree condition positive negative) condition old now new last x (omega (arith, first.number)) first.number first.names first.steps
    (λ rest code coded.
    let own : inside now.next last rest ≡ inside m (truth_case (atom names old.next condition) parts.0 parts.1) rest
    = ap (λ (n : ℕ). inside n last rest) first.number ∙ ap (λ (block : Code). inside m block rest) parts.4 in (
      parts.0,
      parts.1,
      parts.2,
      parts.3,
      subst (λ (behind_it : Code). IsCode constructors (next behind_it) names old.next condition code) own coded,
    )) second)

-- an `if` as the end of a block
pub choice_end : {constructors : List ConstructorTree} → (tail : Bool) (e condition positive negative : Tree) (old now new : Writer)
    (last : Code)
    → e ≡ if_tree condition positive negative → WritesChoice constructors tail condition positive negative old now last
    → new.next ≡ now.next + 1 → new.names.items ≡ now.names.items → new.steps.items ≡ now.steps.items
    → WritesEnd constructors tail e old new last
choice_end {constructors} tail e condition positive negative old now new last is first number names_kept steps =
    let parts = first.last_is in
    subst (λ (one : Tree). WritesEnd constructors tail one old new last) (sym is)
    (case_as_end tail (if_tree condition positive negative) condition old now new last (omega (arith, first.number)) first.names first.steps
    (λ code coded. (
      parts.0,
      parts.1,
      parts.2,
      parts.3,
      subst (λ (behind_it : Code). IsCode constructors (next behind_it) (names_of old.names.items)
          old.next condition code) parts.4 coded,
    )) number names_kept steps)

-- a condition and two blocks
pub choice_done : {constructors : List ConstructorTree} → (tail : Bool) (condition positive negative : Tree)
    (old first second third : Writer) (x : ℕ) (yes_code no_code last : Code)
    → WritesValue constructors condition old first x → WritesBlock constructors tail positive first second yes_code
    → WritesBlock constructors tail negative second third no_code
    → last ≡ truth_case x yes_code no_code → WritesChoice constructors tail condition positive negative old third last
choice_done {constructors} tail condition positive negative old first second third x yes_code no_code last writes one two last_is =
    let names : Names = names_of old.names.items in
    let here : names_of first.names.items ≡ names = ap names_of writes.names in
    let there : names_of second.names.items ≡ names = ap names_of one.names ∙ here in
    record {
      number = omega (arith, two.number, one.number, writes.number);
      names = two.names ∙ (one.names ∙ writes.names);
      last_is = (
        yes_code,
        no_code,
        subst (λ (n : ℕ). IsCode constructors (final tail) names n positive yes_code) writes.number
            (subst (λ (some : Names). IsCode constructors (final tail) some first.next positive yes_code) here one.block_is),
        subst (λ (n : ℕ). IsCode constructors (final tail) names n negative no_code) (second_at writes.number one.number)
            (subst (λ (some : Names). IsCode constructors (final tail) some second.next negative no_code) there two.block_is),
        last_is ∙ ap (λ (y : ℕ). truth_case y yes_code no_code) writes.value,
      );
      steps = λ rest.
          let whole = writes.steps rest in
          (whole.0, whole.1, ap (λ items. plug (map step_piece items) rest) (two.steps ∙ one.steps) ∙ whole.2);
    }
  where
    second_at : first.next ≡ old.next + size condition → second.next ≡ first.next + size positive
        → second.next ≡ old.next + size condition + size positive
    second_at one two = omega arith

-- a block of its own, written where there were no steps
pub block_done : {constructors : List ConstructorTree} → (tail : Bool) (e : Tree) (old began ended new : Writer) (last block : Code)
    → began.next ≡ old.next → began.names.items ≡ old.names.items → began.steps.items ≡ []
    → WritesEnd constructors tail e began ended last
    → block ≡ behind ended last → new.next ≡ ended.next → new.names.items ≡ ended.names.items → new.steps.items ≡ old.steps.items
    → WritesBlock constructors tail e old new block
block_done {constructors} tail e old began ended new last block number names none writes block_is number_kept names_kept
    steps_kept =
    record {
      number = omega (arith, number_kept, writes.number, number);
      names = names_kept ∙ (writes.names ∙ names);
      block_is =
          let one = writes.steps in
          let is : one.0 ≡ block = sym (block_is ∙ (one.2 ∙ ap (λ items. plug (map step_piece items) one.0) none)) in
          subst (λ (code : Code). IsCode constructors (final tail) (names_of old.names.items) old.next e code) is
          (subst (λ (some : Names). IsCode constructors (final tail) some old.next e one.0) (ap names_of names)
          (subst (λ (n : ℕ). IsCode constructors (final tail) (names_of began.names.items) n e one.0) number one.1));
      steps = steps_kept;
    }
