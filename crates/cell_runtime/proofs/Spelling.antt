-- The instructions that lines stand for, taken apart.
use Rattle.std.proofs.Common.{◌≡◌, ◌≤◌, ℕ, ◌+◌, ◌*◌, List, [], ◌∷◌, ◌++◌, length, append-nil, refl, sym, ap, ◌∙◌, subst, arith}
use Rattle.rv_isa.specs.declared.register.Register.{Register}
use Rattle.rv_isa.specs.declared.immediate.Immediate.{Immediate}
use Rattle.rv_isa.specs.declared.immediate.UpperImmediate.{UpperImmediate}
use Rattle.rv_isa.specs.declared.instr.Instr.{Instr}
use Rattle.rv_isa.specs.declared.instr.Instr.TheVariants.{Lui, Addi}
use Rattle.rv_isa.specs.Arithmetic.{sum_word}
use Rattle.rv_isa.specs.Standing.{Code, Has}
use Rattle.rv_isa.proofs.Standing.{Has-front, Has-back}
use Rattle.rv_isa.specs.declared.placed.Native.{Native}
use Rattle.rv_isa.specs.declared.placed.Symbol.{Symbol}
use Rattle.rv_isa.specs.declared.placed.Native.TheVariants.{Instruction, Label, Jump, Branch, Call, Address}
use Rattle.rv_isa.specs.declared.placed.Section.TheVariants.{Data, Constants}
use Rattle.cell_runtime.specs.Lines.{Spells, words_of_line, words_of, labels_of, AreWithin, Makes}

-- instructions as lines
abbrev pub plain : List Instr → List Native
plain [] = []
plain (i ∷ is) = Instruction i ∷ plain is

-- plain instructions stand for themselves
pub plain_is : (memory : ℕ) (is js : List Instr) → Spells memory (plain is) js → js ≡ is
plain_is memory [] js spells = spells
plain_is memory (i ∷ is) js (rest, e, spells) = e ∙ ap (λ more. i ∷ more) (plain_is memory is rest spells)

plain-words : (is : List Instr) → words_of (plain is) ≡ length is
plain-words [] = refl
plain-words (i ∷ is) = let rest = plain-words is in omega arith

plain-labels : (is : List Instr) (before : ℕ) → labels_of before (plain is) ≡ []
plain-labels [] before = refl
plain-labels (i ∷ is) before = plain-labels is (before + 1)

plain-within : (most : ℕ) (is : List Instr) → AreWithin most (plain is)
plain-within most [] = tt
plain-within most (i ∷ is) = plain-within most is

-- plain code is of a kind where the code of its instructions is
pub plain_makes : {K : ℕ → Code → ℕ → Type 0} (is : List Instr) → ((memory : ℕ) (code : Code) (at : ℕ) → Has code at is → K memory code at) → Makes (plain is) (length is) 0 K
plain_makes is does = record {
  size = plain-words is;
  labels = plain-labels is;
  within = plain-within 0 is;
  code = λ memory js code at spells has. does memory code at (subst (Has code at) (plain_is memory is js spells) has);
}

-- and so is code that begins with an address, where the code is that is made with a lower and an upper part of the address
pub address_makes : {K : ℕ → Code → ℕ → Type 0} (rd : Register) (offset : ℕ) (is : List Instr)
    → ((memory : ℕ) (code : Code) (at : ℕ) (u : UpperImmediate) (l : Immediate) → sum_word u.word l.word ≡ memory + offset → Has code at (Lui rd u ∷ Addi rd rd l ∷ is) → K memory code at)
    → Makes (Address rd Data offset ∷ plain is) (2 + length is) offset K
address_makes rd offset is does = record {
  size = ap (λ n. 2 + n) (plain-words is);
  labels = λ before. plain-labels is (before + 2);
  within = (omega arith, plain-within offset is);
  code = λ memory js code at spells has. does memory code at spells.0 spells.1 spells.3
      (subst (Has code at) (spells.4 ∙ ap (λ more. Lui rd spells.0 ∷ Addi rd rd spells.1 ∷ more) (plain_is memory is spells.2 spells.5)) has);
}

-- ---- one after the other

pub words-append : (front back : List Native) → words_of (front ++ back) ≡ words_of front + words_of back
words-append [] back = omega arith
words-append (line ∷ front) back = let rest = words-append front back in omega arith

labels-append : (before : ℕ) (front back : List Native) → labels_of before (front ++ back) ≡ labels_of before front ++ labels_of (before + words_of front) back
labels-append before [] back = let none : before + 0 ≡ before = omega arith in ap (λ b. labels_of b back) (sym none)
labels-append before (line ∷ front) back =
    let sum : before + words_of_line line + words_of front ≡ before + (words_of_line line + words_of front) = omega arith in
    by-line line (labels-append (before + words_of_line line) front back ∙ ap (λ b. labels_of (before + words_of_line line) front ++ labels_of b back) sum)
  where
    by-line : (line : Native) → labels_of (before + words_of_line line) (front ++ back) ≡ labels_of (before + words_of_line line) front ++ labels_of (before + (words_of_line line + words_of front)) back
        → labels_of before ((line ∷ front) ++ back) ≡ labels_of before (line ∷ front) ++ labels_of (before + (words_of_line line + words_of front)) back
    by-line (Instruction i) rest = rest
    by-line (Label symbol) rest =
        let none : before + 0 ≡ before = omega arith in
        ap (λ more. (symbol, before) ∷ more) (ap (λ b. labels_of b (front ++ back)) (sym none) ∙ rest ∙ ap (λ b. labels_of b front ++ labels_of (before + (0 + words_of front)) back) none)
    by-line (Jump symbol) rest = rest
    by-line (Branch condition left right target) rest = rest
    by-line (Call symbol) rest = rest
    by-line (Address rd section offset) rest = rest

-- lines within a distance are within a greater one, and so are two lists together
within-more : (most more : ℕ) (lines : List Native) → most ≤ more → AreWithin most lines → AreWithin more lines
within-more most more [] le within = tt
within-more most more (Instruction i ∷ lines) le within = within-more most more lines le within
within-more most more (Label symbol ∷ lines) le within = within-more most more lines le within
within-more most more (Address rd Data offset ∷ lines) le (near, within) = (omega (arith, near, le), within-more most more lines le within)
within-more most more (Address rd Constants offset ∷ lines) le within = absurd within
within-more most more (Jump symbol ∷ lines) le within = absurd within
within-more most more (Branch condition left right target ∷ lines) le within = absurd within
within-more most more (Call symbol ∷ lines) le within = absurd within

within-append : (most : ℕ) (front back : List Native) → AreWithin most front → AreWithin most back → AreWithin most (front ++ back)
within-append most [] back first second = second
within-append most (Instruction i ∷ front) back first second = within-append most front back first second
within-append most (Label symbol ∷ front) back first second = within-append most front back first second
within-append most (Address rd Data offset ∷ front) back (near, first) second = (near, within-append most front back first second)
within-append most (Address rd Constants offset ∷ front) back first second = absurd first
within-append most (Jump symbol ∷ front) back first second = absurd first
within-append most (Branch condition left right target ∷ front) back first second = absurd first
within-append most (Call symbol ∷ front) back first second = absurd first

-- what two lists of lines stand for is what the first stands for and then what the second stands for
record InTwo (memory : ℕ) (front back : List Native) (is : List Instr) : Type 0 where
  before : List Instr
  after : List Instr
  whole : is ≡ before ++ after
  first : Spells memory front before
  second : Spells memory back after
  size : length before ≡ words_of front

in_two : (memory : ℕ) (front back : List Native) (is : List Instr) → Spells memory (front ++ back) is → InTwo memory front back is
in_two memory [] back is spells = record { before = []; after = is; whole = refl; first = refl; second = spells; size = refl }
in_two memory (Instruction i ∷ front) back is (rest, e, spells) =
    let two = in_two memory front back rest spells in
    let size = two.size in
    record {
      before = i ∷ two.before;
      after = two.after;
      whole = e ∙ ap (λ more. i ∷ more) two.whole;
      first = (two.before, refl, two.first);
      second = two.second;
      size = omega arith;
    }
in_two memory (Address rd Data offset ∷ front) back is (u, l, rest, sum, e, spells) =
    let two = in_two memory front back rest spells in
    let size = two.size in
    record {
      before = Lui rd u ∷ Addi rd rd l ∷ two.before;
      after = two.after;
      whole = e ∙ ap (λ more. Lui rd u ∷ Addi rd rd l ∷ more) two.whole;
      first = (u, l, two.before, sum, refl, two.first);
      second = two.second;
      size = omega arith;
    }
in_two memory (Label symbol ∷ front) back is spells =
    let two = in_two memory front back is spells in
    let size = two.size in
    record { before = two.before; after = two.after; whole = two.whole; first = two.first; second = two.second; size = omega arith }
in_two memory (Address rd Constants offset ∷ front) back is spells = absurd spells
in_two memory (Jump symbol ∷ front) back is spells = absurd spells
in_two memory (Branch condition left right target ∷ front) back is spells = absurd spells
in_two memory (Call symbol ∷ front) back is spells = absurd spells

-- labelled code, one routine after the other
pub record Composes (lines : List Native) (words reach : ℕ) (labels : List (Symbol × ℕ)) (IsOfKind : ℕ → Code → ℕ → Type 0) : Type 0 where
  pub size : words_of lines ≡ words
  pub labels_are : labels_of 0 lines ≡ labels
  pub within : AreWithin reach lines
  pub code : (memory : ℕ) (is : List Instr) (code : Code) (at : ℕ) → Spells memory lines is → Has code at is → IsOfKind memory code at

pub composes_none : Composes [] 0 0 [] (λ memory code at. Unit {0})
composes_none = record { size = refl; labels_are = refl; within = tt; code = λ memory is code at spells has. tt }

labelled : (front : List Native) (symbol : Symbol) (m : ℕ) → words_of front ≡ m → words_of (front ++ Label symbol ∷ []) ≡ m
labelled front symbol m size = let sum = words-append front (Label symbol ∷ []) in omega arith

pub composes_then : {A B : ℕ → Code → ℕ → Type 0} {m n far farther : ℕ} {labels : List (Symbol × ℕ)} {front back lines : List Native} (symbol : Symbol)
    → lines ≡ (front ++ Label symbol ∷ []) ++ back → Composes front m far labels A → Makes back n farther B
    → Composes lines (m + n) (far + farther) (labels ++ (symbol, m) ∷ []) (λ memory code at. A memory code at × B memory code (at + 4 * m))
composes_then {A} {B} {m} {n} {far} {farther} {labels} {front} {back} {lines} symbol lines_are first second =
    let front_size = labelled front symbol m first.size in
    let none : 0 + words_of front ≡ m = (let size = first.size in omega arith) in
    subst (λ l. Composes l (m + n) (far + farther) (labels ++ (symbol, m) ∷ []) (λ memory code at. A memory code at × B memory code (at + 4 * m))) (sym lines_are) record {
      size = words-append (front ++ Label symbol ∷ []) back ∙ ap (λ k. k + words_of back) front_size ∙ ap (λ k. m + k) second.size;
      labels_are =
          labels-append 0 (front ++ Label symbol ∷ []) back
          ∙ ap (λ rest. labels_of 0 (front ++ Label symbol ∷ []) ++ rest) (second.labels (0 + words_of (front ++ Label symbol ∷ [])))
          ∙ append-nil (labels_of 0 (front ++ Label symbol ∷ []))
          ∙ labels-append 0 front (Label symbol ∷ [])
          ∙ ap (λ b. labels_of 0 front ++ (symbol, b) ∷ []) none
          ∙ ap (λ all. all ++ (symbol, m) ∷ []) first.labels_are;
      within =
          let all = far + farther in
          within-append all (front ++ Label symbol ∷ []) back
          (within-append all front (Label symbol ∷ []) (within-more far all front (omega arith) first.within) tt)
          (within-more farther all back (omega arith) second.within);
      code = λ memory is code at spells has.
          let two = in_two memory (front ++ Label symbol ∷ []) back is spells in
          let one = in_two memory front (Label symbol ∷ []) two.before two.first in
          let has_two = subst (Has code at) two.whole has in
          let has_one = subst (Has code at) one.whole (Has-front code at two.before two.after has_two) in
          let behind = Has-back code at two.before two.after has_two in
          let place = ap (λ k. at + 4 * k) (two.size ∙ front_size) in (
            first.code memory one.before code at one.first (Has-front code at one.before one.after has_one),
            second.code memory two.after code (at + 4 * m) two.second (subst (λ a. Has code a two.after) place behind),
          );
    }

-- lines that are composed are within a greater distance too
pub composes_within : {K : ℕ → Code → ℕ → Type 0} {words reach : ℕ} {labels : List (Symbol × ℕ)} {lines : List Native} → Composes lines words reach labels K → (most : ℕ) → reach ≤ most → AreWithin most lines
composes_within {K} {words} {reach} {labels} {lines} composes most le = within-more reach most lines le composes.within
