-- The openings of a pattern are written: what its parts add, and how far the loops over parts have come.
use Rattle.std.proofs.Common.{◌≡◌, ℕ, ◌+◌, ◌^◌, ◌<◌, ◌≤◌, ◌==◌, ◌⊎◌, inl, inr, Bool, true, false, List, [], ◌∷◌, ◌++◌, length, take, map, refl, sym, ap, subst, ◌∙◌, arith, append_assoc}
use Rattle.std.proofs.lemmas.List.{append-nil, take_all}
use Rattle.std.proofs.Math.Seq.{take-append_seam}
use Rattle.std.specs.Prelude.{ℤ}
use Rattle.kk_syntax.specs.declared.program.Pat.{Pat}
use Rattle.kk_syntax.specs.declared.program.Pat.TheVariants.{Wildcard, Number}
use Rattle.kk_syntax.specs.Patterns.{Pattern, anything, variable, exactly, constructor, Patterns, no_part, part, patterns_of, pattern_tree}
use Rattle.kk_syntax.proofs.PatternViews.{wildcard_tree, number_tree}
use Rattle.kk_core.specs.Codes.{Code, unpack, unpacks, plug, step_piece}
use Rattle.kk_norm.specs.declared.naming.Named.{Named}
use Rattle.kk_norm.specs.declared.writer.Writer.{Writer}
use Rattle.kk_norm.specs.Normalized.{part_count, pattern_size, parts_size, numbers, opened, opened_all, parts_names}
use Rattle.kk_norm.specs.Written.{names_of, behind, WritesPiece, KeepsNames, NumbersParts, WritesOpenings, WritesAllOpenings}
use Rattle.kk_norm.proofs.WriterSteps.{names_one_more}
use Rattle.kk_norm.proofs.WriterLoops.{kept_longer}

keeps_own : (writer : Writer) → KeepsNames writer writer
keeps_own writer = take_all (length writer.names.items) writer.names.items (omega arith)

-- ---- the numbers of parts

-- of all parts some are left, and the others have their numbers
pub record NumberedSoFar (old now : Writer) (left all : Patterns) (fields : List ℕ) : Type 0 where
  pub number : now.next + part_count left ≡ old.next + part_count all
  pub names : now.names.items ≡ old.names.items
  pub steps : now.steps.items ≡ old.steps.items
  pub fields_are : fields ++ numbers now.next left ≡ numbers old.next all

pub numbered_more : (old now new : Writer) (p : Pattern) (left all : Patterns) (fields : List ℕ)
    → NumberedSoFar old now (part p left) all fields → new.next ≡ now.next + 1 → new.names.items ≡ now.names.items
    → new.steps.items ≡ now.steps.items → NumberedSoFar old new left all (fields ++ now.next ∷ [])
numbered_more old now new p left all fields so_far number names steps =
    record {
      number = omega (arith, number, so_far.number);
      names = names ∙ so_far.names;
      steps = steps ∙ so_far.steps;
      fields_are =
          append_assoc fields (now.next ∷ []) (numbers new.next left)
          ∙ (ap (λ n. fields ++ (now.next ∷ numbers n left)) number ∙ so_far.fields_are);
    }

pub numbered_done : (old now : Writer) (all : Patterns) (fields : List ℕ)
    → NumberedSoFar old now no_part all fields → NumbersParts all old now fields
numbered_done old now all fields so_far =
    record {
      number = omega (arith, so_far.number);
      names = so_far.names;
      steps = so_far.steps;
      fields_are = sym (append-nil fields) ∙ so_far.fields_are;
    }

-- ---- the openings of parts

-- of all parts some are left, and the others, from variable `first` on, are opened
pub record OpenedSoFar (first : ℕ) (old now : Writer) (left all : Patterns) (at : ℕ) : Type 0 where
  pub number : now.next + parts_size left ≡ old.next + parts_size all
  pub variable_is : at + part_count left ≡ first + part_count all
  pub named : parts_names at now.next left (names_of now.names.items) ≡ parts_names first old.next all (names_of old.names.items)
  pub steps : (rest : Code) → behind now (opened_all at now.next left rest) ≡ behind old (opened_all first old.next all rest)
  pub longer : length old.names.items ≤ length now.names.items
  pub kept : KeepsNames old now

pub opened_start : (first : ℕ) (writer : Writer) (all : Patterns) → OpenedSoFar first writer writer all all first
opened_start first writer all =
    record { number = refl; variable_is = refl; named = refl; steps = λ rest. refl; longer = omega arith; kept = keeps_own writer }

pub opened_more : (first : ℕ) (old now new : Writer) (p : Pattern) (left all : Patterns) (at : ℕ)
    → OpenedSoFar first old now (part p left) all at → WritesOpenings p at now new → OpenedSoFar first old new left all (at + 1)
opened_more first old now new p left all at so_far writes =
    record {
      number = omega (arith, writes.number, so_far.number);
      variable_is = omega (arith, so_far.variable_is);
      named =
          ap (λ n. parts_names (at + 1) n left (names_of new.names.items)) writes.number
          ∙ (ap (parts_names (at + 1) (now.next + pattern_size p) left) writes.named ∙ so_far.named);
      steps = λ rest.
          ap (λ n. behind new (opened_all (at + 1) n left rest)) writes.number
          ∙ (writes.steps (opened_all (at + 1) (now.next + pattern_size p) left rest) ∙ so_far.steps rest);
      longer = omega (arith, writes.longer, so_far.longer);
      kept = kept_longer old.names.items now.names.items new.names.items so_far.longer so_far.kept writes.kept;
    }

pub opened_done : (first : ℕ) (old now : Writer) (all : Patterns) (at : ℕ)
    → OpenedSoFar first old now no_part all at → WritesAllOpenings all first old now
opened_done first old now all at so_far =
    record {
      number = omega (arith, so_far.number);
      named = so_far.named;
      steps = so_far.steps;
      longer = so_far.longer;
      kept = so_far.kept;
    }

-- what is asked of the call in the loop
pub open_asked : (first : ℕ) (old now : Writer) (left all : Patterns) (at : ℕ) (p : Pattern) (rest : Patterns)
    → OpenedSoFar first old now left all at → left ≡ part p rest → old.next + parts_size all < 2 ^ 32
    → now.next + pattern_size p < 2 ^ 32
open_asked first old now left all at p rest so_far is room =
    omega (arith, so_far.number, ap parts_size is)

-- ---- patterns

nothing_opened : (p : Pattern) (a : ℕ) (writer : Writer) → p ≡ anything → WritesOpenings p a writer writer
nothing_opened p a writer is =
    subst (λ (q : Pattern). WritesOpenings q a writer writer) (sym is)
    (record { number = omega arith; named = refl; steps = λ rest. refl; longer = omega arith; kept = keeps_own writer })

number_opened : (p : Pattern) (n : _) (a : ℕ) (writer : Writer) → p ≡ exactly n → WritesOpenings p a writer writer
number_opened p n a writer is =
    subst (λ (q : Pattern). WritesOpenings q a writer writer) (sym is)
    (record { number = omega arith; named = refl; steps = λ rest. refl; longer = omega arith; kept = keeps_own writer })

-- a pattern without parts and without variables, in memory
pub skipped : (p : Pat) (a : ℕ) (writer : Writer) → (p ≡ Wildcard) ⊎ ((n : ℤ) × (p ≡ Number n)) → WritesOpenings (pattern_tree p) a writer writer
skipped p a writer is =
    elim is [
      | inl wildcard ↦ nothing_opened (pattern_tree p) a writer (ap pattern_tree wildcard ∙ wildcard_tree)
      | inr number ↦ number_opened (pattern_tree p) number.0 a writer (ap pattern_tree number.1 ∙ number_tree number.0)
    ]

pub variable_opened : (p : Pattern) (x a : ℕ) (old new : Writer) → p ≡ variable x → new.next ≡ old.next → new.steps.items ≡ old.steps.items
    → new.names.items ≡ old.names.items ++ record { variable = x; name = a } ∷ [] → WritesOpenings p a old new
variable_opened p x a old new is number steps names =
    let one : Named = record { variable = x; name = a } in
    subst (λ (q : Pattern). WritesOpenings q a old new) (sym is)
    (record {
      number = omega (arith, number);
      named = ap names_of names ∙ names_one_more [] old.names.items one;
      steps = λ rest. ap (λ items. plug (map step_piece items) rest) steps;
      longer = subst (λ (ns : List Named). length old.names.items ≤ length ns) (sym names) (more_names old.names.items one);
      kept = ap (take (length old.names.items)) names ∙ take-append_seam old.names.items (one ∷ []);
    })
  where
    more_names : (ns : List Named) (one : Named) → length ns ≤ length (ns ++ one ∷ [])
    more_names [] one = omega arith
    more_names (n ∷ ns) one = omega (arith, more_names ns one)

-- ---- cells

pub some_items : {A : Type 0} (items : List A) (empty : Bool) → empty ≡ (length items == 0) → empty ≡ false → 0 < length items
some_items [] empty is none = absurd (let wrong : true ≡ false = sym is ∙ none in cc)
some_items (x ∷ items) empty is none = omega arith

pub empty_opened : (c : ℕ) (items : List Pattern) (a : ℕ) (writer : Writer) → length items ≡ 0 → WritesOpenings (constructor c (patterns_of items)) a writer writer
empty_opened c [] a writer none =
    record { number = omega arith; named = refl; steps = λ rest. refl; longer = omega arith; kept = keeps_own writer }
empty_opened c (p ∷ items) a writer none = absurd (omega (arith, none))

-- a cell with fields is opened before those of its fields
cell_opened : (c : ℕ) (items : List Pattern) (a n : ℕ) (rest : Code) → 0 < length items
    → unpack a c (numbers n (patterns_of items)) (opened_all n (n + part_count (patterns_of items)) (patterns_of items) rest) ≡ opened a n (constructor c (patterns_of items)) rest
cell_opened c [] a n rest some = absurd (omega arith)
cell_opened c (p ∷ items) a n rest some = refl

pub cell_done : (c : ℕ) (items : List Pattern) (a first : ℕ) (fields : List ℕ) (old now mid new : Writer) → 0 < length items → first ≡ old.next
    → NumbersParts (patterns_of items) old now fields → WritesPiece (unpacks a c fields) now mid → WritesAllOpenings (patterns_of items) first mid new
    → WritesOpenings (constructor c (patterns_of items)) a old new
cell_done c items a first fields old now mid new some first_is numbered written writes =
    let ps : Patterns = patterns_of items in
    let at : mid.next ≡ old.next + part_count ps = written.number ∙ numbered.number in
    let names : mid.names.items ≡ old.names.items = written.names ∙ numbered.names in
    let lengths : length mid.names.items ≡ length old.names.items = ap length names in
    record {
      number = omega (arith, writes.number, at);
      named =
          writes.named
          ∙ (ap (λ x. parts_names x mid.next ps (names_of mid.names.items)) first_is
          ∙ (ap (λ n. parts_names old.next n ps (names_of mid.names.items)) at
          ∙ ap (λ (ns : List Named). parts_names old.next (old.next + part_count ps) ps (names_of ns)) names));
      steps = λ rest.
          writes.steps rest
          ∙ (written.steps (opened_all first mid.next ps rest)
          ∙ (ap (λ steps. plug (map step_piece steps) (unpack a c fields (opened_all first mid.next ps rest))) numbered.steps
          ∙ (ap (λ xs. behind old (unpack a c xs (opened_all first mid.next ps rest))) numbered.fields_are
          ∙ (ap (λ x. behind old (unpack a c (numbers old.next ps) (opened_all x mid.next ps rest))) first_is
          ∙ (ap (λ n. behind old (unpack a c (numbers old.next ps) (opened_all old.next n ps rest))) at
          ∙ ap (behind old) (cell_opened c items a old.next rest some))))));
      longer = omega (arith, writes.longer, lengths);
      kept = ap (λ n. take n new.names.items) (sym lengths) ∙ (writes.kept ∙ names);
    }
