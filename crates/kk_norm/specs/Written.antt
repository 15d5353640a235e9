-- What a call that writes code adds to what was written before it.
use Rattle.std.specs.Prelude.{◌≡◌, ◌+◌, ◌≤◌, ℕ, List, [], ◌∷◌, map, length, take, Bool}
use Rattle.kk_syntax.specs.Patterns.{Pattern, Patterns}
use Rattle.kk_syntax.specs.Programs.{ConstructorTree}
use Rattle.kk_syntax.specs.Trees.{Tree, Trees, Rows, StatementTree, block_of}
use Rattle.kk_core.specs.Codes.{Code, case, Arms, Piece, put, plug, step_piece}
use Rattle.kk_core.specs.Decisions.{NodeTree}
use Rattle.kk_core.specs.Truths.{truth_case}
use Rattle.kk_norm.specs.declared.naming.Named.{Named}
use Rattle.kk_norm.specs.declared.writer.Writer.{Writer}
use Rattle.kk_norm.specs.MatchDecisions.{AreDecisions}
use Rattle.kk_norm.specs.Names.{Names}
use Rattle.kk_norm.specs.Normalized.{part_count, pattern_size, parts_size, Then, final, next, size, size_all, size_rows, atom, atoms, numbers, opened, opened_all, pattern_names, parts_names, patterns_in, IsCode, AreCodes, AreArms}

-- names in the order in which they are given, before older ones
abbrev pub names_before : Names → List Named → Names
names_before older [] = older
names_before older (named ∷ more) = names_before (record { variable = named.variable; name = named.name } ∷ older) more

abbrev pub names_of : List Named → Names
names_of = names_before []

-- what a writer has written, and what comes behind it
abbrev pub behind : Writer → Code → Code
behind writer rest = plug (map step_piece writer.steps.items) rest

-- a step is written: it takes no number
pub record WritesPiece (piece : Piece) (old new : Writer) : Type 0 where
  pub number : new.next ≡ old.next
  pub names : new.names.items ≡ old.names.items
  pub steps : (rest : Code) → behind new rest ≡ behind old (put piece rest)

-- a step is written that gives a value to the next variable x
pub record WritesStep (piece : Piece) (old new : Writer) (x : ℕ) : Type 0 where
  pub is : x ≡ old.next
  pub number : new.next ≡ old.next + 1
  pub names : new.names.items ≡ old.names.items
  pub steps : (rest : Code) → behind new rest ≡ behind old (put piece rest)

-- What is written, with `last` behind it, is the code of an expression whose numbers begin at n, and of what comes after it.
abbrev pub IsWritten : List ConstructorTree → Then → Names → ℕ → Tree → Writer → Writer → Code → Type 0
IsWritten constructors k names n e old new last =
    (code : Code) × IsCode constructors k names n e code × (behind new last ≡ behind old code)

-- the steps of an expression are written, and its value is in x
pub record WritesValue (constructors : List ConstructorTree) (e : Tree) (old new : Writer) (x : ℕ) : Type 0 where
  pub number : new.next ≡ old.next + size e
  pub names : new.names.items ≡ old.names.items
  pub value : x ≡ atom (names_of old.names.items) old.next e
  pub steps : (rest : Code) → IsWritten constructors (next rest) (names_of old.names.items) old.next e old new rest

-- the same of several expressions, whose values are in xs
pub record WritesValues (constructors : List ConstructorTree) (es : Trees) (old new : Writer) (xs : List ℕ) : Type 0 where
  pub number : new.next ≡ old.next + size_all es
  pub names : new.names.items ≡ old.names.items
  pub values : xs ≡ atoms (names_of old.names.items) old.next es
  pub steps : (rest : Code) → (code : Code) × AreCodes constructors (names_of old.names.items) old.next es rest code × (behind new rest ≡ behind old code)

-- statements are written: what comes behind them in their block is then numbered and named as in the block
pub record WritesStatements (constructors : List ConstructorTree) (statements : List StatementTree) (last : Tree) (old new : Writer) : Type 0 where
  pub number : new.next + size last ≡ old.next + size (block_of statements last)
  pub value : atom (names_of new.names.items) new.next last ≡ atom (names_of old.names.items) old.next (block_of statements last)
  pub steps : (k : Then) (code : Code)
      → IsCode constructors k (names_of new.names.items) new.next last code
      → IsWritten constructors k (names_of old.names.items) old.next (block_of statements last) old new code

-- the names of a writer are among those of another: they are its first ones
abbrev pub KeepsNames : Writer → Writer → Type 0
KeepsNames old new = take (length old.names.items) new.names.items ≡ old.names.items

-- an expression is written as what ends a block: its steps, and the end `last`
pub record WritesEnd (constructors : List ConstructorTree) (tail : Bool) (e : Tree) (old new : Writer) (last : Code) : Type 0 where
  pub number : new.next ≡ old.next + size e
  pub names : new.names.items ≡ old.names.items
  pub steps : IsWritten constructors (final tail) (names_of old.names.items) old.next e old new last

-- a code goes on by variable a as the codes of two expressions whose numbers begin at n
abbrev pub IsChoice : List ConstructorTree → Bool → Names → ℕ → ℕ → Tree → Tree → Code → Type 0
IsChoice constructors tail names n a positive negative code =
    (first : Code) × (second : Code) × IsCode constructors (final tail) names n positive first
    × IsCode constructors (final tail) names (n + size positive) negative second × (code ≡ truth_case a first second)

-- a condition is written, and `last` goes on by it; the parts take the numbers behind its own
pub record WritesChoice (constructors : List ConstructorTree) (tail : Bool) (e positive negative : Tree) (old new : Writer) (last : Code) : Type 0 where
  pub number : new.next ≡ old.next + size e + size positive + size negative
  pub names : new.names.items ≡ old.names.items
  pub last_is : IsChoice constructors tail (names_of old.names.items) (old.next + size e)
      (atom (names_of old.names.items) old.next e) positive negative last
  pub steps : (rest : Code) → IsWritten constructors (next rest) (names_of old.names.items) old.next e old new rest

-- an expression is written as a block of its own, and nothing is added to the steps
pub record WritesBlock (constructors : List ConstructorTree) (tail : Bool) (e : Tree) (old new : Writer) (block : Code) : Type 0 where
  pub number : new.next ≡ old.next + size e
  pub names : new.names.items ≡ old.names.items
  pub block_is : IsCode constructors (final tail) (names_of old.names.items) old.next e block
  pub steps : new.steps.items ≡ old.steps.items

-- ---- matches

-- the parts of a pattern are numbered
pub record NumbersParts (parts : Patterns) (old new : Writer) (fields : List ℕ) : Type 0 where
  pub number : new.next ≡ old.next + part_count parts
  pub names : new.names.items ≡ old.names.items
  pub steps : new.steps.items ≡ old.steps.items
  pub fields_are : fields ≡ numbers old.next parts

-- the openings of a pattern at variable a are written, and its variables are named
pub record WritesOpenings (pattern : Pattern) (a : ℕ) (old new : Writer) : Type 0 where
  pub number : new.next ≡ old.next + pattern_size pattern
  pub named : names_of new.names.items ≡ pattern_names a old.next pattern (names_of old.names.items)
  pub steps : (rest : Code) → behind new rest ≡ behind old (opened a old.next pattern rest)
  pub longer : length old.names.items ≤ length new.names.items
  pub kept : KeepsNames old new

-- the same of patterns at variables that follow one another, from a on
pub record WritesAllOpenings (parts : Patterns) (a : ℕ) (old new : Writer) : Type 0 where
  pub number : new.next ≡ old.next + parts_size parts
  pub named : names_of new.names.items ≡ parts_names a old.next parts (names_of old.names.items)
  pub steps : (rest : Code) → behind new rest ≡ behind old (opened_all a old.next parts rest)
  pub longer : length old.names.items ≤ length new.names.items
  pub kept : KeepsNames old new

-- an arm of a match on variable a is written: what its pattern opens, and then its body; nothing is added to the steps
pub record WritesArm (constructors : List ConstructorTree) (tail : Bool) (pattern : Pattern) (body : Tree) (a : ℕ) (old new : Writer) (block : Code) : Type 0 where
  pub number : new.next ≡ old.next + pattern_size pattern + size body
  pub names : new.names.items ≡ old.names.items
  pub steps : new.steps.items ≡ old.steps.items
  pub code : Code
  pub block_is : block ≡ opened a old.next pattern code
  pub coded : IsCode constructors (final tail) (pattern_names a old.next pattern (names_of old.names.items)) (old.next + pattern_size pattern) body code

-- the arms of a match on variable a are written, and nothing is added to the steps
pub record WritesArms (constructors : List ConstructorTree) (tail : Bool) (rows : Rows) (a : ℕ) (old new : Writer) (arms : Arms) : Type 0 where
  pub number : new.next ≡ old.next + size_rows rows
  pub names : new.names.items ≡ old.names.items
  pub steps : new.steps.items ≡ old.steps.items
  pub arms_are : AreArms constructors (final tail) (names_of old.names.items) a old.next rows arms

-- a code goes on by variable a as the arms of rows whose numbers begin at n
abbrev pub IsCase : List ConstructorTree → Bool → Names → ℕ → ℕ → Rows → Code → Type 0
IsCase constructors tail names n a rows code =
    (decisions : List NodeTree) × (arms : Arms) × AreDecisions constructors (patterns_in rows) decisions
    × AreArms constructors (final tail) names a n rows arms × (code ≡ case a decisions arms)

-- a scrutinee is written, and `last` goes on by it; the rows take the numbers behind its own
pub record WritesCase (constructors : List ConstructorTree) (tail : Bool) (e : Tree) (rows : Rows) (old new : Writer) (last : Code) : Type 0 where
  pub number : new.next ≡ old.next + size e + size_rows rows
  pub names : new.names.items ≡ old.names.items
  pub last_is : IsCase constructors tail (names_of old.names.items) (old.next + size e)
      (atom (names_of old.names.items) old.next e) rows last
  pub steps : (rest : Code)
      → IsWritten constructors (next rest) (names_of old.names.items) old.next e old new rest
