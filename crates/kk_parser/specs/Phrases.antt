-- The phrases of which the right sides of productions are made, as in extended Backus-Naur form.
use Rattle.std.specs.Prelude.{List, Option, ◌⊎◌}
use Rattle.kk_syntax.specs.declared.tree.Effect.{Effect}
use Rattle.kk_syntax.specs.Surface.{Written, WrittenConstructor, WrittenDeclaration, WrittenParameter, WrittenPattern, WrittenRow, WrittenStatement, WrittenType}
use Rattle.kk_parser.specs.Kinds.{Kind, Said}

-- the names on the left sides of productions
pub data Nonterminal : Type 0 where
  program decl con param effect eff type result_type expr block stmt if_ match_ row pat or and cmp add mul un post atom say args : Nonterminal

-- what the text of a nonterminal means
abbrev pub Meant : Nonterminal → Type 0
Meant program = List WrittenDeclaration
Meant decl = WrittenDeclaration
Meant con = WrittenConstructor
Meant param = WrittenParameter
Meant effect = List Effect
Meant eff = Effect
Meant type = WrittenType
Meant result_type = WrittenType
Meant stmt = WrittenStatement
Meant row = WrittenRow
Meant pat = WrittenPattern
Meant args = List Written
Meant _ = Written

infixr 20 ◌▸◌
-- a token; a token that opens a level of nesting; a phrase and behind it another; one of two; none or more; none or
-- one; a phrase with which the levels end that it opens; a text of a nonterminal.
-- each: none or more, each behind a token that opens a level; and where they end, no such token is next.
-- perhaps: a phrase behind a token, or nothing; and where there is nothing, no such token is next.
-- So what begins with such a token belongs to the nearest phrase that can take it.
-- quoted_or: a string and `)`, or a phrase.
pub data Phrase : Type 0 where
  token : Kind → Phrase
  opener : Kind → Phrase
  ◌▸◌ : Phrase → Phrase → Phrase
  either : Phrase → Phrase → Phrase
  many : Phrase → Phrase
  optional : Phrase → Phrase
  level : Phrase → Phrase
  rule : Nonterminal → Phrase
  each : Kind → Phrase → Phrase
  perhaps : Kind → Phrase → Phrase
  quoted_or : Phrase → Phrase

-- what a phrase says: its parts' words in their order
abbrev pub PhraseValue : Phrase → Type 0
PhraseValue (token k) = Said k
PhraseValue (opener k) = Said k
PhraseValue (a ▸ b) = PhraseValue a × PhraseValue b
PhraseValue (either a b) = PhraseValue a ⊎ PhraseValue b
PhraseValue (many a) = List (PhraseValue a)
PhraseValue (optional a) = Option (PhraseValue a)
PhraseValue (level a) = PhraseValue a
PhraseValue (rule x) = Meant x
PhraseValue (each k a) = List (PhraseValue a)
PhraseValue (perhaps k a) = Option (PhraseValue a)
PhraseValue (quoted_or a) = Said Rattle.kk_parser.specs.Kinds.string ⊎ PhraseValue a

-- a grammar: the right side of each production, and what a text of it means
pub record Grammar : Type 0 where
  pub right : Nonterminal → Phrase
  pub meant : (x : Nonterminal) → PhraseValue (right x) → Meant x
