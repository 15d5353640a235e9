-- How a phrase is read from the left with one token of lookahead: what is found, or where the reading fails. The
-- parser's own declarations are stated by it; what it has to do with spelling is proved.
use Rattle.std.specs.Prelude.{◌≡◌, ℕ, ◌+◌, ◌<◌, ◌≤◌, List, [], ◌∷◌, ◌++◌, Some, None, Bool, true, false, not, ◌&&◌, if◌then◌else◌}
use Rattle.std.proofs.Common.{inl, inr}
use Rattle.kk_syntax.specs.declared.token.LocatedToken.{LocatedToken}
use Rattle.kk_syntax.specs.declared.token.Keyword.TheVariants.{Fun, Val, If, Match}
use Rattle.kk_syntax.specs.declared.token.Keyword.TheVariants as Keyword
use Rattle.kk_syntax.specs.declared.token.Symbol.TheVariants.{OpenParenthesis, CloseParenthesis, OpenBrace, Semicolon, Dot, Less, Exclamation, Tilde}
use Rattle.kk_parser.specs.Classes.{Class, keyword as keyword_class, symbol as symbol_class, number as number_class, string as string_class, constructor as constructor_class, wildcard as wildcard_class, is_at}
use Rattle.kk_parser.specs.Kinds.{Kind, Said, says, classes_of, symbol, name, type_variable_name, type_name, type_name_but_effect, string, effect_words, print_words, name_in}
use Rattle.kk_parser.specs.Phrases.{Nonterminal, program, decl, con, param, effect, eff, type, result_type, expr, block, stmt, if_, match_, row, pat, post, atom, say, args, Phrase, token, opener, ◌▸◌, either, many, optional, level, rule, each, perhaps, quoted_or, PhraseValue}
use Rattle.kk_parser.specs.Forms.{form, form_meaning}

-- the tokens behind the next one
abbrev pub behind : List LocatedToken → List LocatedToken
behind [] = []
behind (t ∷ ts) = ts

-- whether a text of a nonterminal may have no token
abbrev pub nullable_of : Nonterminal → Bool
nullable_of program = true
nullable_of args = true
nullable_of _ = false

-- the classes of token with which an atom begins; an operand; and an expression
abbrev pub atom_first : List Class
atom_first = number_class ∷ constructor_class ∷ symbol_class OpenParenthesis ∷ string_class ∷ classes_of name

abbrev pub operand_first : List Class
operand_first = symbol_class Exclamation ∷ symbol_class Tilde ∷ atom_first

abbrev pub expr_first : List Class
expr_first = symbol_class OpenBrace ∷ keyword_class If ∷ keyword_class Match ∷ operand_first

-- and a pattern
abbrev pub pattern_first : List Class
pattern_first = wildcard_class ∷ classes_of name ++ number_class ∷ constructor_class ∷ symbol_class OpenParenthesis ∷ []

-- the classes of token with which a text of a nonterminal begins
abbrev pub first_of : Nonterminal → List Class
first_of program = symbol_class Semicolon ∷ keyword_class Keyword.Type ∷ keyword_class Fun ∷ []
first_of decl = keyword_class Keyword.Type ∷ keyword_class Fun ∷ []
first_of con = constructor_class ∷ []
first_of param = classes_of name
first_of effect = classes_of (name_in effect_words) ++ symbol_class Less ∷ []
first_of eff = classes_of (name_in effect_words)
first_of type = classes_of type_variable_name ++ classes_of type_name ++ symbol_class OpenParenthesis ∷ []
first_of result_type = classes_of type_variable_name ++ classes_of type_name_but_effect ++ symbol_class OpenParenthesis ∷ []
first_of block = symbol_class OpenBrace ∷ []
first_of stmt = keyword_class Val ∷ expr_first
first_of if_ = keyword_class If ∷ []
first_of match_ = keyword_class Match ∷ []
first_of row = pattern_first
first_of pat = pattern_first
first_of atom = atom_first
first_of post = atom_first
first_of say = classes_of (name_in print_words) ++ string_class ∷ []
first_of expr = expr_first
first_of args = expr_first
first_of _ = operand_first

-- whether a text of a phrase may have no token
abbrev pub nullable : Phrase → Bool
nullable (a ▸ b) = if nullable a then nullable b else false
nullable (either a b) = if nullable a then true else nullable b
nullable (many a) = true
nullable (optional a) = true
nullable (level a) = nullable a
nullable (rule x) = nullable_of x
nullable (each k a) = true
nullable (perhaps k a) = true
nullable (quoted_or a) = nullable a
nullable _ = false

-- the classes of token with which a text of a phrase begins
abbrev pub first : Phrase → List Class
first (token k) = classes_of k
first (opener k) = classes_of k
first (a ▸ b) = if nullable a then first a ++ first b else first a
first (either a b) = first a ++ first b
first (many a) = first a
first (optional a) = first a
first (level a) = first a
first (rule x) = first_of x
first (each k a) = classes_of k
first (perhaps k a) = classes_of k
first (quoted_or a) = string_class ∷ first a

-- a string is next, and no dot behind it: then it is no part of an expression
abbrev pub is_quoted : List LocatedToken → Bool
is_quoted ts = is_at (string_class ∷ []) ts && not (is_at (symbol_class Dot ∷ []) (behind ts))

-- a string, and `)`
abbrev pub quoted : Phrase
quoted = token string ▸ token (symbol CloseParenthesis)

-- Finds limit p n ts v m us: where n levels are open, the phrase is read from ts, says v, leaves us to read, and m
-- levels open; no more than `limit` were open at once.
pub data Finds (limit : ℕ) : (p : Phrase) → ℕ → List LocatedToken → PhraseValue p → ℕ → List LocatedToken → Type 0 where
  finds_token : {k : Kind} {t : LocatedToken} {v : Said k} {n : ℕ} {us : List LocatedToken} → says k t ≡ Some v → Finds limit (token k) n (t ∷ us) v n us
  finds_opener : {k : Kind} {t : LocatedToken} {v : Said k} {n : ℕ} {us : List LocatedToken} → says k t ≡ Some v → n < limit → Finds limit (opener k) n (t ∷ us) v (n + 1) us
  finds_both : {a b : Phrase} {n k m : ℕ} {u : PhraseValue a} {v : PhraseValue b} {ts us ws : List LocatedToken} → Finds limit a n ts u k us → Finds limit b k us v m ws → Finds limit (a ▸ b) n ts (u, v) m ws
  finds_first : {a b : Phrase} {n m : ℕ} {v : PhraseValue a} {ts us : List LocatedToken} → is_at (first a) ts ≡ true → Finds limit a n ts v m us → Finds limit (either a b) n ts (inl v) m us
  finds_second : {a b : Phrase} {n m : ℕ} {v : PhraseValue b} {ts us : List LocatedToken} → is_at (first a) ts ≡ false → Finds limit b n ts v m us → Finds limit (either a b) n ts (inr v) m us
  finds_none : {a : Phrase} {n : ℕ} {ts : List LocatedToken} → is_at (first a) ts ≡ false → Finds limit (many a) n ts [] n ts
  finds_more : {a : Phrase} {n k m : ℕ} {u : PhraseValue a} {vs : List (PhraseValue a)} {ts us ws : List LocatedToken} → is_at (first a) ts ≡ true → Finds limit a n ts u k us → Finds limit (many a) k us vs m ws → Finds limit (many a) n ts (u ∷ vs) m ws
  finds_absence : {a : Phrase} {n : ℕ} {ts : List LocatedToken} → is_at (first a) ts ≡ false → Finds limit (optional a) n ts None n ts
  finds_presence : {a : Phrase} {n m : ℕ} {v : PhraseValue a} {ts us : List LocatedToken} → is_at (first a) ts ≡ true → Finds limit a n ts v m us → Finds limit (optional a) n ts (Some v) m us
  finds_level : {a : Phrase} {n m : ℕ} {v : PhraseValue a} {ts us : List LocatedToken} → Finds limit a n ts v m us → Finds limit (level a) n ts v n us
  finds_rule : {x : Nonterminal} {n m : ℕ} {v : PhraseValue (form x)} {ts us : List LocatedToken} → Finds limit (form x) n ts v m us → Finds limit (rule x) n ts (form_meaning x v) m us
  finds_no_more : {k : Kind} {a : Phrase} {n : ℕ} {ts : List LocatedToken} → is_at (classes_of k) ts ≡ false → Finds limit (each k a) n ts [] n ts
  finds_each : {l : Kind} {a : Phrase} {n k m : ℕ} {t : LocatedToken} {w : Said l} {u : PhraseValue a} {vs : List (PhraseValue a)} {ts us ws : List LocatedToken} → says l t ≡ Some w → n < limit → Finds limit a (n + 1) ts u k us → Finds limit (each l a) k us vs m ws → Finds limit (each l a) n (t ∷ ts) (u ∷ vs) m ws
  finds_nothing : {k : Kind} {a : Phrase} {n : ℕ} {ts : List LocatedToken} → is_at (classes_of k) ts ≡ false → Finds limit (perhaps k a) n ts None n ts
  finds_something : {k : Kind} {a : Phrase} {n m : ℕ} {t : LocatedToken} {w : Said k} {v : PhraseValue a} {ts us : List LocatedToken} → says k t ≡ Some w → Finds limit a n ts v m us → Finds limit (perhaps k a) n (t ∷ ts) (Some v) m us
  finds_quoted : {a : Phrase} {n m : ℕ} {v : Said string} {ts us : List LocatedToken} → is_quoted ts ≡ true → Finds limit quoted n ts (v, tt) m us → Finds limit (quoted_or a) n ts (inl v) m us
  finds_unquoted : {a : Phrase} {n m : ℕ} {v : PhraseValue a} {ts us : List LocatedToken} → is_quoted ts ≡ false → Finds limit a n ts v m us → Finds limit (quoted_or a) n ts (inr v) m us

-- a reading fails at the first of these tokens, or at the end where there is none: it is unexpected, or it opens a
-- level too many
pub data Failure : Type 0 where
  unexpected : (rest : List LocatedToken) → Failure
  too_deep : (rest : List LocatedToken) → Failure

-- ReadingFails limit p n ts f: where n levels are open, the reading of the phrase from ts fails so.
pub data ReadingFails (limit : ℕ) : Phrase → ℕ → List LocatedToken → Failure → Type 0 where
  fails_token : {k : Kind} {n : ℕ} {ts : List LocatedToken} → is_at (classes_of k) ts ≡ false → ReadingFails limit (token k) n ts (unexpected ts)
  fails_opener : {k : Kind} {n : ℕ} {ts : List LocatedToken} → is_at (classes_of k) ts ≡ false → ReadingFails limit (opener k) n ts (unexpected ts)
  fails_deep : {k : Kind} {n : ℕ} {ts : List LocatedToken} → is_at (classes_of k) ts ≡ true → limit ≤ n → ReadingFails limit (opener k) n ts (too_deep ts)
  fails_front : {a b : Phrase} {n : ℕ} {ts : List LocatedToken} {f : Failure} → ReadingFails limit a n ts f → ReadingFails limit (a ▸ b) n ts f
  fails_behind : {a b : Phrase} {n k : ℕ} {u : PhraseValue a} {ts us : List LocatedToken} {f : Failure} → Finds limit a n ts u k us → ReadingFails limit b k us f → ReadingFails limit (a ▸ b) n ts f
  fails_first : {a b : Phrase} {n : ℕ} {ts : List LocatedToken} {f : Failure} → is_at (first a) ts ≡ true → ReadingFails limit a n ts f → ReadingFails limit (either a b) n ts f
  fails_second : {a b : Phrase} {n : ℕ} {ts : List LocatedToken} {f : Failure} → is_at (first a) ts ≡ false → ReadingFails limit b n ts f → ReadingFails limit (either a b) n ts f
  fails_one : {a : Phrase} {n : ℕ} {ts : List LocatedToken} {f : Failure} → is_at (first a) ts ≡ true → ReadingFails limit a n ts f → ReadingFails limit (many a) n ts f
  fails_more : {a : Phrase} {n k : ℕ} {u : PhraseValue a} {ts us : List LocatedToken} {f : Failure} → is_at (first a) ts ≡ true → Finds limit a n ts u k us → ReadingFails limit (many a) k us f → ReadingFails limit (many a) n ts f
  fails_presence : {a : Phrase} {n : ℕ} {ts : List LocatedToken} {f : Failure} → is_at (first a) ts ≡ true → ReadingFails limit a n ts f → ReadingFails limit (optional a) n ts f
  fails_level : {a : Phrase} {n : ℕ} {ts : List LocatedToken} {f : Failure} → ReadingFails limit a n ts f → ReadingFails limit (level a) n ts f
  fails_rule : {x : Nonterminal} {n : ℕ} {ts : List LocatedToken} {f : Failure} → ReadingFails limit (form x) n ts f → ReadingFails limit (rule x) n ts f
  fails_each_deep : {k : Kind} {a : Phrase} {n : ℕ} {ts : List LocatedToken} → is_at (classes_of k) ts ≡ true → limit ≤ n → ReadingFails limit (each k a) n ts (too_deep ts)
  fails_each : {k : Kind} {a : Phrase} {n : ℕ} {t : LocatedToken} {w : Said k} {ts : List LocatedToken} {f : Failure} → says k t ≡ Some w → n < limit → ReadingFails limit a (n + 1) ts f → ReadingFails limit (each k a) n (t ∷ ts) f
  fails_each_more : {l : Kind} {a : Phrase} {n k : ℕ} {t : LocatedToken} {w : Said l} {u : PhraseValue a} {ts us : List LocatedToken} {f : Failure} → says l t ≡ Some w → n < limit → Finds limit a (n + 1) ts u k us → ReadingFails limit (each l a) k us f → ReadingFails limit (each l a) n (t ∷ ts) f
  fails_something : {k : Kind} {a : Phrase} {n : ℕ} {t : LocatedToken} {w : Said k} {ts : List LocatedToken} {f : Failure} → says k t ≡ Some w → ReadingFails limit a n ts f → ReadingFails limit (perhaps k a) n (t ∷ ts) f
  fails_quoted : {a : Phrase} {n : ℕ} {ts : List LocatedToken} {f : Failure} → is_quoted ts ≡ true → ReadingFails limit quoted n ts f → ReadingFails limit (quoted_or a) n ts f
  fails_unquoted : {a : Phrase} {n : ℕ} {ts : List LocatedToken} {f : Failure} → is_quoted ts ≡ false → ReadingFails limit a n ts f → ReadingFails limit (quoted_or a) n ts f
