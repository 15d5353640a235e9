-- What tokens spell by a grammar.
use Rattle.std.specs.Prelude.{◌≡◌, ℕ, ◌+◌, List, [], ◌∷◌, Some, None, false}
use Rattle.std.proofs.Common.{inl, inr}
use Rattle.kk_syntax.specs.declared.token.LocatedToken.{LocatedToken}
use Rattle.kk_syntax.specs.declared.token.Symbol.TheVariants.{CloseParenthesis}
use Rattle.kk_parser.specs.Classes.{is_at}
use Rattle.kk_parser.specs.Kinds.{Kind, Said, says, classes_of, string, symbol}
use Rattle.kk_parser.specs.Phrases.{Nonterminal, Phrase, token, opener, ◌▸◌, either, many, optional, level, rule, each, perhaps, quoted_or, PhraseValue, Grammar}

-- a token with the number of levels that are open at it, one that it opens included
pub record Marked : Type 0 where
  pub token : LocatedToken
  pub levels : ℕ

-- the tokens alone
abbrev pub tokens_of : List Marked → List LocatedToken
tokens_of [] = []
tokens_of (t ∷ ts) = t.token ∷ tokens_of ts

-- Spells grammar p n v m ts us: where n levels are open, the tokens of ts before us are a text of the phrase p that says
-- v, and m levels are open behind it.
pub data Spells (grammar : Grammar) : (p : Phrase) → ℕ → PhraseValue p → ℕ → List Marked → List Marked → Type 0 where
  by_token : {k : Kind} {t : LocatedToken} {v : Said k} {n : ℕ} {us : List Marked} → says k t ≡ Some v → Spells grammar (token k) n v n (record { token = t; levels = n } ∷ us) us
  by_opener : {k : Kind} {t : LocatedToken} {v : Said k} {n : ℕ} {us : List Marked} → says k t ≡ Some v → Spells grammar (opener k) n v (n + 1) (record { token = t; levels = n + 1 } ∷ us) us
  by_both : {a b : Phrase} {n k m : ℕ} {u : PhraseValue a} {v : PhraseValue b} {ts us ws : List Marked} → Spells grammar a n u k ts us → Spells grammar b k v m us ws → Spells grammar (a ▸ b) n (u, v) m ts ws
  by_first : {a b : Phrase} {n m : ℕ} {v : PhraseValue a} {ts us : List Marked} → Spells grammar a n v m ts us → Spells grammar (either a b) n (inl v) m ts us
  by_second : {a b : Phrase} {n m : ℕ} {v : PhraseValue b} {ts us : List Marked} → Spells grammar b n v m ts us → Spells grammar (either a b) n (inr v) m ts us
  by_none : {a : Phrase} {n : ℕ} {ts : List Marked} → Spells grammar (many a) n [] n ts ts
  by_more : {a : Phrase} {n k m : ℕ} {u : PhraseValue a} {vs : List (PhraseValue a)} {ts us ws : List Marked} → Spells grammar a n u k ts us → Spells grammar (many a) k vs m us ws → Spells grammar (many a) n (u ∷ vs) m ts ws
  by_absence : {a : Phrase} {n : ℕ} {ts : List Marked} → Spells grammar (optional a) n None n ts ts
  by_presence : {a : Phrase} {n m : ℕ} {v : PhraseValue a} {ts us : List Marked} → Spells grammar a n v m ts us → Spells grammar (optional a) n (Some v) m ts us
  by_level : {a : Phrase} {n m : ℕ} {v : PhraseValue a} {ts us : List Marked} → Spells grammar a n v m ts us → Spells grammar (level a) n v n ts us
  by_rule : {x : Nonterminal} {n m : ℕ} {v : PhraseValue (grammar.right x)} {ts us : List Marked} → Spells grammar (grammar.right x) n v m ts us → Spells grammar (rule x) n (grammar.meant x v) m ts us
  by_no_more : {k : Kind} {a : Phrase} {n : ℕ} {ts : List Marked} → is_at (classes_of k) (tokens_of ts) ≡ false → Spells grammar (each k a) n [] n ts ts
  by_each : {l : Kind} {a : Phrase} {n k m : ℕ} {t : LocatedToken} {w : Said l} {u : PhraseValue a} {vs : List (PhraseValue a)} {ts us ws : List Marked} → says l t ≡ Some w → Spells grammar a (n + 1) u k ts us → Spells grammar (each l a) k vs m us ws → Spells grammar (each l a) n (u ∷ vs) m (record { token = t; levels = n + 1 } ∷ ts) ws
  by_nothing : {k : Kind} {a : Phrase} {n : ℕ} {ts : List Marked} → is_at (classes_of k) (tokens_of ts) ≡ false → Spells grammar (perhaps k a) n None n ts ts
  by_something : {k : Kind} {a : Phrase} {n m : ℕ} {t : LocatedToken} {w : Said k} {v : PhraseValue a} {ts us : List Marked} → says k t ≡ Some w → Spells grammar a n v m ts us → Spells grammar (perhaps k a) n (Some v) m (record { token = t; levels = n } ∷ ts) us
  by_quoted : {a : Phrase} {n m : ℕ} {v : Said string} {ts us : List Marked} → Spells grammar (token string ▸ token (symbol CloseParenthesis)) n (v, tt) m ts us → Spells grammar (quoted_or a) n (inl v) m ts us
  by_unquoted : {a : Phrase} {n m : ℕ} {v : PhraseValue a} {ts us : List Marked} → Spells grammar a n v m ts us → Spells grammar (quoted_or a) n (inr v) m ts us
