-- Reading a text, lexeme by lexeme.
use Rattle.std.proofs.Common.{◌≡◌, ℕ, zero, suc, ◌+◌, ◌<◌, ◌≤◌, List, [], ◌++◌, length, take, drop, Option, Some, None, Bool, sym, subst, arith}
use Rattle.std.specs.Prelude.{Ok, Err}
use Rattle.std.proofs.lemmas.List.{append-nil, length-append, length-drop, nil_from_length}
use Rattle.kk_base.specs.declared.error.LexError.{LexError}
use Rattle.kk_base.specs.declared.error.LexError.TheVariants as OfLexError
use Rattle.kk_base.specs.declared.span.Span.{Span}
use Rattle.kk_syntax.specs.declared.token.LocatedToken.{LocatedToken}
use Rattle.kk_syntax.specs.declared.token.Token.{Token}
use Rattle.kk_syntax.specs.Places.{start, place_behind}
use Rattle.kk_lexer.specs.FirstLexemes.{meaning_of, IsFirstLexeme}
use Rattle.kk_lexer.specs.Lexemes.{Meaning, BeginsWith, lexeme, no_lexeme}
use Rattle.kk_lexer.specs.Readings.{is_sign, Outcome, ReadsText, ends, passes, keeps, refuses, IsReadAs, IsReading, UnlessNoMemory}
use Rattle.kk_lexer.proofs.ReadingUniqueness.{no_empty_lexeme, one_reading}
use Rattle.kk_lexer.specs.Scanners.{located}

-- what a text begins with has a byte, and no more than the text
pub BeginsWith-fits : {signed : Bool} {at : ℕ} {text : List ℕ} {n : ℕ} {m : Meaning} → BeginsWith signed at text n m → (0 < n) × (n ≤ length text)
BeginsWith-fits {signed} {at} {text} (lexeme zero m longest spells) = absurd (no_empty_lexeme spells)
BeginsWith-fits (lexeme (suc n) m longest spells) = (omega arith, longest.fits)
BeginsWith-fits (no_lexeme some none) = (omega arith, some)

-- so far, the text is read as what is left of it is
pub record ReadsOn (text : List ℕ) (before : List LocatedToken) (place : Span) (rest : List ℕ) : Type 0 where
  pub reads : (outcome : Outcome) → ReadsText before place rest outcome → IsReadAs text outcome
  pub few : length before + length rest ≤ length text

pub ReadsOn-start : (text : List ℕ) → ReadsOn text [] start text
ReadsOn-start text = record { reads = λ outcome h. h; few = omega arith }

read_one : (before : List LocatedToken) (place : Span) (text : List ℕ) (n : ℕ) (token : Option Token) (outcome : Outcome) → BeginsWith (is_sign before place.line) place.at text n (meaning_of token)
    → ReadsText (before ++ located token place) (place_behind place (take n text)) (drop n text) outcome → ReadsText before place text outcome
read_one before place text n None outcome begins rest =
    passes before place text n outcome begins (subst (λ x. ReadsText x (place_behind place (take n text)) (drop n text) outcome) (append-nil before) rest)
read_one before place text n (Some token) outcome begins rest = keeps before place text n token outcome begins rest

located_few : (token : Option Token) (place : Span) → length (located token place) ≤ 1
located_few None place = omega arith
located_few (Some token) place = omega arith

pub ReadsOn-more : (text : List ℕ) (before : List LocatedToken) (place : Span) (rest : List ℕ) (n : ℕ) (token : Option Token) → ReadsOn text before place rest
    → BeginsWith (is_sign before place.line) place.at rest n (meaning_of token) → ReadsOn text (before ++ located token place) (place_behind place (take n rest)) (drop n rest)
ReadsOn-more text before place rest n token so_far begins =
    let size = BeginsWith-fits begins in
    record {
      reads = λ outcome h. so_far.reads outcome (read_one before place rest n token outcome begins h);
      few = simp (length-append, length-drop) (omega (arith, so_far.few, located_few token place));
    }

the_reading : {text : List ℕ} {outcome : Outcome} → IsReadAs text outcome → IsReading text outcome
the_reading h = record { holds = h; only = λ other k. one_reading h k }

-- at the end of the text
pub ReadsOn-end : (text : List ℕ) (before : List LocatedToken) (place : Span) (rest : List ℕ) → ReadsOn text before place rest → length rest ≡ 0 → IsReading text (Ok (record { items = before; end = place }))
ReadsOn-end text before place rest so_far none =
    the_reading (so_far.reads _ (subst (λ x. ReadsText before place x (Ok (record { items = before; end = place }))) (sym (nil_from_length rest none)) (ends before place)))

-- at a refusal
pub ReadsOn-refused : (text : List ℕ) (before : List LocatedToken) (place : Span) (rest : List ℕ) (error : LexError) → ReadsOn text before place rest
    → IsFirstLexeme (is_sign before place.line) place.at rest (Err error) → UnlessNoMemory (Err error) (IsReading text)
ReadsOn-refused text before place rest OfLexError.NoMemory so_far h = tt
ReadsOn-refused text before place rest error so_far h = the_reading (so_far.reads _ (refuses before place rest h.0 _ h.1))
