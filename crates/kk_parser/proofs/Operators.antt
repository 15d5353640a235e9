-- The operators of one level of precedence: one of some symbols, each of which opens a level.
use Rattle.std.proofs.Common.{◌≡◌, ℕ, Bool, true, false, ◌||◌, refl, List, [], ◌∷◌, map, Option, Some, Result, Ok, Err, IsErrAnd, inl, inr}
use Rattle.kk_syntax.specs.declared.token.LocatedToken.{LocatedToken}
use Rattle.kk_syntax.specs.declared.token.Symbol.{Symbol}
use Rattle.kk_parser.specs.declared.fault.Fault.{Fault}
use Rattle.kk_parser.specs.declared.parser.Parser.{Parser}
use Rattle.kk_parser.specs.Classes.{symbol as symbol_class, class_of, same_class, is_one_of, is_at}
use Rattle.kk_parser.specs.Kinds.{symbol}
use Rattle.kk_parser.specs.Phrases.{Phrase, PhraseValue, opener, either}
use Rattle.kk_parser.specs.Reading.{first, Finds, finds_first, finds_second, Failure, ReadingFails, fails_first, fails_second}
use Rattle.kk_parser.specs.Methods.{ReadsIfNext, Deepens}
use Rattle.kk_parser.proofs.ClassDisjointness.{apart, apart-is_at}
use Rattle.kk_parser.proofs.FirstTokens.{is_at-front, is_at-back}
use Rattle.kk_parser.proofs.Steps.{said_next, opener_read, deepen_failed, passed_on, gives_up_if_next}
use Rattle.kk_parser.specs.Depths.{most_levels}

-- Placed s p v: a phrase p that is one of some phrases may be the opener of the symbol s, and it then says v
pub data Placed (s : Symbol) : (p : Phrase) → PhraseValue p → Type 0 where
  alone : Placed s (opener (symbol s)) tt
  sooner : {a b : Phrase} {v : PhraseValue a} → Placed s a v → Placed s (either a b) (inl v)
  later : {a b : Phrase} {v : PhraseValue b} → apart (symbol_class s ∷ []) (first a) ≡ true → Placed s b v → Placed s (either a b) (inr v)

placed_next : {s : Symbol} {p : Phrase} {v : PhraseValue p} (ts : List LocatedToken) → Placed s p v → is_at (symbol_class s ∷ []) ts ≡ true → is_at (first p) ts ≡ true
placed_next ts alone h = h
placed_next ts (sooner {a = a} {b = b} l) h = is_at-front (first a) (first b) ts (placed_next ts l h)
placed_next ts (later {a = a} {b = b} e l) h = is_at-back (first a) (first b) ts (placed_next ts l h)

placed_found : {s : Symbol} {p : Phrase} {v : PhraseValue p} {n m : ℕ} {us : List LocatedToken} (ts : List LocatedToken) → Placed s p v → is_at (symbol_class s ∷ []) ts ≡ true → Finds most_levels (opener (symbol s)) n ts tt m us → Finds most_levels p n ts v m us
placed_found ts alone h r = r
placed_found ts (sooner l) h r = finds_first (placed_next ts l h) (placed_found ts l h r)
placed_found {s} ts (later {a = a} e l) h r = finds_second (apart-is_at (symbol_class s ∷ []) (first a) ts e h) (placed_found ts l h r)

placed_failed : {s : Symbol} {p : Phrase} {v : PhraseValue p} {n : ℕ} (ts : List LocatedToken) (f : Failure) → Placed s p v → is_at (symbol_class s ∷ []) ts ≡ true → ReadingFails most_levels (opener (symbol s)) n ts f → ReadingFails most_levels p n ts f
placed_failed ts f alone h r = r
placed_failed ts f (sooner l) h r = fails_first (placed_next ts l h) (placed_failed ts f l h r)
placed_failed {s} ts f (later {a = a} e l) h r = fails_second (apart-is_at (symbol_class s ∷ []) (first a) ts e h) (placed_failed ts f l h r)

-- an operator is next: it opens a level, or one too many
pub operator_found : {A : Type 0} (p : Phrase) (means : PhraseValue p → A) (s : Symbol) {v : PhraseValue p} (x : A) (old new : Parser) → Placed s p v → is_at (symbol_class s ∷ []) old.rest.now ≡ true → means v ≡ x → Deepens (Ok tt) old new → ReadsIfNext p means (Ok (Some x)) old new
operator_found p means s {v} x old new l h e d =
    (placed_next old.rest.now l h, v, e, placed_found old.rest.now l h (opener_read (symbol s) old new tt ((said_next (symbol s) old.rest.now h).1) d.0 d.2 d.1))

pub operator_failed : {A : Type 0} (p : Phrase) (means : PhraseValue p → A) (s : Symbol) {v : PhraseValue p} (r : Result (Option A) Fault) (e : Fault) (old new : Parser) → Placed s p v → is_at (symbol_class s ∷ []) old.rest.now ≡ true → Deepens (Err e) old new → IsErrAnd r (λ y. y ≡ e) → ReadsIfNext p means r old new
operator_failed p means s r e old new l h d i =
    gives_up_if_next p means r e old new i (placed_next old.rest.now l h) (passed_on p (opener (symbol s)) old old new (λ f. placed_failed old.rest.now f l h) e (deepen_failed (symbol s) old new e h d))

-- each of some symbols is not next; so none of them is
abbrev pub NoneNext : List Symbol → List LocatedToken → Type 0
NoneNext [] ts = Unit {0}
NoneNext (s ∷ ss) ts = (is_at (symbol_class s ∷ []) ts ≡ false) × NoneNext ss ts

pub none_next : (ss : List Symbol) (ts : List LocatedToken) → NoneNext ss ts → is_at (map symbol_class ss) ts ≡ false
none_next ss [] h = refl
none_next [] (t ∷ ts) h = refl
none_next (s ∷ ss) (t ∷ ts) h = neither (same_class (class_of t.token) (symbol_class s)) (is_one_of (map symbol_class ss) (class_of t.token)) h.0 (none_next ss (t ∷ ts) h.1)
  where
    neither : (a b : Bool) → (a || false) ≡ false → b ≡ false → (a || b) ≡ false
    neither true b h e = absurd (cc h)
    neither false b h e = e
