-- Phrases with commas between them, as they are read one by one.
use Rattle.std.proofs.Common.{◌≡◌, true, false, List, [], ◌∷◌, ◌++◌, map, Some, None, Result, IsErrAnd, refl, sym, ◌∙◌, append_assoc}
use Rattle.std.proofs.lemmas.List.{append-nil}
use Rattle.kk_syntax.specs.declared.token.Symbol.TheVariants.{Comma, Semicolon}
use Rattle.kk_parser.specs.declared.fault.Fault.{Fault}
use Rattle.kk_parser.specs.declared.parser.Parser.{Parser}
use Rattle.kk_parser.specs.Classes.{is_at}
use Rattle.kk_parser.specs.Grammar.{semicolons, some_listed, some_listed_of, listed, listed_of}
use Rattle.kk_parser.specs.Forms.{and_more, separated, separated_of, those_given}
use Rattle.kk_parser.specs.Kinds.{symbol, classes_of}
use Rattle.kk_parser.specs.Methods.{behind, Read, FailedBy, ReadsAs}
use Rattle.kk_parser.specs.Phrases.{Phrase, PhraseValue, token, ◌▸◌, many, optional}
use Rattle.kk_parser.specs.Reading.{first, Failure, ReadingFails, finds_both, finds_absence, finds_presence, fails_front, fails_behind, fails_one, fails_presence}
use Rattle.kk_parser.proofs.Steps.{Continues, continues_many, ends_many, symbol_read, gives_up_as_in}
use Rattle.kk_parser.specs.Depths.{most_levels}

-- a comma, and one more
abbrev pub next_listed : Phrase → Phrase
next_listed a = token (symbol Comma) ▸ a

-- those given were read, and more may stand behind them
pub record Lists (a : Phrase) (given : List (PhraseValue a)) (start here : Parser) : Type 0 where
  pub says : List (PhraseValue (next_listed a)) → PhraseValue (listed a)
  pub read : Continues (listed a) (many (next_listed a)) says start here
  pub meant : (vs : List (PhraseValue (next_listed a))) → listed_of (says vs) ≡ given ++ map (λ m. m.1) vs

-- a list was read
abbrev pub ReadsList : (a : Phrase) → List (PhraseValue a) → Parser → Parser → Type 0
ReadsList a given start here = (v : PhraseValue (listed a)) × (listed_of v ≡ given) × Read (listed a) v start here

pub lists_none : (a : Phrase) (start : Parser) → is_at (first (a ▸ many (next_listed a))) start.rest.now ≡ false → ReadsList a [] start start
lists_none a start h = (None, refl, finds_absence h)

pub lists_one : (a : Phrase) (u : PhraseValue a) (start here : Parser) → is_at (first (a ▸ many (next_listed a))) start.rest.now ≡ true → Read a u start here → Lists a (u ∷ []) start here
lists_one a u start here h r = record {
  says = λ vs. Some (u, vs);
  read = record { found = λ v m us s. finds_presence h (finds_both r s); failed = λ f s. fails_presence h (fails_behind r s) };
  meant = λ vs. refl;
}

pub lists_more : (a : Phrase) (given : List (PhraseValue a)) (u : PhraseValue a) (start here mid next : Parser) → Lists a given start here → is_at (classes_of (symbol Comma)) here.rest.now ≡ true → Read (token (symbol Comma)) tt here mid → Read a u mid next → Lists a (given ++ u ∷ []) start next
lists_more a given u start here mid next l h r s = record {
  says = λ vs. l.says ((tt, u) ∷ vs);
  read = continues_many (listed a) (next_listed a) l.says (tt, u) start here next l.read h (finds_both r s);
  meant = λ vs. l.meant ((tt, u) ∷ vs) ∙ sym (append_assoc given (u ∷ []) (map (λ m. m.1) vs));
}

pub lists_end : (a : Phrase) (given : List (PhraseValue a)) (start here : Parser) → Lists a given start here → is_at (classes_of (symbol Comma)) here.rest.now ≡ false → ReadsList a given start here
lists_end a given start here l h =
    (l.says [], l.meant [] ∙ append-nil given, ends_many l.read h)

-- the first failed, or one behind a comma
pub lists_fails_first : (a : Phrase) (start : Parser) (f : Failure) → is_at (first (a ▸ many (next_listed a))) start.rest.now ≡ true → ReadingFails most_levels a start.depth start.rest.now f → ReadingFails most_levels (listed a) start.depth start.rest.now f
lists_fails_first a start f h r = fails_presence h (fails_front r)

pub lists_fails : (a : Phrase) (given : List (PhraseValue a)) (start here mid : Parser) (f : Failure) → Lists a given start here → is_at (classes_of (symbol Comma)) here.rest.now ≡ true → Read (token (symbol Comma)) tt here mid → ReadingFails most_levels a mid.depth mid.rest.now f → ReadingFails most_levels (listed a) start.depth start.rest.now f
lists_fails a given start here mid f l h r s = l.read.failed f (fails_one h (fails_behind r s))

-- the same of lists with at least one
pub record SomeLists (a : Phrase) (given : List (PhraseValue a)) (start here : Parser) : Type 0 where
  pub says : List (PhraseValue (next_listed a)) → PhraseValue (some_listed a)
  pub read : Continues (some_listed a) (many (next_listed a)) says start here
  pub meant : (vs : List (PhraseValue (next_listed a))) → some_listed_of (says vs) ≡ given ++ map (λ m. m.1) vs

abbrev pub ReadsSomeList : (a : Phrase) → List (PhraseValue a) → Parser → Parser → Type 0
ReadsSomeList a given start here = (v : PhraseValue (some_listed a)) × (some_listed_of v ≡ given) × Read (some_listed a) v start here

pub some_lists_one : (a : Phrase) (u : PhraseValue a) (start here : Parser) → Read a u start here → SomeLists a (u ∷ []) start here
some_lists_one a u start here r = record {
  says = λ vs. (u, vs);
  read = record { found = λ v m us s. finds_both r s; failed = λ f s. fails_behind r s };
  meant = λ vs. refl;
}

pub some_lists_more : (a : Phrase) (given : List (PhraseValue a)) (u : PhraseValue a) (start here mid next : Parser) → SomeLists a given start here → is_at (classes_of (symbol Comma)) here.rest.now ≡ true → Read (token (symbol Comma)) tt here mid → Read a u mid next → SomeLists a (given ++ u ∷ []) start next
some_lists_more a given u start here mid next l h r s = record {
  says = λ vs. l.says ((tt, u) ∷ vs);
  read = continues_many (some_listed a) (next_listed a) l.says (tt, u) start here next l.read h (finds_both r s);
  meant = λ vs. l.meant ((tt, u) ∷ vs) ∙ sym (append_assoc given (u ∷ []) (map (λ m. m.1) vs));
}

-- Those given were read and a comma behind them: what stands behind it is one more, or fails as the list.
pub record SomeListsNext (a : Phrase) (given : List (PhraseValue a)) (start here : Parser) : Type 0 where
  pub more : (u : PhraseValue a) (next : Parser) → Read a u here next → SomeLists a (given ++ u ∷ []) start next
  pub failed : (f : Failure) → ReadingFails most_levels a here.depth here.rest.now f
      → ReadingFails most_levels (some_listed a) start.depth start.rest.now f

pub some_lists_next : (a : Phrase) {given : List (PhraseValue a)} {start here : Parser} (mid : Parser)
    → SomeLists a given start here → is_at (classes_of (symbol Comma)) here.rest.now ≡ true → mid.rest.now ≡ behind here.rest.now → mid.depth ≡ here.depth
    → SomeListsNext a given start mid
some_lists_next a {given = given} {start = start} {here = here} mid l h passed depth =
    let comma = symbol_read Comma here mid h passed depth in
    record {
      more = λ u next r. some_lists_more a given u start here mid next l h comma r;
      failed = λ f r. l.read.failed f (fails_one h (fails_behind comma r));
    }

-- where that fails, the list is given up
pub some_lists_failed : {A B : Type 0} (a : Phrase) (means : PhraseValue (some_listed a) → B) (view : A → B) (r : Result A Fault)
    (e : Fault) {given : List (PhraseValue a)} (start here next : Parser) → IsErrAnd r (λ y. y ≡ e) → FailedBy e a here next
    → SomeListsNext a given start here → ReadsAs (some_listed a) means view r start next
some_lists_failed a means view r e start here next is fails behind_comma =
    gives_up_as_in (some_listed a) a means view r e start here next behind_comma.failed is fails

pub some_lists_end : (a : Phrase) (given : List (PhraseValue a)) (start here : Parser) → SomeLists a given start here → is_at (classes_of (symbol Comma)) here.rest.now ≡ false → ReadsSomeList a given start here
some_lists_end a given start here l h =
    (l.says [], l.meant [] ∙ append-nil given, ends_many l.read h)

-- a list with at least one is a list
pub listed_some : {A : Type 0} (v : A × List (Unit {0} × A)) → listed_of (Some v) ≡ some_listed_of v
listed_some (first, more) = refl

pub continues_some : (a : Phrase) (start : Parser) → is_at (first (some_listed a)) start.rest.now ≡ true → Continues (listed a) (some_listed a) Some start start
continues_some a start h = record { found = λ v m us r. finds_presence h r; failed = λ f r. fails_presence h r }

-- those given were read, and more may stand behind semicolons
pub record Separated (a : Phrase) (given : List (PhraseValue a)) (start here : Parser) : Type 0 where
  pub says : PhraseValue (and_more a) → PhraseValue (separated a)
  pub read : Continues (separated a) (and_more a) says start here
  pub meant : (vs : PhraseValue (and_more a)) → separated_of (says vs) ≡ given ++ those_given vs

pub separated_one : (a : Phrase) (s : PhraseValue semicolons) (u : PhraseValue a) (start mid here : Parser) → Read semicolons s start mid → Read a u mid here → Separated a (u ∷ []) start here
separated_one a s u start mid here r t = record {
  says = λ vs. (s, (u, vs));
  read = record { found = λ v m us w. finds_both r (finds_both t w); failed = λ f w. fails_behind r (fails_behind t w) };
  meant = λ vs. refl;
}

pub separated_more : (a : Phrase) (given : List (PhraseValue a)) (u : PhraseValue a) (start here mid next : Parser) → Separated a given start here → is_at (classes_of (symbol Semicolon)) here.rest.now ≡ true → Read (token (symbol Semicolon)) tt here mid → is_at (first a) mid.rest.now ≡ true → Read a u mid next → Separated a (given ++ u ∷ []) start next
separated_more a given u start here mid next l h r i s = record {
  says = λ vs. l.says ((tt, Some u) ∷ vs);
  read = continues_many (separated a) (token (symbol Semicolon) ▸ optional a) l.says (tt, Some u) start here next l.read h (finds_both r (finds_presence i s));
  meant = λ vs. l.meant ((tt, Some u) ∷ vs) ∙ sym (append_assoc given (u ∷ []) (those_given vs));
}

pub separated_passed : (a : Phrase) (given : List (PhraseValue a)) (start here next : Parser) → Separated a given start here → is_at (classes_of (symbol Semicolon)) here.rest.now ≡ true → Read (token (symbol Semicolon)) tt here next → is_at (first a) next.rest.now ≡ false → Separated a given start next
separated_passed a given start here next l h r i = record {
  says = λ vs. l.says ((tt, None) ∷ vs);
  read = continues_many (separated a) (token (symbol Semicolon) ▸ optional a) l.says (tt, None) start here next l.read h (finds_both r (finds_absence i));
  meant = λ vs. l.meant ((tt, None) ∷ vs);
}

pub separated_end : (a : Phrase) (given : List (PhraseValue a)) (start here : Parser) → Separated a given start here → is_at (classes_of (symbol Semicolon)) here.rest.now ≡ false → (v : PhraseValue (separated a)) × (separated_of v ≡ given) × Read (separated a) v start here
separated_end a given start here l h = (l.says [], l.meant [] ∙ append-nil given, ends_many l.read h)
