-- What the methods of the parser promise: which phrase they read.
use Rattle.std.specs.Prelude.{◌≡◌, ℕ, ◌+◌, ◌<◌, ◌≤◌, List, [], ◌∷◌, ◌++◌, Option, Some, None, Result, Ok, Err, true, false}
use Rattle.std.specs.Global.{Box}
use Rattle.kk_base.specs.declared.span.Span.{Span}
use Rattle.kk_base.specs.declared.error.ParseError.{ParseError}
use Rattle.kk_base.specs.declared.error.ParseError.TheVariants as OfError
use Rattle.kk_syntax.specs.declared.tree.SurfaceExpr.{SurfaceExpr}
use Rattle.kk_syntax.specs.Surface.{WrittenRow, WrittenStatement}
use Rattle.kk_parser.specs.Forms.{items, bindings_of}
use Rattle.kk_parser.specs.declared.fault.Fault.{Fault}
use Rattle.kk_parser.specs.declared.fault.Fault.TheVariants.{Unexpected, TooDeep, NoMemory}
use Rattle.kk_parser.specs.declared.parser.Parser.{Parser}
use Rattle.kk_parser.specs.Classes.{is_at}
use Rattle.kk_parser.specs.Phrases.{Phrase, PhraseValue, rule, row}
use Rattle.kk_parser.specs.Views.{boxed_expr}
pub use Rattle.kk_parser.specs.Reading.{behind}
use Rattle.kk_parser.specs.Reading.{first, Finds, ReadingFails, unexpected, too_deep}
use Rattle.kk_parser.specs.Depths.{most_levels}

-- from one state of the parser to another it read a phrase that says v
abbrev pub Read : (p : Phrase) → PhraseValue p → Parser → Parser → Type 0
Read p v old new = Finds most_levels p old.depth old.rest.now v new.depth new.rest.now

-- The reading of a phrase failed by a fault, and the parser stands at the token that is the cause. Want of memory is
-- free.
abbrev pub FailedBy : Fault → Phrase → Parser → Parser → Type 0
FailedBy Unexpected p old new = ReadingFails most_levels p old.depth old.rest.now (unexpected new.rest.now)
FailedBy TooDeep p old new = ReadingFails most_levels p old.depth old.rest.now (too_deep new.rest.now)
FailedBy NoMemory p old new = Unit {0}

-- a method read a phrase that says what its result says
abbrev pub ReadsPhrase : {A : Type 0} (p : Phrase) → (A → PhraseValue p) → Result A Fault → Parser → Parser → Type 0
ReadsPhrase p view (Ok x) old new = Read p (view x) old new
ReadsPhrase p view (Err fault) old new = FailedBy fault p old new

-- a function makes what stands for this, or there is no memory
abbrev pub Makes : {A W : Type 0} → (A → W) → W → Result A Fault → Type 0
Makes view w (Ok x) = view x ≡ w
Makes view w (Err fault) = fault ≡ NoMemory

-- a method read a phrase, and gives what is meant by what the phrase says
abbrev pub ReadsFor : {A : Type 0} (p : Phrase) → (PhraseValue p → A) → Result A Fault → Parser → Parser → Type 0
ReadsFor p means (Ok x) old new = (v : PhraseValue p) × (means v ≡ x) × Read p v old new
ReadsFor p means (Err fault) old new = FailedBy fault p old new

-- a method read a phrase; its result, seen as mathematics, is what is meant by what the phrase says
abbrev pub ReadsAs : {A B : Type 0} (p : Phrase) → (PhraseValue p → B) → (A → B) → Result A Fault → Parser → Parser → Type 0
ReadsAs p means view (Ok x) old new = (v : PhraseValue p) × (means v ≡ view x) × Read p v old new
ReadsAs p means view (Err fault) old new = FailedBy fault p old new

-- a method read items: it put their statements behind others, and its result is their value
abbrev pub ReadsItems : List WrittenStatement → List WrittenStatement → Result (Box SurfaceExpr) Fault → Parser → Parser → Type 0
ReadsItems before after (Ok value) old new = (v : PhraseValue items) × (after ≡ before ++ bindings_of v.0) × (v.1 ≡ boxed_expr value) × Read items v old new
ReadsItems before after (Err fault) old new = FailedBy fault items old new

-- a method read a row, and put it behind others
abbrev pub ReadsRow : List WrittenRow → List WrittenRow → Result (Unit {0}) Fault → Parser → Parser → Type 0
ReadsRow before after (Ok _) old new = (v : WrittenRow) × (after ≡ before ++ v ∷ []) × Read (rule row) v old new
ReadsRow before after (Err fault) old new = FailedBy fault (rule row) old new

-- a method read a phrase where the next token may begin one, and else nothing
abbrev pub ReadsIfNext : {A : Type 0} (p : Phrase) → (PhraseValue p → A) → Result (Option A) Fault → Parser → Parser → Type 0
ReadsIfNext p means (Ok None) old new = (is_at (first p) old.rest.now ≡ false) × (new.depth ≡ old.depth) × (new.rest.now ≡ old.rest.now)
ReadsIfNext p means (Ok (Some x)) old new = (is_at (first p) old.rest.now ≡ true) × (v : PhraseValue p) × (means v ≡ x) × Read p v old new
ReadsIfNext p means (Err fault) old new = (is_at (first p) old.rest.now ≡ true) × FailedBy fault p old new

-- the same where nothing may fail
abbrev pub TakesIfNext : (p : Phrase) → Option (PhraseValue p) → Parser → Parser → Type 0
TakesIfNext p None old new = (is_at (first p) old.rest.now ≡ false) × (new.depth ≡ old.depth) × (new.rest.now ≡ old.rest.now)
TakesIfNext p (Some v) old new = (is_at (first p) old.rest.now ≡ true) × Read p v old new

-- the next token was passed, and opened a level, or that would have been one too many
abbrev pub Deepens : Result (Unit {0}) Fault → Parser → Parser → Type 0
Deepens (Ok _) old new = (old.depth < most_levels) × (new.depth ≡ old.depth + 1) × (new.rest.now ≡ behind old.rest.now)
Deepens (Err fault) old new = (fault ≡ TooDeep) × (most_levels ≤ old.depth) × (new.rest.now ≡ old.rest.now)

-- the error that a fault is where some tokens were passed, at the place of the next
abbrev pub error_for : Fault → ℕ → Span → ParseError
error_for Unexpected passed place = OfError.Unexpected passed place.line place.column
error_for TooDeep passed place = OfError.TooDeep passed place.line place.column
error_for NoMemory passed place = OfError.NoMemory
