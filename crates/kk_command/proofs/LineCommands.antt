-- A line that clap takes has the command of its words, and one that it refuses has none.
use Rattle.std.proofs.Common.{◌≡◌, List, [], ◌∷◌, Bool, true, false, None, cond, refl, sym, ap, subst, ◌∙◌, inl, inr, arith}
use Rattle.std.proofs.lemmas.Bool.Decides.{nat_tests}
use Rattle.clap.specs.contracts.error.kind.ErrorKind.{the_type}
use Rattle.clap.specs.declared.error.Error.{Error}
use Rattle.clap.specs.declared.error.kind.ErrorKind.{ErrorKind}
use Rattle.clap.specs.declared.error.kind.ErrorKind.TheVariants.{OutOfMemory}
use denote.Enum.Bare.{sameb}
use Rattle.clap.specs.declared.parser.matches.ArgMatches.{ArgMatches}
use Rattle.clap.specs.Words.{App, Text, HasMatchesOf, fault_of, is_simple, is_simple_and_free, subcommand_of, subcommand_rows_of}
use Rattle.clap.specs.Kinds.{Kinds, IsAmong, HasKind}
use Rattle.clap.specs.Values.{kind_of}
use Rattle.clap.specs.Walk.{is_empty}
use Rattle.kk_command.specs.Requests.{line_app, request_of, entered_request}

free : is_simple_and_free line_app ≡ true
free = refl

simple : is_simple line_app ≡ true
simple = refl

-- what a parse of the words tells of a command line
pub record Tells (app : App) (words : List Text) (m : ArgMatches) : Type 0 where
  pub kinds : is_simple_and_free app ≡ true → fault_of app words ≡ []
  pub matches : HasMatchesOf app words m

told : (words : List Text) (m : ArgMatches) → Tells line_app words m → entered_request (subcommand_rows_of m) ≡ request_of words
told words m tells =
    ap entered_request (tells.matches simple).1
    ∙ sym (ap (λ (kinds : Kinds). cond (is_empty kinds) (entered_request (subcommand_of line_app words)) None) (tells.kinds free))

pub line_told : (app : App) (words : List Text) (m : ArgMatches) → app ≡ line_app → Tells app words m → entered_request (subcommand_rows_of m) ≡ request_of words
line_told app words m is tells = told words m (subst (λ (a : App). Tells a words m) is tells)

-- a kind that is not equal to want of memory, by the test, is another
pub unlike : (kind of_error : ErrorKind) (same : Bool) → kind ≡ of_error → same ≡ sameb the_type kind OutOfMemory → same ≡ false
    → of_error ≡ OutOfMemory → ⊥
unlike kind of_error same is tested fails wants =
    let S : ErrorKind → Type 0 = λ k. same ≡ sameb the_type k OutOfMemory in
    let equal : same ≡ true = subst S (is ∙ wants) tested in
    cc

among_some : (kind : ErrorKind) (kinds : Kinds) → IsAmong kind kinds → is_empty kinds ≡ false
among_some kind [] among = absurd among
among_some kind (first ∷ rest) among = grind (arith, nat_tests)

refused : (words : List Text) → is_empty (fault_of line_app words) ≡ false → request_of words ≡ None
refused words some = ap (λ (empty : Bool). cond empty (entered_request (subcommand_of line_app words)) None) some

by_kind : (words : List Text) (error : Error) → HasKind (fault_of line_app words) error → (kind_of error ≡ OutOfMemory → ⊥)
    → request_of words ≡ None
by_kind words error (inl wants) other = absurd (other wants)
by_kind words error (inr among) other = refused words (among_some (kind_of error) (fault_of line_app words) among)

-- a line that clap refuses, and not for want of memory, has no command
pub line_refused : (app : App) (words : List Text) (error : Error) → app ≡ line_app
    → (is_simple_and_free app ≡ true → HasKind (fault_of app words) error)
    → (kind_of error ≡ OutOfMemory → ⊥) → None ≡ request_of words
line_refused app words error is kinds other =
    let K : App → Type 0 = λ a. is_simple_and_free a ≡ true → HasKind (fault_of a words) error in
    sym (by_kind words error (subst K is kinds free) other)
