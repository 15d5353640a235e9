-- What a text comes to, judgement by judgement.
use Rattle.std.proofs.Common.{◌≡◌, ℕ, ◌*◌, ◌<◌, ◌≤◌, ◌^◌, List, [], length, map, get_or, None, Some, false, refl, sym, ap, ◌∙◌, subst, inl, inr, arith, ◌+◌}
use Rattle.std.specs.Prelude.{All, IfOk, IfErr, OnOk, Result, Ok, Err, slice_get}
use Rattle.std.proofs.lemmas.Bool.{cases_lt}
use Rattle.std.proofs.lemmas.List.{length-map, get_or-map}
use Rattle.std.proofs.lemmas.Option.{slice_get_within, get_or_from_slice_get}
use Rattle.kk_base.specs.Exactly.{IsOnly, ExactlyOne}
use Rattle.kk_base.specs.declared.error.LexError.{LexError}
use Rattle.kk_base.specs.declared.error.LexError.TheVariants as OfLex
use Rattle.kk_base.specs.declared.error.NameError.{NameError}
use Rattle.kk_base.specs.declared.error.NameError.TheVariants as OfName
use Rattle.kk_base.specs.declared.error.ParseError.{ParseError}
use Rattle.kk_base.specs.declared.error.ParseError.TheVariants as OfParse
use Rattle.kk_base.specs.declared.limit.Limit.{Limit}
use Rattle.kk_base.specs.declared.limit.LimitKind.TheVariants.{Source}
use Rattle.kk_base.specs.declared.refusal.Refusal.{Refusal}
use Rattle.kk_base.specs.declared.refusal.Refusal.TheVariants as OfText
use Rattle.kk_base.specs.Limits.{greatest_of}
use Rattle.kk_syntax.specs.declared.accepted.Accepted.{Accepted}
use Rattle.kk_syntax.specs.declared.program.Program.{Program}
use Rattle.kk_syntax.specs.declared.tree.Tree.{Tree}
use Rattle.kk_syntax.specs.Outlines.{Outline}
use Rattle.kk_syntax.specs.declared.program.Fun.{Fun}
use Rattle.kk_syntax.specs.Programs.{FunctionTree, ProgramTree, AreDeclared, function_tree, program_tree}
use Rattle.kk_syntax.specs.Shapes.{nodes_of}
use Rattle.kk_syntax.specs.Surface.{WrittenTree, written_declaration, written_tree}
use Rattle.kk_syntax.specs.Typing.{TypesAs}
use Rattle.kk_syntax.specs.WrittenNodes.{nodes_in}
use Rattle.kk_syntax.specs.TokenList.{TokenList}
use Rattle.kk_lexer.specs.Readings.{IsReadAs, IsReading, UnlessNoMemory, EachTextIsRead}
use Rattle.kk_layout.specs.Layouts.{laid_out_list}
use Rattle.kk_parser.specs.Parses.{in_u32, ParsesAs, AnswersParse, EachListIsParsed}
use Rattle.kk_names.specs.declared.fault.FaultKind.{FaultKind}
use Rattle.kk_names.specs.declared.fault.FaultKind.TheVariants.{Twice, Unknown, Arity}
use Rattle.kk_names.specs.Faults.{error_for}
use Rattle.kk_names.specs.Names.{ResolvesAs, IsRefusedFor, first_fault, no_main, main_shape, AnswersNames, KeepsNodes, EachTreeIsResolved}
use Rattle.kk_names.proofs.Constructors.{program_declared}
use Rattle.kk_types.specs.Checks.{EachProgramIsChecked, EachTypedProgramHasPrincipalTypes}
use Rattle.kk_mono.specs.Counts.{CountsAs, AnswersCounts, EachProgramIsCounted}
use Rattle.kk_syntax.specs.Declarations.{DeclarationsAs}
use Rattle.kk_cover.specs.Matches.{Miss, CoversAs, missed_in, IsDecided, EachTypedProgramIsDecided}
use Rattle.kk_cover.specs.ExampleSpelling.{spelled}
use Rattle.kk_front.specs.Chain.{Then, ToldAs, Checking}
use Rattle.kk_front.specs.Outcome.{without_example, up_to_example, IsOutcome, HasOneOutcome}
use Rattle.kk_front.specs.Judgement.{ChecksLength, ChecksTypes, TellsUncovered, ChecksCover, ChecksProgram, JudgedAs, IsProgramOf, Refuses, IsRefusalOf, RefusesProgram, wants_memory, EachTextIsJudged}
use Rattle.kk_front.proofs.Bounds.{fewer, parse_told, limit_told}
use Rattle.kk_front.proofs.Chains.{err_same, apart, only_told_ok, only_told_err, only_checking_ok, only_checking_err, exactly_checking, of_only, outcome_checking_ok, outcome_checking_err, IsSound, sound_then, sound_told, sound_checking, LeadsTo, fails_at, fails_with, passes_to, passes_with}

-- the links of the chain, and what stands behind each
abbrev pub OfLength : List ℕ → Result (List ℕ) Refusal → Type 0
OfLength = ToldAs OfText.Over (Checking ChecksLength)

abbrev pub OfLexemes : List ℕ → Result TokenList Refusal → Type 0
OfLexemes = ToldAs OfText.Lex IsReadAs

abbrev pub LaidOutParses : TokenList → Result WrittenTree ParseError → Type 0
LaidOutParses tokens = ParsesAs (laid_out_list tokens)

abbrev pub OfGrammar : TokenList → Result WrittenTree Refusal → Type 0
OfGrammar = ToldAs OfText.Parse LaidOutParses

abbrev pub OfNames : WrittenTree → Result ProgramTree Refusal → Type 0
OfNames = ToldAs OfText.Name ResolvesAs

abbrev pub OfDeclarations : ProgramTree → Result ProgramTree Refusal → Type 0
OfDeclarations = ToldAs OfText.Over (Checking DeclarationsAs)

abbrev pub OfTypes : ProgramTree → Result ProgramTree Refusal → Type 0
OfTypes = Checking ChecksTypes

abbrev pub OfCover : ProgramTree → Result ProgramTree Refusal → Type 0
OfCover = Checking ChecksCover

abbrev pub OfCounts : ProgramTree → Result ProgramTree Refusal → Type 0
OfCounts = ToldAs OfText.Over (Checking CountsAs)

abbrev pub FromCover : ProgramTree → Result ProgramTree Refusal → Type 0
FromCover = Then OfCover OfCounts

abbrev pub FromTypes : ProgramTree → Result ProgramTree Refusal → Type 0
FromTypes = Then OfTypes FromCover

abbrev pub FromNames : WrittenTree → Result ProgramTree Refusal → Type 0
FromNames = Then OfNames ChecksProgram

abbrev pub FromGrammar : TokenList → Result ProgramTree Refusal → Type 0
FromGrammar = Then OfGrammar FromNames

abbrev pub FromLexemes : List ℕ → Result ProgramTree Refusal → Type 0
FromLexemes = Then OfLexemes FromGrammar

-- ---- each link comes to one thing

-- the length of a text
only_length : (text : List ℕ) (outcome : Result (Unit {0}) Limit) → ChecksLength text outcome → IsOnly (ChecksLength text) outcome
only_length text outcome h = record { holds = h; only = λ other k. one outcome other h k }
  where
    one : (a b : Result (Unit {0}) Limit) → ChecksLength text a → ChecksLength text b → b ≡ a
    one (Ok _) (Ok _) x y = refl
    one (Ok _) (Err l) x y = absurd (omega (arith, x, y.0))
    one (Err l) (Ok _) x y = absurd (omega (arith, y, x.0))
    one (Err l) (Err k) x y = ap Err (y.1 ∙ sym x.1)

exactly_length : (text : List ℕ) → ExactlyOne (ChecksLength text)
exactly_length text =
    elim (cases_lt (greatest_of Source) (length text)) [
      | inl long ↦ let limit : Limit = record { kind = Source; count = greatest_of Source + 1 } in (Err limit, only_length text (Err limit) (long, refl))
      | inr short ↦ (Ok tt, only_length text (Ok tt) short)
    ]

-- the types of a program
module _ (program : ProgramTree) where
  some_same : {f g : FunctionTree} → Some f ≡ Some g → f ≡ g
  some_same e = cc e

  pub only_typed : IsOnly (TypesAs program) (Ok tt) → IsOnly (ChecksTypes program) (Ok tt)
  only_typed h = record { holds = h.holds; only = one }
    where
      one : (other : Result (Unit {0}) Refusal) → ChecksTypes program other → other ≡ Ok tt
      one (Ok _) x = refl
      one (Err r) x = absurd (apart (sym (h.only (Err x.number) x.first)))

  pub only_untyped : (number : ℕ) (function : FunctionTree) → slice_get program.functions number ≡ Some function → IsOnly (TypesAs program) (Err number) → IsOnly (ChecksTypes program) (Err (OfText.NotTyped function.name))
  only_untyped number function is h =
      record { holds = record { number = number; function = function; first = h.holds; is = is; refusal_is = refl }; only = one }
    where
      one : (other : Result (Unit {0}) Refusal) → ChecksTypes program other → other ≡ Err (OfText.NotTyped function.name)
      one (Ok _) x = absurd (apart (h.only (Ok tt) x))
      one (Err r) x =
          let number_is : x.number ≡ number = err_same (h.only (Err x.number) x.first) in
          let same : x.function ≡ function = some_same (sym x.is ∙ (ap (slice_get program.functions) number_is ∙ is)) in
          ap Err (x.refusal_is ∙ ap (λ (f : FunctionTree). OfText.NotTyped f.name) same)

  pub exactly_typed : ExactlyOne (TypesAs program) → ExactlyOne (ChecksTypes program)
  exactly_typed (Ok _, h) = (Ok tt, only_typed h)
  exactly_typed (Err number, h) = (Err (OfText.NotTyped h.holds.function.name), only_untyped number h.holds.function h.holds.is h)

-- the matches of a program that comes to one thing by them
module _ (program : ProgramTree) where
  some_equal : {m n : ℕ} → Some m ≡ Some n → m ≡ n
  some_equal e = cc e

  some_apart : {n : ℕ} → Some n ≡ None → ⊥
  some_apart e = cc e

  abbrev OnlyMiss : Result (Unit {0}) Miss → Type 0
  OnlyMiss outcome = (other : Result (Unit {0}) Miss) → CoversAs program other → missed_in other ≡ missed_in outcome

  covered_outcome : CoversAs program (Ok tt) → OnlyMiss (Ok tt) → IsOutcome (ChecksCover program) (Ok tt)
  covered_outcome holds only = record { holds = holds; only = one }
    where
      one : (other : Result (Unit {0}) Refusal) → ChecksCover program other → up_to_example other ≡ Ok tt
      one (Ok _) x = refl
      one (Err r) x = absurd (some_apart (only (Err x.miss) x.first))

  uncovered_outcome : (refusal : Refusal) → (told : TellsUncovered program refusal) → OnlyMiss (Err told.miss) → IsOutcome (ChecksCover program) (Err refusal)
  uncovered_outcome refusal told only = record { holds = told; only = one }
    where
      one : (other : Result (Unit {0}) Refusal) → ChecksCover program other → up_to_example other ≡ Err (without_example refusal)
      one (Ok _) x = absurd (some_apart (sym (only (Ok tt) x)))
      one (Err r) x =
          let number_is : x.miss.function ≡ told.miss.function = some_equal (only (Err x.miss) x.first) in
          let same : x.function ≡ told.function = some_same program (sym x.is ∙ (ap (slice_get program.functions) number_is ∙ told.is)) in
          ap Err (ap without_example x.refusal_is ∙ (ap (λ (f : FunctionTree). OfText.NotCovered f.name []) same ∙ sym (ap without_example told.refusal_is)))

  -- each outcome of a program that is typed is the only one
  all_alike : IsDecided program → (outcome : Result (Unit {0}) Miss) → CoversAs program outcome → OnlyMiss outcome
  all_alike decided outcome holds other x = decided.only other x ∙ sym (decided.only outcome holds)

  pub only_covered : IsDecided program → CoversAs program (Ok tt) → IsOutcome (ChecksCover program) (Ok tt)
  only_covered decided holds = covered_outcome holds (all_alike decided (Ok tt) holds)

  pub only_uncovered : IsDecided program → (refusal : Refusal) → TellsUncovered program refusal → IsOutcome (ChecksCover program) (Err refusal)
  only_uncovered decided refusal told = uncovered_outcome refusal told (all_alike decided (Err told.miss) told.first)

  pub one_covered : IsDecided program → HasOneOutcome (ChecksCover program)
  one_covered decided = by decided.outcome decided.holds
    where
      by : (outcome : Result (Unit {0}) Miss) → CoversAs program outcome → HasOneOutcome (ChecksCover program)
      by (Ok _) holds = (Ok tt, only_covered decided holds)
      by (Err miss) holds =
          let refusal : Refusal = OfText.NotCovered holds.function.name (spelled program miss.example) in
          (Err refusal, only_uncovered decided refusal (record { miss = miss; function = holds.function; first = holds; is = holds.there; refusal_is = refl }))

-- the function of a program that is told, with an example
pub only_missed_at : (program : Program) → IsDecided (program_tree program) → (number : ℕ) (e : Outline) (function other : Fun) → CoversAs (program_tree program) (Err (record { function = number; example = e }))
    → function ≡ get_or program.functions.items number other → IsOutcome (ChecksCover (program_tree program)) (Err (OfText.NotCovered function.name (spelled (program_tree program) e)))
only_missed_at program decided number e function other holds is =
    let functions = program.functions.items in
    let lt : number < length functions = (let within = slice_get_within (map function_tree functions) number holds.function holds.there in let long = length-map functions function_tree in omega (arith, within, long)) in
    let same : function_tree function ≡ holds.function =
    ap function_tree is ∙ (sym (get_or-map function_tree functions number other holds.function lt) ∙ get_or_from_slice_get (map function_tree functions) number holds.function holds.function holds.there) in
    only_uncovered (program_tree program) decided (OfText.NotCovered function.name (spelled (program_tree program) e)) (record {
      miss = record { function = number; example = e };
      function = holds.function;
      first = holds;
      is = holds.there;
      refusal_is = ap (λ (f : FunctionTree). OfText.NotCovered f.name (spelled (program_tree program) e)) same;
    })

-- no name's error is want of memory
no_fault_wants : (kind : FaultKind) (name : List ℕ) (at : ℕ) → wants_memory (OfText.Name (error_for kind name at)) ≡ false
no_fault_wants Twice name at = refl
no_fault_wants Unknown name at = refl
no_fault_wants Arity name at = refl

no_name_wants : (tree : WrittenTree) (error : NameError) → ResolvesAs tree (Err error) → wants_memory (OfText.Name error) ≡ false
no_name_wants tree error h = by h
  where
    by : IsRefusedFor tree error → wants_memory (OfText.Name error) ≡ false
    by (first_fault fault x e) = ap (λ (n : NameError). wants_memory (OfText.Name n)) e ∙ no_fault_wants fault.kind fault.name fault.at
    by (no_main x y) = ap (λ (n : NameError). wants_memory (OfText.Name n)) y.error_is
    by (main_shape x y) = ap (λ (n : NameError). wants_memory (OfText.Name n)) y.error_is

no_parse_wants : (tokens : TokenList) (error : ParseError) → ParsesAs tokens (Err error) → wants_memory (OfText.Parse error) ≡ false
no_parse_wants tokens (OfParse.Unexpected index line column) h = refl
no_parse_wants tokens (OfParse.TooDeep index line column) h = refl
no_parse_wants tokens OfParse.NoMemory h = absurd h

no_lexer_wants : EachTextIsRead → (t : List ℕ) (error : LexError) → IsReadAs t (Err error) → wants_memory (OfText.Lex error) ≡ false
no_lexer_wants lexemes t OfLex.NoMemory h = absurd ((lexemes t).1 h)
no_lexer_wants lexemes t (OfLex.BadByte at) h = refl
no_lexer_wants lexemes t (OfLex.OpenComment at) h = refl
no_lexer_wants lexemes t (OfLex.OpenString at) h = refl
no_lexer_wants lexemes t (OfLex.NumberTooLarge at) h = refl
no_lexer_wants lexemes t (OfLex.StringTooLong at) h = refl

-- the constructors of a program whose names are resolved are declared ones
resolved_declared : (tree : WrittenTree) (program : ProgramTree) → ResolvesAs tree (Ok program) → AreDeclared program.constructors
resolved_declared tree program h = subst (λ (p : ProgramTree). AreDeclared p.constructors) (sym h.makes.is) (program_declared tree.declarations)

-- a program whose names are resolved comes to one thing: where it is typed, it has principal types, so its instances count
module _ (types : EachProgramIsChecked) (principal : EachTypedProgramHasPrincipalTypes) (decided : EachTypedProgramIsDecided) (counts : EachProgramIsCounted) (program : ProgramTree) (declared : AreDeclared program.constructors) where
  sound_counts : TypesAs program (Ok tt) → IsSound wants_memory OfCounts program
  sound_counts typed =
      let typings = principal program typed in
      sound_told wants_memory OfText.Over (Checking CountsAs) program (exactly_checking CountsAs program ((counts program).1 typings.0 typings.1)) (λ limit h. refl)

  sound_cover : TypesAs program (Ok tt) → IsSound wants_memory FromCover program
  sound_cover typed =
      sound_then wants_memory OfCover OfCounts program
      (sound_checking wants_memory ChecksCover program (one_covered program (decided program declared typed)) (λ refusal h. ap wants_memory h.refusal_is))
      (λ passed h. subst (IsSound wants_memory OfCounts) (sym h.0) (sound_counts typed))

  sound_types : IsSound wants_memory FromTypes program
  sound_types =
      let one = exactly_typed program (types program) in
      sound_then wants_memory OfTypes FromCover program
      (sound_checking wants_memory ChecksTypes program (one.0, of_only one.1) (λ refusal h. ap wants_memory h.refusal_is))
      (λ passed h. subst (IsSound wants_memory FromCover) (sym h.0) (sound_cover h.1))

  sound_program : IsSound wants_memory ChecksProgram program
  sound_program =
      sound_then wants_memory OfDeclarations FromTypes program
      (sound_told wants_memory OfText.Over (Checking DeclarationsAs) program (exactly_checking DeclarationsAs program (counts program).0) (λ limit h. refl))
      (λ passed h. subst (IsSound wants_memory FromTypes) (sym h.0) sound_types)

-- each text comes to one thing
pub each_text_is_judged : EachTextIsRead → EachListIsParsed → EachTreeIsResolved → EachProgramIsChecked → EachTypedProgramHasPrincipalTypes → EachTypedProgramIsDecided → EachProgramIsCounted → EachTextIsJudged
each_text_is_judged lexemes grammar names types principal decided counts text = (whole.one, whole.caused)
  where
    named : (tree : WrittenTree) → IsSound wants_memory FromNames tree
    named tree =
        sound_then wants_memory OfNames ChecksProgram tree (sound_told wants_memory OfText.Name ResolvesAs tree (names tree) (no_name_wants tree)) (λ program h. sound_program types principal decided counts program (resolved_declared tree program h))

    parsed : (tokens : TokenList) → IsSound wants_memory FromGrammar tokens
    parsed tokens =
        sound_then wants_memory OfGrammar FromNames tokens (sound_told wants_memory OfText.Parse LaidOutParses tokens (grammar (laid_out_list tokens)) (no_parse_wants (laid_out_list tokens))) (λ tree h. named tree)

    lexed : (t : List ℕ) → IsSound wants_memory FromLexemes t
    lexed t = sound_then wants_memory OfLexemes FromGrammar t (sound_told wants_memory OfText.Lex IsReadAs t (lexemes t).0 (no_lexer_wants lexemes t)) (λ tokens h. parsed tokens)

    whole : IsSound wants_memory JudgedAs text
    whole =
        sound_then wants_memory OfLength FromLexemes text (sound_told wants_memory OfText.Over (Checking ChecksLength) text (exactly_checking ChecksLength text (exactly_length text)) (λ limit h. refl)) (λ t h. lexed t)

-- ---- a program whose names are resolved

-- a link that tells a limit
module _ (J : ProgramTree → Result (Unit {0}) Limit → Type 0) (program : ProgramTree) where
  keeps : IsOnly (J program) (Ok tt) → IsOnly (ToldAs OfText.Over (Checking J) program) (Ok program)
  keeps h = only_told_ok OfText.Over (Checking J) program program (only_checking_ok J program h)

  passes : (limit : Limit) → IsOnly (J program) (Err limit) → IsOnly (ToldAs OfText.Over (Checking J) program) (Err (OfText.Over limit))
  passes limit h = only_told_err OfText.Over (Checking J) program limit (only_checking_err J program limit h)

module _ (program : ProgramTree) where
  at_program : LeadsTo (ChecksProgram program) ChecksProgram program
  at_program = record { comes = λ outcome h. h }

  pub declarations_judged : (limit : Limit) → IsOnly (DeclarationsAs program) (Err limit) → IsOutcome (ChecksProgram program) (Err (OfText.Over limit))
  declarations_judged limit h = fails_at at_program (OfText.Over limit) (passes DeclarationsAs program limit h)

  module _ (declared : IsOnly (DeclarationsAs program) (Ok tt)) where
    at_types : LeadsTo (ChecksProgram program) FromTypes program
    at_types = passes_to at_program program (keeps DeclarationsAs program declared)

    pub types_judged : (refusal : Refusal) → IsOnly (ChecksTypes program) (Err refusal) → IsOutcome (ChecksProgram program) (Err refusal)
    types_judged refusal h = fails_at at_types refusal (only_checking_err ChecksTypes program refusal h)

    module _ (typed : IsOnly (ChecksTypes program) (Ok tt)) where
      at_cover : LeadsTo (ChecksProgram program) FromCover program
      at_cover = passes_to at_types program (only_checking_ok ChecksTypes program typed)

      pub cover_judged : (refusal : Refusal) → IsOutcome (ChecksCover program) (Err refusal) → IsOutcome (ChecksProgram program) (Err refusal)
      cover_judged refusal h = fails_with at_cover refusal (outcome_checking_err ChecksCover program refusal h)

      module _ (covered : IsOutcome (ChecksCover program) (Ok tt)) where
        at_counts : LeadsTo (ChecksProgram program) OfCounts program
        at_counts = passes_with at_cover program (outcome_checking_ok ChecksCover program covered)

        pub counts_judged : IsOnly (CountsAs program) (Ok tt) → IsOutcome (ChecksProgram program) (Ok program)
        counts_judged h = at_counts.comes (Ok program) (of_only (keeps CountsAs program h))

        pub limit_judged : (limit : Limit) → IsOnly (CountsAs program) (Err limit) → IsOutcome (ChecksProgram program) (Err (OfText.Over limit))
        limit_judged limit h = at_counts.comes (Err (OfText.Over limit)) (of_only (passes CountsAs program limit h))

-- a limit as it is answered is the one that the program passes
pub count_judged : (program : ProgramTree) → All (λ function. nodes_of function.body < 2 ^ 31) program.functions
    → IsOnly (DeclarationsAs program) (Ok tt) → IsOnly (ChecksTypes program) (Ok tt) → IsOutcome (ChecksCover program) (Ok tt) → (limit : Limit) → AnswersCounts program (Err limit)
    → IsOutcome (ChecksProgram program) (Err (OfText.Over limit))
count_judged program few declared typed covered limit h =
    let P : Limit → Type 0 = λ x. IsOutcome (ChecksProgram program) (Err (OfText.Over x)) in
    let told : h.0 ≡ limit = sym (h.2 ∙ limit_told program h.0 few h.1.holds) in
    subst P told (limit_judged program declared typed covered h.0 h.1)

-- ---- a text

module _ (text : List ℕ) where
  at_text : LeadsTo (JudgedAs text) JudgedAs text
  at_text = record { comes = λ outcome h. h }

  pub long_judged : (limit : Limit) → ChecksLength text (Err limit) → Refuses text (OfText.Over limit)
  long_judged limit h e =
      fails_at at_text (OfText.Over limit) (only_told_err OfText.Over (Checking ChecksLength) text limit (only_checking_err ChecksLength text limit (only_length text (Err limit) h)))

  module _ (short : ChecksLength text (Ok tt)) where
    at_lexemes : LeadsTo (JudgedAs text) FromLexemes text
    at_lexemes = passes_to at_text text (only_told_ok OfText.Over (Checking ChecksLength) text text (only_checking_ok ChecksLength text (only_length text (Ok tt) short)))

    unreadable : (error : LexError) → IsReading text (Err error) → IsRefusalOf text (OfText.Lex error)
    unreadable error h = fails_at at_lexemes (OfText.Lex error) (only_told_err OfText.Lex IsReadAs text error h)

    pub unreadable_judged : (error : LexError) → UnlessNoMemory (Err error) (IsReading text) → Refuses text (OfText.Lex error)
    unreadable_judged OfLex.NoMemory h e = cc
    unreadable_judged (OfLex.BadByte at) h e = unreadable (OfLex.BadByte at) h
    unreadable_judged (OfLex.OpenComment at) h e = unreadable (OfLex.OpenComment at) h
    unreadable_judged (OfLex.OpenString at) h e = unreadable (OfLex.OpenString at) h
    unreadable_judged (OfLex.NumberTooLarge at) h e = unreadable (OfLex.NumberTooLarge at) h
    unreadable_judged (OfLex.StringTooLong at) h e = unreadable (OfLex.StringTooLong at) h

    -- `laid` are the tokens of the text, laid out
    module _ (tokens laid : TokenList) (reading : IsReading text (Ok tokens)) (out : laid ≡ laid_out_list tokens) (few : length laid.items ≤ 3 * length text) where
      at_grammar : LeadsTo (JudgedAs text) FromGrammar tokens
      at_grammar = passes_to at_lexemes tokens (only_told_ok OfText.Lex IsReadAs text tokens reading)

      -- what is parsed as the tokens, laid out
      of_laid : (outcome : Result WrittenTree ParseError) → IsOnly (ParsesAs laid) outcome → IsOnly (LaidOutParses tokens) outcome
      of_laid outcome h = subst (λ (list : TokenList). IsOnly (ParsesAs list) outcome) out h

      misspelled : (error refusal : ParseError) → IsOnly (ParsesAs laid) (Err refusal) → error ≡ in_u32 refusal → IsRefusalOf text (OfText.Parse error)
      misspelled error refusal h e =
          let P : ParseError → Type 0 = λ x. IsRefusalOf text (OfText.Parse x) in
          let told : refusal ≡ error = sym (e ∙ parse_told laid refusal (omega (arith, short, few)) h.holds) in
          subst P told (fails_at at_grammar (OfText.Parse refusal) (only_told_err OfText.Parse LaidOutParses tokens refusal (of_laid (Err refusal) h)))

      pub misspelled_judged : (error : ParseError) → AnswersParse laid (Err error) → Refuses text (OfText.Parse error)
      misspelled_judged OfParse.NoMemory h e = cc
      misspelled_judged (OfParse.Unexpected index line column) h e = misspelled _ h.0 h.1 h.2
      misspelled_judged (OfParse.TooDeep index line column) h e = misspelled _ h.0 h.1 h.2

      module _ (tree : Tree) (parsed : AnswersParse laid (Ok tree)) where
        at_names : LeadsTo (JudgedAs text) FromNames (written_tree tree)
        at_names = passes_to at_grammar (written_tree tree) (only_told_ok OfText.Parse LaidOutParses tokens (written_tree tree) (of_laid (Ok (written_tree tree)) parsed))

        unnamed : (error : NameError) → IsOnly (ResolvesAs (written_tree tree)) (Err error) → IsRefusalOf text (OfText.Name error)
        unnamed error h = fails_at at_names (OfText.Name error) (only_told_err OfText.Name ResolvesAs (written_tree tree) error h)

        pub unnamed_judged : (error : NameError) → AnswersNames tree (Err error) → Refuses text (OfText.Name error)
        unnamed_judged OfName.NoMemory h e = cc
        unnamed_judged (OfName.Twice name at) h e = unnamed (OfName.Twice name at) h
        unnamed_judged (OfName.Unknown name at) h e = unnamed (OfName.Unknown name at) h
        unnamed_judged (OfName.Arity name at) h e = unnamed (OfName.Arity name at) h
        unnamed_judged (OfName.NoMain name at) h e = unnamed (OfName.NoMain name at) h
        unnamed_judged (OfName.MainShape name at) h e = unnamed (OfName.MainShape name at) h

        module _ (program : Program) (resolved : AnswersNames tree (Ok program)) where
          at_checks : LeadsTo (JudgedAs text) ChecksProgram (program_tree program)
          at_checks = passes_to at_names (program_tree program) (only_told_ok OfText.Name ResolvesAs (written_tree tree) (program_tree program) resolved)

          pub accepted_judged : (answer : Result Accepted Refusal) → IfOk answer (λ accepted. program_tree accepted.typed.program ≡ program_tree program) → OnOk answer (IsOutcome (ChecksProgram (program_tree program)) (Ok (program_tree program)))
              → IfOk answer (λ accepted. IsProgramOf text (program_tree accepted.typed.program))
          accepted_judged (Ok accepted) same h =
              subst (IsProgramOf text) (sym same) (at_checks.comes (Ok (program_tree program)) h)
          accepted_judged (Err refusal) same h = tt

          pub unchecked_judged : (answer : Result Accepted Refusal) → IfErr answer (RefusesProgram (program_tree program)) → IfErr answer (Refuses text)
          unchecked_judged (Ok accepted) h = tt
          unchecked_judged (Err refusal) h = λ e. at_checks.comes (Err refusal) (h e)

          -- no function has too many nodes to be counted
          pub nodes_counted : All (λ d. nodes_in d ≤ 2 * length laid.items) (map written_declaration tree.declarations.items) → KeepsNodes (written_tree tree).declarations (program_tree program).functions
              → All (λ function. nodes_of function.body < 2 ^ 31) (program_tree program).functions
          nodes_counted small keeps_nodes = fewer (2 * length laid.items) (program_tree program).functions (omega (arith, short, few)) (keeps_nodes (2 * length laid.items) small)
