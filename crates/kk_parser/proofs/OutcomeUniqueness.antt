-- Each list of tokens comes to exactly one thing: a tree, or an error.
use Rattle.std.proofs.Common.{◌≡◌, ℕ, List, ◌∷◌, [], ◌++◌, length, refl, sym, ap, ◌∙◌, subst}
use Rattle.std.specs.Prelude.{Result, Ok, Err}
use Rattle.kk_base.specs.Exactly.{IsOnly}
use Rattle.kk_base.specs.declared.error.ParseError.{ParseError}
use Rattle.kk_base.specs.declared.error.ParseError.TheVariants.{Unexpected, TooDeep, NoMemory}
use Rattle.kk_base.specs.declared.span.Span.{Span}
use Rattle.kk_syntax.specs.declared.token.LocatedToken.{LocatedToken}
use Rattle.kk_syntax.specs.Surface.{WrittenTree}
use Rattle.kk_syntax.specs.TokenList.{TokenList}
use Rattle.kk_parser.specs.Parses.{HasTree, RefusesTokens, Tells, next_place, ParsesAs, EachListIsParsed}
use Rattle.kk_parser.specs.Phrases.{program, rule}
use Rattle.kk_parser.specs.Reading.{unexpected, too_deep}
use Rattle.kk_parser.proofs.ReadingTotality.{ReadOrFailed, was_read, has_failed, program_is_read_or_fails}
use Rattle.kk_parser.proofs.Laws.{program_law, answer_law}
use Rattle.kk_parser.proofs.ProgramOutcome.{has_tree, fails_unexpected, finds_unexpected, fails_too_deep}

append_left : {X : Type 0} (before rest later : List X) → before ++ rest ≡ before ++ later → rest ≡ later
append_left [] rest later e = e
append_left (x ∷ xs) rest later e = append_left xs rest later cc

same_tree : (a b : WrittenTree) → a.declarations ≡ b.declarations → a.length ≡ b.length → a ≡ b
same_tree a b declarations length = ap (λ fs. record { declarations = fs; length = a.length }) declarations ∙ ap (λ n. record { declarations = b.declarations; length = n }) length

one_tree : (tokens : TokenList) (a b : WrittenTree) → ParsesAs tokens (Ok a) → ParsesAs tokens (Ok b) → b ≡ a
one_tree tokens a b x y =
    same_tree b a (program_law b.declarations a.declarations y.0.marked x.0.marked y.0.program x.0.program (y.0.tokens_are ∙ sym x.0.tokens_are)) (y.1 ∙ sym x.1)

no_error : (tokens : TokenList) (tree : WrittenTree) (error : ParseError) → ParsesAs tokens (Ok tree) → ParsesAs tokens (Err error) → ⊥
no_error tokens tree (Unexpected index line column) x y =
    answer_law.tree_or_unexpected y.0 y.1 tree.declarations (let P : List LocatedToken → Type 0 = λ ts. HasTree ts tree.declarations in subst P (sym y.2) x.0) y.3
no_error tokens tree (TooDeep index line column) x y =
    answer_law.tree_or_too_deep y.0 y.1 tree.declarations (let P : List LocatedToken → Type 0 = λ ts. HasTree ts tree.declarations in subst P (sym y.2) x.0) y.3
no_error tokens tree NoMemory x y = y

-- of one list, errors at one token tell the same
same_place : (all : List LocatedToken) (end : Span) (before rest front later : List LocatedToken) (index line column number at_line at_column : ℕ) → before ++ rest ≡ all → front ++ later ≡ all → before ≡ front
    → Tells before (next_place rest end) index line column → Tells front (next_place later end) number at_line at_column → (number ≡ index) × (at_line ≡ line) × (at_column ≡ column)
same_place all end before rest front later index line column number at_line at_column whole also same tells told =
    let left : rest ≡ later = append_left before rest later (whole ∙ sym also ∙ ap (λ f. f ++ later) (sym same)) in
    (cc (tells.0, told.0, same), cc (tells.1, told.1, left), cc (tells.2, told.2, left))

one_error : (tokens : List LocatedToken) (end : Span) (error other : ParseError) → RefusesTokens tokens end error → RefusesTokens tokens end other → other ≡ error
one_error tokens end (Unexpected index line column) (Unexpected number at_line at_column) x y =
    let same = answer_law.one_unexpected x.0 x.1 y.0 y.1 (x.2 ∙ sym y.2) x.3 y.3 in
    let told = same_place tokens end x.0 x.1 y.0 y.1 index line column number at_line at_column x.2 y.2 same x.4 y.4 in
    cc (told.0, told.1, told.2)
one_error tokens end (TooDeep index line column) (TooDeep number at_line at_column) x y =
    let same = answer_law.one_too_deep x.0 x.1 y.0 y.1 (x.2 ∙ sym y.2) x.3 y.3 in
    let told = same_place tokens end x.0 x.1 y.0 y.1 index line column number at_line at_column x.2 y.2 same x.4 y.4 in
    cc (told.0, told.1, told.2)
one_error tokens end (Unexpected index line column) (TooDeep number at_line at_column) x y = absurd (answer_law.unexpected_or_too_deep x.0 x.1 y.0 y.1 (x.2 ∙ sym y.2) x.3 y.3)
one_error tokens end (TooDeep index line column) (Unexpected number at_line at_column) x y = absurd (answer_law.unexpected_or_too_deep y.0 y.1 x.0 x.1 (y.2 ∙ sym x.2) y.3 x.3)
one_error tokens end NoMemory other x y = absurd x
one_error tokens end error NoMemory x y = absurd y

one_outcome : (tokens : TokenList) (a b : Result WrittenTree ParseError) → ParsesAs tokens a → ParsesAs tokens b → b ≡ a
one_outcome tokens (Ok a) (Ok b) x y = ap Ok (one_tree tokens a b x y)
one_outcome tokens (Ok a) (Err e) x y = absurd (no_error tokens a e x y)
one_outcome tokens (Err e) (Ok a) x y = absurd (no_error tokens a e y x)
one_outcome tokens (Err e) (Err d) x y = ap Err (one_error tokens.items tokens.end e d x y)

pub only_outcome : (tokens : TokenList) (outcome : Result WrittenTree ParseError) → ParsesAs tokens outcome → IsOnly (ParsesAs tokens) outcome
only_outcome tokens outcome h = record { holds = h; only = λ other k. one_outcome tokens outcome other h k }

outcome_of : (tokens : TokenList) → ReadOrFailed (rule program) 0 tokens.items → (outcome : Result WrittenTree ParseError) × ParsesAs tokens outcome
outcome_of tokens (was_read declarations m [] r) = (Ok (record { declarations = declarations; length = tokens.end.at }), (has_tree r, refl))
outcome_of tokens (was_read declarations m (t ∷ us) r) =
    let u = finds_unexpected r in
    (Err (Unexpected (length u.0) t.span.line t.span.column), (u.0, t ∷ us, u.1, u.2, (refl, refl, refl)))
outcome_of tokens (has_failed (unexpected us) r) =
    let u = fails_unexpected r in
    let place = next_place us tokens.end in
    (Err (Unexpected (length u.0) place.line place.column), (u.0, us, u.1, u.2, (refl, refl, refl)))
outcome_of tokens (has_failed (too_deep us) r) =
    let u = fails_too_deep r in
    let place = next_place us tokens.end in
    (Err (TooDeep (length u.0) place.line place.column), (u.0, us, u.1, u.2, (refl, refl, refl)))

pub each_list_is_parsed : EachListIsParsed
each_list_is_parsed tokens =
    let found = outcome_of tokens (program_is_read_or_fails tokens.items) in
    (found.0, only_outcome tokens found.0 found.1)
