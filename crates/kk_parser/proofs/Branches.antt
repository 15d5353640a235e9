-- The branches of an `if`, as they are read: behind an `elif` stand branches again.
use Rattle.std.proofs.Common.{◌≡◌, ℕ, List, ◌∷◌, Some, refl}
use Rattle.kk_syntax.specs.declared.token.LocatedToken.{LocatedToken}
use Rattle.kk_syntax.specs.declared.token.Keyword.TheVariants.{Then, Elif, Else}
use Rattle.kk_syntax.specs.Surface.{Written, branch}
use Rattle.kk_parser.specs.declared.parser.Parser.{Parser}
use Rattle.kk_parser.specs.Forms.{branches, branches_of, form_meaning}
use Rattle.kk_parser.specs.Kinds.{Kind, Said, keyword}
use Rattle.kk_parser.specs.Methods.{Read}
use Rattle.kk_parser.specs.Phrases.{Phrase, PhraseValue, token, opener, rule, or, expr, if_, each, perhaps, ◌▸◌}
use Rattle.kk_parser.specs.Reading.{Finds, finds_token, finds_opener, finds_both, finds_each, finds_something, Failure, ReadingFails, fails_front, fails_behind, fails_each, fails_each_more, fails_something}
use Rattle.kk_parser.proofs.Steps.{Continues, continues_start, front_read}
use Rattle.kk_parser.specs.Depths.{most_levels}

-- a branch with its condition; and what stands behind the first
abbrev pub one_branch : Phrase
one_branch = rule or ▸ token (keyword Then) ▸ rule expr

abbrev pub other_branches : Phrase
other_branches = each (keyword Elif) one_branch ▸ perhaps (keyword Else) (rule expr)

-- an `elif`'s branches are among the others
abbrev pub turn : PhraseValue branches → PhraseValue other_branches
turn (condition, (then, (positive, (more, last)))) = ((condition, (then, positive)) ∷ more, last)

elif_found : {n k m : ℕ} {w : Said (keyword Elif)} {v : PhraseValue branches} {ts us ws : List LocatedToken} → Finds most_levels (opener (keyword Elif)) n ts w k us → Finds most_levels branches k us v m ws → Finds most_levels other_branches n ts (turn v) m ws
elif_found (finds_opener s h) (finds_both a (finds_both b (finds_both c (finds_both d e)))) = finds_both (finds_each s h (finds_both a (finds_both b c)) d) e

elif_failed : {n k : ℕ} {w : Said (keyword Elif)} {ts us : List LocatedToken} {f : Failure} → Finds most_levels (opener (keyword Elif)) n ts w k us → ReadingFails most_levels branches k us f → ReadingFails most_levels other_branches n ts f
elif_failed (finds_opener s h) (fails_front a) = fails_front (fails_each s h (fails_front a))
elif_failed (finds_opener s h) (fails_behind a (fails_front b)) = fails_front (fails_each s h (fails_behind a (fails_front b)))
elif_failed (finds_opener s h) (fails_behind a (fails_behind b (fails_front c))) = fails_front (fails_each s h (fails_behind a (fails_behind b c)))
elif_failed (finds_opener s h) (fails_behind a (fails_behind b (fails_behind c (fails_front d)))) = fails_front (fails_each_more s h (finds_both a (finds_both b c)) d)
elif_failed (finds_opener s h) (fails_behind a (fails_behind b (fails_behind c (fails_behind d e)))) = fails_behind (finds_each s h (finds_both a (finds_both b c)) d) e

pub continues_elif : (here next : Parser) → Read (opener (keyword Elif)) tt here next → Continues other_branches branches turn here next
continues_elif here next o = record { found = λ v m us r. elif_found o r; failed = λ f r. elif_failed o r }

pub turn-means : (condition positive : Written) (v : PhraseValue branches) → branches_of (condition, (tt, (positive, turn v))) ≡ branch condition positive (branches_of v)
turn-means condition positive (next, (then, (second, (more, last)))) = refl

-- the first branch was read
pub behind_first : {condition positive : Written} (start a b here : Parser) → Read (rule or) condition start a → Read (token (keyword Then)) tt a b → Read (rule expr) positive b here → Continues branches other_branches (λ v. (condition, (tt, (positive, v)))) start here
behind_first start a b here r s t = front_read here (front_read b (front_read a (continues_start branches start) r) s) t

-- behind a token that is next a phrase was read
pub perhaps_found : {k : Kind} {a : Phrase} {n i m : ℕ} {w : Said k} {v : PhraseValue a} {ts us ws : List LocatedToken} → Finds most_levels (token k) n ts w i us → Finds most_levels a i us v m ws → Finds most_levels (perhaps k a) n ts (Some v) m ws
perhaps_found (finds_token s) r = finds_something s r

pub perhaps_failed : {k : Kind} {a : Phrase} {n i : ℕ} {w : Said k} {ts us : List LocatedToken} {f : Failure} → Finds most_levels (token k) n ts w i us → ReadingFails most_levels a i us f → ReadingFails most_levels (perhaps k a) n ts f
perhaps_failed (finds_token s) r = fails_something s r

-- an `if` means what its branches mean
pub if-means : (v : PhraseValue branches) → form_meaning if_ (tt, v) ≡ branches_of v
if-means (condition, (then, (positive, (more, last)))) = refl
