-- What the reading of a program tells of its tokens.
use Rattle.std.proofs.Common.{◌≡◌, ℕ, ◌-◌, List, [], ◌∷◌, ◌++◌, length, refl, ap, subst, length-append, arith}
use Rattle.std.specs.Prelude.{Ok, Err, map}
use Rattle.kk_base.specs.declared.span.Span.{Span}
use Rattle.kk_syntax.specs.declared.token.LocatedToken.{LocatedToken}
use Rattle.kk_syntax.specs.declared.tree.Tree.{Tree}
use Rattle.kk_syntax.specs.Surface.{WrittenDeclaration, written_declaration, written_tree}
use Rattle.kk_syntax.specs.TokenList.{TokenList}
use Rattle.kk_parser.specs.declared.fault.Fault.{Fault}
use Rattle.kk_parser.specs.declared.fault.Fault.TheVariants.{Unexpected, TooDeep, NoMemory}
use Rattle.kk_parser.specs.declared.parser.Parser.{Parser}
use Rattle.kk_parser.specs.Methods.{FailedBy, error_for}
use Rattle.kk_parser.specs.Parses.{Tells, IsUnexpected, AnswersParse, in_u32, next_place}
use Rattle.kk_parser.specs.Phrases.{program, rule}
use Rattle.kk_parser.specs.Reading.{Finds, ReadingFails, unexpected, too_deep}
use Rattle.kk_parser.proofs.OutcomeUniqueness.{only_outcome}
use Rattle.kk_parser.proofs.ProgramOutcome.{has_tree, fails_unexpected, finds_unexpected, fails_too_deep}
use Rattle.kk_parser.specs.Depths.{most_levels}

passed_is : (before rest items : List LocatedToken) → before ++ rest ≡ items → length items - length rest ≡ length before
passed_is before rest items e = omega (arith, length-append before rest, ap length e)

tells : (before rest items : List LocatedToken) (place : Span) → before ++ rest ≡ items → Tells before place (length items - length rest) place.line place.column
tells before rest items place e = (passed_is before rest items e, refl, refl)

module _ (tokens : TokenList) where
  -- all was read: it is the tree
  pub found_all : (tree : Tree) (m : ℕ) (rest : List LocatedToken) → rest ≡ [] → tree.length ≡ tokens.end.at → Finds most_levels (rule program) 0 tokens.items (map written_declaration tree.declarations.items) m rest → AnswersParse tokens (Ok tree)
  found_all tree m rest e l r = only_outcome tokens (Ok (written_tree tree)) (has_tree (subst (λ us. Finds most_levels (rule program) 0 tokens.items (map written_declaration tree.declarations.items) m us) e r), l)

  unexpected_refused : (before rest : List LocatedToken) → before ++ rest ≡ tokens.items → IsUnexpected before rest → AnswersParse tokens (Err (in_u32 (error_for Unexpected (length tokens.items - length rest) (next_place rest tokens.end))))
  unexpected_refused before rest e u = (error_for Unexpected (length tokens.items - length rest) (next_place rest tokens.end), only_outcome tokens _ (before, rest, e, u, tells before rest tokens.items (next_place rest tokens.end) e), refl)

  -- tokens were left
  pub left_answered : (declarations : List WrittenDeclaration) (m : ℕ) (rest : List LocatedToken) → (rest ≡ [] → ⊥) → Finds most_levels (rule program) 0 tokens.items declarations m rest → AnswersParse tokens (Err (in_u32 (error_for Unexpected (length tokens.items - length rest) (next_place rest tokens.end))))
  left_answered declarations m [] h r = absurd (h refl)
  left_answered declarations m (t ∷ rest) h r = let u = finds_unexpected r in unexpected_refused u.0 (t ∷ rest) u.1 u.2

  -- the reading failed
  pub fault_answered : (old new : Parser) (fault : Fault) → old.depth ≡ 0 → old.rest.now ≡ tokens.items → FailedBy fault (rule program) old new → AnswersParse tokens (Err (in_u32 (error_for fault (length tokens.items - length new.rest.now) (next_place new.rest.now tokens.end))))
  fault_answered old new Unexpected d e r =
      let u = fails_unexpected (subst (λ ts. ReadingFails most_levels (rule program) 0 ts (unexpected new.rest.now)) e (subst (λ n. ReadingFails most_levels (rule program) n old.rest.now (unexpected new.rest.now)) d r)) in
      unexpected_refused u.0 new.rest.now u.1 u.2
  fault_answered old new TooDeep d e r =
      let u = fails_too_deep (subst (λ ts. ReadingFails most_levels (rule program) 0 ts (too_deep new.rest.now)) e (subst (λ n. ReadingFails most_levels (rule program) n old.rest.now (too_deep new.rest.now)) d r)) in
      (error_for TooDeep (length tokens.items - length new.rest.now) (next_place new.rest.now tokens.end), only_outcome tokens _ (u.0, new.rest.now, u.1, u.2, tells u.0 new.rest.now tokens.items (next_place new.rest.now tokens.end) u.1), refl)
  fault_answered old new NoMemory d e r = tt
