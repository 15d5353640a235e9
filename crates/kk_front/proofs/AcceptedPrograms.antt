-- An accepted program came through each judgement: so it is typed, and keeps its limits.
use Rattle.std.proofs.Common.{ℕ, List, sym, subst}
use Rattle.std.specs.Prelude.{Ok}
use Rattle.kk_base.specs.declared.refusal.Refusal.TheVariants as OfText
use Rattle.kk_syntax.specs.Programs.{ProgramTree}
use Rattle.kk_syntax.specs.Surface.{WrittenTree}
use Rattle.kk_syntax.specs.Typing.{TypesAs}
use Rattle.kk_names.specs.Names.{ResolvesAs}
use Rattle.kk_cover.specs.Matches.{CoversAs}
use Rattle.kk_mono.specs.Counts.{CountsAs}
use Rattle.kk_syntax.specs.Declarations.{DeclarationsAs}
use Rattle.kk_front.specs.Judgement.{ChecksTypes, ChecksCover, ChecksProgram, IsProgramOf}
use Rattle.kk_front.proofs.Chains.{came_through, through_check, through_told_check}
use Rattle.kk_front.proofs.TextJudgements.{OfLength, OfLexemes, OfGrammar, OfNames, OfCounts, FromLexemes, FromGrammar, FromNames, FromTypes, FromCover}

-- what each judgement found of an accepted program
pub record IsFound (program : ProgramTree) : Type 0 where
  pub tree : WrittenTree
  pub resolved : ResolvesAs tree (Ok program)
  pub declarations : DeclarationsAs program (Ok tt)
  pub types : TypesAs program (Ok tt)
  pub covered : CoversAs program (Ok tt)
  pub counts : CountsAs program (Ok tt)

pub found : (text : List ℕ) (program : ProgramTree) → IsProgramOf text program → IsFound program
found text program h =
    let lexemes = came_through OfLength FromLexemes text program h.holds in
    let grammar = came_through OfLexemes FromGrammar lexemes.0 program lexemes.2 in
    let names = came_through OfGrammar FromNames grammar.0 program grammar.2 in
    let checks = came_through OfNames ChecksProgram names.0 program names.2 in
    let declarations = through_told_check FromTypes checks.0 program OfText.Over DeclarationsAs checks.2 in
    let types = through_check FromCover checks.0 program ChecksTypes declarations.1 in
    let cover = through_check OfCounts checks.0 program ChecksCover types.1 in
    let counts = cover.1 in
    let passed : IsFound checks.0 = record { tree = names.0; resolved = checks.1; declarations = declarations.0; types = types.0; covered = cover.0; counts = counts.1 } in
    subst IsFound (sym counts.0) passed
