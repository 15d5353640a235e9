-- In a typing of a function, the rows of each match are of the type that is taken for its scrutinee.
use Rattle.std.proofs.Common.{◌≡◌, List, [], ◌∷◌, ◌++◌, refl, sym, subst, arith}
use Rattle.std.proofs.lemmas.List.Elements.{Contains-append_left, Contains-append_right}
use Rattle.std.specs.List.{Contains}
use Rattle.kk_syntax.specs.Programs.{FunctionTree, ProgramTree}
use Rattle.kk_syntax.specs.Trees.{Tree}
use Rattle.kk_syntax.specs.Types.{TypeTree}
use Rattle.kk_syntax.specs.Typing.{Scope, Choice, holding, IsTypedBy, IsTyping}
use Rattle.kk_syntax.specs.Covered.{Each}
use Rattle.kk_syntax.specs.Outlines.{Outline}
use Rattle.kk_syntax.specs.Matches.{of_matches, matches}
use Rattle.kk_syntax.proofs.PatternTypes.{rows_of_type}
use Rattle.kk_syntax.proofs.Walks.{typing_agrees}
use Rattle.kk_cover.specs.TypedRows.{AreOfChosenType}
use Rattle.kk_rows.proofs.KeptRows.{each-append}

module _ (program : ProgramTree) where
  -- the choices of a part are among those of the whole
  module _ (whole : List Choice) where
    abbrev Within : List Choice → Type 0
    Within choices = (t : TypeTree) → Contains choices (holding t) → Contains whole (holding t)

    within_first : (choices first rest : List Choice) → choices ≡ first ++ rest → Within choices → Within first
    within_first choices first rest is within t at = within t (subst (λ cs. Contains cs (holding t)) (sym is) (Contains-append_left first rest (holding t) at))

    within_rest : (choices first rest : List Choice) → choices ≡ first ++ rest → Within choices → Within rest
    within_rest choices first rest is within t at = within t (subst (λ cs. Contains cs (holding t)) (sym is) (Contains-append_right first rest (holding t) at))

    abbrev AreOfTypes : List (List Outline) → Type 0
    AreOfTypes all = Each (AreOfChosenType program whole) all

    in_turn : (xs ys : List (List Outline)) → AreOfTypes xs → AreOfTypes ys → AreOfTypes (xs ++ ys)
    in_turn xs ys first rest = each-append (AreOfChosenType program whole) xs ys first rest

    -- where these choices are among those of the whole, the rows of these matches are of types that are chosen there
    abbrev AreTyped : List Choice → List (List Outline) → Type 0
    AreTyped choices all = Within choices → AreOfTypes all

    tree_rows : (scope : Scope) (e : Tree) (t : TypeTree) (choices : List Choice) → IsTypedBy program scope e t choices → AreTyped choices (matches e)
    tree_rows =
        typing_agrees program of_matches AreTyped (λ within. tt)
        (λ xs ys us vs first rest within. in_turn us vs (first (within_first (xs ++ ys) xs ys refl within)) (rest (within_rest (xs ++ ys) xs ys refl within)))
        (λ t xs us agree within. agree (within_rest (holding t ∷ xs) (holding t ∷ []) xs refl within))
        (λ form of at is each within. tt) (λ scope p t choices typed within. tt)
        (λ scope rows u t choices typed within. (
          record { at = u; chosen = within u (0, omega arith, refl); typed = rows_of_type program scope rows u t choices typed },
          tt,
        ))

  pub function_rows : (function : FunctionTree) (choices : List Choice) → IsTyping program function choices → Each (AreOfChosenType program choices) (matches function.body)
  function_rows function choices typing = tree_rows choices _ function.body _ choices typing (λ t at. at)
