-- Tables of ground types: one type for each node, and types that are not equal.
use Rattle.std.proofs.Common.{◌≡◌, ◌≢◌, ◌+◌, Bool, true, false, List, [], ◌∷◌, ◌++◌, length, get_or, AllPairs, refl, arith}
use Rattle.std.proofs.lemmas.List.{length_push}
use Rattle.kk_syntax.specs.declared.ground.GroundType.{GroundType}
use Rattle.kk_syntax.specs.GroundTypes.{ground_type, ground_types_behind, ground_types}
use Rattle.kk_syntax.specs.OfType.{same_type}
use Rattle.kk_syntax.specs.Types.{TypeTree}
use Rattle.kk_syntax.proofs.TypeEquality.{same_only}

pub behind_length : (earlier : List TypeTree) (nodes : List GroundType)
    → length (ground_types_behind earlier nodes) ≡ length earlier + length nodes
behind_length earlier [] = omega arith
behind_length earlier (node ∷ nodes) =
    let more = behind_length (earlier ++ (ground_type earlier node ∷ [])) nodes in
    let here = length_push earlier (ground_type earlier node) in
    omega (arith, more, here)

pub types_length : (nodes : List GroundType) → length (ground_types nodes) ≡ length nodes
types_length nodes = let all = behind_length [] nodes in omega (arith, all)

-- types that are not equal are not the same
pub all_apart : (ts : List TypeTree) → AllPairs (λ one other. one ≢ other) ts
    → AllPairs (λ one other. same_type one other ≡ false) ts
all_apart ts once = λ i j d before less.
    by_test (get_or ts i d) (get_or ts j d) (once i j d before less) (same_type (get_or ts i d) (get_or ts j d)) refl
  where
    by_test : (t u : TypeTree) → t ≢ u → (same : Bool) → same_type t u ≡ same → same_type t u ≡ false
    by_test t u other true is = absurd (other (same_only t u is))
    by_test t u other false is = is
