-- The states of a match, found by hand: `type duo { Duo(a: bool, b: bool) }`, and the rows `Duo(True, True)`,
-- `Duo(False, True)` and `Duo(_, False)`. Three states test.
use Rattle.std.proofs.Common.{◌≡◌, ℕ, Some, List, [], ◌∷◌, refl}
use Rattle.kk_syntax.specs.Patterns.{Pattern, anything, constructor, no_part, part}
use Rattle.kk_core.specs.declared.decisions.Answer.TheVariants.{Constructor}
use Rattle.kk_match.specs.Parts.{Part}
use Rattle.kk_match.specs.Graphs.{StateTree, after, test_of, lines_from, testing}

-- False and True are of type 0, and Duo is of type 1
abbrev types : List ℕ
types = 0 ∷ 0 ∷ 1 ∷ []

abbrev duo : Pattern → Pattern → Pattern
duo a b = constructor 2 (part a (part b no_part))

abbrev patterns : List Pattern
patterns = duo (constructor 1 no_part) (constructor 1 no_part) ∷ duo (constructor 0 no_part) (constructor 1 no_part) ∷ duo anything (constructor 0 no_part) ∷ []

abbrev asks : ℕ → ℕ → Part
asks field c = record { at = field ∷ []; asked = Constructor c }

abbrev start : StateTree
start = lines_from types 0 patterns

start_is : start
    ≡ record { row = 0; left = asks 0 1 ∷ asks 1 1 ∷ [] }
    ∷ record { row = 1; left = asks 0 0 ∷ asks 1 1 ∷ [] }
    ∷ record { row = 2; left = asks 1 0 ∷ [] } ∷ []
start_is = refl

-- the first field is tested first
first_test : test_of start ≡ Some (asks 0 1)
first_test = refl

abbrev of_true : StateTree
of_true = after (0 ∷ []) (Some (Constructor 1)) start

abbrev of_false : StateTree
of_false = after (0 ∷ []) (Some (Constructor 0)) start

of_true_is : of_true ≡ record { row = 0; left = asks 1 1 ∷ [] } ∷ record { row = 2; left = asks 1 0 ∷ [] } ∷ []
of_true_is = refl

of_false_is : of_false ≡ record { row = 1; left = asks 1 1 ∷ [] } ∷ record { row = 2; left = asks 1 0 ∷ [] } ∷ []
of_false_is = refl

-- then the second; each answer there leaves a state that chooses its row, and `False` leaves the same one behind both
true_true : after (1 ∷ []) (Some (Constructor 1)) of_true ≡ record { row = 0; left = [] } ∷ []
true_true = refl

false_true : after (1 ∷ []) (Some (Constructor 1)) of_false ≡ record { row = 1; left = [] } ∷ []
false_true = refl

both_false : after (1 ∷ []) (Some (Constructor 0)) of_true ≡ after (1 ∷ []) (Some (Constructor 0)) of_false
both_false = refl

both_false_is : after (1 ∷ []) (Some (Constructor 0)) of_true ≡ record { row = 2; left = [] } ∷ []
both_false_is = refl

three_test : testing (start ∷ of_true ∷ of_false ∷ after (1 ∷ []) (Some (Constructor 1)) of_true ∷ after (1 ∷ []) (Some (Constructor 1)) of_false ∷ after (1 ∷ []) (Some (Constructor 0)) of_true ∷ []) ≡ 3
three_test = refl
