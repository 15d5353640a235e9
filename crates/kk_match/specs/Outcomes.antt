-- The edges of a test: one for each answer of its kind that is asked at its position, and one for what is not asked.
use Rattle.std.specs.Prelude.{◌&&◌, ℕ, ◌+◌, Bool, not, List, [], ◌∷◌, ◌++◌, Option, None, Some, if◌then◌else◌, nat_eq}
use Rattle.std.specs.List.{list_any}
use lib.Pointwise.{pointwise}
use Rattle.kk_core.specs.declared.decisions.Answer.{Answer}
use Rattle.kk_core.specs.declared.decisions.Answer.TheVariants.{Number, Constructor}
use Rattle.kk_core.specs.Decisions.{is_answer}
use Rattle.kk_match.specs.Parts.{Part, is_kind, IsKind}
use Rattle.kk_match.specs.Graphs.{StateTree}

abbrev pub is_listed : List Answer → Answer → Bool
is_listed answers found = list_any (is_answer found) answers

-- answers, and behind them what a part asks, if it is new and stands where a test does
abbrev pub with_asked : List ℕ → Part → List Answer → Part → List Answer
with_asked types test answers q =
    if pointwise nat_eq q.at test.at && (is_kind types test.asked q.asked && not (is_listed answers q.asked)) then answers ++ q.asked ∷ [] else answers

abbrev pub with_parts : List ℕ → Part → List Answer → List Part → List Answer
with_parts types test answers [] = answers
with_parts types test answers (q ∷ qs) = with_parts types test (with_asked types test answers q) qs

-- answers, and behind them those that a state asks at a test's position
abbrev pub with_lines : List ℕ → Part → List Answer → StateTree → List Answer
with_lines types test answers [] = answers
with_lines types test answers (line ∷ lines) = with_lines types test (with_parts types test answers line.left) lines

-- the first constructor of a type, from one of a number on, that is not listed
abbrev pub unlisted_from : List ℕ → Answer → List Answer → ℕ → List ℕ → Option (Option Answer)
unlisted_from types asked answers d [] = None
unlisted_from types asked answers d (of ∷ ofs) =
    if is_kind types asked (Constructor d) && not (is_listed answers (Constructor d)) then Some (Some (Constructor d))
    else unlisted_from types asked answers (d + 1) ofs

-- What leads on by none of the listed answers, if anything is left: another number than all that are asked, or a constructor
-- of the type.
abbrev pub unlisted : List ℕ → Answer → List Answer → Option (Option Answer)
unlisted types (Number n) answers = Some None
unlisted types (Constructor c) answers = unlisted_from types (Constructor c) answers 0 types

-- what an outcome of a test may be
abbrev pub IsOutcome : List ℕ → Answer → Option Answer → Type 0
IsOutcome types asked (Some found) = IsKind types asked found
IsOutcome types (Number n) None = Unit {0}
IsOutcome types (Constructor c) None = ⊥
