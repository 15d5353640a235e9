-- The insertion at a case, by its arms.
use Rattle.std.proofs.Common.{◌≡◌, ℕ, List, [], ◌∷◌, map, refl, sym, ap, ◌∙◌}
use Rattle.std.specs.Global.{Vec}
use Rattle.kk_syntax.specs.PositionsOf.{PositionTable}
use Rattle.kk_core.specs.declared.form.Arm.{Arm}
use Rattle.kk_core.specs.declared.decisions.Decisions.{Decisions}
use Rattle.kk_core.specs.declared.form.Last.{Last}
use Rattle.kk_core.specs.declared.form.Last.TheVariants as OfLast
use Rattle.kk_core.specs.declared.form.Last.TheFolds.{fold-roll-Last}
use Rattle.kk_core.specs.Codes.{Code, case, Piece, ArmCode, arms_of, arm_step, block_step, last_step, step_step, last_code, arm_code}
use Rattle.kk_counted.specs.CountedCodes.{Counted, arm}
use Rattle.kk_counted.specs.CountedCodes as Form
use Rattle.kk_counted.specs.CountedForms.{decisions_of}
use Rattle.kk_insert.specs.Insertion.{before, dropping, owns, own, own_arms, insert, insert_arms}
use Rattle.kk_insert.specs.Parts.{PartCode, part_in, own_each, insert_each}

core_case : (last : Last) (x : ℕ) (d : Decisions) (arms : Vec Arm) → last ≡ OfLast.Case x d arms
    → last_code last ≡ case x (decisions_of d) (arms_of (map arm_code arms.items))
core_case last x d arms is =
    ap last_code (is ∙ sym (OfLast.rolls-Case x d arms))
    ∙ fold-roll-Last Code Piece ArmCode Code last_step step_step arm_step block_step _

module _ (positions : PositionTable) (lent left : List ℕ) where
  pub own_arms_each : (arms : List ArmCode)
      → own_arms positions lent left (arms_of arms) ≡ own_each left (map (part_in positions lent left) arms)
  own_arms_each [] = refl
  own_arms_each (first ∷ arms) = ap (before (own positions lent left first.body)) (own_arms_each arms)

  pub insert_arms_each : (all : List ℕ) (arms : List ArmCode)
      → insert_arms positions lent left all (arms_of arms) ≡ insert_each all (map (part_in positions lent left) arms)
  insert_arms_each all [] = refl
  insert_arms_each all (first ∷ arms) =
      ap (arm (dropping all (own positions lent left first.body) (insert positions lent left first.body))) (insert_arms_each all arms)

  -- a case, by its arms
  pub case_own : (last : Last) (x : ℕ) (d : Decisions) (arms : Vec Arm) (parts : List PartCode) (owned : List ℕ)
      → last ≡ OfLast.Case x d arms → parts ≡ map (part_in positions lent left) (map arm_code arms.items)
      → owned ≡ owns lent (x ∷ []) (own_each left parts) → owned ≡ own positions lent left (last_code last)
  case_own last x d arms parts owned is each here =
      here ∙ ap (λ ps. owns lent (x ∷ []) (own_each left ps)) each
      ∙ ap (owns lent (x ∷ [])) (sym (own_arms_each (map arm_code arms.items)))
      ∙ ap (own positions lent left) (sym (core_case last x d arms is))

  pub case_insert : (last : Last) (x : ℕ) (d : Decisions) (arms : Vec Arm) (parts : List PartCode) (owned : List ℕ) (code : Counted)
      → last ≡ OfLast.Case x d arms → parts ≡ map (part_in positions lent left) (map arm_code arms.items)
      → owned ≡ owns lent (x ∷ []) (own_each left parts) → code ≡ Form.case x (decisions_of d) (insert_each owned parts)
      → code ≡ insert positions lent left (last_code last)
  case_insert last x d arms parts owned code is each all here =
      here ∙ ap (λ ps. Form.case x (decisions_of d) (insert_each owned ps)) each
      ∙ ap (Form.case x (decisions_of d)) (sym (insert_arms_each owned (map arm_code arms.items)))
      ∙ ap (λ xs. Form.case x (decisions_of d) (insert_arms positions lent left xs (arms_of (map arm_code arms.items))))
      (case_own last x d arms parts owned is each all ∙ ap (own positions lent left) (core_case last x d arms is))
      ∙ ap (insert positions lent left) (sym (core_case last x d arms is))
