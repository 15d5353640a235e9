-- Respecialised code is paired where the code is that it is made of.
use Rattle.std.proofs.Common.{◌≡◌, ◌⊎◌, ℕ, Bool, true, false, List, [], ◌∷◌, ◌++◌, sym, ap, subst, ◌∙◌}
use Rattle.kk_counted.specs.BareForms.{bare}
use Rattle.kk_counted.specs.CountedCodes.{Counted}
use Rattle.kk_counted.specs.KeptFields.{KnownFields, forget_slot, forget_variable, forget_variables, known_opened}
use Rattle.kk_counted.specs.TokenedCodes.{Tokened, TokenedArms, TokenedProgram}
use Rattle.kk_reuse.specs.Following.{may_make}
use Rattle.kk_reuse.specs.Paired.{IsTimely, IsPaired, ArePaired, AllPaired}
use Rattle.kk_respec.specs.Respecialised.{respec, respec_arms, respecialised_program}
use Rattle.kk_respec.proofs.Forms.{bare_respec, each_function}

timely : (behind : Bool) (tokens : List ℕ) (known : List KnownFields) (code : Tokened) → IsTimely behind tokens code
    → IsTimely behind tokens (respec known code)
timely behind tokens known code is =
    subst (λ (body : Counted). (tokens ≡ []) ⊎ (may_make behind body ≡ true)) (sym (bare_respec known code)) is

-- what may be made behind a block is the same
behind_same : (behind : Bool) (known : List KnownFields) (rest : Tokened)
    → may_make behind (bare rest) ≡ may_make behind (bare (respec known rest))
behind_same behind known rest = ap (may_make behind) (sym (bare_respec known rest))

mutual
  pairs : (known : List KnownFields) (code : Tokened) (behind : Bool) (left tokens : List ℕ) → IsPaired behind left tokens code
      → IsPaired behind left tokens (respec known code)
  pairs known (Tokened.give x) behind left tokens p = p
  pairs known (Tokened.tail_call f arguments) behind left tokens p = p
  pairs known (Tokened.case x decisions arms) behind left tokens p =
      (timely behind tokens known (Tokened.case x decisions arms) p.0, arms_pair known arms behind left tokens p.1)
  pairs known (Tokened.compute x form arguments others rest) behind left tokens p = (
    timely behind tokens known (Tokened.compute x form arguments others rest) p.0,
    p.1,
    pairs (forget_variable x known) rest behind left tokens p.2,
  )
  pairs known (Tokened.inside x block rest) behind left tokens p = (
    p.0,
    timely behind tokens known (Tokened.inside x block rest) p.1,
    subst (λ makes. IsPaired makes p.0 tokens (respec known block)) (behind_same behind [] rest)
        (pairs known block (may_make behind (bare rest)) p.0 tokens p.2),
    pairs [] rest behind left p.0 p.3,
  )
  pairs known (Tokened.read x c fields rest) behind left tokens p = (
    timely behind tokens known (Tokened.read x c fields rest) p.0,
    pairs (forget_variables fields known) rest behind left tokens p.1,
  )
  pairs known (Tokened.open_cell x c fields used y rest) behind left tokens p = (
    timely behind tokens known (Tokened.open_cell x c fields used y rest) p.0,
    pairs (known_opened fields y known) rest behind left (y ∷ tokens) p.1,
  )
  pairs known (Tokened.if_unique x c fields used y rest) behind left tokens p = (
    timely behind tokens known (Tokened.if_unique x c fields used y rest) p.0,
    pairs (known_opened fields y known) rest behind left (y ∷ tokens) p.1,
  )
  pairs known (Tokened.dup x rest) behind left tokens p =
      (timely behind tokens known (Tokened.dup x rest) p.0, pairs known rest behind left tokens p.1)
  pairs known (Tokened.drop x rest) behind left tokens p =
      (timely behind tokens known (Tokened.drop x rest) p.0, pairs known rest behind left tokens p.1)
  pairs known (Tokened.fill x y c first arguments kept others rest) behind left tokens p =
      (p.0, p.1, p.2, pairs (forget_variable x (forget_slot y known)) rest behind left p.0 p.3)
  pairs known (Tokened.free y rest) behind left tokens p = (
    p.0,
    sym (behind_same behind (forget_slot y known) rest) ∙ p.1,
    p.2,
    pairs (forget_slot y known) rest behind left p.0 p.3,
  )
  pairs known (Tokened.null y rest) behind left tokens p = pairs (forget_slot y known) rest behind left (tokens ++ y ∷ []) p
  pairs known (Tokened.move to of rest) behind left tokens p =
      (p.0, p.1, pairs (forget_slot to (forget_slot of known)) rest behind left p.0 p.2)
  pairs known (Tokened.hold y rest) behind left tokens p =
      (timely behind tokens known (Tokened.hold y rest) p.0, pairs known rest behind left tokens p.1)
  pairs known (Tokened.unhold y rest) behind left tokens p = pairs known rest behind left tokens p
  pairs known (Tokened.if_token y there absent) behind left tokens p =
      (pairs known there behind left tokens p.0, pairs known absent behind left tokens p.1)

  arms_pair : (known : List KnownFields) (arms : TokenedArms) (behind : Bool) (left tokens : List ℕ)
      → ArePaired behind left tokens arms → ArePaired behind left tokens (respec_arms known arms)
  arms_pair known TokenedArms.no_arm behind left tokens p = tt
  arms_pair known (TokenedArms.arm body rest) behind left tokens p =
      (pairs known body behind left tokens p.0, arms_pair known rest behind left tokens p.1)

pub program_pairs : (program : TokenedProgram) → AllPaired program → AllPaired (respecialised_program program)
program_pairs program paired =
    each_function (λ function. IsPaired false [] [] function.body) program.functions
    (λ f function is. pairs [] function.body false [] [] (paired f function is))
