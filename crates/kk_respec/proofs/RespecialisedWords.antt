-- Respecialised code takes as many words as the code that it is made of: a construction has as many, whatever fields it leaves.
use Rattle.std.proofs.Common.{◌≡◌, List, [], arith, refl}
use Rattle.kk_counted.specs.KeptFields.{KnownFields, forget_slot, forget_variable, forget_variables, known_opened}
use Rattle.kk_counted.specs.TokenedCodes.{Tokened, TokenedArms, TokenedFunction}
use Rattle.kk_counted.specs.TokenedWords.{tokened_words, tokened_arms_words}
use Rattle.kk_respec.specs.Respecialised.{respec, respec_arms, respecialised_function}

mutual
  same_words : (known : List KnownFields) (code : Tokened) → tokened_words (respec known code) ≡ tokened_words code
  same_words known (Tokened.give x) = refl
  same_words known (Tokened.tail_call f arguments) = refl
  same_words known (Tokened.case x decisions arms) = let each = same_arms_words known arms in omega (arith, each)
  same_words known (Tokened.compute x form arguments others rest) =
      let later = same_words (forget_variable x known) rest in omega (arith, later)
  same_words known (Tokened.inside x block rest) =
      let one = same_words known block in let two = same_words [] rest in omega (arith, one, two)
  same_words known (Tokened.read x c fields rest) =
      let later = same_words (forget_variables fields known) rest in omega (arith, later)
  same_words known (Tokened.open_cell x c fields used y rest) =
      let later = same_words (known_opened fields y known) rest in omega (arith, later)
  same_words known (Tokened.if_unique x c fields used y rest) =
      let later = same_words (known_opened fields y known) rest in omega (arith, later)
  same_words known (Tokened.dup x rest) = let later = same_words known rest in omega (arith, later)
  same_words known (Tokened.drop x rest) = let later = same_words known rest in omega (arith, later)
  same_words known (Tokened.fill x y c first arguments kept others rest) =
      let later = same_words (forget_variable x (forget_slot y known)) rest in omega (arith, later)
  same_words known (Tokened.free y rest) = let later = same_words (forget_slot y known) rest in omega (arith, later)
  same_words known (Tokened.null y rest) = let later = same_words (forget_slot y known) rest in omega (arith, later)
  same_words known (Tokened.move to of rest) =
      let later = same_words (forget_slot to (forget_slot of known)) rest in omega (arith, later)
  same_words known (Tokened.hold y rest) = let later = same_words known rest in omega (arith, later)
  same_words known (Tokened.unhold y rest) = let later = same_words known rest in omega (arith, later)
  same_words known (Tokened.if_token y there absent) =
      let one = same_words known there in let two = same_words known absent in omega (arith, one, two)

  same_arms_words : (known : List KnownFields) (arms : TokenedArms)
      → tokened_arms_words (respec_arms known arms) ≡ tokened_arms_words arms
  same_arms_words known TokenedArms.no_arm = refl
  same_arms_words known (TokenedArms.arm body rest) =
      let one = same_words known body in let two = same_arms_words known rest in omega (arith, one, two)

-- nothing is known where a function starts
pub function_words : (function : TokenedFunction)
    → tokened_words (respecialised_function function).body ≡ tokened_words function.body
function_words function = same_words [] function.body
