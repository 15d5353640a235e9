-- Respecialised code has as many slots, needs as much room, and is as long as the code that it is made of.
use Rattle.std.proofs.Common.{◌≡◌, ◌≤◌, ◌+◌, ◌*◌, ℕ, suc, List, [], ◌∷◌, map, length, refl, sym, ap, subst, ◌∙◌}
use Rattle.std.specs.Prelude.{max}
use Rattle.kk_core.specs.CaseLengths.{tests_length}
use Rattle.kk_counted.specs.KeptFields.{KnownFields, forget_slot, forget_variable, forget_variables, known_opened}
use Rattle.kk_counted.specs.Lengths.{form_length, reference_length}
use Rattle.kk_counted.specs.TokenCosts.{quiet_cost, other_cost, tokens_ahead, room_needed, arms_need_room, HasRoom}
use Rattle.kk_counted.specs.TokenLengths.{hold_length, unhold_length, free_length, null_length, move_length, other_length}
use Rattle.kk_counted.specs.TokenLengths.{tokened_length, tokened_arms_length, tokened_functions_length}
use Rattle.kk_counted.specs.TokenLengths.{tokened_computes, tokened_arms_computes, all_tokened_computes}
use Rattle.kk_counted.specs.TokenLengths.{most_tokened_length, AreTokensShort}
use Rattle.kk_core.specs.Sizes.{most_program_forms}
use Rattle.kk_counted.specs.TokenLowerable.{slots_of, slots_in, slots_in_arms}
use Rattle.kk_counted.specs.TokenedCodes.{Tokened, TokenedArms, TokenedFunction, TokenedProgram}
use Rattle.kk_respec.specs.Respecialised.{respec, respec_arms, respecialised_function, respecialised_program}
use Rattle.kk_respec.proofs.Forms.{each_function}

-- ---- slots

mutual
  pub slots_same : (known : List KnownFields) (code : Tokened) → slots_in (respec known code) ≡ slots_in code
  slots_same known (Tokened.give x) = refl
  slots_same known (Tokened.tail_call f arguments) = refl
  slots_same known (Tokened.case x decisions arms) = slots_same_arms known arms
  slots_same known (Tokened.compute x form arguments others rest) =
      ap (max (slots_of others)) (slots_same (forget_variable x known) rest)
  slots_same known (Tokened.inside x block rest) =
      ap (λ n. max n (slots_in (respec [] rest))) (slots_same known block)
      ∙ ap (λ n. max (slots_in block) n) (slots_same [] rest)
  slots_same known (Tokened.read x c fields rest) = slots_same (forget_variables fields known) rest
  slots_same known (Tokened.open_cell x c fields used y rest) = ap (max (suc y)) (slots_same (known_opened fields y known) rest)
  slots_same known (Tokened.if_unique x c fields used y rest) = ap (max (suc y)) (slots_same (known_opened fields y known) rest)
  slots_same known (Tokened.dup x rest) = slots_same known rest
  slots_same known (Tokened.drop x rest) = slots_same known rest
  slots_same known (Tokened.fill x y c first arguments kept others rest) =
      ap (λ n. max (suc y) (max (slots_of others) n)) (slots_same (forget_variable x (forget_slot y known)) rest)
  slots_same known (Tokened.free y rest) = ap (max (suc y)) (slots_same (forget_slot y known) rest)
  slots_same known (Tokened.null y rest) = ap (max (suc y)) (slots_same (forget_slot y known) rest)
  slots_same known (Tokened.move to of rest) =
      ap (λ n. max (suc to) (max (suc of) n)) (slots_same (forget_slot to (forget_slot of known)) rest)
  slots_same known (Tokened.hold y rest) = ap (max (suc y)) (slots_same known rest)
  slots_same known (Tokened.unhold y rest) = ap (max (suc y)) (slots_same known rest)
  slots_same known (Tokened.if_token y there absent) =
      ap (λ n. max (suc y) (max n (slots_in (respec known absent)))) (slots_same known there)
      ∙ ap (λ n. max (suc y) (max (slots_in there) n)) (slots_same known absent)

  slots_same_arms : (known : List KnownFields) (arms : TokenedArms) → slots_in_arms (respec_arms known arms) ≡ slots_in_arms arms
  slots_same_arms known TokenedArms.no_arm = refl
  slots_same_arms known (TokenedArms.arm body rest) =
      ap (λ n. max n (slots_in_arms (respec_arms known rest))) (slots_same known body)
      ∙ ap (λ n. max (slots_in body) n) (slots_same_arms known rest)

-- ---- room

ahead_same : (known : List KnownFields) (code : Tokened) → tokens_ahead (respec known code) ≡ tokens_ahead code
ahead_same known (Tokened.give x) = refl
ahead_same known (Tokened.tail_call f arguments) = refl
ahead_same known (Tokened.case x decisions arms) = refl
ahead_same known (Tokened.compute x form arguments others rest) = refl
ahead_same known (Tokened.inside x block rest) = refl
ahead_same known (Tokened.read x c fields rest) = refl
ahead_same known (Tokened.open_cell x c fields used y rest) = refl
ahead_same known (Tokened.if_unique x c fields used y rest) = refl
ahead_same known (Tokened.dup x rest) = ahead_same known rest
ahead_same known (Tokened.drop x rest) = ahead_same known rest
ahead_same known (Tokened.fill x y c first arguments kept others rest) = refl
ahead_same known (Tokened.free y rest) = ap (λ n. quiet_cost + n) (ahead_same (forget_slot y known) rest)
ahead_same known (Tokened.null y rest) = ap (λ n. quiet_cost + n) (ahead_same (forget_slot y known) rest)
ahead_same known (Tokened.move to of rest) = ap (λ n. quiet_cost + n) (ahead_same (forget_slot to (forget_slot of known)) rest)
ahead_same known (Tokened.hold y rest) = ap (λ n. quiet_cost + n) (ahead_same known rest)
ahead_same known (Tokened.unhold y rest) = ap (λ n. quiet_cost + n) (ahead_same known rest)
ahead_same known (Tokened.if_token y there absent) =
    ap (λ n. quiet_cost + max n (tokens_ahead (respec known absent))) (ahead_same known there)
    ∙ ap (λ n. quiet_cost + max (tokens_ahead there) n) (ahead_same known absent)

mutual
  pub room_same : (known : List KnownFields) (code : Tokened) → room_needed (respec known code) ≡ room_needed code
  room_same known (Tokened.give x) = refl
  room_same known (Tokened.tail_call f arguments) = refl
  room_same known (Tokened.case x decisions arms) = room_same_arms known arms
  room_same known (Tokened.compute x form arguments others rest) =
      ap (max (other_cost * length others)) (room_same (forget_variable x known) rest)
  room_same known (Tokened.inside x block rest) =
      ap (λ n. max n (room_needed (respec [] rest))) (room_same known block)
      ∙ ap (λ n. max (room_needed block) n) (room_same [] rest)
  room_same known (Tokened.read x c fields rest) = room_same (forget_variables fields known) rest
  room_same known (Tokened.open_cell x c fields used y rest) = room_same (known_opened fields y known) rest
  room_same known (Tokened.if_unique x c fields used y rest) = room_same (known_opened fields y known) rest
  room_same known (Tokened.dup x rest) = room_same known rest
  room_same known (Tokened.drop x rest) = room_same known rest
  room_same known (Tokened.fill x y c first arguments kept others rest) =
      ap (max (other_cost * length others)) (room_same (forget_variable x (forget_slot y known)) rest)
  room_same known (Tokened.free y rest) =
      ap (λ n. max (quiet_cost + n) (room_needed (respec (forget_slot y known) rest))) (ahead_same (forget_slot y known) rest)
      ∙ ap (max (quiet_cost + tokens_ahead rest)) (room_same (forget_slot y known) rest)
  room_same known (Tokened.null y rest) =
      ap (λ n. max (quiet_cost + n) (room_needed (respec (forget_slot y known) rest))) (ahead_same (forget_slot y known) rest)
      ∙ ap (max (quiet_cost + tokens_ahead rest)) (room_same (forget_slot y known) rest)
  room_same known (Tokened.move to of rest) =
      ap (λ n. max (quiet_cost + n) (room_needed (respec (forget_slot to (forget_slot of known)) rest)))
      (ahead_same (forget_slot to (forget_slot of known)) rest)
      ∙ ap (max (quiet_cost + tokens_ahead rest)) (room_same (forget_slot to (forget_slot of known)) rest)
  room_same known (Tokened.hold y rest) =
      ap (λ n. max (quiet_cost + n) (room_needed (respec known rest))) (ahead_same known rest)
      ∙ ap (max (quiet_cost + tokens_ahead rest)) (room_same known rest)
  room_same known (Tokened.unhold y rest) =
      ap (λ n. max (quiet_cost + n) (room_needed (respec known rest))) (ahead_same known rest)
      ∙ ap (max (quiet_cost + tokens_ahead rest)) (room_same known rest)
  room_same known (Tokened.if_token y there absent) =
      ap (λ n. max (quiet_cost + max n (tokens_ahead (respec known absent)))
      (max (room_needed (respec known there)) (room_needed (respec known absent)))) (ahead_same known there)
      ∙ ap (λ n. max (quiet_cost + max (tokens_ahead there) n)
      (max (room_needed (respec known there)) (room_needed (respec known absent)))) (ahead_same known absent)
      ∙ ap (λ n. max (quiet_cost + max (tokens_ahead there) (tokens_ahead absent)) (max n (room_needed (respec known absent))))
      (room_same known there)
      ∙ ap (λ n. max (quiet_cost + max (tokens_ahead there) (tokens_ahead absent)) (max (room_needed there) n))
      (room_same known absent)

  room_same_arms : (known : List KnownFields) (arms : TokenedArms) → arms_need_room (respec_arms known arms) ≡ arms_need_room arms
  room_same_arms known TokenedArms.no_arm = refl
  room_same_arms known (TokenedArms.arm body rest) =
      ap (λ n. max n (arms_need_room (respec_arms known rest))) (room_same known body)
      ∙ ap (λ n. max (room_needed body) n) (room_same_arms known rest)

pub program_has_room : (room : ℕ) (program : TokenedProgram) → HasRoom room program → HasRoom room (respecialised_program program)
program_has_room room program has =
    each_function (λ function. room_needed function.body ≤ room) program.functions
    (λ f function is. subst (λ n. n ≤ room) (sym (room_same [] function.body)) (has f function is))

-- ---- lengths

mutual
  pub length_same : (known : List KnownFields) (code : Tokened) → tokened_length (respec known code) ≡ tokened_length code
  length_same known (Tokened.give x) = refl
  length_same known (Tokened.tail_call f arguments) = refl
  length_same known (Tokened.case x decisions arms) =
      ap (λ n. form_length + tests_length decisions + n) (length_same_arms known arms)
  length_same known (Tokened.compute x form arguments others rest) =
      ap (λ n. form_length + other_length * length others + n) (length_same (forget_variable x known) rest)
  length_same known (Tokened.inside x block rest) =
      ap (λ n. form_length + n + tokened_length (respec [] rest)) (length_same known block)
      ∙ ap (λ n. form_length + tokened_length block + n) (length_same [] rest)
  length_same known (Tokened.read x c fields rest) = ap (λ n. form_length + n) (length_same (forget_variables fields known) rest)
  length_same known (Tokened.open_cell x c fields used y rest) =
      ap (λ n. form_length + n) (length_same (known_opened fields y known) rest)
  length_same known (Tokened.if_unique x c fields used y rest) =
      ap (λ n. form_length + n) (length_same (known_opened fields y known) rest)
  length_same known (Tokened.dup x rest) = ap (λ n. reference_length + n) (length_same known rest)
  length_same known (Tokened.drop x rest) = ap (λ n. reference_length + n) (length_same known rest)
  length_same known (Tokened.fill x y c first arguments kept others rest) =
      ap (λ n. form_length + other_length * length others + n) (length_same (forget_variable x (forget_slot y known)) rest)
  length_same known (Tokened.free y rest) = ap (λ n. free_length + n) (length_same (forget_slot y known) rest)
  length_same known (Tokened.null y rest) = ap (λ n. null_length + n) (length_same (forget_slot y known) rest)
  length_same known (Tokened.move to of rest) = ap (λ n. move_length + n) (length_same (forget_slot to (forget_slot of known)) rest)
  length_same known (Tokened.hold y rest) = ap (λ n. hold_length + n) (length_same known rest)
  length_same known (Tokened.unhold y rest) = ap (λ n. unhold_length + n) (length_same known rest)
  length_same known (Tokened.if_token y there absent) =
      ap (λ n. form_length + n + tokened_length (respec known absent)) (length_same known there)
      ∙ ap (λ n. form_length + tokened_length there + n) (length_same known absent)

  length_same_arms : (known : List KnownFields) (arms : TokenedArms)
      → tokened_arms_length (respec_arms known arms) ≡ tokened_arms_length arms
  length_same_arms known TokenedArms.no_arm = refl
  length_same_arms known (TokenedArms.arm body rest) =
      ap (λ n. n + tokened_arms_length (respec_arms known rest)) (length_same known body)
      ∙ ap (λ n. tokened_length body + n) (length_same_arms known rest)

mutual
  pub computes_same : (known : List KnownFields) (code : Tokened) → tokened_computes (respec known code) ≡ tokened_computes code
  computes_same known (Tokened.give x) = refl
  computes_same known (Tokened.tail_call f arguments) = refl
  computes_same known (Tokened.case x decisions arms) = computes_same_arms known arms
  computes_same known (Tokened.compute x form arguments others rest) = ap (suc) (computes_same (forget_variable x known) rest)
  computes_same known (Tokened.inside x block rest) =
      ap (λ n. n + tokened_computes (respec [] rest)) (computes_same known block)
      ∙ ap (λ n. tokened_computes block + n) (computes_same [] rest)
  computes_same known (Tokened.read x c fields rest) = computes_same (forget_variables fields known) rest
  computes_same known (Tokened.open_cell x c fields used y rest) = computes_same (known_opened fields y known) rest
  computes_same known (Tokened.if_unique x c fields used y rest) = computes_same (known_opened fields y known) rest
  computes_same known (Tokened.dup x rest) = computes_same known rest
  computes_same known (Tokened.drop x rest) = computes_same known rest
  computes_same known (Tokened.fill x y c first arguments kept others rest) =
      computes_same (forget_variable x (forget_slot y known)) rest
  computes_same known (Tokened.free y rest) = computes_same (forget_slot y known) rest
  computes_same known (Tokened.null y rest) = computes_same (forget_slot y known) rest
  computes_same known (Tokened.move to of rest) = computes_same (forget_slot to (forget_slot of known)) rest
  computes_same known (Tokened.hold y rest) = computes_same known rest
  computes_same known (Tokened.unhold y rest) = computes_same known rest
  computes_same known (Tokened.if_token y there absent) =
      ap (λ n. n + tokened_computes (respec known absent)) (computes_same known there)
      ∙ ap (λ n. tokened_computes there + n) (computes_same known absent)

  computes_same_arms : (known : List KnownFields) (arms : TokenedArms)
      → tokened_arms_computes (respec_arms known arms) ≡ tokened_arms_computes arms
  computes_same_arms known TokenedArms.no_arm = refl
  computes_same_arms known (TokenedArms.arm body rest) =
      ap (λ n. n + tokened_arms_computes (respec_arms known rest)) (computes_same known body)
      ∙ ap (λ n. tokened_computes body + n) (computes_same_arms known rest)

functions_length_same : (functions : List TokenedFunction)
    → tokened_functions_length (map respecialised_function functions) ≡ tokened_functions_length functions
functions_length_same [] = refl
functions_length_same (function ∷ functions) =
    ap (λ n. form_length + n + tokened_functions_length (map respecialised_function functions)) (length_same [] function.body)
    ∙ ap (λ n. form_length + tokened_length function.body + n) (functions_length_same functions)

functions_compute_same : (functions : List TokenedFunction)
    → all_tokened_computes (map respecialised_function functions) ≡ all_tokened_computes functions
functions_compute_same [] = refl
functions_compute_same (function ∷ functions) =
    ap (λ n. n + all_tokened_computes (map respecialised_function functions)) (computes_same [] function.body)
    ∙ ap (λ n. tokened_computes function.body + n) (functions_compute_same functions)

pub program_short : (program : TokenedProgram) → AreTokensShort program.functions
    → AreTokensShort (respecialised_program program).functions
program_short program short =
    record {
      length = subst (λ n. n ≤ most_tokened_length) (sym (functions_length_same program.functions)) short.length;
      computes = subst (λ n. n ≤ most_program_forms) (sym (functions_compute_same program.functions)) short.computes;
    }
