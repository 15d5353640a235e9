-- Respecialised code has the bare form of the code that it is made of, and spends its tokens where that does.
use Rattle.std.proofs.Common.{◌≡◌, ℕ, List, [], ◌∷◌, map, Some, refl, sym, ap, ◌∙◌}
use Rattle.std.specs.Prelude.{slice_get}
use Rattle.kk_syntax.specs.Shapes.{without}
use Rattle.kk_syntax.specs.declared.program.Form.TheVariants.{Construct}
use Rattle.kk_counted.specs.BareForms.{bare, bare_arms, bare_function, bare_program}
use Rattle.kk_counted.specs.CountedCodes.{CountedFunction, case, compute, inside, read, open_cell, if_unique, dup, drop, arm}
use Rattle.kk_counted.specs.KeptFields.{KnownFields, forget_slot, forget_variable, forget_variables, known_opened}
use Rattle.kk_counted.specs.TokenSpending.{SpendsTokens, SpendAllTokens, AreTokensSpent}
use Rattle.kk_counted.specs.TokenedCodes.{Tokened, TokenedArms, TokenedFunction, TokenedProgram}
use Rattle.kk_reuse.proofs.MappedLists.{each_made}
use Rattle.kk_respec.specs.Respecialised.{respec, respec_arms, respecialised_function, respecialised_program}

-- ---- the bare form

mutual
  pub bare_respec : (known : List KnownFields) (code : Tokened) → bare (respec known code) ≡ bare code
  bare_respec known (Tokened.give x) = refl
  bare_respec known (Tokened.tail_call f arguments) = refl
  bare_respec known (Tokened.case x decisions arms) = ap (case x decisions) (bare_respec_arms known arms)
  bare_respec known (Tokened.compute x form arguments others rest) =
      ap (compute x form arguments) (bare_respec (forget_variable x known) rest)
  bare_respec known (Tokened.inside x block rest) =
      ap (λ body. inside x body (bare (respec [] rest))) (bare_respec known block)
      ∙ ap (inside x (bare block)) (bare_respec [] rest)
  bare_respec known (Tokened.read x c fields rest) = ap (read x c fields) (bare_respec (forget_variables fields known) rest)
  bare_respec known (Tokened.open_cell x c fields used y rest) =
      ap (open_cell x c fields used) (bare_respec (known_opened fields y known) rest)
  bare_respec known (Tokened.if_unique x c fields used y rest) =
      ap (if_unique x c fields used) (bare_respec (known_opened fields y known) rest)
  bare_respec known (Tokened.dup x rest) = ap (dup x) (bare_respec known rest)
  bare_respec known (Tokened.drop x rest) = ap (drop x) (bare_respec known rest)
  bare_respec known (Tokened.fill x y c first arguments kept others rest) =
      ap (compute x (Construct c) (first ∷ arguments)) (bare_respec (forget_variable x (forget_slot y known)) rest)
  bare_respec known (Tokened.free y rest) = bare_respec (forget_slot y known) rest
  bare_respec known (Tokened.null y rest) = bare_respec (forget_slot y known) rest
  bare_respec known (Tokened.move to of rest) = bare_respec (forget_slot to (forget_slot of known)) rest
  bare_respec known (Tokened.hold y rest) = bare_respec known rest
  bare_respec known (Tokened.unhold y rest) = bare_respec known rest
  bare_respec known (Tokened.if_token y there absent) = bare_respec known there

  bare_respec_arms : (known : List KnownFields) (arms : TokenedArms) → bare_arms (respec_arms known arms) ≡ bare_arms arms
  bare_respec_arms known TokenedArms.no_arm = refl
  bare_respec_arms known (TokenedArms.arm body rest) =
      ap (λ code. arm code (bare_arms (respec_arms known rest))) (bare_respec known body)
      ∙ ap (arm (bare body)) (bare_respec_arms known rest)

functions_bare : (functions : List TokenedFunction)
    → map bare_function (map respecialised_function functions) ≡ map bare_function functions
functions_bare [] = refl
functions_bare (function ∷ functions) =
    ap (λ body. record { parameters = function.parameters; body = body }
    ∷ map bare_function (map respecialised_function functions)) (bare_respec [] function.body)
    ∙ ap (λ (rest : List CountedFunction). bare_function function ∷ rest) (functions_bare functions)

pub program_bare : (program : TokenedProgram) → bare_program (respecialised_program program) ≡ bare_program program
program_bare program =
    ap (λ (functions : List CountedFunction). record { functions = functions; texts = program.texts; main = program.main })
    (functions_bare program.functions)

-- ---- each function

-- what is true of each function of a program, where it is so of the function that each is made of
pub each_function : (P : TokenedFunction → Type 0) (functions : List TokenedFunction)
    → ((f : ℕ) (function : TokenedFunction) → slice_get functions f ≡ Some function → P (respecialised_function function))
    → (f : ℕ) (function : TokenedFunction) → slice_get (map respecialised_function functions) f ≡ Some function → P function
each_function = each_made respecialised_function

-- ---- tokens are spent

mutual
  respec_spends : (known : List KnownFields) (code : Tokened) (left unspent held : List ℕ) → SpendsTokens left unspent held code
      → SpendsTokens left unspent held (respec known code)
  respec_spends known (Tokened.give x) left unspent held s = s
  respec_spends known (Tokened.tail_call f arguments) left unspent held s = s
  respec_spends known (Tokened.case x decisions arms) left unspent held s = (s.0, arms_spend known arms left unspent s.1)
  respec_spends known (Tokened.compute x form arguments others rest) left unspent held s =
      (s.0, respec_spends (forget_variable x known) rest left unspent held s.1)
  respec_spends known (Tokened.inside x block rest) left unspent held s =
      (s.0, (s.1.0, (respec_spends known block s.0 unspent [] s.1.1.0, respec_spends [] rest left s.0 [] s.1.1.1)))
  respec_spends known (Tokened.read x c fields rest) left unspent held s =
      (s.0, respec_spends (forget_variables fields known) rest left unspent [] s.1)
  respec_spends known (Tokened.open_cell x c fields used y rest) left unspent held s =
      (s.0, (s.1.0, respec_spends (known_opened fields y known) rest left (y ∷ unspent) [] s.1.1))
  respec_spends known (Tokened.if_unique x c fields used y rest) left unspent held s =
      (s.0, (s.1.0, respec_spends (known_opened fields y known) rest left (y ∷ unspent) [] s.1.1))
  respec_spends known (Tokened.dup x rest) left unspent held s = (s.0, respec_spends known rest left unspent [] s.1)
  respec_spends known (Tokened.drop x rest) left unspent held s = respec_spends known rest left unspent held s
  respec_spends known (Tokened.fill x y c first arguments kept others rest) left unspent held s = (
    s.0,
    (
      s.1.0,
      (
        s.1.1.0,
        (
          s.1.1.1.0,
          respec_spends (forget_variable x (forget_slot y known)) rest left (without (y ∷ []) unspent) [] s.1.1.1.1,
        ),
      ),
    ),
  )
  respec_spends known (Tokened.free y rest) left unspent held s =
      (s.0, (s.1.0, respec_spends (forget_slot y known) rest left (without (y ∷ []) unspent) [] s.1.1))
  respec_spends known (Tokened.null y rest) left unspent held s =
      (s.0, (s.1.0, respec_spends (forget_slot y known) rest left (y ∷ unspent) [] s.1.1))
  respec_spends known (Tokened.move to of rest) left unspent held s = (
    s.0,
    (
      s.1.0,
      (
        s.1.1.0,
        respec_spends (forget_slot to (forget_slot of known)) rest left (to ∷ without (of ∷ []) unspent) [] s.1.1.1,
      ),
    ),
  )
  respec_spends known (Tokened.hold y rest) left unspent held s =
      (s.0, (s.1.0, respec_spends known rest left unspent (y ∷ held) s.1.1))
  respec_spends known (Tokened.unhold y rest) left unspent held s =
      (s.0, (s.1.0, (s.1.1.0, respec_spends known rest left unspent s.0 s.1.1.1)))
  respec_spends known (Tokened.if_token y there absent) left unspent held s = (
    s.0,
    (
      bare_respec known absent ∙ (s.1.0 ∙ sym (bare_respec known there)),
      (respec_spends known there left unspent held s.1.1.0, respec_spends known absent left unspent held s.1.1.1),
    ),
  )

  arms_spend : (known : List KnownFields) (arms : TokenedArms) (left unspent : List ℕ) → SpendAllTokens left unspent arms
      → SpendAllTokens left unspent (respec_arms known arms)
  arms_spend known TokenedArms.no_arm left unspent s = tt
  arms_spend known (TokenedArms.arm body rest) left unspent s =
      (respec_spends known body left unspent [] s.0, arms_spend known rest left unspent s.1)

pub program_spends : (program : TokenedProgram) → AreTokensSpent program → AreTokensSpent (respecialised_program program)
program_spends program spends =
    each_function (λ function. SpendsTokens [] [] [] function.body) program.functions
    (λ f function is. respec_spends [] function.body [] [] [] (spends f function is))
