-- Specialised code with tokens: its bare form is specialised, and it spends its tokens.
use Rattle.std.proofs.Common.{◌≡◌, ℕ, List, [], ◌∷◌, refl, sym, ap, ◌∙◌}
use Rattle.kk_syntax.specs.Shapes.{without}
use Rattle.kk_syntax.specs.declared.program.Form.TheVariants.{Construct}
use Rattle.kk_counted.specs.CountedCodes.{case, compute, inside, read, if_unique, dup, drop, arm}
use Rattle.kk_counted.specs.TokenedCodes.{Tokened, TokenedArms}
use Rattle.kk_counted.specs.BareForms.{bare, bare_arms}
use Rattle.kk_counted.specs.TokenSpending.{SpendsTokens, SpendAllTokens}
use Rattle.kk_dropspec.specs.Specialised.{special, special_arms}
use Rattle.kk_dropspec.specs.SpecialTokens.{special_tokened, special_tokened_arms}

mutual
  pub bare_special : (code : Tokened) → bare (special_tokened code) ≡ special (bare code)
  bare_special (Tokened.give x) = refl
  bare_special (Tokened.tail_call f arguments) = refl
  bare_special (Tokened.case x decisions arms) = ap (case x decisions) (bare_special_arms arms)
  bare_special (Tokened.compute x form arguments others rest) = ap (compute x form arguments) (bare_special rest)
  bare_special (Tokened.inside x block rest) =
      ap (λ body. inside x body (bare (special_tokened rest))) (bare_special block) ∙ ap (inside x (special (bare block)))
      (bare_special rest)
  bare_special (Tokened.read x c fields rest) = ap (read x c fields) (bare_special rest)
  bare_special (Tokened.open_cell x c fields used y rest) = ap (if_unique x c fields used) (bare_special rest)
  bare_special (Tokened.if_unique x c fields used y rest) = ap (if_unique x c fields used) (bare_special rest)
  bare_special (Tokened.dup x rest) = ap (dup x) (bare_special rest)
  bare_special (Tokened.drop x rest) = ap (drop x) (bare_special rest)
  bare_special (Tokened.fill x y c first arguments kept others rest) =
      ap (compute x (Construct c) (first ∷ arguments)) (bare_special rest)
  bare_special (Tokened.free y rest) = bare_special rest
  bare_special (Tokened.null y rest) = bare_special rest
  bare_special (Tokened.move to of rest) = bare_special rest
  bare_special (Tokened.hold y rest) = bare_special rest
  bare_special (Tokened.unhold y rest) = bare_special rest
  bare_special (Tokened.if_token y there absent) = bare_special there

  bare_special_arms : (arms : TokenedArms) → bare_arms (special_tokened_arms arms) ≡ special_arms (bare_arms arms)
  bare_special_arms TokenedArms.no_arm = refl
  bare_special_arms (TokenedArms.arm body rest) =
      ap (λ code. arm code (bare_arms (special_tokened_arms rest))) (bare_special body) ∙ ap (arm (special (bare body)))
      (bare_special_arms rest)

mutual
  pub spends_tokens : (code : Tokened) (left unspent held : List ℕ) → SpendsTokens left unspent held code
      → SpendsTokens left unspent held (special_tokened code)
  spends_tokens (Tokened.give x) left unspent held s = s
  spends_tokens (Tokened.tail_call f arguments) left unspent held s = s
  spends_tokens (Tokened.case x decisions arms) left unspent held s = (s.0, spend_all_tokens arms left unspent s.1)
  spends_tokens (Tokened.compute x form arguments others rest) left unspent held s = (s.0, spends_tokens rest left unspent held s.1)
  spends_tokens (Tokened.inside x block rest) left unspent held s =
      (s.0, (s.1.0, (spends_tokens block s.0 unspent [] s.1.1.0, spends_tokens rest left s.0 [] s.1.1.1)))
  spends_tokens (Tokened.read x c fields rest) left unspent held s = (s.0, spends_tokens rest left unspent [] s.1)
  spends_tokens (Tokened.open_cell x c fields used y rest) left unspent held s =
      (s.0, (s.1.0, spends_tokens rest left (y ∷ unspent) [] s.1.1))
  spends_tokens (Tokened.if_unique x c fields used y rest) left unspent held s =
      (s.0, (s.1.0, spends_tokens rest left (y ∷ unspent) [] s.1.1))
  spends_tokens (Tokened.dup x rest) left unspent held s = (s.0, spends_tokens rest left unspent [] s.1)
  spends_tokens (Tokened.drop x rest) left unspent held s = spends_tokens rest left unspent held s
  spends_tokens (Tokened.fill x y c first arguments kept others rest) left unspent held s =
      (s.0, (s.1.0, (s.1.1.0, (s.1.1.1.0, spends_tokens rest left (without (y ∷ []) unspent) [] s.1.1.1.1))))
  spends_tokens (Tokened.free y rest) left unspent held s =
      (s.0, (s.1.0, spends_tokens rest left (without (y ∷ []) unspent) [] s.1.1))
  spends_tokens (Tokened.null y rest) left unspent held s = (s.0, (s.1.0, spends_tokens rest left (y ∷ unspent) [] s.1.1))
  spends_tokens (Tokened.move to of rest) left unspent held s =
      (s.0, (s.1.0, (s.1.1.0, spends_tokens rest left (to ∷ without (of ∷ []) unspent) [] s.1.1.1)))
  spends_tokens (Tokened.hold y rest) left unspent held s = (s.0, (s.1.0, spends_tokens rest left unspent (y ∷ held) s.1.1))
  spends_tokens (Tokened.unhold y rest) left unspent held s =
      (s.0, (s.1.0, (s.1.1.0, spends_tokens rest left unspent s.0 s.1.1.1)))
  spends_tokens (Tokened.if_token y there absent) left unspent held s = (
    s.0,
    (
      bare_special absent ∙ (ap special s.1.0 ∙ sym (bare_special there)),
      (spends_tokens there left unspent held s.1.1.0, spends_tokens absent left unspent held s.1.1.1),
    ),
  )

  spend_all_tokens : (arms : TokenedArms) (left unspent : List ℕ) → SpendAllTokens left unspent arms
      → SpendAllTokens left unspent (special_tokened_arms arms)
  spend_all_tokens TokenedArms.no_arm left unspent s = tt
  spend_all_tokens (TokenedArms.arm body rest) left unspent s =
      (spends_tokens body left unspent [] s.0, spend_all_tokens rest left unspent s.1)
