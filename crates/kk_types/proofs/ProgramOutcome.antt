-- A program comes to one thing.
use Rattle.std.proofs.Common.{◌≡◌, ◌<◌, ◌≤◌, ◌+◌, ◌⊎◌, inl, inr, ℕ, zero, suc, add-one, Option, Some, None, option_map, MatchOption, List, [], ◌∷◌, ◌++◌, length, get_or, refl, ap, sym, ◌∙◌, subst, arith}
use Rattle.std.specs.Prelude.{Result, Ok, Err, slice_get}
use Rattle.std.proofs.lemmas.Bool.{cases_lt, cases_eq}
use Rattle.std.proofs.lemmas.List.{length-append, get_or_append_left, get_or_push}
use Rattle.std.proofs.lemmas.Option.{slice_get-map, slice_get-get_or, slice_get_within, slice_get_read, slice_get_past, get_or_from_slice_get}
use Rattle.kk_base.specs.Exactly.{IsOnly}
use Rattle.kk_syntax.specs.declared.program.Fun.{Fun}
use Rattle.kk_syntax.specs.declared.program.Program.{Program}
use Rattle.kk_syntax.specs.Programs.{FunctionTree, ProgramTree, no_function, function_tree, program_tree}
use Rattle.kk_syntax.specs.Typing.{Choice, IsTypable, IsTypableAt, IsPrincipal, ArePrincipal, IsFirstUntyped, TypesAs}

module _ (program : ProgramTree) where
  abbrev at : Option FunctionTree → Type 0
  at found = MatchOption found (Unit {0}) (IsTypable program)

  pub typable_of : (f : ℕ) (function : FunctionTree) → slice_get program.functions f ≡ Some function → IsTypableAt program f → IsTypable program function
  typable_of f function is h = subst at is h

  pub typable_at : (f : ℕ) (function : FunctionTree) → slice_get program.functions f ≡ Some function → IsTypable program function → IsTypableAt program f
  typable_at f function is h = subst at (sym is) h

  pub past : (f : ℕ) → length program.functions ≤ f → IsTypableAt program f
  past f le = subst at (sym (slice_get_past program.functions f le)) tt

  one_outcome : (a b : Result (Unit {0}) ℕ) → TypesAs program a → TypesAs program b → b ≡ a
  one_outcome (Ok _) (Ok _) x y = refl
  one_outcome (Ok _) (Err g) x y = absurd (y.untyped (typable_of g y.function y.is (x g)))
  one_outcome (Err f) (Ok _) x y = absurd (x.untyped (typable_of f x.function x.is (y f)))
  one_outcome (Err f) (Err g) x y = elim (cases_eq g f) [
    | inl same ↦ ap Err same
    | inr other ↦ elim (cases_lt g f) [
      | inl lt ↦ absurd (y.untyped (typable_of g y.function y.is (x.earlier g lt)))
      | inr ge ↦ absurd (x.untyped (typable_of f x.function x.is (y.earlier f (omega arith))))
    ]
  ]

  pub only_outcome : (outcome : Result (Unit {0}) ℕ) → TypesAs program outcome → IsOnly (TypesAs program) outcome
  only_outcome outcome h = record { holds = h; only = λ other k. one_outcome outcome other h k }

-- the first functions of a program, so many, have these principal typings
pub record TypedSoFar (program : ProgramTree) (typings : List (List Choice)) (number : ℕ) : Type 0 where
  pub count : length typings ≡ number
  pub typed : (g : ℕ) → g < number → IsTypableAt program g
  pub each : (g : ℕ) (function : FunctionTree) (choices : List Choice) → slice_get program.functions g ≡ Some function → slice_get typings g ≡ Some choices → IsPrincipal program function choices

pub none_so_far : (program : ProgramTree) → TypedSoFar program [] 0
none_so_far program = record {
  count = refl;
  typed = λ g lt. absurd (omega arith);
  each = λ g function choices is found. absurd (cc (found));
}

module _ (program : ProgramTree) (typings : List (List Choice)) (number : ℕ) (so_far : TypedSoFar program typings number) where
  module _ (function : FunctionTree) (is : slice_get program.functions number ≡ Some function) where
    -- one function more
    pub one_more : (choices : List Choice) → IsPrincipal program function choices → TypedSoFar program (typings ++ (choices ∷ [])) (number + 1)
    one_more choices principal = record {
      count = length-append typings (choices ∷ []) ∙ ap (λ n. n + 1) so_far.count;
      typed = λ g lt. elim (cases_eq g number) [
        | inl same ↦ subst (IsTypableAt program) (sym same) (typable_at program number function is (choices, principal.typing))
        | inr other ↦ so_far.typed g (omega arith)
      ];
      each = λ g other found there here. elim (cases_lt g number) [
        | inl lt ↦ so_far.each g other found there (slice_get-get_or typings g found (omega (arith, so_far.count)) ∙ ap Some (sym (get_or_append_left typings (choices ∷ []) found g (omega (arith, so_far.count))) ∙ get_or_from_slice_get (typings ++ (choices ∷ [])) g found found here))
        | inr ge ↦
            let within = slice_get_within (typings ++ (choices ∷ [])) g found here in
            let same : g ≡ number = omega (arith, within, so_far.count, length-append typings (choices ∷ [])) in
            let one : function ≡ other = cc (is, there, same) in
            let last = get_or_push typings choices found g (so_far.count ∙ sym same) in
            let here_is = get_or_from_slice_get (typings ++ (choices ∷ [])) g found found here in
            let two : choices ≡ found = sym last ∙ here_is in
            subst (λ f. IsPrincipal program f found) one (subst (IsPrincipal program function) two principal)
      ];
    }

    -- the first that is not typed
    pub first_untyped : (IsTypable program function → ⊥) → IsFirstUntyped program number
    first_untyped untyped = record { function = function; is = is; untyped = untyped; earlier = so_far.typed }

  module _ (all : number ≡ length program.functions) where
    pub all_typed : TypesAs program (Ok tt)
    all_typed f = elim (cases_lt f number) [
      | inl lt ↦ so_far.typed f lt
      | inr ge ↦ past program f (omega (arith, all))
    ]

    pub all_principal : ArePrincipal program typings
    all_principal = record { length = so_far.count ∙ all; each = so_far.each }

-- the laws, where each function is typed or is not
module _ (decided : (program : ProgramTree) (function : FunctionTree) → ((choices : List Choice) × IsPrincipal program function choices) ⊎ (IsTypable program function → ⊥)) (program : ProgramTree) where
  so_far : (n : ℕ) → n ≤ length program.functions → ((typings : List (List Choice)) × TypedSoFar program typings n) ⊎ ((f : ℕ) × IsFirstUntyped program f)
  so_far zero le = inl ([], none_so_far program)
  so_far (suc n) le = elim (so_far n (omega arith)) [
    | inl before ↦ next before.0 before.1 (slice_get program.functions n) refl
    | inr first ↦ inr first
  ]
    where
      next : (typings : List (List Choice)) → TypedSoFar program typings n → (found : Option FunctionTree) → slice_get program.functions n ≡ found → ((more : List (List Choice)) × TypedSoFar program more (suc n)) ⊎ ((f : ℕ) × IsFirstUntyped program f)
      next typings before None is = let some = slice_get-get_or program.functions n no_function (omega arith) in cc
      next typings before (Some function) is = elim (decided program function) [
        | inl principal ↦ inl (typings ++ (principal.0 ∷ []), subst (TypedSoFar program (typings ++ (principal.0 ∷ []))) (add-one n) (one_more program typings n before function is principal.0 principal.1))
        | inr untyped ↦ inr (n, first_untyped program typings n before function is untyped)
      ]

  pub program_is_checked : (outcome : Result (Unit {0}) ℕ) × IsOnly (TypesAs program) outcome
  program_is_checked = elim (so_far (length program.functions) (omega arith)) [
    | inl each ↦ (Ok tt, only_outcome program (Ok tt) (all_typed program each.0 (length program.functions) each.1 refl))
    | inr first ↦ (Err first.0, only_outcome program (Err first.0) first.1)
  ]

  pub has_principal : TypesAs program (Ok tt) → (typings : List (List Choice)) × ArePrincipal program typings
  has_principal typed = elim (so_far (length program.functions) (omega arith)) [
    | inl each ↦ (each.0, all_principal program each.0 (length program.functions) each.1 refl)
    | inr first ↦ absurd (first.1.untyped (typable_of program first.0 first.1.function first.1.is (typed first.0)))
  ]

module _ (program : Program) (functions : List Fun) (same : functions ≡ program.functions.items) (number : ℕ) (function : Fun) (within : number < length functions) (is : function ≡ get_or functions number function) where
  -- the function of that number
  pub there : slice_get (program_tree program).functions number ≡ Some (function_tree function)
  there =
      slice_get-map function_tree program.functions.items number
      ∙ (ap (λ fs. option_map function_tree (slice_get fs number)) (sym same)
      ∙ ap (option_map function_tree) (slice_get_read functions (length functions) number function refl within is))
