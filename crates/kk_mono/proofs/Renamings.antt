-- Two principal typings of a function are renamings of each other. So, with `()` in place of what remains open, they call the
-- same instances; and the instances of a program are the same by each.
use Rattle.std.proofs.Common.{◌≡◌, ℕ, ◌<◌, ◌≤◌, List, [], ◌∷◌, ◌++◌, length, map, get_or, All, Contains, Some, refl, sym, ap, ◌∙◌, subst, inl, inr, arith}
use Rattle.std.specs.Prelude.{slice_get, slice_index_or, flat_map}
use Rattle.std.proofs.lemmas.Bool.{cases_lt}
use Rattle.std.proofs.lemmas.List.{length-map, get_or_past}
use Rattle.std.proofs.lemmas.List.Elements.{All-weaker, All-head, All-tail, Contains-append_cases}
use Rattle.std.proofs.lemmas.Option.{slice_get-get_or, same_Some}
use Rattle.kk_syntax.specs.Programs.{FunctionTree, ProgramTree, no_function}
use Rattle.kk_syntax.specs.Types.{TypeTree, TypeTrees, int32, unit_type, type_variable, named, no_type, type, put, put_each, type_at}
use Rattle.kk_syntax.specs.Typing.{Choice, constructing, calling, holding, put_choice, Fixes, IsPrincipal, ArePrincipal}
use Rattle.kk_mono.specs.Counts.{AreTooMany}
use Rattle.kk_mono.specs.Instances.{InstanceTree, main_instance, called_at, called_in, calls, IsInstance, main_is, called_is, FirstSights, AreInstances}
use Rattle.kk_mono.proofs.Callees.{CallsAre, typing_calls}
use Rattle.kk_mono.proofs.FirstSights.{only_one}

-- types that are renamed and back are the same, with `()` in place of what remains open
module _ (count : ℕ) (s back : ℕ → TypeTree) (fixed : Fixes count s) (back_fixed : Fixes count back) (ts : List TypeTree) (few : length ts ≤ count) where
  open_variable : (x y : ℕ) → count ≤ x → back y ≡ type_variable x → type_at ts y ≡ type_at ts x
  open_variable x y open_x is = elim (cases_lt y count) [
    | inl own ↦ let same : y ≡ x = cc (back_fixed y own, is) in absurd (omega (arith, same, own, open_x))
    | inr also ↦ get_or_past ts y unit_type (omega (arith, few, also)) ∙ sym (get_or_past ts x unit_type (omega (arith, few, open_x)))
  ]

  renamed_variable : (x : ℕ) (t : TypeTree) → count ≤ x → put back t ≡ type_variable x → put (type_at ts) t ≡ type_at ts x
  renamed_variable x int32 open_x is = cc
  renamed_variable x unit_type open_x is = cc
  renamed_variable x (type_variable y) open_x is = open_variable x y open_x is
  renamed_variable x (named by arguments) open_x is = cc

  mutual
    same_type : (t : TypeTree) → put back (put s t) ≡ t → put (type_at ts) (put s t) ≡ put (type_at ts) t
    same_type int32 is = refl
    same_type unit_type is = refl
    same_type (type_variable x) is = elim (cases_lt x count) [
      | inl own ↦ ap (put (type_at ts)) (fixed x own)
      | inr open_x ↦ renamed_variable x (s x) open_x is
    ]
    same_type (named by arguments) is = ap (λ us. named by us) (same_types arguments (let e : put_each back (put_each s arguments) ≡ arguments = cc in e))

    same_types : (us : TypeTrees) → put_each back (put_each s us) ≡ us → put_each (type_at ts) (put_each s us) ≡ put_each (type_at ts) us
    same_types no_type is = refl
    same_types (type first rest) is =
        let one : put back (put s first) ≡ first = cc in
        let more : put_each back (put_each s rest) ≡ rest = cc in
        let here = same_type first one in
        let behind = same_types rest more in
        cc

  same_each : (us : List TypeTree) → map (put back) (map (put s) us) ≡ us → map (put (type_at ts)) (map (put s) us) ≡ map (put (type_at ts)) us
  same_each [] is = refl
  same_each (u ∷ us) is =
      let one : put back (put s u) ≡ u = cc in
      let more : map (put back) (map (put s) us) ≡ us = cc in
      let here = same_type u one in
      let behind = same_each us more in
      cc

  same_calls : (choices : List Choice) → map (put_choice back) (map (put_choice s) choices) ≡ choices → called_at ts (map (put_choice s) choices) ≡ called_at ts choices
  same_calls [] is = refl
  same_calls (constructing by at ∷ choices) is = same_calls choices (let e : map (put_choice back) (map (put_choice s) choices) ≡ choices = cc in e)
  same_calls (calling f at ∷ choices) is =
      let behind = same_calls choices (let e : map (put_choice back) (map (put_choice s) choices) ≡ choices = cc in e) in
      let first : calling f (map (put back) (map (put s) at)) ≡ calling f at = cc in
      let types : map (put back) (map (put s) at) ≡ at = cc in
      ap (λ us. record { function = f; at = us } ∷ called_at ts (map (put_choice s) choices)) (same_each at types) ∙ ap (λ xs. record { function = f; at = map (put (type_at ts)) at } ∷ xs) behind
  same_calls (holding of ∷ choices) is = same_calls choices (let e : map (put_choice back) (map (put_choice s) choices) ≡ choices = cc in e)

-- two principal typings of a function call the same instances
pub principal_calls : (program : ProgramTree) (function : FunctionTree) (some others : List Choice) (ts : List TypeTree) → IsPrincipal program function some → IsPrincipal program function others → length ts ≤ function.variables → called_at ts others ≡ called_at ts some
principal_calls program function some others ts one two few =
    let onward = one.each others two.typing in
    let back = two.each some one.typing in
    let round : map (put_choice back.0) (map (put_choice onward.0) some) ≡ some = sym (ap (map (put_choice back.0)) onward.2) ∙ sym back.2 in
    ap (called_at ts) onward.2 ∙ same_calls function.variables onward.0 back.0 onward.1 back.1 ts few some round

-- an instance has no more types than its function has type variables
abbrev pub Fits : ProgramTree → InstanceTree → Type 0
Fits program x = (function : FunctionTree) → slice_get program.functions x.function ≡ Some function → length x.at ≤ function.variables

-- an instance has as many types as its function has type variables
abbrev pub IsWhole : ProgramTree → InstanceTree → Type 0
IsWhole program x = (function : FunctionTree) → slice_get program.functions x.function ≡ Some function → length x.at ≡ function.variables

module _ (program : ProgramTree) where
  -- an instance that is called has as many types as its function has type variables
  pub called_whole : (ts : List TypeTree) (choices : List Choice) (fs : List ℕ) → CallsAre program choices fs → (x : InstanceTree) → Contains (called_at ts choices) x → IsWhole program x
  called_whole ts [] fs are x there = absurd (let lt = there.1 in omega (arith, lt))
  called_whole ts (constructing by at ∷ choices) fs are x there = called_whole ts choices fs are x there
  called_whole ts (calling f at ∷ choices) fs (rest, is, call, are) x there = elim (Contains-append_cases (record { function = f; at = map (put (type_at ts)) at } ∷ []) (called_at ts choices) x there) [
    | inl here ↦ subst (IsWhole program) (only_one _ x here) (λ function found.
        let same : call.function ≡ function = same_Some call.function function (sym call.is ∙ found) in
        length-map at (put (type_at ts)) ∙ (call.long ∙ ap (λ (g : FunctionTree). g.variables) same))
    | inr behind ↦ called_whole ts choices rest are x behind
  ]
  called_whole ts (holding of ∷ choices) fs are x there = called_whole ts choices fs are x there

  -- a function that is one of the program's, and its typing; or there is no typing
  pub typing_at : (typings : List (List Choice)) → ArePrincipal program typings → (f : ℕ) → f < length program.functions →
      (function : FunctionTree) × (slice_get program.functions f ≡ Some function) × IsPrincipal program function (slice_index_or typings f [])
  typing_at typings are f lt =
      let function = get_or program.functions f no_function in
      let found = slice_get-get_or program.functions f no_function lt in
      let long = are.length in
      (function, found, are.each f function (slice_index_or typings f []) found (slice_get-get_or typings f [] (omega (arith, long, lt))))

  pub no_calls : (typings : List (List Choice)) → ArePrincipal program typings → (x : InstanceTree) → length program.functions ≤ x.function → called_in typings x ≡ []
  no_calls typings are x past = let long = are.length in ap (called_at x.at) (get_or_past typings x.function [] (omega (arith, long, past)))

  pub instance_fits : (typings : List (List Choice)) → ArePrincipal program typings → (x : InstanceTree) → IsInstance program.main typings x → Fits program x
  instance_fits typings are x main_is = λ function found. omega arith
  instance_fits typings are x (called_is {caller = caller} instance called) = elim (cases_lt caller.function (length program.functions)) [
    | inl below ↦
        let at = typing_at typings are caller.function below in
        let whole = called_whole caller.at (slice_index_or typings caller.function []) (calls (at.0).body) (typing_calls program at.0 (slice_index_or typings caller.function []) at.2.typing) x called in
        λ function found. let same = whole function found in omega (arith, same)
    | inr past ↦ let none = subst (λ ys. Contains ys x) (no_calls typings are caller past) called in absurd (let lt = none.1 in omega (arith, lt))
  ]

  module _ (some others : List (List Choice)) (one : ArePrincipal program some) (two : ArePrincipal program others) where
    pub same_called : (x : InstanceTree) → Fits program x → called_in others x ≡ called_in some x
    same_called x fits = elim (cases_lt x.function (length program.functions)) [
      | inl below ↦
          let first = typing_at some one x.function below in
          let second = typing_at others two x.function below in
          let same : second.0 ≡ first.0 = same_Some second.0 first.0 (sym second.1 ∙ first.1) in
          principal_calls program first.0 (slice_index_or some x.function []) (slice_index_or others x.function []) x.at first.2 (subst (λ g. IsPrincipal program g (slice_index_or others x.function [])) same second.2) (fits first.0 first.1)
      | inr past ↦ no_calls others two x past ∙ sym (no_calls some one x past)
    ]

    pub also_instance : (x : InstanceTree) → IsInstance program.main some x → IsInstance program.main others x
    also_instance x main_is = main_is
    also_instance x (called_is {caller = caller} instance calls) = called_is (also_instance caller instance) (subst (λ ys. Contains ys x) (sym (same_called caller (instance_fits some one caller instance))) calls)

    same_flat : (xs : List InstanceTree) → All (Fits program) xs → flat_map (called_in others) xs ≡ flat_map (called_in some) xs
    same_flat [] fits = refl
    same_flat (x ∷ xs) fits =
        let here = same_called x (All-head (Fits program) x xs fits) in
        let behind = same_flat xs (All-tail (Fits program) x xs fits) in
        ap (λ ys. ys ++ flat_map (called_in others) xs) here ∙ ap (λ ys. called_in some x ++ ys) behind

module _ (program : ProgramTree) (some others : List (List Choice)) (one : ArePrincipal program some) (two : ArePrincipal program others) where
  pub also_instances : (instances : List InstanceTree) → AreInstances program.main some instances → AreInstances program.main others instances
  also_instances instances are = record {
    others = are.others;
    begins = are.begins;
    in_order = subst (λ ys. FirstSights (main_instance program.main ∷ []) ys are.others) (sym (same_flat program some others one two instances (All-weaker (IsInstance program.main some) (Fits program) (instance_fits program some one) instances are.each))) are.in_order;
    each = All-weaker (IsInstance program.main some) (IsInstance program.main others) (also_instance program some others one two) instances are.each;
    all = λ x instance. are.all x (also_instance program others some two one x instance);
  }

  pub also_too_many : (instances : List InstanceTree) → AreTooMany program.main some instances → AreTooMany program.main others instances
  also_too_many instances are = record { each = All-weaker (IsInstance program.main some) (IsInstance program.main others) (also_instance program some others one two) instances are.each; once = are.once; many = are.many }
