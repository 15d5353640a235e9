-- Equality of types is decided, and of instances. So the search goes on as far as is wanted: either it ends with all
-- instances, or more than are allowed are known.
use Rattle.std.proofs.Common.{◌≡◌, ◌⊎◌, ℕ, zero, suc, ◌+◌, ◌<◌, ◌≤◌, List, [], ◌∷◌, ◌++◌, length, get_or, Contains, refl, ap, subst, inl, inr, arith}
use Rattle.std.proofs.lemmas.Bool.{cases_lt, cases_eq}
use Rattle.std.proofs.lemmas.List.{get_or_default}
use Rattle.std.proofs.lemmas.List.Elements.{Contains-append_cases, Contains-append_left, Contains-append_right, Contains-get_or}
use Rattle.kk_base.specs.Limits.{greatest_of}
use Rattle.kk_base.specs.declared.limit.LimitKind.TheVariants.{Instances}
use Rattle.kk_syntax.specs.Types.{TypeTree, TypeTrees, int32, unit_type, type_variable, named, no_type, type}
use Rattle.kk_syntax.specs.Typing.{Choice}
use Rattle.kk_mono.specs.Counts.{AreTooMany}
use Rattle.kk_mono.specs.Instances.{InstanceTree, main_instance, called_in, FirstSights, none_left, again, new_one, AreInstances}
use Rattle.kk_mono.specs.InstanceSearch.{Searched}
use Rattle.kk_mono.proofs.InstanceSearch.{search_starts, search_steps, search_ends, search_passes}
use Rattle.kk_mono.proofs.FirstSights.{only_one}

abbrev Decided : {A : Type 0} → A → A → Type 0
Decided a b = (a ≡ b) ⊎ (a ≡ b → ⊥)

mutual
  type_decided : (a b : TypeTree) → Decided a b
  type_decided int32 int32 = inl refl
  type_decided int32 unit_type = inr (λ e. cc)
  type_decided int32 (type_variable y) = inr (λ e. cc)
  type_decided int32 (named by arguments) = inr (λ e. cc)
  type_decided unit_type int32 = inr (λ e. cc)
  type_decided unit_type unit_type = inl refl
  type_decided unit_type (type_variable y) = inr (λ e. cc)
  type_decided unit_type (named by arguments) = inr (λ e. cc)
  type_decided (type_variable x) int32 = inr (λ e. cc)
  type_decided (type_variable x) unit_type = inr (λ e. cc)
  type_decided (type_variable x) (type_variable y) = elim (cases_eq x y) [ inl same ↦ inl (ap type_variable same) | inr other ↦ inr (λ e. other (cc)) ]
  type_decided (type_variable x) (named by arguments) = inr (λ e. cc)
  type_decided (named by arguments) int32 = inr (λ e. cc)
  type_decided (named by arguments) unit_type = inr (λ e. cc)
  type_decided (named by arguments) (type_variable y) = inr (λ e. cc)
  type_decided (named by arguments) (named other others) = elim (cases_eq by other) [
    | inl same ↦ elim (types_decided arguments others) [ inl also ↦ inl (cc) | inr differ ↦ inr (λ e. differ (cc)) ]
    | inr differ ↦ inr (λ e. differ (cc))
  ]

  types_decided : (ones others : TypeTrees) → Decided ones others
  types_decided no_type no_type = inl refl
  types_decided no_type (type other others) = inr (λ e. cc)
  types_decided (type one ones) no_type = inr (λ e. cc)
  types_decided (type one ones) (type other others) = elim (type_decided one other) [
    | inl same ↦ elim (types_decided ones others) [ inl also ↦ inl (cc) | inr differ ↦ inr (λ e. differ (cc)) ]
    | inr differ ↦ inr (λ e. differ (cc))
  ]

list_decided : (ones others : List TypeTree) → Decided ones others
list_decided [] [] = inl refl
list_decided [] (other ∷ others) = inr (λ e. cc)
list_decided (one ∷ ones) [] = inr (λ e. cc)
list_decided (one ∷ ones) (other ∷ others) = elim (type_decided one other) [
  | inl same ↦ elim (list_decided ones others) [ inl also ↦ inl (cc) | inr differ ↦ inr (λ e. differ (cc)) ]
  | inr differ ↦ inr (λ e. differ (cc))
]

instance_decided : (a b : InstanceTree) → Decided a b
instance_decided a b = elim (cases_eq a.function b.function) [
  | inl same ↦ elim (list_decided a.at b.at) [
    | inl also ↦ inl (λ i. record { function = same i; at = also i })
    | inr differ ↦ inr (λ e. differ (ap (λ (x : InstanceTree). x.at) e))
  ]
  | inr differ ↦ inr (λ e. differ (ap (λ (x : InstanceTree). x.function) e))
]

seen_decided : (xs : List InstanceTree) (x : InstanceTree) → Contains xs x ⊎ (Contains xs x → ⊥)
seen_decided [] x = inr (λ there. let lt = there.1 in omega (arith, lt))
seen_decided (y ∷ ys) x = elim (instance_decided y x) [
  | inl same ↦ inl (subst (λ z. Contains (y ∷ ys) z) same (Contains-append_left (y ∷ []) ys y (Contains-get_or (y ∷ []) 0 y (omega arith))))
  | inr other ↦ elim (seen_decided ys x) [
    | inl there ↦ inl (Contains-append_right (y ∷ []) ys x there)
    | inr absent ↦ inr (λ there. elim (Contains-append_cases (y ∷ []) ys x there) [ inl here ↦ other (only_one y x here) | inr behind ↦ absent behind ])
  ]
]

sights_of : (seen xs : List InstanceTree) → (new : List InstanceTree) × FirstSights seen xs new
sights_of seen [] = ([], none_left)
sights_of seen (x ∷ xs) = elim (seen_decided seen x) [
  | inl there ↦ let rest = sights_of seen xs in (rest.0, again there rest.1)
  | inr absent ↦ let rest = sights_of (seen ++ x ∷ []) xs in (x ∷ rest.0, new_one absent rest.1)
]

module _ (main : ℕ) (typings : List (List Choice)) where
  -- all instances, or so many that are known
  searched : (n : ℕ) → ((all : List InstanceTree) × AreInstances main typings all × (length all ≤ n)) ⊎ ((known : List InstanceTree) × Searched main typings known n × (n < length known))
  searched zero = inr (main_instance main ∷ [], search_starts main typings, omega arith)
  searched (suc n) = elim (searched n) [
    | inl done ↦ inl (done.0, done.1, (let few = done.2 in omega (arith, few)))
    | inr more ↦ step more.0 more.1 more.2
  ]
    where
      step : (known : List InstanceTree) → Searched main typings known n → n < length known → ((all : List InstanceTree) × AreInstances main typings all × (length all ≤ suc n)) ⊎ ((known : List InstanceTree) × Searched main typings known (suc n) × (suc n < length known))
      step known so_far lt =
          let next = get_or known n (main_instance main) in
          let sights = sights_of known (called_in typings next) in
          let more : n + 1 ≡ suc n = omega arith in
          let after : Searched main typings (known ++ sights.0) (suc n) = subst (λ k. Searched main typings (known ++ sights.0) k) more (search_steps main typings known sights.0 n next so_far lt (get_or_default known n next (main_instance main) lt) sights.1) in
          elim (cases_lt (suc n) (length (known ++ sights.0))) [
            | inl below ↦ inr (known ++ sights.0, after, below)
            | inr past ↦ inl (known ++ sights.0, search_ends main typings (known ++ sights.0) (suc n) after past, past)
          ]

  -- the instances are at most as many as are allowed, or more are known
  pub counted : ((all : List InstanceTree) × AreInstances main typings all × (length all ≤ greatest_of Instances)) ⊎ ((known : List InstanceTree) × AreTooMany main typings known)
  counted = elim (searched (greatest_of Instances)) [
    | inl done ↦ inl done
    | inr more ↦ inr (more.0, search_passes main typings more.0 (greatest_of Instances) more.1 more.2)
  ]
