-- What the source still holds while its frames wait, the core machine holds too, and it holds no more: so each construction
-- finds as many places live.
use Rattle.std.proofs.Common.{◌≡◌, ◌⊎◌, inl, inr, ℕ, ◌+◌, ◌<◌, ◌≤◌, true, false, List, [], ◌∷◌, ◌++◌, map, refl, sym, ap, subst, ◌∙◌, arith}
use Rattle.kk_syntax.specs.Shapes.{free, free_all, free_rows, is_among, without}
use Rattle.kk_source.specs.State.{Value, place, Store, Environment, Frame, arguments, branches, rows, statement, call}
use Rattle.kk_source.specs.Live.{value_of, awaited, held_by_all, Among, live}
use Rattle.kk_source.proofs.Live as Places
use Rattle.kk_core.specs.Codes.{Code, case}
use Rattle.kk_core.specs.CoreStates.{Join, CallFrame}
use Rattle.kk_core.specs.CoreMachine.{needed_after, held_for, held_by_frames}
use Rattle.kk_core.specs.Needed.{needed, needed_by_arms}
use Rattle.kk_core.specs.Truths.{truth_case}
use Rattle.kk_norm.specs.Names.{Names, name_of, named}
use Rattle.kk_norm.specs.Normalized.{Then, final, next, size, size_rows, atom, atoms, after, within, joined, finish}
use Rattle.kk_norm.proofs.Bounds.{Bounds}
use Rattle.kk_norm.proofs.Variables.{or_else, Stands, AllBelow, among_left, among_right, among_split, among_head, among_without, left_over, first_among, later_among, not_alone, another}
use Rattle.kk_norm.proofs.FrameRelation.{Goal, nowhere, returns, goes_on, goal_of, Fresh, fresh_top, Waits}
use Rattle.kk_norm.proofs.NeededVariables.{IsNameOf, NeededAfter, NeededThen, needed_within, joined_needs, joined_needs_all, out_of_branch, into_branch, form_needs, form_needs_all, after_form, form_after, awaited_name, name_awaited, choice_needs, case_needs, Needs, arms_keep, end_is, after_end, only, only_all, only_rows, kept, kept_all, named_needed, named_needed_all, named_needed_rows}

-- ---- what is needed where a value goes

-- the variable of the value aside
abbrev pub NeededAside : Goal → ℕ → Type 0
NeededAside nowhere y = Unit {0}
NeededAside returns y = ⊥
NeededAside (goes_on rest x joins) y = (is_among (needed (needed_after joins) rest) y ≡ true) × (y ≡ x → ⊥)

-- below a bound
abbrev pub NeededBelow : ℕ → Goal → ℕ → Type 0
NeededBelow low nowhere y = ⊥
NeededBelow low returns y = ⊥
NeededBelow low (goes_on rest x joins) y = (is_among (needed (needed_after joins) rest) y ≡ true) × (y < low)

after_is_aside : (k : Then) (joins : List Join) (a y : ℕ) → NeededAfter (needed_after joins) k a y
    → NeededAside (goal_of k a joins) y
after_is_aside (next rest) joins a y is = is
after_is_aside (final true) [] a y is = absurd (let wrong : false ≡ true = is in cc)
after_is_aside (final true) (join ∷ joins) a y is = tt
after_is_aside (final false) [] a y is = tt
after_is_aside (final false) (join ∷ joins) a y is =
    let over = left_over (join.variable ∷ []) (needed (needed_after joins) join.rest) y is in
    (over.1, another join.variable y over.0)

below_is_after : (k : Then) (joins : List Join) (a y low n top : ℕ) → NeededBelow low (goal_of k a joins) y → low ≤ n
    → Fresh k joins n top → NeededThen (needed_after joins) k y
below_is_after (next rest) joins a y low n top is le fresh = is.0
below_is_after (final true) [] a y low n top is le fresh = absurd is
below_is_after (final true) (join ∷ joins) a y low n top is le fresh = absurd is
below_is_after (final false) [] a y low n top is le fresh = absurd is
below_is_after (final false) (join ∷ joins) a y low n top is le fresh =
    among_without (join.variable ∷ []) (needed (needed_after joins) join.rest) y
    (not_alone join.variable y (λ same. absurd (omega (arith, is.1, fresh.0)))) is.0

below_low : (k : Then) (joins : List Join) (a y low : ℕ) → NeededBelow low (goal_of k a joins) y → y < low
below_low (next rest) joins a y low is = is.1
below_low (final true) [] a y low is = absurd is
below_low (final true) (join ∷ joins) a y low is = absurd is
below_low (final false) [] a y low is = absurd is
below_low (final false) (join ∷ joins) a y low is = is.1

-- ---- places among the values of variables

-- a variable of some has a place as its value
abbrev pub Has : (ℕ → Type 0) → Environment → ℕ → Type 0
Has IsOne environment at = (y : ℕ) × IsOne y × (value_of environment y ≡ place at)

values_have : (environment : Environment) (ys : List ℕ) (at : ℕ) → Among (map (value_of environment) ys) at
    → Has (λ y. is_among ys y ≡ true) environment at
values_have environment [] at is = absurd is
values_have environment (y ∷ ys) at (inl here) = (y, first_among y ys, here)
values_have environment (y ∷ ys) at (inr there) =
    let one = values_have environment ys at there in (one.0, later_among y ys one.0 one.1, one.2)

have_values : (environment : Environment) (ys : List ℕ) (at y : ℕ) → is_among ys y ≡ true → value_of environment y ≡ place at
    → Among (map (value_of environment) ys) at
have_values environment [] at y is value = absurd (let wrong : false ≡ true = is in cc)
have_values environment (z ∷ ys) at y is value =
    or_else (among_head z ys y is) (λ same. inl (ap (value_of environment) same ∙ value))
    (λ there. inr (have_values environment ys at y there.1 value))

low_of : (bound : ℕ) (ys : List ℕ) (y : ℕ) → AllBelow bound ys → is_among ys y ≡ true → y < bound
low_of bound [] y low is = absurd (let wrong : false ≡ true = is in cc)
low_of bound (z ∷ ys) y low is =
    or_else (among_head z ys y is) (λ same. subst (λ (x : ℕ). x < bound) same low.0) (λ there. low_of bound ys y low.1 there.1)

-- what the name of a free variable has, the variable has
named_value : (names : Names) (environment core : Environment) (bound : ℕ) (xs : List ℕ) (at y : ℕ)
    → Stands names environment core bound xs → IsNameOf names xs y → value_of core y ≡ place at
    → Among (map (value_of environment) xs) at
named_value names environment core bound xs at y stands is value =
    have_values environment xs at is.0 is.1 (sym (stands is.0 is.1).0 ∙ (ap (value_of core) is.2 ∙ value))

-- what a free variable has, its name has
value_named : (names : Names) (environment core : Environment) (bound : ℕ) (xs : List ℕ) (at : ℕ)
    → Stands names environment core bound xs → Among (map (value_of environment) xs) at
    → Has (λ y. IsNameOf names xs y × (y < bound)) core at
value_named names environment core bound xs at stands is =
    let one = values_have environment xs at is in
    let there = stands one.0 one.1 in
    (name_of names one.0, ((one.0, one.1, refl), there.1), there.0 ∙ one.2)

-- ---- the frames of the source, and what waits in the core machine

-- what the core machine holds of a goal's variables and of the functions that wait
abbrev pub HeldBy : (ℕ → Type 0) → Environment → List CallFrame → ℕ → Type 0
HeldBy IsOne core frames at = Has IsOne core at ⊎ Among (held_by_frames frames) at

module _ (at : ℕ) where
  -- a value that the source computed before, and those of free variables
  front : (front middle back : List Value) → Among front at → Among ((front ++ middle) ++ back) at
  front first second back is = Places.among_front (first ++ second) back at (Places.among_front first second at is)

  middle : (front middle back : List Value) → Among middle at → Among ((front ++ middle) ++ back) at
  middle first second back is = Places.among_front (first ++ second) back at (Places.among_back first second at is)

  -- what the core machine needs beside the value that is awaited, the source holds
  pub core_held : (given : Bounds) (fs : List Frame) (goal : Goal) (core : Environment) (low high : ℕ) (frames : List CallFrame)
      → Waits given fs goal core low high frames → HeldBy (NeededAside goal) core frames at → Among (held_by_all fs) at
  core_held given (arguments form vs es environment ∷ fs) (goes_on rest a joins) core low high frames waits (inr marked) =
      Places.among_back (vs ++ map (value_of environment) (free_all es)) (held_by_all fs) at
      (core_held given fs (goal_of waits.at.k waits.m joins) core low waits.at.top frames waits.later (inr marked))
  core_held given (arguments form vs es environment ∷ fs) (goes_on rest a joins) core low high frames waits (inl is) =
      let names : Names = waits.at.names in
      let n : ℕ = waits.at.n in
      let later : List ℕ = needed_after joins in
      let y : ℕ = is.0 in
      let own : List Value = map (value_of environment) (free_all es) in
      let xs : List ℕ = waits.held ++ (a ∷ atoms names n es) in
      let last : Code = finish waits.at.k waits.m form xs in
      or_else (only_all given.constructors later names n es last rest y waits.rest_is is.1.0)
      (λ named_one. middle vs own (held_by_all fs) (named_value names environment core low
      (free_all es) at y waits.stands named_one is.2))
      (λ there. or_else (form_needs later waits.at.k waits.m form xs y there.0)
      (λ argument. or_else (among_split waits.held (a ∷ atoms names n es) y argument)
      (λ in_held. front vs own (held_by_all fs) (subst (λ (ws : List Value). Among ws at) waits.values_are
      (have_values core waits.held at y in_held is.2)))
      (λ in_rest. or_else (among_head a (atoms names n es) y in_rest) (λ same. absurd (is.1.1 (sym same)))
      (λ in_atoms. absurd (let wrong : true ≡ false = sym in_atoms.1 ∙ there.1 in cc))))
      (λ after_it. Places.among_back (vs ++ own) (held_by_all fs) at
      (core_held given fs (goal_of waits.at.k waits.m joins) core low waits.at.top frames waits.later
      (inl (y, after_is_aside waits.at.k joins waits.m y after_it, is.2)))))
  core_held given (branches positive negative environment ∷ fs) (goes_on rest a joins) core low high frames waits (inr marked) =
      Places.among_back (map (value_of environment) (free positive ++ free negative)) (held_by_all fs) at
      (core_held given fs (goal_of waits.at.k (waits.at.n + size positive + size negative) joins) core low waits.at.top frames
      waits.later (inr marked))
  core_held given (branches positive negative environment ∷ fs) (goes_on rest a joins) core low high frames waits (inl is) =
      let k : Then = waits.at.k in
      let names : Names = waits.at.names in
      let n : ℕ = waits.at.n in
      let third : ℕ = n + size positive in
      let m : ℕ = n + size positive + size negative in
      let later : List ℕ = needed_after joins in
      let inner : List ℕ = needed_within later k m in
      let y : ℕ = is.0 in
      let own : List Value = map (value_of environment) (free positive ++ free negative) in
      let own_code : Code = truth_case a waits.first waits.second in
      let need : Needs later (joined k m own_code) y = subst (λ (code : Code). Needs later code y) waits.rest_is is.1.0 in
      let onward : NeededAfter later k m y → Among (own ++ held_by_all fs) at
      = λ after_it. Places.among_back own (held_by_all fs) at
      (core_held given fs (goal_of k m joins) core low waits.at.top frames waits.later
      (inl (y, after_is_aside k joins m y after_it, is.2))) in
      let found : IsNameOf names (free positive ++ free negative) y → Among (own ++ held_by_all fs) at
      = λ named_one. Places.among_front own (held_by_all fs) at
      (named_value names environment core low (free positive ++ free negative) at y waits.stands named_one is.2) in
      or_else (choice_needs inner a waits.first waits.second y is.1.1 (joined_needs later k m own_code y need))
      (λ in_first. or_else (only given.constructors inner (within k) names n positive waits.first y waits.first_is in_first)
      (λ one. found (one.0, among_left (free positive) (free negative) one.0 one.1, one.2))
      (λ after_it. onward (out_of_branch later k m (atom names n positive) y after_it)))
      (λ others. or_else others
      (λ in_second. or_else (only given.constructors inner (within k) names third negative waits.second y waits.second_is in_second)
      (λ one. found (one.0, among_right (free positive) (free negative) one.0 one.1, one.2))
      (λ after_it. onward (out_of_branch later k m (atom names third negative) y after_it)))
      (λ ended. onward (out_of_branch later k m a y (end_is inner k a y ended))))
  core_held given (rows of environment ∷ fs) (goes_on rest a joins) core low high frames waits (inr marked) =
      Places.among_back (map (value_of environment) (free_rows of)) (held_by_all fs) at
      (core_held given fs (goal_of waits.at.k (waits.at.n + size_rows of) joins) core low waits.at.top frames waits.later
      (inr marked))
  core_held given (rows of environment ∷ fs) (goes_on rest a joins) core low high frames waits (inl is) =
      let k : Then = waits.at.k in
      let names : Names = waits.at.names in
      let n : ℕ = waits.at.n in
      let m : ℕ = n + size_rows of in
      let later : List ℕ = needed_after joins in
      let y : ℕ = is.0 in
      let own : List Value = map (value_of environment) (free_rows of) in
      let need : Needs later (joined k m (case a waits.decisions waits.arms)) y
      = subst (λ (code : Code). Needs later code y) waits.rest_is is.1.0 in
      or_else (case_needs later k names a m of waits.decisions waits.arms y
      (λ inner need_arms. only_rows given.constructors inner k names a n of waits.arms y waits.arms_are is.1.1 need_arms) is.1.1
      need)
      (λ named_one. Places.among_front own (held_by_all fs) at
      (named_value names environment core low (free_rows of) at y waits.stands named_one is.2))
      (λ after_it. Places.among_back own (held_by_all fs) at
      (core_held given fs (goal_of k m joins) core low waits.at.top frames waits.later
      (inl (y, after_is_aside k joins m y after_it, is.2))))
  core_held given (statement w e environment ∷ fs) (goes_on rest a joins) core low high frames waits (inr marked) =
      Places.among_back (map (value_of environment) (without (awaited w) (free e))) (held_by_all fs) at
      (core_held given fs (goal_of waits.at.k (atom (named w a waits.at.names) waits.at.n e) joins) core low waits.at.top frames
      waits.later (inr marked))
  core_held given (statement w e environment ∷ fs) (goes_on rest a joins) core low high frames waits (inl is) =
      let k : Then = waits.at.k in
      let bound : Names = named w a waits.at.names in
      let n : ℕ = waits.at.n in
      let later : List ℕ = needed_after joins in
      let y : ℕ = is.0 in
      let left : List ℕ = without (awaited w) (free e) in
      let own : List Value = map (value_of environment) left in
      or_else (only given.constructors later k bound n e rest y waits.rest_is is.1.0)
      (λ named_one. Places.among_front own (held_by_all fs) at
      (named_value waits.at.names environment core low left at y waits.stands
      (awaited_name w waits.at.names a (free e) y is.1.1 named_one) is.2))
      (λ after_it. Places.among_back own (held_by_all fs) at
      (core_held given fs (goal_of k (atom bound n e) joins) core low waits.at.top frames waits.later
      (inl (y, after_is_aside k joins (atom bound n e) y after_it, is.2))))
  core_held given (call lent ∷ fs) returns core low high [] waits (inl is) = absurd is.1
  core_held given (call lent ∷ fs) returns core low high [] waits (inr marked) = absurd marked
  core_held given (call lent ∷ fs) returns core low high (frame ∷ frames) waits (inl is) = absurd is.1
  core_held given (call lent ∷ fs) returns core low high (frame ∷ frames) waits (inr marked) =
      let later : List ℕ = needed_after frame.joins in
      let x : ℕ = frame.variable in
      let own : List Value = held_for x frame.rest frame.joins frame.environment in
      let onward : HeldBy (NeededAside (goal_of waits.k x frame.joins)) frame.environment frames at
      → Among (lent ++ held_by_all fs) at = λ held_one. Places.among_back lent (held_by_all fs) at
      (core_held given fs (goal_of waits.k x frame.joins) frame.environment waits.low waits.top frames waits.later held_one) in
      or_else (Places.among_split (own ++ frame.lent) (held_by_frames frames) at marked)
      (λ here. or_else (Places.among_split own frame.lent at here)
      (λ in_own. let one = values_have frame.environment (without (x ∷ []) (needed later frame.rest)) at in_own in
      onward (inl (
        one.0,
        after_is_aside waits.k frame.joins x one.0
            (after_form later waits.k x one.0 (subst (λ (code : Code). is_among (without (x ∷ []) (needed later code)) one.0 ≡ true)
            waits.rest_is one.1)),
        one.2,
      )))
      (λ in_lent. Places.among_front lent (held_by_all fs) at (subst (λ (vs : List Value). Among vs at) waits.lent_is in_lent)))
      (λ there. onward (inr there))
  core_held given [] goal core low high frames waits held_one = absurd waits
  core_held given (arguments form vs es environment ∷ fs) returns core low high frames waits held_one = absurd waits
  core_held given (arguments form vs es environment ∷ fs) nowhere core low high frames waits held_one = absurd waits
  core_held given (branches positive negative environment ∷ fs) returns core low high frames waits held_one = absurd waits
  core_held given (branches positive negative environment ∷ fs) nowhere core low high frames waits held_one = absurd waits
  core_held given (statement w e environment ∷ fs) returns core low high frames waits held_one = absurd waits
  core_held given (statement w e environment ∷ fs) nowhere core low high frames waits held_one = absurd waits
  core_held given (call lent ∷ fs) nowhere core low high frames waits held_one = absurd waits
  core_held given (call lent ∷ fs) (goes_on rest a joins) core low high frames waits held_one = absurd waits
  core_held given (rows of environment ∷ fs) returns core low high frames waits held_one = absurd waits
  core_held given (rows of environment ∷ fs) nowhere core low high frames waits held_one = absurd waits

  -- what the source holds, the core machine needs, in a variable that is there already
  pub source_held : (given : Bounds) (fs : List Frame) (goal : Goal) (core : Environment) (low high : ℕ) (frames : List CallFrame)
      → low ≤ high → Waits given fs goal core low high frames → Among (held_by_all fs) at
      → HeldBy (NeededBelow low goal) core frames at
  source_held given (arguments form vs es environment ∷ fs) (goes_on rest a joins) core low high frames le waits is =
      let k : Then = waits.at.k in
      let names : Names = waits.at.names in
      let n : ℕ = waits.at.n in
      let m : ℕ = waits.m in
      let later : List ℕ = needed_after joins in
      let own : List Value = map (value_of environment) (free_all es) in
      let others : List ℕ = a ∷ atoms names n es in
      let xs : List ℕ = waits.held ++ others in
      let last : Code = finish k m form xs in
      let needs : (y : ℕ) → y < low → Needs later rest y → value_of core y ≡ place at
      → HeldBy (NeededBelow low (goes_on rest a joins)) core frames at
      = λ y below need value. inl (y, (need, below), value) in
      or_else (Places.among_split (vs ++ own) (held_by_all fs) at is)
      (λ here. or_else (Places.among_split vs own at here)
      (λ in_values. let one = values_have core waits.held at
      (subst (λ (ws : List Value). Among ws at) (sym waits.values_are) in_values) in
      let below : one.0 < low = low_of low waits.held one.0 waits.held_low one.1 in
      needs one.0 below (kept_all given.constructors later names n es last rest one.0 waits.rest_is
      (form_needs_all later k m form xs one.0 (inl (among_left waits.held others one.0 one.1))) (omega (arith, waits.from))) one.2)
      (λ in_free. let one = value_named names environment core low (free_all es) at waits.stands in_free in
      needs one.0 one.1.1 (named_needed_all given.constructors later names n es last rest one.0 waits.rest_is one.1.0
      (omega (arith, one.1.1, waits.from))) one.2))
      (λ there. or_else (source_held given fs (goal_of k m joins) core low waits.at.top frames
      (omega (arith, waits.from, waits.number_is, fresh_top k joins (m + 1) waits.at.top waits.fresh)) waits.later there)
      (λ one. let below : one.0 < low = below_low k joins m one.0 low one.1 in
      needs one.0 below (kept_all given.constructors later names n es last rest one.0 waits.rest_is
      (form_needs_all later k m form xs one.0 (inr (
        below_is_after k joins m one.0 low (m + 1) waits.at.top one.1
            (omega (arith, waits.from, waits.number_is)) waits.fresh,
        λ same. absurd (omega (arith, waits.from, waits.number_is)),
      )))
      (omega (arith, waits.from))) one.2)
      (λ marked. inr marked))
  source_held given (branches positive negative environment ∷ fs) (goes_on rest a joins) core low high frames le waits is =
      let k : Then = waits.at.k in
      let names : Names = waits.at.names in
      let n : ℕ = waits.at.n in
      let m : ℕ = n + size positive + size negative in
      let later : List ℕ = needed_after joins in
      let inner : List ℕ = needed_within later k m in
      let own : List Value = map (value_of environment) (free positive ++ free negative) in
      let first_code : Code = waits.first in
      let second_code : Code = waits.second in
      let choice : Code = truth_case a first_code second_code in
      let needs : (y : ℕ) → y < low → (is_among (needed inner first_code) y ≡ true) ⊎
      (is_among (needed inner second_code) y ≡ true) → value_of core y ≡ place at
      → HeldBy (NeededBelow low (goes_on rest a joins)) core frames at
      = λ y below need value. inl (
        y,
        (
          subst (λ (code : Code). is_among (needed later code) y ≡ true) (sym waits.rest_is)
              (joined_needs_all later k m choice y (later_among a (needed inner first_code ++ (needed inner second_code ++ inner)) y
              (or_else need (λ here. among_left (needed inner first_code) (needed inner second_code ++ inner) y here)
              (λ there. among_right (needed inner first_code) (needed inner second_code ++ inner) y
              (among_left (needed inner second_code) inner y there))))),
          below,
        ),
        value,
      ) in
      or_else (Places.among_split own (held_by_all fs) at is)
      (λ in_free. let one = value_named names environment core low (free positive ++ free negative) at waits.stands in_free in
      let named_one : IsNameOf names (free positive ++ free negative) one.0 = one.1.0 in
      needs one.0 one.1.1 (or_else (among_split (free positive) (free negative) named_one.0 named_one.1)
      (λ here. inl (named_needed given.constructors inner (within k) names n positive first_code one.0 waits.first_is
      (named_one.0, here, named_one.2) (omega (arith, one.1.1, waits.from))))
      (λ there. inr (named_needed given.constructors inner (within k) names (n + size positive) negative second_code one.0 waits.second_is
      (named_one.0, there, named_one.2) (omega (arith, one.1.1, waits.from))))) one.2)
      (λ there. or_else (source_held given fs (goal_of k m joins) core low waits.at.top frames
      (omega (arith, waits.from, fresh_top k joins (m + 1) waits.at.top waits.fresh)) waits.later there)
      (λ one. let below : one.0 < low = below_low k joins m one.0 low one.1 in
      needs one.0 below (inl (kept given.constructors inner (within k) names n positive first_code one.0 waits.first_is
      (into_branch later k m one.0 (below_is_after k joins m one.0 low (m + 1) waits.at.top one.1
      (omega (arith, waits.from)) waits.fresh) (λ same. absurd (omega (arith, waits.from)))) (omega (arith, waits.from)))) one.2)
      (λ marked. inr marked))
  source_held given (rows of environment ∷ fs) (goes_on rest a joins) core low high frames le waits is =
      let k : Then = waits.at.k in
      let names : Names = waits.at.names in
      let n : ℕ = waits.at.n in
      let m : ℕ = n + size_rows of in
      let later : List ℕ = needed_after joins in
      let inner : List ℕ = needed_within later k m in
      let own : List Value = map (value_of environment) (free_rows of) in
      let own_code : Code = case a waits.decisions waits.arms in
      let needs : (y : ℕ) → y < low → is_among (needed_by_arms inner waits.arms) y ≡ true → value_of core y ≡ place at
      → HeldBy (NeededBelow low (goes_on rest a joins)) core frames at
      = λ y below need value. inl (
        y,
        (
          subst (λ (code : Code). Needs later code y) (sym waits.rest_is)
              (joined_needs_all later k m own_code y (later_among a (needed_by_arms inner waits.arms) y need)),
          below,
        ),
        value,
      ) in
      or_else (Places.among_split own (held_by_all fs) at is)
      (λ in_free. let one = value_named names environment core low (free_rows of) at waits.stands in_free in
      needs one.0 one.1.1 (named_needed_rows given.constructors inner k names a n of waits.arms one.0 waits.arms_are one.1.0
      (omega (arith, one.1.1, waits.from))) one.2)
      (λ there. or_else (source_held given fs (goal_of k m joins) core low waits.at.top frames
      (omega (arith, waits.from, fresh_top k joins (m + 1) waits.at.top waits.fresh)) waits.later there)
      (λ one. let below : one.0 < low = below_low k joins m one.0 low one.1 in
      needs one.0 below (arms_keep given.constructors inner (within k) names a n of waits.arms one.0 waits.arms_are
      (after_end inner k one.0 (into_branch later k m one.0
      (below_is_after k joins m one.0 low (m + 1) waits.at.top one.1 (omega (arith, waits.from)) waits.fresh)
      (λ same. absurd (omega (arith, waits.from)))))) one.2)
      (λ marked. inr marked))
  source_held given (statement w e environment ∷ fs) (goes_on rest a joins) core low high frames le waits is =
      let k : Then = waits.at.k in
      let bound : Names = named w a waits.at.names in
      let n : ℕ = waits.at.n in
      let later : List ℕ = needed_after joins in
      let left : List ℕ = without (awaited w) (free e) in
      let own : List Value = map (value_of environment) left in
      let needs : (y : ℕ) → y < low → Needs later rest y → value_of core y ≡ place at
      → HeldBy (NeededBelow low (goes_on rest a joins)) core frames at
      = λ y below need value. inl (y, (need, below), value) in
      or_else (Places.among_split own (held_by_all fs) at is)
      (λ in_free. let one = value_named waits.at.names environment core low left at waits.stands in_free in
      needs one.0 one.1.1 (named_needed given.constructors later k bound n e rest one.0 waits.rest_is
      (name_awaited w waits.at.names a (free e) one.0 one.1.0) (omega (arith, one.1.1, waits.from))) one.2)
      (λ there. or_else (source_held given fs (goal_of k (atom bound n e) joins) core low waits.at.top frames
      (omega (arith, waits.from, fresh_top k joins (n + size e) waits.at.top waits.fresh)) waits.later there)
      (λ one. let below : one.0 < low = below_low k joins (atom bound n e) one.0 low one.1 in
      needs one.0 below (kept given.constructors later k bound n e rest one.0 waits.rest_is
      (below_is_after k joins (atom bound n e) one.0 low (n + size e) waits.at.top one.1 (omega (arith, waits.from)) waits.fresh)
      (omega (arith, waits.from))) one.2)
      (λ marked. inr marked))
  source_held given (call lent ∷ fs) returns core low high [] le waits is =
      absurd (subst (λ (vs : List Value). Among vs at) waits.1 (none_older lent fs waits.0 is))
    where
      none_older : (vs : List Value) (fs : List Frame) → fs ≡ [] → Among (vs ++ held_by_all fs) at → Among vs at
      none_older vs fs none is =
          or_else (Places.among_split vs (held_by_all fs) at is) (λ here. here)
          (λ there. absurd (subst (λ (gs : List Frame). Among (held_by_all gs) at) none there))
  source_held given (call lent ∷ fs) returns core low high (frame ∷ frames) le waits is =
      let k : Then = waits.k in
      let later : List ℕ = needed_after frame.joins in
      let x : ℕ = frame.variable in
      let own : List Value = held_for x frame.rest frame.joins frame.environment in
      or_else (Places.among_split lent (held_by_all fs) at is)
      (λ here. inr (Places.among_front (own ++ frame.lent) (held_by_frames frames) at
      (Places.among_back own frame.lent at (subst (λ (vs : List Value). Among vs at) (sym waits.lent_is) here))))
      (λ there. or_else (source_held given fs (goal_of k x frame.joins) frame.environment waits.low waits.top frames
      (omega (arith, waits.from, fresh_top k frame.joins (x + 1) waits.top waits.fresh)) waits.later there)
      (λ one. let below : one.0 < waits.low = below_low k frame.joins x one.0 waits.low one.1 in
      let need : is_among (without (x ∷ []) (needed later (after k x))) one.0 ≡ true
      = form_after later k x one.0 (below_is_after k frame.joins x one.0 waits.low (x + 1) waits.top one.1
      (omega (arith, waits.from)) waits.fresh) (λ same. absurd (omega (arith, waits.from))) in
      inr (Places.among_front (own ++ frame.lent) (held_by_frames frames) at (Places.among_front own frame.lent at
      (have_values frame.environment (without (x ∷ []) (needed later frame.rest)) at one.0
      (subst (λ (code : Code). is_among (without (x ∷ []) (needed later code)) one.0 ≡ true) (sym waits.rest_is) need) one.2))))
      (λ marked. inr (Places.among_back (own ++ frame.lent) (held_by_frames frames) at marked)))
  source_held given [] goal core low high frames le waits is = absurd waits
  source_held given (arguments form vs es environment ∷ fs) returns core low high frames le waits is = absurd waits
  source_held given (arguments form vs es environment ∷ fs) nowhere core low high frames le waits is = absurd waits
  source_held given (branches positive negative environment ∷ fs) returns core low high frames le waits is = absurd waits
  source_held given (branches positive negative environment ∷ fs) nowhere core low high frames le waits is = absurd waits
  source_held given (statement w e environment ∷ fs) returns core low high frames le waits is = absurd waits
  source_held given (statement w e environment ∷ fs) nowhere core low high frames le waits is = absurd waits
  source_held given (call lent ∷ fs) nowhere core low high frames le waits is = absurd waits
  source_held given (call lent ∷ fs) (goes_on rest a joins) core low high frames le waits is = absurd waits
  source_held given (rows of environment ∷ fs) returns core low high frames le waits is = absurd waits
  source_held given (rows of environment ∷ fs) nowhere core low high frames le waits is = absurd waits

-- Where a value of variable m is to come, from m on, as many places are live in the source and in the core machine.
pub live_the_same : (given : Bounds) (k : Then) (m low top : ℕ) (core : Environment) (joins : List Join) (frames : List CallFrame)
    (fs : List Frame) (store : Store) (vs : List Value)
    → low ≤ m → Fresh k joins (m + 1) top → Waits given fs (goal_of k m joins) core low top frames
    → live store (vs ++ held_by_all fs) ≡ live store (vs ++ (held_for m (after k m) joins core ++ held_by_frames frames))
live_the_same given k m low top core joins frames fs store vs le fresh waits =
    Places.live_alike store (vs ++ held_by_all fs) (vs ++ (own ++ held_by_frames frames))
    (λ at is. or_else (Places.among_split vs (held_by_all fs) at is)
    (λ here. Places.among_front vs (own ++ held_by_frames frames) at here)
    (λ there. Places.among_back vs (own ++ held_by_frames frames) at
    (to_core at (source_held at given fs (goal_of k m joins) core low top frames
    (omega (arith, fresh_top k joins (m + 1) top fresh)) waits there))))
    (λ at is. or_else (Places.among_split vs (own ++ held_by_frames frames) at is)
    (λ here. Places.among_front vs (held_by_all fs) at here)
    (λ there. Places.among_back vs (held_by_all fs) at
    (core_held at given fs (goal_of k m joins) core low top frames waits (of_core at there))))
  where
    later : List ℕ
    later = needed_after joins

    own : List Value
    own = held_for m (after k m) joins core

    to_core : (at : ℕ) → HeldBy (NeededBelow low (goal_of k m joins)) core frames at → Among (own ++ held_by_frames frames) at
    to_core at (inl one) =
        let below : one.0 < low = below_low k joins m one.0 low one.1 in
        Places.among_front own (held_by_frames frames) at
        (have_values core (without (m ∷ []) (needed later (after k m))) at one.0
        (form_after later k m one.0 (below_is_after k joins m one.0 low (m + 1) top one.1 (omega arith) fresh)
        (λ same. absurd (omega arith))) one.2)
    to_core at (inr marked) = Places.among_back own (held_by_frames frames) at marked

    of_core : (at : ℕ) → Among (own ++ held_by_frames frames) at → HeldBy (NeededAside (goal_of k m joins)) core frames at
    of_core at is =
        or_else (Places.among_split own (held_by_frames frames) at is)
        (λ here. let one = values_have core (without (m ∷ []) (needed later (after k m))) at here in inl
        (one.0, after_is_aside k joins m one.0 (after_form later k m one.0 one.1), one.2))
        (λ there. inr there)
