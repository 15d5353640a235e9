-- Lines before code before which tokens are held, or none are.
use Rattle.std.proofs.Common.{◌≡◌, ◌==◌, ◌||◌, ◌⊎◌, ℕ, List, [], ◌∷◌, Some, None, false, true, inl, inr, refl, sym, ◌∙◌, ap, subst}
use Rattle.std.specs.List.{AllByRecursion}
use Rattle.std.proofs.lemmas.Bool.{eqb-true, or_cases, false≢true, false_from_ne_true}
use Rattle.rv_isa.specs.declared.asm.Action.{Action}
use Rattle.rv_isa.specs.declared.asm.Action.TheVariants.{Compute, Call, Return, Routine, Hold, Unhold}
use Rattle.rv_isa.specs.declared.asm.Operation.TheVariants.{Li}
use Rattle.rv_isa.specs.declared.routine.Routine.{Routine as RoutineName}
use Rattle.rv_isa.specs.AsmCode.{Line}
use Rattle.rv_isa.specs.Frames.{is_among}
use Rattle.rv_isa.specs.WellFormed.{is_written, goes_straight_on, ChangesHeld, LeavesHeld, AreTokensHeld}

-- an action that holds no token, and takes none back
abbrev pub HoldsNone : Action → Type 0
HoldsNone Hold = ⊥
HoldsNone Unhold = ⊥
HoldsNone _ = Unit {0}

none_changed : (action : Action) (args : List ℕ) → HoldsNone action → ChangesHeld action args [] []
none_changed Hold args none = absurd none
none_changed Unhold args none = absurd none
none_changed action args none = (refl, λ _. refl)

-- a line of such an action, before code before which nothing is held
pub none_held_before : (line : Line) (rest : List Line) → HoldsNone line.action → AreTokensHeld [] rest → AreTokensHeld [] (line ∷ rest)
none_held_before line rest none held = ([], (none_changed line.action line.args none, (λ v there. absurd (false≢true there), held)))

-- code of such actions alone
pub none_held : (code : List Line) → AllByRecursion (λ (line : Line). HoldsNone line.action) code → AreTokensHeld [] code
none_held [] none = refl
none_held (line ∷ rest) none = none_held_before line rest none.0 (none_held rest none.1)

-- ---- code before which tokens are held

abbrev hold_line : ℕ → Line
hold_line v = record { action = Hold; args = v ∷ v ∷ []; into = None }

abbrev unhold_line : ℕ → Line
unhold_line v = record { action = Unhold; args = v ∷ []; into = Some v }

-- the value of a Hold or an Unhold is none of the others
other_value : (v : ℕ) (held : List ℕ) → is_among v held ≡ false → (u : ℕ) → is_among u held ≡ true → (v == u) ≡ false
other_value v held apart u there =
    false_from_ne_true (v == u) (λ same. false≢true (sym apart ∙ ap (λ w. is_among w held) (eqb-true v u same) ∙ there))

others_left : (v : ℕ) (held : List ℕ) → is_among v held ≡ false → (u : ℕ) → is_among u held ≡ true
    → (is_among u (v ∷ v ∷ []) ≡ false) × (is_written None u ≡ false)
others_left v held apart u there =
    let other = other_value v held apart u there in
    (ap (λ a. a || (a || false)) other, refl)

others_kept : (v : ℕ) (held : List ℕ) → is_among v held ≡ false → (u : ℕ) → is_among u held ≡ true
    → (is_among u (v ∷ []) ≡ false) × (is_written (Some v) u ≡ false)
others_kept v held apart u there =
    let other = other_value v held apart u there in
    (ap (λ a. a || false) other, other)

-- a value is held, and one is taken back
pub held_from : (v : ℕ) (held : List ℕ) (rest : List Line) → is_among v held ≡ false → AreTokensHeld (v ∷ held) rest → AreTokensHeld held (hold_line v ∷ rest)
held_from v held rest apart more = (v ∷ held, (refl, (λ u before behind. others_left v held apart u before, more)))

pub held_to : (v : ℕ) (held : List ℕ) (rest : List Line) → is_among v held ≡ false → AreTokensHeld held rest → AreTokensHeld (v ∷ held) (unhold_line v ∷ rest)
held_to v held rest apart more = (held, (refl, (λ u before behind. others_kept v held apart u behind, more)))

held_changed : (action : Action) (args held : List ℕ) → HoldsNone action → goes_straight_on action ≡ true → ChangesHeld action args held held
held_changed Hold args held none straight = absurd none
held_changed Unhold args held none straight = absurd none
held_changed action args held none straight = (refl, λ bent. absurd (false≢true (sym bent ∙ straight)))

each_among : (P : ℕ → Type 0) (values : List ℕ) (v : ℕ) → AllByRecursion P values → is_among v values ≡ true → P v
each_among P [] v all there = absurd (false≢true there)
each_among P (x ∷ xs) v all there = go (or_cases (x == v) (is_among v xs) there) (each_among P xs v all.1)
  where
    go : ((x == v) ≡ true) ⊎ (is_among v xs ≡ true) → (is_among v xs ≡ true → P v) → P v
    go (inl same) later = subst P (eqb-true x v same) all.0
    go (inr there) later = later there

-- a line that goes straight on, and neither reads nor writes what is held
pub held_over : (line : Line) (held : List ℕ) (rest : List Line) → HoldsNone line.action → goes_straight_on line.action ≡ true
    → AllByRecursion (λ v. (is_among v line.args ≡ false) × (is_written line.into v ≡ false)) held → AreTokensHeld held rest → AreTokensHeld held (line ∷ rest)
held_over line held rest none straight left more =
    let leaves : LeavesHeld line held held = λ v before behind. each_among (λ u. (is_among u line.args ≡ false) × (is_written line.into u ≡ false)) held v left before in
    (held, (held_changed line.action line.args held none straight, (leaves, more)))

-- ---- a function that holds a token over a call and over a request for a cell

abbrev line : Action → List ℕ → ℕ → Line
line action args into = record { action = action; args = args; into = Some into }

abbrev result : Line
result = record { action = Return; args = 2 ∷ []; into = None }

abbrev request : List Line
request = line (Routine RoutineName.Take) [] 2 ∷ unhold_line 0 ∷ result ∷ []

abbrev call : List Line
call = line (Call 1) [] 1 ∷ request

held_example : AreTokensHeld [] (line (Compute (Li 0)) [] 0 ∷ hold_line 0 ∷ call)
held_example =
    none_held_before (line (Compute (Li 0)) [] 0) (hold_line 0 ∷ call) tt
    (held_from 0 [] call refl
    (held_over (line (Call 1) [] 1) (0 ∷ []) request tt refl ((refl, refl), tt)
    (held_over (line (Routine RoutineName.Take) [] 2) (0 ∷ []) (unhold_line 0 ∷ result ∷ []) tt refl ((refl, refl), tt)
    (held_to 0 [] (result ∷ []) refl
    (none_held_before result [] tt refl)))))
