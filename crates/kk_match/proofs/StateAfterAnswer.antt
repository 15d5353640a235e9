-- What is left of a state once a position's answer is known.
use Rattle.std.proofs.Common.{◌≡◌, ℕ, ◌+◌, ◌<◌, ◌≤◌, Bool, true, false, nat_eq, Option, None, Some, option_map, List, [], ◌∷◌, length, refl, sym, ap, ◌∙◌, subst, arith, zero-add}
use Rattle.std.specs.Prelude.{if◌then◌else◌}
use lib.Pointwise.{pointwise, bytes_decides}
use Rattle.kk_core.specs.declared.decisions.Answer.{Answer}
use Rattle.kk_match.specs.Parts.{Part}
use Rattle.kk_match.specs.Graphs.{StateTree, agrees, left_after, kept_line, after, first_of, test_of, weight, parts_at, weight_at}

-- the rows of a state are below a number, and so is the row that it chooses where it has none
abbrev pub AreBelow : ℕ → StateTree → Type 0
AreBelow rows [] = 0 < rows
AreBelow rows (line ∷ lines) = (line.row < rows) × AreBelow rows lines

-- rows stay below a number
kept_below : (rows row : ℕ) (left : Option (List Part)) (rest : StateTree) → row < rows → AreBelow rows rest → AreBelow rows (kept_line row left rest)
kept_below rows row None rest here below = below
kept_below rows row (Some left) rest here below = (here, below)

pub after_below : (rows : ℕ) (at : List ℕ) (outcome : Option Answer) (state : StateTree) → AreBelow rows state → AreBelow rows (after at outcome state)
after_below rows at outcome [] below = below
after_below rows at outcome (line ∷ lines) below = kept_below rows line.row (left_after at outcome line.left) (after at outcome lines) below.0 (after_below rows at outcome lines below.1)

abbrev kept_length : Option (List Part) → ℕ
kept_length None = 0
kept_length (Some left) = length left

kept_weight : (row : ℕ) (left : Option (List Part)) (rest : StateTree) → weight (kept_line row left rest) ≡ kept_length left + weight rest
kept_weight row None rest = sym (zero-add (weight rest))
kept_weight row (Some left) rest = refl

put_length : (q : Part) (left : Option (List Part)) → kept_length (option_map (λ rest. q ∷ rest) left) ≤ kept_length left + 1
put_length q None = omega arith
put_length q (Some left) = omega arith

shorter : (at : List ℕ) (outcome : Option Answer) (qs : List Part) → kept_length (left_after at outcome qs) ≤ length qs
shorter at outcome [] = omega arith
shorter at outcome (q ∷ qs) = by (pointwise nat_eq q.at at) (agrees outcome q.asked) (shorter at outcome qs)
  where
    by : (here agreed : Bool) → kept_length (left_after at outcome qs) ≤ length qs
        → kept_length (if here then (if agreed then left_after at outcome qs else None) else option_map (λ rest. q ∷ rest) (left_after at outcome qs)) ≤ length (q ∷ qs)
    by true true less = omega arith
    by true false less = omega arith
    by false agreed less = let put = put_length q (left_after at outcome qs) in omega (arith, put, less)

pub not_heavier : (at : List ℕ) (outcome : Option Answer) (state : StateTree) → weight (after at outcome state) ≤ weight state
not_heavier at outcome [] = omega arith
not_heavier at outcome (line ∷ lines) =
    let here = shorter at outcome line.left in
    let behind = not_heavier at outcome lines in
    let is = kept_weight line.row (left_after at outcome line.left) (after at outcome lines) in
    omega (arith, here, behind, is)

same_at : (at : List ℕ) → pointwise nat_eq at at ≡ true
same_at at = (bytes_decides at at).1 refl

-- the first part is left no more
first_shorter : (p : Part) (ps : List Part) (outcome : Option Answer) → kept_length (left_after p.at outcome (p ∷ ps)) ≤ length ps
first_shorter p ps outcome =
    let F : Bool → Type 0 = λ here. kept_length (if here then (if agrees outcome p.asked then left_after p.at outcome ps else None) else option_map (λ rest. p ∷ rest) (left_after p.at outcome ps)) ≤ length ps in
    subst F (sym (same_at p.at)) (by (agrees outcome p.asked) (shorter p.at outcome ps))
  where
    by : (agreed : Bool) → kept_length (left_after p.at outcome ps) ≤ length ps → kept_length (if agreed then left_after p.at outcome ps else None) ≤ length ps
    by true less = less
    by false less = omega arith

lighter_line : (row : ℕ) (left : List Part) (lines : StateTree) (q : Part) (outcome : Option Answer) → first_of left ≡ Some q
    → weight (kept_line row (left_after q.at outcome left) (after q.at outcome lines)) < length left + weight lines
lighter_line row [] lines q outcome is = cc
lighter_line row (p ∷ ps) lines q outcome is =
    let same : p ≡ q = cc in
    let here = first_shorter p ps outcome in
    let behind = not_heavier p.at outcome lines in
    let kept = kept_weight row (left_after p.at outcome (p ∷ ps)) (after p.at outcome lines) in
    let F : Part → Type 0 = λ r. weight (kept_line row (left_after r.at outcome (p ∷ ps)) (after r.at outcome lines)) < length (p ∷ ps) + weight lines in
    subst F same (omega (arith, here, behind, kept))

-- a test makes a state lighter
pub lighter : (state : StateTree) (q : Part) (outcome : Option Answer) → test_of state ≡ Some q → weight (after q.at outcome state) < weight state
lighter [] q outcome is = cc
lighter (line ∷ lines) q outcome is = lighter_line line.row line.left lines q outcome is

-- the parts at the position are left no more
parts_lighter : (at : List ℕ) (outcome : Option Answer) (qs : List Part) → parts_at at qs + kept_length (left_after at outcome qs) ≤ length qs
parts_lighter at outcome [] = omega arith
parts_lighter at outcome (q ∷ qs) = by (pointwise nat_eq q.at at) (agrees outcome q.asked) (parts_lighter at outcome qs)
  where
    by : (here agreed : Bool) → parts_at at qs + kept_length (left_after at outcome qs) ≤ length qs
        → (if here then 1 else 0) + parts_at at qs
        + kept_length (if here then (if agreed then left_after at outcome qs else None) else option_map (λ rest. q ∷ rest) (left_after at outcome qs)) ≤ length (q ∷ qs)
    by true true less = omega arith
    by true false less = omega arith
    by false agreed less = let put = put_length q (left_after at outcome qs) in omega (arith, put, less)

pub lighter_by : (at : List ℕ) (outcome : Option Answer) (state : StateTree) → weight_at at state + weight (after at outcome state) ≤ weight state
lighter_by at outcome [] = omega arith
lighter_by at outcome (line ∷ lines) =
    let here = parts_lighter at outcome line.left in
    let behind = lighter_by at outcome lines in
    let is = kept_weight line.row (left_after at outcome line.left) (after at outcome lines) in
    omega (arith, here, behind, is)

-- ---- outcomes that nothing at a position agrees with leave the same

abbrev pub LacksIn : List ℕ → Option Answer → List Part → Type 0
LacksIn at outcome [] = Unit {0}
LacksIn at outcome (q ∷ qs) = (q.at ≡ at → agrees outcome q.asked ≡ false) × LacksIn at outcome qs

abbrev pub Lacks : List ℕ → Option Answer → StateTree → Type 0
Lacks at outcome [] = Unit {0}
Lacks at outcome (line ∷ lines) = LacksIn at outcome line.left × Lacks at outcome lines

left_same : (at : List ℕ) (one other : Option Answer) (qs : List Part) → LacksIn at one qs → LacksIn at other qs → left_after at one qs ≡ left_after at other qs
left_same at one other [] first second = refl
left_same at one other (q ∷ qs) first second =
    by (pointwise nat_eq q.at at)
    (λ here. first.0 ((bytes_decides q.at at).0 here))
    (λ here. second.0 ((bytes_decides q.at at).0 here))
    (left_same at one other qs first.1 second.1)
  where
    by : (here : Bool) → (here ≡ true → agrees one q.asked ≡ false) → (here ≡ true → agrees other q.asked ≡ false) → left_after at one qs ≡ left_after at other qs
        → (if here then (if agrees one q.asked then left_after at one qs else None) else option_map (λ rest. q ∷ rest) (left_after at one qs))
        ≡ (if here then (if agrees other q.asked then left_after at other qs else None) else option_map (λ rest. q ∷ rest) (left_after at other qs))
    by true f s same = ap (λ b. if b then left_after at one qs else None) (f refl) ∙ sym (ap (λ b. if b then left_after at other qs else None) (s refl))
    by false f s same = ap (option_map (λ rest. q ∷ rest)) same

pub after_same : (at : List ℕ) (one other : Option Answer) (state : StateTree) → Lacks at one state → Lacks at other state → after at one state ≡ after at other state
after_same at one other [] first second = refl
after_same at one other (line ∷ lines) first second =
    ap (λ left. kept_line line.row left (after at one lines)) (left_same at one other line.left first.0 second.0)
    ∙ ap (kept_line line.row (left_after at other line.left)) (after_same at one other lines first.1 second.1)
