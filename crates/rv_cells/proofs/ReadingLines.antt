-- The lines of a reading, of which one may come behind the others: how long they are, which values they name, and that they are well
-- formed.
use Rattle.std.proofs.Common.{◌≡◌, ℕ, suc, ◌+◌, ◌*◌, ◌<◌, ◌==◌, ◌||◌, inl, inr, true, List, [], ◌∷◌, ◌++◌, length, refl, sym, ap, subst, ◌∙◌, arith}
use Rattle.std.proofs.lemmas.Bool.{or_right}
use Rattle.kk_syntax.specs.Shapes.{is_among as is_bound}
use Rattle.kk_counted.specs.Lowerable.{AreBelow, bound_list}
use Rattle.rv_isa.specs.AsmCode.{Line}
use Rattle.rv_isa.specs.Costs.{code_length}
use Rattle.rv_isa.specs.ValueBounds.{AreValuesBelow, AreLinesBelow}
use Rattle.rv_isa.proofs.ValueBounds.{lines_joined}
use Rattle.rv_lower.proofs.WellFormedness.{HasRoom, IsWithin, readable_within, room_more}
use Rattle.rv_lower.proofs.Operations.{Leads, leads_then, leads_weaker}
use Rattle.rv_cells.specs.Layout.{first_field}
use Rattle.rv_cells.specs.CellLines.{Loads, AllLoads, LoadsOneLast, ReadLines}
use Rattle.rv_cells.proofs.CellForms.{Bound, one_load, loads_lead, room_list, kept_list}
use Rattle.rv_cells.proofs.FormedOrders.{bound_behind, listed}
use Rattle.rv_cells.proofs.FormLengths.{lines_append, load_length, loads_length}
use Rattle.rv_cells.proofs.FormValues.{load_below, loads_below}

-- values are loaded from word i of a cell on, the one that stands between these lists behind all others
abbrev pub LoadsLast : ℕ → ℕ → List ℕ → ℕ → List ℕ → List Line → Type 0
LoadsLast cell i [] y after lines = (more : List Line) × (last : Line) × AllLoads cell (suc i) after more × Loads cell i y last
    × (lines ≡ more ++ (last ∷ []))
LoadsLast cell i (x ∷ before) y after lines = (first : Line) × (more : List Line) × Loads cell i x first
    × LoadsLast cell (suc i) before y after more × (lines ≡ first ∷ more)

loads_last : (cell i : ℕ) (before : List ℕ) (y : ℕ) (after : List ℕ) (lines first others : List Line) (load : Line)
    → AllLoads cell i before first → AllLoads cell (i + suc (length before)) after others → Loads cell (i + length before) y load
    → lines ≡ first ++ (others ++ (load ∷ [])) → LoadsLast cell i before y after lines
loads_last cell i [] y after lines first others load firsts rest last is = (
  others,
  load,
  subst (λ n. AllLoads cell n after others) (omega arith) rest,
  subst (λ n. Loads cell n y load) (omega arith) last,
  is ∙ ap (λ ls. ls ++ (others ++ (load ∷ []))) firsts,
)
loads_last cell i (x ∷ before) y after lines first others load firsts rest last is = (
  firsts.0,
  firsts.1 ++ (others ++ (load ∷ [])),
  firsts.2,
  loads_last cell (suc i) before y after (firsts.1 ++ (others ++ (load ∷ []))) firsts.1 others load firsts.3
      (subst (λ n. AllLoads cell n after others) (omega arith) rest) (subst (λ n. Loads cell n y load) (omega arith) last) refl,
  is ∙ ap (λ ls. ls ++ (others ++ (load ∷ []))) firsts.4,
)

pub one_last : (x : ℕ) (fields : List ℕ) (lines : List Line) (loads : LoadsOneLast x fields lines)
    → LoadsLast x first_field loads.0 loads.1 loads.2 lines
one_last x fields lines loads = loads_last x first_field loads.0 loads.1 loads.2 lines loads.3 loads.4 loads.5 loads.7 loads.8 loads.9
    loads.10

-- ---- their length

last_length : (cell i : ℕ) (before : List ℕ) (y : ℕ) (after : List ℕ) (lines : List Line) → LoadsLast cell i before y after lines
    → code_length lines ≡ 4 * length (before ++ (y ∷ after))
last_length cell i [] y after lines is =
    let whole = ap code_length is.4 in
    let apart = lines_append is.0 (is.1 ∷ []) in
    let one = load_length cell i y is.1 is.3 in
    let more = loads_length cell (suc i) after is.0 is.2 in omega (arith, whole, apart, one, more)
last_length cell i (x ∷ before) y after lines is =
    let whole = ap code_length is.4 in
    let one = load_length cell i x is.0 is.2 in
    let more = last_length cell (suc i) before y after is.1 is.3 in omega (arith, whole, one, more)

pub reads_length : (x : ℕ) (fields : List ℕ) (lines : List Line) → ReadLines x fields lines → code_length lines ≡ 4 * length fields
reads_length x fields lines (inl loads) = loads_length x first_field fields lines loads
reads_length x fields lines (inr loads) =
    last_length x first_field loads.0 loads.1 loads.2 lines (one_last x fields lines loads)
    ∙ ap (λ xs. 4 * length xs) (sym loads.6.0)

-- ---- the values that they name

last_below : (most cell i : ℕ) (before : List ℕ) (y : ℕ) (after : List ℕ) (lines : List Line) → cell < most
    → AreValuesBelow most (before ++ (y ∷ after)) → LoadsLast cell i before y after lines → AreLinesBelow most lines
last_below most cell i [] y after lines cell_less below is =
    subst (AreLinesBelow most) (sym is.4)
    (lines_joined most is.0 (is.1 ∷ []) (loads_below most cell (suc i) after is.0 cell_less below.1 is.2)
    (load_below most cell i y is.1 cell_less below.0 is.3, tt))
last_below most cell i (x ∷ before) y after lines cell_less below is =
    subst (AreLinesBelow most) (sym is.4) (
      load_below most cell i x is.0 cell_less below.0 is.2,
      last_below most cell (suc i) before y after is.1 cell_less below.1 is.3,
    )

pub reads_below : (most x : ℕ) (fields : List ℕ) (lines : List Line) → x < most → AreValuesBelow most fields
    → ReadLines x fields lines → AreLinesBelow most lines
reads_below most x fields lines less below (inl loads) = loads_below most x first_field fields lines less below loads
reads_below most x fields lines less below (inr loads) =
    last_below most x first_field loads.0 loads.1 loads.2 lines less (subst (AreValuesBelow most) loads.6.0 below)
    (one_last x fields lines loads)

-- ---- they are well formed

-- a variable that is bound before others is so behind them
behind_others : (after bound : List ℕ) (y : ℕ) → IsWithin (bound_list after (y ∷ bound)) (y ∷ bound_list after bound)
behind_others after bound y v is =
    ap (λ b. (y == v) || b) (sym (listed after bound v)) ∙ sym (bound_behind after bound y v) ∙ listed after (y ∷ bound) v ∙ is

module _ (base : ℕ) where
  last_leads : (bound : List ℕ) (cell i : ℕ) (before : List ℕ) (y : ℕ) (after : List ℕ) (lines : List Line) → HasRoom base bound
      → is_bound bound cell ≡ true → AreBelow base (before ++ (y ∷ after)) → LoadsLast cell i before y after lines
      → Leads (Bound base bound) (Bound base (bound_list (before ++ (y ∷ after)) bound)) (length (before ++ (y ∷ after))) lines
  last_leads bound cell i [] y after lines has is below loads =
      let behind = bound_list after bound in
      subst (Leads (Bound base bound) (Bound base (bound_list after (y ∷ bound))) (suc (length after))) (sym loads.4)
      (leads_weaker (Bound base bound) (Bound base bound) (Bound base (y ∷ behind)) (Bound base (bound_list after (y ∷ bound)))
      (length after + 1) (suc (length after)) (loads.0 ++ (loads.1 ∷ [])) (λ v there. there)
      (readable_within base base (bound_list after (y ∷ bound)) (y ∷ behind) (behind_others after bound y)) (omega arith)
      (leads_then (Bound base bound) (Bound base behind) (Bound base (y ∷ behind)) (length after) 1 loads.0 (loads.1 ∷ [])
      (loads_lead base bound cell (suc i) after loads.0 has is below.1 loads.2)
      (one_load base behind cell i y loads.1 (room_list base bound after has below.1) (kept_list bound after cell is) below.0
      loads.3)))
  last_leads bound cell i (x ∷ before) y after lines has is below loads =
      let xs = before ++ (y ∷ after) in
      let behind = Bound base (bound_list xs (x ∷ bound)) in
      subst (Leads (Bound base bound) behind (suc (length xs))) (sym loads.4)
      (subst (λ n. Leads (Bound base bound) behind n (loads.0 ∷ loads.1)) (one_more (length xs))
      (leads_then (Bound base bound) (Bound base (x ∷ bound)) behind 1 (length xs) (loads.0 ∷ []) loads.1
      (one_load base bound cell i x loads.0 has is below.0 loads.2)
      (last_leads (x ∷ bound) cell (suc i) before y after loads.1 (room_more base bound x has below.0)
      (or_right (x == cell) (is_bound bound cell) is) below.1 loads.3)))
    where
      one_more : (n : ℕ) → 1 + n ≡ suc n
      one_more n = omega arith

  pub reads_lead : (bound : List ℕ) (x : ℕ) (fields : List ℕ) (lines : List Line) → HasRoom base bound → is_bound bound x ≡ true
      → AreBelow base fields → ReadLines x fields lines
      → Leads (Bound base bound) (Bound base (bound_list fields bound)) (length fields) lines
  reads_lead bound x fields lines has is below (inl loads) = loads_lead base bound x first_field fields lines has is below loads
  reads_lead bound x fields lines has is below (inr loads) =
      subst (λ xs. Leads (Bound base bound) (Bound base (bound_list xs bound)) (length xs) lines) (sym loads.6.0)
      (last_leads bound x first_field loads.0 loads.1 loads.2 lines has is (subst (AreBelow base) loads.6.0 below)
      (one_last x fields lines loads))
