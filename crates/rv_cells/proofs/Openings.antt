-- Openings as lines.
use Rattle.std.proofs.Common.{◌≡◌, ℕ, ◌==◌, Bool, true, false, List, [], ◌∷◌, length, refl, ◌∙◌, ap, arith}
use Rattle.std.specs.Prelude.{◌||◌, filter, if◌then◌else◌}
use Rattle.kk_syntax.specs.Shapes.{is_among}
use Rattle.kk_source.specs.State.{Value, Environment}
use Rattle.kk_source.specs.Live.{value_of}
use Rattle.kk_core.specs.CoreMachine.{bind_fields}
use Rattle.kk_counted.specs.Heaps.{Heap}
use Rattle.kk_counted.specs.CountedMachine.{values_where}
use Rattle.kk_counted.specs.Keeping.{values_of}
use Rattle.kk_counted.specs.Spending.{AllAmong, AreApart}
use Rattle.kk_counted.proofs.Variables.{field_past}
use Rattle.kk_counted.specs.Lowerable.{bound_list}
use Rattle.rv_isa.specs.AsmCode.{Line}
use Rattle.rv_isa.specs.Frames.{Frame}
use Rattle.cell_heap.specs.Blocks.{Cells}
use Rattle.rv_cells.specs.CountedCells.{Owner}
use Rattle.rv_cells.proofs.Values.{value_same}
use Rattle.rv_cells.proofs.Spots.{Spot, Known, with_heap}
use Rattle.rv_cells.proofs.Rows.{with_fields}

-- ---- which values the variables of fields have

pub where_values : (takes : ℕ → Bool) (fields : List ℕ) (vs : List Value) (environment : Environment) → AreApart fields
    → length vs ≡ length fields
    → values_of (bind_fields fields vs environment) (filter takes fields) ≡ values_where takes fields vs
where_values takes [] vs environment apart many = refl
where_values takes (x ∷ xs) [] environment apart many = absurd (omega (arith, many))
where_values takes (x ∷ xs) (v ∷ vs) environment apart many =
    by_test (takes x) (where_values takes xs vs (record { variable = x; value = v } ∷ environment) apart.1 (omega (arith, many)))
  where
    first : value_of (bind_fields xs vs (record { variable = x; value = v } ∷ environment)) x ≡ v
    first = field_past xs vs (record { variable = x; value = v } ∷ environment) x apart.0 ∙ value_same x x v environment refl

    by_test : (t : Bool) → values_of (bind_fields xs vs (record { variable = x; value = v } ∷ environment))
        (filter takes xs) ≡ values_where takes xs vs
        → values_of (bind_fields xs vs (record { variable = x; value = v } ∷ environment))
        (if t then x ∷ filter takes xs else filter takes xs)
        ≡ (if t then v ∷ values_where takes xs vs else values_where takes xs vs)
    by_test true later = rw first (ap (λ ws. v ∷ ws) later)
    by_test false later = later

-- ---- which variables are bound

among_more : (y : ℕ) (bound : List ℕ) (x : ℕ) → is_among bound x ≡ true → is_among (y ∷ bound) x ≡ true
among_more y bound x is = by (y == x)
  where
    by : (b : Bool) → (b || is_among bound x) ≡ true
    by true = refl
    by false = is

pub bound_older : (fields bound : List ℕ) (x : ℕ) → is_among bound x ≡ true → is_among (bound_list fields bound) x ≡ true
bound_older [] bound x is = is
bound_older (y ∷ ys) bound x is = bound_older ys (y ∷ bound) x (among_more y bound x is)

among_itself : (x : ℕ) (xs : List ℕ) → is_among (x ∷ xs) x ≡ true
among_itself x xs = let itself : (x == x) ≡ true = grind arith in rw itself refl

pub bound_fields : (takes : ℕ → Bool) (fields bound : List ℕ) → AllAmong (filter takes fields) (bound_list fields bound)
bound_fields takes [] bound = tt
bound_fields takes (x ∷ xs) bound = by (takes x) (bound_fields takes xs (x ∷ bound))
  where
    by : (t : Bool) → AllAmong (filter takes xs) (bound_list xs (x ∷ bound))
        → AllAmong (if t then x ∷ filter takes xs else filter takes xs) (bound_list xs (x ∷ bound))
    by true later = (bound_older xs (x ∷ bound) x (among_itself x bound), later)
    by false later = later

-- ---- openings

-- the spot behind an opening
abbrev pub opened_spot : Known → Spot → List ℕ → List Value → Heap → Frame Line → (ℕ → Owner) → Cells → Spot
opened_spot known s fields vs next frame owners cells = record (with_heap (with_fields known.layout s fields vs) next owners cells)
    { frame = frame }
