-- Variables that are bound together, or one after the other, in any order.
use Rattle.std.proofs.Common.{◌≡◌, ℕ, ◌==◌, ◌||◌, Bool, true, false, List, [], ◌∷◌, ◌++◌, refl, sym, ap, ◌∙◌}
use Rattle.std.proofs.lemmas.Bool.{or_right}
use Rattle.kk_counted.specs.Lowerable.{AreBelow, bound_list}
use Rattle.kk_syntax.specs.Shapes.{is_among as is_bound}
use Rattle.rv_isa.specs.AsmCode.{Line}
use Rattle.rv_lower.specs.Lowered.{Goal}
use Rattle.rv_lower.proofs.WellFormedness.{HasRoom, IsWithin, within_more}
use Rattle.rv_lower.proofs.Codes.{Fits, fits_weaker}
use Rattle.rv_cells.proofs.CellForms.{room_list}

or_swap : (a b c : Bool) → (a || (b || c)) ≡ (b || (a || c))
or_swap true true c = refl
or_swap true false c = refl
or_swap false true c = refl
or_swap false false c = refl

pub bound_behind : (xs bound : List ℕ) (x v : ℕ) → is_bound (xs ++ x ∷ bound) v ≡ ((x == v) || is_bound (xs ++ bound) v)
bound_behind [] bound x v = refl
bound_behind (y ∷ xs) bound x v =
    ap (λ (t : Bool). (y == v) || t) (bound_behind xs bound x v) ∙ or_swap (y == v) (x == v) (is_bound (xs ++ bound) v)

-- fields that are bound one after the other are bound together
pub listed : (fields bound : List ℕ) (v : ℕ) → is_bound (fields ++ bound) v ≡ is_bound (bound_list fields bound) v
listed [] bound v = refl
listed (x ∷ fields) bound v = sym (bound_behind fields bound x v) ∙ listed fields (x ∷ bound) v

-- what is bound behind fields is so with them
pub behind : (fields bound outer : List ℕ) → IsWithin outer bound → IsWithin outer (fields ++ bound)
behind [] bound outer within v is = within v is
behind (x ∷ fields) bound outer within v is = or_right (x == v) (is_bound (fields ++ bound) v)
    (behind fields bound outer within v is)

-- so is what is bound before fields and with them
pub front_within : (fields bound more : List ℕ) → IsWithin bound more → IsWithin (fields ++ bound) (fields ++ more)
front_within [] bound more within v is = within v is
front_within (x ∷ fields) bound more within v is =
    within_more (fields ++ bound) (fields ++ more) x (front_within fields bound more within) v is

pub listed_within : (fields bound : List ℕ) → IsWithin (fields ++ bound) (bound_list fields bound)
listed_within fields bound v is = sym (listed fields bound v) ∙ is

pub room_front : (base : ℕ) (bound fields : List ℕ) → HasRoom base bound → AreBelow base fields → HasRoom base (fields ++ bound)
room_front base bound fields has below = record {
  room = has.room;
  low = λ v is. (room_list base bound fields has below).low v (sym (listed fields bound v) ∙ is);
}

-- fields that are bound together may be bound one after the other
pub fits_front : (base : ℕ) (bound outer fields : List ℕ) (goal : Goal) (low high : ℕ) (lines : List Line)
    → Fits base (fields ++ bound) outer goal low high lines → Fits base (bound_list fields bound) outer goal low high lines
fits_front base bound outer fields goal low high lines =
    fits_weaker base (fields ++ bound) (bound_list fields bound) outer goal low high lines (listed_within fields bound)
