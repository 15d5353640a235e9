-- Which fields a construction in a token's cell may leave as they are: those that the cell has already.
use Rattle.std.specs.Prelude.{◌≡◌, ◌==◌, ℕ, suc, Bool, true, false, not, ◌&&◌, List, [], ◌∷◌, filter, if◌then◌else◌}
use Rattle.kk_syntax.specs.Shapes.{is_among}
use Rattle.kk_counted.specs.TokenedCodes.{Tokened, TokenedArms}

-- what is known of the token in a slot: the fields of its cell are the values of these variables
pub record KnownFields : Type 0 where
  pub slot : ℕ
  pub fields : List ℕ

-- what is known of a slot, if anything
abbrev pub fields_in : List KnownFields → ℕ → List ℕ
fields_in [] y = []
fields_in (one ∷ known) y = if one.slot == y then one.fields else fields_in known y

-- a slot gets another token, or none
abbrev pub forget_slot : ℕ → List KnownFields → List KnownFields
forget_slot y known = filter (λ one. not (one.slot == y)) known

-- where a variable is bound; where several are
abbrev pub forget_variable : ℕ → List KnownFields → List KnownFields
forget_variable x known = filter (λ one. not (is_among one.fields x)) known

abbrev pub forget_variables : List ℕ → List KnownFields → List KnownFields
forget_variables [] known = known
forget_variables (x ∷ xs) known = forget_variables xs (forget_variable x known)

abbrev pub are_apart : List ℕ → Bool
are_apart [] = true
are_apart (x ∷ xs) = not (is_among xs x) && are_apart xs

-- behind an opening, whose fields take the values of the cell that the slot gets
abbrev pub known_opened : List ℕ → ℕ → List KnownFields → List KnownFields
known_opened fields y known =
    let others = forget_slot y (forget_variables fields known) in
    if are_apart fields then record { slot = y; fields = fields } ∷ others else others

-- the arguments at the kept positions, counted from a first one on, are the variables that are known there
abbrev pub KeepsKnown : ℕ → List ℕ → List ℕ → List ℕ → Type 0
KeepsKnown next kept fields [] = Unit {0}
KeepsKnown next kept [] (argument ∷ arguments) =
    (is_among kept next ≡ false) × KeepsKnown (suc next) kept [] arguments
KeepsKnown next kept (field ∷ fields) (argument ∷ arguments) =
    (is_among kept next ≡ true → field ≡ argument) × KeepsKnown (suc next) kept fields arguments

-- Each construction in a token's cell leaves only fields that are known to be its arguments. Behind a block inside nothing is known.
abbrev mutual
  pub LeavesKnown : List KnownFields → Tokened → Type 0
  LeavesKnown known (Tokened.give x) = Unit {0}
  LeavesKnown known (Tokened.tail_call f arguments) = Unit {0}
  LeavesKnown known (Tokened.case x decisions arms) = LeaveKnown known arms
  LeavesKnown known (Tokened.compute x form arguments others rest) = LeavesKnown (forget_variable x known) rest
  LeavesKnown known (Tokened.inside x block rest) = LeavesKnown known block × LeavesKnown [] rest
  LeavesKnown known (Tokened.read x c fields rest) = LeavesKnown (forget_variables fields known) rest
  LeavesKnown known (Tokened.open_cell x c fields used y rest) = LeavesKnown (known_opened fields y known) rest
  LeavesKnown known (Tokened.if_unique x c fields used y rest) = LeavesKnown (known_opened fields y known) rest
  LeavesKnown known (Tokened.dup x rest) = LeavesKnown known rest
  LeavesKnown known (Tokened.drop x rest) = LeavesKnown known rest
  LeavesKnown known (Tokened.fill x y c first arguments kept others rest) =
      KeepsKnown 0 kept (fields_in known y) (first ∷ arguments) × LeavesKnown (forget_variable x (forget_slot y known)) rest
  LeavesKnown known (Tokened.free y rest) = LeavesKnown (forget_slot y known) rest
  LeavesKnown known (Tokened.null y rest) = LeavesKnown (forget_slot y known) rest
  LeavesKnown known (Tokened.move to of rest) = LeavesKnown (forget_slot to (forget_slot of known)) rest
  LeavesKnown known (Tokened.hold y rest) = LeavesKnown known rest
  LeavesKnown known (Tokened.unhold y rest) = LeavesKnown known rest
  LeavesKnown known (Tokened.if_token y there absent) = LeavesKnown known there × LeavesKnown known absent

  pub LeaveKnown : List KnownFields → TokenedArms → Type 0
  LeaveKnown known TokenedArms.no_arm = Unit {0}
  LeaveKnown known (TokenedArms.arm body rest) = LeavesKnown known body × LeaveKnown known rest
