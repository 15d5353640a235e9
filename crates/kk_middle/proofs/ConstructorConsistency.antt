-- What a core form tells of the constructors of a program's instances is consistent: tags of a type are 0, 1, 2 and so on, and
-- a type has cells exactly where one of its constructors has a field.
use Rattle.std.proofs.Common.{◌≡◌, ◌≢◌, ◌⊎◌, inl, inr, ℕ, zero, suc, ◌+◌, ◌<◌, ◌==◌, ◌&&◌, ◌||◌, Bool, true, false, not, List, [], ◌∷◌, length, map, take, AllPairs, All, Option, Some, None, arith, refl, sym, ap, ◌∙◌, subst}
use Rattle.std.specs.Prelude.{if◌then◌else◌, slice_get, option_map, count_by}
use Rattle.std.specs.List.{list_any}
use Rattle.std.proofs.lemmas.List.{length-map}
use Rattle.std.proofs.lemmas.List.Elements.{All-head, All-tail}
use Rattle.std.proofs.lemmas.List.Sums.{sum_by-cons}
use Rattle.std.proofs.lemmas.Option.{slice_get-map}
use Rattle.kk_syntax.specs.declared.ground.Ground.{Ground}
use Rattle.kk_syntax.specs.declared.ground.GroundConstructor.{GroundConstructor}
use Rattle.kk_syntax.specs.declared.typed.Typed.{Typed}
use Rattle.kk_syntax.specs.GroundPrograms.{ground_types, ground_constructor_tree, ground_program, number_of_type, arguments_of_type}
use Rattle.kk_syntax.specs.OfType.{same_type, same_types, fields_with}
use Rattle.kk_syntax.specs.Programs.{ConstructorTree, ProgramTree, program_tree, constructor_in}
use Rattle.kk_syntax.specs.Types.{TypeTree, TypeTrees, unit_type, named, no_type, type, types_of, type_list, type_at}
use Rattle.kk_syntax.proofs.TypeEquality.{same_only, same_itself}
use Rattle.kk_mono.specs.Grounds.{ground_view, grounds_of, HasTypes, AreGiven}
use Rattle.kk_mono.specs.Instances.{GroundConstructorTree, ground_constructors, ground_constructor}
use Rattle.kk_core.specs.CellTypes.{has_any, makes_cells, has_cells, made_type, TellsCells}
use Rattle.kk_core.specs.ConstructorShapes.{has_fields, AreConsistent}
use Rattle.kk_core.specs.declared.form.Core.{Core}
use Rattle.kk_core.specs.declared.shape.ConstructorShape.{ConstructorShape}
use Rattle.kk_counted.proofs.CountChanges as Counting
use Rattle.kk_insert.proofs.Sets.{false_if}
use Rattle.kk_middle.proofs.Blocks.{Whole, no_block, more, sees_blocks, Tells, placed}

-- ---- lists, element by element

-- the element of a list that is mapped to the same list
record Other {X Y Z : Type 0} (f : X → Z) (g : Y → Z) (x : X) (ys : List Y) (i : ℕ) : Type 0 where
  y : Y
  there : slice_get ys i ≡ Some y
  is : f x ≡ g y

other_at : {X Y Z : Type 0} (f : X → Z) (g : Y → Z) (xs : List X) (ys : List Y) (i : ℕ) (x : X) → map f xs ≡ map g ys
    → slice_get xs i ≡ Some x → Other f g x ys i
other_at f g xs ys i x same there =
    by (slice_get ys i) refl
    (sym (slice_get-map g ys i) ∙ ap (λ zs. slice_get zs i) (sym same) ∙ slice_get-map f xs i ∙ ap (option_map f) there)
  where
    by : (o : Option _) → slice_get ys i ≡ o → option_map g o ≡ Some (f x) → Other f g x ys i
    by None here is = absurd (cc)
    by (Some y) here is = record { y = y; there = here; is = only is }
      where
        only : Some (g y) ≡ Some (f x) → f x ≡ g y
        only equal = cc

same_element : {X : Type 0} (xs : List X) (i : ℕ) (x y : X) → slice_get xs i ≡ Some x → slice_get xs i ≡ Some y → x ≡ y
same_element xs i x y one two = only (sym one ∙ two)
  where
    only : Some x ≡ Some y → x ≡ y
    only equal = cc

counts : {X Y : Type 0} (p : X → Bool) (q : Y → Bool) (xs : List X) (ys : List Y) → length xs ≡ length ys
    → ((j : ℕ) (x : X) (y : Y) → slice_get xs j ≡ Some x → slice_get ys j ≡ Some y → p x ≡ q y)
    → (i : ℕ) → count_by p (take i xs) ≡ count_by q (take i ys)
counts p q [] [] same each zero = refl
counts p q [] [] same each (suc i) = refl
counts p q [] (y ∷ ys) same each i = absurd (omega (arith, same))
counts p q (x ∷ xs) [] same each i = absurd (omega (arith, same))
counts p q (x ∷ xs) (y ∷ ys) same each zero = refl
counts p q (x ∷ xs) (y ∷ ys) same each (suc i) =
    sum_by-cons (λ z. if p z then 1 else 0) x (take i xs)
    ∙ ap (λ (t : Bool). (if t then 1 else 0) + count_by p (take i xs)) (each 0 x y refl refl)
    ∙ ap (λ (n : ℕ). (if q y then 1 else 0) + n) (counts p q xs ys (omega (arith, same)) (λ j a b one two. each (suc j) a b one two) i)
    ∙ sym (sum_by-cons (λ z. if q z then 1 else 0) y (take i ys))

anys : {X Y : Type 0} (p : X → Bool) (q : Y → Bool) (xs : List X) (ys : List Y) → length xs ≡ length ys
    → ((j : ℕ) (x : X) (y : Y) → slice_get xs j ≡ Some x → slice_get ys j ≡ Some y → p x ≡ q y)
    → list_any p xs ≡ list_any q ys
anys p q [] [] same each = refl
anys p q [] (y ∷ ys) same each = absurd (omega (arith, same))
anys p q (x ∷ xs) [] same each = absurd (omega (arith, same))
anys p q (x ∷ xs) (y ∷ ys) same each =
    ap (λ (t : Bool). t || list_any p xs) (each 0 x y refl refl)
    ∙ ap (λ (t : Bool). q y || t) (anys p q xs ys (omega (arith, same)) (λ j a b one two. each (suc j) a b one two))

all_at : {X : Type 0} (P : X → Type 0) (xs : List X) (i : ℕ) (x : X) → All P xs → slice_get xs i ≡ Some x → P x
all_at P [] i x all there = absurd (cc)
all_at P (y ∷ xs) zero x all there = subst P (only there) (All-head P y xs all)
  where
    only : Some y ≡ Some x → y ≡ x
    only equal = cc
all_at P (y ∷ xs) (suc i) x all there = all_at P xs i x (All-tail P y xs all) there

-- ---- types

listed : (ts : TypeTrees) → types_of (type_list ts) ≡ ts
listed no_type = refl
listed (type t ts) = ap (type t) (listed ts)

back : (ts : List TypeTree) → type_list (types_of ts) ≡ ts
back [] = refl
back (t ∷ ts) = ap (λ us. t ∷ us) (back ts)

-- of two numbers one is less, or they are equal
pub order : (x y : ℕ) → (x < y) ⊎ ((x ≡ y) ⊎ (y < x))
order zero zero = inr (inl refl)
order zero (suc y) = inl (omega arith)
order (suc x) zero = inr (inr (omega arith))
order (suc x) (suc y) = more (order x y)
  where
    more : (x < y) ⊎ ((x ≡ y) ⊎ (y < x)) → (suc x < suc y) ⊎ ((suc x ≡ suc y) ⊎ (suc y < suc x))
    more (inl less) = inl (omega (arith, less))
    more (inr (inl same)) = inr (inl (ap suc same))
    more (inr (inr less)) = inr (inr (omega (arith, less)))

-- two numbers of a table without repetition
same_number : (types : List TypeTree) → AllPairs (λ one other. one ≢ other) types → (a b : ℕ) → a < length types → b < length types
    → same_type (type_at types a) (type_at types b) ≡ (a == b)
same_number types once a b one two = by (a == b) refl
  where
    differ : (a == b) ≡ false → type_at types a ≡ type_at types b → ⊥
    differ other same = go (order a b)
      where
        go : (a < b) ⊎ ((a ≡ b) ⊎ (b < a)) → ⊥
        go (inl less) = once a b unit_type less two same
        go (inr (inl equal)) = never (sym (Counting.itself a) ∙ ap (λ (n : ℕ). a == n) equal ∙ other)
          where
            never : true ≡ false → ⊥
            never is = cc
        go (inr (inr less)) = once b a unit_type less one (sym same)

    tested : (t : Bool) → (a == b) ≡ false → same_type (type_at types a) (type_at types b) ≡ t
        → same_type (type_at types a) (type_at types b) ≡ false
    tested true other is = absurd (differ other (same_only (type_at types a) (type_at types b) is))
    tested false other is = is

    by : (t : Bool) → (a == b) ≡ t → same_type (type_at types a) (type_at types b) ≡ (a == b)
    by true is =
        ap (λ (n : ℕ). same_type (type_at types n) (type_at types b)) (Counting.same a b is) ∙ same_itself (type_at types b) ∙ sym is
    by false is = tested (same_type (type_at types a) (type_at types b)) is refl ∙ sym is

-- ---- the ground constructors

module _ (typed : Typed) (given : Ground) (is : AreGiven typed given) where
  abbrev program : ProgramTree
  program = program_tree typed.program

  abbrev types : List TypeTree
  types = ground_types given.types.items

  abbrev items : List GroundConstructor
  items = given.constructors.items

  abbrev tree : GroundConstructor → ConstructorTree
  tree made = ground_constructor_tree types made

  -- the ground constructors stand type by type
  whole : Whole program (grounds_of given)
  whole =
      subst (Whole program) (sym is.instances.grounds_are.begins ∙ is.grounds)
      (sees_blocks program (ground_constructors program 0 []) _ is.instances.grounds_are.others
      (more no_block 0 [] (λ x there is_of. let lt = there.1 in omega (arith, lt))) is.instances.grounds_are.in_order)

  -- a ground constructor in memory and what it is made of
  as_made : (j : ℕ) (m : GroundConstructor) → slice_get items j ≡ Some m
      → tree m ≡ ground_constructor program (ground_view types m)
  as_made j m there =
      let one : Other (λ (c : ConstructorTree). c) (ground_constructor program) (tree m) (grounds_of given) j =
      other_at (λ (c : ConstructorTree). c) (ground_constructor program) (map tree items) (grounds_of given) j (tree m)
      (mapped (map tree items) ∙ is.instances.constructors ∙ ap (map (ground_constructor program)) is.grounds)
      (slice_get-map tree items j ∙ ap (option_map tree) there) in
      one.is ∙ ap (ground_constructor program)
      (same_element (grounds_of given) j one.y (ground_view types m) one.there
      (slice_get-map (ground_view types) items j ∙ ap (option_map (ground_view types)) there))
    where
      mapped : (cs : List ConstructorTree) → map (λ (c : ConstructorTree). c) cs ≡ cs
      mapped [] = refl
      mapped (c ∷ cs) = ap (λ ds. c ∷ ds) (mapped cs)

  has_types : (j : ℕ) (m : GroundConstructor) → slice_get items j ≡ Some m → HasTypes types m
  has_types j m there = all_at (HasTypes types) items j m is.constructors there

  -- the type of its values
  pub own_type : (j : ℕ) (m : GroundConstructor) → slice_get items j ≡ Some m → made_type (tree m) ≡ type_at types m.of_type
  own_type j m there =
      let has : HasTypes types m = has_types j m there in
      ap (λ (t : TypeTree). named (number_of_type t) (arguments_of_type t)) has.is ∙ sym has.is

  ground_type_is : (j : ℕ) (m : GroundConstructor) → slice_get items j ≡ Some m
      → named (constructor_in program (ground_view types m).constructor).of_type (types_of (ground_view types m).at) ≡ type_at types m.of_type
  ground_type_is j m there =
      ap (λ (n : ℕ). named n (types_of (ground_view types m).at)) (sym (ap (λ (c : ConstructorTree). c.of_type) (as_made j m there)))
      ∙ ap (λ (ts : TypeTrees). named (number_of_type (type_at types m.of_type)) ts) (listed (arguments_of_type (type_at types m.of_type)))
      ∙ own_type j m there

  pub number_test : (j i : ℕ) (m one : GroundConstructor) → slice_get items j ≡ Some m → slice_get items i ≡ Some one
      → same_type (type_at types m.of_type) (type_at types one.of_type) ≡ (m.of_type == one.of_type)
  number_test j i m one there here =
      same_number types is.once m.of_type one.of_type (has_types j m there).of_type (has_types i one here).of_type

  -- ---- tags

  test : GroundConstructor → GroundConstructorTree → Bool
  test one x = same_type (named (constructor_in program x.constructor).of_type (types_of x.at)) (type_at types one.of_type)

  tells_type : (i : ℕ) (one : GroundConstructor) → slice_get items i ≡ Some one
      → Tells program (test one) (constructor_in program (ground_view types one).constructor).of_type (ground_view types one).at
  unfolding test
  tells_type i one here =
      let own = ground_type_is i one here in
      record {
        yes = λ x of.
            ap (λ (n : ℕ). same_type (named n (types_of x.at)) (type_at types one.of_type)) of.0
            ∙ ap (λ (ts : List TypeTree). same_type (named (constructor_in program (ground_view types one).constructor).of_type (types_of ts))
            (type_at types one.of_type)) of.1
            ∙ ap (λ (t : TypeTree). same_type t (type_at types one.of_type)) own ∙ same_itself (type_at types one.of_type);
        no = λ x other.
            decide (same_type (named (constructor_in program x.constructor).of_type (types_of x.at)) (type_at types one.of_type)) refl
            (λ equal. other (parts x (same_only (named (constructor_in program x.constructor).of_type (types_of x.at)) (type_at types one.of_type) equal ∙ sym own)));
      }
    where
      decide : (t : Bool) → {s : Bool} → s ≡ t → (s ≡ true → ⊥) → s ≡ false
      decide true same never = absurd (never same)
      decide false same never = same

      parts : (x : GroundConstructorTree)
          → named (constructor_in program x.constructor).of_type (types_of x.at)
          ≡ named (constructor_in program (ground_view types one).constructor).of_type (types_of (ground_view types one).at)
          → ((constructor_in program x.constructor).of_type ≡ (constructor_in program (ground_view types one).constructor).of_type)
          × (x.at ≡ (ground_view types one).at)
      parts x same = (
        ap number_of_type same,
        sym (back x.at) ∙ ap (λ (t : TypeTree). type_list (arguments_of_type t)) same ∙ back (ground_view types one).at,
      )

  -- it is the number of those of the type before
  pub tag_counts : (i : ℕ) (one : GroundConstructor) → slice_get items i ≡ Some one
      → one.tag ≡ count_by (λ (m : GroundConstructor). m.of_type == one.of_type) (take i items)
  unfolding test
  tag_counts i one there =
      ap (λ (c : ConstructorTree). c.tag) (as_made i one there)
      ∙ sym (placed program (grounds_of given) whole i (ground_view types one)
      (slice_get-map (ground_view types) items i ∙ ap (option_map (ground_view types)) there) (test one) (tells_type i one there))
      ∙ counts (test one) (λ (m : GroundConstructor). m.of_type == one.of_type) (grounds_of given) items
      (length-map items (ground_view types))
      (λ j x m here second.
      let x_is : x ≡ ground_view types m =
      same_element (grounds_of given) j x (ground_view types m) here
      (slice_get-map (ground_view types) items j ∙ ap (option_map (ground_view types)) second) in
      ap (test one) x_is ∙ ap (λ (t : TypeTree). same_type t (type_at types one.of_type)) (ground_type_is j m second)
      ∙ number_test j i m one second there) i

-- ---- the constructors of the core form

module _ (typed : Typed) (given : Ground) (core : Core) (is : AreGiven typed given) (tells : TellsCells (ground_program given) core)
    (numbers : map (λ (c : ConstructorShape). c.of_type) core.constructors.items
    ≡ map (λ (c : GroundConstructor). c.of_type) given.constructors.items) where
  abbrev ground_items : List GroundConstructor
  ground_items = given.constructors.items

  abbrev shapes : List ConstructorShape
  shapes = core.constructors.items

  abbrev ground_tree : GroundConstructor → ConstructorTree
  ground_tree made = ground_constructor_tree (ground_types given.types.items) made

  lengths : length ground_items ≡ length shapes
  lengths =
      sym (length-map ground_items (λ (c : GroundConstructor). c.of_type)) ∙ ap length (sym numbers)
      ∙ length-map shapes (λ (c : ConstructorShape). c.of_type)

  tag_is : (i : ℕ) (shape : ConstructorShape) → slice_get shapes i ≡ Some shape
      → shape.tag ≡ count_by (λ other. other.of_type == shape.of_type) (take i shapes)
  tag_is i shape there =
      let by_type =
      other_at (λ (c : ConstructorShape). c.of_type) (λ (c : GroundConstructor). c.of_type) shapes ground_items i shape numbers there in
      let one : GroundConstructor = by_type.y in
      let by_tag =
      other_at (λ (c : ConstructorShape). c.tag) (λ (c : ConstructorTree). c.tag) shapes (map ground_tree ground_items) i shape
      tells.tags there in
      let tree_is : by_tag.y ≡ ground_tree one =
      same_element (map ground_tree ground_items) i by_tag.y (ground_tree one) by_tag.there
      (slice_get-map ground_tree ground_items i ∙ ap (option_map ground_tree) by_type.there) in
      let tag : shape.tag ≡ one.tag = by_tag.is ∙ ap (λ (c : ConstructorTree). c.tag) tree_is in
      tag ∙ tag_counts typed given is i one by_type.there
      ∙ counts (λ (m : GroundConstructor). m.of_type == one.of_type) (λ other. other.of_type == shape.of_type) ground_items shapes
      lengths
      (λ j m other here second.
      let member =
      other_at (λ (c : ConstructorShape). c.of_type) (λ (c : GroundConstructor). c.of_type) shapes ground_items j other numbers
      second in
      ap (λ (x : GroundConstructor). x.of_type == one.of_type) (same_element ground_items j m member.y here member.there)
      ∙ ap (λ (n : ℕ). member.y.of_type == n) (sym by_type.is) ∙ ap (λ (n : ℕ). n == shape.of_type) (sym member.is)) i

  -- ---- cells

  makes_is : (c : ConstructorTree) (own arguments : TypeTrees) (by : ℕ) → c.arguments ≡ Some own
      → makes_cells c (named by arguments) ≡ (same_type (named c.of_type own) (named by arguments) && not (length c.fields == 0))
  makes_is c own arguments by is_own =
      ap (λ (o : Option TypeTrees). has_any (if c.of_type == by then fields_with o c.fields arguments else None)) is_own
      ∙ tested (c.of_type == by) (same_types own arguments) c.fields
    where
      tested : (t s : Bool) (fs : List TypeTree)
          → has_any (if t then (if s then Some fs else None) else None) ≡ ((t && s) && not (length fs == 0))
      tested false s fs = refl
      tested true false fs = refl
      tested true true [] = refl
      tested true true (f ∷ fs) = sym (ap not (other (length fs)))
        where
          other : (n : ℕ) → (suc n == 0) ≡ false
          other n = false_if (suc n == 0) (λ same. let zero_is = Counting.same (suc n) 0 same in omega (arith, zero_is))

  cells_are : (i : ℕ) (shape : ConstructorShape) → slice_get shapes i ≡ Some shape
      → shape.has_cells ≡ list_any (λ other. (other.of_type == shape.of_type) && has_fields other) shapes
  cells_are i shape there =
      let by_type = other_at (λ (c : ConstructorShape). c.of_type) (λ (c : GroundConstructor). c.of_type) shapes ground_items i shape numbers there in
      let one : GroundConstructor = by_type.y in
      let by_cells = other_at (λ (c : ConstructorShape). c.has_cells) (λ (c : ConstructorTree). has_cells (map ground_tree ground_items) (made_type c)) shapes
      (map ground_tree ground_items) i shape tells.types there in
      let tree_is : by_cells.y ≡ ground_tree one =
      same_element (map ground_tree ground_items) i by_cells.y (ground_tree one) by_cells.there
      (slice_get-map ground_tree ground_items i ∙ ap (option_map ground_tree) by_type.there) in
      by_cells.is ∙ ap (λ (c : ConstructorTree). has_cells (map ground_tree ground_items) (made_type c)) tree_is
      ∙ anys (λ (c : ConstructorTree). makes_cells c (made_type (ground_tree one))) (λ other. (other.of_type == shape.of_type) && has_fields other)
      (map ground_tree ground_items) shapes
      (length-map ground_items ground_tree ∙ sym (length-map ground_items (λ (c : GroundConstructor). c.of_type)) ∙ ap length (sym numbers)
      ∙ length-map shapes (λ (c : ConstructorShape). c.of_type))
      (λ j c other here second.
      let member = other_at (λ (s : ConstructorShape). s.of_type) (λ (g : GroundConstructor). g.of_type) shapes ground_items j other numbers second in
      let m : GroundConstructor = member.y in
      let c_is : c ≡ ground_tree m =
      same_element (map ground_tree ground_items) j c (ground_tree m) here (slice_get-map ground_tree ground_items j ∙ ap (option_map ground_tree) member.there) in
      let by_fields = other_at (λ (s : ConstructorShape). s.fields.items)
      (λ (d : ConstructorTree). map (has_cells (map ground_tree ground_items)) d.fields) shapes (map ground_tree ground_items) j other tells.fields second in
      let d_is : by_fields.y ≡ ground_tree m = same_element (map ground_tree ground_items) j by_fields.y (ground_tree m) by_fields.there
      (slice_get-map ground_tree ground_items j ∙ ap (option_map ground_tree) member.there) in
      let count : length (ground_tree m).fields ≡ length other.fields.items =
      sym (length-map (ground_tree m).fields (has_cells (map ground_tree ground_items)))
      ∙ ap (λ (d : ConstructorTree). length (map (has_cells (map ground_tree ground_items)) d.fields)) (sym d_is) ∙ sym (ap length by_fields.is) in
      ap (λ (d : ConstructorTree). makes_cells d (made_type (ground_tree one))) c_is
      ∙ makes_is (ground_tree m) (arguments_of_type (type_at (ground_types given.types.items) m.of_type)) (arguments_of_type (type_at (ground_types given.types.items) one.of_type))
      (number_of_type (type_at (ground_types given.types.items) one.of_type)) refl
      ∙ ap (λ (t : TypeTree). same_type t (made_type (ground_tree one)) && not (length (ground_tree m).fields == 0)) (own_type typed given is j m member.there)
      ∙ ap (λ (t : TypeTree). same_type (type_at (ground_types given.types.items) m.of_type) t && not (length (ground_tree m).fields == 0)) (own_type typed given is i one by_type.there)
      ∙ ap (λ (t : Bool). t && not (length (ground_tree m).fields == 0))
      (number_test typed given is j i m one member.there by_type.there ∙ ap (λ (n : ℕ). m.of_type == n) (sym by_type.is)
      ∙ ap (λ (n : ℕ). n == shape.of_type) (sym member.is))
      ∙ ap (λ (n : ℕ). (other.of_type == shape.of_type) && not (n == 0)) count)

  pub are_consistent : AreConsistent core.constructors.items
  are_consistent = record { tags = tag_is; cells = cells_are }
