-- The owned positions of a program's instances are closed under the rule on tail calls where the program's are.
use Rattle.std.proofs.Common.{◌≡◌, ◌⊎◌, inl, inr, ℕ, zero, suc, ◌+◌, ◌<◌, ◌≤◌, Bool, true, false, not, List, [], ◌∷◌, ◌++◌, map, length, Some, All, arith, refl, sym, ap, ◌∙◌, subst}
use Rattle.std.specs.Prelude.{if◌then◌else◌, slice_get, slice_index_or, IsTrue}
use Rattle.std.proofs.lemmas.List.{map-append}
use Rattle.std.proofs.lemmas.List.Elements.{All-nil, All-cons, All-head, All-tail}
use Rattle.kk_syntax.specs.declared.positions.Position.{Position}
use Rattle.kk_syntax.specs.declared.program.Form.{Form}
use Rattle.kk_syntax.specs.declared.program.Form.TheVariants.{Number, Unit as Nothing, ReadByte, PrintText, Unary, Binary, Print, Construct, Call}
use Rattle.kk_syntax.specs.declared.positions.Ownership.TheVariants.{Lent}
use Rattle.kk_syntax.specs.OwnedPositions.{function_at, arity_of, lent_below, is_lent_variable, lent_in_row, handed_to, handed_by, handed, owned_in, Told, OwnsHanded, ClosedUnderTailCalls}
use Rattle.kk_syntax.specs.Patterns.{Pattern, anything, variable as pattern_variable, exactly, constructor, Patterns, no_part, part}
use Rattle.kk_syntax.specs.PositionsOf.{PositionTable, lends}
use Rattle.kk_syntax.specs.Programs.{FunctionTree, ProgramTree, no_function}
use Rattle.kk_syntax.specs.OwnedSearch.{to_handed}
use Rattle.kk_syntax.specs.Shapes.{bound, bound_all, bound_by}
use Rattle.kk_syntax.specs.Trees.{Tree, variable, apply, Trees, no_tree, tree}
use Rattle.kk_syntax.proofs.Elements.{each_parts, each_both}
use Rattle.kk_syntax.proofs.TailCalls.{handed_is}
use Rattle.kk_syntax.proofs.Walks.{tails_replaced}
use Rattle.kk_syntax.specs.Types.{put, type_at}
use Rattle.kk_syntax.specs.Typing.{Choice}
use Rattle.kk_mono.specs.Instances.{InstanceTree, main_instance, Renaming, renames, renamed_form, renamed_pattern, renamed_patterns, renamed, renamed_all, function_of, origin_in, IsInstanceProgram}
use Rattle.kk_instances.specs.Meaning.{positions_in}
use Rattle.kk_middle.specs.LentNames.{AreOthers, Bound, to_bound, AreApart, KeepsLent}
use Rattle.kk_middle.proofs.LentPrograms.{row_length}

-- ---- expressions that name functions and constructors by other numbers

module _ (new : Renaming) where
  mutual
    bound_same : (p : Pattern) → bound (renamed_pattern new p) ≡ bound p
    bound_same anything = refl
    bound_same (pattern_variable x) = refl
    bound_same (exactly value) = refl
    bound_same (constructor by parts) = bound_all_same parts

    bound_all_same : (ps : Patterns) → bound_all (renamed_patterns new ps) ≡ bound_all ps
    bound_all_same no_part = refl
    bound_all_same (part first rest) =
        ap (λ (xs : List ℕ). xs ++ bound_all (renamed_patterns new rest)) (bound_same first)
        ∙ ap (λ (xs : List ℕ). bound first ++ xs) (bound_all_same rest)

  lent_same : (lent : List ℕ) (e : Tree) → is_lent_variable lent (renamed new e) ≡ is_lent_variable lent e
  lent_same lent (variable x) = refl
  lent_same lent _ = refl

  row_same : (lent : List ℕ) (t : Bool) (p : Pattern) → lent_in_row lent t (renamed_pattern new p) ≡ lent_in_row lent t p
  row_same lent true p = ap (λ (xs : List ℕ). lent ++ xs) (bound_same p)
  row_same lent false p = refl

  -- a position of the other function
  abbrev moved : Position → Position
  moved p = record { function = new.functions p.function; parameter = p.parameter }

  given_same : (lent : List ℕ) (f i : ℕ) (es : Trees)
      → handed_to lent (new.functions f) i (renamed_all new es) ≡ map moved (handed_to lent f i es)
  given_same lent f i no_tree = refl
  given_same lent f i (tree first rest) =
      ap (λ (t : Bool). (if t then [] else record { function = new.functions f; parameter = i } ∷ [])
      ++ handed_to lent (new.functions f) (i + 1) (renamed_all new rest)) (lent_same lent first)
      ∙ ap (λ (ps : List Position). (if is_lent_variable lent first then [] else record {
        function = new.functions f;
        parameter =
            i;
      } ∷ []) ++ ps)
      (given_same lent f (i + 1) rest)
      ∙ by (is_lent_variable lent first)
    where
      by : (t : Bool)
          → (if t then [] else record { function = new.functions f; parameter = i } ∷ []) ++ map moved
          (handed_to lent f (i + 1) rest)
          ≡ map moved ((if t then [] else record { function = f; parameter = i } ∷ []) ++ handed_to lent f (i + 1) rest)
      by true = refl
      by false = refl

  form_same : (lent : List ℕ) (form : Form) (es : Trees)
      → handed_by lent (apply (renamed_form new form) (renamed_all new es)) ≡ map moved (handed_by lent (apply form es))
  form_same lent (Number n) es = refl
  form_same lent Nothing es = refl
  form_same lent ReadByte es = refl
  form_same lent (PrintText form text) es = refl
  form_same lent (Unary operator) es = refl
  form_same lent (Binary operator) es = refl
  form_same lent (Print form) es = refl
  form_same lent (Construct c) es = refl
  form_same lent (Call f) es = given_same lent f 0 es

  part_same : (lent : List ℕ) (e : Tree) → handed_by lent (renamed new e) ≡ map moved (handed_by lent e)
  part_same lent (apply form es) = form_same lent form es
  part_same lent _ = refl

  -- other numbers that are the new ones
  abbrev AreNew : Renaming → Type 0
  AreNew other = other ≡ new

  lent_so : (other : Renaming) → AreNew other → (ns ms : List ℕ) → ms ≡ ns → (e : Tree)
      → is_lent_variable ms (renamed other e) ≡ is_lent_variable ns e
  lent_so other is ns ms same e =
      ap (λ (r : Renaming). is_lent_variable ms (renamed r e)) is
      ∙ (lent_same ms e ∙ ap (λ (xs : List ℕ). is_lent_variable xs e) same)

  row_so : (other : Renaming) → AreNew other → (ns ms : List ℕ) → ms ≡ ns → (t u : Bool) → u ≡ t → (p : Pattern)
      → lent_in_row ms u (renamed_pattern other p) ≡ lent_in_row ns t p
  row_so other is ns ms same t u alike p =
      ap (λ (r : Renaming). lent_in_row ms u (renamed_pattern r p)) is
      ∙ (ap (λ (xs : List ℕ). lent_in_row xs u (renamed_pattern new p)) same
      ∙ (ap (λ (b : Bool). lent_in_row ns b (renamed_pattern new p)) alike ∙ row_same ns t p))

  -- what tail calls are given
  handed_same : (own : List ℕ) (e : Tree) → handed own (renamed new e) ≡ map moved (handed own e)
  handed_same own e =
      handed_is own (renamed new e)
      ∙ (tails_replaced renames AreNew (λ other is e. is) (λ other is p. is) (λ other is r. is) to_handed to_handed
      (λ (ps qs : List Position). qs ≡ map moved ps) refl
      (λ xs ys us vs left right. (λ i. left i ++ right i) ∙ sym (map-append moved xs ys))
      (λ ns ms. ms ≡ ns)
      (λ other is ns ms same e.
      ap (λ (r : Renaming). handed_by ms (renamed r e)) is ∙
      (part_same ms e ∙ ap (λ (xs : List ℕ). map moved (handed_by xs e)) same))
      (λ ns ms same binder. refl)
      (λ ns ms t u. u ≡ t) lent_so (λ other is ns ms same t u alike p. refl) row_so
      new refl own own refl e
      ∙ ap (map moved) (sym (handed_is own e)))

  -- what is bound on the way to them
  row_apart : (ns ms : List ℕ) → ms ≡ ns → (t u : Bool) → u ≡ t → (p : Pattern)
      → AreApart (if u then [] else record { variables = bound (renamed_pattern new p); lent = ms } ∷ [])
      → AreApart (if t then [] else record { variables = bound p; lent = ns } ∷ [])
  row_apart ns ms same t u alike p =
      subst (λ (bs : List Bound). AreApart bs)
      (ap (λ (xs : List ℕ). if u then [] else record { variables = xs; lent = ms } ∷ []) (bound_same p)
      ∙ (ap (λ (xs : List ℕ). if u then [] else record { variables = bound p; lent = xs } ∷ []) same
      ∙ ap (λ (b : Bool). if b then [] else record { variables = bound p; lent = ns } ∷ []) alike))

  pub keeps_back : (lent : List ℕ) (e : Tree) → KeepsLent lent (renamed new e) → KeepsLent lent e
  keeps_back lent e =
      tails_replaced renames AreNew (λ other is e. is) (λ other is p. is) (λ other is r. is) to_bound to_bound
      (λ (bs cs : List Bound). AreApart cs → AreApart bs) (λ none. none)
      (λ xs ys us vs left right whole.
      let parts = each_parts (λ b. AreOthers b.variables b.lent) us vs whole in
      each_both (λ b. AreOthers b.variables b.lent) xs ys (left parts.0) (right parts.1))
      (λ ns ms. ms ≡ ns) (λ other is ns ms same e none. none)
      (λ ns ms same binder. subst (λ (xs : List ℕ). AreApart (record { variables = bound_by binder; lent = xs } ∷ [])) same)
      (λ ns ms t u. u ≡ t) lent_so
      (λ other is ns ms same t u alike p.
      subst (λ (r : Renaming). AreApart (if u then [] else record { variables = bound (renamed_pattern r p); lent = ms } ∷ [])
      → AreApart (if t then [] else record { variables = bound p; lent = ns } ∷ [])) (sym is) (row_apart ns ms same t u alike p))
      row_so new refl lent lent refl e

-- ---- lists

all_moved : {X Y : Type 0} (P : X → Type 0) (Q : Y → Type 0) (f : X → Y) (xs : List X) → ((x : X) → Q (f x) → P x)
    → All Q (map f xs) → All P xs
all_moved P Q f [] to all = All-nil P
all_moved P Q f (x ∷ xs) to all =
    All-cons P x xs (to x (All-head Q (f x) (map f xs) all)) (all_moved P Q f xs to (All-tail Q (f x) (map f xs) all))

-- an element that is there
record Found {X : Type 0} (xs : List X) (i : ℕ) (d : X) : Type 0 where
  one : X
  there : slice_get xs i ≡ Some one
  is : slice_index_or xs i d ≡ one

found : {X : Type 0} (xs : List X) (i : ℕ) (d : X) → i < length xs → Found xs i d
found [] i d less = absurd (omega (arith, less))
found (x ∷ xs) zero d less = record { one = x; there = refl; is = refl }
found (x ∷ xs) (suc i) d less =
    let inner = found xs i d (omega (arith, less)) in record { one = inner.one; there = inner.there; is = inner.is }

-- or none
past : {X : Type 0} (xs : List X) (i : ℕ) (d : X) → length xs ≤ i → slice_index_or xs i d ≡ d
past [] i d le = refl
past (x ∷ xs) zero d le = absurd (omega (arith, le))
past (x ∷ xs) (suc i) d le = past xs i d (omega (arith, le))

read_get : {X : Type 0} (xs : List X) (i : ℕ) (d x : X) → slice_get xs i ≡ Some x → slice_index_or xs i d ≡ x
read_get [] i d x there = absurd (cc)
read_get (y ∷ xs) zero d x there = only there
  where
    only : Some y ≡ Some x → y ≡ x
    only same = cc
read_get (y ∷ xs) (suc i) d x there = read_get xs i d x there

same_numbers : (xs ys : List ℕ) → length xs ≡ length ys
    → ((i : ℕ) → i < length xs → slice_index_or xs i 0 ≡ slice_index_or ys i 0) → xs ≡ ys
same_numbers [] [] same each = refl
same_numbers [] (y ∷ ys) same each = absurd (omega (arith, same))
same_numbers (x ∷ xs) [] same each = absurd (omega (arith, same))
same_numbers (x ∷ xs) (y ∷ ys) same each =
    ap (λ (n : ℕ). n ∷ xs) (each 0 (omega arith))
    ∙ ap (λ (ns : List ℕ). y ∷ ns) (same_numbers xs ys (omega (arith, same)) (λ i less. each (suc i) (omega (arith, less))))

map_at : {X : Type 0} (f : X → ℕ) (xs : List X) (i : ℕ) (d : X) → i < length xs
    → slice_index_or (map f xs) i 0 ≡ f (slice_index_or xs i d)
map_at f [] i d less = absurd (omega (arith, less))
map_at f (x ∷ xs) zero d less = refl
map_at f (x ∷ xs) (suc i) d less = map_at f xs i d (omega (arith, less))

row_at : (table : PositionTable) (instances : List InstanceTree) (i : ℕ) → i < length instances
    → slice_index_or (positions_in instances table) i [] ≡ slice_index_or table (function_of instances i) []
row_at table [] i less = absurd (omega (arith, less))
row_at table (x ∷ xs) zero less = refl
row_at table (x ∷ xs) (suc i) less = row_at table xs i (omega (arith, less))

map_length : {X Y : Type 0} (f : X → Y) (xs : List X) → length (map f xs) ≡ length xs
map_length f [] = refl
map_length f (x ∷ xs) = ap suc (map_length f xs)

within : (functions : List FunctionTree) (f : ℕ) (function : FunctionTree) → slice_get functions f ≡ Some function
    → f < length functions
within [] f function there = absurd (cc)
within (first ∷ functions) zero function there = omega arith
within (first ∷ functions) (suc f) function there = let less = within functions f function there in omega (arith, less)

order : (a b : ℕ) → (a < b) ⊎ (b ≤ a)
order a zero = inr (omega arith)
order zero (suc b) = inl (omega arith)
order (suc a) (suc b) = more (order a b)
  where
    more : (a < b) ⊎ (b ≤ a) → (suc a < suc b) ⊎ (suc b ≤ suc a)
    more (inl one) = inl (omega (arith, one))
    more (inr one) = inr (omega (arith, one))

-- ---- the instances of a program

module _ (program made : ProgramTree) (typings : List (List Choice)) (instances : List InstanceTree)
    (is : IsInstanceProgram program typings instances made) (table : PositionTable) (told : Told program table) where
  abbrev origin : Renaming
  origin = origin_in instances is.grounds

  -- a function that is an instance, and the one that it is an instance of
  record Pair (n : ℕ) : Type 0 where
    function : FunctionTree
    at : function_at program (function_of instances n) ≡ function
    there : slice_get program.functions (function_of instances n) ≡ Some function
    body : renamed origin (function_at made n).body ≡ function.body
    count : length (function_at made n).parameters ≡ length function.parameters

  pair : (n : ℕ) → n < length made.functions → Pair n
  pair n less =
      let one : Found instances n (main_instance 0) = found instances n (main_instance 0)
      (subst (λ (m : ℕ). n < m) is.as_many less) in
      let other : Found made.functions n no_function = found made.functions n no_function less in
      let both = is.each n one.one other.one one.there other.there in
      let same : function_of instances n ≡ one.one.function = ap (λ (i : InstanceTree). i.function) one.is in
      record {
        function = both.0;
        at = ap (λ (f : ℕ). function_at program f) same ∙ read_get program.functions one.one.function no_function both.0 both.1;
        there = ap (slice_get program.functions) same ∙ both.1;
        body = ap (λ (f : FunctionTree). renamed origin f.body) other.is ∙ both.2.body;
        count = ap (λ (f : FunctionTree). length f.parameters) other.is ∙ ap length both.2.parameters
            ∙ map_length (put (type_at one.one.at)) both.0.parameters;
      }

  arity_same : (n : ℕ) → n < length made.functions → arity_of made n ≡ arity_of program (function_of instances n)
  arity_same n less =
      let one : Pair n = pair n less in one.count ∙ ap (λ (f : FunctionTree). length f.parameters) (sym one.at)

  owned_same : (n i : ℕ) → n < length made.functions → owned_in (positions_in instances table) n i ≡ owned_in table
      (function_of instances n) i
  owned_same n i less =
      ap (λ row. not (lends (slice_index_or row i Lent))) (row_at table instances n (subst (λ (m : ℕ). n < m) is.as_many less))

  lent_below_same : (n count : ℕ) → n < length made.functions
      → lent_below (owned_in (positions_in instances table) n) count ≡ lent_below (owned_in table (function_of instances n)) count
  lent_below_same n zero less = refl
  lent_below_same n (suc count) less =
      ap (λ (xs : List ℕ). xs ++ (if owned_in (positions_in instances table) n count then [] else count ∷ []))
      (lent_below_same n count less)
      ∙ ap (λ (t : Bool). lent_below (owned_in table (function_of instances n)) count ++ (if t then [] else count ∷ []))
      (owned_same n count less)

  pub instances_told : Told made (positions_in instances table)
  instances_told =
      same_numbers (map length (positions_in instances table)) (map (λ (f : FunctionTree). length f.parameters) made.functions)
      (map_length length (positions_in instances table)
      ∙ map_length (λ (i : InstanceTree). slice_index_or table i.function []) instances ∙ sym is.as_many
      ∙ sym (map_length (λ (f : FunctionTree). length f.parameters) made.functions))
      (λ i less. by i (subst (λ (n : ℕ). i < n)
      (map_length length (positions_in instances table)
      ∙ map_length (λ (j : InstanceTree). slice_index_or table j.function []) instances ∙ sym is.as_many) less))
    where
      by : (i : ℕ) → i < length made.functions
          → slice_index_or (map length (positions_in instances table)) i 0
          ≡ slice_index_or (map (λ (f : FunctionTree). length f.parameters) made.functions) i 0
      by i less =
          let within : i < length instances = subst (λ (m : ℕ). i < m) is.as_many less in
          map_at length (positions_in instances table) i []
          (subst (λ (m : ℕ). i < m) (sym (map_length (λ (j : InstanceTree). slice_index_or table j.function []) instances)) within)
          ∙ ap length (row_at table instances i within) ∙ row_length table program.functions (function_of instances i) told
          ∙ sym (arity_same i less) ∙ sym (map_at (λ (f : FunctionTree). length f.parameters) made.functions i no_function less)

  -- a position that the function owns is owned by its instance
  owned_back : (p : Position)
      → ((moved origin p).parameter < arity_of program (moved origin p).function
      → IsTrue (owned_in table (moved origin p).function (moved origin p).parameter))
      → p.parameter < arity_of made p.function → IsTrue (owned_in (positions_in instances table) p.function p.parameter)
  owned_back p owns less = by (order p.function (length made.functions))
    where
      by : (p.function < length made.functions) ⊎ (length made.functions ≤ p.function)
          → IsTrue (owned_in (positions_in instances table) p.function p.parameter)
      by (inl there) =
          subst IsTrue (sym (owned_same p.function p.parameter there))
          (owns (subst (λ (m : ℕ). p.parameter < m) (arity_same p.function there) less))
      by (inr none) =
          let no = ap (λ (f : FunctionTree). length f.parameters) (past made.functions p.function no_function none) in
          absurd (omega (arith, less, no))

  pub instances_closed : ClosedUnderTailCalls program (owned_in table)
      → ClosedUnderTailCalls made (owned_in (positions_in instances table))
  instances_closed closed n less =
      let one : Pair n = pair n less in
      let f : ℕ = function_of instances n in
      let own : List ℕ = lent_below (owned_in table f) (length one.function.parameters) in
      let lents : lent_below (owned_in (positions_in instances table) n) (length (function_at made n).parameters) ≡ own =
      lent_below_same n (length (function_at made n).parameters) less
      ∙ ap (lent_below (owned_in table f)) one.count in
      let all : OwnsHanded program (owned_in table) f one.function =
      subst (OwnsHanded program (owned_in table) f) one.at (closed f (within program.functions f one.function one.there)) in
      subst (λ (xs : List ℕ). All (λ p. p.parameter < arity_of made p.function
      → IsTrue (owned_in (positions_in instances table) p.function p.parameter))
      (handed xs (function_at made n).body)) (sym lents)
      (all_moved (λ p. p.parameter < arity_of made p.function
      → IsTrue (owned_in (positions_in instances table) p.function p.parameter))
      (λ p. p.parameter < arity_of program p.function → IsTrue (owned_in table p.function p.parameter)) (moved origin)
      (handed own (function_at made n).body) owned_back
      (subst (All (λ p. p.parameter < arity_of program p.function → IsTrue (owned_in table p.function p.parameter)))
      (ap (handed own) (sym one.body) ∙ handed_same origin own (function_at made n).body) all))

  pub instances_keep : ((f : ℕ) (function : FunctionTree) → slice_get program.functions f ≡ Some function
      → KeepsLent (lent_below (owned_in table f) (length function.parameters)) function.body)
      → (n : ℕ) (function : FunctionTree) → slice_get made.functions n ≡ Some function
      → KeepsLent (lent_below (owned_in (positions_in instances table) n) (length function.parameters)) function.body
  instances_keep keeps n function there =
      let less : n < length made.functions = within made.functions n function there in
      let one : Pair n = pair n less in
      let same : function_at made n ≡ function = read_get made.functions n no_function function there in
      let f : ℕ = function_of instances n in
      keeps_back origin (lent_below (owned_in (positions_in instances table) n) (length function.parameters)) function.body
      (subst (λ (b : Tree). KeepsLent (lent_below (owned_in (positions_in instances table) n) (length function.parameters)) b)
      (sym one.body ∙ ap (λ (g : FunctionTree). renamed origin g.body) same)
      (subst (λ (xs : List ℕ). KeepsLent xs one.function.body)
      (ap (lent_below (owned_in table f)) (sym one.count ∙ ap (λ (g : FunctionTree). length g.parameters) same)
      ∙ sym (lent_below_same n (length function.parameters) less))
      (keeps f one.function one.there)))
