-- A table of types: a node more is a type more, and distinct numbers have distinct types.
use Rattle.std.proofs.Common.{◌≡◌, ◌≢◌, ℕ, zero, suc, ◌+◌, ◌<◌, Bool, true, false, ◌&&◌, ◌||◌, nat_eq, List, [], ◌∷◌, ◌++◌, length, map, get_or, All, AllPairs, Some, refl, sym, ap, ◌∙◌, subst, inl, inr, arith, append_assoc}
use Rattle.std.specs.Prelude.{slice_get, IsTrue, if◌then◌else◌}
use Rattle.std.specs.List.{list_any}
use Rattle.std.proofs.lemmas.Bool.{eqb-true, eq-eqb, cases_lt, cases_Bool, both_ways}
use Rattle.std.proofs.lemmas.List.{append-nil, length_push, get_or_append_left, get_or_push, get_or_at, get_or_default}
use Rattle.std.proofs.lemmas.List.Elements.{All-head, All-tail}
use Rattle.std.proofs.lemmas.List.Quantifiers.{all_pairs_push}
use Rattle.std.proofs.lemmas.Option.{slice_get_within, get_or_from_slice_get}
use Rattle.kk_syntax.specs.declared.ground.GroundType.{GroundType}
use Rattle.kk_syntax.specs.declared.ground.GroundType.TheVariants.{Int32, Unit as Nothing, Named}
use Rattle.kk_syntax.specs.contracts.ground.GroundTypePartialEq.TheImpl.{eq-value}
use Rattle.kk_syntax.specs.GroundPrograms.{ground_type, ground_types_behind, ground_types}
use Rattle.kk_syntax.specs.Types.{TypeTree, unit_type, named, types_of, type_at}
use Rattle.kk_mono.specs.Tables.{arguments_of, AreInOrder, begin_with_unit, AreOnce, Grows}
use lib.Pointwise.{bytes_decides}

-- a node that names nodes of a front has the type that it has there
types_front : (types more : List TypeTree) (ns : List ℕ) → All (λ n. n < length types) ns → map (type_at (types ++ more)) ns ≡ map (type_at types) ns
types_front types more [] within = refl
types_front types more (n ∷ ns) within =
    let here = get_or_append_left types more unit_type n (All-head (λ k. k < length types) n ns within) in
    let behind = types_front types more ns (All-tail (λ k. k < length types) n ns within) in
    ap (λ t. t ∷ map (type_at (types ++ more)) ns) here ∙ ap (λ ts. type_at types n ∷ ts) behind

pub node_front : (types more : List TypeTree) (node : GroundType) → All (λ n. n < length types) (arguments_of node) → ground_type (types ++ more) node ≡ ground_type types node
node_front types more Int32 within = refl
node_front types more Nothing within = refl
node_front types more (Named by arguments) within = ap (λ ts. named by (types_of ts)) (types_front types more arguments.items within)

behind_append : (earlier : List TypeTree) (nodes more : List GroundType) → ground_types_behind earlier (nodes ++ more) ≡ ground_types_behind (ground_types_behind earlier nodes) more
behind_append earlier [] more = refl
behind_append earlier (node ∷ nodes) more = behind_append (earlier ++ ground_type earlier node ∷ []) nodes more

behind_length : (earlier : List TypeTree) (nodes : List GroundType) → length (ground_types_behind earlier nodes) ≡ length earlier + length nodes
behind_length earlier [] = omega arith
behind_length earlier (node ∷ nodes) =
    let rest = behind_length (earlier ++ ground_type earlier node ∷ []) nodes in
    let more = length_push earlier (ground_type earlier node) in
    omega (arith, rest, more)

pub types_length : (nodes : List GroundType) → length (ground_types nodes) ≡ length nodes
types_length nodes = let long = behind_length [] nodes in omega (arith, long)

pub types_push : (nodes : List GroundType) (node : GroundType) → ground_types (nodes ++ node ∷ []) ≡ ground_types nodes ++ ground_type (ground_types nodes) node ∷ []
types_push nodes node = behind_append [] nodes (node ∷ [])

-- the types behind earlier ones: those, and others
behind_grows : (earlier : List TypeTree) (nodes : List GroundType) → Grows earlier (ground_types_behind earlier nodes)
behind_grows earlier [] = ([], sym (append-nil earlier))
behind_grows earlier (node ∷ nodes) =
    let rest = behind_grows (earlier ++ ground_type earlier node ∷ []) nodes in
    (ground_type earlier node ∷ rest.0, rest.1 ∙ append_assoc earlier (ground_type earlier node ∷ []) rest.0)

at_behind : (earlier : List TypeTree) (nodes : List GroundType) (i : ℕ) (d : GroundType) → i < length nodes → ((j : ℕ) (e : GroundType) → j < length nodes → All (λ n. n < length earlier + j) (arguments_of (get_or nodes j e)))
    → type_at (ground_types_behind earlier nodes) (length earlier + i) ≡ ground_type (ground_types_behind earlier nodes) (get_or nodes i d)
at_behind earlier [] i d lt in_order = absurd (omega (arith, lt))
at_behind earlier (node ∷ nodes) zero d lt in_order =
    let rest = behind_grows (earlier ++ ground_type earlier node ∷ []) nodes in
    let all : ground_types_behind earlier (node ∷ nodes) ≡ earlier ++ (ground_type earlier node ∷ rest.0) = rest.1 ∙ append_assoc earlier (ground_type earlier node ∷ []) rest.0 in
    let here : type_at (earlier ++ (ground_type earlier node ∷ rest.0)) (length earlier + 0) ≡ ground_type earlier node = get_or_at earlier (ground_type earlier node) rest.0 unit_type (length earlier + 0) (omega arith) in
    ap (λ ts. type_at ts (length earlier + 0)) all
    ∙ (here
    ∙ (sym (node_front earlier (ground_type earlier node ∷ rest.0) node (λ k e below. let least = in_order 0 node (omega arith) k e below in omega (arith, least)))
    ∙ sym (ap (λ ts. ground_type ts node) all)))
at_behind earlier (node ∷ nodes) (suc i) d lt in_order =
    let long = length_push earlier (ground_type earlier node) in
    let at : length earlier + suc i ≡ length (earlier ++ ground_type earlier node ∷ []) + i = omega (arith, long) in
    ap (type_at (ground_types_behind earlier (node ∷ nodes))) at
    ∙ at_behind (earlier ++ ground_type earlier node ∷ []) nodes i d (omega (arith, lt)) (λ j e below. λ k g inside. let least = in_order (suc j) e (omega (arith, below)) k g inside in omega (arith, least, long))

-- the type of a node in a table
pub type_of_number : (nodes : List GroundType) (i : ℕ) (d : GroundType) → AreInOrder nodes → i < length nodes → type_at (ground_types nodes) i ≡ ground_type (ground_types nodes) (get_or nodes i d)
type_of_number nodes i d in_order lt =
    let at : 0 + i ≡ i = omega arith in
    subst (λ k. type_at (ground_types nodes) k ≡ ground_type (ground_types nodes) (get_or nodes i d)) at
    (at_behind [] nodes i d lt (λ j e below. λ k g inside. let least = in_order j e below k g inside in omega (arith, least)))

-- numbers below the length of a table of distinct types are equal where their types are
number_only : (types : List TypeTree) (i j : ℕ) → AllPairs (λ one other. one ≢ other) types → i < length types → j < length types → type_at types i ≡ type_at types j → i ≡ j
number_only types i j once i_in j_in same = elim (cases_lt i j) [
  | inl lower ↦ absurd (once i j unit_type lower j_in same)
  | inr above ↦ elim (cases_lt j i) [
    | inl higher ↦ absurd (once j i unit_type higher i_in (sym same))
    | inr below ↦ omega (arith, above, below)
  ]
]

pub numbers_only : (types : List TypeTree) (ns ms : List ℕ) → AllPairs (λ one other. one ≢ other) types → All (λ n. n < length types) ns → All (λ n. n < length types) ms → map (type_at types) ns ≡ map (type_at types) ms → ns ≡ ms
numbers_only types [] [] once ns_in ms_in same = refl
numbers_only types [] (m ∷ ms) once ns_in ms_in same = cc
numbers_only types (n ∷ ns) [] once ns_in ms_in same = cc
numbers_only types (n ∷ ns) (m ∷ ms) once ns_in ms_in same =
    let here : type_at types n ≡ type_at types m = cc in
    let behind : map (type_at types) ns ≡ map (type_at types) ms = cc in
    let first : n ≡ m = number_only types n m once (All-head (λ k. k < length types) n ns ns_in) (All-head (λ k. k < length types) m ms ms_in) here in
    let rest : ns ≡ ms = numbers_only types ns ms once (All-tail (λ k. k < length types) n ns ns_in) (All-tail (λ k. k < length types) m ms ms_in) behind in
    cc

types_of_only : (ones others : List TypeTree) → types_of ones ≡ types_of others → ones ≡ others
types_of_only [] [] same = refl
types_of_only [] (other ∷ others) same = cc
types_of_only (one ∷ ones) [] same = cc
types_of_only (one ∷ ones) (other ∷ others) same =
    let behind : types_of ones ≡ types_of others = cc in
    let rest : ones ≡ others = types_of_only ones others behind in
    cc

pub and_both : (a b : Bool) → (a && b) ≡ true → (a ≡ true) × (b ≡ true)
and_both true true e = (refl, refl)
and_both true false e = absurd (both_ways false refl e)
and_both false b e = absurd (both_ways false refl e)

pub or_none : (a b : Bool) → (a || b) ≡ false → (a ≡ false) × (b ≡ false)
or_none true b e = absurd (both_ways true e refl)
or_none false b e = (refl, e)

pub and_true : (a b : Bool) → a ≡ true → b ≡ true → (a && b) ≡ true
and_true true b e f = f
and_true false b e f = absurd (both_ways false refl e)

-- nodes that are equal in memory have one type, and others have another
pub alike_nodes : (types : List TypeTree) (one other : GroundType) → eq-value.it one other ≡ true → ground_type types one ≡ ground_type types other
alike_nodes types Int32 Int32 alike = refl
alike_nodes types Int32 Nothing alike = absurd (both_ways false refl alike)
alike_nodes types Int32 (Named by arguments) alike = absurd (both_ways false refl alike)
alike_nodes types Nothing Int32 alike = absurd (both_ways false refl alike)
alike_nodes types Nothing Nothing alike = refl
alike_nodes types Nothing (Named by arguments) alike = absurd (both_ways false refl alike)
alike_nodes types (Named by arguments) Int32 alike = absurd (both_ways false refl alike)
alike_nodes types (Named by arguments) Nothing alike = absurd (both_ways false refl alike)
alike_nodes types (Named by arguments) (Named other others) alike =
    let both = and_both (nat_eq by other) _ alike in
    let heads : by ≡ other = eqb-true by other both.0 in
    let parts : arguments.items ≡ others.items = (bytes_decides arguments.items others.items).0 both.1 in
    ap (λ k. named k (types_of (map (type_at types) arguments.items))) heads ∙ ap (λ ns. named other (types_of (map (type_at types) ns))) parts

pub other_nodes : (types : List TypeTree) (one other : GroundType) → AllPairs (λ one other. one ≢ other) types → All (λ n. n < length types) (arguments_of one) → All (λ n. n < length types) (arguments_of other) → eq-value.it one other ≡ false → ground_type types one ≡ ground_type types other → ⊥
other_nodes types Int32 Int32 once one_in other_in differ same = both_ways true differ refl
other_nodes types Int32 Nothing once one_in other_in differ same = cc
other_nodes types Int32 (Named by arguments) once one_in other_in differ same = cc
other_nodes types Nothing Int32 once one_in other_in differ same = cc
other_nodes types Nothing Nothing once one_in other_in differ same = both_ways true differ refl
other_nodes types Nothing (Named by arguments) once one_in other_in differ same = cc
other_nodes types (Named by arguments) Int32 once one_in other_in differ same = cc
other_nodes types (Named by arguments) Nothing once one_in other_in differ same = cc
other_nodes types (Named by arguments) (Named other others) once one_in other_in differ same =
    let heads : by ≡ other = cc in
    let parts : types_of (map (type_at types) arguments.items) ≡ types_of (map (type_at types) others.items) = cc in
    let numbers = numbers_only types arguments.items others.items once one_in other_in (types_of_only (map (type_at types) arguments.items) (map (type_at types) others.items) parts) in
    both_ways _ differ (and_true (nat_eq by other) _ (eq-eqb by other heads) ((bytes_decides arguments.items others.items).1 numbers))

begins_front : (nodes more : List GroundType) → IsTrue (begin_with_unit nodes) → IsTrue (begin_with_unit (nodes ++ more))
begins_front [] more begins = absurd (both_ways false refl begins)
begins_front (Int32 ∷ nodes) more begins = absurd (both_ways false refl begins)
begins_front (Nothing ∷ nodes) more begins = refl
begins_front (Named by arguments ∷ nodes) more begins = absurd (both_ways false refl begins)

-- `()` has the number 0
pub unit_first : (nodes : List GroundType) → IsTrue (begin_with_unit nodes) → type_at (ground_types nodes) 0 ≡ unit_type
unit_first [] begins = absurd (both_ways false refl begins)
unit_first (Int32 ∷ nodes) begins = absurd (both_ways false refl begins)
unit_first (Nothing ∷ nodes) begins = let all = behind_grows (unit_type ∷ []) nodes in ap (λ ts. type_at ts 0) all.1
unit_first (Named by arguments ∷ nodes) begins = absurd (both_ways false refl begins)

pub some_first : (nodes : List GroundType) → IsTrue (begin_with_unit nodes) → 0 < length (ground_types nodes)
some_first [] begins = absurd (both_ways false refl begins)
some_first (node ∷ nodes) begins = let long = types_length (node ∷ nodes) in omega (arith, long)

in_order_push : (nodes : List GroundType) (node : GroundType) → AreInOrder nodes → All (λ n. n < length nodes) (arguments_of node) → AreInOrder (nodes ++ node ∷ [])
in_order_push nodes node in_order within i d lt = elim (cases_lt i (length nodes)) [
  | inl inside ↦ subst (λ n. All (λ k. k < i) (arguments_of n)) (sym (get_or_append_left nodes (node ∷ []) d i inside)) (in_order i d inside)
  | inr past ↦
      let long = length_push nodes node in
      let last : i ≡ length nodes = omega (arith, long, lt, past) in
      subst (λ n. All (λ k. k < i) (arguments_of n)) (sym (get_or_push nodes node d i (sym last))) (subst (λ j. All (λ k. k < j) (arguments_of node)) (sym last) within)
]

in_types : (nodes : List GroundType) (ns : List ℕ) → All (λ n. n < length (ground_types nodes)) ns → All (λ n. n < length nodes) ns
in_types nodes ns within = subst (λ k. All (λ n. n < k) ns) (types_length nodes) within

some_alike : (nodes : List GroundType) (node : GroundType) → list_any (eq-value.it node) nodes ≡ false → (j : ℕ) (d : GroundType) → j < length nodes → eq-value.it node (get_or nodes j d) ≡ false
some_alike [] node none j d lt = absurd (omega (arith, lt))
some_alike (first ∷ nodes) node none zero d lt = (or_none (eq-value.it node first) (list_any (eq-value.it node) nodes) none).0
some_alike (first ∷ nodes) node none (suc j) d lt = some_alike nodes node (or_none (eq-value.it node first) (list_any (eq-value.it node) nodes) none).1 j d (omega (arith, lt))

once_push : (nodes : List GroundType) (node : GroundType) → AreInOrder nodes → AreOnce nodes → All (λ n. n < length (ground_types nodes)) (arguments_of node) → list_any (eq-value.it node) nodes ≡ false → AreOnce (nodes ++ node ∷ [])
once_push nodes node in_order once within none =
    subst (λ ts. AllPairs (λ one other. one ≢ other) ts) (sym (types_push nodes node))
    (all_pairs_push (λ one other. one ≢ other) (ground_types nodes) (ground_type (ground_types nodes) node) once (λ j d lt same.
    let below : j < length nodes = (let long = types_length nodes in omega (arith, long, lt)) in
    other_nodes (ground_types nodes) node (get_or nodes j node) once within
    (subst (λ k. All (λ n. n < k) (arguments_of (get_or nodes j node))) (sym (types_length nodes)) (λ k e inside. let least = in_order j node below k e inside in omega (arith, least, below)))
    (some_alike nodes node none j node below)
    (sym same ∙ (get_or_default (ground_types nodes) j d unit_type lt ∙ type_of_number nodes j node in_order below))))

-- the table where a node was asked for
pub record Asked (nodes : List GroundType) (node : GroundType) (after : List GroundType) : Type 0 where
  pub begins : IsTrue (begin_with_unit after)
  pub in_order : AreInOrder after
  pub once : AreOnce after
  pub grows : Grows (ground_types nodes) (ground_types after)

pub asked : (nodes : List GroundType) (node : GroundType) (after : List GroundType) → IsTrue (begin_with_unit nodes) → AreInOrder nodes → AreOnce nodes → All (λ n. n < length (ground_types nodes)) (arguments_of node)
    → after ≡ (if list_any (eq-value.it node) nodes then nodes else nodes ++ node ∷ []) → Asked nodes node after
asked nodes node after begins in_order once within is = elim (cases_Bool (list_any (eq-value.it node) nodes)) [
  | inl there ↦ subst (λ ns. Asked nodes node ns) (sym (is ∙ ap (λ b. if b then nodes else nodes ++ node ∷ []) there)) (record { begins = begins; in_order = in_order; once = once; grows = ([], sym (append-nil (ground_types nodes))) })
  | inr none ↦ subst (λ ns. Asked nodes node ns) (sym (is ∙ ap (λ b. if b then nodes else nodes ++ node ∷ []) none)) (record {
    begins = begins_front nodes (node ∷ []) begins;
    in_order = in_order_push nodes node in_order (in_types nodes (arguments_of node) within);
    once = once_push nodes node in_order once within none;
    grows = (ground_type (ground_types nodes) node ∷ [], types_push nodes node);
  })
]

pub same_asked : (nodes : List GroundType) (node : GroundType) (after : List GroundType) → IsTrue (begin_with_unit nodes) → AreInOrder nodes → AreOnce nodes → after ≡ nodes → Asked nodes node after
same_asked nodes node after begins in_order once is = subst (λ ns. Asked nodes node ns) (sym is) (record { begins = begins; in_order = in_order; once = once; grows = ([], sym (append-nil (ground_types nodes))) })

-- the number that is answered
pub asked_number : (nodes : List GroundType) (node key : GroundType) (after : List GroundType) (n : ℕ) → Asked nodes node after → All (λ k. k < length (ground_types nodes)) (arguments_of node) → slice_get after n ≡ Some key → eq-value.it node key ≡ true
    → (n < length (ground_types after)) × (type_at (ground_types after) n ≡ ground_type (ground_types nodes) node)
asked_number nodes node key after n have within found alike =
    let lt = slice_get_within after n key found in
    let long = types_length after in
    let more = have.grows in (
      omega (arith, lt, long),
      type_of_number after n key have.in_order lt
          ∙ (ap (ground_type (ground_types after)) (get_or_from_slice_get after n key key found)
          ∙ (sym (alike_nodes (ground_types after) node key alike)
          ∙ (ap (λ ts. ground_type ts node) more.1 ∙ node_front (ground_types nodes) more.0 node within))),
    )
