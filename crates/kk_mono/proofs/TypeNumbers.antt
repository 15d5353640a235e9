-- Numbers of types: they stay while the table grows, and stand for the types of a body and of what is written.
use Rattle.std.proofs.Common.{◌≡◌, ℕ, zero, suc, ◌+◌, ◌<◌, ◌≤◌, List, [], ◌∷◌, ◌++◌, length, map, get_or, take, All, Vec, Global, refl, sym, ap, ◌∙◌, subst, inl, inr, arith, append_assoc}
use Rattle.std.proofs.lemmas.Bool.{cases_lt}
use Rattle.std.proofs.lemmas.List.{append-nil, length-append, length-map, get_or_append_left, get_or-map, get_or_past, map_push, map_more, take_more}
use Rattle.std.proofs.lemmas.List.Elements.{All-nil, All-cons, All-head, All-tail, All-get_or, All-push}
use Rattle.kk_syntax.specs.declared.typed.TypeNode.{TypeNode}
use Rattle.kk_syntax.specs.declared.typed.TypeNode.TheVariants.{Int32, Unit as Nothing, Variable, Named}
use Rattle.kk_syntax.specs.declared.ground.GroundType.TheVariants as OfGround
use Rattle.kk_syntax.specs.declared.program.Ty.{Ty}
use Rattle.kk_syntax.specs.declared.program.Ty.TheVariants as OfWritten
use Rattle.kk_syntax.specs.declared.program.Ty.TheFolds.{fold-roll-Ty}
use Rattle.kk_syntax.specs.GroundPrograms.{ground_type}
use Rattle.kk_syntax.specs.TypedPrograms.{type_of_node, types_behind, node_types}
use Rattle.kk_syntax.specs.Types.{TypeTree, unit_type, type_variable, named, type, types_of, type_step, type_tree, put, put_each, type_at}
use Rattle.kk_mono.specs.Places.{node_at}
use Rattle.kk_mono.specs.Tables.{Grows, number_in, AreNumbers}
use Rattle.kk_mono.specs.Views.{types_in}
use Rattle.kk_mono.specs.declared.types.Types.{Types}
use Rattle.kk_mono.proofs.Tables.{unit_first, some_first}

pub grows_not : {X : Type 0} (xs : List X) → Grows xs xs
grows_not xs = ([], sym (append-nil xs))

pub grows_on : {X : Type 0} (xs ys zs : List X) → Grows xs ys → Grows ys zs → Grows xs zs
grows_on xs ys zs first second = (first.0 ++ second.0, second.1 ∙ (ap (λ ws. ws ++ second.0) first.1 ∙ append_assoc xs first.0 second.0))

pub longer : {X : Type 0} (xs ys : List X) → Grows xs ys → length xs ≤ length ys
longer xs ys grows = let long = ap length grows.1 ∙ length-append xs grows.0 in omega (arith, long)

pub within_grown : (types more : List TypeTree) (ns : List ℕ) → All (λ n. n < length types) ns → Grows types more → All (λ n. n < length more) ns
within_grown types more ns within grows = λ k d lt. let below = within k d lt in let long = longer types more grows in omega (arith, below, long)

pub type_stays : (types more : List TypeTree) (n : ℕ) → n < length types → Grows types more → type_at more n ≡ type_at types n
type_stays types more n lt grows = ap (λ ts. type_at ts n) grows.1 ∙ get_or_append_left types grows.0 unit_type n lt

pub types_stay : (types more : List TypeTree) (ns : List ℕ) → All (λ n. n < length types) ns → Grows types more → map (type_at more) ns ≡ map (type_at types) ns
types_stay types more [] within grows = refl
types_stay types more (n ∷ ns) within grows =
    ap (λ t. t ∷ map (type_at more) ns) (type_stays types more n (All-head (λ k. k < length types) n ns within) grows)
    ∙ ap (λ ts. type_at types n ∷ ts) (types_stay types more ns (All-tail (λ k. k < length types) n ns within) grows)

pub numbers_grown : (types more : List TypeTree) (ns : List ℕ) (ts : List TypeTree) → AreNumbers types ns ts → Grows types more → AreNumbers more ns ts
numbers_grown types more ns ts are grows = record { within = within_grown types more ns are.within grows; types_are = types_stay types more ns are.within grows ∙ are.types_are }

-- a number at a place, and its type
pub place_within : (types : List TypeTree) (ns : List ℕ) (k : ℕ) → 0 < length types → All (λ n. n < length types) ns → number_in ns k < length types
place_within types ns k some within = elim (cases_lt k (length ns)) [
  | inl below ↦ All-get_or (λ n. n < length types) ns k 0 below within
  | inr past ↦ let is = get_or_past ns k 0 past in omega (arith, is, some)
]

pub place_type : (types : List TypeTree) (ns : List ℕ) (k : ℕ) → type_at types 0 ≡ unit_type → type_at types (number_in ns k) ≡ type_at (map (type_at types) ns) k
place_type types ns k first = elim (cases_lt k (length ns)) [
  | inl below ↦ sym (get_or-map (type_at types) ns k 0 unit_type below)
  | inr past ↦ ap (type_at types) (get_or_past ns k 0 past) ∙ (first ∙ sym (get_or_past (map (type_at types) ns) k unit_type (let long = length-map ns (type_at types) in omega (arith, long, past))))
]

pub places_within : (types : List TypeTree) (ns ks : List ℕ) → 0 < length types → All (λ n. n < length types) ns → All (λ n. n < length types) (map (number_in ns) ks)
places_within types ns [] some within = All-nil (λ n. n < length types)
places_within types ns (k ∷ ks) some within = All-cons (λ n. n < length types) (number_in ns k) (map (number_in ns) ks) (place_within types ns k some within) (places_within types ns ks some within)

pub places_types : (types : List TypeTree) (ns ks : List ℕ) → type_at types 0 ≡ unit_type → map (type_at types) (map (number_in ns) ks) ≡ map (type_at (map (type_at types) ns)) ks
places_types types ns [] first = refl
places_types types ns (k ∷ ks) first =
    ap (λ t. t ∷ map (type_at types) (map (number_in ns) ks)) (place_type types ns k first)
    ∙ ap (λ ts. type_at (map (type_at types) ns) k ∷ ts) (places_types types ns ks first)

-- one number more
pub number_pushed : (types more : List TypeTree) (ns : List ℕ) (n : ℕ) (ts : List TypeTree) (t : TypeTree) → AreNumbers types ns ts → Grows types more → n < length more → type_at more n ≡ t → AreNumbers more (ns ++ n ∷ []) (ts ++ t ∷ [])
number_pushed types more ns n ts t are grows lt is =
    let all = numbers_grown types more ns ts are grows in
    record {
      within = All-push (λ k. k < length more) ns n all.within lt;
      types_are = map_push (type_at more) ns n ∙ (ap (λ us. us ++ type_at more n ∷ []) all.types_are ∙ ap (λ u. ts ++ u ∷ []) is);
    }

pub no_numbers : (types : List TypeTree) → AreNumbers types [] []
no_numbers types = record { within = All-nil (λ n. n < length types); types_are = refl }

-- types put in a list of types
pub put_all : (s : ℕ → TypeTree) (ts : List TypeTree) → put_each s (types_of ts) ≡ types_of (map (put s) ts)
put_all s [] = refl
put_all s (t ∷ ts) = ap (λ us. type (put s t) us) (put_all s ts)

pub put_at : (s : ℕ → TypeTree) (earlier : List TypeTree) (k : ℕ) → put s (type_at earlier k) ≡ type_at (map (put s) earlier) k
put_at s [] k = refl
put_at s (t ∷ earlier) zero = refl
put_at s (t ∷ earlier) (suc k) = put_at s earlier k

pub put_each_at : (s : ℕ → TypeTree) (earlier : List TypeTree) (ks : List ℕ) → map (put s) (map (type_at earlier) ks) ≡ map (type_at (map (put s) earlier)) ks
put_each_at s earlier [] = refl
put_each_at s earlier (k ∷ ks) = ap (λ t. t ∷ map (put s) (map (type_at earlier) ks)) (put_at s earlier k) ∙ ap (λ ts. type_at (map (put s) earlier) k ∷ ts) (put_each_at s earlier ks)

put_node : (ts earlier : List TypeTree) (node : TypeNode) → put (type_at ts) (type_of_node earlier node) ≡ node_at ts (map (put (type_at ts)) earlier) node
put_node ts earlier Int32 = refl
put_node ts earlier Nothing = refl
put_node ts earlier (Variable of) = refl
put_node ts earlier (Named by arguments) = ap (λ us. named by us) (put_all (type_at ts) (map (type_at earlier) arguments.items) ∙ ap types_of (put_each_at (type_at ts) earlier arguments.items))

behind_push : (earlier : List TypeTree) (nodes : List TypeNode) (node : TypeNode) → types_behind earlier (nodes ++ node ∷ []) ≡ types_behind earlier nodes ++ type_of_node (types_behind earlier nodes) node ∷ []
behind_push earlier [] node = refl
behind_push earlier (first ∷ nodes) node = behind_push (earlier ++ type_of_node earlier first ∷ []) nodes node

-- one node more, where types stand for variables
pub put_more : (ts : List TypeTree) (nodes : List TypeNode) (i : ℕ) (node : TypeNode) → i < length nodes → get_or nodes i node ≡ node
    → map (put (type_at ts)) (node_types (take (i + 1) nodes)) ≡ map (put (type_at ts)) (node_types (take i nodes)) ++ node_at ts (map (put (type_at ts)) (node_types (take i nodes))) node ∷ []
put_more ts nodes i node lt is =
    ap (λ ns. map (put (type_at ts)) (node_types ns)) (take_more nodes i node lt ∙ ap (λ n. take i nodes ++ n ∷ []) is)
    ∙ (ap (map (put (type_at ts))) (behind_push [] (take i nodes) node)
    ∙ (map_push (put (type_at ts)) (node_types (take i nodes)) (type_of_node (node_types (take i nodes)) node)
    ∙ ap (λ t. map (put (type_at ts)) (node_types (take i nodes)) ++ t ∷ []) (put_node ts (node_types (take i nodes)) node)))

-- `()` is the first type of each table
pub unit_of : (table : Types) → type_at (types_in table) 0 ≡ unit_type
unit_of table = unit_first table.nodes.keys table.begins

pub some_of : (table : Types) → 0 < length (types_in table)
some_of table = some_first table.nodes.keys table.begins

-- a node of the table is the body's node at the types of an instance
pub named_node : (types ts : List TypeTree) (ns ks : List ℕ) (by : ℕ) (node : TypeNode) (arguments made : Vec ℕ Global) → type_at types 0 ≡ unit_type → node ≡ Named by arguments → ks ≡ arguments.items → made.items ≡ map (number_in ns) ks
    → ground_type types (OfGround.Named by made) ≡ node_at ts (map (type_at types) ns) node
named_node types ts ns ks by node arguments made first is same are =
    ap (λ ms. named by (types_of (map (type_at types) ms))) are
    ∙ (ap (λ us. named by (types_of us)) (places_types types ns ks first)
    ∙ (ap (λ js. named by (types_of (map (type_at (map (type_at types) ns)) js))) same
    ∙ ap (node_at ts (map (type_at types) ns)) (sym is)))

-- written types
written_named : (by : ℕ) (arguments : _) → type_tree (OfWritten.Named by arguments) ≡ named by (types_of (map type_tree arguments.items))
written_named by arguments = ap type_tree (sym (OfWritten.rolls-Named by arguments)) ∙ fold-roll-Ty TypeTree type_step _

pub unit_written : (of : Ty) → of ≡ OfWritten.Unit → type_tree of ≡ unit_type
unit_written of is = ap type_tree is ∙ (ap type_tree (sym OfWritten.rolls-Unit) ∙ fold-roll-Ty TypeTree type_step _)

pub variable_written : (x : ℕ) (of : Ty) → of ≡ OfWritten.Variable x → type_tree of ≡ type_variable x
variable_written x of is = ap type_tree is ∙ (ap type_tree (sym (OfWritten.rolls-Variable x)) ∙ fold-roll-Ty TypeTree type_step _)

pub named_written : (types : List TypeTree) (s : ℕ → TypeTree) (by : ℕ) (of : Ty) (arguments : Vec Ty Global) (written : List Ty) (made : Vec ℕ Global) → of ≡ OfWritten.Named by arguments → written ≡ arguments.items → AreNumbers types made.items (map (put s) (map type_tree written))
    → ground_type types (OfGround.Named by made) ≡ put s (type_tree of)
named_written types s by of arguments written made is same are =
    ap (λ us. named by (types_of us)) are.types_are
    ∙ (ap (λ ws. named by (types_of (map (put s) (map type_tree ws)))) same
    ∙ (ap (λ us. named by us) (sym (put_all s (map type_tree arguments.items)))
    ∙ (ap (put s) (sym (written_named by arguments)) ∙ ap (λ t. put s (type_tree t)) (sym is))))

pub written_more : (types more : List TypeTree) (s : ℕ → TypeTree) (ns next : List ℕ) (n i : ℕ) (written : List Ty) (of : Ty) → i < length written → of ≡ get_or written i of → AreNumbers types ns (map (put s) (map type_tree (take i written))) → Grows types more → n < length more → type_at more n ≡ put s (type_tree of) → next ≡ ns ++ n ∷ []
    → AreNumbers more next (map (put s) (map type_tree (take (i + 1) written)))
written_more types more s ns next n i written of lt is are grows n_in n_is next_is =
    let all : map (put s) (map type_tree (take (i + 1) written)) ≡ map (put s) (map type_tree (take i written)) ++ put s (type_tree of) ∷ [] =
    ap (map (put s)) (map_more type_tree written i of lt) ∙ (map_push (put s) (map type_tree (take i written)) (type_tree (get_or written i of)) ∙ ap (λ w. map (put s) (map type_tree (take i written)) ++ put s (type_tree w) ∷ []) (sym is)) in
    subst (λ ts. AreNumbers more next ts) (sym all) (subst (λ ms. AreNumbers more ms (map (put s) (map type_tree (take i written)) ++ put s (type_tree of) ∷ [])) (sym next_is)
    (number_pushed types more ns n (map (put s) (map type_tree (take i written))) (put s (type_tree of)) are grows n_in n_is))

pub node_more : (types more ts : List TypeTree) (ns next : List ℕ) (n i : ℕ) (nodes : List TypeNode) (node : TypeNode) → i < length nodes → node ≡ get_or nodes i node → AreNumbers types ns (map (put (type_at ts)) (node_types (take i nodes))) → Grows types more → n < length more → type_at more n ≡ node_at ts (map (type_at types) ns) node → next ≡ ns ++ n ∷ []
    → AreNumbers more next (map (put (type_at ts)) (node_types (take (i + 1) nodes)))
node_more types more ts ns next n i nodes node lt is are grows n_in n_is next_is =
    subst (λ us. AreNumbers more next us) (sym (put_more ts nodes i node lt (sym is))) (subst (λ ms. AreNumbers more ms (map (put (type_at ts)) (node_types (take i nodes)) ++ node_at ts (map (put (type_at ts)) (node_types (take i nodes))) node ∷ [])) (sym next_is)
    (number_pushed types more ns n (map (put (type_at ts)) (node_types (take i nodes))) (node_at ts (map (put (type_at ts)) (node_types (take i nodes))) node) are grows n_in (n_is ∙ ap (λ us. node_at ts us node) are.types_are)))
