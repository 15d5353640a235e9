-- Types of nodes by those of their arguments: their sizes, and types put in place of variables.
use Rattle.std.proofs.Common.{◌≡◌, ◌<◌, ◌≤◌, ◌+◌, ◌-◌, ℕ, zero, suc, Bool, if◌then◌else◌, List, [], ◌∷◌, length, map, get_or, All, refl, sym, ◌∙◌, ap, arith}
use Rattle.std.proofs.lemmas.Bool.{le-ltb, lt-ltb}
use Rattle.kk_syntax.specs.Types.{type_variable, named, types_of, put, put_each}
use Rattle.kk_unify.specs.Graphs.{NodeTree, any_node, same_node, int32_node, unit_node, variable_node, named_node, Assignment, Holds, IsNodeFormed, filled}
use Rattle.kk_unify.specs.Unification.{IsHead}
use Rattle.kk_unify.specs.GraphWalk.{size, sizes, arguments_of, made_type}
use Rattle.kk_unify.proofs.GraphAssignments.{map_agree}

-- an argument is smaller
sizes_of : (r : Assignment) (xs : List ℕ) (k : ℕ) → k < length xs → size (r (get_or xs k 0)) ≤ sizes (types_of (map r xs))
sizes_of r [] k lt = absurd (omega (arith, lt))
sizes_of r (x ∷ xs) zero lt = omega arith
sizes_of r (x ∷ xs) (suc k) lt = omega (arith, sizes_of r xs k (omega (arith, lt)))

pub argument_smaller : (r : Assignment) (i : ℕ) (node : NodeTree) (k : ℕ) → Holds r i node → k < length (arguments_of node) → size (r (get_or (arguments_of node) k 0)) < size (r i)
argument_smaller r i any_node k holds lt = absurd (omega (arith, lt))
argument_smaller r i (same_node to) k holds lt = absurd (omega (arith, lt))
argument_smaller r i int32_node k holds lt = absurd (omega (arith, lt))
argument_smaller r i unit_node k holds lt = absurd (omega (arith, lt))
argument_smaller r i (variable_node of) k holds lt = absurd (omega (arith, lt))
argument_smaller r i (named_node by arguments) k holds lt =
    let whole : size (r i) ≡ 1 + sizes (types_of (map r arguments)) = ap size holds in
    omega (arith, whole, sizes_of r arguments k lt)

-- what holds of each argument
pub arguments_formed : (variables count i : ℕ) (node : NodeTree) → IsNodeFormed variables count i node → All (λ argument. argument < count) (arguments_of node)
arguments_formed variables count i any_node formed = λ k d lt. absurd (omega (arith, lt))
arguments_formed variables count i (same_node to) formed = λ k d lt. absurd (omega (arith, lt))
arguments_formed variables count i int32_node formed = λ k d lt. absurd (omega (arith, lt))
arguments_formed variables count i unit_node formed = λ k d lt. absurd (omega (arith, lt))
arguments_formed variables count i (variable_node of) formed = λ k d lt. absurd (omega (arith, lt))
arguments_formed variables count i (named_node by arguments) formed = formed

-- types put in place of the variables of a list of types
put_listed : (f r a : Assignment) (xs : List ℕ) → All (λ x. r x ≡ put f (a x)) xs → types_of (map r xs) ≡ put_each f (types_of (map a xs))
put_listed f r a [] all = refl
put_listed f r a (x ∷ xs) all =
    let first : r x ≡ put f (a x) = all 0 x (omega arith) in
    let rest : types_of (map r xs) ≡ put_each f (types_of (map a xs)) = put_listed f r a xs (λ k d h. all (suc k) d (omega (arith, h))) in
    cc

-- a variable that stands for itself, and one for the type of a node
own_variable : (variables of : ℕ) (r : Assignment) → of < variables → filled variables r of ≡ type_variable of
own_variable variables of r lt = ap (λ (b : Bool). if b then type_variable of else r (of - variables)) (lt-ltb of variables lt)

open_variable : (variables i : ℕ) (r : Assignment) → filled variables r (variables + i) ≡ r i
open_variable variables i r =
    let back : variables + i - variables ≡ i = omega arith in
    ap (λ (b : Bool). if b then type_variable (variables + i) else r (variables + i - variables)) (le-ltb (variables + i) variables (omega arith)) ∙ ap r back

-- each assignment that obeys a node is an instance of its made type, if those of its arguments are instances
pub made_instance : (variables count i : ℕ) (node : NodeTree) (r a : Assignment) → IsHead node → IsNodeFormed variables count i node → Holds r i node → All (λ x. r x ≡ put (filled variables r) (a x)) (arguments_of node) → r i ≡ put (filled variables r) (made_type variables i (map a (arguments_of node)) node)
made_instance variables count i any_node r a head formed holds all = sym (open_variable variables i r)
made_instance variables count i (same_node to) r a head formed holds all = absurd head
made_instance variables count i int32_node r a head formed holds all = holds
made_instance variables count i unit_node r a head formed holds all = holds
made_instance variables count i (variable_node of) r a head formed holds all = holds ∙ sym (own_variable variables of r formed)
made_instance variables count i (named_node by arguments) r a head formed holds all = holds ∙ ap (named by) (put_listed (filled variables r) r a arguments all)

-- an assignment that gives a node its made type obeys it
pub made_holds : (variables i : ℕ) (node : NodeTree) (a b : Assignment) → IsHead node → b i ≡ made_type variables i (map a (arguments_of node)) node → All (λ x. a x ≡ b x) (arguments_of node) → Holds b i node
made_holds variables i any_node a b head is all = tt
made_holds variables i (same_node to) a b head is all = absurd head
made_holds variables i int32_node a b head is all = is
made_holds variables i unit_node a b head is all = is
made_holds variables i (variable_node of) a b head is all = is
made_holds variables i (named_node by arguments) a b head is all = is ∙ ap (λ ts. named by (types_of ts)) (map_agree a b arguments all)

-- one that agrees with it obeys it too
pub holds_kept : (i : ℕ) (node : NodeTree) (a b : Assignment) → IsHead node → a i ≡ b i → All (λ x. a x ≡ b x) (arguments_of node) → Holds a i node → Holds b i node
holds_kept i any_node a b head here all holds = tt
holds_kept i (same_node to) a b head here all holds = absurd head
holds_kept i int32_node a b head here all holds = sym here ∙ holds
holds_kept i unit_node a b head here all holds = sym here ∙ holds
holds_kept i (variable_node of) a b head here all holds = sym here ∙ holds
holds_kept i (named_node by arguments) a b head here all holds = sym here ∙ holds ∙ ap (λ ts. named by (types_of ts)) (map_agree a b arguments all)
