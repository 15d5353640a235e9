-- Nodes for the types that are written in a program.
use Rattle.std.proofs.Common.{◌≡◌, ◌<◌, ◌≤◌, ◌+◌, ℕ, List, [], ◌∷◌, ◌++◌, length, map, get_or, take, refl, ap, sym, ◌∙◌, subst, arith}
use Rattle.std.specs.Prelude.{Result, Ok, Err, IfOk}
use Rattle.std.proofs.lemmas.List.{map-append, get_or-map, get_or_past, length-map, take_more}
use Rattle.kk_base.specs.declared.error.NoMemory.{NoMemory}
use Rattle.kk_syntax.specs.declared.program.Ty.{Ty}
use Rattle.kk_syntax.specs.declared.program.Ty.TheVariants.{Int32, Unit as Nothing, Variable, Named}
use Rattle.kk_syntax.specs.Types.{TypeTree, int32, unit_type, named, types_of, put, put_each, type_at, type_tree}
use Rattle.kk_syntax.proofs.TypeViews.{int32_tree, unit_tree, variable_tree, named_tree}
use Rattle.kk_unify.specs.Graphs.{NodeTree, Assignment, Adds, IsFormed}
use Rattle.kk_walk.specs.Walks.{AreBelow, Agree, Builds, BuildsEach}
use Rattle.kk_walk.proofs.NewNodes.{adds_builds, builds_more, stays}
use Rattle.kk_walk.proofs.ClaimComposition.{agree_on, types_agree}

pub put_each_of : (s : ℕ → TypeTree) (ts : List TypeTree) → put_each s (types_of ts) ≡ types_of (map (put s) ts)
put_each_of s [] = refl
put_each_of s (t ∷ ts) = let rest = put_each_of s ts in cc

-- the same type in other words
pub builds_same : (a b : List NodeTree) (number : ℕ) (type other : Assignment → TypeTree) → ((r : Assignment) → type r ≡ other r) → Builds a b number type → Builds a b number other
builds_same a b number type other same builds = record {
  longer = builds.longer;
  inside = builds.inside;
  sound = λ r obeys. let one = builds.sound r obeys in (one.0, one.1 ∙ same r);
  complete = builds.complete;
}

-- an assignment puts the types of nodes in place of variables
abbrev pub at_nodes : List ℕ → Assignment → ℕ → TypeTree
at_nodes at r = type_at (map r at)

module _ (variables : ℕ) (a b : List NodeTree) (formed : IsFormed variables a) (result : Result ℕ NoMemory) (at : List ℕ) (ty : Ty) where
  plain_built : (t : TypeTree) → ((s : ℕ → TypeTree) → t ≡ put s (type_tree ty)) → (answer : Result ℕ NoMemory) → IfOk answer (λ number. Adds a b number (λ r. r number ≡ t)) → IfOk answer (λ number. Builds a b number (λ r. put (at_nodes at r) (type_tree ty)))
  plain_built t same (Ok number) adds = builds_same a b number (λ r. t) (λ r. put (at_nodes at r) (type_tree ty)) (λ r. same (at_nodes at r)) (adds_builds variables a b formed number (λ r. t) (λ r q agree. refl) adds)
  plain_built t same (Err error) adds = tt

  pub int32_built : ty ≡ Int32 → IfOk result (λ number. Adds a b number (λ r. r number ≡ int32)) → IfOk result (λ number. Builds a b number (λ r. put (at_nodes at r) (type_tree ty)))
  int32_built is adds = plain_built int32 (λ s. sym (ap (put s) (ap type_tree is ∙ int32_tree))) result adds

  pub unit_built : ty ≡ Nothing → IfOk result (λ number. Adds a b number (λ r. r number ≡ unit_type)) → IfOk result (λ number. Builds a b number (λ r. put (at_nodes at r) (type_tree ty)))
  unit_built is adds = plain_built unit_type (λ s. sym (ap (put s) (ap type_tree is ∙ unit_tree))) result adds

  -- a variable that has no node is `()`
  pub past_built : (x : ℕ) → ty ≡ Variable x → length at ≤ x → IfOk result (λ number. Adds a b number (λ r. r number ≡ unit_type)) → IfOk result (λ number. Builds a b number (λ r. put (at_nodes at r) (type_tree ty)))
  past_built x is past adds = past_at result adds
    where
      past_at : (answer : Result ℕ NoMemory) → IfOk answer (λ number. Adds a b number (λ r. r number ≡ unit_type)) → IfOk answer (λ number. Builds a b number (λ r. put (at_nodes at r) (type_tree ty)))
      past_at (Ok number) adds = builds_same a b number (λ r. unit_type) (λ r. put (at_nodes at r) (type_tree ty)) (λ r. sym (ap (put (at_nodes at r)) (ap type_tree is ∙ variable_tree x) ∙ get_or_past (map r at) x unit_type (omega (arith, length-map at r)))) (adds_builds variables a b formed number (λ r. unit_type) (λ r q agree. refl) adds)
      past_at (Err error) adds = tt

-- a variable is the node that it has
pub variable_built : (a : List NodeTree) (at : List ℕ) (ty : Ty) (x node : ℕ) → AreBelow (length a) at → ty ≡ Variable x → x < length at → node ≡ get_or at x node → Builds a a node (λ r. put (at_nodes at r) (type_tree ty))
variable_built a at ty x node inside is lt here =
    stays a node (λ r. put (at_nodes at r) (type_tree ty)) (subst (λ n. n < length a) (sym here) (inside x node lt))
    (λ r. ap r here ∙ (sym (get_or-map r at x node unit_type lt) ∙ sym (ap (put (at_nodes at r)) (ap type_tree is ∙ variable_tree x))))

module _ (a b c : List NodeTree) (numbers : List ℕ) (types : Assignment → List TypeTree) (number by : ℕ) where
  -- a declared type at nodes
  pub named_over : BuildsEach a b numbers types → Builds b c number (λ r. named by (types_of (map r numbers))) → Builds a c number (λ r. named by (types_of (types r)))
  named_over parts whole = record {
    longer = omega (arith, parts.longer, whole.longer);
    inside = whole.inside;
    sound = λ r obeys.
        let one = whole.sound r obeys in
        let two = parts.sound r one.0 in
        (two.0, one.1 ∙ ap (λ ts. named by (types_of ts)) two.1);
    complete = λ r obeys.
        let one = parts.complete r obeys in
        let two = whole.complete one.0 one.1 in
        (two.0, two.1, agree_on (length a) (length b) r one.0 two.0 parts.longer one.2 two.2);
  }

  named_builds : (variables : ℕ) → IsFormed variables b → BuildsEach a b numbers types → Adds b c number (λ r. r number ≡ named by (types_of (map r numbers))) → Builds a c number (λ r. named by (types_of (types r)))
  named_builds variables formed parts adds =
      named_over parts (adds_builds variables b c formed number (λ r. named by (types_of (map r numbers))) (λ r q agree. ap (λ ts. named by (types_of ts)) (types_agree (length b) r q agree numbers parts.inside)) adds)

-- types in the program at the types of nodes below
abbrev pub types_put : List ℕ → List Ty → Assignment → List TypeTree
types_put at types r = map (put (at_nodes at r)) (map type_tree types)

types_put_agree : (size : ℕ) (at : List ℕ) (types : List Ty) → AreBelow size at → (r q : Assignment) → Agree size r q → types_put at types r ≡ types_put at types q
types_put_agree size at types inside r q agree = ap (λ ts. map (put (type_at ts)) (map type_tree types)) (types_agree size r q agree at inside)

pub named_built : (variables : ℕ) (a b c : List NodeTree) (formed : IsFormed variables b) (result : Result ℕ NoMemory) (at numbers : List ℕ) (ty : Ty) (by : ℕ) (arguments : _) → ty ≡ Named by arguments → AreBelow (length a) at → BuildsEach a b numbers (types_put at arguments.items) → IfOk result (λ number. Adds b c number (λ r. r number ≡ named by (types_of (map r numbers)))) → IfOk result (λ number. Builds a c number (λ r. put (at_nodes at r) (type_tree ty)))
named_built variables a b c formed (Ok number) at numbers ty by arguments is inside parts adds =
    builds_same a c number (λ r. named by (types_of (types_put at arguments.items r))) (λ r. put (at_nodes at r) (type_tree ty))
    (λ r. ap (named by) (sym (put_each_of (at_nodes at r) (map type_tree arguments.items))) ∙ sym (ap (put (at_nodes at r)) (ap type_tree is ∙ named_tree by arguments)))
    (named_builds a b c numbers (types_put at arguments.items) number by variables formed parts adds)
named_built variables a b c formed (Err error) at numbers ty by arguments is inside parts adds = tt

-- one type more
pub each_built : (a b c : List NodeTree) (at numbers more : List ℕ) (types : List Ty) (i : ℕ) (ty : Ty) (number : ℕ) → AreBelow (length a) at → i < length types → ty ≡ get_or types i ty → more ≡ numbers ++ (number ∷ []) → BuildsEach a b numbers (types_put at (take i types)) → Builds b c number (λ r. put (at_nodes at r) (type_tree ty)) → BuildsEach a c more (types_put at (take (i + 1) types))
each_built a b c at numbers more types i ty number inside lt here grown parts next =
    subst (λ ns. BuildsEach a c ns (types_put at (take (i + 1) types))) (sym grown)
    (each_same (types_put at (take (i + 1) types)) (λ r. sym (ap (λ tys. map (put (at_nodes at r)) (map type_tree tys)) (take_more types i ty lt) ∙ (ap (map (put (at_nodes at r))) (map-append type_tree (take i types) (get_or types i ty ∷ [])) ∙ (map-append (put (at_nodes at r)) (map type_tree (take i types)) (type_tree (get_or types i ty) ∷ []) ∙ ap (λ t. types_put at (take i types) r ++ (put (at_nodes at r) (type_tree t) ∷ [])) (sym here)))))
    (builds_more a b c numbers number (types_put at (take i types)) (λ r. put (at_nodes at r) (type_tree ty)) (types_put_agree (length a) at (take i types) inside) parts next))
  where
    each_same : (other : Assignment → List TypeTree) → ((r : Assignment) → types_put at (take i types) r ++ (put (at_nodes at r) (type_tree ty) ∷ []) ≡ other r) → BuildsEach a c (numbers ++ (number ∷ [])) (λ r. types_put at (take i types) r ++ (put (at_nodes at r) (type_tree ty) ∷ [])) → BuildsEach a c (numbers ++ (number ∷ [])) other
    each_same other same builds = record {
      longer = builds.longer;
      inside = builds.inside;
      sound = λ r obeys. let one = builds.sound r obeys in (one.0, one.1 ∙ same r);
      complete = builds.complete;
    }
