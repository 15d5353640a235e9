-- Schemes at nodes for their variables.
use Rattle.std.proofs.Common.{◌≡◌, ◌≤◌, ℕ, zero, suc, add-one, Option, Some, List, [], ◌∷◌, ◌++◌, length, map, take, refl, ap, sym, ◌∙◌, arith}
use Rattle.std.proofs.Common.{Vec, Global}
use Rattle.std.proofs.lemmas.List.{map-append, length-map, take_more, take_all}
use Rattle.std.proofs.lemmas.List.Elements.{All-nil, All-cons}
use Rattle.kk_syntax.specs.declared.typed.Taken.{Taken}
use Rattle.kk_syntax.specs.declared.program.Ty.{Ty}
use Rattle.kk_syntax.specs.Types.{TypeTree, unit_type, named, types_of, put, type_at, type_variable, type_tree, variables_below}
use Rattle.kk_syntax.specs.Typing.{Choice, Scheme}
use Rattle.kk_unify.specs.declared.graph.Graph.{Graph}
use Rattle.kk_unify.specs.Graphs.{NodeTree, Assignment, Adds, IsFormed}
use Rattle.kk_unify.specs.GraphOf.{graph_of, variables_of}
use Rattle.kk_walk.specs.declared.instance.Instance.{Instance}
use Rattle.kk_walk.specs.declared.walk.Walk.{Walk}
use Rattle.kk_walk.specs.Steps.{nodes_of, Instantiates}
use Rattle.kk_walk.specs.Walks.{Taking, taking_of, takings_of, choices_at, AreBelow, IsTakenBelow, AreTakenBelow, Builds, BuildsEach, Opens}
use Rattle.kk_walk.proofs.NewNodes.{adds_builds}
use Rattle.kk_walk.proofs.TypeNodes.{at_nodes, types_put, put_each_of, builds_same}
use Rattle.kk_walk.proofs.ClaimComposition.{agree_on, types_agree, below_more}

-- the first variables are the types that are put in their place
variables_put : (n : ℕ) (ts : List TypeTree) → n ≤ length ts → map (put (type_at ts)) (variables_below n) ≡ take n ts
variables_put zero ts le = refl
variables_put (suc n) ts le =
    let before = variables_put n ts (omega arith) in
    map-append (put (type_at ts)) (variables_below n) (type_variable n ∷ []) ∙ (ap (λ l. l ++ (type_at ts n ∷ [])) before ∙ (sym (take_more ts n unit_type (omega arith)) ∙ ap (λ k. take k ts) (add-one n)))

module _ (a b c d : List NodeTree) (at : List ℕ) (count : ℕ) (numbers : List ℕ) (types : Assignment → List TypeTree) (number : ℕ) (type : Assignment → TypeTree) (opens : Opens a b at count) (parts : BuildsEach b c numbers types) (whole : Builds c d number type) where
  -- the nodes of a scheme's variables, behind the types over them
  pub opens_still : Opens a d at count
  opens_still = record {
    longer = omega (arith, opens.longer, parts.longer, whole.longer);
    inside = below_more (length b) (length d) at (omega (arith, parts.longer, whole.longer)) opens.inside;
    each = opens.each;
    sound = λ r obeys. opens.sound r (parts.sound r (whole.sound r obeys).0).0;
    complete = λ r ts each obeys.
        let one = opens.complete r ts each obeys in
        let two = parts.complete one.0 one.1 in
        let three = whole.complete two.0 two.1 in
        let along = agree_on (length b) (length c) one.0 two.0 three.0 parts.longer two.2 three.2 in
        (three.0, three.1, agree_on (length a) (length b) r one.0 three.0 opens.longer one.2 along, sym (types_agree (length b) one.0 three.0 along at opens.inside) ∙ one.3);
  }

module _ (old : Walk) (g h k : Graph) (taken : Vec Taken Global) (at : List ℕ) (count : ℕ) (types : List Ty) (instance : Instance) (type : TypeTree) (opens : Opens (nodes_of old) (graph_of g) at count) (parts : BuildsEach (graph_of g) (graph_of h) instance.parameters.items (types_put at types)) (whole : Builds (graph_of h) (graph_of k) instance.result (λ r. put (at_nodes at r) type)) (same : variables_of k ≡ variables_of old.graph) where
  -- a scheme is instantiated
  pub instantiated : (scheme : Option Scheme) (chosen : List TypeTree → List Choice) (more : List Taking) → scheme ≡ Some (record { variables = count; parameters = map type_tree types; result = type }) → takings_of taken.items ≡ takings_of old.taken.items ++ more → ((size : ℕ) → AreBelow size at → AreTakenBelow size more) → ((r : Assignment) → choices_at r more ≡ chosen (map r at)) → Instantiates scheme chosen old (record old { graph = k; taken = taken }) instance
  instantiated scheme chosen more is grown below chosen_are =
      let still = opens_still (nodes_of old) (graph_of g) (graph_of h) (graph_of k) at count instance.parameters.items (types_put at types) instance.result (λ r. put (at_nodes at r) type) opens parts whole in
      record {
        taken = more;
        takes = grown;
        nodes = record {
          of = record { variables = count; parameters = map type_tree types; result = type };
          is = is;
          at = at;
          opens = still;
          takes_inside = below_more (length (graph_of h)) (length (graph_of k)) instance.parameters.items whole.longer parts.inside;
          gives_inside = whole.inside;
          parameters = λ r obeys. (parts.sound r (whole.sound r obeys).0).1;
          result = λ r obeys. (whole.sound r obeys).1;
          taken_inside = below (length (graph_of k)) still.inside;
          taken_are = chosen_are;
        };
        same_scope = refl;
        same_variables = same;
      }

-- a declared type at nodes for its variables
pub declared_builds : (variables : ℕ) (b c : List NodeTree) (formed : IsFormed variables b) (at : List ℕ) (number by count : ℕ) → length at ≡ count → AreBelow (length b) at → Adds b c number (λ r. r number ≡ named by (types_of (map r at))) → Builds b c number (λ r. put (at_nodes at r) (named by (types_of (variables_below count))))
declared_builds variables b c formed at number by count each inside adds =
    builds_same b c number (λ r. named by (types_of (map r at))) (λ r. put (at_nodes at r) (named by (types_of (variables_below count))))
    (λ r. ap (named by) (sym (put_each_of (at_nodes at r) (variables_below count) ∙ ap types_of (variables_put count (map r at) (omega (arith, length-map at r)) ∙ take_all count (map r at) (omega (arith, length-map at r))))))
    (adds_builds variables b c formed number (λ r. named by (types_of (map r at))) (λ r q agree. ap (λ ts. named by (types_of ts)) (types_agree (length b) r q agree at inside)) adds)

-- one place more
pub taken_grown : (old new : List Taken) (one : Taken) → new ≡ old ++ (one ∷ []) → takings_of new ≡ takings_of old ++ (taking_of one ∷ [])
taken_grown old new one grown = ap takings_of grown ∙ map-append taking_of old (one ∷ [])

pub one_below : (size : ℕ) (one : Taking) → IsTakenBelow size one → AreTakenBelow size (one ∷ [])
one_below size one h = All-cons (IsTakenBelow size) one [] h (All-nil (IsTakenBelow size))
