-- The nodes that a walk adds are there for each graph.
use Rattle.std.proofs.Common.{◌≡◌, ◌<◌, ◌≤◌, inl, inr, ℕ, zero, suc, add-one, Some, List, [], ◌∷◌, ◌++◌, length, map, get_or, refl, ap, sym, subst, arith}
use Rattle.std.proofs.lemmas.Bool.{cases_lt}
use Rattle.std.proofs.lemmas.List.{get_or-map, get_or_past, length-map}
use Rattle.std.proofs.lemmas.List.Elements.{All-nil, All-cons}
use Rattle.kk_syntax.specs.declared.program.Form.{Form}
use Rattle.kk_syntax.specs.declared.program.Form.TheVariants.{Construct, Call}
use Rattle.kk_syntax.specs.Types.{TypeTree, TypeTrees, int32, unit_type, type_variable, named, no_type, type, types_of, type_list, put, put_each, type_at, variables_below}
use Rattle.kk_syntax.specs.Typing.{Scheme, chosen_at}
use Rattle.kk_unify.specs.Graphs.{NodeTree, any_node, int32_node, unit_node, variable_node, named_node, Assignment, Holds, IsFormed, IsNodeFormed}
use Rattle.kk_unify.proofs.GraphAssignments.{added, formed_more}
use Rattle.kk_walk.specs.Walks.{Taking, constructing_at, calling_at, choices_at, AreBelow, IsTakenBelow, AreTakenBelow, Agree, Builds, BuildsEach, Opens, IsInstance}
use Rattle.kk_walk.proofs.NewNodes.{adds_builds, adds_opens, builds_none, builds_more, opens_none, opens_more, stays}
use Rattle.kk_walk.proofs.TypeNodes.{at_nodes, builds_same, named_over}
use Rattle.kk_walk.proofs.Instances.{opens_still, one_below}
use Rattle.kk_walk.proofs.ClaimComposition.{agree_on, types_agree, below_more}

module _ (variables : ℕ) where
  -- a graph with a node of a type, with nodes of types, with new nodes
  pub record Built (graph : List NodeTree) (of : Assignment → TypeTree) : Type 0 where
    pub new : List NodeTree
    pub number : ℕ
    pub formed : IsFormed variables new
    pub builds : Builds graph new number of

  pub record BuiltEach (graph : List NodeTree) (of : Assignment → List TypeTree) : Type 0 where
    pub new : List NodeTree
    pub numbers : List ℕ
    pub formed : IsFormed variables new
    pub builds : BuildsEach graph new numbers of

  pub record Opened (graph : List NodeTree) (count : ℕ) : Type 0 where
    pub new : List NodeTree
    pub numbers : List ℕ
    pub formed : IsFormed variables new
    pub opens : Opens graph new numbers count

  pub record OneOpened (graph : List NodeTree) : Type 0 where
    pub new : List NodeTree
    pub node : ℕ
    pub formed : IsFormed variables new
    pub opens : Opens graph new (node ∷ []) 1

  module _ (graph : List NodeTree) (formed : IsFormed variables graph) where
    node_built : (node : NodeTree) (of : Assignment → TypeTree) → IsNodeFormed variables (length graph) (length graph) node → ((r q : Assignment) → Agree (length graph) r q → of r ≡ of q) → ((r : Assignment) → r (length graph) ≡ of r → Holds r (length graph) node) → ((r : Assignment) → Holds r (length graph) node → r (length graph) ≡ of r) → Built graph of
    node_built node of here follows says told = record {
      new = graph ++ (node ∷ []);
      number = length graph;
      formed = formed_more variables graph node formed here;
      builds = adds_builds variables graph (graph ++ (node ∷ [])) formed (length graph) of follows (added graph node (λ r. r (length graph) ≡ of r) says told);
    }

    -- a node of any type
    pub any_opened : OneOpened graph
    any_opened = record {
      new = graph ++ (any_node ∷ []);
      node = length graph;
      formed = formed_more variables graph any_node formed tt;
      opens = adds_opens variables graph (graph ++ (any_node ∷ [])) formed (length graph) (added graph any_node (λ r. Unit {0}) (λ r h. tt) (λ r h. tt));
    }

    pub int32_built : Built graph (λ r. int32)
    int32_built = node_built int32_node (λ r. int32) tt (λ r q agree. refl) (λ r h. h) (λ r h. h)

    unit_built : Built graph (λ r. unit_type)
    unit_built = node_built unit_node (λ r. unit_type) tt (λ r q agree. refl) (λ r h. h) (λ r h. h)

    variable_built : (x : ℕ) → x < variables → Built graph (λ r. type_variable x)
    variable_built x lt = node_built (variable_node x) (λ r. type_variable x) lt (λ r q agree. refl) (λ r h. h) (λ r h. h)

  -- so many nodes of any types
  pub opened : (count : ℕ) (graph : List NodeTree) → IsFormed variables graph → Opened graph count
  opened zero graph formed = record { new = graph; numbers = []; formed = formed; opens = opens_none graph }
  opened (suc n) graph formed =
      let before = opened n graph formed in
      let one = any_opened before.new before.formed in
      record {
        new = one.new;
        numbers = before.numbers ++ (one.node ∷ []);
        formed = one.formed;
        opens = subst (Opens graph one.new (before.numbers ++ (one.node ∷ []))) (add-one n) (opens_more graph before.new one.new before.numbers one.node n before.opens one.opens);
      }

  -- the types of variables that stand for themselves
  pub own_built : (count : ℕ) (graph : List NodeTree) → IsFormed variables graph → count ≤ variables → BuiltEach graph (λ r. variables_below count)
  own_built zero graph formed le = record { new = graph; numbers = []; formed = formed; builds = builds_none graph }
  own_built (suc n) graph formed le =
      let before = own_built n graph formed (omega arith) in
      let one = variable_built before.new before.formed n (omega arith) in
      record {
        new = one.new;
        numbers = before.numbers ++ (one.number ∷ []);
        formed = one.formed;
        builds = builds_more graph before.new one.new before.numbers one.number (λ r. variables_below n) (λ r. type_variable n) (λ r q agree. refl) before.builds one.builds;
      }

  -- a node, and then others
  module _ (a b c : List NodeTree) (number : ℕ) (numbers : List ℕ) (type : Assignment → TypeTree) (types : Assignment → List TypeTree) where
    builds_first : ((r q : Assignment) → Agree (length a) r q → type r ≡ type q) → Builds a b number type → BuildsEach b c numbers types → BuildsEach a c (number ∷ numbers) (λ r. type r ∷ types r)
    builds_first follows first rest = record {
      longer = omega (arith, first.longer, rest.longer);
      inside = All-cons (λ i. i < length c) number numbers (omega (arith, first.inside, rest.longer)) rest.inside;
      sound = λ r obeys.
          let two = rest.sound r obeys in
          let one = first.sound r two.0 in
          let here = one.1 in
          let there = two.1 in
          (one.0, cc);
      complete = λ r obeys.
          let one = first.complete r obeys in
          let two = rest.complete one.0 one.1 in
          (two.0, two.1, agree_on (length a) (length b) r one.0 two.0 first.longer one.2 two.2);
    }

  listed : (ts : TypeTrees) → types_of (type_list ts) ≡ ts
  listed no_type = refl
  listed (type t ts) = ap (type t) (listed ts)

  module _ (at : List ℕ) where
    follows_at : (size : ℕ) → AreBelow size at → {X : Type 0} (F : List TypeTree → X) (r q : Assignment) → Agree size r q → F (map r at) ≡ F (map q at)
    follows_at size inside F r q agree = ap F (types_agree size r q agree at inside)

    mutual
      pub type_built : (t : TypeTree) (graph : List NodeTree) → IsFormed variables graph → AreBelow (length graph) at → Built graph (λ r. put (at_nodes at r) t)
      type_built int32 graph formed inside = int32_built graph formed
      type_built unit_type graph formed inside = unit_built graph formed
      type_built (type_variable x) graph formed inside = elim (cases_lt x (length at)) [
        | inl lt ↦ record {
          new = graph;
          number = get_or at x 0;
          formed = formed;
          builds = stays graph (get_or at x 0) (λ r. type_at (map r at) x) (inside x 0 lt) (λ r. sym (get_or-map r at x 0 unit_type lt));
        }
        | inr past ↦
            let one = unit_built graph formed in
            record {
              new = one.new;
              number = one.number;
              formed = one.formed;
              builds = builds_same graph one.new one.number (λ r. unit_type) (λ r. type_at (map r at) x) (λ r. sym (get_or_past (map r at) x unit_type (omega (arith, length-map at r)))) one.builds;
            }
      ]
      type_built (named by ts) graph formed inside =
          let parts = types_built ts graph formed inside in
          let each = λ (r : Assignment). type_list (put_each (at_nodes at r) ts) in
          let one = node_built parts.new parts.formed (named_node by parts.numbers) (λ r. named by (types_of (map r parts.numbers))) parts.builds.inside (λ r q agree. ap (λ us. named by (types_of us)) (types_agree (length parts.new) r q agree parts.numbers parts.builds.inside)) (λ r h. h) (λ r h. h) in
          record {
            new = one.new;
            number = one.number;
            formed = one.formed;
            builds = builds_same graph one.new one.number (λ r. named by (types_of (each r))) (λ r. put (at_nodes at r) (named by ts)) (λ r. ap (named by) (listed (put_each (at_nodes at r) ts))) (named_over graph parts.new one.new parts.numbers each one.number by parts.builds one.builds);
          }

      pub types_built : (ts : TypeTrees) (graph : List NodeTree) → IsFormed variables graph → AreBelow (length graph) at → BuiltEach graph (λ r. type_list (put_each (at_nodes at r) ts))
      types_built no_type graph formed inside = record { new = graph; numbers = []; formed = formed; builds = builds_none graph }
      types_built (type t ts) graph formed inside =
          let first = type_built t graph formed inside in
          let rest = types_built ts first.new first.formed (below_more (length graph) (length first.new) at first.builds.longer inside) in
          record {
            new = rest.new;
            numbers = first.number ∷ rest.numbers;
            formed = rest.formed;
            builds = builds_first graph first.new rest.new first.number rest.numbers (λ r. put (at_nodes at r) t) (λ r. type_list (put_each (at_nodes at r) ts)) (follows_at (length graph) inside (λ us. put (type_at us) t)) first.builds rest.builds;
          }

    pub list_built : (ts : List TypeTree) (graph : List NodeTree) → IsFormed variables graph → AreBelow (length graph) at → BuiltEach graph (λ r. map (put (at_nodes at r)) ts)
    list_built [] graph formed inside = record { new = graph; numbers = []; formed = formed; builds = builds_none graph }
    list_built (t ∷ ts) graph formed inside =
        let first = type_built t graph formed inside in
        let rest = list_built ts first.new first.formed (below_more (length graph) (length first.new) at first.builds.longer inside) in
        record {
          new = rest.new;
          numbers = first.number ∷ rest.numbers;
          formed = rest.formed;
          builds = builds_first graph first.new rest.new first.number rest.numbers (λ r. put (at_nodes at r) t) (λ r. map (put (at_nodes at r)) ts) (follows_at (length graph) inside (λ us. put (type_at us) t)) first.builds rest.builds;
        }

  -- what is taken at a form
  abbrev takes_at : Form → List ℕ → List Taking
  takes_at (Construct c) at = constructing_at c at ∷ []
  takes_at (Call f) at = calling_at f at ∷ []
  takes_at form at = []

  taken_are : (form : Form) (at : List ℕ) (r : Assignment) → choices_at r (takes_at form at) ≡ chosen_at form (map r at)
  taken_are (Construct c) at r = refl
  taken_are (Call f) at r = refl
  taken_are form at r = refl

  taken_inside : (form : Form) (size : ℕ) (at : List ℕ) → AreBelow size at → AreTakenBelow size (takes_at form at)
  taken_inside (Construct c) size at h = one_below size (constructing_at c at) h
  taken_inside (Call f) size at h = one_below size (calling_at f at) h
  taken_inside form size at h = All-nil (IsTakenBelow size)

  -- a graph with a scheme at new nodes
  pub record Instanced (scheme : Scheme) (form : Form) (graph : List NodeTree) : Type 0 where
    pub new : List NodeTree
    pub formed : IsFormed variables new
    pub taken : List Taking
    pub takes : List ℕ
    pub gives : ℕ
    pub is : IsInstance (Some scheme) (chosen_at form) graph new taken takes gives

  pub instanced : (scheme : Scheme) (form : Form) (graph : List NodeTree) → IsFormed variables graph → Instanced scheme form graph
  instanced scheme form graph formed =
      let first = opened scheme.variables graph formed in
      let at = first.numbers in
      let second = list_built at scheme.parameters first.new first.formed first.opens.inside in
      let third = type_built at scheme.result second.new second.formed (below_more (length first.new) (length second.new) at second.builds.longer first.opens.inside) in
      let still = opens_still graph first.new second.new third.new at scheme.variables second.numbers (λ r. map (put (at_nodes at r)) scheme.parameters) third.number (λ r. put (at_nodes at r) scheme.result) first.opens second.builds third.builds in
      record {
        new = third.new;
        formed = third.formed;
        taken = takes_at form at;
        takes = second.numbers;
        gives = third.number;
        is = record {
          of = scheme;
          is = refl;
          at = at;
          opens = still;
          takes_inside = below_more (length second.new) (length third.new) second.numbers third.builds.longer second.builds.inside;
          gives_inside = third.builds.inside;
          parameters = λ r obeys. (second.builds.sound r (third.builds.sound r obeys).0).1;
          result = λ r obeys. (third.builds.sound r obeys).1;
          taken_inside = taken_inside form (length third.new) at still.inside;
          taken_are = taken_are form at;
        };
      }
