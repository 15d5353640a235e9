-- The next argument of a node on the way.
use Rattle.std.proofs.Common.{◌≡◌, ◌<◌, ◌+◌, ◌-◌, ◌++◌, ◌⊎◌, ℕ, List, [], ◌∷◌, length, get_or, take, drop, inl, inr, refl, sym, ◌∙◌, ap, arith}
use Rattle.std.proofs.lemmas.Bool.{cases_lt}
use Rattle.std.proofs.lemmas.List.{get_or_append_left, get_or_push, get_or_default, get_or-drop, get_or-take, length_push, length-take, length-drop}
use Rattle.kk_unify.specs.declared.node.Node.{Node}
use Rattle.kk_unify.specs.declared.walk.Mark.{Mark}
use Rattle.kk_unify.specs.declared.walk.Mark.TheVariants.{New, Entered, Numbered}
use Rattle.kk_unify.specs.declared.walk.Frame.{Frame}
use Rattle.kk_unify.specs.declared.walk.Rooted.{Rooted}
use Rattle.kk_unify.specs.Graphs.{NodeTree}
use Rattle.kk_unify.specs.NodesOf.{node_tree}
use Rattle.kk_unify.specs.Unification.{node_at}
use Rattle.kk_unify.specs.GraphWalk.{root_at, arguments_of, mark_at, IsReady}
use Rattle.kk_unify.specs.WalkOf.{graph_in, IsRootedIn, arguments_in, next_root, IsReadyIn, IsWanted}
use Rattle.kk_unify.proofs.NodeLists.{as_long, read}
use Rattle.kk_unify.proofs.GraphAssignments.{formed_at}
use Rattle.kk_unify.proofs.NodeRoots.{root_is}
use Rattle.kk_unify.proofs.Sizes.{arguments_formed}

-- one number more
ready_more : (graph : List NodeTree) (roots : List ℕ) (marks : List Mark) (frame more : Frame) (number : ℕ) → IsReady graph roots marks frame → more.node ≡ frame.node → more.numbers.items ≡ frame.numbers.items ++ (number ∷ []) → length frame.numbers.items < length (arguments_of (node_at graph frame.node)) → mark_at marks (root_at roots (get_or (arguments_of (node_at graph frame.node)) (length frame.numbers.items) 0)) ≡ Numbered number → IsReady graph roots marks more
ready_more graph roots marks frame more number ready node_is numbers_is lt is = record {
  count =
      let same : length (arguments_of (node_at graph more.node)) ≡ length (arguments_of (node_at graph frame.node)) = ap (λ n. length (arguments_of (node_at graph n))) node_is in
      omega (arith, same, lt, ap length numbers_is, length_push frame.numbers.items number);
  each = λ k h.
      let within : k < length frame.numbers.items + 1 = omega (arith, h, ap length numbers_is, length_push frame.numbers.items number) in
      let there : get_or more.numbers.items k 0 ≡ get_or (frame.numbers.items ++ (number ∷ [])) k 0 = ap (λ ns. get_or ns k 0) numbers_is in
      let marked : mark_at marks (root_at roots (get_or (arguments_of (node_at graph more.node)) k 0)) ≡ mark_at marks (root_at roots (get_or (arguments_of (node_at graph frame.node)) k 0)) = ap (λ n. mark_at marks (root_at roots (get_or (arguments_of (node_at graph n)) k 0))) node_is in
      elim (cases_lt k (length frame.numbers.items)) [
        | inl before ↦ marked ∙ ready.each k before ∙ ap Numbered (sym (there ∙ get_or_append_left frame.numbers.items (number ∷ []) 0 k before))
        | inr past ↦
            let last : length frame.numbers.items ≡ k = omega (arith, past, within) in
            marked ∙ ap (λ n. mark_at marks (root_at roots (get_or (arguments_of (node_at graph frame.node)) n 0))) (sym last) ∙ is ∙ ap Numbered (sym (there ∙ get_or_push frame.numbers.items number 0 k last))
      ];
}

module _ (rooted : Rooted) (marks : List Mark) (start now : Frame) (count index : ℕ) (arguments : List ℕ) (d : Node) (is_rooted : IsRootedIn rooted) (long : length marks ≡ length rooted.nodes.now) (lt : start.node < length rooted.nodes.now) (arguments_are : arguments ≡ arguments_of (node_tree (get_or rooted.nodes.now start.node d))) (count_is : count ≡ length start.numbers.items) (so_far : (now.node ≡ start.node) × IsReadyIn rooted marks now × (length now.numbers.items ≡ length start.numbers.items + index)) where
  known : arguments ≡ arguments_in rooted now.node
  known =
      arguments_are ∙ ap arguments_of (sym (read rooted.nodes.now start.node (get_or rooted.nodes.now start.node d) d lt refl)) ∙ ap (λ n. arguments_in rooted n) (sym so_far.0)

  module _ (more : index < length (take (length arguments - count) (drop count arguments))) where
    place : length now.numbers.items < length (arguments_in rooted now.node)
    place =
        omega (arith, more, count_is, so_far.2, ap length known, length-take (length arguments - count) (drop count arguments), length-drop count arguments)

    argument_is : get_or (take (length arguments - count) (drop count arguments)) index 0 ≡ get_or (arguments_in rooted now.node) (length now.numbers.items) 0
    argument_is =
        get_or-take (length arguments - count) (drop count arguments) index 0 (omega (arith, more, length-take (length arguments - count) (drop count arguments)))
        ∙ get_or-drop count arguments index 0 ∙ ap (λ n. get_or arguments n 0) (ap (λ n. n + index) count_is ∙ sym so_far.2) ∙ ap (λ xs. get_or xs (length now.numbers.items) 0) known

    argument_below : get_or (arguments_in rooted now.node) (length now.numbers.items) 0 < length (graph_in rooted)
    argument_below =
        let there : now.node < length (graph_in rooted) = omega (arith, so_far.0, lt, as_long rooted.nodes.now) in
        arguments_formed rooted.variables (length (graph_in rooted)) now.node (node_at (graph_in rooted) now.node) (formed_at rooted.variables (graph_in rooted) is_rooted.formed now.node there) (length now.numbers.items) 0 place

    pub argument_within : get_or (take (length arguments - count) (drop count arguments)) index 0 < length rooted.roots.items
    argument_within =
        let below = argument_below in
        omega (arith, argument_is, below, is_rooted.rooted.as_long)

    module _ (root : ℕ) (read_root : root ≡ get_or rooted.roots.items (get_or (take (length arguments - count) (drop count arguments)) index 0) root) where
      next_is : root ≡ next_root rooted now.node (length now.numbers.items)
      next_is =
          read_root ∙ get_or_default rooted.roots.items (get_or (take (length arguments - count) (drop count arguments)) index 0) root 0 argument_within ∙ ap (λ n. root_at rooted.roots.items n) argument_is

      pub root_within : root < length marks
      root_within =
          let below = argument_below in
          let small = (root_is rooted.variables (graph_in rooted) rooted.roots.items is_rooted.formed is_rooted.rooted (get_or (arguments_in rooted now.node) (length now.numbers.items) 0) below).below in
          omega (arith, next_is, small, below, long, as_long rooted.nodes.now)

      pub wanted : (mark_at marks root ≡ New) ⊎ (mark_at marks root ≡ Entered) → IsWanted rooted marks now root
      wanted is = record {
        ready = so_far.1;
        place = (length now.numbers.items, place, sym next_is);
        unnumbered = λ number numbered. elim is [
          | inl new ↦ (let both : Numbered number ≡ New = sym numbered ∙ new in cc)
          | inr entered ↦ (let both : Numbered number ≡ Entered = sym numbered ∙ entered in cc)
        ];
      }

      pub advanced : (number : ℕ) (next : Frame) → mark_at marks root ≡ Numbered number → next.node ≡ now.node → next.numbers.items ≡ now.numbers.items ++ (number ∷ []) → (next.node ≡ start.node) × IsReadyIn rooted marks next × (length next.numbers.items ≡ length start.numbers.items + (index + 1))
      advanced number next is node_is numbers_is = (
        node_is ∙ so_far.0,
        ready_more (graph_in rooted) rooted.roots.items marks now next number so_far.1 node_is numbers_is place (ap (λ n. mark_at marks n) (sym next_is) ∙ is),
        omega (arith, ap length numbers_is, length_push now.numbers.items number, so_far.2),
      )
