-- The steps of a walk, over frames and types in memory.
use Rattle.std.proofs.Common.{◌≡◌, ◌≢◌, ◌<◌, ◌+◌, ◌++◌, ℕ, suc, List, [], ◌∷◌, length, map, get_or, set, sum_by, Some, All, inl, inr, refl, sym, ◌∙◌, ap, subst, arith}
use Rattle.std.proofs.lemmas.Bool.{cases_lt}
use Rattle.std.proofs.lemmas.List.{map_push, length_push, get_or_append_left, get_or_push, get_or_default}
use Rattle.std.proofs.lemmas.List.Elements.{All-push, All-weaker}
use Rattle.std.proofs.lemmas.Option.{slice_get_within, slice_get-get_or, get_or_from_slice_get}
use Rattle.kk_syntax.specs.declared.typed.TypeNode.{TypeNode}
use Rattle.kk_syntax.specs.Types.{TypeTree, type_at}
use Rattle.kk_syntax.specs.TypedPrograms.{type_of_node, types_behind, node_types}
use Rattle.kk_unify.specs.declared.walk.Mark.{Mark}
use Rattle.kk_unify.specs.declared.walk.Mark.TheVariants.{New, Entered, Numbered}
use Rattle.kk_unify.specs.declared.walk.Frame.{Frame}
use Rattle.kk_unify.specs.Graphs.{NodeTree, Assignment, Obeys, NoneObeys}
use Rattle.kk_unify.specs.Unification.{node_at, IsHead}
use Rattle.kk_unify.specs.Solutions.{NamesEarlier}
use Rattle.kk_unify.specs.GraphWalk.{root_at, IsRooted, size, arguments_of, mark_at, number_of, work_of, IsDone, types_so_far, made_type, Walks, IsReady, node_on, EachNamesEarlier, IsOn, KeepsNumbers}
use Rattle.kk_unify.proofs.GraphWalk.{done_from}
use Rattle.kk_unify.proofs.GraphWalk as on

-- one type more
types_push : (earlier : List TypeTree) (nodes : List TypeNode) (node : TypeNode) → types_behind earlier (nodes ++ (node ∷ [])) ≡ types_behind earlier nodes ++ (type_of_node (types_behind earlier nodes) node ∷ [])
types_push earlier [] node = refl
types_push earlier (first ∷ nodes) node = types_push (earlier ++ (type_of_node earlier first ∷ [])) nodes node

types_long : (earlier : List TypeTree) (nodes : List TypeNode) → length (types_behind earlier nodes) ≡ length earlier + length nodes
types_long earlier [] = omega arith
types_long earlier (first ∷ nodes) = omega (arith, types_long (earlier ++ (type_of_node earlier first ∷ [])) nodes, length_push earlier (type_of_node earlier first))

pub made_long : (made : List TypeNode) → length (node_types made) ≡ length made
made_long made = types_long [] made ∙ omega arith

-- two lists that a function each takes to the same, place by place
map_places : {X Y Z : Type 0} (f : X → Z) (g : Y → Z) (xs : List X) (ys : List Y) → length xs ≡ length ys → ((k : ℕ) (d : X) (e : Y) → k < length xs → f (get_or xs k d) ≡ g (get_or ys k e)) → map f xs ≡ map g ys
map_places f g [] [] long each = refl
map_places f g [] (y ∷ ys) long each = absurd (omega (arith, long))
map_places f g (x ∷ xs) [] long each = absurd (omega (arith, long))
map_places f g (x ∷ xs) (y ∷ ys) long each =
    let first : f x ≡ g y = each 0 x y (omega arith) in
    let rest : map f xs ≡ map g ys = map_places f g xs ys (omega (arith, long)) (λ k d e h. each (suc k) d e (omega (arith, h))) in
    cc

-- the type that is made names earlier ones
earlier_push : (made : List TypeNode) (node : TypeNode) → EachNamesEarlier made → NamesEarlier (length made) node → EachNamesEarlier (made ++ (node ∷ []))
earlier_push made node each here = λ number known is.
    let within : number < length made + 1 = omega (arith, slice_get_within (made ++ (node ∷ [])) number known is, length_push made node) in
    let at : get_or (made ++ (node ∷ [])) number known ≡ known = get_or_from_slice_get (made ++ (node ∷ [])) number known known is in
    let P : TypeNode → Type 0 = NamesEarlier number in
    elim (cases_lt number (length made)) [
      | inl before ↦ each number known (slice_get-get_or made number known before ∙ ap Some (sym (get_or_append_left made (node ∷ []) known number before) ∙ at))
      | inr past ↦
          let last : length made ≡ number = omega (arith, past, within) in
          let Q : ℕ → Type 0 = λ n. NamesEarlier n node in
          subst P (sym (get_or_push made node known number last) ∙ at) (subst Q last here)
    ]

ready_kept : (graph : List NodeTree) (roots : List ℕ) (marks more : List Mark) (frame : Frame) → KeepsNumbers marks more → IsReady graph roots marks frame → IsReady graph roots more frame
ready_kept graph roots marks more frame keeps ready = record {
  count = ready.count;
  each = λ k h. keeps _ _ (ready.each k h);
}

module _ (variables : ℕ) (graph : List NodeTree) (roots : List ℕ) (rooted : IsRooted variables graph roots) (marks : List Mark) (frames : List Frame) (frame next : Frame) (made : List TypeNode) (stands : IsOn variables graph roots marks (frames ++ (frame ∷ [])) made) (same_node : next.node ≡ frame.node) where
  walks : Walks variables graph roots marks (map node_on frames ++ (next.node ∷ [])) (node_types made)
  walks =
      let P : List ℕ → Type 0 = λ t. Walks variables graph roots marks t (node_types made) in
      subst P (map_push node_on frames frame ∙ ap (λ n. map node_on frames ++ (n ∷ [])) (sym same_node)) stands.walks

  older : All (IsReady graph roots marks) frames
  older = λ k d h.
      let P : Frame → Type 0 = IsReady graph roots marks in
      subst P (get_or_append_left frames (frame ∷ []) d k h) (stands.ready k d (omega (arith, h, length_push frames frame)))

  pub node_head : IsHead (node_at graph next.node)
  node_head = on.last_head variables graph roots rooted marks (map node_on frames) (node_types made) next.node walks

  -- the numbers of the arguments are those of types
  pub numbers_within : IsReady graph roots marks next → All (λ number. number < length made) next.numbers.items
  numbers_within ready = λ k d h.
      let number = get_or next.numbers.items k 0 in
      let argument = root_at roots (get_or (arguments_of (node_at graph next.node)) k 0) in
      let within = (walks.numbered argument number (ready.each k h)).within in
      omega (arith, within, made_long made, get_or_default next.numbers.items k d 0 h)

  pub left_keeps : KeepsNumbers marks (set marks next.node (Numbered (length made)))
  left_keeps = on.left_keeps variables graph roots rooted marks (map node_on frames) (node_types made) next.node walks (length made)

  module _ (ready : IsReady graph roots marks next) (all : length next.numbers.items ≡ length (arguments_of (node_at graph next.node))) where
    marked : (k : ℕ) (d e : ℕ) → k < length next.numbers.items → mark_at marks (root_at roots (get_or (arguments_of (node_at graph next.node)) k e)) ≡ Numbered (get_or next.numbers.items k d)
    marked k d e h =
        ap (λ a. mark_at marks (root_at roots a)) (get_or_default (arguments_of (node_at graph next.node)) k e 0 (omega (arith, h, all))) ∙ ready.each k h ∙ ap Numbered (get_or_default next.numbers.items k 0 d h)

    done : All (λ argument. IsDone (length (node_types made)) (mark_at marks (root_at roots argument))) (arguments_of (node_at graph next.node))
    done = λ k d h.
        let here : k < length next.numbers.items = omega (arith, h, all) in
        let number = get_or next.numbers.items k 0 in
        let argument = root_at roots (get_or (arguments_of (node_at graph next.node)) k d) in
        done_from (length (node_types made)) number (mark_at marks argument) (marked k 0 d here) ((walks.numbered argument number (marked k 0 d here)).within)

    same_arguments : map (type_at (node_types made)) next.numbers.items ≡ map (types_so_far roots marks (node_types made)) (arguments_of (node_at graph next.node))
    same_arguments = map_places (type_at (node_types made)) (types_so_far roots marks (node_types made)) next.numbers.items (arguments_of (node_at graph next.node)) all (λ k d e h.
        ap (λ (m : Mark). type_at (node_types made) (number_of m)) (sym (marked k d e h)))

    -- the node is left
    pub stands_left : (after : List Mark) (new : List TypeNode) (node : TypeNode) → after ≡ set marks next.node (Numbered (length made)) → new ≡ made ++ (node ∷ []) → type_of_node (node_types made) node ≡ made_type variables next.node (map (type_at (node_types made)) next.numbers.items) (node_at graph next.node) → NamesEarlier (length made) node → IsOn variables graph roots after frames new
    stands_left after new node after_is new_is made_is earlier =
        let P : List Mark → Type 0 = λ m. IsOn variables graph roots m frames new in
        let Q : List TypeNode → Type 0 = IsOn variables graph roots (set marks next.node (Numbered (length made))) frames in
        let t = made_type variables next.node (map (types_so_far roots marks (node_types made)) (arguments_of (node_at graph next.node))) (node_at graph next.node) in
        let types_are : node_types (made ++ (node ∷ [])) ≡ node_types made ++ (t ∷ []) =
        types_push [] made node ∙ ap (λ u. node_types made ++ (u ∷ [])) (made_is ∙ ap (λ ts. made_type variables next.node ts (node_at graph next.node)) same_arguments) in
        let W : List TypeTree → Type 0 = Walks variables graph roots (set marks next.node (Numbered (length made))) (map node_on frames) in
        let V : ℕ → Type 0 = λ n. Walks variables graph roots (set marks next.node (Numbered n)) (map node_on frames) (node_types made ++ (t ∷ [])) in
        subst P (sym after_is) (subst Q (sym new_is) record {
          walks = subst W (sym types_are) (subst V (made_long made) (on.walks_left variables graph roots rooted marks (map node_on frames) (node_types made) next.node walks done));
          ready = All-weaker (IsReady graph roots marks) (IsReady graph roots (set marks next.node (Numbered (length made)))) (λ f. ready_kept graph roots marks (set marks next.node (Numbered (length made))) f left_keeps) frames older;
          earlier = earlier_push made node stands.earlier earlier;
        })

  -- there is less to do
  pub left_less : (after : List Mark) → after ≡ set marks next.node (Numbered (length made)) → sum_by work_of after < sum_by work_of marks
  left_less after is = omega (arith, on.left_less variables graph roots rooted marks (map node_on frames) (node_types made) next.node walks (length made), ap (sum_by work_of) is)

  module _ (k : ℕ) (child : ℕ) (within : k < length (arguments_of (node_at graph next.node))) (child_is : root_at roots (get_or (arguments_of (node_at graph next.node)) k 0) ≡ child) where
    child_there : child < length graph
    child_there = omega (arith, on.child_within variables graph roots rooted marks (map node_on frames) (node_types made) next.node walks k within, child_is)

    pub child_within : child < length marks
    child_within =
        let there = child_there in
        omega (arith, there, walks.as_long)

    child_root : root_at roots child ≡ child
    child_root =
        let P : ℕ → Type 0 = λ n. root_at roots n ≡ n in
        subst P child_is (on.child_root variables graph roots rooted marks (map node_on frames) (node_types made) next.node walks k within)

    -- an argument that is on the way
    pub stands_again : mark_at marks child ≡ Entered → NoneObeys graph
    stands_again is = on.walks_again variables graph roots rooted marks (map node_on frames) (node_types made) next.node k walks within (ap (λ n. mark_at marks n) child_is ∙ is)

    module _ (new : mark_at marks child ≡ New) where
      pub entered_keeps : KeepsNumbers marks (set marks child Entered)
      entered_keeps = on.entered_keeps variables graph roots rooted marks child new

      pub entered_less : (after : List Mark) → after ≡ set marks child Entered → sum_by work_of after < sum_by work_of marks
      entered_less after is = omega (arith, on.entered_less variables graph roots rooted marks child new child_within, ap (sum_by work_of) is)

      -- an argument is entered
      pub stands_entered : (after : List Mark) (all : List Frame) (newest : Frame) → IsReady graph roots marks next → after ≡ set marks child Entered → all ≡ frames ++ (next ∷ []) ++ (newest ∷ []) → newest.node ≡ child → newest.numbers.items ≡ [] → IsOn variables graph roots after all made
      stands_entered after all newest ready after_is all_is newest_is empty =
          let P : List Mark → Type 0 = λ m. IsOn variables graph roots m all made in
          let Q : List Frame → Type 0 = λ f. IsOn variables graph roots (set marks child Entered) f made in
          let trail_is : map node_on (frames ++ (next ∷ []) ++ (newest ∷ [])) ≡ map node_on frames ++ (next.node ∷ []) ++ (child ∷ []) =
          map_push node_on (frames ++ (next ∷ [])) newest ∙ ap (λ t. t ++ (newest.node ∷ [])) (map_push node_on frames next) ∙ ap (λ n. map node_on frames ++ (next.node ∷ []) ++ (n ∷ [])) newest_is in
          let W : List ℕ → Type 0 = λ t. Walks variables graph roots (set marks child Entered) t (node_types made) in
          let R = IsReady graph roots (set marks child Entered) in
          let kept : (f : Frame) → IsReady graph roots marks f → R f = λ f. ready_kept graph roots marks (set marks child Entered) f entered_keeps in
          let fresh : R newest = record { count = omega (arith, ap length empty); each = λ k h. absurd (omega (arith, h, ap length empty)) } in
          subst P (sym after_is) (subst Q (sym all_is) record {
            walks = subst W (sym trail_is) (on.walks_entered variables graph roots rooted marks (map node_on frames ++ (next.node ∷ [])) (node_types made) child walks child_there child_root new smaller);
            ready = All-push R (frames ++ (next ∷ [])) newest (All-push R frames next (All-weaker (IsReady graph roots marks) R kept frames older) (kept next ready)) fresh;
            earlier = stands.earlier;
          })
        where
          smaller : (r : Assignment) → Obeys graph r → (p : ℕ) → p < length (map node_on frames ++ (next.node ∷ [])) → size (r child) < size (r (get_or (map node_on frames ++ (next.node ∷ [])) p 0))
          smaller r obeys p h =
              let P : ℕ → Type 0 = λ n. size (r n) < size (r (get_or (map node_on frames ++ (next.node ∷ [])) p 0)) in
              subst P child_is (on.falls_on variables graph roots rooted marks (map node_on frames) (node_types made) next.node k walks within r obeys p h)

-- a mark that is neither a number nor entered is new
pub is_new : (mark : Mark) → ((number : ℕ) → mark ≢ Numbered number) → mark ≢ Entered → mark ≡ New
is_new New none not_entered = refl
is_new Entered none not_entered = absurd (not_entered refl)
is_new (Numbered number) none not_entered = absurd (none number refl)
