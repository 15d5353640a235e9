-- A walk begins at a root, where no node is on the way.
use Rattle.std.proofs.Common.{◌≡◌, ◌≢◌, ◌<◌, ◌++◌, ℕ, List, [], ◌∷◌, length, get_or, set, sym, ◌∙◌, ap, subst, arith}
use Rattle.std.proofs.lemmas.List.{append-nil, get_or_default}
use Rattle.std.proofs.lemmas.List.Elements.{All-push, All-nil}
use Rattle.kk_syntax.specs.declared.typed.TypeNode.{TypeNode}
use Rattle.kk_syntax.specs.TypedPrograms.{node_types}
use Rattle.kk_unify.specs.declared.walk.Mark.{Mark}
use Rattle.kk_unify.specs.declared.walk.Mark.TheVariants.{New, Entered, Numbered}
use Rattle.kk_unify.specs.declared.walk.Frame.{Frame}
use Rattle.kk_unify.specs.declared.walk.Walk.{Walk}
use Rattle.kk_unify.specs.declared.walk.Rooted.{Rooted}
use Rattle.kk_unify.specs.GraphWalk.{root_at, mark_at, Walks, IsReady, IsOn, KeepsNumbers}
use Rattle.kk_unify.specs.WalkOf.{graph_in, IsRootedIn, Stands, IsEntered}
use Rattle.kk_unify.proofs.NodeLists.{as_long}
use Rattle.kk_unify.proofs.GraphWalk.{mark_set, keeps_set, walks_entered}

module _ (rooted : Rooted) (walk : Walk) (root : ℕ) (mark : Mark) (is_rooted : IsRootedIn rooted) (stands : Stands rooted walk []) (none : walk.frames.items ≡ []) (at : (root < length rooted.nodes.now) × (root_at rooted.roots.items root ≡ root)) (read : mark ≡ get_or walk.marks.items root mark) where
  within : root < length walk.marks.items
  within = omega (arith, at.0, stands.walks.as_long, as_long rooted.nodes.now)

  marked : mark_at walk.marks.items root ≡ mark
  marked = get_or_default walk.marks.items root New mark within ∙ sym read

  -- the root is known
  pub begins_known : (mark ≡ New → ⊥) → Stands rooted walk [] × KeepsNumbers walk.marks.items walk.marks.items × (mark_at walk.marks.items root ≢ New)
  begins_known not_new = (stands, (λ i number is. is), λ new. not_new (sym marked ∙ new))

  -- the root is entered
  module _ (new : Walk) (is_new : mark ≡ New) (entered : IsEntered walk new root) where
    empty : walk.frames.items ++ [] ≡ []
    empty = append-nil walk.frames.items ∙ none

    bare : IsOn rooted.variables (graph_in rooted) rooted.roots.items walk.marks.items [] walk.made.items
    bare =
        let P : List Frame → Type 0 = λ frames. IsOn rooted.variables (graph_in rooted) rooted.roots.items walk.marks.items frames walk.made.items in
        subst P empty stands

    one_frame : new.frames.items ++ [] ≡ entered.frame ∷ []
    one_frame = append-nil new.frames.items ∙ entered.frames ∙ ap (λ (frames : List Frame). frames ++ (entered.frame ∷ [])) none

    graph_within : root < length (graph_in rooted)
    graph_within = omega (arith, at.0, as_long rooted.nodes.now)

    stands_new : IsOn rooted.variables (graph_in rooted) rooted.roots.items (set walk.marks.items root Entered) (entered.frame ∷ []) walk.made.items
    stands_new =
        let W : ℕ → Type 0 = λ n. Walks rooted.variables (graph_in rooted) rooted.roots.items (set walk.marks.items root Entered) (n ∷ []) (node_types walk.made.items) in
        let R = IsReady (graph_in rooted) rooted.roots.items (set walk.marks.items root Entered) in
        record {
          walks = subst W (sym entered.node_is) (walks_entered rooted.variables (graph_in rooted) rooted.roots.items is_rooted walk.marks.items [] (node_types walk.made.items) root bare.walks graph_within at.1 (marked ∙ is_new) (λ r obeys p h. absurd (omega (arith, h))));
          ready = All-push R [] entered.frame (All-nil R) (record {
            count = omega (arith, ap length entered.numbers);
            each = λ k h. absurd (omega (arith, h, ap length entered.numbers));
          });
          earlier = bare.earlier;
        }

    pub begins_entered : Stands rooted new [] × KeepsNumbers walk.marks.items new.marks.items × (mark_at new.marks.items root ≢ New)
    begins_entered =
        let P : List Mark → Type 0 = λ marks. IsOn rooted.variables (graph_in rooted) rooted.roots.items marks (new.frames.items ++ []) new.made.items in
        let Q : List Frame → Type 0 = λ frames. IsOn rooted.variables (graph_in rooted) rooted.roots.items (set walk.marks.items root Entered) frames new.made.items in
        let R : List TypeNode → Type 0 = IsOn rooted.variables (graph_in rooted) rooted.roots.items (set walk.marks.items root Entered) (entered.frame ∷ []) in
        let K : List Mark → Type 0 = λ marks. KeepsNumbers walk.marks.items marks × (mark_at marks root ≢ New) in
        let keeps : KeepsNumbers walk.marks.items (set walk.marks.items root Entered) = keeps_set walk.marks.items root Entered (λ number is. let both : Numbered number ≡ New = sym is ∙ marked ∙ is_new in cc) in
        let known : mark_at (set walk.marks.items root Entered) root ≢ New = λ is. let both : Entered ≡ New = sym (mark_set walk.marks.items root Entered within) ∙ is in cc in
        let kept = subst K (sym entered.marks) (keeps, known) in
        (subst P (sym entered.marks) (subst Q (sym one_frame) (subst R (sym entered.made) stands_new)), kept.0, kept.1)
