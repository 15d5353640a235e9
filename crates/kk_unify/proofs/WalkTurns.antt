-- A turn of a walk in memory: a node is left, or an argument is entered, or it is on the way.
use Rattle.std.proofs.Common.{◌≡◌, ◌<◌, ◌++◌, ℕ, Option, Some, None, MatchOption, List, [], ◌∷◌, length, get_or, set, All, inl, inr, sym, ◌∙◌, ap, subst, arith}
use Rattle.std.proofs.lemmas.List.{append-nil, get_or_default, get_or_past}
use Rattle.std.proofs.lemmas.Bool.{cases_eq, cases_lt}
use Rattle.kk_syntax.specs.declared.typed.TypeNode.{TypeNode}
use Rattle.kk_unify.specs.declared.walk.Mark.{Mark}
use Rattle.kk_unify.specs.declared.walk.Mark.TheVariants.{New, Entered}
use Rattle.kk_unify.specs.declared.walk.Frame.{Frame}
use Rattle.kk_unify.specs.declared.walk.Walk.{Walk}
use Rattle.kk_unify.specs.declared.walk.Rooted.{Rooted}
use Rattle.kk_unify.specs.Graphs.{NoneObeys}
use Rattle.kk_unify.specs.Unification.{node_at, IsHead}
use Rattle.kk_unify.specs.GraphWalk.{mark_at, IsOn, KeepsNumbers}
use Rattle.kk_unify.specs.WalkOf.{graph_in, IsRootedIn, Stands, work_left, IsComplete, IsWanted, IsLeft}
use Rattle.kk_unify.proofs.WalkSteps.{node_head, numbers_within, stands_left, left_keeps, left_less, child_within, stands_again, entered_keeps, entered_less, stands_entered, is_new}
use Rattle.kk_unify.proofs.GraphWalk.{mark_set, mark_other}

module _ (rooted : Rooted) (walk : Walk) (marks : List Mark) (frame next : Frame) (advanced : Option ℕ) (is_rooted : IsRootedIn rooted) (stands : Stands rooted walk (frame ∷ [])) (same_node : next.node ≡ frame.node) (marks_are : marks ≡ walk.marks.items) (tells : MatchOption advanced (IsComplete rooted marks next) (IsWanted rooted marks next)) where
  module _ (none : advanced ≡ None) where
    complete : IsComplete rooted walk.marks.items next
    complete =
        let P : Option ℕ → Type 0 = λ o. MatchOption o (IsComplete rooted marks next) (IsWanted rooted marks next) in
        let Q : List Mark → Type 0 = λ m. IsComplete rooted m next in
        subst Q marks_are (subst P none tells)

    pub left_head : IsHead (node_at (graph_in rooted) next.node)
    left_head = node_head rooted.variables (graph_in rooted) rooted.roots.items is_rooted walk.marks.items walk.frames.items frame next walk.made.items stands same_node

    pub left_numbers : All (λ number. number < length walk.made.items) next.numbers.items
    left_numbers = numbers_within rooted.variables (graph_in rooted) rooted.roots.items is_rooted walk.marks.items walk.frames.items frame next walk.made.items stands same_node complete.ready

    module _ (new : Walk) (left : IsLeft rooted walk new next) where
      pub turn_left : Stands rooted new []
      turn_left =
          let P : List Frame → Type 0 = λ frames. IsOn rooted.variables (graph_in rooted) rooted.roots.items new.marks.items frames new.made.items in
          subst P (sym (append-nil new.frames.items ∙ left.frames)) (stands_left rooted.variables (graph_in rooted) rooted.roots.items is_rooted walk.marks.items walk.frames.items frame next walk.made.items stands same_node complete.ready complete.all new.marks.items new.made.items left.made left.marks left.nodes left.made_is left.earlier)

      pub turn_left_less : work_left new < work_left walk
      turn_left_less = left_less rooted.variables (graph_in rooted) rooted.roots.items is_rooted walk.marks.items walk.frames.items frame next walk.made.items stands same_node new.marks.items left.marks

      pub turn_left_keeps : KeepsNumbers walk.marks.items new.marks.items
      turn_left_keeps =
          let P : List Mark → Type 0 = KeepsNumbers walk.marks.items in
          subst P (sym left.marks) (left_keeps rooted.variables (graph_in rooted) rooted.roots.items is_rooted walk.marks.items walk.frames.items frame next walk.made.items stands same_node)

  module _ (child : ℕ) (some : advanced ≡ Some child) where
    wanted : IsWanted rooted walk.marks.items next child
    wanted =
        let P : Option ℕ → Type 0 = λ o. MatchOption o (IsComplete rooted marks next) (IsWanted rooted marks next) in
        let Q : List Mark → Type 0 = λ m. IsWanted rooted m next child in
        subst Q marks_are (subst P some tells)

    pub wanted_within : child < length walk.marks.items
    wanted_within = child_within rooted.variables (graph_in rooted) rooted.roots.items is_rooted walk.marks.items walk.frames.items frame next walk.made.items stands same_node wanted.place.0 child wanted.place.1 wanted.place.2

    module _ (mark : Mark) (read : mark ≡ get_or walk.marks.items child mark) where
      marked : mark_at walk.marks.items child ≡ mark
      marked = get_or_default walk.marks.items child New mark wanted_within ∙ sym read

      pub turn_again : mark ≡ Entered → NoneObeys (graph_in rooted)
      turn_again is =
          stands_again rooted.variables (graph_in rooted) rooted.roots.items is_rooted walk.marks.items walk.frames.items frame next walk.made.items stands same_node wanted.place.0 child wanted.place.1 wanted.place.2 (marked ∙ is)

      module _ (not_entered : mark ≡ Entered → ⊥) where
        new_here : mark_at walk.marks.items child ≡ New
        new_here = is_new (mark_at walk.marks.items child) (λ number is. wanted.unnumbered number is) (λ is. not_entered (sym marked ∙ is))

        module _ (new : Walk) (marks_new : new.marks.items ≡ set walk.marks.items child Entered) where
          pub turn_entered : (newest : Frame) → new.made.items ≡ walk.made.items → new.frames.items ≡ walk.frames.items ++ (next ∷ []) ++ (newest ∷ []) → newest.node ≡ child → newest.numbers.items ≡ [] → Stands rooted new []
          turn_entered newest made_is frames_are newest_is empty =
              let P : List Frame → Type 0 = λ frames. IsOn rooted.variables (graph_in rooted) rooted.roots.items new.marks.items frames new.made.items in
              let Q : List TypeNode → Type 0 = IsOn rooted.variables (graph_in rooted) rooted.roots.items new.marks.items new.frames.items in
              subst P (sym (append-nil new.frames.items)) (subst Q (sym made_is) (stands_entered rooted.variables (graph_in rooted) rooted.roots.items is_rooted walk.marks.items walk.frames.items frame next walk.made.items stands same_node wanted.place.0 child wanted.place.1 wanted.place.2 new_here new.marks.items new.frames.items newest wanted.ready marks_new frames_are newest_is empty))

          pub turn_entered_less : work_left new < work_left walk
          turn_entered_less = entered_less rooted.variables (graph_in rooted) rooted.roots.items is_rooted walk.marks.items walk.frames.items frame next walk.made.items stands same_node wanted.place.0 child wanted.place.1 wanted.place.2 new_here new.marks.items marks_new

          pub turn_entered_keeps : KeepsNumbers walk.marks.items new.marks.items
          turn_entered_keeps =
              let P : List Mark → Type 0 = KeepsNumbers walk.marks.items in
              subst P (sym marks_new) (entered_keeps rooted.variables (graph_in rooted) rooted.roots.items is_rooted walk.marks.items walk.frames.items frame next walk.made.items stands same_node wanted.place.0 child wanted.place.1 wanted.place.2 new_here)

-- a mark that is set to one that is not new makes no node new
pub set_knows : (marks after : List Mark) (i : ℕ) (mark : Mark) → (mark ≡ New → ⊥) → after ≡ set marks i mark → (j : ℕ) → mark_at after j ≡ New → mark_at marks j ≡ New
set_knows marks after i mark known is j new =
    let new_there : mark_at (set marks i mark) j ≡ New = ap (λ m. mark_at m j) (sym is) ∙ new in
    elim (cases_eq j i) [
      | inl same ↦
          elim (cases_lt i (length marks)) [
            | inl within ↦ absurd (known (sym (mark_set marks i mark within) ∙ ap (λ n. mark_at (set marks i mark) n) (sym same) ∙ new_there))
            | inr past ↦ get_or_past marks j New (omega (arith, past, same))
          ]
      | inr other ↦ sym (mark_other marks i j mark other) ∙ new_there
    ]
