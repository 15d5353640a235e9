-- The rules for owned places say what the first part of Obeys says: each parameter at an owned place is owned.
use Rattle.std.proofs.Common.{◌≡◌, ◌<◌, ℕ, ◌+◌, Bool, true, false, ◌==◌, ◌&&◌, ◌||◌, List, [], ◌++◌, refl, sym, ap, ◌∙◌, subst, inl, inr, All, IsTrue, ◌↔◌}
use Rattle.std.proofs.lemmas.Bool.{both_ways, or_left, or_right, or_cases, eqb-true, eq-eqb, and_parts}
use Rattle.std.proofs.lemmas.List.Elements.{All-nil, All-cons, All-head, All-append}
use Rattle.kk_syntax.proofs.Lists.{all_left, all_right}
use Rattle.kk_syntax.proofs.Walks.{places_agree}
use Rattle.kk_syntax.specs.declared.program.Form.{Form}
use Rattle.kk_syntax.specs.declared.program.Form.TheVariants.{Construct, Call}
use Rattle.kk_syntax.specs.Programs.{ProgramTree}
use Rattle.kk_syntax.specs.Trees.{Tree}
use Rattle.kk_borrow.specs.declared.owned_place.Place.{Place}
use Rattle.kk_borrow.specs.declared.owned_place.Place.TheVariants.{Never, Always, With}
use Rattle.kk_syntax.specs.OwnedPositions.{PositionSet, arity_of, takes, to_uses, uses}
use Rattle.kk_borrow.specs.Rules.{RuleTree, Has, Keeps}
use Rattle.kk_borrow.specs.Demands.{place_in, place_if, at_place, to_rules, placed}

-- whether a place is owned by a set
abbrev pub holds : PositionSet → Place → Bool
holds set Never = false
holds set Always = true
holds set (With p) = set p.function p.parameter

-- each parameter of a function that passes a test is in a set
abbrev pub Demands : ProgramTree → PositionSet → ℕ → (ℕ → Bool) → Type 0
Demands program set f test = (x : ℕ) → x < arity_of program f → IsTrue (test x) → IsTrue (set f x)

join : (program : ProgramTree) (set : PositionSet) (f : ℕ) (xs ys : List RuleTree) (u v : ℕ → Bool)
    → (All (Keeps program set) xs ↔ Demands program set f u) → (All (Keeps program set) ys ↔ Demands program set f v)
    → All (Keeps program set) (xs ++ ys) ↔ Demands program set f (λ x. u x || v x)
join program set f xs ys u v a b = (
  λ all x lt is. elim (or_cases (u x) (v x) is) [
    | inl left ↦ a.0 (all_left (Keeps program set) xs ys all) x lt left
    | inr right ↦ b.0 (all_right (Keeps program set) xs ys all) x lt right
  ],
  λ asks.
      All-append (Keeps program set) xs ys
      (a.1 (λ x lt is. asks x lt (or_left (u x) (v x) is)))
      (b.1 (λ x lt is. asks x lt (or_right (u x) (v x) is))),
)

none : (program : ProgramTree) (set : PositionSet) (f : ℕ) → All (Keeps program set) [] ↔ Demands program set f (λ x. false)
none program set f = (λ all x lt is. absurd (both_ways false refl is), λ asks. All-nil (Keeps program set))

at_variable : (program : ProgramTree) (set : PositionSet) (f : ℕ) (place : Place) (of : ℕ) → All (Keeps program set) (at_place f place of) ↔ Demands program set f (λ x. holds set place && x == of)
at_variable program set f Never of = none program set f
at_variable program set f Always of = (
  λ all x lt is.
      let same = eqb-true x of is in
      subst (λ y. IsTrue (set f y)) (sym same) (All-head (Keeps program set) _ [] all (All-nil (Has set)) (subst (λ y. y < arity_of program f) same lt)),
  λ asks. All-cons (Keeps program set) _ [] (λ all lt. asks of lt (eq-eqb of of refl)) (All-nil (Keeps program set)),
)
at_variable program set f (With p) of = (
  λ all x lt is.
      let parts = and_parts (set p.function p.parameter) (x == of) is in
      let same = eqb-true x of parts.1 in
      subst (λ y. IsTrue (set f y)) (sym same)
      (All-head (Keeps program set) _ [] all (All-cons (Has set) p [] parts.0 (All-nil (Has set))) (subst (λ y. y < arity_of program f) same lt)),
  λ asks.
      All-cons (Keeps program set) _ []
      (λ all lt. asks of lt (ap (λ b. b && of == of) (All-head (Has set) p [] all) ∙ eq-eqb of of refl))
      (All-nil (Keeps program set)),
)

takes_place : (set : PositionSet) (form : Form) (index : ℕ) → holds set (place_in form index) ≡ takes set form index
takes_place set (Construct of) index = refl
takes_place set (Call function) index = refl
takes_place set form index = refl

holds_if : (set : PositionSet) (b : Bool) → holds set (place_if b) ≡ b
holds_if set true = refl
holds_if set false = refl

pub placed_same : (program : ProgramTree) (set : PositionSet) (f : ℕ) (place : Place) (t : Tree)
    → All (Keeps program set) (placed f place t) ↔ Demands program set f (λ x. uses set (holds set place) x t)
placed_same program set f place t =
    places_agree (to_rules f) (to_uses set) (λ (at : Place) (owned : Bool). holds set at ≡ owned)
    (λ (rules : List RuleTree) (test : ℕ → Bool). All (Keeps program set) rules ↔ Demands program set f test)
    (none program set f) (join program set f) (holds_if set) (takes_place set)
    (λ at owned of alike. subst (λ (b : Bool). All (Keeps program set) (at_place f at of) ↔ Demands program set f (λ x. b && x == of))
    alike (at_variable program set f at of))
    place (holds set place) refl t
