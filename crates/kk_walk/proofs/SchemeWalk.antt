-- A walk over a use of a scheme.
use Rattle.std.proofs.Common.{◌≡◌, ◌<◌, ℕ, true, false, Option, None, List, [], ◌++◌, length, map, refl, ap, sym, ◌∙◌, subst}
use Rattle.std.specs.Prelude.{Ok}
use Rattle.std.proofs.lemmas.List.{length-map}
use Rattle.kk_syntax.specs.Types.{TypeTree, put, type_at}
use Rattle.kk_syntax.specs.Typing.{Choice, Scheme, Uses}
use Rattle.kk_unify.specs.Graphs.{NodeTree, Assignment}
use Rattle.kk_walk.specs.declared.instance.Instance.{Instance}
use Rattle.kk_walk.specs.declared.walk.Walk.{Walk}
use Rattle.kk_walk.specs.Claims.{typed_as, both}
use Rattle.kk_walk.specs.Steps.{nodes_of, size_of, Goes, Walked, Instantiates}
use Rattle.kk_walk.specs.Walks.{Taking, Claim, Leads, Refused, IsOf, IsInstance}
use Rattle.kk_walk.proofs.WalkComposition.{goes_first, goes_on, refused_after}
use Rattle.kk_walk.proofs.ClaimComposition.{first_refused}

module _ (scheme : Option Scheme) (chosen : List TypeTree → List Choice) (want : ℕ) (A : Assignment → List TypeTree → List Choice → Type 0) where
  -- what is to be shown of a use, and what is left of it where its scheme is instantiated
  abbrev pub used : Claim
  used r choices = Uses scheme chosen (A r) (r want) choices

  abbrev pub taking_arguments : List ℕ → Claim
  taking_arguments takes r choices = A r (map r takes) choices

  abbrev pub giving : ℕ → Claim
  giving gives = typed_as want (λ r. r gives)

  -- there is no such scheme
  pub unused : (graph : List NodeTree) → scheme ≡ None → Refused graph used
  unused graph none = record { none = λ r choices obeys whole. let is = whole.is in cc }

  module _ (a b : List NodeTree) (taken : List Taking) (takes : List ℕ) (gives : ℕ) (made : IsInstance scheme chosen a b taken takes gives) (lt : want < length a) (of : (ts : List TypeTree) → IsOf (length a) (λ r. A r ts)) where
    pub instance_leads : Leads a b taken used (both (giving gives) (taking_arguments takes))
    instance_leads = record {
      longer = made.opens.longer;
      below = made.taken_inside;
      sound = λ r choices obeys left. (
        made.opens.sound r obeys,
        record {
          of = made.of;
          is = made.is;
          at = map r made.at;
          each = length-map made.at r ∙ made.opens.each;
          gives = left.3.0 ∙ made.result r obeys;
          rest = choices;
          choices_are = ap (λ l. l ++ choices) (made.taken_are r);
          arguments = subst (λ ts. A r ts choices) (made.parameters r obeys) (subst (A r (map r takes)) (sym (left.2 ∙ ap (λ l. l ++ left.1) left.3.1)) left.4);
        },
      );
      complete = λ r choices obeys whole.
          let is = sym whole.is ∙ made.is in
          let same : whole.of ≡ made.of = cc (is) in
          let each : length whole.at ≡ made.of.variables = whole.each ∙ ap (λ (s : Scheme). s.variables) same in
          let one = made.opens.complete r whole.at each obeys in
          let there : map one.0 made.at ≡ whole.at = one.3 in
          let given : one.0 want ≡ one.0 gives =
          sym (one.2 want lt) ∙ (whole.gives ∙ (ap (λ (s : Scheme). put (type_at whole.at) s.result) same ∙ (ap (λ ts. put (type_at ts) made.of.result) (sym there) ∙ sym (made.result one.0 one.1)))) in
          let taken_types : map (put (type_at whole.at)) whole.of.parameters ≡ map one.0 takes =
          ap (λ (s : Scheme). map (put (type_at whole.at)) s.parameters) same ∙ (ap (λ ts. map (put (type_at ts)) made.of.parameters) (sym there) ∙ sym (made.parameters one.0 one.1)) in (
            one.0,
            one.1,
            one.2,
            (
              whole.rest,
              whole.choices_are ∙ ap (λ l. l ++ whole.rest) (ap chosen (sym there) ∙ sym (made.taken_are one.0)),
              ([], whole.rest, refl, (given, refl), subst (λ ts. A one.0 ts whole.rest) taken_types ((of (map (put (type_at whole.at)) whole.of.parameters)).follows r one.0 whole.rest one.2 whole.arguments)),
            ),
          );
    }

  module _ (a b : Walk) (instance : Instance) (made : Instantiates scheme chosen a b instance) (lt : want < size_of a) (of : (ts : List TypeTree) → IsOf (size_of a) (λ r. A r ts)) where
    abbrev given : Claim
    given = giving instance.result

    abbrev arguments : Claim
    arguments = taking_arguments instance.parameters.items

    pub goes_used : Goes a b used (both given arguments)
    goes_used = record {
      taken = made.taken;
      takes = made.takes;
      same_scope = made.same_scope;
      same_variables = made.same_variables;
      leads = instance_leads (nodes_of a) (nodes_of b) made.taken instance.parameters.items instance.result made.nodes lt of;
    }

    -- what it gives cannot be of the type
    pub not_given : (c : Walk) → Walked b c given (Ok false) → Refused (nodes_of a) used
    not_given c walked = refused_after a b used (both given arguments) goes_used (first_refused (nodes_of b) given arguments walked)

    -- what it gives is of the type, and what is left are its arguments
    pub was_given : (c : Walk) → IsOf (size_of b) arguments → Walked b c given (Ok true) → Goes a c used arguments
    was_given c left walked = goes_on a b c used (both given arguments) arguments goes_used (goes_first b c given arguments left walked)
