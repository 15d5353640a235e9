use Rattle.std.proofs.Common.{◌≡◌, true, false, [], ◌∷◌, refl, ap, sym, ◌∙◌}
use Rattle.kk_syntax.specs.declared.tree.Effect.{Effect as OfEffect}
use Rattle.kk_syntax.specs.declared.tree.Effect.TheVariants.{Total, Div, Exn, Console}
use Rattle.kk_parser.specs.declared.name.NameClass.{NameClass as CodeClass}
use Rattle.kk_parser.specs.declared.name.NameClass.TheVariants.{Print, PrintLine, Main, Effect, TypeVariable, Other}
use Rattle.kk_parser.specs.Classes.{name_class}
use Rattle.kk_parser.specs.Kinds.{name_in, is_name_in, said_at, classes_of, effect_words}
use Rattle.kk_parser.specs.Views.{class_view}
use Rattle.kk_parser.proofs.Steps.{next_says-first, is_at-none, is_at-unsaid, is_at-name, unsaid_other}
use Rattle.kk_parser.proofs.parser.Parser.next_effect.Goals as goal

among : (e : OfEffect) → is_name_in effect_words (class_view (Effect e)) ≡ true
among Total = refl
among Div = refl
among Exn = refl
among Console = refl

itself : (e : OfEffect) → is_name_in (class_view (Effect e) ∷ []) (class_view (Effect e)) ≡ true
itself Total = refl
itself Div = refl
itself Exn = refl
itself Console = refl

no_effect : (class : CodeClass) → ((e : OfEffect) → class ≡ Effect e → ⊥) → is_name_in effect_words (class_view class) ≡ false
no_effect Print h = refl
no_effect PrintLine h = refl
no_effect Main h = refl
no_effect (Effect e) h = absurd (h e refl)
no_effect TypeVariable h = refl
no_effect Other h = refl

pub returns-in-Effect-clause-next : goal.returns-in-Effect-clause-next
returns-in-Effect-clause-next c =
    let next = c.in-Some.next.now in
    let class = c.name_class.ensures ∙ ap name_class c.as_str.ensures in
    is_at-name effect_words c.args.self.now.rest.now c.in-Name.name next.span.at true
    (sym (among c.in-Effect.effect) ∙ ap (is_name_in effect_words) (sym (ap class_view c.in-Effect.is) ∙ class))
    (next_says-first (name_in effect_words) c.args.self.now.rest.now c.first.result c.in-Some.next c.first.ensures.value c.in-Some.is ∙ ap (λ t. said_at (name_in effect_words) t next.span.at) c.in-Name.is)

pub returns-in-Effect-clause-class : goal.returns-in-Effect-clause-class
returns-in-Effect-clause-class c =
    let next = c.in-Some.next.now in
    let own = class_view (Effect c.in-Effect.effect) ∷ [] in
    let class = c.name_class.ensures ∙ ap name_class c.as_str.ensures in
    sym (is_at-name own c.args.self.now.rest.now c.in-Name.name next.span.at true
    (sym (itself c.in-Effect.effect) ∙ ap (is_name_in own) (sym (ap class_view c.in-Effect.is) ∙ class))
    (next_says-first (name_in own) c.args.self.now.rest.now c.first.result c.in-Some.next c.first.ensures.value c.in-Some.is ∙ ap (λ t. said_at (name_in own) t next.span.at) c.in-Name.is))

pub returns-in_default-name_class-clause-next : goal.returns-in_default-name_class-clause-next
returns-in_default-name_class-clause-next c =
    let next = c.in-Some.next.now in
    let class = c.name_class.ensures ∙ ap name_class c.as_str.ensures in
    is_at-name effect_words c.args.self.now.rest.now c.in-Name.name next.span.at false
    (sym (no_effect c.name_class.result c.in_default-name_class.not-Effect) ∙ ap (is_name_in effect_words) class)
    (next_says-first (name_in effect_words) c.args.self.now.rest.now c.first.result c.in-Some.next c.first.ensures.value c.in-Some.is ∙ ap (λ t. said_at (name_in effect_words) t next.span.at) c.in-Name.is)

pub returns-in_default-clause-next : goal.returns-in_default-clause-next
returns-in_default-clause-next c =
    let next = c.in-Some.next.now in
    sym (is_at-unsaid (name_in effect_words) c.args.self.now.rest.now (next_says-first (name_in effect_words) c.args.self.now.rest.now c.first.result c.in-Some.next c.first.ensures.value c.in-Some.is ∙ unsaid_other effect_words next.token next.span.at c.in_default.not-Name))

pub returns-in-None-clause-next : goal.returns-in-None-clause-next
returns-in-None-clause-next c = sym (is_at-none (classes_of (name_in effect_words)) c.args.self.now.rest.now c.first.result c.first.ensures.value c.in-None.is)
