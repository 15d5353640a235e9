use Rattle.std.proofs.Common.{◌≡◌, true, false, [], ◌∷◌, Some, refl, ap, sym, ◌∙◌, inl, inr}
use Rattle.kk_syntax.specs.declared.tree.Effect.TheVariants.{Total, Div, Exn, Console}
use Rattle.kk_parser.specs.declared.name.NameClass.{NameClass as CodeClass}
use Rattle.kk_parser.specs.declared.name.NameClass.TheVariants.{Print, PrintLine, Main, Effect, TypeVariable, Other}
use Rattle.kk_parser.specs.Classes.{Word, word, print, println, name_class}
use Rattle.kk_parser.specs.Kinds.{name_in, is_name_in, said_at, classes_of}
use Rattle.kk_parser.specs.Reading.{fails_token, fails_second, finds_first, finds_second}
use Rattle.kk_parser.specs.Views.{class_view}
use Rattle.kk_parser.proofs.Steps.{next_says-first, is_at-none, is_at-unsaid, is_at-said, said_name, unsaid_name, unsaid_other, token_read}
use Rattle.kk_parser.proofs.parser.Parser.print_word.Goals as goal
use Rattle.kk_parser.proofs.parser.Parser.print_word.Goals.{in-Print, in-PrintLine}

no_print : (class : CodeClass) → (class ≡ Print → ⊥) → is_name_in (word print ∷ []) (class_view class) ≡ false
no_print Print h = absurd (h refl)
no_print PrintLine h = refl
no_print Main h = refl
no_print (Effect Total) h = refl
no_print (Effect Div) h = refl
no_print (Effect Exn) h = refl
no_print (Effect Console) h = refl
no_print TypeVariable h = refl
no_print Other h = refl

no_println : (class : CodeClass) → (class ≡ PrintLine → ⊥) → is_name_in (word println ∷ []) (class_view class) ≡ false
no_println Print h = refl
no_println PrintLine h = absurd (h refl)
no_println Main h = refl
no_println (Effect Total) h = refl
no_println (Effect Div) h = refl
no_println (Effect Exn) h = refl
no_println (Effect Console) h = refl
no_println TypeVariable h = refl
no_println Other h = refl

pub returns-in_default-name_class-clause-reads : goal.returns-in_default-name_class-clause-reads
returns-in_default-name_class-clause-reads c =
    let next = c.in-Some.next.now in
    let rest = c.args.self.now.rest.now in
    let class : class_view c.name_class.result ≡ name_class c.in-Name.name = c.name_class.ensures ∙ ap name_class c.as_str.ensures in
    let unsaid = λ (w : Word) (h : is_name_in (word w ∷ []) (class_view c.name_class.result) ≡ false).
    is_at-unsaid (name_in (word w ∷ [])) rest (next_says-first (name_in (word w ∷ [])) rest c.first.result c.in-Some.next c.first.ensures.value c.in-Some.is ∙ ap (λ t. said_at (name_in (word w ∷ [])) t next.span.at) c.in-Name.is
    ∙ unsaid_name (word w ∷ []) c.in-Name.name next.span.at (sym (ap (is_name_in (word w ∷ [])) class) ∙ h)) in
    fails_second (unsaid print (no_print c.name_class.result c.in_default-name_class.not-Print)) (fails_token (unsaid println (no_println c.name_class.result c.in_default-name_class.not-PrintLine)))

pub returns-in_ok-name-in-Name-clause-reads : goal.returns-in_ok-name-in-Name-clause-reads
returns-in_ok-name-in-Name-clause-reads c =
    let next = c.in-Some.next.now in
    let old = c.args.self.now in
    let new = c.take_name.new.self in
    let name = c.in_ok-name-in-Name.name in
    let known = c.in_ok-name-in-Name.ensures in
    let class : name_class c.in-Name.name ≡ class_view c.name_class.result = sym (c.name_class.ensures ∙ ap name_class c.as_str.ensures) in
    let says = λ (w : Word). next_says-first (name_in (word w ∷ [])) old.rest.now c.first.result c.in-Some.next c.first.ensures.value c.in-Some.is ∙ ap (λ t. said_at (name_in (word w ∷ [])) t next.span.at) c.in-Name.is in
    let said = λ (w : Word) (h : is_name_in (word w ∷ []) (name_class c.in-Name.name) ≡ true). says w ∙ said_name (word w ∷ []) c.in-Name.name next.span.at h ∙ ap Some (sym known.copied) in
    elim c.match-name_class.branch [
      | in-Print w ↦
          (let e = said print (ap (is_name_in (word print ∷ [])) (class ∙ ap class_view w.in-Print.is)) in (
            inl name,
            ap (λ form. (form, name)) (sym w.form-is),
            finds_first (is_at-said (name_in (word print ∷ [])) old.rest.now name e) (token_read (name_in (word print ∷ [])) old new name e known.rest known.depth),
          ))
      | in-PrintLine w ↦
          (let is = class ∙ ap class_view w.in-PrintLine.is in
          let e = said println (ap (is_name_in (word println ∷ [])) is) in (
            inr name,
            ap (λ form. (form, name)) (sym w.form-is),
            finds_second (is_at-unsaid (name_in (word print ∷ [])) old.rest.now (says print ∙ unsaid_name (word print ∷ []) c.in-Name.name next.span.at (ap (is_name_in (word print ∷ [])) is)))
                (token_read (name_in (word println ∷ [])) old new name e known.rest known.depth),
          ))
    ]

pub returns-in_default-clause-reads : goal.returns-in_default-clause-reads
returns-in_default-clause-reads c =
    let next = c.in-Some.next.now in
    let rest = c.args.self.now.rest.now in
    let unsaid = λ (w : Word).
    is_at-unsaid (name_in (word w ∷ [])) rest (next_says-first (name_in (word w ∷ [])) rest c.first.result c.in-Some.next c.first.ensures.value c.in-Some.is ∙ unsaid_other (word w ∷ []) next.token next.span.at c.in_default.not-Name) in
    fails_second (unsaid print) (fails_token (unsaid println))

pub returns-in-None-clause-reads : goal.returns-in-None-clause-reads
returns-in-None-clause-reads c =
    fails_second (is_at-none (classes_of (name_in (word print ∷ []))) c.args.self.now.rest.now c.first.result c.first.ensures.value c.in-None.is)
    (fails_token (is_at-none (classes_of (name_in (word println ∷ []))) c.args.self.now.rest.now c.first.result c.first.ensures.value c.in-None.is))
