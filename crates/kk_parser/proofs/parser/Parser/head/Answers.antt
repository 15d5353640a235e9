use Rattle.std.proofs.Common.{◌≡◌, List, Option, Some, None, sym, ◌∙◌, ap, refl, inl, inr}
use Rattle.kk_syntax.specs.declared.tree.Effect.{Effect}
use Rattle.kk_syntax.specs.declared.tree.Identifier.{Identifier}
use Rattle.kk_syntax.specs.Surface.{WrittenParameter, WrittenType}
use Rattle.kk_parser.specs.Forms.{WrittenHead, head, head_of}
use Rattle.kk_parser.specs.Grammar.{parameters, result}
use Rattle.kk_parser.specs.Kinds.{name_but_main}
use Rattle.kk_parser.specs.Phrases.{token}
use Rattle.kk_parser.specs.Reading.{fails_front, fails_behind, fails_first, fails_second, fails_presence, finds_both, finds_first, finds_second, finds_absence, finds_presence}
use Rattle.kk_parser.specs.Views.{head_view}
use Rattle.kk_parser.proofs.Steps.{gives_up_as_in}
use Rattle.kk_parser.proofs.parser.Parser.head.Goals as goal

abbrev made : Identifier → List WrittenParameter → List Effect → Option WrittenType → WrittenHead
made name ps es t = record { name = name; parameters = ps; effects = es; result = t }

same : (name : Identifier) (ps qs : List WrittenParameter) (es fs : List Effect) (t u : Option WrittenType) → ps ≡ qs → es ≡ fs → t ≡ u → made name ps es t ≡ made name qs fs u
same name ps qs es fs t u p e r = ap (λ x. made name x es t) p ∙ ap (λ x. made name qs x t) e ∙ ap (λ x. made name qs fs x) r

pub returns-in_err-parameters-clause-reads : goal.returns-in_err-parameters-clause-reads
returns-in_err-parameters-clause-reads c =
    let h = sym c.is_at_name.ensures.value ∙ c.if-is_at_name.true in
    gives_up_as_in head parameters head_of head_view c.from_residual-in_err-parameters.result c.in_err-parameters.field-0.0 c.args.self.now c.identifier.new.self c.parameters.new.self
    (λ f r. fails_first h (fails_behind c.in_ok-name.ensures.reads (fails_front r))) c.from_residual-in_err-parameters.ensures.1 c.in_err-parameters.ensures.reads

pub returns-then-not-is_at-clause-reads : goal.returns-then-not-is_at-clause-reads
returns-then-not-is_at-clause-reads c =
    let h = sym c.is_at_name.ensures.value ∙ c.if-is_at_name.true in
    let g = sym c.is_at.ensures.value ∙ c.if-not-is_at.true in
    let ps = c.in_ok-parameters.ensures.reads in
    (inl (c.in_ok-name.name, (ps.0, None)), same c.in_ok-name.name _ _ _ _ None None ps.1 (sym c.new.ensures.items) refl, finds_first h (finds_both c.in_ok-name.ensures.reads (finds_both ps.2 (finds_absence g))))

pub returns-in_err-effects-clause-reads : goal.returns-in_err-effects-clause-reads
returns-in_err-effects-clause-reads c =
    let h = sym c.is_at_name.ensures.value ∙ c.if-is_at_name.true in
    let g = sym c.is_at.ensures.value ∙ c.if-not-is_at.false in
    gives_up_as_in head result head_of head_view c.from_residual-in_err-effects.result c.in_err-effects.field-0.0 c.args.self.now c.parameters.new.self c.result.new.self
    (λ f r. fails_first h (fails_behind c.in_ok-name.ensures.reads (fails_behind c.in_ok-parameters.ensures.reads.2 (fails_presence g r)))) c.from_residual-in_err-effects.ensures.1 c.in_err-effects.ensures.reads

pub returns-then-is_at_name-clause-reads : goal.returns-then-is_at_name-clause-reads
returns-then-is_at_name-clause-reads c =
    let h = sym c.is_at_name.ensures.value ∙ c.if-is_at_name.true in
    let g = sym c.is_at.ensures.value ∙ c.if-not-is_at.false in
    let ps = c.in_ok-parameters.ensures.reads in
    let r = c.in_ok-effects.ensures.reads in
    (inl (c.in_ok-name.name, (ps.0, Some r.0)), same c.in_ok-name.name _ _ _ _ _ _ ps.1 (ap (λ x. x.0) r.1) (ap (λ x. Some x.1) r.1), finds_first h (finds_both c.in_ok-name.ensures.reads (finds_both ps.2 (finds_presence g r.2))))

pub returns-in_err-name-2-clause-reads : goal.returns-in_err-name-2-clause-reads
returns-in_err-name-2-clause-reads c =
    let h = sym c.is_at_name.ensures.value ∙ c.if-is_at_name.false in
    gives_up_as_in head (token name_but_main) head_of head_view c.from_residual-in_err-name-2.result c.in_err-name-2.field-0.0 c.args.self.now c.args.self.now c.identifier-2.new.self
    (λ f r. fails_second h (fails_front r)) c.from_residual-in_err-name-2.ensures.1 c.in_err-name-2.ensures.reads

pub returns-in_err-parameters-2-clause-reads : goal.returns-in_err-parameters-2-clause-reads
returns-in_err-parameters-2-clause-reads c =
    let h = sym c.is_at_name.ensures.value ∙ c.if-is_at_name.false in
    gives_up_as_in head parameters head_of head_view c.from_residual-in_err-parameters-2.result c.in_err-parameters-2.field-0.0 c.args.self.now c.identifier-2.new.self c.parameters-2.new.self
    (λ f r. fails_second h (fails_behind c.in_ok-name-2.ensures.reads (fails_front r))) c.from_residual-in_err-parameters-2.ensures.1 c.in_err-parameters-2.ensures.reads

pub returns-in_err-effects-2-clause-reads : goal.returns-in_err-effects-2-clause-reads
returns-in_err-effects-2-clause-reads c =
    let h = sym c.is_at_name.ensures.value ∙ c.if-is_at_name.false in
    gives_up_as_in head result head_of head_view c.from_residual-in_err-effects-2.result c.in_err-effects-2.field-0.0 c.args.self.now c.parameters-2.new.self c.result-2.new.self
    (λ f r. fails_second h (fails_behind c.in_ok-name-2.ensures.reads (fails_behind c.in_ok-parameters-2.ensures.reads.2 r))) c.from_residual-in_err-effects-2.ensures.1 c.in_err-effects-2.ensures.reads

pub returns-clause-reads : goal.returns-clause-reads
returns-clause-reads c =
    let h = sym c.is_at_name.ensures.value ∙ c.if-is_at_name.false in
    let ps = c.in_ok-parameters-2.ensures.reads in
    let r = c.in_ok-effects-2.ensures.reads in
    (inr (c.in_ok-name-2.name, (ps.0, r.0)), same c.in_ok-name-2.name _ _ _ _ _ _ ps.1 (ap (λ x. x.0) r.1) (ap (λ x. Some x.1) r.1), finds_second h (finds_both c.in_ok-name-2.ensures.reads (finds_both ps.2 r.2)))
