use Rattle.std.proofs.Common.{◌≡◌, [], ◌∷◌, ◌++◌, map, Some, None, refl, ap, sym, ◌∙◌, subst, inl, inr, arith, rules}
use Rattle.std.proofs.lemmas.List.{map-append}
use Rattle.std.proofs.lemmas.Int.{to_z-of_z}
use mir.Syntax.{w32}
use mir.Val.{SFits}
use Rattle.kk_syntax.specs.declared.token.Symbol.TheVariants.{OpenParenthesis, CloseParenthesis, Comma}
use Rattle.kk_syntax.specs.Surface.{constructor as OfConstructor, exactly, patterns_of, written_pattern}
use Rattle.kk_parser.specs.declared.parser.Parser.{Parser}
use Rattle.kk_parser.specs.Forms.{open_pattern, pattern_of, constructor_of}
use Rattle.kk_parser.specs.Grammar.{bracketed, listed, listed_of, parts, parts_of}
use Rattle.kk_parser.specs.Kinds.{symbol, name, wildcard, constructor}
use Rattle.kk_parser.specs.Methods.{Read}
use Rattle.kk_parser.specs.Phrases.{Phrase, PhraseValue, token, opener, either, rule, ◌▸◌, pat}
use Rattle.kk_parser.specs.Reading.{fails_rule, fails_level, fails_front, fails_behind, fails_first, fails_second, fails_presence, finds_rule, finds_level, finds_both, finds_first, finds_second, finds_absence, finds_presence}
use Rattle.kk_parser.specs.Views.{boxed_pattern}
use Rattle.kk_parser.proofs.Lists.{Lists, lists_none, lists_one, lists_more, lists_end, lists_fails_first, lists_fails}
use Rattle.kk_parser.proofs.Steps.{gives_up_in, gives_up_as_in, reads_made_as, reads_as_within, symbol_read, wildcard_read, continues_start, continues_to, first_next, first_absent}
use Rattle.kk_parser.proofs.parser.Parser.+patterns.Goals as goal

-- a constructor's pattern, or one in brackets
abbrev construction_or_brackets : Phrase
construction_or_brackets = either (token constructor ▸ parts) (bracketed (rule pat))

in_brackets_means : (v : PhraseValue (bracketed (rule pat))) → pattern_of (inr (inr (inr (inr v)))) ≡ v.1.0
in_brackets_means (_, (pattern, _)) = refl

pub pattern-returns-in_err-pattern-clause-reads : goal.pattern-returns-in_err-pattern-clause-reads
pattern-returns-in_err-pattern-clause-reads t c =
    gives_up_in (rule pat) open_pattern boxed_pattern c.from_residual.result c.in_err-pattern.field-0.0 c.args.self.now
    c.args.self.now c.open_pattern.new.self (λ f r. fails_rule (fails_level r)) c.from_residual.ensures.1
    c.in_err-pattern.ensures.reads

pub pattern-returns-clause-reads : goal.pattern-returns-clause-reads
pattern-returns-clause-reads t c =
    let p = c.in_ok-pattern.ensures.reads in
    let new : Parser = record {
      alloc = c.open_pattern.new.self.alloc;
      rest = c.open_pattern.new.self.rest;
      depth =
          c.args.self.now.depth;
    } in
    subst (λ t. Read (rule pat) t c.args.self.now new) p.1 (finds_rule (finds_level p.2))

pub open_pattern-returns-then-is_at_wildcard-clause-reads : goal.open_pattern-returns-then-is_at_wildcard-clause-reads
open_pattern-returns-then-is_at_wildcard-clause-reads t c =
    let h = sym c.is_at_wildcard.ensures.value ∙ c.if-is_at_wildcard.true in
    reads_made_as open_pattern pattern_of boxed_pattern (inl tt) _ c.anything.result c.args.self.now c.advance.new.self c.anything.ensures refl
    (finds_first h (wildcard_read c.args.self.now c.advance.new.self h c.advance.ensures.rest c.advance.ensures.depth))

pub open_pattern-returns-in_err-name-clause-reads : goal.open_pattern-returns-in_err-name-clause-reads
open_pattern-returns-in_err-name-clause-reads t c =
    let h0 = sym c.is_at_wildcard.ensures.value ∙ c.if-is_at_wildcard.false in
    let h = sym c.is_at_name.ensures.value ∙ c.if-is_at_name.true in
    gives_up_as_in open_pattern (token name) pattern_of boxed_pattern c.from_residual.result c.in_err-name.field-0.0
    c.args.self.now c.args.self.now c.identifier.new.self (λ f r. fails_second h0 (fails_first h r))
    c.from_residual.ensures.1 c.in_err-name.ensures.reads

pub open_pattern-returns-then-is_at_name-clause-reads : goal.open_pattern-returns-then-is_at_name-clause-reads
open_pattern-returns-then-is_at_name-clause-reads t c =
    let h0 = sym c.is_at_wildcard.ensures.value ∙ c.if-is_at_wildcard.false in
    let h = sym c.is_at_name.ensures.value ∙ c.if-is_at_name.true in
    reads_made_as open_pattern pattern_of boxed_pattern (inr (inl c.in_ok-name.name)) _ c.pattern_variable.result c.args.self.now
    c.identifier.new.self c.pattern_variable.ensures refl (finds_second h0 (finds_first h c.in_ok-name.ensures.reads))

pub open_pattern-returns-in-Some-clause-reads : goal.open_pattern-returns-in-Some-clause-reads
open_pattern-returns-in-Some-clause-reads t c =
    let h0 = sym c.is_at_wildcard.ensures.value ∙ c.if-is_at_wildcard.false in
    let h1 = sym c.is_at_name.ensures.value ∙ c.if-is_at_name.false in
    let n = rw c.in-Some.is at c.number.ensures.takes in
    let fits : SFits w32 c.in-Some.value = search rules in
    reads_made_as open_pattern pattern_of boxed_pattern (inr (inr (inl c.in-Some.value))) _ c.exactly.result c.args.self.now
    c.number.new.self c.exactly.ensures (ap exactly (sym (to_z-of_z w32 c.in-Some.value fits)))
    (finds_second h0 (finds_second h1 (finds_first n.0 n.1)))

pub open_pattern-returns-then-is_at_constructor-clause-reads : goal.open_pattern-returns-then-is_at_constructor-clause-reads
open_pattern-returns-then-is_at_constructor-clause-reads t c =
    let h0 = sym c.is_at_wildcard.ensures.value ∙ c.if-is_at_wildcard.false in
    let h1 = sym c.is_at_name.ensures.value ∙ c.if-is_at_name.false in
    let n = rw c.in_default.is at c.number.ensures.takes in
    let h = sym c.is_at_constructor.ensures ∙ c.if-is_at_constructor.true in
    let here = first_absent (first_absent (first_absent (continues_start open_pattern c.args.self.now) h0) h1) n.0 in
    reads_as_within (first_next (continues_to open_pattern construction_or_brackets (λ v. inr (inr (inr v))) c.args.self.now
    c.args.self.now c.number.new.self n.1 n.2 here) h) pattern_of constructor_of boxed_pattern c.constructor_pattern.result
    c.constructor_pattern.new.self (λ v. refl) c.constructor_pattern.ensures.reads

pub open_pattern-returns-clause-reads : goal.open_pattern-returns-clause-reads
open_pattern-returns-clause-reads t c =
    let h0 = sym c.is_at_wildcard.ensures.value ∙ c.if-is_at_wildcard.false in
    let h1 = sym c.is_at_name.ensures.value ∙ c.if-is_at_name.false in
    let n = rw c.in_default.is at c.number.ensures.takes in
    let h = sym c.is_at_constructor.ensures ∙ c.if-is_at_constructor.false in
    let here = first_absent (first_absent (first_absent (continues_start open_pattern c.args.self.now) h0) h1) n.0 in
    reads_as_within (first_absent (continues_to open_pattern construction_or_brackets (λ v. inr (inr (inr v))) c.args.self.now
    c.args.self.now c.number.new.self n.1 n.2 here) h) pattern_of (λ v. v.1.0) boxed_pattern c.bracketed_pattern.result
    c.bracketed_pattern.new.self in_brackets_means c.bracketed_pattern.ensures.reads

pub constructor_pattern-returns-in_err-name-clause-reads : goal.constructor_pattern-returns-in_err-name-clause-reads
constructor_pattern-returns-in_err-name-clause-reads t c =
    gives_up_as_in (token constructor ▸ parts) (token constructor) constructor_of boxed_pattern c.from_residual.result
    c.in_err-name.field-0.0 c.args.self.now c.args.self.now c.constructor.new.self (λ f r. fails_front r) c.from_residual.ensures.1
    c.in_err-name.ensures.reads

pub constructor_pattern-returns-in_err-parts-clause-reads : goal.constructor_pattern-returns-in_err-parts-clause-reads
constructor_pattern-returns-in_err-parts-clause-reads t c =
    gives_up_as_in (token constructor ▸ parts) parts constructor_of boxed_pattern c.from_residual-in_err-parts.result
    c.in_err-parts.field-0.0 c.args.self.now c.constructor.new.self c.parts.new.self
    (λ f r. fails_behind c.in_ok-name.ensures.reads r) c.from_residual-in_err-parts.ensures.1 c.in_err-parts.ensures.reads

pub constructor_pattern-returns-clause-reads : goal.constructor_pattern-returns-clause-reads
constructor_pattern-returns-clause-reads t c =
    let called = c.in_ok-name.name in
    let given = c.in_ok-parts.ensures.reads in
    reads_made_as (token constructor ▸ parts) constructor_of boxed_pattern (called, given.0) _ c.constructor_pattern.result
    c.args.self.now c.parts.new.self c.constructor_pattern.ensures (ap (λ ps. OfConstructor called (patterns_of ps)) given.1)
    (finds_both c.in_ok-name.ensures.reads given.2)

pub parts-returns-then-not-is_at-clause-reads : goal.parts-returns-then-not-is_at-clause-reads
parts-returns-then-not-is_at-clause-reads t c =
    (None, sym (ap (map written_pattern) c.new.ensures.items), finds_absence (sym c.is_at.ensures.value ∙ c.if-not-is_at.true))

pub parts-returns-in_err-open-clause-reads : goal.parts-returns-in_err-open-clause-reads
parts-returns-in_err-open-clause-reads t c =
    let h = sym c.is_at.ensures.value ∙ c.if-not-is_at.false in
    gives_up_as_in parts (opener (symbol OpenParenthesis)) parts_of (λ ps. map written_pattern ps.items) c.from_residual.result
    c.in_err-open.field-0.0 c.args.self.now c.args.self.now c.open.new.self (λ f r. fails_presence h (fails_front r))
    c.from_residual.ensures.1 c.in_err-open.ensures.reads

pub parts-returns-in_err-parts-clause-reads : goal.parts-returns-in_err-parts-clause-reads
parts-returns-in_err-parts-clause-reads t c =
    let h = sym c.is_at.ensures.value ∙ c.if-not-is_at.false in
    gives_up_as_in parts (listed (rule pat)) parts_of (λ ps. map written_pattern ps.items) c.from_residual-in_err-parts.result
    c.in_err-parts.field-0.0 c.args.self.now c.open.new.self c.patterns.new.self
    (λ f r. fails_presence h (fails_behind c.in_ok-open.ensures.reads (fails_front r))) c.from_residual-in_err-parts.ensures.1
    c.in_err-parts.ensures.reads

pub parts-returns-in_err-expect-clause-reads : goal.parts-returns-in_err-expect-clause-reads
parts-returns-in_err-expect-clause-reads t c =
    let h = sym c.is_at.ensures.value ∙ c.if-not-is_at.false in
    gives_up_as_in parts (token (symbol CloseParenthesis)) parts_of (λ ps. map written_pattern ps.items)
    c.from_residual-in_err-expect.result c.in_err-expect.field-0.0 c.args.self.now c.patterns.new.self c.expect.new.self
    (λ f r. fails_presence h (fails_behind c.in_ok-open.ensures.reads (fails_behind c.in_ok-parts.ensures.reads.2 r)))
    c.from_residual-in_err-expect.ensures.1 c.in_err-expect.ensures.reads

pub parts-returns-clause-reads : goal.parts-returns-clause-reads
parts-returns-clause-reads t c =
    let h = sym c.is_at.ensures.value ∙ c.if-not-is_at.false in
    let list = c.in_ok-parts.ensures.reads in (
      Some (tt, (list.0, tt)),
      list.1,
      finds_presence h (finds_both c.in_ok-open.ensures.reads
          (finds_both list.2 c.in_ok-expect.ensures.reads)),
    )

pub patterns-returns-then-not-is_at_pattern-clause-reads : goal.patterns-returns-then-not-is_at_pattern-clause-reads
patterns-returns-then-not-is_at_pattern-clause-reads t c =
    let h = sym c.is_at_pattern.ensures ∙ c.if-not-is_at_pattern.true in
    let none = lists_none (rule pat) c.args.self.now h in
    (none.0, none.1 ∙ sym (ap (map written_pattern) c.new-patterns.ensures.items), none.2)

pub patterns-returns-in_err-first-clause-reads : goal.patterns-returns-in_err-first-clause-reads
patterns-returns-in_err-first-clause-reads t c =
    let h = sym c.is_at_pattern.ensures ∙ c.if-not-is_at_pattern.false in
    gives_up_as_in (listed (rule pat)) (rule pat) listed_of (λ ps. map written_pattern ps.items) c.from_residual.result
    c.in_err-first.field-0.0 c.args.self.now c.args.self.now c.pattern.new.self
    (λ f r. lists_fails_first (rule pat) c.args.self.now f h r) c.from_residual.ensures.1 c.in_err-first.ensures.reads

pub patterns-loop-self-init : goal.patterns-loop-self-init
patterns-loop-self-init t c =
    let h = sym c.is_at_pattern.ensures ∙ c.if-not-is_at_pattern.false in
    let is = c.in_ok-put.ensures ∙ ap (λ ps. ps ++ c.into_inner.result ∷ []) c.new-patterns.ensures.items ∙ ap (λ p. p ∷ [])
    c.into_inner.ensures in
    record {
      left = omega (arith, c.in_ok-first.ensures.left);
      read = subst (λ ps. Lists (rule pat) ps c.args.self.now c.pattern.new.self) (sym (ap (map written_pattern) is))
          (lists_one (rule pat) (boxed_pattern c.in_ok-first.first) c.args.self.now c.pattern.new.self h
          c.in_ok-first.ensures.reads);
    }

pub patterns-returns-in_err-next-clause-reads : goal.patterns-returns-in_err-next-clause-reads
patterns-returns-in_err-next-clause-reads t c =
    let h = sym c.is_at.ensures.value ∙ c.loop-self-test.true in
    let comma = symbol_read Comma c.loop-self.self c.advance.new.self h c.advance.ensures.rest c.advance.ensures.depth in
    gives_up_as_in (listed (rule pat)) (rule pat) listed_of (λ ps. map written_pattern ps.items) c.from_residual-in_err-next.result
    c.in_err-next.field-0.0 c.args.self.now c.advance.new.self c.pattern-in-loop-self.new.self
    (λ f r. lists_fails (rule pat) (map written_pattern c.loop-self.patterns.items) c.args.self.now c.loop-self.self
    c.advance.new.self f c.loop-self.invariant.read h comma r)
    c.from_residual-in_err-next.ensures.1 c.in_err-next.ensures.reads

pub patterns-loop-self-preserved : goal.patterns-loop-self-preserved
patterns-loop-self-preserved t c =
    let h = sym c.is_at.ensures.value ∙ c.loop-self-test.true in
    let comma = symbol_read Comma c.loop-self.self c.advance.new.self h c.advance.ensures.rest c.advance.ensures.depth in
    let next = c.in_ok-next.next in
    let is = c.in_ok-put-2.ensures ∙ ap (λ p. c.loop-self.patterns.items ++ p ∷ []) c.into_inner-in-loop-self.ensures in
    record {
      left = omega (arith, c.in_ok-next.ensures.left);
      read = subst (λ ps. Lists (rule pat) ps c.args.self.now c.pattern-in-loop-self.new.self)
          (sym (ap (map written_pattern) is ∙ map-append written_pattern c.loop-self.patterns.items (next.value ∷ [])))
          (lists_more (rule pat) (map written_pattern c.loop-self.patterns.items) (boxed_pattern next) c.args.self.now
          c.loop-self.self c.advance.new.self c.pattern-in-loop-self.new.self c.loop-self.invariant.read h comma
          c.in_ok-next.ensures.reads);
    }

pub patterns-returns-clause-reads : goal.patterns-returns-clause-reads
patterns-returns-clause-reads t c =
    lists_end (rule pat) (map written_pattern c.loop-self.patterns.items) c.args.self.now c.loop-self.self
    c.loop-self.invariant.read (sym c.is_at.ensures.value ∙ c.loop-self-test.false)

pub bracketed_pattern-returns-in_err-open-clause-reads : goal.bracketed_pattern-returns-in_err-open-clause-reads
bracketed_pattern-returns-in_err-open-clause-reads t c =
    gives_up_as_in (bracketed (rule pat)) (opener (symbol OpenParenthesis)) (λ v. v.1.0) boxed_pattern c.from_residual.result
    c.in_err-open.field-0.0 c.args.self.now c.args.self.now c.open.new.self (λ f r. fails_front r) c.from_residual.ensures.1
    c.in_err-open.ensures.reads

pub bracketed_pattern-returns-in_err-inner-clause-reads : goal.bracketed_pattern-returns-in_err-inner-clause-reads
bracketed_pattern-returns-in_err-inner-clause-reads t c =
    gives_up_as_in (bracketed (rule pat)) (rule pat) (λ v. v.1.0) boxed_pattern c.from_residual-in_err-inner.result
    c.in_err-inner.field-0.0 c.args.self.now c.open.new.self c.pattern.new.self
    (λ f r. fails_behind c.in_ok-open.ensures.reads (fails_front r)) c.from_residual-in_err-inner.ensures.1
    c.in_err-inner.ensures.reads

pub bracketed_pattern-returns-in_err-expect-clause-reads : goal.bracketed_pattern-returns-in_err-expect-clause-reads
bracketed_pattern-returns-in_err-expect-clause-reads t c =
    gives_up_as_in (bracketed (rule pat)) (token (symbol CloseParenthesis)) (λ v. v.1.0) boxed_pattern
    c.from_residual-in_err-expect.result c.in_err-expect.field-0.0 c.args.self.now c.pattern.new.self c.expect.new.self
    (λ f r. fails_behind c.in_ok-open.ensures.reads (fails_behind c.in_ok-inner.ensures.reads r))
    c.from_residual-in_err-expect.ensures.1 c.in_err-expect.ensures.reads

pub bracketed_pattern-returns-clause-reads : goal.bracketed_pattern-returns-clause-reads
bracketed_pattern-returns-clause-reads t c = (
  (tt, (boxed_pattern c.in_ok-inner.inner, tt)),
  refl,
  finds_both c.in_ok-open.ensures.reads
      (finds_both c.in_ok-inner.ensures.reads c.in_ok-expect.ensures.reads),
)
