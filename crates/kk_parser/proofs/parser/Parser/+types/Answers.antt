use Rattle.std.proofs.Common.{[], ◌∷◌, ◌++◌, map, Some, None, refl, ap, sym, ◌∙◌, subst, inl, inr, arith}
use Rattle.std.proofs.lemmas.List.{map-append}
use Rattle.kk_syntax.specs.declared.token.Symbol.TheVariants.{OpenParenthesis, CloseParenthesis, Comma, Less, Greater}
use Rattle.kk_syntax.specs.Surface.{unit_type, named, types_of, written_type}
use Rattle.kk_parser.specs.declared.parser.Parser.{Parser}
use Rattle.kk_parser.specs.Forms.{in_brackets, inside, type_by, type_by_of}
use Rattle.kk_parser.specs.Grammar.{some_listed, some_listed_of, type_arguments, type_arguments_of}
use Rattle.kk_parser.specs.Kinds.{symbol, names_of, type_name, type_variable_name}
use Rattle.kk_parser.specs.Methods.{Read}
use Rattle.kk_parser.specs.Phrases.{token, opener, optional, rule, type}
use Rattle.kk_parser.specs.Reading.{fails_rule, fails_level, fails_front, fails_behind, fails_first, fails_second, fails_one, fails_presence, finds_rule, finds_level, finds_both, finds_first, finds_second, finds_absence, finds_presence}
use Rattle.kk_parser.specs.Views.{classes_in, kind_of}
use Rattle.kk_parser.proofs.Lists.{SomeLists, some_lists_one, some_lists_more, some_lists_end}
use Rattle.kk_parser.proofs.Steps.{gives_up_in, gives_up_as_in, symbol_read, reads_as_within, continues_start, first_absent}
use Rattle.kk_parser.proofs.WrittenTypes.{written_variable, written_name, written_unit}
use Rattle.kk_parser.proofs.parser.Parser.+types.Goals as goal

pub bracketed_type-returns-in_err-open-clause-reads : goal.bracketed_type-returns-in_err-open-clause-reads
bracketed_type-returns-in_err-open-clause-reads t c =
    gives_up_as_in (in_brackets (rule type)) (opener (symbol OpenParenthesis)) (inside unit_type (λ u. u)) written_type c.from_residual.result c.in_err-open.field-0.0 c.args.self.now c.args.self.now c.open.new.self (λ f r. fails_front r) c.from_residual.ensures.1 c.in_err-open.ensures.reads

pub bracketed_type-returns-then-is_at-clause-reads : goal.bracketed_type-returns-then-is_at-clause-reads
bracketed_type-returns-then-is_at-clause-reads t c =
    let h = sym c.is_at.ensures.value ∙ c.if-is_at.true in
    ((tt, inl tt), sym written_unit, finds_both c.in_ok-open.ensures.reads (finds_first h (symbol_read CloseParenthesis c.open.new.self c.advance.new.self h c.advance.ensures.rest c.advance.ensures.depth)))

pub bracketed_type-returns-in_err-inner-clause-reads : goal.bracketed_type-returns-in_err-inner-clause-reads
bracketed_type-returns-in_err-inner-clause-reads t c =
    let h = sym c.is_at.ensures.value ∙ c.if-is_at.false in
    gives_up_as_in (in_brackets (rule type)) (rule type) (inside unit_type (λ u. u)) written_type c.from_residual-in_err-inner.result c.in_err-inner.field-0.0 c.args.self.now c.open.new.self c.type_.new.self (λ f r. fails_behind c.in_ok-open.ensures.reads (fails_second h (fails_front r))) c.from_residual-in_err-inner.ensures.1 c.in_err-inner.ensures.reads

pub bracketed_type-returns-in_err-expect-clause-reads : goal.bracketed_type-returns-in_err-expect-clause-reads
bracketed_type-returns-in_err-expect-clause-reads t c =
    let h = sym c.is_at.ensures.value ∙ c.if-is_at.false in
    gives_up_as_in (in_brackets (rule type)) (token (symbol CloseParenthesis)) (inside unit_type (λ u. u)) written_type c.from_residual-in_err-expect.result c.in_err-expect.field-0.0 c.args.self.now c.type_.new.self c.expect.new.self (λ f r. fails_behind c.in_ok-open.ensures.reads (fails_second h (fails_behind c.in_ok-inner.ensures.reads r))) c.from_residual-in_err-expect.ensures.1 c.in_err-expect.ensures.reads

pub bracketed_type-returns-clause-reads : goal.bracketed_type-returns-clause-reads
bracketed_type-returns-clause-reads t c =
    let h = sym c.is_at.ensures.value ∙ c.if-is_at.false in
    ((tt, inr (written_type c.in_ok-inner.inner, tt)), refl, finds_both c.in_ok-open.ensures.reads (finds_second h (finds_both c.in_ok-inner.ensures.reads c.in_ok-expect.ensures.reads)))

pub type_-returns-in_err-of_type-clause-reads : goal.type_-returns-in_err-of_type-clause-reads
type_-returns-in_err-of_type-clause-reads t c =
    gives_up_in (rule type) (type_by (names_of type_name)) written_type c.from_residual.result c.in_err-of_type.field-0.0 c.args.self.now c.args.self.now c.type_by.new.self (λ f r. fails_rule (fails_level r)) c.from_residual.ensures.1 c.in_err-of_type.ensures.reads

pub type_-returns-clause-reads : goal.type_-returns-clause-reads
type_-returns-clause-reads t c =
    let of_type = c.in_ok-of_type.ensures.reads in
    let new : Parser = record { alloc = c.type_by.new.self.alloc; rest = c.type_by.new.self.rest; depth = c.args.self.now.depth } in
    subst (λ t. Read (rule type) t c.args.self.now new) of_type.1 (finds_rule (finds_level of_type.2))

pub type_by-returns-in_err-name-clause-reads : goal.type_by-returns-in_err-name-clause-reads
type_by-returns-in_err-name-clause-reads t c =
    let h = sym c.is_at_name.ensures.value ∙ c.if-is_at_name.true in
    gives_up_as_in (type_by (classes_in c.args.names)) (token type_variable_name) type_by_of written_type c.from_residual.result c.in_err-name.field-0.0 c.args.self.now c.args.self.now c.identifier.new.self (λ f r. fails_first h r) c.from_residual.ensures.1 c.in_err-name.ensures.reads

pub type_by-returns-then-is_at_name-clause-reads : goal.type_by-returns-then-is_at_name-clause-reads
type_by-returns-then-is_at_name-clause-reads t c =
    let h = sym c.is_at_name.ensures.value ∙ c.if-is_at_name.true in
    (inl c.in_ok-name.name, sym (written_variable c.in_ok-name.name), finds_first h c.in_ok-name.ensures.reads)

pub type_by-returns-in_err-name-2-clause-reads : goal.type_by-returns-in_err-name-2-clause-reads
type_by-returns-in_err-name-2-clause-reads t c =
    let h0 = sym c.is_at_name.ensures.value ∙ c.if-is_at_name.false in
    let h = sym c.is_at_name-2.ensures.value ∙ c.if-is_at_name-2.true in
    gives_up_as_in (type_by (classes_in c.args.names)) (token (kind_of c.args.names)) type_by_of written_type c.from_residual-in_err-name-2.result c.in_err-name-2.field-0.0 c.args.self.now c.args.self.now c.identifier-then-is_at_name-2.new.self (λ f r. fails_second h0 (fails_first h (fails_front r))) c.from_residual-in_err-name-2.ensures.1 c.in_err-name-2.ensures.reads

pub type_by-returns-in_err-arguments-clause-reads : goal.type_by-returns-in_err-arguments-clause-reads
type_by-returns-in_err-arguments-clause-reads t c =
    let h0 = sym c.is_at_name.ensures.value ∙ c.if-is_at_name.false in
    let h = sym c.is_at_name-2.ensures.value ∙ c.if-is_at_name-2.true in
    gives_up_as_in (type_by (classes_in c.args.names)) (optional type_arguments) type_by_of written_type c.from_residual-in_err-arguments.result c.in_err-arguments.field-0.0 c.args.self.now c.identifier-then-is_at_name-2.new.self c.type_arguments.new.self (λ f r. fails_second h0 (fails_first h (fails_behind c.in_ok-name-2.ensures.reads r))) c.from_residual-in_err-arguments.ensures.1 c.in_err-arguments.ensures.reads

pub type_by-returns-then-is_at_name-2-clause-reads : goal.type_by-returns-then-is_at_name-2-clause-reads
type_by-returns-then-is_at_name-2-clause-reads t c =
    let h0 = sym c.is_at_name.ensures.value ∙ c.if-is_at_name.false in
    let h = sym c.is_at_name-2.ensures.value ∙ c.if-is_at_name-2.true in
    let called = c.in_ok-name-2.name in
    let given = c.in_ok-arguments.ensures.reads in
    (inr (inl (called, given.0)), ap (λ ts. named called (types_of ts)) given.1 ∙ sym (written_name called c.in_ok-arguments.arguments), finds_second h0 (finds_first h (finds_both c.in_ok-name-2.ensures.reads given.2)))

pub type_by-returns-clause-reads : goal.type_by-returns-clause-reads
type_by-returns-clause-reads t c =
    let h0 = sym c.is_at_name.ensures.value ∙ c.if-is_at_name.false in
    let h = sym c.is_at_name-2.ensures.value ∙ c.if-is_at_name-2.false in
    reads_as_within (first_absent (first_absent (continues_start (type_by (classes_in c.args.names)) c.args.self.now) h0) h) type_by_of (inside unit_type (λ u. u)) written_type c.bracketed_type.result c.bracketed_type.new.self (λ v. refl) c.bracketed_type.ensures.reads

pub type_arguments-returns-then-not-is_at-clause-reads : goal.type_arguments-returns-then-not-is_at-clause-reads
type_arguments-returns-then-not-is_at-clause-reads t c =
    (None, sym (ap (map written_type) c.new.ensures.items), finds_absence (sym c.is_at.ensures.value ∙ c.if-not-is_at.true))

pub type_arguments-returns-in_err-open-clause-reads : goal.type_arguments-returns-in_err-open-clause-reads
type_arguments-returns-in_err-open-clause-reads t c =
    let h = sym c.is_at.ensures.value ∙ c.if-not-is_at.false in
    gives_up_as_in (optional type_arguments) (opener (symbol Less)) type_arguments_of (λ ts. map written_type ts.items) c.from_residual.result c.in_err-open.field-0.0 c.args.self.now c.args.self.now c.open.new.self (λ f r. fails_presence h (fails_front r)) c.from_residual.ensures.1 c.in_err-open.ensures.reads

pub type_arguments-returns-in_err-types-clause-reads : goal.type_arguments-returns-in_err-types-clause-reads
type_arguments-returns-in_err-types-clause-reads t c =
    let h = sym c.is_at.ensures.value ∙ c.if-not-is_at.false in
    gives_up_as_in (optional type_arguments) (some_listed (rule type)) type_arguments_of (λ ts. map written_type ts.items) c.from_residual-in_err-types.result c.in_err-types.field-0.0 c.args.self.now c.open.new.self c.types.new.self (λ f r. fails_presence h (fails_behind c.in_ok-open.ensures.reads (fails_front r))) c.from_residual-in_err-types.ensures.1 c.in_err-types.ensures.reads

pub type_arguments-returns-in_err-expect-clause-reads : goal.type_arguments-returns-in_err-expect-clause-reads
type_arguments-returns-in_err-expect-clause-reads t c =
    let h = sym c.is_at.ensures.value ∙ c.if-not-is_at.false in
    gives_up_as_in (optional type_arguments) (token (symbol Greater)) type_arguments_of (λ ts. map written_type ts.items) c.from_residual-in_err-expect.result c.in_err-expect.field-0.0 c.args.self.now c.types.new.self c.expect.new.self (λ f r. fails_presence h (fails_behind c.in_ok-open.ensures.reads (fails_behind c.in_ok-types.ensures.reads.2 r))) c.from_residual-in_err-expect.ensures.1 c.in_err-expect.ensures.reads

pub type_arguments-returns-clause-reads : goal.type_arguments-returns-clause-reads
type_arguments-returns-clause-reads t c =
    let h = sym c.is_at.ensures.value ∙ c.if-not-is_at.false in
    let list = c.in_ok-types.ensures.reads in
    (Some (tt, (list.0, tt)), list.1, finds_presence h (finds_both c.in_ok-open.ensures.reads (finds_both list.2 c.in_ok-expect.ensures.reads)))

pub types-returns-in_err-first-clause-reads : goal.types-returns-in_err-first-clause-reads
types-returns-in_err-first-clause-reads t c =
    gives_up_as_in (some_listed (rule type)) (rule type) some_listed_of (λ ts. map written_type ts.items) c.from_residual.result c.in_err-first.field-0.0 c.args.self.now c.args.self.now c.type_.new.self (λ f r. fails_front r) c.from_residual.ensures.1 c.in_err-first.ensures.reads

pub types-loop-self-init : goal.types-loop-self-init
types-loop-self-init t c =
    let is = c.in_ok-put.ensures ∙ ap (λ ts. ts ++ c.in_ok-first.first ∷ []) c.new-types.ensures.items in
    record {
      left = omega (arith, c.in_ok-first.ensures.left);
      read = subst (λ ts. SomeLists (rule type) ts c.args.self.now c.type_.new.self) (sym (ap (map written_type) is)) (some_lists_one (rule type) (written_type c.in_ok-first.first) c.args.self.now c.type_.new.self c.in_ok-first.ensures.reads);
    }

pub types-returns-in_err-next-clause-reads : goal.types-returns-in_err-next-clause-reads
types-returns-in_err-next-clause-reads t c =
    let h = sym c.is_at.ensures.value ∙ c.loop-self-test.true in
    let comma = symbol_read Comma c.loop-self.self c.advance.new.self h c.advance.ensures.rest c.advance.ensures.depth in
    gives_up_as_in (some_listed (rule type)) (rule type) some_listed_of (λ ts. map written_type ts.items) c.from_residual-in_err-next.result c.in_err-next.field-0.0 c.args.self.now c.advance.new.self c.type_-in-loop-self.new.self
    (λ f r. c.loop-self.invariant.read.read.failed f (fails_one h (fails_behind comma r)))
    c.from_residual-in_err-next.ensures.1 c.in_err-next.ensures.reads

pub types-loop-self-preserved : goal.types-loop-self-preserved
types-loop-self-preserved t c =
    let h = sym c.is_at.ensures.value ∙ c.loop-self-test.true in
    let comma = symbol_read Comma c.loop-self.self c.advance.new.self h c.advance.ensures.rest c.advance.ensures.depth in
    let next = c.in_ok-next.next in
    record {
      left = omega (arith, c.in_ok-next.ensures.left);
      read = subst (λ ts. SomeLists (rule type) ts c.args.self.now c.type_-in-loop-self.new.self) (sym (ap (map written_type) c.in_ok-put-2.ensures ∙ map-append written_type c.loop-self.types.items (next ∷ [])))
          (some_lists_more (rule type) (map written_type c.loop-self.types.items) (written_type next) c.args.self.now c.loop-self.self c.advance.new.self c.type_-in-loop-self.new.self c.loop-self.invariant.read h comma c.in_ok-next.ensures.reads);
    }

pub types-returns-clause-reads : goal.types-returns-clause-reads
types-returns-clause-reads t c =
    some_lists_end (rule type) (map written_type c.loop-self.types.items) c.args.self.now c.loop-self.self c.loop-self.invariant.read (sym c.is_at.ensures.value ∙ c.loop-self-test.false)
