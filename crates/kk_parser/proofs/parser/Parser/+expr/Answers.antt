use Rattle.std.proofs.Common.{◌≡◌, [], ◌∷◌, ◌++◌, map, Some, None, Ok, sym, ◌∙◌, refl, ap, subst, inl, inr, arith, rules}
use Rattle.std.proofs.lemmas.List.{append-nil}
use Rattle.std.proofs.lemmas.List.Elements.{All-nil, All-cons}
use Rattle.std.specs.Global.{Vec}
use Rattle.std.proofs.lemmas.Int.{to_z-of_z}
use mir.Syntax.{w32}
use mir.Val.{SFits}
use Rattle.kk_syntax.specs.Surface.{written_expr, written_row, written_statement, match, rows_of, unary, binary, branch, variable, call, construct, print_text, unit, writtens_of, number as OfNumber}
use Rattle.kk_syntax.specs.declared.tree.SurfaceBinder.TheVariants.{Nothing}
use Rattle.kk_syntax.specs.declared.tree.SurfaceExpr.{SurfaceExpr}
use Rattle.kk_syntax.specs.declared.token.Keyword.TheVariants.{If, Match, Then, Elif, Else, Val}
use Rattle.kk_syntax.specs.declared.token.Symbol.TheVariants.{OpenParenthesis, CloseParenthesis, OpenBrace, CloseBrace, Semicolon, Comma, Dot, Equals, Arrow, OrOr, AndAnd}
use Rattle.kk_parser.specs.Depths.{IsNoDeeper, AreNoDeeper, RowsAreNoDeeper, StatementsAreNoDeeper}
use Rattle.kk_parser.specs.Forms.{separated, separated_of, branches, branches_of, inside, spoken_of, printed, printed_of, binding, binding_of, bindings_of, items}
use Rattle.kk_parser.specs.Grammar.{print_word, comparison, sum_operator, sum_operator_of, product_operator, product_operator_of, unary_operator, to_left, bracketed, arguments_of, arguments_given, named_of, binder, some_semicolons}
use Rattle.kk_parser.specs.Kinds.{keyword, symbol, name, name_but_print, constructor}
use Rattle.kk_parser.specs.Methods.{Read}
use Rattle.kk_parser.specs.Phrases.{token, opener, optional, rule, ◌▸◌, expr, block, if_, match_, row, pat, or, and, cmp, add, mul, un, post, atom, args}
use Rattle.kk_parser.specs.Reading.{fails_rule, fails_level, fails_front, fails_behind, fails_first, fails_second, fails_one, fails_presence, fails_quoted, fails_unquoted, fails_each_deep, finds_rule, finds_level, finds_both, finds_first, finds_second, finds_none, finds_absence, finds_presence, finds_no_more, finds_nothing, finds_quoted, finds_unquoted}
use Rattle.kk_parser.specs.Views.{arguments_view, binding_view, boxed_expr, boxed_pattern}
use Rattle.kk_parser.proofs.Arguments.{given-some, given-none, given-view-some, given-view-none, named-some, named-none, continues_dot, more_args, one_more}
use Rattle.kk_parser.proofs.ReadAtoms.{brackets, construction, construction-means, other_name, atom_but_number, spoken-means, named-means}
use Rattle.kk_parser.proofs.Blocks.{block_begins, block_goes_on, block_passes, stated, bound, items_go_on, items_end}
use Rattle.kk_parser.proofs.Lists.{Separated, separated_one, separated_more, separated_passed, separated_end}
use Rattle.kk_parser.proofs.MemoryDepths.{given_under, one_more_under}
use Rattle.kk_parser.proofs.Rows.{gives_up_row, put_row}
use Rattle.kk_parser.proofs.Branches.{other_branches, behind_first, continues_elif, turn, turn-means, perhaps_found, perhaps_failed, if-means}
use Rattle.kk_parser.proofs.Steps.{gives_up_in, gives_up_as, gives_up_as_in, gives_up_items, reads_made, reads_made_as, passed_on, too_deep_failed, deepen_reads_keyword, symbol_read, keyword_read, continues_rule, continues_left, continues_to, continues_many, continues_as, ends_many, first_next, first_absent, front_read, read_to, reads_on, reads_as_on}
use Rattle.kk_parser.proofs.parser.Parser.+expr.Goals as goal
use Rattle.kk_parser.proofs.parser.Parser.+expr.Goals.{post-in-Some, post-in-None}

pub expr-returns-in_err-value-clause-reads : goal.expr-returns-in_err-value-clause-reads
expr-returns-in_err-value-clause-reads t c =
    let h = sym c.is_at.ensures.value ∙ c.if-is_at.true in
    gives_up_in (rule expr) (rule block) boxed_expr c.from_residual.result c.in_err-value.field-0.0 c.args.self.now c.args.self.now c.block.new.self (λ f r. fails_rule (fails_level (fails_first h r))) c.from_residual.ensures.1 c.in_err-value.ensures.reads

pub expr-returns-then-is_at-clause-reads : goal.expr-returns-then-is_at-clause-reads
expr-returns-then-is_at-clause-reads t c =
    let h = sym c.is_at.ensures.value ∙ c.if-is_at.true in
    finds_rule (finds_level (finds_first h c.in_ok-value.ensures.reads))

pub expr-returns-in_err-value-2-clause-reads : goal.expr-returns-in_err-value-2-clause-reads
expr-returns-in_err-value-2-clause-reads t c =
    let h0 = sym c.is_at.ensures.value ∙ c.if-is_at.false in
    let h = sym c.is_at_keyword.ensures.value ∙ c.if-is_at_keyword.true in
    gives_up_in (rule expr) (rule if_) boxed_expr c.from_residual-in_err-value-2.result c.in_err-value-2.field-0.0 c.args.self.now c.args.self.now c.if_.new.self (λ f r. fails_rule (fails_level (fails_second h0 (fails_first h r)))) c.from_residual-in_err-value-2.ensures.1 c.in_err-value-2.ensures.reads

pub expr-returns-then-is_at_keyword-clause-reads : goal.expr-returns-then-is_at_keyword-clause-reads
expr-returns-then-is_at_keyword-clause-reads t c =
    let h0 = sym c.is_at.ensures.value ∙ c.if-is_at.false in
    let h = sym c.is_at_keyword.ensures.value ∙ c.if-is_at_keyword.true in
    finds_rule (finds_level (finds_second h0 (finds_first h c.in_ok-value-2.ensures.reads)))

pub expr-returns-in_err-value-3-clause-reads : goal.expr-returns-in_err-value-3-clause-reads
expr-returns-in_err-value-3-clause-reads t c =
    let h0 = sym c.is_at.ensures.value ∙ c.if-is_at.false in
    let h1 = sym c.is_at_keyword.ensures.value ∙ c.if-is_at_keyword.false in
    let h = sym c.is_at_keyword-2.ensures.value ∙ c.if-is_at_keyword-2.true in
    gives_up_in (rule expr) (rule match_) boxed_expr c.from_residual-in_err-value-3.result c.in_err-value-3.field-0.0 c.args.self.now c.args.self.now c.match_.new.self (λ f r. fails_rule (fails_level (fails_second h0 (fails_second h1 (fails_first h r))))) c.from_residual-in_err-value-3.ensures.1 c.in_err-value-3.ensures.reads

pub expr-returns-then-is_at_keyword-2-clause-reads : goal.expr-returns-then-is_at_keyword-2-clause-reads
expr-returns-then-is_at_keyword-2-clause-reads t c =
    let h0 = sym c.is_at.ensures.value ∙ c.if-is_at.false in
    let h1 = sym c.is_at_keyword.ensures.value ∙ c.if-is_at_keyword.false in
    let h = sym c.is_at_keyword-2.ensures.value ∙ c.if-is_at_keyword-2.true in
    finds_rule (finds_level (finds_second h0 (finds_second h1 (finds_first h c.in_ok-value-3.ensures.reads))))

pub expr-returns-in_err-value-4-clause-reads : goal.expr-returns-in_err-value-4-clause-reads
expr-returns-in_err-value-4-clause-reads t c =
    let h0 = sym c.is_at.ensures.value ∙ c.if-is_at.false in
    let h1 = sym c.is_at_keyword.ensures.value ∙ c.if-is_at_keyword.false in
    let h2 = sym c.is_at_keyword-2.ensures.value ∙ c.if-is_at_keyword-2.false in
    gives_up_in (rule expr) (rule or) boxed_expr c.from_residual-in_err-value-4.result c.in_err-value-4.field-0.0 c.args.self.now c.args.self.now c.or.new.self (λ f r. fails_rule (fails_level (fails_second h0 (fails_second h1 (fails_second h2 r))))) c.from_residual-in_err-value-4.ensures.1 c.in_err-value-4.ensures.reads

pub expr-returns-clause-reads : goal.expr-returns-clause-reads
expr-returns-clause-reads t c =
    let h0 = sym c.is_at.ensures.value ∙ c.if-is_at.false in
    let h1 = sym c.is_at_keyword.ensures.value ∙ c.if-is_at_keyword.false in
    let h2 = sym c.is_at_keyword-2.ensures.value ∙ c.if-is_at_keyword-2.false in
    finds_rule (finds_level (finds_second h0 (finds_second h1 (finds_second h2 c.in_ok-value-4.ensures.reads))))

pub match_-returns-in_err-expect_keyword-clause-reads : goal.match_-returns-in_err-expect_keyword-clause-reads
match_-returns-in_err-expect_keyword-clause-reads t c =
    gives_up_in (rule match_) (token (keyword Match)) boxed_expr c.from_residual.result c.in_err-expect_keyword.field-0.0 c.args.self.now c.args.self.now c.expect_keyword.new.self
    (λ f r. fails_rule (fails_front r)) c.from_residual.ensures.1 c.in_err-expect_keyword.ensures.reads

pub match_-returns-in_err-scrutinee-clause-reads : goal.match_-returns-in_err-scrutinee-clause-reads
match_-returns-in_err-scrutinee-clause-reads t c =
    gives_up_in (rule match_) (rule or) boxed_expr c.from_residual-in_err-scrutinee.result c.in_err-scrutinee.field-0.0 c.args.self.now c.expect_keyword.new.self c.or.new.self
    (λ f r. fails_rule (fails_behind c.in_ok-expect_keyword.ensures.reads (fails_front r))) c.from_residual-in_err-scrutinee.ensures.1 c.in_err-scrutinee.ensures.reads

pub match_-returns-in_err-open-clause-reads : goal.match_-returns-in_err-open-clause-reads
match_-returns-in_err-open-clause-reads t c =
    gives_up_in (rule match_) (opener (symbol OpenBrace)) boxed_expr c.from_residual-in_err-open.result c.in_err-open.field-0.0 c.args.self.now c.or.new.self c.open.new.self
    (λ f r. fails_rule (fails_behind c.in_ok-expect_keyword.ensures.reads (fails_behind c.in_ok-scrutinee.ensures.reads (fails_front r)))) c.from_residual-in_err-open.ensures.1 c.in_err-open.ensures.reads

pub match_-returns-in_err-rows-clause-reads : goal.match_-returns-in_err-rows-clause-reads
match_-returns-in_err-rows-clause-reads t c =
    gives_up_in (rule match_) (separated (rule row)) boxed_expr c.from_residual-in_err-rows.result c.in_err-rows.field-0.0 c.args.self.now c.open.new.self c.rows.new.self
    (λ f r. fails_rule (fails_behind c.in_ok-expect_keyword.ensures.reads (fails_behind c.in_ok-scrutinee.ensures.reads (fails_behind c.in_ok-open.ensures.reads (fails_front r))))) c.from_residual-in_err-rows.ensures.1 c.in_err-rows.ensures.reads

pub match_-returns-in_err-expect-clause-reads : goal.match_-returns-in_err-expect-clause-reads
match_-returns-in_err-expect-clause-reads t c =
    gives_up_in (rule match_) (token (symbol CloseBrace)) boxed_expr c.from_residual-in_err-expect.result c.in_err-expect.field-0.0 c.args.self.now c.rows.new.self c.expect.new.self
    (λ f r. fails_rule (fails_behind c.in_ok-expect_keyword.ensures.reads (fails_behind c.in_ok-scrutinee.ensures.reads (fails_behind c.in_ok-open.ensures.reads (fails_behind c.in_ok-rows.ensures.reads.2 r))))) c.from_residual-in_err-expect.ensures.1 c.in_err-expect.ensures.reads

pub match_-returns-clause-reads : goal.match_-returns-clause-reads
match_-returns-clause-reads t c =
    let list = c.in_ok-rows.ensures.reads in
    reads_made (rule match_) boxed_expr _ c.match_of.result c.args.self.now c.expect.new.self c.match_of.ensures.made
    (subst (λ rows. Read (rule match_) (match (boxed_expr c.in_ok-scrutinee.scrutinee) (rows_of rows)) c.args.self.now c.expect.new.self) list.1
    (finds_rule (finds_both c.in_ok-expect_keyword.ensures.reads (finds_both c.in_ok-scrutinee.ensures.reads (finds_both c.in_ok-open.ensures.reads (finds_both list.2 c.in_ok-expect.ensures.reads))))))

pub rows-returns-in_err-row-clause-reads : goal.rows-returns-in_err-row-clause-reads
rows-returns-in_err-row-clause-reads t c =
    gives_up_as_in (separated (rule row)) (rule row) separated_of (λ rows. map written_row rows.items) c.from_residual.result c.in_err-row.field-0.0 c.args.self.now c.skip_semicolons.new.self c.row.new.self
    (λ f r. fails_behind c.skip_semicolons.ensures.reads.1 (fails_front r)) c.from_residual.ensures.1 c.in_err-row.ensures.reads

pub rows-loop-self-init : goal.rows-loop-self-init
rows-loop-self-init t c =
    let r = c.in_ok-row.ensures.reads in
    let is = r.1 ∙ ap (λ rs. map written_row rs ++ r.0 ∷ []) c.new-rows.ensures.items in
    let semis = c.skip_semicolons.ensures.reads in
    record {
      left = omega (arith, c.in_ok-row.ensures.left);
      read = subst (λ rs. Separated (rule row) rs c.args.self.now c.row.new.self) (sym is) (separated_one (rule row) semis.0 r.0 c.args.self.now c.skip_semicolons.new.self c.row.new.self semis.1 r.2);
      depth = c.in_ok-row.ensures.depth (subst RowsAreNoDeeper (sym c.new-rows.ensures.items) (All-nil (λ r. IsNoDeeper r.body)));
    }

pub rows-returns-in_err-row-2-clause-reads : goal.rows-returns-in_err-row-2-clause-reads
rows-returns-in_err-row-2-clause-reads t c =
    let h = sym c.is_at.ensures.value ∙ c.loop-self-test.true in
    let g = sym c.is_at_pattern.ensures ∙ c.if-is_at_pattern.true in
    let semi = symbol_read Semicolon c.loop-self.self c.advance.new.self h c.advance.ensures.rest c.advance.ensures.depth in
    gives_up_as_in (separated (rule row)) (rule row) separated_of (λ rows. map written_row rows.items) c.from_residual-in_err-row-2.result c.in_err-row-2.field-0.0 c.args.self.now c.advance.new.self c.row-then-is_at_pattern.new.self
    (λ f r. c.loop-self.invariant.read.read.failed f (fails_one h (fails_behind semi (fails_presence g r)))) c.from_residual-in_err-row-2.ensures.1 c.in_err-row-2.ensures.reads

pub rows-loop-self-preserved-in-Continue-branch-2 : goal.rows-loop-self-preserved-in-Continue-branch-2
rows-loop-self-preserved-in-Continue-branch-2 t c =
    let h = sym c.is_at.ensures.value ∙ c.loop-self-test.true in
    let g = sym c.is_at_pattern.ensures ∙ c.if-is_at_pattern.true in
    let semi = symbol_read Semicolon c.loop-self.self c.advance.new.self h c.advance.ensures.rest c.advance.ensures.depth in
    let r = c.in_ok-row-2.ensures.reads in
    record {
      left = omega (arith, c.in_ok-row-2.ensures.left);
      read = subst (λ rs. Separated (rule row) rs c.args.self.now c.row-then-is_at_pattern.new.self) (sym r.1)
          (separated_more (rule row) (map written_row c.loop-self.rows.items) r.0 c.args.self.now c.loop-self.self c.advance.new.self c.row-then-is_at_pattern.new.self c.loop-self.invariant.read h semi g r.2);
      depth = c.in_ok-row-2.ensures.depth c.loop-self.invariant.depth;
    }

pub rows-loop-self-preserved : goal.rows-loop-self-preserved
rows-loop-self-preserved t c =
    let h = sym c.is_at.ensures.value ∙ c.loop-self-test.true in
    let g = sym c.is_at_pattern.ensures ∙ c.if-is_at_pattern.false in
    let semi = symbol_read Semicolon c.loop-self.self c.advance.new.self h c.advance.ensures.rest c.advance.ensures.depth in
    record {
      left = omega arith;
      read = separated_passed (rule row) (map written_row c.loop-self.rows.items) c.args.self.now c.loop-self.self c.advance.new.self c.loop-self.invariant.read h semi g;
      depth = c.loop-self.invariant.depth;
    }

pub rows-returns-clause-reads : goal.rows-returns-clause-reads
rows-returns-clause-reads t c =
    separated_end (rule row) (map written_row c.loop-self.rows.items) c.args.self.now c.loop-self.self c.loop-self.invariant.read (sym c.is_at.ensures.value ∙ c.loop-self-test.false)

pub row-returns-in_err-pattern-clause-reads : goal.row-returns-in_err-pattern-clause-reads
row-returns-in_err-pattern-clause-reads t c =
    gives_up_row _ _ (rule pat) c.from_residual.result c.in_err-pattern.field-0.0 c.args.self.now c.args.self.now c.pattern.new.self
    (λ f r. fails_rule (fails_front r)) c.from_residual.ensures.1 c.in_err-pattern.ensures.reads

pub row-returns-in_err-expect-clause-reads : goal.row-returns-in_err-expect-clause-reads
row-returns-in_err-expect-clause-reads t c =
    gives_up_row _ _ (token (symbol Arrow)) c.from_residual-in_err-expect.result c.in_err-expect.field-0.0 c.args.self.now c.pattern.new.self c.expect.new.self
    (λ f r. fails_rule (fails_behind c.in_ok-pattern.ensures.reads (fails_front r))) c.from_residual-in_err-expect.ensures.1 c.in_err-expect.ensures.reads

pub row-returns-in_err-body-clause-reads : goal.row-returns-in_err-body-clause-reads
row-returns-in_err-body-clause-reads t c =
    gives_up_row _ _ (rule expr) c.from_residual-in_err-body.result c.in_err-body.field-0.0 c.args.self.now c.expect.new.self c.expr.new.self
    (λ f r. fails_rule (fails_behind c.in_ok-pattern.ensures.reads (fails_behind c.in_ok-expect.ensures.reads r))) c.from_residual-in_err-body.ensures.1 c.in_err-body.ensures.reads

pub row-returns-clause-reads : goal.row-returns-clause-reads
row-returns-clause-reads t c = (
  record { pattern = boxed_pattern c.in_ok-pattern.pattern; body = boxed_expr c.in_ok-body.body },
  put_row c.args.rows.now.items c.put.new.items.items c.in_ok-pattern.pattern c.in_ok-body.body c.into_inner-pattern.result c.into_inner-body.result c.into_inner-pattern.ensures c.into_inner-body.ensures c.in_ok-put.ensures,
  finds_rule (finds_both c.in_ok-pattern.ensures.reads (finds_both c.in_ok-expect.ensures.reads c.in_ok-body.ensures.reads)),
)

pub if_-returns-in_err-open_keyword-clause-reads : goal.if_-returns-in_err-open_keyword-clause-reads
if_-returns-in_err-open_keyword-clause-reads t c =
    gives_up_in (rule if_) (opener (keyword If)) boxed_expr c.from_residual.result c.in_err-open_keyword.field-0.0 c.args.self.now c.args.self.now c.open_keyword.new.self (λ f r. fails_rule (fails_front r)) c.from_residual.ensures.1 c.in_err-open_keyword.ensures.reads

pub if_-returns-clause-reads : goal.if_-returns-clause-reads
if_-returns-clause-reads t c =
    reads_as_on (front_read c.open_keyword.new.self (continues_rule if_ c.args.self.now) c.in_ok-open_keyword.ensures.reads) boxed_expr branches_of c.branches.result c.branches.new.self if-means c.branches.ensures.reads

pub branches-returns-in_err-condition-clause-reads : goal.branches-returns-in_err-condition-clause-reads
branches-returns-in_err-condition-clause-reads t c =
    gives_up_as_in branches (rule or) branches_of boxed_expr c.from_residual.result c.in_err-condition.field-0.0 c.args.self.now c.args.self.now c.or.new.self (λ f r. fails_front r) c.from_residual.ensures.1 c.in_err-condition.ensures.reads

pub branches-returns-in_err-expect_keyword-clause-reads : goal.branches-returns-in_err-expect_keyword-clause-reads
branches-returns-in_err-expect_keyword-clause-reads t c =
    gives_up_as_in branches (token (keyword Then)) branches_of boxed_expr c.from_residual-in_err-expect_keyword.result c.in_err-expect_keyword.field-0.0 c.args.self.now c.or.new.self c.expect_keyword.new.self
    (λ f r. fails_behind c.in_ok-condition.ensures.reads (fails_front r)) c.from_residual-in_err-expect_keyword.ensures.1 c.in_err-expect_keyword.ensures.reads

pub branches-returns-in_err-positive-clause-reads : goal.branches-returns-in_err-positive-clause-reads
branches-returns-in_err-positive-clause-reads t c =
    gives_up_as_in branches (rule expr) branches_of boxed_expr c.from_residual-in_err-positive.result c.in_err-positive.field-0.0 c.args.self.now c.expect_keyword.new.self c.expr.new.self
    (λ f r. fails_behind c.in_ok-condition.ensures.reads (fails_behind c.in_ok-expect_keyword.ensures.reads (fails_front r))) c.from_residual-in_err-positive.ensures.1 c.in_err-positive.ensures.reads

pub branches-returns-in_err-deepen-clause-reads : goal.branches-returns-in_err-deepen-clause-reads
branches-returns-in_err-deepen-clause-reads t c =
    let front = behind_first c.args.self.now c.or.new.self c.expect_keyword.new.self c.expr.new.self c.in_ok-condition.ensures.reads c.in_ok-expect_keyword.ensures.reads c.in_ok-positive.ensures.reads in
    let h = sym c.is_at_keyword.ensures.value ∙ c.if-is_at_keyword.true in
    gives_up_as branches branches_of boxed_expr c.from_residual-in_err-deepen.result c.in_err-deepen.field-0.0 c.args.self.now c.deepen.new.self c.from_residual-in_err-deepen.ensures.1
    (passed_on branches other_branches c.args.self.now c.expr.new.self c.deepen.new.self front.failed c.in_err-deepen.field-0.0
    (too_deep_failed other_branches c.expr.new.self c.deepen.new.self c.in_err-deepen.field-0.0 (λ d. fails_front (fails_each_deep h d)) c.in_err-deepen.ensures.deepens))

pub branches-returns-in_err-negative-clause-reads : goal.branches-returns-in_err-negative-clause-reads
branches-returns-in_err-negative-clause-reads t c =
    let front = behind_first c.args.self.now c.or.new.self c.expect_keyword.new.self c.expr.new.self c.in_ok-condition.ensures.reads c.in_ok-expect_keyword.ensures.reads c.in_ok-positive.ensures.reads in
    let h = sym c.is_at_keyword.ensures.value ∙ c.if-is_at_keyword.true in
    let elif = continues_elif c.expr.new.self c.deepen.new.self (deepen_reads_keyword Elif c.expr.new.self c.deepen.new.self (Ok tt) h c.in_ok-deepen.ensures.deepens) in
    gives_up_as_in branches branches branches_of boxed_expr c.from_residual-in_err-negative.result c.in_err-negative.field-0.0 c.args.self.now c.deepen.new.self c.branches.new.self (λ f r. front.failed f (elif.failed f r)) c.from_residual-in_err-negative.ensures.1 c.in_err-negative.ensures.reads

pub branches-returns-then-is_at_keyword-clause-reads : goal.branches-returns-then-is_at_keyword-clause-reads
branches-returns-then-is_at_keyword-clause-reads t c =
    let front = behind_first c.args.self.now c.or.new.self c.expect_keyword.new.self c.expr.new.self c.in_ok-condition.ensures.reads c.in_ok-expect_keyword.ensures.reads c.in_ok-positive.ensures.reads in
    let h = sym c.is_at_keyword.ensures.value ∙ c.if-is_at_keyword.true in
    let elif = continues_elif c.expr.new.self c.deepen.new.self (deepen_reads_keyword Elif c.expr.new.self c.deepen.new.self (Ok tt) h c.in_ok-deepen.ensures.deepens) in
    let condition = boxed_expr c.in_ok-condition.condition in
    let positive = boxed_expr c.in_ok-positive.positive in
    let n = c.in_ok-negative.ensures.reads in
    let new = c.branches.new.self in
    reads_made_as branches branches_of boxed_expr (condition, (tt, (positive, turn n.0))) _ c.branch-self.result c.args.self.now new c.branch-self.ensures.made (turn-means condition positive n.0 ∙ ap (branch condition positive) n.1)
    (front.found (turn n.0) new.depth new.rest.now (elif.found n.0 new.depth new.rest.now n.2))

pub branches-returns-in_err-negative-2-clause-reads : goal.branches-returns-in_err-negative-2-clause-reads
branches-returns-in_err-negative-2-clause-reads t c =
    let front = behind_first c.args.self.now c.or.new.self c.expect_keyword.new.self c.expr.new.self c.in_ok-condition.ensures.reads c.in_ok-expect_keyword.ensures.reads c.in_ok-positive.ensures.reads in
    let h1 = sym c.is_at_keyword.ensures.value ∙ c.if-is_at_keyword.false in
    let h = sym c.is_at_keyword-2.ensures.value ∙ c.if-is_at_keyword-2.true in
    let else = keyword_read Else c.expr.new.self c.advance.new.self h c.advance.ensures.rest c.advance.ensures.depth in
    gives_up_as_in branches (rule expr) branches_of boxed_expr c.from_residual-in_err-negative-2.result c.in_err-negative-2.field-0.0 c.args.self.now c.advance.new.self c.expr-then-is_at_keyword-2.new.self
    (λ f r. front.failed f (fails_behind (finds_no_more h1) (perhaps_failed else r))) c.from_residual-in_err-negative-2.ensures.1 c.in_err-negative-2.ensures.reads

pub branches-returns-then-is_at_keyword-2-clause-reads : goal.branches-returns-then-is_at_keyword-2-clause-reads
branches-returns-then-is_at_keyword-2-clause-reads t c =
    let front = behind_first c.args.self.now c.or.new.self c.expect_keyword.new.self c.expr.new.self c.in_ok-condition.ensures.reads c.in_ok-expect_keyword.ensures.reads c.in_ok-positive.ensures.reads in
    let h1 = sym c.is_at_keyword.ensures.value ∙ c.if-is_at_keyword.false in
    let h = sym c.is_at_keyword-2.ensures.value ∙ c.if-is_at_keyword-2.true in
    let else = keyword_read Else c.expr.new.self c.advance.new.self h c.advance.ensures.rest c.advance.ensures.depth in
    let negative = boxed_expr c.in_ok-negative-2.negative in
    let new = c.expr-then-is_at_keyword-2.new.self in
    reads_made_as branches branches_of boxed_expr (boxed_expr c.in_ok-condition.condition, (tt, (boxed_expr c.in_ok-positive.positive, ([], Some negative)))) _ c.branch-self-then-is_at_keyword-2.result c.args.self.now new c.branch-self-then-is_at_keyword-2.ensures.made (refl)
    (front.found ([], Some negative) new.depth new.rest.now (finds_both (finds_no_more h1) (perhaps_found else c.in_ok-negative-2.ensures.reads)))

pub branches-returns-clause-reads : goal.branches-returns-clause-reads
branches-returns-clause-reads t c =
    let front = behind_first c.args.self.now c.or.new.self c.expect_keyword.new.self c.expr.new.self c.in_ok-condition.ensures.reads c.in_ok-expect_keyword.ensures.reads c.in_ok-positive.ensures.reads in
    let here = c.expr.new.self in
    let h1 = sym c.is_at_keyword.ensures.value ∙ c.if-is_at_keyword.false in
    let h2 = sym c.is_at_keyword-2.ensures.value ∙ c.if-is_at_keyword-2.false in
    reads_made_as branches branches_of boxed_expr (boxed_expr c.in_ok-condition.condition, (tt, (boxed_expr c.in_ok-positive.positive, ([], None)))) _ c.branch_alone.result c.args.self.now here c.branch_alone.ensures.made (refl)
    (front.found ([], None) here.depth here.rest.now (finds_both (finds_no_more h1) (finds_nothing h2)))

pub or-returns-in_err-left-clause-reads : goal.or-returns-in_err-left-clause-reads
or-returns-in_err-left-clause-reads t c =
    gives_up_in (rule or) (rule and) boxed_expr c.from_residual.result c.in_err-left.field-0.0 c.args.self.now c.args.self.now c.and.new.self (λ f r. fails_rule (fails_front r)) c.from_residual.ensures.1 c.in_err-left.ensures.reads

pub or-returns-then-not-is_at-clause-reads : goal.or-returns-then-not-is_at-clause-reads
or-returns-then-not-is_at-clause-reads t c = finds_rule (finds_both c.in_ok-left.ensures.reads (finds_absence (sym c.is_at.ensures.value ∙ c.if-not-is_at.true)))

pub or-returns-in_err-open-clause-reads : goal.or-returns-in_err-open-clause-reads
or-returns-in_err-open-clause-reads t c =
    let h = sym c.is_at.ensures.value ∙ c.if-not-is_at.false in
    gives_up_in (rule or) (opener (symbol OrOr)) boxed_expr c.from_residual-in_err-open.result c.in_err-open.field-0.0 c.args.self.now c.and.new.self c.open.new.self (λ f r. fails_rule (fails_behind c.in_ok-left.ensures.reads (fails_presence h (fails_front r)))) c.from_residual-in_err-open.ensures.1 c.in_err-open.ensures.reads

pub or-returns-in_err-right-clause-reads : goal.or-returns-in_err-right-clause-reads
or-returns-in_err-right-clause-reads t c =
    let h = sym c.is_at.ensures.value ∙ c.if-not-is_at.false in
    gives_up_in (rule or) (rule or) boxed_expr c.from_residual-in_err-right.result c.in_err-right.field-0.0 c.args.self.now c.open.new.self c.or.new.self
    (λ f r. fails_rule (fails_behind c.in_ok-left.ensures.reads (fails_presence h (fails_behind c.in_ok-open.ensures.reads r)))) c.from_residual-in_err-right.ensures.1 c.in_err-right.ensures.reads

pub or-returns-clause-reads : goal.or-returns-clause-reads
or-returns-clause-reads t c =
    let h = sym c.is_at.ensures.value ∙ c.if-not-is_at.false in
    reads_made (rule or) boxed_expr _ c.either.result c.args.self.now c.or.new.self c.either.ensures.made
    (finds_rule (finds_both c.in_ok-left.ensures.reads (finds_presence h (finds_both c.in_ok-open.ensures.reads c.in_ok-right.ensures.reads))))

pub and-returns-in_err-left-clause-reads : goal.and-returns-in_err-left-clause-reads
and-returns-in_err-left-clause-reads t c =
    gives_up_in (rule and) (rule cmp) boxed_expr c.from_residual.result c.in_err-left.field-0.0 c.args.self.now c.args.self.now c.cmp.new.self (λ f r. fails_rule (fails_front r)) c.from_residual.ensures.1 c.in_err-left.ensures.reads

pub and-returns-then-not-is_at-clause-reads : goal.and-returns-then-not-is_at-clause-reads
and-returns-then-not-is_at-clause-reads t c = finds_rule (finds_both c.in_ok-left.ensures.reads (finds_absence (sym c.is_at.ensures.value ∙ c.if-not-is_at.true)))

pub and-returns-in_err-open-clause-reads : goal.and-returns-in_err-open-clause-reads
and-returns-in_err-open-clause-reads t c =
    let h = sym c.is_at.ensures.value ∙ c.if-not-is_at.false in
    gives_up_in (rule and) (opener (symbol AndAnd)) boxed_expr c.from_residual-in_err-open.result c.in_err-open.field-0.0 c.args.self.now c.cmp.new.self c.open.new.self (λ f r. fails_rule (fails_behind c.in_ok-left.ensures.reads (fails_presence h (fails_front r)))) c.from_residual-in_err-open.ensures.1 c.in_err-open.ensures.reads

pub and-returns-in_err-right-clause-reads : goal.and-returns-in_err-right-clause-reads
and-returns-in_err-right-clause-reads t c =
    let h = sym c.is_at.ensures.value ∙ c.if-not-is_at.false in
    gives_up_in (rule and) (rule and) boxed_expr c.from_residual-in_err-right.result c.in_err-right.field-0.0 c.args.self.now c.open.new.self c.and.new.self
    (λ f r. fails_rule (fails_behind c.in_ok-left.ensures.reads (fails_presence h (fails_behind c.in_ok-open.ensures.reads r)))) c.from_residual-in_err-right.ensures.1 c.in_err-right.ensures.reads

pub and-returns-clause-reads : goal.and-returns-clause-reads
and-returns-clause-reads t c =
    let h = sym c.is_at.ensures.value ∙ c.if-not-is_at.false in
    reads_made (rule and) boxed_expr _ c.both.result c.args.self.now c.and.new.self c.both.ensures.made
    (finds_rule (finds_both c.in_ok-left.ensures.reads (finds_presence h (finds_both c.in_ok-open.ensures.reads c.in_ok-right.ensures.reads))))

pub cmp-returns-in_err-left-clause-reads : goal.cmp-returns-in_err-left-clause-reads
cmp-returns-in_err-left-clause-reads t c =
    gives_up_in (rule cmp) (rule add) boxed_expr c.from_residual.result c.in_err-left.field-0.0 c.args.self.now c.args.self.now c.add.new.self (λ f r. fails_rule (fails_front r)) c.from_residual.ensures.1 c.in_err-left.ensures.reads

pub cmp-returns-in_err-operator-clause-reads : goal.cmp-returns-in_err-operator-clause-reads
cmp-returns-in_err-operator-clause-reads t c =
    gives_up_in (rule cmp) (comparison) boxed_expr c.from_residual-in_err-operator.result c.in_err-operator.field-0.0 c.args.self.now c.add.new.self c.comparison.new.self
    (λ f r. fails_rule (fails_behind c.in_ok-left.ensures.reads (fails_presence c.in_err-operator.ensures.reads.0 (fails_front r)))) c.from_residual-in_err-operator.ensures.1 c.in_err-operator.ensures.reads.1

pub cmp-returns-in_default-clause-reads : goal.cmp-returns-in_default-clause-reads
cmp-returns-in_default-clause-reads t c =
    let n = rw c.in_default.is at c.in_ok-operator.ensures.reads in
    read_to (rule cmp) (boxed_expr c.in_ok-left.left) c.args.self.now c.add.new.self c.comparison.new.self n.1 n.2 (finds_rule (finds_both c.in_ok-left.ensures.reads (finds_absence n.0)))

pub cmp-returns-in_err-right-clause-reads : goal.cmp-returns-in_err-right-clause-reads
cmp-returns-in_err-right-clause-reads t c =
    let o = rw c.in-Some.is at c.in_ok-operator.ensures.reads in
    gives_up_in (rule cmp) (rule add) boxed_expr c.from_residual-in_err-right.result c.in_err-right.field-0.0 c.args.self.now c.comparison.new.self c.add-2.new.self (λ f r. fails_rule (fails_behind c.in_ok-left.ensures.reads (fails_presence o.0 (fails_behind o.3 r)))) c.from_residual-in_err-right.ensures.1 c.in_err-right.ensures.reads

pub cmp-returns-clause-reads : goal.cmp-returns-clause-reads
cmp-returns-clause-reads t c =
    let o = rw c.in-Some.is at c.in_ok-operator.ensures.reads in
    let l = boxed_expr c.in_ok-left.left in
    let r = boxed_expr c.in_ok-right.right in
    reads_made (rule cmp) boxed_expr _ c.binary.result c.args.self.now c.add-2.new.self c.binary.ensures.made
    (subst (λ tree. Read (rule cmp) tree c.args.self.now c.add-2.new.self) (ap (λ operator. binary operator l r) o.2)
    (finds_rule (finds_both c.in_ok-left.ensures.reads (finds_presence o.0 (finds_both o.3 c.in_ok-right.ensures.reads)))))

pub add-returns-in_err-left-clause-reads : goal.add-returns-in_err-left-clause-reads
add-returns-in_err-left-clause-reads t c =
    gives_up_in (rule add) (rule mul) boxed_expr c.from_residual.result c.in_err-left.field-0.0 c.args.self.now c.args.self.now c.mul.new.self (λ f r. fails_rule (fails_front r)) c.from_residual.ensures.1 c.in_err-left.ensures.reads

pub add-loop-operator-init : goal.add-loop-operator-init
add-loop-operator-init t c =
    record {
      left = omega (arith, c.in_ok-left.ensures.left);
      read = front_read c.mul.new.self (continues_rule add c.args.self.now) c.in_ok-left.ensures.reads;
      depth = c.in_ok-left.ensures.depth;
    }

pub add-returns-in_err-operator-clause-reads : goal.add-returns-in_err-operator-clause-reads
add-returns-in_err-operator-clause-reads t c =
    gives_up_in (rule add) (sum_operator) boxed_expr c.from_residual-in_err-operator.result c.in_err-operator.field-0.0 c.args.self.now c.loop-operator.self c.sum_operator.new.self
    (λ f r. c.loop-operator.invariant.read.failed f (fails_one c.in_err-operator.ensures.reads.0 (fails_front r))) c.from_residual-in_err-operator.ensures.1 c.in_err-operator.ensures.reads.1

pub add-returns-in_err-right-clause-reads : goal.add-returns-in_err-right-clause-reads
add-returns-in_err-right-clause-reads t c =
    let o = rw c.in-Some.is at c.in_ok-operator.ensures.reads in
    gives_up_in (rule add) (rule mul) boxed_expr c.from_residual-in_err-right.result c.in_err-right.field-0.0 c.args.self.now c.sum_operator.new.self c.mul-in-Some.new.self (λ f r. c.loop-operator.invariant.read.failed f (fails_one o.0 (fails_behind o.3 r))) c.from_residual-in_err-right.ensures.1 c.in_err-right.ensures.reads

pub add-loop-operator-preserved : goal.add-loop-operator-preserved
add-loop-operator-preserved t c =
    let o = rw c.in-Some.is at c.in_ok-operator.ensures.reads in
    record {
      left = omega (arith, c.in_ok-right.ensures.left, c.in_ok-operator.ensures.left);
      read = continues_left (to_left sum_operator_of) (boxed_expr c.loop-operator.left) (boxed_expr c.in_ok-left-2.left) c.args.self.now c.loop-operator.self c.sum_operator.new.self c.mul-in-Some.new.self c.loop-operator.invariant.read o.0 o.3 c.in_ok-right.ensures.reads
          (λ vs. ap (λ left. to_left sum_operator_of left vs) (ap (λ operator. binary operator (boxed_expr c.loop-operator.left) (boxed_expr c.in_ok-right.right)) o.2 ∙ sym c.in_ok-left-2.ensures.made));
      depth = c.in_ok-left-2.ensures.depth c.loop-operator.invariant.depth c.in_ok-right.ensures.depth;
    }

pub add-returns-clause-reads : goal.add-returns-clause-reads
add-returns-clause-reads t c =
    let n = rw c.in_default.is at c.in_ok-operator.ensures.reads in
    read_to (rule add) (boxed_expr c.loop-operator.left) c.args.self.now c.loop-operator.self c.sum_operator.new.self n.1 n.2 (ends_many c.loop-operator.invariant.read n.0)

pub mul-returns-in_err-left-clause-reads : goal.mul-returns-in_err-left-clause-reads
mul-returns-in_err-left-clause-reads t c =
    gives_up_in (rule mul) (rule un) boxed_expr c.from_residual.result c.in_err-left.field-0.0 c.args.self.now c.args.self.now c.un.new.self (λ f r. fails_rule (fails_front r)) c.from_residual.ensures.1 c.in_err-left.ensures.reads

pub mul-loop-operator-init : goal.mul-loop-operator-init
mul-loop-operator-init t c =
    record {
      left = omega (arith, c.in_ok-left.ensures.left);
      read = front_read c.un.new.self (continues_rule mul c.args.self.now) c.in_ok-left.ensures.reads;
      depth = c.in_ok-left.ensures.depth;
    }

pub mul-returns-in_err-operator-clause-reads : goal.mul-returns-in_err-operator-clause-reads
mul-returns-in_err-operator-clause-reads t c =
    gives_up_in (rule mul) (product_operator) boxed_expr c.from_residual-in_err-operator.result c.in_err-operator.field-0.0 c.args.self.now c.loop-operator.self c.product_operator.new.self
    (λ f r. c.loop-operator.invariant.read.failed f (fails_one c.in_err-operator.ensures.reads.0 (fails_front r))) c.from_residual-in_err-operator.ensures.1 c.in_err-operator.ensures.reads.1

pub mul-returns-in_err-right-clause-reads : goal.mul-returns-in_err-right-clause-reads
mul-returns-in_err-right-clause-reads t c =
    let o = rw c.in-Some.is at c.in_ok-operator.ensures.reads in
    gives_up_in (rule mul) (rule un) boxed_expr c.from_residual-in_err-right.result c.in_err-right.field-0.0 c.args.self.now c.product_operator.new.self c.un-in-Some.new.self (λ f r. c.loop-operator.invariant.read.failed f (fails_one o.0 (fails_behind o.3 r))) c.from_residual-in_err-right.ensures.1 c.in_err-right.ensures.reads

pub mul-loop-operator-preserved : goal.mul-loop-operator-preserved
mul-loop-operator-preserved t c =
    let o = rw c.in-Some.is at c.in_ok-operator.ensures.reads in
    record {
      left = omega (arith, c.in_ok-right.ensures.left, c.in_ok-operator.ensures.left);
      read = continues_left (to_left product_operator_of) (boxed_expr c.loop-operator.left) (boxed_expr c.in_ok-left-2.left) c.args.self.now c.loop-operator.self c.product_operator.new.self c.un-in-Some.new.self c.loop-operator.invariant.read o.0 o.3 c.in_ok-right.ensures.reads
          (λ vs. ap (λ left. to_left product_operator_of left vs) (ap (λ operator. binary operator (boxed_expr c.loop-operator.left) (boxed_expr c.in_ok-right.right)) o.2 ∙ sym c.in_ok-left-2.ensures.made));
      depth = c.in_ok-left-2.ensures.depth c.loop-operator.invariant.depth c.in_ok-right.ensures.depth;
    }

pub mul-returns-clause-reads : goal.mul-returns-clause-reads
mul-returns-clause-reads t c =
    let n = rw c.in_default.is at c.in_ok-operator.ensures.reads in
    read_to (rule mul) (boxed_expr c.loop-operator.left) c.args.self.now c.loop-operator.self c.product_operator.new.self n.1 n.2 (ends_many c.loop-operator.invariant.read n.0)

pub un-returns-in_err-operator-clause-reads : goal.un-returns-in_err-operator-clause-reads
un-returns-in_err-operator-clause-reads t c =
    gives_up_in (rule un) (unary_operator) boxed_expr c.from_residual.result c.in_err-operator.field-0.0 c.args.self.now c.args.self.now c.unary_operator.new.self (λ f r. fails_rule (fails_first c.in_err-operator.ensures.reads.0 (fails_front r))) c.from_residual.ensures.1 c.in_err-operator.ensures.reads.1

pub un-returns-in_default-clause-reads : goal.un-returns-in_default-clause-reads
un-returns-in_default-clause-reads t c =
    let self = c.args.self.now in
    let here = c.unary_operator.new.self in
    let n = rw c.in_default.is at c.in_ok-operator.ensures.reads in
    reads_on (rule un) (rule post) boxed_expr boxed_expr (λ v. v) c.post.result self here c.post.new.self
    (continues_to (rule un) (rule post) (λ v. v) self self here n.1 n.2 (first_absent (continues_rule un self) n.0)) (λ x. refl) c.post.ensures.reads

pub un-returns-in_err-operand-clause-reads : goal.un-returns-in_err-operand-clause-reads
un-returns-in_err-operand-clause-reads t c =
    let o = rw c.in-Some.is at c.in_ok-operator.ensures.reads in
    gives_up_in (rule un) (rule un) boxed_expr c.from_residual-in_err-operand.result c.in_err-operand.field-0.0 c.args.self.now c.unary_operator.new.self c.un.new.self (λ f r. fails_rule (fails_first o.0 (fails_behind o.3 r))) c.from_residual-in_err-operand.ensures.1 c.in_err-operand.ensures.reads

pub un-returns-clause-reads : goal.un-returns-clause-reads
un-returns-clause-reads t c =
    let o = rw c.in-Some.is at c.in_ok-operator.ensures.reads in
    let operand = boxed_expr c.in_ok-operand.operand in
    reads_made (rule un) boxed_expr _ c.unary.result c.args.self.now c.un.new.self c.unary.ensures.made
    (subst (λ tree. Read (rule un) tree c.args.self.now c.un.new.self) (ap (λ operator. unary operator operand) o.2)
    (finds_rule (finds_first o.0 (finds_both o.3 c.in_ok-operand.ensures.reads))))

pub post-returns-in_err-first-clause-reads : goal.post-returns-in_err-first-clause-reads
post-returns-in_err-first-clause-reads t c =
    gives_up_in (rule post) (rule atom) boxed_expr c.from_residual.result c.in_err-first.field-0.0 c.args.self.now c.args.self.now c.atom.new.self (λ f r. fails_rule (fails_front r)) c.from_residual.ensures.1 c.in_err-first.ensures.reads

pub post-loop-self-init : goal.post-loop-self-init
post-loop-self-init t c =
    record {
      left = omega (arith, c.in_ok-first.ensures.left);
      read = front_read c.atom.new.self (continues_rule post c.args.self.now) c.in_ok-first.ensures.reads;
      depth = c.in_ok-first.ensures.depth;
    }

pub post-returns-in_err-open-clause-reads : goal.post-returns-in_err-open-clause-reads
post-returns-in_err-open-clause-reads t c =
    let h = sym c.is_at.ensures.value ∙ c.loop-self-test.true in
    gives_up_in (rule post) (opener (symbol Dot)) boxed_expr c.from_residual-in_err-open.result c.in_err-open.field-0.0 c.args.self.now c.loop-self.self c.open.new.self (λ f r. c.loop-self.invariant.read.failed f (fails_one h (fails_front r))) c.from_residual-in_err-open.ensures.1 c.in_err-open.ensures.reads

pub post-returns-in_err-name-clause-reads : goal.post-returns-in_err-name-clause-reads
post-returns-in_err-name-clause-reads t c =
    let h = sym c.is_at.ensures.value ∙ c.loop-self-test.true in
    gives_up_in (rule post) (token name) boxed_expr c.from_residual-in_err-name.result c.in_err-name.field-0.0 c.args.self.now c.open.new.self c.identifier.new.self
    (λ f r. c.loop-self.invariant.read.failed f (fails_one h (fails_behind c.in_ok-open.ensures.reads (fails_front r)))) c.from_residual-in_err-name.ensures.1 c.in_err-name.ensures.reads

pub post-returns-in_err-given-clause-reads : goal.post-returns-in_err-given-clause-reads
post-returns-in_err-given-clause-reads t c =
    let h = sym c.is_at.ensures.value ∙ c.loop-self-test.true in
    gives_up_in (rule post) (optional (bracketed (rule args))) boxed_expr c.from_residual-in_err-given.result c.in_err-given.field-0.0 c.args.self.now c.identifier.new.self c.arguments.new.self
    (λ f r. c.loop-self.invariant.read.failed f (fails_one h (fails_behind c.in_ok-open.ensures.reads (fails_behind c.in_ok-name.ensures.reads r)))) c.from_residual-in_err-given.ensures.1 c.in_err-given.ensures.reads

pub post-loop-self-preserved : goal.post-loop-self-preserved
post-loop-self-preserved t c =
    let h = sym c.is_at.ensures.value ∙ c.loop-self-test.true in
    let a = c.in_ok-given.ensures.reads in
    let others = c.match-given.others in
    let is : arguments_of a.0 ≡ map written_expr others.items = elim c.match-given.branch [
      | post-in-Some w ↦ given-view-some a.0 c.in_ok-given.given w.in-Some.others a.1 w.in-Some.is ∙ ap (λ v. map written_expr v.items) (sym w.others-is)
      | post-in-None w ↦ given-view-none a.0 c.in_ok-given.given a.1 w.in-None.is ∙ ap (map written_expr) (sym (ap (λ v. v.items) w.others-is ∙ w.new-others.ensures.items))
    ] in
    let under : AreNoDeeper others.items = elim c.match-given.branch [
      | post-in-Some w ↦ subst (λ (es : Vec SurfaceExpr). AreNoDeeper es.items) (sym w.others-is) (given_under c.in_ok-given.given w.in-Some.others c.in_ok-given.ensures.depth w.in-Some.is)
      | post-in-None w ↦ subst AreNoDeeper (sym (ap (λ v. v.items) w.others-is ∙ w.new-others.ensures.items)) (All-nil IsNoDeeper)
    ] in
    record {
      left = omega (arith, c.in_ok-given.ensures.left, c.in_ok-name.ensures.left, c.in_ok-open.ensures.left);
      read = continues_dot (boxed_expr c.loop-self.first) c.in_ok-name.name a.0 (map written_expr others.items) (boxed_expr c.in_ok-first-2.first) c.args.self.now c.loop-self.self c.open.new.self c.identifier.new.self c.arguments.new.self
          c.loop-self.invariant.read h c.in_ok-open.ensures.reads c.in_ok-name.ensures.reads a.2 is c.in_ok-first-2.ensures.made;
      depth = c.in_ok-first-2.ensures.depth c.loop-self.invariant.depth under;
    }

pub post-returns-clause-reads : goal.post-returns-clause-reads
post-returns-clause-reads t c = ends_many c.loop-self.invariant.read (sym c.is_at.ensures.value ∙ c.loop-self-test.false)

pub atom-returns-in-Some-clause-reads : goal.atom-returns-in-Some-clause-reads
atom-returns-in-Some-clause-reads t c =
    let n = rw c.in-Some.is at c.number.ensures.takes in
    let fits : SFits w32 c.in-Some.value = search rules in
    reads_made (rule atom) boxed_expr _ c.number-in-Some.result c.args.self.now c.number.new.self c.number-in-Some.ensures.made
    (subst (λ tree. Read (rule atom) tree c.args.self.now c.number.new.self) (ap OfNumber (sym (to_z-of_z w32 c.in-Some.value fits)))
    (finds_rule (finds_first n.0 n.1)))

pub atom-returns-then-is_at_constructor-clause-reads : goal.atom-returns-then-is_at_constructor-clause-reads
atom-returns-then-is_at_constructor-clause-reads t c =
    let n = rw c.in_default.is at c.number.ensures.takes in
    reads_as_on (first_next (atom_but_number c.args.self.now c.number.new.self n.0 n.1 n.2) (sym c.is_at_constructor.ensures ∙ c.if-is_at_constructor.true)) boxed_expr (λ v. construct v.0 (writtens_of (arguments_of v.1))) c.constructed.result c.constructed.new.self construction-means c.constructed.ensures.reads

pub atom-returns-then-is_at-clause-reads : goal.atom-returns-then-is_at-clause-reads
atom-returns-then-is_at-clause-reads t c =
    let n = rw c.in_default.is at c.number.ensures.takes in
    reads_as_on (first_next (first_absent (atom_but_number c.args.self.now c.number.new.self n.0 n.1 n.2) (sym c.is_at_constructor.ensures ∙ c.if-is_at_constructor.false)) (sym c.is_at.ensures.value ∙ c.if-is_at.true)) boxed_expr (inside unit (λ e. e)) c.in_brackets.result c.in_brackets.new.self (λ v. refl) c.in_brackets.ensures.reads

pub atom-returns-then-is_at_string-clause-reads : goal.atom-returns-then-is_at_string-clause-reads
atom-returns-then-is_at_string-clause-reads t c =
    let n = rw c.in_default.is at c.number.ensures.takes in
    reads_as_on (first_next (first_absent (first_absent (atom_but_number c.args.self.now c.number.new.self n.0 n.1 n.2) (sym c.is_at_constructor.ensures ∙ c.if-is_at_constructor.false)) (sym c.is_at.ensures.value ∙ c.if-is_at.false)) (sym c.is_at_string.ensures ∙ c.if-is_at_string.true)) boxed_expr spoken_of c.spoken.result c.spoken.new.self spoken-means c.spoken.ensures.reads

pub atom-returns-then-is_at_name-clause-reads : goal.atom-returns-then-is_at_name-clause-reads
atom-returns-then-is_at_name-clause-reads t c =
    let n = rw c.in_default.is at c.number.ensures.takes in
    reads_as_on (first_next (first_absent (first_absent (first_absent (atom_but_number c.args.self.now c.number.new.self n.0 n.1 n.2) (sym c.is_at_constructor.ensures ∙ c.if-is_at_constructor.false)) (sym c.is_at.ensures.value ∙ c.if-is_at.false)) (sym c.is_at_string.ensures ∙ c.if-is_at_string.false)) (sym c.is_at_name.ensures.value ∙ c.if-is_at_name.true)) boxed_expr printed_of c.printed.result c.printed.new.self (λ v. refl) c.printed.ensures.reads

pub atom-returns-clause-reads : goal.atom-returns-clause-reads
atom-returns-clause-reads t c =
    let n = rw c.in_default.is at c.number.ensures.takes in
    reads_as_on (first_absent (first_absent (first_absent (first_absent (atom_but_number c.args.self.now c.number.new.self n.0 n.1 n.2) (sym c.is_at_constructor.ensures ∙ c.if-is_at_constructor.false)) (sym c.is_at.ensures.value ∙ c.if-is_at.false)) (sym c.is_at_string.ensures ∙ c.if-is_at_string.false)) (sym c.is_at_name.ensures.value ∙ c.if-is_at_name.false)) boxed_expr (λ v. named_of v.0 v.1) c.named.result c.named.new.self named-means c.named.ensures.reads

pub in_brackets-returns-in_err-open-clause-reads : goal.in_brackets-returns-in_err-open-clause-reads
in_brackets-returns-in_err-open-clause-reads t c =
    gives_up_as_in brackets (opener (symbol OpenParenthesis)) (inside unit (λ e. e)) boxed_expr c.from_residual.result c.in_err-open.field-0.0 c.args.self.now c.args.self.now c.open.new.self (λ f r. fails_front r) c.from_residual.ensures.1 c.in_err-open.ensures.reads

pub in_brackets-returns-then-is_at-clause-reads : goal.in_brackets-returns-then-is_at-clause-reads
in_brackets-returns-then-is_at-clause-reads t c =
    let h = sym c.is_at.ensures.value ∙ c.if-is_at.true in
    reads_made_as brackets (inside unit (λ e. e)) boxed_expr (tt, inl tt) _ c.unit.result c.args.self.now c.advance.new.self c.unit.ensures.made (refl)
    (finds_both c.in_ok-open.ensures.reads (finds_first h (symbol_read CloseParenthesis c.open.new.self c.advance.new.self h c.advance.ensures.rest c.advance.ensures.depth)))

pub in_brackets-returns-in_err-inner-clause-reads : goal.in_brackets-returns-in_err-inner-clause-reads
in_brackets-returns-in_err-inner-clause-reads t c =
    let h0 = sym c.is_at.ensures.value ∙ c.if-is_at.false in
    gives_up_as_in brackets (rule expr) (inside unit (λ e. e)) boxed_expr c.from_residual-in_err-inner.result c.in_err-inner.field-0.0 c.args.self.now c.open.new.self c.expr.new.self (λ f r. fails_behind c.in_ok-open.ensures.reads (fails_second h0 (fails_front r))) c.from_residual-in_err-inner.ensures.1 c.in_err-inner.ensures.reads

pub in_brackets-returns-in_err-expect-clause-reads : goal.in_brackets-returns-in_err-expect-clause-reads
in_brackets-returns-in_err-expect-clause-reads t c =
    let h0 = sym c.is_at.ensures.value ∙ c.if-is_at.false in
    gives_up_as_in brackets (token (symbol CloseParenthesis)) (inside unit (λ e. e)) boxed_expr c.from_residual-in_err-expect.result c.in_err-expect.field-0.0 c.args.self.now c.expr.new.self c.expect.new.self
    (λ f r. fails_behind c.in_ok-open.ensures.reads (fails_second h0 (fails_behind c.in_ok-inner.ensures.reads r))) c.from_residual-in_err-expect.ensures.1 c.in_err-expect.ensures.reads

pub in_brackets-returns-clause-reads : goal.in_brackets-returns-clause-reads
in_brackets-returns-clause-reads t c =
    let h0 = sym c.is_at.ensures.value ∙ c.if-is_at.false in
    ((tt, inr (boxed_expr c.in_ok-inner.inner, tt)), refl, finds_both c.in_ok-open.ensures.reads (finds_second h0 (finds_both c.in_ok-inner.ensures.reads c.in_ok-expect.ensures.reads)))

pub printed-returns-in_err-form-clause-reads : goal.printed-returns-in_err-form-clause-reads
printed-returns-in_err-form-clause-reads t c =
    gives_up_as_in printed (print_word) printed_of boxed_expr c.from_residual.result c.in_err-form.field-0.0 c.args.self.now c.args.self.now c.print_word.new.self (λ f r. fails_front r) c.from_residual.ensures.1 c.in_err-form.ensures.reads

pub printed-returns-then-not-is_at-clause-reads : goal.printed-returns-then-not-is_at-clause-reads
printed-returns-then-not-is_at-clause-reads t c =
    let w = c.in_ok-form.ensures.reads in
    reads_made_as printed printed_of boxed_expr (w.0, None) _ c.variable.result c.args.self.now c.print_word.new.self c.variable.ensures.made (ap (λ p. variable p.1) w.1)
    (finds_both w.2 (finds_absence (sym c.is_at.ensures.value ∙ c.if-not-is_at.true)))

pub printed-returns-in_err-open-clause-reads : goal.printed-returns-in_err-open-clause-reads
printed-returns-in_err-open-clause-reads t c =
    let w = c.in_ok-form.ensures.reads in
    let h = sym c.is_at.ensures.value ∙ c.if-not-is_at.false in
    gives_up_as_in printed (opener (symbol OpenParenthesis)) printed_of boxed_expr c.from_residual-in_err-open.result c.in_err-open.field-0.0 c.args.self.now c.print_word.new.self c.open.new.self (λ f r. fails_behind w.2 (fails_presence h (fails_front r))) c.from_residual-in_err-open.ensures.1 c.in_err-open.ensures.reads

pub printed-returns-in_err-expect-clause-reads : goal.printed-returns-in_err-expect-clause-reads
printed-returns-in_err-expect-clause-reads t c =
    let w = c.in_ok-form.ensures.reads in
    let h = sym c.is_at.ensures.value ∙ c.if-not-is_at.false in
    let q = sym c.is_at_quoted.ensures ∙ c.if-is_at_quoted.true in
    gives_up_as_in printed (token (symbol CloseParenthesis)) printed_of boxed_expr c.from_residual-in_err-expect.result c.in_err-expect.field-0.0 c.args.self.now c.string.new.self c.expect.new.self
    (λ f r. fails_behind w.2 (fails_presence h (fails_behind c.in_ok-open.ensures.reads (fails_quoted q (fails_behind c.in_ok-text.ensures.reads r))))) c.from_residual-in_err-expect.ensures.1 c.in_err-expect.ensures.reads

pub printed-returns-then-is_at_quoted-clause-reads : goal.printed-returns-then-is_at_quoted-clause-reads
printed-returns-then-is_at_quoted-clause-reads t c =
    let w = c.in_ok-form.ensures.reads in
    let h = sym c.is_at.ensures.value ∙ c.if-not-is_at.false in
    let q = sym c.is_at_quoted.ensures ∙ c.if-is_at_quoted.true in
    let text = c.in_ok-text.text in
    reads_made_as printed printed_of boxed_expr (w.0, Some (tt, inl text)) _ c.print_text.result c.args.self.now c.expect.new.self c.print_text.ensures.made (ap (λ p. print_text p.0 text) w.1)
    (finds_both w.2 (finds_presence h (finds_both c.in_ok-open.ensures.reads (finds_quoted q (finds_both c.in_ok-text.ensures.reads c.in_ok-expect.ensures.reads)))))

pub printed-returns-in_err-arguments-clause-reads : goal.printed-returns-in_err-arguments-clause-reads
printed-returns-in_err-arguments-clause-reads t c =
    let w = c.in_ok-form.ensures.reads in
    let h = sym c.is_at.ensures.value ∙ c.if-not-is_at.false in
    let q = sym c.is_at_quoted.ensures ∙ c.if-is_at_quoted.false in
    gives_up_as_in printed (rule args) printed_of boxed_expr c.from_residual-in_err-arguments.result c.in_err-arguments.field-0.0 c.args.self.now c.open.new.self c.args-2.new.self
    (λ f r. fails_behind w.2 (fails_presence h (fails_behind c.in_ok-open.ensures.reads (fails_unquoted q (fails_front r))))) c.from_residual-in_err-arguments.ensures.1 c.in_err-arguments.ensures.reads

pub printed-returns-in_err-expect-2-clause-reads : goal.printed-returns-in_err-expect-2-clause-reads
printed-returns-in_err-expect-2-clause-reads t c =
    let w = c.in_ok-form.ensures.reads in
    let h = sym c.is_at.ensures.value ∙ c.if-not-is_at.false in
    let q = sym c.is_at_quoted.ensures ∙ c.if-is_at_quoted.false in
    gives_up_as_in printed (token (symbol CloseParenthesis)) printed_of boxed_expr c.from_residual-in_err-expect-2.result c.in_err-expect-2.field-0.0 c.args.self.now c.args-2.new.self c.expect-2.new.self
    (λ f r. fails_behind w.2 (fails_presence h (fails_behind c.in_ok-open.ensures.reads (fails_unquoted q (fails_behind c.in_ok-arguments.ensures.reads r))))) c.from_residual-in_err-expect-2.ensures.1 c.in_err-expect-2.ensures.reads

pub printed-returns-clause-reads : goal.printed-returns-clause-reads
printed-returns-clause-reads t c =
    let w = c.in_ok-form.ensures.reads in
    let h = sym c.is_at.ensures.value ∙ c.if-not-is_at.false in
    let q = sym c.is_at_quoted.ensures ∙ c.if-is_at_quoted.false in
    let arguments = c.in_ok-arguments.arguments in
    let given = map written_expr arguments.items in
    reads_made_as printed printed_of boxed_expr (w.0, Some (tt, inr (given, tt))) _ c.call.result c.args.self.now c.expect-2.new.self c.call.ensures.made (ap (λ p. call p.1 (writtens_of given)) w.1)
    (finds_both w.2 (finds_presence h (finds_both c.in_ok-open.ensures.reads (finds_unquoted q (finds_both c.in_ok-arguments.ensures.reads c.in_ok-expect-2.ensures.reads)))))

pub named-returns-in_err-name-clause-reads : goal.named-returns-in_err-name-clause-reads
named-returns-in_err-name-clause-reads t c =
    gives_up_as_in other_name (token name_but_print) (λ v. named_of v.0 v.1) boxed_expr c.from_residual.result c.in_err-name.field-0.0 c.args.self.now c.args.self.now c.identifier.new.self (λ f r. fails_front r) c.from_residual.ensures.1 c.in_err-name.ensures.reads

pub named-returns-in_err-arguments-clause-reads : goal.named-returns-in_err-arguments-clause-reads
named-returns-in_err-arguments-clause-reads t c =
    gives_up_as_in other_name (optional (bracketed (rule args))) (λ v. named_of v.0 v.1) boxed_expr c.from_residual-in_err-arguments.result c.in_err-arguments.field-0.0 c.args.self.now c.identifier.new.self c.arguments.new.self
    (λ f r. fails_behind c.in_ok-name.ensures.reads r) c.from_residual-in_err-arguments.ensures.1 c.in_err-arguments.ensures.reads

pub named-returns-in-Some-clause-reads : goal.named-returns-in-Some-clause-reads
named-returns-in-Some-clause-reads t c =
    let a = rw c.in-Some.is at c.in_ok-arguments.ensures.reads in
    let called = c.in_ok-name.name in
    reads_made_as other_name (λ v. named_of v.0 v.1) boxed_expr (called, a.0) _ c.call.result c.args.self.now c.arguments.new.self c.call.ensures.made (named-some called a.0 (map written_expr c.in-Some.arguments.items) a.1)
    (finds_both c.in_ok-name.ensures.reads a.2)

pub named-returns-in-None-clause-reads : goal.named-returns-in-None-clause-reads
named-returns-in-None-clause-reads t c =
    let a = rw c.in-None.is at c.in_ok-arguments.ensures.reads in
    let called = c.in_ok-name.name in
    reads_made_as other_name (λ v. named_of v.0 v.1) boxed_expr (called, a.0) _ c.variable.result c.args.self.now c.arguments.new.self c.variable.ensures.made (named-none called a.0 a.1)
    (finds_both c.in_ok-name.ensures.reads a.2)

pub constructed-returns-in_err-name-clause-reads : goal.constructed-returns-in_err-name-clause-reads
constructed-returns-in_err-name-clause-reads t c =
    gives_up_as_in construction (token constructor) (λ v. construct v.0 (writtens_of (arguments_of v.1))) boxed_expr c.from_residual.result c.in_err-name.field-0.0 c.args.self.now c.args.self.now c.constructor.new.self (λ f r. fails_front r) c.from_residual.ensures.1 c.in_err-name.ensures.reads

pub constructed-returns-in_err-arguments-clause-reads : goal.constructed-returns-in_err-arguments-clause-reads
constructed-returns-in_err-arguments-clause-reads t c =
    gives_up_as_in construction (optional (bracketed (rule args))) (λ v. construct v.0 (writtens_of (arguments_of v.1))) boxed_expr c.from_residual-in_err-arguments.result c.in_err-arguments.field-0.0 c.args.self.now c.constructor.new.self c.arguments.new.self
    (λ f r. fails_behind c.in_ok-name.ensures.reads r) c.from_residual-in_err-arguments.ensures.1 c.in_err-arguments.ensures.reads

pub constructed-returns-in-Some-clause-reads : goal.constructed-returns-in-Some-clause-reads
constructed-returns-in-Some-clause-reads t c =
    let a = rw c.in-Some.is at c.in_ok-arguments.ensures.reads in
    let called = c.in_ok-name.name in
    reads_made_as construction (λ v. construct v.0 (writtens_of (arguments_of v.1))) boxed_expr (called, a.0) _ c.construct.result c.args.self.now c.arguments.new.self c.construct.ensures.made
    (ap (λ es. construct called (writtens_of es)) (given-some a.0 (map written_expr c.in-Some.arguments.items) a.1))
    (finds_both c.in_ok-name.ensures.reads a.2)

pub constructed-returns-in-None-clause-reads : goal.constructed-returns-in-None-clause-reads
constructed-returns-in-None-clause-reads t c =
    let a = rw c.in-None.is at c.in_ok-arguments.ensures.reads in
    let called = c.in_ok-name.name in
    reads_made_as construction (λ v. construct v.0 (writtens_of (arguments_of v.1))) boxed_expr (called, a.0) _ c.construct-in-None.result c.args.self.now c.arguments.new.self c.construct-in-None.ensures.made
    (ap (λ es. construct called (writtens_of es)) (given-none a.0 a.1 ∙ sym (ap (map written_expr) c.new.ensures.items)))
    (finds_both c.in_ok-name.ensures.reads a.2)

pub arguments-returns-then-not-is_at-clause-reads : goal.arguments-returns-then-not-is_at-clause-reads
arguments-returns-then-not-is_at-clause-reads t c =
    (None, refl, finds_absence (sym c.is_at.ensures.value ∙ c.if-not-is_at.true))

pub arguments-returns-in_err-open-clause-reads : goal.arguments-returns-in_err-open-clause-reads
arguments-returns-in_err-open-clause-reads t c =
    let h = sym c.is_at.ensures.value ∙ c.if-not-is_at.false in
    gives_up_as_in (optional (bracketed (rule args))) (opener (symbol OpenParenthesis)) arguments_given arguments_view c.from_residual.result c.in_err-open.field-0.0 c.args.self.now c.args.self.now c.open.new.self (λ f r. fails_presence h (fails_front r)) c.from_residual.ensures.1 c.in_err-open.ensures.reads

pub arguments-returns-in_err-arguments-clause-reads : goal.arguments-returns-in_err-arguments-clause-reads
arguments-returns-in_err-arguments-clause-reads t c =
    let h = sym c.is_at.ensures.value ∙ c.if-not-is_at.false in
    gives_up_as_in (optional (bracketed (rule args))) (rule args) arguments_given arguments_view c.from_residual-in_err-arguments.result c.in_err-arguments.field-0.0 c.args.self.now c.open.new.self c.args-2.new.self
    (λ f r. fails_presence h (fails_behind c.in_ok-open.ensures.reads (fails_front r))) c.from_residual-in_err-arguments.ensures.1 c.in_err-arguments.ensures.reads

pub arguments-returns-in_err-expect-clause-reads : goal.arguments-returns-in_err-expect-clause-reads
arguments-returns-in_err-expect-clause-reads t c =
    let h = sym c.is_at.ensures.value ∙ c.if-not-is_at.false in
    gives_up_as_in (optional (bracketed (rule args))) (token (symbol CloseParenthesis)) arguments_given arguments_view c.from_residual-in_err-expect.result c.in_err-expect.field-0.0 c.args.self.now c.args-2.new.self c.expect.new.self
    (λ f r. fails_presence h (fails_behind c.in_ok-open.ensures.reads (fails_behind c.in_ok-arguments.ensures.reads r))) c.from_residual-in_err-expect.ensures.1 c.in_err-expect.ensures.reads

pub arguments-returns-clause-reads : goal.arguments-returns-clause-reads
arguments-returns-clause-reads t c =
    let h = sym c.is_at.ensures.value ∙ c.if-not-is_at.false in
    (Some (tt, (map written_expr c.in_ok-arguments.arguments.items, tt)), refl, finds_presence h (finds_both c.in_ok-open.ensures.reads (finds_both c.in_ok-arguments.ensures.reads c.in_ok-expect.ensures.reads)))

pub args-returns-then-not-is_at_expr-clause-reads : goal.args-returns-then-not-is_at_expr-clause-reads
args-returns-then-not-is_at_expr-clause-reads t c =
    subst (λ es. Read (rule args) es c.args.self.now c.args.self.now) (ap (map written_expr) (sym c.new-arguments.ensures.items)) (finds_rule (finds_absence (sym c.is_at_expr.ensures ∙ c.if-not-is_at_expr.true)))

pub args-returns-in_err-first-clause-reads : goal.args-returns-in_err-first-clause-reads
args-returns-in_err-first-clause-reads t c =
    let h = sym c.is_at_expr.ensures ∙ c.if-not-is_at_expr.false in
    gives_up_in (rule args) (rule expr) (λ es. map written_expr es.items) c.from_residual.result c.in_err-first.field-0.0 c.args.self.now c.args.self.now c.expr.new.self (λ f r. fails_rule (fails_presence h (fails_front r))) c.from_residual.ensures.1 c.in_err-first.ensures.reads

pub args-loop-self-init : goal.args-loop-self-init
args-loop-self-init t c =
    let h = sym c.is_at_expr.ensures ∙ c.if-not-is_at_expr.false in
    let old = c.args.self.now in
    let first = c.in_ok-first.first in
    let r = c.in_ok-first.ensures.reads in
    let is : c.put.new.items.items ≡ first.value ∷ [] = c.in_ok-put.ensures ∙ ap (λ es. es ++ c.into_inner.result ∷ []) c.new-arguments.ensures.items ∙ ap (λ e. e ∷ []) c.into_inner.ensures in
    record {
      left = omega (arith, c.in_ok-first.ensures.left);
      read = continues_as (rule args) more_args (λ vs. boxed_expr first ∷ map (λ m. m.1) vs) (λ vs. map written_expr c.put.new.items.items ++ map (λ m. m.1) vs) old c.expr.new.self
          (λ vs. one_more [] c.put.new.items.items first.value (map (λ m. m.1) vs) is)
          (record { found = λ v m us s. finds_rule (finds_presence h (finds_both r s)); failed = λ f s. fails_rule (fails_presence h (fails_behind r s)) });
      depth = subst AreNoDeeper (sym is) (All-cons IsNoDeeper first.value [] c.in_ok-first.ensures.depth (All-nil IsNoDeeper));
    }

pub args-returns-in_err-next-clause-reads : goal.args-returns-in_err-next-clause-reads
args-returns-in_err-next-clause-reads t c =
    let h = sym c.is_at.ensures.value ∙ c.loop-self-test.true in
    let comma = symbol_read Comma c.loop-self.self c.advance.new.self h c.advance.ensures.rest c.advance.ensures.depth in
    gives_up_in (rule args) (rule expr) (λ es. map written_expr es.items) c.from_residual-in_err-next.result c.in_err-next.field-0.0 c.args.self.now c.advance.new.self c.expr-in-loop-self.new.self (λ f r. c.loop-self.invariant.read.failed f (fails_one h (fails_behind comma r))) c.from_residual-in_err-next.ensures.1 c.in_err-next.ensures.reads

pub args-loop-self-preserved : goal.args-loop-self-preserved
args-loop-self-preserved t c =
    let h = sym c.is_at.ensures.value ∙ c.loop-self-test.true in
    let comma = symbol_read Comma c.loop-self.self c.advance.new.self h c.advance.ensures.rest c.advance.ensures.depth in
    let before = c.loop-self.arguments.items in
    let after = c.put-in-loop-self.new.items.items in
    let next = c.in_ok-next.next in
    let new = c.expr-in-loop-self.new.self in
    record {
      left = omega (arith, c.in_ok-next.ensures.left);
      read = continues_as (rule args) more_args (λ vs. map written_expr before ++ (boxed_expr next ∷ map (λ m. m.1) vs)) (λ vs. map written_expr after ++ map (λ m. m.1) vs) c.args.self.now new
          (λ vs. one_more before after next.value (map (λ m. m.1) vs) (c.in_ok-put-2.ensures ∙ ap (λ e. before ++ e ∷ []) c.into_inner-in-loop-self.ensures))
          (continues_many (rule args) (token (symbol Comma) ▸ rule expr) (λ vs. map written_expr before ++ map (λ m. m.1) vs) (tt, boxed_expr next) c.args.self.now c.loop-self.self new c.loop-self.invariant.read h (finds_both comma c.in_ok-next.ensures.reads));
      depth = one_more_under IsNoDeeper before after next.value (c.in_ok-put-2.ensures ∙ ap (λ e. before ++ e ∷ []) c.into_inner-in-loop-self.ensures) c.loop-self.invariant.depth c.in_ok-next.ensures.depth;
    }

pub args-returns-clause-reads : goal.args-returns-clause-reads
args-returns-clause-reads t c =
    let items = map written_expr c.loop-self.arguments.items in
    subst (λ es. Read (rule args) es c.args.self.now c.loop-self.self) (append-nil items)
    (ends_many c.loop-self.invariant.read (sym c.is_at.ensures.value ∙ c.loop-self-test.false))

pub binding-returns-in_err-expect_keyword-clause-reads : goal.binding-returns-in_err-expect_keyword-clause-reads
binding-returns-in_err-expect_keyword-clause-reads t c =
    gives_up_as_in binding (token (keyword Val)) binding_of binding_view c.from_residual.result c.in_err-expect_keyword.field-0.0 c.args.self.now c.args.self.now c.expect_keyword.new.self (λ f r. fails_front r) c.from_residual.ensures.1 c.in_err-expect_keyword.ensures.reads

pub binding-returns-in_err-binder-clause-reads : goal.binding-returns-in_err-binder-clause-reads
binding-returns-in_err-binder-clause-reads t c =
    gives_up_as_in binding (binder) binding_of binding_view c.from_residual-in_err-binder.result c.in_err-binder.field-0.0 c.args.self.now c.expect_keyword.new.self c.binder.new.self (λ f r. fails_behind c.in_ok-expect_keyword.ensures.reads (fails_front r)) c.from_residual-in_err-binder.ensures.1 c.in_err-binder.ensures.reads

pub binding-returns-in_err-expect-clause-reads : goal.binding-returns-in_err-expect-clause-reads
binding-returns-in_err-expect-clause-reads t c =
    gives_up_as_in binding (token (symbol Equals)) binding_of binding_view c.from_residual-in_err-expect.result c.in_err-expect.field-0.0 c.args.self.now c.binder.new.self c.expect.new.self
    (λ f r. fails_behind c.in_ok-expect_keyword.ensures.reads (fails_behind c.in_ok-binder.ensures.reads.2 (fails_front r))) c.from_residual-in_err-expect.ensures.1 c.in_err-expect.ensures.reads

pub binding-returns-in_err-value-clause-reads : goal.binding-returns-in_err-value-clause-reads
binding-returns-in_err-value-clause-reads t c =
    gives_up_as_in binding (rule expr) binding_of binding_view c.from_residual-in_err-value.result c.in_err-value.field-0.0 c.args.self.now c.expect.new.self c.expr.new.self
    (λ f r. fails_behind c.in_ok-expect_keyword.ensures.reads (fails_behind c.in_ok-binder.ensures.reads.2 (fails_behind c.in_ok-expect.ensures.reads r))) c.from_residual-in_err-value.ensures.1 c.in_err-value.ensures.reads

pub binding-returns-clause-reads : goal.binding-returns-clause-reads
binding-returns-clause-reads t c =
    let b = c.in_ok-binder.ensures.reads in
    let value = boxed_expr c.in_ok-value.value in (
      (tt, (b.0, (tt, value))),
      ap (λ binder. record { binder = binder; value = value }) b.1,
      finds_both c.in_ok-expect_keyword.ensures.reads (finds_both b.2 (finds_both c.in_ok-expect.ensures.reads c.in_ok-value.ensures.reads)),
    )

pub items-returns-in_err-binder-clause-reads : goal.items-returns-in_err-binder-clause-reads
items-returns-in_err-binder-clause-reads t c =
    let h = sym c.is_at_keyword.ensures.value ∙ c.loop-self-test.true in
    let read = c.loop-self.invariant.read in
    gives_up_items _ _ c.from_residual.result c.in_err-binder.field-0.0 c.args.self.now c.binding.new.self c.from_residual.ensures.1
    (passed_on items (binding) c.args.self.now c.loop-self.self c.binding.new.self (λ f r. read.2.failed f (fails_front (fails_one h (fails_front r)))) c.in_err-binder.field-0.0 c.in_err-binder.ensures.reads)

pub items-returns-in_err-some_semicolons-clause-reads : goal.items-returns-in_err-some_semicolons-clause-reads
items-returns-in_err-some_semicolons-clause-reads t c =
    let h = sym c.is_at_keyword.ensures.value ∙ c.loop-self-test.true in
    let read = c.loop-self.invariant.read in
    gives_up_items _ _ c.from_residual-in_err-some_semicolons.result c.in_err-some_semicolons.field-0.0 c.args.self.now c.some_semicolons.new.self c.from_residual-in_err-some_semicolons.ensures.1
    (passed_on items (some_semicolons) c.args.self.now c.binding.new.self c.some_semicolons.new.self (λ f r. read.2.failed f (fails_front (fails_one h (fails_behind c.in_ok-binder.ensures.reads.2 r)))) c.in_err-some_semicolons.field-0.0 c.in_err-some_semicolons.ensures.reads)

pub items-loop-self-smaller : goal.items-loop-self-smaller
items-loop-self-smaller t c = omega (arith, c.in_ok-binder.ensures.passed, c.in_ok-some_semicolons.ensures.left)

pub items-loop-self-preserved : goal.items-loop-self-preserved
items-loop-self-preserved t c =
    let h = sym c.is_at_keyword.ensures.value ∙ c.loop-self-test.true in
    let read = c.loop-self.invariant.read in
    let s = c.in_ok-binder.ensures.reads in
    let e = c.in_ok-some_semicolons.ensures.reads in
    record {
      left = omega (arith, c.in_ok-binder.ensures.left, c.in_ok-some_semicolons.ensures.left);
      read = (
        read.0 ++ (s.0, e.0) ∷ [],
        bound (map written_statement c.args.statements.now.items) c.loop-self.statements.items c.put.new.items.items c.in_ok-binder.binder c.in_ok-binder.value c.into_inner-value.result read.0 s.0 e.0 read.1 c.into_inner-value.ensures c.in_ok-put.ensures s.1,
        items_go_on read.0 (s.0, e.0) c.args.self.now c.loop-self.self c.some_semicolons.new.self read.2 h (finds_both s.2 e.2),
      );
      depth = λ h. one_more_under (λ s. IsNoDeeper s.value) c.loop-self.statements.items c.put.new.items.items (record { binder = c.in_ok-binder.binder; value = c.into_inner-value.result }) c.in_ok-put.ensures (c.loop-self.invariant.depth h) (subst IsNoDeeper (sym c.into_inner-value.ensures) c.in_ok-binder.ensures.depth);
    }

pub items-returns-clause-reads : goal.items-returns-clause-reads
items-returns-clause-reads t c =
    let read = c.loop-self.invariant.read in
    let h = sym c.is_at_keyword.ensures.value ∙ c.loop-self-test.false in
    items_end _ _ read.0 c.expr.result c.args.self.now c.loop-self.self c.expr.new.self read.1 read.2 h c.expr.ensures.reads

pub block-returns-in_err-open-clause-reads : goal.block-returns-in_err-open-clause-reads
block-returns-in_err-open-clause-reads t c =
    gives_up_in (rule block) (opener (symbol OpenBrace)) boxed_expr c.from_residual.result c.in_err-open.field-0.0 c.args.self.now c.args.self.now c.open.new.self (λ f r. fails_rule (fails_front r)) c.from_residual.ensures.1 c.in_err-open.ensures.reads

pub block-returns-in_err-value-clause-reads : goal.block-returns-in_err-value-clause-reads
block-returns-in_err-value-clause-reads t c =
    gives_up_in (rule block) (items) boxed_expr c.from_residual-in_err-value.result c.in_err-value.field-0.0 c.args.self.now c.skip_semicolons.new.self c.items.new.self
    (λ f r. fails_rule (fails_behind c.in_ok-open.ensures.reads (fails_behind c.skip_semicolons.ensures.reads.1 (fails_front r)))) c.from_residual-in_err-value.ensures.1 c.in_err-value.ensures.reads

pub block-loop-self-init : goal.block-loop-self-init
block-loop-self-init t c =
    let v = c.in_ok-value.ensures.reads in
    let semis = c.skip_semicolons.ensures.reads in
    record {
      left = omega (arith, c.in_ok-value.ensures.left);
      read = block_begins semis.0 v.0 _ (boxed_expr c.in_ok-value.value) c.args.self.now c.open.new.self c.skip_semicolons.new.self c.items.new.self c.in_ok-open.ensures.reads semis.1 v.3
          (v.1 ∙ ap (λ ss. map written_statement ss ++ bindings_of v.0.0) c.new-statements.ensures.items) v.2;
      depth = c.in_ok-value.ensures.depth (subst StatementsAreNoDeeper (sym c.new-statements.ensures.items) (All-nil (λ s. IsNoDeeper s.value)));
    }

pub block-returns-in_err-value-2-clause-reads : goal.block-returns-in_err-value-2-clause-reads
block-returns-in_err-value-2-clause-reads t c =
    let h = sym c.is_at.ensures.value ∙ c.loop-self-test.true in
    let hs = sym c.is_at_item.ensures ∙ c.if-is_at_item.true in
    let semi = symbol_read Semicolon c.loop-self.self c.advance.new.self h c.advance.ensures.rest c.advance.ensures.depth in
    gives_up_in (rule block) (items) boxed_expr c.from_residual-in_err-value-2.result c.in_err-value-2.field-0.0 c.args.self.now c.advance.new.self c.items-then-is_at_item.new.self
    (λ f r. c.loop-self.invariant.read.failed f (fails_front (fails_one h (fails_behind semi (fails_presence hs r))))) c.from_residual-in_err-value-2.ensures.1 c.in_err-value-2.ensures.reads

pub block-loop-self-preserved-then-is_at_item : goal.block-loop-self-preserved-then-is_at_item
block-loop-self-preserved-then-is_at_item t c =
    let h = sym c.is_at.ensures.value ∙ c.loop-self-test.true in
    let hs = sym c.is_at_item.ensures ∙ c.if-is_at_item.true in
    let semi = symbol_read Semicolon c.loop-self.self c.advance.new.self h c.advance.ensures.rest c.advance.ensures.depth in
    let v = c.in_ok-value-2.ensures.reads in
    record {
      left = omega (arith, c.in_ok-value-2.ensures.left);
      read = block_goes_on (map written_statement c.loop-self.statements.items) _ (boxed_expr c.loop-self.value) (boxed_expr c.in_ok-value-2.value) v.0 c.args.self.now c.loop-self.self c.advance.new.self c.items-then-is_at_item.new.self c.loop-self.invariant.read h semi hs v.3
          (v.1 ∙ ap (λ ss. ss ++ bindings_of v.0.0) (stated c.loop-self.statements.items c.put.new.items.items c.loop-self.value c.into_inner.result c.into_inner.ensures c.in_ok-put.ensures)) v.2;
      depth = c.in_ok-value-2.ensures.depth (one_more_under (λ s. IsNoDeeper s.value) c.loop-self.statements.items c.put.new.items.items (record { binder = Nothing; value = c.into_inner.result }) c.in_ok-put.ensures c.loop-self.invariant.depth.0 (subst IsNoDeeper (sym c.into_inner.ensures) c.loop-self.invariant.depth.1));
    }

pub block-loop-self-preserved : goal.block-loop-self-preserved
block-loop-self-preserved t c =
    let h = sym c.is_at.ensures.value ∙ c.loop-self-test.true in
    let hs = sym c.is_at_item.ensures ∙ c.if-is_at_item.false in
    let semi = symbol_read Semicolon c.loop-self.self c.advance.new.self h c.advance.ensures.rest c.advance.ensures.depth in
    record {
      left = omega arith;
      read = block_passes (map written_statement c.loop-self.statements.items) (boxed_expr c.loop-self.value) c.args.self.now c.loop-self.self c.advance.new.self c.loop-self.invariant.read h semi hs;
      depth = c.loop-self.invariant.depth;
    }

pub block-returns-in_err-expect-clause-reads : goal.block-returns-in_err-expect-clause-reads
block-returns-in_err-expect-clause-reads t c =
    gives_up_in (rule block) (token (symbol CloseBrace)) boxed_expr c.from_residual-in_err-expect.result c.in_err-expect.field-0.0 c.args.self.now c.loop-self.self c.expect.new.self
    (λ f r. c.loop-self.invariant.read.failed f (fails_behind (finds_none (sym c.is_at.ensures.value ∙ c.loop-self-test.false)) r)) c.from_residual-in_err-expect.ensures.1 c.in_err-expect.ensures.reads

pub block-returns-clause-reads : goal.block-returns-clause-reads
block-returns-clause-reads t c =
    let h = sym c.is_at.ensures.value ∙ c.loop-self-test.false in
    reads_made (rule block) boxed_expr _ c.block_of.result c.args.self.now c.expect.new.self c.block_of.ensures.made
    (c.loop-self.invariant.read.found ([], tt) c.expect.new.self.depth c.expect.new.self.rest.now (finds_both (finds_none h) c.in_ok-expect.ensures.reads))
