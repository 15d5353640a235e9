use Rattle.std.proofs.Common.{◌≡◌, ◌≤◌, length, ◌+◌, ◌*◌, ◌++◌, map}
use Rattle.kk_syntax.specs.Surface.{written_expr, written_row, written_statement}
use Rattle.kk_syntax.specs.declared.token.Symbol.TheVariants.{Comma, Dot}
use Rattle.kk_parser.specs.Depths.{IsNoDeeper, AreNoDeeper, RowsAreNoDeeper, StatementsAreNoDeeper}
use Rattle.kk_parser.specs.Forms.{items, binding, bindings_of}
use Rattle.kk_parser.specs.Grammar.{sum_operator, sum_operator_of, product_operator, product_operator_of, to_left, dotted, bracketed, some_semicolons}
use Rattle.kk_parser.specs.Kinds.{symbol, name}
use Rattle.kk_parser.specs.Phrases.{PhraseValue, token, opener, optional, rule, expr, block, row, add, mul, un, post, args, many, ◌▸◌}
use Rattle.kk_parser.specs.Views.{boxed_expr}
use Rattle.kk_parser.proofs.Blocks.{block_end, block_says}
use Rattle.kk_parser.proofs.Lists.{Separated}
use Rattle.kk_parser.proofs.Steps.{Continues}
use Rattle.kk_parser.proofs.parser.Parser.+expr.Given as goal

abbrev pub decreases-items : goal.decreases-items
decreases-items l = 20 * length l.self.now.rest.now + 15

abbrev pub decreases-binding : goal.decreases-binding
decreases-binding l = 20 * length l.self.now.rest.now + 14

abbrev pub decreases-branches : goal.decreases-branches
decreases-branches l = 20 * length l.self.now.rest.now + 13

abbrev pub decreases-args : goal.decreases-args
decreases-args l = 20 * length l.self.now.rest.now + 13

abbrev pub decreases-expr : goal.decreases-expr
decreases-expr l = 20 * length l.self.now.rest.now + 12

abbrev pub decreases-block : goal.decreases-block
decreases-block l = 20 * length l.self.now.rest.now + 11

abbrev pub decreases-if_ : goal.decreases-if_
decreases-if_ l = 20 * length l.self.now.rest.now + 11

abbrev pub decreases-match_ : goal.decreases-match_
decreases-match_ l = 20 * length l.self.now.rest.now + 11

abbrev pub decreases-rows : goal.decreases-rows
decreases-rows l = 20 * length l.self.now.rest.now + 14

abbrev pub decreases-row : goal.decreases-row
decreases-row l = 20 * length l.self.now.rest.now + 13

abbrev pub invariant-rows-loop-self : goal.invariant-rows-loop-self
invariant-rows-loop-self l = record {
  left : length l.self.rest.now ≤ length l.fn.self.rest.now;
  read : Separated (rule row) (map written_row l.rows.items) l.fn.self l.self;
  depth : RowsAreNoDeeper l.rows.items;
}

abbrev pub decreases-rows-loop-self : goal.decreases-rows-loop-self
decreases-rows-loop-self l = length l.self.rest.now

abbrev pub decreases-or : goal.decreases-or
decreases-or l = 20 * length l.self.now.rest.now + 10

abbrev pub decreases-and : goal.decreases-and
decreases-and l = 20 * length l.self.now.rest.now + 9

abbrev pub decreases-cmp : goal.decreases-cmp
decreases-cmp l = 20 * length l.self.now.rest.now + 8

abbrev pub decreases-add : goal.decreases-add
decreases-add l = 20 * length l.self.now.rest.now + 7

abbrev pub decreases-mul : goal.decreases-mul
decreases-mul l = 20 * length l.self.now.rest.now + 6

abbrev pub decreases-un : goal.decreases-un
decreases-un l = 20 * length l.self.now.rest.now + 5

abbrev pub decreases-post : goal.decreases-post
decreases-post l = 20 * length l.self.now.rest.now + 4

abbrev pub decreases-atom : goal.decreases-atom
decreases-atom l = 20 * length l.self.now.rest.now + 3

abbrev pub decreases-in_brackets : goal.decreases-in_brackets
decreases-in_brackets l = 20 * length l.self.now.rest.now + 2

abbrev pub decreases-printed : goal.decreases-printed
decreases-printed l = 20 * length l.self.now.rest.now + 2

abbrev pub decreases-named : goal.decreases-named
decreases-named l = 20 * length l.self.now.rest.now + 2

abbrev pub decreases-constructed : goal.decreases-constructed
decreases-constructed l = 20 * length l.self.now.rest.now + 2

abbrev pub decreases-arguments : goal.decreases-arguments
decreases-arguments l = 20 * length l.self.now.rest.now + 1

abbrev pub invariant-add-loop-operator : goal.invariant-add-loop-operator
invariant-add-loop-operator l = record {
  left : length l.self.rest.now ≤ length l.fn.self.rest.now;
  read : Continues (rule add) (many (sum_operator ▸ rule mul)) (to_left sum_operator_of (boxed_expr l.left)) l.fn.self l.self;
  depth : IsNoDeeper l.left.value;
}

abbrev pub decreases-add-loop-operator : goal.decreases-add-loop-operator
decreases-add-loop-operator l = length l.self.rest.now

abbrev pub invariant-mul-loop-operator : goal.invariant-mul-loop-operator
invariant-mul-loop-operator l = record {
  left : length l.self.rest.now ≤ length l.fn.self.rest.now;
  read : Continues (rule mul) (many (product_operator ▸ rule un)) (to_left product_operator_of (boxed_expr l.left)) l.fn.self l.self;
  depth : IsNoDeeper l.left.value;
}

abbrev pub decreases-mul-loop-operator : goal.decreases-mul-loop-operator
decreases-mul-loop-operator l = length l.self.rest.now

abbrev pub invariant-post-loop-self : goal.invariant-post-loop-self
invariant-post-loop-self l = record {
  left : length l.self.rest.now ≤ length l.fn.self.rest.now;
  read : Continues (rule post) (many (opener (symbol Dot) ▸ token name ▸ optional (bracketed (rule args)))) (dotted (boxed_expr l.first)) l.fn.self l.self;
  depth : IsNoDeeper l.first.value;
}

abbrev pub decreases-post-loop-self : goal.decreases-post-loop-self
decreases-post-loop-self l = length l.self.rest.now

abbrev pub invariant-args-loop-self : goal.invariant-args-loop-self
invariant-args-loop-self l = record {
  left : length l.self.rest.now ≤ length l.fn.self.rest.now;
  read : Continues (rule args) (many (token (symbol Comma) ▸ rule expr)) (λ vs. map written_expr l.arguments.items ++ map (λ m. m.1) vs) l.fn.self l.self;
  depth : AreNoDeeper l.arguments.items;
}

abbrev pub decreases-args-loop-self : goal.decreases-args-loop-self
decreases-args-loop-self l = length l.self.rest.now

abbrev pub invariant-block-loop-self : goal.invariant-block-loop-self
invariant-block-loop-self l = record {
  left : length l.self.rest.now ≤ length l.fn.self.rest.now;
  read : Continues (rule block) block_end (block_says (map written_statement l.statements.items) (boxed_expr l.value)) l.fn.self l.self;
  depth : StatementsAreNoDeeper l.statements.items × IsNoDeeper l.value.value;
}

abbrev pub decreases-block-loop-self : goal.decreases-block-loop-self
decreases-block-loop-self l = length l.self.rest.now

abbrev pub invariant-items-loop-self : goal.invariant-items-loop-self
invariant-items-loop-self l = record {
  left : length l.self.rest.now ≤ length l.fn.self.rest.now;
  read : (front : PhraseValue (many (binding ▸ some_semicolons))) × (map written_statement l.statements.items ≡ map written_statement l.fn.statements.items ++ bindings_of front) × Continues items items (λ v. (front ++ v.0, v.1)) l.fn.self l.self;
  depth : StatementsAreNoDeeper l.fn.statements.items → StatementsAreNoDeeper l.statements.items;
}

abbrev pub decreases-items-loop-self : goal.decreases-items-loop-self
decreases-items-loop-self l = length l.self.rest.now
