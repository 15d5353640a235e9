-- Constructions and patterns with fields, told by whether a list of parts is empty; and the constructions of a block, by its
-- statements and its last expression.
use Rattle.std.proofs.Common.{◌≡◌, ℕ, ◌==◌, Bool, true, false, not, ◌||◌, List, [], ◌∷◌, length, map, refl, sym, ap, ◌∙◌, arith}
use Rattle.std.proofs.lemmas.Bool.{eqb-true, false_from_ne_true}
use Rattle.kk_syntax.specs.declared.program.Form.TheVariants.{Construct}
use Rattle.kk_syntax.specs.OwnedPositions.{opens, makes, builds}
use Rattle.kk_syntax.specs.OwnedSearch.{builds_statements}
use Rattle.kk_syntax.specs.Patterns.{Pattern, constructor, patterns_of}
use Rattle.kk_syntax.specs.Trees.{Tree, trees_of, StatementTree, block_of}

-- whether a list has no element
abbrev pub is_none : {X : Type 0} → List X → Bool
is_none [] = true
is_none (x ∷ xs) = false

pub none_map : {X Y : Type 0} (f : X → Y) (xs : List X) → is_none (map f xs) ≡ is_none xs
none_map f [] = refl
none_map f (x ∷ xs) = refl

pub opens_by : (by : ℕ) (ps : List Pattern) → opens (constructor by (patterns_of ps)) ≡ not (is_none ps)
opens_by by [] = refl
opens_by by (p ∷ ps) = refl

pub makes_by : (by : ℕ) (ts : List Tree) → makes (Construct by) (trees_of ts) ≡ not (is_none ts)
makes_by by [] = refl
makes_by by (t ∷ ts) = refl

-- what a test for emptiness says
pub none_by : {X : Type 0} (xs : List X) (n : ℕ) (b : Bool) → n ≡ length xs → b ≡ (n == 0) → is_none xs ≡ b
none_by [] n b len is = sym (is ∙ ap (λ k. k == 0) len)
none_by (x ∷ xs) n b len is = sym (is ∙ false_from_ne_true (n == 0) (λ e. let z = eqb-true n 0 e in omega (arith, len, z)))

or_assoc : (a b c : Bool) → (a || (b || c)) ≡ ((a || b) || c)
or_assoc true b c = refl
or_assoc false b c = refl

pub builds_block : (ss : List StatementTree) (last : Tree) → builds (block_of ss last) ≡ (builds_statements ss || builds last)
builds_block [] last = refl
builds_block (s ∷ ss) last = ap (λ b. builds s.value || b) (builds_block ss last)
    ∙ or_assoc (builds s.value) (builds_statements ss) (builds last)
