-- Matching, as the code does it.
use Rattle.std.proofs.Common.{◌≡◌, ℕ, ◌+◌, ◌<◌, List, [], ◌∷◌, ◌++◌, length, map, drop, get_or, Some, None, refl, sym, ap, ◌∙◌, arith, add-one}
use Rattle.std.proofs.lemmas.List.{map-append, drop_more}
use Rattle.kk_syntax.specs.declared.program.Row.{Row}
use Rattle.kk_syntax.specs.declared.program.Pat.TheVariants.{Variable, rolls-Variable}
use Rattle.kk_syntax.specs.declared.program.Pat.TheOpen as Open
use Rattle.kk_syntax.specs.declared.program.Pat.TheFolds.{fold-roll-Pat}
use Rattle.kk_syntax.specs.Patterns.{Pattern, variable, patterns_of, pattern_step, pattern_tree}
use Rattle.kk_syntax.specs.Trees.{rows_of, row_tree, expr_tree}
use Rattle.kk_source.specs.State.{Value, Store, Binding, Environment}
use Rattle.kk_source.specs.Matching.{and_then, matched, matched_all, chosen_or, first_match}
use Rattle.kk_source.specs.Step.{bind_parameters}
use Rattle.kk_meaning.specs.declared.value.Value.{Value as Value'}
use Rattle.kk_meaning.specs.declared.binding.Bound.{Bound}
use Rattle.kk_meaning.specs.View.{value_view, bound_view, pushed}
use Rattle.kk_syntax.proofs.Views.{row_tree_is}

pub pushed_more : (bs : List Binding) (b : Binding) (environment : Environment) → pushed (bs ++ b ∷ []) environment ≡ b ∷ pushed bs environment
pushed_more [] b environment = refl
pushed_more (c ∷ bs) b environment = pushed_more bs b (c ∷ environment)

-- as many patterns as values are needed
pub unequal : (store : Store) (ps : List Pattern) (vs : List Value) (environment : Environment) → (length ps ≡ length vs → ⊥) → matched_all store (patterns_of ps) vs environment ≡ None
unequal store [] [] environment other = absurd (other refl)
unequal store [] (v ∷ vs) environment other = refl
unequal store (p ∷ ps) [] environment other = refl
unequal store (p ∷ ps) (v ∷ vs) environment other =
    elim (matched store p v environment) as (λ bound. and_then bound (λ e. matched_all store (patterns_of ps) vs e) ≡ None) [
      | None ↦ refl
      | Some e ↦ unequal store ps vs e (λ same. other (omega arith))
    ]

-- a variable's pattern
pub variable_is : (x : ℕ) → pattern_tree (Variable x) ≡ variable x
variable_is x = ap pattern_tree (sym (rolls-Variable x)) ∙ fold-roll-Pat Pattern pattern_step (Open.Variable x)

-- one variable more
pub bound_more : (bound more : List Bound) (b : Bound) (environment : Environment) → more ≡ bound ++ b ∷ [] → pushed (map bound_view more) environment ≡ bound_view b ∷ pushed (map bound_view bound) environment
bound_more bound more b environment is =
    ap (λ l. pushed (map bound_view l) environment) is
    ∙ (ap (λ l. pushed l environment) (map-append bound_view bound (b ∷ [])) ∙ pushed_more (map bound_view bound) (bound_view b) environment)

-- one parameter more
pub parameter_more : (arguments : List Value') (bound more : List Bound) (i : ℕ) (d : Value') (environment whole : Environment) → i < length arguments → more ≡ bound ++ record { variable = i; value = get_or arguments i d } ∷ [] → bind_parameters i (map value_view (drop i arguments)) (pushed (map bound_view bound) environment) ≡ whole → bind_parameters (i + 1) (map value_view (drop (i + 1) arguments)) (pushed (map bound_view more) environment) ≡ whole
parameter_more arguments bound more i d environment whole lt is before =
    let b : Bound = record { variable = i; value = get_or arguments i d } in
    ap (bind_parameters (i + 1) (map value_view (drop (i + 1) arguments))) (bound_more bound more b environment is)
    ∙ (ap (λ k. bind_parameters k (map value_view (drop (i + 1) arguments)) (bound_view b ∷ pushed (map bound_view bound) environment)) (add-one i)
    ∙ (ap (λ l. bind_parameters i (map value_view l) (pushed (map bound_view bound) environment)) (sym (drop_more arguments i d lt)) ∙ before))

-- a row that matches, and one that does not
pub row_matches : (store : Store) (row : Row) (rest : List Row) (v : Value) (environment : Environment) (bound : Environment) → matched store (pattern_tree row.pattern) v environment ≡ Some bound → first_match store (rows_of (map row_tree (row ∷ rest))) v environment ≡ Some (record { body = expr_tree row.body; environment = bound })
row_matches store row rest v environment bound is =
    ap (λ r. first_match store (rows_of (r ∷ map row_tree rest)) v environment) (row_tree_is row)
    ∙ ap (λ m. chosen_or (expr_tree row.body) m (first_match store (rows_of (map row_tree rest)) v environment)) is

pub row_does_not : (store : Store) (row : Row) (rest : List Row) (v : Value) (environment : Environment) → matched store (pattern_tree row.pattern) v environment ≡ None → first_match store (rows_of (map row_tree (row ∷ rest))) v environment ≡ first_match store (rows_of (map row_tree rest)) v environment
row_does_not store row rest v environment is =
    ap (λ r. first_match store (rows_of (r ∷ map row_tree rest)) v environment) (row_tree_is row)
    ∙ ap (λ m. chosen_or (expr_tree row.body) m (first_match store (rows_of (map row_tree rest)) v environment)) is
