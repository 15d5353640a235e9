-- The instances that are built are those that the search has found.
use Rattle.std.proofs.Common.{◌≡◌, ℕ, ◌<◌, List, [], ◌∷◌, ◌++◌, length, get_or, All, Some, ap, sym, ◌∙◌, subst, inl, inr, arith}
use Rattle.std.specs.Prelude.{slice_get}
use Rattle.std.proofs.lemmas.Bool.{cases_lt}
use Rattle.std.proofs.lemmas.List.{length_push, get_or-map, get_or_append_left, get_or_push}
use Rattle.std.proofs.lemmas.Option.{slice_get_within, get_or_from_slice_get}
use Rattle.kk_syntax.specs.declared.ground.Instance.{Instance}
use Rattle.kk_syntax.specs.declared.program.Fun.{Fun}
use Rattle.kk_syntax.specs.declared.program.Program.{Program}
use Rattle.kk_syntax.specs.Programs.{function_tree, program_tree, no_function}
use Rattle.kk_mono.specs.declared.search.Looked.{Looked}
use Rattle.kk_mono.specs.BuiltInstances.{IsBuiltOf, AreBuilt}
use Rattle.kk_mono.specs.KeyTrees.{KeyTree}
use Rattle.kk_mono.specs.InstanceSearch.{function_in}

-- one instance more
pub built_more : (program : Program) (keys : List KeyTree) (looked : List Looked) (instances next : List Instance) (key : KeyTree) (seen : Looked) (instance : Instance) (function : Fun) (count : ℕ) {capacity : ℕ} → capacity ≡ length instances → count ≡ capacity
    → slice_get keys count ≡ Some key → All (λ (k : KeyTree). k.number < length program.functions.items) keys → function ≡ get_or program.functions.items key.number function → IsBuiltOf (function_tree function) key seen instance → next ≡ instances ++ instance ∷ []
    → AreBuilt program keys looked instances → AreBuilt program keys (looked ++ seen ∷ []) next
built_more program keys looked instances next key seen instance function count full count_is found within is built next_is so_far = record {
  as_many = let one = ap length next_is ∙ length_push instances instance in let other = length_push looked seen in let same = so_far.as_many in omega (arith, one, other, same);
  each = λ i k l d lt. subst (λ xs. IsBuiltOf (function_in (program_tree program) (get_or keys i k).number) (get_or keys i k) (get_or (looked ++ seen ∷ []) i l) (get_or xs i d)) (sym next_is) (by i k l d lt);
}
  where
    last_built : (k : KeyTree) (i : ℕ) → i ≡ length looked → IsBuiltOf (function_in (program_tree program) (get_or keys i k).number) (get_or keys i k) seen instance
    last_built k i last =
        let place : i ≡ count = (let same = so_far.as_many in omega (arith, last, same, full, count_is)) in
        let here : get_or keys i k ≡ key = ap (λ n. get_or keys n k) place ∙ get_or_from_slice_get keys count key k found in
        let below : key.number < length program.functions.items = subst (λ (x : KeyTree). x.number < length program.functions.items) (get_or_from_slice_get keys count key key found) (within count key (slice_get_within keys count key found)) in
        let of : function_in (program_tree program) key.number ≡ function_tree function = get_or-map function_tree program.functions.items key.number function no_function below ∙ ap function_tree (sym is) in
        subst (λ (x : KeyTree). IsBuiltOf (function_in (program_tree program) x.number) x seen instance) (sym here) (subst (λ f. IsBuiltOf f key seen instance) (sym of) built)

    by : (i : ℕ) (k : KeyTree) (l : Looked) (d : Instance) → i < length (looked ++ seen ∷ []) → IsBuiltOf (function_in (program_tree program) (get_or keys i k).number) (get_or keys i k) (get_or (looked ++ seen ∷ []) i l) (get_or (instances ++ instance ∷ []) i d)
    by i k l d lt = elim (cases_lt i (length looked)) [
      | inl earlier ↦
          subst (λ x. IsBuiltOf (function_in (program_tree program) (get_or keys i k).number) (get_or keys i k) x (get_or (instances ++ instance ∷ []) i d)) (sym (get_or_append_left looked (seen ∷ []) l i earlier))
          (subst (λ x. IsBuiltOf (function_in (program_tree program) (get_or keys i k).number) (get_or keys i k) (get_or looked i l) x) (sym (get_or_append_left instances (instance ∷ []) d i (let same = so_far.as_many in omega (arith, same, earlier)))) (so_far.each i k l d earlier))
      | inr past ↦
          let long = length_push looked seen in
          let last : i ≡ length looked = omega (arith, long, lt, past) in
          subst (λ x. IsBuiltOf (function_in (program_tree program) (get_or keys i k).number) (get_or keys i k) x (get_or (instances ++ instance ∷ []) i d)) (sym (get_or_push looked seen l i (sym last)))
          (subst (λ x. IsBuiltOf (function_in (program_tree program) (get_or keys i k).number) (get_or keys i k) seen x) (sym (get_or_push instances instance d i (let same = so_far.as_many in omega (arith, same, last)))) (last_built k i last))
    ]
