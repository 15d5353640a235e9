-- The greatest body of a program's instances is no greater than that of the program, and has a node.
use Rattle.std.proofs.Common.{◌≡◌, ◌≤◌, ℕ, zero, suc, List, [], ◌∷◌, length, Some, refl, ap, arith}
use Rattle.std.proofs.Math.Nat.{le-max_left, le-max_right, max-le}
use Rattle.std.proofs.lemmas.Option.{slice_get_within, slice_get-get_or}
use Rattle.std.specs.Prelude.{slice_get, get_or}
use Rattle.kk_syntax.specs.Programs.{FunctionTree, ProgramTree, no_function}
use Rattle.kk_syntax.specs.Shapes.{nodes_of, greatest_of, greatest_nodes}
use Rattle.kk_syntax.specs.Typing.{Choice}
use Rattle.kk_mono.specs.Instances.{InstanceTree, main_instance, origin_in, IsInstanceProgram}
use Rattle.kk_mono.proofs.BodyCopies.{nodes_renamed}
use Rattle.kk_norm.proofs.FormInduction.{tree_some}

-- no body of a list has more nodes than its greatest
within_greatest : (functions : List FunctionTree) (n : ℕ) (function : FunctionTree) → slice_get functions n ≡ Some function
    → nodes_of function.body ≤ greatest_of functions
within_greatest [] n function is = absurd (cc)
within_greatest (first ∷ rest) zero function is =
    let same : first ≡ function = cc in
    let most = le-max_left (nodes_of first.body) (greatest_of rest) in
    omega (arith, most, ap (λ (f : FunctionTree). nodes_of f.body) same)
within_greatest (first ∷ rest) (suc n) function is =
    let most = le-max_right (nodes_of first.body) (greatest_of rest) in
    let inner = within_greatest rest n function is in
    omega (arith, most, inner)

-- and the greatest has no more than each of them has
greatest_within : (functions : List FunctionTree) (most : ℕ)
    → ((n : ℕ) (function : FunctionTree) → slice_get functions n ≡ Some function → nodes_of function.body ≤ most)
    → greatest_of functions ≤ most
greatest_within [] most each = omega arith
greatest_within (first ∷ rest) most each =
    max-le (each 0 first refl) (greatest_within rest most (λ n function is. each (suc n) function is))

module _ {program made : ProgramTree} {typings : List (List Choice)} {instances : List InstanceTree}
    (are : IsInstanceProgram program typings instances made) where
  -- the body of an instance has the nodes of its function's
  each_within : (n : ℕ) (function : FunctionTree) → slice_get made.functions n ≡ Some function
      → nodes_of function.body ≤ greatest_nodes program
  each_within n function there =
      let short = slice_get_within made.functions n function there in
      let many = are.as_many in
      let instance = slice_get-get_or instances n (main_instance 0) (omega (arith, short, many)) in
      let of = are.each n _ function instance there in
      let same = nodes_renamed (origin_in instances are.grounds) function.body in
      let body = ap nodes_of of.2.body in
      let most = within_greatest program.functions _ of.0 of.1 in
      omega (arith, same, body, most)

  pub instances_have_no_more : greatest_nodes made ≤ greatest_nodes program
  instances_have_no_more = greatest_within made.functions (greatest_nodes program) each_within

  -- `main` is an instance, whose body has a node
  pub program_has_some : 1 ≤ greatest_nodes program
  program_has_some =
      let begins = ap length are.are.begins in
      let many = are.as_many in
      let main = get_or made.functions 0 no_function in
      let there : slice_get made.functions 0 ≡ Some main
      = slice_get-get_or made.functions 0 no_function (omega (arith, begins, many)) in
      let some = tree_some main.body in
      let most = each_within 0 main there in
      omega (arith, some, most)
