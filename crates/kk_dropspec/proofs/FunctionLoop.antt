-- A loop that changes the functions of a program, one after the other.
use Rattle.std.proofs.Common.{◌≡◌, ℕ, ◌+◌, ◌≤◌, ◌<◌, List, [], ◌∷◌, ◌++◌, map, take, length, ap, ◌∙◌}
use Rattle.std.proofs.Math.ListN.{get_or}
use Rattle.std.proofs.Math.Seq.{take_all}
use Rattle.kk_counted.specs.declared.counted.Counted.{Counted as Program}
use Rattle.kk_counted.specs.declared.counted.CountedFun.{CountedFun}
use Rattle.kk_counted.specs.CountedCodes.{Counted}
use Rattle.kk_counted.specs.CountedForms.{block_code}
use Rattle.kk_counted.specs.Int32.{HasInt32, AllHaveInt32}
use Rattle.kk_counted.specs.Programs.{function_of}
use Rattle.kk_dropspec.specs.Changed.{changed_function}
use Rattle.kk_dropspec.specs.ChangedPrograms.{IsChangedProgram}
use Rattle.kk_dropspec.proofs.ChangedFunctions.{function_made}
use Rattle.kk_dropspec.proofs.NumberForms.{functions_pushed, made_more, one_longer}

-- so many of the functions, changed, are in a program that is made in place of another, and all else of it stays
abbrev pub AreMadeSoFar : (Counted → Counted) → List CountedFun → ℕ → Program → Program → Type 0
AreMadeSoFar change functions i start made =
    (map function_of made.functions.items ≡ map (changed_function change) (map function_of (take i functions)))
    × ((length made.functions.items ≡ i)
    × ((made.shape ≡ start.shape)
    × ((made.body_nodes ≡ start.body_nodes)
    × ((made.nodes ≡ start.nodes) × AllHaveInt32 (map function_of made.functions.items)))))

-- one function more
pub one_made_more : (change : Counted → Counted) (functions : List CountedFun) (i : ℕ) (start made after : Program)
    (fun item : CountedFun) → i < length functions → item ≡ get_or functions i item → fun.parameters ≡ item.parameters
    → block_code fun.body ≡ change (block_code item.body) → HasInt32 (block_code fun.body)
    → after.functions.items ≡ made.functions.items ++ fun ∷ [] → after.shape ≡ made.shape → after.body_nodes ≡ made.body_nodes
    → after.nodes ≡ made.nodes → AreMadeSoFar change functions i start made
    → AreMadeSoFar change functions (i + 1) start after
one_made_more change functions i start made after fun item within is parameters body small grown shape body_nodes nodes so_far = (
  made_more function_of function_of (changed_function change) made.functions.items after.functions.items fun functions i item
      within is grown (function_made change fun item parameters body) so_far.0,
  (
    one_longer made.functions.items after.functions.items fun i grown so_far.1.0,
    (
      shape ∙ so_far.1.1.0,
      (
        body_nodes ∙ so_far.1.1.1.0,
        (
          nodes ∙ so_far.1.1.1.1.0,
          functions_pushed made.functions.items after.functions.items fun grown so_far.1.1.1.1.1 small,
        ),
      ),
    ),
  ),
)

-- where all of them are in it, the program is changed
pub all_changed : (change : Counted → Counted) (functions : List CountedFun) (i : ℕ) (program start made : Program)
    → length functions ≤ i → functions ≡ program.functions.items → start.shape ≡ program.shape
    → start.body_nodes ≡ program.body_nodes → start.nodes ≡ program.nodes → AreMadeSoFar change functions i start made
    → IsChangedProgram change program made
all_changed change functions i program start made all are shape body_nodes nodes so_far =
    record {
      shape = so_far.1.1.0 ∙ shape;
      functions = so_far.0 ∙ ap (λ some. map (changed_function change) (map function_of some)) (take_all i functions all ∙ are);
      body_nodes = so_far.1.1.1.0 ∙ body_nodes;
      nodes = so_far.1.1.1.1.0 ∙ nodes;
      numbers = so_far.1.1.1.1.1;
    }
