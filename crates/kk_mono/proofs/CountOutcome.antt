-- A program comes to one thing by its nodes and instances.
use Rattle.std.proofs.Common.{◌≡◌, ℕ, ◌≤◌, List, length, Option, Some, None, refl, sym, ap, ◌∙◌, inl, inr, arith}
use Rattle.std.specs.Prelude.{Result, Ok, Err}
use Rattle.std.proofs.lemmas.Bool.{cases_lt}
use Rattle.std.proofs.lemmas.List.Elements.{All-contains}
use Rattle.kk_base.specs.Exactly.{IsOnly, ExactlyOne}
use Rattle.kk_base.specs.declared.limit.Limit.{Limit}
use Rattle.kk_base.specs.declared.limit.LimitKind.TheVariants.{FunctionNodes, ProgramNodes, Instances}
use Rattle.kk_base.specs.Limits.{greatest_of}
use Rattle.kk_syntax.specs.Programs.{ProgramTree}
use Rattle.kk_syntax.specs.Typing.{Choice, ArePrincipal}
use Rattle.kk_mono.specs.Counts.{too_many_nodes, summed_nodes, AreTooMany, KeepsCounts, PassesFirst, of_function, of_instances, of_program, CountsAs, EachProgramIsCounted}
use Rattle.kk_mono.specs.Instances.{InstanceTree, IsInstance, AreInstances}
use Rattle.kk_mono.proofs.DecidableEquality.{counted}
use Rattle.kk_mono.proofs.Pigeonhole.{as_many}
use Rattle.kk_syntax.proofs.Quantities.{exactly_declared}
use Rattle.kk_mono.proofs.Renamings.{also_instances, also_too_many}
use Rattle.kk_mono.proofs.InstanceSearch.{one_list}

module _ (program : ProgramTree) where
  -- some none, some not
  apart : {A : Type 0} (count : ℕ) → too_many_nodes program.functions ≡ None → too_many_nodes program.functions ≡ Some count → A
  apart count none some = let wrong = sym none ∙ some in cc

  -- the instances are few, or too many
  few_or_many : (some others : List (List Choice)) → ArePrincipal program some → ArePrincipal program others → (all known : List InstanceTree) → AreInstances program.main some all → length all ≤ greatest_of Instances → AreTooMany program.main others known → ⊥
  few_or_many some others one two all known are few too_many =
      let many = also_too_many program others some two one known too_many in
      let no_more = as_many known all many.once (λ x there. are.all x (All-contains (IsInstance program.main some) known x many.each there)) in
      let more = many.many in
      omega (arith, no_more, more, few)

  -- the instances are summed alike
  same_sum : (some others : List (List Choice)) → ArePrincipal program some → ArePrincipal program others → (all also : List InstanceTree) → AreInstances program.main some all → AreInstances program.main others also → summed_nodes program all ≡ summed_nodes program also
  same_sum some others one two all also are also_are = ap (summed_nodes program) (one_list program.main others all also (also_instances program some others one two all are) also_are)

  same_limit : (some others : Limit) → PassesFirst program some → PassesFirst program others → others ≡ some
  same_limit some others (of_function {count = count} first is) (of_function {count = other} second also) =
      let same : count ≡ other = (let e = sym first ∙ second in cc) in
      also ∙ (ap (λ n. record { kind = FunctionNodes; count = n }) (sym same) ∙ sym is)
  same_limit some others (of_function {count = count} first is) (of_instances none principal many also) = apart count none first
  same_limit some others (of_function {count = count} first is) (of_program none principal are few large also) = apart count none first
  same_limit some others (of_instances none principal many is) (of_function {count = count} second also) = apart count none second
  same_limit some others (of_instances none principal many is) (of_instances _ other_principal other_many also) = also ∙ sym is
  same_limit some others (of_instances {typings = typings} {instances = known} none principal many is) (of_program {typings = others_typings} {instances = all} _ other_principal are few large also) =
      absurd (few_or_many others_typings typings other_principal principal all known are few many)
  same_limit some others (of_program none principal are few large is) (of_function {count = count} second also) = apart count none second
  same_limit some others (of_program {typings = typings} {instances = all} none principal are few large is) (of_instances {typings = others_typings} {instances = known} _ other_principal many also) =
      absurd (few_or_many typings others_typings principal other_principal all known are few many)
  same_limit some others (of_program {typings = typings} {instances = all} none principal are few large is) (of_program {typings = others_typings} {instances = also_all} _ other_principal also_are also_few also_large also) =
      also ∙ (ap (λ n. record { kind = ProgramNodes; count = n }) (sym (same_sum typings others_typings principal other_principal all also_all are also_are)) ∙ sym is)

  no_limit : KeepsCounts program → (limit : Limit) → PassesFirst program limit → ⊥
  no_limit keeps limit (of_function {count = count} some is) = apart count keeps.functions some
  no_limit keeps limit (of_instances {typings = typings} {instances = known} none principal many is) = few_or_many keeps.typings typings keeps.principal principal keeps.instances known keeps.are keeps.few many
  no_limit keeps limit (of_program {typings = typings} {instances = all} none principal are few large is) =
      let same = same_sum keeps.typings typings keeps.principal principal keeps.instances all keeps.are are in
      let small = keeps.small in
      omega (arith, same, small, large)

  pub only_counts : (outcome : Result (Unit {0}) Limit) → CountsAs program outcome → IsOnly (CountsAs program) outcome
  only_counts (Ok _) keeps = record { holds = keeps; only = λ other counts. kept other counts }
    where
      kept : (other : Result (Unit {0}) Limit) → CountsAs program other → other ≡ Ok tt
      kept (Ok _) counts = refl
      kept (Err limit) passes = absurd (no_limit keeps limit passes)
  only_counts (Err limit) passes = record { holds = passes; only = λ other counts. passed other counts }
    where
      passed : (other : Result (Unit {0}) Limit) → CountsAs program other → other ≡ Err limit
      passed (Ok _) keeps = absurd (no_limit keeps limit passes)
      passed (Err also) also_passes = ap Err (same_limit limit also passes also_passes)

  exactly_counts : (typings : List (List Choice)) → ArePrincipal program typings → ExactlyOne (CountsAs program)
  exactly_counts typings principal = by (too_many_nodes program.functions) refl
    where
      by : (many : Option ℕ) → too_many_nodes program.functions ≡ many → ExactlyOne (CountsAs program)
      by None none = elim (counted program.main typings) [
        | inl all ↦ elim (cases_lt (greatest_of ProgramNodes) (summed_nodes program all.0)) [
          | inl large ↦ (Err _, only_counts (Err _) (of_program none principal all.1 all.2 large refl))
          | inr small ↦ (Ok tt, only_counts (Ok tt) (record { functions = none; typings = typings; principal = principal; instances = all.0; are = all.1; few = all.2; small = small }))
        ]
        | inr known ↦ (Err _, only_counts (Err _) (of_instances none principal known.1 refl))
      ]
      by (Some count) some = (Err _, only_counts (Err _) (of_function some refl))

pub each_program_is_counted : EachProgramIsCounted
each_program_is_counted program = (exactly_declared program, exactly_counts program)
