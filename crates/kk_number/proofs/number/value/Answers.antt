use Rattle.std.proofs.Common.{sym, subst, Option, IfSome, IfNone, ◌≡◌, ◌≤◌, ◌^◌, ℕ}
use Rattle.std.specs.Str.Parse.{digits_value}
use Rattle.kk_number.proofs.Numbers.{some_value, no_value}
use Rattle.kk_number.proofs.number.value.Goals as goal

pub returns-clause-some : goal.returns-clause-some
returns-clause-some c =
    let P : Option ℕ → Type 0 = λ r. IfSome r (λ n. n ≡ digits_value 10 c.args.digits.now) in
    subst P (sym c.ok.ensures.value) (some_value c.args.digits.now c.parse.result c.parse.ensures.value.0 c.requires)

pub returns-clause-none : goal.returns-clause-none
returns-clause-none c =
    let P : Option ℕ → Type 0 = λ r. IfNone r (2 ^ 64 ≤ digits_value 10 c.args.digits.now) in
    subst P (sym c.ok.ensures.value) (no_value c.args.digits.now c.parse.result c.parse.ensures.value.0 c.requires)
