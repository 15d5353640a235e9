use Rattle.std.proofs.Common.{◌≡◌, sym, ap, subst, ◌∙◌, arith}
use Rattle.std.specs.Prelude.{Err}
use Rattle.std.proofs.lemmas.Bool.{eqb-true}
use Rattle.std.proofs.lemmas.Result.{err_from_is_err_and}
use Rattle.kk_lexer.specs.FirstLexemes.{IsFirstLexeme}
use Rattle.kk_lexer.specs.Readings.{is_sign}
use Rattle.kk_lexer.proofs.ReadingLemmas.{BeginsWith-fits, ReadsOn-start, ReadsOn-more, ReadsOn-end, ReadsOn-refused}
use Rattle.kk_lexer.proofs.list.tokens.Goals as goal

pub loop-rest-init : goal.loop-rest-init
loop-rest-init c =
    record {
      at = rw c.start-place.ensures.place (omega arith);
      bounded = c.start-place.ensures.bounded;
      so_far = rw (c.new-items.ensures.items, c.start-place.ensures.place) (ReadsOn-start c.args.text.now);
    }

pub loop-rest-preserved : goal.loop-rest-preserved
loop-rest-preserved c =
    let i = c.loop-rest.invariant in
    let sign : c.is_sign-signed.result ≡ is_sign c.loop-rest.items.items c.loop-rest.place.line = c.is_sign-signed.ensures ∙ ap (λ x. is_sign x c.loop-rest.place.line) c.as_slice.ensures.value in
    let begins = rw sign at c.in_ok-token.ensures in
    record {
      at = omega (arith, c.split_at.ensures.back_len, c.behind-place.ensures.at, c.split_at.ensures.front_len);
      bounded = c.behind-place.ensures.bounded;
      so_far = rw (c.in-Ok.ensures, c.behind-place.ensures.place, c.split_at.ensures.front, c.split_at.ensures.back) (ReadsOn-more _ _ _ _ _ _ i.so_far begins);
    }

pub loop-rest-smaller : goal.loop-rest-smaller
loop-rest-smaller c =
    let size = BeginsWith-fits c.in_ok-token.ensures in
    omega (arith, c.split_at.ensures.back_len, size.0)

pub returns-in_err-token-clause-reading : goal.returns-in_err-token-clause-reading
returns-in_err-token-clause-reading c =
    let p = err_from_is_err_and c.from_residual.result c.from_residual.ensures.1 in
    let sign : c.is_sign-signed.result ≡ is_sign c.loop-rest.items.items c.loop-rest.place.line = c.is_sign-signed.ensures ∙ ap (λ x. is_sign x c.loop-rest.place.line) c.as_slice.ensures.value in
    let refused = subst (λ s. IsFirstLexeme s c.loop-rest.place.at c.loop-rest.rest.now (Err c.in_err-token.field-0.0)) sign c.in_err-token.ensures in
    rw (p.1, p.2) (ReadsOn-refused _ _ _ _ _ c.loop-rest.invariant.so_far refused)

pub returns-clause-reading : goal.returns-clause-reading
returns-clause-reading c =
    let none = eqb-true _ _ (sym c.loop-rest-test.ensures) in
    rw (c.from_vec.ensures.items, c.from_vec.ensures.end) (ReadsOn-end _ _ _ _ c.loop-rest.invariant.so_far none)

pub returns-clause-few : goal.returns-clause-few
returns-clause-few c = rw c.from_vec.ensures.items (omega (arith, c.loop-rest.invariant.so_far.few))
