use Rattle.std.proofs.Common.{◌≡◌, FitsSigned, ◌∙◌}
use Rattle.std.specs.Int.{w32, w64}
use Rattle.std.proofs.lemmas.Int.{to_z-of_z}
use Rattle.rv_isa.proofs.Products.{upper_half, product_bound}
use Rattle.rv_isa.proofs.arithmetic.upper_signed.Goals as goal

pub returns : goal.returns
returns c =
    let x_32 : FitsSigned w32 c.cast_signed.result = record { sfits = c.cast_signed.type_inv } in
    let y_32 : FitsSigned w32 c.cast_signed-2.result = record { sfits = c.cast_signed-2.type_inv } in
    let x_is : c.from.result ≡ c.cast_signed.result = c.from.ensures ∙ to_z-of_z w32 _ x_32 in
    let y_is : c.from-2.result ≡ c.cast_signed-2.result = c.from-2.ensures ∙ to_z-of_z w32 _ y_32 in
    let x_64 : FitsSigned w64 c.from.result = record { sfits = c.from.type_inv } in
    let y_64 : FitsSigned w64 c.from-2.result = record { sfits = c.from-2.type_inv } in
    c.cast_unsigned.ensures
    ∙ rw (to_z-of_z w64 _ x_64, to_z-of_z w64 _ y_64, x_is, y_is, ← c.cast_signed.ensures, ← c.cast_signed-2.ensures)
    (upper_half _ (product_bound c.cast_signed.result c.cast_signed-2.result c.cast_signed.type_inv c.cast_signed-2.type_inv))
