-- What is known of tokens as Rust has it, as the mathematics has it.
use Rattle.kk_counted.specs.KeptFields.{KnownFields}
use Rattle.kk_respec.specs.declared.known.KnownToken.{KnownToken}

abbrev pub known_of : KnownToken → KnownFields
known_of one = record { slot = one.slot; fields = one.fields.items }
