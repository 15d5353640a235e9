-- How long the runtime is.
use Rattle.std.specs.Prelude.{ℕ}

-- the words of its instructions, which are the first of an image
abbrev pub runtime_words : ℕ
runtime_words = 102
