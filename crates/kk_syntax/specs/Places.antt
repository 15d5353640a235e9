-- Places in a text: the byte, the line and the column where something stands.
use Rattle.std.specs.Prelude.{ℕ, ◌+◌, ◌-◌, ◌*◌, ◌/◌, List, [], ◌∷◌, ◌==◌, if◌then◌else◌}
use Rattle.kk_base.specs.declared.span.Span.{Span}

-- where a text begins
abbrev pub start : Span
start = record { at = 0; line = 1; column = 1 }

-- the column behind a tab: the next one of the form 8 * k + 1
abbrev pub next_stop : ℕ → ℕ
next_stop column = (column - 1) / 8 * 8 + 9

-- the place behind a byte: byte 10 ends a line, byte 9 is a tab, and every other byte takes one column
abbrev pub next_place : Span → ℕ → Span
next_place p b =
    if b == 10 then record { at = p.at + 1; line = p.line + 1; column = 1 }
    else (if b == 9 then record { at = p.at + 1; line = p.line; column = next_stop p.column }
    else record { at = p.at + 1; line = p.line; column = p.column + 1 })

-- the place behind some bytes that stand at a place
abbrev pub place_behind : Span → List ℕ → Span
place_behind p [] = p
place_behind p (b ∷ bytes) = place_behind (next_place p b) bytes
