-- Where the labels of a runtime stand.
use Rattle.std.proofs.Common.{◌≡◌, ◌≢◌, ◌≤◌, ℕ, ◌+◌, inl, inr, List, [], ◌∷◌, refl, sym, ap, subst, arith}
use Rattle.rv_isa.specs.declared.placed.Native.{Native}
use Rattle.rv_isa.specs.declared.placed.Native.TheVariants.{Instruction, Label, Jump, Branch, Call, Address}
use Rattle.rv_isa.specs.declared.placed.Symbol.{Symbol}
use Rattle.cell_runtime.specs.Lines.{words_of_line, words_of, labels_of}
use Rattle.rv_place.specs.Addresses.{IsBehind}

-- the first label of a symbol is the one that it stands for
pub found_here : (symbol : Symbol) (count before : ℕ) (lines rest : List Native) (line : Native) → lines ≡ line ∷ rest → line ≡ Label symbol
    → IsBehind symbol count (labels_of before lines) → before ≡ count
found_here symbol count before lines rest line here is behind =
    first (subst (λ l. IsBehind symbol count (labels_of before (l ∷ rest))) is (subst (λ ls. IsBehind symbol count (labels_of before ls)) here behind))
  where
    first : IsBehind symbol count (labels_of before (Label symbol ∷ rest)) → before ≡ count
    first (inl (same, there)) = there
    first (inr (other, there)) = absurd (other refl)

-- any other line is passed over
passed : (symbol : Symbol) (count before : ℕ) (rest : List Native) (line : Native) → line ≢ Label symbol
    → IsBehind symbol count (labels_of before (line ∷ rest)) → IsBehind symbol count (labels_of (before + words_of_line line) rest)
passed symbol count before rest (Label other) is_not (inl (same, there)) = absurd (is_not (ap Label same))
passed symbol count before rest (Label other) is_not (inr (apart, there)) =
    let none : before ≡ before + 0 = omega arith in subst (λ b. IsBehind symbol count (labels_of b rest)) none there
passed symbol count before rest (Instruction i) is_not behind = behind
passed symbol count before rest (Jump target) is_not behind = behind
passed symbol count before rest (Branch condition left right target) is_not behind = behind
passed symbol count before rest (Call target) is_not behind = behind
passed symbol count before rest (Address rd section offset) is_not behind = behind

pub passed_over : (symbol : Symbol) (count before words : ℕ) (lines rest : List Native) (line : Native) → lines ≡ line ∷ rest → line ≢ Label symbol → words ≡ words_of_line line
    → IsBehind symbol count (labels_of before lines) → IsBehind symbol count (labels_of (before + words) rest)
passed_over symbol count before words lines rest line here is_not same behind =
    subst (λ w. IsBehind symbol count (labels_of (before + w) rest)) (sym same)
    (passed symbol count before rest line is_not (subst (λ ls. IsBehind symbol count (labels_of before ls)) here behind))

-- each label stands within the lines or behind them
pub symbols_within : (symbol : Symbol) (count before : ℕ) (lines : List Native) → IsBehind symbol count (labels_of before lines) → count ≤ before + words_of lines
symbols_within symbol count before [] behind = absurd behind
symbols_within symbol count before (Label other ∷ lines) (inl (same, there)) = omega (arith, there)
symbols_within symbol count before (Label other ∷ lines) (inr (apart, there)) = let rest = symbols_within symbol count before lines there in omega (arith, rest)
symbols_within symbol count before (Instruction i ∷ lines) behind = let rest = symbols_within symbol count (before + 1) lines behind in omega (arith, rest)
symbols_within symbol count before (Address rd section offset ∷ lines) behind = let rest = symbols_within symbol count (before + 2) lines behind in omega (arith, rest)
symbols_within symbol count before (Jump target ∷ lines) behind = let rest = symbols_within symbol count (before + 0) lines behind in omega (arith, rest)
symbols_within symbol count before (Branch condition left right target ∷ lines) behind = let rest = symbols_within symbol count (before + 0) lines behind in omega (arith, rest)
symbols_within symbol count before (Call target ∷ lines) behind = let rest = symbols_within symbol count (before + 0) lines behind in omega (arith, rest)
