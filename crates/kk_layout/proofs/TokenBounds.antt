-- A text of n tokens has at most 3 n when it is laid out: before each token stands at most one `{` or `;` that was
-- inserted, and each such `{` is closed once at most.
use Rattle.std.proofs.Common.{◌≡◌, ℕ, suc, ◌+◌, ◌*◌, ◌≤◌, Bool, true, false, cond, nat_lt, ◌&&◌, ◌==◌, List, [], ◌∷◌, length, drop, replicate, refl, sym, ap, ◌∙◌, arith}
use Rattle.std.proofs.lemmas.List.{length-append, length-replicate}
use Rattle.std.proofs.lemmas.List.Recursion.{is_count_by}
use Rattle.std.specs.Prelude.{count_by, if◌then◌else◌}
use Rattle.std.specs.List.{prefix_len}
use Rattle.kk_base.specs.declared.span.Span.{Span}
use Rattle.kk_syntax.specs.declared.token.LocatedToken.{LocatedToken}
use Rattle.kk_syntax.specs.declared.token.Symbol.TheVariants.{OpenBrace, CloseBrace, Semicolon}
use Rattle.kk_syntax.specs.TokenList.{TokenList}
use Rattle.kk_layout.specs.declared.block.Block.{Block}
use Rattle.kk_layout.specs.declared.block.Block.TheVariants.{Implicit, Explicit}
use Rattle.kk_layout.specs.Blocks.{is_implicit, is_deeper, innermost_column}
use Rattle.kk_layout.specs.Kinds.{closes_block, opens_block}
use Rattle.kk_layout.specs.Layouts.{first_place, taken, laid_behind, laid_out_items, laid_out_list}
use Rattle.kk_layout.specs.Rules.{begins_line, continues, item, line_begun, first_rule, explicit_closed, second_rule, third_rule, ended}
use Rattle.kk_layout.specs.States.{State, start, symbol_at, with_blocks, inserted, closed, opened, without_innermost}

-- the blocks that an inserted brace will close
abbrev closers : List Block → ℕ
closers [] = 0
closers (b ∷ bs) = cond (is_implicit b) (1 + closers bs) (closers bs)

counted : (bs : List Block) → closers bs ≡ count_by is_implicit bs
counted = is_count_by closers is_implicit refl (λ b bs. refl)

-- the tokens so far, and those that will close what is open now
abbrev owed : State → ℕ
owed s = length s.laid + closers s.blocks

-- blocks that are taken away, all of them implicit
module _ (p : Block → Bool) (implies : (b : Block) → p b ≡ true → is_implicit b ≡ true) where
  drop_prefix : (bs : List Block) → closers (drop (prefix_len p bs) bs) + prefix_len p bs ≡ closers bs
  drop_prefix [] = refl
  drop_prefix (b ∷ bs) = by (p b) refl (drop_prefix bs)
    where
      by : (passes : Bool) → p b ≡ passes → closers (drop (prefix_len p bs) bs) + prefix_len p bs ≡ closers bs
          → closers (drop (cond passes (1 + prefix_len p bs) 0) (b ∷ bs)) + cond passes (1 + prefix_len p bs) 0 ≡ closers (b ∷ bs)
      by true is rest =
          let next : 1 + prefix_len p bs ≡ suc (prefix_len p bs) = omega arith in
          let gone : drop (suc (prefix_len p bs)) (b ∷ bs) ≡ drop (prefix_len p bs) bs = refl in
          let own : is_implicit b ≡ true = implies b is in
          rw (own, next, gone) (omega (arith, rest))
      by false is rest = omega arith

  owed_closed : (place : Span) (s : State) → owed (closed (prefix_len p s.blocks) place s) ≡ owed s
  owed_closed place s =
      let n = prefix_len p s.blocks in
      let braces = replicate n (symbol_at CloseBrace place) in
      let laid : length (closed n place s).laid ≡ length s.laid + n = length-append s.laid braces ∙ ap (λ k. length s.laid + k) (length-replicate n (symbol_at CloseBrace place)) in
      let blocks : closers (closed n place s).blocks + n ≡ closers s.blocks = drop_prefix s.blocks in
      omega (arith, laid, blocks)

deeper_is_implicit : (column : ℕ) (b : Block) → is_deeper column b ≡ true → is_implicit b ≡ true
deeper_is_implicit column (Implicit own) h = refl
deeper_is_implicit column (Explicit own) h = cc

-- what one item adds
owed_item : (closings : ℕ) (place : Span) (s : State) → owed (item closings place s) ≤ owed s + 2
owed_item closings place s = by (closings == 0 && nat_lt (innermost_column s.base s.blocks) place.column)
  where
    by : (opens : Bool) → owed (if opens then opened place s else inserted 1 Semicolon place s) ≤ owed s + 2
    by true =
        let laid : length (opened place s).laid ≡ length s.laid + 1 = length-append s.laid (symbol_at OpenBrace place ∷ []) in
        let blocks : closers (opened place s).blocks ≡ 1 + closers s.blocks = refl in
        let most : owed (opened place s) ≤ owed s + 2 = omega (arith, laid, blocks) in
        most
    by false =
        let laid : length (inserted 1 Semicolon place s).laid ≡ length s.laid + 1 = length-append s.laid (symbol_at Semicolon place ∷ []) in
        let most : owed (inserted 1 Semicolon place s) ≤ owed s + 2 = omega (arith, laid) in
        most

owed_line : (goes_on : Bool) (place : Span) (s : State) → owed (line_begun goes_on place s) ≤ owed s + 2
owed_line true place s = omega (arith, owed_closed (is_deeper place.column) (deeper_is_implicit place.column) place s)
owed_line false place s =
    let n = prefix_len (is_deeper place.column) s.blocks in
    let same : owed (closed n place s) ≡ owed s = owed_closed (is_deeper place.column) (deeper_is_implicit place.column) place s in
    let most : owed (item n place (closed n place s)) ≤ owed (closed n place s) + 2 = owed_item n place (closed n place s) in
    omega (arith, same, most)

owed_first : (previous t : LocatedToken) (s : State) → owed (first_rule previous t s) ≤ owed s + 2
owed_first previous t s = by (begins_line previous t && s.brackets == 0)
  where
    by : (begins : Bool) → owed (if begins then line_begun (continues previous t) t.span s else s) ≤ owed s + 2
    by true = owed_line (continues previous t) t.span s
    by false = omega arith

-- no block that is taken away adds to what is owed
fewer_closers : (b : Block) (bs : List Block) → closers bs ≤ closers (b ∷ bs)
fewer_closers (Implicit column) bs = omega arith
fewer_closers (Explicit column) bs = omega arith

owed_without : (s : State) → owed (without_innermost s) ≤ owed s
owed_without s = by s.blocks
  where
    by : (bs : List Block) → length s.laid + closers (drop 1 bs) ≤ length s.laid + closers bs
    by [] = omega arith
    by (b ∷ bs) =
        let most : length s.laid + closers bs ≤ length s.laid + closers (b ∷ bs) = omega (arith, fewer_closers b bs) in
        most

owed_explicit : (place : Span) (s : State) → owed (explicit_closed place s) ≤ owed s
owed_explicit place s = by (nat_lt (prefix_len is_implicit s.blocks) (length s.blocks))
  where
    by : (there : Bool) → owed (if there then without_innermost (closed (prefix_len is_implicit s.blocks) place s) else s) ≤ owed s
    by true =
        let below = closed (prefix_len is_implicit s.blocks) place s in
        let same : owed below ≡ owed s = owed_closed is_implicit (λ b h. h) place s in
        let most : owed (without_innermost below) ≤ owed below = owed_without below in
        let whole : owed (without_innermost below) ≤ owed s = omega (arith, same, most) in
        whole
    by false = omega arith

owed_second : (t : LocatedToken) (s : State) → owed (second_rule t s) ≤ owed s
owed_second t s = by (closes_block t.token)
  where
    by : (closes : Bool) → owed (if closes then explicit_closed t.span s else s) ≤ owed s
    by true = owed_explicit t.span s
    by false = omega arith

owed_third : (t : LocatedToken) (column : ℕ) (s : State) → owed (third_rule t column s) ≤ owed s
owed_third t column s = by (opens_block t.token)
  where
    by : (opens : Bool) → owed (if opens then with_blocks (Explicit column ∷ s.blocks) s else s) ≤ owed s
    by true = let same : owed (with_blocks (Explicit column ∷ s.blocks) s) ≡ owed s = refl in omega (arith, same)
    by false = omega arith

owed_taken : (t : LocatedToken) (column : ℕ) (s : State) → owed (taken t column s) ≤ owed s + 1
owed_taken t column s =
    let before = third_rule t column (second_rule t s) in
    let laid : length (taken t column s).laid ≡ length before.laid + 1 = length-append before.laid (t ∷ []) in
    let blocks : closers (taken t column s).blocks ≡ closers before.blocks = refl in
    let second : owed (second_rule t s) ≤ owed s = owed_second t s in
    let third : owed before ≤ owed (second_rule t s) = owed_third t column (second_rule t s) in
    omega (arith, laid, blocks, second, third)

owed_ended : (end : Span) (s : State) → length (ended end s).laid ≡ owed s
owed_ended end s =
    let n = count_by is_implicit s.blocks in
    length-append s.laid (replicate n (symbol_at CloseBrace end)) ∙ ap (λ k. length s.laid + k) (length-replicate n (symbol_at CloseBrace end) ∙ sym (counted s.blocks))

owed_behind : (end : Span) (previous : LocatedToken) (rest : List LocatedToken) (s : State) → length (laid_behind end previous rest s).laid ≤ owed s + 3 * length rest
owed_behind end previous [] s = omega (arith, owed_ended end s)
owed_behind end previous (t ∷ rest) s =
    let begun = first_rule previous t s in
    let behind = taken t (first_place end rest).column begun in
    let first : owed begun ≤ owed s + 2 = owed_first previous t s in
    let passed : owed behind ≤ owed begun + 1 = owed_taken t (first_place end rest).column begun in
    let later : length (laid_behind end t rest behind).laid ≤ owed behind + 3 * length rest = owed_behind end t rest behind in
    omega (arith, first, passed, later)

pub few_items : (end : Span) (tokens : List LocatedToken) → length (laid_out_items end tokens) ≤ 3 * length tokens
few_items end [] = omega arith
few_items end (t ∷ rest) =
    let first = start t.span.column in
    let behind = taken t (first_place end rest).column first in
    let passed : owed behind ≤ owed first + 1 = owed_taken t (first_place end rest).column first in
    let none : owed first ≡ 0 = refl in
    let later : length (laid_behind end t rest behind).laid ≤ owed behind + 3 * length rest = owed_behind end t rest behind in
    omega (arith, none, passed, later)

pub few_laid_out : (tokens : TokenList) → length (laid_out_list tokens).items ≤ 3 * length tokens.items
few_laid_out tokens = few_items tokens.end tokens.items

pub few_are : (tokens out : TokenList) → out ≡ laid_out_list tokens → length out.items ≤ 3 * length tokens.items
few_are tokens out e = omega (arith, ap (λ (laid : TokenList). length laid.items) e, few_laid_out tokens)
