-- How the segments of a file are gathered and compared, one after the other.
use Rattle.std.proofs.Common.{◌≡◌, ℕ, suc, ◌+◌, ◌-◌, ◌<◌, Bool, true, false, not, ◌&&◌, ◌||◌, List, [], ◌∷◌, ◌++◌, length, get_or, take, drop, map, filter, refl, sym, ap, subst, ◌∙◌, append_assoc, arith}
use Rattle.std.specs.List.{list_any}
use Rattle.std.proofs.lemmas.List.{drop_more, length-drop, take_all}
use Rattle.elf_image.specs.declared.header.ProgramHeader.{ProgramHeader}
use Rattle.elf_image.specs.Fields.{header_of, headers_of, is_load}
use Rattle.elf_image.specs.Parts.{are_apart, share_address}
use Rattle.elf_image.specs.Reading.{extent_of}

filter-taken : {X : Type 0} (p : X → Bool) (x : X) (xs : List X) → p x ≡ true → filter p (x ∷ xs) ≡ x ∷ filter p xs
filter-taken p x xs e = rw e refl

filter-passed : {X : Type 0} (p : X → Bool) (x : X) (xs : List X) → p x ≡ false → filter p (x ∷ xs) ≡ filter p xs
filter-passed p x xs e = rw e refl

-- what lies behind a header
pub behind-header : (rest : List ℕ) (n : ℕ) → n ≡ 32 → take (length rest - n) (drop n rest) ≡ drop 32 rest
behind-header rest n is = take_all (length rest - n) (drop n rest) (omega (arith, length-drop n rest)) ∙ ap (λ (k : ℕ). drop k rest) is

-- the headers that are left, with the next one taken apart
next : (count i : ℕ) (found total : List ProgramHeader) (rest : List ℕ) (h : ProgramHeader) → i < count → h ≡ header_of rest
    → found ++ filter is_load (headers_of (count - i) rest) ≡ total → found ++ filter is_load (h ∷ headers_of (count - (i + 1)) (drop 32 rest)) ≡ total
next count i found total rest h lt is so_far =
    let k : count - i ≡ suc (count - (i + 1)) = omega arith in
    let whole : found ++ filter is_load (headers_of (suc (count - (i + 1))) rest) ≡ total = subst (λ (n : ℕ). found ++ filter is_load (headers_of n rest) ≡ total) k so_far in
    subst (λ (g : ProgramHeader). found ++ filter is_load (g ∷ headers_of (count - (i + 1)) (drop 32 rest)) ≡ total) (sym is) whole

-- one more header, of a segment to be loaded
pub gathered : (count i : ℕ) (found loads total : List ProgramHeader) (rest behind : List ℕ) (h : ProgramHeader) → i < count → behind ≡ drop 32 rest → h ≡ header_of rest → is_load h ≡ true → loads ≡ found ++ h ∷ []
    → found ++ filter is_load (headers_of (count - i) rest) ≡ total → loads ++ filter is_load (headers_of (count - (i + 1)) behind) ≡ total
gathered count i found loads total rest behind h lt behind-is is load grown so_far =
    let others : List ProgramHeader = headers_of (count - (i + 1)) (drop 32 rest) in
    ap (λ (bs : List ℕ). loads ++ filter is_load (headers_of (count - (i + 1)) bs)) behind-is
    ∙ ap (λ (hs : List ProgramHeader). hs ++ filter is_load others) grown
    ∙ append_assoc found (h ∷ []) (filter is_load others)
    ∙ ap (λ (hs : List ProgramHeader). found ++ hs) (sym (filter-taken is_load h others load))
    ∙ next count i found total rest h lt is so_far

-- one more header, of something else
pub passed_over : (count i : ℕ) (found loads total : List ProgramHeader) (rest behind : List ℕ) (h : ProgramHeader) → i < count → behind ≡ drop 32 rest → h ≡ header_of rest → is_load h ≡ false → loads ≡ found
    → found ++ filter is_load (headers_of (count - i) rest) ≡ total → loads ++ filter is_load (headers_of (count - (i + 1)) behind) ≡ total
passed_over count i found loads total rest behind h lt behind-is is load same so_far =
    let others : List ProgramHeader = headers_of (count - (i + 1)) (drop 32 rest) in
    ap (λ (bs : List ℕ). loads ++ filter is_load (headers_of (count - (i + 1)) bs)) behind-is
    ∙ ap (λ (hs : List ProgramHeader). hs ++ filter is_load others) same
    ∙ ap (λ (hs : List ProgramHeader). found ++ hs) (sym (filter-passed is_load h others load))
    ∙ next count i found total rest h lt is so_far

-- a test of what a function gives
pub list_any-map : {X Y : Type 0} (p : Y → Bool) (f : X → Y) (xs : List X) → list_any p (map f xs) ≡ list_any (λ x. p (f x)) xs
list_any-map p f [] = refl
list_any-map p f (x ∷ xs) = ap (λ (b : Bool). p (f x) || b) (list_any-map p f xs)

-- the first of the segments left shares no address with the others
apart-cons : (h : ProgramHeader) (hs : List ProgramHeader) → are_apart (map extent_of (h ∷ hs)) ≡ (not (list_any (λ g. share_address (extent_of h) (extent_of g)) hs) && are_apart (map extent_of hs))
apart-cons h hs = ap (λ (b : Bool). not b && are_apart (map extent_of hs)) (list_any-map (share_address (extent_of h)) extent_of hs)

-- the segments from one on, as the one and those behind it
apart-at : (hs : List ProgramHeader) (i : ℕ) (d : ProgramHeader) → i < length hs
    → are_apart (map extent_of (drop i hs)) ≡ (not (list_any (λ g. share_address (extent_of (get_or hs i d)) (extent_of g)) (take (length hs - (i + 1)) (drop (i + 1) hs))) && are_apart (map extent_of (drop (i + 1) hs)))
apart-at hs i d lt =
    let h : ProgramHeader = get_or hs i d in
    let whole : take (length hs - (i + 1)) (drop (i + 1) hs) ≡ drop (i + 1) hs = take_all (length hs - (i + 1)) (drop (i + 1) hs) (omega (arith, length-drop (i + 1) hs)) in
    ap (λ (gs : List ProgramHeader). are_apart (map extent_of gs)) (drop_more hs i d lt)
    ∙ apart-cons h (drop (i + 1) hs)
    ∙ ap (λ (gs : List ProgramHeader). not (list_any (λ g. share_address (extent_of h) (extent_of g)) gs) && are_apart (map extent_of (drop (i + 1) hs))) (sym whole)

-- a segment that shares no address with those behind it says nothing
pub apart_goes_on : (hs : List ProgramHeader) (i : ℕ) (d : ProgramHeader) (any : Bool) → i < length hs
    → any ≡ list_any (λ g. share_address (extent_of (get_or hs i d)) (extent_of g)) (take (length hs - (i + 1)) (drop (i + 1) hs)) → any ≡ false
    → are_apart (map extent_of hs) ≡ are_apart (map extent_of (drop i hs)) → are_apart (map extent_of hs) ≡ are_apart (map extent_of (drop (i + 1) hs))
apart_goes_on hs i d any lt told none so_far =
    so_far ∙ apart-at hs i d lt ∙ ap (λ (b : Bool). not b && are_apart (map extent_of (drop (i + 1) hs))) (sym told ∙ none)

-- and one that shares an address with one of them says all
pub apart_ends : (hs : List ProgramHeader) (i : ℕ) (d : ProgramHeader) (any : Bool) → i < length hs
    → any ≡ list_any (λ g. share_address (extent_of (get_or hs i d)) (extent_of g)) (take (length hs - (i + 1)) (drop (i + 1) hs)) → any ≡ true
    → are_apart (map extent_of hs) ≡ are_apart (map extent_of (drop i hs)) → false ≡ are_apart (map extent_of hs)
apart_ends hs i d any lt told some so_far =
    sym (so_far ∙ apart-at hs i d lt ∙ ap (λ (b : Bool). not b && are_apart (map extent_of (drop (i + 1) hs))) (sym told ∙ some))
