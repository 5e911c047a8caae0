-- An edited conflict of strings, compared string by string.
use Rattle.std.proofs.Common.{◌≡◌, List, [], ◌∷◌, map, refl, sym, string_bytes, string_eq}
use Rattle.std.specs.Global.{Global}
use Rattle.std.specs.declared.string.String.{String}
use Rattle.std.proofs.lemmas.Slice.Eq.{bytes_eq-Decides}
use Rattle.jj_merges.specs.Merge.{AreTermwiseEqual}

-- strings with equal bytes are termwise equal
pub termwise : (xs ys : List (String Global)) → map string_bytes xs ≡ map string_bytes ys → AreTermwiseEqual string_eq xs ys
termwise [] [] same = tt
termwise [] (y ∷ ys) same = absurd (cc)
termwise (x ∷ xs) [] same = absurd (cc)
termwise (x ∷ xs) (y ∷ ys) same =
    let first : string_bytes x ≡ string_bytes y = cc in
    let rest : map string_bytes xs ≡ map string_bytes ys = cc in
    ((bytes_eq-Decides (string_bytes x) (string_bytes y)).1 first, termwise xs ys rest)

-- termwise equal strings have equal bytes
pub same_bytes : (xs ys : List (String Global)) → AreTermwiseEqual string_eq xs ys → map string_bytes ys ≡ map string_bytes xs
same_bytes [] [] same = refl
same_bytes [] (y ∷ ys) same = absurd same
same_bytes (x ∷ xs) [] same = absurd same
same_bytes (x ∷ xs) (y ∷ ys) same = λ i. sym ((bytes_eq-Decides (string_bytes x) (string_bytes y)).0 same.0) i ∷ same_bytes xs ys same.1 i
