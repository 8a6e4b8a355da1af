-- Words put in the room of a list.
use Rattle.std.proofs.Common.{◌≡◌, ℕ, ◌+◌, ◌-◌, ◌≤◌, List, ◌++◌, length, take, arith, sym, ap, subst, ◌∙◌, min, set}
use Rattle.std.proofs.lemmas.List.{length-take, length-take-le, take_min, take-set-le, set_past}
use Rattle.std.proofs.lemmas.Slice.{take-put_mid}
use Rattle.std.proofs.Math.Seq.{take-append-add, take-set-lt}
use borrow.Rule.Slice.PartMut.{put_mid}

pub grown : (N len k room : ℕ) (words xs ys : List ℕ) → length words ≡ N → len ≤ N → k ≡ min (N - len) (length xs) → ys ≡ take k xs
    → take (len + k) (put_mid len room words ys) ≡ take N (take len words ++ xs)
grown N len k room words xs ys whole within count copied =
    let front : length (take len words) ≡ len = length-take-le len words (omega arith) in
    let many : length ys ≡ k = omega (arith, length-take k xs, ap length copied) in
    let left : take (len + k) (put_mid len room words ys) ≡ take len words ++ ys = take-put_mid len room words ys (len + k) (omega arith) (omega arith) in
    let sum : length (take len words) + (N - len) ≡ N = omega arith in
    let right : take N (take len words ++ xs) ≡ take len words ++ take (N - len) xs =
    subst (λ m. take m (take len words ++ xs) ≡ take len words ++ take (N - len) xs) sum (take-append-add (take len words) xs (N - len)) in
    let same : ys ≡ take (N - len) xs = copied ∙ ap (λ m. take m xs) count ∙ take_min (N - len) xs in
    left ∙ ap (λ z. take len words ++ z) same ∙ sym right

-- a word put anywhere in the room is put in the list, where it is within it
pub take_set : (words : List ℕ) (len i x : ℕ) → take len (set words i x) ≡ set (take len words) i x
take_set words len i x = grind (arith, take-set-lt, take-set-le, set_past, length-take)
