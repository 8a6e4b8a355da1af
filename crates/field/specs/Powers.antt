-- The generators of the subgroups of order 2^k. Document 01: that of order 2^27 is 31^15 = 440,564,289, that of order 2^k its 2^(27 − k)-th power.
use Rattle.std.specs.Prelude.{ℕ, ◌-◌, ◌^◌}
use Rattle.algebra.specs.Ring.{pow}
use Rattle.field.specs.Word.{Word, Fp, word_of}
use Rattle.field.specs.Element.{Elem, from_word}

unfoldable pub generator : ℕ → Word
generator k = pow Fp (word_of 440564289) (2 ^ (27 - k))

-- the same as an element: the root of the skip subgroup of order 2^k
abbrev pub root : ℕ → Elem
root k = from_word (generator k)
