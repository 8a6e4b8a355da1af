-- The numbers of a verdict's shape are at most 11, so they are neither 13 nor 14; and the verifier never gives 12.
use mathlib.Core.Logic.{◌≢◌}
use Prim.Native.Nat.{◌≤◌}
use native.Mathlib.Omega.{arith}
use Rattle.layout.specs.Lists.{lists_length}
use Rattle.layout.proofs.LowNumbers.{low, both, not_twelve, lists_low}
use Rattle.layout.proofs.OtherNumbers.{or_other, refuse_other}
use Rattle.verifier.specs.Asked.{Asked}
use Rattle.verifier.specs.Numbers.{slices_number, words_number, asked_number, verdict_number}

pub asked_low : (a : Asked) → asked_number a ≤ 11
unfolding asked_number lists_length slices_number words_number
asked_low a =
    both (lists_low a.skip a.stack a.counts a.lists)
    (both (low 9 _ (omega arith))
    (both
    (both (low 9 _ (omega arith))
    (both (low 9 _ (omega arith))
    (both (low 9 _ (omega arith))
    (both (low 9 _ (omega arith)) (both (low 9 _ (omega arith)) (both (low 9 _ (omega arith)) (low 9 _ (omega arith))))))))
    (both (low 10 _ (omega arith))
    (both (low 10 _ (omega arith))
    (both (low 10 _ (omega arith))
    (both (low 10 _ (omega arith)) (both (low 10 _ (omega arith)) (both (low 10 _ (omega arith)) (low 10 _ (omega arith))))))))))

pub verdict_never : (a : Asked) → verdict_number a ≢ 12
unfolding verdict_number
verdict_never a =
    or_other _ _ (not_twelve (asked_low a))
    (or_other _ _ (refuse_other (λ z. omega arith) 13 _ (λ z. omega arith)) (refuse_other (λ z. omega arith) 14 _ (λ z. omega arith)))
