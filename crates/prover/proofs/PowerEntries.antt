-- The power that a turn of a pass reads.
use Rattle.std.proofs.Common.{◌≡◌, ℕ, ◌+◌, ◌-◌, ◌*◌, ◌%◌, ◌^◌, ◌<◌, ◌≤◌, min, List, get_or, sym, ap, ◌∙◌, arith}
use native.Mathlib.Nat
use Rattle.algebra.specs.Ring.{pow}
use Rattle.algebra.proofs.Powers.{pow-pow}
use Rattle.field.specs.Word.{Fp, number}
use Rattle.field.specs.Powers.{generator}
use Rattle.field.proofs.Generators.{generator-raised, power_remainder}
use Rattle.field.specs.PowerTable.{PowerTable}

pub power_entry : (s m : ℕ) (t : List ℕ) {step w : ℕ} → s < 10 → PowerTable t → step ≡ 2 ^ (9 - s) → w ≡ get_or t (m * step % 1024) 0 → w ≡ number (pow Fp (generator (min (s + 1) 10)) m)
power_entry s m t {step} h p es ew =
    ew ∙ p.entries (m * step % 1024) (Nat.mod-lt (m * step) (omega arith))
    ∙ ap (λ x. number x)
    (sym (power_remainder 10 (omega arith) (m * step))
    ∙ ap (pow Fp (generator 10)) (ap (λ n. m * n) es ∙ Nat.mul_comm m (2 ^ (9 - s)))
    ∙ sym (pow-pow Fp (generator 10) (2 ^ (9 - s)) m)
    ∙ ap (λ x. pow Fp x m)
    (ap (λ n. pow Fp (generator n) (2 ^ (9 - s))) {x = 10} {y = s + 1 + (9 - s)} (omega arith) ∙ generator-raised (s + 1) (9 - s) (omega arith)
    ∙ ap generator {x = s + 1} {y = min (s + 1) 10} (omega arith)))

-- the index fits
pub index_fits : (m step : ℕ) → m ≤ 8192 → step ≤ 4096 → m * step < 2 ^ 64
index_fits m step h k = omega (arith, Nat.mul-le-mul h k)
