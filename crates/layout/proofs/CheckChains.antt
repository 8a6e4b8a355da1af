-- Lengths and scans in a chain of checks: what each test says of its number.
use mathlib.Core.Path.{◌≡◌, sym, ◌∙◌, ap}
use mathlib.Core.Bool.{Bool, true, false, not}
use Prim.Native.Nat.{ℕ}
use native.Mathlib.Omega.{arith}
use borrow.Author.Tests.{eqb-true, not-false}
use Rattle.layout.specs.Checks.{refuse, or_else, length_number}
use Rattle.layout.proofs.Firsts as Firsts
use Rattle.layout.proofs.Firsts.{is_false, passed, skips, stops, differs}

pub length_is : (has asked : ℕ) → length_number has asked ≡ 0 → has ≡ asked
length_is has asked e = eqb-true _ _ (not-false _ (is_false 9 _ (omega arith) e))

-- a length in a chain, and the last one
pub length_skip : (has asked b : ℕ) {m : ℕ} → has ≡ asked → m ≡ b → m ≡ or_else (length_number has asked) b
length_skip has asked b e f = skips 9 _ b (Firsts.same has asked e) f

pub length_stop : (has asked b : ℕ) → (has ≡ asked → ⊥) → 9 ≡ or_else (length_number has asked) b
length_stop has asked b h = stops 9 _ b (omega arith) (differs has asked h)

pub length_no : (has asked : ℕ) → (has ≡ asked → ⊥) → 9 ≡ length_number has asked
length_no has asked h = sym (Firsts.refused 9 _ (differs has asked h))

pub length_yes : (has asked : ℕ) → has ≡ asked → 0 ≡ length_number has asked
length_yes has asked e = sym (passed 9 _ (Firsts.same has asked e))

-- a scan in a chain, and the last one
pub scan_skip : (t : Bool) (b : ℕ) {ok : Bool} {m : ℕ} → ok ≡ t → not ok ≡ false → m ≡ b → m ≡ or_else (refuse 10 (not t)) b
scan_skip t b e h f = skips 10 _ b (ap not (sym e) ∙ h) f

pub scan_stop : (t : Bool) (b : ℕ) {ok : Bool} → ok ≡ t → not ok ≡ true → 10 ≡ or_else (refuse 10 (not t)) b
scan_stop t b e h = stops 10 _ b (omega arith) (ap not (sym e) ∙ h)

pub scan_no : (t : Bool) {ok : Bool} → ok ≡ t → not ok ≡ true → 10 ≡ refuse 10 (not t)
scan_no t e h = sym (Firsts.refused 10 _ (ap not (sym e) ∙ h))

pub scan_yes : (t : Bool) {ok : Bool} → ok ≡ t → not ok ≡ false → 0 ≡ refuse 10 (not t)
scan_yes t e h = sym (passed 10 _ (ap not (sym e) ∙ h))
