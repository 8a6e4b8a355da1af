-- The answers of `eq_uni_kernels`, from the tests that the code makes.
use mathlib.Core.Path.{◌≡◌, sym, ◌∙◌, ap, ap₂}
use mathlib.Core.Bool.{true, false, cond}
use mathlib.Core.List.{List}
use Prim.Native.Nat.{ℕ, ◌*◌, ◌%◌, ◌^◌, ◌<◌, ◌≤◌}
use native.Mathlib.Omega.{arith}
use lib.Dec.{eqb, leb}
use lib.ListN.{length}
use borrow.Author.Tests.{eq-eqb, ne_eqb, le-leb, lt-leb}
use Rattle.algebra.proofs.Powers.{shift_exact}
use Rattle.field.specs.Element.{Elem}
use Rattle.field.specs.declared.answer.Refusal.TheVariants.{LimitExceeded, WrongLength}
use Rattle.std.specs.declared.result.Result.TheVariants.{Ok, Err}
use Rattle.tables.specs.KernelTable.{kernel_table, kernel_fits, kernel_answer, kernel_exit}

module _ (l : ℕ) (u : Elem) (out : List ℕ) where
  pub above_limit : 10 < l → ((Err LimitExceeded) ≡ kernel_answer l out) × (out ≡ kernel_exit l u out)
  unfolding kernel_answer kernel_exit
  above_limit h =
      let t : leb l 10 ≡ false = lt-leb l 10 h in
      (ap (λ b. cond b (cond (kernel_fits l out) (Ok tt) (Err WrongLength)) (Err LimitExceeded)) (sym t), ap (λ b. cond b (cond (kernel_fits l out) (kernel_table l u) out) out) (sym t))

  module _ (few : l ≤ 10) where
    entries : 1 * 2 ^ l % 18446744073709551616 ≡ 2 ^ l
    entries = shift_exact l 64 (omega arith)

    pub room_for_kernels : length out ≡ 4 * (1 * 2 ^ l % 18446744073709551616) → length out ≡ 4 * 2 ^ l
    room_for_kernels e = e ∙ ap (λ n. 4 * n) entries

    pub other_length : (length out ≡ 4 * (1 * 2 ^ l % 18446744073709551616) → ⊥) → ((Err WrongLength) ≡ kernel_answer l out) × (out ≡ kernel_exit l u out)
    unfolding kernel_answer kernel_exit kernel_fits
    other_length n =
        let t : leb l 10 ≡ true = le-leb l 10 few in
        let s : eqb (length out) (4 * 2 ^ l) ≡ false = ne_eqb _ _ (λ e. n (e ∙ ap (λ k. 4 * k) (sym entries))) in
        (sym (ap₂ (λ b c. cond b (cond c (Ok tt) (Err WrongLength)) (Err LimitExceeded)) t s), sym (ap₂ (λ b c. cond b (cond c (kernel_table l u) out) out) t s))

    pub kernels_done : {new : List ℕ} → length out ≡ 4 * (1 * 2 ^ l % 18446744073709551616) → new ≡ kernel_table l u → ((Ok tt) ≡ kernel_answer l out) × (new ≡ kernel_exit l u out)
    unfolding kernel_answer kernel_exit kernel_fits
    kernels_done r e =
        let t : leb l 10 ≡ true = le-leb l 10 few in
        let s : eqb (length out) (4 * 2 ^ l) ≡ true = eq-eqb _ _ (room_for_kernels r) in
        (sym (ap₂ (λ b c. cond b (cond c (Ok tt) (Err WrongLength)) (Err LimitExceeded)) t s), e ∙ sym (ap₂ (λ b c. cond b (cond c (kernel_table l u) out) out) t s))
