-- Behind the values stand zeros: after the fold at u_0 nothing stands behind them, and each fold more puts zeros where values were.
use mathlib.Core.Path.{◌≡◌, ◌∙◌, ap, ap₂}
use mathlib.Core.Bool.{Bool, cond}
use mathlib.Core.List.{List}
use Prim.Native.Nat.{ℕ, suc, ◌+◌, ◌-◌, ◌*◌, ◌/◌, ◌^◌, ◌<◌, ◌≤◌}
use native.Mathlib.Nat
use native.Mathlib.Omega.{arith}
use native.Mathlib.Decide.{dec_lt}
use borrow.Author.Tests.{lt-ltb, le-ltb}
use Rattle.algebra.specs.Multilinear.{fold_mle}
use Rattle.field.specs.Element.{Elem, F, elem_of, words_of}
use Rattle.field.specs.Slice.{words_at}
use Rattle.prover.specs.declared.turns.Turn.{Turn}
use Rattle.prover.specs.Given.{Given, Work, stacked}
use Rattle.prover.specs.Slots.{entries, slot_start}
use Rattle.prover.specs.Written.{elems_from}
use Rattle.prover.specs.Blocks.{folded_words}
use Rattle.prover.specs.CallNumbers.{live, fold_number}
use Rattle.prover.specs.Calls.{fold_values, fold_tables, fold_work}
use Rattle.reduction.specs.Zeros.{ZeroAt, ValueZeros, TableZeros, ZerosAfter}
use Rattle.reduction.proofs.BufferLaws.{words_at-blocks}
use Rattle.reduction.proofs.SlotTables.{entries_if_any, words_at-tables}
use Rattle.reduction.proofs.LiveEntries.{live_power, past_values, past_zeros}
use Rattle.reduction.proofs.FoldedWork.{folded-four, leaves_new}

-- behind the values of a fold: its zeros, and behind them what was zero before
folded-behind : (xs : List ℕ) (at half : ℕ) (u : Elem) (i : ℕ) → half ≤ i → (2 * half ≤ i → ZeroAt xs (at + i)) → folded_words xs at half u i ≡ words_of F.zero
unfolding folded_words
folded-behind xs at half u i past before = by (dec_lt i (2 * half))
  where
    word : Bool → List ℕ
    word b = cond b (words_of F.zero) (words_at xs (at + i))

    by : Dec (i < 2 * half) → folded_words xs at half u i ≡ words_of F.zero
    by (yes d) = ap₂ (λ a b. cond a (words_of (fold_mle F (elems_from xs at) u i)) (word b)) (le-ltb i half past) (lt-ltb i (2 * half) d)
    by (no d) = ap₂ (λ a b. cond a (words_of (fold_mle F (elems_from xs at) u i)) (word b)) (le-ltb i half past) (le-ltb i (2 * half) (omega arith)) ∙ before (omega arith)

module _ (g : Given) where
  -- no fold of a round yet: all of it is values
  pub zeros_first : (w : Work) → ZerosAfter g 0 w
  zeros_first w =
      record {
        values = λ i a b. absurd (omega (arith, ap (λ k. stacked g * 2 ^ k) (Nat.sub-zero g.stack)));
        eq = λ h x s a b. absurd (whole h x a b);
        rot = λ h x s a b. absurd (whole h x a b);
      }
    where
      whole : (h x : ℕ) → live (entries g.skip g.lists h) 0 ≤ x → x < entries g.skip g.lists h → ⊥
      whole h x a b =
          let e = entries_if_any g.skip g.lists h x b in
          omega (arith, ap (λ k. live k 0) e, live_power (h - g.skip) 0, ap (λ k. 2 ^ k) (Nat.sub-zero (h - g.skip)))

  module _ (j : ℕ) (u : Elem) where
    values-folded : (q : List ℕ) → j < g.stack → ValueZeros g j q → ValueZeros g (suc j) (fold_values g.stack (stacked g) (suc j) u q)
    unfolding fold_values
    values-folded q more zeros i a b =
        words_at-blocks (stacked g * 2 ^ g.stack) (folded_words q 0 half u) (folded-four q 0 half u) i b
        ∙ folded-behind q 0 half u i (omega arith) (λ c. ap (words_at q) (Nat.zero-add i) ∙ zeros i (omega (arith, twice)) b)
      where
        half : ℕ
        half = stacked g * 2 ^ (g.stack - suc j)

        twice : stacked g * 2 ^ (g.stack - j) ≡ 2 * half
        twice =
            ap (λ k. stacked g * 2 ^ k) {x = g.stack - j} {y = suc (g.stack - suc j)} (omega arith)
            ∙ ap (λ k. stacked g * k) (Nat.pow-succ' 2 (g.stack - suc j)) ∙ Nat.mul_left_comm (stacked g) 2 (2 ^ (g.stack - suc j))

    table_folded : (t : List ℕ) → TableZeros g j t → TableZeros g (suc j) (fold_tables g.skip g.stack g.lists (suc j) u t)
    unfolding fold_tables
    table_folded t zeros h x s a b =
        let e = entries_if_any g.skip g.lists h x b in
        words_at-tables g.skip g.lists g.stack (λ h. folded_words t (slot_start g.skip g.lists h) (entries g.skip g.lists h / 2 ^ suc j) u)
        (λ h. folded-four t (slot_start g.skip g.lists h) (entries g.skip g.lists h / 2 ^ suc j) u) h x s b
        ∙ folded-behind t (slot_start g.skip g.lists h) (entries g.skip g.lists h / 2 ^ suc j) u x
        (rw e (past_values (h - g.skip) j x (rw e at a))) (λ c. zeros h x s (rw e (past_zeros (h - g.skip) j x (rw e at a) (rw e at c))) b)

  -- an accepted fold of round j + 1
  pub zeros-fold_work : (t : Turn) (j : ℕ) (v : List ℕ) (w : Work) → j < g.stack → fold_number g t (suc j) v w ≡ 0 → ZerosAfter g j w
      → ZerosAfter g (suc j) (fold_work g t (suc j) v w)
  unfolding fold_work
  zeros-fold_work t j v w more accepted zeros =
      record {
        values = λ i a b. ap (λ xs. words_at xs i) (leaves_new _ _ w.q accepted) ∙ values-folded j (elem_of v) w.q more zeros.values i a b;
        eq = λ h x s a b. ap (λ xs. words_at xs (slot_start g.skip g.lists h + x)) (leaves_new _ _ w.eq accepted) ∙ table_folded j (elem_of v) w.eq zeros.eq h x s a b;
        rot = λ h x s a b. ap (λ xs. words_at xs (slot_start g.skip g.lists h + x)) (leaves_new _ _ w.rot accepted) ∙ table_folded j (elem_of v) w.rot zeros.rot h x s a b;
      }
