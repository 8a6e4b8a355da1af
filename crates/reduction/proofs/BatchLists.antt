-- The lists of a batch whose stackings are accepted: no number refuses them.
use mathlib.Core.Path.{◌≡◌, refl, sym, ◌∙◌, ap, ap₂, subst}
use mathlib.Core.Bool.{not, ◌&&◌}
use mathlib.Core.List.{List, [], ◌∷◌, ◌++◌, append_assoc, append-nil}
use Prim.Native.Nat.{ℕ, zero, suc, ◌+◌, ◌-◌, ◌*◌, ◌<◌, min}
use native.Mathlib.Nat
use native.Mathlib.Omega.{arith}
use lib.ListN.{length, get_or}
use lib.Dec.{ltb, eqb}
use borrow.Author.Tests.{le-ltb, lt-ltb, eq-eqb, ne_eqb}
use Rattle.algebra.specs.Polynomial.{All}
use Rattle.layout.specs.Checks.{refuse}
use Rattle.layout.specs.Triples.{count_of, columns_before}
use Rattle.layout.specs.Refusals.{flag_number, width_number, place_number, rise_number, laid_number}
use Rattle.layout.specs.Logs.{logged}
use Rattle.layout.specs.Stacking.{stacking_number, stacked_into}
use Rattle.layout.specs.Lists.{first_count, named, commitment_number, counts_number, width_there, later_number, empty_number, there_number, lists_number, lists_length}
use Rattle.layout.proofs.Firsts.{or_skip, passed, first_none}
use Rattle.layout.proofs.RunLaws.{there_yes, present_all}
use Rattle.reduction.specs.HonestBatch.{Commitment, counts_of, lists_of, all_cells, all_stacked, Traces}
use Rattle.reduction.proofs.CallNumbers.{right-length}
use Rattle.reduction.proofs.Stacks.{Stacks, one_more}
use Rattle.reduction.proofs.StackedAlone.{within_limits, count_few, stacked_alone}

-- the commitments after the first
module _ (l n first : ℕ) where
  later_stacks : (later : List Commitment) (m : ℕ) (lists stacked cells : List ℕ) → Stacks l n first m lists stacked cells
      → All (λ c. stacking_number l n c.heights c.cells (length c.lent) ≡ 0) later → All (λ c. count_of c.heights ≡ 1) later
      → Stacks l n first (m + length later) (lists ++ lists_of later) (stacked ++ all_stacked l n later) (cells ++ all_cells later)
  unfolding lists_of all_stacked all_cells
  later_stacks [] m lists stacked cells s accepted single =
      subst (λ T. T) (λ i. Stacks l n first (sym (Nat.add-zero m) i) (sym (append-nil lists) i) (sym (append-nil stacked) i) (sym (append-nil cells) i)) s
  later_stacks (c ∷ cs) m lists stacked cells s accepted single =
      let mine = stacked_into l n c.heights c.cells c.lent in
      let a = subst (λ k. Stacks l n k k (logged c.heights) mine c.cells) single.0 (stacked_alone l n c accepted.0) in
      let next = one_more l n first m lists stacked cells (logged c.heights) mine c.cells s a in
      let count : suc m + length cs ≡ m + suc (length cs) = omega arith in
      subst (λ T. T)
      (λ i. Stacks l n first (count i) (append_assoc lists (logged c.heights) (lists_of cs) i) (append_assoc stacked mine (all_stacked l n cs) i)
      (append_assoc cells c.cells (all_cells cs) i))
      (later_stacks cs (suc m) (lists ++ logged c.heights) (stacked ++ mine) (cells ++ c.cells) next accepted.1 single.1)

-- all of them
length-counts : (cs : List Commitment) → length (counts_of cs) ≡ length cs
unfolding counts_of
length-counts [] = refl
length-counts (c ∷ cs) = ap suc (length-counts cs)

one_each : (cs : List Commitment) → All (λ c. count_of c.heights ≡ 1) cs → (i : ℕ) → i < length cs → get_or (counts_of cs) i 0 ≡ 1
unfolding counts_of
one_each [] single i h = absurd (omega arith)
one_each (c ∷ cs) single zero h = single.0
one_each (c ∷ cs) single (suc i) h = one_each cs single.1 i (omega arith)

module _ (l n : ℕ) (first : Commitment) (later : List Commitment) (traces : Traces l n first later) where
  abbrev k : ℕ
  k = count_of first.heights

  abbrev lists : List ℕ
  lists = lists_of (first ∷ later)

  abbrev counts : List ℕ
  counts = counts_of (first ∷ later)

  pub batch_stacks : Stacks l n k (k + length later) lists (all_stacked l n (first ∷ later)) (all_cells (first ∷ later))
  unfolding lists_of all_stacked all_cells
  batch_stacks = later_stacks l n k later k _ _ _ (stacked_alone l n first traces.accepted.0) traces.accepted.1 traces.single

  pub counts_are : (first_count counts ≡ k) × (length counts ≡ suc (length later))
  unfolding counts_of
  counts_are = (refl, ap suc (length-counts later))

  pub lists-count : count_of lists ≡ k + length later
  lists-count = omega (arith, batch_stacks.size)

  lists-long : length lists ≡ 3 * named counts
  lists-long = omega (arith, batch_stacks.size, counts_are.0, counts_are.1)

  pub sizes_accepted : lists_length counts lists ≡ 0
  unfolding lists_length
  sizes_accepted = right-length _ _ lists-long

  counts_accepted : counts_number counts ≡ 0
  unfolding counts_number commitment_number counts_of
  counts_accepted =
      or_skip _ _ (passed 1 _ (ne_eqb (length counts) 0 (λ e. omega (arith, counts_are.1))))
      ∙ or_skip _ _ (passed 1 _ (le-ltb 16 (length counts) (omega (arith, counts_are.1, traces.few))))
      ∙ or_skip _ _ (passed 1 _ (le-ltb 4096 k (count_few l n first traces.accepted.0)))
      ∙ first_none (length counts) (commitment_number counts) each
    where
      each : (c : ℕ) → c < length counts → refuse 1 (ltb 0 c && not (eqb (get_or counts c 0) 1)) ≡ 0
      each zero h = passed 1 (ltb 0 0 && not (eqb (get_or counts 0 0) 1)) refl
      each (suc c) h =
          passed 1 _ (ap₂ (λ a b. a && not b) (lt-ltb 0 (suc c) (omega arith)) (eq-eqb _ 1 (one_each later traces.single c (omega (arith, counts_are.1)))))

  there_accepted : there_number l n k (length later) lists ≡ 0
  unfolding there_number flag_number width_number laid_number empty_number later_number
  there_accepted =
      let s = batch_stacks in
      or_skip _ _ (first_none (count_of lists) (flag_number lists) (λ i h. passed 1 _ (le-ltb 1 _ (s.flags i (omega (arith, lists-count))))))
      ∙ or_skip _ _ (first_none (count_of lists) (width_number k lists) (λ i h. passed 2 _ (le-ltb 4096 _ (s.widths i (omega (arith, lists-count))))))
      ∙ or_skip _ _
      (or_skip _ _ (first_none (count_of lists) (place_number l n k lists) (λ i h. s.placed i (omega (arith, lists-count))))
      ∙ first_none (min k (count_of lists)) (rise_number lists) (λ b h. s.rises b (omega arith)))
      ∙ or_skip _ _
      (passed 7 _ (ne_eqb (columns_before lists (min k (count_of lists))) 0
      (λ e. let m : min k (count_of lists) ≡ k = omega (arith, lists-count) in omega (arith, s.some, ap (columns_before lists) m))))
      ∙ first_none (length later) (later_number k lists) (λ c h.
      passed 7 _ (ne_eqb (width_there lists (k + c)) 0
      (λ e. omega (arith, there_yes lists (k + c) (omega (arith, lists-count)), s.full (k + c) (omega arith) (omega arith)))))

  pub lists_accepted : lists_number l n counts lists ≡ 0
  unfolding lists_number
  lists_accepted =
      or_skip _ _ (within_limits l n first traces.accepted.0)
      ∙ or_skip _ _ counts_accepted
      ∙ (λ i. there_number l n (counts_are.0 i) (more i) (present_all counts lists lists-long i))
      ∙ there_accepted
    where
      more : length counts - 1 ≡ length later
      more = omega (arith, counts_are.1)
