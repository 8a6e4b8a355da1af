-- The walk over the columns that adds up a block's part of a round's pair, and the blocks after one another, over plain variables.
use Rattle.std.proofs.Common.{◌≡◌, ℕ, ◌+◌, ◌-◌, ◌*◌, ◌/◌, ◌%◌, ◌^◌, ◌<◌, ◌≤◌, cond, eqb, Option, Some, List, get_or, sym, refl, ap, ◌∙◌, subst, ap₂, arith, pow_pos, pow_mono, eq-eqb, ne_eqb}
use mathlib.Core.Path.{subst⁻¹}
use native.Mathlib.Decide.{dec_le, ℕ_discrete}
use Rattle.algebra.specs.Ring.{pow, num}
use Rattle.algebra.specs.Sum.{sum}
use Rattle.algebra.proofs.Powers.{shift_exact}
use Rattle.algebra.proofs.Sums.{sum_cong_below, sum-mul, sum_split, sum_none, sum_swap}
use Rattle.algebra.proofs.RingLaws.{mul-zero}
use Rattle.field.specs.Element.{Elem, F, ◌⊕◌, ◌⊗◌, elem_of, words_of}
use Rattle.field.specs.Slice.{elem_at}
use Rattle.field.proofs.Elements.{elem_of_words}
use Rattle.layout.specs.Triples.{column_count}
use Rattle.layout.specs.declared.columns.Column.{Column}
use Rattle.layout.specs.Columns.{column_at, walk_next}
use Rattle.layout.proofs.ColumnWalks.{walk_turn}
use Rattle.weights.specs.RunOf.{run_of}
use Rattle.weights.specs.LambdaPowers.{plain_power}
use Rattle.weights.proofs.PowerWalks.{sum_start, sum_turn, power_turn}
use Rattle.prover.specs.declared.sumcheck.Evals.{Evals}
use Rattle.prover.specs.Given.{work}
use Rattle.prover.specs.Written.{elems_from}
use Rattle.prover.specs.RoundValues.{Values}
use Rattle.prover.specs.PointBlocks.{column_points, column_block, block_term, block_sum, Ready, Idle}
use Rattle.prover.specs.OwnSum.{Tables, tables_of, own_term, own_sum, folded_tables, own_quadratic}
use Rattle.prover.specs.Live.{Placed, LiveRound}
use Rattle.prover.proofs.OwnTerms.{own_column}
use Rattle.prover.proofs.ColumnPairs.{values_cong}
use Rattle.prover.proofs.ColumnBlocks.{points_later, block_idle}
use Rattle.prover.proofs.WholeRounds.{column_round}
use Rattle.prover.proofs.BlockRounds.{column-blocks}

pub among : {k m n : ℕ} → k < m → m ≤ n → k < n
among h l = omega arith

-- the weights that are there, and those that a column asks for
abbrev pub ready_for : (l j b log flag : ℕ) (lambda : Elem) (slots eq rot one two : List ℕ) → Type 0
ready_for l j b log flag lambda slots eq rot one two =
    Ready (column_points l j log b) flag lambda (elems_from eq (get_or slots log 0 + 512 * b)) (elems_from rot (get_or slots log 0 + 512 * b)) one two

module _ {l n j stacked : ℕ} {lists slots q eq rot : List ℕ} (live : LiveRound l n lists stacked slots j q eq rot) (b : ℕ) (lambda : Elem) {one two : List ℕ} where
  pub ready_known : (log : ℕ) {flag m : ℕ} → m ≡ column_points l j log b → ready_for l j b log flag lambda slots eq rot one two
      → Ready m flag lambda (elems_from eq (get_or slots log 0 + 512 * b)) (elems_from rot (get_or slots log 0 + 512 * b)) one two
  ready_known log {flag} e r = subst⁻¹ (λ i. Ready i flag lambda (elems_from eq (get_or slots log 0 + 512 * b)) (elems_from rot (get_or slots log 0 + 512 * b)) one two) e r

  pub ready_next : (log : ℕ) {flag m : ℕ} → m ≡ column_points l j log b → Ready m flag lambda (elems_from eq (get_or slots log 0 + 512 * b)) (elems_from rot (get_or slots log 0 + 512 * b)) one two
      → (log' flag' : ℕ) → ◌≡◌ {A = Option (ℕ × ℕ)} (Some (log, flag)) (Some (log', flag')) → ready_for l j b log' flag' lambda slots eq rot one two
  ready_next log {flag} e r log' flag' s =
      let same : ◌≡◌ {A = ℕ × ℕ} (log, flag) (log', flag') = cc in
      subst (λ (q : ℕ × ℕ). ready_for l j b q.0 q.1 lambda slots eq rot one two) same
      (subst (λ m. Ready m flag lambda (elems_from eq (get_or slots log 0 + 512 * b)) (elems_from rot (get_or slots log 0 + 512 * b)) one two) e r)

module _ (l n first : ℕ) (lists slots : List ℕ) (lambda : Elem) (j : ℕ) (q eq rot ub : List ℕ) (b : ℕ) where
  abbrev term : Elem → ℕ → Elem
  term x = block_term l n first lists slots lambda j q eq rot ub b x

  -- the first k columns
  pub record Paired (k : ℕ) (one two : List ℕ) : Type 0 where
    pub at_one : one ≡ words_of (sum F k (term F.one))
    pub at_two : two ≡ words_of (sum F k (term (num F 2)))

  pub paired_start : {a c : List ℕ} → a ≡ words_of F.zero → c ≡ words_of F.zero → Paired 0 a c
  paired_start e f = record { at_one = sum_start (term F.one) e; at_two = sum_start (term (num F 2)) f }

  pub paired_end : {k m : ℕ} {a c : List ℕ} → k ≡ m → Paired k a c → Values (block_sum l n first lists slots lambda j q eq rot ub m b) (record { one = a; two = c })
  unfolding block_sum
  paired_end e p =
      record { at_one = p.at_one ∙ ap (λ m. words_of (sum F m (term F.one))) e; at_two = p.at_two ∙ ap (λ m. words_of (sum F m (term (num F 2)))) e }

  -- what a column's part is, wherever the walk stands
  abbrev part_of : Column → Elem → Elem
  part_of c = column_block l j c.start c.log c.flag lambda (elem_at q) (elems_from eq (get_or slots c.log 0)) (elems_from rot (get_or slots c.log 0)) b

  pub paired_turn : (k : ℕ) {one two power weight a d : List ℕ} {c : Column} {t : Evals} → Paired k one two → c ≡ column_at l n first lists k → power ≡ words_of (pow F lambda (2 * k))
      → Values (part_of c) t → weight ≡ words_of (elem_at ub k)
      → a ≡ words_of (elem_of one ⊕ elem_of power ⊗ elem_of weight ⊗ elem_of t.one) → d ≡ words_of (elem_of two ⊕ elem_of power ⊗ elem_of weight ⊗ elem_of t.two)
      → Paired (k + 1) a d
  unfolding block_term
  paired_turn k {one} {two} {power} {weight} {a} {d} {c} {t} p e ep v ew ea ed = record {
    at_one = sum_turn (term F.one) k p.at_one (column F.one moved.at_one) (ea ∙ again one t.one);
    at_two = sum_turn (term (num F 2)) k p.at_two (column (num F 2) moved.at_two) (ed ∙ again two t.two);
  }
    where
      moved : Values (part_of (column_at l n first lists k)) t
      moved = subst (λ (x : Column). Values (part_of x) t) e v

      again : (s x : List ℕ) → words_of (elem_of s ⊕ elem_of power ⊗ elem_of weight ⊗ elem_of x) ≡ words_of (elem_of s ⊕ elem_of (words_of (elem_of power ⊗ elem_of weight ⊗ elem_of x)))
      again s x = ap (λ z. words_of (elem_of s ⊕ z)) (sym (elem_of_words _ refl))

      column : (x : Elem) {y : List ℕ} → y ≡ words_of (part_of (column_at l n first lists k) x) → words_of (elem_of power ⊗ elem_of weight ⊗ elem_of y) ≡ words_of (term x k)
      column x {y} ey = ap₂ (λ u v. words_of (u ⊗ v)) (ap₂ ◌⊗◌ (elem_of_words _ ep) (elem_of_words _ ew)) (elem_of_words _ ey)

-- the columns that have no points in the next block, as the walk finds them
pub idle_turn : (l n first : ℕ) (lists : List ℕ) (j b : ℕ) {next k far later : ℕ} {c : Column} → Idle l n first lists j b next k → c ≡ column_at l n first lists k → later ≡ column_points l j c.log b
    → far ≡ cond (eqb later 0) next (k + 1) → Idle l n first lists j b far (k + 1)
idle_turn l n first lists j b {next} {k} {far} {later} {c} idle e f g i h o = by_case (ℕ_discrete later 0)
  where
    by_case : Dec (later ≡ 0) → column_points l j (column_at l n first lists i).log b ≡ 0
    by_case (yes z) = here (ℕ_discrete i k)
      where
        same : far ≡ next
        same = g ∙ rw (eq-eqb later 0 z) refl

        here : Dec (i ≡ k) → column_points l j (column_at l n first lists i).log b ≡ 0
        here (yes q) = ap (λ m. column_points l j (column_at l n first lists m).log b) q ∙ ap (λ (x : Column). column_points l j x.log b) (sym e) ∙ sym f ∙ z
        here (no q) = idle i (omega (arith, same)) (omega arith)
    by_case (no z) = absurd (let same : far ≡ k + 1 = g ∙ rw (ne_eqb later 0 z) refl in omega arith)

pub far_small : (later : ℕ) {next k far : ℕ} → next ≤ k → far ≡ cond (eqb later 0) next (k + 1) → far ≤ k + 1
far_small later {next} {k} {far} h g = by_case (ℕ_discrete later 0)
  where
    by_case : Dec (later ≡ 0) → far ≤ k + 1
    by_case (yes z) = let same : far ≡ next = g ∙ rw (eq-eqb later 0 z) refl in omega arith
    by_case (no z) = let same : far ≡ k + 1 = g ∙ rw (ne_eqb later 0 z) refl in omega arith

-- what the loop over a block's columns keeps: the next of them, its power, the sums, the weights that are there, and the columns that the next block reaches
module _ (l n first : ℕ) (lists slots lambda : List ℕ) (j b reach : ℕ) (q eq rot ub : List ℕ) where
  pub record Walking (one two power at_one at_two : List ℕ) (made : Option (ℕ × ℕ)) (c : Column) (next k : ℕ) : Type 0 where
    pub inside : k ≤ reach
    pub column : c ≡ column_at l n first lists k
    pub power_is : power ≡ words_of (pow F (elem_of lambda) (2 * k))
    pub paired : Paired l n first lists slots (elem_of lambda) j q eq rot ub b k one two
    pub ready : (log flag : ℕ) → made ≡ Some (log, flag) → ready_for l j b log flag (elem_of lambda) slots eq rot at_one at_two
    pub near : next ≤ k
    pub idle : Idle l n first lists j (b + 1) next k

pub walking_turn : {l n first columns stacked j reach : ℕ} {lists slots q eq rot : List ℕ} (lambda ub : List ℕ) (b : ℕ) → Placed l n first lists columns stacked
    → LiveRound l n lists stacked slots j q eq rot → reach ≤ columns → {one two power at_one at_two one' two' step weight a d p : List ℕ} {made : Option (ℕ × ℕ)} {next k points later far : ℕ} {c c' : Column} {t : Evals}
    → Walking l n first lists slots lambda j b reach q eq rot ub one two power at_one at_two made c next k → k < reach → step ≡ words_of (elem_of lambda ⊗ elem_of lambda)
    → points ≡ column_points l j c.log b
    → Ready points c.flag (elem_of lambda) (elems_from eq (get_or slots c.log 0 + 512 * b)) (elems_from rot (get_or slots c.log 0 + 512 * b)) one' two'
    → Values (part_of l n first lists slots (elem_of lambda) j q eq rot ub b c) t → weight ≡ words_of (elem_at ub k)
    → a ≡ words_of (elem_of one ⊕ elem_of power ⊗ elem_of weight ⊗ elem_of t.one) → d ≡ words_of (elem_of two ⊕ elem_of power ⊗ elem_of weight ⊗ elem_of t.two) → p ≡ words_of (elem_of power ⊗ elem_of step)
    → later ≡ column_points l j c.log (b + 1) → far ≡ cond (eqb later 0) next (k + 1) → c' ≡ walk_next l n first lists c
    → Walking l n first lists slots lambda j b reach q eq rot ub a d p one' two' (Some (c.log, c.flag)) c' far (k + 1)
walking_turn lambda ub b placed live most {later = later} w h es en r v ew ea ed ep el ef ec = record {
  inside = omega arith;
  column = walk_turn placed.walked _ _ _ (among h most) w.column ec;
  power_is = power_turn _ _ w.power_is es ep;
  paired = paired_turn _ _ _ _ _ _ _ _ _ _ _ _ _ w.paired w.column w.power_is v ew ea ed;
  ready = ready_next live b (elem_of lambda) _ en r;
  near = far_small later w.near ef;
  idle = idle_turn _ _ _ _ _ _ w.idle w.column el ef;
}

-- past the columns that are reached nothing is left
module _ (l n first : ℕ) (lists slots : List ℕ) (lambda : Elem) (j : ℕ) (q eq rot ub : List ℕ) (b : ℕ) where
  pub reached : {m k : ℕ} → m ≤ k → ((i : ℕ) → m ≤ i → i < k → (b ≡ 0 → ⊥) × (column_points l j (column_at l n first lists i).log b ≡ 0)) → (x : Elem)
      → block_sum l n first lists slots lambda j q eq rot ub m b x ≡ block_sum l n first lists slots lambda j q eq rot ub k b x
  unfolding block_sum block_term
  reached {m} {k} h idle x =
      sym (F.add_zero _)
      ∙ ap (λ u. sum F m (block_term l n first lists slots lambda j q eq rot ub b x) ⊕ u)
      (sym (sum_none F (k - m) (λ i. block_term l n first lists slots lambda j q eq rot ub b x (m + i)) (λ i o.
      let z = idle (m + i) (omega arith) (omega arith) in
      ap (λ u. pow F lambda (2 * (m + i)) ⊗ elem_at ub (m + i) ⊗ u) (block_idle l j _ _ _ lambda _ _ _ b x z.0 z.1) ∙ mul-zero F _)))
      ∙ sym (sum_split F m (k - m) (block_term l n first lists slots lambda j q eq rot ub b x))
      ∙ ap (λ i. sum F i (block_term l n first lists slots lambda j q eq rot ub b x)) {x = m + (k - m)} {y = k} (omega arith)

  pub reached_values : {m k : ℕ} {t : Evals} → m ≤ k → ((i : ℕ) → m ≤ i → i < k → (b ≡ 0 → ⊥) × (column_points l j (column_at l n first lists i).log b ≡ 0))
      → Values (block_sum l n first lists slots lambda j q eq rot ub m b) t → Values (block_sum l n first lists slots lambda j q eq rot ub k b) t
  reached_values h idle v = values_cong (reached h idle) v

-- the next block reaches no further
pub idle_next : (l n first : ℕ) (lists : List ℕ) (j b : ℕ) {far m k : ℕ} → Idle l n first lists j (b + 1) far m → ((i : ℕ) → m ≤ i → i < k → (b ≡ 0 → ⊥) × (column_points l j (column_at l n first lists i).log b ≡ 0))
    → (i : ℕ) → far ≤ i → i < k → (b + 1 ≡ 0 → ⊥) × (column_points l j (column_at l n first lists i).log (b + 1) ≡ 0)
idle_next l n first lists j b {far} {m} {k} new old i h o = (λ z. omega arith, by_case (dec_le m i))
  where
    by_case : Dec (m ≤ i) → column_points l j (column_at l n first lists i).log (b + 1) ≡ 0
    by_case (yes p) = points_later l j _ b (old i p o).1
    by_case (no p) = new i h (omega arith)

-- the blocks of a round, each the sum over all columns
module _ (l n first : ℕ) (lists : List ℕ) (lambda q eq rot ub : List ℕ) (j : ℕ) (point : List ℕ) where
  abbrev tables : Tables
  tables = tables_of l lists (work q eq rot ub)

  -- column k's term at x
  abbrev own : Elem → ℕ → Elem
  own x = own_term (run_of l n first lists point lambda) j (folded_tables (run_of l n first lists point lambda) j x tables)

  module _ {columns stacked : ℕ} {slots : List ℕ} (placed : Placed l n first lists columns stacked) (live : LiveRound l n lists stacked slots j q eq rot) (B : ℕ) (some : 1 ≤ B) (room : 2 ^ (n - j) ≤ 256 * B) where
    module _ (k : ℕ) (inside : k < column_count lists) where
      abbrev here : Column
      here = column_at l n first lists k

      own_is : (x : Elem) → own x k
          ≡ pow F (elem_of lambda) (2 * k) ⊗ elem_at ub k ⊗ column_round l j here.start here.log here.flag (elem_of lambda) (elem_at q) (elems_from eq (get_or slots here.log 0)) (elems_from rot (get_or slots here.log 0)) x
      unfolding plain_power tables_of
      own_is x =
          own_column (run_of l n first lists point lambda) j k x tables (placed.fits k inside) live.from live.to
          ∙ ap (λ a. pow F (elem_of lambda) (2 * k) ⊗ elem_at ub k ⊗ column_round l j here.start here.log here.flag (elem_of lambda) (elem_at q) (elems_from eq a) (elems_from rot a) x)
          (sym (live.starts.starts here.log (let f = (placed.fits k inside).log in omega arith)))

      enough : j ≤ here.log - l → 2 ^ (here.log - l - j) ≤ 256 * B
      enough o =
          let f = (placed.fits k inside).log in
          let m : 2 ^ (here.log - l - j) ≤ 2 ^ (n - j) = pow_mono {i = here.log - l - j} {j = n - j} (omega arith) in
          omega (arith, m, room)

      column_is : (x : Elem) → sum F B (λ b. block_term l n first lists slots (elem_of lambda) j q eq rot ub b x k) ≡ own x k
      unfolding block_term
      column_is x =
          sum-mul F B (pow F (elem_of lambda) (2 * k) ⊗ elem_at ub k) (λ b. column_block l j here.start here.log here.flag (elem_of lambda) (elem_at q) (elems_from eq (get_or slots here.log 0)) (elems_from rot (get_or slots here.log 0)) b x)
          ∙ ap (λ u. pow F (elem_of lambda) (2 * k) ⊗ elem_at ub k ⊗ u) (column-blocks l j here.start here.log here.flag (elem_of lambda) (elem_at q) (elems_from eq (get_or slots here.log 0)) (elems_from rot (get_or slots here.log 0)) B x some enough)
          ∙ sym (own_is x)

    pub blocks_are : (x : Elem) → sum F B (λ b. block_sum l n first lists slots (elem_of lambda) j q eq rot ub columns b x) ≡ own_quadratic (run_of l n first lists point lambda) j tables x
    unfolding block_sum own_quadratic own_sum
    blocks_are x =
        sum_swap F B columns (λ b k. block_term l n first lists slots (elem_of lambda) j q eq rot ub b x k)
        ∙ sum_cong_below F columns (λ k h. column_is k (omega (arith, placed.walked.all)) x) ∙ ap (λ m. sum F m (own x)) placed.walked.all

-- the loop over the blocks
module _ (f : ℕ → Elem → Elem) where
  pub record Rounded (b : ℕ) (one two : List ℕ) : Type 0 where
    pub at_one : one ≡ words_of (sum F b (λ i. f i F.one))
    pub at_two : two ≡ words_of (sum F b (λ i. f i (num F 2)))

  pub rounded_start : {a c : List ℕ} → a ≡ words_of F.zero → c ≡ words_of F.zero → Rounded 0 a c
  rounded_start e g = record { at_one = sum_start (λ i. f i F.one) e; at_two = sum_start (λ i. f i (num F 2)) g }

  pub rounded_turn : {b : ℕ} {one two a c : List ℕ} {t : Evals} → Rounded b one two → Values (f b) t → a ≡ words_of (elem_of one ⊕ elem_of t.one) → c ≡ words_of (elem_of two ⊕ elem_of t.two) → Rounded (b + 1) a c
  rounded_turn {b} p v ea ec = record { at_one = sum_turn (λ i. f i F.one) b p.at_one v.at_one ea; at_two = sum_turn (λ i. f i (num F 2)) b p.at_two v.at_two ec }

  pub rounded_end : {b m : ℕ} {one two : List ℕ} {g : Elem → Elem} → b ≤ m → m ≤ b → Rounded b one two → ((x : Elem) → sum F m (λ i. f i x) ≡ g x) → Values g (record { one = one; two = two })
  rounded_end {b} {m} h k p e = record {
    at_one = p.at_one ∙ ap (λ n. words_of (sum F n (λ i. f i F.one))) {x = b} {y = m} (omega arith) ∙ ap words_of (e F.one);
    at_two = p.at_two ∙ ap (λ n. words_of (sum F n (λ i. f i (num F 2)))) {x = b} {y = m} (omega arith) ∙ ap words_of (e (num F 2));
  }

-- all blocks of a round
pub round_values : {l n first columns stacked j B b : ℕ} {lists slots w q eq rot one two : List ℕ} (lambda ub point : List ℕ) → Placed l n first lists columns stacked → LiveRound l n lists stacked slots j q eq rot
    → 1 ≤ B → 2 ^ (n - j) ≤ 256 * B → w ≡ words_of (elem_of lambda) → b ≤ B → B ≤ b → Rounded (block_sum l n first lists slots (elem_of w) j q eq rot ub columns) b one two
    → Values (own_quadratic (run_of l n first lists point lambda) j (tables_of l lists (work q eq rot ub))) (record { one = one; two = two })
round_values {l} {n} {first} {columns} {stacked} {j} {B} {b} {lists} {slots} {w} {q} {eq} {rot} lambda ub point placed live some room e h k p =
    rounded_end (block_sum l n first lists slots (elem_of w) j q eq rot ub columns) h k p
    (λ x. ap (λ v. sum F B (λ i. block_sum l n first lists slots v j q eq rot ub columns i x)) (elem_of_words _ e) ∙ blocks_are l n first lists lambda q eq rot ub j point placed live B some room x)

-- the number of blocks, as the code has it
module _ (n j : ℕ) (h : n ≤ 20) where
  abbrev most : ℕ
  most = 1 * 2 ^ (n - j) % 18446744073709551616

  most_is : most ≡ 2 ^ (n - j)
  most_is = shift_exact (n - j) 64 (omega arith)

  most_small : 2 ^ (n - j) ≤ 2 ^ 20
  most_small = pow_mono {i = n - j} {j = 20} (omega arith)

  pub blocks_fit : most + 255 < 2 ^ 64
  blocks_fit = omega (arith, most_is, most_small)

  pub blocks-some : 1 ≤ (most + 255) / 256
  blocks-some = omega (arith, most_is, pow_pos (n - j))

  pub blocks_enough : 2 ^ (n - j) ≤ 256 * ((most + 255) / 256)
  blocks_enough = omega (arith, most_is)

  pub blocks_few : {b : ℕ} → b < (most + 255) / 256 → b < 2 ^ 20
  blocks_few k = omega (arith, most_is, most_small)
