-- The answer of each call of a run and the buffers that it leaves, refused or not, as functions of what it was given.
use Rattle.std.specs.Prelude.{ℕ, ◌+◌, ◌-◌, ◌*◌, ◌/◌, ◌^◌, cond, List, ◌==◌}
use Rattle.algebra.specs.Ring.{num}
use Rattle.algebra.specs.Multilinear.{cube_factor}
use Rattle.field.specs.Element.{Elem, F, ◌⊗◌, half_elem, elem_of, words_of}
use Rattle.field.specs.Powers.{root}
use Rattle.field.specs.Slice.{elem_at, elem_words}
use Rattle.tables.specs.FoldPle.{fold_ple}
use Rattle.tables.specs.Points.{coordinates}
use Rattle.layout.specs.Answers.{answer_of}
use Rattle.prover.specs.declared.turns.Turn.{Turn}
use Rattle.prover.specs.declared.stacked_reduction.Step.{Step}
use Rattle.prover.specs.declared.stacked_reduction.RoundPair.{RoundPair}
use Rattle.prover.specs.Written.{elems_from}
use Rattle.prover.specs.RowSum.{from_words}
use Rattle.prover.specs.Rotated.{rotated}
use Rattle.prover.specs.Given.{Given, Work, run, stacked, columns}
use Rattle.prover.specs.Slots.{entries, slot_start, slotted, table_size}
use Rattle.prover.specs.Blocks.{blocks, folded_words}
use Rattle.prover.specs.OwnSum.{tables_of, folded_tables, own_quadratic}
use Rattle.prover.specs.UniKernels.{eq_scale, rot_scale, rot_shift}
use Rattle.prover.specs.Turns.{after}
use Rattle.prover.specs.CallNumbers.{start_number, uni_number, pair_number, fold_number, openings_number}

-- a step of this number: a refused one leaves the turn, an accepted one is one call more
unfoldable pub step_of : ℕ → Turn → Turn → Step
step_of number t next = record { answer = answer_of number; turn = cond (number == 0) next t }

abbrev pub one_more : Turn → Turn
one_more t = after (t.calls + 1)

-- what a call of this number leaves in a slice
unfoldable pub leaves : ℕ → List ℕ → List ℕ → List ℕ
leaves number new old = cond (number == 0) new old

-- the tables of all heights, entry x of height h being f h x
abbrev pub tables : ℕ → ℕ → List ℕ → (ℕ → ℕ → List ℕ) → List ℕ
tables l n lists f = blocks (table_size l n lists) (slotted l lists (l + n + 1) f)

-- Start: unscaled eq tables, the element one as every column's weight, zeros in the rest
unfoldable pub start_values : ℕ → List ℕ
start_values m = elem_words m (λ i. F.zero)

unfoldable pub start_eq : ℕ → ℕ → List ℕ → List ℕ → List ℕ
start_eq l n lists r = tables l n lists (λ h x. words_of (cube_factor F (coordinates r 1 (h - l)) x))

unfoldable pub start_weights : ℕ → List ℕ
start_weights m = elem_words m (λ k. F.one)

unfoldable pub start_work : Given → Work → Work
start_work g w =
    record {
      q = leaves (start_number g w) (start_values (stacked g * 2 ^ g.stack)) w.q;
      eq = leaves (start_number g w) (start_eq g.skip g.stack g.lists g.r) w.eq;
      rot = leaves (start_number g w) (start_values (table_size g.skip g.stack g.lists)) w.rot;
      ub = leaves (start_number g w) (start_weights (columns g)) w.ub;
    }

-- The fold at u_0: every stack column's prism at u_0; the rotation table from the unscaled eq entries, then the eq table of r with the height's factor as
-- its starting element
unfoldable pub uni_values : ℕ → ℕ → List ℕ → Elem → List ℕ
uni_values l m matrices u = elem_words m (fold_ple F half_elem l (root l) (from_words matrices) u)

unfoldable pub uni_eq : Given → Elem → List ℕ
uni_eq g u = tables g.skip g.stack g.lists (λ h x. words_of (eq_scale (run g) h u ⊗ cube_factor F (coordinates g.r 1 (h - g.skip)) x))

module _ (g : Given) (u : Elem) (eq : List ℕ) where
  -- the eq table of height h as it was lent
  abbrev pub lent : ℕ → ℕ → Elem
  lent h = elems_from eq (slot_start g.skip g.lists h)

  unfoldable pub uni_rot : List ℕ
  uni_rot =
      tables g.skip g.stack g.lists (λ h x.
      words_of (rotated (2 ^ (h - g.skip)) (lent h) (rot_scale (run g) h u) (rot_shift (run g) h u) x))

unfoldable pub uni_work : Given → Turn → List ℕ → List ℕ → Work → Work
uni_work g t matrices u w =
    record {
      q = leaves (uni_number g t matrices u w) (uni_values g.skip (stacked g * 2 ^ g.stack) matrices (elem_of u)) w.q;
      eq = leaves (uni_number g t matrices u w) (uni_eq g (elem_of u)) w.eq;
      rot = leaves (uni_number g t matrices u w) (uni_rot g (elem_of u) w.eq) w.rot;
      ub = w.ub;
    }

-- The fold of round j: each live list's next variable put at u
unfoldable pub fold_values : ℕ → ℕ → ℕ → Elem → List ℕ → List ℕ
fold_values n width j u q = blocks (width * 2 ^ n) (folded_words q 0 (width * 2 ^ (n - j)) u)

-- a height's table has entries / 2^j values left, none where it had one entry before
unfoldable pub fold_tables : ℕ → ℕ → List ℕ → ℕ → Elem → List ℕ → List ℕ
fold_tables l n lists j u t = tables l n lists (λ h. folded_words t (slot_start l lists h) (entries l lists h / 2 ^ j) u)

unfoldable pub fold_weights : Given → ℕ → Elem → Work → List ℕ
fold_weights g j u w = elem_words (columns g) (folded_tables (run g) j u (tables_of g.skip g.lists w)).weight

unfoldable pub fold_work : Given → Turn → ℕ → List ℕ → Work → Work
fold_work g t j u w =
    record {
      q = leaves (fold_number g t j u w) (fold_values g.stack (stacked g) j (elem_of u) w.q) w.q;
      eq = leaves (fold_number g t j u w) (fold_tables g.skip g.stack g.lists j (elem_of u) w.eq) w.eq;
      rot = leaves (fold_number g t j u w) (fold_tables g.skip g.stack g.lists j (elem_of u) w.rot) w.rot;
      ub = leaves (fold_number g t j u w) (fold_weights g j (elem_of u) w) w.ub;
    }

-- The pair of round j: the values at 1 and 2 of the buffers' own sum with the next variable free; zeros where refused
unfoldable pub pair_value : Given → ℕ → Work → ℕ → Elem → Elem
pair_value g j w number x = cond (number == 0) (own_quadratic (run g) j (tables_of g.skip g.lists w) x) F.zero

unfoldable pub pair_of : Given → Turn → ℕ → Work → ℕ → RoundPair
pair_of g t j w number =
    record {
      answer = answer_of number;
      turn = cond (number == 0) (one_more t) t;
      one = words_of (pair_value g j w number F.one);
      two = words_of (pair_value g j w number (num F 2));
    }

-- The openings: the one value left of each stack column
unfoldable pub openings_out : Given → Turn → List ℕ → Work → List ℕ
openings_out g t out w = leaves (openings_number g t out w) (elem_words (stacked g) (elem_at w.q)) out

-- The step of each call: its answer and the turn after it, and a pair's values
abbrev pub start_step : Given → Turn → Work → Step
start_step g t w = step_of (start_number g w) t (after 1)

abbrev pub uni_step : Given → Turn → List ℕ → List ℕ → Work → Step
uni_step g t matrices u w = step_of (uni_number g t matrices u w) t (one_more t)

abbrev pub pair_step : Given → Turn → ℕ → Work → RoundPair
pair_step g t j w = pair_of g t j w (pair_number g t j w)

abbrev pub fold_step : Given → Turn → ℕ → List ℕ → Work → Step
fold_step g t j u w = step_of (fold_number g t j u w) t (one_more t)

abbrev pub openings_step : Given → Turn → List ℕ → Work → Step
openings_step g t out w = step_of (openings_number g t out w) t (one_more t)
