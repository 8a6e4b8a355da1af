-- Document 01's number of each call of a run: the lowest that holds. 1, 2, 4 to 7 of the lists, then 8, 9 and 10. No u_0 of words below p is refused.
use Rattle.std.specs.declared.result.Result.TheVariants.{Err}
use Rattle.std.specs.Prelude.{◌≡◌, Result, MatchResult, ℕ, zero, suc, ◌+◌, ◌-◌, ◌*◌, ◌/◌, ◌^◌, max, Bool, true, cond, not, ◌&&◌, List, length, ◌==◌}
use Rattle.field.specs.Slice.{canonical_words, canonical_four}
use Rattle.field.specs.declared.answer.Refusal.{Refusal}
use Rattle.layout.specs.Answers.{answer_of}
use Rattle.layout.specs.Checks.{refuse, or_else, length_number, word_number}
use Rattle.layout.specs.Lists.{first_count, lists_number, lists_length}
use Rattle.weights.specs.LambdaPowers.{claims_before}
use Rattle.prover.specs.declared.plans.Plan.{Plan}
use Rattle.prover.specs.declared.turns.Turn.{Turn}
use Rattle.prover.specs.Given.{Given, Work, run, stacked, columns}
use Rattle.prover.specs.Slots.{entries, slot_start, table_size, Slots}
use Rattle.prover.specs.Blocks.{part}
use Rattle.prover.specs.Turns.{first_turn, uni_turn, pair_turn, fold_turn, openings_turn}

-- r is n_stack + 1 elements, the work buffers 2^n_stack elements a stack column, one an entry of the tables (twice), one a column
unfoldable pub lengths_number : ℕ → ℕ → ℕ → ℕ → ℕ → ℕ → ℕ → ℕ → ℕ → ℕ
lengths_number n values size count r q eq rot ub =
    or_else (length_number r (4 * (n + 1)))
    (or_else (length_number q (4 * values))
    (or_else (length_number eq (4 * size)) (or_else (length_number rot (4 * size)) (length_number ub (4 * count)))))

-- a call's lists, its turn and the lengths of r and the work buffers
unfoldable pub called_number : Given → Bool → ℕ → ℕ → ℕ → ℕ → ℕ → ℕ
called_number g turned r q eq rot ub =
    or_else (lists_number g.skip g.stack g.counts g.lists)
    (or_else (refuse 8 (not turned))
    (or_else (lists_length g.counts g.lists)
    (lengths_number g.stack (stacked g * 2 ^ g.stack) (table_size g.skip g.stack g.lists) (columns g) r q eq rot ub)))

abbrev pub given_number : Given → Bool → Work → ℕ
given_number g turned w = called_number g turned (length g.r) (length w.q) (length w.eq) (length w.rot) (length w.ub)

-- what these checks leave where their number is 0: what the run is made of
pub record Planned (g : Given) (number : ℕ) (s : Plan) : Type 0 where
  pub passed : number ≡ 0
  pub is_first : s.first ≡ first_count g.counts
  pub is_columns : s.columns ≡ columns g
  pub is_stacked : s.stacked ≡ stacked g
  pub is_slots : Slots g.skip g.stack g.lists s.slots

-- and else the refusal
abbrev pub IsPlan : Given → ℕ → Result Plan Refusal → Type 0
IsPlan g number r = MatchResult r (Planned g number) (λ e. answer_of number ≡ Err e)

-- the words that every call takes
unfoldable pub point_number : List ℕ → List ℕ → ℕ
point_number r lambda = or_else (word_number r) (refuse 10 (not (canonical_four lambda)))

-- the entries that are left of a table of e entries after j folds
unfoldable pub live : ℕ → ℕ → ℕ
live e j = cond (e == 0) 0 (max 1 (e / 2 ^ j))

-- the tables of the heights below m, after j folds
unfoldable pub live_tables : ℕ → List ℕ → ℕ → List ℕ → ℕ → Bool
live_tables l lists j t zero = true
live_tables l lists j t (suc h) = live_tables l lists j t h && canonical_words (part t (slot_start l lists h) (live (entries l lists h) j))

-- 10 in the live part of the work buffers, after j folds
unfoldable pub live_number : ℕ → ℕ → List ℕ → ℕ → ℕ → Work → ℕ
live_number l n lists width j w =
    or_else (word_number (part w.q 0 (width * 2 ^ (n - j))))
    (or_else (refuse 10 (not (live_tables l lists j w.eq (l + n + 1))))
    (or_else (refuse 10 (not (live_tables l lists j w.rot (l + n + 1)))) (word_number w.ub)))

unfoldable pub start_number : Given → Work → ℕ
start_number g w = or_else (given_number g true w) (point_number g.r g.lambda)

-- the fold at u_0 takes the stacked matrices, u_0 and the eq tables
unfoldable pub uni_words : ℕ → ℕ → ℕ → List ℕ → List ℕ → List ℕ → List ℕ → List ℕ → ℕ
uni_words l n width r lambda matrices u eq =
    or_else (length_number (length matrices) (width * 2 ^ (l + n)))
    (or_else (point_number r lambda)
    (or_else (refuse 10 (not (canonical_four u)))
    (or_else (word_number matrices) (word_number eq))))

unfoldable pub uni_number : Given → Turn → List ℕ → List ℕ → Work → ℕ
uni_number g t matrices u w =
    or_else (given_number g (uni_turn t) w) (uni_words g.skip g.stack (stacked g) g.r g.lambda matrices u w.eq)

-- a call of round j
unfoldable pub round_number : Given → Bool → ℕ → Work → ℕ
round_number g turned j w =
    or_else (given_number g turned w)
    (or_else (point_number g.r g.lambda) (live_number g.skip g.stack g.lists (stacked g) (j - 1) w))

abbrev pub pair_number : Given → Turn → ℕ → Work → ℕ
pair_number g t j w = round_number g (pair_turn g.stack j t) j w

unfoldable pub fold_number : Given → Turn → ℕ → List ℕ → Work → ℕ
fold_number g t j u w = or_else (round_number g (fold_turn g.stack j t) j w) (refuse 10 (not (canonical_four u)))

-- the openings take the one value left of each stack column
unfoldable pub openings_words : ℕ → List ℕ → List ℕ → ℕ → List ℕ → ℕ
openings_words width r lambda out q =
    or_else (length_number out (4 * width)) (or_else (point_number r lambda) (word_number (part q 0 width)))

unfoldable pub openings_number : Given → Turn → List ℕ → Work → ℕ
openings_number g t out w =
    or_else (given_number g (openings_turn g.stack t) w) (openings_words (stacked g) g.r g.lambda (length out) w.q)

-- The first polynomial and the trace columns' openings are made from lists, r, lambda and the stacked matrices alone, with no work buffer: their
-- lists and turn, then the lengths of r, of the matrices and of the slice that is lent for the result, then the words.
unfoldable pub listed_number : Given → Bool → ℕ
listed_number g turned =
    or_else (lists_number g.skip g.stack g.counts g.lists) (or_else (refuse 8 (not turned)) (lists_length g.counts g.lists))

unfoldable pub made_words : ℕ → ℕ → ℕ → ℕ → List ℕ → List ℕ → List ℕ → ℕ → ℕ
made_words l n width asked r lambda matrices out =
    or_else (length_number (length r) (4 * (n + 1)))
    (or_else (length_number (length matrices) (width * 2 ^ (l + n)))
    (or_else (length_number out asked) (or_else (point_number r lambda) (word_number matrices))))

unfoldable pub made_number : Given → Bool → ℕ → List ℕ → ℕ → ℕ
made_number g turned asked matrices out =
    or_else (listed_number g turned) (made_words g.skip g.stack (stacked g) asked g.r g.lambda matrices out)

-- four words a coefficient, four a claim
abbrev pub coefficients_asked : Given → ℕ
coefficients_asked g = 4 * (2 ^ (g.skip + 1) - 1)

abbrev pub claims_asked : Given → ℕ
claims_asked g = 4 * claims_before (run g) (columns g)

-- the first polynomial in its turn; the openings have none
abbrev pub first_number : Given → Turn → List ℕ → List ℕ → ℕ
first_number g t matrices out = made_number g (first_turn t) (coefficients_asked g) matrices (length out)

abbrev pub claims_number : Given → List ℕ → List ℕ → ℕ
claims_number g matrices out = made_number g true (claims_asked g) matrices (length out)
