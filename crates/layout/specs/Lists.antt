-- The lists of a run: `counts` has the matrices of each commitment, `lists` three words a matrix, commitment after commitment.
-- The commitments after the first have one matrix each.
use Rattle.std.specs.Prelude.{ℕ, ◌+◌, ◌-◌, ◌*◌, min, cond, not, ◌&&◌, Result, List, length, get_or, take, ltb, eqb}
use Rattle.field.specs.declared.answer.Refusal.{Refusal}
use Rattle.field.specs.Number.{settled}
use Rattle.layout.specs.Answers.{answer_of}
use Rattle.layout.specs.declared.runs.RunLists.{RunLists}
use Rattle.layout.specs.Checks.{refuse, or_else, first_of}
use Rattle.layout.specs.Triples.{count_of, width_at, columns_before, column_count}
use Rattle.layout.specs.Placing.{stack_width}
use Rattle.layout.specs.Refusals.{limits_number, flags_number, columns_number, laid_number}

-- the matrices of the first commitment
abbrev pub first_count : List ℕ → ℕ
first_count counts = get_or counts 0 0

-- the matrices of all commitments
abbrev pub named : List ℕ → ℕ
named counts = first_count counts + (length counts - 1)

-- the words of the matrices that are named and there
abbrev pub present : List ℕ → List ℕ → List ℕ
present counts lists = take (min (3 * named counts) (length lists)) lists

-- 1: 1 to 16 commitments, 4,096 matrices in the first, one in each after it
unfoldable pub commitment_number : List ℕ → ℕ → ℕ
commitment_number counts c = refuse 1 (ltb 0 c && not (eqb (get_or counts c 0) 1))

unfoldable pub counts_number : List ℕ → ℕ
counts_number counts =
    or_else (refuse 1 (eqb (length counts) 0))
    (or_else (refuse 1 (ltb 16 (length counts)))
    (or_else (refuse 1 (ltb 4096 (first_count counts))) (first_of (length counts) (commitment_number counts))))

-- the width of matrix i, 0 where it is not there
unfoldable pub width_there : List ℕ → ℕ → ℕ
width_there list i = cond (ltb i (count_of list)) (width_at list i) 0

-- 7: a commitment of no column
unfoldable pub later_number : ℕ → List ℕ → ℕ → ℕ
later_number first list c = refuse 7 (eqb (width_there list (first + c)) 0)

unfoldable pub empty_number : ℕ → ℕ → List ℕ → ℕ
empty_number first later list =
    or_else (refuse 7 (eqb (columns_before list (min first (count_of list))) 0)) (first_of later (later_number first list))

-- 1, 2, 4, 5, 6 and 7 of the matrices that are there
unfoldable pub there_number : ℕ → ℕ → ℕ → ℕ → List ℕ → ℕ
there_number l n first later list =
    or_else (flags_number list)
    (or_else (columns_number first list) (or_else (laid_number l n first list) (empty_number first later list)))

unfoldable pub lists_number : ℕ → ℕ → List ℕ → List ℕ → ℕ
lists_number l n counts lists =
    or_else (limits_number l n)
    (or_else (counts_number counts) (there_number l n (first_count counts) (length counts - 1) (present counts lists)))

-- 9: counts and lists disagree
unfoldable pub lists_length : List ℕ → List ℕ → ℕ
lists_length counts lists = refuse 9 (not (eqb (length lists) (3 * named counts)))

-- the answer of the length, and where it is done the matrices of the first commitment, and the columns and stack columns of all
unfoldable pub run_lists : ℕ → ℕ → List ℕ → List ℕ → Result RunLists Refusal
run_lists l n counts lists =
    settled (lists_number l n counts lists)
    (cond (eqb (lists_length counts lists) 0)
    (record {
      length = answer_of (lists_length counts lists);
      first = first_count counts;
      columns = column_count lists;
      stacked = stack_width l n (first_count counts) lists;
    })
    (record { length = answer_of (lists_length counts lists); first = 0; columns = 0; stacked = 0 }))
