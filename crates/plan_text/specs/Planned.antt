-- The plan of a text that was read: the layout of its numbers, a record of two words a column in the first words of a slice.
use Rattle.std.specs.Prelude.{Result, ℕ, ◌-◌, ◌*◌, ◌/◌, min, Bool, false, cond, List, ◌++◌, length, get_or, take, drop, leb}
use Rattle.std.specs.declared.result.Result.TheVariants.{Err}
use Rattle.field.specs.declared.answer.Refusal.{Refusal}
use Rattle.field.specs.declared.answer.Refusal.TheVariants.{LimitExceeded}
use Rattle.layout.specs.declared.stacked_pcs.StackedLayout.{StackedLayout}
use Rattle.layout.specs.Triples.{column_count}
use Rattle.layout.specs.Planning.{planned_of, planned_into}
use Rattle.plan_text.specs.declared.Reading.{Reading}
use Rattle.plan_text.specs.Steps.{count_of, whole_of}

-- the matrices behind l_skip and n_stack, three words each
unfoldable pub matrices : ℕ → List ℕ → List ℕ
matrices count words = take (count - 2) (drop 2 words)

-- two words for each column of a list, of as many columns as there is room for, at most 4,096
unfoldable pub places_of : List ℕ → ℕ → ℕ
places_of list room = 2 * min (min 4096 (room / 2)) (column_count list)

-- the text is whole, and its numbers stand in the words
unfoldable pub planned : Reading → List ℕ → Bool
planned r words = cond (whole_of r) (leb (count_of r) (length words)) false

-- the plan of the numbers, in a room for records; text of another form is 1
unfoldable pub plan_of : Reading → List ℕ → ℕ → Result StackedLayout Refusal
plan_of r words room =
    cond (planned r words)
    (planned_of (get_or words 0 0) (get_or words 1 0) (matrices (count_of r) words) (places_of (matrices (count_of r) words) room))
    (Err LimitExceeded)

-- the records after it, from the n-th on as they were
unfoldable pub records_in : List ℕ → List ℕ → List ℕ → ℕ → List ℕ
records_in words list records n = planned_into (get_or words 0 0) (get_or words 1 0) list (take n records) ++ drop n records

unfoldable pub records_of : Reading → List ℕ → List ℕ → List ℕ
records_of r words records =
    cond (planned r words)
    (records_in words (matrices (count_of r) words) records (places_of (matrices (count_of r) words) (length records)))
    records
