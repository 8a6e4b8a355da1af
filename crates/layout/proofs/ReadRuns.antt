-- What `read_lists` says: its lists have no number, and where their length is done too the run is made of what it returns.
use mathlib.Core.Path.{◌≡◌, refl, sym, ◌∙◌, ap}
use mathlib.Core.Bool.{Bool, true, false, cond}
use mathlib.Core.List.{List}
use Prim.Native.Nat.{ℕ}
use lib.Dec.{eqb}
use borrow.Author.Tests.{eq-eqb}
use Rattle.std.specs.declared.result.Result.TheVariants.{Ok}
use Rattle.field.proofs.Settled.{number_of_done, value_of_done}
use Rattle.layout.specs.declared.runs.RunLists.{RunLists}
use Rattle.layout.specs.Answers.{answer_of}
use Rattle.layout.specs.Triples.{column_count}
use Rattle.layout.specs.Placing.{stack_width}
use Rattle.layout.specs.Lists.{first_count, lists_number, lists_length, run_lists}
use Rattle.layout.proofs.Answered.{done_alone}
use Rattle.layout.proofs.RunLaws.{Listed, lists-passed}
use Rattle.layout.specs.Walked.{Walked}

run-cond : (t u : Bool) (x y : RunLists) → t ≡ u → cond t x y ≡ cond u x y
run-cond t u x y e = ap (λ s. cond s x y) e

-- what `read_lists` says
module _ (l n : ℕ) (counts lists : List ℕ) (s : RunLists) (is : run_lists l n counts lists ≡ Ok s) where
  abbrev long : ℕ
  long = lists_length counts lists

  abbrev whole : RunLists
  whole = record { length = answer_of long; first = first_count counts; columns = column_count lists; stacked = stack_width l n (first_count counts) lists }

  abbrev short : RunLists
  short = record { length = answer_of long; first = 0; columns = 0; stacked = 0 }

  pub read_number : lists_number l n counts lists ≡ 0
  unfolding run_lists
  read_number = number_of_done _ _ is

  made : s ≡ cond (eqb long 0) whole short
  unfolding run_lists
  made = sym (value_of_done _ (lists_number l n counts lists) is)

  length_of : (t : Bool) → (cond t whole short).length ≡ answer_of long
  length_of true = refl
  length_of false = refl

  pub read_length : s.length ≡ answer_of (lists_length counts lists)
  read_length = ap (λ (x : RunLists). x.length) made ∙ length_of (eqb long 0)

  module _ {u : Unit {0}} (q : s.length ≡ Ok u) where
    pub read_long : lists_length counts lists ≡ 0
    read_long = done_alone long (sym read_length ∙ q)

    pub read_listed : Listed l n counts lists
    read_listed = lists-passed l n counts lists read_number read_long

    is_whole : s ≡ whole
    is_whole = made ∙ run-cond _ _ _ _ (eq-eqb long 0 read_long)

    pub read_first : s.first ≡ first_count counts
    read_first = ap (λ (x : RunLists). x.first) is_whole

    pub read_columns : s.columns ≡ column_count lists
    read_columns = ap (λ (x : RunLists). x.columns) is_whole

    pub read_stacked : s.stacked ≡ stack_width l n (first_count counts) lists
    read_stacked = ap (λ (x : RunLists). x.stacked) is_whole

    pub read_walked : Walked l n s.first lists s.columns
    read_walked = record { laid = read_listed.laid; all = read_columns }
