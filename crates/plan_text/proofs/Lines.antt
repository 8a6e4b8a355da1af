-- The records printed a line a turn, behind the header.
use Prim.Native.Nat.{ℕ, ◌+◌, ◌/◌, min}
use mathlib.Core.Path.{◌≡◌, refl}
use mathlib.Core.List.{List}
use native.Mathlib.Numerals.{add-one}
use lib.ListN.{length}
use Rattle.std.specs.declared.result.Result.{Result}
use Rattle.std.specs.declared.result.Result.TheVariants.{Ok, Err}
use Rattle.field.specs.declared.answer.Refusal.{Refusal}
use Rattle.field.specs.declared.answer.Refusal.TheVariants.{
  LimitExceeded,
  TooManyColumns,
  HeightNotOneBit,
  LayoutHeightExceeded,
  LayoutRowOverflow,
  HeightsRise,
  NoColumn,
  OutOfTurn,
  WrongLength,
  NotCanonical,
  NoSuchColumn,
  InSkipSubgroup,
  S0Mismatch,
  FinalSumMismatch,
}
use Rattle.field.specs.contracts.answer.Refusal.{the_type}
use denote.Enum.Declared.{tag_of}
use Rattle.field.specs.Number.{refusal_number}
use Rattle.layout.specs.declared.stacked_pcs.StackedLayout.{StackedLayout}
use Rattle.text.specs.declared.writer.Writer.{Writer}
use Rattle.text.specs.Writing.{Put}
use Rattle.text.proofs.Writings.{put_none, put_both}
use Rattle.plan_text.specs.Printing.{refusal, header, record_line, record_lines, printed}

-- no line
pub nothing : (w : Writer) (xs : List ℕ) → Put w (record_lines xs 0) w
unfolding record_lines
nothing w xs = put_none w

pub turn : (u v w : Writer) (xs : List ℕ) (k : ℕ) → Put u (record_lines xs k) v → Put v (record_line xs k) w → Put u (record_lines xs (k + 1)) w
unfolding record_lines
turn u v w xs k p q = rw add-one (put_both u v w (record_lines xs k) (record_line xs k) p q)

-- a refusal as a number
pub tag_number : (e : Refusal) → tag_of the_type e + 1 ≡ refusal_number e
tag_number LimitExceeded = refl
tag_number TooManyColumns = refl
tag_number HeightNotOneBit = refl
tag_number LayoutHeightExceeded = refl
tag_number LayoutRowOverflow = refl
tag_number HeightsRise = refl
tag_number NoColumn = refl
tag_number OutOfTurn = refl
tag_number WrongLength = refl
tag_number NotCanonical = refl
tag_number NoSuchColumn = refl
tag_number InSkipSubgroup = refl
tag_number S0Mismatch = refl
tag_number FinalSumMismatch = refl

module _ (p : Result StackedLayout Refusal) (records : List ℕ) (page last : Writer) where
  pub refused_print : {e : Refusal} → p ≡ Err e → Put page (refusal (refusal_number e)) last → Put page (printed p records) last
  unfolding printed
  refused_print h q = rw h q

  pub planned_print : {layout : StackedLayout} → p ≡ Ok layout → (mid : Writer) (k : ℕ) → k ≡ min layout.columns (length records / 2)
      → Put page (header layout) mid → Put mid (record_lines records k) last → Put page (printed p records) last
  unfolding printed
  planned_print {layout} h mid k m q r =
      rw h (put_both page mid last (header layout) (record_lines records (min layout.columns (length records / 2))) q (rw m at r))
