-- A plan that is not refused can be drawn; and the picture of a plan, refused and drawn.
use Prim.Native.Nat.{ℕ, ◌/◌, min}
use mathlib.Core.Path.{◌≡◌, sym, ap, ◌∙◌}
use mathlib.Core.Bool.{Bool, true, false, cond, false≢true}
use mathlib.Core.List.{List}
use lib.ListN.{length, get_or}
use lib.Pow.{pow_pos}
use Rattle.std.specs.declared.result.Result.{Result}
use Rattle.std.specs.declared.result.Result.TheVariants.{Ok, Err}
use Rattle.std.specs.Prelude.{is_ok}
use Rattle.field.specs.declared.answer.Refusal.{Refusal}
use Rattle.field.specs.declared.answer.Refusal.TheVariants.{LimitExceeded}
use Rattle.field.proofs.Settled.{number_of_done, value_of_done}
use Rattle.layout.specs.declared.stacked_pcs.StackedLayout.{StackedLayout}
use Rattle.layout.specs.Planning.{done_layout, laid_out, planning_number, planned_of}
use Rattle.layout.proofs.Passed.{plan-passed, plan_laid, planned-columns}
use Rattle.layout.proofs.Packing.{width_few}
use Rattle.layout.proofs.Plans.{planning_plan}
use Rattle.text.specs.Printed.{Appended}
use Rattle.plan_text.specs.declared.Reading.{Reading}
use Rattle.plan_text.specs.Steps.{count_of}
use Rattle.plan_text.specs.Planned.{matrices, places_of, planned, plan_of}
use Rattle.plan_text.specs.Printing.{printed}
use Rattle.plan_picture.specs.Picture.{drawn_of, picture_of, Drawable}

abbrev Drawn : ℕ → Result StackedLayout Refusal → Type 0
Drawn l r = (p : StackedLayout) → r ≡ Ok p → Drawable l p.width p.height

module _ (l n : ℕ) (list : List ℕ) where
  done_drawn : (places : ℕ) → planning_number l n list places ≡ 0 → Drawable l (done_layout l n list).width (done_layout l n list).height
  unfolding done_layout
  done_drawn places e =
      let plan = planning_plan l n list places e in
      let laid = plan_laid l n list plan in
      record { skip = laid.shaped.skip; wide = width_few l n list laid (planned-columns l n list (plan-passed l n list plan).0); high = pow_pos _ }

  laid_drawn : (places : ℕ) → Drawn l (planned_of l n list places)
  unfolding planned_of laid_out
  laid_drawn places p e =
      rw (value_of_done _ _ e) at (done_drawn places (number_of_done _ _ e))

module _ (r : Reading) (words : List ℕ) (room : ℕ) where
  plan_drawn : Drawn (get_or words 0 0) (plan_of r words room)
  unfolding plan_of
  plan_drawn = by_case (planned r words)
    where
      list : List ℕ
      list = matrices (count_of r) words

      by_case : (t : Bool) → Drawn (get_or words 0 0) (cond t (planned_of (get_or words 0 0) (get_or words 1 0) list (places_of list room)) (Err LimitExceeded))
      by_case true p e = laid_drawn (get_or words 0 0) (get_or words 1 0) list (places_of list room) p e
      by_case false p e = absurd (false≢true (ap is_ok e))

  pub plan_drawable : {q : Result StackedLayout Refusal} {p : StackedLayout} → q ≡ plan_of r words room → q ≡ Ok p → Drawable (get_or words 0 0) p.width p.height
  plan_drawable {p = p} e h = plan_drawn p (sym e ∙ h)

module _ (l n : ℕ) (records page : List ℕ) (to : ℕ) (last : List ℕ) where
  pub refused_picture : (q : Result StackedLayout Refusal) → is_ok q ≡ false → Appended page 0 (printed q records) to last → Appended page 0 (picture_of l n q records) to last
  unfolding picture_of
  refused_picture (Ok p) h a = absurd (false≢true (sym h))
  refused_picture (Err e) h a = a

  pub drawn_picture : (q : Result StackedLayout Refusal) {p : StackedLayout} (k : ℕ) → q ≡ Ok p → k ≡ min p.columns (length records / 2)
      → Appended page 0 (drawn_of l n p.width p.height records k) to last → Appended page 0 (picture_of l n q records) to last
  unfolding picture_of
  drawn_picture q k h e a = rw h (rw e at a)
