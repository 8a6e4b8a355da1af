-- The picture of a plan as SVG text; where the plan is refused, what `plan` prints.
use Rattle.std.specs.Prelude.{Result, ℕ, ◌+◌, ◌-◌, ◌*◌, ◌/◌, ◌≤◌, ◌<◌, min, List, [], ◌∷◌, ◌++◌, length, get_or}
use Rattle.std.specs.declared.result.Result.TheVariants.{Ok, Err}
use Rattle.field.specs.declared.answer.Refusal.{Refusal}
use Rattle.layout.specs.declared.stacked_pcs.StackedLayout.{StackedLayout}
use Rattle.text.specs.Template.{bytes_of, instance_of}
use Rattle.plan_text.specs.Printing.{printed}
use Rattle.plan_picture.specs.Scale.{picture_width}
use Rattle.plan_picture.specs.Share.{used_cells, used_share}
use Rattle.plan_picture.specs.Parts.{bar_at, drawn_slice, in_turn}
use Rattle.plan_picture.specs.Texts.{head_text, sentence_text, legend_text, end_text}

unfoldable pub opening_tags : ℕ → List ℕ
opening_tags width = instance_of (bytes_of head_text) (picture_width width ∷ picture_width width ∷ picture_width width ∷ [])

-- stack width, H and the share of used cells in words
unfoldable pub sentence_of : ℕ → ℕ → ℕ → List ℕ
sentence_of width height used =
    instance_of (bytes_of sentence_text) (width ∷ height ∷ used ∷ (width * height) ∷ used_share used (width * height) ∷ [])

unfoldable pub legend_of : ℕ → ℕ → ℕ → ℕ → List ℕ
legend_of l n height columns = instance_of (bytes_of legend_text) (l ∷ n ∷ columns ∷ (height - 1) ∷ [])

-- the first k records in bars
unfoldable pub drawn_of : ℕ → ℕ → ℕ → ℕ → List ℕ → ℕ → List ℕ
drawn_of l n width height records k =
    opening_tags width ++ sentence_of width height (used_cells l records k) ++ legend_of l n height k
    ++ in_turn (bar_at width) width ++ in_turn (λ i. drawn_slice l width height (get_or records (2 * i) 0) (get_or records (2 * i + 1) 0)) k ++ bytes_of end_text

unfoldable pub picture_of : ℕ → ℕ → Result StackedLayout Refusal → List ℕ → List ℕ
picture_of l n (Ok p) records = drawn_of l n p.width p.height records (min p.columns (length records / 2))
picture_of l n (Err e) records = printed (Err e) records

-- what an accepted plan has
pub record Drawable (l width height : ℕ) : Type 0 where
  pub skip : l ≤ 10
  pub wide : width ≤ 4096
  pub high : 0 < height
