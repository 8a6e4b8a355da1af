-- Runs at the field: the hypotheses that the laws ask hold, raised generators are those of the smaller orders, and both sentences on the verdict.
use mathlib.Core.Path.{◌≡◌}
use mathlib.Core.Logic.{◌⊎◌, ◌↔◌}
use mathlib.Core.List.{List, []}
use Prim.Native.Nat.{ℕ, ◌<◌}
use native.Mathlib.Omega.{arith}
use lib.ListN.{length, take}
use Rattle.algebra.specs.Ring.{num}
use Rattle.field.specs.Element.{Elem, F, half_elem}
use Rattle.field.specs.Powers.{root}
use Rattle.field.proofs.ElementField.{element_domain, element_discrete}
use Rattle.field.proofs.Embedding.{half_two}
use Rattle.tables.specs.Root.{Skip}
use Rattle.tables.proofs.FieldSkip.{field_skip}
use Rattle.weights.specs.Run.{Run, order}
use Rattle.weights.specs.ColumnFactor.{raised}
use Rattle.weights.specs.Fits.{Planned}
use Rattle.weights.specs.Carried.{sent_at, OneOrTwo, Slip}
use Rattle.weights.specs.AtField.{folded_sum_f, honest_f, true_opening_f, final_sum_f, carried_f}
use Rattle.weights.proofs.FieldRoots.{root_order}
use Rattle.weights.proofs.RunRounds.{challenge, verdict-honest, verdict_any}

module _ (run : Run Elem) (planned : Planned run) where
  pub run_skip : Skip F half_elem run.skip (root run.skip)
  run_skip = field_skip run.skip (omega (arith, planned.limit))

  pub raised-root : (h : ℕ) → raised F run h (root run.skip) ≡ root (order run h)
  unfolding raised
  raised-root h = root_order run.skip h (omega (arith, planned.limit))

module _ (run : Run Elem) (cells : ℕ → Elem) (u : Elem) (us : List Elem) (all : length us ≡ run.stack) where
  -- the later challenges and the honest quadratics, by rounds
  abbrev c : ℕ → Elem
  c = challenge F us

  abbrev g : ℕ → Elem → Elem
  g j = honest_f run cells u (take j us)

  -- honest pairs and true openings: right exactly if the claim is the weighted sum folded at u_0, or a later challenge is 1 or 2
  pub field_verdict-honest : (claim : Elem)
      → (carried_f claim (λ j. g j F.one) (λ j. g j (num F 2)) c run.stack ≡ final_sum_f run u us (true_opening_f run cells u us))
      ↔ ((claim ≡ folded_sum_f run cells u []) ⊎ OneOrTwo F c run.stack)
  field_verdict-honest = verdict-honest F half_elem (root run.skip) run cells u us all half_two element_domain element_discrete

  -- any pairs and true openings
  pub field_verdict_any : (claim : Elem) (p q : ℕ → Elem)
      → carried_f claim p q c run.stack ≡ final_sum_f run u us (true_opening_f run cells u us)
      → (claim ≡ folded_sum_f run cells u []) ⊎ ((j : ℕ) × (j < run.stack) × Slip (sent_at F half_elem claim p q c j) (g j) (c j))
  field_verdict_any = verdict_any F half_elem (root run.skip) run cells u us all half_two element_discrete
