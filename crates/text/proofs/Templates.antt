-- A template put into a page byte by byte: what was put, and what the bytes that are left stand for.
use Prim.Native.Nat.{ℕ, ◌+◌, ◌≤◌, ◌<◌}
use mathlib.Core.Path.{◌≡◌, refl, sym, ap, ◌∙◌}
use mathlib.Core.Bool.{Bool, true, false, cond}
use mathlib.Core.List.{List, [], ◌++◌, append_assoc, append-nil}
use native.Mathlib.Omega.{arith}
use native.Mathlib.Numerals.{add-one}
use lib.ListN.{length, get_or, drop, drop_of_length-le}
use lib.Seq.{drop-cons, paste, paste-zero}
use lib.Dec.{eqb}
use Rattle.text.specs.Printed.{fitting, Appended}
use Rattle.text.specs.Template.{stands_for, marks_after, number_at, instance_from, instance_of}
use Rattle.text.proofs.Pages.{appended_both}

-- no byte
pub appended_none : (page : List ℕ) (at : ℕ) → Appended page at [] at page
appended_none page at =
    let z : fitting page at [] ≡ 0 = omega arith in
    record { ends = omega (arith, z); stands = paste-zero page at [] ∙ ap (paste page at []) (sym z) }

pub marks_low : (b k : ℕ) → marks_after b k ≤ k + 1
unfolding marks_after
marks_low b k = by_case (eqb b 64)
  where
    by_case : (t : Bool) → cond t (k + 1) k ≤ k + 1
    by_case true = omega arith
    by_case false = omega arith

-- after i bytes of a template and k marks
pub record Putting (page : List ℕ) (from : ℕ) (template numbers : List ℕ) (i k to : ℕ) (now : List ℕ) : Type 0 where
  pub bytes : List ℕ
  pub put : Appended page from bytes to now
  pub left : bytes ++ instance_from numbers k (drop i template) ≡ instance_of template numbers

module _ (page : List ℕ) (from : ℕ) (template numbers : List ℕ) where
  pub putting_start : Putting page from template numbers 0 0 from page
  putting_start = record { bytes = []; put = appended_none page from; left = refl }

  module _ (i k to : ℕ) (now : List ℕ) (p : Putting page from template numbers i k to now) where
    pub putting_turn : i < length template → (next : ℕ) (after : List ℕ) (marks : ℕ)
        → Appended now to (stands_for (get_or template i 0) (number_at numbers k)) next after → marks ≡ marks_after (get_or template i 0) k
        → Putting page from template numbers (i + 1) marks next after
    unfolding instance_from
    putting_turn h next after marks q m =
        let one = stands_for (get_or template i 0) (number_at numbers k) in
        record {
          bytes = p.bytes ++ one;
          put = appended_both page now after p.bytes one from to next p.put q;
          left = rw (m, add-one, append_assoc) (rw (drop-cons template i 0 h) at p.left);
        }

    pub putting_end : length template ≤ i → Appended page from (instance_of template numbers) to now
    unfolding instance_from
    putting_end h = rw (sym p.left ∙ ap (λ l. p.bytes ++ instance_from numbers k l) (drop_of_length-le template h) ∙ append-nil p.bytes) p.put
