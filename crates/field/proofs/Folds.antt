-- What a fold over m, m + 1, .., n − 1 gives, by what a turn does.
use mathlib.Core.Path.{◌≡◌, refl, sym, ◌∙◌, ap, subst}
use Prim.Native.Nat.{ℕ, zero, suc, ◌+◌, ◌-◌, ◌≤◌}
use native.Mathlib.Omega.{arith}
use denote.Param.Members.{Mut}
use Rattle.std.specs.List.{fold, range_with_len}
use Rattle.std.specs.Iterator.{ActsAsOnTwo, FoldsItems}
use Rattle.std.proofs.iter.Yields.{nat_range_steps}
use Rattle.std.proofs.lemmas.Fn.{fold_over}
use Rattle.std.proofs.lemmas.Iterator.{YieldsList-from_range}
use Rattle.std.proofs.lemmas.List.Sums.{fold_push}

module _ {C : Type 0} (At : ℕ → C → Type 0) (h : C → ℕ → C) {m : ℕ} (turn : (k : ℕ) (x : C) → m ≤ k → At k x → At (k + 1) (h x k)) where
  turns : (k i : ℕ) (x : C) → m ≤ i → At i x → At (i + k) (fold h x (range_with_len i k))
  turns zero i x above z = subst (λ j. At j x) (omega arith) z
  turns (suc k) i x above z = subst (λ j. At j (fold h (h x i) (range_with_len (i + 1) k))) (omega arith) (turns k (i + 1) (h x i) (omega arith) (turn i x above z))

  pub counted : {F : Type 0} (g : Mut F (C × (ℕ × Unit {0})) C) {f : F} → ActsAsOnTwo g f h → {n : ℕ} {x r : C} → m ≤ n → At m x
      → FoldsItems nat_range_steps g (record { start = m; end = n }) f x r → At n r
  counted g {f} acts {n} {x} {r} below z e =
      let folded : r ≡ fold h x (range_with_len m (n - m)) =
      fold_over nat_range_steps (λ i. i) g (λ is y. y ≡ fold h x is) f (λ is a i b f' j q. let t = acts a i b f' q in (t.1 ∙ ap (λ y. h y i) j ∙ sym (fold_push h x is i), t.0)) _ _ x r
      (YieldsList-from_range m n (n - m) refl refl).runs refl e in
      rw folded (subst (λ i. At i (fold h x (range_with_len m (n - m)))) (omega (arith, below)) (turns (n - m) m x (omega arith) z))
