-- A sender who sends true pairs, and for the first polynomial the true one moved by a constant so that 13 passes. It gets a yes wherever the weighted sum
-- of the claims is right, and wherever u_1 is 2.
use mathlib.Core.Path.{◌≡◌, refl, sym, ◌∙◌, ap, ap₂, subst₂, fun_ext}
use mathlib.Core.Bool.{Bool, true, ◌&&◌}
use mathlib.Core.List.{List, [], ◌∷◌, ◌++◌, append-nil, append_assoc}
use Prim.Native.Nat.{ℕ, zero, suc, ◌+◌, ◌-◌, ◌^◌, ◌<◌}
use native.Mathlib.Nat
use native.Mathlib.Numerals.{add-one}
use native.Mathlib.Omega.{arith}
use lib.ListN.{length, get_or, length-append}
use Rattle.algebra.specs.Ring.{pow, num}
use Rattle.algebra.specs.Polynomial.{Degree}
use Rattle.algebra.proofs.Expression.{:1, ◌:+◌, ◌:-◌, ◌:*◌, :neg, ◌:=◌, ◌given◌⋆◌≈◌}
use Rattle.algebra.proofs.Solver.{solve}
use Rattle.algebra.proofs.Sums.{sum_cong, sum-add, sum_const}
use Rattle.algebra.proofs.Powers.{two_pow-pos, half_pow}
use Rattle.algebra.proofs.Degrees.{degree_add, degree_up, degree_const}
use Rattle.field.specs.Element.{Elem, F, half_elem, ◌⊕◌, ◌⊖◌, ◌⊗◌}
use Rattle.field.specs.Powers.{root}
use Rattle.field.proofs.Embedding.{half_two}
use Rattle.field.proofs.FourWords.{same_equal}
use Rattle.tables.specs.Quadratic.{quadratic}
use Rattle.tables.proofs.Quadratics.{quadratic_two}
use Rattle.tables.proofs.PolynomialValues.{value-sum, value-listed}
use Rattle.weights.specs.FoldedSum.{honest}
use Rattle.weights.specs.Carried.{sent}
use Rattle.weights.specs.AtField.{honest_f}
use Rattle.weights.proofs.HonestQuadratics.{honest-sum, honest-quadratic}
use Rattle.reduction.specs.Senders.{Instance, Sender, run_at, cells, first_at}
use Rattle.reduction.proofs.FoldedDegrees.{first_degree}
use Rattle.reduction.proofs.Game.{won, won_first, won_whole}
use Rattle.reduction.proofs.TruthfulGames.{Truthful, always_won}
use Rattle.reduction.proofs.FieldGame.{tells, sent_pair}
use Rattle.reduction.proofs.Played.{over_powers, claims_at, true_at, game}

module _ (t : Instance) where
  abbrev pub top_degree : ℕ
  top_degree = (2 ^ t.skip - 1) + (2 ^ t.skip - 1)

  -- what the claims should sum to
  abbrev pub true_sum : Elem → Elem
  true_sum l = over_powers t (λ u. true_at t l u [])

  -- the constant
  unfoldable pub off : Elem → Elem
  off l = pow F half_elem t.skip ⊗ (claims_at t l ⊖ true_sum l)

  pub moved : (l : Elem) → Degree F top_degree (λ u. true_at t l u [] ⊕ off l)
  moved l =
      degree_add F top_degree (λ u. true_at t l u []) (λ u. off l) (first_degree F half_elem (root t.skip) (run_at t l) (cells t))
      (degree_up F 0 top_degree (λ u. off l) (omega arith) (degree_const F (off l)))

  unfoldable pub hopeful : Sender
  hopeful = record {
    first = λ l i. get_or (moved l).0 i F.zero;
    pair = λ l u us. (honest_f (run_at t l) (cells t) u us F.one, honest_f (run_at t l) (cells t) u us (num F 2));
  }

  first_moved : (l x : Elem) → first_at t hopeful l x ≡ true_at t l x [] ⊕ off l
  unfolding hopeful
  first_moved l x =
      let m : length (moved l).0 ≡ 2 ^ (t.skip + 1) - 1
      = (moved l).1 ∙ (let e : suc top_degree ≡ 2 ^ (t.skip + 1) - 1 = omega (arith, two_pow-pos t.skip, ap (λ k. 2 ^ k) (add-one t.skip) ∙ Nat.pow-succ' 2 t.skip) in e) in
      value-listed F (2 ^ (t.skip + 1) - 1) (λ i. get_or (moved l).0 i F.zero) x
      ∙ sym (value-sum F (moved l).0 (2 ^ (t.skip + 1) - 1) x (Nat.le_of_eq m)) ∙ sym ((moved l).2 x)

  sum_moved : (l : Elem) → claims_at t l ≡ over_powers t (first_at t hopeful l)
  unfolding off
  sum_moved l =
      sym (sum_cong F (2 ^ t.skip) (λ i. first_moved l (pow F (root t.skip) i))
      ∙ sum-add F (2 ^ t.skip) (λ i. true_at t l (pow F (root t.skip) i) []) (λ i. off l)
      ∙ ap (λ y. true_sum l ⊕ y) (sum_const F (2 ^ t.skip) (off l))
      ∙ solve F (pow F half_elem t.skip ∷ num F (2 ^ t.skip) ∷ claims_at t l ∷ true_sum l ∷ [])
      (λ p n c v. v :+ n :* (p :* (c :- v)) := c given c :- v ⋆ p :* n ≈ :1) refl (half_pow F half_elem half_two t.skip))

  -- the pairs are true
  module _ (l u : Elem) where
    sent-true : (vs : List Elem) (x : Elem) → length vs < t.stack → sent_pair (true_at t l u vs) (hopeful.pair l u vs) x ≡ true_at t l u (vs ++ (x ∷ []))
    unfolding sent honest hopeful
    sent-true vs x h =
        ap (λ a. quadratic F half_elem a (honest_f (run_at t l) (cells t) u vs F.one) (honest_f (run_at t l) (cells t) u vs (num F 2)) x)
        (solve F (true_at t l u vs ∷ honest_f (run_at t l) (cells t) u vs F.zero ∷ honest_f (run_at t l) (cells t) u vs F.one ∷ [])
        (λ c a b. c :- b := a given :neg :1 ⋆ a :+ b ≈ c) refl (honest-sum F half_elem (root t.skip) (run_at t l) (cells t) u vs h))
        ∙ sym (honest-quadratic F half_elem (root t.skip) (run_at t l) (cells t) u half_two vs x)

    truthful : (m : ℕ) (vs : List Elem) → length vs + m ≡ t.stack → Truthful tells sent_pair m (λ v. hopeful.pair l u (vs ++ v)) (λ v. true_at t l u (vs ++ v))
    truthful zero vs e = tt
    truthful (suc m) vs e = (
      (λ x. ap (λ ws. sent_pair (true_at t l u ws) (hopeful.pair l u ws) x) (append-nil vs) ∙ sent-true vs x (omega arith)),
      λ x. subst₂ (Truthful tells sent_pair m) (fun_ext (λ v. ap (hopeful.pair l u) (append_assoc vs (x ∷ []) v))) (fun_ext (λ v. ap (true_at t l u) (append_assoc vs (x ∷ []) v)))
          (truthful m (vs ++ (x ∷ [])) (let k : length (vs ++ (x ∷ [])) ≡ length vs + 1 = length-append vs (x ∷ []) in omega arith)),
    )

    both : (b c : Bool) → b ≡ true → c ≡ true → b && c ≡ true
    both b c e f = ap₂ (λ (x y : Bool). x && y) e f

    -- u_1 is 2
    pub two_won : (m : ℕ) (v : List Elem) → suc m ≡ t.stack → length v ≡ m → game t hopeful (l ∷ u ∷ num F 2 ∷ v) ≡ true
    unfolding won_whole won_first won sent honest hopeful
    two_won m v e k =
        both _ _ (same_equal _ _ (sum_moved l))
        (always_won tells sent_pair m (sent_pair (first_at t hopeful l u) (hopeful.pair l u []) (num F 2)) (λ z. hopeful.pair l u (num F 2 ∷ z)) (λ z. true_at t l u (num F 2 ∷ z))
        (truthful m (num F 2 ∷ []) (let h : 1 + m ≡ t.stack = omega arith in h)) (quadratic_two F half_elem half_two _ _ _) v k)

    -- a lambda at which the weighted sum of the claims is right
    pub right-won : (us : List Elem) → claims_at t l ≡ true_sum l → length us ≡ t.stack → game t hopeful (l ∷ u ∷ us) ≡ true
    unfolding won_whole won_first off
    right-won us e k =
        both _ _ (same_equal _ _ (sum_moved l))
        (always_won tells sent_pair t.stack (first_at t hopeful l u) (hopeful.pair l u) (true_at t l u) (truthful t.stack [] (Nat.zero-add t.stack))
        (first_moved l u ∙ solve F (true_at t l u [] ∷ pow F half_elem t.skip ∷ claims_at t l ∷ true_sum l ∷ []) (λ g h c v. g :+ h :* (c :- v) := g given h ⋆ c ≈ v) refl e)
        us k)
