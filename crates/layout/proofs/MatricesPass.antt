-- What is known of a list that `matrices_number` lets pass; the lists that planning and a run take are such. Assumes nothing.
use Prim.Native.Nat.{ℕ, ◌≤◌}
use mathlib.Core.Path.{◌≡◌, ◌∙◌}
use mathlib.Core.List.{List}
use native.Mathlib.Omega.{arith}
use lib.Dec.{ltb}
use borrow.Author.Tests.{ltb-false, le-ltb}
use Rattle.layout.specs.Checks.{refuse}
use Rattle.layout.specs.Triples.{count_of}
use Rattle.layout.specs.Refusals.{limits_number, flags_number, columns_number, laid_number, plan_number, matrices_number}
use Rattle.layout.specs.Lists.{first_count, lists_number, lists_length}
use Rattle.layout.specs.Shaped.{Laid}
use Rattle.layout.proofs.Firsts.{or_passed, or_skip, is_false, passed}
use Rattle.layout.proofs.Passed.{laid_passed, plan-passed}
use Rattle.layout.proofs.RunLaws.{columns-shaped, lists-passed}

module _ (l n first : ℕ) (list : List ℕ) where
  pub matrices_laid : matrices_number l n first list ≡ 0 → Laid l n list
  unfolding matrices_number
  matrices_laid e =
      let a = or_passed (limits_number l n) _ e in
      let b = or_passed (refuse 1 (ltb 4111 (count_of list))) _ a.1 in
      let c = or_passed (flags_number list) _ b.1 in
      let d = or_passed (columns_number first list) _ c.1 in
      laid_passed l n first list (columns-shaped l n first list a.0 (ltb-false _ _ (is_false 1 _ (omega arith) b.0)) d.0) d.1

  pub matrices-pass : limits_number l n ≡ 0 → count_of list ≤ 4111 → flags_number list ≡ 0 → columns_number first list ≡ 0 → laid_number l n first list ≡ 0
      → matrices_number l n first list ≡ 0
  unfolding matrices_number
  matrices-pass a b c d e =
      or_skip _ _ a ∙ (or_skip _ _ (passed 1 _ (le-ltb 4111 (count_of list) b)) ∙ (or_skip _ _ c ∙ (or_skip _ _ d ∙ e)))

pub plan-matrices : (l n : ℕ) (list : List ℕ) → plan_number l n list ≡ 0 → matrices_number l n (count_of list) list ≡ 0
plan-matrices l n list e =
    let a = plan-passed l n list e in
    let p = a.0 in
    matrices-pass l n (count_of list) list p.limits (omega (arith, p.few)) p.flags p.columns a.1

pub lists-matrices : (l n : ℕ) (counts lists : List ℕ) → lists_number l n counts lists ≡ 0 → lists_length counts lists ≡ 0 → matrices_number l n (first_count counts) lists ≡ 0
lists-matrices l n counts lists e f =
    let a = lists-passed l n counts lists e f in
    matrices-pass l n (first_count counts) lists a.limits a.laid.shaped.few a.flags a.columns a.placed
