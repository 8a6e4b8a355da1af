-- The call that is due is accepted: no number holds where the lists, r and lambda are those of an accepted start, the buffers are sound, and what is lent
-- beside them has its length and words below p.
use mathlib.Core.Path.{◌≡◌, refl, ◌∙◌, ap, ap₂}
use mathlib.Core.Bool.{Bool, true, not, ◌&&◌}
use mathlib.Core.List.{List}
use Prim.Native.Nat.{ℕ, zero, suc, ◌+◌, ◌-◌, ◌*◌, ◌^◌, ◌≤◌}
use lib.ListN.{length}
use borrow.Author.Tests.{le-leb, eq-eqb}
use Rattle.field.specs.Slice.{canonical_words, canonical_four}
use Rattle.layout.proofs.Firsts.{or_skip, passed}
use Rattle.prover.specs.declared.turns.Turn.{Turn}
use Rattle.prover.specs.Given.{Given, Work, stacked}
use Rattle.prover.specs.Slots.{entries, slot_start}
use Rattle.prover.specs.Blocks.{part}
use Rattle.prover.specs.Turns.{in_round, first_turn, uni_turn, pair_turn, fold_turn, openings_turn}
use Rattle.prover.specs.CallNumbers.{lengths_number, called_number, given_number, point_number, start_number, live, live_tables, live_number, uni_words, uni_number, round_number, pair_number, fold_number, openings_words, openings_number, listed_number, made_words, made_number, coefficients_asked, claims_asked, first_number, claims_number}
use Rattle.reduction.specs.HonestBatch.{Room}
use Rattle.reduction.proofs.CallNumbers.{right-length, right_words, Begun}
use Rattle.reduction.proofs.SoundWork.{Sound, canonical_take, canonical_drop}

part-below : (xs : List ℕ) (at n : ℕ) → canonical_words xs ≡ true → canonical_words (part xs at n) ≡ true
part-below xs at n e = canonical_take (4 * n) _ (canonical_drop (4 * at) xs e)

tables-live : (l : ℕ) (lists : List ℕ) (j : ℕ) (t : List ℕ) → canonical_words t ≡ true → (m : ℕ) → live_tables l lists j t m ≡ true
unfolding live_tables
tables-live l lists j t e zero = refl
tables-live l lists j t e (suc h) = ap₂ ◌&&◌ (tables-live l lists j t e h) (part-below t (slot_start l lists h) (live (entries l lists h) j) e)

module _ (g : Given) (begun : Begun g) where
  point_accepted : point_number g.r g.lambda ≡ 0
  unfolding point_number
  point_accepted = or_skip _ _ (right_words _ begun.r_words) ∙ passed 10 _ (ap not begun.lambda_words)

  room_accepted : (w : Work) → Room g w → (turned : Bool) → turned ≡ true → given_number g turned w ≡ 0
  unfolding called_number lengths_number
  room_accepted w room turned e =
      or_skip _ _ begun.lists
      ∙ or_skip _ _ (passed 8 _ (ap not e))
      ∙ or_skip _ _ begun.sizes
      ∙ or_skip _ _ (right-length _ _ begun.point)
      ∙ or_skip _ _ (right-length _ _ room.q)
      ∙ or_skip _ _ (right-length _ _ room.eq)
      ∙ or_skip _ _ (right-length _ _ room.rot)
      ∙ right-length _ _ room.ub

  pub start_accepted : (w : Work) → Room g w → start_number g w ≡ 0
  unfolding start_number
  start_accepted w room = or_skip _ _ (room_accepted w room true refl) ∙ point_accepted

  made_accepted : (turned : Bool) (asked : ℕ) (matrices : List ℕ) (out : ℕ) → turned ≡ true → length matrices ≡ stacked g * 2 ^ (g.skip + g.stack)
      → canonical_words matrices ≡ true → out ≡ asked → made_number g turned asked matrices out ≡ 0
  unfolding made_number listed_number made_words
  made_accepted turned asked matrices out e size below lent =
      or_skip _ _ (or_skip _ _ begun.lists ∙ or_skip _ _ (passed 8 _ (ap not e)) ∙ begun.sizes)
      ∙ or_skip _ _ (right-length _ _ begun.point)
      ∙ or_skip _ _ (right-length _ _ size)
      ∙ or_skip _ _ (right-length _ _ lent)
      ∙ or_skip _ _ point_accepted
      ∙ right_words _ below

  pub first_accepted : (t : Turn) (matrices out : List ℕ) → t.calls ≡ 1 → length matrices ≡ stacked g * 2 ^ (g.skip + g.stack)
      → canonical_words matrices ≡ true → length out ≡ coefficients_asked g → first_number g t matrices out ≡ 0
  unfolding first_turn
  first_accepted t matrices out c = made_accepted (first_turn t) (coefficients_asked g) matrices (length out) (eq-eqb _ _ c)

  -- the openings of the trace columns, at any turn
  pub claims_accepted : (matrices out : List ℕ) → length matrices ≡ stacked g * 2 ^ (g.skip + g.stack) → canonical_words matrices ≡ true
      → length out ≡ claims_asked g → claims_number g matrices out ≡ 0
  claims_accepted matrices out = made_accepted true (claims_asked g) matrices (length out) refl

module _ (g : Given) (begun : Begun g) (w : Work) (sound : Sound g w) where
  given_accepted : (turned : Bool) → turned ≡ true → given_number g turned w ≡ 0
  given_accepted =
      room_accepted g begun w (record { q = sound.q.size; eq = sound.eq.size; rot = sound.rot.size; ub = sound.ub.size })

  live_accepted : (j : ℕ) → live_number g.skip g.stack g.lists (stacked g) j w ≡ 0
  unfolding live_number
  live_accepted j =
      or_skip _ _ (right_words _ (part-below w.q 0 (stacked g * 2 ^ (g.stack - j)) sound.q.below))
      ∙ or_skip _ _ (passed 10 _ (ap not (tables-live g.skip g.lists j w.eq sound.eq.below (g.skip + g.stack + 1))))
      ∙ or_skip _ _ (passed 10 _ (ap not (tables-live g.skip g.lists j w.rot sound.rot.below (g.skip + g.stack + 1))))
      ∙ right_words _ sound.ub.below

  round_accepted : (turned : Bool) (j : ℕ) → turned ≡ true → round_number g turned j w ≡ 0
  unfolding round_number
  round_accepted turned j e = or_skip _ _ (given_accepted turned e) ∙ or_skip _ _ (point_accepted g begun) ∙ live_accepted (j - 1)

  in_round_lem : (j calls : ℕ) (t : Turn) → 1 ≤ j → j ≤ g.stack → t.calls ≡ calls → in_round g.stack j calls t ≡ true
  unfolding in_round
  in_round_lem j calls t a b c = ap₂ ◌&&◌ (le-leb 1 j a) (ap₂ ◌&&◌ (le-leb j g.stack b) (eq-eqb _ _ c))

  pub uni_accepted : (t : Turn) (matrices u : List ℕ) → t.calls ≡ 2 → length matrices ≡ stacked g * 2 ^ (g.skip + g.stack) → canonical_words matrices ≡ true
      → canonical_four u ≡ true → uni_number g t matrices u w ≡ 0
  unfolding uni_number uni_turn uni_words
  uni_accepted t matrices u c size below first =
      or_skip _ _ (given_accepted _ (eq-eqb _ _ c))
      ∙ or_skip _ _ (right-length _ _ size)
      ∙ or_skip _ _ (point_accepted g begun)
      ∙ or_skip _ _ (passed 10 _ (ap not first))
      ∙ or_skip _ _ (right_words _ below)
      ∙ right_words _ sound.eq.below

  pub pair_accepted : (t : Turn) (j : ℕ) → 1 ≤ j → j ≤ g.stack → t.calls ≡ 2 * j + 1 → pair_number g t j w ≡ 0
  pair_accepted t j a b c = round_accepted (pair_turn g.stack j t) j (in_round_lem j (2 * j + 1) t a b c)

  pub fold_accepted : (t : Turn) (j : ℕ) (v : List ℕ) → 1 ≤ j → j ≤ g.stack → t.calls ≡ 2 * j + 2 → canonical_four v ≡ true → fold_number g t j v w ≡ 0
  unfolding fold_number
  fold_accepted t j v a b c e = or_skip _ _ (round_accepted (fold_turn g.stack j t) j (in_round_lem j (2 * j + 2) t a b c)) ∙ passed 10 _ (ap not e)

  pub openings_accepted : (t : Turn) (out : List ℕ) → t.calls ≡ 2 * g.stack + 3 → length out ≡ 4 * stacked g → openings_number g t out w ≡ 0
  unfolding openings_number openings_turn openings_words
  openings_accepted t out c size =
      or_skip _ _ (given_accepted _ (eq-eqb _ _ c)) ∙ or_skip _ _ (right-length _ _ size) ∙ or_skip _ _ (point_accepted g begun)
      ∙ right_words _ (part-below w.q 0 (stacked g) sound.q.below)
