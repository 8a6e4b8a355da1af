-- What a verdict is lent is what it asks: with slices of these lengths it does not give 9, and one that is not refused by 1 to 10 was lent them.
use mathlib.Core.Path.{◌≡◌, sym, ◌∙◌, ap, ap₂}
use mathlib.Core.Bool.{Bool}
use Prim.Native.Nat.{ℕ, ◌+◌, ◌-◌, ◌*◌, ◌^◌}
use native.Mathlib.Omega.{arith}
use lib.ListN.{length}
use Rattle.std.specs.declared.result.Result.TheVariants.{Ok}
use Rattle.layout.specs.Checks.{refuse, length_number}
use Rattle.layout.specs.Triples.{column_count}
use Rattle.layout.specs.Placing.{stack_width}
use Rattle.layout.specs.Lists.{first_count, lists_number, lists_length}
use Rattle.layout.specs.ByLists.{whole_number}
use Rattle.layout.proofs.Firsts.{or_passed, or_skip}
use Rattle.layout.proofs.CheckChains.{length_is}
use Rattle.layout.proofs.OtherNumbers.{or_other, refuse_other, passed_other, length_other}
use Rattle.weights.specs.LambdaPowers.{claims_before}
use Rattle.weights.specs.ClaimCount.{claim_count}
use Rattle.weights.proofs.ClaimCounts.{claims_are}
use Rattle.verifier.specs.declared.rooms.VerdictRoom.{VerdictRoom}
use Rattle.verifier.specs.Asked.{Asked}
use Rattle.verifier.specs.Sides.{run}
use Rattle.verifier.specs.Numbers.{slices_number, words_number, asked_number, verdict_number}
use Rattle.verifier.specs.Rooms.{taken_verdict, verdict_room}
use Rattle.verifier.proofs.RoomLaws.{room-taken, room_done, room_is}
use Rattle.verifier.proofs.ShapeLaws.{slices_of}

-- checks that do not give 9: another number's, one that passes, and a length that is right
other : (n : ℕ) (t : Bool) → (n ≡ 9 → ⊥) → refuse n t ≡ 9 → ⊥
other = refuse_other (λ z. omega arith)

ten : (t : Bool) → refuse 10 t ≡ 9 → ⊥
ten t = other 10 t (λ z. omega arith)

long : {has asked : ℕ} → has ≡ asked → length_number has asked ≡ 9 → ⊥
long = length_other (λ z. omega arith)

module _ (a : Asked) where
  -- the slices have the room's lengths
  pub record VerdictLent (room : VerdictRoom) : Type 0 where
    pub point : length a.r ≡ room.challenges
    pub challenges : length a.challenges ≡ room.challenges
    pub claims : length a.claims ≡ room.claims
    pub coefficients : length a.coefficients ≡ room.coefficients
    pub pairs : length a.pairs ≡ room.pairs
    pub openings : length a.openings ≡ room.openings
    pub observed : length a.observed ≡ room.observed

  abbrev number : ℕ
  number = whole_number a.skip a.stack a.counts a.lists

  abbrev width : ℕ
  width = stack_width a.skip a.stack (first_count a.counts) a.lists

  abbrev taken : VerdictRoom
  taken = taken_verdict a.skip a.stack width (claim_count a.skip a.stack a.counts a.lists)

  -- the claims, as the verdict asks them
  claims_is : taken.claims ≡ 4 * claims_before (run a) (column_count a.lists)
  claims_is = ap (λ c. 4 * c) (claims_are a.skip a.stack a.counts a.lists a.r a.lambda)

  module _ {room : VerdictRoom} (lends : verdict_room a.skip a.stack a.counts a.lists ≡ Ok room) (lent : VerdictLent room) where
    none : number ≡ 0
    none = room_done a.skip a.stack a.counts a.lists lends

    -- a length
    of : (f : VerdictRoom → ℕ) → f room ≡ f taken
    of f = ap f (room_is a.skip a.stack a.counts a.lists lends)

    -- the observed values are the last three
    sum_is : room.coefficients + room.pairs + room.openings ≡ room.observed
    sum_is = ap₂ ◌+◌ (ap₂ ◌+◌ (of (λ x. x.coefficients)) (of (λ x. x.pairs))) (of (λ x. x.openings)) ∙ sym (of (λ x. x.observed))

    slices_not_nine : slices_of a ≡ 9 → ⊥
    unfolding slices_number
    slices_not_nine =
        or_other _ _ (long (lent.point ∙ of (λ x. x.challenges)))
        (or_other _ _ (long (lent.challenges ∙ of (λ x. x.challenges)))
        (or_other _ _ (long (lent.claims ∙ of (λ x. x.claims) ∙ claims_is))
        (or_other _ _ (long (lent.coefficients ∙ of (λ x. x.coefficients)))
        (or_other _ _ (long (lent.pairs ∙ of (λ x. x.pairs)))
        (or_other _ _ (long (lent.openings ∙ of (λ x. x.openings)))
        (long (lent.observed ∙ sym (ap₂ ◌+◌ (ap₂ ◌+◌ lent.coefficients lent.pairs) lent.openings ∙ sum_is))))))))

    pub verdict-not_nine : verdict_number a ≡ 9 → ⊥
    unfolding verdict_number asked_number words_number
    verdict-not_nine =
        let both = or_passed _ _ none in
        or_other _ _
        (or_other _ _ (passed_other (λ z. omega arith) both.0)
        (or_other _ _ (passed_other (λ z. omega arith) both.1)
        (or_other _ _ slices_not_nine
        (or_other _ _ (ten _) (or_other _ _ (ten _) (or_other _ _ (ten _) (or_other _ _ (ten _) (or_other _ _ (ten _) (or_other _ _ (ten _) (ten _))))))))))
        (or_other _ _ (other 13 _ (λ z. omega arith)) (other 14 _ (λ z. omega arith)))

  pub verdict-lent : asked_number a ≡ 0 → (room : VerdictRoom) × (verdict_room a.skip a.stack a.counts a.lists ≡ Ok room) × VerdictLent room
  unfolding asked_number slices_number
  verdict-lent e =
      let b = or_passed (lists_number a.skip a.stack a.counts a.lists) _ e in
      let c = or_passed (lists_length a.counts a.lists) _ b.1 in
      let d = (or_passed (slices_of a) _ c.1).0 in
      let f = or_passed (length_number (length a.r) (4 * (a.stack + 1))) _ d in
      let g = or_passed (length_number (length a.challenges) (4 * (a.stack + 1))) _ f.1 in
      let h = or_passed (length_number (length a.claims) (4 * claims_before (run a) (column_count a.lists))) _ g.1 in
      let i = or_passed (length_number (length a.coefficients) (4 * (2 ^ (a.skip + 1) - 1))) _ h.1 in
      let j = or_passed (length_number (length a.pairs) (8 * a.stack)) _ i.1 in
      let k = or_passed (length_number (length a.openings) (4 * width)) _ j.1 in (
        taken,
        room-taken a.skip a.stack a.counts a.lists (or_skip _ _ b.0 ∙ c.0),
        record {
          point = length_is _ _ f.0;
          challenges = length_is _ _ g.0;
          claims = length_is _ _ h.0 ∙ sym claims_is;
          coefficients = length_is _ _ i.0;
          pairs = length_is _ _ j.0;
          openings = length_is _ _ k.0;
          observed = length_is _ _ k.1 ∙ ap₂ ◌+◌ (ap₂ ◌+◌ (length_is _ _ i.0) (length_is _ _ j.0)) (length_is _ _ k.0);
        },
      )
