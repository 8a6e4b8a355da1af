-- What a run is lent is what its calls ask: with slices of these lengths no call gives 9, and a call that is done was lent them.
use Rattle.std.proofs.Common.{◌≡◌, ℕ, ◌*◌, ◌^◌, Bool, true, not, List, length, refl, sym, ap, ◌∙◌, arith}
use Rattle.std.specs.declared.result.Result.TheVariants.{Ok}
use Rattle.layout.specs.Checks.{refuse, length_number}
use Rattle.layout.specs.Lists.{lists_number, lists_length}
use Rattle.layout.specs.ByLists.{whole_number}
use Rattle.layout.proofs.Firsts.{or_passed, or_skip}
use Rattle.layout.proofs.OtherNumbers.{or_other, refuse_other, passed_other, length_other}
use Rattle.weights.proofs.ClaimCounts.{claims_are}
use Rattle.prover.specs.declared.rooms.RunRoom.{RunRoom}
use Rattle.prover.specs.declared.turns.Turn.{Turn}
use Rattle.prover.specs.Given.{Given, Work, stacked, columns}
use Rattle.prover.specs.Slots.{table_size}
use Rattle.prover.specs.Turns.{first_turn, uni_turn, pair_turn, fold_turn, openings_turn}
use Rattle.prover.specs.CallNumbers.{lengths_number, called_number, given_number, point_number, live_number, start_number, uni_words, uni_number, round_number, pair_number, fold_number, openings_words, openings_number, listed_number, made_words, made_number, coefficients_asked, claims_asked, first_number, claims_number}
use Rattle.prover.specs.Rooms.{run_room}
use Rattle.prover.proofs.RoomLaws.{taken, room-taken, room_is}
use Rattle.prover.proofs.CallsPassed.{given_passed, uni_passed, openings-passed, made-passed}

-- checks that do not give 9: another number's, one that passes, and a length that is right
other : (n : ℕ) (t : Bool) → (n ≡ 9 → ⊥) → refuse n t ≡ 9 → ⊥
other = refuse_other (λ z. omega arith)

ten : (t : Bool) → refuse 10 t ≡ 9 → ⊥
ten t = other 10 t (λ z. omega arith)

passed : {n : ℕ} → n ≡ 0 → n ≡ 9 → ⊥
passed = passed_other (λ z. omega arith)

long : {has asked : ℕ} → has ≡ asked → length_number has asked ≡ 9 → ⊥
long = length_other (λ z. omega arith)

-- r and the work buffers have the room's lengths
pub record RunLent (room : RunRoom) (r : List ℕ) (w : Work) : Type 0 where
  pub point : length r ≡ room.r
  pub values : length w.q ≡ room.q_evals
  pub eq_tables : length w.eq ≡ room.eq_r
  pub rot_tables : length w.rot ≡ room.eq_r
  pub column_weights : length w.ub ≡ room.eq_ub

module _ (g : Given) where
  -- what a run over these lists is lent, where they are not refused
  abbrev pub asked_room : RunRoom
  asked_room = taken g.skip g.stack g.counts g.lists

  abbrev pub Taken : RunRoom → Type 0
  Taken room = run_room g.skip g.stack g.counts g.lists ≡ Ok room

  abbrev number : ℕ
  number = whole_number g.skip g.stack g.counts g.lists

  claims_of_lem : asked_room.claims ≡ claims_asked g
  claims_of_lem = ap (λ c. 4 * c) (claims_are g.skip g.stack g.counts g.lists g.r g.lambda)

  module _ {room : RunRoom} (is : Taken room) where
    none : number ≡ 0
    none = (room_is g.skip g.stack g.counts g.lists is).0

    -- a length, as the calls ask it
    of : (f : RunRoom → ℕ) → f room ≡ f asked_room
    of f = ap f (sym (room_is g.skip g.stack g.counts g.lists is).1)

    pointed : point_number g.r g.lambda ≡ 9 → ⊥
    unfolding point_number
    pointed = or_other _ _ (ten _) (ten _)

    module _ (turned : Bool) (asked : ℕ) (matrices : List ℕ) (out : ℕ) (r-long : length g.r ≡ room.r) (q-long : length matrices ≡ room.matrices) where
      made_not_nine : out ≡ asked → made_number g turned asked matrices out ≡ 9 → ⊥
      unfolding made_number listed_number made_words
      made_not_nine e =
          let both = or_passed _ _ none in
          or_other _ _ (or_other _ _ (passed both.0) (or_other _ _ (other 8 _ (λ z. omega arith)) (passed both.1)))
          (or_other _ _ (long (r-long ∙ of (λ x. x.r)))
          (or_other _ _ (long (q-long ∙ of (λ x. x.matrices))) (or_other _ _ (long e) (or_other _ _ pointed (ten _)))))

    module _ (matrices out : List ℕ) (r-long : length g.r ≡ room.r) (q-long : length matrices ≡ room.matrices) where
      pub first_not_nine : (t : Turn) → length out ≡ room.coefficients → first_number g t matrices out ≡ 9 → ⊥
      first_not_nine t e = made_not_nine (first_turn t) (coefficients_asked g) matrices (length out) r-long q-long (e ∙ of (λ x. x.coefficients))

      pub claims_not_nine : length out ≡ room.claims → claims_number g matrices out ≡ 9 → ⊥
      claims_not_nine e = made_not_nine true (claims_asked g) matrices (length out) r-long q-long (e ∙ of (λ x. x.claims) ∙ claims_of_lem)

    module _ (w : Work) (lent : RunLent room g.r w) where
      lengths : lengths_number g.stack (stacked g * 2 ^ g.stack) (table_size g.skip g.stack g.lists) (columns g) (length g.r) (length w.q) (length w.eq) (length w.rot) (length w.ub) ≡ 9 → ⊥
      unfolding lengths_number
      lengths =
          or_other _ _ (long (lent.point ∙ of (λ x. x.r)))
          (or_other _ _ (long (lent.values ∙ of (λ x. x.q_evals)))
          (or_other _ _ (long (lent.eq_tables ∙ of (λ x. x.eq_r)))
          (or_other _ _ (long (lent.rot_tables ∙ of (λ x. x.eq_r))) (long (lent.column_weights ∙ of (λ x. x.eq_ub))))))

      called : (turned : Bool) → given_number g turned w ≡ 9 → ⊥
      unfolding called_number
      called turned =
          let both = or_passed _ _ none in
          or_other _ _ (passed both.0) (or_other _ _ (other 8 _ (λ z. omega arith)) (or_other _ _ (passed both.1) lengths))

      round_not_nine : (turned : Bool) (j : ℕ) → round_number g turned j w ≡ 9 → ⊥
      unfolding round_number live_number
      round_not_nine turned j = or_other _ _ (called turned) (or_other _ _ pointed (or_other _ _ (ten _) (or_other _ _ (ten _) (or_other _ _ (ten _) (ten _)))))

      pub start_not_nine : start_number g w ≡ 9 → ⊥
      unfolding start_number
      start_not_nine = or_other _ _ (called true) pointed

      pub uni_not_nine : (t : Turn) (matrices u : List ℕ) → length matrices ≡ room.matrices → uni_number g t matrices u w ≡ 9 → ⊥
      unfolding uni_number uni_words
      uni_not_nine t matrices u e =
          or_other _ _ (called (uni_turn t))
          (or_other _ _ (long (e ∙ of (λ x. x.matrices)))
          (or_other _ _ pointed (or_other _ _ (ten _) (or_other _ _ (ten _) (ten _)))))

      pub pair_not_nine : (t : Turn) (j : ℕ) → pair_number g t j w ≡ 9 → ⊥
      pair_not_nine t j = round_not_nine (pair_turn g.stack j t) j

      pub fold_not_nine : (t : Turn) (j : ℕ) (u : List ℕ) → fold_number g t j u w ≡ 9 → ⊥
      unfolding fold_number
      fold_not_nine t j u = or_other _ _ (round_not_nine (fold_turn g.stack j t) j) (ten _)

      pub openings_not_nine : (t : Turn) (out : List ℕ) → length out ≡ room.openings → openings_number g t out w ≡ 9 → ⊥
      unfolding openings_number openings_words
      openings_not_nine t out e =
          or_other _ _ (called (openings_turn g.stack t)) (or_other _ _ (long (e ∙ of (λ x. x.openings))) (or_other _ _ pointed (ten _)))

  -- a call that is done
  called_number_lem : (turned : Bool) (w : Work) → given_number g turned w ≡ 0 → number ≡ 0
  unfolding called_number
  called_number_lem turned w e =
      let a = or_passed (lists_number g.skip g.stack g.counts g.lists) _ e in
      let b = or_passed (refuse 8 (not turned)) _ a.1 in
      or_skip _ _ a.0 ∙ (or_passed (lists_length g.counts g.lists) _ b.1).0

  called_lent : (turned : Bool) (w : Work) → given_number g turned w ≡ 0 → (Taken asked_room) × RunLent asked_room g.r w
  called_lent turned w e =
      let z = called_number_lem turned w e in
      let ready = given_passed g turned w e in (
        room-taken g.skip g.stack g.counts g.lists z,
        record {
          point = ready.r_length;
          values = ready.q_length;
          eq_tables = ready.eq_length;
          rot_tables = ready.rot_length;
          column_weights = ready.ub_length;
        },
      )

  -- r, the matrices and the slice that is lent for the result
  made-number : (turned : Bool) (asked : ℕ) (matrices : List ℕ) (out : ℕ) → made_number g turned asked matrices out ≡ 0 → number ≡ 0
  unfolding made_number listed_number
  made-number turned asked matrices out e =
      let l = (or_passed (listed_number g turned) _ e).0 in
      let a = or_passed (lists_number g.skip g.stack g.counts g.lists) _ l in
      or_skip _ _ a.0 ∙ (or_passed (refuse 8 (not turned)) _ a.1).1

  made-lent : (turned : Bool) (asked : ℕ) (matrices : List ℕ) (out : ℕ) (f : RunRoom → ℕ) → f asked_room ≡ asked → made_number g turned asked matrices out ≡ 0
      → (Taken asked_room) × (length g.r ≡ asked_room.r) × (length matrices ≡ asked_room.matrices) × (out ≡ f asked_room)
  made-lent turned asked matrices out f same e =
      let z = made-number turned asked matrices out e in
      let ready = (made-passed g turned asked matrices out e).1 in (
        room-taken g.skip g.stack g.counts g.lists z,
        ready.r_length,
        ready.matrices_length,
        ready.out_length ∙ sym same,
      )

  pub first_lent : (t : Turn) (matrices out : List ℕ) → first_number g t matrices out ≡ 0
      → (Taken asked_room) × (length g.r ≡ asked_room.r) × (length matrices ≡ asked_room.matrices) × (length out ≡ asked_room.coefficients)
  first_lent t matrices out = made-lent (first_turn t) (coefficients_asked g) matrices (length out) (λ x. x.coefficients) refl

  pub claims-lent : (matrices out : List ℕ) → claims_number g matrices out ≡ 0
      → (Taken asked_room) × (length g.r ≡ asked_room.r) × (length matrices ≡ asked_room.matrices) × (length out ≡ asked_room.claims)
  claims-lent matrices out = made-lent true (claims_asked g) matrices (length out) (λ x. x.claims) claims_of_lem

  module _ (w : Work) where
    pub start_lent : start_number g w ≡ 0 → (Taken asked_room) × RunLent asked_room g.r w
    unfolding start_number
    start_lent e = called_lent true w (or_passed (given_number g true w) _ e).0

    pub uni_lent : (t : Turn) (matrices u : List ℕ) → uni_number g t matrices u w ≡ 0 → (Taken asked_room) × (length matrices ≡ asked_room.matrices)
    unfolding uni_number
    uni_lent t matrices u e = (
      (called_lent (uni_turn t) w (or_passed (given_number g (uni_turn t) w) _ e).0).0,
      (uni_passed g t matrices u w e).1.matrices_length,
    )

    pub openings-lent : (t : Turn) (out : List ℕ) → openings_number g t out w ≡ 0 → (Taken asked_room) × (length out ≡ asked_room.openings)
    unfolding openings_number
    openings-lent t out e = (
      (called_lent (openings_turn g.stack t) w (or_passed (given_number g (openings_turn g.stack t) w) _ e).0).0,
      (openings-passed g t out w e).1.out_length,
    )
