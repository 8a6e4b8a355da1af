-- Four sums of the words of the elements f 0, f 1, ..: what they stand for term by term, and their remainders at the end.
use Rattle.std.proofs.Common.{◌≡◌, ℕ, ◌+◌, ◌≤◌, List, refl, ap, ◌∙◌, arith}
use Rattle.algebra.specs.Sum.{sum}
use Rattle.field.specs.Element.{Elem, F, elem_of, words_of}
use Rattle.prover.specs.Accumulated.{held, Room, Few, TookEach, remainders}
use Rattle.prover.specs.declared.accumulator.Sums.{Sums}
use Rattle.prover.proofs.Accumulators.{Within, held_none, within_none, within_more, room, room_few}
use Rattle.prover.proofs.Counts.{small}
use Rattle.prover.proofs.Numbers.{four, four_words, reduced, elem-zero, elem-sum}
use Rattle.prover.proofs.RowTerms.{sum_more, sum_none}

-- after y terms
pub record Summed (f : ℕ → Elem) (y : ℕ) (s : Sums) : Type 0 where
  pub value : elem_of (four (held s.s0) (held s.s1) (held s.s2) (held s.s3)) ≡ sum F y f
  pub part0 : Within y s.s0
  pub part1 : Within y s.s1
  pub part2 : Within y s.s2
  pub part3 : Within y s.s3

abbrev none : Sums
none = record { s0 = record { lo = 0; hi = 0 }; s1 = record { lo = 0; hi = 0 }; s2 = record { lo = 0; hi = 0 }; s3 = record { lo = 0; hi = 0 } }

module _ (f : ℕ → Elem) where
  pub summed_start : Summed f 0 none
  summed_start =
      record {
        value = ap elem_of (four_words (held_none refl refl) (held_none refl refl) (held_none refl refl) (held_none refl refl)) ∙ elem-zero ∙ sum_none f;
        part0 = within_none refl refl;
        part1 = within_none refl refl;
        part2 = within_none refl refl;
        part3 = within_none refl refl;
      }

  pub summed_turn : {y : ℕ} {s r : Sums} {x0 x1 x2 x3 : ℕ} → Summed f y s → elem_of (four x0 x1 x2 x3) ≡ f y → TookEach s x0 x1 x2 x3 r → Summed f (y + 1) r
  summed_turn {y} h e t = record {
    value = ap elem_of (four_words t.w0.value t.w1.value t.w2.value t.w3.value) ∙ elem-sum _ _ _ _ _ _ _ _ ∙ sum_more f y h.value e;
    part0 = within_more h.part0 t.w0;
    part1 = within_more h.part1 t.w1;
    part2 = within_more h.part2 t.w2;
    part3 = within_more h.part3 t.w3;
  }

  -- at most 256 terms: room for one more, and few enough
  module _ {y n : ℕ} {s : Sums} (h : Summed f y s) (k : y ≤ n) (few : n ≤ 256) where
    pub summed_room : Room s.s0 × Room s.s1 × Room s.s2 × Room s.s3
    summed_room = (room k (small few) h.part0, room k (small few) h.part1, room k (small few) h.part2, room k (small few) h.part3)

    pub summed_few : Few s.s0 × Few s.s1 × Few s.s2 × Few s.s3
    summed_few = (room_few k few h.part0, room_few k few h.part1, room_few k few h.part2, room_few k few h.part3)

  pub summed_end : {n y : ℕ} {s : Sums} {d : List ℕ} → Summed f y s → y ≤ n → n ≤ y → d ≡ remainders s → d ≡ words_of (sum F n f)
  summed_end {n} {y} h k l e =
      e ∙ reduced _ _ _ _ refl refl refl refl ∙ ap words_of (h.value ∙ ap (λ m. sum F m f) {x = y} {y = n} (omega arith))
