-- The call of a round's fold: its plan, what its loops ask, and its three returns.
use Rattle.std.proofs.Common.{◌≡◌, ℕ, ◌+◌, ◌-◌, ◌*◌, ◌%◌, ◌^◌, ◌≤◌, Bool, true, false, not, List, length, sym, refl, ap, ◌∙◌, subst, ap₂, arith}
use native.Mathlib.Nat
use Rattle.algebra.specs.Multilinear.{fold_mle}
use Rattle.field.specs.Element.{Elem, F, elem_of}
use Rattle.field.specs.Canonical.{Canonical}
use Rattle.field.specs.Slice.{words_at, elem_words, canonical_four}
use Rattle.std.specs.declared.result.Result.TheVariants.{Ok, Err}
use Rattle.field.specs.declared.answer.Refusal.{Refusal}
use Rattle.field.specs.declared.answer.Refusal.TheVariants.{NotCanonical}
use Rattle.field.specs.Number.{settled, refusal_of, refusals}
use Rattle.field.proofs.FourWords.{four_canonical}
use Rattle.tables.specs.Window.{below}
use Rattle.layout.specs.Answers.{answer_of}
use Rattle.layout.specs.Walked.{Walked}
use Rattle.layout.proofs.Firsts as Firsts
use Rattle.layout.proofs.Firsts.{skip, passed}
use Rattle.weights.specs.RunOf.{run_of}
use Rattle.prover.specs.declared.plans.Plan.{Plan}
use Rattle.prover.specs.declared.turns.Turn.{Turn}
use Rattle.prover.specs.declared.stacked_reduction.Step.{Step}
use Rattle.prover.specs.Given.{Given, Work, work}
use Rattle.prover.specs.Words.{CanonicalFrom}
use Rattle.prover.specs.Written.{Written, elems_from}
use Rattle.prover.specs.Slots.{table_size, Slots}
use Rattle.prover.specs.Blocks.{blocks, folded_words}
use Rattle.prover.specs.OwnSum.{tables_of, folded_tables}
use Rattle.prover.specs.Turns.{fold_turn}
use Rattle.prover.specs.Live.{LiveRound}
use Rattle.prover.specs.CallNumbers.{Planned, live_tables, round_number, fold_number}
use Rattle.prover.specs.Calls.{step_of, one_more, fold_values, fold_tables, fold_weights, fold_work}
use Rattle.prover.proofs.Shifts.{shifted}
use Rattle.prover.proofs.Places.{twice}
use Rattle.prover.proofs.TurnLaws.{InRound}
use Rattle.prover.proofs.PlanReady.{PlanFacts}
use Rattle.prover.proofs.BlockLaws.{blocks_is}
use Rattle.prover.proofs.Filled.{folded_at}
use Rattle.prover.proofs.RoundPlans.{turned-plan, turned_refusal, round_planned, round_placed, round_live, round_turn}
use Rattle.prover.proofs.Refusing.{refusal_stops, refusal_passes}
use Rattle.prover.proofs.CallLaws.{answered, step-refused, left_old, step_done, left_new}
use Rattle.prover.proofs.WorkBuffers.{work_is}

-- a buffer folded in place, as a whole
pub values-folded : (old new : List ℕ) (size half : ℕ) (u : Elem) → length old ≡ 4 * size → Written old 0 (2 * half) (below F half (fold_mle F (elems_from old 0) u)) new
    → new ≡ blocks size (folded_words old 0 half u)
values-folded old new size half u e s =
    blocks_is size (folded_words old 0 half u) new (s.length_kept ∙ e) (λ i h. ap (λ k. words_at new k) (sym (Nat.zero-add i)) ∙ folded_at old old new 0 half u (λ i h. refl) s i)

module _ (g : Given) (t : Turn) (j : ℕ) (u : List ℕ) (w : Work) where
  -- the step and what is left in the work buffers
  abbrev pub Folded : Step → Work → Type 0
  Folded s new = (s ≡ step_of (fold_number g t j u w) t (one_more t)) × (new ≡ fold_work g t j u w)

  refused : {e : Refusal} → answer_of (fold_number g t j u w) ≡ Err e → {s : Step} → s ≡ answered (Err e) t → Folded s w
  unfolding fold_work
  refused h k = (step-refused _ h t (one_more t) k, work_is (left_old _ h _ w.q) (left_old _ h _ w.eq) (left_old _ h _ w.rot) (left_old _ h _ w.ub))

  -- round_plan, for a flag that is the turn's
  module _ {b : Bool} (turned : b ≡ fold_turn g.stack j t) where
    pub fold_refused : {e : Refusal} → answer_of (round_number g b j w) ≡ Err e → {x : Step} → x ≡ answered (Err e) t → Folded x w
    unfolding fold_number
    fold_refused h k = refused (refusal_stops _ _ (turned_refusal g j w turned h)) k

    module _ (s : Plan) (plan : Planned g (round_number g b j w) s) {f : Bool} (scan : f ≡ canonical_four u) where
      is : Planned g (round_number g (fold_turn g.stack j t) j w) s
      is = turned-plan j w turned plan

      pub challenge_refused : f ≡ false → {x : Step} → x ≡ answered (Err NotCanonical) t → Folded x w
      unfolding fold_number answer_of settled refusal_of refusals
      challenge_refused h k = refused (refusal_passes _ _ is.passed (ap answer_of (Firsts.refused 10 (not (canonical_four u)) (ap not (sym scan ∙ h))))) k

      module _ (fine : f ≡ true) where
        zero : fold_number g t j u w ≡ 0
        unfolding fold_number
        zero = sym (skip _ _ is.passed (sym (passed 10 (not (canonical_four u)) (ap not (sym scan ∙ fine)))))

        canonical : Canonical u
        canonical = four_canonical u (sym scan ∙ fine)

        turn : InRound g.stack j (2 * j + 2) t
        turn = round_turn g _ j w s is (2 * j + 2) t refl

        pub from : 1 ≤ j
        from = turn.some

        pub to : j ≤ g.stack
        to = turn.most

        pub facts : PlanFacts g w s
        facts = round_planned g _ j w s is

        pub fold_calls : t.calls ≤ 43
        fold_calls = omega (arith, turn.accepted, to, facts.stack_few)

        live : LiveRound g.skip g.stack g.lists s.stacked s.slots j w.q w.eq w.rot
        live = round_live g _ j w s is (λ h. (from, to))

        -- the pairs of all stack columns, as the code counts them
        abbrev half : ℕ
        half = s.stacked * 2 ^ (g.stack - j) % 18446744073709551616

        half_is : half ≡ s.stacked * 2 ^ (g.stack - j)
        half_is = shifted s.stacked (g.stack - j) (omega (arith, facts.stacked_few)) (omega (arith, facts.stack_few))

        all : 2 * half ≡ s.stacked * 2 ^ (g.stack - (j - 1))
        all =
            ap (λ a. 2 * a) half_is ∙ Nat.mul_left_comm 2 s.stacked (2 ^ (g.stack - j))
            ∙ ap (λ a. s.stacked * a) (sym (twice (g.stack - (j - 1)) (g.stack - j) (let a = from in let b = to in omega arith)))

        pub mle-asks : (4 * (0 + 2 * half) ≤ length w.q) × (CanonicalFrom w.q 0 (2 * half) × Canonical u)
        mle-asks = (
          omega (arith, all, facts.q_length, Nat.mul-le-mul_left s.stacked (Nat.pow-le-pow_right {n = 2} (omega arith) {i = g.stack - (j - 1)} {j = g.stack} (omega arith))),
          (subst (CanonicalFrom w.q 0) (sym all) live.values, canonical),
        )

        abbrev pub TableAsks : List ℕ → Type 0
        TableAsks x = ((g.stack ≤ 20) × (g.skip + g.stack ≤ 24) × (1 ≤ j) × (j ≤ g.stack)) × (Slots g.skip g.stack g.lists s.slots
            × ((length x ≡ 4 * table_size g.skip g.stack g.lists) × ((live_tables g.skip g.lists (j - 1) x (g.skip + g.stack + 1) ≡ true) × Canonical u)))

        pub eq_asks : TableAsks w.eq
        eq_asks = ((facts.stack_few, facts.sum_few, from, to), (facts.slots_are, (live.eq_size, (live.eq_live, canonical))))

        pub rot_asks : TableAsks w.rot
        rot_asks = ((facts.stack_few, facts.sum_few, from, to), (facts.slots_are, (live.rot_size, (live.rot_live, canonical))))

        pub weights_ask : ((g.skip + g.stack ≤ 24) × (1 ≤ j) × (j ≤ g.stack)) × (Walked g.skip g.stack s.first g.lists s.columns × (length w.ub ≡ 4 * s.columns))
        weights_ask = ((facts.sum_few, from, to), ((round_placed g _ j w s is).walked, facts.ub_length))

        pub fold_done : {q eq rot ub : List ℕ} → Written w.q 0 (2 * half) (below F half (fold_mle F (elems_from w.q 0) (elem_of u))) q
            → eq ≡ fold_tables g.skip g.stack g.lists j (elem_of u) w.eq → rot ≡ fold_tables g.skip g.stack g.lists j (elem_of u) w.rot
            → ub ≡ elem_words s.columns (folded_tables (run_of g.skip g.stack s.first g.lists g.r g.lambda) j (elem_of u) (tables_of g.skip g.lists w)).weight
            → {x : Step} → x ≡ answered (Ok tt) (one_more t) → Folded x (work q eq rot ub)
        unfolding fold_work fold_values fold_weights
        fold_done {q} a b c d k = (
          k ∙ step_done _ zero t (one_more t),
          work_is
              (values-folded w.q q (s.stacked * 2 ^ g.stack) half (elem_of u) facts.q_length a
              ∙ ap₂ (λ m k. blocks (m * 2 ^ g.stack) (folded_words w.q 0 k (elem_of u))) is.is_stacked (half_is ∙ ap (λ m. m * 2 ^ (g.stack - j)) is.is_stacked) ∙ left_new _ zero _ w.q)
              (b ∙ left_new _ zero _ w.eq) (c ∙ left_new _ zero _ w.rot)
              (d ∙ ap₂ (λ m f. elem_words m (folded_tables (run_of g.skip g.stack f g.lists g.r g.lambda) j (elem_of u) (tables_of g.skip g.lists w)).weight) facts.columns_are facts.first_is ∙ left_new _ zero _ w.ub),
        )
