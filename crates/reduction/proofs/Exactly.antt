-- Where nothing is refused, the game is the verdict: the same lists of challenges get a yes.
use mathlib.Core.Path.{◌≡◌, refl, sym, ◌∙◌, ap}
use mathlib.Core.Bool.{Bool, true, false, not}
use mathlib.Core.List.{List, [], ◌∷◌}
use Prim.Native.Nat.{suc, ◌+◌, ◌-◌, ◌*◌, ◌^◌}
use native.Mathlib.Omega.{arith}
use lib.ListN.{length}
use borrow.Author.Tests.{eq-eqb}
use Rattle.algebra.proofs.Counts.{count_same}
use Rattle.field.specs.Number.{number_of}
use Rattle.field.specs.Element.{Elem, words_of, elem_of}
use Rattle.field.specs.Enumeration.{how_many_f}
use Rattle.field.specs.Slice as Slice
use Rattle.field.proofs.Elements.{canonical_words_of}
use Rattle.field.proofs.FourWords.{canonical_four_lem}
use Rattle.field.proofs.ElementWords.{length-elem_words}
use Rattle.field.proofs.Enumerated.{each_once}
use Rattle.layout.specs.Triples.{column_count}
use Rattle.layout.specs.Lists.{first_count}
use Rattle.layout.specs.Placing.{stack_width}
use Rattle.layout.proofs.Firsts.{or_skip, passed}
use Rattle.weights.specs.AtField.{true_opening_f}
use Rattle.verifier.specs.Numbers.{slices_number, words_number, asked_number}
use Rattle.reduction.specs.Verdict.{all_words}
use Rattle.reduction.specs.Senders.{Instance, Sender, pair_at, alternating, run_at, cells, asked_at, says_yes}
use Rattle.reduction.specs.Lies.{columns_of, WellFormed}
use Rattle.reduction.proofs.CallNumbers.{right-length, right_words}
use Rattle.reduction.proofs.ReturnedWords.{length-all_words, canonical_all_words, canonical_elem_words}
use Rattle.reduction.proofs.Alternations.{length-alternating}
use Rattle.reduction.proofs.LambdaPolynomials.{before_any}
use Rattle.reduction.proofs.Played.{game, yes_of_won}
use Rattle.reduction.proofs.PlayedOn.{played}

four : (x : Elem) → Slice.canonical_four (words_of x) ≡ true
four x = canonical_four_lem (words_of x) (canonical_words_of x)

module _ (t : Instance) (s : Sender) (formed : WellFormed t) where
  -- none of 1 to 10
  asked-right : (l u : Elem) (us : List Elem) → length us ≡ t.stack → asked_number (asked_at t s l u us) ≡ 0
  unfolding asked_number slices_number words_number
  asked-right l u us all =
      let W = stack_width t.skip t.stack (first_count t.counts) t.lists in
      let f = true_opening_f (run_at t l) (cells t) u us in
      let ps = alternating t.stack (λ j. (pair_at s l u us j).0) (λ j. (pair_at s l u us j).1) in
      let size : length ps ≡ 2 * t.stack = length-alternating t.stack (λ j. (pair_at s l u us j).0) (λ j. (pair_at s l u us j).1) in
      let pairs : length (all_words ps) ≡ 8 * t.stack = length-all_words ps ∙ (let e : 4 * length ps ≡ 8 * t.stack = omega arith in e) in
      or_skip _ _ formed.lists
      ∙ or_skip _ _ formed.sizes
      ∙ or_skip _ _
      (or_skip _ _ (right-length _ _ formed.point)
      ∙ or_skip _ _ (right-length _ _ (length-all_words (u ∷ us) ∙ (let e : 4 * suc (length us) ≡ 4 * (t.stack + 1) = omega arith in e)))
      ∙ or_skip _ _ (right-length _ _ (formed.claims_asked_lem ∙ ap (λ m. 4 * m) (sym (before_any (columns_of t) (elem_of (words_of l)) (column_count t.lists)))))
      ∙ or_skip _ _ (right-length _ _ (length-elem_words (2 ^ (t.skip + 1) - 1) (s.first l)))
      ∙ or_skip _ _ (right-length _ _ pairs)
      ∙ or_skip _ _ (right-length _ _ (length-elem_words W f))
      ∙ right-length _ _ (formed.observed_asked ∙ sym (λ i. length-elem_words (2 ^ (t.skip + 1) - 1) (s.first l) i + pairs i + length-elem_words W f i)))
      ∙ or_skip _ _ (right_words _ formed.point_words)
      ∙ or_skip _ _ (passed 10 _ (ap not (four l)))
      ∙ or_skip _ _ (right_words _ (canonical_all_words (u ∷ us)))
      ∙ or_skip _ _ (right_words _ formed.claims_words_lem)
      ∙ or_skip _ _ (right_words _ (canonical_elem_words (2 ^ (t.skip + 1) - 1) (s.first l)))
      ∙ or_skip _ _ (right_words _ (canonical_all_words ps))
      ∙ right_words _ (canonical_elem_words W f)

  yes_there : (v : List Elem) → length v ≡ suc (suc t.stack) → game t s v ≡ true → says_yes t s v ≡ true
  unfolding says_yes
  yes_there [] e h = absurd (omega arith)
  yes_there (l ∷ []) e h = absurd (omega arith)
  yes_there (l ∷ u ∷ us) e h = eq-eqb _ 0 (ap number_of (yes_of_won t s l u us (omega arith) (asked-right l u us (omega arith)) h))

  same_bool : (b c : Bool) → (b ≡ true → c ≡ true) → (c ≡ true → b ≡ true) → b ≡ c
  same_bool true true f g = refl
  same_bool false false f g = refl
  same_bool true false f g = sym (f refl)
  same_bool false true f g = g refl

  pub exactly : how_many_f (suc (suc t.stack)) (says_yes t s) ≡ how_many_f (suc (suc t.stack)) (game t s)
  exactly =
      count_same each_once (suc (suc t.stack)) (says_yes t s) (game t s) (λ v e.
      same_bool (says_yes t s v) (game t s v) (λ h. played t s v e h) (λ h. yes_there v e h))
