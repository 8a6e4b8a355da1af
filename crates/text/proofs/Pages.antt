-- Bytes put into a page, one after the other; and a space and a text put there.
use Prim.Native.Nat.{ℕ, ◌≤◌, ◌<◌, ◌+◌, ◌-◌}
use mathlib.Core.Path.{◌≡◌, refl, sym, ap, ◌∙◌}
use mathlib.Core.Bool.{Bool, true, false, cond}
use mathlib.Core.List.{List, [], ◌∷◌, ◌++◌, append_assoc}
use mathlib.Core.Logic.{⊎_elim}
use native.Mathlib.Omega.{arith}
use native.Mathlib.Numerals.{add-one}
use native.Mathlib.Nat.{add-zero, min-zero, min-eq_left, min-le_right}
use lib.ListN.{length, get_or, set, take, drop, length-append}
use lib.Seq.{paste, paste-zero, paste-suc, length-paste, take-paste, drop-paste, take_all, drop-drop, take-append-add, take-append-le}
use lib.Dec.{ltb}
use borrow.Author.Tests.{ltb-true}
use Rattle.text.proofs.Orders.{below_or}
use Rattle.text.specs.Printed.{fitting, Appended, place, filled, put_of}

module _ (out bytes : List ℕ) (at : ℕ) where
  -- past the page's end nothing has room
  pub past_the_end : length out < at → (at ≡ at + fitting out at bytes) × (out ≡ paste out at bytes (fitting out at bytes))
  past_the_end h =
      let e : length out - at ≡ 0 = omega arith in
      let z : fitting out at bytes ≡ 0 = rw e (min-zero (length bytes)) in
      rw z (sym (add-zero at), paste-zero out at bytes)

  pub within : at ≤ length out → at + fitting out at bytes ≤ length out
  within h = omega (arith, min-le_right (length bytes) (length out - at))

  pub one_more : (now : List ℕ) (i : ℕ) → now ≡ paste out at bytes i → at + i < length out → i < length bytes
      → set now (at + i) (get_or bytes i 0) ≡ paste out at bytes (i + 1)
  one_more now i e hd hs = rw (e, add-one) (paste-suc out at bytes i 0 hd hs)

  -- bytes that fit stand there whole
  pub all_fit : at + length bytes ≤ length out → fitting out at bytes ≡ length bytes
  all_fit h = min-eq_left (omega arith)

-- bytes behind bytes
module _ (page mid last a b : List ℕ) (at next to : ℕ) (p : Appended page at a next mid) (q : Appended mid next b to last) where
  past : length page < at → Appended page at (a ++ b) to last
  past h =
      let none = past_the_end page a at h in
      let n : next ≡ at = p.ends ∙ sym none.0 in
      let m : mid ≡ page = p.stands ∙ sym none.1 in
      let None-more = past_the_end page b at h in
      let nothing = past_the_end page (a ++ b) at h in
      record {
        ends = q.ends ∙ ap (λ k. k + fitting mid k b) n ∙ ap (λ l. at + fitting l at b) m ∙ sym None-more.0 ∙ nothing.0;
        stands = q.stands ∙ ap (λ k. paste mid k b (fitting mid k b)) n ∙ ap (λ l. paste l at b (fitting l at b)) m ∙ sym None-more.1 ∙ nothing.1;
      }

  module _ (h : at + length a ≤ length page) where
    put_whole : mid ≡ paste page at a (length a)
    put_whole = p.stands ∙ ap (paste page at a) (all_fit page a at h)

    after : next ≡ at + length a
    after = p.ends ∙ ap (λ n. at + n) (all_fit page a at h)

    size : length mid ≡ length page
    size = ap length put_whole ∙ length-paste page at a (length a) h (omega arith)

    head : take (at + length a) mid ≡ take at page ++ a
    head = ap (take (at + length a)) put_whole ∙ take-paste page at a (length a) (omega arith) (omega arith) ∙ ap (λ l. take at page ++ l) (take_all (length a) a (omega arith))

    tail : drop (at + length a) mid ≡ drop (at + length a) page
    tail = ap (drop (at + length a)) put_whole ∙ drop-paste page at a (length a) (omega arith) (omega arith)

    count : fitting page at (a ++ b) ≡ length a + fitting mid next b
    count = omega (arith, length-append a b, size, after)

    more : (n : ℕ) → paste mid (at + length a) b n ≡ paste page at (a ++ b) (length a + n)
    more n =
        let e : at + length a + n ≡ at + (length a + n) = omega arith in
        let d : drop (at + length a + n) mid ≡ drop (at + (length a + n)) page =
        sym (drop-drop n (at + length a) mid) ∙ ap (drop n) tail ∙ drop-drop n (at + length a) page ∙ ap (λ k. drop k page) e in
        ap (λ l. l ++ take n b ++ drop (at + length a + n) mid) head
        ∙ ap (λ l. take at page ++ a ++ take n b ++ l) d
        ∙ ap (λ l. l ++ drop (at + (length a + n)) page) (append_assoc (take at page) a (take n b) ∙ ap (λ l. take at page ++ l) (sym (take-append-add a b n)))

    both_whole : Appended page at (a ++ b) to last
    both_whole = record {
      ends = q.ends ∙ omega (arith, after, count);
      stands = q.stands ∙ ap (λ k. paste mid k b (fitting mid next b)) after ∙ more (fitting mid next b) ∙ ap (paste page at (a ++ b)) (sym count);
    }

  cut : at ≤ length page → length page < at + length a → Appended page at (a ++ b) to last
  cut low h =
      let f : fitting page at a ≡ length page - at = omega arith in
      let m : mid ≡ paste page at a (length page - at) = p.stands ∙ ap (paste page at a) f in
      let n : next ≡ length page = omega (arith, p.ends, f) in
      let size : length mid ≡ length page = ap length m ∙ length-paste page at a (length page - at) (omega arith) (omega arith) in
      let none : fitting mid next b ≡ 0 = omega (arith, n, size) in
      let all : fitting page at (a ++ b) ≡ length page - at = omega (arith, length-append a b) in
      let same : paste page at a (length page - at) ≡ paste page at (a ++ b) (length page - at) =
      ap (λ l. take at page ++ l ++ drop (at + (length page - at)) page) (sym (take-append-le (length page - at) a b (omega arith))) in
      record {
        ends = q.ends ∙ omega (arith, none, n, all);
        stands = q.stands ∙ ap (paste mid next b) none ∙ sym (paste-zero mid next b) ∙ m ∙ same ∙ ap (paste page at (a ++ b)) (sym all);
      }

  pub appended_both : Appended page at (a ++ b) to last
  appended_both = ⊎_elim past (λ low. ⊎_elim (cut low) both_whole (below_or (length page) (at + length a))) (below_or (length page) at)

below_page : (at : ℕ) (t : Bool) → ltb at 4000 ≡ t → cond t at 0 < 4000
below_page at true e = ltb-true at 4000 e
below_page at false e = omega arith

pub place_low : (at : ℕ) → place at < 4000
unfolding place
place_low at = below_page at (ltb at 4000) refl

-- a space and a text of at most 32 bytes, in a page with room
module _ (page mid last text : List ℕ) (at next to : ℕ) where
  pub spaced : length page ≡ 4096 → length text ≤ 32 → Appended page (place at) (32 ∷ []) next mid → Appended mid next text to last
      → filled last to ≡ put_of (filled page at) text
  unfolding put_of
  spaced size short p q =
      let both = appended_both page mid last (32 ∷ []) text (place at) next to p q in
      let whole = all_fit page (32 ∷ text) (place at) (omega (arith, place_low at)) in
      rw (both.ends, both.stands, whole) refl
