-- One height at u_0: its rotation table from the unscaled eq entries, then its eq table with the height's factor as the starting element; and one height
-- more of both buffers.
use Rattle.std.proofs.Common.{◌≡◌, ℕ, ◌+◌, ◌-◌, ◌*◌, ◌^◌, ◌<◌, ◌≤◌, List, length, get_or, sym, refl, ap, ◌∙◌, subst, ap₂, arith}
use Rattle.algebra.specs.Multilinear.{cube_factor}
use Rattle.algebra.proofs.RingLaws as Laws
use Rattle.field.specs.Element.{Elem, F, ◌⊗◌, elem_of, words_of}
use Rattle.field.specs.Canonical.{Canonical}
use Rattle.field.proofs.Elements.{elem_of_words, canonical_words_lem}
use Rattle.tables.specs.Points.{coordinates}
use Rattle.prover.specs.declared.kernels.Kernels.{Kernels}
use Rattle.prover.specs.Words.{CanonicalFrom}
use Rattle.prover.specs.Written.{Written, elems_from}
use Rattle.prover.specs.Rotated.{rotated}
use Rattle.prover.specs.Given.{Given, run}
use Rattle.prover.specs.Slots.{slot_start, table_size, Slots}
use Rattle.prover.specs.Live.{Held}
use Rattle.weights.specs.Run.{Run}
use Rattle.prover.specs.Calls.{lent, uni_eq, uni_rot}
use Rattle.prover.specs.UniKernels.{eq_scale, rot_scale, rot_shift, kernels_of}
use Rattle.prover.proofs.Numbers.{four, elem_one}
use Rattle.prover.proofs.Writing.{written_none, written_cong}
use Rattle.prover.proofs.Filled.{Filled, filled_end}
use Rattle.prover.proofs.HeightWalks.{entry_stands, height-written, rotated_cong}

-- no entry: nothing is written
pub none_written : (old : List ℕ) (at count : ℕ) (w : ℕ → Elem) → count ≡ 0 → Written old at count w old
none_written old at count w e = subst (λ m. Written old at m w old) (sym e) (written_none old at w)

pub all_written : (old : List ℕ) (at count m : ℕ) (w : ℕ → Elem) {new : List ℕ} → count ≡ m → Written old at m w new → Written old at count w new
all_written old at count m w {new} e s = subst (λ c. Written old at c w new) (sym e) s

-- the words of one, which start's tables and weights begin with
pub one_canonical : Canonical (four 1 0 0 0)
one_canonical = record { w0 = omega arith; w1 = omega arith; w2 = omega arith; w3 = omega arith }

pub plain-written : (old : List ℕ) (at m : ℕ) (f : ℕ → Elem) {new : List ℕ} → Written old at m (λ x. elem_of (four 1 0 0 0) ⊗ f x) new → Written old at m f new
plain-written old at m f s = written_cong s (λ i _. ap (λ v. v ⊗ f i) elem_one ∙ Laws.one_mul F (f i))

module _ (run : Run Elem) (h : ℕ) (u : Elem) {k : Kernels} (is : k ≡ kernels_of run h u) where
  pub eq_canonical : Canonical k.eq
  eq_canonical = canonical_words_lem _ (ap (λ (x : Kernels). x.eq) is)

  pub rot_canonical : Canonical k.rot
  rot_canonical = canonical_words_lem _ (ap (λ (x : Kernels). x.rot) is)

  pub shift_canonical : Canonical k.shift
  shift_canonical = canonical_words_lem _ (ap (λ (x : Kernels). x.shift) is)

  pub started_is : (r old : List ℕ) (at count m : ℕ) (lift : ℕ) {new : List ℕ} → count ≡ 2 ^ m → lift ≡ m
      → Written old at (2 ^ lift) (λ x. elem_of k.eq ⊗ cube_factor F (coordinates r 1 lift) x) new
      → Written old at count (λ x. eq_scale run h u ⊗ cube_factor F (coordinates r 1 m) x) new
  started_is r old at count m lift {new} ec el s =
      all_written old at count (2 ^ m) _ ec
      (written_cong (subst (λ a. Written old at (2 ^ a) (λ x. elem_of k.eq ⊗ cube_factor F (coordinates r 1 a) x) new) el s)
      (λ i _. ap (λ v. v ⊗ cube_factor F (coordinates r 1 m) i) (elem_of_words _ (ap (λ (x : Kernels). x.eq) is))))

  pub turned_is : (eq rot : List ℕ) (at count m : ℕ) (lift : ℕ) {new : List ℕ} → count ≡ 2 ^ m → lift ≡ m
      → Written rot at (2 ^ lift) (rotated (2 ^ lift) (elems_from eq at) (elem_of k.rot) (elem_of k.shift)) new
      → Written rot at count (rotated (2 ^ m) (elems_from eq at) (rot_scale run h u) (rot_shift run h u)) new
  turned_is eq rot at count m lift {new} ec el s =
      all_written rot at count (2 ^ m) _ ec
      (written_cong (subst (λ a. Written rot at (2 ^ a) (rotated (2 ^ a) (elems_from eq at) (elem_of k.rot) (elem_of k.shift)) new) el s)
      (λ i _. ap₂ (λ a b. rotated (2 ^ m) (elems_from eq at) a b i) (elem_of_words _ (ap (λ (x : Kernels). x.rot) is)) (elem_of_words _ (ap (λ (x : Kernels). x.shift) is))))

-- what the rotation asks
pub rotate_asks : (eq rot : List ℕ) (at count m lift : ℕ) → count ≡ 2 ^ m → lift ≡ m → m ≤ 20 → Held eq at count → 4 * (at + count) ≤ length rot
    → (lift ≤ 20) × ((4 * (at + 2 ^ lift) ≤ length eq) × ((4 * (at + 2 ^ lift) ≤ length rot) × CanonicalFrom eq at (2 ^ lift)))
rotate_asks eq rot at count m lift ec el low held room =
    let same : count ≡ 2 ^ lift = ec ∙ ap (λ a. 2 ^ a) (sym el) in
    (omega arith, (subst (λ a. 4 * (at + a) ≤ length eq) same held.room, (subst (λ a. 4 * (at + a) ≤ length rot) same room, subst (CanonicalFrom eq at) same held.below)))

-- what the eq table asks
pub table_asks : (r eq : List ℕ) (at count m lift : ℕ) → count ≡ 2 ^ m → lift ≡ m → m ≤ 20 → 4 * (m + 1) ≤ length r → Held eq at count
    → (lift ≤ 20) × ((4 * (lift + 1) ≤ length r) × (4 * (at + 2 ^ lift) ≤ length eq))
table_asks r eq at count m lift ec el low long held =
    (omega arith, (omega arith, subst (λ a. 4 * (at + a) ≤ length eq) (ec ∙ ap (λ a. 2 ^ a) (sym el)) held.room))

module _ {l n : ℕ} {lists slots : List ℕ} (s : Slots l n lists slots) (h : ℕ) (k : h < l + n + 1) where
  abbrev at : ℕ
  at = get_or slots h 0

  abbrev count : ℕ
  count = get_or slots (h + 1) 0 - get_or slots h 0

  start : at ≡ slot_start l lists h
  start = s.starts h (omega arith)

  -- the eq table in its place; nothing of what stood there goes into it
  pub scale_more : (old : List ℕ) (f : ℕ → ℕ → Elem) {mid new : List ℕ} → Filled l lists old (λ g x. words_of (f g x)) h mid → Written mid at count (f h) new
      → Filled l lists old (λ g x. words_of (f g x)) (h + 1) new
  scale_more old f done t = height-written s h k old _ done (f h) t (λ x. refl)

  -- the rotation table, from eq entries that stand as they were lent
  module _ (old : List ℕ) (f : ℕ → ℕ → List ℕ) {mid : List ℕ} (done : Filled l lists old f h mid) where
    pub rotate_more : (A B : ℕ → Elem) (rot : List ℕ) {now new : List ℕ}
        → Filled l lists rot (λ g x. words_of (rotated (2 ^ (g - l)) (elems_from old (slot_start l lists g)) (A g) (B g) x)) h now
        → Written now at count (rotated (2 ^ (h - l)) (elems_from mid at) (A h) (B h)) new
        → Filled l lists rot (λ g x. words_of (rotated (2 ^ (g - l)) (elems_from old (slot_start l lists g)) (A g) (B g) x)) (h + 1) new
    rotate_more A B rot made t =
        height-written s h k rot _ made _ t (λ x. ap words_of (rotated_cong (2 ^ (h - l)) (elems_from mid at) (elems_from old (slot_start l lists h)) (A h) (B h) (λ i. entry_stands s h k old _ done i ∙ ap (λ a. elems_from old a i) start) x))

-- both buffers, the heights below h done
module _ (g : Given) (u : Elem) (eq rot : List ℕ) where
  abbrev started : ℕ → ℕ → Elem
  started h x = eq_scale (run g) h u ⊗ cube_factor F (coordinates g.r 1 (h - g.skip)) x

  pub record Scaling (h : ℕ) (now turned : List ℕ) : Type 0 where
    pub eqs : Filled g.skip g.lists eq (λ h x. words_of (started h x)) h now
    pub rots : Filled g.skip g.lists rot (λ h x. words_of (rotated (2 ^ (h - g.skip)) (lent g u eq h) (rot_scale (run g) h u) (rot_shift (run g) h u) x)) h turned

  module _ (h : ℕ) {now turned : List ℕ} (done : h ≡ g.skip + g.stack + 1) (s : Scaling h now turned) where
    pub scaling_eq : length eq ≡ 4 * table_size g.skip g.stack g.lists → now ≡ uni_eq g u
    unfolding uni_eq
    scaling_eq size = filled_end g.skip g.lists eq _ g.stack (subst (λ k. Filled g.skip g.lists eq (λ h x. words_of (started h x)) k now) done s.eqs) size

    pub scaling_rot : length rot ≡ 4 * table_size g.skip g.stack g.lists → turned ≡ uni_rot g u eq
    unfolding uni_rot
    scaling_rot size = filled_end g.skip g.lists rot _ g.stack (subst (λ k. Filled g.skip g.lists rot (λ h x. words_of (rotated (2 ^ (h - g.skip)) (lent g u eq h) (rot_scale (run g) h u) (rot_shift (run g) h u) x)) k turned) done s.rots) size
