-- Slices in words below p as tables of elements.
use Rattle.std.proofs.Common.{◌≡◌, ℕ, ◌*◌, ◌<◌, ◌≤◌, List, length, ap, ◌∙◌, zero-add, arith}
use Rattle.field.specs.Canonical.{Canonical}
use Rattle.field.specs.Element.{Elem, words_of}
use Rattle.field.specs.Slice.{elem_at, words_at}
use Rattle.field.proofs.Elements.{canonical_words_lem}
use Rattle.field.proofs.ElementWords.{elem_at_words}
use Rattle.prover.specs.Gained.{Elements, Table}
use Rattle.prover.specs.Live.{Held}
use Rattle.prover.specs.Written.{Written}
use Rattle.prover.proofs.Writing.{first_words_lem}

pub table_elements : {n : ℕ} {f : ℕ → Elem} {xs : List ℕ} → Table n f xs → Elements n xs
table_elements t = record { size = t.size; canonical = λ i h. canonical_words_lem _ (t.entries i h) }

pub table_entry : {n : ℕ} {f : ℕ → Elem} {xs : List ℕ} → Table n f xs → (i : ℕ) → i < n → elem_at xs i ≡ f i
table_entry {n} {f} {xs} t i h = elem_at_words xs i (f i) (t.entries i h)

pub table_cong : {n : ℕ} {f g : ℕ → Elem} {xs : List ℕ} → Table n f xs → ((i : ℕ) → i < n → f i ≡ g i) → Table n g xs
table_cong t e = record { size = t.size; entries = λ i h. t.entries i h ∙ ap words_of (e i h) }

pub element_read : {n : ℕ} {xs : List ℕ} → Elements n xs → (i : ℕ) {x : List ℕ} → i < n → x ≡ words_at xs i → Canonical x
element_read t i h e = rw e (t.canonical i h)

pub elements_held : {n m : ℕ} {xs : List ℕ} → Elements n xs → m ≡ n → Held xs 0 m
elements_held {n} {m} {xs} e q =
    let s : length xs ≡ 4 * n = e.size in
    record { room = omega arith; below = λ i h. rw (zero-add i) (e.canonical i (omega arith)) }

-- a slice written from its first element to its last
pub written_table : {b : List ℕ} {i : ℕ} (n : ℕ) {f : ℕ → Elem} {new : List ℕ} → Written b 0 i f new → n ≤ i → length b ≡ 4 * n → Table n f new
written_table n {f} {new} w le size =
    record { size = w.length_kept ∙ size; entries = λ k h. first_words_lem w k (omega arith) }
