-- What stands behind the values in the work buffers, words and all. Document 01: after a fold the values stand first (the stack columns of all commitments
-- packed, each table from its own start), zeros after.
use Rattle.std.specs.Prelude.{◌≡◌, List, ℕ, ◌+◌, ◌-◌, ◌*◌, ◌^◌, ◌<◌, ◌≤◌}
use Rattle.field.specs.Element.{F, words_of}
use Rattle.field.specs.Slice.{words_at}
use Rattle.prover.specs.Given.{Given, Work, stacked}
use Rattle.prover.specs.Slots.{entries, slot_start}
use Rattle.prover.specs.CallNumbers.{live}

-- the words of element i are zero
abbrev pub ZeroAt : List ℕ → ℕ → Type 0
ZeroAt xs i = words_at xs i ≡ words_of F.zero

module _ (g : Given) (j : ℕ) where
  -- behind the packed stack columns, 2^(n_stack − j) values each
  abbrev pub ValueZeros : List ℕ → Type 0
  ValueZeros q = (i : ℕ) → stacked g * 2 ^ (g.stack - j) ≤ i → i < stacked g * 2 ^ g.stack → ZeroAt q i

  -- in each height's table behind the entries that j folds leave
  abbrev pub TableZeros : List ℕ → Type 0
  TableZeros t =
      (h x : ℕ) → h ≤ g.skip + g.stack → live (entries g.skip g.lists h) j ≤ x → x < entries g.skip g.lists h
      → ZeroAt t (slot_start g.skip g.lists h + x)

  -- after the fold at u_0 and the folds of j rounds
  pub record ZerosAfter (w : Work) : Type 0 where
    pub values : ValueZeros w.q
    pub eq : TableZeros w.eq
    pub rot : TableZeros w.rot
