-- What is known in a call whose number is 0: its lists, its turn, the lengths and the words of what it takes.
use Rattle.std.proofs.Common.{◌≡◌, ℕ, ◌+◌, ◌-◌, ◌*◌, ◌^◌, Bool, true, not, List, length, arith}
use borrow.Author.Tests.{not-false}
use Rattle.field.specs.Slice.{canonical_words, canonical_four}
use Rattle.layout.specs.Checks.{refuse, length_number, word_number}
use Rattle.layout.specs.Lists.{lists_number, lists_length}
use Rattle.layout.proofs.Firsts.{or_passed, is_false}
use Rattle.layout.proofs.CheckChains.{length_is}
use Rattle.layout.proofs.RunLaws.{Listed, lists-passed}
use Rattle.prover.specs.Given.{Given, Work, stacked, columns}
use Rattle.prover.specs.Slots.{table_size}
use Rattle.prover.specs.Blocks.{part}
use Rattle.prover.specs.CallNumbers.{lengths_number, called_number, given_number, point_number, live_tables, live_number, start_number, uni_words, uni_number, round_number, openings_words, openings_number, listed_number, made_words, made_number}
use Rattle.prover.specs.declared.turns.Turn.{Turn}
use Rattle.prover.specs.Turns.{uni_turn, openings_turn}

scanned : (t : Bool) → refuse 10 (not t) ≡ 0 → t ≡ true
scanned t e = not-false t (is_false 10 _ (omega arith) e)

-- the lists, the turn, and the lengths of r and the work buffers
pub record GivenReady (g : Given) (turned : Bool) (w : Work) : Type 0 where
  pub listed : Listed g.skip g.stack g.counts g.lists
  pub turn : turned ≡ true
  pub r_length : length g.r ≡ 4 * (g.stack + 1)
  pub q_length : length w.q ≡ 4 * (stacked g * 2 ^ g.stack)
  pub eq_length : length w.eq ≡ 4 * table_size g.skip g.stack g.lists
  pub rot_length : length w.rot ≡ 4 * table_size g.skip g.stack g.lists
  pub ub_length : length w.ub ≡ 4 * columns g

-- the lists and the turn of a call without work buffers
pub record ListedReady (g : Given) (turned : Bool) : Type 0 where
  pub listed : Listed g.skip g.stack g.counts g.lists
  pub turn : turned ≡ true

-- r and lambda
pub record PointReady (g : Given) : Type 0 where
  pub r_words : canonical_words g.r ≡ true
  pub lambda_words : canonical_four g.lambda ≡ true

-- the live part of the work buffers after j folds
pub record LiveReady (g : Given) (j : ℕ) (w : Work) : Type 0 where
  pub q_words : canonical_words (part w.q 0 (stacked g * 2 ^ (g.stack - j))) ≡ true
  pub eq_words : live_tables g.skip g.lists j w.eq (g.skip + g.stack + 1) ≡ true
  pub rot_words : live_tables g.skip g.lists j w.rot (g.skip + g.stack + 1) ≡ true
  pub ub_words : canonical_words w.ub ≡ true

pub record RoundReady (g : Given) (turned : Bool) (j : ℕ) (w : Work) : Type 0 where
  pub given : GivenReady g turned w
  pub point : PointReady g
  pub live : LiveReady g (j - 1) w

-- what the fold at u_0 takes besides
pub record UniReady (g : Given) (matrices : List ℕ) (w : Work) : Type 0 where
  pub matrices_length : length matrices ≡ stacked g * 2 ^ (g.skip + g.stack)
  pub matrices_words : canonical_words matrices ≡ true
  pub point : PointReady g
  pub eq_words : canonical_words w.eq ≡ true

-- what the openings take besides
pub record OpeningsReady (g : Given) (out : ℕ) (w : Work) : Type 0 where
  pub out_length : out ≡ 4 * stacked g
  pub point : PointReady g
  pub q_words : canonical_words (part w.q 0 (stacked g)) ≡ true

-- what a call without work buffers takes besides
pub record MadeReady (g : Given) (asked : ℕ) (matrices : List ℕ) (out : ℕ) : Type 0 where
  pub r_length : length g.r ≡ 4 * (g.stack + 1)
  pub matrices_length : length matrices ≡ stacked g * 2 ^ (g.skip + g.stack)
  pub out_length : out ≡ asked
  pub point : PointReady g
  pub matrices_words : canonical_words matrices ≡ true

module _ (g : Given) where
  pub given_passed : (turned : Bool) (w : Work) → given_number g turned w ≡ 0 → GivenReady g turned w
  unfolding called_number lengths_number
  given_passed turned w e =
      let a = or_passed (lists_number g.skip g.stack g.counts g.lists) _ e in
      let b = or_passed (refuse 8 (not turned)) _ a.1 in
      let c = or_passed (lists_length g.counts g.lists) _ b.1 in
      let d = or_passed (length_number (length g.r) (4 * (g.stack + 1))) _ c.1 in
      let f = or_passed (length_number (length w.q) (4 * (stacked g * 2 ^ g.stack))) _ d.1 in
      let h = or_passed (length_number (length w.eq) (4 * table_size g.skip g.stack g.lists)) _ f.1 in
      let k = or_passed (length_number (length w.rot) (4 * table_size g.skip g.stack g.lists)) _ h.1 in
      record {
        listed = lists-passed g.skip g.stack g.counts g.lists a.0 c.0;
        turn = not-false turned (is_false 8 _ (omega arith) b.0);
        r_length = length_is _ _ d.0;
        q_length = length_is _ _ f.0;
        eq_length = length_is _ _ h.0;
        rot_length = length_is _ _ k.0;
        ub_length = length_is _ _ k.1;
      }

  pub point-passed : point_number g.r g.lambda ≡ 0 → PointReady g
  unfolding point_number
  point-passed e =
      let a = or_passed (word_number g.r) _ e in
      record { r_words = scanned _ a.0; lambda_words = scanned _ a.1 }

  pub live-passed : (j : ℕ) (w : Work) → live_number g.skip g.stack g.lists (stacked g) j w ≡ 0 → LiveReady g j w
  unfolding live_number
  live-passed j w e =
      let a = or_passed (word_number (part w.q 0 (stacked g * 2 ^ (g.stack - j)))) _ e in
      let b = or_passed (refuse 10 (not (live_tables g.skip g.lists j w.eq (g.skip + g.stack + 1)))) _ a.1 in
      let c = or_passed (refuse 10 (not (live_tables g.skip g.lists j w.rot (g.skip + g.stack + 1)))) _ b.1 in
      record { q_words = scanned _ a.0; eq_words = scanned _ b.0; rot_words = scanned _ c.0; ub_words = scanned _ c.1 }

  pub start_passed : (w : Work) → start_number g w ≡ 0 → GivenReady g true w × PointReady g
  unfolding start_number
  start_passed w e = let a = or_passed (given_number g true w) _ e in (given_passed true w a.0, point-passed a.1)

  pub round_passed : (turned : Bool) (j : ℕ) (w : Work) → round_number g turned j w ≡ 0 → RoundReady g turned j w
  unfolding round_number
  round_passed turned j w e =
      let a = or_passed (given_number g turned w) _ e in
      let b = or_passed (point_number g.r g.lambda) _ a.1 in
      record { given = given_passed turned w a.0; point = point-passed b.0; live = live-passed (j - 1) w b.1 }

  pub uni_passed : (t : Turn) (matrices u : List ℕ) (w : Work) → uni_number g t matrices u w ≡ 0 → GivenReady g (uni_turn t) w × UniReady g matrices w
  unfolding uni_number uni_words
  uni_passed t matrices u w e =
      let a = or_passed (given_number g (uni_turn t) w) _ e in
      let b = or_passed (length_number (length matrices) (stacked g * 2 ^ (g.skip + g.stack))) _ a.1 in
      let c = or_passed (point_number g.r g.lambda) _ b.1 in
      let d = or_passed (refuse 10 (not (canonical_four u))) _ c.1 in
      let f = or_passed (word_number matrices) _ d.1 in (
        given_passed (uni_turn t) w a.0,
        record {
          matrices_length = length_is _ _ b.0;
          matrices_words = scanned _ f.0;
          point = point-passed c.0;
          eq_words = scanned _ f.1;
        },
      )

  pub openings-passed : (t : Turn) (out : List ℕ) (w : Work) → openings_number g t out w ≡ 0 → GivenReady g (openings_turn g.stack t) w × OpeningsReady g (length out) w
  unfolding openings_number openings_words
  openings-passed t out w e =
      let a = or_passed (given_number g (openings_turn g.stack t) w) _ e in
      let b = or_passed (length_number (length out) (4 * stacked g)) _ a.1 in
      let c = or_passed (point_number g.r g.lambda) _ b.1 in
      (given_passed (openings_turn g.stack t) w a.0, record { out_length = length_is _ _ b.0; point = point-passed c.0; q_words = scanned _ c.1 })

  pub listed-passed : (turned : Bool) → listed_number g turned ≡ 0 → ListedReady g turned
  unfolding listed_number
  listed-passed turned e =
      let a = or_passed (lists_number g.skip g.stack g.counts g.lists) _ e in
      let b = or_passed (refuse 8 (not turned)) _ a.1 in
      record { listed = lists-passed g.skip g.stack g.counts g.lists a.0 b.1; turn = not-false turned (is_false 8 _ (omega arith) b.0) }

  pub made-passed : (turned : Bool) (asked : ℕ) (matrices : List ℕ) (out : ℕ) → made_number g turned asked matrices out ≡ 0
      → ListedReady g turned × MadeReady g asked matrices out
  unfolding made_number made_words
  made-passed turned asked matrices out e =
      let a = or_passed (listed_number g turned) _ e in
      let b = or_passed (length_number (length g.r) (4 * (g.stack + 1))) _ a.1 in
      let c = or_passed (length_number (length matrices) (stacked g * 2 ^ (g.skip + g.stack))) _ b.1 in
      let d = or_passed (length_number out asked) _ c.1 in
      let f = or_passed (point_number g.r g.lambda) _ d.1 in (
        listed-passed turned a.0,
        record {
          r_length = length_is _ _ b.0;
          matrices_length = length_is _ _ c.0;
          out_length = length_is _ _ d.0;
          point = point-passed f.0;
          matrices_words = scanned _ f.1;
        },
      )
