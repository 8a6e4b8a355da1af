-- Two instances with false claims, at l_skip 0.
use Rattle.std.specs.Prelude.{[], ◌∷◌, replicate}
use Rattle.reduction.specs.Senders.{Instance}

-- n_stack 1; a flagged column of the rows 5 and 7, whose value at r is 31 + 2·X², and a column of the row 9. The first claim is one too high.
abbrev pub one_too_high : Instance
one_too_high = record {
  skip = 0;
  stack = 1;
  counts = 2 ∷ [];
  lists = 1 ∷ 1 ∷ 1 ∷ 1 ∷ 0 ∷ 0 ∷ [];
  r = 11 ∷ 0 ∷ 0 ∷ 2 ∷ 13 ∷ 0 ∷ 1 ∷ 0 ∷ [];
  matrices = 5 ∷ 7 ∷ 9 ∷ 0 ∷ [];
  claims = 32 ∷ 0 ∷ 2 ∷ 0 ∷ 2013265902 ∷ 0 ∷ 2013265919 ∷ 0 ∷ 9 ∷ 0 ∷ 0 ∷ 0 ∷ [];
  observed = replicate 20 0;
}

-- n_stack 0; a flagged column of the row 5, whose value and rotated value are 5. Claims 6 and 4 are both false, and 6 + 4·lambda is 5 + 5·lambda at
-- lambda = 1.
abbrev pub six_and_four : Instance
six_and_four = record {
  skip = 0;
  stack = 0;
  counts = 1 ∷ [];
  lists = 1 ∷ 0 ∷ 1 ∷ [];
  r = 11 ∷ 0 ∷ 0 ∷ 2 ∷ [];
  matrices = 5 ∷ [];
  claims = 6 ∷ 0 ∷ 0 ∷ 0 ∷ 4 ∷ 0 ∷ 0 ∷ 0 ∷ [];
  observed = replicate 8 0;
}
