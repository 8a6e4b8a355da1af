-- What the verdict is given, each slice by its words: l_skip and n_stack, the lists, r, lambda, the challenges u_0 to u_n_stack, the claims in lambda
-- order, the first polynomial's coefficients, the pairs, the openings, and the slice that is lent for the observed values.
use Rattle.std.specs.Prelude.{List, ℕ}
use Rattle.verifier.specs.declared.asked.Asked as Rust

pub record Asked : Type 0 where
  pub skip : ℕ
  pub stack : ℕ
  pub counts : List ℕ
  pub lists : List ℕ
  pub r : List ℕ
  pub lambda : List ℕ
  pub challenges : List ℕ
  pub claims : List ℕ
  pub coefficients : List ℕ
  pub pairs : List ℕ
  pub openings : List ℕ
  pub observed : List ℕ

abbrev pub asked : ℕ → ℕ → List ℕ → List ℕ → List ℕ → List ℕ → List ℕ → List ℕ → List ℕ → List ℕ → List ℕ → List ℕ → Asked
asked l n counts lists r lambda challenges claims coefficients pairs openings observed = record {
  skip = l;
  stack = n;
  counts = counts;
  lists = lists;
  r = r;
  lambda = lambda;
  challenges = challenges;
  claims = claims;
  coefficients = coefficients;
  pairs = pairs;
  openings = openings;
  observed = observed;
}

-- what a verdict is asked about, and the slice for the observed values
abbrev pub asked_of : Rust.Asked → List ℕ → Asked
asked_of a observed =
    asked a.l_skip a.n_stack a.counts.now a.lists.now a.r.now a.lambda a.challenges.now a.claims.now a.coefficients.now a.pairs.now a.openings.now
    observed
