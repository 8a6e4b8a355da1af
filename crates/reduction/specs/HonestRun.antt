-- That lists of calls are not empty talk: from every accepted start, with any stacked matrices of the lists' shape, any u_0 and any later
-- challenges, the calls made in their order are all accepted, and the list is finished.
use Rattle.std.specs.Prelude.{◌≡◌, true, List, [], ◌∷◌, ℕ, suc, ◌+◌, ◌-◌, ◌*◌, ◌^◌, length}
use Rattle.std.proofs.Math.Option.{some}
use Rattle.algebra.specs.Polynomial.{All}
use Rattle.field.specs.Element.{Elem, F, elem_of}
use Rattle.field.specs.Slice.{elem_words, canonical_words, canonical_four}
use Rattle.prover.specs.Given.{Given, stacked}
use Rattle.prover.specs.FirstCalls.{first_words}
use Rattle.reduction.specs.Calls.{Task, ask_first, fold_first, ask_pair, fold_next, ask_openings, own, Call, State}
use Rattle.reduction.specs.Lists.{outcome, Proper}

-- the run's own calls for tasks, each lent the run's own buffers
unfoldable pub follow : Given → List Task → List Call
follow g [] = []
follow g (t ∷ ts) = record { given = g; buffers = own; task = t } ∷ follow g ts

-- the rounds after round j at these challenges, then the openings
unfoldable pub rounds : Given → ℕ → List (List ℕ) → List Task
rounds g j [] = ask_openings (elem_words (stacked g) (λ c. F.zero)) ∷ []
rounds g j (v ∷ vs) = ask_pair (suc j) ∷ fold_next (suc j) v ∷ rounds g (suc j) vs

-- the first polynomial into a slice of zeros, the fold at u_0, and these
abbrev pub honest_tasks : Given → List ℕ → List ℕ → List (List ℕ) → List Task
honest_tasks g matrices u vs = ask_first matrices (elem_words (2 ^ (g.skip + 1) - 1) (λ i. F.zero)) ∷ fold_first matrices u ∷ rounds g 0 vs

-- the challenges as elements
unfoldable pub elems : List (List ℕ) → List Elem
elems [] = []
elems (v ∷ vs) = elem_of v ∷ elems vs

-- stacked matrices of the lists' shape, u_0, and a challenge a round, all in words below p
pub record Lent (g : Given) (matrices u : List ℕ) (vs : List (List ℕ)) : Type 0 where
  pub size : length matrices ≡ stacked g * 2 ^ (g.skip + g.stack)
  pub words : canonical_words matrices ≡ true
  pub first : canonical_four u ≡ true
  pub many : length vs ≡ g.stack
  pub later : All (λ v. canonical_four v ≡ true) vs

-- from s, what an accepted start left
pub record HonestRun (g : Given) (s : State) (matrices u : List ℕ) (vs : List (List ℕ)) : Type 0 where
  pub proper : Proper g s (follow g (honest_tasks g matrices u vs))
  pub finished : (out : List ℕ) × ((outcome s (follow g (honest_tasks g matrices u vs))).openings ≡ some out)
  pub challenges : (outcome s (follow g (honest_tasks g matrices u vs))).challenges ≡ elem_of u ∷ elems vs
  pub lent : (outcome s (follow g (honest_tasks g matrices u vs))).matrices ≡ matrices
  pub first : (outcome s (follow g (honest_tasks g matrices u vs))).first ≡ some (first_words g matrices)
