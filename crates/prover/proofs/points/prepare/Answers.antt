use Rattle.prover.proofs.ColumnPairs.{held_pairs, weights-part}
use Rattle.prover.proofs.points.prepare.Goals as goal

pub weigh-requires : goal.weigh-requires
weigh-requires c = record { n_bound = c.requires.n_bound; words = held_pairs _ _ _ (c.requires.held c.if-n-eq0.false); words_2 = held_pairs _ _ _ (c.requires.held_2 c.if-n-eq0.false); canonical = c.requires.canonical }

pub weigh-requires-2 : goal.weigh-requires-2
weigh-requires-2 c = record { n_bound = c.requires.n_bound; words = held_pairs _ _ _ (c.requires.held c.if-n-eq0.false); words_2 = held_pairs _ _ _ (c.requires.held_2 c.if-n-eq0.false); canonical = c.requires.canonical }

pub returns : goal.returns
returns c = record { at_one = weights-part _ _ _ _ _ _ _ c.weigh.ensures; at_two = weights-part _ _ _ _ _ _ _ c.weigh-2.ensures }
