use Rattle.field.proofs.Residues.{narrow}
use Rattle.field.proofs.Slices.{canonical_below}
use Rattle.prover.proofs.Counts.{word_fits, one_fits, two_fit, three_fit, four_fit}
use Rattle.prover.proofs.rows.dot4.Goals as goal

pub overflow_add-result-6 : goal.overflow_add-result-6
overflow_add-result-6 c = record { fits = four_fit (narrow c.requires.canonical.w0 (canonical_below _ c.requires.k_value _)) (narrow c.requires.canonical.w1 (canonical_below _ c.requires.k_value _)) (narrow c.requires.canonical.w2 (canonical_below _ c.requires.k_value _)) (narrow c.requires.canonical.w3 (canonical_below _ c.requires.k_value _)) }

pub overflow_mul-result-2 : goal.overflow_mul-result-2
overflow_mul-result-2 c = record { fits = one_fits (narrow c.requires.canonical.w1 (canonical_below _ c.requires.k_value _)) }

pub overflow_add-result-2 : goal.overflow_add-result-2
overflow_add-result-2 c = record { fits = two_fit (narrow c.requires.canonical.w0 (canonical_below _ c.requires.k_value _)) (narrow c.requires.canonical.w1 (canonical_below _ c.requires.k_value _)) }

pub overflow_cast-result-8 : goal.overflow_cast-result-8
overflow_cast-result-8 c = record { fits = word_fits (canonical_below _ c.requires.k_value _) }

pub overflow_mul-result-3 : goal.overflow_mul-result-3
overflow_mul-result-3 c = record { fits = one_fits (narrow c.requires.canonical.w2 (canonical_below _ c.requires.k_value _)) }

pub overflow_add-result-4 : goal.overflow_add-result-4
overflow_add-result-4 c = record { fits = three_fit (narrow c.requires.canonical.w0 (canonical_below _ c.requires.k_value _)) (narrow c.requires.canonical.w1 (canonical_below _ c.requires.k_value _)) (narrow c.requires.canonical.w2 (canonical_below _ c.requires.k_value _)) }

pub overflow_mul-result-4 : goal.overflow_mul-result-4
overflow_mul-result-4 c = record { fits = one_fits (narrow c.requires.canonical.w3 (canonical_below _ c.requires.k_value _)) }

pub overflow_cast-result-5 : goal.overflow_cast-result-5
overflow_cast-result-5 c = record { fits = word_fits (canonical_below _ c.requires.k_value _) }

pub overflow_mul-result : goal.overflow_mul-result
overflow_mul-result c = record { fits = one_fits (narrow c.requires.canonical.w0 (canonical_below _ c.requires.k_value _)) }

pub overflow_cast-result-11 : goal.overflow_cast-result-11
overflow_cast-result-11 c = record { fits = word_fits (canonical_below _ c.requires.k_value _) }

pub overflow_cast-result-2 : goal.overflow_cast-result-2
overflow_cast-result-2 c = record { fits = word_fits (canonical_below _ c.requires.k_value _) }
