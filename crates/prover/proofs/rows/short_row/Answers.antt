use Rattle.field.proofs.Slices.{canonical_below}
use Rattle.prover.proofs.ShortRows.{canonical_element, adding_start, adding_turn, adding_end, few_products}
use Rattle.prover.proofs.rows.short_row.Goals as goal

pub loop-i-init : goal.loop-i-init
loop-i-init c = adding_start _ _ _ _

pub add_product-s0-requires : goal.add_product-s0-requires
add_product-s0-requires c = record { s_bound = few_products c.loop-i-test.true c.requires.n_bound c.loop-i.invariant.part0; x_lt_p = canonical_below _ c.requires.words.canonical _; k_lt_p = (canonical_element _ _ c.requires.k_value c.read-e.ensures).w0 }

pub add_product-s1-requires : goal.add_product-s1-requires
add_product-s1-requires c = record { s_bound = few_products c.loop-i-test.true c.requires.n_bound c.loop-i.invariant.part1; x_lt_p = canonical_below _ c.requires.words.canonical _; k_lt_p = (canonical_element _ _ c.requires.k_value c.read-e.ensures).w1 }

pub add_product-s2-requires : goal.add_product-s2-requires
add_product-s2-requires c = record { s_bound = few_products c.loop-i-test.true c.requires.n_bound c.loop-i.invariant.part2; x_lt_p = canonical_below _ c.requires.words.canonical _; k_lt_p = (canonical_element _ _ c.requires.k_value c.read-e.ensures).w2 }

pub add_product-s3-requires : goal.add_product-s3-requires
add_product-s3-requires c = record { s_bound = few_products c.loop-i-test.true c.requires.n_bound c.loop-i.invariant.part3; x_lt_p = canonical_below _ c.requires.words.canonical _; k_lt_p = (canonical_element _ _ c.requires.k_value c.read-e.ensures).w3 }

pub loop-i-preserved : goal.loop-i-preserved
loop-i-preserved c = adding_turn _ _ _ _ c.loop-i.invariant c.loop-i-test.true c.requires.words.canonical c.requires.k_value c.read-e.ensures c.add_product-s0.ensures c.add_product-s1.ensures c.add_product-s2.ensures c.add_product-s3.ensures

pub returns : goal.returns
returns c = adding_end _ _ _ _ c.loop-i.invariant c.loop-i-test.false c.requires.n_bound
