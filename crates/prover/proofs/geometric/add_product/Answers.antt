use Rattle.field.proofs.Elements.{canonical_words_lem}
use Rattle.prover.proofs.ElementTables.{table_elements}
use Rattle.prover.proofs.SpreadTurns.{spread-ends}
use Rattle.prover.proofs.KernelProducts.{gained-product, half_there, half_back}
use Rattle.prover.proofs.geometric.add_product.Goals as goal

pub transform-requires : goal.transform-requires
transform-requires c = record { l_bound = c.requires.l_bound; power_table = c.requires.power_table; elements = c.requires.elements; b_len = half_there _ _ c.requires.e_len c.two_to-rows.ensures.value }

pub spread-requires : goal.spread-requires
spread-requires c = record { l_bound = c.requires.l_bound; o_le_l = c.requires.o_le_l; elements = table_elements c.transform.ensures.table; e_len = half_back _ c.args.e.now c.requires.e_len c.two_to-rows.ensures.value c.transform.new.b c.transform.ensures.b_len_2 }

pub multiply-requires : goal.multiply-requires
multiply-requires c = record { l_bound = c.requires.l_bound; o_le_l = c.requires.o_le_l; canonical = c.requires.canonical; canonical_2 = canonical_words_lem _ c.halve_times-c.ensures; elements = table_elements c.spread.ensures; by_index = spread-ends _ _ c.requires.o_le_l _ c.spread.ensures; elements_2 = c.requires.elements_2 }

pub returns : goal.returns
returns c = record { gained = gained-product _ _ c.requires.l_bound c.requires.o_le_l _ _ _ _ _ _ _ _ c.transform.ensures.table c.spread.ensures c.halve_times-c.ensures c.multiply.ensures; a_len = c.transform.ensures.table.size; e_len_2 = c.spread.ensures.size }
