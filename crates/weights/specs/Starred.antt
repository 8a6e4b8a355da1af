-- Document 01's starred values, one table of equations on the definitions. l_skip is 1 where there is one; an element is given by its words.
use Rattle.std.specs.Prelude.{◌≡◌, [], ◌∷◌, ◌++◌, negsuc, replicate}
use Rattle.algebra.specs.Multilinear.{fold_mle}
use Rattle.field.specs.Word.{Fp, word_of, number}
use Rattle.field.specs.Element.{F, ◌⊗◌, half_elem, elem_of, words_of}
use Rattle.field.specs.Powers.{root}
use Rattle.tables.specs.EqMle.{eq_mle}
use Rattle.tables.specs.RotCube.{rot_cube}
use Rattle.tables.specs.FoldPle.{fold_ple}
use Rattle.tables.specs.EqTable.{eq_table}
use Rattle.tables.specs.AtField.{eq_uni_f, in_uni_f, quadratic_f}
use Rattle.tables.specs.Small.{el, is, els}
use Rattle.layout.specs.Stacking.{stacked_into}

pub record Starred : Type 0 where
  -- X·X³ = 11
  pub x_times_x_cubed : words_of (elem_of (0 ∷ 1 ∷ 0 ∷ 0 ∷ []) ⊗ elem_of (0 ∷ 0 ∷ 0 ∷ 1 ∷ [])) ≡ is 11
  -- (p − 1)² = 1
  pub minus_one_squared : number (Fp.mul (word_of 2013265920) (word_of 2013265920)) ≡ 1
  -- values 0, 1, 4 at 0, 1, 2 give 9 at 3
  pub quadratic_at_three : words_of (quadratic_f (el 0) (el 1) (el 4) (el 3)) ≡ is 9
  -- table of (2, 3): 2, p − 4, p − 3, 6
  pub table_of_two_three : eq_table (el 1) (is 2 ++ is 3) 2 ≡ is 2 ++ is 2013265917 ++ is 2013265918 ++ is 6
  -- `eval_eq_mle` of 2, 3: 8
  pub eq_of_two_three : words_of (eq_mle F (el 2 ∷ []) (el 3 ∷ [])) ≡ is 8
  -- `eval_eq_rot_cube` of 2, 3: (8, p − 7), the first of which is above
  pub rot_of_two_three : words_of (rot_cube F (el 2 ∷ []) (el 3 ∷ [])) ≡ is 2013265914
  -- `eval_eq_uni` of 3, 5: 8
  pub eq_uni_of_three_five : words_of (eq_uni_f 1 (el 3) (el 5)) ≡ is 8
  -- `eval_in_uni` at n −1, z 3: 2
  pub in_uni_at_three : words_of (in_uni_f 1 (negsuc 0) (el 3)) ≡ is 2
  -- columns 5 6 7 8, then 9, then 3 in the layout of document 01's example give 5 6 7 8 9 0 3 0
  pub stacked_example : stacked_into 1 1 (1 ∷ 4 ∷ 0 ∷ 2 ∷ 1 ∷ 1 ∷ []) (5 ∷ 6 ∷ 7 ∷ 8 ∷ 9 ∷ 3 ∷ []) (replicate 8 77) ≡ 5 ∷ 6 ∷ 7 ∷ 8 ∷ 9 ∷ 0 ∷ 3 ∷ 0 ∷ []
  -- rows 5, 6 fold at u_0 = 3 to 4
  pub rows_fold : words_of (fold_ple F half_elem 1 (root 1) (els (5 ∷ 6 ∷ [])) (el 3) 0) ≡ is 4
  -- 4, 10 fold at 2 to 16
  pub table_folds : words_of (fold_mle F (els (4 ∷ 10 ∷ [])) (el 2) 0) ≡ is 16
