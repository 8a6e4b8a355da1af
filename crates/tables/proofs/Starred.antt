-- Document 01's checked values that it marks to be proved, as theorems on the definitions: l_skip is 1, and an element is given by its words.
use mathlib.Core.Path.{◌≡◌, refl, sym, ◌∙◌, ap}
use mathlib.Core.List.{[], ◌∷◌, ◌++◌}
use native.Mathlib.Omega.{arith}
use lib.IntN.{negsuc}
use Rattle.algebra.specs.Ring.{pow, num}
use Rattle.algebra.specs.Sum.{sum}
use Rattle.algebra.specs.Listed.{listed}
use Rattle.algebra.specs.Zmod.{class, zadd, zmul, zneg}
use Rattle.algebra.specs.Quadratic.{qadd, qmul, qneg}
use Rattle.algebra.specs.Multilinear.{bit_factor, cube_factor, line, fold_mle}
use Rattle.field.specs.Word.{Fp, word_of, number}
use Rattle.field.specs.Element.{F, ◌⊗◌, neg, half_elem, elem_of, words_of}
use Rattle.field.specs.Powers.{root}
use Rattle.field.specs.Slice.{elem_at, elem_words}
use Rattle.field.proofs.Embedding.{root_half}
use Rattle.tables.specs.Index.{before}
use Rattle.tables.specs.Lagrange.{lagrange}
use Rattle.tables.specs.EqUni.{eq_uni}
use Rattle.tables.specs.InUni.{in_uni}
use Rattle.tables.specs.EqMle.{eq_mle}
use Rattle.tables.specs.RotCube.{rot_cube}
use Rattle.tables.specs.FoldPle.{fold_ple}
use Rattle.tables.specs.Quadratic.{quadratic}
use Rattle.tables.specs.AtField.{eq_uni_f, lack, in_uni_f, quadratic_f}
use Rattle.tables.specs.EqTable.{eq_table}
use Rattle.tables.specs.Small.{el, is, els}

-- X·X³ = 11
pub x_times_x_cubed : words_of (elem_of (0 ∷ 1 ∷ 0 ∷ 0 ∷ []) ⊗ elem_of (0 ∷ 0 ∷ 0 ∷ 1 ∷ [])) ≡ is 11
unfolding elem_of words_of qadd qmul class zadd zmul
x_times_x_cubed = refl

-- (p − 1)² = 1
pub minus_one_squared : number (Fp.mul (word_of 2013265920) (word_of 2013265920)) ≡ 1
unfolding class zmul
minus_one_squared = refl

-- values 0, 1, 4 at 0, 1, 2 give 9 at 3
pub quadratic_at_three : words_of (quadratic_f (el 0) (el 1) (el 4) (el 3)) ≡ is 9
unfolding quadratic num words_of qadd qmul qneg class zadd zmul zneg
quadratic_at_three = refl

-- table of (2, 3): 2, p − 4, p − 3, 6
pub table_of_two_three : eq_table (el 1) (is 2 ++ is 3) 2 ≡ is 2 ++ is 2013265917 ++ is 2013265918 ++ is 6
unfolding eq_table elem_words cube_factor bit_factor listed elem_at words_of qadd qmul qneg class zadd zmul zneg
table_of_two_three = refl

-- `eval_eq_mle` of 2, 3: 8
pub eq_of_two_three : words_of (eq_mle F (el 2 ∷ []) (el 3 ∷ [])) ≡ is 8
unfolding eq_mle words_of qadd qmul qneg class zadd zmul zneg
eq_of_two_three = refl

-- `eval_eq_rot_cube` of 2, 3: (8, p − 7), the first of which is above
pub rot_of_two_three : words_of (rot_cube F (el 2 ∷ []) (el 3 ∷ [])) ≡ is 2013265914
unfolding rot_cube sum cube_factor bit_factor before words_of qadd qmul qneg class zadd zmul zneg
rot_of_two_three = refl

-- the root of order 2
pub root_one : root 1 ≡ neg F.one
unfolding pow
root_one = sym (F.mul_one (root 1)) ∙ root_half 0 (omega arith)

eq_uni_computed : words_of (eq_uni F half_elem 1 (neg F.one) (el 3) (el 5)) ≡ is 8
unfolding eq_uni lagrange sum pow words_of qadd qmul qneg class zadd zmul zneg
eq_uni_computed = refl

-- `eval_eq_uni` of 3, 5: 8
pub eq_uni_of_three_five : words_of (eq_uni_f 1 (el 3) (el 5)) ≡ is 8
eq_uni_of_three_five = ap (λ w. words_of (eq_uni F half_elem 1 w (el 3) (el 5))) root_one ∙ eq_uni_computed

in_uni_computed : words_of (in_uni F half_elem 0 1 (neg F.one) (el 3)) ≡ is 2
unfolding in_uni lagrange sum pow words_of qadd qmul qneg class zadd zmul zneg
in_uni_computed = refl

-- `eval_in_uni` at n −1, z 3: 2
pub in_uni_at_three : words_of (in_uni_f 1 (negsuc 0) (el 3)) ≡ is 2
unfolding in_uni_f lack
in_uni_at_three = ap (λ w. words_of (in_uni F half_elem 0 1 w (el 3))) root_one ∙ in_uni_computed

rows_computed : words_of (fold_ple F half_elem 1 (neg F.one) (els (5 ∷ 6 ∷ [])) (el 3) 0) ≡ is 4
unfolding fold_ple lagrange sum pow words_of qadd qmul qneg class zadd zmul zneg
rows_computed = refl

-- rows 5, 6 fold at u_0 = 3 to 4
pub rows_fold : words_of (fold_ple F half_elem 1 (root 1) (els (5 ∷ 6 ∷ [])) (el 3) 0) ≡ is 4
rows_fold = ap (λ w. words_of (fold_ple F half_elem 1 w (els (5 ∷ 6 ∷ [])) (el 3) 0)) root_one ∙ rows_computed

-- 4, 10 fold at 2 to 16
pub table_folds : words_of (fold_mle F (els (4 ∷ 10 ∷ [])) (el 2) 0) ≡ is 16
unfolding fold_mle line words_of qadd qmul qneg class zadd zmul zneg
table_folds = refl
