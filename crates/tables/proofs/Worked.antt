-- Each call of this crate on two inputs, computed through its definition: an ordinary one where `Starred` has none, and a refused one, or for
-- a call that refuses nothing an edge: points of different lengths, words past the last whole element, a word not below p.
use mathlib.Core.Path.{◌≡◌, refl, ◌∙◌, ap}
use mathlib.Core.List.{List, [], ◌∷◌, ◌++◌}
use Prim.Native.Nat.{ℕ, ◌^◌, min}
use native.Mathlib.Omega.{arith}
use lib.IntN.{pos}
use lib.ListN.{get_or, drop, replicate}
use Rattle.algebra.specs.Ring.{pow, num}
use Rattle.algebra.specs.Sum.{sum}
use Rattle.algebra.specs.Listed.{listed}
use Rattle.algebra.specs.Polynomial.{value}
use Rattle.algebra.specs.Zmod.{class, zadd, zmul, zneg}
use Rattle.algebra.specs.Quadratic.{qadd, qmul, qneg}
use Rattle.algebra.specs.Multilinear.{bit_factor, cube_factor, line}
use Rattle.field.specs.declared.answer.Refusal.{Refusal}
use Rattle.std.specs.declared.result.Result.{Result}
use Rattle.field.specs.declared.answer.Refusal.TheVariants.{LimitExceeded, WrongLength, NotCanonical}
use Rattle.std.specs.declared.result.Result.TheVariants.{Ok, Err}
use Rattle.field.specs.Element.{F, neg, half_elem, elem_of, words_of}
use Rattle.field.specs.Slice.{elem_at, elem_words, canonical_words, canonical_four}
use Rattle.tables.specs.Index.{before}
use Rattle.tables.specs.Lagrange.{lagrange}
use Rattle.tables.specs.EqUni.{eq_uni}
use Rattle.tables.specs.InUni.{in_uni}
use Rattle.tables.specs.EqMle.{eq_mle}
use Rattle.tables.specs.RotCube.{rot_cube}
use Rattle.tables.specs.Prism.{row_factor}
use Rattle.tables.specs.PrismKernels.{eq_prism, rot_prism}
use Rattle.tables.specs.Quadratic.{quadratic}
use Rattle.tables.specs.AtField.{eq_uni_f, lack, in_uni_f, quadratic_f}
use Rattle.tables.specs.OnSlices.{eq_mle_of, rot_cube_of, eq_prism_of, rot_prism_of, value_of}
use Rattle.tables.specs.EqTable.{eq_table, eq_table_fits, eq_table_answer, eq_table_exit}
use Rattle.tables.specs.FromLast.{FromLast}
use Rattle.tables.specs.KernelTable.{kernel_table, kernel_fits, kernel_answer, kernel_exit}
use Rattle.tables.specs.Small.{el, is}
use Rattle.tables.proofs.Starred.{root_one}

abbrev both : {A : Type 0} → A → A → List A
both a b = a ∷ b ∷ []

-- `eval_eq_mle`: 2 and 3, also where one point has a coordinate more and the other a word more; and no coordinate
eq_mles : both (words_of (eq_mle_of (is 2 ++ is 5) (is 3 ++ 9 ∷ []))) (words_of (eq_mle_of [] (is 3))) ≡ both (is 8) (is 1)
unfolding eq_mle_of eq_mle listed elem_at words_of qadd qmul qneg class zadd zmul zneg
eq_mles = refl

-- `eval_eq_uni` at l_skip 0; `Starred` has 3 and 5 at l_skip 1
eq_uni_at_zero : words_of (eq_uni_f (min 0 10) (el 3) (el 5)) ≡ is 1
unfolding eq_uni lagrange sum pow words_of qadd qmul class zadd zmul
eq_uni_at_zero = refl

-- `eval_eq_uni_at_one` of 3 at l_skip 1 and at 0
at_one_computed : words_of (eq_uni F half_elem 1 (neg F.one) (el 3) F.one) ≡ is 2
unfolding eq_uni lagrange sum pow words_of qadd qmul qneg class zadd zmul zneg
at_one_computed = refl

eq_uni_of_three_one : words_of (eq_uni_f (min 1 10) (el 3) F.one) ≡ is 2
eq_uni_of_three_one = ap (λ w. words_of (eq_uni F half_elem 1 w (el 3) F.one)) root_one ∙ at_one_computed

at_one_at_zero : words_of (eq_uni_f (min 0 10) (el 3) F.one) ≡ is 1
unfolding eq_uni lagrange sum pow words_of qadd qmul class zadd zmul
at_one_at_zero = refl

-- `eval_in_uni` at n = 1: `Starred` has n = −1
in_uni_at_one : words_of (in_uni_f (min 1 10) (pos 1) (el 3)) ≡ is 1
unfolding in_uni_f lack in_uni lagrange sum pow words_of qadd qmul class zadd zmul
in_uni_at_one = refl

-- `eval_eq_prism` and `eval_rot_kernel_prism`: l_skip 1 with one coordinate on the cube, and points of no word at l_skip 0
prism_computed : both (words_of (eq_prism F half_elem 1 (neg F.one) (el 3) (el 2 ∷ []) (el 5) (el 3 ∷ []))) (words_of (rot_prism F half_elem 1 (neg F.one) (el 3) (el 2 ∷ []) (el 5) (el 3 ∷ [])))
    ≡ both (is 64) (is 4)
unfolding eq_prism rot_prism row_factor cube_factor bit_factor before lagrange sum pow words_of qadd qmul qneg class zadd zmul zneg
prism_computed = refl

eq_prism_of_lem : words_of (eq_prism_of (min 1 10) (is 3 ++ is 2) (is 5 ++ is 3)) ≡ is 64
unfolding eq_prism_of listed elem_at
eq_prism_of_lem = ap (λ w. words_of (eq_prism F half_elem 1 w (el 3) (el 2 ∷ []) (el 5) (el 3 ∷ []))) root_one ∙ ap (λ (l : List (List ℕ)). get_or l 0 []) prism_computed

rot_prism_of_lem : words_of (rot_prism_of (min 1 10) (is 3 ++ is 2) (is 5 ++ is 3)) ≡ is 4
unfolding rot_prism_of listed elem_at
rot_prism_of_lem = ap (λ w. words_of (rot_prism F half_elem 1 w (el 3) (el 2 ∷ []) (el 5) (el 3 ∷ []))) root_one ∙ ap (λ (l : List (List ℕ)). get_or l 1 []) prism_computed

prisms_of_no_word : both (words_of (eq_prism_of (min 0 10) [] [])) (words_of (rot_prism_of (min 0 10) [] [])) ≡ both (is 1) (is 1)
unfolding eq_prism_of rot_prism_of eq_prism rot_prism row_factor cube_factor before lagrange listed elem_at sum pow words_of qadd qmul class zadd zmul
prisms_of_no_word = refl

-- `eval_eq_rot_cube`: its second part for 2 and 3, and both for no coordinate
rot_cubes : both (words_of (rot_cube_of (is 2) (is 3))) (words_of (rot_cube_of [] (is 3))) ≡ both (is 2013265914) (is 1)
unfolding rot_cube_of rot_cube listed elem_at sum cube_factor bit_factor before words_of qadd qmul qneg class zadd zmul zneg
rot_cubes = refl

-- `horner_eval`: 1 + 2x + 3x² at 2, and one coefficient with a word after it
values : both (words_of (value_of (is 1 ++ is 2 ++ is 3) (el 2))) (words_of (value_of (is 1 ++ 7 ∷ []) (el 2))) ≡ both (is 17) (is 1)
unfolding value_of value listed elem_at words_of qadd qmul class zadd zmul
values = refl

-- `interpolate_linear_at_01` and `interpolate_quadratic_at_012`, also with words not below p; `Starred` has the quadratic at 3
lines : both (words_of (line F (el 4) (el 10) (el 2))) (words_of (line F (el 2013265925) (el 10) (el 2013265923))) ≡ both (is 16) (is 16)
unfolding line words_of qadd qmul qneg class zadd zmul zneg
lines = refl

quadratic_of_large_words : words_of (quadratic_f (el 2013265921) (el 2013265922) (el 4) (el 3)) ≡ is 9
unfolding quadratic num words_of qadd qmul qneg class zadd zmul zneg
quadratic_of_large_words = refl

-- `evals_eq_hypercube`: done; 9 where there is no room, before 10 for a word of p in the point or in the starting element, and the slice as it was
abbrev room : ℕ → List ℕ
room n = replicate n 77

table_answers : ◌≡◌ {A = List (Result (Unit {0}) Refusal)}
    (eq_table_answer (is 5) (is 2) (room 8) ∷ eq_table_answer (is 5) (is 2) (room 7) ∷ eq_table_answer (is 5) (is 2 ++ 3 ∷ []) (room 8) ∷ eq_table_answer (is 5) (is 2013265921) (room 8)
    ∷ eq_table_answer (is 2013265921) (is 2) (room 8) ∷ eq_table_answer (is 2013265921) (is 2) (room 7) ∷ [])
    ((Ok tt) ∷ (Err WrongLength) ∷ (Err WrongLength) ∷ (Err NotCanonical) ∷ (Err NotCanonical) ∷ (Err WrongLength) ∷ [])
unfolding eq_table_answer eq_table_fits canonical_words canonical_four
table_answers = refl

table_exits : ◌≡◌ {A = List (List ℕ)}
    (eq_table_exit (is 1) (is 2) (room 8) ∷ eq_table_exit (is 5) (is 2) (room 7) ∷ eq_table_exit (is 5) (is 2013265921) (room 8) ∷ eq_table_exit (is 2013265921) (is 2) (room 8) ∷ [])
    ((is 2013265920 ++ is 2) ∷ room 7 ∷ room 8 ∷ room 8 ∷ [])
unfolding eq_table_exit eq_table_fits eq_table elem_words canonical_words canonical_four cube_factor bit_factor listed elem_at elem_of words_of qadd qmul qneg class zadd zmul zneg
table_exits = refl

-- a starting element of 5 at (2, 3), one of X at 2, one of 7 at no coordinate, and one of 0, whose entries are all 0
tables-from : ◌≡◌ {A = List (List ℕ)}
    (eq_table_exit (is 5) (is 2 ++ is 3) (room 16) ∷ eq_table_exit (0 ∷ 1 ∷ 0 ∷ 0 ∷ []) (is 2) (room 8) ∷ eq_table_exit (is 7) [] (room 4) ∷ eq_table_exit (is 0) (is 2) (room 8) ∷ [])
    ((is 10 ++ is 2013265901 ++ is 2013265906 ++ is 30) ∷ (0 ∷ 2013265920 ∷ 0 ∷ 0 ∷ 0 ∷ 2 ∷ 0 ∷ 0 ∷ []) ∷ is 7 ∷ (is 0 ++ is 0) ∷ [])
unfolding eq_table_exit eq_table_fits eq_table elem_words canonical_words canonical_four cube_factor bit_factor listed elem_at elem_of words_of qadd qmul qneg class zadd zmul zneg
tables-from = refl

-- from the last coordinate: the tables of the last none, one, two and three of (2, 3, 4), and of (2, 3) with a starting element of 5; and a slice after
-- two of the three
abbrev three : List ℕ
three = is 2 ++ is 3 ++ is 4

abbrev two : List ℕ
two = is 2 ++ is 3

abbrev last_two : List ℕ
last_two = is 6 ++ is 2013265912 ++ is 2013265913 ++ is 12

tables_of_the_last : ◌≡◌ {A = List (List ℕ)}
    (eq_table (el 1) (drop 12 three) 0 ∷ eq_table (el 1) (drop 8 three) 1 ∷ eq_table (el 1) (drop 4 three) 2 ∷ eq_table (el 1) three 3 ∷ eq_table (el 5) (drop 8 two) 0 ∷ eq_table (el 5) (drop 4 two) 1
    ∷ eq_table (el 5) two 2 ∷ [])
    (is 1 ∷ (is 2013265918 ++ is 4) ∷ last_two ∷ (is 2013265915 ++ is 12 ++ is 9 ++ is 2013265903 ++ is 8 ++ is 2013265905 ++ is 2013265909 ++ is 24) ∷ is 5 ∷ (is 2013265911 ++ is 15)
    ∷ (is 10 ++ is 2013265901 ++ is 2013265906 ++ is 30) ∷ [])
unfolding eq_table elem_words cube_factor bit_factor listed elem_at words_of qadd qmul qneg class zadd zmul zneg
tables_of_the_last = refl

after_two : FromLast (el 1) three 3 1 4 (last_two ++ room 16)
unfolding eq_table elem_words cube_factor bit_factor listed elem_at words_of qadd qmul qneg class zadd zmul zneg
after_two = record { bound = omega arith; size = refl; kept = refl; entries = refl }

-- `eq_uni_kernels`: done; 1 at l_skip 11 and 9 where there is no room, and the slice as it was
kernel_answers : ◌≡◌ {A = List (Result (Unit {0}) Refusal)} (kernel_answer 1 (room 8) ∷ kernel_answer 11 (room 8) ∷ kernel_answer 1 (room 7) ∷ []) ((Ok tt) ∷ (Err LimitExceeded) ∷ (Err WrongLength) ∷ [])
unfolding kernel_answer kernel_fits
kernel_answers = refl

kernels_computed : elem_words 2 (λ i. lagrange F half_elem 1 (neg F.one) i (el 3)) ≡ is 2 ++ is 2013265920
unfolding elem_words lagrange sum pow words_of qadd qmul qneg class zadd zmul zneg
kernels_computed = refl

kernels_of_three : kernel_exit 1 (el 3) (room 8) ≡ is 2 ++ is 2013265920
unfolding kernel_exit kernel_fits kernel_table
kernels_of_three = ap (λ w. elem_words 2 (λ i. lagrange F half_elem 1 w i (el 3))) root_one ∙ kernels_computed

kernels_refused : both (kernel_exit 11 (el 3) (room 8)) (kernel_exit 1 (el 3) (room 7)) ≡ both (room 8) (room 7)
unfolding kernel_exit kernel_fits
kernels_refused = refl

-- `rot_prev`: of 8 rows, of one row, and an n read as 31
rows_before : ◌≡◌ {A = List ℕ} (before (2 ^ min 3 31) 5 ∷ before (2 ^ min 3 31) 0 ∷ before (2 ^ min 0 31) 0 ∷ before (2 ^ min 40 31) 0 ∷ []) (4 ∷ 7 ∷ 0 ∷ 2147483647 ∷ [])
unfolding before
rows_before = refl
