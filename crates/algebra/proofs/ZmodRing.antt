-- The integers modulo m are a commutative ring, and the class of a number respects sums and products.
use mathlib.Core.Path.{◌≡◌, ap, sym, ◌∙◌}
use Prim.Native.Nat.{ℕ, ◌+◌, ◌*◌, ◌%◌, ◌/◌, ◌<◌}
use native.Mathlib.Omega.{arith}
use native.Mathlib.Fin
use native.Mathlib.Nat.{add_assoc, add_comm, add-zero, mul_assoc, mul_comm, mul-one, mul-add, mod-eq_of_lt, mod-add-mod, add-mod-mod, mod_self, div-add-mod', add-mul-mod_self_right, add-sub_of_le, le_of_lt, zero-mod}
use Rattle.algebra.specs.Ring.{Ring}
use Rattle.algebra.specs.Zmod.{Zmod, class, zadd, zmul, zneg}

pub mod_mul_mod : (a b m : ℕ) → (a % m * b) % m ≡ (a * b) % m
mod_mul_mod a b m =
    sym (add-mul-mod_self_right (a % m * b) (a / m * b) m)
    ∙ ap (λ (n : ℕ). n % m)
    (let e : (a / m * m + a % m) * b ≡ a * b = ap (λ (x : ℕ). x * b) (div-add-mod' a m) in omega arith)

pub mul_mod_mod : (a b m : ℕ) → (a * (b % m)) % m ≡ (a * b) % m
mul_mod_mod a b m = rw (mul_comm a (b % m), mod_mul_mod, mul_comm b a)

module _ (m : ℕ) (pos : 0 < m) where
  pub zadd_assoc : (x y z : Zmod m) → zadd m pos (zadd m pos x y) z ≡ zadd m pos x (zadd m pos y z)
  unfolding class zadd
  zadd_assoc x y z = Fin.val_path (simp (mod-add-mod, add-mod-mod, add_assoc))

  pub zadd_comm : (x y : Zmod m) → zadd m pos x y ≡ zadd m pos y x
  unfolding class zadd
  zadd_comm x y = Fin.val_path (rw (add_comm x.0 y.0))

  pub zadd-zero : (x : Zmod m) → zadd m pos x (class m pos 0) ≡ x
  unfolding class zadd
  zadd-zero x = Fin.val_path (rw (add-mod-mod, add-zero) (mod-eq_of_lt x.1))

  pub zadd-neg : (x : Zmod m) → zadd m pos x (zneg m pos x) ≡ class m pos 0
  unfolding class zadd zneg
  zadd-neg x = Fin.val_path (rw (add-mod-mod, add-sub_of_le (le_of_lt x.1), mod_self) (sym (zero-mod m)))

  pub zmul_assoc : (x y z : Zmod m) → zmul m pos (zmul m pos x y) z ≡ zmul m pos x (zmul m pos y z)
  unfolding class zmul
  zmul_assoc x y z = Fin.val_path (simp (mod_mul_mod, mul_mod_mod, mul_assoc))

  pub zmul_comm : (x y : Zmod m) → zmul m pos x y ≡ zmul m pos y x
  unfolding class zmul
  zmul_comm x y = Fin.val_path (rw (mul_comm x.0 y.0))

  pub zmul_one : (x : Zmod m) → zmul m pos x (class m pos 1) ≡ x
  unfolding class zmul
  zmul_one x = Fin.val_path (rw (mul_mod_mod, mul-one) (mod-eq_of_lt x.1))

  pub zmul-add : (x y z : Zmod m) → zmul m pos x (zadd m pos y z) ≡ zadd m pos (zmul m pos x y) (zmul m pos x z)
  unfolding class zadd zmul
  zmul-add x y z = Fin.val_path (simp (mul_mod_mod, add-mod-mod, mod-add-mod, mul-add))

  abbrev pub Zring : Ring (Zmod m)
  Zring = record {
    add = zadd m pos;
    mul = zmul m pos;
    neg = zneg m pos;
    zero = class m pos 0;
    one = class m pos 1;
    add_assoc = zadd_assoc;
    add_comm = zadd_comm;
    add_zero = zadd-zero;
    add_neg = zadd-neg;
    mul_assoc = zmul_assoc;
    mul_comm = zmul_comm;
    mul_one = zmul_one;
    mul_add = zmul-add;
  }

  pub class_val : (x : Zmod m) → class m pos x.0 ≡ x
  unfolding class
  class_val x = Fin.val_path (mod-eq_of_lt x.1)

  pub class-add : (a b : ℕ) → zadd m pos (class m pos a) (class m pos b) ≡ class m pos (a + b)
  unfolding class zadd
  class-add a b = Fin.val_path (rw (mod-add-mod, add-mod-mod))

  pub class-mul : (a b : ℕ) → zmul m pos (class m pos a) (class m pos b) ≡ class m pos (a * b)
  unfolding class zmul
  class-mul a b = Fin.val_path (rw (mod_mul_mod, mul_mod_mod))

  pub class_self : class m pos m ≡ class m pos 0
  unfolding class
  class_self = Fin.val_path (mod_self m ∙ sym (zero-mod m))
