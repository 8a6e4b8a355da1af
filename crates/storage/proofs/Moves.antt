-- Steps of a moving: one write, one step after another, and through a tile. Their order does not enter. Assumes nothing.
use Prim.Native.Nat.{ℕ, ◌<◌}
use mathlib.Core.Path.{◌≡◌, sym, ap, ◌∙◌}
use mathlib.Core.Logic.{◌⊎◌, inl, inr}
use mathlib.Core.List.{List}
use native.Mathlib.Decide.{ℕ_discrete}
use lib.ListN.{length, get_or, set}
use lib.Seq.{get_or-set_same, get_or-set_other, ext_get_or}
use Rattle.algebra.specs.Listed.{listed}
use Rattle.algebra.proofs.Lists.{get_d_listed, length-listed}
use Rattle.storage.specs.Moving.{Said, Carried}

module _ (from : List ℕ) where
  pub carried_none : {goes : ℕ → ℕ → Type 0} (old : List ℕ) → ((p s : ℕ) → goes p s → ⊥) → Carried from goes old old
  carried_none old none = record { done = λ f said p s g. absurd (none p s g); kept = λ f said p e. e }

  -- the same words, said otherwise
  pub carried_as : {a b : ℕ → ℕ → Type 0} (old new : List ℕ) → ((p s : ℕ) → b p s → a p s) → ((p s : ℕ) → a p s → b p s) → Carried from a old new → Carried from b old new
  carried_as old new there back m = record { done = λ f said p s g. m.done f (λ q r h. said q r (back q r h)) p s (there p s g); kept = λ f said p e. m.kept f (λ q r h. said q r (back q r h)) p e }

  -- one word more
  pub carried-set : {a b : ℕ → ℕ → Type 0} (old cur : List ℕ) (p s : ℕ) → p < length cur → ((q r : ℕ) → b q r → a q r ⊎ ((q ≡ p) × (r ≡ s))) → ((q r : ℕ) → a q r → b q r) → b p s
      → Carried from a old cur → Carried from b old (set cur p (get_or from s 0))
  carried-set {a} {b} old cur p s h split back here m =
      record {
        done = λ f said q r g. by f said q (was f said q r (split q r g));
        kept = λ f said q e. by f said q (inl (m.kept f (λ x y k. said x y (back x y k)) q e));
      }
    where
      was : (f : ℕ → ℕ) → Said from b f → (q r : ℕ) → a q r ⊎ ((q ≡ p) × (r ≡ s)) → (get_or cur q 0 ≡ f q) ⊎ (q ≡ p)
      was f said q r (inl g) = inl (m.done f (λ x y k. said x y (back x y k)) q r g)
      was f said q r (inr e) = inr e.0

      by : (f : ℕ → ℕ) → Said from b f → (q : ℕ) → (get_or cur q 0 ≡ f q) ⊎ (q ≡ p) → get_or (set cur p (get_or from s 0)) q 0 ≡ f q
      by f said q w = go (ℕ_discrete q p) w
        where
          go : Dec (q ≡ p) → (get_or cur q 0 ≡ f q) ⊎ (q ≡ p) → get_or (set cur p (get_or from s 0)) q 0 ≡ f q
          go (yes e) w = ap (λ j. get_or (set cur p (get_or from s 0)) j 0) e ∙ get_or-set_same cur p (get_or from s 0) 0 h ∙ said p s here ∙ ap f (sym e)
          go (no e) (inl w) = get_or-set_other cur p q (get_or from s 0) 0 e ∙ w
          go (no e) (inr w) = absurd (e w)

  -- one step after another
  pub carried_then : {a b both : ℕ → ℕ → Type 0} (old mid new : List ℕ) → Carried from a old mid → Carried from b mid new → ((p s : ℕ) → both p s → a p s ⊎ b p s)
      → ((p s : ℕ) → a p s → both p s) → ((p s : ℕ) → b p s → both p s) → Carried from both old new
  carried_then {a} {b} {both} old mid new m n split left right =
      record {
        done = λ f said p s g. go f said p s (split p s g);
        kept = λ f said p e. n.kept f (λ q r h. said q r (right q r h)) p (m.kept f (λ q r h. said q r (left q r h)) p e);
      }
    where
      go : (f : ℕ → ℕ) → Said from both f → (p s : ℕ) → a p s ⊎ b p s → get_or new p 0 ≡ f p
      go f said p s (inl g) = n.kept f (λ q r h. said q r (right q r h)) p (m.done f (λ q r h. said q r (left q r h)) p s g)
      go f said p s (inr g) = n.done f (λ q r h. said q r (right q r h)) p s g

  -- into a tile, where place q gets word σ q, and out of it
  pub carried-through : {a b whole : ℕ → ℕ → Type 0} (σ : ℕ → ℕ) (before tile old new : List ℕ) → Carried from a before tile → Carried tile b old new
      → ((q s : ℕ) → a q s → s ≡ σ q) → ((p s : ℕ) → whole p s → (q : ℕ) × a q s × b p q) → ((p q : ℕ) → b p q → (s : ℕ) × a q s × whole p s) → Carried from whole old new
  carried-through {a} {b} {whole} σ before tile old new m n only there back =
      record { done = λ f said p s g. let t = there p s g in n.done f (told f said) p t.0 t.2; kept = λ f said p e. n.kept f (told f said) p e }
    where
      told : (f : ℕ → ℕ) → Said from whole f → Said tile b f
      told f said p q g =
          let t = back p q g in
          m.done (λ j. get_or from (σ j) 0) (λ j s h. ap (λ r. get_or from r 0) (only j s h)) q t.0 t.1
          ∙ ap (λ r. get_or from r 0) (sym (only q t.0 t.1))
          ∙ said p t.0 t.2

  -- every place: the list of what each must hold
  pub carried_all : {goes : ℕ → ℕ → Type 0} (f : ℕ → ℕ) (n : ℕ) (old new : List ℕ) → length new ≡ n → Carried from goes old new → Said from goes f → ((p : ℕ) → p < n → (s : ℕ) × goes p s)
      → new ≡ listed n f
  carried_all f n old new e m said every =
      ext_get_or 0 new (listed n f) (e ∙ sym (length-listed n f))
      (λ p h. let g = every p (rw e at h) in m.done f said p g.0 g.1 ∙ sym (get_d_listed n f p 0 (rw e at h)))
