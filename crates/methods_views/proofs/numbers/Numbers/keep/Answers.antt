-- `Numbers::keep` meets its contract.
use Rattle.std.proofs.Common.{◌≡◌, ◌∙◌, ap, take, length, min, ℕ, arith}
use Rattle.std.proofs.lemmas.List.{length-take, take_at, take_min}
use Rattle.methods_views.proofs.numbers.Numbers.keep.Goals as goal

pub returns : goal.returns
returns c =
    let n : c.min-count.result ≡ min 16384 (length c.args.x.now) = omega arith in
    let whole : length c.copy_from_slice.new.self ≡ c.min-count.result =
    omega (arith, c.copy_from_slice.ensures.len, length-take c.min-count.result c.self.inside.words, c.self.told) in
    take_at _ _ _ whole
    ∙ c.copy_from_slice.ensures.after
    ∙ ap (λ (k : ℕ). take k c.args.x.now) n
    ∙ take_min 16384 c.args.x.now
