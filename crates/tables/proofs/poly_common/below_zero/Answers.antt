use mathlib.Core.Path.{◌∙◌, ap}
use borrow.Author.Rules.{rules}
use lib.IntN.{pos, nat_abs}
use mir.Syntax.{w32}
use mir.Val.{SFits}
use mir.Facts.{to_z-of_z}
use Rattle.std.specs.Int.{int_min}
use Rattle.tables.proofs.SignedLaws.{lack_is}
use Rattle.tables.proofs.poly_common.below_zero.Goals as goal

pub returns : goal.returns
returns c =
    let fits : SFits w32 c.min.result = search rules in
    c.unsigned_abs.ensures.value ∙ ap nat_abs (to_z-of_z fits ∙ c.min.ensures.value ∙ ap (λ z. int_min z (pos 0)) (to_z-of_z c.ranges.n)) ∙ lack_is c.args.n
