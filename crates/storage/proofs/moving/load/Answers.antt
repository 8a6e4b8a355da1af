-- `moving::load` meets its contract. Assumes nothing.
use mathlib.Core.Bool.{false}
use mathlib.Core.Path.{sym, subst, ◌∙◌}
use Prim.Native.Nat.{◌<◌, ◌^◌}
use lib.ListN.{length}
use Rattle.storage.specs.Moving.{Route, Carried, Ways, Between, rows_grid}
use Rattle.storage.specs.declared.moving.Grid.{Grid}
use Rattle.storage.proofs.Rearranged.{loading, loaded_is}
use Rattle.storage.proofs.moving.load.Goals as goal

pub rearrange-requires : goal.rearrange-requires
rearrange-requires c =
    let n = length c.args.rows.now in
    let o = length c.args.stacked.now in
    subst (λ (f : Grid). Between n f o c.of_columns-t.result c.args.bits c.args.width × Ways false f c.of_columns-t.result) (sym c.of_rows-f.ensures)
    (subst (λ (t : Grid). Between n (rows_grid c.args.width) o t c.args.bits c.args.width × Ways false (rows_grid c.args.width) t) (sym c.of_columns-t.ensures)
    (loading c.args.bits c.args.width n o c.requires.0 c.requires.1 c.requires.2 c.requires.3))

pub returns : goal.returns
returns c =
    loaded_is c.args.width c.args.bits c.args.rows.now c.args.stacked.now c.rearrange.new.to
    (subst (λ (t : Grid). Carried c.args.rows.now (Route (rows_grid c.args.width) t c.args.bits (λ b. b < 2 ^ c.args.bits) c.args.width) c.args.stacked.now c.rearrange.new.to) c.of_columns-t.ensures
    (subst (λ (f : Grid). Carried c.args.rows.now (Route f c.of_columns-t.result c.args.bits (λ b. b < 2 ^ c.args.bits) c.args.width) c.args.stacked.now c.rearrange.new.to) c.of_rows-f.ensures c.rearrange.ensures))
    (c.rearrange.auto.to ∙ c.requires.3)
