-- `moving::store` meets its contract. Assumes nothing.
use mathlib.Core.Bool.{true}
use mathlib.Core.Path.{sym, subst, ◌∙◌}
use Prim.Native.Nat.{◌<◌, ◌^◌}
use lib.ListN.{length}
use Rattle.storage.specs.Moving.{Route, Carried, Ways, Between, columns_grid}
use Rattle.storage.specs.declared.moving.Grid.{Grid}
use Rattle.storage.proofs.Rearranged.{storing, stored_is}
use Rattle.storage.proofs.moving.store.Goals as goal

pub rearrange-requires : goal.rearrange-requires
rearrange-requires c =
    let n = length c.args.stacked.now in
    let o = length c.args.rows.now in
    subst (λ (f : Grid). Between n f o c.of_rows-t.result c.args.bits c.args.width × Ways true f c.of_rows-t.result) (sym c.of_columns-f.ensures)
    (subst (λ (t : Grid). Between n (columns_grid c.args.bits) o t c.args.bits c.args.width × Ways true (columns_grid c.args.bits) t) (sym c.of_rows-t.ensures)
    (storing c.args.bits c.args.width n o c.requires.0 c.requires.1 c.requires.2 c.requires.3))

pub returns : goal.returns
returns c =
    stored_is c.args.width c.args.bits c.args.stacked.now c.args.rows.now c.rearrange.new.to
    (subst (λ (t : Grid). Carried c.args.stacked.now (Route (columns_grid c.args.bits) t c.args.bits (λ b. b < 2 ^ c.args.bits) c.args.width) c.args.rows.now c.rearrange.new.to) c.of_rows-t.ensures
    (subst (λ (f : Grid). Carried c.args.stacked.now (Route f c.of_rows-t.result c.args.bits (λ b. b < 2 ^ c.args.bits) c.args.width) c.args.rows.now c.rearrange.new.to) c.of_columns-f.ensures c.rearrange.ensures))
    (c.rearrange.auto.to ∙ c.requires.3)
