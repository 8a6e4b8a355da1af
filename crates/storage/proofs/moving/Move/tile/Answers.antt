use mathlib.Core.Path.{refl}
use native.Mathlib.Omega.{arith}
use Rattle.storage.proofs.Tiles.{tile_there, tile_through}
use Rattle.storage.proofs.moving.Move.tile.Goals as goal

pub by_columns-requires : goal.by_columns-requires
by_columns-requires c = (omega (arith, c.requires.0), c.requires.3, tile_there _ _ c.requires.0 c.requires.2 (omega arith), record { from = (c.requires.5.into c.if-self.true).0; to = refl })

pub by_rows-requires : goal.by_rows-requires
by_rows-requires c = (omega (arith, c.requires.0), c.requires.1, tile_there _ _ c.requires.0 c.requires.2 (omega (arith, c.by_columns.auto.to)), c.requires.4, record { from = refl; to = (c.requires.5.into c.if-self.true).1 })

pub returns-then-self : goal.returns-then-self
returns-then-self c = tile_through _ _ _ _ _ c.requires.2 _ _ _ _ c.by_columns.ensures c.by_rows.ensures

pub by_rows-requires-2 : goal.by_rows-requires-2
by_rows-requires-2 c = (omega (arith, c.requires.0), c.requires.1, c.requires.3, tile_there _ _ c.requires.0 c.requires.2 (omega arith), record { from = (c.requires.5.out c.if-self.false).0; to = refl })

pub by_columns-requires-2 : goal.by_columns-requires-2
by_columns-requires-2 c = (omega (arith, c.requires.0), tile_there _ _ c.requires.0 c.requires.2 (omega (arith, c.by_rows-2.auto.to)), c.requires.4, record { from = refl; to = (c.requires.5.out c.if-self.false).1 })

pub returns : goal.returns
returns c = tile_through _ _ _ _ _ c.requires.2 _ _ _ _ c.by_rows-2.ensures c.by_columns-2.ensures
