use Rattle.prover.proofs.LineValues.{words_canonical, point_one, point_two}
use Rattle.prover.proofs.lines.point.Goals as goal

pub line_at_two-requires : goal.line_at_two-requires
line_at_two-requires c = record { canonical = words_canonical _ c.requires.canonical _ c.read-lo.ensures; canonical_2 = words_canonical _ c.requires.canonical _ c.read-hi.ensures }

pub returns-then-two : goal.returns-then-two
returns-then-two c = point_two _ c.requires.canonical _ c.if-two.true c.read-lo.ensures c.read-hi.ensures c.line_at_two.ensures

pub returns : goal.returns
returns c = point_one _ c.requires.canonical _ c.if-two.false c.read-hi.ensures
