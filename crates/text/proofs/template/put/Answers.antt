use mathlib.Core.Path.{refl}
use native.Mathlib.Omega.{arith}
use lib.ListN.{get_or}
use Rattle.text.proofs.Templates.{marks_low, putting_start, putting_turn, putting_end}
use Rattle.text.proofs.template.put.Goals as goal

pub loop-byte-init : goal.loop-byte-init
loop-byte-init c = (omega arith, refl, putting_start _ _ _ _)

pub loop-byte-preserved : goal.loop-byte-preserved
loop-byte-preserved c =
    let l = c.loop-byte in
    let a = c.args in
    let q = c.put_byte-to in
    let m = c.marks_after-k in
    let x = c.number_at-x in (
      omega (arith, m.ensures, marks_low (get_or a.template.now l.byte-index 0) l.k),
      omega (arith, q.auto.out, l.invariant.1),
      putting_turn a.out.now a.at a.template.now a.numbers.now l.byte-index l.k l.to l.out l.invariant.2 (omega arith) q.result q.new.out m.result
          (rw x.ensures at q.ensures) m.ensures,
    )

pub returns : goal.returns
returns c =
    let l = c.loop-byte in
    let a = c.args in
    putting_end a.out.now a.at a.template.now a.numbers.now l.byte-index l.k l.to l.out l.invariant.2 (omega arith)
