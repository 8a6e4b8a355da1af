-- `plan_picture::picture::picture` meets its contract.
use mathlib.Core.Path.{◌≡◌}
use mathlib.Core.Bool.{false}
use lib.ListN.{length, get_or}
use native.Mathlib.Omega.{arith}
use Rattle.std.specs.Prelude.{is_ok}
use Rattle.std.specs.declared.result.Result.TheVariants.{Ok}
use Rattle.std.proofs.lemmas.Grind.{common_steps}
use Rattle.plan_picture.proofs.Drawings.{plan_drawable, refused_picture, drawn_picture}
use Rattle.plan_picture.proofs.picture.picture.Goals as goal

pub invariant_of-frame : goal.invariant_of-frame
invariant_of-frame c =
    let a = c.args in
    let e : c.plan-planned.result ≡ Ok c.in-Ok.p = grind (arith, common_steps) in
    let d = plan_drawable a.r a.words.now (length a.records.now) c.plan-planned.ensures.0 e in
    record { skip = d.skip; wide = d.wide; high = d.high }

pub returns-in-Ok : goal.returns-in-Ok
returns-in-Ok c =
    let plan = c.plan-planned in
    let e : plan.result ≡ Ok c.in-Ok.p = grind (arith, common_steps) in (
      plan.ensures.1,
      rw plan.ensures.0 at (drawn_picture (get_or c.args.words.now 0 0) (get_or c.args.words.now 1 0) plan.new.records _ _ _ plan.result
          c.min-k.result e (omega (arith, c.min-k.ensures, plan.auto)) c.draw.ensures),
    )

pub returns-in-Err : goal.returns-in-Err
returns-in-Err c =
    let plan = c.plan-planned in
    let e : is_ok plan.result ≡ false = grind (arith, common_steps) in (
      plan.ensures.1,
      rw plan.ensures.0 at (refused_picture (get_or c.args.words.now 0 0) (get_or c.args.words.now 1 0) plan.new.records _ _ _ plan.result e c.print.ensures),
    )
