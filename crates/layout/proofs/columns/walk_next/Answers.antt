-- `columns::walk_next` meets its contract: past `has_strayed` the matrix is there and every sum fits. Assumes nothing.
use Prim.Native.Nat.{◌≤◌, ◌^◌}
use mathlib.Core.Path.{refl, ◌≡◌, sym, ◌∙◌}
use mathlib.Core.Bool.{false}
use native.Mathlib.Omega.{arith}
use Rattle.layout.specs.Columns.{strays}
use Rattle.layout.proofs.Walks.{Inside, inside, next_strays, next_within, next_over, next_small, next_open}
use Rattle.layout.proofs.columns.walk_next.Goals.{After-slice_len, Else-has_strayed}
use Rattle.layout.proofs.columns.walk_next.Goals as goal

stays : (c : Else-has_strayed) → strays c.args.l_skip c.args.n_stack c.args.list.now c.args.c ≡ false
stays c = sym c.has_strayed.ensures ∙ c.if-has_strayed.false

safe : (c : Else-has_strayed) → Inside c.args.l_skip c.args.n_stack c.args.list.now c.args.c
safe c = inside _ _ _ _ (stays c)

short : (c : After-slice_len) → c.slice_len.result ≤ 2 ^ 24
short c =
    next_small _ _ c.args.first _ _ _ _ (sym c.has_strayed.ensures ∙ c.if-has_strayed.false)
    refl c.slice_len.ensures

pub returns-then-has_strayed : goal.returns-then-has_strayed
returns-then-has_strayed c = c.end_mark.ensures ∙ next_strays _ _ _ _ _ (sym c.has_strayed.ensures ∙ c.if-has_strayed.true)

pub overflow_mul-w : goal.overflow_mul-w
overflow_mul-w c = omega (arith, safe c)

pub offset_bounds-list-i : goal.offset_bounds-list-i
offset_bounds-list-i c = omega (arith, safe c)

pub bounds-list-i : goal.bounds-list-i
bounds-list-i c = omega (arith, safe (goal.at.bounds-list-i c).Else-has_strayed)

pub overflow_mul-log : goal.overflow_mul-log
overflow_mul-log c = omega (arith, safe (goal.at.overflow_mul-log c).Else-has_strayed)

pub overflow_add-log : goal.overflow_add-log
overflow_add-log c = omega (arith, safe (goal.at.overflow_add-log c).Else-has_strayed)

pub offset_bounds-list-i-2 : goal.offset_bounds-list-i-2
offset_bounds-list-i-2 c = omega (arith, safe (goal.at.offset_bounds-list-i-2 c).Else-has_strayed)

pub bounds-list-i-2 : goal.bounds-list-i-2
bounds-list-i-2 c = omega (arith, safe (goal.at.bounds-list-i-2 c).Else-has_strayed)

pub slice_len-requires : goal.slice_len-requires
slice_len-requires c = omega (arith, safe (goal.at.slice_len-requires c).Else-has_strayed)

pub overflow_add-next : goal.overflow_add-next
overflow_add-next c = omega (arith, safe (goal.at.overflow_add-next c).Else-has_strayed, short c)

pub overflow_sub-w : goal.overflow_sub-w
overflow_sub-w c = omega (arith, (safe (goal.at.overflow_sub-w c).Else-has_strayed).column)

pub overflow_mul-result : goal.overflow_mul-result
overflow_mul-result c = omega (arith, safe (goal.at.overflow_mul-result c).Else-has_strayed)

pub overflow_add-result-then-j-w : goal.overflow_add-result-then-j-w
overflow_add-result-then-j-w c = omega (arith, safe (goal.at.overflow_add-result-then-j-w c).Else-has_strayed)

pub offset_bounds-list-i-then-j-w : goal.offset_bounds-list-i-then-j-w
offset_bounds-list-i-then-j-w c = omega (arith, safe (goal.at.offset_bounds-list-i-then-j-w c).Else-has_strayed)

pub bounds-list-i-then-j-w : goal.bounds-list-i-then-j-w
bounds-list-i-then-j-w c = omega (arith, safe (goal.at.bounds-list-i-then-j-w c).Else-has_strayed)

pub returns-then-j-w : goal.returns-then-j-w
returns-then-j-w c = next_within _ _ _ _ _ _ _ (stays (goal.at.returns-then-j-w c).Else-has_strayed) refl c.slice_len.ensures c.if-j-w.true

pub overflow_add-i : goal.overflow_add-i
overflow_add-i c = omega (arith, safe (goal.at.overflow_add-i c).Else-has_strayed)

pub opening-opened-requires : goal.opening-opened-requires
opening-opened-requires c = ((safe (goal.at.opening-opened-requires c).Else-has_strayed).sum, omega (arith, safe (goal.at.opening-opened-requires c).Else-has_strayed, short (goal.at.opening-opened-requires c).After-slice_len))

pub overflow_add-i-2 : goal.overflow_add-i-2
overflow_add-i-2 c = omega (arith, safe (goal.at.overflow_add-i-2 c).Else-has_strayed)

pub seek-requires : goal.seek-requires
seek-requires c = ((safe (goal.at.seek-requires c).Else-has_strayed).sum, (safe (goal.at.seek-requires c).Else-has_strayed).few, next_open _ _ _ _ _ _ _ (stays (goal.at.seek-requires c).Else-has_strayed) refl c.slice_len.ensures _ c.opening-opened.ensures, omega (arith, safe (goal.at.seek-requires c).Else-has_strayed))

pub returns : goal.returns
returns c = next_over _ _ _ _ _ _ _ (stays (goal.at.returns c).Else-has_strayed) refl c.slice_len.ensures _ _ c.if-j-w.false c.opening-opened.ensures c.seek.ensures
