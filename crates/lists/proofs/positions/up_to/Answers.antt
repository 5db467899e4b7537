use mathlib.Core.List.{◌++◌}
use mathlib.Core.Path.{◌≡◌, sym, ap, ◌∙◌}
use Prim.Native.Nat.{ℕ, ◌-◌}
use native.Mathlib.Omega.{arith}
use lib.ListN.{length, take, drop, length-append, length-drop}
use lib.Seq.{take_all, take_at, length-take-le}
use borrow.Rule.Slice.PartMut.{put_mid}
use Rattle.lists.specs.Lists.{pad, up_to}
use Rattle.lists.proofs.Pads.{put-zeroed}
use Rattle.lists.proofs.Selects.{up_to-none, length-up_to}
use Rattle.lists.proofs.positions.Gathering.{up_more}
use Rattle.lists.proofs.positions.up_to.Goals as goal

pub loop-i-init : goal.loop-i-init
loop-i-init c = sym up_to-none

pub loop-i-preserved : goal.loop-i-preserved
loop-i-preserved c = up_more c.loop-i.x-items c.loop-i.i (omega arith) c.loop-i.invariant

pub returns : goal.returns
returns c =
    let n = c.args.n in
    let front = c.loop-i.x-items in
    let back = drop n c.args.out.now in
    let long : length front ≡ n = omega (arith, length-take-le n c.args.out.now c.requires) in
    let all : front ≡ up_to n =
    sym (take_all n front (omega arith)) ∙ ap (λ (i : ℕ). take i front) (omega arith) ∙ c.loop-i.invariant ∙ ap up_to (omega arith) in
    ap (put_mid n (length (front ++ back) - n) (front ++ back)) c.fill_zero.ensures
    ∙ put-zeroed (front ++ back) (up_to n) n (length-up_to n) (take_at front back n long ∙ all)
    ∙ ap (λ (j : ℕ). pad j (up_to n)) (omega (arith, length-append front back, length-drop n c.args.out.now))
