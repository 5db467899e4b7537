-- `zero_from`: the part that was zeroed comes back. Assumes nothing.
use mathlib.Core.Path.{refl, ap, ◌∙◌}
use Prim.Native.Nat.{◌-◌}
use lib.ListN.{length, take}
use lib.Seq.{length-take-le}
use borrow.Rule.Slice.PartMut.{put_mid}
use Rattle.lists.proofs.Pads.{put-zeroed}
use Rattle.postings.proofs.filling.zero_from.Goals as goal

pub returns : goal.returns
returns c =
    let ws = c.args.words.now in
    let k = c.args.from in
    ap (put_mid k (length ws - k) ws) c.fill_zero.ensures
    ∙ put-zeroed ws (take k ws) k (length-take-le k ws c.requires) refl
