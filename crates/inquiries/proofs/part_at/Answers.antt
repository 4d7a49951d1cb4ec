-- `inquiries::part_at` meets its contract: the part asked for, where there is one.
-- Assumes nothing.
use mathlib.Core.Path.{refl}
use borrow.Author.Tests.{le-leb}
use Rattle.inquiries.proofs.part_at.Goals as goal

pub returns : goal.returns
returns c =
    let part = c.args.part in
    let n = c.args.f.now.count in
    (simp (le-leb 1 part c.if-part-lt1.false, le-leb part n c.if-f-part.false), refl)
