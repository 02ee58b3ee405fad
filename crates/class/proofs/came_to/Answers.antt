-- `class::came_to` meets its contract: the node is met where its digit is in the word.
use Rattle.class.specs.Class.{came_to}
use Rattle.class.proofs.Meeting.{shifted, met-there, met-nowhere}
use Rattle.class.proofs.came_to.Goals as goal

pub returns-then-m-here-ne0 : goal.returns-then-m-here-ne0
unfolding came_to
returns-then-m-here-ne0 c =
    let a = c.args in
    let h = c.requires in
    let e = shifted a.at h in
    rw (met-there a.m.met a.at h (rw e at c.if-m-here-ne0.true))

pub returns : goal.returns
unfolding came_to
returns c =
    let a = c.args in
    let h = c.requires in
    let e = shifted a.at h in
    rw (met-nowhere a.m.met a.at h (rw e at c.if-m-here-ne0.false), e)
