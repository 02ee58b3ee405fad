-- `envelope::refusing::judged_by` meets its contract: the tests on the way say which number.
use mathlib.Core.Path.{refl, sym, ◌∙◌}
use lib.Dec.{eqb}
use Rattle.lists.specs.Places.{repeat_at, repeats, element_at}
use Rattle.lists.proofs.Places.{first_past, first_below-any}
use Rattle.envelope.proofs.Laws.{outside-false, values-4, values-5, values-6, values-7, values-8, values-9, values-right, judged-plain, judged-8}
use Rattle.envelope.proofs.refusing.judged_by.Goals as goal

pub returns-then-is_outside : goal.returns-then-is_outside
returns-then-is_outside c =
    let a = c.args in
    rw c.at.ensures (judged-plain a.e a.n a.stray (element_at 0 a.keys.now) refl (values-4 a.e a.n a.stray _ (sym c.is_outside.ensures ∙ c.if-is_outside.true)))

pub returns-then-n-gt-LONGEST_CONTENTS : goal.returns-then-n-gt-LONGEST_CONTENTS
returns-then-n-gt-LONGEST_CONTENTS c =
    let a = c.args in
    rw c.at-then-n-gt-LONGEST_CONTENTS.ensures (judged-plain a.e a.n a.stray (element_at 0 a.keys.now) refl (values-5 a.e a.n a.stray _ (sym c.is_outside.ensures ∙ c.if-is_outside.false) c.if-n-gt-LONGEST_CONTENTS.true))

pub returns-then-stray : goal.returns-then-stray
returns-then-stray c =
    let a = c.args in
    rw c.at-then-stray.ensures (judged-plain a.e a.n a.stray (element_at 0 a.keys.now) refl (values-6 a.e a.n a.stray _ (sym c.is_outside.ensures ∙ c.if-is_outside.false) c.if-n-gt-LONGEST_CONTENTS.false c.if-stray.true))

pub returns-then-is_outside-2 : goal.returns-then-is_outside-2
returns-then-is_outside-2 c =
    let a = c.args in
    rw c.at-then-is_outside-2.ensures (judged-plain a.e a.n a.stray (element_at 0 a.keys.now) refl (values-7 a.e a.n a.stray _ (sym c.is_outside.ensures ∙ c.if-is_outside.false) c.if-n-gt-LONGEST_CONTENTS.false c.if-stray.false (sym c.is_outside-2.ensures ∙ c.if-is_outside-2.true)))

pub first_seen-twin-requires : goal.first_seen-twin-requires
first_seen-twin-requires c = (outside-false 63 _ (sym c.is_outside.ensures ∙ c.if-is_outside.false)).1

pub returns-then-twin-e : goal.returns-then-twin-e
unfolding repeats
returns-then-twin-e c =
    let a = c.args in
    let twin-taken = first_below-any (repeat_at eqb (element_at 0 a.keys.now)) a.e.count (rw (← c.first_seen-twin.ensures) c.if-twin-e.true) in
    rw c.at-then-twin-e.ensures (judged-8 a.e a.n a.stray (element_at 0 a.keys.now) c.first_seen-twin.ensures (values-8 a.e a.n a.stray _ (sym c.is_outside.ensures ∙ c.if-is_outside.false) c.if-n-gt-LONGEST_CONTENTS.false c.if-stray.false (sym c.is_outside-2.ensures ∙ c.if-is_outside-2.false) twin-taken))

pub returns-then-wrong_version : goal.returns-then-wrong_version
unfolding repeats
returns-then-wrong_version c =
    let a = c.args in
    let twin-left = first_past (repeat_at eqb (element_at 0 a.keys.now)) a.e.count (rw (← c.first_seen-twin.ensures) c.if-twin-e.false) in
    rw c.at-then-wrong_version.ensures (judged-plain a.e a.n a.stray (element_at 0 a.keys.now) refl (values-9 a.e a.n a.stray _ (sym c.is_outside.ensures ∙ c.if-is_outside.false) c.if-n-gt-LONGEST_CONTENTS.false c.if-stray.false (sym c.is_outside-2.ensures ∙ c.if-is_outside-2.false) twin-left (sym c.wrong_version.ensures ∙ c.if-wrong_version.true)))

pub returns : goal.returns
unfolding repeats
returns c =
    let a = c.args in
    let twin-left = first_past (repeat_at eqb (element_at 0 a.keys.now)) a.e.count (rw (← c.first_seen-twin.ensures) c.if-twin-e.false) in
    let j = judged-plain a.e a.n a.stray (element_at 0 a.keys.now) refl (values-right a.e a.n a.stray _ (sym c.is_outside.ensures ∙ c.if-is_outside.false) c.if-n-gt-LONGEST_CONTENTS.false c.if-stray.false (sym c.is_outside-2.ensures ∙ c.if-is_outside-2.false) twin-left (sym c.wrong_version.ensures ∙ c.if-wrong_version.false)) in
    (sym j.0, (sym j.1, refl))
