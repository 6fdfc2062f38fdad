use Rattle.std.proofs.Common.{sym, ◌∙◌}
use Rattle.std.proofs.lemmas.Result.{IfOk-weaker}
use Rattle.ae_ordered_rounds.proofs.Asking.{sides_open}
use Rattle.ae_ordered_rounds.proofs.Denied.{numbers_order}
use Rattle.ae_ordered_rounds.specs.Inner.Meeting.{AreDenied}
use Rattle.ae_ordered_rounds.proofs.meeting.open_numbers.Goals as goal

pub returns-then-numbers : goal.returns-then-numbers
returns-then-numbers c =
    let sig = c.args.signature.now in
    let t = c.args.trail.now.assigned in
    let s = c.args.left.now in
    let u = c.args.right.now in
    let are : AreDenied sig t (record { left = s; right = u }) = record { unequal = c.requires.denied; numbers = numbers_order sig s u (sym c.in_ok-numbers.ensures ∙ c.if-numbers.true) } in
    IfOk-weaker c.open_copies.result _ _ (λ found h. sides_open (AreDenied sig t) t (record { left = s; right = u }) found are h) c.open_copies.ensures
