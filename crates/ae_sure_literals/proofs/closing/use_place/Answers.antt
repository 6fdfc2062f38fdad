use Rattle.std.specs.Prelude.{◌≡◌, Bool, List, true, false}
use Rattle.std.proofs.Common.{subst}
use Rattle.std.proofs.lemmas.Result.{IfOk-weaker}
use Rattle.ae_sure_literals.proofs.Using.{place_apart, place_used}
use Rattle.ae_sure_literals.specs.Inner.Closing.{UsesPlace, UsesRows, flag}
use Rattle.ae_sure_literals.proofs.closing.use_place.Goals as goal

pub returns-then-not-flagged : goal.returns-then-not-flagged
returns-then-not-flagged c =
    place_apart c.args.trail.now.assigned c.args.place c.args.flags.now (subst (λ (fs : List Bool). flag fs c.args.place ≡ false) c.as_slice.ensures c.if-not-flagged.true)

pub returns : goal.returns
returns c =
    let t = c.args.trail.now.assigned in
    let k = c.args.place in
    let old = c.args.flags.now in
    let now = c.use_rows.new.flags in
    IfOk-weaker c.use_rows.result (UsesRows t k old now) (UsesPlace t k old now)
    (λ b h. place_used t k old now b c.requires.within (subst (λ (fs : List Bool). flag fs k ≡ true) c.as_slice.ensures c.if-not-flagged.false) h) c.use_rows.ensures
