use Rattle.std.proofs.Common.{rules, ◌≡◌, true}
use Rattle.ae_decide_tests.proofs.tests.first_refusal.Goals as goal

pub overlaps_join-requires : goal.overlaps_join-requires
overlaps_join-requires c =
    let fit : c.in_ok-rules_fit.field-0 ≡ true = search rules in
    record { falls = λ k e i. (c.in_ok-rules_fit.ensures.0 fit k e i).falls }
