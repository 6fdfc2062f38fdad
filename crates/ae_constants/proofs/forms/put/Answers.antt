use Rattle.std.proofs.Common.{rules, ◌≡◌}
use Rattle.ae_math.specs.Fractions.{zero_ℚ}
use Rattle.ae_naturals.specs.Fractions.{value_of}
use Rattle.ae_constants.proofs.EnterLaws.{put_there}
use Rattle.ae_constants.proofs.forms.put.Goals as goal

pub returns-in_ok-insert : goal.returns-in_ok-insert
returns-in_ok-insert c =
    let some : value_of c.args.new.factor ≡ zero_ℚ → ⊥ = search rules in
    put_there c.insert.new.self.items c.args.parts.now.items c.args.place c.args.new c.in_ok-insert.ensures.items some
