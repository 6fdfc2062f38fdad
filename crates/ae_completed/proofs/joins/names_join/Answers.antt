use Rattle.std.proofs.Common.{◌≡◌, true}
use Rattle.std.specs.Prelude.{◌↔◌}
use Rattle.std.proofs.lemmas.Result.{IfOk-weaker}
use Rattle.ae_decide.specs.Clauses.{AllNamesJoin}
use Rattle.ae_completed.specs.Joins.{all_names_join}
use Rattle.ae_completed.proofs.JoinTests.{joins_tested}
use Rattle.ae_completed.proofs.joins.names_join.Goals as goal

pub all_names_join-requires : goal.all_names_join-requires
all_names_join-requires c = record { falls = λ k e i. (c.requires.rules k e i).falls }

pub returns : goal.returns
returns c =
    let sig = c.args.signature.now in
    let y = c.args.system.now in
    IfOk-weaker c.all_names_join.result (λ b. b ≡ all_names_join sig y) (λ b. (b ≡ true) ↔ AllNamesJoin sig y)
    (joins_tested sig y c.requires.terms c.requires.leaves c.requires.rules c.requires.overlaps) c.all_names_join.ensures
