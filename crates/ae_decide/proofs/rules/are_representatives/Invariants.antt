use Rattle.std.proofs.Common.{◌≡◌, true, take}
use Rattle.std.specs.List.{list_all}
use Rattle.ae_decide.specs.Rules.{is_representative}
use Rattle.ae_decide.proofs.rules.are_representatives.Given as goal

abbrev pub invariant-loop-name : goal.invariant-loop-name
invariant-loop-name l = list_all (is_representative l.signature l.system l.sort) (take l.name-index l.names) ≡ true
