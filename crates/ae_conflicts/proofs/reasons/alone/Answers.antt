use Rattle.std.specs.Prelude.{◌≡◌, ◌∷◌, [], Some, option_copied}
use Rattle.std.proofs.Common.{sym, ap, ◌∙◌}
use Rattle.std.proofs.lemmas.Result.{IfOk-weaker}
use Rattle.ae_pmap.specs.Pairs.{found}
use Rattle.ae_pmap.specs.Forest.{present}
use Rattle.ae_conflicts.specs.declared.assumed.Assumed.{Assumed}
use Rattle.ae_conflicts.proofs.Assumptions.{assumed_is}
use Rattle.ae_conflicts.proofs.reasons.alone.Goals as goal

pub returns-in-Some-clause-hyps : goal.returns-in-Some-clause-hyps
returns-in-Some-clause-hyps c =
    let held = present c.args.assumed.now in
    let there : found held c.args.place ≡ Some c.in-Some.entry.now = sym c.get.ensures.value ∙ ap (option_copied {T = Assumed}) c.in-Some.is in
    IfOk-weaker c.one.result _ _ (λ d h lit tag a. h ∙ ap (λ l. l ∷ []) (assumed_is held c.args.place c.in-Some.entry.now there lit tag a).0) c.one.ensures.hyps

pub returns-in-Some-clause-tags : goal.returns-in-Some-clause-tags
returns-in-Some-clause-tags c =
    let held = present c.args.assumed.now in
    let there : found held c.args.place ≡ Some c.in-Some.entry.now = sym c.get.ensures.value ∙ ap (option_copied {T = Assumed}) c.in-Some.is in
    IfOk-weaker c.one.result _ _ (λ d h lit tag a. h ∙ ap (λ n. n ∷ []) (assumed_is held c.args.place c.in-Some.entry.now there lit tag a).1) c.one.ensures.tags
