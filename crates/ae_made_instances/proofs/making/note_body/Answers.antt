use Rattle.std.proofs.Common.{◌≡◌, refl, subst, sym, ◌∙◌}
use Rattle.std.proofs.lemmas.Result.{on_ok_weaker}
use Rattle.std.proofs.lemmas.Option.{same_Some}
use Rattle.ae_core.specs.declared.formulas.Formula.{Formula, out-Formula}
use Rattle.ae_core.specs.declared.formulas.Formula.TheOpen as layer
use Rattle.ae_instance_lines.specs.Stated.{IsLineOfTerms}
use Rattle.ae_made_instances.proofs.Ready.{body_ready, body_states, own_axiom}
use Rattle.ae_made_instances.proofs.making.note_body.Goals as goal
use Rattle.ae_made_instances.specs.Inner.Making.{IsBodyLine}
use Rattle.ae_made_instances.specs.Inner.Making.IsBodyNoted.{block, plain}

pub body_line-requires : goal.body_line-requires
body_line-requires g c =
    let t = c.args.task in
    let a = own_axiom t.problem.now t.goal t.generations c.args.level c.args.search.now c.requires.searching c.requires.beside c.requires.lawful c.args.number c.requires.below c.args.place c.args.sorts.now c.args.terms.now c.requires.due in record {
      stated = (
        a.formula,
        a.is,
        λ q all. body_states t.problem.now t.goal t.generations c.args.level c.args.search.now c.requires.searching c.requires.beside c.requires.lawful c.args.number c.requires.below c.args.place c.args.sorts.now
            c.args.terms.now c.requires.due q all,
      );
    }

pub returns-in-None-clause-noted : goal.returns-in-None-clause-noted
returns-in-None-clause-noted g c =
    let t = c.args.task in
    let b = subst (IsBodyLine t.problem.now t.goal c.args.place c.args.sorts.now c.args.terms.now) c.in-None.is c.in_ok-body_line.ensures in plain b.0 b.1 b.2 refl

pub note_line-requires-clause-ready : goal.note_line-requires-clause-ready
note_line-requires-clause-ready g c =
    let t = c.args.task in
    let o = c.args.search.now in
    let n = c.args.number in
    let k = c.args.place in
    let ss = c.args.sorts.now in
    let ts = c.args.terms.now in
    let b = subst (IsBodyLine t.problem.now t.goal c.args.place c.args.sorts.now c.args.terms.now) c.in-Some.is c.in_ok-body_line.ensures in
    let a = own_axiom t.problem.now t.goal t.generations c.args.level o c.requires.searching c.requires.beside c.requires.lawful n c.requires.below k ss ts c.requires.due in
    let e : b.0 ≡ a.formula = same_Some b.0 a.formula (sym b.1 ∙ a.is) in
    body_ready t.problem.now t.goal t.generations c.args.level o c.requires.searching c.requires.beside c.requires.lawful n c.requires.below k ss ts c.requires.due b.2.0
    (subst (λ (z : Formula). out-Formula z ≡ layer.All b.2.0) e b.2.1) c.requires.typed c.in-Some.line (subst (λ (z : Formula). IsLineOfTerms t.problem.now t.goal z ts c.in-Some.line) e b.2.2)

pub returns-in-Some-clause-noted : goal.returns-in-Some-clause-noted
returns-in-Some-clause-noted g c =
    let t = c.args.task in
    let b = subst (IsBodyLine t.problem.now t.goal c.args.place c.args.sorts.now c.args.terms.now) c.in-Some.is c.in_ok-body_line.ensures in
    on_ok_weaker c.note_line.result (λ w. block b.0 b.2.0 c.in-Some.line b.1 b.2.1 b.2.2 w) c.note_line.ensures.noted
