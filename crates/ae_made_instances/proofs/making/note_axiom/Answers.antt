use Rattle.std.proofs.Common.{[], ◌∷◌, ◌∙◌}
use Rattle.std.proofs.lemmas.Result.{on_ok_weaker}
use Rattle.ae_journal.specs.States.{of_axiom}
use Rattle.ae_made_instances.proofs.Joining.{due_grows}
use Rattle.ae_made_instances.proofs.Made.{axiom_made, axiom_there}
use Rattle.ae_made_instances.proofs.Ready.{axiom_ready, axiom_states, own_axiom}
use Rattle.ae_made_instances.proofs.making.note_axiom.Goals as goal
use Rattle.ae_rules.specs.Clauses.{yes_of}

pub axiom_line-requires : goal.axiom_line-requires
axiom_line-requires g c =
    let t = c.args.task in
    let a = own_axiom t.problem.now t.goal t.generations c.args.level c.args.search.now c.requires.searching c.requires.beside c.requires.lawful c.args.number c.requires.below c.args.place c.args.sorts.now c.args.terms.now c.requires.due in record {
      stated = (
        yes_of a.formula ∷ [],
        axiom_states t.problem.now t.goal t.generations c.args.level c.args.search.now c.requires.searching c.requires.beside c.requires.lawful c.args.number c.requires.below c.args.place c.args.sorts.now c.args.terms.now c.requires.due,
      );
    }

pub note_line-requires-clause-ready : goal.note_line-requires-clause-ready
note_line-requires-clause-ready g c =
    let t = c.args.task in
    axiom_ready t.problem.now t.goal t.generations c.args.level c.args.search.now c.requires.searching c.requires.beside c.requires.lawful c.args.number c.requires.below c.args.place c.args.sorts.now c.args.terms.now c.requires.due
    c.in_ok-line.line c.in_ok-line.ensures

pub note_body-requires-clause-beside : goal.note_body-requires-clause-beside
note_body-requires-clause-beside g c = c.in_ok-level.ensures.noted.beside

pub note_body-requires-clause-limit : goal.note_body-requires-clause-limit
note_body-requires-clause-limit g c = c.in_ok-level.ensures.noted.goes_on.limit ∙ c.requires.limit

pub note_body-requires-clause-due : goal.note_body-requires-clause-due
note_body-requires-clause-due g c =
    let t = c.args.task in
    due_grows t.problem.now t.goal c.args.number c.args.search.now c.note_line.new.search c.in_ok-level.ensures.noted.goes_on (of_axiom c.args.place) c.args.sorts.now c.args.terms.now c.requires.due

pub note_body-requires-clause-typed : goal.note_body-requires-clause-typed
note_body-requires-clause-typed g c =
    let t = c.args.task in
    axiom_there t.problem.now t.goal c.args.number c.args.place c.args.sorts.now c.args.terms.now c.args.search.now c.note_line.new.search c.in_ok-line.line c.in_ok-line.ensures c.in_ok-level.ensures.noted

pub returns-clause-made : goal.returns-clause-made
returns-clause-made g c =
    let t = c.args.task in
    on_ok_weaker c.note_body.result
    (λ b. axiom_made t.problem.now t.goal c.args.number c.args.place c.args.sorts.now c.args.terms.now c.args.search.now c.note_line.new.search c.in_ok-line.line c.in_ok-line.ensures c.in_ok-level.ensures.noted
    c.note_body.new.search b) c.note_body.ensures.noted

pub returns-clause-limit : goal.returns-clause-limit
returns-clause-limit g c = c.note_body.ensures.limit ∙ c.in_ok-level.ensures.noted.goes_on.limit
