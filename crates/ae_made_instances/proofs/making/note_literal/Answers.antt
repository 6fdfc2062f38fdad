use Rattle.std.proofs.Common.{[], sym, ◌∙◌, subst}
use Rattle.std.proofs.lemmas.Option.{same_Some}
use Rattle.std.proofs.lemmas.Result.{on_ok_weaker}
use Rattle.ae_core.specs.declared.formulas.Lit.{Lit}
use Rattle.ae_journal.specs.States.{Owner}
use Rattle.ae_made_instances.proofs.Made.{literal_made}
use Rattle.ae_made_instances.proofs.One.{owner_literal}
use Rattle.ae_made_instances.proofs.Ready.{literal_ready, literal_states, universal}
use Rattle.ae_made_instances.proofs.making.note_literal.Goals as goal
use Rattle.ae_made_instances.specs.Inner.Making.{IsDue, IsMade}
use Rattle.ae_owners.specs.Owners.{owner_of}
use Rattle.ae_owners.specs.declared.owners.Owner.{Owner as OwnerEntry}

literal_of : OwnerEntry → Lit
literal_of o = record { positive = o.positive; formula = o.formula }

pub literal_line-requires : goal.literal_line-requires
unfolding literal_of
literal_line-requires g c =
    let t = c.args.task in
    let r = c.requires.at in
    let d = subst (λ (z : Owner). IsDue t.problem.now t.goal c.args.search.now c.args.number z [] c.args.terms.now) (owner_literal r.0 r.2) r.3 in
    record { at = (r.0, r.1, literal_states t.problem.now t.goal t.generations c.args.level c.args.search.now c.requires.searching c.requires.beside c.args.number c.requires.below (literal_of r.0) c.args.terms.now d) }

pub note_line-requires-clause-ready : goal.note_line-requires-clause-ready
unfolding literal_of
note_line-requires-clause-ready g c =
    let t = c.args.task in
    let r = c.requires.at in
    let d = subst (λ (z : Owner). IsDue t.problem.now t.goal c.args.search.now c.args.number z [] c.args.terms.now) (owner_literal r.0 r.2) r.3 in
    literal_ready t.problem.now t.goal t.generations c.args.level c.args.search.now c.requires.searching c.requires.beside c.args.number c.requires.below (literal_of r.0) c.args.terms.now d c.in_ok-line.line (c.in_ok-line.ensures r.0 r.1)

pub returns-clause-made : goal.returns-clause-made
unfolding literal_of
returns-clause-made g c o e =
    let t = c.args.task in
    let r = c.requires.at in
    let old = c.args.search.now in
    let new = c.note_line.new.search in
    let d = subst (λ (z : Owner). IsDue t.problem.now t.goal old c.args.number z [] c.args.terms.now) (owner_literal r.0 r.2) r.3 in
    let u = (universal t.problem.now t.goal t.generations c.args.level old c.requires.searching c.requires.beside c.args.number c.requires.below (literal_of r.0) c.args.terms.now d).universal in
    on_ok_weaker c.note_line.result
    (λ w. subst (λ (z : OwnerEntry). IsMade t.problem.now t.goal c.args.number (owner_of z) [] c.args.terms.now old new) (same_Some r.0 o (sym r.1 ∙ e))
    (subst (λ (z : Owner). IsMade t.problem.now t.goal c.args.number z [] c.args.terms.now old new) (sym (owner_literal r.0 r.2))
    (literal_made t.problem.now t.goal c.args.number old new (literal_of r.0) c.args.terms.now u c.in_ok-line.line (c.in_ok-line.ensures r.0 r.1) w))) c.note_line.ensures.noted
