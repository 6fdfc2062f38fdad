use Rattle.std.proofs.Common.{List, [], sym, ◌∙◌, subst, map}
use Rattle.std.proofs.lemmas.Option.{same_Some}
use Rattle.std.proofs.lemmas.Result.{on_ok_weaker}
use Rattle.ae_core.specs.declared.terms.Sort.{Sort}
use Rattle.ae_core.specs.declared.terms.Term.{Term}
use Rattle.ae_journal.specs.States.{Owner, of_axiom}
use Rattle.ae_made_instances.proofs.One.{owner_axiom, owner_literal}
use Rattle.ae_made_instances.proofs.Ready.{literal_bare}
use Rattle.ae_made_instances.proofs.making.note_instance.Goals as goal
use Rattle.ae_made_instances.specs.Inner.Making.{IsDue, IsMade}
use Rattle.ae_owners.specs.Owners.{owner_of}
use Rattle.ae_owners.specs.declared.owners.Owner.{Owner as OwnerEntry}
use Rattle.ae_store.specs.Shapes.{shapes}
use Rattle.ae_store.specs.Terms.{named, terms}

pub terms_of-requires : goal.terms_of-requires
terms_of-requires g c = record { within = c.requires.due.within }

pub note_axiom-requires-clause-due : goal.note_axiom-requires-clause-due
note_axiom-requires-clause-due g c =
    let t = c.args.task in
    let o = c.args.search.now in
    let d = c.requires.due in
    let ss = c.args.subst.now.sorts in
    let ts = map (named (terms (shapes o.store.nodes))) c.args.subst.now.terms in
    let e = owner_axiom d.owner c.in-Some.place (sym (c.place_of.ensures d.owner d.at) ∙ c.in-Some.is) in
    subst (IsDue t.problem.now t.goal o c.args.number (of_axiom c.in-Some.place) ss) (sym c.in_ok-terms.ensures) (subst (λ (z : Owner). IsDue t.problem.now t.goal o c.args.number z ss ts) e d.due)

pub returns-in-Some-clause-made : goal.returns-in-Some-clause-made
returns-in-Some-clause-made g c o2 e2 =
    let t = c.args.task in
    let o = c.args.search.now in
    let new = c.note_axiom.new.search in
    let d = c.requires.due in
    let ss = c.args.subst.now.sorts in
    let e = owner_axiom d.owner c.in-Some.place (sym (c.place_of.ensures d.owner d.at) ∙ c.in-Some.is) in
    on_ok_weaker c.note_axiom.result
    (λ w. subst (λ (z : List Term). IsMade t.problem.now t.goal c.args.number (owner_of o2) ss z o new) c.in_ok-terms.ensures
    (subst (λ (z : OwnerEntry). IsMade t.problem.now t.goal c.args.number (owner_of z) ss c.in_ok-terms.terms o new) (same_Some d.owner o2 (sym d.at ∙ e2))
    (subst (λ (z : Owner). IsMade t.problem.now t.goal c.args.number z ss c.in_ok-terms.terms o new) (sym e) w))) c.note_axiom.ensures.made

pub note_literal-requires-clause-at : goal.note_literal-requires-clause-at
note_literal-requires-clause-at g c =
    let t = c.args.task in
    let o = c.args.search.now in
    let d = c.requires.due in
    let ss = c.args.subst.now.sorts in
    let ts = map (named (terms (shapes o.store.nodes))) c.args.subst.now.terms in
    let none = sym (c.place_of.ensures d.owner d.at) ∙ c.in-None.is in
    let e = owner_literal d.owner none in
    let bare = literal_bare t.problem.now t.goal t.generations c.args.level o c.requires.searching c.requires.beside c.args.number (record { positive = d.owner.positive; formula = d.owner.formula }) ss ts
    (subst (λ (z : Owner). IsDue t.problem.now t.goal o c.args.number z ss ts) e d.due) in (
      d.owner,
      d.at,
      none,
      subst (λ (z : List Term). IsDue t.problem.now t.goal o c.args.number (owner_of d.owner) [] z) (sym c.in_ok-terms.ensures)
          (subst (λ (z : List Sort). IsDue t.problem.now t.goal o c.args.number (owner_of d.owner) z ts) bare d.due),
    )

pub returns-clause-made : goal.returns-clause-made
returns-clause-made g c o2 e2 =
    let t = c.args.task in
    let o = c.args.search.now in
    let new = c.note_literal.new.search in
    let d = c.requires.due in
    let ss = c.args.subst.now.sorts in
    let ts = map (named (terms (shapes o.store.nodes))) c.args.subst.now.terms in
    let none = sym (c.place_of.ensures d.owner d.at) ∙ c.in-None.is in
    let e = owner_literal d.owner none in
    let bare = literal_bare t.problem.now t.goal t.generations c.args.level o c.requires.searching c.requires.beside c.args.number (record { positive = d.owner.positive; formula = d.owner.formula }) ss ts
    (subst (λ (z : Owner). IsDue t.problem.now t.goal o c.args.number z ss ts) e d.due) in
    on_ok_weaker c.note_literal.result
    (λ w. subst (λ (z : List Term). IsMade t.problem.now t.goal c.args.number (owner_of o2) ss z o new) c.in_ok-terms.ensures
    (subst (λ (z : List Sort). IsMade t.problem.now t.goal c.args.number (owner_of o2) z c.in_ok-terms.terms o new) (sym bare) w)) (c.note_literal.ensures.made o2 e2)
