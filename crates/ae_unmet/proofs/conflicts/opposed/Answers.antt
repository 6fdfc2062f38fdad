use Rattle.std.specs.Prelude.{ℕ, ◌<◌, ◌≡◌, List, map, length, slice_get}
use Rattle.std.proofs.Common.{sym, ap, ◌∙◌, subst}
use Rattle.std.proofs.lemmas.Option.{same_Some, slice_get_within}
use Rattle.ae_conflicts.specs.Saying.{SayEqual}
use Rattle.ae_conflicts.specs.declared.conflicts.Conflict.TheVariants as conflict
use Rattle.ae_pmap.specs.Forest.{present}
use Rattle.ae_store.specs.Terms.{named}
use Rattle.ae_theory.specs.Names.{terms_in}
use Rattle.ae_unmet.specs.Inner.Found.{HaveOneValueEach}
use Rattle.ae_unmet.proofs.Growth.{grown_pushed, own_pushed}
use Rattle.ae_unmet.proofs.OwnConflicts.{yes_there, no_there, opposed_values, opposed_now}
use Rattle.ae_unmet.proofs.conflicts.opposed.Goals as goal

pub unreachable-requires : goal.unreachable-requires
unreachable-requires c =
    let w = yes_there c.args.store.now c.args.held.now c.requires.taken c.args.positive c.args.negative c.requires.found in
    c.in_default.not-Some _ (c.atom_at.ensures _ _ w.there)

pub unreachable-requires-in_default-atom_at : goal.unreachable-requires-in_default-atom_at
unreachable-requires-in_default-atom_at c =
    let w = no_there c.args.store.now c.args.held.now c.requires.taken c.args.positive c.args.negative c.requires.found in
    c.in_default-atom_at.not-Some _ (c.atom_at-2.ensures _ _ w.there)

pub node-requires : goal.node-requires
node-requires c =
    let u = c.requires.found in
    let w = yes_there c.args.store.now c.args.held.now c.requires.taken c.args.positive c.args.negative u in
    let is : c.in-Some.first ≡ (u.is).first = same_Some c.in-Some.first (u.is).first (sym c.in-Some.is ∙ c.atom_at.ensures _ _ w.there) in
    subst (λ (k : ℕ). k < length c.args.store.now.nodes) (sym is) (slice_get_within c.args.store.now.nodes (u.is).first ((u.is).alike).first ((u.is).alike).first_at)

pub node-requires-2 : goal.node-requires-2
node-requires-2 c =
    let u = c.requires.found in
    let w = no_there c.args.store.now c.args.held.now c.requires.taken c.args.positive c.args.negative u in
    let is : c.in-Some-atom_at.second ≡ (u.is).second = same_Some c.in-Some-atom_at.second (u.is).second (sym c.in-Some-atom_at.is ∙ c.atom_at-2.ensures _ _ w.there) in
    subst (λ (k : ℕ). k < length c.args.store.now.nodes) (sym is) (slice_get_within c.args.store.now.nodes (u.is).second ((u.is).alike).second ((u.is).alike).second_at)

pub state_each-requires-clause-same : goal.state_each-requires-clause-same
state_each-requires-clause-same c =
    let s = c.args.store.now in
    let o = c.args.held.now in
    let u = c.requires.found in
    let yes = yes_there s o c.requires.taken c.args.positive c.args.negative u in
    let no = no_there s o c.requires.taken c.args.positive c.args.negative u in
    let first : c.in-Some.first ≡ (u.is).first = same_Some c.in-Some.first (u.is).first (sym c.in-Some.is ∙ c.atom_at.ensures _ _ yes.there) in
    let second : c.in-Some-atom_at.second ≡ (u.is).second = same_Some c.in-Some-atom_at.second (u.is).second (sym c.in-Some-atom_at.is ∙ c.atom_at-2.ensures _ _ no.there) in
    subst (λ (x : List ℕ × List ℕ). HaveOneValueEach s o x.0 x.1) (λ i. (sym c.as_slice-left.ensures i, sym c.as_slice-right.ensures i))
    (opposed_values s o c.requires.taken c.args.positive c.args.negative u c.requires.sorted c.node.result.now c.node-2.result.now
    (ap (slice_get s.nodes) (sym first) ∙ c.node.ensures.node) (ap (slice_get s.nodes) (sym second) ∙ c.node-2.ensures.node))

pub returns-clause-grown : goal.returns-clause-grown
returns-clause-grown c =
    grown_pushed c.args.store.now c.args.held.now c.state_each.new.held c.push_conflict.new.held c.state_each.ensures.grown c.push_conflict.ensures.front c.push_conflict.ensures.others

pub returns-clause-own : goal.returns-clause-own
returns-clause-own c =
    let s = c.args.store.now in
    let o = c.args.held.now in
    let mid = c.state_each.new.held in
    let u = c.requires.found in
    let steps = c.in_ok-steps.steps in
    let yes = yes_there s o c.requires.taken c.args.positive c.args.negative u in
    let no = no_there s o c.requires.taken c.args.positive c.args.negative u in
    let first : c.in-Some.first ≡ (u.is).first = same_Some c.in-Some.first (u.is).first (sym c.in-Some.is ∙ c.atom_at.ensures _ _ yes.there) in
    let second : c.in-Some-atom_at.second ≡ (u.is).second = same_Some c.in-Some-atom_at.second (u.is).second (sym c.in-Some-atom_at.is ∙ c.atom_at-2.ensures _ _ no.there) in
    let say = subst (λ (x : List ℕ × List ℕ). SayEqual (terms_in s) mid.justs (present o.assumed) steps (map (named (terms_in s)) x.0) (map (named (terms_in s)) x.1))
    (λ i. (c.as_slice-left.ensures i, c.as_slice-right.ensures i)) c.in_ok-steps.ensures.say in
    own_pushed s o mid c.push_conflict.new.held c.requires.taken c.state_each.ensures.grown c.push_conflict.ensures.front c.push_conflict.ensures.others (conflict.Opposed c.args.positive c.args.negative steps)
    (opposed_now s o c.requires.taken c.args.positive c.args.negative u c.requires.sorted c.node.result.now c.node-2.result.now
    (ap (slice_get s.nodes) (sym first) ∙ c.node.ensures.node) (ap (slice_get s.nodes) (sym second) ∙ c.node-2.ensures.node) mid.justs steps say)
    c.push_conflict.result c.push_conflict.ensures.at
