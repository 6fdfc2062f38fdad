use Rattle.std.proofs.Common.{rules, sym, subst, ◌∙◌, ◌<◌, ◌≡◌, length, arith}
use Rattle.std.proofs.lemmas.Option.{slice_get_within}
use Rattle.ae_base.proofs.ListFacts.{value_at}
use Rattle.ae_core.specs.Signatures.{IsLawful}
use Rattle.ae_core.specs.declared.problems.Signature.{Signature}
use Rattle.ae_theory.specs.Names.{terms_in}
use Rattle.ae_goal_names.proofs.Joining.{as_many}
use Rattle.ae_choice_clauses.specs.Inner.Added.{HasAdded}
use Rattle.ae_choice_clauses.proofs.Growth.{none_added, one_more, adds}
use Rattle.ae_choice_clauses.proofs.adding.add_choices.Goals as goal

pub loop-name-init : goal.loop-name-init
loop-name-init c = none_added c.args.signature.now c.args.store.now c.args.first.now.lines.items c.args.first.now.clauses

pub add_choice-requires : goal.add_choice-requires
add_choice-requires c =
    let old = c.args.store.now in
    let mid = c.loop-name.store in
    let n = c.loop-name.name in
    let i = c.loop-name.invariant in
    let lt : n < c.len-name-end.result = search rules in
    let u = value_at (terms_in old) n (omega (arith, lt, c.len-name-end.ensures.len, as_many old)) in
    record {
      same = c.requires.same ∙ sym i.signature;
      within = omega (arith, slice_get_within (terms_in mid) n u.0 (i.keeps n u.0 u.1), as_many mid);
    }

pub loop-name-preserved : goal.loop-name-preserved
loop-name-preserved c =
    let old = c.args.store.now in
    let n = c.loop-name.name in
    let i = c.loop-name.invariant in
    let lt : n < c.len-name-end.result = search rules in
    let u = value_at (terms_in old) n (omega (arith, lt, c.len-name-end.ensures.len, as_many old)) in
    let at = i.keeps n u.0 u.1 in
    let now = c.add_choice.new.first in
    one_more c.args.signature.now n old c.loop-name.store c.add_choice.new.store c.args.first.now.lines.items c.loop-name.first.lines.items c.args.first.now.clauses c.loop-name.first.clauses i u.0 u.1
    (c.in_ok-add_choice.ensures.named u.0 at) now.lines.items now.clauses (c.in_ok-add_choice.ensures.kept u.0 at)

pub returns : goal.returns
returns c p g same =
    let old = c.args.store.now in
    let new = c.loop-name.store in
    let n : c.loop-name.name ≡ length old.nodes = omega (arith, c.len-name-end.ensures.len) in
    let law = subst IsLawful (sym (same ∙ c.requires.same)) c.len-name-end.ensures.store.lawful in
    adds p g law old new c.args.first.now.lines.items c.loop-name.first.lines.items c.args.first.now.clauses c.loop-name.first.clauses
    (subst (λ (sig : Signature). HasAdded sig (length old.nodes) old new c.args.first.now.lines.items c.loop-name.first.lines.items c.args.first.now.clauses c.loop-name.first.clauses) (sym same)
    (subst (λ k. HasAdded c.args.signature.now k old new c.args.first.now.lines.items c.loop-name.first.lines.items c.args.first.now.clauses c.loop-name.first.clauses) n c.loop-name.invariant))
