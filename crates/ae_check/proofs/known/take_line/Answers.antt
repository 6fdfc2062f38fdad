use Rattle.std.proofs.Common.{◌≡◌, ◌∙◌, ap, sym, subst, Some}
use Rattle.ae_rules.specs.Derivations.{conclusion}
use Rattle.ae_check.specs.Inner.Coding.{number_in}
use Rattle.ae_check.specs.Inner.Knowing.{AreReady}
use Rattle.ae_check.proofs.Knowing.{ready, known_more}
use Rattle.ae_check.proofs.Novel.{set_more, numbered}
use Rattle.ae_check.proofs.Numbering.{concluded_kept, table_sized}
use Rattle.ae_check.proofs.known.take_line.Goals as goal

pub meets-requires-clause-ready : goal.meets-requires-clause-ready
meets-requires-clause-ready c =
    let p = c.args.problem.now in let g = c.args.goal in let es = c.args.earlier.now in let l = c.args.line.now in let old = c.args.known.now in
    let e : conclusion p g l ≡ Some c.as_slice.result.now = sym c.in_ok-clause.ensures ∙ c.in-Some.is ∙ ap Some (sym c.as_slice.ensures) in
    let o = c.in_ok-codes.ensures in
    subst (λ ks. AreReady p g es l ks c.codes_of.new.table.stamps.items c.as_slice-3.result.now) (sym c.as_slice-2.ensures)
    (subst (λ z. AreReady p g es l c.in_ok-codes.codes c.codes_of.new.table.stamps.items z) (sym c.as_slice-3.ensures)
    (ready p g es l c.as_slice.result.now c.in_ok-codes.codes old (record { table = c.codes_of.new.table; clauses = old.clauses; constants = old.constants }) c.requires e o.codes o.table o.kept o.stamps (λ i. old.clauses)))

pub returns-clause-known : goal.returns-clause-known
returns-clause-known c =
    let p = c.args.problem.now in let g = c.args.goal in let es = c.args.earlier.now in let l = c.args.line.now in let old = c.args.known.now in
    let e : conclusion p g l ≡ Some c.as_slice.result.now = sym c.in_ok-clause.ensures ∙ c.in-Some.is ∙ ap Some (sym c.as_slice.ensures) in
    let o = c.in_ok-codes.ensures in let new = number_in c.codes_of.new.table.numbers.entries in
    λ t. known_more p g es l c.in_ok-codes.codes old.clauses (record { table = record { numbers = c.codes_of.new.table.numbers; stamps = c.meets.new.stamps }; clauses = c.push.new.self; constants = c.gather_line.new.constants })
    (table_sized new c.codes_of.new.table.stamps.items c.meets.new.stamps.items c.in_ok-meets.ensures.size o.table)
    c.in_ok-meets.ensures.before (c.as_slice.result.now, e, o.codes)
    (concluded_kept p g (number_in old.table.numbers.entries) new o.kept es old.clauses c.requires.clauses) c.in_ok-push.ensures.ok
    (set_more p g es l c.as_slice-4.result.now old.constants c.gather_line.new.constants c.requires.constants
    (sym c.in_ok-clause.ensures ∙ c.in-Some.is ∙ ap Some (sym c.as_slice-4.ensures)) c.in_ok-gather_line.ensures)

pub gather_line-requires : goal.gather_line-requires
gather_line-requires c = numbered c.args.problem.now c.args.goal c.args.line.now c.as_slice.result.now (sym c.in_ok-clause.ensures ∙ c.in-Some.is ∙ ap Some (sym c.as_slice.ensures))
