use Rattle.std.specs.Prelude.{ℕ, ◌≤◌, List, length}
use Rattle.std.proofs.Common.{◌∙◌, sym, subst, arith}
use Rattle.ae_linear.specs.Inner.Occurrences.{OccursFrom, OccursIn}
use Rattle.ae_linear.specs.declared.occurrences.Link.{Link}
use Rattle.ae_linear.proofs.Links.{linking_none, linking_more, stays_set, at_head, heads_set}
use Rattle.ae_linear.proofs.occurrences.link_all.Goals as goal

pub loop-row-init : goal.loop-row-init
loop-row-init c = linking_none c.args.links.now.items c.head_of-head.result c.args.rows.now c.requires.linked (subst (λ (w : List Link). c.head_of-head.result ≤ length w) c.deref.ensures.value c.head_of-head.ensures.within)

pub loop-row-preserved : goal.loop-row-preserved
loop-row-preserved c =
    linking_more c.args.links.now.items c.loop-row.links.items c.push.new.self.items c.head_of-head.result c.loop-row.head c.len-head.result c.args.rows.now c.loop-row.row-index _
    c.loop-row.invariant c.loop-row-test.true c.in_ok-push.ensures.items (c.len-head.ensures ∙ c.push.new.self.ok.0)

pub returns-clause-heads : goal.returns-clause-heads
returns-clause-heads c =
    heads_set c.args.heads.now c.insert.new.self c.args.links.now.items c.loop-row.links.items c.args.name c.loop-row.head c.in_ok-insert.ensures.at c.loop-row.invariant.grows c.requires.heads c.loop-row.invariant.within

pub returns-clause-stays : goal.returns-clause-stays
returns-clause-stays c =
    stays_set c.args.heads.now c.insert.new.self c.args.links.now.items c.loop-row.links.items c.args.name c.loop-row.head c.in_ok-insert.ensures.at c.loop-row.invariant.grows
    (λ row o. c.loop-row.invariant.stays row (subst (λ (w : List Link). OccursFrom w c.head_of-head.result row) c.deref.ensures.value (c.head_of-head.ensures.all row (subst (λ (w : List Link). OccursIn c.args.heads.now w c.args.name row) (sym c.deref.ensures.value) o))))

pub returns-clause-named : goal.returns-clause-named
returns-clause-named c = λ row t.
    at_head c.args.heads.now c.insert.new.self c.args.links.now.items c.loop-row.links.items c.args.name c.loop-row.head c.in_ok-insert.ensures.at c.loop-row.invariant.grows row
    (subst (λ (r : ℕ). OccursFrom c.loop-row.links.items c.loop-row.head r) t.2 (c.loop-row.invariant.named t.0 row (omega (arith, t.1, c.loop-row-test.false))))
