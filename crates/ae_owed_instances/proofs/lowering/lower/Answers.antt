use Rattle.std.proofs.Common.{◌≡◌, ◌<◌, ◌+◌, true, List, sym, subst}
use Rattle.std.specs.List.{Contains}
use Rattle.ae_between_rounds.specs.declared.search.Instance.{Instance}
use Rattle.ae_block_constants.specs.declared.opened.Opened.{Opened}
use Rattle.ae_brought_clauses.specs.Brought.{AreBrought}
use Rattle.ae_core.specs.declared.formulas.Lit.{Lit}
use Rattle.ae_owed_instances.proofs.Lower.{blocks_named, fallen, literals_sorted}
use Rattle.ae_owed_instances.proofs.Lists.{total_less}
use Rattle.ae_owed_instances.specs.Inner.Falling.{HasFallen, total}
use Rattle.ae_rules.specs.Derivations.{clause_ok}
use Rattle.ae_owed_instances.proofs.lowering.lower.Goals as goal

pub bring_again-requires-clause-same : goal.bring_again-requires-clause-same
bring_again-requires-clause-same c = c.requires.between.searching.signature

pub bring_again-requires-clause-sorted : goal.bring_again-requires-clause-sorted
bring_again-requires-clause-sorted c =
    let m = c.requires.found in
    subst (λ (ls : List Lit). clause_ok c.args.task.problem.now.signature ls ≡ true) (sym c.as_slice-few.ensures)
    (literals_sorted c.args.task.problem.now c.args.task.goal c.args.task.generations c.args.search.now c.requires.between c.args.place c.args.number m (c.requires.less m.instance m.at) c.in_ok-literals.literals
    (c.in_ok-literals.ensures m.instance m.owner m.at m.there))

pub bring_again-requires-clause-blocks : goal.bring_again-requires-clause-blocks
bring_again-requires-clause-blocks c = λ o i. c.requires.between.holds.constants.sorted o (subst (λ (zs : List Opened). Contains zs o) c.as_slice-opened.ensures i)

pub bring_again-requires-clause-there : goal.bring_again-requires-clause-there
bring_again-requires-clause-there c = λ o d t i e h.
    blocks_named c.args.task.problem.now c.args.task.goal c.args.task.generations c.args.search.now c.requires.between o d t (subst (λ (zs : List Opened). Contains zs o) c.as_slice-opened.ensures i) e h

pub returns-clause-fallen : goal.returns-clause-fallen
returns-clause-fallen c =
    let m = c.requires.found in
    let o = c.args.search.now in
    let t = c.bring_again.new.store in
    let fs = c.bring_again.new.ages in
    let again =
    subst (λ (z : List Opened × List Lit). AreBrought z.0 (c.args.number + 1) o.store o.ages t fs z.1) (λ k. (c.as_slice-opened.ensures k, c.as_slice-few.ensures k)) c.in_ok-bring_again.ensures.brought in
    subst (λ (ms : List Instance). HasFallen c.args.task.problem.now c.args.task.goal c.args.task.generations o (record o { store = t; ages = fs; instances = record o.instances { made = ms } }))
    (sym (c.in_ok-bring_again.ensures.made m.instance m.at))
    (fallen c.args.task.problem.now c.args.task.goal c.args.task.generations o c.requires.between c.args.place c.args.number m (c.requires.less m.instance m.at) c.in_ok-literals.literals
    (c.in_ok-literals.ensures m.instance m.owner m.at m.there) t fs again c.in_ok-bring_again.ensures.store c.alike_names_hold.ensures.searches c.requires.is_open)

pub returns-clause-less : goal.returns-clause-less
returns-clause-less c =
    let m = c.requires.found in
    let o = c.args.search.now in
    subst (λ (ms : List Instance). total ms < total o.instances.made) (sym (c.in_ok-bring_again.ensures.made m.instance m.at))
    (total_less o.instances.made c.args.place m.instance c.args.number m.at (c.requires.less m.instance m.at))
