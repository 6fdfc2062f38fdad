use Rattle.std.proofs.Common.{rules, refl, ◌∙◌, Ok, ap, arith, inl, inr}
use Rattle.ae_journal.specs.Noted.{Noted}
use Rattle.ae_journal.specs.Journals.{counted_in}
use Rattle.ae_propagation.specs.Settled.{last_level}
use Rattle.ae_sat.proofs.Enlarging.{enlarges_same, enlarges_more}
use Rattle.ae_sat.proofs.Failing.{passed_on}
use Rattle.ae_sat.proofs.Searching.{notes_none, notes_more, keeps_same, keeps_more, named_still}
use Rattle.ae_sat.proofs.Resting.{still_brings, went_on}
use Rattle.ae_sat.proofs.solver.Solver.run.Goals as goal

pub returns-in_err-k-clause-legal : goal.returns-in_err-k-clause-legal
returns-in_err-k-clause-legal g c setting bound e s w =
    let st = c.loop-k.invariant.stated setting.problem setting.goal e.signature s in
    let inv = c.loop-k.invariant.legal setting bound e s w in
    let pr = c.in_err-k.ensures.legal setting bound (named_still setting c.args.store.now c.args.journal.now.lines c.loop-k.journal.lines inv.0.added inv.0.is e) st inv.1 in
    (notes_more setting bound c.args.journal.now.lines c.loop-k.journal.lines c.propagate.new.journal.lines inv.0 pr.0, search rules)

pub returns-in_err-learn-in-Clause-clause-legal : goal.returns-in_err-learn-in-Clause-clause-legal
returns-in_err-learn-in-Clause-clause-legal g c setting bound e s w =
    let st = c.loop-k.invariant.stated setting.problem setting.goal e.signature s in
    let inv = c.loop-k.invariant.legal setting bound e s w in
    let pr = c.in_ok-k.ensures.legal setting bound (named_still setting c.args.store.now c.args.journal.now.lines c.loop-k.journal.lines inv.0.added inv.0.is e) st inv.1 in
    let ps = c.in_ok-k.ensures.stated setting.problem setting.goal e.signature st in
    let le = c.in_err-learn-in-Clause.ensures.legal setting bound
    (named_still setting c.args.store.now c.loop-k.journal.lines c.propagate.new.journal.lines pr.0.added pr.0.is (named_still setting c.args.store.now c.args.journal.now.lines c.loop-k.journal.lines inv.0.added inv.0.is e))
    ps pr.1 in (
      notes_more setting bound c.args.journal.now.lines c.propagate.new.journal.lines c.learn.new.journal.lines
          (notes_more setting bound c.args.journal.now.lines c.loop-k.journal.lines c.propagate.new.journal.lines inv.0 pr.0) le.0,
      search rules,
    )

pub returns-then-branch-clause-legal : goal.returns-then-branch-clause-legal
returns-then-branch-clause-legal g c setting bound e s w =
    let st = c.loop-k.invariant.stated setting.problem setting.goal e.signature s in
    let inv = c.loop-k.invariant.legal setting bound e s w in
    let pr = c.in_ok-k.ensures.legal setting bound (named_still setting c.args.store.now c.args.journal.now.lines c.loop-k.journal.lines inv.0.added inv.0.is e) st inv.1 in
    let ps = c.in_ok-k.ensures.stated setting.problem setting.goal e.signature st in
    let le = c.in_ok-learn-in-Clause.ensures.legal setting bound (named_still setting c.args.store.now c.loop-k.journal.lines c.propagate.new.journal.lines pr.0.added pr.0.is
    (named_still setting c.args.store.now c.args.journal.now.lines c.loop-k.journal.lines inv.0.added inv.0.is e)) ps pr.1 in (
      notes_more setting bound c.args.journal.now.lines c.propagate.new.journal.lines c.learn.new.journal.lines
          (notes_more setting bound c.args.journal.now.lines c.loop-k.journal.lines c.propagate.new.journal.lines inv.0 pr.0) le.0,
      le.1,
    )

pub loop-k-preserved-else-branch : goal.loop-k-preserved-else-branch
loop-k-preserved-else-branch g c = record {
  alive = c.in_ok-learn-in-Clause.ensures.alive;
  enlarges = enlarges_more c.args.store.now c.args.self.now.propagation.clauses c.propagate.new.self.propagation.clauses c.learn.new.self.propagation.clauses c.args.lines.now.items c.propagate.new.lines.items c.learn.new.lines.items
      (enlarges_more c.args.store.now c.args.self.now.propagation.clauses c.loop-k.self.propagation.clauses c.propagate.new.self.propagation.clauses c.args.lines.now.items c.loop-k.lines.items c.propagate.new.lines.items c.loop-k.invariant.enlarges c.in_ok-k.ensures.enlarges)
      c.in_ok-learn-in-Clause.ensures.enlarges;
  fresh = λ f. absurd ((c.learn.ensures.base (c.in_ok-k.ensures.brings.level ∙ ap last_level (c.loop-k.invariant.fresh f).none)).ended (c.in_ok-learn-in-Clause.was ∙ ap Ok c.if-branch.false));
  budget = λ f n h. absurd ((c.learn.ensures.base (c.in_ok-k.ensures.brings.level ∙ ap last_level (c.loop-k.invariant.fresh f).none)).ended (c.in_ok-learn-in-Clause.was ∙ ap Ok c.if-branch.false));
  stated = λ p n e s. c.in_ok-learn-in-Clause.ensures.stated p n e (c.in_ok-k.ensures.stated p n e (c.loop-k.invariant.stated p n e s));
  legal = λ setting bound e s w.
      let st = c.loop-k.invariant.stated setting.problem setting.goal e.signature s in
      let inv = c.loop-k.invariant.legal setting bound e s w in
      let pr = c.in_ok-k.ensures.legal setting bound (named_still setting c.args.store.now c.args.journal.now.lines c.loop-k.journal.lines inv.0.added inv.0.is e) st inv.1 in
      let ps = c.in_ok-k.ensures.stated setting.problem setting.goal e.signature st in
      let le = c.in_ok-learn-in-Clause.ensures.legal setting bound (named_still setting c.args.store.now c.loop-k.journal.lines c.propagate.new.journal.lines pr.0.added pr.0.is
      (named_still setting c.args.store.now c.args.journal.now.lines c.loop-k.journal.lines inv.0.added inv.0.is e)) ps pr.1 in (
        notes_more setting bound c.args.journal.now.lines c.propagate.new.journal.lines c.learn.new.journal.lines
            (notes_more setting bound c.args.journal.now.lines c.loop-k.journal.lines c.propagate.new.journal.lines inv.0 pr.0) le.0,
        le.1,
      );
  still = inr (went_on c.args.journal.now c.loop-k.journal c.propagate.new.journal c.learn.new.journal c.loop-k.invariant.journal c.in_ok-k.ensures.journal (c.learn.ensures.learnt (c.in_ok-learn-in-Clause.was ∙ ap Ok c.if-branch.false)));
  journal = keeps_more c.args.journal.now c.propagate.new.journal c.learn.new.journal
      (keeps_more c.args.journal.now c.loop-k.journal c.propagate.new.journal c.loop-k.invariant.journal c.in_ok-k.ensures.journal) c.in_ok-learn-in-Clause.ensures.journal;
}

pub returns-in-None-clause-legal : goal.returns-in-None-clause-legal
returns-in-None-clause-legal g c setting bound e s w =
    let st = c.loop-k.invariant.stated setting.problem setting.goal e.signature s in
    let inv = c.loop-k.invariant.legal setting bound e s w in
    let pr = c.in_ok-k.ensures.legal setting bound (named_still setting c.args.store.now c.args.journal.now.lines c.loop-k.journal.lines inv.0.added inv.0.is e) st inv.1 in
    (notes_more setting bound c.args.journal.now.lines c.loop-k.journal.lines c.propagate.new.journal.lines inv.0 pr.0, pr.1)

pub loop-k-preserved : goal.loop-k-preserved
loop-k-preserved g c = record {
  alive = c.in_ok-branch_on-in-Some.ensures.alive;
  enlarges = enlarges_more c.args.store.now c.args.self.now.propagation.clauses c.propagate.new.self.propagation.clauses c.branch_on.new.self.propagation.clauses c.args.lines.now.items c.propagate.new.lines.items c.branch_on.new.lines.items
      (enlarges_more c.args.store.now c.args.self.now.propagation.clauses c.loop-k.self.propagation.clauses c.propagate.new.self.propagation.clauses c.args.lines.now.items c.loop-k.lines.items c.propagate.new.lines.items c.loop-k.invariant.enlarges c.in_ok-k.ensures.enlarges)
      c.in_ok-branch_on-in-Some.ensures.enlarges;
  fresh = λ f. absurd (c.in-Some.ensures.1 (c.propagate.ensures.all_true (c.in_ok-k.was ∙ ap Ok c.in-Nothing.is) (c.loop-k.invariant.fresh f) c.in-Some.k c.in-Some.ensures.0));
  budget = λ f n h. absurd (c.in-Some.ensures.1 (c.propagate.ensures.all_true (c.in_ok-k.was ∙ ap Ok c.in-Nothing.is) (c.loop-k.invariant.fresh f) c.in-Some.k c.in-Some.ensures.0));
  stated = λ p n e s. c.in_ok-branch_on-in-Some.ensures.stated p n e (c.in_ok-k.ensures.stated p n e (c.loop-k.invariant.stated p n e s));
  legal = λ setting bound e s w.
      let st = c.loop-k.invariant.stated setting.problem setting.goal e.signature s in
      let inv = c.loop-k.invariant.legal setting bound e s w in
      let pr = c.in_ok-k.ensures.legal setting bound (named_still setting c.args.store.now c.args.journal.now.lines c.loop-k.journal.lines inv.0.added inv.0.is e) st inv.1 in
      let ps = c.in_ok-k.ensures.stated setting.problem setting.goal e.signature st in
      let le = c.in_ok-branch_on-in-Some.ensures.legal setting bound
      (named_still setting c.args.store.now c.loop-k.journal.lines c.propagate.new.journal.lines pr.0.added pr.0.is (named_still setting c.args.store.now c.args.journal.now.lines c.loop-k.journal.lines inv.0.added inv.0.is e))
      ps pr.1 in (
        notes_more setting bound c.args.journal.now.lines c.propagate.new.journal.lines c.branch_on.new.journal.lines
            (notes_more setting bound c.args.journal.now.lines c.loop-k.journal.lines c.propagate.new.journal.lines inv.0 pr.0) le.0,
        le.1,
      );
  still = inr (went_on c.args.journal.now c.loop-k.journal c.propagate.new.journal c.branch_on.new.journal c.loop-k.invariant.journal c.in_ok-k.ensures.journal c.in_ok-branch_on-in-Some.ensures.decided);
  journal = keeps_more c.args.journal.now c.propagate.new.journal c.branch_on.new.journal
      (keeps_more c.args.journal.now c.loop-k.journal c.propagate.new.journal c.loop-k.invariant.journal c.in_ok-k.ensures.journal) c.in_ok-branch_on-in-Some.ensures.journal;
}

pub returns-in_err-branch_on-in-Some-clause-legal : goal.returns-in_err-branch_on-in-Some-clause-legal
returns-in_err-branch_on-in-Some-clause-legal g c setting bound e s w =
    let st = c.loop-k.invariant.stated setting.problem setting.goal e.signature s in
    let inv = c.loop-k.invariant.legal setting bound e s w in
    let pr = c.in_ok-k.ensures.legal setting bound (named_still setting c.args.store.now c.args.journal.now.lines c.loop-k.journal.lines inv.0.added inv.0.is e) st inv.1 in
    let ps = c.in_ok-k.ensures.stated setting.problem setting.goal e.signature st in
    let le = c.in_err-branch_on-in-Some.ensures.legal setting bound
    (named_still setting c.args.store.now c.loop-k.journal.lines c.propagate.new.journal.lines pr.0.added pr.0.is (named_still setting c.args.store.now c.args.journal.now.lines c.loop-k.journal.lines inv.0.added inv.0.is e))
    ps pr.1 in (
      notes_more setting bound c.args.journal.now.lines c.propagate.new.journal.lines c.branch_on.new.journal.lines
          (notes_more setting bound c.args.journal.now.lines c.loop-k.journal.lines c.propagate.new.journal.lines inv.0 pr.0) le.0,
      search rules,
    )

pub returns-in_err-learn_block-in-Contradiction-clause-legal : goal.returns-in_err-learn_block-in-Contradiction-clause-legal
returns-in_err-learn_block-in-Contradiction-clause-legal g c setting bound e s w =
    let st = c.loop-k.invariant.stated setting.problem setting.goal e.signature s in
    let inv = c.loop-k.invariant.legal setting bound e s w in
    let pr = c.in_ok-k.ensures.legal setting bound (named_still setting c.args.store.now c.args.journal.now.lines c.loop-k.journal.lines inv.0.added inv.0.is e) st inv.1 in
    let ps = c.in_ok-k.ensures.stated setting.problem setting.goal e.signature st in
    let le = c.in_err-learn_block-in-Contradiction.ensures.legal setting bound
    (named_still setting c.args.store.now c.loop-k.journal.lines c.propagate.new.journal.lines pr.0.added pr.0.is (named_still setting c.args.store.now c.args.journal.now.lines c.loop-k.journal.lines inv.0.added inv.0.is e))
    ps pr.1 in (
      notes_more setting bound c.args.journal.now.lines c.propagate.new.journal.lines c.learn_block.new.journal.lines
          (notes_more setting bound c.args.journal.now.lines c.loop-k.journal.lines c.propagate.new.journal.lines inv.0 pr.0) le.0,
      search rules,
    )

pub returns-then-branch-2-clause-legal : goal.returns-then-branch-2-clause-legal
returns-then-branch-2-clause-legal g c setting bound e s w =
    let st = c.loop-k.invariant.stated setting.problem setting.goal e.signature s in
    let inv = c.loop-k.invariant.legal setting bound e s w in
    let pr = c.in_ok-k.ensures.legal setting bound (named_still setting c.args.store.now c.args.journal.now.lines c.loop-k.journal.lines inv.0.added inv.0.is e) st inv.1 in
    let ps = c.in_ok-k.ensures.stated setting.problem setting.goal e.signature st in
    let le = c.in_ok-learn_block-in-Contradiction.ensures.legal setting bound
    (named_still setting c.args.store.now c.loop-k.journal.lines c.propagate.new.journal.lines pr.0.added pr.0.is (named_still setting c.args.store.now c.args.journal.now.lines c.loop-k.journal.lines inv.0.added inv.0.is e))
    ps pr.1 in (
      notes_more setting bound c.args.journal.now.lines c.propagate.new.journal.lines c.learn_block.new.journal.lines
          (notes_more setting bound c.args.journal.now.lines c.loop-k.journal.lines c.propagate.new.journal.lines inv.0 pr.0) le.0,
      le.1,
    )

pub loop-k-preserved-else-branch-2 : goal.loop-k-preserved-else-branch-2
loop-k-preserved-else-branch-2 g c = record {
  alive = c.in_ok-learn_block-in-Contradiction.ensures.alive;
  enlarges = enlarges_more c.args.store.now c.args.self.now.propagation.clauses c.propagate.new.self.propagation.clauses c.learn_block.new.self.propagation.clauses c.args.lines.now.items c.propagate.new.lines.items c.learn_block.new.lines.items
      (enlarges_more c.args.store.now c.args.self.now.propagation.clauses c.loop-k.self.propagation.clauses c.propagate.new.self.propagation.clauses c.args.lines.now.items c.loop-k.lines.items c.propagate.new.lines.items c.loop-k.invariant.enlarges c.in_ok-k.ensures.enlarges)
      (c.in_ok-learn_block-in-Contradiction.ensures.enlarges ((c.propagate.ensures.block c.in-Contradiction.block (c.in_ok-k.was ∙ ap Ok c.in-Contradiction.is)).3));
  fresh = λ f. absurd ((c.learn_block.ensures.base (c.in_ok-k.ensures.brings.level ∙ ap last_level (c.loop-k.invariant.fresh f).none)).ended (c.in_ok-learn_block-in-Contradiction.was ∙ ap Ok c.if-branch-2.false));
  budget = λ f n h. absurd ((c.learn_block.ensures.base (c.in_ok-k.ensures.brings.level ∙ ap last_level (c.loop-k.invariant.fresh f).none)).ended (c.in_ok-learn_block-in-Contradiction.was ∙ ap Ok c.if-branch-2.false));
  stated = λ p n e s. c.in_ok-learn_block-in-Contradiction.ensures.stated p n e (c.in_ok-k.ensures.stated p n e (c.loop-k.invariant.stated p n e s));
  legal = λ setting bound e s w.
      let st = c.loop-k.invariant.stated setting.problem setting.goal e.signature s in
      let inv = c.loop-k.invariant.legal setting bound e s w in
      let pr = c.in_ok-k.ensures.legal setting bound (named_still setting c.args.store.now c.args.journal.now.lines c.loop-k.journal.lines inv.0.added inv.0.is e) st inv.1 in
      let ps = c.in_ok-k.ensures.stated setting.problem setting.goal e.signature st in
      let le = c.in_ok-learn_block-in-Contradiction.ensures.legal setting bound
      (named_still setting c.args.store.now c.loop-k.journal.lines c.propagate.new.journal.lines pr.0.added pr.0.is (named_still setting c.args.store.now c.args.journal.now.lines c.loop-k.journal.lines inv.0.added inv.0.is e))
      ps pr.1 in (
        notes_more setting bound c.args.journal.now.lines c.propagate.new.journal.lines c.learn_block.new.journal.lines
            (notes_more setting bound c.args.journal.now.lines c.loop-k.journal.lines c.propagate.new.journal.lines inv.0 pr.0) le.0,
        le.1,
      );
  still = inr (went_on c.args.journal.now c.loop-k.journal c.propagate.new.journal c.learn_block.new.journal c.loop-k.invariant.journal c.in_ok-k.ensures.journal (c.learn_block.ensures.learnt (c.in_ok-learn_block-in-Contradiction.was ∙ ap Ok c.if-branch-2.false)));
  journal = keeps_more c.args.journal.now c.propagate.new.journal c.learn_block.new.journal
      (keeps_more c.args.journal.now c.loop-k.journal c.propagate.new.journal c.loop-k.invariant.journal c.in_ok-k.ensures.journal) c.in_ok-learn_block-in-Contradiction.ensures.journal;
}

pub learn_block-requires-clause-contradictory : goal.learn_block-requires-clause-contradictory
learn_block-requires-clause-contradictory g c = (c.propagate.ensures.block c.in-Contradiction.block (c.in_ok-k.was ∙ ap Ok c.in-Contradiction.is)).0

pub learn_block-requires-clause-sorted : goal.learn_block-requires-clause-sorted
learn_block-requires-clause-sorted g c = (c.propagate.ensures.block c.in-Contradiction.block (c.in_ok-k.was ∙ ap Ok c.in-Contradiction.is)).1

pub learn_block-requires-clause-falsified : goal.learn_block-requires-clause-falsified
learn_block-requires-clause-falsified g c = (c.propagate.ensures.block c.in-Contradiction.block (c.in_ok-k.was ∙ ap Ok c.in-Contradiction.is)).2

pub returns-in_err-k-clause-allowed : goal.returns-in_err-k-clause-allowed
returns-in_err-k-clause-allowed g c p n e s = c.in_err-k.ensures.allowed p n e (c.loop-k.invariant.stated p n e s)

pub returns-in-None-clause-allowed : goal.returns-in-None-clause-allowed
returns-in-None-clause-allowed g c p n e s = c.in_ok-k.ensures.allowed p n e (c.loop-k.invariant.stated p n e s)

pub returns-in_err-learn-in-Clause-clause-allowed : goal.returns-in_err-learn-in-Clause-clause-allowed
returns-in_err-learn-in-Clause-clause-allowed g c p n e s = c.in_err-learn-in-Clause.ensures.allowed p n e (c.in_ok-k.ensures.stated p n e (c.loop-k.invariant.stated p n e s))

pub returns-then-branch-clause-allowed : goal.returns-then-branch-clause-allowed
returns-then-branch-clause-allowed g c p n e s = c.in_ok-learn-in-Clause.ensures.allowed p n e (c.in_ok-k.ensures.stated p n e (c.loop-k.invariant.stated p n e s))

pub returns-in_err-learn_block-in-Contradiction-clause-allowed : goal.returns-in_err-learn_block-in-Contradiction-clause-allowed
returns-in_err-learn_block-in-Contradiction-clause-allowed g c p n e s = c.in_err-learn_block-in-Contradiction.ensures.allowed p n e (c.in_ok-k.ensures.stated p n e (c.loop-k.invariant.stated p n e s))

pub returns-then-branch-2-clause-allowed : goal.returns-then-branch-2-clause-allowed
returns-then-branch-2-clause-allowed g c p n e s = c.in_ok-learn_block-in-Contradiction.ensures.allowed p n e (c.in_ok-k.ensures.stated p n e (c.loop-k.invariant.stated p n e s))

pub returns-in_err-branch_on-in-Some-clause-allowed : goal.returns-in_err-branch_on-in-Some-clause-allowed
returns-in_err-branch_on-in-Some-clause-allowed g c p n e s = c.in_err-branch_on-in-Some.ensures.allowed p n e (c.in_ok-k.ensures.stated p n e (c.loop-k.invariant.stated p n e s))

pub returns-in_err-k-clause-number : goal.returns-in_err-k-clause-number
returns-in_err-k-clause-number g c wide w setting e s state =
    let st = c.loop-k.invariant.stated setting.problem setting.goal e.signature s in
    let inv = c.loop-k.invariant.legal setting 0 e s state in
    c.in_err-k.ensures.number wide (passed_on c.from_residual.result c.in_err-k.field-0.0 refl c.from_residual.ensures.1 w) setting (named_still setting c.args.store.now c.args.journal.now.lines c.loop-k.journal.lines inv.0.added inv.0.is e) st inv.1

pub returns-in_err-learn-in-Clause-clause-number : goal.returns-in_err-learn-in-Clause-clause-number
returns-in_err-learn-in-Clause-clause-number g c wide w setting e s state = absurd (c.in_err-learn-in-Clause.ensures.never_wide wide (passed_on c.from_residual-in_err-learn-in-Clause.result c.in_err-learn-in-Clause.field-0.0 refl c.from_residual-in_err-learn-in-Clause.ensures.1 w))

pub returns-in_err-learn_block-in-Contradiction-clause-number : goal.returns-in_err-learn_block-in-Contradiction-clause-number
returns-in_err-learn_block-in-Contradiction-clause-number g c wide w setting e s state = absurd (c.in_err-learn_block-in-Contradiction.ensures.never_wide wide (passed_on c.from_residual-in_err-learn_block-in-Contradiction.result c.in_err-learn_block-in-Contradiction.field-0.0 refl c.from_residual-in_err-learn_block-in-Contradiction.ensures.1 w))

pub returns-in_err-branch_on-in-Some-clause-number : goal.returns-in_err-branch_on-in-Some-clause-number
returns-in_err-branch_on-in-Some-clause-number g c wide w setting e s state = absurd (c.in_err-branch_on-in-Some.ensures.never_wide wide (passed_on c.from_residual-in_err-branch_on-in-Some.result c.in_err-branch_on-in-Some.field-0.0 refl c.from_residual-in_err-branch_on-in-Some.ensures.1 w))

pub loop-k-init : goal.loop-k-init
loop-k-init g c = record {
  alive = c.requires.alive;
  stated = λ p n e s. s;
  legal = λ setting bound e s w. (notes_none setting bound c.args.journal.now.lines, w);
  enlarges = enlarges_same c.args.store.now c.args.self.now.propagation.clauses c.args.lines.now.items;
  fresh = λ f. f;
  budget = λ f n h. (h, refl);
  still = inl (refl, refl);
  journal = keeps_same c.args.journal.now;
}

pub returns-in-None-clause-kept : goal.returns-in-None-clause-kept
returns-in-None-clause-kept g c = (enlarges_more c.args.store.now c.args.self.now.propagation.clauses c.loop-k.self.propagation.clauses c.propagate.new.self.propagation.clauses c.args.lines.now.items c.loop-k.lines.items c.propagate.new.lines.items
    c.loop-k.invariant.enlarges c.in_ok-k.ensures.enlarges).kept

pub returns-in-None-clause-formulas : goal.returns-in-None-clause-formulas
returns-in-None-clause-formulas g c = (enlarges_more c.args.store.now c.args.self.now.propagation.clauses c.loop-k.self.propagation.clauses c.propagate.new.self.propagation.clauses c.args.lines.now.items c.loop-k.lines.items c.propagate.new.lines.items
    c.loop-k.invariant.enlarges c.in_ok-k.ensures.enlarges).formulas

pub returns-in-None-clause-lines : goal.returns-in-None-clause-lines
returns-in-None-clause-lines g c = (enlarges_more c.args.store.now c.args.self.now.propagation.clauses c.loop-k.self.propagation.clauses c.propagate.new.self.propagation.clauses c.args.lines.now.items c.loop-k.lines.items c.propagate.new.lines.items
    c.loop-k.invariant.enlarges c.in_ok-k.ensures.enlarges).written

pub returns-then-branch-clause-kept : goal.returns-then-branch-clause-kept
returns-then-branch-clause-kept g c = (enlarges_more c.args.store.now c.args.self.now.propagation.clauses c.propagate.new.self.propagation.clauses c.learn.new.self.propagation.clauses c.args.lines.now.items c.propagate.new.lines.items c.learn.new.lines.items
    (enlarges_more c.args.store.now c.args.self.now.propagation.clauses c.loop-k.self.propagation.clauses c.propagate.new.self.propagation.clauses c.args.lines.now.items c.loop-k.lines.items c.propagate.new.lines.items
    c.loop-k.invariant.enlarges c.in_ok-k.ensures.enlarges) c.in_ok-learn-in-Clause.ensures.enlarges).kept

pub returns-then-branch-clause-formulas : goal.returns-then-branch-clause-formulas
returns-then-branch-clause-formulas g c = (enlarges_more c.args.store.now c.args.self.now.propagation.clauses c.propagate.new.self.propagation.clauses c.learn.new.self.propagation.clauses c.args.lines.now.items c.propagate.new.lines.items c.learn.new.lines.items
    (enlarges_more c.args.store.now c.args.self.now.propagation.clauses c.loop-k.self.propagation.clauses c.propagate.new.self.propagation.clauses c.args.lines.now.items c.loop-k.lines.items c.propagate.new.lines.items
    c.loop-k.invariant.enlarges c.in_ok-k.ensures.enlarges) c.in_ok-learn-in-Clause.ensures.enlarges).formulas

pub returns-then-branch-clause-lines : goal.returns-then-branch-clause-lines
returns-then-branch-clause-lines g c = (enlarges_more c.args.store.now c.args.self.now.propagation.clauses c.propagate.new.self.propagation.clauses c.learn.new.self.propagation.clauses c.args.lines.now.items c.propagate.new.lines.items c.learn.new.lines.items
    (enlarges_more c.args.store.now c.args.self.now.propagation.clauses c.loop-k.self.propagation.clauses c.propagate.new.self.propagation.clauses c.args.lines.now.items c.loop-k.lines.items c.propagate.new.lines.items
    c.loop-k.invariant.enlarges c.in_ok-k.ensures.enlarges) c.in_ok-learn-in-Clause.ensures.enlarges).written

pub returns-then-branch-2-clause-kept : goal.returns-then-branch-2-clause-kept
returns-then-branch-2-clause-kept g c = (enlarges_more c.args.store.now c.args.self.now.propagation.clauses c.propagate.new.self.propagation.clauses c.learn_block.new.self.propagation.clauses c.args.lines.now.items c.propagate.new.lines.items c.learn_block.new.lines.items
    (enlarges_more c.args.store.now c.args.self.now.propagation.clauses c.loop-k.self.propagation.clauses c.propagate.new.self.propagation.clauses c.args.lines.now.items c.loop-k.lines.items c.propagate.new.lines.items
    c.loop-k.invariant.enlarges c.in_ok-k.ensures.enlarges) (c.in_ok-learn_block-in-Contradiction.ensures.enlarges
    ((c.propagate.ensures.block c.in-Contradiction.block (c.in_ok-k.was ∙ ap Ok c.in-Contradiction.is)).3))).kept

pub returns-then-branch-2-clause-formulas : goal.returns-then-branch-2-clause-formulas
returns-then-branch-2-clause-formulas g c = (enlarges_more c.args.store.now c.args.self.now.propagation.clauses c.propagate.new.self.propagation.clauses c.learn_block.new.self.propagation.clauses c.args.lines.now.items c.propagate.new.lines.items c.learn_block.new.lines.items
    (enlarges_more c.args.store.now c.args.self.now.propagation.clauses c.loop-k.self.propagation.clauses c.propagate.new.self.propagation.clauses c.args.lines.now.items c.loop-k.lines.items c.propagate.new.lines.items
    c.loop-k.invariant.enlarges c.in_ok-k.ensures.enlarges) (c.in_ok-learn_block-in-Contradiction.ensures.enlarges
    ((c.propagate.ensures.block c.in-Contradiction.block (c.in_ok-k.was ∙ ap Ok c.in-Contradiction.is)).3))).formulas

pub returns-then-branch-2-clause-lines : goal.returns-then-branch-2-clause-lines
returns-then-branch-2-clause-lines g c = (enlarges_more c.args.store.now c.args.self.now.propagation.clauses c.propagate.new.self.propagation.clauses c.learn_block.new.self.propagation.clauses c.args.lines.now.items c.propagate.new.lines.items c.learn_block.new.lines.items
    (enlarges_more c.args.store.now c.args.self.now.propagation.clauses c.loop-k.self.propagation.clauses c.propagate.new.self.propagation.clauses c.args.lines.now.items c.loop-k.lines.items c.propagate.new.lines.items
    c.loop-k.invariant.enlarges c.in_ok-k.ensures.enlarges) (c.in_ok-learn_block-in-Contradiction.ensures.enlarges
    ((c.propagate.ensures.block c.in-Contradiction.block (c.in_ok-k.was ∙ ap Ok c.in-Contradiction.is)).3))).written

-- ---- the lines that the theory may note
pub returns-in_err-k-clause-budget : goal.returns-in_err-k-clause-budget
returns-in_err-k-clause-budget g c n f h =
    let b = c.loop-k.invariant.budget f n h in
    omega (arith, c.in_err-k.ensures.budget n b.0, b.1)

pub returns-in-None-clause-budget : goal.returns-in-None-clause-budget
returns-in-None-clause-budget g c n f h =
    let b = c.loop-k.invariant.budget f n h in
    omega (arith, c.in_ok-k.ensures.budget n b.0, b.1)

pub returns-in_err-learn-in-Clause-clause-budget : goal.returns-in_err-learn-in-Clause-clause-budget
returns-in_err-learn-in-Clause-clause-budget g c n f h =
    let b = c.loop-k.invariant.budget f n h in
    let idle = c.in_err-learn-in-Clause.ensures.base (c.in_ok-k.ensures.brings.level ∙ ap last_level (c.loop-k.invariant.fresh f).none) in
    omega (arith, c.in_ok-k.ensures.budget n b.0, b.1, ap (λ (x : Noted). counted_in x.lines) idle.noted)

pub returns-then-branch-clause-budget : goal.returns-then-branch-clause-budget
returns-then-branch-clause-budget g c n f h =
    let b = c.loop-k.invariant.budget f n h in
    let idle = c.in_ok-learn-in-Clause.ensures.base (c.in_ok-k.ensures.brings.level ∙ ap last_level (c.loop-k.invariant.fresh f).none) in
    omega (arith, c.in_ok-k.ensures.budget n b.0, b.1, ap (λ (x : Noted). counted_in x.lines) idle.noted)

pub returns-in_err-learn_block-in-Contradiction-clause-budget : goal.returns-in_err-learn_block-in-Contradiction-clause-budget
returns-in_err-learn_block-in-Contradiction-clause-budget g c n f h =
    let b = c.loop-k.invariant.budget f n h in
    let idle = c.in_err-learn_block-in-Contradiction.ensures.base (c.in_ok-k.ensures.brings.level ∙ ap last_level (c.loop-k.invariant.fresh f).none) in
    omega (arith, c.in_ok-k.ensures.budget n b.0, b.1, ap (λ (x : Noted). counted_in x.lines) idle.noted)

pub returns-then-branch-2-clause-budget : goal.returns-then-branch-2-clause-budget
returns-then-branch-2-clause-budget g c n f h =
    let b = c.loop-k.invariant.budget f n h in
    let idle = c.in_ok-learn_block-in-Contradiction.ensures.base (c.in_ok-k.ensures.brings.level ∙ ap last_level (c.loop-k.invariant.fresh f).none) in
    omega (arith, c.in_ok-k.ensures.budget n b.0, b.1, ap (λ (x : Noted). counted_in x.lines) idle.noted)

pub returns-in_err-branch_on-in-Some-clause-budget : goal.returns-in_err-branch_on-in-Some-clause-budget
returns-in_err-branch_on-in-Some-clause-budget g c n f h =
    absurd (c.in-Some.ensures.1 (c.propagate.ensures.all_true (c.in_ok-k.was ∙ ap Ok c.in-Nothing.is) (c.loop-k.invariant.fresh f) c.in-Some.k c.in-Some.ensures.0))

pub returns-in_err-k-clause-budget_left : goal.returns-in_err-k-clause-budget_left
returns-in_err-k-clause-budget_left g c e n f h =
    let b = c.loop-k.invariant.budget f n h in
    omega (arith, c.in_err-k.ensures.budget_left (passed_on c.from_residual.result c.in_err-k.field-0.0 refl c.from_residual.ensures.1 e) n b.0, b.1)

pub returns-in_err-learn-in-Clause-clause-budget_left : goal.returns-in_err-learn-in-Clause-clause-budget_left
returns-in_err-learn-in-Clause-clause-budget_left g c e n f h =
    let idle = c.in_err-learn-in-Clause.ensures.base (c.in_ok-k.ensures.brings.level ∙ ap last_level (c.loop-k.invariant.fresh f).none) in
    absurd (idle.asked (passed_on c.from_residual-in_err-learn-in-Clause.result c.in_err-learn-in-Clause.field-0.0 refl c.from_residual-in_err-learn-in-Clause.ensures.1 e))

pub returns-in_err-learn_block-in-Contradiction-clause-budget_left : goal.returns-in_err-learn_block-in-Contradiction-clause-budget_left
returns-in_err-learn_block-in-Contradiction-clause-budget_left g c e n f h =
    let idle = c.in_err-learn_block-in-Contradiction.ensures.base (c.in_ok-k.ensures.brings.level ∙ ap last_level (c.loop-k.invariant.fresh f).none) in
    absurd (idle.asked (passed_on c.from_residual-in_err-learn_block-in-Contradiction.result c.in_err-learn_block-in-Contradiction.field-0.0 refl c.from_residual-in_err-learn_block-in-Contradiction.ensures.1 e))

pub returns-in_err-branch_on-in-Some-clause-budget_left : goal.returns-in_err-branch_on-in-Some-clause-budget_left
returns-in_err-branch_on-in-Some-clause-budget_left g c e n f h =
    absurd (c.in-Some.ensures.1 (c.propagate.ensures.all_true (c.in_ok-k.was ∙ ap Ok c.in-Nothing.is) (c.loop-k.invariant.fresh f) c.in-Some.k c.in-Some.ensures.0))

pub returns-in-None-clause-open_clauses : goal.returns-in-None-clause-open_clauses
returns-in-None-clause-open_clauses g c e = record { clauses_true = c.in-None.ensures; rows = c.propagate.ensures.rows (c.in_ok-k.was ∙ ap Ok c.in-Nothing.is) }

pub returns-in_err-k-clause-journal : goal.returns-in_err-k-clause-journal
returns-in_err-k-clause-journal g c = keeps_more c.args.journal.now c.loop-k.journal c.propagate.new.journal c.loop-k.invariant.journal c.propagate.ensures.journal

pub returns-in-None-clause-journal : goal.returns-in-None-clause-journal
returns-in-None-clause-journal g c = keeps_more c.args.journal.now c.loop-k.journal c.propagate.new.journal c.loop-k.invariant.journal c.propagate.ensures.journal

pub returns-in_err-learn-in-Clause-clause-journal : goal.returns-in_err-learn-in-Clause-clause-journal
returns-in_err-learn-in-Clause-clause-journal g c = keeps_more c.args.journal.now c.propagate.new.journal c.learn.new.journal (keeps_more c.args.journal.now c.loop-k.journal c.propagate.new.journal c.loop-k.invariant.journal c.propagate.ensures.journal) c.learn.ensures.journal

pub returns-then-branch-clause-journal : goal.returns-then-branch-clause-journal
returns-then-branch-clause-journal g c = keeps_more c.args.journal.now c.propagate.new.journal c.learn.new.journal (keeps_more c.args.journal.now c.loop-k.journal c.propagate.new.journal c.loop-k.invariant.journal c.propagate.ensures.journal) c.learn.ensures.journal

pub returns-in_err-learn_block-in-Contradiction-clause-journal : goal.returns-in_err-learn_block-in-Contradiction-clause-journal
returns-in_err-learn_block-in-Contradiction-clause-journal g c = keeps_more c.args.journal.now c.propagate.new.journal c.learn_block.new.journal (keeps_more c.args.journal.now c.loop-k.journal c.propagate.new.journal c.loop-k.invariant.journal c.propagate.ensures.journal) c.learn_block.ensures.journal

pub returns-then-branch-2-clause-journal : goal.returns-then-branch-2-clause-journal
returns-then-branch-2-clause-journal g c = keeps_more c.args.journal.now c.propagate.new.journal c.learn_block.new.journal (keeps_more c.args.journal.now c.loop-k.journal c.propagate.new.journal c.loop-k.invariant.journal c.propagate.ensures.journal) c.learn_block.ensures.journal

pub returns-in_err-branch_on-in-Some-clause-journal : goal.returns-in_err-branch_on-in-Some-clause-journal
returns-in_err-branch_on-in-Some-clause-journal g c = keeps_more c.args.journal.now c.propagate.new.journal c.branch_on.new.journal (keeps_more c.args.journal.now c.loop-k.journal c.propagate.new.journal c.loop-k.invariant.journal c.propagate.ensures.journal) c.branch_on.ensures.journal

-- ---- where no counted line was noted
pub returns-in-None-clause-still : goal.returns-in-None-clause-still
returns-in-None-clause-still g c e same =
    let s = c.args.self.now.propagation in
    let m = c.loop-k.self.propagation in
    let n = c.propagate.new.self.propagation in
    still_brings s.trail m.trail n.trail s.clauses m.clauses n.clauses c.args.journal.now c.loop-k.journal c.propagate.new.journal c.loop-k.invariant.still c.propagate.ensures.journal same c.in_ok-k.ensures.brings
