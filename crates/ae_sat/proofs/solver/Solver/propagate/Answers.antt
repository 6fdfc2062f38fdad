use Rattle.std.proofs.Common.{rules, ◌≡◌, ◌∙◌, ℕ, ◌<◌, List, length, map, take, sym, ap, subst, true, refl, arith, Ok}
use Rattle.std.proofs.Math.Seq.{take-length}
use Rattle.std.specs.List.{AllByRecursion}
use Rattle.ae_rules.specs.Built.{IsBuiltEquation}
use Rattle.ae_theory.specs.Names.{terms_in}
use Rattle.ae_rules.specs.Clauses.{Clause, opposite}
use Rattle.ae_rules.specs.Derivations.{IsContradictory, clause_ok}
use Rattle.ae_core.specs.declared.proofs.Block.{Block}
use Rattle.ae_explain.specs.declared.trail.Assigned.{Assigned}
use Rattle.ae_explain.specs.Trail.{AreFalse, clause}
use Rattle.ae_sat.specs.Marked.{atoms}
use Rattle.ae_propagation.specs.Settled.{HasTrue, IsQuiet, last_level}
use Rattle.ae_sat.specs.Standing.{HasRows}
use Rattle.ae_sat.proofs.Conjunctive.{all_hold}
use Rattle.ae_sat.proofs.Enlarging.{enlarges_to, brings_to}
use Rattle.ae_sat.proofs.Failing.{passed_on}
use Rattle.ae_sat.proofs.Searching.{keeps_same, notes_none}
use Rattle.ae_sat.proofs.Blocks.{state_same, block_false}
use Rattle.ae_sat.proofs.solver.Solver.propagate.Goals as goal

pub returns-in-Falsified-clause-alive : goal.returns-in-Falsified-clause-alive
returns-in-Falsified-clause-alive g c = c.in_ok-k.ensures.continues.alive c.args.store.now c.args.journal.now.lines c.requires.alive

pub returns-in-Falsified-clause-legal : goal.returns-in-Falsified-clause-legal
returns-in-Falsified-clause-legal g c setting bound sig st state =
    let js = c.args.journal.now.lines in
    (notes_none setting bound js, c.in_ok-k.ensures.continues.state setting js st state)

pub tell_all-requires : goal.tell_all-requires
tell_all-requires g c = record { alive = (c.args.journal.now.lines, c.in_ok-k.ensures.continues.alive c.args.store.now c.args.journal.now.lines c.requires.alive) }

pub saturate-requires-clause-alive : goal.saturate-requires-clause-alive
saturate-requires-clause-alive g c = c.in_ok-tell_all.ensures.alive c.args.journal.now.lines (c.in_ok-k.ensures.continues.alive c.args.store.now c.args.journal.now.lines c.requires.alive)

pub returns-in_err-saturate-clause-legal : goal.returns-in_err-saturate-clause-legal
returns-in_err-saturate-clause-legal g c setting bound sig st state =
    let s = c.args.self.now in
    let b = c.settle_rows.new.self in
    let js = c.args.journal.now.lines in
    let one = c.in_ok-k.ensures.continues.state setting js st state in
    let t = c.tell_all.new.self in
    let e = c.in_ok-tell_all.ensures in
    let two = state_same setting b.propagation.trail t.propagation.trail b.propagation.clauses t.propagation.clauses b.expanded t.expanded c.settle_rows.new.lines.items js e.trail e.clauses e.expanded one in
    let pr = c.saturate.ensures.legal setting bound c.settle_rows.new.lines.items sig two in
    (pr.0, search rules)

pub returns-in_err-block-in-Conflict-clause-legal : goal.returns-in_err-block-in-Conflict-clause-legal
returns-in_err-block-in-Conflict-clause-legal g c setting bound sig st state =
    let s = c.args.self.now in
    let b = c.settle_rows.new.self in
    let js = c.args.journal.now.lines in
    let one = c.in_ok-k.ensures.continues.state setting js st state in
    let t = c.tell_all.new.self in
    let e = c.in_ok-tell_all.ensures in
    let two = state_same setting b.propagation.trail t.propagation.trail b.propagation.clauses t.propagation.clauses b.expanded t.expanded c.settle_rows.new.lines.items js e.trail e.clauses e.expanded one in
    let pr = c.saturate.ensures.legal setting bound c.settle_rows.new.lines.items sig two in
    (pr.0, search rules)

pub returns-in-Complete-clause-legal : goal.returns-in-Complete-clause-legal
returns-in-Complete-clause-legal g c setting bound sig st state =
    let s = c.args.self.now in
    let b = c.settle_rows.new.self in
    let js = c.args.journal.now.lines in
    let one = c.in_ok-k.ensures.continues.state setting js st state in
    let t = c.tell_all.new.self in
    let e = c.in_ok-tell_all.ensures in
    let two = state_same setting b.propagation.trail t.propagation.trail b.propagation.clauses t.propagation.clauses b.expanded t.expanded c.settle_rows.new.lines.items js e.trail e.clauses e.expanded one in
    let pr = c.saturate.ensures.legal setting bound c.settle_rows.new.lines.items sig two in
    (pr.0, pr.1)

pub returns-in_ok-block-in-Conflict-clause-legal : goal.returns-in_ok-block-in-Conflict-clause-legal
returns-in_ok-block-in-Conflict-clause-legal g c setting bound sig st state =
    let s = c.args.self.now in
    let b = c.settle_rows.new.self in
    let js = c.args.journal.now.lines in
    let one = c.in_ok-k.ensures.continues.state setting js st state in
    let t = c.tell_all.new.self in
    let e = c.in_ok-tell_all.ensures in
    let two = state_same setting b.propagation.trail t.propagation.trail b.propagation.clauses t.propagation.clauses b.expanded t.expanded c.settle_rows.new.lines.items js e.trail e.clauses e.expanded one in
    let pr = c.saturate.ensures.legal setting bound c.settle_rows.new.lines.items sig two in
    (pr.0, pr.1)

pub returns-in_err-saturate-clause-journal : goal.returns-in_err-saturate-clause-journal
returns-in_err-saturate-clause-journal g c = c.saturate.ensures.journal

pub returns-in_err-block-in-Conflict-clause-journal : goal.returns-in_err-block-in-Conflict-clause-journal
returns-in_err-block-in-Conflict-clause-journal g c = c.saturate.ensures.journal

pub returns-in-Complete-clause-journal : goal.returns-in-Complete-clause-journal
returns-in-Complete-clause-journal g c = c.saturate.ensures.journal

pub returns-in_ok-block-in-Conflict-clause-journal : goal.returns-in_ok-block-in-Conflict-clause-journal
returns-in_ok-block-in-Conflict-clause-journal g c = c.saturate.ensures.journal

pub returns-in_ok-block-in-Conflict-clause-block : goal.returns-in_ok-block-in-Conflict-clause-block
returns-in_ok-block-in-Conflict-clause-block g c b e =
    let a = c.saturate.new.self in
    let x = c.in_ok-block-in-Conflict.field-0 in
    let n = c.in_ok-saturate.ensures in
    let told : a.handed ≡ length a.propagation.trail = n.handed ∙ (c.in_ok-tell_all.ensures.told ∙ ap length (sym n.trail)) in
    let all : g.T.Theory.assumed a.theory ≡ atoms a.propagation.trail = n.alive.running.told_all ∙ ap atoms (ap (λ (k : ℕ). take k a.propagation.trail) told ∙ take-length a.propagation.trail) in
    let q : x.block ≡ b = cc in
    let y = c.in_ok-block-in-Conflict.ensures in
    subst (λ (w : Block). IsContradictory c.args.store.now.signature w × (clause_ok c.args.store.now.signature w.deriv.hyps ≡ true)
    × AreFalse a.propagation.trail (map opposite w.deriv.hyps) × AllByRecursion (IsBuiltEquation c.args.store.now.signature (terms_in c.args.store.now)) w.deriv.lines) q
    (y.contradictory, y.sorted, block_false a.propagation.trail (g.T.Theory.assumed a.theory) all x.block.deriv.hyps x.tags y.tags, y.built)

pub returns-in_err-k-clause-allowed : goal.returns-in_err-k-clause-allowed
returns-in_err-k-clause-allowed g c p n sig st = c.in_err-k.ensures.allowed p n st

pub returns-in-Falsified-clause-allowed : goal.returns-in-Falsified-clause-allowed
returns-in-Falsified-clause-allowed g c p n sig st = (c.in_ok-k.ensures.continues.stated p n st).allowed

pub returns-in_err-tell_all-clause-allowed : goal.returns-in_err-tell_all-clause-allowed
returns-in_err-tell_all-clause-allowed g c p n sig st = (c.in_ok-k.ensures.continues.stated p n st).allowed

pub returns-in_err-saturate-clause-allowed : goal.returns-in_err-saturate-clause-allowed
returns-in_err-saturate-clause-allowed g c p n sig st = (c.in_ok-k.ensures.continues.stated p n st).allowed

pub returns-in-Complete-clause-allowed : goal.returns-in-Complete-clause-allowed
returns-in-Complete-clause-allowed g c p n sig st = (c.in_ok-k.ensures.continues.stated p n st).allowed

pub returns-in_err-block-in-Conflict-clause-allowed : goal.returns-in_err-block-in-Conflict-clause-allowed
returns-in_err-block-in-Conflict-clause-allowed g c p n sig st = (c.in_ok-k.ensures.continues.stated p n st).allowed

pub returns-in_ok-block-in-Conflict-clause-allowed : goal.returns-in_ok-block-in-Conflict-clause-allowed
returns-in_ok-block-in-Conflict-clause-allowed g c p n sig st = (c.in_ok-k.ensures.continues.stated p n st).allowed

pub returns-in_err-saturate-clause-number : goal.returns-in_err-saturate-clause-number
returns-in_err-saturate-clause-number g c wide w setting sig st state =
    let b = c.settle_rows.new.self in
    let js = c.args.journal.now.lines in
    let one = c.in_ok-k.ensures.continues.state setting js st state in
    let t = c.tell_all.new.self in
    let e = c.in_ok-tell_all.ensures in
    let two = state_same setting b.propagation.trail t.propagation.trail b.propagation.clauses t.propagation.clauses b.expanded t.expanded c.settle_rows.new.lines.items js e.trail e.clauses e.expanded one in
    c.saturate.ensures.number wide (passed_on c.from_residual-in_err-saturate.result c.in_err-saturate.field-0.0 c.in_err-saturate.was c.from_residual-in_err-saturate.ensures.1 w) setting c.settle_rows.new.lines.items sig two

pub returns-in-Falsified-clause-enlarges : goal.returns-in-Falsified-clause-enlarges
returns-in-Falsified-clause-enlarges g c = c.in_ok-k.ensures.continues.enlarges c.args.store.now

pub returns-in-Complete-clause-enlarges : goal.returns-in-Complete-clause-enlarges
returns-in-Complete-clause-enlarges g c =
    let b = c.settle_rows.new.self in
    let ks = c.settle_rows.new.lines.items in
    enlarges_to c.args.store.now c.args.self.now.propagation.clauses b.propagation.clauses c.saturate.new.self.propagation.clauses c.args.lines.now.items ks ks
    (c.in_ok-k.ensures.continues.enlarges c.args.store.now) (c.in_ok-saturate.ensures.clauses ∙ c.in_ok-tell_all.ensures.clauses) refl

pub returns-in_ok-block-in-Conflict-clause-enlarges : goal.returns-in_ok-block-in-Conflict-clause-enlarges
returns-in_ok-block-in-Conflict-clause-enlarges g c =
    let b = c.settle_rows.new.self in
    let ks = c.settle_rows.new.lines.items in
    enlarges_to c.args.store.now c.args.self.now.propagation.clauses b.propagation.clauses c.saturate.new.self.propagation.clauses c.args.lines.now.items ks ks
    (c.in_ok-k.ensures.continues.enlarges c.args.store.now) (c.in_ok-saturate.ensures.clauses ∙ c.in_ok-tell_all.ensures.clauses) refl

pub returns-in-Complete-clause-all_true : goal.returns-in-Complete-clause-all_true
returns-in-Complete-clause-all_true g c e fresh =
    let s = c.args.self.now in
    let b = c.settle_rows.new.self in
    let a = c.saturate.new.self in
    let k = c.in_ok-k.ensures.continues in
    let et : a.propagation.trail ≡ b.propagation.trail = c.in_ok-saturate.ensures.trail ∙ c.in_ok-tell_all.ensures.trail in
    let eu : a.propagation.clauses ≡ b.propagation.clauses = c.in_ok-saturate.ensures.clauses ∙ c.in_ok-tell_all.ensures.clauses in
    let lawful = (k.alive c.args.store.now c.args.journal.now.lines c.requires.alive).running.lawful in
    let quiet : IsQuiet b.propagation.trail b.propagation.clauses = search rules in
    let all = all_hold b.propagation.trail s.propagation.clauses b.propagation.clauses lawful quiet (k.brings.level ∙ ap last_level fresh.none) (k.enlarges c.args.store.now).kept k.brings.from fresh.conjunctive in
    subst (λ (t : List Assigned). (j : ℕ) → j < length a.propagation.clauses → HasTrue t (clause a.propagation.clauses j)) (sym et)
    (subst (λ (u : List Clause). (j : ℕ) → j < length u → HasTrue b.propagation.trail (clause u j)) (sym eu) all)

pub returns-in_err-k-clause-budget : goal.returns-in_err-k-clause-budget
returns-in_err-k-clause-budget g c n h = omega arith

pub returns-in-Falsified-clause-budget : goal.returns-in-Falsified-clause-budget
returns-in-Falsified-clause-budget g c n h = omega arith

pub returns-in_err-tell_all-clause-budget : goal.returns-in_err-tell_all-clause-budget
returns-in_err-tell_all-clause-budget g c n h = omega arith

pub returns-in_err-saturate-clause-budget : goal.returns-in_err-saturate-clause-budget
returns-in_err-saturate-clause-budget g c n h = c.saturate.ensures.budget n (c.in_ok-tell_all.ensures.budget n (subst (λ (x : _). g.T.Theory.may_note x c.args.store.now n) (sym c.in_ok-k.ensures.continues.same_theory) h))

pub returns-in-Complete-clause-budget : goal.returns-in-Complete-clause-budget
returns-in-Complete-clause-budget g c n h = c.saturate.ensures.budget n (c.in_ok-tell_all.ensures.budget n (subst (λ (x : _). g.T.Theory.may_note x c.args.store.now n) (sym c.in_ok-k.ensures.continues.same_theory) h))

pub returns-in_err-block-in-Conflict-clause-budget : goal.returns-in_err-block-in-Conflict-clause-budget
returns-in_err-block-in-Conflict-clause-budget g c n h = c.saturate.ensures.budget n (c.in_ok-tell_all.ensures.budget n (subst (λ (x : _). g.T.Theory.may_note x c.args.store.now n) (sym c.in_ok-k.ensures.continues.same_theory) h))

pub returns-in_ok-block-in-Conflict-clause-budget : goal.returns-in_ok-block-in-Conflict-clause-budget
returns-in_ok-block-in-Conflict-clause-budget g c n h = c.saturate.ensures.budget n (c.in_ok-tell_all.ensures.budget n (subst (λ (x : _). g.T.Theory.may_note x c.args.store.now n) (sym c.in_ok-k.ensures.continues.same_theory) h))

pub returns-in_err-saturate-clause-budget_left : goal.returns-in_err-saturate-clause-budget_left
returns-in_err-saturate-clause-budget_left g c e n h =
    c.saturate.ensures.budget_left (passed_on c.from_residual-in_err-saturate.result c.in_err-saturate.field-0.0 c.in_err-saturate.was c.from_residual-in_err-saturate.ensures.1 e) n
    (c.in_ok-tell_all.ensures.budget n (subst (λ (x : _). g.T.Theory.may_note x c.args.store.now n) (sym c.in_ok-k.ensures.continues.same_theory) h))

pub returns-in_err-k-clause-journal : goal.returns-in_err-k-clause-journal
returns-in_err-k-clause-journal g c = keeps_same c.args.journal.now

pub returns-in-Falsified-clause-journal : goal.returns-in-Falsified-clause-journal
returns-in-Falsified-clause-journal g c = keeps_same c.args.journal.now

pub returns-in_err-tell_all-clause-journal : goal.returns-in_err-tell_all-clause-journal
returns-in_err-tell_all-clause-journal g c = keeps_same c.args.journal.now

pub returns-in-Complete-clause-rows : goal.returns-in-Complete-clause-rows
returns-in-Complete-clause-rows g c e =
    let b = c.settle_rows.new.self in
    let a = c.saturate.new.self in
    let all : b.expanded ≡ length b.propagation.trail = c.settle_rows.ensures.expanded (c.in_ok-k.was ∙ ap Ok c.in-Quiet.is) in
    let is : a.expanded ≡ length a.propagation.trail = c.in_ok-saturate.ensures.expanded ∙ c.in_ok-tell_all.ensures.expanded ∙ all ∙ ap length (sym (c.in_ok-saturate.ensures.trail ∙ c.in_ok-tell_all.ensures.trail)) in
    subst (λ (n : ℕ). HasRows a.propagation.trail n a.propagation.clauses) is c.in_ok-saturate.ensures.alive.has_rows

pub returns-in-Falsified-clause-brings : goal.returns-in-Falsified-clause-brings
returns-in-Falsified-clause-brings g c = c.in_ok-k.ensures.continues.brings

pub returns-in-Complete-clause-brings : goal.returns-in-Complete-clause-brings
returns-in-Complete-clause-brings g c =
    let s = c.args.self.now.propagation in
    let b = c.settle_rows.new.self.propagation in
    let a = c.saturate.new.self.propagation in
    brings_to s.trail b.trail a.trail s.clauses b.clauses a.clauses c.in_ok-k.ensures.continues.brings (c.in_ok-saturate.ensures.trail ∙ c.in_ok-tell_all.ensures.trail) (c.in_ok-saturate.ensures.clauses ∙ c.in_ok-tell_all.ensures.clauses)

pub returns-in_ok-block-in-Conflict-clause-brings : goal.returns-in_ok-block-in-Conflict-clause-brings
returns-in_ok-block-in-Conflict-clause-brings g c =
    let s = c.args.self.now.propagation in
    let b = c.settle_rows.new.self.propagation in
    let a = c.saturate.new.self.propagation in
    brings_to s.trail b.trail a.trail s.clauses b.clauses a.clauses c.in_ok-k.ensures.continues.brings (c.in_ok-saturate.ensures.trail ∙ c.in_ok-tell_all.ensures.trail) (c.in_ok-saturate.ensures.clauses ∙ c.in_ok-tell_all.ensures.clauses)
