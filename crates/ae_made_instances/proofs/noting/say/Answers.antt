use Rattle.std.proofs.Common.{ℕ, suc, ◌+◌, ◌≡◌, List, subst, arith}
use Rattle.std.specs.List.{Contains}
use Rattle.ae_block_constants.specs.declared.opened.Opened.{Opened}
use Rattle.ae_brought_clauses.specs.Brought.{AreBrought}
use Rattle.ae_made_instances.proofs.noting.say.Goals as goal
use Rattle.ae_rules.specs.Clauses.{Clause}

one_above : (n : ℕ) → n + 1 ≡ suc n
one_above n = omega arith

pub returns-clause-brought : goal.returns-clause-brought
returns-clause-brought g c =
    let b = c.bring_clause.new in
    let s = c.args.store.now in
    let es = c.args.ages.now in
    subst (λ (os : List Opened). AreBrought os (suc c.args.number) s es b.store b.ages c.args.line.now.clause) c.as_slice-opened.ensures
    (subst (λ (z : Clause). AreBrought c.as_slice-opened.result.now (suc c.args.number) s es b.store b.ages z) c.as_slice-clause.ensures
    (subst (λ (k : ℕ). AreBrought c.as_slice-opened.result.now k s es b.store b.ages c.as_slice-clause.result.now) (one_above c.args.number) c.in_ok-bring_clause.ensures))

pub bring_clause-requires-clause-there : goal.bring_clause-requires-clause-there
bring_clause-requires-clause-there g c o d t i = c.requires.there o d t (subst (λ (os : List Opened). Contains os o) c.as_slice-opened.ensures i)
