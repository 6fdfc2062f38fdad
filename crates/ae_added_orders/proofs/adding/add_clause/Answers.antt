use Rattle.std.proofs.Common.{List, [], ◌∷◌, ◌++◌, ◌≡◌, length, refl, sym, ap, ◌∙◌, subst, arith, length-append}
use Rattle.ae_added_orders.proofs.Coming.{choices, clause_sorted, comes, constants, extends, fine, grows, heads, instances, numbers, orderless}
use Rattle.ae_added_orders.specs.Inner.Added.{latest}
use Rattle.ae_between_rounds.proofs.Growing.{firsts_grow}
use Rattle.ae_brought_clauses.specs.Brought.{AreBrought}
use Rattle.ae_core.specs.declared.proofs.ClauseLine.TheVariants.{Tri}
use Rattle.ae_rules.specs.Clauses.{Clause}
use Rattle.ae_rules.specs.Derivations.{clause_ok}
use Rattle.ae_sat.proofs.Learnt.{new_one, still_one}
use Rattle.ae_sat.specs.Standing.{IsOneOf}
use Rattle.ae_added_orders.proofs.adding.add_clause.Goals as goal

pub name_terms-requires-clause-same : goal.name_terms-requires-clause-same
name_terms-requires-clause-same v c = c.requires.between.searching.signature

pub name_terms-requires-clause-sorted : goal.name_terms-requires-clause-sorted
name_terms-requires-clause-sorted v c =
    let k = c.args.task in
    let b = c.requires.between in
    ap (clause_ok k.problem.now.signature) c.as_slice.ensures
    ∙ clause_sorted k.problem.now k.goal k.generations c.args.search.now c.args.left.now c.args.right.now c.args.clause b.holds b.searching.signature c.requires.may c.requires.clause

pub returns : goal.returns
returns v c =
    let p = c.args.task.problem.now in
    let g = c.args.task.goal in
    let n = c.args.task.generations in
    let o = c.args.search.now in
    let u = c.args.left.now in
    let z = c.args.right.now in
    let d = c.args.clause in
    let sig = c.requires.between.searching.signature in
    let hold = c.requires.between.holds in
    let may = c.requires.may in
    let e = c.requires.clause in
    let t = c.name_terms.new.store in
    let w = c.in_ok-name_terms.ensures in
    let es = w.0 in
    let b : AreBrought [] latest o.store [] t es d = subst (AreBrought [] latest o.store [] t es) c.as_slice.ensures w.1 in
    let more = c.in_ok-add_order_line.ensures in
    let lines : c.add_order_line.new.lines.items ≡ o.lines.items ++ Tri u z ∷ [] = more.lines in
    let clauses : c.add_order_line.new.solver.propagation.clauses ≡ o.solver.propagation.clauses ++ d ∷ [] = more.clauses in
    let kept : (k : Clause) → IsOneOf o.solver.propagation.clauses k → IsOneOf c.add_order_line.new.solver.propagation.clauses k =
    λ k i. subst (λ (ks : List Clause). IsOneOf ks k) (sym clauses) (still_one o.solver.propagation.clauses d k i) in
    record {
      adds = record {
        searching = λ level h.
            more.searching p g n level t o.blocks.opened o.journal.lines
            (comes p g n o u z d hold sig may e t es b)
            (c.names_grow.ensures p g n level o.store t o.blocks.opened o.blocks.opened o.lines.items o.journal.lines (grows p g n o u z d hold sig may e t es b) h);
        holds = record {
          store = c.len-names.ensures.store;
          firsts = firsts_grow p g o.solver.propagation.clauses c.add_order_line.new.solver.propagation.clauses kept hold.firsts;
          constants = constants p g n o u z d hold sig may e t es b c.add_order_line.new.lines.items c.add_order_line.new.solver.propagation.clauses lines clauses;
          instances = instances p g n o u z d hold sig may e t es b (omega arith);
          choices = choices p g n o u z d hold sig may e t es b c.add_order_line.new.solver.propagation.clauses clauses;
          heads = heads p g n o u z d hold sig may e t es b c.len-names.ensures.store;
          fine = λ low. fine p g n o u z d hold sig may e t es b low c.add_order_line.new.lines.items c.add_order_line.new.solver.propagation.clauses lines clauses;
          orderless = orderless p g n o u z d hold sig may e c.add_order_line.new.solver.propagation.clauses;
        };
        extends = extends p g n o u z d hold sig may e t es b;
        lines = (let l = ap length lines in let m = length-append o.lines.items (Tri u z ∷ []) in omega (arith, l, m));
      };
      added = subst (λ (ks : List Clause). IsOneOf ks d) (sym clauses) (new_one o.solver.propagation.clauses d);
      clauses = clauses;
      plain = numbers p g n o u z d hold sig may e t es b c.len-names.ensures.store c.requires.between.looked;
      trail = c.add_order_line.ensures.trail;
      theory = c.add_order_line.ensures.theory;
      journal = refl;
      blocks = refl;
    }
