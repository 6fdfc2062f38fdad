use Rattle.std.proofs.Common.{ℕ, ◌<◌, ◌≡◌, length, take, refl, subst, arith}
use Rattle.ae_base.proofs.ListFacts.{value_at}
use Rattle.ae_between_rounds.proofs.Growing.{more_names}
use Rattle.ae_between_rounds.specs.Held.{HaveChoices}
use Rattle.ae_entered_names.proofs.Indexed.{next_entered}
use Rattle.ae_entered_names.proofs.Stepping.{one_looked}
use Rattle.ae_known.specs.Index.{HasHeads}
use Rattle.ae_entered_names.proofs.entering.enter_next.Goals as goal

pub enter-requires : goal.enter-requires
enter-requires v c =
    let o = c.args.search.now in
    let lt = c.requires.within in
    let more = more_names o.store c.add_choice.new.search.store c.in_ok-add_choice.ensures.goes_on.extends in
    omega (arith, lt, more)

pub returns-in_err-enter-clause-beside : goal.returns-in_err-enter-clause-beside
returns-in_err-enter-clause-beside v c =
    let b = c.add_choice.ensures.beside in
    record { trail = b.trail; theory = b.theory; journal = b.journal; blocks = b.blocks; ages = b.ages; owners = b.owners; instances = b.instances }

pub returns : goal.returns
returns v c =
    let p = c.args.task.problem.now in
    let o = c.args.search.now in
    let m = c.add_choice.new.search in
    let a = c.in_ok-add_choice.ensures.goes_on in
    let h = a.holds in
    let clauses = m.solver.propagation.clauses in
    let looked : m.looked ≡ o.looked = c.add_choice.ensures.looked in
    let lt : o.looked < length m.store.nodes = (let old = c.requires.within in let more = more_names o.store m.store a.extends in omega (arith, old, more)) in
    let x = value_at m.store.nodes o.looked lt in
    let b = c.add_choice.ensures.beside in
    record {
      goes_on = record {
        searching = a.searching;
        holds = record {
          store = h.store;
          firsts = h.firsts;
          constants = h.constants;
          instances = h.instances;
          choices = one_looked p.signature m.store o.looked clauses lt c.in_ok-add_choice.ensures.chosen (subst (λ (j : ℕ). HaveChoices p.signature m.store j clauses) looked h.choices);
          heads = next_entered m.store.nodes o.looked x.0 m.known c.enter.new.self x.1 (subst (λ (j : ℕ). HasHeads (take j m.store.nodes) m.known) looked h.heads)
              (c.in_ok-enter.ensures.heads x.0 x.1) (c.in_ok-enter.ensures.arguments x.0 x.1) c.enter.ensures.offered;
          fine = h.fine;
          orderless = h.orderless;
        };
        extends = a.extends;
        lines = a.lines;
        kept = a.kept;
        quantifiers = a.quantifiers;
      };
      plain = c.in_ok-add_choice.ensures.plain;
      looked = refl;
      beside = record { trail = b.trail; theory = b.theory; journal = b.journal; blocks = b.blocks; ages = b.ages; owners = b.owners; instances = b.instances };
    }
