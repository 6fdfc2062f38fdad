use Rattle.std.proofs.Common.{◌≡◌, ◌≤◌, ◌⊎◌, ℕ, List, subst}
use Rattle.ae_ages.specs.Ages.{HasAge}
use Rattle.ae_ages.specs.declared.entries.Aged.{Aged}
use Rattle.ae_brought_blocks.proofs.adding.add_block.Goals as goal

pub returns-clause-comes : goal.returns-clause-comes
returns-clause-comes g c = record {
  line = c.in_ok-fresh.fresh.line;
  clause = c.in_ok-fresh.fresh.clause;
  generation = c.generation_of-generation.result;
  opens = c.in_ok-fresh.ensures.opens;
  least = subst (λ (es : List Aged). (n : ℕ) → HasAge es n c.args.formula.now → c.generation_of-generation.result ≤ n) c.as_slice.ensures c.generation_of-generation.ensures.least;
  known = subst (λ (es : List Aged). HasAge es c.generation_of-generation.result c.args.formula.now ⊎ (c.generation_of-generation.result ≡ c.args.bound)) c.as_slice.ensures c.generation_of-generation.ensures.known;
  brought = c.in_ok-fresh.ensures.brought;
  store = c.in_ok-fresh.ensures.store;
  lines = c.in_ok-add_fresh.ensures.lines;
  clauses = c.in_ok-add_fresh.ensures.clauses;
}

pub returns-clause-searching : goal.returns-clause-searching
returns-clause-searching g c p n b level js on h =
    let s = c.bring_block.new.store in
    let new = c.bring_block.new.blocks in
    let r = c.in_ok-fresh.fresh in
    c.in_ok-add_fresh.ensures.searching p n b level c.args.store.now s c.args.blocks.now.opened new.opened js
    (on new.next s new.opened r.line r.clause c.in_ok-fresh.ensures.opens c.in_ok-fresh.ensures.brought.named) h
