use Rattle.std.specs.Prelude.{ℕ, ◌<◌, ◌≤◌, ◌≡◌, ◌++◌, ◌∷◌, [], length}
use Rattle.std.proofs.Common.{rules, refl, sym, ap, ◌∙◌, subst, arith}
use Rattle.ae_store.specs.Shapes.{shapes}
use Rattle.ae_store.specs.Terms.{terms}
use Rattle.ae_store.proofs.EnterLaws.{front_same, front_then, front_push}
use Rattle.ae_strips.proofs.FieldTerms.{length_is}
use Rattle.ae_value_table.specs.Table.{Contents}
use Rattle.ae_patterns.specs.Patterns.{IsEntryOf, AreEntriesOf}
use Rattle.ae_take_in.proofs.OneEntry.{entries_push}
use Rattle.ae_take_in.proofs.entries.enter_all.Goals as goal

pub names-init : goal.names-init
names-init c = record { entries = c.requires.entries; front = front_same c.args.values.now.entries; others = refl; lasts = λ shared then h. h }

pub names-preserved : goal.names-preserved
names-preserved c =
    let s = c.args.store.now in
    let ts = terms (shapes s.nodes) in
    let i = c.names.invariant in
    let v = c.names.values in
    let new : Contents = c.enter.new.self in
    let e = c.in_ok-entry.entry in
    let ok = c.in_ok-enter.ensures.ok in
    let left : length v.entries < length s.nodes = search rules in
    let long : length ts ≡ length s.nodes = length_is s.signature s.nodes c.len-end.ensures.store in
    let is : IsEntryOf s.signature ts (length v.entries) e = subst (λ (k : ℕ). IsEntryOf s.signature ts k e) c.known-in-names.ensures c.in_ok-entry.ensures in
    let grown : new.entries ≡ v.entries ++ e ∷ [] = ap (λ (x : Contents). x.entries) ok in
    record {
      entries = subst (AreEntriesOf s.signature ts) (sym grown) (entries_push s.signature ts v.entries e i.entries (omega (arith, left, long)) is);
      front = front_then c.args.values.now.entries v.entries new.entries i.front (front_push v.entries new.entries e grown);
      others = ok ∙ (λ k. record v { entries = sym grown k }) ∙ ap (λ (x : Contents). record x { entries = new.entries }) i.others;
      lasts = λ shared then h. c.enter.ensures.lasts shared then (i.lasts shared then h);
    }

pub returns-clause-all : goal.returns-clause-all
returns-clause-all c =
    let s = c.args.store.now in
    let all : length s.nodes ≤ length c.names.values.entries = search rules in
    omega (arith, all, c.names.invariant.entries.within, length_is s.signature s.nodes c.len-end.ensures.store)
