use Rattle.std.specs.Prelude.{◌≡◌, ◌-◌, ◌⊎◌, ℕ, List, length, slice_index_or, Some}
use Rattle.std.specs.List.{Contains}
use Rattle.std.specs.List.Sorted.{IsNonDecreasing}
use Rattle.std.proofs.Common.{sym, ap, ◌∙◌, subst}
use Rattle.ae_pmap.specs.Forest.{present}
use Rattle.ae_pmap.specs.Pairs.{found}
use Rattle.ae_pmap.proofs.PairLemmas.{at_same, at_other}
use Rattle.ae_monoid.specs.Inner.Chains.{IsOnOf}
use Rattle.ae_monoid.proofs.Grown.{grows_then, heads_grow, on_by_back}
use Rattle.ae_monoid.proofs.Entered.{indexed_with}
use Rattle.ae_monoid.proofs.entering.enter_in.Goals as goal

pub add_link-requires-clause-above : goal.add_link-requires-clause-above
add_link-requires-clause-above c = λ other o. c.requires.indexed.largest_given other _ o

pub link_each-requires-clause-heads : goal.link_each-requires-clause-heads
link_each-requires-clause-heads c = heads_grow (λ n. found (present c.args.elements.now) n) c.args.links.now.items c.add_link.new.links.items c.in_ok-add_link.ensures.grows c.requires.indexed.elements_heads

pub link_each-requires-clause-above : goal.link_each-requires-clause-above
link_each-requires-clause-above c = λ name other o.
    c.requires.indexed.elements_given other name
    (on_by_back (λ n. found (present c.args.elements.now) n) c.args.links.now.items c.add_link.new.links.items c.in_ok-add_link.ensures.grows c.requires.indexed.are_linked c.requires.indexed.elements_heads name other o)

pub link_each-requires-clause-names : goal.link_each-requires-clause-names
link_each-requires-clause-names c = subst IsNonDecreasing (sym c.as_slice-names.ensures) c.requires.rule.left_rises

pub returns-clause-rule : goal.returns-clause-rule
returns-clause-rule c = c.in_ok-insert.ensures.at c.args.number ∙ at_same (found (present c.args.kept.now)) c.args.number (Some c.args.rule)

pub returns-clause-others : goal.returns-clause-others
returns-clause-others c = λ n d. c.in_ok-insert.ensures.at n ∙ at_other (found (present c.args.kept.now)) c.args.number (Some c.args.rule) n d

pub returns-clause-grows : goal.returns-clause-grows
returns-clause-grows c = grows_then c.args.links.now.items c.add_link.new.links.items c.link_each.new.links.items c.in_ok-add_link.ensures.grows c.in_ok-link_each.ensures.grows

pub returns-clause-indexed : goal.returns-clause-indexed
returns-clause-indexed c =
    let a = c.in_ok-add_link.ensures in
    let l = c.in_ok-link_each.ensures in
    let names = c.as_slice-names.result.now in
    let left = c.args.rule.entry.left in
    indexed_with (λ n. found (present c.args.kept.now) n) (λ n. found (present c.insert.new.self) n) c.args.number c.args.rule (λ n. found (present c.args.largest.now) n) (λ n. found (present c.add_link.new.heads) n)
    (λ n. found (present c.args.elements.now) n) (λ n. found (present c.link_each.new.heads) n) c.args.links.now.items c.add_link.new.links.items c.link_each.new.links.items c.in_ok-insert.ensures.at c.requires.rule c.requires.indexed
    a.longer a.grows a.linked a.heads (slice_index_or names (length names - 1) 0) (ap (λ (ns : List ℕ). slice_index_or ns (length ns - 1) 0) c.as_slice-names.ensures) a.named a.stays a.only l.grows l.linked l.heads
    (λ name t. l.named name (subst (λ (ns : List ℕ). Contains ns name) (sym c.as_slice-names.ensures) t)) l.stays
    (subst (λ (ns : List ℕ). (name other : ℕ) → IsOnOf c.link_each.new.heads c.link_each.new.links.items name other
    → IsOnOf c.args.elements.now c.add_link.new.links.items name other ⊎ (Contains ns name × (other ≡ c.args.number))) c.as_slice-names.ensures l.only)
