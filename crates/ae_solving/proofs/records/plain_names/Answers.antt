use Rattle.std.specs.Prelude.{ℕ, ◌<◌, length}
use Rattle.std.proofs.Common.{sym, subst, arith}
use Rattle.ae_state_steps.specs.ValueSteps.{StatesEqual}
use Rattle.ae_store.specs.Shapes.{shapes}
use Rattle.ae_store.specs.Terms.{terms}
use Rattle.ae_strips.proofs.FieldTerms.{length_is}
use Rattle.ae_solving.proofs.RecordParts.{entries_long, entry_there, names_apart}
use Rattle.ae_solving.proofs.records.plain_names.Goals as goal

pub entry-requires : goal.entry-requires
entry-requires c =
    let s = c.args.store.now in
    let h = c.requires.held in
    let l : c.args.left < length s.nodes = (c.requires.within).0 in
    entries_long s.signature s.nodes c.args.values.now h.store h.patterns h.values c.args.left (omega (arith, l, length_is s.signature s.nodes h.store))

pub entry-requires-2 : goal.entry-requires-2
entry-requires-2 c =
    let s = c.args.store.now in
    let h = c.requires.held in
    let l : c.args.right < length s.nodes = (c.requires.within).1 in
    entries_long s.signature s.nodes c.args.values.now h.store h.patterns h.values c.args.right (omega (arith, l, length_is s.signature s.nodes h.store))

pub parted-requires-clause-apart : goal.parted-requires-clause-apart
parted-requires-clause-apart c =
    let s = c.args.store.now in
    let v = c.args.values.now in
    let h = c.requires.held in
    let w = c.requires.sorted in
    let long = length_is s.signature s.nodes h.store in
    let k : c.args.left < length (terms (shapes s.nodes)) = let l = (c.requires.within).0 in omega (arith, l, long) in
    let l : c.args.right < length (terms (shapes s.nodes)) = let r = (c.requires.within).1 in omega (arith, r, long) in
    (names_apart s.signature s.nodes v h.store h.patterns h.values c.args.left c.args.right w.0 k l w.1 w.2 c.requires.apart c.entry.result.now c.entry-2.result.now
    (entry_there s.signature s.nodes v h.store h.patterns h.values c.args.left c.entry.result.now k c.entry.ensures)
    (entry_there s.signature s.nodes v h.store h.patterns h.values c.args.right c.entry-2.result.now l c.entry-2.ensures)).0

pub parted-requires-clause-states : goal.parted-requires-clause-states
parted-requires-clause-states c =
    let s = c.args.store.now in
    let v = c.args.values.now in
    let h = c.requires.held in
    let w = c.requires.sorted in
    let long = length_is s.signature s.nodes h.store in
    let k : c.args.left < length (terms (shapes s.nodes)) = let l = (c.requires.within).0 in omega (arith, l, long) in
    let l : c.args.right < length (terms (shapes s.nodes)) = let r = (c.requires.within).1 in omega (arith, r, long) in
    let a = names_apart s.signature s.nodes v h.store h.patterns h.values c.args.left c.args.right w.0 k l w.1 w.2 c.requires.apart c.entry.result.now c.entry-2.result.now
    (entry_there s.signature s.nodes v h.store h.patterns h.values c.args.left c.entry.result.now k c.entry.ensures)
    (entry_there s.signature s.nodes v h.store h.patterns h.values c.args.right c.entry-2.result.now l c.entry-2.ensures) in
    subst (λ (z : ℕ × ℕ). StatesEqual c.args.justs.now c.args.step z.0 z.1) (λ i. (sym a.1 i, sym a.2 i)) c.requires.states
