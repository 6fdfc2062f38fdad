-- What stands at a place among nodes, told from the node there and those before it.
use Rattle.std.proofs.Common.{arith, ◌≡◌, ◌∙◌, ℕ, ◌+◌, ◌<◌, List, [], ◌∷◌, ◌++◌, length, take, drop, Some, None, inl, inr, refl, sym, ap, slice_get}
use Rattle.std.proofs.lemmas.List.{append_assoc, drop_more, take-append-drop, length-take-le}
use Rattle.std.proofs.lemmas.Option.{slice_get_within, slice_get_past, get_or_from_slice_get, slice_get_cases, none-some}
use Rattle.ae_base.proofs.ListFacts.{get_seam}
use Rattle.ae_elab.specs.declared.nodes.Node.{Node}
use Rattle.ae_elab.specs.Nodes.{Entry, claim_in, claim_at, entry_of, entries_after, entries_of, tree_in, tree_at}
use Rattle.ae_elab.specs.Rules.{no_tree}
use Rattle.ae_elab.specs.Trees as tree
use Rattle.ae_elab.specs.Typings.{Begins}
use Rattle.ae_elab.proofs.NodeLaws.{begins_itself, begins_on, entries_long}

after_both : (es : List Entry) (ns ms : List Node) → entries_after es (ns ++ ms) ≡ entries_after (entries_after es ns) ms
after_both es [] ms = refl
after_both es (n ∷ ns) ms = after_both (es ++ entry_of es n ∷ []) ns ms

begins_after : (es : List Entry) (ns : List Node) → Begins es (entries_after es ns)
begins_after es [] = begins_itself es
begins_after es (n ∷ ns) =
    let one = es ++ entry_of es n ∷ [] in
    begins_on es one (entries_after one ns) (entry_of es n ∷ [], refl) (begins_after one ns)

module _ (ns : List Node) (n : ℕ) where
  module _ (x : Node) (h : slice_get ns n ≡ Some x) where
    abbrev before : List Entry
    before = entries_of (take n ns)

    within : n < length ns
    within = slice_get_within ns n x h

    split : ns ≡ take n ns ++ x ∷ drop (n + 1) ns
    split = sym (take-append-drop n ns) ∙ ap (λ z. take n ns ++ z) (drop_more ns n x within ∙ ap (λ z. z ∷ drop (n + 1) ns) (get_or_from_slice_get ns n x x h))

    as_long : length before ≡ n
    as_long = entries_long (take n ns) ∙ length-take-le n ns (omega (arith, within))

    pub entry_there : slice_get (entries_of ns) n ≡ Some (entry_of before x)
    entry_there =
        let e = entry_of before x in
        let r = begins_after (before ++ e ∷ []) (drop (n + 1) ns) in
        ap (λ z. slice_get z n) (ap entries_of split ∙ after_both [] (take n ns) (x ∷ drop (n + 1) ns) ∙ r.1 ∙ append_assoc before (e ∷ []) r.0)
        ∙ ap (slice_get (before ++ e ∷ r.0)) (sym as_long) ∙ get_seam before r.0 e

    pub tree_there : tree_at (entries_of ns) n ≡ tree_in (Some (entry_of before x))
    tree_there = ap tree_in entry_there

    pub claim_there : claim_at (entries_of ns) n ≡ claim_in (Some (entry_of before x))
    claim_there = ap claim_in entry_there

  module _ (h : None ≡ slice_get ns n) where
    missing : slice_get (entries_of ns) n ≡ None
    missing = elim (slice_get_cases ns n).1 [
      | inl w ↦ absurd (none-some w.0 (h ∙ w.2))
      | inr w ↦ slice_get_past (entries_of ns) n (let l = entries_long ns in omega (arith, l, w.0))
    ]

    pub tree_missing : tree_at (entries_of ns) n ≡ no_tree
    tree_missing = ap tree_in missing

    pub claim_missing : claim_at (entries_of ns) n ≡ tree.falsity
    claim_missing = ap claim_in missing
