-- A writable proof of which the unused lines are left out is writable.
use Rattle.std.specs.Prelude.{ℕ, true, ◌≡◌, List, [], ◌∷◌, map, slice_get, Some}
use Rattle.std.specs.List.{AllByRecursion, flat_map, list_all}
use Rattle.std.proofs.Common.{refl, sym, ◌∙◌, subst, arith}
use Rattle.std.proofs.lemmas.Bool.{and_from}
use Rattle.std.proofs.lemmas.Option.{same_Some, slice_get_within}
use Rattle.ae_base.proofs.AllOf.{all_append, all_at, all_both, all_from_places, all_front, all_of_test}
use Rattle.ae_base.proofs.ListFacts.{value_at}
use Rattle.ae_core.specs.declared.proofs.ClauseLine.{ClauseLine}
use Rattle.ae_core.specs.declared.proofs.ClauseLine.TheVariants.{Hyp, Goal, Def, Inst, Fresh, Exh, Tri, Block, Rup}
use Rattle.ae_core.specs.declared.proofs.Proof.{Proof}
use Rattle.ae_legal_texts.proofs.Places.{all_parts}
use Rattle.ae_legal_texts.specs.Numbers.{counts, literal_numbers, line_numbers}
use Rattle.ae_legal_texts.specs.Writable.{no_negations_in}
use Rattle.ae_trim.proofs.Keeping.{used_within}
use Rattle.ae_trim.proofs.Rising.{at_contains}
use Rattle.ae_trim.specs.Trimmed.{IsTrimmed, place_in, renumbered}
use Rattle.ae_trim.specs.Used.{HintEarlier}
use Rattle.ae_writable.specs.Numbers.{IsValueWithin, AreValuesWithin}
use Rattle.ae_writable.specs.Writable.{IsWritableProof}

record IsWritableLine (l : ClauseLine) : Type 0 where
  values : AreValuesWithin (line_numbers l)
  direct : no_negations_in l ≡ true

-- ---- hints are counts
counts_values : (ks : List ℕ) → AreValuesWithin (counts ks)
counts_values [] = tt
counts_values (k ∷ ks) = (tt, counts_values ks)

renumbered_writable : (number : ℕ → ℕ) (l : ClauseLine) → IsWritableLine l → IsWritableLine (renumbered number l)
renumbered_writable number (Hyp k ss) h = h
renumbered_writable number Goal h = h
renumbered_writable number (Def r f) h = h
renumbered_writable number (Inst f ts) h = h
renumbered_writable number (Fresh f m) h = h
renumbered_writable number (Exh t) h = h
renumbered_writable number (Tri s t) h = h
renumbered_writable number (Block b) h = h
renumbered_writable number (Rup c ks) h = record {
  values = all_append IsValueWithin (flat_map literal_numbers c) (counts (map number ks)) (all_front IsValueWithin (flat_map literal_numbers c) (counts ks) h.values) (counts_values (map number ks));
  direct = h.direct;
}

-- ---- lines
lines_writable : (ls : List ClauseLine) → AreValuesWithin (flat_map line_numbers ls) → list_all no_negations_in ls ≡ true → AllByRecursion IsWritableLine ls
lines_writable ls v d =
    all_both (λ l. AreValuesWithin (line_numbers l)) (λ l. no_negations_in l ≡ true) IsWritableLine (λ l a b. record { values = a; direct = b }) ls
    (all_parts IsValueWithin line_numbers ls v) (all_of_test no_negations_in (λ l. no_negations_in l ≡ true) (λ l e. e) ls d)

values_of : (ls : List ClauseLine) → AllByRecursion IsWritableLine ls → AreValuesWithin (flat_map line_numbers ls)
values_of [] a = tt
values_of (l ∷ ls) a = all_append IsValueWithin (line_numbers l) (flat_map line_numbers ls) (a.0).values (values_of ls a.1)

direct_of : (ls : List ClauseLine) → AllByRecursion IsWritableLine ls → list_all no_negations_in ls ≡ true
direct_of [] a = refl
direct_of (l ∷ ls) a = and_from (no_negations_in l) (list_all no_negations_in ls) (a.0).direct (direct_of ls a.1)

line_kept : (proof trimmed : Proof) → HintEarlier proof.lines → IsTrimmed proof trimmed → AllByRecursion IsWritableLine proof.lines
    → (i : ℕ) (x : ClauseLine) → slice_get trimmed.lines i ≡ Some x → IsWritableLine x
line_kept proof trimmed earlier t a i x e =
    let here = slice_get_within trimmed.lines i x e in
    let many = (t.kept).count in
    let place = value_at t.places i (omega (arith, here, many)) in
    let within = used_within proof.lines earlier place.0 ((t.are_used).used place.0 (at_contains t.places i place.0 place.1)) in
    let old = value_at proof.lines place.0 within in
    let same : renumbered (place_in t.places) old.0 ≡ x = same_Some (renumbered (place_in t.places) old.0) x (sym ((t.kept).each i place.0 old.0 place.1 old.1) ∙ e) in
    subst IsWritableLine same (renumbered_writable (place_in t.places) old.0 (all_at IsWritableLine proof.lines place.0 old.0 a old.1))

pub writable_kept : (proof trimmed : Proof) → HintEarlier proof.lines → IsTrimmed proof trimmed → IsWritableProof proof → IsWritableProof trimmed
writable_kept proof trimmed earlier t w =
    let kept = all_from_places IsWritableLine trimmed.lines (line_kept proof trimmed earlier t (lines_writable proof.lines w.values w.direct)) in
    record { values = values_of trimmed.lines kept; direct = direct_of trimmed.lines kept }
