-- Proof texts of both versions: the lines alone, or behind the places of the axioms that the proof rests on.
use Rattle.std.specs.Prelude.{ℕ, Bool, cond, IsTrue, List, [], ◌∷◌, ◌++◌, ◌≡◌, map, decimal, Option, Some, None, codes, suc}
use mathlib.Core.Path.{refl, sym, ap, ◌∙◌, subst}
use mathlib.Core.Logic.{inl, inr}
use mathlib.Core.List.{append_assoc}
use Rattle.ae_base.specs.Options.{or_else}
use Rattle.ae_core.specs.declared.problems.Signature.{Signature}
use Rattle.ae_core.specs.declared.terms.Sort.{Sort}
use Rattle.ae_core.specs.declared.terms.Term.{Term}
use Rattle.ae_core.specs.declared.proofs.ClauseLine.{ClauseLine}
use Rattle.ae_codes.specs.Codes.{Code, both, mapped, words}
use Rattle.ae_codes.specs.Listings.{listed_text}
use Rattle.ae_codes.specs.Names.{Listed}
use Rattle.ae_codes.specs.Rising.{rising, rising_spelled}
use Rattle.ae_codes.specs.Rows.{alone}
use Rattle.ae_codes.specs.Tables.{all_apart, table, tagged}
use Rattle.ae_prooftext.specs.declared.proofs.ProofText.{ProofText}
use Rattle.ae_prooftext.specs.FormulaTexts.{same}
use Rattle.ae_prooftext.specs.Proofs.{proof_lines, proof_lines_spelled}
use Rattle.ae_prooftext.specs.Texts.{proof_lines_text, proof_text}

abbrev pub first_word : List ℕ
first_word = codes "proof 1\n"

abbrev pub second_word : List ℕ
second_word = codes "proof 2\naxioms ["

pub versions_apart : IsTrue (all_apart (first_word ∷ second_word ∷ []))
versions_apart = refl

abbrev pub version_word : Option (List ℕ) → List ℕ
version_word None = first_word
version_word (Some ns) = second_word

abbrev pub version_tag : ProofText → List ℕ
version_tag p = version_word p.axioms

-- places of axioms: rising, each once
abbrev pub places : Code (List ℕ)
places = rising suc

abbrev pub Lines : Type 0
Lines = (ls : List ClauseLine) × Unit {0}

abbrev pub Placed : Type 0
Placed = (ns : List ℕ) × ((u : Unit {0}) × Lines)

abbrev pub text_of : Option (List ℕ) → List ClauseLine → ProofText
text_of a ls = record { axioms = a; proof = record { lines = ls } }

module _ (sig : Signature) (real : List Sort → Term → Bool) where
  abbrev pub first_arm : Code ProofText
  first_arm = mapped (λ v. text_of None v.0) (λ p. (p.proof.lines, tt)) (proof_lines sig real) (λ v f. refl)

  pub first_law : (p : ProofText) → first_arm.Fits p → version_tag p ≡ first_word
  unfolding mapped
  first_law p f = sym (ap version_tag f.1)

  abbrev pub second_raw : Code Placed
  second_raw = both places (λ ns. both (alone {A = Unit {0}} tt (10 ∷ [])) (λ u. proof_lines sig real))

  abbrev pub second_arm : Code ProofText
  second_arm = mapped (λ v. text_of (Some v.0) v.1.1.0) (λ p. (or_else p.axioms [], (tt, (p.proof.lines, tt)))) second_raw (λ v f. refl)

  pub second_law : (p : ProofText) → second_arm.Fits p → version_tag p ≡ second_word
  unfolding mapped
  second_law p f = sym (ap version_tag f.1)

  abbrev pub version_arms : List ℕ → Code ProofText
  version_arms w = cond (same w first_word) first_arm second_arm

  abbrev version_is : List ℕ → Type 0
  version_is w = (p : ProofText) → (version_arms w).Fits p → version_tag p ≡ w

  pub version_law : (w : List ℕ) (p : ProofText) → Listed (first_word ∷ second_word ∷ []) w → (version_arms w).Fits p → version_tag p ≡ w
  version_law w p (inl e) f = subst version_is (sym e) first_law p f
  version_law w p (inr (inl e)) f = subst version_is (sym e) second_law p f
  version_law w p (inr (inr e)) f = absurd e

  -- a proof text of either version
  unfoldable pub proof_code : Code ProofText
  proof_code = tagged first_word (second_word ∷ []) versions_apart version_arms version_tag version_law

  spelled : (a : Option (List ℕ)) (ls : List ClauseLine) → proof_code.Fits (text_of a ls) → proof_code.text (text_of a ls) ≡ proof_text sig (text_of a ls)
  unfolding proof_code tagged mapped both table words alone proof_text
  spelled None ls f = ap (λ z. first_word ++ z) (proof_lines_spelled sig real ls f.0.1.0)
  spelled (Some ns) ls f =
      ap (λ z. second_word ++ (z ++ (10 ∷ (proof_lines sig real).text (ls, tt)))) (rising_spelled suc ns f.0.1.0.0)
      ∙ ap (λ z. second_word ++ (listed_text 93 (map decimal ns) ++ (10 ∷ z))) (proof_lines_spelled sig real ls f.0.1.0.1.1)
      ∙ ap (λ z. second_word ++ z) (sym (append_assoc (listed_text 93 (map decimal ns)) (10 ∷ []) (proof_lines_text sig ls)))

  pub proof_spelled : (p : ProofText) → proof_code.Fits p → proof_code.text p ≡ proof_text sig p
  proof_spelled p f = spelled p.axioms p.proof.lines f
