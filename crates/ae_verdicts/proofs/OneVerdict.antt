-- A part has one verdict, and what its line tells.
use Rattle.std.proofs.Common.{ℕ, ◌<◌, ◌≡◌, ◌⊎◌, List, [], ◌∷◌, ◌++◌, take, length, get_or, refl, sym, ap, ◌∙◌, subst, arith, inl, inr, Option, Some, None, codes}
use Rattle.std.specs.Prelude.{slice_get}
use Rattle.std.proofs.lemmas.Bool.{cases_lt}
use Rattle.std.proofs.lemmas.List.{append_cancel_left, append_cancel_right, take-take, length-take, get_or-take}
use Rattle.std.proofs.lemmas.Option.{none-some, same_Some, slice_get_within, slice_get-get_or, get_or_from_slice_get}
use Rattle.ae_calc.specs.Reached.{Fit, FirstWide}
use Rattle.ae_calc.proofs.AllowedLines.{clause_lines_stop}
use Rattle.ae_check.specs.Verdicts.{Says, StopsAt}
use Rattle.ae_check.specs.declared.verdict.Verdict.TheVariants as proof
use Rattle.ae_core.specs.declared.problems.Problem.{Problem}
use Rattle.ae_core.specs.declared.proofs.ClauseLine.{ClauseLine}
use Rattle.ae_core.specs.declared.proofs.Proof.{Proof}
use Rattle.ae_num.specs.Forms.{Step}
use Rattle.ae_num.specs.declared.numbers.Wide.{Wide}
use Rattle.ae_prooftext.specs.declared.proofs.ProofText.{ProofText}
use Rattle.ae_rules.specs.Derivations.{AreAllowed, IsAllowed, Derives}
use Rattle.ae_trim.specs.Axioms.{AreAxioms}
use Rattle.ae_trim.specs.Trimmed.{IsTrimmed}
use Rattle.ae_trim.proofs.Deriving.{trimmed_derives, derivation_trims}
use Rattle.ae_verdicts.specs.Verdicts.{ListsItsAxioms, IsOnProof, IsVerdict, words_of, verdict_line}
use Rattle.ae_verdicts.specs.declared.lines.Verdict.{Verdict}
use Rattle.ae_verdicts.specs.declared.lines.Verdict.TheVariants.{Accepted, RefusedAxioms, Refused, Number, Unchecked}

-- ---- what a verdict rules out
not_both : (R : List Step → Type 0) (w : Wide) → Fit R → FirstWide R w → ⊥
not_both R w f h = none-some w (sym (f.each h.steps h.reached) ∙ h.first)

-- a line that isn't allowed after those before it, in lines that are allowed
no_stop : (p : Problem) (g : ℕ) (ls : List ClauseLine) (k : ℕ) → AreAllowed p g [] ls → StopsAt p g ls k → ⊥
no_stop p g ls k a s =
    clause_lines_stop p g ls k s.line (slice_get_within ls k s.line s.is)
    (λ h. s.refused (subst (IsAllowed p g (take k ls)) (get_or_from_slice_get ls k s.line s.line s.is) h)) a

not_refused : (p : Problem) (g : ℕ) (t : Proof) (k : ℕ) → Derives p g t → Says p g t (proof.Refused k) → ⊥
not_refused p g t k d h = elim h [ inl s ↦ no_stop p g t.lines k d.allowed s | inr u ↦ u.unfinished d.empty ]

shorter : (ls : List ClauseLine) (j k : ℕ) → j < k → take j (take k ls) ≡ take j ls
shorter ls j k l = take-take j k ls (omega (arith, l))

kept_line : (ls : List ClauseLine) (j k : ℕ) (l : ClauseLine) → j < k → slice_get ls j ≡ Some l → slice_get (take k ls) j ≡ Some l
kept_line ls j k l b e =
    let within : j < length (take k ls) = (let a = slice_get_within ls j l e in let c = length-take k ls in omega (arith, a, b, c)) in
    slice_get-get_or (take k ls) j l within ∙ ap Some (get_or-take k ls j l b ∙ get_or_from_slice_get ls j l l e)

-- no line before the first that isn't allowed is such a line
first_stop : (p : Problem) (g : ℕ) (ls : List ClauseLine) (j k : ℕ) → j < k → StopsAt p g ls j → StopsAt p g ls k → ⊥
first_stop p g ls j k b s t =
    no_stop p g (take k ls) j t.before
    (record {
      before = subst (AreAllowed p g []) (sym (shorter ls j k b)) s.before;
      line = s.line;
      is = kept_line ls j k s.line b s.is;
      refused = subst (λ z. ¬ (IsAllowed p g z s.line)) (sym (shorter ls j k b)) s.refused;
    })

one_stop : (p : Problem) (g : ℕ) (ls : List ClauseLine) (j k : ℕ) → StopsAt p g ls j → StopsAt p g ls k → j ≡ k
one_stop p g ls j k s t = elim (cases_lt j k) [
  | inl b ↦ absurd (first_stop p g ls j k b s t)
  | inr c ↦ elim (cases_lt k j) [ inl b ↦ absurd (first_stop p g ls k j b t s) | inr d ↦ omega (arith, c, d) ]
]

one_place : (p : Problem) (g : ℕ) (t : Proof) (j k : ℕ) → Says p g t (proof.Refused j) → Says p g t (proof.Refused k) → j ≡ k
one_place p g t j k h i = elim h [
  | inl s ↦ elim i [ inl r ↦ one_stop p g t.lines j k s r | inr u ↦ absurd (no_stop p g t.lines j u.allowed s) ]
  | inr u ↦ elim i [ inl r ↦ absurd (no_stop p g t.lines k u.allowed r) | inr v ↦ u.number ∙ sym v.number ]
]

-- ---- one verdict
one_on_proof : (p : Problem) (g : ℕ) (t : ProofText) (v w : Verdict) → IsOnProof p g t v → IsOnProof p g t w → v ≡ w
one_on_proof p g t Accepted Accepted h k = refl
one_on_proof p g t Accepted RefusedAxioms h k = absurd (k.2 h.2)
one_on_proof p g t Accepted (Refused n) h k = absurd (not_refused p g t.proof n h.1 k.1)
one_on_proof p g t Accepted Number h k = absurd (not_both _ k.0 h.0 k.1)
one_on_proof p g t Accepted Unchecked h k = absurd k
one_on_proof p g t RefusedAxioms Accepted h k = absurd (h.2 k.2)
one_on_proof p g t RefusedAxioms RefusedAxioms h k = refl
one_on_proof p g t RefusedAxioms (Refused n) h k = absurd (not_refused p g t.proof n h.1 k.1)
one_on_proof p g t RefusedAxioms Number h k = absurd (not_both _ k.0 h.0 k.1)
one_on_proof p g t RefusedAxioms Unchecked h k = absurd k
one_on_proof p g t (Refused m) Accepted h k = absurd (not_refused p g t.proof m k.1 h.1)
one_on_proof p g t (Refused m) RefusedAxioms h k = absurd (not_refused p g t.proof m k.1 h.1)
one_on_proof p g t (Refused m) (Refused n) h k = ap Refused (one_place p g t.proof m n h.1 k.1)
one_on_proof p g t (Refused m) Number h k = absurd (not_both _ k.0 h.0 k.1)
one_on_proof p g t (Refused m) Unchecked h k = absurd k
one_on_proof p g t Number Accepted h k = absurd (not_both _ h.0 k.0 h.1)
one_on_proof p g t Number RefusedAxioms h k = absurd (not_both _ h.0 k.0 h.1)
one_on_proof p g t Number (Refused n) h k = absurd (not_both _ h.0 k.0 h.1)
one_on_proof p g t Number Number h k = refl
one_on_proof p g t Number Unchecked h k = absurd k
one_on_proof p g t Unchecked w h k = absurd h

pub one_verdict : (p : Problem) (g : ℕ) (part : Option ProofText) (v w : Verdict) → IsVerdict p g part v → IsVerdict p g part w → v ≡ w
one_verdict p g (Some t) v w h k = one_on_proof p g t v w h k
one_verdict p g None v w h k = h ∙ sym k

-- ---- what a line tells
same_words : (name : List ℕ) (v w : Verdict) → verdict_line name v ≡ verdict_line name w → words_of v ≡ words_of w
same_words name v w e =
    append_cancel_left (codes "goal " ++ name) (words_of v) (words_of w)
    (append_cancel_right (codes "goal " ++ name ++ words_of v) (codes "goal " ++ name ++ words_of w) (codes "\n") e)

other_words : (xs ys : List ℕ) → ◌≡◌ {A = List ℕ} (32 ∷ 114 ∷ xs) (32 ∷ 97 ∷ ys) → ⊥
other_words xs ys e = let l : 114 ≡ 97 = ap (λ zs. get_or zs 1 0) e in omega (arith, l)

by_words : (p : Problem) (g : ℕ) (part : Option ProofText) (v : Verdict) → IsVerdict p g part v → words_of v ≡ words_of Accepted → (t : ProofText) × (part ≡ Some t) × Derives p g t.proof
by_words p g (Some t) Accepted h e = (t, refl, h.1)
by_words p g None Accepted h e = cc
by_words p g part RefusedAxioms h e = absurd (other_words _ _ e)
by_words p g part (Refused k) h e = absurd (other_words _ _ e)
by_words p g part Number h e = absurd (let l : 110 ≡ 97 = ap (λ zs. get_or zs 1 0) e in omega (arith, l))
by_words p g part Unchecked h e = absurd (let l : 117 ≡ 97 = ap (λ zs. get_or zs 1 0) e in omega (arith, l))

pub accepted_derives : (p : Problem) (g : ℕ) (part : Option ProofText) (name : List ℕ) (v : Verdict) → IsVerdict p g part v → verdict_line name v ≡ verdict_line name Accepted → (t : ProofText) × (part ≡ Some t) × Derives p g t.proof
accepted_derives p g part name v h e = by_words p g part v h (same_words name v Accepted e)

-- ---- derivations
pub derivation_accepted : (p : Problem) (g : ℕ) (t : ProofText) (v : Verdict) → Derives p g t.proof → ListsItsAxioms t → IsVerdict p g (Some t) v → (v ≡ Accepted) ⊎ (v ≡ Number)
derivation_accepted p g t Accepted d a h = inl refl
derivation_accepted p g t RefusedAxioms d a h = absurd (h.2 a)
derivation_accepted p g t (Refused k) d a h = absurd (not_refused p g t.proof k d h.1)
derivation_accepted p g t Number d a h = inr refl
derivation_accepted p g t Unchecked d a h = absurd h

pub trimmed_accepted : (p : Problem) (g : ℕ) (whole trimmed : Proof) (places : List ℕ) (v : Verdict) → Derives p g whole → IsTrimmed whole trimmed → AreAxioms trimmed places
    → IsVerdict p g (Some (record { axioms = Some places; proof = trimmed })) v → (v ≡ Accepted) ⊎ (v ≡ Number)
trimmed_accepted p g whole trimmed places v d t a h =
    let can = derivation_trims p g whole d in
    derivation_accepted p g (record { axioms = Some places; proof = trimmed }) v (trimmed_derives whole trimmed can.0 can.1 t p g d)
    (λ ks e. subst (AreAxioms trimmed) (same_Some places ks e) a) h
