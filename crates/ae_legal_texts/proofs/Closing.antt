-- The bytes that close stand in no name, and are no stroke.
use Rattle.std.specs.Prelude.{ℕ, ◌≡◌, ◌||◌, true, false, nat_eq}
use Rattle.std.proofs.Common.{refl, ap, ◌∙◌, arith}
use Rattle.std.proofs.lemmas.Bool.{ne_eqb, eqb-true}
use Rattle.ae_base.proofs.Tests.{by_either, not_both, false_true}
use Rattle.ae_codes.specs.Closers.{Close, closers, closers_false, by_blank, by_bracket, by_line, round, square}
use Rattle.ae_core.specs.Signatures.{continues_name}
use Rattle.ae_prooftext.specs.SortTexts.{blank}
use Rattle.ae_legal_texts.specs.Writable.{closes_parts, ClosesParts}
use Rattle.ae_legal_texts.proofs.Named.{byte_range}

abbrev pub ClosesNoName : Close → Type 0
ClosesNoName k = (x : ℕ) → continues_name x ≡ true → closers k.one k.two x ≡ false

no_name : (x : ℕ) → continues_name x ≡ true → closes_parts x ≡ true → ⊥
no_name x h c =
    let r = byte_range x h in
    let l = r.0 in
    by_either (nat_eq x 32 || nat_eq x 41 || nat_eq x 93) (nat_eq x 10) c
    (λ d. by_either (nat_eq x 32 || nat_eq x 41) (nat_eq x 93) d
    (λ e. by_either (nat_eq x 32) (nat_eq x 41) e (λ q. let z = eqb-true x 32 q in omega (arith, l, z)) (λ q. let z = eqb-true x 41 q in omega (arith, l, z)))
    (λ q. not_both (nat_eq x 93) q r.2))
    (λ q. let z = eqb-true x 10 q in omega (arith, l, z))

pub names_apart : (k : Close) → ClosesParts k → ClosesNoName k
names_apart k c x h =
    closers_false k.one k.two x (λ e. no_name x h (ap closes_parts e ∙ c.0)) (λ e. no_name x h (ap closes_parts e ∙ c.1))

pub stroke_apart : (k : Close) → ClosesParts k → closers k.one k.two 47 ≡ false
stroke_apart k c = closers_false k.one k.two 47 (λ e. false_true (ap closes_parts e ∙ c.0)) (λ e. false_true (ap closes_parts e ∙ c.1))

pub round_parts : ClosesParts round
unfolding round
round_parts = (refl, refl)

pub square_parts : ClosesParts square
unfolding square
square_parts = (refl, refl)

pub blank_parts : ClosesParts by_blank
unfolding by_blank
blank_parts = (refl, refl)

pub bracket_parts : ClosesParts by_bracket
unfolding by_bracket
bracket_parts = (refl, refl)

pub line_parts : ClosesParts by_line
unfolding by_line
line_parts = (refl, refl)

pub round_apart : ClosesNoName round
round_apart = names_apart round round_parts

pub blank_apart : (x : ℕ) → continues_name x ≡ true → blank x ≡ false
blank_apart x h = let r = byte_range x h in let l = r.0 in ne_eqb x 32 (λ e. omega (arith, l, e))
