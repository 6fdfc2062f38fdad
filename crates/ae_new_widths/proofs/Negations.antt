-- The negation of a form, in the normal form, means the form times -1.
use Rattle.std.specs.Prelude.{ℕ, pos, negsuc, ◌≡◌, ◌<ℤ◌, ◌≤ℤ◌, List, [], ◌∷◌, map, unsigned_abs}
use Rattle.std.proofs.Common.{refl, sym, ◌∙◌, subst, arith}
use borrow.Author.Differences.{ints}
use Rattle.ae_math.specs.Fractions.{ratio}
use Rattle.ae_math.specs.Forms.{scale}
use Rattle.ae_math.proofs.Divisors.{gcd_exists}
use Rattle.ae_num.specs.Forms.{meaning, SameMeaning, IsNormal, IsCommonDivisor, divided, multiple_of}
use Rattle.ae_num.specs.Inner.Reduction.{whole_of}
use Rattle.ae_num.specs.declared.forms.Lin.{Lin}
use Rattle.ae_num.specs.declared.forms.Part.{Part}
use Rattle.ae_num.specs.declared.sums.Combination.TheVariants.{Multiple}
use Rattle.ae_num.proofs.LowestLaws.{quotient_lowest, multiple_made}
use Rattle.ae_num.proofs.MeaningLaws.{scale_means}
use Rattle.ae_num.proofs.NormalLaws.{quotient_reduced}
use Rattle.ae_num.proofs.ReductionLaws.{common_one, common_step}
use Rattle.ae_num.proofs.WholeLaws.{whole_positive}

common_exists : (a : ℕ) (ns : List ℕ) → (g : ℕ) × IsCommonDivisor (a ∷ ns) g
common_exists a [] = (a, common_one a)
common_exists a (b ∷ ns) =
    let d = gcd_exists a b in
    let r = common_exists d.0 ns in
    (r.0, common_step a b d.0 ns r.0 d.1 r.1)

pub negation_means : (g : Lin) → IsNormal g → IsNormal (multiple_of (negsuc 0) (pos 1) g) → SameMeaning (meaning (multiple_of (negsuc 0) (pos 1) g)) (scale (ratio (negsuc 0) (pos 1)) (meaning g))
negation_means g n m =
    let q : Lin = record { den = pos 1; parts = []; constant = pos 0 } in
    let w : Lin = whole_of (Multiple (negsuc 0)) g q in
    let one : pos 0 <ℤ pos 1 = omega (arith, ints) in
    let positive = whole_positive (Multiple (negsuc 0)) g q w refl n.positive one in
    let d = common_exists (unsigned_abs w.den) (unsigned_abs w.constant ∷ map (λ (p : Part). unsigned_abs p.factor) w.parts) in
    let some : pos 0 ≤ℤ pos d.0 = omega (arith, ints) in
    let f : Lin = divided (pos d.0) w in
    let is : f ≡ multiple_of (negsuc 0) (pos 1) g = quotient_lowest w f (pos d.0) (pos d.0) refl some positive d.1 refl ∙ multiple_made (negsuc 0) (pos 1) g in
    subst (λ (l : Lin). SameMeaning (meaning l) (scale (ratio (negsuc 0) (pos 1)) (meaning g))) is
    (scale_means (negsuc 0) (pos 1) g w f refl (quotient_reduced w f (pos d.0) (pos d.0) refl some positive d.1 refl) (subst IsNormal (sym is) m) n one)
