-- What stands in the front of an input stands in the input.
use Rattle.std.proofs.Common.{◌≡◌, ◌≤◌, ℕ, ◌+◌, ◌-◌, List, length, take, drop, ap, ◌∙◌, subst, arith, length-take, Option, Some, None}
use Rattle.std.specs.Prelude.{IfSome}
use Rattle.std.specs.List.{slice_range}
use Rattle.std.specs.Str.{IsUtf8}
use Rattle.std.proofs.lemmas.List.{drop-take, take-take}
use Rattle.ae_base.proofs.AllOf.{all_weaker}
use Rattle.ae_elab.specs.Names.{IsName, names_in_file}
use Rattle.ae_fault_lines.specs.Lines.{fault_place}
use Rattle.ae_report.specs.Lines.{refused_at}
use Rattle.ae_syntax.specs.declared.spans.Span.{Span}
use Rattle.ae_driver.specs.declared.reasons.Reason.{Reason}
use Rattle.ae_driver.specs.declared.reasons.Reason.TheVariants.{Plain, Untyped}
use Rattle.ae_driver.specs.Inner.Endings.{PlacesStand}

front_range : (input : List ℕ) (b from to : ℕ) → from ≤ to → to ≤ b → slice_range (take b input) from to ≡ slice_range input from to
front_range input b from to le lb =
    ap (λ n. take (to - from) (drop from (take n input))) (let e : b ≡ from + (b - from) = omega (arith, le, lb) in e)
    ∙ ap (take (to - from)) (drop-take from (b - from) input)
    ∙ take-take (to - from) (b - from) (drop from input) (omega (arith, le, lb))

front_name : (input : List ℕ) (b : ℕ) (s : Span) → IsName (take b input) s → IsName input s
front_name input b s h =
    let many = length-take b input in
    record {
      ordered = h.ordered;
      within = omega (arith, h.within, many);
      utf8 = subst IsUtf8 (front_range input b s.from s.to h.ordered (omega (arith, h.within, many))) h.utf8;
    }

front_within : (input : List ℕ) (b : ℕ) (o : Option ℕ) → IfSome o (λ at. at ≤ length (take b input)) → IfSome o (λ at. at ≤ length input)
front_within input b None h = tt
front_within input b (Some at) h = omega (arith, h, length-take b input)

pub front_places : (input : List ℕ) (b : ℕ) (why : Reason) → PlacesStand (take b input) why → PlacesStand input why
front_places input b (Plain w) h = front_within input b (refused_at w) h
front_places input b (Untyped file e) h = (all_weaker (IsName (take b input)) (IsName input) (front_name input b) (names_in_file file) h.0, front_within input b (fault_place e) h.1)
