use Rattle.std.proofs.Common.{sym, arith, ◌<◌, ◌≤◌, ◌/◌, ◌^◌}
use Rattle.std.proofs.Math.Nat.{div-mul_cancel, pos_of_dvd_of_pos, div-le_self}
use Rattle.std.proofs.lemmas.Int.{to_z_pos}
use Rattle.std.specs.Int.{w128}
use Rattle.ae_lex.proofs.numerals.in_lowest_terms.Goals as goal

pub nonzero_div-result : goal.nonzero_div-result
nonzero_div-result c = pos_of_dvd_of_pos c.gcd-common.ensures.1 c.requires.some

pub nonzero_div-result-2 : goal.nonzero_div-result-2
nonzero_div-result-2 c = pos_of_dvd_of_pos c.gcd-common.ensures.1 c.requires.some

pub returns : goal.returns
returns c =
    let g = c.gcd-common.result in
    let a : c.args.top / g ≤ c.args.top = div-le_self c.args.top g in
    let b : c.args.bottom / g ≤ c.args.bottom = div-le_self c.args.bottom g in
    let top_below : c.args.top < 2 ^ 127 = c.requires.top in
    let bottom_below : c.args.bottom < 2 ^ 127 = c.requires.bottom in
    let small : c.args.top / g < 2 ^ 127 = omega arith in
    let low : c.args.bottom / g < 2 ^ 127 = omega arith in
    record {
      up = c.args.top / g;
      down = c.args.bottom / g;
      common = g;
      greatest = c.gcd-common.ensures;
      up_is = sym (div-mul_cancel g c.gcd-common.ensures.0);
      down_is = sym (div-mul_cancel g c.gcd-common.ensures.1);
      top_is = to_z_pos w128 (c.args.top / g) small;
      bottom_is = to_z_pos w128 (c.args.bottom / g) low;
    }
