use Rattle.std.specs.Prelude.{ℕ, suc, ◌≡◌, ◌+◌, take, slice_index_or}
use Rattle.std.specs.List.{flat_map}
use Rattle.std.proofs.Common.{arith, ap, subst, ◌∙◌}
use Rattle.std.proofs.lemmas.List.{take_all, get_or_default}
use Rattle.ae_inequalities.specs.Held.{tags_at}
use Rattle.ae_inequalities.proofs.JoinedTags.{mapped_more}
use Rattle.ae_inequalities.proofs.tagging.joined.Goals as goal

pub loop-number-preserved : goal.loop-number-preserved
loop-number-preserved c =
    let used = c.args.used.now in
    let k = c.loop-number.number-index in
    let it = slice_index_or used k 0 in
    let one : suc k ≡ k + 1 = omega arith in
    record {
      so_far = subst (λ (n : ℕ). c.add_tags.new.all ≡ flat_map (tags_at c.args.tags.now) (take n used)) one
          (mapped_more (tags_at c.args.tags.now) used k it c.loop-number-test.true (get_or_default used k 0 it c.loop-number-test.true) c.loop-number.all c.add_tags.new.all c.loop-number.invariant.so_far
          c.in_ok-add_tags.ensures);
    }

pub returns : goal.returns
returns c = c.loop-number.invariant.so_far ∙ ap (flat_map (tags_at c.args.tags.now)) (take_all c.loop-number.number-index c.args.used.now (let t = c.loop-number-test.false in omega (arith, t)))
