use Rattle.std.proofs.Common.{arith, ◌∙◌, sym, subst, ◌≡◌, ◌<◌, length, slice_get, Some, [], ◌∷◌}
use Rattle.ae_core.specs.declared.terms.Sort.{Sort}
use Rattle.std.proofs.lemmas.List.{length-map}
use Rattle.ae_store.specs.Shapes.{shape_of, shapes}
use Rattle.ae_store.specs.Terms.{node_sort, applied}
use Rattle.ae_store.specs.Heights.{height, weights}
use Rattle.ae_store.specs.Fields.{field_head, field_count, sort_args, HasField}
use Rattle.ae_store.proofs.EnterLaws.{front_same, front_then, shape_within, within_push, within_wider, longer}
use Rattle.ae_store.proofs.FieldLaws.{field_falls, news_none, done_more, field_here, complete_from, sort_placed, news_then, news_one, shape_kept}
use Rattle.ae_store.proofs.HeightLaws.{lawful_falls}
use Rattle.ae_store.proofs.SortedLaws.{field_at_name}
use Rattle.ae_store.specs.Names.{AreWithin}
use Rattle.ae_store.specs.Parts.{IsIn, AreIn, HasFieldsIn, IsPart, root, IsTouched}
use Rattle.ae_store.proofs.PartLaws.{shape_back, added_none, added_one, added_then, touched_from, field_part, field_in_here, inside_more, are_then, are_pushed, are_one, in_new}
use Rattle.ae_store.proofs.entering.+enter_fields.Goals as goal

pub enter_fields-requires : goal.enter_fields-requires
enter_fields-requires t c =
    let sig = c.args.signature.now in
    let s = c.args.sort.now in
    let i = c.loop-i.i in
    let W = weights sig in
    let inner = c.in_ok-inner.inner in
    let ns = c.enter_field.new.nodes in
    let place = c.in_ok-place.place in
    let F = c.field_head-field.result in
    let A = c.sort_args.result.now in
    let n : c.field_count-i-end.result ≡ field_count sig s = c.field_count-i-end.ensures in
    let l : i < c.field_count-i-end.result = c.loop-i-test.true in
    let h : i < field_count sig s = omega (arith, l, n) in
    let e : inner ≡ node_sort sig (field_head s i) (sort_args s) = c.in_ok-inner.ensures ∙ (λ j. node_sort sig (c.field_head-field.ensures j) (c.sort_args-in-loop-i.ensures j)) in
    let m : height W inner < height W s = subst (λ (r : Sort). height W r < height W s) (sym e) (field_falls sig (lawful_falls sig c.requires.lawful) s i h) in
    let at : slice_get (shapes ns) place ≡ Some (applied sig F A (c.args.owner ∷ [])) = c.in_ok-place.ensures.place in
    let w : place < length ns = shape_within ns place (applied sig F A (c.args.owner ∷ [])) at in (
      subst (λ k. height W inner < k) c.decreases m,
      (
        c.requires.lawful,
        (
          c.enter_field.ensures.sound,
          (
            w,
            (
              (λ x g. sort_placed (shapes ns) place (applied sig F A (c.args.owner ∷ [])) x inner at ((λ j. node_sort sig F ((c.sort_args.ensures ∙ sym c.sort_args-in-loop-i.ensures) j)) ∙ sym c.in_ok-inner.ensures) g),
              (
                within_push c.loop-i.nodes ns c.loop-i.touched c.push.new.self place c.in_ok-place.ensures.front c.loop-i.invariant.touched w c.in_ok-push.ensures.ok,
                in_new c.loop-i.touched c.push.new.self place c.in_ok-push.ensures.ok,
              ),
            ),
          ),
        ),
      ),
    )

pub loop-i-preserved : goal.loop-i-preserved
loop-i-preserved t c =
    let sig = c.args.signature.now in
    let s = c.args.sort.now in
    let i = c.loop-i.i in
    let old = c.loop-i.nodes in
    let mid = c.enter_field.new.nodes in
    let new = c.enter_fields.new.nodes in
    let place = c.in_ok-place.place in
    let F = c.field_head-field.result in
    let A = c.sort_args.result.now in
    let f1 = c.in_ok-place.ensures.front in
    let f2 = c.in_ok-enter_fields.ensures.front in
    let f = front_then old mid new f1 f2 in
    let at : slice_get (shapes mid) place ≡ Some (applied sig F A (c.args.owner ∷ [])) = c.in_ok-place.ensures.place in
    let here : HasField sig (shapes new) c.args.owner s i = field_here sig (shapes new) c.args.owner s i place F A c.field_head-field.ensures c.sort_args.ensures (shape_kept mid new f2 place (applied sig F A (c.args.owner ∷ [])) at) in
    let g = c.args.generation in
    let T = c.loop-i.touched in
    let U = c.push.new.self in
    let V = c.enter_fields.new.touched in
    let W = c.args.owner ∷ [] in
    let base = c.args.nodes.now in
    let fall = front_then base old new c.loop-i.invariant.front f in
    let q = c.in_ok-enter_fields.ensures.added in
    let n : c.field_count-i-end.result ≡ field_count sig s = c.field_count-i-end.ensures in
    let l : i < c.field_count-i-end.result = c.loop-i-test.true in
    let h : i < field_count sig s = omega (arith, l, n) in
    let at' : slice_get (shapes new) place ≡ Some (applied sig F A (c.args.owner ∷ [])) = shape_kept mid new f2 place (applied sig F A (c.args.owner ∷ [])) at in
    let part : IsPart sig (shapes new) W place = field_part sig base new c.args.owner s i place F A fall c.requires.owner c.requires.sort h c.field_head-field.ensures c.sort_args.ensures at' in
    let up : AreIn T V = are_then T U V (are_pushed T U place c.in_ok-push.ensures.ok) q.kept in
    let args : AreIn W V = are_one c.args.owner V (up.each c.args.owner (c.loop-i.invariant.added.kept.each c.args.owner c.requires.among)) in
    let fields : HasFieldsIn sig (shapes new) V place (node_sort sig F A) =
    subst (HasFieldsIn sig (shapes new) V place) (c.in_ok-inner.ensures ∙ (λ j. node_sort sig F ((c.sort_args-in-loop-i.ensures ∙ sym c.sort_args.ensures) j))) c.in_ok-enter_fields.ensures.inside in
    let touched : IsTouched sig (shapes new) V W place = touched_from sig (shapes new) V W place (applied sig F A W) part at' args fields in
    let within : IsIn place V = q.kept.each place (in_new T U place c.in_ok-push.ensures.ok) in
    record {
      added = added_then sig g base old new c.args.touched.now T V W W W c.loop-i.invariant.added f
          (added_one sig g old mid new T U V W place c.in_ok-place.ensures.only c.in_ok-place.ensures.given c.in_ok-push.ensures.ok f2 q touched)
          (λ r k. root r k) (λ r k. root r k);
      inside = inside_more sig old new T V c.args.owner s i f up c.loop-i.invariant.inside
          (field_in_here sig (shapes new) V c.args.owner s i place F A c.field_head-field.ensures c.sort_args.ensures at' within);
      sound = c.in_ok-enter_fields.ensures.sound;
      front = front_then c.args.nodes.now old new c.loop-i.invariant.front f;
      touched = c.in_ok-enter_fields.ensures.touched;
      done = done_more sig old new c.args.owner s i f c.loop-i.invariant.done here;
      news = news_then sig c.args.nodes.now old new c.loop-i.invariant.news f (news_one sig old mid new place c.in_ok-place.ensures.only c.in_ok-enter_fields.ensures.news c.in_ok-enter_fields.ensures.complete);
    }

pub returns-clause-complete : goal.returns-clause-complete
returns-clause-complete t c =
    let s = c.args.sort.now in
    let i = c.loop-i.invariant in
    let n : c.field_count-i-end.result ≡ field_count c.args.signature.now s = c.field_count-i-end.ensures in
    complete_from c.args.signature.now c.args.nodes.now c.loop-i.nodes c.args.owner s i.front c.requires.owner c.requires.sort (λ k h. i.done k (let e = c.loop-i-test.false in omega (arith, e, h, n)))

pub returns-clause-inside : goal.returns-clause-inside
returns-clause-inside t c =
    let i = c.loop-i.invariant in
    let n : c.field_count-i-end.result ≡ field_count c.args.signature.now c.args.sort.now = c.field_count-i-end.ensures in
    record { each = λ k h. i.inside k (let e = c.loop-i-test.false in omega (arith, e, h, n)) }

pub loop-i-init : goal.loop-i-init
loop-i-init t c = record {
  sound = c.requires.sound;
  front = front_same c.args.nodes.now;
  touched = c.requires.touched;
  done = λ k h. absurd (omega (arith, h));
  news = news_none c.args.signature.now c.args.nodes.now;
  added = added_none c.args.signature.now c.args.generation c.args.nodes.now c.args.touched.now (c.args.owner ∷ []);
  inside = λ k h. absurd (omega (arith, h));
}

pub returns-in_err-place-clause-touched : goal.returns-in_err-place-clause-touched
returns-in_err-place-clause-touched t c =
    within_wider (length c.loop-i.nodes) (length c.enter_field.new.nodes) c.loop-i.touched (longer c.loop-i.nodes c.enter_field.new.nodes c.enter_field.ensures.front) c.loop-i.invariant.touched

pub returns-in_err-push-clause-touched : goal.returns-in_err-push-clause-touched
returns-in_err-push-clause-touched t c =
    subst (AreWithin (length c.enter_field.new.nodes)) (sym c.in_err-push.ensures.err)
    (within_wider (length c.loop-i.nodes) (length c.enter_field.new.nodes) c.loop-i.touched (longer c.loop-i.nodes c.enter_field.new.nodes c.enter_field.ensures.front) c.loop-i.invariant.touched)

pub returns-in_err-inner-clause-touched : goal.returns-in_err-inner-clause-touched
returns-in_err-inner-clause-touched t c =
    let ns = c.enter_field.new.nodes in
    let place = c.in_ok-place.place in
    let w : place < length ns = shape_within ns place (applied c.args.signature.now c.field_head-field.result c.sort_args.result.now (c.args.owner ∷ [])) c.in_ok-place.ensures.place in
    within_push c.loop-i.nodes ns c.loop-i.touched c.push.new.self place c.in_ok-place.ensures.front c.loop-i.invariant.touched w c.in_ok-push.ensures.ok

pub enter_field-requires : goal.enter_field-requires
enter_field-requires t c =
    let sig = c.args.signature.now in
    let s = c.args.sort.now in
    let i = c.loop-i.i in
    let base = c.args.nodes.now in
    let ns = c.loop-i.nodes in
    let o = c.args.owner in
    let n : c.field_count-i-end.result ≡ field_count sig s = c.field_count-i-end.ensures in
    let l : i < c.field_count-i-end.result = c.loop-i-test.true in
    let h : i < field_count sig s = omega (arith, l, n) in
    let b : o < length base = c.requires.owner in
    let w : o < length ns = omega (arith, b, longer base ns c.loop-i.invariant.front) in
    let b' : o < length (shapes base) = omega (arith, b, length-map base shape_of) in
    record {
      sound = c.loop-i.invariant.sound;
      owner = w;
      sorted = field_at_name sig c.requires.lawful ns o s i c.field_head-field.result c.sort_args.result.now c.loop-i.invariant.sound w
          (λ x e. c.requires.sort x (shape_back base ns c.loop-i.invariant.front o x b' e)) h c.field_head-field.ensures c.sort_args.ensures;
    }
