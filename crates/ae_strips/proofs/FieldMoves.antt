-- A field of what its record comes down to.
use Rattle.std.specs.Prelude.{ℕ, ◌<◌, List, [], ◌∷◌, ◌≡◌, length, slice_get, Some}
use Rattle.std.proofs.Common.{sym, ap, refl, ◌∙◌, subst, arith}
use Rattle.std.proofs.lemmas.Option.{same_Some}
use Rattle.ae_core.specs.Sorts.{sort_of}
use Rattle.ae_core.specs.declared.terms.Sort.{Named}
use Rattle.ae_core.specs.declared.terms.Term.{Term, Apply}
use Rattle.ae_core.specs.declared.terms.Head.TheVariants as head
use Rattle.ae_core.specs.declared.problems.Signature.{Signature}
use Rattle.ae_store.specs.declared.nodes.Node.{Node}
use Rattle.ae_store.specs.Shapes.{shapes}
use Rattle.ae_store.specs.Terms.{terms, named}
use Rattle.ae_store.specs.Stores.{IsStore}
use Rattle.ae_store.proofs.StoreLaws.{name_term}
use Rattle.ae_just.specs.declared.steps.Step.{Step}
use Rattle.ae_just.specs.Steps.{Fits}
use Rattle.ae_strips.specs.Applied.{IsAppliedTo}
use Rattle.ae_strips.specs.Stripping.{IsFieldOf, StripsTo, of_written, of_other, IsEquating}
use Rattle.ae_strips.specs.declared.fields.FieldAt.{FieldAt}
use Rattle.ae_strips.specs.Inner.FieldNodes.{IsFieldNode, HasArgument}
use Rattle.ae_strips.specs.Inner.Saying.{AreMoved, IsFieldOfWritten, IsSameField}
use Rattle.ae_strips.proofs.FieldTerms.{applied_is, field_is, field_applied, owner_below, written_is, written_below, not_written, no_later, build_no_field}
use Rattle.ae_strips.proofs.FieldSorts.{owned, field_there, sort_said}

module _ (sig : Signature) (nodes : List Node) (store : IsStore sig nodes) (name : ℕ) (f : FieldAt) (i : IsFieldNode nodes name f) (p : Node) (at : slice_get nodes name ≡ Some p) where
  abbrev ts : List Term
  ts = terms (shapes nodes)

  node_is : i.node ≡ p
  node_is = same_Some i.node p (sym i.there ∙ at)

  pub field_here : IsFieldOf ts name f.of f.place p.sorts f.owner
  field_here = subst (λ (q : Node). IsFieldOf ts name f.of f.place q.sorts f.owner) node_is (field_is sig nodes store name f i)

  pub applied_here : IsAppliedTo nodes name (head.Field f.of f.place) p.sorts f.owner
  applied_here = subst (λ (q : Node). IsAppliedTo nodes name (head.Field f.of f.place) q.sorts f.owner) node_is (field_applied sig nodes store name f i)

  -- the same field of what a step equates the record with has a name
  pub field_moved : (steps : List Step) → Fits sig ts steps → (other id : ℕ) → IsEquating steps f.owner other id → other < length nodes → (m : ℕ) × IsAppliedTo nodes m (head.Field f.of f.place) p.sorts other
  field_moved steps fits other id e l =
      let h = field_here in
      let o = owned sig nodes store name f.of f.place p.sorts h.owner h.is in
      let s : sort_of sig (named ts other) ≡ Some (Named f.of p.sorts) =
      sort_said sig nodes store steps fits f.owner other (Some id) e ∙ ap (sort_of sig) (name_term ts f.owner h.owner h.owner_is) ∙ o.sorted in
      field_there sig nodes store other f.of f.place p.sorts h.owner l o s

  pub are_moved : (steps : List Step) (other id m : ℕ) → IsEquating steps f.owner other id → IsAppliedTo nodes m (head.Field f.of f.place) p.sorts other → AreMoved ts steps name m id
  are_moved steps other id m e g = record {
    type = f.of;
    place = f.place;
    sorts = p.sorts;
    first = f.owner;
    second = other;
    left_is = field_here;
    right_is = applied_is sig nodes store m f.of f.place p.sorts other g;
    equal = e.equal;
  }

  -- ---- what the name comes down to
  -- the same field, by any node of the name
  pub same_here : (b m : ℕ) → IsSameField nodes name f.of f.place b m → IsAppliedTo nodes m (head.Field f.of f.place) p.sorts b
  same_here b m s = subst (λ (q : Node). IsAppliedTo nodes m (head.Field f.of f.place) q.sorts b) (same_Some s.node p (sym s.there ∙ at)) s.same

  pub in_written : (b m u : ℕ) → StripsTo ts f.owner b → IsSameField nodes name f.of f.place b m → HasArgument nodes b f.of f.place p.sorts u → IsFieldOfWritten ts m u
  in_written b m u st s h = record {
    type = f.of;
    place = f.place;
    sorts = p.sorts;
    owner = b;
    field = applied_is sig nodes store m f.of f.place p.sorts b (same_here b m s);
    written = written_is sig nodes store b f.of f.place p.sorts u h;
  }

  pub inner_below : (b u : ℕ) → StripsTo ts f.owner b → HasArgument nodes b f.of f.place p.sorts u → u < name
  inner_below b u st h =
      let w = written_is sig nodes store b f.of f.place p.sorts u h in
      let last : u < b = written_below sig nodes store b f.of f.place p.sorts u w in
      let first = no_later sig nodes store f.owner b st (Apply (head.Build f.of) p.sorts w.arguments) w.is (build_no_field f.of p.sorts w.arguments) in
      let outer : f.owner < name = owner_below sig nodes store name f i in
      omega (arith, last, first, outer)

  pub strips_inside : (b u m : ℕ) → StripsTo ts f.owner b → HasArgument nodes b f.of f.place p.sorts u → StripsTo ts u m → StripsTo ts name m
  strips_inside b u m st h r = of_written name f.owner b u m f.of f.place p.sorts field_here st (written_is sig nodes store b f.of f.place p.sorts u h) r

  pub strips_beside : (b m : ℕ) → StripsTo ts f.owner b → ((u : ℕ) → HasArgument nodes b f.of f.place p.sorts u → ⊥) → IsSameField nodes name f.of f.place b m → StripsTo ts name m
  strips_beside b m st none s =
      of_other name f.owner b m f.of f.place p.sorts field_here st (not_written sig nodes store b f.of f.place p.sorts none) (applied_is sig nodes store m f.of f.place p.sorts b (same_here b m s))

-- a record that comes down to itself keeps its field
pub same_owner : (nodes : List Node) (n : ℕ) (f : FieldAt) → IsFieldNode nodes n f → (b : ℕ) → b ≡ f.owner → IsSameField nodes n f.of f.place b n
same_owner nodes n f i b e = record {
  node = i.node;
  there = i.there;
  same = record { node = i.node; there = i.there; applies = record { head = i.head; args = i.args ∙ ap (λ (k : ℕ). k ∷ []) (sym e); sorts = refl } };
}
