-- A value is the one that its view is of.
use Rattle.std.proofs.Common.{◌≡◌, ℕ, List, [], ◌∷◌, refl, sym, ap, ◌∙◌, subst}
use Rattle.std.specs.Prelude.{map}
use denote.Hole.Carrier
use Rattle.dbe_values.specs.Val as v
use Rattle.dbe_values.specs.Val.{Val, Vals, Entries}
use Rattle.dbe_values.specs.View.{view, view_step, vals_of, entries_of, entry_view, attr_of, attrs_of, attributes_of}
use Rattle.dbe_values.specs.declared.value.AttrValue.{AttrValue, L, M, roll-AttrValue}
use Rattle.dbe_values.specs.declared.value.AttrValue.TheOpen.{AttrValue-F}
use Rattle.dbe_values.specs.declared.value.AttrValue.TheFolds.{ind-AttrValue, map-AttrValue, fold-roll-AttrValue}
use Rattle.dbe_values.specs.declared.value.AttrValue.TheVariants.{rolls-S, rolls-N, rolls-B, rolls-Bool, rolls-Null}
use Rattle.dbe_values.specs.declared.value.AttrValue.TheVariants.{rolls-Ss, rolls-Ns, rolls-Bs, rolls-L, rolls-M}
use Rattle.dbe_values.proofs.Views.{view-L, view-M}

abbrev IsSeen : AttrValue → Type 0
IsSeen a = attr_of (view a) ≡ a

seen_values : (vs : List ((a : AttrValue) × IsSeen a)) → attrs_of (vals_of (map view (map (λ e. e.0) vs))) ≡ map
    (λ e. e.0) vs
seen_values [] = refl
seen_values (e ∷ vs) = rw (e.1, seen_values vs) refl

seen_entries : (es : List (List ℕ × ((a : AttrValue) × IsSeen a))) →
    attributes_of (entries_of (map entry_view (map (λ e. (e.0, e.1.0)) es))) ≡ map (λ e. (e.0, e.1.0)) es
seen_entries [] = refl
seen_entries (e ∷ es) = rw (e.1.1, seen_entries es) refl

-- a layer, each value inside with the proof that it is seen
seen_layer : (y : AttrValue-F ((a : AttrValue) × IsSeen a)) →
    IsSeen (roll-AttrValue (map-AttrValue ((a : AttrValue) × IsSeen a) AttrValue (λ e. e.0) y))
unfolding roll-AttrValue denote.Hole.Carrier.roll
seen_layer (AttrValue-F.S t) = ap attr_of (fold-roll-AttrValue Val view_step (AttrValue-F.S t)) ∙ rolls-S t
seen_layer (AttrValue-F.N t) = ap attr_of (fold-roll-AttrValue Val view_step (AttrValue-F.N t)) ∙ rolls-N t
seen_layer (AttrValue-F.B t) = ap attr_of (fold-roll-AttrValue Val view_step (AttrValue-F.B t)) ∙ rolls-B t
seen_layer (AttrValue-F.Bool t) = ap attr_of (fold-roll-AttrValue Val view_step (AttrValue-F.Bool t)) ∙ rolls-Bool t
seen_layer AttrValue-F.Null = ap attr_of (fold-roll-AttrValue Val view_step AttrValue-F.Null) ∙ rolls-Null
seen_layer (AttrValue-F.Ss t) = ap attr_of (fold-roll-AttrValue Val view_step (AttrValue-F.Ss t)) ∙ rolls-Ss t
seen_layer (AttrValue-F.Ns t) = ap attr_of (fold-roll-AttrValue Val view_step (AttrValue-F.Ns t)) ∙ rolls-Ns t
seen_layer (AttrValue-F.Bs t) = ap attr_of (fold-roll-AttrValue Val view_step (AttrValue-F.Bs t)) ∙ rolls-Bs t
seen_layer (AttrValue-F.L vs) = ap attr_of (fold-roll-AttrValue Val view_step (AttrValue-F.L (map (λ e. e.0) vs))) ∙
    ap L (seen_values vs) ∙ rolls-L (map (λ e. e.0) vs)
seen_layer (AttrValue-F.M es) =
    ap attr_of (fold-roll-AttrValue Val view_step (AttrValue-F.M (map (λ e. (e.0, e.1.0)) es))) ∙
    ap M (seen_entries es) ∙ rolls-M (map (λ e. (e.0, e.1.0)) es)

pub attr_of-view : (a : AttrValue) → IsSeen a
attr_of-view = ind-AttrValue IsSeen (λ x y is. subst (λ z. IsSeen (roll-AttrValue z)) is (seen_layer y))

pub attributes_of-entries_of : (es : List (List ℕ × AttrValue)) → attributes_of (entries_of (map entry_view es)) ≡ es
attributes_of-entries_of [] = refl
attributes_of-entries_of (e ∷ es) = rw (attr_of-view e.1, attributes_of-entries_of es) refl

mutual
  pub view-attr_of : (x : Val) → view (attr_of x) ≡ x
  view-attr_of (v.text x) = ap view (sym (rolls-S x)) ∙ fold-roll-AttrValue Val view_step (AttrValue-F.S x)
  view-attr_of (v.number x) = ap view (sym (rolls-N x)) ∙ fold-roll-AttrValue Val view_step (AttrValue-F.N x)
  view-attr_of (v.binary x) = ap view (sym (rolls-B x)) ∙ fold-roll-AttrValue Val view_step (AttrValue-F.B x)
  view-attr_of (v.boolean x) = ap view (sym (rolls-Bool x)) ∙ fold-roll-AttrValue Val view_step (AttrValue-F.Bool x)
  view-attr_of v.nothing = ap view (sym rolls-Null) ∙ fold-roll-AttrValue Val view_step AttrValue-F.Null
  view-attr_of (v.texts xs) = ap view (sym (rolls-Ss xs)) ∙ fold-roll-AttrValue Val view_step (AttrValue-F.Ss xs)
  view-attr_of (v.numbers xs) = ap view (sym (rolls-Ns xs)) ∙ fold-roll-AttrValue Val view_step (AttrValue-F.Ns xs)
  view-attr_of (v.binaries xs) = ap view (sym (rolls-Bs xs)) ∙ fold-roll-AttrValue Val view_step (AttrValue-F.Bs xs)
  view-attr_of (v.list vs) = view-L (attrs_of vs) ∙ ap v.list (vals_seen vs)
  view-attr_of (v.map es) = view-M (attributes_of es) ∙ ap v.map (entries_seen es)

  vals_seen : (vs : Vals) → vals_of (map view (attrs_of vs)) ≡ vs
  vals_seen v.no_vals = refl
  vals_seen (v.val x xs) = rw (view-attr_of x, vals_seen xs) refl

  entries_seen : (es : Entries) → entries_of (map entry_view (attributes_of es)) ≡ es
  entries_seen v.no_entries = refl
  entries_seen (v.entry n x es) = rw (view-attr_of x, entries_seen es) refl
