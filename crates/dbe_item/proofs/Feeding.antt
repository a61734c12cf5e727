-- A hasher that takes in one text after another.
use Rattle.std.proofs.Common.{◌≡◌, ℕ, ◌+◌, ◌<◌, List, [], ◌++◌, length, take, get_or, refl, ap, ◌∙◌, subst}
use Rattle.std.proofs.Common.{append_assoc}
use Rattle.sha2.specs.Hashers.{Holds384}
use Rattle.sha2.specs.declared.Sha384.{Sha384}
use Rattle.dbe_values.specs.declared.value.AttrValue.{AttrValue}
use Rattle.dbe_frame.specs.Record.{entries_text, entry_text}
use Rattle.dbe_frame.proofs.Entries.{entries_none, entries_more}
use Rattle.dbe_item.specs.Digest.{Feeds}

feeds_two : (a b c : Sha384) (x y z : List ℕ) → Feeds a b x → Feeds b c y → x ++ y ≡ z → Feeds a c z
feeds_two a b c x y z f g is = record {
  holds = λ before h. subst (Holds384 c) (append_assoc before x y ∙ ap (λ t. before ++ t) is)
      (g.holds (before ++ x) (f.holds before h));
}

module _ (table : List ℕ) (row : List (List ℕ × AttrValue)) where
  pub feeds_none : (a : Sha384) → Feeds a a (entries_text table row [] [])
  feeds_none a = record { holds = λ before h. subst (Holds384 a) (entries_none table row before) h }

  pub feeds_more : (a b c : Sha384) (i : ℕ) (names : List (List ℕ)) (legend : List ℕ) (name : List ℕ) →
      i < length names → length legend ≡ length names → name ≡ get_or names i name →
      Feeds a b (entries_text table row (take i names) (take i legend)) →
      Feeds b c (entry_text table row name (get_or legend i 0)) →
      Feeds a c (entries_text table row (take (i + 1) names) (take (i + 1) legend))
  feeds_more a b c i names legend name lt same is f g =
      feeds_two a b c (entries_text table row (take i names) (take i legend)) (entry_text table row name
      (get_or legend i 0)) (entries_text table row (take (i + 1) names) (take (i + 1) legend)) f g
      (entries_more table row i names legend name [] (entries_text table row (take i names) (take i legend)) _ lt same
      is refl refl)
