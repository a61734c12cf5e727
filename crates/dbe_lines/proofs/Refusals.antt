-- No refusal of a put is its ok.
use Rattle.std.proofs.Common.{◌≡◌, ℕ, false, List, bytes_eq, codes, refl}
use Rattle.serde_json.proofs.OnLiterals.{serde_json_on_literals}
use Rattle.dbe_item.specs.declared.fault.PutFault.{PutFault}
use Rattle.dbe_item.specs.declared.fault.PutFault.TheVariants as p
use Rattle.dbe_lines.specs.Texts.{put_text, split_text, refused_text, put_refusal}

pub split_not_ok : (at : List ℕ × List ℕ) → bytes_eq (split_text at) put_text ≡ false
unfolding serde_json_on_literals
split_not_ok at = refl

pub not_ok : (fault : PutFault) → bytes_eq (put_refusal fault) put_text ≡ false
unfolding serde_json_on_literals
not_ok (p.Key name) = refl
not_ok (p.Reserved name) = refl
not_ok (p.Unknown name) = refl
not_ok p.TooMany = refl
not_ok p.Size = refl
not_ok p.Memory = refl

pub size_not_ok : bytes_eq (refused_text (codes "size")) put_text ≡ false
size_not_ok = not_ok p.Size
