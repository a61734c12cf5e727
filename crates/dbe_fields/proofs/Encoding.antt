-- The bytes of characters.
use Rattle.std.proofs.Common.{◌≡◌, ℕ, ◌+◌, ◌<◌, List, [], ◌∷◌, ◌++◌, length, take, get_or, append_assoc, append-nil}
use Rattle.std.proofs.Common.{sym, ap, ◌∙◌, encode_utf8, encode_utf8_all}
use Rattle.std.proofs.lemmas.List.{take_more}
use Rattle.std.proofs.lemmas.Str.{encodes-append}

-- one character more
pub encoded_more : (start bytes xs : List ℕ) (i x : ℕ) → i < length xs → x ≡ get_or xs i x →
    bytes ≡ start ++ encode_utf8_all (take i xs) → bytes ++ encode_utf8 x ≡ start ++ encode_utf8_all (take (i + 1) xs)
encoded_more start bytes xs i x lt is before =
    let more : encode_utf8_all (take (i + 1) xs) ≡ encode_utf8_all (take i xs) ++ encode_utf8 x =
    ap encode_utf8_all (take_more xs i x lt ∙ ap (λ y. take i xs ++ y ∷ []) (sym is)) ∙
    encodes-append (take i xs) (x ∷ []) ∙ ap (λ e. encode_utf8_all (take i xs) ++ e) (append-nil (encode_utf8 x)) in
    ap (λ b. b ++ encode_utf8 x) before ∙ append_assoc start (encode_utf8_all (take i xs)) (encode_utf8 x) ∙
    ap (λ e. start ++ e) (sym more)
