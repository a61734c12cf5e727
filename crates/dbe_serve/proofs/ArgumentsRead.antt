-- The first arguments, read one after another.
use Rattle.std.proofs.Common.{◌≡◌, ℕ, ◌+◌, zero, suc, List, [], ◌∷◌, ◌++◌, map, take, String, string_bytes, Some}
use Rattle.std.proofs.Common.{None, slice_get, ap, ◌∙◌, sym, arith, subst}
use Rattle.std.specs.declared.alloc.Global.{Global}
use Rattle.std.specs.List.{All}
use Rattle.std.proofs.lemmas.List.{map-append, take_all}
use Rattle.std.proofs.lemmas.List.Elements.{All-push}
use Rattle.dbe_serve.specs.Arguments.{IsReadable, AreRead}
use Rattle.dbe_serve.specs.ArgumentSteps.{IsReadAt}

-- the first told arguments and the next one are one more
take_next : (told : List (List ℕ)) (place : ℕ) (argument : List ℕ) → slice_get told place ≡ Some argument →
    take (suc place) told ≡ take place told ++ argument ∷ []
take_next [] place argument is = (cc)
take_next (a ∷ told) zero argument is = (cc)
take_next (a ∷ told) (suc place) argument is = ap (λ l. a ∷ l) (take_next told place argument is)

-- what was read is the first told arguments, and each of them can be read
pub record AreReadTo (told : List (List ℕ)) (place : ℕ) (read : List (String Global)) : Type 0 where
  pub same : map (λ s. string_bytes s) read ≡ take place told
  pub readable : All IsReadable (take place told)

-- one argument more was read
pub AreReadTo-more : (told : List (List ℕ)) (place : ℕ) (read read' : List (String Global)) (argument : String Global)
    → AreReadTo told place read → IsReadAt told place (Some argument) → read' ≡ read ++ argument ∷ []
    → AreReadTo told (place + 1) read'
AreReadTo-more told place read read' argument p next is =
    let one : place + 1 ≡ suc place = omega arith in
    let more = ap (λ n. take n told) one ∙ take_next told place (string_bytes argument) next.0 in
    let P : List (List ℕ) → Type 0 = All IsReadable in
    record {
      same = ap (map (λ s. string_bytes s)) is ∙ map-append (λ s. string_bytes s) read (argument ∷ []) ∙
          ap (λ l. l ++ string_bytes argument ∷ []) p.same ∙ sym more;
      readable = subst P (sym more) (All-push IsReadable (take place told) (string_bytes argument) p.readable next.1);
    }

-- all arguments were read where there is none at the next place
pub AreReadTo-all : (told : List (List ℕ)) (place : ℕ) (read : List (String Global)) → AreReadTo told place read →
    IsReadAt told place None → AreRead told (map (λ s. string_bytes s) read)
AreReadTo-all told place read p none =
    let all = take_all place told none in
    let P : List (List ℕ) → Type 0 = All IsReadable in
    record { same = p.same ∙ all; readable = subst P all p.readable }
