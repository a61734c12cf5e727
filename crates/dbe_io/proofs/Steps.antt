-- The steps of one call of a reader of lines, one after another.
use Rattle.std.proofs.Common.{◌≡◌, ◌≢◌, Vec, Result, Ok, Err, IfOk, OnOk, IfSome, IfNone, ℕ, ◌+◌, ◌<◌, ◌≤◌, ◌⊎◌, true}
use Rattle.std.proofs.Common.{false, List, [], ◌∷◌, ◌++◌, length, Some, None, inl, inr, refl, sym, ap, subst, ◌∙◌}
use Rattle.std.proofs.Common.{arith, append_assoc, append-nil, length-append}
use Rattle.std.specs.declared.option.Option.{Option}
use Rattle.std.specs.declared.alloc.Global.{Global}
use Rattle.std.specs.Io.KnownBytes.{IsAtEnd, Keeps}
use Rattle.std.proofs.lemmas.Bool.{false≢true}
use Rattle.std.proofs.KnownBytes.{Consumes-nil, Consumes-trans, Consumes-kept}
use Rattle.dbe_io.specs.declared.lines.LineFault.{LineFault}
use Rattle.dbe_io.specs.declared.lines.LineFault.TheVariants.{Memory, Read}
use Rattle.dbe_io.specs.Reading.{LineReaderState, Given, IsCause, most_of}
use Rattle.dbe_io.specs.Steps.{Took, Refused, IsLineAt, IsOpen}
use Rattle.dbe_io.specs.Lines.{first_piece, HasNone}
use Rattle.dbe_io.proofs.Pieces.{HasNone-first, HasNone-front, HasNone-whole}

pub Took-nothing : (r : LineReaderState) (left : Option (List ℕ)) → Took r r left left
Took-nothing r left = record {
  moved = [];
  moves = record { gone = Consumes-nil left; taken = omega arith; limit = refl; total = refl };
  held = sym (append-nil r.held);
  fault_is = refl;
  ended_is = refl;
}

pub Took-trans : (a b c : LineReaderState) (l l' l'' : Option (List ℕ)) → Took a b l l' → Took b c l' l'' →
    Took a c l l''
Took-trans a b c l l' l'' p q = record {
  moved = p.moved ++ q.moved;
  moves = record {
    gone = Consumes-trans l l' l'' p.moved q.moved p.moves.gone q.moves.gone;
    taken = let e : c.taken ≡ b.taken + length q.moved = q.moves.taken in let f : b.taken ≡ a.taken + length p.moved =
        p.moves.taken in omega (arith, length-append p.moved q.moved);
    limit = q.moves.limit ∙ p.moves.limit;
    total = q.moves.total ∙ p.moves.total;
  };
  held = q.held ∙ ap (λ h. h ++ q.moved) p.held ∙ append_assoc a.held p.moved q.moved;
  fault_is = q.fault_is ∙ p.fault_is;
  ended_is = q.ended_is ∙ p.ended_is;
}

-- what was held before had no newline
pub Took-open : (a b : LineReaderState) (l l' : Option (List ℕ)) → Took a b l l' → IsOpen b → HasNone 10 a.held
Took-open a b l l' p is_open =
    HasNone-front a.held p.moved (subst (HasNone 10) p.held (HasNone-whole b.held is_open.searched))

-- what lies within the total stays the same
pub Took-most : (a b : LineReaderState) (l l' : Option (List ℕ)) → Took a b l l' → most_of b ≡ most_of a
Took-most a b l l' p = rw (p.held, p.moves.total, p.moves.taken) (omega (arith, length-append a.held p.moved))

-- a call that stops here
pub Refused-here : (a b : LineReaderState) (l l' : Option (List ℕ)) (fault : LineFault) → Took a b l l' →
    IsCause b.limit (most_of b) b.held fault → Refused a b l l' fault
Refused-here a b l l' fault p cause =
    let most : most_of b ≡ most_of a = Took-most a b l l' p in
    let Q : ℕ → ℕ → Type 0 = λ limit m. IsCause limit m b.held fault in
    record {
      moved = p.moved;
      moves = p.moves;
      held = p.held;
      fault_is = p.fault_is;
      ended_is = p.ended_is;
      cause = subst (λ (limit : ℕ). Q limit (most_of a)) p.moves.limit (subst (Q b.limit) most cause);
    }

-- a call that stops at a read, which left the source as it was
pub Refused-kept : (a b : LineReaderState) (l l' l'' : Option (List ℕ)) (fault : LineFault) → Refused a b l l' fault →
    Keeps l' l'' → Refused a b l l'' fault
Refused-kept a b l l' l'' fault p kept = record {
  moved = p.moved;
  moves = record {
    gone = Consumes-kept l l' l'' p.moved p.moves.gone kept;
    taken = p.moves.taken;
    limit =
        p.moves.limit;
    total = p.moves.total;
  };
  held = p.held;
  fault_is = p.fault_is;
  ended_is = p.ended_is;
  cause = p.cause;
}

-- what was held with what was taken is no more than was held then
few_before : (old mid : LineReaderState) (l l' : Option (List ℕ)) (p : Took old mid l l') →
    length mid.held ≤ mid.limit + 1 → length (old.held ++ p.moved) ≤ old.limit + 1
few_before old mid l l' p few = rw (← p.held, ← p.moves.limit) few

-- the reader gave a line that a newline ends
pub Given-line : (old mid new : LineReaderState) (l l' : Option (List ℕ)) (at : ℕ) (r : Result (Option (Vec ℕ Global))
    LineFault)
    → old.fault ≡ None → old.ended ≡ false → Took old mid l l' → IsLineAt mid at → length mid.held ≤ mid.limit + 1
    → IfOk r (λ line. line ≢ None) → IfOk r (λ line. IfSome line (λ v. mid.held ≡ v.items ++ 10 ∷ new.held)) →
    IfOk r (λ line. IfSome line (λ v. v.items ≡ first_piece mid.held))
    → OnOk r (new ≡ record mid { held = new.held }) → IfOk r (Given old new l l')
Given-line old mid new l l' at (Ok None) no_fault unended p is_line held_few some whole first same = absurd (some refl)
Given-line old mid new l l' at (Ok (Some v)) no_fault unended p is_line held_few some whole first same =
    let most : most_of mid ≡ most_of old = Took-most old mid l l' p in
    let size : length v.items ≡ at = ap length first ∙ is_line.ends.place in
    let short : at ≤ mid.limit = is_line.short in
    let within : at < most_of mid = is_line.within in
    let limit : mid.limit ≡ old.limit = p.moves.limit in
    record {
      no_fault = no_fault;
      none_now = ap (λ (r : LineReaderState). r.fault) same ∙ p.fault_is ∙ no_fault;
      moved = p.moved;
      moves = record {
        gone = p.moves.gone;
        taken = ap (λ (r : LineReaderState). r.taken) same ∙ p.moves.taken;
        limit = ap (λ (r : LineReaderState). r.limit) same ∙ p.moves.limit;
        total = ap (λ (r : LineReaderState). r.total) same ∙ p.moves.total;
      };
      given = (
        subst (HasNone 10) (sym first) (HasNone-first mid.held),
        inl record {
          whole = sym p.held ∙ whole;
          short = omega arith;
          within = omega arith;
        },
      );
      few = few_before old mid l l' p held_few;
      at_end = λ is was. absurd (false≢true (sym (ap (λ (r : LineReaderState). r.ended) same ∙ p.ended_is ∙ unended) ∙
          is));
    }
Given-line old mid new l l' at (Err fault) no_fault unended p is_line held_few some whole first same = tt

-- the reader gave the last piece, or none
pub Given-last : (old mid new : LineReaderState) (l l' : Option (List ℕ)) (r : Result (Option (Vec ℕ Global)) LineFault)
    → old.fault ≡ None → Took old mid l l' → IsOpen mid → IsAtEnd l'
    → IfOk r (λ line. IfNone line (mid.held ≡ [])) → IfOk r (λ line. IfSome line (λ v. (v.items ≡ mid.held) ×
    (0 < length v.items)))
    → OnOk r (new ≡ record mid { held = []; ended = true }) → IfOk r (Given old new l l')
Given-last old mid new l l' (Ok None) no_fault p is_open end none some same = record {
  no_fault = no_fault;
  none_now = ap (λ (r : LineReaderState). r.fault) same ∙ p.fault_is ∙ no_fault;
  moved = p.moved;
  moves = record {
    gone = p.moves.gone;
    taken = ap (λ (r : LineReaderState). r.taken) same ∙ p.moves.taken;
    limit = ap (λ (r : LineReaderState). r.limit) same ∙ p.moves.limit;
    total = ap (λ (r : LineReaderState). r.total) same ∙ p.moves.total;
  };
  given = (sym p.held ∙ none, ap (λ (r : LineReaderState). r.held) same, ap (λ (r : LineReaderState). r.ended) same);
  few = few_before old mid l l' p (let short : length mid.held ≤ mid.limit = is_open.short in omega arith);
  at_end = λ is was. end;
}
Given-last old mid new l l' (Ok (Some v)) no_fault p is_open end none some same =
    let most : most_of mid ≡ most_of old = Took-most old mid l l' p in
    let size : length v.items ≡ length mid.held = ap length some.0 in
    let short : length mid.held ≤ mid.limit = is_open.short in
    let within : length mid.held ≤ most_of mid = is_open.within in
    let limit : mid.limit ≡ old.limit = p.moves.limit in
    record {
      no_fault = no_fault;
      none_now = ap (λ (r : LineReaderState). r.fault) same ∙ p.fault_is ∙ no_fault;
      moved = p.moved;
      moves = record {
        gone = p.moves.gone;
        taken = ap (λ (r : LineReaderState). r.taken) same ∙ p.moves.taken;
        limit = ap (λ (r : LineReaderState). r.limit) same ∙ p.moves.limit;
        total = ap (λ (r : LineReaderState). r.total) same ∙ p.moves.total;
      };
      given = (
        subst (HasNone 10) (sym some.0) (HasNone-whole mid.held is_open.searched),
        inr record {
          whole = sym p.held ∙ sym some.0;
          some = some.1;
          none_left = ap (λ (r : LineReaderState). r.held) same;
          ended = ap (λ (r : LineReaderState). r.ended) same;
          short = omega arith;
          within = omega arith;
        },
      );
      few = few_before old mid l l' p (omega arith);
      at_end = λ is was. end;
    }
Given-last old mid new l l' (Err fault) no_fault p is_open end none some same = tt

-- nothing that is held is a cause but out of memory and the source
pub IsCause-open : (r : LineReaderState) (fault : LineFault) → IsOpen r → (fault ≡ Memory) ⊎ (fault ≡ Read) →
    IsCause r.limit (most_of r) r.held fault
IsCause-open r fault is_open (inl is) = rw is tt
IsCause-open r fault is_open (inr is) =
    let piece : length (first_piece r.held) ≡ length r.held = ap length is_open.searched in
    let short : length r.held ≤ r.limit = is_open.short in
    let within : length r.held ≤ most_of r = is_open.within in
    rw is (
      HasNone-whole r.held is_open.searched,
      λ long. absurd (let past : r.limit < length (first_piece r.held) =
          long.0 in omega arith),
      λ much. absurd (let more : most_of r < length r.held = much.more in omega arith),
    )
