use Rattle.std.proofs.Common.{◌≡◌, ℕ, List, ◌<◌, length, take, subst, ap, sym, ◌∙◌, arith, to_z, of_z, w32}
use Rattle.std.specs.List.{join_with_byte}
use Rattle.std.proofs.lemmas.List.{take_rest}
use Rattle.std.proofs.lemmas.Int.{to_z-of_z}
use Rattle.dbe_fields.specs.Steps.{pieces, piece_at}
use Rattle.dbe_fields.proofs.Cutting.{piece_found}
use Rattle.dbe_fields.proofs.pieces.one_piece.Goals as goal

pub returns-in-Some-clause-piece : goal.returns-in-Some-clause-piece
returns-in-Some-clause-piece c =
    let ps = pieces c.args.cut c.args.text.now in
    let place : to_z w32 (of_z w32 c.args.place) ≡ c.args.place = to_z-of_z w32 c.args.place c.ranges.place in
    let lt : c.in-Some.piece < length ps = omega (arith, c.in-Some.ensures.within, c.piece_count.ensures) in
    piece_found c.args.cut c.args.place c.args.text.now c.in-Some.piece c.piece_start-start.result
    c.piece_end-len.result lt c.piece_start-start.ensures.rest
    (subst (λ (t : List ℕ). take c.piece_end-len.result t ≡ join_with_byte c.args.cut (take 1 (pieces c.args.cut t)))
    (take_rest c.args.text.now c.piece_start-start.result) c.piece_end-len.ensures.front)
    (c.in-Some.ensures.piece ps (sym c.piece_count.ensures) ∙ ap (λ z. piece_at z ps) place)
