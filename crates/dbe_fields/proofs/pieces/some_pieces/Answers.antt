use Rattle.std.proofs.Common.{◌≡◌, ℕ, List, ◌+◌, ◌-◌, length, subst, take, drop, ap, ◌∙◌, w32}
use Rattle.std.specs.List.{join_with_byte}
use Rattle.std.proofs.lemmas.List.{take_rest}
use Rattle.std.proofs.lemmas.Int.{to_z-of_z}
use Rattle.dbe_fields.specs.Places.{place_in}
use Rattle.dbe_fields.specs.Steps.{pieces}
use Rattle.dbe_fields.proofs.Cutting.{pieces_found}
use Rattle.dbe_fields.proofs.pieces.some_pieces.Goals as goal

pub returns-clause-pieces : goal.returns-clause-pieces
returns-clause-pieces c =
    let cut = c.args.cut in
    let ps = pieces cut c.args.text.now in
    let first : c.place_in-first.result ≡ place_in (length ps) c.args.from = c.place_in-first.ensures ∙
    ap (place_in c.piece_count-count.result) (to_z-of_z w32 c.args.from c.ranges.from) ∙
    ap (λ n. place_in n c.args.from) c.piece_count-count.ensures in
    let last : c.place_in-end.result ≡ place_in (length ps) c.args.to = c.place_in-end.ensures ∙
    ap (place_in c.piece_count-count.result) (to_z-of_z w32 c.args.to c.ranges.to) ∙
    ap (λ n. place_in n c.args.to) c.piece_count-count.ensures in
    pieces_found cut c.args.text.now c.place_in-first.result c.place_in-end.result c.piece_start-start.result
    c.piece_end-len.result c.if-end-first.false c.piece_start-start.ensures.rest
    (subst (λ (t : List ℕ). take c.piece_end-len.result t ≡ join_with_byte cut
    (take (c.place_in-end.result - c.place_in-first.result - 1 + 1) (pieces cut t))) (take_rest c.args.text.now
    c.piece_start-start.result) c.piece_end-len.ensures.front)
    ∙ ap (λ a. join_with_byte cut (take (c.place_in-end.result - a) (drop a ps))) first
    ∙ ap (λ b. join_with_byte cut (take (b - place_in (length ps) c.args.from)
    (drop (place_in (length ps) c.args.from) ps))) last
