use Rattle.std.proofs.Common.{◌≡◌, true, false, ap, ◌∙◌, length, arith}
use Rattle.std.proofs.lemmas.List.{length-take-le}
use Rattle.dbe_gcm.proofs.Ranges.{length-streamed}
use Rattle.dbe_rawring.specs.Wrap.{inner_wrap, wrapping_key}
use Rattle.dbe_rawring.proofs.Wraps.{authentic_inner}
use Rattle.dbe_rawring.proofs.inner.unwrap_inner.Goals as goal

pub returns-in-Some-clause-opened : goal.returns-in-Some-clause-opened
unfolding inner_wrap
returns-in-Some-clause-opened c =
    let w = c.args.wrapped.now in
    let key : c.wrapping_key.result ≡ wrapping_key c.args.intermediate.now =
    c.wrapping_key.ensures c.args.intermediate.now c.extract-prk.ensures in
    let size : length c.in-Some.key ≡ 32 = ap length c.in-Some.ensures.deciphered ∙ length-streamed _ _ _
    ∙ length-take-le 32 w (omega arith) in
    record { size = size; wraps = rw key at c.in-Some.ensures.wrapped }

pub returns-in-None-clause-tag : goal.returns-in-None-clause-tag
returns-in-None-clause-tag c =
    let key : c.wrapping_key.result ≡ wrapping_key c.args.intermediate.now =
    c.wrapping_key.ensures c.args.intermediate.now c.extract-prk.ensures in
    rw key at c.in-None.ensures.authentic

pub returns-in-None-clause-none : goal.returns-in-None-clause-none
returns-in-None-clause-none c = λ e data_key u.
    let key : c.wrapping_key.result ≡ wrapping_key c.args.intermediate.now =
    c.wrapping_key.ensures c.args.intermediate.now c.extract-prk.ensures in
    let right = authentic_inner c.args.intermediate.now c.args.context.now c.args.wrapped.now data_key u in
    let tested = rw key at c.in-None.ensures.authentic in
    let no : false ≡ true = tested.1 right in
    cc
