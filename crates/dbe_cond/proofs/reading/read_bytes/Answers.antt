use Rattle.dbe_grammar.specs.Form.{form_of}
use Rattle.dbe_cond.proofs.Readings.{parses_ranges, lacks_name, lacks_value, all_known}
use Rattle.dbe_cond.proofs.reading.read_bytes.Goals as goal

pub returns-in-Err-clause-refused : goal.returns-in-Err-clause-refused
returns-in-Err-clause-refused c = c.in-Err.ensures.refused c.args.names.now c.args.values.now

pub unknown_name-requires : goal.unknown_name-requires
unknown_name-requires c = parses_ranges c.args.text.now c.in-Ok.parsed.tokens.items c.deref.result.now
    (form_of c.in-Ok.parsed.tree) c.in-Ok.ensures.ok c.deref.ensures.value

pub returns-in-Some-clause-refused : goal.returns-in-Some-clause-refused
returns-in-Some-clause-refused c =
    lacks_name c.args.text.now c.args.names.now c.in-Ok.parsed.tokens.items c.deref.result.now
    (form_of c.in-Ok.parsed.tree) c.has_long_list.result c.in-Some.name.now c.in_ok-copy_text-in-Some.field-0
    c.in-Ok.ensures.ok c.has_long_list.ensures c.if-has_long_list.false c.deref.ensures.value c.in-Some.ensures.some
    c.in_ok-copy_text-in-Some.ensures

pub unknown_value-requires : goal.unknown_value-requires
unknown_value-requires c = parses_ranges c.args.text.now c.in-Ok.parsed.tokens.items c.deref-in-None.result.now
    (form_of c.in-Ok.parsed.tree) c.in-Ok.ensures.ok c.deref-in-None.ensures.value

pub returns-in-Some-unknown_value-clause-refused : goal.returns-in-Some-unknown_value-clause-refused
returns-in-Some-unknown_value-clause-refused c =
    lacks_value c.args.text.now c.args.names.now c.args.values.now c.in-Ok.parsed.tokens.items c.deref.result.now
    c.deref-in-None.result.now (form_of c.in-Ok.parsed.tree) c.has_long_list.result
    c.in-Some-unknown_value.name.now c.in_ok-copy_text-in-Some-unknown_value.field-0 c.in-Ok.ensures.ok
    c.has_long_list.ensures c.if-has_long_list.false
    c.deref.ensures.value c.in-None.ensures.none c.deref-in-None.ensures.value c.in-Some-unknown_value.ensures.some
    c.in_ok-copy_text-in-Some-unknown_value.ensures

pub resolve-requires : goal.resolve-requires
resolve-requires c =
    all_known c.args.text.now c.args.names.now c.args.values.now c.in-Ok.parsed.tokens.items c.deref.result.now
    c.deref-in-None.result.now (form_of c.in-Ok.parsed.tree)
    c.in-Ok.ensures.ok c.deref.ensures.value c.in-None.ensures.none c.deref-in-None.ensures.value
    c.in-None-unknown_value.ensures.none
