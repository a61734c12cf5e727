use Rattle.std.proofs.Common.{rules, ◌≡◌, ◌∙◌, refl, sym, ap, [], inl, inr, ◌++◌}
use Rattle.std.proofs.lemmas.Bool.{false≢true}
use Rattle.dbe_io.specs.Reading.{LineReaderState}
use Rattle.dbe_io.specs.declared.lines.LineFault.TheVariants as f
use Rattle.dbe_serve.specs.declared.status.Status.TheVariants as s
use Rattle.dbe_serve.proofs.ReadSoFar.{ReadSoFar-start, ReadSoFar-more}
use Rattle.dbe_serve.proofs.Halted.{gave_up, too_long, has_long_line}
use Rattle.dbe_serve.proofs.Served.{Served-start, Served-more, Served-done, stopped_first, stopped_read, stopped_memory}
use Rattle.dbe_serve.proofs.Served.{stopped_long, stopped_much, stopped_write, stopped_in_reply}
use Rattle.dbe_serve.proofs.top.serve_lines.Goals as goal

pub returns-in_default-clause-stopped : goal.returns-in_default-clause-stopped
returns-in_default-clause-stopped g c = λ _ bytes e start told is. stopped_first c.args.session.now e bytes start _ _
    told refl refl is

pub lines-init : goal.lines-init
lines-init g c =
    let is = c.in-Ok.ensures in
    record {
      run = λ bytes e start told state. Served-start c.args.session.now e bytes start c.in-Ok.reader _ _
          (ReadSoFar-start 1048576 1073741824 bytes c.in-Ok.reader _ is told) state;
      script = λ bytes told. ([], ReadSoFar-start 1048576 1073741824 bytes c.in-Ok.reader _ is told);
      at_end = λ e. absurd (false≢true (sym (ap (λ (r : LineReaderState). r.ended) is) ∙ e));
      no_fault = ap (λ (r : LineReaderState). r.fault) is;
      begun = refl;
      read = refl;
      table = refl;
      write = refl;
      idle = refl;
      dice = refl;
    }

pub returns-in-Ok-None-clause-done : goal.returns-in-Ok-None-clause-done
returns-in-Ok-None-clause-done g c = λ _ bytes e start told is.
    Served-done _ e bytes start _ c.next.new.self _ _ _ _ _ (c.lines.invariant.run bytes e start told is)
    (rw c.in-Ok-None.field-0-is at c.in-Ok-None.ensures.line) c.lines.invariant.at_end refl c.finished.ensures.same

pub returns-in-Ok-None-clause-stopped : goal.returns-in-Ok-None-clause-stopped
returns-in-Ok-None-clause-stopped g c = λ ne bytes e start told is.
    let write : c.finished.result ≡ s.Write =
    elim c.finished.ensures.cases [ inl done ↦ absurd (ne done) | inr write ↦ write ] in
    stopped_write c.args.session.now e bytes start _ c.next.new.self _ _ _ _ _ (c.lines.invariant.run bytes e start
    told is) c.lines.invariant.no_fault c.next.ensures.within refl c.finished.ensures.same refl c.finished.result
    write (rw c.in-Ok-None.field-0-is at c.in-Ok-None.ensures.line) c.lines.invariant.at_end

pub returns-in-Err-Read-clause-stopped : goal.returns-in-Err-Read-clause-stopped
returns-in-Err-Read-clause-stopped g c = λ _ bytes e start told is.
    stopped_read _ e bytes start _ c.next.new.self _ _ _ _ _ (c.lines.invariant.run bytes e start told is)
    c.lines.invariant.no_fault c.next.ensures.within refl refl refl (rw c.in-Err-Read.field-0-is at
    c.in-Err-Read.ensures.stop)

pub returns-in-Err-LineTooLong-clause-stopped : goal.returns-in-Err-LineTooLong-clause-stopped
returns-in-Err-LineTooLong-clause-stopped g c = λ _ bytes e start told is.
    stopped_long _ e bytes start _ c.next.new.self _ _ _ _ _ (c.lines.invariant.run bytes e start told is)
    c.lines.invariant.no_fault c.next.ensures.within refl refl refl (rw c.in-Err-LineTooLong.field-0-is at
    c.in-Err-LineTooLong.ensures.stop)

pub returns-in-Err-LineTooLong-clause-long_line : goal.returns-in-Err-LineTooLong-clause-long_line
returns-in-Err-LineTooLong-clause-long_line g c = λ _ bytes told.
    let q = c.lines.invariant.script bytes told in
    let gave = gave_up _ c.next.new.self _ _ f.LineTooLong c.lines.invariant.no_fault
    (rw c.in-Err-LineTooLong.field-0-is at c.in-Err-LineTooLong.ensures.stop) in
    has_long_line bytes q.1.prefix (c.lines.reader.held ++ q.1.to_come) q.0 _ q.1.lines_are
    (too_long 1048576 1073741824 bytes _ c.next.new.self _ _ q.0 q.1 gave)

pub returns-in-Err-TooMuch-clause-stopped : goal.returns-in-Err-TooMuch-clause-stopped
returns-in-Err-TooMuch-clause-stopped g c = λ _ bytes e start told is.
    stopped_much _ e bytes start _ c.next.new.self _ _ _ _ _ (c.lines.invariant.run bytes e start told is)
    c.lines.invariant.no_fault c.next.ensures.within refl refl refl (rw c.in-Err-TooMuch.field-0-is at
    c.in-Err-TooMuch.ensures.stop)

pub returns-in-Err-Memory-clause-stopped : goal.returns-in-Err-Memory-clause-stopped
returns-in-Err-Memory-clause-stopped g c = λ _ bytes e start told is.
    stopped_memory _ e bytes start _ c.next.new.self _ _ _ _ _ (c.lines.invariant.run bytes e start told is)
    c.lines.invariant.no_fault c.next.ensures.within refl refl refl (rw c.in-Err-Memory.field-0-is at
    c.in-Err-Memory.ensures.stop)

pub returns-in-Err-clause-stopped : goal.returns-in-Err-clause-stopped
returns-in-Err-clause-stopped g c = λ _ bytes e start told is.
    stopped_in_reply _ e c.in-Err.status bytes start _ c.next.new.self _ _ _ _ _ c.in-Ok-Some.line
    c.in-Err.ensures.of_reply (c.lines.invariant.run bytes e start told is) (rw c.in-Ok-Some.field-0-is at
    c.in-Ok-Some.ensures.line) c.lines.invariant.at_end refl
    (λ state at. rw (← c.deref.ensures.value) (c.in-Err.ensures.err e state at))

pub lines-preserved : goal.lines-preserved
lines-preserved g c =
    let given = rw c.in-Ok-Some.field-0-is at c.in-Ok-Some.ensures.line in
    let inv = c.lines.invariant in
    record {
      run = λ bytes e start told is.
          Served-more _ e bytes start _ c.next.new.self _ _ _ _ _ c.in-Ok-Some.line (inv.run bytes e start told is)
          given inv.at_end (λ state at. rw (← c.deref.ensures.value) (c.in_default-reply.ensures.ok e state at));
      script = λ bytes told. let q = inv.script bytes told in let n =
          ReadSoFar-more 1048576 1073741824 bytes _ c.next.new.self _ _ q.0 c.in-Ok-Some.line q.1 given inv.at_end in
          (_, n.so_far);
      at_end = λ e. given.at_end e inv.at_end;
      no_fault = given.none_now;
      begun = c.reply.ensures.begun ∙ inv.begun;
      read = search rules;
      table = search rules;
      write = search rules;
      idle = search rules;
      dice = search rules;
    }
