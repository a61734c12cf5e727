use Rattle.std.proofs.Common.{◌≡◌, List, ℕ, Some, None, true}
use Rattle.std.specs.Io.KnownBytes.{IsAtEnd}
use Rattle.dbe_io.specs.Reading.{budget}
use Rattle.dbe_session.specs.Reply.{Environment, State}
use Rattle.dbe_session.specs.Steps.{IsState, told}
use Rattle.dbe_serve.specs.Worlds.{progress_of}
use Rattle.dbe_serve.proofs.ReadSoFar.{ReadSoFar}
use Rattle.dbe_serve.proofs.Served.{Served}
use Rattle.dbe_serve.proofs.top.serve_lines.Given as goal

abbrev pub invariant-lines : goal.invariant-lines
invariant-lines g l =
    let S = g.S.Source in
    let O = g.O.Sink in
    let T = g.T.Table in
    let D = g.D.Dice in
    record {
      run : (bytes : List ℕ) (e : Environment) (start : State) → S.left l.fn.script ≡ Some bytes →
          IsState l.fn.session (told (T.rows l.fn.table) (T.given l.fn.table) (D.left l.fn.dice)) e start
          → Served l.fn.session e bytes start l.reader (S.left l.script) (progress_of S O T D l.fn.script l.fn.out
          l.fn.table l.fn.dice) (progress_of S O T D l.script l.out l.table l.dice);
      script : (bytes : List ℕ) → S.left l.fn.script ≡ Some bytes → (lines : List (List ℕ)) ×
          ReadSoFar 1048576 1073741824 bytes l.reader (S.left l.script) lines;
      at_end : l.reader.ended ≡ true → IsAtEnd (S.left l.script);
      no_fault : l.reader.fault ≡ None;
      begun : T.begun l.table ≡ T.begun l.fn.table;
      read : S.faults l.script ≡ S.faults l.fn.script;
      table : T.faults l.table ≡ T.faults l.fn.table;
      write : O.faults l.out ≡ O.faults l.fn.out;
      idle : O.idle l.out ≡ O.idle l.fn.out;
      dice : D.faults l.dice ≡ D.faults l.fn.dice;
    }

abbrev pub decreases-lines : goal.decreases-lines
decreases-lines g l = budget l.reader
