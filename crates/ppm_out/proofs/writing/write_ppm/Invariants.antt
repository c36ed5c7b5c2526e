use Rattle.std.proofs.Common.{◌≡◌, length}
use Rattle.std.specs.Io.KnownBytes.{append_known}
use Rattle.pf_io.specs.Causes.{Calm}
use Rattle.ppm_out.proofs.Sending.{sent_before}
use Rattle.ppm_out.proofs.writing.write_ppm.Given as goal

-- the header and the bands above this one went out, and no fault came
abbrev pub invariant-loop-i : goal.invariant-loop-i
invariant-loop-i g l = record {
  count : l.written ≡ length (sent_before l.image l.i);
  sent : g.S.Sink.written l.sink ≡ append_known (g.S.Sink.written l.fn.sink) (sent_before l.image l.i);
  calm : Calm (g.S.Sink.faults l.fn.sink) (g.S.Sink.faults l.sink);
  last : g.S.Sink.at_fault l.sink ≡ g.S.Sink.at_fault l.fn.sink;
}
