use Rattle.devices.specs.Choice.{count_either}
use Rattle.streams.proofs.over.play_counting.Goals as goal

pub returns : goal.returns
returns g c = record {
  ended = c.play-end.new.devices.source.ended;
  counts = record {
    source = c.play-end.new.devices.source.failures;
    out = c.play-end.new.devices.out.failures;
    rec = count_either (λ w. w.failures) (λ _. 0) c.play-end.new.devices.rec;
  };
  whole = λ h.
      let at = rw (c.new-source.ensures, c.new.ensures, c.new-out.ensures, c.new-2.ensures, c.recorder-rec.ensures.known, c.recorder-rec.ensures.count) at (c.play-end.ensures.whole h) in
      rw (c.into_reader.ensures, c.into_writer.ensures, c.recorded.ensures) at;
  quiet = λ h. rw (c.new-source.ensures, c.new.ensures, c.new-out.ensures, c.new-2.ensures, c.recorder-rec.ensures.count) at (c.play-end.ensures.quiet h);
  broken = λ h.
      let at = rw (c.new-source.ensures, c.new.ensures, c.new-out.ensures, c.new-2.ensures, c.recorder-rec.ensures.known, c.recorder-rec.ensures.count) at (c.play-end.ensures.broken h) in
      rw (c.into_reader.ensures, c.into_writer.ensures, c.recorded.ensures) at;
}
