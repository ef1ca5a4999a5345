use Rattle.streams.proofs.over.convert_counting.Goals as goal

pub returns : goal.returns
returns g c =
    let at = rw (c.new-source.ensures, c.new.ensures, c.new-out.ensures, c.new-2.ensures) at c.convert-end.ensures.part in
    record {
      ended = c.convert-end.new.devices.source.ended;
      counts = record { source = c.convert-end.new.devices.source.failures; out = c.convert-end.new.devices.out.failures; rec = 0 };
      converts = rw (c.into_reader.ensures, c.into_writer.ensures) at;
    }
