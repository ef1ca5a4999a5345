-- What is seen of a line, as a value.
use Rattle.source_lines.specs.declared.beside.LineSight.{LineSight}
use Rattle.source_lines.specs.Beside.{Sight}

abbrev pub sight_of : LineSight → Sight
sight_of s = record { bytes = s.bytes.now; onset = s.onset; bytes_marked = s.length }
