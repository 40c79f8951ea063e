-- What an initiator is to those who call it: a reader of its receiver's stream.
use Rattle.stream_reader.specs.declared.reader.StreamReader.{StreamReader}
use Rattle.initiator_machine.specs.declared.initiator.Initiator.{Initiator}

-- the reader that it is
unfoldable pub reader_of : Initiator → StreamReader
reader_of i = i.reader
